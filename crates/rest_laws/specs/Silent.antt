-- Where no editor speaks, no ready start is told of a document.
use Rattle.std.specs.Prelude.{◌≡◌, ℕ, Bool, true, false, ◌||◌, List, [], ◌∷◌, ◌++◌}
use Rattle.std.specs.List.{AllByRecursion, list_any}
use Rattle.mux_history.specs.declared.cause.Cause.{Cause}
use Rattle.mux_history.specs.declared.cause.Cause.TheVariants.{FromEditor, EditorGone}
use Rattle.mux_history.specs.declared.entry.Entry.{Entry}
use Rattle.mux_history.specs.declared.out.Out.{Out}
use Rattle.mux_history.specs.declared.out.Out.TheVariants.{ToServer, CloseEditor}
use Rattle.rpc_message.specs.Message.{message_of}
use Rattle.document_model.specs.Sayings.{saying_of}
use Rattle.document_model.specs.Sayings as saying
use Rattle.event_model.specs.Event.{events_of}
use Rattle.event_model.specs.Stages.{is_ready, life_of}

-- an editor says something, or its link ended
abbrev pub is_of_editor : Cause → Bool
is_of_editor (FromEditor e body) = true
is_of_editor (EditorGone e why) = true
is_of_editor other = false

-- an editor's link is to be ended
abbrev pub is_closing : Out → Bool
is_closing (CloseEditor e) = true
is_closing other = false

abbrev pub stirs : Entry → Bool
stirs entry = is_of_editor entry.cause || list_any is_closing entry.outs

-- it is no notification on a document, where it goes to this start
abbrev pub IsSilent : ℕ → Out → Type 0
IsSilent s (ToServer n body) = n ≡ s → saying_of (message_of body) ≡ saying.nothing
IsSilent s other = Unit {0}

-- in each of these entries in which no editor speaks and none's link ends or is to be ended, each start that was ready before is told of no document
abbrev pub SilentFrom : List Entry → List Entry → Type 0
SilentFrom before [] = Unit {0}
SilentFrom before (entry ∷ rest) =
    (stirs entry ≡ false → (s : ℕ) → is_ready (life_of s (events_of before)).stage ≡ true → AllByRecursion (IsSilent s) entry.outs) × SilentFrom (before ++ entry ∷ []) rest

abbrev pub Silent : List Entry → Type 0
Silent history = SilentFrom [] history
