-- Each message that goes on behind a sync stands on its editor's own texts, and a start has of each document what its holder has (LSP 3.17, Text Document Synchronization).
use Rattle.std.specs.Prelude.{◌≡◌, ℕ, true, List, [], ◌∷◌, ◌++◌}
use Rattle.std.specs.Prelude.{Option, Some, None}
use Rattle.mux_history.specs.declared.entry.Entry.{Entry}
use Rattle.mux_history.specs.declared.out.Out.{Out}
use Rattle.mux_history.specs.declared.out.Out.TheVariants.{ToServer}
use Rattle.rpc_message.specs.Message.{message_of}
use Rattle.document_model.specs.Helds.{HeldText}
use Rattle.document_model.specs.Opens.{Open, holder}
use Rattle.document_model.specs.Rows.{Agrees}
use Rattle.document_model.specs.Texts.{found}
use Rattle.event_model.specs.Event.{Event, events_of, said, with_cause}
use Rattle.event_model.specs.Settings.{Settings}
use Rattle.event_model.specs.Spawns.{group_of, start_of}
use Rattle.event_model.specs.Stages.{is_ready, life_of}
use Rattle.mux_model.specs.Documents.{held_at}
use Rattle.group_rows.specs.Texts.{is_synced, texts_of, toucher_of}

-- a start that has this of a document agrees with an editor
abbrev pub HasOwn : Open → Option HeldText → Type 0
HasOwn o None = ⊥
HasOwn o (Some h) = Agrees o h

-- At a body that goes to s behind a sync: of each document that is open at the editor whose message is at work, or whose request has waited longest, s has the text of that editor in its language.
abbrev pub OnOwnTexts : Settings → List Event → Out → Type 0
OnOwnTexts settings events (ToServer s body) = is_synced (message_of body) ≡ true → (e g : ℕ) → toucher_of settings s events (message_of body) ≡ Some e → group_of s events ≡ Some g
    → (u : List ℕ) (o : Open) → found e u (texts_of settings g events) ≡ Some o → HasOwn o (held_at s u events)
OnOwnTexts settings events other = Unit {0}

-- at each of these outs, behind these events
abbrev pub AllOnOwnTexts : Settings → List Event → List Out → Type 0
AllOnOwnTexts settings events [] = Unit {0}
AllOnOwnTexts settings events (out ∷ outs) = OnOwnTexts settings events out × AllOnOwnTexts settings (events ++ said out ∷ []) outs

-- a start has just the documents that are open, each as its holder has it
abbrev pub HasHolders : Option Open → Option HeldText → Type 0
HasHolders None None = Unit {0}
HasHolders None (Some h) = ⊥
HasHolders (Some o) held = HasOwn o held

-- so do the ready ones, of what is open at the editors of their groups
abbrev pub AllHaveHolders : Settings → List Event → Type 0
AllHaveHolders settings events = (g s : ℕ) → start_of g events ≡ Some s → is_ready (life_of s events).stage ≡ true → (u : List ℕ) → HasHolders (holder u (texts_of settings g events).opens) (held_at s u events)

-- at each out of these entries, and behind each of them, behind those before them
abbrev pub OwnTextsFrom : Settings → List Entry → List Entry → Type 0
OwnTextsFrom settings before [] = Unit {0}
OwnTextsFrom settings before (entry ∷ rest) =
    AllOnOwnTexts settings (with_cause (events_of before) entry.cause) entry.outs × AllHaveHolders settings (events_of (before ++ entry ∷ [])) × OwnTextsFrom settings (before ++ entry ∷ []) rest

abbrev pub OwnTexts : Settings → List Entry → Type 0
OwnTexts settings history = OwnTextsFrom settings [] history
