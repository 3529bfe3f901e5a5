-- When the documents that are kept follow what editors have and what the start was told.
use Rattle.std.specs.Prelude.{◌≡◌, ℕ, List, fold}
use Rattle.std.specs.Prelude.{Option, Some, None}
use Rattle.mux_history.specs.declared.out.Out.{Out}
use Rattle.mux_history.specs.declared.out.Out.TheVariants.{ToServer}
use Rattle.document_model.specs.rpc_message.specs.Message.{message_of}
use Rattle.position_codec.specs.declared.Encoding.{Encoding}
use Rattle.document_model.specs.Opens.{Open, holder}
use Rattle.focus_switch.specs.Documents.{Documents, version_held}
use Rattle.document_model.specs.Helds.{HeldText, told}
use Rattle.document_model.specs.Rows.{Agrees}
use Rattle.document_model.specs.Sayings.{saying_of}
use Rattle.document_model.specs.Texts.{Texts}

-- the version that is kept, the holder, and what the start has
abbrev pub Matches : Option ℕ → Option Open → Option HeldText → Type 0
Matches (Some v) (Some o) (Some h) = (h.version ≡ v) × Agrees o h
Matches None None None = Unit {0}
Matches _ _ _ = ⊥

-- what the editors have open, by the documents that are kept
abbrev pub texts_in : Documents → Texts
texts_in s = record { turn = s.turn; opens = s.opens }

-- what a ready start has of each document is the holder's text, in the holder's language, under the version that is kept
abbrev pub Held : Documents → (List ℕ → Option HeldText) → Type 0
Held s held = (u : List ℕ) → Matches (version_held u s.helds) (holder u s.opens) (held u)

-- what the start has behind these outs
abbrev pub told_out : Option Encoding → List ℕ → Option HeldText → Out → Option HeldText
told_out encoding u h (ToServer s body) = told encoding u h (saying_of (message_of body))
told_out encoding u h other = h

abbrev pub told_outs : Option Encoding → List ℕ → Option HeldText → List Out → Option HeldText
told_outs encoding u h outs = fold (told_out encoding u) h outs
