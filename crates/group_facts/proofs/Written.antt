-- The daemon's own `initialize` to the starts of each group is a request with the number 1.
use Rattle.std.proofs.Common.{◌≡◌, ℕ, List, [], ◌∷◌, ◌++◌, codes, Option}
use Rattle.json_text.specs.Json.{Json}
use Rattle.mux_history.specs.declared.cause.Cause.{Cause}
use Rattle.mux_history.specs.declared.out.Out.{Out}
use Rattle.rpc_message.specs.Message.{integer, request, message_of}
use Rattle.rpc_message.specs.ValueTexts.{IsShallowText}
use Rattle.event_model.specs.Event.{Event, said, with_cause}
use Rattle.event_model.specs.Settings.{Settings}
use Rattle.group_words.specs.Houses.{declared_for, key_for}
use Rattle.group_words.specs.Placing.{founded}
use Rattle.group_words.specs.Rows.{folders_text, initialize_of}
use Rattle.group_words.proofs.Openings.{founded_folders, founded_opens, over_folders, over_opens}
use Rattle.group_facts.specs.Facts.{IsWritten, Written}
use Rattle.group_facts.proofs.Keeping.{Keeps, all_did, all_took}

-- a group that is idle or busy keeps its `initialize`, and one that ended has one too
written_keeps : Keeps IsWritten
written_keeps = record {
  ends = λ x k. record { params = over_opens.0; says = over_opens.1; folders = over_folders.0; listed = over_folders.1 };
  busies = λ x k. record { params = k.params; says = k.says; folders = k.folders; listed = k.listed };
  exits = λ x k. record { params = k.params; says = k.says; folders = k.folders; listed = k.listed };
  idles = λ now x k. record { params = k.params; says = k.says; folders = k.folders; listed = k.listed };
}

module _ (settings : Settings) where
  founded_written : (events : List Event) (e : ℕ) (body : List ℕ) → IsWritten (founded (key_for settings events e body) (declared_for settings events e body))
  founded_written events e body =
      let k : (params : Option Json) × (message_of (initialize_of (founded (key_for settings events e body) (declared_for settings events e body))) ≡ request (integer (codes "1")) (codes "initialize") params) = founded_opens settings events e body in
      let f : (v : Json) × IsShallowText 1023 v (folders_text (key_for settings events e body).folders) = founded_folders settings events e body in
      record { params = k.0; says = k.1; folders = f.0; listed = f.1 }

  pub written_took : (events : List Event) (cause : Cause) → Written settings events → Written settings (with_cause events cause)
  written_took events cause h = all_took IsWritten written_keeps settings events cause (founded_written events) h

  pub written_did : (events : List Event) (out : Out) → Written settings events → Written settings (events ++ said out ∷ [])
  written_did events out h = all_did IsWritten written_keeps settings events out h
