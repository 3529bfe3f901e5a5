-- The configuration that is kept of a group is a change of it, by its body.
use Rattle.std.proofs.Common.{◌≡◌, ℕ, Bool, true, false, List, [], ◌∷◌, ◌++◌, codes, if◌then◌else◌, Option, None, Some, refl, sym, ◌∙◌, ap, subst}
use Rattle.std.proofs.lemmas.Bool.{and_parts}
use Rattle.std.proofs.lemmas.Slice.Eq.{bytes_eq-Decides}
use Rattle.json_text.specs.Json.{Json}
use Rattle.mux_history.specs.declared.cause.Cause.TheVariants.{Joined, FromEditor, EditorGone, Started, StartFailed, FromServer, ServerGone, Drained, Tick}
use Rattle.rpc_message.specs.Message.{Message, request, notification, result, error, not_json, not_message, message_of}
use Rattle.event_model.specs.Event.{Event, did, notifies, took}
use Rattle.event_model.specs.Phases.{desk_of, is_served}
use Rattle.event_model.specs.Settings.{Settings}
use Rattle.event_model.proofs.Frames.{never}
use Rattle.group_words.specs.Houses.{home_of, is_home}
use Rattle.group_words.specs.Past.{past}
use Rattle.group_rows.specs.Earlier.{configuration_next, configuration_of, configures}
use Rattle.group_rows.proofs.Versions.{AllMeant, IsMeant}

abbrev pub IsConfiguration : List ℕ → Type 0
IsConfiguration body = notifies (codes "workspace/didChangeConfiguration") (message_of body) ≡ true

module _ (settings : Settings) (g : ℕ) where
  abbrev Kept : Option (List ℕ) → Type 0
  Kept o = (body : List ℕ) → o ≡ Some body → IsConfiguration body

  said : (before : List Event) (o : Option (List ℕ)) (e : ℕ) (body : List ℕ) (m : Message) → m ≡ message_of body → Kept o → Kept (configuration_next settings g before o (took (FromEditor e body) m))
  said before o e body m meant h = go (configures settings g before e m) refl
    where
      says : configures settings g before e m ≡ true → IsConfiguration body
      says is = ap (notifies (codes "workspace/didChangeConfiguration")) (sym meant) ∙ (and_parts (is_served (desk_of e before).phase) (notifies (codes "workspace/didChangeConfiguration") m) (and_parts (is_home g (home_of settings e before)) _ is).1).1

      go : (b : Bool) → configures settings g before e m ≡ b → Kept (if b then Some body else o)
      go true is text at = let same : body ≡ text = cc in subst IsConfiguration same (says is)
      go false off text at = h text at

  next : (before : List Event) (o : Option (List ℕ)) (event : Event) → IsMeant event → Kept o → Kept (configuration_next settings g before o event)
  next before o (took (FromEditor e body) m) meant h = said before o e body m meant h
  next before o (took (Joined e) m) meant h = h
  next before o (took (EditorGone e why) m) meant h = h
  next before o (took (Started s) m) meant h = h
  next before o (took (StartFailed s) m) meant h = h
  next before o (took (FromServer s body) m) meant h = h
  next before o (took (ServerGone s) m) meant h = h
  next before o (took (Drained e k) m) meant h = h
  next before o (took (Tick t) m) meant h = h
  next before o (did out m) meant h = h

  all_next : (before : List Event) (o : Option (List ℕ)) (events : List Event) → AllMeant events → Kept o → Kept (past (configuration_next settings g) before o events)
  all_next before o [] meant h = h
  all_next before o (event ∷ events) meant h = all_next (before ++ event ∷ []) (configuration_next settings g before o event) events meant.1 (next before o event meant.0 h)

  pub configured : (events : List Event) → AllMeant events → (body : List ℕ) → configuration_of settings g events ≡ Some body → IsConfiguration body
  configured events meant = all_next [] None events meant (λ body at. absurd (cc))

-- so it is a notification
pub configures_by : (m : Message) → notifies (codes "workspace/didChangeConfiguration") m ≡ true → (params : Option Json) × (m ≡ notification (codes "workspace/didChangeConfiguration") params)
configures_by (notification method params) h = (params, ap (λ z. notification z params) (sym ((bytes_eq-Decides (codes "workspace/didChangeConfiguration") method).0 h)))
configures_by (request id method params) h = never (sym h)
configures_by (result id r) h = never (sym h)
configures_by (error id x) h = never (sym h)
configures_by not_json h = never (sym h)
configures_by not_message h = never (sym h)
