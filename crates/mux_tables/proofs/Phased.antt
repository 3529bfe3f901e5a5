-- What setting an editor's phase leaves of the editors: one that is gone is gone before and behind each event but the end of its link.
use Rattle.std.proofs.Common.{◌≡◌, ℕ, ◌<◌, Bool, true, false, List, [], ◌∷◌, ◌++◌, length, codes, refl, ap, sym, ◌∙◌, if◌then◌else◌}
use Rattle.std.specs.Prelude.{Some}
use Rattle.std.proofs.lemmas.Option.{slice_get-get_or}
use Rattle.mux_history.specs.declared.cause.Cause.TheVariants.{FromEditor}
use Rattle.mux_history.specs.declared.out.Out.TheVariants.{ToEditor}
use Rattle.rpc_message.specs.Message.{Message, result, message_of}
use Rattle.event_model.specs.declared.phase.Phase.{Phase}
use Rattle.event_model.specs.declared.phase.Phase.TheVariants.{New, Waiting, Answered, Running, Down, Gone}
use Rattle.event_model.specs.Event.{Event, heard, requests, said}
use Rattle.event_model.specs.Phases.{Desk, desk_behind, desk_hears, desk_of, has_id, makes_running, phase_closed, phase_told}
use Rattle.event_model.specs.Settings.{Settings}
use Rattle.event_model.proofs.Frames.{never, one_more}
use Rattle.editor_session.specs.declared.session.Session.{Session}
use Rattle.editor_session.specs.Sessions.{absent, gone, in_phase, is_gone, session_of, unless_gone, with_session}
use Rattle.mux_tables.specs.Stands.{EditorsStand, phase_in}
use Rattle.mux_tables.proofs.Frames.{itself}

only_gone : (p : Phase) → is_gone p ≡ true → p ≡ Gone
only_gone Gone h = refl
only_gone other h = never (sym h)

-- the session that is left
abbrev pub phased : List Session → ℕ → Phase → Session
phased t e p = unless_gone (in_phase p) (session_of t e)

same_session : (p : Phase) (x : Session) → is_gone p ≡ is_gone x.phase → unless_gone (in_phase p) x ≡ record x { phase = p }
same_session p x h = go (is_gone x.phase) (is_gone p) refl refl h
  where
    go : (b c : Bool) → is_gone x.phase ≡ b → is_gone p ≡ c → c ≡ b → (if b then x else if c then gone else record x { phase = p }) ≡ record x { phase = p }
    go true true e f h = ap (λ q. record x { phase = q }) (only_gone x.phase e ∙ sym (only_gone p f))
    go false false e f h = refl
    go true false e f h = never (sym h)
    go false true e f h = never h

pub plain : (t : List Session) (e : ℕ) (p : Phase) → is_gone p ≡ is_gone (session_of t e).phase → with_session t e (phased t e p) ≡ with_session t e (record (session_of t e) { phase = p })
plain t e p h = ap (with_session t e) (same_session p (session_of t e) h)

-- a phase that isn't gone leaves the group and the id, also of one that is
pub phased_id : (t : List Session) (e : ℕ) (p : Phase) → is_gone p ≡ false → (phased t e p).id ≡ (session_of t e).id
phased_id t e p h = go (is_gone (session_of t e).phase) (is_gone p) h
  where
    go : (b c : Bool) → c ≡ false → (if b then session_of t e else if c then gone else record (session_of t e) { phase = p }).id ≡ (session_of t e).id
    go true c h = refl
    go false false h = refl
    go false true h = never h

pub closed_gone : (p : Phase) → is_gone (phase_closed p) ≡ is_gone p
closed_gone Gone = refl
closed_gone other = refl

-- so does the end of a link
pub closed_id : (t : List Session) (e : ℕ) (p : Phase) → p ≡ phase_closed (session_of t e).phase → (phased t e p).id ≡ (session_of t e).id
closed_id t e p is = ap (λ (x : Session). x.id) (same_session p (session_of t e) (ap is_gone is ∙ closed_gone (session_of t e).phase))

-- the events
abbrev phase_at : Desk → Phase
phase_at d = d.phase

hears_gone : (p : Phase) (i body : List ℕ) (m : Message) → is_gone (desk_hears p i body m).phase ≡ is_gone p
hears_gone New i body m = elim (requests (codes "initialize") m) as (λ b. is_gone (phase_at (if b then record { phase = Waiting; initialize = body } else record { phase = New; initialize = i })) ≡ false) [ true ↦ refl | false ↦ refl ]
hears_gone Answered i body m = elim (requests (codes "shutdown") m) as (λ b. is_gone (if b then Down else if makes_running m then Running else Answered) ≡ false) [
  | true ↦ refl
  | false ↦ elim (makes_running m) as (λ b. is_gone (if b then Running else Answered) ≡ false) [ true ↦ refl | false ↦ refl ]
]
hears_gone Running i body m = elim (requests (codes "shutdown") m) as (λ b. is_gone (if b then Down else Running) ≡ false) [ true ↦ refl | false ↦ refl ]
hears_gone other i body m = refl

told_gone : (p : Phase) (i : List ℕ) (m : Message) → is_gone (phase_told p i m) ≡ is_gone p
told_gone Waiting i (result (Some id) r) = elim (has_id id (message_of i)) as (λ b. is_gone (if b then Answered else Waiting) ≡ false) [ true ↦ refl | false ↦ refl ]
told_gone p i m = refl

module _ (settings : Settings) (t : List Session) (events : List Event) (e : ℕ) (p : Phase) (l : e < length t) (s : EditorsStand settings t events) where
  own : is_gone (desk_of e events).phase ≡ is_gone (session_of t e).phase
  own = ap is_gone (s.phase e) ∙ ap (λ o. is_gone (phase_in o)) (slice_get-get_or t e absent l)

  pub heard_same : (body : List ℕ) → (desk_of e (events ++ heard (FromEditor e body) ∷ [])).phase ≡ p → is_gone p ≡ is_gone (session_of t e).phase
  heard_same body step = ap is_gone (sym step) ∙ (ap (λ (d : Desk). is_gone d.phase) (one_more (desk_behind e) _ _ events (heard (FromEditor e body)) refl)
      ∙ (rw (itself e) (hears_gone (desk_of e events).phase (desk_of e events).initialize body (message_of body)) ∙ own))

  pub told_same : (body : List ℕ) → (desk_of e (events ++ said (ToEditor e body) ∷ [])).phase ≡ p → is_gone p ≡ is_gone (session_of t e).phase
  told_same body step = ap is_gone (sym step) ∙ (ap (λ (d : Desk). is_gone d.phase) (one_more (desk_behind e) _ _ events (said (ToEditor e body)) refl)
      ∙ (rw (itself e) (told_gone (desk_of e events).phase (desk_of e events).initialize (message_of body)) ∙ own))

  pub heard_plain : (body : List ℕ) → (desk_of e (events ++ heard (FromEditor e body) ∷ [])).phase ≡ p → with_session t e (phased t e p) ≡ with_session t e (record (session_of t e) { phase = p })
  heard_plain body step = plain t e p (heard_same body step)

  pub told_plain : (body : List ℕ) → (desk_of e (events ++ said (ToEditor e body) ∷ [])).phase ≡ p → with_session t e (phased t e p) ≡ with_session t e (record (session_of t e) { phase = p })
  told_plain body step = plain t e p (told_same body step)
