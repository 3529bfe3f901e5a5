-- How a law of every legal history of several editors and groups is proved: by what each cause and each out keeps.
use Rattle.std.proofs.Common.{◌≡◌, ℕ, ◌<◌, true, List, [], ◌∷◌, ◌++◌, length, IsTrue, sym, subst, append_assoc, append-nil}
use Rattle.mux_history.specs.declared.cause.Cause.{Cause}
use Rattle.mux_history.specs.declared.entry.Entry.{Entry}
use Rattle.mux_history.specs.declared.out.Out.{Out}
use Rattle.mux_history.specs.declared.out.Out.TheVariants.{ToEditor, ToServer, Spawn, CloseEditor, EndServer}
use Rattle.event_model.specs.Event.{Event, said, behind, with_cause, events_of}
use Rattle.event_model.specs.Phases.{desk_of, is_there}
use Rattle.event_model.specs.Settings.{Settings}
use Rattle.event_model.specs.Spawns.{starts_of}
use Rattle.mux_model.specs.Fits.{fits_behind}
use Rattle.mux_facts.specs.Ranges.{InRange}
use Rattle.mux_facts.proofs.Keeps.{events_more}
use Rattle.mux_facts.proofs.Reasons.{reasons_keep}
use Rattle.group_words.specs.Houses.{groups_of}
use Rattle.group_rows.specs.Rows.{outs_of}
use Rattle.group_facts.specs.SlowRows.{entry_outs, is_slow}
use Rattle.group_facts.specs.Facts.{ends_link}
use Rattle.group_facts.specs.Legal.{Legal, LegalFrom}
use Rattle.group_facts.specs.Why.{Why, WhyEnd, WhyToEditor, WhyToServer, quitting}
use Rattle.group_facts.proofs.Facts.{Facts, Mid}
use Rattle.group_facts.proofs.Known.{Here, entry_keeps, here_did, here_slow, here_took, no_facts, slow_keeps_facts}
use Rattle.group_facts.proofs.SlowRow.{parting, parting_why, whole_entry}
use Rattle.group_facts.proofs.Table.{reasons}

-- I holds after each entry, M inside of one; `rest` is where the table is asked what the whole entry did
pub record RestLaw (settings : Settings) (I : List Event → Type 0) (M : List Event → Cause → List Event → Type 0) : Type 0 where
  pub took : (before : List Event) (cause : Cause) → fits_behind before cause ≡ true → Facts settings before → I before → M before cause (with_cause before cause)
  pub to_editor : (before : List Event) (cause : Cause) (events : List Event) (e : ℕ) (body : List ℕ) → WhyToEditor settings before cause events e body → Facts settings before → Mid settings before cause events → I before → M before cause events
      → M before cause (events ++ said (ToEditor e body) ∷ [])
  pub to_server : (before : List Event) (cause : Cause) (events : List Event) (s : ℕ) (body : List ℕ) → WhyToServer settings before cause events s body → Facts settings before → Mid settings before cause events → I before → M before cause events
      → M before cause (events ++ said (ToServer s body) ∷ [])
  pub close : (before : List Event) (cause : Cause) (events : List Event) (e : ℕ) → ends_link settings before cause e ≡ true → is_there (desk_of e events).phase ≡ true → Facts settings before → Mid settings before cause events → I before → M before cause events
      → M before cause (events ++ said (CloseEditor e) ∷ [])
  pub end : (before : List Event) (cause : Cause) (events : List Event) (s : ℕ) → WhyEnd settings events s → Facts settings before → Mid settings before cause events → I before → M before cause events → M before cause (events ++ said (EndServer s) ∷ [])
  pub spawn : (before : List Event) (cause : Cause) (events : List Event) (g : ℕ) → g < length (groups_of settings events) → Facts settings before → Mid settings before cause events → I before → M before cause events
      → M before cause (events ++ said (Spawn (starts_of events) g) ∷ [])
  pub rest : (before : List Event) (cause : Cause) → fits_behind before cause ≡ true → Facts settings before → I before → M before cause (behind (with_cause before cause) (outs_of settings before cause)) → I (behind (with_cause before cause) (outs_of settings before cause))
  -- an editor that is slow leaves (Z1)
  pub turn : (place : List Event) (e : ℕ) → is_slow settings e place ≡ true → Facts settings place → I place → M place (quitting e) place
  pub left : (place : List Event) (e : ℕ) → is_slow settings e place ≡ true → Facts settings place → I place → M place (quitting e) (behind place (parting settings place e)) → I (behind place (parting settings place e))

module _ (settings : Settings) (range : InRange settings) (I : List Event → Type 0) (M : List Event → Cause → List Event → Type 0) (law : RestLaw settings I M) where
  one_out : (before : List Event) (cause : Cause) (events : List Event) (out : Out) → Why settings before cause events out → Facts settings before → Mid settings before cause events → I before → M before cause events → M before cause (events ++ said out ∷ [])
  one_out before cause events (ToEditor e body) why known here i m = law.to_editor before cause events e body why known here i m
  one_out before cause events (ToServer s body) why known here i m = law.to_server before cause events s body why known here i m
  one_out before cause events (Spawn s g) why known here i m = subst (λ z. M before cause (events ++ said (Spawn z g) ∷ [])) (sym why.0) (law.spawn before cause events g why.1 known here i m)
  one_out before cause events (CloseEditor e) why known here i m = law.close before cause events e why.0 why.1 known here i m
  one_out before cause events (EndServer s) why known here i m = law.end before cause events s why known here i m

  -- what is known at a place, and what the law keeps there; and the same between entries
  record At (before : List Event) (cause : Cause) (events : List Event) : Type 0 where
    known : Here settings before cause events
    kept : M before cause events

  record Rests (events : List Event) : Type 0 where
    known : Facts settings events
    kept : I events

  entry_rests : (before : List Event) (cause : Cause) → fits_behind before cause ≡ true → Rests before → Rests (behind (with_cause before cause) (outs_of settings before cause))
  entry_rests before cause fits h =
      let last : At before cause (behind (with_cause before cause) (outs_of settings before cause)) = reasons_keep (λ events out. Why settings before cause events out) (At before cause)
      (λ events out why i. record { known = here_did settings range before cause h.known events out why i.known; kept = one_out before cause events out why h.known (i.known).mid h.kept i.kept })
      (with_cause before cause) (outs_of settings before cause) (reasons settings range before h.known cause).why
      (record { known = here_took settings range before cause fits h.known; kept = law.took before cause fits h.known h.kept }) in
      record { known = entry_keeps settings range before cause fits h.known; kept = law.rest before cause fits h.known h.kept last.kept }

  slow_rests : (place : List Event) (e : ℕ) → is_slow settings e place ≡ true → Rests place → Rests (behind place (parting settings place e))
  slow_rests place e slow h =
      let last : At place (quitting e) (behind place (parting settings place e)) = reasons_keep (Why settings place (quitting e)) (At place (quitting e))
      (λ events out why i. record { known = here_did settings range place (quitting e) h.known events out why i.known; kept = one_out place (quitting e) events out why h.known (i.known).mid h.kept i.kept })
      place (parting settings place e) (parting_why settings range place h.known e slow)
      (record { known = here_slow settings range place e h.known; kept = law.turn place e slow h.known h.kept }) in
      record { known = slow_keeps_facts settings range place e slow h.known; kept = law.left place e slow h.known h.kept last.kept }

  whole_rests : (before : List Event) (cause : Cause) → fits_behind before cause ≡ true → Rests before → Rests (behind (with_cause before cause) (entry_outs settings before cause))
  whole_rests before cause fits h = whole_entry settings Rests slow_rests before cause (entry_rests before cause fits h)

  one_entry : (before : List Entry) (entry : Entry) → IsTrue (fits_behind (events_of before) entry.cause) → entry.outs ≡ entry_outs settings (events_of before) entry.cause
      → Rests (events_of before) → Rests (events_of (before ++ entry ∷ []))
  one_entry before entry fits outs h = subst Rests (sym (events_more before entry)) (subst (λ z. Rests (behind (with_cause (events_of before) entry.cause) z)) (sym outs) (whole_rests (events_of before) entry.cause fits h))

  from_here : (before rest : List Entry) → LegalFrom settings before rest → Rests (events_of before) → Rests (events_of (before ++ rest))
  from_here before [] legal h = subst (λ z. Rests (events_of z)) (sym (append-nil before)) h
  from_here before (entry ∷ rest) legal h = subst (λ z. Rests (events_of z)) (append_assoc before (entry ∷ []) rest) (from_here (before ++ entry ∷ []) rest legal.2 (one_entry before entry legal.0 legal.1 h))

  pub rest_holds : I [] → (history : List Entry) → Legal settings history → I (events_of history)
  rest_holds start history legal = (from_here [] history legal (record { known = no_facts settings range; kept = start })).kept

-- the same thing inside of an entry and after it
abbrev pub Inside : (List Event → Type 0) → List Event → Cause → List Event → Type 0
Inside I before cause events = I events

abbrev pub Law : Settings → (List Event → Type 0) → Type 0
Law settings I = RestLaw settings I (Inside I)

pub law_holds : (settings : Settings) → InRange settings → (I : List Event → Type 0) → Law settings I → I [] → (history : List Entry) → Legal settings history → I (events_of history)
law_holds settings range I law start history legal = rest_holds settings range I (Inside I) law start history legal
