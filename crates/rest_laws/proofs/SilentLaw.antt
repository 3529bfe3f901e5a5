-- Where no editor speaks, no ready start is told of a document.
use Rattle.std.proofs.Common.{◌≡◌, ℕ, Bool, true, false, ◌||◌, List, [], ◌∷◌, ◌++◌, nat_eq, append-nil, refl, sym, ◌∙◌, ap, subst}
use Rattle.std.specs.List.{AllByRecursion, list_any, range_with_len}
use Rattle.mux_history.specs.declared.cause.Cause.{Cause}
use Rattle.mux_history.specs.declared.cause.Cause.TheVariants.{Joined, FromEditor, EditorGone, Started, StartFailed, FromServer, ServerGone, Drained, Tick}
use Rattle.mux_history.specs.declared.entry.Entry.{Entry}
use Rattle.mux_history.specs.declared.out.Out.{Out}
use Rattle.mux_history.specs.declared.out.Out.TheVariants.{CloseEditor}
use Rattle.event_model.specs.Event.{Event, behind, events_of, heard, said, with_cause}
use Rattle.event_model.specs.Phases.{editors_of}
use Rattle.event_model.specs.Row.{choose, each, nothing, outs, send, ◌⨾◌}
use Rattle.event_model.specs.Settings.{Settings}
use Rattle.event_model.specs.Stages.{is_ready, life_of}
use Rattle.event_model.proofs.Frames.{never}
use Rattle.mux_facts.specs.Ranges.{InRange}
use Rattle.mux_facts.proofs.DocumentRow.{ready_is}
use Rattle.mux_facts.proofs.Folds.{life_more, number_more}
use Rattle.mux_facts.proofs.Reasons.{Because, Reasons, by_nothing}
use Rattle.mux_facts.proofs.Words.{number_same, same_number}
use Rattle.group_rows.specs.Leaves.{leave_row}
use Rattle.group_rows.specs.Rows.{outs_of, row_of, started}
use Rattle.group_facts.specs.Facts.{Known}
use Rattle.group_facts.specs.Legal.{Legal, LegalFrom}
use Rattle.group_facts.specs.SlowRows.{close_slow, entry_outs, is_slow, slow_row}
use Rattle.group_facts.proofs.Facts.{Facts, known_of}
use Rattle.group_facts.proofs.Known.{no_facts, one_entry}
use Rattle.rest_laws.specs.Silent.{IsSilent, Silent, SilentFrom, is_closing, is_of_editor}
use Rattle.rest_laws.proofs.Quiets.{quiet_heard, quiet_joined, quiet_lost, quiet_started}
use Rattle.rest_laws.proofs.Ticking.{quiet_tick, small_first}

pub both_false : (a b : Bool) → (a || b) ≡ false → (a ≡ false) × (b ≡ false)
both_false false b h = (refl, h)
both_false true b h = never h

pub any_parts : (test : Out → Bool) (xs ys : List Out) → list_any test (xs ++ ys) ≡ false → (list_any test xs ≡ false) × (list_any test ys ≡ false)
any_parts test [] ys h = (refl, h)
any_parts test (x ∷ xs) ys h = go (test x) h (λ k. any_parts test xs ys k)
  where
    go : (b : Bool) → (b || list_any test (xs ++ ys)) ≡ false → (list_any test (xs ++ ys) ≡ false → (list_any test xs ≡ false) × (list_any test ys ≡ false)) → ((b || list_any test xs) ≡ false) × (list_any test ys ≡ false)
    go false h rest = rest h
    go true h rest = never h

-- where no link is to be ended none is slow
none_slow : (settings : Settings) (es : List ℕ) (place : List Event) → list_any is_closing (outs (each (close_slow settings) es) place) ≡ false → outs (each (close_slow settings) es) place ≡ []
none_slow settings [] place links = refl
none_slow settings (e ∷ es) place links = go (is_slow settings e place) links (λ z. none_slow settings es z)
  where
    go : (b : Bool) → list_any is_closing (outs (choose b (send (CloseEditor e) ⨾ leave_row settings place e) nothing) place ++ outs (each (close_slow settings) es) (behind place (outs (choose b (send (CloseEditor e) ⨾ leave_row settings place e) nothing) place))) ≡ false
        → ((z : List Event) → list_any is_closing (outs (each (close_slow settings) es) z) ≡ false → outs (each (close_slow settings) es) z ≡ [])
        → outs (choose b (send (CloseEditor e) ⨾ leave_row settings place e) nothing) place ++ outs (each (close_slow settings) es) (behind place (outs (choose b (send (CloseEditor e) ⨾ leave_row settings place e) nothing) place)) ≡ []
    go true links rest = never links
    go false links rest = rest (behind place []) links

-- and the outs of an entry are those of its row
pub no_slow : (settings : Settings) (before : List Event) (cause : Cause) → list_any is_closing (entry_outs settings before cause) ≡ false → entry_outs settings before cause ≡ outs_of settings before cause
no_slow settings before cause links =
    let later : List Event = behind (with_cause before cause) (outs_of settings before cause) in
    ap (λ z. outs_of settings before cause ++ z) (none_slow settings (range_with_len 0 (editors_of later)) later (any_parts is_closing (outs_of settings before cause) (outs (slow_row settings) later) links).1) ∙ append-nil (outs_of settings before cause)

module _ (s : ℕ) where
  pub all_silent : (events : List Event) (outs : List Out) → Reasons (λ places out. IsSilent s out) events outs → AllByRecursion (IsSilent s) outs
  all_silent events [] h = tt
  all_silent events (out ∷ outs) h = (h.0, all_silent (events ++ said out ∷ []) outs h.1)

  module _ (settings : Settings) (range : InRange settings) (before : List Event) (known : Known settings before) (ready : is_ready (life_of s before).stage ≡ true) where
    begun : (n : ℕ) (events : List Event) → Because (λ places out. IsSilent s out) events (started settings n before (life_of n before).stage)
    begun n events = go (nat_eq n s) refl
      where
        go : (b : Bool) → nat_eq n s ≡ b → Because (λ places out. IsSilent s out) events (started settings n before (life_of n before).stage)
        go true same = subst (λ st. Because (λ places out. IsSilent s out) events (started settings n before st)) (sym (ready_is (life_of n before).stage (ap (λ k. is_ready (life_of k before).stage) (number_same n s same) ∙ ready))) by_nothing
        go false other = quiet_started s settings before n (λ is. never (sym (subst (λ z. nat_eq n z ≡ true) is (same_number n)) ∙ other)) (life_of n before).stage events

    row_silent : (cause : Cause) → is_of_editor cause ≡ false → Because (λ places out. IsSilent s out) (with_cause before cause) (row_of settings before cause)
    row_silent (Joined e) calm = quiet_joined s settings before e (with_cause before (Joined e))
    row_silent (FromEditor e body) calm = never calm
    row_silent (EditorGone e why) calm = never calm
    row_silent (Started n) calm = begun n (with_cause before (Started n))
    row_silent (StartFailed n) calm = quiet_lost s settings before n (with_cause before (StartFailed n))
    row_silent (FromServer n body) calm = quiet_heard s settings before known.written ready n body (with_cause before (FromServer n body))
    row_silent (ServerGone n) calm = quiet_lost s settings before n (with_cause before (ServerGone n))
    row_silent (Drained e n) calm = by_nothing
    row_silent (Tick t) calm = quiet_tick settings range.requests s before t (with_cause before (Tick t)) (small_first settings range.requests s before known.bounded (Tick t) (life_more s before (heard (Tick t))) (number_more s before (heard (Tick t))) ready)

    pub entry_silent : (cause : Cause) → is_of_editor cause ≡ false → list_any is_closing (entry_outs settings before cause) ≡ false → AllByRecursion (IsSilent s) (entry_outs settings before cause)
    entry_silent cause calm links = subst (AllByRecursion (IsSilent s)) (sym (no_slow settings before cause links)) (all_silent (with_cause before cause) (outs_of settings before cause) (row_silent cause calm).why)

module _ (settings : Settings) (range : InRange settings) where
  silent_from : (before rest : List Entry) → LegalFrom settings before rest → Facts settings (events_of before) → SilentFrom before rest
  silent_from before [] legal h = tt
  silent_from before (entry ∷ rest) legal h = (
    λ calm s ready. subst (AllByRecursion (IsSilent s)) (sym legal.1)
        (entry_silent s settings range (events_of before) (known_of settings (events_of before) h) ready entry.cause (both_false (is_of_editor entry.cause) (list_any is_closing entry.outs) calm).0
        (ap (list_any is_closing) (sym legal.1) ∙ (both_false (is_of_editor entry.cause) (list_any is_closing entry.outs) calm).1)),
    silent_from (before ++ entry ∷ []) rest legal.2 (one_entry settings range before entry legal.0 legal.1 h),
  )

  pub silent_holds : (history : List Entry) → Legal settings history → Silent history
  silent_holds history legal = silent_from [] history legal (no_facts settings range)
