-- No editor is slow behind an entry: those that were leave behind its row.
use Rattle.std.proofs.Common.{◌≡◌, ℕ, ◌≤◌, true, List, [], ◌++◌, length, ap, sym, subst, ◌∙◌, arith}
use Rattle.std.proofs.lemmas.Option.{slice_get_past}
use Rattle.mux_history.specs.declared.cause.Cause.{Cause}
use Rattle.mux_history.specs.declared.cause.Cause.TheVariants.{Joined}
use Rattle.mux_history.specs.declared.out.Out.{Out}
use Rattle.event_model.specs.Event.{Event, behind}
use Rattle.event_model.specs.Phases.{backlog_of, editors_of}
use Rattle.event_model.specs.Row.{outs}
use Rattle.event_model.specs.Settings.{Settings}
use Rattle.event_model.proofs.Frames.{never}
use Rattle.mux_facts.proofs.Keeps.{behind_both}
use Rattle.mux_facts.proofs.Words.{number_same}
use Rattle.mux_model.specs.Fits.{fits_behind}
use Rattle.group_sessions.specs.group_facts.specs.SlowRows.{slow_row}
use Rattle.mux_causes.specs.Backlogs.{BacklogsStand, bytes_in}
use Rattle.mux_causes.specs.mux_tables.specs.declared.tables.Tables.{Tables}
use Rattle.mux_causes.specs.mux_tables.specs.Stands.{Stands}
use Rattle.mux_causes.specs.mux_turns.specs.Carried.{CarriedStand, CarriesView}
use Rattle.mux_causes.specs.mux_turns.proofs.CarriedOn.{carried_behind}
use Rattle.mux_slow.specs.Told.{Quick}
use Rattle.mux_slow.proofs.Joined.{there_joined}
use Rattle.mux_slow.proofs.Quick.{quick_rests}

-- before everything none is there
pub none_slow : (settings : Settings) → Quick settings []
none_slow settings e slow = never (sym slow)

-- to one that joins nothing was sent
pub joins_clear : (counts : List ℕ) (before : List Event) (cause : Cause) → BacklogsStand counts before → fits_behind before cause ≡ true → (n : ℕ) → cause ≡ Joined n → backlog_of n before ≡ 0
joins_clear counts before cause stands fit n is =
    let next : n ≡ length counts = number_same n (editors_of before) (subst (λ c. fits_behind before c ≡ true) is fit) ∙ stands.count in
    stands.bytes n ∙ ap bytes_in (slice_get_past counts n (subst (λ m. m ≤ n) next (at_least n)))
  where
    at_least : (m : ℕ) → m ≤ m
    at_least m = omega arith

-- behind the row, and those that leave
pub quick_behind : (settings : Settings) (kept : Tables) (base : List Event) (xs ys : List Out) → Stands settings kept (behind base xs) → ys ≡ xs ++ outs (slow_row settings) (behind base xs) → Quick settings (behind base ys)
quick_behind settings kept base xs ys st is =
    subst (Quick settings) (sym (ap (behind base) is ∙ behind_both base xs (outs (slow_row settings) (behind base xs)))) (quick_rests settings (behind base xs) (there_joined settings kept (behind base xs) st))

-- what groups carry, where those leave
pub carried_slow : (settings : Settings) (carries : CarriesView) (base : List Event) (xs ys : List Out) → ys ≡ xs ++ outs (slow_row settings) (behind base xs) → CarriedStand settings carries (behind base xs) → CarriedStand settings carries (behind base ys)
carried_slow settings carries base xs ys is h =
    subst (CarriedStand settings carries) (sym (ap (behind base) is ∙ behind_both base xs (outs (slow_row settings) (behind base xs)))) (carried_behind settings carries (behind base xs) (outs (slow_row settings) (behind base xs)) h)
