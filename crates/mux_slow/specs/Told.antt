-- The editors that the outs of an entry go to.
use Rattle.std.specs.Prelude.{◌≡◌, ℕ, true, List, [], fold, nat_eq}
use Rattle.std.specs.List.{list_any}
use Rattle.mux_history.specs.declared.out.Out.{Out}
use Rattle.mux_history.specs.declared.out.Out.TheVariants.{ToEditor}
use Rattle.number_index.specs.Numbers.{with_number}
use Rattle.event_model.specs.Event.{Event, behind}
use Rattle.event_model.specs.Settings.{Settings}
use Rattle.group_facts.specs.SlowRows.{is_slow}

-- one more, in its place
abbrev pub told_next : List ℕ → Out → List ℕ
told_next es (ToEditor e body) = with_number e es
told_next es other = es

-- rising, each once
abbrev pub told_in : List Out → List ℕ
told_in outs = fold told_next [] outs

-- each editor that is slow behind these is one of them
abbrev pub AllTold : Settings → List Event → List Out → Type 0
AllTold settings base outs = (e : ℕ) → is_slow settings e (behind base outs) ≡ true → list_any (nat_eq e) (told_in outs) ≡ true

-- no editor is slow
abbrev pub Quick : Settings → List Event → Type 0
Quick settings events = (e : ℕ) → is_slow settings e events ≡ true → ⊥
