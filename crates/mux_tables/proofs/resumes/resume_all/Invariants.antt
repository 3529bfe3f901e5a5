-- What is left of what waits leads to the same.
use Rattle.std.proofs.Common.{◌≡◌, length}
use Rattle.std.specs.Vec.Iter.{into_iter_items}
use Rattle.mux_tables.specs.Resumes.{Resuming, all_resumed}
use Rattle.mux_tables.proofs.resumes.resume_all.Given as goal

abbrev pub invariant-loop-ask : goal.invariant-loop-ask
invariant-loop-ask l = (goal.iterator-loop-ask).can_next l.ask-iterator
    × (goal.iterator-loop-ask).is_finite l.ask-iterator
    × (length l.editors ≡ length l.initial.editors)
    × ◌≡◌ {A = Resuming} (all_resumed l.e (record { editors = l.editors; start = l.last; outs = l.outs }) (into_iter_items l.ask-iterator))
    (all_resumed l.e (record { editors = l.initial.editors; start = l.initial.last; outs = l.initial.outs }) l.fn.waiting.items)
