-- Those of a list that accepted it.
use Rattle.std.proofs.Common.{ℕ, ap, ◌∙◌}
use Rattle.group_rows.specs.Created.{created_of, has_accepted}
use Rattle.mux_starts.proofs.Offered.{all_kept, one_kept, one_left}
use Rattle.mux_starts.proofs.creates.takers.Goals as goal
use Rattle.mux_starts.proofs.creates.takers.Goals.{then-has_taken+in_ok-push, else-has_taken}

pub loop-e-preserved : goal.loop-e-preserved
loop-e-preserved c = λ settings before x here st.
    let keep = λ (e : ℕ). has_accepted e c.args.k (created_of settings x.life.start before) in
    elim c.if-has_taken.branch [
      | then-has_taken+in_ok-push w ↦ one_kept keep c.args.numbers.now c.loop-e.e-index c.has_taken.result c.loop-e.all.items c.if-has_taken.all.items c.loop-e-test.true (c.loop-e.invariant settings before x here st) (c.has_taken.ensures settings before x here st) w.if-has_taken.true (ap (λ v. v.items) w.all-is ∙ w.in_ok-push.ensures.items)
      | else-has_taken w ↦ one_left keep c.args.numbers.now c.loop-e.e-index c.has_taken.result c.loop-e.all.items c.if-has_taken.all.items c.loop-e-test.true (c.loop-e.invariant settings before x here st) (c.has_taken.ensures settings before x here st) w.if-has_taken.false (ap (λ v. v.items) w.all-is)
    ]

pub returns : goal.returns
returns c = λ settings before x here st.
    all_kept (λ e. has_accepted e c.args.k (created_of settings x.life.start before)) c.args.numbers.now c.loop-e.e-index c.loop-e.all.items c.loop-e-test.false (c.loop-e.invariant settings before x here st)
