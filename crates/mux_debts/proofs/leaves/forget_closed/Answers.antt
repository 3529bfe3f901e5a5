-- One out more, and all of them.
use Rattle.std.proofs.Common.{◌++◌, [], ◌∷◌, ap, subst, sym, take, ◌∙◌}
use Rattle.event_model.specs.Event.{behind, said}
use Rattle.mux_debts.specs.Stands.{DebtsStand}
use Rattle.mux_debts.proofs.Standing.{behind_all, behind_next}
use Rattle.mux_debts.proofs.leaves.forget_closed.Goals as goal

pub loop-out-preserved : goal.loop-out-preserved
loop-out-preserved c = λ settings base st.
    let outs = c.as_slice-out-items.result.now in
    let i = c.loop-out.out-index in
    subst (DebtsStand settings c.forget.new.debts) (ap (λ o. behind base (take i outs) ++ said o ∷ []) c.out-item.is ∙ sym (behind_next base outs i c.out-item.result c.loop-out-test.true))
    (c.forget.ensures settings (behind base (take i outs)) (c.loop-out.invariant settings base st))

pub returns : goal.returns
returns c = λ settings base st.
    subst (DebtsStand settings c.loop-out.debts) (behind_all base c.as_slice-out-items.result.now c.args.outs.now c.loop-out.out-index c.loop-out-test.false c.as_slice-out-items.ensures) (c.loop-out.invariant settings base st)
