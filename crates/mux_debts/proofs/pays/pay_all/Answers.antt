-- Those of a list are asked.
use Rattle.std.proofs.Common.{subst, sym, take, ◌∙◌}
use Rattle.event_model.specs.Does.{Does}
use Rattle.event_model.proofs.Turns.{does_knowing, does_next, does_whole}
use Rattle.group_rows.specs.Debts.{IsDebt}
use Rattle.mux_tables.specs.Documents.{AllStand, nothing_owed}
use Rattle.mux_debts.specs.Going.{pays}
use Rattle.mux_debts.proofs.Paying.{one_debt, pays_behind}
use Rattle.mux_debts.proofs.pays.pay_all.Goals as goal

pub loop-debt-preserved : goal.loop-debt-preserved
loop-debt-preserved c = record {
  count = c.in_ok-pay_one.ensures.count ∙ c.loop-debt.invariant.count;
  requests = c.pay_one.ensures.requests ∙ c.loop-debt.invariant.requests;
  versions = c.pay_one.ensures.versions ∙ c.loop-debt.invariant.versions;
  does = λ settings base all can.
      let due = c.args.due.now in
      let i = c.loop-debt.debt-index in
      let d = c.debt-item.result in
      let before = c.loop-debt.invariant.does settings base all can in
      does_knowing (λ k.
      does_next (pays c.args.e) due i d c.loop-debt-test.true before
      (subst (λ z. Does (λ k events. AllStand settings k events) (pays c.args.e z) base (c.loop-debt.tables, nothing_owed) c.loop-debt.outs (c.pay_one.new.tables, nothing_owed) c.pay_one.new.outs) c.debt-item.is
      (c.in_ok-pay_one.ensures.does settings base (subst IsDebt (sym c.debt-item.is) (one_debt due i d all c.loop-debt-test.true))
      (pays_behind settings c.args.e base c.args.outs.now c.loop-debt.outs (take i due) (before.done k).outs can))));
}

pub returns-clause-does : goal.returns-clause-does
returns-clause-does c = λ settings base all can. does_whole (pays c.args.e) c.args.due.now c.loop-debt.debt-index c.loop-debt-test.false (c.loop-debt.invariant.does settings base all can)
