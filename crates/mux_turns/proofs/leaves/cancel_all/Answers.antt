-- Those of a list are cancelled.
use Rattle.std.proofs.Common.{ap, ◌∙◌, arith, codes, refl, get_or}
use Rattle.std.specs.Prelude.{Some, slice_get}
use Rattle.event_model.proofs.Turns.{does_next, does_whole}
use Rattle.group_facts.specs.group_rows.specs.Leaves.{cancel, cancel_text}
use Rattle.rpc_message.specs.Message.{message_of}
use Rattle.group_facts.specs.group_rows.proofs.Cancels.{cancel_says, params_tree}
use Rattle.mux_turns.proofs.Cancels.{cancel_said}
use Rattle.mux_turns.proofs.leaves.cancel_all.Goals as goal

pub loop-n-preserved : goal.loop-n-preserved
loop-n-preserved c = record {
  requests = c.cancel.ensures.requests ∙ c.loop-n.invariant.requests;
  versions = c.cancel.ensures.versions ∙ c.loop-n.invariant.versions;
  starts = c.in_ok-cancel.ensures.starts ∙ c.loop-n.invariant.starts;
  stages = c.in_ok-cancel.ensures.stages ∙ c.loop-n.invariant.stages;
  asks = c.in_ok-cancel.ensures.asks ∙ c.loop-n.invariant.asks;
  groups = c.in_ok-cancel.ensures.groups ∙ c.loop-n.invariant.groups;
  does = λ settings base s at.
      let n = get_or c.args.numbers.now c.loop-n.n-index 0 in
      let low = c.type_inv.numbers c.loop-n.n-index in
      does_next (cancel s) c.args.numbers.now c.loop-n.n-index 0 c.loop-n-test.true (c.loop-n.invariant.does settings base s at)
      (cancel_said settings base c.loop-n.tables c.cancel.new.self c.loop-n.outs c.cancel.new.outs s n c.in_ok-text.text (omega (arith, low)) (c.in_ok-text.ensures ∙ ap cancel_text c.from.ensures)
      (λ says names. c.in_ok-cancel.ensures.does settings base s (codes "$/cancelRequest") (Some (params_tree n)) (ap (λ ns. slice_get ns c.args.g) c.loop-n.invariant.starts ∙ at) says refl names));
  documents = λ settings owed base ds.
      let n = get_or c.args.numbers.now c.loop-n.n-index 0 in
      let low = c.type_inv.numbers c.loop-n.n-index in
      c.in_ok-cancel.ensures.documents settings owed base (codes "$/cancelRequest") (Some (params_tree n)) (ap message_of (c.in_ok-text.ensures ∙ ap cancel_text c.from.ensures) ∙ cancel_says n (omega (arith, low))) refl (c.loop-n.invariant.documents settings owed base ds);
}

pub returns-clause-does : goal.returns-clause-does
returns-clause-does c = λ settings base s at. does_whole (cancel s) c.args.numbers.now c.loop-n.n-index c.loop-n-test.false (c.loop-n.invariant.does settings base s at)
