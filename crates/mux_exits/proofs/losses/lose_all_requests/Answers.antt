-- Editors lose their requests.
use Rattle.std.proofs.Common.{append-nil, sym}
use Rattle.mux_exits.specs.Losses.{lost_sent}
use Rattle.mux_exits.proofs.Gathering.{flat_next, flat_whole}
use Rattle.mux_exits.proofs.losses.lose_all_requests.Goals as goal

pub loop-e-init : goal.loop-e-init
loop-e-init c = record {
  inside = λ n h. h;
  lost = λ settings before s at st. sym (append-nil c.args.losses.now.items);
}

pub loop-e-preserved : goal.loop-e-preserved
loop-e-preserved c = record {
  inside = λ n h. c.in_ok-lose_requests.ensures.inside n (c.loop-e.invariant.inside n h);
  lost = λ settings before s at st. flat_next (lost_sent settings before s) c.args.editors.now c.loop-e.e-index 0 c.args.losses.now.items c.loop-e.losses.items c.lose_requests.new.losses.items c.loop-e-test.true
      (c.loop-e.invariant.lost settings before s at st) (c.in_ok-lose_requests.ensures.lost settings before s at st);
}

pub returns-clause-lost : goal.returns-clause-lost
returns-clause-lost c = λ settings before s at st. flat_whole (lost_sent settings before s) c.args.editors.now c.loop-e.e-index c.args.losses.now.items c.loop-e.losses.items c.loop-e-test.false (c.loop-e.invariant.lost settings before s at st)

pub returns-clause-inside : goal.returns-clause-inside
returns-clause-inside c = λ n h. c.loop-e.invariant.inside n h
