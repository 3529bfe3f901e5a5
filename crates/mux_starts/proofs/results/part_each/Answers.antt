-- Those of a list are parted with.
use Rattle.std.proofs.Common.{refl, ◌∙◌}
use Rattle.mux_starts.proofs.Parting.{parts_all, parts_next, parts_none}
use Rattle.mux_starts.proofs.results.part_each.Goals as goal

pub loop-e-init : goal.loop-e-init
loop-e-init c = record {
  count = refl;
  requests = refl;
  versions = refl;
  lasts = refl;
  parted = parts_none c.args.tables.now c.args.outs.now c.args.g;
}

pub loop-e-preserved : goal.loop-e-preserved
loop-e-preserved c = record {
  count = c.in_ok-part_one.ensures.count ∙ c.loop-e.invariant.count;
  requests = c.in_ok-part_one.ensures.requests ∙ c.loop-e.invariant.requests;
  versions = c.in_ok-part_one.ensures.versions ∙ c.loop-e.invariant.versions;
  lasts = c.in_ok-part_one.ensures.lasts ∙ c.loop-e.invariant.lasts;
  parted = parts_next c.args.tables.now c.loop-e.tables c.part_one.new.tables c.args.outs.now c.loop-e.outs c.part_one.new.outs c.args.g c.args.editors.now c.loop-e.e-index c.loop-e-test.true c.loop-e.invariant.parted c.in_ok-part_one.ensures.parted;
}

pub returns-clause-parted : goal.returns-clause-parted
returns-clause-parted c = parts_all c.args.tables.now c.loop-e.tables c.args.outs.now c.loop-e.outs c.args.g c.args.editors.now c.loop-e.e-index c.loop-e-test.false c.loop-e.invariant.parted
