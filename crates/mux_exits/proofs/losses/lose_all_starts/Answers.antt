-- Editors that run lose a start.
use Rattle.std.proofs.Common.{◌<◌, append-nil, length, sym}
use Rattle.std.proofs.lemmas.List.Elements.{All-get_or}
use Rattle.mux_exits.specs.Losses.{Runs, lost_start}
use Rattle.mux_exits.proofs.Gathering.{flat_next, flat_whole}
use Rattle.mux_exits.proofs.losses.lose_all_starts.Goals as goal

pub loop-e-init : goal.loop-e-init
loop-e-init c = record {
  inside = λ h. h;
  lost = λ settings before x here ready runs st. sym (append-nil c.args.losses.now.items);
}

pub lose_start-requires-clause-editor : goal.lose_start-requires-clause-editor
lose_start-requires-clause-editor c = All-get_or (λ e. e < length c.args.tables.now.editors) c.args.editors.now c.loop-e.e-index 0 c.loop-e-test.true c.requires.editors

pub loop-e-preserved : goal.loop-e-preserved
loop-e-preserved c = record {
  inside = λ h. c.in_ok-lose_start.ensures.inside (length c.args.tables.now.editors) (All-get_or (λ e. e < length c.args.tables.now.editors) c.args.editors.now c.loop-e.e-index 0 c.loop-e-test.true c.requires.editors) (c.loop-e.invariant.inside h);
  lost = λ settings before x here ready runs st. flat_next (lost_start settings before x.life.start) c.args.editors.now c.loop-e.e-index 0 c.args.losses.now.items c.loop-e.losses.items c.lose_start.new.losses.items c.loop-e-test.true
      (c.loop-e.invariant.lost settings before x here ready runs st) (c.in_ok-lose_start.ensures.lost settings before x here ready (All-get_or (Runs before) c.args.editors.now c.loop-e.e-index 0 c.loop-e-test.true runs) st);
}

pub returns-clause-lost : goal.returns-clause-lost
returns-clause-lost c = λ settings before x here ready runs st. flat_whole (lost_start settings before x.life.start) c.args.editors.now c.loop-e.e-index c.args.losses.now.items c.loop-e.losses.items c.loop-e-test.false (c.loop-e.invariant.lost settings before x here ready runs st)

pub returns-clause-inside : goal.returns-clause-inside
returns-clause-inside c = λ h. c.loop-e.invariant.inside h
