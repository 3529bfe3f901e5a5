-- All that waits goes on.
use Rattle.std.proofs.Common.{◌<◌, ap, length, refl, sym, subst, ◌∙◌}
use Rattle.std.specs.Prelude.{slice_get}
use Rattle.event_model.specs.declared.stage.Stage.TheVariants.{Ready}
use Rattle.mux_tables.specs.mux_waits.specs.Rows.{held_of}
use Rattle.mux_tables.specs.Stands.{house_in, number_in, stage_in}
use Rattle.mux_starts.proofs.Passing.{all_sent, fewer, inside_still, kept_as, sent_more, sent_none, to_do}
use Rattle.mux_starts.proofs.held.send_held.Goals as goal

pub loop-more-init : goal.loop-more-init
loop-more-init c = record {
  requests = refl;
  versions = refl;
  starts = refl;
  stages = refl;
  groups = refl;
  does = λ settings base s at idle. sent_none settings base c.args.group s c.args.tables.now c.args.outs.now;
}

pub pass_next-requires-clause-group : goal.pass_next-requires-clause-group
pass_next-requires-clause-group c = inside_still number_in c.args.g c.args.tables.now.lasts.items c.loop-more.tables.lasts.items c.loop-more.invariant.starts c.requires.group

pub pass_next-requires-clause-own : goal.pass_next-requires-clause-own
pass_next-requires-clause-own c = kept_as house_in c.args.group c.args.g c.args.tables.now.lasts.items c.loop-more.tables.lasts.items c.loop-more.invariant.groups c.requires.group c.requires.own

pub pass_next-requires-clause-ready : goal.pass_next-requires-clause-ready
pass_next-requires-clause-ready c = kept_as stage_in Ready c.args.g c.args.tables.now.lasts.items c.loop-more.tables.lasts.items c.loop-more.invariant.stages c.requires.group c.requires.ready

pub loop-more-smaller : goal.loop-more-smaller
loop-more-smaller c = subst (λ b. to_do c.in_ok-more.more (length (held_of c.args.group c.pass_next.new.tables.origins.waiting)) < to_do b (length (held_of c.args.group c.loop-more.tables.origins.waiting))) (sym c.loop-more-test.true)
    (fewer c.in_ok-more.more c.args.group c.loop-more.tables.origins.waiting c.pass_next.new.tables.origins.waiting c.in_ok-more.ensures.left)

pub loop-more-preserved : goal.loop-more-preserved
loop-more-preserved c = record {
  requests = c.pass_next.ensures.requests ∙ c.loop-more.invariant.requests;
  versions = c.pass_next.ensures.versions ∙ c.loop-more.invariant.versions;
  starts = c.in_ok-more.ensures.starts ∙ c.loop-more.invariant.starts;
  stages = c.in_ok-more.ensures.stages ∙ c.loop-more.invariant.stages;
  groups = c.in_ok-more.ensures.groups ∙ c.loop-more.invariant.groups;
  does = λ settings base s at idle.
      sent_more settings base c.args.group s c.in_ok-more.more c.loop-more.more c.args.tables.now c.loop-more.tables c.pass_next.new.tables c.args.outs.now c.loop-more.outs c.pass_next.new.outs (c.loop-more.invariant.does settings base s at idle)
      (c.in_ok-more.ensures.does settings base s (ap (λ ns. slice_get ns c.args.g) c.loop-more.invariant.starts ∙ at) idle);
}

pub returns-clause-does : goal.returns-clause-does
returns-clause-does c = λ settings base s at idle. all_sent settings base c.args.group s c.loop-more.more c.args.tables.now c.loop-more.tables c.args.outs.now c.loop-more.outs c.loop-more-test.false (c.loop-more.invariant.does settings base s at idle)
