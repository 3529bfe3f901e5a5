-- A message of a start, by where it stands.
use Rattle.std.proofs.Common.{ap, sym, ◌∙◌}
use Rattle.event_model.specs.Stages.{is_initializing}
use Rattle.event_model.proofs.Places.{item_at}
use Rattle.mux_starts.specs.mux_tables.specs.Documents.{AllStand}
use Rattle.mux_starts.specs.mux_tables.proofs.Homes.{group_seen}
use Rattle.mux_entries.proofs.Carried.{later_carried, not_initializing}
use Rattle.mux_entries.proofs.EditorRows.{done_alike, done_quietly}
use Rattle.mux_entries.proofs.Said.{runs_elsewhere, stage_here, stopped_row}
use Rattle.mux_entries.proofs.servers.take_message.Goals as goal

pub returns-in_ok-take_first-in-Initializing-clause-does : goal.returns-in_ok-take_first-in-Initializing-clause-does
returns-in_ok-take_first-in-Initializing-clause-does c = λ settings before body s read first at known settled kept run st ds. c.in_ok-take_first-in-Initializing.ensures.does settings before body s read first at known settled kept run st ds

pub take_ready-requires-clause-stage : goal.take_ready-requires-clause-stage
take_ready-requires-clause-stage c = λ x at. sym (c.stage_at-stage.ensures x at) ∙ c.in-Ready.is

pub returns-in_ok-take_ready-in-Ready-clause-does : goal.returns-in_ok-take_ready-in-Ready-clause-does
returns-in_ok-take_ready-in-Ready-clause-does c = λ settings before body s read first at known settled kept run st ds. c.in_ok-take_ready-in-Ready.ensures.does settings before body s read first at known settled st ds

pub returns-in_default-clause-does : goal.returns-in_default-clause-does
returns-in_default-clause-does c = λ settings before body s read first at known settled kept run st ds.
    let t = c.args.tables.now in
    let x = item_at t.lasts.items c.args.g c.requires in
    let here = stage_here settings t before c.args.g s x.0 x.1 at st ∙ sym (c.stage_at-stage.ensures x.0 x.1) in
    runs_elsewhere before x.0.life.group s c.stage_at-stage.result (group_seen settings t before c.args.g s x.0 st x.1 at).1 run here c.in_default.not-Initializing c.in_default.not-Ready c.in_default.not-Stopping c.in_default.not-Ending

pub returns-in_ok-take_stopping-in-Stopping-clause-does : goal.returns-in_ok-take_stopping-in-Stopping-clause-does
returns-in_ok-take_stopping-in-Stopping-clause-does c = λ settings before body s read first at known settled kept run st ds.
    let t = c.args.tables.now in
    let x = item_at t.lasts.items c.args.g c.requires in
    let stage = stage_here settings t before c.args.g s x.0 x.1 at st ∙ (sym (c.stage_at-stage.ensures x.0 x.1) ∙ c.in-Stopping.is) in
    done_alike (λ k events. AllStand settings k events) (stopped_row settings before s body stage) (c.in_ok-take_stopping-in-Stopping.ensures.does settings before body s read first at (known.stopped s stage) st ds)

pub returns-in-Ending-clause-does : goal.returns-in-Ending-clause-does
returns-in-Ending-clause-does c = λ settings before body s read first at known settled kept run st ds.
    done_quietly (λ k events. AllStand settings k events) first (c.take_ending.ensures.does settings before body s read at st ds)

-- What groups carry

pub returns-in_ok-take_first-in-Initializing-clause-carried : goal.returns-in_ok-take_first-in-Initializing-clause-carried
returns-in_ok-take_first-in-Initializing-clause-carried c = λ settings before body s read first at known settled kept st ds. c.in_ok-take_first-in-Initializing.ensures.carried settings before body s read first at known settled kept st ds

pub returns-in_ok-take_ready-in-Ready-clause-carried : goal.returns-in_ok-take_ready-in-Ready-clause-carried
returns-in_ok-take_ready-in-Ready-clause-carried c = λ settings before body s read first at known settled kept st ds.
    let t = c.args.tables.now in
    let x = item_at t.lasts.items c.args.g c.requires in
    let stage = stage_here settings t before c.args.g s x.0 x.1 at st ∙ sym (c.stage_at-stage.ensures x.0 x.1) in
    later_carried settings c.args.carries.now before s body c.take_ready.new.outs c.stage_at-stage.result stage (ap is_initializing c.in-Ready.is) kept

pub returns-in_ok-take_stopping-in-Stopping-clause-carried : goal.returns-in_ok-take_stopping-in-Stopping-clause-carried
returns-in_ok-take_stopping-in-Stopping-clause-carried c = λ settings before body s read first at known settled kept st ds.
    let t = c.args.tables.now in
    let x = item_at t.lasts.items c.args.g c.requires in
    let stage = stage_here settings t before c.args.g s x.0 x.1 at st ∙ sym (c.stage_at-stage.ensures x.0 x.1) in
    later_carried settings c.args.carries.now before s body c.take_stopping.new.outs c.stage_at-stage.result stage (ap is_initializing c.in-Stopping.is) kept

pub returns-in-Ending-clause-carried : goal.returns-in-Ending-clause-carried
returns-in-Ending-clause-carried c = λ settings before body s read first at known settled kept st ds.
    let t = c.args.tables.now in
    let x = item_at t.lasts.items c.args.g c.requires in
    let stage = stage_here settings t before c.args.g s x.0 x.1 at st ∙ sym (c.stage_at-stage.ensures x.0 x.1) in
    later_carried settings c.args.carries.now before s body c.args.outs.now c.stage_at-stage.result stage (ap is_initializing c.in-Ending.is) kept

pub returns-in_default-clause-carried : goal.returns-in_default-clause-carried
returns-in_default-clause-carried c = λ settings before body s read first at known settled kept st ds.
    let t = c.args.tables.now in
    let x = item_at t.lasts.items c.args.g c.requires in
    let stage = stage_here settings t before c.args.g s x.0 x.1 at st ∙ sym (c.stage_at-stage.ensures x.0 x.1) in
    later_carried settings c.args.carries.now before s body c.args.outs.now c.stage_at-stage.result stage (not_initializing c.stage_at-stage.result c.in_default.not-Initializing) kept
