-- A message of a start that gave no result yet.
use Rattle.std.proofs.Common.{sym, ◌∙◌}
use Rattle.event_model.specs.Stages.{life_of}
use Rattle.event_model.proofs.Places.{item_at}
use Rattle.rpc_message.specs.Message.{message_of}
use Rattle.mux_starts.specs.mux_tables.specs.Documents.{AllStand}
use Rattle.mux_entries.proofs.Carried.{other_carried}
use Rattle.mux_entries.proofs.EditorRows.{done_alike}
use Rattle.mux_entries.proofs.Said.{asking, first_entry, refused_here, stage_here}
use Rattle.mux_entries.proofs.servers.take_first.Goals as goal

pub returns-in_ok-take_result-clause-does : goal.returns-in_ok-take_result-clause-does
returns-in_ok-take_result-clause-does c = λ settings before body s read first at known settled kept run st ds.
    let t = c.args.tables.now in
    let x = item_at t.lasts.items c.args.g c.requires.group in
    let stage = stage_here settings t before c.args.g s x.0 x.1 at st ∙ c.requires.stage x.0 x.1 in
    let k = first_entry settings before s body stage (sym (c.is_first_result.ensures body read) ∙ c.if-is_first_result.true) in
    done_alike (λ k events. AllStand settings k events) k.row (c.in_ok-take_result.ensures.does settings before body k.id k.value s read k.says k.first at first k.shown (asking before known.waiting) known settled kept st ds)

pub returns-in_ok-take_refused-clause-does : goal.returns-in_ok-take_refused-clause-does
returns-in_ok-take_refused-clause-does c = λ settings before body s read first at known settled kept run st ds.
    let t = c.args.tables.now in
    let x = item_at t.lasts.items c.args.g c.requires.group in
    let stage = stage_here settings t before c.args.g s x.0 x.1 at st ∙ c.requires.stage x.0 x.1 in
    let refuses = sym (c.is_first_error.ensures body read) ∙ c.if-is_first_error.true in
    done_alike (λ k events. AllStand settings k events) (refused_here settings s before body (message_of body) (life_of s before).stage stage (sym (c.is_first_result.ensures body read) ∙ c.if-is_first_result.false) refuses)
    (c.in_ok-take_refused.ensures.does settings before body s read refuses at first (asking before known.waiting) st ds)

pub returns-in_ok-take_other-clause-does : goal.returns-in_ok-take_other-clause-does
returns-in_ok-take_other-clause-does c = λ settings before body s read first at known settled kept run st ds.
    c.in_ok-take_other.ensures.does settings before body s read first at run (sym (c.is_first_result.ensures body read) ∙ c.if-is_first_result.false) (sym (c.is_first_error.ensures body read) ∙ c.if-is_first_error.false) st ds

-- What groups carry

pub returns-in_ok-take_result-clause-carried : goal.returns-in_ok-take_result-clause-carried
returns-in_ok-take_result-clause-carried c = λ settings before body s read first at known settled kept st ds.
    let t = c.args.tables.now in
    let x = item_at t.lasts.items c.args.g c.requires.group in
    let stage = stage_here settings t before c.args.g s x.0 x.1 at st ∙ c.requires.stage x.0 x.1 in
    let k = first_entry settings before s body stage (sym (c.is_first_result.ensures body read) ∙ c.if-is_first_result.true) in
    c.in_ok-take_result.ensures.carried settings before body k.id k.value s read k.says k.first at first k.shown (asking before known.waiting) known settled kept st ds

pub returns-in_ok-take_refused-clause-carried : goal.returns-in_ok-take_refused-clause-carried
returns-in_ok-take_refused-clause-carried c = λ settings before body s read first at known settled kept st ds.
    other_carried settings c.args.carries.now before s body c.take_refused.new.outs (sym (c.is_first_result.ensures body read) ∙ c.if-is_first_result.false) kept

pub returns-in_ok-take_other-clause-carried : goal.returns-in_ok-take_other-clause-carried
returns-in_ok-take_other-clause-carried c = λ settings before body s read first at known settled kept st ds.
    other_carried settings c.args.carries.now before s body c.take_other.new.outs (sym (c.is_first_result.ensures body read) ∙ c.if-is_first_result.false) kept
