-- A response is handed back, or takes a token, or answers nothing.
use Rattle.std.proofs.Common.{find, sym, ◌∙◌}
use Rattle.event_model.specs.Phases.{desk_of}
use Rattle.event_model.specs.Requests.{answered_id}
use Rattle.group_rows.specs.Asks.{asks_of, is_seated}
use Rattle.rpc_message.specs.Message.{message_of}
use Rattle.mux_editors.proofs.Taking.{begins_none, begins_unrun, handed_held, hands_back, hands_out, served_runs}
use Rattle.mux_editors.proofs.handed.reply.Goals as goal

pub returns-in_ok-hand_back-in-Some-clause-does : goal.returns-in_ok-hand_back-in-Some-clause-does
returns-in_ok-hand_back-in-Some-clause-does c = λ settings before base body s read response served is at given fits same held.
    let m = message_of body in
    let o = find (is_seated c.args.e (answered_id m)) (asks_of settings s before) in
    let own = sym c.in-Some.is ∙ given in
    hands_back settings before c.args.e s body m o c.in-Some.id own (c.in_ok-hand_back-in-Some.ensures.does settings base body s o read response own fits at)

pub returns-in_ok-hand_back-in-Some-clause-documents : goal.returns-in_ok-hand_back-in-Some-clause-documents
returns-in_ok-hand_back-in-Some-clause-documents c = λ settings owed before base body s read response given fits ds.
    let o = find (is_seated c.args.e (answered_id (message_of body))) (asks_of settings s before) in
    c.in_ok-hand_back-in-Some.ensures.documents settings owed base body s o read response (sym c.in-Some.is ∙ given) fits ds

pub returns-in-None-clause-does : goal.returns-in-None-clause-does
returns-in-None-clause-does c = λ settings before base body s read response served is at given fits same held.
    let m = message_of body in
    begins_none settings before c.args.e s body m (find (is_seated c.args.e (answered_id m)) (asks_of settings s before)) (sym c.in-None.is ∙ given) (begins_unrun (desk_of c.args.e before).phase (sym is ∙ c.if-begins.true))

pub returns-in_ok-hand_out_any-in-None-2-clause-does : goal.returns-in_ok-hand_out_any-in-None-2-clause-does
returns-in_ok-hand_out_any-in-None-2-clause-does c = λ settings before base body s read response served is at given fits same held.
    let e = c.args.e in
    let m = message_of body in
    let handed = c.args.reply.handed in
    hands_out settings before e s body m (find (is_seated e (answered_id m)) (asks_of settings s before)) handed (sym c.in-None-2.is ∙ given) (served_runs (desk_of e before).phase served (sym is ∙ c.if-begins.false)) same
    (c.in_ok-hand_out_any-in-None-2.ensures.does settings base s at (handed_held settings before e s body m handed same held))

pub returns-in_ok-hand_out_any-in-None-2-clause-documents : goal.returns-in_ok-hand_out_any-in-None-2-clause-documents
returns-in_ok-hand_out_any-in-None-2-clause-documents c = λ settings owed before base body s read response given fits ds. c.in_ok-hand_out_any-in-None-2.ensures.documents settings owed base ds
