-- A body that is no message.
use Rattle.std.proofs.Common.{ap, ◌∙◌, codes}
use Rattle.std.specs.Prelude.{None}
use Rattle.rpc_message.specs.Message.{message_of}
use Rattle.rpc_message.specs.Texts.{error_text, error_tree}
use Rattle.event_model.specs.Event.{behind}
use Rattle.event_model.specs.Requests.{answered_id}
use Rattle.group_facts.specs.mux_model.specs.Rows.{malformed_code, malformed_text}
use Rattle.mux_turns.proofs.Keeping.{chosen, keeps_error, malformed_says, told_as}
use Rattle.mux_turns.proofs.refusals.reject.Goals as goal

pub returns-clause-does : goal.returns-clause-does
returns-clause-does c = λ settings base body refuses.
    let m = message_of body in
    let is = c.in_ok-text.ensures ∙ ap (λ k. error_text (codes "null") k) (c.in_ok-code.ensures m refuses) in
    chosen c.is_there.ensures c.if-not-is_there.false (told_as settings base c.args.tables.now c.args.tables.now c.args.outs.now c.tell.new.outs c.args.e c.in_ok-text.text (malformed_text m) is
    (c.in_ok-tell.ensures.does settings base (keeps_error c.args.e c.in_ok-text.text (behind base c.args.outs.now) None (error_tree (malformed_code m)) (malformed_says c.in_ok-text.text (malformed_code m) is))
    (ap answered_id (malformed_says c.in_ok-text.text (malformed_code m) is))))
