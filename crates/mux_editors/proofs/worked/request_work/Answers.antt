-- The notification with the daemon's token.
use Rattle.std.proofs.Common.{ap, arith, codes, ◌∙◌, ◌*◌, ◌<◌, ◌^◌}
use Rattle.group_rows.specs.Tokens.{mark_text, marked_text, work_mark}
use Rattle.group_rows.proofs.TokenTexts.{mark_token, marked_says}
use Rattle.rpc_message.specs.Message.{message_of}
use Rattle.mux_editors.proofs.worked.request_work.Goals as goal

pub returns-clause-cancels : goal.returns-clause-cancels
returns-clause-cancels c = λ body params read says.
    let n = c.args.request.number in
    let fits = c.well_formed in
    let below : 2 * n < 10 ^ 64 = omega (arith, fits) in
    let new = marked_says (mark_text (work_mark n)) body (codes "window/workDoneProgress/cancel") params (mark_token (work_mark n) below) says in
    let is = c.in_ok-text.ensures body (codes "window/workDoneProgress/cancel") params read says ∙ ap (λ w. marked_text w body) (c.deref.ensures.value ∙ (c.in_ok-token.ensures ∙ ap (λ m. mark_text (2 * m)) c.from.ensures)) in
    (new.0, ap message_of is ∙ new.1)
