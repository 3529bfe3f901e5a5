-- Whether a message of an editor that runs goes on.
use Rattle.std.proofs.Common.{ap, subst, sym, ◌∙◌}
use Rattle.std.specs.Prelude.{IfOk, Some}
use Rattle.group_rows.specs.Debts.{goes_forth}
use Rattle.rpc_message.specs.Message.{message_of}
use Rattle.rpc_message.specs.declared.sort.Sort.TheVariants as sort
use Rattle.mux_debts.proofs.Going.{idle_sort, tells_by_sort}
use Rattle.mux_debts.proofs.Noting.{asks_by_sort, sort_other}
use Rattle.mux_debts.proofs.pays.goes_forth.Goals as goal

pub returns-in-Request : goal.returns-in-Request
returns-in-Request c = λ settings before body x read known settled here ready runs st.
    let q = asks_by_sort (message_of body) (c.sort.ensures body read ∙ ap (λ x. Some x) c.in-Request.is) in
    c.sends_on.ensures settings before body q.method q.id q.params x read q.is known settled here ready runs st

pub returns-in-Notification : goal.returns-in-Notification
returns-in-Notification c = λ settings before body x read known settled here ready runs st.
    let q = tells_by_sort (message_of body) (c.sort.ensures body read ∙ ap (λ x. Some x) c.in-Notification.is) in
    c.goes_on.ensures body q.method q.params read q.is ∙ ap (goes_forth settings x.life.start before c.args.e body) (sym q.is)

pub returns-in_default : goal.returns-in_default
returns-in_default c = λ settings before body x read known settled here ready runs st.
    let m = message_of body in
    sym (idle_sort settings x.life.start before c.args.e body m (sort_other m c.sort.result sort.Request (c.sort.ensures body read) c.in_default.not-Request) (sort_other m c.sort.result sort.Notification (c.sort.ensures body read) c.in_default.not-Notification))
