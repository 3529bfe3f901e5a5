-- Whether a message is that.
use Rattle.std.proofs.Common.{ap, codes, sym, ◌∙◌}
use Rattle.std.specs.Prelude.{Some}
use Rattle.event_model.specs.Event.{requests}
use Rattle.rpc_message.specs.Message.{message_of}
use Rattle.rpc_message.specs.declared.sort.Sort.TheVariants as sort
use Rattle.mux_debts.proofs.Going.{unshut_sort}
use Rattle.mux_debts.proofs.Noting.{asks_by_sort, sort_other}
use Rattle.mux_debts.proofs.pays.shuts.Goals as goal

pub returns-in-Request : goal.returns-in-Request
returns-in-Request c = λ body read.
    let q = asks_by_sort (message_of body) (c.sort.ensures body read ∙ ap (λ x. Some x) c.in-Request.is) in
    c.is_shutdown.ensures body q.method q.id q.params read q.is ∙ ap (requests (codes "shutdown")) (sym q.is)

pub returns-in_default : goal.returns-in_default
returns-in_default c = λ body read. sym (unshut_sort (codes "shutdown") (message_of body) (sort_other (message_of body) c.sort.result sort.Request (c.sort.ensures body read) c.in_default.not-Request))
