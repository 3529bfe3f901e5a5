-- Whether a message does.
use Rattle.std.proofs.Common.{ap, sym, ◌∙◌}
use Rattle.std.specs.Prelude.{Some}
use Rattle.rpc_message.specs.Message.{message_of}
use Rattle.rpc_message.specs.declared.sort.Sort.TheVariants as sort
use Rattle.mux_debts.specs.Noted.{wants}
use Rattle.mux_debts.proofs.Noting.{asks_by_sort, sort_other, unwanted_sort}
use Rattle.mux_debts.proofs.notes.wants.Goals as goal

pub returns-in-Request : goal.returns-in-Request
returns-in-Request c = λ settings before body x read here st.
    let q = asks_by_sort (message_of body) (c.sort.ensures body read ∙ ap (λ x. Some x) c.in-Request.is) in
    c.asks_anew.ensures settings before body q.method q.id q.params x read q.is here st ∙ ap (wants settings x.life.start before) (sym q.is)

pub returns-in_default : goal.returns-in_default
returns-in_default c = λ settings before body x read here st.
    sym (unwanted_sort settings x.life.start before (message_of body) (sort_other (message_of body) c.sort.result sort.Request (c.sort.ensures body read) c.in_default.not-Request))
