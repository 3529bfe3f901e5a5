-- Whether it is a request under an id that is open.
use Rattle.std.proofs.Common.{◌&&◌, ap, subst, sym, ◌∙◌}
use Rattle.std.specs.Prelude.{Some}
use Rattle.rpc_message.specs.Message.{message_of}
use Rattle.rpc_message.specs.ValueTexts.{IsIdText}
use Rattle.rpc_message.proofs.Ids.{request_id_bytes}
use Rattle.event_model.specs.Phases.{desk_of, is_begun}
use Rattle.event_model.specs.Requests.{open_of}
use Rattle.mux_starts.specs.group_facts.specs.Built.{doubles}
use Rattle.group_words.specs.Houses.{is_doubled}
use Rattle.mux_entries.proofs.EditorRows.{asks_by_sort, not_request, undoubled}
use Rattle.mux_entries.proofs.editors.is_doubled.Goals as goal

pub returns-in-Request : goal.returns-in-Request
returns-in-Request c = λ settings before body known settled st read.
    let e = c.args.e in
    let q = asks_by_sort (message_of body) (c.sort.ensures body read ∙ ap (λ x. Some x) c.in-Request.is) in
    let text = subst (λ w. IsIdText q.id w) (sym (c.id_bytes.ensures body read)) (request_id_bytes body q.id q.method q.params q.is) in
    c.doubles.ensures settings before q.id known settled st text (c.phase.ensures settings before st) ∙ (ap (λ p. doubles p q.id (open_of e before)) (c.phase.ensures settings before st) ∙ ap (λ m. is_begun (desk_of e before).phase && is_doubled before e m) (sym q.is))

pub returns-in_default : goal.returns-in_default
returns-in_default c = λ settings before body known settled st read.
    undoubled before c.args.e (is_begun (desk_of c.args.e before).phase) (message_of body) (not_request (message_of body) c.sort.result (c.sort.ensures body read) c.in_default.not-Request)
