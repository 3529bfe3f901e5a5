-- Whether a message is the first error.
use Rattle.std.proofs.Common.{ap, ◌∙◌}
use Rattle.std.specs.Prelude.{Some}
use Rattle.rpc_message.specs.Message.{message_of}
use Rattle.event_model.specs.Requests.{answered_id}
use Rattle.mux_starts.proofs.Early.{first_error, no_error}
use Rattle.mux_starts.proofs.hasty.is_first_error.Goals as goal

pub returns-in-Error : goal.returns-in-Error
returns-in-Error c = λ body read. first_error (message_of body) c.is_first.result (c.sort.ensures body read ∙ ap (λ x. Some x) c.in-Error.is) (c.is_first.ensures (answered_id (message_of body)) (c.answered_number.ensures body read))

pub returns-in_default : goal.returns-in_default
returns-in_default c = λ body read. no_error (message_of body) c.sort.result (c.sort.ensures body read) c.in_default.not-Error
