-- What an editor gets of a message.
use Rattle.std.proofs.Common.{subst}
use Rattle.event_model.specs.Requests.{answered_id}
use Rattle.rpc_message.specs.Message.{message_of}
use Rattle.mux_tables.specs.Stands.{NamesAt}
use Rattle.mux_starts.proofs.Answering.{unasked}
use Rattle.mux_turns.proofs.Matched.{found_none}
use Rattle.mux_starts.proofs.answers.reply_to.Goals as goal

pub returns-in-None : goal.returns-in-None
returns-in-None c = λ settings before body s x read named here ready at known st ds.
    (unasked settings before body s (found_none settings c.args.tables.now before c.args.g s (answered_id (message_of body)) st c.requires at (subst (NamesAt (answered_id (message_of body))) c.in-None.is named)), tt)

pub returns-in-Some : goal.returns-in-Some
returns-in-Some c = λ settings before body s x read named here ready at known st ds.
    c.reply_under.ensures settings before body s x read (subst (NamesAt (answered_id (message_of body))) c.in-Some.is named) here ready at known st ds
