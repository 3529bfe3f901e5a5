-- What an editor gets of a message that names a request.
use Rattle.std.proofs.Common.{refl, ◌∙◌}
use Rattle.event_model.specs.Requests.{answered_id}
use Rattle.rpc_message.specs.Message.{message_of}
use Rattle.mux_tables.specs.Documents.{nothing_owed}
use Rattle.mux_tables.specs.Stands.{forwarded_as}
use Rattle.mux_starts.proofs.Answering.{replied, unasked}
use Rattle.mux_turns.proofs.Matched.{found_some}
use Rattle.mux_starts.proofs.answers.reply_under.Goals as goal

pub returns-in-None : goal.returns-in-None
returns-in-None c = λ settings before body s x read named here ready at known st ds.
    (unasked settings before body s (found_some settings c.args.tables.now before c.args.g s (answered_id (message_of body)) st c.requires at c.args.n named ∙ c.in-None.ensures.found settings before s at st), tt)

pub returns-in-Some : goal.returns-in-Some
returns-in-Some c = λ settings before body s x read named here ready at known st ds.
    let p = c.in-Some.pending.now in
    let found = found_some settings c.args.tables.now before c.args.g s (answered_id (message_of body)) st c.requires at c.args.n named ∙ c.in-Some.ensures.found settings before s at st in
    replied settings before body s (forwarded_as c.args.n p) c.reply_of.result found (known (forwarded_as c.args.n p) found)
    (c.reply_of.ensures settings before body s c.args.n x read here ready at st ds (c.in-Some.ensures.noted settings nothing_owed before s p at refl ds))
