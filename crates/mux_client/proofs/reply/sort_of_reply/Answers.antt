use Rattle.std.proofs.Common.{subst, sym}
use Rattle.rpc_message.specs.Message.{id_bytes}
use Rattle.mux_client.specs.Replies.{SaysSort}
use Rattle.mux_client.proofs.Replying.{other_says, same_says, told_of}
use Rattle.mux_client.proofs.reply.sort_of_reply.Goals as goal

pub returns-then-same_id : goal.returns-then-same_id
returns-then-same_id c = λ asked bytes own no_null read. subst (SaysSort asked bytes) (sym c.reply_sort.ensures)
    (same_says asked bytes c.same_id.result c.sort.result
    (told_of asked c.args.id.now c.id_bytes.result.now (id_bytes bytes) c.same_id.result own (c.id_bytes.ensures bytes read) c.same_id.ensures.ids c.same_id.ensures.bytes no_null) c.if-same_id.true (c.sort.ensures bytes read))

pub returns-else-same_id : goal.returns-else-same_id
returns-else-same_id c = λ asked bytes own no_null read.
    other_says asked bytes c.same_id.result
    (told_of asked c.args.id.now c.id_bytes.result.now (id_bytes bytes) c.same_id.result own (c.id_bytes.ensures bytes read) c.same_id.ensures.ids c.same_id.ensures.bytes no_null) c.if-same_id.false
