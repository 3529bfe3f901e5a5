-- Whether a message is a request of the multiplexer's own.
use Rattle.std.proofs.Common.{codes, sym, ◌||◌, ◌∙◌}
use Rattle.event_model.specs.Event.{requests}
use Rattle.rpc_message.specs.Message.{message_of}
use Rattle.mux_turns.proofs.Lspmux.{either_asks, or_first, or_second}
use Rattle.mux_turns.proofs.own.asks_lspmux.Goals as goal

pub returns-then-is_open : goal.returns-then-is_open
returns-then-is_open c = λ body read.
    let m = message_of body in
    c.is_open.ensures body read ∙ (or_first (requests (codes "lspmux/open") m) (requests (codes "lspmux/status") m || requests (codes "lspmux/stop") m) (sym (c.is_open.ensures body read) ∙ c.if-is_open.true) ∙ sym (either_asks m))

pub returns-then-is_status : goal.returns-then-is_status
returns-then-is_status c = λ body read.
    let m = message_of body in
    c.is_status.ensures body read ∙ (or_first (requests (codes "lspmux/status") m) (requests (codes "lspmux/stop") m) (sym (c.is_status.ensures body read) ∙ c.if-is_status.true)
    ∙ (or_second (requests (codes "lspmux/open") m) (requests (codes "lspmux/status") m || requests (codes "lspmux/stop") m) (sym (c.is_open.ensures body read) ∙ c.if-is_open.false) ∙ sym (either_asks m)))

pub returns-else-is_status : goal.returns-else-is_status
returns-else-is_status c = λ body read.
    let m = message_of body in
    c.is_stop.ensures body read ∙ (or_second (requests (codes "lspmux/status") m) (requests (codes "lspmux/stop") m) (sym (c.is_status.ensures body read) ∙ c.if-is_status.false)
    ∙ (or_second (requests (codes "lspmux/open") m) (requests (codes "lspmux/status") m || requests (codes "lspmux/stop") m) (sym (c.is_open.ensures body read) ∙ c.if-is_open.false) ∙ sym (either_asks m)))
