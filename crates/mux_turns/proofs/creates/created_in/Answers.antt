-- The number of the daemon's token of a start.
use Rattle.std.proofs.Common.{ap, drop, length, subst, sym, take, take-append-drop, ◌++◌, ◌∙◌}
use Rattle.std.proofs.lemmas.Slice.Eq.{bytes_eq-Decides}
use Rattle.mux_turns.specs.Creates.{WritesCreated, created_front}
use Rattle.mux_turns.proofs.CreatedMarks.{front_there, no_created_front, unread_created, unwritten_created, written_created}
use Rattle.mux_turns.proofs.creates.created_in.Goals as goal

pub returns-in_err-digits : goal.returns-in_err-digits
returns-in_err-digits c = λ s own.
    subst (λ o. WritesCreated s c.args.cs.now o) (sym c.from_residual.ensures) (no_created_front s c.args.cs.now (λ rest is. front_there c.args.front.now c.args.cs.now rest (is ∙ ap (λ z. z ++ rest) (sym own)) c.in_err-digits.ensures.cases))

pub returns-in_err-k : goal.returns-in_err-k
returns-in_err-k c = λ s own.
    let k = c.in_ok-digits.ensures.cases in
    let front = (bytes_eq-Decides (take (length c.args.front.now) c.args.cs.now) c.args.front.now).0 k.0 in
    let is = sym (take-append-drop (length c.args.front.now) c.args.cs.now) ∙ (ap (λ z. z ++ drop (length c.args.front.now) c.args.cs.now) (front ∙ own) ∙ ap (λ z. created_front s ++ z) (sym k.1)) in
    subst (λ o. WritesCreated s c.args.cs.now o) (sym c.from_residual-in_err-k.ensures) (unread_created s c.args.cs.now c.in_ok-digits.digits.now is c.in_err-k.ensures.number)

pub returns-then-writes : goal.returns-then-writes
returns-then-writes c = λ s own.
    let k = c.in_ok-digits.ensures.cases in
    let front = (bytes_eq-Decides (take (length c.args.front.now) c.args.cs.now) c.args.front.now).0 k.0 in
    let is = sym (take-append-drop (length c.args.front.now) c.args.cs.now) ∙ (ap (λ z. z ++ drop (length c.args.front.now) c.args.cs.now) (front ∙ own) ∙ ap (λ z. created_front s ++ z) (sym k.1)) in
    written_created s c.args.cs.now c.in_ok-digits.digits.now is c.in_ok-k.k c.writes.result c.in_ok-k.ensures.bound c.writes.ensures c.if-writes.true

pub returns-else-writes : goal.returns-else-writes
returns-else-writes c = λ s own.
    let k = c.in_ok-digits.ensures.cases in
    let front = (bytes_eq-Decides (take (length c.args.front.now) c.args.cs.now) c.args.front.now).0 k.0 in
    let is = sym (take-append-drop (length c.args.front.now) c.args.cs.now) ∙ (ap (λ z. z ++ drop (length c.args.front.now) c.args.cs.now) (front ∙ own) ∙ ap (λ z. created_front s ++ z) (sym k.1)) in
    unwritten_created s c.args.cs.now c.in_ok-digits.digits.now is c.in_ok-k.k c.writes.result c.in_ok-k.ensures.number c.writes.ensures c.if-writes.false
