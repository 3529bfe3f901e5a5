use Rattle.std.proofs.Common.{◌+◌}
use Rattle.json_text.specs.Json.{object}
use Rattle.json_nodes.specs.Same.{drop_members}
use Rattle.json_nodes.proofs.Numbers.{child_at}
use Rattle.json_nodes.specs.Values.{doc_of}
use Rattle.capability_meet.proofs.Meets.{twin_later, twin_left_out, twin_none, twin_some}
use Rattle.capability_meet.proofs.twins.twin_of.Goals as goal

pub returns-then-not-is_last-clause-twin : goal.returns-then-not-is_last-clause-twin
returns-then-not-is_last-clause-twin c = λ n s r ms ns cs u m g a.
    twin_later (doc_of c.args.right.now.values) c.args.spot cs u (drop_members (n + 1) ms) ns c.is_last.result (c.is_last.ensures n s u ms cs m g) c.if-not-is_last.true

pub returns-then-is_left_out-clause-twin : goal.returns-then-is_left_out-clause-twin
returns-then-is_left_out-clause-twin c = λ n s r ms ns cs u m g a.
    twin_left_out (doc_of c.args.right.now.values) c.args.spot cs u (drop_members (n + 1) ms) ns c.is_left_out.result (c.is_left_out.ensures cs (c.name-name.ensures.spelled c.args.left.now.node n (object s ms) u cs m g)) c.if-is_left_out.true

pub returns-in-Some-clause-twin : goal.returns-in-Some-clause-twin
returns-in-Some-clause-twin c = λ n s r ms ns cs u m g a.
    let spelled = c.name-name.ensures.spelled c.args.left.now.node n (object s ms) u cs m g in
    twin_some (doc_of c.args.right.now.values) c.args.spot cs u (drop_members (n + 1) ms) ns c.is_last.result c.last_named.result c.if_meets.result c.in-Some.twin c.is_left_out.result
    (c.is_last.ensures n s u ms cs m g) c.if-not-is_last.false (c.is_left_out.ensures cs spelled) c.if-is_left_out.false
    (c.last_named.ensures.named r ns cs a spelled) c.in-Some.is (λ v b. c.if_meets.ensures.twin u v (child_at m) b)

pub returns-in-None-clause-twin : goal.returns-in-None-clause-twin
returns-in-None-clause-twin c = λ n s r ms ns cs u m g a.
    let spelled = c.name-name.ensures.spelled c.args.left.now.node n (object s ms) u cs m g in
    twin_none (doc_of c.args.right.now.values) c.args.spot cs u (drop_members (n + 1) ms) ns c.is_last.result c.last_named.result c.is_left_out.result
    (c.is_last.ensures n s u ms cs m g) c.if-not-is_last.false (c.is_left_out.ensures cs spelled) c.if-is_left_out.false
    (c.last_named.ensures.named r ns cs a spelled) c.in-None.is
