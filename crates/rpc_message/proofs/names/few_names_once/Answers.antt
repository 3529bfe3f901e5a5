use Rattle.std.proofs.Common.{refl, ap, not}
use Rattle.json_text.specs.Json.{object}
use Rattle.json_span.specs.json_nodes.specs.Values.{doc_of}
use Rattle.json_span.specs.json_nodes.specs.Doc.{Doc}
use Rattle.json_span.specs.json_nodes.proofs.Sames.{walk_on, walk_fails, walk_holds}
use Rattle.rpc_message.specs.Message.{no_name_twice}
use Rattle.rpc_message.proofs.Enveloped.{once_first, once_by}
use Rattle.rpc_message.proofs.names.few_names_once.Goals as goal

pub returns-then-is_named_again : goal.returns-then-is_named_again
returns-then-is_named_again c = λ s ms a.
    let d : Doc = doc_of c.args.values in
    walk_fails d d c.args.node c.args.node (λ xs ns. no_name_twice xs) once_first c.in-Some.member c.loop-next.next (not c.is_named_again.result) once_by c.loop-next.invariant c.in-Some.is
    (λ s r ms ns b n u cs m g. ap not (c.is_named_again.ensures c.args.node n s u ms cs m g (c.next-following.ensures.next c.args.node n (object s ms) u m)))
    (ap not c.if-is_named_again.true) s s ms ms a a

pub loop-next-preserved : goal.loop-next-preserved
loop-next-preserved c =
    let d : Doc = doc_of c.args.values in
    walk_on d d c.args.node c.args.node (λ xs ns. no_name_twice xs) once_first c.in-Some.member c.loop-next.next c.next-following.result (not c.is_named_again.result) once_by c.loop-next.invariant c.in-Some.is
    (λ s r ms ns b n u cs m g. ap not (c.is_named_again.ensures c.args.node n s u ms cs m g (c.next-following.ensures.next c.args.node n (object s ms) u m)))
    (ap not c.if-is_named_again.false)
    (λ k n t u a. c.next-following.ensures.next k n t u a) c.next-following.ensures.inside

pub returns : goal.returns
unfolding no_name_twice
returns c = λ s ms a. walk_holds (doc_of c.args.values) (doc_of c.args.values) c.args.node c.args.node (λ xs ns. no_name_twice xs) c.loop-next.next (λ ns. refl) c.loop-next.invariant c.in_default.is s s ms ms a a
