use Rattle.std.proofs.Common.{refl, ◌∙◌, ap, not}
use Rattle.std.specs.Option.{is_some}
use Rattle.json_text.specs.Json.{object}
use Rattle.json_text.specs.Named.{named}
use Rattle.json_nodes.specs.Values.{doc_of}
use Rattle.json_nodes.specs.Doc.{Doc}
use Rattle.json_nodes.specs.Same.{names_within}
use Rattle.json_nodes.proofs.Sames.{walk_on, walk_fails, walk_holds, names_by, within_first, found_some}
use Rattle.json_nodes.proofs.same.names_within.Goals as goal

pub returns-then-is_none : goal.returns-then-is_none
returns-then-is_none c =
    let e : Doc = doc_of c.args.right.now.values in
    walk_fails (doc_of c.args.left.now.values) e c.args.left.now.node c.args.right.now.node names_within within_first c.in-Some.member c.loop-next.next (is_some c.last_named.result) names_by c.loop-next.invariant c.in-Some.is
    (λ s r ms ns a n u cs m g. found_some e (named cs ns) c.last_named.result (c.last_named.ensures.named r ns cs a (c.name.ensures.spelled c.args.left.now.node n (object s ms) u cs m g)))
    (c.is_none.ensures ∙ ap not c.if-is_none.true)

pub loop-next-preserved : goal.loop-next-preserved
loop-next-preserved c =
    let e : Doc = doc_of c.args.right.now.values in
    walk_on (doc_of c.args.left.now.values) e c.args.left.now.node c.args.right.now.node names_within within_first c.in-Some.member c.loop-next.next c.next-next.result (is_some c.last_named.result) names_by c.loop-next.invariant c.in-Some.is
    (λ s r ms ns a n u cs m g. found_some e (named cs ns) c.last_named.result (c.last_named.ensures.named r ns cs a (c.name.ensures.spelled c.args.left.now.node n (object s ms) u cs m g)))
    (c.is_none.ensures ∙ ap not c.if-is_none.false)
    (λ k n t u a. c.next-next.ensures.next k n t u a) c.next-next.ensures.inside

pub returns : goal.returns
returns c = walk_holds (doc_of c.args.left.now.values) (doc_of c.args.right.now.values) c.args.left.now.node c.args.right.now.node names_within c.loop-next.next (λ ns. refl) c.loop-next.invariant c.in_default.is
