use Rattle.json_span.specs.json_nodes.specs.Values.{doc_of}
use Rattle.json_span.specs.json_nodes.specs.Doc.{Doc}
use Rattle.rpc_message.specs.Names.{has_name}
use Rattle.rpc_message.proofs.NamesMet.{has_none, met_starts, met_fails, met_more, met_ends}
use Rattle.rpc_message.proofs.names.many_names_once.Goals as goal

pub loop-next-init : goal.loop-next-init
loop-next-init c =
    let d : Doc = doc_of c.args.values in
    met_starts d c.args.node (λ cs. has_name c.new-names.result cs) c.first-next.result (λ cs. has_none c.new-names.result c.new-names.ensures.empty cs)
    (λ t a. c.first-next.ensures.first t a) c.first-next.ensures.inside

pub returns-then-not-branch : goal.returns-then-not-branch
returns-then-not-branch c =
    let d : Doc = doc_of c.args.values in
    met_fails d c.args.node c.in-Some.member (λ cs. has_name c.loop-next.names cs) c.name.result.now c.in_ok-add_name.field-0 (λ k n t u cs a h. c.name.ensures.spelled k n t u cs a h)
    (λ cs s. c.in_ok-add_name.ensures.new cs s) c.loop-next.next c.loop-next.invariant c.in-Some.is c.if-not-branch.true

pub loop-next-preserved : goal.loop-next-preserved
loop-next-preserved c =
    let d : Doc = doc_of c.args.values in
    met_more d c.args.node c.in-Some.member (λ cs. has_name c.loop-next.names cs) c.name.result.now c.in_ok-add_name.field-0 (λ k n t u cs a h. c.name.ensures.spelled k n t u cs a h)
    (λ cs s. c.in_ok-add_name.ensures.new cs s) (λ cs. has_name c.add_name.new.names cs) (λ cs s ds. c.in_ok-add_name.ensures.names cs s ds)
    c.loop-next.next c.next-next.result c.loop-next.invariant c.in-Some.is (λ k n t u a. c.next-next.ensures.next k n t u a) c.next-next.ensures.inside c.if-not-branch.false

pub returns : goal.returns
returns c =
    let d : Doc = doc_of c.args.values in
    met_ends d c.args.node (λ cs. has_name c.loop-next.names cs) c.loop-next.next c.loop-next.invariant c.in_default.is
