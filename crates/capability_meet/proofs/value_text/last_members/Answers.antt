use Rattle.json_text.specs.Json.{object}
use Rattle.json_nodes.specs.Values.{doc_of}
use Rattle.capability_meet.specs.ValueText.{value_text}
use Rattle.capability_meet.proofs.NamedPairs.{pairs_begin, pairs_done, pairs_go}
use Rattle.capability_meet.proofs.value_text.last_members.Goals as goal

pub loop-next-init : goal.loop-next-init
loop-next-init c = pairs_begin (doc_of c.args.values) c.args.node c.new-last.result.entries c.first-next.result c.new-last.ensures.empty (λ t a. c.first-next.ensures.first t a) c.first-next.ensures.inside

pub loop-next-preserved : goal.loop-next-preserved
loop-next-preserved c = pairs_go (doc_of c.args.values) c.args.node c.loop-next.last.entries c.keep.new.last.entries c.loop-next.next c.next-next.result c.in-Some.member c.loop-next.invariant c.in-Some.is
    (λ k n t u a. c.next-next.ensures.next k n t u a) c.next-next.ensures.inside
    (λ low high a b h. c.in_ok-keep.ensures.inside low high a b h)
    (λ n s ms u cs ps k g t h. c.in_ok-keep.ensures.pairs (doc_of c.args.values) cs (value_text u) ps (c.name.ensures.spelled c.args.node n (object s ms) u cs k g) t h)

pub returns-clause-inside : goal.returns-clause-inside
returns-clause-inside c = c.loop-next.invariant.between

pub returns-clause-pairs : goal.returns-clause-pairs
returns-clause-pairs c = λ s ms a. pairs_done (doc_of c.args.values) c.args.node c.loop-next.last.entries c.loop-next.next c.loop-next.invariant c.in_default.is s ms a
