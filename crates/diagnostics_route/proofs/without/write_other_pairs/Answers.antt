use Rattle.std.proofs.Common.{◌++◌, sym, ◌∙◌, append-nil, false}
use Rattle.std.specs.Prelude.{None}
use Rattle.std.specs.Str.{chars}
use Rattle.json_nodes.specs.Values.{doc_of}
use Rattle.capability_meet.specs.Parts.{listed}
use Rattle.capability_meet.specs.Shown.{other_pairs}
use Rattle.capability_meet.proofs.Walks.{members_done, members_go}
use Rattle.diagnostics_route.proofs.without.write_other_pairs.Goals as goal

pub loop-next-preserved : goal.loop-next-preserved
loop-next-preserved c =
    members_go (doc_of c.args.values) c.args.node (λ (i : Unit {0}). Unit {0}) _ (λ i ms. c.loop-next.out.items ++ listed c.loop-next.started (other_pairs c.args.values.bytes.now (chars c.args.name.now) None ms)) (λ i ms. c.write_other_pair.new.out.items ++ listed c.in_ok-started.started (other_pairs c.args.values.bytes.now (chars c.args.name.now) None ms))
    c.loop-next.next c.next-next.result c.in-Some.pair c.loop-next.invariant c.in-Some.is
    (λ k n t u a. c.next-next.ensures.next k n t u a) c.next-next.ensures.inside
    (λ i k s ms p cs u rest w. sym (c.in_ok-started.ensures c.args.node w.count s p ms rest cs u w.child w.name w.here))

pub returns : goal.returns
returns c = λ s ms a. sym (append-nil c.loop-next.out.items) ∙ members_done (doc_of c.args.values) c.args.node (λ (i : Unit {0}). Unit {0}) (λ i ms. c.args.out.now.items ++ listed false (other_pairs c.args.values.bytes.now (chars c.args.name.now) None ms)) (λ i ms. c.loop-next.out.items ++ listed c.loop-next.started (other_pairs c.args.values.bytes.now (chars c.args.name.now) None ms)) c.loop-next.next c.loop-next.invariant c.in_default.is tt tt s ms a
