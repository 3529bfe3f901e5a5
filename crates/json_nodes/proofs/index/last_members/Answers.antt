use Rattle.json_nodes.specs.Index.{number_of}
use Rattle.json_nodes.specs.Values.{doc_of}
use Rattle.json_nodes.proofs.ByName.{none_kept, keeping_starts, keeping_on, keeping_ends}
use Rattle.json_nodes.proofs.index.last_members.Goals as goal

pub loop-next-init : goal.loop-next-init
loop-next-init c = keeping_starts (doc_of c.args.values) c.args.node (λ cs. number_of c.new-last.result cs) c.first-next.result (λ cs. none_kept c.new-last.result c.new-last.ensures.empty cs)
    (λ t a. c.first-next.ensures.first t a) c.first-next.ensures.inside

pub loop-next-preserved : goal.loop-next-preserved
loop-next-preserved c = keeping_on (doc_of c.args.values) c.args.node c.in-Some.member (λ cs. number_of c.loop-next.last cs) (λ cs. number_of c.keep.new.last cs) c.loop-next.next c.next-next.result c.loop-next.invariant c.in-Some.is
    (λ n t u cs a h ds. c.in_ok-keep.ensures cs (c.name.ensures.spelled c.args.node n t u cs a h) ds)
    (λ k n t u a. c.next-next.ensures.next k n t u a) c.next-next.ensures.inside

pub returns : goal.returns
returns c = λ s ms cs a. keeping_ends (doc_of c.args.values) c.args.node (λ ds. number_of c.loop-next.last ds) c.loop-next.next c.loop-next.invariant c.in_default.is s ms cs a
