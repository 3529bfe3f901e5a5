use Rattle.json_nodes.specs.Values.{doc_of}
use Rattle.json_nodes.specs.Doc.{Doc}
use Rattle.json_nodes.proofs.Spelling.{decided, looking_found, looking_on, looking_ends}
use Rattle.json_nodes.proofs.values.Values.last_spelled.Goals as goal
use Rattle.json_nodes.proofs.values.Values.last_spelled.Goals.{then-same_characters, else-same_characters}

pub loop-next-preserved : goal.loop-next-preserved
loop-next-preserved c =
    let doc : Doc = doc_of c.args.self in
    elim c.if-same_characters.branch [
      | then-same_characters w ↦ looking_found c.args.raw.now doc c.in-Some.member c.args.from c.loop-next.next c.next-next.result c.loop-next.found c.if-same_characters.found c.same_characters.result c.loop-next.invariant c.in-Some.is w.if-same_characters.true w.found-is
          (λ cs h k n t u ds a g. decided c.same_characters.result cs ds (c.same_characters.ensures.strings cs ds h (c.name.ensures.spelled k n t u ds a g)))
          (λ k n t u a. c.next-next.ensures.next k n t u a) c.next-next.ensures.inside
      | else-same_characters w ↦ looking_on c.args.raw.now doc c.in-Some.member c.args.from c.loop-next.next c.next-next.result c.loop-next.found c.if-same_characters.found c.same_characters.result c.loop-next.invariant c.in-Some.is w.if-same_characters.false w.found-is
          (λ cs h k n t u ds a g. decided c.same_characters.result cs ds (c.same_characters.ensures.strings cs ds h (c.name.ensures.spelled k n t u ds a g)))
          (λ k n t u a. c.next-next.ensures.next k n t u a) c.next-next.ensures.inside
    ]

pub returns-clause-named : goal.returns-clause-named
returns-clause-named c = λ k n s ms cs h f. looking_ends c.args.raw.now (doc_of c.args.self) c.args.from c.loop-next.next c.loop-next.found c.loop-next.invariant c.in_default.is k n s ms cs h f
