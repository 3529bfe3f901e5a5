use Rattle.std.proofs.Common.{subst, sym}
use Rattle.capability_meet.specs.NamedValues.{AreBetween, ArePairs}
use Rattle.capability_meet.proofs.NamedPairs.{between_put, pairs_put}
use Rattle.std.specs.FinMap.Entries.{put}
use Rattle.capability_meet.specs.ValueText.{by_name}
use Rattle.capability_meet.proofs.value_text.keep.Goals as goal

pub returns-clause-inside : goal.returns-clause-inside
returns-clause-inside c = λ low high a b h. subst (λ es. AreBetween low high es) (sym c.in_ok-insert.ensures.entries) (between_put low high c.in_ok-name.name c.args.member c.args.last.now.entries a b h)

pub returns-clause-pairs : goal.returns-clause-pairs
returns-clause-pairs c = λ d cs text ps k t h. subst (λ es. ArePairs d es (put by_name cs text ps)) (sym c.in_ok-insert.ensures.entries) (pairs_put d c.in_ok-name.name c.args.member cs text c.args.last.now.entries ps (c.in_ok-name.ensures cs k) t h)
