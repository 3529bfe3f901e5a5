use Rattle.capability_meet.specs.declared.kinds.Pair.TheVariants as pair
use Rattle.capability_meet.proofs.Pairs.{meets_arrays, meets_least, meets_objects, meets_rest, pair_kinds}
use Rattle.capability_meet.proofs.twins.meets.Goals as goal

pub returns-in-Least : goal.returns-in-Least
returns-in-Least c = λ t u a b. meets_least t u (pair_kinds c.kind.result c.kind-2.result t u c.pair_of.result pair.Least (record { first = c.kind.ensures t a; second = c.kind-2.ensures u b }) c.pair_of.ensures c.in-Least.is)

pub returns-in-Arrays : goal.returns-in-Arrays
returns-in-Arrays c = λ t u a b. meets_arrays t u (pair_kinds c.kind.result c.kind-2.result t u c.pair_of.result pair.Arrays (record { first = c.kind.ensures t a; second = c.kind-2.ensures u b }) c.pair_of.ensures c.in-Arrays.is)

pub returns-in-Objects : goal.returns-in-Objects
returns-in-Objects c = λ t u a b. meets_objects t u (pair_kinds c.kind.result c.kind-2.result t u c.pair_of.result pair.Objects (record { first = c.kind.ensures t a; second = c.kind-2.ensures u b }) c.pair_of.ensures c.in-Objects.is)

pub returns-in-Others : goal.returns-in-Others
returns-in-Others c = λ t u a b. meets_rest t u c.same.result (pair_kinds c.kind.result c.kind-2.result t u c.pair_of.result pair.Others (record { first = c.kind.ensures t a; second = c.kind-2.ensures u b }) c.pair_of.ensures c.in-Others.is) (c.same.ensures.test t u a b)
