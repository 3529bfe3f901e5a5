-- One more is awaited.
use Rattle.std.proofs.Common.{ap, sym, ◌∙◌, nat_lt, rules}
use Rattle.std.specs.List.{insert}
use Rattle.std.proofs.lemmas.List.Sorted.{IsPartitionPoint-from_clause}
use Rattle.mux_tables.proofs.Awaited.{goes_between}
use Rattle.mux_tables.proofs.stops.begin_stop.Goals as goal

pub returns : goal.returns
returns c = λ low high is under over. c.in_ok-insert.ensures.items ∙ ap (λ ys. insert ys c.partition_point-at.result c.args.s) (sym c.deref.ensures.value)
    ∙ goes_between c.args.s c.deref.result.now low high c.partition_point-at.result c.partition_point-at.ensures.bound
    (λ parted. IsPartitionPoint-from_clause (λ n. nat_lt n c.args.s) c.deref.result.now c.partition_point-at.result c.partition_point-at.ensures.partitioned parted (λ a r f called. search rules)) (c.deref.ensures.value ∙ is) under over
