-- A group of which something is kept.
use Rattle.std.proofs.Common.{◌∙◌, ap, arith, nat_lt, rules, sym}
use Rattle.std.proofs.lemmas.List.Sorted.{IsPartitionPoint-from_clause}
use Rattle.mux_tables.specs.declared.tables.Start.{Start}
use Rattle.mux_tables.proofs.Homes.{ended_here, start_seen}
use Rattle.mux_tables.proofs.Placed.{other_lost_in, past_lost_in}
use Rattle.mux_tables.proofs.Starts.{read_here, read_same}
use Rattle.mux_tables.proofs.tables.Tables.place_of.Goals as goal

pub returns-then-place-len-clause-lost : goal.returns-then-place-len-clause-lost
returns-then-place-len-clause-lost c = λ rise.
    past_lost_in c.args.self.now.lasts.items c.deref.result.now c.args.g c.partition_point-place.result c.deref.ensures.value rise c.partition_point-place.ensures.bound
    (λ parted. IsPartitionPoint-from_clause (λ (x : Start). nat_lt x.life.group c.args.g) c.deref.result.now c.partition_point-place.result c.partition_point-place.ensures.partitioned parted (λ a r f called. search rules)) (omega (arith, c.len.ensures))

pub returns-then-place-len-clause-none : goal.returns-then-place-len-clause-none
returns-then-place-len-clause-none c = λ settings events st. ended_here settings c.args.self.now events c.args.g st (λ rise.
    past_lost_in c.args.self.now.lasts.items c.deref.result.now c.args.g c.partition_point-place.result c.deref.ensures.value rise c.partition_point-place.ensures.bound
    (λ parted. IsPartitionPoint-from_clause (λ (x : Start). nat_lt x.life.group c.args.g) c.deref.result.now c.partition_point-place.result c.partition_point-place.ensures.partitioned parted (λ a r f called. search rules)) (omega (arith, c.len.ensures)))

pub returns-then-group-g-clause-lost : goal.returns-then-group-g-clause-lost
returns-then-group-g-clause-lost c = λ rise.
    other_lost_in c.args.self.now.lasts.items c.deref.result.now c.args.g c.partition_point-place.result c.deref.ensures.value rise c.partition_point-place.ensures.bound
    (λ parted. IsPartitionPoint-from_clause (λ (x : Start). nat_lt x.life.group c.args.g) c.deref.result.now c.partition_point-place.result c.partition_point-place.ensures.partitioned parted (λ a r f called. search rules))
    c.index.result.now (read_here c.args.self.now.lasts.items c.partition_point-place.result c.index.result.now (omega (arith, c.len.ensures)) c.index.ensures) (λ e. c.if-group-g.true (c.group.ensures ∙ e))

pub returns-then-group-g-clause-none : goal.returns-then-group-g-clause-none
returns-then-group-g-clause-none c = λ settings events st. ended_here settings c.args.self.now events c.args.g st (λ rise.
    other_lost_in c.args.self.now.lasts.items c.deref.result.now c.args.g c.partition_point-place.result c.deref.ensures.value rise c.partition_point-place.ensures.bound
    (λ parted. IsPartitionPoint-from_clause (λ (x : Start). nat_lt x.life.group c.args.g) c.deref.result.now c.partition_point-place.result c.partition_point-place.ensures.partitioned parted (λ a r f called. search rules))
    c.index.result.now (read_here c.args.self.now.lasts.items c.partition_point-place.result c.index.result.now (omega (arith, c.len.ensures)) c.index.ensures) (λ e. c.if-group-g.true (c.group.ensures ∙ e)))

pub returns-clause-number : goal.returns-clause-number
returns-clause-number c = λ x here. ap (λ (w : Start). w.life.group) (sym (read_same c.args.self.now.lasts.items c.partition_point-place.result c.index.result.now x (omega (arith, c.len.ensures)) c.index.ensures here)) ∙ (sym c.group.ensures ∙ c.if-group-g.false)

pub returns-clause-start : goal.returns-clause-start
returns-clause-start c = λ settings events s at st. start_seen settings c.args.self.now events c.args.g st c.partition_point-place.result s (omega (arith, c.len.ensures))
    (λ x here. ap (λ (w : Start). w.life.group) (sym (read_same c.args.self.now.lasts.items c.partition_point-place.result c.index.result.now x (omega (arith, c.len.ensures)) c.index.ensures here)) ∙ (sym c.group.ensures ∙ c.if-group-g.false)) at
