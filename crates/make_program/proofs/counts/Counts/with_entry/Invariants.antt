use Rattle.std.proofs.Common.{◌≡◌, ◌+◌, fold, drop}
use Rattle.make_program.specs.Counts.{IsSound, with_out}
use Rattle.make_program.proofs.counts.Counts.with_entry.Given as goal

abbrev pub invariant-loop-out : goal.invariant-loop-out
invariant-loop-out l = record {
  counts : fold with_out l.counts (drop l.out-index l.out-items) ≡ fold with_out (record l.fn.self { causes = l.fn.self.causes + 1 }) l.out-items;
  sound : IsSound l.counts;
  outs : l.counts.outs ≡ l.fn.self.outs + l.out-index;
}
