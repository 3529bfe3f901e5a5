-- The ids of an editor's open requests.
use Rattle.std.proofs.Common.{◌∙◌}
use Rattle.id_rewrite.specs.Tables.{pending_of}
use Rattle.mux_tables.specs.Halts.{id_at}
use Rattle.mux_tables.proofs.OpenIds.{id_end, id_next, ids_so}
use Rattle.mux_tables.proofs.halts.ids_of.Goals as goal

pub loop-n-preserved : goal.loop-n-preserved
loop-n-preserved c = id_next (λ n. id_at (pending_of n c.args.ids.now.requests)) c.deref-n-items.result.now c.loop-n.n-index 0 c.loop-n.texts.items c.add_id.new.texts.items _ c.loop-n-test.true c.in_ok-add_id.ensures c.loop-n.invariant

pub returns : goal.returns
returns c = λ order. ids_so c.args.e c.args.ids.now c.deref-n-items.result.now c.loop-n.texts.items order (c.deref-n-items.ensures.value ∙ c.in_ok-numbers.ensures)
    (id_end (λ n. id_at (pending_of n c.args.ids.now.requests)) c.deref-n-items.result.now c.loop-n.n-index c.loop-n.texts.items _ c.loop-n-test.false c.loop-n.invariant)
