-- The versions of documents, by their URIs.
use Rattle.std.proofs.Common.{◌∷◌}
use Rattle.mux_tables.proofs.Stamping.{popped, stamped_more}
use Rattle.mux_tables.proofs.notes.stamps.Goals as goal

pub loop-document-preserved : goal.loop-document-preserved
loop-document-preserved c =
    let h = c.loop-document.invariant in
    (c.in-Some.document ∷ h.0, popped c.args.versions.items c.loop-document.left.items c.pop.new.self.items h.0 c.in-Some.document h.1 c.in-Some.ensures.items, stamped_more c.in-Some.document h.0 c.loop-document.stamps c.put.new.stamps h.2 c.in_ok-put.ensures)
