-- The versions of documents, by their URIs.
use Rattle.std.proofs.Common.{ap, map, ◌∷◌, ◌∙◌}
use Rattle.mux_tables.specs.Notes.{now_version, stamp_in}
use Rattle.mux_tables.proofs.Stamping.{popped, stamped_more}
use Rattle.mux_tables.proofs.notes.now_stamps.Goals as goal

pub loop-document-preserved : goal.loop-document-preserved
loop-document-preserved c =
    let h = c.loop-document.invariant in (
      c.in-Some.document ∷ h.0,
      popped c.args.versions.items c.loop-document.left.items c.pop.new.self.items h.0 c.in-Some.document h.1 c.in-Some.ensures.items,
      λ u. stamped_more c.now_version.result (map (now_version c.args.e c.args.documents.now) h.0) c.loop-document.stamps c.put.new.stamps h.2 c.in_ok-put.ensures u
          ∙ ap (λ x. stamp_in u (x ∷ map (now_version c.args.e c.args.documents.now) h.0)) c.now_version.ensures,
    )
