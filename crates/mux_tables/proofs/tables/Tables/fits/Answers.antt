-- Whether a list fits an editor.
use Rattle.std.proofs.Common.{ℕ, List, ◌∙◌, ap, sym}
use Rattle.diagnostics_route.specs.Shown.{fits}
use Rattle.focus_switch.specs.Rows.{agreement}
use Rattle.mux_tables.proofs.DocumentAgreed.{agreement_here}
use Rattle.mux_tables.proofs.Listed.{got, got_none, stored}
use Rattle.mux_tables.proofs.tables.Tables.fits.Goals as goal

pub returns-in-Some : goal.returns-in-Some
returns-in-Some c = λ settings events x at ready st ds.
    c.fits.ensures ∙ ap (fits c.args.list.now) (c.agrees.ensures ∙ (ap (λ (u : List ℕ). agreement c.args.e u c.in-Some.shared.now) c.bytes.ensures
    ∙ sym (agreement_here settings c.args.self.now events c.args.g x c.in-Some.shared.now at (got c.args.self.now.documents.items c.deref.result.now c.args.g c.in-Some.shared.now c.deref.ensures.value c.in-Some.ensures.lookup.0 c.in-Some.ensures.lookup.1) ready ds c.args.e c.args.list.now.uri st)))

pub returns-in-None : goal.returns-in-None
returns-in-None c = λ settings events x at ready st ds. absurd (stored settings c.args.self.now events c.args.g x at ds (got_none c.args.self.now.documents.items c.deref.result.now c.args.g c.deref.ensures.value c.in-None.ensures.lookup.0))
