-- Whether the start agrees with an editor on all that the editor has open.
use Rattle.std.proofs.Common.{◌≡◌, IfOk, sym, subst}
use Rattle.mux_tables.proofs.DocumentAgreed.{agrees_here}
use Rattle.mux_tables.proofs.Listed.{got, got_none, stored}
use Rattle.mux_tables.proofs.tables.Tables.agrees_on_all.Goals as goal

pub returns-in-Some : goal.returns-in-Some
returns-in-Some c = λ settings events x at ready st ds. subst (λ b. IfOk c.agrees_on_all.result (λ answer. answer ≡ b))
    (sym (agrees_here settings c.args.self.now events c.args.g x c.in-Some.shared.now at (got c.args.self.now.documents.items c.deref.result.now c.args.g c.in-Some.shared.now c.deref.ensures.value c.in-Some.ensures.lookup.0 c.in-Some.ensures.lookup.1) ready ds c.args.e st))
    c.agrees_on_all.ensures

pub returns-in-None : goal.returns-in-None
returns-in-None c = λ settings events x at ready st ds. absurd (stored settings c.args.self.now events c.args.g x at ds (got_none c.args.self.now.documents.items c.deref.result.now c.args.g c.deref.ensures.value c.in-None.ensures.lookup.0))
