-- A cancel goes to the group's last start.
use Rattle.std.proofs.Common.{arith, codes, refl}
use Rattle.mux_tables.specs.Documents.{nothing_owed}
use Rattle.mux_editors.proofs.Cancelling.{cancel_goes}
use Rattle.mux_editors.proofs.cancelled.pass_cancel.Goals as goal

pub returns-clause-does : goal.returns-clause-does
returns-clause-does c = λ settings base body params id s read says named at.
    let low = c.ranges.n.fits in
    cancel_goes settings base c.args.tables.now c.cancel.new.self c.args.outs.now c.cancel.new.outs s c.args.n body c.in_ok-text.text params id (omega (arith, low)) says named (c.in_ok-text.ensures body (codes "$/cancelRequest") params read says)
    (λ ps said writes. c.in_ok-cancel.ensures.does settings base s (codes "$/cancelRequest") ps at said refl writes)
    (λ ps said ds. c.in_ok-cancel.ensures.documents settings nothing_owed base (codes "$/cancelRequest") ps said refl ds)
