-- An editor is turned out.
use Rattle.std.proofs.Common.{subst, sym}
use Rattle.mux_starts.specs.Refusing.{IsUnready}
use Rattle.mux_exits.proofs.Turning.{turned_out}
use Rattle.mux_tables.specs.Documents.{nothing_owed}
use Rattle.mux_exits.proofs.turned.turn_out.Goals as goal

pub returns-clause-does : goal.returns-clause-does
returns-clause-does c = λ settings base unready asking housed home.
    turned_out settings c.args.tables.now c.refuse_initialize.new.tables c.part.new.tables base c.args.outs.now c.refuse_initialize.new.outs c.part.new.outs c.args.g c.args.e (c.in_ok-refuse_initialize.ensures.does settings base asking housed)
    (λ ds. c.in_ok-refuse_initialize.ensures.documents settings nothing_owed base ds) home (λ there. c.in_ok-part.ensures.does settings base (subst (λ ls. IsUnready c.args.g ls.items) (sym c.refuse_initialize.ensures.lasts) unready) there)
