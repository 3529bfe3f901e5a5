-- What waits of an editor is refused, and its link is to be ended.
use Rattle.mux_history.specs.declared.out.Out.TheVariants.{CloseEditor}
use Rattle.mux_tables.specs.Documents.{nothing_owed}
use Rattle.mux_starts.proofs.PutOut.{adds_one, adds_then, adds_told, parts}
use Rattle.mux_starts.proofs.refused.part.Goals as goal

pub returns-clause-adds : goal.returns-clause-adds
returns-clause-adds c = adds_then c.args.outs.now c.refuse_held.new.outs c.put_out.new.outs
    (adds_told c.args.outs.now c.refuse_held.new.outs c.in_ok-refuse_held.ensures.told) (adds_one c.refuse_held.new.outs c.put_out.new.outs (CloseEditor c.args.e) c.in_ok-put_out.ensures.outs)

pub returns-clause-does : goal.returns-clause-does
returns-clause-does c = λ settings base unready home.
    parts settings c.args.tables.now c.refuse_held.new.tables c.put_out.new.tables base c.args.outs.now c.refuse_held.new.outs c.put_out.new.outs c.args.g c.args.e unready home
    c.in_ok-refuse_held.ensures.lasts c.in_ok-refuse_held.ensures.told (c.in_ok-refuse_held.ensures.does settings base) (λ ds. c.in_ok-refuse_held.ensures.documents settings nothing_owed base ds)
    (λ off there. c.in_ok-put_out.ensures.does settings base c.args.g off there)
