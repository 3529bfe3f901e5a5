-- An editor is parted with.
use Rattle.mux_starts.proofs.Parting.{parts_one}
use Rattle.mux_starts.proofs.results.part_one.Goals as goal

pub returns-clause-parted : goal.returns-clause-parted
returns-clause-parted c = parts_one c.args.tables.now c.refuse_held.new.tables c.close.new.self c.args.outs.now c.refuse_held.new.outs c.close.new.outs c.args.g c.args.e
    c.in_ok-refuse_held.ensures.lasts c.in_ok-refuse_held.ensures.same c.in_ok-refuse_held.ensures.versions c.in_ok-refuse_held.ensures.told c.in_ok-close.ensures.outs
    (λ settings base. c.in_ok-refuse_held.ensures.does settings base) (λ settings base. c.in_ok-close.ensures.does settings base)
    (λ settings owed base more. c.in_ok-close.ensures.ahead settings owed base more)
