-- The program runs.
use Rattle.std.proofs.Common.{true, refl, ap, ◌∙◌}
use Rattle.restart_replay.specs.Standings.{Standing}
use Rattle.mux_tables.proofs.Served.{begun_start, started_moves}
use Rattle.mux_tables.proofs.Starts.{starts_stay}
use Rattle.mux_tables.proofs.DocumentHeard.{started_documents}
use Rattle.mux_tables.proofs.tables.Tables.hear_started.Goals as goal

pub returns-clause-stands : goal.returns-clause-stands
returns-clause-stands c = λ settings events s at st. started_moves settings c.args.self.now _ events c.args.g s c.index_mut-last.result.now c.begin.new.life at c.requires c.index_mut-last.ensures.value c.begin.ensures refl refl refl refl refl refl st

pub returns-clause-documents : goal.returns-clause-documents
returns-clause-documents c = λ settings owed events s ds. started_documents settings owed events s c.args.self.now _ c.args.g c.index_mut-last.result.now c.begin.new.life c.requires c.index_mut-last.ensures.value c.begin.ensures refl refl refl ds

pub returns-clause-starts : goal.returns-clause-starts
returns-clause-starts c =
    let z = c.index_mut-last.result.now in
    starts_stay c.args.self.now.lasts.items c.args.g z (record z { life = c.begin.new.life; started = true }) c.requires c.index_mut-last.ensures.value (ap (λ (l : Standing). l.start) c.begin.ensures ∙ begun_start z.life.stage z.life)
