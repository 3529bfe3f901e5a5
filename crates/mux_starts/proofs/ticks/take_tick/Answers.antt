-- A tick.
use Rattle.std.proofs.Common.{◌∙◌}
use Rattle.mux_tables.specs.Documents.{nothing_owed}
use Rattle.mux_starts.proofs.Ticking.{ticks}
use Rattle.mux_starts.proofs.ticks.take_tick.Goals as goal

pub returns-clause-does : goal.returns-clause-does
returns-clause-does c = λ settings before first grace known st ds.
    ticks settings before c.args.now known c.args.tables.now st c.hear_tick.new.self c.end_groups.new.tables c.end_programs.new.tables c.args.outs.now c.end_groups.new.outs c.end_programs.new.outs c.deref.result.now c.deref-2.result.now first
    (c.in_ok-due.ensures.stands settings before st) (c.in_ok-due.ensures.documents settings nothing_owed before ds)
    (c.deref.ensures.value ∙ c.in_ok-due.ensures.due settings before st) (c.deref-2.ensures.value ∙ c.in_ok-late.ensures settings before grace st)
    (λ numbered. c.in_ok-end_groups.ensures.does settings nothing_owed _ numbered) (λ stopping. c.in_ok-end_programs.ensures.does settings _ stopping)
