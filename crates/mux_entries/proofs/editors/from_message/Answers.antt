-- A message of an editor.
use Rattle.std.proofs.Common.{sym, ◌∙◌}
use Rattle.mux_entries.proofs.editors.from_message.Goals as goal

pub returns-in_ok-from_doubled-clause-does : goal.returns-in_ok-from_doubled-clause-does
returns-in_ok-from_doubled-clause-does c = λ settings before body read servers default first known settled fits st ds.
    c.in_ok-from_doubled.ensures.does settings before body read first (sym (c.is_doubled.ensures settings before body known settled st read) ∙ c.if-is_doubled.true) settled st ds

pub returns-in_ok-from_single-clause-does : goal.returns-in_ok-from_single-clause-does
returns-in_ok-from_single-clause-does c = λ settings before body read servers default first known settled fits st ds.
    c.in_ok-from_single.ensures.does settings before body read servers default first known settled fits (sym (c.is_doubled.ensures settings before body known settled st read) ∙ c.if-is_doubled.false) st ds
