-- What the group's last start says is looked at.
use Rattle.std.proofs.Common.{sym, ◌∙◌}
use Rattle.mux_debts.proofs.Noting.{unwanted_stands}
use Rattle.mux_debts.proofs.notes.note_said.Goals as goal

pub returns-in_ok-note_wanted : goal.returns-in_ok-note_wanted
returns-in_ok-note_wanted c = λ settings before body x read known here st ds owed.
    c.in_ok-note_wanted.ensures settings before body x read known here (sym (c.wants.ensures settings before body x read here st) ∙ c.if-wants.true) st ds owed

pub returns-else-wants : goal.returns-else-wants
returns-else-wants c = λ settings before body x read known here st ds owed.
    unwanted_stands settings c.args.debts.now before owed x.life.start body (sym (c.wants.ensures settings before body x read here st) ∙ c.if-wants.false)
