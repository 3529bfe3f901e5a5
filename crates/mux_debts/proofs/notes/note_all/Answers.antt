-- One more, and all of them.
use Rattle.std.proofs.Common.{get_or, ap, sym, ◌∙◌}
use Rattle.std.proofs.lemmas.List.{take_all}
use Rattle.std.proofs.lemmas.List.Sums.{fold_more}
use Rattle.mux_debts.specs.Noted.{all_noted, noted}
use Rattle.mux_debts.proofs.notes.note_all.Goals as goal

pub loop-e-preserved : goal.loop-e-preserved
loop-e-preserved c = λ settings before body method id params x read says wants here ready st ds.
    let s = x.life.start in
    c.in_ok-note.ensures settings before body method id params x read says wants here ready st ds
    ∙ (ap (λ rows. noted settings s before body method rows (get_or c.args.numbers.now c.loop-e.e-index 0)) (c.loop-e.invariant settings before body method id params x read says wants here ready st ds)
    ∙ sym (fold_more (noted settings s before body method) c.args.debts.now c.args.numbers.now c.loop-e.e-index 0 c.loop-e-test.true))

pub returns : goal.returns
returns c = λ settings before body method id params x read says wants here ready st ds.
    c.loop-e.invariant settings before body method id params x read says wants here ready st ds ∙ ap (λ es. all_noted settings x.life.start before body method es c.args.debts.now) (take_all c.loop-e.e-index c.args.numbers.now c.loop-e-test.false)
