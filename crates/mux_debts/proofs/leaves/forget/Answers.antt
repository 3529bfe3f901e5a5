-- One out.
use Rattle.std.proofs.Common.{[], ◌∷◌, ◌++◌, subst, sym}
use Rattle.event_model.specs.Event.{said}
use Rattle.mux_history.specs.declared.out.Out.TheVariants.{CloseEditor}
use Rattle.mux_debts.specs.Stands.{DebtsStand}
use Rattle.mux_debts.proofs.Standing.{closed_stands, said_stands}
use Rattle.mux_debts.proofs.leaves.forget.Goals as goal

pub returns-in-CloseEditor : goal.returns-in-CloseEditor
returns-in-CloseEditor c = λ settings events st.
    subst (λ out. DebtsStand settings c.leave.new.self (events ++ said out ∷ [])) (sym c.in-CloseEditor.is)
    (subst (λ rows. DebtsStand settings rows (events ++ said (CloseEditor c.in-CloseEditor.e) ∷ [])) (sym c.leave.ensures) (closed_stands settings c.args.debts.now events st c.in-CloseEditor.e))

pub returns-in_default : goal.returns-in_default
returns-in_default c = λ settings events st. said_stands settings c.args.debts.now events st c.args.out.now c.in_default.not-CloseEditor
