-- An editor joined.
use Rattle.std.proofs.Common.{sym, ◌∙◌}
use Rattle.event_model.specs.Event.{with_cause}
use Rattle.mux_history.specs.declared.cause.Cause.TheVariants.{Joined}
use Rattle.mux_starts.specs.mux_tables.specs.Documents.{nothing_owed}
use Rattle.mux_entries.proofs.Joining.{closes_joined, joins}
use Rattle.mux_entries.proofs.editors.joined.Goals as goal

pub returns-in_ok-close-clause-does : goal.returns-in_ok-close-clause-does
returns-in_ok-close-clause-does c = λ settings before first st ds.
    let heard = c.in_ok-hear_joined.ensures.stands settings before st in
    let docs = c.in_ok-hear_joined.ensures.documents settings nothing_owed before st ds in
    let base = with_cause before (Joined c.args.e) in
    closes_joined settings before c.args.e c.hear_joined.new.self c.close.new.self c.args.outs.now c.close.new.outs first heard docs (sym (c.is_stopped.ensures settings base heard) ∙ c.if-is_stopped.true)
    (c.in_ok-close.ensures.does settings base) (λ unserved st ds. (c.in_ok-close.ensures.unserved settings nothing_owed base st unserved ds).1)

pub returns-else-is_stopped-clause-does : goal.returns-else-is_stopped-clause-does
returns-else-is_stopped-clause-does c = λ settings before first st ds.
    let heard = c.in_ok-hear_joined.ensures.stands settings before st in
    let docs = c.in_ok-hear_joined.ensures.documents settings nothing_owed before st ds in
    let base = with_cause before (Joined c.args.e) in
    joins settings before c.args.e c.hear_joined.new.self c.args.outs.now first heard docs (sym (c.is_stopped.ensures settings base heard) ∙ c.if-is_stopped.false)
