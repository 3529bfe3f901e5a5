-- What was gathered is said, and the group goes on.
use Rattle.std.proofs.Common.{◌<◌, length, sym, subst, ap, ◌∙◌}
use Rattle.std.specs.Prelude.{slice_get}
use Rattle.group_rows.specs.Live.{unregister_text}
use Rattle.mux_exits.proofs.Ending.{renew_does}
use Rattle.mux_tables.specs.Documents.{nothing_owed}
use Rattle.mux_turns.specs.Calls.{IsCall}
use Rattle.mux_exits.proofs.exits.renew.Goals as goal

pub respawn-requires-clause-group : goal.respawn-requires-clause-group
respawn-requires-clause-group c = subst (λ ls. c.args.g < length ls.items) (sym c.in_ok-tell_losses.ensures.lasts) c.requires.group

pub respawn-requires-clause-ended : goal.respawn-requires-clause-ended
respawn-requires-clause-ended c = λ x at. c.requires.over x (ap (λ ls. slice_get ls.items c.args.g) (sym c.in_ok-tell_losses.ensures.lasts) ∙ at)

pub returns-clause-does : goal.returns-clause-does
returns-clause-does c = λ settings base x here can.
    let u = c.tell_losses.new.tables in
    let ys = c.tell_losses.new.outs in
    renew_does settings c.args.tables.now u c.respawn.new.self base x.life.group c.args.outs.now ys c.respawn.new.outs c.args.parting c.deref.result.now c.deref.ensures.value
    (c.in_ok-tell_losses.ensures.does settings base (subst (λ rs. IsCall (unregister_text rs)) (sym c.deref.ensures.value) can.call) can.losses can.idle)
    (c.in_ok-respawn.ensures.does settings base x (ap (λ ls. slice_get ls.items c.args.g) c.in_ok-tell_losses.ensures.lasts ∙ here))
    (λ st ds. c.in_ok-respawn.ensures.documents settings nothing_owed base st ds)
