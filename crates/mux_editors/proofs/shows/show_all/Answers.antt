-- All that aren't empty are shown.
use Rattle.std.proofs.Common.{ap, subst, ◌∙◌}
use Rattle.event_model.specs.Does.{Does}
use Rattle.event_model.specs.Event.{behind}
use Rattle.event_model.specs.Row.{each}
use Rattle.event_model.proofs.Turns.{does_knowing}
use Rattle.group_rows.specs.diagnostics_route.specs.Lists.{nonempty}
use Rattle.group_rows.specs.Lists.{lists_of}
use Rattle.mux_tables.specs.Documents.{AllStand}
use Rattle.mux_editors.specs.Shows.{show_at}
use Rattle.mux_editors.proofs.Showing.{lists_behind}
use Rattle.mux_editors.proofs.shows.show_all.Goals as goal

pub returns-clause-does : goal.returns-clause-does
returns-clause-does c = λ settings owed base x here ready meant.
    let t = c.args.tables.now in
    let s = x.life.start in
    let xs = c.args.outs.now in
    does_knowing (λ k.
    let those = c.deref.ensures.value ∙ (c.in_ok-numbers.ensures settings (behind base xs) x here ready k.0 ∙ ap nonempty (lists_behind s base xs)) in
    subst (λ ns. Does (λ k events. AllStand settings k events) (each (show_at c.args.e (lists_of s base)) ns) base (t, owed) xs (c.show_each.new.tables, owed) c.show_each.new.outs) those
    (c.in_ok-show_each.ensures.does settings owed base x here ready meant))
