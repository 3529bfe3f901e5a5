-- S7: what is taken back.
use Rattle.std.proofs.Common.{◌<◌, length, ap, subst, sym, ◌∙◌}
use Rattle.std.specs.Prelude.{option_map, slice_get}
use Rattle.std.specs.List.{All}
use Rattle.mux_history.specs.declared.cause.Cause.TheVariants.{FromServer}
use Rattle.event_model.specs.Event.{with_cause}
use Rattle.event_model.proofs.Turns.{does_alike}
use Rattle.group_rows.specs.Asks.{goes_to_one, may_wait}
use Rattle.group_rows.specs.Live.{live_of, unregister_text}
use Rattle.group_rows.specs.LiveRows.{call, unregister_row}
use Rattle.group_rows.proofs.LiveTexts.{again_written, live_written}
use Rattle.group_rows.specs.registrations.specs.Items.{again}
use Rattle.mux_tables.specs.Documents.{AllStand, nothing_owed}
use Rattle.mux_tables.proofs.Starts.{start_at_place}
use Rattle.mux_turns.proofs.Called.{unregister_call}
use Rattle.mux_turns.proofs.Matched.{whole_entry}
use Rattle.mux_starts.proofs.Parking.{hasty}
use Rattle.mux_starts.proofs.Registering.{gone_of, kept_row, none_taken, some_taken, taken_row, takes_back, told_all}
use Rattle.mux_starts.proofs.Singles.{fresh_here}
use Rattle.mux_starts.proofs.registered.take_back.Goals as goal

pub unregister_all-requires : goal.unregister_all-requires
unregister_all-requires c = subst (λ n. All (λ e. e < n) c.args.numbers.now) (sym (ap length c.unregister.ensures.editors)) c.requires.editors

pub returns-in_ok-decline-in-None-clause-does : goal.returns-in_ok-decline-in-None-clause-does
returns-in_ok-decline-in-None-clause-does c = λ settings before body method id params s x read says class named those fresh first here ready at st ds.
    let base = with_cause before (FromServer s body) in
    let u = c.unregister.new.self in
    let xs = c.args.outs.now in
    let ys = c.decline.new.outs in
    let live = live_of settings s before in
    let own = start_at_place c.args.tables.now.lasts.items c.args.g s x here at in
    let stay = hasty settings before s body id method params says (ap may_wait class) in
    let moved = c.in_ok-taken.ensures.stands settings before body method id params s x here ready at says class fresh named st in
    let docs = c.in_ok-taken.ensures.documents settings nothing_owed before body method id params s x here ready at says st ds in
    let none = none_taken body c.args.items.now live named (ap (option_map (λ v. v.items)) (sym c.in-None.is) ∙ (c.in_ok-taken.ensures.gone settings before x here ready st ∙ ap (λ n. gone_of c.args.items.now (live_of settings n before)) own)) in
    whole_entry (λ k events. AllStand settings k events) (unregister_row settings before x.life.group s body) base (u, nothing_owed) (u, nothing_owed) xs ys first (moved, docs)
    (does_alike (λ _. kept_row settings before x.life.group s body none)
    (c.in_ok-decline-in-None.ensures.does settings base body method id params s read says (ap (λ ns. slice_get ns c.args.g) c.in_ok-taken.ensures.starts ∙ at) (fresh_here settings before s body xs first id stay fresh)))

pub returns-in_ok-unregister_all-in-Some-clause-does : goal.returns-in_ok-unregister_all-in-Some-clause-does
returns-in_ok-unregister_all-in-Some-clause-does c = λ settings before body method id params s x read says class named those fresh first here ready at st ds.
    let base = with_cause before (FromServer s body) in
    let u = c.unregister.new.self in
    let v = c.unregister_all.new.tables in
    let xs = c.args.outs.now in
    let ys = c.accept.new.outs in
    let zs = c.unregister_all.new.outs in
    let items = c.args.items.now in
    let live = live_of settings s before in
    let own = start_at_place c.args.tables.now.lasts.items c.args.g s x here at in
    let stay = hasty settings before s body id method params says (ap may_wait class) in
    let moved = c.in_ok-taken.ensures.stands settings before body method id params s x here ready at says class fresh named st in
    let docs = c.in_ok-taken.ensures.documents settings nothing_owed before body method id params s x here ready at says st ds in
    let taken = some_taken body items live named c.in-Some.gone.items (ap (option_map (λ v. v.items)) (sym c.in-Some.is) ∙ (c.in_ok-taken.ensures.gone settings before x here ready st ∙ ap (λ n. gone_of items (live_of settings n before)) own)) in
    let granted = c.in_ok-accept-in-Some.ensures.does settings base body method id params s read says (ap (λ ns. slice_get ns c.args.g) c.in_ok-taken.ensures.starts ∙ at) (fresh_here settings before s body xs first id stay fresh) in
    let called = unregister_call (again items live) (again_written items live (live_written settings s before)) in
    whole_entry (λ k events. AllStand settings k events) (unregister_row settings before x.life.group s body) base (u, nothing_owed) (v, nothing_owed) xs zs first (moved, docs)
    (does_alike (λ _. taken_row settings before x.life.group s body items taken.0)
    (told_all settings before s x.life.group body method id params xs first says (ap goes_to_one class) u v ys zs c.args.numbers.now those (call (unregister_text (again items live))) granted
    (λ runs idle. takes_back settings base u v ys zs c.args.numbers.now c.deref.result.now (again items live) (c.deref.ensures.value ∙ taken.1) called (λ a. c.in_ok-unregister_all-in-Some.ensures.does settings base a runs idle))))
