-- What is told of a group, where it has a start.
use Rattle.mux_tables.proofs.Starts.{start_there}
use Rattle.mux_editors.proofs.Telling.{none_told, one_told}
use Rattle.mux_editors.proofs.status.add_item.Goals as goal

pub returns-in-None : goal.returns-in-None
returns-in-None c = λ settings before servers runs st. none_told settings before c.args.g c.args.items.now.items runs (c.in-None.ensures.none settings before st)

pub returns-in_ok-push-in-Some : goal.returns-in_ok-push-in-Some
returns-in_ok-push-in-Some c = λ settings before servers runs st.
    let s = start_there c.args.tables.now.lasts.items c.in-Some.place c.in-Some.ensures.inside in
    one_told settings before c.args.g s.0 c.args.items.now.items c.push.new.self.items _ (c.in-Some.ensures.start settings before s.0 s.1 st) c.in_ok-push-in-Some.ensures.items (c.in_ok-item-in-Some.ensures settings before s.0 servers s.1 st)
