-- The last start of a group that lives no more is over.
use Rattle.std.proofs.Common.{refl, ap, sym, ◌∙◌, None}
use Rattle.std.proofs.lemmas.List.{length-set}
use Rattle.mux_tokens.specs.progress_route.specs.Tables.{less}
use Rattle.mux_tables.specs.declared.tables.Start.{Start}
use Rattle.restart_replay.specs.Standings.{moved}
use Rattle.event_model.specs.declared.stage.Stage.TheVariants.{Ended}
use Rattle.event_model.proofs.Places.{get_set_same, item_at, same_item}
use Rattle.mux_tables.proofs.Exits.{left_exits}
use Rattle.mux_tables.proofs.Served.{exit_heard, failure_heard}
use Rattle.mux_tables.proofs.DocumentSaid.{exit_documents, failure_documents}
use Rattle.restart_replay.specs.Standings.{Standing}
use Rattle.mux_tables.specs.Stands.{number_in, unstopped}
use Rattle.mux_tables.proofs.Starts.{read_here, read_same}
use Rattle.mux_tables.proofs.tables.Tables.end_last.Goals as goal

pub over-requires : goal.over-requires
over-requires c = c.requires.runs c.index_mut-last.result.now (read_here c.args.self.now.lasts.items c.args.g c.index_mut-last.result.now c.requires.group c.index_mut-last.ensures.value)

pub returns-clause-exit : goal.returns-clause-exit
returns-clause-exit c = λ settings events s at dead st. exit_heard settings c.args.self.now _ events c.args.g s settings.limits.restarts refl at c.requires.group (λ z here.
    let e = read_same c.args.self.now.lasts.items c.args.g c.index_mut-last.result.now z c.requires.group c.index_mut-last.ensures.value here in
    left_exits settings.limits.restarts c.args.self.now _ c.args.g z (record { life = c.over.new.self; started = c.index_mut-last.result.now.started; ids = c.new-ids.result; shown = None; asks = c.new-asks.result; parked = c.new-parked.result; live = c.new-live.result; lists = c.new-lists.result }) (λ x at. dead z x here at) refl refl (c.over.ensures ∙ ap (λ w. moved Ended w.life) e) (ap (λ w. w.started) e)
    c.new-ids.ensures.requests c.new-ids.ensures.next c.new-ids.ensures.limit c.new-ids.ensures.order refl refl refl (c.end_stop.ensures ∙ ap (λ n. unstopped n c.args.self.now.origins.stopping.items) (c.start.ensures ∙ ap (λ (l : Standing). l.start) c.over.ensures ∙ ap number_in e)) (c.end_start.ensures ∙ ap (λ n. less n c.args.self.now.origins.created) (c.start-2.ensures ∙ ap (λ (l : Standing). l.start) c.over.ensures ∙ ap number_in e)) refl refl) st

pub returns-clause-failure : goal.returns-clause-failure
returns-clause-failure c = λ settings events s at dead st. failure_heard settings c.args.self.now _ events c.args.g s settings.limits.restarts refl at c.requires.group (λ z here.
    let e = read_same c.args.self.now.lasts.items c.args.g c.index_mut-last.result.now z c.requires.group c.index_mut-last.ensures.value here in
    left_exits settings.limits.restarts c.args.self.now _ c.args.g z (record { life = c.over.new.self; started = c.index_mut-last.result.now.started; ids = c.new-ids.result; shown = None; asks = c.new-asks.result; parked = c.new-parked.result; live = c.new-live.result; lists = c.new-lists.result }) (λ x at. dead z x here at) refl refl (c.over.ensures ∙ ap (λ w. moved Ended w.life) e) (ap (λ w. w.started) e)
    c.new-ids.ensures.requests c.new-ids.ensures.next c.new-ids.ensures.limit c.new-ids.ensures.order refl refl refl (c.end_stop.ensures ∙ ap (λ n. unstopped n c.args.self.now.origins.stopping.items) (c.start.ensures ∙ ap (λ (l : Standing). l.start) c.over.ensures ∙ ap number_in e)) (c.end_start.ensures ∙ ap (λ n. less n c.args.self.now.origins.created) (c.start-2.ensures ∙ ap (λ (l : Standing). l.start) c.over.ensures ∙ ap number_in e)) refl refl) st

pub returns-clause-exit_documents : goal.returns-clause-exit_documents
returns-clause-exit_documents c = λ settings owed events s ds dead.
    let z = item_at c.args.self.now.lasts.items c.args.g c.requires.group in
    let e = read_same c.args.self.now.lasts.items c.args.g c.index_mut-last.result.now z.0 c.requires.group c.index_mut-last.ensures.value z.1 in
    exit_documents settings owed settings.limits.restarts c.args.self.now _ events c.args.g s z.0 z.1 (left_exits settings.limits.restarts c.args.self.now _ c.args.g z.0 (record { life = c.over.new.self; started = c.index_mut-last.result.now.started; ids = c.new-ids.result; shown = None; asks = c.new-asks.result; parked = c.new-parked.result; live = c.new-live.result; lists = c.new-lists.result }) (λ x at. dead z.0 x z.1 at) refl refl (c.over.ensures ∙ ap (λ w. moved Ended w.life) e) (ap (λ w. w.started) e)
    c.new-ids.ensures.requests c.new-ids.ensures.next c.new-ids.ensures.limit c.new-ids.ensures.order refl refl refl (c.end_stop.ensures ∙ ap (λ n. unstopped n c.args.self.now.origins.stopping.items) (c.start.ensures ∙ ap (λ (l : Standing). l.start) c.over.ensures ∙ ap number_in e)) (c.end_start.ensures ∙ ap (λ n. less n c.args.self.now.origins.created) (c.start-2.ensures ∙ ap (λ (l : Standing). l.start) c.over.ensures ∙ ap number_in e)) refl refl) refl c.unready.ensures ds

pub returns-clause-failure_documents : goal.returns-clause-failure_documents
returns-clause-failure_documents c = λ settings owed events s ds dead.
    let z = item_at c.args.self.now.lasts.items c.args.g c.requires.group in
    let e = read_same c.args.self.now.lasts.items c.args.g c.index_mut-last.result.now z.0 c.requires.group c.index_mut-last.ensures.value z.1 in
    failure_documents settings owed settings.limits.restarts c.args.self.now _ events c.args.g s z.0 z.1 (left_exits settings.limits.restarts c.args.self.now _ c.args.g z.0 (record { life = c.over.new.self; started = c.index_mut-last.result.now.started; ids = c.new-ids.result; shown = None; asks = c.new-asks.result; parked = c.new-parked.result; live = c.new-live.result; lists = c.new-lists.result }) (λ x at. dead z.0 x z.1 at) refl refl (c.over.ensures ∙ ap (λ w. moved Ended w.life) e) (ap (λ w. w.started) e)
    c.new-ids.ensures.requests c.new-ids.ensures.next c.new-ids.ensures.limit c.new-ids.ensures.order refl refl refl (c.end_stop.ensures ∙ ap (λ n. unstopped n c.args.self.now.origins.stopping.items) (c.start.ensures ∙ ap (λ (l : Standing). l.start) c.over.ensures ∙ ap number_in e)) (c.end_start.ensures ∙ ap (λ n. less n c.args.self.now.origins.created) (c.start-2.ensures ∙ ap (λ (l : Standing). l.start) c.over.ensures ∙ ap number_in e)) refl refl) refl c.unready.ensures ds

pub returns-clause-count : goal.returns-clause-count
returns-clause-count c = length-set c.args.self.now.lasts.items c.args.g (record { life = c.over.new.self; started = c.index_mut-last.result.now.started; ids = c.new-ids.result; shown = None; asks = c.new-asks.result; parked = c.new-parked.result; live = c.new-live.result; lists = c.new-lists.result })

pub returns-clause-over : goal.returns-clause-over
returns-clause-over c = λ x at.
    let is = sym (same_item (sym (get_set_same c.args.self.now.lasts.items c.args.g (record { life = c.over.new.self; started = c.index_mut-last.result.now.started; ids = c.new-ids.result; shown = None; asks = c.new-asks.result; parked = c.new-parked.result; live = c.new-live.result; lists = c.new-lists.result }) c.requires.group) ∙ at)) in
    (ap (λ (w : Start). w.life.stage) is ∙ ap (λ (l : Standing). l.stage) c.over.ensures, ap (λ (w : Start). w.ids.requests) is ∙ c.new-ids.ensures.requests)
