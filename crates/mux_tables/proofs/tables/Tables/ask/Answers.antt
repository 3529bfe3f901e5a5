-- An editor's request goes on behind a sync.
use Rattle.std.proofs.Common.{◌≡◌, ◌<◌, [], ◌∷◌, ◌++◌, get_or, length, refl, ap, sym, subst, ◌∙◌}
use Rattle.std.specs.Prelude.{Some, slice_get, slice_set}
use Rattle.focus_switch.specs.Versions.{versions_of}
use Rattle.mux_history.specs.declared.out.Out.TheVariants.{ToServer}
use Rattle.mux_tables.specs.declared.tables.Start.{Start}
use Rattle.mux_tables.specs.Notes.{StampsAt}
use Rattle.mux_tables.proofs.DocumentAsked.{asked_does, passed_on}
use Rattle.mux_tables.proofs.Starts.{houses_stay, read_here, read_same, stages_stay, start_at_place, starts_stay}
use Rattle.mux_tables.proofs.tables.Tables.ask.Goals as goal
use Rattle.event_model.specs.Event.{behind}
use Rattle.rpc_message.specs.Message.{message_of}
use Rattle.group_laws.specs.group_rows.specs.Texts.{toucher}
use Rattle.group_laws.specs.group_rows.specs.Waiting.{first_waiting}
use Rattle.focus_switch.specs.Rows.{sync_row}
use Rattle.mux_tables.specs.declared.tables.Tables.{Tables}
use Rattle.mux_tables.specs.Documents.{StepAt}
use Rattle.mux_tables.proofs.Held.{first_toucher, released}

pub keep-requires : goal.keep-requires
keep-requires c = c.requires.left c.index_mut-last.result.now (read_here c.args.self.now.lasts.items c.args.g c.index_mut-last.result.now c.requires.group c.index_mut-last.ensures.value)

pub returns-clause-starts : goal.returns-clause-starts
returns-clause-starts c = starts_stay c.args.self.now.lasts.items c.args.g c.index_mut-last.result.now (record c.index_mut-last.result.now { ids = c.keep.new.ids }) c.requires.group c.index_mut-last.ensures.value refl

pub returns-clause-stages : goal.returns-clause-stages
returns-clause-stages c = stages_stay c.args.self.now.lasts.items c.args.g c.index_mut-last.result.now (record c.index_mut-last.result.now { ids = c.keep.new.ids }) c.requires.group c.index_mut-last.ensures.value refl

pub returns-clause-groups : goal.returns-clause-groups
returns-clause-groups c = houses_stay c.args.self.now.lasts.items c.args.g c.index_mut-last.result.now (record c.index_mut-last.result.now { ids = c.keep.new.ids }) c.requires.group c.index_mut-last.ensures.value refl

pub returns-clause-does : goal.returns-clause-does
returns-clause-does c = λ settings base s name method ps at says own sends works x here.
    let z = c.index_mut-last.result.now in
    let stamps = subst (λ xs. StampsAt c.in_ok-noted.noted (versions_of c.args.e) (slice_get xs c.args.g)) c.as_slice.ensures.value c.in_ok-noted.ensures in
    asked_does settings c.args.self.now _ c.args.outs.now c.push.new.self c.in_ok-told.told base c.args.g s c.start.result c.args.e z c.keep.new.ids _ c.in_ok-noted.noted c.args.text c.args.id c.args.work c.args.partial method name ps at c.requires.group c.index_mut-last.ensures.value
    (c.requires.ready z (read_here c.args.self.now.lasts.items c.args.g z c.requires.group c.index_mut-last.ensures.value)) says own sends (ap (λ w. toucher w (message_of c.args.text) (first_waiting settings z.life.start (behind base c.args.outs.now))) works) refl
    c.in_ok-keep.ensures.requests c.in_ok-keep.ensures.next c.in_ok-keep.ensures.limit c.in_ok-keep.ensures.order refl refl refl refl refl refl refl
    (λ bodies _. passed_on settings c.args.self.now c.args.self.now (behind base c.args.outs.now) c.args.e z.life.start c.args.text bodies refl works) refl refl c.in_ok-told.ensures refl refl stamps c.start.ensures
    (c.in_ok-push.ensures.ok ∙ ap (λ ws. ws ++ ToServer c.start.result c.args.text ∷ []) c.in_ok-append.ensures.ok) x.life.group (ap (λ (w : Start). w.life.group) (read_same c.args.self.now.lasts.items c.args.g z x c.requires.group c.index_mut-last.ensures.value here))

pub returns-clause-waited : goal.returns-clause-waited
returns-clause-waited c = λ settings base t x s name method ps r out here at says own idle first mine sends.
    let z = c.index_mut-last.result.now in
    let q = out.rest in
    let within = subst (λ (w : Tables). c.args.g < length w.lasts.items) q c.requires.group in
    let read = subst (λ (w : Tables). z ≡ get_or w.lasts.items c.args.g z) q c.index_mut-last.ensures.value in
    let same = read_same t.lasts.items c.args.g z x within read here in
    let number = start_at_place t.lasts.items c.args.g s z (read_here t.lasts.items c.args.g z within read) at in
    let stamps = subst (λ xs. StampsAt c.in_ok-noted.noted (versions_of c.args.e) (slice_get xs c.args.g)) c.as_slice.ensures.value c.in_ok-noted.ensures in
    asked_does settings t _ c.args.outs.now c.push.new.self c.in_ok-told.told base c.args.g s c.start.result c.args.e z c.keep.new.ids _ c.in_ok-noted.noted c.args.text c.args.id c.args.work c.args.partial method name ps at within read
    (c.requires.ready z (read_here c.args.self.now.lasts.items c.args.g z c.requires.group c.index_mut-last.ensures.value)) says own sends
    (first_toucher settings z.life.start c.args.e (behind base c.args.outs.now) c.args.text method name ps r says idle (subst (λ n. first_waiting settings n (behind base c.args.outs.now) ≡ Some r) (sym number) first) mine) refl
    c.in_ok-keep.ensures.requests c.in_ok-keep.ensures.next c.in_ok-keep.ensures.limit c.in_ok-keep.ensures.order
    (ap (λ (w : Tables). slice_set w.lasts.items c.args.g (record z { ids = c.keep.new.ids })) q) (ap (λ (w : Tables). w.editors) q) (ap (λ (w : Tables). w.groups) q) (ap (λ (w : Tables). w.course) q) (ap (λ (w : Tables). w.origins.groups) q) (ap (λ (w : Tables). w.origins.stopping) q) (ap (λ (w : Tables). w.origins.created) q)
    (λ bodies st. released settings t c.args.self.now (behind base c.args.outs.now) z.life.start x.life.group c.args.text method name ps bodies says own idle out.waits ((st.lasts.each c.args.g z (read_here t.lasts.items c.args.g z within read)).home ∙ ap (λ (w : Start). Some w.life.group) same))
    (ap (λ (w : Tables). w.requests) q) (ap (λ (w : Tables). w.versions) q) (subst (λ (w : Tables). StepAt (sync_row c.args.e) c.args.g (slice_get w.documents.items c.args.g) w.documents.items c.in_ok-told.told c.sync.new.documents.items) q c.in_ok-told.ensures) refl refl stamps c.start.ensures
    (c.in_ok-push.ensures.ok ∙ ap (λ ws. ws ++ ToServer c.start.result c.args.text ∷ []) c.in_ok-append.ensures.ok) x.life.group (ap (λ (w : Start). w.life.group) same)
