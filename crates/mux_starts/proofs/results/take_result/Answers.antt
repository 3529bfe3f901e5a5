-- The first result of a start.
use Rattle.std.proofs.Common.{◌≡◌, ◌<◌, List, append-nil, [], length, map, refl, ap, ap₂, sym, subst, ◌∙◌}
use Rattle.std.specs.Prelude.{Some, slice_get}
use Rattle.std.specs.List.{All, AllByRecursion}
use Rattle.mux_history.specs.declared.cause.Cause.TheVariants.{FromServer}
use Rattle.mux_history.specs.declared.out.Out.TheVariants.{ToServer}
use Rattle.rpc_message.specs.Message.{message_of}
use Rattle.event_model.specs.Does.{Does}
use Rattle.event_model.specs.Event.{behind, heard, with_cause}
use Rattle.event_model.specs.Row.{each, send}
use Rattle.event_model.specs.Spawns.{group_behind, start_of}
use Rattle.event_model.specs.Stages.{Life, is_initializing, life_of}
use Rattle.event_model.proofs.Frames.{one_more}
use Rattle.event_model.proofs.Places.{item_at, same_item}
use Rattle.mux_starts.specs.group_facts.specs.Facts.{is_up}
use Rattle.group_rows.specs.Earlier.{given_of}
use Rattle.group_rows.specs.Waiting.{part}
use Rattle.group_words.specs.Houses.{home_of}
use Rattle.group_words.specs.Rows.{shown_of}
use Rattle.mux_model.specs.Rows.{to_start}
use Rattle.mux_tables.specs.Documents.{AheadStand, AllStand, DocumentsStand, Parts, nothing_owed, owes, replaying, to}
use Rattle.mux_tables.specs.Stands.{house_in, number_in, of_life}
use Rattle.mux_tables.proofs.DocumentOwed.{all_does}
use Rattle.mux_tables.proofs.Homes.{group_seen}
use Rattle.mux_tables.proofs.Starts.{start_at_place}
use Rattle.mux_turns.specs.declared.carried.Carried.{Carried}
use Rattle.mux_turns.specs.Carried.{CarriedStand}
use Rattle.mux_turns.proofs.CarriedOn.{gave}
use Rattle.mux_turns.proofs.Listed.{meant_same}
use Rattle.mux_turns.proofs.Ready.{start_from}
use Rattle.mux_starts.specs.Parted.{configured_row}
use Rattle.mux_starts.proofs.Parting.{parted_home}
use Rattle.mux_starts.proofs.Replies.{first_encoding, initialized_quiet, initialized_silent}
use Rattle.mux_starts.proofs.Passing.{idle_start, inside_still, kept_as}
use Rattle.mux_starts.proofs.Resulting.{asking_behind, configured_so, given_so, idle_behind, result_entry, up_lives}
use Rattle.mux_starts.proofs.results.take_result.Goals as goal

pub part_each-requires : goal.part_each-requires
part_each-requires c = subst (All (λ e. e < length c.hear_result.new.self.editors)) (sym c.deref-2.ensures.value)
    (subst (λ xs. All (λ e. e < length xs) c.in_ok-parted.parted.items) (sym c.in_ok-owed.ensures.editors) c.in_ok-parted.ensures.inside)

pub send_held-requires-clause-group : goal.send_held-requires-clause-group
send_held-requires-clause-group c = subst (λ ls. c.args.g < length ls.items) (sym (c.in_ok-greet_all.ensures.lasts ∙ c.part_each.ensures.lasts)) (inside_still number_in c.args.g c.args.tables.now.lasts.items c.hear_result.new.self.lasts.items c.in_ok-owed.ensures.starts c.requires.group)

pub send_held-requires-clause-own : goal.send_held-requires-clause-own
send_held-requires-clause-own c = λ x here.
    kept_as house_in c.group_number-group.result c.args.g c.args.tables.now.lasts.items c.hear_result.new.self.lasts.items c.in_ok-owed.ensures.groups c.requires.group (λ z at. sym (c.group_number-group.ensures z at)) x (ap (λ ls. slice_get ls.items c.args.g) (sym (c.in_ok-greet_all.ensures.lasts ∙ c.part_each.ensures.lasts)) ∙ here)

pub send_held-requires-clause-ready : goal.send_held-requires-clause-ready
send_held-requires-clause-ready c = λ x here. c.in_ok-owed.ensures.ready x (ap (λ ls. slice_get ls.items c.args.g) (sym (c.in_ok-greet_all.ensures.lasts ∙ c.part_each.ensures.lasts)) ∙ here)

pub returns-clause-does : goal.returns-clause-does
returns-clause-does c = λ settings before body id value s read says first at none shown asking known settled carried st ds.
    let i = c.args.g in
    let t = c.args.tables.now in
    let g = c.group_number-group.result in
    let z = item_at t.lasts.items i c.requires.group in
    let base = with_cause before (FromServer s body) in
    let number = sym (c.group_number-group.ensures z.0 z.1) in
    let seen = group_seen settings t before i s z.0 st z.1 at in
    let home = seen.0 ∙ ap Some number in
    let own_start = st.lasts.each i z.0 z.1 in
    let live = up_lives settings before g z.0.life.start settled (subst (λ n. start_of n before ≡ Some z.0.life.start) number own_start.start) (ap (λ (l : Life). is_up l.stage) (own_start.parts of_life) ∙ ap is_up (c.requires.stage z.0 z.1)) in
    let shows = c.in_ok-told.ensures ∙ ap shown_of (c.result_bytes.ensures body read) in
    let those = c.in_ok-parted.ensures.those settings before body st carried live (c.bytes.ensures ∙ shows) in
    let es = c.deref.result.now in
    let es_are = c.deref.ensures.value ∙ those in
    let same = c.deref-2.ensures.value ∙ sym c.deref.ensures.value in
    let k = c.in_ok-part_each.ensures.parted in
    let said = k.said in
    let bodies = replaying settings (behind base said) g in
    let u = c.hear_result.new.self in
    let v = c.part_each.new.tables in
    let stands = c.in_ok-owed.ensures.stands settings before s body at first (c.answered_number-n.ensures body read) (c.in_ok-kept.ensures ∙ shows) st in
    let homes : AllByRecursion (λ e. home_of settings e before ≡ Some z.0.life.group) es = subst (λ n. AllByRecursion (λ e. home_of settings e before ≡ Some n) es) (sym number) (subst (AllByRecursion (λ e. home_of settings e before ≡ Some g)) (sym es_are) (parted_home settings before body g)) in
    let owed = subst (λ n. (c.in_ok-owed.owed ≡ to s (replaying settings (behind base said) n)) × DocumentsStand settings (owes n (replaying settings (behind base said) n)) u (behind base said)) number
    (c.in_ok-owed.ensures.documents settings before s body said at (subst (Parts said) same k.parts) (first_encoding (message_of body) id value c.encoding.result says first (c.encoding.ensures body id value read says)) st ds z.0 z.1 homes) in
    let due = owes g bodies in
    let parts = subst (λ ns. Does (λ k events. AheadStand settings k events) (each (part settings g) ns) base (u, (due, said)) c.args.outs.now (v, (due, [])) c.part_each.new.outs) same
    (subst (λ os. Does (λ k events. AheadStand settings k events) (each (part settings g) c.deref-2.result.now) base (u, (due, os)) c.args.outs.now (v, (due, [])) c.part_each.new.outs) (append-nil said) (k.does settings due base [])) in
    let there = ap (λ ls. slice_get (map number_in ls.items) i) c.part_each.ensures.lasts ∙ (ap (λ ns. slice_get ns i) c.in_ok-owed.ensures.starts ∙ at) in
    let q = initialized_quiet c.in_ok-text.text c.in_ok-text.ensures in
    let begins = subst (λ w. Does (λ k events. AllStand settings k events) (send (ToServer s w)) base (v, due) c.part_each.new.outs (v, due) c.notify.new.outs) c.in_ok-text.ensures
    (all_does settings v v due due base c.part_each.new.outs c.notify.new.outs (c.in_ok-notify.ensures.does settings base s there q.runs q.counts (λ _ _ _. initialized_silent c.in_ok-text.text c.in_ok-text.ensures)) (λ _ d. c.in_ok-notify.ensures.documents settings due base q.says q.aside d)) in
    let kept = c.configuration.ensures ∙ carried.configuration g live in
    let configures = subst (λ o. Does (λ k events. AllStand settings k events) (configured_row s o) base (v, due) c.notify.new.outs (v, due) c.configure.new.outs) kept
    (c.in_ok-configure.ensures settings due base s there (configured_so settings before g _ kept (meant_same before known.meant)) (idle_behind before s body c.notify.new.outs)) in
    let x = start_from v.lasts.items i s there in
    let own = start_at_place v.lasts.items i s x.0 x.1 there in
    let x_at = ap (λ ls. slice_get ls.items i) (sym c.part_each.ensures.lasts) ∙ x.1 in
    let mine : x.0.life.group ≡ g = same_item (sym (group_seen settings u base i s x.0 stands x_at (ap (λ ns. slice_get ns i) c.in_ok-owed.ensures.starts ∙ at)).0 ∙ (one_more (group_behind s) _ _ before (heard (FromServer s body)) refl ∙ home)) in
    let pays = subst (λ n. Does (λ k events. AllStand settings k events) (to_start n bodies) base (v, due) c.configure.new.outs (v, nothing_owed) c.pay.new.outs) own
    (subst (λ m. Does (λ k events. AllStand settings k events) (to_start x.0.life.start bodies) base (v, owes m bodies) c.configure.new.outs (v, nothing_owed) c.pay.new.outs) mine
    (c.in_ok-pay.ensures.does settings base i x.0 bodies x.1 (c.in_ok-owed.ensures.ready x.0 x_at) (owed.0 ∙ ap (λ n. to n bodies) (sym own)))) in
    let greets = c.in_ok-greet_all.ensures.does settings base body (c.bytes-2.ensures ∙ shows) shown (asking_behind before s body c.pay.new.outs asking) in
    let sends = c.in_ok-send_held.ensures.does settings base s (ap (λ ls. slice_get (map number_in ls.items) i) (c.in_ok-greet_all.ensures.lasts) ∙ there) (idle_start settings before s s body) in
    result_entry settings before s g body es said bodies v i x.0 home es_are refl x.1 mine u c.greet_all.new.tables c.send_held.new.tables c.args.outs.now c.part_each.new.outs c.notify.new.outs c.configure.new.outs c.pay.new.outs c.greet_all.new.outs c.send_held.new.outs
    none k.is (stands, owed.1) parts begins configures pays greets sends

pub returns-clause-carried : goal.returns-clause-carried
returns-clause-carried c = λ settings before body id value s read says first at none shown asking known settled carried st ds.
    let i = c.args.g in
    let t = c.args.tables.now in
    let g = c.group_number-group.result in
    let z = item_at t.lasts.items i c.requires.group in
    let number = sym (c.group_number-group.ensures z.0 z.1) in
    let home = (group_seen settings t before i s z.0 st z.1 at).0 ∙ ap Some number in
    let own = st.lasts.each i z.0 z.1 in
    let same = start_at_place t.lasts.items i s z.0 z.1 at in
    let initializes = ap (λ n. is_initializing (life_of n before).stage) (sym same) ∙ (ap (λ (l : Life). is_initializing l.stage) (own.parts of_life) ∙ ap is_initializing (c.requires.stage z.0 z.1)) in
    let live = up_lives settings before g z.0.life.start settled (subst (λ n. start_of n before ≡ Some z.0.life.start) number own.start) (ap (λ (l : Life). is_up l.stage) (own.parts of_life) ∙ ap is_up (c.requires.stage z.0 z.1)) in
    let done = returns-clause-does c settings before body id value s read says first at none shown asking known settled carried st ds in
    let told = c.in_ok-told.ensures ∙ ap shown_of (c.result_bytes.ensures body read) in
    subst (λ v. CarriedStand settings v (behind (with_cause before (FromServer s body)) c.send_held.new.outs)) (ap₂ (λ (a b : List Carried). record { shown = a; configurations = b }) (sym c.in_ok-give.ensures.shown) (sym c.give.ensures.configurations))
    (gave settings c.args.carries.now before (FromServer s body) c.send_held.new.outs g c.send_held.new.tables.groups.groups live carried c.in_ok-told.told body done.stands.0.house.groups.groups told
    (λ h. given_so before s g body home initializes first h (given_of h before)) (λ h. refl))
