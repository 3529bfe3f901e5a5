-- A group ends whose last start refuses its `initialize`, or ended.
use Rattle.std.proofs.Common.{◌≡◌, ℕ, ◌<◌, Bool, true, false, ◌&&◌, List, [], ◌∷◌, ◌++◌, length, map, get_or, nat_eq, refl, ap, sym, subst, ◌∙◌, append-nil, append_assoc, if◌then◌else◌}
use Rattle.std.specs.Prelude.{Option, Some, None, slice_get}
use Rattle.std.specs.List.{All, range_with_len}
use Rattle.std.specs.Option.{option_and_then}
use Rattle.std.proofs.lemmas.Bool.{and_parts}
use Rattle.std.proofs.lemmas.List.Elements.{All-get_or, filter_passes}
use Rattle.mux_history.specs.declared.cause.Cause.TheVariants.{FromServer}
use Rattle.mux_history.specs.declared.out.Out.{Out}
use Rattle.mux_history.specs.declared.out.Out.TheVariants.{ToEditor, ToServer, Spawn, CloseEditor, EndServer}
use Rattle.rpc_message.specs.Message.{error, id_bytes, message_of}
use Rattle.rpc_message.specs.Texts.{with_id_text}
use Rattle.rpc_message.specs.ValueTexts.{IsIdText}
use Rattle.rpc_message.proofs.Fixed.{id_as_response}
use Rattle.rpc_message.proofs.Ids.{error_with_id, request_id_bytes}
use Rattle.event_model.specs.declared.stage.Stage.TheVariants.{Initializing}
use Rattle.event_model.specs.Does.{Does, Done}
use Rattle.event_model.specs.Event.{Event, behind, said, with_cause}
use Rattle.event_model.specs.Requests.{answered_id}
use Rattle.event_model.specs.Phases.{Desk, desk_behind, desk_of, editors_of, is_begun, is_waiting}
use Rattle.event_model.specs.Row.{each, look, nothing, on, send}
use Rattle.event_model.specs.Settings.{Settings}
use Rattle.event_model.specs.Spawns.{group_of, start_of}
use Rattle.event_model.specs.Stages.{Life, is_ready, life_of}
use Rattle.event_model.proofs.Frames.{one_more}
use Rattle.event_model.proofs.Places.{Same, same, other, compare, same_item}
use Rattle.event_model.proofs.Turns.{alike, behind_more, does_alike, does_look, does_then}
use Rattle.mux_turns.specs.mux_facts.proofs.Table.{waiting_is}
use Rattle.editor_session.specs.declared.session.Session.{Session}
use Rattle.group_words.specs.Houses.{home_of, is_first_error, is_home}
use Rattle.group_rows.specs.Leaves.{leave_bodies}
use Rattle.group_rows.specs.Asks.{members_in}
use Rattle.group_rows.specs.Rows.{refusal, refused_in, refused_row, waiting_in}
use Rattle.group_rows.specs.Texts.{texts_of}
use Rattle.group_rows.specs.Waiting.{part, refuse_held}
use Rattle.mux_turns.specs.group_facts.proofs.PutOut.{homes_stay}
use Rattle.mux_turns.specs.group_facts.proofs.RefusedRow.{IsError, error_is}
use Rattle.mux_model.specs.Documents.{held_at}
use Rattle.mux_tables.specs.declared.tables.Start.{Start}
use Rattle.mux_tables.specs.declared.tables.Tables.{Tables}
use Rattle.mux_tables.specs.Documents.{AllStand, DocumentsStand, Leaves, nothing_owed, owes}
use Rattle.mux_tables.specs.Names.{NamesStand, id_in}
use Rattle.mux_tables.specs.Stands.{Keeps, Rise, Stands, of_life, stage_in, start_for}
use Rattle.mux_tables.specs.mux_waits.specs.Stands.{AnswersId}
use Rattle.mux_tables.proofs.DocumentOwed.{all_does, owes_nothing}
use Rattle.mux_tables.proofs.Placed.{groups_apart}
use Rattle.mux_starts.specs.Refusing.{Adds, IsUnready}
use Rattle.mux_turns.specs.Welcomes.{AllAsking, Informs, IsAsking}
use Rattle.mux_turns.proofs.Departing.{mapped_is, mapped_on}
use Rattle.mux_turns.proofs.Keeping.{keeps_error}
use Rattle.mux_turns.proofs.Matched.{whole_entry}
use Rattle.mux_turns.proofs.Ready.{has_start, ready_runs}
use Rattle.mux_turns.proofs.Welcoming.{home_there}

-- Its start is owed nothing

-- stages that stay
pub stage_kept : (g : ℕ) (ts us : List Start) (z : Start) → slice_get ts g ≡ Some z → map stage_in us ≡ map stage_in ts → z.life.stage ≡ Initializing → (x : Start) → slice_get us g ≡ Some x → x.life.stage ≡ Initializing
stage_kept g ts us z at stages h x here = sym (mapped_is stage_in ts g z x.life.stage at (sym (ap (λ ns. slice_get ns g) stages) ∙ mapped_on stage_in us g x here)) ∙ h

-- its group is in no other place
pub unready_at : (i : ℕ) (ls : List Start) (w : Start) → Rise 0 ls → slice_get ls i ≡ Some w → is_ready w.life.stage ≡ false → IsUnready w.life.group ls
unready_at i ls w rise at h p x here own = go p (compare i p) here
  where
    go : (p : ℕ) → Same i p → slice_get ls p ≡ Some x → is_ready x.life.stage ≡ false
    go _ same here = ap (λ (y : Start). is_ready y.life.stage) (same_item (sym here ∙ at)) ∙ h
    go p (other d) here = absurd (groups_apart ls i p w x rise at here d own)

module _ (settings : Settings) (t u : Tables) (events later : List Event) (e g : ℕ) (owed : List Out) (unready : IsUnready g t.lasts.items) (home : home_of settings e events ≡ Some g) (st : Stands settings t events) where
  none_ready : (s : ℕ) → start_of g events ≡ Some s → is_ready (life_of s events).stage ≡ false
  none_ready s at = go (is_ready (life_of s events).stage) refl
    where
      go : (b : Bool) → is_ready (life_of s events).stage ≡ b → is_ready (life_of s events).stage ≡ false
      go false h = h
      go true h =
          let k = has_start settings t events g s st at (ready_runs (life_of s events).stage h) in
          let own = st.lasts.each k.place k.last k.at in
          let same : k.last.life.start ≡ s = same_item (sym own.start ∙ (ap (λ n. start_of n events) k.group ∙ at)) in
          ap (λ n. is_ready (life_of n events).stage) (sym same) ∙ (ap (λ (l : Life). is_ready l.stage) (own.parts of_life) ∙ unready k.place k.last k.at k.group)

  by_start : (o : Option ℕ) → start_of g events ≡ o → Leaves settings events e (Some g) o owed u later → DocumentsStand settings nothing_owed u later
  by_start None none h = h.1
  by_start (Some s) at h = owes_nothing settings u g later (subst (λ bodies. DocumentsStand settings (owes g bodies) u later)
      (ap (λ b. if b then leave_bodies settings.limits.versions (λ w. held_at s w events) e (texts_of settings g events).opens (texts_of settings g events).opens else []) (none_ready s at)) h.1)

  nothing_left : Leaves settings events e (home_of settings e events) (start_for settings e events) owed u later → DocumentsStand settings nothing_owed u later
  nothing_left h = by_start (start_of g events) refl (subst (λ o. Leaves settings events e o (option_and_then (λ i. start_of i events) o) owed u later) home h)

pub put_out_does : (settings : Settings) (t u : Tables) (base : List Event) (xs ys owed : List Out) (e g : ℕ) → IsUnready g t.lasts.items → home_of settings e (behind base xs) ≡ Some g
    → Does (λ t events. Stands settings t events) (send (CloseEditor e)) base t xs u ys
    → (Stands settings t (behind base xs) → DocumentsStand settings nothing_owed t (behind base xs) → Leaves settings (behind base xs) e (home_of settings e (behind base xs)) (start_for settings e (behind base xs)) owed u (behind base ys))
    → Does (λ k events. AllStand settings k events) (send (CloseEditor e)) base (t, nothing_owed) xs (u, nothing_owed) ys
put_out_does settings t u base xs ys owed e g unready home closes leaves =
    all_does settings t u nothing_owed nothing_owed base xs ys closes (λ st ds. nothing_left settings t u (behind base xs) (behind base ys) e g owed unready home st (leaves st ds))

-- What was said before leaves what is known of an editor

initialize_did : (e : ℕ) (events : List Event) (x : Out) → (desk_of e (events ++ said x ∷ [])).initialize ≡ (desk_of e events).initialize
initialize_did e events x = ap (λ (d : Desk). d.initialize) (one_more (desk_behind e) _ _ events (said x) refl) ∙ go x
  where
    by_test : (b : Bool) (x y : Desk) → x.initialize ≡ y.initialize → (if b then x else y).initialize ≡ y.initialize
    by_test true x y h = h
    by_test false x y h = refl

    go : (x : Out) → (desk_behind e (desk_of e events) (said x)).initialize ≡ (desk_of e events).initialize
    go (ToEditor n body) = by_test (nat_eq n e) _ (desk_of e events) refl
    go (CloseEditor n) = by_test (nat_eq n e) _ (desk_of e events) refl
    go (ToServer s body) = refl
    go (Spawn s g) = refl
    go (EndServer s) = refl

initialize_stays : (e : ℕ) (events : List Event) (xs : List Out) → (desk_of e (behind events xs)).initialize ≡ (desk_of e events).initialize
initialize_stays e events [] = ap (λ es. (desk_of e es).initialize) (append-nil events)
initialize_stays e events (x ∷ xs) = ap (λ es. (desk_of e es).initialize) (behind_more events (x ∷ []) xs) ∙ (initialize_stays e (events ++ said x ∷ []) xs ∙ initialize_did e events x)

module _ (base : List Event) (xs ys : List Out) (k : Adds xs ys) where
  split : behind base ys ≡ behind (behind base xs) k.more
  split = ap (behind base) k.is ∙ behind_more base xs k.more

  pub same_initialize : (e : ℕ) → (desk_of e (behind base ys)).initialize ≡ (desk_of e (behind base xs)).initialize
  same_initialize e = ap (λ es. (desk_of e es).initialize) split ∙ initialize_stays e (behind base xs) k.more

  pub same_home : (settings : Settings) (e : ℕ) → home_of settings e (behind base ys) ≡ home_of settings e (behind base xs)
  same_home settings e = ap (home_of settings e) split ∙ homes_stay settings e (behind base xs) k.more

  pub asking_later : (e : ℕ) → IsAsking (behind base xs) e → IsAsking (behind base ys) e
  asking_later e a = record { name = a.name; method = a.method; params = a.params; says = ap message_of (same_initialize e) ∙ a.says }

pub adds_none : (xs : List Out) → Adds xs xs
adds_none xs = record { more = []; is = sym (append-nil xs) }

pub adds_one : (xs ys : List Out) (x : Out) → ys ≡ xs ++ x ∷ [] → Adds xs ys
adds_one xs ys x is = record { more = x ∷ []; is = is }

pub adds_then : (xs ys zs : List Out) → Adds xs ys → Adds ys zs → Adds xs zs
adds_then xs ys zs p q = record { more = p.more ++ q.more; is = q.is ∙ (ap (λ ws. ws ++ q.more) p.is ∙ append_assoc xs p.more q.more) }

pub adds_told : (xs ys : List Out) → Informs xs ys → Adds xs ys
adds_told xs ys k = record { more = k.more; is = k.is }

-- What waits of it is refused first

pub parts : (settings : Settings) (t v u : Tables) (base : List Event) (xs ys zs : List Out) (g e : ℕ) → IsUnready g t.lasts.items → home_of settings e (behind base xs) ≡ Some g → v.lasts ≡ t.lasts → Informs xs ys
    → Does (λ t events. Stands settings t events) (refuse_held settings g e) base t xs v ys → (DocumentsStand settings nothing_owed t (behind base xs) → DocumentsStand settings nothing_owed v (behind base ys))
    → (IsUnready g v.lasts.items → home_of settings e (behind base ys) ≡ Some g → Does (λ k events. AllStand settings k events) (send (CloseEditor e)) base (v, nothing_owed) ys (u, nothing_owed) zs)
    → Does (λ k events. AllStand settings k events) (part settings g e) base (t, nothing_owed) xs (u, nothing_owed) zs
parts settings t v u base xs ys zs g e unready home kept told refuses docs closes = does_then (all_does settings t v nothing_owed nothing_owed base xs ys refuses (λ _ ds. docs ds))
    (closes (subst (λ ls. IsUnready g ls.items) (sym kept) unready) (same_home base xs ys (adds_told xs ys told) settings e ∙ home))

-- An editor that waits gets the error

module _ (settings : Settings) (t v u : Tables) (base : List Event) (xs ys zs : List Out) (e g : ℕ) (body text : List ℕ) (first : is_first_error (message_of body) ≡ true) (asks : IsAsking (behind base xs) e) (is : text ≡ with_id_text body (id_bytes (desk_of e (behind base xs)).initialize)) where
  own_id : IsIdText asks.name (id_bytes (desk_of e (behind base xs)).initialize)
  own_id = request_id_bytes (desk_of e (behind base xs)).initialize asks.name asks.method asks.params asks.says

  fails : IsError (message_of body)
  fails = error_is (message_of body) first

  text_says : message_of text ≡ error (Some asks.name) fails.x
  text_says = ap message_of is ∙ error_with_id body (id_bytes (desk_of e (behind base xs)).initialize) fails.id (Some asks.name) fails.x fails.is (id_as_response asks.name (id_bytes (desk_of e (behind base xs)).initialize) own_id)

  keeps : Keeps e text (behind base xs)
  keeps = keeps_error e text (behind base xs) (Some asks.name) fails.x text_says

  answers : AnswersId (id_bytes (desk_of e (behind base xs)).initialize) text
  answers = record { name = asks.name; is = own_id; says = ap answered_id text_says }

  pub refuses : (Keeps e text (behind base xs) → AnswersId (id_bytes (desk_of e (behind base xs)).initialize) text → Does (λ t events. Stands settings t events) (send (ToEditor e text)) base t xs v ys)
      → (DocumentsStand settings nothing_owed t (behind base xs) → DocumentsStand settings nothing_owed v (behind base ys)) → Does (λ k events. AllStand settings k events) (send (CloseEditor e)) base (v, nothing_owed) ys (u, nothing_owed) zs
      → Does (λ k events. AllStand settings k events) (refusal body e) base (t, nothing_owed) xs (u, nothing_owed) zs
  refuses tells docs closes = does_then (does_look (λ _. refl)
      (subst (λ w. Does (λ k events. AllStand settings k events) (send (ToEditor e w)) base (t, nothing_owed) xs (v, nothing_owed) ys) is
      (all_does settings t v nothing_owed nothing_owed base xs ys (tells keeps answers) (λ _ ds. docs ds)))) closes

-- The editors of a group, before the first is put out

abbrev pub AllAtHome : Settings → List Event → ℕ → List ℕ → Type 0
AllAtHome settings events g numbers = (i : ℕ) → i < length numbers → home_of settings (get_or numbers i 0) events ≡ Some g

pub all_at_home : (settings : Settings) (events : List Event) (g : ℕ) (numbers : List ℕ) → numbers ≡ members_in settings g events → AllAtHome settings events g numbers
all_at_home settings events g numbers are i l =
    let e = get_or numbers i 0 in
    let test : ℕ → Bool = λ n. is_begun (desk_of n events).phase && is_home g (home_of settings n events) in
    let passes : All (λ n. test n ≡ true) numbers = subst (λ ns. All (λ n. test n ≡ true) ns) (sym are) (filter_passes test (range_with_len 0 (editors_of events))) in
    let two = and_parts (is_begun (desk_of e events).phase) (is_home g (home_of settings e events)) (All-get_or (λ n. test n ≡ true) numbers i 0 l passes) in
    home_there g (home_of settings e events) two.1

-- and those that wait

abbrev pub AllWait : Settings → List Session → List Event → ℕ → List ℕ → Type 0
AllWait settings sessions events g numbers = (i : ℕ) → i < length numbers
    → IsAsking events (get_or numbers i 0) × (home_of settings (get_or numbers i 0) events ≡ Some g) × (id_in (slice_get sessions (get_or numbers i 0)) ≡ Some (id_bytes (desk_of (get_or numbers i 0) events).initialize))

pub all_wait : (settings : Settings) (sessions : List Session) (events : List Event) (g : ℕ) (numbers : List ℕ) → numbers ≡ waiting_in settings g events → AllAsking events → NamesStand settings sessions events → AllWait settings sessions events g numbers
all_wait settings sessions events g numbers are asking named i l =
    let e = get_or numbers i 0 in
    let test : ℕ → Bool = λ n. is_waiting (desk_of n events).phase && is_home g (home_of settings n events) in
    let passes : All (λ n. test n ≡ true) numbers = subst (λ ns. All (λ n. test n ≡ true) ns) (sym are) (filter_passes test (range_with_len 0 (editors_of events))) in
    let two = and_parts (is_waiting (desk_of e events).phase) (is_home g (home_of settings e events)) (All-get_or (λ n. test n ≡ true) numbers i 0 l passes) in
    let waits = waiting_is (desk_of e events).phase two.0 in
    let home = home_there g (home_of settings e events) two.1 in
    (asking e waits, home, (named e).own g waits home)

-- The parts of the entry, one after the other

pub refused_entry : (settings : Settings) (before : List Event) (s g : ℕ) (body : List ℕ) (t u v w : Tables) (xs ys zs ws : List Out) → group_of s before ≡ Some g → xs ≡ [] → AllStand settings (t, nothing_owed) (with_cause before (FromServer s body))
    → Does (λ k events. AllStand settings k events) (look (λ events. each (refusal body) (waiting_in settings g events))) (with_cause before (FromServer s body)) (t, nothing_owed) xs (u, nothing_owed) ys
    → Does (λ k events. AllStand settings k events) (look (λ events. each (part settings g) (members_in settings g events))) (with_cause before (FromServer s body)) (u, nothing_owed) ys (v, nothing_owed) zs
    → Does (λ k events. AllStand settings k events) (send (EndServer s)) (with_cause before (FromServer s body)) (v, nothing_owed) zs (w, nothing_owed) ws
    → Done (λ k events. AllStand settings k events) (refused_row settings before s body) (with_cause before (FromServer s body)) [] (w, nothing_owed) ws
refused_entry settings before s g body t u v w xs ys zs ws home first all refusals closes ends =
    whole_entry (λ k events. AllStand settings k events) (refused_row settings before s body) (with_cause before (FromServer s body)) (t, nothing_owed) (w, nothing_owed) xs ws first all
    (does_alike (λ _. alike (ap (λ o. on o nothing (refused_in settings s body)) home)) (does_then refusals (does_then closes ends)))
