-- A start that is to end, or ended.
use Rattle.std.proofs.Common.{◌≡◌, ℕ, ◌+◌, ◌<◌, ◌^◌, Bool, true, false, not, ◌&&◌, List, map, length, nat_eq, refl, ap, sym, subst, ◌∙◌, arith, codes}
use Rattle.std.specs.Prelude.{Option, Some, None, slice_get}
use Rattle.std.specs.Option.{option_map_or}
use Rattle.std.proofs.lemmas.Bool.Decides.{nat_tests}
use Rattle.mux_history.specs.declared.out.Out.{Out}
use Rattle.mux_history.specs.declared.out.Out.TheVariants.{EndServer, ToServer}
use Rattle.rpc_message.specs.Message.{Message, message_of}
use Rattle.event_model.specs.declared.stage.Stage.{Stage}
use Rattle.event_model.specs.declared.stage.Stage.TheVariants.{Spawning, Stopping, Ending, Ended}
use Rattle.event_model.specs.Does.{Alike, Does}
use Rattle.event_model.specs.Event.{Event, behind, requests}
use Rattle.event_model.specs.Requests.{answered_id, next_number}
use Rattle.event_model.specs.Row.{Row, choose, nothing, on, send}
use Rattle.event_model.specs.Settings.{Settings}
use Rattle.event_model.specs.Spawns.{group_of}
use Rattle.event_model.specs.Stages.{Life, is_ended, is_initializing, life_of, may_begin, may_start, runs}
use Rattle.event_model.proofs.Frames.{never}
use Rattle.event_model.proofs.Turns.{alike, alike_false, alike_then, does_then}
use Rattle.document_model.specs.Sayings.{saying_of}
use Rattle.document_model.specs.Sayings.{nothing as no_saying}
use Rattle.mux_turns.specs.group_facts.specs.Built.{is_left}
use Rattle.mux_turns.specs.group_facts.specs.Lively.{lives, lives_at}
use Rattle.mux_turns.specs.group_facts.proofs.Exits.{left_over}
use Rattle.group_words.specs.declared.kept.Kept.{Kept}
use Rattle.group_words.specs.Houses.{groups_of}
use Rattle.group_rows.specs.ExitRows.{lost_row}
use Rattle.group_rows.specs.Ends.{answers_shutdown, exit_server, exit_text, last_number}
use Rattle.group_rows.specs.Forwarded.{forwarding_of, moves_ids, names}
use Rattle.group_rows.specs.Texts.{is_synced}
use Rattle.group_rows.proofs.Exits.{exit_says}
use Rattle.mux_tables.specs.declared.tables.Start.{Start}
use Rattle.mux_tables.specs.declared.tables.Tables.{Tables}
use Rattle.mux_tables.specs.Documents.{AllStand, DocumentsStand, nothing_owed}
use Rattle.mux_tables.specs.Stands.{NamesAt, Stands, is_answer, is_early, number_in, of_ids, of_life, stage_in}
use Rattle.mux_tables.proofs.DocumentOwed.{all_does}
use Rattle.mux_turns.proofs.Departing.{mapped_is, mapped_on}
use Rattle.mux_tables.proofs.Homes.{group_seen}
use Rattle.mux_tables.proofs.Starts.{start_at_place}

-- where the group's last start stands
pub last_life : (settings : Settings) (t : Tables) (before : List Event) (g s : ℕ) (x : Start) → slice_get t.lasts.items g ≡ Some x → slice_get (map number_in t.lasts.items) g ≡ Some s → Stands settings t before → life_of s before ≡ record { stage = x.life.stage; started = x.started }
last_life settings t before g s x here at st = subst (λ n. life_of n before ≡ record { stage = x.life.stage; started = x.started }) (start_at_place t.lasts.items g s x here at) ((st.lasts.each g x here).parts of_life)

-- one that is to end gave its result, or will give none
abbrev pub is_late : Stage → Bool
is_late Stopping = true
is_late Ending = true
is_late _ = false

and_none : (b : Bool) → (b && false) ≡ false
and_none true = refl
and_none false = refl

pub late_begun : (b : Bool) (stage : Stage) → is_late stage ≡ true → (b && is_early stage) ≡ false
late_begun b Stopping h = and_none b
late_begun b Ending h = and_none b
late_begun b other h = never (sym h)

pub late_moved : (b : Bool) (stage : Stage) → is_late stage ≡ true → (b && is_initializing stage) ≡ false
late_moved b Stopping h = and_none b
late_moved b Ending h = and_none b
late_moved b other h = never (sym h)

pub late_spawned : (stage : Stage) → is_late stage ≡ true → stage ≡ Spawning → ⊥
late_spawned stage h at = never (sym h ∙ ap is_late at)

-- one that heard a message stands where it stood
pub late_runs : (t u : Tables) (g : ℕ) (z w : Start) → slice_get t.lasts.items g ≡ Some z → slice_get u.lasts.items g ≡ Some w → map stage_in u.lasts.items ≡ map stage_in t.lasts.items → z.life.stage ≡ Stopping → w.life.stage ≡ Ended → ⊥
late_runs t u g z w was here stages stopping ended =
    let same : z.life.stage ≡ w.life.stage = mapped_is stage_in t.lasts.items g z w.life.stage was (ap (λ ks. slice_get ks g) (sym stages) ∙ mapped_on stage_in u.lasts.items g w here) in
    let clash : Stopping ≡ Ended = sym stopping ∙ (same ∙ ended) in cc

-- its program doesn't run, and can't begin, where it ended
pub ended_never : {A : Type 0} (life : Life) (stage : Stage) (started : Bool) → life ≡ record { stage = stage; started = started } → is_ended stage ≡ true → runs life ≡ true → A
ended_never life stage started is over run = never (sym run ∙ ap runs is ∙ go started (is_ended stage) over)
  where
    go : (a b : Bool) → b ≡ true → (a && not b) ≡ false
    go true true h = refl
    go false true h = refl
    go a false h = never (sym h)

pub ended_unbegun : {A : Type 0} (life : Life) (stage : Stage) (started : Bool) → life ≡ record { stage = stage; started = started } → is_ended stage ≡ true → may_start life ≡ true → A
ended_unbegun life stage started is over may = never (sym may ∙ ap may_start is ∙ go stage started over)
  where
    go : (k : Stage) (a : Bool) → is_ended k ≡ true → (may_begin k && not a) ≡ false
    go Ended a h = refl
    go other a h = never (sym h)

-- its group lives no more
pub left_dead : (settings : Settings) (t : Tables) (before : List Event) (g s : ℕ) → Stands settings t before → g < length t.lasts.items → slice_get (map number_in t.lasts.items) g ≡ Some s → is_left settings before s ≡ true → (z : Start) (x : Kept) → slice_get t.lasts.items g ≡ Some z → slice_get t.groups.groups z.life.group ≡ Some x → x.live ≡ false
left_dead settings t before g s st within at left z x there here =
    ap lives (sym (ap (λ gs. slice_get gs z.life.group) st.house.groups.groups ∙ here)) ∙ left_over settings before s left z.life.group (group_seen settings t before g s z st there at).0

-- the bodies that it is sent
pub exits_by : (settings : Settings) (t u : Tables) (base : List Event) (xs ys zs : List Out) (s : ℕ) (text : List ℕ) → text ≡ exit_text
    → (requests (codes "shutdown") (message_of text) ≡ false → moves_ids (message_of text) ≡ false → is_answer (message_of text) ≡ false → Does (λ k events. Stands settings k events) (send (ToServer s text)) base t xs t ys)
    → (saying_of (message_of text) ≡ no_saying → is_synced (message_of text) ≡ false → DocumentsStand settings nothing_owed t (behind base xs) → DocumentsStand settings nothing_owed t (behind base ys))
    → Does (λ k events. Stands settings k events) (send (EndServer s)) base t ys u zs → (DocumentsStand settings nothing_owed t (behind base ys) → DocumentsStand settings nothing_owed u (behind base zs))
    → Does (λ k events. AllStand settings k events) (exit_server s) base (t, nothing_owed) xs (u, nothing_owed) zs
exits_by settings t u base xs ys zs s text is sends aside ends after =
    let says = ap message_of is ∙ exit_says in
    does_then (subst (λ w. Does (λ k events. AllStand settings k events) (send (ToServer s w)) base (t, nothing_owed) xs (t, nothing_owed) ys) is
    (all_does settings t t nothing_owed nothing_owed base xs ys (sends (ap (requests (codes "shutdown")) says) (ap moves_ids says) (ap is_answer says)) (λ _ ds. aside (ap saying_of says) (ap is_synced says) ds)))
    (all_does settings t u nothing_owed nothing_owed base ys zs ends (λ _ ds. after ds))

-- the number of `shutdown` is that which comes next by the requests of editors
module _ (settings : Settings) (t : Tables) (before : List Event) (g s : ℕ) (x : Start) (here : slice_get t.lasts.items g ≡ Some x) (at : slice_get (map number_in t.lasts.items) g ≡ Some s) (counted : next_number s before ≡ (forwarding_of settings s before).next + 1) (st : Stands settings t before) where
  last_is : last_number s before ≡ x.ids.next
  last_is = omega (arith, counted) ∙ (ap (λ n. (forwarding_of settings n before).next) (sym (start_at_place t.lasts.items g s x here at)) ∙ ((st.lasts.each g x here).parts of_ids).next)

  low : x.ids.next < 2 ^ 32
  low = let ids = (st.lasts.each g x here).parts of_ids in
      let within = ids.order.within in
      let ends = ids.ends in
      let range = st.range in
      omega (arith, within, ends, range)

  pub limit_is : x.ids.limit ≡ t.requests
  limit_is = ((st.lasts.each g x here).parts of_ids).ends

  module _ (m : Message) where
    pub answers_none : NamesAt (answered_id m) None → false ≡ answers_shutdown s before m
    answers_none named = sym (ap (names (answered_id m)) last_is ∙ named x.ids.next low)

    pub answers_some : (k n : ℕ) (b : Bool) → n ≡ x.ids.next → b ≡ nat_eq k n → NamesAt (answered_id m) (Some k) → b ≡ answers_shutdown s before m
    answers_some k n b next is named = is ∙ (ap (nat_eq k) next ∙ (turned k x.ids.next ∙ (sym (named x.ids.next low) ∙ ap (names (answered_id m)) (sym last_is))))
      where
        turned : (a c : ℕ) → nat_eq a c ≡ nat_eq c a
        turned a c = grind (arith, nat_tests)

-- X1 to X3: nothing is sent where the start's group lives no more
live_off : (b : Bool) → not b ≡ true → b ≡ false
live_off false h = refl
live_off true h = absurd (cc)

left_in : (m : Option Kept) (say : Kept → Row) → not (lives m) ≡ true → Alike (on m nothing (λ x. choose x.live (say x) nothing)) nothing
left_in None say h = alike refl
left_in (Some x) say h = alike_then (alike (ap (λ b. choose b (say x) nothing) (live_off x.live h))) alike_false

left_of : (o : Option ℕ) (groups : List Kept) (say : ℕ → Kept → Row) → not (option_map_or (λ g. lives_at g groups) o false) ≡ true
    → Alike (on o nothing (λ g. on (slice_get groups g) nothing (λ x. choose x.live (say g x) nothing))) nothing
left_of None groups say h = alike refl
left_of (Some g) groups say h = left_in (slice_get groups g) (say g) h

pub left_row : (settings : Settings) (before : List Event) (s : ℕ) → is_left settings before s ≡ true → Alike (lost_row settings before s) nothing
left_row settings before s left = left_of (group_of s before) (groups_of settings before) _ left
