-- X1 to X3: a whole entry.
use Rattle.std.proofs.Common.{◌≡◌, ℕ, ◌<◌, ◌^◌, Bool, true, false, not, List, [], ◌∷◌, ◌++◌, append-nil, codes, filter, flat_map, if◌then◌else◌, length, map, refl, ap, sym, subst, ◌∙◌}
use Rattle.std.specs.Prelude.{Some, slice_get}
use Rattle.std.specs.List.{AllByRecursion}
use Rattle.std.specs.Option.{option_map_or}
use Rattle.lsp_method.specs.Class.{server_notification}
use Rattle.mux_history.specs.declared.cause.Cause.{Cause}
use Rattle.mux_history.specs.declared.cause.Cause.TheVariants.{ServerGone, StartFailed}
use Rattle.mux_history.specs.declared.out.Out.{Out}
use Rattle.rpc_message.specs.Message.{message_of}
use Rattle.event_model.specs.Does.{Does, Done}
use Rattle.event_model.specs.Event.{Event, behind, heard, with_cause}
use Rattle.event_model.specs.Phases.{Desk, is_running, needs_server}
use Rattle.event_model.specs.Row.{Row, choose, each, nothing, outs, ◌⨾◌}
use Rattle.event_model.specs.Settings.{Settings}
use Rattle.event_model.specs.Spawns.{group_of}
use Rattle.event_model.specs.Stages.{is_ready, life_of}
use Rattle.event_model.proofs.Frames.{never}
use Rattle.event_model.proofs.Places.{get_set_same, same_item}
use Rattle.event_model.proofs.Turns.{does_knowing, does_then}
use Rattle.group_rows.specs.Asks.{Ask, asks_of, members_in, running_in}
use Rattle.group_rows.specs.Created.{Taking, created_of}
use Rattle.group_rows.specs.diagnostics_route.specs.declared.last_list.LastList.{LastList}
use Rattle.group_rows.specs.ExitRows.{begins_again, ends_group, is_full, lose_sent, lose_start, lost_row, turn_out}
use Rattle.group_rows.specs.Forwarded.{forwarding_of}
use Rattle.group_rows.specs.Lists.{is_publishing, lists_of}
use Rattle.group_rows.specs.Live.{live_of}
use Rattle.group_rows.specs.LiveTexts.{AreWritten}
use Rattle.group_rows.specs.Rows.{row_of}
use Rattle.group_rows.specs.StopRows.{stopped}
use Rattle.group_rows.specs.registrations.specs.declared.registration.Registration.{Registration}
use Rattle.group_rows.proofs.Cancels.{cancel_says}
use Rattle.group_rows.proofs.ExitTexts.{end_says}
use Rattle.group_rows.proofs.ListsKept.{IsList, lists_kept}
use Rattle.group_rows.proofs.LiveTexts.{live_written}
use Rattle.group_words.specs.Houses.{groups_lose, groups_of, house_of}
use Rattle.group_words.specs.Rows.{spawn}
use Rattle.group_words.proofs.Frames.{groups_more}
use Rattle.mux_exits.specs.declared.losses.Loss.{Loss}
use Rattle.mux_exits.specs.declared.losses.Loss.TheVariants.{Emptied, Unregistered}
use Rattle.mux_exits.specs.declared.partings.Parting.{Parting}
use Rattle.mux_exits.specs.Losses.{CanLose, Runs, cancelled, emptied, ended, is_notice, live_at, loss_row, lost_at, lost_sent, lost_start, refused}
use Rattle.mux_exits.specs.Partings.{AreHome, CanPart, IsOver, IsParting, parting_row, renewing_row}
use Rattle.mux_exits.proofs.Gathering.{all_join, all_run, any_of}
use Rattle.mux_exits.proofs.Rows.{losing_alike, parting_alike}
use Rattle.mux_exits.proofs.Turning.{adds_row, asking_on, housed_on}
use Rattle.mux_starts.specs.Refusing.{IsUnready}
use Rattle.mux_starts.specs.group_facts.specs.Built.{is_left}
use Rattle.mux_starts.specs.group_facts.specs.Facts.{AllForwarded, IsAsked, IsTake, Known, is_exit}
use Rattle.mux_starts.specs.group_facts.specs.Lively.{lives_at}
use Rattle.mux_starts.specs.group_facts.specs.Settled.{Settled}
use Rattle.mux_starts.specs.group_facts.proofs.ExitEntry.{Exit}
use Rattle.mux_starts.specs.group_facts.proofs.Exits.{EndsGroup, RenewsGroup, ends_live, ends_parts, lost_is, lost_outs, lost_over, renewed_lives, renews_parts}
use Rattle.mux_starts.proofs.PutOut.{all_at_home, same_home, unready_at}
use Rattle.mux_tables.specs.declared.tables.Start.{Start}
use Rattle.mux_tables.specs.declared.tables.Tables.{Tables}
use Rattle.mux_tables.specs.Documents.{AllStand, DocumentsStand, nothing_owed}
use Rattle.mux_tables.specs.Halts.{ids_at}
use Rattle.mux_tables.specs.Losses.{open_asks}
use Rattle.mux_tables.specs.Stands.{Exits, Stands}
use Rattle.mux_tables.proofs.DocumentOwed.{all_does}
use Rattle.mux_tables.specs.mux_tokens.specs.Ends.{begun_tokens, unanswered_takes}
use Rattle.mux_turns.specs.Initials.{AllHoused, IsNamed}
use Rattle.mux_turns.specs.Welcomes.{AllAsking}
use Rattle.mux_turns.specs.mux_facts.proofs.Words.{number_same}
use Rattle.mux_turns.proofs.Called.{unregister_call}
use Rattle.mux_turns.proofs.Departing.{behind_first}
use Rattle.mux_turns.proofs.Failing.{named_all}
use Rattle.mux_turns.proofs.Listed.{meant_same}
use Rattle.mux_turns.proofs.Matched.{whole_entry}

-- What holds where the program of a start ended, and where it couldn't be run, holds by each cause that is one of the two

pub by_either : (P : Cause → Type 0) (s : ℕ) → P (ServerGone s) → P (StartFailed s) → (cause : Cause) → is_exit cause s ≡ true → P cause
by_either P s gone failed (ServerGone n) is = subst (λ k. P (ServerGone k)) (sym (number_same n s is)) gone
by_either P s gone failed (StartFailed n) is = subst (λ k. P (StartFailed k)) (sym (number_same n s is)) failed
by_either P s gone failed other is = never (sym is)

-- The last start in this place, as it is kept behind the end of its program

module _ (restarts : ℕ) (t u : Tables) (g : ℕ) (z : Start) (within : g < length t.lasts.items) (e : Exits restarts t g z u) where
  pub here : slice_get u.lasts.items g ≡ Some e.start
  here = ap (λ ls. slice_get ls g) e.lasts ∙ get_set_same t.lasts.items g e.start within

  pub exit_over : IsOver g u.lasts.items
  exit_over x at =
      let is : x ≡ e.start = same_item (sym at ∙ here) in
      (ap (λ (w : Start). w.life.stage) is ∙ ap (λ l. l.stage) e.life, ap (λ (w : Start). w.ids.requests) is ∙ e.requests_gone)

  pub exit_group : e.start.life.group ≡ z.life.group
  exit_group = ap (λ l. l.group) e.life

  pub exit_unready : (settings : Settings) (events : List Event) → Stands settings u events → IsUnready z.life.group u.lasts.items
  exit_unready settings events st = subst (λ h. IsUnready h u.lasts.items) exit_group
      (unready_at g u.lasts.items e.start st.lasts.rise here (ap (λ l. is_ready l.stage) e.life))

-- What was gathered is said

pub part_does : (settings : Settings) (t u v w : Tables) (base : List Event) (h : ℕ) (xs ys zs : List Out) (p : Parting) (live : List Registration) (members : List ℕ) → live ≡ p.live.items → members ≡ p.members.items → CanPart settings (behind base xs) h p
    → Does (λ k events. AllStand settings k events) (each (loss_row live) p.losses.items) base (t, nothing_owed) xs (u, nothing_owed) ys
    → (AllAsking (behind base ys) → AllHoused settings (behind base ys) → AreHome settings (behind base ys) h members → Does (λ k events. AllStand settings k events) (each (turn_out settings h) members) base (u, nothing_owed) ys (v, nothing_owed) zs)
    → (Stands settings v (behind base zs) → Stands settings w (behind base zs)) → (DocumentsStand settings nothing_owed v (behind base zs) → DocumentsStand settings nothing_owed w (behind base zs))
    → Does (λ k events. AllStand settings k events) (parting_row settings h p) base (t, nothing_owed) xs (w, nothing_owed) zs
part_does settings t u v w base h xs ys zs p live members lives those can tells turns forgets docs = does_knowing (λ k.
    let said = adds_row tells k in
    let homes : AreHome settings (behind base ys) h p.members.items = λ i less. same_home base xs ys said settings _ ∙ can.home i less in
    let first = subst (λ l. Does (λ k events. AllStand settings k events) (each (loss_row l) p.losses.items) base (t, nothing_owed) xs (u, nothing_owed) ys) lives tells in
    let second = subst (λ ms. Does (λ k events. AllStand settings k events) (each (turn_out settings h) ms) base (u, nothing_owed) ys (v, nothing_owed) zs) those
    (turns (asking_on base xs ys said can.asking) (housed_on base xs ys said settings can.housed) (subst (AreHome settings (behind base ys) h) (sym those) homes)) in
    let both = does_then first second in
    record { done = λ s. let one = both.done s in record { outs = one.outs; stands = (forgets one.stands.0, docs one.stands.1) } })

pub renew_does : (settings : Settings) (t u v : Tables) (base : List Event) (h : ℕ) (xs ys zs : List Out) (p : Parting) (live : List Registration) → live ≡ p.live.items
    → Does (λ k events. AllStand settings k events) (each (loss_row live) p.losses.items) base (t, nothing_owed) xs (u, nothing_owed) ys
    → Does (λ t events. Stands settings t events) (spawn h) base u ys v zs → (Stands settings u (behind base ys) → DocumentsStand settings nothing_owed u (behind base ys) → DocumentsStand settings nothing_owed v (behind base zs))
    → Does (λ k events. AllStand settings k events) (renewing_row h p) base (t, nothing_owed) xs (v, nothing_owed) zs
renew_does settings t u v base h xs ys zs p live lives tells spawns docs =
    does_then (subst (λ l. Does (λ k events. AllStand settings k events) (each (loss_row l) p.losses.items) base (t, nothing_owed) xs (u, nothing_owed) ys) lives tells) (all_does settings u v nothing_owed nothing_owed base ys zs spawns docs)

-- It may be said

all_flat : {A B : Type 0} (P : B → Type 0) (Q : A → Type 0) (f : A → List B) → ((a : A) → Q a → AllByRecursion P (f a)) → (xs : List A) → AllByRecursion Q xs → AllByRecursion P (flat_map f xs)
all_flat P Q f one [] h = tt
all_flat P Q f one (x ∷ xs) h = all_join P (f x) (flat_map f xs) (one x h.0) (all_flat P Q f one xs h.1)

-- numbers that are small
small_numbers : {A : Type 0} (P : A → Type 0) (number : A → ℕ) (test : A → Bool) → ((a : A) → P a → number a < 2 ^ 64) → (xs : List A) → AllByRecursion P xs → AllByRecursion (λ n. n < 2 ^ 64) (map number (filter test xs))
small_numbers P number test small [] h = tt
small_numbers P number test small (x ∷ xs) h = go (test x) (small_numbers P number test small xs h.1)
  where
    go : (b : Bool) → AllByRecursion (λ n. n < 2 ^ 64) (map number (filter test xs)) → AllByRecursion (λ n. n < 2 ^ 64) (map number (if b then x ∷ filter test xs else filter test xs))
    go true rest = (small x h.0, rest)
    go false rest = rest

-- what ends or is cancelled is no list of diagnostics
progress_plain : is_publishing (codes "$/progress") ≡ false
unfolding server_notification
progress_plain = refl

cancel_plain : is_publishing (codes "$/cancelRequest") ≡ false
unfolding server_notification
cancel_plain = refl

module _ (now : List Event) (e : ℕ) where
  refused_can : (ids : List (List ℕ)) → AllByRecursion IsNamed ids → AllByRecursion (CanLose now) (refused e ids)
  refused_can [] h = tt
  refused_can (id ∷ ids) h = (h.0, refused_can ids h.1)

  ended_can : (s : ℕ) (ks : List ℕ) → AllByRecursion (CanLose now) (ended s e ks)
  ended_can s [] = tt
  ended_can s (k ∷ ks) = (ap is_notice (end_says s k) ∙ ap not progress_plain, ended_can s ks)

  cancelled_can : (ns : List ℕ) → AllByRecursion (λ n. n < 2 ^ 64) ns → AllByRecursion (CanLose now) (cancelled e ns)
  cancelled_can [] h = tt
  cancelled_can (n ∷ ns) h = (ap is_notice (cancel_says n h.0) ∙ ap not cancel_plain, cancelled_can ns h.1)

  lists_can : (before : List Event) (ls : List LastList) → AllByRecursion IsList ls → AllByRecursion (CanLose now) (emptied before e ls)
  lists_can before [] h = tt
  lists_can before (l ∷ ls) h = go (is_full e l.uri before) (lists_can before ls h.1)
    where
      told : List LastList → List Loss
      told ks = map (λ (k : LastList). Emptied e k.uri) ks

      rest : List LastList
      rest = filter (λ (k : LastList). is_full e k.uri before) ls

      go : (b : Bool) → AllByRecursion (CanLose now) (told rest) → AllByRecursion (CanLose now) (told (if b then l ∷ rest else rest))
      go true more = ((h.0).spelt, more)
      go false more = more

module _ (settings : Settings) (before : List Event) (cause : Cause) (s : ℕ) (exit : Exit settings before cause s) (h : ℕ) (home : group_of s before ≡ Some h) (live : lives_at h (groups_of settings before) ≡ true) (known : Known settings before) (settled : Settled settings before) where
  abbrev now : List Event
  now = with_cause before cause

  -- while a group lives nothing was stopped
  forwarded : AllForwarded settings before
  forwarded = known.asked (unstopped (stopped before) refl)
    where
      unstopped : (b : Bool) → stopped before ≡ b → b ≡ false
      unstopped true is = never (sym live ∙ settled.over is h)
      unstopped false is = refl

  sent_can : (e : ℕ) → AllByRecursion (CanLose now) (lost_sent settings before s e)
  sent_can e = refused_can now e (ids_at e (forwarding_of settings s before).open_requests) (named_all before e (forwarding_of settings s before).open_requests (forwarded s))

  -- lists are kept of documents whose URIs are UTF-8
  emptied_can : (e : ℕ) → AllByRecursion (CanLose now) (emptied before e (lists_of s before))
  emptied_can e = lists_can now e before (lists_of s before) (lists_kept s before (meant_same before known.meant))

  start_can : (e : ℕ) → Runs before e → AllByRecursion (CanLose now) (lost_start settings before s e)
  start_can e runs =
      let P = CanLose now in
      let tokens = begun_tokens e (created_of settings s before) in
      let takes = unanswered_takes e (created_of settings s before) in
      let asks = open_asks e (asks_of settings s before) in
      let last : AllByRecursion P (Unregistered e ∷ emptied before e (lists_of s before)) = (ap (λ (d : Desk). is_running d.phase) (exit.desk e) ∙ runs, emptied_can e) in
      all_join P (ended s e tokens) (cancelled e takes ++ (cancelled e asks ++ Unregistered e ∷ emptied before e (lists_of s before))) (ended_can now e s tokens)
      (all_join P (cancelled e takes) (cancelled e asks ++ Unregistered e ∷ emptied before e (lists_of s before))
      (cancelled_can now e takes (small_numbers (IsTake before) (λ (c : Taking). c.number) _ (λ c k. k.small) (created_of settings s before).takings (known.takes s)))
      (all_join P (cancelled e asks) (Unregistered e ∷ emptied before e (lists_of s before)) (cancelled_can now e asks (small_numbers (IsAsked s before) (λ (a : Ask). a.number) _ (λ a k. k.small) (asks_of settings s before) (known.asks s).asked)) last))

  lost_can : AllByRecursion (CanLose now) (lost_at settings before s h)
  lost_can = all_join (CanLose now) (flat_map (lost_sent settings before s) (members_in settings h before)) _
      (all_flat (CanLose now) (λ e. Unit {0}) (lost_sent settings before s) (λ e u. sent_can e) (members_in settings h before) (any_of (members_in settings h before)))
      (by_stage (is_ready (life_of s before).stage))
    where
      by_stage : (b : Bool) → AllByRecursion (CanLose now) (if b then flat_map (lost_start settings before s) (running_in settings h before) else [])
      by_stage true = all_flat (CanLose now) (Runs before) (lost_start settings before s) start_can (running_in settings h before) (all_run settings before h)
      by_stage false = tt

  all_written : AreWritten (live_at settings before s)
  all_written = by_stage (is_ready (life_of s before).stage)
    where
      by_stage : (b : Bool) → AreWritten (if b then live_of settings s before else [])
      by_stage true = live_written settings s before
      by_stage false = tt

  module _ (p : Parting) (is : IsParting settings before h s p) where
    can_part : CanPart settings now h p
    can_part = record {
      call = unregister_call p.live.items (subst AreWritten (sym is.live) all_written);
      losses = subst (AllByRecursion (CanLose now)) (sym is.losses) lost_can;
      idle = exit.idle;
      asking = λ e at. let k = known.waiting e (sym (ap (λ (d : Desk). d.phase) (exit.desk e)) ∙ at) in record { name = k.0; method = codes "initialize"; params = (k.1).params; says = ap (λ (d : Desk). message_of d.initialize) (exit.desk e) ∙ (k.1).asks };
      housed = λ e at. let seat = settled.seated e (ap needs_server (sym (ap (λ (d : Desk). d.phase) (exit.desk e)) ∙ at)) in (seat.group, exit.home e ∙ seat.home);
      home = λ i less. exit.home _ ∙ all_at_home settings before h p.members.items is.members i less;
    }

    row_sends : not (begins_again settings before s) ≡ true → outs (row_of settings before cause) now ≡ outs (parting_row settings h p) now
    row_sends last =
        let over : ends_group settings before s ≡ true = ends_live settings before s last h home live in
        let k : EndsGroup settings before s = ends_parts settings before s over in
        exit.row ∙ (lost_outs settings before s now k ∙ (ap (λ g. outs (group_row g) now) (same_item (sym k.home ∙ home)) ∙ (parting_alike settings before s h p is).sends now))
      where
        group_row : ℕ → Row
        group_row g = each (lose_sent settings before s) (members_in settings g before)
            ⨾ (choose (is_ready (life_of s before).stage) (each (lose_start settings before s) (running_in settings g before)) nothing ⨾ each (turn_out settings g) (members_in settings g before))

    row_renews : begins_again settings before s ≡ true → outs (row_of settings before cause) now ≡ outs (renewing_row h p) now
    row_renews again = exit.row ∙ (goes_on ∙ (ap (λ g. outs (group_row g) now) (same_item (sym k.home ∙ home)) ∙ (losing_alike settings before s h (spawn h) p is).sends now))
      where
        k : RenewsGroup settings before s
        k = renews_parts settings before s again

        group_row : ℕ → Row
        group_row g = each (lose_sent settings before s) (members_in settings g before)
            ⨾ (choose (is_ready (life_of s before).stage) (each (lose_start settings before s) (running_in settings g before)) nothing ⨾ spawn g)

        goes_on : outs (lost_row settings before s) now ≡ outs (group_row k.group) now
        goes_on = rw (k.home, k.found, k.live, k.again) refl

    -- the row of what was gathered is the entry's
    entry_by : (row : Row) (t u : Tables) (xs ys : List Out) → outs (row_of settings before cause) now ≡ outs row now → xs ≡ [] → AllStand settings (t, nothing_owed) now
        → (CanPart settings (behind now xs) h p → Does (λ k events. AllStand settings k events) row now (t, nothing_owed) xs (u, nothing_owed) ys)
        → Done (λ k events. AllStand settings k events) (row_of settings before cause) now [] (u, nothing_owed) ys
    entry_by row t u xs ys same first stands says =
        let can : CanPart settings (behind now xs) h p = subst (λ es. CanPart settings es h p) (sym (behind_first now xs first)) can_part in
        let done = whole_entry (λ k events. AllStand settings k events) row now (t, nothing_owed) (u, nothing_owed) xs ys first stands (says can) in
        record { outs = done.outs ∙ (ap (outs row) (append-nil now) ∙ (sym same ∙ ap (outs (row_of settings before cause)) (sym (append-nil now)))); stands = done.stands }

    -- where the group lives behind the cause it goes on with a new start, else it ends
    module _ (t : Tables) (st : Stands settings t now) where
      groups : groups_of settings now ≡ groups_lose settings before s (house_of settings before)
      groups = by_either (λ k. groups_of settings (with_cause before k) ≡ groups_lose settings before s (house_of settings before)) s (groups_more settings before (heard (ServerGone s))) (groups_more settings before (heard (StartFailed s))) cause exit.is

      lives_now : lives_at h t.groups.groups ≡ lives_at h (groups_lose settings before s (house_of settings before))
      lives_now = ap (lives_at h) (sym st.house.groups.groups ∙ groups)

      goes_again : lives_at h t.groups.groups ≡ true → begins_again settings before s ≡ true
      goes_again on = go (begins_again settings before s) refl
        where
          go : (b : Bool) → begins_again settings before s ≡ b → b ≡ true
          go true again = refl
          go false last = never (sym on ∙ (lives_now ∙ (ap (lives_at h) (lost_is settings before s (ap not last)) ∙ lost_over settings before s h home)))

      ends_now : lives_at h t.groups.groups ≡ false → not (begins_again settings before s) ≡ true
      ends_now off = go (begins_again settings before s) refl
        where
          go : (b : Bool) → begins_again settings before s ≡ b → not b ≡ true
          go false last = refl
          go true again = never (sym live ∙ (sym (renewed_lives settings before s (renews_parts settings before s again) h) ∙ (sym lives_now ∙ off)))

      pub entry_renewed : (u : Tables) (xs ys : List Out) → lives_at h t.groups.groups ≡ true → xs ≡ [] → DocumentsStand settings nothing_owed t now
          → (CanPart settings (behind now xs) h p → Does (λ k events. AllStand settings k events) (renewing_row h p) now (t, nothing_owed) xs (u, nothing_owed) ys)
          → Done (λ k events. AllStand settings k events) (row_of settings before cause) now [] (u, nothing_owed) ys
      entry_renewed u xs ys on first ds says = entry_by (renewing_row h p) t u xs ys (row_renews (goes_again on)) first (st, ds) says

      pub entry_done : (u : Tables) (xs ys : List Out) → lives_at h t.groups.groups ≡ false → xs ≡ [] → DocumentsStand settings nothing_owed t now
          → (CanPart settings (behind now xs) h p → Does (λ k events. AllStand settings k events) (parting_row settings h p) now (t, nothing_owed) xs (u, nothing_owed) ys)
          → Done (λ k events. AllStand settings k events) (row_of settings before cause) now [] (u, nothing_owed) ys
      entry_done u xs ys off first ds says = entry_by (parting_row settings h p) t u xs ys (row_sends (ends_now off)) first (st, ds) says

-- A start whose group lives no more

pub left_by : (settings : Settings) (before : List Event) (s h : ℕ) → group_of s before ≡ Some h → lives_at h (groups_of settings before) ≡ false → is_left settings before s ≡ true
left_by settings before s h home off = ap (λ o. not (option_map_or (λ g. lives_at g (groups_of settings before)) o false)) home ∙ ap not off
