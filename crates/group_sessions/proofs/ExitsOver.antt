-- X3 of every exit: the group of the start gets a new one, or each editor of it is closed and it lives no more; and X1 to X3 of every legal history.
use Rattle.std.proofs.Common.{◌≡◌, ℕ, Bool, true, false, not, ◌&&◌, ◌||◌, List, [], ◌∷◌, ◌++◌, flat_map, nat_eq, if◌then◌else◌, append-nil, append_assoc, Some, None, Option, inl, inr, refl, sym, ◌∙◌, ap, subst, arith, ◌⊎◌, ap₂}
use Rattle.std.specs.Prelude.{slice_get}
use Rattle.std.specs.List.{AllByRecursion, list_any}
use Rattle.std.specs.Option.{option_map_or}
use Rattle.mux_history.specs.declared.cause.Cause.{Cause}
use Rattle.mux_history.specs.declared.cause.Cause.TheVariants.{Joined, FromEditor, EditorGone, Started, StartFailed, FromServer, ServerGone, Drained, Tick}
use Rattle.mux_history.specs.declared.entry.Entry.{Entry}
use Rattle.mux_history.specs.declared.out.Out.{Out}
use Rattle.mux_history.specs.declared.out.Out.TheVariants.{CloseEditor, Spawn, ToServer, ToEditor, EndServer}
use Rattle.event_model.specs.declared.phase.Phase.TheVariants.{Running, Absent, New, Closed, Gone}
use Rattle.event_model.specs.Event.{Event, behind, events_of, heard, with_cause, said}
use Rattle.event_model.specs.Parts.{editor_part}
use Rattle.event_model.specs.Phases.{desk_of, is_running, is_there, is_begun}
use Rattle.event_model.specs.Row.{choose, each, outs}
use Rattle.event_model.specs.Settings.{Settings}
use Rattle.event_model.specs.Spawns.{group_of, start_of, starts_of}
use Rattle.event_model.specs.Stages.{Life}
use Rattle.event_model.proofs.Frames.{never}
use Rattle.mux_facts.specs.Ranges.{InRange}
use Rattle.mux_facts.proofs.Keeps.{behind_both, events_more}
use Rattle.mux_facts.proofs.Words.{number_same, same_number}
use Rattle.group_words.specs.Houses.{groups_of, home_of, is_home}
use Rattle.group_words.specs.Rows.{spawn}
use Rattle.group_rows.specs.Asks.{asks_of, has_number, members_in}
use Rattle.group_rows.specs.Created.{created_of}
use Rattle.group_rows.specs.ExitRows.{begins_again, comes_again, lost_row, starts_again, turn_out}
use Rattle.group_rows.specs.Lists.{lists_of}
use Rattle.group_rows.specs.Live.{live_next, live_of}
use Rattle.group_rows.specs.Rows.{outs_of}
use Rattle.session_laws.specs.ClientRules.{has_id, registered_of}
use Rattle.group_rows.specs.StopRows.{refuse_initialize}
use Rattle.group_facts.specs.Facts.{is_exit, is_unready, IsHeld}
use Rattle.group_facts.specs.Legal.{Legal, LegalFrom}
use Rattle.group_facts.specs.Lively.{lives_at}
use Rattle.group_facts.specs.Settled.{Settled, is_answered}
use Rattle.group_facts.specs.SlowRows.{slow_row}
use Rattle.group_facts.proofs.AskingRows.{running_is}
use Rattle.group_facts.proofs.Begun.{NoSpawn, starts_stay}
use Rattle.group_facts.proofs.LastStarts.{AllLast, start_renewed}
use Rattle.group_facts.proofs.Lively.{lives_of}
use Rattle.group_facts.proofs.Downs.{lives_outs}
use Rattle.group_facts.proofs.ExitEntry.{Exit, exit_by}
use Rattle.group_facts.proofs.Exits.{failed_groups, gone_groups, lost_over}
use Rattle.group_facts.proofs.Facts.{Facts}
use Rattle.group_facts.proofs.PutOut.{homes_stay}
use Rattle.group_facts.proofs.SlowRow.{slow_all}
use Rattle.group_facts.proofs.Reached.{Reached, facts_at, reached, settled_at}
use Rattle.group_sessions.proofs.Client7Law.{all_at}
use Rattle.group_sessions.proofs.Enrolled.{names}
use Rattle.group_sessions.proofs.ExitOuts.{Lives, any_each, any_first, any_second, ending, errors, exit_parts, lives_parts, losses, member_named, one_named, told, all_of_one, all_ones}
use Rattle.group_sessions.proofs.ExitsCleared.{asks_back, home, lists_emptied, takes_back, tokens_ended}
use Rattle.group_sessions.proofs.ExitsRefused.{refuses_all, IsUnasking}
use Rattle.group_sessions.proofs.ListsLaw.{legal_parts, lists_law}
use Rattle.group_sessions.proofs.Registered.{ids, none_has}
use Rattle.group_sessions.proofs.TellingPlaces.{last_starts}
use Rattle.group_sessions.proofs.Tied.{All, IsTied, live_rests, live_took}
use Rattle.group_sessions.specs.ExitReplay.{Chosen, Clears, ExitsEnd, IsAskBack, IsEnded, IsTakeBack, KeepsCleared, GoesOn, KeepsGroups, KeepsRefused, Refuses, closes, is_housed, is_member, spawns_for, HoldsOn, IsKeptHeld, KeepsHeld, is_same, sends}
use Rattle.group_sessions.specs.LastLists.{due_ending, emptied, is_hearing, lists_due, lists_to}
use Rattle.group_rows.specs.Waiting.{part, refuse_held, waiting_of}
use Rattle.group_facts.specs.Why.{AllSlow, AllWhy, Going, HasParts, IsForward, SlowOuts, at_once, had_waited, quitting}
use Rattle.group_facts.proofs.Everywhere.{entry_parts}
use Rattle.group_facts.proofs.Taken.{forward_or_silent}
use Rattle.group_rows.proofs.Moments.{asks}
use Rattle.group_rows.specs.Forwarded.{Sender, sender_of}
use Rattle.mux_facts.proofs.Lists.{all_join}
use Rattle.rpc_message.specs.Message.{message_of, Id}
use Rattle.group_rows.specs.Ends.{exit_text}
use Rattle.group_rows.proofs.Exits.{exit_says}
use Rattle.group_sessions.proofs.ExitsHeld.{Spares, closed_gone, row_spares, still_waits}
use Rattle.group_rows.specs.held_requests.specs.declared.request.Request.{Request}
use Rattle.group_facts.proofs.Sent.{OneOf}
use Rattle.event_model.specs.declared.phase.Phase.{Phase}
use Rattle.mux_facts.proofs.Why.{is_early}
use Rattle.rpc_message.specs.Texts.{error_text, request_failed}

module _ (settings : Settings) (before : List Event) (facts : Facts settings before) (cause : Cause) (s : ℕ) (exit : Exit settings before cause s) (k : Lives settings before s) (slow : List Out) where
  abbrev now : List Event
  now = with_cause before cause

  abbrev row : List Out
  row = outs (lost_row settings before s) now

  abbrev last : List Event
  last = behind (told settings before s k now) (losses settings before s k now)

  -- the choice
  pub chosen : begins_again settings before s ≡ starts_again settings before k.group k.kept
  chosen = ap (λ o. option_map_or (λ g. option_map_or (comes_again settings before g) (slice_get (groups_of settings before) g) false) o false) k.home
      ∙ (ap (λ o. option_map_or (comes_again settings before k.group) o false) k.found ∙ ap (λ b. b && starts_again settings before k.group k.kept) k.live)

  -- what X3 sends is sent
  among : (test : Out → Bool) → list_any test (outs (ending settings before s k now) last) ≡ true → list_any test (row ++ slow) ≡ true
  among test h = any_first test row slow (subst (λ z. list_any test z ≡ true) (sym (exit_parts settings before s k now))
      (any_second test (errors settings before s k now) (losses settings before s k now ++ outs (ending settings before s k now) last)
      (any_second test (losses settings before s k now) (outs (ending settings before s k now) last) h)))

  renewed : starts_again settings before k.group k.kept ≡ true → list_any (spawns_for (group_of s before)) (row ++ slow) ≡ true
  renewed again = among (spawns_for (group_of s before)) (ap (λ b. list_any (spawns_for (group_of s before)) (outs (choose b (spawn k.group) (each (turn_out settings k.group) (members_in settings k.group before))) last)) again
      ∙ (ap (λ o. spawns_for o (Spawn (starts_of last) k.group) || false) k.home ∙ ap (λ b. b || false) (same_number k.group)))

  turned : (e n : ℕ) (events : List Event) → n ≡ e → list_any (closes e) (outs (turn_out settings k.group n) events) ≡ true
  turned e n events is = let refused : List Event = behind events (outs (refuse_initialize n) events) in
      any_second (closes e) (outs (refuse_initialize n) events) (outs (part settings k.group n) refused)
      (any_second (closes e) (outs (refuse_held settings k.group n) refused) (CloseEditor n ∷ []) (ap (λ z. nat_eq z e || false) is ∙ ap (λ b. b || false) (same_number e)))

  shut : starts_again settings before k.group k.kept ≡ false → (e : ℕ) → is_member settings before s e ≡ true → list_any (closes e) (row ++ slow) ≡ true
  shut over e member = among (closes e) (ap (λ b. list_any (closes e) (outs (choose b (spawn k.group) (each (turn_out settings k.group) (members_in settings k.group before))) last)) over
      ∙ any_each (closes e) (turn_out settings k.group) (λ (n : ℕ). n ≡ e) (turned e) (members_in settings k.group before) (one_named e (members_in settings k.group before) (member_named settings before s k (facts.steady).editors e member)) last)

  -- the group lives no more
  over_now : not (begins_again settings before s) ≡ true → (g : ℕ) → group_of s before ≡ Some g → lives_at g (groups_of settings now) ≡ false
  over_now ends g home = go cause exit.is
    where
      at : (n : ℕ) → n ≡ s → not (begins_again settings before n) ≡ true
      at n is = ap (λ z. not (begins_again settings before z)) is ∙ ends

      go : (c : Cause) → is_exit c s ≡ true → lives_at g (groups_of settings (with_cause before c)) ≡ false
      go (StartFailed n) is = let same = number_same n s is in ap (lives_at g) (failed_groups settings before n (at n same)) ∙ lost_over settings before n g (ap (λ z. group_of z before) same ∙ home)
      go (ServerGone n) is = let same = number_same n s is in ap (lives_at g) (gone_groups settings before n (at n same)) ∙ lost_over settings before n g (ap (λ z. group_of z before) same ∙ home)
      go (Joined n) is = never (sym is)
      go (FromEditor n body) is = never (sym is)
      go (EditorGone n why) is = never (sym is)
      go (Started n) is = never (sym is)
      go (FromServer n body) is = never (sym is)
      go (Drained n b) is = never (sym is)
      go (Tick t) is = never (sym is)

  pub goes_on : (xs : List Out) → xs ≡ row ++ slow → GoesOn settings before s xs (behind now xs)
  goes_on xs is = go (begins_again settings before s) refl
    where
      go : (b : Bool) → begins_again settings before s ≡ b → Chosen settings before s xs (behind now xs) b
      go true again = ap (list_any (spawns_for (group_of s before))) is ∙ renewed (sym chosen ∙ again)
      go false over = record {
        closed = λ e member. ap (list_any (closes e)) is ∙ shut (sym chosen ∙ over) e member;
        over = λ g home. lives_outs settings g now xs ∙ over_now (ap not over) g home;
      }

-- A whole history

module _ (settings : Settings) (range : InRange settings) (before later : List Entry) (entry : Entry) (so_far : Legal settings before) (legal : LegalFrom settings before (entry ∷ later)) (s : ℕ) (is : is_exit entry.cause s ≡ true) (housed : is_housed settings (events_of before) s ≡ true) where
  abbrev old : List Event
  old = events_of before

  abbrev slow : List Out
  slow = outs (slow_row settings) (behind (with_cause old entry.cause) (outs_of settings old entry.cause))

  exit : Exit settings old entry.cause s
  exit = exit_by settings old entry.cause s is

  facts : Facts settings old
  facts = facts_at settings range old (reached settings before so_far)

  sent : entry.outs ≡ outs (lost_row settings old s) (with_cause old entry.cause) ++ slow
  sent = legal.1 ∙ ap (λ z. z ++ slow) exit.row

  reached_after : Reached settings (behind (with_cause old entry.cause) entry.outs)
  reached_after = subst (Reached settings) (events_more before entry) (reached settings (before ++ entry ∷ []) (legal_more before entry so_far legal))
    where
      legal_from : (early rest : List Entry) (x : Entry) → LegalFrom settings early rest → LegalFrom settings (early ++ rest) (x ∷ []) → LegalFrom settings early (rest ++ x ∷ [])
      legal_from early [] x a b = subst (λ z. LegalFrom settings z (x ∷ [])) (append-nil early) b
      legal_from early (y ∷ rest) x a b = (a.0, a.1, legal_from (early ++ y ∷ []) rest x a.2 (subst (λ z. LegalFrom settings z (x ∷ [])) (sym (append_assoc early (y ∷ []) rest)) b))

      legal_more : (xs : List Entry) (x : Entry) → Legal settings xs → LegalFrom settings xs (x ∷ later) → Legal settings (xs ++ x ∷ [])
      legal_more xs x a b = legal_from [] xs x a (b.0, b.1, tt)

  -- no editor's request goes on in it
  parts : HasParts settings old entry.cause entry.outs
  parts = subst (HasParts settings old entry.cause) (sym legal.1) (entry_parts settings range old entry.cause legal.0 facts)

  row_unasking : (place : List Event) (c : Cause) → ((n : ℕ) (events : List Event) (body : List ℕ) → IsForward settings place c events n body → ⊥) → (events : List Event) (xs : List Out) → AllWhy settings place c events xs → AllByRecursion IsUnasking xs
  row_unasking place c none events [] why = tt
  row_unasking place c none events (ToServer n body ∷ xs) why = (by (forward_or_silent settings place c events n body why.0), row_unasking place c none (events ++ said (ToServer n body) ∷ []) xs why.1)
    where
      by : IsForward settings place c events n body ⊎ (asks (said (ToServer n body)) ≡ false) → asks (said (ToServer n body)) ≡ false
      by (inl k) = absurd (none n events body k)
      by (inr silent) = silent
  row_unasking place c none events (ToEditor n body ∷ xs) why = (tt, row_unasking place c none (events ++ said (ToEditor n body) ∷ []) xs why.1)
  row_unasking place c none events (Spawn n g ∷ xs) why = (tt, row_unasking place c none (events ++ said (Spawn n g) ∷ []) xs why.1)
  row_unasking place c none events (CloseEditor n ∷ xs) why = (tt, row_unasking place c none (events ++ said (CloseEditor n) ∷ []) xs why.1)
  row_unasking place c none events (EndServer n ∷ xs) why = (tt, row_unasking place c none (events ++ said (EndServer n) ∷ []) xs why.1)

  none_by_exit : (n : ℕ) (events : List Event) (body : List ℕ) → IsForward settings old entry.cause events n body → ⊥
  none_by_exit n events body k = by k.going
    where
      by : Going settings old entry.cause events n (k.sender).editor k.asked → ⊥
      by (at_once from sync) = never (sym is ∙ ap (λ c. is_exit c s) from)
      by (had_waited w) = never (sym is ∙ ap (λ c. is_exit c s) w.from)

  -- nor by one that is slow
  none_slow : (place : List Event) (e n : ℕ) (events : List Event) (body : List ℕ) → IsForward settings place (quitting e) events n body → ⊥
  none_slow place e n events body k = by k.going
    where
      by : Going settings place (quitting e) events n (k.sender).editor k.asked → ⊥
      by (at_once from sync) = no_sender (ap (λ z. sender_of (k.sender).editor z (message_of z)) (exit_asked e (k.sender).editor k.asked from) ∙ k.own)
        where
          exit_asked : (e i : ℕ) (asked : List ℕ) → quitting e ≡ FromEditor i asked → exit_text ≡ asked
          exit_asked e i asked same = cc

          no_sender : sender_of (k.sender).editor exit_text (message_of exit_text) ≡ Some k.sender → ⊥
          no_sender its = absurd (let clash : ◌≡◌ {A = Option Sender} None (Some k.sender) = sym (ap (sender_of (k.sender).editor exit_text) exit_says) ∙ its in cc)
      by (had_waited w) = other e n w.answer w.from
        where
          other : (e i : ℕ) (answer : List ℕ) → quitting e ≡ FromServer i answer → ⊥
          other e i answer same = absurd (cc)

  slow_unasking : (place : List Event) (xs : List SlowOuts) → AllSlow settings place xs → AllByRecursion IsUnasking (flat_map (λ (x : SlowOuts). x.outs) xs)
  slow_unasking place [] h = tt
  slow_unasking place (x ∷ xs) h = all_join IsUnasking x.outs (flat_map (λ (y : SlowOuts). y.outs) xs) (row_unasking place (quitting x.editor) (none_slow place x.editor) place x.outs h.1.0) (slow_unasking (behind place x.outs) xs h.1.1)

  unasking : AllByRecursion IsUnasking entry.outs
  unasking = subst (AllByRecursion IsUnasking) (sym parts.parts) (all_join IsUnasking parts.row (flat_map (λ (x : SlowOuts). x.outs) parts.slow)
      (row_unasking old entry.cause none_by_exit (with_cause old entry.cause) parts.row parts.why) (slow_unasking (behind (with_cause old entry.cause) parts.row) parts.slow parts.leave))

  refused_there : Refuses settings old s entry.outs (behind (with_cause old entry.cause) entry.outs)
  refused_there = refuses_all settings old facts entry.cause s exit slow (lives_parts settings old s housed) entry.outs sent unasking (settled_at settings range (behind (with_cause old entry.cause) entry.outs) reached_after)

  goes_on_there : GoesOn settings old s entry.outs (behind (with_cause old entry.cause) entry.outs)
  goes_on_there = goes_on settings old facts entry.cause s exit (lives_parts settings old s housed) slow entry.outs sent

  -- What waits

  all_second : (P : Out → Type 0) (xs ys : List Out) → AllByRecursion P (xs ++ ys) → AllByRecursion P ys
  all_second P [] ys h = h
  all_second P (x ∷ xs) ys h = all_second P xs ys h.1

  abbrev lost_outs : List Out
  lost_outs = outs (lost_row settings old s) (with_cause old entry.cause)

  abbrev IsLeave : Out → Type 0
  IsLeave (CloseEditor n) = Unit {0}
  IsLeave (ToServer n body) = Unit {0}
  IsLeave out = ⊥

  leave_spares : (e : ℕ) (id : Id) (xs : List Out) → AllByRecursion IsLeave xs → AllByRecursion IsUnasking xs → AllByRecursion (Spares settings e id) xs
  leave_spares e id [] leave none = tt
  leave_spares e id (CloseEditor n ∷ xs) leave none = (tt, leave_spares e id xs leave.1 none.1)
  leave_spares e id (ToServer n body ∷ xs) leave none = (none.0, leave_spares e id xs leave.1 none.1)
  leave_spares e id (ToEditor n body ∷ xs) leave none = absurd leave.0
  leave_spares e id (Spawn n i ∷ xs) leave none = absurd leave.0
  leave_spares e id (EndServer n ∷ xs) leave none = absurd leave.0

  module _ (g : ℕ) (r : Request) (one : OneOf (λ (q : Request). q ≡ r) (waiting_of settings g old)) where
    abbrev later_on : List Event
    later_on = behind (with_cause old entry.cause) entry.outs

    k : Lives settings old s
    k = lives_parts settings old s housed

    w : IsHeld settings g old r
    w = all_of_one (IsHeld settings g old) r (waiting_of settings g old) ((facts.steady).held g).each one

    abbrev Waits : Type 0
    Waits = is_there (desk_of r.editor later_on).phase ≡ true → list_any (is_same r) (waiting_of settings g later_on) ≡ true

    slow_spares : AllByRecursion (Spares settings r.editor (w.asker).id) slow
    slow_spares = leave_spares r.editor (w.asker).id slow (slow_all settings IsLeave (λ n. tt) (λ n body. tt) (behind (with_cause old entry.cause) (outs_of settings old entry.cause)))
        (all_second IsUnasking lost_outs slow (subst (AllByRecursion IsUnasking) sent unasking))

    goes : (starts_again settings old k.group k.kept ≡ true) ⊎ (nat_eq g k.group ≡ false) → Waits
    goes keeps there = still_waits settings range old facts entry.cause s exit k g r w one entry.outs
        (subst (AllByRecursion (Spares settings r.editor (w.asker).id)) (sym sent) (all_join (Spares settings r.editor (w.asker).id) lost_outs slow (row_spares settings range old facts entry.cause s exit k g r w keeps) slow_spares)) there

    -- its editor is in the group
    begun_there : (phase : Phase) → is_there phase ≡ true → is_early phase ≡ false → is_begun phase ≡ true
    begun_there New there late = never late
    begun_there Absent there late = never (sym there)
    begun_there Closed there late = never (sym there)
    begun_there Gone there late = never (sym there)
    begun_there other there late = refl

    member : nat_eq g k.group ≡ true → is_member settings old s r.editor ≡ true
    member same = ap₂ (λ a b. a && b) (begun_there (desk_of r.editor old).phase w.there (w.asker).late)
        (ap (λ o. option_map_or (λ i. is_home i (home_of settings r.editor old)) o false) k.home ∙ (ap (is_home k.group) w.home ∙ same))

    waits_on : Waits
    waits_on = by_choice (begins_again settings old s) refl
      where
        by_group : begins_again settings old s ≡ false → (b : Bool) → nat_eq g k.group ≡ b → Waits
        by_group over true same there = absurd (closed_gone r.editor (with_cause old entry.cause) entry.outs ((subst (Chosen settings old s entry.outs later_on) over goes_on_there).closed r.editor (member same)) there)
        by_group over false apart there = goes (inr apart) there

        by_choice : (b : Bool) → begins_again settings old s ≡ b → Waits
        by_choice true again = goes (inl (sym (chosen settings old facts entry.cause s exit k slow) ∙ again))
        by_choice false over = by_group over (nat_eq g k.group) refl

    kept_held : IsKeptHeld settings entry.outs later_on g r
    kept_held = go (is_there (desk_of r.editor later_on).phase) refl
      where
        first : (a b : Bool) → a ≡ true → (a || b) ≡ true
        first true b h = refl
        first false b h = never (sym h)

        last : (a b c : Bool) → c ≡ true → (a || (b || c)) ≡ true
        last true b c h = refl
        last false true c h = refl
        last false false c h = h

        go : (b : Bool) → is_there (desk_of r.editor later_on).phase ≡ b → IsKeptHeld settings entry.outs later_on g r
        go true there = first (list_any (is_same r) (waiting_of settings g later_on)) _ (waits_on there)
        go false gone = last (list_any (is_same r) (waiting_of settings g later_on)) (list_any (sends r.editor (error_text r.id request_failed)) entry.outs) (not (is_there (desk_of r.editor later_on).phase)) (ap not gone)

  held_there : HoldsOn settings old s entry.outs (behind (with_cause old entry.cause) entry.outs)
  held_there g = all_ones (IsKeptHeld settings entry.outs (behind (with_cause old entry.cause) entry.outs) g) (waiting_of settings g old) (kept_held g)

  -- X2
  module _ (e : ℕ) (hears : is_hearing settings s e old ≡ true) where
    settled : Settled settings old
    settled = settled_at settings range old (reached settings before so_far)

    lasts : AllLast old
    lasts = last_starts settings range old (reached settings before so_far)

    -- as many lists as it is due
    due : (c : Cause) (after : List Event) → is_exit c s ≡ true → lists_due settings e old c after ≡ flat_map (emptied e old) (lists_of s old)
    due (StartFailed n) after exits = ap (λ z. due_ending settings z e old) (number_same n s exits) ∙ ap (λ b. if b then flat_map (emptied e old) (lists_of s old) else []) hears
    due (ServerGone n) after exits = ap (λ z. due_ending settings z e old) (number_same n s exits) ∙ ap (λ b. if b then flat_map (emptied e old) (lists_of s old) else []) hears
    due (Joined n) after exits = never (sym exits)
    due (FromEditor n body) after exits = never (sym exits)
    due (EditorGone n why) after exits = never (sym exits)
    due (Started n) after exits = never (sym exits)
    due (FromServer n body) after exits = never (sym exits)
    due (Drained n b) after exits = never (sym exits)
    due (Tick t) after exits = never (sym exits)

    abbrev after : List Event
    after = behind (with_cause old entry.cause) entry.outs

    -- nothing is registered there
    bare : is_running (desk_of e after).phase ≡ true → has_number e after ≡ true → registered_of (editor_part e after) ≡ []
    bare runs left = go (all_after.tied e k.group (starts_of old) at home_after start_after)
      where
        k : Lives settings old s
        k = lives_parts settings old s housed

        settled_after : Settled settings after
        settled_after = settled_at settings range after reached_after

        all_after : All settings after
        all_after = all_at settings range after reached_after

        all_old : All settings old
        all_old = all_at settings range old (reached settings before so_far)

        at : (desk_of e after).phase ≡ Running
        at = running_is settings after (desk_of e after).phase runs

        home_some : (o : Option ℕ) → is_home k.group o ≡ true → o ≡ Some k.group
        home_some None h = never (sym h)
        home_some (Some g) h = ap (λ n. Some n) (number_same g k.group h)

        home_after : home_of settings e after ≡ Some k.group
        home_after = homes_stay settings e (with_cause old entry.cause) entry.outs ∙ (exit.home e ∙ home_some (home_of settings e old) (home settings old facts settled lasts entry.cause s exit k slow e hears))

        -- its group goes on, since it is in one that lives
        again : begins_again settings old s ≡ true
        again = by_choice (begins_again settings old s) refl
          where
            by_choice : (b : Bool) → begins_again settings old s ≡ b → b ≡ true
            by_choice true h = refl
            by_choice false h = never (sym (lives_of settings after settled_after.lively e k.group (ap is_answered at) home_after) ∙ (subst (Chosen settings old s entry.outs after) h goes_on_there).over k.group k.home)

        start_after : start_of k.group after ≡ Some (starts_of old)
        start_after = ap (λ z. start_of k.group (behind (with_cause old entry.cause) z)) legal.1
            ∙ (ap (start_of k.group) (behind_both (with_cause old entry.cause) (outs_of settings old entry.cause) slow)
            ∙ (starts_stay k.group (behind (with_cause old entry.cause) (outs_of settings old entry.cause)) slow (slow_all settings NoSpawn (λ n. tt) (λ n body. tt) (behind (with_cause old entry.cause) (outs_of settings old entry.cause)))
            ∙ start_renewed settings old entry.cause settled.begun k.group s k.home is again))

        -- of the new start nothing is registered
        none_old : live_of settings (starts_of old) old ≡ []
        none_old = all_old.unready (starts_of old) (ap (λ (l : Life). is_unready l.stage) ((facts.steady).starts (starts_of old) (omega arith)))

        none_by : (c : Cause) → is_exit c s ≡ true → live_next settings (starts_of old) old (live_of settings (starts_of old) old) (heard c) ≡ []
        none_by (StartFailed n) exits = kept (nat_eq n (starts_of old))
          where
            kept : (b : Bool) → (if b then [] else live_of settings (starts_of old) old) ≡ []
            kept true = refl
            kept false = none_old
        none_by (ServerGone n) exits = kept (nat_eq n (starts_of old))
          where
            kept : (b : Bool) → (if b then [] else live_of settings (starts_of old) old) ≡ []
            kept true = refl
            kept false = none_old
        none_by (Joined n) exits = never (sym exits)
        none_by (FromEditor n body) exits = never (sym exits)
        none_by (EditorGone n why) exits = never (sym exits)
        none_by (Started n) exits = never (sym exits)
        none_by (FromServer n body) exits = never (sym exits)
        none_by (Drained n b) exits = never (sym exits)
        none_by (Tick t) exits = never (sym exits)

        none_after : live_of settings (starts_of old) after ≡ []
        none_after = live_rests settings (starts_of old) (with_cause old entry.cause) entry.outs ∙ (live_took settings (starts_of old) old entry.cause ∙ none_by entry.cause is)

        go : IsTied settings e (starts_of old) (ids e after) after → ids e after ≡ []
        go (inr full) = never (sym left ∙ full)
        go (inl same) = none_has (ids e after) (λ x. same x ∙ ap (λ rs. has_id (names rs) x) none_after)

    cleared_there : lists_to e entry.outs ≡ lists_due settings e old entry.cause (behind (with_cause old entry.cause) (outs_of settings old entry.cause)) → Clears settings old s entry.outs after e
    cleared_there told_lists = record {
      ended = subst (λ z. AllByRecursion (IsEnded settings old s z e) (created_of settings s old).tokens) (sym sent) (tokens_ended settings old facts settled lasts entry.cause s exit (lives_parts settings old s housed) slow e hears);
      takes = subst (λ z. AllByRecursion (IsTakeBack e z) (created_of settings s old).takings) (sym sent) (takes_back settings old facts settled lasts entry.cause s exit (lives_parts settings old s housed) slow e hears);
      asks = subst (λ z. AllByRecursion (IsAskBack e z) (asks_of settings s old)) (sym sent) (asks_back settings old facts settled lasts entry.cause s exit (lives_parts settings old s housed) slow e hears);
      lists = lists_emptied settings old facts settled lasts entry.cause s exit (lives_parts settings old s housed) slow e hears entry.outs (told_lists ∙ due entry.cause (behind (with_cause old entry.cause) (outs_of settings old entry.cause)) is);
      registered = bare;
    }

module _ (settings : Settings) (range : InRange settings) (history : List Entry) (legal : Legal settings history) where
  at_entry : (before later : List Entry) (entry : Entry) → history ≡ before ++ entry ∷ later → LegalFrom settings [] before × LegalFrom settings before (entry ∷ later)
  at_entry before later entry is = legal_parts settings [] before (entry ∷ later) (subst (Legal settings) is legal)

  refused_law : KeepsRefused settings history
  refused_law before later entry is s exits housed = let parts = at_entry before later entry is in refused_there settings range before later entry parts.0 parts.1 s exits housed

  held_law : KeepsHeld settings history
  held_law before later entry is s exits housed = let parts = at_entry before later entry is in held_there settings range before later entry parts.0 parts.1 s exits housed

  groups_law : KeepsGroups settings history
  groups_law before later entry is s exits housed = let parts = at_entry before later entry is in goes_on_there settings range before later entry parts.0 parts.1 s exits housed

  cleared_law : KeepsCleared settings history
  cleared_law before later entry is s exits housed e hears = let parts = at_entry before later entry is in
      cleared_there settings range before later entry parts.0 parts.1 s exits housed e hears (lists_law settings range history legal before later entry is e)

  pub exits_law : ExitsEnd settings history
  exits_law = record { refused = refused_law; cleared = cleared_law; groups = groups_law; held = held_law }
