-- The last start of a group that lives no more isn't up, and behind a stop no group lives: behind every legal history.
use Rattle.std.proofs.Common.{◌≡◌, ℕ, max, ◌<◌, ◌≤◌, ◌^◌, Bool, true, false, not, ◌&&◌, List, [], ◌∷◌, ◌++◌, map, nat_eq, codes, if◌then◌else◌, Option, None, Some, refl, sym, ◌∙◌, ap, ap₂, subst, append-nil, append_assoc, arith}
use Rattle.std.specs.List.{AllByRecursion}
use Rattle.std.proofs.lemmas.Bool.{and_parts}
use Rattle.mux_history.specs.declared.cause.Cause.{Cause}
use Rattle.mux_history.specs.declared.cause.Cause.TheVariants.{Joined, FromEditor, EditorGone, Started, StartFailed, FromServer, ServerGone, Drained, Tick}
use Rattle.mux_history.specs.declared.out.Out.{Out}
use Rattle.mux_history.specs.declared.out.Out.TheVariants.{ToEditor, ToServer, Spawn, CloseEditor, EndServer}
use Rattle.rpc_message.specs.Message.{message_of}
use Rattle.event_model.specs.declared.phase.Phase.{Phase}
use Rattle.event_model.specs.declared.phase.Phase.TheVariants.{Absent, New, Waiting, Answered, Running, Down, Closed, Gone}
use Rattle.event_model.specs.declared.stage.Stage.TheVariants.{Ended, Ready}
use Rattle.event_model.specs.Event.{Event, behind, heard, requests, said, with_cause}
use Rattle.event_model.specs.Phases.{desk_of, is_new, is_there, needs_server}
use Rattle.event_model.specs.Requests.{next_number}
use Rattle.event_model.specs.Row.{each, outs, send}
use Rattle.event_model.specs.Settings.{Settings}
use Rattle.event_model.specs.Spawns.{group_of, start_of, starts_of}
use Rattle.event_model.specs.Stages.{Life, is_ended, is_initializing, is_ready, life_of}
use Rattle.event_model.proofs.Frames.{never}
use Rattle.mux_model.specs.Fits.{fits_behind}
use Rattle.mux_facts.proofs.Folds.{life_more, number_more, starts_more}
use Rattle.mux_facts.proofs.Keeps.{behind_both}
use Rattle.mux_facts.proofs.Starts.{Starts}
use Rattle.mux_facts.proofs.Words.{number_same, same_number}
use Rattle.group_words.specs.declared.kept.Kept.{Kept}
use Rattle.group_words.specs.declared.placed.Placed.{Placed}
use Rattle.group_words.specs.declared.placed.Placed.TheVariants.{Joins, New as Founds, Evicts, TooMany}
use Rattle.group_words.specs.Houses.{at_group, declared_for, exit_of, groups_lose, groups_of, has_editor, home_of, house_of, is_first_error, key_for, placed_for, places, stops, time_of}
use Rattle.group_words.specs.Keys.{Common}
use Rattle.group_words.specs.Placing.{busy, changed, end_where, ended, founded, is_due, is_live, with_editor}
use Rattle.group_words.specs.Rows.{end_group, placed_row}
use Rattle.group_words.proofs.Frames.{groups_more, groups_stay}
use Rattle.group_rows.specs.Asks.{members_in}
use Rattle.group_rows.specs.ExitRows.{begins_again}
use Rattle.group_rows.specs.Waiting.{part}
use Rattle.group_rows.specs.Rows.{outs_of, refusal, waiting_in}
use Rattle.group_rows.specs.StopRows.{stopped, stopped_next}
use Rattle.group_rows.specs.Ticks.{due_of, overdue_of}
use Rattle.group_facts.specs.Facts.{Housed, IsHoused, Quit, is_exit, is_refusing, is_up}
use Rattle.group_facts.specs.Lively.{Lively, lives_at}
use Rattle.group_facts.specs.Settled.{IsServing}
use Rattle.group_facts.proofs.Begun.{Begun, NoSpawn, all_outs, founding_of, placed_outs, quiet_loss, start_took, starts_quiet}
use Rattle.group_facts.proofs.Ceased.{IsOff, Low, Spawned, group_off, group_quiet, groups_off, is_spawned, off_ended, off_outs, off_spawn, off_took}
use Rattle.group_facts.proofs.Exits.{end_live, exit_over, groups_lost, lost_is, renewed_lives, renews_parts}
use Rattle.group_facts.proofs.LiveGroups.{all_at, changed_lives, emptied_lives, lives_apart, lives_changed, lives_ended, lives_left}
use Rattle.group_facts.proofs.LastStarts.{N, AllLast, alive_exit, alive_initializing, by_founding, group_last, kept_below, start_last, start_quiet}
use Rattle.group_facts.proofs.PutOut.{refused_outs}
use Rattle.group_facts.proofs.StopDown.{stop_off}
use Rattle.group_facts.proofs.StopEntry.{stop_outs, stopped_outs}
use Rattle.group_facts.proofs.StopEnds.{over_all}
use Rattle.group_facts.proofs.StopWhy.{stops_places}
use Rattle.group_facts.proofs.Quits.{stopped_more}

abbrev pub AllDown : Settings → List Event → Type 0
AllDown settings events = (g s : ℕ) → lives_at g (groups_of settings events) ≡ false → start_of g events ≡ Some s → IsOff s events

abbrev pub Over : Settings → List Event → Type 0
Over settings events = stopped events ≡ true → (g : ℕ) → lives_at g (groups_of settings events) ≡ false

-- No out changes which groups live

lives_did : (settings : Settings) (g : ℕ) (events : List Event) (out : Out) → lives_at g (groups_of settings (events ++ said out ∷ [])) ≡ lives_at g (groups_of settings events)
lives_did settings g events (CloseEditor e) = ap (lives_at g) (groups_more settings events (said (CloseEditor e))) ∙ emptied_lives (home_of settings e events) _ _ _ g (groups_of settings events)
lives_did settings g events (ToEditor e body) = ap (lives_at g) (groups_stay settings events (said (ToEditor e body)) refl)
lives_did settings g events (ToServer n body) = ap (lives_at g) (groups_stay settings events (said (ToServer n body)) refl)
lives_did settings g events (Spawn n i) = ap (lives_at g) (groups_stay settings events (said (Spawn n i)) refl)
lives_did settings g events (EndServer n) = ap (lives_at g) (groups_stay settings events (said (EndServer n)) refl)

pub lives_outs : (settings : Settings) (g : ℕ) (events : List Event) (xs : List Out) → lives_at g (groups_of settings (behind events xs)) ≡ lives_at g (groups_of settings events)
lives_outs settings g events [] = ap (λ z. lives_at g (groups_of settings z)) (append-nil events)
lives_outs settings g events (x ∷ xs) = ap (λ z. lives_at g (groups_of settings z)) (sym (append_assoc events (said x ∷ []) (map said xs))) ∙ (lives_outs settings g (events ++ said x ∷ []) xs ∙ lives_did settings g events x)

quiet_programs : (ss : List ℕ) (events : List Event) → AllByRecursion NoSpawn (outs (each (λ s. send (EndServer s)) ss) events)
quiet_programs [] events = tt
quiet_programs (s ∷ ss) events = (tt, quiet_programs ss (behind events (EndServer s ∷ [])))

-- The groups that end by a cause

the_same : {v w : ℕ} → ◌≡◌ {A = Option ℕ} (Some v) (Some w) → v ≡ w
the_same e = cc

module _ (settings : Settings) (before : List Event) (low : Low before) (spawned : Spawned before) (lively : Lively settings before) (lasts : AllLast before) where
  abbrev groups : List Kept
  groups = groups_of settings before

  -- a group lived, and lives no more behind the cause: its last start isn't up behind the entry
  abbrev Ends : Cause → Type 0
  Ends cause = (g s : ℕ) → lives_at g groups ≡ true → lives_at g (groups_of settings (with_cause before cause)) ≡ false → start_of g before ≡ Some s → IsOff s (behind (with_cause before cause) (outs_of settings before cause))

  none_ends : (cause : Cause) → groups_of settings (with_cause before cause) ≡ groups → Ends cause
  none_ends cause same g s live over at = never (sym live ∙ (sym (ap (lives_at g) same) ∙ over))

  low_now : (cause : Cause) → ((s : ℕ) → life_of s (with_cause before cause) ≡ life_of s before) → ((s : ℕ) → next_number s (with_cause before cause) ≡ next_number s before) → Low (with_cause before cause)
  low_now cause life number g s at ready = subst (λ n. n < 2 ^ 128) (sym (number s)) (low g s (sym (start_took g before cause) ∙ at) (sym (ap (λ (l : Life). l.stage) (life s)) ∙ ready))

  -- X7
  module _ (t : ℕ) where
    abbrev tick_now : List Event
    tick_now = with_cause before (Tick t)

    abbrev due : List ℕ
    due = due_of settings before t

    abbrev group_ends : List Out
    group_ends = outs (each end_group due) tick_now

    abbrev programs : List Out
    programs = outs (each (λ s. send (EndServer s)) (overdue_of settings before t)) (behind tick_now group_ends)

    tick_ends : Ends (Tick t)
    tick_ends g s live over at = subst (IsOff s) (sym (behind_both tick_now group_ends programs)) (off_outs s (behind tick_now group_ends) programs (quiet_programs (overdue_of settings before t) (behind tick_now group_ends))
        (all_at (λ i. (n : ℕ) → start_of i tick_now ≡ Some n → is_spawned (life_of n tick_now).stage ≡ true → IsOff n (behind tick_now group_ends)) (is_due settings.limits.idle (max (time_of before) t)) groups 0 g g (omega arith)
        (groups_off settings due tick_now (low_now (Tick t) (λ n. life_more n before (heard (Tick t))) (λ n. number_more n before (heard (Tick t))))) live (sym (ap (lives_at g) (groups_more settings before (heard (Tick t)))) ∙ over)
        s (start_took g before (Tick t) ∙ at) (ap (λ (l : Life). is_spawned l.stage) (life_more s before (heard (Tick t))) ∙ spawned g s at)))

  -- E6 and E7
  module _ (e : ℕ) (body : List ℕ) where
    abbrev now : List Event
    now = with_cause before (FromEditor e body)

    abbrev later : List Event
    later = behind now (outs_of settings before (FromEditor e body))

    abbrev key : Common
    key = key_for settings before e body

    abbrev declared : List ℕ
    declared = declared_for settings before e body

    low_heard : Low now
    low_heard = low_now (FromEditor e body) (λ n. life_more n before (heard (FromEditor e body))) (λ n. number_more n before (heard (FromEditor e body)))

    evicted : (a h s : ℕ) → outs_of settings before (FromEditor e body) ≡ outs (placed_row e body before (Evicts a h)) now → start_of a before ≡ Some s → IsOff s later
    evicted a h s sent at = subst (λ xs. IsOff s (behind now xs)) (sym sent) (subst (IsOff s) (sym (behind_both now ones (Spawn (starts_of mid) h ∷ [])))
        (off_spawn s (starts_of mid) h mid (other (nat_eq (starts_of mid) s) refl) (group_off a now low_heard s (start_took a before (FromEditor e body) ∙ at) (ap (λ (l : Life). is_spawned l.stage) (life_more s before (heard (FromEditor e body))) ∙ spawned a s at))))
      where
        ones : List Out
        ones = outs (end_group a) now

        mid : List Event
        mid = behind now ones

        count : starts_of mid ≡ starts_of before
        count = starts_quiet now ones (group_quiet a now) ∙ starts_more before (heard (FromEditor e body))

        below : s < starts_of before
        below = (lively.last a s at).1

        other : (b : Bool) → nat_eq (starts_of mid) s ≡ b → b ≡ false
        other true same = absurd (let is : starts_of mid ≡ s = number_same (starts_of mid) s same in omega (arith, is, count, below))
        other false apart = refl

    placed_ends : (p : Placed) → outs_of settings before (FromEditor e body) ≡ outs (placed_row e body before p) now → groups_of settings now ≡ with_editor p key declared groups → Ends (FromEditor e body)
    placed_ends (Joins h) sent same g s live over at = never (sym live ∙ (sym (ap (lives_at g) same ∙ changed_lives busy (λ x. refl) h g groups) ∙ over))
    placed_ends (Founds h) sent same g s live over at = never (sym (ap (lives_at g) same ∙ lives_left g groups (founded key declared ∷ []) live) ∙ over)
    placed_ends (Evicts a h) sent same g s live over at = go (nat_eq a g) refl
      where
        go : (b : Bool) → nat_eq a g ≡ b → IsOff s later
        go true is = evicted a h s sent (ap (λ i. start_of i before) (number_same a g is) ∙ at)
        go false other = never (sym (ap (lives_at g) same ∙ lives_left g (changed a ended groups) (founded key declared ∷ []) (lives_apart a g ended groups (λ is. never (sym (ap (nat_eq a) is ∙ same_number a) ∙ other)) ∙ live)) ∙ over)
    placed_ends TooMany sent same g s live over at = never (sym live ∙ (sym (ap (lives_at g) same) ∙ over))

    hears_by : (b c : Bool) → places (desk_of e before).phase (message_of body) ≡ b → stops before e (message_of body) ≡ c
        → groups_of settings now ≡ (if b then with_editor (placed_for settings before e body groups) key declared groups else if c then end_where is_live groups else groups)
    hears_by b c here stop = groups_more settings before (heard (FromEditor e body))
        ∙ ap₂ (λ v w. if v then with_editor (placed_for settings before e body groups) key declared groups else if w then end_where is_live groups else groups) here stop

    heard_ends : (b c : Bool) → places (desk_of e before).phase (message_of body) ≡ b → stops before e (message_of body) ≡ c → Ends (FromEditor e body)
    heard_ends true c here stop = placed_ends (placed_for settings before e body groups) (placed_outs settings before e body here) (hears_by true c here stop)
    heard_ends false true off stop = λ g s live over at. subst (λ xs. IsOff s (behind now xs)) (sym (stop_outs settings before e body stop)) (stop_off settings before e body low g s live at (spawned g s at))
    heard_ends false false off on = none_ends (FromEditor e body) (hears_by false false off on)

  -- S3
  module _ (n : ℕ) (body : List ℕ) where
    said_by : (b : Bool) → is_refusing before n (message_of body) ≡ b → groups_of settings (with_cause before (FromServer n body)) ≡ (if b then at_group (group_of n before) (λ k. ended) groups else groups)
    said_by b is = groups_more settings before (heard (FromServer n body)) ∙ ap (λ v. if v then at_group (group_of n before) (λ k. ended) groups else groups) is

    abbrev said_now : List Event
    said_now = with_cause before (FromServer n body)

    refused_last : is_refusing before n (message_of body) ≡ true → (g : ℕ) → group_of n before ≡ Some g → IsOff n (behind said_now (outs_of settings before (FromServer n body)))
    refused_last refuses g home = subst (λ xs. IsOff n (behind said_now xs)) (sym (refused_outs settings before n body refuses g home))
        (subst (IsOff n) (sym (behind_both said_now errors (closes ++ EndServer n ∷ []) ∙ behind_both mid closes (EndServer n ∷ []))) (off_ended n (behind mid closes)))
      where
        errors : List Out
        errors = outs (each (refusal body) (waiting_in settings g said_now)) said_now

        mid : List Event
        mid = behind said_now errors

        closes : List Out
        closes = outs (each (part settings g) (members_in settings g mid)) mid

    refused_off : is_refusing before n (message_of body) ≡ true → (g s : ℕ) → group_of n before ≡ Some g → start_of g before ≡ Some s → IsOff s (behind (with_cause before (FromServer n body)) (outs_of settings before (FromServer n body)))
    refused_off refuses g s home at = subst (λ k. IsOff k (behind (with_cause before (FromServer n body)) (outs_of settings before (FromServer n body)))) (the_same (sym (lasts n g home (alive_initializing (life_of n before).stage (and_parts (is_first_error (message_of body)) (is_initializing (life_of n before).stage) refuses).1)) ∙ at)) (refused_last refuses g home)

    said_ends : (b : Bool) (o : Option ℕ) → is_refusing before n (message_of body) ≡ b → group_of n before ≡ o → Ends (FromServer n body)
    said_ends false o off home = none_ends (FromServer n body) (said_by false off)
    said_ends true None refuses none = none_ends (FromServer n body) (said_by true refuses ∙ ap (λ o. at_group o (λ k. ended) groups) none)
    said_ends true (Some i) refuses home = λ g s live over at. go g s live over at (nat_eq i g) refl
      where
        go : (g s : ℕ) → lives_at g groups ≡ true → lives_at g (groups_of settings said_now) ≡ false → start_of g before ≡ Some s → (b : Bool) → nat_eq i g ≡ b → IsOff s (behind said_now (outs_of settings before (FromServer n body)))
        go g s live over at true is = refused_off refuses g s (home ∙ ap (λ k. Some k) (number_same i g is)) at
        go g s live over at false other = never (sym (ap (lives_at g) (said_by true refuses ∙ ap (λ o. at_group o (λ k. ended) groups) home) ∙ (lives_apart i g ended groups (λ is. never (sym (ap (nat_eq i) is ∙ same_number i) ∙ other)) ∙ live)) ∙ over)

  -- X1 to X3: the start of a group that ends did
  off_there : (n : ℕ) (cause : Cause) → life_of n (with_cause before cause) ≡ (if nat_eq n n then record { stage = Ended; started = (life_of n before).started } else life_of n before) → IsOff n (with_cause before cause)
  off_there n cause life = ap (λ (l : Life). is_up l.stage) (life ∙ ap (λ b. if b then record { stage = Ended; started = (life_of n before).started } else life_of n before) (same_number n))

  lost_ends : (n : ℕ) (cause : Cause) → is_ended (life_of n before).stage ≡ false → groups_of settings (with_cause before cause) ≡ groups_lost settings before n → IsOff n (with_cause before cause) → AllByRecursion NoSpawn (outs_of settings before cause) → Ends cause
  lost_ends n cause alive same off calm g s live over at = go (group_of n before) refl
    where
      apart : (i : ℕ) → group_of n before ≡ Some i → (b : Bool) → nat_eq i g ≡ b → IsOff s (behind (with_cause before cause) (outs_of settings before cause))
      apart i home true is = subst (λ k. IsOff k (behind (with_cause before cause) (outs_of settings before cause))) (the_same (sym (lasts n g (home ∙ ap (λ k. Some k) (number_same i g is)) alive) ∙ at)) (off_outs n (with_cause before cause) (outs_of settings before cause) calm off)
      apart i home false other = never (sym (ap (lives_at g) (same ∙ ap (λ o. at_group o (λ k. end_live) groups) home) ∙ (lives_apart i g end_live groups (λ is. never (sym (ap (nat_eq i) is ∙ same_number i) ∙ other)) ∙ live)) ∙ over)

      go : (o : Option ℕ) → group_of n before ≡ o → IsOff s (behind (with_cause before cause) (outs_of settings before cause))
      go None none = never (sym (ap (lives_at g) (same ∙ ap (λ o. at_group o (λ k. end_live) groups) none) ∙ live) ∙ over)
      go (Some i) home = apart i home (nat_eq i g) refl

  exit_ends : (n : ℕ) (cause : Cause) → is_ended (life_of n before).stage ≡ false → groups_of settings (with_cause before cause) ≡ groups_lose settings before n (house_of settings before) → IsOff n (with_cause before cause)
      → (not (begins_again settings before n) ≡ true → AllByRecursion NoSpawn (outs_of settings before cause)) → Ends cause
  exit_ends n cause alive same off calm = go (begins_again settings before n) refl
    where
      go : (b : Bool) → begins_again settings before n ≡ b → Ends cause
      go true again = λ g s live over at. never (sym live ∙ (sym (ap (lives_at g) same ∙ renewed_lives settings before n (renews_parts settings before n again) g) ∙ over))
      go false last = lost_ends n cause alive (same ∙ lost_is settings before n (ap not last)) off (calm (ap not last))

  cause_ends : (cause : Cause) → fits_behind before cause ≡ true → Ends cause
  cause_ends (Joined n) fits = none_ends (Joined n) (groups_more settings before (heard (Joined n)))
  cause_ends (Drained n k) fits = none_ends (Drained n k) (groups_more settings before (heard (Drained n k)))
  cause_ends (Started n) fits = none_ends (Started n) (groups_more settings before (heard (Started n)))
  cause_ends (StartFailed n) fits = exit_ends n (StartFailed n) (alive_exit before (StartFailed n) n (same_number n) fits) (groups_more settings before (heard (StartFailed n))) (off_there n (StartFailed n) (life_more n before (heard (StartFailed n))))
      (λ ends. all_outs NoSpawn _ _ (quiet_loss settings before n ends (with_cause before (StartFailed n))).why)
  cause_ends (ServerGone n) fits = exit_ends n (ServerGone n) (alive_exit before (ServerGone n) n (same_number n) fits) (groups_more settings before (heard (ServerGone n))) (off_there n (ServerGone n) (life_more n before (heard (ServerGone n))))
      (λ ends. all_outs NoSpawn _ _ (quiet_loss settings before n ends (with_cause before (ServerGone n))).why)
  cause_ends (EditorGone n why) fits = λ g s live over at. never (sym live ∙ (sym (ap (lives_at g) (groups_more settings before (heard (EditorGone n why))) ∙ emptied_lives (home_of settings n before) _ _ _ g groups) ∙ over))
  cause_ends (Tick t) fits = tick_ends t
  cause_ends (FromEditor e body) fits = heard_ends e body (places (desk_of e before).phase (message_of body)) (stops before e (message_of body)) refl refl
  cause_ends (FromServer n body) fits = said_ends n body (is_refusing before n (message_of body)) (group_of n before) refl refl

-- A whole entry

module _ (settings : Settings) (before : List Event) (cause : Cause) (begun : Begun settings before) where
  abbrev after : List Event
  after = behind (with_cause before cause) (outs_of settings before cause)

  -- the last start of a group that lives no more was there before
  start_back : (g s : ℕ) → lives_at g (groups_of settings (with_cause before cause)) ≡ false → start_of g after ≡ Some s → start_of g before ≡ Some s
  start_back g s over = by_founding settings before cause begun (λ xs. start_of g (behind (with_cause before cause) xs) ≡ Some s → start_of g before ≡ Some s) (λ xs all at. sym (start_quiet settings before cause begun g xs all) ∙ at) last renewed (founding_of settings before cause)
    where
      last : (xs : List Out) (n : ℕ) → AllByRecursion NoSpawn xs → lives_at (N settings before cause begun) (groups_of settings (with_cause before cause)) ≡ true → start_of g (behind (with_cause before cause) (xs ++ Spawn n (N settings before cause begun) ∷ [])) ≡ Some s → start_of g before ≡ Some s
      last xs n all live at = go (nat_eq (N settings before cause begun) g) refl (sym (start_last settings before cause begun g n (N settings before cause begun) xs all) ∙ at)
        where
          go : (b : Bool) → nat_eq (N settings before cause begun) g ≡ b → (if b then Some n else start_of g before) ≡ Some s → start_of g before ≡ Some s
          go true same k = never (sym live ∙ (ap (λ i. lives_at i (groups_of settings (with_cause before cause))) (number_same (N settings before cause begun) g same) ∙ over))
          go false other k = k

      renewed : (xs : List Out) (t i : ℕ) → AllByRecursion NoSpawn xs → is_exit cause t ≡ true → group_of t before ≡ Some i → lives_at i (groups_of settings (with_cause before cause)) ≡ true
          → start_of g (behind (with_cause before cause) (xs ++ Spawn (starts_of before) i ∷ [])) ≡ Some s → start_of g before ≡ Some s
      renewed xs t i all is home live at = go (nat_eq i g) refl (sym (start_last settings before cause begun g (starts_of before) i xs all) ∙ at)
        where
          go : (b : Bool) → nat_eq i g ≡ b → (if b then Some (starts_of before) else start_of g before) ≡ Some s → start_of g before ≡ Some s
          go true same k = never (sym live ∙ (ap (λ k. lives_at k (groups_of settings (with_cause before cause))) (number_same i g same) ∙ over))
          go false other k = k

  -- and if it wasn't up, it isn't
  off_kept : (g s : ℕ) → start_of g before ≡ Some s → s < starts_of before → group_of s after ≡ Some g → IsOff s before → IsOff s after
  off_kept g s at below home off = by_founding settings before cause begun (λ xs. group_of s (behind (with_cause before cause) xs) ≡ Some g → IsOff s (behind (with_cause before cause) xs)) (λ xs all is. quiet xs all) last renewed (founding_of settings before cause) home
    where
      quiet : (xs : List Out) → AllByRecursion NoSpawn xs → IsOff s (behind (with_cause before cause) xs)
      quiet xs all = off_outs s (with_cause before cause) xs all (off_took s before cause off)

      last : (xs : List Out) (n : ℕ) → AllByRecursion NoSpawn xs → lives_at (N settings before cause begun) (groups_of settings (with_cause before cause)) ≡ true → group_of s (behind (with_cause before cause) (xs ++ Spawn n (N settings before cause begun) ∷ [])) ≡ Some g
          → IsOff s (behind (with_cause before cause) (xs ++ Spawn n (N settings before cause begun) ∷ []))
      last xs n all live is = subst (IsOff s) (sym (behind_both (with_cause before cause) xs (Spawn n (N settings before cause begun) ∷ [])))
          (off_spawn s n (N settings before cause begun) (behind (with_cause before cause) xs) (fresh (nat_eq n s) refl (sym (group_last settings before cause begun s n (N settings before cause begun) xs all) ∙ is)) (quiet xs all))
        where
          fresh : (b : Bool) → nat_eq n s ≡ b → (if b then Some (N settings before cause begun) else group_of s before) ≡ Some g → b ≡ false
          fresh true same k = absurd (let its : N settings before cause begun ≡ g = the_same k in let below : g < N settings before cause begun = kept_below settings before cause begun g s at in omega (arith, its, below))
          fresh false other k = refl

      renewed : (xs : List Out) (t i : ℕ) → AllByRecursion NoSpawn xs → is_exit cause t ≡ true → group_of t before ≡ Some i → lives_at i (groups_of settings (with_cause before cause)) ≡ true
          → group_of s (behind (with_cause before cause) (xs ++ Spawn (starts_of before) i ∷ [])) ≡ Some g → IsOff s (behind (with_cause before cause) (xs ++ Spawn (starts_of before) i ∷ []))
      renewed xs t i all e kept live is = subst (IsOff s) (sym (behind_both (with_cause before cause) xs (Spawn (starts_of before) i ∷ [])))
          (off_spawn s (starts_of before) i (behind (with_cause before cause) xs) (apart (nat_eq (starts_of before) s) refl) (quiet xs all))
        where
          apart : (b : Bool) → nat_eq (starts_of before) s ≡ b → b ≡ false
          apart true same = absurd (let it : starts_of before ≡ s = number_same (starts_of before) s same in omega (arith, it, below))
          apart false other = refl

pub down_rests : (settings : Settings) (before : List Event) → Low before → Spawned before → Lively settings before → AllLast before → AllDown settings before → (cause : Cause) → fits_behind before cause ≡ true → Begun settings before → Lively settings (behind (with_cause before cause) (outs_of settings before cause)) → AllDown settings (behind (with_cause before cause) (outs_of settings before cause))
down_rests settings before low spawned lively lasts down cause fits begun later g s over at = go (lives_at g (groups_of settings before)) refl
  where
    over_now : lives_at g (groups_of settings (with_cause before cause)) ≡ false
    over_now = sym (lives_outs settings g (with_cause before cause) (outs_of settings before cause)) ∙ over

    was : start_of g before ≡ Some s
    was = start_back settings before cause begun g s over_now at

    go : (b : Bool) → lives_at g (groups_of settings before) ≡ b → IsOff s (behind (with_cause before cause) (outs_of settings before cause))
    go true live = cause_ends settings before low spawned lively lasts cause fits g s live over_now was
    go false dead = off_kept settings before cause begun g s was (lively.last g s was).1 (later.last g s at).0 (down g s dead was)

pub down_none : (settings : Settings) → AllDown settings []
down_none settings g s over at = absurd (cc)

-- so a start that is ready is the last one of a group that lives
pub serving : (settings : Settings) (events : List Event) → Starts events → Housed settings events → AllLast events → AllDown settings events → (s : ℕ) → (life_of s events).stage ≡ Ready → IsServing settings events s
serving settings events starts housed lasts down s ready = record { group = home.group; home = home.is; last = last; live = live (lives_at home.group (groups_of settings events)) refl }
  where
    spawned : starts_of events ≤ s → ⊥
    spawned le = never (sym (ap is_ready ready) ∙ ap (λ (l : Life). is_ready l.stage) (starts s le))

    below : (starts_of events ≤ s → ⊥) → s < starts_of events
    below f = omega (arith, f)

    home : IsHoused settings s events
    home = housed s (below spawned)

    last : start_of home.group events ≡ Some s
    last = lasts s home.group home.is (ap is_ended ready)

    live : (b : Bool) → lives_at home.group (groups_of settings events) ≡ b → b ≡ true
    live true is = refl
    live false over = never (sym (ap is_up ready) ∙ down home.group s over last)

-- Behind a stop

unthere_new : (phase : Phase) → is_there phase ≡ false → is_new phase ≡ false
unthere_new New h = h
unthere_new Absent h = refl
unthere_new Waiting h = refl
unthere_new Answered h = refl
unthere_new Running h = refl
unthere_new Down h = refl
unthere_new Closed h = refl
unthere_new Gone h = refl

exit_lives : (restarts : ℕ) (wanted : Bool) (x : Kept) → (exit_of restarts wanted x).live ≡ true → x.live ≡ true
exit_lives restarts wanted x h = go x.live refl
  where
    go : (b : Bool) → x.live ≡ b → x.live ≡ true
    go true live = live
    go false off = sym (ap (λ (y : Kept). y.live) (exit_over restarts wanted x off)) ∙ h

lost_lives : (home : Option ℕ) (f : ℕ → Kept → Kept) → ((g : ℕ) (x : Kept) → (f g x).live ≡ true → x.live ≡ true) → (g : ℕ) (xs : List Kept) → lives_at g (at_group home f xs) ≡ true → lives_at g xs ≡ true
lost_lives None f back g xs h = h
lost_lives (Some i) f back g xs h = lives_changed (f i) (back i) i g xs h

module _ (settings : Settings) (before : List Event) (quit : Quit before) (over : Over settings before) where
  abbrev groups_then : List Kept
  groups_then = groups_of settings before

  abbrev OverNow : Cause → Type 0
  OverNow cause = stopped_next before (stopped before) (heard cause) ≡ true → (g : ℕ) → lives_at g (groups_of settings (with_cause before cause)) ≡ false

  off_by : (b : Bool) → (b ≡ true → false ≡ true) → b ≡ false
  off_by true f = sym (f refl)
  off_by false f = refl

  -- none that lived no more lives again
  back_over : (cause : Cause) → ((g : ℕ) → lives_at g (groups_of settings (with_cause before cause)) ≡ true → lives_at g groups_then ≡ true) → stopped before ≡ true → (g : ℕ) → lives_at g (groups_of settings (with_cause before cause)) ≡ false
  back_over cause back was g = off_by (lives_at g (groups_of settings (with_cause before cause))) (λ live. sym (over was g) ∙ back g live)

  same_over : (cause : Cause) → groups_of settings (with_cause before cause) ≡ groups_then → stopped before ≡ true → (g : ℕ) → lives_at g (groups_of settings (with_cause before cause)) ≡ false
  same_over cause same was g = ap (lives_at g) same ∙ over was g

  module _ (e : ℕ) (body : List ℕ) where
    abbrev groups_by : Bool → Bool → List Kept
    groups_by b c = if b then with_editor (placed_for settings before e body groups_then) (key_for settings before e body) (declared_for settings before e body) groups_then else if c then end_where is_live groups_then else groups_then

    heard_by : (b c : Bool) → places (desk_of e before).phase (message_of body) ≡ b → stops before e (message_of body) ≡ c → groups_of settings (with_cause before (FromEditor e body)) ≡ groups_by b c
    heard_by b c here stop = groups_more settings before (heard (FromEditor e body)) ∙ ap₂ groups_by here stop

    heard_over : (c : Bool) → stops before e (message_of body) ≡ c → (if c then true else stopped before) ≡ true → (g : ℕ) → lives_at g (groups_of settings (with_cause before (FromEditor e body))) ≡ false
    heard_over true stop was g = ap (lives_at g) (heard_by false true (stops_places (desk_of e before).phase (message_of body) (and_parts (requests (codes "lspmux/stop") (message_of body)) _ stop).0) stop) ∙ over_all g groups_then
    heard_over false on was g = ap (lives_at g) (heard_by false false (ap (λ b. b && requests (codes "initialize") (message_of body)) (unthere_new (desk_of e before).phase (quit was e))) on) ∙ over was g

  over_now : (cause : Cause) → OverNow cause
  over_now (Joined n) was = same_over (Joined n) (groups_more settings before (heard (Joined n))) was
  over_now (Drained n k) was = same_over (Drained n k) (groups_more settings before (heard (Drained n k))) was
  over_now (Started n) was = same_over (Started n) (groups_more settings before (heard (Started n))) was
  over_now (EditorGone n why) was = λ g. ap (lives_at g) (groups_more settings before (heard (EditorGone n why))) ∙ (emptied_lives (home_of settings n before) _ _ _ g groups_then ∙ over was g)
  over_now (FromEditor e body) was = heard_over e body (stops before e (message_of body)) refl was
  over_now (FromServer n body) was = back_over (FromServer n body) (λ g live. by_test (is_refusing before n (message_of body)) g (sym (ap (lives_at g) (groups_more settings before (heard (FromServer n body)))) ∙ live)) was
    where
      by_test : (b : Bool) (g : ℕ) → lives_at g (if b then at_group (group_of n before) (λ k. ended) groups_then else groups_then) ≡ true → lives_at g groups_then ≡ true
      by_test true g live = lost_lives (group_of n before) (λ k. ended) (λ i x k. absurd (cc)) g groups_then live
      by_test false g live = live
  over_now (StartFailed n) was = back_over (StartFailed n) (λ g live. lost_lives (group_of n before) (λ i. exit_of settings.limits.restarts (has_editor needs_server i (house_of settings before).home before)) (λ i x. exit_lives settings.limits.restarts _ x) g groups_then
      (sym (ap (lives_at g) (groups_more settings before (heard (StartFailed n)))) ∙ live)) was
  over_now (ServerGone n) was = back_over (ServerGone n) (λ g live. lost_lives (group_of n before) (λ i. exit_of settings.limits.restarts (has_editor needs_server i (house_of settings before).home before)) (λ i x. exit_lives settings.limits.restarts _ x) g groups_then
      (sym (ap (lives_at g) (groups_more settings before (heard (ServerGone n)))) ∙ live)) was
  over_now (Tick t) was = back_over (Tick t) (λ g live. lives_ended (is_due settings.limits.idle (max (time_of before) t)) g groups_then (sym (ap (lives_at g) (groups_more settings before (heard (Tick t)))) ∙ live)) was

  pub over_rests : (cause : Cause) → Over settings (behind (with_cause before cause) (outs_of settings before cause))
  over_rests cause stop g = lives_outs settings g (with_cause before cause) (outs_of settings before cause)
      ∙ over_now cause (sym (stopped_more before (heard cause)) ∙ (sym (stopped_outs (with_cause before cause) (outs_of settings before cause)) ∙ stop)) g

pub over_none : (settings : Settings) → Over settings []
over_none settings stop g = absurd (cc)
