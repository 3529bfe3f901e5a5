-- The groups that live, their editors and their last starts, one event further, and so behind every legal history.
use Rattle.std.proofs.Common.{◌≡◌, ℕ, max, zero, suc, ◌+◌, ◌<◌, ◌≤◌, Bool, true, false, not, ◌&&◌, cond, List, [], ◌∷◌, ◌++◌, filter, length, nat_eq, nat_lt, codes, if◌then◌else◌, Option, Some, None, ◌⊎◌, inl, inr, refl, sym, ◌∙◌, ap, ap₂, subst, arith}
use Rattle.std.specs.List.{range_with_len}
use Rattle.std.specs.Option.{option_map_or}
use Rattle.std.proofs.lemmas.Bool.{and_parts}
use Rattle.std.proofs.lemmas.Bool.Decides.{nat_tests}
use Rattle.document_model.proofs.Written.{Spoken, spoken}
use Rattle.mux_history.specs.declared.cause.Cause.{Cause}
use Rattle.mux_history.specs.declared.cause.Cause.TheVariants.{Joined, FromEditor, EditorGone, Started, StartFailed, FromServer, ServerGone, Drained, Tick}
use Rattle.mux_history.specs.declared.cause.Why as link
use Rattle.mux_history.specs.declared.out.Out.{Out}
use Rattle.mux_history.specs.declared.out.Out.TheVariants.{ToEditor, ToServer, Spawn, CloseEditor, EndServer}
use Rattle.rpc_message.specs.Message.{Message, message_of}
use Rattle.event_model.specs.declared.phase.Phase.{Phase}
use Rattle.event_model.specs.declared.phase.Phase.TheVariants.{Absent, New, Waiting, Answered, Running, Down, Closed, Gone}
use Rattle.event_model.specs.declared.stage.Stage.{Stage}
use Rattle.event_model.specs.declared.stage.Stage.TheVariants.{Spawning, Initializing, Ready, Stopping, Ended}
use Rattle.event_model.specs.Event.{Event, behind, heard, requests, said, with_cause}
use Rattle.event_model.specs.Phases.{Desk, desk_behind, desk_hears, desk_of, editors_of, is_begun, is_new, is_there, makes_running, phase_closed, phase_told}
use Rattle.event_model.specs.Settings.{Settings}
use Rattle.event_model.specs.Spawns.{group_behind, group_of, start_behind, start_of, starts_behind, starts_of}
use Rattle.event_model.specs.Stages.{Life, is_initializing, life_behind, life_of, stage_ending, stage_hears, stage_started, stage_told, is_first_result}
use Rattle.event_model.proofs.Frames.{never}
use Rattle.mux_model.specs.Fits.{fits_behind}
use Rattle.mux_facts.specs.Ranges.{InRange}
use Rattle.mux_facts.proofs.Editors.{Editors}
use Rattle.mux_facts.proofs.Folds.{desk_more, life_more, starts_more}
use Rattle.mux_facts.proofs.Reasons.{reasons_keep}
use Rattle.mux_facts.proofs.Words.{number_same, same_number}
use Rattle.group_words.specs.declared.kept.Kept.{Kept}
use Rattle.group_words.specs.declared.placed.Placed.{Placed}
use Rattle.group_words.specs.Houses.{at_group, declared_for, groups_lose, groups_next, groups_of, has_editor, home_next, home_of, house_of, is_first_error, is_home, key_for, placed_for, places, stops, time_of}
use Rattle.group_words.specs.Placing.{end_where, ended, home_by, is_due, is_live, with_editor}
use Rattle.group_words.proofs.Frames.{groups_more, home_more}
use Rattle.group_rows.specs.ExitRows.{begins_again}
use Rattle.group_rows.specs.Rows.{outs_of}
use Rattle.group_facts.specs.SlowRows.{is_slow}
use Rattle.group_facts.specs.Facts.{ends_with, is_exit, is_parted, is_put_out, is_refused, is_refusing, is_up}
use Rattle.group_facts.specs.Lively.{IsDying, Lively, is_busy_at, is_unplaced, lives_at}
use Rattle.group_facts.specs.Settled.{is_answered}
use Rattle.group_facts.specs.Why.{Why, WhyEnd, WhyToServer, begins, greets, conveys, forwarded, notes, tells, shuts, cancels, exits, refused, starting, stopped, responds, resolves, cancels_work, quitting}
use Rattle.group_facts.proofs.Begun.{Begun, start_more}
use Rattle.group_facts.proofs.Downs.{lives_outs}
use Rattle.group_facts.proofs.Exits.{end_live, ends_live, left_over, lose_lived, lost_is, renewed_busy, renews_parts}
use Rattle.group_facts.proofs.Facts.{Facts}
use Rattle.group_facts.proofs.Housed.{group_more}
use Rattle.group_facts.proofs.Known.{Here, here_did, here_slow, here_took}
use Rattle.group_facts.proofs.LastStarts.{AllLast, over_last}
use Rattle.group_facts.proofs.LiveGroups.{IsFair, busy_apart, busy_emptied, busy_ended, busy_own, busy_placed, lives_busy, lives_changed, lives_emptied, lives_ended, lives_placed, placed_fair}
use Rattle.group_facts.proofs.Numbered.{no_shutdown}
use Rattle.group_facts.proofs.PutOut.{begun_closed, begun_told, or_first, unplaced_closed, unplaced_told}
use Rattle.group_facts.proofs.RequestRow.{either_desk}
use Rattle.group_facts.proofs.SlowRow.{parting, parting_why}
use Rattle.group_facts.proofs.StopEnds.{over_all}
use Rattle.group_facts.proofs.StopEntry.{begun_there, put_out_ends, there_heard}
use Rattle.group_facts.proofs.Table.{reasons}
use Rattle.group_facts.proofs.Waiting.{new_is}
use Rattle.group_facts.proofs.Numbers.{response_asks}

pub begun_answered : (phase : Phase) → is_answered phase ≡ true → is_begun phase ≡ true
begun_answered Answered h = refl
begun_answered Running h = refl
begun_answered Down h = refl
begun_answered Absent h = never (sym h)
begun_answered New h = never (sym h)
begun_answered Waiting h = never (sym h)
begun_answered Closed h = never (sym h)
begun_answered Gone h = never (sym h)

-- the group of an editor that got its result lives
pub lives_of : (settings : Settings) (events : List Event) → Lively settings events → (e g : ℕ) → is_answered (desk_of e events).phase ≡ true → home_of settings e events ≡ Some g → lives_at g (groups_of settings events) ≡ true
lives_of settings events h e g served home = lives_busy g (groups_of settings events) (h.busy e g (begun_answered (desk_of e events).phase served) home)

-- and its last start isn't to end
pub up_of : (settings : Settings) (events : List Event) → Lively settings events → (e g s : ℕ) → is_answered (desk_of e events).phase ≡ true → home_of settings e events ≡ Some g → start_of g events ≡ Some s → is_up (life_of s events).stage ≡ true
up_of settings events h e g s served home last = h.up g s (lives_of settings events h e g served home) last

-- Phases

-- a message that doesn't place its editor
begun_heard : (phase : Phase) (initialize body : List ℕ) (m : Message) → places phase m ≡ false → is_begun (desk_hears phase initialize body m).phase ≡ true → is_begun phase ≡ true
begun_heard New initialize body m off h = go (requests (codes "initialize") m) off h
  where
    go : (b : Bool) → b ≡ false → is_begun (either_desk b (record { phase = Waiting; initialize = body }) (record { phase = New; initialize = initialize })).phase ≡ true → false ≡ true
    go true off h = never off
    go false off h = h
begun_heard Absent initialize body m off h = h
begun_heard Waiting initialize body m off h = refl
begun_heard Answered initialize body m off h = refl
begun_heard Running initialize body m off h = refl
begun_heard Down initialize body m off h = h
begun_heard Closed initialize body m off h = h
begun_heard Gone initialize body m off h = h

unplaced_heard : (phase : Phase) (initialize body : List ℕ) (m : Message) → is_unplaced (desk_hears phase initialize body m).phase ≡ true → is_unplaced phase ≡ true
unplaced_heard New initialize body m h = refl
unplaced_heard Absent initialize body m h = refl
unplaced_heard Waiting initialize body m h = h
unplaced_heard Answered initialize body m h = go (requests (codes "shutdown") m) (makes_running m) h
  where
    go : (b c : Bool) → is_unplaced (if b then Down else if c then Running else Answered) ≡ true → false ≡ true
    go true c h = h
    go false true h = h
    go false false h = h
unplaced_heard Running initialize body m h = go (requests (codes "shutdown") m) h
  where
    go : (b : Bool) → is_unplaced (if b then Down else Running) ≡ true → false ≡ true
    go true h = h
    go false h = h
unplaced_heard Down initialize body m h = h
unplaced_heard Closed initialize body m h = h
unplaced_heard Gone initialize body m h = h

-- Stages

up_started : (stage : Stage) → is_up stage ≡ true → is_up (stage_started stage) ≡ true
up_started Spawning h = refl
up_started other h = h

up_hears : (stage : Stage) (m : Message) → is_up stage ≡ true → is_up (stage_hears stage m) ≡ true
up_hears Initializing m h = go (is_first_result m)
  where
    go : (b : Bool) → is_up (if b then Ready else Initializing) ≡ true
    go true = refl
    go false = refl
up_hears other m h = h

up_told : (stage : Stage) (m : Message) → requests (codes "shutdown") m ≡ false → is_up stage ≡ true → is_up (stage_told stage m) ≡ true
up_told Ready m other h = ap (λ b. is_up (if b then Stopping else Ready)) other
up_told stage m other h = h

-- one start, or any other
by_start : (b : Bool) (x y : Life) → (b ≡ true → is_up x.stage ≡ true) → (b ≡ false → is_up y.stage ≡ true) → is_up (if b then x else y).stage ≡ true
by_start true x y f g = f refl
by_start false x y f g = g refl

-- The editors of a group

positive : (n : ℕ) → nat_lt 0 (suc n) ≡ true
positive n = grind (arith, nat_tests)

some_left : (test : ℕ → Bool) (a n e : ℕ) → a ≤ e → e < a + n → test e ≡ true → nat_lt 0 (length (filter test (range_with_len a n))) ≡ true
some_left test a zero e low high h = absurd (omega (arith, low, high))
some_left test a (suc n) e low high h = go (test a) refl (λ up. some_left test (a + 1) n e up (omega (arith, high)) h)
  where
    go : (b : Bool) → test a ≡ b → (a + 1 ≤ e → nat_lt 0 (length (filter test (range_with_len (a + 1) n))) ≡ true) → nat_lt 0 (length (cond b (a ∷ filter test (range_with_len (a + 1) n)) (filter test (range_with_len (a + 1) n)))) ≡ true
    go true is f = positive (length (filter test (range_with_len (a + 1) n)))
    go false is f = f (past (λ same. never (sym h ∙ (ap test same ∙ is))) low)
      where
        past : (e ≡ a → ⊥) → a ≤ e → a + 1 ≤ e
        past g le = omega (arith, g, le)

still_has : (homes : ℕ → Option ℕ) (events : List Event) (e g : ℕ) → Editors events → is_begun (desk_of e events).phase ≡ true → homes e ≡ Some g → has_editor is_begun g homes events ≡ true
still_has homes events e g absent begun at = some_left (λ n. is_begun (desk_of n events).phase && is_home g (homes n)) 0 (editors_of events) e (omega arith) (inside (λ le. never (sym begun ∙ ap is_begun (absent e le))))
    (ap (λ b. b && is_home g (homes e)) begun ∙ (ap (is_home g) at ∙ same_number g))
  where
    inside : (editors_of events ≤ e → ⊥) → e < 0 + editors_of events
    inside f = omega (arith, f)

-- One event further, by what it does to each word

module _ (settings : Settings) (events : List Event) (event : Event) where
  abbrev Unplaced : Type 0
  Unplaced = (e : ℕ) → is_unplaced (desk_behind e (desk_of e events) event).phase ≡ true → home_next settings events (house_of settings events) event e ≡ None

  abbrev Busy : Type 0
  Busy = (e g : ℕ) → is_begun (desk_behind e (desk_of e events) event).phase ≡ true → home_next settings events (house_of settings events) event e ≡ Some g → is_busy_at g (groups_next settings events (house_of settings events) event) ≡ true

  abbrev Last : Type 0
  Last = (g s : ℕ) → start_behind g (start_of g events) event ≡ Some s → (group_behind s (group_of s events) event ≡ Some g) × (s < starts_behind (starts_of events) event)

  abbrev Up : Type 0
  Up = (g s : ℕ) → lives_at g (groups_next settings events (house_of settings events) event) ≡ true → start_behind g (start_of g events) event ≡ Some s → is_up (life_behind s (life_of s events) event).stage ≡ true

  by_words : Unplaced → Busy → Last → Up → Lively settings (events ++ event ∷ [])
  by_words unplaced busy last up = record {
    unplaced = λ e h. home_more settings e events event ∙ unplaced e (sym (ap (λ (d : Desk). is_unplaced d.phase) (desk_more e events event)) ∙ h);
    busy = λ e g h at. ap (is_busy_at g) (groups_more settings events event) ∙ busy e g (sym (ap (λ (d : Desk). is_begun d.phase) (desk_more e events event)) ∙ h) (sym (home_more settings e events event) ∙ at);
    last = λ g s at. let k = last g s (sym (start_more g events event) ∙ at) in (group_more s events event ∙ k.0, subst (λ n. s < n) (sym (starts_more events event)) k.1);
    up = λ g s h at. ap (λ (l : Life). is_up l.stage) (life_more s events event) ∙ up g s (sym (ap (lives_at g) (groups_more settings events event)) ∙ h) (sym (start_more g events event) ∙ at);
  }

-- Inside of an entry in which a group ends while it has editors, these are left out, and so is the start that ends in it

record Mostly (settings : Settings) (out over : ℕ → Bool) (events : List Event) : Type 0 where
  unplaced : (e : ℕ) → is_unplaced (desk_of e events).phase ≡ true → home_of settings e events ≡ None
  busy : (e g : ℕ) → out e ≡ false → is_begun (desk_of e events).phase ≡ true → home_of settings e events ≡ Some g → is_busy_at g (groups_of settings events) ≡ true
  last : (g s : ℕ) → start_of g events ≡ Some s → (group_of s events ≡ Some g) × (s < starts_of events)
  up : (g s : ℕ) → over s ≡ false → lives_at g (groups_of settings events) ≡ true → start_of g events ≡ Some s → is_up (life_of s events).stage ≡ true

mostly : (settings : Settings) (out over : ℕ → Bool) (events : List Event) → Lively settings events → Mostly settings out over events
mostly settings out over events h = record { unplaced = h.unplaced; busy = λ e g rest. h.busy e g; last = h.last; up = λ g s rest. h.up g s }

module _ (settings : Settings) (out over : ℕ → Bool) (events : List Event) (event : Event) where
  abbrev MostBusy : Type 0
  MostBusy = (e g : ℕ) → out e ≡ false → is_begun (desk_behind e (desk_of e events) event).phase ≡ true → home_next settings events (house_of settings events) event e ≡ Some g → is_busy_at g (groups_next settings events (house_of settings events) event) ≡ true

  abbrev MostUp : Type 0
  MostUp = (g s : ℕ) → over s ≡ false → lives_at g (groups_next settings events (house_of settings events) event) ≡ true → start_behind g (start_of g events) event ≡ Some s → is_up (life_behind s (life_of s events) event).stage ≡ true

  most_words : Unplaced settings events event → MostBusy → Last settings events event → MostUp → Mostly settings out over (events ++ event ∷ [])
  most_words unplaced busy last up = record {
    unplaced = λ e h. home_more settings e events event ∙ unplaced e (sym (ap (λ (d : Desk). is_unplaced d.phase) (desk_more e events event)) ∙ h);
    busy = λ e g rest h at. ap (is_busy_at g) (groups_more settings events event) ∙ busy e g rest (sym (ap (λ (d : Desk). is_begun d.phase) (desk_more e events event)) ∙ h) (sym (home_more settings e events event) ∙ at);
    last = λ g s at. let k = last g s (sym (start_more g events event) ∙ at) in (group_more s events event ∙ k.0, subst (λ n. s < n) (sym (starts_more events event)) k.1);
    up = λ g s rest h at. ap (λ (l : Life). is_up l.stage) (life_more s events event) ∙ up g s rest (sym (ap (lives_at g) (groups_more settings events event)) ∙ h) (sym (start_more g events event) ∙ at);
  }

-- Causes

module _ (settings : Settings) (before : List Event) (h : Lively settings before) where
  abbrev groups : List Kept
  groups = groups_of settings before

  joined : (n : ℕ) → fits_behind before (Joined n) ≡ true → Editors before → Lively settings (with_cause before (Joined n))
  joined n fits absent = by_words settings before (heard (Joined n)) (λ e. new e (nat_eq n e) refl) (λ e g. busy e g (nat_eq n e)) h.last h.up
    where
      new : (e : ℕ) (b : Bool) → nat_eq n e ≡ b → is_unplaced (if b then record { phase = New; initialize = [] } else desk_of e before).phase ≡ true → home_of settings e before ≡ None
      new e true same k = h.unplaced e (ap is_unplaced (absent e (let count : n ≡ editors_of before = number_same n (editors_of before) fits in let is : n ≡ e = number_same n e same in omega (arith, count, is))))
      new e false other k = h.unplaced e k

      busy : (e g : ℕ) (b : Bool) → is_begun (if b then record { phase = New; initialize = [] } else desk_of e before).phase ≡ true → home_of settings e before ≡ Some g → is_busy_at g groups ≡ true
      busy e g true k at = never (sym k)
      busy e g false k at = h.busy e g k at

  drained : (n k : ℕ) → Lively settings (with_cause before (Drained n k))
  drained n k = by_words settings before (heard (Drained n k)) h.unplaced h.busy h.last h.up

  -- groups that are idle for long enough end; those that aren't idle, and groups that lived no more, stay as they are
  ticked : (t : ℕ) → Lively settings (with_cause before (Tick t))
  ticked t = by_words settings before (heard (Tick t)) h.unplaced (λ e g begun at. busy_ended settings.limits.idle (max (time_of before) t) g groups (h.busy e g begun at)) h.last
      (λ g s live at. h.up g s (lives_ended (is_due settings.limits.idle (max (time_of before) t)) g groups live) at)

  began : (n : ℕ) → Lively settings (with_cause before (Started n))
  began n = by_words settings before (heard (Started n)) h.unplaced h.busy h.last
      (λ g s live at. by_start (nat_eq n s) (record { stage = stage_started (life_of s before).stage; started = true }) (life_of s before) (λ same. up_started (life_of s before).stage (h.up g s live at)) (λ other. h.up g s live at))

  -- E7: a message that places its editor
  module _ (n : ℕ) (body : List ℕ) where
    abbrev m : Message
    m = message_of body

    abbrev placed : Placed
    placed = placed_for settings before n body groups

    fair : IsFair groups placed
    fair = placed_fair settings.limits.groups (key_for settings before n body) (declared_for settings before n body) groups

    abbrev later : List Kept
    later = with_editor placed (key_for settings before n body) (declared_for settings before n body) groups

    placing : Begun settings before → places (desk_of n before).phase m ≡ true → Lively settings (with_cause before (FromEditor n body))
    placing begun here = by_words settings before (heard (FromEditor n body))
        (λ e. rw here (unplaced e (nat_eq n e) refl)) (λ e g. rw here (busy e g (nat_eq n e) refl)) h.last (λ g s live at. h.up g s (old g s at (lives_placed (key_for settings before n body) (declared_for settings before n body) groups placed fair g (sym (ap (λ b. lives_at g (if b then later else if stops before n m then end_where is_live groups else groups)) here) ∙ live))) at)
      where
        new : (desk_of n before).phase ≡ New
        new = new_is (desk_of n before).phase (and_parts (is_new (desk_of n before).phase) (requests (codes "initialize") m) here).0

        waits : (desk_hears (desk_of n before).phase (desk_of n before).initialize body m).phase ≡ Waiting
        waits = ap (λ p. (desk_hears p (desk_of n before).initialize body m).phase) new
            ∙ ap (λ b. (either_desk b (record { phase = Waiting; initialize = body }) (record { phase = New; initialize = (desk_of n before).initialize })).phase) (and_parts (is_new (desk_of n before).phase) (requests (codes "initialize") m) here).1

        waits_at : (e : ℕ) → nat_eq n e ≡ true → (desk_hears (desk_of e before).phase (desk_of e before).initialize body m).phase ≡ Waiting
        waits_at e same = subst (λ k. (desk_hears (desk_of k before).phase (desk_of k before).initialize body m).phase ≡ Waiting) (number_same n e same) waits

        none : (e : ℕ) → nat_eq n e ≡ true → home_of settings e before ≡ None
        none e same = subst (λ k. home_of settings k before ≡ None) (number_same n e same) (h.unplaced n (ap is_unplaced new))

        unplaced : (e : ℕ) (b : Bool) → nat_eq n e ≡ b → is_unplaced (if b then desk_hears (desk_of e before).phase (desk_of e before).initialize body m else desk_of e before).phase ≡ true
            → (if b && true then home_by placed (home_of settings e before) else home_of settings e before) ≡ None
        unplaced e true same k = never (sym k ∙ ap is_unplaced (waits_at e same))
        unplaced e false other k = h.unplaced e k

        busy : (e g : ℕ) (b : Bool) → nat_eq n e ≡ b → is_begun (if b then desk_hears (desk_of e before).phase (desk_of e before).initialize body m else desk_of e before).phase ≡ true
            → (if b && true then home_by placed (home_of settings e before) else home_of settings e before) ≡ Some g → is_busy_at g later ≡ true
        busy e g true same k at = busy_own (key_for settings before n body) (declared_for settings before n body) groups placed fair g (sym (ap (home_by placed) (none e same)) ∙ at)
        busy e g false other k at = busy_placed (key_for settings before n body) (declared_for settings before n body) groups placed fair g (h.busy e g k at)

        old : (g s : ℕ) → start_of g before ≡ Some s → (lives_at g groups ≡ true) ⊎ (g ≡ length groups) → lives_at g groups ≡ true
        old g s at (inl live) = live
        old g s at (inr next) = absurd (let none : start_of g before ≡ None = (begun g).1 (omega (arith, next)) in let clash : ◌≡◌ {A = Option ℕ} (Some s) None = sym at ∙ none in cc)

    -- another message
    heard_on : places (desk_of n before).phase m ≡ false → stops before n m ≡ false → Lively settings (with_cause before (FromEditor n body))
    heard_on off goes_on = by_words settings before (heard (FromEditor n body)) (λ e. rw off (unplaced e (nat_eq n e))) (λ e g. rw (off, goes_on) (busy e g (nat_eq n e) refl)) h.last (λ g s. rw (off, goes_on) (h.up g s))
      where
        unplaced : (e : ℕ) (b : Bool) → is_unplaced (if b then desk_hears (desk_of e before).phase (desk_of e before).initialize body m else desk_of e before).phase ≡ true → (if b && false then home_by placed (home_of settings e before) else home_of settings e before) ≡ None
        unplaced e true k = h.unplaced e (unplaced_heard (desk_of e before).phase (desk_of e before).initialize body m k)
        unplaced e false k = h.unplaced e k

        busy : (e g : ℕ) (b : Bool) → nat_eq n e ≡ b → is_begun (if b then desk_hears (desk_of e before).phase (desk_of e before).initialize body m else desk_of e before).phase ≡ true
            → (if b && false then home_by placed (home_of settings e before) else home_of settings e before) ≡ Some g → is_busy_at g groups ≡ true
        busy e g true same k at = h.busy e g (begun_heard (desk_of e before).phase (desk_of e before).initialize body m (subst (λ i. places (desk_of i before).phase m ≡ false) (number_same n e same) off) k) at
        busy e g false other k at = h.busy e g k at

    -- E6: all groups end, and each editor that is there is left out
    stopped_by : places (desk_of n before).phase m ≡ false → stops before n m ≡ true → Mostly settings (is_put_out settings before (FromEditor n body)) (is_exit (FromEditor n body)) (with_cause before (FromEditor n body))
    stopped_by off stop = most_words settings (is_put_out settings before (FromEditor n body)) (is_exit (FromEditor n body)) before (heard (FromEditor n body)) (λ e. rw off (unplaced e (nat_eq n e))) (λ e g rest begun at. never (sym (ap₂ (λ a b. a && b) stop (out e (nat_eq n e) begun)) ∙ rest)) h.last
        (λ g s rest live at. never (sym live ∙ (ap₂ (λ a b. lives_at g (if a then later else if b then end_where is_live groups else groups)) off stop ∙ over_all g groups)))
      where
        unplaced : (e : ℕ) (b : Bool) → is_unplaced (if b then desk_hears (desk_of e before).phase (desk_of e before).initialize body m else desk_of e before).phase ≡ true → (if b && false then home_by placed (home_of settings e before) else home_of settings e before) ≡ None
        unplaced e true k = h.unplaced e (unplaced_heard (desk_of e before).phase (desk_of e before).initialize body m k)
        unplaced e false k = h.unplaced e k

        out : (e : ℕ) (b : Bool) → is_begun (if b then desk_hears (desk_of e before).phase (desk_of e before).initialize body m else desk_of e before).phase ≡ true → is_there (desk_of e before).phase ≡ true
        out e true k = there_heard (desk_of e before).phase (desk_of e before).initialize body m (begun_there _ k)
        out e false k = begun_there _ k

  -- a message of a start that refuses nothing
  spoke : (n : ℕ) (body : List ℕ) → (is_first_error (message_of body) && is_initializing (life_of n before).stage) ≡ false → Lively settings (with_cause before (FromServer n body))
  spoke n body off = by_words settings before (heard (FromServer n body)) h.unplaced (λ e g. rw off (h.busy e g)) h.last
      (λ g s live at. let old : is_up (life_of s before).stage ≡ true = h.up g s (sym (ap (λ b. lives_at g (if b then at_group (group_of n before) (λ k. ended) groups else groups)) off) ∙ live) at in
      by_start (nat_eq n s) (record { stage = stage_hears (life_of s before).stage (message_of body); started = (life_of s before).started }) (life_of s before) (λ same. up_hears (life_of s before).stage (message_of body) old) (λ other. old))

  -- S3: a start refuses its `initialize`
  module _ (n : ℕ) (body : List ℕ) (refuses : is_refusing before n (message_of body) ≡ true) where
    abbrev put_out : ℕ → Bool
    put_out = is_put_out settings before (FromServer n body)

    in_time : (e g : ℕ) → put_out e ≡ false → is_begun (desk_of e before).phase ≡ true → home_of settings e before ≡ Some g → is_busy_at g (at_group (group_of n before) (λ k. ended) groups) ≡ true
    in_time e g rest begun at = go (group_of n before) refl
      where
        go : (o : Option ℕ) → group_of n before ≡ o → is_busy_at g (at_group o (λ k. ended) groups) ≡ true
        go None none = h.busy e g begun at
        go (Some i) home = busy_apart i g ended groups (λ same. never (sym (out same) ∙ rest)) (h.busy e g begun at)
          where
            out : g ≡ i → put_out e ≡ true
            out same = or_first (is_refused settings before n body e) (is_parted settings before n body e) (ap₂ (λ a b. a && b) refuses (ap₂ (λ a b. a && b) begun
                (ap (λ o. option_map_or (λ k. is_home k (home_of settings e before)) o false) home ∙ (ap (is_home i) (at ∙ ap (λ k. Some k) same) ∙ same_number i))))

    lived : (g : ℕ) (home : Option ℕ) → lives_at g (at_group home (λ k. ended) groups) ≡ true → lives_at g groups ≡ true
    lived g None live = live
    lived g (Some i) live = lives_changed ended (λ x k. absurd (cc)) i g groups live

    refused_by : Mostly settings put_out (is_exit (FromServer n body)) (with_cause before (FromServer n body))
    refused_by = most_words settings put_out (is_exit (FromServer n body)) before (heard (FromServer n body)) h.unplaced (λ e g rest begun at. ap (λ b. is_busy_at g (if b then at_group (group_of n before) (λ k. ended) groups else groups)) refuses ∙ in_time e g rest begun at) h.last
        (λ g s rest live at. let old : is_up (life_of s before).stage ≡ true = h.up g s (lived g (group_of n before) (sym (ap (λ b. lives_at g (if b then at_group (group_of n before) (λ k. ended) groups else groups)) refuses) ∙ live)) at in
        by_start (nat_eq n s) (record { stage = stage_hears (life_of s before).stage (message_of body); started = (life_of s before).started }) (life_of s before) (λ same. up_hears (life_of s before).stage (message_of body) old) (λ other. old))

  -- a message of a start
  said_by : (n : ℕ) (body : List ℕ) → Mostly settings (is_put_out settings before (FromServer n body)) (is_exit (FromServer n body)) (with_cause before (FromServer n body))
  said_by n body = go (is_refusing before n (message_of body)) refl
    where
      go : (b : Bool) → is_refusing before n (message_of body) ≡ b → Mostly settings (is_put_out settings before (FromServer n body)) (is_exit (FromServer n body)) (with_cause before (FromServer n body))
      go true refuses = refused_by n body refuses
      go false off = mostly settings (is_put_out settings before (FromServer n body)) (is_exit (FromServer n body)) (with_cause before (FromServer n body)) (spoke n body off)

  gone : (n : ℕ) (why : link.Why) → Editors (with_cause before (EditorGone n why)) → Lively settings (with_cause before (EditorGone n why))
  gone n why absent = by_words settings before (heard (EditorGone n why)) (λ e. unplaced e (nat_eq n e)) (λ e g. busy e g (nat_eq n e) refl) h.last
      (λ g s live at. h.up g s (lives_emptied (home_of settings n before) _ _ _ g groups live) at)
    where
      unplaced : (e : ℕ) (b : Bool) → is_unplaced (if b then record { phase = Gone; initialize = (desk_of e before).initialize } else desk_of e before).phase ≡ true → (if b then None else home_of settings e before) ≡ None
      unplaced e true k = refl
      unplaced e false k = h.unplaced e k

      busy : (e g : ℕ) (b : Bool) → nat_eq n e ≡ b → is_begun (if b then record { phase = Gone; initialize = (desk_of e before).initialize } else desk_of e before).phase ≡ true → (if b then None else home_of settings e before) ≡ Some g
          → is_busy_at g (groups_next settings before (house_of settings before) (heard (EditorGone n why))) ≡ true
      busy e g true same k at = never (sym k)
      busy e g false other k at = busy_emptied (home_of settings n before) _ _ _ g groups
          (still_has (house_of settings before).home (with_cause before (EditorGone n why)) e g absent (ap (λ (d : Desk). is_begun d.phase) (desk_more e before (heard (EditorGone n why)))
          ∙ (ap (λ b. is_begun (if b then record { phase = Gone; initialize = (desk_of e before).initialize } else desk_of e before).phase) other ∙ k)) at) (h.busy e g k at)

  -- a start ends: its group ends, or goes on, and has no start that is up until it is spawned
  module _ (n : ℕ) where
    ended_busy : not (begins_again settings before n) ≡ true → (e g : ℕ) → (ends_with settings before n e && is_begun (desk_of e before).phase) ≡ false → is_begun (desk_of e before).phase ≡ true → home_of settings e before ≡ Some g → is_busy_at g (groups_lose settings before n (house_of settings before)) ≡ true
    ended_busy ends e g rest begun at = ap (is_busy_at g) (lost_is settings before n ends) ∙ go (group_of n before) refl
      where
        go : (o : Option ℕ) → group_of n before ≡ o → is_busy_at g (at_group o (λ k. end_live) groups) ≡ true
        go None none = h.busy e g begun at
        go (Some i) home = busy_apart i g end_live groups (λ same. never (sym (out same) ∙ rest)) (h.busy e g begun at)
          where
            out : g ≡ i → (ends_with settings before n e && is_begun (desk_of e before).phase) ≡ true
            out same = ap₂ (λ a b. a && b) (ap₂ (λ a b. a && b) (ends_live settings before n ends i home (ap (λ k. lives_at k groups) (sym same) ∙ lives_busy g groups (h.busy e g begun at)))
                (ap (λ o. option_map_or (λ k. is_home k (home_of settings e before)) o false) home ∙ (ap (is_home i) (at ∙ ap (λ k. Some k) same) ∙ same_number i))) begun

    lost_busy : (e g : ℕ) → (ends_with settings before n e && is_begun (desk_of e before).phase) ≡ false → is_begun (desk_of e before).phase ≡ true → home_of settings e before ≡ Some g → is_busy_at g (groups_lose settings before n (house_of settings before)) ≡ true
    lost_busy e g rest begun at = go (begins_again settings before n) refl
      where
        go : (b : Bool) → begins_again settings before n ≡ b → is_busy_at g (groups_lose settings before n (house_of settings before)) ≡ true
        go true again = renewed_busy settings before n (renews_parts settings before n again) g (h.busy e g begun at)
        go false last = ended_busy (ap not last) e g rest begun at

    lost_up : (g s : ℕ) → nat_eq n s ≡ false → lives_at g (groups_lose settings before n (house_of settings before)) ≡ true → start_of g before ≡ Some s → is_up (if nat_eq n s then record { stage = Ended; started = (life_of s before).started } else life_of s before).stage ≡ true
    lost_up g s apart live at = ap (λ b. is_up (if b then record { stage = Ended; started = (life_of s before).started } else life_of s before).stage) apart ∙ h.up g s (lose_lived settings before n g live) at

    failed : Mostly settings (is_put_out settings before (StartFailed n)) (is_exit (StartFailed n)) (with_cause before (StartFailed n))
    failed = most_words settings (is_put_out settings before (StartFailed n)) (is_exit (StartFailed n)) before (heard (StartFailed n)) h.unplaced lost_busy h.last lost_up

    exited : Mostly settings (is_put_out settings before (ServerGone n)) (is_exit (ServerGone n)) (with_cause before (ServerGone n))
    exited = most_words settings (is_put_out settings before (ServerGone n)) (is_exit (ServerGone n)) before (heard (ServerGone n)) h.unplaced lost_busy h.last lost_up

took : (settings : Settings) (before : List Event) (cause : Cause) → fits_behind before cause ≡ true → Editors before → Editors (with_cause before cause) → Begun settings before → Lively settings before
    → Mostly settings (is_put_out settings before cause) (is_exit cause) (with_cause before cause)
took settings before (Joined n) fits absent after begun h = mostly settings _ _ _ (joined settings before h n fits absent)
took settings before (Drained n k) fits absent after begun h = mostly settings _ _ _ (drained settings before h n k)
took settings before (Started n) fits absent after begun h = mostly settings _ _ _ (began settings before h n)
took settings before (EditorGone n why) fits absent after begun h = mostly settings _ _ _ (gone settings before h n why after)
took settings before (FromServer n body) fits absent after begun h = said_by settings before h n body
took settings before (FromEditor n body) fits absent after begun h = go (places (desk_of n before).phase (message_of body)) (stops before n (message_of body)) refl refl
  where
    go : (b c : Bool) → places (desk_of n before).phase (message_of body) ≡ b → stops before n (message_of body) ≡ c → Mostly settings (is_put_out settings before (FromEditor n body)) (is_exit (FromEditor n body)) (with_cause before (FromEditor n body))
    go true c here stop = mostly settings _ _ _ (placing settings before h n body begun here)
    go false true off stop = stopped_by settings before h n body off stop
    go false false off on = mostly settings _ _ _ (heard_on settings before h n body off on)
took settings before (StartFailed n) fits absent after begun h = failed settings before h n
took settings before (ServerGone n) fits absent after begun h = exited settings before h n
took settings before (Tick t) fits absent after begun h = mostly settings _ _ _ (ticked settings before h t)

-- Outs

module _ (settings : Settings) (out over : ℕ → Bool) (events : List Event) (h : Mostly settings out over events) where
  told : (n : ℕ) (body : List ℕ) → Mostly settings out over (events ++ said (ToEditor n body) ∷ [])
  told n body = most_words settings out over events (said (ToEditor n body)) (λ e. unplaced e (nat_eq n e)) (λ e g rest. busy e g rest (nat_eq n e)) h.last h.up
    where
      unplaced : (e : ℕ) (b : Bool) → is_unplaced (if b then record { phase = phase_told (desk_of e events).phase (desk_of e events).initialize (message_of body); initialize = (desk_of e events).initialize } else desk_of e events).phase ≡ true → home_of settings e events ≡ None
      unplaced e true k = h.unplaced e (unplaced_told (desk_of e events).phase (desk_of e events).initialize (message_of body) k)
      unplaced e false k = h.unplaced e k

      busy : (e g : ℕ) → out e ≡ false → (b : Bool) → is_begun (if b then record { phase = phase_told (desk_of e events).phase (desk_of e events).initialize (message_of body); initialize = (desk_of e events).initialize } else desk_of e events).phase ≡ true → home_of settings e events ≡ Some g
          → is_busy_at g (groups_of settings events) ≡ true
      busy e g rest true k at = h.busy e g rest (begun_told (desk_of e events).phase (desk_of e events).initialize (message_of body) k) at
      busy e g rest false k at = h.busy e g rest k at

  closes : (n : ℕ) → Editors (events ++ said (CloseEditor n) ∷ []) → Mostly settings out over (events ++ said (CloseEditor n) ∷ [])
  closes n absent = most_words settings out over events (said (CloseEditor n)) (λ e. unplaced e (nat_eq n e)) (λ e g rest. busy e g rest (nat_eq n e) refl) h.last
      (λ g s rest live at. h.up g s rest (lives_emptied (home_of settings n events) _ _ _ g (groups_of settings events) live) at)
    where
      unplaced : (e : ℕ) (b : Bool) → is_unplaced (if b then record { phase = phase_closed (desk_of e events).phase; initialize = (desk_of e events).initialize } else desk_of e events).phase ≡ true → home_of settings e events ≡ None
      unplaced e true k = never (sym k ∙ unplaced_closed (desk_of e events).phase)
      unplaced e false k = h.unplaced e k

      busy : (e g : ℕ) → out e ≡ false → (b : Bool) → nat_eq n e ≡ b → is_begun (if b then record { phase = phase_closed (desk_of e events).phase; initialize = (desk_of e events).initialize } else desk_of e events).phase ≡ true → home_of settings e events ≡ Some g
          → is_busy_at g (groups_next settings events (house_of settings events) (said (CloseEditor n))) ≡ true
      busy e g rest true same k at = never (sym k ∙ begun_closed (desk_of e events).phase)
      busy e g rest false other k at = busy_emptied (home_of settings n events) _ _ _ g (groups_of settings events)
          (still_has (house_of settings events).home (events ++ said (CloseEditor n) ∷ []) e g absent (ap (λ (d : Desk). is_begun d.phase) (desk_more e events (said (CloseEditor n)))
          ∙ (ap (λ b. is_begun (if b then record { phase = phase_closed (desk_of e events).phase; initialize = (desk_of e events).initialize } else desk_of e events).phase) other ∙ k)) at) (h.busy e g rest k at)

  spawned : (g : ℕ) → Mostly settings out over (events ++ said (Spawn (starts_of events) g) ∷ [])
  spawned g = most_words settings out over events (said (Spawn (starts_of events) g)) h.unplaced h.busy (λ i s. last i s (nat_eq g i) refl) (λ i s rest live. up i s rest live (nat_eq g i) refl)
    where
      n : ℕ
      n = starts_of events

      last : (i s : ℕ) (b : Bool) → nat_eq g i ≡ b → (if b then Some (starts_of events) else start_of i events) ≡ Some s → ((if nat_eq (starts_of events) s then Some g else group_of s events) ≡ Some i) × (s < starts_of events + 1)
      last i s true same at = let is : starts_of events ≡ s = cc in (ap (λ b. if b then Some g else group_of s events) (subst (λ k. nat_eq (starts_of events) k ≡ true) is (same_number (starts_of events))) ∙ ap (λ k. Some k) (number_same g i same), omega (arith, is))
      last i s false other at =
          let k = h.last i s at in
          let below : s < starts_of events = k.1 in
          (ap (λ b. if b then Some g else group_of s events) (apart (nat_eq (starts_of events) s) refl below) ∙ k.0, omega (arith, below))
        where
          apart : (b : Bool) → nat_eq (starts_of events) s ≡ b → s < starts_of events → b ≡ false
          apart true same below = absurd (let is : starts_of events ≡ s = number_same (starts_of events) s same in omega (arith, is, below))
          apart false same below = refl

      up : (i s : ℕ) → over s ≡ false → lives_at i (groups_of settings events) ≡ true → (b : Bool) → nat_eq g i ≡ b → (if b then Some (starts_of events) else start_of i events) ≡ Some s
          → is_up (if nat_eq (starts_of events) s then record { stage = Spawning; started = false } else life_of s events).stage ≡ true
      up i s rest live true same at = let is : starts_of events ≡ s = cc in ap (λ b. is_up (if b then record { stage = Spawning; started = false } else life_of s events).stage) (subst (λ k. nat_eq (starts_of events) k ≡ true) is (same_number (starts_of events)))
      up i s rest live false other at = by_start (nat_eq (starts_of events) s) (record { stage = Spawning; started = false }) (life_of s events) (λ same. refl) (λ apart. h.up i s rest live at)

  -- a start that ends is the last one of no group that lives
  dies : (n g : ℕ) → IsDying settings events n → lives_at g (groups_of settings events) ≡ true → start_of g events ≡ Some n → ⊥
  dies n g k live at = never (sym live ∙ (ap (λ i. lives_at i (groups_of settings events)) same ∙ k.over))
    where
      the : {v w : ℕ} → ◌≡◌ {A = Option ℕ} (Some v) (Some w) → v ≡ w
      the e = cc

      same : g ≡ k.group
      same = the (sym (h.last g n at).0 ∙ (h.last k.group n k.last).0)

  ends : (n : ℕ) → WhyEnd settings events n → Mostly settings out over (events ++ said (EndServer n) ∷ [])
  ends n why = most_words settings out over events (said (EndServer n)) h.unplaced h.busy h.last
      (λ g s rest live at. by_start (nat_eq n s) (record { stage = stage_ending (life_of s events).stage; started = (life_of s events).started }) (life_of s events) (λ same. absurd (ends_none why g s rest live at (number_same n s same))) (λ other. h.up g s rest live at))
    where
      ends_none : WhyEnd settings events n → (g s : ℕ) → over s ≡ false → lives_at g (groups_of settings events) ≡ true → start_of g events ≡ Some s → n ≡ s → ⊥
      ends_none (starting early dying) g s rest live at same = dies n g dying live (at ∙ ap (λ k. Some k) (sym same))
      ends_none (refused early left) g s rest live at same = never (sym live ∙ left_over settings events n left g (ap (λ k. group_of k events) same ∙ (h.last g s at).0))
      ends_none (stopped stopping) g s rest live at same = never (sym (h.up g s rest live at) ∙ (ap (λ k. is_up (life_of k events).stage) (sym same) ∙ ap is_up stopping))

  sends : (n : ℕ) (body : List ℕ) → ((g s : ℕ) → n ≡ s → lives_at g (groups_of settings events) ≡ true → start_of g events ≡ Some s → requests (codes "shutdown") (message_of body) ≡ false) → Mostly settings out over (events ++ said (ToServer n body) ∷ [])
  sends n body other = most_words settings out over events (said (ToServer n body)) h.unplaced h.busy h.last
      (λ g s rest live at. by_start (nat_eq n s) (record { stage = stage_told (life_of s events).stage (message_of body); started = (life_of s events).started }) (life_of s events)
      (λ same. up_told (life_of s events).stage (message_of body) (other g s (number_same n s same) live at) (h.up g s rest live at)) (λ apart. h.up g s rest live at))

  sent : (before : List Event) (cause : Cause) (n : ℕ) (body : List ℕ) → WhyToServer settings before cause events n body → Mostly settings out over (events ++ said (ToServer n body) ∷ [])
  sent before cause n body (begins k) = sends n body (λ g s same live at. ap (requests (codes "shutdown")) k.says)
  sent before cause n body (greets k) = sends n body (λ g s same live at. ap (requests (codes "shutdown")) k.says)
  sent before cause n body (conveys k) = sends n body (λ g s same live at. ap (requests (codes "shutdown")) k.says)
  sent before cause n body (forwarded k) = sends n body (λ g s same live at. ap (requests (codes "shutdown")) k.says ∙ no_shutdown k.method k.other)
  sent before cause n body (notes k) = sends n body (λ g s same live at. ap (requests (codes "shutdown")) k.says)
  sent before cause n body (tells k) = sends n body (λ g s same live at. let x : Spoken (message_of body) = spoken (message_of body) k.spoken in ap (requests (codes "shutdown")) x.is)
  sent before cause n body (cancels k) = sends n body (λ g s same live at. ap (requests (codes "shutdown")) k.says)
  sent before cause n body (cancels_work k) = sends n body (λ g s same live at. ap (requests (codes "shutdown")) k.says)
  sent before cause n body (responds k) = sends n body (λ g s same live at. response_asks (codes "shutdown") (message_of body) k.response)
  sent before cause n body (resolves k) = sends n body (λ g s same live at. response_asks (codes "shutdown") (message_of body) k.response)
  sent before cause n body (exits k) = sends n body (λ g s same live at. ap (requests (codes "shutdown")) k.says)
  sent before cause n body (shuts k) = sends n body (λ g s same live at. absurd (dies n g k.dying live (at ∙ ap (λ i. Some i) (sym same))))

  did : (before : List Event) (cause : Cause) (x : Out) → Why settings before cause events x → Editors (events ++ said x ∷ []) → Mostly settings out over (events ++ said x ∷ [])
  did before cause (ToEditor n body) why absent = told n body
  did before cause (ToServer n body) why absent = sent before cause n body why
  did before cause (CloseEditor n) why absent = closes n absent
  did before cause (EndServer n) why absent = ends n why
  did before cause (Spawn s g) why absent = subst (λ k. Mostly settings out over (events ++ said (Spawn k g) ∷ [])) (sym why.0) (spawned g)

-- A whole entry

module _ (settings : Settings) (range : InRange settings) (before : List Event) (facts : Facts settings before) (begun : Begun settings before) (h : Lively settings before) (lasts : AllLast before) where
  -- what is known at a place of it
  record At (cause : Cause) (events : List Event) : Type 0 where
    here : Here settings before cause events
    lively : Mostly settings (is_put_out settings before cause) (is_exit cause) events

  pub lively_rests : (cause : Cause) → fits_behind before cause ≡ true → Lively settings (behind (with_cause before cause) (outs_of settings before cause))
  lively_rests cause fits =
      let first : Here settings before cause (with_cause before cause) = here_took settings range before cause fits facts in
      let last : At cause (behind (with_cause before cause) (outs_of settings before cause)) = reasons_keep (λ events out. Why settings before cause events out) (At cause)
      (λ events out why i. let next : Here settings before cause (events ++ said out ∷ []) = here_did settings range before cause facts events out why i.here in
      record { here = next; lively = did settings (is_put_out settings before cause) (is_exit cause) events i.lively before cause out why ((next.mid).steady).editors })
      (with_cause before cause) (outs_of settings before cause) (reasons settings range before facts cause).why
      (record { here = first; lively = took settings before cause fits (facts.steady).editors ((first.mid).steady).editors begun h }) in
      all_lively cause fits last.lively
    where
      -- those that were left out are in no group any more
      all_lively : (cause : Cause) → fits_behind before cause ≡ true → Mostly settings (is_put_out settings before cause) (is_exit cause) (behind (with_cause before cause) (outs_of settings before cause)) → Lively settings (behind (with_cause before cause) (outs_of settings before cause))
      all_lively cause fits k = record { unplaced = k.unplaced; busy = λ e g. busy e g (is_put_out settings before cause e) refl; last = k.last; up = λ g s. up g s (is_exit cause s) refl }
        where
          up : (g s : ℕ) (b : Bool) → is_exit cause s ≡ b → lives_at g (groups_of settings (behind (with_cause before cause) (outs_of settings before cause))) ≡ true → start_of g (behind (with_cause before cause) (outs_of settings before cause)) ≡ Some s
              → is_up (life_of s (behind (with_cause before cause) (outs_of settings before cause))).stage ≡ true
          up g s false goes_on live at = k.up g s goes_on live at
          up g s true is live at = absurd (over_last settings before cause begun fits lasts h.last g s is at (sym (lives_outs settings g (with_cause before cause) (outs_of settings before cause)) ∙ live))

          busy : (e g : ℕ) (b : Bool) → is_put_out settings before cause e ≡ b → is_begun (desk_of e (behind (with_cause before cause) (outs_of settings before cause))).phase ≡ true
              → home_of settings e (behind (with_cause before cause) (outs_of settings before cause)) ≡ Some g → is_busy_at g (groups_of settings (behind (with_cause before cause) (outs_of settings before cause))) ≡ true
          busy e g false rest begun at = k.busy e g rest begun at
          busy e g true out begun at = never (sym begun ∙ put_out_ends settings before cause (facts.steady).editors e out)

-- An editor that is slow leaves

module _ (settings : Settings) (range : InRange settings) (place : List Event) (facts : Facts settings place) (e : ℕ) (slow : is_slow settings e place ≡ true) where
  abbrev none_out : ℕ → Bool
  none_out n = false

  record AtSlow (events : List Event) : Type 0 where
    here : Here settings place (quitting e) events
    lively : Mostly settings none_out none_out events

  slow_did : (events : List Event) (out : Out) → Why settings place (quitting e) events out → AtSlow events → AtSlow (events ++ said out ∷ [])
  slow_did events out why i = let next : Here settings place (quitting e) (events ++ said out ∷ []) = here_did settings range place (quitting e) facts events out why i.here in
      record { here = next; lively = did settings none_out none_out events i.lively place (quitting e) out why ((next.mid).steady).editors }

  pub lively_slow : Lively settings place → Lively settings (behind place (parting settings place e))
  lively_slow h = let last : AtSlow (behind place (parting settings place e)) = reasons_keep (Why settings place (quitting e)) AtSlow slow_did place (parting settings place e) (parting_why settings range place facts e slow)
      (record { here = here_slow settings range place e facts; lively = mostly settings none_out none_out place h }) in
      record { unplaced = (last.lively).unplaced; busy = λ n g. (last.lively).busy n g refl; last = (last.lively).last; up = λ g s. (last.lively).up g s refl }

pub no_lively : (settings : Settings) → Lively settings []
no_lively settings = record { unplaced = λ e h. refl; busy = λ e g h at. absurd (cc); last = λ g s at. absurd (cc); up = λ g s live at. absurd (cc) }
