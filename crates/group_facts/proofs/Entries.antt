-- What is open at every editor, behind each sort of entry.
use Rattle.std.proofs.Common.{◌≡◌, ℕ, ◌+◌, ◌<◌, ◌≤◌, ◌^◌, Bool, true, false, ◌&&◌, List, [], ◌∷◌, ◌++◌, find, nat_eq, if◌then◌else◌, Option, Some, None, ◌⊎◌, inl, inr, refl, sym, ◌∙◌, ap, ap₂, subst, subst₂, arith, append-nil, not, ◌||◌, codes}
use Rattle.std.specs.List.{list_any}
use Rattle.std.specs.Option.{option_map_or}
use Rattle.mux_history.specs.declared.cause.Cause.{Cause}
use Rattle.mux_history.specs.declared.cause.Cause.TheVariants.{Joined, FromEditor, EditorGone, Started, StartFailed, FromServer, ServerGone, Drained, Tick}
use Rattle.mux_history.specs.declared.cause.Why as link
use Rattle.mux_history.specs.declared.out.Out.{Out}
use Rattle.mux_history.specs.declared.out.Out.TheVariants.{ToEditor}
use Rattle.rpc_message.specs.Message.{Message, result, error, Id, message_of}
use Rattle.event_model.specs.declared.phase.Phase.{Phase}
use Rattle.event_model.specs.declared.phase.Phase.TheVariants.{Absent, New, Waiting, Answered, Running, Down, Closed, Gone}
use Rattle.event_model.specs.declared.stage.Stage.{Stage}
use Rattle.event_model.specs.declared.stage.Stage.TheVariants.{Unspawned, Spawning, Initializing, Ready, Stopping, Ending, Ended}
use Rattle.event_model.specs.Event.{Event, behind, heard, said, with_cause, requests}
use Rattle.event_model.specs.Phases.{Desk, desk_hears, desk_of, editors_of, is_begun, is_there, is_waiting}
use Rattle.event_model.specs.Requests.{answered_id, with_request, is_open, open_of, without, next_number}
use Rattle.event_model.specs.Row.{choose, each, nothing, on, outs, send, ◌⨾◌}
use Rattle.event_model.specs.Settings.{Settings}
use Rattle.event_model.specs.Spawns.{group_of}
use Rattle.event_model.specs.Stages.{is_ready, life_of}
use Rattle.event_model.proofs.Frames.{never}
use Rattle.group_rows.specs.response_route.specs.Answers.{answer_text}
use Rattle.mux_model.specs.Fits.{fits_behind}
use Rattle.mux_facts.specs.Allowed.{is_response}
use Rattle.mux_facts.specs.Ranges.{InRange}
use Rattle.mux_facts.proofs.Folds.{desk_more, opens_more}
use Rattle.mux_facts.proofs.Keeps.{behind_both}
use Rattle.mux_facts.proofs.Words.{number_same, same_number}
use Rattle.group_words.specs.Rows.{spawn}
use Rattle.group_words.specs.Houses.{groups_of, home_of, is_home, placed_for, places, is_doubled, stops}
use Rattle.group_rows.specs.Forwarded.{Forwarded, answered_by, forwarding_of}
use Rattle.group_rows.specs.Answers.{answer_row, hand_on, own_version}
use Rattle.group_rows.specs.Asks.{members_in, running_in}
use Rattle.group_rows.specs.ExitRows.{begins_again, lose_sent, lose_start, lost_row, starts_again, turn_out}
use Rattle.group_rows.specs.Rows.{from_server, outs_of, ready_row}
use Rattle.group_rows.proofs.Versions.{own_flat}
use Rattle.group_facts.specs.Facts.{AllForwarded, ends_with, is_in, is_too_many, is_unbegun, is_up, turned_away, is_crowded}
use Rattle.group_facts.specs.Lively.{Lively, is_unplaced}
use Rattle.group_facts.specs.Settled.{is_answered}
use Rattle.group_facts.proofs.AnswerRows.{answers_only, response_is}
use Rattle.group_facts.proofs.Answered.{answer_says}
use Rattle.group_facts.proofs.Begun.{Begun, start_took}
use Rattle.group_facts.proofs.Facts.{Facts, TiedAt}
use Rattle.group_facts.proofs.ExitEntry.{Exit, exit_ends, exit_placed, failed_exit, gone_exit}
use Rattle.group_facts.proofs.Exits.{RenewsGroup, ends_live, renews_parts}
use Rattle.group_facts.proofs.LastStarts.{AllLast}
use Rattle.group_facts.proofs.Lively.{begun_answered, lives_of, up_of}
use Rattle.group_facts.proofs.OwnEntry.{Nobody, message_rests, placed_open, turned_rests}
use Rattle.group_facts.proofs.Sent.{Found, IsOf, OneOf, Passed, Rising, SentAt, found_one, none_sent, rising_of, sent_answered}
use Rattle.group_facts.proofs.Taken.{TakenAt, taken_drained, taken_gone, taken_heard, taken_joined, taken_started, taken_ticked, waits_took}
use Rattle.group_words.proofs.Frames.{home_stays}
use Rattle.group_facts.proofs.Lost.{NotOpen, closed_outs, sent_closed}
use Rattle.group_facts.proofs.PutOut.{named_in, turned_ends, turned_placed}
use Rattle.group_facts.proofs.Quits.{not_stopped}
use Rattle.group_facts.proofs.OpenByPhase.{OpenDesk, OpenIf, answered_closed, if_other}
use Rattle.group_facts.proofs.OpenByOut.{OpenAt, S, open_at, open_entry}
use Rattle.std.proofs.lemmas.Bool.{and_parts}
use Rattle.group_facts.proofs.StopEntry.{begun_there, is_absent, none_absent, none_there}
use Rattle.mux_facts.proofs.Table.{there_taken, waiting_is}

abbrev pub OpenAll : Settings → List Event → Type 0
OpenAll settings events = (e : ℕ) → OpenAt settings e Nobody events

module _ (settings : Settings) (range : InRange settings) (before : List Event) (facts : Facts settings before) (begun : Begun settings before) (lively : Lively settings before) (lasts : AllLast before) (h : OpenAll settings before) where
  abbrev later : Cause → List Event
  later cause = behind (with_cause before cause) (outs_of settings before cause)

  -- Entries of editors

  -- the message of another editor
  other_heard : (n : ℕ) (body : List ℕ) (e : ℕ) → nat_eq n e ≡ false → OpenAt settings e Nobody (with_cause before (FromEditor n body))
  other_heard n body e other = open_at settings e Nobody before (heard (FromEditor n body)) (go (nat_eq n e) other)
    where
      sent : (id : Id) → TakenAt settings before e id ⊎ ⊥ → TakenAt settings (with_cause before (FromEditor n body)) e id ⊎ ⊥
      sent id (inl k) = inl (taken_heard settings e id before n body (ap (λ b. b && places (desk_of n before).phase (message_of body)) other) k)
      sent id (inr k) = inr k

      go : (b : Bool) → b ≡ false → OpenDesk (S settings e Nobody (with_cause before (FromEditor n body))) (if b then desk_hears (desk_of e before).phase (desk_of e before).initialize body (message_of body) else desk_of e before) (if b then with_request (message_of body) (open_of e before) else open_of e before)
      go true other = never other
      go false other = if_other (S settings e Nobody before) (S settings e Nobody (with_cause before (FromEditor n body))) (desk_of e before).phase (desk_of e before).initialize (open_of e before) (λ served id is. sent id) (h e)

  other_stays : (n : ℕ) (body : List ℕ) (e : ℕ) → stops before n (message_of body) ≡ false → nat_eq n e ≡ false → turned_away settings before (FromEditor n body) e ≡ false
  other_stays n body e on other = ap₂ (λ a b. a || b) (ap (λ b. b && (places (desk_of n before).phase (message_of body) && is_too_many (placed_for settings before n body (groups_of settings before)))) other) (ap (λ b. b && is_waiting (desk_of e before).phase) on)

  own_entry : (n : ℕ) (body : List ℕ) → stops before n (message_of body) ≡ false → fits_behind before (FromEditor n body) ≡ true → OpenAt settings n Nobody (later (FromEditor n body))
  own_entry n body on fits = go (places (desk_of n before).phase (message_of body)) refl (is_crowded settings before n body n) refl
    where
      go : (b : Bool) → places (desk_of n before).phase (message_of body) ≡ b → (c : Bool) → is_crowded settings before n body n ≡ c → OpenAt settings n Nobody (later (FromEditor n body))
      go b place true turned = turned_rests settings before n body turned
      go true place false few = open_entry settings n Nobody before (FromEditor n body) (ap₂ (λ a b. a || b) few (ap (λ b. b && is_waiting (desk_of n before).phase) on)) range facts begun fits lasts (placed_open settings before n body (h n) place)
      go false place false few = message_rests settings before n body (h n) range facts fits on place

  -- E6: behind it an editor that was there is closed, and of one that wasn't nothing is changed
  closed_at : (T : Id → Type 0) (phase : Phase) (initialize : List ℕ) (ids : List Id) → is_there phase ≡ false → is_absent phase ≡ false → OpenIf T phase initialize ids
  closed_at T Closed initialize ids gone present = tt
  closed_at T Gone initialize ids gone present = tt
  closed_at T Absent initialize ids gone present = never present
  closed_at T New initialize ids gone present = never gone
  closed_at T Waiting initialize ids gone present = never gone
  closed_at T Answered initialize ids gone present = never gone
  closed_at T Running initialize ids gone present = never gone
  closed_at T Down initialize ids gone present = never gone

  unthere_late : (phase : Phase) → is_there phase ≡ false → is_waiting phase ≡ false
  unthere_late Waiting h = never h
  unthere_late other h = refl

  there_heard_now : (n : ℕ) (body : List ℕ) (e : ℕ) → is_there (desk_of n before).phase ≡ true → is_there (desk_of e before).phase ≡ true → is_there (desk_of e (with_cause before (FromEditor n body))).phase ≡ true
  there_heard_now n body e own there = go (nat_eq n e) refl
    where
      go : (b : Bool) → nat_eq n e ≡ b → is_there (desk_of e (with_cause before (FromEditor n body))).phase ≡ true
      go true same = subst (λ k. is_there (desk_of k (with_cause before (FromEditor n body))).phase ≡ true) (number_same n e same) (there_taken settings before n body own)
      go false other = ap (λ (d : Desk). is_there d.phase) (desk_more e before (heard (FromEditor n body)) ∙ ap (λ b. if b then desk_hears (desk_of e before).phase (desk_of e before).initialize body (message_of body) else desk_of e before) other) ∙ there

  stop_entry : (n : ℕ) (body : List ℕ) → fits_behind before (FromEditor n body) ≡ true → stops before n (message_of body) ≡ true → OpenAll settings (later (FromEditor n body))
  stop_entry n body fits stop e = go (is_there (desk_of e before).phase) refl
    where
      own : is_there (desk_of n before).phase ≡ true
      own = (and_parts (is_there (desk_of n before).phase) (not (is_begun (desk_of n before).phase && is_doubled before n (message_of body))) (and_parts (requests (codes "lspmux/stop") (message_of body)) _ stop).1).0

      other : is_there (desk_of e before).phase ≡ false → (b : Bool) → nat_eq n e ≡ b → b ≡ false
      other gone true same = never (sym own ∙ (ap (λ k. is_there (desk_of k before).phase) (number_same n e same) ∙ gone))
      other gone false away = refl

      go : (b : Bool) → is_there (desk_of e before).phase ≡ b → OpenAt settings e Nobody (later (FromEditor n body))
      go true there = closed_at (S settings e Nobody (later (FromEditor n body))) (desk_of e (later (FromEditor n body))).phase (desk_of e (later (FromEditor n body))).initialize (open_of e (later (FromEditor n body)))
          (none_there settings before n body stop (facts.steady).editors e) (none_absent settings before n body stop (facts.steady).editors e (there_heard_now n body e own there))
      go false gone = let away : nat_eq n e ≡ false = other gone (nat_eq n e) refl in open_entry settings e Nobody before (FromEditor n body)
          (ap₂ (λ a b. a || b) (ap (λ b. b && (places (desk_of n before).phase (message_of body) && is_too_many (placed_for settings before n body (groups_of settings before)))) away)
          (ap₂ (λ a b. a && b) stop (unthere_late (desk_of e before).phase gone))) range facts begun fits lasts (other_heard n body e away)

  ordinary : (n : ℕ) (body : List ℕ) → stops before n (message_of body) ≡ false → fits_behind before (FromEditor n body) ≡ true → OpenAll settings (later (FromEditor n body))
  ordinary n body on fits e = go (nat_eq n e) refl
    where
      go : (b : Bool) → nat_eq n e ≡ b → OpenAt settings e Nobody (later (FromEditor n body))
      go true same = subst (λ k. OpenAt settings k Nobody (later (FromEditor n body))) (number_same n e same) (own_entry n body on fits)
      go false other = open_entry settings e Nobody before (FromEditor n body) (other_stays n body e on other) range facts begun fits lasts (other_heard n body e other)

  editor_entry : (n : ℕ) (body : List ℕ) → fits_behind before (FromEditor n body) ≡ true → OpenAll settings (later (FromEditor n body))
  editor_entry n body fits e = choose_by (stops before n (message_of body)) refl
    where
      choose_by : (c : Bool) → stops before n (message_of body) ≡ c → OpenAt settings e Nobody (later (FromEditor n body))
      choose_by true stop = stop_entry n body fits stop e
      choose_by false on = ordinary n body on fits e

  -- an editor that joins
  joined_now : (n e : ℕ) → fits_behind before (Joined n) ≡ true → OpenAt settings e Nobody (with_cause before (Joined n))
  joined_now n e fits = open_at settings e Nobody before (heard (Joined n)) (go (nat_eq n e) refl)
    where
      sent : (id : Id) → TakenAt settings before e id ⊎ ⊥ → TakenAt settings (with_cause before (Joined n)) e id ⊎ ⊥
      sent id (inl k) = inl (taken_joined settings e id before n k)
      sent id (inr k) = inr k

      absent : nat_eq n e ≡ true → (desk_of e before).phase ≡ Absent
      absent same = (facts.steady).editors e (let joined : n ≡ editors_of before = number_same n (editors_of before) fits in let is : n ≡ e = number_same n e same in omega (arith, joined, is))

      go : (b : Bool) → nat_eq n e ≡ b → OpenDesk (S settings e Nobody (with_cause before (Joined n))) (if b then record { phase = New; initialize = [] } else desk_of e before) (open_of e before)
      go true same = subst (λ p. OpenIf (S settings e Nobody before) p (desk_of e before).initialize (open_of e before)) (absent same) (h e)
      go false other = if_other (S settings e Nobody before) (S settings e Nobody (with_cause before (Joined n))) (desk_of e before).phase (desk_of e before).initialize (open_of e before) (λ served id is. sent id) (h e)

  -- an editor to which bytes were written
  drained_now : (n k e : ℕ) → OpenAt settings e Nobody (with_cause before (Drained n k))
  drained_now n k e = open_at settings e Nobody before (heard (Drained n k)) (if_other (S settings e Nobody before) (S settings e Nobody (with_cause before (Drained n k))) (desk_of e before).phase (desk_of e before).initialize (open_of e before) (λ served id is. sent id) (h e))
    where
      sent : (id : Id) → TakenAt settings before e id ⊎ ⊥ → TakenAt settings (with_cause before (Drained n k)) e id ⊎ ⊥
      sent id (inl at) = inl (taken_drained settings e id before n k at)
      sent id (inr at) = inr at

  -- the time
  ticked_now : (t e : ℕ) → OpenAt settings e Nobody (with_cause before (Tick t))
  ticked_now t e = open_at settings e Nobody before (heard (Tick t)) (if_other (S settings e Nobody before) (S settings e Nobody (with_cause before (Tick t))) (desk_of e before).phase (desk_of e before).initialize (open_of e before) (λ served id is. sent id) (h e))
    where
      sent : (id : Id) → TakenAt settings before e id ⊎ ⊥ → TakenAt settings (with_cause before (Tick t)) e id ⊎ ⊥
      sent id (inl at) = inl (taken_ticked settings e id before t at)
      sent id (inr at) = inr at

  -- an editor whose link is gone
  gone_now : (n : ℕ) (why : link.Why) (e : ℕ) → OpenAt settings e Nobody (with_cause before (EditorGone n why))
  gone_now n why e = open_at settings e Nobody before (heard (EditorGone n why)) (go (nat_eq n e) refl)
    where
      sent : nat_eq n e ≡ false → (id : Id) → TakenAt settings before e id ⊎ ⊥ → TakenAt settings (with_cause before (EditorGone n why)) e id ⊎ ⊥
      sent other id (inl k) = inl (taken_gone settings e id before n why other k)
      sent other id (inr k) = inr k

      go : (b : Bool) → nat_eq n e ≡ b → OpenDesk (S settings e Nobody (with_cause before (EditorGone n why))) (if b then record { phase = Gone; initialize = (desk_of e before).initialize } else desk_of e before) (open_of e before)
      go true same = tt
      go false other = if_other (S settings e Nobody before) (S settings e Nobody (with_cause before (EditorGone n why))) (desk_of e before).phase (desk_of e before).initialize (open_of e before) (λ answered id is. sent other id) (h e)

  -- a program that begins
  started_now : (s e : ℕ) → OpenAt settings e Nobody (with_cause before (Started s))
  started_now s e = open_at settings e Nobody before (heard (Started s)) (if_other (S settings e Nobody before) (S settings e Nobody (with_cause before (Started s))) (desk_of e before).phase (desk_of e before).initialize (open_of e before) (λ served id is. sent id) (h e))
    where
      sent : (id : Id) → TakenAt settings before e id ⊎ ⊥ → TakenAt settings (with_cause before (Started s)) e id ⊎ ⊥
      sent id (inl k) = inl (taken_started settings e id before s k)
      sent id (inr k) = inr k

  -- X1 to X3: a program ends, or can't be run

  -- an editor that is in its group no more, and whose `initialize` came
  over_by : (T : Id → Type 0) (phase : Phase) (initialize : List ℕ) (ids : List Id) → is_begun phase ≡ false → (is_unplaced phase ≡ true → ⊥) → OpenIf T phase initialize ids
  over_by T Absent initialize ids unbegun placed = absurd (placed refl)
  over_by T New initialize ids unbegun placed = absurd (placed refl)
  over_by T Waiting initialize ids unbegun placed = never unbegun
  over_by T Answered initialize ids unbegun placed = never unbegun
  over_by T Running initialize ids unbegun placed = never unbegun
  over_by T Down initialize ids unbegun placed = never unbegun
  over_by T Closed initialize ids unbegun placed = tt
  over_by T Gone initialize ids unbegun placed = tt

  module _ (s : ℕ) (cause : Cause) (fits : fits_behind before cause ≡ true) (exit : Exit settings before cause s) (e : ℕ) where
    abbrev exit_now : List Event
    exit_now = with_cause before cause

    -- it was sent to the start that ends
    record IsLost (id : Id) : Type 0 where
      served : is_answered (desk_of e before).phase ≡ true
      sent : SentAt settings before e id
      here : nat_eq s sent.start ≡ true

    lost_now : OpenAt settings e IsLost exit_now
    lost_now = subst₂ (OpenDesk (S settings e IsLost exit_now)) (sym (exit.desk e)) (sym (exit.opens e))
        (if_other (S settings e Nobody before) (S settings e IsLost exit_now) (desk_of e before).phase (desk_of e before).initialize (open_of e before) (λ served id is. moved served id) (h e))
      where
        stays : (id : Id) (k : SentAt settings before e id) → nat_eq s k.start ≡ false → SentAt settings exit_now e id
        stays id k other = record {
          group = k.group;
          start = k.start;
          home = exit.home e ∙ k.home;
          last = start_took k.group before cause ∙ k.last;
          among = subst (OneOf (IsOf e id)) (sym (exit.forwards k.start ∙ ap (λ b. if b then [] else (forwarding_of settings k.start before).open_requests) other)) k.among;
        }

        moved : is_answered (desk_of e before).phase ≡ true → (id : Id) → TakenAt settings before e id ⊎ ⊥ → TakenAt settings exit_now e id ⊎ IsLost id
        moved served id (inr k) = absurd k
        moved served id (inl (inr k)) = inl (inr (waits_took settings e id before cause (exit.unmet) (exit.home e) k))
        moved served id (inl (inl k)) = go (nat_eq s k.start) refl
          where
            go : (b : Bool) → nat_eq s k.start ≡ b → TakenAt settings exit_now e id ⊎ IsLost id
            go true same = inr (record { served = served; sent = k; here = same })
            go false other = inl (inl (stays id k other))

    abbrev StaysIn : Type 0
    StaysIn = (ends_with settings before s e && is_begun (desk_of e before).phase) ≡ false

    -- of a group that goes on each was refused
    module _ (id : Id) (lost : IsLost id) where
      abbrev k : SentAt settings before e id
      k = lost.sent

      home : group_of s before ≡ Some k.group
      home = ap (λ n. group_of n before) (number_same s k.start lost.here) ∙ (lively.last k.group k.start k.last).0

      begun_here : is_begun (desk_of e before).phase ≡ true
      begun_here = begun_answered (desk_of e before).phase lost.served

      member : is_in settings before s e ≡ true
      member = ap (λ o. option_map_or (λ i. is_home i (home_of settings e before)) o false) home ∙ (ap (is_home k.group) k.home ∙ same_number k.group)

      askers : AllForwarded settings before
      askers = (facts.steady).asked (not_stopped before facts.quit e (begun_there (desk_of e before).phase begun_here))

      -- where its group ends it is put out
      not_out : StaysIn → not (begins_again settings before s) ≡ true → ⊥
      not_out rest ends = never (sym (ap₂ (λ a b. a && b) (ap₂ (λ a b. a && b) (ends_live settings before s ends k.group home (lives_of settings before lively e k.group lost.served k.home)) member) begun_here) ∙ rest)

      refused_there : RenewsGroup settings before s → NotOpen settings e id (later cause)
      refused_there r = subst (λ z. NotOpen settings e id (behind exit_now z)) (sym (exit.row ∙ goes_on)) (subst (NotOpen settings e id) (sym (behind_both exit_now first rest)) (closed_outs settings e id (behind exit_now first) rest
          (sent_closed settings e id before askers s (members_in settings r.group before) named (subst (λ n. OneOf (IsOf e id) (forwarding_of settings n before).open_requests) (sym (number_same s k.start lost.here)) k.among) exit_now)))
        where
          same : k.group ≡ r.group
          same = let both : ◌≡◌ {A = Option ℕ} (Some k.group) (Some r.group) = sym home ∙ r.home in cc

          first : List Out
          first = outs (each (lose_sent settings before s) (members_in settings r.group before)) exit_now

          rest : List Out
          rest = outs (choose (is_ready (life_of s before).stage) (each (lose_start settings before s) (running_in settings r.group before)) nothing
              ⨾ choose (starts_again settings before r.group r.kept) (spawn r.group) (each (turn_out settings r.group) (members_in settings r.group before))) (behind exit_now first)

          goes_on : outs (lost_row settings before s) exit_now ≡ first ++ rest
          goes_on = rw (r.home, r.found, r.live) refl

          joined : e < 0 + editors_of before
          joined = let known : editors_of before ≤ e → ⊥ = λ le. never (sym begun_here ∙ ap is_begun ((facts.steady).editors e le)) in omega (arith, known)

          named : list_any (λ n. nat_eq n e) (members_in settings r.group before) ≡ true
          named = named_in (λ n. is_begun (desk_of n before).phase && is_home r.group (home_of settings n before)) 0 (editors_of before) e (omega arith) joined
              (ap (λ b. b && is_home r.group (home_of settings e before)) begun_here ∙ (ap (is_home r.group) (k.home ∙ ap (λ g. Some g) same) ∙ same_number r.group))

      none_left : StaysIn → NotOpen settings e id (later cause)
      none_left rest = go (begins_again settings before s) refl
        where
          go : (b : Bool) → begins_again settings before s ≡ b → NotOpen settings e id (later cause)
          go true again = refused_there (renews_parts settings before s again)
          go false last = absurd (not_out rest (ap not last))

    stays_waiting : StaysIn → (ends_with settings before s e && is_waiting (desk_of e before).phase) ≡ false
    stays_waiting rest = go (ends_with settings before s e) (is_waiting (desk_of e before).phase) refl rest
      where
        waits_begun : is_waiting (desk_of e before).phase ≡ true → is_begun (desk_of e before).phase ≡ true
        waits_begun waits = ap is_begun (waiting_is (desk_of e before).phase waits)

        go : (a b : Bool) → is_waiting (desk_of e before).phase ≡ b → (a && is_begun (desk_of e before).phase) ≡ false → (a && b) ≡ false
        go true true waits off = never (sym (waits_begun waits) ∙ off)
        go true false waits off = refl
        go false b waits off = refl

    stays_open : StaysIn → OpenAt settings e Nobody (later cause)
    stays_open rest = if_other (S settings e IsLost (later cause)) (S settings e Nobody (later cause)) (desk_of e (later cause)).phase (desk_of e (later cause)).initialize (open_of e (later cause))
        (λ served id still k. go id still k) (open_entry settings e IsLost before cause (exit.turned e ∙ stays_waiting rest) range facts begun fits lasts lost_now)
      where
        go : (id : Id) → is_open id (open_of e (later cause)) ≡ true → TakenAt settings (later cause) e id ⊎ IsLost id → TakenAt settings (later cause) e id ⊎ ⊥
        go id still (inl k) = inl k
        go id still (inr lost) = absurd (none_left id lost rest still)

    -- one that is in a group that ends is closed
    put_out_over : (ends_with settings before s e && is_begun (desk_of e before).phase) ≡ true → OpenAt settings e Nobody (later cause)
    put_out_over out = over_by (S settings e Nobody (later cause)) (desk_of e (later cause)).phase (desk_of e (later cause)).initialize (open_of e (later cause))
        (exit_ends settings before cause s exit (facts.steady).editors e (exit.out e ∙ out)) (exit_placed settings before cause s exit e (and_parts (ends_with settings before s e) (is_begun (desk_of e before).phase) out).1)

    exit_open : OpenAt settings e Nobody (later cause)
    exit_open = go (ends_with settings before s e && is_begun (desk_of e before).phase) refl
      where
        go : (b : Bool) → (ends_with settings before s e && is_begun (desk_of e before).phase) ≡ b → OpenAt settings e Nobody (later cause)
        go true out = put_out_over out
        go false rest = stays_open rest

  module _ (s : ℕ) (body : List ℕ) (fits : fits_behind before (FromServer s body) ≡ true) where
    abbrev now : List Event
    now = with_cause before (FromServer s body)

    abbrev fs : List Forwarded
    fs = (forwarding_of settings s before).open_requests

    module _ (e : ℕ) where
      -- those that the response answers are excused, of a start that isn't to end
      abbrev Answers : Id → Type 0
      Answers id = (is_up (life_of s before).stage ≡ true) × Passed settings e id before s body

      response_now : OpenAt settings e Answers now
      response_now = open_at settings e Answers before (heard (FromServer s body)) (if_other (S settings e Nobody before) (S settings e Answers now) (desk_of e before).phase (desk_of e before).initialize (open_of e before) (λ served id is. sent served id) (h e))
        where
          answered : is_answered (desk_of e before).phase ≡ true → (id : Id) (k : SentAt settings before e id) → SentAt settings now e id ⊎ ((s ≡ k.start) × Passed settings e id before s body) → TakenAt settings now e id ⊎ Answers id
          answered served id k (inl at) = inl (inl at)
          answered served id k (inr p) = inr (ap (λ n. is_up (life_of n before).stage) p.0 ∙ up_of settings before lively e k.group k.start served k.home k.last, p.1)

          sent : is_answered (desk_of e before).phase ≡ true → (id : Id) → TakenAt settings before e id ⊎ ⊥ → TakenAt settings now e id ⊎ Answers id
          sent served id (inl (inl k)) = answered served id k (sent_answered settings e id before s body k)
          sent served id (inl (inr k)) = inl (inr (waits_took settings e id before (FromServer s body) refl (home_stays settings e before (heard (FromServer s body)) refl) k))
          sent served id (inr k) = absurd k

      -- and their editors get it

      low : is_up (life_of s before).stage ≡ true → (forwarding_of settings s before).next < 2 ^ 64
      low up = let b = (facts.steady).bounded s up in
          let second : (forwarding_of settings s before).next ≤ settings.limits.requests + 2 = b.1 in
          let wide : settings.limits.requests < 2 ^ 32 = range.requests in
          omega (arith, second, wide)

      none_answered : (id : Id) → answered_id (message_of body) ≡ None → Passed settings e id before s body → ⊥
      none_answered id none k = nobody fs (subst (λ o. OneOf (λ (f : Forwarded). IsOf e id f × (answered_by o f ≡ true)) fs) none k)
        where
          nobody : (gs : List Forwarded) → OneOf (λ (f : Forwarded). IsOf e id f × (answered_by None f ≡ true)) gs → ⊥
          nobody [] k = k
          nobody (g ∷ gs) (inl p) = absurd (let clash : false ≡ true = p.1 in cc)
          nobody (g ∷ gs) (inr q) = nobody gs q

      -- of a start that is ready
      module _ (id : Id) (f : Forwarded) (found : find (answered_by (answered_id (message_of body))) fs ≡ Some f) (of : IsOf e id f) where
        abbrev text : List ℕ
        text = answer_text (own_version settings before s f) body f.id

        response_outs : (there : Bool) → is_there (desk_of f.editor before).phase ≡ there → outs (answer_row settings s before body (message_of body)) now ≡ outs (choose there (send (ToEditor f.editor text)) nothing) now
        response_outs there is = ap (λ o. outs (on o nothing (hand_on settings before s body)) now) found ∙ ap (λ b. outs (choose b (send (ToEditor f.editor text)) nothing) now) is

        answers : answered_id (message_of text) ≡ Some id
        answers = (response_is id (message_of text) (answer_says (own_version settings before s f) (own_flat settings before s f (facts.base).meant) body f.id id (answers_only (message_of body) f fs found) of.1)).1

        closed : is_open id (open_of e (now ++ said (ToEditor f.editor text) ∷ [])) ≡ false
        closed = ap (is_open id) (opens_more e now (said (ToEditor f.editor text)) ∙ ap₂ (λ b o. if b then without o (open_of e now) else open_of e now) (ap (λ k. nat_eq k e) of.0 ∙ same_number e) answers) ∙ answered_closed id (open_of e now)

        gone_not : (phase : Phase) → is_there phase ≡ false → is_answered phase ≡ true → ⊥
        gone_not Answered gone served = never gone
        gone_not Running gone served = never gone
        gone_not Down gone served = never gone
        gone_not Absent gone served = never (sym served)
        gone_not New gone served = never (sym served)
        gone_not Waiting gone served = never (sym served)
        gone_not Closed gone served = never (sym served)
        gone_not Gone gone served = never (sym served)

        answered_not : (there : Bool) → is_there (desk_of f.editor before).phase ≡ there → is_answered (desk_of e (behind now (outs (answer_row settings s before body (message_of body)) now))).phase ≡ true
            → is_open id (open_of e (behind now (outs (answer_row settings s before body (message_of body)) now))) ≡ true → ⊥
        answered_not true is served still = never (sym (subst (λ z. is_open id (open_of e (behind now z)) ≡ true) (response_outs true is) still) ∙ closed)
        answered_not false is served still = gone_not (desk_of e before).phase (ap (λ k. is_there (desk_of k before).phase) (sym of.0) ∙ is)
            (sym (ap (λ z. is_answered (desk_of e z).phase) (ap (behind now) (response_outs false is) ∙ append-nil now) ∙ ap (λ (d : Desk). is_answered d.phase) (desk_more e before (heard (FromServer s body)))) ∙ served)

      abbrev Stays : Stage → Id → Type 0
      Stays stage id = is_answered (desk_of e (behind now (outs (from_server settings s before body (message_of body) stage) now))).phase ≡ true → is_open id (open_of e (behind now (outs (from_server settings s before body (message_of body) stage) now))) ≡ true → ⊥

      answered_response : (life_of s before).stage ≡ Ready → (id : Id) → Passed settings e id before s body → is_answered (desk_of e (behind now (outs (answer_row settings s before body (message_of body)) now))).phase ≡ true
          → is_open id (open_of e (behind now (outs (answer_row settings s before body (message_of body)) now))) ≡ true → ⊥
      answered_response at id k served still =
          let p : Found (IsOf e id) (answered_id (message_of body)) (forwarding_of settings s before).next (low (ap is_up at)) fs = found_one (IsOf e id) (answered_id (message_of body)) (forwarding_of settings s before).next (low (ap is_up at)) 2 fs (rising_of settings s before) k in
          answered_not id p.first p.found p.holds (is_there (desk_of (p.first).editor before).phase) refl served still

      ready_not : (life_of s before).stage ≡ Ready → (id : Id) → Passed settings e id before s body → Stays Ready id
      ready_not at id k served still = go (is_response (message_of body)) refl
        where
          none_of : (m : Message) → is_response m ≡ false → answered_id m ≡ None
          none_of (result id r) h = never h
          none_of (error id x) h = never h
          none_of other h = refl

          row_of : (m : Message) → is_response m ≡ true → ready_row settings s before body m ≡ answer_row settings s before body m
          row_of (result id r) h = refl
          row_of (error id x) h = refl
          row_of other h = never (sym h)

          go : (b : Bool) → is_response (message_of body) ≡ b → ⊥
          go true is = answered_response at id k (subst (λ z. is_answered (desk_of e (behind now (outs z now))).phase ≡ true) (row_of (message_of body) is) served)
              (subst (λ z. is_open id (open_of e (behind now (outs z now))) ≡ true) (row_of (message_of body) is) still)
          go false other = none_answered id (none_of (message_of body) other) k

      -- none is open before the first result
      early_not : (forwarding_of settings s before).next ≡ 2 → (id : Id) → Passed settings e id before s body → ⊥
      early_not first id k = none_sent (λ (f : Forwarded). IsOf e id f × (answered_by (answered_id (message_of body)) f ≡ true)) fs (subst (λ n. Rising 2 n fs) first (rising_of settings s before)) k

      fine_not : (stage : Stage) → (life_of s before).stage ≡ stage → is_up stage ≡ true → (id : Id) → Passed settings e id before s body → Stays stage id
      fine_not Initializing at up id k served still = early_not (subst (λ z. TiedAt z (next_number s before) (forwarding_of settings s before).next) at (facts.tied s)).1 id k
      fine_not Ready at up id k served still = ready_not at id k served still
      fine_not Stopping at up id k served still = never (sym up)
      fine_not Ending at up id k served still = never (sym up)
      fine_not Ended at up id k served still = never (sym up)
      fine_not Unspawned at up id k served still = early_not ((facts.steady).unbegun s (ap is_unbegun at)).1 id k
      fine_not Spawning at up id k served still = early_not ((facts.steady).unbegun s (ap is_unbegun at)).1 id k

      passed_not : (id : Id) → Answers id → Stays (life_of s before).stage id
      passed_not id k = fine_not (life_of s before).stage refl k.0 id k.1

      stays_at : turned_away settings before (FromServer s body) e ≡ false → OpenAt settings e Nobody (later (FromServer s body))
      stays_at stays = if_other (S settings e Answers (later (FromServer s body))) (S settings e Nobody (later (FromServer s body))) (desk_of e (later (FromServer s body))).phase (desk_of e (later (FromServer s body))).initialize (open_of e (later (FromServer s body)))
          (λ served id still k. go id served still k) (open_entry settings e Answers before (FromServer s body) stays range facts begun fits lasts response_now)
        where
          go : (id : Id) → is_answered (desk_of e (later (FromServer s body))).phase ≡ true → is_open id (open_of e (later (FromServer s body))) ≡ true → TakenAt settings (later (FromServer s body)) e id ⊎ Answers id → TakenAt settings (later (FromServer s body)) e id ⊎ ⊥
          go id served still (inl k) = inl k
          go id served still (inr k) = inr (passed_not id k served still)

      -- one that waited for a start that refuses its `initialize` is closed
      server_at : OpenAt settings e Nobody (later (FromServer s body))
      server_at = go (turned_away settings before (FromServer s body) e) refl
        where
          go : (b : Bool) → turned_away settings before (FromServer s body) e ≡ b → OpenAt settings e Nobody (later (FromServer s body))
          go false stays = stays_at stays
          go true turned = over_by (S settings e Nobody (later (FromServer s body))) (desk_of e (later (FromServer s body))).phase (desk_of e (later (FromServer s body))).initialize (open_of e (later (FromServer s body)))
              (turned_ends settings before s body (facts.steady).editors e turned) (turned_placed settings before s body e turned)

  pub open_rests : (cause : Cause) → fits_behind before cause ≡ true → OpenAll settings (later cause)
  open_rests (FromEditor n body) fits = editor_entry n body fits
  open_rests (FromServer s body) fits = λ e. server_at s body fits e
  open_rests (Joined n) fits = λ e. open_entry settings e Nobody before (Joined n) refl range facts begun fits lasts (joined_now n e fits)
  open_rests (Started s) fits = λ e. open_entry settings e Nobody before (Started s) refl range facts begun fits lasts (started_now s e)
  open_rests (Drained n k) fits = λ e. open_entry settings e Nobody before (Drained n k) refl range facts begun fits lasts (drained_now n k e)
  open_rests (EditorGone n why) fits = λ e. open_entry settings e Nobody before (EditorGone n why) refl range facts begun fits lasts (gone_now n why e)
  open_rests (StartFailed s) fits = λ e. exit_open s (StartFailed s) fits (failed_exit settings before s) e
  open_rests (ServerGone s) fits = λ e. exit_open s (ServerGone s) fits (gone_exit settings before s) e
  open_rests (Tick t) fits = λ e. open_entry settings e Nobody before (Tick t) refl range facts begun fits lasts (ticked_now t e)
