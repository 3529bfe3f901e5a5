-- What is settled where an editor that is slow leaves.
use Rattle.std.proofs.Common.{◌≡◌, ℕ, ◌^◌, ◌≤◌, true, false, List, [], ◌∷◌, ◌++◌, filter, length, nat_eq, Some, None, refl, sym, ◌∙◌, ap, subst}
use Rattle.std.specs.Prelude.{◌↔◌}
use Rattle.std.specs.List.{AllByRecursion}
use Rattle.mux_history.specs.declared.out.Out.{Out}
use Rattle.mux_history.specs.declared.out.Out.TheVariants.{CloseEditor, ToServer}
use Rattle.event_model.specs.declared.phase.Phase.{Phase}
use Rattle.event_model.specs.declared.phase.Phase.TheVariants.{Absent, New, Waiting, Answered, Running, Down, Closed, Gone}
use Rattle.event_model.specs.Event.{Event, behind, said}
use Rattle.event_model.specs.Phases.{Desk, desk_of, is_linked, is_there}
use Rattle.event_model.specs.Settings.{Settings}
use Rattle.event_model.specs.Spawns.{group_of, start_of, starts_of}
use Rattle.event_model.specs.Stages.{life_of}
use Rattle.event_model.proofs.Frames.{never}
use Rattle.mux_model.specs.Fits.{fits_behind}
use Rattle.mux_facts.specs.Ranges.{InRange}
use Rattle.mux_facts.proofs.Folds.{desk_more}
use Rattle.group_words.specs.Houses.{groups_of, home_of}
use Rattle.group_rows.specs.Asks.{asks_of, is_with}
use Rattle.group_rows.specs.Created.{created_of}
use Rattle.group_facts.specs.SlowRows.{is_slow}
use Rattle.group_facts.specs.Facts.{is_unready}
use Rattle.group_facts.specs.Lively.{Lively}
use Rattle.group_facts.specs.Settled.{HasSeat, RunsAt, is_answered}
use Rattle.group_facts.specs.Why.{quitting}
use Rattle.group_facts.proofs.AskEntries.{AllSeats, close_runs, onward_slow, seat_now, up_ready}
use Rattle.group_facts.proofs.AskRest.{all_pending, leave_clean}
use Rattle.group_facts.proofs.AskSeats.{Away, MidSeat, Pending, did_all}
use Rattle.group_facts.proofs.Begun.{Begun, NoSpawn, starts_stay}
use Rattle.group_facts.proofs.Begun as founded
use Rattle.group_facts.proofs.Ceased.{off_outs, unended_outs}
use Rattle.group_facts.proofs.Downs.{AllDown, Over, lives_outs}
use Rattle.group_facts.proofs.Entries.{OpenAll}
use Rattle.group_facts.proofs.Facts.{Facts}
use Rattle.group_facts.proofs.Forwards.{zip_all}
use Rattle.group_facts.proofs.Lively.{up_of}
use Rattle.group_facts.proofs.LastStarts.{AllLast, groups_rest}
use Rattle.group_facts.proofs.OpenByOut.{open_outs}
use Rattle.group_facts.proofs.OwnEntry.{Nobody}
use Rattle.group_facts.proofs.PutOut.{homes_stay}
use Rattle.group_facts.proofs.Quits.{not_stopped}
use Rattle.group_facts.proofs.Seated.{AllPlaced, placed_outs}
use Rattle.group_facts.proofs.SlowRow.{leave_keeps, parting, parting_behind, parting_calm, parting_keeps, parting_why, quit_turns_none, slow_there}
use Rattle.group_facts.proofs.StopEntry.{stopped_outs}
use Rattle.group_facts.proofs.Takings.{AllAt, AllTaken, created_more, fewer_starts, left_all, other_way}
use Rattle.mux_facts.proofs.Lists.{all_of}

there_linked : (phase : Phase) → is_there phase ≡ true → is_linked phase ≡ true
there_linked New h = refl
there_linked Waiting h = refl
there_linked Answered h = refl
there_linked Running h = refl
there_linked Down h = refl
there_linked Closed h = refl
there_linked Absent h = never (sym h)
there_linked Gone h = never (sym h)

-- its `exit` would be taken
pub quit_fits : (settings : Settings) (place : List Event) (e : ℕ) → is_slow settings e place ≡ true → fits_behind place (quitting e) ≡ true
quit_fits settings place e slow = there_linked (desk_of e place).phase (slow_there settings e place slow)

module _ (settings : Settings) (range : InRange settings) (place : List Event) (facts : Facts settings place) (e : ℕ) (slow : is_slow settings e place ≡ true) where
  abbrev xs : List Out
  xs = parting settings place e

  abbrev later : List Event
  later = behind place xs

  calm : AllByRecursion NoSpawn xs
  calm = parting_calm settings place e

  -- Groups and starts

  pub slow_begun : Begun settings place → Begun settings later
  slow_begun h g = subst (λ k. (start_of g later ≡ None) ↔ (k ≤ g)) (sym (founded.count_behind settings place xs)) (subst (λ o. (o ≡ None) ↔ (length (groups_of settings place) ≤ g)) (sym (starts_stay g place xs calm)) (h g))

  pub slow_lasts : AllLast place → AllLast later
  slow_lasts h s g at alive = starts_stay g place xs calm ∙ h s g (sym (groups_rest s place xs calm) ∙ at) (unended_outs s place xs calm alive)

  pub slow_down : AllDown settings place → AllDown settings later
  slow_down h g s over at = off_outs s place xs calm (h g s (sym (lives_outs settings g place xs) ∙ over) (sym (starts_stay g place xs calm) ∙ at))

  -- it was there, so nothing was stopped
  pub slow_over : Over settings later
  slow_over over g = never (sym over ∙ (stopped_outs place xs ∙ not_stopped place facts.quit e (slow_there settings e place slow)))

  -- Editors

  pub slow_placed : AllPlaced settings place → AllPlaced settings later
  slow_placed h n = placed_outs settings n place xs (h n)

  pub slow_opens : AllLast place → OpenAll settings place → OpenAll settings later
  slow_opens lasts h n = open_outs settings n Nobody place (quitting e) (quit_turns_none settings place e n) lasts place xs (parting_why settings range place facts e slow) calm (h n)

  -- another one that runs still does
  still_runs_there : (n : ℕ) → nat_eq e n ≡ false → (desk_of n place).phase ≡ Running → (desk_of n later).phase ≡ Running
  still_runs_there n other at = parting_keeps settings (λ events. (desk_of n events).phase ≡ Running) e (λ events h. close_runs events e n other h)
      (λ events s body h. ap (λ (d : Desk). d.phase) (desk_more n events (said (ToServer s body))) ∙ h) place at

  runs_later : Lively settings later → (s n : ℕ) → nat_eq e n ≡ false → RunsAt settings place s n → RunsAt settings later s n
  runs_later lively s n other k =
      let running : (desk_of n later).phase ≡ Running = still_runs_there n other k.running in
      let home : home_of settings n later ≡ Some k.group = homes_stay settings n place xs ∙ (k.home ∙ k.kept) in
      let kept : group_of s later ≡ Some k.group = groups_rest s place xs calm ∙ k.kept in
      let last : start_of k.group later ≡ Some s = starts_stay k.group place xs calm ∙ k.last in
      record {
        running = running;
        home = home ∙ sym kept;
        group = k.group;
        kept = kept;
        last = last;
        ready = up_ready (life_of s later).stage (up_of settings later lively n k.group s (ap is_answered running) home last) (onward_slow settings range place facts e slow s (ap is_unready k.ready));
      }

  -- What starts asked

  module _ (lasts : AllLast place) (seats : AllSeats settings place) where
    away : (s : ℕ) → AllByRecursion (Away e) (asks_of settings s later)
    away s = parting_behind settings (λ z. AllByRecursion (Away e) (asks_of settings s z)) place e (leave_clean settings place (quitting e) (facts.steady).asks e (place ++ said (CloseEditor e) ∷ [])
        (λ t. did_all settings (MidSeat settings place (quitting e) t) t place (CloseEditor e) tt (all_of (HasSeat settings place t) (MidSeat settings place (quitting e) t) (λ a k. seat_now settings place facts (quitting e) (quit_fits settings place e slow) t a k) (asks_of settings t place) (seats t)))
        (λ t. did_all settings (Pending e (filter (is_with e) (asks_of settings t place))) t place (CloseEditor e) tt (all_pending e (asks_of settings t place))) s)

    asked_before : (s : ℕ) → AllByRecursion (HasSeat settings place s) (asks_of settings s later)
    asked_before s = parting_keeps settings (λ events. AllByRecursion (HasSeat settings place s) (asks_of settings s events)) e (λ events h. did_all settings (HasSeat settings place s) s events (CloseEditor e) tt h)
        (λ events n body h. did_all settings (HasSeat settings place s) s events (ToServer n body) tt h) place (seats s)

  pub slow_seats : Lively settings later → AllLast place → AllSeats settings place → AllSeats settings later
  slow_seats lively lasts seats s = zip_all (Away e) (HasSeat settings place s) (HasSeat settings later s) (λ a other k. runs_later lively s a.editor (other_way a.editor e other) k) (asks_of settings s later) (away lasts seats s) (asked_before lasts seats s)

  -- and what it asked them to take

  few_before : starts_of later ≤ 2 ^ 64 → starts_of place ≤ 2 ^ 64
  few_before = parting_keeps settings (λ events. starts_of events ≤ 2 ^ 64 → starts_of place ≤ 2 ^ 64) e (λ events f few. f (fewer_starts events (said (CloseEditor e)) (2 ^ 64) few)) (λ events s body f few. f (fewer_starts events (said (ToServer s body)) (2 ^ 64) few)) place (λ few. few)

  pub slow_taken : Lively settings later → AllTaken settings place → AllTaken settings later
  slow_taken lively h few s = parting_behind settings (λ z. AllAt (RunsAt settings later s) (created_of settings s z)) place e
      (leave_keeps settings (λ z. AllAt (RunsAt settings later s) (created_of settings s z)) (λ events n body k. subst (AllAt (RunsAt settings later s)) (sym (created_more settings s events (said (ToServer n body)))) k) place e (place ++ said (CloseEditor e) ∷ [])
      (subst (AllAt (RunsAt settings later s)) (sym (created_more settings s place (said (CloseEditor e))))
      (left_all (RunsAt settings place s) (RunsAt settings later s) e (created_of settings s place) (λ n other k. runs_later lively s n (other_way n e other) k) (h (few_before few) s))))
