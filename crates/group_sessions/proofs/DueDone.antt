-- In every legal history each editor was sent of each token what it is due.
use Rattle.std.proofs.Common.{◌≡◌, ℕ, ◌^◌, ◌<◌, ◌≤◌, true, List, [], ◌∷◌, ◌++◌, ap, append-nil, map, refl, sym, ◌∙◌, ◌||◌, ap₂, nat_eq, Bool, false, ◌&&◌}
use Rattle.std.specs.List.{list_any}
use Rattle.mux_history.specs.declared.cause.Cause.{Cause}
use Rattle.mux_history.specs.declared.entry.Entry.{Entry}
use Rattle.mux_history.specs.declared.out.Out.{Out}
use Rattle.mux_history.specs.declared.out.Out.TheVariants.{CloseEditor, ToServer}
use Rattle.event_model.specs.Event.{Event, behind, events_of, heard, said, with_cause}
use Rattle.event_model.specs.Phases.{desk_of}
use Rattle.event_model.specs.Settings.{Settings}
use Rattle.event_model.specs.Spawns.{starts_of}
use Rattle.event_model.proofs.Frames.{never}
use Rattle.mux_model.specs.Fits.{fits_behind}
use Rattle.mux_facts.specs.Ranges.{InRange}
use Rattle.mux_facts.proofs.Reasons.{Reasons, reasons_keep}
use Rattle.group_rows.specs.Created.{created_text, created_of}
use Rattle.group_rows.specs.Rows.{outs_of}
use Rattle.group_rows.specs.Tokens.{marked_text}
use Rattle.group_facts.specs.Legal.{Legal}
use Rattle.group_facts.specs.Settled.{Settled}
use Rattle.group_facts.proofs.Facts.{Facts}
use Rattle.group_facts.proofs.Reached.{Reached, facts_at, reached, settled_at}
use Rattle.group_facts.proofs.SlowRow.{parting, parting_walk, parting_why}
use Rattle.group_facts.proofs.Known.{Here, here_did, here_slow}
use Rattle.group_facts.proofs.SlowRest.{quit_fits}
use Rattle.group_facts.specs.Why.{Why, quitting}
use Rattle.group_sessions.proofs.Tied.{has_run}
use Rattle.group_sessions.proofs.Unreserved.{Unreserved, all_unreserved}
use Rattle.group_sessions.proofs.Walk.{KeepsSlow, walk}
use Rattle.group_sessions.specs.Due.{KeepsDue, due, is_asks, progress_sent, words, closing, is_closing, progress_due, word}
use Rattle.group_sessions.proofs.DueClear.{all_clear}
use Rattle.group_sessions.proofs.DueEvents.{Moves, Tie, gain, moved_did, tied_first, left_whole}
use Rattle.group_sessions.proofs.DueLaw.{AskedOnce, entry_due, entry_tied, fewer}
use Rattle.group_sessions.proofs.DueOnce.{asked_once, closed_off, ran_did, ran_entry}
use Rattle.group_sessions.proofs.DueSent.{sent_behind, sent_outs}
use Rattle.group_sessions.proofs.DueStates.{broke}
use Rattle.group_rows.specs.ExitRows.{has_begun}

-- of token k of start s and editor e
record Rests (settings : Settings) (events : List Event) (s k e : ℕ) : Type 0 where
  tie : Tie settings s k e events
  ran : list_any is_asks (words settings s k e events) ≡ true → has_run (desk_of e events).phase ≡ true
  same : progress_sent s k e events ≡ progress_due settings s k e events

abbrev AllRest : Settings → List Event → Type 0
AllRest settings events = starts_of events ≤ 2 ^ 64 → (s k e : ℕ) → s < 2 ^ 64 → k < 2 ^ 64 → Rests settings events s k e

-- at a place where an editor that is slow leaves: what was sent is what is due
module _ (settings : Settings) (s k e : ℕ) where
  abbrev IsDue : List Event → Type 0
  IsDue events = progress_sent s k e events ≡ progress_due settings s k e events

  record AtSlow (place : List Event) (n : ℕ) (events : List Event) : Type 0 where
    here : Here settings place (quitting n) events
    tied : Tie settings s k e events
    same : IsDue events

  -- an out that tells it nothing
  one_silent : (events : List Event) (out : Out) → sent_outs s k e (out ∷ []) ≡ [] → gain settings s k e events (said out) ≡ [] → broke e k (word settings s k e events (said out)) ≡ false → Moves settings s k e events (said out) → IsDue events → IsDue (events ++ said out ∷ [])
  one_silent events out silent none whole moves same = sent_behind s k e events (out ∷ []) ∙ (ap (λ z. progress_sent s k e events ++ z) silent ∙ (append-nil (progress_sent s k e events)
      ∙ (same ∙ ap₂ (λ u b. map (marked_text (created_text s k)) u ++ closing s k b) (sym (moves.grows ∙ (ap (λ z. due (words settings s k e events) ++ z) none ∙ append-nil (due (words settings s k e events)))))
      (sym (moves.cut ∙ (ap (λ b. is_closing (words settings s k e events) || (b && has_begun e k (created_of settings s events))) whole ∙ or_none (is_closing (words settings s k e events))))))))
    where
      or_none : (b : Bool) → (b || false) ≡ b
      or_none true = refl
      or_none false = refl

module _ (settings : Settings) (range : InRange settings) where
  entry : (before : List Event) → Reached settings before → (cause : Cause) → fits_behind before cause ≡ true → AllRest settings before → AllRest settings (behind (with_cause before cause) (outs_of settings before cause))
  entry before so_far cause fits h few s k e low small = record {
    tie = entry_tied settings range before facts settled free (all_clear settings range before so_far) cause fits few_before s k e low small was.tie asked;
    ran = ran_entry settings range before facts settled cause fits few_before s k e low small was.tie was.ran;
    same = entry_due settings range before facts settled free (all_clear settings range before so_far) cause fits few_before s k e low small was.tie asked was.same;
  }
    where
      facts : Facts settings before
      facts = facts_at settings range before so_far

      settled : Settled settings before
      settled = settled_at settings range before so_far

      free : Unreserved settings before
      free = all_unreserved settings range before so_far

      few_before : starts_of before ≤ 2 ^ 64
      few_before = fewer before (heard cause ∷ []) (2 ^ 64) (fewer (with_cause before cause) (map said (outs_of settings before cause)) (2 ^ 64) few)

      was : Rests settings before s k e
      was = h few_before s k e low small

      asked : Reasons (AskedOnce settings s k e) (with_cause before cause) (outs_of settings before cause)
      asked = asked_once settings range before facts settled cause fits few_before s k e low small was.tie was.ran

  slow : KeepsSlow settings (AllRest settings)
  slow place at n is h few s k e low small = record { tie = last.tied; ran = ran_last; same = last.same }
    where
      facts : Facts settings place
      facts = facts_at settings range place at

      few_before : starts_of place ≤ 2 ^ 64
      few_before = fewer place (map said (parting settings place n)) (2 ^ 64) few

      was : Rests settings place s k e
      was = h few_before s k e low small

      ran_last : list_any is_asks (words settings s k e (behind place (parting settings place n))) ≡ true → has_run (desk_of e (behind place (parting settings place n))).phase ≡ true
      ran_last = reasons_keep (Why settings place (quitting n)) (λ events. list_any is_asks (words settings s k e events) ≡ true → has_run (desk_of e events).phase ≡ true)
          (ran_did settings range place facts (settled_at settings range place at) (quitting n) (quit_fits settings place n is) few_before s k e low small was.tie was.ran)
          place (parting settings place n) (parting_why settings range place facts n is) was.ran

      last : AtSlow settings s k e place n (behind place (parting settings place n))
      last = parting_walk settings range place facts n is (AtSlow settings s k e place n)
          (λ i. let m : Moves settings s k e place (said (CloseEditor n)) = moved_did settings s k e place i.tied (((i.here).mid).steady).starts (CloseEditor n) tt
          (λ asks. never (sym asks ∙ closed_off settings range place facts (settled_at settings range place at) (quitting n) (quit_fits settings place n is) few_before s k e low small was.tie was.ran place n)) in
          record {
            here = here_did settings range place (quitting n) facts place (CloseEditor n) (parting_why settings range place facts n is).0 i.here;
            tied = m.tie;
            same = one_silent settings s k e place (CloseEditor n) refl refl (left_whole settings s k e place (nat_eq n e)) m i.same;
          })
          (λ events t body why i. let m : Moves settings s k e events (said (ToServer t body)) = moved_did settings s k e events i.tied (((i.here).mid).steady).starts (ToServer t body) tt (λ asks. never (sym asks)) in
          record {
            here = here_did settings range place (quitting n) facts events (ToServer t body) why i.here;
            tied = m.tie;
            same = one_silent settings s k e events (ToServer t body) refl refl refl m i.same;
          })
          (record { here = here_slow settings range place n facts; tied = was.tie; same = was.same })

  pub due_law : (history : List Entry) → Legal settings history → KeepsDue settings history
  due_law history legal few s k e low small = (walk settings (AllRest settings) entry slow (λ few s k e low small. record { tie = tied_first settings s k e; ran = λ asked. never (sym asked); same = refl }) (events_of history) (reached settings history legal) few s k e low small).same
