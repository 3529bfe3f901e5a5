-- X3: behind the end of a start whose group ends with it the group's editors are in it no more.
use Rattle.std.proofs.Common.{◌≡◌, ℕ, ◌+◌, ◌<◌, ◌≤◌, Bool, true, false, ◌&&◌, ◌||◌, List, [], ◌∷◌, ◌++◌, nat_eq, if◌then◌else◌, Some, None, refl, sym, ◌∙◌, ap, ap₂, subst, arith}
use Rattle.std.specs.List.{list_any}
use Rattle.std.specs.Option.{option_map_or}
use Rattle.std.proofs.lemmas.Bool.{and_parts}
use Rattle.mux_history.specs.declared.cause.Cause.{Cause}
use Rattle.mux_history.specs.declared.cause.Cause.TheVariants.{Joined, FromEditor, EditorGone, Started, StartFailed, FromServer, ServerGone, Drained, Tick}
use Rattle.mux_history.specs.declared.out.Out.{Out}
use Rattle.mux_history.specs.declared.out.Out.TheVariants.{CloseEditor}
use Rattle.event_model.specs.declared.phase.Phase.{Phase}
use Rattle.event_model.specs.declared.phase.Phase.TheVariants.{Absent, New, Waiting, Answered, Running, Down, Closed, Gone}
use Rattle.event_model.specs.Event.{Event, behind, heard, said, with_cause}
use Rattle.event_model.specs.Phases.{Desk, desk_of, editors_of, is_begun, is_waiting, phase_closed}
use Rattle.event_model.specs.Requests.{open_of}
use Rattle.event_model.specs.Row.{Row, choose, each, nothing, outs}
use Rattle.event_model.specs.Settings.{Settings}
use Rattle.event_model.specs.Spawns.{group_of}
use Rattle.event_model.specs.Stages.{is_ready, life_of}
use Rattle.event_model.proofs.Frames.{never}
use Rattle.mux_facts.proofs.Editors.{Editors}
use Rattle.mux_facts.proofs.Folds.{desk_more, opens_more}
use Rattle.mux_facts.proofs.Keeps.{behind_both}
use Rattle.mux_facts.proofs.Table.{waiting_is}
use Rattle.mux_facts.proofs.Words.{number_same, same_number}
use Rattle.group_words.specs.Houses.{home_of, is_home}
use Rattle.group_words.proofs.Frames.{home_stays}
use Rattle.group_rows.specs.Asks.{Asking, asking_of, asks_of, idle_asking, members_in, no_asking, running_in}
use Rattle.group_rows.specs.ExitRows.{ends_group, lose_sent, lose_start, lost_row, turn_out}
use Rattle.group_rows.specs.Forwarded.{Forwarding, forwarding_of, no_forwarding}
use Rattle.group_rows.specs.Waiting.{part, refuse_held}
use Rattle.group_rows.specs.Rows.{outs_of}
use Rattle.group_rows.specs.StopRows.{refuse_initialize}
use Rattle.group_facts.specs.Facts.{asked_of, ends_link, ends_with, is_exit, is_in, is_put_out, turned_away}
use Rattle.group_facts.specs.Lively.{is_unplaced}
use Rattle.group_facts.proofs.Asks.{asked_of_more, asking_more}
use Rattle.group_facts.proofs.Exits.{EndsGroup, ends_parts, lost_outs}
use Rattle.group_rows.proofs.Frames.{forwarding_more, touches_waiting}
use Rattle.group_facts.proofs.PutOut.{begun_closed, begun_outs, named_in, unplaced_outs}

-- The two causes

over_idle : (b : Bool) (x : Asking) → (if b then no_asking else idle_asking x).asker ≡ None
over_idle true x = refl
over_idle false x = refl

over_requests : (b : Bool) (x : Forwarding) → (if b then no_forwarding else record { sender = None; next = x.next; open_requests = x.open_requests }).open_requests ≡ (if b then [] else x.open_requests)
over_requests true x = refl
over_requests false x = refl

-- the program of start s ends by this cause, and nothing else is changed by it
pub record Exit (settings : Settings) (before : List Event) (cause : Cause) (s : ℕ) : Type 0 where
  pub is : is_exit cause s ≡ true
  pub unmet : touches_waiting (heard cause) ≡ false
  pub row : outs_of settings before cause ≡ outs (lost_row settings before s) (with_cause before cause)
  pub desk : (e : ℕ) → desk_of e (with_cause before cause) ≡ desk_of e before
  pub opens : (e : ℕ) → open_of e (with_cause before cause) ≡ open_of e before
  pub home : (e : ℕ) → home_of settings e (with_cause before cause) ≡ home_of settings e before
  pub asked : (e : ℕ) → asked_of e (with_cause before cause) ≡ asked_of e before
  pub idle : (t : ℕ) → (asking_of settings t (with_cause before cause)).asker ≡ None
  pub unasked : asks_of settings s (with_cause before cause) ≡ []
  pub forwards : (t : ℕ) → (forwarding_of settings t (with_cause before cause)).open_requests ≡ (if nat_eq s t then [] else (forwarding_of settings t before).open_requests)
  pub ends : (e : ℕ) → ends_link settings before cause e ≡ is_put_out settings before cause e
  pub turned : (e : ℕ) → turned_away settings before cause e ≡ (ends_with settings before s e && is_waiting (desk_of e before).phase)
  pub out : (e : ℕ) → is_put_out settings before cause e ≡ (ends_with settings before s e && is_begun (desk_of e before).phase)

pub gone_exit : (settings : Settings) (before : List Event) (s : ℕ) → Exit settings before (ServerGone s) s
gone_exit settings before s = record {
  is = same_number s;
  unmet = refl;
  row = refl;
  desk = λ e. desk_more e before (heard (ServerGone s));
  opens = λ e. opens_more e before (heard (ServerGone s));
  home = λ e. home_stays settings e before (heard (ServerGone s)) refl;
  asked = λ e. asked_of_more e before (heard (ServerGone s));
  idle = λ t. ap (λ (x : Asking). x.asker) (asking_more settings t before (heard (ServerGone s))) ∙ over_idle (nat_eq s t) (asking_of settings t before);
  unasked = ap (λ (x : Asking). x.asks) (asking_more settings s before (heard (ServerGone s))) ∙ ap (λ b. (if b then no_asking else idle_asking (asking_of settings s before)).asks) (same_number s);
  forwards = λ t. ap (λ (x : Forwarding). x.open_requests) (forwarding_more settings t before (heard (ServerGone s))) ∙ over_requests (nat_eq s t) (forwarding_of settings t before);
  ends = λ e. refl;
  turned = λ e. refl;
  out = λ e. refl;
}

pub failed_exit : (settings : Settings) (before : List Event) (s : ℕ) → Exit settings before (StartFailed s) s
failed_exit settings before s = record {
  is = same_number s;
  unmet = refl;
  row = refl;
  desk = λ e. desk_more e before (heard (StartFailed s));
  opens = λ e. opens_more e before (heard (StartFailed s));
  home = λ e. home_stays settings e before (heard (StartFailed s)) refl;
  asked = λ e. asked_of_more e before (heard (StartFailed s));
  idle = λ t. ap (λ (x : Asking). x.asker) (asking_more settings t before (heard (StartFailed s))) ∙ over_idle (nat_eq s t) (asking_of settings t before);
  unasked = ap (λ (x : Asking). x.asks) (asking_more settings s before (heard (StartFailed s))) ∙ ap (λ b. (if b then no_asking else idle_asking (asking_of settings s before)).asks) (same_number s);
  forwards = λ t. ap (λ (x : Forwarding). x.open_requests) (forwarding_more settings t before (heard (StartFailed s))) ∙ over_requests (nat_eq s t) (forwarding_of settings t before);
  ends = λ e. refl;
  turned = λ e. refl;
  out = λ e. refl;
}

pub exit_by : (settings : Settings) (before : List Event) (cause : Cause) (s : ℕ) → is_exit cause s ≡ true → Exit settings before cause s
exit_by settings before (StartFailed n) s is = subst (Exit settings before (StartFailed n)) (number_same n s is) (failed_exit settings before n)
exit_by settings before (ServerGone n) s is = subst (Exit settings before (ServerGone n)) (number_same n s is) (gone_exit settings before n)
exit_by settings before (Joined n) s is = never (sym is)
exit_by settings before (FromEditor n body) s is = never (sym is)
exit_by settings before (EditorGone n why) s is = never (sym is)
exit_by settings before (Started n) s is = never (sym is)
exit_by settings before (FromServer n body) s is = never (sym is)
exit_by settings before (Drained n k) s is = never (sym is)
exit_by settings before (Tick t) s is = never (sym is)

-- Links that are to be ended, one after the other

closed_now : (events : List Event) (n e : ℕ) → nat_eq n e ≡ true → is_begun (desk_of e (events ++ said (CloseEditor n) ∷ [])).phase ≡ false
closed_now events n e same = ap (λ (d : Desk). is_begun d.phase) (desk_more e events (said (CloseEditor n)))
    ∙ ap (λ b. is_begun (if b then record { phase = phase_closed (desk_of e events).phase; initialize = (desk_of e events).initialize } else desk_of e events).phase) same ∙ begun_closed (desk_of e events).phase

turned_now : (settings : Settings) (g n e : ℕ) (events : List Event) → nat_eq n e ≡ true → is_begun (desk_of e (behind events (outs (turn_out settings g n) events))).phase ≡ false
turned_now settings g n e events same = ap (λ z. is_begun (desk_of e z).phase) (behind_both events (outs (refuse_initialize n) events) (outs (part settings g n) refused)
    ∙ behind_both refused (outs (refuse_held settings g n) refused) (CloseEditor n ∷ [])) ∙ closed_now (behind refused (outs (refuse_held settings g n) refused)) n e same
  where
    refused : List Event
    refused = behind events (outs (refuse_initialize n) events)

all_turned : (settings : Settings) (g : ℕ) (es : List ℕ) (events : List Event) (e : ℕ) → list_any (λ n. nat_eq n e) es ≡ true → is_begun (desk_of e (behind events (outs (each (turn_out settings g) es) events))).phase ≡ true → ⊥
all_turned settings g [] events e named h = absurd (cc)
all_turned settings g (n ∷ es) events e named h = go (nat_eq n e) refl (λ k. all_turned settings g es next e k later) named
  where
    next : List Event
    next = behind events (outs (turn_out settings g n) events)

    later : is_begun (desk_of e (behind next (outs (each (turn_out settings g) es) next))).phase ≡ true
    later = subst (λ z. is_begun (desk_of e z).phase ≡ true) (behind_both events (outs (turn_out settings g n) events) (outs (each (turn_out settings g) es) next)) h

    go : (b : Bool) → nat_eq n e ≡ b → (list_any (λ k. nat_eq k e) es ≡ true → ⊥) → (b || list_any (λ k. nat_eq k e) es) ≡ true → ⊥
    go true same rest k = never (sym (begun_outs e next (outs (each (turn_out settings g) es) next) later) ∙ turned_now settings g n e events same)
    go false other rest k = rest k

-- A whole entry

module _ (settings : Settings) (before : List Event) (cause : Cause) (s : ℕ) (exit : Exit settings before cause s) where
  abbrev now : List Event
  now = with_cause before cause

  abbrev later : List Event
  later = behind now (outs_of settings before cause)

  is_member : (e g : ℕ) → group_of s before ≡ Some g → is_in settings before s e ≡ true → is_home g (home_of settings e before) ≡ true
  is_member e g home h = sym (ap (λ o. option_map_or (λ i. is_home i (home_of settings e before)) o false) home) ∙ h

  module _ (absent : Editors before) (k : EndsGroup settings before s) where
    abbrev errors : List Out
    errors = outs (each (lose_sent settings before s) (members_in settings k.group before)) now

    abbrev told : List Event
    told = behind now errors

    abbrev losing : Row
    losing = choose (is_ready (life_of s before).stage) (each (lose_start settings before s) (running_in settings k.group before)) nothing

    abbrev losses : List Out
    losses = outs losing told

    abbrev lost : List Event
    lost = behind told losses

    abbrev ends : List Out
    ends = outs (each (turn_out settings k.group) (members_in settings k.group before)) lost

    pub parts : later ≡ behind lost ends
    parts = ap (behind now) (exit.row ∙ lost_outs settings before s now k) ∙ (behind_both now errors (losses ++ ends) ∙ behind_both told losses ends)

    none_begun : (e : ℕ) → is_begun (desk_of e before).phase ≡ true → is_home k.group (home_of settings e before) ≡ true → is_begun (desk_of e later).phase ≡ true → ⊥
    none_begun e begun home h = all_turned settings k.group (members_in settings k.group before) lost e
        (named_in (λ n. is_begun (desk_of n before).phase && is_home k.group (home_of settings n before)) 0 (editors_of before) e (omega arith) below (ap₂ (λ a b. a && b) begun home))
        (subst (λ z. is_begun (desk_of e z).phase ≡ true) parts h)
      where
        below : e < 0 + editors_of before
        below = let known : editors_of before ≤ e → ⊥ = λ le. never (sym begun ∙ ap is_begun (absent e le)) in omega (arith, known)

  pub exit_ends : Editors before → (e : ℕ) → is_put_out settings before cause e ≡ true → is_begun (desk_of e later).phase ≡ false
  exit_ends absent e h = go (is_begun (desk_of e later).phase) refl
    where
      p : (ends_with settings before s e ≡ true) × (is_begun (desk_of e before).phase ≡ true)
      p = and_parts (ends_with settings before s e) (is_begun (desk_of e before).phase) (sym (exit.out e) ∙ h)

      q : (ends_group settings before s ≡ true) × (is_in settings before s e ≡ true)
      q = and_parts (ends_group settings before s) (is_in settings before s e) p.0

      k : EndsGroup settings before s
      k = ends_parts settings before s q.0

      go : (b : Bool) → is_begun (desk_of e later).phase ≡ b → b ≡ false
      go true still = absurd (none_begun absent k e p.1 (is_member e k.group k.home q.1) still)
      go false over = refl

  -- one that waits for the start is among them
  pub waits_out : (e : ℕ) → turned_away settings before cause e ≡ true → (desk_of e before).phase ≡ Waiting
  waits_out e turned = waiting_is (desk_of e before).phase (and_parts (ends_with settings before s e) (is_waiting (desk_of e before).phase) (sym (exit.turned e) ∙ turned)).1

  pub exit_turns : Editors before → (e : ℕ) → turned_away settings before cause e ≡ true → is_begun (desk_of e later).phase ≡ false
  exit_turns absent e turned = exit_ends absent e (exit.out e ∙ ap₂ (λ a b. a && b) (and_parts (ends_with settings before s e) (is_waiting (desk_of e before).phase) (sym (exit.turned e) ∙ turned)).0 (ap is_begun (waits_out e turned)))

  -- and its `initialize` came
  pub exit_placed : (e : ℕ) → is_begun (desk_of e before).phase ≡ true → is_unplaced (desk_of e later).phase ≡ true → ⊥
  exit_placed e begun h = never (sym (sym (ap (λ (d : Desk). is_unplaced d.phase) (exit.desk e)) ∙ unplaced_outs e now (outs_of settings before cause) h) ∙ begun_not (desk_of e before).phase begun)
    where
      begun_not : (phase : Phase) → is_begun phase ≡ true → is_unplaced phase ≡ false
      begun_not Absent k = never (sym k)
      begun_not New k = never (sym k)
      begun_not Waiting k = refl
      begun_not Answered k = refl
      begun_not Running k = refl
      begun_not Down k = refl
      begun_not Closed k = never (sym k)
      begun_not Gone k = never (sym k)
