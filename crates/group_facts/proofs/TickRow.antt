-- X7: what ends by a tick. Each start that is still ready at its place was sent nothing in the entry, and each that was to stop before the entry still is.
use Rattle.std.proofs.Common.{◌≡◌, ℕ, max, Bool, true, false, ◌&&◌, cond, List, [], ◌∷◌, ◌++◌, ◌<◌, ◌^◌, filter, nat_eq, codes, if◌then◌else◌, Option, Some, None, refl, sym, ◌∙◌, ap, subst, append-nil}
use Rattle.std.specs.List.{AllByRecursion, range_with_len}
use Rattle.std.proofs.lemmas.Bool.{and_parts}
use Rattle.std.proofs.lemmas.List.Elements.{filter-append}
use Rattle.mux_history.specs.declared.cause.Cause.TheVariants.{Tick}
use Rattle.mux_history.specs.declared.out.Out.{Out}
use Rattle.mux_history.specs.declared.out.Out.TheVariants.{ToServer, EndServer}
use Rattle.rpc_message.specs.Message.{Message, message_of}
use Rattle.rpc_message.specs.Texts.{request_text}
use Rattle.event_model.specs.declared.stage.Stage.{Stage}
use Rattle.event_model.specs.declared.stage.Stage.TheVariants.{Spawning, Initializing, Ready, Stopping, Ended}
use Rattle.event_model.specs.Event.{Event, behind, heard, requests, said, with_cause}
use Rattle.event_model.specs.Parts.{server_part, is_of_server}
use Rattle.event_model.specs.Requests.{next_number}
use Rattle.event_model.specs.Row.{each, nothing, on, outs, send}
use Rattle.event_model.specs.Settings.{Settings}
use Rattle.event_model.specs.Spawns.{start_of, starts_of}
use Rattle.event_model.specs.Stages.{Life, is_ready, life_of, stage_ending, stage_told}
use Rattle.event_model.proofs.Frames.{never}
use Rattle.mux_model.specs.Rows.{below}
use Rattle.mux_facts.proofs.Folds.{life_more, number_more}
use Rattle.mux_facts.proofs.Keeps.{behind_both, behind_nothing}
use Rattle.mux_facts.proofs.Reasons.{Because, by_nothing, by_send, by_then, by_look, by_on}
use Rattle.mux_facts.proofs.Rising.{by_rising}
use Rattle.mux_facts.proofs.Words.{number_same}
use Rattle.group_words.specs.Houses.{groups_of, time_of}
use Rattle.group_words.specs.Placing.{is_due, is_since}
use Rattle.group_words.specs.Rows.{end_group, end_start}
use Rattle.group_words.proofs.Frames.{groups_more, groups_stay, touches_groups}
use Rattle.group_rows.proofs.Stops.{filter_both, range_below, stopping_is}
use Rattle.group_rows.specs.Ticks.{due_of, is_stopping, overdue_of, stop_of, tick_row}
use Rattle.group_facts.specs.Facts.{Bounded}
use Rattle.group_facts.specs.Lively.{lives_at}
use Rattle.group_facts.specs.Why.{Why, is_starting, stopped}
use Rattle.group_facts.proofs.GroupEnds.{Untouched, low, shutdown_says, start_ends}
use Rattle.group_facts.proofs.LiveGroups.{over_ended}
use Rattle.group_facts.proofs.Numbers.{number_other}

-- behind `shutdown`, or its end, a start isn't ready
pub told_not : (stage : Stage) (m : Message) → requests (codes "shutdown") m ≡ true → stage_told stage m ≡ Ready → ⊥
told_not Ready m asks h = never (sym (ap is_ready h) ∙ ap (λ b. is_ready (if b then Stopping else Ready)) asks)
told_not other m asks h = never (sym (ap is_ready h))

pub ending_not : (stage : Stage) → stage_ending stage ≡ Ready → ⊥
ending_not Ended h = never (sym (ap is_ready h))
ending_not other h = never (sym (ap is_ready h))

module _ (settings : Settings) (range : settings.limits.requests < 2 ^ 32) (before : List Event) (bounded : Bounded settings before) (t : ℕ) where
  abbrev now : List Event
  now = with_cause before (Tick t)

  abbrev R : List Event → Out → Type 0
  R events out = Why settings before (Tick t) events out

  abbrev Clean : List Event → ℕ → Type 0
  Clean events s = Untouched settings range before (Tick t) (λ n. refl) bounded events s

  -- what is known of a start at a place of the entry
  record Standing (events : List Event) (s : ℕ) : Type 0 where
    untouched : (life_of s events).stage ≡ Ready → Clean events s
    stopping : (life_of s before).stage ≡ Stopping → (life_of s events).stage ≡ Stopping

  record Calm (events : List Event) : Type 0 where
    groups : groups_of settings events ≡ groups_of settings now
    starts : (s : ℕ) → Standing events s

  calm_now : Calm now
  calm_now = record {
    groups = refl;
    starts = λ s. record {
      untouched = λ ready. record {
        stood = sym (ap (λ (l : Life). l.stage) (life_more s before (heard (Tick t)))) ∙ ready;
        number = number_more s before (heard (Tick t));
        part = filter-append (is_of_server s) before (heard (Tick t) ∷ []) ∙ append-nil (server_part s before);
      };
      stopping = λ was. ap (λ (l : Life). l.stage) (life_more s before (heard (Tick t))) ∙ was;
    };
  }

  -- An out further

  calm_said : (events : List Event) (out : Out) → touches_groups (said out) ≡ false → ((s : ℕ) → Standing events s → Standing (events ++ said out ∷ []) s) → Calm events → Calm (events ++ said out ∷ [])
  calm_said events out quiet f k = record { groups = groups_stay settings events (said out) quiet ∙ k.groups; starts = λ s. f s (k.starts s) }

  -- of another start
  part_apart : (events : List Event) (out : Out) (s : ℕ) → is_of_server s (said out) ≡ false → server_part s (events ++ said out ∷ []) ≡ server_part s events
  part_apart events out s other = filter-append (is_of_server s) events (said out ∷ []) ∙ ap (λ b. server_part s events ++ cond b (said out ∷ []) []) other ∙ append-nil (server_part s events)

  standing_apart : (events : List Event) (out : Out) (s : ℕ) → (life_of s (events ++ said out ∷ [])).stage ≡ (life_of s events).stage → next_number s (events ++ said out ∷ []) ≡ next_number s events → is_of_server s (said out) ≡ false → Standing events s → Standing (events ++ said out ∷ []) s
  standing_apart events out s stage number other k = record {
    untouched = λ ready. let c : Clean events s = k.untouched (sym stage ∙ ready) in record { stood = c.stood; number = number ∙ c.number; part = part_apart events out s other ∙ c.part };
    stopping = λ was. stage ∙ k.stopping was;
  }

  sent_standing : (events : List Event) (n : ℕ) (body : List ℕ) → requests (codes "shutdown") (message_of body) ≡ true → (s : ℕ) → Standing events s → Standing (events ++ said (ToServer n body) ∷ []) s
  sent_standing events n body asks s k = go (nat_eq n s) refl
    where
      stage_by : (b : Bool) → nat_eq n s ≡ b → (life_of s (events ++ said (ToServer n body) ∷ [])).stage ≡ (if b then record { stage = stage_told (life_of s events).stage (message_of body); started = (life_of s events).started } else life_of s events).stage
      stage_by b same = ap (λ (l : Life). l.stage) (life_more s events (said (ToServer n body)))
          ∙ ap (λ c. (if c then record { stage = stage_told (life_of s events).stage (message_of body); started = (life_of s events).started } else life_of s events).stage) same

      go : (b : Bool) → nat_eq n s ≡ b → Standing (events ++ said (ToServer n body) ∷ []) s
      go true same = record {
        untouched = λ ready. absurd (told_not (life_of s events).stage (message_of body) asks (sym (stage_by true same) ∙ ready));
        stopping = λ was. stage_by true same ∙ ap (λ z. stage_told z (message_of body)) (k.stopping was);
      }
      go false other = standing_apart events (ToServer n body) s (stage_by false other) (number_other settings events n body s other) other k

  ended_standing : (events : List Event) (n : ℕ) → is_starting (life_of n events).stage ≡ true → (s : ℕ) → Standing events s → Standing (events ++ said (EndServer n) ∷ []) s
  ended_standing events n starts s k = go (nat_eq n s) refl
    where
      stage_by : (b : Bool) → nat_eq n s ≡ b → (life_of s (events ++ said (EndServer n) ∷ [])).stage ≡ (if b then record { stage = stage_ending (life_of s events).stage; started = (life_of s events).started } else life_of s events).stage
      stage_by b same = ap (λ (l : Life). l.stage) (life_more s events (said (EndServer n)))
          ∙ ap (λ c. (if c then record { stage = stage_ending (life_of s events).stage; started = (life_of s events).started } else life_of s events).stage) same

      go : (b : Bool) → nat_eq n s ≡ b → Standing (events ++ said (EndServer n) ∷ []) s
      go true same = record {
        untouched = λ ready. absurd (ending_not (life_of s events).stage (sym (stage_by true same) ∙ ready));
        stopping = λ was. never (sym (ap (λ z. is_starting (life_of z events).stage) (sym (number_same n s same)) ∙ starts) ∙ ap is_starting (k.stopping was));
      }
      go false other = standing_apart events (EndServer n) s (stage_by false other) (number_more s events (said (EndServer n))) other k

  -- Groups end

  start_calm : (s : ℕ) (stage : Stage) (events : List Event) → (life_of s events).stage ≡ stage → Calm events → Calm (behind events (outs (end_start s stage) events))
  start_calm s Ready events at k = calm_said events (ToServer s (request_text (next_number s events) (codes "shutdown") None)) refl
      (sent_standing events s (request_text (next_number s events) (codes "shutdown") None)
      (ap (requests (codes "shutdown")) (shutdown_says (next_number s events) (low settings range before (Tick t) (λ n. refl) bounded events s ((k.starts s).untouched at))))) k
  start_calm s Spawning events at k = calm_said events (EndServer s) refl (ended_standing events s (ap is_starting at)) k
  start_calm s Initializing events at k = calm_said events (EndServer s) refl (ended_standing events s (ap is_starting at)) k
  start_calm s other events at k = subst Calm (sym (behind_nothing events)) k

  group_calm : (g : ℕ) (events : List Event) → Calm events → Calm (behind events (outs (end_group g) events))
  group_calm g events k = go (start_of g events)
    where
      go : (o : Option ℕ) → Calm (behind events (outs (on o nothing (λ s. end_start s (life_of s events).stage)) events))
      go None = subst Calm (sym (behind_nothing events)) k
      go (Some s) = start_calm s (life_of s events).stage events refl k

  group_why : (g : ℕ) (events : List Event) → lives_at g (groups_of settings now) ≡ false → Calm events → Because R events (end_group g)
  group_why g events over k = by_look (by_on (λ none. by_nothing) (λ s start. start_ends settings range before (Tick t) (λ n. refl) bounded events s (life_of s events).stage
      (record { group = g; last = start; over = ap (lives_at g) k.groups ∙ over }) refl ((k.starts s).untouched)))

  record End (gs : List ℕ) (events : List Event) : Type 0 where
    why : Because R events (each end_group gs)
    calm : Calm (behind events (outs (each end_group gs) events))

  groups_end : (gs : List ℕ) (events : List Event) → AllByRecursion (λ g. lives_at g (groups_of settings now) ≡ false) gs → Calm events → End gs events
  groups_end [] events over k = record { why = by_nothing; calm = subst Calm (sym (behind_nothing events)) k }
  groups_end (g ∷ gs) events over k = let rest : End gs (behind events (outs (end_group g) events)) = groups_end gs (behind events (outs (end_group g) events)) over.1 (group_calm g events k) in record {
    why = by_then (group_why g events over.0 k) rest.why;
    calm = subst Calm (sym (behind_both events (outs (end_group g) events) (outs (each end_group gs) (behind events (outs (end_group g) events))))) rest.calm;
  }

  all_over : AllByRecursion (λ g. lives_at g (groups_of settings now) ≡ false) (due_of settings before t)
  all_over = subst (λ z. AllByRecursion (λ g. lives_at g z ≡ false) (due_of settings before t)) (sym (groups_more settings before (heard (Tick t)))) (over_ended (is_due settings.limits.idle (max (time_of before) t)) (groups_of settings before))

  -- Programs end

  abbrev is_late : ℕ → Bool
  is_late s = is_stopping (life_of s before).stage && is_since settings.limits.grace (max (time_of before) t) (stop_of s before)

  late_ones : overdue_of settings before t ≡ filter is_late (below (starts_of before))
  late_ones = filter_both (λ s. is_since settings.limits.grace (max (time_of before) t) (stop_of s before)) (λ s. is_stopping (life_of s before).stage) (range_with_len 0 (starts_of before)) ∙ ap (filter is_late) (range_below (starts_of before))

  -- each of them is still to stop at its place
  programs_by : (P : List Event → Out → Type 0) → ((s : ℕ) (places : List Event) → (life_of s places).stage ≡ Stopping → P places (EndServer s)) → (events : List Event) → Calm events
      → Because P events (each (λ s. send (EndServer s)) (overdue_of settings before t))
  programs_by P why events k = subst (λ z. Because P events (each (λ s. send (EndServer s)) z)) (sym late_ones)
      (by_rising (λ s. send (EndServer s)) (λ s places. (life_of s places).stage ≡ Stopping) (λ n places at. by_send (why n places at))
      (λ n s places other at. ap (λ (l : Life). l.stage) (life_more s places (said (EndServer n)))
      ∙ ap (λ b. (if b then record { stage = stage_ending (life_of s places).stage; started = (life_of s places).started } else life_of s places).stage) other ∙ at)
      events is_late (λ s late. (k.starts s).stopping (stopping_is (life_of s before).stage (and_parts (is_stopping (life_of s before).stage) (is_since settings.limits.grace (max (time_of before) t) (stop_of s before)) late).0)) (starts_of before))

  ends : End (due_of settings before t) now
  ends = groups_end (due_of settings before t) now all_over calm_now

  pub tick_why : Because R now (tick_row settings before t)
  tick_why = by_then ends.why (programs_by R (λ s places at. stopped at) (behind now (outs (each end_group (due_of settings before t)) now)) ends.calm)

  -- behind the groups' ends
  pub programs_stop : (P : List Event → Out → Type 0) → ((s : ℕ) (places : List Event) → (life_of s places).stage ≡ Stopping → P places (EndServer s))
      → Because P (behind now (outs (each end_group (due_of settings before t)) now)) (each (λ s. send (EndServer s)) (overdue_of settings before t))
  programs_stop P why = programs_by P why (behind now (outs (each end_group (due_of settings before t)) now)) ends.calm
