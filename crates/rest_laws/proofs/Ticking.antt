-- What a ready start is told as groups end: nothing of a document.
use Rattle.std.proofs.Common.{◌≡◌, ℕ, ◌+◌, ◌≤◌, ◌<◌, ◌^◌, Bool, true, false, List, [], ◌∷◌, ◌++◌, nat_eq, codes, if◌then◌else◌, Option, None, Some, refl, sym, ◌∙◌, ap, subst, arith}
use Rattle.mux_history.specs.declared.cause.Cause.{Cause}
use Rattle.mux_history.specs.declared.out.Out.{Out}
use Rattle.mux_history.specs.declared.out.Out.TheVariants.{ToServer, EndServer}
use Rattle.document_model.specs.Sayings.{saying_of}
use Rattle.rpc_message.specs.Message.{message_of}
use Rattle.rpc_message.specs.Texts.{request_text}
use Rattle.event_model.specs.declared.stage.Stage.{Stage}
use Rattle.event_model.specs.declared.stage.Stage.TheVariants.{Unspawned, Spawning, Initializing, Ready, Stopping, Ending, Ended}
use Rattle.event_model.specs.Event.{Event, behind, said, with_cause, requests}
use Rattle.event_model.specs.Requests.{next_number}
use Rattle.event_model.specs.Row.{each, nothing, on, outs, send}
use Rattle.event_model.specs.Settings.{Settings}
use Rattle.event_model.specs.Spawns.{start_of}
use Rattle.event_model.specs.Stages.{Life, is_ready, life_of, stage_ending, stage_told}
use Rattle.mux_facts.proofs.DocumentRow.{ready_is}
use Rattle.mux_facts.proofs.Folds.{life_more, number_more}
use Rattle.mux_facts.proofs.Keeps.{behind_nothing}
use Rattle.mux_facts.proofs.Reasons.{Because, by_nothing, by_send, by_then, by_look}
use Rattle.mux_facts.proofs.Words.{number_same}
use Rattle.group_words.specs.Rows.{end_group, end_start}
use Rattle.group_rows.specs.Forwarded.{forwarding_of}
use Rattle.group_rows.specs.Ticks.{due_of, overdue_of, tick_row}
use Rattle.group_facts.specs.Facts.{Bounded, is_up}
use Rattle.group_facts.proofs.GroupEnds.{shutdown_says}
use Rattle.group_facts.proofs.Numbers.{number_other}
use Rattle.group_facts.proofs.TickRow.{ending_not, told_not}
use Rattle.rest_laws.specs.Silent.{IsSilent}

module _ (settings : Settings) (requests_fit : settings.limits.requests < 2 ^ 32) (t : ℕ) where
  abbrev Quiet : List Event → Out → Type 0
  Quiet places out = IsSilent t out

  -- as long as it is ready its next request has a small number
  abbrev pub Small : List Event → Type 0
  Small events = (life_of t events).stage ≡ Ready → next_number t events < 2 ^ 128

  record Kept (events later : List Event) : Type 0 where
    stage : (life_of t later).stage ≡ Ready → (life_of t events).stage ≡ Ready
    number : (life_of t later).stage ≡ Ready → next_number t later ≡ next_number t events

  small_kept : (events later : List Event) → Kept events later → Small events → Small later
  small_kept events later k small ready = subst (λ n. n < 2 ^ 128) (sym (k.number ready)) (small (k.stage ready))

  sent_kept : (events : List Event) (s n : ℕ) → (s ≡ t → n < 2 ^ 128) → Kept events (events ++ said (ToServer s (request_text n (codes "shutdown") None)) ∷ [])
  sent_kept events s n low = go (nat_eq s t) refl
    where
      text : List ℕ
      text = request_text n (codes "shutdown") None

      stage_by : (b : Bool) → nat_eq s t ≡ b → (life_of t (events ++ said (ToServer s text) ∷ [])).stage ≡ (if b then record { stage = stage_told (life_of t events).stage (message_of text); started = (life_of t events).started } else life_of t events).stage
      stage_by b same = ap (λ (l : Life). l.stage) (life_more t events (said (ToServer s text)))
          ∙ ap (λ c. (if c then record { stage = stage_told (life_of t events).stage (message_of text); started = (life_of t events).started } else life_of t events).stage) same

      not_ready : nat_eq s t ≡ true → (life_of t (events ++ said (ToServer s text) ∷ [])).stage ≡ Ready → ⊥
      not_ready same ready = told_not (life_of t events).stage (message_of text) (ap (requests (codes "shutdown")) (shutdown_says n (low (number_same s t same)))) (sym (stage_by true same) ∙ ready)

      go : (b : Bool) → nat_eq s t ≡ b → Kept events (events ++ said (ToServer s text) ∷ [])
      go true same = record { stage = λ ready. absurd (not_ready same ready); number = λ ready. absurd (not_ready same ready) }
      go false other = record { stage = λ ready. sym (stage_by false other) ∙ ready; number = λ ready. number_other settings events s text t other }

  ended_kept : (events : List Event) (s : ℕ) → Kept events (events ++ said (EndServer s) ∷ [])
  ended_kept events s = go (nat_eq s t) refl
    where
      stage_by : (b : Bool) → nat_eq s t ≡ b → (life_of t (events ++ said (EndServer s) ∷ [])).stage ≡ (if b then record { stage = stage_ending (life_of t events).stage; started = (life_of t events).started } else life_of t events).stage
      stage_by b same = ap (λ (l : Life). l.stage) (life_more t events (said (EndServer s)))
          ∙ ap (λ c. (if c then record { stage = stage_ending (life_of t events).stage; started = (life_of t events).started } else life_of t events).stage) same

      go : (b : Bool) → nat_eq s t ≡ b → Kept events (events ++ said (EndServer s) ∷ [])
      go true same = record { stage = λ ready. absurd (ending_not (life_of t events).stage (sym (stage_by true same) ∙ ready)); number = λ ready. number_more t events (said (EndServer s)) }
      go false other = record { stage = λ ready. sym (stage_by false other) ∙ ready; number = λ ready. number_more t events (said (EndServer s)) }

  pub record Ends (row : Rattle.event_model.specs.Row.Row) (events : List Event) : Type 0 where
    pub why : Because Quiet events row
    small : Small (behind events (outs row events))

  low : (events : List Event) → Small events → (s : ℕ) → (life_of s events).stage ≡ Ready → s ≡ t → next_number s events < 2 ^ 128
  low events small s ready same = subst (λ n. next_number n events < 2 ^ 128) (sym same) (small (ap (λ n. (life_of n events).stage) (sym same) ∙ ready))

  start_ends : (s : ℕ) (stage : Stage) (events : List Event) → (life_of s events).stage ≡ stage → Small events → Ends (end_start s stage) events
  start_ends s Ready events at small = record {
    why = by_look (by_send (λ same. ap saying_of (shutdown_says (next_number s events) (low events small s at same))));
    small = small_kept events _ (sent_kept events s (next_number s events) (low events small s at)) small;
  }
  start_ends s Spawning events at small = record { why = by_send tt; small = small_kept events _ (ended_kept events s) small }
  start_ends s Initializing events at small = record { why = by_send tt; small = small_kept events _ (ended_kept events s) small }
  start_ends s Unspawned events at small = record { why = by_nothing; small = subst Small (sym (behind_nothing events)) small }
  start_ends s Stopping events at small = record { why = by_nothing; small = subst Small (sym (behind_nothing events)) small }
  start_ends s Ending events at small = record { why = by_nothing; small = subst Small (sym (behind_nothing events)) small }
  start_ends s Ended events at small = record { why = by_nothing; small = subst Small (sym (behind_nothing events)) small }

  pub group_ends : (g : ℕ) (events : List Event) → Small events → Ends (end_group g) events
  group_ends g events small = let last : Ends (on (start_of g events) nothing (λ s. end_start s (life_of s events).stage)) events = go (start_of g events) in record { why = by_look last.why; small = last.small }
    where
      go : (o : Option ℕ) → Ends (on o nothing (λ s. end_start s (life_of s events).stage)) events
      go None = record { why = by_nothing; small = subst Small (sym (behind_nothing events)) small }
      go (Some s) = start_ends s (life_of s events).stage events refl small

  groups_end : (gs : List ℕ) (events : List Event) → Small events → Because Quiet events (each end_group gs)
  groups_end [] events small = by_nothing
  groups_end (g ∷ gs) events small = let first : Ends (end_group g) events = group_ends g events small in by_then first.why (groups_end gs (behind events (outs (end_group g) events)) first.small)

  programs_end : (ss : List ℕ) (events : List Event) → Because Quiet events (each (λ s. send (EndServer s)) ss)
  programs_end [] events = by_nothing
  programs_end (s ∷ ss) events = by_then (by_send tt) (programs_end ss (behind events (EndServer s ∷ [])))

  -- X7
  pub quiet_tick : (before : List Event) (time : ℕ) (events : List Event) → Small events → Because Quiet events (tick_row settings before time)
  quiet_tick before time events small = by_then (groups_end (due_of settings before time) events small) (programs_end (overdue_of settings before time) _)

  -- where it was ready before the entry
  pub small_first : (before : List Event) → Bounded settings before → (cause : Cause) → life_of t (with_cause before cause) ≡ life_of t before → next_number t (with_cause before cause) ≡ next_number t before → is_ready (life_of t before).stage ≡ true → Small (with_cause before cause)
  small_first before bounded cause life number ready at =
      let b = bounded t (ap is_up (ready_is (life_of t before).stage ready)) in
      let first : next_number t before ≤ (forwarding_of settings t before).next = b.0 in
      let second : (forwarding_of settings t before).next ≤ settings.limits.requests + 2 = b.1 in
      omega (arith, number, first, second, requests_fit)
