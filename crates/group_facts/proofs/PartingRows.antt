-- E3, E9 and X5: an editor whose link ends or is to be ended, or that sends `shutdown`, leaves.
use Rattle.std.specs.List.{AllByRecursion}
use Rattle.std.proofs.Common.{◌≡◌, ℕ, Bool, true, false, ◌&&◌, ◌||◌, List, [], ◌∷◌, ◌++◌, nat_eq, codes, refl, ◌∙◌, ap, ap₂, Option, sym, subst, append-nil, None, Some}
use Rattle.json_text.specs.declared.kind.Word.TheVariants.{Null}
use Rattle.json_text.specs.Json.{Json, word}
use Rattle.mux_history.specs.declared.cause.Cause.TheVariants.{EditorGone, FromEditor}
use Rattle.mux_history.specs.declared.cause.Why as link
use Rattle.mux_history.specs.declared.out.Out.{Out}
use Rattle.mux_history.specs.declared.out.Out.TheVariants.{CloseEditor, ToEditor}
use Rattle.rpc_message.specs.Message.{request, Id, id_bytes, message_of}
use Rattle.rpc_message.specs.ValueTexts.{IsIdText}
use Rattle.rpc_message.specs.Texts.{ok_text}
use Rattle.event_model.specs.declared.phase.Phase.{Phase}
use Rattle.event_model.specs.Event.{Event, heard, said, with_cause, behind}
use Rattle.event_model.specs.Phases.{Desk, desk_of, is_there}
use Rattle.event_model.specs.Requests.{is_open, open_of}
use Rattle.event_model.specs.Row.{nothing, on, outs, send, ◌⨾◌}
use Rattle.event_model.specs.Settings.{Settings}
use Rattle.event_model.specs.Stages.{Life, life_of}
use Rattle.mux_model.specs.Documents.{Sent, held_at}
use Rattle.mux_facts.specs.Ranges.{InRange}
use Rattle.mux_facts.proofs.Folds.{desk_more, life_more}
use Rattle.mux_facts.proofs.Reasons.{Because, by_choose, by_nothing, by_send, by_then, by_on}
use Rattle.mux_facts.proofs.Table.{late_taken, open_taken, there_taken}
use Rattle.mux_facts.proofs.Waits.{late_not}
use Rattle.mux_facts.proofs.Tellings.{sent_more}
use Rattle.mux_facts.proofs.Why.{is_early}
use Rattle.mux_facts.proofs.Words.{same_number}
use Rattle.group_rows.specs.Forwarded.{Forwarding, forwarding_of, Forwarded}
use Rattle.group_rows.specs.Leaves.{leave_row}
use Rattle.group_rows.specs.Rows.{closing_row, gone_row, shutdown_row}
use Rattle.group_facts.specs.Facts.{AllHeld, Asks, Bounded, asked_by, IsAlone, Opened, is_parting, is_put_out, turned_away}
use Rattle.group_facts.specs.Why.{Why, answers, IsUnheld}
use Rattle.group_facts.proofs.Apart.{asks_fewer}
use Rattle.group_rows.specs.Waiting.{refuse_held}
use Rattle.group_rows.proofs.Frames.{forwarding_more}
use Rattle.group_facts.proofs.Forwards.{alone_fewer}
use Rattle.group_facts.proofs.Asks.{asked_by_more}
use Rattle.group_facts.proofs.Askers.{late_said}
use Rattle.group_facts.proofs.Held.{open_refused, refuse_held_why, there_told}
use Rattle.group_facts.proofs.HeldOuts.{kept_refused}
use Rattle.group_facts.proofs.LeaveRows.{leave_why}
use Rattle.group_facts.proofs.Nulls.{null_said}
use Rattle.group_words.specs.Houses.{home_of}

pub or_second : (a b : Bool) → b ≡ true → (a || b) ≡ true
or_second true b h = refl
or_second false b h = h

-- X5

pub gone_why : (settings : Settings) → InRange settings → (before : List Event) → Opened settings before → Bounded settings before → Asks settings before → (e : ℕ) (why : link.Why) (phase : Phase)
    → Because (Why settings before (EditorGone e why)) (with_cause before (EditorGone e why)) (gone_row settings before e phase)
gone_why settings range before opened bounded asks e why phase = by_choose
    (λ served. leave_why settings range before (EditorGone e why) opened bounded (with_cause before (EditorGone e why)) (λ s. refl) (λ s. ap (λ (l : Life). l.stage) (life_more s before (heard (EditorGone e why))))
    (λ s u. ap (λ (x : Sent). x.held) (sent_more s u before (heard (EditorGone e why)))) (λ s. ap (λ (x : Forwarding). x.open_requests) (forwarding_more settings s before (heard (EditorGone e why)))) asks (λ s. asked_by_more s before (heard (EditorGone e why))) e)
    (λ off. by_nothing)

module _ (settings : Settings) (range : InRange settings) (before : List Event) (opened : Opened settings before) (bounded : Bounded settings before) (asks : Asks settings before) (e : ℕ) (body : List ℕ) where
  abbrev asked : List Event
  asked = with_cause before (FromEditor e body)

  abbrev R : List Event → Out → Type 0
  R events out = Why settings before (FromEditor e body) events out

  module _ (out : Out) (stage : (s : ℕ) → (life_of s (asked ++ said out ∷ [])).stage ≡ (life_of s asked).stage) (held : (s : ℕ) (u : List ℕ) → held_at s u (asked ++ said out ∷ []) ≡ held_at s u asked) where
    stage_still : (s : ℕ) → (life_of s (asked ++ said out ∷ [])).stage ≡ (life_of s before).stage
    stage_still s = stage s ∙ ap (λ (l : Life). l.stage) (life_more s before (heard (FromEditor e body)))

    held_still : (s : ℕ) (u : List ℕ) → held_at s u (asked ++ said out ∷ []) ≡ held_at s u before
    held_still s u = held s u ∙ ap (λ (x : Sent). x.held) (sent_more s u before (heard (FromEditor e body)))

  open_still : (out : Out) → ((s : ℕ) → forwarding_of settings s (asked ++ said out ∷ []) ≡ forwarding_of settings s asked) → (s : ℕ) → (forwarding_of settings s (asked ++ said out ∷ [])).open_requests ≡ (forwarding_of settings s before).open_requests
  open_still out same s = ap (λ (x : Forwarding). x.open_requests) (same s) ∙ ap (λ (x : Forwarding). x.open_requests) (forwarding_more settings s before (heard (FromEditor e body)))

  -- E3 and E9: its own message ends its link
  pub closing_why : is_there (desk_of e before).phase ≡ true → is_parting before e (message_of body) ≡ true → Because R asked (closing_row settings before e)
  closing_why there parts = by_then (by_send (
    or_second (turned_away settings before (FromEditor e body) e) ((nat_eq e e && is_parting before e (message_of body)) || is_put_out settings before (FromEditor e body) e)
        (ap (λ b. b || is_put_out settings before (FromEditor e body) e) (ap₂ (λ a b. a && b) (same_number e) parts)),
    there_taken settings before e body there,
  ))
      (leave_why settings range before (FromEditor e body) opened bounded (asked ++ said (CloseEditor e) ∷ []) (λ s. refl)
      (stage_still (CloseEditor e) (λ s. ap (λ (l : Life). l.stage) (life_more s asked (said (CloseEditor e)))) (λ s u. ap (λ (x : Sent). x.held) (sent_more s u asked (said (CloseEditor e)))))
      (held_still (CloseEditor e) (λ s. ap (λ (l : Life). l.stage) (life_more s asked (said (CloseEditor e)))) (λ s u. ap (λ (x : Sent). x.held) (sent_more s u asked (said (CloseEditor e)))))
      (open_still (CloseEditor e) (λ s. forwarding_more settings s asked (said (CloseEditor e)))) asks (λ s. asked_by_more s asked (said (CloseEditor e)) ∙ asked_by_more s before (heard (FromEditor e body))) e)

  -- E9: `shutdown`
  module _ (id : Id) (method : List ℕ) (params : Option Json) (says : message_of body ≡ request id method params) where
    abbrev text : List ℕ
    text = ok_text (id_bytes body) (codes "null")

    -- what refusals of what waits leave
    record Kept (events : List Event) : Type 0 where
      life : (s : ℕ) → life_of s events ≡ life_of s asked
      docs : (s : ℕ) (u : List ℕ) → held_at s u events ≡ held_at s u asked
      forwarding : (s : ℕ) → forwarding_of settings s events ≡ forwarding_of settings s asked
      questions : (s : ℕ) → asked_by s events ≡ asked_by s asked
      there : is_there (desk_of e events).phase ≡ true
      late : is_early (desk_of e events).phase ≡ false

    kept_told : (events : List Event) (w : List ℕ) → Kept events → Kept (events ++ said (ToEditor e w) ∷ [])
    kept_told events w h = record {
      life = λ s. life_more s events (said (ToEditor e w)) ∙ h.life s;
      docs = λ s u. ap (λ (x : Sent). x.held) (sent_more s u events (said (ToEditor e w))) ∙ h.docs s u;
      forwarding = λ s. forwarding_more settings s events (said (ToEditor e w)) ∙ h.forwarding s;
      questions = λ s. asked_by_more s events (said (ToEditor e w)) ∙ h.questions s;
      there = there_told e e events w h.there;
      late = ap (λ (d : Desk). is_early d.phase) (desk_more e events (said (ToEditor e w))) ∙ late_said events e h.late (ToEditor e w);
    }

    module _ (there : is_there (desk_of e before).phase ≡ true) (late : is_early (desk_of e before).phase ≡ false) (lonely : IsAlone settings before e id) (held : AllHeld settings asked) (unheld : IsUnheld settings asked e id) where
      kept_now : Kept asked
      kept_now = record { life = λ s. refl; docs = λ s u. refl; forwarding = λ s. refl; questions = λ s. refl; there = there_taken settings before e body there; late = late_taken before e body late }

      -- the answer, and the leave
      rest : (place : List Event) → Kept place → is_open id (open_of e place) ≡ true → Because R place (send (ToEditor e text) ⨾ leave_row settings before e)
      rest place k waits = by_then
          (by_send (answers (record {
            id = id;
            r = word (record { from = 0; to = 0 }) Null;
            there = k.there;
            others = λ at. absurd (late_not (desk_of e place).phase k.late at);
            waits = waits;
            alone = λ t. subst (λ (x : Forwarding). AllByRecursion (λ (f : Forwarded). f.editor ≡ e → IsIdText id f.id → ⊥) x.open_requests) (sym (k.forwarding t)) (alone_fewer settings before asked (asks_fewer settings before e body) e id lonely t);
            says = null_said body id method params says;
          })))
          (leave_why settings range before (FromEditor e body) opened bounded (place ++ said (ToEditor e text) ∷ []) (λ s. refl)
          (λ s. ap (λ (l : Life). l.stage) (life_more s place (said (ToEditor e text)) ∙ k.life s ∙ life_more s before (heard (FromEditor e body))))
          (λ s u. ap (λ (x : Sent). x.held) (sent_more s u place (said (ToEditor e text))) ∙ k.docs s u ∙ ap (λ (x : Sent). x.held) (sent_more s u before (heard (FromEditor e body))))
          (λ s. ap (λ (x : Forwarding). x.open_requests) (forwarding_more settings s place (said (ToEditor e text)) ∙ k.forwarding s ∙ forwarding_more settings s before (heard (FromEditor e body)))) asks
          (λ s. asked_by_more s place (said (ToEditor e text)) ∙ k.questions s ∙ asked_by_more s before (heard (FromEditor e body))) e)

      open_now : is_open id (open_of e asked) ≡ true
      open_now = open_taken before e body id method params says

      pub shutdown_why : Because R asked (shutdown_row settings before e body)
      shutdown_why = by_then (by_on (λ none. by_nothing) (λ g home. refuse_held_why settings before (FromEditor e body) g e asked held)) (go (home_of settings e before))
        where
          go : (o : Option ℕ) → Because R (behind asked (outs (on o nothing (λ g. refuse_held settings g e)) asked)) (send (ToEditor e text) ⨾ leave_row settings before e)
          go None = rest (behind asked []) (subst Kept (sym (append-nil asked)) kept_now) (ap (λ z. is_open id (open_of e z)) (append-nil asked) ∙ open_now)
          go (Some g) = rest (behind asked (outs (refuse_held settings g e) asked)) (kept_refused settings e Kept kept_told g asked kept_now) (open_refused settings g e asked id held unheld open_now)
