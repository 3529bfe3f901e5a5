-- Groups end, one after the other: the numbers of those that are ready.
use Rattle.std.proofs.Common.{◌≡◌, ℕ, ◌<◌, ◌^◌, Bool, true, false, List, [], ◌∷◌, ◌++◌, nat_eq, codes, if◌then◌else◌, refl, ap, sym, subst, ◌∙◌, append-nil, arith}
use Rattle.std.specs.Prelude.{Option, Some, None}
use Rattle.mux_history.specs.declared.out.Out.{Out}
use Rattle.mux_history.specs.declared.out.Out.TheVariants.{ToServer, EndServer}
use Rattle.rpc_message.specs.Message.{message_of}
use Rattle.rpc_message.specs.Texts.{request_text}
use Rattle.event_model.specs.declared.stage.Stage.{Stage}
use Rattle.event_model.specs.declared.stage.Stage.TheVariants.{Spawning, Initializing, Ready, Ended}
use Rattle.event_model.specs.Does.{Does}
use Rattle.event_model.specs.Event.{Event, behind, requests, said}
use Rattle.event_model.specs.Requests.{next_number}
use Rattle.event_model.specs.Row.{nothing, on, outs}
use Rattle.event_model.specs.Settings.{Settings}
use Rattle.event_model.specs.Spawns.{start_of}
use Rattle.event_model.specs.Stages.{Life, life_of, stage_ending, stage_told}
use Rattle.event_model.proofs.Turns.{behind_more}
use Rattle.group_facts.specs.mux_facts.proofs.Folds.{life_more, number_more}
use Rattle.group_facts.specs.Facts.{Numbered}
use Rattle.group_facts.proofs.GroupEnds.{shutdown_says}
use Rattle.group_facts.proofs.Numbers.{forwarding_other, number_other}
use Rattle.group_facts.proofs.TickRow.{ending_not, told_not}
use Rattle.group_facts.specs.group_rows.specs.Forwarded.{Forwarding, forwarding_of}
use Rattle.group_facts.specs.group_rows.proofs.Frames.{forwarding_more}
use Rattle.group_words.specs.Rows.{end_group, end_start}
use Rattle.mux_tables.specs.declared.tables.Tables.{Tables}
use Rattle.mux_tables.specs.Documents.{AllStand, Owed}
use Rattle.mux_tables.specs.Stands.{Stands, of_ids}
use Rattle.mux_turns.proofs.Ready.{has_start}

-- Groups end: a start that is still ready has one number by both counts

module _ (settings : Settings) (events : List Event) (k : Numbered settings events) where
  sent_numbered : (s : ℕ) (body : List ℕ) → requests (codes "shutdown") (message_of body) ≡ true → Numbered settings (events ++ said (ToServer s body) ∷ [])
  sent_numbered s body asks n ready = go (nat_eq s n) refl
    where
      stage_by : (b : Bool) → nat_eq s n ≡ b → (if b then record { stage = stage_told (life_of n events).stage (message_of body); started = (life_of n events).started } else life_of n events).stage ≡ Ready
      stage_by b same = sym (ap (λ (l : Life). l.stage) (life_more n events (said (ToServer s body)))
          ∙ ap (λ c. (if c then record { stage = stage_told (life_of n events).stage (message_of body); started = (life_of n events).started } else life_of n events).stage) same) ∙ ready

      go : (b : Bool) → nat_eq s n ≡ b → next_number n (events ++ said (ToServer s body) ∷ []) ≡ (forwarding_of settings n (events ++ said (ToServer s body) ∷ [])).next
      go true same = absurd (told_not (life_of n events).stage (message_of body) asks (stage_by true same))
      go false other = number_other settings events s body n other ∙ k n (stage_by false other) ∙ sym (ap (λ (f : Forwarding). f.next) (forwarding_other settings events s body n other))

  ended_numbered : (s : ℕ) → Numbered settings (events ++ said (EndServer s) ∷ [])
  ended_numbered s n ready = go (nat_eq s n) refl
    where
      stage_by : (b : Bool) → nat_eq s n ≡ b → (if b then record { stage = stage_ending (life_of n events).stage; started = (life_of n events).started } else life_of n events).stage ≡ Ready
      stage_by b same = sym (ap (λ (l : Life). l.stage) (life_more n events (said (EndServer s)))
          ∙ ap (λ c. (if c then record { stage = stage_ending (life_of n events).stage; started = (life_of n events).started } else life_of n events).stage) same) ∙ ready

      go : (b : Bool) → nat_eq s n ≡ b → next_number n (events ++ said (EndServer s) ∷ []) ≡ (forwarding_of settings n (events ++ said (EndServer s) ∷ [])).next
      go true same = absurd (ending_not (life_of n events).stage (stage_by true same))
      go false other = number_more n events (said (EndServer s)) ∙ k n (stage_by false other) ∙ sym (ap (λ (f : Forwarding). f.next) (forwarding_more settings n events (said (EndServer s))))

  start_numbered : (s : ℕ) (stage : Stage) → (stage ≡ Ready → next_number s events < 2 ^ 128) → Numbered settings (behind events (outs (end_start s stage) events))
  start_numbered s Ready low = sent_numbered s (request_text (next_number s events) (codes "shutdown") None) (ap (requests (codes "shutdown")) (shutdown_says (next_number s events) (low refl)))
  start_numbered s Spawning low = ended_numbered s
  start_numbered s Initializing low = ended_numbered s
  start_numbered s other low = subst (Numbered settings) (sym (append-nil events)) k

  pub group_numbered : (t : Tables) (g : ℕ) → Stands settings t events → Numbered settings (behind events (outs (end_group g) events))
  group_numbered t g st = go (start_of g events) refl
    where
      the : {v w : ℕ} → ◌≡◌ {A = Option ℕ} (Some v) (Some w) → v ≡ w
      the e = cc

      clash : Ready ≡ Ended → ⊥
      clash e = cc

      low : (s : ℕ) → start_of g events ≡ Some s → (life_of s events).stage ≡ Ready → next_number s events < 2 ^ 128
      low s at ready =
          let x = has_start settings t events g s st at (λ e. clash (sym ready ∙ e)) in
          let last = st.lasts.each x.place x.last x.at in
          let own : x.last.life.start ≡ s = the (sym last.start ∙ (ap (λ n. start_of n events) x.group ∙ at)) in
          let ids = last.parts of_ids in
          let next : next_number s events ≡ ((x.last).ids).next = k s ready ∙ (ap (λ n. (forwarding_of settings n events).next) (sym own) ∙ ids.next) in
          let within = (ids.order).within in
          let ends = ids.ends in
          let range = st.range in
          omega (arith, next, within, ends, range)

      go : (o : Option ℕ) → start_of g events ≡ o → Numbered settings (behind events (outs (on o nothing (λ s. end_start s (life_of s events).stage)) events))
      go None at = subst (Numbered settings) (sym (append-nil events)) k
      go (Some s) at = start_numbered s (life_of s events).stage (low s at)

-- the step of the loop
pub group_next : (settings : Settings) (owed : Owed) (t u : Tables) (base : List Event) (xs ys : List Out) (g : ℕ) → Numbered settings (behind base xs) → Does (λ k events. AllStand settings k events) (end_group g) base (t, owed) xs (u, owed) ys
    → AllStand settings (t, owed) (behind base xs) → Numbered settings (behind base ys)
group_next settings owed t u base xs ys g numbered d st =
    subst (Numbered settings) (sym (ap (behind base) (d.done st).outs ∙ behind_more base xs (outs (end_group g) (behind base xs)))) (group_numbered settings (behind base xs) numbered t g st.0)
