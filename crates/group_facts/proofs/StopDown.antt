-- E6: each group that lives ends by a stop, so behind its row no start is ready, nor is one later.
use Rattle.std.proofs.Common.{◌≡◌, ℕ, ◌+◌, ◌<◌, ◌≤◌, ◌^◌, Bool, true, false, List, [], ◌∷◌, ◌++◌, map, nat_eq, codes, if◌then◌else◌, Some, refl, sym, ◌∙◌, ap, subst, append-nil, append_assoc, arith}
use Rattle.std.specs.List.{AllByRecursion}
use Rattle.mux_history.specs.declared.cause.Cause.TheVariants.{FromEditor}
use Rattle.mux_history.specs.declared.out.Out.{Out}
use Rattle.mux_history.specs.declared.out.Out.TheVariants.{ToEditor, ToServer, Spawn, CloseEditor, EndServer}
use Rattle.rpc_message.specs.Message.{Message, id_bytes, message_of}
use Rattle.rpc_message.specs.Texts.{ok_text}
use Rattle.event_model.specs.declared.stage.Stage.{Stage}
use Rattle.event_model.specs.declared.stage.Stage.TheVariants.{Ready}
use Rattle.event_model.specs.Event.{Event, behind, heard, said, with_cause}
use Rattle.event_model.specs.Requests.{next_number}
use Rattle.event_model.specs.Row.{each, outs}
use Rattle.event_model.specs.Settings.{Settings}
use Rattle.event_model.specs.Spawns.{start_of}
use Rattle.event_model.specs.Stages.{Life, life_of, stage_ending, stage_told}
use Rattle.event_model.proofs.Frames.{never}
use Rattle.mux_facts.specs.Ranges.{InRange}
use Rattle.mux_facts.proofs.Folds.{life_more, number_more}
use Rattle.mux_facts.proofs.Keeps.{behind_both}
use Rattle.mux_facts.proofs.Reasons.{reasons_keep}
use Rattle.group_words.specs.Houses.{groups_of, stops}
use Rattle.group_words.specs.Placing.{all_from, is_live}
use Rattle.group_words.specs.Rows.{end_group}
use Rattle.group_rows.specs.Forwarded.{forwarding_of}
use Rattle.group_rows.specs.StopRows.{close_each, refuse_open, stop_row, stopped, there_in}
use Rattle.group_facts.specs.Facts.{Bounded, Known, is_up}
use Rattle.group_facts.specs.Lively.{lives_at}
use Rattle.group_facts.specs.Settled.{IsServing, Settled}
use Rattle.group_facts.proofs.Begun.{NoSpawn, start_did, start_took}
use Rattle.group_facts.proofs.Ceased.{IsOff, Low, groups_off, groups_quiet, is_spawned, ready_spawned}
use Rattle.group_facts.proofs.LiveGroups.{all_at}
use Rattle.group_facts.proofs.StopEnds.{IsOnLink, over_all}
use Rattle.group_facts.proofs.StopWhy.{IsBody, bodies_refused, body_linked, links_closed}
use Rattle.group_facts.proofs.TickRow.{ending_not}

-- The numbers of starts that are ready

pub bounded_low : (settings : Settings) → InRange settings → (events : List Event) → Bounded settings events → Low events
bounded_low settings range events bounded g s at ready =
    let b = bounded s (ap is_up ready) in
    let first : next_number s events ≤ (forwarding_of settings s events).next = b.0 in
    let second : (forwarding_of settings s events).next ≤ settings.limits.requests + 2 = b.1 in
    let small : settings.limits.requests < 2 ^ 32 = range.requests in
    omega (arith, first, second, small)

pub low_of : (settings : Settings) → InRange settings → (events : List Event) → Known settings events → Low events
low_of settings range events known = bounded_low settings range events known.bounded

-- What is ready

-- behind a stop no start is
pub none_ready : (settings : Settings) (events : List Event) → Settled settings events → stopped events ≡ true → (s : ℕ) → (life_of s events).stage ≡ Ready → ⊥
none_ready settings events settled over s ready = let k : IsServing settings events s = settled.serving s ready in never (sym k.live ∙ settled.over over k.group)

-- so while one is nothing was stopped
pub ready_unstopped : (settings : Settings) (events : List Event) → Settled settings events → (s : ℕ) → (life_of s events).stage ≡ Ready → stopped events ≡ false
ready_unstopped settings events settled s ready = go (stopped events) refl
  where
    go : (b : Bool) → stopped events ≡ b → b ≡ false
    go true over = absurd (none_ready settings events settled over s ready)
    go false on = refl

-- No out makes a start ready

told_ready : (stage : Stage) (m : Message) → stage_told stage m ≡ Ready → stage ≡ Ready
told_ready Ready m h = refl
told_ready other m h = h

ready_did : (s : ℕ) (events : List Event) (out : Out) → NoSpawn out → (life_of s (events ++ said out ∷ [])).stage ≡ Ready → (life_of s events).stage ≡ Ready
ready_did s events (Spawn n g) quiet h = absurd quiet
ready_did s events (ToEditor e text) quiet h = sym (ap (λ (l : Life). l.stage) (life_more s events (said (ToEditor e text)))) ∙ h
ready_did s events (CloseEditor e) quiet h = sym (ap (λ (l : Life). l.stage) (life_more s events (said (CloseEditor e)))) ∙ h
ready_did s events (ToServer n text) quiet h = go (nat_eq n s) (sym (ap (λ (l : Life). l.stage) (life_more s events (said (ToServer n text)))) ∙ h)
  where
    go : (b : Bool) → (if b then record { stage = stage_told (life_of s events).stage (message_of text); started = (life_of s events).started } else life_of s events).stage ≡ Ready → (life_of s events).stage ≡ Ready
    go true k = told_ready (life_of s events).stage (message_of text) k
    go false k = k
ready_did s events (EndServer n) quiet h = go (nat_eq n s) (sym (ap (λ (l : Life). l.stage) (life_more s events (said (EndServer n)))) ∙ h)
  where
    go : (b : Bool) → (if b then record { stage = stage_ending (life_of s events).stage; started = (life_of s events).started } else life_of s events).stage ≡ Ready → (life_of s events).stage ≡ Ready
    go true k = absurd (ending_not (life_of s events).stage k)
    go false k = k

ready_outs : (s : ℕ) (events : List Event) (xs : List Out) → AllByRecursion NoSpawn xs → (life_of s (behind events xs)).stage ≡ Ready → (life_of s events).stage ≡ Ready
ready_outs s events [] all h = subst (λ z. (life_of s z).stage ≡ Ready) (append-nil events) h
ready_outs s events (x ∷ xs) all h = ready_did s events x all.0 (ready_outs s (events ++ said x ∷ []) xs all.1 (subst (λ z. (life_of s z).stage ≡ Ready) (sym (append_assoc events (said x ∷ []) (map said xs))) h))

-- The row

module _ (settings : Settings) (before : List Event) (e : ℕ) (body : List ℕ) where
  abbrev now : List Event
  now = with_cause before (FromEditor e body)

  abbrev pub stop_later : List Event
  stop_later = behind now (outs (stop_row settings before e body) now)

  abbrev oks : List Out
  oks = ToEditor e (ok_text (id_bytes body) (codes "null")) ∷ []

  abbrev told : List Event
  told = behind now oks

  abbrev refusals : List Out
  refusals = outs (each (refuse_open settings before) (there_in before)) told

  abbrev mid : List Event
  mid = behind told refusals

  abbrev closes : List Out
  closes = outs (close_each (there_in before)) mid

  abbrev closed : List Event
  closed = behind mid closes

  abbrev living : List ℕ
  living = all_from 0 is_live (groups_of settings before)

  abbrev ends : List Out
  ends = outs (each end_group living) closed

  parts : stop_later ≡ behind closed ends
  parts = behind_both now oks (refusals ++ (closes ++ ends)) ∙ (behind_both told refusals (closes ++ ends) ∙ behind_both mid closes ends)

  -- before the groups' ends each start stands as it stood
  record Stood (events : List Event) : Type 0 where
    stage : (s : ℕ) → (life_of s events).stage ≡ (life_of s before).stage
    number : (s : ℕ) → next_number s events ≡ next_number s before
    start : (g : ℕ) → start_of g events ≡ start_of g before

  stood_now : Stood now
  stood_now = record {
    stage = λ s. ap (λ (l : Life). l.stage) (life_more s before (heard (FromEditor e body)));
    number = λ s. number_more s before (heard (FromEditor e body));
    start = λ g. start_took g before (FromEditor e body);
  }

  stood_link : (events : List Event) (out : Out) → IsOnLink out → Stood events → Stood (events ++ said out ∷ [])
  stood_link events (ToEditor n text) is k = record {
    stage = λ s. ap (λ (l : Life). l.stage) (life_more s events (said (ToEditor n text))) ∙ k.stage s;
    number = λ s. number_more s events (said (ToEditor n text)) ∙ k.number s;
    start = λ g. start_did g events (ToEditor n text) tt ∙ k.start g;
  }
  stood_link events (CloseEditor n) is k = record {
    stage = λ s. ap (λ (l : Life). l.stage) (life_more s events (said (CloseEditor n))) ∙ k.stage s;
    number = λ s. number_more s events (said (CloseEditor n)) ∙ k.number s;
    start = λ g. start_did g events (CloseEditor n) tt ∙ k.start g;
  }
  stood_link events (ToServer n text) is k = absurd is
  stood_link events (Spawn n g) is k = absurd is
  stood_link events (EndServer n) is k = absurd is

  stood_mid : Stood mid
  stood_mid = reasons_keep (λ places out. IsBody out) Stood (λ events out is. stood_link events out (body_linked out is)) told refusals (bodies_refused settings before (there_in before) told).why
      (stood_link now (ToEditor e (ok_text (id_bytes body) (codes "null"))) tt stood_now)

  stood_closed : Stood closed
  stood_closed = reasons_keep (λ places out. IsOnLink out) Stood stood_link mid closes (links_closed (there_in before) mid).why stood_mid

  low_closed : Low before → Low closed
  low_closed low g s at ready = subst (λ n. n < 2 ^ 128) (sym (stood_closed.number s)) (low g s (sym (stood_closed.start g) ∙ at) (sym (stood_closed.stage s) ∙ ready))

  -- behind it the last start of each group that lived isn't up
  pub stop_off : Low before → (g s : ℕ) → lives_at g (groups_of settings before) ≡ true → start_of g before ≡ Some s → is_spawned (life_of s before).stage ≡ true → IsOff s stop_later
  stop_off low g s live at spawned = subst (IsOff s) (sym parts)
      (all_at (λ i. (n : ℕ) → start_of i closed ≡ Some n → is_spawned (life_of n closed).stage ≡ true → IsOff n (behind closed ends)) is_live (groups_of settings before) 0 g g (omega arith)
      (groups_off settings living closed (low_closed low)) live (over_all g (groups_of settings before)) s (stood_closed.start g ∙ at) (ap is_spawned (stood_closed.stage s) ∙ spawned))

  -- so none is ready
  pub stop_unready : Known settings before → Settled settings before → Low before → stops before e (message_of body) ≡ true → (s : ℕ) → (life_of s stop_later).stage ≡ Ready → ⊥
  stop_unready known settled low stop s ready =
      let was : (life_of s before).stage ≡ Ready = sym (stood_closed.stage s) ∙ ready_outs s closed ends (groups_quiet living closed) (subst (λ z. (life_of s z).stage ≡ Ready) parts ready) in
      let k : IsServing settings before s = settled.serving s was in
      never (sym (ap is_up ready) ∙ stop_off low k.group s k.live k.last (ready_spawned (life_of s before).stage was))
