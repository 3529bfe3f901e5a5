-- What a start is, and has created, behind outs.
use Rattle.std.proofs.Common.{◌≡◌, ℕ, Bool, true, false, List, [], ◌∷◌, ◌++◌, append-nil, append_assoc, map, nat_eq, if◌then◌else◌, refl, sym, ◌∙◌, ap, subst}
use Rattle.mux_history.specs.declared.cause.Cause.TheVariants.{FromEditor}
use Rattle.mux_history.specs.declared.out.Out.{Out}
use Rattle.mux_history.specs.declared.out.Out.TheVariants.{ToEditor, ToServer, Spawn, CloseEditor, EndServer}
use Rattle.rpc_message.specs.Message.{Id, Message, message_of}
use Rattle.event_model.specs.declared.stage.Stage.{Stage}
use Rattle.event_model.specs.declared.stage.Stage.TheVariants.{Ended, Ready, Spawning}
use Rattle.event_model.specs.Event.{Event, behind, heard, said, with_cause}
use Rattle.event_model.specs.Requests.{is_open}
use Rattle.event_model.specs.Stages.{Life, is_ready, life_behind, life_of, stage_ending, stage_told}
use Rattle.event_model.proofs.Frames.{never}
use Rattle.mux_facts.proofs.Folds.{life_more}
use Rattle.mux_facts.proofs.Keeps.{behind_both, behind_nothing}
use Rattle.session_laws.proofs.Server7Law.{creates, creates_grows, is_from_server}

-- A start that is ready behind an editor's message was ready before it

told_back : (stage : Stage) (m : Message) → is_ready (stage_told stage m) ≡ true → is_ready stage ≡ true
told_back Ready m h = refl
told_back _ m h = h

ending_off : (stage : Stage) → is_ready (stage_ending stage) ≡ true → ⊥
ending_off Ended h = never (sym h)
ending_off _ h = never (sym h)

ready_out : (s : ℕ) (events : List Event) (out : Out) → is_ready (life_of s (events ++ said out ∷ [])).stage ≡ true → is_ready (life_of s events).stage ≡ true
ready_out s events out h = by_out out (sym (ap (λ (l : Life). is_ready l.stage) (life_more s events (said out))) ∙ h)
  where
    by_out : (o : Out) → is_ready (life_behind s (life_of s events) (said o)).stage ≡ true → is_ready (life_of s events).stage ≡ true
    by_out (ToServer n body) k = go (nat_eq n s) k
      where
        go : (b : Bool) → is_ready (if b then record { stage = stage_told (life_of s events).stage (message_of body); started = (life_of s events).started } else life_of s events).stage ≡ true → is_ready (life_of s events).stage ≡ true
        go true e = told_back (life_of s events).stage (message_of body) e
        go false e = e
    by_out (Spawn n g) k = go (nat_eq n s) k
      where
        go : (b : Bool) → is_ready (if b then record { stage = Spawning; started = false } else life_of s events).stage ≡ true → is_ready (life_of s events).stage ≡ true
        go true e = never (sym e)
        go false e = e
    by_out (EndServer n) k = go (nat_eq n s) k
      where
        go : (b : Bool) → is_ready (if b then record { stage = stage_ending (life_of s events).stage; started = (life_of s events).started } else life_of s events).stage ≡ true → is_ready (life_of s events).stage ≡ true
        go true e = absurd (ending_off (life_of s events).stage e)
        go false e = e
    by_out (ToEditor n body) k = k
    by_out (CloseEditor n) k = k

pub ready_outs : (s : ℕ) (events : List Event) (outs : List Out) → is_ready (life_of s (behind events outs)).stage ≡ true → is_ready (life_of s events).stage ≡ true
ready_outs s events [] h = ap (λ z. is_ready (life_of s z).stage) (sym (behind_nothing events)) ∙ h
ready_outs s events (out ∷ outs) h = ready_out s events out (ready_outs s (events ++ said out ∷ []) outs (sym (ap (λ z. is_ready (life_of s z).stage) (behind_both events (out ∷ []) outs)) ∙ h))

pub ready_asked : (s : ℕ) (before : List Event) (e : ℕ) (asked : List ℕ) → is_ready (life_of s (with_cause before (FromEditor e asked))).stage ≡ true → is_ready (life_of s before).stage ≡ true
ready_asked s before e asked h = sym (ap (λ (l : Life). is_ready l.stage) (life_more s before (heard (FromEditor e asked)))) ∙ h

-- what a start created stays so behind outs
pub created_behind : (s : ℕ) (events : List Event) (outs : List Out) (token : Id) → is_open token (creates s events).created ≡ true → is_open token (creates s (behind events outs)).created ≡ true
created_behind s events [] token h = subst (λ z. is_open token (creates s z).created ≡ true) (sym (append-nil events)) h
created_behind s events (out ∷ outs) token h = subst (λ z. is_open token (creates s z).created ≡ true) (append_assoc events (said out ∷ []) (map said outs)) (created_behind s (events ++ said out ∷ []) outs token (creates_grows s events (said out) (silent out) token h))
  where
    silent : (o : Out) → is_from_server (said o) ≡ false
    silent (ToEditor e body) = refl
    silent (ToServer t body) = refl
    silent (Spawn t g) = refl
    silent (CloseEditor e) = refl
    silent (EndServer t) = refl
