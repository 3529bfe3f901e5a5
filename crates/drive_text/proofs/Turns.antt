-- One more turn of a made input.
use Rattle.std.proofs.Common.{◌≡◌, ℕ, ◌+◌, List, [], ◌++◌, refl, sym, ap, ◌∙◌, append_assoc, append-nil, add-one}
use Rattle.mux_history.specs.declared.cause.Cause.{Cause}
use Rattle.drive_text.specs.declared.made.Maker.{Maker}
use Rattle.drive_text.specs.Made.{opening, step_causes, step_state, state_after, turns, made}

pub turns_none : (seed : ℕ) (causes : List Cause) → causes ≡ [] ++ opening → causes ≡ made 0 seed
unfolding turns
turns_none seed causes e = e ∙ sym (append-nil opening)

pub turns_more : (seed i : ℕ) (m : Maker) (causes now : List Cause) → causes ≡ made i seed → m ≡ state_after seed i → now ≡ causes ++ step_causes (i + 1) m → now ≡ made (i + 1) seed
unfolding turns
turns_more seed i m causes now e s h =
    h ∙ (ap (λ (l : List Cause). l ++ step_causes (i + 1) m) e
    ∙ (append_assoc opening (turns seed i) (step_causes (i + 1) m) ∙ (ap (λ (n : Maker). opening ++ (turns seed i ++ step_causes (i + 1) n)) s ∙ behind)))
  where
    behind : opening ++ (turns seed i ++ step_causes (i + 1) (state_after seed i)) ≡ made (i + 1) seed
    behind = rw add-one refl

pub state_more : (seed i : ℕ) (m now : Maker) → m ≡ state_after seed i → now ≡ step_state m → now ≡ state_after seed (i + 1)
unfolding state_after
state_more seed i m now s h = h ∙ (ap step_state s ∙ behind)
  where
    behind : step_state (state_after seed i) ≡ state_after seed (i + 1)
    behind = rw add-one refl

pub state_none : (seed : ℕ) → record { state = seed; start = 0; asked = 0 } ≡ state_after seed 0
unfolding state_after
state_none seed = refl
