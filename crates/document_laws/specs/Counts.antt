-- How what is kept counts the notifications on documents that a start is sent.
use Rattle.std.specs.Prelude.{◌≡◌, ℕ, ◌+◌, false, List, [], ◌∷◌, ◌++◌, map, length, bytes_eq}
use Rattle.std.specs.Prelude.{Some}
use Rattle.std.specs.List.{AllByRecursion}
use Rattle.mux_history.specs.declared.out.Out.{Out}
use Rattle.mux_history.specs.declared.out.Out.TheVariants.{ToServer}
use Rattle.document_model.specs.rpc_message.specs.Message.{message_of}
use Rattle.document_model.specs.Sayings.{Saying, opens, changes, closes, misshapen, nothing, saying_of}
use Rattle.focus_switch.specs.declared.held.Held.{Held}
use Rattle.focus_switch.specs.Documents.{Documents, held_of}

-- a notification on document u
abbrev pub IsOn : List ℕ → Saying → Type 0
IsOn u (opens w l v t) = w ≡ u
IsOn u (changes w v cs) = w ≡ u
IsOn u (closes w) = w ≡ u
IsOn u misshapen = ⊥
IsOn u nothing = ⊥

abbrev pub AllOn : List ℕ → List (List ℕ) → Type 0
AllOn u bodies = AllByRecursion (λ b. IsOn u (saying_of (message_of b))) bodies

-- Behind these bodies, which are on document u, their number is counted; u has the new count, where the start has it, and other documents have what they had.
pub record CountsOn (u : List ℕ) (bodies : List (List ℕ)) (s t : Documents) : Type 0 where
  pub on : AllOn u bodies
  pub sent : t.sent ≡ s.sent + length bodies
  pub here : (h : Held) → held_of u t.helds ≡ Some h → h.sent ≡ t.sent
  pub others : (w : List ℕ) → bytes_eq w u ≡ false → held_of w t.helds ≡ held_of w s.helds

-- What is kept counts the outs between two states, which go to start n: none, some on one document, or some behind others.
pub data Counted : ℕ → Documents → List Out → Documents → Type 0 where
  still : {n : ℕ} {s t : Documents} {outs : List Out} → t.sent ≡ s.sent → t.helds ≡ s.helds → outs ≡ [] → Counted n s outs t
  tells : {n : ℕ} {s t : Documents} {outs : List Out} (u b : List ℕ) (bodies : List (List ℕ)) → CountsOn u (b ∷ bodies) s t → outs ≡ map (λ x. ToServer n x) (b ∷ bodies) → Counted n s outs t
  joins : {n : ℕ} {s t : Documents} {outs : List Out} (m : Documents) (xs ys : List Out) → Counted n s xs m → Counted n m ys t → outs ≡ xs ++ ys → Counted n s outs t
