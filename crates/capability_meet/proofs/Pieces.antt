-- A piece written behind others.
use Rattle.std.proofs.Common.{◌≡◌, ℕ, Bool, true, false, List, [], ◌∷◌, ◌++◌, sym, ◌∙◌, ap, append_assoc}
use Rattle.std.specs.Prelude.{if◌then◌else◌}
use Rattle.capability_meet.specs.Parts.{comma, listed}

pub piece_skipped : (out x : List ℕ) (xs : List (List ℕ)) (started b c : Bool) → b ≡ c → b ≡ true → out ++ listed started xs ≡ out ++ listed started (if c then xs else (x ∷ xs))
piece_skipped out x xs started b c e h = ap (λ z. out ++ listed started (if z then xs else (x ∷ xs))) (sym h ∙ e)

pub piece_put : (before middle after x y : List ℕ) (xs : List (List ℕ)) (started : Bool) → middle ≡ before ++ comma started → after ≡ middle ++ y → y ≡ x → after ++ listed true xs ≡ before ++ listed started (x ∷ xs)
piece_put before middle after x y xs started e f g =
    ap (λ z. z ++ listed true xs) (f ∙ ap (λ z. z ++ y) e ∙ ap (λ z. (before ++ comma started) ++ z) g) ∙ append_assoc (before ++ comma started) x (listed true xs) ∙ append_assoc before (comma started) (x ++ listed true xs)

pub piece_written : (before middle after x y : List ℕ) (xs : List (List ℕ)) (started b c : Bool) → b ≡ c → b ≡ false → middle ≡ before ++ comma started → after ≡ middle ++ y → y ≡ x → after ++ listed true xs ≡ before ++ listed started (if c then xs else (x ∷ xs))
piece_written before middle after x y xs started b c e h m a g = piece_put before middle after x y xs started m a g ∙ ap (λ z. before ++ listed started (if z then xs else (x ∷ xs))) (sym h ∙ e)

-- a byte, and what comes behind it

pub behind_byte : (b : ℕ) (before first rest : List ℕ) → first ≡ before ++ (b ∷ []) → first ++ rest ≡ before ++ (b ∷ rest)
behind_byte b before first rest e = ap (λ z. z ++ rest) e ∙ append_assoc before (b ∷ []) rest

pub byte_and_piece : (b : ℕ) (before first last x rest : List ℕ) → first ≡ before ++ (b ∷ []) → last ≡ first ++ x → before ++ (b ∷ (x ++ rest)) ≡ last ++ rest
byte_and_piece b before first last x rest e f = sym (ap (λ z. z ++ rest) f ∙ append_assoc first x rest ∙ behind_byte b before first (x ++ rest) e)
