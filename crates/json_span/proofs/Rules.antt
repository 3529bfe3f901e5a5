-- The parts of bytes that stand under a rule, and such bytes put together again.
use Rattle.std.proofs.Common.{◌≡◌, ap, ◌∙◌, subst, ℕ, ◌+◌, List, [], ◌∷◌, ◌++◌, length, arith, append_assoc, length-append}
use Rattle.json_text.specs.Json.{Rule, ◌then◌, byte}

-- behind a byte
pub record Behind (c : ℕ) (Q : Rule) (at : ℕ) (bs : List ℕ) : Type 0 where
  pub tail : List ℕ
  pub whole : bs ≡ c ∷ tail
  pub is : Q (at + 1) tail

pub after_byte : (c : ℕ) (Q : Rule) (at : ℕ) (bs : List ℕ) → (byte c then Q) at bs → Behind c Q at bs
after_byte c Q at bs h = record {
  tail = h.1;
  whole = h.2 ∙ ap (λ a. a ++ h.1) h.3;
  is = subst (λ p. Q p h.1) (ap (λ (a : List ℕ). at + length a) h.3) h.4;
}

-- before a byte
pub record Before (c : ℕ) (P : Rule) (at : ℕ) (bs : List ℕ) : Type 0 where
  pub front : List ℕ
  pub whole : bs ≡ front ++ c ∷ []
  pub is : P at front

pub before_byte : (c : ℕ) (P : Rule) (at : ℕ) (bs : List ℕ) → (P then byte c) at bs → Before c P at bs
before_byte c P at bs h = record {
  front = h.0;
  whole = h.2 ∙ ap (λ b. h.0 ++ b) h.4;
  is = h.3;
}

-- between two bytes
pub record Between (c e : ℕ) (P : Rule) (at : ℕ) (bs : List ℕ) : Type 0 where
  pub inner : List ℕ
  pub whole : bs ≡ c ∷ (inner ++ e ∷ [])
  pub is : P (at + 1) inner

pub between_bytes : (c e : ℕ) (P : Rule) (at : ℕ) (bs : List ℕ) → (byte c then P then byte e) at bs → Between c e P at bs
between_bytes c e P at bs h = go (after_byte c (P then byte e) at bs h)
  where
    inside : (f : Behind c (P then byte e) at bs) → Before e P (at + 1) f.tail → Between c e P at bs
    inside f b = record {
      inner = b.front;
      whole = f.whole ∙ ap (λ t. c ∷ t) b.whole;
      is = b.is;
    }

    go : Behind c (P then byte e) at bs → Between c e P at bs
    go f = inside f (before_byte e P (at + 1) f.tail f.is)

pub framed : (c e : ℕ) (inner bs rest : List ℕ) → bs ≡ c ∷ (inner ++ e ∷ []) → bs ++ rest ≡ c ∷ (inner ++ e ∷ rest)
framed c e inner bs rest h = ap (λ bs. bs ++ rest) h ∙ ap (λ xs. c ∷ xs) (append_assoc inner (e ∷ []) rest)

pub framed_length : (c e : ℕ) (inner bs : List ℕ) → bs ≡ c ∷ (inner ++ e ∷ []) → length bs ≡ length inner + 2
framed_length c e inner bs h = omega (arith, ap length h, length-append inner (e ∷ []))

-- two parts and what follows
pub regroup : (bs a b rest : List ℕ) → bs ≡ a ++ b → bs ++ rest ≡ a ++ (b ++ rest)
regroup bs a b rest h = ap (λ bs. bs ++ rest) h ∙ append_assoc a b rest

pub regroup_length : (bs a b : List ℕ) → bs ≡ a ++ b → length bs ≡ length a + length b
regroup_length bs a b h = ap length h ∙ length-append a b
