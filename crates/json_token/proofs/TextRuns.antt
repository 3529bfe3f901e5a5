-- Characters that stand for themselves pass as a string, however many they are.
use Rattle.std.proofs.Common.{◌≡◌, refl, sym, ap, ◌∙◌, subst, ℕ, zero, suc, ◌+◌, ◌<◌, ◌≤◌, Bool, true, false, cond, List, [], ◌∷◌, ◌++◌, map, take, ◌⊎◌, inl, inr, IsUtf8, arith}
use Rattle.std.specs.Prelude.{IsTrue, Some, flat_map}
use Rattle.std.specs.List.{AllByRecursion, prefix_len}
use Rattle.std.specs.Str.{chars}
use Rattle.std.proofs.lemmas.Bool.{and_parts, cases_lt}
use Rattle.std.proofs.lemmas.Str.{encodes-chars, scalars-chars}
use lib.Utf8.{scalars, encode, encodes}
use Rattle.json_text.specs.String.{plain, IsPiece, is_plain, spelled}
use Rattle.json_token.specs.declared.string.Part.TheVariants.{Plain}
use Rattle.json_token.proofs.Encoded.{one, plain_past}
use Rattle.json_token.proofs.Walks.{walk, pieces_pass, quote_passes}

abbrev pub Plains : List ℕ → Type 0
Plains bs = AllByRecursion (λ b. IsTrue (is_plain b)) bs

pub plains_prefix : (n : ℕ) (xs : List ℕ) → n ≤ prefix_len is_plain xs → Plains (take n xs)
plains_prefix zero xs h = tt
plains_prefix (suc n) [] h = tt
plains_prefix (suc n) (x ∷ xs) h = go (is_plain x) refl h (plains_prefix n xs)
  where
    go : (t : Bool) → is_plain x ≡ t → suc n ≤ cond t (1 + prefix_len is_plain xs) 0 → (n ≤ prefix_len is_plain xs → Plains (take n xs)) → IsTrue (is_plain x) × Plains (take n xs)
    go true e le more = (e, more (omega arith))
    go false e le more = absurd (omega arith)

halves : (a b : List ℕ) → Plains (a ++ b) → Plains a × Plains b
halves [] b h = (tt, h)
halves (x ∷ a) b h = let p = halves a b h.1 in ((h.0, p.0), p.1)

character_plain : (c : ℕ) → Plains (encode c) → IsTrue (is_plain c)
character_plain c h = go (cases_lt c 128)
  where
    go : (c < 128) ⊎ (128 ≤ c) → IsTrue (is_plain c)
    go (inl lt) = (subst Plains (one c lt) h).0
    go (inr le) = plain_past c le

pieces : (cs : List ℕ) → scalars cs ≡ true → Plains (encodes cs) → AllByRecursion IsPiece (map plain cs)
pieces [] e h = tt
pieces (c ∷ cs) e h =
    let p = and_parts _ _ e in
    let q = halves (encode c) (encodes cs) h in
    ((p.0, character_plain c q.0), pieces cs p.1 q.1)

written : (cs : List ℕ) → encodes cs ≡ flat_map spelled (map plain cs)
written [] = refl
written (c ∷ cs) = ap (λ x. encode c ++ x) (written cs)

-- before a quotation mark that ends it
pub characters_pass : (bs : List ℕ) → IsUtf8 bs → Plains bs → walk Plain (bs ++ 34 ∷ []) ≡ Some []
characters_pass bs u h =
    let cs = chars bs in
    let same = encodes-chars bs u in
    ap (λ x. walk Plain (x ++ 34 ∷ [])) (sym same ∙ written cs)
    ∙ (pieces_pass (map plain cs) (34 ∷ []) (pieces cs (scalars-chars bs u) (subst Plains (sym same) h)) ∙ quote_passes [])
