-- The characters that stand for themselves at the front of a string's bytes.
use Rattle.std.proofs.Common.{◌≡◌, refl, sym, ap, ◌∙◌, subst, ℕ, ◌+◌, ◌-◌, ◌/◌, ◌%◌, ◌≤◌, cond, List, [], ◌∷◌, ◌++◌, length, take, drop, append_assoc, inl, inr, arith}
use Rattle.std.specs.Prelude.{IsTrue, flat_map, slice_range}
use Rattle.std.specs.List.{AllByRecursion, prefix_len}
use Rattle.std.proofs.Math.Seq.{take-append_seam, drop-append_seam}
use Rattle.std.proofs.lemmas.Bool.{cases_lt}
use Rattle.std.proofs.lemmas.List.{length-append, length-drop, take_all}
use Rattle.std.proofs.lemmas.Str.{encodes-append}
use lib.Utf8.{encode, encodes}
use Rattle.json_text.specs.String.{Piece, plain, short, unit, IsPiece, is_plain, spelled, units, characters}
use Rattle.json_token.proofs.Comparing.{Decoded}
use Rattle.json_token.proofs.Decoding.{plain_units}
use Rattle.json_token.proofs.Encoded.{one, two, three, four, plain_past}
use Rattle.json_token.proofs.TextRuns.{Plains}

past : (base n : ℕ) → 128 ≤ base → IsTrue (is_plain (base + n))
past base n h = plain_past (base + n) (omega arith)

plain_bytes : (c : ℕ) → IsTrue (is_plain c) → Plains (encode c)
plain_bytes c k = elim (cases_lt c 128) [
  | inl h ↦ subst Plains (sym (one c h)) (k, tt)
  | inr h ↦ elim (cases_lt c 2048) [
    | inl l ↦ subst Plains (sym (two c h l)) (past 192 (c / 64) (omega arith), (past 128 (c % 64) (omega arith), tt))
    | inr l ↦ elim (cases_lt c 65536) [
      | inl m ↦ subst Plains (sym (three c l m)) (past 224 (c / 4096) (omega arith), (past 128 (c / 64 % 64) (omega arith), (past 128 (c % 64) (omega arith), tt)))
      | inr m ↦ subst Plains (sym (four c m)) (past 240 (c / 262144) (omega arith), (past 128 (c / 4096 % 64) (omega arith), (past 128 (c / 64 % 64) (omega arith), (past 128 (c % 64) (omega arith), tt))))
    ]
  ]
]

plain_run : (xs ys : List ℕ) → Plains xs → prefix_len is_plain (xs ++ ys) ≡ length xs + prefix_len is_plain ys
plain_run [] ys h = omega arith
plain_run (x ∷ xs) ys h =
    let more = plain_run xs ys h.1 in
    let here : prefix_len is_plain (x ∷ (xs ++ ys)) ≡ 1 + prefix_len is_plain (xs ++ ys) = ap (λ t. cond t (1 + prefix_len is_plain (xs ++ ys)) 0) h.0 in
    omega (arith, here, more)

-- the first characters stand for themselves, and the others begin with a backslash or are none
record Front (ps : List Piece) : Type 0 where
  pub first : List ℕ
  pub others : List Piece
  pub are : AllByRecursion IsPiece others
  pub bytes : flat_map spelled ps ≡ encodes first ++ flat_map spelled others
  pub long : prefix_len is_plain (flat_map spelled ps) ≡ length (encodes first)
  pub means : characters ps ≡ first ++ characters others

front : (ps : List Piece) → AllByRecursion IsPiece ps → Front ps
front [] h = record { first = []; others = []; are = tt; bytes = refl; long = refl; means = refl }
front (plain c ∷ ps) h =
    let f = front ps h.1 in
    record {
      first = c ∷ f.first;
      others = f.others;
      are = f.are;
      bytes = ap (λ x. encode c ++ x) f.bytes ∙ sym (append_assoc (encode c) (encodes f.first) (flat_map spelled f.others));
      long = plain_run (encode c) (flat_map spelled ps) (plain_bytes c h.0.1) ∙ (ap (λ n. length (encode c) + n) f.long ∙ sym (length-append (encode c) (encodes f.first)));
      means = plain_units c (flat_map units ps) h.0.0 (cases_lt c 65536) ∙ ap (λ xs. c ∷ xs) f.means;
    }
front (short b ∷ ps) h = record { first = []; others = short b ∷ ps; are = h; bytes = refl; long = refl; means = refl }
front (unit a b c d ∷ ps) h = record { first = []; others = unit a b c d ∷ ps; are = h; bytes = refl; long = refl; means = refl }

-- the bytes up to the next backslash are those of the characters there
pub decoded_run : (raw rest text : List ℕ) (n : ℕ) → Decoded raw rest text → n ≡ prefix_len is_plain rest → Decoded raw (drop n rest) (text ++ take n rest)
decoded_run raw rest text n d e cs s =
    let i = d cs s in
    let f = front i.1.0 i.1.1 in
    let rest_is : rest ≡ encodes f.first ++ flat_map spelled f.others = i.1.2 ∙ f.bytes in
    let count : n ≡ length (encodes f.first) = e ∙ (ap (prefix_len is_plain) i.1.2 ∙ f.long) in
    let taken : take n rest ≡ encodes f.first = ap (λ k. take k rest) count ∙ (ap (take (length (encodes f.first))) rest_is ∙ take-append_seam (encodes f.first) (flat_map spelled f.others)) in
    let left : drop n rest ≡ flat_map spelled f.others = ap (λ k. drop k rest) count ∙ (ap (drop (length (encodes f.first))) rest_is ∙ drop-append_seam (encodes f.first) (flat_map spelled f.others)) in (
      characters f.others,
      (f.others, f.are, left, refl),
      ap (λ (x : List ℕ). (text ++ x) ++ encodes (characters f.others)) taken
          ∙ (append_assoc text (encodes f.first) (encodes (characters f.others))
          ∙ (ap (λ (x : List ℕ). text ++ x) (sym (encodes-append f.first (characters f.others)) ∙ ap encodes (sym (i.1.3 ∙ f.means))) ∙ i.2)),
    )

-- the rest of the bytes from n on, as a slice
pub rest_is : (n : ℕ) (bytes : List ℕ) → slice_range bytes n (length bytes) ≡ drop n bytes
rest_is n bytes = take_all (length bytes - n) (drop n bytes) (omega (arith, length-drop n bytes))
