-- An offset stands between two characters of the text, and the lines are the text.
use Rattle.std.proofs.Common.{◌≡◌, ℕ, ◌+◌, true, false, List, [], ◌∷◌, ◌++◌, length, refl, sym, ap, subst, ◌∙◌}
use Rattle.std.specs.Prelude.{Option, Some, None, IsUtf8}
use Rattle.std.specs.Char.{len_utf8}
use Rattle.std.specs.Str.{chars, IsCharBoundary}
use Rattle.std.proofs.Math.Utf8.{encodes, scalar, scalars}
use Rattle.std.proofs.lemmas.Bool.{and_parts}
use Rattle.std.proofs.lemmas.Str.{encodes-chars, encodes-append, scalars-chars, IsCharBoundary-at_seam}
use Rattle.position_codec.specs.declared.Encoding.{Encoding}
use Rattle.position_codec.specs.declared.Place.{Place}
use Rattle.position_codec.specs.Position.{bytes, lines, offset_at}
use Rattle.position_codec.specs.Walk.{at, walk, past, going_on}
use Rattle.position_codec.proofs.Places.{walk_is}
use Rattle.position_codec.proofs.Turns.{bytes_encodes}

-- so many bytes take the characters up to a seam
abbrev Seam : List ℕ → ℕ → Type 0
Seam cs n = (xs : List ℕ) × (ys : List ℕ) × (cs ≡ xs ++ ys) × (scalars ys ≡ true) × (n ≡ bytes xs)

further : (c : ℕ) (cs : List ℕ) (n : ℕ) → Seam cs n → Seam (c ∷ cs) (len_utf8 c + n)
further c cs n s = (c ∷ s.0, s.1, ap (λ xs. c ∷ xs) s.2, s.3, ap (λ x. len_utf8 c + x) s.4)

walk_seam : (e : Encoding) (cs : List ℕ) → scalars cs ≡ true → (p : Place) → Seam cs (walk e p cs)
walk_seam e [] h p = ([], [], refl, h, refl)
walk_seam e (c ∷ cs) h p = step (past e p c) (walk_seam e cs (and_parts (scalar c) (scalars cs) h).1)
  where
    step : (o : Option Place) → ((q : Place) → Seam cs (walk e q cs)) → Seam (c ∷ cs) (going_on (len_utf8 c) (λ q. walk e q cs) o)
    step None rest = ([], c ∷ cs, refl, h, refl)
    step (Some q) rest = further c cs (walk e q cs) (rest q)

seam_boundary : (bs : List ℕ) (n : ℕ) → IsUtf8 bs → Seam (chars bs) n → IsCharBoundary bs n
seam_boundary bs n u s =
    let split : bs ≡ encodes s.0 ++ encodes s.1 = sym (encodes-chars bs u) ∙ (ap encodes s.2 ∙ encodes-append s.0 s.1) in
    let size : length (encodes s.0) ≡ n = bytes_encodes s.0 ∙ sym s.4 in
    subst (λ (k : ℕ). IsCharBoundary bs k) size (IsCharBoundary-at_seam bs (encodes s.0) (encodes s.1) split (s.1, (s.3, refl)))

-- a text may be cut at each offset
pub offset_boundary : (e : Encoding) (bs : List ℕ) (k n : ℕ) → IsUtf8 bs → IsCharBoundary bs (offset_at e k n (lines (chars bs)))
offset_boundary e bs k n u =
    subst (λ (x : ℕ). IsCharBoundary bs x) (walk_is e (chars bs) k n) (seam_boundary bs _ u (walk_seam e (chars bs) (scalars-chars bs u) (at k n false)))
