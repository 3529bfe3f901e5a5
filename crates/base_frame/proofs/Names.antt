-- The name of a field, a byte at a time.
use Rattle.std.proofs.Common.{◌≡◌, refl, ap, ◌∙◌, sym, subst, ℕ, ◌+◌, ◌<◌, Bool, true, false, List, [], ◌∷◌, ◌++◌, length, append_assoc, append-nil, arith}
use Rattle.std.specs.Prelude.{map, codes, slice_get, ◌==◌, ◌&&◌, nat_lt, if◌then◌else◌, Option, Some, None}
use Rattle.std.proofs.lemmas.List.{length-append, length-map, map-append}
use Rattle.std.proofs.lemmas.Bool.Decides.{nat_tests}
use Rattle.base_frame.specs.declared.block.Part.{Part}
use Rattle.base_frame.specs.declared.block.Part.TheVariants.{Start, LengthName, OtherName, Value, Before, Digits, After, LineEnd, BlockEnd}
use Rattle.base_frame.specs.declared.block.Move.{Move}
use Rattle.base_frame.specs.Block.{small, letter_goes, lettered, goes}
use Rattle.base_frame.specs.Grammar.{IsLengthName}

-- what a name of these bytes so far may yet be
abbrev pub SoFar : List ℕ → Part → Type 0
SoFar name (LengthName k) = (length name ≡ k) × ((rest : List ℕ) × (map small name ++ rest ≡ codes "content-length"))
SoFar name OtherName = (more : List ℕ) → map small (name ++ more) ≡ codes "content-length" → ⊥
SoFar name Start = ⊥
SoFar name Value = ⊥
SoFar name Before = ⊥
SoFar name Digits = ⊥
SoFar name After = ⊥
SoFar name LineEnd = ⊥
SoFar name BlockEnd = ⊥

at_end : (xs ys : List ℕ) (y : ℕ) → slice_get (xs ++ y ∷ ys) (length xs) ≡ Some y
at_end [] ys y = refl
at_end (x ∷ xs) ys y = at_end xs ys y

past_end : (xs : List ℕ) → slice_get xs (length xs) ≡ None
past_end [] = refl
past_end (x ∷ xs) = past_end xs

-- the next letter is the one that is wanted only if it is
next_letter : (name more : List ℕ) (b : ℕ) → map small ((name ++ b ∷ []) ++ more) ≡ codes "content-length" → slice_get (codes "content-length") (length name) ≡ Some (small b)
next_letter name more b h =
    let split : map small name ++ (small b ∷ map small more) ≡ codes "content-length" = sym (map-append small name (b ∷ more)) ∙ (sym (ap (map small) (append_assoc name (b ∷ []) more)) ∙ h) in
    sym (ap (λ l. slice_get l (length name)) split) ∙ subst (λ n. slice_get (map small name ++ (small b ∷ map small more)) n ≡ Some (small b)) (length-map name small) (at_end (map small name) (map small more) (small b))

pub some_same : (a b : ℕ) → Some a ≡ Some b → a ≡ b
some_same a b h = cc

-- a letter that isn't wanted makes another name
other_letter : (name : List ℕ) (b : ℕ) (o : Option ℕ) → slice_get (codes "content-length") (length name) ≡ o → (o ≡ Some (small b) → ⊥) → SoFar (name ++ b ∷ []) OtherName
other_letter name b o e h = λ more k. h (sym e ∙ next_letter name more b k)

abbrev pub Lettered : List ℕ → Option ℕ → Move → Type 0
Lettered name length m = (p : Part) × (m ≡ goes p length) × SoFar name p

pub no_some : (w : ℕ) → None ≡ Some w → ⊥
no_some w h = cc

wanted : (name rest : List ℕ) → map small name ++ rest ≡ codes "content-length" → (w : ℕ) → slice_get (codes "content-length") (length name) ≡ Some w → (more : List ℕ) × (rest ≡ w ∷ more)
wanted name [] h w e = absurd (no_some w (sym (past_end (map small name)) ∙ (subst (λ n. slice_get (map small name) n ≡ Some w) (sym (length-map name small)) (ap (λ l. slice_get l (length name)) (sym (append-nil (map small name)) ∙ h) ∙ e))))
wanted name (r ∷ rest) h w e =
    let there : Some r ≡ Some w = sym (at_end (map small name) rest r) ∙ (subst (λ n. slice_get (map small name ++ r ∷ rest) n ≡ Some w) (sym (length-map name small)) (ap (λ l. slice_get l (length name)) h ∙ e)) in
    (rest, ap (λ x. x ∷ rest) (some_same r w there))

not_wanted : (w x k : ℕ) → ((w == x) && nat_lt k 14) ≡ false → w ≡ x → k < 14 → ⊥
not_wanted w x k q e h = grind (arith, nat_tests)

short_name : (name rest : List ℕ) → map small name ++ rest ≡ codes "content-length" → (k : ℕ) → length name ≡ k → (w : ℕ) → slice_get (codes "content-length") k ≡ Some w → k < 14
short_name name rest h k e w f =
    let m = wanted name rest h w (subst (λ n. slice_get (codes "content-length") n ≡ Some w) (sym e) f) in
    let count : length (map small name) + length rest ≡ 14 = sym (length-append (map small name) rest) ∙ ap length h in
    omega (arith, count, length-map name small, e, ap length m.1)

on_wanted : (name : List ℕ) (b k : ℕ) (l : Option ℕ) (w : ℕ) (t : Bool) → SoFar name (LengthName k) → slice_get (codes "content-length") k ≡ Some w → ((w == small b) && nat_lt k 14) ≡ t
    → Lettered (name ++ b ∷ []) l (if t then goes (LengthName (k + 1)) l else goes OtherName l)
on_wanted name b k l w true h e q =
    let same : w ≡ small b = grind (arith, nat_tests) in
    let m = wanted name h.1.0 h.1.1 w (subst (λ n. slice_get (codes "content-length") n ≡ Some w) (sym h.0) e) in
    let whole : map small (name ++ b ∷ []) ++ m.0 ≡ codes "content-length" = ap (λ x. x ++ m.0) (map-append small name (b ∷ [])) ∙ (append_assoc (map small name) (small b ∷ []) m.0 ∙ (ap (λ x. map small name ++ x ∷ m.0) (sym same) ∙ (ap (λ x. map small name ++ x) (sym m.1) ∙ h.1.1))) in
    (LengthName (k + 1), refl, (length-append name (b ∷ []) ∙ ap (λ n. n + 1) h.0, (m.0, whole)))
on_wanted name b k l w false h e q =
    (OtherName, refl, other_letter name b (Some w) (subst (λ n. slice_get (codes "content-length") n ≡ Some w) (sym h.0) e) (λ s. not_wanted w (small b) k q (some_same w (small b) s) (short_name name h.1.0 h.1.1 k h.0 w e)))

on_letter : (name : List ℕ) (b k : ℕ) (l : Option ℕ) (o : Option ℕ) → SoFar name (LengthName k) → slice_get (codes "content-length") k ≡ o → Lettered (name ++ b ∷ []) l (letter_goes o k b l)
on_letter name b k l (Some w) h e = on_wanted name b k l w ((w == small b) && nat_lt k 14) h e refl
on_letter name b k l None h e = (OtherName, refl, other_letter name b None (subst (λ n. slice_get (codes "content-length") n ≡ None) (sym h.0) e) (no_some (small b)))

-- a byte of a name, behind a name so far
pub letter_in : (name : List ℕ) (b k : ℕ) (l : Option ℕ) → SoFar name (LengthName k) → Lettered (name ++ b ∷ []) l (lettered k b l)
letter_in name b k l h = on_letter name b k l (slice_get (codes "content-length") k) h refl

pub other_in : (name : List ℕ) (b : ℕ) → SoFar name OtherName → SoFar (name ++ b ∷ []) OtherName
other_in name b h = λ more k. h (b ∷ more) (sym (ap (map small) (append_assoc name (b ∷ []) more)) ∙ k)

pub nothing_so_far : SoFar [] (LengthName 0)
nothing_so_far = (refl, (codes "content-length", refl))

nil_of : (xs : List ℕ) → length xs ≡ 0 → xs ≡ []
nil_of [] h = refl
nil_of (x ∷ xs) h = absurd (omega (arith, h))

-- fourteen letters are the whole name, and fewer or more are not
pub fourteen : (name : List ℕ) (k : ℕ) → SoFar name (LengthName k) → k ≡ 14 → IsLengthName name
fourteen name k h e =
    let count : length (map small name) + length h.1.0 ≡ 14 = sym (length-append (map small name) h.1.0) ∙ ap length h.1.1 in
    let none : h.1.0 ≡ [] = nil_of h.1.0 (omega (arith, count, length-map name small, h.0, e)) in
    sym (append-nil (map small name)) ∙ (ap (λ r. map small name ++ r) (sym none) ∙ h.1.1)

pub not_fourteen : (name : List ℕ) (k : ℕ) → SoFar name (LengthName k) → (k ≡ 14 → ⊥) → IsLengthName name → ⊥
not_fourteen name k h n e = n (sym h.0 ∙ (sym (length-map name small) ∙ ap length e))

pub other_is : (name : List ℕ) → SoFar name OtherName → IsLengthName name → ⊥
other_is name h e = h [] (ap (map small) (append-nil name) ∙ e)
