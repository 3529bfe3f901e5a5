-- What a loop over the characters of a string knows as it goes.
use Rattle.std.proofs.Common.{◌≡◌, refl, ap, ◌∙◌, sym, subst, ℕ, Bool, true, false, List, [], ◌∷◌, ◌++◌, append_assoc, append-nil, suc, ◌+◌, ◌<◌, length, drop, get_or, add-one, drop-cons, drop_of_length-le, arith}
use Rattle.std.specs.Prelude.{◌↔◌, ◌==◌, IsTrue, is_none, Some, None, if◌then◌else◌}
use lib.Utf8.{encode, encodes}
use Rattle.std.proofs.lemmas.Bool.Decides.{nat_tests}
use Rattle.json_text.specs.String.{SpellsCharacters}
use Rattle.json_token.specs.Characters.{Front, next_character, behind}
use Rattle.json_token.proofs.Decoding.{next_none, next_some}

-- `text` is the UTF-8 of the characters before `rest`
abbrev pub Decoded : List ℕ → List ℕ → List ℕ → Type 0
Decoded raw rest text = (cs : List ℕ) → SpellsCharacters cs raw → (ds : List ℕ) × SpellsCharacters ds rest × (text ++ encodes ds ≡ encodes cs)

pub decoded_first : (raw : List ℕ) → Decoded raw raw []
decoded_first raw cs s = (cs, s, refl)

pub decoded_more : (raw rest text more : List ℕ) (c : ℕ) → Decoded raw rest text → next_character rest ≡ Some (c, more) → Decoded raw more (text ++ encode c)
decoded_more raw rest text more c d h cs s =
    let i = d cs s in
    let n = next_some i.0 rest more c i.1 h in
    (n.0, n.2, append_assoc text (encode c) (encodes n.0) ∙ (ap (λ x. text ++ encodes x) (sym n.1) ∙ i.2))

pub decoded_all : (raw rest text : List ℕ) → Decoded raw rest text → next_character rest ≡ None → (cs : List ℕ) → SpellsCharacters cs raw → text ≡ encodes cs
decoded_all raw rest text d h cs s =
    let i = d cs s in
    sym (append-nil text) ∙ (ap (λ x. text ++ encodes x) (sym (next_none i.0 rest i.1 h)) ∙ i.2)

-- a string's bytes have no first character where the string is empty
ends : (es rest : List ℕ) → SpellsCharacters es rest → IsTrue (is_none (next_character rest)) ↔ (es ≡ [])
ends es rest s = go (next_character rest) refl
  where
    clash : (c : ℕ) (xs ys : List ℕ) → xs ≡ c ∷ ys → xs ≡ [] → ⊥
    clash c xs ys e f = absurd cc

    go : (f : Front) → next_character rest ≡ f → IsTrue (is_none f) ↔ (es ≡ [])
    go None e = (λ t. next_none es rest s e, λ t. refl)
    go (Some p) e = let n = next_some es rest p.1 p.0 s e in (λ t. absurd cc, λ t. absurd (clash p.0 es n.0 n.1 t))

equal_is : (b c : ℕ) → (b == c) ≡ true → b ≡ c
equal_is b c h = grind (arith, nat_tests)

equal_self : (b c : ℕ) → b ≡ c → (b == c) ≡ true
equal_self b c h = grind (arith, nat_tests)

behind_by : (c d : ℕ) (xs more : List ℕ) (t : Bool) → (c == d) ≡ t → (if t then Some xs else None) ≡ Some more → (c ≡ d) × (xs ≡ more)
behind_by c d xs more true e h = (equal_is c d e, cc)
behind_by c d xs more false e h = absurd cc

pub behind_some : (d : ℕ) (more : List ℕ) (f : Front) → behind d f ≡ Some more → f ≡ Some (d, more)
behind_some d more None h = absurd cc
behind_some d more (Some p) h =
    let k = behind_by p.0 d p.1 more (p.0 == d) refl h in
    ap (λ x. Some (x, p.1)) k.0 ∙ ap (λ x. Some (d, x)) k.1

apart_by : (c d : ℕ) (xs : List ℕ) → c ≡ d → (if c == d then Some xs else None) ≡ None → ⊥
apart_by c d xs e h = clash xs (sym (ap (λ t. if t then Some xs else None) (equal_self c d e)) ∙ h)
  where
    clash : (xs : List ℕ) → Some xs ≡ None → ⊥
    clash xs e = absurd cc

-- where this character comes first, something is behind it
behind_none : (d : ℕ) (others rest : List ℕ) → SpellsCharacters (d ∷ others) rest → behind d (next_character rest) ≡ None → ⊥
behind_none d others rest s h = go (next_character rest) refl h
  where
    clash : (d : ℕ) (xs : List ℕ) → d ∷ xs ≡ [] → ⊥
    clash d xs e = absurd cc

    first : (c d : ℕ) (xs ys : List ℕ) → d ∷ xs ≡ c ∷ ys → c ≡ d
    first c d xs ys e = cc

    go : (f : Front) → next_character rest ≡ f → behind d f ≡ None → ⊥
    go None e h = clash d others (next_none (d ∷ others) rest s e)
    go (Some p) e h = let n = next_some (d ∷ others) rest p.1 p.0 s e in apart_by p.0 d p.1 (first p.0 d others n.0 n.1) h

-- the characters before `rest` are those of `all` before `others`
abbrev pub Matches : List ℕ → List ℕ → List ℕ → List ℕ → Type 0
Matches raw rest all others = (cs : List ℕ) → SpellsCharacters cs raw → (ds : List ℕ) × SpellsCharacters ds rest × ((cs ≡ all) ↔ (ds ≡ others))

pub matches_first : (raw all : List ℕ) → Matches raw raw all all
matches_first raw all cs s = (cs, s, (λ e. e, λ e. e))

matches_next : (raw rest all others more : List ℕ) (c : ℕ) → Matches raw rest all (c ∷ others) → next_character rest ≡ Some (c, more) → Matches raw more all others
matches_next raw rest all others more c m h cs s =
    let i = m cs s in
    let n = next_some i.0 rest more c i.1 h in
    (n.0, n.2, (λ e. tails c n.0 others (sym n.1 ∙ i.2.0 e), λ e. i.2.1 (n.1 ∙ ap (λ x. c ∷ x) e)))
  where
    tails : (c : ℕ) (xs ys : List ℕ) → c ∷ xs ≡ c ∷ ys → xs ≡ ys
    tails c xs ys e = cc

pub matches_more : (raw rest all others more : List ℕ) (c : ℕ) → Matches raw rest all (c ∷ others) → behind c (next_character rest) ≡ Some more → Matches raw more all others
matches_more raw rest all others more c m h = matches_next raw rest all others more c m (behind_some c more (next_character rest) h)

pub matches_end : (raw rest all : List ℕ) → Matches raw rest all [] → (cs : List ℕ) → SpellsCharacters cs raw → IsTrue (is_none (next_character rest)) ↔ (cs ≡ all)
matches_end raw rest all m cs s = let i = m cs s in let e = ends i.0 rest i.1 in (λ t. i.2.1 (e.0 t), λ t. e.1 (i.2.0 t))

pub matches_apart : (raw rest all others : List ℕ) (d : ℕ) → Matches raw rest all (d ∷ others) → behind d (next_character rest) ≡ None → (cs : List ℕ) → SpellsCharacters cs raw → IsTrue false ↔ (cs ≡ all)
matches_apart raw rest all others d m h cs s =
    let i = m cs s in
    (λ t. absurd cc, λ e. absurd (behind_none d others rest (subst (λ x. SpellsCharacters x rest) (i.2.0 e) i.1) h))

-- the character at n comes first of those from n on
pub matches_at : (raw rest all : List ℕ) (n c : ℕ) → Matches raw rest all (drop n all) → (n < length all) × (c ≡ get_or all n c) → Matches raw rest all (c ∷ drop (n + 1) all)
matches_at raw rest all n c m h = subst (λ x. Matches raw rest all x) split m
  where
    split : drop n all ≡ c ∷ drop (n + 1) all
    split = drop-cons all n c h.0 ∙ (ap (λ x. x ∷ drop (suc n) all) (sym h.1) ∙ ap (λ i. c ∷ drop i all) (sym (add-one n)))

pub matches_past : (raw rest all : List ℕ) (n : ℕ) → n ≡ length all → Matches raw rest all (drop n all) → Matches raw rest all []
matches_past raw rest all n h m = subst (λ x. Matches raw rest all x) (drop_of_length-le all {i = n} (omega arith)) m
