-- Edits of a piece of bytes that stands at a place, part by part, and what they come to as `replace`.
use Rattle.std.proofs.Common.{◌≡◌, ℕ, ◌+◌, ◌-◌, List, [], ◌∷◌, ◌++◌, length, take, drop, refl, sym, ◌∙◌, ap, ap₂, subst, append_assoc, length-append, arith}
use Rattle.json_text.specs.declared.span.Span.{Span}
use Rattle.json_text.specs.Replace.{Edit, replace_from, replace, RiseFrom}

abbrev pub between : ℕ → ℕ → Span
between at n = record { from = at; to = at + n }

-- the edits make `out` of the bytes that stand there
abbrev pub EditsTo : ℕ → List ℕ → List Edit → List ℕ → Type 0
EditsTo at bs [] out = bs ≡ out
EditsTo at bs (e ∷ es) out = (a b c d : List ℕ) × (bs ≡ a ++ (b ++ c)) × (e.span ≡ between (at + length a) (length b))
    × EditsTo (at + length a + length b) c es d × (out ≡ a ++ (e.text ++ d))

regroup : (p a b c : List ℕ) → p ++ (a ++ (b ++ c)) ≡ (p ++ a) ++ (b ++ c)
regroup p a b c = simp append_assoc

regroup_end : (a b c d : List ℕ) → (a ++ (b ++ c)) ++ d ≡ a ++ (b ++ (c ++ d))
regroup_end a b c d = simp append_assoc

place_first : (at : ℕ) (p a : List ℕ) → at + length p + length a ≡ at + length (p ++ a)
place_first at p a = omega (arith, length-append p a)

place_last : (at : ℕ) (a b c : List ℕ) → at + length (a ++ (b ++ c)) ≡ at + length a + length b + length c
place_last at a b c = omega (arith, length-append a (b ++ c), length-append b c)

behind : (fs : List Edit) (at : ℕ) (a b y : List ℕ) → EditsTo (at + length a) b fs y → EditsTo at (a ++ b) fs (a ++ y)
behind [] at a b y h = ap (λ z. a ++ z) h
behind (f ∷ fs) at a b y h = (
  a ++ h.0,
  h.1,
  h.2,
  h.3,
  ap (λ z. a ++ z) h.4 ∙ regroup a h.0 h.1 h.2,
  h.5 ∙ ap (λ i. between i (length h.1)) (place_first at a h.0),
  subst (λ i. EditsTo (i + length h.1) h.2 fs h.3) (place_first at a h.0) h.6,
  ap (λ z. a ++ z) h.7 ∙ regroup a h.0 f.text h.3,
)

-- edits of the one, then of the other
pub edits_then : (es fs : List Edit) (at : ℕ) (a b x y : List ℕ) → EditsTo at a es x → EditsTo (at + length a) b fs y → EditsTo at (a ++ b) (es ++ fs) (x ++ y)
edits_then [] fs at a b x y h g = subst (λ z. EditsTo at (a ++ b) fs (z ++ y)) h (behind fs at a b y g)
edits_then (e ∷ es) fs at a b x y h g = (
  h.0,
  h.1,
  h.2 ++ b,
  h.3 ++ y,
  ap (λ z. z ++ b) h.4 ∙ regroup_end h.0 h.1 h.2 b,
  h.5,
  edits_then es fs (at + length h.0 + length h.1) h.2 b h.3 y h.6
      (subst (λ i. EditsTo i b fs y) (ap (λ z. at + length z) h.4 ∙ place_last at h.0 h.1 h.2) g),
  ap (λ z. z ++ y) h.7 ∙ regroup_end h.0 e.text h.3 y,
)

rise_step : (at from to : ℕ) (s : Span) (a b c bs : List ℕ) → bs ≡ a ++ (b ++ c) → s ≡ between (at + length a) (length b) → at + length bs ≡ at + length a + length b + length c
rise_step at from to s a b c bs whole place = ap (λ z. at + length z) whole ∙ place_last at a b c

-- the places rise
pub edits_rise : (es : List Edit) (at n : ℕ) (bs out : List ℕ) → EditsTo at bs es out → n ≡ at + length bs → RiseFrom at n es
edits_rise [] at n bs out h e = omega arith
edits_rise (f ∷ es) at n bs out h e =
    let from : f.span.from ≡ at + length h.0 = ap (λ (s : Span). s.from) h.5 in
    let to : f.span.to ≡ at + length h.0 + length h.1 = ap (λ (s : Span). s.to) h.5 in
    let end : n ≡ at + length h.0 + length h.1 + length h.2 = e ∙ ap (λ z. at + length z) h.4 ∙ place_last at h.0 h.1 h.2 in
    (omega (arith, from), omega (arith, from, to), subst (λ i. RiseFrom i n es) (sym to) (edits_rise es (at + length h.0 + length h.1) n h.2 h.3 h.6 end))

drop_front : (a b : List ℕ) → drop (length a) (a ++ b) ≡ b
drop_front [] b = refl
drop_front (x ∷ a) b = drop_front a b

take_front : (a b : List ℕ) → take (length a) (a ++ b) ≡ a
take_front [] b = refl
take_front (x ∷ a) b = ap (λ z. x ∷ z) (take_front a b)

pub middle : (at from : ℕ) (pre bs a b : List ℕ) → length pre ≡ at → bs ≡ a ++ b → from ≡ at + length a → take (from - at) (drop at (pre ++ bs)) ≡ a
middle at from pre bs a b len whole place =
    let gap : from - at ≡ length a = omega arith in
    ap₂ (λ i z. take i (drop z (pre ++ bs))) gap (sym len) ∙ ap (λ z. take (length a) z) (drop_front pre bs ∙ whole) ∙ take_front a b

-- and `replace` makes them
pub edits_from : (es : List Edit) (at : ℕ) (pre bs out : List ℕ) → length pre ≡ at → EditsTo at bs es out → replace_from at (pre ++ bs) es ≡ out
edits_from [] at pre bs out len h = ap (λ i. drop i (pre ++ bs)) (sym len) ∙ drop_front pre bs ∙ h
edits_from (f ∷ es) at pre bs out len h =
    let from : f.span.from ≡ at + length h.0 = ap (λ (s : Span). s.from) h.5 in
    let to : f.span.to ≡ at + length h.0 + length h.1 = ap (λ (s : Span). s.to) h.5 in
    let whole : pre ++ bs ≡ (pre ++ (h.0 ++ h.1)) ++ h.2 = ap (λ z. pre ++ z) h.4 ∙ shift pre h.0 h.1 h.2 in
    let rest : replace_from (at + length h.0 + length h.1) ((pre ++ (h.0 ++ h.1)) ++ h.2) es ≡ h.3 =
    edits_from es (at + length h.0 + length h.1) (pre ++ (h.0 ++ h.1)) h.2 h.3 (lengths pre h.0 h.1 at len) h.6 in
    ap₂ (λ z w. z ++ (f.text ++ w)) (middle at f.span.from pre bs h.0 (h.1 ++ h.2) len h.4 from)
    (ap₂ (λ i z. replace_from i z es) to whole ∙ rest) ∙ sym h.7
  where
    shift : (p a b c : List ℕ) → p ++ (a ++ (b ++ c)) ≡ (p ++ (a ++ b)) ++ c
    shift p a b c = simp append_assoc

    lengths : (p a b : List ℕ) (at : ℕ) → length p ≡ at → length (p ++ (a ++ b)) ≡ at + length a + length b
    lengths p a b at e = omega (arith, length-append p (a ++ b), length-append a b)

pub edits_replace : (es : List Edit) (bytes out : List ℕ) → EditsTo 0 bytes es out → replace bytes es ≡ out
edits_replace es bytes out h = edits_from es 0 [] bytes out refl h
