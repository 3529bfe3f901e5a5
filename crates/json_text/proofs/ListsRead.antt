-- A list of entries is read: stated once, for items and for members.
use Rattle.std.proofs.Common.{◌≡◌, ℕ, zero, suc, ◌+◌, ◌<◌, true, false, ◌||◌, List, [], ◌∷◌, ◌++◌, length, ◌⊎◌, inl, inr, ◌==◌, if◌then◌else◌, refl, sym, ap, ◌∙◌, arith, append_assoc, length-append}
use Rattle.std.proofs.lemmas.Bool.{eq-eqb, or_cases, eqb-true}
use Rattle.json_text.specs.Json.{Rule, ◌then◌, byte, nothing, space, is_space}
use Rattle.json_text.specs.Read.{reads, Reader, skip, is_number_byte, read_more, read_first, read_list}
use Rattle.json_text.proofs.NumbersRead.{NotNumber}

-- no whitespace follows
abbrev pub NotSpace : List ℕ → Type 0
NotSpace [] = Unit {0}
NotSpace (b ∷ bs) = is_space b ≡ false

skip_end : (at n : ℕ) (rest : List ℕ) → NotSpace rest → at ≡ n → skip at rest ≡ reads tt n rest
unfolding skip
skip_end at n [] h e = ap (λ i. reads tt i []) e
skip_end at n (b ∷ bs) h e = rw h (ap (λ i. reads tt i (b ∷ bs)) e)

pub skip_read : (at i n : ℕ) (gap rest : List ℕ) → space i gap → NotSpace rest → n ≡ at + length gap → skip at (gap ++ rest) ≡ reads tt n rest
unfolding skip
skip_read at i n [] rest h k e = skip_end at n rest k (omega arith)
skip_read at i n (b ∷ bs) rest h k e = rw h.0 (skip_read (at + 1) i n bs rest h.1 k (omega arith))

-- a closing bracket is told from whitespace, a number and a comma
pub record Closes (close : ℕ) : Type 0 where
  pub no_space : is_space close ≡ false
  pub no_number : is_number_byte close ≡ false
  pub no_comma : (44 == close) ≡ false

-- an entry's first byte is told from whitespace and the closing bracket
pub record Starts (close : ℕ) (bs : List ℕ) : Type 0 where
  pub first : ℕ
  pub after : List ℕ
  pub is : bs ≡ first ∷ after
  pub no_space : is_space first ≡ false
  pub no_close : (first == close) ≡ false

abbrev pub EntryRead : {A : Type 0} → Reader A → Rule → A → Type 0
EntryRead entry E x = (at n : ℕ) (bs rest : List ℕ) → E at bs → NotNumber rest → n ≡ at + length bs → entry at (bs ++ rest) ≡ reads x n rest

abbrev pub EntryStarts : ℕ → Rule → Type 0
EntryStarts close E = (at : ℕ) (bs : List ℕ) → E at bs → Starts close bs

-- what follows an entry is nothing or a comma and more
abbrev pub MoreStarts : Rule → Type 0
MoreStarts M = (at : ℕ) (bs : List ℕ) → M at bs → (bs ≡ []) ⊎ ((cs : List ℕ) × (bs ≡ 44 ∷ cs))

abbrev pub MoreRead : {A L : Type 0} → ℕ → Reader A → L → (A → L → L) → Rule → L → Type 0
MoreRead close entry nil cons M l = (m at n : ℕ) (bs rest : List ℕ) → M at bs → length bs < m → n ≡ at + length bs + 1 → read_more close entry nil cons m at (bs ++ close ∷ rest) ≡ reads l n rest

pub starts_no_space : (close : ℕ) (bs rest : List ℕ) → Starts close bs → NotSpace (bs ++ rest)
starts_no_space close bs rest s = rw s.is s.no_space

more_no_space : (close : ℕ) (bs rest : List ℕ) → Closes close → (bs ≡ []) ⊎ ((cs : List ℕ) × (bs ≡ 44 ∷ cs)) → NotSpace (bs ++ close ∷ rest)
more_no_space close bs rest c (inl e) = rw e c.no_space
more_no_space close bs rest c (inr k) = rw k.1 refl

more_no_number : (close : ℕ) (bs rest : List ℕ) → Closes close → (bs ≡ []) ⊎ ((cs : List ℕ) × (bs ≡ 44 ∷ cs)) → NotNumber (bs ++ close ∷ rest)
more_no_number close bs rest c (inl e) = rw e c.no_number
more_no_number close bs rest c (inr k) = rw k.1 refl

space_byte : (b : ℕ) → is_space b ≡ true → is_number_byte b ≡ false
space_byte b h = elim (or_cases (b == 32) ((b == 9) || ((b == 10) || (b == 13))) h) [
  | inl k ↦ rw (eqb-true b 32 k) refl
  | inr k ↦ elim (or_cases (b == 9) ((b == 10) || (b == 13)) k) [
    | inl l ↦ rw (eqb-true b 9 l) refl
    | inr l ↦ elim (or_cases (b == 10) (b == 13) l) [ inl m ↦ rw (eqb-true b 10 m) refl | inr m ↦ rw (eqb-true b 13 m) refl ]
  ]
]

pub gap_no_number : (at : ℕ) (gap rest : List ℕ) → space at gap → NotNumber rest → NotNumber (gap ++ rest)
gap_no_number at [] rest h k = k
gap_no_number at (b ∷ bs) rest h k = space_byte b h.0

more_goes : {A L : Type 0} (close : ℕ) (entry : Reader A) (nil : L) (cons : A → L → L) (x : A) (l : L) (m at p q r n : ℕ) (us vs ws zs rest : List ℕ)
    → (44 == close) ≡ false → skip (at + 1) us ≡ reads tt p vs → entry p vs ≡ reads x q ws → skip q ws ≡ reads tt r zs → read_more close entry nil cons m r zs ≡ reads l n rest
    → read_more close entry nil cons (suc m) at (44 ∷ us) ≡ reads (cons x l) n rest
unfolding read_more
more_goes close entry nil cons x l m at p q r n us vs ws zs rest c h i j k = rw (c, h, i, j, k) refl

byte_goes : {A L : Type 0} (close : ℕ) (entry : Reader A) (nil : L) (cons : A → L → L) (x : A) (l : L) (at q r n b : ℕ) (us ws zs rest : List ℕ)
    → (b == close) ≡ false → entry at (b ∷ us) ≡ reads x q ws → skip q ws ≡ reads tt r zs → read_more close entry nil cons (length zs) r zs ≡ reads l n rest
    → read_first close entry nil cons at (b ∷ us) ≡ reads (cons x l) n rest
byte_goes close entry nil cons x l at q r n b us ws zs rest c i j k = rw (c, i, j, k) refl

first_goes : {A L : Type 0} (close : ℕ) (entry : Reader A) (nil : L) (cons : A → L → L) (x : A) (l : L) (at q r n : ℕ) (vs us ws zs rest : List ℕ)
    → Starts close vs → entry at (vs ++ us) ≡ reads x q ws → skip q ws ≡ reads tt r zs → read_more close entry nil cons (length zs) r zs ≡ reads l n rest
    → read_first close entry nil cons at (vs ++ us) ≡ reads (cons x l) n rest
first_goes close entry nil cons x l at q r n vs us ws zs rest s i j k =
    ap (λ v. read_first close entry nil cons at (v ++ us)) s.is ∙ byte_goes close entry nil cons x l at q r n s.first (s.after ++ us) ws zs rest s.no_close (ap (λ v. entry at (v ++ us)) (sym s.is) ∙ i) j k

regrouped : (g v h m rest : List ℕ) → (g ++ (v ++ (h ++ m))) ++ rest ≡ g ++ (v ++ (h ++ (m ++ rest)))
regrouped g v h m rest = simp append_assoc

-- a sequence of five parts, and of four
whole_5 : (bs a b g c v d h m rest : List ℕ) → bs ≡ a ++ b → a ≡ 44 ∷ [] → b ≡ g ++ c → c ≡ v ++ d → d ≡ h ++ m → bs ++ rest ≡ 44 ∷ (g ++ (v ++ (h ++ (m ++ rest))))
whole_5 bs a b g c v d h m rest p q r s t = rw (p, q, r, s, t) (ap (λ l. 44 ∷ l) (regrouped g v h m rest))

length_5 : (bs a b g c v d h m : List ℕ) → bs ≡ a ++ b → a ≡ 44 ∷ [] → b ≡ g ++ c → c ≡ v ++ d → d ≡ h ++ m → length bs ≡ 1 + length g + length v + length h + length m
length_5 bs a b g c v d h m p q r s t = rw (p, q, r, s, t) (omega (arith, length-append g (v ++ (h ++ m)), length-append v (h ++ m), length-append h m))

whole_4 : (bs g c v d h m rest : List ℕ) → bs ≡ g ++ c → c ≡ v ++ d → d ≡ h ++ m → bs ++ rest ≡ g ++ (v ++ (h ++ (m ++ rest)))
whole_4 bs g c v d h m rest r s t = rw (r, s, t) (regrouped g v h m rest)

length_4 : (bs g c v d h m : List ℕ) → bs ≡ g ++ c → c ≡ v ++ d → d ≡ h ++ m → length bs ≡ length g + length v + length h + length m
length_4 bs g c v d h m r s t = rw (r, s, t) (omega (arith, length-append g (v ++ (h ++ m)), length-append v (h ++ m), length-append h m))

pub no_more_read : {A L : Type 0} (close : ℕ) (entry : Reader A) (nil : L) (cons : A → L → L) → MoreRead close entry nil cons nothing nil
unfolding read_more
no_more_read close entry nil cons zero at n bs rest h less e = absurd (omega arith)
no_more_read close entry nil cons (suc m) at n bs rest h less e =
    let place : at + 1 ≡ n = omega (arith, e, ap length h) in
    rw h (rw (eq-eqb close close refl) (ap (λ i. reads nil i rest) place))

pub more_read : {A L : Type 0} (close : ℕ) (entry : Reader A) (nil : L) (cons : A → L → L) (E M : Rule) (x : A) (l : L) → Closes close → EntryStarts close E → EntryRead entry E x → MoreStarts M → MoreRead close entry nil cons M l
    → MoreRead close entry nil cons (byte 44 then (space then (E then (space then M)))) (cons x l)
more_read close entry nil cons E M x l c starts reads_entry more reads_more zero at n bs rest f less e = absurd (omega arith)
more_read close entry nil cons E M x l c starts reads_entry more reads_more (suc m) at n bs rest f less e =
    let g = f.4 in let h = g.4 in let k = h.4 in
    let one : length f.0 ≡ 1 = ap length f.3 in
    let size : length bs ≡ 1 + length g.0 + length h.0 + length k.0 + length k.1 = length_5 bs f.0 f.1 g.0 g.1 h.0 h.1 k.0 k.1 f.2 f.3 g.2 h.2 k.2 in
    rw (whole_5 bs f.0 f.1 g.0 g.1 h.0 h.1 k.0 k.1 (close ∷ rest) f.2 f.3 g.2 h.2 k.2)
    (more_goes close entry nil cons x l m at (at + length f.0 + length g.0) (at + length f.0 + length g.0 + length h.0) (at + length f.0 + length g.0 + length h.0 + length k.0) n
    (g.0 ++ (h.0 ++ (k.0 ++ (k.1 ++ close ∷ rest)))) (h.0 ++ (k.0 ++ (k.1 ++ close ∷ rest))) (k.0 ++ (k.1 ++ close ∷ rest)) (k.1 ++ close ∷ rest) rest c.no_comma
    (skip_read (at + 1) (at + length f.0) (at + length f.0 + length g.0) g.0 _ g.3 (starts_no_space close h.0 _ (starts _ h.0 h.3)) (omega (arith, one)))
    (reads_entry (at + length f.0 + length g.0) _ h.0 _ h.3 (gap_no_number 0 k.0 _ k.3 (more_no_number close k.1 rest c (more _ k.1 k.4))) refl)
    (skip_read _ (at + length f.0 + length g.0 + length h.0) _ k.0 _ k.3 (more_no_space close k.1 rest c (more _ k.1 k.4)) refl)
    (reads_more m _ n k.1 rest k.4 (omega (arith, size, less)) (omega (arith, one, size, e))))

-- behind the opening bracket and whitespace, which ends at p
first_read : {A L : Type 0} (close : ℕ) (entry : Reader A) (nil : L) (cons : A → L → L) (E M : Rule) (x : A) (l : L) → Closes close → EntryStarts close E → EntryRead entry E x → MoreStarts M → MoreRead close entry nil cons M l
    → (p n : ℕ) (v h m rest : List ℕ) → E p v → space (p + length v) h → M (p + length v + length h) m → n ≡ p + length v + length h + length m + 1 → read_first close entry nil cons p (v ++ (h ++ (m ++ close ∷ rest))) ≡ reads (cons x l) n rest
first_read close entry nil cons E M x l c starts reads_entry more reads_more p n v h m rest is_entry is_gap is_more e =
    let less : length m < length (m ++ close ∷ rest) = omega (arith, length-append m (close ∷ rest)) in
    first_goes close entry nil cons x l p (p + length v) (p + length v + length h) n v (h ++ (m ++ close ∷ rest)) (h ++ (m ++ close ∷ rest)) (m ++ close ∷ rest) rest (starts p v is_entry)
    (reads_entry p (p + length v) v _ is_entry (gap_no_number 0 h _ is_gap (more_no_number close m rest c (more _ m is_more))) refl)
    (skip_read _ 0 _ h _ is_gap (more_no_space close m rest c (more _ m is_more)) refl)
    (reads_more (length (m ++ close ∷ rest)) _ n m rest is_more less e)

open_goes : {A L : Type 0} (open_byte close : ℕ) (entry : Reader A) (nil : L) (cons : A → L → L) (l : L) (at p n : ℕ) (us vs rest : List ℕ)
    → skip (at + 1) us ≡ reads tt p vs → read_first close entry nil cons p vs ≡ reads l n rest → read_list open_byte close entry nil cons at (open_byte ∷ us) ≡ reads l n rest
open_goes open_byte close entry nil cons l at p n us vs rest h k = rw (eq-eqb open_byte open_byte refl, h) k

-- a list with no entry, and one with some: what stands between the brackets begins at i
pub nil_read : {A L : Type 0} (open_byte close : ℕ) (entry : Reader A) (nil : L) (cons : A → L → L) (at i n : ℕ) (bs rest : List ℕ) → Closes close → space i bs → n ≡ at + length bs + 2
    → read_list open_byte close entry nil cons at (open_byte ∷ (bs ++ close ∷ rest)) ≡ reads nil n rest
nil_read open_byte close entry nil cons at i n bs rest c h e =
    let place : at + 1 + length bs + 1 ≡ n = omega arith in
    open_goes open_byte close entry nil cons nil at (at + 1 + length bs) n (bs ++ close ∷ rest) (close ∷ rest) rest (skip_read (at + 1) i (at + 1 + length bs) bs (close ∷ rest) h c.no_space refl) (rw (eq-eqb close close refl) (ap (λ i. reads nil i rest) place))

pub cons_read : {A L : Type 0} (open_byte close : ℕ) (entry : Reader A) (nil : L) (cons : A → L → L) (E M : Rule) (x : A) (l : L) → Closes close → EntryStarts close E → EntryRead entry E x → MoreStarts M → MoreRead close entry nil cons M l
    → (at i n : ℕ) (bs rest : List ℕ) → (space then (E then (space then M))) i bs → i ≡ at + 1 → n ≡ at + length bs + 2
    → read_list open_byte close entry nil cons at (open_byte ∷ (bs ++ close ∷ rest)) ≡ reads (cons x l) n rest
cons_read open_byte close entry nil cons E M x l c starts reads_entry more reads_more at i n bs rest g e d =
    let h = g.4 in let k = h.4 in
    let size : length bs ≡ length g.0 + length h.0 + length k.0 + length k.1 = length_4 bs g.0 g.1 h.0 h.1 k.0 k.1 g.2 h.2 k.2 in
    ap (λ us. read_list open_byte close entry nil cons at (open_byte ∷ us)) (whole_4 bs g.0 g.1 h.0 h.1 k.0 k.1 (close ∷ rest) g.2 h.2 k.2)
    ∙ open_goes open_byte close entry nil cons (cons x l) at (i + length g.0) n (g.0 ++ (h.0 ++ (k.0 ++ (k.1 ++ close ∷ rest)))) (h.0 ++ (k.0 ++ (k.1 ++ close ∷ rest))) rest
    (skip_read (at + 1) 0 (i + length g.0) g.0 _ g.3 (starts_no_space close h.0 _ (starts _ h.0 h.3)) (omega arith))
    (first_read close entry nil cons E M x l c starts reads_entry more reads_more (i + length g.0) n h.0 k.0 k.1 rest h.3 k.3 k.4 (omega (arith, size, e, d)))
