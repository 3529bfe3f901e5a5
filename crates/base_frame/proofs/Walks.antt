-- What the machine does with the bytes of a block, without the bound on its size.
use Rattle.std.proofs.Common.{◌≡◌, refl, ◌∙◌, sym, subst, ℕ, ◌+◌, ◌-◌, ◌*◌, ◌≤◌, Bool, true, false, List, [], ◌∷◌, ◌++◌, append_assoc, append-nil, arith}
use Rattle.std.specs.Prelude.{◌==◌, nat_le, Option, Some, None}
use Rattle.std.proofs.lemmas.Bool.{eqb-false, ne_eqb, le-leb}
use Rattle.std.proofs.lemmas.Bool.Decides.{nat_tests}
use Rattle.base_frame.specs.declared.block.BadWhy.TheVariants.{TwoLengths, TooLong}
use Rattle.base_frame.specs.declared.block.Part.{Part}
use Rattle.base_frame.specs.declared.block.Part.TheVariants.{Start, LengthName, OtherName, Value, Before, Digits, After, LineEnd, BlockEnd}
use Rattle.base_frame.specs.declared.block.State.{State}
use Rattle.base_frame.specs.declared.block.Move.TheVariants.{Goes, Bad}
use Rattle.base_frame.specs.Block.{is_name_byte, is_value_byte, is_space, is_digit, goes, lettered, part_step, start}
use Rattle.base_frame.specs.Grammar.{Each, NotEmpty, number, IsLengthName, IsField, IsLengthField, Lines, AreFields, HaveLength, IsOpenBlock}
use Rattle.base_frame.proofs.Names.{SoFar, letter_in, other_in, nothing_so_far, fourteen, not_fourteen, other_is}

abbrev pub st : Part → Option ℕ → State
st p l = record { part = p; length = l }

abbrev pub Walks : ℕ → State → List ℕ → State → Type 0
Walks limit s [] t = s ≡ t
Walks limit s (b ∷ bs) t = (u : State) × (part_step limit b s.length s.part ≡ Goes u) × Walks limit u bs t

pub walk_then : (limit : ℕ) (s t u : State) (xs ys : List ℕ) → Walks limit s xs t → Walks limit t ys u → Walks limit s (xs ++ ys) u
walk_then limit s t u [] ys h k = subst (λ (x : State). Walks limit x ys u) (sym h) k
walk_then limit s t u (x ∷ xs) ys h k = (h.0, h.1, walk_then limit h.0 t u xs ys h.2 k)

pub walk_split : (limit : ℕ) (s u : State) (xs ys : List ℕ) → Walks limit s (xs ++ ys) u → (t : State) × Walks limit s xs t × Walks limit t ys u
walk_split limit s u [] ys h = (s, refl, h)
walk_split limit s u (x ∷ xs) ys h = let r = walk_split limit h.0 u xs ys h.2 in (r.0, (h.0, h.1, r.1), r.2)

goes_same : (u v : State) → Goes u ≡ Goes v → u ≡ v
goes_same u v h = cc

pub walk_same : (limit : ℕ) (s t u : State) (xs : List ℕ) → Walks limit s xs t → Walks limit s xs u → t ≡ u
walk_same limit s t u [] h k = sym h ∙ k
walk_same limit s t u (x ∷ xs) h k =
    let same : h.0 ≡ k.0 = goes_same h.0 k.0 (sym h.1 ∙ k.1) in
    walk_same limit k.0 t u xs (subst (λ (v : State). Walks limit v xs t) same h.2) k.2

-- a name

name_is : (b : ℕ) → is_name_byte b ≡ true → ((b == 58) ≡ false) × ((b == 13) ≡ false)
name_is b h = (grind (arith, nat_tests), grind (arith, nat_tests))

letter_step : (limit : ℕ) (b k : ℕ) (l : Option ℕ) → is_name_byte b ≡ true → part_step limit b l (LengthName k) ≡ lettered k b l
letter_step limit b k l h = rw (h, (name_is b h).0) refl

first_step : (limit : ℕ) (b : ℕ) (l : Option ℕ) → is_name_byte b ≡ true → part_step limit b l Start ≡ lettered 0 b l
first_step limit b l h = rw (h, (name_is b h).1) refl

other_step : (limit : ℕ) (b : ℕ) (l : Option ℕ) → is_name_byte b ≡ true → part_step limit b l OtherName ≡ goes OtherName l
other_step limit b l h = rw (h, (name_is b h).0) refl

abbrev pub Named : ℕ → Option ℕ → List ℕ → Part → List ℕ → Type 0
Named limit l name p bs = (q : Part) × Walks limit (st p l) bs (st q l) × SoFar (name ++ bs) q

name_goes : (limit : ℕ) (l : Option ℕ) (name : List ℕ) (p : Part) (b : ℕ) (bs : List ℕ) (q : Part) → part_step limit b l p ≡ goes q l → Named limit l (name ++ b ∷ []) q bs → Named limit l name p (b ∷ bs)
name_goes limit l name p b bs q e h = (h.0, (st q l, e, h.1), subst (λ x. SoFar x h.0) (append_assoc name (b ∷ []) bs) h.2)

pub walk_name : (limit : ℕ) (l : Option ℕ) (name : List ℕ) (p : Part) (bs : List ℕ) → SoFar name p → Each is_name_byte bs → Named limit l name p bs
walk_name limit l name p [] h k = (p, refl, subst (λ x. SoFar x p) (sym (append-nil name)) h)
walk_name limit l name (LengthName n) (b ∷ bs) h k =
    let r = letter_in name b n l h in
    name_goes limit l name (LengthName n) b bs r.0 (letter_step limit b n l k.0 ∙ r.1) (walk_name limit l (name ++ b ∷ []) r.0 bs r.2 k.1)
walk_name limit l name OtherName (b ∷ bs) h k =
    name_goes limit l name OtherName b bs OtherName (other_step limit b l k.0) (walk_name limit l (name ++ b ∷ []) OtherName bs (other_in name b h) k.1)
walk_name limit l name Start (b ∷ bs) h k = absurd h
walk_name limit l name Value (b ∷ bs) h k = absurd h
walk_name limit l name Before (b ∷ bs) h k = absurd h
walk_name limit l name Digits (b ∷ bs) h k = absurd h
walk_name limit l name After (b ∷ bs) h k = absurd h
walk_name limit l name LineEnd (b ∷ bs) h k = absurd h
walk_name limit l name BlockEnd (b ∷ bs) h k = absurd h

-- from the front of a line
pub walk_whole_name : (limit : ℕ) (l : Option ℕ) (name : List ℕ) → NotEmpty name → Each is_name_byte name → Named limit l [] Start name
walk_whole_name limit l [] h k = absurd h
walk_whole_name limit l (b ∷ bs) h k =
    let r = letter_in [] b 0 l nothing_so_far in
    name_goes limit l [] Start b bs r.0 (first_step limit b l k.0 ∙ r.1) (walk_name limit l (b ∷ []) r.0 bs r.2 k.1)

-- the colon behind a name

pub colon_other : (limit : ℕ) (l : Option ℕ) (name : List ℕ) (q : Part) → SoFar name q → (IsLengthName name → ⊥) → part_step limit 58 l q ≡ goes Value l
colon_other limit l name (LengthName k) h n = rw (ne_eqb k 14 (λ e. n (fourteen name k h e))) refl
colon_other limit l name OtherName h n = refl
colon_other limit l name Start h n = absurd h
colon_other limit l name Value h n = absurd h
colon_other limit l name Before h n = absurd h
colon_other limit l name Digits h n = absurd h
colon_other limit l name After h n = absurd h
colon_other limit l name LineEnd h n = absurd h
colon_other limit l name BlockEnd h n = absurd h

is_fourteen : (name : List ℕ) (k : ℕ) → SoFar name (LengthName k) → IsLengthName name → (t : Bool) → (k == 14) ≡ t → t ≡ true
is_fourteen name k h n true e = refl
is_fourteen name k h n false e = absurd (not_fourteen name k h (eqb-false k 14 e) n)

-- the name of a length is at its fourteenth letter
pub whole_name : (name : List ℕ) (q : Part) → SoFar name q → IsLengthName name → (k : ℕ) × (q ≡ LengthName k) × ((k == 14) ≡ true)
whole_name name (LengthName k) h n = (k, refl, is_fourteen name k h n (k == 14) refl)
whole_name name OtherName h n = absurd (other_is name h n)
whole_name name Start h n = absurd h
whole_name name Value h n = absurd h
whole_name name Before h n = absurd h
whole_name name Digits h n = absurd h
whole_name name After h n = absurd h
whole_name name LineEnd h n = absurd h
whole_name name BlockEnd h n = absurd h

colon_step : (limit k : ℕ) → (k == 14) ≡ true → part_step limit 58 None (LengthName k) ≡ goes Before None
colon_step limit k e = rw e refl

pub second_step : (limit k n : ℕ) → (k == 14) ≡ true → part_step limit 58 (Some n) (LengthName k) ≡ Bad TwoLengths
second_step limit k n e = rw e refl

pub colon_length : (limit : ℕ) (name : List ℕ) (q : Part) → SoFar name q → IsLengthName name → part_step limit 58 None q ≡ goes Before None
colon_length limit name q h n = let w = whole_name name q h n in subst (λ p. part_step limit 58 None p ≡ goes Before None) (sym w.1) (colon_step limit w.0 w.2)

-- a value

value_is : (b : ℕ) → is_value_byte b ≡ true → (b == 13) ≡ false
value_is b h = grind (arith, nat_tests)

value_step : (limit b : ℕ) (l : Option ℕ) → is_value_byte b ≡ true → part_step limit b l Value ≡ goes Value l
value_step limit b l h = rw (value_is b h, h) refl

walk_value : (limit : ℕ) (l : Option ℕ) (bs : List ℕ) → Each is_value_byte bs → Walks limit (st Value l) bs (st Value l)
walk_value limit l [] h = refl
walk_value limit l (b ∷ bs) h = (st Value l, value_step limit b l h.0, walk_value limit l bs h.1)

line_ends : (limit : ℕ) (l : Option ℕ) (p : Part) → part_step limit 13 l p ≡ goes LineEnd l → Walks limit (st p l) (13 ∷ 10 ∷ []) (st Start l)
line_ends limit l p h = (st LineEnd l, h, (st Start l, refl, refl))

walk_field : (limit : ℕ) (l : Option ℕ) (bs : List ℕ) → IsField bs → Walks limit (st Start l) bs (st Start l)
walk_field limit l bs h =
    let n = walk_whole_name limit l h.name h.named h.name_bytes in
    let v : Walks limit (st n.0 l) (58 ∷ (h.value ++ 13 ∷ 10 ∷ [])) (st Start l) =
    (st Value l, colon_other limit l h.name n.0 n.2 h.other, walk_then limit (st Value l) (st Value l) (st Start l) h.value (13 ∷ 10 ∷ []) (walk_value limit l h.value h.value_bytes) (line_ends limit l Value refl)) in
    subst (λ x. Walks limit (st Start l) x (st Start l)) (sym h.bytes) (walk_then limit (st Start l) (st n.0 l) (st Start l) h.name (58 ∷ (h.value ++ 13 ∷ 10 ∷ [])) n.1 v)

walk_lines : (limit : ℕ) (l : Option ℕ) (ls : List (List ℕ)) (bs : List ℕ) → Lines ls bs → Walks limit (st Start l) bs (st Start l)
walk_lines limit l [] bs h = subst (λ x. Walks limit (st Start l) x (st Start l)) (sym h) refl
walk_lines limit l (x ∷ ls) bs h =
    subst (λ y. Walks limit (st Start l) y (st Start l)) (sym h.1.1) (walk_then limit (st Start l) (st Start l) (st Start l) x h.1.0 (walk_field limit l x h.0) (walk_lines limit l ls h.1.0 h.1.2))

pub walk_fields : (limit : ℕ) (l : Option ℕ) (bs : List ℕ) → AreFields bs → Walks limit (st Start l) bs (st Start l)
walk_fields limit l bs h = walk_lines limit l h.0 bs h.1

-- a length

space_before : (limit b : ℕ) → is_space b ≡ true → part_step limit b None Before ≡ goes Before None
space_before limit b h = rw h refl

pub walk_before : (limit : ℕ) (bs : List ℕ) → Each is_space bs → Walks limit (st Before None) bs (st Before None)
walk_before limit [] h = refl
walk_before limit (b ∷ bs) h = (st Before None, space_before limit b h.0, walk_before limit bs h.1)

space_after : (limit b : ℕ) (l : Option ℕ) → is_space b ≡ true → part_step limit b l After ≡ goes After l
space_after limit b l h = rw h refl

walk_after : (limit : ℕ) (l : Option ℕ) (bs : List ℕ) → Each is_space bs → Walks limit (st After l) bs (st After l)
walk_after limit l [] h = refl
walk_after limit l (b ∷ bs) h = (st After l, space_after limit b l h.0, walk_after limit l bs h.1)

space_is : (b : ℕ) → is_space b ≡ true → (b == 13) ≡ false
space_is b h = grind (arith, nat_tests)

space_digits : (limit b : ℕ) (l : Option ℕ) → is_space b ≡ true → part_step limit b l Digits ≡ goes After l
space_digits limit b l h = rw (space_is b h, h) refl

-- from the digits to the front of the next line
walk_behind : (limit : ℕ) (l : Option ℕ) (bs : List ℕ) → Each is_space bs → Walks limit (st Digits l) (bs ++ 13 ∷ 10 ∷ []) (st Start l)
walk_behind limit l [] h = line_ends limit l Digits refl
walk_behind limit l (b ∷ bs) h = (st After l, space_digits limit b l h.0, walk_then limit (st After l) (st After l) (st Start l) bs (13 ∷ 10 ∷ []) (walk_after limit l bs h.1) (line_ends limit l After refl))

digit_is : (b : ℕ) → is_digit b ≡ true → ((b == 13) ≡ false) × (is_space b ≡ false)
digit_is b h = (grind (arith, nat_tests), grind (arith, nat_tests))

digit_first : (limit b : ℕ) → is_digit b ≡ true → nat_le (0 * 10 + (b - 48)) limit ≡ true → part_step limit b None Before ≡ goes Digits (Some (0 * 10 + (b - 48)))
digit_first limit b h e = rw ((digit_is b h).1, h, e) refl

digit_next : (limit b v : ℕ) → is_digit b ≡ true → nat_le (v * 10 + (b - 48)) limit ≡ true → part_step limit b (Some v) Digits ≡ goes Digits (Some (v * 10 + (b - 48)))
digit_next limit b v h e = rw ((digit_is b h).0, (digit_is b h).1, h, e) refl

pub beyond_first : (limit b : ℕ) → is_digit b ≡ true → nat_le (0 * 10 + (b - 48)) limit ≡ false → part_step limit b None Before ≡ Bad TooLong
beyond_first limit b h e = rw ((digit_is b h).1, h, e) refl

pub beyond_next : (limit b v : ℕ) → is_digit b ≡ true → nat_le (v * 10 + (b - 48)) limit ≡ false → part_step limit b (Some v) Digits ≡ Bad TooLong
beyond_next limit b v h e = rw ((digit_is b h).0, (digit_is b h).1, h, e) refl

grows : (v : ℕ) (ds : List ℕ) → v ≤ number v ds
grows v [] = omega arith
grows v (d ∷ ds) = let k = grows (v * 10 + (d - 48)) ds in omega (arith, k)

fits : (v limit : ℕ) (ds : List ℕ) → number v ds ≤ limit → nat_le v limit ≡ true
fits v limit ds h = let k = grows v ds in le-leb v limit (omega (arith, k, h))

pub walk_more_digits : (limit v : ℕ) (ds : List ℕ) → Each is_digit ds → number v ds ≤ limit → Walks limit (st Digits (Some v)) ds (st Digits (Some (number v ds)))
walk_more_digits limit v [] h e = refl
walk_more_digits limit v (d ∷ ds) h e =
    (st Digits (Some (v * 10 + (d - 48))), digit_next limit d v h.0 (fits (v * 10 + (d - 48)) limit ds e), walk_more_digits limit (v * 10 + (d - 48)) ds h.1 e)

pub walk_digits : (limit : ℕ) (ds : List ℕ) → NotEmpty ds → Each is_digit ds → number 0 ds ≤ limit → Walks limit (st Before None) ds (st Digits (Some (number 0 ds)))
walk_digits limit [] n h e = absurd n
walk_digits limit (d ∷ ds) n h e =
    (st Digits (Some (0 * 10 + (d - 48))), digit_first limit d h.0 (fits (0 * 10 + (d - 48)) limit ds e), walk_more_digits limit (0 * 10 + (d - 48)) ds h.1 e)

length_named : (name : List ℕ) → IsLengthName name → NotEmpty name
length_named [] h = cc
length_named (b ∷ bs) h = tt

-- the name of a length and its colon
pub walk_length_name : (limit : ℕ) (name : List ℕ) → IsLengthName name → Each is_name_byte name → Walks limit (st Start None) (name ++ 58 ∷ []) (st Before None)
walk_length_name limit name h k =
    let n = walk_whole_name limit None name (length_named name h) k in
    walk_then limit (st Start None) (st n.0 None) (st Before None) name (58 ∷ []) n.1 (st Before None, colon_length limit name n.0 n.2 h, refl)

walk_length : (limit n : ℕ) (bs : List ℕ) → IsLengthField n bs → n ≤ limit → Walks limit (st Start None) bs (st Start (Some n))
walk_length limit n bs h e =
    let within : number 0 h.digits ≤ limit = subst (λ x. x ≤ limit) (sym h.counts) e in
    let digits = walk_then limit (st Before None) (st Digits (Some (number 0 h.digits))) (st Start (Some (number 0 h.digits))) h.digits (h.behind ++ 13 ∷ 10 ∷ [])
    (walk_digits limit h.digits h.some_digits h.digit_bytes within) (walk_behind limit (Some (number 0 h.digits)) h.behind h.more_spaces) in
    let value = walk_then limit (st Before None) (st Before None) (st Start (Some (number 0 h.digits))) h.before (h.digits ++ (h.behind ++ 13 ∷ 10 ∷ [])) (walk_before limit h.before h.spaces) digits in
    let whole = walk_then limit (st Start None) (st Before None) (st Start (Some (number 0 h.digits))) (h.name ++ 58 ∷ []) (h.before ++ (h.digits ++ (h.behind ++ 13 ∷ 10 ∷ []))) (walk_length_name limit h.name h.named h.name_bytes) value in
    let same : (h.name ++ 58 ∷ []) ++ (h.before ++ (h.digits ++ (h.behind ++ 13 ∷ 10 ∷ []))) ≡ bs = sym (h.bytes ∙ simp append_assoc) in
    subst (λ m. Walks limit (st Start None) bs (st Start (Some m))) h.counts (subst (λ x. Walks limit (st Start None) x (st Start (Some (number 0 h.digits)))) same whole)

pub walk_have : (limit n : ℕ) (bs : List ℕ) → HaveLength limit n bs → Walks limit (st Start None) bs (st Start (Some n))
walk_have limit n bs h =
    subst (λ x. Walks limit (st Start None) x (st Start (Some n))) (sym h.bytes)
    (walk_then limit (st Start None) (st Start None) (st Start (Some n)) h.front (h.field ++ h.back) (walk_fields limit None h.front h.before)
    (walk_then limit (st Start None) (st Start (Some n)) (st Start (Some n)) h.field h.back (walk_length limit n h.field h.length_field h.within) (walk_fields limit (Some n) h.back h.behind)))

-- a whole block but for its last byte
pub walk_block : (limit n : ℕ) (bs : List ℕ) → IsOpenBlock limit n bs → (body : List ℕ) × (bs ≡ body ++ 10 ∷ []) × Walks limit start body (st BlockEnd (Some n))
walk_block limit n bs h = (
  h.0 ++ 13 ∷ [],
  h.1 ∙ sym (append_assoc h.0 (13 ∷ []) (10 ∷ [])),
  walk_then limit start (st Start (Some n)) (st BlockEnd (Some n)) h.0 (13 ∷ []) (walk_have limit n h.0 h.2) (st BlockEnd (Some n), refl, refl),
)
