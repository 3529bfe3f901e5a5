-- The bytes that pass as a number are the numbers of RFC 8259, section 6.
use Rattle.std.proofs.Common.{◌≡◌, refl, ℕ, Bool, true, false, List, [], ◌∷◌, ◌++◌, ◌⊎◌, inl, inr, ◌∙◌, ap, subst}
use Rattle.std.specs.Prelude.{IsTrue, Some}
use Rattle.json_text.specs.Number.{is_digit, Digits, SomeDigits, IsMinus, IsWhole, IsFraction, IsExponent, IsNumber}
use Rattle.json_text.specs.Read.{is_number_byte}
use Rattle.json_token.specs.declared.number.NumberPart.{NumberPart}
use Rattle.json_token.specs.declared.number.NumberPart.TheVariants as part
use Rattle.json_token.specs.declared.number.NumberMove.{NumberMove}
use Rattle.json_token.specs.declared.number.NumberMove.TheVariants.{Goes, Ends, Stops}
use Rattle.json_token.specs.declared.number.NumberByte.{NumberByte}
use Rattle.json_token.specs.declared.number.NumberByte.TheVariants as byte
use Rattle.json_token.specs.NumberMoves.{number_byte, begin_with, number_begin, number_moved, number_move, number_may_end}
use Rattle.json_token.proofs.NumberBytes.{zero_is, one_is, zero_digit, one_digit, point_is, letter_is, plus_is, minus_is, one_class, digit_class, zero_class, point_class, plus_class, minus_class, letter_class, other_is, other_class}

abbrev pub rem_move : NumberMove → (NumberPart → Bool) → Bool
rem_move (Goes p) k = k p
rem_move Ends k = false
rem_move Stops k = false

-- these bytes complete a number of which this part has been read
abbrev pub rem : NumberPart → List ℕ → Bool
rem p [] = number_may_end p
rem p (b ∷ bs) = rem_move (number_move p b) (λ q. rem q bs)

-- from the grammar

goes : (p q : NumberPart) (k : NumberByte) (b : ℕ) (bs : List ℕ) → number_byte b ≡ k → number_moved p k ≡ Goes q → rem q bs ≡ true → rem p (b ∷ bs) ≡ true
goes p q k b bs class move rest = ap (λ k. rem_move (number_moved p k) (λ r. rem r bs)) class ∙ (ap (λ m. rem_move m (λ r. rem r bs)) move ∙ rest)

goes_digit : (p q : NumberPart) (b : ℕ) (bs : List ℕ) → IsTrue (is_digit b) → number_moved p byte.Zero ≡ Goes q → number_moved p byte.OneToNine ≡ Goes q → rem q bs ≡ true → rem p (b ∷ bs) ≡ true
goes_digit p q b bs d zero_goes one_goes rest = go (digit_class b d)
  where
    go : (number_byte b ≡ byte.Zero) ⊎ (number_byte b ≡ byte.OneToNine) → rem p (b ∷ bs) ≡ true
    go (inl e) = goes p q byte.Zero b bs e zero_goes rest
    go (inr e) = goes p q byte.OneToNine b bs e one_goes rest

exponent_digits : (ds : List ℕ) → Digits ds → rem part.Exponent ds ≡ true
exponent_digits [] d = refl
exponent_digits (b ∷ bs) d = goes_digit part.Exponent part.Exponent b bs d.0 refl refl (exponent_digits bs d.1)

letter_digits : (ds : List ℕ) → SomeDigits ds → rem part.Letter ds ≡ true
letter_digits [] d = absurd d
letter_digits (b ∷ bs) d = goes_digit part.Letter part.Exponent b bs d.0 refl refl (exponent_digits bs d.1)

sign_digits : (ds : List ℕ) → SomeDigits ds → rem part.Sign ds ≡ true
sign_digits [] d = absurd d
sign_digits (b ∷ bs) d = goes_digit part.Sign part.Exponent b bs d.0 refl refl (exponent_digits bs d.1)

abbrev IsSign : List ℕ → Type 0
IsSign sign = (sign ≡ []) ⊎ ((sign ≡ 43 ∷ []) ⊎ (sign ≡ 45 ∷ []))

letter_passes : (sign ds : List ℕ) → IsSign sign → SomeDigits ds → rem part.Letter (sign ++ ds) ≡ true
letter_passes sign ds (inl e) d = ap (λ s. rem part.Letter (s ++ ds)) e ∙ letter_digits ds d
letter_passes sign ds (inr (inl e)) d = ap (λ s. rem part.Letter (s ++ ds)) e ∙ goes part.Letter part.Sign byte.Plus 43 ds plus_class refl (sign_digits ds d)
letter_passes sign ds (inr (inr e)) d = ap (λ s. rem part.Letter (s ++ ds)) e ∙ goes part.Letter part.Sign byte.Minus 45 ds minus_class refl (sign_digits ds d)

-- a part behind which the exponent may stand
exponent_passes : (p : NumberPart) (es : List ℕ) → number_may_end p ≡ true → number_moved p byte.Letter ≡ Goes part.Letter → IsExponent es → rem p es ≡ true
exponent_passes p es end letter (inl e) = ap (rem p) e ∙ end
exponent_passes p es end letter (inr h) = ap (rem p) h.6 ∙ goes p part.Letter byte.Letter h.0 (h.1 ++ h.2) (letter_class h.0 h.3) letter (letter_passes h.1 h.2 h.4 h.5)

fraction_digits : (ds es : List ℕ) → Digits ds → IsExponent es → rem part.Fraction (ds ++ es) ≡ true
fraction_digits [] es d e = exponent_passes part.Fraction es refl refl e
fraction_digits (b ∷ bs) es d e = goes_digit part.Fraction part.Fraction b (bs ++ es) d.0 refl refl (fraction_digits bs es d.1 e)

point_digits : (ds es : List ℕ) → SomeDigits ds → IsExponent es → rem part.Point (ds ++ es) ≡ true
point_digits [] es d e = absurd d
point_digits (b ∷ bs) es d e = goes_digit part.Point part.Fraction b (bs ++ es) d.0 refl refl (fraction_digits bs es d.1 e)

-- a part behind which the fraction may stand
fraction_passes : (p : NumberPart) (fs es : List ℕ) → number_may_end p ≡ true → number_moved p byte.Point ≡ Goes part.Point → number_moved p byte.Letter ≡ Goes part.Letter → IsFraction fs → IsExponent es → rem p (fs ++ es) ≡ true
fraction_passes p fs es end point letter (inl f) e = ap (λ fs. rem p (fs ++ es)) f ∙ exponent_passes p es end letter e
fraction_passes p fs es end point letter (inr h) e = ap (λ fs. rem p (fs ++ es)) h.2 ∙ goes p part.Point byte.Point 46 (h.0 ++ es) point_class point (point_digits h.0 es h.1 e)

whole_digits : (ds fs es : List ℕ) → Digits ds → IsFraction fs → IsExponent es → rem part.Whole (ds ++ (fs ++ es)) ≡ true
whole_digits [] fs es d f e = fraction_passes part.Whole fs es refl refl refl f e
whole_digits (b ∷ bs) fs es d f e = goes_digit part.Whole part.Whole b (bs ++ (fs ++ es)) d.0 refl refl (whole_digits bs fs es d.1 f e)

minus_passes : (ws fs es : List ℕ) → IsWhole ws → IsFraction fs → IsExponent es → rem part.Minus (ws ++ (fs ++ es)) ≡ true
minus_passes ws fs es (inl w) f e = ap (λ ws. rem part.Minus (ws ++ (fs ++ es))) w ∙ goes part.Minus part.Zero byte.Zero 48 (fs ++ es) zero_class refl (fraction_passes part.Zero fs es refl refl refl f e)
minus_passes ws fs es (inr h) f e = ap (λ ws. rem part.Minus (ws ++ (fs ++ es))) h.4 ∙ goes part.Minus part.Whole byte.OneToNine h.0 (h.1 ++ (fs ++ es)) (one_class h.0 h.2) refl (whole_digits h.1 fs es h.3 f e)

-- a number's first byte begins it, and the others complete it
pub record Passed (bs : List ℕ) : Type 0 where
  pub first : ℕ
  pub after : List ℕ
  pub part : NumberPart
  pub is : bs ≡ first ∷ after
  pub begins : number_begin first ≡ Some part
  pub passes : rem part after ≡ true

whole_passed : (ws fs es : List ℕ) → IsWhole ws → IsFraction fs → IsExponent es → Passed (ws ++ (fs ++ es))
whole_passed ws fs es (inl w) f e = record {
  first = 48;
  after = fs ++ es;
  part = part.Zero;
  is = ap (λ ws. ws ++ (fs ++ es)) w;
  begins = ap begin_with zero_class;
  passes = fraction_passes part.Zero fs es refl refl refl f e;
}
whole_passed ws fs es (inr h) f e = record {
  first = h.0;
  after = h.1 ++ (fs ++ es);
  part = part.Whole;
  is = ap (λ ws. ws ++ (fs ++ es)) h.4;
  begins = ap begin_with (one_class h.0 h.2);
  passes = whole_digits h.1 fs es h.3 f e;
}

signed_passed : (minus ws fs es : List ℕ) → IsMinus minus → IsWhole ws → IsFraction fs → IsExponent es → Passed (minus ++ (ws ++ (fs ++ es)))
signed_passed minus ws fs es (inl m) w f e = rw m (whole_passed ws fs es w f e)
signed_passed minus ws fs es (inr m) w f e = record {
  first = 45;
  after = ws ++ (fs ++ es);
  part = part.Minus;
  is = ap (λ m. m ++ (ws ++ (fs ++ es))) m;
  begins = ap begin_with minus_class;
  passes = minus_passes ws fs es w f e;
}

pub number_passed : (bs : List ℕ) → IsNumber bs → Passed bs
number_passed bs n = rw n.8 (signed_passed n.0 n.1 n.2 n.3 n.4 n.5 n.6 n.7)

-- back to the grammar

-- what completes a number, by its part
abbrev pub Rest : NumberPart → List ℕ → Type 0
Rest part.Minus bs = (whole fraction exponent : List ℕ) × IsWhole whole × IsFraction fraction × IsExponent exponent × (bs ≡ whole ++ (fraction ++ exponent))
Rest part.Zero bs = (fraction exponent : List ℕ) × IsFraction fraction × IsExponent exponent × (bs ≡ fraction ++ exponent)
Rest part.Whole bs = (ds fraction exponent : List ℕ) × Digits ds × IsFraction fraction × IsExponent exponent × (bs ≡ ds ++ (fraction ++ exponent))
Rest part.Point bs = (ds exponent : List ℕ) × SomeDigits ds × IsExponent exponent × (bs ≡ ds ++ exponent)
Rest part.Fraction bs = (ds exponent : List ℕ) × Digits ds × IsExponent exponent × (bs ≡ ds ++ exponent)
Rest part.Letter bs = (sign ds : List ℕ) × IsSign sign × SomeDigits ds × (bs ≡ sign ++ ds)
Rest part.Sign bs = SomeDigits bs
Rest part.Exponent bs = Digits bs

rest_end : (p : NumberPart) → number_may_end p ≡ true → Rest p []
rest_end part.Minus h = absurd cc
rest_end part.Zero h = ([], [], inl refl, inl refl, refl)
rest_end part.Whole h = ([], [], [], tt, inl refl, inl refl, refl)
rest_end part.Point h = absurd cc
rest_end part.Fraction h = ([], [], tt, inl refl, refl)
rest_end part.Letter h = absurd cc
rest_end part.Sign h = absurd cc
rest_end part.Exponent h = tt

-- an exponent that begins with its letter, and what comes behind
exponent_of : (b : ℕ) (bs : List ℕ) → number_byte b ≡ byte.Letter → Rest part.Letter bs → IsExponent (b ∷ bs)
exponent_of b bs k r = inr (b, r.0, r.1, letter_is b k, r.2, r.3, ap (λ x. b ∷ x) r.4)

fraction_of : (b : ℕ) (bs : List ℕ) → number_byte b ≡ byte.Point → Rest part.Point bs → (fraction exponent : List ℕ) × IsFraction fraction × IsExponent exponent × (b ∷ bs ≡ fraction ++ exponent)
fraction_of b bs k r = (46 ∷ r.0, r.1, inr (r.0, r.2, refl), r.3, rw (point_is b k) (ap (λ x. 46 ∷ x) r.4))

minus_step : (k : NumberByte) (b : ℕ) (bs : List ℕ) → number_byte b ≡ k → ((q : NumberPart) → rem q bs ≡ true → Rest q bs) → rem_move (number_moved part.Minus k) (λ q. rem q bs) ≡ true → Rest part.Minus (b ∷ bs)
minus_step byte.Zero b bs k f h = let r = f part.Zero h in (48 ∷ [], r.0, r.1, inl refl, r.2, r.3, rw (zero_is b k) (ap (λ x. 48 ∷ x) r.4))
minus_step byte.OneToNine b bs k f h = let r = f part.Whole h in (b ∷ r.0, r.1, r.2, inr (b, r.0, one_is b k, r.3, refl), r.4, r.5, ap (λ x. b ∷ x) r.6)
minus_step byte.Point b bs k f h = absurd cc
minus_step byte.Letter b bs k f h = absurd cc
minus_step byte.Plus b bs k f h = absurd cc
minus_step byte.Minus b bs k f h = absurd cc
minus_step byte.Other b bs k f h = absurd cc

zero_step : (k : NumberByte) (b : ℕ) (bs : List ℕ) → number_byte b ≡ k → ((q : NumberPart) → rem q bs ≡ true → Rest q bs) → rem_move (number_moved part.Zero k) (λ q. rem q bs) ≡ true → Rest part.Zero (b ∷ bs)
zero_step byte.Zero b bs k f h = absurd cc
zero_step byte.OneToNine b bs k f h = absurd cc
zero_step byte.Point b bs k f h = fraction_of b bs k (f part.Point h)
zero_step byte.Letter b bs k f h = ([], b ∷ bs, inl refl, exponent_of b bs k (f part.Letter h), refl)
zero_step byte.Plus b bs k f h = absurd cc
zero_step byte.Minus b bs k f h = absurd cc
zero_step byte.Other b bs k f h = absurd cc

whole_more : (b : ℕ) (bs : List ℕ) → IsTrue (is_digit b) → Rest part.Whole bs → Rest part.Whole (b ∷ bs)
whole_more b bs d r = (b ∷ r.0, r.1, r.2, (d, r.3), r.4, r.5, ap (λ x. b ∷ x) r.6)

whole_step : (k : NumberByte) (b : ℕ) (bs : List ℕ) → number_byte b ≡ k → ((q : NumberPart) → rem q bs ≡ true → Rest q bs) → rem_move (number_moved part.Whole k) (λ q. rem q bs) ≡ true → Rest part.Whole (b ∷ bs)
whole_step byte.Zero b bs k f h = whole_more b bs (zero_digit b k) (f part.Whole h)
whole_step byte.OneToNine b bs k f h = whole_more b bs (one_digit b k) (f part.Whole h)
whole_step byte.Point b bs k f h = let r = fraction_of b bs k (f part.Point h) in ([], r.0, r.1, tt, r.2, r.3, r.4)
whole_step byte.Letter b bs k f h = ([], [], b ∷ bs, tt, inl refl, exponent_of b bs k (f part.Letter h), refl)
whole_step byte.Plus b bs k f h = absurd cc
whole_step byte.Minus b bs k f h = absurd cc
whole_step byte.Other b bs k f h = absurd cc

point_more : (b : ℕ) (bs : List ℕ) → IsTrue (is_digit b) → Rest part.Fraction bs → Rest part.Point (b ∷ bs)
point_more b bs d r = (b ∷ r.0, r.1, (d, r.2), r.3, ap (λ x. b ∷ x) r.4)

point_step : (k : NumberByte) (b : ℕ) (bs : List ℕ) → number_byte b ≡ k → ((q : NumberPart) → rem q bs ≡ true → Rest q bs) → rem_move (number_moved part.Point k) (λ q. rem q bs) ≡ true → Rest part.Point (b ∷ bs)
point_step byte.Zero b bs k f h = point_more b bs (zero_digit b k) (f part.Fraction h)
point_step byte.OneToNine b bs k f h = point_more b bs (one_digit b k) (f part.Fraction h)
point_step byte.Point b bs k f h = absurd cc
point_step byte.Letter b bs k f h = absurd cc
point_step byte.Plus b bs k f h = absurd cc
point_step byte.Minus b bs k f h = absurd cc
point_step byte.Other b bs k f h = absurd cc

fraction_more : (b : ℕ) (bs : List ℕ) → IsTrue (is_digit b) → Rest part.Fraction bs → Rest part.Fraction (b ∷ bs)
fraction_more b bs d r = (b ∷ r.0, r.1, (d, r.2), r.3, ap (λ x. b ∷ x) r.4)

fraction_step : (k : NumberByte) (b : ℕ) (bs : List ℕ) → number_byte b ≡ k → ((q : NumberPart) → rem q bs ≡ true → Rest q bs) → rem_move (number_moved part.Fraction k) (λ q. rem q bs) ≡ true → Rest part.Fraction (b ∷ bs)
fraction_step byte.Zero b bs k f h = fraction_more b bs (zero_digit b k) (f part.Fraction h)
fraction_step byte.OneToNine b bs k f h = fraction_more b bs (one_digit b k) (f part.Fraction h)
fraction_step byte.Point b bs k f h = absurd cc
fraction_step byte.Letter b bs k f h = ([], b ∷ bs, tt, exponent_of b bs k (f part.Letter h), refl)
fraction_step byte.Plus b bs k f h = absurd cc
fraction_step byte.Minus b bs k f h = absurd cc
fraction_step byte.Other b bs k f h = absurd cc

letter_step : (k : NumberByte) (b : ℕ) (bs : List ℕ) → number_byte b ≡ k → ((q : NumberPart) → rem q bs ≡ true → Rest q bs) → rem_move (number_moved part.Letter k) (λ q. rem q bs) ≡ true → Rest part.Letter (b ∷ bs)
letter_step byte.Zero b bs k f h = ([], b ∷ bs, inl refl, (zero_digit b k, f part.Exponent h), refl)
letter_step byte.OneToNine b bs k f h = ([], b ∷ bs, inl refl, (one_digit b k, f part.Exponent h), refl)
letter_step byte.Point b bs k f h = absurd cc
letter_step byte.Letter b bs k f h = absurd cc
letter_step byte.Plus b bs k f h = (43 ∷ [], bs, inr (inl refl), f part.Sign h, ap (λ c. c ∷ bs) (plus_is b k))
letter_step byte.Minus b bs k f h = (45 ∷ [], bs, inr (inr refl), f part.Sign h, ap (λ c. c ∷ bs) (minus_is b k))
letter_step byte.Other b bs k f h = absurd cc

sign_step : (k : NumberByte) (b : ℕ) (bs : List ℕ) → number_byte b ≡ k → ((q : NumberPart) → rem q bs ≡ true → Rest q bs) → rem_move (number_moved part.Sign k) (λ q. rem q bs) ≡ true → Rest part.Sign (b ∷ bs)
sign_step byte.Zero b bs k f h = (zero_digit b k, f part.Exponent h)
sign_step byte.OneToNine b bs k f h = (one_digit b k, f part.Exponent h)
sign_step byte.Point b bs k f h = absurd cc
sign_step byte.Letter b bs k f h = absurd cc
sign_step byte.Plus b bs k f h = absurd cc
sign_step byte.Minus b bs k f h = absurd cc
sign_step byte.Other b bs k f h = absurd cc

exponent_step : (k : NumberByte) (b : ℕ) (bs : List ℕ) → number_byte b ≡ k → ((q : NumberPart) → rem q bs ≡ true → Rest q bs) → rem_move (number_moved part.Exponent k) (λ q. rem q bs) ≡ true → Rest part.Exponent (b ∷ bs)
exponent_step byte.Zero b bs k f h = (zero_digit b k, f part.Exponent h)
exponent_step byte.OneToNine b bs k f h = (one_digit b k, f part.Exponent h)
exponent_step byte.Point b bs k f h = absurd cc
exponent_step byte.Letter b bs k f h = absurd cc
exponent_step byte.Plus b bs k f h = absurd cc
exponent_step byte.Minus b bs k f h = absurd cc
exponent_step byte.Other b bs k f h = absurd cc

rest_step : (p : NumberPart) (b : ℕ) (bs : List ℕ) → ((q : NumberPart) → rem q bs ≡ true → Rest q bs) → rem p (b ∷ bs) ≡ true → Rest p (b ∷ bs)
rest_step part.Minus b bs f h = minus_step (number_byte b) b bs refl f h
rest_step part.Zero b bs f h = zero_step (number_byte b) b bs refl f h
rest_step part.Whole b bs f h = whole_step (number_byte b) b bs refl f h
rest_step part.Point b bs f h = point_step (number_byte b) b bs refl f h
rest_step part.Fraction b bs f h = fraction_step (number_byte b) b bs refl f h
rest_step part.Letter b bs f h = letter_step (number_byte b) b bs refl f h
rest_step part.Sign b bs f h = sign_step (number_byte b) b bs refl f h
rest_step part.Exponent b bs f h = exponent_step (number_byte b) b bs refl f h

pub rest_of : (bs : List ℕ) (p : NumberPart) → rem p bs ≡ true → Rest p bs
rest_of [] p h = rest_end p h
rest_of (b ∷ bs) p h = rest_step p b bs (λ q r. rest_of bs q r) h

found_with : (k : NumberByte) (b : ℕ) (p : NumberPart) (bs : List ℕ) → number_byte b ≡ k → begin_with k ≡ Some p → Rest p bs → IsNumber (b ∷ bs)
found_with byte.Zero b p bs k e r = let s = subst (λ q. Rest q bs) (begun e) r in ([], 48 ∷ [], s.0, s.1, inl refl, inl refl, s.2, s.3, rw (zero_is b k) (ap (λ x. 48 ∷ x) s.4))
  where
    begun : Some part.Zero ≡ Some p → p ≡ part.Zero
    begun e = cc
found_with byte.OneToNine b p bs k e r = let s = subst (λ q. Rest q bs) (begun e) r in ([], b ∷ s.0, s.1, s.2, inl refl, inr (b, s.0, one_is b k, s.3, refl), s.4, s.5, ap (λ x. b ∷ x) s.6)
  where
    begun : Some part.Whole ≡ Some p → p ≡ part.Whole
    begun e = cc
found_with byte.Point b p bs k e r = absurd cc
found_with byte.Letter b p bs k e r = absurd cc
found_with byte.Plus b p bs k e r = absurd cc
found_with byte.Minus b p bs k e r = let s = subst (λ q. Rest q bs) (begun e) r in (45 ∷ [], s.0, s.1, s.2, inr refl, s.3, s.4, s.5, rw (minus_is b k) (ap (λ x. 45 ∷ x) s.6))
  where
    begun : Some part.Minus ≡ Some p → p ≡ part.Minus
    begun e = cc
found_with byte.Other b p bs k e r = absurd cc

pub number_found : (b : ℕ) (p : NumberPart) (bs : List ℕ) → number_begin b ≡ Some p → rem p bs ≡ true → IsNumber (b ∷ bs)
number_found b p bs e h = found_with (number_byte b) b p bs refl e (rest_of bs p h)

-- where numbers end

ends_with : (p : NumberPart) (k : NumberByte) → number_moved p k ≡ Ends → (k ≡ byte.Other) × (number_may_end p ≡ true)
ends_with part.Zero byte.Other h = (refl, refl)
ends_with part.Whole byte.Other h = (refl, refl)
ends_with part.Fraction byte.Other h = (refl, refl)
ends_with part.Exponent byte.Other h = (refl, refl)
ends_with part.Minus byte.Other h = absurd cc
ends_with part.Point byte.Other h = absurd cc
ends_with part.Letter byte.Other h = absurd cc
ends_with part.Sign byte.Other h = absurd cc
ends_with p k h = absurd cc

-- a byte that ends a number is no byte of numbers, and the number may end there
pub number_ended : (p : NumberPart) (b : ℕ) → number_move p b ≡ Ends → (IsTrue (is_number_byte b) → ⊥) × (number_may_end p ≡ true)
number_ended p b h = let e = ends_with p (number_byte b) h in (other_is b e.0, e.1)

ended_by : (p : NumberPart) → number_may_end p ≡ true → number_moved p byte.Other ≡ Ends
ended_by part.Minus h = absurd cc
ended_by part.Zero h = refl
ended_by part.Whole h = refl
ended_by part.Point h = absurd cc
ended_by part.Fraction h = refl
ended_by part.Letter h = absurd cc
ended_by part.Sign h = absurd cc
ended_by part.Exponent h = refl

-- each byte that is none of numbers ends a number that may end
pub number_ends : (p : NumberPart) (b : ℕ) → number_may_end p ≡ true → (IsTrue (is_number_byte b) → ⊥) → number_move p b ≡ Ends
number_ends p b e h = ap (number_moved p) (other_class b h) ∙ ended_by p e

-- each part can be completed
pub number_completed : (p : NumberPart) → (more : List ℕ) × (rem p more ≡ true)
number_completed part.Minus = (48 ∷ [], minus_passes (48 ∷ []) [] [] (inl refl) (inl refl) (inl refl))
number_completed part.Zero = ([], refl)
number_completed part.Whole = ([], refl)
number_completed part.Point = (48 ∷ [], point_digits (48 ∷ []) [] (zero_digit 48 zero_class, tt) (inl refl))
number_completed part.Fraction = ([], refl)
number_completed part.Letter = (48 ∷ [], letter_digits (48 ∷ []) (zero_digit 48 zero_class, tt))
number_completed part.Sign = (48 ∷ [], sign_digits (48 ∷ []) (zero_digit 48 zero_class, tt))
number_completed part.Exponent = ([], refl)
