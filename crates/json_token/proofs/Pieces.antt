-- What passes as a string is made of the characters of the grammar.
use Rattle.std.proofs.Common.{◌≡◌, refl, ap, subst, ◌∙◌, sym, ℕ, zero, suc, ◌<◌, ◌≤◌, Bool, true, false, ◌&&◌, List, [], ◌∷◌, ◌++◌, length, ◌⊎◌, inl, inr, arith, append_assoc}
use Rattle.std.specs.Prelude.{IsTrue, ◌==◌, nat_le, Some, flat_map, if◌then◌else◌}
use Rattle.std.specs.List.{AllByRecursion}
use Rattle.std.specs.Char.{IsScalar}
use Rattle.std.proofs.lemmas.Bool.Decides.{nat_tests}
use Rattle.json_text.specs.String.{Piece, plain, short, unit, is_hex, is_short, IsPiece, spelled, characters, SpellsCharacters}
use Rattle.json_token.specs.declared.string.Part.{Part}
use Rattle.json_token.specs.declared.string.Part.TheVariants.{Plain, Escape, Hex4, Hex3, Hex2, Hex1, Tail1, Tail2, Tail3, AfterE0, AfterEd, AfterF0, AfterF4}
use Rattle.json_token.specs.declared.string.Move.{Move}
use Rattle.json_token.specs.declared.string.Move.TheVariants.{Goes, Ends, Stops}
use Rattle.json_token.specs.StringMoves.{plain_move, digit_move, tail_move, string_move}
use Rattle.json_token.proofs.Encoded.{one, scalar_low, scalar_high, plain_past, of_two, of_three, of_four, from_two, from_three, from_four}
use Rattle.json_token.proofs.TextBytes.{ends_is, slash_is, plain_is, plain_below, two_from, two_below, three_is, e0_is, ed_is, f0_is, f4_is, four_from, four_below, no_hex4, no_hex3, no_hex2, no_hex1}
use Rattle.json_token.proofs.Walks.{walk_move, walk}

pub record Found (bs rest : List ℕ) : Type 0 where
  pub pieces : List Piece
  pub are : AllByRecursion IsPiece pieces
  pub is : bs ≡ flat_map spelled pieces ++ 34 ∷ rest

more_found : (p : Piece) (bs cs rest : List ℕ) → IsPiece p → bs ≡ spelled p ++ cs → Found cs rest → Found bs rest
more_found p bs cs rest h is f = record {
  pieces = p ∷ f.pieces;
  are = (h, f.are);
  is = is ∙ (ap (λ x. spelled p ++ x) f.is ∙ sym (append_assoc (spelled p) (flat_map spelled f.pieces) (34 ∷ rest)));
}

-- the bytes behind a lead

tail_was : (b low high : ℕ) (next : Part) (bs rest : List ℕ) → walk_move (tail_move b low high next) bs (λ q. walk q bs) ≡ Some rest → (low ≤ b) × (b ≤ high) × (walk next bs ≡ Some rest)
tail_was b low high next bs rest h = go (nat_le low b && nat_le b high) refl h
  where
    go : (t : Bool) → (nat_le low b && nat_le b high) ≡ t → walk_move (if t then Goes next else Stops) bs (λ q. walk q bs) ≡ Some rest → (low ≤ b) × (b ≤ high) × (walk next bs ≡ Some rest)
    go true e k = (grind (arith, nat_tests), grind (arith, nat_tests), k)
    go false e k = absurd cc

record Tails1 (bs rest : List ℕ) : Type 0 where
  last : ℕ
  behind : List ℕ
  is : bs ≡ last ∷ behind
  last_from : 128 ≤ last
  last_to : last ≤ 191
  next : walk Plain behind ≡ Some rest

tails_one : (bs rest : List ℕ) → walk Tail1 bs ≡ Some rest → Tails1 bs rest
tails_one [] rest h = absurd cc
tails_one (b ∷ bs) rest h = let t = tail_was b 128 191 Plain bs rest h in record { last = b; behind = bs; is = refl; last_from = t.0; last_to = t.1; next = t.2 }

record Tails2 (low high : ℕ) (bs rest : List ℕ) : Type 0 where
  middle : ℕ
  more : List ℕ
  is : bs ≡ middle ∷ more
  middle_from : low ≤ middle
  middle_to : middle ≤ high
  tail : Tails1 more rest

tails_two : (p : Part) (low high : ℕ) → ((b : ℕ) → string_move p b ≡ tail_move b low high Tail1) → (bs rest : List ℕ) → walk p bs ≡ Some rest → Tails2 low high bs rest
tails_two p low high m [] rest h = absurd cc
tails_two p low high m (b ∷ bs) rest h =
    let t = tail_was b low high Tail1 bs rest (subst (λ x. walk_move x bs (λ q. walk q bs) ≡ Some rest) (m b) h) in
    record { middle = b; more = bs; is = refl; middle_from = t.0; middle_to = t.1; tail = tails_one bs rest t.2 }

record Tails3 (low high : ℕ) (bs rest : List ℕ) : Type 0 where
  second : ℕ
  more : List ℕ
  is : bs ≡ second ∷ more
  second_from : low ≤ second
  second_to : second ≤ high
  tails : Tails2 128 191 more rest

tails_three : (p : Part) (low high : ℕ) → ((b : ℕ) → string_move p b ≡ tail_move b low high Tail2) → (bs rest : List ℕ) → walk p bs ≡ Some rest → Tails3 low high bs rest
tails_three p low high m [] rest h = absurd cc
tails_three p low high m (b ∷ bs) rest h =
    let t = tail_was b low high Tail2 bs rest (subst (λ x. walk_move x bs (λ q. walk q bs) ≡ Some rest) (m b) h) in
    record { second = b; more = bs; is = refl; second_from = t.0; second_to = t.1; tails = tails_two Tail2 128 191 (λ c. refl) bs rest t.2 }

-- characters of two bytes, three and four

two_more : (a b : ℕ) (cs rest : List ℕ) → 194 ≤ a → a < 224 → 128 ≤ b → b ≤ 191 → Found cs rest → Found (a ∷ b ∷ cs) rest
two_more a b cs rest a_from a_to b_from b_to f =
    more_found (plain (of_two a b)) (a ∷ b ∷ cs) cs rest (scalar_low (of_two a b) (omega arith), plain_past (of_two a b) (omega arith)) (ap (λ x. x ++ cs) (sym (from_two a b a_from a_to b_from b_to))) f

three_more : (a b c n : ℕ) (cs rest : List ℕ) → n ≡ of_three a b c → 224 ≤ a → a < 240 → 128 ≤ b → b ≤ 191 → 128 ≤ c → c ≤ 191 → 2048 ≤ n → IsScalar n → Found cs rest → Found (a ∷ b ∷ c ∷ cs) rest
three_more a b c n cs rest is a_from a_to b_from b_to c_from c_to large s f =
    more_found (plain n) (a ∷ b ∷ c ∷ cs) cs rest (s, plain_past n (omega arith)) (ap (λ x. x ++ cs) (sym (from_three a b c n is a_from a_to b_from b_to c_from c_to large))) f

four_more : (a b c d n : ℕ) (cs rest : List ℕ) → n ≡ of_four a b c d → 240 ≤ a → 128 ≤ b → b ≤ 191 → 128 ≤ c → c ≤ 191 → 128 ≤ d → d ≤ 191 → 65536 ≤ n → n < 1114112 → Found cs rest → Found (a ∷ b ∷ c ∷ d ∷ cs) rest
four_more a b c d n cs rest is a_from b_from b_to c_from c_to d_from d_to large fits f =
    more_found (plain n) (a ∷ b ∷ c ∷ d ∷ cs) cs rest (scalar_high n (omega arith) fits, plain_past n (omega arith)) (ap (λ x. x ++ cs) (sym (from_four a b c d n is a_from b_from b_to c_from c_to d_from d_to large))) f

-- what is shorter and passes is found
abbrev Finds : List ℕ → List ℕ → Type 0
Finds bs rest = (cs : List ℕ) → length cs ≤ length bs → walk Plain cs ≡ Some rest → Found cs rest

shorter : (bs cs : List ℕ) (b : ℕ) → bs ≡ b ∷ cs → length cs ≤ length bs
shorter bs cs b is = omega (arith, ap length is)

two_found : (a : ℕ) (bs rest : List ℕ) → plain_move a ≡ Goes Tail1 → Finds bs rest → Tails1 bs rest → Found (a ∷ bs) rest
two_found a bs rest k f t = rw t.is (two_more a t.last t.behind rest (two_from a k) (two_below a k) t.last_from t.last_to (f t.behind (shorter bs t.behind t.last t.is) t.next))

behind_two : (low high : ℕ) (bs rest : List ℕ) → Finds bs rest → (t : Tails2 low high bs rest) → Found t.tail.behind rest
behind_two low high bs rest f t = f t.tail.behind (omega (arith, shorter bs t.more t.middle t.is, shorter t.more t.tail.behind t.tail.last t.tail.is)) t.tail.next

behind_three : (low high : ℕ) (bs rest : List ℕ) → Finds bs rest → (t : Tails3 low high bs rest) → Found t.tails.tail.behind rest
behind_three low high bs rest f t =
    f t.tails.tail.behind (omega (arith, shorter bs t.more t.second t.is, shorter t.more t.tails.more t.tails.middle t.tails.is, shorter t.tails.more t.tails.tail.behind t.tails.tail.last t.tails.tail.is)) t.tails.tail.next

three_found : (a low high : ℕ) (bs rest : List ℕ) → 224 ≤ a → a < 240 → 128 ≤ low → high ≤ 191 → ((b c : ℕ) → low ≤ b → b ≤ high → 128 ≤ c → c ≤ 191 → (2048 ≤ of_three a b c) × IsScalar (of_three a b c)) → Finds bs rest → Tails2 low high bs rest → Found (a ∷ bs) rest
three_found a low high bs rest a_from a_to l u good f t =
    let g = good t.middle t.tail.last t.middle_from t.middle_to t.tail.last_from t.tail.last_to in
    rw t.is (rw t.tail.is (three_more a t.middle t.tail.last (of_three a t.middle t.tail.last) t.tail.behind rest refl a_from a_to (omega arith) (omega arith) t.tail.last_from t.tail.last_to g.0 g.1 (behind_two low high bs rest f t)))

four_found : (a low high : ℕ) (bs rest : List ℕ) → 240 ≤ a → 128 ≤ low → high ≤ 191 → ((b c d : ℕ) → low ≤ b → b ≤ high → 128 ≤ c → c ≤ 191 → 128 ≤ d → d ≤ 191 → (65536 ≤ of_four a b c d) × (of_four a b c d < 1114112)) → Finds bs rest → Tails3 low high bs rest → Found (a ∷ bs) rest
four_found a low high bs rest a_from l u good f t =
    let g = good t.second t.tails.middle t.tails.tail.last t.second_from t.second_to t.tails.middle_from t.tails.middle_to t.tails.tail.last_from t.tails.tail.last_to in
    rw t.is (rw t.tails.is (rw t.tails.tail.is (four_more a t.second t.tails.middle t.tails.tail.last (of_four a t.second t.tails.middle t.tails.tail.last) t.tails.tail.behind rest refl a_from (omega arith) (omega arith) t.tails.middle_from t.tails.middle_to t.tails.tail.last_from t.tails.tail.last_to g.0 g.1 (behind_three low high bs rest f t))))

good_e0 : (a b c : ℕ) → a ≡ 224 → 160 ≤ b → b ≤ 191 → 128 ≤ c → c ≤ 191 → (2048 ≤ of_three a b c) × IsScalar (of_three a b c)
good_e0 a b c e b_from b_to c_from c_to = (omega arith, scalar_low (of_three a b c) (omega arith))

good_ed : (a b c : ℕ) → a ≡ 237 → 128 ≤ b → b ≤ 159 → 128 ≤ c → c ≤ 191 → (2048 ≤ of_three a b c) × IsScalar (of_three a b c)
good_ed a b c e b_from b_to c_from c_to = (omega arith, scalar_low (of_three a b c) (omega arith))

good_three : (a b c : ℕ) → (225 ≤ a) × (a < 237) ⊎ (238 ≤ a) × (a < 240) → 128 ≤ b → b ≤ 191 → 128 ≤ c → c ≤ 191 → (2048 ≤ of_three a b c) × IsScalar (of_three a b c)
good_three a b c (inl e) b_from b_to c_from c_to = (omega arith, scalar_low (of_three a b c) (omega arith))
good_three a b c (inr e) b_from b_to c_from c_to = (omega arith, scalar_high (of_three a b c) (omega arith) (omega arith))

three_bounds : (a : ℕ) → (225 ≤ a) × (a < 237) ⊎ (238 ≤ a) × (a < 240) → (224 ≤ a) × (a < 240)
three_bounds a (inl e) = (omega arith, omega arith)
three_bounds a (inr e) = (omega arith, omega arith)

-- a backslash

digit_was : (b : ℕ) (next : Part) (bs rest : List ℕ) → walk_move (digit_move b next) bs (λ q. walk q bs) ≡ Some rest → IsTrue (is_hex b) × (walk next bs ≡ Some rest)
digit_was b next bs rest h = go (is_hex b) refl h
  where
    go : (t : Bool) → is_hex b ≡ t → walk_move (if t then Goes next else Stops) bs (λ q. walk q bs) ≡ Some rest → IsTrue (is_hex b) × (walk next bs ≡ Some rest)
    go true e k = (e, k)
    go false e k = absurd cc

record Digit (next : Part) (bs rest : List ℕ) : Type 0 where
  digit : ℕ
  more : List ℕ
  is : bs ≡ digit ∷ more
  hex : IsTrue (is_hex digit)
  after : walk next more ≡ Some rest

digit_found : (p next : Part) → ((b : ℕ) → string_move p b ≡ digit_move b next) → (bs rest : List ℕ) → walk p bs ≡ Some rest → Digit next bs rest
digit_found p next m [] rest h = absurd cc
digit_found p next m (b ∷ bs) rest h =
    let t = digit_was b next bs rest (subst (λ x. walk_move x bs (λ q. walk q bs) ≡ Some rest) (m b) h) in
    record { digit = b; more = bs; is = refl; hex = t.0; after = t.1 }

unit_more : (a b c d : ℕ) (cs rest : List ℕ) → IsTrue (is_hex a) → IsTrue (is_hex b) → IsTrue (is_hex c) → IsTrue (is_hex d) → Found cs rest → Found (92 ∷ 117 ∷ a ∷ b ∷ c ∷ d ∷ cs) rest
unit_more a b c d cs rest ha hb hc hd f = more_found (unit a b c d) (92 ∷ 117 ∷ a ∷ b ∷ c ∷ d ∷ cs) cs rest (ha, hb, hc, hd) refl f

unit_found : (bs rest : List ℕ) → Finds bs rest → walk Hex4 bs ≡ Some rest → Found (92 ∷ 117 ∷ bs) rest
unit_found bs rest f h = four_digits (digit_found Hex4 Hex3 (λ b. refl) bs rest h)
  where
    last_digits : (a : Digit Hex3 bs rest) (b : Digit Hex2 a.more rest) (c : Digit Hex1 b.more rest) (d : Digit Plain c.more rest) → Found (92 ∷ 117 ∷ bs) rest
    last_digits a b c d = rw a.is (rw b.is (rw c.is (rw d.is (unit_more a.digit b.digit c.digit d.digit d.more rest a.hex b.hex c.hex d.hex
        (f d.more (omega (arith, shorter bs a.more a.digit a.is, shorter a.more b.more b.digit b.is, shorter b.more c.more c.digit c.is, shorter c.more d.more d.digit d.is)) d.after)))))

    three_digits : (a : Digit Hex3 bs rest) (b : Digit Hex2 a.more rest) → Found (92 ∷ 117 ∷ bs) rest
    three_digits a b = let c = digit_found Hex2 Hex1 (λ x. refl) b.more rest b.after in last_digits a b c (digit_found Hex1 Plain (λ x. refl) c.more rest c.after)

    four_digits : Digit Hex3 bs rest → Found (92 ∷ 117 ∷ bs) rest
    four_digits a = three_digits a (digit_found Hex3 Hex2 (λ x. refl) a.more rest a.after)

equal_is : (b c : ℕ) → (b == c) ≡ true → b ≡ c
equal_is b c h = grind (arith, nat_tests)

escape_by : (b : ℕ) (bs rest : List ℕ) (t s : Bool) → (b == 117) ≡ t → is_short b ≡ s → Finds bs rest → walk_move (if t then Goes Hex4 else if s then Goes Plain else Stops) bs (λ q. walk q bs) ≡ Some rest → Found (92 ∷ b ∷ bs) rest
escape_by b bs rest true s e k f h = rw (equal_is b 117 e) (unit_found bs rest f h)
escape_by b bs rest false true e k f h = more_found (short b) (92 ∷ b ∷ bs) bs rest k refl (f bs (omega arith) h)
escape_by b bs rest false false e k f h = absurd cc

escape_found : (bs rest : List ℕ) → Finds bs rest → walk Escape bs ≡ Some rest → Found (92 ∷ bs) rest
escape_found [] rest f h = absurd cc
escape_found (b ∷ bs) rest f h = escape_by b bs rest (b == 117) (is_short b) refl refl (λ cs s k. f cs (omega arith) k) h

-- by what the first byte does

found_by : (m : Move) (b : ℕ) (bs rest : List ℕ) → plain_move b ≡ m → Finds bs rest → walk_move m bs (λ q. walk q bs) ≡ Some rest → Found (b ∷ bs) rest
found_by Ends b bs rest k f h = record { pieces = []; are = tt; is = ended b bs rest (ends_is b k) h }
  where
    ended : (b : ℕ) (bs rest : List ℕ) → b ≡ 34 → Some bs ≡ Some rest → b ∷ bs ≡ 34 ∷ rest
    ended b bs rest e h = cc
found_by Stops b bs rest k f h = absurd cc
found_by (Goes Plain) b bs rest k f h = more_found (plain b) (b ∷ bs) bs rest (scalar_low b (omega (arith, plain_below b k)), plain_is b k) (ap (λ x. x ++ bs) (sym (one b (plain_below b k)))) (f bs (omega arith) h)
found_by (Goes Escape) b bs rest k f h = rw (slash_is b k) (escape_found bs rest f h)
found_by (Goes Tail1) b bs rest k f h = two_found b bs rest k f (tails_one bs rest h)
found_by (Goes Tail2) b bs rest k f h = three_found b 128 191 bs rest (three_bounds b (three_is b k)).0 (three_bounds b (three_is b k)).1 (omega arith) (omega arith) (λ x y. good_three b x y (three_is b k)) f (tails_two Tail2 128 191 (λ c. refl) bs rest h)
found_by (Goes AfterE0) b bs rest k f h = three_found b 160 191 bs rest (omega (arith, e0_is b k)) (omega (arith, e0_is b k)) (omega arith) (omega arith) (λ x y. good_e0 b x y (e0_is b k)) f (tails_two AfterE0 160 191 (λ c. refl) bs rest h)
found_by (Goes AfterEd) b bs rest k f h = three_found b 128 159 bs rest (omega (arith, ed_is b k)) (omega (arith, ed_is b k)) (omega arith) (omega arith) (λ x y. good_ed b x y (ed_is b k)) f (tails_two AfterEd 128 159 (λ c. refl) bs rest h)
found_by (Goes Tail3) b bs rest k f h = four_found b 128 191 bs rest (omega (arith, four_from b k)) (omega arith) (omega arith) (good_four b (four_from b k) (four_below b k)) f (tails_three Tail3 128 191 (λ c. refl) bs rest h)
  where
    good_four : (a : ℕ) → 241 ≤ a → a < 244 → (b c d : ℕ) → 128 ≤ b → b ≤ 191 → 128 ≤ c → c ≤ 191 → 128 ≤ d → d ≤ 191 → (65536 ≤ of_four a b c d) × (of_four a b c d < 1114112)
    good_four a a_from a_to b c d b_from b_to c_from c_to d_from d_to = (omega arith, omega arith)
found_by (Goes AfterF0) b bs rest k f h = four_found b 144 191 bs rest (omega (arith, f0_is b k)) (omega arith) (omega arith) (good_f0 b (f0_is b k)) f (tails_three AfterF0 144 191 (λ c. refl) bs rest h)
  where
    good_f0 : (a : ℕ) → a ≡ 240 → (b c d : ℕ) → 144 ≤ b → b ≤ 191 → 128 ≤ c → c ≤ 191 → 128 ≤ d → d ≤ 191 → (65536 ≤ of_four a b c d) × (of_four a b c d < 1114112)
    good_f0 a e b c d b_from b_to c_from c_to d_from d_to = (omega arith, omega arith)
found_by (Goes AfterF4) b bs rest k f h = four_found b 128 143 bs rest (omega (arith, f4_is b k)) (omega arith) (omega arith) (good_f4 b (f4_is b k)) f (tails_three AfterF4 128 143 (λ c. refl) bs rest h)
  where
    good_f4 : (a : ℕ) → a ≡ 244 → (b c d : ℕ) → 128 ≤ b → b ≤ 143 → 128 ≤ c → c ≤ 191 → 128 ≤ d → d ≤ 191 → (65536 ≤ of_four a b c d) × (of_four a b c d < 1114112)
    good_f4 a e b c d b_from b_to c_from c_to d_from d_to = (omega arith, omega arith)
found_by (Goes Hex4) b bs rest k f h = absurd (no_hex4 b k)
found_by (Goes Hex3) b bs rest k f h = absurd (no_hex3 b k)
found_by (Goes Hex2) b bs rest k f h = absurd (no_hex2 b k)
found_by (Goes Hex1) b bs rest k f h = absurd (no_hex1 b k)

found_within : (n : ℕ) (bs rest : List ℕ) → length bs ≤ n → walk Plain bs ≡ Some rest → Found bs rest
found_within n [] rest l h = absurd cc
found_within zero (b ∷ bs) rest l h = absurd (omega arith)
found_within (suc n) (b ∷ bs) rest l h = found_by (plain_move b) b bs rest refl (λ cs s k. found_within n cs rest (omega arith) k) h

pub found_pieces : (bs rest : List ℕ) → walk Plain bs ≡ Some rest → Found bs rest
found_pieces bs rest h = found_within (length bs) bs rest (omega arith) h

-- what was passed over, without its last quotation mark, is a string of some characters
pub string_found : (bs rest : List ℕ) → walk Plain bs ≡ Some rest → (raw cs : List ℕ) × SpellsCharacters cs raw × (bs ≡ raw ++ 34 ∷ rest)
string_found bs rest h = let f = found_pieces bs rest h in (flat_map spelled f.pieces, characters f.pieces, (f.pieces, f.are, refl, refl), f.is)
