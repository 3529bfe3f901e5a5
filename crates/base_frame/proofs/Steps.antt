-- What the bytes read so far are by the grammar, and what the next byte does to that.
use Rattle.std.proofs.Common.{◌≡◌, refl, ap, ◌∙◌, sym, subst, ℕ, ◌+◌, ◌-◌, ◌*◌, ◌<◌, ◌≤◌, Bool, true, false, List, [], ◌∷◌, ◌++◌, append_assoc, append-nil, arith}
use Rattle.std.specs.Prelude.{◌==◌, nat_le, if◌then◌else◌, Option, Some, None, is_none}
use Rattle.std.proofs.lemmas.Bool.{eqb-true, eqb-false, leb-true}
use Rattle.std.proofs.lemmas.Bool.Decides.{nat_tests}
use Rattle.base_frame.specs.declared.block.BadWhy.TheVariants.{Byte, TwoLengths, NoLength, TooLong, LongHeader}
use Rattle.base_frame.specs.declared.block.Part.{Part}
use Rattle.base_frame.specs.declared.block.Part.TheVariants.{Start, LengthName, OtherName, Value, Before, Digits, After, LineEnd, BlockEnd}
use Rattle.base_frame.specs.declared.block.Move.{Move}
use Rattle.base_frame.specs.declared.block.Move.TheVariants.{Goes, Ends, Bad}
use Rattle.base_frame.specs.Block.{is_name_byte, is_value_byte, is_space, is_digit, goes, lettered, named, at_start, at_colon, in_value, value_of, at_digit, in_length, in_length_name, in_other_name, before_digits, after_digits, at_line_end, at_block_end, part_step}
use Rattle.base_frame.specs.Grammar.{Each, NotEmpty, number, IsLengthName, line, IsField, IsLengthField, Lines, AreFields, HaveLength, Fields, IsOpenBlock, IsSecond, IsWithout, IsBeyond}
use Rattle.base_frame.proofs.Names.{no_some, some_same, SoFar, Lettered, letter_in, other_in, nothing_so_far, fourteen, not_fourteen, other_is}

-- in a name
pub record Naming (limit : ℕ) (pre : List ℕ) (l : Option ℕ) (p : Part) : Type 0 where
  pub front : List ℕ
  pub name : List ℕ
  pub bytes : pre ≡ front ++ name
  pub fields : Fields limit l front
  pub named : NotEmpty name
  pub name_bytes : Each is_name_byte name
  pub so_far : SoFar name p

-- in the value of another field
pub record InValue (limit : ℕ) (pre : List ℕ) (l : Option ℕ) : Type 0 where
  pub front : List ℕ
  pub name : List ℕ
  pub value : List ℕ
  pub bytes : pre ≡ front ++ (name ++ 58 ∷ value)
  pub fields : Fields limit l front
  pub named : NotEmpty name
  pub name_bytes : Each is_name_byte name
  pub value_bytes : Each is_value_byte value
  pub other : IsLengthName name → ⊥

-- before the digits of a length
pub record BeforeDigits (pre : List ℕ) : Type 0 where
  pub front : List ℕ
  pub name : List ℕ
  pub before : List ℕ
  pub bytes : pre ≡ front ++ (name ++ 58 ∷ before)
  pub fields : AreFields front
  pub named : IsLengthName name
  pub name_bytes : Each is_name_byte name
  pub spaces : Each is_space before

-- in the digits of a length, or behind them
pub record InLength (limit : ℕ) (pre behind : List ℕ) (l : Option ℕ) : Type 0 where
  pub front : List ℕ
  pub name : List ℕ
  pub before : List ℕ
  pub digits : List ℕ
  pub n : ℕ
  pub bytes : pre ≡ front ++ (name ++ 58 ∷ (before ++ (digits ++ behind)))
  pub fields : AreFields front
  pub named : IsLengthName name
  pub name_bytes : Each is_name_byte name
  pub spaces : Each is_space before
  pub some_digits : NotEmpty digits
  pub digit_bytes : Each is_digit digits
  pub more_spaces : Each is_space behind
  pub length_is : l ≡ Some n
  pub counts : number 0 digits ≡ n
  pub within : n ≤ limit

abbrev pub Read : ℕ → List ℕ → Option ℕ → Part → Type 0
Read limit pre l Start = Fields limit l pre
Read limit pre l (LengthName k) = Naming limit pre l (LengthName k)
Read limit pre l OtherName = Naming limit pre l OtherName
Read limit pre l Value = InValue limit pre l
Read limit pre l Before = (l ≡ None) × BeforeDigits pre
Read limit pre l Digits = InLength limit pre [] l
Read limit pre l After = (behind : List ℕ) × InLength limit pre behind l
Read limit pre l LineEnd = Fields limit l (pre ++ 10 ∷ [])
Read limit pre l BlockEnd = (n : ℕ) × (l ≡ Some n) × IsOpenBlock limit n (pre ++ 10 ∷ [])

abbrev pub Says : ℕ → List ℕ → ℕ → Move → Type 0
Says limit pre b (Goes u) = Read limit (pre ++ b ∷ []) u.length u.part
Says limit pre b (Ends n) = IsOpenBlock limit n (pre ++ b ∷ [])
Says limit pre b (Bad TwoLengths) = IsSecond limit pre b
Says limit pre b (Bad NoLength) = IsWithout pre b
Says limit pre b (Bad TooLong) = IsBeyond limit pre b
Says limit pre b (Bad Byte) = Unit {0}
Says limit pre b (Bad LongHeader) = ⊥

pub by_test : (P : Move → Type 0) (t : Bool) (x y : Move) → (t ≡ true → P x) → (t ≡ false → P y) → P (if t then x else y)
by_test P true x y f g = f refl
by_test P false x y f g = g refl

pub each_then : (f : ℕ → Bool) (xs ys : List ℕ) → Each f xs → Each f ys → Each f (xs ++ ys)
each_then f [] ys h k = k
each_then f (x ∷ xs) ys h k = (h.0, each_then f xs ys h.1 k)

pub some_then : (xs : List ℕ) (y : ℕ) → NotEmpty (xs ++ y ∷ [])
some_then [] y = tt
some_then (x ∷ xs) y = tt

pub number_then : (v : ℕ) (xs : List ℕ) (d : ℕ) → number v (xs ++ d ∷ []) ≡ number v xs * 10 + (d - 48)
number_then v [] d = refl
number_then v (x ∷ xs) d = number_then (v * 10 + (x - 48)) xs d

-- one field more

lines_then : (ls : List (List ℕ)) (bs l : List ℕ) → Lines ls bs → IsField l → Lines (ls ++ l ∷ []) (bs ++ l)
lines_then [] bs l h f = (f, ([], ap (λ x. x ++ l) h ∙ sym (append-nil l), refl))
lines_then (k ∷ ls) bs l h f = (h.0, (h.1.0 ++ l, ap (λ x. x ++ l) h.1.1 ∙ append_assoc k h.1.0 l, lines_then ls h.1.0 l h.1.2 f))

fields_then : (bs l : List ℕ) → AreFields bs → IsField l → AreFields (bs ++ l)
fields_then bs l h f = (h.0 ++ l ∷ [], lines_then h.0 bs l h.1 f)

pub no_fields : AreFields []
no_fields = ([], refl)

pub field_then : (limit : ℕ) (o : Option ℕ) (bs l : List ℕ) → Fields limit o bs → IsField l → Fields limit o (bs ++ l)
field_then limit None bs l h f = fields_then bs l h f
field_then limit (Some n) bs l h f = record {
  front = h.front;
  field = h.field;
  back = h.back ++ l;
  bytes = ap (λ x. x ++ l) h.bytes ∙ simp append_assoc;
  before = h.before;
  length_field = h.length_field;
  behind = fields_then h.back l h.behind f;
  within = h.within;
}

pub length_then : (limit n : ℕ) (bs l : List ℕ) → AreFields bs → IsLengthField n l → n ≤ limit → HaveLength limit n (bs ++ l)
length_then limit n bs l h f e = record {
  front = bs;
  field = l;
  back = [];
  bytes = ap (λ x. bs ++ x) (sym (append-nil l));
  before = h;
  length_field = f;
  behind = no_fields;
  within = e;
}

-- a name

naming : (limit : ℕ) (pre : List ℕ) (l : Option ℕ) (p : Part) → Naming limit pre l p → Read limit pre l p
naming limit pre l (LengthName k) h = h
naming limit pre l OtherName h = h
naming limit pre l Start h = absurd h.so_far
naming limit pre l Value h = absurd h.so_far
naming limit pre l Before h = absurd h.so_far
naming limit pre l Digits h = absurd h.so_far
naming limit pre l After h = absurd h.so_far
naming limit pre l LineEnd h = absurd h.so_far
naming limit pre l BlockEnd h = absurd h.so_far

says_letter : (limit : ℕ) (pre front name : List ℕ) (b : ℕ) (l : Option ℕ) (m : Move) → pre ≡ front ++ name → Fields limit l front → Each is_name_byte name → is_name_byte b ≡ true
    → Lettered (name ++ b ∷ []) l m → Says limit pre b m
says_letter limit pre front name b l m e f n t h =
    subst (λ x. Says limit pre b x) (sym h.1) (naming limit (pre ++ b ∷ []) l h.0 (record {
      front = front;
      name = name ++ b ∷ [];
      bytes = ap (λ x. x ++ b ∷ []) e ∙ append_assoc front name (b ∷ []);
      fields = f;
      named = some_then name b;
      name_bytes = each_then is_name_byte name (b ∷ []) n (t, tt);
      so_far = h.2;
    }))

says_named : (limit : ℕ) (pre front name : List ℕ) (b k : ℕ) (l : Option ℕ) → pre ≡ front ++ name → Fields limit l front → Each is_name_byte name
    → SoFar name (LengthName k) → Says limit pre b (named k b l)
says_named limit pre front name b k l e f n s =
    by_test (Says limit pre b) (is_name_byte b) (lettered k b l) (Bad Byte) (λ t. says_letter limit pre front name b l (lettered k b l) e f n t (letter_in name b k l s)) (λ t. tt)

begins_value : (limit : ℕ) (pre : List ℕ) (b : ℕ) (l : Option ℕ) (p : Part) (h : Naming limit pre l p) → b ≡ 58 → (IsLengthName h.name → ⊥) → InValue limit (pre ++ b ∷ []) l
begins_value limit pre b l p h e n = record {
  front = h.front;
  name = h.name;
  value = [];
  bytes = ap (λ x. pre ++ x ∷ []) e ∙ (ap (λ x. x ++ 58 ∷ []) h.bytes ∙ append_assoc h.front h.name (58 ∷ []));
  fields = h.fields;
  named = h.named;
  name_bytes = h.name_bytes;
  value_bytes = tt;
  other = n;
}

says_length_colon : (limit : ℕ) (pre : List ℕ) (b k : ℕ) (l : Option ℕ) → Naming limit pre l (LengthName k) → b ≡ 58 → k ≡ 14 → Says limit pre b (if is_none l then goes Before l else Bad TwoLengths)
says_length_colon limit pre b k None h e q = (
  refl,
  record {
    front = h.front;
    name = h.name;
    before = [];
    bytes = ap (λ x. pre ++ x ∷ []) e ∙ (ap (λ x. x ++ 58 ∷ []) h.bytes ∙ append_assoc h.front h.name (58 ∷ []));
    fields = h.fields;
    named = fourteen h.name k h.so_far q;
    name_bytes = h.name_bytes;
    spaces = tt;
  },
)
says_length_colon limit pre b k (Some n) h e q = (e, (n, h.front, h.name, h.bytes, h.fields, h.name_bytes, fourteen h.name k h.so_far q))

says_colon : (limit : ℕ) (pre : List ℕ) (b k : ℕ) (l : Option ℕ) → Naming limit pre l (LengthName k) → b ≡ 58 → Says limit pre b (at_colon k l)
says_colon limit pre b k l h e =
    by_test (Says limit pre b) (k == 14) (if is_none l then goes Before l else Bad TwoLengths) (goes Value l)
    (λ t. says_length_colon limit pre b k l h e (eqb-true k 14 t))
    (λ t. begins_value limit pre b l (LengthName k) h e (not_fourteen h.name k h.so_far (eqb-false k 14 t)))

says_length_name : (limit : ℕ) (pre : List ℕ) (b k : ℕ) (l : Option ℕ) → Naming limit pre l (LengthName k) → Says limit pre b (in_length_name k b l)
says_length_name limit pre b k l h =
    by_test (Says limit pre b) (b == 58) (at_colon k l) (named k b l) (λ t. says_colon limit pre b k l h (eqb-true b 58 t))
    (λ t. says_named limit pre h.front h.name b k l h.bytes h.fields h.name_bytes h.so_far)

says_other_name : (limit : ℕ) (pre : List ℕ) (b : ℕ) (l : Option ℕ) → Naming limit pre l OtherName → Says limit pre b (in_other_name b l)
says_other_name limit pre b l h =
    by_test (Says limit pre b) (b == 58) (goes Value l) (if is_name_byte b then goes OtherName l else Bad Byte)
    (λ t. begins_value limit pre b l OtherName h (eqb-true b 58 t) (other_is h.name h.so_far))
    (λ t. by_test (Says limit pre b) (is_name_byte b) (goes OtherName l) (Bad Byte)
    (λ u. says_letter limit pre h.front h.name b l (goes OtherName l) h.bytes h.fields h.name_bytes u (OtherName, refl, other_in h.name b h.so_far)) (λ u. tt))

-- the empty line

says_empty : (limit : ℕ) (pre : List ℕ) (b : ℕ) (l : Option ℕ) → Fields limit l pre → b ≡ 13 → Says limit pre b (if is_none l then Bad NoLength else goes BlockEnd l)
says_empty limit pre b None h e = (e, h)
says_empty limit pre b (Some n) h e = (n, refl, (pre, append_assoc pre (b ∷ []) (10 ∷ []) ∙ ap (λ x. pre ++ x ∷ 10 ∷ []) e, h))

says_start : (limit : ℕ) (pre : List ℕ) (b : ℕ) (l : Option ℕ) → Fields limit l pre → Says limit pre b (at_start b l)
says_start limit pre b l h =
    by_test (Says limit pre b) (b == 13) (if is_none l then Bad NoLength else goes BlockEnd l) (named 0 b l) (λ t. says_empty limit pre b l h (eqb-true b 13 t))
    (λ t. says_named limit pre pre [] b 0 l (sym (append-nil pre)) h tt nothing_so_far)

-- a value

ends_value : (limit : ℕ) (pre : List ℕ) (b : ℕ) (l : Option ℕ) → InValue limit pre l → b ≡ 13 → Fields limit l ((pre ++ b ∷ []) ++ 10 ∷ [])
ends_value limit pre b l h e =
    let whole : h.front ++ line h.name h.value ≡ (pre ++ b ∷ []) ++ 10 ∷ [] =
    sym (ap (λ x. (pre ++ x ∷ []) ++ 10 ∷ []) e ∙ (ap (λ x. (x ++ 13 ∷ []) ++ 10 ∷ []) h.bytes ∙ simp append_assoc)) in
    subst (Fields limit l) whole (field_then limit l h.front (line h.name h.value) h.fields (record {
      name = h.name;
      value = h.value;
      bytes = refl;
      named = h.named;
      name_bytes = h.name_bytes;
      value_bytes = h.value_bytes;
      other = h.other;
    }))

says_value : (limit : ℕ) (pre : List ℕ) (b : ℕ) (l : Option ℕ) → InValue limit pre l → Says limit pre b (in_value b l)
says_value limit pre b l h =
    by_test (Says limit pre b) (b == 13) (goes LineEnd l) (if is_value_byte b then goes Value l else Bad Byte)
    (λ t. ends_value limit pre b l h (eqb-true b 13 t))
    (λ t. by_test (Says limit pre b) (is_value_byte b) (goes Value l) (Bad Byte)
    (λ u. record {
      front = h.front;
      name = h.name;
      value = h.value ++ b ∷ [];
      bytes = ap (λ x. x ++ b ∷ []) h.bytes ∙ simp append_assoc;
      fields = h.fields;
      named = h.named;
      name_bytes = h.name_bytes;
      value_bytes = each_then is_value_byte h.value (b ∷ []) h.value_bytes (u, tt);
      other = h.other;
    })
    (λ u. tt))

says_line_end : (limit : ℕ) (pre : List ℕ) (b : ℕ) (l : Option ℕ) → Fields limit l (pre ++ 10 ∷ []) → Says limit pre b (at_line_end b l)
says_line_end limit pre b l h =
    by_test (Says limit pre b) (b == 10) (goes Start l) (Bad Byte) (λ t. subst (λ x. Fields limit l (pre ++ x ∷ [])) (sym (eqb-true b 10 t)) h) (λ t. tt)

says_block_end : (limit : ℕ) (pre : List ℕ) (b : ℕ) (l : Option ℕ) → (n : ℕ) × (l ≡ Some n) × IsOpenBlock limit n (pre ++ 10 ∷ []) → Says limit pre b (at_block_end b l)
says_block_end limit pre b l h =
    by_test (Says limit pre b) (b == 10) (Ends (value_of l)) (Bad Byte)
    (λ t. subst (λ n. IsOpenBlock limit n (pre ++ b ∷ [])) (ap value_of (sym h.1)) (subst (λ x. IsOpenBlock limit h.0 (pre ++ x ∷ [])) (sym (eqb-true b 10 t)) h.2)) (λ t. tt)

-- a length

beyond_of : (n limit : ℕ) → nat_le n limit ≡ false → limit < n
beyond_of n limit t = grind (arith, nat_tests)

first_digit : (limit : ℕ) (pre : List ℕ) (b : ℕ) → BeforeDigits pre → is_digit b ≡ true → Says limit pre b (if nat_le (0 * 10 + (b - 48)) limit then goes Digits (Some (0 * 10 + (b - 48))) else Bad TooLong)
first_digit limit pre b h d =
    by_test (Says limit pre b) (nat_le (0 * 10 + (b - 48)) limit) (goes Digits (Some (0 * 10 + (b - 48)))) (Bad TooLong)
    (λ t. record {
      front = h.front;
      name = h.name;
      before = h.before;
      digits = b ∷ [];
      n = 0 * 10 + (b - 48);
      bytes = ap (λ x. x ++ b ∷ []) h.bytes ∙ simp append_assoc;
      fields = h.fields;
      named = h.named;
      name_bytes = h.name_bytes;
      spaces = h.spaces;
      some_digits = tt;
      digit_bytes = (d, tt);
      more_spaces = tt;
      length_is = refl;
      counts = refl;
      within = leb-true (0 * 10 + (b - 48)) limit t;
    })
    (λ t. record {
      front = h.front;
      name = h.name;
      before = h.before;
      digits = [];
      bytes = h.bytes ∙ simp append-nil;
      fields = h.fields;
      named = h.named;
      name_bytes = h.name_bytes;
      spaces = h.spaces;
      digit_bytes = tt;
      digit = d;
      fits = omega arith;
      beyond = beyond_of (0 * 10 + (b - 48)) limit t;
    })

next_digit : (limit : ℕ) (pre : List ℕ) (b v : ℕ) → InLength limit pre [] (Some v) → is_digit b ≡ true → Says limit pre b (if nat_le (v * 10 + (b - 48)) limit then goes Digits (Some (v * 10 + (b - 48))) else Bad TooLong)
next_digit limit pre b v h d =
    let same : number 0 h.digits ≡ v = h.counts ∙ sym (some_same v h.n h.length_is) in
    by_test (Says limit pre b) (nat_le (v * 10 + (b - 48)) limit) (goes Digits (Some (v * 10 + (b - 48)))) (Bad TooLong)
    (λ t. record {
      front = h.front;
      name = h.name;
      before = h.before;
      digits = h.digits ++ b ∷ [];
      n = v * 10 + (b - 48);
      bytes = ap (λ x. x ++ b ∷ []) h.bytes ∙ simp (append_assoc, append-nil);
      fields = h.fields;
      named = h.named;
      name_bytes = h.name_bytes;
      spaces = h.spaces;
      some_digits = some_then h.digits b;
      digit_bytes = each_then is_digit h.digits (b ∷ []) h.digit_bytes (d, tt);
      more_spaces = tt;
      length_is = refl;
      counts = number_then 0 h.digits b ∙ ap (λ x. x * 10 + (b - 48)) same;
      within = leb-true (v * 10 + (b - 48)) limit t;
    })
    (λ t. record {
      front = h.front;
      name = h.name;
      before = h.before;
      digits = h.digits;
      bytes = h.bytes ∙ simp append-nil;
      fields = h.fields;
      named = h.named;
      name_bytes = h.name_bytes;
      spaces = h.spaces;
      digit_bytes = h.digit_bytes;
      digit = d;
      fits = subst (λ x. x ≤ limit) (sym h.counts) h.within;
      beyond = subst (λ x. limit < x * 10 + (b - 48)) (sym same) (beyond_of (v * 10 + (b - 48)) limit t);
    })

says_before : (limit : ℕ) (pre : List ℕ) (b : ℕ) → BeforeDigits pre → Says limit pre b (before_digits limit b None)
says_before limit pre b h =
    by_test (Says limit pre b) (is_space b) (goes Before None) (at_digit limit b None)
    (λ t. (
      refl,
      record {
        front = h.front;
        name = h.name;
        before = h.before ++ b ∷ [];
        bytes = ap (λ x. x ++ b ∷ []) h.bytes ∙ simp append_assoc;
        fields = h.fields;
        named = h.named;
        name_bytes = h.name_bytes;
        spaces = each_then is_space h.before (b ∷ []) h.spaces (t, tt);
      },
    ))
    (λ t. by_test (Says limit pre b) (is_digit b) (if nat_le (0 * 10 + (b - 48)) limit then goes Digits (Some (0 * 10 + (b - 48))) else Bad TooLong) (Bad Byte) (λ d. first_digit limit pre b h d) (λ d. tt))

ends_length : (limit : ℕ) (pre behind : List ℕ) (b : ℕ) (l : Option ℕ) → InLength limit pre behind l → b ≡ 13 → Fields limit l ((pre ++ b ∷ []) ++ 10 ∷ [])
ends_length limit pre behind b l h e =
    let whole : h.front ++ line h.name (h.before ++ (h.digits ++ behind)) ≡ (pre ++ b ∷ []) ++ 10 ∷ [] =
    sym (ap (λ x. (pre ++ x ∷ []) ++ 10 ∷ []) e ∙ (ap (λ x. (x ++ 13 ∷ []) ++ 10 ∷ []) h.bytes ∙ simp append_assoc)) in
    subst (λ o. Fields limit o ((pre ++ b ∷ []) ++ 10 ∷ [])) (sym h.length_is) (subst (HaveLength limit h.n) whole (length_then limit h.n h.front (line h.name (h.before ++ (h.digits ++ behind))) h.fields (record {
      name = h.name;
      before = h.before;
      digits = h.digits;
      behind = behind;
      bytes = refl;
      named = h.named;
      name_bytes = h.name_bytes;
      spaces = h.spaces;
      some_digits = h.some_digits;
      digit_bytes = h.digit_bytes;
      more_spaces = h.more_spaces;
      counts = h.counts;
    }) h.within))

space_behind : (limit : ℕ) (pre behind : List ℕ) (b : ℕ) (l : Option ℕ) → InLength limit pre behind l → is_space b ≡ true → InLength limit (pre ++ b ∷ []) (behind ++ b ∷ []) l
space_behind limit pre behind b l h t = record {
  front = h.front;
  name = h.name;
  before = h.before;
  digits = h.digits;
  n = h.n;
  bytes = ap (λ x. x ++ b ∷ []) h.bytes ∙ simp append_assoc;
  fields = h.fields;
  named = h.named;
  name_bytes = h.name_bytes;
  spaces = h.spaces;
  some_digits = h.some_digits;
  digit_bytes = h.digit_bytes;
  more_spaces = each_then is_space behind (b ∷ []) h.more_spaces (t, tt);
  length_is = h.length_is;
  counts = h.counts;
  within = h.within;
}

says_after : (limit : ℕ) (pre behind : List ℕ) (b : ℕ) (l : Option ℕ) → InLength limit pre behind l → Says limit pre b (after_digits b l)
says_after limit pre behind b l h =
    by_test (Says limit pre b) (is_space b) (goes After l) (if b == 13 then goes LineEnd l else Bad Byte)
    (λ t. (behind ++ b ∷ [], space_behind limit pre behind b l h t))
    (λ t. by_test (Says limit pre b) (b == 13) (goes LineEnd l) (Bad Byte) (λ u. ends_length limit pre behind b l h (eqb-true b 13 u)) (λ u. tt))

says_digit : (limit : ℕ) (pre : List ℕ) (b : ℕ) (l : Option ℕ) → InLength limit pre [] l → Says limit pre b (at_digit limit b l)
says_digit limit pre b None h = absurd (no_some h.n h.length_is)
says_digit limit pre b (Some v) h =
    by_test (Says limit pre b) (is_digit b) (if nat_le (v * 10 + (b - 48)) limit then goes Digits (Some (v * 10 + (b - 48))) else Bad TooLong) (Bad Byte) (λ d. next_digit limit pre b v h d) (λ d. tt)

says_digits : (limit : ℕ) (pre : List ℕ) (b : ℕ) (l : Option ℕ) → InLength limit pre [] l → Says limit pre b (in_length limit b l)
says_digits limit pre b l h =
    by_test (Says limit pre b) (b == 13) (goes LineEnd l) (if is_space b then goes After l else at_digit limit b l)
    (λ t. ends_length limit pre [] b l h (eqb-true b 13 t))
    (λ t. by_test (Says limit pre b) (is_space b) (goes After l) (at_digit limit b l) (λ u. (b ∷ [], space_behind limit pre [] b l h u)) (λ u. says_digit limit pre b l h))

-- the next byte
pub step_says : (limit : ℕ) (pre : List ℕ) (b : ℕ) (l : Option ℕ) (p : Part) → Read limit pre l p → Says limit pre b (part_step limit b l p)
step_says limit pre b l Start h = says_start limit pre b l h
step_says limit pre b l (LengthName k) h = says_length_name limit pre b k l h
step_says limit pre b l OtherName h = says_other_name limit pre b l h
step_says limit pre b l Value h = says_value limit pre b l h
step_says limit pre b l Before h = subst (λ o. Says limit pre b (before_digits limit b o)) (sym h.0) (says_before limit pre b h.1)
step_says limit pre b l Digits h = says_digits limit pre b l h
step_says limit pre b l After h = says_after limit pre h.0 b l h.1
step_says limit pre b l LineEnd h = says_line_end limit pre b l h
step_says limit pre b l BlockEnd h = says_block_end limit pre b l h
