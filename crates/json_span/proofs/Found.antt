-- What the machine passes, from where a value may begin, is a value; and so on for what may follow one.
use Rattle.std.proofs.Common.{◌≡◌, ℕ, suc, ◌+◌, ◌≤◌, ◌<◌, List, [], ◌∷◌, ◌++◌, length, refl, sym, ap, ◌∙◌, inl, inr}
use Rattle.std.specs.Prelude.{Bool, true, false, ◌⊎◌}
use Rattle.std.proofs.lemmas.List.{append_assoc, length-append}
use native.Mathlib.Omega.{arith}
use Rattle.json_text.specs.declared.kind.Word.{Word}
use Rattle.json_text.specs.declared.kind.Word.TheVariants as word_of
use Rattle.json_text.specs.Json as grammar
use Rattle.json_text.specs.Json.{Json, Items, no_items, item, Members, no_members, member, is_space, space, byte, ◌then◌, depth, items_depth, members_depth, items, more_items, members, more_members, pair}
use Rattle.json_token.specs.declared.number.NumberPart.{NumberPart}
use Rattle.json_token.specs.declared.string.Part.TheVariants.{Plain}
use Rattle.json_span.specs.declared.word.Begun.{Begun}
use Rattle.json_span.specs.declared.word.Begun.TheVariants.{N, F, T}
use Rattle.json_span.specs.declared.class.Class.TheVariants as class
use Rattle.json_span.specs.Classes.{class_of}
use Rattle.json_token.proofs.Numbers.{number_found}
use Rattle.json_token.proofs.Pieces.{string_found}
use Rattle.json_span.proofs.Shape.{Point, value, after, word, quoted, Accepts}
use Rattle.json_span.proofs.ClassBytes.{quote_is, begins_is, number_is}
use Rattle.json_span.proofs.FoundTokens.{NoSpace, left_of, PastLetters, past_word, PastNumber, PastString, past_string}

-- a value in front of these bytes, which stand at a place
pub record FoundValue (d at : ℕ) (bs : List ℕ) (ks : List Bool) : Type 0 where
  pub tree : Json
  pub text : List ℕ
  pub rest : List ℕ
  pub whole : bs ≡ text ++ rest
  pub is : grammar.value tree at text
  pub fits : depth tree + length ks ≤ d
  pub next : Accepts d rest after ks

pub shorter : (bs gap rest : List ℕ) (n : ℕ) → bs ≡ gap ++ rest → length bs ≤ n → length rest ≤ n
shorter bs gap rest n whole h = omega (arith, ap length whole, length-append gap rest)

-- strings, with the quotation marks
pub record FoundString (d at : ℕ) (bs : List ℕ) (p : Point) (ks : List Bool) : Type 0 where
  pub chars : List ℕ
  pub text : List ℕ
  pub rest : List ℕ
  pub whole : bs ≡ text ++ rest
  pub is : grammar.quoted chars at text
  pub next : Accepts d rest p ks

quotes : (b : ℕ) (bs inner rest : List ℕ) → b ≡ 34 → bs ≡ inner ++ 34 ∷ rest → b ∷ bs ≡ (34 ∷ (inner ++ 34 ∷ [])) ++ rest
quotes b bs inner rest e h = ap (λ x. x ∷ bs) e ∙ ap (λ xs. 34 ∷ xs) (h ∙ sym (append_assoc inner (34 ∷ []) rest))

string_of : (d at b : ℕ) (bs : List ℕ) (p : Point) (ks : List Bool) → b ≡ 34 → PastString d bs p Plain ks → FoundString d at (b ∷ bs) p ks
string_of d at b bs p ks e s =
    let f = string_found bs s.rest s.walked in
    record {
      chars = f.1;
      text = 34 ∷ (f.0 ++ 34 ∷ []);
      rest = s.rest;
      whole = quotes b bs f.0 s.rest e f.3;
      is = (34 ∷ [], f.0 ++ 34 ∷ [], refl, refl, (f.0, 34 ∷ [], refl, f.2, refl));
      next = s.next;
    }

pub found_string : (d at b : ℕ) (bs : List ℕ) (p : Point) (ks : List Bool) → class_of b ≡ class.Quote → Accepts d bs (quoted p Plain) ks → FoundString d at (b ∷ bs) p ks
found_string d at b bs p ks e h = string_of d at b bs p ks (quote_is b e) (past_string d bs p Plain ks h)

-- values that are no arrays and no objects
pub string_value : (d at : ℕ) (bs : List ℕ) (ks : List Bool) → length ks ≤ d → FoundString d at bs after ks → FoundValue d at bs ks
string_value d at bs ks room s = record {
  tree = grammar.string (record { from = at; to = at + length s.text }) s.chars;
  text = s.text;
  rest = s.rest;
  whole = s.whole;
  is = (s.is, refl);
  fits = omega arith;
  next = s.next;
}

pub number_value : (d at b : ℕ) (bs : List ℕ) (p : NumberPart) (ks : List Bool) → length ks ≤ d → class_of b ≡ class.Number p → PastNumber d bs p ks → FoundValue d at (b ∷ bs) ks
number_value d at b bs p ks room e s = record {
  tree = grammar.number (record { from = at; to = at + length (b ∷ s.text) }) (b ∷ s.text);
  text = b ∷ s.text;
  rest = s.rest;
  whole = ap (λ xs. b ∷ xs) s.whole;
  is = ((refl, number_found b p s.text (number_is b p e) s.is), refl);
  fits = omega arith;
  next = s.next;
}

word_value : (d at b : ℕ) (bs : List ℕ) (w : Begun) (v : Word) (ks : List Bool) → length ks ≤ d → b ∷ left_of w ≡ grammar.letters v → PastLetters d bs (left_of w) ks → FoundValue d at (b ∷ bs) ks
word_value d at b bs w v ks room e s = record {
  tree = grammar.word (record { from = at; to = at + length (b ∷ left_of w) }) v;
  text = b ∷ left_of w;
  rest = s.rest;
  whole = ap (λ xs. b ∷ xs) s.whole;
  is = (e, refl);
  fits = omega arith;
  next = s.next;
}

first_letter : (b : ℕ) (w : Begun) → class_of b ≡ class.Begins w → (v : Word) × (b ∷ left_of w ≡ grammar.letters v)
first_letter b w e = pick (begins_is b w e)
  where
    pick : ((b ≡ 110) × (w ≡ N)) ⊎ (((b ≡ 102) × (w ≡ F)) ⊎ ((b ≡ 116) × (w ≡ T))) → (v : Word) × (b ∷ left_of w ≡ grammar.letters v)
    pick (inl h) = (word_of.Null, rw (h.0, h.1))
    pick (inr (inl h)) = (word_of.False, rw (h.0, h.1))
    pick (inr (inr h)) = (word_of.True, rw (h.0, h.1))

pub found_word : (d at b : ℕ) (bs : List ℕ) (w : Begun) (ks : List Bool) → length ks ≤ d → class_of b ≡ class.Begins w → Accepts d bs (word w) ks → FoundValue d at (b ∷ bs) ks
found_word d at b bs w ks room e h = let v = first_letter b w e in word_value d at b bs w v.0 ks room v.1 (past_word d bs w ks h)

-- the rest of an array behind a value, with the bracket
pub record FoundItems (d at : ℕ) (bs : List ℕ) (ks : List Bool) : Type 0 where
  pub trees : Items
  pub gap : List ℕ
  pub text : List ℕ
  pub rest : List ℕ
  pub whole : bs ≡ gap ++ (text ++ 93 ∷ rest)
  pub blank : space at gap
  pub is : more_items trees (at + length gap) text
  pub fits : items_depth trees + suc (length ks) ≤ d
  pub next : Accepts d rest after ks

pub record FoundMembers (d at : ℕ) (bs : List ℕ) (ks : List Bool) : Type 0 where
  pub trees : Members
  pub gap : List ℕ
  pub text : List ℕ
  pub rest : List ℕ
  pub whole : bs ≡ gap ++ (text ++ 125 ∷ rest)
  pub blank : space at gap
  pub is : more_members trees (at + length gap) text
  pub fits : members_depth trees + suc (length ks) ≤ d
  pub next : Accepts d rest after ks

-- all of this, of at most n bytes
pub record Finds (n : ℕ) : Type 0 where
  pub a_value : (d at : ℕ) (bs : List ℕ) (ks : List Bool) → length bs ≤ n → NoSpace bs → length ks ≤ d → Accepts d bs value ks → FoundValue d at bs ks
  pub more : (d at : ℕ) (bs : List ℕ) (ks : List Bool) → length bs ≤ n → length ks < d → Accepts d bs after (false ∷ ks) → FoundItems d at bs ks
  pub more_pairs : (d at : ℕ) (bs : List ℕ) (ks : List Bool) → length bs ≤ n → length ks < d → Accepts d bs after (true ∷ ks) → FoundMembers d at bs ks
