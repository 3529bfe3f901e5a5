-- What the machine passes in an object is its members.
use Rattle.std.proofs.Common.{◌≡◌, ℕ, suc, ◌+◌, ◌≤◌, ◌<◌, List, [], ◌∷◌, ◌++◌, length, max, refl, sym, ap, ◌∙◌, inl, inr}
use Rattle.std.specs.Prelude.{Bool, true, ◌⊎◌}
use Rattle.std.proofs.lemmas.List.{append_assoc}
use native.Mathlib.Omega.{arith}
use Rattle.json_text.specs.declared.span.Span.{Span}
use Rattle.json_text.specs.Json as grammar
use Rattle.json_text.specs.Json.{Json, Members, no_members, member, byte, space, ◌then◌, pair, depth, members_depth, members, more_members}
use Rattle.json_span.specs.declared.class.Class.{Class}
use Rattle.json_span.specs.declared.class.Class.TheVariants as class
use Rattle.json_span.specs.Classes.{class_of}
use Rattle.json_span.proofs.Shape.{value, first_name, name, colon, after, OnGoes, Accepts, begins_first_name, begins_name, at_colon, behind}
use Rattle.json_span.proofs.ClassBytes.{space_is, comma_is, colon_is, open_object_is, close_object_is}
use Rattle.json_span.proofs.FoundTokens.{NoSpace, Stripped, strip, value_waits, name_waits, colon_waits, after_waits}
use Rattle.json_span.proofs.Found.{FoundValue, FoundString, found_string, FoundMembers, Finds, shorter}
use Rattle.json_span.proofs.FoundArrays.{joined}

-- a value behind whitespace
record FoundSpaced (d at : ℕ) (bs : List ℕ) (ks : List Bool) : Type 0 where
  tree : Json
  text : List ℕ
  rest : List ℕ
  whole : bs ≡ text ++ rest
  is : (space then grammar.value tree) at text
  fits : depth tree + length ks ≤ d
  next : Accepts d rest after ks

spaced_of : (d at : ℕ) (bs : List ℕ) (ks : List Bool) (s : Stripped d bs value ks) → FoundValue d (at + length s.gap) s.rest ks → FoundSpaced d at bs ks
spaced_of d at bs ks s v = record {
  tree = v.tree;
  text = s.gap ++ v.text;
  rest = v.rest;
  whole = s.whole ∙ ap (λ xs. s.gap ++ xs) v.whole ∙ sym (append_assoc s.gap v.text v.rest);
  is = (s.gap, v.text, refl, s.blank, v.is);
  fits = v.fits;
  next = v.next;
}

spaced : (n : ℕ) → Finds n → (d at : ℕ) (bs : List ℕ) (ks : List Bool) → length bs ≤ n → length ks ≤ d → Accepts d bs value ks → FoundSpaced d at bs ks
spaced n f d at bs ks few room h =
    let s = strip d bs value ks value_waits h in
    spaced_of d at bs ks s (f.a_value d (at + length s.gap) s.rest ks (shorter bs s.gap s.rest n s.whole few) s.bare room s.next)

-- a colon with whitespace around it, and a value
record FoundColon (d at : ℕ) (bs : List ℕ) (ks : List Bool) : Type 0 where
  tree : Json
  text : List ℕ
  rest : List ℕ
  whole : bs ≡ text ++ rest
  is : (space then byte 58 then space then grammar.value tree) at text
  fits : depth tree + length ks ≤ d
  next : Accepts d rest after ks

colon_of : (d at b : ℕ) (all gap bs : List ℕ) (ks : List Bool) → all ≡ gap ++ b ∷ bs → space at gap → b ≡ 58 → FoundSpaced d (at + length gap + 1) bs ks → FoundColon d at all ks
colon_of d at b all gap bs ks whole blank e s = record {
  tree = s.tree;
  text = gap ++ 58 ∷ s.text;
  rest = s.rest;
  whole = whole ∙ ap (λ x. gap ++ x ∷ bs) e ∙ ap (λ xs. gap ++ 58 ∷ xs) s.whole ∙ sym (append_assoc gap (58 ∷ s.text) s.rest);
  is = (gap, 58 ∷ s.text, refl, blank, (58 ∷ [], s.text, refl, refl, s.is));
  fits = s.fits;
  next = s.next;
}

colon_by_class : (n : ℕ) → Finds n → (d at b : ℕ) (all gap bs : List ℕ) (ks : List Bool) → length bs ≤ n → length ks ≤ d
    → all ≡ gap ++ b ∷ bs → space at gap → (class_of b ≡ class.Space → ⊥) → (k : Class) → class_of b ≡ k
    → OnGoes (at_colon k ks) (λ q os. Accepts d bs q os) → FoundColon d at all ks
colon_by_class n f d at b all gap bs ks few room whole blank bare class.Space e h = absurd (bare e)
colon_by_class n f d at b all gap bs ks few room whole blank bare class.Colon e h = colon_of d at b all gap bs ks whole blank (colon_is b e) (spaced n f d (at + length gap + 1) bs ks few room h)
colon_by_class n f d at b all gap bs ks few room whole blank bare k e h = absurd h

colon_bare : (n : ℕ) → Finds n → (d at : ℕ) (all gap bs : List ℕ) (ks : List Bool) → length bs ≤ n → length ks ≤ d
    → all ≡ gap ++ bs → space at gap → NoSpace bs → Accepts d bs colon ks → FoundColon d at all ks
colon_bare n f d at all gap [] ks few room whole blank bare h = absurd h
colon_bare n f d at all gap (b ∷ bs) ks few room whole blank bare h = colon_by_class n f d at b all gap bs ks (omega arith) room whole blank bare (class_of b) refl h

a_colon : (n : ℕ) → Finds n → (d at : ℕ) (bs : List ℕ) (ks : List Bool) → length bs ≤ n → length ks ≤ d → Accepts d bs colon ks → FoundColon d at bs ks
a_colon n f d at bs ks few room h =
    let s = strip d bs colon ks colon_waits h in
    colon_bare n f d at bs s.gap s.rest ks (shorter bs s.gap s.rest n s.whole few) room s.whole s.blank s.bare s.next

-- a member
record FoundPair (d at : ℕ) (bs : List ℕ) (ks : List Bool) : Type 0 where
  span : Span
  chars : List ℕ
  tree : Json
  text : List ℕ
  rest : List ℕ
  whole : bs ≡ text ++ rest
  is : pair span chars (grammar.value tree) at text
  fits : depth tree + length ks ≤ d
  next : Accepts d rest after ks

pair_of : (d at : ℕ) (bs : List ℕ) (ks : List Bool) (s : FoundString d at bs colon ks) → FoundColon d (at + length s.text) s.rest ks → FoundPair d at bs ks
pair_of d at bs ks s c = record {
  span = record { from = at; to = at + length s.text };
  chars = s.chars;
  tree = c.tree;
  text = s.text ++ c.text;
  rest = c.rest;
  whole = s.whole ∙ ap (λ xs. s.text ++ xs) c.whole ∙ sym (append_assoc s.text c.text c.rest);
  is = (s.text, c.text, refl, (s.is, refl), c.is);
  fits = c.fits;
  next = c.next;
}

pair_by_class : (n : ℕ) → Finds n → (d at b : ℕ) (bs : List ℕ) (ks : List Bool) → length (b ∷ bs) ≤ n → length ks ≤ d → (class_of b ≡ class.Space → ⊥) → (k : Class) → class_of b ≡ k
    → OnGoes (begins_name name k ks) (λ q os. Accepts d bs q os) → FoundPair d at (b ∷ bs) ks
pair_by_class n f d at b bs ks few room bare class.Space e h = absurd (bare e)
pair_by_class n f d at b bs ks few room bare class.Quote e h =
    let s = found_string d at b bs colon ks e h in
    pair_of d at (b ∷ bs) ks s (a_colon n f d (at + length s.text) s.rest ks (shorter (b ∷ bs) s.text s.rest n s.whole few) room s.next)
pair_by_class n f d at b bs ks few room bare k e h = absurd h

a_pair : (n : ℕ) → Finds n → (d at : ℕ) (bs : List ℕ) (ks : List Bool) → length bs ≤ n → length ks ≤ d → NoSpace bs → Accepts d bs name ks → FoundPair d at bs ks
a_pair n f d at [] ks few room bare h = absurd h
a_pair n f d at (b ∷ bs) ks few room bare h = pair_by_class n f d at b bs ks few room bare (class_of b) refl h

-- members up to the bracket, with the bracket
pub record FoundNamed (d at : ℕ) (bs : List ℕ) (ks : List Bool) : Type 0 where
  pub trees : Members
  pub text : List ℕ
  pub rest : List ℕ
  pub whole : bs ≡ text ++ 125 ∷ rest
  pub is : members trees at text
  pub fits : members_depth trees + suc (length ks) ≤ d
  pub next : Accepts d rest after ks

-- the same, of one member at least
record FoundMember (d at : ℕ) (bs : List ℕ) (ks : List Bool) : Type 0 where
  span : Span
  chars : List ℕ
  tree : Json
  trees : Members
  text : List ℕ
  rest : List ℕ
  whole : bs ≡ text ++ 125 ∷ rest
  is : members (member span chars tree trees) at text
  fits : members_depth (member span chars tree trees) + suc (length ks) ≤ d
  next : Accepts d rest after ks

member_of : (d at : ℕ) (bs : List ℕ) (ks : List Bool) (s : Stripped d bs name (true ∷ ks)) (v : FoundPair d (at + length s.gap) s.rest (true ∷ ks))
    → FoundMembers d (at + length s.gap + length v.text) v.rest ks → FoundMember d at bs ks
member_of d at bs ks s v m = record {
  span = v.span;
  chars = v.chars;
  tree = v.tree;
  trees = m.trees;
  text = s.gap ++ (v.text ++ (m.gap ++ m.text));
  rest = m.rest;
  whole = joined bs s.gap s.rest v.text v.rest m.gap m.text (125 ∷ m.rest) s.whole v.whole m.whole;
  is = (s.gap, v.text ++ (m.gap ++ m.text), refl, s.blank, (v.text, m.gap ++ m.text, refl, v.is, (m.gap, m.text, refl, m.blank, m.is)));
  fits = deeper (depth v.tree) (members_depth m.trees) (length ks) d v.fits m.fits;
  next = m.next;
}
  where
    deeper : (a b k e : ℕ) → a + suc k ≤ e → b + suc k ≤ e → max a b + suc k ≤ e
    deeper a b k e h l = omega arith

a_member : (n : ℕ) → Finds n → (d at : ℕ) (bs : List ℕ) (ks : List Bool) → length bs ≤ n → length ks < d → Accepts d bs name (true ∷ ks) → FoundMember d at bs ks
a_member n f d at bs ks few room h =
    let s = strip d bs name (true ∷ ks) name_waits h in
    let few' = shorter bs s.gap s.rest n s.whole few in
    let v = a_pair n f d (at + length s.gap) s.rest (true ∷ ks) few' room s.bare s.next in
    member_of d at bs ks s v (f.more_pairs d (at + length s.gap + length v.text) v.rest ks (shorter s.rest v.text v.rest n v.whole few') room v.next)

-- an object ends behind whitespace
record Closes (d : ℕ) (bs : List ℕ) (ks : List Bool) : Type 0 where
  gap : List ℕ
  rest : List ℕ
  whole : bs ≡ gap ++ 125 ∷ rest
  blank : space 0 gap
  next : Accepts d rest after ks

-- or the machine is where a name may begin
closes_first : (d b : ℕ) (bs : List ℕ) (ks : List Bool) (k : Class) → class_of b ≡ k → (Accepts d bs first_name (true ∷ ks) → Closes d bs ks ⊎ Accepts d bs name (true ∷ ks))
    → OnGoes (begins_first_name k (true ∷ ks)) (λ q os. Accepts d bs q os) → Closes d (b ∷ bs) ks ⊎ Accepts d (b ∷ bs) name (true ∷ ks)
closes_first d b bs ks class.Space e f h = on (f h)
  where
    on : Closes d bs ks ⊎ Accepts d bs name (true ∷ ks) → Closes d (b ∷ bs) ks ⊎ Accepts d (b ∷ bs) name (true ∷ ks)
    on (inl c) = inl (record { gap = b ∷ c.gap; rest = c.rest; whole = ap (λ xs. b ∷ xs) c.whole; blank = (space_is b e, c.blank); next = c.next })
    on (inr g) = inr (rw e g)
closes_first d b bs ks class.CloseObject e f h = inl (record { gap = []; rest = bs; whole = ap (λ x. x ∷ bs) (close_object_is b e); blank = tt; next = h })
closes_first d b bs ks class.Quote e f h = inr (rw e h)
closes_first d b bs ks k e f h = absurd h

closes_or : (d : ℕ) (bs : List ℕ) (ks : List Bool) → Accepts d bs first_name (true ∷ ks) → Closes d bs ks ⊎ Accepts d bs name (true ∷ ks)
closes_or d [] ks h = absurd h
closes_or d (b ∷ bs) ks h = closes_first d b bs ks (class_of b) refl (λ g. closes_or d bs ks g) h

pub a_body : (n : ℕ) → Finds n → (d at : ℕ) (bs : List ℕ) (ks : List Bool) → length bs ≤ n → length ks < d → Accepts d bs first_name (true ∷ ks) → FoundNamed d at bs ks
a_body n f d at bs ks few room h = pick (closes_or d bs ks h)
  where
    pick : Closes d bs ks ⊎ Accepts d bs name (true ∷ ks) → FoundNamed d at bs ks
    pick (inl c) = record { trees = no_members; text = c.gap; rest = c.rest; whole = c.whole; is = c.blank; fits = omega arith; next = c.next }
    pick (inr g) = let i = a_member n f d at bs ks few room g in record { trees = member i.span i.chars i.tree i.trees; text = i.text; rest = i.rest; whole = i.whole; is = i.is; fits = i.fits; next = i.next }

pub object_value : (d at b : ℕ) (bs : List ℕ) (ks : List Bool) → class_of b ≡ class.OpenObject → FoundNamed d (at + 1) bs ks → FoundValue d at (b ∷ bs) ks
object_value d at b bs ks e s = record {
  tree = grammar.object (record { from = at; to = at + length (123 ∷ (s.text ++ 125 ∷ [])) }) s.trees;
  text = 123 ∷ (s.text ++ 125 ∷ []);
  rest = s.rest;
  whole = ap (λ x. x ∷ bs) (open_object_is b e) ∙ ap (λ xs. 123 ∷ xs) (s.whole ∙ sym (append_assoc s.text (125 ∷ []) s.rest));
  is = ((123 ∷ [], s.text ++ 125 ∷ [], refl, refl, (s.text, 125 ∷ [], refl, s.is, refl)), refl);
  fits = deep (members_depth s.trees) (length ks) d s.fits;
  next = s.next;
}
  where
    deep : (a k e : ℕ) → a + suc k ≤ e → 1 + a + k ≤ e
    deep a k e h = omega arith

-- behind a value in an object, where whitespace has been passed
more_by_class : (n : ℕ) → Finds n → (d at b : ℕ) (all gap bs : List ℕ) (ks : List Bool) → length bs ≤ n → length ks < d
    → all ≡ gap ++ b ∷ bs → space at gap → (class_of b ≡ class.Space → ⊥) → (k : Class) → class_of b ≡ k
    → OnGoes (behind k (true ∷ ks)) (λ q os. Accepts d bs q os) → FoundMembers d at all ks
more_by_class n f d at b all gap bs ks few room whole blank bare class.Space e h = absurd (bare e)
more_by_class n f d at b all gap bs ks few room whole blank bare class.CloseObject e h = record {
  trees = no_members;
  gap = gap;
  text = [];
  rest = bs;
  whole = whole ∙ ap (λ x. gap ++ x ∷ bs) (close_object_is b e);
  blank = blank;
  is = refl;
  fits = omega arith;
  next = h;
}
more_by_class n f d at b all gap bs ks few room whole blank bare class.Comma e h =
    let i = a_member n f d (at + length gap + 1) bs ks few room h in
    record {
      trees = member i.span i.chars i.tree i.trees;
      gap = gap;
      text = 44 ∷ i.text;
      rest = i.rest;
      whole = whole ∙ ap (λ x. gap ++ x ∷ bs) (comma_is b e) ∙ ap (λ xs. gap ++ 44 ∷ xs) i.whole;
      blank = blank;
      is = (44 ∷ [], i.text, refl, refl, i.is);
      fits = i.fits;
      next = i.next;
    }
more_by_class n f d at b all gap bs ks few room whole blank bare k e h = absurd h

more_bare : (n : ℕ) → Finds n → (d at : ℕ) (all gap bs : List ℕ) (ks : List Bool) → length bs ≤ suc n → length ks < d
    → all ≡ gap ++ bs → space at gap → NoSpace bs → Accepts d bs after (true ∷ ks) → FoundMembers d at all ks
more_bare n f d at all gap [] ks few room whole blank bare h = absurd h
more_bare n f d at all gap (b ∷ bs) ks few room whole blank bare h = more_by_class n f d at b all gap bs ks (omega arith) room whole blank bare (class_of b) refl h

pub found_more_pairs : (n : ℕ) → Finds n → (d at : ℕ) (bs : List ℕ) (ks : List Bool) → length bs ≤ suc n → length ks < d → Accepts d bs after (true ∷ ks) → FoundMembers d at bs ks
found_more_pairs n f d at bs ks few room h =
    let s = strip d bs after (true ∷ ks) after_waits h in
    more_bare n f d at bs s.gap s.rest ks (shorter bs s.gap s.rest (suc n) s.whole few) room s.whole s.blank s.bare s.next
