-- What the machine passes in an array is its items.
use Rattle.std.proofs.Common.{◌≡◌, ℕ, suc, ◌+◌, ◌≤◌, ◌<◌, List, [], ◌∷◌, ◌++◌, length, max, refl, sym, ap, ◌∙◌, inl, inr}
use Rattle.std.specs.Prelude.{Bool, false, ◌⊎◌}
use Rattle.std.proofs.lemmas.List.{append_assoc}
use native.Mathlib.Omega.{arith}
use Rattle.json_text.specs.Json as grammar
use Rattle.json_text.specs.Json.{Json, Items, no_items, item, space, depth, items_depth, items, more_items}
use Rattle.json_span.specs.declared.class.Class.{Class}
use Rattle.json_span.specs.declared.class.Class.TheVariants as class
use Rattle.json_span.specs.Classes.{class_of}
use Rattle.json_span.proofs.Shape.{value, first_item, after, OnGoes, Accepts, begins_item, behind}
use Rattle.json_span.proofs.ClassBytes.{space_is, comma_is, open_array_is, close_array_is}
use Rattle.json_span.proofs.FoundTokens.{NoSpace, Stripped, strip, value_waits, after_waits}
use Rattle.json_span.proofs.Found.{FoundValue, FoundItems, Finds, shorter}

-- items up to the bracket, with the bracket
pub record FoundBody (d at : ℕ) (bs : List ℕ) (ks : List Bool) : Type 0 where
  pub trees : Items
  pub text : List ℕ
  pub rest : List ℕ
  pub whole : bs ≡ text ++ 93 ∷ rest
  pub is : items trees at text
  pub fits : items_depth trees + suc (length ks) ≤ d
  pub next : Accepts d rest after ks

-- the same, of one item at least
pub record FoundItem (d at : ℕ) (bs : List ℕ) (ks : List Bool) : Type 0 where
  pub tree : Json
  pub trees : Items
  pub text : List ℕ
  pub rest : List ℕ
  pub whole : bs ≡ text ++ 93 ∷ rest
  pub is : items (item tree trees) at text
  pub fits : items_depth (item tree trees) + suc (length ks) ≤ d
  pub next : Accepts d rest after ks

pub joined : (bs g bs' t r g' t' r' : List ℕ) → bs ≡ g ++ bs' → bs' ≡ t ++ r → r ≡ g' ++ (t' ++ r') → bs ≡ (g ++ (t ++ (g' ++ t'))) ++ r'
joined bs g bs' t r g' t' r' h k l = h ∙ ap (λ xs. g ++ xs) (k ∙ ap (λ xs. t ++ xs) l) ∙ regroup
  where
    regroup : g ++ (t ++ (g' ++ (t' ++ r'))) ≡ (g ++ (t ++ (g' ++ t'))) ++ r'
    regroup = simp append_assoc

item_of : (d at : ℕ) (bs : List ℕ) (ks : List Bool) (s : Stripped d bs value (false ∷ ks)) (v : FoundValue d (at + length s.gap) s.rest (false ∷ ks))
    → FoundItems d (at + length s.gap + length v.text) v.rest ks → FoundItem d at bs ks
item_of d at bs ks s v m = record {
  tree = v.tree;
  trees = m.trees;
  text = s.gap ++ (v.text ++ (m.gap ++ m.text));
  rest = m.rest;
  whole = joined bs s.gap s.rest v.text v.rest m.gap m.text (93 ∷ m.rest) s.whole v.whole m.whole;
  is = (s.gap, v.text ++ (m.gap ++ m.text), refl, s.blank, (v.text, m.gap ++ m.text, refl, v.is, (m.gap, m.text, refl, m.blank, m.is)));
  fits = deeper (depth v.tree) (items_depth m.trees) (length ks) d v.fits m.fits;
  next = m.next;
}
  where
    deeper : (a b k e : ℕ) → a + suc k ≤ e → b + suc k ≤ e → max a b + suc k ≤ e
    deeper a b k e h l = omega arith

an_item : (n : ℕ) → Finds n → (d at : ℕ) (bs : List ℕ) (ks : List Bool) → length bs ≤ n → length ks < d → Accepts d bs value (false ∷ ks) → FoundItem d at bs ks
an_item n f d at bs ks few room h =
    let s = strip d bs value (false ∷ ks) value_waits h in
    let few' = shorter bs s.gap s.rest n s.whole few in
    let v = f.a_value d (at + length s.gap) s.rest (false ∷ ks) few' s.bare room s.next in
    item_of d at bs ks s v (f.more d (at + length s.gap + length v.text) v.rest ks (shorter s.rest v.text v.rest n v.whole few') room v.next)

-- an array ends behind whitespace
record Closes (d : ℕ) (bs : List ℕ) (ks : List Bool) : Type 0 where
  gap : List ℕ
  rest : List ℕ
  whole : bs ≡ gap ++ 93 ∷ rest
  blank : space 0 gap
  next : Accepts d rest after ks

-- or the machine is where a value may begin
closes_first : (d b : ℕ) (bs : List ℕ) (ks : List Bool) (k : Class) → class_of b ≡ k → (Accepts d bs first_item (false ∷ ks) → Closes d bs ks ⊎ Accepts d bs value (false ∷ ks))
    → OnGoes (begins_item d k (false ∷ ks)) (λ q os. Accepts d bs q os) → Closes d (b ∷ bs) ks ⊎ Accepts d (b ∷ bs) value (false ∷ ks)
closes_first d b bs ks class.Space e f h = on (f h)
  where
    on : Closes d bs ks ⊎ Accepts d bs value (false ∷ ks) → Closes d (b ∷ bs) ks ⊎ Accepts d (b ∷ bs) value (false ∷ ks)
    on (inl c) = inl (record { gap = b ∷ c.gap; rest = c.rest; whole = ap (λ xs. b ∷ xs) c.whole; blank = (space_is b e, c.blank); next = c.next })
    on (inr g) = inr (rw e g)
closes_first d b bs ks class.CloseArray e f h = inl (record { gap = []; rest = bs; whole = ap (λ x. x ∷ bs) (close_array_is b e); blank = tt; next = h })
closes_first d b bs ks k e f h = inr (rw e h)

closes_or : (d : ℕ) (bs : List ℕ) (ks : List Bool) → Accepts d bs first_item (false ∷ ks) → Closes d bs ks ⊎ Accepts d bs value (false ∷ ks)
closes_or d [] ks h = absurd h
closes_or d (b ∷ bs) ks h = closes_first d b bs ks (class_of b) refl (λ g. closes_or d bs ks g) h

pub a_body : (n : ℕ) → Finds n → (d at : ℕ) (bs : List ℕ) (ks : List Bool) → length bs ≤ n → length ks < d → Accepts d bs first_item (false ∷ ks) → FoundBody d at bs ks
a_body n f d at bs ks few room h = pick (closes_or d bs ks h)
  where
    pick : Closes d bs ks ⊎ Accepts d bs value (false ∷ ks) → FoundBody d at bs ks
    pick (inl c) = record { trees = no_items; text = c.gap; rest = c.rest; whole = c.whole; is = c.blank; fits = omega arith; next = c.next }
    pick (inr g) = let i = an_item n f d at bs ks few room g in record { trees = item i.tree i.trees; text = i.text; rest = i.rest; whole = i.whole; is = i.is; fits = i.fits; next = i.next }

pub array_value : (d at b : ℕ) (bs : List ℕ) (ks : List Bool) → class_of b ≡ class.OpenArray → FoundBody d (at + 1) bs ks → FoundValue d at (b ∷ bs) ks
array_value d at b bs ks e s = record {
  tree = grammar.array (record { from = at; to = at + length (91 ∷ (s.text ++ 93 ∷ [])) }) s.trees;
  text = 91 ∷ (s.text ++ 93 ∷ []);
  rest = s.rest;
  whole = ap (λ x. x ∷ bs) (open_array_is b e) ∙ ap (λ xs. 91 ∷ xs) (s.whole ∙ sym (append_assoc s.text (93 ∷ []) s.rest));
  is = ((91 ∷ [], s.text ++ 93 ∷ [], refl, refl, (s.text, 93 ∷ [], refl, s.is, refl)), refl);
  fits = deep (items_depth s.trees) (length ks) d s.fits;
  next = s.next;
}
  where
    deep : (a k e : ℕ) → a + suc k ≤ e → 1 + a + k ≤ e
    deep a k e h = omega arith

-- behind a value in an array, where whitespace has been passed
more_by_class : (n : ℕ) → Finds n → (d at b : ℕ) (all gap bs : List ℕ) (ks : List Bool) → length bs ≤ n → length ks < d
    → all ≡ gap ++ b ∷ bs → space at gap → (class_of b ≡ class.Space → ⊥) → (k : Class) → class_of b ≡ k
    → OnGoes (behind k (false ∷ ks)) (λ q os. Accepts d bs q os) → FoundItems d at all ks
more_by_class n f d at b all gap bs ks few room whole blank bare class.Space e h = absurd (bare e)
more_by_class n f d at b all gap bs ks few room whole blank bare class.CloseArray e h = record {
  trees = no_items;
  gap = gap;
  text = [];
  rest = bs;
  whole = whole ∙ ap (λ x. gap ++ x ∷ bs) (close_array_is b e);
  blank = blank;
  is = refl;
  fits = omega arith;
  next = h;
}
more_by_class n f d at b all gap bs ks few room whole blank bare class.Comma e h =
    let i = an_item n f d (at + length gap + 1) bs ks few room h in
    record {
      trees = item i.tree i.trees;
      gap = gap;
      text = 44 ∷ i.text;
      rest = i.rest;
      whole = whole ∙ ap (λ x. gap ++ x ∷ bs) (comma_is b e) ∙ ap (λ xs. gap ++ 44 ∷ xs) i.whole;
      blank = blank;
      is = (44 ∷ [], i.text, refl, refl, i.is);
      fits = i.fits;
      next = i.next;
    }
more_by_class n f d at b all gap bs ks few room whole blank bare k e h = absurd h

more_bare : (n : ℕ) → Finds n → (d at : ℕ) (all gap bs : List ℕ) (ks : List Bool) → length bs ≤ suc n → length ks < d
    → all ≡ gap ++ bs → space at gap → NoSpace bs → Accepts d bs after (false ∷ ks) → FoundItems d at all ks
more_bare n f d at all gap [] ks few room whole blank bare h = absurd h
more_bare n f d at all gap (b ∷ bs) ks few room whole blank bare h = more_by_class n f d at b all gap bs ks (omega arith) room whole blank bare (class_of b) refl h

pub found_more : (n : ℕ) → Finds n → (d at : ℕ) (bs : List ℕ) (ks : List Bool) → length bs ≤ suc n → length ks < d → Accepts d bs after (false ∷ ks) → FoundItems d at bs ks
found_more n f d at bs ks few room h =
    let s = strip d bs after (false ∷ ks) after_waits h in
    more_bare n f d at bs s.gap s.rest ks (shorter bs s.gap s.rest (suc n) s.whole few) room s.whole s.blank s.bare s.next
