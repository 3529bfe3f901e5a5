-- Documents by their numbers, as contracts see them.
use Rattle.std.proofs.Common.{◌≡◌, ℕ, Bool, true, false, cond, List, [], ◌∷◌, ◌++◌, map, fold, refl, sym, ◌∙◌, ap, ap₂}
use Rattle.std.specs.Prelude.{Option, Some, None, option_map, option_copied, if◌then◌else◌}
use Rattle.std.specs.declared.cmp.Ordering.{Ordering}
use Rattle.std.specs.declared.cmp.Ordering.TheVariants.{Less, Equal, Greater}
use Rattle.std.specs.Ordering.{nat_cmp, match_ordering}
use Rattle.std.specs.BTreeMap.{is_at, insert_entry}
use Rattle.std.specs.Map.{lookup, values_of, remove_entry, set_value}
use denote.Ref.{Bor}
use Rattle.document_model.specs.Opens.{Open, later}
use Rattle.document_table.specs.declared.opens.Opening.{Opening}
use Rattle.document_table.specs.Numbered.{row_at, touch_row, and_row}
use Rattle.document_table.specs.Shown.{shown, all_numbered}

-- what is looked up

seen_copied : {T : Type 0} (bytes : T → List ℕ) (r : Option (Bor (Opening T))) → option_map (λ o. shown bytes o.now) r ≡ option_map (shown bytes) (option_copied r)
seen_copied bytes None = refl
seen_copied bytes (Some o) = refl

module _ {T : Type 0} (bytes : T → List ℕ) where
  pub looked_up : (test : ℕ → Bool) (rows : List (ℕ × Opening T)) → option_map (shown bytes) (lookup test rows) ≡ lookup test (all_numbered bytes rows)
  looked_up test [] = refl
  looked_up test (r ∷ rs) = go (test r.0) (looked_up test rs)
    where
      go : (b : Bool) → option_map (shown bytes) (lookup test rs) ≡ lookup test (all_numbered bytes rs) → option_map (shown bytes) (cond b (Some r.1) (lookup test rs)) ≡ cond b (Some (shown bytes r.1)) (lookup test (all_numbered bytes rs))
      go true h = refl
      go false h = h

  pub at_is : (n : ℕ) (rows : List (ℕ × Opening T)) (r : Option (Bor (Opening T))) → option_copied r ≡ lookup (is_at (nat_cmp n)) rows → option_map (λ o. shown bytes o.now) r ≡ row_at n (all_numbered bytes rows)
  at_is n rows r h = seen_copied bytes r ∙ (ap (option_map (shown bytes)) h ∙ looked_up (is_at (nat_cmp n)) rows)

  -- what is written

  pub set_shown : (test : ℕ → Bool) (rows : List (ℕ × Opening T)) (o : Opening T) → all_numbered bytes (set_value test rows o) ≡ set_value test (all_numbered bytes rows) (shown bytes o)
  set_shown test [] o = refl
  set_shown test (r ∷ rs) o = go (test r.0) (set_shown test rs o)
    where
      go : (b : Bool) → all_numbered bytes (set_value test rs o) ≡ set_value test (all_numbered bytes rs) (shown bytes o)
          → all_numbered bytes (cond b ((r.0, o) ∷ rs) (r ∷ set_value test rs o)) ≡ cond b ((r.0, shown bytes o) ∷ all_numbered bytes rs) ((r.0, shown bytes r.1) ∷ set_value test (all_numbered bytes rs) (shown bytes o))
      go true h = refl
      go false h = ap (λ xs. (r.0, shown bytes r.1) ∷ xs) h

  pub remove_shown : (test : ℕ → Bool) (rows : List (ℕ × Opening T)) → all_numbered bytes (remove_entry test rows) ≡ remove_entry test (all_numbered bytes rows)
  remove_shown test [] = refl
  remove_shown test (r ∷ rs) = go (test r.0) (remove_shown test rs)
    where
      go : (b : Bool) → all_numbered bytes (remove_entry test rs) ≡ remove_entry test (all_numbered bytes rs)
          → all_numbered bytes (cond b rs (r ∷ remove_entry test rs)) ≡ cond b (all_numbered bytes rs) ((r.0, shown bytes r.1) ∷ remove_entry test (all_numbered bytes rs))
      go true h = refl
      go false h = ap (λ xs. (r.0, shown bytes r.1) ∷ xs) h

  pub insert_shown : (rows : List (ℕ × Opening T)) (n : ℕ) (o : Opening T) → all_numbered bytes (insert_entry nat_cmp rows n o) ≡ insert_entry nat_cmp (all_numbered bytes rows) n (shown bytes o)
  insert_shown [] n o = refl
  insert_shown (r ∷ rs) n o = go (nat_cmp n r.0) (insert_shown rs n o)
    where
      go : (c : Ordering) → all_numbered bytes (insert_entry nat_cmp rs n o) ≡ insert_entry nat_cmp (all_numbered bytes rs) n (shown bytes o)
          → all_numbered bytes (match_ordering c ((n, o) ∷ r ∷ rs) ((r.0, o) ∷ rs) (r ∷ insert_entry nat_cmp rs n o))
          ≡ match_ordering c ((n, shown bytes o) ∷ (r.0, shown bytes r.1) ∷ all_numbered bytes rs) ((r.0, shown bytes o) ∷ all_numbered bytes rs) ((r.0, shown bytes r.1) ∷ insert_entry nat_cmp (all_numbered bytes rs) n (shown bytes o))
      go Less h = refl
      go Equal h = refl
      go Greater h = ap (λ xs. (r.0, shown bytes r.1) ∷ xs) h

  -- where no document has the number, nothing is written

  pub set_none : (test : ℕ → Bool) (rows : List (ℕ × Open)) (o : Open) → lookup test rows ≡ None → rows ≡ set_value test rows o
  set_none test [] o h = refl
  set_none test (r ∷ rs) o h = go (test r.0) h (set_none test rs o)
    where
      go : (b : Bool) → cond b (Some r.1) (lookup test rs) ≡ None → (lookup test rs ≡ None → rs ≡ set_value test rs o) → r ∷ rs ≡ cond b ((r.0, o) ∷ rs) (r ∷ set_value test rs o)
      go true h k = absurd (cc)
      go false h k = ap (λ xs. r ∷ xs) (k h)

  pub touch_none : (turn n : ℕ) (rows : List (ℕ × Open)) → row_at n rows ≡ None → rows ≡ touch_row turn rows n
  touch_none turn n [] h = refl
  touch_none turn n (r ∷ rs) h = go (is_at (nat_cmp n) r.0) h (touch_none turn n rs)
    where
      go : (b : Bool) → cond b (Some r.1) (row_at n rs) ≡ None → (row_at n rs ≡ None → rs ≡ touch_row turn rs n) → r ∷ rs ≡ cond b ((r.0, record r.1 { touched = turn }) ∷ rs) (r ∷ touch_row turn rs n)
      go true h k = absurd (cc)
      go false h k = ap (λ xs. r ∷ xs) (k h)

  pub touch_shown : (turn n : ℕ) (rows : List (ℕ × Opening T)) (o new : Opening T) → Some o ≡ lookup (is_at (nat_cmp n)) rows → shown bytes new ≡ record (shown bytes o) { touched = turn }
      → all_numbered bytes (set_value (is_at (nat_cmp n)) rows new) ≡ touch_row turn (all_numbered bytes rows) n
  touch_shown turn n [] o new h e = absurd (cc)
  touch_shown turn n (r ∷ rs) o new h e = go (is_at (nat_cmp n) r.0) h (λ k. touch_shown turn n rs o new k e)
    where
      go : (b : Bool) → Some o ≡ cond b (Some r.1) (lookup (is_at (nat_cmp n)) rs) → (Some o ≡ lookup (is_at (nat_cmp n)) rs → all_numbered bytes (set_value (is_at (nat_cmp n)) rs new) ≡ touch_row turn (all_numbered bytes rs) n)
          → all_numbered bytes (cond b ((r.0, new) ∷ rs) (r ∷ set_value (is_at (nat_cmp n)) rs new)) ≡ cond b ((r.0, record (shown bytes r.1) { touched = turn }) ∷ all_numbered bytes rs) ((r.0, shown bytes r.1) ∷ touch_row turn (all_numbered bytes rs) n)
      go true k f = let same : o ≡ r.1 = cc in ap (λ y. (r.0, y) ∷ all_numbered bytes rs) (e ∙ ap (λ p. record (shown bytes p) { touched = turn }) same)
      go false k f = ap (λ xs. (r.0, shown bytes r.1) ∷ xs) (f k)

  -- the URIs of all
  pub uris_shown : (rows : List (ℕ × Opening T)) → map (λ (o : Open). o.uri) (map (shown bytes) (values_of rows)) ≡ map (λ (o : Open). o.uri) (values_of (all_numbered bytes rows))
  uris_shown [] = refl
  uris_shown (r ∷ rs) = ap (λ us. r.1.uri.bytes.items ∷ us) (uris_shown rs)

-- one document more on a walk

pub fold_row : {B : Type 0} (f : B → Open → B) (b : B) (x : Option Open) (os : List Open) → fold f b (and_row x os) ≡ fold f (fold f b (and_row x [])) os
fold_row f b None os = refl
fold_row f b (Some o) os = refl

pub uri_row : (x : Option Open) (os : List Open) → map (λ (o : Open). o.uri) (and_row x os) ≡ map (λ (o : Open). o.uri) (and_row x []) ++ map (λ (o : Open). o.uri) os
uri_row None os = refl
uri_row (Some o) os = refl
