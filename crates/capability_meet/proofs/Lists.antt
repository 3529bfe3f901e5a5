-- The items of an array by their texts.
use Rattle.std.proofs.Common.{◌≡◌, ℕ, Bool, true, false, ◌||◌, List, [], ◌∷◌, Vec, Global, refl, sym, ◌∙◌, ap, ap₂}
use Rattle.std.specs.Prelude.{Option, Some, None, bytes_eq}
use Rattle.std.specs.declared.cmp.Ordering.{Ordering}
use Rattle.std.specs.declared.cmp.Ordering.TheVariants.{Less, Equal, Greater}
use Rattle.std.specs.Ordering.{nat_cmp, is_eq, match_ordering}
use Rattle.std.specs.Cmp.Lexicographic.{slice_cmp}
use Rattle.std.specs.List.{list_any}
use Rattle.std.specs.Option.{IfSome, IsSomeAnd}
use Rattle.std.specs.BTreeSet.{BTreeSet, insert_key}
use Rattle.std.proofs.lemmas.Map.Text.{is_eq-slice_cmp}
use Rattle.json_text.specs.declared.span.Span.{Span}
use Rattle.json_text.specs.Json.{Json, array, Items, no_items, item}
use Rattle.json_nodes.specs.At.{At}
use Rattle.json_nodes.specs.Doc.{Doc}
use Rattle.json_nodes.specs.declared.values.Values.{Values}
use Rattle.json_nodes.specs.Values.{doc_of}
use Rattle.json_nodes.proofs.ByName.{equal_items}
use Rattle.capability_meet.specs.declared.indexed_array.IndexedArray.{IndexedArray}
use Rattle.capability_meet.specs.IndexedArray.{KeepsTexts, any_text, has_text}
use Rattle.capability_meet.specs.Order.{is_among}
use Rattle.capability_meet.specs.ValueText.{value_text}
use Rattle.capability_meet.proofs.ValueTexts.{same_text}

-- a value is among items just where its text is one of theirs
among_texts : (t : Json) (ks : Items) → is_among t ks ≡ any_text (value_text t) ks
among_texts t no_items = refl
among_texts t (item k ks) = ap₂ (λ a b. a || b) (same_text t k) (among_texts t ks)

pub kept_among : (d : Doc) (k : ℕ) (r : Span) (ks : Items) (t : Json) (kept : Option (BTreeSet (Vec ℕ Global))) (found : Option Bool) (answer : Bool) → IfSome kept (λ texts. KeepsTexts texts d k) → At d k (array r ks) → found ≡ Some answer
    → IfSome found (λ b. IsSomeAnd kept (λ texts. b ≡ has_text texts (value_text t))) → answer ≡ is_among t ks
kept_among d k r ks t kept None answer i a e h = absurd (cc)
kept_among d k r ks t None (Some b) answer i a e h = absurd h
kept_among d k r ks t (Some texts) (Some b) answer i a e h = let same : answer ≡ b = cc in same ∙ h ∙ i r ks (value_text t) a ∙ sym (among_texts t ks)

pub text_kept : (t : Json) (kept : Option (BTreeSet (Vec ℕ Global))) (texts : BTreeSet (Vec ℕ Global)) (found : Option Bool) → kept ≡ Some texts → IfSome found (λ b. b ≡ has_text texts (value_text t))
    → IfSome found (λ b. IsSomeAnd kept (λ x. b ≡ has_text x (value_text t)))
text_kept t kept texts None e h = tt
text_kept t None texts (Some b) e h = absurd (cc)
text_kept t (Some x) texts (Some b) e h = let same : texts ≡ x = cc in h ∙ ap (λ y. has_text y (value_text t)) same

-- a set with one more text

twice : (a b t : Bool) → a ≡ b → (b || t) ≡ (a || (b || t))
twice true true t e = refl
twice true false t e = cc
twice false b t e = refl

swap : (a b t : Bool) → (a || (b || t)) ≡ (b || (a || t))
swap true true t = refl
swap true false t = refl
swap false true t = refl
swap false false t = refl

any_insert : (f : List ℕ → Bool) (key : Vec ℕ Global) (keys : List (Vec ℕ Global)) → list_any (λ v. f v.items) (insert_key (λ x y. slice_cmp nat_cmp x.items y.items) keys key) ≡ (f key.items || list_any (λ v. f v.items) keys)
any_insert f key [] = refl
any_insert f key (x ∷ xs) = go (slice_cmp nat_cmp key.items x.items) refl (any_insert f key xs)
  where
    go : (o : Ordering) → slice_cmp nat_cmp key.items x.items ≡ o → list_any (λ v. f v.items) (insert_key (λ x y. slice_cmp nat_cmp x.items y.items) xs key) ≡ (f key.items || list_any (λ v. f v.items) xs)
        → list_any (λ v. f v.items) (match_ordering o (key ∷ x ∷ xs) (x ∷ xs) (x ∷ insert_key (λ x y. slice_cmp nat_cmp x.items y.items) xs key)) ≡ (f key.items || (f x.items || list_any (λ v. f v.items) xs))
    go Less e h = refl
    go Equal e h = twice (f key.items) (f x.items) (list_any (λ v. f v.items) xs) (ap f (equal_items key.items x.items e))
    go Greater e h = ap (λ r. f x.items || r) h ∙ swap (f x.items) (f key.items) (list_any (λ v. f v.items) xs)

pub one_text : (old new : BTreeSet (Vec ℕ Global)) (key : Vec ℕ Global) (own : List ℕ) → key.items ≡ own → new.keys ≡ insert_key (λ x y. slice_cmp nat_cmp x.items y.items) old.keys key
    → (text : List ℕ) → has_text new text ≡ (bytes_eq text own || has_text old text)
one_text old new key own e keys text =
    ap (λ ks. list_any (λ v. is_eq (slice_cmp nat_cmp text v.items)) ks) keys
    ∙ (any_insert (λ xs. is_eq (slice_cmp nat_cmp text xs)) key old.keys
    ∙ ap (λ b. b || has_text old text) (is_eq-slice_cmp text key.items ∙ ap (bytes_eq text) e))

pub no_text : (texts : BTreeSet (Vec ℕ Global)) → texts.keys ≡ [] → (text : List ℕ) → has_text texts text ≡ false
no_text texts e text = ap (λ ks. list_any (λ v. is_eq (slice_cmp nat_cmp text v.items)) ks) e

-- the walk that keeps them
pub text_turn : (a b c rest : Bool) → c ≡ (a || b) → (b || (a || rest)) ≡ (c || rest)
text_turn true true c rest e = rw e refl
text_turn true false c rest e = rw e refl
text_turn false true c rest e = rw e refl
text_turn false false c rest e = rw e refl

pub or_false : (b : Bool) → (b || false) ≡ b
or_false true = refl
or_false false = refl

-- a value of an array's text
pub at_indexed_array : (o : IndexedArray) (v : Values) (k : ℕ) (t : Json) → o.values ≡ v → o.node ≡ k → At (doc_of v) k t → At (doc_of o.values) o.node t
at_indexed_array o v k t e f a = rw (e, f) a
