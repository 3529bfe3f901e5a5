-- The compact text of a value by its kind.
use Rattle.std.proofs.Common.{◌≡◌, ℕ, Bool, true, List, [], ◌++◌, ◌∷◌, refl, ◌∙◌, ap, append_assoc}
use Rattle.json_text.specs.declared.kind.Kind.TheVariants as kind
use Rattle.json_text.specs.declared.kind.Word.TheVariants as word_of
use Rattle.json_text.specs.declared.span.Span.{Span}
use Rattle.json_text.specs.Json.{Json, word, number, string, array, object, Items, Members, value}
use Rattle.json_nodes.specs.Nodes.{kind_of}
use Rattle.capability_meet.specs.Compact.{compact}
use Rattle.capability_meet.specs.Parts.{comma, listed, own}
use Rattle.capability_meet.proofs.Pieces.{piece_put}

-- neither an array nor an object
abbrev pub IsLeaf : Json → Type 0
IsLeaf t = ((s : Span) (js : Items) → t ≡ array s js → ⊥) × ((s : Span) (ms : Members) → t ≡ object s ms → ⊥)

pub leaf_text : (bs part : List ℕ) (at : ℕ) (t : Json) → IsLeaf t → part ≡ own bs t → value t at part → part ≡ compact bs t
leaf_text bs part at (word s w) l e h = h.0
leaf_text bs part at (number s ds) l e h = h.0.0
leaf_text bs part at (string s cs) l e h = e
leaf_text bs part at (array s js) l e h = absurd (l.0 s js refl)
leaf_text bs part at (object s ms) l e h = absurd (l.1 s ms refl)

pub is_leaf : (t : Json) → (kind_of t ≡ kind.Array → ⊥) → (kind_of t ≡ kind.Object → ⊥) → IsLeaf t
is_leaf t a o = ((λ s js e. a (ap kind_of e)), (λ s ms e. o (ap kind_of e)))

pub is_array : (t : Json) → kind_of t ≡ kind.Array → (s : Span) × (js : Items) × (t ≡ array s js)
is_array (array s js) h = (s, js, refl)
is_array (object s ms) h = absurd (cc)
is_array (number s ds) h = absurd (cc)
is_array (string s cs) h = absurd (cc)
is_array (word s word_of.Null) h = absurd (cc)
is_array (word s word_of.False) h = absurd (cc)
is_array (word s word_of.True) h = absurd (cc)

pub is_object : (t : Json) → kind_of t ≡ kind.Object → (s : Span) × (ms : Members) × (t ≡ object s ms)
is_object (object s ms) h = (s, ms, refl)
is_object (array s js) h = absurd (cc)
is_object (number s ds) h = absurd (cc)
is_object (string s cs) h = absurd (cc)
is_object (word s word_of.Null) h = absurd (cc)
is_object (word s word_of.False) h = absurd (cc)
is_object (word s word_of.True) h = absurd (cc)

-- a name, a colon and a value behind others
pub member_written : (before first second last name text : List ℕ) (xs : List (List ℕ)) (started : Bool) → first ≡ before ++ comma started → second ≡ (first ++ name) ++ (58 ∷ []) → last ≡ second ++ text
    → last ++ listed true xs ≡ before ++ listed started ((name ++ (58 ∷ text)) ∷ xs)
member_written before first second last name text xs started a b c =
    piece_put before first last (name ++ (58 ∷ text)) (name ++ (58 ∷ text)) xs started a (c ∙ ap (λ z. z ++ text) b ∙ append_assoc (first ++ name) (58 ∷ []) text ∙ append_assoc first name (58 ∷ text)) refl
