-- What an editor offers is a text.
use Rattle.std.proofs.Common.{◌≡◌, ℕ, ◌-◌, ◌≤◌, Bool, true, false, List, [], ◌∷◌, codes, take, drop, refl, sym, ◌∙◌, ap, subst, append-nil, arith, if◌then◌else◌}
use Rattle.std.specs.Prelude.{Option, Some, None, is_some}
use Rattle.json_text.specs.Json.{Json, word, number, string, array, object, no_members, value, depth, span_of, IsText}
use Rattle.json_text.specs.Named.{named_in}
use Rattle.json_text.specs.Paths.{key, value_at}
use Rattle.json_text.specs.Tree.{tree_of}
use Rattle.json_text.proofs.Depths.{step_below}
use Rattle.json_text.proofs.Inside.{InSpan, value_in_span}
use Rattle.json_text.proofs.Laws.{tree_complete, tree_sound}
use Rattle.json_text.proofs.Moves.{Placed, moved}
use Rattle.rpc_message.specs.Message.{place_in, slice_of}
use Rattle.rpc_message.specs.Parsed.{IsRead, Parsed}
use Rattle.rpc_message.proofs.Reading.{held_tree}
use Rattle.event_model.specs.Members.{bytes_if, named_of}
use Rattle.group_words.specs.Houses.{given_or, is_object, offered}
use Rattle.mux_members.specs.Finds.{is_object_value}
use Rattle.mux_members.proofs.Roots.{read_params}

whole : (t : Json) (w : List ℕ) → value t 0 w → IsText w t
whole t w h = ([], w, refl, tt, (w, [], sym (append-nil w), h, tt))

path_of : (a b : List ℕ) (root p t : Json) → named_in a root ≡ Some p → named_in b p ≡ Some t → value_at (key a ∷ key b ∷ []) root ≡ Some t
unfolding value_at
path_of a b root p t h k = rw (h, k) refl

-- a value in a text, by itself
alone : (body : List ℕ) (root t : Json) (s : InSpan body t) → depth t ≤ 1024 → is_some (tree_of (slice_of body (Some (span_of t)))) ≡ true
alone body root t s low =
    let w : List ℕ = take ((span_of t).to - (span_of t).from) (drop (span_of t).from body) in
    let m : Placed t 0 w = moved t (span_of t).from w s.stands 0 in
    ap is_some (tree_complete w m.tree (whole m.tree w m.stands) (subst (λ n. n ≤ 1024) (sym m.deep) low))

place_there : (cs : List ℕ) (p t : Json) → named_in cs p ≡ Some t → place_in cs (Some p) ≡ Some (span_of t)
place_there cs (object s ms) t h = rw (h) refl
place_there cs (array s js) t h = absurd (cc)
place_there cs (word s w) t h = absurd (cc)
place_there cs (number s ds) t h = absurd (cc)
place_there cs (string s ds) t h = absurd (cc)

nothing : Json
nothing = object (record { from = 0; to = 2 }) no_members

pub none_offered : is_some (tree_of (codes "{}")) ≡ true
unfolding nothing
none_offered = ap is_some (tree_complete (codes "{}") nothing (whole nothing (codes "{}") ((codes "{", codes "}", refl, refl, ([], codes "}", refl, tt, refl)), refl)) (omega arith))

module _ (body : List ℕ) (root : Json) (text : IsText body root) (low : depth root ≤ 1024) where
  inside : (p t : Json) → named_in (codes "params") root ≡ Some p → named_in (codes "capabilities") p ≡ Some t → is_some (tree_of (slice_of body (place_in (codes "capabilities") (Some p)))) ≡ true
  inside p t h k =
      let deep : depth t ≤ 1024 = omega (arith, step_below (key (codes "params")) root p h, step_below (key (codes "capabilities")) p t k) in
      ap (λ z. is_some (tree_of (slice_of body z))) (place_there (codes "capabilities") p t k) ∙ alone body root t (value_in_span body (key (codes "params") ∷ key (codes "capabilities") ∷ []) root t text (path_of (codes "params") (codes "capabilities") root p t h k)) deep

  abbrev offer : Option Json → List ℕ
  offer params = if is_object (named_of (codes "capabilities") params) then given_or (bytes_if (codes "capabilities") params body) (codes "{}") else codes "{}"

  offer_some : (p : Json) → named_in (codes "params") root ≡ Some p → (o : Option Json) → named_in (codes "capabilities") p ≡ o
      → is_some (tree_of (if is_object o then given_or (if is_some o then Some (slice_of body (place_in (codes "capabilities") (Some p))) else None) (codes "{}") else codes "{}")) ≡ true
  offer_some p h None k = none_offered
  offer_some p h (Some (object s ms)) k = inside p (object s ms) h k
  offer_some p h (Some (array s js)) k = none_offered
  offer_some p h (Some (word s w)) k = none_offered
  offer_some p h (Some (number s ds)) k = none_offered
  offer_some p h (Some (string s ds)) k = none_offered

  offer_text : (params : Option Json) → named_in (codes "params") root ≡ params → is_some (tree_of (offer params)) ≡ true
  offer_text None h = none_offered
  offer_text (Some p) h = offer_some p h (named_in (codes "capabilities") p) refl

pub offered_text : (m : Parsed) (body : List ℕ) → IsRead m body → is_some (tree_of (offered body)) ≡ true
offered_text m body read =
    let tree : tree_of body ≡ Some read.tree = sym (ap tree_of read.bytes_are) ∙ held_tree m.doc read.tree read.holds in
    let sound = tree_sound body read.tree tree in
    subst (λ params. is_some (tree_of (offer body read.tree sound.0 sound.1 params)) ≡ true) (sym (ap (named_of (codes "params")) tree)) (offer_text body read.tree sound.0 sound.1 (named_in (codes "params") read.tree) refl)

-- by what was read
same_test : (o : Option Json) → is_object o ≡ is_object_value o
same_test (Some (object s ms)) = refl
same_test (Some (array s js)) = refl
same_test (Some (word s w)) = refl
same_test (Some (number s ds)) = refl
same_test (Some (string s ds)) = refl
same_test None = refl

pub offer_none : (m : Parsed) (body : List ℕ) (read : IsRead m body) → is_object_value (named_of (codes "capabilities") (named_of (codes "params") (Some read.tree))) ≡ false → codes "{}" ≡ offered body
offer_none m body read none = sym (ap (λ (o : Option Json). if is_object (named_of (codes "capabilities") o) then given_or (bytes_if (codes "capabilities") o body) (codes "{}") else codes "{}") (read_params m body read)
    ∙ ap (λ (b : Bool). if b then given_or (bytes_if (codes "capabilities") (named_of (codes "params") (Some read.tree)) body) (codes "{}") else codes "{}") (same_test (named_of (codes "capabilities") (named_of (codes "params") (Some read.tree))) ∙ none))

pub offer_is : (m : Parsed) (body : List ℕ) (read : IsRead m body) (answer : Option (List ℕ)) → is_object_value (named_of (codes "capabilities") (named_of (codes "params") (Some read.tree))) ≡ true
    → answer ≡ bytes_if (codes "capabilities") (named_of (codes "params") (Some read.tree)) m.doc.bytes → given_or answer (codes "{}") ≡ offered body
offer_is m body read answer there is =
    ap (λ o. given_or o (codes "{}")) (is ∙ ap (bytes_if (codes "capabilities") (named_of (codes "params") (Some read.tree))) read.bytes_are)
    ∙ sym (ap (λ (o : Option Json). if is_object (named_of (codes "capabilities") o) then given_or (bytes_if (codes "capabilities") o body) (codes "{}") else codes "{}") (read_params m body read)
    ∙ ap (λ (b : Bool). if b then given_or (bytes_if (codes "capabilities") (named_of (codes "params") (Some read.tree)) body) (codes "{}") else codes "{}") (same_test (named_of (codes "capabilities") (named_of (codes "params") (Some read.tree))) ∙ there))
