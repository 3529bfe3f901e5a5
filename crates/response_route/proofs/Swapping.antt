-- The edits of the versions in a value make one that nests no deeper, and may be params where the old one may.
use Rattle.std.proofs.Common.{◌≡◌, ℕ, ◌≤◌, max, Bool, true, false, List, [], ◌∷◌, ◌++◌, flat_map, bytes_eq, Option, Some, None, codes, if◌then◌else◌, refl, sym, ◌∙◌, ap, subst, append-nil, append_assoc, arith}
use Rattle.std.specs.Option.{option_and_then, option_map}
use Rattle.json_text.specs.declared.span.Span.{Span}
use Rattle.json_text.specs.Json.{Json, word, number, string, array, object, Items, no_items, item, Members, no_members, member, value, depth, items_depth, members_depth}
use Rattle.json_text.specs.Named.{items_list, named, named_in}
use Rattle.json_text.specs.Paths.{put_named}
use Rattle.json_text.specs.Replace.{Edit}
use Rattle.json_text.proofs.Depths.{members_deep, named_below}
use Rattle.json_text.proofs.Forms.{says, says_of, says_bare}
use Rattle.json_text.proofs.Paths.{named_step}
use Rattle.json_text.proofs.Swaps.{Swaps, kept, in_array, in_object, SwapsItems, no_swaps, item_swaps}
use Rattle.json_nodes.specs.Puts.{put_edits, member_edits, new_or, put_members}
use Rattle.json_nodes.proofs.Swapped.{Says, put_swaps}
use Rattle.json_nodes.proofs.TwoSwaps.{both}
use Rattle.rpc_message.specs.Message.{are_params}
use Rattle.rpc_message.specs.ValueTexts.{IsValueText}
use Rattle.document_model.specs.doc_text.specs.Changes.{string_text}
use Rattle.document_model.specs.Notices.{integer_text, new_version}
use Rattle.event_model.specs.Members.{has_version, listed}
use Rattle.response_route.specs.Answers.{GivesFlat, IsFlatText}
use Rattle.response_route.specs.Edits.{Renaming, versioned, change_documents, workspace_documents, action_documents, in_front, object_documents, documents_of, renamed, document_edits, joined, all_edits}
use Rattle.response_route.proofs.Rising.{maybe}
use Rattle.response_route.proofs.Sides.{Sides, sides, sides_are, in_order}

pub record Made (t : Json) (es : List Edit) : Type 0 where
  pub value : Json
  pub swaps : Swaps t es value
  pub flat : depth value ≤ depth t
  pub params : are_params (Some value) ≡ are_params (Some t)

abbrev Option_edits : Type 0
Option_edits = Option (List Edit)

some_is : (es fs : List Edit) → ◌≡◌ {A = Option_edits} (Some es) (Some fs) → es ≡ fs
some_is es fs e = cc

none_some : {A : Type 0} (es : List Edit) → ◌≡◌ {A = Option_edits} None (Some es) → A
none_some es e = absurd (cc)

stays : (t : Json) (es : List Edit) → ◌≡◌ {A = Option_edits} (Some []) (Some es) → Made t es
stays t es e = subst (Made t) (some_is [] es e) (record { value = t; swaps = kept t; flat = omega arith; params = refl })

-- edits of two lists
joined_nil : (o : Option_edits) → o ≡ joined (Some []) o
joined_nil (Some es) = refl
joined_nil None = refl

joined_end : (o : Option_edits) → joined o (Some []) ≡ o
joined_end (Some es) = ap Some (append-nil es)
joined_end None = refl

joined_three : (o p q : Option_edits) → joined o (joined p q) ≡ joined (joined o p) q
joined_three None p q = refl
joined_three (Some es) None q = refl
joined_three (Some es) (Some fs) None = refl
joined_three (Some es) (Some fs) (Some gs) = ap Some (sym (append_assoc es fs gs))

all_both : (r : Renaming) (xs ys : List Json) → all_edits r (xs ++ ys) ≡ joined (all_edits r xs) (all_edits r ys)
all_both r [] ys = joined_nil (all_edits r ys)
all_both r (x ∷ xs) ys = ap (joined (document_edits r x)) (all_both r xs ys) ∙ joined_three (document_edits r x) (all_edits r xs) (all_edits r ys)

-- one document

value_says : (v : Json) (w : List ℕ) → IsValueText v w → says v w
value_says v w h = subst (λ j. says j w) h.same (says_bare h.tree w (says_of h.tree 0 w h.stands))

abbrev new_value : Json → List ℕ → Option Json
new_value v cs = if bytes_eq (codes "version") cs then Some v else None

version_says : (v : Json) (w : List ℕ) → IsValueText v w → (cs : List ℕ) → Says (new_value v cs) (new_version w cs)
version_says v w h cs = go (bytes_eq (codes "version") cs)
  where
    go : (b : Bool) → Says (if b then Some v else None) (if b then Some w else None)
    go true = value_says v w h
    go false = tt

no_deeper : (v : Json) → depth v ≡ 0 → (ms : Members) → members_depth (put_members (new_value v) ms) ≤ members_depth ms
no_deeper v flat no_members = omega arith
no_deeper v flat (member s cs j ms) = go (bytes_eq (codes "version") cs) (no_deeper v flat ms)
  where
    go : (b : Bool) → members_depth (put_members (new_value v) ms) ≤ members_depth ms → max (depth (new_or (if b then Some v else None) j)) (members_depth (put_members (new_value v) ms)) ≤ max (depth j) (members_depth ms)
    go true h = omega (arith, h, flat)
    go false h = omega (arith, h)

put_made : (t : Json) (w : List ℕ) → IsFlatText w → Made t (put_edits (new_version w) t)
put_made (object s ms) w h = record {
  value = object s (put_members (new_value h.0) ms);
  swaps = in_object s ms (put_members (new_value h.0) ms) (member_edits (new_version w) ms) (put_swaps (new_version w) (new_value h.0) ms (version_says h.0 w h.1));
  flat = omega (arith, no_deeper h.0 h.2 ms);
  params = refl;
}
put_made (word s x) w h = stays (word s x) [] refl
put_made (number s ds) w h = stays (number s ds) [] refl
put_made (string s cs) w h = stays (string s cs) [] refl
put_made (array s js) w h = stays (array s js) [] refl

module _ (r : Renaming) (gives : GivesFlat r) where
  one_made : (t : Json) (es : List Edit) → document_edits r t ≡ Some es → Made t es
  one_made t es e = go (option_and_then string_text (named_in (codes "uri") t)) (option_and_then integer_text (named_in (codes "version") t)) e
    where
      put : (o : Option (List ℕ)) → ((w : List ℕ) → o ≡ Some w → IsFlatText w) → option_map (λ text. put_edits (new_version text) t) o ≡ Some es → Made t es
      put (Some w) f h = subst (Made t) (some_is (put_edits (new_version w) t) es h) (put_made t w (f w refl))
      put None f h = none_some es h

      go : (u d : Option (List ℕ)) → renamed r t u d ≡ Some es → Made t es
      go (Some u) (Some d) h = put (r u d) (λ w k. gives u d w k) h
      go (Some u) None h = stays t es h
      go None d h = stays t es h

  abbrev Makes : (Json → List Json) → Type 0
  Makes f = (t : Json) (es : List Edit) → all_edits r (f t) ≡ Some es → Made t es

  versioned_made : Makes (λ j. versioned (Some j))
  versioned_made t es e = go (has_version (Some t)) e
    where
      go : (b : Bool) → all_edits r (if b then t ∷ [] else []) ≡ Some es → Made t es
      go true h = one_made t es (sym (joined_end (document_edits r t)) ∙ h)
      go false h = stays t es h

  -- in a member of an object
  member_made : (f : Json → List Json) → Makes f → (cs : List ℕ) (t : Json) (es : List Edit) → all_edits r (maybe f (named_in cs t)) ≡ Some es → Made t es
  member_made f each cs (object s ms) es e = go (named cs ms) refl e
    where
      go : (o : Option Json) → named cs ms ≡ o → all_edits r (maybe f o) ≡ Some es → Made (object s ms) es
      go (Some j) n h =
          let m : Made j es = each j es h in
          record {
            value = object s (put_named cs m.value ms);
            swaps = in_object s ms (put_named cs m.value ms) es (named_step cs ms j m.value es n m.swaps);
            flat = omega (arith, members_deep cs ms m.value, m.flat, named_below cs ms j n);
            params = refl;
          }
      go None n h = stays (object s ms) es h
  member_made f each cs (word s x) es e = stays (word s x) es e
  member_made f each cs (number s ds) es e = stays (number s ds) es e
  member_made f each cs (string s w) es e = stays (string s w) es e
  member_made f each cs (array s js) es e = stays (array s js) es e

  -- in the items of an array
  record ItemsMade (js : Items) (es : List Edit) : Type 0 where
    values : Items
    swaps : SwapsItems js es values
    flat : items_depth values ≤ items_depth js

  items_made : (f : Json → List Json) → Makes f → (js : Items) (es : List Edit) → all_edits r (flat_map f (items_list js)) ≡ Some es → ItemsMade js es
  items_made f each no_items es e = subst (ItemsMade no_items) (some_is [] es e) (record { values = no_items; swaps = no_swaps; flat = omega arith })
  items_made f each (item j js) es e = go (all_edits r (f j)) refl (all_edits r (flat_map f (items_list js))) refl (λ gs q. items_made f each js gs q) (sym (all_both r (f j) (flat_map f (items_list js))) ∙ e)
    where
      go : (a : Option_edits) → all_edits r (f j) ≡ a → (b : Option_edits) → all_edits r (flat_map f (items_list js)) ≡ b → ((gs : List Edit) → all_edits r (flat_map f (items_list js)) ≡ Some gs → ItemsMade js gs) → joined a b ≡ Some es → ItemsMade (item j js) es
      go (Some fs) p (Some gs) q more h =
          let m : Made j fs = each j fs p in
          let k : ItemsMade js gs = more gs q in
          subst (ItemsMade (item j js)) (some_is (fs ++ gs) es h) (record {
            values = item m.value k.values;
            swaps = item_swaps j m.value js k.values fs gs m.swaps k.swaps;
            flat = omega (arith, m.flat, k.flat);
          })
      go (Some fs) p None q more h = none_some es h
      go None p b q more h = none_some es h

  list_made : (f : Json → List Json) → Makes f → Makes (λ j. flat_map f (listed (Some j)))
  list_made f each (array s js) es e =
      let k : ItemsMade js es = items_made f each js es e in
      record { value = array s k.values; swaps = in_array s js k.values es k.swaps; flat = omega (arith, k.flat); params = refl }
  list_made f each (object s ms) es e = stays (object s ms) es e
  list_made f each (word s x) es e = stays (word s x) es e
  list_made f each (number s ds) es e = stays (number s ds) es e
  list_made f each (string s w) es e = stays (string s w) es e

  -- the documents of a result

  change_made : Makes change_documents
  change_made t es e = member_made (λ j. versioned (Some j)) versioned_made (codes "textDocument") t es (sym (go (named_in (codes "textDocument") t)) ∙ e)
    where
      go : (o : Option Json) → all_edits r (versioned o) ≡ all_edits r (maybe (λ j. versioned (Some j)) o)
      go (Some j) = refl
      go None = refl

  abbrev changes_listed : Json → List Json
  changes_listed j = flat_map change_documents (listed (Some j))

  changes_made : Makes changes_listed
  changes_made t es e = list_made change_documents change_made t es e

  workspace_is : (o : Option Json) → flat_map change_documents (listed o) ≡ maybe changes_listed o
  workspace_is (Some j) = refl
  workspace_is None = refl

  workspace_made : Makes (λ t. workspace_documents (Some t))
  workspace_made t es e = member_made changes_listed changes_made (codes "documentChanges") t es (sym (ap (all_edits r) (workspace_is (named_in (codes "documentChanges") t))) ∙ e)

  action_is : (o : Option Json) → workspace_documents o ≡ maybe (λ j. workspace_documents (Some j)) o
  action_is (Some j) = refl
  action_is None = refl

  pub action_made : Makes action_documents
  action_made t es e = member_made (λ j. workspace_documents (Some j)) workspace_made (codes "edit") t es (sym (ap (all_edits r) (action_is (named_in (codes "edit") t))) ∙ e)

  -- both members of an object, in the order of their places
  module _ (s : Span) (ms : Members) (at : ℕ) (bs : List ℕ) (stands : value (object s ms) at bs) (es : List Edit) where
    abbrev whole : Json
    whole = object s ms

    ordered : (j k : Json) → named (codes "documentChanges") ms ≡ Some j → named (codes "edit") ms ≡ Some k → (fs gs : List Edit) → Made j fs → Made k gs → (b : Bool) → in_front (Some j) (Some k) ≡ b → in_order b fs gs ≡ es → Made whole es
    ordered j k n e fs gs m l b is h =
        let two : Sides (codes "documentChanges") (codes "edit") ms j k = sides (codes "documentChanges") (codes "edit") ms j k refl n e in
        let same : two.first ≡ b = sym (sides_are (codes "documentChanges") (codes "edit") s ms j k at bs stands n e two) ∙ is in
        let new : Members = both (codes "documentChanges") (codes "edit") m.value l.value ms in
        subst (Made whole) (ap (λ z. in_order z fs gs) same ∙ h) (record {
          value = object s new;
          swaps = in_object s ms new (in_order two.first fs gs) (two.makes m.value l.value fs gs m.swaps l.swaps);
          flat = omega (arith, members_deep (codes "edit") (put_named (codes "documentChanges") m.value ms) l.value, members_deep (codes "documentChanges") ms m.value, m.flat, l.flat, named_below (codes "documentChanges") ms j n, named_below (codes "edit") ms k e);
          params = refl;
        })

    two_made : (j k : Json) → named (codes "documentChanges") ms ≡ Some j → named (codes "edit") ms ≡ Some k → (b : Bool) → in_front (Some j) (Some k) ≡ b
        → (x y : Option_edits) → all_edits r (changes_listed j) ≡ x → all_edits r (workspace_documents (Some k)) ≡ y → (if b then joined x y else joined y x) ≡ Some es → Made whole es
    two_made j k n e b is (Some fs) (Some gs) p q h = ordered j k n e fs gs (changes_made j fs p) (workspace_made k gs q) b is (in_turn b h)
      where
        in_turn : (b : Bool) → (if b then joined (Some fs) (Some gs) else joined (Some gs) (Some fs)) ≡ Some es → in_order b fs gs ≡ es
        in_turn true g = some_is (fs ++ gs) es g
        in_turn false g = some_is (gs ++ fs) es g
    two_made j k n e true is (Some fs) None p q h = none_some es h
    two_made j k n e false is (Some fs) None p q h = none_some es h
    two_made j k n e true is None y p q h = none_some es h
    two_made j k n e false is None (Some gs) p q h = none_some es h
    two_made j k n e false is None None p q h = none_some es h

    object_made : all_edits r (object_documents whole) ≡ Some es → Made whole es
    object_made h = go (named (codes "documentChanges") ms) refl (named (codes "edit") ms) refl h
      where
        own : Option Json → List Json
        own o = flat_map change_documents (listed o)

        parted : (b : Bool) (xs ys : List Json) → all_edits r (if b then xs ++ ys else ys ++ xs) ≡ (if b then joined (all_edits r xs) (all_edits r ys) else joined (all_edits r ys) (all_edits r xs))
        parted true xs ys = all_both r xs ys
        parted false xs ys = all_both r ys xs

        go : (o : Option Json) → named (codes "documentChanges") ms ≡ o → (p : Option Json) → named (codes "edit") ms ≡ p
            → all_edits r (if in_front o p then own o ++ workspace_documents p else workspace_documents p ++ own o) ≡ Some es → Made whole es
        go (Some j) n (Some k) e g = two_made j k n e (in_front (Some j) (Some k)) refl (all_edits r (own (Some j))) (all_edits r (workspace_documents (Some k))) refl refl
            (sym (parted (in_front (Some j) (Some k)) (own (Some j)) (workspace_documents (Some k))) ∙ g)
        go (Some j) n None e g = member_made changes_listed changes_made (codes "documentChanges") whole es
            (ap (λ o. all_edits r (maybe changes_listed o)) n ∙ ap (all_edits r) (sym (append-nil (own (Some j)))) ∙ g)
        go None n (Some k) e g = member_made (λ j. workspace_documents (Some j)) workspace_made (codes "edit") whole es (ap (λ o. all_edits r (maybe (λ j. workspace_documents (Some j)) o)) e ∙ g)
        go None n None e g = stays whole es g

  pub documents_made : (t : Json) (at : ℕ) (bs : List ℕ) → value t at bs → (es : List Edit) → all_edits r (documents_of t) ≡ Some es → Made t es
  documents_made (object s ms) at bs v es e = object_made s ms at bs v es e
  documents_made (array s js) at bs v es e = list_made action_documents action_made (array s js) es e
  documents_made (word s x) at bs v es e = stays (word s x) es e
  documents_made (number s ds) at bs v es e = stays (number s ds) es e
  documents_made (string s w) at bs v es e = stays (string s w) es e
