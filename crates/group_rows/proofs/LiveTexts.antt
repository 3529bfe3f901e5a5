-- What is registered is written, whatever the events are, and what editors are told of it is requests.
use Rattle.std.proofs.Common.{◌≡◌, ℕ, suc, ◌^◌, ◌<◌, ◌≤◌, Bool, true, false, not, ◌&&◌, List, [], ◌∷◌, ◌++◌, cond, codes, decimal, encode_utf8_all, filter, flat_map, map, nat_eq, if◌then◌else◌, Option, Some, None, option_map, refl, sym, ◌∙◌, ap, ap₂, subst, arith, append_assoc}
use Rattle.std.specs.Option.{option_and_then, option_map_or}
use Rattle.std.specs.Str.{chars}
use Rattle.json_text.specs.Bare.{bare, bare_items, nowhere}
use Rattle.json_text.specs.declared.span.Span.{Span}
use Rattle.json_text.specs.Json.{Json, word, number, string, array, object, Items, no_items, item, no_members, member, depth, items_depth, span_of, IsText}
use Rattle.json_text.specs.Named.{named, named_in, items_list}
use Rattle.json_text.specs.Paths.{Step, key, index, item_at, value_at}
use Rattle.json_text.specs.Tree.{tree_of}
use Rattle.json_text.proofs.Compact.{closing_none, closing_member, compact_object}
use Rattle.json_text.proofs.Depths.{step_below}
use Rattle.json_text.proofs.Forms.{says, says_more_items}
use Rattle.json_text.proofs.Inside.{InSpan, value_in_span}
use Rattle.json_text.proofs.Laws.{tree_sound}
use Rattle.json_text.proofs.Moves.{Placed, moved, placed}
use Rattle.response_route.specs.document_model.specs.Sayings.{string_at}
use Rattle.json_text.proofs.Put.{named_bare, depth_bare}
use Rattle.mux_history.specs.declared.cause.Cause.TheVariants.{Joined, FromEditor, EditorGone, Started, StartFailed, FromServer, ServerGone, Drained, Tick}
use Rattle.lsp_method.specs.Class.{class_of}
use Rattle.lsp_method.specs.declared.variants.Class.{Class}
use Rattle.lsp_method.specs.declared.variants.Class.TheVariants.{Register, Unregister}
use Rattle.lsp_method.specs.declared.variants.Origin.TheVariants.{Server}
use Rattle.rpc_message.specs.Message.{Message, request, notification, result, error, not_json, not_message, integer, is_string_value, message_of, slice_of}
use Rattle.rpc_message.specs.ValueTexts.{IsShallowText, IsValueText}
use Rattle.rpc_message.proofs.Opening.{value_says}
use Rattle.rpc_message.proofs.Replies.{request_law}
use Rattle.response_route.specs.document_model.specs.Strings.{string_text}
use Rattle.group_words.specs.capability_meet.specs.Parts.{bracketed, listed}
use Rattle.group_words.specs.capability_meet.proofs.MeetSays.{array_says, first_item, one_more_item}
use Rattle.event_model.specs.Event.{Event, did, took}
use Rattle.event_model.specs.Members.{listed as items_of, named_of, params_of}
use Rattle.event_model.specs.Settings.{Settings}
use Rattle.group_words.specs.Past.{past}
use Rattle.registrations.specs.declared.registration.Registration.{Registration}
use Rattle.registrations.specs.Items.{again, are_distinct, if_distinct, is_among, named_as, others, registered, registration_of, registrations_at, registrations_in, unregistered, with_more}
use Rattle.group_rows.specs.Live.{is_heard, live_by, live_next, live_of, register_params, register_text, taken_back, unregister_params, unregister_text, unregistration, with_registered, without_these}
use Rattle.group_rows.specs.LiveTexts.{AreWritten, IsWrittenItem}

-- Members of a value without places

string_bare : (o : Option Json) → option_and_then string_text (option_map bare o) ≡ option_and_then string_text o
string_bare (Some (string s cs)) = refl
string_bare (Some (word s w)) = refl
string_bare (Some (number s ds)) = refl
string_bare (Some (array s js)) = refl
string_bare (Some (object s ms)) = refl
string_bare None = refl

named_same : (cs : List ℕ) (j : Json) → string_at cs (Some (bare j)) ≡ string_at cs (Some j)
named_same cs (object s ms) = ap (option_and_then string_text) (named_bare cs ms) ∙ string_bare (named cs ms)
named_same cs (word s w) = refl
named_same cs (number s ds) = refl
named_same cs (string s ds) = refl
named_same cs (array s js) = refl

-- Items of a body

module _ (body name : List ℕ) (root p : Json) (s : Span) (js : Items) (text : IsText body root) (deep : depth root ≤ 1024)
    (has_params : named_in (codes "params") root ≡ Some p) (has_list : named_in name p ≡ Some (array s js)) where
  standing : (path : List Step) (t : Json) → value_at path root ≡ Some t → IsValueText (bare t) (slice_of body (Some (span_of t)))
  standing path t at =
      let i : InSpan body t = value_in_span body path root t text at in
      let m : Placed t 0 (slice_of body (Some (span_of t))) = moved t (span_of t).from (slice_of body (Some (span_of t))) i.stands 0 in
      record { tree = m.tree; stands = m.stands; same = m.same }

  at_item : (n : ℕ) (t : Json) → item_at n js ≡ Some t → value_at (key (codes "params") ∷ key name ∷ index n ∷ []) root ≡ Some t
  unfolding value_at
  at_item n t is = ap (λ o. option_and_then (λ k. value_at (key name ∷ index n ∷ []) k) o) has_params ∙ ap (λ o. option_and_then (λ k. value_at (index n ∷ []) k) o) has_list ∙ ap (λ o. option_and_then (λ k. Some k) o) is

  at_member : (n : ℕ) (t u : Json) (inner : List ℕ) → item_at n js ≡ Some t → named_in inner t ≡ Some u → value_at (key (codes "params") ∷ key name ∷ index n ∷ key inner ∷ []) root ≡ Some u
  unfolding value_at
  at_member n t u inner is has = ap (λ o. option_and_then (λ k. value_at (key name ∷ index n ∷ key inner ∷ []) k) o) has_params ∙ ap (λ o. option_and_then (λ k. value_at (index n ∷ key inner ∷ []) k) o) has_list
      ∙ ap (λ o. option_and_then (λ k. value_at (key inner ∷ []) k) o) is ∙ ap (λ o. option_and_then (λ k. Some k) o) has

  shallow : (n : ℕ) (t : Json) → item_at n js ≡ Some t → depth t ≤ 1021
  shallow n t is = omega (arith, deep, step_below (key (codes "params")) root p has_params, step_below (key name) p (array s js) has_list, step_below (index n) (array s js) t is)

  -- an item whose id and method are these strings
  strings_written : (n : ℕ) (t : Json) (a b : Span) (called named : List ℕ) → item_at n js ≡ Some t → named_in (codes "method") t ≡ Some (string a called) → named_in (codes "id") t ≡ Some (string b named) → IsWrittenItem (named_as body t (encode_utf8_all named))
  strings_written n t a b called named is method id = record {
    tree = bare t;
    item = record { text = standing (key (codes "params") ∷ key name ∷ index n ∷ []) t (at_item n t is); shallow = omega (arith, depth_bare t, shallow n t is) };
    given = named_same (codes "id") t ∙ ap (option_and_then string_text) id;
    named = named;
    spelt = refl;
    id = subst (λ o. IsValueText (string nowhere named) (slice_of body (option_map span_of o))) (sym id) (standing (key (codes "params") ∷ key name ∷ index n ∷ key (codes "id") ∷ []) (string b named) (at_member n t (string b named) (codes "id") is id));
    called = called;
    method = subst (λ o. IsValueText (string nowhere called) (slice_of body (option_map span_of o))) (sym method) (standing (key (codes "params") ∷ key name ∷ index n ∷ key (codes "method") ∷ []) (string a called) (at_member n t (string a called) (codes "method") is method));
  }

  item_written : (n : ℕ) (t : Json) (r : Registration) → item_at n js ≡ Some t → registration_of body t ≡ Some r → IsWrittenItem r
  item_written n t r is read = go (named_in (codes "method") t) refl (named_in (codes "id") t) refl read
    where
      go : (m : Option Json) → named_in (codes "method") t ≡ m → (i : Option Json) → named_in (codes "id") t ≡ i → (if is_string_value m then option_map (named_as body t) (option_and_then string_text i) else None) ≡ Some r → IsWrittenItem r
      go (Some (string a called)) method (Some (string b named)) id k = subst IsWrittenItem (let same : named_as body t (encode_utf8_all named) ≡ r = cc in same) (strings_written n t a b called named is method id)
      go (Some (string a called)) method (Some (word b w)) id k = absurd (cc)
      go (Some (string a called)) method (Some (number b ds)) id k = absurd (cc)
      go (Some (string a called)) method (Some (array b ks)) id k = absurd (cc)
      go (Some (string a called)) method (Some (object b ms)) id k = absurd (cc)
      go (Some (string a called)) method None id k = absurd (cc)
      go (Some (word a w)) method i id k = absurd (cc)
      go (Some (number a ds)) method i id k = absurd (cc)
      go (Some (array a ks)) method i id k = absurd (cc)
      go (Some (object a ms)) method i id k = absurd (cc)
      go None method i id k = absurd (cc)

  list_written : (ks : Items) → ((n : ℕ) (t : Json) → item_at n ks ≡ Some t → (r : Registration) → registration_of body t ≡ Some r → IsWrittenItem r) → (rs : List Registration) → registrations_in body (items_list ks) ≡ Some rs → AreWritten rs
  unfolding item_at
  list_written no_items f rs is = subst AreWritten (let same : [] ≡ rs = cc in same) tt
  list_written (item j ks) f rs is = go (registration_of body j) refl (registrations_in body (items_list ks)) refl (λ qs e. list_written ks (λ n t e. f (suc n) t e) qs e) is
    where
      go : (o : Option Registration) → registration_of body j ≡ o → (q : Option (List Registration)) → registrations_in body (items_list ks) ≡ q → ((qs : List Registration) → registrations_in body (items_list ks) ≡ Some qs → AreWritten qs)
          → with_more o q ≡ Some rs → AreWritten rs
      go (Some r) one (Some qs) rest more k = subst AreWritten (let same : r ∷ qs ≡ rs = cc in same) (f 0 j refl r one, more qs rest)
      go (Some r) one None rest more k = absurd (cc)
      go None one q rest more k = absurd (cc)

  array_written : (rs : List Registration) → registrations_in body (items_list js) ≡ Some rs → AreWritten rs
  array_written rs is = list_written js (λ n t e r k. item_written n t r e k) rs is

-- the items of this list of a body
read_written : (body name : List ℕ) (rs : List Registration) → registrations_at body (named_of name (params_of body)) ≡ Some rs → AreWritten rs
read_written body name rs is = by_tree (tree_of body) refl is
  where
    by_list : (root p : Json) → tree_of body ≡ Some root → named_in (codes "params") root ≡ Some p → (o : Option Json) → named_in name p ≡ o → registrations_at body o ≡ Some rs → AreWritten rs
    by_list root p e has (Some (array s js)) list k = let both : IsText body root × (depth root ≤ 1024) = tree_sound body root e in array_written body name root p s js both.0 both.1 has list rs k
    by_list root p e has (Some (word s w)) list k = absurd (cc)
    by_list root p e has (Some (number s ds)) list k = absurd (cc)
    by_list root p e has (Some (string s cs)) list k = absurd (cc)
    by_list root p e has (Some (object s ms)) list k = absurd (cc)
    by_list root p e has None list k = absurd (cc)

    by_params : (root : Json) → tree_of body ≡ Some root → (o : Option Json) → named_in (codes "params") root ≡ o → registrations_at body (named_of name o) ≡ Some rs → AreWritten rs
    by_params root e (Some p) has k = by_list root p e has (named_in name p) refl k
    by_params root e None has k = absurd (cc)

    by_tree : (o : Option Json) → tree_of body ≡ o → registrations_at body (named_of name (named_of (codes "params") o)) ≡ Some rs → AreWritten rs
    by_tree (Some root) e k = by_params root e (named_in (codes "params") root) refl k
    by_tree None e k = absurd (cc)

distinct_written : (o : Option (List Registration)) → ((qs : List Registration) → o ≡ Some qs → AreWritten qs) → (rs : List Registration) → option_and_then if_distinct o ≡ Some rs → AreWritten rs
distinct_written None h rs is = absurd (cc)
distinct_written (Some qs) h rs is = go (are_distinct qs) is
  where
    go : (b : Bool) → (if b then Some qs else None) ≡ Some rs → AreWritten rs
    go true k = subst AreWritten (let same : qs ≡ rs = cc in same) (h qs refl)
    go false k = absurd (cc)

pub registered_written : (body : List ℕ) (rs : List Registration) → registered body ≡ Some rs → AreWritten rs
registered_written body rs is = distinct_written (registrations_at body (named_of (codes "registrations") (params_of body))) (λ qs e. read_written body (codes "registrations") qs e) rs is

pub unregistered_written : (body : List ℕ) (rs : List Registration) → unregistered body ≡ Some rs → AreWritten rs
unregistered_written body rs is = distinct_written (registrations_at body (named_of (codes "unregisterations") (params_of body))) (λ qs e. read_written body (codes "unregisterations") qs e) rs is

-- What is live

some_written : (test : Registration → Bool) (rs : List Registration) → AreWritten rs → AreWritten (filter test rs)
some_written test [] h = tt
some_written test (r ∷ rs) h = go (test r) (some_written test rs h.1)
  where
    go : (b : Bool) → AreWritten (filter test rs) → AreWritten (cond b (r ∷ filter test rs) (filter test rs))
    go true more = (h.0, more)
    go false more = more

both_written : (xs ys : List Registration) → AreWritten xs → AreWritten ys → AreWritten (xs ++ ys)
both_written [] ys h g = g
both_written (x ∷ xs) ys h g = (h.0, both_written xs ys h.1 g)

pub again_written : (items live : List Registration) → AreWritten live → AreWritten (again items live)
again_written items live h = some_written (is_among items) live h

pub others_written : (items live : List Registration) → AreWritten live → AreWritten (others items live)
others_written items live h = some_written (λ r. not (is_among items r)) live h

by_class : (c : Class) (body : List ℕ) (live : List Registration) → AreWritten live → AreWritten (live_by c body live)
by_class Register body live h = go (registered body) refl
  where
    go : (o : Option (List Registration)) → registered body ≡ o → AreWritten (with_registered o live)
    go None is = h
    go (Some items) is = both_written (others items live) items (others_written items live h) (registered_written body items is)
by_class Unregister body live h = go (taken_back body live)
  where
    go : (o : Option (List Registration)) → AreWritten (without_these o live)
    go None = h
    go (Some items) = others_written items live h
by_class _ body live h = h

module _ (settings : Settings) (s : ℕ) where
  if_written : (b : Bool) (xs ys : List Registration) → AreWritten xs → AreWritten ys → AreWritten (if b then xs else ys)
  if_written true xs ys h g = h
  if_written false xs ys h g = g

  heard_written : (n : ℕ) (body : List ℕ) (before : List Event) (live : List Registration) (m : Message) → AreWritten live → AreWritten (live_next settings s before live (took (FromServer n body) m))
  heard_written n body before live (request id method ps) h = if_written (nat_eq n s && is_heard settings s before id) (live_by (class_of method Server false) body live) live (by_class (class_of method Server false) body live h) h
  heard_written n body before live (notification method ps) h = h
  heard_written n body before live (result id r) h = h
  heard_written n body before live (error id r) h = h
  heard_written n body before live not_json h = h
  heard_written n body before live not_message h = h

  next_written : (before : List Event) (live : List Registration) (ev : Event) → AreWritten live → AreWritten (live_next settings s before live ev)
  next_written before live (took (FromServer n body) m) h = heard_written n body before live m h
  next_written before live (took (StartFailed n) m) h = if_written (nat_eq n s) [] live tt h
  next_written before live (took (ServerGone n) m) h = if_written (nat_eq n s) [] live tt h
  next_written before live (took (Joined e) m) h = h
  next_written before live (took (FromEditor e body) m) h = h
  next_written before live (took (EditorGone e why) m) h = h
  next_written before live (took (Started n) m) h = h
  next_written before live (took (Drained e k) m) h = h
  next_written before live (took (Tick t) m) h = h
  next_written before live (did out m) h = h

  past_written : (before : List Event) (live : List Registration) (events : List Event) → AreWritten live → AreWritten (past (live_next settings s) before live events)
  past_written before live [] h = h
  past_written before live (ev ∷ events) h = past_written (before ++ ev ∷ []) (live_next settings s before live ev) events (next_written before live ev h)

  pub live_written : (events : List Event) → AreWritten (live_of settings s events)
  live_written events = past_written [] [] events tt

-- Requests

-- a list of texts, each of a value that is found in what is known of the registration
module _ (f : (r : Registration) → IsWrittenItem r → Json) (t : Registration → List ℕ) (said : (r : Registration) (k : IsWrittenItem r) → says (f r k) (t r)) (low : (r : Registration) (k : IsWrittenItem r) → depth (f r k) ≤ 1021) where
  trees : (rs : List Registration) → AreWritten rs → Items
  trees [] h = no_items
  trees (r ∷ rs) h = item (f r h.0) (trees rs h.1)

  more_say : (rs : List Registration) (h : AreWritten rs) → says_more_items (trees rs h) (listed true (map t rs))
  unfolding trees
  more_say [] h = refl
  more_say (r ∷ rs) h = one_more_item (f r h.0) (trees rs h.1) (t r) (listed true (map t rs)) (said r h.0) (more_say rs h.1)

  list_says : (rs : List Registration) (h : AreWritten rs) → says (array nowhere (trees rs h)) (bracketed (map t rs))
  unfolding trees
  list_says [] h = array_says nowhere no_items [] tt
  list_says (r ∷ rs) h = array_says nowhere (trees (r ∷ rs) h) (map t (r ∷ rs)) (first_item (f r h.0) (trees rs h.1) (t r) (listed true (map t rs)) (said r h.0) (more_say rs h.1))

  list_low : (rs : List Registration) (h : AreWritten rs) → items_depth (trees rs h) ≤ 1021
  unfolding trees
  list_low [] h = omega arith
  list_low (r ∷ rs) h = let a = low r h.0 in let b = list_low rs h.1 in omega (arith, a, b)

abbrev params_tree : List ℕ → Items → Json
params_tree name js = object nowhere (member nowhere name (array nowhere js) no_members)

-- params with one member, a list
params_value : (name : List ℕ) (js : Items) (params : List ℕ) → says (params_tree name js) params → items_depth js ≤ 1021 → IsShallowText 1023 (bare (params_tree name js)) params
params_value name js params said deep =
    let p : Placed (params_tree name js) 0 params = placed (params_tree name js) 0 params said in
    record { text = record { tree = p.tree; stands = p.stands; same = p.same }; shallow = omega (arith, deep, depth_bare (params_tree name js)) }

item_tree : (r : Registration) → IsWrittenItem r → Json
item_tree r k = k.tree

item_says : (r : Registration) (k : IsWrittenItem r) → says (item_tree r k) r.item
unfolding item_tree
item_says r k = value_says k.tree r.item (k.item).text

item_low : (r : Registration) (k : IsWrittenItem r) → depth (item_tree r k) ≤ 1021
unfolding item_tree
item_low r k = (k.item).shallow

ids_tree : (r : Registration) → IsWrittenItem r → Json
ids_tree r k = object nowhere (member nowhere (codes "id") (string nowhere k.named) (member nowhere (codes "method") (string nowhere k.called) no_members))

pair_whole : (id method : List ℕ) → codes "{\"id\":" ++ id ++ codes ",\"method\":" ++ method ++ codes "}" ≡ codes "{\"id\":" ++ (id ++ (codes ",\"method\":" ++ (method ++ codes "}")))
pair_whole id method = simp append_assoc

ids_says : (r : Registration) (k : IsWrittenItem r) → says (ids_tree r k) (unregistration r)
unfolding ids_tree
ids_says r k = subst (λ w. says (object nowhere (member nowhere (codes "id") (string nowhere k.named) (member nowhere (codes "method") (string nowhere k.called) no_members))) w) (sym (pair_whole r.id r.method))
    (compact_object nowhere nowhere (codes "id") (string nowhere k.named) (member nowhere (codes "method") (string nowhere k.called) no_members) r.id (codes ",\"method\":" ++ (r.method ++ codes "}")) refl (value_says (string nowhere k.named) r.id k.id)
    (closing_member nowhere (codes "method") (string nowhere k.called) no_members r.method (codes "}") refl (value_says (string nowhere k.called) r.method k.method) closing_none))

ids_low : (r : Registration) (k : IsWrittenItem r) → depth (ids_tree r k) ≤ 1021
unfolding ids_tree
ids_low r k = omega arith

-- the ids that items give
abbrev pub ids_read : List Json → List (List ℕ)
ids_read js = flat_map (λ (j : Json). option_map_or (λ (id : List ℕ). id ∷ []) (string_at (codes "id") (Some j)) []) js

ids_bare : (js : Items) → ids_read (items_list (bare_items js)) ≡ ids_read (items_list js)
ids_bare no_items = refl
ids_bare (item j js) = ap₂ (λ o xs. option_map_or (λ (id : List ℕ). id ∷ []) o [] ++ xs) (named_same (codes "id") j) (ids_bare js)

module _ (f : (r : Registration) → IsWrittenItem r → Json) (t : Registration → List ℕ) (said : (r : Registration) (k : IsWrittenItem r) → says (f r k) (t r)) (low : (r : Registration) (k : IsWrittenItem r) → depth (f r k) ≤ 1021)
    (named_so : (r : Registration) (k : IsWrittenItem r) → string_at (codes "id") (Some (f r k)) ≡ Some r.name) where
  trees_named : (rs : List Registration) (h : AreWritten rs) → ids_read (items_list (trees f t said low rs h)) ≡ map (λ (r : Registration). r.name) rs
  unfolding trees
  trees_named [] h = refl
  trees_named (r ∷ rs) h = ap₂ (λ o xs. option_map_or (λ (id : List ℕ). id ∷ []) o [] ++ xs) (named_so r h.0) (trees_named rs h.1)

ids_named : (r : Registration) (k : IsWrittenItem r) → string_at (codes "id") (Some (ids_tree r k)) ≡ Some r.name
unfolding ids_tree named
ids_named r k = ap (λ n. Some n) (sym k.spelt)

item_named : (r : Registration) (k : IsWrittenItem r) → string_at (codes "id") (Some (item_tree r k)) ≡ Some r.name
unfolding item_tree
item_named r k = k.given

-- the daemon's own requests
module _ (rs : List Registration) (h : AreWritten rs) where
  item_trees : Items
  item_trees = trees item_tree (λ (r : Registration). r.item) item_says item_low rs h

  register_value : IsShallowText 1023 (bare (params_tree (codes "registrations") item_trees)) (register_params rs)
  unfolding item_trees
  register_value = params_value (codes "registrations") item_trees (register_params rs)
      (subst (λ w. says (params_tree (codes "registrations") item_trees) w) (sym (append_assoc (codes "{\"registrations\":") (bracketed (map (λ (r : Registration). r.item) rs)) (codes "}")))
      (compact_object nowhere nowhere (codes "registrations") (array nowhere item_trees) no_members (bracketed (map (λ (r : Registration). r.item) rs)) (codes "}") refl (list_says item_tree (λ (r : Registration). r.item) item_says item_low rs h) closing_none))
      (list_low item_tree (λ (r : Registration). r.item) item_says item_low rs h)

  ids_trees : Items
  ids_trees = trees ids_tree unregistration ids_says ids_low rs h

  unregister_value : IsShallowText 1023 (bare (params_tree (codes "unregisterations") ids_trees)) (unregister_params rs)
  unfolding ids_trees
  unregister_value = params_value (codes "unregisterations") ids_trees (unregister_params rs)
      (subst (λ w. says (params_tree (codes "unregisterations") ids_trees) w) (sym (append_assoc (codes "{\"unregisterations\":") (bracketed (map unregistration rs)) (codes "}")))
      (compact_object nowhere nowhere (codes "unregisterations") (array nowhere ids_trees) no_members (bracketed (map unregistration rs)) (codes "}") refl (list_says ids_tree unregistration ids_says ids_low rs h) closing_none))
      (list_low ids_tree unregistration ids_says ids_low rs h)

  pub register_says : (n : ℕ) → n < 2 ^ 128 → (params : Json) × (message_of (register_text rs n) ≡ request (integer (decimal n)) (codes "client/registerCapability") (Some params))
  unfolding chars lib.Utf8.encode
  register_says n small = (
    bare (bare (params_tree (codes "registrations") item_trees)),
    request_law n (codes "client/registerCapability") (Some (bare (params_tree (codes "registrations") item_trees))) (Some (register_params rs)) small (codes "client/registerCapability", (refl, refl)) register_value.text refl register_value.shallow,
  )

  pub unregister_says : (n : ℕ) → n < 2 ^ 128 → (params : Json) × (message_of (unregister_text rs n) ≡ request (integer (decimal n)) (codes "client/unregisterCapability") (Some params))
  unfolding chars lib.Utf8.encode
  unregister_says n small = (
    bare (bare (params_tree (codes "unregisterations") ids_trees)),
    request_law n (codes "client/unregisterCapability") (Some (bare (params_tree (codes "unregisterations") ids_trees))) (Some (unregister_params rs)) small (codes "client/unregisterCapability", (refl, refl)) unregister_value.text refl unregister_value.shallow,
  )

  -- and what they name
  pub register_tells : (n : ℕ) → n < 2 ^ 128
      → (params : Json) × ((message_of (register_text rs n) ≡ request (integer (decimal n)) (codes "client/registerCapability") (Some params)) × (ids_read (items_of (named_of (codes "registrations") (Some params))) ≡ map (λ (r : Registration). r.name) rs))
  unfolding chars lib.Utf8.encode named item_trees
  register_tells n small = (
    bare (bare (params_tree (codes "registrations") item_trees)),
    (
      request_law n (codes "client/registerCapability") (Some (bare (params_tree (codes "registrations") item_trees))) (Some (register_params rs)) small (codes "client/registerCapability", (refl, refl)) register_value.text refl register_value.shallow,
      ids_bare (bare_items item_trees) ∙ ids_bare item_trees ∙ trees_named item_tree (λ (r : Registration). r.item) item_says item_low item_named rs h,
    ),
  )

  pub unregister_tells : (n : ℕ) → n < 2 ^ 128
      → (params : Json) × ((message_of (unregister_text rs n) ≡ request (integer (decimal n)) (codes "client/unregisterCapability") (Some params)) × (ids_read (items_of (named_of (codes "unregisterations") (Some params))) ≡ map (λ (r : Registration). r.name) rs))
  unfolding chars lib.Utf8.encode named ids_trees
  unregister_tells n small = (
    bare (bare (params_tree (codes "unregisterations") ids_trees)),
    (
      request_law n (codes "client/unregisterCapability") (Some (bare (params_tree (codes "unregisterations") ids_trees))) (Some (unregister_params rs)) small (codes "client/unregisterCapability", (refl, refl)) unregister_value.text refl unregister_value.shallow,
      ids_bare (bare_items ids_trees) ∙ ids_bare ids_trees ∙ trees_named ids_tree unregistration ids_says ids_low ids_named rs h,
    ),
  )
