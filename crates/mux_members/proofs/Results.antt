-- What is read in a response with a result.
use Rattle.std.proofs.Common.{◌≡◌, ℕ, Bool, true, false, ◌&&◌, ◌||◌, List, ◌∷◌, codes, refl, sym, ◌∙◌, ap, ap₂, subst, Some, None, Option}
use Rattle.std.specs.Prelude.{bytes_eq, if◌then◌else◌}
use Rattle.std.specs.List.{list_any}
use Rattle.std.specs.Option.{option_map}
use Rattle.json_text.specs.declared.kind.Word.TheVariants.{Null, False, True}
use Rattle.json_text.specs.Bare.{bare, bare_items}
use Rattle.json_text.specs.Json.{Json, word, number, string, array, object, Items, no_items, item, value}
use Rattle.json_text.specs.Named.{items_list, named_in}
use Rattle.json_nodes.specs.At.{At, Found}
use Rattle.json_nodes.specs.Doc.{Doc}
use Rattle.rpc_message.specs.declared.envelope.Envelope.{Envelope}
use Rattle.rpc_message.specs.declared.envelope.Envelope.TheVariants.{Request, Notification, Outcome, Failure}
use Rattle.rpc_message.specs.Envelopes.{Tells}
use Rattle.rpc_message.specs.Message.{Id, integer, text, Message, request, notification, result, error, result_tree, response_id, is_integer, is_integer_value, is_string_value}
use Rattle.mux_model.specs.event_model.specs.Members.{listed, named_of, has_version, has_versions, is_versioned_edit, reads_versions}
use Rattle.mux_model.specs.event_model.specs.Stages.{is_first_result}
use Rattle.mux_members.specs.Envelopes.{outcome_id, outcome_value}
use Rattle.mux_members.specs.Results.{any_versioned, is_one, value_reads_versions}
use Rattle.mux_members.proofs.Bared.{in_bare, integer_bare, of_bare, string_bare}
use Rattle.rpc_message.proofs.SameIds.{quoted_shape}

-- the number 1

one_integer : (b : Bool) (ds : List ℕ) (id : Option Id) → (if b then Some (Some (integer ds)) else None) ≡ Some id → bytes_eq ds (codes "1") ≡ is_one id
one_integer true ds id e = let same : ◌≡◌ {A = Option Id} (Some (integer ds)) id = cc in ap is_one same
one_integer false ds id e = absurd (cc)

one_text : (cs : List ℕ) (id : Option Id) → ◌≡◌ {A = Option (Option Id)} (Some (Some (text cs))) (Some id) → false ≡ is_one id
one_text cs id e = let same : ◌≡◌ {A = Option Id} (Some (text cs)) id = cc in ap is_one same

one_null : (id : Option Id) → ◌≡◌ {A = Option (Option Id)} (Some None) (Some id) → false ≡ is_one id
one_null id e = let same : ◌≡◌ {A = Option Id} None id = cc in ap is_one same

pub one_told : (t : Json) (id : Option Id) (at : ℕ) (w : List ℕ) (b : Bool) → value t at w → response_id t ≡ Some id → b ≡ bytes_eq w (codes "1") → b ≡ is_one id
one_told (number s ds) id at w b v e h = h ∙ ap (λ z. bytes_eq z (codes "1")) v.0.0 ∙ one_integer (is_integer ds) ds id e
one_told (string s cs) id at w b v e h = h ∙ ap (λ z. bytes_eq z (codes "1")) (quoted_shape cs w at v.0).1 ∙ one_text cs id e
one_told (word s Null) id at w b v e h = h ∙ ap (λ z. bytes_eq z (codes "1")) v.0 ∙ one_null id e
one_told (word s False) id at w b v e h = absurd (cc)
one_told (word s True) id at w b v e h = absurd (cc)
one_told (array s js) id at w b v e h = absurd (cc)
one_told (object s ms) id at w b v e h = absurd (cc)

first_one : (id : Option Id) (r : Json) → is_first_result (result id r) ≡ is_one id
first_one (Some (integer n)) r = refl
first_one (Some (text cs)) r = refl
first_one None r = refl

pub told_first : (doc : Doc) (e : Envelope) (m : Message) (b : Bool) (n : ℕ) → Tells doc e m → outcome_id e ≡ Some n → ((t : Json) (id : Option Id) → At doc n t → response_id t ≡ Some id → b ≡ is_one id) → b ≡ is_first_result m
told_first doc (Outcome i v) m b n t h tell =
    let same : i ≡ n = cc in
    tell t.id_tree t.id (subst (λ k. At doc k t.id_tree) same t.id_stands) t.id_is ∙ sym (ap is_first_result t.is ∙ first_one t.id (result_tree t.value))
told_first doc (Request i n p) m b k t h tell = absurd (cc)
told_first doc (Notification n p) m b k t h tell = absurd (cc)
told_first doc (Failure i f) m b k t h tell = absurd (cc)

-- plain results

-- versions

pub any_here : (p : Json → Bool) (t : Json) (more : List Json) → p t ≡ true → list_any p (t ∷ more) ≡ true
any_here p t more e = ap (λ b. b || list_any p more) e

pub any_on : (p : Json → Bool) (t : Json) (more : List Json) → p t ≡ false → list_any p (t ∷ more) ≡ list_any p more
any_on p t more e = ap (λ b. b || list_any p more) e

any_bare : (p : Json → Bool) → ((j : Json) → p (bare j) ≡ p j) → (js : Items) → list_any p (items_list (bare_items js)) ≡ list_any p (items_list js)
any_bare p same no_items = refl
any_bare p same (item j js) = ap₂ (λ a b. a || b) (same j) (any_bare p same js)

listed_bare : (p : Json → Bool) → ((j : Json) → p (bare j) ≡ p j) → (o : Option Json) → list_any p (listed (option_map bare o)) ≡ list_any p (listed o)
listed_bare p same None = refl
listed_bare p same (Some (array s js)) = any_bare p same js
listed_bare p same (Some (word s w)) = refl
listed_bare p same (Some (number s ds)) = refl
listed_bare p same (Some (string s cs)) = refl
listed_bare p same (Some (object s ms)) = refl

version_bare : (o : Option Json) → has_version (option_map bare o) ≡ has_version o
version_bare o = ap₂ (λ a b. a && b) (ap is_string_value (of_bare (codes "uri") o) ∙ string_bare (named_of (codes "uri") o)) (ap is_integer_value (of_bare (codes "version") o) ∙ integer_bare (named_of (codes "version") o))

edit_bare : (j : Json) → is_versioned_edit (bare j) ≡ is_versioned_edit j
edit_bare j = ap has_version (in_bare (codes "textDocument") j) ∙ version_bare (named_in (codes "textDocument") j)

versions_bare : (o : Option Json) → has_versions (option_map bare o) ≡ has_versions o
versions_bare o = ap (λ z. any_versioned (listed z)) (of_bare (codes "documentChanges") o) ∙ listed_bare (λ j. is_versioned_edit j) edit_bare (named_of (codes "documentChanges") o)

edits_bare : (j : Json) → has_versions (named_in (codes "edit") (bare j)) ≡ has_versions (named_in (codes "edit") j)
edits_bare j = ap has_versions (in_bare (codes "edit") j) ∙ versions_bare (named_in (codes "edit") j)

reads_bare : (j : Json) → reads_versions (bare j) ≡ reads_versions j
reads_bare (array s js) = any_bare (λ j. has_versions (named_in (codes "edit") j)) edits_bare js
reads_bare (object s ms) = ap₂ (λ a b. a || b) (versions_bare (Some (object s ms))) (edits_bare (object s ms))
reads_bare (word s w) = refl
reads_bare (number s ds) = refl
reads_bare (string s cs) = refl

value_versions : (o : Option Json) → reads_versions (result_tree o) ≡ value_reads_versions o
value_versions None = refl
value_versions (Some j) = reads_bare j

pub told_versions : (doc : Doc) (e : Envelope) (m : Message) (id : Option Id) (value : Json) (b : Bool) → Tells doc e m → m ≡ result id value → ((o : Option Json) → Found doc o (outcome_value e) → b ≡ value_reads_versions o) → b ≡ reads_versions value
told_versions doc (Outcome i v) m id value b t h tell =
    let same : value ≡ result_tree t.value = (let is : m ≡ result t.id (result_tree t.value) = t.is in cc) in
    tell t.value t.value_stands ∙ sym (ap reads_versions same ∙ value_versions t.value)
told_versions doc (Request i n p) m id value b t h tell = absurd (let is : m ≡ request t.id t.method (option_map bare t.params) = t.is in cc)
told_versions doc (Notification n p) m id value b t h tell = absurd (let is : m ≡ notification t.method (option_map bare t.params) = t.is in cc)
told_versions doc (Failure i f) m id value b t h tell = absurd (let is : m ≡ error t.id (bare t.failure) = t.is in cc)
