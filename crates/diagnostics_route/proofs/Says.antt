-- What a list says, by its parts.
use Rattle.std.proofs.Common.{◌≡◌, ◌⊎◌, inl, inr, ℕ, Bool, true, false, List, ◌∷◌, refl, sym, ◌∙◌, ap, subst}
use Rattle.std.specs.Prelude.{Option, Some, None, codes, if◌then◌else◌}
use Rattle.std.specs.Option.{option_map}
use Rattle.json_text.specs.declared.span.Span.{Span}
use Rattle.json_text.specs.declared.kind.Kind.{Kind}
use Rattle.json_text.specs.declared.kind.Kind.TheVariants as kind
use Rattle.json_text.specs.declared.kind.Word.TheVariants as word_of
use Rattle.json_text.specs.Json.{Json, word, number, string, array, object, value}
use Rattle.json_nodes.specs.At.{At, Found}
use Rattle.json_nodes.specs.Doc.{Doc}
use Rattle.json_nodes.specs.Nodes.{kind_of}
use Rattle.json_nodes.proofs.Sames.{number_of}
use Rattle.mux_members.specs.Finds.{Rest, is_array_value}
use Rattle.mux_members.specs.Members.{named_of, string_at}
use Rattle.mux_members.proofs.Walks.{rest_ends, rest_first}
use Rattle.diagnostics_route.specs.declared.last_list.LastList.{LastList}
use Rattle.diagnostics_route.specs.declared.last_list.Version.{Version}
use Rattle.diagnostics_route.specs.declared.last_list.Version.TheVariants.{Absent, Null, Other}
use Rattle.diagnostics_route.specs.Published.{are_none, digits_version, list_of, published_in, version_of}

-- a value that is there, and one that isn't

pub there : (doc : Doc) (o : Option Json) (place : Option ℕ) (n : ℕ) → Some n ≡ place → Found doc o place → (t : Json) × (o ≡ Some t) × At doc n t
there doc o place n same f = go o (subst (λ z. Found doc o z) (sym same) f)
  where
    go : (o : Option Json) → Found doc o (Some n) → (t : Json) × (o ≡ Some t) × At doc n t
    go None h = absurd h
    go (Some t) h = (t, refl, h)

pub absent : (doc : Doc) (o : Option Json) (place : Option ℕ) → None ≡ place → Found doc o place → Absent ≡ version_of o
absent doc o place same f = go o (subst (λ z. Found doc o z) (sym same) f)
  where
    go : (o : Option Json) → Found doc o None → Absent ≡ version_of o
    go None h = refl
    go (Some t) h = absurd h

-- a version by its kind

pub null_version : (t : Json) → kind_of t ≡ kind.Null → Null ≡ version_of (Some t)
null_version (word s word_of.Null) e = refl
null_version (word s word_of.False) e = absurd (cc)
null_version (word s word_of.True) e = absurd (cc)
null_version (number s ds) e = absurd (cc)
null_version (string s cs) e = absurd (cc)
null_version (array s js) e = absurd (cc)
null_version (object s ms) e = absurd (cc)

pub number_version : (t : Json) (at : ℕ) (w : List ℕ) → kind_of t ≡ kind.Number → value t at w → digits_version w ≡ version_of (Some t)
number_version t at w e v = let k : (s : Span) × (ds : List ℕ) × (t ≡ number s ds) = number_of t e in go k.0 k.1 k.2
  where
    go : (s : Span) (ds : List ℕ) → t ≡ number s ds → digits_version w ≡ version_of (Some t)
    go s ds g =
        let spelled : value (number s ds) at w = subst (λ z. value z at w) g v in
        ap digits_version spelled.0.0 ∙ sym (ap (λ z. version_of (Some z)) g)

-- every kind but that of null and that of numbers
abbrev is_other : Kind → Bool
is_other kind.Null = false
is_other kind.False = true
is_other kind.True = true
is_other kind.Number = false
is_other kind.Text = true
is_other kind.Array = true
is_other kind.Object = true

another : (x : Kind) → (x ≡ kind.False) ⊎ ((x ≡ kind.True) ⊎ ((x ≡ kind.Text) ⊎ ((x ≡ kind.Array) ⊎ (x ≡ kind.Object)))) → is_other x ≡ true
another x (inl e) = ap is_other e
another x (inr (inl e)) = ap is_other e
another x (inr (inr (inl e))) = ap is_other e
another x (inr (inr (inr (inl e)))) = ap is_other e
another x (inr (inr (inr (inr e)))) = ap is_other e

none_of_these : (t : Json) → is_other (kind_of t) ≡ true → Other ≡ version_of (Some t)
none_of_these (word s word_of.Null) e = absurd (cc)
none_of_these (word s word_of.False) e = refl
none_of_these (word s word_of.True) e = refl
none_of_these (number s ds) e = absurd (cc)
none_of_these (string s cs) e = refl
none_of_these (array s js) e = refl
none_of_these (object s ms) e = refl

pub other_version : (t : Json) (x : Kind) → x ≡ kind_of t → (x ≡ kind.False) ⊎ ((x ≡ kind.True) ⊎ ((x ≡ kind.Text) ⊎ ((x ≡ kind.Array) ⊎ (x ≡ kind.Object)))) → Other ≡ version_of (Some t)
other_version t x told e = none_of_these t (sym (ap is_other told) ∙ another x e)

-- the items of a list

pub some_item : (doc : Doc) (m : ℕ) (values : List Json) → Rest doc (Some m) values → false ≡ are_none values
some_item doc m values r = let q : (t : Json) × (more : List Json) × (values ≡ t ∷ more) × At doc m t = rest_first doc m values r in sym (ap are_none q.2)

pub no_item : (doc : Doc) (values : List Json) → Rest doc None values → true ≡ are_none values
no_item doc values r = sym (ap are_none (rest_ends doc values r))

-- the list by its parts

abbrev made : ℕ → List ℕ → List ℕ → Version → Bool → LastList
made place uri body version empty = record { uri = uri; body = body; place = place; version = version; empty = empty }

pub made_as : (place : ℕ) (uri b c : List ℕ) (v w : Version) (x y : Bool) → b ≡ c → v ≡ w → x ≡ y → made place uri b v x ≡ made place uri c w y
made_as place uri b c v w x y p q r = ap (λ z. made place uri z v x) p ∙ (ap (λ z. made place uri c z x) q ∙ ap (made place uri c w) r)

abbrev by_uri : ℕ → List ℕ → Option Json → Bool → Option (List ℕ) → Option LastList
by_uri place body o is uri = if is then option_map (list_of place body o) uri else None

pub no_list : (place : ℕ) (body : List ℕ) (o : Option Json) → is_array_value (named_of (codes "diagnostics") o) ≡ false → published_in place body o ≡ None
no_list place body o h = ap (λ b. by_uri place body o b (string_at (codes "uri") o)) h

pub no_uri : (place : ℕ) (body : List ℕ) (o : Option Json) → is_array_value (named_of (codes "diagnostics") o) ≡ true → string_at (codes "uri") o ≡ None → published_in place body o ≡ None
no_uri place body o h u = ap (λ b. by_uri place body o b (string_at (codes "uri") o)) h ∙ ap (by_uri place body o true) u

pub with_uri : (place : ℕ) (body : List ℕ) (o : Option Json) (uri : List ℕ) → is_array_value (named_of (codes "diagnostics") o) ≡ true → string_at (codes "uri") o ≡ Some uri
    → published_in place body o ≡ Some (list_of place body o uri)
with_uri place body o uri h u = ap (λ b. by_uri place body o b (string_at (codes "uri") o)) h ∙ ap (by_uri place body o true) u
