-- The parts of a body by the nodes of its values.
use Rattle.std.proofs.Common.{◌≡◌, ℕ, List, codes, Option, Some, None, option_map, refl, sym, ◌∙◌, ap, subst}
use Rattle.std.specs.Str.{chars}
use Rattle.json_text.specs.declared.span.Span.{Span}
use Rattle.json_text.specs.Json.{Json, word, number, string, array, object, span_of}
use Rattle.json_text.specs.Named.{named, named_in}
use Rattle.json_text.specs.Tree.{tree_of}
use Rattle.json_span.specs.json_nodes.specs.At.{At, Found}
use Rattle.json_span.specs.json_nodes.specs.Doc.{Doc, Holds}
use Rattle.json_span.specs.json_nodes.specs.Values.{bytes_at}
use Rattle.rpc_message.specs.Message.{place_in, slice_of, member_bytes}
use Rattle.rpc_message.proofs.Reading.{held_tree}

-- where a member stands
pub place_named : (cs : List ℕ) (j : Json) → place_in cs (Some j) ≡ option_map span_of (named_in cs j)
place_named cs (object s ms) = go (named cs ms)
  where
    go : (o : Option Json) → (elim o [ None ↦ None | Some k ↦ Some (span_of k) ]) ≡ option_map span_of o
    go None = refl
    go (Some k) = refl
place_named cs (word s w) = refl
place_named cs (number s ds) = refl
place_named cs (string s ds) = refl
place_named cs (array s js) = refl

-- where the member stands in a body that was read
place_held : (cs : List ℕ) (doc : Doc) (j : Json) → Holds doc j → place_in cs (tree_of doc.bytes) ≡ option_map span_of (named_in cs j)
place_held cs doc j h = ap (place_in cs) (held_tree doc j h) ∙ place_named cs j

pub no_member : (cs : List ℕ) (doc : Doc) (j : Json) (found : Option ℕ) → Holds doc j → Found doc (named_in cs j) found → found ≡ None → codes "null" ≡ member_bytes cs doc.bytes
unfolding member_bytes
no_member cs doc j found h f e = sym (ap (slice_of doc.bytes) (place_held cs doc j h) ∙ go (named_in cs j) (subst (λ o. Found doc (named_in cs j) o) e f))
  where
    go : (o : Option Json) → Found doc o None → slice_of doc.bytes (option_map span_of o) ≡ codes "null"
    go None g = refl
    go (Some t) g = absurd g

pub member_part : (cs : List ℕ) (doc : Doc) (j : Json) (found : Option ℕ) (node : ℕ) (w : List ℕ) → Holds doc j → Found doc (named_in cs j) found → found ≡ Some node
    → ((t : Json) → At doc node t → w ≡ bytes_at doc t) → w ≡ member_bytes cs doc.bytes
unfolding member_bytes
member_part cs doc j found node w h f e place = go (named_in cs j) (subst (λ o. Found doc (named_in cs j) o) e f) ∙ sym (ap (slice_of doc.bytes) (place_held cs doc j h))
  where
    go : (o : Option Json) → Found doc o (Some node) → w ≡ slice_of doc.bytes (option_map span_of o)
    go (Some t) a = place t a
    go None a = absurd a

pub placed : (cs : List ℕ) (doc : Doc) (j : Json) (found : Option ℕ) (node : ℕ) (s : Span) → Holds doc j → Found doc (named_in cs j) found → found ≡ Some node
    → ((t : Json) → At doc node t → s ≡ span_of t) → Some s ≡ place_in cs (tree_of doc.bytes)
placed cs doc j found node s h f e place = go (named_in cs j) (subst (λ o. Found doc (named_in cs j) o) e f) ∙ sym (place_held cs doc j h)
  where
    go : (o : Option Json) → Found doc o (Some node) → Some s ≡ option_map span_of o
    go (Some t) a = ap Some (place t a)
    go None a = absurd a

pub not_placed : (cs : List ℕ) (doc : Doc) (j : Json) (found : Option ℕ) → Holds doc j → Found doc (named_in cs j) found → found ≡ None → None ≡ place_in cs (tree_of doc.bytes)
not_placed cs doc j found h f e = sym (place_held cs doc j h ∙ go (named_in cs j) (subst (λ o. Found doc (named_in cs j) o) e f))
  where
    go : (o : Option Json) → Found doc o None → option_map span_of o ≡ None
    go None g = refl
    go (Some t) g = absurd g

pub id_chars : chars (codes "id") ≡ codes "id"
unfolding chars
id_chars = refl
