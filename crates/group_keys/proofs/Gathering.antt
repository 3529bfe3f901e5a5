-- The folders of a list are gathered, one value after the other.
use Rattle.std.proofs.Common.{◌≡◌, ℕ, zero, suc, ◌<◌, IsUtf8, slice_get, List, [], ◌∷◌, ◌++◌, length, refl, sym, ◌∙◌, ap, subst, append-nil, append_assoc}
use Rattle.std.specs.Prelude.{Option, Some, None, MatchOption, codes, encode_utf8_all, option_map}
use Rattle.std.specs.Option.{option_and_then}
use Rattle.doc_text.specs.Changes.{string_text}
use Rattle.mux_members.specs.document_model.specs.Sayings.{string_at}
use Rattle.json_text.specs.Json.{Json, word, number, string, array, object}
use Rattle.json_text.specs.Named.{named_in}
use Rattle.json_nodes.specs.At.{At, Found}
use Rattle.json_nodes.specs.Doc.{Doc}
use Rattle.json_nodes.proofs.Members.{Inside, inside_more}
use Rattle.event_model.specs.Members.{listed, named_of, string_of}
use Rattle.group_words.specs.Houses.{folder_of, folders_in}
use Rattle.mux_members.specs.Finds.{Rest}
use Rattle.group_keys.specs.Uris.{AreTexts}
use Rattle.mux_members.proofs.Walks.{rest_ends, rest_first}

-- a member that is a string, by its characters and by its bytes
string_bytes : (o : Option Json) → option_and_then string_text o ≡ option_map encode_utf8_all (string_of o)
string_bytes None = refl
string_bytes (Some (string s cs)) = refl
string_bytes (Some (word s w)) = refl
string_bytes (Some (number s ds)) = refl
string_bytes (Some (array s js)) = refl
string_bytes (Some (object s ms)) = refl

pub string_so : (name : List ℕ) (o : Option Json) → string_at name o ≡ option_map encode_utf8_all (string_of (named_of name o))
string_so name None = refl
string_so name (Some j) = string_bytes (named_in name j)

-- the folder of a value
abbrev pub folder_in : Json → List (List ℕ × List ℕ)
folder_in j = folder_of (string_of (named_of (codes "uri") (Some j))) (string_of (named_of (codes "name") (Some j)))

-- in the middle of a walk over the items of a list: `done` are the folders so far
pub record Gathering (doc : Doc) (list : Option ℕ) (done : List (List ℕ × List ℕ)) (next : Option ℕ) : Type 0 where
  pub inside : Inside (length doc.nodes) next
  pub texts : (o : Option Json) → Found doc o list → AreTexts done
  pub rest : (o : Option Json) → Found doc o list → (left : List Json) × Rest doc next left × (folders_in (listed o) ≡ done ++ folders_in left)

module _ (doc : Doc) (list : Option ℕ) where
  pub gathering_starts : (next : Option ℕ) → Inside (length doc.nodes) next → ((o : Option Json) → Found doc o list → Rest doc next (listed o)) → Gathering doc list [] next
  gathering_starts next inside first = record { inside = inside; texts = λ o h. tt; rest = λ o h. (listed o, first o h, refl) }

  -- behind the next item
  pub gathering_on : (done more : List (List ℕ × List ℕ)) (here next : Option ℕ) (m : ℕ) → Gathering doc list done here → here ≡ Some m → ((t : Json) (left : List Json) → Rest doc (Some m) (t ∷ left) → Rest doc next left)
      → MatchOption next (Unit {0}) (λ i. (m < i) × (i < length doc.nodes)) → ((t : Json) → At doc m t → more ≡ done ++ folder_in t)
      → ((t : Json) → At doc m t → AreTexts done → AreTexts more) → Gathering doc list more next
  gathering_on done more here next m g e follows later one kept = record {
    inside = inside_more (length doc.nodes) m next later;
    texts = λ o h.
        let k : (left : List Json) × Rest doc here left × (folders_in (listed o) ≡ done ++ folders_in left) = g.rest o h in
        let q : (t : Json) × (left : List Json) × (k.0 ≡ t ∷ left) × At doc m t = rest_first doc m k.0 (subst (λ z. Rest doc z k.0) e k.1) in
        kept q.0 q.3 (g.texts o h);
    rest = λ o h.
        let k : (left : List Json) × Rest doc here left × (folders_in (listed o) ≡ done ++ folders_in left) = g.rest o h in
        let r : Rest doc (Some m) k.0 = subst (λ z. Rest doc z k.0) e k.1 in
        let q : (t : Json) × (left : List Json) × (k.0 ≡ t ∷ left) × At doc m t = rest_first doc m k.0 r in (
          q.1,
          follows q.0 q.1 (subst (λ z. Rest doc (Some m) z) q.2 r),
          k.2 ∙ (ap (λ js. done ++ folders_in js) q.2 ∙ (sym (append_assoc done (folder_in q.0) (folders_in q.1)) ∙ ap (λ fs. fs ++ folders_in q.1) (sym (one q.0 q.3)))),
        );
  }

  pub gathering_ends : (done : List (List ℕ × List ℕ)) (here : Option ℕ) → Gathering doc list done here → here ≡ None → (o : Option Json) → Found doc o list → done ≡ folders_in (listed o)
  gathering_ends done here g e o h =
      let k : (left : List Json) × Rest doc here left × (folders_in (listed o) ≡ done ++ folders_in left) = g.rest o h in
      sym (k.2 ∙ (ap (λ js. done ++ folders_in js) (rest_ends doc k.0 (subst (λ z. Rest doc z k.0) e k.1)) ∙ append-nil done))

-- Folders whose URIs are texts

pub texts_at : (folders : List (List ℕ × List ℕ)) (i : ℕ) (f : List ℕ × List ℕ) → AreTexts folders → slice_get folders i ≡ Some f → IsUtf8 f.0
texts_at [] i f t e = absurd cc
texts_at (x ∷ folders) zero f t e = let same : x ≡ f = cc in subst (λ (y : List ℕ × List ℕ). IsUtf8 y.0) same t.0
texts_at (x ∷ folders) (suc i) f t e = texts_at folders i f t.1 e

pub texts_more : (folders : List (List ℕ × List ℕ)) (f : List ℕ × List ℕ) → AreTexts folders → IsUtf8 f.0 → AreTexts (folders ++ f ∷ [])
texts_more [] f t u = (u, tt)
texts_more (x ∷ folders) f t u = (t.0, texts_more folders f t.1 u)
