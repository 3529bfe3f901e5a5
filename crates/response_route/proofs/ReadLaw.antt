-- A result reads versions just where it has a document with one.
use Rattle.std.proofs.Common.{◌≡◌, Bool, true, false, ◌||◌, List, [], ◌∷◌, ◌++◌, flat_map, codes, Option, Some, None, if◌then◌else◌, refl, sym, ◌∙◌, ap₂}
use Rattle.std.specs.List.{list_any}
use Rattle.json_text.specs.Json.{Json, word, number, string, array, object}
use Rattle.json_text.specs.Named.{items_list, named, named_in}
use Rattle.event_model.specs.Members.{has_version, has_versions, is_versioned_edit, listed, named_of, reads_versions}
use Rattle.response_route.specs.Edits.{versioned, change_documents, workspace_documents, action_documents, in_front, are_some, documents_of}

some_both : (xs ys : List Json) → are_some (xs ++ ys) ≡ (are_some xs || are_some ys)
some_both [] ys = refl
some_both (x ∷ xs) ys = refl

turned : (a b : Bool) → (a || b) ≡ (b || a)
turned true true = refl
turned true false = refl
turned false true = refl
turned false false = refl

any_some : (p : Json → Bool) (f : Json → List Json) → ((j : Json) → p j ≡ are_some (f j)) → (js : List Json) → list_any p js ≡ are_some (flat_map f js)
any_some p f h [] = refl
any_some p f h (j ∷ js) = ap₂ (λ a b. a || b) (h j) (any_some p f h js) ∙ sym (some_both (f j) (flat_map f js))

version_some : (o : Option Json) → has_version o ≡ are_some (versioned o)
version_some None = refl
version_some (Some j) = go (has_version (Some j))
  where
    go : (b : Bool) → b ≡ are_some (if b then j ∷ [] else [])
    go true = refl
    go false = refl

edit_some : (o : Option Json) → has_versions o ≡ are_some (workspace_documents o)
edit_some o = any_some is_versioned_edit change_documents (λ j. version_some (named_in (codes "textDocument") j)) (listed (named_of (codes "documentChanges") o))

pub reads_some : (j : Json) → reads_versions j ≡ are_some (documents_of j)
reads_some (object s ms) = go (in_front (named (codes "documentChanges") ms) (named (codes "edit") ms))
  where
    own : List Json
    own = workspace_documents (Some (object s ms))

    action : List Json
    action = action_documents (object s ms)

    both : (has_versions (Some (object s ms)) || has_versions (named (codes "edit") ms)) ≡ (are_some own || are_some action)
    both = ap₂ (λ a b. a || b) (edit_some (Some (object s ms))) (edit_some (named (codes "edit") ms))

    go : (b : Bool) → (has_versions (Some (object s ms)) || has_versions (named (codes "edit") ms)) ≡ are_some (if b then own ++ action else action ++ own)
    go true = both ∙ sym (some_both own action)
    go false = both ∙ turned (are_some own) (are_some action) ∙ sym (some_both action own)
reads_some (array s js) = any_some (λ j. has_versions (named_in (codes "edit") j)) action_documents (λ j. edit_some (named_in (codes "edit") j)) (items_list js)
reads_some (word s w) = refl
reads_some (number s ds) = refl
reads_some (string s cs) = refl
