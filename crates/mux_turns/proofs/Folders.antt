-- The daemon's `initialize`.
use Rattle.std.proofs.Common.{◌≡◌, ℕ, zero, suc, ◌+◌, ◌<◌, ◌≤◌, Bool, true, false, List, [], ◌∷◌, ◌++◌, map, length, drop, get_or, codes, refl, ap, sym, ◌∙◌, arith, append_assoc, nat_eq}
use Rattle.std.specs.Prelude.{Option, Some, None, Result, Ok, Err, IfOk, IsUtf8, option_map}
use Rattle.std.specs.Option.{option_and_then}
use Rattle.std.specs.Str.{chars}
use Rattle.json_text.specs.declared.kind.Kind.{Kind}
use Rattle.json_text.specs.declared.kind.Kind.TheVariants as kind
use Rattle.json_text.specs.declared.kind.Word.TheVariants.{Null, False, True}
use Rattle.json_text.specs.Json.{Json, word, number, string, array, object}
use Rattle.json_text.specs.Named.{named_in}
use Rattle.json_text.specs.Tree.{tree_of}
use Rattle.json_nodes.specs.At.{At, Found}
use Rattle.json_nodes.specs.Doc.{Doc, Holds}
use Rattle.json_nodes.specs.Nodes.{kind_of}
use Rattle.capability_meet.specs.Answers.{IsRead}
use Rattle.capability_meet.specs.Parts.{bracketed, comma, listed}
use Rattle.event_model.specs.Members.{named_of}
use Rattle.group_words.specs.Rows.{folder_text, folders_text, is_true, wants_folders}
use Rattle.group_facts.specs.Settled.{AreUtf8}

-- the folders
pub drop_one : {A : Type 0} (d : A) (xs : List A) (i : ℕ) → i < length xs → drop i xs ≡ get_or xs i d ∷ drop (i + 1) xs
drop_one d [] i h = absurd (omega arith)
drop_one d (x ∷ xs) zero h = refl
drop_one d (x ∷ xs) (suc i) h = let e : suc i + 1 ≡ suc (i + 1) = omega arith in rw e (drop_one d xs i (omega arith))

drop_all : {A : Type 0} (xs : List A) (i : ℕ) → length xs ≤ i → drop i xs ≡ []
drop_all [] zero h = refl
drop_all [] (suc i) h = refl
drop_all (x ∷ xs) zero h = absurd (omega arith)
drop_all (x ∷ xs) (suc i) h = drop_all xs i (omega arith)

pub utf8_at : (d : List ℕ × List ℕ) (folders : List (List ℕ × List ℕ)) (i : ℕ) → i < length folders → AreUtf8 folders → IsUtf8 (get_or folders i d).0 × IsUtf8 (get_or folders i d).1
utf8_at d [] i h u = absurd (omega arith)
utf8_at d (x ∷ xs) zero h u = u.0
utf8_at d (x ∷ xs) (suc i) h u = utf8_at d xs i (omega arith) u.1

-- what is written, and what is left to write
abbrev pub Left : List ℕ → Bool → ℕ → List (List ℕ × List ℕ) → Type 0
Left text started i folders = text ++ (listed started (map folder_text (drop i folders)) ++ 93 ∷ []) ≡ bracketed (map folder_text folders)

pub left_next : (text mid new : List ℕ) (started : Bool) (i : ℕ) (d : List ℕ × List ℕ) (folders : List (List ℕ × List ℕ)) → i < length folders → mid ≡ text ++ comma started → new ≡ mid ++ folder_text (get_or folders i d) → Left text started i folders → Left new true (i + 1) folders
left_next text mid new started i d folders h e f left =
    let x = folder_text (get_or folders i d) in
    let rest = listed true (map folder_text (drop (i + 1) folders)) in
    ap (λ ws. ws ++ (rest ++ 93 ∷ [])) (f ∙ ap (λ ws. ws ++ x) e) ∙ (shift text (comma started) x rest ∙ (ap (λ fs. text ++ (listed started (map folder_text fs) ++ 93 ∷ [])) (sym (drop_one d folders i h)) ∙ left))
  where
    shift : (a b c e : List ℕ) → ((a ++ b) ++ c) ++ (e ++ 93 ∷ []) ≡ a ++ ((b ++ (c ++ e)) ++ 93 ∷ [])
    shift a b c e = simp append_assoc

pub left_none : (text new : List ℕ) (started empty : Bool) (i : ℕ) (folders : List (List ℕ × List ℕ)) → length folders ≤ i → empty ≡ nat_eq (length folders) 0 → empty ≡ false → new ≡ text ++ 93 ∷ [] → Left text started i folders → new ≡ folders_text folders
left_none text new started empty i [] h is some e left = absurd (clash (sym is ∙ some))
  where
    clash : true ≡ false → ⊥
    clash q = cc
left_none text new started empty i (x ∷ xs) h is some e left = e ∙ (ap (λ fs. text ++ (listed started (map folder_text fs) ++ 93 ∷ [])) (sym (drop_all (x ∷ xs) i h)) ∙ left)

-- whether folders are declared
pub true_kind : (o : Option Json) → option_map kind_of o ≡ Some kind.True → is_true o ≡ true
true_kind (Some (word s True)) h = refl
true_kind (Some (word s False)) h = absurd (cc)
true_kind (Some (word s Null)) h = absurd (cc)
true_kind (Some (number s ds)) h = absurd (cc)
true_kind (Some (string s cs)) h = absurd (cc)
true_kind (Some (array s js)) h = absurd (cc)
true_kind (Some (object s ms)) h = absurd (cc)
true_kind None h = absurd (cc)

pub other_kind : (o : Option Json) → (option_map kind_of o ≡ Some kind.True → ⊥) → is_true o ≡ false
other_kind (Some (word s True)) h = absurd (h refl)
other_kind (Some (word s False)) h = refl
other_kind (Some (word s Null)) h = refl
other_kind (Some (number s ds)) h = refl
other_kind (Some (string s cs)) h = refl
other_kind (Some (array s js)) h = refl
other_kind (Some (object s ms)) h = refl
other_kind None h = refl

pub named_so : (name : List ℕ) (o : Option Json) → chars name ≡ name → option_and_then (named_in (chars name)) o ≡ named_of name o
named_so name None e = refl
named_so name (Some j) e = ap (λ cs. named_in cs j) e

workspace_chars : chars (codes "workspace") ≡ codes "workspace"
unfolding chars
workspace_chars = refl

folders_chars : chars (codes "workspaceFolders") ≡ codes "workspaceFolders"
unfolding chars
folders_chars = refl

pub wants_so : (doc : Doc) (declared : List ℕ) (root : ℕ) (a b : Option ℕ) (k : Option Kind) (wants : Bool) → IsRead doc declared → ((j : Json) → Holds doc j → At doc root j)
    → ((o : Option Json) → Found doc o (Some root) → Found doc (option_and_then (named_in (chars (codes "workspace"))) o) a) → ((o : Option Json) → Found doc o a → Found doc (option_and_then (named_in (chars (codes "workspaceFolders"))) o) b)
    → ((o : Option Json) → Found doc o b → k ≡ option_map kind_of o) → ((o : Option Json) → k ≡ option_map kind_of o → wants ≡ is_true o) → wants ≡ wants_folders declared
wants_so doc declared root a b k wants read at first second kinds is =
    let f = first (Some read.tree) (at read.tree read.holds) in
    let g = second (option_and_then (named_in (chars (codes "workspace"))) (Some read.tree)) f in
    let o = option_and_then (named_in (chars (codes "workspaceFolders"))) (option_and_then (named_in (chars (codes "workspace"))) (Some read.tree)) in
    is o (kinds o g) ∙ ap is_true (named_so (codes "workspaceFolders") _ folders_chars ∙ (ap (named_of (codes "workspaceFolders")) (named_so (codes "workspace") (Some read.tree) workspace_chars) ∙ ap (λ x. named_of (codes "workspaceFolders") (named_of (codes "workspace") x)) (sym read.is)))

pub wants_none : (declared : List ℕ) → tree_of declared ≡ None → false ≡ wants_folders declared
wants_none declared h = ap (λ o. is_true (named_of (codes "workspaceFolders") (named_of (codes "workspace") o))) (sym h)

pub if_ok : {A E : Type 0} (r : Result A E) (a b : A) → a ≡ b → IfOk r (λ x. x ≡ a) → IfOk r (λ x. x ≡ b)
if_ok (Ok x) a b e h = h ∙ e
if_ok (Err x) a b e h = tt

-- the answer with the folders of a group, where there is one
pub answer_none : {A B : Type 0} (f : A → B) (o : Option A) → None ≡ option_map f o → o ≡ None
answer_none f None e = refl
answer_none f (Some a) e = absurd (cc)

pub answer_some : {A B : Type 0} (f : A → B) (o : Option A) (b : B) → Some b ≡ option_map f o → (a : A) × (o ≡ Some a) × (b ≡ f a)
answer_some f (Some a) b e = (a, refl, cc)
answer_some f None b e = absurd (cc)
