-- What comes in place of the versions of an answer, document by document.
use Rattle.std.proofs.Common.{◌≡◌, ℕ, Bool, true, false, ◌&&◌, List, [], ◌∷◌, ◌++◌, codes, decimal, bytes_eq, flat_map, is_some, if◌then◌else◌, encode_utf8_all, Option, Some, None, option_map, inl, inr, refl, sym, ◌∙◌, ap, ap₂, subst}
use Rattle.std.specs.List.{AllByRecursion}
use Rattle.std.specs.Option.{option_and_then}
use Rattle.std.proofs.lemmas.Bool.{and_parts}
use Rattle.std.proofs.lemmas.Slice.Eq.{bytes_eq-Decides}
use Rattle.json_text.specs.Json.{Json, word, number, string, array, object}
use Rattle.json_text.specs.Named.{items_list, named_in}
use Rattle.json_text.specs.Replace.{Edit}
use Rattle.json_text.specs.Tree.{tree_of}
use Rattle.json_text.proofs.Put.{same_name}
use Rattle.json_nodes.specs.Puts.{put_edits}
use Rattle.rpc_message.specs.Message.{is_integer_value, is_string_value, message_of}
use Rattle.rpc_message.specs.Changed.{changed_text}
use Rattle.rpc_message.specs.Parsed.{params_in, result_in}
use Rattle.document_model.specs.doc_text.specs.Changes.{string_text}
use Rattle.document_model.specs.Helds.{HeldText}
use Rattle.document_model.specs.Notices.{integer_text, new_version}
use Rattle.document_model.specs.Opens.{Open}
use Rattle.document_model.specs.Rows.{Agrees, agrees}
use Rattle.document_model.specs.Texts.{found}
use Rattle.document_model.proofs.ScalarTrees.{either_way}
use Rattle.event_model.specs.Event.{Event}
use Rattle.event_model.specs.Members.{has_version, listed, named_of}
use Rattle.event_model.specs.Settings.{Settings}
use Rattle.group_rows.specs.response_route.specs.Answers.{answer_text, answer_with}
use Rattle.group_rows.specs.response_route.specs.Asked.{asked_text, documents_asked, edit_documents}
use Rattle.group_rows.specs.response_route.specs.Edits.{Renaming, action_documents, all_edits, change_documents, document_edits, documents_of, in_front, joined, object_documents, renamed, versioned, workspace_documents}
use Rattle.group_rows.specs.response_route.specs.Results.{documents_in, value_documents}
use Rattle.group_rows.specs.response_route.specs.Versions.{is_held, version_now, version_then}
use Rattle.mux_model.specs.Documents.{held_at}
use Rattle.mux_facts.proofs.Lists.{all_join}
use Rattle.group_rows.specs.Answers.{agreed_version, held_version, shared_texts, stamp_at, stamped}
use Rattle.group_facts.specs.OwnVersions.{AreOwn, CurrentVersion, HasOther, IsAgreed, IsOwn, IsOwnAnswer, IsOwnEdit, IsUnder, OwnVersion, version_edits, current, current_now, former, modified, neither, outdated, passed, unopened, unopened_now}

-- V1 of one document

module _ (settings : Settings) (s e : ℕ) (u digits : List ℕ) where
  module _ (events : List Event) where
    -- by what is open at e, and what s has
    under_by : (o : Open) → found e u (shared_texts settings s events) ≡ Some o → (held : Option HeldText) → held_at s u events ≡ held → is_held digits (held_version o held) ≡ true → (k : IsUnder settings s e events u digits) × (k.own ≡ o)
    under_by o opened (Some h) has is = (record { own = o; held = h; opened = opened; has = has; version = (bytes_eq-Decides digits (decimal h.version)).0 is }, refl)
    under_by o opened None has is = absurd (cc)

    under_held : (o : Open) → IsUnder settings s e events u digits → is_held digits (held_version o (held_at s u events)) ≡ true
    under_held o k = ap (λ h. is_held digits (held_version o h)) k.has ∙ ap (λ z. bytes_eq z (decimal (k.held).version)) k.version ∙ same_name (decimal (k.held).version)

    agreed_by : (o : Open) → found e u (shared_texts settings s events) ≡ Some o → (held : Option HeldText) → held_at s u events ≡ held → is_held digits (agreed_version o held) ≡ true → (k : IsAgreed settings s e events u digits) × ((k.under).own ≡ o)
    agreed_by o opened (Some h) has is = go (agrees o h) refl is
      where
        go : (b : Bool) → agrees o h ≡ b → is_held digits (if b then Some h.version else None) ≡ true → (k : IsAgreed settings s e events u digits) × ((k.under).own ≡ o)
        go true same is =
            let both = and_parts (bytes_eq h.language o.language) (bytes_eq h.text o.text) same in (
              record {
                under = record { own = o; held = h; opened = opened; has = has; version = (bytes_eq-Decides digits (decimal h.version)).0 is };
                agrees = ((bytes_eq-Decides h.language o.language).0 both.0, (bytes_eq-Decides h.text o.text).0 both.1);
              },
              refl,
            )
        go false other is = absurd (cc)
    agreed_by o opened None has is = absurd (cc)

    agreed_is : (o : Open) (h : HeldText) → Agrees o h → agrees o h ≡ true
    agreed_is o h k = ap₂ (λ a b. a && b) (ap (λ z. bytes_eq z o.language) k.0 ∙ same_name o.language) (ap (λ z. bytes_eq z o.text) k.1 ∙ same_name o.text)

    agreed_held : (o : Open) → found e u (shared_texts settings s events) ≡ Some o → IsAgreed settings s e events u digits → is_held digits (agreed_version o (held_at s u events)) ≡ true
    agreed_held o opened k =
        let same : (k.under).own ≡ o = the_open (sym (k.under).opened ∙ opened) in
        ap₂ (λ p h. is_held digits (agreed_version p h)) (sym same) (k.under).has
        ∙ ap (λ b. is_held digits (if b then Some ((k.under).held).version else None)) (agreed_is (k.under).own (k.under).held k.agrees)
        ∙ ap (λ z. bytes_eq z (decimal ((k.under).held).version)) (k.under).version ∙ same_name (decimal ((k.under).held).version)
      where
        the_open : {a b : Open} → ◌≡◌ {A = Option Open} (Some a) (Some b) → a ≡ b
        the_open h = cc

  module _ (moment events : List Event) where
    abbrev Own : Option (List ℕ) → Type 0
    Own text = OwnVersion settings s e moment events u digits text

    -- where the start doesn't agree now
    earlier : is_some (found e u (shared_texts settings s events)) ≡ true → (IsAgreed settings s e events u digits → ⊥) → Own (version_then digits (stamp_at held_version settings s e moment u))
    earlier there differs = go (found e u (shared_texts settings s moment)) refl
      where
        then_there : (o : Open) → found e u (shared_texts settings s moment) ≡ Some o → (b : Bool) → is_held digits (held_version o (held_at s u moment)) ≡ b → Own (if b then Some o.version else None)
        then_there o opened true is = let k = under_by moment o opened (held_at s u moment) refl is in former there differs k.0 (ap (λ (z : Open). Some z.version) (sym k.1))
        then_there o opened false is = neither there differs (λ k. let clash : true ≡ false = sym (under_held moment o k) ∙ is in cc) refl

        go : (p : Option Open) → found e u (shared_texts settings s moment) ≡ p → Own (version_then digits (option_map (λ o. stamped (held_version o (held_at s u moment)) o) p))
        go (Some o) opened = then_there o opened (is_held digits (held_version o (held_at s u moment))) refl
        go None opened = neither there differs (λ k. let clash : ◌≡◌ {A = Option Open} (Some k.own) None = sym k.opened ∙ opened in cc) refl

    pub own_now : Own (version_now digits (stamp_at agreed_version settings s e events u) (stamp_at held_version settings s e moment u))
    own_now = go (found e u (shared_texts settings s events)) refl
      where
        now_there : (o : Open) → found e u (shared_texts settings s events) ≡ Some o → (b : Bool) → is_held digits (agreed_version o (held_at s u events)) ≡ b → Own (if b then Some o.version else version_then digits (stamp_at held_version settings s e moment u))
        now_there o opened true is = let k = agreed_by events o opened (held_at s u events) refl is in current k.0 (ap (λ (z : Open). Some z.version) (sym k.1))
        now_there o opened false is = earlier (ap is_some opened) (λ k. let clash : true ≡ false = sym (agreed_held events o opened k) ∙ is in cc)

        go : (p : Option Open) → found e u (shared_texts settings s events) ≡ p → Own (version_now digits (option_map (λ o. stamped (agreed_version o (held_at s u events)) o) p) (stamp_at held_version settings s e moment u))
        go (Some o) opened = now_there o opened (is_held digits (agreed_version o (held_at s u events))) refl
        go None opened = unopened opened refl

-- V3 of one document

module _ (settings : Settings) (s e : ℕ) (u digits : List ℕ) (events : List Event) where
  abbrev Now : Option (List ℕ) → Type 0
  Now text = CurrentVersion settings s e events u digits text

  pub current_means : Now (version_now digits (stamp_at agreed_version settings s e events u) None)
  current_means = go (found e u (shared_texts settings s events)) refl
    where
      there : (o : Open) → found e u (shared_texts settings s events) ≡ Some o → (b : Bool) → is_held digits (agreed_version o (held_at s u events)) ≡ b → Now (if b then Some o.version else None)
      there o opened true is = let k = agreed_by settings s e u digits events o opened (held_at s u events) refl is in current_now k.0 (ap (λ (z : Open). Some z.version) (sym k.1))
      there o opened false is = outdated (ap is_some opened) (λ k. let clash : true ≡ false = sym (agreed_held settings s e u digits events o opened k) ∙ is in cc) refl

      go : (p : Option Open) → found e u (shared_texts settings s events) ≡ p → Now (version_now digits (option_map (λ o. stamped (agreed_version o (held_at s u events)) o) p) None)
      go (Some o) opened = there o opened (is_held digits (agreed_version o (held_at s u events))) refl
      go None opened = unopened_now opened refl

-- The documents of a result have a version and a uri

abbrev Versioned : Json → Type 0
Versioned j = has_version (Some j) ≡ true

versioned_all : (o : Option Json) → AllByRecursion Versioned (versioned o)
versioned_all None = tt
versioned_all (Some j) = go (has_version (Some j)) refl
  where
    go : (b : Bool) → has_version (Some j) ≡ b → AllByRecursion Versioned (if b then j ∷ [] else [])
    go true is = (is, tt)
    go false is = tt

flat_all : (f : Json → List Json) → ((j : Json) → AllByRecursion Versioned (f j)) → (js : List Json) → AllByRecursion Versioned (flat_map f js)
flat_all f h [] = tt
flat_all f h (j ∷ js) = all_join Versioned (f j) (flat_map f js) (h j) (flat_all f h js)

workspace_all : (edit : Option Json) → AllByRecursion Versioned (workspace_documents edit)
workspace_all edit = flat_all change_documents (λ change. versioned_all (named_in (codes "textDocument") change)) (listed (named_of (codes "documentChanges") edit))

object_all : (j : Json) → AllByRecursion Versioned (object_documents j)
object_all j = either_way (AllByRecursion Versioned) (in_front (named_in (codes "documentChanges") j) (named_in (codes "edit") j)) (workspace_documents (Some j) ++ action_documents j) (action_documents j ++ workspace_documents (Some j))
    (all_join Versioned (workspace_documents (Some j)) (action_documents j) (workspace_all (Some j)) (workspace_all (named_in (codes "edit") j)))
    (all_join Versioned (action_documents j) (workspace_documents (Some j)) (workspace_all (named_in (codes "edit") j)) (workspace_all (Some j)))

documents_all : (j : Json) → AllByRecursion Versioned (documents_of j)
documents_all (object s ms) = object_all (object s ms)
documents_all (array s js) = flat_all action_documents (λ j. workspace_all (named_in (codes "edit") j)) (items_list js)
documents_all (word s w) = tt
documents_all (number s ds) = tt
documents_all (string s cs) = tt

value_all : (o : Option Json) → AllByRecursion Versioned (value_documents o)
value_all (Some j) = documents_all j
value_all None = tt

string_there : (o : Option Json) → is_string_value o ≡ true → (w : List ℕ) × (option_and_then string_text o ≡ Some w)
string_there (Some (string s cs)) h = (encode_utf8_all cs, refl)
string_there (Some (word s w)) h = absurd (cc)
string_there (Some (number s ds)) h = absurd (cc)
string_there (Some (array s js)) h = absurd (cc)
string_there (Some (object s ms)) h = absurd (cc)
string_there None h = absurd (cc)

integer_there : (o : Option Json) → is_integer_value o ≡ true → (w : List ℕ) × (option_and_then integer_text o ≡ Some w)
integer_there (Some (number s ds)) h = (ds, ap (λ b. if b then Some ds else None) h)
integer_there (Some (string s cs)) h = absurd (cc)
integer_there (Some (word s w)) h = absurd (cc)
integer_there (Some (array s js)) h = absurd (cc)
integer_there (Some (object s ms)) h = absurd (cc)
integer_there None h = absurd (cc)

-- All documents of an answer, or of an edit

module _ (V : List ℕ → List ℕ → Option (List ℕ) → Type 0) (r : Renaming) (means : (u digits : List ℕ) → V u digits (r u digits)) where
  -- one document: its edits, or none where it is refused
  data OneOwn (j : Json) (o : Option (List Edit)) : Type 0 where
    one_put : (text : List ℕ) → IsOwn V j (Some text) → o ≡ Some (put_edits (new_version text) j) → OneOwn j o
    one_other : IsOwn V j None → o ≡ None → OneOwn j o

  one_own : (j : Json) → Versioned j → OneOwn j (document_edits r j)
  one_own j has =
      let parts = and_parts (is_string_value (named_in (codes "uri") j)) (is_integer_value (named_in (codes "version") j)) has in
      let u : (w : List ℕ) × (option_and_then string_text (named_in (codes "uri") j) ≡ Some w) = string_there (named_in (codes "uri") j) parts.0 in
      let v : (w : List ℕ) × (option_and_then integer_text (named_in (codes "version") j) ≡ Some w) = integer_there (named_in (codes "version") j) parts.1 in
      go u.0 v.0 u.1 v.1 (r u.0 v.0) refl (ap₂ (λ a b. renamed r j a b) u.1 v.1)
    where
      go : (u digits : List ℕ) → option_and_then string_text (named_in (codes "uri") j) ≡ Some u → option_and_then integer_text (named_in (codes "version") j) ≡ Some digits → (text : Option (List ℕ)) → r u digits ≡ text
          → document_edits r j ≡ option_map (λ text. put_edits (new_version text) j) (r u digits) → OneOwn j (document_edits r j)
      go u digits named given (Some text) is put = one_put text (record { uri = u; digits = digits; named = named; given = given; own = subst (V u digits) is (means u digits) }) (put ∙ ap (λ o. option_map (λ text. put_edits (new_version text) j) o) is)
      go u digits named given None is put = one_other (record { uri = u; digits = digits; named = named; given = given; own = subst (V u digits) is (means u digits) }) (put ∙ ap (λ o. option_map (λ text. put_edits (new_version text) j) o) is)

  data AllOwn (js : List Json) (o : Option (List Edit)) : Type 0 where
    all_put : (texts : List (List ℕ)) → AreOwn V js texts → o ≡ Some (version_edits js texts) → AllOwn js o
    some_other : HasOther V js → o ≡ None → AllOwn js o

  both_own : (j : Json) (js : List Json) (o p : Option (List Edit)) → OneOwn j o → AllOwn js p → AllOwn (j ∷ js) (joined o p)
  both_own j js o p (one_put text own is) (all_put texts owns are) = all_put (text ∷ texts) (own, owns) (ap₂ joined is are)
  both_own j js o p (one_put text own is) (some_other other none) = some_other (inr other) (ap₂ joined is none)
  both_own j js o p (one_other own is) rest = some_other (inl own) (ap (λ z. joined z p) is)

  all_own : (js : List Json) → AllByRecursion Versioned js → AllOwn js (all_edits r js)
  all_own [] has = all_put [] tt refl
  all_own (j ∷ js) has = both_own j js (document_edits r j) (all_edits r js) (one_own j has.0) (all_own js has.1)

module _ (settings : Settings) (s e : ℕ) (moment events : List Event) (r : Renaming) (means : (u digits : List ℕ) → OwnVersion settings s e moment events u digits (r u digits)) where
  abbrev V : List ℕ → List ℕ → Option (List ℕ) → Type 0
  V u digits text = OwnVersion settings s e moment events u digits text

  pub own_answer : (answer id : List ℕ) → IsOwnAnswer settings s e moment events answer id (answer_text r answer id)
  own_answer answer id = go (all_own V r means (documents_in answer) (value_all (option_and_then (result_in (message_of answer)) (tree_of answer))))
    where
      go : AllOwn V r means (documents_in answer) (all_edits r (documents_in answer)) → IsOwnAnswer settings s e moment events answer id (answer_text r answer id)
      go (all_put texts owns are) = passed texts owns (ap (λ o. answer_with o answer id) are)
      go (some_other other none) = modified other (ap (λ o. answer_with o answer id) none)

-- an edit, where it isn't refused
module _ (settings : Settings) (s e : ℕ) (events : List Event) where
  abbrev W : List ℕ → List ℕ → Option (List ℕ) → Type 0
  W u digits text = CurrentVersion settings s e events u digits text

  abbrev new : Renaming
  new u digits = version_now digits (stamp_at agreed_version settings s e events u) None

  edit_all : (o : Option Json) → AllByRecursion Versioned (edit_documents o)
  edit_all (Some j) = workspace_all (named_in (codes "edit") j)
  edit_all None = tt

  pub own_edit : (asked digits text : List ℕ) → asked_text new asked digits ≡ Some text → IsOwnEdit settings events s asked e text
  own_edit asked digits text is = go (all_own W new (λ u digits. current_means settings s e u digits events) (documents_asked asked) (edit_all (option_and_then (params_in (message_of asked)) (tree_of asked))))
    where
      go : AllOwn W new (λ u digits. current_means settings s e u digits events) (documents_asked asked) (all_edits new (documents_asked asked)) → IsOwnEdit settings events s asked e text
      go (all_put texts owns are) = let same : Some (changed_text asked digits (version_edits (documents_asked asked) texts)) ≡ Some text = sym (ap (option_map (λ es. changed_text asked digits es)) are) ∙ is in
          record { number = digits; texts = texts; own = owns; bytes = cc }
      go (some_other other none) = let clash : ◌≡◌ {A = Option (List ℕ)} None (Some text) = sym (ap (option_map (λ es. changed_text asked digits es)) none) ∙ is in absurd (cc)
