-- What a didChange says, by its tree: without places it says the same.
use Rattle.std.proofs.Common.{◌≡◌, ℕ, Bool, true, false, ◌&&◌, List, ◌∷◌, Option, Some, None, option_map, bytes_eq, codes, if◌then◌else◌, not, is_some, refl, sym, ◌∙◌, ap, ap₂, subst}
use Rattle.std.specs.Option.{option_and_then}
use Rattle.std.proofs.lemmas.Slice.Eq.{bytes_eq-Decides}
use Rattle.json_text.specs.declared.span.Span.{Span}
use Rattle.json_text.specs.declared.kind.Word.TheVariants.{Null, False, True}
use Rattle.json_text.specs.Bare.{bare, bare_items}
use Rattle.json_text.specs.Json.{Json, word, number, string, array, object, Items, no_items, item, Members}
use Rattle.json_text.specs.Named.{named, named_in, items_list}
use Rattle.json_text.specs.Tree.{tree_of}
use Rattle.json_text.proofs.Put.{named_bare}
use Rattle.doc_text.specs.position_codec.specs.declared.Encoding.{Encoding}
use Rattle.doc_text.specs.declared.change.Extent.TheVariants.{Part}
use Rattle.doc_text.specs.Changes.{both, coordinate, position_of, position_in, range_of, extent_in, extent_of, string_text, change_of, all_changes, changes_of, changed_all, text_behind}
use Rattle.rpc_message.specs.Message.{Id, Message, not_json, not_message, request, notification, result, error, no_name_twice, is_two, is_null, are_params, given, is_error, result_tree, id_of, request_if, notification_if, called, response_id, error_if, outcome, response_with, answered, by_method, message_in, message_of}
use Rattle.document_model.specs.Notices.{did_change, did_change_of, integer_text, uri_in, version_in, changes_in}
use Rattle.document_model.specs.Sayings.{changes, nothing, member_of, string_at, integer_at, opening, changing, closing, opening_by, changing_by, closing_by, saying_by, saying_of}

string_bare : (j : Json) → string_text (bare j) ≡ string_text j
string_bare (word s w) = refl
string_bare (number s ds) = refl
string_bare (string s cs) = refl
string_bare (array s js) = refl
string_bare (object s ms) = refl

integer_bare : (j : Json) → integer_text (bare j) ≡ integer_text j
integer_bare (word s w) = refl
integer_bare (number s ds) = refl
integer_bare (string s cs) = refl
integer_bare (array s js) = refl
integer_bare (object s ms) = refl

in_bare : (name : List ℕ) (j : Json) → named_in name (bare j) ≡ option_map bare (named_in name j)
in_bare name (word s w) = refl
in_bare name (number s ds) = refl
in_bare name (string s cs) = refl
in_bare name (array s js) = refl
in_bare name (object s ms) = named_bare name ms

-- what a value gives without places, a value that may be there gives so too
then_bare : {A : Type 0} (f : Json → Option A) → ((j : Json) → f (bare j) ≡ f j) → (o : Option Json) → option_and_then f (option_map bare o) ≡ option_and_then f o
then_bare f h (Some j) = h j
then_bare f h None = refl

member_bare : (name : List ℕ) (o : Option Json) → member_of name (option_map bare o) ≡ option_map bare (member_of name o)
member_bare name (Some j) = in_bare name j
member_bare name None = refl

-- a text of a member
string_in_bare : (name : List ℕ) (j : Json) → option_and_then string_text (named_in name (bare j)) ≡ option_and_then string_text (named_in name j)
string_in_bare name j = ap (λ o. option_and_then string_text o) (in_bare name j) ∙ then_bare string_text string_bare (named_in name j)

-- positions, ranges and changes

coordinate_bare : (o : Option Json) → coordinate (option_map bare o) ≡ coordinate o
coordinate_bare None = refl
coordinate_bare (Some (word s w)) = refl
coordinate_bare (Some (number s ds)) = refl
coordinate_bare (Some (string s cs)) = refl
coordinate_bare (Some (array s js)) = refl
coordinate_bare (Some (object s ms)) = refl

coordinate_in : (name : List ℕ) (t : Json) → coordinate (named_in name (bare t)) ≡ coordinate (named_in name t)
coordinate_in name t = ap coordinate (in_bare name t) ∙ coordinate_bare (named_in name t)

position_bare : (t : Json) → position_of (bare t) ≡ position_of t
position_bare t = ap₂ (λ a b. both (λ l c. record { line = l; character = c }) a b) (coordinate_in (codes "line") t) (coordinate_in (codes "character") t)

place_bare : (name : List ℕ) (t : Json) → position_in (named_in name (bare t)) ≡ position_in (named_in name t)
place_bare name t = ap (λ o. position_in o) (in_bare name t) ∙ then_bare position_of position_bare (named_in name t)

range_bare : (t : Json) → range_of (bare t) ≡ range_of t
range_bare t = ap₂ (λ a b. both (λ s e. record { start = s; end = e }) a b) (place_bare (codes "start") t) (place_bare (codes "end") t)

extent_in_bare : (o : Option Json) → extent_in (option_map bare o) ≡ extent_in o
extent_in_bare None = refl
extent_in_bare (Some t) = ap (λ r. option_map Part r) (range_bare t)

extent_bare : (t : Json) → extent_of (bare t) ≡ extent_of t
extent_bare t = ap (λ o. extent_in o) (in_bare (codes "range") t) ∙ extent_in_bare (named_in (codes "range") t)

change_bare : (t : Json) → change_of (bare t) ≡ change_of t
change_bare t = ap₂ (λ a b. both (λ p x. record { extent = p; text = x }) a b) (extent_bare t) (string_in_bare (codes "text") t)

all_bare : (js : Items) → all_changes (items_list (bare_items js)) ≡ all_changes (items_list js)
all_bare no_items = refl
all_bare (item j js) = ap₂ (λ a b. both (λ c cs. c ∷ cs) a b) (change_bare j) (all_bare js)

changes_bare : (t : Json) → changes_of (bare t) ≡ changes_of t
changes_bare (word s w) = refl
changes_bare (number s ds) = refl
changes_bare (string s cs) = refl
changes_bare (array s js) = all_bare js
changes_bare (object s ms) = refl

-- trees without their places say the same changes
pub text_behind_bare : (code : Encoding) (t : Json) (x : List ℕ) → text_behind code (bare t) x ≡ text_behind code t x
text_behind_bare code t x = ap (λ o. option_map (λ cs. changed_all code cs x) o) (changes_bare t)

-- a didChange, by the tree of its body

string_given : (name : List ℕ) (o : Option Json) → string_at name (option_map bare o) ≡ string_at name o
string_given name o = ap (λ z. option_and_then string_text z) (member_bare name o) ∙ then_bare string_text string_bare (member_of name o)

integer_given : (name : List ℕ) (o : Option Json) → integer_at name (option_map bare o) ≡ integer_at name o
integer_given name o = ap (λ z. option_and_then integer_text z) (member_bare name o) ∙ then_bare integer_text integer_bare (member_of name o)

member_given : (name : List ℕ) (o : Option Json) → member_of name (given o) ≡ option_map bare (member_of name o)
member_given name None = refl
member_given name (Some (word s Null)) = refl
member_given name (Some (word s False)) = refl
member_given name (Some (word s True)) = refl
member_given name (Some (number s ds)) = refl
member_given name (Some (string s cs)) = refl
member_given name (Some (array s js)) = refl
member_given name (Some (object s ms)) = named_bare name ms

-- what params say of a change is what the tree around them says
pub notice_saying : (s : Span) (ms : Members) → saying_by (codes "textDocument/didChange") (given (named (codes "params") ms))
    ≡ changing (uri_in (object s ms)) (version_in (object s ms)) (option_map bare (changes_in (object s ms)))
notice_saying s ms = go (named (codes "params") ms)
  where
    go : (p : Option Json) → changing_by (member_of (codes "textDocument") (given p)) (member_of (codes "contentChanges") (given p))
        ≡ changing (string_at (codes "uri") (member_of (codes "textDocument") p)) (integer_at (codes "version") (member_of (codes "textDocument") p)) (option_map bare (member_of (codes "contentChanges") p))
    go p = ap₂ (λ d c. changing_by d c) (member_given (codes "textDocument") p) (member_given (codes "contentChanges") p)
        ∙ ap₂ (λ a b. changing a b (option_map bare (member_of (codes "contentChanges") p))) (string_given (codes "uri") (member_of (codes "textDocument") p)) (integer_given (codes "version") (member_of (codes "textDocument") p))

module _ (method : List ℕ) (params : Option Json) where
  no_request : (b : Bool) (a : Option Id) (n : List ℕ) (g : Option Json) → request_if b a n g ≡ notification method params → ⊥
  no_request true (Some x) n g e = cc
  no_request true None n g e = cc
  no_request false a n g e = cc

  no_error : (b : Bool) (x : Option Id) (f : Json) → error_if b x f ≡ notification method params → ⊥
  no_error true x f e = cc
  no_error false x f e = cc

  no_outcome : (x : Option Id) (f v : Option Json) → outcome x f v ≡ notification method params → ⊥
  no_outcome x None v e = cc
  no_outcome x (Some f) v e = go (is_null f) (is_error f && not (is_some (given v))) e
    where
      go : (a b : Bool) → (if a then result x (result_tree v) else error_if b x f) ≡ notification method params → ⊥
      go true b e = cc
      go false b e = no_error b x f e

  no_answer : (t f v : Option Json) → answered t f v ≡ notification method params → ⊥
  no_answer None f v e = cc
  no_answer (Some t) f v e = go (response_id t) e
    where
      go : (x : Option (Option Id)) → response_with x f v ≡ notification method params → ⊥
      go (Some x) e = no_outcome x f v e
      go None e = cc

  -- a body that is a notification is an object with a method and no id
  pub record Notice (body : List ℕ) : Type 0 where
    pub span : Span
    pub members : Members
    pub place : Span
    pub tree : tree_of body ≡ Some (object span members)
    pub test : (no_name_twice members && is_two (named (codes "jsonrpc") members)) ≡ true
    pub named_method : named (codes "method") members ≡ Some (string place method)
    pub no_id : named (codes "id") members ≡ None
    pub fit : are_params (named (codes "params") members) ≡ true
    pub is_given : given (named (codes "params") members) ≡ params

  pub notice : (body : List ℕ) → message_of body ≡ notification method params → Notice body
  unfolding message_of
  notice body h = go (tree_of body) refl h
    where
      fits : (s : Span) (ms : Members) (p : Span) (n : List ℕ) → tree_of body ≡ Some (object s ms) → (no_name_twice ms && is_two (named (codes "jsonrpc") ms)) ≡ true
          → named (codes "method") ms ≡ Some (string p n) → named (codes "id") ms ≡ None → (b : Bool) → are_params (named (codes "params") ms) ≡ b
          → notification_if b n (given (named (codes "params") ms)) ≡ notification method params → Notice body
      fits s ms p n e t m i true f h = let same : n ≡ method = cc in
          record { span = s; members = ms; place = p; tree = e; test = t; named_method = m ∙ ap (λ z. Some (string p z)) same; no_id = i; fit = f; is_given = cc }
      fits s ms p n e t m i false f h = absurd (cc)

      calls : (s : Span) (ms : Members) (p : Span) (n : List ℕ) → tree_of body ≡ Some (object s ms) → (no_name_twice ms && is_two (named (codes "jsonrpc") ms)) ≡ true
          → named (codes "method") ms ≡ Some (string p n) → (i : Option Json) → named (codes "id") ms ≡ i
          → called n i (named (codes "params") ms) ≡ notification method params → Notice body
      calls s ms p n e t m (Some x) i h = absurd (no_request (are_params (named (codes "params") ms)) (id_of x) n (given (named (codes "params") ms)) h)
      calls s ms p n e t m None i h = fits s ms p n e t m i (are_params (named (codes "params") ms)) refl h

      methods : (s : Span) (ms : Members) → tree_of body ≡ Some (object s ms) → (no_name_twice ms && is_two (named (codes "jsonrpc") ms)) ≡ true
          → (o : Option Json) → named (codes "method") ms ≡ o → by_method o ms ≡ notification method params → Notice body
      methods s ms e t (Some (string p n)) m h = calls s ms p n e t m (named (codes "id") ms) refl h
      methods s ms e t (Some (word p w)) m h = absurd (cc)
      methods s ms e t (Some (number p ds)) m h = absurd (cc)
      methods s ms e t (Some (array p js)) m h = absurd (cc)
      methods s ms e t (Some (object p ns)) m h = absurd (cc)
      methods s ms e t None m h = absurd (no_answer (named (codes "id") ms) (named (codes "error") ms) (named (codes "result") ms) h)

      tested : (s : Span) (ms : Members) → tree_of body ≡ Some (object s ms) → (b : Bool) → (no_name_twice ms && is_two (named (codes "jsonrpc") ms)) ≡ b
          → (if b then by_method (named (codes "method") ms) ms else not_message) ≡ notification method params → Notice body
      tested s ms e true t h = methods s ms e t (named (codes "method") ms) refl h
      tested s ms e false t h = absurd (cc)

      go : (o : Option Json) → tree_of body ≡ o → message_in o ≡ notification method params → Notice body
      go (Some (object s ms)) e h = tested s ms e (no_name_twice ms && is_two (named (codes "jsonrpc") ms)) refl h
      go (Some (string s cs)) e h = absurd (cc)
      go (Some (word s w)) e h = absurd (cc)
      go (Some (number s ds)) e h = absurd (cc)
      go (Some (array s js)) e h = absurd (cc)
      go None e h = absurd (cc)

no_opening : (a b c d : Option (List ℕ)) (u v : List ℕ) (cs : Json) → opening a b c d ≡ changes u v cs → ⊥
no_opening (Some a) (Some b) (Some c) (Some d) u v cs e = cc
no_opening (Some a) (Some b) (Some c) None u v cs e = cc
no_opening (Some a) (Some b) None d u v cs e = cc
no_opening (Some a) None c d u v cs e = cc
no_opening None b c d u v cs e = cc

no_closing : (a : Option (List ℕ)) (u v : List ℕ) (cs : Json) → closing a ≡ changes u v cs → ⊥
no_closing (Some a) u v cs e = cc
no_closing None u v cs e = cc

-- a change is said by a didChange alone
pub change_notified : (m : Message) (u v : List ℕ) (cs : Json) → saying_of m ≡ changes u v cs → (params : Option Json) × (m ≡ notification (codes "textDocument/didChange") params)
change_notified (notification method params) u v cs e = (params, ap (λ z. notification z params) (go (bytes_eq (codes "textDocument/didOpen") method) (bytes_eq (codes "textDocument/didChange") method) refl (bytes_eq (codes "textDocument/didClose") method) e))
  where
    go : (a b : Bool) → bytes_eq (codes "textDocument/didChange") method ≡ b → (c : Bool)
        → (if a then opening_by (member_of (codes "textDocument") params) else if b then changing_by (member_of (codes "textDocument") params) (member_of (codes "contentChanges") params) else if c then closing_by (member_of (codes "textDocument") params) else nothing) ≡ changes u v cs
        → method ≡ codes "textDocument/didChange"
    go true b h c e = absurd (let d : Option Json = member_of (codes "textDocument") params in no_opening (string_at (codes "uri") d) (string_at (codes "languageId") d) (integer_at (codes "version") d) (string_at (codes "text") d) u v cs e)
    go false true h c e = sym ((bytes_eq-Decides (codes "textDocument/didChange") method).0 h)
    go false false h true e = absurd (no_closing (string_at (codes "uri") (member_of (codes "textDocument") params)) u v cs e)
    go false false h false e = absurd (cc)
change_notified not_json u v cs e = absurd (cc)
change_notified not_message u v cs e = absurd (cc)
change_notified (request i method params) u v cs e = absurd (cc)
change_notified (result i r) u v cs e = absurd (cc)
change_notified (error i r) u v cs e = absurd (cc)

-- what a body says that is a didChange
pub notice_said : (body : List ℕ) (params : Option Json) (n : Notice (codes "textDocument/didChange") params body) → saying_by (codes "textDocument/didChange") params
    ≡ changing (uri_in (object n.span n.members)) (version_in (object n.span n.members)) (option_map bare (changes_in (object n.span n.members)))
notice_said body params n = ap (λ p. saying_by (codes "textDocument/didChange") p) (sym n.is_given) ∙ notice_saying n.span n.members

said_parts : (a b : Option (List ℕ)) (c : Option Json) (u v : List ℕ) (cs : Json) → changing a b (option_map bare c) ≡ changes u v cs
    → (list : Json) × (did_change_of a b c ≡ Some (record { uri = u; version = v; changes = list })) × (bare list ≡ cs)
said_parts (Some a) (Some b) (Some c) u v cs e =
    let f : a ≡ u = cc in
    let g : b ≡ v = cc in
    let h : bare c ≡ cs = cc in
    (c, ap₂ (λ p q. did_change_of (Some p) (Some q) (Some c)) f g, h)
said_parts (Some a) (Some b) None u v cs e = absurd (cc)
said_parts (Some a) None c u v cs e = absurd (cc)
said_parts None b c u v cs e = absurd (cc)

-- what is found of a change is what the body says
pub change_said : (body : List ℕ) (t : Json) (u v : List ℕ) (cs : Json) → tree_of body ≡ Some t → saying_of (message_of body) ≡ changes u v cs
    → (list : Json) × (did_change t ≡ Some (record { uri = u; version = v; changes = list })) × (bare list ≡ cs)
change_said body t u v cs e h =
    let m : (params : Option Json) × (message_of body ≡ notification (codes "textDocument/didChange") params) = change_notified (message_of body) u v cs h in
    let n : Notice (codes "textDocument/didChange") m.0 body = notice (codes "textDocument/didChange") m.0 body m.1 in
    let tree : tree_of body ≡ Some (object n.span n.members) = n.tree in
    let same : object n.span n.members ≡ t = cc in
    subst (λ z. (list : Json) × (did_change z ≡ Some (record { uri = u; version = v; changes = list })) × (bare list ≡ cs)) same
    (said_parts (uri_in (object n.span n.members)) (version_in (object n.span n.members)) (changes_in (object n.span n.members)) u v cs
    (sym (notice_said body m.0 n) ∙ ap saying_of (sym m.1) ∙ h))
