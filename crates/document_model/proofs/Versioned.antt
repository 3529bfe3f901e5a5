-- A body under another version says the same but for its version.
use Rattle.std.proofs.Common.{◌≡◌, ℕ, ◌≤◌, ◌<◌, ◌^◌, max, Bool, true, false, ◌&&◌, List, [], ◌∷◌, Option, Some, None, option_map, bytes_eq, is_some, codes, decimal, if◌then◌else◌, not, refl, sym, ◌∙◌, ap, ap₂, arith}
use Rattle.std.specs.Option.{option_and_then}
use Rattle.json_text.specs.declared.span.Span.{Span}
use Rattle.json_text.specs.Bare.{bare, nowhere}
use Rattle.json_text.specs.Json.{Json, word, number, string, array, object, Members, no_members, member, span_of, IsText, depth, members_depth}
use Rattle.json_text.specs.Named.{named, named_in, or_else, if_named}
use Rattle.json_text.specs.Number.{IsNumber}
use Rattle.json_text.specs.Paths.{Step, key, value_at, put_named, put_at, put_step}
use Rattle.json_text.specs.Replace.{Edit, replace}
use Rattle.json_text.specs.Tree.{tree_of}
use Rattle.json_text.proofs.Depths.{put_shallow}
use Rattle.json_text.proofs.Laws.{tree_sound}
use Rattle.json_text.proofs.Paths.{path_swaps}
use Rattle.json_text.proofs.Put.{named_put, named_put_other, some_put}
use Rattle.json_text.proofs.Swaps.{Swaps, kept, swapped, in_object, SwapsMembers, no_member_swaps, member_swaps, Replaced, replaced}
use Rattle.rpc_message.specs.Values.{edit_if, member_edits}
use Rattle.rpc_message.specs.Message.{notification, not_message, no_name_twice, is_two, is_integer, are_params, given, notification_if, called, by_method, message_in, message_of}
use Rattle.std.proofs.lemmas.Slice.Eq.{bytes_eq-Decides}
use Rattle.rpc_message.proofs.Decimals.{decimal_number, decimal_integer}
use Rattle.rpc_message.proofs.Meaning.{message_says}
use Rattle.doc_text.specs.Changes.{string_text}
use Rattle.document_model.specs.Notices.{integer_text, document_in, uri_in, version_in, changes_in, new_version, edits_in}
use Rattle.document_model.specs.Rows.{versioned_in, versioned}
use Rattle.document_model.specs.Sayings.{changes, changing, saying_of}
use Rattle.document_model.proofs.Bares.{Notice, notice, change_notified, notice_saying, notice_said}

-- each `version` with another number
unfoldable put_versions : List ℕ → Members → Members
put_versions text no_members = no_members
put_versions text (member s cs j ms) = member s cs (if bytes_eq (codes "version") cs then number nowhere text else j) (put_versions text ms)

versions_case : (text : List ℕ) (s : Span) (cs : List ℕ) (j : Json) (ms rest : Members) (es : List Edit) (b : Bool) → IsNumber text → SwapsMembers ms es rest
    → SwapsMembers (member s cs j ms) (edit_if (span_of j) (if b then Some text else None) es) (member s cs (if b then number nowhere text else j) rest)
versions_case text s cs j ms rest es true n h = member_swaps s cs j (number nowhere text) ms rest (record { span = span_of j; text = text } ∷ []) es (swapped j (number nowhere text) text (refl, n)) h
versions_case text s cs j ms rest es false n h = member_swaps s cs j j ms rest [] es (kept j) h

-- the edits put those numbers
versions_swap : (text : List ℕ) (ms : Members) → IsNumber text → SwapsMembers ms (member_edits (new_version text) ms) (put_versions text ms)
unfolding put_versions
versions_swap text no_members n = no_member_swaps
versions_swap text (member s cs j ms) n = versions_case text s cs j ms (put_versions text ms) (member_edits (new_version text) ms) (bytes_eq (codes "version") cs) n (versions_swap text ms n)

version_case : (text : List ℕ) (j x : Json) (o r : Option Json) (b : Bool) → ((k : Json) → o ≡ Some k → r ≡ Some (number nowhere text)) → (o ≡ None → r ≡ None)
    → or_else o (if_named b j) ≡ Some x → or_else r (if_named b (if b then number nowhere text else j)) ≡ Some (number nowhere text)
version_case text j x (Some k) r b f g e = ap (λ z. or_else z (if_named b (if b then number nowhere text else j))) (f k refl)
version_case text j x None r true f g e = ap (λ z. or_else z (Some (number nowhere text))) (g refl)
version_case text j x None r false f g e = absurd (cc)

none_case : (text : List ℕ) (j : Json) (o r : Option Json) (b : Bool) → (o ≡ None → r ≡ None) → or_else o (if_named b j) ≡ None
    → or_else r (if_named b (if b then number nowhere text else j)) ≡ None
none_case text j (Some k) r b g e = absurd (cc)
none_case text j None r true g e = absurd (cc)
none_case text j None r false g e = ap (λ z. or_else z None) (g refl)

no_version : (text : List ℕ) (ms : Members) → named (codes "version") ms ≡ None → named (codes "version") (put_versions text ms) ≡ None
unfolding put_versions named
no_version text no_members e = refl
no_version text (member s cs j ms) e = none_case text j (named (codes "version") ms) (named (codes "version") (put_versions text ms)) (bytes_eq (codes "version") cs) (λ h. no_version text ms h) e

-- the version is then that number
version_put : (text : List ℕ) (ms : Members) (x : Json) → named (codes "version") ms ≡ Some x → named (codes "version") (put_versions text ms) ≡ Some (number nowhere text)
unfolding put_versions named
version_put text no_members x e = absurd (cc)
version_put text (member s cs j ms) x e = version_case text j x (named (codes "version") ms) (named (codes "version") (put_versions text ms)) (bytes_eq (codes "version") cs)
    (λ k h. version_put text ms k h) (λ h. no_version text ms h) e

two_names : (cs ds es : List ℕ) → bytes_eq cs es ≡ true → bytes_eq ds es ≡ true → bytes_eq cs ds ≡ true
two_names cs ds es e f = (bytes_eq-Decides cs ds).1 ((bytes_eq-Decides cs es).0 e ∙ sym ((bytes_eq-Decides ds es).0 f))

-- the uri is what it was
uri_kept : (text : List ℕ) (ms : Members) → named (codes "uri") (put_versions text ms) ≡ named (codes "uri") ms
unfolding put_versions named
uri_kept text no_members = refl
uri_kept text (member s cs j ms) = ap (λ z. or_else z (if_named (bytes_eq (codes "uri") cs) (if bytes_eq (codes "version") cs then number nowhere text else j))) (uri_kept text ms)
    ∙ ap (λ z. or_else (named (codes "uri") ms) z) (go (bytes_eq (codes "version") cs) (bytes_eq (codes "uri") cs) (λ f g. cc (two_names (codes "version") (codes "uri") cs f g)))
  where
    go : (a b : Bool) → (a ≡ true → b ≡ true → true ≡ false) → if_named b (if a then number nowhere text else j) ≡ if_named b j
    go true true h = absurd (let bad : true ≡ false = h refl refl in cc)
    go true false h = refl
    go false b h = refl

deep_case : (text : List ℕ) (j : Json) (m n : ℕ) (b : Bool) → m ≤ n → max (depth (if b then number nowhere text else j)) m ≤ max (depth j) n
deep_case text j m n true h = omega arith
deep_case text j m n false h = omega arith

-- no deeper
versions_deep : (text : List ℕ) (ms : Members) → members_depth (put_versions text ms) ≤ members_depth ms
unfolding put_versions
versions_deep text no_members = omega arith
versions_deep text (member s cs j ms) = deep_case text j (members_depth (put_versions text ms)) (members_depth ms) (bytes_eq (codes "version") cs) (versions_deep text ms)

-- no name comes or goes
once_put : (cs : List ℕ) (ms : Members) (u : Json) → no_name_twice (put_named cs u ms) ≡ no_name_twice ms
unfolding no_name_twice put_named
once_put cs no_members u = refl
once_put cs (member s ds j ms) u = go (is_some (named cs ms)) (once_put cs ms u)
  where
    go : (b : Bool) → no_name_twice (put_named cs u ms) ≡ no_name_twice ms
        → no_name_twice (if b then member s ds j (put_named cs u ms) else member s ds (if bytes_eq cs ds then u else j) ms) ≡ (not (is_some (named ds ms)) && no_name_twice ms)
    go true e = ap₂ (λ a b. not a && b) (some_put cs ds ms u) e
    go false e = refl

-- the document of a change that names a version
record Document (ms : Members) : Type 0 where
  around : Span
  params : Members
  span : Span
  members : Members
  version : Json
  named_params : named (codes "params") ms ≡ Some (object around params)
  named_document : named (codes "textDocument") params ≡ Some (object span members)
  named_version : named (codes "version") members ≡ Some version

document_of : (s : Span) (ms : Members) (w : List ℕ) → version_in (object s ms) ≡ Some w → Document ms
document_of s ms w h = by_params (named (codes "params") ms) refl h
  where
    by_version : (r : Span) (ps : Members) (d : Span) (ds : Members) → named (codes "params") ms ≡ Some (object r ps) → named (codes "textDocument") ps ≡ Some (object d ds)
        → (o : Option Json) → named (codes "version") ds ≡ o → option_and_then integer_text o ≡ Some w → Document ms
    by_version r ps d ds p t (Some v) e h = record { around = r; params = ps; span = d; members = ds; version = v; named_params = p; named_document = t; named_version = e }
    by_version r ps d ds p t None e h = absurd (cc)

    by_document : (r : Span) (ps : Members) → named (codes "params") ms ≡ Some (object r ps) → (o : Option Json) → named (codes "textDocument") ps ≡ o
        → option_and_then integer_text (option_and_then (named_in (codes "version")) o) ≡ Some w → Document ms
    by_document r ps p (Some (object d ds)) e h = by_version r ps d ds p e (named (codes "version") ds) refl h
    by_document r ps p (Some (word d x)) e h = absurd (cc)
    by_document r ps p (Some (number d x)) e h = absurd (cc)
    by_document r ps p (Some (string d x)) e h = absurd (cc)
    by_document r ps p (Some (array d x)) e h = absurd (cc)
    by_document r ps p None e h = absurd (cc)

    by_params : (o : Option Json) → named (codes "params") ms ≡ o
        → option_and_then integer_text (option_and_then (named_in (codes "version")) (option_and_then (named_in (codes "textDocument")) o)) ≡ Some w → Document ms
    by_params (Some (object r ps)) e h = by_document r ps e (named (codes "textDocument") ps) refl h
    by_params (Some (word r x)) e h = absurd (cc)
    by_params (Some (number r x)) e h = absurd (cc)
    by_params (Some (string r x)) e h = absurd (cc)
    by_params (Some (array r x)) e h = absurd (cc)
    by_params None e h = absurd (cc)

-- the members of the body under another version
unfoldable renewed : List ℕ → (ms : Members) → Document ms → Members
renewed text ms x = put_named (codes "params") (object x.around (put_named (codes "textDocument") (object x.span (put_versions text x.members)) x.params)) ms

module _ (text : List ℕ) (s : Span) (ms : Members) (x : Document ms) where
  renewed_is : put_at (key (codes "params") ∷ key (codes "textDocument") ∷ []) (object x.span (put_versions text x.members)) (object s ms) ≡ object s (renewed text ms x)
  unfolding put_at renewed
  renewed_is =
      ap (λ o. elim o [ None ↦ object s ms | Some k ↦ put_step (key (codes "params")) (put_at (key (codes "textDocument") ∷ []) (object x.span (put_versions text x.members)) k) (object s ms) ]) x.named_params
      ∙ ap (λ o. object s (put_named (codes "params") (elim o [ None ↦ object x.around x.params | Some k ↦ put_step (key (codes "textDocument")) (object x.span (put_versions text x.members)) (object x.around x.params) ]) ms)) x.named_document

  document_there : value_at (key (codes "params") ∷ key (codes "textDocument") ∷ []) (object s ms) ≡ Some (object x.span x.members)
  unfolding value_at
  document_there = ap (λ o. option_and_then (λ k. value_at (key (codes "textDocument") ∷ []) k) o) x.named_params ∙ ap (λ o. option_and_then (λ k. value_at [] k) o) x.named_document

  document_old : document_in (object s ms) ≡ Some (object x.span x.members)
  document_old = ap (λ o. option_and_then (named_in (codes "textDocument")) o) x.named_params ∙ x.named_document

  params_new : named (codes "params") (renewed text ms x) ≡ Some (object x.around (put_named (codes "textDocument") (object x.span (put_versions text x.members)) x.params))
  unfolding renewed
  params_new = named_put (codes "params") ms (object x.around x.params) (object x.around (put_named (codes "textDocument") (object x.span (put_versions text x.members)) x.params)) x.named_params

  document_new : document_in (object s (renewed text ms x)) ≡ Some (object x.span (put_versions text x.members))
  document_new = ap (λ o. option_and_then (named_in (codes "textDocument")) o) params_new
      ∙ named_put (codes "textDocument") x.params (object x.span x.members) (object x.span (put_versions text x.members)) x.named_document

  uri_new : uri_in (object s (renewed text ms x)) ≡ uri_in (object s ms)
  uri_new = ap (λ o. option_and_then string_text (option_and_then (named_in (codes "uri")) o)) document_new
      ∙ ap (λ o. option_and_then string_text o) (uri_kept text x.members)
      ∙ sym (ap (λ o. option_and_then string_text (option_and_then (named_in (codes "uri")) o)) document_old)

  version_new : is_integer text ≡ true → version_in (object s (renewed text ms x)) ≡ Some text
  version_new h = ap (λ o. option_and_then integer_text (option_and_then (named_in (codes "version")) o)) document_new
      ∙ ap (λ o. option_and_then integer_text o) (version_put text x.members x.version x.named_version)
      ∙ ap (λ b. if b then Some text else None) h

  changes_new : changes_in (object s (renewed text ms x)) ≡ changes_in (object s ms)
  changes_new = ap (λ o. option_and_then (named_in (codes "contentChanges")) o) params_new
      ∙ named_put_other (codes "textDocument") (codes "contentChanges") x.params (object x.span (put_versions text x.members)) refl
      ∙ sym (ap (λ o. option_and_then (named_in (codes "contentChanges")) o) x.named_params)

  -- it is a notification of the same method
  message_new : (p : Span) (method : List ℕ) → (no_name_twice ms && is_two (named (codes "jsonrpc") ms)) ≡ true → named (codes "method") ms ≡ Some (string p method) → named (codes "id") ms ≡ None
      → message_in (Some (object s (renewed text ms x))) ≡ notification method (given (named (codes "params") (renewed text ms x)))
  unfolding renewed
  message_new p method t m i =
      let u : Json = object x.around (put_named (codes "textDocument") (object x.span (put_versions text x.members)) x.params) in
      let test : (no_name_twice (put_named (codes "params") u ms) && is_two (named (codes "jsonrpc") (put_named (codes "params") u ms))) ≡ true
      = ap₂ (λ a o. a && is_two o) (once_put (codes "params") ms u) (named_put_other (codes "params") (codes "jsonrpc") ms u refl) ∙ t in
      ap (λ b. if b then by_method (named (codes "method") (put_named (codes "params") u ms)) (put_named (codes "params") u ms) else not_message) test
      ∙ ap (λ o. by_method o (put_named (codes "params") u ms)) (named_put_other (codes "params") (codes "method") ms u refl ∙ m)
      ∙ ap (λ o. called method o (named (codes "params") (put_named (codes "params") u ms))) (named_put_other (codes "params") (codes "id") ms u refl ∙ i)
      ∙ ap (λ b. notification_if b method (given (named (codes "params") (put_named (codes "params") u ms)))) (ap are_params (named_put (codes "params") ms (object x.around x.params) u x.named_params))

  saying_new : (p : Span) → is_integer text ≡ true → (no_name_twice ms && is_two (named (codes "jsonrpc") ms)) ≡ true → named (codes "method") ms ≡ Some (string p (codes "textDocument/didChange")) → named (codes "id") ms ≡ None
      → saying_of (message_in (Some (object s (renewed text ms x)))) ≡ changing (uri_in (object s ms)) (Some text) (option_map bare (changes_in (object s ms)))
  saying_new p h t m i = ap saying_of (message_new p (codes "textDocument/didChange") t m i) ∙ notice_saying s (renewed text ms x)
      ∙ ap₂ (λ a b. changing a b (option_map bare (changes_in (object s (renewed text ms x))))) uri_new (version_new h)
      ∙ ap (λ c. changing (uri_in (object s ms)) (Some text) (option_map bare c)) changes_new

-- the bytes with other versions are a text of that tree, no deeper
says_new : (text body : List ℕ) (s : Span) (ms : Members) (x : Document ms) → IsNumber text → tree_of body ≡ Some (object s ms)
    → message_of (replace body (member_edits (new_version text) x.members)) ≡ message_in (Some (object s (renewed text ms x)))
says_new text body s ms x n e =
    let sound : IsText body (object s ms) × (depth (object s ms) ≤ 1024) = tree_sound body (object s ms) e in
    let low : depth (object s ms) ≤ 1024 = sound.1 in
    let path : List Step = key (codes "params") ∷ key (codes "textDocument") ∷ [] in
    let d : Json = object x.span (put_versions text x.members) in
    let swaps : Swaps (object s ms) (member_edits (new_version text) x.members) (put_at path d (object s ms))
    = path_swaps path (object s ms) (object x.span x.members) d (member_edits (new_version text) x.members) (document_there text s ms x)
    (in_object x.span x.members (put_versions text x.members) (member_edits (new_version text) x.members) (versions_swap text x.members n)) in
    let made : Replaced body (member_edits (new_version text) x.members) (put_at path d (object s ms)) = replaced body (member_edits (new_version text) x.members) (object s ms) (put_at path d (object s ms)) sound.0 swaps in
    let shallow : depth (put_at path d (object s ms)) ≤ depth (object s ms)
    = put_shallow path (object s ms) (object x.span x.members) d (document_there text s ms x) (omega (arith, versions_deep text x.members)) in
    message_says (put_at path d (object s ms)) (replace body (member_edits (new_version text) x.members)) made.says (omega arith)
    ∙ ap (λ j. message_in (Some j)) (renewed_is text s ms x)

changes_parts : (a b : Option (List ℕ)) (c : Option Json) (u w : List ℕ) (cs : Json) → changing a b c ≡ changes u w cs → (b ≡ Some w) × ((v : List ℕ) → changing a (Some v) c ≡ changes u v cs)
changes_parts (Some a) (Some b) (Some c) u w cs e =
    let f : a ≡ u = cc in
    let g : c ≡ cs = cc in
    (cc, λ v. ap₂ (λ p q. changes p v q) f g)
changes_parts (Some a) (Some b) None u w cs e = absurd (cc)
changes_parts (Some a) None c u w cs e = absurd (cc)
changes_parts None b c u w cs e = absurd (cc)

-- a body under another version says the same but for its version
pub versioned_says : (body : List ℕ) (v : ℕ) (u w : List ℕ) (cs : Json) → v < 10 ^ 64 → saying_of (message_of body) ≡ changes u w cs
    → saying_of (message_of (versioned v body)) ≡ changes u (decimal v) cs
versioned_says body v u w cs h e =
    let m : (params : Option Json) × (message_of body ≡ notification (codes "textDocument/didChange") params) = change_notified (message_of body) u w cs e in
    let n : Notice (codes "textDocument/didChange") m.0 body = notice (codes "textDocument/didChange") m.0 body m.1 in
    let t : Json = object n.span n.members in
    let parts : (version_in t ≡ Some w) × ((v : List ℕ) → changing (uri_in t) (Some v) (option_map bare (changes_in t)) ≡ changes u v cs)
    = changes_parts (uri_in t) (version_in t) (option_map bare (changes_in t)) u w cs (sym (notice_said body m.0 n) ∙ ap saying_of (sym m.1) ∙ e) in
    let x : Document n.members = document_of n.span n.members w parts.0 in
    let bytes : versioned v body ≡ replace body (member_edits (new_version (decimal v)) x.members)
    = ap (versioned_in v body) n.tree ∙ ap (λ o. replace body (edits_in (decimal v) o)) (document_old (decimal v) n.span n.members x) in
    ap (λ z. saying_of (message_of z)) bytes
    ∙ ap saying_of (says_new (decimal v) body n.span n.members x (decimal_number v h) n.tree)
    ∙ saying_new (decimal v) n.span n.members x n.place (decimal_integer v h) n.test n.named_method n.no_id
    ∙ parts.1 (decimal v)
