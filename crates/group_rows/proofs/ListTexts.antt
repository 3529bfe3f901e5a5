-- What editors are shown of a list is a notification of the start's method, with the editor's own version or without one, and a list of the same document that is as empty.
use Rattle.std.proofs.Common.{◌≡◌, ℕ, suc, ◌+◌, ◌≤◌, Bool, true, false, ◌&&◌, List, [], ◌∷◌, ◌++◌, length, length-append, codes, bytes_eq, is_some, if◌then◌else◌, Option, Some, None, option_map, refl, sym, ◌∙◌, ap, ap₂, subst, arith}
use Rattle.std.proofs.lemmas.Slice.Eq.{bytes_eq-Decides}
use Rattle.std.specs.List.{slice_get}
use Rattle.std.specs.Option.{option_and_then}
use Rattle.std.specs.Prelude.{MatchOption}
use Rattle.json_text.specs.declared.span.Span.{Span}
use Rattle.json_text.specs.declared.kind.Word.TheVariants as word_of
use Rattle.json_text.specs.Bare.{bare, bare_members, nowhere}
use Rattle.json_text.specs.Json.{Json, word, number, string, array, object, no_items, item, Members, no_members, member, ◌then◌, space, value, span_of, IsText, depth, members_depth}
use Rattle.json_text.specs.Named.{if_named, named, named_in, or_else}
use Rattle.json_text.specs.Number.{IsNumber}
use Rattle.json_text.specs.Paths.{key, put_named, value_at}
use Rattle.json_text.specs.Replace.{Edit, replace}
use Rattle.json_text.proofs.Depths.{members_deep, named_below}
use Rattle.json_text.proofs.Forms.{name_and, quotes_of, says, says_members, says_more_members, says_of}
use Rattle.json_text.proofs.Inside.{Inside, path_inside}
use Rattle.json_text.proofs.Laws.{tree_sound}
use Rattle.json_text.proofs.Paths.{named_step}
use Rattle.json_text.proofs.Put.{named_bare, named_put, named_put_other}
use Rattle.json_text.proofs.Swaps.{Replaced, in_object, replaced, swapped}
use Rattle.response_route.specs.json_nodes.specs.Puts.{new_or, put_members}
use Rattle.response_route.specs.json_nodes.specs.Texts.{between}
use Rattle.response_route.specs.json_nodes.proofs.Parts.{Entry, Part, all_part, between_is, entries, entry, entry_part, in_first, in_second, part_in, value_span}
use Rattle.rpc_message.specs.Message.{are_params, by_method, called, given, is_two, message_of, not_message, notification, notification_if}
use Rattle.rpc_message.specs.ValueTexts.{IsOptionText, IsValueText}
use Rattle.rpc_message.proofs.Bodies.{once_put}
use Rattle.rpc_message.proofs.Meaning.{message_says}
use Rattle.response_route.specs.document_model.specs.Notices.{edits_in, new_version}
use Rattle.response_route.specs.document_model.proofs.Bares.{Notice, notice}
use Rattle.response_route.specs.document_model.specs.doc_text.specs.Changes.{string_text}
use Rattle.event_model.specs.Members as members
use Rattle.event_model.specs.Members.{named_of, params_of}
use Rattle.registrations.specs.mux_members.specs.Finds.{is_array_value}
use Rattle.registrations.specs.mux_members.specs.Members.{string_at}
use Rattle.diagnostics_route.specs.declared.last_list.LastList.{LastList}
use Rattle.diagnostics_route.specs.declared.last_list.Version.{Version}
use Rattle.diagnostics_route.specs.declared.last_list.Version.TheVariants.{Absent, Null, Integer, Other}
use Rattle.diagnostics_route.specs.Published.{are_none, is_empty, list_of, published, version_in}
use Rattle.diagnostics_route.specs.Shown.{edits_by, plain_edits, shown_text}
use Rattle.group_words.specs.capability_meet.specs.DeclaredTree.{members_without}
use Rattle.group_words.specs.capability_meet.specs.Parts.{braced, listed}
use Rattle.group_words.specs.capability_meet.specs.Shown.{other_pairs, without}
use Rattle.group_words.specs.capability_meet.proofs.Declares.{named_without}
use Rattle.group_rows.proofs.TokenTexts.{notice_put, put_given}

-- The pairs of an object, as they stand in a text

entry_says : (e : Entry) (at : ℕ) (bs : List ℕ) → entry e at bs → name_and e.characters (says e.content) bs
entry_says e at bs h = (
  h.0,
  h.1,
  h.2,
  quotes_of e.characters at h.0 h.3.0,
  (h.4.0, h.4.1, h.4.2, h.4.3, (h.4.4.0, h.4.4.1, h.4.4.2, h.4.4.3, (h.4.4.4.0, h.4.4.4.1, h.4.4.4.2, h.4.4.4.3, says_of e.content (at + length h.0 + length h.4.0 + length h.4.4.0 + length h.4.4.4.0) h.4.4.4.1 h.4.4.4.4))),
)

entry_ends : (e : Entry) (at : ℕ) (bs : List ℕ) → entry e at bs → (e.place.from ≡ at) × ((span_of e.content).to ≡ at + length bs)
entry_ends e at bs h =
    let last : span_of e.content ≡ record { from = at + length h.0 + length h.4.0 + length h.4.4.0 + length h.4.4.4.0; to = at + length h.0 + length h.4.0 + length h.4.4.0 + length h.4.4.4.0 + length h.4.4.4.1 }
    = value_span e.content (at + length h.0 + length h.4.0 + length h.4.4.0 + length h.4.4.4.0) h.4.4.4.1 h.4.4.4.4 in
    let to : (span_of e.content).to ≡ at + length h.0 + length h.4.0 + length h.4.4.0 + length h.4.4.4.0 + length h.4.4.4.1 = ap (λ (x : Span). x.to) last in
    let one : length bs ≡ length h.0 + length h.1 = ap length h.2 ∙ length-append h.0 h.1 in
    let two : length h.1 ≡ length h.4.0 + length h.4.1 = ap length h.4.2 ∙ length-append h.4.0 h.4.1 in
    let three : length h.4.1 ≡ length h.4.4.0 + length h.4.4.1 = ap length h.4.4.2 ∙ length-append h.4.4.0 h.4.4.1 in
    let four : length h.4.4.1 ≡ length h.4.4.4.0 + length h.4.4.4.1 = ap length h.4.4.4.2 ∙ length-append h.4.4.4.0 h.4.4.4.1 in
    (ap (λ (x : Span). x.from) h.3.1, omega (arith, to, one, two, three, four))

pair_says : (e : Entry) (bs : List ℕ) → Part (entry e) 0 bs → name_and e.characters (says e.content) (between e.place.from (span_of e.content).to bs)
pair_says e bs p =
    let ends : (e.place.from ≡ 0 + length p.front) × ((span_of e.content).to ≡ 0 + length p.front + length p.text) = entry_ends e (0 + length p.front) p.text p.is in
    let from : e.place.from ≡ 0 + length p.front = ends.0 in
    let to : (span_of e.content).to ≡ 0 + length p.front + length p.text = ends.1 in
    subst (λ (xs : List ℕ). name_and e.characters (says e.content) xs) (sym (between_is p.front p.text p.back bs e.place.from (span_of e.content).to p.whole (omega (arith, from)) (omega (arith, from, to))))
    (entry_says e (0 + length p.front) p.text p.is)

abbrev PairsSay : List ℕ → Members → Type 0
PairsSay bs no_members = Unit {0}
PairsSay bs (member p cs j ms) = name_and cs (says j) (between p.from (span_of j).to bs) × PairsSay bs ms

pairs_say : (bs : List ℕ) (ms : Members) → ((n : ℕ) (e : Entry) → slice_get (entries ms) n ≡ Some e → Part (entry e) 0 bs) → PairsSay bs ms
pairs_say bs no_members f = tt
pairs_say bs (member p cs j ms) f = (pair_says (record { place = p; characters = cs; content = j }) bs (f 0 (record { place = p; characters = cs; content = j }) refl), pairs_say bs ms (λ n e g. f (suc n) e g))

-- An object without the members of a name

module _ (bs name : List ℕ) where
  more_pairs : (ms : Members) → PairsSay bs ms → says_more_members (members_without name ms) (listed true (other_pairs bs name None ms))
  more_pairs no_members h = refl
  more_pairs (member p cs j ms) h = go (bytes_eq name cs) (more_pairs ms h.1)
    where
      rest : List ℕ
      rest = listed true (other_pairs bs name None ms)

      w : List ℕ
      w = between p.from (span_of j).to bs

      go : (b : Bool) → says_more_members (members_without name ms) (listed true (other_pairs bs name None ms))
          → says_more_members (if b then members_without name ms else member p cs j (members_without name ms)) (listed true (if b then other_pairs bs name None ms else (between p.from (span_of j).to bs ∷ other_pairs bs name None ms)))
      go true k = k
      go false k = (44 ∷ [], w ++ rest, refl, refl, ([], w ++ rest, refl, tt, (w, rest, refl, h.0, ([], rest, refl, tt, k))))

  first_pairs : (ms : Members) → PairsSay bs ms → says_members (members_without name ms) (listed false (other_pairs bs name None ms))
  first_pairs no_members h = tt
  first_pairs (member p cs j ms) h = go (bytes_eq name cs) (first_pairs ms h.1)
    where
      rest : List ℕ
      rest = listed true (other_pairs bs name None ms)

      w : List ℕ
      w = between p.from (span_of j).to bs

      go : (b : Bool) → says_members (members_without name ms) (listed false (other_pairs bs name None ms))
          → says_members (if b then members_without name ms else member p cs j (members_without name ms)) (listed false (if b then other_pairs bs name None ms else (between p.from (span_of j).to bs ∷ other_pairs bs name None ms)))
      go true k = k
      go false k = ([], w ++ rest, refl, tt, (w, rest, refl, h.0, ([], rest, refl, tt, more_pairs ms h.1)))

  without_says : (s : Span) (ms : Members) → PairsSay bs ms → says (object s (members_without name ms)) (braced (other_pairs bs name None ms))
  without_says s ms h = (123 ∷ [], listed false (other_pairs bs name None ms) ++ 125 ∷ [], refl, refl, (listed false (other_pairs bs name None ms), 125 ∷ [], refl, first_pairs ms h, refl))

  without_low : (ms : Members) → members_depth (members_without name ms) ≤ members_depth ms
  without_low no_members = omega arith
  without_low (member p cs j ms) = go (bytes_eq name cs) (without_low ms)
    where
      go : (b : Bool) → members_depth (members_without name ms) ≤ members_depth ms → members_depth (if b then members_without name ms else member p cs j (members_without name ms)) ≤ members_depth (member p cs j ms)
      go true h = omega (arith, h)
      go false h = omega (arith, h)

whole_says : (bs : List ℕ) (j : Json) → Part (value j) 0 bs → says j (between (span_of j).from (span_of j).to bs)
whole_says bs j p =
    let here : span_of j ≡ record { from = 0 + length p.front; to = 0 + length p.front + length p.text } = value_span j (0 + length p.front) p.text p.is in
    let from : (span_of j).from ≡ 0 + length p.front = ap (λ (x : Span). x.from) here in
    let to : (span_of j).to ≡ 0 + length p.front + length p.text = ap (λ (x : Span). x.to) here in
    subst (λ (xs : List ℕ). says j xs) (sym (between_is p.front p.text p.back bs (span_of j).from (span_of j).to p.whole (omega (arith, from)) (omega (arith, from, to)))) (says_of j (0 + length p.front) p.text p.is)

-- what a value says without its version
record Rest (j : Json) (bytes : List ℕ) : Type 0 where
  tree : Json
  written : says tree bytes
  low : depth tree ≤ depth j
  fit : are_params (Some j) ≡ true → are_params (Some tree) ≡ true
  same : (name : List ℕ) → bytes_eq (codes "version") name ≡ false → named_in name tree ≡ named_in name j

as_it_is : (bs : List ℕ) (j : Json) → Part (value j) 0 bs → Rest j (between (span_of j).from (span_of j).to bs)
as_it_is bs j p = record { tree = j; written = whole_says bs j p; low = omega arith; fit = λ h. h; same = λ name other. refl }

rest_of : (bs : List ℕ) (j : Json) → Part (value j) 0 bs → Rest j (without bs (codes "version") None j)
rest_of bs (object s ms) p = go (is_some (named_in (codes "version") (object s ms)))
  where
    pairs : PairsSay bs ms
    pairs = pairs_say bs ms (λ n e g. part_in (value (object s ms)) (entry e) 0 bs p (λ i xs h. entry_part s ms n e i xs h g))

    go : (b : Bool) → Rest (object s ms) (if b then braced (other_pairs bs (codes "version") None ms) else between s.from s.to bs)
    go true = record {
      tree = object s (members_without (codes "version") ms);
      written = without_says bs (codes "version") s ms pairs;
      low = omega (arith, without_low bs (codes "version") ms);
      fit = λ h. refl;
      same = λ name other. named_without (codes "version") name ms ∙ ap (λ b. if b then None else named name ms) other;
    }
    go false = as_it_is bs (object s ms) p
rest_of bs (word s w) p = as_it_is bs (word s w) p
rest_of bs (number s ds) p = as_it_is bs (number s ds) p
rest_of bs (string s cs) p = as_it_is bs (string s cs) p
rest_of bs (array s js) p = as_it_is bs (array s js) p

-- What params say under other names than `version`

abbrev pub Bared : Option Json → Option Json → Type 0
Bared old new = (name : List ℕ) → bytes_eq (codes "version") name ≡ false → named_of name new ≡ option_map bare (named_of name old)

named_given : (name : List ℕ) (o : Option Json) → named_of name (given o) ≡ option_map bare (named_of name o)
named_given name None = refl
named_given name (Some (word s word_of.Null)) = refl
named_given name (Some (word s word_of.False)) = refl
named_given name (Some (word s word_of.True)) = refl
named_given name (Some (number s ds)) = refl
named_given name (Some (string s cs)) = refl
named_given name (Some (array s js)) = refl
named_given name (Some (object s ms)) = named_bare name ms

-- a message's params are those of its body
pub said_bared : (body method : List ℕ) (params : Option Json) → message_of body ≡ notification method params → Bared (params_of body) params
said_bared body method params is name other =
    let v : Notice method params body = notice method params body is in
    ap (λ o. named_of name o) (sym v.is_given) ∙ named_given name (named (codes "params") v.members) ∙ ap (λ o. option_map bare (named_of name (named_of (codes "params") o))) (sym v.tree)

named_puts : (new : List ℕ → Option Json) (name : List ℕ) → new name ≡ None → (ms : Members) → named name (put_members new ms) ≡ named name ms
unfolding named
named_puts new name none no_members = refl
named_puts new name none (member s cs j ms) = ap (λ o. or_else o (if_named (bytes_eq name cs) (new_or (new cs) j))) (named_puts new name none ms) ∙ ap (λ o. or_else (named name ms) o) (go (bytes_eq name cs) refl)
  where
    go : (b : Bool) → bytes_eq name cs ≡ b → if_named b (new_or (new cs) j) ≡ if_named b j
    go true e = ap (λ o. Some (new_or o j)) (ap new (sym ((bytes_eq-Decides name cs).0 e)) ∙ none)
    go false e = refl

put_bared : (new : List ℕ → Option Json) (p : Json) (name : List ℕ) → new name ≡ None → named_of name (put_given new p) ≡ option_map bare (named_in name p)
put_bared new (object s ms) name none = named_puts new name none (bare_members ms) ∙ named_bare name ms
put_bared new (word s w) name none = named_given name (Some (word s w))
put_bared new (number s ds) name none = named_given name (Some (number s ds))
put_bared new (string s cs) name none = named_given name (Some (string s cs))
put_bared new (array s js) name none = named_given name (Some (array s js))

-- a text that is a notification of the method, and says of all but the version what old params say
record Told (old : Option Json) (method text : List ℕ) : Type 0 where
  params : Option Json
  says : message_of text ≡ notification method params
  same : Bared old params

as_it_came : (body method : List ℕ) (params : Option Json) → message_of body ≡ notification method params → (o : Option Json) → params_of body ≡ o → Told o method body
as_it_came body method params is o at = record { params = params; says = is; same = subst (λ o. Bared o params) at (said_bared body method params is) }

-- A notification whose params have no version

plain_told : (body method : List ℕ) (params : Option Json) → message_of body ≡ notification method params → Told (params_of body) method (replace body (plain_edits body (params_of body)))
unfolding value_at
plain_told body method params is = go (params_of body) refl
  where
    v : Notice method params body
    v = notice method params body is

    root : Json
    root = object v.span v.members

    sound : IsText body root × (depth root ≤ 1024)
    sound = tree_sound body root v.tree

    whole : Part (value root) 0 body
    whole = in_second space (value root then space) (value root) 0 body sound.0 (λ i xs h. in_first (value root) space (value root) i xs h (λ i xs h. all_part (value root) i xs h))

    inside : (p : Json) → named (codes "params") v.members ≡ Some p → Part (value p) 0 body
    inside p at = part_in (value root) (value p) 0 body whole (λ i xs h.
        let k : Inside i xs p = path_inside (key (codes "params") ∷ []) root p (ap (λ o. option_and_then (λ j. value_at [] j) o) at) i xs h in
        record { front = k.before; text = k.bytes; back = k.after; whole = k.whole; is = k.stands })

    by : (p : Json) → named (codes "params") v.members ≡ Some p → Told (Some p) method (replace body (plain_edits body (Some p)))
    by p at =
        let r : Rest p (without body (codes "version") None p) = rest_of body p (inside p at) in
        let es : List Edit = plain_edits body (Some p) in
        let ls : Members = v.members in
        let old : depth (object v.span ls) ≤ 1024 = sound.1 in
        let ns : Members = put_named (codes "params") r.tree ls in
        let made : Replaced body es (object v.span ns) = replaced body es root (object v.span ns) sound.0
        (in_object v.span ls ns es (named_step (codes "params") ls p r.tree es at (swapped p r.tree (without body (codes "version") None p) r.written))) in
        record {
          params = given (Some r.tree);
          says = message_says (object v.span ns) (replace body es) made.says (omega (arith, old, r.low, named_below (codes "params") ls p at, members_deep (codes "params") ls r.tree))
              ∙ ap (λ b. if b then by_method (named (codes "method") ns) ns else not_message)
              (ap₂ (λ b o. b && is_two o) (once_put (codes "params") ls r.tree) (named_put_other (codes "params") (codes "jsonrpc") ls r.tree refl) ∙ v.test)
              ∙ ap (λ o. by_method o ns) (named_put_other (codes "params") (codes "method") ls r.tree refl ∙ v.named_method)
              ∙ ap₂ (λ i o. called method i o) (named_put_other (codes "params") (codes "id") ls r.tree refl ∙ v.no_id) (named_put (codes "params") ls p r.tree at)
              ∙ ap (λ b. notification_if b method (given (Some r.tree))) (r.fit (ap (λ o. are_params o) (sym at) ∙ v.fit));
          same = λ name other. named_given name (Some r.tree) ∙ ap (λ o. option_map bare o) (r.same name other);
        }

    go : (o : Option Json) → params_of body ≡ o → Told o method (replace body (plain_edits body o))
    go (Some p) at = by p (sym (ap (λ o. named_of (codes "params") o) v.tree) ∙ at)
    go None at = as_it_came body method params is None at

-- A notification under another version

abbrev version_for : List ℕ → List ℕ → Option Json
version_for digits name = if bytes_eq (codes "version") name then Some (number nowhere digits) else None

own_told : (own body method : List ℕ) (params : Option Json) → IsNumber own → message_of body ≡ notification method params → Told (params_of body) method (replace body (edits_in own (params_of body)))
own_told own body method params number_text is = go (params_of body) refl
  where
    text : IsValueText (number nowhere own) own
    text = record { tree = number (record { from = 0; to = 0 + length own }) own; stands = ((refl, number_text), refl); same = refl }

    texts : (name : List ℕ) → IsOptionText (version_for own name) (new_version own name)
    texts name = by (bytes_eq (codes "version") name)
      where
        by : (b : Bool) → IsOptionText (if b then Some (number nowhere own) else None) (if b then Some own else None)
        by true = text
        by false = tt

    flat : (name : List ℕ) → MatchOption (version_for own name) (Unit {0}) (λ u. depth u ≡ 0)
    flat name = by (bytes_eq (codes "version") name)
      where
        by : (b : Bool) → MatchOption (if b then Some (number nowhere own) else None) (Unit {0}) (λ u. depth u ≡ 0)
        by true = refl
        by false = tt

    go : (o : Option Json) → params_of body ≡ o → Told o method (replace body (edits_in own o))
    go (Some p) at = record {
      params = put_given (version_for own) p;
      says = notice_put (new_version own) (version_for own) texts flat body method params is p at;
      same = λ name other. put_bared (version_for own) p name (ap (λ b. if b then Some (number nowhere own) else None) other);
    }
    go None at = as_it_came body method params is None at

-- A list as it is shown

shown_told : (own : Option (List ℕ)) (body method : List ℕ) (params : Option Json) → ((v : List ℕ) → own ≡ Some v → IsNumber v) → message_of body ≡ notification method params → Told (params_of body) method (shown_text own body)
shown_told own body method params numbers is = go own numbers (version_in (params_of body))
  where
    same : Told (params_of body) method body
    same = as_it_came body method params is (params_of body) refl

    go : (own : Option (List ℕ)) → ((v : List ℕ) → own ≡ Some v → IsNumber v) → (version : Version) → Told (params_of body) method (replace body (edits_by own version body (params_of body)))
    go (Some v) n (Integer digits) = own_told v body method params (n v refl) is
    go (Some v) n Absent = same
    go (Some v) n Null = same
    go (Some v) n Other = same
    go None n Absent = same
    go None n Null = plain_told body method params is
    go None n (Integer digits) = plain_told body method params is
    go None n Other = plain_told body method params is

-- it is a notification of the start's method
pub shown_says : (own : Option (List ℕ)) (body method : List ℕ) (params : Option Json) → ((v : List ℕ) → own ≡ Some v → IsNumber v) → message_of body ≡ notification method params → (new : Option Json) × (message_of (shown_text own body) ≡ notification method new)
shown_says own body method params numbers is = let t : Told (params_of body) method (shown_text own body) = shown_told own body method params numbers is in (t.params, t.says)

-- a text that is a list of the document of a URI, which is empty or isn't
pub record Listed (uri : List ℕ) (empty : Bool) (text : List ℕ) : Type 0 where
  pub list : LastList
  pub is : published 0 text ≡ Some list
  pub document : list.uri ≡ uri
  pub none : list.empty ≡ empty

-- what is read of a member is read of it without places too
kept : {A : Type 0} (f : Option Json → A) → ((o : Option Json) → f (option_map bare o) ≡ f o) → (name : List ℕ) → bytes_eq (codes "version") name ≡ false → (old new : Option Json) → Bared old new → f (named_of name new) ≡ f (named_of name old)
kept f reads name other old new same = ap f (same name other) ∙ reads (named_of name old)

text_bare : (o : Option Json) → option_and_then string_text (option_map bare o) ≡ option_and_then string_text o
text_bare None = refl
text_bare (Some (word s w)) = refl
text_bare (Some (number s ds)) = refl
text_bare (Some (string s cs)) = refl
text_bare (Some (array s js)) = refl
text_bare (Some (object s ms)) = refl

array_bare : (o : Option Json) → is_array_value (option_map bare o) ≡ is_array_value o
array_bare None = refl
array_bare (Some (word s w)) = refl
array_bare (Some (number s ds)) = refl
array_bare (Some (string s cs)) = refl
array_bare (Some (array s js)) = refl
array_bare (Some (object s ms)) = refl

none_bare : (o : Option Json) → are_none (members.listed (option_map bare o)) ≡ are_none (members.listed o)
none_bare None = refl
none_bare (Some (word s w)) = refl
none_bare (Some (number s ds)) = refl
none_bare (Some (string s cs)) = refl
none_bare (Some (array s no_items)) = refl
none_bare (Some (array s (item j js))) = refl
none_bare (Some (object s ms)) = refl

string_named : (name : List ℕ) (o : Option Json) → string_at name o ≡ option_and_then string_text (named_of name o)
string_named name None = refl
string_named name (Some j) = refl

module _ (old new : Option Json) (same : Bared old new) where
  uri_kept : string_at (codes "uri") new ≡ string_at (codes "uri") old
  uri_kept = string_named (codes "uri") new ∙ kept (λ o. option_and_then string_text o) text_bare (codes "uri") refl old new same ∙ sym (string_named (codes "uri") old)

  array_kept : is_array_value (named_of (codes "diagnostics") new) ≡ is_array_value (named_of (codes "diagnostics") old)
  array_kept = kept (λ o. is_array_value o) array_bare (codes "diagnostics") refl old new same

  empty_kept : is_empty new ≡ is_empty old
  empty_kept = kept (λ o. are_none (members.listed o)) none_bare (codes "diagnostics") refl old new same

-- what is a list by its message's params
pub listed_by : (text method : List ℕ) (params : Option Json) → message_of text ≡ notification method params → (u : List ℕ) (empty : Bool)
    → string_at (codes "uri") params ≡ Some u → is_array_value (named_of (codes "diagnostics") params) ≡ true → is_empty params ≡ empty → Listed u empty text
listed_by text method params is u empty document shape none = record {
  list = list_of 0 text now u;
  is = ap₂ (λ b o. if b then option_map (list_of 0 text now) o else None) (sym (array_kept now params same) ∙ shape) (sym (uri_kept now params same) ∙ document);
  document = refl;
  none = sym (empty_kept now params same) ∙ none;
}
  where
    now : Option Json
    now = params_of text

    same : Bared now params
    same = said_bared text method params is

-- a list as it is shown is one of the same document, and as empty
pub shown_list : (own : Option (List ℕ)) (body method : List ℕ) (params : Option Json) (place : ℕ) (l : LastList) → ((v : List ℕ) → own ≡ Some v → IsNumber v) → message_of body ≡ notification method params → published place body ≡ Some l
    → Listed l.uri l.empty (shown_text own body)
shown_list own body method params place l numbers is = go (is_array_value (named_of (codes "diagnostics") old)) (string_at (codes "uri") old) refl refl
  where
    old : Option Json
    old = params_of body

    t : Told old method (shown_text own body)
    t = shown_told own body method params numbers is

    go : (b : Bool) (o : Option (List ℕ)) → is_array_value (named_of (codes "diagnostics") old) ≡ b → string_at (codes "uri") old ≡ o → (if b then option_map (list_of place body old) o else None) ≡ Some l → Listed l.uri l.empty (shown_text own body)
    go true (Some u) shape at e =
        let same : list_of place body old u ≡ l = cc in
        listed_by (shown_text own body) method t.params t.says l.uri l.empty (uri_kept old t.params t.same ∙ at ∙ ap (λ (x : LastList). Some x.uri) same) (array_kept old t.params t.same ∙ shape) (empty_kept old t.params t.same ∙ ap (λ (x : LastList). x.empty) same)
    go true None shape at e = absurd (cc)
    go false o shape at e = absurd (cc)
