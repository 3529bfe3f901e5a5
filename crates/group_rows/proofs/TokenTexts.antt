-- What goes on with other tokens for progress says the same but for these, and the tokens that are kept are texts of integers and strings.
use Rattle.std.proofs.Common.{◌≡◌, ℕ, ◌+◌, ◌^◌, ◌<◌, ◌≤◌, Bool, true, false, ◌&&◌, ◌||◌, ◌==◌, List, [], ◌∷◌, ◌++◌, codes, bytes_eq, decimal, nat_lt, if◌then◌else◌, Option, Some, None, refl, sym, ◌∙◌, ap, ap₂, subst, arith}
use Rattle.std.proofs.lemmas.Bool.{and_parts, and_from}
use Rattle.std.proofs.lemmas.Bool.Decides.{nat_tests}
use Rattle.std.specs.Option.{option_and_then}
use Rattle.std.specs.Prelude.{MatchOption, filter, map, cond, not, nat_eq}
use Rattle.std.specs.List.{AllByRecursion}
use Rattle.json_text.specs.declared.span.Span.{Span}
use Rattle.json_text.specs.Bare.{bare, bare_members, nowhere}
use Rattle.json_text.specs.Json.{Json, word, number, string, array, object, Members, no_members, member, IsText, depth, members_depth, span_of}
use Rattle.json_text.specs.Named.{named, named_in}
use Rattle.json_text.specs.Number.{is_digit}
use Rattle.json_text.specs.Paths.{Step, key, put_at, value_at}
use Rattle.json_text.specs.Replace.{replace}
use Rattle.json_text.specs.String.{is_plain}
use Rattle.json_text.specs.Tree.{tree_of}
use Rattle.json_text.proofs.Compact.{all_simple, simple_string}
use Rattle.json_text.proofs.Depths.{named_below}
use Rattle.json_text.proofs.Forms.{says}
use Rattle.json_text.proofs.Inside.{InSpan, value_in_span}
use Rattle.json_text.proofs.Laws.{tree_sound}
use Rattle.json_text.proofs.Moves.{Placed, moved, placed}
use Rattle.json_text.proofs.Put.{members_depth_bare}
use Rattle.response_route.specs.json_nodes.specs.Puts.{edit_if, member_edits, put_edits, put_members}
use Rattle.response_route.specs.json_nodes.proofs.PutBare.{flat_members}
use Rattle.mux_history.specs.declared.cause.Cause.TheVariants.{Joined, FromEditor, EditorGone, Started, StartFailed, FromServer, ServerGone, Drained, Tick}
use Rattle.mux_history.specs.declared.out.Out.TheVariants.{CloseEditor, EndServer, Spawn, ToEditor, ToServer}
use Rattle.rpc_message.specs.Changed.{changed_text}
use Rattle.rpc_message.specs.Envelopes.{by_names}
use Rattle.rpc_message.specs.Message.{Id, Message, request, request_if, notification, are_params, given, id_of, integer, is_integer, message_of, slice_of, result, error, not_json, not_message}
use Rattle.rpc_message.specs.Texts.{with_id_text}
use Rattle.rpc_message.specs.ValueTexts.{IsIdText, IsOptionText, IsValueText}
use Rattle.rpc_message.proofs.Alone.{alone_text}
use Rattle.rpc_message.proofs.Bodies.{Envelope, envelope, has_id}
use Rattle.rpc_message.proofs.Decimals.{decimal_integer, decimal_law}
use Rattle.rpc_message.proofs.Ids.{answered_no_call, request_with_id}
use Rattle.rpc_message.proofs.PutLaws.{notification_puts, request_puts}
use Rattle.response_route.specs.document_model.proofs.Bares.{Notice, notice}
use Rattle.event_model.specs.Event.{Event, did, took}
use Rattle.event_model.specs.Requests.{answered_id, is_own}
use Rattle.event_model.specs.Members.{bytes_if, has_token, is_token, named_of, params_of}
use Rattle.event_model.specs.Settings.{Settings}
use Rattle.held_requests.specs.declared.request.Request.{Request}
use Rattle.group_words.specs.Past.{past}
use Rattle.group_rows.specs.Forwarded.{Forwarded, Forwarding, Sender, answered_by, cancelled_by, first_sender, forwarding_next, forwarding_of, forwards, is_written, no_forwarding, numbered, sender_of, sender_or, sender_waiting, token_in}
use Rattle.group_rows.specs.Waiting.{first_waiting}
use Rattle.group_rows.specs.Tokens.{forwarded_text, mark, mark_edits, mark_text, marked_text, new_mark, new_token, partial_mark, token_edits, work_mark}

both_false : (a b : Bool) → (a || b) ≡ false → (a ≡ false) × (b ≡ false)
both_false true b h = absurd (cc)
both_false false b h = (refl, h)

replace_nothing : (body : List ℕ) → replace body [] ≡ body
replace_nothing body = refl

-- bytes that are the text of an integer or a string
pub record IsTokenText (bytes : List ℕ) : Type 0 where
  pub tree : Json
  pub text : IsValueText tree bytes
  pub flat : depth tree ≡ 0
  pub token : is_token (Some tree) ≡ true

-- The daemon's own tokens are such texts

pub plain_digit : (d : ℕ) → (is_digit d || (d == 45)) ≡ true → (is_plain d && nat_lt d 128) ≡ true
plain_digit d h = grind (arith, nat_tests)

digits_simple : (ds : List ℕ) → is_integer ds ≡ true → all_simple ds ≡ true
unfolding is_integer
digits_simple [] h = refl
digits_simple (d ∷ ds) h =
    let k : ((is_digit d || (d == 45)) ≡ true) × (is_integer ds ≡ true) = and_parts (is_digit d || (d == 45)) (is_integer ds) h in
    and_from (is_plain d && nat_lt d 128) (all_simple ds) (plain_digit d k.0) (digits_simple ds k.1)

marks_simple : (k : ℕ) → k < 10 ^ 64 → all_simple (mark k) ≡ true
marks_simple k h = digits_simple (decimal k) (decimal_integer k h)

pub mark_is : (k : ℕ) → k < 10 ^ 64 → IsValueText (string nowhere (mark k)) (mark_text k)
mark_is k h = let p = placed (string nowhere (mark k)) 0 (mark_text k) (simple_string nowhere (mark k) (marks_simple k h)) in record { tree = p.tree; stands = p.stands; same = p.same }

pub mark_token : (k : ℕ) → k < 10 ^ 64 → IsTokenText (mark_text k)
mark_token k h = record { tree = string nowhere (mark k); text = mark_is k h; flat = refl; token = refl }

-- The tokens that are kept are too

pub token_written : (name body bytes : List ℕ) → token_in name body ≡ Some bytes → IsTokenText bytes
unfolding value_at
token_written name body bytes is = by_tree (tree_of body) refl is
  where
    standing : (root p : Json) (path : List Step) (t : Json) → IsText body root → value_at path root ≡ Some t → IsValueText (bare t) (slice_of body (Some (span_of t)))
    standing root p path t text at =
        let i : InSpan body t = value_in_span body path root t text at in
        let m : Placed t 0 (slice_of body (Some (span_of t))) = moved t (span_of t).from (slice_of body (Some (span_of t))) i.stands 0 in
        record { tree = m.tree; stands = m.stands; same = m.same }

    scalar_text : (t : Json) (bs : List ℕ) → IsValueText (bare t) bs → is_token (Some t) ≡ true → IsTokenText bs
    scalar_text (number s ds) bs w k = record { tree = number nowhere ds; text = w; flat = refl; token = k }
    scalar_text (string s cs) bs w k = record { tree = string nowhere cs; text = w; flat = refl; token = k }
    scalar_text (word s x) bs w k = absurd (cc)
    scalar_text (array s js) bs w k = absurd (cc)
    scalar_text (object s ms) bs w k = absurd (cc)

    by_member : (root p : Json) → tree_of body ≡ Some root → named_in (codes "params") root ≡ Some p → (s : Span) (ms : Members) → p ≡ object s ms → (o : Option Json) → named name ms ≡ o
        → (if is_token o then bytes_if name (Some p) body else None) ≡ Some bytes → IsTokenText bytes
    by_member root p e has s ms shape (Some t) at k = go (is_token (Some t)) refl k
      where
        place : bytes_if name (Some p) body ≡ Some (slice_of body (Some (span_of t)))
        place = ap (λ q. bytes_if name (Some q) body) shape ∙ (rw at refl)

        way : value_at (key (codes "params") ∷ key name ∷ []) root ≡ Some t
        way = ap (λ o. option_and_then (λ k. value_at (key name ∷ []) k) o) has ∙ ap (λ q. option_and_then (λ k. Some k) (named_in name q)) shape ∙ ap (λ o. option_and_then (λ k. Some k) o) at

        go : (b : Bool) → is_token (Some t) ≡ b → (if b then bytes_if name (Some p) body else None) ≡ Some bytes → IsTokenText bytes
        go true token h = subst IsTokenText (let same : slice_of body (Some (span_of t)) ≡ bytes = cc in same) (scalar_text t (slice_of body (Some (span_of t))) (standing root p (key (codes "params") ∷ key name ∷ []) t (tree_sound body root e).0 way) token)
        go false token h = absurd (cc)
    by_member root p e has s ms shape None at k = absurd (cc)

    by_params : (root : Json) → tree_of body ≡ Some root → (p : Json) → named_in (codes "params") root ≡ Some p → (if is_token (named_in name p) then bytes_if name (Some p) body else None) ≡ Some bytes → IsTokenText bytes
    by_params root e (object s ms) has k = by_member root (object s ms) e has s ms refl (named name ms) refl k
    by_params root e (word s w) has k = absurd (cc)
    by_params root e (number s ds) has k = absurd (cc)
    by_params root e (string s cs) has k = absurd (cc)
    by_params root e (array s js) has k = absurd (cc)

    by_root : (root : Json) → tree_of body ≡ Some root → (o : Option Json) → named_in (codes "params") root ≡ o → (if is_token (named_of name o) then bytes_if name o body else None) ≡ Some bytes → IsTokenText bytes
    by_root root e (Some p) has k = by_params root e p has k
    by_root root e None has k = absurd (cc)

    by_tree : (o : Option Json) → tree_of body ≡ o → (if is_token (named_of name (named_of (codes "params") o)) then bytes_if name (named_of (codes "params") o) body else None) ≡ Some bytes → IsTokenText bytes
    by_tree (Some root) e k = by_root root e (named_in (codes "params") root) refl k
    by_tree None e k = absurd (cc)

-- Values of params that give way to others by their names

-- what is given of params then
abbrev pub put_given : (List ℕ → Option Json) → Json → Option Json
put_given new (object r js) = Some (object nowhere (put_members new (bare_members js)))
put_given new (word r x) = given (Some (word r x))
put_given new (number r x) = given (Some (number r x))
put_given new (string r x) = given (Some (string r x))
put_given new (array r x) = given (Some (array r x))

module _ (text : List ℕ → Option (List ℕ)) (new : List ℕ → Option Json) (texts : (name : List ℕ) → IsOptionText (new name) (text name)) (flat : (name : List ℕ) → MatchOption (new name) (Unit {0}) (λ u. depth u ≡ 0)) where
  low : (r s : Span) (js ls : Members) (cs body : List ℕ) → tree_of body ≡ Some (object s ls) → named cs ls ≡ Some (object r js) → depth (put_at [] (object nowhere (put_members new (bare_members js))) (object nowhere (bare_members js))) ≤ 1023
  unfolding put_at
  low r s js ls cs body tree at =
      let sound : IsText body (object s ls) × (depth (object s ls) ≤ 1024) = tree_sound body (object s ls) tree in
      let whole : depth (object s ls) ≤ 1024 = sound.1 in
      let inside : depth (object r js) ≤ members_depth ls = named_below cs ls (object r js) at in
      let same : members_depth (bare_members js) ≡ members_depth js = members_depth_bare js in
      let less : members_depth (put_members new (bare_members js)) ≤ members_depth (bare_members js) = flat_members new (bare_members js) flat in
      omega (arith, whole, inside, same, less)

  no_request_params : (i : Id) (m : List ℕ) (ps : Option Json) (b : Bool) (a : Option Id) (n : List ℕ) (g : Option Json) → request_if b a n g ≡ request i m ps → g ≡ ps
  no_request_params i m ps true (Some x) n g e = cc
  no_request_params i m ps true None n g e = absurd (cc)
  no_request_params i m ps false a n g e = absurd (cc)

  params_given : (i : Id) (m : List ℕ) (ps : Option Json) (o p f v : Option Json) (t : Json) → by_names o (Some t) p f v ≡ request i m ps → given p ≡ ps
  params_given i m ps (Some (string s n)) p f v t e = no_request_params i m ps (are_params p) (id_of t) n (given p) e
  params_given i m ps (Some (word s w)) p f v t e = absurd (cc)
  params_given i m ps (Some (number s ds)) p f v t e = absurd (cc)
  params_given i m ps (Some (array s js)) p f v t e = absurd (cc)
  params_given i m ps (Some (object s ms)) p f v t e = absurd (cc)
  params_given i m ps None p f v t e = absurd (answered_no_call i m ps t f v e)

  -- of a request, under another id
  pub request_changed : (body w : List ℕ) (i k : Id) (m : List ℕ) (ps : Option Json) → message_of body ≡ request i m ps → IsIdText k w → (p : Json) → params_of body ≡ Some p
      → (q : Option Json) × (message_of (changed_text body w (put_edits text p)) ≡ request k m q)
  unfolding put_at value_at
  request_changed body w i k m ps says id p at = by_shape p (sym (ap (λ o. named_of (codes "params") o) v.tree) ∙ at)
    where
      v : Envelope body
      v = envelope body (ap has_id says)

      alone : (p : Json) → put_edits text p ≡ [] → (q : Option Json) × (message_of (changed_text body w (put_edits text p)) ≡ request k m q)
      alone p e = (ps, ap (λ z. message_of (changed_text body w z)) e ∙ ap message_of (alone_text body w) ∙ request_with_id body w i k m ps says id)

      by_shape : (p : Json) → named (codes "params") v.members ≡ Some p → (q : Option Json) × (message_of (changed_text body w (put_edits text p)) ≡ request k m q)
      by_shape (object r js) at =
          let is : given (Some (object r js)) ≡ ps = params_given i m ps (named (codes "method") v.members) (Some (object r js)) (named (codes "error") v.members) (named (codes "result") v.members) v.id
          (sym (v.is ∙ ap (λ o. by_names (named (codes "method") v.members) (Some v.id) o (named (codes "error") v.members) (named (codes "result") v.members)) at) ∙ says) in (
            Some (object nowhere (put_members new (bare_members js))),
            request_puts body w (object nowhere (bare_members js)) (object v.span v.members) [] r js text new v.tree texts (low r v.span js v.members (codes "params") body v.tree at) i k m
                (says ∙ ap (λ z. request i m z) (sym is)) (ap (λ o. option_and_then (λ k. value_at [] k) o) at) id,
          )
      by_shape (word r x) at = alone (word r x) refl
      by_shape (number r x) at = alone (number r x) refl
      by_shape (string r x) at = alone (string r x) refl
      by_shape (array r x) at = alone (array r x) refl

  -- of a notification
  pub notice_put : (body m : List ℕ) (ps : Option Json) → message_of body ≡ notification m ps → (p : Json) → params_of body ≡ Some p → message_of (replace body (put_edits text p)) ≡ notification m (put_given new p)
  unfolding put_at value_at
  notice_put body m ps says p at = by_shape p (sym (ap (λ o. named_of (codes "params") o) v.tree) ∙ at)
    where
      v : Notice m ps body
      v = notice m ps body says

      with_given : (p : Json) → named (codes "params") v.members ≡ Some p → message_of body ≡ notification m (given (Some p))
      with_given p at = says ∙ ap (λ z. notification m z) (sym v.is_given ∙ ap given at)

      by_shape : (p : Json) → named (codes "params") v.members ≡ Some p → message_of (replace body (put_edits text p)) ≡ notification m (put_given new p)
      by_shape (object r js) at =
          notification_puts body [] (object nowhere (bare_members js)) (object v.span v.members) [] r js text new v.tree texts (low r v.span js v.members (codes "params") body v.tree at) m
          (with_given (object r js) at) (ap (λ o. option_and_then (λ k. value_at [] k) o) at)
      by_shape (word r x) at = ap message_of (replace_nothing body) ∙ with_given (word r x) at
      by_shape (number r x) at = ap message_of (replace_nothing body) ∙ with_given (number r x) at
      by_shape (string r x) at = ap message_of (replace_nothing body) ∙ with_given (string r x) at
      by_shape (array r x) at = ap message_of (replace_nothing body) ∙ with_given (array r x) at

  pub notice_changed : (body m : List ℕ) (ps : Option Json) → message_of body ≡ notification m ps → (p : Json) → params_of body ≡ Some p
      → (q : Option Json) × (message_of (replace body (put_edits text p)) ≡ notification m q)
  notice_changed body m ps says p at = (put_given new p, notice_put body m ps says p at)

-- The daemon's tokens in a request

abbrev token_value : ℕ → Json → List ℕ → Option Json
token_value n params name =
    if bytes_eq (codes "workDoneToken") name && is_token (named_of (codes "workDoneToken") (Some params)) then Some (string nowhere (mark (work_mark n)))
    else if bytes_eq (codes "partialResultToken") name && is_token (named_of (codes "partialResultToken") (Some params)) then Some (string nowhere (mark (partial_mark n))) else None

module _ (n : ℕ) (small : n < 2 ^ 64) (params : Json) where
  low_work : work_mark n < 10 ^ 64
  low_work = omega arith

  low_partial : partial_mark n < 10 ^ 64
  low_partial = omega arith

  tokens_text : (name : List ℕ) → IsOptionText (token_value n params name) (new_token n params name)
  tokens_text name = go (bytes_eq (codes "workDoneToken") name && is_token (named_of (codes "workDoneToken") (Some params))) (bytes_eq (codes "partialResultToken") name && is_token (named_of (codes "partialResultToken") (Some params)))
    where
      go : (a b : Bool) → IsOptionText (if a then Some (string nowhere (mark (work_mark n))) else if b then Some (string nowhere (mark (partial_mark n))) else None) (if a then Some (mark_text (work_mark n)) else if b then Some (mark_text (partial_mark n)) else None)
      go true b = mark_is (work_mark n) low_work
      go false true = mark_is (partial_mark n) low_partial
      go false false = tt

  tokens_flat : (name : List ℕ) → MatchOption (token_value n params name) (Unit {0}) (λ u. depth u ≡ 0)
  tokens_flat name = go (bytes_eq (codes "workDoneToken") name && is_token (named_of (codes "workDoneToken") (Some params))) (bytes_eq (codes "partialResultToken") name && is_token (named_of (codes "partialResultToken") (Some params)))
    where
      go : (a b : Bool) → MatchOption (if a then Some (string nowhere (mark (work_mark n))) else if b then Some (string nowhere (mark (partial_mark n))) else None) (Unit {0}) (λ u. depth u ≡ 0)
      go true b = refl
      go false true = refl
      go false false = tt

-- a request that goes on is one of its method, under its number
pub forwarded_says : (n : ℕ) (body : List ℕ) (id : Id) (method : List ℕ) (params : Option Json) → n < 2 ^ 64 → message_of body ≡ request id method params
    → (new : Option Json) × (message_of (forwarded_text n body) ≡ request (integer (decimal n)) method new)
forwarded_says n body id method params small says = go (params_of body) refl
  where
    go : (o : Option Json) → params_of body ≡ o → (new : Option Json) × (message_of (changed_text body (decimal n) (token_edits n o)) ≡ request (integer (decimal n)) method new)
    go (Some p) at = request_changed (new_token n p) (token_value n p) (tokens_text n small p) (tokens_flat n small p) body (decimal n) id (integer (decimal n)) method params says (decimal_law n small) p at
    go None at = (params, ap message_of (alone_text body (decimal n)) ∙ request_with_id body (decimal n) id (integer (decimal n)) method params says (decimal_law n small))

-- where it has no token only its id is another
pub plain_forwarded : (n : ℕ) (body : List ℕ) → has_token (params_of body) ≡ false → forwarded_text n body ≡ with_id_text body (decimal n)
plain_forwarded n body none = ap (λ es. changed_text body (decimal n) es) (by_params (params_of body) none) ∙ alone_text body (decimal n)
  where
    no_token : (params : Json) → is_token (named_of (codes "workDoneToken") (Some params)) ≡ false → is_token (named_of (codes "partialResultToken") (Some params)) ≡ false → (name : List ℕ) → new_token n params name ≡ None
    no_token params a b name = ap₂ (λ x y. if bytes_eq (codes "workDoneToken") name && x then Some (mark_text (work_mark n)) else if bytes_eq (codes "partialResultToken") name && y then Some (mark_text (partial_mark n)) else None) a b
        ∙ go (bytes_eq (codes "workDoneToken") name) (bytes_eq (codes "partialResultToken") name)
      where
        go : (x y : Bool) → (if x && false then Some (mark_text (work_mark n)) else if y && false then Some (mark_text (partial_mark n)) else None) ≡ None
        go true true = refl
        go true false = refl
        go false true = refl
        go false false = refl

    no_edits : (text : List ℕ → Option (List ℕ)) → ((name : List ℕ) → text name ≡ None) → (ms : Members) → member_edits text ms ≡ []
    no_edits text h no_members = refl
    no_edits text h (member s cs j ms) = ap₂ (λ o es. edit_if (span_of j) o es) (h cs) (no_edits text h ms)

    by_value : (p : Json) → has_token (Some p) ≡ false → put_edits (new_token n p) p ≡ []
    by_value (object s ms) h = let k = both_false (is_token (named_of (codes "workDoneToken") (Some (object s ms)))) (is_token (named_of (codes "partialResultToken") (Some (object s ms)))) h in
        no_edits (new_token n (object s ms)) (no_token (object s ms) k.0 k.1) ms
    by_value (word s w) h = refl
    by_value (number s w) h = refl
    by_value (string s w) h = refl
    by_value (array s w) h = refl

    by_params : (o : Option Json) → has_token o ≡ false → token_edits n o ≡ []
    by_params (Some p) h = by_value p h
    by_params None h = refl

-- Another token in a notification

abbrev value_for : Json → List ℕ → Option Json
value_for j name = if bytes_eq (codes "token") name then Some j else None

pub marked_says : (text body method : List ℕ) (params : Option Json) → IsTokenText text → message_of body ≡ notification method params → (new : Option Json) × (message_of (marked_text text body) ≡ notification method new)
marked_says text body method params token says = go (params_of body) refl
  where
    texts : (name : List ℕ) → IsOptionText (value_for token.tree name) (new_mark text name)
    texts name = by (bytes_eq (codes "token") name)
      where
        by : (b : Bool) → IsOptionText (if b then Some token.tree else None) (if b then Some text else None)
        by true = token.text
        by false = tt

    flat : (name : List ℕ) → MatchOption (value_for token.tree name) (Unit {0}) (λ u. depth u ≡ 0)
    flat name = by (bytes_eq (codes "token") name)
      where
        by : (b : Bool) → MatchOption (if b then Some token.tree else None) (Unit {0}) (λ u. depth u ≡ 0)
        by true = token.flat
        by false = tt

    go : (o : Option Json) → params_of body ≡ o → (new : Option Json) × (message_of (replace body (mark_edits text o)) ≡ notification method new)
    go (Some p) at = notice_changed (new_mark text) (value_for token.tree) texts flat body method params says p at
    go None at = (params, ap message_of (replace_nothing body) ∙ says)

-- The tokens that are kept of an open request

pub record HasTokens (f : Forwarded) : Type 0 where
  pub work : (bytes : List ℕ) → f.work ≡ Some bytes → IsTokenText bytes
  pub partial : (bytes : List ℕ) → f.partial ≡ Some bytes → IsTokenText bytes

record SentTokens (x : Sender) : Type 0 where
  work : (bytes : List ℕ) → x.work ≡ Some bytes → IsTokenText bytes
  partial : (bytes : List ℕ) → x.partial ≡ Some bytes → IsTokenText bytes

record KeptTokens (x : Forwarding) : Type 0 where
  sender : MatchOption x.sender (Unit {0}) SentTokens
  all : AllByRecursion HasTokens x.open_requests

none_kept : KeptTokens no_forwarding
none_kept = record { sender = tt; all = tt }

some_kept : (test : Forwarded → Bool) (fs : List Forwarded) → AllByRecursion HasTokens fs → AllByRecursion HasTokens (filter test fs)
some_kept test [] h = tt
some_kept test (f ∷ fs) h = go (test f) (some_kept test fs h.1)
  where
    go : (b : Bool) → AllByRecursion HasTokens (filter test fs) → AllByRecursion HasTokens (cond b (f ∷ filter test fs) (filter test fs))
    go true more = (h.0, more)
    go false more = more

more_kept : (fs gs : List Forwarded) → AllByRecursion HasTokens fs → AllByRecursion HasTokens gs → AllByRecursion HasTokens (fs ++ gs)
more_kept [] gs h k = k
more_kept (f ∷ fs) gs h k = (h.0, more_kept fs gs h.1 k)

cancelled_kept : (id : Option Json) (fs : List Forwarded) → AllByRecursion HasTokens fs → AllByRecursion HasTokens (map (cancelled_by id) fs)
cancelled_kept id [] h = tt
cancelled_kept id (f ∷ fs) h = (go (is_written id f.number), cancelled_kept id fs h.1)
  where
    go : (b : Bool) → HasTokens (if b then record f { cancelled = true } else f)
    go true = record { work = h.0.work; partial = h.0.partial }
    go false = h.0

new_kept : (o : Option Sender) (n : ℕ) → MatchOption o (Unit {0}) SentTokens → AllByRecursion HasTokens (numbered o n)
new_kept (Some x) n h = (record { work = h.work; partial = h.partial }, tt)
new_kept None n h = tt

sender_kept : (e : ℕ) (body : List ℕ) (m : Message) → MatchOption (sender_of e body m) (Unit {0}) SentTokens
sender_kept e body (request id method ps) = record { work = token_written (codes "workDoneToken") body; partial = token_written (codes "partialResultToken") body }
sender_kept e body (notification method ps) = tt
sender_kept e body (result id r) = tt
sender_kept e body (error id x) = tt
sender_kept e body not_json = tt
sender_kept e body not_message = tt

or_kept : (o first : Option Sender) → MatchOption o (Unit {0}) SentTokens → MatchOption first (Unit {0}) SentTokens → MatchOption (sender_or o first) (Unit {0}) SentTokens
or_kept (Some x) first h k = h
or_kept None first h k = k

first_kept : (settings : Settings) (s : ℕ) (events : List Event) → MatchOption (first_sender settings s events) (Unit {0}) SentTokens
first_kept settings s events = go (first_waiting settings s events)
  where
    go : (o : Option Request) → MatchOption (option_and_then sender_waiting o) (Unit {0}) SentTokens
    go (Some r) = sender_kept r.editor r.body (message_of r.body)
    go None = tt

forwards_kept : (first : Option Sender) (x : Forwarding) (m : Message) → MatchOption first (Unit {0}) SentTokens → KeptTokens x → KeptTokens (forwards first x m)
forwards_kept first x (request id method ps) k h = go (is_own method)
  where
    go : (b : Bool) → KeptTokens (if b then x else record { sender = x.sender; next = x.next + 1; open_requests = x.open_requests ++ numbered (sender_or x.sender first) x.next })
    go true = h
    go false = record { sender = h.sender; all = more_kept x.open_requests (numbered (sender_or x.sender first) x.next) h.all (new_kept (sender_or x.sender first) x.next (or_kept x.sender first h.sender k)) }
forwards_kept first x (notification method ps) k h = go (bytes_eq method (codes "$/cancelRequest"))
  where
    go : (b : Bool) → KeptTokens (if b then record { sender = x.sender; next = x.next; open_requests = map (cancelled_by (named_of (codes "id") ps)) x.open_requests } else x)
    go true = record { sender = h.sender; all = cancelled_kept (named_of (codes "id") ps) x.open_requests h.all }
    go false = h
forwards_kept first x (result id r) k h = h
forwards_kept first x (error id r) k h = h
forwards_kept first x not_json k h = h
forwards_kept first x not_message k h = h

no_sender : (x : Forwarding) → KeptTokens x → KeptTokens (record { sender = None; next = x.next; open_requests = x.open_requests })
no_sender x h = record { sender = tt; all = h.all }

step_kept : (settings : Settings) (s : ℕ) (before : List Event) (x : Forwarding) (event : Event) → KeptTokens x → KeptTokens (forwarding_next settings s before x event)
step_kept settings s before x (took (FromEditor e body) m) h = record { sender = sender_kept e body m; all = h.all }
step_kept settings s before x (took (FromServer n body) m) h = record { sender = tt; all = go (nat_eq n s) }
  where
    go : (b : Bool) → AllByRecursion HasTokens (if b then filter (λ f. not (answered_by (answered_id m) f)) x.open_requests else x.open_requests)
    go true = some_kept (λ f. not (answered_by (answered_id m) f)) x.open_requests h.all
    go false = h.all
step_kept settings s before x (took (StartFailed n) m) h = go (nat_eq n s)
  where
    go : (b : Bool) → KeptTokens (if b then no_forwarding else record { sender = None; next = x.next; open_requests = x.open_requests })
    go true = none_kept
    go false = no_sender x h
step_kept settings s before x (took (ServerGone n) m) h = go (nat_eq n s)
  where
    go : (b : Bool) → KeptTokens (if b then no_forwarding else record { sender = None; next = x.next; open_requests = x.open_requests })
    go true = none_kept
    go false = no_sender x h
step_kept settings s before x (took (Joined e) m) h = no_sender x h
step_kept settings s before x (took (EditorGone e why) m) h = no_sender x h
step_kept settings s before x (took (Started n) m) h = no_sender x h
step_kept settings s before x (took (Drained e k) m) h = no_sender x h
step_kept settings s before x (took (Tick t) m) h = no_sender x h
step_kept settings s before x (did (ToServer n body) m) h = go (nat_eq n s)
  where
    go : (b : Bool) → KeptTokens (if b then forwards (first_sender settings s before) x m else x)
    go true = forwards_kept (first_sender settings s before) x m (first_kept settings s before) h
    go false = h
step_kept settings s before x (did (ToEditor n body) m) h = h
step_kept settings s before x (did (Spawn n c) m) h = h
step_kept settings s before x (did (CloseEditor n) m) h = h
step_kept settings s before x (did (EndServer n) m) h = h

all_kept : (settings : Settings) (s : ℕ) (before : List Event) (x : Forwarding) (events : List Event) → KeptTokens x → KeptTokens (past (forwarding_next settings s) before x events)
all_kept settings s before x [] h = h
all_kept settings s before x (event ∷ events) h = all_kept settings s (before ++ event ∷ []) (forwarding_next settings s before x event) events (step_kept settings s before x event h)

pub tokens_kept : (settings : Settings) (s : ℕ) (events : List Event) → AllByRecursion HasTokens (forwarding_of settings s events).open_requests
tokens_kept settings s events = (all_kept settings s [] no_forwarding events none_kept).all
