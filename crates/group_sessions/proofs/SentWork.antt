-- An editor's request as it goes on has the daemon's token for its work in the place of the editor's.
use Rattle.std.proofs.Common.{◌≡◌, ℕ, ◌<◌, ◌≤◌, ◌^◌, Bool, true, false, ◌&&◌, List, [], bytes_eq, codes, decimal, if◌then◌else◌, Option, Some, None, refl, sym, ◌∙◌, ap, ap₂, arith}
use Rattle.std.specs.Option.{option_and_then, option_map}
use Rattle.std.specs.Prelude.{MatchOption}
use Rattle.json_text.specs.declared.span.Span.{Span}
use Rattle.json_text.specs.Bare.{bare, bare_members, nowhere}
use Rattle.json_text.specs.Json.{Json, word, number, string, array, object, Members, no_members, member, IsText, depth, members_depth}
use Rattle.json_text.specs.Named.{named, if_named, or_else}
use Rattle.json_text.specs.Paths.{put_at, value_at}
use Rattle.json_text.proofs.Depths.{named_below}
use Rattle.json_text.proofs.Laws.{tree_sound}
use Rattle.json_text.proofs.Put.{members_depth_bare, named_bare}
use Rattle.group_rows.specs.response_route.specs.json_nodes.specs.Puts.{member_edits, new_or, put_members}
use Rattle.group_rows.specs.response_route.specs.json_nodes.proofs.PutBare.{flat_members}
use Rattle.rpc_message.specs.Changed.{changed_text}
use Rattle.rpc_message.specs.Envelopes.{by_names}
use Rattle.rpc_message.specs.Message.{Id, given, id_of, integer, message_of, request, text}
use Rattle.rpc_message.specs.ValueTexts.{IsOptionText}
use Rattle.rpc_message.proofs.Bodies.{Envelope, envelope, has_id}
use Rattle.rpc_message.proofs.Decimals.{decimal_law}
use Rattle.rpc_message.proofs.PutLaws.{request_puts}
use Rattle.event_model.specs.Members.{is_token, named_of, params_of}
use Rattle.group_rows.specs.Tokens.{forwarded_text, mark, mark_text, new_token, partial_mark, token_edits, work_mark}
use Rattle.group_rows.proofs.TokenTexts.{mark_is}
use Rattle.session_laws.specs.Progress.{token_at}
use Rattle.group_sessions.proofs.Brought.{params_given}

-- Members behind new values: what a name has, where it has a new one
module _ (name : List ℕ) (new : List ℕ → Option Json) (value : Json) (same : (cs : List ℕ) → bytes_eq name cs ≡ true → new cs ≡ Some value) where
  none_case : (j k : Json) (o r : Option Json) (b : Bool) → (o ≡ None → r ≡ None) → or_else o (if_named b j) ≡ None → or_else r (if_named b k) ≡ None
  none_case j k (Some x) r b g e = absurd (cc)
  none_case j k None r true g e = absurd (cc)
  none_case j k None r false g e = ap (λ z. or_else z None) (g refl)

  none_put : (ms : Members) → named name ms ≡ None → named name (put_members new ms) ≡ None
  unfolding named
  none_put no_members e = refl
  none_put (member s cs j ms) e = none_case j (new_or (new cs) j) (named name ms) (named name (put_members new ms)) (bytes_eq name cs) (λ h. none_put ms h) e

  some_case : (j k x : Json) (o r : Option Json) (b : Bool) → (b ≡ true → k ≡ value) → ((y : Json) → o ≡ Some y → r ≡ Some value) → (o ≡ None → r ≡ None) → or_else o (if_named b j) ≡ Some x → or_else r (if_named b k) ≡ Some value
  some_case j k x (Some y) r b w f g e = ap (λ z. or_else z (if_named b k)) (f y refl)
  some_case j k x None r true w f g e = ap (λ z. or_else z (Some k)) (g refl) ∙ ap (λ z. Some z) (w refl)
  some_case j k x None r false w f g e = absurd (cc)

  some_put : (ms : Members) (x : Json) → named name ms ≡ Some x → named name (put_members new ms) ≡ Some value
  unfolding named
  some_put no_members x e = absurd (cc)
  some_put (member s cs j ms) x e = some_case j (new_or (new cs) j) x (named name ms) (named name (put_members new ms)) (bytes_eq name cs)
      (λ h. ap (λ o. new_or o j) (same cs h)) (λ y h. some_put ms y h) (λ h. none_put ms h) e

-- The daemon's tokens, as values

abbrev new_value : ℕ → Json → List ℕ → Option Json
new_value n params name =
    if bytes_eq (codes "workDoneToken") name && is_token (named_of (codes "workDoneToken") (Some params)) then Some (string nowhere (mark (work_mark n)))
    else if bytes_eq (codes "partialResultToken") name && is_token (named_of (codes "partialResultToken") (Some params)) then Some (string nowhere (mark (partial_mark n))) else None

module _ (n : ℕ) (small : n < 2 ^ 64) (params : Json) where
  low_work : work_mark n < 10 ^ 64
  low_work = omega (arith, small)

  low_partial : partial_mark n < 10 ^ 64
  low_partial = omega (arith, small)

  texts : (name : List ℕ) → IsOptionText (new_value n params name) (new_token n params name)
  texts name = go (bytes_eq (codes "workDoneToken") name && is_token (named_of (codes "workDoneToken") (Some params))) (bytes_eq (codes "partialResultToken") name && is_token (named_of (codes "partialResultToken") (Some params)))
    where
      go : (a b : Bool) → IsOptionText (if a then Some (string nowhere (mark (work_mark n))) else if b then Some (string nowhere (mark (partial_mark n))) else None) (if a then Some (mark_text (work_mark n)) else if b then Some (mark_text (partial_mark n)) else None)
      go true b = mark_is (work_mark n) low_work
      go false true = mark_is (partial_mark n) low_partial
      go false false = tt

  flat : (name : List ℕ) → MatchOption (new_value n params name) (Unit {0}) (λ u. depth u ≡ 0)
  flat name = go (bytes_eq (codes "workDoneToken") name && is_token (named_of (codes "workDoneToken") (Some params))) (bytes_eq (codes "partialResultToken") name && is_token (named_of (codes "partialResultToken") (Some params)))
    where
      go : (a b : Bool) → MatchOption (if a then Some (string nowhere (mark (work_mark n))) else if b then Some (string nowhere (mark (partial_mark n))) else None) (Unit {0}) (λ u. depth u ≡ 0)
      go true b = refl
      go false true = refl
      go false false = tt

  work_value : is_token (named_of (codes "workDoneToken") (Some params)) ≡ true → (name : List ℕ) → bytes_eq (codes "workDoneToken") name ≡ true → new_value n params name ≡ Some (string nowhere (mark (work_mark n)))
  work_value token name is = ap₂ (λ a b. if a && b then Some (string nowhere (mark (work_mark n)))
      else if bytes_eq (codes "partialResultToken") name && is_token (named_of (codes "partialResultToken") (Some params)) then Some (string nowhere (mark (partial_mark n))) else None) is token

-- the request under a number, whose token for its work is the daemon's
pub record SentWork (n : ℕ) (body method : List ℕ) : Type 0 where
  pub params : Option Json
  pub says : message_of (forwarded_text n body) ≡ request (integer (decimal n)) method params
  pub names : token_at (codes "workDoneToken") params ≡ Some (text (mark (work_mark n)))

module _ (n : ℕ) (small : n < 2 ^ 64) (body : List ℕ) (id : Id) (method : List ℕ) (params : Option Json) (says : message_of body ≡ request id method params) where
  said : Envelope body
  said = envelope body (ap has_id says)

  under : (r : Span) (js : Members) (x : Json) → named (codes "params") said.members ≡ Some (object r js) → given (Some (object r js)) ≡ params
      → is_token (named_of (codes "workDoneToken") (Some (object r js))) ≡ true → named (codes "workDoneToken") (bare_members js) ≡ Some x → SentWork n body method
  unfolding put_at value_at
  under r js x at is token has = record {
    params = Some (object nowhere (put_members (new_value n (object r js)) (bare_members js)));
    says = ap message_of bytes
        ∙ request_puts body (decimal n) (object nowhere (bare_members js)) (object said.span said.members) [] r js (new_token n (object r js)) (new_value n (object r js)) said.tree (texts n small (object r js)) shallow id (integer (decimal n)) method
        (says ∙ ap (λ z. request id method z) (sym is)) (ap (λ o. option_and_then (λ k. value_at [] k) o) at) (decimal_law n small);
    names = ap (λ o. option_and_then id_of o) (some_put (codes "workDoneToken") (new_value n (object r js)) (string nowhere (mark (work_mark n))) (work_value n small (object r js) token) (bare_members js) x has);
  }
    where
      bytes : forwarded_text n body ≡ changed_text body (decimal n) (member_edits (new_token n (object r js)) js)
      bytes = ap (λ o. changed_text body (decimal n) (token_edits n (named_of (codes "params") o))) said.tree ∙ ap (λ o. changed_text body (decimal n) (token_edits n o)) at

      shallow : depth (put_at [] (object nowhere (put_members (new_value n (object r js)) (bare_members js))) (object nowhere (bare_members js))) ≤ 1023
      shallow =
          let sound : IsText body (object said.span said.members) × (depth (object said.span said.members) ≤ 1024) = tree_sound body (object said.span said.members) said.tree in
          let whole : depth (object said.span said.members) ≤ 1024 = sound.1 in
          let inside : depth (object r js) ≤ members_depth said.members = named_below (codes "params") said.members (object r js) at in
          let same : members_depth (bare_members js) ≡ members_depth js = members_depth_bare js in
          let less : members_depth (put_members (new_value n (object r js)) (bare_members js)) ≤ members_depth (bare_members js) = flat_members (new_value n (object r js)) (bare_members js) (flat n small (object r js)) in
          omega (arith, whole, inside, same, less)

  by_token : (r : Span) (js : Members) → named (codes "params") said.members ≡ Some (object r js) → given (Some (object r js)) ≡ params
      → (o : Option Json) → named (codes "workDoneToken") js ≡ o → is_token o ≡ true → is_token (named_of (codes "workDoneToken") (Some (object r js))) ≡ true → SentWork n body method
  by_token r js at is (Some x) e some token = under r js (bare x) at is token (named_bare (codes "workDoneToken") js ∙ ap (λ o. option_map bare o) e)
  by_token r js at is None e some token = absurd (cc)

  by_params : (o : Option Json) → named (codes "params") said.members ≡ o → is_token (named_of (codes "workDoneToken") o) ≡ true → SentWork n body method
  by_params (Some (object r js)) at token = by_token r js at is (named (codes "workDoneToken") js) refl token token
    where
      is : given (Some (object r js)) ≡ params
      is = params_given id method params (named (codes "method") said.members) (Some (object r js)) (named (codes "error") said.members) (named (codes "result") said.members) said.id
          (sym (said.is ∙ ap (λ o. by_names (named (codes "method") said.members) (Some said.id) o (named (codes "error") said.members) (named (codes "result") said.members)) at) ∙ says)
  by_params (Some (word r w)) at token = absurd (cc)
  by_params (Some (number r ds)) at token = absurd (cc)
  by_params (Some (string r cs)) at token = absurd (cc)
  by_params (Some (array r js)) at token = absurd (cc)
  by_params None at token = absurd (cc)

  pub sent_work : is_token (named_of (codes "workDoneToken") (params_of body)) ≡ true → SentWork n body method
  sent_work token = by_params (named (codes "params") said.members) refl (sym (ap (λ o. is_token (named_of (codes "workDoneToken") (named_of (codes "params") o))) said.tree) ∙ token)
