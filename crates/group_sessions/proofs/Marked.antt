-- What a notification with another token in it names: that token; and it ends what it tells of as it did.
use Rattle.std.proofs.Common.{◌≡◌, ℕ, ◌≤◌, Bool, true, false, List, [], bytes_eq, codes, if◌then◌else◌, Option, Some, None, is_some, refl, sym, ◌∙◌, ap, ap₂, arith}
use Rattle.std.specs.Option.{option_and_then, option_map_or}
use Rattle.std.specs.Prelude.{MatchOption}
use Rattle.std.proofs.lemmas.Slice.Eq.{bytes_eq-Decides}
use Rattle.json_text.specs.declared.kind.Word.TheVariants.{Null, False, True}
use Rattle.json_text.specs.declared.span.Span.{Span}
use Rattle.json_text.specs.Bare.{bare, bare_members, nowhere}
use Rattle.json_text.specs.Json.{Json, word, number, string, array, object, Members, no_members, member, IsText, depth, members_depth}
use Rattle.json_text.specs.Named.{named, if_named, or_else}
use Rattle.json_text.specs.Paths.{put_at, value_at}
use Rattle.json_text.specs.Replace.{replace}
use Rattle.json_text.proofs.Depths.{named_below}
use Rattle.json_text.proofs.Laws.{tree_sound}
use Rattle.json_text.proofs.Put.{members_depth_bare}
use Rattle.group_rows.specs.response_route.specs.json_nodes.specs.Puts.{member_edits, new_or, put_members}
use Rattle.group_rows.specs.response_route.specs.json_nodes.proofs.PutBare.{flat_members}
use Rattle.rpc_message.specs.Message.{Id, Message, given, id_of, message_of, notification}
use Rattle.rpc_message.specs.ValueTexts.{IsIdText, IsOptionText, IsValueText}
use Rattle.rpc_message.proofs.Ids.{id_flat}
use Rattle.rpc_message.proofs.PutLaws.{notification_puts}
use Rattle.document_model.proofs.Bares.{Notice, notice}
use Rattle.event_model.specs.Members.{named_of, string_of}
use Rattle.group_rows.specs.Tokens.{mark_edits, marked_text, new_mark}
use Rattle.session_laws.specs.Progress.{is_end, token_at}

-- a body ends what it tells of
abbrev pub is_ending : Message → Bool
is_ending (notification method params) = is_end params
is_ending other = false

abbrev pub ends : List ℕ → Bool
ends body = is_ending (message_of body)

pub id_bare : (j : Json) → id_of (bare j) ≡ id_of j
id_bare (word s w) = refl
id_bare (number s ds) = refl
id_bare (string s cs) = refl
id_bare (array s js) = refl
id_bare (object s ms) = refl

module _ (new : Json) where
  -- it, for the name `token`
  abbrev new_token : List ℕ → Option Json
  new_token name = if bytes_eq (codes "token") name then Some new else None

  texts : (text : List ℕ) → IsValueText new text → (name : List ℕ) → IsOptionText (new_token name) (new_mark text name)
  texts text w name = go (bytes_eq (codes "token") name)
    where
      go : (b : Bool) → IsOptionText (if b then Some new else None) (if b then Some text else None)
      go true = w
      go false = tt

  flat : depth new ≡ 0 → (name : List ℕ) → MatchOption (new_token name) (Unit {0}) (λ u. depth u ≡ 0)
  flat low name = go (bytes_eq (codes "token") name)
    where
      go : (b : Bool) → MatchOption (if b then Some new else None) (Unit {0}) (λ u. depth u ≡ 0)
      go true = low
      go false = tt

  none_case : (j : Json) (o r : Option Json) (b : Bool) → (o ≡ None → r ≡ None) → or_else o (if_named b j) ≡ None → or_else r (if_named b (new_or (if b then Some new else None) j)) ≡ None
  none_case j (Some k) r b g e = absurd (cc)
  none_case j None r true g e = absurd (cc)
  none_case j None r false g e = ap (λ z. or_else z None) (g refl)

  no_token : (ms : Members) → named (codes "token") ms ≡ None → named (codes "token") (put_members new_token ms) ≡ None
  unfolding named
  no_token no_members e = refl
  no_token (member s cs j ms) e = none_case j (named (codes "token") ms) (named (codes "token") (put_members new_token ms)) (bytes_eq (codes "token") cs) (λ h. no_token ms h) e

  token_case : (j x : Json) (o r : Option Json) (b : Bool) → ((k : Json) → o ≡ Some k → r ≡ Some new) → (o ≡ None → r ≡ None) → or_else o (if_named b j) ≡ Some x → or_else r (if_named b (new_or (if b then Some new else None) j)) ≡ Some new
  token_case j x (Some k) r b f g e = ap (λ z. or_else z (if_named b (new_or (if b then Some new else None) j))) (f k refl)
  token_case j x None r true f g e = ap (λ z. or_else z (Some new)) (g refl)
  token_case j x None r false f g e = absurd (cc)

  -- the members name it then
  token_put : (ms : Members) (x : Json) → named (codes "token") ms ≡ Some x → named (codes "token") (put_members new_token ms) ≡ Some new
  unfolding named
  token_put no_members x e = absurd (cc)
  token_put (member s cs j ms) x e = token_case j x (named (codes "token") ms) (named (codes "token") (put_members new_token ms)) (bytes_eq (codes "token") cs) (λ k h. token_put ms k h) (λ h. no_token ms h) e

  value_case : (cs : List ℕ) (j : Json) (o r : Option Json) → r ≡ o → (b : Bool) → bytes_eq (codes "value") cs ≡ b → or_else r (if_named b (new_or (new_token cs) j)) ≡ or_else o (if_named b j)
  value_case cs j o r same true named = ap₂ (λ p q. or_else p (if_named true (new_or (new_token q) j))) same (sym ((bytes_eq-Decides (codes "value") cs).0 named))
  value_case cs j o r same false other = ap (λ p. or_else p None) same

  -- and the same value
  value_put : (ms : Members) → named (codes "value") (put_members new_token ms) ≡ named (codes "value") ms
  unfolding named
  value_put no_members = refl
  value_put (member s cs j ms) = value_case cs j (named (codes "value") ms) (named (codes "value") (put_members new_token ms)) (value_put ms) (bytes_eq (codes "value") cs) refl

-- a notification of the same method, whose token this is
pub record Marked (id : Id) (text body method : List ℕ) : Type 0 where
  pub params : Option Json
  pub says : message_of (marked_text text body) ≡ notification method params
  pub names : token_at (codes "token") params ≡ Some id
  pub ending : is_end params ≡ ends body

module _ (id : Id) (text body method : List ℕ) (params : Option Json) (written : IsIdText id text) (says : message_of body ≡ notification method params) where
  abbrev tree : Json
  tree = bare written.tree

  value_text : IsValueText tree text
  value_text = record { tree = written.tree; stands = written.stands; same = refl }

  is_id : id_of tree ≡ Some id
  is_id = id_bare written.tree ∙ written.is

  said : Notice method params body
  said = notice method params body says

  under : (r : Span) (js : Members) (x : Json) → named (codes "params") said.members ≡ Some (object r js) → params ≡ Some (object nowhere (bare_members js)) → named (codes "token") (bare_members js) ≡ Some x → Marked id text body method
  unfolding put_at value_at
  under r js x at is has = record {
    params = Some (object nowhere (put_members (new_token tree) (bare_members js)));
    says = ap message_of bytes
        ∙ notification_puts body [] (object nowhere (bare_members js)) (object said.span said.members) [] r js (new_mark text) (new_token tree) said.tree (texts tree text value_text) shallow method
        (says ∙ ap (λ z. notification method z) is) (ap (λ o. option_and_then (λ k. value_at [] k) o) at);
    ending = ap (λ o. option_map_or (bytes_eq (codes "end")) (string_of (named_of (codes "kind") o)) false) (value_put tree (bare_members js)) ∙ sym (ap is_ending (says ∙ ap (λ z. notification method z) is));
    names = ap (λ o. option_and_then id_of o) (token_put tree (bare_members js) x has) ∙ is_id;
  }
    where
      bytes : marked_text text body ≡ replace body (member_edits (new_mark text) js)
      bytes = ap (λ o. replace body (mark_edits text (named_of (codes "params") o))) said.tree ∙ ap (λ o. replace body (mark_edits text o)) at

      shallow : depth (put_at [] (object nowhere (put_members (new_token tree) (bare_members js))) (object nowhere (bare_members js))) ≤ 1023
      shallow =
          let sound : IsText body (object said.span said.members) × (depth (object said.span said.members) ≤ 1024) = tree_sound body (object said.span said.members) said.tree in
          let whole : depth (object said.span said.members) ≤ 1024 = sound.1 in
          let inside : depth (object r js) ≤ members_depth said.members = named_below (codes "params") said.members (object r js) at in
          let same : members_depth (bare_members js) ≡ members_depth js = members_depth_bare js in
          let less : members_depth (put_members (new_token tree) (bare_members js)) ≤ members_depth (bare_members js) = flat_members (new_token tree) (bare_members js) (flat tree (id_flat tree id is_id)) in
          omega (arith, whole, inside, same, less)

  by_token : (r : Span) (js : Members) → named (codes "params") said.members ≡ Some (object r js) → params ≡ Some (object nowhere (bare_members js))
      → (o : Option Json) → named (codes "token") (bare_members js) ≡ o → is_some o ≡ true → Marked id text body method
  by_token r js at is (Some x) e h = under r js x at is e
  by_token r js at is None e h = absurd (cc)

  by_params : (o : Option Json) → named (codes "params") said.members ≡ o → params ≡ given o → is_some (named_of (codes "token") (given o)) ≡ true → Marked id text body method
  by_params (Some (object r js)) at is h = by_token r js at is (named (codes "token") (bare_members js)) refl h
  by_params (Some (word r Null)) at is h = absurd (cc)
  by_params (Some (word r False)) at is h = absurd (cc)
  by_params (Some (word r True)) at is h = absurd (cc)
  by_params (Some (number r ds)) at is h = absurd (cc)
  by_params (Some (string r cs)) at is h = absurd (cc)
  by_params (Some (array r js)) at is h = absurd (cc)
  by_params None at is h = absurd (cc)

  pub marked : is_some (named_of (codes "token") params) ≡ true → Marked id text body method
  marked h = by_params (named (codes "params") said.members) refl (sym said.is_given) (ap (λ o. is_some (named_of (codes "token") o)) said.is_given ∙ h)
