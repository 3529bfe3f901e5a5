-- What an editor's own `$/cancelRequest` says under the number of the request that it names.
use Rattle.std.proofs.Common.{◌≡◌, ℕ, ◌<◌, ◌≤◌, ◌^◌, Bool, true, false, List, [], codes, bytes_eq, decimal, if◌then◌else◌, Option, Some, None, refl, sym, ◌∙◌, ap, append-nil, arith}
use Rattle.std.specs.Option.{option_and_then}
use Rattle.std.specs.Prelude.{MatchOption}
use Rattle.json_text.specs.declared.kind.Word.TheVariants.{Null, False, True}
use Rattle.json_text.specs.declared.span.Span.{Span}
use Rattle.json_text.specs.Bare.{bare_members, nowhere}
use Rattle.json_text.specs.Json.{Json, word, number, string, array, object, Members, no_members, member, IsText, depth, members_depth}
use Rattle.json_text.specs.Named.{named, if_named, or_else}
use Rattle.json_text.specs.Number.{IsNumber}
use Rattle.json_text.specs.Paths.{put_at, value_at}
use Rattle.json_text.specs.Replace.{replace}
use Rattle.json_text.proofs.Depths.{named_below}
use Rattle.json_text.proofs.Laws.{tree_complete, tree_sound}
use Rattle.json_text.proofs.Moves.{placed}
use Rattle.json_text.proofs.Put.{members_depth_bare}
use Rattle.response_route.specs.json_nodes.specs.Puts.{member_edits, new_or, put_members}
use Rattle.response_route.specs.json_nodes.proofs.PutBare.{flat_members}
use Rattle.rpc_message.specs.Message.{Id, given, id_of, message_of, notification}
use Rattle.rpc_message.specs.ValueTexts.{IsIdText, IsOptionText}
use Rattle.rpc_message.proofs.Decimals.{decimal_number}
use Rattle.rpc_message.proofs.Ids.{id_flat}
use Rattle.rpc_message.proofs.PutLaws.{notification_puts}
use Rattle.response_route.specs.document_model.proofs.Bares.{Notice, notice}
use Rattle.event_model.specs.Members.{named_of}
use Rattle.group_rows.specs.Cancelling.{id_puts, new_id, numbered_text}
use Rattle.group_rows.specs.Waiting.{id_meant, named_id}

-- the id of the text of an id
pub text_meant : (id : Id) (bytes : List ℕ) → IsIdText id bytes → id_meant bytes ≡ Some id
text_meant id bytes h =
    let flat : depth h.tree ≡ 0 = id_flat h.tree id h.is in
    ap (λ o. option_and_then id_of o) (tree_complete bytes h.tree whole (omega (arith, flat))) ∙ h.is
  where
    whole : IsText bytes h.tree
    whole = ([], bytes, refl, tt, (bytes, [], sym (append-nil bytes), h.stands, tt))

module _ (digits : List ℕ) where
  -- the number as a value, for the name `id`
  abbrev new_number : List ℕ → Option Json
  new_number name = if bytes_eq (codes "id") name then Some (number nowhere digits) else None

  texts : IsNumber digits → (name : List ℕ) → IsOptionText (new_number name) (new_id digits name)
  texts n name = go (bytes_eq (codes "id") name)
    where
      go : (b : Bool) → IsOptionText (if b then Some (number nowhere digits) else None) (if b then Some digits else None)
      go true = let p = placed (number nowhere digits) 0 digits (refl, n) in record { tree = p.tree; stands = p.stands; same = p.same }
      go false = tt

  flat : (name : List ℕ) → MatchOption (new_number name) (Unit {0}) (λ u. depth u ≡ 0)
  flat name = go (bytes_eq (codes "id") name)
    where
      go : (b : Bool) → MatchOption (if b then Some (number nowhere digits) else None) (Unit {0}) (λ u. depth u ≡ 0)
      go true = refl
      go false = tt

  none_case : (j : Json) (o r : Option Json) (b : Bool) → (o ≡ None → r ≡ None) → or_else o (if_named b j) ≡ None
      → or_else r (if_named b (new_or (if b then Some (number nowhere digits) else None) j)) ≡ None
  none_case j (Some k) r b g e = absurd (cc)
  none_case j None r true g e = absurd (cc)
  none_case j None r false g e = ap (λ z. or_else z None) (g refl)

  no_id : (ms : Members) → named (codes "id") ms ≡ None → named (codes "id") (put_members new_number ms) ≡ None
  unfolding named
  no_id no_members e = refl
  no_id (member s cs j ms) e = none_case j (named (codes "id") ms) (named (codes "id") (put_members new_number ms)) (bytes_eq (codes "id") cs) (λ h. no_id ms h) e

  id_case : (j x : Json) (o r : Option Json) (b : Bool) → ((k : Json) → o ≡ Some k → r ≡ Some (number nowhere digits)) → (o ≡ None → r ≡ None) → or_else o (if_named b j) ≡ Some x
      → or_else r (if_named b (new_or (if b then Some (number nowhere digits) else None) j)) ≡ Some (number nowhere digits)
  id_case j x (Some k) r b f g e = ap (λ z. or_else z (if_named b (new_or (if b then Some (number nowhere digits) else None) j))) (f k refl)
  id_case j x None r true f g e = ap (λ z. or_else z (Some (number nowhere digits))) (g refl)
  id_case j x None r false f g e = absurd (cc)

  -- it is what the members then name
  id_put : (ms : Members) (x : Json) → named (codes "id") ms ≡ Some x → named (codes "id") (put_members new_number ms) ≡ Some (number nowhere digits)
  unfolding named
  id_put no_members x e = absurd (cc)
  id_put (member s cs j ms) x e = id_case j x (named (codes "id") ms) (named (codes "id") (put_members new_number ms)) (bytes_eq (codes "id") cs) (λ k h. id_put ms k h) (λ h. no_id ms h) e

-- the body under a number is a notification of the same method, whose params name the number
pub record Renumbered (n : ℕ) (body method : List ℕ) : Type 0 where
  pub params : Json
  pub says : message_of (numbered_text n body) ≡ notification method (Some params)
  pub names : named_of (codes "id") (Some params) ≡ Some (number nowhere (decimal n))

module _ (n : ℕ) (body method : List ℕ) (params : Option Json) (low : n < 10 ^ 64) (says : message_of body ≡ notification method params) where
  said : Notice method params body
  said = notice method params body says

  under : (r : Span) (js : Members) (x : Json) → named (codes "params") said.members ≡ Some (object r js) → params ≡ Some (object nowhere (bare_members js)) → named (codes "id") (bare_members js) ≡ Some x → Renumbered n body method
  unfolding put_at value_at
  under r js x at is id = record {
    params = object nowhere (put_members (new_number (decimal n)) (bare_members js));
    says = ap message_of bytes
        ∙ notification_puts body [] (object nowhere (bare_members js)) (object said.span said.members) [] r js (new_id (decimal n)) (new_number (decimal n)) said.tree (texts (decimal n) (decimal_number n low)) shallow method
        (says ∙ ap (λ z. notification method z) is) (ap (λ o. option_and_then (λ k. value_at [] k) o) at);
    names = id_put (decimal n) (bare_members js) x id;
  }
    where
      bytes : numbered_text n body ≡ replace body (member_edits (new_id (decimal n)) js)
      bytes = ap (λ o. replace body (id_puts (decimal n) (named_of (codes "params") o))) said.tree ∙ ap (λ o. replace body (id_puts (decimal n) o)) at

      shallow : depth (put_at [] (object nowhere (put_members (new_number (decimal n)) (bare_members js))) (object nowhere (bare_members js))) ≤ 1023
      shallow =
          let sound : IsText body (object said.span said.members) × (depth (object said.span said.members) ≤ 1024) = tree_sound body (object said.span said.members) said.tree in
          let whole : depth (object said.span said.members) ≤ 1024 = sound.1 in
          let inside : depth (object r js) ≤ members_depth said.members = named_below (codes "params") said.members (object r js) at in
          let same : members_depth (bare_members js) ≡ members_depth js = members_depth_bare js in
          let less : members_depth (put_members (new_number (decimal n)) (bare_members js)) ≤ members_depth (bare_members js) = flat_members (new_number (decimal n)) (bare_members js) (flat (decimal n)) in
          omega (arith, whole, inside, same, less)

  by_id : (id : Id) (r : Span) (js : Members) → named (codes "params") said.members ≡ Some (object r js) → params ≡ Some (object nowhere (bare_members js))
      → (o : Option Json) → named (codes "id") (bare_members js) ≡ o → option_and_then id_of o ≡ Some id → Renumbered n body method
  by_id id r js at is (Some x) e h = under r js x at is e
  by_id id r js at is None e h = absurd (cc)

  by_params : (id : Id) (o : Option Json) → named (codes "params") said.members ≡ o → params ≡ given o → named_id (given o) ≡ Some id → Renumbered n body method
  by_params id (Some (object r js)) at is h = by_id id r js at is (named (codes "id") (bare_members js)) refl h
  by_params id (Some (word r Null)) at is h = absurd (cc)
  by_params id (Some (word r False)) at is h = absurd (cc)
  by_params id (Some (word r True)) at is h = absurd (cc)
  by_params id (Some (number r ds)) at is h = absurd (cc)
  by_params id (Some (string r cs)) at is h = absurd (cc)
  by_params id (Some (array r js)) at is h = absurd (cc)
  by_params id None at is h = absurd (cc)

  pub renumbered : (id : Id) → named_id params ≡ Some id → Renumbered n body method
  renumbered id h = by_params id (named (codes "params") said.members) refl (sym said.is_given) (ap named_id said.is_given ∙ h)
