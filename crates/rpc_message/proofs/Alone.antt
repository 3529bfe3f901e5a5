-- A body whose id changes, and nothing else.
use Rattle.std.proofs.Common.{◌≡◌, ℕ, List, [], Option, Some, None, codes, refl, sym, subst, arith}
use Rattle.json_text.specs.declared.span.Span.{Span}
use Rattle.json_text.specs.Json.{Json, word, number, string, array, object, Members}
use Rattle.json_text.specs.Named.{named}
use Rattle.json_text.specs.Replace.{Rise, replace}
use Rattle.json_text.specs.Tree.{tree_of}
use Rattle.json_text.proofs.Inside.{InSpan, member_in_span}
use Rattle.json_text.proofs.Laws.{tree_sound}
use Rattle.rpc_message.specs.Changed.{changed_text, id_edits, id_edits_at}
use Rattle.rpc_message.specs.Message.{place_in}
use Rattle.rpc_message.specs.Texts.{with_id_at, with_id_text}
use Rattle.rpc_message.proofs.Ids.{place_of, no_place}

pub alone_text : (body w : List ℕ) → changed_text body w [] ≡ with_id_text body w
unfolding id_edits with_id_text
alone_text body w = go (place_in (codes "id") (tree_of body))
  where
    go : (o : Option Span) → replace body (id_edits_at w [] o) ≡ with_id_at body w o
    go None = refl
    go (Some s) = refl

module _ (body w : List ℕ) where
  no_edits : Rise body []
  no_edits = omega arith

  in_object : (s : Span) (ms : Members) → tree_of body ≡ Some (object s ms) → (o : Option Json) → named (codes "id") ms ≡ o → Rise body (id_edits_at w [] (place_in (codes "id") (tree_of body)))
  in_object s ms tree (Some t) e =
      let i : InSpan body t = member_in_span body s (codes "id") ms t (tree_sound body (object s ms) tree).0 e in
      subst (λ z. Rise body (id_edits_at w [] z)) (sym (place_of (codes "id") body s ms t tree e)) (omega arith, i.ordered, i.fits)
  in_object s ms tree None e = subst (λ z. Rise body (id_edits_at w [] z)) (sym (no_place (codes "id") body s ms tree e)) no_edits

  in_tree : (o : Option Json) → tree_of body ≡ o → Rise body (id_edits_at w [] (place_in (codes "id") (tree_of body)))
  in_tree (Some (object s ms)) e = in_object s ms e (named (codes "id") ms) refl
  in_tree None e = subst (λ z. Rise body (id_edits_at w [] (place_in (codes "id") z))) (sym e) no_edits
  in_tree (Some (word s x)) e = subst (λ z. Rise body (id_edits_at w [] (place_in (codes "id") z))) (sym e) no_edits
  in_tree (Some (number s ds)) e = subst (λ z. Rise body (id_edits_at w [] (place_in (codes "id") z))) (sym e) no_edits
  in_tree (Some (string s cs)) e = subst (λ z. Rise body (id_edits_at w [] (place_in (codes "id") z))) (sym e) no_edits
  in_tree (Some (array s js)) e = subst (λ z. Rise body (id_edits_at w [] (place_in (codes "id") z))) (sym e) no_edits

  pub id_alone : Rise body (id_edits body w [])
  unfolding id_edits
  id_alone = in_tree (tree_of body) refl
