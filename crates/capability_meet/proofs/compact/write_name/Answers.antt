use Rattle.std.proofs.Common.{◌≡◌, ℕ, List, [], ◌∷◌, ◌++◌, subst, sym, ap, ◌∙◌}
use Rattle.std.specs.Prelude.{OnOk}
use Rattle.json_text.specs.declared.span.Span.{Span}
use Rattle.json_nodes.specs.Texts.{between}
use Rattle.capability_meet.specs.Compact.{name_text}
use Rattle.json_nodes.specs.Values.{doc_of}
use Rattle.capability_meet.proofs.Names.{name_text_is}
use Rattle.capability_meet.proofs.compact.write_name.Goals as goal

pub returns : goal.returns
returns c = λ k n s p ms rest cs u a h.
    let place : c.name_place-place.result ≡ p = c.name_place-place.ensures k n s p ms rest cs u a h in
    let middle : c.write.new.out.items ≡ c.args.out.now.items ++ name_text c.args.values.bytes.now p cs =
    c.in_ok-write.ensures ∙ ap (λ z. c.args.out.now.items ++ z) (c.part.ensures ∙ ap (λ (z : Span). between z.from z.to c.args.values.bytes.now) place ∙ sym (name_text_is (doc_of c.args.values) k n c.args.node s p ms rest cs u a h)) in
    subst (λ (z : List ℕ). OnOk c.write-2.result (c.write-2.new.out.items ≡ z ++ 58 ∷ [])) middle c.write-2.ensures
