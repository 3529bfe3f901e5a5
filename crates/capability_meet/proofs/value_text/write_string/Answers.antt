use Rattle.std.proofs.Common.{◌≡◌, ℕ, List, ◌++◌, ◌∙◌, ap, subst, encode_utf8_all}
use Rattle.std.specs.Prelude.{OnOk}
use Rattle.capability_meet.specs.ValueText.{marked}
use Rattle.capability_meet.proofs.Pieces.{behind_byte}
use Rattle.capability_meet.proofs.value_text.write_string.Goals as goal

pub returns : goal.returns
returns c = λ s cs a.
    let is : c.as_slice.result.now ≡ encode_utf8_all cs = c.as_slice.ensures.value ∙ c.in_ok-characters.ensures cs (c.string.ensures.spelled s cs a) in
    subst (λ (x : List ℕ). OnOk c.write_marked.result (c.write_marked.new.out.items ≡ x)) (ap (λ z. c.write.new.out.items ++ marked z) is ∙ behind_byte 34 c.args.out.now.items c.write.new.out.items (marked (encode_utf8_all cs)) c.in_ok-write.ensures) c.write_marked.ensures
