use Rattle.std.proofs.Common.{◌≡◌, ℕ, List, ◌++◌, ◌∙◌, ap, subst}
use Rattle.std.specs.Prelude.{OnOk}
use Rattle.json_text.specs.Json.{number}
use Rattle.capability_meet.specs.ValueText.{marked}
use Rattle.capability_meet.proofs.Pieces.{behind_byte}
use Rattle.capability_meet.proofs.value_text.write_number.Goals as goal

pub returns : goal.returns
returns c = λ s ds a.
    let is : c.bytes.result.now ≡ ds = (c.bytes.ensures.spelled (number s ds) a).0.0 in
    subst (λ (x : List ℕ). OnOk c.write_marked.result (c.write_marked.new.out.items ≡ x)) (ap (λ z. c.write.new.out.items ++ marked z) is ∙ behind_byte 48 c.args.out.now.items c.write.new.out.items (marked ds) c.in_ok-write.ensures) c.write_marked.ensures
