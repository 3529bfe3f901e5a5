use Rattle.std.proofs.Common.{refl, sym, ◌∙◌, ap}
use Rattle.std.specs.Prelude.{Some}
use Rattle.registrations.proofs.Lists.{with_both, without_method, without_name}
use Rattle.registrations.proofs.items.registration_of.Goals as goal

pub returns-then-not-is_text : goal.returns-then-not-is_text
returns-then-not-is_text c = λ j f. sym (without_method c.args.tape.now.bytes j (sym (c.is_text.ensures _ (c.member.ensures refl (Some j) f)) ∙ c.if-not-is_text.true))

pub returns-in_ok-named_as-in-Some : goal.returns-in_ok-named_as-in-Some
returns-in_ok-named_as-in-Some c = λ j f. ap Some (c.in_ok-named_as-in-Some.ensures j f)
    ∙ sym (with_both c.args.tape.now.bytes j c.in-Some.name (sym (c.is_text.ensures _ (c.member.ensures refl (Some j) f)) ∙ c.if-not-is_text.false) (sym (c.in_ok-name.ensures.said refl (Some j) f) ∙ c.in-Some.is))

pub returns-in-None : goal.returns-in-None
returns-in-None c = λ j f. sym (without_name c.args.tape.now.bytes j (sym (c.in_ok-name.ensures.said refl (Some j) f) ∙ c.in-None.is))
