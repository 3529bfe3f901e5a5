use Rattle.std.proofs.Common.{refl, subst, codes}
use Rattle.mux_members.specs.Finds.{Rest}
use Rattle.mux_members.specs.Members.{listed, named_of}
use Rattle.diagnostics_route.proofs.Says.{no_item, some_item}
use Rattle.diagnostics_route.proofs.reading.is_empty.Goals as goal

pub returns-in-Some : goal.returns-in-Some
returns-in-Some c = λ o f. some_item c.args.tape.now _ (listed (named_of (codes "diagnostics") o))
    (subst (λ z. Rest c.args.tape.now z (listed (named_of (codes "diagnostics") o))) c.in-Some.is (c.first_item.ensures.rest _ (c.member.ensures refl o f)))

pub returns-in-None : goal.returns-in-None
returns-in-None c = λ o f. no_item c.args.tape.now (listed (named_of (codes "diagnostics") o))
    (subst (λ z. Rest c.args.tape.now z (listed (named_of (codes "diagnostics") o))) c.in-None.is (c.first_item.ensures.rest _ (c.member.ensures refl o f)))
