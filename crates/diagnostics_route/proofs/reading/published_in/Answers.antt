use Rattle.std.proofs.Common.{refl, sym, ◌∙◌, ap}
use Rattle.std.specs.Prelude.{Some}
use Rattle.diagnostics_route.proofs.Says.{no_list, no_uri, with_uri}
use Rattle.diagnostics_route.proofs.reading.published_in.Goals as goal

pub returns-then-not-has_list : goal.returns-then-not-has_list
returns-then-not-has_list c = λ o f. sym (no_list c.args.place c.args.tape.now.bytes o (sym (c.has_list.ensures o f) ∙ c.if-not-has_list.true))

pub returns-in_ok-list_of-in-Some : goal.returns-in_ok-list_of-in-Some
returns-in_ok-list_of-in-Some c = λ o f. ap Some (c.in_ok-list_of-in-Some.ensures o f)
    ∙ sym (with_uri c.args.place c.args.tape.now.bytes o c.in-Some.uri (sym (c.has_list.ensures o f) ∙ c.if-not-has_list.false) (sym (c.in_ok-uri.ensures.said refl o f) ∙ c.in-Some.is))

pub returns-in-None : goal.returns-in-None
returns-in-None c = λ o f. sym (no_uri c.args.place c.args.tape.now.bytes o (sym (c.has_list.ensures o f) ∙ c.if-not-has_list.false) (sym (c.in_ok-uri.ensures.said refl o f) ∙ c.in-None.is))
