-- With whom a new start parts.
use Rattle.std.proofs.Common.{Bool, [], ap, sym, ◌∙◌, if◌then◌else◌}
use Rattle.group_rows.specs.Earlier.{shown_in}
use Rattle.mux_starts.proofs.Resulting.{differs_so}
use Rattle.mux_starts.proofs.results.parted_in.Goals as goal

pub returns-in_ok-numbers-clause-those : goal.returns-in_ok-numbers-clause-those
returns-in_ok-numbers-clause-those c = λ settings before body st carried live is.
    c.in_ok-numbers.ensures.those settings before st
    ∙ ap (λ (b : Bool). if b then shown_in settings c.args.g before else []) (sym c.if-differs.true ∙ (c.in_ok-differs.ensures ∙ differs_so settings c.args.carries.now before c.args.g body c.args.shown.now carried live is))

pub returns-else-differs-clause-those : goal.returns-else-differs-clause-those
returns-else-differs-clause-those c = λ settings before body st carried live is.
    c.new.ensures.items ∙ ap (λ (b : Bool). if b then shown_in settings c.args.g before else []) (sym c.if-differs.false ∙ (c.in_ok-differs.ensures ∙ differs_so settings c.args.carries.now before c.args.g body c.args.shown.now carried live is))
