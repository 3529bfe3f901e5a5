use Rattle.std.proofs.Common.{◌∙◌}
use Rattle.diagnostics_route.proofs.Shows.{cut}
use Rattle.diagnostics_route.proofs.showing.plain_at.Goals as goal

pub returns : goal.returns
returns c = λ t a. c.new.ensures ∙ cut c.args.values.bytes.now c.new-out.result.items c.write_part.new.out.items c.write_without.new.out.items c.write_part-2.new.out.items t c.span-span.result
    (c.span-span.ensures.span t a) c.new-out.ensures.items c.in_ok-write_part.ensures (c.in_ok-write_without.ensures t a) c.in_ok-write_part-2.ensures
