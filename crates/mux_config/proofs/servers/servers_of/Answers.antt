use Rattle.std.proofs.Common.{◌≡◌, [], nat_cmp, sym, subst, ◌∙◌, append-nil, arith}
use Rattle.std.proofs.lemmas.Grind.{common_steps}
use Rattle.std.specs.Cmp.Lexicographic.{slice_cmp}
use Rattle.std.specs.List.Sorted.{IsStrictlySortedBy}
use Rattle.toml.specs.View.{members_view}
use Rattle.mux_config.specs.Chosen.{names_of, servers_of}
use Rattle.mux_config.proofs.Tables.{ascending}
use Rattle.mux_config.proofs.servers.servers_of.Goals as goal

pub returns-clause-ascend : goal.returns-clause-ascend
returns-clause-ascend c =
    let none : c.loop-name.name-iterator ≡ [] = grind (arith, common_steps) in
    let inv = c.loop-name.invariant.0 in
    let whole : c.loop-name.servers.items ≡ servers_of (members_view c.args.table.now.entries) = sym (append-nil c.loop-name.servers.items) ∙ (rw none at inv) in
    subst (λ z. IsStrictlySortedBy (slice_cmp nat_cmp) (names_of z)) (sym whole) (ascending c.args.table.now.entries c.iter-name-items.ensures.ordered)
