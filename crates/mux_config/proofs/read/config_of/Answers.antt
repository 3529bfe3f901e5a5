use Rattle.std.proofs.Common.{◌≡◌, ◌≤◌, nat_cmp, IsUtf8, subst, rules}
use Rattle.std.specs.Cmp.Lexicographic.{slice_cmp}
use Rattle.std.specs.List.{AllByRecursion}
use Rattle.std.specs.List.Sorted.{IsStrictlySortedBy}
use Rattle.toml.specs.View.{table_view}
use Rattle.mux_config.specs.Chosen.{chosen_with, names_of, servers_of}
use Rattle.mux_config.specs.Settings.{count}
use Rattle.mux_config.proofs.Faultless.{servers_kept}
use Rattle.mux_config.proofs.KeptServers.{in_range, in_range_by}
use Rattle.mux_config.proofs.read.config_of.Goals as goal

pub invariant_of-result : goal.invariant_of-result
invariant_of-result c =
    let ms = table_view c.args.table.now in
    let servers = table_view c.kept_servers-servers.result.now in
    let k = servers_kept ms c.requires in
    let found = c.kept_servers-servers.ensures.servers in
    let same : k.servers ≡ servers = cc in
    let items : c.in_ok-named.named.items ≡ servers_of servers = c.in_ok-named.ensures.servers in
    let texts = subst (λ z. AllByRecursion IsUtf8 (names_of z)) items c.in_ok-named.ensures.texts in
    let ascend = subst (λ z. IsStrictlySortedBy (slice_cmp nat_cmp) (names_of z)) items c.in_ok-named.ensures.ascend in
    let some = subst (λ z. 1 ≤ count z) same k.some in
    record { in_range = in_range_by _ (chosen_with ms servers) (in_range ms servers c.requires found some c.kept_servers-servers.ensures.few texts ascend) (search rules) }
