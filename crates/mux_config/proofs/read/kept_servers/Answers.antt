use Rattle.std.proofs.Common.{◌≡◌, ◌≤◌, ◌∙◌, Some, subst, arith}
use Rattle.std.proofs.lemmas.Grind.{common_steps}
use Rattle.toml.specs.View.{table_view}
use Rattle.mux_config.specs.Settings.{count, servers_in}
use Rattle.mux_config.proofs.Faultless.{servers_kept}
use Rattle.mux_config.proofs.Tables.{there}
use Rattle.mux_config.proofs.read.kept_servers.Goals as goal

pub unwrap-requires : goal.unwrap-requires
unwrap-requires c = let k = servers_kept (table_view c.args.table.now) c.requires in there (λ servers. table_view servers.now) c.servers.result k.servers (c.servers.ensures ∙ k.found)

pub returns-clause-few : goal.returns-clause-few
returns-clause-few c =
    let k = servers_kept (table_view c.args.table.now) c.requires in
    let s : servers_in (table_view c.args.table.now) ≡ Some (table_view c.unwrap.result.now) = grind (arith, common_steps) in
    let e : k.servers ≡ table_view c.unwrap.result.now = cc in
    subst (λ z. count z ≤ 1024) e k.few
