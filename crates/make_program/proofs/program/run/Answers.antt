use Rattle.std.proofs.Common.{subst, sym, arith, []}
use Rattle.drive_text.specs.Made.{made}
use Rattle.mux_facts.specs.Ranges.{InRange}
use Rattle.mux_hub.specs.Hubs.{Tells}
use Rattle.settled_hub.specs.Settings.{hub_settings}
use Rattle.make_program.proofs.Ending.{never_ran, ran_of}
use Rattle.make_program.proofs.program.run.Goals as goal

pub returns-in-Err-clause-ran : goal.returns-in-Err-clause-ran
returns-in-Err-clause-ran g c =
    let limits = c.args.config.in_range.limits in
    let range : InRange (hub_settings c.args.config) = record { requests = omega (arith, limits.requests.1); versions = omega (arith, limits.versions.1) } in
    never_ran g.J.Journal.told (hub_settings c.args.config) c.in-Err.journal (made c.args.count c.args.seed) range (subst (λ j. Tells (g.J.Journal.told j) []) (sym c.in-Err.ensures.back) c.requires)

pub returns-clause-ran : goal.returns-clause-ran
returns-clause-ran g c = ran_of g.J.Journal.told c.in-Ok.settled.hub.settings (hub_settings c.args.config) c.close.result (made c.args.count c.args.seed) c.drive_made-result.new.hub c.drive_made-result.result
    c.drive_made-result.ensures.driven c.in-Ok.ensures.settings c.drive_made-result.ensures.settings c.close.ensures c.sessions_law.ensures
