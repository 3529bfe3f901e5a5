use Rattle.std.proofs.Common.{subst, sym, ◌∙◌, arith, []}
use Rattle.mux_facts.specs.Ranges.{InRange}
use Rattle.mux_hub.specs.Hubs.{Tells}
use Rattle.settled_hub.specs.Settings.{hub_settings}
use Rattle.drive_program.proofs.Ends.{never_ran, ran_of}
use Rattle.drive_program.proofs.program.run.Goals as goal

pub returns-in-Err-clause-ran : goal.returns-in-Err-clause-ran
returns-in-Err-clause-ran g c =
    let limits = c.args.config.in_range.limits in
    let range : InRange (hub_settings c.args.config) = record { requests = omega (arith, limits.requests.1); versions = omega (arith, limits.versions.1) } in
    never_ran g.J.Journal.told c.args.config.content (hub_settings c.args.config) c.in-Err.journal (g.I.Source.left c.args.input.now) (g.O.Sink.written c.args.output.now) range
    (subst (λ j. Tells (g.J.Journal.told j) []) (sym c.in-Err.ensures.back) c.requires)

pub returns-clause-ran : goal.returns-clause-ran
returns-clause-ran g c = ran_of g.J.Journal.told c.in-Ok.settled.content c.args.config.content c.in-Ok.settled.hub.settings (hub_settings c.args.config) c.close.result (g.I.Source.left c.args.input.now) (g.I.Source.left c.drive-result.new.input)
    (g.O.Sink.written c.args.output.now) (g.O.Sink.written c.drive-result.new.output) c.drive-result.new.hub c.drive-result.result c.drive-result.ensures.driven c.in-Ok.ensures.content c.in-Ok.ensures.settings c.drive-result.ensures.settings
    c.close.ensures c.sessions_law.ensures

pub drive-result-requires-clause-wide : goal.drive-result-requires-clause-wide
drive-result-requires-clause-wide g c = let within = c.args.config.in_range.content.0 in let same = c.in-Ok.ensures.content in omega (arith, within, same)

pub drive-result-requires-clause-small : goal.drive-result-requires-clause-small
drive-result-requires-clause-small g c = let within = c.args.config.in_range.content.1 in let same = c.in-Ok.ensures.content in omega (arith, within, same)
