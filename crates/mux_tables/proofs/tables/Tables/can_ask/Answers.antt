-- Whether the last start takes a request.
use Rattle.std.proofs.Common.{ap, ◌∙◌, ◌&&◌, nat_lt}
use Rattle.event_model.specs.Stages.{is_ready}
use Rattle.mux_tables.specs.declared.tables.Start.{Start}
use Rattle.mux_tables.proofs.Homes.{asks_at}
use Rattle.mux_tables.proofs.Starts.{read_same}
use Rattle.mux_tables.proofs.tables.Tables.can_ask.Goals as goal

pub returns-clause-stands : goal.returns-clause-stands
returns-clause-stands c = λ settings events s at st. asks_at settings c.args.self.now events c.args.g s c.index.result.now at c.requires c.index.ensures st c.can_ask.result c.can_ask.ensures.asks

pub returns-clause-takes : goal.returns-clause-takes
returns-clause-takes c = λ x at. c.can_ask.ensures.asks ∙ ap (λ (z : Start). is_ready z.life.stage && nat_lt z.ids.next z.ids.limit) (read_same c.args.self.now.lasts.items c.args.g c.index.result.now x c.requires c.index.ensures at)
