-- The server that a new editor means.
use Rattle.std.proofs.Common.{refl}
use Rattle.mux_tables.proofs.Seen.{server_so}
use Rattle.mux_tables.proofs.tables.Tables.server.Goals as goal
use Rattle.std.specs.Prelude.{Some, None}

pub returns-in-Some : goal.returns-in-Some
returns-in-Some c = λ settings events st new same. server_so settings c.args.self.now events c.args.e st c.requires new (Some c.in-Some.server) c.args.default c.in-Some.server c.in-Some.ensures same refl

pub returns-in-None : goal.returns-in-None
returns-in-None c = λ settings events st new same. server_so settings c.args.self.now events c.args.e st c.requires new None c.args.default c.args.default c.in-None.ensures same refl
