-- What the multiplexer was given.
use Rattle.std.specs.Prelude.{ℕ, List}
use Rattle.event_model.specs.declared.settings.Limits.{Limits}
use Rattle.event_model.specs.declared.settings.Server.{Server}

pub record Settings : Type 0 where
  pub limits : Limits
  pub servers : List Server
  pub default : ℕ
