-- Settings as the machine holds them.
use Rattle.std.specs.Prelude.{◌<◌, ◌^◌}
use Rattle.event_model.specs.Settings.{Settings}

-- the limits are numbers of 32 bits
pub record InRange (settings : Settings) : Type 0 where
  pub requests : settings.limits.requests < 2 ^ 32
  pub versions : settings.limits.versions < 2 ^ 32
