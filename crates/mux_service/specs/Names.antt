-- The settings of a hub that nobody named.
use Rattle.std.specs.Prelude.{[]}
use Rattle.event_model.specs.Settings.{Settings}

abbrev pub no_settings : Settings
no_settings = record {
  limits = record { groups = 1; restarts = 0; idle = 0; grace = 0; backlog = 0; requests = 3; versions = 2 };
  servers = [];
  default = 0;
}
