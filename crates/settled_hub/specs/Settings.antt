-- The hub's part of settings.
use Rattle.event_model.specs.Settings.{Settings}
use Rattle.mux_config.specs.declared.config.Config.{Config}

-- the settings of a hub
abbrev pub hub_settings : Config → Settings
hub_settings config = record { limits = config.limits; servers = config.servers.items; default = config.default }
