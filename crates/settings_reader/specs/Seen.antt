-- The settings of the program as definitions speak of them.
use Rattle.trace_model.specs.Settings as plain
use Rattle.settings_reader.specs.declared.settings.Settings.{Settings}

-- the settings as the plain record
abbrev pub as_settings : Settings → plain.Settings
as_settings settings = record { depth = settings.depth; width = settings.width; filters = settings.filters; watchers = settings.watchers }
