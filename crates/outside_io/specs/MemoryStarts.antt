-- What a berth in memory tells of what it was asked for.
use Rattle.std.specs.Prelude.{map, option_map, string_bytes}
use Rattle.outside_io.specs.Starts.{Start}
use Rattle.outside_io.specs.declared.memory.berth.Asked.{Asked}

abbrev pub start_of : Asked → Start
start_of asked = record { words = map string_bytes asked.words.items; folder = option_map string_bytes asked.folder }
