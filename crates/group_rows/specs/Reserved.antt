-- Tokens for progress that an editor or a start may not choose, since they might be the daemon's (LSP 3.17, Work Done Progress and Partial Result Progress).
use Rattle.std.specs.Prelude.{ℕ, Bool, false, ◌||◌, List, codes, bytes_eq, take}
use Rattle.std.specs.Prelude.{Option}
use Rattle.std.specs.Option.{option_map_or}
use Rattle.json_text.specs.Json.{Json}
use Rattle.event_model.specs.Members.{named_of, string_of}

abbrev pub begins_as_mark : List ℕ → Bool
begins_as_mark cs = bytes_eq (codes "lspmux:") (take 7 cs)

abbrev pub is_reserved : Option Json → Bool
is_reserved token = option_map_or begins_as_mark (string_of token) false

abbrev pub reserves : Option Json → Bool
reserves params = is_reserved (named_of (codes "workDoneToken") params) || is_reserved (named_of (codes "partialResultToken") params)
