-- What is read in a result that may be there or not.
use Rattle.std.specs.Prelude.{Bool, false, List, codes, bytes_eq}
use Rattle.std.specs.Prelude.{Option, Some, None}
use Rattle.std.specs.List.{list_any}
use Rattle.json_text.specs.Json.{Json}
use Rattle.json_text.specs.Named.{named_in}
use Rattle.rpc_message.specs.Message.{Id, integer, text}
use Rattle.position_codec.specs.declared.Encoding.{Encoding}
use Rattle.position_codec.specs.declared.Encoding.TheVariants.{Utf16}
use Rattle.mux_model.specs.Documents.{encoding_in}
use Rattle.mux_model.specs.event_model.specs.Members.{has_versions, is_versioned_edit, reads_versions}

-- the integer 1
abbrev pub is_one : Option Id → Bool
is_one (Some (integer n)) = bytes_eq n (codes "1")
is_one (Some (text cs)) = false
is_one None = false

abbrev pub any_versioned : List Json → Bool
any_versioned js = list_any is_versioned_edit js

abbrev pub any_edit_versioned : List Json → Bool
any_edit_versioned js = list_any (λ j. has_versions (named_in (codes "edit") j)) js

abbrev pub value_reads_versions : Option Json → Bool
value_reads_versions (Some j) = reads_versions j
value_reads_versions None = false

-- how positions count, by an initialize result
abbrev pub value_encoding : Option Json → Encoding
value_encoding (Some j) = encoding_in j
value_encoding None = Utf16
