-- What a `textDocument/publishDiagnostics` says (LSP 3.17, PublishDiagnosticsParams). Where a name stands more than once in an object, its last member counts.
use Rattle.std.specs.Prelude.{ℕ, Bool, true, false, List, [], ◌∷◌, codes, if◌then◌else◌}
use Rattle.std.specs.Prelude.{Option, Some, None}
use Rattle.std.specs.Option.{option_map}
use Rattle.json_text.specs.declared.kind.Word.TheVariants as word_of
use Rattle.json_text.specs.Json.{Json, word, number}
use Rattle.mux_members.specs.Finds.{is_array_value}
use Rattle.mux_members.specs.Members.{listed, named_of, params_of, string_at}
use Rattle.mux_members.specs.rpc_message.specs.Message.{is_integer}
use Rattle.diagnostics_route.specs.declared.last_list.LastList.{LastList}
use Rattle.diagnostics_route.specs.declared.last_list.Version.{Version}
use Rattle.diagnostics_route.specs.declared.last_list.Version.TheVariants.{Absent, Null, Integer, Other}

abbrev pub digits_version : List ℕ → Version
digits_version digits = if is_integer digits then Integer digits else Other

-- a value as a version
abbrev pub version_of : Option Json → Version
version_of None = Absent
version_of (Some (word s word_of.Null)) = Null
version_of (Some (number s digits)) = digits_version digits
version_of (Some other) = Other

abbrev pub version_in : Option Json → Version
version_in params = version_of (named_of (codes "version") params)

abbrev pub are_none : List Json → Bool
are_none [] = true
are_none (j ∷ js) = false

-- no diagnostics
abbrev pub is_empty : Option Json → Bool
is_empty params = are_none (listed (named_of (codes "diagnostics") params))

abbrev pub list_of : ℕ → List ℕ → Option Json → List ℕ → LastList
list_of place body params uri = record { uri = uri; body = body; place = place; version = version_in params; empty = is_empty params }

abbrev pub published_in : ℕ → List ℕ → Option Json → Option LastList
published_in place body params = if is_array_value (named_of (codes "diagnostics") params) then option_map (list_of place body params) (string_at (codes "uri") params) else None

-- S15: the list that a body gives, where it has a string uri and an array of diagnostics
abbrev pub published : ℕ → List ℕ → Option LastList
published place body = published_in place body (params_of body)
