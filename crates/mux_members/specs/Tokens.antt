-- What is read of a token for progress (LSP 3.17, ProgressToken).
use Rattle.std.specs.Prelude.{ℕ, List, if◌then◌else◌}
use Rattle.std.specs.Prelude.{Option, None}
use Rattle.std.specs.Option.{option_and_then}
use Rattle.json_text.specs.Json.{Json}
use Rattle.mux_model.specs.doc_text.specs.Changes.{string_text}
use Rattle.mux_model.specs.event_model.specs.Members.{bytes_if, is_token, named_of, params_of}

-- the bytes of the last member of this name of a body's params, where it is a token
abbrev pub token_bytes : List ℕ → List ℕ → Option (List ℕ)
token_bytes name body = if is_token (named_of name (params_of body)) then bytes_if name (params_of body) body else None

-- the characters of a string, in UTF-8
abbrev pub text_of : Option Json → Option (List ℕ)
text_of o = option_and_then string_text o
