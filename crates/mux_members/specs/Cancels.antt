-- What is read of a cancel (LSP 3.17, Cancellation Support).
use Rattle.std.specs.Prelude.{ℕ, Bool, ◌||◌, List}
use Rattle.std.specs.Prelude.{Option, Some, None}
use Rattle.json_text.specs.Json.{Json}
use Rattle.rpc_message.specs.Message.{Id, is_integer_value, is_string_value}
use Rattle.rpc_message.specs.ValueTexts.{IsIdText}

abbrev pub may_be_id : Option Json → Bool
may_be_id o = is_integer_value o || is_string_value o

-- these bytes are the text of the id, or there is neither
abbrev pub IsTextOf : Option Id → Option (List ℕ) → Type 0
IsTextOf (Some id) (Some bytes) = IsIdText id bytes
IsTextOf None None = Unit {0}
IsTextOf (Some id) None = ⊥
IsTextOf None (Some bytes) = ⊥
