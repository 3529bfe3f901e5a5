-- Bytes that are the text of a value, of an id, or of a response's id, with no whitespace around them.
use Rattle.std.specs.Prelude.{◌≡◌, ℕ, ◌≤◌, List}
use Rattle.std.specs.Prelude.{Option, Some, None}
use Rattle.json_text.specs.Json.{Json, value, depth}
use Rattle.json_text.specs.Bare.{bare}
use Rattle.rpc_message.specs.Message.{Id, id_of, response_id}

-- of a value that says what v says; v has no places
pub record IsValueText (v : Json) (bytes : List ℕ) : Type 0 where
  pub tree : Json
  pub stands : value tree 0 bytes
  pub same : bare tree ≡ v

-- of a value that nests so deep at most
pub record IsShallowText (d : ℕ) (v : Json) (bytes : List ℕ) : Type 0 where
  pub text : IsValueText v bytes
  pub shallow : depth v ≤ d

-- how deep a value nests, where it is there
abbrev pub option_depth : Option Json → ℕ
option_depth None = 0
option_depth (Some j) = depth j

-- of a value that may be there or not
abbrev pub IsOptionText : Option Json → Option (List ℕ) → Type 0
IsOptionText None None = Unit {0}
IsOptionText (Some v) (Some bytes) = IsValueText v bytes
IsOptionText None (Some bytes) = ⊥
IsOptionText (Some v) None = ⊥

pub record IsIdText (id : Id) (bytes : List ℕ) : Type 0 where
  pub tree : Json
  pub stands : value tree 0 bytes
  pub is : id_of tree ≡ Some id

-- None is null
pub record IsResponseIdText (id : Option Id) (bytes : List ℕ) : Type 0 where
  pub tree : Json
  pub stands : value tree 0 bytes
  pub is : response_id tree ≡ Some id
