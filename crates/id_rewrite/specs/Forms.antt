-- What an identifier's bytes stand for (JSON-RPC 2.0, section 4), for any bytes: those of a string by their characters, all others by themselves.
use Rattle.std.specs.Prelude.{ℕ, zero, suc, ◌-◌, Bool, List, [], ◌∷◌, length, slice_range, bytes_eq, if◌then◌else◌}
use Rattle.std.specs.Prelude.{None, Some}
use Rattle.json_token.specs.Characters.{Front, next_character}
use Rattle.response_route.specs.rpc_message.specs.Ids.{is_quoted}

abbrev pub first_then : Front → (List ℕ → List ℕ) → List ℕ
first_then None rest = []
first_then (Some p) rest = p.0 ∷ rest p.1

-- the first n characters at most (RFC 8259, section 7)
abbrev pub characters_within : ℕ → List ℕ → List ℕ
characters_within zero raw = []
characters_within (suc n) raw = first_then (next_character raw) (characters_within n)

-- the characters that the bytes between a string's quotation marks stand for
abbrev pub characters_of : List ℕ → List ℕ
characters_of raw = characters_within (length raw) raw

-- what is between the quotation marks
abbrev pub inner : List ℕ → List ℕ
inner id = slice_range id 1 (length id - 1)

-- a string's characters behind a quotation mark, and other bytes as they are
abbrev pub form : List ℕ → List ℕ
form id = if is_quoted id then 34 ∷ characters_of (inner id) else id

abbrev pub same_form : List ℕ → List ℕ → Bool
same_form a b = bytes_eq (form a) (form b)
