-- How waiting requests are kept: by numbers that rise as they come, and an index of these by editors.
use Rattle.std.specs.Prelude.{ℕ, ◌-◌, Bool, ◌&&◌, List, [], ◌∷◌, length, nat_le, nat_lt}
use Rattle.std.specs.Int.{w64, to_be_bytes}
use Rattle.numbered_rows.specs.Rows.{Indexes, Rise}
use Rattle.held_requests.specs.declared.request.Request.{Request}

-- requests by their numbers, and the number that comes next
pub record Numbered : Type 0 where
  pub rows : List (ℕ × Request)
  pub next : ℕ

-- the key of an editor: its eight bytes
abbrev pub editor_bytes : ℕ → List ℕ
editor_bytes editor = to_be_bytes w64 editor

abbrev pub editor_key : Request → List ℕ
editor_key request = editor_bytes request.editor

-- what is kept: requests below the next number, and their index
pub record IsKept (rows : List (ℕ × Request)) (next : ℕ) (index : List (List ℕ × List ℕ)) : Type 0 where
  pub rise : Rise 0 next rows
  pub editors : Indexes editor_key rows index

-- there is room for one more request of so many bytes behind these, where so many more requests and so many more bytes may wait
abbrev pub has_room : ℕ → ℕ → ℕ → List Request → Bool
has_room bytes count left [] = nat_lt 0 count && nat_le bytes left
has_room bytes count left (r ∷ rs) = nat_lt 0 count && (nat_le (length r.body) left && has_room bytes (count - 1) (left - length r.body) rs)
