-- A buffer before a source: the bytes that were read and aren't used, and how many were used.
use Rattle.std.specs.Prelude.{◌≡◌, ◌⊎◌, ℕ, ◌+◌, ◌^◌, ◌<◌, ◌≤◌, List, [], ◌∷◌, ◌++◌, length, take, drop, nat_eq, position, option_map}
use Rattle.std.specs.Prelude.{Option}
use Rattle.std.specs.Io.KnownBytes.{prepend_known}
use Rattle.drive_program.specs.Lines.{Line, lines_from, longest, onto_line, NoFeed}

pub record BufferView : Type 0 where
  pub pending : List ℕ
  pub used : ℕ

-- the bytes that weren't used, where the source tells what it has left
abbrev pub unused : BufferView → Option (List ℕ) → Option (List ℕ)
unused buffer left = prepend_known buffer.pending left

-- the lines of them
abbrev pub known_lines : BufferView → Option (List ℕ) → Option (List Line)
known_lines buffer left = option_map (lines_from buffer.used) (unused buffer left)

-- a line, and then the known lines
abbrev pub onto_known : Line → Option (List Line) → Option (List Line)
onto_known line known = option_map (λ lines. line ∷ lines) known

-- these bytes, and behind them the known ones, as lines
abbrev pub begun_lines : List ℕ → BufferView → Option (List ℕ) → Option (List Line)
begun_lines line buffer left = option_map (onto_line buffer.used line) (known_lines buffer left)

-- the place of the first line feed
abbrev pub line_feed : List ℕ → Option ℕ
line_feed bytes = position (λ b. nat_eq b 10) bytes

-- in the first of these lines the input passes 2^40 bytes
abbrev pub FirstPasses : List Line → Type 0
FirstPasses [] = ⊥
FirstPasses (line ∷ lines) = 2 ^ 40 < line.upto

-- the first of these lines is too long to be in a form, or in it the input passes 2^40 bytes
abbrev pub FirstTooLong : ℕ → List Line → Type 0
FirstTooLong content [] = ⊥
FirstTooLong content (line ∷ lines) = (2 ^ 40 < line.upto) ⊎ (longest content < length line.bytes)

-- bytes without a line feed went from the pending ones to a line, and the end behind them was passed over
pub record Moved (end : List ℕ) (before now : BufferView) (line_before line_now : List ℕ) : Type 0 where
  pub piece : List ℕ
  pub plain : NoFeed piece
  pub line : line_now ≡ line_before ++ piece
  pub pending : before.pending ≡ (piece ++ end) ++ now.pending
  pub used : now.used ≡ before.used + length (piece ++ end)

-- this line without a line feed and the end behind it came from a buffer and its source
pub record Came (end line : List ℕ) (before now : BufferView) (left_before left_now : Option (List ℕ)) : Type 0 where
  pub plain : NoFeed line
  pub bytes : unused before left_before ≡ prepend_known (line ++ end) (unused now left_now)
  pub used : now.used ≡ before.used + length (line ++ end)

-- the source failed, and what was read by then and not used has no line feed
pub record BrokeOff (before : BufferView) (left_before left_now : Option (List ℕ)) : Type 0 where
  pub piece : List ℕ
  pub plain : NoFeed piece
  pub bytes : unused before left_before ≡ prepend_known piece left_now

-- so many bytes went to a line, and so many more were passed over
pub record Taken (count skipped : ℕ) (before now : BufferView) (line_before line_now : List ℕ) : Type 0 where
  pub line : line_now ≡ line_before ++ take count before.pending
  pub pending : now.pending ≡ drop (count + skipped) before.pending
  pub used : now.used ≡ before.used + (count + skipped)
  pub small : now.used ≤ 2 ^ 40
