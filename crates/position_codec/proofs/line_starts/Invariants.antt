use Rattle.std.proofs.Common.{◌≡◌, ◌+◌, ◌++◌, length, drop}
use Rattle.std.specs.Str.{chars}
use Rattle.position_codec.specs.Position.{bytes}
use Rattle.position_codec.specs.Walk.{found}
use Rattle.position_codec.proofs.line_starts.Given as goal

-- what was passed and what is still to come are the text, and all starts of lines
abbrev pub invariant-loop-c : goal.invariant-loop-c
invariant-loop-c l =
    (l.offset + bytes (drop (length l.yielded) (chars l.text)) ≡ bytes (chars l.text)) × (l.starts.items ++ found l.previous l.offset (drop (length l.yielded) (chars l.text)) ≡ found 10 0 (chars l.text))
