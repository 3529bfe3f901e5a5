use Rattle.std.proofs.Common.{◌≡◌, ◌+◌, length, drop, false}
use Rattle.std.specs.Str.{chars}
use Rattle.position_codec.specs.Position.{bytes}
use Rattle.position_codec.specs.Walk.{at, walk}
use Rattle.position_codec.proofs.offset_of.Given as goal

-- what was passed and what is still to come are the text, and the way to the place
abbrev pub invariant-loop-c : goal.invariant-loop-c
invariant-loop-c l =
    (l.offset + bytes (drop (length l.yielded) (chars l.text)) ≡ bytes (chars l.text)) × (l.offset + walk l.encoding l.place (drop (length l.yielded) (chars l.text)) ≡ walk l.encoding (at l.line l.character false) (chars l.text))
