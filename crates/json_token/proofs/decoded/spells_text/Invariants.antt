use Rattle.std.proofs.Common.{length, drop}
use Rattle.std.specs.Str.{chars}
use Rattle.json_token.proofs.Comparing.{Matches}
use Rattle.json_token.proofs.decoded.spells_text.Given as goal

abbrev pub invariant-loop-wanted : goal.invariant-loop-wanted
invariant-loop-wanted l = Matches l.raw l.rest (chars l.text) (drop (length l.yielded) (chars l.text))
