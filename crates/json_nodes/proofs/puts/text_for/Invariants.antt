use Rattle.std.proofs.Common.{◌≡◌, ℕ, List, drop}
use Rattle.json_text.specs.String.{SpellsCharacters}
use Rattle.json_nodes.specs.Puts.{text_for}
use Rattle.json_nodes.proofs.puts.text_for.Given as goal

abbrev pub invariant-loop-put : goal.invariant-loop-put
invariant-loop-put l = (cs : List ℕ) → SpellsCharacters cs l.name → text_for (drop l.put-index l.puts) cs ≡ text_for l.puts cs
