use Rattle.std.proofs.Common.{◌≡◌, ◌++◌, take}
use Rattle.std.specs.Prelude.{flat_map}
use Rattle.event_model.specs.Event.{said}
use Rattle.journal_show.specs.Parts.{seen_line}
use Rattle.journal_show.proofs.part.write_all_said.Given as goal

abbrev pub invariant-loop-out : goal.invariant-loop-out
invariant-loop-out l = l.text.items ≡ l.initial.text.items ++ flat_map (λ out. seen_line l.side (said out)) (take l.out-index l.outs)
