use Rattle.std.proofs.Common.{◌≡◌, ℕ, List, take}
use Rattle.std.specs.List.{list_any}
use Rattle.registrations.specs.Names.{is_named, stands_under}
use Rattle.registrations.proofs.names.names_of.Given as goal

abbrev pub invariant-loop-item : goal.invariant-loop-item
invariant-loop-item l = (name : List ℕ) → stands_under l.names name ≡ list_any (is_named name) (take l.item-index l.items)
