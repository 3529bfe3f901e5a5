use Rattle.std.proofs.Common.{◌≡◌, true, take}
use Rattle.std.specs.List.{list_all}
use Rattle.document_table.specs.Shown.{all_bytes}
use Rattle.focus_switch.specs.Rows.{agreement, is_agreed}
use Rattle.focus_switch.proofs.shared.Shared.agrees_on_each.Given as goal

abbrev pub invariant-loop-uri : goal.invariant-loop-uri
invariant-loop-uri g l = list_all (λ u. is_agreed (agreement l.e u l.self)) (all_bytes (take l.uri-index l.uris)) ≡ true
