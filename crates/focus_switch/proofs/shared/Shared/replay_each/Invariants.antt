use Rattle.std.proofs.Common.{◌≡◌, take}
use Rattle.std.specs.Prelude.{fold}
use Rattle.focus_switch.specs.Rows.{Step, nothing}
use Rattle.focus_switch.specs.Walks.{replay_next}
use Rattle.document_table.specs.Shown.{all_bytes}
use Rattle.focus_switch.proofs.shared.Shared.replay_each.Given as goal

abbrev pub invariant-loop-uri : goal.invariant-loop-uri
invariant-loop-uri g l = ◌≡◌ {A = Step} (record { outs = l.outs; after = l.self }) (fold replay_next (nothing l.initial.self) (all_bytes (take l.uri-index l.uris)))
