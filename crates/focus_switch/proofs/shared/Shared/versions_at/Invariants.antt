use Rattle.std.proofs.Common.{◌≡◌, [], take}
use Rattle.std.specs.Prelude.{fold}
use Rattle.document_table.specs.Shown.{all_bytes}
use Rattle.focus_switch.specs.Walks.{and_version}
use Rattle.focus_switch.proofs.shared.Shared.versions_at.Given as goal

abbrev pub invariant-loop-uri : goal.invariant-loop-uri
invariant-loop-uri g l = l.versions.items ≡ fold (and_version l.e l.self) [] (all_bytes (take l.uri-index l.uris))
