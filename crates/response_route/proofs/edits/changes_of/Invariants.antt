use Rattle.json_text.specs.Changes.{edits_of}
use Rattle.response_route.proofs.Making.{MadeSoFar}
use Rattle.response_route.proofs.edits.changes_of.Given as goal

abbrev pub invariant-loop-document : goal.invariant-loop-document
invariant-loop-document l = MadeSoFar l.mapping l.tape l.documents l.document-index (edits_of l.changes.items)
