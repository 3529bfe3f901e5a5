-- What is written, and what is left to write.
use Rattle.group_facts.specs.Settled.{AreUtf8}
use Rattle.mux_turns.proofs.Folders.{Left}
use Rattle.mux_turns.proofs.greeting.folders_text.Given as goal

abbrev pub invariant-loop-folder : goal.invariant-loop-folder
invariant-loop-folder l = AreUtf8 l.folders → Left l.text.items l.started l.folder-index l.folders
