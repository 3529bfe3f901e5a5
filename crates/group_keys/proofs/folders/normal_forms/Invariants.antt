use Rattle.std.proofs.Common.{◌≡◌, take, map}
use Rattle.group_words.specs.Houses.{normal_of}
use Rattle.group_keys.specs.Uris.{AreTexts}
use Rattle.group_keys.proofs.folders.normal_forms.Given as goal

abbrev pub invariant-loop-folder : goal.invariant-loop-folder
invariant-loop-folder l = AreTexts l.folders → l.forms.items ≡ map normal_of (take l.folder-index l.folders)
