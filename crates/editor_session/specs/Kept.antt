-- Which editors are kept: those that aren't gone.
use Rattle.std.specs.Prelude.{◌≡◌, true, List}
use Rattle.std.specs.List.{AllByRecursion}
use Rattle.event_model.specs.Phases.{is_linked}
use Rattle.number_table.specs.declared.numbered.Numbered.{Numbered}
use Rattle.editor_session.specs.declared.session.Session.{Session}

-- none of the kept is gone
abbrev pub AreLinked : List (Numbered Session) → Type 0
AreLinked kept = AllByRecursion (λ x. is_linked x.item.phase ≡ true) kept
