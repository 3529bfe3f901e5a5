-- The number of an editor's next request.
use Rattle.std.proofs.Common.{◌≡◌, ap, sym, ◌∙◌, None, if◌then◌else◌}
use Rattle.editor_session.specs.declared.session.Session.{Session}
use Rattle.editor_session.specs.Sessions.{next_ask, number_of, session_of}
use Rattle.editor_session.proofs.Places.{linked_stays}
use Rattle.editor_session.proofs.editors.Editors.next_ask.Goals as goal

pub returns-in-Some : goal.returns-in-Some
returns-in-Some c =
    let s = c.in-Some.session.now in
    c.next_ask.ensures ∙ (sym (ap (λ b. if b then None else number_of s) (linked_stays s.phase c.in-Some.ensures.some.1)) ∙ ap next_ask c.in-Some.ensures.some.0)

pub returns-in-None : goal.returns-in-None
returns-in-None c = sym (ap next_ask c.in-None.ensures.none)
