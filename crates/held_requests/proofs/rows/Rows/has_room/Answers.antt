use Rattle.std.proofs.Common.{◌∙◌, ap}
use Rattle.std.specs.Map.{values_of}
use Rattle.numbered_rows.specs.Rows.{rows_among}
use Rattle.held_requests.specs.Tables.{bytes_most, fits, is_of, of_editor, requests_most}
use Rattle.held_requests.specs.Rows.{Numbered, has_room}
use Rattle.held_requests.proofs.Keeping.{all_found}
use Rattle.held_requests.proofs.Room.{room_sum}
use Rattle.held_requests.proofs.rows.Rows.has_room.Goals as goal

pub returns-in-Some : goal.returns-in-Some
returns-in-Some c =
    c.room_among.ensures ∙ (ap (λ ns. has_room c.args.bytes requests_most bytes_most (rows_among (is_of c.args.editor) c.self.inside.rows.entries ns)) c.in-Some.ensures
    ∙ (ap (has_room c.args.bytes requests_most bytes_most) (all_found c.self.inside.rows.entries c.self.inside.next c.self.inside.editors c.self.invariant c.args.editor)
    ∙ (room_sum c.args.bytes requests_most bytes_most (of_editor c.args.editor (values_of c.self.inside.rows.entries)) ∙ ap (λ (t : Numbered). fits c.args.bytes (of_editor c.args.editor (values_of t.rows))) c.self.view_is)))

pub returns-in-None : goal.returns-in-None
returns-in-None c =
    ap (λ ns. has_room c.args.bytes requests_most bytes_most (rows_among (is_of c.args.editor) c.self.inside.rows.entries ns)) c.in-None.ensures
    ∙ (ap (has_room c.args.bytes requests_most bytes_most) (all_found c.self.inside.rows.entries c.self.inside.next c.self.inside.editors c.self.invariant c.args.editor)
    ∙ (room_sum c.args.bytes requests_most bytes_most (of_editor c.args.editor (values_of c.self.inside.rows.entries)) ∙ ap (λ (t : Numbered). fits c.args.bytes (of_editor c.args.editor (values_of t.rows))) c.self.view_is))
