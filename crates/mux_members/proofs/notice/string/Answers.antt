use Rattle.std.proofs.Common.{Option, sym, ◌∙◌}
use Rattle.json_text.specs.Json.{Json}
use Rattle.json_nodes.specs.At.{Found}
use Rattle.mux_model.specs.event_model.specs.Members.{named_of}
use Rattle.mux_members.proofs.Notices.{text_utf8}
use Rattle.mux_members.proofs.notice.string.Goals as goal

pub returns-in_ok-text-in-Some-clause-utf8 : goal.returns-in_ok-text-in-Some-clause-utf8
returns-in_ok-text-in-Some-clause-utf8 c = λ ascii o f.
    let t : Option Json = named_of c.args.name.now o in
    let found : Found c.args.tape.now t c.member-member.result = c.member-member.ensures ascii o f in
    text_utf8 c.args.tape.now t c.member-member.result c.in-Some.inside c.in_ok-text-in-Some.text (c.in-Some.ensures.same t found) (sym (c.is_text.ensures t found) ∙ c.if-is_text.true) c.in_ok-text-in-Some.ensures found
