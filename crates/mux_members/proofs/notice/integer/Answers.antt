use Rattle.std.proofs.Common.{List, ℕ, Option, Some, sym, ◌∙◌, ap}
use Rattle.std.specs.Option.{option_and_then}
use Rattle.mux_model.specs.Sayings.{integer_text}
use Rattle.json_text.specs.Json.{Json}
use Rattle.json_nodes.specs.At.{Found}
use Rattle.mux_model.specs.event_model.specs.Members.{named_of}
use Rattle.mux_members.proofs.Notices.{integer_digits, member_same}
use Rattle.mux_members.proofs.notice.integer.Goals as goal

pub returns-in_ok-digits : goal.returns-in_ok-digits
returns-in_ok-digits c = λ ascii o f.
    let t : Option Json = named_of c.args.name.now o in
    let found : Found c.args.tape.now t c.member-member.result = c.member-member.ensures ascii o f in
    ap (λ (z : List ℕ). Some z) (c.new.ensures ∙ c.in_ok-digits.ensures.items)
    ∙ integer_digits c.args.tape.now t c.member-member.result c.bytes.result.now (sym (c.is_integer.ensures t found) ∙ c.if-is_integer.true) c.bytes.ensures found
    ∙ ap (λ z. option_and_then integer_text z) (member_same c.args.name.now o)
