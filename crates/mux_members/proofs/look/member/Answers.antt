use Rattle.mux_members.proofs.Looks.{member_found}
use Rattle.mux_members.proofs.look.member.Goals as goal

pub returns : goal.returns
returns c = λ ascii o f. member_found c.args.tape.now o c.maybe_member.result c.args.name.now ascii (c.maybe_member.ensures.member o f)
