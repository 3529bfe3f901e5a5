-- The place of the capabilities.
use Rattle.mux_turns.proofs.Carrying.{capabilities_found}
use Rattle.mux_turns.proofs.carried.capabilities.Goals as goal

pub returns-clause-found : goal.returns-clause-found
returns-clause-found c bytes read = capabilities_found c.args.tape.now bytes c.root.result c.maybe_member.result read c.root.ensures.value c.maybe_member.ensures.member
