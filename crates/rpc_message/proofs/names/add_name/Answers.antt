use Rattle.rpc_message.proofs.NamesMet.{has_more}
use Rattle.rpc_message.proofs.names.add_name.Goals as goal

pub returns-clause-names : goal.returns-clause-names
returns-clause-names c = λ cs s ds. has_more c.args.names.now c.insert.new.self c.in_ok-name.name cs (c.in_ok-name.ensures cs s) c.in_ok-insert.ensures.keys ds
