use Rattle.json_nodes.proofs.ByName.{put_name}
use Rattle.json_nodes.proofs.index.keep.Goals as goal

pub returns : goal.returns
returns c = λ cs s ds. put_name c.args.last.now c.insert.new.self c.in_ok-name.name c.args.member cs (c.in_ok-name.ensures cs s) c.in_ok-insert.ensures.entries ds
