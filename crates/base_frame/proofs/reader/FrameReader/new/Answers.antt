use Rattle.base_frame.proofs.Readers.{new_stands}
use Rattle.base_frame.proofs.reader.FrameReader.new.Goals as goal

pub returns-clause-stands : goal.returns-clause-stands
returns-clause-stands c = new_stands c.args.limit c.new.result.items c.new-2.result.items c.new.ensures.items c.new-2.ensures.items
