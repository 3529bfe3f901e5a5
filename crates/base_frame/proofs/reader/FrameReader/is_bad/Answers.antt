use Rattle.std.proofs.Common.{◌≡◌, ◌∙◌, ap, sym, false}
use Rattle.base_frame.specs.Machine.{front_of, is_fault}
use Rattle.base_frame.proofs.Readers.{is_faulty}
use Rattle.base_frame.proofs.Places.{not_fault}
use Rattle.base_frame.proofs.reader.FrameReader.is_bad.Goals as goal

pub returns-in_default : goal.returns-in_default
returns-in_default c =
    let fine : is_fault (front_of c.args.self.now.limit c.args.self.now.rest) ≡ false = sym (ap is_fault c.front.ensures) ∙ not_fault c.front.result c.in_default.not-Fault in
    record { front = sym fine; bad = λ b. sym fine ∙ is_faulty c.args.self.now.limit c.args.self.now.rest b }
