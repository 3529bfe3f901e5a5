-- A link is to be ended.
use Rattle.mux_starts.proofs.PutOut.{put_out_does}
use Rattle.mux_starts.proofs.refused.put_out.Goals as goal

pub returns-clause-does : goal.returns-clause-does
returns-clause-does c = λ settings base g unready home.
    put_out_does settings c.args.tables.now c.close.new.self base c.args.outs.now c.close.new.outs c.in_ok-close.field-0 c.args.e g unready home (c.in_ok-close.ensures.does settings base) (λ st ds. c.in_ok-close.ensures.documents settings base st ds)
