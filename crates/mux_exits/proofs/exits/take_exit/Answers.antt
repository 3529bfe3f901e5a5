-- The program of a start ended, or couldn't be run.
use Rattle.std.proofs.Common.{◌≡◌, false, sym, ◌∙◌}
use Rattle.event_model.proofs.Frames.{never}
use Rattle.mux_exits.proofs.Ending.{by_either}
use Rattle.mux_model.specs.Fits.{fits_behind}
use Rattle.mux_exits.proofs.exits.take_exit.Goals as goal

pub returns-in-None-clause-exit : goal.returns-in-None-clause-exit
returns-in-None-clause-exit c = λ settings before cause restarts first known settled is fit st ds.
    never (sym fit ∙ by_either (λ k. fits_behind before k ≡ false) c.args.s (c.in-None.ensures.halted settings before st) (c.in-None.ensures.settled settings before st) cause is)

pub returns-in_ok-exit_at-in-Some-clause-exit : goal.returns-in_ok-exit_at-in-Some-clause-exit
returns-in_ok-exit_at-in-Some-clause-exit c = λ settings before cause restarts first known settled is fit st ds.
    c.in_ok-exit_at-in-Some.ensures.exit settings before cause c.in-Some.ensures.found restarts first known settled is fit st ds
