use Rattle.std.proofs.Common.{inl, inr, refl, ap, ◌∙◌}
use Rattle.std.specs.Prelude.{Err}
use Rattle.serve_program.specs.Daemons.{never}
use Rattle.serve_program.specs.declared.fault.ServeFault.TheVariants as fault
use Rattle.serve_program.proofs.daemon.serve_by.Goals as goal

pub returns-in-Err-Failed-clause-came : goal.returns-in-Err-Failed-clause-came
returns-in-Err-Failed-clause-came g c =
    never fault.Door refl (record { none = refl; same = refl; cause = inr (refl, c.open.ensures.failed (c.in-Err-Failed.is ∙ ap (λ e. Err e) c.in-Err-Failed.field-0-is)) })

pub returns-clause-came : goal.returns-clause-came
returns-clause-came g c = never fault.Memory refl (record { none = refl; same = refl; cause = inl refl })
