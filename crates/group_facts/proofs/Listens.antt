-- Editors that are told of their open requests.
use Rattle.std.proofs.Common.{◌≡◌, true, false, refl}
use Rattle.event_model.specs.declared.phase.Phase.{Phase}
use Rattle.event_model.specs.declared.phase.Phase.TheVariants.{Absent, New, Waiting, Answered, Running, Down, Closed, Gone}
use Rattle.event_model.specs.Phases.{is_there}
use Rattle.group_rows.specs.Tokens.{listens}
use Rattle.group_facts.specs.Facts.{is_early}

pub listens_late : (phase : Phase) → listens phase ≡ true → is_early phase ≡ false
listens_late Running h = refl
listens_late Down h = refl
listens_late Absent h = absurd (cc)
listens_late New h = absurd (cc)
listens_late Waiting h = absurd (cc)
listens_late Answered h = absurd (cc)
listens_late Closed h = absurd (cc)
listens_late Gone h = absurd (cc)

pub listens_there : (phase : Phase) → listens phase ≡ true → is_there phase ≡ true
listens_there Running h = refl
listens_there Down h = refl
listens_there Absent h = absurd (cc)
listens_there New h = absurd (cc)
listens_there Waiting h = absurd (cc)
listens_there Answered h = absurd (cc)
listens_there Closed h = absurd (cc)
listens_there Gone h = absurd (cc)
