-- What a history says of a request that was sent on, as the row of its answer needs it.
use Rattle.std.specs.Prelude.{◌≡◌, List}
use Rattle.rpc_message.specs.Message.{Id}
use Rattle.rpc_message.specs.ValueTexts.{IsIdText}
use Rattle.event_model.specs.declared.phase.Phase.TheVariants.{Waiting}
use Rattle.event_model.specs.Event.{Event}
use Rattle.event_model.specs.Phases.{desk_of}
use Rattle.group_rows.specs.Forwarded.{Forwarded}

-- its id is the text of one, and its editor doesn't wait
pub record IsAsked (before : List Event) (f : Forwarded) : Type 0 where
  pub name : Id
  pub text : IsIdText name f.id
  pub answered : (desk_of f.editor before).phase ≡ Waiting → ⊥
