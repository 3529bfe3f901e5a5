-- The id that a cancel names.
use Rattle.std.proofs.Common.{◌≡◌, ℕ, List, refl}
use Rattle.std.specs.Prelude.{Option, Some, None}
use Rattle.rpc_message.specs.Message.{Id}
use Rattle.rpc_message.specs.ValueTexts.{IsIdText}
use Rattle.group_facts.specs.mux_members.specs.Cancels.{IsTextOf}

pub names_none : (o : Option Id) → IsTextOf o None → o ≡ None
names_none None h = refl
names_none (Some id) h = absurd h

pub names_some : (o : Option Id) (w : List ℕ) → IsTextOf o (Some w) → (id : Id) × (o ≡ Some id) × IsIdText id w
names_some (Some id) w h = (id, refl, h)
names_some None w h = absurd h
