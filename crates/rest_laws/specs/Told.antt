-- A start is told of documents only while it is ready.
use Rattle.std.specs.Prelude.{◌≡◌, true, List, [], ◌∷◌, ◌++◌}
use Rattle.mux_history.specs.declared.entry.Entry.{Entry}
use Rattle.mux_history.specs.declared.out.Out.{Out}
use Rattle.mux_history.specs.declared.out.Out.TheVariants.{ToServer}
use Rattle.rpc_message.specs.Message.{message_of}
use Rattle.document_model.specs.Sayings.{saying_of, speaks}
use Rattle.event_model.specs.declared.stage.Stage.TheVariants.{Ready}
use Rattle.event_model.specs.Event.{Event, events_of, said, with_cause}
use Rattle.event_model.specs.Stages.{life_of}

-- a notification on a document goes to a start that is ready
abbrev pub IsToldReady : List Event → Out → Type 0
IsToldReady events (ToServer s body) = speaks (saying_of (message_of body)) ≡ true → (life_of s events).stage ≡ Ready
IsToldReady events other = Unit {0}

-- so is each of these outs, at its place
abbrev pub AllToldReady : List Event → List Out → Type 0
AllToldReady events [] = Unit {0}
AllToldReady events (out ∷ outs) = IsToldReady events out × AllToldReady (events ++ said out ∷ []) outs

-- and each out of these entries, behind those before them
abbrev pub ToldReadyFrom : List Entry → List Entry → Type 0
ToldReadyFrom before [] = Unit {0}
ToldReadyFrom before (entry ∷ rest) = AllToldReady (with_cause (events_of before) entry.cause) entry.outs × ToldReadyFrom (before ++ entry ∷ []) rest

abbrev pub ToldReady : List Entry → Type 0
ToldReady history = ToldReadyFrom [] history
