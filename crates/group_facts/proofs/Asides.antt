-- What goes to a start without a sync.
use Rattle.std.proofs.Common.{◌≡◌, ℕ, true, false, List, sym, ◌∙◌, ap, refl}
use Rattle.rpc_message.specs.Message.{Message, request, notification, message_of}
use Rattle.document_model.specs.Sayings.{saying_of, speaks}
use Rattle.event_model.proofs.Frames.{never}
use Rattle.mux_facts.specs.Allowed.{is_response}
use Rattle.group_rows.specs.Texts.{is_synced}

pub unsynced : {A : Type 0} (body : List ℕ) (m : Message) → message_of body ≡ m → is_synced m ≡ false → is_synced (message_of body) ≡ true → A
unsynced body m says aside goes = never (sym goes ∙ (ap is_synced says ∙ aside))

pub spoken_aside : (m : Message) → speaks (saying_of m) ≡ true → is_synced m ≡ false
spoken_aside (notification method ps) h = rw h refl
spoken_aside other h = never (sym h)

pub answer_aside : (m : Message) → is_response m ≡ true → is_synced m ≡ false
answer_aside (request id method ps) h = never (sym h)
answer_aside (notification method ps) h = never (sym h)
answer_aside other h = refl
