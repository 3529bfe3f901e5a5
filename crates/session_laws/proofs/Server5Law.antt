-- A response to a start has the id of a request of it that has no response yet.
use Rattle.std.proofs.Common.{◌≡◌, true, false, List, Some, refl, ap, ◌∙◌}
use Rattle.mux_history.specs.declared.out.Out.TheVariants.{ToEditor, ToServer, Spawn, CloseEditor, EndServer}
use Rattle.rpc_message.specs.Message.{Message, request, notification, result, error, not_json, not_message, Id}
use Rattle.event_model.specs.Event.{Event, took, did}
use Rattle.event_model.specs.Requests.{answered_id, is_open}
use Rattle.session_laws.specs.ServerRules.{ServerRule5, answers_one, is_among}
use Rattle.session_laws.proofs.PartLaws.{is_to_server}

pub free : (part : List Event) (event : Event) → is_to_server event ≡ false → ServerRule5 part event
free part (took cause m) h = tt
free part (did (ToServer s body) m) h = absurd (cc)
free part (did (ToEditor e body) m) h = tt
free part (did (Spawn s g) m) h = tt
free part (did (CloseEditor e) m) h = tt
free part (did (EndServer s) m) h = tt

pub answers_open : (ids : List Id) (id : Id) (m : Message) → answered_id m ≡ Some id → is_open id ids ≡ true → answers_one ids m ≡ true
answers_open ids id (result k r) e h = ap (λ o. is_among o ids) e ∙ h
answers_open ids id (error k x) e h = ap (λ o. is_among o ids) e ∙ h
answers_open ids id (request k method params) e h = refl
answers_open ids id (notification method params) e h = refl
answers_open ids id not_json e h = refl
answers_open ids id not_message e h = refl
