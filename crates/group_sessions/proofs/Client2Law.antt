-- Each response to an editor has the id of an open request of it.
use Rattle.std.proofs.Common.{◌≡◌, ℕ, true, List, [], ◌∷◌, ◌++◌, codes, decimal, Some, refl, sym, ◌∙◌, ap, subst}
use Rattle.mux_history.specs.declared.cause.Cause.{Cause}
use Rattle.mux_history.specs.declared.entry.Entry.{Entry}
use Rattle.mux_history.specs.declared.out.Out.TheVariants.{ToEditor, ToServer, CloseEditor, EndServer, Spawn}
use Rattle.rpc_message.specs.Message.{Message, request, notification, result, error, integer, not_json, not_message, Id, message_of}
use Rattle.event_model.specs.Event.{Event, said, with_cause}
use Rattle.event_model.specs.Requests.{answered_id}
use Rattle.event_model.specs.Settings.{Settings}
use Rattle.event_model.specs.Spawns.{starts_of}
use Rattle.mux_facts.specs.Allowed.{is_response}
use Rattle.mux_facts.specs.Ranges.{InRange}
use Rattle.mux_facts.proofs.Bodies.{IsResponseTo, is_error, is_result}
use Rattle.session_laws.specs.ClientRules.{KeepsClient2}
use Rattle.session_laws.proofs.Client2Law.{Everywhere, asks_editor, more, none_yet, refused, to_editor, took_it}
use Rattle.group_facts.specs.Legal.{Legal}
use Rattle.group_rows.specs.Asks.{next_ask}
use Rattle.group_facts.specs.Why.{WhyToEditor, calls, rejects, resumes, refuses, answers, turns_away, welcomes, passes, asks, recalls, shows, spreads, progresses, loses, winds_up, pays}
use Rattle.group_facts.proofs.RestLaws.{Law, law_holds}

-- a response with this id
pub response_to : (id : Id) (m : Message) → is_response m ≡ true → answered_id m ≡ Some id → IsResponseTo id m
response_to id (result k r) h e = is_result r (ap (λ z. result z r) e)
response_to id (error k x) h e = is_error x (ap (λ z. error z x) e)
response_to id (request k method params) h e = absurd (cc)
response_to id (notification method params) h e = absurd (cc)
response_to id not_json h e = absurd (cc)
response_to id not_message h e = absurd (cc)

module _ (settings : Settings) (before : List Event) (cause : Cause) (events : List Event) (e : ℕ) (body : List ℕ) where
  told_it : WhyToEditor settings before cause events e body → Everywhere before → Everywhere events → Everywhere (events ++ said (ToEditor e body) ∷ [])
  told_it (rejects k) h i = subst (λ z. Everywhere (z ++ said (ToEditor e body) ∷ [])) (sym (k.place ∙ ap (with_cause before) k.from)) (refused before e k.asked body k.x k.malformed k.says h)
  told_it (refuses k) h i = to_editor events e body k.id (is_error k.x k.says) k.waits i
  told_it (loses k) h i = to_editor events e body k.id (is_error k.x k.says) k.waits i
  told_it (answers k) h i = to_editor events e body k.id (is_result k.r k.says) k.waits i
  told_it (turns_away k) h i = to_editor events e body k.id (is_error k.x k.says) (k.waiting).waits i
  told_it (welcomes k) h i = to_editor events e body k.id (is_result k.r k.says) (k.waiting).waits i
  told_it (asks k) h i = asks_editor events e body (request (integer (decimal (next_ask e events))) k.method k.params) k.says refl i
  told_it (resumes k) h i = asks_editor events e body (request (integer (decimal (next_ask e events))) k.method k.params) k.says refl i
  told_it (pays k) h i = asks_editor events e body (request (integer (decimal (next_ask e events))) (k.debt).method k.params) k.says refl i
  told_it (calls k) h i = asks_editor events e body (request (integer (decimal (next_ask e events))) k.method k.params) k.says refl i
  told_it (spreads k) h i = asks_editor events e body (notification k.method k.params) k.says refl i
  told_it (recalls k) h i = asks_editor events e body (notification (codes "$/cancelRequest") (Some k.params)) k.says refl i
  told_it (progresses k) h i = asks_editor events e body (notification k.method k.params) k.says refl i
  told_it (shows k) h i = asks_editor events e body (notification k.method k.params) k.says refl i
  told_it (winds_up k) h i = asks_editor events e body (notification k.method (Some k.params)) k.says refl i
  told_it (passes k) h i = to_editor events e body k.id (response_to k.id (message_of body) k.response k.answers) k.waits i

law : (settings : Settings) → Law settings Everywhere
law settings = record {
  took = λ before cause fits known h. took_it before cause h;
  to_editor = λ before cause events e body why known here h i. told_it settings before cause events e body why h i;
  to_server = λ before cause events s body why known here h i. more events (said (ToServer s body)) refl i;
  close = λ before cause events e turned there known here h i. more events (said (CloseEditor e)) refl i;
  end = λ before cause events s starting known here h i. more events (said (EndServer s)) refl i;
  spawn = λ before cause events g inside known here h i. more events (said (Spawn (starts_of events) g)) refl i;
  rest = λ before cause fits known h i. i;
  turn = λ place e slow known h. h;
  left = λ place e slow known h i. i;
}

pub client_2_law : (settings : Settings) → InRange settings → (history : List Entry) → Legal settings history → KeepsClient2 history
client_2_law settings range history legal e = (law_holds settings range Everywhere (law settings) none_yet history legal e).always
