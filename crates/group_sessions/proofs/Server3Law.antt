-- The requests to a start are numbered from 1.
use Rattle.std.proofs.Common.{◌≡◌, ℕ, List, decimal, refl, sym, ap, subst, true, false}
use Rattle.mux_history.specs.declared.cause.Cause.{Cause}
use Rattle.mux_history.specs.declared.entry.Entry.{Entry}
use Rattle.rpc_message.specs.Message.{integer, message_of, Message, request, notification, result, error, not_json, not_message}
use Rattle.event_model.specs.Event.{Event}
use Rattle.event_model.specs.Requests.{next_number}
use Rattle.event_model.specs.Settings.{Settings}
use Rattle.mux_facts.specs.Ranges.{InRange}
use Rattle.session_laws.specs.ServerRules.{HasNumber, KeepsServer3, ServerRule3}
use Rattle.session_laws.proofs.PartLaws.{No}
use Rattle.session_laws.proofs.Server3Law.{begun_numbered, free, known, told_numbered}
use Rattle.group_rows.specs.Forwarded.{forwarding_of}
use Rattle.group_facts.specs.Facts.{is_unbegun}
use Rattle.group_facts.specs.Legal.{Legal}
use Rattle.group_facts.specs.Why.{WhyToServer, begins, greets, conveys, forwarded, notes, tells, shuts, cancels, responds, exits, resolves, cancels_work, Going, at_once, had_waited}
use Rattle.group_facts.proofs.Facts.{Facts, Mid, TiedAt, begins_now}
use Rattle.group_facts.proofs.RestLaws.{Inside}
use Rattle.group_sessions.proofs.PartLaws.{ServerRule, no_law, server_history}
use Rattle.mux_facts.specs.Allowed.{is_response}

pub response_numbered : (n : ℕ) (m : Message) → is_response m ≡ true → HasNumber n m
response_numbered n (result id r) h = tt
response_numbered n (error id e) h = tt
response_numbered n (request id method params) h = absurd (cc)
response_numbered n (notification method params) h = tt
response_numbered n not_json h = tt
response_numbered n not_message h = tt

-- no program begins where an editor's request goes on
unbegun_by : (settings : Settings) (before : List Event) (cause : Cause) (events : List Event) (s e : ℕ) (asked : List ℕ) → Going settings before cause events s e asked → begins_now cause s ≡ false
unbegun_by settings before cause events s e asked (at_once from sync) = ap (λ c. begins_now c s) from
unbegun_by settings before cause events s e asked (had_waited w) = ap (λ c. begins_now c s) w.from

module _ (settings : Settings) (before : List Event) (cause : Cause) (events : List Event) (s : ℕ) (body : List ℕ) where
  -- a request has the next number
  numbered : WhyToServer settings before cause events s body → Facts settings before → Mid settings before cause events → HasNumber (next_number s events) (message_of body)
  numbered (begins k) h here = begun_numbered before cause events s k.params (message_of body) ((h.steady).unbegun s (ap is_unbegun k.stage)).0 k.from k.place k.says
  numbered (greets k) h here = subst (HasNumber (next_number s events)) (sym k.says) tt
  numbered (conveys k) h here = subst (HasNumber (next_number s events)) (sym k.says) tt
  numbered (forwarded k) h here =
      let tied : next_number s events ≡ (forwarding_of settings s events).next = subst (λ z. TiedAt z (next_number s events) (forwarding_of settings s events).next) k.ready (here.tied s (unbegun_by settings before cause events s (k.sender).editor k.asked k.going)) in
      subst (HasNumber (next_number s events)) (sym k.says) (ap (λ n. integer (decimal n)) (sym tied))
  numbered (notes k) h here = subst (HasNumber (next_number s events)) (sym k.says) tt
  numbered (tells k) h here = told_numbered (next_number s events) (message_of body) k.spoken
  numbered (cancels k) h here = subst (HasNumber (next_number s events)) (sym k.says) tt
  numbered (cancels_work k) h here = subst (HasNumber (next_number s events)) (sym k.says) tt
  numbered (responds k) h here = response_numbered (next_number s events) (message_of body) k.response
  numbered (resolves k) h here = response_numbered (next_number s events) (message_of body) k.response
  numbered (exits k) h here = subst (HasNumber (next_number s events)) (sym k.says) tt
  numbered (shuts k) h here = subst (HasNumber (next_number s events)) (sym k.says) refl

rule : (settings : Settings) → ServerRule settings No (Inside No) ServerRule3
rule settings = record {
  law = no_law settings;
  free = free;
  sent = λ before cause events s body why h here own i. subst (λ n. HasNumber n (message_of body)) (known s 1 0 events refl) (numbered settings before cause events s body why h here);
}

pub server_3_law : (settings : Settings) → InRange settings → (history : List Entry) → Legal settings history → KeepsServer3 history
server_3_law settings range history legal = server_history settings No (Inside No) ServerRule3 (rule settings) range tt history legal
