-- A response to a start has the id of a request of it that has no response yet.
use Rattle.std.proofs.Common.{◌≡◌, ℕ, cond, List, [], nat_eq, IsTrue, refl, sym, ◌∙◌, ap, subst}
use Rattle.document_model.proofs.Written.{Spoken, spoken}
use Rattle.mux_history.specs.declared.cause.Cause.{Cause}
use Rattle.mux_history.specs.declared.cause.Cause.TheVariants.{FromServer, ServerGone, StartFailed, Started}
use Rattle.mux_history.specs.declared.entry.Entry.{Entry}
use Rattle.mux_history.specs.declared.out.Out.TheVariants.{EndServer, ToServer}
use Rattle.rpc_message.specs.Message.{Id, Message, message_of}
use Rattle.event_model.specs.Event.{Event, did, took}
use Rattle.event_model.specs.Parts.{is_of_server, server_part}
use Rattle.event_model.specs.Requests.{answered_id, is_open, with_request, without}
use Rattle.event_model.specs.Settings.{Settings}
use Rattle.mux_facts.specs.Ranges.{InRange}
use Rattle.session_laws.specs.ServerRules.{KeepsServer5, ServerRule5, answers_one, awaiting_behind, awaiting_of}
use Rattle.session_laws.proofs.PartLaws.{No, either_same, part_tied, same_if}
use Rattle.session_laws.proofs.Server5Law.{answers_open, free}
use Rattle.group_facts.specs.Facts.{asked_by, server_behind}
use Rattle.group_facts.specs.Legal.{Legal}
use Rattle.group_facts.specs.Why.{WhyToServer, begins, cancels, exits, forwarded, greets, conveys, notes, resolves, responds, shuts, tells, cancels_work}
use Rattle.group_facts.proofs.RestLaws.{Inside}
use Rattle.group_sessions.proofs.PartLaws.{ServerRule, no_law, server_history}

one_open : (s : ℕ) (ids : List Id) (event : Event) → server_behind s ids event ≡ cond (is_of_server s event) (awaiting_behind ids event) ids
one_open s ids (took (FromServer n body) m) = same_if (nat_eq n s) (with_request m ids) ids
one_open s ids (did (ToServer n body) m) = same_if (nat_eq n s) (without (answered_id m) ids) ids
one_open s ids (took (Started n) m) = either_same (nat_eq n s) ids
one_open s ids (took (StartFailed n) m) = either_same (nat_eq n s) ids
one_open s ids (took (ServerGone n) m) = either_same (nat_eq n s) ids
one_open s ids (did (EndServer n) m) = either_same (nat_eq n s) ids
one_open s ids other = refl

open_by_part : (s : ℕ) (events : List Event) → asked_by s events ≡ awaiting_of (server_part s events)
open_by_part s events = part_tied (server_behind s) awaiting_behind (is_of_server s) (one_open s) [] events

module _ (settings : Settings) (before : List Event) (cause : Cause) (events : List Event) (s : ℕ) (body : List ℕ) where
  abbrev ids : List Id
  ids = awaiting_of (server_part s events)

  abbrev Answers : Message → Type 0
  Answers m = IsTrue (answers_one ids m)

  answers : WhyToServer settings before cause events s body → Answers (message_of body)
  answers (begins k) = subst Answers (sym k.says) refl
  answers (greets k) = subst Answers (sym k.says) refl
  answers (conveys k) = subst Answers (sym k.says) refl
  answers (forwarded k) = subst Answers (sym k.says) refl
  answers (notes k) = subst Answers (sym k.says) refl
  answers (tells k) = let m : Spoken (message_of body) = spoken (message_of body) k.spoken in subst Answers (sym m.is) refl
  answers (shuts k) = subst Answers (sym k.says) refl
  answers (cancels k) = subst Answers (sym k.says) refl
  answers (cancels_work k) = subst Answers (sym k.says) refl
  answers (exits k) = subst Answers (sym k.says) refl
  answers (responds k) = answers_open ids k.id (message_of body) k.answers (ap (is_open k.id) (sym (open_by_part s events)) ∙ k.waits)
  answers (resolves k) = answers_open ids k.id (message_of body) k.answers (ap (is_open k.id) (sym (open_by_part s events)) ∙ k.waits)

rule : (settings : Settings) → ServerRule settings No (Inside No) ServerRule5
rule settings = record { law = no_law settings; free = free; sent = λ before cause events s body why h here own i. answers settings before cause events s body why }

pub server_5_law : (settings : Settings) → InRange settings → (history : List Entry) → Legal settings history → KeepsServer5 history
server_5_law settings range history legal = server_history settings No (Inside No) ServerRule5 (rule settings) range tt history legal
