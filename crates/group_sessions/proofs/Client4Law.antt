-- The requests to an editor are numbered from 1.
use Rattle.std.proofs.Common.{◌≡◌, ℕ, ◌+◌, cond, List, decimal, nat_eq, refl, sym, ◌∙◌, ap, subst}
use Rattle.mux_history.specs.declared.cause.Cause.{Cause}
use Rattle.mux_history.specs.declared.cause.Cause.TheVariants.{FromEditor, EditorGone}
use Rattle.mux_history.specs.declared.entry.Entry.{Entry}
use Rattle.mux_history.specs.declared.out.Out.TheVariants.{CloseEditor, ToEditor}
use Rattle.rpc_message.specs.Message.{Message, request, notification, result, error, not_json, not_message, integer, message_of}
use Rattle.event_model.specs.Event.{Event, did, took}
use Rattle.event_model.specs.Parts.{editor_part, is_of_editor}
use Rattle.event_model.specs.Settings.{Settings}
use Rattle.mux_facts.specs.Ranges.{InRange}
use Rattle.session_laws.specs.ClientRules.{ClientRule4, KeepsClient4, asks_behind, asks_of}
use Rattle.session_laws.specs.ServerRules.{HasNumber}
use Rattle.session_laws.proofs.Client4Law.{free_4, next_counted}
use Rattle.session_laws.proofs.PartLaws.{either_same, part_tied, same_if}
use Rattle.group_rows.specs.Asks.{asked_behind, next_ask}
use Rattle.group_facts.specs.Legal.{Legal}
use Rattle.group_facts.specs.Why.{WhyToEditor, answers, asks, passes, recalls, refuses, calls, rejects, resumes, shows, spreads, turns_away, welcomes, progresses, loses, winds_up, pays}
use Rattle.group_sessions.proofs.PartLaws.{EditorRule, editor_history}
use Rattle.group_sessions.proofs.Server3Law.{response_numbered}

-- the next number is one more than the requests that were sent
one_asked : (e : ℕ) (n : ℕ) (event : Event) → asked_behind e n event ≡ cond (is_of_editor e event) (asks_behind n event) n
one_asked e n (did (ToEditor k body) (request id method params)) = same_if (nat_eq k e) (n + 1) n
one_asked e n (did (ToEditor k body) (notification method params)) = either_same (nat_eq k e) n
one_asked e n (did (ToEditor k body) (result id r)) = either_same (nat_eq k e) n
one_asked e n (did (ToEditor k body) (error id x)) = either_same (nat_eq k e) n
one_asked e n (did (ToEditor k body) not_json) = either_same (nat_eq k e) n
one_asked e n (did (ToEditor k body) not_message) = either_same (nat_eq k e) n
one_asked e n (did (CloseEditor k) m) = either_same (nat_eq k e) n
one_asked e n (took (FromEditor k body) m) = either_same (nat_eq k e) n
one_asked e n (took (EditorGone k why) m) = either_same (nat_eq k e) n
one_asked e n other = refl

next_by_part : (e : ℕ) (events : List Event) → next_ask e events ≡ asks_of (editor_part e events) + 1
next_by_part e events = part_tied (asked_behind e) asks_behind (is_of_editor e) (one_asked e) 1 events ∙ next_counted 0 (editor_part e events)

module _ (settings : Settings) (before : List Event) (cause : Cause) (events : List Event) (e : ℕ) (body : List ℕ) where
  abbrev Numbered : Message → Type 0
  Numbered m = HasNumber (asks_of (editor_part e events) + 1) m

  numbered : WhyToEditor settings before cause events e body → Numbered (message_of body)
  numbered (rejects k) = subst Numbered (sym k.says) tt
  numbered (refuses k) = subst Numbered (sym k.says) tt
  numbered (loses k) = subst Numbered (sym k.says) tt
  numbered (answers k) = subst Numbered (sym k.says) tt
  numbered (turns_away k) = subst Numbered (sym k.says) tt
  numbered (welcomes k) = subst Numbered (sym k.says) tt
  numbered (passes k) = response_numbered (asks_of (editor_part e events) + 1) (message_of body) k.response
  numbered (asks k) = subst Numbered (sym k.says) (ap (λ n. integer (decimal n)) (next_by_part e events))
  numbered (resumes k) = subst Numbered (sym k.says) (ap (λ n. integer (decimal n)) (next_by_part e events))
  numbered (pays k) = subst Numbered (sym k.says) (ap (λ n. integer (decimal n)) (next_by_part e events))
  numbered (calls k) = subst Numbered (sym k.says) (ap (λ n. integer (decimal n)) (next_by_part e events))
  numbered (spreads k) = subst Numbered (sym k.says) tt
  numbered (recalls k) = subst Numbered (sym k.says) tt
  numbered (progresses k) = subst Numbered (sym k.says) tt
  numbered (shows k) = subst Numbered (sym k.says) tt
  numbered (winds_up k) = subst Numbered (sym k.says) tt

rule : (settings : Settings) → EditorRule settings ClientRule4
rule settings = record { free = free_4; told = λ before cause events e body why. numbered settings before cause events e body why }

pub client_4_law : (settings : Settings) → InRange settings → (history : List Entry) → Legal settings history → KeepsClient4 history
client_4_law settings range history legal = editor_history settings ClientRule4 (rule settings) range history legal
