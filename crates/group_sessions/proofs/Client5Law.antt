-- A cancel to an editor names a request that it didn't answer.
use Rattle.std.proofs.Common.{◌≡◌, ℕ, not, cond, List, [], ◌||◌, decimal, nat_eq, IsTrue, refl, sym, ◌∙◌, ap, subst, arith}
use Rattle.mux_history.specs.declared.cause.Cause.{Cause}
use Rattle.mux_history.specs.declared.cause.Cause.TheVariants.{FromEditor, EditorGone}
use Rattle.mux_history.specs.declared.entry.Entry.{Entry}
use Rattle.mux_history.specs.declared.out.Out.TheVariants.{CloseEditor, ToEditor}
use Rattle.rpc_message.specs.Message.{Id, Message, integer, message_of, integer_if}
use Rattle.event_model.specs.Event.{Event, did, took}
use Rattle.event_model.specs.Parts.{editor_part, is_of_editor}
use Rattle.event_model.specs.Requests.{answered_id, is_open, with_request, without}
use Rattle.event_model.specs.Settings.{Settings}
use Rattle.mux_facts.specs.Ranges.{InRange}
use Rattle.session_laws.specs.ClientRules.{ClientRule5, KeepsClient5, unanswered_behind, unanswered_of}
use Rattle.session_laws.specs.ServerRules.{cancelled_id, id_at, is_among, may_cancel}
use Rattle.session_laws.proofs.Client4Law.{free_5}
use Rattle.session_laws.proofs.PartLaws.{either_same, part_tied, same_if}
use Rattle.group_facts.specs.Facts.{asked_of, editor_behind}
use Rattle.group_facts.specs.Legal.{Legal}
use Rattle.group_facts.specs.Why.{WhyToEditor, answers, asks, passes, recalls, refuses, calls, rejects, resumes, shows, spreads, turns_away, welcomes, progresses, loses, winds_up, Losing, ends, frees, empties, pays}
use Rattle.group_facts.proofs.Spreads.{list_no_cancel, not_cancel, progress_no_cancel}
use Rattle.group_sessions.proofs.PartLaws.{EditorRule, editor_history}
use Rattle.session_laws.proofs.Server6Law.{response_free}
use Rattle.group_rows.proofs.Cancels.{cancel_says}
use Rattle.group_rows.proofs.ExitTexts.{empty_says, end_says}
use Rattle.group_facts.proofs.Tellings.{cancel_names}
use Rattle.rpc_message.proofs.Decimals.{decimal_integer}

one_open : (e : ℕ) (ids : List Id) (event : Event) → editor_behind e ids event ≡ cond (is_of_editor e event) (unanswered_behind ids event) ids
one_open e ids (did (ToEditor k body) m) = same_if (nat_eq k e) (with_request m ids) ids
one_open e ids (took (FromEditor k body) m) = same_if (nat_eq k e) (without (answered_id m) ids) ids
one_open e ids (did (CloseEditor k) m) = either_same (nat_eq k e) ids
one_open e ids (took (EditorGone k why) m) = either_same (nat_eq k e) ids
one_open e ids other = refl

open_by_part : (e : ℕ) (events : List Event) → asked_of e events ≡ unanswered_of (editor_part e events)
open_by_part e events = part_tied (editor_behind e) unanswered_behind (is_of_editor e) (one_open e) [] events

module _ (settings : Settings) (before : List Event) (cause : Cause) (events : List Event) (e : ℕ) (body : List ℕ) where
  abbrev ids : List Id
  ids = unanswered_of (editor_part e events)

  abbrev May : Message → Type 0
  May m = IsTrue (may_cancel ids m)

  may_go : WhyToEditor settings before cause events e body → May (message_of body)
  may_go (rejects k) = subst May (sym k.says) refl
  may_go (refuses k) = subst May (sym k.says) refl
  may_go (loses k) = subst May (sym k.says) refl
  may_go (answers k) = subst May (sym k.says) refl
  may_go (turns_away k) = subst May (sym k.says) refl
  may_go (welcomes k) = subst May (sym k.says) refl
  may_go (passes k) = response_free ids (message_of body) k.response
  may_go (asks k) = subst May (sym k.says) refl
  may_go (resumes k) = subst May (sym k.says) refl
  may_go (pays k) = subst May (sym k.says) refl
  may_go (calls k) = subst May (sym k.says) refl
  may_go (spreads k) = subst May (sym k.says) (ap (λ b. not b || is_among (cancelled_id k.params) ids) (not_cancel k.method k.class))
  may_go (recalls k) = subst May (sym k.says) (ap (λ j. is_among (id_at j) ids) k.named ∙ ap (λ i. is_among i ids) k.id ∙ ap (is_open (integer (decimal (k.ask).number))) (sym (open_by_part e events)) ∙ k.open_there)
  may_go (progresses k) = subst May (sym k.says) (ap (λ b. not b || is_among (cancelled_id k.params) ids) (progress_no_cancel k.method k.class))
  may_go (shows k) = subst May (sym k.says) (ap (λ b. not b || is_among (cancelled_id k.params) ids) (list_no_cancel k.method k.class))
  may_go (winds_up k) = wound k.start k.told
    where
      wound : (s : ℕ) → Losing settings before events e s body → May (message_of body)
      wound s (ends token earlier later order begun is) = subst May (sym (ap message_of is ∙ end_says s token.number)) refl
      wound s (frees number unanswered small waits is) = subst May (sym (ap message_of is ∙ cancel_says number small))
          (ap (λ j. is_among (id_at j) ids) (cancel_names number) ∙ ap (λ i. is_among i ids) (ap (λ b. integer_if b (decimal number)) (decimal_integer number (omega (arith, small)))) ∙ ap (is_open (integer (decimal number))) (sym (open_by_part e events)) ∙ waits)
      wound s (empties list earlier later order full spelt is) = subst May (sym (ap message_of is ∙ empty_says list.uri spelt)) refl

rule : (settings : Settings) → EditorRule settings ClientRule5
rule settings = record { free = free_5; told = λ before cause events e body why. may_go settings before cause events e body why }

pub client_5_law : (settings : Settings) → InRange settings → (history : List Entry) → Legal settings history → KeepsClient5 history
client_5_law settings range history legal = editor_history settings ClientRule5 (rule settings) range history legal
