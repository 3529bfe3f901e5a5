-- E11: an editor's `window/workDoneProgress/cancel` goes on with the daemon's token of the request that it names.
use Rattle.std.proofs.Common.{◌≡◌, ℕ, ◌<◌, ◌^◌, true, List, codes, Option, Some, refl, arith}
use Rattle.mux_history.specs.declared.cause.Cause.TheVariants.{FromEditor}
use Rattle.json_text.specs.Json.{Json}
use Rattle.rpc_message.specs.Message.{message_of, notification}
use Rattle.event_model.specs.Event.{Event, with_cause}
use Rattle.event_model.specs.Members.{named_of}
use Rattle.event_model.specs.Phases.{desk_of, is_served}
use Rattle.event_model.specs.Row.{Row, nothing, on}
use Rattle.event_model.specs.Settings.{Settings}
use Rattle.event_model.specs.Spawns.{start_of}
use Rattle.event_model.specs.Stages.{is_ready, life_of}
use Rattle.mux_facts.specs.Ranges.{InRange}
use Rattle.mux_facts.proofs.DocumentRow.{ready_is}
use Rattle.mux_facts.proofs.Lists.{found_is}
use Rattle.mux_facts.proofs.Reasons.{Because, by_choose, by_nothing, by_on, by_send}
use Rattle.std.specs.Prelude.{find}
use Rattle.group_rows.specs.Forwarded.{Forwarded, forwarding_of}
use Rattle.group_rows.specs.Created.{Token, created_of, has_accepted, is_marked, token_marked}
use Rattle.group_rows.specs.CreatedRows.{created_work, work_at, work_row}
use Rattle.group_rows.specs.Tokens.{is_worked, mark_text, marked_text, work_mark}
use Rattle.group_rows.proofs.CreatedKept.{IsWritten, found_one, tokens_written}
use Rattle.group_rows.proofs.TokenTexts.{IsTokenText, mark_token, marked_says}
use Rattle.group_facts.specs.Facts.{Bounded}
use Rattle.group_facts.specs.Why.{IsWorkCancel, Why, WorkMeant, cancels_work, of_request, of_token}
use Rattle.group_facts.proofs.DocumentRow.{calm_now}
use Rattle.group_facts.proofs.LeaveRows.{IsSmall, numbers_small}

module _ (settings : Settings) (range : InRange settings) (before : List Event) (bounded : Bounded settings before) (e : ℕ) (body : List ℕ) (served : is_served (desk_of e before).phase ≡ true) where
  abbrev now : List Event
  now = with_cause before (FromEditor e body)

  abbrev Right : Row → Type 0
  Right row = Because (Why settings before (FromEditor e body)) now row

  module _ (params : Option Json) (says : message_of body ≡ notification (codes "window/workDoneProgress/cancel") params) where
    -- it goes on with the start's token, which is the text of an integer or a string
    reason : (s : ℕ) (text : List ℕ) → is_ready (life_of s before).stage ≡ true → IsTokenText text → WorkMeant settings before s e params text → IsWorkCancel settings before (FromEditor e body) now s (marked_text text body)
    reason s text ready token meant =
        let made : (new : Option Json) × (message_of (marked_text text body) ≡ notification (codes "window/workDoneProgress/cancel") new)
        = marked_says text body (codes "window/workDoneProgress/cancel") params token says in
        record {
          editor = e;
          asked = body;
          given = params;
          text = text;
          params = made.0;
          from = refl;
          served = served;
          notified = says;
          meant = meant;
          ready = (calm_now settings range before e body s ready).still.ready;
          stays = refl;
          bytes = refl;
          says = made.1;
        }

    requested : (s : ℕ) (f : Forwarded) → is_ready (life_of s before).stage ≡ true → find (is_worked e (named_of (codes "token") params)) (forwarding_of settings s before).open_requests ≡ Some f
        → IsWorkCancel settings before (FromEditor e body) now s (marked_text (mark_text (work_mark f.number)) body)
    requested s f ready found =
        let small : f.number < 2 ^ 64 = found_is (λ (g : Forwarded). IsSmall g.number) (is_worked e (named_of (codes "token") params)) f (forwarding_of settings s before).open_requests (numbers_small settings range before bounded s (ready_is (life_of s before).stage ready)) found in
        reason s (mark_text (work_mark f.number)) ready (mark_token (work_mark f.number) (omega (arith, small))) (of_request f found refl)

    made : (s : ℕ) (t : Token) → is_ready (life_of s before).stage ≡ true → token_marked s params (created_of settings s before) ≡ Some t → has_accepted e t.number (created_of settings s before) ≡ true
        → IsWorkCancel settings before (FromEditor e body) now s (marked_text t.text body)
    made s t ready found accepted =
        let written : IsWritten t = found_one IsWritten (is_marked s (named_of (codes "token") params)) t (created_of settings s before).tokens (tokens_written settings s before) found in
        reason s t.text ready written.text (of_token t found accepted refl)

    token_at : (s : ℕ) → is_ready (life_of s before).stage ≡ true → Right (created_work settings before e body params s)
    token_at s ready = by_on (λ none. by_nothing) (λ t found. by_choose (λ accepted. by_send (cancels_work (made s t ready found accepted))) (λ off. by_nothing))

    at_start : (s : ℕ) → Right (work_at settings before e body params s)
    at_start s = by_choose (λ ready. by_on
        (λ none. token_at s ready)
        (λ f found. by_send (cancels_work (requested s f ready found)))) (λ off. by_nothing)

    at_group : (g : ℕ) → Right (on (start_of g before) nothing (work_at settings before e body params))
    at_group g = by_on (λ none. by_nothing) (λ s start. at_start s)

    pub work_why : Right (work_row settings before e body params)
    work_why = by_on (λ none. by_nothing) (λ g home. at_group g)
