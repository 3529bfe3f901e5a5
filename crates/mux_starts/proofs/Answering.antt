-- The answer of a start, passed on.
use Rattle.std.proofs.Common.{◌≡◌, ℕ, true, false, List, [], find, refl, ap, ap₂, sym, subst, ◌∙◌, append-nil}
use Rattle.std.specs.Prelude.{Option, Some, None, Result, Ok, Err, IfOk, MatchOption, option_copied}
use Rattle.std.specs.Option.{option_and_then}
use Rattle.std.specs.Borrow.{Bor}
use Rattle.mux_history.specs.declared.cause.Cause.TheVariants.{FromServer}
use Rattle.mux_history.specs.declared.out.Out.{Out}
use Rattle.mux_history.specs.declared.out.Out.TheVariants.{ToEditor}
use Rattle.rpc_message.specs.Message.{Message, Id, message_of}
use Rattle.rpc_message.specs.ValueTexts.{IsIdText}
use Rattle.mux_turns.specs.mux_facts.proofs.Bodies.{IsResponseTo, is_error, is_result}
use Rattle.mux_turns.specs.group_facts.proofs.AnswerRows.{answers_only, response_is}
use Rattle.mux_turns.specs.group_facts.specs.Facts.{Meant}
use Rattle.mux_turns.specs.group_facts.proofs.Answered.{answer_says}
use Rattle.group_rows.proofs.Versions.{own_flat}
use Rattle.mux_tables.specs.id_rewrite.specs.declared.pending.Pending.{Pending}
use Rattle.event_model.specs.declared.phase.Phase.{Phase}
use Rattle.event_model.specs.declared.phase.Phase.TheVariants.{Absent, New, Waiting, Answered, Running, Down, Closed, Gone}
use Rattle.event_model.specs.Does.{Alike, Does}
use Rattle.event_model.specs.Event.{Event, behind, heard, said, with_cause}
use Rattle.event_model.specs.Phases.{Desk, desk_behind, desk_of, is_there, phase_told}
use Rattle.event_model.specs.Requests.{answered_id}
use Rattle.event_model.specs.Row.{on, nothing, send}
use Rattle.event_model.specs.Settings.{Settings}
use Rattle.event_model.proofs.Frames.{one_more}
use Rattle.event_model.proofs.Turns.{alike, does_nothing}
use Rattle.group_rows.specs.Answers.{agreed_version, answer_row, hand_on, held_version, moment_of, own_version, stamp_at}
use Rattle.group_rows.specs.Forwarded.{Forwarded, answered_by, forwarding_of}
use Rattle.response_route.specs.declared.versions.Stamp.{Stamp}
use Rattle.response_route.specs.Answers.{answer_text}
use Rattle.response_route.specs.Versions.{stamp_of, version_now}
use Rattle.mux_tables.specs.declared.tables.Tables.{Tables}
use Rattle.mux_tables.specs.Notes.{IsNoted, has_left}
use Rattle.mux_tables.specs.Stands.{Keeps, Stands, forwarded_as, is_traced}
use Rattle.mux_tables.specs.mux_waits.specs.Stands.{AnswersId}
use Rattle.mux_tables.proofs.Frames.{itself}
use Rattle.mux_starts.specs.Answers.{IsAsked}
use Rattle.mux_starts.specs.Replies.{Answers, IsReply, reply_row}
use Rattle.mux_starts.specs.declared.answers.Reply.{Reply}
use Rattle.mux_turns.proofs.Rows.{is_first, is_second}

-- what was noted and what is now are what V1 reads
pub means_own : (settings : Settings) (before : List Event) (s n : ℕ) (p : Pending) (now : List (List ℕ × Stamp)) → ((u : List ℕ) → stamp_of u now ≡ stamp_at agreed_version settings s p.editor before u)
    → ((u : List ℕ) → has_left (desk_of p.editor before).phase ≡ true → stamp_at agreed_version settings s p.editor before u ≡ None)
    → IsNoted settings s n p.editor before p.noted → (u digits : List ℕ)
    → version_now digits (stamp_of u now) (option_and_then (λ x. stamp_of u x) p.noted) ≡ own_version settings before s (forwarded_as n p) u digits
means_own settings before s n p now current nowhere noted u digits = go p.noted noted
  where
    go : (o : Option (List (List ℕ × Stamp))) → IsNoted settings s n p.editor before o → version_now digits (stamp_of u now) (option_and_then (λ x. stamp_of u x) o) ≡ own_version settings before s (forwarded_as n p) u digits
    go (Some v) h = ap₂ (λ a b. version_now digits a b) (current u) (h.2 u ∙ ap (option_and_then (λ moment. stamp_at held_version settings s p.editor moment u)) (sym h.1))
    go None left =
        let none = nowhere u left in
        ap (λ a. version_now digits a None) (current u ∙ none) ∙ ap (λ a. version_now digits a (option_and_then (λ moment. stamp_at held_version settings s p.editor moment u) (moment_of settings s n before))) (sym none)

-- what is read through references
pub noted_read : (u : List ℕ) (o : Option (Bor (List (List ℕ × Stamp)))) (q : Option (List (List ℕ × Stamp))) → option_copied o ≡ q → option_and_then (λ x. stamp_of u x.now) o ≡ option_and_then (λ x. stamp_of u x) q
noted_read u o q is = go o ∙ ap (option_and_then (λ x. stamp_of u x)) is
  where
    go : (o : Option (Bor (List (List ℕ × Stamp)))) → option_and_then (λ x. stamp_of u x.now) o ≡ option_and_then (λ x. stamp_of u x) (option_copied o)
    go None = refl
    go (Some x) = refl

-- a body leaves an editor in its phase that doesn't wait
told_late : (p : Phase) (i : List ℕ) (m : Message) → (p ≡ Waiting → ⊥) → phase_told p i m ≡ p
told_late Waiting i m h = absurd (h refl)
told_late Absent i m h = refl
told_late New i m h = refl
told_late Answered i m h = refl
told_late Running i m h = refl
told_late Down i m h = refl
told_late Closed i m h = refl
told_late Gone i m h = refl

pub keeps_late : (e : ℕ) (text : List ℕ) (events : List Event) → ((desk_of e events).phase ≡ Waiting → ⊥) → is_traced (message_of text) ≡ false → Keeps e text events
keeps_late e text events h plain = (ap (λ (d : Desk). d.phase) (one_more (desk_behind e) _ _ events (said (ToEditor e text)) refl) ∙ rw (itself e) (told_late (desk_of e events).phase (desk_of e events).initialize (message_of text) h), plain)

-- a start's message touches no desk
pub desk_still : (before : List Event) (s : ℕ) (body : List ℕ) (xs : List Out) (e : ℕ) → xs ≡ [] → (desk_of e (behind (with_cause before (FromServer s body)) xs)).phase ≡ (desk_of e before).phase
desk_still before s body xs e first = ap (λ ys. (desk_of e (behind (with_cause before (FromServer s body)) ys)).phase) first
    ∙ (ap (λ es. (desk_of e es).phase) (append-nil (with_cause before (FromServer s body))) ∙ ap (λ (d : Desk). d.phase) (one_more (desk_behind e) _ _ before (heard (FromServer s body)) refl))

-- what goes to an editor is no request, and no list of diagnostics
plain_response : (id : Id) (m : Message) → IsResponseTo id m → is_traced m ≡ false
plain_response id m (is_result r e) = ap is_traced e
plain_response id m (is_error x e) = ap is_traced e

module _ (settings : Settings) (before : List Event) (s : ℕ) (body : List ℕ) (meant : Meant before) where
  reply_says : (r : Reply) → IsReply settings before s body r → (is_traced (message_of r.body) ≡ false) × AnswersId r.id r.body
  reply_says r k =
      let f = k.asked in
      let i = k.known.name in
      let own = answer_text (own_version settings before s f) body f.id in
      let to : IsResponseTo i (message_of own) = answer_says (own_version settings before s f) (own_flat settings before s f meant) body f.id i k.response k.known.text in
      let is : message_of r.body ≡ message_of own = ap message_of k.answers.text in
      (ap is_traced is ∙ plain_response i (message_of own) to, record { name = i; is = subst (λ w. IsIdText i w) (sym k.answers.id) k.known.text; says = ap answered_id is ∙ (response_is i (message_of own) to).1 })

  pub reply_goes : (xs : List Out) (reply : Option Reply) → xs ≡ [] → MatchOption reply (Unit {0}) (IsReply settings before s body)
      → MatchOption reply (Unit {0}) (λ r. Keeps r.editor r.body (behind (with_cause before (FromServer s body)) xs) × AnswersId r.id r.body)
  reply_goes xs None first k = tt
  reply_goes xs (Some r) first k =
      let says = reply_says r k in
      (keeps_late r.editor r.body (behind (with_cause before (FromServer s body)) xs) (λ q. k.known.answered (ap (λ n. (desk_of n before).phase) (sym k.answers.editor) ∙ (sym (desk_still before s body xs r.editor first) ∙ q))) says.0, says.1)

-- the reply to a request
module _ (settings : Settings) (before : List Event) (body : List ℕ) (s n : ℕ) (p : Pending) where
  pub reply_gone : is_there (desk_of p.editor before).phase ≡ false → Alike (hand_on settings before s body (forwarded_as n p)) (reply_row None)
  reply_gone gone = is_second refl gone

  pub reply_given : (id text : List ℕ) → is_there (desk_of p.editor before).phase ≡ true → text ≡ answer_text (own_version settings before s (forwarded_as n p)) body p.id
      → Alike (hand_on settings before s body (forwarded_as n p)) (reply_row (Some (record { editor = p.editor; id = id; body = text })))
  reply_given id text here is = subst (λ w. Alike (hand_on settings before s body (forwarded_as n p)) (send (ToEditor p.editor w))) (sym is) (is_first refl here)

-- it answers the request that is found
answers_it : (settings : Settings) (before : List Event) (s : ℕ) (body : List ℕ) (f : Forwarded) → find (answered_by (answered_id (message_of body))) (forwarding_of settings s before).open_requests ≡ Some f → IsAsked before f → (r : Option Reply) → Answers settings before s body f r
    → MatchOption r (Unit {0}) (IsReply settings before s body)
answers_it settings before s body f is known None k = tt
answers_it settings before s body f is known (Some x) k = record { asked = f; known = known; response = answers_only (message_of body) f (forwarding_of settings s before).open_requests is; answers = k }

-- and to a message
module _ (settings : Settings) (before : List Event) (body : List ℕ) (s : ℕ) where
  abbrev found : Option Forwarded
  found = find (answered_by (answered_id (message_of body))) (forwarding_of settings s before).open_requests

  pub unasked : found ≡ None → Alike (answer_row settings s before body (message_of body)) (reply_row None)
  unasked none = alike (ap (λ o. on o nothing (hand_on settings before s body)) none)

  asked_by : (f : Forwarded) (r : Option Reply) → found ≡ Some f → Alike (hand_on settings before s body f) (reply_row r) → Alike (answer_row settings s before body (message_of body)) (reply_row r)
  asked_by f r is h = subst (λ o. Alike (on o nothing (hand_on settings before s body)) (reply_row r)) (sym is) h

  pub replied : (f : Forwarded) {E : Type 0} (result : Result (Option Reply) E) → found ≡ Some f → IsAsked before f → IfOk result (λ r. Alike (hand_on settings before s body f) (reply_row r) × Answers settings before s body f r)
      → IfOk result (λ r. Alike (answer_row settings s before body (message_of body)) (reply_row r) × MatchOption r (Unit {0}) (IsReply settings before s body))
  replied f (Ok r) is known h = (asked_by f r is h.0, answers_it settings before s body f is known r h.1)
  replied f (Err e) is known h = tt

-- it goes out
pub handed_none : (settings : Settings) (t : Tables) (base : List Event) (xs : List Out) (r : Option Reply) → r ≡ None → Does (λ t events. Stands settings t events) (reply_row r) base t xs t xs
handed_none settings t base xs r is = subst (λ o. Does (λ t events. Stands settings t events) (reply_row o) base t xs t xs) (sym is) does_nothing

pub handed_some : (settings : Settings) (t u : Tables) (base : List Event) (xs ys : List Out) (r : Option Reply) (x : Reply) → r ≡ Some x → MatchOption r (Unit {0}) (λ y. Keeps y.editor y.body (behind base xs) × AnswersId y.id y.body)
    → (Keeps x.editor x.body (behind base xs) → AnswersId x.id x.body → Does (λ t events. Stands settings t events) (send (ToEditor x.editor x.body)) base t xs u ys) → Does (λ t events. Stands settings t events) (reply_row r) base t xs u ys
handed_some settings t u base xs ys r x is h go =
    let k : Keeps x.editor x.body (behind base xs) × AnswersId x.id x.body = subst (λ (o : Option Reply). MatchOption o (Unit {0}) (λ y. Keeps y.editor y.body (behind base xs) × AnswersId y.id y.body)) is h in
    subst (λ o. Does (λ t events. Stands settings t events) (reply_row o) base t xs u ys) (sym is) (go k.0 k.1)
