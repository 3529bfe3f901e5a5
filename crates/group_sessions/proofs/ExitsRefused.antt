-- X1 of every exit: the requests that the start had to answer are answered by an error, and behind the entry none of them is open.
use Rattle.std.proofs.Common.{◌≡◌, ℕ, ◌+◌, Bool, true, false, ◌&&◌, ◌||◌, if◌then◌else◌, List, [], ◌∷◌, ◌++◌, filter, map, nat_eq, append-nil, append_assoc, refl, sym, ◌∙◌, ap, ap₂, subst, ◌⊎◌, inl, inr, not, Option}
use Rattle.std.specs.List.{AllByRecursion, list_any}
use Rattle.std.proofs.lemmas.Slice.Eq.{bytes_eq-Decides}
use Rattle.mux_history.specs.declared.cause.Cause.{Cause}
use Rattle.mux_history.specs.declared.out.Out.{Out}
use Rattle.mux_history.specs.declared.out.Out.TheVariants.{ToEditor, ToServer, Spawn, CloseEditor, EndServer}
use Rattle.rpc_message.specs.Message.{Id, Message, error, message_of, not_json, not_message, notification, request, result}
use Rattle.rpc_message.specs.Texts.{error_text, request_failed}
use Rattle.rpc_message.specs.ValueTexts.{IsIdText}
use Rattle.event_model.specs.declared.phase.Phase.{Phase}
use Rattle.event_model.specs.declared.phase.Phase.TheVariants.{Absent, New, Waiting, Answered, Running, Down, Closed, Gone}
use Rattle.event_model.specs.Event.{Event, behind, heard, said, with_cause, did}
use Rattle.event_model.specs.Phases.{Desk, desk_of, is_there, phase_closed, phase_told}
use Rattle.event_model.specs.Requests.{is_open, is_own, open_of}
use Rattle.event_model.specs.Row.{outs}
use Rattle.event_model.specs.Settings.{Settings}
use Rattle.event_model.proofs.Frames.{never}
use Rattle.mux_facts.proofs.Lists.{all_of}
use Rattle.mux_facts.proofs.Words.{same_number}
use Rattle.group_rows.specs.Asks.{members_in}
use Rattle.group_rows.specs.ExitRows.{lose_sent, lost_row}
use Rattle.group_rows.specs.Forwarded.{Forwarded, Forwarding, first_sender, forwarding_of, forwards, is_of, numbered, Sender, sender_or}
use Rattle.group_rows.specs.StopRows.{lose_request}
use Rattle.group_facts.specs.Facts.{IsForwarded, OneRequest, is_early, IsHeld}
use Rattle.group_facts.specs.Settled.{IsSent, Settled, is_answered, IsKeptBack}
use Rattle.group_facts.proofs.ExitEntry.{Exit}
use Rattle.group_facts.proofs.Facts.{Facts}
use Rattle.group_rows.proofs.Frames.{forwarding_more, waiting_stays}
use Rattle.group_facts.proofs.Forwards.{get_all, notified_all}
use Rattle.group_facts.proofs.PutOut.{outs_tested}
use Rattle.group_facts.proofs.Quits.{not_stopped}
use Rattle.group_facts.proofs.Sent.{OneOf}
use Rattle.group_facts.proofs.StopEntry.{there_outs}
use Rattle.group_sessions.proofs.ExitOuts.{Lives, all_of_one, all_ones, any_each, any_first, errors, exit_parts, losses, ending, member_named, one_kept, one_named, told}
use Rattle.group_sessions.specs.ExitReplay.{IsClosed, IsRefused, Refuses, sends}
use Rattle.group_rows.proofs.Moments.{asks}
use Rattle.group_rows.specs.held_requests.specs.declared.request.Request.{Request}
use Rattle.group_rows.specs.Waiting.{waiting_of}
use Rattle.group_sessions.proofs.HeldPlaces.{less_outs}
use Rattle.group_facts.proofs.Apart.{one_id}

-- Behind outs, where no request is at work, a start has no more requests to answer

-- no editor's request goes on
abbrev pub IsUnasking : Out → Type 0
IsUnasking (ToServer n body) = asks (said (ToServer n body)) ≡ false
IsUnasking out = Unit {0}

module _ (settings : Settings) (t : ℕ) (Q : ℕ → ℕ → List ℕ → Type 0) where
  abbrev AllQ : List Forwarded → Type 0
  AllQ fs = AllByRecursion (λ (f : Forwarded). Q f.number f.editor f.id) fs

  abbrev Holds : Forwarding → Type 0
  Holds x = AllQ x.open_requests

  holds_sent : (n : ℕ) (body : List ℕ) (first : Option Sender) (x : Forwarding) (m : Message) → asks (did (ToServer n body) m) ≡ false → Holds x → Holds (forwards first x m)
  holds_sent n body first x (request id method ps) none h = go (is_own method) none
    where
      go : (b : Bool) → not b ≡ false → Holds (if b then x else record { sender = x.sender; next = x.next + 1; open_requests = x.open_requests ++ numbered (sender_or x.sender first) x.next })
      go true k = h
      go false k = never k
  holds_sent n body first x (notification method ps) none h = notified_all first x method ps Q h
  holds_sent n body first x (result id r) none h = h
  holds_sent n body first x (error id y) none h = h
  holds_sent n body first x not_json none h = h
  holds_sent n body first x not_message none h = h

  holds_did : (events : List Event) (out : Out) → IsUnasking out → Holds (forwarding_of settings t events) → Holds (forwarding_of settings t (events ++ said out ∷ []))
  holds_did events (ToServer n body) none h = subst Holds (sym (forwarding_more settings t events (said (ToServer n body)))) (go (nat_eq n t))
    where
      go : (b : Bool) → Holds (if b then forwards (first_sender settings t events) (forwarding_of settings t events) (message_of body) else forwarding_of settings t events)
      go true = holds_sent n body (first_sender settings t events) (forwarding_of settings t events) (message_of body) none h
      go false = h
  holds_did events (ToEditor n body) none h = subst Holds (sym (forwarding_more settings t events (said (ToEditor n body)))) h
  holds_did events (Spawn n g) none h = subst Holds (sym (forwarding_more settings t events (said (Spawn n g)))) h
  holds_did events (CloseEditor n) none h = subst Holds (sym (forwarding_more settings t events (said (CloseEditor n)))) h
  holds_did events (EndServer n) none h = subst Holds (sym (forwarding_more settings t events (said (EndServer n)))) h

  holds_outs : (events : List Event) (xs : List Out) → AllByRecursion IsUnasking xs → Holds (forwarding_of settings t events) → Holds (forwarding_of settings t (behind events xs))
  holds_outs events [] none h = subst (λ z. Holds (forwarding_of settings t z)) (sym (append-nil events)) h
  holds_outs events (x ∷ xs) none h = subst (λ z. Holds (forwarding_of settings t z)) (append_assoc events (said x ∷ []) (map said xs)) (holds_outs (events ++ said x ∷ []) xs none.1 (holds_did events x none.0 h))

-- An editor that is there, and got no result yet

abbrev is_fresh : Phase → Bool
is_fresh New = true
is_fresh Waiting = true
is_fresh _ = false

fresh_told : (phase : Phase) (initialize : List ℕ) (m : Message) → is_fresh (phase_told phase initialize m) ≡ true → is_fresh phase ≡ true
fresh_told Waiting initialize m h = refl
fresh_told New initialize m h = refl
fresh_told Absent initialize m h = h
fresh_told Answered initialize m h = h
fresh_told Running initialize m h = h
fresh_told Down initialize m h = h
fresh_told Closed initialize m h = h
fresh_told Gone initialize m h = h

fresh_closed : (phase : Phase) → is_fresh (phase_closed phase) ≡ false
fresh_closed Gone = refl
fresh_closed other = refl

fresh_early : (phase : Phase) → is_fresh phase ≡ true → is_early phase ≡ true
fresh_early New h = refl
fresh_early Waiting h = refl
fresh_early Absent h = never (sym h)
fresh_early Answered h = never (sym h)
fresh_early Running h = never (sym h)
fresh_early Down h = never (sym h)
fresh_early Closed h = never (sym h)
fresh_early Gone h = never (sym h)

answered_there : (phase : Phase) → is_there phase ≡ true → (is_fresh phase ≡ true → ⊥) → is_answered phase ≡ true
answered_there New there late = absurd (late refl)
answered_there Waiting there late = absurd (late refl)
answered_there Answered there late = refl
answered_there Running there late = refl
answered_there Down there late = refl
answered_there Absent there late = never (sym there)
answered_there Closed there late = never (sym there)
answered_there Gone there late = never (sym there)

module _ (settings : Settings) (before : List Event) (facts : Facts settings before) (cause : Cause) (s : ℕ) (exit : Exit settings before cause s) (slow : List Out) where
  abbrev now : List Event
  now = with_cause before cause

  abbrev fs : List Forwarded
  fs = (forwarding_of settings s before).open_requests

  abbrev sent : List Out
  sent = outs (lost_row settings before s) now ++ slow

  -- Each is answered

  module _ (k : Lives settings before s) (f : Forwarded) (among : OneOf (λ (g : Forwarded). g ≡ f) fs) where
    abbrev answers : Out → Bool
    answers = sends f.editor (error_text f.id request_failed)

    its_own : (g : Forwarded) (events : List Event) → g ≡ f → list_any answers (outs (lose_request g) events) ≡ true
    its_own g events is = subst (λ z. list_any answers (outs (lose_request z) events) ≡ true) (sym is)
        (ap₂ (λ a b. (a && b) || false) (same_number f.editor) ((bytes_eq-Decides (error_text f.id request_failed) (error_text f.id request_failed)).1 refl))

    its_editor : (n : ℕ) (events : List Event) → n ≡ f.editor → list_any answers (outs (lose_sent settings before s n) events) ≡ true
    its_editor n events is = subst (λ z. list_any answers (outs (lose_sent settings before s z) events) ≡ true) (sym is)
        (any_each answers lose_request (λ (g : Forwarded). g ≡ f) its_own (filter (is_of f.editor) fs)
        (one_kept (is_of f.editor) (λ (g : Forwarded). g ≡ f) (λ g same. ap (λ (z : Forwarded). nat_eq z.editor f.editor) same ∙ same_number f.editor) fs among) events)

    its_answer : IsRefused settings before s sent f
    its_answer member = any_first answers (outs (lost_row settings before s) now) slow (subst (λ z. list_any answers z ≡ true) (sym (exit_parts settings before s k now))
        (any_first answers (errors settings before s k now) (losses settings before s k now ++ outs (ending settings before s k now) (behind (told settings before s k now) (losses settings before s k now)))
        (any_each answers (lose_sent settings before s) (λ (n : ℕ). n ≡ f.editor) its_editor (members_in settings k.group before) (one_named f.editor (members_in settings k.group before) (member_named settings before s k (facts.steady).editors f.editor member)) now)))

  -- and is open no more

  module _ (xs : List Out) (unasking : AllByRecursion IsUnasking xs) (settled : Settled settings (behind now xs)) (f : Forwarded) (among : OneOf (λ (g : Forwarded). g ≡ f) fs) where
    abbrev after : List Event
    after = behind now xs

    module _ (id : Id) (text : IsIdText id f.id) (there : is_there (desk_of f.editor after).phase ≡ true) where
      there_before : is_there (desk_of f.editor before).phase ≡ true
      there_before = sym (ap (λ (d : Desk). is_there d.phase) (exit.desk f.editor)) ∙ there_outs f.editor now xs there

      asker : IsForwarded before f
      asker = all_of_one (IsForwarded before) f fs ((facts.steady).asked (not_stopped before facts.quit f.editor there_before) s) among

      alone_of : (t : ℕ) → AllByRecursion (OneRequest s f t) (forwarding_of settings t before).open_requests
      alone_of = all_of_one (λ (g : Forwarded). (t : ℕ) → AllByRecursion (OneRequest s g t) (forwarding_of settings t before).open_requests) f fs ((facts.steady).apart s) among

      late : is_fresh (desk_of f.editor after).phase ≡ true → ⊥
      late fresh = never (sym (fresh_early (desk_of f.editor before).phase (sym (ap (λ (d : Desk). is_fresh d.phase) (exit.desk f.editor)) ∙ outs_tested is_fresh fresh_told fresh_closed f.editor now xs fresh)) ∙ asker.late)

      abbrev Away : ℕ → ℕ → List ℕ → Type 0
      Away n e i = e ≡ f.editor → IsIdText id i → ⊥

      alone_now : (t : ℕ) → AllByRecursion (λ (g : Forwarded). Away g.number g.editor g.id) (forwarding_of settings t now).open_requests
      alone_now t = subst (AllByRecursion (λ (g : Forwarded). Away g.number g.editor g.id)) (sym (exit.forwards t)) (go (nat_eq s t) refl)
        where
          go : (b : Bool) → nat_eq s t ≡ b → AllByRecursion (λ (g : Forwarded). Away g.number g.editor g.id) (if b then [] else (forwarding_of settings t before).open_requests)
          go true same = tt
          go false other = all_of (OneRequest s f t) (λ (g : Forwarded). Away g.number g.editor g.id) (λ g one editor mine. never (sym (ap (λ z. nat_eq s z) (one id editor text mine).0 ∙ same_number s) ∙ other)) (forwarding_of settings t before).open_requests (alone_of t)

      alone_after : (t : ℕ) → AllByRecursion (λ (g : Forwarded). Away g.number g.editor g.id) (forwarding_of settings t after).open_requests
      alone_after t = holds_outs settings t Away now xs unasking (alone_now t)

      -- nor does one wait under its id
      abbrev Apart : Request → Type 0
      Apart r = r.editor ≡ f.editor → IsIdText id r.id → ⊥

      unheld_before : (g : ℕ) → AllByRecursion Apart (waiting_of settings g before)
      unheld_before g = all_of (IsHeld settings g before) Apart (λ r w editor its. clash r w editor its) (waiting_of settings g before) ((facts.steady).held g).each
        where
          clash : (r : Request) → IsHeld settings g before r → r.editor ≡ f.editor → IsIdText id r.id → ⊥
          clash r w editor its = all_of_one (λ (q : Forwarded). q.editor ≡ r.editor → IsIdText (w.asker).id q.id → ⊥) f fs (w.alone s) among (sym editor)
              (subst (λ i. IsIdText i f.id) (one_id id (w.asker).id r.id its (w.asker).text) text)

      unheld_after : (g : ℕ) → AllByRecursion Apart (waiting_of settings g after)
      unheld_after g = less_outs settings Apart g now xs (subst (AllByRecursion Apart) (sym (waiting_stays settings g before (heard cause) exit.unmet)) (unheld_before g))

      none_open : is_open id (open_of f.editor after) ≡ true → ⊥
      none_open still = by (settled.sent f.editor id (answered_there (desk_of f.editor after).phase there late) still)
        where
          by : IsSent settings after f.editor id ⊎ IsKeptBack settings after f.editor id → ⊥
          by (inl k) = get_all (λ (g : Forwarded). Away g.number g.editor g.id) (forwarding_of settings k.start after).open_requests k.place k.request (alone_after k.start) k.at k.editor k.text
          by (inr k) = get_all Apart (waiting_of settings k.group after) k.place k.request (unheld_after k.group) k.at k.editor k.text

    its_close : IsClosed after f
    its_close id text there = go (is_open id (open_of f.editor after)) refl
      where
        go : (b : Bool) → is_open id (open_of f.editor after) ≡ b → b ≡ false
        go true still = absurd (none_open id text there still)
        go false over = refl

  pub refuses_all : Lives settings before s → (xs : List Out) → xs ≡ sent → AllByRecursion IsUnasking xs → Settled settings (behind now xs) → Refuses settings before s xs (behind now xs)
  refuses_all k xs is unasking settled = record {
    refused = subst (λ z. AllByRecursion (IsRefused settings before s z) fs) (sym is) (all_ones (IsRefused settings before s sent) fs (λ f among. its_answer k f among));
    closed = all_ones (IsClosed (behind now xs)) fs (λ f among. its_close xs unasking settled f among);
  }
