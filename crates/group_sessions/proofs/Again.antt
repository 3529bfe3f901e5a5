-- A second `initialize` of an editor: it gets an error for it, or its link is to be ended, and what it heard is tied to its phase again behind the entry.
use Rattle.std.proofs.Common.{◌≡◌, ℕ, Bool, true, false, not, ◌&&◌, ◌||◌, cond, List, [], ◌∷◌, ◌++◌, map, nat_eq, codes, bytes_eq, if◌then◌else◌, Option, None, Some, refl, sym, ◌∙◌, ap, ap₂, subst, subst₂, append-nil, append_assoc}
use Rattle.std.specs.List.{AllByRecursion}
use Rattle.std.proofs.lemmas.Bool.{and_parts}
use Rattle.std.proofs.lemmas.Slice.Eq.{bytes_eq-Decides}
use Rattle.json_text.specs.Json.{Json}
use Rattle.mux_history.specs.declared.cause.Cause.{Cause}
use Rattle.mux_history.specs.declared.cause.Cause.TheVariants.{FromEditor}
use Rattle.mux_history.specs.declared.out.Out.{Out}
use Rattle.mux_history.specs.declared.out.Out.TheVariants.{ToEditor, ToServer, CloseEditor, EndServer, Spawn}
use Rattle.rpc_message.specs.Message.{Message, request, notification, result, error, not_json, not_message, Id, id_bytes, message_of}
use Rattle.rpc_message.specs.Texts.{Code, error_text, error_tree, invalid_request}
use Rattle.event_model.specs.declared.phase.Phase.{Phase}
use Rattle.event_model.specs.declared.phase.Phase.TheVariants.{Absent, New, Waiting, Answered, Running, Down, Closed, Gone}
use Rattle.event_model.specs.Always.{Always}
use Rattle.event_model.specs.Event.{Event, behind, heard, requests, said, same_id, with_cause}
use Rattle.event_model.specs.Parts.{editor_part, is_of_editor}
use Rattle.event_model.specs.Phases.{Desk, desk_of, desk_hears, is_begun, is_linked, is_new, makes_running, phase_closed, phase_told}
use Rattle.event_model.specs.Requests.{is_open, open_of}
use Rattle.event_model.specs.Row.{Row, choose, outs}
use Rattle.event_model.specs.Settings.{Settings}
use Rattle.mux_model.specs.Fits.{fits_behind}
use Rattle.mux_facts.proofs.Bodies.{refusal_says}
use Rattle.mux_facts.proofs.Keeps.{behind_both}
use Rattle.mux_facts.proofs.Rules.{rule_more, word_more}
use Rattle.mux_facts.proofs.Waits.{AllWaiting, Waits, waits_at}
use Rattle.mux_facts.proofs.Words.{id_same, number_same, same_number}
use Rattle.session_laws.specs.ClientRules.{ClientRule3, Opening, may_hear, opening_behind, opening_hears, opening_told}
use Rattle.session_laws.proofs.Client3Law.{Expects, Here, Link, LinkAt, asks_again, closed_link, one_more, opening, same_request, speaks_now}
use Rattle.group_words.specs.Houses.{is_doubled}
use Rattle.group_rows.specs.AskRows.{run_row}
use Rattle.group_rows.specs.Leaves.{leave_row}
use Rattle.group_rows.specs.Rows.{closing_row, from_editor, outs_of}
use Rattle.group_rows.proofs.Versions.{AllMeant}
use Rattle.group_facts.specs.Facts.{Asks}
use Rattle.group_facts.specs.Why.{IsQuestion, has_method}
use Rattle.group_facts.proofs.Begun.{all_outs, leave_by}
use Rattle.group_facts.proofs.OpenByPhase.{without_last}
use Rattle.group_facts.proofs.RequestRow.{desk_taken}
use Rattle.group_facts.proofs.Resuming.{run_questions, stays_there}
use Rattle.group_facts.proofs.Same.{same_questions}
use Rattle.group_rows.proofs.DebtsKept.{forth_again, off_forth, whole_off}

-- Outs that are bodies to starts

abbrev ToStart : Out → Type 0
ToStart (ToServer s body) = Unit {0}
ToStart other = ⊥

bodies_rest : (e : ℕ) (events : List Event) (xs : List Out) → AllByRecursion ToStart xs → Here e events → Here e (behind events xs)
bodies_rest e events [] all h = subst (Here e) (sym (append-nil events)) h
bodies_rest e events (ToServer s body ∷ xs) all h = subst (Here e) (append_assoc events (said (ToServer s body) ∷ []) (map said xs))
    (bodies_rest e (events ++ said (ToServer s body) ∷ []) xs all.1 (one_more e events (said (ToServer s body)) h.always (λ same. absurd (cc)) h.link))
bodies_rest e events (ToEditor n body ∷ xs) all h = absurd (all.0)
bodies_rest e events (Spawn s g ∷ xs) all h = absurd (all.0)
bodies_rest e events (CloseEditor n ∷ xs) all h = absurd (all.0)
bodies_rest e events (EndServer s ∷ xs) all h = absurd (all.0)

-- A request or a notification to an editor changes nothing of its opening, and may go once the editor spoke

heard_question : (o : Opening) (m : Message) → has_method m ≡ true → may_hear o m ≡ o.spoke
heard_question o (request id method params) h = refl
heard_question o (notification method params) h = refl
heard_question o (result (Some id) r) h = absurd (cc)
heard_question o (result None r) h = absurd (cc)
heard_question o (error id x) h = absurd (cc)
heard_question o not_json h = refl
heard_question o not_message h = refl

told_question : (o : Opening) (m : Message) → has_method m ≡ true → opening_told o m ≡ o
told_question o (request id method params) h = refl
told_question o (notification method params) h = refl
told_question o (result (Some id) r) h = absurd (cc)
told_question o (result None r) h = refl
told_question o (error id x) h = absurd (cc)
told_question o not_json h = refl
told_question o not_message h = refl

-- What is tied to a phase behind the request and its error is what was tied to it before

module _ (body : List ℕ) (id : Id) (params : Option Json) (x : Json) where
  abbrev asked : Message
  asked = request id (codes "initialize") params

  abbrev refused : Message
  refused = error (Some id) x

  abbrev Linked : Phase → List ℕ → Opening → Type 0
  Linked p i o = Link (phase_told (desk_hears p i body asked).phase (desk_hears p i body asked).initialize refused) (desk_hears p i body asked).initialize (opening_told (opening_hears o asked) refused)

  linked : (p : Phase) (i : List ℕ) (o : Opening) → is_begun p ≡ true → is_open id o.initializes ≡ false → Link p i o → Linked p i o
  linked Waiting i o begun fresh h = record { id = h.id; params = h.params; asks = h.asks; only = without_last id o.initializes fresh ∙ h.only; not_yet = h.not_yet }
  linked Answered i o begun fresh h = (without_last id o.initializes fresh ∙ h.0, speaks_now o.spoke o.answered false h.1 refl)
  linked Running i o begun fresh h = (without_last id o.initializes fresh ∙ h.0, ap (λ b. b || (o.answered && true)) h.1)
  linked Down i o begun fresh h = (without_last id o.initializes fresh ∙ h.0, ap (λ b. b || (o.answered && true)) h.1)
  linked Absent i o begun fresh h = absurd (cc)
  linked New i o begun fresh h = absurd (cc)
  linked Closed i o begun fresh h = absurd (cc)
  linked Gone i o begun fresh h = absurd (cc)

module _ (settings : Settings) (before : List Event) (n : ℕ) (body : List ℕ) (id : Id) (params : Option Json) (says : message_of body ≡ request id (codes "initialize") params)
    (h : Here n before) (waits : (desk_of n before).phase ≡ Waiting → Waits (desk_of n before).initialize (open_of n before)) where
  abbrev now : List Event
  now = with_cause before (FromEditor n body)

  abbrev ids : List Id
  ids = open_of n before

  abbrev Rests : List Out → Type 0
  Rests xs = Here n (behind now xs)

  always_now : Always ClientRule3 (editor_part n now)
  always_now = rule_more ClientRule3 (is_of_editor n) before (heard (FromEditor n body)) h.always (λ same. tt)

  opening_now : opening n now ≡ opening_hears (opening n before) (asked body id params (error_tree invalid_request))
  opening_now = word_more opening_behind (record { initializes = []; answered = false; spoke = false }) (is_of_editor n) before (heard (FromEditor n body))
      ∙ ap (λ b. cond b (opening_hears (opening n before) (message_of body)) (opening n before)) (same_number n)
      ∙ ap (opening_hears (opening n before)) says

  -- its own `initialize` was under another id
  other_id : (w : Waits (desk_of n before).initialize ids) (o : Expects (desk_of n before).initialize (opening n before)) → is_open id ids ≡ false → same_id id o.id ≡ false
  other_id w o fresh = go (same_id id o.id) refl
    where
      go : (b : Bool) → same_id id o.id ≡ b → b ≡ false
      go true same = absurd (let named : id ≡ w.id = id_same id o.id same ∙ same_request (sym o.asks ∙ w.asks) in let found : is_open id ids ≡ true = ap (λ z. is_open z ids) named ∙ w.waits in let clash : true ≡ false = sym found ∙ fresh in cc)
      go false e = refl

  fresh_here : (p : Phase) → (desk_of n before).phase ≡ p → is_begun p ≡ true → is_open id ids ≡ false → is_open id (opening n before).initializes ≡ false
  fresh_here p at begun fresh = go p at begun (subst (λ z. Link z (desk_of n before).initialize (opening n before)) at h.link)
    where
      go : (p : Phase) → (desk_of n before).phase ≡ p → is_begun p ≡ true → Link p (desk_of n before).initialize (opening n before) → is_open id (opening n before).initializes ≡ false
      go Waiting at b k = ap (is_open id) k.only ∙ ap (λ b. b || false) (other_id (waits at) k fresh)
      go Answered at b k = ap (is_open id) k.0
      go Running at b k = ap (is_open id) k.0
      go Down at b k = ap (is_open id) k.0
      go Absent at b k = absurd (cc)
      go New at b k = absurd (cc)
      go Closed at b k = absurd (cc)
      go Gone at b k = absurd (cc)

  -- it gets an error for it
  module _ (place : List Event) (kept : Always ClientRule3 (editor_part n place)) (same_desk : desk_of n place ≡ desk_of n now) (same_opening : opening n place ≡ opening n now)
      (p : Phase) (at : (desk_of n before).phase ≡ p) (begun : is_begun p ≡ true) (fresh : is_open id ids ≡ false) (code : Code) where
    abbrev text : List ℕ
    text = error_text (id_bytes body) code

    abbrev told : Message
    told = error (Some id) (error_tree code)

    text_says : message_of text ≡ told
    text_says = refusal_says body id (codes "initialize") params code says

    desk_now : desk_of n now ≡ desk_hears p (desk_of n before).initialize body (request id (codes "initialize") params)
    desk_now = desk_taken settings before n body ∙ ap₂ (λ q m. desk_hears q (desk_of n before).initialize body m) at says

    abbrev TiedTo : Desk → Opening → Message → Type 0
    TiedTo d o m = Link (phase_told d.phase d.initialize m) d.initialize (opening_told o m)

    tied : TiedTo (desk_of n place) (opening n place) (message_of text)
    tied = subst (TiedTo (desk_of n place) (opening n place)) (sym text_says) (subst₂ (λ (d : Desk) o. TiedTo d o told) (sym (same_desk ∙ desk_now)) (sym (same_opening ∙ opening_now))
        (linked body id params (error_tree code) p (desk_of n before).initialize (opening n before) begun (fresh_here p at begun fresh) (subst (λ z. Link z (desk_of n before).initialize (opening n before)) at h.link)))

    refused_at : Here n (place ++ said (ToEditor n text) ∷ [])
    refused_at = one_more n place (said (ToEditor n text)) kept (λ same. ap (may_hear (opening n place)) text_says) (go (nat_eq n n) (same_number n))
      where
        go : (b : Bool) → b ≡ true → LinkAt (if b then record { phase = phase_told (desk_of n place).phase (desk_of n place).initialize (message_of text); initialize = (desk_of n place).initialize } else desk_of n place) (cond b (opening_told (opening n place) (message_of text)) (opening n place))
        go true same = tied
        go false same = absurd (cc)

  refused_rests : (p : Phase) → (desk_of n before).phase ≡ p → is_begun p ≡ true → is_open id ids ≡ false → (code : Code) → Rests (ToEditor n (error_text (id_bytes body) code) ∷ [])
  refused_rests p at begun fresh code = refused_at now always_now refl refl p at begun fresh code

  -- behind what it is asked, as it begins to run
  asked_more : (xs : List Out) → AllByRecursion (IsQuestion n) xs → (place : List Event) → Always ClientRule3 (editor_part n place) → (opening n place).spoke ≡ true
      → Always ClientRule3 (editor_part n (behind place xs)) × (opening n (behind place xs) ≡ opening n place)
  asked_more [] all place kept spoke = (subst (λ z. Always ClientRule3 (editor_part n z)) (sym (append-nil place)) kept, ap (opening n) (append-nil place))
  asked_more (ToEditor e b ∷ xs) all place kept spoke =
      let event : Event = said (ToEditor e b) in
      let same : opening n (place ++ event ∷ []) ≡ opening n place = word_more opening_behind (record { initializes = []; answered = false; spoke = false }) (is_of_editor n) place event ∙ by_number (nat_eq e n) in
      let rest = asked_more xs all.1 (place ++ event ∷ []) (rule_more ClientRule3 (is_of_editor n) place event kept (λ is. heard_question (opening n place) (message_of b) all.0.1 ∙ spoke)) (ap (λ (o : Opening). o.spoke) same ∙ spoke) in
      (subst (λ z. Always ClientRule3 (editor_part n z)) (append_assoc place (event ∷ []) (map said xs)) rest.0, ap (opening n) (sym (append_assoc place (event ∷ []) (map said xs))) ∙ rest.1 ∙ same)
    where
      by_number : (c : Bool) → cond c (opening_told (opening n place) (message_of b)) (opening n place) ≡ opening n place
      by_number true = told_question (opening n place) (message_of b) all.0.1
      by_number false = refl
  asked_more (ToServer s b ∷ xs) all place kept spoke = absurd all.0
  asked_more (Spawn s g ∷ xs) all place kept spoke = absurd all.0
  asked_more (CloseEditor e ∷ xs) all place kept spoke = absurd all.0
  asked_more (EndServer s ∷ xs) all place kept spoke = absurd all.0

  begun_rests : Asks settings before → AllMeant before → (desk_of n before).phase ≡ Answered → is_open id ids ≡ false → Rests (outs (run_row settings before n) now ++ ToEditor n (error_text (id_bytes body) invalid_request) ∷ [])
  begun_rests asks meant at fresh =
      let runs : makes_running (message_of body) ≡ true = ap makes_running says in
      let single : is_doubled before n (message_of body) ≡ false = ap (is_doubled before n) says ∙ fresh in
      let all = run_questions settings before n body at runs (stays_there settings before n body at runs single) asks meant in
      let xs : List Out = outs (run_row settings before n) now in
      let spoke : (opening n now).spoke ≡ true = ap (λ (o : Opening). o.spoke) opening_now ∙ speaks_now (opening n before).spoke (opening n before).answered false (subst (λ z. Link z (desk_of n before).initialize (opening n before)) at h.link).1 refl in
      let more = asked_more xs all now always_now spoke in
      subst (Here n) (sym (behind_both now xs (ToEditor n (error_text (id_bytes body) invalid_request) ∷ [])))
      (refused_at (behind now xs) more.0 ((same_questions settings n now xs all).desk n) more.1 Answered at refl fresh invalid_request)

  -- or its link is to be ended, and it leaves
  closed_now : Here n (now ++ said (CloseEditor n) ∷ [])
  closed_now = one_more n now (said (CloseEditor n)) always_now (λ same. tt) (go (nat_eq n n) (same_number n))
    where
      go : (b : Bool) → b ≡ true → LinkAt (if b then record { phase = phase_closed (desk_of n now).phase; initialize = (desk_of n now).initialize } else desk_of n now) (cond b (opening n now) (opening n now))
      go true same = closed_link (desk_of n now).phase (desk_of n now).initialize (opening n now)
      go false same = absurd (cc)

  abbrev parted : List Out
  parted = outs (leave_row settings before n) (now ++ said (CloseEditor n) ∷ [])

  closing_rests : Rests (outs (closing_row settings before n) now)
  closing_rests = subst (Here n) (sym (behind_both now (CloseEditor n ∷ []) parted))
      (bodies_rest n (now ++ said (CloseEditor n) ∷ []) parted (all_outs ToStart (now ++ said (CloseEditor n) ∷ []) parted (leave_by (λ places out. ToStart out) (λ places s b. tt) settings before n (now ++ said (CloseEditor n) ∷ [])).why) closed_now)

  by_double : (b : Bool) → is_open id ids ≡ b → (row : Row) → (is_open id ids ≡ false → Rests (outs row now)) → Rests (outs (choose b (closing_row settings before n) row) now)
  by_double true twice row f = closing_rests
  by_double false fresh row f = f fresh

  -- one that is closed gets nothing
  silent_rests : (desk_of n before).phase ≡ Closed → Rests []
  silent_rests at = subst (Here n) (sym (append-nil now)) (record { always = always_now; link = subst (λ (d : Desk). LinkAt d (opening n now)) (sym (desk_taken settings before n body ∙ ap (λ q. desk_hears q (desk_of n before).initialize body (message_of body)) at)) tt })

  row_rests : Asks settings before → AllMeant before → (p : Phase) → (desk_of n before).phase ≡ p → is_new p ≡ false → is_linked p ≡ true → Rests (outs (from_editor settings before n body (request id (codes "initialize") params) p) now)
  row_rests asks meant Waiting at old there = by_double (is_open id ids) refl _ (λ fresh. refused_rests Waiting at refl fresh invalid_request)
  row_rests asks meant Answered at old there = by_double (is_open id ids) refl _ (λ fresh. begun_rests asks meant at fresh)
  row_rests asks meant Running at old there = by_double (is_open id ids) refl _ (λ fresh. refused_rests Running at refl fresh invalid_request)
  row_rests asks meant Down at old there = by_double (is_open id ids) refl _ (λ fresh. refused_rests Down at refl fresh invalid_request)
  row_rests asks meant Closed at old there = silent_rests at
  row_rests asks meant New at old there = absurd (cc)
  row_rests asks meant Absent at old there = absurd (cc)
  row_rests asks meant Gone at old there = absurd (cc)

-- Behind the entry

never : {A : Type 0} (b : Bool) → (not b && false) ≡ true → A
never true h = absurd (cc)
never false h = absurd (cc)

module _ (settings : Settings) (before : List Event) (asks : Asks settings before) (meant : AllMeant before) (n : ℕ) (body : List ℕ) (there : is_linked (desk_of n before).phase ≡ true) (h : Here n before) (waits : (desk_of n before).phase ≡ Waiting → Waits (desk_of n before).initialize (open_of n before)) where
  abbrev Behind : Message → Type 0
  Behind m = Here n (behind (with_cause before (FromEditor n body)) (outs (from_editor settings before n body m (desk_of n before).phase) (with_cause before (FromEditor n body))))

  by_message : (m : Message) → message_of body ≡ m → (not (is_new (desk_of n before).phase) && requests (codes "initialize") m) ≡ true → Behind m
  by_message (request id method params) says again = subst (λ w. Behind (request id w params)) named
      (row_rests settings before n body id params (says ∙ ap (λ w. request id w params) (sym named)) h waits asks meant (desk_of n before).phase refl (not_so (is_new (desk_of n before).phase) p.0) there)
    where
      p : (not (is_new (desk_of n before).phase) ≡ true) × (bytes_eq (codes "initialize") method ≡ true)
      p = and_parts (not (is_new (desk_of n before).phase)) (bytes_eq (codes "initialize") method) again

      named : codes "initialize" ≡ method
      named = (bytes_eq-Decides (codes "initialize") method).0 p.1

      not_so : (b : Bool) → not b ≡ true → b ≡ false
      not_so true k = absurd (cc)
      not_so false k = refl
  by_message (notification method params) says again = never (is_new (desk_of n before).phase) again
  by_message (result i r) says again = never (is_new (desk_of n before).phase) again
  by_message (error i r) says again = never (is_new (desk_of n before).phase) again
  by_message not_json says again = never (is_new (desk_of n before).phase) again
  by_message not_message says again = never (is_new (desk_of n before).phase) again

-- of the editor whose second `initialize` it was
pub again_rests : (settings : Settings) (before : List Event) (cause : Cause) (e : ℕ) → Asks settings before → AllMeant before → fits_behind before cause ≡ true → AllWaiting before → asks_again before cause e ≡ true → Here e before
    → Here e (behind (with_cause before cause) (outs_of settings before cause))
again_rests settings before (FromEditor n body) e asks meant fits waiting again h =
    let p = and_parts (nat_eq n e) (not (is_new (desk_of n before).phase) && requests (codes "initialize") (message_of body)) again in
    let same : n ≡ e = number_same n e p.0 in
    let second = and_parts (not (is_new (desk_of n before).phase)) (requests (codes "initialize") (message_of body)) p.1 in
    subst (λ k. Here k (behind (with_cause before (FromEditor n body)) (outs_of settings before (FromEditor n body)))) same
    (subst (λ xs. Here n (behind (with_cause before (FromEditor n body)) xs)) (sym (whole_off settings before n body (off_forth settings before n body (message_of body) (forth_again settings before n body (message_of body) second.1))))
    (by_message settings before asks meant n body fits (subst (λ k. Here k before) (sym same) h) (λ at. waits_at before n at waiting) (message_of body) refl p.1))
again_rests settings before cause e asks meant fits waiting again h = absurd (cc)
