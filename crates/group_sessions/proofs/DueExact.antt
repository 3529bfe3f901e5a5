-- What the rows of S13 and E19 send an editor of a token, exactly.
use Rattle.std.proofs.Common.{◌≡◌, ℕ, ◌^◌, ◌<◌, ◌≤◌, Bool, true, false, not, ◌&&◌, List, [], ◌∷◌, ◌++◌, bytes_eq, codes, find, map, nat_eq, nat_le, if◌then◌else◌, Option, Some, None, is_some, refl, sym, ◌∙◌, ap, ap₂, subst, arith}
use Rattle.std.specs.List.{range_with_len}
use Rattle.std.specs.Option.{option_and_then}
use Rattle.std.proofs.lemmas.Bool.{and_parts, leb-false, leb-true}
use Rattle.std.proofs.lemmas.Slice.Eq.{bytes_eq-Decides}
use Rattle.json_text.specs.Json.{Json, word as json_word, number as json_number, string, array, object}
use Rattle.mux_history.specs.declared.cause.Cause.TheVariants.{FromEditor, FromServer}
use Rattle.mux_history.specs.declared.out.Out.{Out}
use Rattle.mux_history.specs.declared.out.Out.TheVariants.{ToEditor}
use Rattle.lsp_method.specs.Class.{class_of}
use Rattle.lsp_method.specs.declared.variants.Origin.TheVariants.{Server}
use Rattle.document_model.specs.Sayings.{opens, saying_of}
use Rattle.rpc_message.specs.Message.{Id, Message, request, notification, result, error, not_json, not_message, id_of, message_of, text}
use Rattle.event_model.specs.declared.phase.Phase.TheVariants.{Answered, Running}
use Rattle.event_model.specs.declared.stage.Stage.TheVariants.{Ready}
use Rattle.event_model.specs.Event.{Event, behind, said, with_cause}
use Rattle.event_model.specs.Members.{named_of}
use Rattle.event_model.specs.Phases.{desk_of, editors_of, is_running}
use Rattle.event_model.specs.Requests.{answered_id}
use Rattle.event_model.specs.Row.{choose, each, nothing, on, outs, send}
use Rattle.event_model.specs.Settings.{Settings}
use Rattle.event_model.specs.Spawns.{start_of, starts_of}
use Rattle.event_model.specs.Stages.{is_ready}
use Rattle.event_model.proofs.Frames.{never}
use Rattle.mux_facts.specs.Allowed.{is_response}
use Rattle.mux_facts.proofs.Lists.{found_is}
use Rattle.mux_facts.proofs.Reasons.{Reasons}
use Rattle.mux_facts.proofs.Words.{id_same, number_same, same_id_itself, same_number}
use Rattle.group_words.specs.Houses.{home_of, is_home}
use Rattle.group_rows.specs.AskRows.{hand_back, notified_row, response_at, response_row}
use Rattle.group_rows.specs.Asks.{asks_of, is_seated, running_in}
use Rattle.group_rows.specs.Created.{Created, Taking, Token, accepts, created_mark, created_of, created_text, has_accepted, is_answered, is_at, is_called, is_progress, named_token, names_progress, token_called}
use Rattle.group_rows.specs.CreatedRows.{created_row, hand_out, takers, taking_row, tell, tell_takers}
use Rattle.group_rows.specs.Forwarded.{Forwarded, forwarding_of, names as names_number}
use Rattle.group_rows.specs.Rows.{from_editor, from_server, outs_of}
use Rattle.group_rows.specs.Tokens.{is_mark, is_told, listens, mark, marked_text, own_token, partial_mark, tell_progress, work_mark}
use Rattle.group_facts.specs.Settled.{HasTaken, RunsAt, Settled}
use Rattle.group_facts.specs.Why.{IsNotified, IsTaken, Showing, Why, WhyToEditor, answers, asks, begins_by, calls, comes, opened_by, passes, progresses, recalls, refuses, rejects, resumes, shows, spreads, turns_away, welcomes, loses, winds_up, pays}
use Rattle.group_facts.proofs.Facts.{Facts}
use Rattle.group_sessions.proofs.Accepted.{NamesToken}
use Rattle.group_sessions.proofs.Client6Law.{created_id}
use Rattle.group_sessions.proofs.CreatedFold.{IsLive, created_orderly, is_free}
use Rattle.group_sessions.proofs.HeldFold.{IsFair, NameTokens, called_some, created_fair}
use Rattle.group_sessions.proofs.Marked.{Marked, marked}
use Rattle.group_sessions.proofs.TakingTies.{find_true}
use Rattle.group_sessions.specs.Due.{names_mark, sent_by}
use Rattle.group_sessions.proofs.DueSent.{flat_kept, flat_map_map, none_found, one_of, only_one, progress_named, sent_outs, tells_as}
use Rattle.group_rows.proofs.DebtsKept.{forth_accepting, off_forth, whole_off}

-- a body for each
outs_each : {A : Type 0} (f : A → Out) (xs : List A) (events : List Event) → outs (each (λ a. send (f a)) xs) events ≡ map f xs
outs_each f [] events = refl
outs_each f (x ∷ xs) events = ap (λ z. f x ∷ z) (outs_each f xs (behind events (f x ∷ [])))

-- a token that starts may create is no mark of a request's
mark_free : (j : Option Json) (id : Id) → option_and_then id_of j ≡ Some id → is_free id ≡ true → (m : ℕ) → is_mark j m ≡ false
mark_free (Some (string sp cs)) id h free m = go (bytes_eq cs (mark m)) refl
  where
    is : text cs ≡ id
    is = let both : ◌≡◌ {A = Option Id} (Some (text cs)) (Some id) = h in cc

    go : (b : Bool) → bytes_eq cs (mark m) ≡ b → b ≡ false
    go true same = absurd (let at : cs ≡ mark m = (bytes_eq-Decides cs (mark m)).0 same in let clash : false ≡ true = ap (λ z. is_free (text z)) (sym at) ∙ (ap is_free is ∙ free) in cc)
    go false off = refl
mark_free (Some (json_word sp w)) id h free m = refl
mark_free (Some (json_number sp ds)) id h free m = refl
mark_free (Some (array sp js)) id h free m = refl
mark_free (Some (object sp ms)) id h free m = refl
mark_free None id h free m = refl

module _ (settings : Settings) (before : List Event) (facts : Facts settings before) (settled : Settled settings before) (few : starts_of before ≤ 2 ^ 64) (s k e : ℕ) where
  abbrev x : Created
  x = created_of settings s before

  runs_there : has_accepted e k x ≡ true → RunsAt settings before s e
  runs_there h = one_of (HasTaken settings before s) (RunsAt settings before s e) (λ (c : Taking). c.accepted && (is_at e c && nat_eq c.token k))
      (λ c at runs. subst (RunsAt settings before s) (number_same c.editor e (and_parts (is_at e c) (nat_eq c.token k) (and_parts c.accepted (is_at e c && nat_eq c.token k) at).1).0) runs) x.takings (settled.takings few s) h

  joined : (desk_of e before).phase ≡ Running → e < editors_of before
  joined runs = go (nat_le (editors_of before) e) refl
    where
      go : (b : Bool) → nat_le (editors_of before) e ≡ b → e < editors_of before
      go false low = let h = leb-false (editors_of before) e low in omega (arith, h)
      go true high = never (sym (ap is_running runs) ∙ ap is_running ((facts.steady).editors e (leb-true (editors_of before) e high)))

  -- S13
  module _ (body : List ℕ) (given : Option Json) (t : Token) (notified : IsNotified before (FromServer s body) s body given) (called : token_called (named_token given) x ≡ Some t) (number : t.number ≡ k) (accepted : has_accepted e k x ≡ true) where
    abbrev now : List Event
    now = with_cause before (FromServer s body)

    runs : RunsAt settings before s e
    runs = runs_there accepted

    abbrev told : List ℕ
    told = marked_text (created_text s t.number) body

    untold : (o : Option Id) → o ≡ named_token given → token_called o x ≡ Some t → (f : Forwarded) → is_told before (named_of (codes "token") given) f ≡ false
    untold None is at f = absurd (cc)
    untold (Some id) is at f = ap (λ o. is_some o && listens (desk_of f.editor before).phase) none
      where
        live : IsLive x.next t
        live = found_is (IsLive x.next) (is_called id) t x.tokens (created_orderly settings s before).live at

        same : id ≡ t.id
        same = id_same id t.id (find_true (is_called id) x.tokens t at)

        off : (m : ℕ) → is_mark (named_of (codes "token") given) m ≡ false
        off m = mark_free (named_of (codes "token") given) id (sym is) (ap is_free same ∙ live.free) m

        none : own_token (named_of (codes "token") given) f ≡ None
        none = ap₂ (λ a b. if a then f.work else if b then f.partial else None) (off (work_mark f.number)) (off (partial_mark f.number))

    row_is : outs_of settings before (FromServer s body) ≡ map (λ n. ToEditor n told) (takers settings before runs.group s t)
    row_is = ap (λ z. outs (from_server settings s before body (message_of body) z) now) notified.ready
        ∙ (ap (λ m. outs (from_server settings s before body m Ready) now) notified.asks
        ∙ (ap (λ c. outs (notified_row settings s before body given c) now) notified.class
        ∙ (ap (λ o. outs (on o (created_row settings s before body given) (tell_progress body (named_of (codes "token") given))) now) (none_found (is_told before (named_of (codes "token") given)) (untold (named_token given) refl called) (forwarding_of settings s before).open_requests)
        ∙ (ap (λ o. outs (on o nothing (tell_takers settings before s body)) now) called
        ∙ (ap (λ o. outs (on o nothing (λ g. each (λ n. tell s t.number n body) (takers settings before g s t))) now) runs.kept
        ∙ outs_each (λ n. ToEditor n told) (takers settings before runs.group s t) now)))))

    m : Marked (text (created_mark s t.number)) (created_text s t.number) body notified.method
    m = marked (text (created_mark s t.number)) (created_text s t.number) body notified.method given (created_id s t.number) notified.asks (called_some (named_of (codes "token") given) x t called)

    named : names_mark s t.number (message_of told) ≡ true
    named = tells_as s t.number (text (created_mark s t.number)) (created_text s t.number) body notified.method m
        ∙ ap₂ (λ a b. a && b) (progress_named notified.method (ap names_progress notified.class)) (same_id_itself (text (created_mark s t.number)))

    abbrev of_one : ℕ → List (List ℕ)
    of_one n = if nat_eq n e && names_mark s t.number (message_of told) then told ∷ [] else []

    abbrev P : ℕ → Bool
    P n = is_running (desk_of n before).phase && is_home runs.group (home_of settings n before)

    abbrev Q : ℕ → Bool
    Q n = has_accepted n t.number x

    abbrev in_all : ℕ → List (List ℕ)
    in_all n = if P n then (if Q n then of_one n else []) else []

    others : (n : ℕ) → nat_eq n e ≡ false → in_all n ≡ []
    others n off = go (P n) (Q n)
      where
        go : (a b : Bool) → (if a then (if b then of_one n else []) else []) ≡ []
        go true true = ap (λ z. if z && names_mark s t.number (message_of told) then told ∷ [] else []) off
        go true false = refl
        go false b = refl

    passes_p : P e ≡ true
    passes_p = ap₂ (λ a b. a && b) (ap is_running runs.running) (ap (is_home runs.group) (runs.home ∙ runs.kept) ∙ same_number runs.group)

    passes_q : Q e ≡ true
    passes_q = ap (λ j. has_accepted e j x) number ∙ accepted

    here : in_all e ≡ told ∷ []
    here = ap (λ a. if a then (if Q e then of_one e else []) else []) passes_p ∙ (ap (λ a. if a then of_one e else []) passes_q ∙ ap₂ (λ a b. if a && b then told ∷ [] else []) (same_number e) named)

    pub told_exactly : sent_outs s t.number e (outs_of settings before (FromServer s body)) ≡ told ∷ []
    told_exactly = ap (sent_outs s t.number e) row_is
        ∙ (flat_map_map (λ (out : Out). sent_by s t.number e (said out)) (λ n. ToEditor n told) (takers settings before runs.group s t)
        ∙ (flat_kept of_one Q (running_in settings runs.group before)
        ∙ (flat_kept (λ n. if Q n then of_one n else []) P (range_with_len 0 (editors_of before))
        ∙ (only_one in_all e others 0 (editors_of before) (omega arith) (let high = joined runs.running in omega (arith, high)) ∙ here))))

  -- E19
  module _ (body : List ℕ) (c : Taking) (taken : IsTaken settings before (FromEditor e body) e s c) (token : c.token ≡ k) (unasked : find (is_seated e (answered_id (message_of body))) (asks_of settings s before) ≡ None) (found : find (is_answered e (answered_id (message_of body))) x.takings ≡ Some c) (agrees : accepts (message_of body) ≡ true)
      (why : Reasons (Why settings before (FromEditor e body)) (with_cause before (FromEditor e body)) (outs_of settings before (FromEditor e body))) where
    abbrev moment : List Event
    moment = with_cause before (FromEditor e body)

    its_editor : c.editor ≡ e
    its_editor = number_same c.editor e (and_parts (nat_eq c.editor e) (names_number (answered_id (message_of body)) c.number)
        (and_parts (not c.accepted) (nat_eq c.editor e && names_number (answered_id (message_of body)) c.number) (find_true (is_answered e (answered_id (message_of body))) x.takings c found)).1).0

    seat : RunsAt settings before s e
    seat = subst (RunsAt settings before s) its_editor (found_is (HasTaken settings before s) (is_answered e (answered_id (message_of body))) c x.takings (settled.takings few s) found)

    abbrev handed : List ℕ → Out
    handed held = ToEditor e (marked_text (created_text s c.token) held)

    by_message : (m : Message) → accepts m ≡ true → outs (from_editor settings before e body m Running) moment ≡ outs (response_row settings before e body m) moment
    by_message (result id r) h = refl
    by_message (error id r) h = never (sym h)
    by_message (request id method params) h = never (sym h)
    by_message (notification method params) h = never (sym h)
    by_message not_json h = never (sym h)
    by_message not_message h = never (sym h)

    handed_is : outs_of settings before (FromEditor e body) ≡ map handed c.held
    handed_is = whole_off settings before e body (off_forth settings before e body (message_of body) (forth_accepting settings before e body (message_of body) agrees)) ∙ (ap (λ p. outs (from_editor settings before e body (message_of body) p) moment) seat.running
        ∙ (by_message (message_of body) agrees
        ∙ (ap (λ o. outs (on o nothing (λ g. on (start_of g before) nothing (response_at settings before e body (message_of body)))) moment) (seat.home ∙ seat.kept)
        ∙ (ap (λ o. outs (on o nothing (response_at settings before e body (message_of body))) moment) seat.last
        ∙ (ap (λ b. outs (choose b (on (find (is_seated e (answered_id (message_of body))) (asks_of settings s before)) (taking_row settings before e (message_of body) s) (hand_back s body)) nothing) moment) (ap is_ready seat.ready)
        ∙ (ap (λ o. outs (on o (taking_row settings before e (message_of body) s) (hand_back s body)) moment) unasked
        ∙ (ap (λ b. outs (choose b (on (find (is_answered e (answered_id (message_of body))) x.takings) nothing (hand_out s e (message_of body))) nothing) moment) (ap is_running seat.running)
        ∙ (ap (λ o. outs (on o nothing (hand_out s e (message_of body))) moment) found
        ∙ (ap (λ b. outs (choose b (each (tell s c.token e) c.held) nothing) moment) agrees
        ∙ outs_each handed c.held moment)))))))))

    -- each of them is progress
    progress_of : (events : List Event) (out : List ℕ) → WhyToEditor settings before (FromEditor e body) events e out → (method : List ℕ) (params : Option Json) → message_of out ≡ notification method params → is_progress method ≡ true
    progress_of events out (progresses w) method params says = ap (λ z. names_progress (class_of z Server true)) (same (sym says ∙ w.says)) ∙ ap names_progress w.class
      where
        same : notification method params ≡ notification w.method w.params → method ≡ w.method
        same h = cc
    progress_of events out (shows w) method params says = none w.shown
      where
        unopened : (m : Message) → accepts m ≡ true → (u l v t : List ℕ) → saying_of m ≡ opens u l v t → ⊥
        unopened (result id r) h u l v t k = cc
        unopened (error id x) h u l v t k = cc
        unopened (request id method params) h u l v t k = cc
        unopened (notification method params) h u l v t k = never (sym h)
        unopened not_json h u l v t k = cc
        unopened not_message h u l v t k = cc

        none : Showing settings before (FromEditor e body) events e w.start out → is_progress method ≡ true
        none (comes asked method given list from notified class came fitting) = absurd (let clash : FromEditor e body ≡ FromServer w.start asked = from in cc)
        none (opened_by words u l v t list from says found full fitting) = absurd (unopened (message_of body) agrees u l v t (ap (λ z. saying_of (message_of z)) (let is : FromEditor e body ≡ FromEditor e words = from in let same : body ≡ words = cc in same) ∙ says))
        none (begins_by list earlier later restoring order full fitting) = absurd (let clash : Running ≡ Answered = sym seat.running ∙ restoring.waited in cc)
    progress_of events out (winds_up w) method params says = never (sym (w.lost).from)
    progress_of events out (spreads w) method params says = absurd (let clash : FromEditor e body ≡ FromServer w.start out = (w.source).from in cc)
    progress_of events out (recalls w) method params says = absurd (let clash : FromEditor e body ≡ FromServer w.start w.asked = (w.source).from in cc)
    progress_of events out (rejects w) method params says = absurd (let clash : notification method params ≡ error None w.x = sym says ∙ w.says in cc)
    progress_of events out (refuses w) method params says = absurd (let clash : notification method params ≡ error (Some w.id) w.x = sym says ∙ w.says in cc)
    progress_of events out (loses w) method params says = absurd (let clash : notification method params ≡ error (Some w.id) w.x = sym says ∙ w.says in cc)
    progress_of events out (answers w) method params says = absurd (let clash : notification method params ≡ result (Some w.id) w.r = sym says ∙ w.says in cc)
    progress_of events out (turns_away w) method params says = absurd (let clash : notification method params ≡ error (Some w.id) w.x = sym says ∙ w.says in cc)
    progress_of events out (welcomes w) method params says = absurd (let clash : notification method params ≡ result (Some w.id) w.r = sym says ∙ w.says in cc)
    progress_of events out (passes w) method params says = never (sym w.response ∙ ap is_response says)
    progress_of events out (asks w) method params says = absurd (let clash = sym says ∙ w.says in cc)
    progress_of events out (resumes w) method params says = absurd (let clash = sym says ∙ w.says in cc)
    progress_of events out (pays w) method params says = absurd (let clash = sym says ∙ w.says in cc)
    progress_of events out (calls w) method params says = absurd (let clash = sym says ∙ w.says in cc)

    all_sent : (bodies : List (List ℕ)) → NameTokens bodies → (events : List Event) → Reasons (Why settings before (FromEditor e body)) events (map handed bodies) → sent_outs s c.token e (map handed bodies) ≡ map (marked_text (created_text s c.token)) bodies
    all_sent [] names events r = refl
    all_sent (held ∷ bodies) names events r = ap₂ (λ u v. u ++ v) (ap₂ (λ a b. if a && b then marked_text (created_text s c.token) held ∷ [] else []) (same_number e) named) (all_sent bodies names.1 (events ++ said (handed held) ∷ []) r.1)
      where
        n : NamesToken held
        n = names.0

        m : Marked (text (created_mark s c.token)) (created_text s c.token) held n.method
        m = marked (text (created_mark s c.token)) (created_text s c.token) held n.method n.params (created_id s c.token) n.says n.names

        named : names_mark s c.token (message_of (marked_text (created_text s c.token) held)) ≡ true
        named = tells_as s c.token (text (created_mark s c.token)) (created_text s c.token) held n.method m
            ∙ ap₂ (λ a b. a && b) (progress_named n.method (progress_of events (marked_text (created_text s c.token) held) r.0 n.method m.params m.says)) (same_id_itself (text (created_mark s c.token)))

    pub handed_exactly : sent_outs s c.token e (outs_of settings before (FromEditor e body)) ≡ map (marked_text (created_text s c.token)) c.held
    handed_exactly = ap (sent_outs s c.token e) handed_is ∙ all_sent c.held fair_one.held moment (subst (Reasons (Why settings before (FromEditor e body)) moment) handed_is why)
      where
        fair_one : IsFair x.tokens c
        fair_one = found_is (IsFair x.tokens) (is_answered e (answered_id (message_of body))) c x.takings (created_fair settings s before (facts.base).meant).takings found
