-- What editors were asked to take: behind every event each is under a small number, and open at its editor until that answers.
use Rattle.std.proofs.Common.{◌≡◌, ℕ, ◌^◌, Bool, true, false, not, ◌&&◌, ◌||◌, List, [], ◌∷◌, ◌++◌, codes, decimal, filter, flat_map, map, nat_eq, if◌then◌else◌, Option, Some, None, refl, sym, ◌∙◌, ap, subst, ltb-true}
use Rattle.std.specs.List.{AllByRecursion}
use Rattle.json_text.specs.Json.{Json}
use Rattle.mux_history.specs.declared.cause.Cause.{Cause}
use Rattle.mux_history.specs.declared.cause.Cause.TheVariants.{Joined, FromEditor, EditorGone, Started, StartFailed, FromServer, ServerGone, Drained, Tick}
use Rattle.mux_history.specs.declared.out.Out.TheVariants.{ToEditor, ToServer, Spawn, CloseEditor, EndServer}
use Rattle.rpc_message.specs.Message.{Id, Message, integer, request, notification, result, error, not_json, not_message, message_of}
use Rattle.event_model.specs.Event.{Event, did, heard, requests, said, took, with_cause}
use Rattle.event_model.specs.Requests.{answered_id, is_open, with_request, without}
use Rattle.event_model.specs.Settings.{Settings}
use Rattle.event_model.specs.Stages.{is_ready, life_of}
use Rattle.event_model.proofs.Frames.{never}
use Rattle.mux_facts.proofs.Asked.{hears_open}
use Rattle.mux_facts.proofs.Lists.{all_filtered, all_join, all_of}
use Rattle.mux_facts.proofs.Words.{number_same, open_last, same_number}
use Rattle.group_words.proofs.Frames.{past_more}
use Rattle.group_rows.specs.Asks.{is_patient, next_ask}
use Rattle.group_rows.specs.Created.{Created, Taking, Token, accepts, answered, asked, created_next, created_of, created_token, is_answered, is_at, is_begin, is_creating, is_over, is_progress, left, lives, may_hold, named_token, no_created, progressed, settled, told, token_called, token_marked, with_asked, with_token}
use Rattle.group_rows.specs.Forwarded.{names}
use Rattle.group_rows.specs.Live.{is_heard, is_registering}
use Rattle.group_facts.specs.Facts.{IsTake, Takes, asked_of, editor_behind}
use Rattle.group_facts.specs.Why.{IsCall, WhyToEditor, answers, asks, calls, loses, winds_up, passes, progresses, recalls, refuses, rejects, resumes, shows, spreads, turns_away, welcomes, pays}
use Rattle.group_facts.proofs.Asks.{asked_of_more, call_hurried, is_question, response_asks_none, unnamed_open}
use Rattle.group_rows.proofs.DebtsKept.{refresh_uncreating}

created_more : (settings : Settings) (s : ℕ) (events : List Event) (event : Event) → created_of settings s (events ++ event ∷ []) ≡ created_next settings s events (created_of settings s events) event
created_more settings s events event = past_more (created_next settings s) [] no_created events event

-- What stays open at an editor

abbrev StaysOpen : List Event → Event → Taking → Type 0
StaysOpen events event c = c.accepted ≡ false → is_open (integer (decimal c.number)) (asked_of c.editor events) ≡ true → is_open (integer (decimal c.number)) (editor_behind c.editor (asked_of c.editor events) event) ≡ true

take_more : (events : List Event) (event : Event) (c : Taking) → StaysOpen events event c → IsTake events c → IsTake (events ++ event ∷ []) c
take_more events event c f k = record { small = k.small; waits = λ off. ap (is_open (integer (decimal c.number))) (asked_of_more c.editor events event) ∙ f off (k.waits off) }

-- Lists of takings

abbrev AllIn : (Taking → Type 0) → Created → Type 0
AllIn P x = AllByRecursion P x.takings

either_in : (P : Taking → Type 0) (b : Bool) (x y : Created) → AllIn P x → AllIn P y → AllIn P (if b then x else y)
either_in P true x y h k = h
either_in P false x y h k = k

left_in : (P : Taking → Type 0) (e : ℕ) (x : Created) → AllIn P x → AllIn P (left e x)
left_in P e x h = all_filtered P P (λ c. not (is_at e c)) (λ c away k. k) x.takings h

module _ (later : List Event) where
  take_told : (k : ℕ) (body : List ℕ) (params : Option Json) (c : Taking) → IsTake later c → IsTake later (told k body params c)
  take_told k body params c h = go (nat_eq c.token k) c.accepted (may_hold params c.held)
    where
      go : (a b d : Bool) → IsTake later (if a then (if b then record c { begun = c.begun || is_begin params } else (if d then record c { held = c.held ++ body ∷ []; begun = c.begun || is_begin params } else c)) else c)
      go true true d = record { small = h.small; waits = h.waits }
      go true false true = record { small = h.small; waits = h.waits }
      go true false false = h
      go false b d = h

  all_told : (k : ℕ) (body : List ℕ) (params : Option Json) (cs : List Taking) → AllByRecursion (IsTake later) cs → AllByRecursion (IsTake later) (map (told k body params) cs)
  all_told k body params [] h = tt
  all_told k body params (c ∷ cs) h = (take_told k body params c h.0, all_told k body params cs h.1)

  progressed_in : (body : List ℕ) (params : Option Json) (o : Option Token) (x : Created) → AllIn (IsTake later) x → AllIn (IsTake later) (progressed body params o x)
  progressed_in body params None x h = h
  progressed_in body params (Some t) x h = all_told t.number body params (filter (λ c. not (is_over t.number params c)) x.takings) (all_filtered (IsTake later) (IsTake later) (λ c. not (is_over t.number params c)) (λ c away k. k) x.takings h)

  with_token_in : (o : Option Token) (x : Created) → AllIn (IsTake later) x → AllIn (IsTake later) (with_token o x)
  with_token_in None x h = h
  with_token_in (Some t) x h = h

-- An answer of an editor

module _ (events : List Event) (e : ℕ) (body : List ℕ) where
  abbrev spoke : List Event
  spoke = with_cause events (FromEditor e body)

  unnamed : (c : Taking) (o : Option Id) → names o c.number ≡ false → (nat_eq e c.editor ≡ true → answered_id (message_of body) ≡ o) → StaysOpen events (heard (FromEditor e body)) c
  unnamed c o other is off waits = go (nat_eq e c.editor) refl
    where
      go : (b : Bool) → nat_eq e c.editor ≡ b → is_open (integer (decimal c.number)) (if b then without (answered_id (message_of body)) (asked_of c.editor events) else asked_of c.editor events) ≡ true
      go true same = ap (λ i. is_open (integer (decimal c.number)) (without i (asked_of c.editor events))) (is same) ∙ unnamed_open o c.number (asked_of c.editor events) other waits
      go false apart = waits

  not_named : (a b d : Bool) → a ≡ false → b ≡ true → (not a && (b && d)) ≡ false → d ≡ false
  not_named false true d off same h = h
  not_named true b d off same h = never off
  not_named false false d off same h = never (sym same)

  still_asked : (c : Taking) → is_answered e (answered_id (message_of body)) c ≡ false → StaysOpen events (heard (FromEditor e body)) c
  still_asked c unanswered off waits = go (nat_eq e c.editor) refl
    where
      own : nat_eq e c.editor ≡ true → nat_eq c.editor e ≡ true
      own same = ap (nat_eq c.editor) (number_same e c.editor same) ∙ same_number c.editor

      go : (b : Bool) → nat_eq e c.editor ≡ b → is_open (integer (decimal c.number)) (if b then without (answered_id (message_of body)) (asked_of c.editor events) else asked_of c.editor events) ≡ true
      go true same = unnamed_open (answered_id (message_of body)) c.number (asked_of c.editor events) (not_named c.accepted (nat_eq c.editor e) (names (answered_id (message_of body)) c.number) off (own same) unanswered) waits
      go false apart = waits

  answered_in : (x : Created) → AllIn (IsTake events) x → AllIn (IsTake spoke) (answered e (message_of body) x)
  answered_in x h = spread x.takings h
    where
      one : (c : Taking) → IsTake events c → (a : Bool) → is_answered e (answered_id (message_of body)) c ≡ a → (b : Bool) → AllByRecursion (IsTake spoke) (if a then (if b then record c { accepted = true; held = [] } ∷ [] else []) else c ∷ [])
      one c k true is true = (record { small = k.small; waits = λ off. never off }, tt)
      one c k true is false = tt
      one c k false other b = (take_more events (heard (FromEditor e body)) c (still_asked c other) k, tt)

      spread : (cs : List Taking) → AllByRecursion (IsTake events) cs → AllByRecursion (IsTake spoke) (flat_map (λ c. if is_answered e (answered_id (message_of body)) c then settled (message_of body) x c else c ∷ []) cs)
      spread [] k = tt
      spread (c ∷ cs) k = all_join (IsTake spoke) (if is_answered e (answered_id (message_of body)) c then settled (message_of body) x c else c ∷ [])
          (flat_map (λ d. if is_answered e (answered_id (message_of body)) d then settled (message_of body) x d else d ∷ []) cs)
          (one c k.0 (is_answered e (answered_id (message_of body)) c) refl (accepts (message_of body) && lives c.token x)) (spread cs k.1)

  shut_none : (m : Message) → requests (codes "shutdown") m ≡ true → answered_id m ≡ None
  shut_none (request id method params) h = refl
  shut_none (notification method params) h = never (sym h)
  shut_none (result id r) h = never (sym h)
  shut_none (error id r) h = never (sym h)
  shut_none not_json h = never (sym h)
  shut_none not_message h = never (sym h)

  spoken_in : (x : Created) → AllIn (IsTake events) x → AllIn (IsTake spoke) (if requests (codes "shutdown") (message_of body) then left e x else answered e (message_of body) x)
  spoken_in x h = go (requests (codes "shutdown") (message_of body)) refl
    where
      go : (b : Bool) → requests (codes "shutdown") (message_of body) ≡ b → AllIn (IsTake spoke) (if b then left e x else answered e (message_of body) x)
      go true shut = all_filtered (IsTake events) (IsTake spoke) (λ c. not (is_at e c)) (λ c away k. take_more events (heard (FromEditor e body)) c (unnamed c None refl (λ same. shut_none (message_of body) shut)) k) x.takings h
      go false stays = answered_in x h

-- One event more

module _ (settings : Settings) (events : List Event) (h : Takes settings events) where
  -- one that no editor answers by
  stay : (event : Event) → ((e : ℕ) (ids : List Id) → editor_behind e ids event ≡ ids) → (s : ℕ) → AllIn (IsTake (events ++ event ∷ [])) (created_of settings s events)
  stay event same s = all_of (IsTake events) (IsTake (events ++ event ∷ [])) (λ c k. take_more events event c (λ off waits. ap (is_open (integer (decimal c.number))) (same c.editor (asked_of c.editor events)) ∙ waits) k) (created_of settings s events).takings (h s)

  by_next : (s : ℕ) (event : Event) → AllIn (IsTake (events ++ event ∷ [])) (created_next settings s events (created_of settings s events) event) → AllIn (IsTake (events ++ event ∷ [])) (created_of settings s (events ++ event ∷ []))
  by_next s event k = subst (AllIn (IsTake (events ++ event ∷ []))) (sym (created_more settings s events event)) k

  told_by_start : (n : ℕ) (body : List ℕ) (s : ℕ) (m : Message) → AllIn (IsTake (with_cause events (FromServer n body))) (created_next settings s events (created_of settings s events) (took (FromServer n body) m))
  told_by_start n body s (request id method params) = either_in (IsTake (with_cause events (FromServer n body))) (nat_eq n s && (is_creating method && is_heard settings s events id)) (with_token (created_token body (created_of settings s events)) (created_of settings s events)) (created_of settings s events)
      (with_token_in (with_cause events (FromServer n body)) (created_token body (created_of settings s events)) (created_of settings s events) (stay (heard (FromServer n body)) (λ e ids. refl) s)) (stay (heard (FromServer n body)) (λ e ids. refl) s)
  told_by_start n body s (notification method params) = either_in (IsTake (with_cause events (FromServer n body))) (nat_eq n s && (is_progress method && is_ready (life_of s events).stage)) (progressed body params (token_called (named_token params) (created_of settings s events)) (created_of settings s events)) (created_of settings s events)
      (progressed_in (with_cause events (FromServer n body)) body params (token_called (named_token params) (created_of settings s events)) (created_of settings s events) (stay (heard (FromServer n body)) (λ e ids. refl) s)) (stay (heard (FromServer n body)) (λ e ids. refl) s)
  told_by_start n body s other = stay (heard (FromServer n body)) (λ e ids. refl) s

  pub takes_took : (cause : Cause) → Takes settings (with_cause events cause)
  takes_took (FromEditor e body) s = by_next s (heard (FromEditor e body)) (spoken_in events e body (created_of settings s events) (h s))
  takes_took (FromServer n body) s = by_next s (heard (FromServer n body)) (told_by_start n body s (message_of body))
  takes_took (EditorGone e why) s = by_next s (heard (EditorGone e why)) (left_in (IsTake (with_cause events (EditorGone e why))) e (created_of settings s events) (stay (heard (EditorGone e why)) (λ e ids. refl) s))
  takes_took (StartFailed n) s = by_next s (heard (StartFailed n)) (either_in (IsTake (with_cause events (StartFailed n))) (nat_eq n s) no_created (created_of settings s events) tt (stay (heard (StartFailed n)) (λ e ids. refl) s))
  takes_took (ServerGone n) s = by_next s (heard (ServerGone n)) (either_in (IsTake (with_cause events (ServerGone n))) (nat_eq n s) no_created (created_of settings s events) tt (stay (heard (ServerGone n)) (λ e ids. refl) s))
  takes_took (Joined e) s = by_next s (heard (Joined e)) (stay (heard (Joined e)) (λ e ids. refl) s)
  takes_took (Started n) s = by_next s (heard (Started n)) (stay (heard (Started n)) (λ e ids. refl) s)
  takes_took (Drained e k) s = by_next s (heard (Drained e k)) (stay (heard (Drained e k)) (λ e ids. refl) s)
  takes_took (Tick t) s = by_next s (heard (Tick t)) (stay (heard (Tick t)) (λ e ids. refl) s)

  pub takes_sent : (n : ℕ) (body : List ℕ) → Takes settings (events ++ said (ToServer n body) ∷ [])
  takes_sent n body s = by_next s (said (ToServer n body)) (stay (said (ToServer n body)) (λ e ids. refl) s)

  pub takes_spawned : (n g : ℕ) → Takes settings (events ++ said (Spawn n g) ∷ [])
  takes_spawned n g s = by_next s (said (Spawn n g)) (stay (said (Spawn n g)) (λ e ids. refl) s)

  pub takes_ended : (n : ℕ) → Takes settings (events ++ said (EndServer n) ∷ [])
  takes_ended n s = by_next s (said (EndServer n)) (stay (said (EndServer n)) (λ e ids. refl) s)

  pub takes_closed : (n : ℕ) → Takes settings (events ++ said (CloseEditor n) ∷ [])
  takes_closed n s = by_next s (said (CloseEditor n)) (left_in (IsTake (events ++ said (CloseEditor n) ∷ [])) n (created_of settings s events) (stay (said (CloseEditor n)) (λ e ids. refl) s))

  -- A body to an editor

  module _ (n : ℕ) (body : List ℕ) where
    abbrev later : List Event
    later = events ++ said (ToEditor n body) ∷ []

    still : (s : ℕ) → AllIn (IsTake later) (created_of settings s events)
    still s = all_of (IsTake events) (IsTake later) (λ c k. take_more events (said (ToEditor n body)) c (λ off waits. hears_open (nat_eq n c.editor) (message_of body) (asked_of c.editor events) (integer (decimal c.number)) waits) k) (created_of settings s events).takings (h s)

    -- one that is no create
    abbrev makes : Message → Bool
    makes (request id method params) = is_creating method
    makes other = false

    unmade : (s : ℕ) (m : Message) → makes m ≡ false → created_next settings s events (created_of settings s events) (did (ToEditor n body) m) ≡ created_of settings s events
    unmade s (request id method params) off = ap (λ b. if b then with_asked n (next_ask n events) (token_marked s params (created_of settings s events)) (created_of settings s events) else created_of settings s events) off
    unmade s other off = refl

    plain : makes (message_of body) ≡ false → Takes settings later
    plain off s = by_next s (said (ToEditor n body)) (subst (AllIn (IsTake later)) (sym (unmade s (message_of body) off)) (still s))

    unquestioned : (m : Message) → is_question m ≡ false → makes m ≡ false
    unquestioned (request id method params) off = never off
    unquestioned other off = refl

    patient_plain : (method : List ℕ) → is_patient method ≡ true → is_creating method ≡ false
    patient_plain method patient = go (is_creating method) refl
      where
        or_last : (a b : Bool) → b ≡ true → (a || b) ≡ true
        or_last true b k = refl
        or_last false b k = k

        go : (b : Bool) → is_creating method ≡ b → b ≡ false
        go true is = never (sym patient ∙ call_hurried method (or_last (is_registering method) (is_creating method) is))
        go false is = refl

    -- the daemon's own request
    called : (before : List Event) (cause : Cause) → IsCall settings before cause events n body → Takes settings later
    called before cause k s = by_next s (said (ToEditor n body)) (subst (λ m. AllIn (IsTake later) (created_next settings s events (created_of settings s events) (did (ToEditor n body) m))) (sym k.says)
        (either_in (IsTake later) (is_creating k.method) (with_asked n (next_ask n events) (token_marked s k.params (created_of settings s events)) (created_of settings s events)) (created_of settings s events) (one_asked (token_marked s k.params (created_of settings s events))) (still s)))
      where
        open_here : is_open (integer (decimal (next_ask n events))) (asked_of n later) ≡ true
        open_here = ap (is_open (integer (decimal (next_ask n events)))) (asked_of_more n events (said (ToEditor n body)) ∙ ap (λ b. if b then with_request (message_of body) (asked_of n events) else asked_of n events) (same_number n) ∙ ap (λ m. with_request m (asked_of n events)) k.says)
            ∙ open_last (integer (decimal (next_ask n events))) (asked_of n events)

        one_asked : (o : Option Token) → AllIn (IsTake later) (with_asked n (next_ask n events) o (created_of settings s events))
        one_asked None = still s
        one_asked (Some t) = all_join (IsTake later) (created_of settings s events).takings (asked n (next_ask n events) t ∷ []) (still s) (record { small = ltb-true (next_ask n events) (2 ^ 64) k.room; waits = λ off. open_here }, tt)

    pub takes_told : (before : List Event) (cause : Cause) → WhyToEditor settings before cause events n body → Takes settings later
    takes_told before cause (calls k) = called before cause k
    takes_told before cause (asks k) = plain (ap makes k.says ∙ k.plain)
    takes_told before cause (resumes k) = plain (ap makes k.says ∙ patient_plain k.method k.patient)
    takes_told before cause (pays k) = plain (ap makes k.says ∙ refresh_uncreating (k.debt).method k.wants)
    takes_told before cause (rejects k) = plain (ap makes k.says)
    takes_told before cause (refuses k) = plain (ap makes k.says)
    takes_told before cause (answers k) = plain (ap makes k.says)
    takes_told before cause (turns_away k) = plain (ap makes k.says)
    takes_told before cause (welcomes k) = plain (ap makes k.says)
    takes_told before cause (passes k) = plain (unquestioned (message_of body) (response_asks_none (message_of body) k.response))
    takes_told before cause (spreads k) = plain (ap makes k.says)
    takes_told before cause (recalls k) = plain (ap makes k.says)
    takes_told before cause (progresses k) = plain (ap makes k.says)
    takes_told before cause (shows k) = plain (ap makes k.says)
    takes_told before cause (loses k) = plain (ap makes k.says)
    takes_told before cause (winds_up k) = plain (ap makes k.says)

pub no_takes : (settings : Settings) → Takes settings []
no_takes settings s = tt
