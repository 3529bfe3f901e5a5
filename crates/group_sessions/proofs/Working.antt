-- The daemon's tokens for the work of open requests: each is one of a request that the start has to answer, by its part.
use Rattle.std.proofs.Common.{◌≡◌, ℕ, ◌+◌, ◌<◌, ◌^◌, Bool, true, false, not, ◌&&◌, cond, List, [], ◌∷◌, ◌++◌, append-nil, append_assoc, bytes_eq, codes, decimal, filter, map, nat_eq, if◌then◌else◌, Option, Some, None, ltb-true, refl, sym, ◌∙◌, ap, ap₂, subst, arith}
use Rattle.std.specs.List.{AllByRecursion}
use Rattle.std.specs.Option.{option_map_or}
use Rattle.json_text.specs.Json.{Json}
use Rattle.document_model.proofs.Written.{Spoken, spoken}
use Rattle.mux_history.specs.declared.cause.Cause.{Cause}
use Rattle.mux_history.specs.declared.cause.Cause.TheVariants.{Joined, FromEditor, EditorGone, Started, StartFailed, FromServer, ServerGone, Drained, Tick}
use Rattle.mux_history.specs.declared.out.Out.{Out}
use Rattle.mux_history.specs.declared.out.Out.TheVariants.{ToEditor, ToServer, Spawn, CloseEditor, EndServer}
use Rattle.rpc_message.specs.Message.{Id, Message, request, notification, result, error, not_json, not_message, integer, message_of, text}
use Rattle.event_model.specs.Event.{Event, behind, heard, said, same_id, did, with_cause}
use Rattle.event_model.specs.Members.{bytes_if, is_token, named_of, params_of}
use Rattle.event_model.specs.Requests.{answered_id, is_open, is_own, next_number}
use Rattle.event_model.specs.Settings.{Settings}
use Rattle.event_model.proofs.Frames.{never}
use Rattle.mux_facts.specs.Allowed.{is_response}
use Rattle.mux_facts.specs.Ranges.{InRange}
use Rattle.mux_facts.proofs.Lists.{all_filtered, all_of}
use Rattle.mux_facts.proofs.Words.{same_id_itself, same_number}
use Rattle.session_laws.specs.Progress.{tokens_at, unanswered}
use Rattle.session_laws.specs.ServerRules.{working_behind}
use Rattle.session_laws.proofs.Server7Law.{is_from_server, working, working_grows, working_more}
use Rattle.session_laws.proofs.Tokens.{holds, holds_last, holds_left, or_first}
use Rattle.group_rows.specs.Forwarded.{Forwarded, Forwarding, answered_by, cancelled_by, first_sender, forwarding_next, forwarding_of, forwards, is_written, names, no_forwarding, numbered, token_in, Sender, sender_or}
use Rattle.group_rows.specs.Tokens.{mark, work_mark}
use Rattle.group_facts.specs.Why.{IsForward, WhyToServer, begins, cancels, cancels_work, exits, forwarded, greets, conveys, notes, resolves, responds, shuts, tells}
use Rattle.group_facts.proofs.Apart.{grow, new}
use Rattle.group_rows.proofs.Frames.{forwarding_more}
use Rattle.group_sessions.proofs.SentWork.{SentWork, sent_work}
use Rattle.group_sessions.proofs.Telling.{Adds}
use Rattle.group_sessions.proofs.TellingSent.{AtWork, at_work}

-- the daemon's token for the work of request n waits there
abbrev pub Waits : ℕ → List Event → ℕ → Type 0
Waits s events n = holds (integer (decimal n)) (text (mark (work_mark n))) (working s events) ≡ true

abbrev pub IsWorking : ℕ → List Event → Forwarded → Type 0
IsWorking s events f = (bytes : List ℕ) → f.work ≡ Some bytes → Waits s events f.number

abbrev pub AllWorking : ℕ → List Event → List Forwarded → Type 0
AllWorking s events fs = AllByRecursion (IsWorking s events) fs

abbrev pub Ties : Settings → List Event → Type 0
Ties settings events = (s : ℕ) → AllWorking s events (forwarding_of settings s events).open_requests

-- Later

waits_later : (s : ℕ) (events : List Event) (event : Event) → is_from_server event ≡ false → (n : ℕ) → Waits s events n → Waits s (events ++ event ∷ []) n
waits_later s events event off n h = working_grows s events event off (integer (decimal n)) (text (mark (work_mark n))) h

all_later : (s : ℕ) (events : List Event) (event : Event) → is_from_server event ≡ false → (fs : List Forwarded) → AllWorking s events fs → AllWorking s (events ++ event ∷ []) fs
all_later s events event off fs h = all_of (IsWorking s events) (IsWorking s (events ++ event ∷ [])) (λ f k bytes is. waits_later s events event off f.number (k bytes is)) fs h

pub waits_behind : (s : ℕ) (events : List Event) (outs : List Out) (n : ℕ) → Waits s events n → Waits s (behind events outs) n
waits_behind s events [] n h = subst (λ z. Waits s z n) (sym (append-nil events)) h
waits_behind s events (out ∷ outs) n h = subst (λ z. Waits s z n) (append_assoc events (said out ∷ []) (map said outs)) (waits_behind s (events ++ said out ∷ []) outs n (waits_later s events (said out) (silent out) n h))
  where
    silent : (o : Out) → is_from_server (said o) ≡ false
    silent (ToEditor e body) = refl
    silent (ToServer t body) = refl
    silent (Spawn t g) = refl
    silent (CloseEditor e) = refl
    silent (EndServer t) = refl

pub waits_took : (s : ℕ) (before : List Event) (e : ℕ) (asked : List ℕ) (n : ℕ) → Waits s before n → Waits s (with_cause before (FromEditor e asked)) n
waits_took s before e asked n h = waits_later s before (heard (FromEditor e asked)) refl n h

ties_by : (settings : Settings) (events later : List Event) (event : Event) → later ≡ events ++ event ∷ [] → ((s : ℕ) → AllWorking s later (forwarding_next settings s events (forwarding_of settings s events) event).open_requests) → Ties settings later
ties_by settings events later event is h s = subst (λ (x : Forwarding). AllWorking s later x.open_requests) (sym (ap (forwarding_of settings s) is ∙ forwarding_more settings s events event)) (h s)

-- an event that is no message of a start, and leaves what is open
pub ties_free : (settings : Settings) (events : List Event) (event : Event) → is_from_server event ≡ false → ((s : ℕ) → (forwarding_next settings s events (forwarding_of settings s events) event).open_requests ≡ (forwarding_of settings s events).open_requests) → Ties settings events → Ties settings (events ++ event ∷ [])
ties_free settings events event off same h = ties_by settings events (events ++ event ∷ []) event refl (λ s. subst (AllWorking s (events ++ event ∷ [])) (sym (same s)) (all_later s events event off (forwarding_of settings s events).open_requests (h s)))

-- A message of a start

pub names_same : (i : Id) (n : ℕ) → same_id i (integer (decimal n)) ≡ names (Some i) n
names_same (integer digits) n = refl
names_same (text characters) n = refl

not_so : (b : Bool) → not b ≡ true → b ≡ false
not_so true h = never (sym h)
not_so false h = refl

answer_other : (answer : Option Id) (n : ℕ) → not (names answer n) ≡ true → (i : Id) → answer ≡ Some i → same_id i (integer (decimal n)) ≡ false
answer_other answer n other i is = names_same i n ∙ ap (λ o. names o n) (sym is) ∙ not_so (names answer n) other

ties_heard : (settings : Settings) (before : List Event) (n : ℕ) (body : List ℕ) → Ties settings before → Ties settings (with_cause before (FromServer n body))
ties_heard settings before n body h = ties_by settings before (with_cause before (FromServer n body)) (heard (FromServer n body)) refl (λ s. go s (nat_eq n s) refl)
  where
    later : List Event
    later = with_cause before (FromServer n body)

    answer : Option Id
    answer = answered_id (message_of body)

    is_more : (s : ℕ) (b : Bool) → nat_eq n s ≡ b → working s later ≡ cond b (unanswered answer (working s before)) (working s before)
    is_more s b at = working_more s before (heard (FromServer n body)) ∙ ap (λ c. cond c (unanswered answer (working s before)) (working s before)) at

    one : (s : ℕ) (f : Forwarded) → nat_eq n s ≡ true → not (answered_by answer f) ≡ true → IsWorking s before f → IsWorking s later f
    one s f at other k bytes is = subst (λ rs. holds (integer (decimal f.number)) (text (mark (work_mark f.number))) rs ≡ true) (sym (is_more s true at))
        (holds_left answer (integer (decimal f.number)) (text (mark (work_mark f.number))) (answer_other answer f.number other) (working s before) (k bytes is))

    still : (s : ℕ) (f : Forwarded) → nat_eq n s ≡ false → IsWorking s before f → IsWorking s later f
    still s f at k bytes is = subst (λ rs. holds (integer (decimal f.number)) (text (mark (work_mark f.number))) rs ≡ true) (sym (is_more s false at)) (k bytes is)

    go : (s : ℕ) (b : Bool) → nat_eq n s ≡ b → AllWorking s later (if b then filter (λ f. not (answered_by answer f)) (forwarding_of settings s before).open_requests else (forwarding_of settings s before).open_requests)
    go s true at = all_filtered (IsWorking s before) (IsWorking s later) (λ f. not (answered_by answer f)) (λ f other k. one s f at other k) (forwarding_of settings s before).open_requests (h s)
    go s false at = all_of (IsWorking s before) (IsWorking s later) (λ f k. still s f at k) (forwarding_of settings s before).open_requests (h s)

-- its program ended
ties_ended : (settings : Settings) (before : List Event) (cause : Cause) (n : ℕ) → is_from_server (heard cause) ≡ false
    → ((s : ℕ) → (forwarding_next settings s before (forwarding_of settings s before) (heard cause)).open_requests ≡ (if nat_eq n s then [] else (forwarding_of settings s before).open_requests)) → Ties settings before → Ties settings (with_cause before cause)
ties_ended settings before cause n off same h = ties_by settings before (with_cause before cause) (heard cause) refl (λ s. subst (AllWorking s (with_cause before cause)) (sym (same s)) (go s (nat_eq n s)))
  where
    go : (s : ℕ) (b : Bool) → AllWorking s (with_cause before cause) (if b then [] else (forwarding_of settings s before).open_requests)
    go s true = tt
    go s false = all_later s before (heard cause) off (forwarding_of settings s before).open_requests (h s)

ended_list : (b : Bool) (x : Forwarding) → (if b then no_forwarding else record { sender = None; next = x.next; open_requests = x.open_requests }).open_requests ≡ (if b then [] else x.open_requests)
ended_list true x = refl
ended_list false x = refl

pub ties_took : (settings : Settings) (before : List Event) (cause : Cause) → Ties settings before → Ties settings (with_cause before cause)
ties_took settings before (FromServer n body) h = ties_heard settings before n body h
ties_took settings before (StartFailed n) h = ties_ended settings before (StartFailed n) n refl (λ s. ended_list (nat_eq n s) (forwarding_of settings s before)) h
ties_took settings before (ServerGone n) h = ties_ended settings before (ServerGone n) n refl (λ s. ended_list (nat_eq n s) (forwarding_of settings s before)) h
ties_took settings before (FromEditor e body) h = ties_free settings before (heard (FromEditor e body)) refl (λ s. refl) h
ties_took settings before (Joined e) h = ties_free settings before (heard (Joined e)) refl (λ s. refl) h
ties_took settings before (EditorGone e why) h = ties_free settings before (heard (EditorGone e why)) refl (λ s. refl) h
ties_took settings before (Started n) h = ties_free settings before (heard (Started n)) refl (λ s. refl) h
ties_took settings before (Drained e k) h = ties_free settings before (heard (Drained e k)) refl (λ s. refl) h
ties_took settings before (Tick t) h = ties_free settings before (heard (Tick t)) refl (λ s. refl) h

-- A body to a start

module _ (s : ℕ) (events : List Event) where
  cancelled : (f : Forwarded) (b : Bool) → IsWorking s events f → IsWorking s events (if b then record f { cancelled = true } else f)
  cancelled f true h = h
  cancelled f false h = h

  all_cancelled : (j : Option Json) (fs : List Forwarded) → AllWorking s events fs → AllWorking s events (map (cancelled_by j) fs)
  all_cancelled j [] h = tt
  all_cancelled j (f ∷ fs) h = (cancelled f (is_written j f.number) h.0, all_cancelled j fs h.1)

  forwards_working : (first : Option Sender) (x : Forwarding) (m : Message) → Adds m → AllWorking s events x.open_requests → AllWorking s events (forwards first x m).open_requests
  forwards_working first x (request id method ps) own h = go (is_own method) own
    where
      go : (b : Bool) → b ≡ true → AllWorking s events (if b then x else record { sender = x.sender; next = x.next + 1; open_requests = x.open_requests ++ numbered (sender_or x.sender first) x.next }).open_requests
      go true k = h
      go false k = never (sym k)
  forwards_working first x (notification method ps) own h = go (bytes_eq method (codes "$/cancelRequest"))
    where
      go : (b : Bool) → AllWorking s events (if b then record { sender = x.sender; next = x.next; open_requests = map (cancelled_by (named_of (codes "id") ps)) x.open_requests } else x).open_requests
      go true = all_cancelled (named_of (codes "id") ps) x.open_requests h
      go false = h
  forwards_working first x (result id r) own h = h
  forwards_working first x (error id r) own h = h
  forwards_working first x not_json own h = h
  forwards_working first x not_message own h = h

token_there : (name body bytes : List ℕ) → token_in name body ≡ Some bytes → is_token (named_of name (params_of body)) ≡ true
token_there name body bytes h = go (is_token (named_of name (params_of body))) h
  where
    go : (b : Bool) → (if b then bytes_if name (params_of body) body else None) ≡ Some bytes → b ≡ true
    go true k = refl
    go false k = absurd (cc)

module _ (settings : Settings) (range : InRange settings) (before : List Event) (cause : Cause) (events : List Event) (n : ℕ) (body : List ℕ) where
  abbrev sent : List Event
  sent = events ++ said (ToServer n body) ∷ []

  plain : (m : Message) → message_of body ≡ m → Adds m → Ties settings events → Ties settings sent
  plain m says own h = ties_by settings events sent (said (ToServer n body)) refl (λ s. go s (nat_eq n s) (all_later s events (said (ToServer n body)) refl (forwarding_of settings s events).open_requests (h s)))
    where
      go : (s : ℕ) (b : Bool) → AllWorking s sent (forwarding_of settings s events).open_requests → AllWorking s sent (if b then forwards (first_sender settings s events) (forwarding_of settings s events) (message_of body) else forwarding_of settings s events).open_requests
      go s true k = forwards_working s sent (first_sender settings s events) (forwarding_of settings s events) (message_of body) (subst Adds (sym says) own) k
      go s false k = k

  answer_adds : (m : Message) → is_response m ≡ true → Adds m
  answer_adds (result id r) h = tt
  answer_adds (error id x) h = tt
  answer_adds (request id method params) h = absurd (cc)
  answer_adds (notification method params) h = absurd (cc)
  answer_adds not_json h = absurd (cc)
  answer_adds not_message h = absurd (cc)

  module _ (k : IsForward settings before cause events n body) where
    abbrev next : ℕ
    next = (forwarding_of settings n events).next

    its : AtWork (k.sender).editor k.asked k.sender
    its = at_work (k.sender).editor k.asked k.sender k.own

    small : next < 2 ^ 64
    small = let low : next < settings.limits.requests = ltb-true next settings.limits.requests k.room in let wide : settings.limits.requests < 2 ^ 32 = range.requests in omega (arith, low, wide)

    waits_new : (bytes : List ℕ) → (k.sender).work ≡ Some bytes → Waits n sent next
    waits_new bytes is = subst (λ rs. holds (integer (decimal next)) (text (mark (work_mark next))) rs ≡ true)
        (sym (working_more n events (said (ToServer n body)) ∙ ap₂ (λ b m. cond b (working_behind (working n events) (did (ToServer n body) m)) (working n events)) (same_number n) (ap message_of k.bytes ∙ x.says)))
        (holds_last (integer (decimal next)) (text (mark (work_mark next))) (working n events) (record { id = integer (decimal next); tokens = tokens_at (codes "workDoneToken") x.params })
        (ap₂ (λ a b. a && b) (same_id_itself (integer (decimal next))) (ap (λ o. is_open (text (mark (work_mark next))) (option_map_or (λ (t : Id). t ∷ []) o [])) x.names ∙ or_first (same_id (text (mark (work_mark next))) (text (mark (work_mark next)))) false (same_id_itself (text (mark (work_mark next)))))))
      where
        x : SentWork next k.asked its.method
        x = sent_work next small k.asked its.id its.method its.params its.says (token_there (codes "workDoneToken") k.asked bytes (sym its.work ∙ is))

    working_new : IsWorking n sent (new settings before cause events n body k)
    unfolding new
    working_new = waits_new

    asked_now : Ties settings events → Ties settings sent
    asked_now h s = grow settings before cause events n body k s (IsWorking s sent) (all_later s events (said (ToServer n body)) refl (forwarding_of settings s events).open_requests (h s)) (λ same. subst (λ z. IsWorking z sent (new settings before cause events n body k)) same working_new)

  pub ties_sent : WhyToServer settings before cause events n body → Ties settings events → Ties settings sent
  ties_sent (begins k) h = plain (request (integer (codes "1")) (codes "initialize") k.params) k.says refl h
  ties_sent (greets k) h = plain (notification (codes "initialized") k.params) k.says tt h
  ties_sent (conveys k) h = plain (notification (codes "workspace/didChangeConfiguration") k.params) k.says tt h
  ties_sent (forwarded k) h = asked_now k h
  ties_sent (notes k) h = plain (notification k.method k.params) k.says tt h
  ties_sent (tells k) h = let m : Spoken (message_of body) = spoken (message_of body) k.spoken in plain (notification m.method m.params) m.is tt h
  ties_sent (shuts k) h = plain (request (integer (decimal (next_number n events))) (codes "shutdown") None) k.says refl h
  ties_sent (cancels k) h = plain (notification (codes "$/cancelRequest") (Some k.params)) k.says tt h
  ties_sent (cancels_work k) h = plain (notification (codes "window/workDoneProgress/cancel") k.params) k.says tt h
  ties_sent (responds k) h = plain (message_of body) refl (answer_adds (message_of body) k.response) h
  ties_sent (resolves k) h = plain (message_of body) refl (answer_adds (message_of body) k.response) h
  ties_sent (exits k) h = plain (notification (codes "exit") None) k.says tt h
