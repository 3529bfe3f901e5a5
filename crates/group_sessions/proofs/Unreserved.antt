-- The tokens of editors' requests that are open at starts: none begins as the daemon's own do, since such requests are refused (E10).
use Rattle.std.proofs.Common.{◌≡◌, ℕ, ◌+◌, Bool, true, false, not, ◌||◌, List, [], ◌∷◌, ◌++◌, bytes_eq, codes, decimal, filter, map, nat_eq, if◌then◌else◌, Option, Some, None, refl, sym, ◌∙◌, ap, subst}
use Rattle.std.specs.List.{AllByRecursion}
use Rattle.json_text.specs.Json.{Json}
use Rattle.document_model.proofs.Written.{Spoken, spoken}
use Rattle.mux_history.specs.declared.cause.Cause.{Cause}
use Rattle.mux_history.specs.declared.cause.Cause.TheVariants.{Joined, FromEditor, EditorGone, Started, StartFailed, FromServer, ServerGone, Drained, Tick}
use Rattle.mux_history.specs.declared.out.Out.{Out}
use Rattle.mux_history.specs.declared.out.Out.TheVariants.{ToEditor, ToServer, Spawn, CloseEditor, EndServer}
use Rattle.rpc_message.specs.Message.{Id, Message, request, notification, result, error, not_json, not_message, integer, message_of}
use Rattle.rpc_message.specs.ValueTexts.{IsIdText}
use Rattle.event_model.specs.Event.{Event, behind, heard, said, with_cause}
use Rattle.event_model.specs.Members.{named_of, params_of}
use Rattle.event_model.specs.Requests.{answered_id, is_own, next_number}
use Rattle.event_model.specs.Settings.{Settings}
use Rattle.event_model.proofs.Frames.{never}
use Rattle.mux_model.specs.Fits.{fits_behind}
use Rattle.mux_facts.specs.Allowed.{is_response}
use Rattle.mux_facts.specs.Ranges.{InRange}
use Rattle.mux_facts.proofs.Lists.{all_filtered}
use Rattle.mux_facts.proofs.Reasons.{reasons_keep}
use Rattle.group_rows.specs.Forwarded.{Forwarded, Forwarding, answered_by, cancelled_by, first_sender, forwarding_next, forwarding_of, forwards, is_written, no_forwarding, numbered, token_in, Sender, sender_or}
use Rattle.group_rows.specs.Rows.{outs_of}
use Rattle.group_rows.specs.Reserved.{is_reserved}
use Rattle.group_facts.specs.Why.{IsForward, Why, WhyToServer, begins, cancels, cancels_work, exits, forwarded, greets, conveys, notes, resolves, responds, shuts, tells}
use Rattle.group_facts.proofs.Apart.{grow, new}
use Rattle.group_rows.proofs.Frames.{forwarding_more}
use Rattle.group_facts.proofs.Reached.{Reached, facts_at}
use Rattle.group_facts.proofs.Table.{reasons}
use Rattle.group_sessions.proofs.Brought.{Brought, brought}
use Rattle.group_sessions.proofs.CreatedFold.{free_of, is_free}
use Rattle.group_sessions.proofs.Telling.{Adds}
use Rattle.group_sessions.proofs.TellingSent.{AtWork, at_work}
use Rattle.group_sessions.proofs.Walk.{KeepsSlow, walk}
use Rattle.group_facts.proofs.SlowRow.{parting, parting_why}
use Rattle.group_facts.specs.Why.{quitting}

-- the text of an id that an editor may choose as a token
pub record IsFreeText (bytes : List ℕ) : Type 0 where
  pub id : Id
  pub text : IsIdText id bytes
  pub free : is_free id ≡ true

pub record IsUnreserved (f : Forwarded) : Type 0 where
  pub work : (bytes : List ℕ) → f.work ≡ Some bytes → IsFreeText bytes
  pub partial : (bytes : List ℕ) → f.partial ≡ Some bytes → IsFreeText bytes

abbrev pub AllUnreserved : List Forwarded → Type 0
AllUnreserved fs = AllByRecursion IsUnreserved fs

abbrev pub Unreserved : Settings → List Event → Type 0
Unreserved settings events = (s : ℕ) → AllUnreserved (forwarding_of settings s events).open_requests

-- One event more

by_event : (settings : Settings) (events later : List Event) (event : Event) → later ≡ events ++ event ∷ [] → ((s : ℕ) → AllUnreserved (forwarding_next settings s events (forwarding_of settings s events) event).open_requests) → Unreserved settings later
by_event settings events later event is h s = subst (λ (x : Forwarding). AllUnreserved x.open_requests) (sym (ap (forwarding_of settings s) is ∙ forwarding_more settings s events event)) (h s)

cancelled : (f : Forwarded) (b : Bool) → IsUnreserved f → IsUnreserved (if b then record f { cancelled = true } else f)
cancelled f true h = record { work = h.work; partial = h.partial }
cancelled f false h = h

all_cancelled : (j : Option Json) (fs : List Forwarded) → AllUnreserved fs → AllUnreserved (map (cancelled_by j) fs)
all_cancelled j [] h = tt
all_cancelled j (f ∷ fs) h = (cancelled f (is_written j f.number) h.0, all_cancelled j fs h.1)

fewer : (b : Bool) (test : Forwarded → Bool) (fs : List Forwarded) → AllUnreserved fs → AllUnreserved (if b then filter test fs else fs)
fewer true test fs h = all_filtered IsUnreserved IsUnreserved test (λ f on k. k) fs h
fewer false test fs h = h

ended : (b : Bool) (x : Forwarding) → AllUnreserved x.open_requests → AllUnreserved (if b then no_forwarding else record { sender = None; next = x.next; open_requests = x.open_requests }).open_requests
ended true x h = tt
ended false x h = h

heard_unreserved : (settings : Settings) (s : ℕ) (before : List Event) (x : Forwarding) (cause : Cause) → AllUnreserved x.open_requests → AllUnreserved (forwarding_next settings s before x (heard cause)).open_requests
heard_unreserved settings s before x (FromServer n body) h = fewer (nat_eq n s) (λ f. not (answered_by (answered_id (message_of body)) f)) x.open_requests h
heard_unreserved settings s before x (StartFailed n) h = ended (nat_eq n s) x h
heard_unreserved settings s before x (ServerGone n) h = ended (nat_eq n s) x h
heard_unreserved settings s before x (FromEditor e body) h = h
heard_unreserved settings s before x (Joined e) h = h
heard_unreserved settings s before x (EditorGone e why) h = h
heard_unreserved settings s before x (Started n) h = h
heard_unreserved settings s before x (Drained e k) h = h
heard_unreserved settings s before x (Tick t) h = h

took : (settings : Settings) (before : List Event) (cause : Cause) → Unreserved settings before → Unreserved settings (with_cause before cause)
took settings before cause h = by_event settings before (with_cause before cause) (heard cause) refl (λ s. heard_unreserved settings s before (forwarding_of settings s before) cause (h s))

forwards_unreserved : (first : Option Sender) (x : Forwarding) (m : Message) → Adds m → AllUnreserved x.open_requests → AllUnreserved (forwards first x m).open_requests
forwards_unreserved first x (request id method ps) own h = go (is_own method) own
  where
    go : (b : Bool) → b ≡ true → AllUnreserved (if b then x else record { sender = x.sender; next = x.next + 1; open_requests = x.open_requests ++ numbered (sender_or x.sender first) x.next }).open_requests
    go true k = h
    go false k = never (sym k)
forwards_unreserved first x (notification method ps) own h = go (bytes_eq method (codes "$/cancelRequest"))
  where
    go : (b : Bool) → AllUnreserved (if b then record { sender = x.sender; next = x.next; open_requests = map (cancelled_by (named_of (codes "id") ps)) x.open_requests } else x).open_requests
    go true = all_cancelled (named_of (codes "id") ps) x.open_requests h
    go false = h
forwards_unreserved first x (result id r) own h = h
forwards_unreserved first x (error id r) own h = h
forwards_unreserved first x not_json own h = h
forwards_unreserved first x not_message own h = h

-- A body to a start

neither : (a b : Bool) → (a || b) ≡ false → (a ≡ false) × (b ≡ false)
neither true b h = never h
neither false b h = (refl, h)

module _ (settings : Settings) (before : List Event) (cause : Cause) (events : List Event) (n : ℕ) (body : List ℕ) where
  abbrev sent : List Event
  sent = events ++ said (ToServer n body) ∷ []

  plain : (m : Message) → message_of body ≡ m → Adds m → Unreserved settings events → Unreserved settings sent
  plain m says own h = by_event settings events sent (said (ToServer n body)) refl (λ s. go s (nat_eq n s))
    where
      go : (s : ℕ) (b : Bool) → AllUnreserved (if b then forwards (first_sender settings s events) (forwarding_of settings s events) (message_of body) else forwarding_of settings s events).open_requests
      go s true = forwards_unreserved (first_sender settings s events) (forwarding_of settings s events) (message_of body) (subst Adds (sym says) own) (h s)
      go s false = h s

  answer_adds : (m : Message) → is_response m ≡ true → Adds m
  answer_adds (result id r) h = tt
  answer_adds (error id x) h = tt
  answer_adds (request id method params) h = absurd (cc)
  answer_adds (notification method params) h = absurd (cc)
  answer_adds not_json h = absurd (cc)
  answer_adds not_message h = absurd (cc)

  -- an editor's request
  module _ (k : IsForward settings before cause events n body) where
    its : AtWork (k.sender).editor k.asked k.sender
    its = at_work (k.sender).editor k.asked k.sender k.own

    free_named : (name bytes : List ℕ) → is_reserved (named_of name (params_of k.asked)) ≡ false → token_in name k.asked ≡ Some bytes → IsFreeText bytes
    free_named name bytes off is = let b : Brought name k.asked bytes = brought name k.asked bytes is in record { id = b.id; text = b.text; free = free_of (named_of name (params_of k.asked)) b.id b.names (ap not off) }

    both : (is_reserved (named_of (codes "workDoneToken") (params_of k.asked)) ≡ false) × (is_reserved (named_of (codes "partialResultToken") (params_of k.asked)) ≡ false)
    both = neither (is_reserved (named_of (codes "workDoneToken") (params_of k.asked))) (is_reserved (named_of (codes "partialResultToken") (params_of k.asked))) k.free

    new_unreserved : IsUnreserved (new settings before cause events n body k)
    unfolding new
    new_unreserved = record { work = λ bytes is. free_named (codes "workDoneToken") bytes both.0 (sym its.work ∙ is); partial = λ bytes is. free_named (codes "partialResultToken") bytes both.1 (sym its.partial ∙ is) }

  unreserved_sent : WhyToServer settings before cause events n body → Unreserved settings events → Unreserved settings sent
  unreserved_sent (begins k) h = plain (request (integer (codes "1")) (codes "initialize") k.params) k.says refl h
  unreserved_sent (greets k) h = plain (notification (codes "initialized") k.params) k.says tt h
  unreserved_sent (conveys k) h = plain (notification (codes "workspace/didChangeConfiguration") k.params) k.says tt h
  unreserved_sent (forwarded k) h = λ s. grow settings before cause events n body k s IsUnreserved (h s) (λ same. new_unreserved k)
  unreserved_sent (notes k) h = plain (notification k.method k.params) k.says tt h
  unreserved_sent (tells k) h = let m : Spoken (message_of body) = spoken (message_of body) k.spoken in plain (notification m.method m.params) m.is tt h
  unreserved_sent (shuts k) h = plain (request (integer (decimal (next_number n events))) (codes "shutdown") None) k.says refl h
  unreserved_sent (cancels k) h = plain (notification (codes "$/cancelRequest") (Some k.params)) k.says tt h
  unreserved_sent (cancels_work k) h = plain (notification (codes "window/workDoneProgress/cancel") k.params) k.says tt h
  unreserved_sent (responds k) h = plain (message_of body) refl (answer_adds (message_of body) k.response) h
  unreserved_sent (resolves k) h = plain (message_of body) refl (answer_adds (message_of body) k.response) h
  unreserved_sent (exits k) h = plain (notification (codes "exit") None) k.says tt h

-- A whole history

module _ (settings : Settings) (range : InRange settings) where
  did : (before : List Event) (cause : Cause) (events : List Event) (out : Out) → Why settings before cause events out → Unreserved settings events → Unreserved settings (events ++ said out ∷ [])
  did before cause events (ToServer n body) why h = unreserved_sent settings before cause events n body why h
  did before cause events (ToEditor e body) why h = by_event settings events (events ++ said (ToEditor e body) ∷ []) (said (ToEditor e body)) refl h
  did before cause events (Spawn n g) why h = by_event settings events (events ++ said (Spawn n g) ∷ []) (said (Spawn n g)) refl h
  did before cause events (CloseEditor e) why h = by_event settings events (events ++ said (CloseEditor e) ∷ []) (said (CloseEditor e)) refl h
  did before cause events (EndServer n) why h = by_event settings events (events ++ said (EndServer n) ∷ []) (said (EndServer n)) refl h

  entry : (before : List Event) → Reached settings before → (cause : Cause) → fits_behind before cause ≡ true → Unreserved settings before → Unreserved settings (behind (with_cause before cause) (outs_of settings before cause))
  entry before so_far cause fits h = reasons_keep (λ events out. Why settings before cause events out) (Unreserved settings) (did before cause) (with_cause before cause) (outs_of settings before cause)
      (reasons settings range before (facts_at settings range before so_far) cause).why (took settings before cause h)

  slow : KeepsSlow settings (Unreserved settings)
  slow place at e is h = reasons_keep (Why settings place (quitting e)) (Unreserved settings) (did place (quitting e)) place (parting settings place e) (parting_why settings range place (facts_at settings range place at) e is) h

  pub all_unreserved : (before : List Event) → Reached settings before → Unreserved settings before
  all_unreserved before so_far = walk settings (Unreserved settings) entry slow (λ s. tt) before so_far
