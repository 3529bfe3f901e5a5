-- What goes to a start by an editor's message without a sync: nothing of a document.
use Rattle.std.proofs.Common.{◌≡◌, ℕ, ◌^◌, ◌<◌, Bool, true, false, cond, List, [], ◌∷◌, codes, decimal, nat_eq, ltb-true, if◌then◌else◌, Option, None, Some, refl, sym, ◌∙◌, ap, subst, arith}
use Rattle.std.specs.Prelude.{find}
use Rattle.std.specs.List.{AllByRecursion}
use Rattle.std.specs.Option.{option_and_then}
use Rattle.std.proofs.lemmas.Bool.{and_parts}
use Rattle.json_text.specs.Json.{Json}
use Rattle.document_model.specs.Sayings.{Saying, changes, closes, misshapen, opens, saying_by, saying_of, speaks}
use Rattle.document_model.specs.Sayings as saying
use Rattle.mux_history.specs.declared.cause.Cause.TheVariants.{FromEditor}
use Rattle.rpc_message.specs.Message.{Id, Message, integer, request, notification, result, error, not_json, not_message, message_of}
use Rattle.rpc_message.specs.Texts.{with_id_text}
use Rattle.rpc_message.specs.ValueTexts.{IsIdText}
use Rattle.rpc_message.proofs.Fixed.{id_as_response}
use Rattle.rpc_message.proofs.Ids.{error_with_id, result_with_id}
use Rattle.event_model.specs.Event.{Event, behind, heard, with_cause}
use Rattle.event_model.specs.Members.{named_of}
use Rattle.event_model.specs.Requests.{answered_id}
use Rattle.event_model.specs.Row.{Row, each, nothing, on, outs}
use Rattle.event_model.specs.Settings.{Settings}
use Rattle.event_model.specs.Spawns.{start_of}
use Rattle.event_model.specs.Stages.{is_ready, life_of}
use Rattle.event_model.proofs.Frames.{never}
use Rattle.mux_facts.specs.Allowed.{is_response}
use Rattle.mux_facts.specs.Ranges.{InRange}
use Rattle.mux_facts.proofs.DocumentRow.{ready_is}
use Rattle.mux_facts.proofs.Reasons.{Because, by_nothing, by_send, by_then, by_choose, by_on}
use Rattle.group_words.specs.Houses.{server_asked}
use Rattle.group_rows.specs.AskRows.{response_at, response_row}
use Rattle.group_rows.specs.Asks.{Ask, asks_of, is_seated}
use Rattle.group_rows.specs.Cancelling.{cancelling_at, cancelling_row, is_called, number_called, number_named, numbered_text, uncancelled_number}
use Rattle.group_rows.specs.Created.{Taking, Token, created_of, is_marked, token_marked}
use Rattle.group_rows.specs.CreatedRows.{created_work, taking_row, tell, work_at, work_row}
use Rattle.group_rows.specs.Forwarded.{Forwarded, Forwarding, forwarding_of, has_room, names}
use Rattle.group_rows.specs.Rows.{can_ask, cancel_row, document_at, document_row, named_row, open_row, sync_row}
use Rattle.group_rows.specs.Waiting.{named_id}
use Rattle.group_rows.specs.Tokens.{forwarded_text, is_worked, mark_text, marked_text, work_mark}
use Rattle.group_rows.proofs.Cancelling.{Renumbered, renumbered}
use Rattle.group_rows.proofs.CreatedKept.{IsWritten, found_one, tokens_written}
use Rattle.group_rows.proofs.Frames.{forwarding_more}
use Rattle.group_rows.proofs.TokenTexts.{IsTokenText, forwarded_says, mark_token, marked_says}
use Rattle.group_facts.specs.Facts.{Bounded, IsAsked}
use Rattle.group_facts.proofs.Facts.{Facts}
use Rattle.group_facts.proofs.LeaveRows.{IsSmall, numbers_small}
use Rattle.group_facts.proofs.SyncRow.{synced_calm}
use Rattle.rest_laws.specs.Silent.{IsSilent}

pub unspoken : (x : Saying) → speaks x ≡ false → x ≡ saying.nothing
unspoken saying.nothing h = refl
unspoken (opens u l v t) h = never h
unspoken (changes u v cs) h = never h
unspoken (closes u) h = never h
unspoken misshapen h = never h

-- E19: an editor's response under the start's own id
handed_silent : (body : List ℕ) (id : Id) (bytes : List ℕ) → IsIdText id bytes → (m : Message) → message_of body ≡ m → is_response m ≡ true → saying_of (message_of (with_id_text body bytes)) ≡ saying.nothing
handed_silent body id bytes text (result k r) says h = ap saying_of (result_with_id body bytes k (Some id) r says (id_as_response id bytes text))
handed_silent body id bytes text (error k r) says h = ap saying_of (error_with_id body bytes k (Some id) r says (id_as_response id bytes text))
handed_silent body id bytes text (request k method ps) says h = never (sym h)
handed_silent body id bytes text (notification method ps) says h = never (sym h)
handed_silent body id bytes text not_json says h = never (sym h)
handed_silent body id bytes text not_message says h = never (sym h)

named_response : (m : Message) (n : ℕ) → names (answered_id m) n ≡ true → is_response m ≡ true
named_response (result id r) n h = refl
named_response (error id r) n h = refl
named_response (request id method ps) n h = never (sym h)
named_response (notification method ps) n h = never (sym h)
named_response not_json n h = never (sym h)
named_response not_message n h = never (sym h)

find_seated : (test : Ask → Bool) (xs : List Ask) (a : Ask) → find test xs ≡ Some a → test a ≡ true
find_seated test [] a h = absurd (cc)
find_seated test (b ∷ xs) a h = go (test b) refl h (λ k. find_seated test xs a k)
  where
    go : (c : Bool) → test b ≡ c → cond c (Some b) (find test xs) ≡ Some a → (find test xs ≡ Some a → test a ≡ true) → test a ≡ true
    go true is k rest = let same : b ≡ a = cc in subst (λ z. test z ≡ true) same is
    go false is k rest = rest k

-- E11: the number under which a request goes on is small
number_is : (f : Forwarded) (n : ℕ) → uncancelled_number f ≡ Some n → f.number ≡ n
number_is f n h = go f.cancelled h
  where
    go : (b : Bool) → (if b then None else Some f.number) ≡ Some n → f.number ≡ n
    go true h = absurd (cc)
    go false h = cc

small_by : (test : Forwarded → Bool) (n : ℕ) (fs : List Forwarded) → AllByRecursion (λ (f : Forwarded). IsSmall f.number) fs → option_and_then uncancelled_number (find test fs) ≡ Some n → IsSmall n
small_by test n [] all h = absurd (cc)
small_by test n (f ∷ fs) all h = go (test f) h (λ k. small_by test n fs all.1 k)
  where
    go : (b : Bool) → option_and_then uncancelled_number (cond b (Some f) (find test fs)) ≡ Some n → (option_and_then uncancelled_number (find test fs) ≡ Some n → IsSmall n) → IsSmall n
    go true h rest = subst IsSmall (number_is f n h) all.0
    go false h rest = rest h

record Meant (e : ℕ) (params : Option Json) (fs : List Forwarded) (n : ℕ) : Type 0 where
  id : Id
  named : named_id params ≡ Some id
  called : number_called e id fs ≡ Some n

meant : (e : ℕ) (params : Option Json) (fs : List Forwarded) (n : ℕ) → number_named e params fs ≡ Some n → Meant e params fs n
meant e params fs n h = go (named_id params) refl h
  where
    go : (o : Option Id) → named_id params ≡ o → option_and_then (λ id. number_called e id fs) o ≡ Some n → Meant e params fs n
    go (Some id) is h = record { id = id; named = is; called = h }
    go None is h = absurd (cc)

module _ (t : ℕ) (settings : Settings) (range : InRange settings) (before : List Event) (facts : Facts settings before) (e : ℕ) (body : List ℕ) where
  abbrev Quiet : List Event → Row → Type 0
  Quiet events row = Because (λ places out. IsSilent t out) events row

  abbrev pub now : List Event
  now = with_cause before (FromEditor e body)

  -- a document of which nothing is said
  document_nothing : (events : List Event) (g s : ℕ) → Quiet events (document_at settings before e body saying.nothing g s)
  document_nothing events g s = by_choose (λ ready. by_then by_nothing by_nothing) (λ off. by_nothing)

  document_group : (events : List Event) (g : ℕ) → Quiet events (on (start_of g before) nothing (document_at settings before e body saying.nothing g))
  document_group events g = by_on (λ none. by_nothing) (λ s start. document_nothing events g s)

  document_none : (events : List Event) → Quiet events (document_row settings before e body saying.nothing)
  document_none events = by_on (λ none. by_nothing) (λ g home. document_group events g)

  pub quiet_document : (x : Saying) → speaks x ≡ false → (events : List Event) → Quiet events (document_row settings before e body x)
  quiet_document x off events = subst (λ y. Quiet events (document_row settings before e body y)) (sym (unspoken x off)) (document_none events)

  bounded : Bounded settings before
  bounded = (facts.steady).bounded

  module _ (params : Option Json) (says : message_of body ≡ notification (codes "$/cancelRequest") params) where
    numbered_silent : (s n : ℕ) → is_ready (life_of s before).stage ≡ true → number_named e params (forwarding_of settings s before).open_requests ≡ Some n → saying_of (message_of (numbered_text n body)) ≡ saying.nothing
    numbered_silent s n ready is =
        let fs : List Forwarded = (forwarding_of settings s before).open_requests in
        let m : Meant e params fs n = meant e params fs n is in
        let small : n < 2 ^ 64 = small_by (is_called e m.id) n fs (numbers_small settings range before bounded s (ready_is (life_of s before).stage ready)) m.called in
        let new : Renumbered n body (codes "$/cancelRequest") = renumbered n body (codes "$/cancelRequest") params (omega (arith, small)) says m.id m.named in
        ap saying_of new.says

    cancel_start : (events : List Event) (s : ℕ) → Quiet events (cancelling_at settings before e body params s)
    cancel_start events s = by_choose (λ ready. by_on (λ none. by_nothing) (λ n is. by_send (λ same. numbered_silent s n ready is))) (λ off. by_nothing)

    cancel_group : (events : List Event) (g : ℕ) → Quiet events (on (start_of g before) nothing (cancelling_at settings before e body params))
    cancel_group events g = by_on (λ none. by_nothing) (λ s start. cancel_start events s)

    cancel_home : (events : List Event) → Quiet events (cancelling_row settings before e body params)
    cancel_home events = by_on (λ none. by_nothing) (λ g home. cancel_group events g)

    pub quiet_cancel : (events : List Event) → Quiet events (cancel_row settings before e body params)
    quiet_cancel events = by_on (λ none. cancel_home events) (λ r found. by_send tt)

  module _ (params : Option Json) (says : message_of body ≡ notification (codes "window/workDoneProgress/cancel") params) where
    work_silent : (text : List ℕ) → IsTokenText text → saying_of (message_of (marked_text text body)) ≡ saying.nothing
    work_silent text token = ap saying_of (marked_says text body (codes "window/workDoneProgress/cancel") params token says).1

    token_silent : (s : ℕ) (t : Token) → token_marked s params (created_of settings s before) ≡ Some t → saying_of (message_of (marked_text t.text body)) ≡ saying.nothing
    token_silent s t found = let written : IsWritten t = found_one IsWritten (is_marked s (named_of (codes "token") params)) t (created_of settings s before).tokens (tokens_written settings s before) found in work_silent t.text written.text

    request_silent : (s : ℕ) (f : Forwarded) → is_ready (life_of s before).stage ≡ true → find (is_worked e (named_of (codes "token") params)) (forwarding_of settings s before).open_requests ≡ Some f → saying_of (message_of (marked_text (mark_text (work_mark f.number)) body)) ≡ saying.nothing
    request_silent s f ready found =
        let small : f.number < 2 ^ 64 = found_one (λ (g : Forwarded). IsSmall g.number) (is_worked e (named_of (codes "token") params)) f (forwarding_of settings s before).open_requests (numbers_small settings range before bounded s (ready_is (life_of s before).stage ready)) found in
        work_silent (mark_text (work_mark f.number)) (mark_token (work_mark f.number) (omega (arith, small)))

    work_token : (events : List Event) (s : ℕ) → Quiet events (created_work settings before e body params s)
    work_token events s = by_on (λ none. by_nothing) (λ t found. by_choose (λ accepted. by_send (λ same. token_silent s t found)) (λ no. by_nothing))

    work_start : (events : List Event) (s : ℕ) → Quiet events (work_at settings before e body params s)
    work_start events s = by_choose (λ ready. by_on (λ none. work_token events s) (λ f found. by_send (λ same. request_silent s f ready found))) (λ off. by_nothing)

    work_group : (events : List Event) (g : ℕ) → Quiet events (on (start_of g before) nothing (work_at settings before e body params))
    work_group events g = by_on (λ none. by_nothing) (λ s start. work_start events s)

    pub quiet_work : (events : List Event) → Quiet events (work_row settings before e body params)
    quiet_work events = by_on (λ none. by_nothing) (λ g home. work_group events g)

  -- E19
  quiet_tells : (s k : ℕ) (bodies : List (List ℕ)) (places : List Event) → Quiet places (each (tell s k e) bodies)
  quiet_tells s k [] places = by_nothing
  quiet_tells s k (b ∷ bodies) places = by_then (by_send tt) (quiet_tells s k bodies (behind places (outs (tell s k e b) places)))

  taken_at : (m : Message) (s : ℕ) (events : List Event) → Quiet events (taking_row settings before e m s)
  taken_at m s events = by_choose (λ runs. by_on (λ none. by_nothing) (λ (c : Taking) found. by_choose (λ agrees. quiet_tells s c.token c.held events) (λ no. by_nothing))) (λ idle. by_nothing)

  module _ (m : Message) (says : message_of body ≡ m) where
    back_silent : (s : ℕ) (a : Ask) → find (is_seated e (answered_id m)) (asks_of settings s before) ≡ Some a → saying_of (message_of (with_id_text body a.bytes)) ≡ saying.nothing
    back_silent s a found =
        let k : IsAsked s before a = found_one (IsAsked s before) (is_seated e (answered_id m)) a (asks_of settings s before) ((facts.steady).asks s).asked found in
        let named = and_parts (nat_eq a.editor e) (names (answered_id m) a.number) (find_seated (is_seated e (answered_id m)) (asks_of settings s before) a found) in
        handed_silent body a.id a.bytes k.text m says (named_response m a.number named.1)

    handed_at : (s : ℕ) (events : List Event) → Quiet events (response_at settings before e body m s)
    handed_at s events = by_choose (λ ready. by_on (λ none. taken_at m s events) (λ (a : Ask) found. by_send (λ same. back_silent s a found))) (λ off. by_nothing)

    handed_in : (g : ℕ) (events : List Event) → Quiet events (on (start_of g before) nothing (response_at settings before e body m))
    handed_in g events = by_on (λ none. by_nothing) (λ s start. handed_at s events)

    pub quiet_response : (events : List Event) → Quiet events (response_row settings before e body m)
    quiet_response events = by_on (λ none. by_nothing) (λ g home. handed_in g events)

  -- E4
  quiet_named : (o : Option ℕ) → Quiet now (named_row e body o)
  quiet_named None = by_send tt
  quiet_named (Some server) = by_send tt

  pub quiet_open : (m : Message) → Quiet now (open_row settings before e body m)
  quiet_open m = by_choose (λ first. quiet_named (server_asked settings.servers body)) (λ late. by_send tt)

  -- what goes on of a request, behind the sync
  module _ (id : Id) (method : List ℕ) (params : Option Json) (says : message_of body ≡ request id method params) where
    abbrev pub sent_number : ℕ → ℕ → ℕ
    sent_number g s = (forwarding_of settings s (behind now (outs (sync_row settings before g s e) now))).next

    next_is : (g s : ℕ) → is_ready (life_of s before).stage ≡ true → sent_number g s ≡ (forwarding_of settings s before).next
    next_is g s ready = ((synced_calm settings range before (facts.base).opened e body g s ready).still).next ∙ ap (λ (x : Forwarding). x.next) (forwarding_more settings s before (heard (FromEditor e body)))

    pub forward_said : (g s : ℕ) → can_ask settings s before ≡ true → (new : Option Json) × (message_of (forwarded_text (sent_number g s) body) ≡ request (integer (decimal (sent_number g s))) method new)
    forward_said g s can =
        let both = and_parts (is_ready (life_of s before).stage) (has_room settings s before) can in
        let same : sent_number g s ≡ (forwarding_of settings s before).next = next_is g s both.0 in
        let below : (forwarding_of settings s before).next < settings.limits.requests = ltb-true (forwarding_of settings s before).next settings.limits.requests both.1 in
        let wide : settings.limits.requests < 2 ^ 32 = range.requests in
        forwarded_says (sent_number g s) body id method params (omega (arith, same, below, wide)) says
