-- Each open request of a start was sent on to it, at a moment that the events before tell.
use Rattle.std.proofs.Common.{◌≡◌, ℕ, ◌+◌, ◌<◌, ◌≤◌, Bool, true, false, not, List, [], ◌∷◌, ◌++◌, map, fold, nat_eq, codes, decimal, refl, ◌∙◌, ap, subst, arith, append_assoc, sym}
use Rattle.std.specs.Prelude.{Option, Some, None}
use Rattle.std.specs.List.{AllByRecursion}
use Rattle.std.proofs.lemmas.List.Sums.{fold-append}
use Rattle.json_text.specs.Json.{Json}
use Rattle.mux_history.specs.declared.cause.Cause.{Cause}
use Rattle.mux_history.specs.declared.cause.Cause.TheVariants.{FromEditor, FromServer}
use Rattle.mux_history.specs.declared.entry.Entry.{Entry}
use Rattle.mux_history.specs.declared.out.Out.{Out}
use Rattle.mux_history.specs.declared.out.Out.TheVariants.{ToEditor, ToServer, Spawn, CloseEditor, EndServer}
use Rattle.rpc_message.specs.Message.{Message, request, notification, result, error, not_json, not_message, Id, id_bytes, integer, message_of}
use Rattle.document_model.proofs.Written.{Spoken, spoken}
use Rattle.event_model.specs.Event.{Event, behind, did, events_of, heard, said, with_cause}
use Rattle.event_model.specs.Requests.{is_own, next_number}
use Rattle.event_model.specs.Settings.{Settings}
use Rattle.event_model.specs.Spawns.{starts_of}
use Rattle.mux_model.specs.Documents.{held_at}
use Rattle.mux_facts.specs.Allowed.{is_response}
use Rattle.mux_facts.specs.Ranges.{InRange}
use Rattle.mux_facts.proofs.Lists.{all_of}
use Rattle.mux_facts.proofs.Keeps.{behind_both}
use Rattle.mux_facts.proofs.Words.{number_same, same_number}
use Rattle.group_rows.specs.Answers.{moment_of}
use Rattle.group_rows.specs.Forwarded.{Forwarded, Sender, forwarding_of, sender_of, token_in}
use Rattle.group_rows.specs.Rows.{sync_bodies}
use Rattle.group_rows.specs.Texts.{texts_of}
use Rattle.group_rows.specs.Waiting.{worker_behind, worker_of}
use Rattle.group_rows.proofs.Moments.{asks, moment_other, moment_apart, moment_quiet, moment_sent}
use Rattle.group_facts.specs.Legal.{Legal}
use Rattle.group_facts.specs.OwnVersions.{IsSentOn, SendingOn, by_message, by_result}
use Rattle.group_facts.specs.Why.{Going, IsForward, WhyToServer, at_once, had_waited, begins, cancels, exits, forwarded, greets, conveys, notes, responds, shuts, tells, resolves, cancels_work}
use Rattle.group_facts.proofs.Apart.{fewer_said, fewer_took, new, grow, own_fewer, response_fewer}
use Rattle.group_facts.proofs.Forwards.{Fewer, fewer_notified, zip_all}
use Rattle.group_facts.proofs.RestLaws.{Law, law_holds}
use Rattle.group_facts.proofs.Sent.{Rising, rising_of}

-- it is the moment of that number
pub record WasSentOn (settings : Settings) (s : ℕ) (events : List Event) (n e : ℕ) (id : List ℕ) : Type 0 where
  pub sent : IsSentOn settings s events n e id
  pub at : moment_of settings s n events ≡ Some sent.moment

abbrev pub AllSentOn : Settings → List Event → Type 0
AllSentOn settings events = (s : ℕ) → AllByRecursion (λ (f : Forwarded). WasSentOn settings s events f.number f.editor f.id) (forwarding_of settings s events).open_requests

-- one event more
one_more : (settings : Settings) (s : ℕ) (events : List Event) (n e : ℕ) (id : List ℕ) (ev : Event) → moment_of settings s n (events ++ ev ∷ []) ≡ moment_of settings s n events → WasSentOn settings s events n e id → WasSentOn settings s (events ++ ev ∷ []) n e id
one_more settings s events n e id ev stays h = record {
  sent = record {
    asked = (h.sent).asked;
    own_id = (h.sent).own_id;
    moment = (h.sent).moment;
    sending = (h.sent).sending;
    body = (h.sent).body;
    bytes = (h.sent).bytes;
    method = (h.sent).method;
    params = (h.sent).params;
    says = (h.sent).says;
    other = (h.sent).other;
    later = (h.sent).later ++ ev ∷ [];
    place = ap (λ z. z ++ ev ∷ []) (h.sent).place ∙ append_assoc (h.sent).moment (said (ToServer s (h.sent).body) ∷ (h.sent).later) (ev ∷ []);
  };
  at = stays ∙ h.at;
}

-- behind an event that sends no request on
quiet : (settings : Settings) (events : List Event) (ev : Event) → asks ev ≡ false → Fewer settings events (events ++ ev ∷ []) → AllSentOn settings events → AllSentOn settings (events ++ ev ∷ [])
quiet settings events ev none fewer h s = fewer s (λ n e i. WasSentOn settings s (events ++ ev ∷ []) n e i)
    (all_of (λ (f : Forwarded). WasSentOn settings s events f.number f.editor f.id) (λ (f : Forwarded). WasSentOn settings s (events ++ ev ∷ []) f.number f.editor f.id)
    (λ f k. one_more settings s events f.number f.editor f.id ev (moment_quiet settings s f.number events ev none) k) (forwarding_of settings s events).open_requests (h s))

silent_cause : (cause : Cause) → asks (heard cause) ≡ false
silent_cause (FromEditor e body) = refl
silent_cause (FromServer s body) = refl
silent_cause other = refl

-- the one whose message is at work stays it behind outs
pub worker_more : (events : List Event) (ev : Event) → worker_of (events ++ ev ∷ []) ≡ worker_behind (worker_of events) ev
worker_more events ev = fold-append worker_behind None events (ev ∷ [])

outs_leave : (worker : Option ℕ) (xs : List Out) → fold worker_behind worker (map said xs) ≡ worker
outs_leave worker [] = refl
outs_leave worker (ToEditor e body ∷ xs) = outs_leave worker xs
outs_leave worker (ToServer s body ∷ xs) = outs_leave worker xs
outs_leave worker (Spawn s g ∷ xs) = outs_leave worker xs
outs_leave worker (CloseEditor e ∷ xs) = outs_leave worker xs
outs_leave worker (EndServer s ∷ xs) = outs_leave worker xs

pub worker_still : (events : List Event) (e : ℕ) (asked : List ℕ) (xs : List Out) → worker_of (behind (with_cause events (FromEditor e asked)) xs) ≡ Some e
worker_still events e asked xs = fold-append worker_behind None (with_cause events (FromEditor e asked)) (map said xs) ∙ outs_leave (worker_of (with_cause events (FromEditor e asked))) xs ∙ worker_more events (heard (FromEditor e asked))

pub worker_idle : (events : List Event) (s : ℕ) (answer : List ℕ) (xs : List Out) → worker_of (behind (with_cause events (FromServer s answer)) xs) ≡ None
worker_idle events s answer xs = fold-append worker_behind None (with_cause events (FromServer s answer)) (map said xs) ∙ outs_leave (worker_of (with_cause events (FromServer s answer))) xs ∙ worker_more events (heard (FromServer s answer))

pub id_at_work : (e : ℕ) (asked : List ℕ) (m : Message) (a : Sender) → sender_of e asked m ≡ Some a → id_bytes asked ≡ a.id
id_at_work e asked (request id method params) a h = ap (λ (z : Sender). z.id) (same h)
  where
    same : sender_of e asked (request id method params) ≡ Some a → (record { editor = e; id = id_bytes asked; work = token_in (codes "workDoneToken") asked; partial = token_in (codes "partialResultToken") asked }) ≡ a
    same h = cc
id_at_work e asked (notification method params) a h = absurd (cc)
id_at_work e asked (result id r) a h = absurd (cc)
id_at_work e asked (error id x) a h = absurd (cc)
id_at_work e asked not_json a h = absurd (cc)
id_at_work e asked not_message a h = absurd (cc)

-- an open request has a number below the next
number_below : (low next : ℕ) (fs : List Forwarded) → Rising low next fs → AllByRecursion (λ (f : Forwarded). f.number < next) fs
number_below low next [] h = tt
number_below low next (f ∷ fs) h = (above f.number fs h.1, number_below (f.number + 1) next fs h.1)
  where
    above : (n : ℕ) (gs : List Forwarded) → Rising (n + 1) next gs → n < next
    above n [] k = omega (arith, k)
    above n (g ∷ gs) k = let rest : g.number < next = above g.number gs k.1 in let first : n + 1 ≤ g.number = k.0 in omega (arith, first, rest)

less_apart : (n k : ℕ) → n < k → nat_eq k n ≡ false
less_apart n k less = go (nat_eq k n) refl
  where
    go : (b : Bool) → nat_eq k n ≡ b → b ≡ false
    go true same = let is : k ≡ n = number_same k n same in absurd (omega (arith, is, less))
    go false other = refl

-- A body to a start

module _ (settings : Settings) (before : List Event) (cause : Cause) (events : List Event) (n : ℕ) (body : List ℕ) where
  abbrev sent : List Event
  sent = events ++ said (ToServer n body) ∷ []

  -- that is no editor's request
  silent_sent : (m : Message) → message_of body ≡ m → asks (did (ToServer n body) m) ≡ false → Fewer settings events sent → AllSentOn settings events → AllSentOn settings sent
  silent_sent m says none fewer h = quiet settings events (said (ToServer n body)) (ap (λ z. asks (did (ToServer n body) z)) says ∙ none) fewer h

  own : (id : Id) (method : List ℕ) (params : Option Json) → message_of body ≡ request id method params → is_own method ≡ true → AllSentOn settings events → AllSentOn settings sent
  own id method params says is h = silent_sent (request id method params) says (ap not is) (own_fewer settings before cause events n body id method params says is) h

  notified : (method : List ℕ) (params : Option Json) → message_of body ≡ notification method params → AllSentOn settings events → AllSentOn settings sent
  notified method params says h = silent_sent (notification method params) says refl (fewer_notified settings n events body method params says) h

  answer_silent : (m : Message) → is_response m ≡ true → asks (did (ToServer n body) m) ≡ false
  answer_silent (result id r) h = refl
  answer_silent (error id x) h = refl
  answer_silent (request id method params) h = absurd (cc)
  answer_silent (notification method params) h = absurd (cc)
  answer_silent not_json h = absurd (cc)
  answer_silent not_message h = absurd (cc)

  -- an editor's request has the next number, and is sent on now
  module _ (k : IsForward settings before cause events n body) where
    abbrev next : ℕ
    next = (forwarding_of settings n events).next

    abbrev ev : Event
    ev = did (ToServer n body) (request (integer (decimal next)) k.method k.params)

    sending : Going settings before cause events n (k.sender).editor k.asked → SendingOn settings n (k.sender).editor k.asked events
    sending (at_once from synced) = by_message before (synced.questions ++ map (λ text. ToServer n text) (sync_bodies settings.limits.versions (λ u. held_at n u before) (k.sender).editor (texts_of settings synced.group before).opens)) synced.place
    sending (had_waited w) = by_result before w.answer (w.outs ++ map (λ text. ToServer n text) (sync_bodies settings.limits.versions (λ u. held_at n u w.earlier) (k.sender).editor (texts_of settings w.group w.earlier).opens)) w.request
        (w.place ∙ (ap (λ z. behind z (map (λ text. ToServer n text) (sync_bodies settings.limits.versions (λ u. held_at n u w.earlier) (k.sender).editor (texts_of settings w.group w.earlier).opens))) w.entry
        ∙ (sym (behind_both (with_cause before cause) w.outs (map (λ text. ToServer n text) (sync_bodies settings.limits.versions (λ u. held_at n u w.earlier) (k.sender).editor (texts_of settings w.group w.earlier).opens)))
        ∙ ap (λ c. behind (with_cause before c) (w.outs ++ map (λ text. ToServer n text) (sync_bodies settings.limits.versions (λ u. held_at n u w.earlier) (k.sender).editor (texts_of settings w.group w.earlier).opens))) w.from)))
        w.first w.editor w.body

    is_ev : said (ToServer n body) ≡ ev
    is_ev = ap (λ m. did (ToServer n body) m) k.says

    moved : (s number : ℕ) → moment_of settings s number (events ++ ev ∷ []) ≡ moment_of settings s number events → moment_of settings s number sent ≡ moment_of settings s number events
    moved s number stays = ap (λ z. moment_of settings s number (events ++ z ∷ [])) is_ev ∙ stays

    -- the others of this start keep their moments, and those of other starts
    stays_here : (f : Forwarded) → f.number < next → WasSentOn settings n events f.number f.editor f.id → WasSentOn settings n sent f.number f.editor f.id
    stays_here f less h = one_more settings n events f.number f.editor f.id (said (ToServer n body)) (moved n f.number (moment_other settings n f.number n events body (integer (decimal next)) k.method k.params (less_apart f.number next less))) h

    stays_there : (s : ℕ) → nat_eq n s ≡ false → (f : Forwarded) → WasSentOn settings s events f.number f.editor f.id → WasSentOn settings s sent f.number f.editor f.id
    stays_there s other f h = one_more settings s events f.number f.editor f.id (said (ToServer n body)) (moved s f.number (moment_apart settings s f.number n events body (integer (decimal next)) k.method k.params other)) h

    sent_now : WasSentOn settings n sent next (k.sender).editor (k.sender).id
    sent_now = record {
      sent = record {
        asked = k.asked;
        own_id = id_at_work (k.sender).editor k.asked (message_of k.asked) k.sender k.own;
        moment = events;
        sending = sending k.going;
        body = body;
        bytes = k.bytes;
        method = k.method;
        params = k.params;
        says = k.says;
        other = k.other;
        later = [];
        place = refl;
      };
      at = ap (λ z. moment_of settings n next (events ++ z ∷ [])) is_ev ∙ moment_sent settings n next n events body (integer (decimal next)) k.method k.params (same_number n) k.other (same_number next);
    }

    asked_now : AllSentOn settings events → AllSentOn settings sent
    unfolding new
    asked_now h s = go (nat_eq n s) refl
      where
        Q : Forwarded → Type 0
        Q f = WasSentOn settings s sent f.number f.editor f.id

        old : (b : Bool) → nat_eq n s ≡ b → AllByRecursion Q (forwarding_of settings s events).open_requests
        old true same = subst (λ z. AllByRecursion (λ (f : Forwarded). WasSentOn settings z sent f.number f.editor f.id) (forwarding_of settings z events).open_requests) (number_same n s same)
            (zip_all (λ (f : Forwarded). f.number < next) (λ (f : Forwarded). WasSentOn settings n events f.number f.editor f.id) (λ (f : Forwarded). WasSentOn settings n sent f.number f.editor f.id) stays_here (forwarding_of settings n events).open_requests
            (number_below 2 next (forwarding_of settings n events).open_requests (rising_of settings n events)) (h n))
        old false other = all_of (λ (f : Forwarded). WasSentOn settings s events f.number f.editor f.id) Q (stays_there s other) (forwarding_of settings s events).open_requests (h s)

        go : (b : Bool) → nat_eq n s ≡ b → AllByRecursion Q (forwarding_of settings s sent).open_requests
        go b is = grow settings before cause events n body k s Q (old b is) (λ same. subst (λ z. WasSentOn settings z sent next (k.sender).editor (k.sender).id) same sent_now)

  one_sent : WhyToServer settings before cause events n body → AllSentOn settings events → AllSentOn settings sent
  one_sent (begins k) h = own (integer (codes "1")) (codes "initialize") k.params k.says refl h
  one_sent (greets k) h = notified (codes "initialized") k.params k.says h
  one_sent (conveys k) h = notified (codes "workspace/didChangeConfiguration") k.params k.says h
  one_sent (forwarded k) h = asked_now k h
  one_sent (notes k) h = notified k.method k.params k.says h
  one_sent (tells k) h = let m : Spoken (message_of body) = spoken (message_of body) k.spoken in notified m.method m.params m.is h
  one_sent (cancels k) h = notified (codes "$/cancelRequest") (Some k.params) k.says h
  one_sent (cancels_work k) h = notified (codes "window/workDoneProgress/cancel") k.params k.says h
  one_sent (responds k) h = silent_sent (message_of body) refl (answer_silent (message_of body) k.response) (response_fewer settings before cause events n body k.response) h
  one_sent (resolves k) h = silent_sent (message_of body) refl (answer_silent (message_of body) k.response) (response_fewer settings before cause events n body k.response) h
  one_sent (exits k) h = notified (codes "exit") None k.says h
  one_sent (shuts k) h = own (integer (decimal (next_number n events))) (codes "shutdown") None k.says refl h

sent_law : (settings : Settings) → Law settings (AllSentOn settings)
sent_law settings = record {
  took = λ before cause fits known h. quiet settings before (heard cause) (silent_cause cause) (fewer_took settings before cause) h;
  to_editor = λ before cause events e body why known here i h. quiet settings events (said (ToEditor e body)) refl (fewer_said settings events (ToEditor e body) (λ s. refl)) h;
  to_server = λ before cause events s body why known here i h. one_sent settings before cause events s body why h;
  close = λ before cause events e ends there known here i h. quiet settings events (said (CloseEditor e)) refl (fewer_said settings events (CloseEditor e) (λ s. refl)) h;
  end = λ before cause events s why known here i h. quiet settings events (said (EndServer s)) refl (fewer_said settings events (EndServer s) (λ s. refl)) h;
  spawn = λ before cause events g below known here i h. quiet settings events (said (Spawn (starts_of events) g)) refl (fewer_said settings events (Spawn (starts_of events) g) (λ s. refl)) h;
  rest = λ before cause fits known i h. h;
  turn = λ place e slow known h. h;
  left = λ place e slow known i h. h;
}

pub sent_holds : (settings : Settings) → InRange settings → (history : List Entry) → Legal settings history → AllSentOn settings (events_of history)
sent_holds settings range history legal = law_holds settings range (AllSentOn settings) (sent_law settings) (λ s. tt) history legal
