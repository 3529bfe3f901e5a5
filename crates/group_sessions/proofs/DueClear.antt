-- What a response answers: under one number an editor was asked one thing, to take one token of a start, or something else.
use Rattle.std.proofs.Common.{◌≡◌, ℕ, ◌+◌, ◌^◌, ◌<◌, ◌≤◌, Bool, true, false, not, ◌&&◌, ◌||◌, cond, List, [], ◌∷◌, ◌++◌, bytes_eq, codes, decimal, filter, find, nat_eq, if◌then◌else◌, Option, Some, None, ltb-true, refl, sym, ◌∙◌, ap, ap₂, subst, arith}
use Rattle.std.specs.List.{AllByRecursion}
use Rattle.std.specs.Option.{option_map_or}
use Rattle.std.proofs.lemmas.Bool.{and_parts}
use Rattle.std.proofs.lemmas.Fmt.{decimal_injective}
use Rattle.std.proofs.lemmas.List.Sums.{fold-append}
use Rattle.std.proofs.lemmas.Slice.Eq.{bytes_eq-Decides}
use Rattle.json_text.specs.Json.{Json}
use Rattle.mux_history.specs.declared.cause.Cause.{Cause}
use Rattle.mux_history.specs.declared.cause.Cause.TheVariants.{Joined, FromEditor, EditorGone, Started, StartFailed, FromServer, ServerGone, Drained, Tick}
use Rattle.mux_history.specs.declared.out.Out.{Out}
use Rattle.mux_history.specs.declared.out.Out.TheVariants.{ToEditor, ToServer, Spawn, CloseEditor, EndServer}
use Rattle.rpc_message.specs.Message.{Id, Message, request, notification, result, error, not_json, not_message, integer, message_of, text}
use Rattle.event_model.specs.Event.{Event, behind, did, heard, requests, said, took, with_cause}
use Rattle.event_model.specs.Members.{named_of, string_of}
use Rattle.event_model.specs.Requests.{answered_id}
use Rattle.event_model.specs.Settings.{Settings}
use Rattle.event_model.proofs.Frames.{never}
use Rattle.mux_model.specs.Fits.{fits_behind}
use Rattle.mux_facts.specs.Allowed.{is_response}
use Rattle.mux_facts.specs.Ranges.{InRange}
use Rattle.mux_facts.proofs.Lists.{all_join, all_of, found_is}
use Rattle.mux_facts.proofs.Reasons.{reasons_keep}
use Rattle.mux_facts.proofs.Words.{number_same, same_number}
use Rattle.group_words.specs.Past.{past}
use Rattle.group_words.proofs.Frames.{past_more}
use Rattle.group_rows.specs.Asks.{Ask, Asker, Asking, asked_behind, asker_of, asks_of, has_number, is_patient, is_seated, next_ask, put}
use Rattle.group_rows.specs.Created.{Created, Taking, Token, accepts, answered, asked, created_mark, created_next, created_of, is_answered, is_creating, is_marked, left, lives, settled, token_marked, with_asked}
use Rattle.group_rows.specs.Forwarded.{names}
use Rattle.group_rows.specs.Live.{is_registering}
use Rattle.group_rows.specs.Rows.{outs_of}
use Rattle.group_facts.specs.Why.{Why, WhyToEditor, answers, asks, asks_something, calls, passes, progresses, recalls, refuses, rejects, resumes, shows, spreads, turns_away, welcomes, loses, winds_up, pays}
use Rattle.group_facts.proofs.AskSeats.{asks_more, did_all, took_all}
use Rattle.group_facts.proofs.Asks.{call_hurried, is_question, listed, registering_made, response_asks_none, resumed_here, resumed_off, taken, paid_made}
use Rattle.group_facts.proofs.Reached.{Reached, facts_at}
use Rattle.group_facts.proofs.Facts.{Facts}
use Rattle.group_facts.proofs.Marks.{mark_number}
use Rattle.group_facts.proofs.Table.{reasons}
use Rattle.group_sessions.proofs.CreatedFold.{all_flat, created_orderly}
use Rattle.group_sessions.proofs.CreatedTies.{created_more}
use Rattle.group_sessions.proofs.HeldFold.{created_fair}
use Rattle.group_sessions.proofs.TakingTies.{aside_all, find_true, is_aside, left_all}
use Rattle.group_sessions.proofs.Walk.{KeepsSlow, walk}
use Rattle.group_sessions.proofs.DueFold.{head_passes, is_own, own}
use Rattle.group_sessions.proofs.DueLaw.{AllClear, IsClear, found_kept}
use Rattle.group_facts.proofs.SlowRow.{parting, parting_why}
use Rattle.group_facts.specs.Why.{quitting}

-- The token that the n-th request to an editor asks it to take

abbrev mark_in : Message → Option (List ℕ)
mark_in (request id method params) = if is_creating method then string_of (named_of (codes "token") params) else None
mark_in other = None

abbrev mark_next : ℕ → ℕ → List Event → Option (List ℕ) → Event → Option (List ℕ)
mark_next e n before o (did (ToEditor k body) (request id method params)) = if nat_eq k e && nat_eq (next_ask e before) n then mark_in (request id method params) else o
mark_next e n before o other = o

abbrev mark_at : ℕ → ℕ → List Event → Option (List ℕ)
mark_at e n events = past (mark_next e n) [] None events

mark_more : (e n : ℕ) (events : List Event) (event : Event) → mark_at e n (events ++ event ∷ []) ≡ mark_next e n events (mark_at e n events) event
mark_more e n events event = past_more (mark_next e n) [] None events event

next_more : (e : ℕ) (events : List Event) (event : Event) → next_ask e (events ++ event ∷ []) ≡ asked_behind e (next_ask e events) event
next_more e events event = fold-append (asked_behind e) 1 events (event ∷ [])

asked_grows : (e n : ℕ) (event : Event) → n ≤ asked_behind e n event
asked_grows e n (did (ToEditor k body) (request id method ps)) = go (nat_eq k e)
  where
    go : (b : Bool) → n ≤ (if b then n + 1 else n)
    go true = omega arith
    go false = omega arith
asked_grows e n other = omega arith

-- a request to e under number n, which asks it to take this or nothing
pub record IsNumbered (events : List Event) (e n : ℕ) (mark : Option (List ℕ)) : Type 0 where
  pub at : mark_at e n events ≡ mark
  pub below : n < next_ask e events

num_above : (a b : ℕ) → b < a → nat_eq a b ≡ false
num_above a b low = go (nat_eq a b) refl
  where
    go : (c : Bool) → nat_eq a b ≡ c → c ≡ false
    go true same = absurd (let is : a ≡ b = number_same a b same in omega (arith, is, low))
    go false off = refl

stays : (e n : ℕ) (events : List Event) (o : Option (List ℕ)) (event : Event) → n < next_ask e events → mark_next e n events o event ≡ o
stays e n events o (did (ToEditor k body) (request id method params)) low = go (nat_eq k e)
  where
    go : (b : Bool) → (if b && nat_eq (next_ask e events) n then mark_in (request id method params) else o) ≡ o
    go true = ap (λ c. if c then mark_in (request id method params) else o) (num_above (next_ask e events) n low)
    go false = refl
stays e n events o other low = refl

numbered_more : (events : List Event) (event : Event) (e n : ℕ) (mark : Option (List ℕ)) → IsNumbered events e n mark → IsNumbered (events ++ event ∷ []) e n mark
numbered_more events event e n mark h = record {
  at = mark_more e n events event ∙ (stays e n events (mark_at e n events) event h.below ∙ h.at);
  below = let low : n < next_ask e events = h.below in let m = next_more e events event in let g = asked_grows e (next_ask e events) event in omega (arith, low, m, g);
}

numbered_new : (events : List Event) (e : ℕ) (body : List ℕ) (id : Id) (method : List ℕ) (params : Option Json) → IsNumbered (events ++ did (ToEditor e body) (request id method params) ∷ []) e (next_ask e events) (mark_in (request id method params))
numbered_new events e body id method params = record {
  at = mark_more e (next_ask e events) events (did (ToEditor e body) (request id method params)) ∙ ap₂ (λ a b. if a && b then mark_in (request id method params) else mark_at e (next_ask e events) events) (same_number e) (same_number (next_ask e events));
  below = let m : next_ask e (events ++ did (ToEditor e body) (request id method params) ∷ []) ≡ next_ask e events + 1 = next_more e events (did (ToEditor e body) (request id method params)) ∙ ap (λ b. if b then next_ask e events + 1 else next_ask e events) (same_number e) in omega (arith, m);
}

-- Takings

abbrev pub IsSet : ℕ → List Event → Taking → Type 0
IsSet s events c = IsNumbered events c.editor c.number (Some (created_mark s c.token))

marked_string : (s : ℕ) (o : Option Json) (t : Token) → is_marked s o t ≡ true → string_of o ≡ Some (created_mark s t.number)
marked_string s o t h = go (string_of o) h
  where
    go : (w : Option (List ℕ)) → option_map_or (bytes_eq (created_mark s t.number)) w false ≡ true → w ≡ Some (created_mark s t.number)
    go (Some cs) e = ap (λ z. Some z) (sym ((bytes_eq-Decides (created_mark s t.number) cs).0 e))
    go None e = never (sym e)

module _ (settings : Settings) (s : ℕ) where
  module _ (before : List Event) (x : Created) (event : Event) (h : AllByRecursion (IsSet s before) x.takings) where
    abbrev P : Taking → Type 0
    P c = IsSet s (before ++ event ∷ []) c

    lifted : AllByRecursion P x.takings
    lifted = all_of (IsSet s before) P (λ c k. numbered_more before event c.editor c.number (Some (created_mark s c.token)) k) x.takings h

    changed : (c : Taking) (held : List (List ℕ)) (begun : Bool) → P c → P (record c { held = held; begun = begun })
    changed c held begun k = k

  set_asked : (before : List Event) (x : Created) (n : ℕ) (body : List ℕ) (id : Id) (method : List ℕ) (params : Option Json) → AllByRecursion (IsSet s before) x.takings
      → AllByRecursion (IsSet s (before ++ did (ToEditor n body) (request id method params) ∷ [])) (if is_creating method then with_asked n (next_ask n before) (token_marked s params x) x else x).takings
  set_asked before x n body id method params h = go (is_creating method) refl (token_marked s params x) refl
    where
      event : Event
      event = did (ToEditor n body) (request id method params)

      go : (b : Bool) → is_creating method ≡ b → (o : Option Token) → token_marked s params x ≡ o → AllByRecursion (IsSet s (before ++ event ∷ [])) (if b then with_asked n (next_ask n before) o x else x).takings
      go true creating (Some t) marked = all_join (IsSet s (before ++ event ∷ [])) x.takings (asked n (next_ask n before) t ∷ []) (lifted before x event h) (
        subst (IsNumbered (before ++ event ∷ []) n (next_ask n before)) (ap (λ b. if b then string_of (named_of (codes "token") params) else None) creating ∙ marked_string s (named_of (codes "token") params) t (find_true (is_marked s (named_of (codes "token") params)) x.tokens t marked))
            (numbered_new before n body id method params),
        tt,
      )
      go true creating None marked = lifted before x event h
      go false plain o marked = lifted before x event h

  set_spoken : (before : List Event) (x : Created) (n : ℕ) (body : List ℕ) (m : Message) → AllByRecursion (IsSet s before) x.takings → AllByRecursion (IsSet s (before ++ took (FromEditor n body) m ∷ [])) (if requests (codes "shutdown") m then left n x else answered n m x).takings
  set_spoken before x n body m h = go (requests (codes "shutdown") m)
    where
      event : Event
      event = took (FromEditor n body) m

      one : (c : Taking) → IsSet s (before ++ event ∷ []) c → AllByRecursion (IsSet s (before ++ event ∷ [])) (if is_answered n (answered_id m) c then settled m x c else c ∷ [])
      one c k = by (is_answered n (answered_id m) c) (accepts m && lives c.token x)
        where
          by : (a b : Bool) → AllByRecursion (IsSet s (before ++ event ∷ [])) (if a then (if b then record c { accepted = true; held = [] } ∷ [] else []) else c ∷ [])
          by true true = (k, tt)
          by true false = tt
          by false b = (k, tt)

      go : (b : Bool) → AllByRecursion (IsSet s (before ++ event ∷ [])) (if b then left n x else answered n m x).takings
      go true = left_all (IsSet s (before ++ event ∷ [])) (changed before x event h) n x (lifted before x event h)
      go false = all_flat (IsSet s (before ++ event ∷ [])) (IsSet s (before ++ event ∷ [])) (λ c. if is_answered n (answered_id m) c then settled m x c else c ∷ []) one x.takings (lifted before x event h)

  set_aside : (before : List Event) (x : Created) (event : Event) → is_aside event ≡ true → AllByRecursion (IsSet s before) x.takings → AllByRecursion (IsSet s (before ++ event ∷ [])) (created_next settings s before x event).takings
  set_aside before x event off h = aside_all (IsSet s (before ++ event ∷ [])) (changed before x event h) settings s before x event off (lifted before x event h)

  set_heard : (before : List Event) (x : Created) (cause : Cause) → AllByRecursion (IsSet s before) x.takings → AllByRecursion (IsSet s (before ++ heard cause ∷ [])) (created_next settings s before x (heard cause)).takings
  set_heard before x (FromEditor n body) h = set_spoken before x n body (message_of body) h
  set_heard before x (Joined n) h = set_aside before x (heard (Joined n)) refl h
  set_heard before x (EditorGone n why) h = set_aside before x (heard (EditorGone n why)) refl h
  set_heard before x (Started n) h = set_aside before x (heard (Started n)) refl h
  set_heard before x (StartFailed n) h = set_aside before x (heard (StartFailed n)) refl h
  set_heard before x (FromServer n body) h = set_aside before x (heard (FromServer n body)) refl h
  set_heard before x (ServerGone n) h = set_aside before x (heard (ServerGone n)) refl h
  set_heard before x (Drained n j) h = set_aside before x (heard (Drained n j)) refl h
  set_heard before x (Tick t) h = set_aside before x (heard (Tick t)) refl h

  set_told : (before : List Event) (x : Created) (n : ℕ) (body : List ℕ) (m : Message) → AllByRecursion (IsSet s before) x.takings → AllByRecursion (IsSet s (before ++ did (ToEditor n body) m ∷ [])) (created_next settings s before x (did (ToEditor n body) m)).takings
  set_told before x n body (request id method params) h = set_asked before x n body id method params h
  set_told before x n body (notification method params) h = lifted before x (did (ToEditor n body) (notification method params)) h
  set_told before x n body (result id r) h = lifted before x (did (ToEditor n body) (result id r)) h
  set_told before x n body (error id r) h = lifted before x (did (ToEditor n body) (error id r)) h
  set_told before x n body not_json h = lifted before x (did (ToEditor n body) not_json) h
  set_told before x n body not_message h = lifted before x (did (ToEditor n body) not_message) h

  set_said : (before : List Event) (x : Created) (out : Out) → AllByRecursion (IsSet s before) x.takings → AllByRecursion (IsSet s (before ++ said out ∷ [])) (created_next settings s before x (said out)).takings
  set_said before x (ToEditor n body) h = set_told before x n body (message_of body) h
  set_said before x (ToServer n body) h = set_aside before x (said (ToServer n body)) refl h
  set_said before x (Spawn n g) h = set_aside before x (said (Spawn n g)) refl h
  set_said before x (CloseEditor n) h = set_aside before x (said (CloseEditor n)) refl h
  set_said before x (EndServer n) h = set_aside before x (said (EndServer n)) refl h

-- Asks

abbrev pub IsPlain : List Event → Ask → Type 0
IsPlain events a = IsNumbered events a.editor a.number None

pub off_creating : (method : List ℕ) → is_patient method ≡ true → is_creating method ≡ false
off_creating method h = go (is_creating method) refl
  where
    or_last : (a b : Bool) → b ≡ true → (a || b) ≡ true
    or_last true b k = refl
    or_last false b k = k

    go : (b : Bool) → is_creating method ≡ b → b ≡ false
    go true is = never (sym h ∙ call_hurried method (or_last (is_registering method) (is_creating method) is))
    go false is = refl

abbrev AllPlain : Settings → List Event → Type 0
AllPlain settings events = (s : ℕ) → AllByRecursion (IsPlain events) (asks_of settings s events)

abbrev AllSet : Settings → List Event → Type 0
AllSet settings events = (s : ℕ) → AllByRecursion (IsSet s events) (created_of settings s events).takings

-- numbers that numerals tell apart
abbrev AllSmall : List Event → Type 0
AllSmall events = (e : ℕ) → next_ask e events ≤ 2 ^ 64

record Orders (settings : Settings) (events : List Event) : Type 0 where
  plain : AllPlain settings events
  set : AllSet settings events
  small : AllSmall events

module _ (settings : Settings) (before : List Event) (cause : Cause) where
  module _ (events : List Event) (n : ℕ) (body : List ℕ) where
    abbrev later : List Event
    later = events ++ said (ToEditor n body) ∷ []

    still_plain : (s : ℕ) → AllByRecursion (IsPlain events) (asks_of settings s events) → AllByRecursion (IsPlain later) (asks_of settings s events)
    still_plain s h = all_of (IsPlain events) (IsPlain later) (λ a k. numbered_more events (said (ToEditor n body)) a.editor a.number None k) (asks_of settings s events) h

    new_plain : (id : Id) (method : List ℕ) (params : Option Json) → message_of body ≡ request id method params → is_creating method ≡ false → IsNumbered later n (next_ask n events) None
    new_plain id method params says plain = subst (λ m. IsNumbered (events ++ did (ToEditor n body) m ∷ []) n (next_ask n events) None) (sym says)
        (subst (IsNumbered (events ++ did (ToEditor n body) (request id method params) ∷ []) n (next_ask n events)) (ap (λ b. if b then string_of (named_of (codes "token") params) else None) plain) (numbered_new events n body id method params))

    put_plain : IsNumbered later n (next_ask n events) None → (o : Option Asker) → AllByRecursion (IsPlain later) (put o n (next_ask n events))
    put_plain new None = tt
    put_plain new (Some a) = (new, tt)

    told_plain : WhyToEditor settings before cause events n body → (s : ℕ) → AllByRecursion (IsPlain events) (asks_of settings s events) → AllByRecursion (IsPlain later) (asks_of settings s later)
    told_plain (asks k) s h = asks_more settings (IsPlain later) s events (said (ToEditor n body)) _ (listed settings events n body before cause k s)
        (all_join (IsPlain later) (asks_of settings s events) (put (if nat_eq k.start s then asker_of k.asked (message_of k.asked) else None) n (next_ask n events)) (still_plain s h)
        (put_plain (new_plain (integer (decimal (next_ask n events))) k.method k.params k.says k.plain) (if nat_eq k.start s then asker_of k.asked (message_of k.asked) else None)))
    told_plain (resumes k) s h = go (nat_eq k.start s) refl
      where
        go : (b : Bool) → nat_eq k.start s ≡ b → AllByRecursion (IsPlain later) (asks_of settings s later)
        go true same = subst (λ z. AllByRecursion (IsPlain later) (asks_of settings z later)) (number_same k.start s same)
            (asks_more settings (IsPlain later) k.start events (said (ToEditor n body)) _ (ap (λ (x : Asking). x.asks) (resumed_here settings events n body before cause k))
            (all_join (IsPlain later) (asks_of settings k.start events) (taken settings events n body before cause k ∷ []) (still_plain k.start (subst (λ z. AllByRecursion (IsPlain events) (asks_of settings z events)) (sym (number_same k.start s same)) h))
            (new_plain (integer (decimal (next_ask n events))) k.method k.params k.says (off_creating k.method k.patient), tt)))
        go false other = asks_more settings (IsPlain later) s events (said (ToEditor n body)) _ (ap (λ (x : Asking). x.asks) (resumed_off settings events n body before cause k s other)) (still_plain s h)
    told_plain (pays k) s h = asks_more settings (IsPlain later) s events (said (ToEditor n body)) _ (ap (λ (x : Asking). x.asks) (paid_made settings events n body before cause k s)) (still_plain s h)
    told_plain (calls k) s h = asks_more settings (IsPlain later) s events (said (ToEditor n body)) _ (ap (λ (x : Asking). x.asks) (registering_made settings events n body before cause k s)) (still_plain s h)
    told_plain (rejects k) s h = did_all settings (IsPlain later) s events (ToEditor n body) (ap is_question k.says) (still_plain s h)
    told_plain (refuses k) s h = did_all settings (IsPlain later) s events (ToEditor n body) (ap is_question k.says) (still_plain s h)
    told_plain (loses k) s h = did_all settings (IsPlain later) s events (ToEditor n body) (ap is_question k.says) (still_plain s h)
    told_plain (answers k) s h = did_all settings (IsPlain later) s events (ToEditor n body) (ap is_question k.says) (still_plain s h)
    told_plain (turns_away k) s h = did_all settings (IsPlain later) s events (ToEditor n body) (ap is_question k.says) (still_plain s h)
    told_plain (welcomes k) s h = did_all settings (IsPlain later) s events (ToEditor n body) (ap is_question k.says) (still_plain s h)
    told_plain (passes k) s h = did_all settings (IsPlain later) s events (ToEditor n body) (response_asks_none (message_of body) k.response) (still_plain s h)
    told_plain (spreads k) s h = did_all settings (IsPlain later) s events (ToEditor n body) (ap is_question k.says) (still_plain s h)
    told_plain (recalls k) s h = did_all settings (IsPlain later) s events (ToEditor n body) (ap is_question k.says) (still_plain s h)
    told_plain (progresses k) s h = did_all settings (IsPlain later) s events (ToEditor n body) (ap is_question k.says) (still_plain s h)
    told_plain (shows k) s h = did_all settings (IsPlain later) s events (ToEditor n body) (ap is_question k.says) (still_plain s h)
    told_plain (winds_up k) s h = did_all settings (IsPlain later) s events (ToEditor n body) (ap is_question k.says) (still_plain s h)

    -- a request goes under a number that there is
    response_asks : (m : Message) → is_response m ≡ true → asks_something m ≡ false
    response_asks (result id r) h = refl
    response_asks (error id r) h = refl
    response_asks (request id method params) h = never (sym h)
    response_asks (notification method params) h = refl
    response_asks not_json h = refl
    response_asks not_message h = refl

    room : WhyToEditor settings before cause events n body → asks_something (message_of body) ≡ true → has_number n events ≡ true
    room (asks k) is = k.room
    room (resumes k) is = k.room
    room (pays k) is = k.room
    room (calls k) is = k.room
    room (rejects k) is = never (sym is ∙ ap asks_something k.says)
    room (refuses k) is = never (sym is ∙ ap asks_something k.says)
    room (loses k) is = never (sym is ∙ ap asks_something k.says)
    room (answers k) is = never (sym is ∙ ap asks_something k.says)
    room (turns_away k) is = never (sym is ∙ ap asks_something k.says)
    room (welcomes k) is = never (sym is ∙ ap asks_something k.says)
    room (passes k) is = never (sym is ∙ response_asks (message_of body) k.response)
    room (spreads k) is = never (sym is ∙ ap asks_something k.says)
    room (recalls k) is = never (sym is ∙ ap asks_something k.says)
    room (progresses k) is = never (sym is ∙ ap asks_something k.says)
    room (shows k) is = never (sym is ∙ ap asks_something k.says)
    room (winds_up k) is = never (sym is ∙ ap asks_something k.says)

    told_small : WhyToEditor settings before cause events n body → AllSmall events → AllSmall later
    told_small why h e = let m : next_ask e later ≡ asked_behind e (next_ask e events) (said (ToEditor n body)) = next_more e events (said (ToEditor n body)) in subst (λ z. z ≤ 2 ^ 64) (sym m) (by (message_of body) refl)
      where
        by : (w : Message) → message_of body ≡ w → asked_behind e (next_ask e events) (did (ToEditor n body) w) ≤ 2 ^ 64
        by (request id method params) says = go (nat_eq n e) refl
          where
            go : (b : Bool) → nat_eq n e ≡ b → (if b then next_ask e events + 1 else next_ask e events) ≤ 2 ^ 64
            go true same = let less : next_ask e events < 2 ^ 64 = ltb-true (next_ask e events) (2 ^ 64) (subst (λ z. has_number z events ≡ true) (number_same n e same) (room why (ap asks_something says))) in omega (arith, less)
            go false other = h e
        by (notification method params) says = h e
        by (result id r) says = h e
        by (error id r) says = h e
        by not_json says = h e
        by not_message says = h e

  beside : (events : List Event) (out : Out) (event : Event) → ((e : ℕ) → asked_behind e (next_ask e events) event ≡ next_ask e events) → AllSmall events → AllSmall (events ++ event ∷ [])
  beside events out event same h e = subst (λ z. z ≤ 2 ^ 64) (sym (next_more e events event ∙ same e)) (h e)

  lift_plain : (events : List Event) (event : Event) → AllPlain settings events → (s : ℕ) → AllByRecursion (IsPlain (events ++ event ∷ [])) (asks_of settings s events)
  lift_plain events event h s = all_of (IsPlain events) (IsPlain (events ++ event ∷ [])) (λ a k. numbered_more events event a.editor a.number None k) (asks_of settings s events) (h s)

  set_more : (events : List Event) (out : Out) → AllSet settings events → AllSet settings (events ++ said out ∷ [])
  set_more events out h s = subst (λ (x : Created). AllByRecursion (IsSet s (events ++ said out ∷ [])) x.takings) (sym (created_more settings s events (said out))) (set_said settings s events (created_of settings s events) out (h s))

  orders_did : (events : List Event) (out : Out) → Why settings before cause events out → Orders settings events → Orders settings (events ++ said out ∷ [])
  orders_did events (ToEditor n body) why h = record { plain = λ s. told_plain events n body why s (h.plain s); set = set_more events (ToEditor n body) h.set; small = told_small events n body why h.small }
  orders_did events (ToServer n body) why h = record { plain = λ s. did_all settings (IsPlain (events ++ said (ToServer n body) ∷ [])) s events (ToServer n body) tt (lift_plain events (said (ToServer n body)) h.plain s); set = set_more events (ToServer n body) h.set; small = beside events (ToServer n body) (said (ToServer n body)) (λ e. refl) h.small }
  orders_did events (Spawn n g) why h = record { plain = λ s. did_all settings (IsPlain (events ++ said (Spawn n g) ∷ [])) s events (Spawn n g) tt (lift_plain events (said (Spawn n g)) h.plain s); set = set_more events (Spawn n g) h.set; small = beside events (Spawn n g) (said (Spawn n g)) (λ e. refl) h.small }
  orders_did events (CloseEditor n) why h = record { plain = λ s. did_all settings (IsPlain (events ++ said (CloseEditor n) ∷ [])) s events (CloseEditor n) tt (lift_plain events (said (CloseEditor n)) h.plain s); set = set_more events (CloseEditor n) h.set; small = beside events (CloseEditor n) (said (CloseEditor n)) (λ e. refl) h.small }
  orders_did events (EndServer n) why h = record { plain = λ s. did_all settings (IsPlain (events ++ said (EndServer n) ∷ [])) s events (EndServer n) tt (lift_plain events (said (EndServer n)) h.plain s); set = set_more events (EndServer n) h.set; small = beside events (EndServer n) (said (EndServer n)) (λ e. refl) h.small }

  heard_asks : (e n : ℕ) (c : Cause) → asked_behind e n (heard c) ≡ n
  heard_asks e n (Joined k) = refl
  heard_asks e n (FromEditor k body) = refl
  heard_asks e n (EditorGone k w) = refl
  heard_asks e n (Started k) = refl
  heard_asks e n (StartFailed k) = refl
  heard_asks e n (FromServer k body) = refl
  heard_asks e n (ServerGone k) = refl
  heard_asks e n (Drained k j) = refl
  heard_asks e n (Tick t) = refl

  orders_took : Orders settings before → Orders settings (with_cause before cause)
  orders_took h = record {
    plain = λ s. took_all settings (IsPlain (with_cause before cause)) s before cause (lift_plain before (heard cause) h.plain s);
    set = λ s. subst (λ (x : Created). AllByRecursion (IsSet s (with_cause before cause)) x.takings) (sym (created_more settings s before (heard cause))) (set_heard settings s before (created_of settings s before) cause (h.set s));
    small = λ e. subst (λ z. z ≤ 2 ^ 64) (sym (next_more e before (heard cause) ∙ heard_asks e (next_ask e before) cause)) (h.small e);
  }

-- What follows of responses

same_named : (id : Option Id) (n m : ℕ) → n < 2 ^ 64 → m < 2 ^ 64 → names id n ≡ true → names id m ≡ true → n ≡ m
same_named (Some (integer ds)) n m low high h k = decimal_injective n m low high (sym ((bytes_eq-Decides ds (decimal n)).0 h) ∙ (bytes_eq-Decides ds (decimal m)).0 k)
same_named (Some (text cs)) n m low high h k = never (sym h)
same_named None n m low high h k = never (sym h)

none_passes : {A : Type 0} (test P : A → Bool) (xs : List A) (c : A) (cs : List A) → find test xs ≡ None → filter P xs ≡ c ∷ cs → test c ≡ false
none_passes test P [] c cs h k = absurd (cc)
none_passes test P (x ∷ xs) c cs h k = go (test x) refl (P x) (λ f g. none_passes test P xs c cs f g) h k
  where
    go : (a : Bool) → test x ≡ a → (b : Bool) → (find test xs ≡ None → filter P xs ≡ c ∷ cs → test c ≡ false) → cond a (Some x) (find test xs) ≡ None → cond b (x ∷ filter P xs) (filter P xs) ≡ c ∷ cs → test c ≡ false
    go true at b f h k = absurd (cc)
    go false at true f h k = ap test (let same : x ≡ c = cc in sym same) ∙ at
    go false at false f h k = f h k

clear_of : (settings : Settings) (events : List Event) → Facts settings events → Orders settings events → IsClear settings events
clear_of settings events facts o = record { one = one; apart = apart }
  where
    low_next : (s : ℕ) (test : Taking → Bool) (c : Taking) → find test (created_of settings s events).takings ≡ Some c → c.token < 2 ^ 64
    low_next s test c found =
        let below : c.token < (created_of settings s events).next = found_is (λ (d : Taking). d.token < (created_of settings s events).next) test c (created_of settings s events).takings (created_orderly settings s events).takings found in
        let top : (created_of settings s events).next ≤ 2 ^ 64 = (created_fair settings s events (facts.base).meant).small in omega (arith, below, top)

    number_low : (e n : ℕ) (mark : Option (List ℕ)) → IsNumbered events e n mark → n < 2 ^ 64
    number_low e n mark h = let below : n < next_ask e events = h.below in let top : next_ask e events ≤ 2 ^ 64 = o.small e in omega (arith, below, top)

    parts_of : (e : ℕ) (id : Option Id) (c : Taking) → is_answered e id c ≡ true → (nat_eq c.editor e ≡ true) × (names id c.number ≡ true)
    parts_of e id c h = and_parts (nat_eq c.editor e) (names id c.number) (and_parts (not c.accepted) (nat_eq c.editor e && names id c.number) h).1

    one : (s k e : ℕ) (id : Option Id) (c : Taking) → own e k (created_of settings s events) ≡ c ∷ [] → is_answered e id c ≡ true → find (is_answered e id) (created_of settings s events).takings ≡ Some c
    one s k e id c only at = go (find (is_answered e id) takings) refl
      where
        takings : List Taking
        takings = (created_of settings s events).takings

        go : (w : Option Taking) → find (is_answered e id) takings ≡ w → w ≡ Some c
        go None none = never (sym at ∙ none_passes (is_answered e id) (is_own e k) takings c [] none only)
        go (Some d) found = ap (λ z. Some z) (sym (found_kept (λ z. c ≡ z) (is_answered e id) (is_own e k) takings d found mine (subst (AllByRecursion (λ (z : Taking). c ≡ z)) (sym only) (refl, tt))))
          where
            d_parts : (nat_eq d.editor e ≡ true) × (names id d.number ≡ true)
            d_parts = parts_of e id d (find_true (is_answered e id) takings d found)

            c_own : (nat_eq c.editor e ≡ true) × (nat_eq c.token k ≡ true)
            c_own = and_parts (nat_eq c.editor e) (nat_eq c.token k) (head_passes (is_own e k) takings c [] only)

            d_set : IsSet s events d
            d_set = found_is (IsSet s events) (is_answered e id) d takings (o.set s) found

            c_set : IsSet s events c
            c_set = head_all (IsSet s events) takings (o.set s) only
              where
                head_all : (Q : Taking → Type 0) (xs : List Taking) → AllByRecursion Q xs → filter (is_own e k) xs ≡ c ∷ [] → Q c
                head_all Q [] all h = absurd (cc)
                head_all Q (y ∷ ys) all h = by (is_own e k y) (λ g. head_all Q ys all.1 g) h
                  where
                    by : (b : Bool) → (filter (is_own e k) ys ≡ c ∷ [] → Q c) → cond b (y ∷ filter (is_own e k) ys) (filter (is_own e k) ys) ≡ c ∷ [] → Q c
                    by true f g = subst Q (let same : y ≡ c = cc in same) all.0
                    by false f g = f g

            c_low : c.token < 2 ^ 64
            c_low = let at_next : c.token < (created_of settings s events).next = head_low takings (created_orderly settings s events).takings only in let top : (created_of settings s events).next ≤ 2 ^ 64 = (created_fair settings s events (facts.base).meant).small in omega (arith, at_next, top)
              where
                head_low : (xs : List Taking) → AllByRecursion (λ (z : Taking). z.token < (created_of settings s events).next) xs → filter (is_own e k) xs ≡ c ∷ [] → c.token < (created_of settings s events).next
                head_low [] all h = absurd (cc)
                head_low (y ∷ ys) all h = by (is_own e k y) (λ g. head_low ys all.1 g) h
                  where
                    by : (b : Bool) → (filter (is_own e k) ys ≡ c ∷ [] → c.token < (created_of settings s events).next) → cond b (y ∷ filter (is_own e k) ys) (filter (is_own e k) ys) ≡ c ∷ [] → c.token < (created_of settings s events).next
                    by true f g = let same : y ≡ c = cc in subst (λ (z : Taking). z.token < (created_of settings s events).next) same all.0
                    by false f g = f g

            number : d.number ≡ c.number
            number = same_named id d.number c.number (number_low d.editor d.number (Some (created_mark s d.token)) d_set) (number_low c.editor c.number (Some (created_mark s c.token)) c_set) d_parts.1 (parts_of e id c at).1

            editor : d.editor ≡ c.editor
            editor = number_same d.editor e d_parts.0 ∙ sym (number_same c.editor e c_own.0)

            marks : ◌≡◌ {A = Option (List ℕ)} (Some (created_mark s d.token)) (Some (created_mark s c.token))
            marks = sym d_set.at ∙ (ap₂ (λ a b. mark_at a b events) editor number ∙ c_set.at)

            token : d.token ≡ c.token
            token = mark_number s d.token s c.token (low_next s (is_answered e id) d found) c_low (let same : created_mark s d.token ≡ created_mark s c.token = some_one (created_mark s d.token) (created_mark s c.token) marks in same)
              where
                some_one : (a b : List ℕ) → ◌≡◌ {A = Option (List ℕ)} (Some a) (Some b) → a ≡ b
                some_one a b h = cc

            mine : is_own e k d ≡ true
            mine = ap₂ (λ a b. a && b) d_parts.0 (ap (λ z. nat_eq z k) token ∙ c_own.1)

    apart : (s e : ℕ) (id : Option Id) (c : Taking) → find (is_answered e id) (created_of settings s events).takings ≡ Some c → find (is_seated e id) (asks_of settings s events) ≡ None
    apart s e id c found = go (find (is_seated e id) (asks_of settings s events)) refl
      where
        c_parts : (nat_eq c.editor e ≡ true) × (names id c.number ≡ true)
        c_parts = parts_of e id c (find_true (is_answered e id) (created_of settings s events).takings c found)

        c_set : IsSet s events c
        c_set = found_is (IsSet s events) (is_answered e id) c (created_of settings s events).takings (o.set s) found

        go : (w : Option Ask) → find (is_seated e id) (asks_of settings s events) ≡ w → w ≡ None
        go None none = refl
        go (Some a) seated = absurd (let clash : ◌≡◌ {A = Option (List ℕ)} None (Some (created_mark s c.token)) = sym a_plain.at ∙ (ap₂ (λ i j. mark_at i j events) editor number ∙ c_set.at) in cc)
          where
            a_parts : (nat_eq a.editor e ≡ true) × (names id a.number ≡ true)
            a_parts = and_parts (nat_eq a.editor e) (names id a.number) (find_true (is_seated e id) (asks_of settings s events) a seated)

            a_plain : IsPlain events a
            a_plain = found_is (IsPlain events) (is_seated e id) a (asks_of settings s events) (o.plain s) seated

            editor : a.editor ≡ c.editor
            editor = number_same a.editor e a_parts.0 ∙ sym (number_same c.editor e c_parts.0)

            number : a.number ≡ c.number
            number = same_named id a.number c.number (number_low a.editor a.number None a_plain) (number_low c.editor c.number (Some (created_mark s c.token)) c_set) a_parts.1 c_parts.1

pub all_clear : (settings : Settings) → InRange settings → AllClear settings
all_clear settings range before legal = clear_of settings before (facts_at settings range before legal) (walk settings (Orders settings) entry slow (record { plain = λ s. tt; set = λ s. tt; small = λ e. omega arith }) before legal)
  where
    entry : (earlier : List Event) → Reached settings earlier → (cause : Cause) → fits_behind earlier cause ≡ true → Orders settings earlier → Orders settings (behind (with_cause earlier cause) (outs_of settings earlier cause))
    entry earlier so_far cause fits h = reasons_keep (Why settings earlier cause) (Orders settings) (orders_did settings earlier cause) (with_cause earlier cause) (outs_of settings earlier cause)
        (reasons settings range earlier (facts_at settings range earlier so_far) cause).why (orders_took settings earlier cause h)

    slow : KeepsSlow settings (Orders settings)
    slow place at e is h = reasons_keep (Why settings place (quitting e)) (Orders settings) (orders_did settings place (quitting e)) place (parting settings place e) (parting_why settings range place (facts_at settings range place at) e is) h
