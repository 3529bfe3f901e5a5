-- What is due behind one event more, and what the fold of created tokens keeps beside it.
use Rattle.std.proofs.Common.{◌≡◌, ℕ, ◌<◌, ◌≤◌, Bool, true, false, not, ◌&&◌, ◌||◌, cond, List, [], ◌∷◌, ◌++◌, append-nil, codes, filter, find, flat_map, map, nat_eq, if◌then◌else◌, Option, Some, None, ◌⊎◌, inl, inr, refl, sym, ◌∙◌, ap, ap₂, subst, arith}
use Rattle.std.specs.List.{AllByRecursion, list_any}
use Rattle.std.proofs.lemmas.Bool.{and_parts}
use Rattle.json_text.specs.Json.{Json}
use Rattle.mux_history.specs.declared.cause.Cause.{Cause}
use Rattle.mux_history.specs.declared.cause.Cause.TheVariants.{Joined, FromEditor, EditorGone, Started, StartFailed, FromServer, ServerGone, Drained, Tick}
use Rattle.mux_history.specs.declared.out.Out.{Out}
use Rattle.mux_history.specs.declared.out.Out.TheVariants.{ToEditor, ToServer, Spawn, CloseEditor, EndServer}
use Rattle.rpc_message.specs.Message.{Id, Message, request, notification, result, error, not_json, not_message, message_of}
use Rattle.event_model.specs.declared.stage.Stage.{Stage}
use Rattle.event_model.specs.declared.stage.Stage.TheVariants.{Ended, Spawning, Unspawned}
use Rattle.event_model.specs.Event.{Event, did, heard, requests, said, took, with_cause}
use Rattle.event_model.specs.Members.{named_of}
use Rattle.event_model.specs.Requests.{answered_id}
use Rattle.event_model.specs.Settings.{Settings}
use Rattle.event_model.specs.Spawns.{starts_of}
use Rattle.event_model.specs.Stages.{Life, is_ready, life_behind, life_of, no_life, stage_ending, stage_hears, stage_started, stage_told}
use Rattle.event_model.proofs.Frames.{never}
use Rattle.mux_facts.proofs.Folds.{life_more}
use Rattle.mux_facts.proofs.Lists.{all_filtered, all_join, found_is}
use Rattle.mux_facts.proofs.Starts.{Starts}
use Rattle.mux_facts.proofs.Words.{number_same, same_number}
use Rattle.group_words.proofs.Frames.{past_more}
use Rattle.group_rows.specs.Asks.{asking_of, is_taken, next_ask}
use Rattle.group_rows.specs.Created.{Created, Token, accepts, answered, asked, begun_by, created_next, created_of, created_token, first_begin, held_first, is_answered, is_called, is_creating, is_ended_by, is_numbered, is_over, is_progress, left, lives, named_token, no_created, progressed, settled, spoken, told as told_taking, token_called, token_marked, is_marked, with_asked, with_token, is_end}
use Rattle.group_rows.specs.Live.{is_heard}
use Rattle.group_sessions.proofs.CreatedFold.{IsLive, IsNew, Orderly, created_orderly, new_is}
use Rattle.group_sessions.proofs.CreatedTies.{created_more}
use Rattle.group_rows.specs.ExitRows.{has_begun}
use Rattle.group_sessions.proofs.HeldFold.{gone_behind}
use Rattle.group_sessions.specs.Due.{Word, asked_by, asks, bodies, body_in, due, is_asks, is_beginning, is_ending, opening, parts, replies, rests, spoken_by, tells, told_by, word, words, breaks, is_closing}
use Rattle.group_sessions.proofs.DueFold.{own, own_answered, own_asked, own_left, own_other, own_stays, own_still, own_told}
use Rattle.group_sessions.proofs.DueStates.{State, Steps, ask, fresh, gained, handed, idle, part, reply, tell, broke, cuts}
use Rattle.group_sessions.proofs.DueWords.{any_join, bodies_join, opening_step}

or_nil : (b : Bool) → (b || false) ≡ b
or_nil true = refl
or_nil false = refl

pub num_off : (a b : ℕ) → (a ≡ b → ⊥) → nat_eq a b ≡ false
num_off a b f = go (nat_eq a b) refl
  where
    go : (c : Bool) → nat_eq a b ≡ c → c ≡ false
    go true same = absurd (f (number_same a b same))
    go false off = refl

-- A token that lives

found_lives : (test : Token → Bool) (t : Token) (ts : List Token) → find test ts ≡ Some t → list_any (is_numbered t.number) ts ≡ true
found_lives test t [] h = absurd (cc)
found_lives test t (u ∷ ts) h = go (test u) (λ f. found_lives test t ts f) h
  where
    second : (b : Bool) → list_any (is_numbered t.number) ts ≡ true → (b || list_any (is_numbered t.number) ts) ≡ true
    second true f = refl
    second false f = f

    go : (b : Bool) → (find test ts ≡ Some t → list_any (is_numbered t.number) ts ≡ true) → cond b (Some u) (find test ts) ≡ Some t → (is_numbered t.number u || list_any (is_numbered t.number) ts) ≡ true
    go true f g = let same : u ≡ t = cc in ap (λ (z : Token). nat_eq z.number t.number || list_any (is_numbered t.number) ts) same ∙ ap (λ b. b || list_any (is_numbered t.number) ts) (same_number t.number)
    go false f g = second (is_numbered t.number u) (f g)

called_lives : (o : Option Id) (x : Created) (t : Token) → token_called o x ≡ Some t → list_any (is_numbered t.number) x.tokens ≡ true
called_lives (Some id) x t h = found_lives (is_called id) t x.tokens h
called_lives None x t h = absurd (cc)

called_below : (o : Option Id) (x : Created) (t : Token) → Orderly x → token_called o x ≡ Some t → t.number < x.next
called_below (Some id) x t h called = (found_is (IsLive x.next) (is_called id) t x.tokens h.live called).below
called_below None x t h called = absurd (cc)

-- what lives behind progress lived before it
begun_number : (j : ℕ) (body : List ℕ) (params : Option Json) (t : Token) → (begun_by j body params t).number ≡ t.number
begun_number j body params t = go (is_numbered j t)
  where
    go : (b : Bool) → (if b then record t { begin = first_begin body params t.begin } else t).number ≡ t.number
    go true = refl
    go false = refl

same_back : (j k : ℕ) (body : List ℕ) (params : Option Json) → nat_eq j k ≡ false → (ts : List Token) → list_any (is_numbered k) (filter (λ u. not (is_ended_by j params u)) (map (begun_by j body params) ts)) ≡ list_any (is_numbered k) ts
same_back j k body params apart [] = refl
same_back j k body params apart (t ∷ ts) = go (is_ended_by j params (begun_by j body params t)) refl (same_back j k body params apart ts)
  where
    rest : List Token
    rest = filter (λ u. not (is_ended_by j params u)) (map (begun_by j body params) ts)

    go : (d : Bool) → is_ended_by j params (begun_by j body params t) ≡ d → list_any (is_numbered k) rest ≡ list_any (is_numbered k) ts → list_any (is_numbered k) (cond (not d) (begun_by j body params t ∷ rest) rest) ≡ (is_numbered k t || list_any (is_numbered k) ts)
    go false off later = ap₂ (λ u v. u || v) (ap (λ n. nat_eq n k) (begun_number j body params t)) later
    go true gone later = later ∙ ap (λ b. b || list_any (is_numbered k) ts) (sym (ap (λ n. nat_eq n k) (sym (begun_number j body params t) ∙ number_same (begun_by j body params t).number j (and_parts (is_end params) (is_numbered j (begun_by j body params t)) gone).1) ∙ apart))

-- where it doesn't end, each lives on
all_back : (j k : ℕ) (body : List ℕ) (params : Option Json) → is_end params ≡ false → (ts : List Token) → list_any (is_numbered k) (filter (λ u. not (is_ended_by j params u)) (map (begun_by j body params) ts)) ≡ list_any (is_numbered k) ts
all_back j k body params goes_on [] = refl
all_back j k body params goes_on (t ∷ ts) = ap (λ b. list_any (is_numbered k) (cond (not (b && is_numbered j (begun_by j body params t))) (begun_by j body params t ∷ rest) rest)) goes_on
    ∙ ap₂ (λ u v. u || v) (ap (λ n. nat_eq n k) (begun_number j body params t)) (all_back j k body params goes_on ts)
  where
    rest : List Token
    rest = filter (λ u. not (is_ended_by j params u)) (map (begun_by j body params) ts)

-- What is known of a token's first `begin`, from these bodies

abbrev pub Begun : ℕ → List (List ℕ) → Token → Type 0
Begun k xs t = is_numbered k t ≡ true → held_first t.begin ≡ opening xs

-- while the start may yet create, and once its program has ended
pub data Rest (k : ℕ) (x : Created) (ws : List Word) (stage : Stage) : Type 0 where
  going : AllByRecursion (Begun k (bodies ws)) x.tokens → (x.next ≤ k → bodies ws ≡ []) → (list_any is_asks ws ≡ true → k < x.next) → Rest k x ws stage
  dead : x ≡ no_created → stage ≡ Ended → Rest k x ws stage

rest_more : (k : ℕ) (x y : Created) (ws : List Word) (w : Word) (stage later : Stage) → body_in w ≡ [] → (is_asks w ≡ false) ⊎ (k < y.next) → ((x.next ≤ k → bodies ws ≡ []) → AllByRecursion (Begun k (bodies ws)) x.tokens → AllByRecursion (Begun k (bodies ws)) y.tokens) → x.next ≤ y.next
    → (x ≡ no_created → stage ≡ Ended → y ≡ no_created) → (stage ≡ Ended → later ≡ Ended) → Rest k x ws stage → Rest k y (ws ++ w ∷ []) later
rest_more k x y ws w stage later quiet unasked f more none stays (going begun untold low) = going (subst (λ z. AllByRecursion (Begun k z) y.tokens) (sym same) (f untold begun)) (λ le. same ∙ untold (omega (arith, le, more))) (λ h. lower unasked (sym (any_join is_asks ws (w ∷ [])) ∙ h))
  where
    or_off : (b : Bool) → (b || false) ≡ true → b ≡ true
    or_off true h = refl
    or_off false h = h

    lower : (is_asks w ≡ false) ⊎ (k < y.next) → (list_any is_asks ws || (is_asks w || false)) ≡ true → k < y.next
    lower (inl off) h = let j : k < x.next = low (or_off (list_any is_asks ws) (ap (λ b. list_any is_asks ws || (b || false)) (sym off) ∙ h)) in omega (arith, j, more)
    lower (inr j) h = j

    same : bodies (ws ++ w ∷ []) ≡ bodies ws
    same = bodies_join ws (w ∷ []) ∙ (ap (λ z. bodies ws ++ (z ++ [])) quiet ∙ append-nil (bodies ws))
rest_more k x y ws w stage later quiet unasked f more none stays (dead is ended) = dead (none is ended) (stays ended)

module _ (settings : Settings) (s k e : ℕ) where
  abbrev fold : List Event → Created
  fold events = created_of settings s events

  abbrev said_of : List Event → List Word
  said_of events = words settings s k e events

  pub words_more : (events : List Event) (event : Event) → said_of (events ++ event ∷ []) ≡ said_of events ++ word settings s k e events event ∷ []
  words_more events event = past_more (λ before ws ev. ws ++ word settings s k e before ev ∷ []) [] [] events event

  abbrev stage_of : List Event → Stage
  stage_of events = (life_of s events).stage

  pub record Tie (events : List Event) : Type 0 where
    pub state : State e k (fold events) (said_of events)
    pub rest : Rest k (fold events) (said_of events) (stage_of events)

  -- by so much more is due
  abbrev pub told_gain : List ℕ → Created → Option Token → List (List ℕ)
  told_gain body x None = []
  told_gain body x (Some t) = if is_numbered k t then gained e k body (own e k x) else []

  abbrev pub gain : List Event → Event → List (List ℕ)
  gain before (took (FromServer n body) (notification method params)) = if nat_eq n s && (is_progress method && is_ready (life_of s before).stage) then told_gain body (fold before) (token_called (named_token params) (fold before)) else []
  gain before (took (FromEditor n body) m) = if nat_eq n e then (if requests (codes "shutdown") m then [] else handed e k m (own e k (fold before))) else []
  gain before other = []

  pub record Moves (events : List Event) (event : Event) : Type 0 where
    pub tie : Tie (events ++ event ∷ [])
    pub grows : due (said_of (events ++ event ∷ [])) ≡ due (said_of events) ++ gain events event
    pub cut : is_closing (said_of (events ++ event ∷ [])) ≡ (is_closing (said_of events) || (broke e k (word settings s k e events event) && has_begun e k (fold events)))

  module _ (events : List Event) where
    abbrev x : Created
    x = fold events

    abbrev ws : List Word
    ws = said_of events

    -- the new state, by the fold's step and the event's word
    record Stepped (later : Stage) (y : Created) (w : Word) (g : List (List ℕ)) : Type 0 where
      steps : Steps e k y ws w g
      rest : Rest k y (ws ++ w ∷ []) later

    told_whole : (body : List ℕ) (o : Option Token) → broke e k (told_by k body o) ≡ false
    told_whole body None = refl
    told_whole body (Some t) = go (is_numbered k t)
      where
        go : (b : Bool) → broke e k (if b then tells body else rests) ≡ false
        go true = refl
        go false = refl

    asked_whole : (n : ℕ) (o : Option Token) → broke e k (asked_by k n o) ≡ false
    asked_whole n None = refl
    asked_whole n (Some t) = go (is_numbered k t)
      where
        go : (b : Bool) → broke e k (if b then asks n else rests) ≡ false
        go true = refl
        go false = refl

    pub server_whole : (n : ℕ) (body : List ℕ) (m : Message) → broke e k (word settings s k e events (took (FromServer n body) m)) ≡ false
    server_whole n body (notification method params) = go (nat_eq n s && (is_progress method && is_ready (life_of s events).stage))
      where
        go : (b : Bool) → broke e k (if b then told_by k body (token_called (named_token params) x) else rests) ≡ false
        go true = told_whole body (token_called (named_token params) x)
        go false = refl
    server_whole n body (request id method params) = refl
    server_whole n body (result id r) = refl
    server_whole n body (error id r) = refl
    server_whole n body not_json = refl
    server_whole n body not_message = refl

    pub editor_whole : (b c : Bool) (m : Message) → broke e k (if b then (if c then parts else replies (answered_id m) (accepts m)) else rests) ≡ false
    editor_whole true true m = refl
    editor_whole true false m = refl
    editor_whole false c m = refl

    pub left_whole : (b : Bool) → broke e k (if b then parts else rests) ≡ false
    left_whole true = refl
    left_whole false = refl

    pub out_whole : (out : Out) (m : Message) → broke e k (word settings s k e events (did out m)) ≡ false
    out_whole (ToEditor n body) (request id method params) = go (nat_eq n e && is_creating method)
      where
        go : (b : Bool) → broke e k (if b then asked_by k (next_ask n events) (token_marked s params x) else rests) ≡ false
        go true = asked_whole (next_ask n events) (token_marked s params x)
        go false = refl
    out_whole (ToEditor n body) (notification method params) = refl
    out_whole (ToEditor n body) (result id r) = refl
    out_whole (ToEditor n body) (error id r) = refl
    out_whole (ToEditor n body) not_json = refl
    out_whole (ToEditor n body) not_message = refl
    out_whole (CloseEditor n) m = left_whole (nat_eq n e)
    out_whole (ToServer n body) m = refl
    out_whole (Spawn n g) m = refl
    out_whole (EndServer n) m = refl

    build : Tie events → (event : Event) → Stepped (stage_of (events ++ event ∷ [])) (created_next settings s events x event) (word settings s k e events event) (gain events event) → Moves events event
    build old event st = record {
      tie = record {
        state = subst (State e k (fold (events ++ event ∷ []))) (sym (words_more events event)) (subst (λ y. State e k y (ws ++ word settings s k e events event ∷ [])) (sym (created_more settings s events event)) (st.steps).state);
        rest = subst (λ z. Rest k (fold (events ++ event ∷ [])) z (stage_of (events ++ event ∷ []))) (sym (words_more events event)) (subst (λ y. Rest k y (ws ++ word settings s k e events event ∷ []) (stage_of (events ++ event ∷ []))) (sym (created_more settings s events event)) st.rest);
      };
      grows = ap due (words_more events event) ∙ (st.steps).grows;
      cut = ap is_closing (words_more events event) ∙ cuts e k x ws (word settings s k e events event) old.state;
    }

    module _ (tie : Tie events) where
      -- the event is nothing to them
      resting : (y : Created) (later : Stage) → own e k y ≡ own e k x → (k < x.next → lives k y ≡ lives k x) → ((x.next ≤ k → bodies ws ≡ []) → AllByRecursion (Begun k (bodies ws)) x.tokens → AllByRecursion (Begun k (bodies ws)) y.tokens) → x.next ≤ y.next
          → (x ≡ no_created → stage_of events ≡ Ended → y ≡ no_created) → (stage_of events ≡ Ended → later ≡ Ended) → Stepped later y rests []
      resting y later same off begun more none stays = record {
        steps = idle e k x y ws rests refl refl refl (λ c only un. refl) same off more tie.state;
        rest = rest_more k x y ws rests (stage_of events) later refl (inl refl) begun more none stays tie.rest;
      }

      still : (later : Stage) → (stage_of events ≡ Ended → later ≡ Ended) → Stepped later x rests []
      still later stays = resting x later refl (λ low. refl) (λ untold h. h) (omega arith) (λ is ended. is) stays

      alike : (y : Created) (later : Stage) → own e k y ≡ own e k x → y.tokens ≡ x.tokens → y.next ≡ x.next → (x ≡ no_created → y ≡ no_created) → (stage_of events ≡ Ended → later ≡ Ended) → Stepped later y rests []
      alike y later same tokens next none stays = resting y later same (λ low. ap (list_any (is_numbered k)) tokens) (λ untold h. subst (AllByRecursion (Begun k (bodies ws))) (sym tokens) h) (omega (arith, next)) (λ is ended. none is) stays

      -- the editor leaves
      parting : (y : Created) (later : Stage) → own e k y ≡ [] → y.tokens ≡ x.tokens → y.next ≡ x.next → (x ≡ no_created → y ≡ no_created) → (stage_of events ≡ Ended → later ≡ Ended) → Stepped later y parts []
      parting y later gone tokens next none stays = record {
        steps = part e k parts refl refl refl (λ j. refl) x y ws gone tie.state;
        rest = rest_more k x y ws parts (stage_of events) later refl (inl refl) (λ untold h. subst (AllByRecursion (Begun k (bodies ws))) (sym tokens) h) (omega (arith, next)) (λ is ended. none is) stays tie.rest;
      }

      -- S8

      unready : stage_of events ≡ Ended → is_ready (stage_of events) ≡ false
      unready h = ap is_ready h

      ready_not : is_ready (stage_of events) ≡ true → stage_of events ≡ Ended → ⊥
      ready_not r h = let clash : true ≡ false = sym r ∙ unready h in cc

      made : (body : List ℕ) (later : Stage) → (stage_of events ≡ Ended → later ≡ Ended) → is_ready (stage_of events) ≡ true → (o : Option Token) → created_token body x ≡ o → Stepped later (with_token o x) rests []
      made body later stays r None is = still later stays
      made body later stays r (Some t) is = resting (with_token (Some t) x) later refl none begun (omega arith) (λ j ended. absurd (ready_not r ended)) stays
        where
          n : IsNew body x t
          n = new_is body x t is

          none : k < x.next → lives k (with_token (Some t) x) ≡ lives k x
          none low = any_join (is_numbered k) x.tokens (t ∷ []) ∙ (ap (λ b. lives k x || (b || false)) (num_off t.number k (λ same. let at : t.number ≡ x.next = n.number in omega (arith, low, same, at))) ∙ or_nil (lives k x))

          begun : (x.next ≤ k → bodies ws ≡ []) → AllByRecursion (Begun k (bodies ws)) x.tokens → AllByRecursion (Begun k (bodies ws)) (x.tokens ++ t ∷ [])
          begun untold h = all_join (Begun k (bodies ws)) x.tokens (t ∷ []) h (
            (λ at. ap held_first n.begin ∙ sym (ap opening (untold (let same : t.number ≡ k = number_same t.number k at in let new : t.number ≡ x.next = n.number in omega (arith, same, new))))),
            tt,
          )

      -- S13

      module _ (body method : List ℕ) (params : Option Json) (says : message_of body ≡ notification method params) (later : Stage) (stays : stage_of events ≡ Ended → later ≡ Ended) (r : is_ready (stage_of events) ≡ true) (t : Token) (called : token_called (named_token params) x ≡ Some t) where
        abbrev y : Created
        y = progressed body params (Some t) x

        tell_own : nat_eq t.number k ≡ true → Stepped later y (tells body) (gained e k body (own e k x))
        tell_own at = record {
          steps = tell e k x y ws body params
              (own_told e k body params t x ∙ ap (λ j. map (told_taking j body params) (filter (λ c. not (is_over j params c)) (own e k x))) same)
              (ap (λ j. lives j x) (sym same) ∙ called_lives (named_token params) x t called)
              (λ end. ap (λ j. lives j y) (sym same) ∙ gone_behind t.number body params end x.tokens)
              (λ goes_on. all_back t.number k body params goes_on x.tokens ∙ (ap (λ j. lives j x) (sym same) ∙ called_lives (named_token params) x t called))
              refl
              (ap is_ending says) (ap is_beginning says) tie.state;
          rest = here tie.rest;
        }
          where
            same : t.number ≡ k
            same = number_same t.number k at

            more : bodies (ws ++ tells body ∷ []) ≡ bodies ws ++ body ∷ []
            more = bodies_join ws (tells body ∷ [])

            one : (u : Token) → Begun k (bodies ws) u → Begun k (bodies ws ++ body ∷ []) (begun_by t.number body params u)
            one u h = go (is_numbered t.number u) refl
              where
                go : (b : Bool) → is_numbered t.number u ≡ b → Begun k (bodies ws ++ body ∷ []) (if b then record u { begin = first_begin body params u.begin } else u)
                go true mine it = opening_step params (bodies ws) body (ap is_beginning says) u.begin (h it)
                go false other it = never (sym it ∙ (ap (nat_eq u.number) (sym same) ∙ other))

            all : (ts : List Token) → AllByRecursion (Begun k (bodies ws)) ts → AllByRecursion (Begun k (bodies ws ++ body ∷ [])) (map (begun_by t.number body params) ts)
            all [] h = tt
            all (u ∷ ts) h = (one u h.0, all ts h.1)

            here : Rest k x ws (stage_of events) → Rest k y (ws ++ tells body ∷ []) later
            here (going begun untold low) = going
                (subst (λ z. AllByRecursion (Begun k z) y.tokens) (sym more) (all_filtered (Begun k (bodies ws ++ body ∷ [])) (Begun k (bodies ws ++ body ∷ [])) (λ u. not (is_ended_by t.number params u)) (λ u on h. h) (map (begun_by t.number body params) x.tokens) (all x.tokens begun)))
                (λ le. absurd (let below : t.number < x.next = called_below (named_token params) x t (created_orderly settings s events) called in omega (arith, le, below, same)))
                (λ h. let j : t.number < x.next = called_below (named_token params) x t (created_orderly settings s events) called in omega (arith, j, same))
            here (dead is ended) = absurd (ready_not r ended)

        tell_other : nat_eq t.number k ≡ false → Stepped later y rests []
        tell_other apart = resting y later (own_other e k body params t x apart) (λ low. same_back t.number k body params apart x.tokens) (λ untold h. begun h) (omega arith) (λ is ended. absurd (ready_not r ended)) stays
          where
            one : (u : Token) → Begun k (bodies ws) u → Begun k (bodies ws) (begun_by t.number body params u)
            one u h = go (is_numbered t.number u) refl
              where
                go : (b : Bool) → is_numbered t.number u ≡ b → Begun k (bodies ws) (if b then record u { begin = first_begin body params u.begin } else u)
                go true mine it = never (sym (sym (ap (λ n. nat_eq n k) (number_same u.number t.number mine)) ∙ it) ∙ apart)
                go false other it = h it

            all : (ts : List Token) → AllByRecursion (Begun k (bodies ws)) ts → AllByRecursion (Begun k (bodies ws)) (map (begun_by t.number body params) ts)
            all [] h = tt
            all (u ∷ ts) h = (one u h.0, all ts h.1)

            begun : AllByRecursion (Begun k (bodies ws)) x.tokens → AllByRecursion (Begun k (bodies ws)) y.tokens
            begun h = all_filtered (Begun k (bodies ws)) (Begun k (bodies ws)) (λ u. not (is_ended_by t.number params u)) (λ u on g. g) (map (begun_by t.number body params) x.tokens) (all x.tokens h)

        told_one : (b : Bool) → is_numbered k t ≡ b → Stepped later y (if b then tells body else rests) (if b then gained e k body (own e k x) else [])
        told_one true at = tell_own at
        told_one false apart = tell_other apart

      told : (body method : List ℕ) (params : Option Json) → message_of body ≡ notification method params → (later : Stage) → (stage_of events ≡ Ended → later ≡ Ended) → is_ready (stage_of events) ≡ true → (o : Option Token) → token_called (named_token params) x ≡ o
          → Stepped later (progressed body params o x) (told_by k body o) (told_gain body x o)
      told body method params says later stays r None called = still later stays
      told body method params says later stays r (Some t) called = told_one body method params says later stays r t called (is_numbered k t) refl

      -- Causes

      ready_now : (n : ℕ) (a b : Bool) → (nat_eq n s && (a && b)) ≡ true → b ≡ true
      ready_now n a b on = (and_parts a b (and_parts (nat_eq n s) (a && b) on).1).1

      heard_server : (n : ℕ) (body : List ℕ) (m : Message) → message_of body ≡ m → (later : Stage) → (stage_of events ≡ Ended → later ≡ Ended) → Stepped later (created_next settings s events x (took (FromServer n body) m)) (word settings s k e events (took (FromServer n body) m)) (gain events (took (FromServer n body) m))
      heard_server n body (request id method params) says later stays = go (nat_eq n s && (is_creating method && is_heard settings s events id)) refl
        where
          go : (b : Bool) → (nat_eq n s && (is_creating method && is_heard settings s events id)) ≡ b → Stepped later (if b then with_token (created_token body x) x else x) rests []
          go true on = made body later stays (and_parts (is_ready (stage_of events)) (not (is_taken (Some id) (asking_of settings s events))) (ready_now n (is_creating method) (is_heard settings s events id) on)).0 (created_token body x) refl
          go false off = still later stays
      heard_server n body (notification method params) says later stays = go (nat_eq n s && (is_progress method && is_ready (stage_of events))) refl
        where
          go : (b : Bool) → (nat_eq n s && (is_progress method && is_ready (stage_of events))) ≡ b
              → Stepped later (if b then progressed body params (token_called (named_token params) x) x else x) (if b then told_by k body (token_called (named_token params) x) else rests) (if b then told_gain body x (token_called (named_token params) x) else [])
          go true on = told body method params says later stays (ready_now n (is_progress method) (is_ready (stage_of events)) on) (token_called (named_token params) x) refl
          go false off = still later stays
      heard_server n body (result id r) says later stays = still later stays
      heard_server n body (error id r) says later stays = still later stays
      heard_server n body not_json says later stays = still later stays
      heard_server n body not_message says later stays = still later stays

      heard_editor : (n : ℕ) (m : Message) (later : Stage) → (stage_of events ≡ Ended → later ≡ Ended)
          → Stepped later (spoken n m x) (if nat_eq n e then spoken_by m else rests) (if nat_eq n e then (if requests (codes "shutdown") m then [] else handed e k m (own e k x)) else [])
      heard_editor n m later stays = go (nat_eq n e) refl (requests (codes "shutdown") m)
        where
          go : (b : Bool) → nat_eq n e ≡ b → (c : Bool)
              → Stepped later (if c then left n x else answered n m x) (if b then (if c then parts else replies (answered_id m) (accepts m)) else rests) (if b then (if c then [] else handed e k m (own e k x)) else [])
          go true at true = parting (left n x) later (ap (λ z. own e k (left z x)) (number_same n e at) ∙ own_left e k x) refl refl (λ is. ap (left n) is) stays
          go true at false = record {
            steps = reply e k x (answered n m x) ws m (own_answered e k n m x ∙ ap (λ z. flat_map (λ c. if is_answered z (answered_id m) c then settled m x c else c ∷ []) (own e k x)) (number_same n e at)) refl refl tie.state;
            rest = rest_more k x (answered n m x) ws (replies (answered_id m) (accepts m)) (stage_of events) later refl (inl refl) (λ untold h. h) (omega arith) (λ is ended. ap (answered n m) is) stays tie.rest;
          }
          go false off true = alike (left n x) later (own_still e k n x off) refl refl (λ is. ap (left n) is) stays
          go false off false = alike (answered n m x) later (own_stays e k n m x off) refl refl (λ is. ap (answered n m) is) stays

      leaving : (n : ℕ) (later : Stage) → (stage_of events ≡ Ended → later ≡ Ended) → Stepped later (left n x) (if nat_eq n e then parts else rests) []
      leaving n later stays = go (nat_eq n e) refl
        where
          go : (b : Bool) → nat_eq n e ≡ b → Stepped later (left n x) (if b then parts else rests) []
          go true at = parting (left n x) later (ap (λ z. own e k (left z x)) (number_same n e at) ∙ own_left e k x) refl refl (λ is. ap (left n) is) stays
          go false off = alike (left n x) later (own_still e k n x off) refl refl (λ is. ap (left n) is) stays

      ending_start : (n : ℕ) (later : Stage) → (stage_of events ≡ Ended → later ≡ Ended) → (nat_eq n s ≡ true → later ≡ Ended) → Stepped later (if nat_eq n s then no_created else x) (if nat_eq n s then breaks else rests) []
      ending_start n later stays ends_now = go (nat_eq n s) refl
        where
          go : (b : Bool) → nat_eq n s ≡ b → Stepped later (if b then no_created else x) (if b then breaks else rests) []
          go true at = record { steps = part e k breaks refl refl refl (λ j. refl) x no_created ws refl tie.state; rest = dead refl (ends_now at) }
          go false off = still later stays

      pick_life : (b : Bool) (l : Life) → l.stage ≡ Ended → stage_of events ≡ Ended → (if b then l else life_of s events).stage ≡ Ended
      pick_life true l h k = h
      pick_life false l h k = k

      ended_took : (cause : Cause) → stage_of events ≡ Ended → stage_of (with_cause events cause) ≡ Ended
      ended_took cause h = ap (λ (l : Life). l.stage) (life_more s events (heard cause)) ∙ by cause
        where
          by : (c : Cause) → (life_behind s (life_of s events) (heard c)).stage ≡ Ended
          by (Started n) = pick_life (nat_eq n s) (record { stage = stage_started (stage_of events); started = true }) (ap stage_started h) h
          by (StartFailed n) = pick_life (nat_eq n s) (record { stage = Ended; started = (life_of s events).started }) refl h
          by (FromServer n body) = pick_life (nat_eq n s) (record { stage = stage_hears (stage_of events) (message_of body); started = (life_of s events).started }) (ap (λ z. stage_hears z (message_of body)) h) h
          by (ServerGone n) = pick_life (nat_eq n s) (record { stage = Ended; started = (life_of s events).started }) refl h
          by (FromEditor n body) = h
          by (EditorGone n why) = h
          by (Joined n) = h
          by (Drained n j) = h
          by (Tick j) = h

      ended_now : (l : Life) (n : ℕ) → nat_eq n s ≡ true → (if nat_eq n s then record { stage = Ended; started = l.started } else l).stage ≡ Ended
      ended_now l n at = ap (λ b. (if b then record { stage = Ended; started = l.started } else l).stage) at

      pub moved_took : (cause : Cause) → Moves events (heard cause)
      moved_took (FromServer n body) = build tie (heard (FromServer n body)) (heard_server n body (message_of body) refl (stage_of (with_cause events (FromServer n body))) (ended_took (FromServer n body)))
      moved_took (FromEditor n body) = build tie (heard (FromEditor n body)) (heard_editor n (message_of body) (stage_of (with_cause events (FromEditor n body))) (ended_took (FromEditor n body)))
      moved_took (EditorGone n why) = build tie (heard (EditorGone n why)) (leaving n (stage_of (with_cause events (EditorGone n why))) (ended_took (EditorGone n why)))
      moved_took (StartFailed n) = build tie (heard (StartFailed n)) (ending_start n (stage_of (with_cause events (StartFailed n))) (ended_took (StartFailed n)) (λ at. ap (λ (l : Life). l.stage) (life_more s events (heard (StartFailed n))) ∙ ended_now (life_of s events) n at))
      moved_took (ServerGone n) = build tie (heard (ServerGone n)) (ending_start n (stage_of (with_cause events (ServerGone n))) (ended_took (ServerGone n)) (λ at. ap (λ (l : Life). l.stage) (life_more s events (heard (ServerGone n))) ∙ ended_now (life_of s events) n at))
      moved_took (Started n) = build tie (heard (Started n)) (still (stage_of (with_cause events (Started n))) (ended_took (Started n)))
      moved_took (Joined n) = build tie (heard (Joined n)) (still (stage_of (with_cause events (Joined n))) (ended_took (Joined n)))
      moved_took (Drained n j) = build tie (heard (Drained n j)) (still (stage_of (with_cause events (Drained n j))) (ended_took (Drained n j)))
      moved_took (Tick j) = build tie (heard (Tick j)) (still (stage_of (with_cause events (Tick j))) (ended_took (Tick j)))

      -- Outs

      module _ (starts : Starts events) where
        -- a start that is spawned is a new one
        abbrev pub IsNewStart : Out → Type 0
        IsNewStart (Spawn n g) = n ≡ starts_of events
        IsNewStart other = Unit {0}

        ended_did : (out : Out) → IsNewStart out → stage_of events ≡ Ended → stage_of (events ++ said out ∷ []) ≡ Ended
        ended_did out new h = ap (λ (l : Life). l.stage) (life_more s events (said out)) ∙ by out new
          where
            spawning : (n : ℕ) (l : Life) → n ≡ starts_of events → (b : Bool) → nat_eq n s ≡ b → (if b then l else life_of s events).stage ≡ Ended
            spawning n l is false off = h
            spawning n l is true at = absurd (let same : n ≡ s = number_same n s at in let none : life_of s events ≡ no_life = starts s (omega (arith, is, same)) in let clash : Unspawned ≡ Ended = sym (ap (λ (z : Life). z.stage) none) ∙ h in cc)

            by : (o : Out) → IsNewStart o → (life_behind s (life_of s events) (said o)).stage ≡ Ended
            by (Spawn n g) is = spawning n (record { stage = Spawning; started = false }) is (nat_eq n s) refl
            by (ToServer n body) is = pick_life (nat_eq n s) (record { stage = stage_told (stage_of events) (message_of body); started = (life_of s events).started }) (ap (λ z. stage_told z (message_of body)) h) h
            by (EndServer n) is = pick_life (nat_eq n s) (record { stage = stage_ending (stage_of events); started = (life_of s events).started }) (ap stage_ending h) h
            by (ToEditor n body) is = h
            by (CloseEditor n) is = h

        asking : (n : ℕ) (params : Option Json) (later : Stage) → (stage_of events ≡ Ended → later ≡ Ended) → (c : Bool) (b : Bool) → nat_eq n e ≡ b → (o : Option Token) → token_marked s params x ≡ o
            → (is_asks (if b && c then asked_by k (next_ask n events) o else rests) ≡ true → list_any is_asks ws ≡ false)
            → Stepped later (if c then with_asked n (next_ask n events) o x else x) (if b && c then asked_by k (next_ask n events) o else rests) []
        asking n params later stays false true at o marked once = still later stays
        asking n params later stays false false at o marked once = still later stays
        asking n params later stays true true at None marked once = still later stays
        asking n params later stays true false at None marked once = still later stays
        asking n params later stays true false off (Some t) marked once = alike (with_asked n (next_ask n events) (Some t) x) later
            (own_asked e k n (next_ask n events) t x ∙ (ap (λ b. own e k x ++ cond (b && nat_eq t.number k) (asked n (next_ask n events) t ∷ []) []) off ∙ append-nil (own e k x))) refl refl (λ is. absurd (unmarked params t marked is)) stays
          where
            unmarked : (params : Option Json) (t : Token) → token_marked s params x ≡ Some t → x ≡ no_created → ⊥
            unmarked params t marked is = let clash : ◌≡◌ {A = Option Token} None (Some t) = sym (ap (token_marked s params) is) ∙ marked in cc
        asking n params later stays true true at (Some t) marked once = go (is_numbered k t) refl once
          where
            unmarked : x ≡ no_created → ⊥
            unmarked is = let clash : ◌≡◌ {A = Option Token} None (Some t) = sym (ap (token_marked s params) is) ∙ marked in cc

            y : Created
            y = with_asked n (next_ask n events) (Some t) x

            own_then : (b : Bool) → is_numbered k t ≡ b → own e k y ≡ own e k x ++ cond b (asked n (next_ask n events) t ∷ []) []
            own_then b num = own_asked e k n (next_ask n events) t x ∙ ap₂ (λ a c. own e k x ++ cond (a && c) (asked n (next_ask n events) t ∷ []) []) at num

            first : is_numbered k t ≡ true → Rest k x ws (stage_of events) → held_first t.begin ≡ opening (bodies ws)
            first num (going begun untold lower) = (found_is (Begun k (bodies ws)) (is_marked s (named_of (codes "token") params)) t x.tokens begun marked) num
            first num (dead is ended) = absurd (unmarked is)

            living : is_numbered k t ≡ true → lives k x ≡ true
            living num = ap (λ j. lives j x) (sym (number_same t.number k num)) ∙ found_lives (is_marked s (named_of (codes "token") params)) t x.tokens marked

            low : is_numbered k t ≡ true → k < x.next
            low num =
                let below : t.number < x.next = (found_is (IsLive x.next) (is_marked s (named_of (codes "token") params)) t x.tokens (created_orderly settings s events).live marked).below in
                let same : t.number ≡ k = number_same t.number k num in omega (arith, below, same)

            go : (d : Bool) → is_numbered k t ≡ d → (is_asks (if d then asks (next_ask n events) else rests) ≡ true → list_any is_asks ws ≡ false) → Stepped later y (if d then asks (next_ask n events) else rests) []
            go true num once = record {
              steps = ask e k x y ws (next_ask n events) t (once refl) (own_then true num ∙ ap (λ z. own e k x ++ asked z (next_ask n events) t ∷ []) (number_same n e at)) (first num tie.rest) (low num) (living num) tie.state;
              rest = rest_more k x y ws (asks (next_ask n events)) (stage_of events) later refl (inr (low num)) (λ untold h. h) (omega arith) (λ is ended. absurd (unmarked is)) stays tie.rest;
            }
            go false num once = alike y later (own_then false num ∙ append-nil (own e k x)) refl refl (λ is. absurd (unmarked is)) stays

        told_editor : (n : ℕ) (body : List ℕ) (m : Message) (later : Stage) → (stage_of events ≡ Ended → later ≡ Ended) → (is_asks (word settings s k e events (did (ToEditor n body) m)) ≡ true → list_any is_asks ws ≡ false)
            → Stepped later (created_next settings s events x (did (ToEditor n body) m)) (word settings s k e events (did (ToEditor n body) m)) []
        told_editor n body (request id method params) later stays once = asking n params later stays (is_creating method) (nat_eq n e) refl (token_marked s params x) refl once
        told_editor n body (notification method params) later stays once = still later stays
        told_editor n body (result id r) later stays once = still later stays
        told_editor n body (error id r) later stays once = still later stays
        told_editor n body not_json later stays once = still later stays
        told_editor n body not_message later stays once = still later stays

        -- where an editor is asked once
        pub moved_did : (out : Out) → IsNewStart out → (is_asks (word settings s k e events (said out)) ≡ true → list_any is_asks (words settings s k e events) ≡ false) → Moves events (said out)
        moved_did (ToEditor n body) new once = build tie (said (ToEditor n body)) (told_editor n body (message_of body) (stage_of (events ++ said (ToEditor n body) ∷ [])) (ended_did (ToEditor n body) new) once)
        moved_did (ToServer n body) new once = build tie (said (ToServer n body)) (still (stage_of (events ++ said (ToServer n body) ∷ [])) (ended_did (ToServer n body) new))
        moved_did (Spawn n g) new once = build tie (said (Spawn n g)) (still (stage_of (events ++ said (Spawn n g) ∷ [])) (ended_did (Spawn n g) new))
        moved_did (CloseEditor n) new once = build tie (said (CloseEditor n)) (leaving n (stage_of (events ++ said (CloseEditor n) ∷ [])) (ended_did (CloseEditor n) new))
        moved_did (EndServer n) new once = build tie (said (EndServer n)) (still (stage_of (events ++ said (EndServer n) ∷ [])) (ended_did (EndServer n) new))

  -- Before anything happened
  pub tied_first : Tie []
  tied_first = record { state = fresh refl refl; rest = going tt (λ le. refl) (λ h. never (sym h)) }
