-- What editors were asked to take, by their own parts, in every legal history, as far as they run, at home in the group of the start; and so what they are told of it.
use Rattle.std.proofs.Common.{◌≡◌, ℕ, ◌^◌, ◌<◌, ◌≤◌, Bool, true, false, not, ◌&&◌, List, [], ◌∷◌, ◌++◌, bytes_eq, codes, decimal, flat_map, is_some, nat_eq, nat_le, if◌then◌else◌, Option, Some, None, ◌⊎◌, inl, inr, refl, sym, ◌∙◌, ap, ap₂, subst, arith}
use Rattle.std.specs.List.{AllByRecursion, list_any}
use Rattle.std.proofs.lemmas.Bool.{and_parts, leb-false, leb-true}
use Rattle.std.proofs.lemmas.Fmt.{decimal_injective}
use Rattle.json_text.specs.Json.{Json}
use Rattle.mux_history.specs.declared.cause.Cause.{Cause}
use Rattle.mux_history.specs.declared.cause.Cause.TheVariants.{Joined, FromEditor, EditorGone, Started, StartFailed, FromServer, ServerGone, Drained, Tick}
use Rattle.mux_history.specs.declared.out.Out.{Out}
use Rattle.mux_history.specs.declared.out.Out.TheVariants.{ToEditor, ToServer, Spawn, CloseEditor, EndServer}
use Rattle.rpc_message.specs.Message.{Id, Message, request, notification, result, error, not_json, not_message, message_of, text}
use Rattle.event_model.specs.declared.phase.Phase.{Phase}
use Rattle.event_model.specs.declared.phase.Phase.TheVariants.{Answered, Running, Down, Gone}
use Rattle.event_model.specs.Event.{Event, behind, did, heard, requests, said, same_id, took, with_cause}
use Rattle.event_model.specs.Members.{named_of}
use Rattle.event_model.specs.Phases.{Desk, desk_hears, desk_of, is_begun, is_new, is_running, makes_running, needs_server}
use Rattle.event_model.specs.Requests.{answered_id, is_open, without}
use Rattle.event_model.specs.Settings.{Settings}
use Rattle.event_model.specs.Spawns.{start_of, starts_of}
use Rattle.event_model.specs.Stages.{is_ended, life_of, is_ready}
use Rattle.event_model.proofs.Frames.{never}
use Rattle.mux_model.specs.Fits.{fits_behind}
use Rattle.mux_facts.specs.Allowed.{is_response}
use Rattle.mux_facts.specs.Ranges.{InRange}
use Rattle.mux_facts.proofs.Folds.{desk_more}
use Rattle.mux_facts.proofs.Keeps.{behind_both, behind_nothing}
use Rattle.mux_facts.proofs.Lists.{all_join, all_of, found_is}
use Rattle.mux_facts.proofs.Reasons.{Reasons, reasons_keep}
use Rattle.mux_facts.proofs.Words.{id_same, number_same, same_number, still_open}
use Rattle.session_laws.specs.Progress.{is_end, token_at}
use Rattle.group_words.specs.Houses.{home_of}
use Rattle.group_rows.specs.Asks.{next_ask}
use Rattle.group_rows.specs.Created.{Created, Taking, Token, accepts, answered, asked, created_mark, created_next, created_of, created_text, is_answered, is_called, is_creating, is_numbered, left, lives, named_token, names_progress, progressed, settled, token_called, token_marked, with_asked, no_created}
use Rattle.group_rows.specs.ExitRows.{begins_again}
use Rattle.group_rows.specs.Forwarded.{forwarding_of}
use Rattle.group_rows.specs.Rows.{outs_of}
use Rattle.group_rows.specs.Tokens.{is_told, marked_text}
use Rattle.group_facts.specs.Facts.{shuts, is_exit}
use Rattle.group_facts.specs.Settled.{IsSeated, Settled, is_answered as is_answered_phase}
use Rattle.group_facts.specs.Why.{IsNotified, IsTaken, Telling, Why, WhyToEditor, answers, asks, calls, of_held, of_request, of_token, passes, progresses, recalls, refuses, rejects, resumes, shows, spreads, turns_away, welcomes, loses, winds_up, Losing, ends, frees, empties, pays}
use Rattle.group_facts.proofs.Facts.{Facts}
use Rattle.group_facts.proofs.Known.{Here, here_did, here_took}
use Rattle.group_facts.proofs.Reached.{Reached, facts_at, settled_at}
use Rattle.group_facts.proofs.LastStarts.{AllLast}
use Rattle.group_facts.proofs.Table.{reasons}
use Rattle.group_facts.proofs.Takings.{none_outs, uncreated_heard}
use Rattle.group_sessions.proofs.Accepted.{NamesToken, accepted}
use Rattle.group_sessions.proofs.Client6Law.{created_id, list_no_progress, not_progress, own_is}
use Rattle.group_sessions.proofs.CreatedFold.{IsLive, created_orderly, is_free}
use Rattle.group_sessions.proofs.CreatedTies.{created_more, outs_tokens, spoken_tokens}
use Rattle.group_sessions.proofs.HeldFold.{Fair, IsAlive, IsFair, NameTokens, NoneEnds, called_some, created_fair, gone_behind, rest}
use Rattle.group_sessions.proofs.Marked.{Marked, ends as is_last, is_ending, marked}
use Rattle.group_sessions.proofs.Registered.{begins, is_answered as is_answered_desk}
use Rattle.group_sessions.proofs.TakingTies.{IsTied, Spares, Tied, TiedIf, aside_all, is_aside, left_all, mark_of, tied_aside, tied_heard, tied_notified, tied_request, tied_response}
use Rattle.group_sessions.proofs.TellingPlaces.{Known, KnownOut, Knows, RunsIn, all_known, last_starts}
use Rattle.group_sessions.proofs.Tied.{Place, all_back, exit_closes, has_run, next_start, not_run, place, ran, runs_on, stays, unrun}
use Rattle.group_sessions.proofs.Unreserved.{IsFreeText, IsUnreserved, Unreserved, all_unreserved}
use Rattle.group_sessions.proofs.Walk.{walk}
use Rattle.group_facts.proofs.SlowRow.{parting, parting_calm, parting_keeps}
use Rattle.group_facts.proofs.AskingRows.{running_is}
use Rattle.group_facts.proofs.PutOut.{homes_stay}
use Rattle.group_facts.proofs.Begun.{starts_stay}
use Rattle.group_rows.proofs.Cancels.{cancel_says, params_tree}
use Rattle.group_rows.proofs.ExitTexts.{empty_says, empty_tree, end_says, end_tree}
use Rattle.group_sessions.proofs.EndTexts.{end_names}

-- Editors that were asked ran

abbrev pub HasRun : List Event → ℕ → Type 0
HasRun events e = has_run (desk_of e events).phase ≡ true

abbrev pub AllRan : Settings → List Event → Type 0
AllRan settings events = (s : ℕ) → AllByRecursion (λ (c : Taking). HasRun events c.editor) (created_of settings s events).takings

-- a fact of the editor of each
module _ (Q : ℕ → Type 0) where
  abbrev pub Of : Taking → Type 0
  Of c = Q c.editor

  answered_of : (e : ℕ) (m : Message) (x : Created) (cs : List Taking) → AllByRecursion Of cs → AllByRecursion Of (flat_map (λ c. if is_answered e (answered_id m) c then settled m x c else c ∷ []) cs)
  answered_of e m x [] h = tt
  answered_of e m x (c ∷ cs) h = all_join Of (if is_answered e (answered_id m) c then settled m x c else c ∷ []) (flat_map (λ c. if is_answered e (answered_id m) c then settled m x c else c ∷ []) cs) (go (is_answered e (answered_id m) c) (accepts m && lives c.token x)) (answered_of e m x cs h.1)
    where
      go : (a b : Bool) → AllByRecursion Of (if a then (if b then record c { accepted = true; held = [] } ∷ [] else []) else c ∷ [])
      go true true = (h.0, tt)
      go true false = tt
      go false b = (h.0, tt)

  changed_of : (c : Taking) (held : List (List ℕ)) (begun : Bool) → Of c → Of (record c { held = held; begun = begun })
  changed_of c held begun h = h

  heard_of : (settings : Settings) (s : ℕ) (before : List Event) (x : Created) (cause : Cause) → AllByRecursion Of x.takings → AllByRecursion Of (created_next settings s before x (heard cause)).takings
  heard_of settings s before x (FromEditor e body) h = go (requests (codes "shutdown") (message_of body))
    where
      go : (b : Bool) → AllByRecursion Of (if b then left e x else answered e (message_of body) x).takings
      go true = left_all Of changed_of e x h
      go false = answered_of e (message_of body) x x.takings h
  heard_of settings s before x (Joined e) h = aside_all Of changed_of settings s before x (heard (Joined e)) refl h
  heard_of settings s before x (EditorGone e why) h = aside_all Of changed_of settings s before x (heard (EditorGone e why)) refl h
  heard_of settings s before x (Started n) h = aside_all Of changed_of settings s before x (heard (Started n)) refl h
  heard_of settings s before x (StartFailed n) h = aside_all Of changed_of settings s before x (heard (StartFailed n)) refl h
  heard_of settings s before x (FromServer n body) h = aside_all Of changed_of settings s before x (heard (FromServer n body)) refl h
  heard_of settings s before x (ServerGone n) h = aside_all Of changed_of settings s before x (heard (ServerGone n)) refl h
  heard_of settings s before x (Drained e k) h = aside_all Of changed_of settings s before x (heard (Drained e k)) refl h
  heard_of settings s before x (Tick t) h = aside_all Of changed_of settings s before x (heard (Tick t)) refl h

  -- a body to an editor asks that one at most
  told_of : (settings : Settings) (s : ℕ) (events : List Event) (x : Created) (n : ℕ) (body : List ℕ) (m : Message) → ((id : Id) (method : List ℕ) (params : Option Json) → m ≡ request id method params → Q n) → AllByRecursion Of x.takings
      → AllByRecursion Of (created_next settings s events x (did (ToEditor n body) m)).takings
  told_of settings s events x n body (request id method params) own h = go (is_creating method) (token_marked s params x)
    where
      go : (b : Bool) (o : Option Token) → AllByRecursion Of (if b then with_asked n (next_ask n events) o x else x).takings
      go true (Some t) = all_join Of x.takings (asked n (next_ask n events) t ∷ []) h (own id method params refl, tt)
      go true None = h
      go false o = h
  told_of settings s events x n body (notification method params) own h = h
  told_of settings s events x n body (result id r) own h = h
  told_of settings s events x n body (error id r) own h = h
  told_of settings s events x n body not_json own h = h
  told_of settings s events x n body not_message own h = h

run_later : (a b : Bool) → (not b ≡ true → not a ≡ true) → a ≡ true → b ≡ true
run_later a true f h = refl
run_later a false f h = never (sym (sym (ap not h) ∙ f refl))

-- Marks

drop_same : (xs ys zs : List ℕ) → xs ++ ys ≡ xs ++ zs → ys ≡ zs
drop_same [] ys zs h = h
drop_same (x ∷ xs) ys zs h = drop_same xs ys zs (let same : xs ++ ys ≡ xs ++ zs = cc in same)

text_same : (a b : List ℕ) → text a ≡ text b → a ≡ b
text_same a b e = cc

pub same_mark : (s k j : ℕ) → k < 2 ^ 64 → j < 2 ^ 64 → same_id (text (created_mark s k)) (text (created_mark s j)) ≡ true → k ≡ j
same_mark s k j low high h = decimal_injective k j low high
    (drop_same (codes "lspmux:" ++ decimal s ++ codes ":") (decimal k) (decimal j) (text_same (created_mark s k) (created_mark s j) (id_same (text (created_mark s k)) (text (created_mark s j)) h)))

-- an editor's own token is no mark
free_apart : (id : Id) → is_free id ≡ true → (s k : ℕ) → same_id id (text (created_mark s k)) ≡ false
free_apart id free s k = go (same_id id (text (created_mark s k))) refl
  where
    go : (b : Bool) → same_id id (text (created_mark s k)) ≡ b → b ≡ false
    go true e = never (sym (sym (ap is_free (id_same id (text (created_mark s k)) e)) ∙ free))
    go false e = refl

pub all_at : {A : Type 0} (P : A → Type 0) (xs : List A) (y : A) (ys : List A) → AllByRecursion P (xs ++ y ∷ ys) → AllByRecursion P xs × P y
all_at P [] y ys h = (tt, h.0)
all_at P (x ∷ xs) y ys h = let k = all_at P xs y ys h.1 in ((h.0, k.0), k.1)

called_live : (n : ℕ) (o : Option Id) (x : Created) (t : Token) → AllByRecursion (IsLive n) x.tokens → token_called o x ≡ Some t → IsLive n t
called_live n (Some id) x t h called = found_is (IsLive n) (is_called id) t x.tokens h called
called_live n None x t h called = absurd (cc)

not_both : (p : Phase) → is_answered_desk p ≡ true → has_run p ≡ true → ⊥
not_both Answered h k = never (sym k)
not_both _ h k = never (sym h)

answered_is : (p : Phase) → is_answered_desk p ≡ true → p ≡ Answered
answered_is Answered h = refl
answered_is _ h = never (sym h)

abbrev is_request : Message → Bool
is_request (request id method params) = true
is_request other = false

-- an editor that was asked ran
asked_ran : (settings : Settings) (before : List Event) (cause : Cause) (events : List Event) (n : ℕ) (body : List ℕ) → WhyToEditor settings before cause events n body → is_request (message_of body) ≡ true → HasRun events n
asked_ran settings before cause events n body (rejects k) is = never (sym is ∙ ap is_request k.says)
asked_ran settings before cause events n body (refuses k) is = never (sym is ∙ ap is_request k.says)
asked_ran settings before cause events n body (loses k) is = never (sym is ∙ ap is_request k.says)
asked_ran settings before cause events n body (answers k) is = never (sym is ∙ ap is_request k.says)
asked_ran settings before cause events n body (turns_away k) is = never (sym is ∙ ap is_request k.says)
asked_ran settings before cause events n body (welcomes k) is = never (sym is ∙ ap is_request k.says)
asked_ran settings before cause events n body (passes k) is = no_request (message_of body) k.response is
  where
    no_request : (m : Message) → is_response m ≡ true → is_request m ≡ true → HasRun events n
    no_request (request id method params) h e = never (sym h)
    no_request _ h e = never (sym e)
asked_ran settings before cause events n body (asks k) is = ap has_run (k.source).running
asked_ran settings before cause events n body (resumes k) is = ap has_run k.running
asked_ran settings before cause events n body (pays k) is = ap has_run k.running
asked_ran settings before cause events n body (calls k) is = ap has_run k.running
asked_ran settings before cause events n body (spreads k) is = never (sym is ∙ ap is_request k.says)
asked_ran settings before cause events n body (recalls k) is = never (sym is ∙ ap is_request k.says)
asked_ran settings before cause events n body (progresses k) is = never (sym is ∙ ap is_request k.says)
asked_ran settings before cause events n body (shows k) is = never (sym is ∙ ap is_request k.says)
asked_ran settings before cause events n body (winds_up k) is = never (sym is ∙ ap is_request k.says)

took_tied : (At : ℕ → ℕ → Type 0) (settings : Settings) (before : List Event) (cause : Cause) → Tied At settings before → Tied At settings (with_cause before cause)
took_tied At settings before (FromEditor e body) h = tied_heard At settings before e body h
took_tied At settings before (Joined e) h = tied_aside At settings before (heard (Joined e)) refl h
took_tied At settings before (EditorGone e why) h = tied_aside At settings before (heard (EditorGone e why)) refl h
took_tied At settings before (Started n) h = tied_aside At settings before (heard (Started n)) refl h
took_tied At settings before (StartFailed n) h = tied_aside At settings before (heard (StartFailed n)) refl h
took_tied At settings before (FromServer n body) h = tied_aside At settings before (heard (FromServer n body)) refl h
took_tied At settings before (ServerGone n) h = tied_aside At settings before (heard (ServerGone n)) refl h
took_tied At settings before (Drained e k) h = tied_aside At settings before (heard (Drained e k)) refl h
took_tied At settings before (Tick t) h = tied_aside At settings before (heard (Tick t)) refl h

-- between entries
pub record Rests (settings : Settings) (events : List Event) : Type 0 where
  pub tied : Tied (RunsIn settings events) settings events
  pub ran : AllRan settings events

abbrev desk : Phase → List ℕ → Desk
desk p i = record { phase = p; initialize = i }

-- One entry

module _ (settings : Settings) (range : InRange settings) (before : List Event) (facts : Facts settings before) (settled : Settled settings before) (free : Unreserved settings before) (lasts : AllLast before) (cause : Cause) (fits : fits_behind before cause ≡ true) where
  abbrev now : List Event
  now = with_cause before cause

  abbrev later : List Event
  later = behind now (outs_of settings before cause)

  -- it ran before, or begins to run, at home in the group whose last start is s
  record Stands (s e : ℕ) : Type 0 where
    was : ((desk_of e before).phase ≡ Running) ⊎ (begins before cause e ≡ true)
    group : ℕ
    home : home_of settings e before ≡ Some group
    last : start_of group before ≡ Some s

  record At (events : List Event) : Type 0 where
    here : Here settings before cause events
    outs : List Out
    place : events ≡ behind now outs
    tied : Tied Stands settings events
    ran : AllRan settings events

  one_home : (s t n : ℕ) → Stands s n → RunsIn settings before t n → s ≡ t
  one_home s t n a b =
      let both : Some a.group ≡ Some b.group = sym a.home ∙ b.home in
      let group : a.group ≡ b.group = cc in
      let starts : Some s ≡ Some t = sym a.last ∙ ap (λ g. start_of g before) group ∙ b.last in
      let is : s ≡ t = cc in
      is

  tokens_at : (events : List Event) → At events → (s : ℕ) → (created_of settings s events).tokens ≡ (created_of settings s now).tokens
  tokens_at events i s = ap (λ z. (created_of settings s z).tokens) i.place ∙ outs_tokens settings s now i.outs

  -- an editor hears the end of token k of start t
  record Ended (events : List Event) (n t k : ℕ) : Type 0 where
    at : RunsIn settings before t n
    small : k < 2 ^ 64
    gone : list_any (is_numbered k) (created_of settings t events).tokens ≡ false

  -- a token that it accepted and that lives is another one
  ended_apart : (events : List Event) (n t k : ℕ) → Ended events n t k → (s : ℕ) (c : Taking) → Stands s c.editor → c.accepted ≡ true → nat_eq n c.editor ≡ true → IsFair (created_of settings s events).tokens c → c.token < 2 ^ 64
      → same_id (text (created_mark t k)) (mark_of s c) ≡ false
  ended_apart events n t k o s c stands on own fair small = go (same_id (text (created_mark t k)) (mark_of s c)) refl
    where
      start : s ≡ t
      start = one_home s t n (subst (Stands s) (sym (number_same n c.editor own)) stands) o.at

      go : (b : Bool) → same_id (text (created_mark t k)) (mark_of s c) ≡ b → b ≡ false
      go true e =
          let same : k ≡ c.token = same_mark t k c.token o.small small (ap (λ z. same_id (text (created_mark t k)) (text (created_mark z c.token))) (sym start) ∙ e) in
          never (sym (subst (λ z. IsAlive (created_of settings z events).tokens k) start (subst (IsAlive (created_of settings s events).tokens) (sym same) (fair.alive on))) ∙ o.gone)
      go false e = refl

  module _ (events : List Event) (i : At events) (n : ℕ) (body : List ℕ) where
    abbrev sent : List Event
    sent = events ++ said (ToEditor n body) ∷ []

    -- what it ends is none of these
    abbrev Apart : Option Json → Id → Type 0
    Apart params token = is_end params ≡ true → (s : ℕ) (c : Taking) → Stands s c.editor → c.accepted ≡ true → nat_eq n c.editor ≡ true → IsFair (created_of settings s events).tokens c → c.token < 2 ^ 64 → same_id token (mark_of s c) ≡ false

    spares_all : (method : List ℕ) (params : Option Json) (token : Id) → token_at (codes "token") params ≡ Some token → Apart params token → (s : ℕ) → AllByRecursion (Spares Stands settings events n body (notification method params) s) (created_of settings s events).takings
    spares_all method params token names apart s = all (created_of settings s events).takings fair.takings (created_orderly settings s events).takings
      where
        fair : Fair (created_of settings s events)
        fair = created_fair settings s events ((i.here).base).meant

        one : (c : Taking) → IsFair (created_of settings s events).tokens c → c.token < 2 ^ 64 → Spares Stands settings events n body (notification method params) s c
        one c f small stands on own kept = go (bytes_eq method (codes "$/progress") && is_end params) refl
          where
            go : (b : Bool) → (bytes_eq method (codes "$/progress") && is_end params) ≡ b
                → is_open (mark_of s c) (if b then record { asked = (accepted c.editor events).asked; created = without (token_at (codes "token") params) (accepted c.editor events).created } else accepted c.editor events).created ≡ true
            go true both = subst (λ o. is_open (mark_of s c) (without o (accepted c.editor events).created) ≡ true) (sym names)
                (still_open token (mark_of s c) (accepted c.editor events).created kept (apart (and_parts (bytes_eq method (codes "$/progress")) (is_end params) both).1 s c stands on own f small))
            go false both = kept

        all : (cs : List Taking) → AllByRecursion (IsFair (created_of settings s events).tokens) cs → AllByRecursion (λ (c : Taking). c.token < (created_of settings s events).next) cs → AllByRecursion (Spares Stands settings events n body (notification method params) s) cs
        all [] f l = tt
        all (c ∷ cs) f l = (one c f.0 (let low : c.token < (created_of settings s events).next = l.0 in let top : (created_of settings s events).next ≤ 2 ^ 64 = fair.small in omega (arith, low, top)), all cs f.1 l.1)

    notified_tied : (token : Id) (bytes asked method : List ℕ) → (m : Marked token bytes asked method) → body ≡ marked_text bytes asked → Apart m.params token → Tied Stands settings sent
    notified_tied token bytes asked method m is apart = tied_notified Stands settings events n body method m.params (ap message_of is ∙ m.says) (spares_all method m.params token m.names apart) i.tied

    -- a start that ended has none
    exit_tokens : (s : ℕ) (c : Cause) → is_exit c s ≡ true → (created_of settings s (with_cause before c)).tokens ≡ []
    exit_tokens s (StartFailed m) is = ap (λ (y : Created). y.tokens) (created_more settings s before (heard (StartFailed m))) ∙ ap (λ b. (if b then no_created else created_of settings s before).tokens) is
    exit_tokens s (ServerGone m) is = ap (λ (y : Created). y.tokens) (created_more settings s before (heard (ServerGone m))) ∙ ap (λ b. (if b then no_created else created_of settings s before).tokens) is
    exit_tokens s (Joined e) is = never (sym is)
    exit_tokens s (FromEditor e asked) is = never (sym is)
    exit_tokens s (EditorGone e why) is = never (sym is)
    exit_tokens s (Started m) is = never (sym is)
    exit_tokens s (FromServer m asked) is = never (sym is)
    exit_tokens s (Drained e j) is = never (sym is)
    exit_tokens s (Tick z) is = never (sym is)

    token_now : (s : ℕ) (asked : List ℕ) (given : Option Json) (token : Token) → IsNotified before cause s asked given → token_called (named_token given) (created_of settings s before) ≡ Some token
        → (created_of settings s now).tokens ≡ rest token.number asked given (created_of settings s before).tokens
    token_now s asked given token k called =
        ap (λ c. (created_of settings s (with_cause before c)).tokens) k.from
        ∙ ap (λ (y : Created). y.tokens) (created_more settings s before (heard (FromServer s asked)) ∙ ap (λ m. created_next settings s before x (took (FromServer s asked) m)) k.asks)
        ∙ ap₂ (λ b c. (if b && (c && is_ready (life_of s before).stage) then progressed asked given (token_called (named_token given) x) x else x).tokens) (same_number s) (ap names_progress k.class)
        ∙ ap₂ (λ b o. (if b then progressed asked given o x else x).tokens) (ap is_ready k.ready) called
      where
        x : Created
        x = created_of settings s before

    held_now : (s : ℕ) (taking : Taking) → IsTaken settings before cause n s taking → (created_of settings s now).tokens ≡ (created_of settings s before).tokens
    held_now s taking k = ap (λ c. (created_of settings s (with_cause before c)).tokens) k.from ∙ ap (λ (y : Created). y.tokens) (created_more settings s before (heard (FromEditor n k.answer)))
        ∙ spoken_tokens settings s before (created_of settings s before) n k.answer (message_of k.answer)

    fair_before : (s : ℕ) → Fair (created_of settings s before)
    fair_before s = created_fair settings s before (facts.base).meant

    told_tied : (told : Telling settings before cause events n body) → Knows settings before cause events n body told → Tied Stands settings sent
    told_tied (of_request s asked given f token k found own editor bytes) known =
        let own_one : (is_some (named_of (codes "token") given) ≡ true) × ((f.work ≡ Some token) ⊎ (f.partial ≡ Some token)) = own_is (named_of (codes "token") given) f token own in
        let t : IsFreeText token = chosen own_one.1 in
        notified_tied t.id token asked k.method (marked t.id token asked k.method given t.text k.asks own_one.0) bytes (λ end s c stands on own fair small. free_apart t.id t.free s c.token)
      where
        chosen : (f.work ≡ Some token) ⊎ (f.partial ≡ Some token) → IsFreeText token
        chosen (inl h) = (found_is IsUnreserved (is_told before (named_of (codes "token") given)) f (forwarding_of settings s before).open_requests (free s) found).work token h
        chosen (inr h) = (found_is IsUnreserved (is_told before (named_of (codes "token") given)) f (forwarding_of settings s before).open_requests (free s) found).partial token h
    told_tied (of_token s asked given token k called takes bytes) known = notified_tied (text (created_mark s token.number)) (created_text s token.number) asked k.method m bytes
        (λ end t c stands on own fair low. ended_apart events n s token.number (record { at = known.0; small = small; gone = gone end }) t c stands on own fair low)
      where
        x : Created
        x = created_of settings s before

        m : Marked (text (created_mark s token.number)) (created_text s token.number) asked k.method
        m = marked (text (created_mark s token.number)) (created_text s token.number) asked k.method given (created_id s token.number) k.asks (called_some (named_of (codes "token") given) x token called)

        small : token.number < 2 ^ 64
        small = let low : token.number < x.next = (called_live x.next (named_token given) x token (created_orderly settings s before).live called).below in let top : x.next ≤ 2 ^ 64 = (fair_before s).small in omega (arith, low, top)

        gone : is_end m.params ≡ true → list_any (is_numbered token.number) (created_of settings s events).tokens ≡ false
        gone end = ap (list_any (is_numbered token.number)) (tokens_at events i s ∙ token_now s asked given token k called) ∙ gone_behind token.number asked given (sym (ap is_ending k.asks) ∙ (sym m.ending ∙ end)) x.tokens
    told_tied (of_held s c earlier held later taken order place bytes) known = notified_tied (text (created_mark s c.token)) (created_text s c.token) held names.method m bytes
        (λ end t d stands on own fair low. ended_apart events n s c.token (record { at = known; small = small; gone = gone end }) t d stands on own fair low)
      where
        x : Created
        x = created_of settings s before

        fair_one : IsFair x.tokens c
        fair_one = found_is (IsFair x.tokens) (is_answered n (answered_id (message_of taken.answer))) c x.takings (fair_before s).takings taken.found

        names : NamesToken held
        names = (all_at NamesToken earlier held later (subst NameTokens order fair_one.held)).1

        m : Marked (text (created_mark s c.token)) (created_text s c.token) held names.method
        m = marked (text (created_mark s c.token)) (created_text s c.token) held names.method names.params (created_id s c.token) names.says names.names

        small : c.token < 2 ^ 64
        small = let low : c.token < x.next = found_is (λ (d : Taking). d.token < x.next) (is_answered n (answered_id (message_of taken.answer))) c x.takings (created_orderly settings s before).takings taken.found in
            let top : x.next ≤ 2 ^ 64 = (fair_before s).small in omega (arith, low, top)

        dead : is_end m.params ≡ true → (b : Bool) → list_any (is_numbered c.token) x.tokens ≡ b → b ≡ false
        dead end true alive = never (sym (sym m.ending ∙ end) ∙ (all_at (λ z. is_last z ≡ false) earlier held later (subst NoneEnds order (fair_one.going alive))).1)
        dead end false none = refl

        gone : is_end m.params ≡ true → list_any (is_numbered c.token) (created_of settings s events).tokens ≡ false
        gone end = ap (list_any (is_numbered c.token)) (tokens_at events i s ∙ held_now s c taken) ∙ dead end (list_any (is_numbered c.token) x.tokens) refl

    untold : (method : List ℕ) (params : Option Json) → bytes_eq method (codes "$/progress") ≡ false → (s : ℕ) (cs : List Taking) → AllByRecursion (Spares Stands settings events n body (notification method params) s) cs
    untold method params other s [] = tt
    untold method params other s (c ∷ cs) = (
      λ stands on own kept. ap (λ b. is_open (mark_of s c) (if b && is_end params then record { asked = (accepted c.editor events).asked; created = without (token_at (codes "token") params) (accepted c.editor events).created } else accepted c.editor events).created) other ∙ kept,
      untold method params other s cs,
    )

    tied_now : WhyToEditor settings before cause events n body → KnownOut settings before cause events (ToEditor n body) → Tied Stands settings sent
    tied_now (rejects k) known = tied_response Stands settings events n body (ap is_response k.says) i.tied
    tied_now (refuses k) known = tied_response Stands settings events n body (ap is_response k.says) i.tied
    tied_now (loses k) known = tied_response Stands settings events n body (ap is_response k.says) i.tied
    tied_now (answers k) known = tied_response Stands settings events n body (ap is_response k.says) i.tied
    tied_now (turns_away k) known = tied_response Stands settings events n body (ap is_response k.says) i.tied
    tied_now (welcomes k) known = tied_response Stands settings events n body (ap is_response k.says) i.tied
    tied_now (passes k) known = tied_response Stands settings events n body k.response i.tied
    tied_now (asks k) known = tied_request Stands settings events n body k.method k.params k.says i.tied
    tied_now (resumes k) known = tied_request Stands settings events n body k.method k.params k.says i.tied
    tied_now (pays k) known = tied_request Stands settings events n body (k.debt).method k.params k.says i.tied
    tied_now (calls k) known = tied_request Stands settings events n body k.method k.params k.says i.tied
    tied_now (spreads k) known = tied_notified Stands settings events n body k.method k.params k.says (λ s. untold k.method k.params (not_progress k.method k.class) s (created_of settings s events).takings) i.tied
    tied_now (recalls k) known = tied_notified Stands settings events n body (codes "$/cancelRequest") (Some k.params) k.says (λ s. untold (codes "$/cancelRequest") (Some k.params) refl s (created_of settings s events).takings) i.tied
    tied_now (progresses k) known = let told : Known settings before cause events n body = known k.told in told_tied told.told told.knows
    tied_now (winds_up k) known = wound k.told
      where
        over : (token : Token) (front back : List Token) → (created_of settings k.start before).tokens ≡ front ++ token ∷ back → Ended events n k.start token.number
        over token front back order = record {
          at = record { running = (k.lost).ran; group = (k.lost).group; home = (k.lost).home; last = lasts k.start (k.lost).group (k.lost).kept (ap is_ended (k.lost).ready) };
          small = let low : token.number < x.next = ((all_at (IsLive x.next) front token back (subst (AllByRecursion (IsLive x.next)) order (created_orderly settings k.start before).live)).1).below in let top : x.next ≤ 2 ^ 64 = (fair_before k.start).small in omega (arith, low, top);
          gone = ap (list_any (is_numbered token.number)) (tokens_at events i k.start ∙ exit_tokens k.start cause (k.lost).from);
        }
          where
            x : Created
            x = created_of settings k.start before

        wound : Losing settings before events n k.start body → Tied Stands settings sent
        wound (ends token front back order begun is) = tied_notified Stands settings events n body (codes "$/progress") (Some (end_tree k.start token.number)) (ap message_of is ∙ end_says k.start token.number)
            (spares_all (codes "$/progress") (Some (end_tree k.start token.number)) (text (created_mark k.start token.number)) (end_names k.start token.number) (λ end t c stands on own fair low. ended_apart events n k.start token.number (over token front back order) t c stands on own fair low)) i.tied
        wound (frees number unanswered small waits is) = tied_notified Stands settings events n body (codes "$/cancelRequest") (Some (params_tree number)) (ap message_of is ∙ cancel_says number small) (λ s. untold (codes "$/cancelRequest") (Some (params_tree number)) refl s (created_of settings s events).takings) i.tied
        wound (empties list front back order full spelt is) = tied_notified Stands settings events n body (codes "textDocument/publishDiagnostics") (Some (empty_tree list.uri)) (ap message_of is ∙ empty_says list.uri spelt) (λ s. untold (codes "textDocument/publishDiagnostics") (Some (empty_tree list.uri)) refl s (created_of settings s events).takings) i.tied
    tied_now (shows k) known = tied_notified Stands settings events n body k.method k.params k.says (λ s. untold k.method k.params (list_no_progress k.method k.class) s (created_of settings s events).takings) i.tied

  has_later : (events : List Event) (out : Out) (e : ℕ) → HasRun events e → HasRun (events ++ said out ∷ []) e
  has_later events out e h = run_later (has_run (desk_of e events).phase) (has_run (desk_of e (events ++ said out ∷ [])).phase) (all_back (λ p. not (has_run p)) not_run e events (out ∷ [])) h

  has_now : (e : ℕ) → HasRun before e → HasRun now e
  has_now e h = run_later (has_run (desk_of e before).phase) (has_run (desk_of e now).phase) (unrun settings range before facts settled cause fits e) h

  ran_later : (events : List Event) (out : Out) → At events → (s : ℕ) → AllByRecursion (λ (c : Taking). HasRun (events ++ said out ∷ []) c.editor) (created_of settings s events).takings
  ran_later events out i s = all_of (λ (c : Taking). HasRun events c.editor) (λ (c : Taking). HasRun (events ++ said out ∷ []) c.editor) (λ c h. has_later events out c.editor h) (created_of settings s events).takings (i.ran s)

  ran_by : (events : List Event) (out : Out) → ((s : ℕ) → AllByRecursion (λ (c : Taking). HasRun (events ++ said out ∷ []) c.editor) (created_next settings s events (created_of settings s events) (said out)).takings) → AllRan settings (events ++ said out ∷ [])
  ran_by events out h s = subst (λ (x : Created). AllByRecursion (λ (c : Taking). HasRun (events ++ said out ∷ []) c.editor) x.takings) (sym (created_more settings s events (said out))) (h s)

  more : (events : List Event) (out : Out) → Why settings before cause events out → At events → Tied Stands settings (events ++ said out ∷ []) → AllRan settings (events ++ said out ∷ []) → At (events ++ said out ∷ [])
  more events out why i tied ran_so = record {
    here = here_did settings range before cause facts events out why i.here;
    outs = i.outs ++ out ∷ [];
    place = ap (λ z. z ++ said out ∷ []) i.place ∙ sym (behind_both now i.outs (out ∷ []));
    tied = tied;
    ran = ran_so;
  }

  abbrev Both : List Event → Out → Type 0
  Both events out = Why settings before cause events out × KnownOut settings before cause events out

  beside : (events : List Event) (out : Out) → Why settings before cause events out → is_aside (said out) ≡ true → At events → At (events ++ said out ∷ [])
  beside events out why off i = more events out why i (tied_aside Stands settings events (said out) off i.tied)
      (ran_by events out (λ s. aside_all (λ (c : Taking). HasRun (events ++ said out ∷ []) c.editor) (λ c held begun h. h) settings s events (created_of settings s events) (said out) off (ran_later events out i s)))

  step : (events : List Event) (out : Out) → Both events out → At events → At (events ++ said out ∷ [])
  step events (ToEditor n body) why i = more events (ToEditor n body) why.0 i (tied_now events i n body why.0 why.1)
      (ran_by events (ToEditor n body) (λ s. told_of (HasRun (events ++ said (ToEditor n body) ∷ [])) settings s events (created_of settings s events) n body (message_of body)
      (λ id method params is. has_later events (ToEditor n body) n (asked_ran settings before cause events n body why.0 (ap is_request is))) (ran_later events (ToEditor n body) i s)))
  step events (ToServer n body) why i = beside events (ToServer n body) why.0 refl i
  step events (Spawn n g) why i = beside events (Spawn n g) why.0 refl i
  step events (CloseEditor e) why i = beside events (CloseEditor e) why.0 refl i
  step events (EndServer n) why i = beside events (EndServer n) why.0 refl i

  both : (events : List Event) (outs : List Out) → Reasons (Why settings before cause) events outs → Reasons (KnownOut settings before cause) events outs → Reasons Both events outs
  both events [] r h = tt
  both events (out ∷ outs) r h = ((r.0, h.0), both (events ++ said out ∷ []) outs r.1 h.1)

  -- what is known before it
  stands_tied : Rests settings before → Tied Stands settings before
  stands_tied h s = all (created_of settings s before).takings (h.tied s) (h.ran s)
    where
      one : (c : Taking) → TiedIf (RunsIn settings before) s before c → HasRun before c.editor → TiedIf Stands s before c
      one c tied run stands = go stands.was
        where
          go : ((desk_of c.editor before).phase ≡ Running) ⊎ (begins before cause c.editor ≡ true) → IsTied s before c
          go (inl running) = tied (record { running = running; group = stands.group; home = stands.home; last = stands.last })
          go (inr begun) = absurd (not_both (desk_of c.editor before).phase (and_parts (is_answered_desk (desk_of c.editor before).phase) (is_running (desk_of c.editor now).phase) begun).0 run)

      all : (cs : List Taking) → AllByRecursion (TiedIf (RunsIn settings before) s before) cs → AllByRecursion (λ (c : Taking). HasRun before c.editor) cs → AllByRecursion (TiedIf Stands s before) cs
      all [] t r = tt
      all (c ∷ cs) t r = (one c t.0 r.0, all cs t.1 r.1)

  ran_now : AllRan settings before → AllRan settings now
  ran_now h s = subst (λ (x : Created). AllByRecursion (λ (c : Taking). HasRun now c.editor) x.takings) (sym (created_more settings s before (heard cause)))
      (heard_of (HasRun now) settings s before (created_of settings s before) cause (all_of (λ (c : Taking). HasRun before c.editor) (λ (c : Taking). HasRun now c.editor) (λ c k. has_now c.editor k) (created_of settings s before).takings (h s)))

  first : Rests settings before → At now
  first h = record {
    here = here_took settings range before cause fits facts;
    outs = [];
    place = sym (behind_nothing now);
    tied = took_tied Stands settings before cause (stands_tied h);
    ran = ran_now h.ran;
  }

  -- and behind it
  unshut : (e : ℕ) → (desk_of e before).phase ≡ Answered → is_running (desk_of e now).phase ≡ true → shuts cause e ≡ false
  unshut e was h = by_cause cause refl
    where
      by_cause : (c : Cause) → cause ≡ c → shuts c e ≡ false
      by_cause (FromEditor n body) is = go (nat_eq n e) (requests (codes "shutdown") (message_of body)) (makes_running (message_of body))
          (sym (ap (λ p. is_running (if nat_eq n e then desk_hears p (desk_of e before).initialize body (message_of body) else desk p (desk_of e before).initialize).phase) was)
          ∙ ap (λ (d : Desk). is_running d.phase) (sym (desk_more e before (heard (FromEditor n body)))) ∙ ap (λ k. is_running (desk_of e (with_cause before k)).phase) (sym is) ∙ h)
        where
          go : (b c d : Bool) → is_running (if b then desk (if c then Down else if d then Running else Answered) (desk_of e before).initialize else desk Answered (desk_of e before).initialize).phase ≡ true → (b && c) ≡ false
          go true true d k = never (sym k)
          go true false d k = refl
          go false c d k = refl
      by_cause (EditorGone n why) is = go (nat_eq n e) (sym (ap (λ (d : Desk). is_running d.phase) (desk_more e before (heard (EditorGone n why)))) ∙ ap (λ k. is_running (desk_of e (with_cause before k)).phase) (sym is) ∙ h)
        where
          go : (b : Bool) → is_running (if b then record { phase = Gone; initialize = (desk_of e before).initialize } else desk_of e before).phase ≡ true → b ≡ false
          go true k = never (sym k)
          go false k = refl
      by_cause (Joined n) is = refl
      by_cause (Started n) is = refl
      by_cause (StartFailed n) is = refl
      by_cause (FromServer n body) is = refl
      by_cause (ServerGone n) is = refl
      by_cause (Drained n k) is = refl
      by_cause (Tick t) is = refl

  -- of a start that was there before
  stood : (s e : ℕ) → s < starts_of before → RunsIn settings later s e → Stands s e
  stood s e old_start h = go (ran settings range before facts settled cause fits e here)
    where
      here : is_running (desk_of e now).phase ≡ true
      here = all_back is_running runs_on e now (outs_of settings before cause) (ap is_running h.running)

      at : needs_server (desk_of e before).phase ≡ true → is_answered_phase (desk_of e before).phase ≡ true → is_new (desk_of e before).phase ≡ false → shuts cause e ≡ false → ((desk_of e before).phase ≡ Running) ⊎ (begins before cause e ≡ true) → Stands s e
      at needs served old shut was = let k : Place settings range before facts settled cause fits e h.group s = place settings range before facts settled cause fits lasts e h.group s needs old shut (λ k. goes_on k (is_exit cause k.start) refl) h.home h.last in record { was = was; group = h.group; home = k.home; last = k.start }
        where
          goes_on : (k : IsSeated settings before e) → (b : Bool) → is_exit cause k.start ≡ b → b ≡ false
          goes_on k false off = refl
          goes_on k true is = by_again (begins_again settings before k.start) refl
            where
              by_again : (b : Bool) → begins_again settings before k.start ≡ b → true ≡ false
              by_again true again = absurd (let next : s ≡ starts_of before = next_start settings range before facts settled cause fits e h.group s k is again h.home h.last in omega (arith, next, old_start))
              by_again false last = sym (ap is_begun h.running) ∙ exit_closes settings range before facts settled cause fits e k served is (ap not last)

      go : ((desk_of e before).phase ≡ Running) ⊎ (begins before cause e ≡ true) → Stands s e
      go (inl was) = at (ap needs_server was) (ap is_answered_phase was) (ap is_new was) (stays settings range before facts settled cause fits e was here) (inl was)
      go (inr begun) = let was : (desk_of e before).phase ≡ Answered = answered_is (desk_of e before).phase (and_parts (is_answered_desk (desk_of e before).phase) (is_running (desk_of e now).phase) begun).0 in
          at (ap needs_server was) (ap is_answered_phase was) (ap is_new was) (unshut e was here) (inr begun)

  entry_rests : Rests settings before → Rests settings later
  entry_rests h = record { tied = λ s. tied_start s (nat_le (starts_of before) s) refl; ran = last.ran }
    where
      last : At later
      last = reasons_keep Both At step now (outs_of settings before cause) (both now (outs_of settings before cause) (reasons settings range before facts cause).why (all_known settings before lasts cause)) (first h)

      tied_start : (s : ℕ) (b : Bool) → nat_le (starts_of before) s ≡ b → AllByRecursion (TiedIf (RunsIn settings later) s later) (created_of settings s later).takings
      tied_start s true past = subst (λ (x : Created). AllByRecursion (TiedIf (RunsIn settings later) s later) x.takings)
          (sym (none_outs settings s now (outs_of settings before cause) (uncreated_heard settings before (facts.steady).starts cause settled.uncreated s (leb-true (starts_of before) s past)))) tt
      tied_start s false below = all_of (TiedIf Stands s later) (TiedIf (RunsIn settings later) s later) (λ c tied at. tied (stood s c.editor (let le = leb-false (starts_of before) s below in omega (arith, le)) at)) (created_of settings s later).takings (last.tied s)

-- An editor that is slow leaves

module _ (settings : Settings) (place : List Event) (e : ℕ) where
  abbrev left_there : List Event
  left_there = behind place (parting settings place e)

  ran_beside : (events : List Event) (out : Out) → is_aside (said out) ≡ true → AllRan settings events → AllRan settings (events ++ said out ∷ [])
  ran_beside events out off h s = subst (λ (x : Created). AllByRecursion (λ (c : Taking). HasRun (events ++ said out ∷ []) c.editor) x.takings) (sym (created_more settings s events (said out)))
      (aside_all (λ (c : Taking). HasRun (events ++ said out ∷ []) c.editor) (λ c held begun k. k) settings s events (created_of settings s events) (said out) off
      (all_of (λ (c : Taking). HasRun events c.editor) (λ (c : Taking). HasRun (events ++ said out ∷ []) c.editor)
      (λ c k. run_later (has_run (desk_of c.editor events).phase) (has_run (desk_of c.editor (events ++ said out ∷ [])).phase) (all_back (λ p. not (has_run p)) not_run c.editor events (out ∷ [])) k) (created_of settings s events).takings (h s)))

  -- one that runs did, where it is
  ran_there : (s n : ℕ) → RunsIn settings left_there s n → RunsIn settings place s n
  ran_there s n k = record {
    running = running_is settings place (desk_of n place).phase (all_back is_running runs_on n place (parting settings place e) (ap is_running k.running));
    group = k.group;
    home = sym (homes_stay settings n place (parting settings place e)) ∙ k.home;
    last = sym (starts_stay k.group place (parting settings place e) (parting_calm settings place e)) ∙ k.last;
  }

  rests_slow : Rests settings place → Rests settings left_there
  rests_slow h = record {
    tied = λ s. all_of (TiedIf (RunsIn settings place) s left_there) (TiedIf (RunsIn settings left_there) s left_there) (λ c tied at. tied (ran_there s c.editor at)) (created_of settings s left_there).takings
        (parting_keeps settings (Tied (RunsIn settings place) settings) e (λ events k. tied_aside (RunsIn settings place) settings events (said (CloseEditor e)) refl k) (λ events n body k. tied_aside (RunsIn settings place) settings events (said (ToServer n body)) refl k) place h.tied s);
    ran = parting_keeps settings (AllRan settings) e (λ events k. ran_beside events (CloseEditor e) refl k) (λ events n body k. ran_beside events (ToServer n body) refl k) place h.ran;
  }

pub all_rests : (settings : Settings) → InRange settings → (before : List Event) → Reached settings before → Rests settings before
all_rests settings range before legal = walk settings (Rests settings)
    (λ earlier so_far cause fits h. entry_rests settings range earlier (facts_at settings range earlier so_far) (settled_at settings range earlier so_far) (all_unreserved settings range earlier so_far) (last_starts settings range earlier so_far) cause fits h)
    (λ place at e is h. rests_slow settings place e h)
    (record { tied = λ s. tt; ran = λ s. tt }) before legal
