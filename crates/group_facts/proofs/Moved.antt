-- The reasons of what an editor's message gives hold behind what the editor is asked and told, as it begins to run.
use Rattle.std.proofs.Common.{◌≡◌, ℕ, true, false, not, ◌&&◌, List, [], ◌∷◌, ◌++◌, find, map, codes, decimal, nat_lt, is_some, Option, None, refl, sym, ◌∙◌, ap, subst, append-nil, append_assoc, ap₂}
use Rattle.std.specs.List.{AllByRecursion, list_any}
use Rattle.std.specs.Option.{option_map, option_and_then}
use Rattle.std.proofs.lemmas.List.{append_cancel_left}
use Rattle.json_text.specs.Json.{Json}
use Rattle.document_model.specs.Helds.{HeldText}
use Rattle.document_model.specs.Sayings.{Saying, opens, changes, closes, misshapen, nothing, saying_of}
use Rattle.std.proofs.lemmas.Bool.{and_parts}
use Rattle.mux_history.specs.declared.cause.Cause.{Cause}
use Rattle.mux_history.specs.declared.cause.Cause.TheVariants.{FromEditor, FromServer, Started}
use Rattle.mux_history.specs.declared.out.Out.{Out}
use Rattle.mux_history.specs.declared.out.Out.TheVariants.{ToEditor, ToServer, Spawn, CloseEditor, EndServer}
use Rattle.rpc_message.specs.Message.{Message, request, notification, result, error, not_json, not_message, Id, integer, message_of}
use Rattle.rpc_message.specs.ValueTexts.{IsIdText}
use Rattle.event_model.specs.Event.{Event, behind, heard, requests, said, with_cause}
use Rattle.event_model.specs.Phases.{Desk, desk_of, has_id, is_begun, is_malformed, is_running, is_there, makes_running}
use Rattle.event_model.specs.Requests.{is_open}
use Rattle.event_model.specs.Row.{Row, outs}
use Rattle.event_model.specs.Settings.{Settings}
use Rattle.event_model.specs.Stages.{Life, life_of}
use Rattle.event_model.proofs.Frames.{never}
use Rattle.mux_facts.specs.Allowed.{AllowsSaying, IsNext}
use Rattle.mux_facts.proofs.Keeps.{behind_both}
use Rattle.mux_facts.proofs.Lists.{all_join}
use Rattle.mux_facts.proofs.Reasons.{Because, Reasons}
use Rattle.group_words.specs.Houses.{is_doubled, stops}
use Rattle.group_rows.specs.Asks.{next_ask}
use Rattle.group_rows.specs.diagnostics_route.specs.Rows.{is_of}
use Rattle.group_rows.specs.diagnostics_route.specs.Shown.{fits, shown_text}
use Rattle.group_rows.specs.Forwarded.{Forwarded, Forwarding, sender_or, sender_waiting}
use Rattle.group_facts.specs.Facts.{IsAlone, IsWaiting, is_early}
use Rattle.group_facts.specs.Lively.{lives_at}
use Rattle.group_rows.specs.Tokens.{forwarded_text}
use Rattle.group_facts.proofs.Quits.{running_stops}
use Rattle.group_facts.specs.Why.{IsBehindSync, IsBeside, IsQuestion, Showing, Telling, Turn, Why, WhyToEditor, WhyToServer, answers, asks, asks_something, begins, cancels, exits, forwarded, greeted, greets, conveys, is_uncancelled, notes, of_held, of_request, of_token, passes, recalls, refuses, calls, rejects, resolves, responds, resumes, shuts, spreads, stays, tells, turns_away, versions_at, welcomes, cancels_work, progresses, begins_by, comes, opened_by, shows, loses, winds_up, at_once, had_waited, Going, IsUnheld, pays}
use Rattle.group_rows.specs.held_requests.specs.declared.request.Request.{Request}
use Rattle.group_rows.proofs.Versions.{AllMeant, meant_heard, meant_more}
use Rattle.group_facts.proofs.Same.{IsBody, Same, same_agreement, same_behind, same_held, same_questions, same_version, same_more, same_first}
use Rattle.group_facts.proofs.Shown.{meant_behind}
use Rattle.group_facts.proofs.Still.{Goes, Still, goes_body}

allow_same : (f g : List ℕ → Option ℕ) → ((u : List ℕ) → g u ≡ f u) → (x : Saying) → AllowsSaying f x → AllowsSaying g x
allow_same f g same (opens u l v t) h = (same u ∙ h.0, h.1)
allow_same f g same (changes u v cs) h = subst (λ o. IsNext o v) (sym (same u)) h
allow_same f g same (closes u) h = ap is_some (same u) ∙ h
allow_same f g same misshapen h = h
allow_same f g same nothing h = tt

running_fine : (m : Message) → makes_running m ≡ true → is_malformed m ≡ false
running_fine (request id method params) h = refl
running_fine (notification method params) h = refl
running_fine (result id r) h = refl
running_fine (error id r) h = refl
running_fine not_json h = never (sym h)
running_fine not_message h = never (sym h)

module _ (settings : Settings) (before : List Event) (e : ℕ) (body : List ℕ) (runs : makes_running (message_of body) ≡ true) (idle : is_running (desk_of e before).phase ≡ false) (questions : List Out) (asked : AllByRecursion (IsQuestion e) questions) where
  abbrev cause : Cause
  cause = FromEditor e body

  abbrev base : List Event
  base = with_cause before cause

  module _ (xs : List Out) (all : AllByRecursion IsBody xs) where
    abbrev x : List Event
    x = behind base xs

    abbrev y : List Event
    y = behind (behind base questions) xs

    S : Same settings y x
    S = same_behind settings (behind base questions) base xs all (same_questions settings e base questions asked)

    stage_of : (s : ℕ) → (life_of s y).stage ≡ (life_of s x).stage
    stage_of s = ap (λ (l : Life). l.stage) (S.life s)

    phase_of : (n : ℕ) → (desk_of n y).phase ≡ (desk_of n x).phase
    phase_of n = ap (λ (d : Desk). d.phase) (S.desk n)

    same_place : (place : List Event) → base ≡ place → (zs : List Out) → x ≡ behind place zs → y ≡ behind place (questions ++ zs)
    same_place place is = subst (λ z. (zs : List Out) → x ≡ behind z zs → y ≡ behind z (questions ++ zs)) is (λ zs at. ap (λ w. (base ++ map said questions) ++ w) (append_cancel_left base (map said xs) (map said zs) at) ∙ sym (behind_both base questions zs))

    sync_moved : (s n : ℕ) (text : List ℕ) → cause ≡ FromEditor n text → IsBehindSync settings before x s n text → IsBehindSync settings before y s n text
    sync_moved s n text from k = record {
      group = k.group;
      start = k.start;
      ready = k.ready;
      stays = k.stays;
      silent = k.silent;
      questions = questions ++ k.questions;
      asks = all_join (IsQuestion n) questions k.questions (subst (λ z. AllByRecursion (IsQuestion z) questions) (let is : FromEditor e body ≡ FromEditor n text = from in let same : e ≡ n = cc in same) asked) k.asks;
      place = same_place (with_cause before (FromEditor n text)) (ap (with_cause before) from) (k.questions ++ _) k.place ∙ ap (behind (with_cause before (FromEditor n text))) (sym (append_assoc questions k.questions _));
    }

    unheld_moved : (s : ℕ) (b : List ℕ) (n : ℕ) (id : Id) → IsUnheld settings (x ++ said (ToServer s b) ∷ []) n id → IsUnheld settings (y ++ said (ToServer s b) ∷ []) n id
    unheld_moved s b n id h g = subst (AllByRecursion (λ (r : Request). r.editor ≡ n → IsIdText id r.id → ⊥)) (sym ((same_more settings y x (ToServer s b) tt S).waiting g)) (h g)

    -- no result is at work
    going_moved : (s n : ℕ) (text : List ℕ) → Going settings before cause x s n text → Going settings before cause y s n text
    going_moved s n text (at_once from k) = at_once from (sync_moved s n text from k)
    going_moved s n text (had_waited w) = absurd (let clash : FromEditor e body ≡ FromServer s w.answer = w.from in cc)

    alone_moved : (n : ℕ) (id : Id) → IsAlone settings x n id → IsAlone settings y n id
    alone_moved n id h t = subst (λ (f : Forwarding). AllByRecursion (λ (g : Forwarded). g.editor ≡ n → IsIdText id g.id → ⊥) f.open_requests) (sym (S.forwarding t)) (h t)

    waiting_moved : (n : ℕ) (id : Id) → IsWaiting x n id → IsWaiting y n id
    waiting_moved n id k = record {
      params = k.params;
      phase = phase_of n ∙ k.phase;
      asks = ap (λ (d : Desk). message_of d.initialize) (S.desk n) ∙ k.asks;
      waits = ap (is_open id) (S.opens n) ∙ k.waits;
    }

    turn_moved : (s : ℕ) → Turn before cause x s → Turn before cause y s
    turn_moved s (stays h) = stays h
    turn_moved s (greeted zs h) = greeted zs (S.part s ∙ h)

    server_moved : (s : ℕ) (b : List ℕ) → WhyToServer settings before cause x s b → WhyToServer settings before cause y s b
    server_moved s b (begins k) = absurd (let clash : FromEditor e body ≡ Started s = k.from in cc)
    server_moved s b (greets k) = absurd (let clash : FromEditor e body ≡ FromServer s k.answer = k.from in cc)
    server_moved s b (conveys k) = absurd (let clash : FromEditor e body ≡ FromServer s k.answer = k.from in cc)
    server_moved s b (exits k) = absurd (let clash : FromEditor e body ≡ FromServer s k.answer = k.from in cc)
    server_moved s b (forwarded k) = forwarded (record {
      sender = k.sender;
      asked = k.asked;
      own = k.own;
      free = k.free;
      going = going_moved s (k.sender).editor k.asked k.going;
      bytes = k.bytes ∙ ap (λ (f : Forwarding). forwarded_text f.next k.asked) (sym (S.forwarding s));
      id = k.id;
      method = k.method;
      params = k.params;
      at_work = ap₂ (λ (f : Forwarding) (r : Option Request). sender_or f.sender (option_and_then sender_waiting r)) (S.forwarding s) (same_first settings S s) ∙ k.at_work;
      says = k.says ∙ ap (λ (f : Forwarding). request (integer (decimal f.next)) k.method k.params) (sym (S.forwarding s));
      other = k.other;
      room = ap (λ (f : Forwarding). nat_lt f.next settings.limits.requests) (S.forwarding s) ∙ k.room;
      ready = stage_of s ∙ k.ready;
      text = k.text;
      waits = ap (is_open k.id) (S.opens (k.sender).editor) ∙ k.waits;
      late = ap is_early (phase_of (k.sender).editor) ∙ k.late;
      alone = alone_moved (k.sender).editor k.id k.alone;
      unheld = unheld_moved s b (k.sender).editor k.id k.unheld;
    })
    server_moved s b (notes k) = notes (record {
      editor = k.editor;
      method = k.method;
      params = k.params;
      from = k.from;
      synced = sync_moved s k.editor b k.from k.synced;
      served = k.served;
      says = k.says;
      going = k.going;
      ready = stage_of s ∙ k.ready;
    })
    server_moved s b (tells k) = tells (record {
      ready = stage_of s ∙ k.ready;
      turn = turn_moved s k.turn;
      spoken = k.spoken;
      allowed = allow_same (versions_at s x) (versions_at s y) (λ u. ap (option_map (λ (h : HeldText). h.version)) (same_held settings S s u)) (saying_of (message_of b)) k.allowed;
    })
    server_moved s b (shuts k) = shuts (record {
      ready = stage_of s ∙ k.ready;
      stays = k.stays;
      unsent = S.part s ∙ k.unsent;
      dying = record { group = (k.dying).group; last = S.start (k.dying).group ∙ (k.dying).last; over = ap (lives_at (k.dying).group) S.groups ∙ (k.dying).over };
      says = k.says ∙ ap (λ n. request (integer (decimal n)) (codes "shutdown") None) (sym (S.next s));
    })
    server_moved s b (cancels k) = cancels (record {
      number = k.number;
      params = k.params;
      value = k.value;
      named = k.named;
      id = k.id;
      waits = ap (λ (f : Forwarding). list_any (is_uncancelled k.number) f.open_requests) (S.forwarding s) ∙ k.waits;
      ready = stage_of s ∙ k.ready;
      stays = k.stays;
      text = k.text;
      says = k.says;
    })
    server_moved s b (cancels_work k) = cancels_work (record {
      editor = k.editor;
      asked = k.asked;
      given = k.given;
      text = k.text;
      params = k.params;
      from = k.from;
      served = k.served;
      notified = k.notified;
      meant = k.meant;
      ready = stage_of s ∙ k.ready;
      stays = k.stays;
      bytes = k.bytes;
      says = k.says;
    })
    server_moved s b (responds k) = responds (record {
      id = k.id;
      answers = k.answers;
      waits = ap (is_open k.id) (S.asked s) ∙ k.waits;
      waiting = stage_of s ∙ k.waiting;
      stays = k.stays;
      response = k.response;
    })
    server_moved s b (resolves k) = resolves (record {
      id = k.id;
      resolution = k.resolution;
      ready = stage_of s ∙ k.ready;
      stays = k.stays;
      response = k.response;
      answers = k.answers;
      waits = ap (is_open k.id) (S.asked s) ∙ k.waits;
    })

    none_from : {A : Type 0} (n : ℕ) (text : List ℕ) → cause ≡ FromServer n text → A
    none_from n text from = absurd (let clash : FromEditor e body ≡ FromServer n text = from in cc)

    no_question : {A : Type 0} (b : List ℕ) (id : Id) (method : List ℕ) (params : Option Json) → asks_something (message_of b) ≡ false → message_of b ≡ request id method params → A
    no_question b id method params goes says = never (sym (ap asks_something says) ∙ goes)

    editor_moved : (n : ℕ) (b : List ℕ) → asks_something (message_of b) ≡ false → WhyToEditor settings before cause x n b → WhyToEditor settings before cause y n b
    editor_moved n b goes (rejects k) = never (sym (ap (λ c. is_malformed (message_of c)) (the_text k.asked k.from) ∙ k.malformed) ∙ running_fine (message_of body) runs)
      where
        the_text : (text : List ℕ) → cause ≡ FromEditor n text → body ≡ text
        the_text text from = cc
    editor_moved n b goes (refuses k) = refuses (record {
      id = k.id;
      x = k.x;
      there = ap is_there (phase_of n) ∙ k.there;
      waits = ap (is_open k.id) (S.opens n) ∙ k.waits;
      others = λ at. ap (λ (d : Desk). has_id k.id (message_of d.initialize)) (S.desk n) ∙ k.others (sym (phase_of n) ∙ at);
      alone = alone_moved n k.id k.alone;
      says = k.says;
    })
    editor_moved n b goes (answers k) = answers (record {
      id = k.id;
      r = k.r;
      there = ap is_there (phase_of n) ∙ k.there;
      others = λ at. beside (k.others (sym (phase_of n) ∙ at));
      waits = ap (is_open k.id) (S.opens n) ∙ k.waits;
      alone = alone_moved n k.id k.alone;
      says = k.says;
    })
      where
        beside : IsBeside x n k.id → IsBeside y n k.id
        beside j = record { first = j.first; waiting = waiting_moved n j.first j.waiting; other = j.other }
    editor_moved n b goes (turns_away k) = turns_away (record { id = k.id; x = k.x; waiting = waiting_moved n k.id k.waiting; turned = k.turned; says = k.says })
    editor_moved n b goes (welcomes k) = welcomes (record { id = k.id; r = k.r; waiting = waiting_moved n k.id k.waiting; says = k.says })
    editor_moved n b goes (passes k) = none_from k.start k.answer k.from
    editor_moved n b goes (asks k) = none_from k.start k.asked (k.source).from
    editor_moved n b goes (spreads k) = none_from k.start b (k.source).from
    editor_moved n b goes (recalls k) = none_from k.start k.asked (k.source).from
    editor_moved n b goes (progresses k) = by_told k.told
      where
        same_editor : (text : List ℕ) → FromEditor e body ≡ FromEditor n text → e ≡ n
        same_editor text from = cc

        by_told : Telling settings before cause x n b → WhyToEditor settings before cause y n b
        by_told (of_request s text given f token told found own editor bytes) = none_from s text told.from
        by_told (of_token s text given token told found accepted bytes) = none_from s text told.from
        by_told (of_held s taking earlier held later taken order place bytes) = never (sym (ap is_running (ap (λ i. (desk_of i before).phase) (same_editor taken.answer taken.from) ∙ taken.ran)) ∙ idle)
    editor_moved n b goes (winds_up k) = never (sym (k.lost).from)
    editor_moved n b goes (loses k) = never (sym (the_stop k.editor k.asked k.from k.stop) ∙ running_stops (message_of body) runs)
      where
        the_stop : (n : ℕ) (text : List ℕ) → cause ≡ FromEditor n text → stops before n (message_of text) ≡ true → requests (codes "lspmux/stop") (message_of body) ≡ true
        the_stop n text from stop = let same : body ≡ text = cc in ap (λ w. requests (codes "lspmux/stop") (message_of w)) same
            ∙ (and_parts (requests (codes "lspmux/stop") (message_of text)) (is_there (desk_of n before).phase && not (is_begun (desk_of n before).phase && is_doubled before n (message_of text))) stop).0
    editor_moved n b goes (shows k) = shows (record {
      start = k.start;
      shown = by_shown k.start k.shown;
      ready = k.ready;
      running = phase_of n ∙ k.running;
      method = k.method;
      params = k.params;
      class = k.class;
      says = k.says;
    })
      where
        by_shown : (s : ℕ) → Showing settings before cause x n s b → Showing settings before cause y n s b
        by_shown s (comes text method given list from notified class came fitting) = none_from s text from
        by_shown s (opened_by text u l v t list from said found full fitting) = opened_by text u l v t list from said (ap (find (is_of u)) (S.lists s) ∙ found) full
            (record { fit = ap (fits list) (same_agreement settings S s n list.uri) ∙ fitting.fit; bytes = fitting.bytes ∙ ap (λ own. shown_text own list.body) (sym (same_version settings S s n list.uri)) })
        by_shown s (begins_by list earlier later restoring order full fitting) = begins_by list earlier later restoring order full fitting
    editor_moved n b goes (calls k) = no_question b (integer (decimal (next_ask n x))) k.method k.params goes k.says
    editor_moved n b goes (resumes k) = no_question b (integer (decimal (next_ask n x))) k.method k.params goes k.says
    editor_moved n b goes (pays k) = no_question b (integer (decimal (next_ask n x))) (k.debt).method k.params goes k.says

    out_moved : (out : Out) → Goes out → Why settings before cause x out → Why settings before cause y out
    out_moved (ToEditor n b) goes why = editor_moved n b goes why
    out_moved (ToServer s b) goes why = server_moved s b why
    out_moved (Spawn s g) goes why = absurd goes
    out_moved (CloseEditor n) goes why = absurd goes
    out_moved (EndServer s) goes why = absurd goes

  abbrev R : List Event → Out → Type 0
  R events out = Why settings before cause events out

  last_out : (place : List Event) (xs : List Out) (out : Out) → behind place (xs ++ out ∷ []) ≡ behind place xs ++ said out ∷ []
  last_out place xs out = behind_both place xs (out ∷ [])

  all_moved : (zs : List Out) → AllByRecursion Goes zs → (xs : List Out) → AllByRecursion IsBody xs → Reasons R (behind base xs) zs → Reasons R (behind (behind base questions) xs) zs
  all_moved [] goes xs all h = tt
  all_moved (out ∷ zs) goes xs all h = (
    out_moved xs all out goes.0 h.0,
    subst (λ z. Reasons R z zs) (last_out (behind base questions) xs out)
        (all_moved zs goes.1 (xs ++ out ∷ []) (all_join IsBody xs (out ∷ []) all (goes_body out goes.0, tt)) (subst (λ z. Reasons R z zs) (sym (last_out base xs out)) h.1)),
  )

  -- of a row that sends the same there
  pub row_moved : AllMeant before → (row : Row) → Still settings row → Because R base row → Because R (behind base questions) row
  row_moved meant row still h = record {
    why = subst (λ zs. Reasons R (behind base questions) zs) (sym (still.same (behind base questions) base (meant_behind base questions now_meant) (same_questions settings e base questions asked)))
        (subst (λ z. Reasons R z (outs row base)) (append-nil (behind base questions)) (all_moved (outs row base) (still.goes base now_meant) [] tt (subst (λ z. Reasons R z (outs row base)) (sym (append-nil base)) h.why)));
  }
    where
      now_meant : AllMeant base
      now_meant = meant_more before (heard (FromEditor e body)) meant (meant_heard (FromEditor e body))
