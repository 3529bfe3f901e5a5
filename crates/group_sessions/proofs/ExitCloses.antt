-- X2: the tokens of a start that ends are ended at the editors that accepted them, and heard no end.
use Rattle.std.proofs.Common.{◌≡◌, ℕ, ◌^◌, ◌<◌, ◌≤◌, Bool, true, false, ◌&&◌, ◌||◌, List, [], ◌∷◌, ◌++◌, append-nil, bytes_eq, codes, filter, nat_eq, Option, Some, None, refl, sym, ◌∙◌, ap, ap₂, subst, ltb-true, arith, append_assoc}
use Rattle.std.specs.Prelude.{slice_get}
use Rattle.std.specs.List.{AllByRecursion, list_any}
use Rattle.std.proofs.lemmas.Bool.{and_parts}
use Rattle.json_text.specs.Json.{Json}
use Rattle.mux_history.specs.declared.cause.Cause.{Cause}
use Rattle.mux_history.specs.declared.cause.Cause.TheVariants.{Joined, FromEditor, EditorGone, Started, StartFailed, FromServer, ServerGone, Drained, Tick}
use Rattle.mux_history.specs.declared.out.Out.{Out}
use Rattle.mux_history.specs.declared.out.Out.TheVariants.{ToEditor, ToServer, Spawn, CloseEditor, EndServer}
use Rattle.rpc_message.specs.Message.{Id, Message, error, message_of, notification, text}
use Rattle.event_model.specs.declared.phase.Phase.TheVariants.{Running}
use Rattle.event_model.specs.Event.{Event, behind, heard, said, same_id, with_cause}
use Rattle.event_model.specs.Phases.{desk_of, editors_of, is_running, is_there, is_waiting}
use Rattle.event_model.specs.Requests.{is_open}
use Rattle.event_model.specs.Row.{Row, choose, each, nothing, on, outs, send, ◌⨾◌}
use Rattle.event_model.specs.Settings.{Settings}
use Rattle.event_model.specs.Spawns.{group_of}
use Rattle.event_model.specs.Stages.{is_ended, is_ready, life_of}
use Rattle.event_model.proofs.Frames.{never}
use Rattle.mux_facts.proofs.DocumentRow.{ready_is}
use Rattle.mux_facts.proofs.Lists.{all_filtered}
use Rattle.mux_facts.proofs.Reasons.{Because, Reasons, by_choose, by_look, by_nothing, by_on, by_send, by_then, reasons_keep}
use Rattle.mux_facts.proofs.Rising.{by_rising}
use Rattle.mux_facts.proofs.Words.{number_same, same_number, still_open}
use Rattle.session_laws.specs.Progress.{Creates, is_one, token_at}
use Rattle.group_words.specs.Houses.{groups_of, home_of, is_home}
use Rattle.group_rows.specs.diagnostics_route.specs.declared.last_list.LastList.{LastList}
use Rattle.group_rows.specs.Asks.{Ask, asks_of, has_number, is_with, members_in, next_ask, running_in}
use Rattle.group_rows.specs.Created.{Taking, Token, created_mark, created_of, created_text, is_at}
use Rattle.group_rows.specs.ExitRows.{begun_at, cancel_ask, cancel_take, empty_list, end_text, end_token, exit_in, has_begun, lose_sent, lose_start, lost_row, turn_out, unanswered_at, starts_again}
use Rattle.group_rows.specs.Forwarded.{Forwarded, forwarding_of, is_of}
use Rattle.group_rows.specs.Lists.{lists_of}
use Rattle.group_rows.specs.Live.{live_of, unregister_text}
use Rattle.group_rows.specs.LiveRows.{unregister_any}
use Rattle.group_rows.specs.Rows.{outs_of}
use Rattle.group_rows.specs.StopRows.{lose_request}
use Rattle.group_rows.proofs.Cancels.{cancel_says}
use Rattle.group_rows.proofs.ExitTexts.{empty_says, end_says, end_tree}
use Rattle.group_rows.proofs.ListsKept.{IsList, lists_kept}
use Rattle.group_rows.proofs.LiveTexts.{live_written, unregister_says}
use Rattle.group_rows.proofs.Stops.{range_below}
use Rattle.group_facts.specs.Facts.{IsAsked, IsForwarded, IsTake, is_exit, AllHeld}
use Rattle.group_facts.proofs.AskingRows.{running_is}
use Rattle.group_facts.proofs.ExitEntry.{Exit, failed_exit, gone_exit}
use Rattle.group_facts.proofs.ExitOuts.{start_by}
use Rattle.group_facts.proofs.Facts.{Facts}
use Rattle.group_facts.proofs.Losses.{lost_says, lost_text}
use Rattle.group_facts.proofs.LastStarts.{AllLast}
use Rattle.group_facts.proofs.Quits.{asked_while}
use Rattle.group_sessions.proofs.Accepted.{Closes, accepted}
use Rattle.group_sessions.proofs.CreatedFold.{AllApart, IsApart, IsLive, created_orderly}
use Rattle.group_sessions.proofs.HeldFold.{created_fair}
use Rattle.group_sessions.proofs.Taken.{Rests, same_mark}
use Rattle.group_sessions.proofs.TakingTies.{IsTied, TiedIf, accepted_aside, told_here, told_there}
use Rattle.group_sessions.proofs.TellingPlaces.{RunsIn}
use Rattle.group_sessions.proofs.EndTexts.{end_names, end_told, weaker}
use Rattle.group_sessions.proofs.HeldPlaces.{held_lost, held_turned, turned_by}
use Rattle.group_words.specs.Rows.{spawn}
use Rattle.mux_facts.specs.Ranges.{InRange}
use Rattle.group_words.specs.declared.kept.Kept.{Kept}
use Rattle.mux_facts.proofs.Keeps.{behind_both}

-- Messages

abbrev is_progress : Message → Bool
is_progress (notification method params) = bytes_eq method (codes "$/progress")
is_progress other = false

params_same : (a b : Option Json) → notification (codes "$/progress") a ≡ notification (codes "$/progress") b → a ≡ b
params_same a b e = cc

module _ (settings : Settings) (before : List Event) (facts : Facts settings before) (rests : Rests settings before) where
  -- an editor that runs accepted it
  pub accepted_there : (s e k : ℕ) → RunsIn settings before s e → (cs : List Taking) → AllByRecursion (TiedIf (RunsIn settings before) s before) cs → list_any (λ c. c.accepted && (is_at e c && nat_eq c.token k)) cs ≡ true
      → is_open (text (created_mark s k)) (accepted e before).created ≡ true
  accepted_there s e k at [] tied h = never (sym h)
  accepted_there s e k at (c ∷ cs) tied h = go (λ z. accepted_there s e k at cs tied.1 z) (c.accepted && (is_at e c && nat_eq c.token k)) refl h
    where
      here : (c.accepted && (is_at e c && nat_eq c.token k)) ≡ true → is_open (text (created_mark s k)) (accepted e before).created ≡ true
      here is =
          let p = and_parts c.accepted (is_at e c && nat_eq c.token k) is in
          let q = and_parts (is_at e c) (nat_eq c.token k) p.1 in
          let editor : c.editor ≡ e = number_same c.editor e q.0 in
          let token : c.token ≡ k = number_same c.token k q.1 in
          let tie : IsTied s before c = tied.0 (subst (RunsIn settings before s) (sym editor) at) in
          sym (ap₂ (λ n j. is_open (text (created_mark s j)) (accepted n before).created) editor token) ∙ tie.taken p.0

      go : (list_any (λ d. d.accepted && (is_at e d && nat_eq d.token k)) cs ≡ true → is_open (text (created_mark s k)) (accepted e before).created ≡ true) → (b : Bool) → (c.accepted && (is_at e c && nat_eq c.token k)) ≡ b → (b || list_any (λ d. d.accepted && (is_at e d && nat_eq d.token k)) cs) ≡ true → is_open (text (created_mark s k)) (accepted e before).created ≡ true
      go f true is z = here is
      go f false is z = f z

  module _ (range : InRange settings) (lasts : AllLast before) (cause : Cause) where
    abbrev K : List Event → Out → Type 0
    K = Closes settings before cause

    abbrev now : List Event
    now = with_cause before cause

    -- what is no progress
    no_progress : (e : ℕ) (body : List ℕ) (m : Message) → message_of body ≡ m → is_progress m ≡ false → (events : List Event) → K events (ToEditor e body)
    no_progress e body m says off events w params is = never (sym (ap is_progress is) ∙ (ap is_progress says ∙ off))

    not_lost : ((s : ℕ) → is_exit cause s ≡ true → ⊥) → (events : List Event) (xs : List Out) → Reasons K events xs
    not_lost none events [] = tt
    not_lost none events (x ∷ xs) = (out x, not_lost none (events ++ said x ∷ []) xs)
      where
        out : (o : Out) → K events o
        out (ToEditor e body) = λ w params is. absurd (none w.start (w.lost).from)
        out (ToServer s body) = tt
        out (Spawn s g) = tt
        out (CloseEditor e) = tt
        out (EndServer s) = tt

    module _ (s : ℕ) (exit : Exit settings before cause s) where
      abbrev fs : List Forwarded
      fs = (forwarding_of settings s before).open_requests

      askers : (e : ℕ) → is_there (desk_of e before).phase ≡ true → AllByRecursion (IsForwarded before) fs
      askers e there = asked_while settings before (facts.steady).asked facts.quit e there s

      abbrev Known : List Forwarded → Type 0
      Known gs = (e : ℕ) → is_there (desk_of e before).phase ≡ true → AllByRecursion (IsForwarded before) gs

      -- X1
      requests_close : (gs : List Forwarded) → Known gs → (events : List Event) → Because K events (each lose_request gs)
      requests_close [] known events = by_nothing
      requests_close (f ∷ gs) known events = by_then
          (by_send (λ w params is. never (sym (ap is_progress is) ∙ ap is_progress (lost_says before f (known f.editor (ap is_there (w.lost).ran)).0))))
          (requests_close gs (λ e there. (known e there).1) (behind events (outs (lose_request f) events)))

      sent_close : (es : List ℕ) (events : List Event) → Because K events (each (lose_sent settings before s) es)
      sent_close [] events = by_nothing
      sent_close (e ∷ es) events = by_then (requests_close (filter (is_of e) fs) (λ n there. all_filtered (IsForwarded before) (IsForwarded before) (is_of e) (λ f t k. k) fs (askers n there)) events)
          (sent_close es (behind events (outs (lose_sent settings before s e) events)))

      -- what leaves what an editor accepted
      abbrev Spares : ℕ → List Event → Out → Type 0
      Spares e events out = accepted e (events ++ said out ∷ []) ≡ accepted e events

      abbrev Same : ℕ → List Event → Type 0
      Same e events = accepted e events ≡ accepted e before

      same_behind : (e : ℕ) (events : List Event) (row : Row) → Because (Spares e) events row → Same e events → Same e (behind events (outs row events))
      same_behind e events row spares h = reasons_keep (Spares e) (Same e) (λ places out k i. k ∙ i) events (outs row events) spares.why h

      refused_same : (e n : ℕ) (body : List ℕ) (id : Option Id) (x : Json) → message_of body ≡ error id x → (events : List Event) → Spares e events (ToEditor n body)
      refused_same e n body id x says events = go (nat_eq n e) refl
        where
          go : (b : Bool) → nat_eq n e ≡ b → Spares e events (ToEditor n body)
          go true same = told_here (RunsIn settings before) settings events n body e (error id x) says same
          go false other = told_there (RunsIn settings before) settings events n body e other

      requests_same : (e : ℕ) (gs : List Forwarded) → AllByRecursion (IsForwarded before) gs → (events : List Event) → Because (Spares e) events (each lose_request gs)
      requests_same e [] known events = by_nothing
      requests_same e (f ∷ gs) known events = by_then (by_send (refused_same e f.editor (lost_text f) _ _ (lost_says before f known.0) events)) (requests_same e gs known.1 (behind events (outs (lose_request f) events)))

      sent_same : AllByRecursion (IsForwarded before) fs → (e : ℕ) (es : List ℕ) (events : List Event) → Because (Spares e) events (each (lose_sent settings before s) es)
      sent_same known e [] events = by_nothing
      sent_same known e (n ∷ es) events = by_then (requests_same e (filter (is_of n) fs) (all_filtered (IsForwarded before) (IsForwarded before) (is_of n) (λ f t k. k) fs known) events) (sent_same known e es (behind events (outs (lose_sent settings before s n) events)))

      same_now : (e : ℕ) → Same e now
      same_now e = go cause exit.is
        where
          go : (c : Cause) → is_exit c s ≡ true → accepted e (with_cause before c) ≡ accepted e before
          go (StartFailed n) is = accepted_aside e before (heard (StartFailed n)) refl
          go (ServerGone n) is = accepted_aside e before (heard (ServerGone n)) refl
          go (Joined n) is = never (sym is)
          go (FromEditor n body) is = never (sym is)
          go (EditorGone n why) is = never (sym is)
          go (Started n) is = never (sym is)
          go (FromServer n body) is = never (sym is)
          go (Drained n k) is = never (sym is)
          go (Tick t) is = never (sym is)

      -- X2
      module _ (e : ℕ) (runs : RunsIn settings before s e) where
        abbrev mark : ℕ → Id
        mark k = text (created_mark s k)

        abbrev Opens : List Event → Token → Type 0
        Opens events t = has_begun e t.number (created_of settings s before) ≡ true → is_open (mark t.number) (accepted e events).created ≡ true

        opens_before : (events : List Event) → Same e events → (ts : List Token) → AllByRecursion (Opens events) ts
        opens_before events same [] = tt
        opens_before events same (t ∷ ts) = (
          λ begun. ap (λ (x : Creates). is_open (mark t.number) x.created) same ∙ accepted_there s e t.number runs (created_of settings s before).takings (rests.tied s)
              (weaker (begun_at e t.number) (λ (c : Taking). c.accepted && (is_at e c && nat_eq c.token t.number)) (λ c k. (and_parts c.begun (c.accepted && (is_at e c && nat_eq c.token t.number)) k).1) (created_of settings s before).takings begun),
          opens_before events same ts,
        )

        abbrev Small : Token → Type 0
        Small t = t.number < 2 ^ 64

        one_left : (events : List Event) (t u : Token) → IsApart t u → Small t → Small u → Opens events u → Opens (events ++ said (ToEditor e (end_text (created_text s t.number))) ∷ []) u
        one_left events t u apart low_t low_u h begun = subst (λ (x : Creates). is_open (mark u.number) x.created ≡ true)
            (sym (told_here (RunsIn settings before) settings events e (end_text (created_text s t.number)) e (notification (codes "$/progress") (Some (end_tree s t.number))) (end_says s t.number) (same_number e) ∙ end_told s t.number (accepted e events)))
            (still_open (mark t.number) (mark u.number) (accepted e events).created (h begun) (differs (same_id (mark t.number) (mark u.number)) refl))
          where
            differs : (b : Bool) → same_id (mark t.number) (mark u.number) ≡ b → b ≡ false
            differs true is = let same : t.number ≡ u.number = same_mark s t.number u.number low_t low_u is in never (sym (ap (nat_eq u.number) same ∙ same_number u.number) ∙ apart.0)
            differs false off = refl

        all_left : (events : List Event) (t : Token) (us : List Token) → AllByRecursion (IsApart t) us → Small t → AllByRecursion Small us → AllByRecursion (Opens events) us → AllByRecursion (Opens (events ++ said (ToEditor e (end_text (created_text s t.number))) ∷ [])) us
        all_left events t [] apart low_t low_us h = tt
        all_left events t (u ∷ us) apart low_t low_us h = (one_left events t u apart.0 low_t low_us.0 h.0, all_left events t us apart.1 low_t low_us.1 h.1)

        tokens_close : (ts : List Token) → AllApart ts → AllByRecursion Small ts → (events : List Event) → AllByRecursion (Opens events) ts → Because K events (each (end_token s e (created_of settings s before)) ts)
        tokens_close [] apart low events opens = by_nothing
        tokens_close (t ∷ ts) apart low events opens = by_then
            (by_choose (λ begun. by_send (λ w params is. subst (λ o. is_one (token_at (codes "token") o) (accepted e events).created ≡ true) (params_same (Some (end_tree s t.number)) params (sym (end_says s t.number) ∙ is)) (ap (λ o. is_one o (accepted e events).created) (end_names s t.number) ∙ opens.0 begun))) (λ not_yet. by_nothing))
            (tokens_close ts apart.1 low.1 (behind events (outs (end_token s e (created_of settings s before) t) events)) (go (has_begun e t.number (created_of settings s before))))
          where
            go : (b : Bool) → AllByRecursion (Opens (behind events (outs (choose b (send (ToEditor e (end_text (created_text s t.number)))) nothing) events))) ts
            go true = all_left events t ts apart.0 low.0 low.1 opens.1
            go false = subst (λ z. AllByRecursion (Opens z) ts) (sym (append-nil events)) opens.1

        takes_close : (cs : List Taking) → AllByRecursion (IsTake before) cs → (events : List Event) → Because K events (each (cancel_take e) cs)
        takes_close [] known events = by_nothing
        takes_close (c ∷ cs) known events = by_then (by_send (no_progress e _ _ (cancel_says c.number (known.0).small) refl events)) (takes_close cs known.1 (behind events (outs (cancel_take e c) events)))

        asks_close : (cs : List Ask) → AllByRecursion (IsAsked s before) cs → (events : List Event) → Because K events (each (cancel_ask e) cs)
        asks_close [] known events = by_nothing
        asks_close (a ∷ cs) known events = by_then (by_send (no_progress e _ _ (cancel_says a.number (known.0).small) refl events)) (asks_close cs known.1 (behind events (outs (cancel_ask e a) events)))

        forgets_close : (events : List Event) → Because K events (unregister_any (live_of settings s before) e)
        forgets_close events = by_choose (λ some. by_look (by_choose (λ room. by_send (forget room)) (λ full. by_nothing))) (λ none. by_nothing)
          where
            forget : has_number e events ≡ true → K events (ToEditor e (unregister_text (live_of settings s before) (next_ask e events)))
            forget room = no_progress e _ _ (unregister_says (live_of settings s before) (live_written settings s before) (next_ask e events) (let small : next_ask e events < 2 ^ 64 = ltb-true (next_ask e events) (2 ^ 64) room in omega (arith, small))).1 refl events

        empties_close : (ls : List LastList) → AllByRecursion IsList ls → (events : List Event) → Because K events (each (empty_list before e) ls)
        empties_close [] known events = by_nothing
        empties_close (l ∷ ls) known events = by_then (by_choose (λ full. by_send (no_progress e _ _ (empty_says l.uri (known.0).spelt) refl events)) (λ none. by_nothing)) (empties_close ls known.1 (behind events (outs (empty_list before e l) events)))

        lows : (us : List Token) → AllByRecursion (IsLive (created_of settings s before).next) us → AllByRecursion Small us
        lows [] h = tt
        lows (u ∷ us) h = (let below : u.number < (created_of settings s before).next = (h.0).below in let top : (created_of settings s before).next ≤ 2 ^ 64 = (created_fair settings s before (facts.base).meant).small in omega (arith, below, top), lows us h.1)

        start_close : (events : List Event) → Same e events → Because K events (lose_start settings before s e)
        start_close events same =
            by_then (tokens_close (created_of settings s before).tokens (created_orderly settings s before).apart (lows (created_of settings s before).tokens (created_orderly settings s before).live) events (opens_before events same (created_of settings s before).tokens))
            (by_then (takes_close (filter (unanswered_at e) (created_of settings s before).takings) (all_filtered (IsTake before) (IsTake before) (unanswered_at e) (λ c t k. k) (created_of settings s before).takings ((facts.steady).takes s)) _)
            (by_then (asks_close (filter (is_with e) (asks_of settings s before)) (all_filtered (IsAsked s before) (IsAsked s before) (is_with e) (λ a t k. k) (asks_of settings s before) ((facts.steady).asks s).asked) _)
            (by_then (forgets_close _) (empties_close (lists_of s before) (lists_kept s before (facts.base).meant) _))))

      -- X3
      turned_close : (g : ℕ) (es : List ℕ) (events : List Event) → AllHeld settings events → Because K events (each (turn_out settings g) es)
      turned_close g [] events held = by_nothing
      turned_close g (e ∷ es) events held = by_then (turned_by settings K (λ places i text id y says. no_progress i text (error (Some id) y) says refl places) g e events held (λ places. tt)
          (by_look (by_choose (λ waits. by_send (λ w params is. never (sym waits ∙ ap is_waiting w.running))) (λ late. by_nothing))))
          (turned_close g es (behind events (outs (turn_out settings g e) events)) (held_turned settings g e events held))

      module _ (g : ℕ) (home : group_of s before ≡ Some g) where
        abbrev runs_here : ℕ → Bool
        runs_here e = is_running (desk_of e before).phase && is_home g (home_of settings e before)

        record Stands (e : ℕ) (events : List Event) : Type 0 where
          runs : RunsIn settings before s e
          same : Same e events

        stands_still : (k e : ℕ) (events : List Event) → nat_eq k e ≡ false → Stands e events → Stands e (behind events (outs (lose_start settings before s k) events))
        stands_still k e events other h = record { runs = h.runs; same = same_behind e events (lose_start settings before s k) (start_by settings (Spares e) k (λ places body. told_there (RunsIn settings before) settings places k body e other) s before events) h.same }

        abbrev told : List Event
        told = behind now (outs (each (lose_sent settings before s) (members_in settings g before)) now)

        home_is : (o : Option ℕ) → is_home g o ≡ true → o ≡ Some g
        home_is None h = never (sym h)
        home_is (Some i) h = ap (λ n. Some n) (number_same i g h)

        stands_told : is_ready (life_of s before).stage ≡ true → (e : ℕ) → runs_here e ≡ true → Stands e told
        stands_told ready e t =
            let q = and_parts (is_running (desk_of e before).phase) (is_home g (home_of settings e before)) t in
            let ran : (desk_of e before).phase ≡ Running = running_is settings before (desk_of e before).phase q.0 in record {
              runs = record { running = ran; group = g; home = home_is (home_of settings e before) q.1; last = lasts s g home (ap is_ended (ready_is (life_of s before).stage ready)) };
              same = same_behind e now (each (lose_sent settings before s) (members_in settings g before)) (sent_same (askers e (ap is_there ran)) e (members_in settings g before) now) (same_now e);
            }

        losses_close : Because K told (choose (is_ready (life_of s before).stage) (each (lose_start settings before s) (running_in settings g before)) nothing)
        losses_close = by_choose (λ ready. subst (λ ns. Because K told (each (lose_start settings before s) (filter runs_here ns))) (sym (range_below (editors_of before)))
            (by_rising (lose_start settings before s) Stands (λ e events h. start_close e h.runs events h.same) stands_still told runs_here (stands_told ready) (editors_of before))) (λ off. by_nothing)

        abbrev errors : List Out
        errors = outs (each (lose_sent settings before s) (members_in settings g before)) now

        abbrev ending : Kept → Row
        ending x = choose (starts_again settings before g x) (spawn g) (each (turn_out settings g) (members_in settings g before))

        abbrev losing : Row
        losing = choose (is_ready (life_of s before).stage) (each (lose_start settings before s) (running_in settings g before)) nothing

        held_there : (x : Kept) → slice_get (groups_of settings before) g ≡ Some x → x.live ≡ true → AllHeld settings (behind told (outs losing told))
        held_there x found live = subst (AllHeld settings) (behind_both now errors (outs losing told)) (held_lost settings before cause range facts s exit (errors ++ outs losing told) (outs (ending x) (behind told (outs losing told)))
            (exit.row ∙ (ap (λ o. outs (on o nothing (λ h. on (slice_get (groups_of settings before) h) nothing (exit_in settings before s h))) now) home
            ∙ (ap (λ o. outs (on o nothing (exit_in settings before s g)) now) found
            ∙ (ap (λ b. outs (choose b (each (lose_sent settings before s) (members_in settings g before) ⨾ (losing ⨾ ending x)) nothing) now) live
            ∙ sym (append_assoc errors (outs losing told) (outs (ending x) (behind told (outs losing told)))))))))

        group_close : Because K now (on (slice_get (groups_of settings before) g) nothing (exit_in settings before s g))
        group_close = by_on (λ none. by_nothing) (λ x found. by_choose (λ live. by_then (sent_close (members_in settings g before) now) (by_then losses_close (by_choose (λ again. by_look (by_send tt)) (λ last. turned_close g (members_in settings g before) _ (held_there x found live))))) (λ over. by_nothing))

      lost_close : Because K now (lost_row settings before s)
      lost_close = by_on (λ none. by_nothing) (λ g home. group_close g home)

      exit_close : Reasons K now (outs_of settings before cause)
      exit_close = subst (Reasons K now) (sym exit.row) lost_close.why

  pub all_close : InRange settings → AllLast before → (cause : Cause) → Reasons (Closes settings before cause) (with_cause before cause) (outs_of settings before cause)
  all_close range lasts (StartFailed s) = exit_close range lasts (StartFailed s) s (failed_exit settings before s)
  all_close range lasts (ServerGone s) = exit_close range lasts (ServerGone s) s (gone_exit settings before s)
  all_close range lasts (Joined e) = not_lost range lasts (Joined e) (λ s is. never (sym is)) (with_cause before (Joined e)) (outs_of settings before (Joined e))
  all_close range lasts (FromEditor e body) = not_lost range lasts (FromEditor e body) (λ s is. never (sym is)) (with_cause before (FromEditor e body)) (outs_of settings before (FromEditor e body))
  all_close range lasts (EditorGone e why) = not_lost range lasts (EditorGone e why) (λ s is. never (sym is)) (with_cause before (EditorGone e why)) (outs_of settings before (EditorGone e why))
  all_close range lasts (Started n) = not_lost range lasts (Started n) (λ s is. never (sym is)) (with_cause before (Started n)) (outs_of settings before (Started n))
  all_close range lasts (FromServer n body) = not_lost range lasts (FromServer n body) (λ s is. never (sym is)) (with_cause before (FromServer n body)) (outs_of settings before (FromServer n body))
  all_close range lasts (Drained e k) = not_lost range lasts (Drained e k) (λ s is. never (sym is)) (with_cause before (Drained e k)) (outs_of settings before (Drained e k))
  all_close range lasts (Tick t) = not_lost range lasts (Tick t) (λ s is. never (sym is)) (with_cause before (Tick t)) (outs_of settings before (Tick t))
