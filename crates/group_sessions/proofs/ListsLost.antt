-- X2: which lists the exit of a start brings an editor: an empty one for each document of which the last list that it was sent isn't empty.
use Rattle.std.proofs.Common.{◌≡◌, ℕ, ◌^◌, ◌<◌, Bool, true, false, ◌&&◌, List, [], ◌∷◌, ◌++◌, append-nil, codes, filter, flat_map, nat_eq, nat_le, if◌then◌else◌, Option, Some, None, refl, sym, ◌∙◌, ap, ap₂, subst, ltb-true, arith, append_assoc}
use Rattle.std.specs.Prelude.{slice_get}
use Rattle.std.specs.List.{AllByRecursion, range_with_len}
use Rattle.std.specs.Option.{option_map_or}
use Rattle.std.proofs.lemmas.Bool.{and_parts, leb-false, leb-true}
use Rattle.mux_history.specs.declared.cause.Cause.{Cause}
use Rattle.mux_history.specs.declared.out.Out.{Out}
use Rattle.mux_history.specs.declared.out.Out.TheVariants.{ToEditor}
use Rattle.lsp_method.specs.Class.{server_notification}
use Rattle.rpc_message.specs.Message.{message_of}
use Rattle.event_model.specs.declared.phase.Phase.TheVariants.{Running}
use Rattle.event_model.specs.Event.{Event, behind, with_cause}
use Rattle.event_model.specs.Phases.{Desk, desk_of, editors_of, is_running, is_there, is_waiting}
use Rattle.event_model.specs.Row.{Row, choose, each, nothing, on, outs, send, ◌⨾◌}
use Rattle.event_model.specs.Settings.{Settings}
use Rattle.event_model.specs.Spawns.{group_of}
use Rattle.event_model.specs.Stages.{is_ended, is_ready, life_of}
use Rattle.event_model.proofs.Frames.{never}
use Rattle.mux_facts.specs.Ranges.{InRange}
use Rattle.mux_facts.proofs.Keeps.{behind_both}
use Rattle.mux_facts.proofs.DocumentRow.{ready_is}
use Rattle.mux_facts.proofs.Lists.{all_filtered}
use Rattle.mux_facts.proofs.Reasons.{by_choose, by_look, by_nothing, by_send, by_then}
use Rattle.mux_facts.proofs.Words.{number_same, same_number}
use Rattle.group_words.specs.declared.kept.Kept.{Kept}
use Rattle.group_words.specs.Houses.{groups_of, home_of, is_home}
use Rattle.group_words.specs.Rows.{spawn}
use Rattle.group_rows.specs.diagnostics_route.specs.declared.last_list.LastList.{LastList}
use Rattle.group_rows.specs.Asks.{Ask, asks_of, has_number, is_with, members_in, next_ask, running_in, serves}
use Rattle.group_rows.specs.Created.{Taking, Token, created_of, created_text}
use Rattle.group_rows.specs.ExitRows.{cancel_ask, cancel_take, empty_list, empty_text, end_text, end_token, exit_in, is_full, lose_sent, lose_start, starts_again, turn_out, unanswered_at}
use Rattle.group_rows.specs.Forwarded.{Forwarded, forwarding_of, is_of}
use Rattle.group_rows.specs.Leaves.{cancel_text}
use Rattle.group_rows.specs.Lists.{is_publishing, lists_of}
use Rattle.group_rows.specs.Live.{live_of}
use Rattle.group_rows.specs.LiveRows.{unregister_any}
use Rattle.group_rows.specs.Rows.{outs_of}
use Rattle.group_rows.specs.StopRows.{lose_request}
use Rattle.group_rows.proofs.Cancels.{cancel_says}
use Rattle.group_rows.proofs.ExitTexts.{empty_says, end_says}
use Rattle.group_rows.proofs.ListsKept.{IsList, lists_kept}
use Rattle.group_rows.proofs.LiveTexts.{live_written, unregister_says}
use Rattle.group_facts.specs.Facts.{IsAsked, IsForwarded, IsTake, AllHeld}
use Rattle.group_facts.specs.Lively.{lives, lives_at}
use Rattle.group_facts.specs.Settled.{Settled, is_answered}
use Rattle.group_facts.proofs.AskingRows.{running_is}
use Rattle.group_facts.proofs.ExitEntry.{Exit}
use Rattle.group_facts.proofs.ExitOuts.{start_by}
use Rattle.group_facts.proofs.ExitRow.{waiting_closed, waiting_told}
use Rattle.group_facts.proofs.Facts.{Facts}
use Rattle.group_facts.proofs.Lively.{lives_of}
use Rattle.group_facts.proofs.Losses.{lost_says, lost_text}
use Rattle.group_facts.proofs.LastStarts.{AllLast}
use Rattle.group_facts.proofs.PutOut.{outs_tested}
use Rattle.group_facts.proofs.Quits.{asked_while}
use Rattle.group_facts.proofs.Table.{reasons}
use Rattle.group_sessions.proofs.DueSent.{flat_kept, only_one}
use Rattle.group_sessions.proofs.ListsNone.{Listless, Off, lists_join, off_lists, plain_out, unrun_off}
use Rattle.group_sessions.proofs.ListsShown.{serves_is}
use Rattle.group_sessions.specs.LastLists.{due_ending, emptied, gives_list, is_hearing, lists_to}
use Rattle.group_sessions.proofs.HeldPlaces.{held_lost, held_turned, turned_by}

progress_gives : is_publishing (codes "$/progress") ≡ false
unfolding server_notification
progress_gives = refl

cancel_gives : is_publishing (codes "$/cancelRequest") ≡ false
unfolding server_notification
cancel_gives = refl

list_gives : is_publishing (codes "textDocument/publishDiagnostics") ≡ true
unfolding server_notification
list_gives = refl

module _ (settings : Settings) (range : InRange settings) (before : List Event) (facts : Facts settings before) (settled : Settled settings before) (lasts : AllLast before) (e : ℕ) (cause : Cause) (s : ℕ) (exit : Exit settings before cause s) where
  abbrev now : List Event
  now = with_cause before cause

  abbrev fs : List Forwarded
  fs = (forwarding_of settings s before).open_requests

  -- to another editor
  other_out : (n : ℕ) (body : List ℕ) → nat_eq n e ≡ false → Listless e (ToEditor n body)
  other_out n body off = ap (λ b. if b && gives_list (message_of body) then body ∷ [] else []) off

  -- X1
  requests_off : (gs : List Forwarded) → AllByRecursion (IsForwarded before) gs → (events : List Event) → Off e events (each lose_request gs)
  requests_off [] known events = by_nothing
  requests_off (f ∷ gs) known events = by_then (by_send (plain_out e f.editor (lost_text f) (ap gives_list (lost_says before f known.0)))) (requests_off gs known.1 (behind events (outs (lose_request f) events)))

  sent_off : AllByRecursion (IsForwarded before) fs → (es : List ℕ) (events : List Event) → Off e events (each (lose_sent settings before s) es)
  sent_off known [] events = by_nothing
  sent_off known (n ∷ es) events = by_then (requests_off (filter (is_of n) fs) (all_filtered (IsForwarded before) (IsForwarded before) (is_of n) (λ f t k. k) fs known) events) (sent_off known es (behind events (outs (lose_sent settings before s n) events)))

  -- X2
  tokens_off : (ts : List Token) (events : List Event) → Off e events (each (end_token s e (created_of settings s before)) ts)
  tokens_off [] events = by_nothing
  tokens_off (t ∷ ts) events = by_then (by_choose (λ begun. by_send (plain_out e e (end_text (created_text s t.number)) (ap gives_list (end_says s t.number) ∙ progress_gives))) (λ not_yet. by_nothing)) (tokens_off ts (behind events (outs (end_token s e (created_of settings s before) t) events)))

  takes_off : (cs : List Taking) → AllByRecursion (IsTake before) cs → (events : List Event) → Off e events (each (cancel_take e) cs)
  takes_off [] known events = by_nothing
  takes_off (c ∷ cs) known events = by_then (by_send (plain_out e e (cancel_text c.number) (ap gives_list (cancel_says c.number (known.0).small) ∙ cancel_gives))) (takes_off cs known.1 (behind events (outs (cancel_take e c) events)))

  asks_off : (cs : List Ask) → AllByRecursion (IsAsked s before) cs → (events : List Event) → Off e events (each (cancel_ask e) cs)
  asks_off [] known events = by_nothing
  asks_off (a ∷ cs) known events = by_then (by_send (plain_out e e (cancel_text a.number) (ap gives_list (cancel_says a.number (known.0).small) ∙ cancel_gives))) (asks_off cs known.1 (behind events (outs (cancel_ask e a) events)))

  forgets_off : (events : List Event) → Off e events (unregister_any (live_of settings s before) e)
  forgets_off events = by_choose (λ some. by_look (by_choose (λ room. by_send (plain_out e e _ (ap gives_list (unregister_says (live_of settings s before) (live_written settings s before) (next_ask e events) (small room)).1))) (λ full. by_nothing))) (λ none. by_nothing)
    where
      small : has_number e events ≡ true → next_ask e events < 2 ^ 128
      small room = let low : next_ask e events < 2 ^ 64 = ltb-true (next_ask e events) (2 ^ 64) room in omega (arith, low)

  one_emptied : (l : LastList) → IsList l → (events : List Event) → lists_to e (outs (empty_list before e l) events) ≡ emptied e before l
  one_emptied l kept events = go (is_full e l.uri before)
    where
      go : (b : Bool) → lists_to e (outs (choose b (send (ToEditor e (empty_text l.uri))) nothing) events) ≡ (if b then empty_text l.uri ∷ [] else [])
      go true = ap₂ (λ a b. (if a && b then empty_text l.uri ∷ [] else []) ++ []) (same_number e) (ap gives_list (empty_says l.uri kept.spelt) ∙ list_gives)
      go false = refl

  all_emptied : (ls : List LastList) → AllByRecursion IsList ls → (events : List Event) → lists_to e (outs (each (empty_list before e) ls) events) ≡ flat_map (emptied e before) ls
  all_emptied [] kept events = refl
  all_emptied (l ∷ ls) kept events = lists_join e (outs (empty_list before e l) events) (outs (each (empty_list before e) ls) (behind events (outs (empty_list before e l) events)))
      ∙ ap₂ (λ u v. u ++ v) (one_emptied l kept.0 events) (all_emptied ls kept.1 (behind events (outs (empty_list before e l) events)))

  abbrev due : List (List ℕ)
  due = flat_map (emptied e before) (lists_of s before)

  own_lists : (events : List Event) → lists_to e (outs (lose_start settings before s e) events) ≡ due
  own_lists events =
      lists_join e first (second ++ (third ++ (fourth ++ fifth)))
      ∙ (ap (λ z. z ++ lists_to e (second ++ (third ++ (fourth ++ fifth)))) (off_lists e events (each (end_token s e (created_of settings s before)) (created_of settings s before).tokens) (tokens_off (created_of settings s before).tokens events))
      ∙ (lists_join e second (third ++ (fourth ++ fifth))
      ∙ (ap (λ z. z ++ lists_to e (third ++ (fourth ++ fifth))) (off_lists e at_1 (each (cancel_take e) (filter (unanswered_at e) (created_of settings s before).takings)) (takes_off (filter (unanswered_at e) (created_of settings s before).takings) (all_filtered (IsTake before) (IsTake before) (unanswered_at e) (λ c t k. k) (created_of settings s before).takings ((facts.steady).takes s)) at_1))
      ∙ (lists_join e third (fourth ++ fifth)
      ∙ (ap (λ z. z ++ lists_to e (fourth ++ fifth)) (off_lists e at_2 (each (cancel_ask e) (filter (is_with e) (asks_of settings s before))) (asks_off (filter (is_with e) (asks_of settings s before)) (all_filtered (IsAsked s before) (IsAsked s before) (is_with e) (λ a t k. k) (asks_of settings s before) ((facts.steady).asks s).asked) at_2))
      ∙ (lists_join e fourth fifth
      ∙ (ap (λ z. z ++ lists_to e fifth) (off_lists e at_3 (unregister_any (live_of settings s before) e) (forgets_off at_3))
      ∙ all_emptied (lists_of s before) (lists_kept s before (facts.base).meant) at_4)))))))
    where
      first : List Out
      first = outs (each (end_token s e (created_of settings s before)) (created_of settings s before).tokens) events

      at_1 : List Event
      at_1 = behind events first

      second : List Out
      second = outs (each (cancel_take e) (filter (unanswered_at e) (created_of settings s before).takings)) at_1

      at_2 : List Event
      at_2 = behind at_1 second

      third : List Out
      third = outs (each (cancel_ask e) (filter (is_with e) (asks_of settings s before))) at_2

      at_3 : List Event
      at_3 = behind at_2 third

      fourth : List Out
      fourth = outs (unregister_any (live_of settings s before) e) at_3

      at_4 : List Event
      at_4 = behind at_3 fourth

      fifth : List Out
      fifth = outs (each (empty_list before e) (lists_of s before)) at_4

  abbrev of_one : ℕ → List (List ℕ)
  of_one n = if nat_eq n e then due else []

  one_lists : (n : ℕ) (events : List Event) → lists_to e (outs (lose_start settings before s n) events) ≡ of_one n
  one_lists n events = go (nat_eq n e) refl
    where
      go : (b : Bool) → nat_eq n e ≡ b → lists_to e (outs (lose_start settings before s n) events) ≡ (if b then due else [])
      go true same = subst (λ z. lists_to e (outs (lose_start settings before s z) events) ≡ due) (sym (number_same n e same)) (own_lists events)
      go false off = off_lists e events (lose_start settings before s n) (start_by settings (λ places out. Listless e out) n (λ places body. other_out n body off) s before events)

  each_lists : (ns : List ℕ) (events : List Event) → lists_to e (outs (each (lose_start settings before s) ns) events) ≡ flat_map of_one ns
  each_lists [] events = refl
  each_lists (n ∷ ns) events = lists_join e (outs (lose_start settings before s n) events) (outs (each (lose_start settings before s) ns) (behind events (outs (lose_start settings before s n) events)))
      ∙ ap₂ (λ u v. u ++ v) (one_lists n events) (each_lists ns (behind events (outs (lose_start settings before s n) events)))

  -- no editor but e, and e once
  module _ (g : ℕ) where
    abbrev P : ℕ → Bool
    P n = is_running (desk_of n before).phase && is_home g (home_of settings n before)

    abbrev in_all : ℕ → List (List ℕ)
    in_all n = if P n then of_one n else []

    others : (n : ℕ) → nat_eq n e ≡ false → in_all n ≡ []
    others n off = go (P n)
      where
        go : (a : Bool) → (if a then of_one n else []) ≡ []
        go true = ap (λ b. if b then due else []) off
        go false = refl

    here : in_all e ≡ (if P e then due else [])
    here = ap (λ b. if P e then (if b then due else []) else []) (same_number e)

    joined : P e ≡ true → e < editors_of before
    joined runs = go (nat_le (editors_of before) e) refl
      where
        running : (a b : Bool) → (a && b) ≡ true → a ≡ true
        running true b h = refl
        running false b h = never (sym h)

        go : (b : Bool) → nat_le (editors_of before) e ≡ b → e < editors_of before
        go false low = let h = leb-false (editors_of before) e low in omega (arith, h)
        go true high = never (sym (running (is_running (desk_of e before).phase) (is_home g (home_of settings e before)) runs) ∙ ap is_running ((facts.steady).editors e (leb-true (editors_of before) e high)))

    all_here : flat_map in_all (range_with_len 0 (editors_of before)) ≡ (if P e then due else [])
    all_here = go (P e) refl
      where
        none : P e ≡ false → (n : ℕ) → in_all n ≡ []
        none off n = by (nat_eq n e) refl
          where
            by : (b : Bool) → nat_eq n e ≡ b → in_all n ≡ []
            by false other = others n other
            by true same = ap in_all (number_same n e same) ∙ ap (λ b. if b then of_one e else []) off

        flat_none : (h : (n : ℕ) → in_all n ≡ []) (ns : List ℕ) → flat_map in_all ns ≡ []
        flat_none h [] = refl
        flat_none h (n ∷ ns) = ap₂ (λ u v. u ++ v) (h n) (flat_none h ns)

        go : (b : Bool) → P e ≡ b → flat_map in_all (range_with_len 0 (editors_of before)) ≡ (if b then due else [])
        go true runs = only_one in_all e others 0 (editors_of before) (omega arith) (let high = joined runs in omega (arith, high)) ∙ (here ∙ ap (λ b. if b then due else []) runs)
        go false off = flat_none (none off) (range_with_len 0 (editors_of before))

    group_lists : (events : List Event) → lists_to e (outs (each (lose_start settings before s) (running_in settings g before)) events) ≡ (if P e then due else [])
    group_lists events = each_lists (running_in settings g before) events ∙ (flat_kept of_one P (range_with_len 0 (editors_of before)) ∙ all_here)

  -- X3: an editor that ran doesn't wait
  module _ (ran : (desk_of e before).phase ≡ Running) where
    waits_not : (xs : List Out) → is_waiting (desk_of e (behind now xs)).phase ≡ true → ⊥
    waits_not xs waits = never (sym (outs_tested is_waiting waiting_told waiting_closed e now xs waits) ∙ (ap (λ (d : Desk). is_waiting d.phase) (exit.desk e) ∙ ap is_waiting ran))

    turned_off : (g : ℕ) (es : List ℕ) (xs : List Out) → AllHeld settings (behind now xs) → Off e (behind now xs) (each (turn_out settings g) es)
    turned_off g [] xs held = by_nothing
    turned_off g (n ∷ es) xs held = by_then (turned_by settings (λ places out. Listless e out) (λ places i text id y says. plain_out e i text (ap gives_list says)) g n (behind now xs) held (λ places. refl) (by_look (by_choose (λ waits. by_send (by (nat_eq n e) refl waits _)) (λ late. by_nothing))))
        (subst (λ z. Off e z (each (turn_out settings g) es)) (behind_both now xs (outs (turn_out settings g n) (behind now xs))) (turned_off g es (xs ++ outs (turn_out settings g n) (behind now xs))
        (subst (AllHeld settings) (sym (behind_both now xs (outs (turn_out settings g n) (behind now xs)))) (held_turned settings g n (behind now xs) held))))
      where
        by : (b : Bool) → nat_eq n e ≡ b → is_waiting (desk_of n (behind now xs)).phase ≡ true → (body : List ℕ) → Listless e (ToEditor n body)
        by true same waits body = absurd (waits_not xs (subst (λ z. is_waiting (desk_of z (behind now xs)).phase ≡ true) (number_same n e same) waits))
        by false off waits body = other_out n body off

    known : AllByRecursion (IsForwarded before) fs
    known = asked_while settings before (facts.steady).asked facts.quit e (ap is_there ran) s

    module _ (g : ℕ) where
      abbrev errors : List Out
      errors = outs (each (lose_sent settings before s) (members_in settings g before)) now

      abbrev told : List Event
      told = behind now errors

      abbrev losing : Row
      losing = choose (is_ready (life_of s before).stage) (each (lose_start settings before s) (running_in settings g before)) nothing

      abbrev losses : List Out
      losses = outs losing told

      losing_lists : lists_to e losses ≡ (if is_ready (life_of s before).stage then (if P g e then due else []) else [])
      losing_lists = go (is_ready (life_of s before).stage)
        where
          go : (b : Bool) → lists_to e (outs (choose b (each (lose_start settings before s) (running_in settings g before)) nothing) told) ≡ (if b then (if P g e then due else []) else [])
          go true = group_lists g told
          go false = refl

      abbrev ending : Kept → Row
      ending x = choose (starts_again settings before g x) (spawn g) (each (turn_out settings g) (members_in settings g before))

      ends_off : (x : Kept) → AllHeld settings (behind now (errors ++ losses)) → Off e (behind told losses) (ending x)
      ends_off x held = by_choose (λ again. by_look (by_send refl)) (λ last. subst (λ z. Off e z (each (turn_out settings g) (members_in settings g before))) (behind_both now errors losses) (turned_off g (members_in settings g before) (errors ++ losses) held))

      live_lists : (x : Kept) → AllHeld settings (behind now (errors ++ losses)) → lists_to e (outs (each (lose_sent settings before s) (members_in settings g before) ⨾ (losing ⨾ ending x)) now) ≡ (if is_ready (life_of s before).stage then (if P g e then due else []) else [])
      live_lists x held = lists_join e errors (losses ++ outs (ending x) (behind told losses))
          ∙ (ap (λ z. z ++ lists_to e (losses ++ outs (ending x) (behind told losses))) (off_lists e now (each (lose_sent settings before s) (members_in settings g before)) (sent_off known (members_in settings g before) now))
          ∙ (lists_join e losses (outs (ending x) (behind told losses))
          ∙ (ap₂ (λ u v. u ++ v) losing_lists (off_lists e (behind told losses) (ending x) (ends_off x held))
          ∙ append-nil (if is_ready (life_of s before).stage then (if P g e then due else []) else []))))

      home_is : (o : Option ℕ) → is_home g o ≡ true → o ≡ Some g
      home_is None h = never (sym h)
      home_is (Some i) h = ap (λ n. Some n) (number_same i g h)

      -- in a group that lives no more none runs
      none_runs : lives_at g (groups_of settings before) ≡ false → P g e ≡ false
      none_runs over = go (P g e) refl
        where
          go : (b : Bool) → P g e ≡ b → b ≡ false
          go true runs = never (sym (lives_of settings before settled.lively e g (ap is_answered ran) (home_is (home_of settings e before) (and_parts (is_running (desk_of e before).phase) (is_home g (home_of settings e before)) runs).1)) ∙ over)
          go false off = refl

      abbrev Due : Bool → List (List ℕ)
      Due b = if is_ready (life_of s before).stage && b then due else []

      both : (a b : Bool) → (if a then (if b then due else []) else []) ≡ (if a && b then due else [])
      both true b = refl
      both false b = refl

      nothing_due : (a : Bool) → [] ≡ (if a && false then due else [])
      nothing_due true = refl
      nothing_due false = refl

      kept_lists : group_of s before ≡ Some g → (o : Option Kept) → slice_get (groups_of settings before) g ≡ o → lists_to e (outs (on o nothing (exit_in settings before s g)) now) ≡ Due (P g e)
      kept_lists home None none = nothing_due (is_ready (life_of s before).stage) ∙ ap Due (sym (none_runs (ap lives none)))
      kept_lists home (Some x) found = go x.live refl
        where
          whole : x.live ≡ true → outs_of settings before cause ≡ (errors ++ losses) ++ outs (ending x) (behind told losses)
          whole live = exit.row ∙ (ap (λ o. outs (on o nothing (λ h. on (slice_get (groups_of settings before) h) nothing (exit_in settings before s h))) now) home
              ∙ (ap (λ o. outs (on o nothing (exit_in settings before s g)) now) found
              ∙ (ap (λ b. outs (choose b (each (lose_sent settings before s) (members_in settings g before) ⨾ (losing ⨾ ending x)) nothing) now) live
              ∙ sym (append_assoc errors losses (outs (ending x) (behind told losses))))))

          go : (b : Bool) → x.live ≡ b → lists_to e (outs (choose b (each (lose_sent settings before s) (members_in settings g before) ⨾ (losing ⨾ ending x)) nothing) now) ≡ Due (P g e)
          go true live = live_lists x (held_lost settings before cause range facts s exit (errors ++ losses) (outs (ending x) (behind told losses)) (whole live)) ∙ both (is_ready (life_of s before).stage) (P g e)
          go false over = nothing_due (is_ready (life_of s before).stage) ∙ ap Due (sym (none_runs (ap lives found ∙ over)))

    by_group : (o : Option ℕ) → group_of s before ≡ o → lists_to e (outs (on o nothing (λ g. on (slice_get (groups_of settings before) g) nothing (exit_in settings before s g))) now) ≡ due_ending settings s e before
    by_group o at = go o at (hears_by (is_ready (life_of s before).stage) refl)
      where
        hears_by : (b : Bool) → is_ready (life_of s before).stage ≡ b → (b && (is_running (desk_of e before).phase && serves settings before s e)) ≡ (b && (is_running (desk_of e before).phase && option_map_or (λ g. is_home g (home_of settings e before)) o false))
        hears_by true ready = ap (λ b. is_running (desk_of e before).phase && b) (serves_is settings before facts settled lasts e s (ap is_ended (ready_is (life_of s before).stage ready)) ∙ ap (λ p. option_map_or (λ g. is_home g (home_of settings e before)) p false) at)
        hears_by false early = refl

        off : (a b : Bool) → (a && (b && false)) ≡ false
        off true true = refl
        off true false = refl
        off false b = refl

        go : (p : Option ℕ) → group_of s before ≡ p → is_hearing settings s e before ≡ (is_ready (life_of s before).stage && (is_running (desk_of e before).phase && option_map_or (λ g. is_home g (home_of settings e before)) p false))
            → lists_to e (outs (on p nothing (λ g. on (slice_get (groups_of settings before) g) nothing (exit_in settings before s g))) now) ≡ due_ending settings s e before
        go (Some g) home hears = kept_lists g home (slice_get (groups_of settings before) g) refl ∙ ap (λ b. if b then due else []) (sym hears)
        go None home hears = ap (λ b. if b then due else []) (sym (hears ∙ off (is_ready (life_of s before).stage) (is_running (desk_of e before).phase)))

  pub ending_lists : lists_to e (outs_of settings before cause) ≡ due_ending settings s e before
  ending_lists = go (is_running (desk_of e before).phase) refl
    where
      off : (a : Bool) → [] ≡ (if a && false then due else [])
      off true = refl
      off false = refl

      go : (b : Bool) → is_running (desk_of e before).phase ≡ b → lists_to e (outs_of settings before cause) ≡ due_ending settings s e before
      go true on = ap (lists_to e) exit.row ∙ by_group (running_is settings before (desk_of e before).phase on) (group_of s before) refl
      go false none = unrun_off settings before cause e now (outs_of settings before cause) (reasons settings range before facts cause).why (ap (λ (d : Desk). is_running d.phase) (exit.desk e) ∙ none)
          ∙ (off (is_ready (life_of s before).stage) ∙ ap (λ b. if is_ready (life_of s before).stage && (b && serves settings before s e) then due else []) (sym none))
