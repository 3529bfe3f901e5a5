-- X2 of every exit: of each editor that ran in the group of the start nothing of that start is left open.
use Rattle.std.proofs.Common.{◌≡◌, ℕ, ◌+◌, ◌<◌, ◌≤◌, Bool, true, false, ◌&&◌, ◌||◌, List, ◌++◌, bytes_eq, filter, flat_map, fold, nat_eq, refl, sym, ◌∙◌, ap, ap₂, subst, arith}
use Rattle.std.specs.List.{AllByRecursion, list_any}
use Rattle.std.specs.Option.{option_map_or}
use Rattle.std.proofs.lemmas.Bool.{and_parts}
use Rattle.std.proofs.lemmas.Slice.Eq.{bytes_eq-Decides}
use Rattle.mux_history.specs.declared.cause.Cause.{Cause}
use Rattle.mux_history.specs.declared.out.Out.{Out}
use Rattle.mux_history.specs.declared.out.Out.TheVariants.{ToEditor}
use Rattle.event_model.specs.Event.{Event, behind, with_cause}
use Rattle.event_model.specs.Phases.{desk_of, editors_of, is_running}
use Rattle.event_model.specs.Row.{choose, each, nothing, outs, send}
use Rattle.event_model.specs.Settings.{Settings}
use Rattle.event_model.specs.Stages.{is_ended, is_ready, life_of}
use Rattle.event_model.proofs.Frames.{never}
use Rattle.mux_facts.proofs.DocumentRow.{ready_is}
use Rattle.mux_facts.proofs.Words.{same_number}
use Rattle.group_words.specs.Houses.{home_of, is_home}
use Rattle.group_rows.specs.diagnostics_route.specs.declared.last_list.LastList.{LastList}
use Rattle.group_rows.specs.Asks.{Ask, asks_of, is_with, running_in, serves}
use Rattle.group_rows.specs.Created.{Created, Taking, Token, created_of, created_text}
use Rattle.group_rows.specs.ExitRows.{cancel_ask, cancel_take, empty_list, end_text, end_token, has_begun, is_full, lose_start, lost_row, unanswered_at}
use Rattle.group_rows.specs.Leaves.{cancel_text}
use Rattle.group_rows.specs.Lists.{lists_of}
use Rattle.group_rows.specs.Live.{live_of}
use Rattle.group_rows.specs.LiveRows.{unregister_any}
use Rattle.group_rows.proofs.ListsKept.{IsList, lists_kept}
use Rattle.group_facts.specs.Settled.{Settled}
use Rattle.group_facts.proofs.ExitEntry.{Exit}
use Rattle.group_facts.proofs.Facts.{Facts}
use Rattle.group_facts.proofs.LastStarts.{AllLast}
use Rattle.group_facts.proofs.PutOut.{named_in}
use Rattle.group_facts.proofs.Sent.{OneOf}
use Rattle.group_sessions.proofs.ExitOuts.{Lives, all_ones, any_each, any_first, any_second, ending, errors, exit_parts, losses, one_has, one_kept, one_named, told}
use Rattle.group_sessions.proofs.ListsEmpty.{by_list, full_exit, full_outs, gets_empty, stays_empty}
use Rattle.group_sessions.proofs.ListsShown.{serves_is}
use Rattle.group_sessions.specs.ExitReplay.{IsAskBack, IsEmpty, IsEnded, IsTakeBack, sends}
use Rattle.group_sessions.specs.LastLists.{emptied, is_hearing, lists_to}

module _ (settings : Settings) (before : List Event) (facts : Facts settings before) (settled : Settled settings before) (lasts : AllLast before) (cause : Cause) (s : ℕ) (exit : Exit settings before cause s) (k : Lives settings before s) (slow : List Out) (e : ℕ) (hears : is_hearing settings s e before ≡ true) where
  abbrev now : List Event
  now = with_cause before cause

  abbrev x : Created
  x = created_of settings s before

  abbrev row : List Out
  row = outs (lost_row settings before s) now

  ready : is_ready (life_of s before).stage ≡ true
  ready = (and_parts (is_ready (life_of s before).stage) (is_running (desk_of e before).phase && serves settings before s e) hears).0

  seat : (is_running (desk_of e before).phase ≡ true) × (serves settings before s e ≡ true)
  seat = and_parts (is_running (desk_of e before).phase) (serves settings before s e) (and_parts (is_ready (life_of s before).stage) (is_running (desk_of e before).phase && serves settings before s e) hears).1

  pub home : is_home k.group (home_of settings e before) ≡ true
  home = sym (serves_is settings before facts settled lasts e s (ap is_ended (ready_is (life_of s before).stage ready)) ∙ ap (λ o. option_map_or (λ g. is_home g (home_of settings e before)) o false) k.home) ∙ seat.1

  named : list_any (λ n. nat_eq n e) (running_in settings k.group before) ≡ true
  named = named_in (λ n. is_running (desk_of n before).phase && is_home k.group (home_of settings n before)) 0 (editors_of before) e (omega arith) joined (ap₂ (λ a b. a && b) seat.0 home)
    where
      joined : e < 0 + editors_of before
      joined = let known : editors_of before ≤ e → ⊥ = λ le. never (sym seat.0 ∙ ap is_running ((facts.steady).editors e le)) in omega (arith, known)

  -- what X2 sends it is sent
  among : (test : Out → Bool) → ((events : List Event) → list_any test (outs (lose_start settings before s e) events) ≡ true) → list_any test (row ++ slow) ≡ true
  among test f = any_first test row slow (subst (λ z. list_any test z ≡ true) (sym (exit_parts settings before s k now))
      (any_second test (errors settings before s k now) (losses settings before s k now ++ outs (ending settings before s k now) (behind (told settings before s k now) (losses settings before s k now)))
      (any_first test (losses settings before s k now) (outs (ending settings before s k now) (behind (told settings before s k now) (losses settings before s k now))) lost)))
    where
      lost : list_any test (losses settings before s k now) ≡ true
      lost = ap (λ b. list_any test (outs (choose b (each (lose_start settings before s) (running_in settings k.group before)) nothing) (told settings before s k now))) ready
          ∙ any_each test (lose_start settings before s) (λ (n : ℕ). n ≡ e) (λ n events is. subst (λ z. list_any test (outs (lose_start settings before s z) events) ≡ true) (sym is) (f events)) (running_in settings k.group before) (one_named e (running_in settings k.group before) named) (told settings before s k now)

  own : (text : List ℕ) → (((nat_eq e e && bytes_eq text text) || false) ≡ true)
  own text = ap₂ (λ a b. (a && b) || false) (same_number e) ((bytes_eq-Decides text text).1 refl)

  module _ (events : List Event) where
    abbrev first : List Out
    first = outs (each (end_token s e x) x.tokens) events

    abbrev at_1 : List Event
    at_1 = behind events first

    abbrev second : List Out
    second = outs (each (cancel_take e) (filter (unanswered_at e) x.takings)) at_1

    abbrev at_2 : List Event
    at_2 = behind at_1 second

    abbrev third : List Out
    third = outs (each (cancel_ask e) (filter (is_with e) (asks_of settings s before))) at_2

    abbrev at_3 : List Event
    at_3 = behind at_2 third

    abbrev fourth : List Out
    fourth = outs (unregister_any (live_of settings s before) e) at_3

    abbrev fifth : List Out
    fifth = outs (each (empty_list before e) (lists_of s before)) (behind at_3 fourth)

    ends_there : (t : Token) → OneOf (λ (y : Token). y ≡ t) x.tokens → has_begun e t.number x ≡ true → list_any (sends e (end_text (created_text s t.number))) (outs (lose_start settings before s e) events) ≡ true
    ends_there t one begun = any_first (sends e (end_text (created_text s t.number))) first (second ++ (third ++ (fourth ++ fifth)))
        (any_each (sends e (end_text (created_text s t.number))) (end_token s e x) (λ (y : Token). y ≡ t) (λ y place is. subst (λ z. list_any (sends e (end_text (created_text s t.number))) (outs (end_token s e x z) place) ≡ true) (sym is)
        (ap (λ b. list_any (sends e (end_text (created_text s t.number))) (outs (choose b (send (ToEditor e (end_text (created_text s t.number)))) nothing) place)) begun ∙ own (end_text (created_text s t.number)))) x.tokens one events)

    take_there : (c : Taking) → OneOf (λ (y : Taking). y ≡ c) x.takings → unanswered_at e c ≡ true → list_any (sends e (cancel_text c.number)) (outs (lose_start settings before s e) events) ≡ true
    take_there c one open_yet = any_second (sends e (cancel_text c.number)) first (second ++ (third ++ (fourth ++ fifth)))
        (any_first (sends e (cancel_text c.number)) second (third ++ (fourth ++ fifth))
        (any_each (sends e (cancel_text c.number)) (cancel_take e) (λ (y : Taking). y ≡ c) (λ y place is. subst (λ z. list_any (sends e (cancel_text c.number)) (outs (cancel_take e z) place) ≡ true) (sym is) (own (cancel_text c.number)))
        (filter (unanswered_at e) x.takings) (one_kept (unanswered_at e) (λ (y : Taking). y ≡ c) (λ y same. ap (unanswered_at e) same ∙ open_yet) x.takings one) at_1))

    ask_there : (a : Ask) → OneOf (λ (y : Ask). y ≡ a) (asks_of settings s before) → is_with e a ≡ true → list_any (sends e (cancel_text a.number)) (outs (lose_start settings before s e) events) ≡ true
    ask_there a one its = any_second (sends e (cancel_text a.number)) first (second ++ (third ++ (fourth ++ fifth)))
        (any_second (sends e (cancel_text a.number)) second (third ++ (fourth ++ fifth))
        (any_first (sends e (cancel_text a.number)) third (fourth ++ fifth)
        (any_each (sends e (cancel_text a.number)) (cancel_ask e) (λ (y : Ask). y ≡ a) (λ y place is. subst (λ z. list_any (sends e (cancel_text a.number)) (outs (cancel_ask e z) place) ≡ true) (sym is) (own (cancel_text a.number)))
        (filter (is_with e) (asks_of settings s before)) (one_kept (is_with e) (λ (y : Ask). y ≡ a) (λ y same. ap (is_with e) same ∙ its) (asks_of settings s before) one) at_2)))

  pub tokens_ended : AllByRecursion (IsEnded settings before s (row ++ slow) e) x.tokens
  tokens_ended = all_ones (IsEnded settings before s (row ++ slow) e) x.tokens (λ t one begun. among (sends e (end_text (created_text s t.number))) (λ events. ends_there events t one begun))

  pub takes_back : AllByRecursion (IsTakeBack e (row ++ slow)) x.takings
  takes_back = all_ones (IsTakeBack e (row ++ slow)) x.takings (λ c one open_yet. among (sends e (cancel_text c.number)) (λ events. take_there events c one open_yet))

  pub asks_back : AllByRecursion (IsAskBack e (row ++ slow)) (asks_of settings s before)
  asks_back = all_ones (IsAskBack e (row ++ slow)) (asks_of settings s before) (λ a one its. among (sends e (cancel_text a.number)) (λ events. ask_there events a one its))

  -- each document's last list that it was sent is empty
  pub lists_emptied : (xs : List Out) → lists_to e xs ≡ flat_map (emptied e before) (lists_of s before) → AllByRecursion (IsEmpty (behind now xs) e) (lists_of s before)
  lists_emptied xs sent = all_ones (IsEmpty (behind now xs) e) (lists_of s before) (λ l one. full_outs e l.uri now xs ∙ (ap₂ (λ b ts. fold (by_list e l.uri) b ts) (full_exit e l.uri before cause s exit.is) sent ∙ by_full l one (is_full e l.uri before) refl))
    where
      kept : AllByRecursion IsList (lists_of s before)
      kept = lists_kept s before (facts.base).meant

      by_full : (l : LastList) → OneOf (λ (y : LastList). y ≡ l) (lists_of s before) → (b : Bool) → is_full e l.uri before ≡ b → fold (by_list e l.uri) (is_full e l.uri before) (flat_map (emptied e before) (lists_of s before)) ≡ false
      by_full l one true held = gets_empty e l.uri before held (lists_of s before) kept (one_has (λ (y : LastList). y.uri ≡ l.uri) l refl (lists_of s before) one) (is_full e l.uri before)
      by_full l one false none = ap (λ b. fold (by_list e l.uri) b (flat_map (emptied e before) (lists_of s before))) none ∙ stays_empty e l.uri before (lists_of s before) kept
