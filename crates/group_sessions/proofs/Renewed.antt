-- X2, where the group of a start that ends goes on: nothing is registered any more at an editor that ran in it, or it can be asked nothing more.
use Rattle.std.proofs.Common.{◌≡◌, ℕ, ◌+◌, ◌<◌, ◌≤◌, Bool, true, false, ◌&&◌, ◌||◌, List, [], ◌∷◌, ◌++◌, append_assoc, filter, map, nat_eq, Some, inl, inr, refl, sym, ◌∙◌, ap, ap₂, subst, arith}
use Rattle.std.specs.List.{list_any}
use Rattle.mux_history.specs.declared.cause.Cause.{Cause}
use Rattle.mux_history.specs.declared.out.Out.{Out}
use Rattle.mux_history.specs.declared.out.Out.TheVariants.{Spawn, ToEditor}
use Rattle.event_model.specs.Always.{Always}
use Rattle.event_model.specs.Event.{Event, behind, said, with_cause}
use Rattle.event_model.specs.Parts.{editor_part}
use Rattle.event_model.specs.Phases.{desk_of, editors_of, is_running}
use Rattle.event_model.specs.Row.{choose, each, nothing, outs, send}
use Rattle.event_model.specs.Settings.{Settings}
use Rattle.event_model.specs.Spawns.{starts_of}
use Rattle.event_model.specs.Stages.{is_ready, life_of}
use Rattle.event_model.proofs.Frames.{never}
use Rattle.mux_facts.specs.Ranges.{InRange}
use Rattle.mux_facts.proofs.Keeps.{behind_both, behind_nothing}
use Rattle.mux_facts.proofs.Reasons.{Reasons, reasons_keep}
use Rattle.mux_facts.proofs.Words.{number_same, same_number}
use Rattle.session_laws.specs.ClientRules.{ClientRule7}
use Rattle.registrations.specs.declared.registration.Registration.{Registration}
use Rattle.group_words.specs.Houses.{home_of, is_home}
use Rattle.group_rows.specs.Asks.{asks_of, has_number, is_with, members_in, next_ask, running_in}
use Rattle.group_rows.specs.Created.{created_of}
use Rattle.group_rows.specs.ExitRows.{cancel_ask, cancel_take, empty_list, end_token, lose_sent, lose_start, lost_row, unanswered_at}
use Rattle.group_rows.specs.Lists.{lists_of}
use Rattle.group_rows.specs.Live.{live_of, unregister_text}
use Rattle.group_rows.specs.LiveRows.{call, has_some, unregister_any}
use Rattle.group_rows.specs.Rows.{outs_of}
use Rattle.group_rows.proofs.LiveTexts.{live_written}
use Rattle.group_facts.specs.Why.{IsLost, Why}
use Rattle.group_facts.proofs.ExitEntry.{Exit}
use Rattle.group_facts.proofs.Exits.{RenewsGroup}
use Rattle.group_facts.proofs.Facts.{Facts}
use Rattle.group_facts.proofs.PutOut.{named_in}
use Rattle.group_facts.proofs.Table.{reasons}
use Rattle.group_sessions.proofs.Enrolled.{Same}
use Rattle.group_sessions.proofs.Registered.{Cleared, Going, begins, cleared_by, clears_on, goes, going_now, ids, is_change}

reasons_parts : (R : List Event → Out → Type 0) (events : List Event) (xs ys : List Out) → Reasons R events (xs ++ ys) → Reasons R events xs × Reasons R (behind events xs) ys
reasons_parts R events [] ys r = (tt, subst (λ z. Reasons R z ys) (sym (behind_nothing events)) r)
reasons_parts R events (x ∷ xs) ys r = let k = reasons_parts R (events ++ said x ∷ []) xs ys r.1 in ((r.0, k.0), subst (λ z. Reasons R z ys) (append_assoc events (said x ∷ []) (map said xs)) k.1)

module _ (settings : Settings) (before : List Event) (cause : Cause) (same : is_change before cause ≡ false) (e : ℕ) (runs : begins before cause e ≡ false)
    (tied : (s : ℕ) → IsLost settings before cause e s → has_number e before ≡ true → Same (ids e before) (live_of settings s before)) where
  abbrev now : List Event
  now = with_cause before cause

  abbrev Reason : List Event → Out → Type 0
  Reason events out = Why settings before cause events out

  abbrev Goes : List Event → Type 0
  Goes events = Going settings before cause same e runs tied events

  abbrev Clear : List Event → Type 0
  Clear events = Cleared settings before cause same e runs tied events

  still_clear : (events : List Event) (xs : List Out) → Reasons Reason events xs → Clear events → Clear (behind events xs)
  still_clear = reasons_keep Reason Clear (clears_on settings before cause same e runs tied)

  still_goes : (events : List Event) (xs : List Out) → Reasons Reason events xs → Goes events → Goes (behind events xs)
  still_goes = reasons_keep Reason Goes (goes settings before cause same e runs tied)

  module _ (s : ℕ) (some : has_some (live_of settings s before) ≡ true) where
    abbrev live : List Registration
    live = live_of settings s before

    forgets_all : (events : List Event) → Goes events → Reasons Reason events (outs (unregister_any live e) events) → Clear (behind events (outs (unregister_any live e) events))
    forgets_all events h r = subst (λ b. Reasons Reason events (outs (choose b (call (unregister_text live) e) nothing) events) → Clear (behind events (outs (choose b (call (unregister_text live) e) nothing) events))) (sym some) (by_room (has_number e events) refl) r
      where
        by_room : (b : Bool) → has_number e events ≡ b → Reasons Reason events (outs (choose b (send (ToEditor e (unregister_text live (next_ask e events)))) nothing) events)
            → Clear (behind events (outs (choose b (send (ToEditor e (unregister_text live (next_ask e events)))) nothing) events))
        by_room true room q = inl (cleared_by settings before cause same e runs tied live (live_written settings s before) events room h q.0)
        by_room false none q = inr (ap (has_number e) (behind_nothing events) ∙ none)

    -- the editor's own part
    lose_clear : (events : List Event) → Goes events → Reasons Reason events (outs (lose_start settings before s e) events) → Clear (behind events (outs (lose_start settings before s e) events))
    lose_clear events h r = subst Clear (sym whole) (still_clear (behind at_3 fourth) fifth p_4.1 (forgets_all at_3 (still_goes at_2 third p_3.0 (still_goes at_1 second p_2.0 (still_goes events first p_1.0 h))) p_4.0))
      where
        first : List Out
        first = outs (each (end_token s e (created_of settings s before)) (created_of settings s before).tokens) events

        at_1 : List Event
        at_1 = behind events first

        second : List Out
        second = outs (each (cancel_take e) (filter (unanswered_at e) (created_of settings s before).takings)) at_1

        at_2 : List Event
        at_2 = behind at_1 second

        third : List Out
        third = outs (each (cancel_ask e) (filter (is_with e) (asks_of settings s before))) at_2

        at_3 : List Event
        at_3 = behind at_2 third

        fourth : List Out
        fourth = outs (unregister_any live e) at_3

        fifth : List Out
        fifth = outs (each (empty_list before e) (lists_of s before)) (behind at_3 fourth)

        p_1 : Reasons Reason events first × Reasons Reason at_1 (second ++ (third ++ (fourth ++ fifth)))
        p_1 = reasons_parts Reason events first (second ++ (third ++ (fourth ++ fifth))) r

        p_2 : Reasons Reason at_1 second × Reasons Reason at_2 (third ++ (fourth ++ fifth))
        p_2 = reasons_parts Reason at_1 second (third ++ (fourth ++ fifth)) p_1.1

        p_3 : Reasons Reason at_2 third × Reasons Reason at_3 (fourth ++ fifth)
        p_3 = reasons_parts Reason at_2 third (fourth ++ fifth) p_2.1

        p_4 : Reasons Reason at_3 fourth × Reasons Reason (behind at_3 fourth) fifth
        p_4 = reasons_parts Reason at_3 fourth fifth p_3.1

        whole : behind events (first ++ (second ++ (third ++ (fourth ++ fifth)))) ≡ behind (behind at_3 fourth) fifth
        whole = behind_both events first (second ++ (third ++ (fourth ++ fifth))) ∙ (behind_both at_1 second (third ++ (fourth ++ fifth)) ∙ (behind_both at_2 third (fourth ++ fifth) ∙ behind_both at_3 fourth fifth))

    each_clear : (ns : List ℕ) → list_any (λ n. nat_eq n e) ns ≡ true → (events : List Event) → Goes events → Reasons Reason events (outs (each (lose_start settings before s) ns) events) → Clear (behind events (outs (each (lose_start settings before s) ns) events))
    each_clear [] named events h r = never (sym named)
    each_clear (n ∷ ns) named events h r = subst Clear (sym (behind_both events here rest)) (go (nat_eq n e) refl named (λ k. each_clear ns k (behind events here) (still_goes events here p.0 h) p.1))
      where
        here : List Out
        here = outs (lose_start settings before s n) events

        rest : List Out
        rest = outs (each (lose_start settings before s) ns) (behind events here)

        p : Reasons Reason events here × Reasons Reason (behind events here) rest
        p = reasons_parts Reason events here rest r

        go : (b : Bool) → nat_eq n e ≡ b → (b || list_any (λ k. nat_eq k e) ns) ≡ true → (list_any (λ k. nat_eq k e) ns ≡ true → Clear (behind (behind events here) rest)) → Clear (behind (behind events here) rest)
        go true own k later = still_clear (behind events here) rest p.1
            (subst (λ i. Reasons Reason events (outs (lose_start settings before s i) events) → Clear (behind events (outs (lose_start settings before s i) events))) (sym (number_same n e own)) (lose_clear events h) p.0)
        go false other k later = later k

    -- a whole entry
    module _ (range : InRange settings) (facts : Facts settings before) (exit : Exit settings before cause s) (k : RenewsGroup settings before s) (ready : is_ready (life_of s before).stage ≡ true) where
      abbrev errors : List Out
      errors = outs (each (lose_sent settings before s) (members_in settings k.group before)) now

      abbrev told : List Event
      told = behind now errors

      abbrev losses : List Out
      losses = outs (each (lose_start settings before s) (running_in settings k.group before)) told

      abbrev last : List Out
      last = Spawn (starts_of (behind told losses)) k.group ∷ []

      parts : outs_of settings before cause ≡ errors ++ (losses ++ last)
      parts = exit.row ∙ goes_on
        where
          goes_on : outs (lost_row settings before s) now ≡ errors ++ (losses ++ last)
          goes_on = rw (k.home, k.found, k.live, k.again, ready) refl

      pub renewed_clear : Always ClientRule7 (editor_part e before) → is_running (desk_of e before).phase ≡ true → home_of settings e before ≡ Some k.group → Clear (behind now (outs_of settings before cause))
      renewed_clear always running home = subst Clear (sym (ap (behind now) parts ∙ (behind_both now errors (losses ++ last) ∙ behind_both told losses last)))
          (still_clear (behind told losses) last q.1 (each_clear (running_in settings k.group before) named told (still_goes now errors p.0 (going_now settings before cause same e runs tied always)) q.0))
        where
          p : Reasons Reason now errors × Reasons Reason told (losses ++ last)
          p = reasons_parts Reason now errors (losses ++ last) (subst (Reasons Reason now) parts (reasons settings range before facts cause).why)

          q : Reasons Reason told losses × Reasons Reason (behind told losses) last
          q = reasons_parts Reason told losses last p.1

          below : e < 0 + editors_of before
          below = let known : editors_of before ≤ e → ⊥ = λ le. never (sym running ∙ ap is_running ((facts.steady).editors e le)) in omega (arith, known)

          named : list_any (λ n. nat_eq n e) (running_in settings k.group before) ≡ true
          named = named_in (λ n. is_running (desk_of n before).phase && is_home k.group (home_of settings n before)) 0 (editors_of before) e (omega arith) below (ap₂ (λ a b. a && b) running (ap (is_home k.group) home ∙ same_number k.group))
