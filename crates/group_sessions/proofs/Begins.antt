-- What is registered at an editor behind its message by which it begins to run (L2).
use Rattle.std.proofs.Common.{arith, ◌<◌, ◌≡◌, ℕ, ◌^◌, Bool, true, false, not, ◌&&◌, ◌||◌, List, [], ◌∷◌, ◌++◌, append-nil, append_assoc, bytes_eq, codes, decimal, map, if◌then◌else◌, Option, Some, None, ◌⊎◌, inl, inr, refl, sym, ◌∙◌, ap, subst, subst₂, ltb-true}
use Rattle.std.specs.List.{AllByRecursion}
use Rattle.mux_history.specs.declared.cause.Cause.TheVariants.{FromEditor}
use Rattle.mux_history.specs.declared.out.Out.{Out}
use Rattle.mux_history.specs.declared.out.Out.TheVariants.{ToEditor, ToServer, Spawn, CloseEditor, EndServer}
use Rattle.rpc_message.specs.Message.{Message, request, notification, result, error, not_json, not_message, integer, message_of}
use Rattle.rpc_message.specs.Texts.{with_id_text}
use Rattle.rpc_message.proofs.Decimals.{decimal_law}
use Rattle.rpc_message.proofs.Ids.{request_with_id}
use Rattle.event_model.specs.declared.phase.Phase.TheVariants.{Answered, Gone, Running}
use Rattle.event_model.specs.declared.phase.Phase.{Phase}
use Rattle.event_model.specs.declared.stage.Stage.{Stage}
use Rattle.event_model.specs.declared.stage.Stage.TheVariants.{Unspawned, Spawning, Initializing, Ready, Stopping, Ending, Ended}
use Rattle.event_model.specs.Event.{Event, behind, heard, requests, said, with_cause}
use Rattle.event_model.specs.Phases.{Desk, desk_of, is_malformed, is_new, is_running, makes_running, needs_server, phase_closed}
use Rattle.event_model.specs.Row.{Row, choose, each, nothing, on, outs, send, ◌⨾◌}
use Rattle.event_model.specs.Settings.{Settings}
use Rattle.event_model.specs.Spawns.{start_of}
use Rattle.event_model.specs.Stages.{life_of, is_ready}
use Rattle.event_model.proofs.Frames.{never}
use Rattle.mux_model.specs.Fits.{fits_behind}
use Rattle.mux_facts.specs.Ranges.{InRange}
use Rattle.mux_facts.proofs.Folds.{desk_more}
use Rattle.mux_facts.proofs.Keeps.{behind_both}
use Rattle.mux_facts.proofs.Words.{same_number}
use Rattle.session_laws.specs.ClientRules.{after_told}
use Rattle.registrations.specs.declared.registration.Registration.{Registration}
use Rattle.group_words.specs.Houses.{home_of, is_doubled}
use Rattle.group_rows.specs.AskRows.{ask, run_at, run_row}
use Rattle.group_rows.specs.Asks.{Parked, has_number, next_ask, parked_of}
use Rattle.group_rows.specs.Leaves.{leave_row}
use Rattle.group_rows.specs.Live.{is_registering, live_of, register_text}
use Rattle.group_rows.specs.LiveRows.{call, has_some, restore}
use Rattle.group_rows.specs.Rows.{asks_lspmux, closing_row, from_editor, lspmux_row, message_row, outs_of, served_row, taken_row, told_row}
use Rattle.group_rows.proofs.LiveTexts.{live_written}
use Rattle.mux_model.specs.Rows.{malformed_row}
use Rattle.group_facts.specs.Facts.{IsParked, is_unready, is_up, shuts}
use Rattle.group_facts.specs.Settled.{Settled, is_answered as answered_phase}
use Rattle.group_facts.specs.Why.{asks_something}
use Rattle.group_facts.proofs.Asks.{call_hurried}
use Rattle.group_facts.proofs.Begun.{all_outs, leave_by}
use Rattle.group_facts.proofs.Facts.{Facts}
use Rattle.group_facts.proofs.Lively.{up_of}
use Rattle.group_facts.proofs.Shown.{behind_full, meant_behind, text_says, text_shown}
use Rattle.group_facts.proofs.Still.{Goes, still_served, unshut}
use Rattle.group_rows.specs.diagnostics_route.specs.declared.last_list.LastList.{LastList}
use Rattle.group_rows.specs.ListRows.{show_all, show_full}
use Rattle.group_rows.specs.Lists.{lists_of}
use Rattle.group_rows.proofs.ListsKept.{IsList, lists_kept}
use Rattle.group_rows.proofs.Versions.{AllMeant, meant_heard, meant_more}
use Rattle.group_sessions.proofs.Changes.{Some_hold, none_gone, small, still_some, still_there}
use Rattle.group_sessions.proofs.Enrolled.{create_apart, Adds, Same, is_about, may_add, register_adds, same_all}
use Rattle.group_sessions.proofs.Registered.{At, at_free, at_plain, at_told, at_took, ids}
use Rattle.group_facts.proofs.LastStarts.{AllLast}
use Rattle.group_sessions.proofs.Tied.{All, IsTied, Place, all_back, has_run, live_here, place, runs_on}
use Rattle.group_rows.specs.Created.{created_of, Token, is_creating}
use Rattle.group_rows.specs.CreatedRows.{offer_all, offer, create_text}
use Rattle.group_rows.proofs.CreatedTexts.{create_says}
use Rattle.group_rows.proofs.DebtsKept.{off_unrun, whole_off}

asks_about : (m : Message) → asks_something m ≡ false → is_about m ≡ false
asks_about (request id method ps) h = never h
asks_about (notification method ps) h = refl
asks_about (result id r) h = refl
asks_about (error id r) h = refl
asks_about not_json h = refl
asks_about not_message h = refl

going : (e : ℕ) (ys : List (List ℕ)) (xs : List Out) (events : List Event) → AllByRecursion Goes xs → At e ys events → At e ys (behind events xs)
going e ys [] events all h = subst (At e ys) (sym (append-nil events)) h
going e ys (ToEditor n body ∷ xs) events all h = subst (At e ys) (append_assoc events (said (ToEditor n body) ∷ []) (map said xs)) (going e ys xs (events ++ said (ToEditor n body) ∷ []) all.1 (at_plain e n ys events body (λ same. asks_about (message_of body) all.0) h))
going e ys (ToServer s body ∷ xs) events all h = subst (At e ys) (append_assoc events (said (ToServer s body) ∷ []) (map said xs)) (going e ys xs (events ++ said (ToServer s body) ∷ []) all.1 (at_free e ys events (said (ToServer s body)) refl h))
going e ys (Spawn s g ∷ xs) events all h = absurd all.0
going e ys (CloseEditor n ∷ xs) events all h = absurd all.0
going e ys (EndServer s ∷ xs) events all h = absurd all.0

abbrev ToStart : Out → Type 0
ToStart (ToServer s body) = Unit {0}
ToStart other = ⊥

to_starts : {e : ℕ} {ys : List (List ℕ)} (xs : List Out) (events : List Event) → AllByRecursion ToStart xs → At e ys events → At e ys (behind events xs)
to_starts {e} {ys} [] events all h = subst (At e ys) (sym (append-nil events)) h
to_starts {e} {ys} (ToServer s body ∷ xs) events all h = subst (At e ys) (append_assoc events (said (ToServer s body) ∷ []) (map said xs)) (to_starts xs (events ++ said (ToServer s body) ∷ []) all.1 (at_free e ys events (said (ToServer s body)) refl h))
to_starts (ToEditor n body ∷ xs) events all h = absurd all.0
to_starts (Spawn s g ∷ xs) events all h = absurd all.0
to_starts (CloseEditor n ∷ xs) events all h = absurd all.0
to_starts (EndServer s ∷ xs) events all h = absurd all.0

abbrev desk : Phase → List ℕ → Desk
desk p i = record { phase = p; initialize = i }

closes_off : (p : Phase) → is_running (phase_closed p) ≡ false
closes_off Gone = refl
closes_off _ = refl

well_formed : (m : Message) → makes_running m ≡ true → (is_malformed m ≡ false) × (asks_lspmux m ≡ false)
well_formed (request id method ps) h = (refl, own (asks_lspmux (request id method ps)) refl)
  where
    own : (b : Bool) → asks_lspmux (request id method ps) ≡ b → b ≡ false
    own false k = refl
    own true k = never (sym (named (bytes_eq (codes "lspmux/open") method) (bytes_eq (codes "lspmux/status") method) (bytes_eq (codes "lspmux/stop") method) (bytes_eq (codes "shutdown") method) h k))
      where
        named : (a b c d : Bool) → not (false || (false || (d || (a || (b || c))))) ≡ true → (a || (b || c)) ≡ true → false ≡ true
        named true b c true h k = h
        named true b c false h k = h
        named false true c true h k = h
        named false true c false h k = h
        named false false true true h k = h
        named false false true false h k = h
        named false false false d h k = k
well_formed (notification method ps) h = (refl, refl)
well_formed (result id r) h = (refl, refl)
well_formed (error id r) h = (refl, refl)
well_formed not_json h = never (sym h)
well_formed not_message h = never (sym h)

up_unready : (stage : Stage) → is_up stage ≡ true → is_ready stage ≡ false → is_unready stage ≡ true
up_unready Ready up off = never off
up_unready Unspawned up off = refl
up_unready Spawning up off = refl
up_unready Initializing up off = refl
up_unready Stopping up off = never (sym up)
up_unready Ending up off = never (sym up)
up_unready Ended up off = never (sym up)

module _ (settings : Settings) (range : InRange settings) (before : List Event) (facts : Facts settings before) (settled : Settled settings before) (lasts : AllLast before) (all : All settings before)
    (e : ℕ) (body : List ℕ) (fits : fits_behind before (FromEditor e body) ≡ true) (was : (desk_of e before).phase ≡ Answered) (runs : makes_running (message_of body) ≡ true) where
  abbrev now : List Event
  now = with_cause before (FromEditor e body)

  abbrev later : List Event
  later = behind now (outs_of settings before (FromEditor e body))

  at_now : At e [] now
  at_now = at_took e [] before (FromEditor e body) (record { always = all.always e; has = all.early e (ap has_run was) })

  live_is : (t : ℕ) → live_of settings t later ≡ live_of settings t before
  live_is t = live_here settings range before facts settled (FromEditor e body) fits t

  shut : shuts (FromEditor e body) e ≡ false
  shut = ap (λ b. b && requests (codes "shutdown") (message_of body)) (same_number e) ∙ unshut settings before e body (message_of body) runs

  where_it_was : (g t : ℕ) → home_of settings e later ≡ Some g → start_of g later ≡ Some t → Place settings range before facts settled (FromEditor e body) fits e g t
  where_it_was g t home start = place settings range before facts settled (FromEditor e body) fits lasts e g t (ap needs_server was) (ap is_new was) shut (λ k. refl) home start

  pub record Outcome : Type 0 where
    pub xs : List (List ℕ)
    pub at : At e xs later
    pub tied : (g t : ℕ) → (desk_of e later).phase ≡ Running → home_of settings e later ≡ Some g → start_of g later ≡ Some t → IsTied settings e t (ids e later) later

  first_row : outs_of settings before (FromEditor e body) ≡ outs (message_row settings before e body (message_of body) Answered) now
  first_row = whole_off settings before e body (off_unrun settings before e body (message_of body) (ap is_running was)) ∙ (ap (λ p. outs (from_editor settings before e body (message_of body) p) now) was ∙ ap (λ b. outs (choose b (malformed_row e (message_of body) Answered) (message_row settings before e body (message_of body) Answered)) now) (well_formed (message_of body) runs).0)

  -- its link is to be ended
  doubled : is_doubled before e (message_of body) ≡ true → Outcome
  doubled twice = record { xs = []; at = subst (At e []) (sym later_is) at_parted; tied = λ g t at home start. never (sym (all_back is_running runs_on e mid parted (ap (λ z. is_running (desk_of e z).phase) (sym later_is) ∙ ap is_running at)) ∙ closed) }
    where
      mid : List Event
      mid = behind now (CloseEditor e ∷ [])

      parted : List Out
      parted = outs (leave_row settings before e) mid

      later_is : later ≡ behind mid parted
      later_is = ap (behind now) (first_row ∙ ap (λ b. outs (choose b (closing_row settings before e) (told_row settings before e body (message_of body) Answered)) now) twice) ∙ behind_both now (CloseEditor e ∷ []) parted

      at_parted : At e [] (behind mid parted)
      at_parted = to_starts parted mid (all_outs ToStart mid parted (leave_by (λ places out. ToStart out) (λ places s b. tt) settings before e mid).why) (at_free e [] now (said (CloseEditor e)) refl at_now)

      closed : is_running (desk_of e mid).phase ≡ false
      closed = ap (λ (d : Desk). is_running d.phase) (desk_more e now (said (CloseEditor e))) ∙ ap (λ b. is_running (if b then desk (phase_closed (desk_of e now).phase) (desk_of e now).initialize else desk_of e now).phase) (same_number e) ∙ closes_off (desk_of e now).phase

  -- it is told of what is live
  module _ (single : is_doubled before e (message_of body) ≡ false) where
    abbrev there : List Event
    there = behind now (outs (run_row settings before e) now)

    abbrev served : Row
    served = served_row settings before e body (message_of body)

    later_is : later ≡ behind there (outs served there)
    later_is = ap (behind now) (first_row ∙ ap (λ b. outs (choose b (closing_row settings before e) (told_row settings before e body (message_of body) Answered)) now) single
        ∙ ap (λ b. outs (choose b (lspmux_row settings before e body (message_of body)) (taken_row settings before e body (message_of body) Answered)) now) (well_formed (message_of body) runs).1
        ∙ ap (λ b. outs (choose b (run_row settings before e) nothing ⨾ served) now) runs) ∙ behind_both now (outs (run_row settings before e) now) (outs served there)

    meant_there : AllMeant there
    meant_there = meant_behind now (outs (run_row settings before e) now) (meant_more before (heard (FromEditor e body)) (facts.base).meant (meant_heard (FromEditor e body)))

    serves : (xs : List (List ℕ)) → At e xs there → At e xs later
    serves xs h = subst (At e xs) (sym later_is) (going e xs (outs served there) there ((still_served settings before e body (facts.steady).held (ap is_running was) (message_of body) refl runs).goes there meant_there) h)

    unrun : outs (run_row settings before e) now ≡ [] → At e [] later
    unrun none = serves [] (subst (λ zs. At e [] (behind now zs)) (sym none) (subst (At e []) (sym (append-nil now)) at_now))

    module _ (g s : ℕ) (home : home_of settings e before ≡ Some g) (start : start_of g before ≡ Some s) where
      abbrev live : List Registration
      live = live_of settings s before

      abbrev Held : List Event → Type 0
      Held events = Some_hold e live (live_written settings s before) live events

      restored : Held (behind now (outs (restore settings before e s) now))
      restored = any (has_some live) refl
        where
          told : (b : Bool) → has_number e now ≡ b → Held (behind now (outs (choose b (send (ToEditor e (register_text live (next_ask e now)))) nothing) now))
          told true room =
              let text = register_text live (next_ask e now) in
              let k : Adds (message_of text) live = register_adds live (live_written settings s before) (next_ask e now) (small e live (live_written settings s before) now room) in
              record { xs = after_told [] (message_of text); holds = record { at = at_told e [] now text (may_add [] (message_of text) live k (λ x h. refl)) at_now; same = inl (same_all (message_of text) live k) } }
          told false none = record { xs = []; holds = record { at = subst (At e []) (sym (append-nil now)) at_now; same = inr (ap (has_number e) (append-nil now) ∙ none) } }

          any : (b : Bool) → has_some live ≡ b → Held (behind now (outs (choose b (call (register_text live) e) nothing) now))
          any true some = told (has_number e now) refl
          any false none = record { xs = []; holds = record { at = subst (At e []) (sym (append-nil now)) at_now; same = inl (subst (Same []) (sym (none_gone e live (live_written settings s before) live none)) (λ x. refl)) } }

      asked : (ps : List Parked) → AllByRecursion (IsParked s before) ps → (events : List Event) → Held events → Held (behind events (outs (each (λ (p : Parked). ask p.body e) ps) events))
      asked [] known events h = subst Held (sym (append-nil events)) h
      asked (p ∷ ps) known events h = subst Held (sym (behind_both events (outs (ask p.body e) events) (outs (each (λ (q : Parked). ask q.body e) ps) (behind events (outs (ask p.body e) events)))))
          (asked ps known.1 (behind events (outs (ask p.body e) events)) (still_some e live (live_written settings s before) (ask p.body e) one live events h))
        where
          plain : (z : List Event) → has_number e z ≡ true → is_about (message_of (with_id_text p.body (decimal (next_ask e z)))) ≡ false
          plain z room = ap is_about (request_with_id p.body (decimal (next_ask e z)) p.id (integer (decimal (next_ask e z))) (known.0).method (known.0).params (known.0).says (decimal_law (next_ask e z) (ltb-true (next_ask e z) (2 ^ 64) room))) ∙ off (is_registering (known.0).method) refl
            where
              off : (b : Bool) → is_registering (known.0).method ≡ b → b ≡ false
              off false h = refl
              off true h = never (sym (known.0).patient ∙ call_hurried (known.0).method (ap (λ b. b || is_creating (known.0).method) h))

          one : (xs : List (List ℕ)) (z : List Event) → At e xs z → At e xs (behind z (outs (ask p.body e) z))
          one xs z h = go (has_number e z) refl
            where
              go : (b : Bool) → has_number e z ≡ b → At e xs (behind z (outs (choose b (send (ToEditor e (with_id_text p.body (decimal (next_ask e z))))) nothing) z))
              go true room = at_plain e e xs z (with_id_text p.body (decimal (next_ask e z))) (λ same. plain z room) h
              go false none = subst (At e xs) (sym (append-nil z)) h

      -- an editor that is asked to take tokens is told of no registration
      offered : (ts : List Token) (events : List Event) → Held events → Held (behind events (outs (each (offer s e) ts) events))
      offered [] events h = subst Held (sym (append-nil events)) h
      offered (t ∷ ts) events h = subst Held (sym (behind_both events (outs (offer s e t) events) (outs (each (offer s e) ts) (behind events (outs (offer s e t) events)))))
          (offered ts (behind events (outs (offer s e t) events)) (still_some e live (live_written settings s before) (offer s e t) one live events h))
        where
          plain : (z : List Event) → has_number e z ≡ true → is_about (message_of (create_text s t.number (next_ask e z))) ≡ false
          plain z room = let low : next_ask e z < 2 ^ 64 = ltb-true (next_ask e z) (2 ^ 64) room in ap is_about (create_says s t.number (next_ask e z) (omega (arith, low))) ∙ create_apart

          one : (xs : List (List ℕ)) (z : List Event) → At e xs z → At e xs (behind z (outs (offer s e t) z))
          one xs z h = go (has_number e z) refl
            where
              go : (b : Bool) → has_number e z ≡ b → At e xs (behind z (outs (choose b (send (ToEditor e (create_text s t.number (next_ask e z)))) nothing) z))
              go true room = at_plain e e xs z (create_text s t.number (next_ask e z)) (λ same. plain z room) h
              go false none = subst (At e xs) (sym (append-nil z)) h

      -- nor is one that is shown lists
      shown : (ls : List LastList) → AllByRecursion IsList ls → (events : List Event) → Held events → Held (behind events (outs (each (show_full settings before s e) ls) events))
      shown [] kept events h = subst Held (sym (append-nil events)) h
      shown (l ∷ ls) kept events h = subst Held (sym (behind_both events (outs (show_full settings before s e l) events) (outs (each (show_full settings before s e) ls) (behind events (outs (show_full settings before s e l) events)))))
          (shown ls kept.1 (behind events (outs (show_full settings before s e l) events)) (still_some e live (live_written settings s before) (show_full settings before s e l) one live events h))
        where
          one : (xs : List (List ℕ)) (z : List Event) → At e xs z → At e xs (behind z (outs (show_full settings before s e l) z))
          one xs z k = behind_full settings before e s l (At e xs) z (at_plain e e xs z (text_shown settings before (facts.base).meant e s l kept.0) (λ same. ap is_about (text_says settings before (facts.base).meant e s l kept.0).1) k) k

      run_is : outs (run_row settings before e) now ≡ outs (run_at settings before e s) now
      run_is = ap (λ o. outs (on o nothing (λ g. on (start_of g before) nothing (run_at settings before e))) now) home ∙ ap (λ o. outs (on o nothing (run_at settings before e)) now) start

      run_holds : (b : Bool) → is_ready (life_of s before).stage ≡ b → Held (behind now (outs (choose b (restore settings before e s ⨾ (offer_all settings before e s ⨾ (show_all settings before e s ⨾ each (λ (p : Parked). ask p.body e) (parked_of settings s before)))) nothing) now))
      run_holds true ready = let mid : List Event = behind now (outs (restore settings before e s) now) in
          let late : List Event = behind mid (outs (offer_all settings before e s) mid) in
          let last : List Event = behind late (outs (show_all settings before e s) late) in
          subst Held (sym (behind_both now (outs (restore settings before e s) now) (outs (offer_all settings before e s ⨾ (show_all settings before e s ⨾ each (λ (p : Parked). ask p.body e) (parked_of settings s before))) mid)))
          (subst Held (sym (behind_both mid (outs (offer_all settings before e s) mid) (outs (show_all settings before e s ⨾ each (λ (p : Parked). ask p.body e) (parked_of settings s before)) late)))
          (subst Held (sym (behind_both late (outs (show_all settings before e s) late) (outs (each (λ (p : Parked). ask p.body e) (parked_of settings s before)) last)))
          (asked (parked_of settings s before) ((facts.steady).asks s).parked last (shown (lists_of s before) (lists_kept s before (facts.base).meant) late (offered (created_of settings s before).tokens mid restored)))))
      run_holds false off = record { xs = []; holds = record { at = subst (At e []) (sym (append-nil now)) at_now; same = inl (subst (Same []) (sym empty) (λ x. refl)) } }
        where
          empty : live ≡ []
          empty = all.unready s (up_unready (life_of s before).stage (up_of settings before settled.lively e g s (ap answered_phase was) home start) off)

      outcome : Outcome
      outcome = finish (still_there e live (live_written settings s before) served there (λ xs h. going e xs (outs served there) there ((still_served settings before e body (facts.steady).held (ap is_running was) (message_of body) refl runs).goes there meant_there) h) live
          (subst (λ zs. Held (behind now zs)) (sym run_is) (run_holds (is_ready (life_of s before).stage) refl)))
        where
          finish : Held (behind there (outs served there)) → Outcome
          finish done = record { xs = done.xs; at = subst (At e done.xs) (sym later_is) (done.holds).at; tied = tie }
            where
              tie : (h t : ℕ) → (desk_of e later).phase ≡ Running → home_of settings e later ≡ Some h → start_of h later ≡ Some t → IsTied settings e t (ids e later) later
              tie h t at home_later start_later =
                  let k = where_it_was h t home_later start_later in
                  let houses : Some h ≡ Some g = sym k.home ∙ home in
                  let same : h ≡ g = cc in
                  let starts : Some t ≡ Some s = sym k.start ∙ ap (λ n. start_of n before) same ∙ start in
                  let is : t ≡ s = cc in
                  subst (λ n. IsTied settings e n (ids e later) later) (sym is) (go (done.holds).same)
                where
                  go : Same done.xs live ⊎ (has_number e (behind there (outs served there)) ≡ false) → IsTied settings e s (ids e later) later
                  go (inl same) = inl (subst₂ Same (sym (ap (ids e) later_is ∙ ((done.holds).at).has)) (sym (live_is s)) same)
                  go (inr none) = inr (ap (has_number e) later_is ∙ none)

    by_start : (g : ℕ) → home_of settings e before ≡ Some g → (o : Option ℕ) → start_of g before ≡ o → Outcome
    by_start g home (Some s) start = outcome g s home start
    by_start g home None none = record {
      xs = [];
      at = unrun (ap (λ o. outs (on o nothing (λ g. on (start_of g before) nothing (run_at settings before e))) now) home ∙ ap (λ o. outs (on o nothing (run_at settings before e)) now) none);
      tied = λ h t at home_later start_later. let k = where_it_was h t home_later start_later in let houses : Some h ≡ Some g = sym k.home ∙ home in let same : h ≡ g = cc in let clash : Some t ≡ None = sym k.start ∙ ap (λ n. start_of n before) same ∙ none in absurd (cc);
    }

    by_home : (o : Option ℕ) → home_of settings e before ≡ o → Outcome
    by_home (Some g) home = by_start g home (start_of g before) refl
    by_home None none = record {
      xs = [];
      at = unrun (ap (λ o. outs (on o nothing (λ g. on (start_of g before) nothing (run_at settings before e))) now) none);
      tied = λ h t at home_later start_later. let k = where_it_was h t home_later start_later in let clash : Some h ≡ None = sym k.home ∙ none in absurd (cc);
    }

  pub begun_outcome : Outcome
  begun_outcome = go (is_doubled before e (message_of body)) refl
    where
      go : (b : Bool) → is_doubled before e (message_of body) ≡ b → Outcome
      go true twice = doubled twice
      go false single = by_home single (home_of settings e before) refl
