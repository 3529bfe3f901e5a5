-- Each request by which a ready start wants something asked anew comes to each editor that runs in the start's group.
use Rattle.std.proofs.Common.{◌≡◌, ◌⊎◌, inl, inr, ℕ, ◌+◌, ◌≤◌, ◌<◌, Bool, true, false, not, ◌&&◌, ◌||◌, cond, List, [], ◌∷◌, ◌++◌, append-nil, append_assoc, filter, map, nat_eq, if◌then◌else◌, Option, Some, None, refl, sym, ◌∙◌, ap, ap₂, subst, arith}
use Rattle.std.specs.List.{list_any, range_with_len}
use Rattle.std.specs.Option.{option_map_or}
use Rattle.std.proofs.lemmas.Bool.{and_parts}
use Rattle.std.proofs.lemmas.List.Folds.{list_any-append}
use Rattle.json_text.specs.Json.{Json}
use Rattle.lsp_method.specs.Class.{class_of}
use Rattle.lsp_method.specs.declared.variants.Class.TheVariants.{Refresh}
use Rattle.lsp_method.specs.declared.variants.Origin.TheVariants.{Server}
use Rattle.mux_history.specs.declared.cause.Cause.{Cause}
use Rattle.mux_history.specs.declared.cause.Cause.TheVariants.{Joined, FromEditor, EditorGone, Started, StartFailed, FromServer, ServerGone, Drained, Tick}
use Rattle.mux_history.specs.declared.entry.Entry.{Entry}
use Rattle.mux_history.specs.declared.out.Out.{Out}
use Rattle.mux_history.specs.declared.out.Out.TheVariants.{ToEditor, ToServer, Spawn, CloseEditor, EndServer}
use Rattle.rpc_message.specs.Message.{Id, Message, message_of, request, id_bytes}
use Rattle.rpc_message.specs.Texts.{ok_text}
use Rattle.std.specs.Prelude.{codes}
use Rattle.event_model.specs.declared.phase.Phase.TheVariants.{Absent, Running}
use Rattle.event_model.specs.declared.stage.Stage.TheVariants.{Ready}
use Rattle.event_model.specs.Event.{Event, behind, events_of, heard, said, with_cause, with_entry}
use Rattle.event_model.specs.Phases.{Desk, desk_of, editors_of, is_new, is_running}
use Rattle.event_model.specs.Row.{choose, each, nothing, on, outs}
use Rattle.event_model.specs.Settings.{Settings}
use Rattle.event_model.specs.Spawns.{group_of, start_of}
use Rattle.event_model.specs.Stages.{is_ready, life_of}
use Rattle.event_model.proofs.Frames.{never}
use Rattle.mux_model.specs.Fits.{fits, fits_behind}
use Rattle.mux_facts.specs.Ranges.{InRange}
use Rattle.mux_facts.proofs.DocumentRow.{ready_is}
use Rattle.mux_facts.proofs.Folds.{desk_more}
use Rattle.mux_facts.proofs.Keeps.{behind_both, behind_nothing, events_more}
use Rattle.mux_facts.proofs.Words.{number_same, same_number}
use Rattle.group_words.specs.Houses.{home_of, is_home}
use Rattle.group_rows.specs.refresh_debts.specs.declared.debts.Debt.{Debt}
use Rattle.group_rows.specs.AskRows.{ask, asking_row, debts_at, debts_row, refresh_row}
use Rattle.group_rows.specs.Asks.{asking_of, is_taken, has_number, running_in, serves}
use Rattle.group_rows.specs.Debts.{agrees_on_all, asks_anew, debt_of, debts_asked, debts_of, ends_debts, goes_to, owed_by, pays_debts, runs_at, wants_refresh}
use Rattle.group_rows.specs.Live.{is_heard}
use Rattle.group_rows.specs.Rows.{editor_row, from_server, outs_of, ready_row}
use Rattle.group_rows.proofs.DebtsKept.{debts_more, refresh_is}
use Rattle.group_facts.specs.Facts.{is_exit, is_unready, shuts}
use Rattle.group_facts.specs.Legal.{Legal, LegalFrom}
use Rattle.group_facts.specs.Settled.{IsServing, RunsAt, Settled, is_answered}
use Rattle.group_facts.specs.SlowRows.{entry_outs, is_slow, slow_row}
use Rattle.group_facts.proofs.AskEntries.{close_runs, off_both, onward_rests, onward_slow, took_runs, up_ready}
use Rattle.group_facts.proofs.AskingRows.{running_is, still_runs}
use Rattle.group_facts.proofs.Facts.{Facts}
use Rattle.group_facts.proofs.Homes.{took_home}
use Rattle.group_facts.proofs.LastStarts.{start_kept}
use Rattle.group_facts.proofs.Lively.{up_of}
use Rattle.group_facts.proofs.PutOut.{homes_stay, named_in}
use Rattle.group_facts.proofs.Reached.{Reached, at_first, facts_at, rests_at, row_behind, settled_at, slow_behind}
use Rattle.group_facts.proofs.SlowRow.{parting, parting_calm, whole_entry}
use Rattle.group_facts.proofs.Begun.{starts_stay}
use Rattle.group_sessions.proofs.Owed.{Has, Told, debt, each_paid, each_told, outs_has, put_has, sent_before, told_before, told_behind, took_has}
use Rattle.group_sessions.proofs.Onwards.{goes_nowhere, goes_out, owed_quiet, slow_quiet}
use Rattle.group_sessions.specs.Refreshes.{Either, IsAsked, IsSent, KeepsRefreshes, OnRefresh, Reaches, RefreshesFrom, Unless, goes_on, is_from, is_onward, is_over, wants_again}

unless : (b : Bool) (P : Type 0) → (b ≡ false → P) → Unless b P
unless true P f = tt
unless false P f = f refl

either : (b : Bool) (P Q : Type 0) → (b ≡ true → P) → (b ≡ false → Q) → Either b P Q
either true P Q f g = f refl
either false P Q f g = g refl

off_is : (a : Bool) → not a ≡ true → a ≡ false
off_is true h = never (sym h)
off_is false h = refl

and_none : (a : Bool) → (a && false) ≡ false
and_none true = refl
and_none false = refl

off_or : (a b : Bool) → a ≡ false → b ≡ false → (a || b) ≡ false
off_or true b h k = h
off_or false b h k = k

-- it is among those of a list that pass a test too
still_named : (test : ℕ → Bool) (e : ℕ) → test e ≡ true → (es : List ℕ) → list_any (λ k. nat_eq k e) es ≡ true → list_any (λ k. nat_eq k e) (filter test es) ≡ true
still_named test e passes [] h = h
still_named test e passes (n ∷ es) h = go (test n) refl (nat_eq n e) refl h (still_named test e passes es)
  where
    go : (t : Bool) → test n ≡ t → (b : Bool) → nat_eq n e ≡ b → (b || list_any (λ k. nat_eq k e) es) ≡ true → (list_any (λ k. nat_eq k e) es ≡ true → list_any (λ k. nat_eq k e) (filter test es) ≡ true)
        → list_any (λ k. nat_eq k e) (cond t (n ∷ filter test es) (filter test es)) ≡ true
    go true is true same k rest = ap (λ b. b || list_any (λ k. nat_eq k e) (filter test es)) same
    go true is false other k rest = ap (λ b. b || list_any (λ k. nat_eq k e) (filter test es)) other ∙ rest k
    go false is true same k rest = never (sym passes ∙ (ap test (sym (number_same n e same)) ∙ is))
    go false is false other k rest = rest k

-- The last start of an editor's group, as long as its program doesn't end

module _ (settings : Settings) (range : InRange settings) (s e : ℕ) where
  record Tied (events : List Event) : Type 0 where
    group : ℕ
    home : home_of settings e events ≡ Some group
    last : start_of group events ≡ Some s
    begun : is_unready (life_of s events).stage ≡ false

  record Moment (events : List Event) : Type 0 where
    at : Reached settings events
    tied : Tied events

  tied_row : (before : List Event) → Reached settings before → (cause : Cause) → fits_behind before cause ≡ true → is_new (desk_of e before).phase ≡ false → shuts cause e ≡ false → is_exit cause s ≡ false → Tied before → Tied (behind (with_cause before cause) (outs_of settings before cause))
  tied_row before at cause fits old stays goes_on k = record {
    group = k.group;
    home = homes_stay settings e (with_cause before cause) (outs_of settings before cause) ∙ (took_home settings before e old cause stays ∙ k.home);
    last = start_kept settings before cause (settled_at settings range before at).begun fits (rests_at settings range before at).lasts k.group s k.last goes_on;
    begun = onward_rests settings range before (facts_at settings range before at) cause fits s k.begun;
  }

  slow_moment : (place : List Event) (n : ℕ) → is_slow settings n place ≡ true → Moment place → Moment (behind place (parting settings place n))
  slow_moment place n slow m = record {
    at = slow_behind place n slow m.at;
    tied = record {
      group = (m.tied).group;
      home = homes_stay settings e place (parting settings place n) ∙ (m.tied).home;
      last = starts_stay (m.tied).group place (parting settings place n) (parting_calm settings place n) ∙ (m.tied).last;
      begun = onward_slow settings range place (facts_at settings range place m.at) n slow s (m.tied).begun;
    };
  }

  moment_behind : (before : List Event) (cause : Cause) → fits_behind before cause ≡ true → is_new (desk_of e before).phase ≡ false → shuts cause e ≡ false → is_exit cause s ≡ false → Moment before → Moment (behind (with_cause before cause) (entry_outs settings before cause))
  moment_behind before cause fits old stays goes_on m = whole_entry settings Moment slow_moment before cause (record { at = row_behind before cause fits m.at; tied = tied_row before m.at cause fits old stays goes_on m.tied })

  -- while the editor runs the start is ready
  runs_of : (events : List Event) → Moment events → (desk_of e events).phase ≡ Running → is_ready (life_of s events).stage ≡ true
  runs_of events m running = ap is_ready (up_ready (life_of s events).stage (up_of settings events (settled_at settings range events m.at).lively e (m.tied).group s (ap is_answered running) (m.tied).home (m.tied).last) (m.tied).begun)

  -- What doesn't end it

  shuts_none : (cause : Cause) → ends_debts s e (heard cause) ≡ false → shuts cause e ≡ false
  shuts_none (FromEditor n body) h = h
  shuts_none (EditorGone n why) h = h
  shuts_none (Joined n) h = refl
  shuts_none (Started n) h = refl
  shuts_none (StartFailed n) h = refl
  shuts_none (FromServer n body) h = refl
  shuts_none (ServerGone n) h = refl
  shuts_none (Drained n k) h = refl
  shuts_none (Tick t) h = refl

  exits_none : (cause : Cause) → ends_debts s e (heard cause) ≡ false → is_exit cause s ≡ false
  exits_none (StartFailed n) h = h
  exits_none (ServerGone n) h = h
  exits_none (FromEditor n body) h = refl
  exits_none (EditorGone n why) h = refl
  exits_none (Joined n) h = refl
  exits_none (Started n) h = refl
  exits_none (FromServer n body) h = refl
  exits_none (Drained n k) h = refl
  exits_none (Tick t) h = refl

  runs_did : (events : List Event) (out : Out) → ends_debts s e (said out) ≡ false → (desk_of e events).phase ≡ Running → (desk_of e (events ++ said out ∷ [])).phase ≡ Running
  runs_did events (ToEditor n body) off at = still_runs events n body e at
  runs_did events (ToServer n body) off at = ap (λ (d : Desk). d.phase) (desk_more e events (said (ToServer n body))) ∙ at
  runs_did events (Spawn n g) off at = ap (λ (d : Desk). d.phase) (desk_more e events (said (Spawn n g))) ∙ at
  runs_did events (EndServer n) off at = ap (λ (d : Desk). d.phase) (desk_more e events (said (EndServer n))) ∙ at
  runs_did events (CloseEditor n) off at = close_runs events n e off at

  runs_outs : (events : List Event) (xs : List Out) → list_any (λ out. ends_debts s e (said out)) xs ≡ false → (desk_of e events).phase ≡ Running → (desk_of e (behind events xs)).phase ≡ Running
  runs_outs events [] off at = subst (λ z. (desk_of e z).phase ≡ Running) (sym (behind_nothing events)) at
  runs_outs events (x ∷ xs) off at =
      let both = off_both (ends_debts s e (said x)) (list_any (λ out. ends_debts s e (said out)) xs) off in
      subst (λ z. (desk_of e z).phase ≡ Running) (append_assoc events (said x ∷ []) (map said xs)) (runs_outs (events ++ said x ∷ []) xs both.1 (runs_did events x both.0 at))

-- What comes of one entry

module _ (settings : Settings) (range : InRange settings) (s e : ℕ) (body method : List ℕ) where
  record Owes (events : List Event) : Type 0 where
    moment : Moment settings range s e events
    running : (desk_of e events).phase ≡ Running
    has : Has (debt settings s e body method) (debts_of settings s e events)

  module _ (before : List Event) (cause : Cause) (fits_here : fits_behind before cause ≡ true) (xs : List Out) (are : xs ≡ entry_outs settings before cause)
      (over : (ends_debts s e (heard cause) || list_any (λ out. ends_debts s e (said out)) xs) ≡ false) where
    ends : (ends_debts s e (heard cause) ≡ false) × (list_any (λ out. ends_debts s e (said out)) xs ≡ false)
    ends = off_both (ends_debts s e (heard cause)) (list_any (λ out. ends_debts s e (said out)) xs) over

    abbrev row : List Out
    row = outs_of settings before cause

    abbrev slow : List Out
    slow = outs (slow_row settings) (behind (with_cause before cause) row)

    row_stays : list_any (λ out. ends_debts s e (said out)) row ≡ false
    row_stays = (off_both (list_any (λ out. ends_debts s e (said out)) row) (list_any (λ out. ends_debts s e (said out)) slow)
        (sym (list_any-append (λ out. ends_debts s e (said out)) row slow) ∙ (ap (list_any (λ out. ends_debts s e (said out))) (sym are) ∙ ends.1))).0

    -- the editor runs on
    runs_on : Moment settings range s e before → (desk_of e before).phase ≡ Running → Moment settings range s e (behind (with_cause before cause) xs) × ((desk_of e (behind (with_cause before cause) xs)).phase ≡ Running)
    runs_on m running = (
      subst (λ z. Moment settings range s e (behind (with_cause before cause) z)) (sym are)
          (moment_behind settings range s e before cause fits_here (ap is_new running) (shuts_none settings range s e cause ends.0) (exits_none settings range s e cause ends.0) m),
      runs_outs settings range s e (with_cause before cause) xs ends.1
          (took_runs settings before e running cause fits_here ((facts_at settings range before m.at).steady).editors (shuts_none settings range s e cause ends.0)),
    )

    -- where it isn't paid it stays owed
    owes_on : wants_again settings s before method cause ≡ false → pays_debts settings s e before (heard cause) ≡ false → Owes before → Owes (behind (with_cause before cause) xs)
    owes_on again pays k = record {
      moment = (runs_on k.moment k.running).0;
      running = (runs_on k.moment k.running).1;
      has = outs_has settings s e body method (with_cause before cause) xs ends.1 (took_has settings s e body method before cause again ends.0 pays k.has);
    }

  -- The entry of a message of its own

  module _ (before : List Event) (text : List ℕ) (fits_here : fits_behind before (FromEditor e text) ≡ true) (xs : List Out) (are : xs ≡ entry_outs settings before (FromEditor e text))
      (over : (ends_debts s e (heard (FromEditor e text)) || list_any (λ out. ends_debts s e (said out)) xs) ≡ false) (k : Owes before) where
    abbrev now : List Event
    now = with_cause before (FromEditor e text)

    abbrev said_first : List Out
    said_first = outs (editor_row settings before e text) now

    abbrev owed_outs : List Out
    owed_outs = outs (debts_row settings before e text (message_of text)) (behind now said_first)

    abbrev last_outs : List Out
    last_outs = outs (slow_row settings) (behind now (said_first ++ owed_outs))

    -- it goes on: a body goes to the start, and the editor is asked
    goes_true : goes_to settings s before e text (message_of text) ≡ true → list_any (is_onward s) xs ≡ true
    goes_true goes = ap (list_any (is_onward s)) are ∙ (list_any-append (is_onward s) (said_first ++ owed_outs) last_outs ∙ ap (λ b. b || list_any (is_onward s) last_outs)
        (list_any-append (is_onward s) said_first owed_outs ∙ ap (λ b. b || list_any (is_onward s) owed_outs) (goes_out settings range s before (k.moment).at e text goes k.running)))

    paid : goes_to settings s before e text (message_of text) ≡ true → Told e body now xs
    paid goes = subst (Told e body now) (sym are) (told_before e body now (said_first ++ owed_outs) last_outs (told_behind e body now said_first owed_outs (subst (Told e body (behind now said_first)) (sym owed_is)
        (each_paid settings s e body method (debts_of settings s e before) k.has (behind now said_first)))))
      where
        owed_is : owed_outs ≡ outs (each (λ (d : Debt). ask d.body e) (debts_of settings s e before)) (behind now said_first)
        owed_is = ap (λ o. outs (on o nothing (λ g. on (start_of g before) nothing (debts_at settings before e text (message_of text)))) (behind now said_first)) (((k.moment).tied).home)
            ∙ (ap (λ o. outs (on o nothing (debts_at settings before e text (message_of text))) (behind now said_first)) (((k.moment).tied).last)
            ∙ ap (λ b. outs (each (λ (d : Debt). ask d.body e) (if b then debts_of settings s e before else [])) (behind now said_first)) goes)

    -- it doesn't
    goes_false : goes_to settings s before e text (message_of text) ≡ false → list_any (is_onward s) xs ≡ false
    goes_false stops = ap (list_any (is_onward s)) are ∙ (list_any-append (is_onward s) (said_first ++ owed_outs) last_outs ∙ off_or (list_any (is_onward s) (said_first ++ owed_outs)) (list_any (is_onward s) last_outs)
        (goes_nowhere settings range s before (k.moment).at e text ((k.moment).tied).group k.running ((k.moment).tied).home ((k.moment).tied).last (runs_of settings range s e before k.moment k.running) stops
        (ends before (FromEditor e text) fits_here xs are over).0 first_stays)
        (slow_quiet settings range s (behind now (said_first ++ owed_outs)) (row_behind before (FromEditor e text) fits_here (k.moment).at)))
      where
        first_stays : list_any (λ out. ends_debts s e (said out)) said_first ≡ false
        first_stays = (off_both (list_any (λ out. ends_debts s e (said out)) said_first) (list_any (λ out. ends_debts s e (said out)) owed_outs)
            (sym (list_any-append (λ out. ends_debts s e (said out)) said_first owed_outs) ∙ row_stays before (FromEditor e text) fits_here xs are over)).0

  -- Any entry

  module _ (before : List Event) (cause : Cause) (fits_here : fits_behind before cause ≡ true) (xs : List Out) (are : xs ≡ entry_outs settings before cause)
      (over : (ends_debts s e (heard cause) || list_any (λ out. ends_debts s e (said out)) xs) ≡ false) (again : wants_again settings s before method cause ≡ false) (k : Owes before) where
    abbrev Goal : Cause → Type 0
    Goal c = ((is_from e c && list_any (is_onward s) xs) ≡ true → Told e body (with_cause before c) xs) × ((is_from e c && list_any (is_onward s) xs) ≡ false → Owes (behind (with_cause before c) xs))

    by_none : (c : Cause) → cause ≡ c → is_from e c ≡ false → pays_debts settings s e before (heard c) ≡ false → Goal c
    by_none c is off pays = (
      (λ on. never (sym on ∙ ap (λ b. b && list_any (is_onward s) xs) off)),
      (λ no. subst (λ z. Owes (behind (with_cause before z) xs)) is (owes_on before cause fits_here xs are over again (ap (λ z. pays_debts settings s e before (heard z)) is ∙ pays) k)),
    )

    by_own : (text : List ℕ) → cause ≡ FromEditor e text → Goal (FromEditor e text)
    by_own text is = go (goes_to settings s before e text (message_of text)) refl
      where
        fits_it : fits_behind before (FromEditor e text) ≡ true
        fits_it = ap (fits_behind before) (sym is) ∙ fits_here

        are_it : xs ≡ entry_outs settings before (FromEditor e text)
        are_it = are ∙ ap (entry_outs settings before) is

        over_it : (ends_debts s e (heard (FromEditor e text)) || list_any (λ out. ends_debts s e (said out)) xs) ≡ false
        over_it = ap (λ c. ends_debts s e (heard c) || list_any (λ out. ends_debts s e (said out)) xs) (sym is) ∙ over

        go : (b : Bool) → goes_to settings s before e text (message_of text) ≡ b → Goal (FromEditor e text)
        go true goes = (
          (λ on. paid before text fits_it xs are_it over_it k goes),
          (λ no. never (sym (ap₂ (λ a b. a && b) (same_number e) (goes_true before text fits_it xs are_it over_it k goes)) ∙ no)),
        )
        go false stops = (
          (λ on. never (sym on ∙ (ap (λ b. nat_eq e e && b) (goes_false before text fits_it xs are_it over_it k stops) ∙ and_none (nat_eq e e)))),
          (λ no. subst (λ z. Owes (behind (with_cause before z) xs)) is (owes_on before cause fits_here xs are over again (ap (λ z. pays_debts settings s e before (heard z)) is ∙ (ap (λ b. nat_eq e e && b) stops ∙ and_none (nat_eq e e))) k)),
        )

    by_cause : (c : Cause) → cause ≡ c → Goal c
    by_cause (FromEditor n text) is = go (nat_eq n e) refl
      where
        go : (b : Bool) → nat_eq n e ≡ b → Goal (FromEditor n text)
        go true same = subst (λ z. Goal (FromEditor z text)) (sym (number_same n e same)) (by_own text (is ∙ ap (λ z. FromEditor z text) (number_same n e same)))
        go false other = by_none (FromEditor n text) is other (ap (λ b. b && goes_to settings s before e text (message_of text)) other)
    by_cause (Joined n) is = by_none (Joined n) is refl refl
    by_cause (EditorGone n why) is = by_none (EditorGone n why) is refl refl
    by_cause (Started n) is = by_none (Started n) is refl refl
    by_cause (StartFailed n) is = by_none (StartFailed n) is refl refl
    by_cause (FromServer n text) is = by_none (FromServer n text) is refl refl
    by_cause (ServerGone n) is = by_none (ServerGone n) is refl refl
    by_cause (Drained n m) is = by_none (Drained n m) is refl refl
    by_cause (Tick t) is = by_none (Tick t) is refl refl

  -- Entries

  asked_at : (before : List Entry) (entry : Entry) → Told e body (with_cause (events_of before) entry.cause) entry.outs → IsAsked e body before entry
  asked_at before entry (inl k) = inl k
  asked_at before entry (inr full) = inr (subst (λ z. has_number e z ≡ false) (sym (events_more before entry)) full)

  reaches : (before rest : List Entry) → LegalFrom settings before rest → Owes (events_of before) → Reaches settings s e method body before rest
  reaches before [] legal k = tt
  reaches before (entry ∷ rest) legal k = unless (is_over s e entry || wants_again settings s (events_of before) method entry.cause) _ (λ off.
      let both = off_both (is_over s e entry) (wants_again settings s (events_of before) method entry.cause) off in
      let goal = by_cause (events_of before) entry.cause legal.0 entry.outs legal.1 both.0 both.1 k entry.cause refl in
      either (goes_on s e entry) _ _ (λ on. asked_at before entry (goal.0 on))
      (λ no. reaches (before ++ entry ∷ []) rest legal.2 (subst Owes (sym (events_more before entry)) (goal.1 no))))

-- The entry in which it is wanted

module _ (settings : Settings) (range : InRange settings) (s : ℕ) (body method : List ℕ) (id : Id) (params : Option Json) (before : List Event) (at : Reached settings before) (says : message_of body ≡ request id method params)
    (anew : asks_anew settings s before id method ≡ true) (e : ℕ) (runs : runs_at settings s before e ≡ true) where
  abbrev wanting : List Event
  wanting = with_cause before (FromServer s body)

  wanted : (wants_refresh method ≡ true) × (is_heard settings s before id ≡ true)
  wanted = and_parts (wants_refresh method) (is_heard settings s before id) anew

  free : (is_ready (life_of s before).stage ≡ true) × (not (is_taken (Some id) (asking_of settings s before)) ≡ true)
  free = and_parts (is_ready (life_of s before).stage) (not (is_taken (Some id) (asking_of settings s before))) wanted.1

  ready : (life_of s before).stage ≡ Ready
  ready = ready_is (life_of s before).stage free.0

  place : (is_running (desk_of e before).phase ≡ true) × (option_map_or (λ g. is_home g (home_of settings e before)) (group_of s before) false ≡ true)
  place = and_parts (is_running (desk_of e before).phase) (option_map_or (λ g. is_home g (home_of settings e before)) (group_of s before) false) runs

  serving : IsServing settings before s
  serving = (settled_at settings range before at).serving s ready

  running : (desk_of e before).phase ≡ Running
  running = running_is settings before (desk_of e before).phase place.0

  here : is_home serving.group (home_of settings e before) ≡ true
  here = sym (ap (λ o. option_map_or (λ g. is_home g (home_of settings e before)) o false) serving.home) ∙ place.1

  home : home_of settings e before ≡ Some serving.group
  home = go (home_of settings e before) here
    where
      go : (o : Option ℕ) → is_home serving.group o ≡ true → o ≡ Some serving.group
      go None h = never (sym h)
      go (Some g) h = ap (λ k. Some k) (number_same g serving.group h)

  moment : Moment settings range s e before
  moment = record { at = at; tied = record { group = serving.group; home = home; last = serving.last; begun = ap is_unready ready } }

  -- it is asked at once
  row_is : outs_of settings before (FromServer s body) ≡ outs (refresh_row settings before serving.group s body) wanting
  row_is = ap (λ st. outs (from_server settings s before body (message_of body) st) wanting) ready
      ∙ (ap (λ m. outs (ready_row settings s before body m) wanting) says
      ∙ (ap (λ c. outs (choose c nothing (on (group_of s before) nothing (λ g. asking_row settings before g s body method (class_of method Server false)))) wanting) (off_is (is_taken (Some id) (asking_of settings s before)) free.1)
      ∙ (ap (λ o. outs (on o nothing (λ g. asking_row settings before g s body method (class_of method Server false))) wanting) serving.home
      ∙ ap (λ c. outs (asking_row settings before serving.group s body method c) wanting) (refresh_is (class_of method Server false) wanted.0))))

  known : editors_of before ≤ e → ⊥
  known none = absurd (let gone : (desk_of e before).phase ≡ Absent = ((facts_at settings range before at).steady).editors e none in let clash : Running ≡ Absent = sym running ∙ gone in cc)

  listed : list_any (λ k. nat_eq k e) (running_in settings serving.group before) ≡ true
  listed = named_in (λ k. is_running (desk_of k before).phase && is_home serving.group (home_of settings k before)) 0 (editors_of before) e (omega arith) (let k : editors_of before ≤ e → ⊥ = known in omega (arith, k)) (ap₂ (λ a b. a && b) place.0 here)

  abbrev answer : Out
  answer = ToServer s (ok_text (id_bytes body) (codes "null"))

  abbrev those : List ℕ
  those = filter (agrees_on_all settings s before) (running_in settings serving.group before)

  asked_now : agrees_on_all settings s before e ≡ true → Told e body wanting (outs_of settings before (FromServer s body))
  asked_now agrees = subst (Told e body wanting) (sym row_is) (told_behind e body wanting (answer ∷ []) (outs (each (ask body) those) (behind wanting (answer ∷ [])))
      (each_told e body those (still_named (agrees_on_all settings s before) e agrees (running_in settings serving.group before) listed) (behind wanting (answer ∷ []))))

  -- or it is owed
  has_now : agrees_on_all settings s before e ≡ false → Has (debt settings s e body method) (debts_of settings s e wanting)
  has_now apart = subst (Has (debt settings s e body method)) (sym (debts_more settings s e before (heard (FromServer s body)) ∙ is)) (put_has (debt_of s e method body) (debts_of settings s e before))
    where
      is : (if nat_eq s s then debts_asked settings s e before body (message_of body) (debts_of settings s e before) else debts_of settings s e before) ≡ owed_by false (debt_of s e method body) (debts_of settings s e before)
      is = ap (λ b. if b then debts_asked settings s e before body (message_of body) (debts_of settings s e before) else debts_of settings s e before) (same_number s)
          ∙ (ap (λ m. debts_asked settings s e before body m (debts_of settings s e before)) says
          ∙ (ap₂ (λ a b. if a && b then owed_by (agrees_on_all settings s before e) (debt_of s e method body) (debts_of settings s e before) else debts_of settings s e before) anew runs
          ∙ ap (λ c. owed_by c (debt_of s e method body) (debts_of settings s e before)) apart))

  module _ (fits_here : fits_behind before (FromServer s body) ≡ true) (xs : List Out) (are : xs ≡ entry_outs settings before (FromServer s body)) where
    told_now : agrees_on_all settings s before e ≡ true → Told e body wanting xs
    told_now agrees = subst (Told e body wanting) (sym are) (told_before e body wanting (outs_of settings before (FromServer s body)) (outs (slow_row settings) (behind wanting (outs_of settings before (FromServer s body)))) (asked_now agrees))

    owes_now : agrees_on_all settings s before e ≡ false → (ends_debts s e (heard (FromServer s body)) || list_any (λ out. ends_debts s e (said out)) xs) ≡ false → Owes settings range s e body method (behind wanting xs)
    owes_now apart over =
        let on = runs_on settings range s e body method before (FromServer s body) fits_here xs are over moment running in
        record { moment = on.0; running = on.1; has = outs_has settings s e body method wanting xs over (has_now apart) }

-- A whole history

module _ (settings : Settings) (range : InRange settings) where
  on_refresh : (before rest : List Entry) (entry : Entry) → Reached settings (events_of before) → LegalFrom settings before (entry ∷ rest) → OnRefresh settings before entry rest
  on_refresh before rest entry at legal s body method id params from says anew e runs = go (agrees_on_all settings s (events_of before) e) refl
    where
      fits_it : fits_behind (events_of before) (FromServer s body) ≡ true
      fits_it = ap (fits_behind (events_of before)) (sym from) ∙ legal.0

      are_it : entry.outs ≡ entry_outs settings (events_of before) (FromServer s body)
      are_it = legal.1 ∙ ap (entry_outs settings (events_of before)) from

      go : (b : Bool) → agrees_on_all settings s (events_of before) e ≡ b → IsAsked e body before entry ⊎ Unless (is_over s e entry) (Reaches settings s e method body (before ++ entry ∷ []) rest)
      go true agrees = inl (asked_at settings range s e body method before entry (subst (λ c. Told e body (with_cause (events_of before) c) entry.outs) (sym from)
          (told_now settings range s body method id params (events_of before) at says anew e runs fits_it entry.outs are_it agrees)))
      go false apart = inr (unless (is_over s e entry) _ (λ off. reaches settings range s e body method (before ++ entry ∷ []) rest legal.2
          (subst (Owes settings range s e body method) (sym (events_more before entry)) (subst (λ c. Owes settings range s e body method (behind (with_cause (events_of before) c) entry.outs)) (sym from)
          (owes_now settings range s body method id params (events_of before) at says anew e runs fits_it entry.outs are_it apart
          (ap (λ c. ends_debts s e (heard c) || list_any (λ out. ends_debts s e (said out)) entry.outs) (sym from) ∙ off))))))

  next_reached : (before : List Entry) (entry : Entry) → fits_behind (events_of before) entry.cause ≡ true → entry.outs ≡ entry_outs settings (events_of before) entry.cause → Reached settings (events_of before) → Reached settings (events_of (before ++ entry ∷ []))
  next_reached before entry fits_it are at = subst (Reached settings) (sym (events_more before entry)) (subst (λ z. Reached settings (behind (with_cause (events_of before) entry.cause) z)) (sym are)
      (whole_entry settings (Reached settings) (λ place e slow k. slow_behind place e slow k) (events_of before) entry.cause (row_behind (events_of before) entry.cause fits_it at)))

  refreshes_from : (before rest : List Entry) → Reached settings (events_of before) → LegalFrom settings before rest → RefreshesFrom settings before rest
  refreshes_from before [] at legal = tt
  refreshes_from before (entry ∷ rest) at legal = (on_refresh before rest entry at legal, refreshes_from (before ++ entry ∷ []) rest (next_reached before entry legal.0 legal.1 at) legal.2)

  pub refreshes_law : (history : List Entry) → Legal settings history → KeepsRefreshes settings history
  refreshes_law history legal = refreshes_from [] history at_first legal
