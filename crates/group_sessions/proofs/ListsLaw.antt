-- In every legal history each entry sends each editor just the lists of diagnostics that it is due.
use Rattle.std.proofs.Common.{◌≡◌, ℕ, Bool, true, false, ◌&&◌, List, [], ◌∷◌, ◌++◌, append-nil, append_assoc, codes, map, nat_eq, if◌then◌else◌, Option, ◌⊎◌, inl, inr, refl, sym, ◌∙◌, ap, ap₂, subst}
use Rattle.std.specs.List.{AllByRecursion}
use Rattle.std.specs.Option.{option_map_or}
use Rattle.json_text.specs.Json.{Json}
use Rattle.document_model.specs.Sayings.{opens, saying_by, saying_of, speaks}
use Rattle.mux_history.specs.declared.cause.Cause.{Cause}
use Rattle.mux_history.specs.declared.cause.Cause.TheVariants.{Joined, FromEditor, EditorGone, Started, StartFailed, FromServer, ServerGone, Drained, Tick}
use Rattle.mux_history.specs.declared.entry.Entry.{Entry}
use Rattle.mux_history.specs.declared.out.Out.{Out}
use Rattle.mux_history.specs.declared.out.Out.TheVariants.{ToEditor, ToServer, Spawn, CloseEditor, EndServer}
use Rattle.rpc_message.specs.Message.{Message, request, notification, result, error, not_json, not_message, message_of}
use Rattle.event_model.specs.declared.phase.Phase.{Phase}
use Rattle.event_model.specs.declared.phase.Phase.TheVariants.{Absent, New, Waiting, Answered, Running, Down, Closed, Gone}
use Rattle.event_model.specs.Event.{Event, behind, events_of, heard, requests, said, with_cause}
use Rattle.event_model.specs.Phases.{Desk, desk_hears, desk_of, is_running, makes_running, phase_closed}
use Rattle.event_model.specs.Row.{choose, nothing, outs, ◌⨾◌}
use Rattle.event_model.specs.Settings.{Settings}
use Rattle.event_model.specs.Stages.{is_ready, life_of}
use Rattle.event_model.proofs.Frames.{never}
use Rattle.mux_model.specs.Rows.{malformed_row}
use Rattle.mux_facts.specs.Ranges.{InRange}
use Rattle.mux_facts.proofs.DocumentRow.{ready_is}
use Rattle.mux_facts.proofs.Folds.{desk_more}
use Rattle.mux_facts.proofs.Keeps.{behind_both}
use Rattle.mux_facts.proofs.Lists.{all_join, all_of}
use Rattle.mux_facts.proofs.Reasons.{Reasons, by_send, by_then}
use Rattle.mux_facts.proofs.Words.{number_same, same_number}
use Rattle.group_words.specs.Houses.{is_doubled}
use Rattle.group_rows.specs.diagnostics_route.specs.Published.{published}
use Rattle.group_rows.specs.AskRows.{run_row}
use Rattle.group_rows.specs.Asks.{serves}
use Rattle.group_rows.specs.Leaves.{leave_row}
use Rattle.group_rows.specs.Lists.{is_publishing, names_list, sayings_of}
use Rattle.group_rows.specs.Rows.{closing_row, document_row, from_editor, lspmux_row, message_row, outs_of, served_row, taken_row, told_row}
use Rattle.group_rows.proofs.Versions.{AllMeant, meant_heard, meant_more}
use Rattle.group_facts.specs.Legal.{Legal, LegalFrom}
use Rattle.group_facts.specs.Settled.{Settled}
use Rattle.group_facts.specs.Why.{IsQuestion, Showing, Why, begins_by, comes, opened_by}
use Rattle.group_facts.proofs.AskingRows.{running_is, still_runs}
use Rattle.group_facts.proofs.Begun.{leave_by}
use Rattle.group_facts.proofs.Facts.{Facts}
use Rattle.group_facts.proofs.Reached.{Reached, facts_at, reached, settled_at}
use Rattle.group_facts.proofs.SlowRow.{slow_all}
use Rattle.group_facts.proofs.LastStarts.{AllLast}
use Rattle.group_facts.proofs.Resuming.{run_questions, stays_there}
use Rattle.group_facts.proofs.Same.{IsBody}
use Rattle.group_facts.proofs.Shown.{meant_behind}
use Rattle.group_facts.proofs.Still.{Goes, goes_body, still_document, still_served}
use Rattle.group_facts.proofs.Table.{reasons}
use Rattle.group_sessions.proofs.DueOnce.{well_formed}
use Rattle.group_sessions.proofs.ListsNone.{Listless, Off, all_off, lists_join, lists_none, off_lists, unrun_more, unrun_off}
use Rattle.group_sessions.proofs.ListsServed.{Opens, OpensNone, at_join, at_none, at_same, full, none_due, opened_row, opens_lists, opens_or, run_lists, served_off}
use Rattle.group_sessions.proofs.ListsShown.{comes_exactly}
use Rattle.group_sessions.proofs.TellingPlaces.{last_starts}
use Rattle.group_sessions.proofs.Tied.{runs_on}
use Rattle.group_sessions.specs.LastLists.{KeepsLists, at_start, due_beginning, due_coming, due_opening, due_own, gives_list, lists_due, lists_to, shown}
use Rattle.group_facts.specs.SlowRows.{slow_row}
use Rattle.group_facts.specs.Facts.{is_exit}
use Rattle.group_facts.proofs.ExitEntry.{failed_exit, gone_exit}
use Rattle.group_sessions.proofs.ListsLost.{ending_lists}
use Rattle.group_rows.proofs.DebtsKept.{forth_speaking, off_forth, off_unrun, whole_off}

-- Editors that run

question_body : (e : ℕ) (out : Out) → IsQuestion e out → IsBody out
question_body e (ToEditor n body) h = tt
question_body e (ToServer s body) h = tt
question_body e (Spawn s g) h = h
question_body e (CloseEditor n) h = h
question_body e (EndServer s) h = h

runs_behind : (e : ℕ) (xs : List Out) (events : List Event) → AllByRecursion IsBody xs → (desk_of e events).phase ≡ Running → (desk_of e (behind events xs)).phase ≡ Running
runs_behind e [] events all running = ap (λ z. (desk_of e z).phase) (append-nil events) ∙ running
runs_behind e (ToEditor n body ∷ xs) events all running = ap (λ z. (desk_of e z).phase) (sym (append_assoc events (said (ToEditor n body) ∷ []) (map said xs))) ∙ runs_behind e xs (events ++ said (ToEditor n body) ∷ []) all.1 (still_runs events n body e running)
runs_behind e (ToServer s body ∷ xs) events all running = ap (λ z. (desk_of e z).phase) (sym (append_assoc events (said (ToServer s body) ∷ []) (map said xs)))
    ∙ runs_behind e xs (events ++ said (ToServer s body) ∷ []) all.1 (ap (λ (d : Desk). d.phase) (desk_more e events (said (ToServer s body))) ∙ running)
runs_behind e (Spawn s g ∷ xs) events all running = absurd all.0
runs_behind e (CloseEditor n ∷ xs) events all running = absurd all.0
runs_behind e (EndServer s ∷ xs) events all running = absurd all.0

-- One entry

-- a message came
abbrev talks : Cause → Bool
talks (FromEditor n body) = true
talks (FromServer s body) = true
talks other = false

module _ (settings : Settings) (range : InRange settings) (before : List Event) (facts : Facts settings before) (settled : Settled settings before) (lasts : AllLast before) (e : ℕ) where
  -- by e's own message
  module _ (body : List ℕ) where
    abbrev m : Message
    m = message_of body

    abbrev now : List Event
    now = with_cause before (FromEditor e body)

    abbrev xs : List Out
    xs = outs_of settings before (FromEditor e body)

    abbrev after : List Event
    after = behind now xs

    why : Reasons (Why settings before (FromEditor e body)) now xs
    why = (reasons settings range before facts (FromEditor e body)).why

    now_meant : AllMeant now
    now_meant = meant_more before (heard (FromEditor e body)) (facts.base).meant (meant_heard (FromEditor e body))

    abbrev heard_as : Phase → Phase
    heard_as p = (desk_hears p (desk_of e before).initialize body m).phase

    phase_now : (desk_of e now).phase ≡ heard_as (desk_of e before).phase
    phase_now = ap (λ (d : Desk). d.phase) (desk_more e before (heard (FromEditor e body)))
        ∙ ap (λ b. (if b then desk_hears (desk_of e before).phase (desk_of e before).initialize body m else desk_of e before).phase) (same_number e)

    abbrev due_then : List (List ℕ)
    due_then = at_start settings e before (λ s. due_beginning settings e before s ++ due_opening settings e after (saying_of m) s)

    abbrev Sends : Type 0
    Sends = lists_to e xs ≡ due_own settings e before m after

    runs_after : is_running (desk_of e after).phase ≡ true → lists_to e xs ≡ due_then → Sends
    runs_after on is = is ∙ ap (λ b. if b then due_then else []) (sym on)

    rests_after : is_running (desk_of e after).phase ≡ false → lists_to e xs ≡ [] → Sends
    rests_after off is = is ∙ ap (λ b. if b then due_then else []) (sym off)

    unrun : is_running (desk_of e now).phase ≡ false → Sends
    unrun off = rests_after (unrun_more settings before (FromEditor e body) e now xs off) (unrun_off settings before (FromEditor e body) e now xs why off)

    -- it runs
    module _ (runs : (desk_of e before).phase ≡ Running) where
      opened : (method : List ℕ) (params : Option Json) → m ≡ notification method params → (u l v t : List ℕ) → saying_by method params ≡ opens u l v t → Sends
      opened method params is u l v t says = runs_after (ap is_running (runs_behind e xs now bodies running)) (ap (lists_to e) row_is
          ∙ (opens_lists settings before e body u l v t method params says now now_meant
          ∙ (ap (λ zs. at_start settings e before (due_opening settings e (behind now zs) (opens u l v t))) (sym row_is)
          ∙ at_same settings e before (due_opening settings e after (opens u l v t)) (λ s. due_beginning settings e before s ++ due_opening settings e after (saying_of m) s)
          (λ s. ap₂ (λ b w. (if b then [] else full settings before (facts.base).meant (facts.steady).asks e s) ++ due_opening settings e after w s) (sym (ap is_running runs)) (sym (ap saying_of is ∙ says))))))
        where
          row_is : xs ≡ outs (served_row settings before e body (notification method params)) now
          row_is = whole_off settings before e body (off_forth settings before e body m (forth_speaking settings before e body m (ap speaks (ap saying_of is ∙ says)))) ∙ (ap (λ p. outs (from_editor settings before e body m p) now) runs ∙ ap (λ w. outs (from_editor settings before e body w Running) now) is)

          bodies : AllByRecursion IsBody xs
          bodies = subst (AllByRecursion IsBody) (sym (row_is ∙ opened_row settings before e body u l v t method params says now))
              (all_of Goes IsBody goes_body (outs (document_row settings before e body (opens u l v t)) now) ((still_document settings before e body (opens u l v t)).goes now now_meant))

          running : (desk_of e now).phase ≡ Running
          running = phase_now ∙ (ap heard_as runs ∙ ap (λ w. (desk_hears Running (desk_of e before).initialize body w).phase) is)

      opening : Opens (saying_of m) → Sends
      opening w = go m refl w.is
        where
          go : (z : Message) → m ≡ z → saying_of z ≡ opens w.uri w.language w.version w.text → Sends
          go (notification method params) is says = opened method params is w.uri w.language w.version w.text says
          go (request id method params) is says = absurd (cc)
          go (result id r) is says = absurd (cc)
          go (error id x) is says = absurd (cc)
          go not_json is says = absurd (cc)
          go not_message is says = absurd (cc)

      other : OpensNone (saying_of m) → Sends
      other none = all_off settings before (FromEditor e body) e (λ events text k. hidden events text k.start k.shown) (λ s is. never (sym is)) now xs why ∙ sym (nothing_due (is_running (desk_of e after).phase))
        where
          hidden : (events : List Event) (text : List ℕ) (s : ℕ) → Showing settings before (FromEditor e body) events e s text → ⊥
          hidden events text s (comes asked method given list from notified class came fitting) = let clash : FromEditor e body ≡ FromServer s asked = from in cc
          hidden events text s (opened_by words u l v t list from says found full fitting) = none u l v t (ap (λ z. saying_of (message_of z)) (let is : FromEditor e body ≡ FromEditor e words = from in let same : body ≡ words = cc in same) ∙ says)
          hidden events text s (begins_by list earlier later restoring order full fitting) = let clash : Running ≡ Answered = sym runs ∙ restoring.waited in cc

          nothing_due : (b : Bool) → (if b then due_then else []) ≡ []
          nothing_due true = at_same settings e before (λ s. due_beginning settings e before s ++ due_opening settings e after (saying_of m) s) (λ s. [])
              (λ s. ap₂ (λ b z. (if b then [] else full settings before (facts.base).meant (facts.steady).asks e s) ++ z) (ap is_running runs) (none_due settings e before after (saying_of m) none s)) ∙ at_none settings e before
          nothing_due false = refl

      run_before : Sends
      run_before = go (opens_or (saying_of m))
        where
          go : (Opens (saying_of m)) ⊎ (OpensNone (saying_of m)) → Sends
          go (inl w) = opening w
          go (inr none) = other none

    -- it begins to run
    begins : (p : Phase) → is_running p ≡ false → is_running (heard_as p) ≡ true → (p ≡ Answered) × (makes_running m ≡ true)
    begins New off on = absurd (never_new (requests (codes "initialize") m) on)
      where
        heard_new : Bool → Desk
        heard_new b = if b then record { phase = Waiting; initialize = body } else record { phase = New; initialize = (desk_of e before).initialize }

        never_new : (b : Bool) → is_running (heard_new b).phase ≡ true → ⊥
        never_new true h = never (sym h)
        never_new false h = never (sym h)
    begins Answered off on = (refl, go (requests (codes "shutdown") m) (makes_running m) on)
      where
        go : (a b : Bool) → is_running (if a then Down else if b then Running else Answered) ≡ true → b ≡ true
        go true b h = never (sym h)
        go false true h = refl
        go false false h = never (sym h)
    begins Running off on = never off
    begins Absent off on = never (sym on)
    begins Waiting off on = never (sym on)
    begins Down off on = never (sym on)
    begins Closed off on = never (sym on)
    begins Gone off on = never (sym on)

    module _ (waited : (desk_of e before).phase ≡ Answered) (runs : makes_running m ≡ true) (running : (desk_of e now).phase ≡ Running) where
      first_row : xs ≡ outs (message_row settings before e body m Answered) now
      first_row = whole_off settings before e body (off_unrun settings before e body m (ap is_running waited)) ∙ (ap (λ p. outs (from_editor settings before e body m p) now) waited ∙ ap (λ b. outs (choose b (malformed_row e m Answered) (message_row settings before e body m Answered)) now) (well_formed m runs).0)

      doubled : is_doubled before e m ≡ true → Sends
      doubled twice = rests_after (ap (λ z. is_running (desk_of e z).phase) (ap (behind now) row_is ∙ behind_both now (CloseEditor e ∷ []) parted) ∙ unrun_more settings before (FromEditor e body) e shut parted closed)
          (ap (lists_to e) row_is ∙ off_lists e now (closing_row settings before e) closing_off)
        where
          shut : List Event
          shut = behind now (CloseEditor e ∷ [])

          parted : List Out
          parted = outs (leave_row settings before e) shut

          row_is : xs ≡ CloseEditor e ∷ parted
          row_is = first_row ∙ ap (λ b. outs (choose b (closing_row settings before e) (told_row settings before e body m Answered)) now) twice

          closing_off : Off e now (closing_row settings before e)
          closing_off = by_then (by_send refl) (leave_by (λ places out. Listless e out) (λ places s b. refl) settings before e shut)

          closed : is_running (desk_of e shut).phase ≡ false
          closed = ap (λ (d : Desk). is_running d.phase) (desk_more e now (said (CloseEditor e)))
              ∙ (ap (λ b. is_running (if b then record { phase = phase_closed (desk_of e now).phase; initialize = (desk_of e now).initialize } else desk_of e now).phase) (same_number e) ∙ runs_on.closed (desk_of e now).phase)

      single : is_doubled before e m ≡ false → Sends
      single once = runs_after (ap is_running (runs_behind e xs now bodies running)) (ap (lists_to e) row_is
          ∙ (lists_join e run_outs served_outs
          ∙ (ap₂ (λ u v. u ++ v) (run_lists settings before (facts.base).meant (facts.steady).asks e now) (served_lists (opens_or (saying_of m)))
          ∙ (at_join settings e before (full settings before (facts.base).meant (facts.steady).asks e) (due_opening settings e later (saying_of m))
          ∙ at_same settings e before (λ s. full settings before (facts.base).meant (facts.steady).asks e s ++ due_opening settings e later (saying_of m) s) (λ s. due_beginning settings e before s ++ due_opening settings e after (saying_of m) s)
          (λ s. ap₂ (λ b z. (if b then [] else full settings before (facts.base).meant (facts.steady).asks e s) ++ due_opening settings e z (saying_of m) s) (sym (ap is_running waited)) place)))))
        where
          run_outs : List Out
          run_outs = outs (run_row settings before e) now

          mid : List Event
          mid = behind now run_outs

          served_outs : List Out
          served_outs = outs (served_row settings before e body m) mid

          later : List Event
          later = behind mid served_outs

          mid_meant : AllMeant mid
          mid_meant = meant_behind now run_outs now_meant

          row_is : xs ≡ run_outs ++ served_outs
          row_is = first_row
              ∙ (ap (λ b. outs (choose b (closing_row settings before e) (told_row settings before e body m Answered)) now) once
              ∙ (ap (λ b. outs (choose b (lspmux_row settings before e body m) (taken_row settings before e body m Answered)) now) (well_formed m runs).1
              ∙ ap (λ b. outs (choose b (run_row settings before e) nothing ⨾ served_row settings before e body m) now) runs))

          place : later ≡ after
          place = sym (behind_both now run_outs served_outs) ∙ ap (behind now) (sym row_is)

          bodies : AllByRecursion IsBody xs
          bodies = subst (AllByRecursion IsBody) (sym row_is) (all_join IsBody run_outs served_outs
              (all_of (IsQuestion e) IsBody (question_body e) run_outs (run_questions settings before e body waited runs (stays_there settings before e body waited runs once) (facts.steady).asks (facts.base).meant))
              (all_of Goes IsBody goes_body served_outs ((still_served settings before e body (facts.steady).held (ap is_running waited) m refl runs).goes mid mid_meant)))

          served_by : (z : Message) → m ≡ z → (w : Opens (saying_of z)) → lists_to e (outs (served_row settings before e body z) mid) ≡ at_start settings e before (due_opening settings e (behind mid (outs (served_row settings before e body z) mid)) (saying_of z))
          served_by (notification method params) is w = subst (λ y. lists_to e (outs (served_row settings before e body (notification method params)) mid) ≡ at_start settings e before (due_opening settings e (behind mid (outs (served_row settings before e body (notification method params)) mid)) y)) (sym w.is)
              (opens_lists settings before e body w.uri w.language w.version w.text method params w.is mid mid_meant)
          served_by (request id method params) is w = absurd (let clash = w.is in cc)
          served_by (result id r) is w = absurd (let clash = w.is in cc)
          served_by (error id x) is w = absurd (let clash = w.is in cc)
          served_by not_json is w = absurd (let clash = w.is in cc)
          served_by not_message is w = absurd (let clash = w.is in cc)

          served_lists : (Opens (saying_of m)) ⊎ (OpensNone (saying_of m)) → lists_to e served_outs ≡ at_start settings e before (due_opening settings e later (saying_of m))
          served_lists (inl w) = served_by m refl w
          served_lists (inr none) = off_lists e mid (served_row settings before e body m) (served_off settings before e body (ap is_running waited) mid (facts.steady).held m refl runs none)
              ∙ sym (at_same settings e before (due_opening settings e later (saying_of m)) (λ s. []) (none_due settings e before later (saying_of m) none) ∙ at_none settings e before)

      run_later : Sends
      run_later = go (is_doubled before e m) refl
        where
          go : (b : Bool) → is_doubled before e m ≡ b → Sends
          go true twice = doubled twice
          go false once = single once

    pub own_lists : Sends
    own_lists = go (is_running (desk_of e before).phase) refl
      where
        by_now : is_running (desk_of e before).phase ≡ false → (b : Bool) → is_running (desk_of e now).phase ≡ b → Sends
        by_now off false still = unrun still
        by_now off true on = let p = begins (desk_of e before).phase off (sym (ap is_running phase_now) ∙ on) in run_later p.0 p.1 (running_is settings before (desk_of e now).phase on)

        go : (b : Bool) → is_running (desk_of e before).phase ≡ b → Sends
        go true on = run_before (running_is settings before (desk_of e before).phase on)
        go false off = by_now off (is_running (desk_of e now).phase) refl

  -- by a message of another editor
  other_editor : (n : ℕ) (body : List ℕ) → nat_eq n e ≡ false → lists_to e (outs_of settings before (FromEditor n body)) ≡ []
  other_editor n body apart = all_off settings before (FromEditor n body) e (λ events text k. hidden events text k.start k.shown) (λ s is. never (sym is)) (with_cause before (FromEditor n body)) (outs_of settings before (FromEditor n body)) (reasons settings range before facts (FromEditor n body)).why
    where
      mine : (words : List ℕ) → FromEditor n body ≡ FromEditor e words → ⊥
      mine words from = never (sym (same_number e) ∙ (ap (λ z. nat_eq z e) (sym same) ∙ apart))
        where
          same : n ≡ e
          same = cc

      hidden : (events : List Event) (text : List ℕ) (s : ℕ) → Showing settings before (FromEditor n body) events e s text → ⊥
      hidden events text s (comes asked method given list from notified class came fitting) = let clash : FromEditor n body ≡ FromServer s asked = from in cc
      hidden events text s (opened_by words u l v t list from says found full fitting) = mine words from
      hidden events text s (begins_by list earlier later restoring order full fitting) = mine restoring.text restoring.from

  -- by a message of a start
  module _ (s : ℕ) (body : List ℕ) where
    abbrev told : List Event
    told = with_cause before (FromServer s body)

    unpublished : (gives_list (message_of body) ≡ true → is_ready (life_of s before).stage ≡ true → ⊥) → lists_to e (outs_of settings before (FromServer s body)) ≡ []
    unpublished none = all_off settings before (FromServer s body) e (λ events text k. hidden events text k.start (ap is_ready k.ready) k.shown) (λ n is. never (sym is)) told (outs_of settings before (FromServer s body)) (reasons settings range before facts (FromServer s body)).why
      where
        hidden : (events : List Event) (text : List ℕ) (t : ℕ) → is_ready (life_of t before).stage ≡ true → Showing settings before (FromServer s body) events e t text → ⊥
        hidden events text t ready (comes asked method given list from notified class came fitting) =
            let is : FromServer s body ≡ FromServer t asked = from in
            let same_start : s ≡ t = cc in
            let same_body : body ≡ asked = cc in
            none (ap (λ z. gives_list (message_of z)) same_body ∙ (ap gives_list notified ∙ ap names_list class)) (ap (λ z. is_ready (life_of z before).stage) same_start ∙ ready)
        hidden events text t ready (opened_by words u l v x list from says found full fitting) = let clash : FromServer s body ≡ FromEditor e words = from in cc
        hidden events text t ready (begins_by list earlier later restoring order full fitting) = let clash : FromServer s body ≡ FromEditor e restoring.text = restoring.from in cc

    start_lists : lists_to e (outs_of settings before (FromServer s body)) ≡ (if gives_list (message_of body) then due_coming settings s e before body else [])
    start_lists = go (message_of body) refl
      where
        published_by : (method : List ℕ) (params : Option Json) → message_of body ≡ notification method params → is_publishing method ≡ true → (b : Bool) → is_ready (life_of s before).stage ≡ b → lists_to e (outs_of settings before (FromServer s body)) ≡ due_coming settings s e before body
        published_by method params says class true ready = comes_exactly settings before facts settled lasts e s body method params says class (ready_is (life_of s before).stage ready)
        published_by method params says class false off = unpublished (λ gives ready. never (sym ready ∙ off))
            ∙ sym (ap (λ b. if b && (is_running (desk_of e before).phase && serves settings before s e) then option_map_or (shown settings s e before) (published (sayings_of s before) body) [] else []) off)

        unlisted : gives_list (message_of body) ≡ false → lists_to e (outs_of settings before (FromServer s body)) ≡ (if gives_list (message_of body) then due_coming settings s e before body else [])
        unlisted none = unpublished (λ gives ready. never (sym gives ∙ none)) ∙ sym (ap (λ b. if b then due_coming settings s e before body else []) none)

        go : (z : Message) → message_of body ≡ z → lists_to e (outs_of settings before (FromServer s body)) ≡ (if gives_list (message_of body) then due_coming settings s e before body else [])
        go (notification method params) says = by_class (is_publishing method) refl
          where
            by_class : (b : Bool) → is_publishing method ≡ b → lists_to e (outs_of settings before (FromServer s body)) ≡ (if gives_list (message_of body) then due_coming settings s e before body else [])
            by_class true class = published_by method params says class (is_ready (life_of s before).stage) refl ∙ sym (ap (λ b. if b then due_coming settings s e before body else []) (ap gives_list says ∙ class))
            by_class false other = unlisted (ap gives_list says ∙ other)
        go (request id method params) says = unlisted (ap gives_list says)
        go (result id r) says = unlisted (ap gives_list says)
        go (error id x) says = unlisted (ap gives_list says)
        go not_json says = unlisted (ap gives_list says)
        go not_message says = unlisted (ap gives_list says)

  -- by none
  silent : (cause : Cause) → talks cause ≡ false → ((s : ℕ) → is_exit cause s ≡ true → ⊥) → lists_to e (outs_of settings before cause) ≡ []
  silent cause quiet on = all_off settings before cause e (λ events text k. never (sym (spoken events text k.start k.shown) ∙ quiet)) on (with_cause before cause) (outs_of settings before cause) (reasons settings range before facts cause).why
    where
      spoken : (events : List Event) (text : List ℕ) (s : ℕ) → Showing settings before cause events e s text → talks cause ≡ true
      spoken events text s (comes asked method given list from notified class came fitting) = ap talks from
      spoken events text s (opened_by words u l v t list from says found full fitting) = ap talks from
      spoken events text s (begins_by list earlier later restoring order full fitting) = ap talks restoring.from

  pub entry_lists : (cause : Cause) → lists_to e (outs_of settings before cause) ≡ lists_due settings e before cause (behind (with_cause before cause) (outs_of settings before cause))
  entry_lists (FromEditor n body) = go (nat_eq n e) refl
    where
      Holds : ℕ → Bool → Type 0
      Holds k b = lists_to e (outs_of settings before (FromEditor k body)) ≡ (if b then due_own settings e before (message_of body) (behind (with_cause before (FromEditor k body)) (outs_of settings before (FromEditor k body))) else [])

      go : (b : Bool) → nat_eq n e ≡ b → Holds n b
      go true same = subst (λ z. Holds z true) (sym (number_same n e same)) (own_lists body)
      go false apart = other_editor n body apart
  entry_lists (FromServer s body) = start_lists s body
  entry_lists (Joined n) = silent (Joined n) refl (λ z is. never (sym is))
  entry_lists (EditorGone n why) = silent (EditorGone n why) refl (λ z is. never (sym is))
  entry_lists (Started s) = silent (Started s) refl (λ z is. never (sym is))
  entry_lists (StartFailed s) = ending_lists settings range before facts settled lasts e (StartFailed s) s (failed_exit settings before s)
  entry_lists (ServerGone s) = ending_lists settings range before facts settled lasts e (ServerGone s) s (gone_exit settings before s)
  entry_lists (Drained n k) = silent (Drained n k) refl (λ z is. never (sym is))
  entry_lists (Tick t) = silent (Tick t) refl (λ z is. never (sym is))

-- A whole history

pub legal_parts : (settings : Settings) (before xs ys : List Entry) → LegalFrom settings before (xs ++ ys) → LegalFrom settings before xs × LegalFrom settings (before ++ xs) ys
legal_parts settings before [] ys legal = (tt, subst (λ z. LegalFrom settings z ys) (sym (append-nil before)) legal)
legal_parts settings before (x ∷ xs) ys legal =
    let rest = legal_parts settings (before ++ x ∷ []) xs ys legal.2 in
    ((legal.0, legal.1, rest.0), subst (λ z. LegalFrom settings z ys) (append_assoc before (x ∷ []) xs) rest.1)

module _ (settings : Settings) (range : InRange settings) where
  at_entry : (before later : List Entry) (entry : Entry) → Legal settings before → LegalFrom settings before (entry ∷ later) → (e : ℕ) → lists_to e entry.outs ≡ lists_due settings e (events_of before) entry.cause (behind (with_cause (events_of before) entry.cause) (outs_of settings (events_of before) entry.cause))
  at_entry before later entry so_far legal e =
      let at : Reached settings (events_of before) = reached settings before so_far in
      let row : List Out = outs_of settings (events_of before) entry.cause in
      let slow : List Out = outs (slow_row settings) (behind (with_cause (events_of before) entry.cause) row) in
      ap (lists_to e) legal.1 ∙ (lists_join e row slow ∙ (ap (λ z. lists_to e row ++ z) (lists_none e slow (slow_all settings (Listless e) (λ n. refl) (λ s body. refl) (behind (with_cause (events_of before) entry.cause) row)))
      ∙ (append-nil (lists_to e row) ∙ entry_lists settings range (events_of before) (facts_at settings range (events_of before) at) (settled_at settings range (events_of before) at) (last_starts settings range (events_of before) at) e entry.cause)))

  pub lists_law : (history : List Entry) → Legal settings history → KeepsLists settings history
  lists_law history legal before later entry is e =
      let parts : LegalFrom settings [] before × LegalFrom settings before (entry ∷ later) = legal_parts settings [] before (entry ∷ later) (subst (Legal settings) is legal) in
      at_entry before later entry parts.0 parts.1 e
