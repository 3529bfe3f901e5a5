-- What an editor is told of registrations fits what it was told before.
use Rattle.std.proofs.Common.{◌≡◌, ℕ, Bool, true, false, not, ◌&&◌, List, [], ◌∷◌, ◌++◌, codes, nat_eq, if◌then◌else◌, Some, refl, sym, ◌∙◌, ap, subst, inl, inr}
use Rattle.std.proofs.lemmas.Bool.{and_parts}
use Rattle.mux_history.specs.declared.cause.Cause.{Cause}
use Rattle.mux_history.specs.declared.cause.Cause.TheVariants.{Joined, FromEditor, EditorGone, Started, StartFailed, FromServer, ServerGone, Drained, Tick}
use Rattle.mux_history.specs.declared.entry.Entry.{Entry}
use Rattle.mux_history.specs.declared.out.Out.{Out}
use Rattle.mux_history.specs.declared.out.Out.TheVariants.{ToEditor, ToServer, Spawn, CloseEditor, EndServer}
use Rattle.lsp_method.specs.Class.{class_of}
use Rattle.lsp_method.specs.declared.variants.Origin.TheVariants.{Server}
use Rattle.rpc_message.specs.Message.{Message, request, notification, result, error, not_json, not_message, message_of}
use Rattle.event_model.specs.declared.phase.Phase.{Phase}
use Rattle.event_model.specs.declared.phase.Phase.TheVariants.{Absent, New, Waiting, Answered, Running, Down, Closed, Gone}
use Rattle.event_model.specs.declared.stage.Stage.{Stage}
use Rattle.event_model.specs.declared.stage.Stage.TheVariants.{Unspawned, Spawning, Initializing, Ready, Stopping, Ending, Ended}
use Rattle.event_model.specs.Event.{Event, behind, events_of, heard, requests, said, took, with_cause}
use Rattle.event_model.specs.Phases.{Desk, desk_hears, desk_of, is_running, makes_running}
use Rattle.event_model.specs.Settings.{Settings}
use Rattle.event_model.specs.Spawns.{start_of}
use Rattle.event_model.specs.Stages.{Life, life_of, is_ready}
use Rattle.event_model.proofs.Frames.{never}
use Rattle.mux_model.specs.Fits.{fits_behind}
use Rattle.mux_facts.specs.Ranges.{InRange}
use Rattle.mux_facts.proofs.DocumentRow.{ready_is}
use Rattle.mux_facts.proofs.Folds.{desk_more, life_more}
use Rattle.mux_facts.proofs.Reasons.{reasons_keep}
use Rattle.mux_facts.proofs.Starts.{Starts}
use Rattle.mux_facts.proofs.Words.{number_same}
use Rattle.session_laws.specs.ClientRules.{KeepsClient7}
use Rattle.registrations.specs.declared.registration.Registration.{Registration}
use Rattle.group_words.specs.Houses.{home_of}
use Rattle.group_rows.specs.Asks.{asking_of, is_taken}
use Rattle.group_rows.specs.Live.{live_by, live_next, live_of}
use Rattle.group_rows.specs.Rows.{outs_of}
use Rattle.group_facts.specs.Facts.{is_unready}
use Rattle.group_facts.specs.Legal.{Legal}
use Rattle.group_facts.specs.Settled.{Settled}
use Rattle.group_facts.specs.Why.{Why}
use Rattle.group_facts.proofs.Facts.{Facts}
use Rattle.group_facts.proofs.Known.{Here, here_did, here_took}
use Rattle.group_facts.proofs.Levels.{Fresh, falls_back, unready_falls}
use Rattle.group_facts.proofs.Numbers.{spawn_fresh}
use Rattle.group_facts.proofs.LastStarts.{AllLast}
use Rattle.group_facts.proofs.Reached.{Reached, facts_at, reached, rests_at, settled_at}
use Rattle.group_facts.proofs.SlowRow.{parting, parting_calm, parting_keeps}
use Rattle.group_facts.proofs.Table.{reasons}
use Rattle.group_sessions.proofs.Begins.{begun_outcome}
use Rattle.group_sessions.proofs.Enrolled.{is_about}
use Rattle.group_sessions.proofs.Registered.{At, begins, ids, is_answered, is_change}
use Rattle.group_sessions.proofs.Numbers.{out_rests}
use Rattle.group_sessions.proofs.Tied.{All, IsTied, early_here, has_run, live_here, ordinary, ordinary_tied}
use Rattle.group_sessions.proofs.Told.{change_outcome}
use Rattle.group_sessions.proofs.Walk.{Keeps, KeepsSlow, walk}
use Rattle.group_facts.specs.SlowRows.{is_slow}
use Rattle.group_facts.proofs.AskEntries.{onward_slow}
use Rattle.group_facts.proofs.AskingRows.{running_is}
use Rattle.group_facts.proofs.Begun.{starts_stay}
use Rattle.group_facts.proofs.PutOut.{homes_stay}
use Rattle.group_sessions.proofs.Enrolled.{Same}
use Rattle.group_sessions.proofs.Registered.{at_free}
use Rattle.group_sessions.proofs.Tied.{all_back, live_rests, not_run, runs_on}

-- A start that gave no result has nothing that is live

unready_off : (stage : Stage) → is_unready stage ≡ true → is_ready stage ≡ false
unready_off Ready h = never (sym h)
unready_off Unspawned h = refl
unready_off Spawning h = refl
unready_off Initializing h = refl
unready_off Stopping h = never (sym h)
unready_off Ending h = never (sym h)
unready_off Ended h = never (sym h)

module _ (settings : Settings) (range : InRange settings) (before : List Event) (facts : Facts settings before) (cause : Cause) (fits : fits_behind before cause ≡ true) where
  record Level (events : List Event) : Type 0 where
    here : Here settings before cause events
    begun : (s : ℕ) → is_unready (life_of s before).stage ≡ false → is_unready (life_of s events).stage ≡ false

  not_back : (s : ℕ) (events : List Event) (event : Event) → Fresh is_unready unready_falls s (life_of s events) event → is_unready (life_of s events).stage ≡ false → is_unready (life_of s (events ++ event ∷ [])).stage ≡ false
  not_back s events event fresh begun = go (is_unready (life_of s (events ++ event ∷ [])).stage) refl
    where
      go : (b : Bool) → is_unready (life_of s (events ++ event ∷ [])).stage ≡ b → b ≡ false
      go true back = never (sym (falls_back is_unready unready_falls s (life_of s events) event fresh (sym (ap (λ (l : Life). is_unready l.stage) (life_more s events event)) ∙ back)) ∙ begun)
      go false still = refl

  fresh_cause : (c : Cause) (s : ℕ) → Fresh is_unready unready_falls s (life_of s before) (heard c)
  fresh_cause (Joined e) s = tt
  fresh_cause other s = tt

  fresh_out : (events : List Event) (out : Out) → Why settings before cause events out → Starts events → (s : ℕ) → Fresh is_unready unready_falls s (life_of s events) (said out)
  fresh_out events (Spawn n g) why none s = λ same. spawn_fresh is_unready refl events none s (subst (λ k. nat_eq k s ≡ true) why.0 same)
  fresh_out events (ToEditor e body) why none s = tt
  fresh_out events (ToServer n body) why none s = tt
  fresh_out events (CloseEditor e) why none s = tt
  fresh_out events (EndServer n) why none s = tt

  level_did : (events : List Event) (out : Out) → Why settings before cause events out → Level events → Level (events ++ said out ∷ [])
  level_did events out why i = record { here = here_did settings range before cause facts events out why i.here; begun = λ s h. not_back s events (said out) (fresh_out events out why (((i.here).mid).steady).starts s) (i.begun s h) }

  level_took : Level (with_cause before cause)
  level_took = record { here = here_took settings range before cause fits facts; begun = λ s h. not_back s before (heard cause) (fresh_cause cause s) h }

  pub begun_later : (s : ℕ) → is_unready (life_of s before).stage ≡ false → is_unready (life_of s (behind (with_cause before cause) (outs_of settings before cause))).stage ≡ false
  begun_later = (reasons_keep (λ events out. Why settings before cause events out) Level level_did (with_cause before cause) (outs_of settings before cause) (reasons settings range before facts cause).why level_took).begun

heard_unready : (settings : Settings) (before : List Event) (n s : ℕ) (body : List ℕ) (m : Message) (live : List Registration) → is_ready (life_of s before).stage ≡ false → live_next settings s before live (took (FromServer n body) m) ≡ live
heard_unready settings before n s body (request id method params) live off = ap (λ b. if nat_eq n s && (b && not (is_taken (Some id) (asking_of settings s before))) then live_by (class_of method Server false) body live else live) off ∙ go (nat_eq n s)
  where
    go : (b : Bool) → (if b && false then live_by (class_of method Server false) body live else live) ≡ live
    go true = refl
    go false = refl
heard_unready settings before n s body (notification method params) live off = refl
heard_unready settings before n s body (result id r) live off = refl
heard_unready settings before n s body (error id r) live off = refl
heard_unready settings before n s body not_json live off = refl
heard_unready settings before n s body not_message live off = refl

if_none : (b : Bool) (live : List Registration) → live ≡ [] → (if b then [] else live) ≡ []
if_none true live h = refl
if_none false live h = h

-- One entry

unrunning : (p : Phase) → has_run p ≡ false → is_running p ≡ false
unrunning Running k = k
unrunning _ k = refl

answered_is : (p : Phase) → is_answered p ≡ true → p ≡ Answered
answered_is Answered h = refl
answered_is Absent h = never (sym h)
answered_is New h = never (sym h)
answered_is Waiting h = never (sym h)
answered_is Running h = never (sym h)
answered_is Down h = never (sym h)
answered_is Closed h = never (sym h)
answered_is Gone h = never (sym h)

module _ (settings : Settings) (range : InRange settings) (before : List Event) (facts : Facts settings before) (settled : Settled settings before) (lasts : AllLast before) (all : All settings before) where
  abbrev later : Cause → List Event
  later cause = behind (with_cause before cause) (outs_of settings before cause)

  -- what an entry leaves at an editor
  record Whole (cause : Cause) (e : ℕ) : Type 0 where
    xs : List (List ℕ)
    at : At e xs (later cause)
    early : has_run (desk_of e (later cause)).phase ≡ false → ids e (later cause) ≡ []
    tied : (g t : ℕ) → (desk_of e (later cause)).phase ≡ Running → home_of settings e (later cause) ≡ Some g → start_of g (later cause) ≡ Some t → IsTied settings e t (ids e (later cause)) (later cause)

  module _ (cause : Cause) (fits : fits_behind before cause ≡ true) where
    plain : is_change before cause ≡ false → (e : ℕ) → begins before cause e ≡ false → Whole cause e
    plain off e runs =
        let g = ordinary settings range before facts settled cause fits all off lasts e runs in record {
          xs = ids e (later cause);
          at = record { always = g.always; has = refl };
          early = λ h. let k = early_here settings range before facts settled cause fits e h in g.kept (λ s lost. never (sym (ap has_run lost.ran) ∙ k.0)) ∙ all.early e k.0;
          tied = λ g t. ordinary_tied settings range before facts settled cause fits all off lasts e g t runs;
        }

    late : (e : ℕ) → begins before cause e ≡ true → has_run (desk_of e (later cause)).phase ≡ false → ids e (later cause) ≡ []
    late e runs h = never (sym runs ∙ (early_here settings range before facts settled cause fits e h).1)

    nothing_live : (s : ℕ) → is_unready (life_of s (later cause)).stage ≡ true → live_of settings s (later cause) ≡ []
    nothing_live s h = go (is_unready (life_of s before).stage) refl
      where
        next : is_ready (life_of s before).stage ≡ false → live_of settings s before ≡ [] → (c : Cause) → live_next settings s before (live_of settings s before) (heard c) ≡ []
        next off none (FromServer n body) = heard_unready settings before n s body (message_of body) (live_of settings s before) off ∙ none
        next off none (StartFailed n) = if_none (nat_eq n s) (live_of settings s before) none
        next off none (ServerGone n) = if_none (nat_eq n s) (live_of settings s before) none
        next off none (Joined e) = none
        next off none (FromEditor e body) = none
        next off none (EditorGone e why) = none
        next off none (Started n) = none
        next off none (Drained e k) = none
        next off none (Tick t) = none

        go : (b : Bool) → is_unready (life_of s before).stage ≡ b → live_of settings s (later cause) ≡ []
        go true un = live_here settings range before facts settled cause fits s ∙ next (unready_off (life_of s before).stage un) (all.unready s un) cause
        go false begun = never (sym h ∙ begun_later settings range before facts cause fits s begun)

  -- L2
  starting : (cause : Cause) → fits_behind before cause ≡ true → (e : ℕ) → begins before cause e ≡ true → Whole cause e
  starting cause fits e runs = by_cause cause refl
    where
      both : (is_answered (desk_of e before).phase ≡ true) × (is_running (desk_of e (with_cause before cause)).phase ≡ true)
      both = and_parts (is_answered (desk_of e before).phase) (is_running (desk_of e (with_cause before cause)).phase) runs

      was : (desk_of e before).phase ≡ Answered
      was = answered_is (desk_of e before).phase both.0

      same : (c : Cause) → cause ≡ c → (desk_of e (with_cause before c)).phase ≡ (desk_of e before).phase → Whole cause e
      same c is kept = never (sym (sym (ap is_running (kept ∙ was)) ∙ ap (λ k. is_running (desk_of e (with_cause before k)).phase) (sym is) ∙ both.1))

      own : (body : List ℕ) → cause ≡ FromEditor e body → makes_running (message_of body) ≡ true → Whole cause e
      own body is makes =
          let fits_here = ap (fits_behind before) (sym is) ∙ fits in
          let o = begun_outcome settings range before facts settled lasts all e body fits_here was makes in
          subst (λ c. Whole c e) (sym is) (record { xs = o.xs; at = o.at; early = late (FromEditor e body) fits_here e (ap (λ c. begins before c e) (sym is) ∙ runs); tied = o.tied })

      makes_so : (body : List ℕ) → is_running (desk_hears (desk_of e before).phase (desk_of e before).initialize body (message_of body)).phase ≡ true → makes_running (message_of body) ≡ true
      makes_so body h = go (requests (codes "shutdown") (message_of body)) (makes_running (message_of body)) (sym (ap (λ p. is_running (desk_hears p (desk_of e before).initialize body (message_of body)).phase) was) ∙ h)
        where
          go : (a b : Bool) → is_running (if a then Down else if b then Running else Answered) ≡ true → b ≡ true
          go a true k = refl
          go true false k = k
          go false false k = k

      by_cause : (c : Cause) → cause ≡ c → Whole cause e
      by_cause (FromEditor n body) is = go (nat_eq n e) refl (ap (λ (d : Desk). is_running d.phase) (sym (desk_more e before (heard (FromEditor n body)))) ∙ ap (λ k. is_running (desk_of e (with_cause before k)).phase) (sym is) ∙ both.1)
        where
          go : (b : Bool) → nat_eq n e ≡ b → is_running (if b then desk_hears (desk_of e before).phase (desk_of e before).initialize body (message_of body) else desk_of e before).phase ≡ true → Whole cause e
          go true at k = own body (is ∙ ap (λ i. FromEditor i body) (number_same n e at)) (makes_so body k)
          go false at k = never (sym (sym (ap is_running was) ∙ k))
      by_cause (Joined n) is = go (nat_eq n e) (ap (λ (d : Desk). is_running d.phase) (sym (desk_more e before (heard (Joined n)))) ∙ ap (λ k. is_running (desk_of e (with_cause before k)).phase) (sym is) ∙ both.1)
        where
          go : (b : Bool) → is_running (if b then record { phase = New; initialize = [] } else desk_of e before).phase ≡ true → Whole cause e
          go true k = never (sym k)
          go false k = never (sym (sym (ap is_running was) ∙ k))
      by_cause (EditorGone n why) is = go (nat_eq n e) (ap (λ (d : Desk). is_running d.phase) (sym (desk_more e before (heard (EditorGone n why)))) ∙ ap (λ k. is_running (desk_of e (with_cause before k)).phase) (sym is) ∙ both.1)
        where
          go : (b : Bool) → is_running (if b then record { phase = Gone; initialize = (desk_of e before).initialize } else desk_of e before).phase ≡ true → Whole cause e
          go true k = never (sym k)
          go false k = never (sym (sym (ap is_running was) ∙ k))
      by_cause (Started n) is = same (Started n) is (ap (λ (d : Desk). d.phase) (desk_more e before (heard (Started n))))
      by_cause (StartFailed n) is = same (StartFailed n) is (ap (λ (d : Desk). d.phase) (desk_more e before (heard (StartFailed n))))
      by_cause (FromServer n body) is = same (FromServer n body) is (ap (λ (d : Desk). d.phase) (desk_more e before (heard (FromServer n body))))
      by_cause (ServerGone n) is = same (ServerGone n) is (ap (λ (d : Desk). d.phase) (desk_more e before (heard (ServerGone n))))
      by_cause (Drained n k) is = same (Drained n k) is (ap (λ (d : Desk). d.phase) (desk_more e before (heard (Drained n k))))
      by_cause (Tick t) is = same (Tick t) is (ap (λ (d : Desk). d.phase) (desk_more e before (heard (Tick t))))

  -- S6 and S7
  changing : (s : ℕ) (body : List ℕ) → fits_behind before (FromServer s body) ≡ true → is_ready (life_of s before).stage ≡ true → (m : Message) → message_of body ≡ m → is_about m ≡ true → (e : ℕ) → Whole (FromServer s body) e
  changing s body fits ready (request id method params) says about e =
      let o = change_outcome settings range before facts settled lasts all s body fits (ready_is (life_of s before).stage ready) id method params says about e in record {
        xs = o.xs;
        at = o.at;
        early = λ h. (o.still (unrunning (desk_of e before).phase (early_here settings range before facts settled (FromServer s body) fits e h).0)).has ∙ all.early e (early_here settings range before facts settled (FromServer s body) fits e h).0;
        tied = o.tied;
      }
  changing s body fits ready (notification method params) says about e = never (sym about)
  changing s body fits ready (result id r) says about e = never (sym about)
  changing s body fits ready (error id r) says about e = never (sym about)
  changing s body fits ready not_json says about e = never (sym about)
  changing s body fits ready not_message says about e = never (sym about)

  whole : (cause : Cause) → fits_behind before cause ≡ true → (b : Bool) → is_change before cause ≡ b → (e : ℕ) → (c : Bool) → begins before cause e ≡ c → Whole cause e
  whole (FromServer s body) fits true change e c runs = let k = and_parts (is_ready (life_of s before).stage) (is_about (message_of body)) change in changing s body fits k.0 (message_of body) refl k.1 e
  whole cause fits false off e false runs = plain cause fits off e runs
  whole cause fits false off e true runs = starting cause fits e runs
  whole (Joined n) fits true change e c runs = never (sym change)
  whole (FromEditor n body) fits true change e c runs = never (sym change)
  whole (EditorGone n why) fits true change e c runs = never (sym change)
  whole (Started n) fits true change e c runs = never (sym change)
  whole (StartFailed n) fits true change e c runs = never (sym change)
  whole (ServerGone n) fits true change e c runs = never (sym change)
  whole (Drained n k) fits true change e c runs = never (sym change)
  whole (Tick t) fits true change e c runs = never (sym change)

  pub entry_all : (cause : Cause) → fits_behind before cause ≡ true → All settings (later cause)
  entry_all cause fits = record {
    always = λ e. ((at_all e).at).always;
    early = λ e h. (at_all e).early h;
    tied = λ e g t at home start. (at_all e).tied g t at home start;
    unready = λ s h. nothing_live cause fits s h;
  }
    where
      at_all : (e : ℕ) → Whole cause e
      at_all e = whole cause fits (is_change before cause) refl e (begins before cause e) refl

-- A whole history

module _ (settings : Settings) (range : InRange settings) (place : List Event) (facts : Facts settings place) (e : ℕ) (slow : is_slow settings e place ≡ true) (h : All settings place) where
  abbrev left_there : List Event
  left_there = behind place (parting settings place e)

  -- no editor is told anything
  ids_there : (n : ℕ) → At n (ids n place) left_there
  ids_there n = parting_keeps settings (At n (ids n place)) e (λ events k. at_free n (ids n place) events (said (CloseEditor e)) refl k) (λ events s body k. at_free n (ids n place) events (said (ToServer s body)) refl k) place (record { always = h.always n; has = refl })

  not_yet : (n : ℕ) → has_run (desk_of n left_there).phase ≡ false → has_run (desk_of n place).phase ≡ false
  not_yet n k = go (has_run (desk_of n place).phase) (all_back (λ p. not (has_run p)) not_run n place (parting settings place e) (ap not k))
    where
      go : (b : Bool) → not b ≡ true → b ≡ false
      go false off = refl
      go true off = never (sym off)

  unready_there : (s : ℕ) → is_unready (life_of s left_there).stage ≡ true → is_unready (life_of s place).stage ≡ true
  unready_there s un = go (is_unready (life_of s place).stage) refl
    where
      go : (b : Bool) → is_unready (life_of s place).stage ≡ b → b ≡ true
      go true old = refl
      go false begun = never (sym un ∙ onward_slow settings range place facts e slow s begun)

  tied_there : (n g s : ℕ) → (desk_of n left_there).phase ≡ Running → home_of settings n left_there ≡ Some g → start_of g left_there ≡ Some s → IsTied settings n s (ids n left_there) left_there
  tied_there n g s at home start = subst (λ xs. IsTied settings n s xs left_there) (sym (ids_there n).has)
      (go (h.tied n g s (running_is settings place (desk_of n place).phase (all_back is_running runs_on n place (parting settings place e) (ap is_running at))) (sym (homes_stay settings n place (parting settings place e)) ∙ home)
      (sym (starts_stay g place (parting settings place e) (parting_calm settings place e)) ∙ start)))
    where
      go : IsTied settings n s (ids n place) place → IsTied settings n s (ids n place) left_there
      go (inl same) = inl (subst (Same (ids n place)) (sym (live_rests settings s place (parting settings place e))) same)
      go (inr out) = inr (out_rests n place (parting settings place e) out)

  all_slow : All settings left_there
  all_slow = record {
    always = λ n. (ids_there n).always;
    early = λ n k. (ids_there n).has ∙ h.early n (not_yet n k);
    tied = tied_there;
    unready = λ s un. live_rests settings s place (parting settings place e) ∙ h.unready s (unready_there s un);
  }

module _ (settings : Settings) (range : InRange settings) where
  entry : Keeps settings (All settings)
  entry before at cause fits h = entry_all settings range before (facts_at settings range before at) (settled_at settings range before at) (rests_at settings range before at).lasts h cause fits

  slow : KeepsSlow settings (All settings)
  slow place at e is h = all_slow settings range place (facts_at settings range place at) e is h

  none : All settings []
  none = record { always = λ e. tt; early = λ e h. refl; tied = λ e g s at home start. absurd (cc); unready = λ s h. refl }

  pub all_at : (events : List Event) → Reached settings events → All settings events
  all_at = walk settings (All settings) entry slow none

  pub client_7_law : (history : List Entry) → Legal settings history → KeepsClient7 history
  client_7_law history legal e = (all_at (events_of history) (reached settings history legal)).always e
