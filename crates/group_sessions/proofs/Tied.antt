-- What is registered at an editor that runs is what is live at its group's start, and at one that doesn't run yet nothing is.
use Rattle.std.proofs.Common.{◌≡◌, ℕ, ◌<◌, Bool, true, false, not, ◌&&◌, List, [], ◌∷◌, ◌++◌, append-nil, append_assoc, map, codes, nat_eq, if◌then◌else◌, Option, Some, None, ◌⊎◌, inl, inr, refl, sym, ◌∙◌, ap, ap₂, subst, subst₂, arith}
use Rattle.mux_history.specs.declared.cause.Cause.{Cause}
use Rattle.mux_history.specs.declared.cause.Cause.TheVariants.{Joined, FromEditor, EditorGone, Started, StartFailed, FromServer, ServerGone, Drained, Tick}
use Rattle.mux_history.specs.declared.out.Out.{Out}
use Rattle.mux_history.specs.declared.out.Out.TheVariants.{ToEditor, ToServer, Spawn, CloseEditor, EndServer}
use Rattle.lsp_method.specs.Class.{class_of}
use Rattle.lsp_method.specs.declared.variants.Class.{Class}
use Rattle.lsp_method.specs.declared.variants.Class.TheVariants.{Register, Unregister}
use Rattle.lsp_method.specs.declared.variants.Origin.TheVariants.{Server}
use Rattle.rpc_message.specs.Message.{Message, request, notification, result, error, not_json, not_message, message_of}
use Rattle.event_model.specs.declared.phase.Phase.{Phase}
use Rattle.event_model.specs.declared.phase.Phase.TheVariants.{Absent, New, Waiting, Answered, Running, Down, Closed, Gone}
use Rattle.event_model.specs.Always.{Always}
use Rattle.event_model.specs.Event.{Event, behind, heard, requests, said, took, with_cause}
use Rattle.event_model.specs.Parts.{editor_part}
use Rattle.event_model.specs.Phases.{Desk, desk_hears, desk_of, editors_of, has_id, is_begun, is_new, is_running, needs_server, phase_closed, phase_told}
use Rattle.event_model.specs.Settings.{Settings}
use Rattle.event_model.specs.Spawns.{group_of, start_of, starts_of}
use Rattle.event_model.specs.Stages.{Life, is_ended, life_of, is_ready}
use Rattle.event_model.proofs.Frames.{never}
use Rattle.mux_model.specs.Fits.{fits_behind}
use Rattle.mux_facts.specs.Ranges.{InRange}
use Rattle.mux_facts.proofs.Folds.{desk_more}
use Rattle.mux_facts.proofs.Reasons.{reasons_keep}
use Rattle.mux_facts.proofs.Words.{number_same, same_number}
use Rattle.session_laws.specs.ClientRules.{ClientRule7, has_id as has_name}
use Rattle.registrations.specs.declared.registration.Registration.{Registration}
use Rattle.group_words.specs.Houses.{home_of, is_home}
use Rattle.group_words.proofs.Frames.{past_more}
use Rattle.group_rows.specs.Asks.{has_number}
use Rattle.group_rows.specs.Live.{changes_live, live_by, live_next, live_of}
use Rattle.group_rows.specs.Rows.{outs_of}
use Rattle.group_words.specs.Houses.{groups_of}
use Rattle.group_rows.specs.Asks.{asking_of, is_taken}
use Rattle.group_rows.specs.Live.{is_registering}
use Rattle.std.specs.Option.{option_map_or}
use Rattle.group_facts.specs.Lively.{lives_at}
use Rattle.group_facts.specs.Settled.{is_answered as answered_phase}
use Rattle.group_facts.proofs.AskEntries.{up_ready}
use Rattle.group_facts.proofs.Lively.{begun_answered, lives_of, up_of}
use Rattle.group_facts.specs.Facts.{ends_with, is_exit, is_unready, shuts}
use Rattle.group_facts.specs.Settled.{IsSeated, Settled}
use Rattle.group_facts.proofs.Facts.{Facts}
use Rattle.group_facts.proofs.Homes.{took_home}
use Rattle.group_facts.specs.Why.{IsLost, Why}
use Rattle.group_facts.proofs.Exits.{RenewsGroup, ends_live, renews_parts}
use Rattle.group_facts.proofs.LastStarts.{AllLast, start_kept, start_renewed}
use Rattle.group_facts.proofs.ExitEntry.{Exit, exit_by, exit_ends}
use Rattle.group_facts.proofs.PutOut.{homes_stay}
use Rattle.group_facts.proofs.Table.{reasons}
use Rattle.group_rows.specs.ExitRows.{begins_again}
use Rattle.group_rows.specs.LiveRows.{has_some}
use Rattle.group_sessions.proofs.Enrolled.{Same, is_about, names}
use Rattle.group_sessions.proofs.Numbers.{out_rests, out_took}
use Rattle.group_facts.proofs.AskingRows.{running_is}
use Rattle.group_sessions.proofs.Registered.{At, Cleared, Going, at_took, begins, clears_on, entry_goes, ids, is_answered, is_change, none_has}
use Rattle.group_sessions.proofs.Renewed.{renewed_clear}

-- it runs, or did
abbrev pub has_run : Phase → Bool
has_run Running = true
has_run Down = true
has_run Closed = true
has_run Gone = true
has_run _ = false

-- Phases

-- a test that no body to an editor changes, and that no editor passes whose link is to be ended
pub record Lasts (test : Phase → Bool) : Type 0 where
  pub told : (p : Phase) (i : List ℕ) (m : Message) → test (phase_told p i m) ≡ test p
  pub closed : (p : Phase) → test (phase_closed p) ≡ false

module _ (test : Phase → Bool) (lasts : Lasts test) (e : ℕ) where
  one_back : (events : List Event) (out : Out) → test (desk_of e (events ++ said out ∷ [])).phase ≡ true → test (desk_of e events).phase ≡ true
  one_back events (ToEditor n body) h = go (nat_eq n e) (sym (ap (λ (d : Desk). test d.phase) (desk_more e events (said (ToEditor n body)))) ∙ h)
    where
      go : (b : Bool) → test (if b then record { phase = phase_told (desk_of e events).phase (desk_of e events).initialize (message_of body); initialize = (desk_of e events).initialize } else desk_of e events).phase ≡ true → test (desk_of e events).phase ≡ true
      go true k = sym (lasts.told (desk_of e events).phase (desk_of e events).initialize (message_of body)) ∙ k
      go false k = k
  one_back events (CloseEditor n) h = go (nat_eq n e) (sym (ap (λ (d : Desk). test d.phase) (desk_more e events (said (CloseEditor n)))) ∙ h)
    where
      go : (b : Bool) → test (if b then record { phase = phase_closed (desk_of e events).phase; initialize = (desk_of e events).initialize } else desk_of e events).phase ≡ true → test (desk_of e events).phase ≡ true
      go true k = never (sym k ∙ lasts.closed (desk_of e events).phase)
      go false k = k
  one_back events (ToServer s body) h = sym (ap (λ (d : Desk). test d.phase) (desk_more e events (said (ToServer s body)))) ∙ h
  one_back events (Spawn s g) h = sym (ap (λ (d : Desk). test d.phase) (desk_more e events (said (Spawn s g)))) ∙ h
  one_back events (EndServer s) h = sym (ap (λ (d : Desk). test d.phase) (desk_more e events (said (EndServer s)))) ∙ h

  pub all_back : (events : List Event) (xs : List Out) → test (desk_of e (behind events xs)).phase ≡ true → test (desk_of e events).phase ≡ true
  all_back events [] h = ap (λ z. test (desk_of e z).phase) (sym (append-nil events)) ∙ h
  all_back events (x ∷ xs) h = one_back events x (all_back (events ++ said x ∷ []) xs (ap (λ z. test (desk_of e z).phase) (append_assoc events (said x ∷ []) (map said xs)) ∙ h))

abbrev has_not : Phase → Bool
has_not p = not (has_run p)

pub not_run : Lasts has_not
not_run = record { told = told; closed = closed }
  where
    told : (p : Phase) (i : List ℕ) (m : Message) → has_not (phase_told p i m) ≡ has_not p
    told Waiting i (result (Some id) r) = go (has_id id (message_of i))
      where
        go : (b : Bool) → has_not (if b then Answered else Waiting) ≡ true
        go true = refl
        go false = refl
    told Waiting i (result None r) = refl
    told Waiting i (request id method ps) = refl
    told Waiting i (notification method ps) = refl
    told Waiting i (error id r) = refl
    told Waiting i not_json = refl
    told Waiting i not_message = refl
    told Absent i m = refl
    told New i m = refl
    told Answered i m = refl
    told Running i m = refl
    told Down i m = refl
    told Closed i m = refl
    told Gone i m = refl

    closed : (p : Phase) → has_not (phase_closed p) ≡ false
    closed Gone = refl
    closed _ = refl

pub runs_on : Lasts is_running
runs_on = record { told = told; closed = closed }
  where
    told : (p : Phase) (i : List ℕ) (m : Message) → is_running (phase_told p i m) ≡ is_running p
    told Waiting i (result (Some id) r) = go (has_id id (message_of i))
      where
        go : (b : Bool) → is_running (if b then Answered else Waiting) ≡ false
        go true = refl
        go false = refl
    told Waiting i (result None r) = refl
    told Waiting i (request id method ps) = refl
    told Waiting i (notification method ps) = refl
    told Waiting i (error id r) = refl
    told Waiting i not_json = refl
    told Waiting i not_message = refl
    told Absent i m = refl
    told New i m = refl
    told Answered i m = refl
    told Running i m = refl
    told Down i m = refl
    told Closed i m = refl
    told Gone i m = refl

    closed : (p : Phase) → is_running (phase_closed p) ≡ false
    closed Gone = refl
    closed _ = refl

-- behind a cause
abbrev desk : Phase → List ℕ → Desk
desk p i = record { phase = p; initialize = i }

hears_not : (p : Phase) (i body : List ℕ) (m : Message) → has_not (desk_hears p i body m).phase ≡ true → has_not p ≡ true
hears_not Absent i body m h = refl
hears_not New i body m h = refl
hears_not Waiting i body m h = refl
hears_not Answered i body m h = refl
hears_not Running i body m h = go (requests (codes "shutdown") m) h
  where
    go : (b : Bool) → has_not (if b then Down else Running) ≡ true → false ≡ true
    go true k = k
    go false k = k
hears_not Down i body m h = h
hears_not Closed i body m h = h
hears_not Gone i body m h = h

hears_runs : (p : Phase) (i body : List ℕ) (m : Message) → is_running (desk_hears p i body m).phase ≡ true → (p ≡ Running) ⊎ (p ≡ Answered)
hears_runs Running i body m h = inl refl
hears_runs Answered i body m h = inr refl
hears_runs New i body m h = go (requests (codes "initialize") m) h
  where
    go : (b : Bool) → is_running (if b then desk Waiting body else desk New i).phase ≡ true → (New ≡ Running) ⊎ (New ≡ Answered)
    go true k = never (sym k)
    go false k = never (sym k)
hears_runs Absent i body m h = never (sym h)
hears_runs Waiting i body m h = never (sym h)
hears_runs Down i body m h = never (sym h)
hears_runs Closed i body m h = never (sym h)
hears_runs Gone i body m h = never (sym h)

-- What is live

pub live_more : (settings : Settings) (s : ℕ) (events : List Event) (event : Event) → live_of settings s (events ++ event ∷ []) ≡ live_next settings s events (live_of settings s events) event
live_more settings s events event = past_more (live_next settings s) [] [] events event

pub live_rests : (settings : Settings) (s : ℕ) (events : List Event) (xs : List Out) → live_of settings s (behind events xs) ≡ live_of settings s events
live_rests settings s events [] = ap (live_of settings s) (append-nil events)
live_rests settings s events (x ∷ xs) = ap (live_of settings s) (sym (append_assoc events (said x ∷ []) (map said xs))) ∙ live_rests settings s (events ++ said x ∷ []) xs ∙ live_more settings s events (said x) ∙ told x
  where
    told : (out : Out) → live_next settings s events (live_of settings s events) (said out) ≡ live_of settings s events
    told (ToEditor e body) = refl
    told (ToServer n body) = refl
    told (Spawn n g) = refl
    told (CloseEditor e) = refl
    told (EndServer n) = refl

same_class : (c : Class) (body : List ℕ) (live : List Registration) → changes_live c ≡ false → live_by c body live ≡ live
same_class Register body live h = never h
same_class Unregister body live h = never h
same_class _ body live h = refl

pub live_took : (settings : Settings) (s : ℕ) (before : List Event) (cause : Cause) → live_of settings s (with_cause before cause) ≡ live_next settings s before (live_of settings s before) (heard cause)
live_took settings s before (Joined n) = live_more settings s before (heard (Joined n))
live_took settings s before cause = live_more settings s before (heard cause)

nothing_some : (rs : List Registration) → has_some rs ≡ false → rs ≡ []
nothing_some [] h = refl
nothing_some (r ∷ rs) h = never h

-- by a cause the program of one start ends
one_exit : (cause : Cause) (s t : ℕ) → is_exit cause s ≡ true → is_exit cause t ≡ true → s ≡ t
one_exit (StartFailed n) s t is h = sym (number_same n s is) ∙ number_same n t h
one_exit (ServerGone n) s t is h = sym (number_same n s is) ∙ number_same n t h
one_exit (Joined n) s t is h = never (sym is)
one_exit (FromEditor n body) s t is h = never (sym is)
one_exit (EditorGone n why) s t is h = never (sym is)
one_exit (Started n) s t is h = never (sym is)
one_exit (FromServer n body) s t is h = never (sym is)
one_exit (Drained n k) s t is h = never (sym is)
one_exit (Tick z) s t is h = never (sym is)

-- Between entries

abbrev pub IsTied : Settings → ℕ → ℕ → List (List ℕ) → List Event → Type 0
IsTied settings e s xs events = Same xs (live_of settings s events) ⊎ (has_number e events ≡ false)

pub record All (settings : Settings) (events : List Event) : Type 0 where
  pub always : (e : ℕ) → Always ClientRule7 (editor_part e events)
  pub early : (e : ℕ) → has_run (desk_of e events).phase ≡ false → ids e events ≡ []
  pub tied : (e g s : ℕ) → (desk_of e events).phase ≡ Running → home_of settings e events ≡ Some g → start_of g events ≡ Some s → IsTied settings e s (ids e events) events
  pub unready : (s : ℕ) → is_unready (life_of s events).stage ≡ true → live_of settings s events ≡ []

module _ (settings : Settings) (range : InRange settings) (before : List Event) (facts : Facts settings before) (settled : Settled settings before) (cause : Cause) (fits : fits_behind before cause ≡ true) where
  abbrev now : List Event
  now = with_cause before cause

  abbrev later : List Event
  later = behind now (outs_of settings before cause)

  -- an editor that runs behind the cause did before, or was answered
  pub ran : (e : ℕ) → is_running (desk_of e now).phase ≡ true → ((desk_of e before).phase ≡ Running) ⊎ (begins before cause e ≡ true)
  ran e h = by_cause cause refl
    where
      told : (c : Cause) → cause ≡ c → (desk_of e (with_cause before c)).phase ≡ (desk_of e before).phase → ((desk_of e before).phase ≡ Running) ⊎ (begins before cause e ≡ true)
      told c is same = inl (running_is settings before (desk_of e before).phase (ap is_running (sym same) ∙ ap (λ k. is_running (desk_of e (with_cause before k)).phase) (sym is) ∙ h))

      by_cause : (c : Cause) → cause ≡ c → ((desk_of e before).phase ≡ Running) ⊎ (begins before cause e ≡ true)
      by_cause (FromEditor n body) is = go (nat_eq n e) (ap (λ (d : Desk). is_running d.phase) (sym (desk_more e before (heard (FromEditor n body)))) ∙ ap (λ k. is_running (desk_of e (with_cause before k)).phase) (sym is) ∙ h)
        where
          go : (b : Bool) → is_running (if b then desk_hears (desk_of e before).phase (desk_of e before).initialize body (message_of body) else desk_of e before).phase ≡ true → ((desk_of e before).phase ≡ Running) ⊎ (begins before cause e ≡ true)
          go true k = elim (hears_runs (desk_of e before).phase (desk_of e before).initialize body (message_of body) k) [ inl a ↦ inl a | inr a ↦ inr (ap (λ p. is_answered p && is_running (desk_of e now).phase) a ∙ h) ]
          go false k = inl (running_is settings before (desk_of e before).phase k)
      by_cause (Joined n) is = go (nat_eq n e) (ap (λ (d : Desk). is_running d.phase) (sym (desk_more e before (heard (Joined n)))) ∙ ap (λ k. is_running (desk_of e (with_cause before k)).phase) (sym is) ∙ h)
        where
          go : (b : Bool) → is_running (if b then record { phase = New; initialize = [] } else desk_of e before).phase ≡ true → ((desk_of e before).phase ≡ Running) ⊎ (begins before cause e ≡ true)
          go true k = never (sym k)
          go false k = inl (running_is settings before (desk_of e before).phase k)
      by_cause (EditorGone n why) is = go (nat_eq n e) (ap (λ (d : Desk). is_running d.phase) (sym (desk_more e before (heard (EditorGone n why)))) ∙ ap (λ k. is_running (desk_of e (with_cause before k)).phase) (sym is) ∙ h)
        where
          go : (b : Bool) → is_running (if b then record { phase = Gone; initialize = (desk_of e before).initialize } else desk_of e before).phase ≡ true → ((desk_of e before).phase ≡ Running) ⊎ (begins before cause e ≡ true)
          go true k = never (sym k)
          go false k = inl (running_is settings before (desk_of e before).phase k)
      by_cause (Started n) is = told (Started n) is (ap (λ (d : Desk). d.phase) (desk_more e before (heard (Started n))))
      by_cause (StartFailed n) is = told (StartFailed n) is (ap (λ (d : Desk). d.phase) (desk_more e before (heard (StartFailed n))))
      by_cause (FromServer n body) is = told (FromServer n body) is (ap (λ (d : Desk). d.phase) (desk_more e before (heard (FromServer n body))))
      by_cause (ServerGone n) is = told (ServerGone n) is (ap (λ (d : Desk). d.phase) (desk_more e before (heard (ServerGone n))))
      by_cause (Drained n k) is = told (Drained n k) is (ap (λ (d : Desk). d.phase) (desk_more e before (heard (Drained n k))))
      by_cause (Tick t) is = told (Tick t) is (ap (λ (d : Desk). d.phase) (desk_more e before (heard (Tick t))))

  -- one that hasn't run, hadn't
  pub unrun : (e : ℕ) → has_not (desk_of e now).phase ≡ true → has_not (desk_of e before).phase ≡ true
  unrun e h = by_cause cause refl
    where
      told : (c : Cause) → cause ≡ c → (desk_of e (with_cause before c)).phase ≡ (desk_of e before).phase → has_not (desk_of e before).phase ≡ true
      told c is same = ap has_not (sym same) ∙ ap (λ k. has_not (desk_of e (with_cause before k)).phase) (sym is) ∙ h

      by_cause : (c : Cause) → cause ≡ c → has_not (desk_of e before).phase ≡ true
      by_cause (FromEditor n body) is = go (nat_eq n e) (ap (λ (d : Desk). has_not d.phase) (sym (desk_more e before (heard (FromEditor n body)))) ∙ ap (λ k. has_not (desk_of e (with_cause before k)).phase) (sym is) ∙ h)
        where
          go : (b : Bool) → has_not (if b then desk_hears (desk_of e before).phase (desk_of e before).initialize body (message_of body) else desk_of e before).phase ≡ true → has_not (desk_of e before).phase ≡ true
          go true k = hears_not (desk_of e before).phase (desk_of e before).initialize body (message_of body) k
          go false k = k
      by_cause (Joined n) is = go (nat_eq n e) refl (ap (λ (d : Desk). has_not d.phase) (sym (desk_more e before (heard (Joined n)))) ∙ ap (λ k. has_not (desk_of e (with_cause before k)).phase) (sym is) ∙ h)
        where
          go : (b : Bool) → nat_eq n e ≡ b → has_not (if b then record { phase = New; initialize = [] } else desk_of e before).phase ≡ true → has_not (desk_of e before).phase ≡ true
          go true same k = ap has_not ((facts.steady).editors e (let joined : n ≡ editors_of before = number_same n (editors_of before) (ap (fits_behind before) (sym is) ∙ fits) in let at : n ≡ e = number_same n e same in omega (arith, joined, at)))
          go false same k = k
      by_cause (EditorGone n why) is = go (nat_eq n e) (ap (λ (d : Desk). has_not d.phase) (sym (desk_more e before (heard (EditorGone n why)))) ∙ ap (λ k. has_not (desk_of e (with_cause before k)).phase) (sym is) ∙ h)
        where
          go : (b : Bool) → has_not (if b then record { phase = Gone; initialize = (desk_of e before).initialize } else desk_of e before).phase ≡ true → has_not (desk_of e before).phase ≡ true
          go true k = never (sym k)
          go false k = k
      by_cause (Started n) is = told (Started n) is (ap (λ (d : Desk). d.phase) (desk_more e before (heard (Started n))))
      by_cause (StartFailed n) is = told (StartFailed n) is (ap (λ (d : Desk). d.phase) (desk_more e before (heard (StartFailed n))))
      by_cause (FromServer n body) is = told (FromServer n body) is (ap (λ (d : Desk). d.phase) (desk_more e before (heard (FromServer n body))))
      by_cause (ServerGone n) is = told (ServerGone n) is (ap (λ (d : Desk). d.phase) (desk_more e before (heard (ServerGone n))))
      by_cause (Drained n k) is = told (Drained n k) is (ap (λ (d : Desk). d.phase) (desk_more e before (heard (Drained n k))))
      by_cause (Tick t) is = told (Tick t) is (ap (λ (d : Desk). d.phase) (desk_more e before (heard (Tick t))))

  -- it is where it was
  pub record Place (e g s : ℕ) : Type 0 where
    pub home : home_of settings e before ≡ Some g
    pub start : start_of g before ≡ Some s

  pub stays : (e : ℕ) → (desk_of e before).phase ≡ Running → is_running (desk_of e now).phase ≡ true → shuts cause e ≡ false
  stays e was h = by_cause cause refl
    where
      by_cause : (c : Cause) → cause ≡ c → shuts c e ≡ false
      by_cause (FromEditor n body) is = go (nat_eq n e) (requests (codes "shutdown") (message_of body))
          (sym (ap (λ p. is_running (if nat_eq n e then desk_hears p (desk_of e before).initialize body (message_of body) else desk p (desk_of e before).initialize).phase) was)
          ∙ ap (λ (d : Desk). is_running d.phase) (sym (desk_more e before (heard (FromEditor n body)))) ∙ ap (λ k. is_running (desk_of e (with_cause before k)).phase) (sym is) ∙ h)
        where
          go : (b c : Bool) → is_running (if b then desk (if c then Down else Running) (desk_of e before).initialize else desk Running (desk_of e before).initialize).phase ≡ true → (b && c) ≡ false
          go true true k = never (sym k)
          go true false k = refl
          go false c k = refl
      by_cause (EditorGone n why) is = go (nat_eq n e) (ap (λ (d : Desk). is_running d.phase) (sym (desk_more e before (heard (EditorGone n why)))) ∙ ap (λ k. is_running (desk_of e (with_cause before k)).phase) (sym is) ∙ h)
        where
          go : (b : Bool) → is_running (if b then record { phase = Gone; initialize = (desk_of e before).initialize } else desk_of e before).phase ≡ true → b ≡ false
          go true k = never (sym k)
          go false k = refl
      by_cause (Joined n) is = refl
      by_cause (Started n) is = refl
      by_cause (StartFailed n) is = refl
      by_cause (FromServer n body) is = refl
      by_cause (ServerGone n) is = refl
      by_cause (Drained n k) is = refl
      by_cause (Tick t) is = refl

  pub place : AllLast before → (e g s : ℕ) → needs_server (desk_of e before).phase ≡ true → is_new (desk_of e before).phase ≡ false → shuts cause e ≡ false → ((k : IsSeated settings before e) → is_exit cause k.start ≡ false) → home_of settings e later ≡ Some g → start_of g later ≡ Some s → Place e g s
  place lasts e g s needs old shut goes_on home start = record { home = here; start = (subst (λ i. start_of i before ≡ Some k.start) group_is k.last) ∙ start_is }
    where
      k : IsSeated settings before e
      k = settled.seated e needs

      here : home_of settings e before ≡ Some g
      here = sym (homes_stay settings e now (outs_of settings before cause) ∙ took_home settings before e old cause shut) ∙ home

      group_is : k.group ≡ g
      group_is = let both : Some k.group ≡ Some g = sym k.home ∙ here in let is : k.group ≡ g = cc in is

      start_is : Some k.start ≡ Some s
      start_is = sym (start_kept settings before cause settled.begun fits lasts k.group k.start k.last (goes_on k)) ∙ ap (λ i. start_of i later) group_is ∙ start

  -- Entries in which nothing changes of what is live

  pub live_here : (s : ℕ) → live_of settings s later ≡ live_next settings s before (live_of settings s before) (heard cause)
  live_here s = live_rests settings s now (outs_of settings before cause) ∙ live_took settings s before cause

  heard_same : (n s : ℕ) (body : List ℕ) (m : Message) (live : List Registration) → (is_ready (life_of n before).stage && is_about m) ≡ false → live_next settings s before live (took (FromServer n body) m) ≡ live
  heard_same n s body (request id method params) live off = go (nat_eq n s) refl (is_ready (life_of s before).stage) refl
    where
      go : (a : Bool) → nat_eq n s ≡ a → (b : Bool) → is_ready (life_of s before).stage ≡ b → (if a && (b && not (is_taken (Some id) (asking_of settings s before))) then live_by (class_of method Server false) body live else live) ≡ live
      go false other b ready = refl
      go true same false ready = refl
      go true same true ready = either (not (is_taken (Some id) (asking_of settings s before)))
        where
          plain : is_registering method ≡ false
          plain = sym (ap (λ b. b && is_registering method) (ap (λ k. is_ready (life_of k before).stage) (number_same n s same) ∙ ready)) ∙ off

          either : (c : Bool) → (if c then live_by (class_of method Server false) body live else live) ≡ live
          either true = same_class (class_of method Server false) body live plain
          either false = refl
  heard_same n s body (notification method params) live off = refl
  heard_same n s body (result id r) live off = refl
  heard_same n s body (error id r) live off = refl
  heard_same n s body not_json live off = refl
  heard_same n s body not_message live off = refl

  -- where the group of a start that ends does, its editors are to be ended
  pub exit_closes : (e : ℕ) → (k : IsSeated settings before e) → answered_phase (desk_of e before).phase ≡ true → is_exit cause k.start ≡ true → not (begins_again settings before k.start) ≡ true → is_begun (desk_of e later).phase ≡ false
  exit_closes e k was is last = exit_ends settings before cause k.start exit (facts.steady).editors e (exit.out e ∙ over)
    where
      exit : Exit settings before cause k.start
      exit = exit_by settings before cause k.start is

      kept : group_of k.start before ≡ Some k.group
      kept = ((settled.lively).last k.group k.start k.last).0

      lives : lives_at k.group (groups_of settings before) ≡ true
      lives = lives_of settings before settled.lively e k.group was k.home

      over : (ends_with settings before k.start e && is_begun (desk_of e before).phase) ≡ true
      over = ap₂ (λ a b. a && b) (ap₂ (λ a b. a && b) (ends_live settings before k.start last k.group kept lives) (ap (λ o. option_map_or (λ i. is_home i (home_of settings e before)) o false) kept ∙ (ap (is_home k.group) k.home ∙ same_number k.group)))
          (begun_answered (desk_of e before).phase was)

  -- where it goes on, its next start serves them
  pub next_start : (e g s : ℕ) → (k : IsSeated settings before e) → is_exit cause k.start ≡ true → begins_again settings before k.start ≡ true → home_of settings e later ≡ Some g → start_of g later ≡ Some s → s ≡ starts_of before
  next_start e g s k is again home start = let both : ◌≡◌ {A = Option ℕ} (Some s) (Some (starts_of before)) = sym start ∙ (ap (λ i. start_of i later) (sym group_is) ∙ start_renewed settings before cause settled.begun k.group k.start ((settled.lively).last k.group k.start k.last).0 is again) in cc
    where
      group_is : k.group ≡ g
      group_is = let both : ◌≡◌ {A = Option ℕ} (Some k.group) (Some g) = sym k.home ∙ (sym (homes_stay settings e now (outs_of settings before cause) ∙ (exit_by settings before cause k.start is).home e) ∙ home) in cc

  -- an editor whose start doesn't end loses none
  unlost : AllLast before → (e g s : ℕ) → Place e g s → is_exit cause s ≡ false → (t : ℕ) → IsLost settings before cause e t → ⊥
  unlost lasts e g s k goes_on t l = never (sym l.from ∙ (ap (is_exit cause) same ∙ goes_on))
    where
      groups : l.group ≡ g
      groups = let both : ◌≡◌ {A = Option ℕ} (Some l.group) (Some g) = sym l.home ∙ k.home in cc

      same : t ≡ s
      same = let both : ◌≡◌ {A = Option ℕ} (Some t) (Some s) = sym (lasts t l.group l.kept (ap is_ended l.ready)) ∙ (ap (λ i. start_of i before) groups ∙ k.start) in cc

  live_same : (s : ℕ) → is_change before cause ≡ false → is_exit cause s ≡ false → live_of settings s later ≡ live_of settings s before
  live_same s off still = live_here s ∙ by_cause cause refl
    where
      goes_on : is_exit cause s ≡ true → ⊥
      goes_on h = never (sym h ∙ still)

      by_cause : (c : Cause) → cause ≡ c → live_next settings s before (live_of settings s before) (heard c) ≡ live_of settings s before
      by_cause (FromServer n body) is = heard_same n s body (message_of body) (live_of settings s before) (ap (is_change before) (sym is) ∙ off)
      by_cause (StartFailed n) is = go (nat_eq n s) refl
        where
          go : (b : Bool) → nat_eq n s ≡ b → (if b then [] else live_of settings s before) ≡ live_of settings s before
          go false other = refl
          go true same = absurd (goes_on (ap (λ c. is_exit c s) is ∙ same))
      by_cause (ServerGone n) is = go (nat_eq n s) refl
        where
          go : (b : Bool) → nat_eq n s ≡ b → (if b then [] else live_of settings s before) ≡ live_of settings s before
          go false other = refl
          go true same = absurd (goes_on (ap (λ c. is_exit c s) is ∙ same))
      by_cause (Joined n) is = refl
      by_cause (FromEditor n body) is = refl
      by_cause (EditorGone n why) is = refl
      by_cause (Started n) is = refl
      by_cause (Drained n j) is = refl
      by_cause (Tick t) is = refl

  pub no_number : (e : ℕ) → has_number e before ≡ false → has_number e later ≡ false
  no_number e h = out_rests e now (outs_of settings before cause) (out_took e before cause h)

  -- so what was tied stays so
  tied_still : (e g s : ℕ) → live_of settings s later ≡ live_of settings s before → At e (ids e before) later → IsTied settings e s (ids e before) before → IsTied settings e s (ids e later) later
  tied_still e g s same at (inl h) = inl (subst₂ Same (sym at.has) (sym same) h)
  tied_still e g s same at (inr h) = inr (no_number e h)

  module _ (all : All settings before) (off : is_change before cause ≡ false) where
    pub tied_by : AllLast before → (e s : ℕ) → IsLost settings before cause e s → has_number e before ≡ true → Same (ids e before) (live_of settings s before)
    tied_by lasts e s k room = go (all.tied e k.group s k.ran k.home (lasts s k.group k.kept (ap is_ended k.ready)))
      where
        go : IsTied settings e s (ids e before) before → Same (ids e before) (live_of settings s before)
        go (inl same) = same
        go (inr none) = never (sym room ∙ none)

    pub ordinary : (lasts : AllLast before) (e : ℕ) (runs : begins before cause e ≡ false) → Going settings before cause off e runs (tied_by lasts e) later
    ordinary lasts e runs = entry_goes settings before cause off e runs (tied_by lasts e) range facts (all.always e)

    -- nothing is registered at an editor that the next start of its group serves, or it can be asked nothing more
    all_cleared : (lasts : AllLast before) (e : ℕ) (runs : begins before cause e ≡ false) (k : IsSeated settings before e) → (desk_of e before).phase ≡ Running → is_exit cause k.start ≡ true → begins_again settings before k.start ≡ true
        → Cleared settings before cause off e runs (tied_by lasts e) later
    all_cleared lasts e runs k was is again = by_stage (is_unready (life_of k.start before).stage) refl
      where
        exit : Exit settings before cause k.start
        exit = exit_by settings before cause k.start is

        renews : RenewsGroup settings before k.start
        renews = renews_parts settings before k.start again

        group_is : renews.group ≡ k.group
        group_is = let both : ◌≡◌ {A = Option ℕ} (Some renews.group) (Some k.group) = sym renews.home ∙ ((settled.lively).last k.group k.start k.last).0 in cc

        -- of a start that registered nothing
        early : live_of settings k.start before ≡ [] → Cleared settings before cause off e runs (tied_by lasts e) later
        early none = reasons_keep (λ events out. Why settings before cause events out) (Cleared settings before cause off e runs (tied_by lasts e)) (clears_on settings before cause off e runs (tied_by lasts e)) now (outs_of settings before cause) (reasons settings range before facts cause).why
            (go (all.tied e k.group k.start was k.home k.last))
          where
            go : IsTied settings e k.start (ids e before) before → Cleared settings before cause off e runs (tied_by lasts e) now
            go (inl same) = inl ((at_took e (ids e before) before cause (record { always = all.always e; has = refl })).has ∙ none_has (ids e before) (λ x. same x ∙ ap (λ rs. has_name (names rs) x) none))
            go (inr full) = inr (out_took e before cause full)

        by_live : is_ready (life_of k.start before).stage ≡ true → (b : Bool) → has_some (live_of settings k.start before) ≡ b → Cleared settings before cause off e runs (tied_by lasts e) later
        by_live ready true some = renewed_clear settings before cause off e runs (tied_by lasts e) k.start some range facts exit renews ready (all.always e) (ap is_running was) (k.home ∙ ap (λ i. Some i) (sym group_is))
        by_live ready false none = early (nothing_some (live_of settings k.start before) none)

        by_stage : (b : Bool) → is_unready (life_of k.start before).stage ≡ b → Cleared settings before cause off e runs (tied_by lasts e) later
        by_stage true unready = early (all.unready k.start unready)
        by_stage false begun = by_live (ap is_ready (up_ready (life_of k.start before).stage (up_of settings before settled.lively e k.group k.start (ap answered_phase was) k.home k.last) begun)) (has_some (live_of settings k.start before)) refl

    served_next : (lasts : AllLast before) (e g s : ℕ) → begins before cause e ≡ false → (k : IsSeated settings before e) → (desk_of e before).phase ≡ Running → is_exit cause k.start ≡ true → (desk_of e later).phase ≡ Running → home_of settings e later ≡ Some g → start_of g later ≡ Some s
        → IsTied settings e s (ids e later) later
    served_next lasts e g s runs k was is at home start = by_again (begins_again settings before k.start) refl
      where
        clear : Cleared settings before cause off e runs (tied_by lasts e) later → live_of settings s later ≡ [] → IsTied settings e s (ids e later) later
        clear (inl bare) none = inl (λ x. ap (λ xs. has_name xs x) bare ∙ sym (ap (λ rs. has_name (names rs) x) none))
        clear (inr full) none = inr full

        by_again : (b : Bool) → begins_again settings before k.start ≡ b → IsTied settings e s (ids e later) later
        by_again false last = never (sym (ap is_begun at) ∙ exit_closes e k (ap answered_phase was) is (ap not last))
        by_again true again = clear (all_cleared lasts e runs k was is again) (live_same s off goes_on ∙ all.unready s (ap (λ (l : Life). is_unready l.stage) ((facts.steady).starts s (omega (arith, next)))))
          where
            next : s ≡ starts_of before
            next = next_start e g s k is again home start

            other : (b : Bool) → is_exit cause s ≡ b → b ≡ false
            other false h = refl
            other true h = absurd (let it : k.start ≡ s = one_exit cause k.start s is h in let below : k.start < starts_of before = ((settled.lively).last k.group k.start k.last).1 in omega (arith, it, next, below))

            goes_on : is_exit cause s ≡ false
            goes_on = other (is_exit cause s) refl

    pub ordinary_tied : AllLast before → (e g s : ℕ) → begins before cause e ≡ false → (desk_of e later).phase ≡ Running → home_of settings e later ≡ Some g → start_of g later ≡ Some s → IsTied settings e s (ids e later) later
    ordinary_tied lasts e g s runs at home start = go (ran e here)
      where
        here : is_running (desk_of e now).phase ≡ true
        here = all_back is_running runs_on e now (outs_of settings before cause) (ap is_running at)

        go : ((desk_of e before).phase ≡ Running) ⊎ (begins before cause e ≡ true) → IsTied settings e s (ids e later) later
        go (inl was) = by_exit (is_exit cause (settled.seated e (ap needs_server was)).start) refl
          where
            same_seat : (i j : IsSeated settings before e) → i.start ≡ j.start
            same_seat i j = let homes : ◌≡◌ {A = Option ℕ} (Some i.group) (Some j.group) = sym i.home ∙ j.home in let groups : i.group ≡ j.group = cc in
                let both : ◌≡◌ {A = Option ℕ} (Some i.start) (Some j.start) = sym i.last ∙ (ap (λ n. start_of n before) groups ∙ j.last) in cc

            by_exit : (b : Bool) → is_exit cause (settled.seated e (ap needs_server was)).start ≡ b → IsTied settings e s (ids e later) later
            by_exit false goes_on = let k : Place e g s = place lasts e g s (ap needs_server was) (ap is_new was) (stays e was here) (λ j. ap (is_exit cause) (same_seat j (settled.seated e (ap needs_server was))) ∙ goes_on) home start in
                let still : is_exit cause s ≡ false = ap (is_exit cause) (same_seat (record { group = g; start = s; home = k.home; last = k.start }) (settled.seated e (ap needs_server was))) ∙ goes_on in
                tied_still e g s (live_same s off still) (record { always = (ordinary lasts e runs).always; has = (ordinary lasts e runs).kept (unlost lasts e g s k still) }) (all.tied e g s was k.home k.start)
            by_exit true ends = served_next lasts e g s runs (settled.seated e (ap needs_server was)) was ends at home start
        go (inr begun) = never (sym begun ∙ runs)

  pub early_here : (e : ℕ) → has_run (desk_of e later).phase ≡ false → (has_run (desk_of e before).phase ≡ false) × (begins before cause e ≡ false)
  early_here e h = (not_so (has_run (desk_of e before).phase) (unrun e here), begins_off (desk_of e now).phase here)
    where
      not_so : (b : Bool) → not b ≡ true → b ≡ false
      not_so true k = sym k
      not_so false k = refl

      here : has_not (desk_of e now).phase ≡ true
      here = all_back has_not not_run e now (outs_of settings before cause) (ap not h)

      none : (a : Bool) → (a && false) ≡ false
      none true = refl
      none false = refl

      begins_off : (p : Phase) → has_not p ≡ true → (is_answered (desk_of e before).phase && is_running p) ≡ false
      begins_off Running k = never (sym k)
      begins_off _ k = none (is_answered (desk_of e before).phase)
