-- E6 and J1: behind a stop no editor is there, and so behind each later entry.
use Rattle.std.proofs.Common.{◌≡◌, ℕ, ◌+◌, ◌<◌, ◌≤◌, Bool, true, false, not, ◌&&◌, ◌||◌, List, [], ◌∷◌, ◌++◌, map, nat_eq, bytes_eq, codes, if◌then◌else◌, refl, sym, ◌∙◌, ap, subst, append_assoc, append-nil, arith}
use Rattle.std.specs.List.{list_any}
use Rattle.std.proofs.lemmas.Bool.{and_parts}
use Rattle.std.proofs.lemmas.Slice.Eq.{bytes_eq-Decides}
use Rattle.mux_history.specs.declared.cause.Cause.{Cause}
use Rattle.mux_history.specs.declared.cause.Cause.TheVariants.{Joined, FromEditor, EditorGone, Started, StartFailed, FromServer, ServerGone, Drained, Tick}
use Rattle.mux_history.specs.declared.out.Out.{Out}
use Rattle.mux_history.specs.declared.out.Out.TheVariants.{CloseEditor, ToEditor}
use Rattle.rpc_message.specs.Message.{Message, request, notification, result, error, not_json, not_message, id_bytes, message_of}
use Rattle.rpc_message.specs.Texts.{ok_text}
use Rattle.event_model.specs.declared.phase.Phase.{Phase}
use Rattle.event_model.specs.declared.phase.Phase.TheVariants.{Absent, New, Waiting, Answered, Running, Down, Closed, Gone}
use Rattle.event_model.specs.Event.{Event, behind, heard, said, with_cause, requests}
use Rattle.event_model.specs.Phases.{Desk, desk_hears, desk_of, editors_of, has_id, is_begun, is_there, phase_closed, phase_told, is_multiplexer_request}
use Rattle.std.specs.Prelude.{None, Some}
use Rattle.event_model.specs.Row.{choose, each, nothing, outs, send}
use Rattle.event_model.specs.Settings.{Settings}
use Rattle.event_model.proofs.Frames.{never}
use Rattle.mux_facts.proofs.Editors.{Editors}
use Rattle.mux_facts.proofs.Folds.{desk_more}
use Rattle.mux_facts.proofs.Keeps.{behind_both}
use Rattle.group_words.specs.Houses.{groups_of, is_doubled, stops}
use Rattle.group_words.specs.Placing.{all_from, is_live}
use Rattle.group_words.specs.Rows.{end_group}
use Rattle.group_rows.specs.Rows.{closing_row, from_editor, lspmux_row, outs_of, taken_row, told_row}
use Rattle.group_rows.specs.StopRows.{close_each, refuse_open, stop_row, stopped, stopped_next, there_in}
use Rattle.group_facts.specs.Facts.{Quit, is_put_out}
use Rattle.group_facts.proofs.ExitEntry.{exit_ends, failed_exit, gone_exit}
use Rattle.group_facts.proofs.PutOut.{named_in, outs_tested, server_ends}
use Rattle.group_facts.proofs.Quits.{stopped_back, stopped_did, stopped_more, stopped_now}
use Rattle.group_rows.proofs.DebtsKept.{forth_own, off_forth, whole_off}

-- Phases

there_told : (phase : Phase) (initialize : List ℕ) (m : Message) → is_there (phase_told phase initialize m) ≡ true → is_there phase ≡ true
there_told Waiting initialize m h = refl
there_told Absent initialize m h = h
there_told New initialize m h = h
there_told Answered initialize m h = h
there_told Running initialize m h = h
there_told Down initialize m h = h
there_told Closed initialize m h = h
there_told Gone initialize m h = h

pub there_closed : (phase : Phase) → is_there (phase_closed phase) ≡ false
there_closed Gone = refl
there_closed other = refl

pub there_outs : (e : ℕ) (events : List Event) (xs : List Out) → is_there (desk_of e (behind events xs)).phase ≡ true → is_there (desk_of e events).phase ≡ true
there_outs e = outs_tested is_there there_told there_closed e

pub there_heard : (phase : Phase) (initialize body : List ℕ) (m : Message) → is_there (desk_hears phase initialize body m).phase ≡ true → is_there phase ≡ true
there_heard New initialize body m h = refl
there_heard Waiting initialize body m h = refl
there_heard Answered initialize body m h = refl
there_heard Running initialize body m h = refl
there_heard Down initialize body m h = refl
there_heard Absent initialize body m h = h
there_heard Closed initialize body m h = h
there_heard Gone initialize body m h = h

abbrev pub is_absent : Phase → Bool
is_absent Absent = true
is_absent _ = false

waiting_present : (initialize : List ℕ) (m : Message) → is_absent (phase_told Waiting initialize m) ≡ false
waiting_present initialize (result (Some id) r) = go (has_id id (message_of initialize))
  where
    go : (b : Bool) → is_absent (if b then Answered else Waiting) ≡ false
    go true = refl
    go false = refl
waiting_present initialize (result None r) = refl
waiting_present initialize (error id x) = refl
waiting_present initialize (request id method params) = refl
waiting_present initialize (notification method params) = refl
waiting_present initialize not_json = refl
waiting_present initialize not_message = refl

absent_told : (phase : Phase) (initialize : List ℕ) (m : Message) → is_absent (phase_told phase initialize m) ≡ true → is_absent phase ≡ true
absent_told Waiting initialize m h = never (sym h ∙ waiting_present initialize m)
absent_told Absent initialize m h = h
absent_told New initialize m h = h
absent_told Answered initialize m h = h
absent_told Running initialize m h = h
absent_told Down initialize m h = h
absent_told Closed initialize m h = h
absent_told Gone initialize m h = h

absent_closed : (phase : Phase) → is_absent (phase_closed phase) ≡ false
absent_closed Gone = refl
absent_closed other = refl

there_present : (phase : Phase) → is_there phase ≡ true → is_absent phase ≡ false
there_present Absent h = sym h
there_present other h = refl

-- Links that are to be ended

closed_now : (events : List Event) (n e : ℕ) → nat_eq n e ≡ true → is_there (desk_of e (events ++ said (CloseEditor n) ∷ [])).phase ≡ false
closed_now events n e same = ap (λ (d : Desk). is_there d.phase) (desk_more e events (said (CloseEditor n)))
    ∙ ap (λ b. is_there (if b then record { phase = phase_closed (desk_of e events).phase; initialize = (desk_of e events).initialize } else desk_of e events).phase) same ∙ there_closed (desk_of e events).phase

all_gone : (es : List ℕ) (events : List Event) (e : ℕ) → list_any (λ n. nat_eq n e) es ≡ true → is_there (desk_of e (behind events (outs (close_each es) events))).phase ≡ true → ⊥
all_gone [] events e named h = absurd (cc)
all_gone (n ∷ es) events e named h = go (nat_eq n e) refl (λ k. all_gone es (events ++ said (CloseEditor n) ∷ []) e k (sooner h)) named
  where
    next : List Event
    next = events ++ said (CloseEditor n) ∷ []

    sooner : is_there (desk_of e (behind events (outs (close_each (n ∷ es)) events))).phase ≡ true → is_there (desk_of e (behind next (outs (close_each es) next))).phase ≡ true
    sooner h = subst (λ z. is_there (desk_of e z).phase ≡ true) (sym (append_assoc events (said (CloseEditor n) ∷ []) (map said (outs (close_each es) next)))) h

    go : (b : Bool) → nat_eq n e ≡ b → (list_any (λ k. nat_eq k e) es ≡ true → ⊥) → (b || list_any (λ k. nat_eq k e) es) ≡ true → ⊥
    go true same rest k = never (sym (there_outs e next (outs (close_each es) next) (sooner h)) ∙ closed_now events n e same)
    go false other rest k = rest k

-- The row

both_off : (a b : Bool) → not (a && b) ≡ true → (a && b) ≡ false
both_off true true h = absurd (cc)
both_off true false h = refl
both_off false b h = refl

module _ (settings : Settings) (before : List Event) (n : ℕ) (body : List ℕ) where
  abbrev now : List Event
  now = with_cause before (FromEditor n body)

  abbrev later : List Event
  later = behind now (outs_of settings before (FromEditor n body))

  abbrev Stops : Message → Type 0
  Stops m = stops before n m ≡ true → outs (from_editor settings before n body m (desk_of n before).phase) now ≡ outs (stop_row settings before n body) now

  -- such a message meets the row
  stops_row : (m : Message) → Stops m
  stops_row (request id method params) h =
      let p = and_parts (bytes_eq (codes "lspmux/stop") method) (is_there (desk_of n before).phase && not (is_begun (desk_of n before).phase && is_doubled before n (request id method params))) h in
      let q = and_parts (is_there (desk_of n before).phase) (not (is_begun (desk_of n before).phase && is_doubled before n (request id method params))) p.1 in
      subst (λ w. outs (from_editor settings before n body (request id w params) (desk_of n before).phase) now ≡ outs (stop_row settings before n body) now) ((bytes_eq-Decides (codes "lspmux/stop") method).0 p.0)
      (ap (λ b. outs (choose b (closing_row settings before n) (told_row settings before n body (request id (codes "lspmux/stop") params) (desk_of n before).phase)) now) (both_off (is_begun (desk_of n before).phase) (is_doubled before n (request id method params)) q.1)
      ∙ ap (λ b. outs (choose (b && true) (lspmux_row settings before n body (request id (codes "lspmux/stop") params)) (taken_row settings before n body (request id (codes "lspmux/stop") params) (desk_of n before).phase)) now) q.0)
  stops_row (notification method params) h = absurd (cc)
  stops_row (result id r) h = absurd (cc)
  stops_row (error id x) h = absurd (cc)
  stops_row not_json h = absurd (cc)
  stops_row not_message h = absurd (cc)

  own_stop : (m : Message) → requests (codes "lspmux/stop") m ≡ true → is_multiplexer_request m ≡ true
  own_stop m h = go (requests (codes "lspmux/open") m) (requests (codes "lspmux/status") m)
    where
      go : (a b : Bool) → (a || (b || requests (codes "lspmux/stop") m)) ≡ true
      go true b = refl
      go false true = refl
      go false false = h

  pub stop_outs : stops before n (message_of body) ≡ true → outs_of settings before (FromEditor n body) ≡ outs (stop_row settings before n body) now
  stop_outs stop = whole_off settings before n body (off_forth settings before n body (message_of body) (forth_own settings before n body (message_of body) (own_stop (message_of body) (and_parts (requests (codes "lspmux/stop") (message_of body)) (is_there (desk_of n before).phase && not (is_begun (desk_of n before).phase && is_doubled before n (message_of body))) stop).0))) ∙ stops_row (message_of body) stop

  -- Behind it

  abbrev oks : List Out
  oks = ToEditor n (ok_text (id_bytes body) (codes "null")) ∷ []

  abbrev told : List Event
  told = behind now oks

  abbrev refusals : List Out
  refusals = outs (each (refuse_open settings before) (there_in before)) told

  abbrev mid : List Event
  mid = behind told refusals

  abbrev closes : List Out
  closes = outs (close_each (there_in before)) mid

  abbrev ends : List Out
  ends = outs (each end_group (all_from 0 is_live (groups_of settings before))) (behind mid closes)

  there_before : (e : ℕ) → is_there (desk_of e now).phase ≡ true → is_there (desk_of e before).phase ≡ true
  there_before e h = go (nat_eq n e) (sym (ap (λ (d : Desk). is_there d.phase) (desk_more e before (heard (FromEditor n body)))) ∙ h)
    where
      go : (b : Bool) → is_there (if b then desk_hears (desk_of e before).phase (desk_of e before).initialize body (message_of body) else desk_of e before).phase ≡ true → is_there (desk_of e before).phase ≡ true
      go true k = there_heard (desk_of e before).phase (desk_of e before).initialize body (message_of body) k
      go false k = k

  module _ (stop : stops before n (message_of body) ≡ true) (absent : Editors before) where
    none_left : (e : ℕ) → is_there (desk_of e later).phase ≡ true → ⊥
    none_left e h =
        let first : is_there (desk_of e (behind now (oks ++ (refusals ++ (closes ++ ends))))).phase ≡ true = subst (λ xs. is_there (desk_of e (behind now xs)).phase ≡ true) (stop_outs stop) h in
        let second : is_there (desk_of e (behind told (refusals ++ (closes ++ ends)))).phase ≡ true = subst (λ z. is_there (desk_of e z).phase ≡ true) (behind_both now oks (refusals ++ (closes ++ ends))) first in
        let third : is_there (desk_of e (behind mid (closes ++ ends))).phase ≡ true = subst (λ z. is_there (desk_of e z).phase ≡ true) (behind_both told refusals (closes ++ ends)) second in
        let fourth : is_there (desk_of e (behind (behind mid closes) ends)).phase ≡ true = subst (λ z. is_there (desk_of e z).phase ≡ true) (behind_both mid closes ends) third in
        let last : is_there (desk_of e (behind mid closes)).phase ≡ true = there_outs e (behind mid closes) ends fourth in
        let was : is_there (desk_of e before).phase ≡ true = there_before e (there_outs e now oks (there_outs e told refusals (there_outs e mid closes last))) in
        all_gone (there_in before) mid e (named_in (λ k. is_there (desk_of k before).phase) 0 (editors_of before) e (omega arith) (below was) was) last
      where
        below : is_there (desk_of e before).phase ≡ true → e < 0 + editors_of before
        below was = let known : editors_of before ≤ e → ⊥ = λ le. never (sym was ∙ ap is_there (absent e le)) in omega (arith, known)

    -- one that was there had joined
    pub none_absent : (e : ℕ) → is_there (desk_of e now).phase ≡ true → is_absent (desk_of e later).phase ≡ false
    none_absent e there = go (is_absent (desk_of e later).phase) refl
      where
        go : (b : Bool) → is_absent (desk_of e later).phase ≡ b → b ≡ false
        go true gone = never (sym (outs_tested is_absent absent_told absent_closed e now (outs_of settings before (FromEditor n body)) gone) ∙ there_present (desk_of e now).phase there)
        go false present = refl

    pub none_there : (e : ℕ) → is_there (desk_of e later).phase ≡ false
    none_there e = go (is_there (desk_of e later).phase) refl
      where
        go : (b : Bool) → is_there (desk_of e later).phase ≡ b → b ≡ false
        go true here = absurd (none_left e here)
        go false gone = refl

-- J1: one that joins behind a stop is sent away
module _ (settings : Settings) (before : List Event) (n : ℕ) (over : stopped before ≡ true) where
  abbrev joined : List Event
  joined = behind (with_cause before (Joined n)) (outs_of settings before (Joined n))

  joined_outs : outs_of settings before (Joined n) ≡ CloseEditor n ∷ []
  joined_outs = ap (λ b. outs (choose b (send (CloseEditor n)) nothing) (with_cause before (Joined n))) over

  pub joined_gone : (e : ℕ) → (nat_eq n e ≡ false → is_there (desk_of e before).phase ≡ false) → is_there (desk_of e joined).phase ≡ false
  joined_gone e others = ap (λ xs. is_there (desk_of e (behind (with_cause before (Joined n)) xs)).phase) joined_outs ∙ go (nat_eq n e) refl
    where
      go : (b : Bool) → nat_eq n e ≡ b → is_there (desk_of e (with_cause before (Joined n) ++ said (CloseEditor n) ∷ [])).phase ≡ false
      go true same = closed_now (with_cause before (Joined n)) n e same
      go false other = ap (λ (d : Desk). is_there d.phase) (desk_more e (with_cause before (Joined n)) (said (CloseEditor n))
          ∙ ap (λ b. if b then record { phase = phase_closed (desk_of e (with_cause before (Joined n))).phase; initialize = (desk_of e (with_cause before (Joined n))).initialize } else desk_of e (with_cause before (Joined n))) other
          ∙ desk_more e before (heard (Joined n)) ∙ ap (λ b. if b then record { phase = New; initialize = [] } else desk_of e before) other) ∙ others other

-- Behind each later entry

there_caused : (before : List Event) (cause : Cause) (e : ℕ) → ((n : ℕ) → cause ≡ Joined n → ⊥) → is_there (desk_of e (with_cause before cause)).phase ≡ true → is_there (desk_of e before).phase ≡ true
there_caused before (Joined n) e joins h = absurd (joins n refl)
there_caused before (FromEditor n body) e joins h = go (nat_eq n e) (sym (ap (λ (d : Desk). is_there d.phase) (desk_more e before (heard (FromEditor n body)))) ∙ h)
  where
    go : (b : Bool) → is_there (if b then desk_hears (desk_of e before).phase (desk_of e before).initialize body (message_of body) else desk_of e before).phase ≡ true → is_there (desk_of e before).phase ≡ true
    go true k = there_heard (desk_of e before).phase (desk_of e before).initialize body (message_of body) k
    go false k = k
there_caused before (EditorGone n why) e joins h = go (nat_eq n e) (sym (ap (λ (d : Desk). is_there d.phase) (desk_more e before (heard (EditorGone n why)))) ∙ h)
  where
    go : (b : Bool) → is_there (if b then record { phase = Gone; initialize = (desk_of e before).initialize } else desk_of e before).phase ≡ true → is_there (desk_of e before).phase ≡ true
    go true k = absurd (cc)
    go false k = k
there_caused before (Started s) e joins h = sym (ap (λ (d : Desk). is_there d.phase) (desk_more e before (heard (Started s)))) ∙ h
there_caused before (StartFailed s) e joins h = sym (ap (λ (d : Desk). is_there d.phase) (desk_more e before (heard (StartFailed s)))) ∙ h
there_caused before (FromServer s body) e joins h = sym (ap (λ (d : Desk). is_there d.phase) (desk_more e before (heard (FromServer s body)))) ∙ h
there_caused before (ServerGone s) e joins h = sym (ap (λ (d : Desk). is_there d.phase) (desk_more e before (heard (ServerGone s)))) ∙ h
there_caused before (Drained n k) e joins h = sym (ap (λ (d : Desk). is_there d.phase) (desk_more e before (heard (Drained n k)))) ∙ h
there_caused before (Tick t) e joins h = sym (ap (λ (d : Desk). is_there d.phase) (desk_more e before (heard (Tick t)))) ∙ h

pub stopped_outs : (events : List Event) (xs : List Out) → stopped (behind events xs) ≡ stopped events
stopped_outs events [] = ap stopped (append-nil events)
stopped_outs events (x ∷ xs) = ap stopped (sym (append_assoc events (said x ∷ []) (map said xs))) ∙ stopped_outs (events ++ said x ∷ []) xs ∙ stopped_did events x

-- what isn't stopped behind an entry wasn't before it, nor was it by its message
pub before_on : (before : List Event) (cause : Cause) (xs : List Out) → stopped (behind (with_cause before cause) xs) ≡ false → stopped before ≡ false
before_on before cause xs h = stopped_back before (heard cause) (sym (stopped_outs (with_cause before cause) xs) ∙ h)

pub unstopped : (before : List Event) (n : ℕ) (body : List ℕ) (xs : List Out) → stopped (behind (with_cause before (FromEditor n body)) xs) ≡ false → stops before n (message_of body) ≡ false
unstopped before n body xs h = go (stops before n (message_of body)) refl
  where
    go : (b : Bool) → stops before n (message_of body) ≡ b → b ≡ false
    go true stop = never (sym (stopped_now before n body stop) ∙ (sym (stopped_outs (with_cause before (FromEditor n body)) xs) ∙ h))
    go false on = refl

module _ (settings : Settings) (before : List Event) (absent : Editors before) (quit : Quit before) where
  abbrev After : Cause → List Event
  After cause = behind (with_cause before cause) (outs_of settings before cause)

  -- it was stopped before
  still_none : (cause : Cause) → stopped before ≡ true → ((n : ℕ) → cause ≡ Joined n → ⊥) → (e : ℕ) → is_there (desk_of e (After cause)).phase ≡ false
  still_none cause over joins e = go (is_there (desk_of e (After cause)).phase) refl
    where
      go : (b : Bool) → is_there (desk_of e (After cause)).phase ≡ b → b ≡ false
      go true here = never (sym (there_caused before cause e joins (there_outs e (with_cause before cause) (outs_of settings before cause) here)) ∙ quit over e)
      go false gone = refl

  was_stopped : (cause : Cause) → stopped (After cause) ≡ true → stopped_next before (stopped before) (heard cause) ≡ true
  was_stopped cause h = sym (stopped_more before (heard cause)) ∙ (sym (stopped_outs (with_cause before cause) (outs_of settings before cause)) ∙ h)

  pub quit_rests : (cause : Cause) → Quit (After cause)
  quit_rests (Joined n) h e = let over : stopped before ≡ true = was_stopped (Joined n) h in joined_gone settings before n over e (λ other. quit over e)
  quit_rests (FromEditor n body) h e = go (stops before n (message_of body)) refl (was_stopped (FromEditor n body) h)
    where
      go : (b : Bool) → stops before n (message_of body) ≡ b → (if b then true else stopped before) ≡ true → is_there (desk_of e (After (FromEditor n body))).phase ≡ false
      go true stop k = none_there settings before n body stop absent e
      go false on k = still_none (FromEditor n body) k (λ i is. cc) e
  quit_rests (EditorGone n why) h e = still_none (EditorGone n why) (was_stopped (EditorGone n why) h) (λ i is. cc) e
  quit_rests (Started s) h e = still_none (Started s) (was_stopped (Started s) h) (λ i is. cc) e
  quit_rests (StartFailed s) h e = still_none (StartFailed s) (was_stopped (StartFailed s) h) (λ i is. cc) e
  quit_rests (FromServer s body) h e = still_none (FromServer s body) (was_stopped (FromServer s body) h) (λ i is. cc) e
  quit_rests (ServerGone s) h e = still_none (ServerGone s) (was_stopped (ServerGone s) h) (λ i is. cc) e
  quit_rests (Drained n k) h e = still_none (Drained n k) (was_stopped (Drained n k) h) (λ i is. cc) e
  quit_rests (Tick t) h e = still_none (Tick t) (was_stopped (Tick t) h) (λ i is. cc) e

pub begun_there : (phase : Phase) → is_begun phase ≡ true → is_there phase ≡ true
begun_there Waiting h = refl
begun_there Answered h = refl
begun_there Running h = refl
begun_there Down h = refl
begun_there Absent h = h
begun_there New h = refl
begun_there Closed h = h
begun_there Gone h = h

-- Whose link another one's doing ends is in no group behind the entry

pub unthere_unbegun : (phase : Phase) → is_there phase ≡ false → is_begun phase ≡ false
unthere_unbegun Absent h = refl
unthere_unbegun Closed h = refl
unthere_unbegun Gone h = refl
unthere_unbegun New h = refl
unthere_unbegun Waiting h = never h
unthere_unbegun Answered h = never h
unthere_unbegun Running h = never h
unthere_unbegun Down h = never h

pub put_out_ends : (settings : Settings) (before : List Event) (cause : Cause) → Editors before → (e : ℕ) → is_put_out settings before cause e ≡ true → is_begun (desk_of e (behind (with_cause before cause) (outs_of settings before cause))).phase ≡ false
put_out_ends settings before (FromServer s body) absent e out = server_ends settings before s body absent e out
put_out_ends settings before (FromEditor n body) absent e out = unthere_unbegun _ (none_there settings before n body (and_parts (stops before n (message_of body)) (is_there (desk_of e before).phase) out).0 absent e)
put_out_ends settings before (Joined n) absent e out =
    let p = and_parts (nat_eq n e) (stopped before) out in unthere_unbegun _ (joined_gone settings before n p.1 e (λ other. never (sym p.0 ∙ other)))
put_out_ends settings before (StartFailed s) absent e out = exit_ends settings before (StartFailed s) s (failed_exit settings before s) absent e out
put_out_ends settings before (ServerGone s) absent e out = exit_ends settings before (ServerGone s) s (gone_exit settings before s) absent e out
put_out_ends settings before cause absent e out = never (sym out)
