-- Each editor that waits has its `initialize` open, but for one that is turned away in the entry at hand.
use Rattle.std.proofs.Common.{◌≡◌, ℕ, Bool, true, false, ◌&&◌, List, [], ◌∷◌, ◌++◌, nat_eq, codes, if◌then◌else◌, None, Some, ◌⊎◌, inl, inr, refl, sym, ◌∙◌, ap, subst, subst₂, append_assoc}
use Rattle.std.proofs.lemmas.Bool.{and_parts}
use Rattle.std.proofs.lemmas.Slice.Eq.{bytes_eq-Decides}
use Rattle.json_text.specs.Json.{Json}
use Rattle.mux_history.specs.declared.cause.Cause.{Cause}
use Rattle.mux_history.specs.declared.cause.Cause.TheVariants.{FromEditor, FromServer, StartFailed, ServerGone}
use Rattle.mux_history.specs.declared.out.Out.{Out}
use Rattle.mux_history.specs.declared.out.Out.TheVariants.{ToEditor, CloseEditor}
use Rattle.rpc_message.specs.Message.{Message, request, notification, result, error, not_json, not_message, Id, message_of, id_bytes}
use Rattle.rpc_message.specs.Texts.{error_text, request_failed}
use Rattle.event_model.specs.declared.phase.Phase.{Phase}
use Rattle.event_model.specs.declared.phase.Phase.TheVariants.{Absent, New, Waiting, Answered, Running, Down, Closed, Gone}
use Rattle.event_model.specs.Event.{Event, said, behind, with_cause, requests}
use Rattle.event_model.specs.Phases.{Desk, desk_of, desk_behind, has_id, is_begun, is_malformed, is_new, is_waiting, phase_closed, phase_told, is_running}
use Rattle.event_model.specs.Row.{outs}
use Rattle.event_model.specs.Requests.{answered_id, open_behind, open_of, without}
use Rattle.event_model.specs.Settings.{Settings}
use Rattle.event_model.proofs.Frames.{never}
use Rattle.mux_facts.proofs.Editors.{Editors}
use Rattle.mux_facts.proofs.FactLaws.{closed_waits, waits_took}
use Rattle.mux_facts.proofs.Folds.{desk_more, opens_more}
use Rattle.mux_facts.proofs.Waits.{AllWaiting, WaitsAt, WaitsIf, is_a_result, late_not, null_waits, pick_desk, told_waits}
use Rattle.mux_facts.proofs.Words.{number_same, still_open}
use Rattle.group_words.specs.declared.placed.Placed.{Placed}
use Rattle.group_words.specs.declared.placed.Placed.TheVariants.{Joins, New as Founds, Evicts, TooMany}
use Rattle.group_words.specs.Houses.{groups_of, placed_for, places, stops}
use Rattle.mux_facts.proofs.Why.{is_early}
use Rattle.group_rows.specs.Rows.{asks_lspmux, names_lspmux, outs_of, from_editor}
use Rattle.group_facts.specs.Facts.{is_crowded, is_too_many, turned_away}
use Rattle.group_facts.proofs.Facts.{OthersWait}
use Rattle.group_facts.proofs.ExitEntry.{Exit, exit_turns, failed_exit, gone_exit}
use Rattle.group_facts.proofs.PutOut.{turned_ends}
use Rattle.group_facts.proofs.Quits.{one_of}
use Rattle.group_facts.proofs.StopEntry.{none_there, unthere_unbegun}
use Rattle.group_facts.proofs.Listens.{listens_late}
use Rattle.group_facts.specs.Why.{IsRefusal, WhyToEditor, calls, rejects, resumes, refuses, answers, turns_away, welcomes, passes, asks, loses, winds_up, recalls, spreads, progresses, shows, pays}
use Rattle.group_rows.proofs.DebtsKept.{off_unrun, whole_off}

-- one event more
wait_more : (e : ℕ) (events : List Event) (event : Event) → WaitsAt (desk_behind e (desk_of e events) event) (open_behind e (open_of e events) event) → WaitsAt (desk_of e (events ++ event ∷ [])) (open_of e (events ++ event ∷ []))
wait_more e events event h = subst₂ WaitsAt (sym (desk_more e events event)) (sym (opens_more e events event)) h

-- Bodies to an editor

abbrev told_desk : Desk → Message → Desk
told_desk desk m = record { phase = phase_told desk.phase desk.initialize m; initialize = desk.initialize }

pick : (b : Bool) (x y : Desk) (ids others : List Id) → (b ≡ true → WaitsAt x ids) → WaitsAt y others → WaitsAt (if b then x else y) (if b then ids else others)
pick true x y ids others f g = f refl
pick false x y ids others f g = g

-- an error for another request
refused_waits : (phase : Phase) (initialize : List ℕ) (ids : List Id) (id : Id) (x : Json) → (phase ≡ Waiting → has_id id (message_of initialize) ≡ false) → WaitsIf phase initialize ids → WaitsIf (phase_told phase initialize (error (Some id) x)) initialize (without (Some id) ids)
refused_waits Waiting initialize ids id x others w = record { id = w.id; params = w.params; asks = w.asks; waits = still_open id w.id ids w.waits (sym (ap (has_id id) w.asks) ∙ others refl) }
refused_waits Absent initialize ids id x others w = tt
refused_waits New initialize ids id x others w = tt
refused_waits Answered initialize ids id x others w = tt
refused_waits Running initialize ids id x others w = tt
refused_waits Down initialize ids id x others w = tt
refused_waits Closed initialize ids id x others w = tt
refused_waits Gone initialize ids id x others w = tt

module _ (settings : Settings) (before : List Event) (cause : Cause) (events : List Event) (n : ℕ) (body : List ℕ) where
  abbrev told : List Event
  told = events ++ said (ToEditor n body) ∷ []

  -- by what is told, where it is to e
  by_told : (e : ℕ) → WaitsAt (desk_of e events) (open_of e events) → (n ≡ e → WaitsAt (told_desk (desk_of e events) (message_of body)) (without (answered_id (message_of body)) (open_of e events))) → WaitsAt (desk_of e told) (open_of e told)
  by_told e h f = wait_more e events (said (ToEditor n body)) (pick (nat_eq n e) (told_desk (desk_of e events) (message_of body)) (desk_of e events) (without (answered_id (message_of body)) (open_of e events)) (open_of e events) (λ same. f (number_same n e same)) h)

  null_told : (x : Json) → message_of body ≡ error None x → (e : ℕ) → WaitsAt (desk_of e events) (open_of e events) → WaitsAt (desk_of e told) (open_of e told)
  null_told x says e h = by_told e h (λ same. subst (λ m. WaitsAt (told_desk (desk_of e events) m) (without (answered_id m) (open_of e events))) (sym says) (null_waits true (desk_of e events) (open_of e events) x h))

  refusal_told : IsRefusal settings events n body → (e : ℕ) → WaitsAt (desk_of e events) (open_of e events) → WaitsAt (desk_of e told) (open_of e told)
  refusal_told k e h = by_told e h (λ same. subst (λ m. WaitsAt (told_desk (desk_of e events) m) (without (answered_id m) (open_of e events))) (sym k.says)
      (refused_waits (desk_of e events).phase (desk_of e events).initialize (open_of e events) k.id k.x (subst (λ z. (desk_of z events).phase ≡ Waiting → has_id k.id (message_of (desk_of z events).initialize) ≡ false) same k.others) h))

  result_told : ((desk_of n events).phase ≡ Waiting → is_a_result (message_of body) ≡ true) → (e : ℕ) → WaitsAt (desk_of e events) (open_of e events) → WaitsAt (desk_of e told) (open_of e told)
  result_told f e h = by_told e h (λ same. told_waits (desk_of e events).phase (message_of body) (desk_of e events).initialize (open_of e events) (λ at. f (ap (λ z. (desk_of z events).phase) same ∙ at)) h)

  -- a body to an editor that runs
  running_told : (desk_of n events).phase ≡ Running → (e : ℕ) → WaitsAt (desk_of e events) (open_of e events) → WaitsAt (desk_of e told) (open_of e told)
  running_told at = result_told (λ waits. absurd (late_not (desk_of n events).phase (ap is_early at) waits))

  pub waiting_told : WhyToEditor settings before cause events n body → OthersWait settings before cause events → OthersWait settings before cause told
  waiting_told (rejects k) h e rest = null_told k.x k.says e (h e rest)
  waiting_told (refuses k) h e rest = refusal_told k e (h e rest)
  waiting_told (answers k) h e rest = result_told (λ at. ap is_a_result k.says) e (h e rest)
  waiting_told (turns_away k) h e rest = by_told e (h e rest) (λ same. never (sym (ap (turned_away settings before cause) (sym same) ∙ k.turned) ∙ rest))
  waiting_told (welcomes k) h e rest = result_told (λ at. ap is_a_result k.says) e (h e rest)
  waiting_told (asks k) h e rest = running_told (k.source).running e (h e rest)
  waiting_told (resumes k) h e rest = running_told k.running e (h e rest)
  waiting_told (pays k) h e rest = running_told k.running e (h e rest)
  waiting_told (calls k) h e rest = running_told k.running e (h e rest)
  waiting_told (spreads k) h e rest = running_told (k.source).running e (h e rest)
  waiting_told (shows k) h e rest = running_told k.running e (h e rest)
  waiting_told (recalls k) h e rest = running_told (k.source).running e (h e rest)
  waiting_told (progresses k) h e rest = result_told (λ at. absurd (late_not (desk_of n events).phase (listens_late (desk_of n events).phase k.hears) at)) e (h e rest)
  waiting_told (winds_up k) h e rest = running_told k.running e (h e rest)
  waiting_told (loses k) h e rest = result_told (λ at. absurd (late_not (desk_of n events).phase k.late at)) e (h e rest)
  waiting_told (passes k) h e rest = result_told (λ at. absurd (late_not (desk_of n events).phase k.late at)) e (h e rest)

-- Other outs

pub waiting_said : (settings : Settings) (before : List Event) (cause : Cause) (events : List Event) (out : Out) → ((e : ℕ) → WaitsAt (desk_of e events) (open_of e events) → WaitsAt (desk_behind e (desk_of e events) (said out)) (open_behind e (open_of e events) (said out)))
    → OthersWait settings before cause events → OthersWait settings before cause (events ++ said out ∷ [])
waiting_said settings before cause events out f h e rest = wait_more e events (said out) (f e (h e rest))

pub waiting_closed : (events : List Event) (n e : ℕ) → WaitsAt (desk_of e events) (open_of e events) → WaitsAt (desk_behind e (desk_of e events) (said (CloseEditor n))) (open_behind e (open_of e events) (said (CloseEditor n)))
waiting_closed events n e h = pick_desk (nat_eq n e) (record { phase = phase_closed (desk_of e events).phase; initialize = (desk_of e events).initialize }) (desk_of e events) (open_of e events)
    (λ same. closed_waits (desk_of e events).phase (desk_of e events).initialize (open_of e events)) h

-- A cause

pub waiting_took : (settings : Settings) (before : List Event) (cause : Cause) → AllWaiting before → OthersWait settings before cause (with_cause before cause)
waiting_took settings before cause h e rest = waits_took before cause h e

-- Behind the entry the one that was turned away is closed

pub new_is : (phase : Phase) → is_new phase ≡ true → phase ≡ New
new_is New h = refl
new_is Absent h = absurd (cc)
new_is Waiting h = absurd (cc)
new_is Answered h = absurd (cc)
new_is Running h = absurd (cc)
new_is Down h = absurd (cc)
new_is Closed h = absurd (cc)
new_is Gone h = absurd (cc)

pub whole_is : (m : Message) → requests (codes "initialize") m ≡ true → is_malformed m ≡ false
whole_is (request id method params) h = refl
whole_is (notification method params) h = refl
whole_is (result id r) h = refl
whole_is (error id x) h = refl
whole_is not_json h = absurd (cc)
whole_is not_message h = absurd (cc)

-- it is none of the multiplexer's own
pub first_unasked : (m : Message) → requests (codes "initialize") m ≡ true → asks_lspmux m ≡ false
first_unasked (request id method params) h = ap names_lspmux (sym ((bytes_eq-Decides (codes "initialize") method).0 h))
first_unasked (notification method params) h = absurd (cc)
first_unasked (result id r) h = absurd (cc)
first_unasked (error id x) h = absurd (cc)
first_unasked not_json h = absurd (cc)
first_unasked not_message h = absurd (cc)

many_is : (placed : Placed) → is_too_many placed ≡ true → placed ≡ TooMany
many_is TooMany h = refl
many_is (Joins g) h = absurd (cc)
many_is (Founds g) h = absurd (cc)
many_is (Evicts a g) h = absurd (cc)

-- one that isn't in its group waits for nothing
unbegun_waits : (phase : Phase) (initialize : List ℕ) (ids : List Id) → is_begun phase ≡ false → WaitsIf phase initialize ids
unbegun_waits Waiting initialize ids h = never h
unbegun_waits Absent initialize ids h = tt
unbegun_waits New initialize ids h = tt
unbegun_waits Answered initialize ids h = tt
unbegun_waits Running initialize ids h = tt
unbegun_waits Down initialize ids h = tt
unbegun_waits Closed initialize ids h = tt
unbegun_waits Gone initialize ids h = tt

module _ (settings : Settings) (before : List Event) (n : ℕ) (body : List ℕ) where
  abbrev answer : List ℕ
  answer = error_text (id_bytes body) request_failed

  pub turned_outs : (e : ℕ) → is_crowded settings before n body e ≡ true → outs_of settings before (FromEditor n body) ≡ ToEditor n answer ∷ CloseEditor n ∷ []
  turned_outs e turned =
      let parts = and_parts (nat_eq n e) (places (desk_of n before).phase (message_of body) && is_too_many (placed_for settings before n body (groups_of settings before))) turned in
      let more = and_parts (places (desk_of n before).phase (message_of body)) (is_too_many (placed_for settings before n body (groups_of settings before))) parts.1 in
      let place = and_parts (is_new (desk_of n before).phase) (requests (codes "initialize") (message_of body)) more.0 in
      let rest : outs (from_editor settings before n body (message_of body) (desk_of n before).phase) (with_cause before (FromEditor n body)) ≡ ToEditor n answer ∷ CloseEditor n ∷ [] =
      rw (whole_is (message_of body) place.1, new_is (desk_of n before).phase place.0, first_unasked (message_of body) place.1, place.1, many_is (placed_for settings before n body (groups_of settings before)) more.1) refl in
      whole_off settings before n body (off_unrun settings before n body (message_of body) (ap is_running (new_is (desk_of n before).phase place.0))) ∙ rest

  pub turned_closed : (e : ℕ) → is_crowded settings before n body e ≡ true → (now : List Event) → WaitsAt (desk_of e (behind now (ToEditor n answer ∷ CloseEditor n ∷ []))) (open_of e (behind now (ToEditor n answer ∷ CloseEditor n ∷ [])))
  turned_closed e turned now = subst (λ z. WaitsAt (desk_of e z) (open_of e z)) (append_assoc now (said (ToEditor n answer) ∷ []) (said (CloseEditor n) ∷ []))
      (wait_more e mid (said (CloseEditor n)) (closed (nat_eq n e) (and_parts (nat_eq n e) (places (desk_of n before).phase (message_of body) && is_too_many (placed_for settings before n body (groups_of settings before))) turned).0))
    where
      mid : List Event
      mid = now ++ said (ToEditor n answer) ∷ []

      closed : (b : Bool) → b ≡ true → WaitsAt (if b then record { phase = phase_closed (desk_of e mid).phase; initialize = (desk_of e mid).initialize } else desk_of e mid) (open_of e mid)
      closed true same = closed_waits (desk_of e mid).phase (desk_of e mid).initialize (open_of e mid)
      closed false same = absurd (cc)

  all_wait : Editors before → OthersWait settings before (FromEditor n body) (behind (with_cause before (FromEditor n body)) (outs_of settings before (FromEditor n body))) → AllWaiting (behind (with_cause before (FromEditor n body)) (outs_of settings before (FromEditor n body)))
  all_wait absent h e = go (turned_away settings before (FromEditor n body) e) refl
    where
      go : (b : Bool) → turned_away settings before (FromEditor n body) e ≡ b → WaitsAt (desk_of e (behind (with_cause before (FromEditor n body)) (outs_of settings before (FromEditor n body)))) (open_of e (behind (with_cause before (FromEditor n body)) (outs_of settings before (FromEditor n body))))
      go false rest = h e rest
      go true turned = by_reason (one_of (is_crowded settings before n body e) (stops before n (message_of body) && is_waiting (desk_of e before).phase) turned)
        where
          by_reason : (is_crowded settings before n body e ≡ true) ⊎ ((stops before n (message_of body) && is_waiting (desk_of e before).phase) ≡ true) → WaitsAt (desk_of e (behind (with_cause before (FromEditor n body)) (outs_of settings before (FromEditor n body)))) (open_of e (behind (with_cause before (FromEditor n body)) (outs_of settings before (FromEditor n body))))
          by_reason (inl many) = subst (λ xs. WaitsAt (desk_of e (behind (with_cause before (FromEditor n body)) xs)) (open_of e (behind (with_cause before (FromEditor n body)) xs))) (sym (turned_outs e many)) (turned_closed e many (with_cause before (FromEditor n body)))
          by_reason (inr stop) = unbegun_waits _ _ _ (unthere_unbegun _ (none_there settings before n body (and_parts (stops before n (message_of body)) (is_waiting (desk_of e before).phase) stop).0 absent e))

module _ (settings : Settings) (before : List Event) (s : ℕ) (body : List ℕ) (absent : Editors before) where
  abbrev later : List Event
  later = behind (with_cause before (FromServer s body)) (outs_of settings before (FromServer s body))

  none_wait : OthersWait settings before (FromServer s body) later → AllWaiting later
  none_wait h e = go (turned_away settings before (FromServer s body) e) refl
    where
      go : (b : Bool) → turned_away settings before (FromServer s body) e ≡ b → WaitsAt (desk_of e later) (open_of e later)
      go false rest = h e rest
      go true turned = unbegun_waits (desk_of e later).phase (desk_of e later).initialize (open_of e later) (turned_ends settings before s body absent e turned)

module _ (settings : Settings) (before : List Event) (cause : Cause) (s : ℕ) (exit : Exit settings before cause s) (absent : Editors before) where
  abbrev ended : List Event
  ended = behind (with_cause before cause) (outs_of settings before cause)

  exit_waits : OthersWait settings before cause ended → AllWaiting ended
  exit_waits h e = go (turned_away settings before cause e) refl
    where
      go : (b : Bool) → turned_away settings before cause e ≡ b → WaitsAt (desk_of e ended) (open_of e ended)
      go false rest = h e rest
      go true turned = unbegun_waits (desk_of e ended).phase (desk_of e ended).initialize (open_of e ended) (exit_turns settings before cause s exit absent e turned)

pub waiting_rests : (settings : Settings) (before : List Event) (cause : Cause) → Editors before → OthersWait settings before cause (behind (with_cause before cause) (outs_of settings before cause)) → AllWaiting (behind (with_cause before cause) (outs_of settings before cause))
waiting_rests settings before (FromEditor n body) absent h = all_wait settings before n body absent h
waiting_rests settings before (FromServer s body) absent h = none_wait settings before s body absent h
waiting_rests settings before (StartFailed s) absent h = exit_waits settings before (StartFailed s) s (failed_exit settings before s) absent h
waiting_rests settings before (ServerGone s) absent h = exit_waits settings before (ServerGone s) s (gone_exit settings before s) absent h
waiting_rests settings before cause absent h = λ e. h e refl
