-- Behind every entry each editor that a start asked runs, in the group whose last start it is; and that start is ready.
use Rattle.std.proofs.Common.{◌≡◌, ℕ, Bool, true, false, ◌&&◌, ◌||◌, List, [], ◌∷◌, ◌++◌, nat_eq, codes, if◌then◌else◌, Option, Some, None, ◌⊎◌, inl, inr, refl, sym, ◌∙◌, ap, subst, arith}
use Rattle.std.specs.List.{AllByRecursion}
use Rattle.mux_history.specs.declared.cause.Cause.{Cause}
use Rattle.mux_history.specs.declared.cause.Cause.TheVariants.{Joined, FromEditor, EditorGone, Started, StartFailed, FromServer, ServerGone, Drained, Tick}
use Rattle.mux_history.specs.declared.out.Out.{Out}
use Rattle.mux_history.specs.declared.out.Out.TheVariants.{ToEditor, ToServer, Spawn, CloseEditor, EndServer}
use Rattle.rpc_message.specs.Message.{Message, Id, id_bytes, message_of}
use Rattle.event_model.specs.declared.phase.Phase.{Phase}
use Rattle.event_model.specs.declared.phase.Phase.TheVariants.{Absent, New, Running, Down, Gone}
use Rattle.event_model.specs.declared.stage.Stage.{Stage}
use Rattle.event_model.specs.declared.stage.Stage.TheVariants.{Unspawned, Spawning, Initializing, Ready, Stopping, Ending, Ended}
use Rattle.event_model.specs.Event.{Event, behind, heard, requests, said, with_cause}
use Rattle.event_model.specs.Phases.{Desk, desk_hears, desk_of, editors_of, is_new, phase_closed}
use Rattle.event_model.specs.Settings.{Settings}
use Rattle.event_model.specs.Stages.{Life, is_ended, life_of}
use Rattle.event_model.proofs.Frames.{never}
use Rattle.mux_model.specs.Fits.{fits_behind}
use Rattle.mux_facts.specs.Ranges.{InRange}
use Rattle.mux_facts.proofs.Editors.{Editors}
use Rattle.mux_facts.proofs.Starts.{Starts}
use Rattle.mux_facts.proofs.Folds.{desk_more, life_more}
use Rattle.mux_facts.proofs.Lists.{all_join, all_of}
use Rattle.mux_facts.proofs.Reasons.{reasons_keep}
use Rattle.mux_facts.proofs.Words.{number_same}
use Rattle.group_rows.specs.Asks.{Ask, Asker, Asking, asker_of, asks_of, next_ask, put}
use Rattle.group_rows.specs.Rows.{outs_of}
use Rattle.group_facts.specs.SlowRows.{is_slow}
use Rattle.group_facts.specs.Facts.{ends_link, is_unready, is_up, leaves, shuts}
use Rattle.group_facts.specs.Settled.{HasSeat}
use Rattle.group_facts.specs.Why.{IsAsk, IsResumed, Why, WhyToEditor, answers, asks, passes, recalls, refuses, calls, rejects, resumes, spreads, turns_away, welcomes, progresses, shows, loses, winds_up, quitting, pays}
use Rattle.group_facts.proofs.Asks.{registering_made, is_question, listed, response_asks_none, resumed_here, resumed_off, taken, paid_made}
use Rattle.group_facts.proofs.AskSeats.{MidSeat, asks_more, did_all, took_all}
use Rattle.group_facts.proofs.AskingRows.{still_runs}
use Rattle.group_facts.proofs.Facts.{Facts}
use Rattle.group_facts.proofs.Known.{Here, here_did, here_slow, here_took}
use Rattle.group_facts.proofs.Levels.{Fresh, falls_back, unready_falls}
use Rattle.group_facts.proofs.Numbers.{spawn_fresh}
use Rattle.group_facts.proofs.LastStarts.{AllLast}
use Rattle.group_facts.proofs.SlowRow.{parting, parting_why}
use Rattle.group_facts.proofs.Table.{reasons}

abbrev pub AllSeats : Settings → List Event → Type 0
AllSeats settings events = (s : ℕ) → AllByRecursion (HasSeat settings events s) (asks_of settings s events)

pub off_both : (a b : Bool) → (a || b) ≡ false → (a ≡ false) × (b ≡ false)
off_both true b h = never h
off_both false b h = (refl, h)

pub on_either : (a b : Bool) → (a || b) ≡ true → (a ≡ true) ⊎ (b ≡ true)
on_either true b h = inl refl
on_either false b h = inr h

-- One that runs, and doesn't leave, still does

module _ (settings : Settings) (before : List Event) (e : ℕ) (at : (desk_of e before).phase ≡ Running) where
  heard_runs : (phase : Phase) (initialize body : List ℕ) (m : Message) → requests (codes "shutdown") m ≡ false → phase ≡ Running → (desk_hears phase initialize body m).phase ≡ Running
  heard_runs phase initialize body m other at = ap (λ p. (desk_hears p initialize body m).phase) at ∙ ap (λ b. if b then Down else Running) other

  pub took_runs : (cause : Cause) → fits_behind before cause ≡ true → Editors before → shuts cause e ≡ false → (desk_of e (with_cause before cause)).phase ≡ Running
  took_runs (FromEditor n body) fits absent stays = ap (λ (d : Desk). d.phase) (desk_more e before (heard (FromEditor n body))) ∙ go (nat_eq n e) stays
    where
      go : (b : Bool) → (b && requests (codes "shutdown") (message_of body)) ≡ false → (if b then desk_hears (desk_of e before).phase (desk_of e before).initialize body (message_of body) else desk_of e before).phase ≡ Running
      go true other = heard_runs (desk_of e before).phase (desk_of e before).initialize body (message_of body) other at
      go false other = at
  took_runs (EditorGone n why) fits absent stays = ap (λ (d : Desk). d.phase) (desk_more e before (heard (EditorGone n why)) ∙ ap (λ b. if b then record { phase = Gone; initialize = (desk_of e before).initialize } else desk_of e before) stays) ∙ at
  took_runs (Joined n) fits absent stays = ap (λ (d : Desk). d.phase) (desk_more e before (heard (Joined n))) ∙ go (nat_eq n e) refl
    where
      fresh : nat_eq n e ≡ true → (desk_of e before).phase ≡ Absent
      fresh same = absent e (let joined : n ≡ editors_of before = number_same n (editors_of before) fits in let is : n ≡ e = number_same n e same in omega (arith, joined, is))

      go : (b : Bool) → nat_eq n e ≡ b → (if b then record { phase = New; initialize = [] } else desk_of e before).phase ≡ Running
      go true same = absurd (let clash : Running ≡ Absent = sym at ∙ fresh same in cc)
      go false other = at
  took_runs (Started n) fits absent stays = ap (λ (d : Desk). d.phase) (desk_more e before (heard (Started n))) ∙ at
  took_runs (StartFailed n) fits absent stays = ap (λ (d : Desk). d.phase) (desk_more e before (heard (StartFailed n))) ∙ at
  took_runs (FromServer n body) fits absent stays = ap (λ (d : Desk). d.phase) (desk_more e before (heard (FromServer n body))) ∙ at
  took_runs (ServerGone n) fits absent stays = ap (λ (d : Desk). d.phase) (desk_more e before (heard (ServerGone n))) ∙ at
  took_runs (Drained n k) fits absent stays = ap (λ (d : Desk). d.phase) (desk_more e before (heard (Drained n k))) ∙ at
  took_runs (Tick t) fits absent stays = ap (λ (d : Desk). d.phase) (desk_more e before (heard (Tick t))) ∙ at

pub close_runs : (events : List Event) (n e : ℕ) → nat_eq n e ≡ false → (desk_of e events).phase ≡ Running → (desk_of e (events ++ said (CloseEditor n) ∷ [])).phase ≡ Running
close_runs events n e other at = ap (λ (d : Desk). d.phase) (desk_more e events (said (CloseEditor n)) ∙ ap (λ b. if b then record { phase = phase_closed (desk_of e events).phase; initialize = (desk_of e events).initialize } else desk_of e events) other) ∙ at

put_all : (P : Ask → Type 0) (o : Option Asker) (e n : ℕ) → ((a : Asker) → o ≡ Some a → P (record { id = a.id; bytes = a.bytes; editor = e; number = n })) → AllByRecursion P (put o e n)
put_all P None e n f = tt
put_all P (Some a) e n f = (f a refl, tt)

pub up_ready : (stage : Stage) → is_up stage ≡ true → is_unready stage ≡ false → stage ≡ Ready
up_ready Ready up begun = refl
up_ready Unspawned up begun = never begun
up_ready Spawning up begun = never begun
up_ready Initializing up begun = never begun
up_ready Stopping up begun = never (sym up)
up_ready Ending up begun = never (sym up)
up_ready Ended up begun = never (sym up)

-- what was asked before keeps its seat in the entry
module _ (settings : Settings) (before : List Event) (facts : Facts settings before) (cause : Cause) (fits : fits_behind before cause ≡ true) where
  pub seat_now : (s : ℕ) (a : Ask) → HasSeat settings before s a → MidSeat settings before cause s a
  seat_now s a k = record {
    running = λ stays. took_runs settings before a.editor k.running cause fits (facts.steady).editors (off_both (ends_link settings before cause a.editor) (shuts cause a.editor) stays).1;
    ran = λ leaves. k.running;
    old = ap is_new k.running;
    group = k.group;
    home = k.home ∙ k.kept;
    last = k.last;
    ready = k.ready;
  }

-- a start that was ready or past it stays so
module _ (settings : Settings) (range : InRange settings) (before : List Event) (facts : Facts settings before) (cause : Cause) where
  not_back : (s : ℕ) (events : List Event) (event : Event) → Fresh is_unready unready_falls s (life_of s events) event → is_unready (life_of s events).stage ≡ false → is_unready (life_of s (events ++ event ∷ [])).stage ≡ false
  not_back s events event fresh begun = go (is_unready (life_of s (events ++ event ∷ [])).stage) refl
    where
      go : (b : Bool) → is_unready (life_of s (events ++ event ∷ [])).stage ≡ b → b ≡ false
      go true back = never (sym (falls_back is_unready unready_falls s (life_of s events) event fresh (sym (ap (λ (l : Life). is_unready l.stage) (life_more s events event)) ∙ back)) ∙ begun)
      go false still = refl

  fresh_cause : (cause : Cause) (s : ℕ) → Fresh is_unready unready_falls s (life_of s before) (heard cause)
  fresh_cause (Joined e) s = tt
  fresh_cause other s = tt

  fresh_out : (events : List Event) (out : Out) → Why settings before cause events out → Starts events → (s : ℕ) → Fresh is_unready unready_falls s (life_of s events) (said out)
  fresh_out events (Spawn n g) why none s = λ same. spawn_fresh is_unready refl events none s (subst (λ k. nat_eq k s ≡ true) why.0 same)
  fresh_out events (ToEditor e body) why none s = tt
  fresh_out events (ToServer n body) why none s = tt
  fresh_out events (CloseEditor e) why none s = tt
  fresh_out events (EndServer n) why none s = tt

  record Onward (events : List Event) : Type 0 where
    here : Here settings before cause events
    begun : (s : ℕ) → is_unready (life_of s before).stage ≡ false → is_unready (life_of s events).stage ≡ false

  onward_did : (events : List Event) (out : Out) → Why settings before cause events out → Onward events → Onward (events ++ said out ∷ [])
  onward_did events out why i = record {
    here = here_did settings range before cause facts events out why i.here;
    begun = λ s h. not_back s events (said out) (fresh_out events out why (((i.here).mid).steady).starts s) (i.begun s h);
  }

  pub onward_rests : fits_behind before cause ≡ true → (s : ℕ) → is_unready (life_of s before).stage ≡ false → is_unready (life_of s (behind (with_cause before cause) (outs_of settings before cause))).stage ≡ false
  onward_rests fits = (reasons_keep (λ events out. Why settings before cause events out) Onward onward_did (with_cause before cause) (outs_of settings before cause) (reasons settings range before facts cause).why
      (record { here = here_took settings range before cause fits facts; begun = λ s h. not_back s before (heard cause) (fresh_cause cause s) h })).begun

-- also where an editor that is slow leaves
pub onward_slow : (settings : Settings) (range : InRange settings) (place : List Event) → Facts settings place → (e : ℕ) → is_slow settings e place ≡ true → (s : ℕ) → is_unready (life_of s place).stage ≡ false → is_unready (life_of s (behind place (parting settings place e))).stage ≡ false
onward_slow settings range place facts e slow = (reasons_keep (Why settings place (quitting e)) (Onward settings range place facts (quitting e)) (onward_did settings range place facts (quitting e))
    place (parting settings place e) (parting_why settings range place facts e slow) (record { here = here_slow settings range place e facts; begun = λ s h. h })).begun

module _ (settings : Settings) (range : InRange settings) (before : List Event) (facts : Facts settings before) (lasts : AllLast before) (seats : AllSeats settings before) (cause : Cause) where
  abbrev Seat : ℕ → Ask → Type 0
  Seat s a = MidSeat settings before cause s a

  -- what is known at a place of the entry: who is asked has its seat
  pub record Inner (events : List Event) : Type 0 where
    pub here : Here settings before cause events
    pub seated : (s : ℕ) → AllByRecursion (Seat s) (asks_of settings s events)
    pub begun : (s : ℕ) → is_unready (life_of s before).stage ≡ false → is_unready (life_of s events).stage ≡ false
    pub runs : (e : ℕ) → leaves settings before cause e ≡ false → (desk_of e (with_cause before cause)).phase ≡ Running → (desk_of e events).phase ≡ Running

  inner_took : fits_behind before cause ≡ true → Inner (with_cause before cause)
  inner_took fits = record {
    here = here_took settings range before cause fits facts;
    seated = λ s. took_all settings (Seat s) s before cause (all_of (HasSeat settings before s) (Seat s) (λ a k. seat_now settings before facts cause fits s a k) (asks_of settings s before) (seats s));
    begun = λ s h. not_back settings range before facts cause s before (heard cause) (fresh_cause settings range before facts cause cause s) h;
    runs = λ e stays at. at;
  }

  -- one that is asked in this entry
  asked_seat : (events : List Event) (e : ℕ) (body : List ℕ) (k : IsAsk settings before cause events e body) (a : Asker) (n : ℕ) → Seat k.start (record { id = a.id; bytes = a.bytes; editor = e; number = n })
  asked_seat events e body k a n = record {
    running = λ stays. ap (λ c. (desk_of e (with_cause before c)).phase) (k.source).from ∙ (ap (λ (d : Desk). d.phase) (desk_more e before (heard (FromServer k.start k.asked))) ∙ k.ran);
    ran = λ leaves. k.ran;
    old = ap is_new k.ran;
    group = k.group;
    home = k.home;
    last = lasts k.start k.group k.kept (ap is_ended (k.source).ready);
    ready = (k.source).ready;
  }

  resumed_seat : (events : List Event) (e : ℕ) (body : List ℕ) (k : IsResumed settings before cause events e body) (id : Id) (bytes : List ℕ) (n : ℕ) → Seat k.start (record { id = id; bytes = bytes; editor = e; number = n })
  resumed_seat events e body k id bytes n = record {
    running = λ stays. k.began;
    ran = λ leaves. never (sym leaves ∙ k.stays);
    old = ap is_new k.waited;
    group = k.group;
    home = k.home;
    last = k.last;
    ready = k.ready;
  }

  resumed_more : (events : List Event) (e : ℕ) (body : List ℕ) → IsResumed settings before cause events e body → (s : ℕ) → AllByRecursion (Seat s) (asks_of settings s events) → AllByRecursion (Seat s) (asks_of settings s (events ++ said (ToEditor e body) ∷ []))
  resumed_more events e body k s h = go (nat_eq k.start s) refl
    where
      go : (b : Bool) → nat_eq k.start s ≡ b → AllByRecursion (Seat s) (asks_of settings s (events ++ said (ToEditor e body) ∷ []))
      go true same = subst (λ z. AllByRecursion (Seat z) (asks_of settings z (events ++ said (ToEditor e body) ∷ []))) (number_same k.start s same)
          (asks_more settings (Seat k.start) k.start events (said (ToEditor e body)) _ (ap (λ (x : Asking). x.asks) (resumed_here settings events e body before cause k))
          (all_join (Seat k.start) (asks_of settings k.start events) (taken settings events e body before cause k ∷ []) (subst (λ z. AllByRecursion (Seat z) (asks_of settings z events)) (sym (number_same k.start s same)) h)
          (resumed_seat events e body k (k.first).id (id_bytes (k.first).body) (next_ask e events), tt)))
      go false other = asks_more settings (Seat s) s events (said (ToEditor e body)) _ (ap (λ (x : Asking). x.asks) (resumed_off settings events e body before cause k s other)) h

  asked_more : (events : List Event) (e : ℕ) (body : List ℕ) → IsAsk settings before cause events e body → (s : ℕ) → AllByRecursion (Seat s) (asks_of settings s events) → AllByRecursion (Seat s) (asks_of settings s (events ++ said (ToEditor e body) ∷ []))
  asked_more events e body k s h = asks_more settings (Seat s) s events (said (ToEditor e body)) _ (listed settings events e body before cause k s)
      (all_join (Seat s) (asks_of settings s events) (put (if nat_eq k.start s then asker_of k.asked (message_of k.asked) else None) e (next_ask e events)) h (go (nat_eq k.start s) refl))
    where
      go : (b : Bool) → nat_eq k.start s ≡ b → AllByRecursion (Seat s) (put (if b then asker_of k.asked (message_of k.asked) else None) e (next_ask e events))
      go true same = put_all (Seat s) (asker_of k.asked (message_of k.asked)) e (next_ask e events)
          (λ a is. subst (λ z. Seat z (record { id = a.id; bytes = a.bytes; editor = e; number = next_ask e events })) (number_same k.start s same) (asked_seat events e body k a (next_ask e events)))
      go false other = tt

  told_seated : (events : List Event) (e : ℕ) (body : List ℕ) → WhyToEditor settings before cause events e body → (s : ℕ) → AllByRecursion (Seat s) (asks_of settings s events) → AllByRecursion (Seat s) (asks_of settings s (events ++ said (ToEditor e body) ∷ []))
  told_seated events e body (asks k) s h = asked_more events e body k s h
  told_seated events e body (resumes k) s h = resumed_more events e body k s h
  told_seated events e body (pays k) s h = asks_more settings (Seat s) s events (said (ToEditor e body)) _ (ap (λ (x : Asking). x.asks) (paid_made settings events e body before cause k s)) h
  told_seated events e body (calls k) s h = asks_more settings (Seat s) s events (said (ToEditor e body)) _ (ap (λ (x : Asking). x.asks) (registering_made settings events e body before cause k s)) h
  told_seated events e body (rejects k) s h = did_all settings (Seat s) s events (ToEditor e body) (ap is_question k.says) h
  told_seated events e body (refuses k) s h = did_all settings (Seat s) s events (ToEditor e body) (ap is_question k.says) h
  told_seated events e body (answers k) s h = did_all settings (Seat s) s events (ToEditor e body) (ap is_question k.says) h
  told_seated events e body (turns_away k) s h = did_all settings (Seat s) s events (ToEditor e body) (ap is_question k.says) h
  told_seated events e body (welcomes k) s h = did_all settings (Seat s) s events (ToEditor e body) (ap is_question k.says) h
  told_seated events e body (passes k) s h = did_all settings (Seat s) s events (ToEditor e body) (response_asks_none (message_of body) k.response) h
  told_seated events e body (spreads k) s h = did_all settings (Seat s) s events (ToEditor e body) (ap is_question k.says) h
  told_seated events e body (recalls k) s h = did_all settings (Seat s) s events (ToEditor e body) (ap is_question k.says) h
  told_seated events e body (progresses k) s h = did_all settings (Seat s) s events (ToEditor e body) (ap is_question k.says) h
  told_seated events e body (winds_up k) s h = did_all settings (Seat s) s events (ToEditor e body) (ap is_question k.says) h
  told_seated events e body (loses k) s h = did_all settings (Seat s) s events (ToEditor e body) (ap is_question k.says) h
  told_seated events e body (shows k) s h = did_all settings (Seat s) s events (ToEditor e body) (ap is_question k.says) h

  did_seated : (events : List Event) (out : Out) → Why settings before cause events out → (s : ℕ) → AllByRecursion (Seat s) (asks_of settings s events) → AllByRecursion (Seat s) (asks_of settings s (events ++ said out ∷ []))
  did_seated events (ToEditor e body) why s h = told_seated events e body why s h
  did_seated events (ToServer n body) why s h = did_all settings (Seat s) s events (ToServer n body) tt h
  did_seated events (Spawn n g) why s h = did_all settings (Seat s) s events (Spawn n g) tt h
  did_seated events (CloseEditor n) why s h = did_all settings (Seat s) s events (CloseEditor n) tt h
  did_seated events (EndServer n) why s h = did_all settings (Seat s) s events (EndServer n) tt h

  did_runs : (events : List Event) (out : Out) → Why settings before cause events out → (e : ℕ) → leaves settings before cause e ≡ false → (desk_of e events).phase ≡ Running → (desk_of e (events ++ said out ∷ [])).phase ≡ Running
  did_runs events (ToEditor n body) why e stays at = still_runs events n body e at
  did_runs events (ToServer n body) why e stays at = ap (λ (d : Desk). d.phase) (desk_more e events (said (ToServer n body))) ∙ at
  did_runs events (Spawn n g) why e stays at = ap (λ (d : Desk). d.phase) (desk_more e events (said (Spawn n g))) ∙ at
  did_runs events (EndServer n) why e stays at = ap (λ (d : Desk). d.phase) (desk_more e events (said (EndServer n))) ∙ at
  did_runs events (CloseEditor n) why e stays at = close_runs events n e (go (nat_eq n e) refl) at
    where
      go : (b : Bool) → nat_eq n e ≡ b → b ≡ false
      go true same = never (sym (subst (λ k. ends_link settings before cause k ≡ true) (number_same n e same) why.0) ∙ (off_both (ends_link settings before cause e) (shuts cause e) stays).0)
      go false other = refl

  inner_did : (events : List Event) (out : Out) → Why settings before cause events out → Inner events → Inner (events ++ said out ∷ [])
  inner_did events out why i = record {
    here = here_did settings range before cause facts events out why i.here;
    seated = λ s. did_seated events out why s (i.seated s);
    begun = λ s h. not_back settings range before facts cause s events (said out) (fresh_out settings range before facts cause events out why (((i.here).mid).steady).starts s) (i.begun s h);
    runs = λ e stays at. did_runs events out why e stays (i.runs e stays at);
  }

  pub inner_rests : fits_behind before cause ≡ true → Inner (behind (with_cause before cause) (outs_of settings before cause))
  inner_rests fits = reasons_keep (λ events out. Why settings before cause events out) Inner inner_did (with_cause before cause) (outs_of settings before cause) (reasons settings range before facts cause).why (inner_took fits)
