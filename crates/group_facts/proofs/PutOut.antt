-- The editors of a group that ends while it has editors (S3), and those that were shown other capabilities than a new start's (S2): behind the entry each of them is closed.
use Rattle.std.proofs.Common.{◌≡◌, ℕ, zero, suc, ◌+◌, ◌<◌, ◌≤◌, Bool, true, false, cond, ◌&&◌, ◌||◌, List, [], ◌∷◌, ◌++◌, filter, map, nat_eq, if◌then◌else◌, Option, Some, None, refl, sym, ◌∙◌, ap, ap₂, subst, append_assoc, append-nil, arith}
use Rattle.std.specs.List.{list_any, range_with_len}
use Rattle.std.specs.Option.{option_map_or}
use Rattle.std.proofs.lemmas.Bool.{and_parts}
use Rattle.mux_history.specs.declared.cause.Cause.TheVariants.{FromServer}
use Rattle.mux_history.specs.declared.out.Out.{Out}
use Rattle.mux_history.specs.declared.out.Out.TheVariants.{ToEditor, ToServer, Spawn, CloseEditor, EndServer}
use Rattle.rpc_message.specs.Message.{Message, request, notification, result, error, not_json, not_message, message_of}
use Rattle.rpc_message.specs.Texts.{initialized_text}
use Rattle.event_model.specs.declared.phase.Phase.{Phase}
use Rattle.event_model.specs.declared.phase.Phase.TheVariants.{Absent, New, Waiting, Answered, Running, Down, Closed, Gone}
use Rattle.event_model.specs.declared.stage.Stage.{Stage}
use Rattle.event_model.specs.declared.stage.Stage.TheVariants.{Initializing}
use Rattle.event_model.specs.Event.{Event, behind, heard, said, with_cause}
use Rattle.event_model.specs.Phases.{Desk, desk_of, editors_of, is_begun, is_waiting, phase_closed, phase_told}
use Rattle.event_model.specs.Row.{choose, each, nothing, outs, send, ◌⨾◌}
use Rattle.event_model.specs.Settings.{Settings}
use Rattle.event_model.specs.Spawns.{group_of}
use Rattle.event_model.specs.Stages.{is_first_result, is_initializing, life_of}
use Rattle.event_model.proofs.Frames.{never}
use Rattle.mux_facts.proofs.Editors.{Editors}
use Rattle.mux_facts.proofs.Folds.{desk_more, editors_more}
use Rattle.mux_facts.proofs.Keeps.{behind_both}
use Rattle.mux_facts.proofs.Table.{waiting_is}
use Rattle.mux_facts.proofs.Words.{number_same, same_number}
use Rattle.group_words.specs.Houses.{home_of, is_first_error, is_home}
use Rattle.group_words.proofs.Frames.{home_stays}
use Rattle.group_rows.specs.Asks.{members_in}
use Rattle.group_rows.specs.Earlier.{configure, differs, given_of, part_row, shown_in, was_shown}
use Rattle.group_rows.specs.Rows.{outs_of, refused_in, refusal, replay, result_in, send_held, waiting_in, welcome_all}
use Rattle.group_rows.specs.Waiting.{part, refuse_held}
use Rattle.group_facts.specs.Facts.{is_in, is_other, is_parted, is_put_out, is_refused, is_refusing, turned_away}
use Rattle.group_facts.specs.Lively.{is_unplaced}

-- Phases

pub begun_told : (phase : Phase) (initialize : List ℕ) (m : Message) → is_begun (phase_told phase initialize m) ≡ true → is_begun phase ≡ true
begun_told Waiting initialize m h = refl
begun_told Absent initialize m h = h
begun_told New initialize m h = h
begun_told Answered initialize m h = h
begun_told Running initialize m h = h
begun_told Down initialize m h = h
begun_told Closed initialize m h = h
begun_told Gone initialize m h = h

waiting_told : (initialize : List ℕ) (m : Message) → is_unplaced (phase_told Waiting initialize m) ≡ false
waiting_told initialize (result (Some id) r) = go _
  where
    go : (b : Bool) → is_unplaced (if b then Answered else Waiting) ≡ false
    go true = refl
    go false = refl
waiting_told initialize (result None r) = refl
waiting_told initialize (error id x) = refl
waiting_told initialize (request id method params) = refl
waiting_told initialize (notification method params) = refl
waiting_told initialize not_json = refl
waiting_told initialize not_message = refl

pub unplaced_told : (phase : Phase) (initialize : List ℕ) (m : Message) → is_unplaced (phase_told phase initialize m) ≡ true → is_unplaced phase ≡ true
unplaced_told Waiting initialize m h = never (sym h ∙ waiting_told initialize m)
unplaced_told Absent initialize m h = h
unplaced_told New initialize m h = h
unplaced_told Answered initialize m h = h
unplaced_told Running initialize m h = h
unplaced_told Down initialize m h = h
unplaced_told Closed initialize m h = h
unplaced_told Gone initialize m h = h

pub begun_closed : (phase : Phase) → is_begun (phase_closed phase) ≡ false
begun_closed Gone = refl
begun_closed other = refl

pub unplaced_closed : (phase : Phase) → is_unplaced (phase_closed phase) ≡ false
unplaced_closed Gone = refl
unplaced_closed other = refl

-- Behind outs

-- what held before each out, where it holds behind it, held before all
outs_back : (I : List Event → Type 0) → ((events : List Event) (out : Out) → I (events ++ said out ∷ []) → I events) → (events : List Event) (xs : List Out) → I (behind events xs) → I events
outs_back I back events [] h = subst I (append-nil events) h
outs_back I back events (x ∷ xs) h = back events x (outs_back I back (events ++ said x ∷ []) xs (subst I (sym (append_assoc events (said x ∷ []) (map said xs))) h))

module _ (test : Phase → Bool) (told : (phase : Phase) (initialize : List ℕ) (m : Message) → test (phase_told phase initialize m) ≡ true → test phase ≡ true) (closed : (phase : Phase) → test (phase_closed phase) ≡ false) (e : ℕ) where
  tested : (events : List Event) (out : Out) → test (desk_of e (events ++ said out ∷ [])).phase ≡ true → test (desk_of e events).phase ≡ true
  tested events (ToEditor n body) h = go (nat_eq n e) (sym (ap (λ (d : Desk). test d.phase) (desk_more e events (said (ToEditor n body)))) ∙ h)
    where
      go : (b : Bool) → test (if b then record { phase = phase_told (desk_of e events).phase (desk_of e events).initialize (message_of body); initialize = (desk_of e events).initialize } else desk_of e events).phase ≡ true → test (desk_of e events).phase ≡ true
      go true k = told (desk_of e events).phase (desk_of e events).initialize (message_of body) k
      go false k = k
  tested events (CloseEditor n) h = go (nat_eq n e) (sym (ap (λ (d : Desk). test d.phase) (desk_more e events (said (CloseEditor n)))) ∙ h)
    where
      go : (b : Bool) → test (if b then record { phase = phase_closed (desk_of e events).phase; initialize = (desk_of e events).initialize } else desk_of e events).phase ≡ true → test (desk_of e events).phase ≡ true
      go true k = never (sym k ∙ closed (desk_of e events).phase)
      go false k = k
  tested events (ToServer s body) h = sym (ap (λ (d : Desk). test d.phase) (desk_more e events (said (ToServer s body)))) ∙ h
  tested events (Spawn s g) h = sym (ap (λ (d : Desk). test d.phase) (desk_more e events (said (Spawn s g)))) ∙ h
  tested events (EndServer s) h = sym (ap (λ (d : Desk). test d.phase) (desk_more e events (said (EndServer s)))) ∙ h

  pub outs_tested : (events : List Event) (xs : List Out) → test (desk_of e (behind events xs)).phase ≡ true → test (desk_of e events).phase ≡ true
  outs_tested = outs_back (λ events. test (desk_of e events).phase ≡ true) tested

-- an editor that is in its group behind outs was in it before them, and one whose `initialize` didn't come
pub begun_outs : (e : ℕ) (events : List Event) (xs : List Out) → is_begun (desk_of e (behind events xs)).phase ≡ true → is_begun (desk_of e events).phase ≡ true
begun_outs e = outs_tested is_begun begun_told begun_closed e

pub unplaced_outs : (e : ℕ) (events : List Event) (xs : List Out) → is_unplaced (desk_of e (behind events xs)).phase ≡ true → is_unplaced (desk_of e events).phase ≡ true
unplaced_outs e = outs_tested is_unplaced unplaced_told unplaced_closed e

pub home_did : (settings : Settings) (e : ℕ) (events : List Event) (out : Out) → home_of settings e (events ++ said out ∷ []) ≡ home_of settings e events
home_did settings e events (ToEditor n body) = home_stays settings e events (said (ToEditor n body)) refl
home_did settings e events (ToServer s body) = home_stays settings e events (said (ToServer s body)) refl
home_did settings e events (Spawn s g) = home_stays settings e events (said (Spawn s g)) refl
home_did settings e events (CloseEditor n) = home_stays settings e events (said (CloseEditor n)) refl
home_did settings e events (EndServer s) = home_stays settings e events (said (EndServer s)) refl

pub homes_stay : (settings : Settings) (e : ℕ) (events : List Event) (xs : List Out) → home_of settings e (behind events xs) ≡ home_of settings e events
homes_stay settings e events [] = ap (home_of settings e) (append-nil events)
homes_stay settings e events (x ∷ xs) = ap (home_of settings e) (sym (append_assoc events (said x ∷ []) (map said xs))) ∙ homes_stay settings e (events ++ said x ∷ []) xs ∙ home_did settings e events x

editors_did : (events : List Event) (out : Out) → editors_of (events ++ said out ∷ []) ≡ editors_of events
editors_did events (ToEditor n body) = editors_more events (said (ToEditor n body))
editors_did events (ToServer s body) = editors_more events (said (ToServer s body))
editors_did events (Spawn s g) = editors_more events (said (Spawn s g))
editors_did events (CloseEditor n) = editors_more events (said (CloseEditor n))
editors_did events (EndServer s) = editors_more events (said (EndServer s))

editors_stay : (events : List Event) (xs : List Out) → editors_of (behind events xs) ≡ editors_of events
editors_stay events [] = ap editors_of (append-nil events)
editors_stay events (x ∷ xs) = ap editors_of (sym (append_assoc events (said x ∷ []) (map said xs))) ∙ editors_stay (events ++ said x ∷ []) xs ∙ editors_did events x

-- Links that are to be ended, one after the other

closed_now : (events : List Event) (n e : ℕ) → nat_eq n e ≡ true → is_begun (desk_of e (events ++ said (CloseEditor n) ∷ [])).phase ≡ false
closed_now events n e same = ap (λ (d : Desk). is_begun d.phase) (desk_more e events (said (CloseEditor n)))
    ∙ ap (λ b. is_begun (if b then record { phase = phase_closed (desk_of e events).phase; initialize = (desk_of e events).initialize } else desk_of e events).phase) same ∙ begun_closed (desk_of e events).phase

-- each of these is parted with
parted_now : (settings : Settings) (g n e : ℕ) (events : List Event) → nat_eq n e ≡ true → is_begun (desk_of e (behind events (outs (part settings g n) events))).phase ≡ false
parted_now settings g n e events same = ap (λ z. is_begun (desk_of e z).phase) (behind_both events (outs (refuse_held settings g n) events) (CloseEditor n ∷ [])) ∙ closed_now (behind events (outs (refuse_held settings g n) events)) n e same

all_closed : (settings : Settings) (g : ℕ) (es : List ℕ) (events : List Event) (e : ℕ) → list_any (λ n. nat_eq n e) es ≡ true → is_begun (desk_of e (behind events (outs (each (part settings g) es) events))).phase ≡ true → ⊥
all_closed settings g [] events e named h = absurd (cc)
all_closed settings g (n ∷ es) events e named h = go (nat_eq n e) refl (λ k. all_closed settings g es next e k later) named
  where
    next : List Event
    next = behind events (outs (part settings g n) events)

    later : is_begun (desk_of e (behind next (outs (each (part settings g) es) next))).phase ≡ true
    later = subst (λ z. is_begun (desk_of e z).phase ≡ true) (behind_both events (outs (part settings g n) events) (outs (each (part settings g) es) next)) h

    go : (b : Bool) → nat_eq n e ≡ b → (list_any (λ k. nat_eq k e) es ≡ true → ⊥) → (b || list_any (λ k. nat_eq k e) es) ≡ true → ⊥
    go true same rest k = never (sym (begun_outs e next (outs (each (part settings g) es) next) later) ∙ parted_now settings g n e events same)
    go false other rest k = rest k

pub named_in : (test : ℕ → Bool) (a n e : ℕ) → a ≤ e → e < a + n → test e ≡ true → list_any (λ k. nat_eq k e) (filter test (range_with_len a n)) ≡ true
named_in test a zero e low high h = absurd (omega (arith, low, high))
named_in test a (suc n) e low high h = go (test a) refl (λ up. named_in test (a + 1) n e up (omega (arith, high)) h)
  where
    past : (e ≡ a → ⊥) → a ≤ e → a + 1 ≤ e
    past g le = omega (arith, g, le)

    own : (b : Bool) → nat_eq a e ≡ b → (a + 1 ≤ e → list_any (λ k. nat_eq k e) (filter test (range_with_len (a + 1) n)) ≡ true) → (b || list_any (λ k. nat_eq k e) (filter test (range_with_len (a + 1) n))) ≡ true
    own true same f = refl
    own false other f = f (past (λ same. never (sym (ap (nat_eq a) same ∙ same_number a) ∙ other)) low)

    go : (b : Bool) → test a ≡ b → (a + 1 ≤ e → list_any (λ k. nat_eq k e) (filter test (range_with_len (a + 1) n)) ≡ true) → list_any (λ k. nat_eq k e) (cond b (a ∷ filter test (range_with_len (a + 1) n)) (filter test (range_with_len (a + 1) n))) ≡ true
    go true is f = own (nat_eq a e) refl f
    go false is f = f (past (λ same. never (sym h ∙ (ap test same ∙ is))) low)

-- A start refuses its `initialize`

pub no_result : (m : Message) → is_first_error m ≡ true → is_first_result m ≡ false
no_result (error id x) h = refl
no_result (result id r) h = absurd (cc)
no_result (request id method params) h = absurd (cc)
no_result (notification method params) h = absurd (cc)
no_result not_json h = absurd (cc)
no_result not_message h = absurd (cc)

initializing_is : (stage : Stage) → is_initializing stage ≡ true → stage ≡ Initializing
initializing_is Initializing h = refl
initializing_is other h = absurd (cc)

module _ (settings : Settings) (before : List Event) (s : ℕ) (body : List ℕ) where
  abbrev now : List Event
  now = with_cause before (FromServer s body)

  abbrev later : List Event
  later = behind now (outs_of settings before (FromServer s body))

  module _ (refuses : is_refusing before s (message_of body) ≡ true) (g : ℕ) (home : group_of s before ≡ Some g) where
    pub refused_outs : outs_of settings before (FromServer s body) ≡ outs (refused_in settings s body g) now
    refused_outs =
        let p = and_parts (is_first_error (message_of body)) (is_initializing (life_of s before).stage) refuses in
        rw (initializing_is (life_of s before).stage p.1, no_result (message_of body) p.0, p.0, home) refl

    abbrev errors : List Out
    errors = outs (each (refusal body) (waiting_in settings g now)) now

    abbrev mid : List Event
    mid = behind now errors

    abbrev closes : List Out
    closes = outs (each (part settings g) (members_in settings g mid)) mid

    module _ (absent : Editors before) (e : ℕ) (at_home : home_of settings e before ≡ Some g) where
      begun_before : is_begun (desk_of e mid).phase ≡ true → is_begun (desk_of e before).phase ≡ true
      begun_before h = sym (ap (λ (d : Desk). is_begun d.phase) (desk_more e before (heard (FromServer s body)))) ∙ begun_outs e now errors h

      joined_below : is_begun (desk_of e mid).phase ≡ true → e < 0 + editors_of mid
      joined_below h = let count : editors_of mid ≡ editors_of before = editors_stay now errors ∙ editors_more before (heard (FromServer s body)) in
          let known : editors_of before ≤ e → ⊥ = λ le. never (sym (begun_before h) ∙ ap is_begun (absent e le)) in omega (arith, count, known)

      home_mid : home_of settings e mid ≡ Some g
      home_mid = homes_stay settings e now errors ∙ home_stays settings e before (heard (FromServer s body)) refl ∙ at_home

      none_begun : is_begun (desk_of e (behind mid closes)).phase ≡ true → ⊥
      none_begun h =
          let here : is_begun (desk_of e mid).phase ≡ true = begun_outs e mid closes h in
          all_closed settings g (members_in settings g mid) mid e
          (named_in (λ n. is_begun (desk_of n mid).phase && is_home g (home_of settings n mid)) 0 (editors_of mid) e (omega arith) (joined_below here)
          (ap (λ b. b && is_home g (home_of settings e mid)) here ∙ (ap (is_home g) home_mid ∙ same_number g))) h

      ends_begun : (b : Bool) → is_begun (desk_of e later).phase ≡ b → b ≡ false
      ends_begun false h = refl
      ends_begun true h = absurd (none_begun (begun_outs e (behind mid closes) (EndServer s ∷ [])
          (subst (λ z. is_begun (desk_of e z).phase ≡ true) (behind_both mid closes (EndServer s ∷ []))
          (subst (λ z. is_begun (desk_of e z).phase ≡ true) (behind_both now errors (closes ++ EndServer s ∷ []))
          (subst (λ xs. is_begun (desk_of e (behind now xs)).phase ≡ true) refused_outs h)))))

  is_member : (e g : ℕ) → group_of s before ≡ Some g → is_in settings before s e ≡ true → home_of settings e before ≡ Some g
  is_member e g home h = go (home_of settings e before) refl (sym (ap (λ o. option_map_or (λ i. is_home i (home_of settings e before)) o false) home) ∙ h)
    where
      go : (o : Option ℕ) → home_of settings e before ≡ o → is_home g o ≡ true → o ≡ Some g
      go None at k = absurd (cc)
      go (Some i) at k = ap (λ n. Some n) (number_same i g k)

  pub refused_ends : Editors before → (e : ℕ) → is_refused settings before s body e ≡ true → is_begun (desk_of e later).phase ≡ false
  refused_ends absent e out =
      let p = and_parts (is_refusing before s (message_of body)) (is_begun (desk_of e before).phase && is_in settings before s e) out in
      let q = and_parts (is_begun (desk_of e before).phase) (is_in settings before s e) p.1 in
      go (group_of s before) refl p.0 q.1
    where
      go : (o : Option ℕ) → group_of s before ≡ o → is_refusing before s (message_of body) ≡ true → is_in settings before s e ≡ true → is_begun (desk_of e later).phase ≡ false
      go None none refuses member = never (sym member ∙ ap (λ o. option_map_or (λ i. is_home i (home_of settings e before)) o false) none)
      go (Some g) home refuses member = ends_begun refuses g home absent e (is_member e g home member) (is_begun (desk_of e later).phase) refl

  -- one that waits for the start is among them
  turned_begins : (e : ℕ) → turned_away settings before (FromServer s body) e ≡ true → is_refused settings before s body e ≡ true
  turned_begins e turned =
      let p = and_parts (is_refusing before s (message_of body)) (is_waiting (desk_of e before).phase && is_in settings before s e) turned in
      let q = and_parts (is_waiting (desk_of e before).phase) (is_in settings before s e) p.1 in
      ap₂ (λ a b. a && (b && is_in settings before s e)) p.0 (ap is_begun (waiting_is (desk_of e before).phase q.0)) ∙ q.1

  pub turned_ends : Editors before → (e : ℕ) → turned_away settings before (FromServer s body) e ≡ true → is_begun (desk_of e later).phase ≡ false
  turned_ends absent e turned = refused_ends absent e (turned_begins e turned)

  -- and its `initialize` came
  pub turned_placed : (e : ℕ) → turned_away settings before (FromServer s body) e ≡ true → is_unplaced (desk_of e later).phase ≡ true → ⊥
  turned_placed e turned h =
      let p = and_parts (is_refusing before s (message_of body)) (is_waiting (desk_of e before).phase && is_in settings before s e) turned in
      let q = and_parts (is_waiting (desk_of e before).phase) (is_in settings before s e) p.1 in
      never (sym (sym (ap (λ (d : Desk). is_unplaced d.phase) (desk_more e before (heard (FromServer s body)))) ∙ unplaced_outs e now (outs_of settings before (FromServer s body)) h) ∙ ap is_unplaced (waiting_is (desk_of e before).phase q.0))

  -- S2: one that was shown other capabilities
  module _ (first : is_first_result (message_of body) ≡ true) (stage : (life_of s before).stage ≡ Initializing) (g : ℕ) (home : group_of s before ≡ Some g) where
    pub result_sends : outs_of settings before (FromServer s body) ≡ outs (result_in settings before s body g) now
    result_sends = rw (stage, first, home) refl

    abbrev partings : List Out
    partings = outs (part_row settings before body g) now

    abbrev others : List Out
    others = outs (send (ToServer s initialized_text) ⨾ (configure settings before s g ⨾ (replay settings s g ⨾ (welcome_all settings body g ⨾ send_held settings s g)))) (behind now partings)

    module _ (other : differs (given_of g before) body ≡ true) (absent : Editors before) (e : ℕ) (at_home : home_of settings e before ≡ Some g) (shown : was_shown (desk_of e before).phase ≡ true) where
      all_parted : partings ≡ outs (each (part settings g) (shown_in settings g before)) now
      all_parted = ap (λ b. outs (choose b (each (part settings g) (shown_in settings g before)) nothing) now) other

      joined : e < 0 + editors_of before
      joined = let known : editors_of before ≤ e → ⊥ = λ le. never (sym shown ∙ ap was_shown (absent e le)) in omega (arith, known)

      none_parted : is_begun (desk_of e (behind now partings)).phase ≡ true → ⊥
      none_parted h = all_closed settings g (shown_in settings g before) now e
          (named_in (λ n. was_shown (desk_of n before).phase && is_home g (home_of settings n before)) 0 (editors_of before) e (omega arith) joined
          (ap (λ b. b && is_home g (home_of settings e before)) shown ∙ (ap (is_home g) at_home ∙ same_number g)))
          (subst (λ xs. is_begun (desk_of e (behind now xs)).phase ≡ true) all_parted h)

      parts_begun : (b : Bool) → is_begun (desk_of e later).phase ≡ b → b ≡ false
      parts_begun false h = refl
      parts_begun true h = absurd (none_parted (begun_outs e (behind now partings) others
          (subst (λ z. is_begun (desk_of e z).phase ≡ true) (behind_both now partings others) (subst (λ xs. is_begun (desk_of e (behind now xs)).phase ≡ true) result_sends h))))

  pub parted_ends : Editors before → (e : ℕ) → is_parted settings before s body e ≡ true → is_begun (desk_of e later).phase ≡ false
  parted_ends absent e out =
      let p = and_parts (is_other before s body) (was_shown (desk_of e before).phase && is_in settings before s e) out in
      let q = and_parts (was_shown (desk_of e before).phase) (is_in settings before s e) p.1 in
      let r = and_parts (is_initializing (life_of s before).stage) (is_first_result (message_of body) && option_map_or (λ g. differs (given_of g before) body) (group_of s before) false) p.0 in
      let t = and_parts (is_first_result (message_of body)) (option_map_or (λ g. differs (given_of g before) body) (group_of s before) false) r.1 in
      go (group_of s before) refl (initializing_is (life_of s before).stage r.0) t.0 t.1 q.0 q.1
    where
      go : (o : Option ℕ) → group_of s before ≡ o → (life_of s before).stage ≡ Initializing → is_first_result (message_of body) ≡ true → option_map_or (λ g. differs (given_of g before) body) (group_of s before) false ≡ true
          → was_shown (desk_of e before).phase ≡ true → is_in settings before s e ≡ true → is_begun (desk_of e later).phase ≡ false
      go None none stage first other shown member = never (sym member ∙ ap (λ o. option_map_or (λ i. is_home i (home_of settings e before)) o false) none)
      go (Some g) home stage first other shown member = parts_begun first stage g home (sym (ap (λ o. option_map_or (λ i. differs (given_of i before) body) o false) home) ∙ other) absent e (is_member e g home member) shown (is_begun (desk_of e later).phase) refl

  pub server_ends : Editors before → (e : ℕ) → is_put_out settings before (FromServer s body) e ≡ true → is_begun (desk_of e later).phase ≡ false
  server_ends absent e out = go (is_refused settings before s body e) refl out
    where
      go : (b : Bool) → is_refused settings before s body e ≡ b → (b || is_parted settings before s body e) ≡ true → is_begun (desk_of e later).phase ≡ false
      go true refused k = refused_ends absent e refused
      go false other k = parted_ends absent e k

-- one of two reasons
pub or_first : (a b : Bool) → a ≡ true → (a || b) ≡ true
or_first true b h = refl
or_first false b h = never (sym h)
