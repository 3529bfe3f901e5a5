-- An editor that leaves was asked nothing any more; so behind every entry each editor that a start asked has its seat.
use Rattle.std.proofs.Common.{◌≡◌, ℕ, Bool, true, false, ◌&&◌, List, [], ◌∷◌, ◌++◌, filter, map, nat_eq, codes, bytes_eq, Option, Some, None, ◌⊎◌, inl, inr, refl, sym, ◌∙◌, ap, subst, append_assoc, ◌||◌, append-nil}
use Rattle.std.specs.List.{AllByRecursion}
use Rattle.std.specs.Option.{option_map_or}
use Rattle.std.proofs.lemmas.Bool.{and_parts}
use Rattle.std.proofs.lemmas.Slice.Eq.{bytes_eq-Decides}
use Rattle.json_text.specs.Json.{Json}
use Rattle.lsp_method.specs.Class.{editor_request, goes_nowhere, own_notification, own_request}
use Rattle.mux_history.specs.declared.cause.Cause.{Cause}
use Rattle.mux_history.specs.declared.cause.Why as link
use Rattle.mux_history.specs.declared.cause.Cause.TheVariants.{Joined, FromEditor, EditorGone, StartFailed, FromServer, ServerGone}
use Rattle.mux_history.specs.declared.out.Out.{Out}
use Rattle.mux_history.specs.declared.out.Out.TheVariants.{ToEditor, ToServer, Spawn, CloseEditor, EndServer}
use Rattle.rpc_message.specs.Message.{Message, request, notification, result, error, not_json, not_message, Id, id_bytes, message_of}
use Rattle.rpc_message.specs.Texts.{ok_text}
use Rattle.event_model.specs.declared.phase.Phase.TheVariants.{Running}
use Rattle.event_model.specs.Event.{Event, behind, requests, notifies, said, with_cause}
use Rattle.event_model.specs.Phases.{desk_of, is_begun, is_new, is_running, is_waiting, is_there}
use Rattle.event_model.specs.Requests.{is_open, open_of}
use Rattle.event_model.specs.Row.{outs, on, nothing}
use Rattle.event_model.specs.Settings.{Settings}
use Rattle.event_model.specs.Spawns.{group_of, start_of}
use Rattle.event_model.specs.Stages.{is_initializing, life_of}
use Rattle.event_model.proofs.Frames.{never}
use Rattle.mux_model.specs.Fits.{fits_behind}
use Rattle.mux_facts.specs.Ranges.{InRange}
use Rattle.mux_facts.proofs.Lists.{all_of, all_join}
use Rattle.mux_facts.proofs.Reasons.{reasons_keep}
use Rattle.mux_facts.proofs.Words.{number_same, same_number}
use Rattle.group_words.specs.Houses.{groups_of, home_of, is_doubled, is_first_error, is_home, placed_for, places, stops}
use Rattle.group_rows.specs.Asks.{Ask, Asking, asks_of, is_with}
use Rattle.group_rows.specs.Earlier.{was_shown}
use Rattle.group_rows.specs.ExitRows.{ends_group}
use Rattle.group_rows.specs.Leaves.{leave_row}
use Rattle.group_rows.specs.Rows.{closing_row, from_editor, gone_row, outs_of, shutdown_row}
use Rattle.group_facts.specs.Facts.{ends_with, is_exit, is_in, is_other, is_parted, is_parting, is_refused, is_refusing, is_too_many, is_unready, ends_link, leaves, shuts, turned_away, is_crowded, is_put_out, AllHeld}
use Rattle.group_facts.specs.Lively.{Lively}
use Rattle.group_facts.specs.Settled.{HasSeat, is_answered}
use Rattle.group_facts.specs.Why.{Why, WhyToEditor, answers, asks, calls, loses, winds_up, passes, progresses, recalls, refuses, rejects, resumes, shows, spreads, turns_away, welcomes, pays}
use Rattle.group_facts.proofs.Asks.{is_question, registering_made, response_asks_none}
use Rattle.group_facts.proofs.AskEntries.{AllSeats, Inner, inner_rests, off_both, on_either, seat_now, up_ready}
use Rattle.group_facts.proofs.AskRest.{all_pending, leave_clean, none_with, seat_home}
use Rattle.group_facts.proofs.AskSeats.{Away, MidSeat, Pending, Unsaid, asks_more, did_all, took_all}
use Rattle.group_facts.proofs.AskingRows.{running_is}
use Rattle.group_facts.proofs.Begun.{Begun}
use Rattle.group_facts.proofs.ExitEntry.{Exit, exit_by, failed_exit, gone_exit}
use Rattle.group_facts.proofs.Facts.{Facts}
use Rattle.group_facts.proofs.Forwards.{zip_all}
use Rattle.group_facts.proofs.Homes.{took_home}
use Rattle.group_facts.proofs.Lively.{up_of}
use Rattle.group_facts.proofs.Nulls.{null_said}
use Rattle.group_facts.proofs.LastStarts.{AllLast, alive_exit, alive_initializing, start_kept}
use Rattle.group_facts.proofs.PutOut.{homes_stay}
use Rattle.group_facts.proofs.Table.{reasons}
use Rattle.group_rows.specs.StopRows.{stopped, lose_waiting}
use Rattle.group_facts.proofs.Quits.{one_of}
use Rattle.group_facts.proofs.StopEntry.{before_on, unstopped}
use Rattle.group_rows.specs.Waiting.{refuse_held}
use Rattle.mux_facts.proofs.Keeps.{behind_both}
use Rattle.group_facts.proofs.Held.{refusals_are}
use Rattle.group_facts.proofs.HeldOn.{held_heard}
use Rattle.group_rows.proofs.DebtsKept.{forth_doubled, forth_exit, forth_shutdown, off_forth, whole_off}
use Rattle.group_rows.specs.Debts.{goes_forth}

the : {v w : ℕ} → ◌≡◌ {A = Option ℕ} (Some v) (Some w) → v ≡ w
the e = cc

-- the refusals of what waits ask nothing
lose_unsaid : (settings : Settings) (before : List Event) (n : ℕ) (events : List Event) → AllHeld settings events → AllByRecursion Unsaid (outs (lose_waiting settings before n) events)
lose_unsaid settings before n events held = go (home_of settings n before)
  where
    go : (o : Option ℕ) → AllByRecursion Unsaid (outs (on o nothing (λ g. refuse_held settings g n)) events)
    go None = tt
    go (Some g) = refusals_are settings Unsaid (λ k text id x says. ap is_question says) g n events held

-- What a message of an editor that runs gives, where the editor leaves

module _ (settings : Settings) (before : List Event) (n : ℕ) (body : List ℕ) where
  abbrev now : List Event
  now = with_cause before (FromEditor n body)

  doubled_outs : (m : Message) → is_doubled before n m ≡ true → outs (from_editor settings before n body m Running) now ≡ outs (closing_row settings before n) now
  doubled_outs (request id method params) h = rw h refl
  doubled_outs (notification method params) h = never (sym h)
  doubled_outs (result id r) h = never (sym h)
  doubled_outs (error id x) h = never (sym h)
  doubled_outs not_json h = never (sym h)
  doubled_outs not_message h = never (sym h)

  exit_outs : (m : Message) → notifies (codes "exit") m ≡ true → outs (from_editor settings before n body m Running) now ≡ outs (closing_row settings before n) now
  exit_outs (notification method params) h = rw h refl
  exit_outs (request id method params) h = never (sym h)
  exit_outs (result id r) h = never (sym h)
  exit_outs (error id x) h = never (sym h)
  exit_outs not_json h = never (sym h)
  exit_outs not_message h = never (sym h)

  named_outs : (id : Id) (params : Option Json) → is_open id (open_of n before) ≡ false → outs (from_editor settings before n body (request id (codes "shutdown") params) Running) now ≡ outs (shutdown_row settings before n body) now
  unfolding editor_request own_request own_notification goes_nowhere
  named_outs id params fresh = rw fresh refl

  shut_outs : (id : Id) (method : List ℕ) (params : Option Json) → bytes_eq (codes "shutdown") method ≡ true → is_open id (open_of n before) ≡ false → outs (from_editor settings before n body (request id method params) Running) now ≡ outs (shutdown_row settings before n body) now
  shut_outs id method params is fresh = subst (λ z. outs (from_editor settings before n body (request id z params) Running) now ≡ outs (shutdown_row settings before n body) now) ((bytes_eq-Decides (codes "shutdown") method).0 is) (named_outs id params fresh)

module _ (settings : Settings) (range : InRange settings) (before : List Event) (facts : Facts settings before) (lasts : AllLast before) (seats : AllSeats settings before) where
  abbrev later : Cause → List Event
  later cause = behind (with_cause before cause) (outs_of settings before cause)

  -- none of an editor that leaves and didn't run
  unrun_away : (cause : Cause) (e s : ℕ) (xs : List Ask) → AllByRecursion (MidSeat settings before cause s) xs → leaves settings before cause e ≡ true → is_running (desk_of e before).phase ≡ false → AllByRecursion (Away e) xs
  unrun_away cause e s xs h left off = none_with settings before cause e s xs h (λ a k same. never (sym (ap (λ i. is_running (desk_of i before).phase) (sym same) ∙ ap is_running (k.ran (ap (leaves settings before cause) same ∙ left))) ∙ off))

  -- those that were asked before the entry have their seats in it
  seats_in : (cause : Cause) → fits_behind before cause ≡ true → (s : ℕ) → AllByRecursion (MidSeat settings before cause s) (asks_of settings s before)
  seats_in cause fits s = all_of (HasSeat settings before s) (MidSeat settings before cause s) (λ a k. seat_now settings before facts cause fits s a k) (asks_of settings s before) (seats s)

  -- where the row is an out and the leave
  module _ (n : ℕ) (body : List ℕ) (fits : fits_behind before (FromEditor n body) ≡ true) (on : stops before n (message_of body) ≡ false) where
    -- no other one is turned away or put out
    crowded : (e : ℕ) → turned_away settings before (FromEditor n body) e ≡ true → is_crowded settings before n body e ≡ true
    crowded e t = go (one_of (is_crowded settings before n body e) (stops before n (message_of body) && is_waiting (desk_of e before).phase) t)
      where
        go : (is_crowded settings before n body e ≡ true) ⊎ ((stops before n (message_of body) && is_waiting (desk_of e before).phase) ≡ true) → is_crowded settings before n body e ≡ true
        go (inl many) = many
        go (inr stop) = never (sym (and_parts (stops before n (message_of body)) (is_waiting (desk_of e before).phase) stop).0 ∙ on)

    parts_own : (e : ℕ) → ((nat_eq n e && is_parting before n (message_of body)) || is_put_out settings before (FromEditor n body) e) ≡ true → (nat_eq n e && is_parting before n (message_of body)) ≡ true
    parts_own e t = go (one_of (nat_eq n e && is_parting before n (message_of body)) (is_put_out settings before (FromEditor n body) e) t)
      where
        go : ((nat_eq n e && is_parting before n (message_of body)) ≡ true) ⊎ (is_put_out settings before (FromEditor n body) e ≡ true) → (nat_eq n e && is_parting before n (message_of body)) ≡ true
        go (inl parts) = parts
        go (inr stop) = never (sym (and_parts (stops before n (message_of body)) (is_there (desk_of e before).phase) stop).0 ∙ on)

    abbrev heard_now : List Event
    heard_now = with_cause before (FromEditor n body)

    unsaid_all : (P : Ask → Type 0) (t : ℕ) (events : List Event) (xs : List Out) → AllByRecursion Unsaid xs → AllByRecursion P (asks_of settings t events) → AllByRecursion P (asks_of settings t (behind events xs))
    unsaid_all P t events [] none h = subst (λ z. AllByRecursion P (asks_of settings t z)) (sym (append-nil events)) h
    unsaid_all P t events (x ∷ xs) none h = subst (λ z. AllByRecursion P (asks_of settings t z)) (append_assoc events (said x ∷ []) (map said xs)) (unsaid_all P t (events ++ said x ∷ []) xs none.1 (did_all settings P t events x none.0 h))

    parted : (xs : List Out) → AllByRecursion Unsaid xs → outs_of settings before (FromEditor n body) ≡ xs ++ outs (leave_row settings before n) (behind heard_now xs) → (s : ℕ) → AllByRecursion (Away n) (asks_of settings s (later (FromEditor n body)))
    parted xs none is s = subst (λ z. AllByRecursion (Away n) (asks_of settings s (behind heard_now z))) (sym is)
        (subst (λ z. AllByRecursion (Away n) (asks_of settings s z)) (sym (behind_both heard_now xs (outs (leave_row settings before n) (behind heard_now xs))))
        (leave_clean settings before (FromEditor n body) (facts.steady).asks n (behind heard_now xs)
        (λ t. unsaid_all (MidSeat settings before (FromEditor n body) t) t heard_now xs none (took_all settings (MidSeat settings before (FromEditor n body) t) t before (FromEditor n body) (seats_in (FromEditor n body) fits t)))
        (λ t. unsaid_all (Pending n (filter (is_with n) (asks_of settings t before))) t heard_now xs none (took_all settings (Pending n (filter (is_with n) (asks_of settings t before))) t before (FromEditor n body) (all_pending n (asks_of settings t before)))) s))

    -- behind the refusals of what waits
    abbrev lost : List Out
    lost = outs (lose_waiting settings before n) heard_now

    lost_unsaid : AllByRecursion Unsaid lost
    lost_unsaid = lose_unsaid settings before n heard_now (held_heard settings before n body facts.quit (facts.steady).asked (facts.steady).held)

    abbrev done : Out
    done = ToEditor n (ok_text (id_bytes body) (codes "null"))

    shutdown_is : outs (shutdown_row settings before n body) heard_now ≡ (lost ++ done ∷ []) ++ outs (leave_row settings before n) (behind heard_now (lost ++ done ∷ []))
    shutdown_is = sym (append_assoc lost (done ∷ []) (outs (leave_row settings before n) (behind (behind heard_now lost) (done ∷ []))))
        ∙ ap (λ z. (lost ++ done ∷ []) ++ outs (leave_row settings before n) z) (sym (behind_both heard_now lost (done ∷ [])))

    module _ (at : (desk_of n before).phase ≡ Running) where
      row_is : ((s : ℕ) → goes_forth settings s before n body (message_of body) ≡ false) → outs_of settings before (FromEditor n body) ≡ outs (from_editor settings before n body (message_of body) Running) (with_cause before (FromEditor n body))
      row_is off = whole_off settings before n body (off_forth settings before n body (message_of body) off) ∙ ap (λ p. outs (from_editor settings before n body (message_of body) p) (with_cause before (FromEditor n body))) at

      closed_away : ((s : ℕ) → goes_forth settings s before n body (message_of body) ≡ false) → outs (from_editor settings before n body (message_of body) Running) (with_cause before (FromEditor n body)) ≡ outs (closing_row settings before n) (with_cause before (FromEditor n body)) → (s : ℕ) → AllByRecursion (Away n) (asks_of settings s (later (FromEditor n body)))
      closed_away off is = parted (CloseEditor n ∷ []) (tt, tt) (row_is off ∙ is)

      shut_away : (m : Message) → message_of body ≡ m → requests (codes "shutdown") m ≡ true → (s : ℕ) → AllByRecursion (Away n) (asks_of settings s (later (FromEditor n body)))
      shut_away (request id method params) says h = go (is_open id (open_of n before)) refl
        where
          go : (b : Bool) → is_open id (open_of n before) ≡ b → (s : ℕ) → AllByRecursion (Away n) (asks_of settings s (later (FromEditor n body)))
          go true twice = let again = ap (is_doubled before n) says ∙ twice in closed_away (forth_doubled settings before n body (message_of body) again) (doubled_outs settings before n body (message_of body) again)
          go false fresh = parted (lost ++ done ∷ []) (all_join Unsaid lost (done ∷ []) lost_unsaid (ap is_question (null_said body id method params says), tt))
              (row_is (forth_shutdown settings before n body (message_of body) (ap (requests (codes "shutdown")) says ∙ h)) ∙ (ap (λ m. outs (from_editor settings before n body m Running) (with_cause before (FromEditor n body))) says ∙ (shut_outs settings before n body id method params h fresh ∙ shutdown_is)))
      shut_away (notification method params) says h = never (sym h)
      shut_away (result id r) says h = never (sym h)
      shut_away (error id x) says h = never (sym h)
      shut_away not_json says h = never (sym h)
      shut_away not_message says h = never (sym h)

      parting_away : is_parting before n (message_of body) ≡ true → (s : ℕ) → AllByRecursion (Away n) (asks_of settings s (later (FromEditor n body)))
      parting_away parts = go (on_either (notifies (codes "exit") (message_of body)) (is_doubled before n (message_of body)) parts)
        where
          go : (notifies (codes "exit") (message_of body) ≡ true) ⊎ (is_doubled before n (message_of body) ≡ true) → (s : ℕ) → AllByRecursion (Away n) (asks_of settings s (later (FromEditor n body)))
          go (inl is) = closed_away (forth_exit settings before n body (message_of body) is) (exit_outs settings before n body (message_of body) is)
          go (inr twice) = closed_away (forth_doubled settings before n body (message_of body) twice) (doubled_outs settings before n body (message_of body) twice)

      own_away : (e : ℕ) → leaves settings before (FromEditor n body) e ≡ true → (s : ℕ) → AllByRecursion (Away n) (asks_of settings s (later (FromEditor n body)))
      own_away e h = go (on_either (ends_link settings before (FromEditor n body) e) (shuts (FromEditor n body) e) h)
        where
          turned : turned_away settings before (FromEditor n body) e ≡ true → (s : ℕ) → AllByRecursion (Away n) (asks_of settings s (later (FromEditor n body)))
          turned t = let p = and_parts (nat_eq n e) (places (desk_of n before).phase (message_of body) && is_too_many (placed_for settings before n body (groups_of settings before))) (crowded e t) in
              let q = and_parts (places (desk_of n before).phase (message_of body)) (is_too_many (placed_for settings before n body (groups_of settings before))) p.1 in
              never (sym q.0 ∙ ap (λ p. is_new p && requests (codes "initialize") (message_of body)) at)

          ending : (turned_away settings before (FromEditor n body) e ≡ true) ⊎ (((nat_eq n e && is_parting before n (message_of body)) || is_put_out settings before (FromEditor n body) e) ≡ true) → (s : ℕ) → AllByRecursion (Away n) (asks_of settings s (later (FromEditor n body)))
          ending (inl t) = turned t
          ending (inr p) = parting_away (and_parts (nat_eq n e) (is_parting before n (message_of body)) (parts_own e p)).1

          go : (ends_link settings before (FromEditor n body) e ≡ true) ⊎ (shuts (FromEditor n body) e ≡ true) → (s : ℕ) → AllByRecursion (Away n) (asks_of settings s (later (FromEditor n body)))
          go (inl ends) = ending (on_either (turned_away settings before (FromEditor n body) e) ((nat_eq n e && is_parting before n (message_of body)) || is_put_out settings before (FromEditor n body) e) ends)
          go (inr shut) = shut_away (message_of body) refl (and_parts (nat_eq n e) (requests (codes "shutdown") (message_of body)) shut).1

    -- it is the editor of the message that leaves
    leaves_itself : (e : ℕ) → leaves settings before (FromEditor n body) e ≡ true → n ≡ e
    leaves_itself e h = number_same n e (go (on_either (ends_link settings before (FromEditor n body) e) (shuts (FromEditor n body) e) h))
      where
        ending : (turned_away settings before (FromEditor n body) e ≡ true) ⊎ (((nat_eq n e && is_parting before n (message_of body)) || is_put_out settings before (FromEditor n body) e) ≡ true) → nat_eq n e ≡ true
        ending (inl t) = (and_parts (nat_eq n e) (places (desk_of n before).phase (message_of body) && is_too_many (placed_for settings before n body (groups_of settings before))) (crowded e t)).0
        ending (inr p) = (and_parts (nat_eq n e) (is_parting before n (message_of body)) (parts_own e p)).0

        go : (ends_link settings before (FromEditor n body) e ≡ true) ⊎ (shuts (FromEditor n body) e ≡ true) → nat_eq n e ≡ true
        go (inl ends) = ending (on_either (turned_away settings before (FromEditor n body) e) ((nat_eq n e && is_parting before n (message_of body)) || is_put_out settings before (FromEditor n body) e) ends)
        go (inr shut) = (and_parts (nat_eq n e) (requests (codes "shutdown") (message_of body)) shut).0

  gone_away : (n : ℕ) (why : link.Why) → fits_behind before (EditorGone n why) ≡ true → (desk_of n before).phase ≡ Running → (s : ℕ) → AllByRecursion (Away n) (asks_of settings s (later (EditorGone n why)))
  gone_away n why fits at s = subst (λ xs. AllByRecursion (Away n) (asks_of settings s (behind (with_cause before (EditorGone n why)) xs))) (sym (ap (λ p. outs (gone_row settings before n p) (with_cause before (EditorGone n why))) at))
      (leave_clean settings before (EditorGone n why) (facts.steady).asks n (with_cause before (EditorGone n why)) (λ t. took_all settings (MidSeat settings before (EditorGone n why) t) t before (EditorGone n why) (seats_in (EditorGone n why) fits t))
      (λ t. took_all settings (Pending n (filter (is_with n) (asks_of settings t before))) t before (EditorGone n why) (all_pending n (asks_of settings t before))) s)

  -- S2 and S3: no start that gave no result asked
  refused_none : (t : ℕ) (body : List ℕ) (e : ℕ) → leaves settings before (FromServer t body) e ≡ true → (s : ℕ) (a : Ask) → MidSeat settings before (FromServer t body) s a → a.editor ≡ e → ⊥
  refused_none t body e h s a k same = go (on_either (ends_link settings before (FromServer t body) e) false h)
    where
      in_group : (o : Option ℕ) → group_of t before ≡ o → option_map_or (λ g. is_home g (home_of settings e before)) o false ≡ true → group_of t before ≡ Some k.group
      in_group None none is = never (sym is)
      in_group (Some g) at is = at ∙ ap (λ i. Some i) (sym (number_same k.group g (sym (ap (is_home g) (seat_home settings before (FromServer t body) s a k e same)) ∙ is)))

      asked_none : is_initializing (life_of t before).stage ≡ true → is_in settings before t e ≡ true → ⊥
      asked_none waits member =
          let is : s ≡ t = the (sym k.last ∙ lasts t k.group (in_group (group_of t before) refl member) (alive_initializing (life_of t before).stage waits)) in
          never (sym waits ∙ (ap (λ i. is_initializing (life_of i before).stage) (sym is) ∙ ap is_initializing k.ready))

      refused_or_parted : (is_refused settings before t body e ≡ true) ⊎ (is_parted settings before t body e ≡ true) → ⊥
      refused_or_parted (inl out) =
          let p = and_parts (is_refusing before t (message_of body)) (is_begun (desk_of e before).phase && is_in settings before t e) out in
          asked_none (and_parts (is_first_error (message_of body)) (is_initializing (life_of t before).stage) p.0).1 (and_parts (is_begun (desk_of e before).phase) (is_in settings before t e) p.1).1
      refused_or_parted (inr out) =
          let p = and_parts (is_other before t body) (was_shown (desk_of e before).phase && is_in settings before t e) out in
          asked_none (and_parts (is_initializing (life_of t before).stage) _ p.0).0 (and_parts (was_shown (desk_of e before).phase) (is_in settings before t e) p.1).1

      go : (ends_link settings before (FromServer t body) e ≡ true) ⊎ (false ≡ true) → ⊥
      go (inl ends) = refused_or_parted (on_either (is_refused settings before t body e) (is_parted settings before t body e) ends)
      go (inr off) = never (sym off)

  abbrev None_at : Ask → Type 0
  None_at a = ⊥

  -- X3: an editor of the group of a start that ends was asked by that start alone, whose asks are over
  module _ (cause : Cause) (t : ℕ) (exit : Exit settings before cause t) (fits : fits_behind before cause ≡ true) where
    the_start : (e s : ℕ) (a : Ask) → is_put_out settings before cause e ≡ true → MidSeat settings before cause s a → a.editor ≡ e → s ≡ t
    the_start e s a out k same =
        let p = and_parts (ends_with settings before t e) (is_begun (desk_of e before).phase) (sym (exit.out e) ∙ out) in
        let q = and_parts (ends_group settings before t) (is_in settings before t e) p.0 in
        the (sym k.last ∙ lasts t k.group (in_group (group_of t before) refl q.1) (alive_exit before cause t exit.is fits))
      where
        in_group : (o : Option ℕ) → group_of t before ≡ o → option_map_or (λ g. is_home g (home_of settings e before)) o false ≡ true → group_of t before ≡ Some k.group
        in_group None none is = never (sym is)
        in_group (Some g) at is = at ∙ ap (λ i. Some i) (sym (number_same k.group g (sym (ap (is_home g) (seat_home settings before cause s a k e same)) ∙ is)))

    -- that start asks nothing more
    none_told : (events : List Event) (e : ℕ) (body : List ℕ) → WhyToEditor settings before cause events e body → AllByRecursion None_at (asks_of settings t events) → AllByRecursion None_at (asks_of settings t (events ++ said (ToEditor e body) ∷ []))
    none_told events e body (asks k) h = never (sym (ap (λ c. is_exit c t) (sym (k.source).from) ∙ exit.is))
    none_told events e body (resumes k) h = never (sym (ap (λ c. is_exit c t) (sym k.from) ∙ exit.is))
    none_told events e body (pays k) h = never (sym (ap (λ c. is_exit c t) (sym k.from) ∙ exit.is))
    none_told events e body (calls k) h = asks_more settings None_at t events (said (ToEditor e body)) _ (ap (λ (x : Asking). x.asks) (registering_made settings events e body before cause k t)) h
    none_told events e body (rejects k) h = did_all settings None_at t events (ToEditor e body) (ap is_question k.says) h
    none_told events e body (refuses k) h = did_all settings None_at t events (ToEditor e body) (ap is_question k.says) h
    none_told events e body (answers k) h = did_all settings None_at t events (ToEditor e body) (ap is_question k.says) h
    none_told events e body (turns_away k) h = did_all settings None_at t events (ToEditor e body) (ap is_question k.says) h
    none_told events e body (welcomes k) h = did_all settings None_at t events (ToEditor e body) (ap is_question k.says) h
    none_told events e body (passes k) h = did_all settings None_at t events (ToEditor e body) (response_asks_none (message_of body) k.response) h
    none_told events e body (spreads k) h = did_all settings None_at t events (ToEditor e body) (ap is_question k.says) h
    none_told events e body (recalls k) h = did_all settings None_at t events (ToEditor e body) (ap is_question k.says) h
    none_told events e body (progresses k) h = did_all settings None_at t events (ToEditor e body) (ap is_question k.says) h
    none_told events e body (shows k) h = did_all settings None_at t events (ToEditor e body) (ap is_question k.says) h
    none_told events e body (loses k) h = did_all settings None_at t events (ToEditor e body) (ap is_question k.says) h
    none_told events e body (winds_up k) h = did_all settings None_at t events (ToEditor e body) (ap is_question k.says) h

    none_did : (events : List Event) (out : Out) → Why settings before cause events out → AllByRecursion None_at (asks_of settings t events) → AllByRecursion None_at (asks_of settings t (events ++ said out ∷ []))
    none_did events (ToEditor e body) why h = none_told events e body why h
    none_did events (ToServer n body) why h = did_all settings None_at t events (ToServer n body) tt h
    none_did events (Spawn n g) why h = did_all settings None_at t events (Spawn n g) tt h
    none_did events (CloseEditor n) why h = did_all settings None_at t events (CloseEditor n) tt h
    none_did events (EndServer n) why h = did_all settings None_at t events (EndServer n) tt h

    none_later : AllByRecursion None_at (asks_of settings t (later cause))
    none_later = reasons_keep (λ events out. Why settings before cause events out) (λ events. AllByRecursion None_at (asks_of settings t events)) none_did (with_cause before cause) (outs_of settings before cause) (reasons settings range before facts cause).why
        (subst (AllByRecursion None_at) (sym exit.unasked) tt)

  module _ (begun : Begun settings before) (cause : Cause) (fits : fits_behind before cause ≡ true) (goes_on : stopped (later cause) ≡ false) where
    inside : Inner settings range before facts lasts seats cause (later cause)
    inside = inner_rests settings range before facts lasts seats cause fits

    abbrev AllAway : ℕ → Type 0
    AllAway e = (s : ℕ) → AllByRecursion (Away e) (asks_of settings s (later cause))

    joined_leaves : (n e : ℕ) → leaves settings before (Joined n) e ≡ true → (nat_eq n e && stopped before) ≡ true
    joined_leaves n e h = go (one_of (nat_eq n e && stopped before) false h)
      where
        go : ((nat_eq n e && stopped before) ≡ true) ⊎ (false ≡ true) → (nat_eq n e && stopped before) ≡ true
        go (inl k) = k
        go (inr k) = never (sym k)

    put_out_by : (b : Bool) → (b || false) ≡ true → b ≡ true
    put_out_by true h = refl
    put_out_by false h = h

    exit_away : (t : ℕ) → Exit settings before cause t → (e : ℕ) → is_put_out settings before cause e ≡ true → AllAway e
    exit_away t exit e out s = go (nat_eq t s) refl
      where
        go : (b : Bool) → nat_eq t s ≡ b → AllByRecursion (Away e) (asks_of settings s (later cause))
        go true same = subst (λ k. AllByRecursion (Away e) (asks_of settings k (later cause))) (number_same t s same) (all_of None_at (Away e) (λ a k. absurd k) (asks_of settings t (later cause)) (none_later cause t exit fits))
        go false other = none_with settings before cause e s (asks_of settings s (later cause)) (inside.seated s) (λ a k same. never (sym (ap (nat_eq t) (the_start cause t exit fits e s a out k same) ∙ same_number t) ∙ other))

    by_cause : (c : Cause) → cause ≡ c → (e : ℕ) → leaves settings before c e ≡ true → is_running (desk_of e before).phase ≡ true → AllAway e
    by_cause (FromEditor n body) is e h runs = subst (λ c. (s : ℕ) → AllByRecursion (Away e) (asks_of settings s (later c))) (sym is)
        (let on : stops before n (message_of body) ≡ false = unstopped before n body (outs_of settings before (FromEditor n body)) (ap (λ c. stopped (later c)) (sym is) ∙ goes_on) in
        let same : n ≡ e = leaves_itself n body (ap (fits_behind before) (sym is) ∙ fits) on e h in subst (λ k. (s : ℕ) → AllByRecursion (Away k) (asks_of settings s (later (FromEditor n body)))) same
        (own_away n body (ap (fits_behind before) (sym is) ∙ fits) on (running_is settings before (desk_of n before).phase (ap (λ k. is_running (desk_of k before).phase) same ∙ runs)) e h))
    by_cause (EditorGone n why) is e h runs = subst (λ c. (s : ℕ) → AllByRecursion (Away e) (asks_of settings s (later c))) (sym is)
        (let same : n ≡ e = number_same n e h in subst (λ k. (s : ℕ) → AllByRecursion (Away k) (asks_of settings s (later (EditorGone n why)))) same
        (gone_away n why (ap (fits_behind before) (sym is) ∙ fits) (running_is settings before (desk_of n before).phase (ap (λ k. is_running (desk_of k before).phase) same ∙ runs))))
    by_cause (FromServer t body) is e h runs = λ s. none_with settings before (FromServer t body) e s (asks_of settings s (later cause)) (subst (λ c. AllByRecursion (MidSeat settings before c s) (asks_of settings s (later cause))) is (inside.seated s)) (refused_none t body e h s)
    by_cause (Joined n) is e h runs = never (sym (and_parts (nat_eq n e) (stopped before) (joined_leaves n e h)).1 ∙ before_on before cause (outs_of settings before cause) goes_on)
    by_cause (StartFailed t) is e h runs = exit_away t (subst (λ c. Exit settings before c t) (sym is) (failed_exit settings before t)) e (subst (λ c. is_put_out settings before c e ≡ true) (sym is) (put_out_by (is_put_out settings before (StartFailed t) e) h))
    by_cause (ServerGone t) is e h runs = exit_away t (subst (λ c. Exit settings before c t) (sym is) (gone_exit settings before t)) e (subst (λ c. is_put_out settings before c e ≡ true) (sym is) (put_out_by (is_put_out settings before (ServerGone t) e) h))
    by_cause other is e h runs = never (sym h)

    left_away : (e : ℕ) → leaves settings before cause e ≡ true → AllAway e
    left_away e h = go (is_running (desk_of e before).phase) refl
      where
        go : (b : Bool) → is_running (desk_of e before).phase ≡ b → AllAway e
        go true runs = by_cause cause refl e h runs
        go false off = λ s. unrun_away cause e s (asks_of settings s (later cause)) (inside.seated s) h off

    -- so each of them stays
    all_stay : (xs : List Ask) → AllByRecursion (λ (a : Ask). AllByRecursion (Away a.editor) xs → ⊥) xs
    all_stay [] = tt
    all_stay (a ∷ xs) = (λ h. never (sym (same_number a.editor) ∙ h.0), all_of (λ (b : Ask). AllByRecursion (Away b.editor) xs → ⊥) (λ (b : Ask). AllByRecursion (Away b.editor) (a ∷ xs) → ⊥) (λ b f h. f h.1) xs (all_stay xs))

    one_seat : Lively settings (later cause) → (s : ℕ) → is_exit cause s ≡ false → (a : Ask) → MidSeat settings before cause s a → leaves settings before cause a.editor ≡ false → HasSeat settings (later cause) s a
    one_seat lively s goes_on a k stays =
        let running : (desk_of a.editor (later cause)).phase ≡ Running = inside.runs a.editor stays (k.running stays) in
        let home : home_of settings a.editor (later cause) ≡ Some k.group = homes_stay settings a.editor (with_cause before cause) (outs_of settings before cause)
        ∙ took_home settings before a.editor k.old cause (off_both (ends_link settings before cause a.editor) (shuts cause a.editor) stays).1 ∙ k.home in
        let last : start_of k.group (later cause) ≡ Some s = start_kept settings before cause begun fits lasts k.group s k.last goes_on in
        let kept : group_of s (later cause) ≡ Some k.group = (lively.last k.group s last).0 in
        record {
          running = running;
          home = home ∙ sym kept;
          group = k.group;
          kept = kept;
          last = last;
          ready = up_ready (life_of s (later cause)).stage (up_of settings (later cause) lively a.editor k.group s (ap is_answered running) home last) (inside.begun s (ap is_unready k.ready));
        }

    pub seats_rest : Lively settings (later cause) → AllSeats settings (later cause)
    seats_rest lively s = by_exit (is_exit cause s) refl
      where
        stays : (a : Ask) → (AllByRecursion (Away a.editor) (asks_of settings s (later cause)) → ⊥) → (b : Bool) → leaves settings before cause a.editor ≡ b → b ≡ false
        stays a here true h = absurd (here (left_away a.editor h s))
        stays a here false h = refl

        seat : is_exit cause s ≡ false → (a : Ask) → MidSeat settings before cause s a → (AllByRecursion (Away a.editor) (asks_of settings s (later cause)) → ⊥) → HasSeat settings (later cause) s a
        seat goes_on a k here = one_seat lively s goes_on a k (stays a here (leaves settings before cause a.editor) refl)

        go : is_exit cause s ≡ false → (xs : List Ask) → AllByRecursion (MidSeat settings before cause s) xs → AllByRecursion (λ (a : Ask). AllByRecursion (Away a.editor) (asks_of settings s (later cause)) → ⊥) xs → AllByRecursion (HasSeat settings (later cause) s) xs
        go goes_on xs h f = zip_all (MidSeat settings before cause s) (λ (a : Ask). AllByRecursion (Away a.editor) (asks_of settings s (later cause)) → ⊥) (HasSeat settings (later cause) s) (seat goes_on) xs h f

        -- a start that ends asks nothing more
        by_exit : (b : Bool) → is_exit cause s ≡ b → AllByRecursion (HasSeat settings (later cause) s) (asks_of settings s (later cause))
        by_exit true is = all_of None_at (HasSeat settings (later cause) s) (λ a k. absurd k) (asks_of settings s (later cause)) (none_later cause s (exit_by settings before cause s is) fits)
        by_exit false goes_on = go goes_on (asks_of settings s (later cause)) (inside.seated s) (all_stay (asks_of settings s (later cause)))

pub no_seats : (settings : Settings) → AllSeats settings []
no_seats settings s = tt
