-- Requests that wait, at every place of an entry: they are held there, and the rows that part with editors refuse them by errors.
use Rattle.std.proofs.Common.{◌≡◌, ℕ, List, [], ◌∷◌, ◌++◌, Some, refl, subst, not, append-nil, append_assoc, map, sym}
use Rattle.std.specs.List.{AllByRecursion}
use Rattle.json_text.specs.Json.{Json}
use Rattle.mux_history.specs.declared.cause.Cause.{Cause}
use Rattle.mux_history.specs.declared.out.Out.{Out}
use Rattle.mux_history.specs.declared.out.Out.TheVariants.{ToEditor, ToServer, Spawn, CloseEditor, EndServer}
use Rattle.rpc_message.specs.Message.{Id, error, message_of}
use Rattle.rpc_message.specs.Texts.{error_text, error_tree, request_failed}
use Rattle.rpc_message.proofs.Fixed.{error_law, id_as_response}
use Rattle.event_model.specs.Event.{Event, behind, said, with_cause}
use Rattle.event_model.specs.Row.{each, outs}
use Rattle.event_model.specs.Settings.{Settings}
use Rattle.mux_facts.specs.Ranges.{InRange}
use Rattle.mux_facts.proofs.Lists.{all_filtered}
use Rattle.mux_facts.proofs.Reasons.{Because, Reasons, by_choose, by_look, by_nothing, by_send, by_then, reasons_keep}
use Rattle.group_rows.specs.held_requests.specs.declared.request.Request.{Request}
use Rattle.group_rows.specs.held_requests.specs.Tables.{is_of, of_editor}
use Rattle.group_rows.specs.ExitRows.{turn_out}
use Rattle.group_rows.specs.Rows.{outs_of}
use Rattle.group_rows.specs.StopRows.{refuse_initialize}
use Rattle.group_rows.specs.Waiting.{refuse_held, refuse_waiting, waiting_of, is_answered, worker_of}
use Rattle.group_facts.specs.Facts.{AllHeld, IsHeld}
use Rattle.group_facts.specs.Why.{Why}
use Rattle.group_facts.proofs.ExitEntry.{Exit}
use Rattle.group_facts.proofs.Facts.{Facts}
use Rattle.group_facts.proofs.Held.{held_closed_all, held_ended_all, held_spawned_all, held_told_all, drop_all, left_by}
use Rattle.group_facts.proofs.HeldOn.{held_exit, held_sent_all}
use Rattle.group_facts.proofs.HeldOuts.{part_by}
use Rattle.group_facts.proofs.OpenByOut.{reasons_left}
use Rattle.group_facts.proofs.Table.{reasons}
use Rattle.event_model.specs.Requests.{answered_id}
use Rattle.event_model.specs.Spawns.{group_of}
use Rattle.group_words.specs.Houses.{is_home}
use Rattle.group_rows.proofs.Frames.{waiting_more, waiting_stays}

module _ (settings : Settings) (before : List Event) (cause : Cause) where
  held_step : (events : List Event) (out : Out) → Why settings before cause events out → AllHeld settings events → AllHeld settings (events ++ said out ∷ [])
  held_step events (ToEditor n body) why h = held_told_all settings events n body h
  held_step events (ToServer s body) why h = held_sent_all settings before cause events s body why h
  held_step events (Spawn s g) why h = held_spawned_all settings events s g h
  held_step events (CloseEditor n) why h = held_closed_all settings events n h
  held_step events (EndServer s) why h = held_ended_all settings events s h

  -- behind outs that have their reasons
  pub held_outs : (events : List Event) (xs : List Out) → Reasons (λ places out. Why settings before cause places out) events xs → AllHeld settings events → AllHeld settings (behind events xs)
  held_outs events xs why h = reasons_keep (λ places out. Why settings before cause places out) (AllHeld settings) held_step events xs why h

  -- at every place of the entry of an exit
  pub held_lost : InRange settings → Facts settings before → (s : ℕ) → Exit settings before cause s → (xs ys : List Out) → outs_of settings before cause ≡ xs ++ ys → AllHeld settings (behind (with_cause before cause) xs)
  held_lost range facts s exit xs ys is = held_outs (with_cause before cause) xs
      (reasons_left (λ places out. Why settings before cause places out) (with_cause before cause) xs ys (subst (Reasons (λ places out. Why settings before cause places out) (with_cause before cause)) is (reasons settings range before facts cause).why))
      (held_exit settings before cause s exit.is (facts.steady).held)

-- outs that are no bodies to a start
abbrev IsUnsent : Out → Type 0
IsUnsent (ToServer s body) = ⊥
IsUnsent out = Unit {0}

module _ (settings : Settings) where
  unsent_step : (events : List Event) (out : Out) → IsUnsent out → AllHeld settings events → AllHeld settings (events ++ said out ∷ [])
  unsent_step events (ToEditor n body) none h = held_told_all settings events n body h
  unsent_step events (ToServer s body) none h = absurd none
  unsent_step events (Spawn s g) none h = held_spawned_all settings events s g h
  unsent_step events (CloseEditor n) none h = held_closed_all settings events n h
  unsent_step events (EndServer s) none h = held_ended_all settings events s h

  first_unsent : (n : ℕ) (events : List Event) → Because (λ places out. IsUnsent out) events (refuse_initialize n)
  first_unsent n events = by_look (by_choose (λ waits. by_send tt) (λ late. by_nothing))

  held_first : (n : ℕ) (events : List Event) → AllHeld settings events → AllHeld settings (behind events (outs (refuse_initialize n) events))
  held_first n events h = reasons_keep (λ places out. IsUnsent out) (AllHeld settings) unsent_step events (outs (refuse_initialize n) events) (first_unsent n events).why h

  -- behind one that is turned out
  pub held_turned : (g n : ℕ) (events : List Event) → AllHeld settings events → AllHeld settings (behind events (outs (turn_out settings g n) events))
  held_turned g n events h = reasons_keep (λ places out. IsUnsent out) (AllHeld settings) unsent_step events (outs (turn_out settings g n) events)
      (by_then (first_unsent n events) (part_by settings (λ places out. IsUnsent out) g n (λ places body. tt) (λ places. tt) _)).why h

  module _ (R : List Event → Out → Type 0) (tells : (places : List Event) (k : ℕ) (text : List ℕ) (id : Id) (x : Json) → message_of text ≡ error (Some id) x → R places (ToEditor k text)) where
    each_refused : (g : ℕ) (places : List Event) (rs : List Request) (events : List Event) → AllByRecursion (IsHeld settings g places) rs → Because R events (each refuse_waiting rs)
    each_refused g places [] events h = by_nothing
    each_refused g places (r ∷ rs) events h = by_then
        (by_send (tells events r.editor (error_text r.id request_failed) ((h.0).asker).id (error_tree request_failed) (error_law (Some ((h.0).asker).id) r.id request_failed (id_as_response ((h.0).asker).id r.id ((h.0).asker).text))))
        (each_refused g places rs (events ++ said (ToEditor r.editor (error_text r.id request_failed)) ∷ []) h.1)

    -- each is refused by an error
    pub refused_by : (g n : ℕ) (events : List Event) → AllHeld settings events → Because R events (refuse_held settings g n)
    refused_by g n events held = by_look (each_refused g events (of_editor n (waiting_of settings g events)) events (all_filtered (IsHeld settings g events) (IsHeld settings g events) (is_of n) (λ r t k. k) (waiting_of settings g events) (held g).each))

    -- and so an editor is turned out
    pub turned_by : (g n : ℕ) (events : List Event) → AllHeld settings events → ((places : List Event) → R places (CloseEditor n)) → Because R events (refuse_initialize n) → Because R events (turn_out settings g n)
    turned_by g n events held closes first = by_then first (by_then (refused_by g n (behind events (outs (refuse_initialize n) events)) (held_first n events held)) (by_send (closes _)))

-- Outs make none wait

module _ (settings : Settings) (P : Request → Type 0) (g : ℕ) where
  less_did : (events : List Event) (out : Out) → AllByRecursion P (waiting_of settings g events) → AllByRecursion P (waiting_of settings g (events ++ said out ∷ []))
  less_did events (ToEditor n body) h = subst (AllByRecursion P) (sym (waiting_more settings g events (said (ToEditor n body)))) (all_filtered P P (λ r. not (is_answered n (answered_id (message_of body)) r)) (λ r t k. k) (waiting_of settings g events) h)
  less_did events (ToServer s body) h = subst (AllByRecursion P) (sym (waiting_more settings g events (said (ToServer s body)))) (left_by (AllByRecursion P) (drop_all P) (is_home g (group_of s events)) (worker_of events) (message_of body) (waiting_of settings g events) h)
  less_did events (CloseEditor n) h = subst (AllByRecursion P) (sym (waiting_more settings g events (said (CloseEditor n)))) (all_filtered P P (λ r. not (is_of n r)) (λ r t k. k) (waiting_of settings g events) h)
  less_did events (Spawn s i) h = subst (AllByRecursion P) (sym (waiting_stays settings g events (said (Spawn s i)) refl)) h
  less_did events (EndServer s) h = subst (AllByRecursion P) (sym (waiting_stays settings g events (said (EndServer s)) refl)) h

  pub less_outs : (events : List Event) (xs : List Out) → AllByRecursion P (waiting_of settings g events) → AllByRecursion P (waiting_of settings g (behind events xs))
  less_outs events [] h = subst (λ z. AllByRecursion P (waiting_of settings g z)) (sym (append-nil events)) h
  less_outs events (x ∷ xs) h = subst (λ z. AllByRecursion P (waiting_of settings g z)) (append_assoc events (said x ∷ []) (map said xs)) (less_outs (events ++ said x ∷ []) xs (less_did events x h))
