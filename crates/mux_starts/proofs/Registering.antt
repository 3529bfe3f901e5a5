-- S6 and S7: what is told of registrations, and what that leaves as it is.
use Rattle.std.proofs.Common.{◌≡◌, ℕ, Bool, false, true, List, [], codes, if◌then◌else◌, refl, ap, sym, subst, ◌∙◌}
use Rattle.std.specs.Prelude.{Option, Some, None}
use Rattle.std.specs.List.{AllByRecursion}
use Rattle.std.specs.Option.{option_and_then}
use Rattle.json_text.specs.Json.{Json}
use Rattle.mux_history.specs.declared.cause.Cause.TheVariants.{FromServer}
use Rattle.mux_history.specs.declared.out.Out.{Out}
use Rattle.rpc_message.specs.Message.{Id, id_bytes, message_of, request}
use Rattle.rpc_message.specs.Texts.{ok_text}
use Rattle.event_model.specs.Does.{Alike, Does}
use Rattle.event_model.specs.Event.{Event, behind, with_cause}
use Rattle.event_model.specs.Phases.{desk_of, is_running}
use Rattle.event_model.specs.Row.{Row, each, on, outs, ◌⨾◌}
use Rattle.event_model.specs.Settings.{Settings}
use Rattle.event_model.proofs.Turns.{alike, does_knowing, does_then}
use Rattle.group_rows.specs.Asks.{asking_of, is_single, running_in}
use Rattle.group_rows.specs.Live.{if_live, live_of, register_text, taken_back, unregister_text}
use Rattle.group_rows.specs.LiveRows.{accept, call, decline, has_some, register_row, registering, unregister_any, unregister_row}
use Rattle.group_rows.specs.registrations.specs.declared.registration.Registration.{Registration}
use Rattle.group_rows.specs.registrations.specs.Items.{again, are_live, registered, unregistered}
use Rattle.mux_tables.specs.declared.tables.Tables.{Tables}
use Rattle.mux_tables.specs.Documents.{AllStand, nothing_owed}
use Rattle.mux_turns.specs.Calls.{IsCall}
use Rattle.mux_turns.proofs.Called.{Quiet, after_quiet, any_quiet, call_quiet}
use Rattle.mux_starts.proofs.Refreshing.{answered_keeps, kept_all}
use Rattle.mux_starts.proofs.Singles.{all_running, rests_all, runs_here}

pub registering_quiet : (settings : Settings) (gone items : List Registration) → IsCall (unregister_text gone) → IsCall (register_text items) → (e : ℕ) (events : List Event) → Quiet settings events (behind events (outs (registering gone items e) events))
registering_quiet settings gone items k l e events = after_quiet settings (unregister_any gone e) (call (register_text items) e) events (any_quiet settings (unregister_text gone) k (has_some gone) e events) (λ now. call_quiet settings (register_text items) l e now)

-- the rows, by what is read
module _ (settings : Settings) (before : List Event) (g s : ℕ) (body : List ℕ) where
  pub unregistered_row : registered body ≡ None → Alike (register_row settings before g s body) (decline s body)
  unregistered_row none = alike (ap (λ o. on o (decline s body) (λ items. accept s body ⨾ each (registering (again items (live_of settings s before)) items) (running_in settings g before))) none)

  pub registered_row : (items : List Registration) → registered body ≡ Some items → Alike (register_row settings before g s body) (accept s body ⨾ each (registering (again items (live_of settings s before)) items) (running_in settings g before))
  registered_row items some = alike (ap (λ o. on o (decline s body) (λ items. accept s body ⨾ each (registering (again items (live_of settings s before)) items) (running_in settings g before))) some)

  pub kept_row : taken_back body (live_of settings s before) ≡ None → Alike (unregister_row settings before g s body) (decline s body)
  kept_row none = alike (ap (λ o. on o (decline s body) (λ items. accept s body ⨾ each (call (unregister_text (again items (live_of settings s before)))) (running_in settings g before))) none)

  pub taken_row : (items : List Registration) → taken_back body (live_of settings s before) ≡ Some items → Alike (unregister_row settings before g s body) (accept s body ⨾ each (call (unregister_text (again items (live_of settings s before)))) (running_in settings g before))
  taken_row items some = alike (ap (λ o. on o (decline s body) (λ items. accept s body ⨾ each (call (unregister_text (again items (live_of settings s before)))) (running_in settings g before))) some)

-- The start is answered, and each editor that runs is told

module _ (settings : Settings) (before : List Event) (s g : ℕ) (body method : List ℕ) (id : Id) (params : Option Json) (xs : List Out) (first : xs ≡ []) (says : message_of body ≡ request id method params) (many : is_single method ≡ false)
    (u v : Tables) (ys zs : List Out) (numbers : List ℕ) (those : numbers ≡ running_in settings g before) (row : ℕ → Row) where
  abbrev base : List Event
  base = with_cause before (FromServer s body)

  abbrev Runs : Type 0
  Runs = AllByRecursion (λ e. is_running (desk_of e (behind base ys)).phase ≡ true) numbers

  abbrev IsIdle : Type 0
  IsIdle = (n : ℕ) → (asking_of settings n (behind base ys)).asker ≡ None

  pub told_all : Does (λ k events. AllStand settings k events) (accept s body) base (u, nothing_owed) xs (u, nothing_owed) ys
      → (Runs → IsIdle → Does (λ k events. AllStand settings k events) (each row numbers) base (u, nothing_owed) ys (v, nothing_owed) zs)
      → Does (λ k events. AllStand settings k events) (accept s body ⨾ each row (running_in settings g before)) base (u, nothing_owed) xs (v, nothing_owed) zs
  told_all granted go = does_knowing (λ known.
      let now = behind base xs in
      let kept = answered_keeps settings s (ok_text (id_bytes body) (codes "null")) base xs ys (granted.done known).outs in
      let idle = rests_all settings before s body xs first method id params says many in
      let ran = kept_all (running_in settings g before) before now (λ e h. runs_here settings before s body xs first e h) (all_running settings g before) in
      let runs = kept_all numbers now (behind base ys) (λ e h. ap is_running (kept.phases e) ∙ h) (subst (λ ns. AllByRecursion (λ e. is_running (desk_of e now).phase ≡ true) ns) (sym those) ran) in
      does_then granted (subst (λ ns. Does (λ k events. AllStand settings k events) (each row ns) base (u, nothing_owed) ys (v, nothing_owed) zs) those (go runs (λ n. (kept.rests n (idle n)).asker))))

-- what is told, by what the lists hold
pub tells : (settings : Settings) (base : List Event) (u v : Tables) (ys zs : List Out) (numbers : List ℕ) (given gone named items : List Registration) → given ≡ gone → named ≡ items → IsCall (unregister_text gone) → IsCall (register_text items)
    → (IsCall (unregister_text given) → IsCall (register_text named) → Does (λ k events. AllStand settings k events) (each (registering given named) numbers) base (u, nothing_owed) ys (v, nothing_owed) zs)
    → Does (λ k events. AllStand settings k events) (each (registering gone items) numbers) base (u, nothing_owed) ys (v, nothing_owed) zs
tells settings base u v ys zs numbers given gone named items is same k l go =
    subst (λ rs. Does (λ k events. AllStand settings k events) (each (registering rs items) numbers) base (u, nothing_owed) ys (v, nothing_owed) zs) is
    (subst (λ rs. Does (λ k events. AllStand settings k events) (each (registering given rs) numbers) base (u, nothing_owed) ys (v, nothing_owed) zs) same
    (go (subst (λ rs. IsCall (unregister_text rs)) (sym is) k) (subst (λ rs. IsCall (register_text rs)) (sym same) l)))

pub takes_back : (settings : Settings) (base : List Event) (u v : Tables) (ys zs : List Out) (numbers : List ℕ) (given gone : List Registration) → given ≡ gone → IsCall (unregister_text gone)
    → (IsCall (unregister_text given) → Does (λ k events. AllStand settings k events) (each (call (unregister_text given)) numbers) base (u, nothing_owed) ys (v, nothing_owed) zs)
    → Does (λ k events. AllStand settings k events) (each (call (unregister_text gone)) numbers) base (u, nothing_owed) ys (v, nothing_owed) zs
takes_back settings base u v ys zs numbers given gone is k go =
    subst (λ rs. Does (λ k events. AllStand settings k events) (each (call (unregister_text rs)) numbers) base (u, nothing_owed) ys (v, nothing_owed) zs) is (go (subst (λ rs. IsCall (unregister_text rs)) (sym is) k))

-- What is taken back, by whether all of it is live

abbrev pub gone_of : List Registration → List Registration → Option (List Registration)
gone_of items live = if are_live items live then Some (again items live) else None

module _ (body : List ℕ) (items live : List Registration) (named : unregistered body ≡ Some items) where
  by_live : taken_back body live ≡ if_live live items
  by_live = ap (option_and_then (if_live live)) named

  pub some_taken : (gone : List Registration) → Some gone ≡ gone_of items live → (taken_back body live ≡ Some items) × (gone ≡ again items live)
  some_taken gone is = go (are_live items live) refl is
    where
      go : (b : Bool) → are_live items live ≡ b → ◌≡◌ {A = Option (List Registration)} (Some gone) (if b then Some (again items live) else None) → (taken_back body live ≡ Some items) × (gone ≡ again items live)
      go true h k = (by_live ∙ ap (λ b. if b then Some items else None) h, cc)
      go false h k = absurd (cc)

  pub none_taken : None ≡ gone_of items live → taken_back body live ≡ None
  none_taken is = go (are_live items live) refl is
    where
      go : (b : Bool) → are_live items live ≡ b → ◌≡◌ {A = Option (List Registration)} None (if b then Some (again items live) else None) → taken_back body live ≡ None
      go false h k = by_live ∙ ap (λ b. if b then Some items else None) h
      go true h k = absurd (cc)
