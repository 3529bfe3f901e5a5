-- What is sent where requests that wait are refused, or sent: one thing that holds of each such body holds of all outs.
use Rattle.std.proofs.Common.{◌≡◌, ℕ, Bool, true, false, cond, List, [], ◌∷◌, ◌++◌, filter, nat_eq, refl, sym, subst}
use Rattle.mux_history.specs.declared.out.Out.{Out}
use Rattle.mux_history.specs.declared.out.Out.TheVariants.{ToEditor, ToServer, Spawn, CloseEditor, EndServer}
use Rattle.rpc_message.specs.Texts.{error_text, request_failed}
use Rattle.event_model.specs.Event.{Event, behind, said}
use Rattle.event_model.specs.Row.{each, outs}
use Rattle.event_model.specs.Settings.{Settings}
use Rattle.mux_model.specs.Documents.{held_at}
use Rattle.mux_model.specs.Rows.{to_start}
use Rattle.mux_facts.proofs.Reasons.{Because, by_choose, by_look, by_nothing, by_on, by_send, by_then, reasons_keep}
use Rattle.mux_facts.proofs.Words.{number_same}
use Rattle.group_rows.specs.held_requests.specs.declared.request.Request.{Request}
use Rattle.group_rows.specs.held_requests.specs.Tables.{is_of}
use Rattle.group_rows.specs.Rows.{send_held, send_waiting, sync_bodies}
use Rattle.group_rows.specs.StopRows.{lose_waiting}
use Rattle.group_rows.specs.Texts.{texts_of}
use Rattle.group_rows.specs.Waiting.{part, refuse_held, refuse_waiting, waiting_of}

refused_by : (R : List Event → Out → Type 0) (e : ℕ) → ((places : List Event) (body : List ℕ) → R places (ToEditor e body)) → (rs : List Request) (events : List Event) → Because R events (each refuse_waiting (filter (is_of e) rs))
refused_by R e tells [] events = by_nothing
refused_by R e tells (r ∷ rs) events = go (nat_eq r.editor e) refl (λ places. refused_by R e tells rs places)
  where
    go : (b : Bool) → nat_eq r.editor e ≡ b → ((places : List Event) → Because R places (each refuse_waiting (filter (is_of e) rs))) → Because R events (each refuse_waiting (cond b (r ∷ filter (is_of e) rs) (filter (is_of e) rs)))
    go true mine rest = by_then (by_send (subst (λ n. R events (ToEditor n (error_text r.id request_failed))) (sym (number_same r.editor e mine)) (tells events (error_text r.id request_failed))))
        (rest (events ++ said (ToEditor r.editor (error_text r.id request_failed)) ∷ []))
    go false other rest = rest events

pub refuse_held_by : (settings : Settings) (R : List Event → Out → Type 0) (g e : ℕ) → ((places : List Event) (body : List ℕ) → R places (ToEditor e body)) → (events : List Event) → Because R events (refuse_held settings g e)
refuse_held_by settings R g e tells events = by_look (refused_by R e tells (waiting_of settings g events) events)

-- and the end of its link
pub part_by : (settings : Settings) (R : List Event → Out → Type 0) (g e : ℕ) → ((places : List Event) (body : List ℕ) → R places (ToEditor e body)) → ((places : List Event) → R places (CloseEditor e)) → (events : List Event) → Because R events (part settings g e)
part_by settings R g e tells closes events = by_then (refuse_held_by settings R g e tells events) (by_send (closes _))

pub parts_by : (settings : Settings) (R : List Event → Out → Type 0) (g : ℕ) → ((e : ℕ) (places : List Event) (body : List ℕ) → R places (ToEditor e body)) → ((e : ℕ) (places : List Event) → R places (CloseEditor e)) → (es : List ℕ) (events : List Event) → Because R events (each (part settings g) es)
parts_by settings R g tells closes [] events = by_nothing
parts_by settings R g tells closes (e ∷ es) events = by_then (part_by settings R g e (tells e) (closes e) events) (parts_by settings R g tells closes es (behind events (outs (part settings g e) events)))

pub lose_waiting_by : (settings : Settings) (before : List Event) (R : List Event → Out → Type 0) (e : ℕ) → ((places : List Event) (body : List ℕ) → R places (ToEditor e body)) → (events : List Event) → Because R events (lose_waiting settings before e)
lose_waiting_by settings before R e tells events = by_on (λ none. by_nothing) (λ g home. refuse_held_by settings R g e tells events)

abbrev pub IsToEditor : ℕ → Out → Type 0
IsToEditor e (ToEditor n body) = n ≡ e
IsToEditor e other = ⊥

-- such a body, and what it keeps
module _ (settings : Settings) (e : ℕ) (I : List Event → Type 0) (step : (places : List Event) (body : List ℕ) → I places → I (places ++ said (ToEditor e body) ∷ [])) where
  pub keeps_told : (places : List Event) (out : Out) → IsToEditor e out → I places → I (places ++ said out ∷ [])
  keeps_told places (ToEditor n body) is k = subst (λ z. I (places ++ said (ToEditor z body) ∷ [])) (sym is) (step places body k)
  keeps_told places (ToServer n body) is k = absurd is
  keeps_told places (Spawn n i) is k = absurd is
  keeps_told places (CloseEditor n) is k = absurd is
  keeps_told places (EndServer n) is k = absurd is

  pub kept_refused : (g : ℕ) (events : List Event) → I events → I (behind events (outs (refuse_held settings g e) events))
  kept_refused g events h = reasons_keep (λ places out. IsToEditor e out) I keeps_told events (outs (refuse_held settings g e) events) (refuse_held_by settings (λ places out. IsToEditor e out) g e (λ places body. refl) events).why h

-- S2: the requests that wait go to the start behind the texts of their editors, or are refused
module _ (settings : Settings) (R : List Event → Out → Type 0) (s : ℕ) (sends : (places : List Event) (body : List ℕ) → R places (ToServer s body)) (tells : (places : List Event) (e : ℕ) (body : List ℕ) → R places (ToEditor e body)) where
  start_told_by : (bodies : List (List ℕ)) (events : List Event) → Because R events (to_start s bodies)
  start_told_by [] events = by_nothing
  start_told_by (body ∷ bodies) events = by_then (by_send (sends events body)) (start_told_by bodies (events ++ said (ToServer s body) ∷ []))

  one_sent_by : (g : ℕ) (r : Request) (events : List Event) → Because R events (send_waiting settings g s r)
  one_sent_by g r events = by_look (by_choose (λ room. by_then (start_told_by (sync_bodies settings.limits.versions (λ u. held_at s u events) r.editor (texts_of settings g events).opens) events) (by_look (by_send (sends _ _)))) (λ full. by_send (tells events r.editor _)))

  all_sent_by : (g : ℕ) (rs : List Request) (events : List Event) → Because R events (each (send_waiting settings g s) rs)
  all_sent_by g [] events = by_nothing
  all_sent_by g (r ∷ rs) events = by_then (one_sent_by g r events) (all_sent_by g rs (behind events (outs (send_waiting settings g s r) events)))

  pub send_held_by : (g : ℕ) (events : List Event) → Because R events (send_held settings s g)
  send_held_by g events = by_look (all_sent_by g (waiting_of settings g events) events)
