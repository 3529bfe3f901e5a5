-- A start is told of documents only while it is ready, by the reasons of what it is sent.
use Rattle.std.proofs.Common.{◌≡◌, ℕ, true, false, List, [], ◌∷◌, ◌++◌, flat_map, refl, sym, ◌∙◌, ap, subst}
use Rattle.mux_history.specs.declared.cause.Cause.{Cause}
use Rattle.mux_history.specs.declared.entry.Entry.{Entry}
use Rattle.mux_history.specs.declared.out.Out.{Out}
use Rattle.mux_history.specs.declared.out.Out.TheVariants.{ToEditor, ToServer, Spawn, CloseEditor, EndServer}
use Rattle.rpc_message.specs.Message.{Message, message_of, request, notification, result, error, not_json, not_message}
use Rattle.document_model.specs.Sayings.{saying_of, speaks}
use Rattle.event_model.specs.declared.stage.Stage.TheVariants.{Ready}
use Rattle.event_model.specs.Event.{Event, behind, events_of, said, with_cause}
use Rattle.event_model.specs.Settings.{Settings}
use Rattle.event_model.specs.Stages.{life_of}
use Rattle.event_model.proofs.Frames.{never}
use Rattle.mux_facts.specs.Allowed.{is_response}
use Rattle.mux_facts.specs.Ranges.{InRange}
use Rattle.mux_facts.proofs.Reasons.{Reasons, reasons_both}
use Rattle.group_facts.specs.Legal.{Legal}
use Rattle.group_facts.specs.Why.{AllSlow, AllWhy, HasParts, ReasonsFrom, SlowOuts, Why, WhyToServer, begins, cancels, cancels_work, conveys, exits, forwarded, greets, notes, quitting, resolves, responds, shuts, tells}
use Rattle.group_facts.proofs.Everywhere.{reasons_hold}
use Rattle.rest_laws.specs.Told.{AllToldReady, IsToldReady, ToldReady, ToldReadyFrom}

response_unsaid : (m : Message) → is_response m ≡ true → speaks (saying_of m) ≡ false
response_unsaid (result id r) h = refl
response_unsaid (error id x) h = refl
response_unsaid (request id method params) h = never (sym h)
response_unsaid (notification method params) h = never (sym h)
response_unsaid not_json h = never (sym h)
response_unsaid not_message h = never (sym h)

module _ (settings : Settings) where
  told_ready : (before : List Event) (cause : Cause) (events : List Event) (s : ℕ) (body : List ℕ) → WhyToServer settings before cause events s body → speaks (saying_of (message_of body)) ≡ true → (life_of s events).stage ≡ Ready
  told_ready before cause events s body (begins k) spoken = never (sym spoken ∙ ap (λ m. speaks (saying_of m)) k.says)
  told_ready before cause events s body (greets k) spoken = k.ready
  told_ready before cause events s body (conveys k) spoken = k.ready
  told_ready before cause events s body (forwarded k) spoken = k.ready
  told_ready before cause events s body (notes k) spoken = k.ready
  told_ready before cause events s body (tells k) spoken = k.ready
  told_ready before cause events s body (shuts k) spoken = k.ready
  told_ready before cause events s body (cancels k) spoken = k.ready
  told_ready before cause events s body (cancels_work k) spoken = k.ready
  told_ready before cause events s body (responds k) spoken = never (sym spoken ∙ response_unsaid (message_of body) k.response)
  told_ready before cause events s body (resolves k) spoken = k.ready
  told_ready before cause events s body (exits k) spoken = never (sym spoken ∙ ap (λ m. speaks (saying_of m)) k.says)

  pub one_told : (before : List Event) (cause : Cause) (events : List Event) (out : Out) → Why settings before cause events out → IsToldReady events out
  one_told before cause events (ToServer s body) why = told_ready before cause events s body why
  one_told before cause events (ToEditor e body) why = tt
  one_told before cause events (Spawn s g) why = tt
  one_told before cause events (CloseEditor e) why = tt
  one_told before cause events (EndServer s) why = tt

  abbrev Told : List Event → List Out → Type 0
  Told events outs = Reasons (λ places out. IsToldReady places out) events outs

  row_told : (before : List Event) (cause : Cause) (events : List Event) (outs : List Out) → AllWhy settings before cause events outs → Told events outs
  row_told before cause events [] why = tt
  row_told before cause events (out ∷ outs) why = (one_told before cause events out why.0, row_told before cause (events ++ said out ∷ []) outs why.1)

  slow_told : (events : List Event) (xs : List SlowOuts) → AllSlow settings events xs → Told events (flat_map (λ (x : SlowOuts). x.outs) xs)
  slow_told events [] h = tt
  slow_told events (x ∷ xs) h = reasons_both (λ places out. IsToldReady places out) events x.outs (flat_map (λ (y : SlowOuts). y.outs) xs) (row_told events (quitting x.editor) events x.outs h.1.0) (slow_told (behind events x.outs) xs h.1.1)

  all_told : (events : List Event) (outs : List Out) → Told events outs → AllToldReady events outs
  all_told events [] h = tt
  all_told events (out ∷ outs) h = (h.0, all_told (events ++ said out ∷ []) outs h.1)

  entry_told : (before : List Event) (cause : Cause) (outs : List Out) → HasParts settings before cause outs → AllToldReady (with_cause before cause) outs
  entry_told before cause outs h = all_told (with_cause before cause) outs (subst (Told (with_cause before cause)) (sym h.parts)
      (reasons_both (λ places out. IsToldReady places out) (with_cause before cause) h.row (flat_map (λ (x : SlowOuts). x.outs) h.slow) (row_told before cause (with_cause before cause) h.row h.why) (slow_told (behind (with_cause before cause) h.row) h.slow h.leave)))

  told_from : (before rest : List Entry) → ReasonsFrom settings before rest → ToldReadyFrom before rest
  told_from before [] h = tt
  told_from before (entry ∷ rest) h = (entry_told (events_of before) entry.cause entry.outs h.0, told_from (before ++ entry ∷ []) rest h.1)

  pub told_holds : InRange settings → (history : List Entry) → Legal settings history → ToldReady history
  told_holds range history legal = told_from [] history (reasons_hold settings range history legal)
