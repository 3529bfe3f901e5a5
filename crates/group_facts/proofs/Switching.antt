-- Each message that goes on goes behind the switches of its editor's documents.
use Rattle.std.proofs.Common.{◌≡◌, ◌⊎◌, inl, inr, ℕ, true, List, [], ◌∷◌, ◌++◌, append-nil, append_assoc, flat_map, map, refl, sym, ◌∙◌, subst}
use Rattle.mux_history.specs.declared.cause.Cause.{Cause}
use Rattle.mux_history.specs.declared.entry.Entry.{Entry}
use Rattle.mux_history.specs.declared.out.Out.{Out}
use Rattle.mux_history.specs.declared.out.Out.TheVariants.{ToEditor, ToServer, Spawn, CloseEditor, EndServer}
use Rattle.rpc_message.specs.Message.{message_of}
use Rattle.event_model.specs.Event.{Event, behind, events_of, said, with_cause}
use Rattle.event_model.specs.Settings.{Settings}
use Rattle.event_model.proofs.Frames.{never}
use Rattle.mux_facts.specs.Ranges.{InRange}
use Rattle.mux_history.specs.declared.cause.Cause.TheVariants.{FromEditor}
use Rattle.mux_model.specs.Documents.{held_at}
use Rattle.group_rows.specs.Rows.{sync_bodies}
use Rattle.group_rows.specs.Texts.{is_synced, texts_of}
use Rattle.group_facts.specs.Legal.{Legal}
use Rattle.group_facts.specs.Switches.{IsConfigured, AllOnSwitches, IsSwitched, OnSwitches, Switches, SwitchesFrom, IsReleased}
use Rattle.group_facts.specs.Why.{AllSlow, AllWhy, HasParts, IsBehindSync, ReasonsFrom, SlowOuts, quitting, Why, WhyToServer, begins, cancels, exits, forwarded, greets, conveys, notes, responds, shuts, tells, resolves, cancels_work, at_once, had_waited, Going, IsAwaited}
use Rattle.group_facts.proofs.Asides.{answer_aside, spoken_aside, unsynced}
use Rattle.group_facts.proofs.Everywhere.{reasons_hold}
use Rattle.group_facts.proofs.SlowRow.{quit_unsynced}

module _ (settings : Settings) (before : List Event) (cause : Cause) where
  switched : (events : List Event) (s e : ℕ) (asked : List ℕ) → cause ≡ FromEditor e asked → IsBehindSync settings before events s e asked → IsSwitched settings before cause events s
  switched events s e asked from k = record { editor = e; asked = asked; from = from; group = k.group; start = k.start; questions = k.questions; asks = k.asks; place = subst (λ c. events ≡ behind (with_cause before c) (k.questions ++ map (λ text. ToServer s text) (sync_bodies settings.limits.versions (λ u. held_at s u before) e (texts_of settings k.group before).opens))) (sym from) k.place }

  released : (events : List Event) (s e : ℕ) (asked : List ℕ) → IsAwaited settings before cause events s e asked → IsReleased settings before cause events s
  released events s e asked w = record {
    group = w.group;
    answer = w.answer;
    request = w.request;
    from = w.from;
    home = w.home;
    first = w.first;
    earlier = w.earlier;
    place = subst (λ n. events ≡ behind w.earlier (map (λ text. ToServer s text) (sync_bodies settings.limits.versions (λ u. held_at s u w.earlier) n (texts_of settings w.group w.earlier).opens))) (sym w.editor) w.place;
  }

  went : {body : List ℕ} (events : List Event) (s e : ℕ) (asked : List ℕ) → Going settings before cause events s e asked → IsSwitched settings before cause events s ⊎ (IsReleased settings before cause events s ⊎ IsConfigured settings before cause s body)
  went events s e asked (at_once from k) = inl (switched events s e asked from k)
  went events s e asked (had_waited w) = inr (inl (released events s e asked w))

  by_reason : (events : List Event) (s : ℕ) (body : List ℕ) → WhyToServer settings before cause events s body → is_synced (message_of body) ≡ true → IsSwitched settings before cause events s ⊎ (IsReleased settings before cause events s ⊎ IsConfigured settings before cause s body)
  by_reason events s body (begins k) goes = unsynced body _ k.says refl goes
  by_reason events s body (greets k) goes = unsynced body _ k.says refl goes
  by_reason events s body (conveys k) goes = inr (inr (record { group = k.group; answer = k.answer; from = k.from; home = k.home; kept = k.kept }))
  by_reason events s body (forwarded k) goes = went events s k.sender.editor k.asked k.going
  by_reason events s body (notes k) goes = inl (switched events s k.editor body k.from k.synced)
  by_reason events s body (tells k) goes = never (sym goes ∙ spoken_aside (message_of body) k.spoken)
  by_reason events s body (shuts k) goes = unsynced body _ k.says refl goes
  by_reason events s body (cancels k) goes = unsynced body _ k.says refl goes
  by_reason events s body (cancels_work k) goes = unsynced body _ k.says refl goes
  by_reason events s body (responds k) goes = never (sym goes ∙ answer_aside (message_of body) k.response)
  by_reason events s body (resolves k) goes = never (sym goes ∙ answer_aside (message_of body) k.response)
  by_reason events s body (exits k) goes = unsynced body _ k.says refl goes

  by_why : (events : List Event) (out : Out) → Why settings before cause events out → OnSwitches settings before cause events out
  by_why events (ToServer s body) why = by_reason events s body why
  by_why events (ToEditor e body) why = tt
  by_why events (Spawn s g) why = tt
  by_why events (CloseEditor e) why = tt
  by_why events (EndServer s) why = tt

  all_switched : (events : List Event) (outs : List Out) → AllWhy settings before cause events outs → AllOnSwitches settings before cause events outs
  all_switched events [] why = tt
  all_switched events (out ∷ outs) why = (by_why events out why.0, all_switched (events ++ said out ∷ []) outs why.1)

-- what an editor that is slow leaves behind goes behind none
module _ (settings : Settings) (before : List Event) (cause : Cause) where
  slow_why : (place : List Event) (e : ℕ) (events : List Event) (out : Out) → Why settings place (quitting e) events out → OnSwitches settings before cause events out
  slow_why place e events (ToServer s body) why = λ goes. absurd (quit_unsynced settings place e events s body why goes)
  slow_why place e events (ToEditor n body) why = tt
  slow_why place e events (Spawn s g) why = tt
  slow_why place e events (CloseEditor n) why = tt
  slow_why place e events (EndServer s) why = tt

  one_slow : (place : List Event) (e : ℕ) (events : List Event) (outs : List Out) → AllWhy settings place (quitting e) events outs → AllOnSwitches settings before cause events outs
  one_slow place e events [] why = tt
  one_slow place e events (out ∷ outs) why = (slow_why place e events out why.0, one_slow place e (events ++ said out ∷ []) outs why.1)

  both_switched : (events : List Event) (xs ys : List Out) → AllOnSwitches settings before cause events xs → AllOnSwitches settings before cause (behind events xs) ys → AllOnSwitches settings before cause events (xs ++ ys)
  both_switched events [] ys f g = subst (λ z. AllOnSwitches settings before cause z ys) (append-nil events) g
  both_switched events (x ∷ xs) ys f g = (f.0, both_switched (events ++ said x ∷ []) xs ys f.1 (subst (λ z. AllOnSwitches settings before cause z ys) (sym (append_assoc events (said x ∷ []) (map said xs))) g))

  all_slow : (events : List Event) (xs : List SlowOuts) → AllSlow settings events xs → AllOnSwitches settings before cause events (flat_map (λ (x : SlowOuts). x.outs) xs)
  all_slow events [] h = tt
  all_slow events (x ∷ xs) h = both_switched events x.outs (flat_map (λ (y : SlowOuts). y.outs) xs) (one_slow events x.editor events x.outs h.1.0) (all_slow (behind events x.outs) xs h.1.1)

  whole_switched : (outs : List Out) → HasParts settings before cause outs → AllOnSwitches settings before cause (with_cause before cause) outs
  whole_switched outs h = subst (AllOnSwitches settings before cause (with_cause before cause)) (sym h.parts)
      (both_switched (with_cause before cause) h.row (flat_map (λ (x : SlowOuts). x.outs) h.slow) (all_switched settings before cause (with_cause before cause) h.row h.why) (all_slow (behind (with_cause before cause) h.row) h.slow h.leave))

switches_from : (settings : Settings) (before rest : List Entry) → ReasonsFrom settings before rest → SwitchesFrom settings before rest
switches_from settings before [] why = tt
switches_from settings before (entry ∷ rest) why =
    (whole_switched settings (events_of before) entry.cause entry.outs why.0, switches_from settings (before ++ entry ∷ []) rest why.1)

pub switches_hold : (settings : Settings) → InRange settings → (history : List Entry) → Legal settings history → Switches settings history
switches_hold settings range history legal = switches_from settings [] history (reasons_hold settings range history legal)
