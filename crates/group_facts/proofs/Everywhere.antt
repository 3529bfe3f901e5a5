-- Each out of every legal history has its reason, and the facts hold of it.
use Rattle.std.proofs.Common.{◌≡◌, ℕ, Bool, true, false, List, [], ◌∷◌, ◌++◌, flat_map, refl, sym, ap, subst}
use Rattle.std.specs.List.{range_with_len}
use Rattle.mux_history.specs.declared.cause.Cause.{Cause}
use Rattle.mux_history.specs.declared.entry.Entry.{Entry}
use Rattle.mux_history.specs.declared.out.Out.{Out}
use Rattle.mux_history.specs.declared.out.Out.TheVariants.{CloseEditor}
use Rattle.event_model.specs.Event.{Event, behind, said, with_cause, events_of}
use Rattle.event_model.specs.Phases.{editors_of}
use Rattle.event_model.specs.Row.{choose, each, nothing, outs, send, ◌⨾◌}
use Rattle.event_model.specs.Settings.{Settings}
use Rattle.mux_facts.specs.Ranges.{InRange}
use Rattle.mux_facts.proofs.Keeps.{behind_nothing}
use Rattle.mux_facts.proofs.Reasons.{Reasons}
use Rattle.mux_model.specs.Fits.{fits_behind}
use Rattle.group_rows.specs.Leaves.{leave_row}
use Rattle.group_rows.specs.Rows.{outs_of}
use Rattle.group_facts.specs.SlowRows.{close_slow, entry_outs, is_slow, slow_row}
use Rattle.group_facts.specs.Facts.{Known}
use Rattle.group_facts.specs.Legal.{Legal, LegalFrom}
use Rattle.group_facts.specs.Why.{AllSlow, AllWhy, HasParts, HasReasons, ReasonsFrom, SlowOuts, Why, quitting}
use Rattle.group_facts.proofs.Facts.{Facts, known_of}
use Rattle.group_facts.proofs.Known.{entry_keeps, facts_hold, no_facts, one_entry, slow_keeps_facts}
use Rattle.group_facts.proofs.SlowRow.{parting, parting_why}
use Rattle.group_facts.proofs.Table.{reasons}

module _ (settings : Settings) (range : InRange settings) where
  all_why : (before : List Event) (cause : Cause) (events : List Event) (outs : List Out) → Reasons (λ places out. Why settings before cause places out) events outs → AllWhy settings before cause events outs
  all_why before cause events [] h = tt
  all_why before cause events (out ∷ outs) h = (h.0, all_why before cause (events ++ said out ∷ []) outs h.1)

  -- the editors that are slow, one behind the other, each with its outs
  record Turns (events : List Event) (xs : List Out) : Type 0 where
    slow : List SlowOuts
    parts : xs ≡ flat_map (λ (x : SlowOuts). x.outs) slow
    leave : AllSlow settings events slow

  turns : (es : List ℕ) (place : List Event) → Facts settings place → Turns place (outs (each (close_slow settings) es) place)
  turns [] place h = record { slow = []; parts = refl; leave = tt }
  turns (e ∷ es) place h = go (is_slow settings e place) refl (λ z k. turns es z k)
    where
      go : (b : Bool) → is_slow settings e place ≡ b → ((z : List Event) → Facts settings z → Turns z (outs (each (close_slow settings) es) z)) → Turns place (outs (choose b (send (CloseEditor e) ⨾ leave_row settings place e) nothing) place
          ++ outs (each (close_slow settings) es) (behind place (outs (choose b (send (CloseEditor e) ⨾ leave_row settings place e) nothing) place)))
      go true slow others =
          let rest : Turns (behind place (parting settings place e)) (outs (each (close_slow settings) es) (behind place (parting settings place e))) = others (behind place (parting settings place e)) (slow_keeps_facts settings range place e slow h) in
          record {
            slow = record { editor = e; outs = parting settings place e } ∷ rest.slow;
            parts = ap (λ z. parting settings place e ++ z) rest.parts;
            leave = (slow, (all_why place (quitting e) place (parting settings place e) (parting_why settings range place h e slow), rest.leave));
          }
      go false quick others =
          let rest : Turns (behind place []) (outs (each (close_slow settings) es) (behind place [])) = others (behind place []) (subst (Facts settings) (sym (behind_nothing place)) h) in
          record { slow = rest.slow; parts = rest.parts; leave = subst (λ z. AllSlow settings z rest.slow) (behind_nothing place) rest.leave }

  pub entry_parts : (before : List Event) (cause : Cause) → fits_behind before cause ≡ true → Facts settings before → HasParts settings before cause (entry_outs settings before cause)
  entry_parts before cause fits h =
      let later : List Event = behind (with_cause before cause) (outs_of settings before cause) in
      let slow : Turns later (outs (slow_row settings) later) = turns (range_with_len 0 (editors_of later)) later (entry_keeps settings range before cause fits h) in
      record {
        row = outs_of settings before cause;
        slow = slow.slow;
        parts = ap (λ z. outs_of settings before cause ++ z) slow.parts;
        why = all_why before cause (with_cause before cause) (outs_of settings before cause) (reasons settings range before h cause).why;
        leave = slow.leave;
      }

  reasons_from : (before rest : List Entry) → LegalFrom settings before rest → Facts settings (events_of before) → ReasonsFrom settings before rest
  reasons_from before [] legal h = tt
  reasons_from before (entry ∷ rest) legal h = (
    subst (HasParts settings (events_of before) entry.cause) (sym legal.1) (entry_parts (events_of before) entry.cause legal.0 h),
    reasons_from (before ++ entry ∷ []) rest legal.2 (one_entry settings range before entry legal.0 legal.1 h),
  )

  pub reasons_hold : (history : List Entry) → Legal settings history → HasReasons settings history
  reasons_hold history legal = reasons_from [] history legal (no_facts settings range)

  pub known_holds : (history : List Entry) → Legal settings history → Known settings (events_of history)
  known_holds history legal = known_of settings (events_of history) (facts_hold settings range history legal)
