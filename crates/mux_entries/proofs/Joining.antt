-- J1: an editor joins, behind a stop or before one.
use Rattle.std.proofs.Common.{◌≡◌, ℕ, true, false, List, [], refl, ap, sym, ◌∙◌, append-nil}
use Rattle.mux_history.specs.declared.cause.Cause.TheVariants.{Joined}
use Rattle.mux_history.specs.declared.out.Out.{Out}
use Rattle.mux_history.specs.declared.out.Out.TheVariants.{CloseEditor}
use Rattle.event_model.specs.Does.{Does, Done}
use Rattle.event_model.specs.Event.{Event, behind, heard, with_cause}
use Rattle.event_model.specs.Phases.{Desk, desk_behind, desk_of, is_served}
use Rattle.event_model.specs.Row.{nothing, send}
use Rattle.event_model.specs.Settings.{Settings}
use Rattle.event_model.proofs.Frames.{one_more}
use Rattle.event_model.proofs.Turns.{does_nothing}
use Rattle.group_rows.specs.StopRows.{joined_row, stopped}
use Rattle.mux_starts.specs.mux_tables.specs.declared.tables.Tables.{Tables}
use Rattle.mux_starts.specs.mux_tables.specs.Documents.{AllStand, DocumentsStand, nothing_owed}
use Rattle.mux_starts.specs.mux_tables.specs.Stands.{Stands}
use Rattle.mux_starts.specs.mux_tables.proofs.DocumentOwed.{all_does}
use Rattle.mux_starts.specs.mux_tables.proofs.Frames.{itself}
use Rattle.mux_starts.specs.mux_tables.proofs.Halted.{stopped_more}
use Rattle.mux_editors.proofs.Turns.{is_first, is_second, whole_entry}
use Rattle.mux_entries.proofs.EditorRows.{done_alike}

module _ (settings : Settings) (before : List Event) (e : ℕ) (t u : Tables) (xs ys : List Out) (first : xs ≡ []) (stands : Stands settings t (with_cause before (Joined e))) (docs : DocumentsStand settings nothing_owed t (with_cause before (Joined e))) where
  abbrev base : List Event
  base = with_cause before (Joined e)

  same : stopped base ≡ stopped before
  same = stopped_more before (heard (Joined e))

  unserved : is_served (desk_of e (behind base xs)).phase ≡ false
  unserved = ap (λ ws. is_served (desk_of e (behind base ws)).phase) first ∙ (ap (λ es. is_served (desk_of e es).phase) (append-nil base)
      ∙ (ap (λ (d : Desk). is_served d.phase) (one_more (desk_behind e) _ _ before (heard (Joined e)) refl) ∙ rw (itself e) refl))

  pub closes_joined : stopped base ≡ true → Does (λ t events. Stands settings t events) (send (CloseEditor e)) base t xs u ys
      → (is_served (desk_of e (behind base xs)).phase ≡ false → Stands settings t (behind base xs) → DocumentsStand settings nothing_owed t (behind base xs) → DocumentsStand settings nothing_owed u (behind base ys))
      → Done (λ k events. AllStand settings k events) (joined_row before e) base [] (u, nothing_owed) ys
  closes_joined halted d left = done_alike (λ k events. AllStand settings k events) (is_first refl (sym same ∙ halted))
      (whole_entry (λ k events. AllStand settings k events) (send (CloseEditor e)) base (t, nothing_owed) (u, nothing_owed) xs ys first (stands, docs) (all_does settings t u nothing_owed nothing_owed base xs ys d (λ st ds. left unserved st ds)))

pub joins : (settings : Settings) (before : List Event) (e : ℕ) (t : Tables) (xs : List Out) → xs ≡ [] → Stands settings t (with_cause before (Joined e)) → DocumentsStand settings nothing_owed t (with_cause before (Joined e)) → stopped (with_cause before (Joined e)) ≡ false
    → Done (λ k events. AllStand settings k events) (joined_row before e) (with_cause before (Joined e)) [] (t, nothing_owed) xs
joins settings before e t xs first stands docs off = done_alike (λ k events. AllStand settings k events) (is_second refl (sym (same settings before e t t xs xs first stands docs) ∙ off))
    (whole_entry (λ k events. AllStand settings k events) nothing (with_cause before (Joined e)) (t, nothing_owed) (t, nothing_owed) xs xs first (stands, docs) does_nothing)
