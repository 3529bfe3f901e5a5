-- Every place between rows: behind a cause's row, and behind each editor that is slow there. What a row keeps, and each such editor, holds of every legal history.
use Rattle.std.proofs.Common.{◌≡◌, ℕ, true, List, [], ◌∷◌, ◌++◌, append-nil, append_assoc, sym, subst}
use Rattle.mux_history.specs.declared.cause.Cause.{Cause}
use Rattle.mux_history.specs.declared.entry.Entry.{Entry}
use Rattle.event_model.specs.Event.{Event, behind, events_of, with_cause}
use Rattle.event_model.specs.Settings.{Settings}
use Rattle.mux_model.specs.Fits.{fits_behind}
use Rattle.mux_facts.specs.Ranges.{InRange}
use Rattle.mux_facts.proofs.Keeps.{events_more}
use Rattle.group_rows.specs.Rows.{outs_of}
use Rattle.group_facts.specs.SlowRows.{is_slow}
use Rattle.group_facts.specs.Legal.{Legal, LegalFrom}
use Rattle.group_facts.specs.Settled.{Settled}
use Rattle.group_facts.proofs.Facts.{Facts}
use Rattle.group_facts.proofs.Known.{entry_keeps, no_facts, slow_keeps_facts}
use Rattle.group_facts.proofs.Settling.{Rests, entry_rests, no_rests, settled_of, slow_rests}
use Rattle.group_facts.proofs.SlowRow.{parting, whole_entry}

pub data Reached (settings : Settings) : List Event → Type 0 where
  at_first : Reached settings []
  row_behind : (before : List Event) (cause : Cause) → fits_behind before cause ≡ true → Reached settings before → Reached settings (behind (with_cause before cause) (outs_of settings before cause))
  slow_behind : (place : List Event) (e : ℕ) → is_slow settings e place ≡ true → Reached settings place → Reached settings (behind place (parting settings place e))

module _ (settings : Settings) (I : List Event → Type 0) (start : I [])
    (row : (before : List Event) (cause : Cause) → fits_behind before cause ≡ true → Reached settings before → I before → I (behind (with_cause before cause) (outs_of settings before cause)))
    (slow : (place : List Event) (e : ℕ) → is_slow settings e place ≡ true → Reached settings place → I place → I (behind place (parting settings place e))) where
  pub reached_keeps : (events : List Event) → Reached settings events → I events
  reached_keeps events at_first = start
  reached_keeps events (row_behind before cause fits at) = row before cause fits at (reached_keeps before at)
  reached_keeps events (slow_behind place e is at) = slow place e is at (reached_keeps place at)

module _ (settings : Settings) where
  reached_from : (before rest : List Entry) → LegalFrom settings before rest → Reached settings (events_of before) → Reached settings (events_of (before ++ rest))
  reached_from before [] legal h = subst (λ z. Reached settings (events_of z)) (sym (append-nil before)) h
  reached_from before (entry ∷ rest) legal h = subst (λ z. Reached settings (events_of z)) (append_assoc before (entry ∷ []) rest) (reached_from (before ++ entry ∷ []) rest legal.2
      (subst (Reached settings) (sym (events_more before entry)) (subst (λ z. Reached settings (behind (with_cause (events_of before) entry.cause) z)) (sym legal.1)
      (whole_entry settings (Reached settings) (λ place e slow k. slow_behind place e slow k) (events_of before) entry.cause (row_behind (events_of before) entry.cause legal.0 h)))))

  pub reached : (history : List Entry) → Legal settings history → Reached settings (events_of history)
  reached history legal = reached_from [] history legal at_first

  module _ (range : InRange settings) where
    pub facts_at : (events : List Event) → Reached settings events → Facts settings events
    facts_at = reached_keeps settings (Facts settings) (no_facts settings range) (λ before cause fits at h. entry_keeps settings range before cause fits h) (λ place e slow at h. slow_keeps_facts settings range place e slow h)

    pub rests_at : (events : List Event) → Reached settings events → Rests settings range events
    rests_at = reached_keeps settings (Rests settings range) (no_rests settings range) (λ before cause fits at h. entry_rests settings range before cause fits h) (λ place e slow at h. slow_rests settings range place e slow h)

    pub settled_at : (events : List Event) → Reached settings events → Settled settings events
    settled_at events at = settled_of settings range events (rests_at events at)
