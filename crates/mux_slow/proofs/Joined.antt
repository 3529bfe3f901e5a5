-- An editor that is there joined.
use Rattle.std.proofs.Common.{◌≡◌, ℕ, ◌<◌, ◌≤◌, Bool, true, false, List, length, nat_lt, refl, sym, ◌∙◌, ap, subst}
use Rattle.std.proofs.lemmas.Bool.{ltb-false, ltb-true}
use Rattle.std.proofs.lemmas.Option.{slice_get_past}
use Rattle.event_model.specs.Event.{Event}
use Rattle.event_model.specs.Phases.{desk_of, editors_of, is_there}
use Rattle.event_model.specs.Settings.{Settings}
use Rattle.event_model.proofs.Frames.{never}
use Rattle.mux_tables.specs.declared.tables.Tables.{Tables}
use Rattle.mux_tables.specs.Stands.{Stands, phase_in}

pub there_joined : (settings : Settings) (kept : Tables) (place : List Event) → Stands settings kept place → (e : ℕ) → is_there (desk_of e place).phase ≡ true → e < editors_of place
there_joined settings kept place st e there = go (nat_lt e (editors_of place)) refl
  where
    go : (b : Bool) → nat_lt e (editors_of place) ≡ b → e < editors_of place
    go true inside = ltb-true e (editors_of place) inside
    go false past =
        let beyond : length kept.editors ≤ e = subst (λ n. n ≤ e) st.house.editors.count (ltb-false e (editors_of place) past) in
        never (sym there ∙ (ap is_there (st.house.editors.phase e) ∙ ap (λ o. is_there (phase_in o)) (slice_get_past kept.editors e beyond)))
