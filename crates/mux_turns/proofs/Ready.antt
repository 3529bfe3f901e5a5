-- The last start of a group, by the tables.
use Rattle.std.proofs.Common.{◌≡◌, ℕ, zero, suc, ◌<◌, List, [], ◌∷◌, Bool, true, false, ◌&&◌, not, map, nat_lt, refl, sym, ◌∙◌, ap, arith}
use Rattle.std.specs.Prelude.{Option, Some, None, slice_get}
use Rattle.std.proofs.lemmas.Bool.Decides.{nat_tests}
use Rattle.event_model.specs.declared.stage.Stage.{Stage}
use Rattle.event_model.specs.declared.stage.Stage.TheVariants.{Unspawned, Spawning, Initializing, Ready, Stopping, Ending, Ended}
use Rattle.event_model.specs.Event.{Event}
use Rattle.event_model.specs.Settings.{Settings}
use Rattle.event_model.specs.Spawns.{start_of}
use Rattle.event_model.specs.Stages.{is_ready, life_of}
use Rattle.mux_tables.specs.declared.tables.Start.{Start}
use Rattle.mux_tables.specs.declared.tables.Tables.{Tables}
use Rattle.mux_tables.specs.Stands.{Stands, number_in}
use Rattle.mux_tables.proofs.Homes.{kept_start}
use Rattle.mux_tables.proofs.Placed.{KeptAt}

-- a group that has one that didn't end
pub has_start : (settings : Settings) (t : Tables) (before : List Event) (g s : ℕ) → Stands settings t before → start_of g before ≡ Some s → ((life_of s before).stage ≡ Ended → ⊥) → KeptAt g t.lasts.items
has_start settings t before g s st starts runs = kept_start settings t before g st s starts runs

pub ready_runs : (stage : Stage) → is_ready stage ≡ true → stage ≡ Ended → ⊥
ready_runs stage h e = absurd (clash (sym h ∙ ap is_ready e))
  where
    clash : true ≡ false → ⊥
    clash k = cc

pub is_that_ready : (stage : Stage) → is_ready stage ≡ true → stage ≡ Ready
is_that_ready Ready h = refl
is_that_ready Unspawned h = absurd (cc)
is_that_ready Spawning h = absurd (cc)
is_that_ready Initializing h = absurd (cc)
is_that_ready Stopping h = absurd (cc)
is_that_ready Ending h = absurd (cc)
is_that_ready Ended h = absurd (cc)

-- it takes a request
pub taken : (x : Start) (b : Bool) → b ≡ (is_ready x.life.stage && nat_lt x.ids.next x.ids.limit) → b ≡ true → (x.life.stage ≡ Ready) × (x.ids.next < x.ids.limit)
taken x b is t = go (is_ready x.life.stage) (nat_lt x.ids.next x.ids.limit) refl refl (sym is ∙ t)
  where
    go : (p q : Bool) → is_ready x.life.stage ≡ p → nat_lt x.ids.next x.ids.limit ≡ q → (p && q) ≡ true → (x.life.stage ≡ Ready) × (x.ids.next < x.ids.limit)
    go true true r l h = (is_that_ready x.life.stage r, grind (arith, nat_tests))
    go true false r l h = absurd (cc)
    go false q r l h = absurd (cc)

-- one of which the number is known
pub start_from : (xs : List Start) (g s : ℕ) → slice_get (map number_in xs) g ≡ Some s → (x : Start) × (slice_get xs g ≡ Some x)
start_from [] g s h = absurd (none s h)
  where
    none : (s : ℕ) → ◌≡◌ {A = Option ℕ} None (Some s) → ⊥
    none s h = cc
start_from (x ∷ xs) zero s h = (x, refl)
start_from (x ∷ xs) (suc g) s h = start_from xs g s h

-- it doesn't wait
pub is_so : (b : Bool) → not b ≡ false → b ≡ true
is_so true h = refl
is_so false h = absurd (cc)
