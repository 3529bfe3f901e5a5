-- L1: what was asked of an editor that leaves is refused behind the cancels.
use Rattle.std.proofs.Common.{◌≡◌, ℕ, List, map, ap, subst, ◌∙◌}
use Rattle.std.specs.Prelude.{Some, slice_get}
use Rattle.mux_history.specs.declared.out.Out.{Out}
use Rattle.event_model.specs.declared.stage.Stage.TheVariants.{Ready}
use Rattle.event_model.specs.Does.{Does}
use Rattle.event_model.specs.Event.{Event}
use Rattle.event_model.specs.Row.{each}
use Rattle.event_model.specs.Settings.{Settings}
use Rattle.event_model.specs.Stages.{Life, life_of}
use Rattle.mux_tables.specs.declared.tables.Start.{Start}
use Rattle.mux_tables.specs.declared.tables.Tables.{Tables}
use Rattle.mux_tables.specs.Refusals.{asks_in, of_editor, refusal}
use Rattle.mux_tables.specs.Stands.{Stands, number_in, of_life, stage_in}
use Rattle.mux_tables.proofs.Starts.{start_at_place}
use Rattle.mux_turns.proofs.Departing.{mapped_is, mapped_on}
use Rattle.mux_turns.proofs.Ready.{start_from}

-- where a group's last start stands, as it is kept
pub kept_stage : (settings : Settings) (t : Tables) (before : List Event) (g : ℕ) (x : Start) → Stands settings t before → slice_get t.lasts.items g ≡ Some x → (life_of x.life.start before).stage ≡ x.life.stage
kept_stage settings t before g x st here = ap (λ (l : Life). l.stage) ((st.lasts.each g x here).parts of_life)

-- the last start of a group, where its number, its stage and its asks stay
pub record Stays (u : Tables) (g : ℕ) (x : Start) : Type 0 where
  pub start : Start
  pub at : slice_get u.lasts.items g ≡ Some start
  pub ready : start.life.stage ≡ Ready
  pub own : start.life.start ≡ x.life.start
  pub asks : start.asks ≡ x.asks

pub stays : (t u : Tables) (g : ℕ) (x : Start) → slice_get t.lasts.items g ≡ Some x → x.life.stage ≡ Ready → map number_in u.lasts.items ≡ map number_in t.lasts.items → map stage_in u.lasts.items ≡ map stage_in t.lasts.items → map asks_in u.lasts.items ≡ map asks_in t.lasts.items → Stays u g x
stays t u g x at ready numbers stages asks =
    let there = ap (λ ns. slice_get ns g) numbers ∙ mapped_on number_in t.lasts.items g x at in
    let y = start_from u.lasts.items g x.life.start there in
    record {
      start = y.0;
      at = y.1;
      ready = mapped_is stage_in u.lasts.items g y.0 Ready y.1 (ap (λ ns. slice_get ns g) stages ∙ mapped_on stage_in t.lasts.items g x at ∙ ap Some ready);
      own = start_at_place u.lasts.items g x.life.start y.0 y.1 there;
      asks = mapped_is asks_in u.lasts.items g y.0 x.asks y.1 (ap (λ ns. slice_get ns g) asks ∙ mapped_on asks_in t.lasts.items g x at);
    }

-- its refusals, by what it was before
pub refuses_as : (settings : Settings) (base : List Event) (t u v : Tables) (xs ys : List Out) (g e : ℕ) (x : Start) (y : Stays u g x) → Does (λ t events. Stands settings t events) (each (refusal y.start.life.start) (of_editor e y.start.asks)) base u xs v ys
    → Does (λ t events. Stands settings t events) (each (refusal x.life.start) (of_editor e x.asks)) base u xs v ys
refuses_as settings base t u v xs ys g e x y d =
    subst (λ n. Does (λ t events. Stands settings t events) (each (refusal n) (of_editor e x.asks)) base u xs v ys) y.own
    (subst (λ ks. Does (λ t events. Stands settings t events) (each (refusal y.start.life.start) (of_editor e ks)) base u xs v ys) y.asks d)
