-- X3: an editor is turned out, and what that leaves known of the others.
use Rattle.std.proofs.Common.{◌≡◌, ℕ, List, ap, subst, ◌∙◌}
use Rattle.std.specs.Prelude.{Some}
use Rattle.mux_history.specs.declared.out.Out.{Out}
use Rattle.event_model.specs.Does.{Does}
use Rattle.event_model.specs.Event.{Event, behind}
use Rattle.event_model.specs.declared.phase.Phase.TheVariants.{Waiting}
use Rattle.event_model.specs.Phases.{desk_of}
use Rattle.event_model.specs.Row.{Row, outs}
use Rattle.event_model.specs.Settings.{Settings}
use Rattle.event_model.proofs.Turns.{behind_more, does_knowing, does_then}
use Rattle.group_rows.specs.ExitRows.{turn_out}
use Rattle.group_rows.specs.StopRows.{refuse_initialize}
use Rattle.group_rows.specs.Waiting.{part}
use Rattle.group_words.specs.Houses.{home_of}
use Rattle.mux_starts.specs.Refusing.{Adds}
use Rattle.mux_starts.proofs.PutOut.{asking_later, same_home}
use Rattle.mux_tables.specs.declared.tables.Tables.{Tables}
use Rattle.mux_tables.specs.Documents.{AllStand, DocumentsStand, nothing_owed}
use Rattle.mux_tables.specs.Stands.{Stands}
use Rattle.mux_tables.proofs.DocumentOwed.{all_does}
use Rattle.mux_turns.specs.Initials.{AllHoused}
use Rattle.mux_turns.specs.Welcomes.{AllAsking}
use Rattle.mux_turns.proofs.Failing.{waits_back}

-- what a row says
pub adds_row : {K : Type 0} {Holds : K → List Event → Type 0} {row : Row} {base : List Event} {t u : K} {xs ys : List Out} → Does Holds row base t xs u ys → Holds t (behind base xs) → Adds xs ys
adds_row {K} {Holds} {row} {base} {t} {u} {xs} {ys} d k = record { more = outs row (behind base xs); is = (d.done k).outs }

-- an editor that waits waited before
module _ (base : List Event) (xs ys : List Out) (said : Adds xs ys) where
  waited : (e : ℕ) → (desk_of e (behind base ys)).phase ≡ Waiting → (desk_of e (behind base xs)).phase ≡ Waiting
  waited e at = waits_back e (behind base xs) said.more (subst (λ es. (desk_of e es).phase ≡ Waiting) (ap (behind base) said.is ∙ behind_more base xs said.more) at)

  pub asking_on : AllAsking (behind base xs) → AllAsking (behind base ys)
  asking_on asking e at = asking_later base xs ys said e (asking e (waited e at))

  pub housed_on : (settings : Settings) → AllHoused settings (behind base xs) → AllHoused settings (behind base ys)
  housed_on settings housed e at = let home = housed e (waited e at) in (home.0, same_home base xs ys said settings e ∙ home.1)

pub turned_out : (settings : Settings) (t v u : Tables) (base : List Event) (xs ys zs : List Out) (g e : ℕ) → Does (λ t events. Stands settings t events) (refuse_initialize e) base t xs v ys
    → (DocumentsStand settings nothing_owed t (behind base xs) → DocumentsStand settings nothing_owed v (behind base ys)) → home_of settings e (behind base xs) ≡ Some g
    → (home_of settings e (behind base ys) ≡ Some g → Does (λ k events. AllStand settings k events) (part settings g e) base (v, nothing_owed) ys (u, nothing_owed) zs)
    → Does (λ k events. AllStand settings k events) (turn_out settings g e) base (t, nothing_owed) xs (u, nothing_owed) zs
turned_out settings t v u base xs ys zs g e refuses docs home parts = does_knowing (λ k.
    does_then (all_does settings t v nothing_owed nothing_owed base xs ys refuses (λ _ ds. docs ds))
    (parts (same_home base xs ys (adds_row refuses k.0) settings e ∙ home)))
