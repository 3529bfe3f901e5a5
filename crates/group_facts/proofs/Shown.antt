-- Why a last list of diagnostics is shown to an editor that it fits.
use Rattle.std.proofs.Common.{◌≡◌, ℕ, Bool, true, false, List, [], ◌∷◌, ◌++◌, map, Option, refl, sym, subst, append-nil, append_assoc}
use Rattle.json_text.specs.Json.{Json}
use Rattle.mux_history.specs.declared.cause.Cause.{Cause}
use Rattle.mux_history.specs.declared.out.Out.{Out}
use Rattle.mux_history.specs.declared.out.Out.TheVariants.{ToEditor}
use Rattle.lsp_method.specs.Class.{class_of}
use Rattle.lsp_method.specs.declared.variants.Class.{Class}
use Rattle.lsp_method.specs.declared.variants.Class.TheVariants.{Diagnostics}
use Rattle.lsp_method.specs.declared.variants.Origin.TheVariants.{Server}
use Rattle.rpc_message.specs.Message.{message_of, notification}
use Rattle.event_model.specs.declared.phase.Phase.TheVariants.{Running}
use Rattle.event_model.specs.declared.stage.Stage.TheVariants.{Ready}
use Rattle.event_model.specs.Event.{Event, behind, said}
use Rattle.event_model.specs.Phases.{desk_of}
use Rattle.event_model.specs.Row.{choose, nothing, outs, send}
use Rattle.event_model.specs.Settings.{Settings}
use Rattle.event_model.specs.Stages.{life_of}
use Rattle.event_model.proofs.Frames.{never}
use Rattle.mux_facts.proofs.Reasons.{Because, by_choose, by_nothing, by_send}
use Rattle.group_rows.specs.diagnostics_route.specs.declared.last_list.LastList.{LastList}
use Rattle.group_rows.specs.diagnostics_route.specs.Shown.{fits, shown_text}
use Rattle.group_rows.specs.ListRows.{show, show_full}
use Rattle.group_rows.specs.Lists.{agreement_at, names_list, version_at}
use Rattle.group_rows.proofs.ListTexts.{shown_says}
use Rattle.group_rows.proofs.ListsKept.{IsList}
use Rattle.group_rows.proofs.Versions.{AllMeant, meant_more, meant_said, version_number}
use Rattle.group_facts.specs.Why.{IsFitting, IsShown, Showing}

pub list_is : (c : Class) → names_list c ≡ true → c ≡ Diagnostics
list_is Diagnostics h = refl
list_is _ h = never (sym h)

pub meant_behind : (events : List Event) (xs : List Out) → AllMeant events → AllMeant (behind events xs)
meant_behind events [] h = subst AllMeant (sym (append-nil events)) h
meant_behind events (x ∷ xs) h = subst AllMeant (append_assoc events (said x ∷ []) (map said xs)) (meant_behind (events ++ said x ∷ []) xs (meant_more events (said x) h (meant_said x)))

module _ (settings : Settings) (seen : List Event) (meant : AllMeant seen) (e s : ℕ) (l : LastList) (kept : IsList l) where
  abbrev pub text_shown : List ℕ
  text_shown = shown_text (version_at settings s e seen l.uri) l.body

  -- it is shown as a notification of the start's method
  pub text_says : (new : Option Json) × (message_of text_shown ≡ notification kept.method new)
  text_says = shown_says (version_at settings s e seen l.uri) l.body kept.method kept.params (λ v is. version_number settings s e seen l.uri v meant is) kept.says

  pub shown_why : (before : List Event) (cause : Cause) (R : List Event → Out → Type 0) (events : List Event) → ((body : List ℕ) → IsShown settings before cause events e body → R events (ToEditor e body)) → (life_of s before).stage ≡ Ready → (desk_of e events).phase ≡ Running
      → ((body : List ℕ) → IsFitting settings seen e s l body → Showing settings before cause events e s body) → Because R events (show settings seen s e l)
  shown_why before cause R events given ready running showing = by_choose
      (λ fit. by_send (given text_shown (record {
        start = s;
        shown = showing text_shown (record { fit = fit; bytes = refl });
        ready = ready;
        running = running;
        method = kept.method;
        params = text_says.0;
        class = list_is (class_of kept.method Server true) kept.class;
        says = text_says.1;
      })))
      (λ no. by_nothing)

-- behind it, whether it fits or not
module _ (settings : Settings) (seen : List Event) (e s : ℕ) (l : LastList) (P : List Event → Type 0) (events : List Event) (told : P (events ++ said (ToEditor e (shown_text (version_at settings s e seen l.uri) l.body)) ∷ [])) (untold : P events) where
  pub behind_show : P (behind events (outs (show settings seen s e l) events))
  behind_show = go (fits l (agreement_at settings s e seen l.uri))
    where
      go : (b : Bool) → P (behind events (outs (choose b (send (ToEditor e (shown_text (version_at settings s e seen l.uri) l.body))) nothing) events))
      go true = told
      go false = subst P (sym (append-nil events)) untold

  pub behind_full : P (behind events (outs (show_full settings seen s e l) events))
  behind_full = go l.empty
    where
      go : (b : Bool) → P (behind events (outs (choose b nothing (show settings seen s e l)) events))
      go true = subst P (sym (append-nil events)) untold
      go false = behind_show
