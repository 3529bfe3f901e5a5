-- Open requests of one editor that are refused, one behind the other: the others stay open.
use Rattle.std.proofs.Common.{◌≡◌, ℕ, ◌+◌, ◌<◌, ◌≤◌, Bool, true, false, cond, List, [], ◌∷◌, ◌++◌, nat_eq, if◌then◌else◌, Option, Some, refl, sym, ◌∙◌, ap, ap₂, subst, arith}
use Rattle.std.specs.List.{AllByRecursion}
use Rattle.json_text.specs.Json.{Json}
use Rattle.mux_history.specs.declared.out.Out.TheVariants.{ToEditor}
use Rattle.rpc_message.specs.Message.{Id, error, message_of, same_id}
use Rattle.rpc_message.specs.Texts.{error_text, error_tree, request_failed}
use Rattle.rpc_message.specs.ValueTexts.{IsIdText}
use Rattle.rpc_message.proofs.Fixed.{error_law, id_as_response}
use Rattle.event_model.specs.declared.phase.Phase.{Phase}
use Rattle.event_model.specs.Event.{Event, said}
use Rattle.event_model.specs.Phases.{Desk, desk_of, phase_told}
use Rattle.event_model.specs.Requests.{answered_id, is_open, open_of, without}
use Rattle.mux_facts.proofs.Folds.{desk_more, opens_more}
use Rattle.mux_facts.proofs.Late.{error_told}
use Rattle.mux_facts.proofs.Lists.{all_of}
use Rattle.mux_facts.proofs.Words.{id_same, same_number, still_open}
use Rattle.group_rows.specs.Forwarded.{Forwarded}
use Rattle.group_facts.specs.Facts.{IsForwarded, OneRequest, is_early}
use Rattle.group_facts.proofs.Sent.{Rising}

-- Requests of one editor that are open at one start have different ids

abbrev pub Apart2 : Forwarded → Forwarded → Type 0
Apart2 f g = (id : Id) → IsIdText id f.id → IsIdText id g.id → ⊥

abbrev pub Differ : List Forwarded → Type 0
Differ [] = Unit {0}
Differ (f ∷ fs) = AllByRecursion (Apart2 f) fs × Differ fs

above_differ : (s e : ℕ) (f : Forwarded) (low next : ℕ) (fs : List Forwarded) → f.editor ≡ e → f.number < low → Rising low next fs → AllByRecursion (λ (g : Forwarded). g.editor ≡ e) fs → AllByRecursion (OneRequest s f s) fs → AllByRecursion (Apart2 f) fs
above_differ s e f low next [] mine below rises editors one = tt
above_differ s e f low next (g ∷ fs) mine below rises editors one = (
  λ id text other. let same : g.number ≡ f.number = (one.0 id (editors.0 ∙ sym mine) text other).1 in let least : low ≤ g.number = rises.0 in omega (arith, same, least, below),
  above_differ s e f (g.number + 1) next fs mine (let least : low ≤ g.number = rises.0 in omega (arith, least, below)) rises.1 editors.1 one.1,
)

pub differ_of : (s e low next : ℕ) (fs : List Forwarded) → Rising low next fs → AllByRecursion (λ (f : Forwarded). f.editor ≡ e) fs → AllByRecursion (λ f. AllByRecursion (OneRequest s f s) fs) fs → Differ fs
differ_of s e low next [] rises editors one = tt
differ_of s e low next (f ∷ fs) rises editors one = (
  above_differ s e f (f.number + 1) next fs editors.0 (omega arith) rises.1 editors.1 (one.0).1,
  differ_of s e (f.number + 1) next fs rises.1 editors.1 (all_of (λ (g : Forwarded). AllByRecursion (OneRequest s g s) (f ∷ fs)) (λ (g : Forwarded). AllByRecursion (OneRequest s g s) fs) (λ g k. k.1) fs one.1),
)

-- Phases

told_there : (phase : Phase) (initialize : List ℕ) (id : Option Id) (body : List ℕ) (x : Json) → message_of body ≡ error id x → phase_told phase initialize (message_of body) ≡ phase
told_there phase initialize id body x says = ap (phase_told phase initialize) says ∙ error_told phase initialize id x

-- behind an error to an editor it stands as it stood
pub desk_refused : (e : ℕ) (events : List Event) (body : List ℕ) (id : Option Id) (x : Json) → message_of body ≡ error id x → desk_of e (events ++ said (ToEditor e body) ∷ []) ≡ desk_of e events
desk_refused e events body id x says = desk_more e events (said (ToEditor e body))
    ∙ ap (λ b. if b then record { phase = phase_told (desk_of e events).phase (desk_of e events).initialize (message_of body); initialize = (desk_of e events).initialize } else desk_of e events) (same_number e)
    ∙ ap (λ p. record { phase = p; initialize = (desk_of e events).initialize }) (told_there (desk_of e events).phase (desk_of e events).initialize id body x says)

-- The requests that are open

abbrev pub lost_text : Forwarded → List ℕ
lost_text f = error_text f.id request_failed

pub lost_says : (events : List Event) (f : Forwarded) (k : IsForwarded events f) → message_of (lost_text f) ≡ error (Some k.id) (error_tree request_failed)
lost_says events f k = error_law (Some k.id) f.id request_failed (id_as_response k.id f.id k.text)

pub next_asker : (e : ℕ) (events : List Event) (f : Forwarded) (k : IsForwarded events f) → f.editor ≡ e → (g : Forwarded) → g.editor ≡ e → Apart2 f g → IsForwarded events g → IsForwarded (events ++ said (ToEditor f.editor (lost_text f)) ∷ []) g
next_asker e events f k mine g its apart j = record {
  id = j.id;
  text = j.text;
  late = ap (λ (d : Desk). is_early d.phase) desk ∙ j.late;
  waits = ap (is_open j.id) opens ∙ still_open k.id j.id (open_of g.editor events) j.waits (other (same_id k.id j.id) refl);
}
  where
    same : f.editor ≡ g.editor
    same = mine ∙ sym its

    desk : desk_of g.editor (events ++ said (ToEditor f.editor (lost_text f)) ∷ []) ≡ desk_of g.editor events
    desk = subst (λ z. desk_of z (events ++ said (ToEditor f.editor (lost_text f)) ∷ []) ≡ desk_of z events) same (desk_refused f.editor events (lost_text f) (Some k.id) (error_tree request_failed) (lost_says events f k))

    opens : open_of g.editor (events ++ said (ToEditor f.editor (lost_text f)) ∷ []) ≡ without (Some k.id) (open_of g.editor events)
    opens = opens_more g.editor events (said (ToEditor f.editor (lost_text f)))
        ∙ ap₂ (λ b m. cond b (without (answered_id m) (open_of g.editor events)) (open_of g.editor events)) (ap (nat_eq f.editor) (sym same) ∙ same_number f.editor) (lost_says events f k)

    other : (b : Bool) → same_id k.id j.id ≡ b → b ≡ false
    other true is = absurd (apart k.id k.text (subst (λ z. IsIdText z g.id) (sym (id_same k.id j.id is)) j.text))
    other false is = refl
