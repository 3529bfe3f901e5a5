-- Requests of an editor that wait are refused, under their own ids.
use Rattle.std.proofs.Common.{◌≡◌, ℕ, Bool, true, false, List, [], ◌∷◌, ◌++◌, filter, nat_eq, if◌then◌else◌, refl, ap, ap₂, sym, subst, ◌∙◌, append-nil, append_assoc}
use Rattle.std.specs.List.{AllByRecursion}
use Rattle.mux_history.specs.declared.out.Out.{Out}
use Rattle.mux_history.specs.declared.out.Out.TheVariants.{ToEditor}
use Rattle.rpc_message.specs.Texts.{error_text, request_failed}
use Rattle.rpc_message.specs.ValueTexts.{IsIdText}
use Rattle.rpc_message.proofs.Ids.{request_id_bytes}
use Rattle.event_model.specs.Does.{Alike, Does}
use Rattle.event_model.specs.Event.{Event, behind, said}
use Rattle.event_model.specs.Row.{each, outs}
use Rattle.event_model.specs.Settings.{Settings}
use Rattle.event_model.proofs.Turns.{alike, does_alike, does_knowing, does_look}
use Rattle.group_facts.specs.group_rows.specs.Waiting.{refuse_held, refuse_waiting, waiting_of}
use Rattle.group_facts.specs.mux_facts.proofs.Words.{number_same}
use Rattle.mux_tables.specs.declared.tables.Tables.{Tables}
use Rattle.mux_tables.specs.mux_waits.specs.held_requests.specs.declared.request.Request.{Request}
use Rattle.mux_tables.specs.mux_waits.specs.held_requests.specs.Tables.{ids_of, is_of, of_editor}
use Rattle.mux_tables.specs.mux_waits.specs.Stands.{IsHeld}
use Rattle.mux_tables.specs.Stands.{Stands}
use Rattle.mux_turns.specs.Initials.{IsNamed, refuse_id}
use Rattle.mux_turns.specs.Welcomes.{Informs, IsToEditor}

-- each of them is the editor's own
held_rows : (e : ℕ) (rs : List Request) → Alike (each refuse_waiting (of_editor e rs)) (each (refuse_id e) (ids_of (of_editor e rs)))
held_rows e [] = alike refl
held_rows e (r ∷ rs) = go (held_rows e rs) (nat_eq r.editor e) refl
  where
    go : Alike (each refuse_waiting (filter (is_of e) rs)) (each (refuse_id e) (ids_of (filter (is_of e) rs))) → (b : Bool) → nat_eq r.editor e ≡ b
        → Alike (each refuse_waiting (if b then r ∷ filter (is_of e) rs else filter (is_of e) rs)) (each (refuse_id e) (ids_of (if b then r ∷ filter (is_of e) rs else filter (is_of e) rs)))
    go rest true mine = record {
      sends = λ events.
          let own : r.editor ≡ e = number_same r.editor e mine in
          ap₂ (λ x ws. x ∷ ws) (ap (λ n. ToEditor n (error_text r.id request_failed)) own)
          (ap (λ n. outs (each refuse_waiting (filter (is_of e) rs)) (events ++ said (ToEditor n (error_text r.id request_failed)) ∷ [])) own ∙ rest.sends (events ++ said (ToEditor e (error_text r.id request_failed)) ∷ []));
    }
    go rest false off = rest

held_named : (settings : Settings) (g e : ℕ) (events : List Event) (rs : List Request) → AllByRecursion (IsHeld settings g events) rs → AllByRecursion IsNamed (ids_of (of_editor e rs))
held_named settings g e events [] h = tt
held_named settings g e events (r ∷ rs) h = go (held_named settings g e events rs h.1) (nat_eq r.editor e)
  where
    go : AllByRecursion IsNamed (ids_of (filter (is_of e) rs)) → (b : Bool) → AllByRecursion IsNamed (ids_of (if b then r ∷ filter (is_of e) rs else filter (is_of e) rs))
    go rest true = let k = h.0 in ((k.name, subst (λ w. IsIdText k.name w) (sym k.bytes) (request_id_bytes r.body k.name k.method k.params k.says)), rest)
    go rest false = rest

-- what waits, as the tables give it
pub refuses_held : (settings : Settings) (t u : Tables) (base : List Event) (xs ys : List Out) (g e : ℕ) (ids : List (List ℕ)) → (Stands settings t (behind base xs) → ids ≡ ids_of (of_editor e (waiting_of settings g (behind base xs))))
    → (AllByRecursion IsNamed ids → Does (λ t events. Stands settings t events) (each (refuse_id e) ids) base t xs u ys) → Does (λ t events. Stands settings t events) (refuse_held settings g e) base t xs u ys
refuses_held settings t u base xs ys g e ids are d = does_knowing (λ st.
    let held = st.waiting g in
    let each_named : AllByRecursion IsNamed ids = subst (AllByRecursion IsNamed) (sym (are st)) (held_named settings g e (behind base xs) (waiting_of settings g (behind base xs)) (subst (AllByRecursion (IsHeld settings g (behind base xs))) held.same held.each)) in
    does_look (λ _. refl) (does_alike (λ _. held_rows e (waiting_of settings g (behind base xs)))
    (subst (λ ws. Does (λ t events. Stands settings t events) (each (refuse_id e) ws) base t xs u ys) (are st) (d each_named))))

-- what is said so
pub informs_none : (xs : List Out) → Informs xs xs
informs_none xs = record { more = []; is = sym (append-nil xs); all = tt }

pub informs_one : (xs ys : List Out) (e : ℕ) (text : List ℕ) → ys ≡ xs ++ ToEditor e text ∷ [] → Informs xs ys
informs_one xs ys e text is = record { more = ToEditor e text ∷ []; is = is; all = (tt, tt) }

all_join : (xs ys : List Out) → AllByRecursion IsToEditor xs → AllByRecursion IsToEditor ys → AllByRecursion IsToEditor (xs ++ ys)
all_join [] ys h k = k
all_join (x ∷ xs) ys h k = (h.0, all_join xs ys h.1 k)

pub informs_then : (xs ys zs : List Out) → Informs xs ys → Informs ys zs → Informs xs zs
informs_then xs ys zs p q = record { more = p.more ++ q.more; is = q.is ∙ (ap (λ ws. ws ++ q.more) p.is ∙ append_assoc xs p.more q.more); all = all_join p.more q.more p.all q.all }
