-- X7: groups end, and then programs.
use Rattle.std.proofs.Common.{◌≡◌, ℕ, zero, suc, ◌<◌, ◌^◌, true, false, List, [], ◌∷◌, ◌++◌, length, take, get_or, ap, sym, subst, ◌∙◌, append-nil, append_assoc, arith}
use Rattle.std.specs.Prelude.{Some, slice_get, map}
use Rattle.mux_history.specs.declared.cause.Cause.TheVariants.{Tick}
use Rattle.mux_history.specs.declared.out.Out.{Out}
use Rattle.mux_history.specs.declared.out.Out.TheVariants.{ToEditor, ToServer, Spawn, CloseEditor, EndServer}
use Rattle.event_model.specs.declared.stage.Stage.{Stage}
use Rattle.event_model.specs.declared.stage.Stage.TheVariants.{Stopping, Ended}
use Rattle.event_model.specs.Does.{Does, Done}
use Rattle.event_model.specs.Event.{Event, behind, said, with_cause}
use Rattle.event_model.specs.Row.{each, outs, send}
use Rattle.event_model.specs.Settings.{Settings}
use Rattle.event_model.specs.Stages.{life_of}
use Rattle.event_model.proofs.Frames.{never}
use Rattle.event_model.proofs.Turns.{behind_more, does_entry, does_knowing, does_then}
use Rattle.mux_turns.specs.mux_facts.proofs.Reasons.{Because, Reasons}
use Rattle.mux_turns.specs.group_facts.specs.Facts.{Known, Numbered}
use Rattle.mux_turns.specs.group_facts.proofs.TickRow.{programs_stop}
use Rattle.group_rows.specs.Ticks.{due_of, is_stopping, overdue_of, tick_row}
use Rattle.group_words.specs.Rows.{end_group}
use Rattle.mux_tables.specs.declared.tables.Start.{Start}
use Rattle.mux_tables.specs.declared.tables.Tables.{Tables}
use Rattle.mux_tables.specs.Documents.{AllStand, DocumentsStand, nothing_owed}
use Rattle.mux_tables.specs.Stands.{Stands, is_over, number_in}
use Rattle.mux_starts.specs.Stops.{AreStopping}
use Rattle.mux_turns.proofs.Evictions.{numbered_ticked, stage_here}

-- Programs end

-- each at its place
stopping_at : (starts : List ℕ) (i d : ℕ) (events : List Event) → AreStopping events starts → i < length starts → (life_of (get_or starts i d) (behind events (outs (each (λ s. send (EndServer s)) (take i starts)) events))).stage ≡ Stopping
stopping_at [] i d events h within = absurd (omega arith)
stopping_at (s ∷ starts) zero d events h within = ap (λ es. (life_of s es).stage) (append-nil events) ∙ h.0
stopping_at (s ∷ starts) (suc i) d events h within =
    ap (λ es. (life_of (get_or starts i d) es).stage) (sym (append_assoc events (said (EndServer s) ∷ []) (map said (outs (each (λ n. send (EndServer n)) (take i starts)) (events ++ said (EndServer s) ∷ [])))))
    ∙ stopping_at starts i d (events ++ said (EndServer s) ∷ []) h.1 (omega (arith, within))

pub program_next : (base : List Event) (xs ys : List Out) (starts : List ℕ) (i d : ℕ) → AreStopping (behind base xs) starts → i < length starts → ys ≡ xs ++ outs (each (λ s. send (EndServer s)) (take i starts)) (behind base xs) → (life_of (get_or starts i d) (behind base ys)).stage ≡ Stopping
program_next base xs ys starts i d h within sent = ap (λ es. (life_of (get_or starts i d) es).stage) (ap (behind base) sent ∙ behind_more base xs (outs (each (λ s. send (EndServer s)) (take i starts)) (behind base xs))) ∙ stopping_at starts i d (behind base xs) h within

abbrev IsAwaited : List Event → Out → Type 0
IsAwaited events (EndServer s) = (life_of s events).stage ≡ Stopping
IsAwaited events (ToEditor e body) = Unit {0}
IsAwaited events (ToServer s body) = Unit {0}
IsAwaited events (Spawn s g) = Unit {0}
IsAwaited events (CloseEditor e) = Unit {0}

are_stopping : (starts : List ℕ) (events : List Event) → Reasons IsAwaited events (outs (each (λ s. send (EndServer s)) starts) events) → AreStopping events starts
are_stopping [] events h = tt
are_stopping (s ∷ starts) events h = (h.0, are_stopping starts (events ++ said (EndServer s) ∷ []) h.1)

pub stopping_runs : (stage : Stage) → is_stopping stage ≡ true → stage ≡ Ended → ⊥
stopping_runs Stopping h e = cc
stopping_runs other h e = never (sym h)

-- one that is awaited is the last start of its group
module _ (settings : Settings) (t : Tables) (base : List Event) (xs : List Out) (s : ℕ) (at : (life_of s (behind base xs)).stage ≡ Stopping) where
  abbrev Ends : Tables → List Out → Type 0
  Ends u ys = Does (λ k events. AllStand settings k events) (send (EndServer s)) base (t, nothing_owed) xs (u, nothing_owed) ys

  pub ends_nowhere : (Stands settings t (behind base xs) → is_over (life_of s (behind base xs)).stage ≡ true) → Ends t xs
  ends_nowhere over = does_knowing (λ k. never (sym (over k.0) ∙ ap is_over at))

  pub ends_unstopped : (g : ℕ) (x : Start) → slice_get t.lasts.items g ≡ Some x → slice_get (map number_in t.lasts.items) g ≡ Some s → is_stopping x.life.stage ≡ false → Ends t xs
  ends_unstopped g x here number off = does_knowing (λ k. never (sym (ap is_stopping (sym (stage_here settings t t base xs xs g s x here number k.0) ∙ at)) ∙ off))

-- The whole entry

module _ (settings : Settings) (before : List Event) (now : ℕ) (known : Known settings before) (t0 : Tables) (st : Stands settings t0 before) where
  abbrev E : List Event
  E = with_cause before (Tick now)

  range : settings.limits.requests < 2 ^ 32
  range = subst (λ n. n < 2 ^ 32) (sym st.requests) st.range

  pub ticks : (t u v : Tables) (xs ys zs : List Out) (due late : List ℕ) → xs ≡ [] → Stands settings t E → DocumentsStand settings nothing_owed t E → due ≡ due_of settings before now → late ≡ overdue_of settings before now
      → (Numbered settings (behind E xs) → Does (λ k events. AllStand settings k events) (each end_group due) E (t, nothing_owed) xs (u, nothing_owed) ys)
      → (AreStopping (behind E ys) late → Does (λ k events. AllStand settings k events) (each (λ s. send (EndServer s)) late) E (u, nothing_owed) ys (v, nothing_owed) zs)
      → Done (λ k events. AllStand settings k events) (tick_row settings before now) E [] (v, nothing_owed) zs
  ticks t u v xs ys zs due late first stands documents ends over groups programs =
      let none : behind E xs ≡ E = ap (behind E) first ∙ append-nil E in
      let d = groups (subst (Numbered settings) (sym none) (numbered_ticked settings before now known.numbered)) in
      let one = d.done (subst (λ es. AllStand settings (t, nothing_owed) es) (sym none) (stands, documents)) in
      let sent : ys ≡ outs (each end_group (due_of settings before now)) E = one.outs ∙ ap (λ ws. ws ++ outs (each end_group due) (behind E xs)) first ∙ ap (outs (each end_group due)) none ∙ ap (λ gs. outs (each end_group gs) E) ends in
      let why : Because IsAwaited (behind E (outs (each end_group (due_of settings before now)) E)) (each (λ s. send (EndServer s)) (overdue_of settings before now)) = programs_stop settings range before known.bounded now IsAwaited (λ s places at. at) in
      let each_stops : AreStopping (behind E ys) late = subst (λ es. AreStopping es late) (sym (ap (behind E) sent)) (subst (AreStopping (behind E (outs (each end_group (due_of settings before now)) E))) (sym over) (are_stopping (overdue_of settings before now) _ why.why)) in
      does_entry (stands, documents) (does_then (subst (λ gs. Does (λ k events. AllStand settings k events) (each end_group gs) E (t, nothing_owed) [] (u, nothing_owed) ys) ends
      (subst (λ ws. Does (λ k events. AllStand settings k events) (each end_group due) E (t, nothing_owed) ws (u, nothing_owed) ys) first d))
      (subst (λ ss. Does (λ k events. AllStand settings k events) (each (λ s. send (EndServer s)) ss) E (u, nothing_owed) ys (v, nothing_owed) zs) over (programs each_stops)))
