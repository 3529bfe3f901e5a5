-- Each cause of a made input can come behind those before it, where each program that begins is one that the core asked for.
use Rattle.std.proofs.Common.{◌≡◌, ℕ, true, List, [], ◌∷◌, ◌++◌, flat_map, refl, sym, subst}
use Rattle.mux_history.specs.declared.cause.Cause.{Cause}
use Rattle.mux_history.specs.declared.cause.Cause.TheVariants.{Joined, FromEditor, EditorGone, Started, StartFailed, FromServer, ServerGone, Drained, Tick}
use Rattle.mux_history.specs.declared.entry.Entry.{Entry}
use Rattle.mux_history.specs.declared.out.Out.{Out}
use Rattle.mux_history.specs.declared.out.Out.TheVariants.{ToEditor, ToServer, Spawn, CloseEditor, EndServer}
use Rattle.std.proofs.lemmas.List.Sums.{fold-append}
use Rattle.event_model.specs.Event.{Event, behind, events_of, said, with_cause, with_entry}
use Rattle.event_model.specs.Settings.{Settings}
use Rattle.mux_model.specs.Fits.{fits, fits_behind}
use Rattle.mux_facts.proofs.Reasons.{Reasons, reasons_both, reasons_keep}
use Rattle.mux_facts.specs.Ranges.{InRange}
use Rattle.drive_text.specs.Made.{made}
use Rattle.group_facts.specs.SlowRows.{entry_outs}
use Rattle.group_facts.specs.Why.{AllSlow, AllWhy, HasParts, SlowOuts, Why, quitting}
use Rattle.group_facts.proofs.Everywhere.{entry_parts}
use Rattle.group_facts.proofs.Facts.{Facts}
use Rattle.group_facts.proofs.Known.{no_facts, one_entry}
use Rattle.made_histories.specs.Coming.{AllAwaited, AllCome, AllFit, Comers, IsAwaited, comers_behind, entry_for, may_come, no_comers}
use Rattle.made_histories.proofs.Comes.{made_comes}
use Rattle.made_histories.proofs.Ties.{IsAwaitedAt, Numbered, Tied, cause_fits, cause_ties, no_ties, out_ties}

-- each out of an entry keeps the numbers of starts
numbered : (settings : Settings) (before : List Event) (cause : Cause) (events : List Event) (out : Out) → Why settings before cause events out → Numbered events out
numbered settings before cause events (ToEditor e body) why = tt
numbered settings before cause events (ToServer s body) why = tt
numbered settings before cause events (Spawn s g) why = why.0
numbered settings before cause events (CloseEditor e) why = tt
numbered settings before cause events (EndServer s) why = tt

all_numbered : (settings : Settings) (before : List Event) (cause : Cause) (events : List Event) (outs : List Out) → AllWhy settings before cause events outs → Reasons Numbered events outs
all_numbered settings before cause events [] why = tt
all_numbered settings before cause events (out ∷ outs) why = (numbered settings before cause events out why.0, all_numbered settings before cause (events ++ said out ∷ []) outs why.1)

slow_numbered : (settings : Settings) (events : List Event) (xs : List SlowOuts) → AllSlow settings events xs → Reasons Numbered events (flat_map (λ (x : SlowOuts). x.outs) xs)
slow_numbered settings events [] slow = tt
slow_numbered settings events (x ∷ xs) slow = reasons_both Numbered events x.outs (flat_map (λ (y : SlowOuts). y.outs) xs)
    (all_numbered settings events (quitting x.editor) events x.outs slow.1.0) (slow_numbered settings (behind events x.outs) xs slow.1.1)

entry_numbered : (settings : Settings) (before : List Event) (cause : Cause) (outs : List Out) → HasParts settings before cause outs → Reasons Numbered (with_cause before cause) outs
entry_numbered settings before cause outs h = subst (Reasons Numbered (with_cause before cause)) (sym h.parts)
    (reasons_both Numbered (with_cause before cause) h.row (flat_map (λ (x : SlowOuts). x.outs) h.slow) (all_numbered settings before cause (with_cause before cause) h.row h.why)
    (slow_numbered settings (behind (with_cause before cause) h.row) h.slow h.leave))

module _ (settings : Settings) (range : InRange settings) where
  entry_ties : (x : Comers) (before : List Event) (cause : Cause) → may_come x cause ≡ true → fits_behind before cause ≡ true → Facts settings before → Tied x before
      → Tied (comers_behind x cause) (behind (with_cause before cause) (entry_outs settings before cause))
  entry_ties x before cause come fits facts h = reasons_keep Numbered (Tied (comers_behind x cause)) (out_ties (comers_behind x cause)) (with_cause before cause) (entry_outs settings before cause)
      (entry_numbered settings before cause (entry_outs settings before cause) (entry_parts settings range before cause fits facts)) (cause_ties x before cause come fits (facts.steady).starts h)

  awaited_at : (history : List Entry) (cause : Cause) → IsAwaited history cause → IsAwaitedAt (events_of history) cause
  awaited_at history (Joined e) h = tt
  awaited_at history (FromEditor e body) h = tt
  awaited_at history (EditorGone e why) h = tt
  awaited_at history (Started s) h = h
  awaited_at history (StartFailed s) h = tt
  awaited_at history (FromServer s body) h = tt
  awaited_at history (ServerGone s) h = tt
  awaited_at history (Drained e k) h = tt
  awaited_at history (Tick t) h = tt

  from_here : (x : Comers) (history : List Entry) (causes : List Cause) → Facts settings (events_of history) → Tied x (events_of history) → AllCome x causes → AllAwaited settings history causes → AllFit settings history causes
  from_here x history [] facts ties come awaited = tt
  from_here x history (cause ∷ causes) facts ties come awaited =
      let fits : fits_behind (events_of history) cause ≡ true = cause_fits x (events_of history) cause come.0 (awaited_at history cause awaited.0) ties in
      let entry : Entry = entry_for settings history cause in (
        fits,
        from_here (comers_behind x cause) (history ++ entry ∷ []) causes (one_entry settings range history entry fits refl facts)
            (subst (Tied (comers_behind x cause)) (sym (fold-append with_entry [] history (entry ∷ []))) (entry_ties x (events_of history) cause come.0 fits facts ties)) come.1 awaited.1,
      )

  pub made_fits : (n seed : ℕ) → AllAwaited settings [] (made n seed) → AllFit settings [] (made n seed)
  made_fits n seed awaited = from_here no_comers [] (made n seed) (no_facts settings range) (no_ties no_comers refl refl) (made_comes n seed) awaited
