-- Where a start is ready, an editor of its group that doesn't run has no document open.
use Rattle.std.proofs.Common.{◌≡◌, ℕ, Bool, true, false, ◌&&◌, cond, List, [], ◌∷◌, bytes_eq, find, inl, inr, nat_eq, refl, sym, ◌∙◌, ap, arith, ◌⊎◌}
use Rattle.std.specs.Prelude.{Option, Some, None}
use Rattle.std.specs.List.{AllByRecursion}
use Rattle.std.specs.Option.{option_map_or}
use Rattle.std.proofs.lemmas.Bool.Decides.{nat_tests}
use Rattle.document_model.specs.Opens.{Open, is_open_at}
use Rattle.document_model.specs.Texts.{Texts, found, no_texts}
use Rattle.event_model.specs.declared.stage.Stage.TheVariants.{Ended}
use Rattle.event_model.specs.Event.{Event}
use Rattle.event_model.specs.Phases.{desk_of, is_running}
use Rattle.event_model.specs.Settings.{Settings}
use Rattle.event_model.specs.Spawns.{group_of, start_of}
use Rattle.event_model.specs.Stages.{is_ready, life_of}
use Rattle.event_model.proofs.Frames.{never}
use Rattle.group_rows.specs.Answers.{shared_texts}
use Rattle.group_rows.specs.Texts.{texts_of}
use Rattle.mux_tables.specs.declared.tables.Tables.{Tables}
use Rattle.mux_tables.specs.Documents.{DocumentsStand, IsOwned, nothing_owed}
use Rattle.mux_tables.specs.Stands.{Stands}
use Rattle.mux_tables.proofs.DocumentMoves.{documents_at}
use Rattle.mux_turns.proofs.Ready.{has_start, ready_runs}

none_open : (settings : Settings) (events : List Event) (g e : ℕ) (u : List ℕ) (os : List Open) → is_running (desk_of e events).phase ≡ false → AllByRecursion (IsOwned settings events g) os → find (is_open_at e u) os ≡ None
none_open settings events g e u [] idle owned = refl
none_open settings events g e u (o ∷ os) idle owned = go (nat_eq o.editor e) refl (none_open settings events g e u os idle owned.1)
  where
    go : (b : Bool) → nat_eq o.editor e ≡ b → find (is_open_at e u) os ≡ None → cond (b && bytes_eq o.uri u) (Some o) (find (is_open_at e u) os) ≡ None
    go false is rest = rest
    go true is rest = let same : o.editor ≡ e = grind (arith, nat_tests) in never (sym (sym idle ∙ (ap (λ n. is_running (desk_of n events).phase) (sym same) ∙ owned.0.1)))

module _ (settings : Settings) (t : Tables) (before : List Event) (e : ℕ) (st : Stands settings t before) (ds : DocumentsStand settings nothing_owed t before) (idle : is_running (desk_of e before).phase ≡ false) where
  pub unopened : (s : ℕ) → is_ready (life_of s before).stage ≡ true → (u : List ℕ) → found e u (shared_texts settings s before) ≡ None
  unopened s ready u = go (group_of s before) refl
    where
      in_group : (g : ℕ) → start_of g before ≡ Some s → found e u (texts_of settings g before) ≡ None
      in_group g starts =
          let k = has_start settings t before g s st starts (ready_runs (life_of s before).stage ready) in
          let d = documents_at settings nothing_owed t before k.place k.last k.at ds in
          let was = ds.each k.place k.last d.0 k.at d.1 in
          ap (λ n. found e u (texts_of settings n before)) (sym k.group) ∙ (ap (λ (x : Texts). found e u x) was.texts.texts ∙ none_open settings before k.last.life.group e u d.0.opens idle was.owned)

      by : (g : ℕ) → (start_of g before ≡ Some s) ⊎ ((life_of s before).stage ≡ Ended) → found e u (texts_of settings g before) ≡ None
      by g (inl starts) = in_group g starts
      by g (inr ended) = absurd (ready_runs (life_of s before).stage ready ended)

      go : (o : Option ℕ) → group_of s before ≡ o → found e u (option_map_or (λ g. texts_of settings g before) o no_texts) ≡ None
      go None is = refl
      go (Some g) is = by g (st.lasts.old s g is)
