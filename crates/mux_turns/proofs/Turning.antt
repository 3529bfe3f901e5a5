-- E7: an editor is turned away.
use Rattle.std.proofs.Common.{◌≡◌, ℕ, Bool, true, false, List, [], ◌∷◌, refl, ap, sym, subst, ◌∙◌, nat_eq, if◌then◌else◌}
use Rattle.std.specs.Prelude.{Option, Some, None, flat_map, filter}
use Rattle.std.specs.List.{AllByRecursion}
use Rattle.std.specs.Option.{option_and_then}
use Rattle.std.proofs.lemmas.Bool.{eqb-true}
use Rattle.json_text.specs.Json.{Json}
use Rattle.mux_history.specs.declared.out.Out.{Out}
use Rattle.mux_history.specs.declared.out.Out.TheVariants.{ToEditor, CloseEditor}
use Rattle.rpc_message.specs.Message.{Id, id_bytes, message_of, request}
use Rattle.rpc_message.specs.Texts.{error_text, error_tree, request_failed}
use Rattle.group_facts.specs.document_model.specs.Opens.{Open}
use Rattle.group_facts.specs.document_model.specs.Texts.{Texts}
use Rattle.event_model.specs.Does.{Does}
use Rattle.event_model.specs.Event.{Event, behind}
use Rattle.event_model.specs.Phases.{desk_of, is_served}
use Rattle.event_model.specs.Row.{send}
use Rattle.event_model.specs.Settings.{Settings}
use Rattle.event_model.specs.Spawns.{start_of}
use Rattle.event_model.specs.Stages.{is_ready, life_of}
use Rattle.event_model.proofs.Frames.{never}
use Rattle.event_model.proofs.Turns.{behind_more, does_then}
use Rattle.mux_turns.proofs.Ready.{has_start, ready_runs}
use Rattle.group_facts.specs.group_rows.specs.Leaves.{leave_bodies, left}
use Rattle.group_facts.specs.group_rows.specs.Rows.{answer_error}
use Rattle.group_facts.specs.group_rows.specs.Texts.{texts_of}
use Rattle.group_words.specs.declared.placed.Placed.TheVariants.{TooMany}
use Rattle.group_words.specs.Houses.{home_of}
use Rattle.group_words.specs.Rows.{placed_row}
use Rattle.group_facts.specs.mux_model.specs.Documents.{held_at}
use Rattle.mux_tables.specs.declared.tables.Tables.{Tables}
use Rattle.mux_tables.specs.Documents.{AllStand, DocumentsStand, IsOwned, Leaves, SharedStands, leaving, nothing_owed, owes}
use Rattle.mux_tables.specs.Stands.{Stands, start_for}
use Rattle.mux_tables.proofs.Placed.{KeptAt}
use Rattle.mux_tables.proofs.DocumentFrames.{owner_served}
use Rattle.mux_tables.proofs.DocumentMoves.{documents_at}
use Rattle.mux_tables.proofs.DocumentOwed.{owes_nothing}
use Rattle.mux_turns.proofs.Keeping.{keeps_error, refused_says}

-- an editor that isn't served has no documents
unowned : (settings : Settings) (events : List Event) (e g : ℕ) (os : List Open) → is_served (desk_of e events).phase ≡ false → AllByRecursion (IsOwned settings events g) os → filter (λ (o : Open). nat_eq o.editor e) os ≡ []
unowned settings events e g [] off h = refl
unowned settings events e g (o ∷ os) off h = go (nat_eq o.editor e) refl (unowned settings events e g os off h.1)
  where
    go : (b : Bool) → nat_eq o.editor e ≡ b → filter (λ (p : Open). nat_eq p.editor e) os ≡ [] → (if b then o ∷ filter (λ (p : Open). nat_eq p.editor e) os else filter (λ (p : Open). nat_eq p.editor e) os) ≡ []
    go false q rest = rest
    go true q rest = let same : o.editor ≡ e = eqb-true o.editor e q in never (sym (owner_served settings events g o h.0) ∙ ap (λ n. is_served (desk_of n events).phase) same ∙ off)

module _ (settings : Settings) (t u : Tables) (events later : List Event) (e : ℕ) (outs : List Out) (st : Stands settings t events) (ds : DocumentsStand settings nothing_owed t events) (off : is_served (desk_of e events).phase ≡ false) where
  silent : (g s : ℕ) → start_of g events ≡ Some s → leaving settings events g s e ≡ []
  silent g s at = go (is_ready (life_of s events).stage) refl
    where
      none : (k : KeptAt g t.lasts.items) → leave_bodies settings.limits.versions (λ u. held_at s u events) e (texts_of settings g events).opens (texts_of settings g events).opens ≡ []
      none k =
          let d = documents_at settings nothing_owed t events k.place k.last k.at ds in
          let shared = subst (λ n. SharedStands settings events [] n k.last.life.start k.last.life.stage d.0) k.group (ds.each k.place k.last d.0 k.at d.1) in
          let opens : (texts_of settings g events).opens ≡ d.0.opens = ap (λ (k : Texts). k.opens) shared.texts.texts in
          ap (λ os. flat_map (λ (o : Open). left settings.limits.versions e (texts_of settings g events).opens (held_at s o.uri events) o) os)
          (ap (filter (λ (o : Open). nat_eq o.editor e)) opens ∙ unowned settings events e g d.0.opens off shared.owned)

      go : (b : Bool) → is_ready (life_of s events).stage ≡ b → (if b then leave_bodies settings.limits.versions (λ u. held_at s u events) e (texts_of settings g events).opens (texts_of settings g events).opens else []) ≡ []
      go false h = refl
      go true h = none (has_start settings t events g s st at (ready_runs (life_of s events).stage h))

  left_nothing : (home : Option ℕ) (start : ℕ → Option ℕ) → ((g s : ℕ) → start g ≡ Some s → leaving settings events g s e ≡ []) → Leaves settings events e home (option_and_then start home) outs u later → DocumentsStand settings nothing_owed u later
  left_nothing None start quiet h = h.1
  left_nothing (Some g) start quiet h = go (start g) refl h
    where
      go : (o : Option ℕ) → start g ≡ o → Leaves settings events e (Some g) o outs u later → DocumentsStand settings nothing_owed u later
      go None at k = k.1
      go (Some s) at k = owes_nothing settings u g later (subst (λ w. DocumentsStand settings (owes g w) u later) (quiet g s at) k.1)

  pub unserved_leaves : Leaves settings events e (home_of settings e events) (start_for settings e events) outs u later → DocumentsStand settings nothing_owed u later
  unserved_leaves h = left_nothing (home_of settings e events) (λ g. start_of g events) silent h

-- it is turned away
pub turned : (settings : Settings) (t m u : Tables) (before base : List Event) (e : ℕ) (body method : List ℕ) (id : Id) (params : Option Json) (xs ys zs owed : List Out) → message_of body ≡ request id method params → is_served (desk_of e (behind base xs)).phase ≡ false
    → Does (λ t events. Stands settings t events) (answer_error e body request_failed) base t xs m ys → (DocumentsStand settings nothing_owed t (behind base xs) → DocumentsStand settings nothing_owed m (behind base ys)) → Does (λ t events. Stands settings t events) (send (CloseEditor e)) base m ys u zs
    → (Stands settings m (behind base ys) → DocumentsStand settings nothing_owed m (behind base ys) → Leaves settings (behind base ys) e (home_of settings e (behind base ys)) (start_for settings e (behind base ys)) owed u (behind base zs))
    → Does (λ k events. AllStand settings k events) (placed_row e body before TooMany) base (t, nothing_owed) xs (u, nothing_owed) zs
turned settings t m u before base e body method id params xs ys zs owed says off answers stay closes leaves = record {
  done = λ k.
      let first = answers.done k.0 in
      let last = (does_then answers closes).done k.0 in
      let answer = error_text (id_bytes body) request_failed in
      let keeps = keeps_error e answer (behind base xs) (Some id) (error_tree request_failed) (refused_says answer body (id_bytes body) method id params request_failed refl refl says) in
      let phase : (desk_of e (behind base ys)).phase ≡ (desk_of e (behind base xs)).phase = ap (λ es. (desk_of e es).phase) (ap (behind base) first.outs ∙ behind_more base xs (ToEditor e answer ∷ [])) ∙ keeps.0 in
      let ds = stay k.1 in
      record { outs = last.outs; stands = (last.stands, unserved_leaves settings m u (behind base ys) (behind base zs) e owed first.stands ds (ap is_served phase ∙ off) (leaves first.stands ds)) };
}
