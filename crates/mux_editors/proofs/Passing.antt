-- An editor's notification goes on behind a sync.
use Rattle.std.proofs.Common.{◌≡◌, ℕ, true, false, ◌&&◌, List, ◌++◌, map, ap, ap₂, sym, subst, ◌∙◌, codes}
use Rattle.std.specs.Prelude.{Option, Some, slice_get}
use Rattle.std.specs.List.{AllByRecursion}
use Rattle.json_text.specs.Json.{Json}
use Rattle.lsp_method.specs.Class.{class_of}
use Rattle.lsp_method.specs.declared.variants.Origin.TheVariants.{Editor}
use Rattle.mux_history.specs.declared.cause.Cause.TheVariants.{FromEditor}
use Rattle.mux_history.specs.declared.out.Out.{Out}
use Rattle.mux_history.specs.declared.out.Out.TheVariants.{ToServer}
use Rattle.rpc_message.specs.Message.{message_of, notification}
use Rattle.document_model.specs.Sayings.{saying_of, speaks}
use Rattle.event_model.specs.declared.stage.Stage.{Stage}
use Rattle.event_model.specs.Does.{Does}
use Rattle.event_model.specs.Event.{Event, behind, requests, with_cause}
use Rattle.event_model.specs.Phases.{desk_of, is_served}
use Rattle.event_model.specs.Row.{look, outs, send, ◌⨾◌}
use Rattle.event_model.specs.Settings.{Settings}
use Rattle.event_model.specs.Stages.{Life, life_of}
use Rattle.mux_turns.specs.group_facts.specs.Why.{IsQuestion}
use Rattle.mux_model.specs.Methods.{goes_on}
use Rattle.mux_model.specs.Rows.{to_start}
use Rattle.group_rows.specs.Rows.{sync_row}
use Rattle.group_rows.specs.Texts.{is_synced}
use Rattle.group_rows.proofs.Going.{going_silent, going_synced}
use Rattle.mux_tables.specs.declared.tables.Start.{Start}
use Rattle.mux_tables.specs.declared.tables.Tables.{Tables}
use Rattle.mux_tables.specs.Documents.{AllStand, changes_documents, nothing_owed, syncing}
use Rattle.mux_tables.specs.Stands.{Stands, number_in, of_life}
use Rattle.mux_tables.proofs.Starts.{start_at_place}
use Rattle.mux_editors.proofs.Asides.{and_off}
use Rattle.mux_turns.proofs.Ready.{start_from}
use Rattle.mux_editors.proofs.Synced.{same_sync}

-- where a group's last start stands, by the tables
module _ (settings : Settings) (t : Tables) (before : List Event) (g s : ℕ) (stage : Stage) (st : Stands settings t before) (number : slice_get (map number_in t.lasts.items) g ≡ Some s)
    (is : (x : Start) → slice_get t.lasts.items g ≡ Some x → stage ≡ x.life.stage) where
  pub stage_there : stage ≡ (life_of s before).stage
  stage_there =
      let x = start_from t.lasts.items g s number in
      is x.0 x.1 ∙ sym (subst (λ n. (life_of n before).stage ≡ x.0.life.stage) (start_at_place t.lasts.items g s x.0 x.1 number) (ap (λ (l : Life). l.stage) ((st.lasts.each g x.0 x.1).parts of_life)))

module _ (method : List ℕ) (params : Option Json) (going : goes_on (class_of method Editor true) ≡ true) where
  -- it changes no document
  pub passed_keeps : (before : List Event) (e : ℕ) (body : List ℕ) → message_of body ≡ notification method params → changes_documents before e (message_of body) ≡ false
  passed_keeps before e body says = ap (λ m. changes_documents before e m) says ∙ (ap (λ w. is_served (desk_of e before).phase && speaks w) (going_silent method going params) ∙ and_off (is_served (desk_of e before).phase))

  -- and goes on behind a sync
  pub passed_synced : (text : List ℕ) → message_of text ≡ notification method params → is_synced (message_of text) ≡ true
  passed_synced text says = ap is_synced says ∙ going_synced method going params

  module _ (settings : Settings) (t u : Tables) (before : List Event) (body text : List ℕ) (e g s : ℕ) (xs ys : List Out) (asked : AllByRecursion (IsQuestion e) xs) (is : text ≡ body) (says : message_of body ≡ notification method params) where
    abbrev base : List Event
    base = with_cause before (FromEditor e body)

    abbrev now : List Event
    now = behind base xs

    same_outs : outs (look (λ es. to_start s (syncing settings es g s e) ⨾ send (ToServer s text))) now ≡ outs (sync_row settings before g s e ⨾ send (ToServer s body)) now
    same_outs = ap₂ (λ bs w. outs (to_start s bs ⨾ send (ToServer s w)) now) (same_sync settings before body e xs asked g s (ap (requests (codes "shutdown")) says) (ap saying_of says ∙ going_silent method going params)) is

    pub passes_on : Does (λ k events. AllStand settings k events) (look (λ es. to_start s (syncing settings es g s e) ⨾ send (ToServer s text))) base (t, nothing_owed) xs (u, nothing_owed) ys
        → Does (λ k events. AllStand settings k events) (sync_row settings before g s e ⨾ send (ToServer s body)) base (t, nothing_owed) xs (u, nothing_owed) ys
    passes_on d = record { done = λ k. let one = d.done k in record { outs = one.outs ∙ ap (λ ws. xs ++ ws) same_outs; stands = one.stands } }
