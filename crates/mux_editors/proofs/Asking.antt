-- An editor's request goes on behind a sync.
use Rattle.std.proofs.Common.{◌≡◌, ℕ, ◌<◌, ◌^◌, true, false, not, List, [], ◌∷◌, ◌++◌, map, ap, ap₂, sym, subst, ◌∙◌, codes, arith}
use Rattle.std.specs.Prelude.{Option, Some, decimal, slice_get}
use Rattle.std.specs.List.{AllByRecursion}
use Rattle.json_text.specs.Json.{Json}
use Rattle.mux_history.specs.declared.cause.Cause.TheVariants.{FromEditor}
use Rattle.mux_history.specs.declared.out.Out.{Out}
use Rattle.mux_history.specs.declared.out.Out.TheVariants.{ToServer}
use Rattle.rpc_message.specs.Message.{Id, id_bytes, integer, message_of, request}
use Rattle.document_model.specs.Sayings.{nothing, saying_of}
use Rattle.event_model.specs.declared.stage.Stage.TheVariants.{Ready}
use Rattle.event_model.specs.Does.{Does}
use Rattle.event_model.specs.Event.{Event, behind, heard, requests, with_cause}
use Rattle.event_model.specs.Requests.{is_own}
use Rattle.event_model.specs.Row.{look, outs, send, ◌⨾◌}
use Rattle.event_model.specs.Settings.{Settings}
use Rattle.mux_model.specs.Documents.{held_at}
use Rattle.mux_model.specs.Rows.{to_start}
use Rattle.mux_model.proofs.DocumentFolds.{outs_to_start}
use Rattle.mux_turns.specs.group_facts.specs.Why.{IsQuestion}
use Rattle.group_rows.specs.Forwarded.{Forwarding, first_sender, forwarding_of, sender_of, sender_or, token_in}
use Rattle.group_rows.specs.Rows.{forward, sync_bodies, sync_row}
use Rattle.group_rows.specs.Tokens.{forwarded_text}
use Rattle.group_rows.proofs.TokenTexts.{forwarded_says}
use Rattle.group_rows.specs.Texts.{is_synced, texts_of, toucher, toucher_of}
use Rattle.group_rows.specs.Waiting.{first_waiting, worker_of}
use Rattle.group_rows.proofs.Frames.{forwarding_more}
use Rattle.mux_tables.specs.declared.tables.Start.{Start}
use Rattle.mux_tables.specs.declared.tables.Tables.{Tables}
use Rattle.mux_tables.specs.Documents.{AllStand, AllTell, nothing_owed, syncing, to}
use Rattle.mux_tables.specs.Stands.{Sends, Stands, number_in, of_ids}
use Rattle.mux_tables.proofs.DocumentAsked.{row_bodies, tell}
use Rattle.mux_tables.proofs.DocumentMoves.{documents_at}
use Rattle.mux_tables.proofs.DocumentOwed.{stands_told}
use Rattle.mux_tables.proofs.Starts.{start_at_place}
use Rattle.mux_editors.proofs.Classes.{Serves}
use Rattle.mux_editors.proofs.Synced.{alike_since, at_work, same_sync}

module _ (settings : Settings) (t : Tables) (before : List Event) (body method : List ℕ) (id : Id) (params : Option Json) (e i s n : ℕ) (x : Start) (xs : List Out) (asked : AllByRecursion (IsQuestion e) xs)
    (at : slice_get t.lasts.items i ≡ Some x) (number : slice_get (map number_in t.lasts.items) i ≡ Some s) (ready : x.life.stage ≡ Ready) (next : n ≡ x.ids.next) (left : x.ids.next < x.ids.limit)
    (says : message_of body ≡ request id method params) (serves : Serves method) (passed : is_own method ≡ false) where
  abbrev base : List Event
  base = with_cause before (FromEditor e body)

  abbrev now : List Event
  now = behind base xs

  abbrev g : ℕ
  g = x.life.group

  -- whose request is at work
  pub sends : (bytes : List ℕ) (work partial : Option (List ℕ)) → bytes ≡ id_bytes body → work ≡ token_in (codes "workDoneToken") body → partial ≡ token_in (codes "partialResultToken") body → Sends settings s e bytes work partial now
  sends bytes work partial is first second = ap (λ o. sender_or o (first_sender settings s now)) (ap (λ (f : Forwarding). f.sender) ((alike_since settings before body e xs asked).forwarding s) ∙ (ap (λ (f : Forwarding). f.sender) (forwarding_more settings s before (heard (FromEditor e body)))
      ∙ (ap (sender_of e body) says ∙ (ap (λ w. Some (record { editor = e; id = w; work = token_in (codes "workDoneToken") body; partial = token_in (codes "partialResultToken") body })) (sym is)
      ∙ ap₂ (λ a b. Some (record { editor = e; id = bytes; work = a; partial = b })) (sym first) (sym second)))))

  pub works : worker_of now ≡ Some e
  works = at_work settings before body e xs asked

  abbrev bodies : List (List ℕ)
  bodies = sync_bodies settings.limits.versions (λ u. held_at s u before) e (texts_of settings g before).opens

  same_bodies : syncing settings now g s e ≡ bodies
  same_bodies = same_sync settings before body e xs asked g s (ap (requests (codes "shutdown")) says ∙ serves.stays) (ap saying_of says)

  own : x.life.start ≡ s
  own = start_at_place t.lasts.items i s x at number

  bound : Stands settings t now → n < 2 ^ 32
  bound st =
      let ends = ((st.lasts.each i x at).parts of_ids).ends in
      let range = st.range in
      omega (arith, next, left, ends, range)

  module _ (u : Tables) (text : List ℕ) (ys : List Out) (is : text ≡ forwarded_text n body) where
    text_says : n < 2 ^ 32 → (new : Option Json) × (message_of text ≡ request (integer (decimal n)) method new)
    text_says l = let new = forwarded_says n body id method params (omega (arith, l)) says in (new.0, ap message_of is ∙ new.1)

    -- the number is still the next one behind the sync
    next_told : AllStand settings (t, nothing_owed) now → (forwarding_of settings s (behind now (to s bodies))).next ≡ n
    next_told k =
        let d = documents_at settings nothing_owed t now i x at k.1 in
        let goes = (text_says (bound k.0)).1 in
        let silent : saying_of (message_of text) ≡ nothing = ap saying_of goes in
        let goes_behind : is_synced (message_of text) ≡ true = ap is_synced goes ∙ ap not passed in
        let touches : toucher_of settings x.life.start now (message_of text) ≡ Some e = ap (λ w. toucher w (message_of text) (first_waiting settings x.life.start now)) works in
        let row = row_bodies settings t now i e x d.0 text at d.1 ready silent goes_behind touches k.0 k.1 in
        let speak : AllTell (syncing settings now g x.life.start e) = subst AllTell (sym row) (tell settings t now i e x d.0 text at d.1 ready silent goes_behind touches k.0 k.1) in
        let st = stands_told settings t i x at (syncing settings now g x.life.start e) now speak k.0 in
        let told : (forwarding_of settings s (behind now (to s (syncing settings now g s e)))).next ≡ x.ids.next = subst (λ m. (forwarding_of settings m (behind now (to m (syncing settings now g m e)))).next ≡ x.ids.next) own ((st.lasts.each i x at).parts of_ids).next in
        ap (λ bs. (forwarding_of settings s (behind now (to s bs))).next) (sym same_bodies) ∙ (told ∙ sym next)

    same_outs : AllStand settings (t, nothing_owed) now → outs (look (λ es. to_start s (syncing settings es g s e) ⨾ send (ToServer s text))) now ≡ outs (sync_row settings before g s e ⨾ forward settings s body) now
    same_outs k = ap (λ bs. outs (to_start s bs ⨾ send (ToServer s text)) now) same_bodies
        ∙ ap (λ w. outs (to_start s bodies) now ++ ToServer s w ∷ []) (is ∙ ap (λ m. forwarded_text m body) (sym (ap (λ zs. (forwarding_of settings s (behind now zs)).next) (outs_to_start s bodies now) ∙ next_told k)))

    pub goes_on : ((name : Id) (new : Option Json) → message_of text ≡ request name method new → Does (λ k events. AllStand settings k events) (look (λ es. to_start s (syncing settings es g s e) ⨾ send (ToServer s text))) base (t, nothing_owed) xs (u, nothing_owed) ys)
        → Does (λ k events. AllStand settings k events) (sync_row settings before g s e ⨾ forward settings s body) base (t, nothing_owed) xs (u, nothing_owed) ys
    goes_on d = record {
      done = λ k.
          let goes = text_says (bound k.0) in
          let one = (d (integer (decimal n)) goes.0 goes.1).done k in
          record { outs = one.outs ∙ ap (λ ws. xs ++ ws) (same_outs k); stands = one.stands };
    }
