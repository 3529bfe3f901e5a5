-- E7: an editor joins a group whose start is ready.
use Rattle.std.proofs.Common.{◌≡◌, ℕ, ◌<◌, true, List, [], map, length, fold, refl, ap, sym, subst, ◌∙◌, append-nil, if◌then◌else◌}
use Rattle.std.specs.Prelude.{Option, Some, None, slice_get}
use Rattle.json_text.specs.Json.{Json}
use Rattle.mux_history.specs.declared.cause.Cause.TheVariants.{FromEditor}
use Rattle.mux_history.specs.declared.out.Out.{Out}
use Rattle.mux_history.specs.declared.out.Out.TheVariants.{ToEditor}
use Rattle.rpc_message.specs.Message.{Message, Id, id_bytes, message_of, request, result_bytes}
use Rattle.rpc_message.specs.Texts.{ok_text}
use Rattle.event_model.specs.declared.phase.Phase.{Phase}
use Rattle.event_model.specs.declared.phase.Phase.TheVariants.{Absent, New, Waiting, Answered, Running, Down, Closed, Gone}
use Rattle.event_model.specs.Does.{Does}
use Rattle.event_model.specs.Event.{Event, behind, heard, with_cause}
use Rattle.event_model.specs.Phases.{Desk, desk_behind, desk_hears, desk_of}
use Rattle.event_model.specs.Row.{nothing, on, send}
use Rattle.event_model.specs.Settings.{Settings}
use Rattle.event_model.specs.Spawns.{start_behind, start_of}
use Rattle.event_model.specs.Stages.{Life, is_ready, life_behind, life_of, no_life}
use Rattle.event_model.proofs.Frames.{one_more}
use Rattle.event_model.proofs.Places.{item_at, same_item}
use Rattle.event_model.proofs.Turns.{alike, alike_then, does_alike}
use Rattle.group_words.specs.declared.placed.Placed.TheVariants.{Joins}
use Rattle.group_words.specs.Houses.{places}
use Rattle.group_words.specs.Rows.{answer_with, placed_row, result_behind, result_of, shown_of, welcomed}
use Rattle.mux_tables.specs.declared.tables.Start.{Start}
use Rattle.mux_tables.specs.declared.tables.Tables.{Tables}
use Rattle.mux_tables.specs.Documents.{AllStand, DocumentsStand, nothing_owed}
use Rattle.mux_tables.specs.Stands.{Stands, Welcomes, number_in}
use Rattle.mux_tables.proofs.Frames.{itself}
use Rattle.mux_tables.proofs.Starts.{start_at_place, start_there}
use Rattle.mux_tables.specs.mux_waits.specs.Stands.{AnswersId}
use Rattle.mux_turns.specs.Welcomes.{IsGreeted, IsShown, is_greeted}
use Rattle.mux_turns.proofs.Rows.{is_first}
use Rattle.mux_turns.proofs.Welcoming.{answered_does}

-- its desk behind its `initialize`
seated : (p : Phase) (i body : List ℕ) (m : Message) → places p m ≡ true → desk_hears p i body m ≡ record { phase = Waiting; initialize = body }
seated New i body m h = ap (λ b. if b then record { phase = Waiting; initialize = body } else record { phase = New; initialize = i }) h
seated Absent i body m h = absurd (cc)
seated Waiting i body m h = absurd (cc)
seated Answered i body m h = absurd (cc)
seated Running i body m h = absurd (cc)
seated Down i body m h = absurd (cc)
seated Closed i body m h = absurd (cc)
seated Gone i body m h = absurd (cc)

module _ (settings : Settings) (t u : Tables) (before : List Event) (e g s : ℕ) (body method : List ℕ) (id : Id) (params : Option Json) (xs ys : List Out) (first : xs ≡ []) (says : message_of body ≡ request id method params)
    (new : places (desk_of e before).phase (message_of body) ≡ true) (starts : start_of g before ≡ Some s) (ready : is_ready (life_of s before).stage ≡ true) where
  abbrev base : List Event
  base = with_cause before (FromEditor e body)

  desk : desk_of e (behind base xs) ≡ record { phase = Waiting; initialize = body }
  desk = ap (λ es. desk_of e es) (ap (behind base) first ∙ append-nil base)
      ∙ (one_more (desk_behind e) _ _ before (heard (FromEditor e body)) refl ∙ rw (itself e) (seated (desk_of e before).phase (desk_of e before).initialize body (message_of body) new))

  greeted : IsGreeted (behind base xs) e
  greeted = record { phase = ap (λ (d : Desk). is_greeted d.phase) desk; asks = record { name = id; method = method; params = params; says = ap (λ (d : Desk). message_of d.initialize) desk ∙ says } }

  -- what the tables keep of its result, behind its `initialize`
  stays : {A : Type 0} (f : A → Event → A) (z : A) → ((x : A) → f x (heard (FromEditor e body)) ≡ x) → fold f z (behind base xs) ≡ fold f z before
  stays f z still = ap (fold f z) (ap (behind base) first ∙ append-nil base) ∙ (one_more f z _ before (heard (FromEditor e body)) refl ∙ still (fold f z before))

  pub was_shown : (o : Option (List ℕ)) (i : ℕ) → i < length t.lasts.items → ((x : Start) → slice_get t.lasts.items i ≡ Some x → x.life.group ≡ g)
      → ((n : ℕ) → slice_get (map number_in t.lasts.items) i ≡ Some n → is_ready (life_of n (behind base xs)).stage ≡ true → (given : List ℕ) × (result_of n (behind base xs) ≡ Some given) × (o ≡ Some (shown_of (result_bytes given))))
      → Stands settings t (behind base xs) → (given : List ℕ) × (result_of s before ≡ Some given) × (o ≡ Some (shown_of (result_bytes given)))
  was_shown o i within mine gives st =
      let there = start_there t.lasts.items i within in
      let x = item_at t.lasts.items i within in
      let number : there.0 ≡ s = sym (start_at_place t.lasts.items i there.0 x.0 x.1 there.1) ∙ same_item (sym (st.lasts.each i x.0 x.1).start ∙ (ap (λ n. start_of n (behind base xs)) (mine x.0 x.1) ∙ (stays (start_behind g) None (λ o. refl) ∙ starts))) in
      let kept = gives s (there.1 ∙ ap (λ n. Some n) number) (ap (λ (l : Life). is_ready l.stage) (stays (life_behind s) no_life (λ l. refl)) ∙ ready) in
      (kept.0, sym (stays (result_behind s) None still) ∙ kept.1, kept.2)
    where
      still : (o : Option (List ℕ)) → result_behind s o (heard (FromEditor e body)) ≡ o
      still None = refl
      still (Some b) = refl

  pub joins_ready : (given text shown : List ℕ) → result_of s before ≡ Some given → IsShown given → text ≡ ok_text (id_bytes body) shown → shown ≡ shown_of (result_bytes given) → (Welcomes e text (behind base xs) → AnswersId (id_bytes body) text → Does (λ t events. Stands settings t events) (send (ToEditor e text)) base t xs u ys)
      → (DocumentsStand settings nothing_owed t (behind base xs) → DocumentsStand settings nothing_owed u (behind base ys)) → Does (λ k events. AllStand settings k events) (placed_row e body before (Joins g)) base (t, nothing_owed) xs (u, nothing_owed) ys
  joins_ready given text shown gave whole is are d docs =
      let row = alike_then (is_first (ap (λ o. on o nothing (welcomed e body before)) starts) ready) (alike (ap (λ o. on o nothing (answer_with e body)) gave)) in
      does_alike (λ _. row) (subst (λ i. Does (λ k events. AllStand settings k events) (send (ToEditor e (ok_text (id_bytes i) (shown_of (result_bytes given))))) base (t, nothing_owed) xs (u, nothing_owed) ys) (ap (λ (d : Desk). d.initialize) desk)
      (answered_does settings t u base xs ys e given text shown greeted whole (is ∙ ap (λ (d : Desk). ok_text (id_bytes d.initialize) shown) (sym desk)) are (λ w a. d w (subst (λ (d : Desk). AnswersId (id_bytes d.initialize) text) desk a)) docs))
