-- What an editor says of a document is told to its group's start, and where it opened one it is shown the last list of that.
use Rattle.std.proofs.Common.{◌≡◌, ℕ, false, List, [], ◌++◌, map, ap, sym, subst, ◌∙◌, append-nil, if◌then◌else◌}
use Rattle.std.specs.Prelude.{Some, slice_get}
use Rattle.std.specs.Option.{option_and_then}
use Rattle.mux_history.specs.declared.cause.Cause.TheVariants.{FromEditor}
use Rattle.mux_history.specs.declared.out.Out.{Out}
use Rattle.document_model.specs.Sayings.{Saying}
use Rattle.event_model.specs.declared.stage.Stage.TheVariants.{Ready}
use Rattle.event_model.specs.Does.{Does}
use Rattle.event_model.specs.Event.{Event, behind, with_cause}
use Rattle.event_model.specs.Row.{Row, after, choose, nothing}
use Rattle.event_model.specs.Settings.{Settings}
use Rattle.event_model.specs.Spawns.{start_of}
use Rattle.event_model.specs.Stages.{Life, is_ready, life_of}
use Rattle.event_model.proofs.Places.{same_item}
use Rattle.event_model.proofs.Turns.{does_alike, does_then}
use Rattle.mux_model.specs.Documents.{held_at}
use Rattle.mux_model.specs.Rows.{to_start}
use Rattle.group_words.specs.Houses.{home_of}
use Rattle.group_rows.specs.ListRows.{show_opened}
use Rattle.group_rows.specs.Rows.{document_at, document_bodies, document_row}
use Rattle.group_rows.specs.Texts.{encoding_of, texts_of}
use Rattle.mux_tables.specs.declared.tables.Start.{Start}
use Rattle.mux_tables.specs.declared.tables.Tables.{Tables}
use Rattle.mux_tables.specs.Documents.{AllStand, DocumentsStand, Owed, nothing_owed, noticing, owes, to}
use Rattle.mux_tables.specs.Resumes.{unasked}
use Rattle.mux_tables.specs.Stands.{Stands, of_life, start_for}
use Rattle.mux_tables.proofs.DocumentOwed.{owes_nothing}
use Rattle.mux_turns.proofs.Rows.{is_first, is_second, some_start}
use Rattle.mux_editors.proofs.Beginning.{same_kept}

module _ (settings : Settings) (old t : Tables) (before : List Event) (e g s : ℕ) (body : List ℕ) (what : Saying) (xs ys owed : List Out) (rest : map unasked t.lasts.items ≡ map unasked old.lasts.items) (st : Stands settings old before)
    (home : home_of settings e before ≡ Some g) (starts : start_of g before ≡ Some s) (are : owed ≡ to s (noticing settings before g s e body what)) (sent : ys ≡ xs ++ owed) where
  abbrev base : List Event
  base = with_cause before (FromEditor e body)

  abbrev told : List (List ℕ)
  told = document_bodies settings.limits.versions (encoding_of g before) (texts_of settings g before) (λ u. held_at s u before) e body what

  abbrev showing : Row
  showing = show_opened settings s e what

  row_is : document_row settings before e body what ≡ choose (is_ready (life_of s before).stage) (after (to_start s told) showing) nothing
  row_is = some_start (home_of settings e before) (λ h. start_of h before) nothing (document_at settings before e body what) g s home starts

  abbrev Owes : Owed
  Owes = owes g (noticing settings before g s e body what)

  -- where the start is ready
  pub noticed : (p : ℕ) (x : Start) (v : Tables) (zs : List Out) → slice_get old.lasts.items p ≡ Some x → x.life.stage ≡ Ready → home_of settings e before ≡ Some x.life.group
      → ((z : Start) (bodies : List (List ℕ)) → slice_get t.lasts.items p ≡ Some z → z.life.stage ≡ Ready → owed ≡ to z.life.start bodies → Does (λ k events. AllStand settings k events) (to_start z.life.start bodies) base (t, owes z.life.group bodies) xs (t, nothing_owed) ys)
      → ((z : Start) → slice_get t.lasts.items p ≡ Some z → z.life.stage ≡ Ready → Does (λ k events. AllStand settings k events) (show_opened settings z.life.start e what) base (t, nothing_owed) ys (v, nothing_owed) zs)
      → Does (λ k events. AllStand settings k events) (document_row settings before e body what) base (t, Owes) xs (v, nothing_owed) zs
  noticed p x v zs at ready there pays shows =
      let last = st.lasts.each p x at in
      let group : x.life.group ≡ g = same_item (sym there ∙ home) in
      let own : x.life.start ≡ s = same_item (sym last.start ∙ (ap (λ n. start_of n before) group ∙ starts)) in
      let stage : (life_of s before).stage ≡ Ready = subst (λ n. (life_of n before).stage ≡ Ready) own (ap (λ (l : Life). l.stage) (last.parts of_life) ∙ ready) in
      let z = same_kept unasked t.lasts.items old.lasts.items (sym rest) p x at in
      let start : z.0.life.start ≡ s = sym (ap (λ (w : Start). w.life.start) z.1.1) ∙ own in
      let home_z : z.0.life.group ≡ g = sym (ap (λ (w : Start). w.life.group) z.1.1) ∙ group in
      let ready_z : z.0.life.stage ≡ Ready = sym (ap (λ (w : Start). w.life.stage) z.1.1) ∙ ready in
      let is : noticing settings before g s e body what ≡ told = ap (λ c. if is_ready c then told else []) stage in
      let paid = subst (λ n. Does (λ k events. AllStand settings k events) (to_start z.0.life.start told) base (t, owes n told) xs (t, nothing_owed) ys) home_z
      (pays z.0 told z.1.0 ready_z (are ∙ (ap (to s) is ∙ ap (λ n. to n told) (sym start)))) in
      let told_so = subst (λ bs. Does (λ k events. AllStand settings k events) (to_start s told) base (t, owes g bs) xs (t, nothing_owed) ys) (sym is)
      (subst (λ n. Does (λ k events. AllStand settings k events) (to_start n told) base (t, owes g told) xs (t, nothing_owed) ys) start paid) in
      let shown_so = subst (λ n. Does (λ k events. AllStand settings k events) (show_opened settings n e what) base (t, nothing_owed) ys (v, nothing_owed) zs) start (shows z.0 z.1.0 ready_z) in
      does_alike (λ _. is_first row_is (ap is_ready stage)) (does_then told_so shown_so)

  -- and where it isn't
  pub unnoticed : ((n : ℕ) → start_for settings e before ≡ Some n → is_ready (life_of n before).stage ≡ false) → Does (λ k events. AllStand settings k events) (document_row settings before e body what) base (t, Owes) xs (t, nothing_owed) ys
  unnoticed unready =
      let off : is_ready (life_of s before).stage ≡ false = unready s (ap (option_and_then (λ n. start_of n before)) home ∙ starts) in
      let none : noticing settings before g s e body what ≡ [] = ap (λ c. if c then told else []) off in
      let all : ys ≡ xs ++ [] = sent ∙ ap (λ zs. xs ++ zs) (are ∙ ap (to s) none) in
      does_alike (λ _. is_second row_is off) (record {
        done = λ k. record {
          outs = all;
          stands = subst (λ zs. AllStand settings (t, nothing_owed) (behind base zs)) (sym (all ∙ append-nil xs)) (k.0, owes_nothing settings t g (behind base xs) (subst (λ bs. DocumentsStand settings (owes g bs) t (behind base xs)) none k.1));
        };
      })
