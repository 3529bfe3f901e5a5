-- E6: an editor is closed while starts are owed bodies already: there is what each is owed behind it.
use Rattle.std.proofs.Common.{◌≡◌, ℕ, ◌<◌, ◌^◌, false, List, [], ◌∷◌, ◌++◌, nat_eq, refl, sym, ap, subst, ◌∙◌, length, if◌then◌else◌}
use Rattle.std.specs.Prelude.{Option, Some, None, slice_get}
use Rattle.std.specs.List.{AllByRecursion}
use Rattle.std.proofs.lemmas.Bool.{ne_eqb}
use Rattle.mux_history.specs.declared.out.Out.{Out}
use Rattle.mux_history.specs.declared.out.Out.TheVariants.{CloseEditor, ToServer}
use Rattle.event_model.specs.declared.stage.Stage.{Stage}
use Rattle.event_model.specs.declared.stage.Stage.TheVariants.{Unspawned, Spawning, Initializing, Ready, Stopping, Ending, Ended}
use Rattle.event_model.specs.Event.{Event, behind, said}
use Rattle.event_model.specs.Settings.{Settings}
use Rattle.event_model.specs.Stages.{is_ready}
use Rattle.event_model.proofs.Places.{item_at}
use Rattle.event_model.proofs.Turns.{behind_more}
use Rattle.document_model.specs.Opens.{Open}
use Rattle.document_model.specs.Texts.{Texts}
use Rattle.editor_session.specs.Sessions.{session_of}
use Rattle.focus_switch.specs.Documents.{Documents}
use Rattle.focus_switch.specs.Rows.{leave_row}
use Rattle.group_laws.specs.mux_model.specs.Documents.{held_at, without_editor}
use Rattle.group_laws.specs.group_rows.specs.Leaves as departures
use Rattle.group_laws.specs.group_rows.specs.Texts.{encoding_of, texts_of}
use Rattle.group_laws.specs.Stands.{HeldStands, TextsStand}
use Rattle.group_laws.proofs.Entries.{encoding_told, known_sent, texts_told}
use Rattle.group_laws.proofs.Leaving.{leave_orderly, leave_outs, leave_speaks, leave_spelt, leave_stays, leave_texts}
use Rattle.group_laws.proofs.Left.{left_held}
use Rattle.group_words.specs.Houses.{is_home}
use Rattle.mux_tables.specs.declared.tables.Start.{Start}
use Rattle.mux_tables.specs.declared.tables.Tables.{Tables}
use Rattle.mux_tables.specs.Documents.{AllTell, DocumentsStand, IsOwned, Owed, SharedStands, StartTold, StepAt, StepFrom, nothing_owed, to}
use Rattle.mux_tables.specs.Stands.{IsPlace, Stands}
use Rattle.mux_tables.proofs.DocumentFrames.{SentSame, sent_behind_same, untold_stays}
use Rattle.mux_tables.proofs.DocumentLeft.{closed_away, closed_parts, closed_rest, kept_owners}
use Rattle.mux_tables.proofs.DocumentMoves.{documents_all, documents_at, documents_set, set_same}
use Rattle.mux_tables.proofs.Frames.{itself}
use Rattle.mux_tables.proofs.Placed.{groups_apart}

to_both : (s : ℕ) (xs ys : List (List ℕ)) → to s (xs ++ ys) ≡ to s xs ++ to s ys
to_both s [] ys = refl
to_both s (x ∷ xs) ys = ap (λ zs. ToServer s x ∷ zs) (to_both s xs ys)

tell_both : (xs ys : List (List ℕ)) → AllTell xs → AllTell ys → AllTell (xs ++ ys)
tell_both [] ys h k = k
tell_both (x ∷ xs) ys h k = (h.0, tell_both xs ys h.1 k)

-- its own group
module _ (settings : Settings) (events later : List Event) (e g s : ℕ) (owed : List (List ℕ)) (d : Documents) (removed : texts_of settings g later ≡ without_editor e (texts_of settings g events)) (kept : encoding_of g later ≡ encoding_of g events) (same : SentSame s events later)
    (owners : (o : Open) → nat_eq o.editor e ≡ false → IsOwned settings events g o → IsOwned settings later g o) (few : d.versions < 2 ^ 32) where
  abbrev Owing : Stage → Type 0
  Owing stage = (more : List (List ℕ)) × SharedStands settings later (owed ++ more) g s stage (leave_row e d).after

  owing_with : (stage : Stage) (bodies : List (List ℕ)) → StartTold stage s bodies (leave_row e d).after later → SharedStands settings events owed g s stage d → SharedStands settings later bodies g s stage (leave_row e d).after
  owing_with stage bodies start h = record {
    texts = record { texts = removed ∙ (ap (without_editor e) h.texts.texts ∙ sym (leave_texts e d)); encoding = kept ∙ (h.texts.encoding ∙ sym (leave_stays e d).encoding); orderly = leave_orderly e d h.texts.orderly; spelt = leave_spelt e d h.texts.spelt };
    versions = (leave_stays e d).versions ∙ h.versions;
    owned = subst (λ (x : Texts). AllByRecursion (IsOwned settings later g) x.opens) (sym (leave_texts e d)) (kept_owners e (IsOwned settings events g) (IsOwned settings later g) d.opens owners h.owned);
    start = start;
  }

  no_start : d.start ≡ None → (leave_row e d).after.start ≡ None
  no_start h = (leave_stays e d).start ∙ h

  pub left_owing : (stage : Stage) → SharedStands settings events owed g s stage d → Owing stage
  left_owing Spawning h = ([], owing_with Spawning (owed ++ []) (no_start h.start.0, untold_stays s events later same h.start.1) h)
  left_owing Initializing h = ([], owing_with Initializing (owed ++ []) (no_start h.start.0, untold_stays s events later same h.start.1) h)
  left_owing Unspawned h = ([], owing_with Unspawned (owed ++ []) (no_start h.start) h)
  left_owing Stopping h = ([], owing_with Stopping (owed ++ []) (no_start h.start) h)
  left_owing Ending h = ([], owing_with Ending (owed ++ []) (no_start h.start) h)
  left_owing Ended h = ([], owing_with Ended (owed ++ []) (no_start h.start) h)
  left_owing Ready h =
      let was : List Event = behind events (to s owed) in
      let mid : List Event = behind later (to s owed) in
      let code = h.start.code in
      let holds : HeldStands s code d was = h.start.holds in
      let tell = h.start.tell in
      let texts : TextsStand settings g d was = record {
        texts = texts_told settings g s events owed tell ∙ h.texts.texts;
        encoding = encoding_told g s events owed ∙ h.texts.encoding;
        orderly = h.texts.orderly;
        spelt = h.texts.spelt;
      } in
      let raw = departures.leave_bodies d.versions (λ u. held_at s u was) e d.opens d.opens in
      let outs : (leave_row e d).outs ≡ to s raw = leave_outs s e code d (λ u. held_at s u was) holds.start holds.known few holds.held h.texts.orderly h.texts.spelt in
      let sent = sent_behind_same s (to s owed) events later same in
      let gone = texts_told settings g s later owed tell ∙ (removed ∙ ap (without_editor e) (sym (texts_told settings g s events owed tell))) in
      let code_kept = encoding_told g s later owed ∙ (kept ∙ sym (encoding_told g s events owed)) in
      let held : HeldStands s code (leave_row e d).after (behind mid (leave_row e d).outs) = left_held settings g e d was mid texts gone code_kept s code [] few tt holds (λ u. sent.sent u ∙ known_sent s u code was holds.given) sent.counts in (
        raw,
        owing_with Ready (owed ++ raw) (record {
          code = code;
          tell = tell_both owed raw tell (leave_speaks s e code d (λ u. held_at s u was) holds.start holds.known few holds.held h.texts.orderly h.texts.spelt);
          holds = subst (HeldStands s code (leave_row e d).after) (ap (behind mid) outs ∙ (sym (behind_more later (to s owed) (to s raw)) ∙ ap (behind later) (sym (to_both s owed raw)))) held;
        }) h,
      )

-- what a start is owed behind it
abbrev with_more : ℕ → List (List ℕ) → Owed → Owed
with_more g more owed n = if nat_eq g n then owed n ++ more else owed n

more_here : (g : ℕ) (more : List (List ℕ)) (owed : Owed) → with_more g more owed g ≡ owed g ++ more
more_here g more owed = rw (itself g) refl

more_there : (g n : ℕ) (more : List (List ℕ)) (owed : Owed) → (n ≡ g → ⊥) → with_more g more owed n ≡ owed n
more_there g n more owed h = rw (ne_eqb g n (λ q. h (sym q))) refl

module _ (settings : Settings) (owed : Owed) (t u : Tables) (events : List Event) (e : ℕ) (home : Option ℕ) (outs : List Out) (l : e < length t.editors) (is : home ≡ (session_of t.editors e).group) (ls : u.lasts ≡ t.lasts) (vs : u.versions ≡ t.versions)
    (st : Stands settings t events) (s : DocumentsStand settings owed t events) where
  abbrev later : List Event
  later = events ++ said (CloseEditor e) ∷ []

  from : (place : Option ℕ) → IsPlace t.lasts.items home place → StepFrom (leave_row e) place t.documents.items outs u.documents.items → (after : Owed) × DocumentsStand settings after u later
  from None placed left = (
    owed,
    documents_all settings owed owed t u events later (closed_rest settings t events e) vs (ap (λ v. v.items) ls) left.1
        (λ j x c at h. closed_away settings t events e home owed l is st x.life.group x.life.start x.life.stage c (nowhere j x at) h) s,
  )
    where
      nowhere : (j : ℕ) (x : Start) → slice_get t.lasts.items j ≡ Some x → is_home x.life.group home ≡ false
      nowhere j x at = by_home home refl
        where
          by_home : (o : Option ℕ) → home ≡ o → is_home x.life.group o ≡ false
          by_home None own = refl
          by_home (Some g) own = ne_eqb g x.life.group (λ q. placed g own st.lasts.rise j x at (sym q))
  from (Some i) placed left =
      let x = item_at t.lasts.items i placed.0 in
      let z = x.0 in
      let g = z.life.group in
      let own : home ≡ Some g = placed.1 z x.1 in
      let d = documents_at settings owed t events i z x.1 s in
      let moved : StepAt (leave_row e) i (Some d.0) t.documents.items outs u.documents.items = subst (λ o. StepAt (leave_row e) i o t.documents.items outs u.documents.items) d.1 left in
      let was : SharedStands settings events (owed g) g z.life.start z.life.stage d.0 = s.each i z d.0 x.1 d.1 in
      let few : d.0.versions < 2 ^ 32 = subst (λ n. n < 2 ^ 32) (sym (was.versions ∙ s.versions)) s.range in
      let parts = closed_parts settings events e g z.life.start in
      let go = left_owing settings events later e g z.life.start (owed g) d.0 parts.removed parts.kept parts.same parts.owners few z.life.stage was in (
        with_more g go.0 owed,
        documents_set settings owed (with_more g go.0 owed) t u events later (closed_rest settings t events e) vs i z z d.0 (leave_row e d.0).after x.1 d.1 (ap (λ v. v.items) ls ∙ sym (set_same t.lasts.items i z x.1)) moved.1 (λ k. k)
            (λ _. subst (λ w. SharedStands settings later w g z.life.start z.life.stage (leave_row e d.0).after) (sym (more_here g go.0 owed)) go.1)
            (λ j y c off there h.
            let far = groups_apart t.lasts.items i j z y st.lasts.rise x.1 there off in
            subst (λ w. SharedStands settings later w y.life.group y.life.start y.life.stage c) (sym (more_there g y.life.group go.0 owed far))
            (closed_away settings t events e home owed l is st y.life.group y.life.start y.life.stage c (ap (is_home y.life.group) own ∙ ne_eqb g y.life.group (λ q. far (sym q))) h)) s,
      )

pub closed_owing : (settings : Settings) (owed : Owed) (t u : Tables) (base : List Event) (xs ys : List Out) (e : ℕ) (home place : Option ℕ) (outs : List Out) → e < length t.editors → home ≡ (session_of t.editors e).group → IsPlace t.lasts.items home place
    → u.lasts ≡ t.lasts → u.versions ≡ t.versions → StepFrom (leave_row e) place t.documents.items outs u.documents.items → ys ≡ xs ++ CloseEditor e ∷ []
    → Stands settings t (behind base xs) → DocumentsStand settings owed t (behind base xs) → (later : Owed) × DocumentsStand settings later u (behind base ys)
closed_owing settings owed t u base xs ys e home place outs l is placed ls vs left said_so st s =
    let go = from settings owed t u (behind base xs) e home outs l is ls vs st s place placed left in
    (go.0, subst (DocumentsStand settings go.0 u) (sym (ap (behind base) said_so ∙ behind_more base xs (CloseEditor e ∷ []))) go.1)

-- No start is ready any more: nothing is owed

unowed : (stage : Stage) (s : ℕ) (owed : List (List ℕ)) (d : Documents) (events : List Event) → is_ready stage ≡ false → StartTold stage s owed d events → StartTold stage s [] d events
unowed Ready s owed d events h k = absurd (cc)
unowed Spawning s owed d events h k = k
unowed Initializing s owed d events h k = k
unowed Unspawned s owed d events h k = k
unowed Stopping s owed d events h k = k
unowed Ending s owed d events h k = k
unowed Ended s owed d events h k = k

pub unready_quiet : (settings : Settings) (owed : Owed) (t : Tables) (events : List Event) → ((g : ℕ) (x : Start) → slice_get t.lasts.items g ≡ Some x → is_ready x.life.stage ≡ false) → DocumentsStand settings owed t events → DocumentsStand settings nothing_owed t events
unready_quiet settings owed t events none ds = record {
  count = ds.count;
  each = λ g x d at has. let h = ds.each g x d at has in record { texts = h.texts; versions = h.versions; owned = h.owned; start = unowed x.life.stage x.life.start (owed x.life.group) d events (none g x at) h.start };
  none = ds.none;
  fresh = ds.fresh;
  notes = ds.notes;
  versions = ds.versions;
  range = ds.range;
}
