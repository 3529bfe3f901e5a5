-- An editor leaves: its requests are cancelled, and its documents are closed.
use Rattle.std.proofs.Common.{◌≡◌, ℕ, zero, suc, Bool, true, false, List, [], ◌∷◌, ◌++◌, map, filter, flat_map, nat_eq, refl, ap, ap₂, sym, subst, ◌∙◌, append-nil, append_assoc, if◌then◌else◌}
use Rattle.std.specs.Prelude.{Option, Some, None, slice_get}
use Rattle.std.specs.Option.{option_and_then}
use Rattle.group_facts.specs.document_model.specs.Helds.{HeldText}
use Rattle.group_facts.specs.document_model.specs.Opens.{Open}
use Rattle.group_facts.specs.document_model.specs.Texts.{Texts}
use Rattle.mux_history.specs.declared.cause.Cause.TheVariants.{FromEditor}
use Rattle.mux_history.specs.declared.out.Out.{Out}
use Rattle.rpc_message.specs.Message.{message_of}
use Rattle.event_model.specs.declared.stage.Stage.TheVariants.{Ready}
use Rattle.event_model.specs.Does.{Alike, Does}
use Rattle.event_model.specs.Event.{Event, behind, heard, with_cause}
use Rattle.event_model.specs.Phases.{desk_of}
use Rattle.event_model.specs.Row.{Row, nothing, on, outs, ◌⨾◌}
use Rattle.event_model.specs.Settings.{Settings}
use Rattle.event_model.specs.Spawns.{start_of}
use Rattle.event_model.specs.Stages.{Life, is_ready, life_behind, life_of}
use Rattle.event_model.proofs.Frames.{one_more}
use Rattle.event_model.proofs.Places.{same_item}
use Rattle.event_model.proofs.Turns.{behind_more, does_alike}
use Rattle.group_words.specs.Houses.{home_of, places}
use Rattle.group_words.proofs.Frames.{home_more}
use Rattle.group_facts.specs.group_rows.specs.Leaves.{cancels, cancels_row, closings, leave_bodies, leave_row, left, refusals}
use Rattle.group_facts.specs.group_rows.specs.Texts.{texts_of}
use Rattle.group_facts.specs.mux_model.specs.Documents.{Sent, held_at}
use Rattle.group_facts.specs.mux_model.specs.Rows.{to_start}
use Rattle.mux_tables.specs.declared.tables.Start.{Start}
use Rattle.mux_tables.specs.declared.tables.Tables.{Tables}
use Rattle.group_facts.proofs.Begun.{start_took}
use Rattle.mux_tables.specs.Documents.{AllStand, DocumentsStand, Leaves, Owed, changes_documents, leaving, nothing_owed, owes, to}
use Rattle.mux_tables.specs.Stands.{Stands, house_in, number_in, of_life, stage_in, start_for}
use Rattle.mux_tables.proofs.DocumentEvents.{heard_texts}
use Rattle.mux_tables.proofs.DocumentFrames.{sent_stays}
use Rattle.mux_tables.proofs.DocumentOwed.{owes_nothing}
use Rattle.mux_tables.proofs.Frames.{itself}
use Rattle.mux_turns.proofs.Ready.{has_start, is_that_ready, ready_runs}
use Rattle.mux_turns.proofs.Rows.{is_first, is_second}
use Rattle.mux_turns.specs.Leavings.{Pays, PaysAt}

-- Lists that are mapped

module _ {X Y : Type 0} (f : X → Y) where
  mapped_at : (xs : List X) (g : ℕ) (y : Y) → slice_get (map f xs) g ≡ Some y → (x : X) × ((slice_get xs g ≡ Some x) × (f x ≡ y))
  mapped_at [] g y h = absurd (cc)
  mapped_at (x ∷ xs) zero y h = (x, (refl, same_item h))
  mapped_at (x ∷ xs) (suc g) y h = mapped_at xs g y h

  pub mapped_on : (xs : List X) (g : ℕ) (x : X) → slice_get xs g ≡ Some x → slice_get (map f xs) g ≡ Some (f x)
  mapped_on [] g x h = absurd (cc)
  mapped_on (y ∷ xs) zero x h = ap (λ z. Some (f z)) (same_item h)
  mapped_on (y ∷ xs) (suc g) x h = mapped_on xs g x h

  pub mapped_is : (xs : List X) (g : ℕ) (x : X) (y : Y) → slice_get xs g ≡ Some x → slice_get (map f xs) g ≡ Some y → f x ≡ y
  mapped_is xs g x y h k = same_item (sym (mapped_on xs g x h) ∙ k)

-- behind no outs
pub behind_first : (base : List Event) (xs : List Out) → xs ≡ [] → behind base xs ≡ base
behind_first base xs first = ap (behind base) first ∙ append-nil base

-- The row is that of cancels and then that of documents

abbrev pub closings_row : Settings → List Event → ℕ → Option ℕ → Row
closings_row settings before e home = on home nothing (λ g. on (start_of g before) nothing (λ s. closings settings before g s e))

-- three rows, one after the other
then_then : (p q r : Row) (events : List Event) → outs (p ⨾ (q ⨾ r)) events ≡ outs ((p ⨾ q) ⨾ r) events
then_then p q r events =
    let a = outs p events in
    let b = outs q (behind events a) in
    sym (append_assoc a b (outs r (behind (behind events a) b))) ∙ ap (λ es. (a ++ b) ++ outs r es) (sym (behind_more events a b))

pub leave_alike : (settings : Settings) (before : List Event) (e : ℕ) → Alike (leave_row settings before e) (cancels_row settings before e ⨾ closings_row settings before e (home_of settings e before))
leave_alike settings before e = record { sends = λ events. at_home events (home_of settings e before) }
  where
    at_start : (events : List Event) (g : ℕ) (o : Option ℕ) → outs (on o nothing (λ s. cancels settings before s e ⨾ (refusals settings before s e ⨾ closings settings before g s e))) events ≡ outs (on o nothing (λ s. cancels settings before s e ⨾ refusals settings before s e) ⨾ on o nothing (λ s. closings settings before g s e)) events
    at_start events g None = refl
    at_start events g (Some s) = then_then (cancels settings before s e) (refusals settings before s e) (closings settings before g s e) events

    at_home : (events : List Event) (home : Option ℕ) → outs (on home nothing (λ g. on (start_of g before) nothing (λ s. cancels settings before s e ⨾ (refusals settings before s e ⨾ closings settings before g s e)))) events
        ≡ outs (on home nothing (λ g. on (start_of g before) nothing (λ s. cancels settings before s e ⨾ refusals settings before s e)) ⨾ closings_row settings before e home) events
    at_home events None = refl
    at_home events (Some g) = at_start events g (start_of g before)

-- What is owed is paid

module _ (settings : Settings) (before base : List Event) (e : ℕ) (t : Tables) (xs ys owed : List Out) (owing : Owed) (sent : ys ≡ xs ++ owed) where
  abbrev AllDo : Row → Owed → Type 0
  AllDo row w = Does (λ k events. AllStand settings k events) row base (t, w) xs (t, nothing_owed) ys

  silent : (owed ≡ []) × (owing ≡ nothing_owed) → AllDo nothing owing
  silent p =
      let all : ys ≡ xs ++ [] = sent ∙ ap (λ zs. xs ++ zs) p.0 in
      record { done = λ k. record { outs = all; stands = subst (λ zs. AllStand settings (t, nothing_owed) (behind base zs)) (sym (all ∙ append-nil xs)) (subst (λ w. AllStand settings (t, w) (behind base xs)) p.1 k) } }

  module _ (pays : (g : ℕ) (z : Start) (bodies : List (List ℕ)) → slice_get t.lasts.items g ≡ Some z → z.life.stage ≡ Ready → owed ≡ to z.life.start bodies → AllDo (to_start z.life.start bodies) (owes z.life.group bodies)) where
    module _ (g s : ℕ) where
      abbrev bodies : List (List ℕ)
      bodies = leave_bodies settings.limits.versions (λ u. held_at s u before) e (texts_of settings g before).opens (texts_of settings g before).opens

      by_ready : (b : Bool) → is_ready (life_of s before).stage ≡ b → PaysAt settings before e (map number_in t.lasts.items) (map stage_in t.lasts.items) (map house_in t.lasts.items) (Some g) (Some s) owed owing → AllDo (closings settings before g s e) owing
      by_ready true h p =
          let is : leaving settings before g s e ≡ bodies = ap (λ c. if c then bodies else []) h in
          let q = p.2 h in
          let z = mapped_at number_in t.lasts.items q.0 s q.1 in
          let ready : z.0.life.stage ≡ Ready = mapped_is stage_in t.lasts.items q.0 z.0 Ready z.1.0 q.2 in
          let mine : z.0.life.group ≡ g = mapped_is house_in t.lasts.items q.0 z.0 g z.1.0 q.3 in
          let paid = subst (λ n. AllDo (to_start z.0.life.start bodies) (owes n bodies)) mine (pays q.0 z.0 bodies z.1.0 ready (p.0 ∙ (ap (to s) is ∙ ap (λ n. to n bodies) (sym z.1.1)))) in
          does_alike (λ _. is_first refl h) (subst (λ w. AllDo (to_start s bodies) w) (sym (p.1 ∙ ap (owes g) is)) (subst (λ n. AllDo (to_start n bodies) (owes g bodies)) z.1.1 paid))
      by_ready false h p =
          let none : leaving settings before g s e ≡ [] = ap (λ c. if c then bodies else []) h in
          let all : ys ≡ xs ++ [] = sent ∙ ap (λ zs. xs ++ zs) (p.0 ∙ ap (to s) none) in
          does_alike (λ _. is_second refl h) (record {
            done = λ k. record {
              outs = all;
              stands = subst (λ zs. AllStand settings (t, nothing_owed) (behind base zs)) (sym (all ∙ append-nil xs))
                  (k.0, owes_nothing settings t g (behind base xs) (subst (λ w. DocumentsStand settings w t (behind base xs)) (p.1 ∙ ap (owes g) none) k.1));
            };
          })

    at_start : (g : ℕ) (o : Option ℕ) → PaysAt settings before e (map number_in t.lasts.items) (map stage_in t.lasts.items) (map house_in t.lasts.items) (Some g) o owed owing → AllDo (on o nothing (λ s. closings settings before g s e)) owing
    at_start g None p = silent p
    at_start g (Some s) p = by_ready g s (is_ready (life_of s before).stage) refl p

    at_home : (home : Option ℕ) → PaysAt settings before e (map number_in t.lasts.items) (map stage_in t.lasts.items) (map house_in t.lasts.items) home (option_and_then (λ g. start_of g before) home) owed owing → AllDo (closings_row settings before e home) owing
    at_home None p = silent p
    at_home (Some g) p = at_start g (start_of g before) p

    pub closings_paid : Pays settings before e t owed owing → AllDo (closings_row settings before e (home_of settings e before)) owing
    closings_paid p = at_home (home_of settings e before) p

-- the same behind what leaves the numbers and stages of the last starts
pub pays_later : (settings : Settings) (before : List Event) (e : ℕ) (t u : Tables) (owed : List Out) (owing : Owed) → map number_in u.lasts.items ≡ map number_in t.lasts.items → map stage_in u.lasts.items ≡ map stage_in t.lasts.items → map house_in u.lasts.items ≡ map house_in t.lasts.items → Pays settings before e t owed owing → Pays settings before e u owed owing
pays_later settings before e t u owed owing numbers stages groups p = subst (λ ns. PaysAt settings before e ns (map stage_in u.lasts.items) (map house_in u.lasts.items) (home_of settings e before) (start_for settings e before) owed owing) (sym numbers)
    (subst (λ ss. PaysAt settings before e (map number_in t.lasts.items) ss (map house_in u.lasts.items) (home_of settings e before) (start_for settings e before) owed owing) (sym stages)
    (subst (λ hs. PaysAt settings before e (map number_in t.lasts.items) (map stage_in t.lasts.items) hs (home_of settings e before) (start_for settings e before) owed owing) (sym groups) p))

-- What is owed behind its leaving

module _ (settings : Settings) (before : List Event) (e : ℕ) (t : Tables) (st : Stands settings t before) where
  stands_there : (g s : ℕ) → start_of g before ≡ Some s → is_ready (life_of s before).stage ≡ true → (place : ℕ) × (slice_get (map number_in t.lasts.items) place ≡ Some s) × (slice_get (map stage_in t.lasts.items) place ≡ Some Ready) × (slice_get (map house_in t.lasts.items) place ≡ Some g)
  stands_there g s starts ready =
      let k = has_start settings t before g s st starts (ready_runs (life_of s before).stage ready) in
      let last = st.lasts.each k.place k.last k.at in
      let own : k.last.life.start ≡ s = same_item (sym last.start ∙ (ap (λ n. start_of n before) k.group ∙ starts)) in
      let stage : (life_of s before).stage ≡ k.last.life.stage = subst (λ n. (life_of n before).stage ≡ k.last.life.stage) own (ap (λ (l : Life). l.stage) (last.parts of_life)) in (
        k.place,
        mapped_on number_in t.lasts.items k.place k.last k.at ∙ ap Some own,
        mapped_on stage_in t.lasts.items k.place k.last k.at ∙ ap Some (is_that_ready k.last.life.stage (ap is_ready (sym stage) ∙ ready)),
        mapped_on house_in t.lasts.items k.place k.last k.at ∙ ap Some k.group,
      )

  module _ (u : Tables) (later : List Event) (owed : List Out) where
    -- with what is owed, the documents stand
    abbrev pub Owing : Option ℕ → Option ℕ → Type 0
    Owing home start = (owing : Owed) × (PaysAt settings before e (map number_in t.lasts.items) (map stage_in t.lasts.items) (map house_in t.lasts.items) home start owed owing × DocumentsStand settings owing u later)

    owing_start : (g : ℕ) (o : Option ℕ) → start_of g before ≡ o → Leaves settings before e (Some g) o owed u later → Owing (Some g) o
    owing_start g None is left = (nothing_owed, ((left.0, refl), left.1))
    owing_start g (Some s) is left = (owes g (leaving settings before g s e), ((left.0, refl, stands_there g s is), left.1))

    owing_home : (home : Option ℕ) → Leaves settings before e home (option_and_then (λ g. start_of g before) home) owed u later → Owing home (option_and_then (λ g. start_of g before) home)
    owing_home None left = (nothing_owed, ((left.0, refl), left.1))
    owing_home (Some g) left = owing_start g (start_of g before) refl left

    pub owing_of : Leaves settings before e (home_of settings e before) (start_for settings e before) owed u later → Owing (home_of settings e before) (start_for settings e before)
    owing_of left = owing_home (home_of settings e before) left

-- What it is owed doesn't depend on a message that changes no document

module _ (settings : Settings) (before : List Event) (e : ℕ) (body : List ℕ) (unplaced : places (desk_of e before).phase (message_of body) ≡ false) (quiet : changes_documents before e (message_of body) ≡ false) where
  abbrev heard_now : List Event
  heard_now = with_cause before (FromEditor e body)

  same_bodies : (versions : ℕ) (f g : List ℕ → Option HeldText) (all os : List Open) → ((u : List ℕ) → f u ≡ g u) → flat_map (λ (o : Open). left versions e all (f o.uri) o) os ≡ flat_map (λ (o : Open). left versions e all (g o.uri) o) os
  same_bodies versions f g all [] same = refl
  same_bodies versions f g all (o ∷ os) same = ap₂ (λ h rest. left versions e all h o ++ rest) (same o.uri) (same_bodies versions f g all os same)

  held_same : (s : ℕ) (u : List ℕ) → held_at s u heard_now ≡ held_at s u before
  held_same s u = ap (λ (x : Sent). x.held) ((sent_stays s before (heard (FromEditor e body)) refl).sent u)

  stage_same : (s : ℕ) → (life_of s heard_now).stage ≡ (life_of s before).stage
  stage_same s = ap (λ (l : Life). l.stage) (one_more (life_behind s) _ _ before (heard (FromEditor e body)) refl)

  leaving_same : (g s : ℕ) → leaving settings heard_now g s e ≡ leaving settings before g s e
  leaving_same g s = ap₂ (λ b (x : Texts). if b then leave_bodies settings.limits.versions (λ u. held_at s u heard_now) e x.opens x.opens else []) (ap is_ready (stage_same s)) (heard_texts settings g e body (message_of body) before quiet)
      ∙ ap (λ bs. if is_ready (life_of s before).stage then bs else [])
      (same_bodies settings.limits.versions (λ u. held_at s u heard_now) (λ u. held_at s u before) (texts_of settings g before).opens (filter (λ (o : Open). nat_eq o.editor e) (texts_of settings g before).opens) (held_same s))

  home_same : home_of settings e heard_now ≡ home_of settings e before
  home_same = home_more settings e before (heard (FromEditor e body)) ∙ rw (itself e, unplaced) refl

  module _ (u : Tables) (later : List Event) (owed : List Out) where
    left_at : (home start : Option ℕ) → Leaves settings heard_now e home start owed u later → Leaves settings before e home start owed u later
    left_at (Some g) (Some s) h = (h.0 ∙ ap (to s) (leaving_same g s), subst (λ bs. DocumentsStand settings (owes g bs) u later) (leaving_same g s) h.1)
    left_at None start h = h
    left_at (Some g) None h = h

    pub left_before : Leaves settings heard_now e (home_of settings e heard_now) (start_for settings e heard_now) owed u later → Leaves settings before e (home_of settings e before) (start_for settings e before) owed u later
    left_before h = left_at (home_of settings e before) (start_for settings e before)
        (subst (λ home. Leaves settings heard_now e home (option_and_then (λ g. start_of g before) home) owed u later) home_same
        (start_so (home_of settings e heard_now) h))
      where
        start_so : (home : Option ℕ) → Leaves settings heard_now e home (option_and_then (λ g. start_of g heard_now) home) owed u later → Leaves settings heard_now e home (option_and_then (λ g. start_of g before) home) owed u later
        start_so None h = h
        start_so (Some g) h = subst (λ o. Leaves settings heard_now e (Some g) o owed u later) (start_took g before (FromEditor e body)) h
