-- The documents of all groups, one event further.
use Rattle.std.proofs.Common.{◌≡◌, ℕ, zero, suc, ◌≤◌, ◌<◌, ◌^◌, false, true, List, [], ◌∷◌, ◌++◌, length, refl, sym, ap, subst, ◌∙◌, arith}
use Rattle.std.specs.Prelude.{None, Some, slice_get, slice_set}
use Rattle.std.specs.List.{remove}
use Rattle.std.proofs.lemmas.List.{length-set}
use Rattle.std.proofs.lemmas.Option.{slice_get_within}
use Rattle.document_model.specs.Opens.{Open}
use Rattle.document_model.specs.Texts.{no_texts}
use Rattle.mux_history.specs.declared.out.Out.TheVariants.{ToServer}
use Rattle.event_model.specs.Event.{Event, did}
use Rattle.event_model.specs.Phases.{desk_of}
use Rattle.event_model.specs.Settings.{Settings}
use Rattle.event_model.specs.Spawns.{start_behind, start_of, starts_behind, starts_of}
use Rattle.event_model.proofs.Frames.{never, one_more}
use Rattle.event_model.proofs.Places.{Same, same, other, compare, get_set_same, get_set_other, item_at, same_item}
use Rattle.focus_switch.specs.Documents.{Documents}
use Rattle.group_laws.specs.group_rows.specs.Answers.{moment_of}
use Rattle.group_laws.specs.group_rows.specs.Texts.{encoding_of, texts_of}
use Rattle.group_laws.specs.group_rows.proofs.Frames.{encoding_stays, texts_stay}
use Rattle.id_rewrite.specs.declared.pending.Pending.{Pending}
use Rattle.id_rewrite.specs.Tables.{pending_of}
use Rattle.mux_tables.specs.declared.tables.Start.{Start}
use Rattle.mux_tables.specs.declared.tables.Tables.{Tables}
use Rattle.mux_tables.specs.Documents.{DocumentsStand, IsOwned, Owed, SharedStands}
use Rattle.mux_tables.specs.Notes.{NotesStand, has_left}
use Rattle.mux_tables.proofs.DocumentEvents.{encoding_untouched, sent_untouched, shared_quiet, texts_untouched, touches_documents}
use Rattle.mux_tables.proofs.DocumentFrames.{SentSame, parts, sent_at, sent_stays, untold_stays}
use Rattle.mux_tables.proofs.Frames.{spawns, start_alone, starts_alone}
use Rattle.mux_tables.proofs.Placed.{left_there, length_left, place_before}
use Rattle.mux_tables.proofs.Noting.{asks_on, moment_stays, noted_stays}

-- what stays of groups that weren't founded, and of starts that weren't spawned
pub record Rest (settings : Settings) (t : Tables) (events later : List Event) : Type 0 where
  pub texts : (g : ℕ) → start_of g events ≡ None → texts_of settings g events ≡ no_texts → texts_of settings g later ≡ no_texts
  pub encoding : (g : ℕ) → start_of g events ≡ None → encoding_of g later ≡ encoding_of g events
  pub founds : (g : ℕ) → start_of g later ≡ None → start_of g events ≡ None
  pub starts : (s : ℕ) → starts_of later ≤ s → starts_of events ≤ s
  pub sent : (s : ℕ) → starts_of events ≤ s → SentSame s events later
  -- and of what was noted of the open requests
  pub moments : (g : ℕ) (x : Start) (n : ℕ) (p : Pending) → slice_get t.lasts.items g ≡ Some x → pending_of n x.ids.requests ≡ Some p → moment_of settings x.life.start n later ≡ moment_of settings x.life.start n events
  pub left : (e : ℕ) → has_left (desk_of e events).phase ≡ true → has_left (desk_of e later).phase ≡ true

-- no event
pub rest_none : (settings : Settings) (t : Tables) (events : List Event) → Rest settings t events events
rest_none settings t events = record { texts = λ g l h. h; encoding = λ g l. refl; founds = λ g h. h; starts = λ s l. l; sent = λ s l. sent_at s events events refl; moments = λ g x n p at there. refl; left = λ e h. h }

pub notes_stay : (settings : Settings) (owed : Owed) (t : Tables) (events later : List Event) → Rest settings t events later → DocumentsStand settings owed t events → (g : ℕ) (x : Start) → slice_get t.lasts.items g ≡ Some x → NotesStand settings x.life.start x.ids.requests later
notes_stay settings owed t events later rest s g x at n p there = noted_stays settings x.life.start n p.editor events later p.noted (rest.moments g x n p at there) (rest.left p.editor) (s.notes g x at n p there)

pub starts_kept : (events : List Event) (ev : Event) → spawns ev ≡ false → (s : ℕ) → starts_of (events ++ ev ∷ []) ≤ s → starts_of events ≤ s
starts_kept events ev k s l = subst (λ m. m ≤ s) (one_more starts_behind _ _ events ev refl ∙ starts_alone _ ev k) l

pub founds_kept : (events : List Event) (ev : Event) → spawns ev ≡ false → (g : ℕ) → start_of g (events ++ ev ∷ []) ≡ None → start_of g events ≡ None
founds_kept events ev k g e = sym (one_more (start_behind g) _ _ events ev refl ∙ start_alone g _ ev k) ∙ e

module _ (settings : Settings) (owed after : Owed) (t u : Tables) (events later : List Event) (rest : Rest settings t events later) (vs : u.versions ≡ t.versions) where
  pub stand_by : (length t.documents.items ≡ length t.lasts.items → length u.documents.items ≡ length u.lasts.items)
      → ((g : ℕ) (x : Start) (d : Documents) → slice_get u.lasts.items g ≡ Some x → slice_get u.documents.items g ≡ Some d → SharedStands settings later (after x.life.group) x.life.group x.life.start x.life.stage d)
      → ((g : ℕ) (x : Start) → slice_get u.lasts.items g ≡ Some x → NotesStand settings x.life.start x.ids.requests later)
      → DocumentsStand settings owed t events → DocumentsStand settings after u later
  stand_by count each notes s = record {
    count = count s.count;
    each = each;
    notes = notes;
    none = λ g l. let k : start_of g events ≡ None = rest.founds g l in let w = s.none g k in (rest.texts g k w.0, rest.encoding g k ∙ w.1);
    fresh = λ n l. let k : starts_of events ≤ n = rest.starts n l in untold_stays n events later (rest.sent n k) (s.fresh n k);
    versions = s.versions ∙ sym vs;
    range = subst (λ n. n < 2 ^ 32) (sym vs) s.range;
  }

  -- no group's tables change
  pub documents_all : u.lasts.items ≡ t.lasts.items → u.documents.items ≡ t.documents.items
      → ((g : ℕ) (x : Start) (d : Documents) → slice_get t.lasts.items g ≡ Some x → SharedStands settings events (owed x.life.group) x.life.group x.life.start x.life.stage d → SharedStands settings later (after x.life.group) x.life.group x.life.start x.life.stage d)
      → DocumentsStand settings owed t events → DocumentsStand settings after u later
  documents_all ls ds go s = stand_by (λ c. ap length ds ∙ (c ∙ sym (ap length ls))) (λ g x d at has. let here = ap (λ xs. slice_get xs g) (sym ls) ∙ at in go g x d here (s.each g x d here (ap (λ xs. slice_get xs g) (sym ds) ∙ has)))
      (λ g x at. notes_stay settings owed t events later rest s g x (ap (λ xs. slice_get xs g) (sym ls) ∙ at)) s

  -- those of one group do
  pub documents_set : (i : ℕ) (x y : Start) (d e : Documents) → slice_get t.lasts.items i ≡ Some x → slice_get t.documents.items i ≡ Some d → u.lasts.items ≡ slice_set t.lasts.items i y → u.documents.items ≡ slice_set t.documents.items i e
      → (NotesStand settings x.life.start x.ids.requests later → NotesStand settings y.life.start y.ids.requests later)
      → (SharedStands settings events (owed x.life.group) x.life.group x.life.start x.life.stage d → SharedStands settings later (after y.life.group) y.life.group y.life.start y.life.stage e)
      → ((j : ℕ) (z : Start) (c : Documents) → (j ≡ i → ⊥) → slice_get t.lasts.items j ≡ Some z → SharedStands settings events (owed z.life.group) z.life.group z.life.start z.life.stage c → SharedStands settings later (after z.life.group) z.life.group z.life.start z.life.stage c)
      → DocumentsStand settings owed t events → DocumentsStand settings after u later
  documents_set i x y d e at has ls ds notes go others s = stand_by (λ k. ap length ds ∙ (length-set t.documents.items i e ∙ (k ∙ sym (ap length ls ∙ length-set t.lasts.items i y))))
      (λ g z c here has_it. place g z c (compare i g) (ap (λ xs. slice_get xs g) (sym ls) ∙ here) (ap (λ xs. slice_get xs g) (sym ds) ∙ has_it))
      (λ g z here. noted g z (compare i g) (ap (λ xs. slice_get xs g) (sym ls) ∙ here)) s
    where
      noted : (g : ℕ) (z : Start) → Same i g → slice_get (slice_set t.lasts.items i y) g ≡ Some z → NotesStand settings z.life.start z.ids.requests later
      noted _ z same here =
          let is : y ≡ z = same_item (sym (get_set_same t.lasts.items i y (slice_get_within t.lasts.items i x at)) ∙ here) in
          subst (λ (w : Start). NotesStand settings w.life.start w.ids.requests later) is (notes (notes_stay settings owed t events later rest s i x at))
      noted g z (other h) here = notes_stay settings owed t events later rest s g z (sym (get_set_other t.lasts.items i g y h) ∙ here)

      place : (g : ℕ) (z : Start) (c : Documents) → Same i g → slice_get (slice_set t.lasts.items i y) g ≡ Some z → slice_get (slice_set t.documents.items i e) g ≡ Some c → SharedStands settings later (after z.life.group) z.life.group z.life.start z.life.stage c
      place _ z c same here has_it =
          let is : y ≡ z = same_item (sym (get_set_same t.lasts.items i y (slice_get_within t.lasts.items i x at)) ∙ here) in
          let it : e ≡ c = same_item (sym (get_set_same t.documents.items i e (slice_get_within t.documents.items i d has)) ∙ has_it) in
          subst (λ (w : Start). SharedStands settings later (after w.life.group) w.life.group w.life.start w.life.stage c) is (subst (λ w. SharedStands settings later (after y.life.group) y.life.group y.life.start y.life.stage w) it (go (s.each i x d at has)))
      place g z c (other h) here has_it =
          let before : slice_get t.lasts.items g ≡ Some z = sym (get_set_other t.lasts.items i g y h) ∙ here in
          others g z c h before (s.each g z c before (sym (get_set_other t.documents.items i g e h) ∙ has_it))

asks_untouched : (ev : Event) → touches_documents ev ≡ false → asks_on ev ≡ false
asks_untouched (did (ToServer s body) m) h = never h
asks_untouched rest h = refl

pub rest_quiet : (settings : Settings) (t : Tables) (events : List Event) (ev : Event) → touches_documents ev ≡ false → spawns ev ≡ false → ((e : ℕ) → has_left (desk_of e events).phase ≡ true → has_left (desk_of e (events ++ ev ∷ [])).phase ≡ true) → Rest settings t events (events ++ ev ∷ [])
rest_quiet settings t events ev q k l = record {
  texts = λ g l h. texts_stay settings g events ev (texts_untouched ev q) ∙ h;
  encoding = λ g l. encoding_stays g events ev (encoding_untouched ev q);
  founds = founds_kept events ev k;
  starts = starts_kept events ev k;
  sent = λ s l. sent_stays s events ev (sent_untouched ev q);
  moments = λ g x n p at there. moment_stays settings x.life.start n events ev (asks_untouched ev q);
  left = l;
}

-- an event that speaks of no documents, where no tables of documents change
pub quiet_documents : (settings : Settings) (owed : Owed) (t u : Tables) (events : List Event) (ev : Event) → touches_documents ev ≡ false → spawns ev ≡ false → u.lasts.items ≡ t.lasts.items → u.documents.items ≡ t.documents.items → u.versions ≡ t.versions
    → ((g : ℕ) (o : Open) → IsOwned settings events g o → parts o.editor ev ≡ false) → ((e : ℕ) → has_left (desk_of e events).phase ≡ true → has_left (desk_of e (events ++ ev ∷ [])).phase ≡ true) → DocumentsStand settings owed t events → DocumentsStand settings owed u (events ++ ev ∷ [])
quiet_documents settings owed t u events ev q k ls ds vs away l s = documents_all settings owed owed t u events (events ++ ev ∷ []) (rest_quiet settings t events ev q k l) vs ls ds
    (λ g x d at h. shared_quiet settings events (owed x.life.group) x.life.group x.life.start x.life.stage d ev q (away x.life.group) h) s

pub set_same : {X : Type 0} (xs : List X) (i : ℕ) (x : X) → slice_get xs i ≡ Some x → slice_set xs i x ≡ xs
set_same [] i x h = refl
set_same (w ∷ xs) zero x h = ap (λ z. z ∷ xs) (sym (same_item h))
set_same (w ∷ xs) (suc i) x h = ap (λ zs. w ∷ zs) (set_same xs i x h)

-- a group that has a last start has documents
pub documents_at : (settings : Settings) (owed : Owed) (t : Tables) (events : List Event) (i : ℕ) (x : Start) → slice_get t.lasts.items i ≡ Some x → DocumentsStand settings owed t events → (d : Documents) × (slice_get t.documents.items i ≡ Some d)
documents_at settings owed t events i x at s = item_at t.documents.items i (subst (λ n. i < n) (sym s.count) (slice_get_within t.lasts.items i x at))

-- its last start changes, and no documents do
pub documents_last : (settings : Settings) (owed after : Owed) (t u : Tables) (events later : List Event) → Rest settings t events later → u.versions ≡ t.versions → (i : ℕ) (x y : Start) → slice_get t.lasts.items i ≡ Some x → u.lasts.items ≡ slice_set t.lasts.items i y → u.documents.items ≡ t.documents.items
    → (NotesStand settings x.life.start x.ids.requests later → NotesStand settings y.life.start y.ids.requests later)
    → ((d : Documents) → SharedStands settings events (owed x.life.group) x.life.group x.life.start x.life.stage d → SharedStands settings later (after y.life.group) y.life.group y.life.start y.life.stage d)
    → ((j : ℕ) (z : Start) (c : Documents) → (j ≡ i → ⊥) → slice_get t.lasts.items j ≡ Some z → SharedStands settings events (owed z.life.group) z.life.group z.life.start z.life.stage c → SharedStands settings later (after z.life.group) z.life.group z.life.start z.life.stage c)
    → DocumentsStand settings owed t events → DocumentsStand settings after u later
documents_last settings owed after t u events later rest vs i x y at ls ds notes go others s =
    let d = documents_at settings owed t events i x at s in
    documents_set settings owed after t u events later rest vs i x y d.0 d.0 at d.1 ls (ds ∙ sym (set_same t.documents.items i d.0 d.1)) notes (go d.0) others s

-- those of a group that is forgotten
pub documents_forgotten : (settings : Settings) (owed : Owed) (t u : Tables) (events : List Event) (i : ℕ) → i < length t.lasts.items → u.lasts.items ≡ remove t.lasts.items i → (i < length t.documents.items → u.documents.items ≡ remove t.documents.items i) → u.versions ≡ t.versions
    → DocumentsStand settings owed t events → DocumentsStand settings owed u events
documents_forgotten settings owed t u events i inside ls removed vs s =
    let ds = removed (subst (λ n. i < n) (sym s.count) inside) in
    record {
      count = let old = length_left t.documents.items i (subst (λ n. i < n) (sym s.count) inside) in let new = length_left t.lasts.items i inside in let one = ap length ds in let two = ap length ls in let same = s.count in omega (arith, old, new, one, two, same);
      each = λ p x d at has. s.each (place_before i p) x d (before t.lasts.items u.lasts.items p ls at) (before t.documents.items u.documents.items p ds has);
      none = s.none;
      fresh = s.fresh;
      notes = λ p x at. s.notes (place_before i p) x (before t.lasts.items u.lasts.items p ls at);
      versions = s.versions ∙ sym vs;
      range = subst (λ n. n < 2 ^ 32) (sym vs) s.range;
    }
  where
    before : {X : Type 0} {x : X} (xs ys : List X) (p : ℕ) → ys ≡ remove xs i → slice_get ys p ≡ Some x → slice_get xs (place_before i p) ≡ Some x
    before xs ys p is at = sym (left_there xs i p) ∙ (ap (λ zs. slice_get zs p) (sym is) ∙ at)
