-- A ready start is sent what it is owed.
use Rattle.std.proofs.Common.{◌≡◌, ℕ, zero, suc, Bool, true, false, List, [], ◌∷◌, ◌++◌, map, nat_eq, codes, refl, sym, ap, subst, ◌∙◌, append-nil, arith, if◌then◌else◌}
use Rattle.std.specs.Prelude.{Some, bytes_eq, slice_get}
use Rattle.std.proofs.lemmas.Bool.{ne_eqb}
use Rattle.std.proofs.lemmas.Option.{slice_get_within}
use Rattle.std.proofs.lemmas.Slice.Eq.{bytes_eq-Decides}
use Rattle.mux_history.specs.declared.out.Out.{Out}
use Rattle.mux_history.specs.declared.out.Out.TheVariants.{ToServer}
use Rattle.rpc_message.specs.Message.{Message, notification, message_of}
use Rattle.document_model.specs.Sayings.{saying_by, saying_of, speaks}
use Rattle.event_model.specs.declared.stage.Stage.{Stage}
use Rattle.event_model.specs.declared.stage.Stage.TheVariants.{Ready}
use Rattle.event_model.specs.Does.{Does}
use Rattle.event_model.specs.Event.{Event, behind, requests, said}
use Rattle.event_model.specs.Row.{Row}
use Rattle.event_model.specs.Settings.{Settings}
use Rattle.event_model.proofs.Frames.{never}
use Rattle.event_model.proofs.Places.{same_item}
use Rattle.event_model.proofs.Turns.{behind_more, does_entry}
use Rattle.focus_switch.specs.Documents.{Documents}
use Rattle.group_laws.specs.mux_model.specs.Rows.{to_start}
use Rattle.group_laws.specs.mux_model.proofs.DocumentFolds.{outs_to_start}
use Rattle.group_laws.specs.group_rows.specs.Forwarded.{moves_ids}
use Rattle.group_laws.specs.group_rows.proofs.Frames.{encoding_stays}
use Rattle.group_laws.proofs.Entries.{first_behind, texts_told}
use Rattle.mux_tables.specs.declared.tables.Start.{Start}
use Rattle.mux_tables.specs.declared.tables.Tables.{Tables}
use Rattle.mux_tables.specs.Documents.{AllStand, AllTell, DocumentsStand, Owed, SharedStands, nothing_owed, owes, to}
use Rattle.mux_tables.specs.Stands.{Stands, is_answer, number_in}
use Rattle.mux_tables.proofs.DocumentEvents.{shared_beside, shared_next}
use Rattle.mux_tables.proofs.DocumentFrames.{sent_apart}
use Rattle.mux_tables.proofs.Noting.{asks_told, left_stays, moment_stays}
use Rattle.mux_tables.proofs.DocumentMoves.{Rest, documents_all, documents_at, documents_last, founds_kept, rest_none, set_same, starts_kept}
use Rattle.mux_tables.proofs.Placed.{groups_apart}
use Rattle.mux_tables.proofs.Frames.{itself}
use Rattle.mux_tables.proofs.Lasts.{apart, known}
use Rattle.mux_tables.proofs.Sent.{notify_does}
use Rattle.mux_tables.proofs.Starts.{read_back}

pub owes_here : (g : ℕ) (bodies : List (List ℕ)) → owes g bodies g ≡ bodies
owes_here g bodies = rw (itself g) refl

pub owes_there : (g j : ℕ) (bodies : List (List ℕ)) → (j ≡ g → ⊥) → owes g bodies j ≡ []
owes_there g j bodies h = rw (ne_eqb g j (λ q. h (sym q))) refl

pub owes_none : (g j : ℕ) → owes g [] j ≡ []
owes_none g j = go (nat_eq g j)
  where
    go : (b : Bool) → ◌≡◌ {A = List (List ℕ)} (if b then [] else []) []
    go true = refl
    go false = refl

-- a group that owes nothing
pub owes_nothing : (settings : Settings) (t : Tables) (g : ℕ) (events : List Event) → DocumentsStand settings (owes g []) t events → DocumentsStand settings nothing_owed t events
owes_nothing settings t g events ds =
    documents_all settings (owes g []) nothing_owed t t events events (rest_none settings t events) refl refl refl (λ j z d there k. subst (λ w. SharedStands settings events w z.life.group z.life.start z.life.stage d) (owes_none g z.life.group) k) ds

pub nothing_owes : (settings : Settings) (t : Tables) (g : ℕ) (events : List Event) → DocumentsStand settings nothing_owed t events → DocumentsStand settings (owes g []) t events
nothing_owes settings t g events ds =
    documents_all settings nothing_owed (owes g []) t t events events (rest_none settings t events) refl refl refl (λ j z d there k. subst (λ w. SharedStands settings events w z.life.group z.life.start z.life.stage d) (sym (owes_none g z.life.group)) k) ds

-- what an out does to each of the two relations, it does to both
pub all_does : {row : Row} (settings : Settings) (t u : Tables) (owed after : Owed) (base : List Event) (xs ys : List Out) → Does (λ t events. Stands settings t events) row base t xs u ys
    → (Stands settings t (behind base xs) → DocumentsStand settings owed t (behind base xs) → DocumentsStand settings after u (behind base ys)) → Does (λ k events. AllStand settings k events) row base (t, owed) xs (u, after) ys
all_does {row} settings t u owed after base xs ys d go = record { done = λ k. let one = d.done k.0 in record { outs = one.outs; stands = (one.stands, go k.0 k.1) } }

pub number_there : (xs : List Start) (g : ℕ) (x : Start) → slice_get xs g ≡ Some x → slice_get (map number_in xs) g ≡ Some x.life.start
number_there [] g x h = cc
number_there (w ∷ xs) zero x h = ap (λ z. Some (number_in z)) (same_item h)
number_there (w ∷ xs) (suc g) x h = number_there xs g x h

-- what tells of a document is no request and no cancel
record Tells (m : Message) : Type 0 where
  pub runs : requests (codes "shutdown") m ≡ false
  pub counts : moves_ids m ≡ false
  pub answers : is_answer m ≡ false

tells : (m : Message) → speaks (saying_of m) ≡ true → Tells m
tells (notification method ps) h = record { runs = refl; counts = go (bytes_eq method (codes "$/cancelRequest")) refl; answers = refl }
  where
    silent : method ≡ codes "$/cancelRequest" → speaks (saying_by method ps) ≡ false
    silent e = subst (λ w. speaks (saying_by w ps) ≡ false) (sym e) refl

    go : (b : Bool) → bytes_eq method (codes "$/cancelRequest") ≡ b → b ≡ false
    go false e = refl
    go true e = never (sym h ∙ silent ((bytes_eq-Decides method (codes "$/cancelRequest")).0 e))
tells other h = never (sym h)

-- the other tables don't speak of what tells of documents
module _ (settings : Settings) (t : Tables) (g : ℕ) (x : Start) (at : slice_get t.lasts.items g ≡ Some x) where
  next_stands : (body : List ℕ) (events : List Event) → speaks (saying_of (message_of body)) ≡ true → Stands settings t events → Stands settings t (events ++ said (ToServer x.life.start body) ∷ [])
  next_stands body events h st =
      let k = tells (message_of body) h in
      (does_entry st (notify_does settings t [] (ToServer x.life.start body ∷ []) events g x.life.start x.life.start x body (number_there t.lasts.items g x at) (slice_get_within t.lasts.items g x at) (read_back t.lasts.items g x at) k.runs k.counts (λ _. k.answers) refl refl)).stands

  pub stands_told : (bodies : List (List ℕ)) (events : List Event) → AllTell bodies → Stands settings t events → Stands settings t (behind events (to x.life.start bodies))
  stands_told [] events h st = subst (λ es. Stands settings t es) (sym (append-nil events)) st
  stands_told (body ∷ bodies) events h st = subst (λ es. Stands settings t es) (sym (first_behind events (ToServer x.life.start body) (to x.life.start bodies))) (stands_told bodies (events ++ said (ToServer x.life.start body) ∷ []) h.1 (next_stands body events h.0 st))

module _ (settings : Settings) (t : Tables) (i : ℕ) (x : Start) (at : slice_get t.lasts.items i ≡ Some x) (ready : x.life.stage ≡ Ready) where
  abbrev s : ℕ
  s = x.life.start

  abbrev g : ℕ
  g = x.life.group

  next_rest : (body : List ℕ) (events : List Event) → speaks (saying_of (message_of body)) ≡ true → Stands settings t events → Rest settings t events (events ++ said (ToServer s body) ∷ [])
  next_rest body events h st = record {
    texts = λ j l k. texts_told settings j s events (body ∷ []) (h, tt) ∙ k;
    encoding = λ j l. encoding_stays j events (said (ToServer s body)) refl;
    founds = founds_kept events (said (ToServer s body)) refl;
    starts = starts_kept events (said (ToServer s body)) refl;
    sent = λ n l. sent_apart n s body (message_of body) events (ne_eqb s n (λ q. let old = known settings t.requests t.origins.groups.items events g x st.origins (st.lasts.each i x at) in absurd (omega (arith, q, l, old))));
    moments = λ j z n p there asked. moment_stays settings z.life.start n events (said (ToServer s body)) (asks_told s body (message_of body) h);
    left = left_stays events (said (ToServer s body)) refl;
  }

  next_documents : (body : List ℕ) (bodies : List (List ℕ)) (events : List Event) → Stands settings t events → DocumentsStand settings (owes g (body ∷ bodies)) t events → speaks (saying_of (message_of body)) ≡ true → DocumentsStand settings (owes g bodies) t (events ++ said (ToServer s body) ∷ [])
  next_documents body bodies events st ds h = documents_last settings (owes g (body ∷ bodies)) (owes g bodies) t t events later (next_rest body events h st) refl i x x at (sym (set_same t.lasts.items i x at)) refl (λ k. k) own others ds
    where
      later : List Event
      later = events ++ said (ToServer s body) ∷ []

      own : (d : Documents) → SharedStands settings events (owes g (body ∷ bodies) g) g s x.life.stage d → SharedStands settings later (owes g bodies g) g s x.life.stage d
      own d k = subst (λ w. SharedStands settings later w g s x.life.stage d) (sym (owes_here g bodies)) (subst (λ (q : Stage). SharedStands settings later bodies g s q d) (sym ready)
          (shared_next settings events body bodies g s d (subst (λ (q : Stage). SharedStands settings events (body ∷ bodies) g s q d) ready (subst (λ w. SharedStands settings events w g s x.life.stage d) (owes_here g (body ∷ bodies)) k))))

      others : (j : ℕ) (z : Start) (c : Documents) → (j ≡ i → ⊥) → slice_get t.lasts.items j ≡ Some z → SharedStands settings events (owes g (body ∷ bodies) z.life.group) z.life.group z.life.start z.life.stage c → SharedStands settings later (owes g bodies z.life.group) z.life.group z.life.start z.life.stage c
      others j z c away there k =
          let far = groups_apart t.lasts.items i j x z st.lasts.rise at there away in
          subst (λ w. SharedStands settings later w z.life.group z.life.start z.life.stage c) (owes_there g z.life.group (body ∷ bodies) far ∙ sym (owes_there g z.life.group bodies far))
          (shared_beside settings events (owes g (body ∷ bodies) z.life.group) z.life.group z.life.start z.life.stage c s body h (apart settings t.requests events g z.life.group x z far (st.lasts.each i x at) (st.lasts.each j z there)) k)

  first_tells : (body : List ℕ) (bodies : List (List ℕ)) (events : List Event) → DocumentsStand settings (owes g (body ∷ bodies)) t events → speaks (saying_of (message_of body)) ≡ true
  first_tells body bodies events ds =
      let d = documents_at settings (owes g (body ∷ bodies)) t events i x at ds in
      let k : SharedStands settings events (body ∷ bodies) g s Ready d.0 = subst (λ (q : Stage). SharedStands settings events (body ∷ bodies) g s q d.0) ready (subst (λ w. SharedStands settings events w g s x.life.stage d.0) (owes_here g (body ∷ bodies)) (ds.each i x d.0 at d.1)) in
      k.start.tell.0

  all_paid : (bodies : List (List ℕ)) (events : List Event) → Stands settings t events → DocumentsStand settings (owes g bodies) t events → Stands settings t (behind events (to s bodies)) × DocumentsStand settings nothing_owed t (behind events (to s bodies))
  all_paid [] events st ds = subst (λ es. Stands settings t es × DocumentsStand settings nothing_owed t es) (sym (append-nil events)) (st, owes_nothing settings t g events ds)
  all_paid (body ∷ bodies) events st ds =
      let h = first_tells body bodies events ds in
      subst (λ es. Stands settings t es × DocumentsStand settings nothing_owed t es) (sym (first_behind events (ToServer s body) (to s bodies)))
      (all_paid bodies (events ++ said (ToServer s body) ∷ []) (next_stands settings t i x at body events h st) (next_documents body bodies events st ds h))

  pub paid_does : (base : List Event) (xs ys owed : List Out) (bodies : List (List ℕ)) → owed ≡ to s bodies → ys ≡ xs ++ owed → Does (AllStand settings) (to_start s bodies) base (t, owes g bodies) xs (t, nothing_owed) ys
  paid_does base xs ys owed bodies are is = record {
    done = λ k.
        let all : ys ≡ xs ++ to s bodies = is ∙ ap (λ zs. xs ++ zs) are in
        record {
          outs = all ∙ ap (λ zs. xs ++ zs) (sym (outs_to_start s bodies (behind base xs)));
          stands = subst (λ es. AllStand settings (t, nothing_owed) es) (sym (ap (behind base) all ∙ behind_more base xs (to s bodies))) (all_paid bodies (behind base xs) k.0 k.1);
        };
  }
