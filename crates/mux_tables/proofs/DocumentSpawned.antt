-- The documents of all groups, where a start is spawned.
use Rattle.std.proofs.Common.{◌≡◌, ℕ, ◌+◌, Bool, true, false, nat_eq, if◌then◌else◌, List, [], ◌∷◌, ◌++◌, length, refl, sym, ap, subst, ◌∙◌, arith}
use Rattle.std.specs.Prelude.{Option, Some, None, slice_get, slice_set}
use Rattle.std.proofs.lemmas.List.{length-append}
use Rattle.mux_history.specs.declared.out.Out.{Out}
use Rattle.mux_history.specs.declared.out.Out.TheVariants.{Spawn}
use Rattle.rpc_message.specs.Message.{not_message}
use Rattle.event_model.specs.declared.stage.Stage.TheVariants.{Spawning, Ended}
use Rattle.event_model.specs.Event.{Event, behind, did}
use Rattle.event_model.specs.Settings.{Settings}
use Rattle.event_model.specs.Spawns.{start_behind, start_of, starts_behind, starts_of}
use Rattle.event_model.proofs.Frames.{one_more}
use Rattle.event_model.proofs.Places.{Same, same, other, compare, get_push_other, get_push_same, same_item}
use Rattle.focus_switch.specs.Documents.{Documents}
use Rattle.group_laws.specs.group_rows.proofs.Frames.{encoding_stays, texts_stay}
use Rattle.restart_replay.specs.Standings.{Standing, spawned}
use Rattle.mux_tables.specs.declared.tables.Start.{Start}
use Rattle.mux_tables.specs.declared.tables.Tables.{Tables}
use Rattle.mux_tables.specs.Documents.{DocumentsStand, Owed, SharedStands, StartTold, Untold}
use Rattle.mux_tables.specs.Stands.{Stands}
use Rattle.mux_tables.proofs.DocumentEvents.{shared_quiet}
use Rattle.mux_tables.proofs.DocumentFrames.{sent_stays, untold_stays}
use Rattle.mux_tables.proofs.DocumentMoves.{Rest, documents_last, notes_stay, stand_by}
use Rattle.mux_tables.proofs.Noting.{left_stays, moment_stays, notes_gone}
use Rattle.mux_tables.specs.Notes.{NotesStand}
use Rattle.mux_tables.proofs.DocumentSaid.{documents_said}

abbrev pub no_documents : ℕ → Documents
no_documents versions = record { start = None; encoding = None; versions = versions; turn = 0; opens = []; sent = 0; helds = [] }

module _ (settings : Settings) (owed : Owed) (t u : Tables) (events : List Event) (n g : ℕ) (y : Start) (next : n ≡ length t.origins.groups.items) (life : y.life ≡ spawned n g) (vs : u.versions ≡ t.versions) (st : Stands settings t events) where
  abbrev ev : Event
  ev = did (Spawn n g) not_message

  abbrev later : List Event
  later = events ++ ev ∷ []

  rest : Rest settings t events later
  rest = record {
    texts = λ j l h. texts_stay settings j events ev refl ∙ h;
    encoding = λ j l. encoding_stays j events ev refl;
    founds = λ j k. founded (nat_eq g j) (start_of j events) (sym (one_more (start_behind j) _ _ events ev refl) ∙ k);
    starts = λ s l. let long : starts_of later ≡ starts_of events + 1 = one_more starts_behind _ _ events ev refl in omega (arith, l, long);
    sent = λ s l. sent_stays s events ev refl;
    moments = λ j x n p at there. moment_stays settings x.life.start n events ev refl;
    left = left_stays events ev refl;
  }
    where
      founded : (b : Bool) (o : Option ℕ) → (if b then Some n else o) ≡ None → o ≡ None
      founded true o k = cc
      founded false o k = k

  quiet : (j : ℕ) (z : Start) (c : Documents) → SharedStands settings events (owed z.life.group) z.life.group z.life.start z.life.stage c → SharedStands settings later (owed z.life.group) z.life.group z.life.start z.life.stage c
  quiet j z c h = shared_quiet settings events (owed z.life.group) z.life.group z.life.start z.life.stage c ev refl (λ o k. refl) h

  new_untold : DocumentsStand settings owed t events → Untold n later
  new_untold s = untold_stays n events later (sent_stays n events ev refl) (s.fresh n (let count = st.origins.count in omega (arith, next, count)))

  -- for a new group
  pub found_documents : (d : Documents) → start_of g events ≡ None → d ≡ no_documents t.versions → u.lasts.items ≡ t.lasts.items ++ y ∷ [] → y.ids.requests ≡ [] → u.documents.items ≡ t.documents.items ++ d ∷ [] → DocumentsStand settings owed t events → DocumentsStand settings owed u later
  found_documents d unfounded is ls none ds s = stand_by settings owed owed t u events later rest vs
      (λ c. ap length ds ∙ (length-append t.documents.items (d ∷ []) ∙ (ap (λ k. k + 1) c ∙ sym (ap length ls ∙ length-append t.lasts.items (y ∷ [])))))
      (λ j x c at has. go j x c (compare (length t.lasts.items) j) (ap (λ xs. slice_get xs j) (sym ls) ∙ at) (ap (λ xs. slice_get xs j) (sym ds) ∙ has))
      (λ j x at. noted j x (compare (length t.lasts.items) j) (ap (λ xs. slice_get xs j) (sym ls) ∙ at)) s
    where
      here : length t.documents.items ≡ length t.lasts.items
      here = s.count

      noted : (j : ℕ) (x : Start) → Same (length t.lasts.items) j → slice_get (t.lasts.items ++ y ∷ []) j ≡ Some x → NotesStand settings x.life.start x.ids.requests later
      noted _ x same at =
          let one : y ≡ x = same_item (sym (get_push_same t.lasts.items y) ∙ at) in
          subst (λ (z : Start). NotesStand settings z.life.start z.ids.requests later) one (notes_gone settings y.life.start y.ids.requests later none)
      noted j x (other h) at = notes_stay settings owed t events later rest s j x (sym (get_push_other t.lasts.items y j h) ∙ at)

      new : SharedStands settings later (owed g) g n Spawning (no_documents t.versions)
      new =
          let none = s.none g unfounded in
          record {
            texts = record { texts = texts_stay settings g events ev refl ∙ none.0; encoding = encoding_stays g events ev refl ∙ none.1; orderly = record { once = tt; turns = tt }; spelt = tt };
            versions = sym s.versions;
            owned = tt;
            start = (refl, new_untold s);
          }

      go : (j : ℕ) (x : Start) (c : Documents) → Same (length t.lasts.items) j → slice_get (t.lasts.items ++ y ∷ []) j ≡ Some x → slice_get (t.documents.items ++ d ∷ []) j ≡ Some c → SharedStands settings later (owed x.life.group) x.life.group x.life.start x.life.stage c
      go _ x c same at has =
          let one : y ≡ x = same_item (sym (get_push_same t.lasts.items y) ∙ at) in
          let two : d ≡ c = same_item (sym (get_push_same t.documents.items d) ∙ (ap (slice_get (t.documents.items ++ d ∷ [])) here ∙ has)) in
          subst (λ (l : Standing). SharedStands settings later (owed l.group) l.group l.start l.stage c) (sym life ∙ ap (λ (z : Start). z.life) one) (subst (λ z. SharedStands settings later (owed g) g n Spawning z) (sym is ∙ two) new)
      go j x c (other h) at has =
          quiet j x c (s.each j x c (sym (get_push_other t.lasts.items y j h) ∙ at) (sym (get_push_other t.documents.items d j (λ e. h (e ∙ here))) ∙ has))

  -- for a group whose last start ended
  pub respawn_documents : (i : ℕ) (x : Start) → slice_get t.lasts.items i ≡ Some x → x.life.group ≡ g → x.life.stage ≡ Ended → u.lasts.items ≡ slice_set t.lasts.items i y → y.ids.requests ≡ [] → u.documents ≡ t.documents → DocumentsStand settings owed t events → DocumentsStand settings owed u later
  respawn_documents i x at mine ended ls none ds s = documents_last settings owed owed t u events later rest vs i x y at ls (ap (λ v. v.items) ds) (λ _. notes_gone settings y.life.start y.ids.requests later none) (λ d h. go d (quiet i x d h)) (λ j z c away there h. quiet j z c h) s
    where
      go : (d : Documents) → SharedStands settings later (owed x.life.group) x.life.group x.life.start x.life.stage d → SharedStands settings later (owed y.life.group) y.life.group y.life.start y.life.stage d
      go d k =
          let h : SharedStands settings later (owed g) g x.life.start x.life.stage d = subst (λ m. SharedStands settings later (owed m) m x.life.start x.life.stage d) mine k in
          subst (λ (l : Standing). SharedStands settings later (owed l.group) l.group l.start l.stage d) (sym life)
          (record { texts = h.texts; versions = h.versions; owned = h.owned; start = (subst (λ k. StartTold k x.life.start (owed g) d later) ended h.start, new_untold s) })

pub found_gives_documents : (settings : Settings) (owed : Owed) (t u : Tables) (base : List Event) (xs ys : List Out) (n g : ℕ) (y : Start) (d : Documents) → n ≡ length t.origins.groups.items → y.life ≡ spawned n g → u.versions ≡ t.versions → start_of g (behind base xs) ≡ None → d ≡ no_documents t.versions → u.lasts.items ≡ t.lasts.items ++ y ∷ [] → y.ids.requests ≡ []
    → u.documents.items ≡ t.documents.items ++ d ∷ [] → ys ≡ xs ++ Spawn n g ∷ [] → Stands settings t (behind base xs) → DocumentsStand settings owed t (behind base xs) → DocumentsStand settings owed u (behind base ys)
found_gives_documents settings owed t u base xs ys n g y d next life vs place new ls none ds is st = documents_said settings owed owed t u (Spawn n g) base xs ys is (found_documents settings owed t u (behind base xs) n g y next life vs st d place new ls none ds)

pub respawn_gives_documents : (settings : Settings) (owed : Owed) (t u : Tables) (base : List Event) (xs ys : List Out) (n g i : ℕ) (x y : Start) → n ≡ length t.origins.groups.items → y.life ≡ spawned n g → u.versions ≡ t.versions → slice_get t.lasts.items i ≡ Some x → x.life.group ≡ g → x.life.stage ≡ Ended → u.lasts.items ≡ slice_set t.lasts.items i y → y.ids.requests ≡ []
    → u.documents ≡ t.documents → ys ≡ xs ++ Spawn n g ∷ [] → Stands settings t (behind base xs) → DocumentsStand settings owed t (behind base xs) → DocumentsStand settings owed u (behind base ys)
respawn_gives_documents settings owed t u base xs ys n g i x y next life vs at mine ended ls none ds is st = documents_said settings owed owed t u (Spawn n g) base xs ys is (respawn_documents settings owed t u (behind base xs) n g y next life vs st i x at mine ended ls none ds)
