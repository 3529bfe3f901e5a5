-- An editor leaves: it closes each of its documents, and what the start has of each is what its next holder has.
use Rattle.std.proofs.Common.{◌≡◌, ℕ, ◌<◌, ◌^◌, Bool, true, false, cond, not, ◌&&◌, List, [], ◌∷◌, ◌++◌, map, filter, find, flat_map, fold, nat_eq, refl, sym, ◌∙◌, ap, ap₂, subst, append_assoc, append-nil, arith}
use Rattle.std.proofs.lemmas.Grind.{fold-append}
use Rattle.std.specs.Prelude.{Option, Some, None, bytes_eq}
use Rattle.std.specs.List.{AllByRecursion}
use Rattle.std.proofs.lemmas.Bool.Decides.{nat_tests}
use Rattle.mux_history.specs.declared.out.Out.{Out}
use Rattle.mux_history.specs.declared.out.Out.TheVariants.{ToServer}
use Rattle.position_codec.specs.declared.Encoding.{Encoding}
use Rattle.document_model.specs.Opens.{Open, drop_open, holder, holder_beside, is_open_at, later}
use Rattle.document_model.specs.Orderly.{AllSpelt, Once, Orderly}
use Rattle.document_model.specs.Helds.{HeldText}
use Rattle.document_model.specs.Sayings.{closes}
use Rattle.document_model.specs.Texts.{Texts, found}
use Rattle.document_model.proofs.Holders.{find_is, holder_drop_other, is_at, pick}
use Rattle.document_model.proofs.Orders.{IsFound, all_found, orderly_behind}
use Rattle.document_model.proofs.Spelt.{drop_spelt, latest_spelt}
use Rattle.document_model.proofs.Spoken.{AllSpeak, sent_close_speaks}
use Rattle.focus_switch.specs.Documents.{Documents, version_held}
use Rattle.focus_switch.specs.document_table.specs.Rows.{uris_of}
use Rattle.focus_switch.specs.Rows.{Step, nothing, send, forget, or_nothing, close_sends, close_row, close_next, leave_row}
use Rattle.document_laws.specs.Follows.{Held, Matches, texts_in, told_outs}
use Rattle.document_laws.proofs.Following.{close_held, close_none, close_outs, close_silent, close_stays, close_texts}
use Rattle.document_laws.proofs.Sends.{Stays, other_way, send_version_other}
use Rattle.group_rows.specs.mux_model.specs.Documents.{without_editor}
use Rattle.document_model.specs.Rows.{sent_close}
use Rattle.group_rows.specs.Leaves as departures
use Rattle.group_laws.proofs.Syncing.{apart, map_append}

-- what is open behind it

abbrev drops : ℕ → List (List ℕ) → List Open → List Open
drops e us os = fold (λ ps u. drop_open e u ps) os us

away_test : (e : ℕ) (u : List ℕ) (o : Open) → nat_eq o.editor e ≡ false → is_open_at e u o ≡ false
away_test e u o h = ap (λ b. b && bytes_eq o.uri u) h

drops_away : (e : ℕ) (o : Open) (us : List (List ℕ)) (os : List Open) → nat_eq o.editor e ≡ false → drops e us (o ∷ os) ≡ o ∷ drops e us os
drops_away e o [] os h = refl
drops_away e o (u ∷ us) os h = ap (λ b. drops e us (cond b os (o ∷ drop_open e u os))) (away_test e u o h) ∙ drops_away e o us (drop_open e u os) h

same_bytes : (u : List ℕ) → bytes_eq u u ≡ true
same_bytes [] = refl
same_bytes (c ∷ cs) = go c ∙ same_bytes cs
  where
    go : (n : ℕ) → bytes_eq (n ∷ cs) (n ∷ cs) ≡ bytes_eq cs cs
    go n = grind (arith, nat_tests)

all_dropped : (e : ℕ) (os : List Open) → drops e (uris_of e os) os ≡ filter (λ (o : Open). not (nat_eq o.editor e)) os
all_dropped e [] = refl
all_dropped e (o ∷ os) = go (nat_eq o.editor e) refl (all_dropped e os)
  where
    go : (b : Bool) → nat_eq o.editor e ≡ b → drops e (uris_of e os) os ≡ filter (λ (p : Open). not (nat_eq p.editor e)) os
        → drops e (cond b (o.uri ∷ []) [] ++ uris_of e os) (o ∷ os) ≡ cond (not b) (o ∷ filter (λ (p : Open). not (nat_eq p.editor e)) os) (filter (λ (p : Open). not (nat_eq p.editor e)) os)
    go true h rest = ap (λ c. drops e (uris_of e os) (cond c os (o ∷ drop_open e o.uri os))) (ap₂ (λ c d. c && d) h (same_bytes o.uri)) ∙ rest
    go false h rest = drops_away e o (uris_of e os) os h ∙ ap (λ ps. o ∷ ps) rest

closed_texts : (e : ℕ) (us : List (List ℕ)) (step : Step) → texts_in (fold (close_next e) step us).after ≡ record { turn = step.after.turn; opens = drops e us step.after.opens }
closed_texts e [] step = refl
closed_texts e (u ∷ us) step = closed_texts e us (close_next e step u) ∙ ap (λ (x : Texts). record { turn = x.turn; opens = drops e us x.opens }) (close_texts e u step.after)

pub leave_texts : (e : ℕ) (s : Documents) → texts_in (leave_row e s).after ≡ without_editor e (texts_in s)
leave_texts e s = closed_texts e (uris_of e s.opens) (nothing s) ∙ ap (λ (os : List Open). record { turn = s.turn; opens = os }) (all_dropped e s.opens)

pub stays_then : (r s t : Documents) → Stays r s → Stays s t → Stays r t
stays_then r s t f g = record { start = g.start ∙ f.start; encoding = g.encoding ∙ f.encoding; versions = g.versions ∙ f.versions }

closed_stay : (e : ℕ) (s : Documents) (us : List (List ℕ)) (step : Step) → Stays s step.after → Stays s (fold (close_next e) step us).after
closed_stay e s [] step k = k
closed_stay e s (u ∷ us) step k = closed_stay e s us (close_next e step u) (stays_then s step.after (close_row e u step.after).after k (close_stays e u step.after))

pub leave_stays : (e : ℕ) (s : Documents) → Stays s (leave_row e s).after
leave_stays e s = closed_stay e s (uris_of e s.opens) (nothing s) (record { start = refl; encoding = refl; versions = refl })

next_orderly : (e : ℕ) (u : List ℕ) (t : Documents) → Orderly (texts_in t) → Orderly (texts_in (close_row e u t).after)
next_orderly e u t h = subst Orderly (sym (close_texts e u t)) (orderly_behind t.encoding e (closes u) (texts_in t) h)

pub next_spelt : (e : ℕ) (u : List ℕ) (t : Documents) → AllSpelt t.opens → AllSpelt (close_row e u t).after.opens
next_spelt e u t h = subst (λ (x : Texts). AllSpelt x.opens) (sym (close_texts e u t)) (drop_spelt e u t.opens h)

closed_orderly : (e : ℕ) (us : List (List ℕ)) (step : Step) → Orderly (texts_in step.after) → Orderly (texts_in (fold (close_next e) step us).after)
closed_orderly e [] step h = h
closed_orderly e (u ∷ us) step h = closed_orderly e us (close_next e step u) (next_orderly e u step.after h)

closed_spelt : (e : ℕ) (us : List (List ℕ)) (step : Step) → AllSpelt step.after.opens → AllSpelt (fold (close_next e) step us).after.opens
closed_spelt e [] step h = h
closed_spelt e (u ∷ us) step h = closed_spelt e us (close_next e step u) (next_spelt e u step.after h)

pub leave_orderly : (e : ℕ) (s : Documents) → Orderly (texts_in s) → Orderly (texts_in (leave_row e s).after)
leave_orderly e s h = closed_orderly e (uris_of e s.opens) (nothing s) h

pub leave_spelt : (e : ℕ) (s : Documents) → AllSpelt s.opens → AllSpelt (leave_row e s).after.opens
leave_spelt e s h = closed_spelt e (uris_of e s.opens) (nothing s) h

-- where no start is ready nothing is sent
closed_silent : (e : ℕ) (us : List (List ℕ)) (step : Step) → step.after.start ≡ None → (fold (close_next e) step us).outs ≡ step.outs
closed_silent e [] step h = refl
closed_silent e (u ∷ us) step h = closed_silent e us (close_next e step u) ((close_stays e u step.after).start ∙ h) ∙ (ap (λ xs. step.outs ++ xs) (close_silent e u step.after h) ∙ append-nil step.outs)

pub leave_silent : (e : ℕ) (s : Documents) → s.start ≡ None → (leave_row e s).outs ≡ []
leave_silent e s h = closed_silent e (uris_of e s.opens) (nothing s) h

-- another document of the editor stays where it closes one

and_right : (a b : Bool) → b ≡ false → (a && b) ≡ false
and_right true b h = h
and_right false b h = refl

itself : (n : ℕ) → nat_eq n n ≡ true
itself n = grind (arith, nat_tests)

found_drop : (e : ℕ) (u w : List ℕ) (os : List Open) → bytes_eq u w ≡ false → find (is_open_at e w) (drop_open e u os) ≡ find (is_open_at e w) os
found_drop e u w [] away = refl
found_drop e u w (o ∷ os) away = go (is_open_at e u o) refl (found_drop e u w os away)
  where
    go : (b : Bool) → is_open_at e u o ≡ b → find (is_open_at e w) (drop_open e u os) ≡ find (is_open_at e w) os → find (is_open_at e w) (cond b os (o ∷ drop_open e u os)) ≡ find (is_open_at e w) (o ∷ os)
    go true k rest = sym (ap (λ b. cond b (Some o) (find (is_open_at e w) os)) (and_right (nat_eq o.editor e) (bytes_eq o.uri w) (ap (λ z. bytes_eq z w) (is_at e u o k).1 ∙ away)))
    go false k rest = ap (λ z. cond (is_open_at e w o) (Some o) z) rest

-- and so does what others have

abbrev test_beside : ℕ → List ℕ → Open → Bool
test_beside e w o = bytes_eq o.uri w && not (nat_eq o.editor e)

beside_from : (e : ℕ) (u w : List ℕ) (os : List Open) (best : Option Open) → fold (pick (test_beside e w)) best (drop_open e u os) ≡ fold (pick (test_beside e w)) best os
beside_from e u w [] best = refl
beside_from e u w (o ∷ os) best = go (is_open_at e u o) refl (λ b. beside_from e u w os b)
  where
    go : (b : Bool) → is_open_at e u o ≡ b → ((b : Option Open) → fold (pick (test_beside e w)) b (drop_open e u os) ≡ fold (pick (test_beside e w)) b os)
        → fold (pick (test_beside e w)) best (cond b os (o ∷ drop_open e u os)) ≡ fold (pick (test_beside e w)) best (o ∷ os)
    go true k rest = sym (ap (λ b. fold (pick (test_beside e w)) (cond b (later o best) best) os)
        (and_right (bytes_eq o.uri w) (not (nat_eq o.editor e)) (ap (λ m. not (nat_eq m e)) (is_at e u o k).0 ∙ ap not (itself e))))
    go false k rest = rest (pick (test_beside e w) best o)

beside_drop : (e : ℕ) (u w : List ℕ) (os : List Open) → holder_beside e w (drop_open e u os) ≡ holder_beside e w os
beside_drop e u w os = beside_from e u w os None

both_speak : (xs ys : List (List ℕ)) → AllSpeak xs → AllSpeak ys → AllSpeak (xs ++ ys)
both_speak [] ys a b = b
both_speak (x ∷ xs) ys a b = (a.0, both_speak xs ys a.1 b)

-- what is kept says what the start has
same_match : (v : Option ℕ) (p : Option Open) (h k : Option HeldText) → Matches v p h → Matches v p k → h ≡ k
same_match (Some v) (Some p) (Some h) (Some k) a b = ap₂ (λ m (c : List ℕ × List ℕ). Some (record { version = m; language = c.0; text = c.1 })) (a.0 ∙ sym b.0) (ap₂ (λ (l t : List ℕ). (l, t)) (a.1.0 ∙ sym b.1.0) (a.1.1 ∙ sym b.1.1))
same_match (Some v) (Some p) (Some h) None a b = absurd b
same_match (Some v) (Some p) None k a b = absurd a
same_match (Some v) None h k a b = absurd a
same_match None (Some p) h k a b = absurd a
same_match None None (Some h) k a b = absurd a
same_match None None None (Some k) a b = absurd b
same_match None None None None a b = refl

-- what the start has behind it

module _ (n e : ℕ) (code : Encoding) (s : Documents) (held : List ℕ → Option HeldText) (started : s.start ≡ Some n) (coded : s.encoding ≡ Some code) (small : s.versions < 2 ^ 32) where
  abbrev Follows : Step → Type 0
  Follows step = Held step.after (λ w. told_outs s.encoding w (held w) step.outs)

  pub record Fine (step : Step) : Type 0 where
    pub stays : Stays s step.after
    pub orderly : Orderly (texts_in step.after)
    pub spelt : AllSpelt step.after.opens
    pub follows : Follows step

  told_more : (c : Option Encoding) (w : List ℕ) (h : Option HeldText) (xs ys : List Out) → told_outs c w h (xs ++ ys) ≡ told_outs c w (told_outs c w h xs) ys
  told_more c w h xs ys = fold-append _ h xs ys

  next_follows : (u : List ℕ) (step : Step) → Fine step → Follows (close_next e step u)
  next_follows u step f =
      let k : Held (close_row e u step.after).after (λ w. told_outs step.after.encoding w (told_outs s.encoding w (held w) step.outs) (close_row e u step.after).outs)
      = close_held n code e u step.after (λ w. told_outs s.encoding w (held w) step.outs) (f.stays.start ∙ started) (f.stays.encoding ∙ coded) f.orderly f.follows (subst (λ m. m < 2 ^ 32) (sym f.stays.versions) small) f.spelt in
      λ w. subst (λ z. Matches (version_held w (close_row e u step.after).after.helds) (holder w (close_row e u step.after).after.opens) z)
      (ap (λ c. told_outs c w (told_outs s.encoding w (held w) step.outs) (close_row e u step.after).outs) f.stays.encoding ∙ sym (told_more s.encoding w (held w) step.outs (close_row e u step.after).outs)) (k w)

  next_fine : (u : List ℕ) (step : Step) → Fine step → Fine (close_next e step u)
  next_fine u step f = record {
    stays = stays_then s step.after (close_row e u step.after).after f.stays (close_stays e u step.after);
    orderly = next_orderly e u step.after f.orderly;
    spelt = next_spelt e u step.after f.spelt;
    follows = next_follows u step f;
  }

  all_fine : (us : List (List ℕ)) (step : Step) → Fine step → Fine (fold (close_next e) step us)
  all_fine [] step f = f
  all_fine (u ∷ us) step f = all_fine us (close_next e step u) (next_fine u step f)

  -- the bodies that are sent

  abbrev to : List (List ℕ) → List Out
  to bodies = map (λ b. ToServer n b) bodies

  version_other : (u w : List ℕ) (t : Documents) → t.start ≡ Some n → bytes_eq w u ≡ false → version_held w (close_row e u t).after.helds ≡ version_held w t.helds
  version_other u w t is away = go (found e u (texts_in t)) refl
    where
      go : (o : Option Open) → found e u (texts_in t) ≡ o → version_held w (close_row e u t).after.helds ≡ version_held w t.helds
      go None h = ap (λ (z : Step). version_held w z.after.helds) (close_none e u t h)
      go (Some o) h = ap (λ z. version_held w (or_nothing z t (λ (o : Open). forget e o.uri (send o.uri (close_sends e o.uri (version_held o.uri t.helds) t) t))).after.helds) h
          ∙ send_version_other n o.uri w (close_sends e o.uri (version_held o.uri t.helds) t) t is (subst (λ z. bytes_eq w z ≡ false) (sym (find_is e u t.opens o h).1) away)

  -- a document of the editor that isn't closed yet
  pub record Waits (t : Documents) (o : Open) : Type 0 where
    pub found : found e o.uri (texts_in t) ≡ Some o
    pub version : version_held o.uri t.helds ≡ version_held o.uri s.helds
    pub holder : holder o.uri t.opens ≡ holder o.uri s.opens

  abbrev AllWait : Documents → List Open → Type 0
  AllWait t os = AllByRecursion (λ (o : Open). nat_eq o.editor e ≡ true → Waits t o) os

  wait_on : (t : Documents) (o p : Open) → t.start ≡ Some n → bytes_eq p.uri o.uri ≡ false → Waits t p → Waits (close_row e o.uri t).after p
  wait_on t o p is away x = record {
    found = ap (found e p.uri) (close_texts e o.uri t) ∙ (found_drop e o.uri p.uri t.opens (other_way o.uri p.uri away) ∙ x.found);
    version = version_other o.uri p.uri t is away ∙ x.version;
    holder = ap (λ (y : Texts). holder p.uri y.opens) (close_texts e o.uri t) ∙ (holder_drop_other e o.uri p.uri t.opens (other_way o.uri p.uri away) ∙ x.holder);
  }

  rest_wait : (t : Documents) (o : Open) (os : List Open) → t.start ≡ Some n → nat_eq o.editor e ≡ true → AllByRecursion (λ (p : Open). is_open_at o.editor o.uri p ≡ false) os → AllWait t os → AllWait (close_row e o.uri t).after os
  rest_wait t o [] is own once all = tt
  rest_wait t o (p ∷ ps) is own once all = (λ h. wait_on t o p is (apart e o p once.0 own h) (all.0 h), rest_wait t o ps is own once.1 all.1)

  first_wait : (os : List Open) → AllByRecursion (IsFound s.opens) os → AllWait s os
  first_wait [] found = tt
  first_wait (o ∷ os) found = (λ h. record { found = ap (λ m. find (is_open_at m o.uri) s.opens) (same_editor o.editor e h) ∙ found.0; version = refl; holder = refl }, first_wait os found.1)
    where
      same_editor : (x y : ℕ) → nat_eq x y ≡ true → y ≡ x
      same_editor x y h = grind (arith, nat_tests)

  -- the others have what they had
  abbrev Beside : Documents → Type 0
  Beside t = (w : List ℕ) → holder_beside e w t.opens ≡ holder_beside e w s.opens

  beside_on : (u : List ℕ) (t : Documents) → Beside t → Beside (close_row e u t).after
  beside_on u t h = λ w. ap (λ (y : Texts). holder_beside e w y.opens) (close_texts e u t) ∙ (beside_drop e u w t.opens ∙ h w)

  module _ (follows : Held s held) where
    still_held : (step : Step) (o : Open) → Fine step → Waits step.after o → told_outs s.encoding o.uri (held o.uri) step.outs ≡ held o.uri
    still_held step o f x = same_match (version_held o.uri s.helds) (holder o.uri s.opens) (told_outs s.encoding o.uri (held o.uri) step.outs) (held o.uri)
        (subst (λ z. Matches (version_held o.uri s.helds) z (told_outs s.encoding o.uri (held o.uri) step.outs)) x.holder
        (subst (λ z. Matches z (holder o.uri step.after.opens) (told_outs s.encoding o.uri (held o.uri) step.outs)) x.version (f.follows o.uri))) (follows o.uri)

    abbrev bodies : Open → List (List ℕ)
    bodies o = departures.left s.versions e s.opens (held o.uri) o

    one_left : (step : Step) (o : Open) → Fine step → Beside step.after → Waits step.after o → (close_row e o.uri step.after).outs ≡ to (bodies o)
    one_left step o f h x = close_outs e o.uri step.after n o (λ w. told_outs s.encoding w (held w) step.outs) (f.stays.start ∙ started) f.orderly.once f.follows x.found
        ∙ ap to (ap (λ m. sent_close m o.uri (holder_beside e o.uri step.after.opens) (told_outs s.encoding o.uri (held o.uri) step.outs)) f.stays.versions ∙ ap₂ (λ q k. sent_close s.versions o.uri q k) (h o.uri) (still_held step o f x))

    abbrev left : List Open → List (List ℕ)
    left os = departures.leave_bodies s.versions held e s.opens os

    abbrev left_if : Bool → Open → List Open → List (List ℕ)
    left_if b o os = flat_map (λ (p : Open). bodies p) (cond b (o ∷ filter (λ (p : Open). nat_eq p.editor e) os) (filter (λ (p : Open). nat_eq p.editor e) os))

    all_left : (step : Step) (os : List Open) → Fine step → Beside step.after → Once os → AllWait step.after os → (fold (close_next e) step (uris_of e os)).outs ≡ step.outs ++ to (left os)
    all_left step [] f h once all = sym (append-nil step.outs)
    all_left step (o ∷ os) f h once all = go (nat_eq o.editor e) refl (λ st fine beside waits. all_left st os fine beside once.1 waits)
      where
        go : (b : Bool) → nat_eq o.editor e ≡ b → ((st : Step) → Fine st → Beside st.after → AllWait st.after os → (fold (close_next e) st (uris_of e os)).outs ≡ st.outs ++ to (left os))
            → (fold (close_next e) step (cond b (o.uri ∷ []) [] ++ uris_of e os)).outs ≡ step.outs ++ to (left_if b o os)
        go true own rest =
            let x : Step = close_row e o.uri step.after in
            rest (close_next e step o.uri) (next_fine o.uri step f) (beside_on o.uri step.after h) (rest_wait step.after o os (f.stays.start ∙ started) own once.0 all.1)
            ∙ (append_assoc step.outs x.outs (to (left os)) ∙ ap (λ zs. step.outs ++ zs) (ap (λ zs. zs ++ to (left os)) (one_left step o f h (all.0 own)) ∙ sym (map_append (λ b. ToServer n b) (bodies o) (left os))))
        go false other rest = rest step f h all.1

    module _ (orderly : Orderly (texts_in s)) (spelt : AllSpelt s.opens) where
      first_fine : Fine (nothing s)
      first_fine = record { stays = record { start = refl; encoding = refl; versions = refl }; orderly = orderly; spelt = spelt; follows = follows }

      pub leave_held : Held (leave_row e s).after (λ w. told_outs s.encoding w (held w) (leave_row e s).outs)
      leave_held = (all_fine (uris_of e s.opens) (nothing s) first_fine).follows

      -- each of its documents is closed, in the order of opening
      pub leave_outs : (leave_row e s).outs ≡ map (λ b. ToServer n b) (departures.leave_bodies s.versions held e s.opens s.opens)
      leave_outs = all_left (nothing s) s.opens first_fine (λ w. refl) orderly.once (first_wait s.opens (all_found s.opens orderly.once))

      left_speaks : (os : List Open) → AllSpelt os → AllSpeak (left os)
      left_speaks [] h = tt
      left_speaks (o ∷ os) h = go (nat_eq o.editor e) (left_speaks os h.1)
        where
          go : (b : Bool) → AllSpeak (left os) → AllSpeak (left_if b o os)
          go true rest = both_speak (bodies o) (left os) (sent_close_speaks s.versions o.uri (holder_beside e o.uri s.opens) (held o.uri) small h.0.0 (λ q k. latest_spelt _ s.opens q spelt k)) rest
          go false rest = rest

      pub leave_speaks : AllSpeak (departures.leave_bodies s.versions held e s.opens s.opens)
      leave_speaks = left_speaks s.opens spelt
