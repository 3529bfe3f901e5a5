-- Behind a sync the start has each holder's language and text: of the documents of the editor that asks, its own.
use Rattle.std.proofs.Common.{◌≡◌, ℕ, ◌<◌, ◌^◌, Bool, true, false, cond, ◌&&◌, List, [], ◌∷◌, ◌++◌, map, filter, find, flat_map, fold, nat_eq, refl, sym, ◌∙◌, ap, ap₂, subst}
use Rattle.std.specs.Prelude.{Option, Some, None, bytes_eq}
use Rattle.std.specs.List.{AllByRecursion}
use Rattle.std.proofs.lemmas.List.Sums.{fold-append}
use Rattle.position_codec.specs.declared.Encoding.{Encoding}
use Rattle.document_model.specs.Opens.{Open, holder, holds_language, holds_own, is_open_at}
use Rattle.document_model.specs.Orderly.{IsSpelt, Once}
use Rattle.document_model.specs.Helds.{HeldText}
use Rattle.document_model.proofs.Holders.{bytes_same, find_is, found_holder}
use Rattle.document_model.proofs.Orders.{IsFound, all_found}
use Rattle.document_model.proofs.Spelt.{all_find}
use Rattle.focus_switch.specs.declared.telling.Telling.{Telling}
use Rattle.focus_switch.specs.Documents.{Documents, version_held}
use Rattle.focus_switch.specs.document_table.specs.Rows.{touched_at}
use Rattle.focus_switch.specs.Rows.{Step, nothing, send, each, synced, switch, sync_sends, sync_row}
use Rattle.document_laws.specs.Follows.{Held, Matches, told_outs}
use Rattle.document_laws.proofs.Sends.{Kept, bodies_of, by_match, other_way, send_keeps, send_version, send_version_other, told_bodies, told_sent, version_behind}
use Rattle.document_laws.proofs.Owning.{differ_own}
use Rattle.document_laws.proofs.Tellings.{Follows, differ_follows}
use Rattle.group_rows.specs.Rows as rows
use Rattle.group_laws.proofs.Syncing.{Same, all_keep, all_same, kept_then, rest_same, same_kept, sends_of, sync_outs}
use Rattle.group_laws.proofs.Touching.{Nowhere, holder_apart, holder_touched, none_nowhere, nowhere_behind}

module _ (n e : ℕ) (s : Documents) (held : List ℕ → Option HeldText) (started : s.start ≡ Some n) (follows : Held s held) (code : Encoding) (given : s.encoding ≡ Some code) (small : s.versions < 2 ^ 32) (all_once : Once s.opens) where
  -- it is UTF-8, and found
  abbrev Fine : Open → Type 0
  Fine o = IsSpelt o × IsFound s.opens o

  abbrev bodies : Open → List (List ℕ)
  bodies o = rows.synced s.versions o (held o.uri)

  abbrev telling : Documents → Open → Option Telling
  telling t o = sync_sends o (version_held o.uri s.helds) t

  one_follows : (o : Open) → Fine o → Follows (Some code) o.uri (Some o) (version_held o.uri s.helds) (held o.uri) (telling s o)
  one_follows o fine = by_match (λ v p h. holder o.uri s.opens ≡ p → Follows (Some code) o.uri (Some o) v h (sync_sends o v s)) (λ d. absurd (found_holder o.editor o.uri s.opens o fine.1 d))
      (λ v p h a b d. subst (Follows (Some code) o.uri (Some o) (Some v) (Some h)) (sym (differ_own s o v all_once fine.1)) (differ_follows code s o p v h small d a b fine.0)) (version_held o.uri s.helds) (holder o.uri s.opens) (held o.uri) (follows o.uri) refl

  are_bodies : (o : Open) → Fine o → bodies_of (telling s o) ≡ bodies o
  are_bodies o fine = sends_of n e s held started follows s o (same_kept s) all_once fine.1 (version_held o.uri s.helds) refl

  one_silent : (o : Open) → Fine o → (w : List ℕ) (k : Option HeldText) → bytes_eq w o.uri ≡ false → told_bodies (Some code) w k (bodies o) ≡ k
  one_silent o fine w k away = ap (told_bodies (Some code) w k) (sym (are_bodies o fine)) ∙ (one_follows o fine).silent w k away

  told_more : (w : List ℕ) (h : Option HeldText) (xs ys : List (List ℕ)) → told_bodies (Some code) w h (xs ++ ys) ≡ told_bodies (Some code) w (told_bodies (Some code) w h xs) ys
  told_more w h xs ys = fold-append _ h xs ys

  abbrev sent : List Open → List (List ℕ)
  sent os = rows.sync_bodies s.versions held e os

  abbrev sent_if : Bool → Open → List Open → List (List ℕ)
  sent_if b o os = flat_map (λ (p : Open). bodies p) (cond b (o ∷ filter (λ (p : Open). nat_eq p.editor e) os) (filter (λ (p : Open). nat_eq p.editor e) os))

  -- of a document that isn't open at the editor nothing is said
  told_silent : (w : List ℕ) (os : List Open) (h : Option HeldText) → Nowhere e s.turn w os → AllByRecursion Fine os → told_bodies (Some code) w h (sent os) ≡ h
  told_silent w [] h none fine = refl
  told_silent w (o ∷ os) h none fine = go (nat_eq o.editor e) none.0 (λ k. told_silent w os k none.1 fine.1)
    where
      go : (b : Bool) → (b && bytes_eq o.uri w) ≡ false → ((k : Option HeldText) → told_bodies (Some code) w k (sent os) ≡ k) → told_bodies (Some code) w h (sent_if b o os) ≡ h
      go true k rest = told_more w h (bodies o) (sent os) ∙ (rest (told_bodies (Some code) w h (bodies o)) ∙ one_silent o fine.0 w h (other_way w o.uri k))
      go false k rest = rest h

  told_here : (u : List ℕ) (o : Open) (os : List Open) (h : Option HeldText) → Once os → AllByRecursion Fine os → find (is_open_at e u) os ≡ Some o → told_bodies (Some code) u h (sent os) ≡ told_bodies (Some code) u h (bodies o)
  told_here u o [] h once fine found = absurd (cc)
  told_here u o (p ∷ ps) h once fine found = go (nat_eq p.editor e) refl (bytes_eq p.uri u) refl found (λ k there. told_here u o ps k once.1 fine.1 there)
    where
      go : (c : Bool) → nat_eq p.editor e ≡ c → (d : Bool) → bytes_eq p.uri u ≡ d → cond (c && d) (Some p) (find (is_open_at e u) ps) ≡ Some o
          → ((k : Option HeldText) → find (is_open_at e u) ps ≡ Some o → told_bodies (Some code) u k (sent ps) ≡ told_bodies (Some code) u k (bodies o)) → told_bodies (Some code) u h (sent_if c p ps) ≡ told_bodies (Some code) u h (bodies o)
      go true c true d found rest =
          let is : p ≡ o = cc in
          told_more u h (bodies p) (sent ps) ∙ (told_silent u ps (told_bodies (Some code) u h (bodies p)) (nowhere_behind e s.turn u p ps c d once.0) fine.1 ∙ ap (λ q. told_bodies (Some code) u h (bodies q)) is)
      go true c false d found rest = told_more u h (bodies p) (sent ps) ∙ (rest (told_bodies (Some code) u h (bodies p)) found ∙ ap (λ k. told_bodies (Some code) u k (bodies o)) (one_silent p fine.0 u h (other_way u p.uri d)))
      go false c d k found rest = rest h found

  -- the versions that are kept
  abbrev synced_if : Bool → Documents → Open → Step
  synced_if b t o = cond b (send o.uri (sync_sends o (version_held o.uri t.helds) t) t) (nothing t)

  abbrev step_if : Bool → Step → Open → Step
  step_if b step o = record { outs = step.outs ++ (synced_if b step.after o).outs; after = (synced_if b step.after o).after }

  version_silent : (w : List ℕ) (step : Step) (os : List Open) → Kept s step.after → Nowhere e s.turn w os → version_held w (fold (each (synced e)) step os).after.helds ≡ version_held w step.after.helds
  version_silent w step [] k none = refl
  version_silent w step (o ∷ os) k none = go (nat_eq o.editor e) none.0 (λ st kept. version_silent w st os kept none.1)
    where
      go : (b : Bool) → (b && bytes_eq o.uri w) ≡ false → ((st : Step) → Kept s st.after → version_held w (fold (each (synced e)) st os).after.helds ≡ version_held w st.after.helds)
          → version_held w (fold (each (synced e)) (step_if b step o) os).after.helds ≡ version_held w step.after.helds
      go true d rest =
          let x : Option Telling = sync_sends o (version_held o.uri step.after.helds) step.after in
          rest (step_if true step o) (kept_then s step.after (send o.uri x step.after).after k (send_keeps o.uri x step.after)) ∙ send_version_other n o.uri w x step.after (k.stays.start ∙ started) (other_way w o.uri d)
      go false d rest = rest (step_if false step o) k

  -- what is told of a document hangs on what is open alone
  telling_stays : (t : Documents) (o : Open) → Kept s t → (v : Option ℕ) → v ≡ version_held o.uri s.helds → sync_sends o v t ≡ telling s o
  telling_stays t o k v is = ap (λ w. sync_sends o w t) is ∙ go (version_held o.uri s.helds)
    where
      go : (v : Option ℕ) → sync_sends o v t ≡ sync_sends o v s
      go None = refl
      go (Some v) = ap₂ (λ (os : List Open) (m : ℕ). cond (holds_own o os) None (Some (switch (holds_language o os) m o v))) k.opens k.stays.versions

  version_here : (u : List ℕ) (o : Open) (step : Step) (os : List Open) → Kept s step.after → Once os → Same e s step.after os → find (is_open_at e u) os ≡ Some o
      → version_held u (fold (each (synced e)) step os).after.helds ≡ version_behind (version_held o.uri s.helds) (telling s o)
  version_here u o step [] k once same found = absurd (cc)
  version_here u o step (p ∷ ps) k once same found = go (nat_eq p.editor e) refl (bytes_eq p.uri u) refl found (λ st kept alike there. version_here u o st ps kept once.1 alike there)
    where
      go : (c : Bool) → nat_eq p.editor e ≡ c → (d : Bool) → bytes_eq p.uri u ≡ d → cond (c && d) (Some p) (find (is_open_at e u) ps) ≡ Some o
          → ((st : Step) → Kept s st.after → Same e s st.after ps → find (is_open_at e u) ps ≡ Some o → version_held u (fold (each (synced e)) st ps).after.helds ≡ version_behind (version_held o.uri s.helds) (telling s o))
          → version_held u (fold (each (synced e)) (step_if c step p) ps).after.helds ≡ version_behind (version_held o.uri s.helds) (telling s o)
      go true c true d found rest =
          let is : p ≡ o = cc in
          let x : Option Telling = sync_sends p (version_held p.uri step.after.helds) step.after in
          let kept = kept_then s step.after (send p.uri x step.after).after k (send_keeps p.uri x step.after) in
          version_silent u (step_if true step p) ps kept (nowhere_behind e s.turn u p ps c d once.0)
          ∙ (ap (λ w. version_held w (send p.uri x step.after).after.helds) (sym (bytes_same p.uri u d))
          ∙ (send_version n p.uri x step.after (k.stays.start ∙ started)
          ∙ (ap₂ version_behind (same.0 c) (telling_stays step.after p k (version_held p.uri step.after.helds) (same.0 c))
          ∙ ap (λ (q : Open). version_behind (version_held q.uri s.helds) (telling s q)) is)))
      go true c false d found rest =
          let x : Option Telling = sync_sends p (version_held p.uri step.after.helds) step.after in
          rest (step_if true step p) (kept_then s step.after (send p.uri x step.after).after k (send_keeps p.uri x step.after)) (rest_same n e s held started follows step.after p ps k c once.0 same.1) found
      go false c d j found rest = rest (step_if false step p) k same.1 found

  own_alone : (v : Option ℕ) (o p : Open) (h : Option HeldText) → o.language ≡ p.language → o.text ≡ p.text → Matches v (Some o) h → Matches v (Some p) h
  own_alone (Some v) o p (Some h) d e m = (m.0, (m.1.0 ∙ d, m.1.1 ∙ e))
  own_alone (Some v) o p None d e m = absurd m
  own_alone None o p h d e m = absurd m

  match_at : (v w : Option ℕ) (o p : Option Open) (h k : Option HeldText) → v ≡ w → o ≡ p → h ≡ k → Matches v o h → Matches w p k
  match_at v w o p h k a b c m = subst (λ z. Matches w p z) c (subst (λ z. Matches w z h) b (subst (λ z. Matches z o h) a m))

  -- what the start has behind a sync is each holder's language and text
  pub sync_held : AllByRecursion (λ (p : Open). p.touched < s.turn) s.opens → AllByRecursion IsSpelt s.opens → Held (sync_row e s).after (λ w. told_outs s.encoding w (held w) (sync_row e s).outs)
  sync_held before spelt w = go (find (is_open_at e w) s.opens) refl
    where
      fine : AllByRecursion Fine s.opens
      fine = both s.opens spelt (all_found s.opens all_once)
        where
          both : (os : List Open) → AllByRecursion IsSpelt os → AllByRecursion (IsFound s.opens) os → AllByRecursion Fine os
          both [] a b = tt
          both (o ∷ os) a b = ((a.0, b.0), both os a.1 b.1)

      kept : Kept s (fold (each (synced e)) (nothing s) s.opens).after
      kept = all_keep e s (nothing s) s.opens (same_kept s)

      opened : holder w (sync_row e s).after.opens ≡ holder w (map (touched_at e s.turn) s.opens)
      opened = ap₂ (λ (m : ℕ) (os : List Open). holder w (map (touched_at e m) os)) kept.turn kept.opens

      said : told_outs s.encoding w (held w) (sync_row e s).outs ≡ told_bodies (Some code) w (held w) (sent s.opens)
      said = ap₂ (λ c xs. told_outs c w (held w) xs) given (sync_outs n e s held started follows all_once) ∙ told_sent (Some code) w n (sent s.opens) (held w)

      go : (o : Option Open) → find (is_open_at e w) s.opens ≡ o → Matches (version_held w (sync_row e s).after.helds) (holder w (sync_row e s).after.opens) (told_outs s.encoding w (held w) (sync_row e s).outs)
      go None none =
          let away = none_nowhere e s.turn w s.opens none in
          match_at (version_held w s.helds) (version_held w (sync_row e s).after.helds) (holder w s.opens) (holder w (sync_row e s).after.opens) (held w) (told_outs s.encoding w (held w) (sync_row e s).outs)
          (sym (version_silent w (nothing s) s.opens (same_kept s) away)) (sym (opened ∙ holder_apart e s.turn w s.opens away)) (sym (said ∙ told_silent w s.opens (held w) away fine)) (follows w)
      go (Some o) there =
          let is = find_is e w s.opens o there in
          let good : Fine o = all_find Fine (is_open_at e w) s.opens o fine there in
          let here = (one_follows o good).here in
          match_at (version_behind (version_held o.uri s.helds) (telling s o)) (version_held w (sync_row e s).after.helds) (Some (record o { touched = s.turn })) (holder w (sync_row e s).after.opens)
          (told_bodies (Some code) o.uri (held o.uri) (bodies_of (telling s o))) (told_outs s.encoding w (held w) (sync_row e s).outs)
          (sym (version_here w o (nothing s) s.opens (same_kept s) all_once (all_same e s s.opens) there))
          (sym (opened ∙ holder_touched e s.turn w o s.opens all_once before there))
          (sym (said ∙ (told_here w o s.opens (held w) all_once fine there ∙ (ap (λ u. told_bodies (Some code) u (held u) (bodies o)) (sym is.1) ∙ ap (told_bodies (Some code) o.uri (held o.uri)) (sym (are_bodies o good))))))
          (own_alone (version_behind (version_held o.uri s.helds) (telling s o)) o (record o { touched = s.turn }) (told_bodies (Some code) o.uri (held o.uri) (bodies_of (telling s o))) refl refl here)
