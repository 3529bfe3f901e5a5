-- Before a message of an editor goes on: what the start is sent, and what stays.
use Rattle.std.proofs.Common.{◌≡◌, ℕ, Bool, true, false, cond, ◌&&◌, List, [], ◌∷◌, ◌++◌, map, filter, flat_map, fold, nat_eq, refl, sym, ◌∙◌, ap, ap₂, subst, append_assoc, append-nil, arith}
use Rattle.std.specs.Prelude.{Option, Some, bytes_eq}
use Rattle.std.specs.List.{AllByRecursion}
use Rattle.std.proofs.lemmas.Bool.Decides.{nat_tests}
use Rattle.mux_history.specs.declared.out.Out.{Out}
use Rattle.mux_history.specs.declared.out.Out.TheVariants.{ToServer}
use Rattle.document_model.specs.Opens.{Open, holder, is_open_at}
use Rattle.document_model.specs.Orderly.{Once}
use Rattle.document_model.specs.Helds.{HeldText}
use Rattle.document_model.proofs.Orders.{IsFound, all_found}
use Rattle.focus_switch.specs.Documents.{Documents, version_held}
use Rattle.focus_switch.specs.Rows.{Step, nothing, send, each, synced, sync_sends, sync_row}
use Rattle.document_laws.specs.Follows.{Held, texts_in}
use Rattle.document_laws.proofs.Sends.{Kept, Stays, bodies_of, by_match, send_keeps, send_outs, send_version_other}
use Rattle.document_laws.proofs.Owning.{differ_own}
use Rattle.document_laws.proofs.Tellings.{differ_sent}
use Rattle.group_rows.specs.Texts.{touch_all}
use Rattle.group_rows.specs.Rows as rows

pub same_kept : (s : Documents) → Kept s s
same_kept s = record { stays = record { start = refl; encoding = refl; versions = refl }; turn = refl; opens = refl }

pub kept_then : (r s t : Documents) → Kept r s → Kept s t → Kept r t
kept_then r s t f g = record {
  stays = record { start = g.stays.start ∙ f.stays.start; encoding = g.stays.encoding ∙ f.stays.encoding; versions = g.stays.versions ∙ f.stays.versions };
  turn = g.turn ∙ f.turn;
  opens = g.opens ∙ f.opens;
}

pub synced_keeps : (e : ℕ) (s : Documents) (o : Open) → Kept s (synced e s o).after
synced_keeps e s o = go (nat_eq o.editor e)
  where
    go : (b : Bool) → Kept s (cond b (send o.uri (sync_sends o (version_held o.uri s.helds) s) s) (nothing s)).after
    go true = send_keeps o.uri (sync_sends o (version_held o.uri s.helds) s) s
    go false = same_kept s

pub all_keep : (e : ℕ) (s : Documents) (step : Step) (os : List Open) → Kept s step.after → Kept s (fold (each (synced e)) step os).after
all_keep e s step [] k = k
all_keep e s step (o ∷ os) k = all_keep e s (each (synced e) step o) os (kept_then s step.after (synced e step.after o).after k (synced_keeps e step.after o))

-- what is open stays, and the editor has touched all of its own
pub sync_texts : (e : ℕ) (s : Documents) → texts_in (sync_row e s).after ≡ touch_all (Some e) (texts_in s)
sync_texts e s =
    let k = all_keep e s (nothing s) s.opens (same_kept s) in
    ap₂ (λ (n : ℕ) (os : List Open). touch_all (Some e) (record { turn = n; opens = os })) k.turn k.opens

pub sync_stays : (e : ℕ) (s : Documents) → Stays s (sync_row e s).after
sync_stays e s =
    let k = all_keep e s (nothing s) s.opens (same_kept s) in
    record { start = k.stays.start; encoding = k.stays.encoding; versions = k.stays.versions }

-- the bodies that are sent

abbrev pub Same : ℕ → Documents → Documents → List Open → Type 0
Same e s t os = AllByRecursion (λ (o : Open). nat_eq o.editor e ≡ true → version_held o.uri t.helds ≡ version_held o.uri s.helds) os

pub all_same : (e : ℕ) (s : Documents) (os : List Open) → Same e s s os
all_same e s [] = tt
all_same e s (o ∷ os) = (λ h. refl, all_same e s os)

-- another document of the same editor
pub apart : (e : ℕ) (o p : Open) → is_open_at o.editor o.uri p ≡ false → nat_eq o.editor e ≡ true → nat_eq p.editor e ≡ true → bytes_eq p.uri o.uri ≡ false
apart e o p h a b = go (bytes_eq p.uri o.uri) (nat_eq p.editor o.editor) (both p.editor o.editor e a b) h
  where
    both : (x y z : ℕ) → nat_eq y z ≡ true → nat_eq x z ≡ true → nat_eq x y ≡ true
    both x y z c d = grind (arith, nat_tests)

    go : (c d : Bool) → d ≡ true → (d && c) ≡ false → c ≡ false
    go c true q r = r
    go c false q r = absurd (let z : true ≡ false = sym q in cc)

pub map_append : (f : List ℕ → Out) (xs ys : List (List ℕ)) → map f (xs ++ ys) ≡ map f xs ++ map f ys
map_append f [] ys = refl
map_append f (x ∷ xs) ys = ap (λ zs. f x ∷ zs) (map_append f xs ys)

module _ (n : ℕ) (e : ℕ) (s : Documents) (held : List ℕ → Option HeldText) (started : s.start ≡ Some n) (follows : Held s held) where
  abbrev to : List (List ℕ) → List Out
  to bodies = map (λ b. ToServer n b) bodies

  pub sends_of : (t : Documents) (o : Open) → Kept s t → Once s.opens → IsFound s.opens o → (v : Option ℕ) → v ≡ version_held o.uri s.helds → bodies_of (sync_sends o v t) ≡ rows.synced s.versions o (held o.uri)
  sends_of t o k once there v is = ap (λ w. bodies_of (sync_sends o w t)) is ∙ by_match (λ w p h. holder o.uri s.opens ≡ p → bodies_of (sync_sends o w t) ≡ rows.synced s.versions o h) (λ d. refl)
      (λ w p h a b d. ap bodies_of (differ_own t o w (subst Once (sym k.opens) once) (subst (λ os. IsFound os o) (sym k.opens) there))
      ∙ (differ_sent t o p w h (ap (holder o.uri) k.opens ∙ d) a b ∙ ap (λ m. rows.synced m o (Some h)) k.stays.versions))
      (version_held o.uri s.helds) (holder o.uri s.opens) (held o.uri) (follows o.uri) refl

  one_sends : (t : Documents) (o : Open) → Kept s t → Once s.opens → IsFound s.opens o → version_held o.uri t.helds ≡ version_held o.uri s.helds → (send o.uri (sync_sends o (version_held o.uri t.helds) t) t).outs ≡ to (rows.synced s.versions o (held o.uri))
  one_sends t o k once there is = send_outs n o.uri (sync_sends o (version_held o.uri t.helds) t) t (k.stays.start ∙ started) ∙ ap to (sends_of t o k once there (version_held o.uri t.helds) is)

  pub rest_same : (t : Documents) (o : Open) (os : List Open) → Kept s t → nat_eq o.editor e ≡ true → AllByRecursion (λ (p : Open). is_open_at o.editor o.uri p ≡ false) os → Same e s t os → Same e s (send o.uri (sync_sends o (version_held o.uri t.helds) t) t).after os
  rest_same t o [] k own once same = tt
  rest_same t o (p ∷ ps) k own once same =
      (λ h. send_version_other n o.uri p.uri (sync_sends o (version_held o.uri t.helds) t) t (k.stays.start ∙ started) (apart e o p once.0 own h) ∙ same.0 h, rest_same t o ps k own once.1 same.1)

  abbrev sent : List Open → List (List ℕ)
  sent os = rows.sync_bodies s.versions held e os

  all_sent : (step : Step) (os : List Open) → Kept s step.after → Once s.opens → AllByRecursion (IsFound s.opens) os → Once os → Same e s step.after os → (fold (each (synced e)) step os).outs ≡ step.outs ++ to (sent os)
  all_sent step [] k all_once found once same = sym (append-nil step.outs)
  all_sent step (o ∷ os) k all_once found once same = go (nat_eq o.editor e) refl (λ st kept alike. all_sent st os kept all_once found.1 once.1 alike)
    where
      go : (b : Bool) → nat_eq o.editor e ≡ b → ((st : Step) → Kept s st.after → Same e s st.after os → (fold (each (synced e)) st os).outs ≡ st.outs ++ to (sent os))
          → (fold (each (synced e)) (record { outs = step.outs ++ (cond b (send o.uri (sync_sends o (version_held o.uri step.after.helds) step.after) step.after) (nothing step.after)).outs; after = (cond b (send o.uri (sync_sends o (version_held o.uri step.after.helds) step.after) step.after) (nothing step.after)).after }) os).outs
          ≡ step.outs ++ to (flat_map (λ (p : Open). rows.synced s.versions p (held p.uri)) (cond b (o ∷ filter (λ (p : Open). nat_eq p.editor e) os) (filter (λ (p : Open). nat_eq p.editor e) os)))
      go true own rest =
          let x : Step = send o.uri (sync_sends o (version_held o.uri step.after.helds) step.after) step.after in
          rest (record { outs = step.outs ++ x.outs; after = x.after }) (kept_then s step.after x.after k (send_keeps o.uri (sync_sends o (version_held o.uri step.after.helds) step.after) step.after)) (rest_same step.after o os k own once.0 same.1)
          ∙ (append_assoc step.outs x.outs (to (sent os)) ∙ ap (λ zs. step.outs ++ zs) (ap (λ zs. zs ++ to (sent os)) (one_sends step.after o k all_once found.0 (same.0 own)) ∙ sym (map_append (λ b. ToServer n b) (rows.synced s.versions o (held o.uri)) (sent os))))
      go false other rest =
          rest (record { outs = step.outs ++ []; after = step.after }) k same.1 ∙ ap (λ zs. zs ++ to (sent os)) (append-nil step.outs)

  -- of each document that is open at e, in the order of its opening, e's text, where the start doesn't agree
  pub sync_outs : Once s.opens → (sync_row e s).outs ≡ map (λ b. ToServer n b) (rows.sync_bodies s.versions held e s.opens)
  sync_outs once = all_sent (nothing s) s.opens (same_kept s) once (all_found s.opens once) once (all_same e s s.opens)
