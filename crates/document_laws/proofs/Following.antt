-- The rows of an opening and a closing send what is said of them, and what the start has goes on following what is open.
use Rattle.std.proofs.Common.{◌≡◌, ℕ, ◌+◌, ◌^◌, ◌<◌, ◌&&◌, not, List, [], map, refl, sym, ◌∙◌, ap, ap₂, subst}
use Rattle.std.specs.Prelude.{Option, Some, None, find, nat_eq, bytes_eq, IsUtf8}
use Rattle.std.specs.List.{AllByRecursion}
use Rattle.std.specs.Option.{option_map_or}
use Rattle.mux_history.specs.declared.out.Out.TheVariants.{ToServer}
use Rattle.position_codec.specs.declared.Encoding.{Encoding}
use Rattle.focus_switch.specs.declared.telling.Telling.{Telling}
use Rattle.focus_switch.specs.declared.telling.Telling.TheVariants.{Closes}
use Rattle.document_model.specs.Opens.{Open, is_open_at, put_open, drop_open, holder, holder_beside}
use Rattle.focus_switch.specs.Documents.{Documents, version_held}
use Rattle.focus_switch.specs.Rows.{Step, nothing, or_nothing, send, touch, forget, differing, differing_own, open_sends, open_row, close_sends, close_row}
use Rattle.document_model.specs.Bodies.{close_text}
use Rattle.document_laws.specs.Follows.{texts_in}
use Rattle.document_model.specs.Orderly.{IsSpelt}
use Rattle.document_model.specs.Texts.{found, touched, opened}
use Rattle.document_model.specs.Helds.{HeldText}
use Rattle.document_model.specs.Rows.{Agrees, sent_open, sent_close}
use Rattle.document_model.specs.Orderly.{Once, Orderly}
use Rattle.document_laws.specs.Follows.{Matches, Held, told_outs}
use Rattle.document_model.proofs.Holders.{bytes_same, both_true, holder_put, holder_put_other, holder_drop, holder_drop_other, drop_none, find_is, found_holder}
use Rattle.document_laws.proofs.Sends.{bodies_of, version_behind, Stays, Kept, send_outs, send_silent, send_keeps, told_bodies, row_held, latest_of, find_of, all_there, by_match}
use Rattle.document_laws.proofs.Owning.{beside_there, differ_own}
use Rattle.document_laws.proofs.Tellings.{Follows, open_follows, close_follows, differ_follows, differ_sent}

-- behind a touch

pub touch_texts : (o : Open) (u : List ℕ) (x : Option Telling) (s : Documents) → texts_in (touch o (send u x s)).after ≡ touched o (texts_in s)
touch_texts o u x s = let k : Kept s (send u x s).after = send_keeps u x s in ap₂ (λ (n : ℕ) (os : List Open). record { turn = n + 1; opens = put_open o os }) k.turn k.opens

pub touch_stays : (o : Open) (u : List ℕ) (x : Option Telling) (s : Documents) → Stays s (touch o (send u x s)).after
touch_stays o u x s = let k : Kept s (send u x s).after = send_keeps u x s in record { start = k.stays.start; encoding = k.stays.encoding; versions = k.stays.versions }

pub touch_held : (n : ℕ) (o : Open) (x : Option Telling) (s : Documents) (held : List ℕ → Option HeldText) → s.start ≡ Some n → Held s held → o.touched ≡ s.turn → AllByRecursion (λ (p : Open). p.touched < s.turn) s.opens
    → Follows s.encoding o.uri (Some o) (version_held o.uri s.helds) (held o.uri) x → Held (touch o (send o.uri x s)).after (λ w. told_outs s.encoding w (held w) (touch o (send o.uri x s)).outs)
touch_held n o x s held started follows turn before f =
    let k : Kept s (send o.uri x s).after = send_keeps o.uri x s in
    let best : holder o.uri (put_open o s.opens) ≡ Some o = holder_put o s.opens (subst (λ z. AllByRecursion (λ (p : Open). p.touched < z) s.opens) (sym turn) before) in
    subst (λ (os : List Open). Held (record (send o.uri x s).after { opens = put_open o os; turn = (send o.uri x s).after.turn + 1 }) (λ w. told_outs s.encoding w (held w) (send o.uri x s).outs)) (sym k.opens)
    (row_held n o.uri x s held (put_open o s.opens) ((send o.uri x s).after.turn + 1) started follows (λ w away. holder_put_other w o s.opens away) f.silent
    (subst (λ z. Matches (version_behind (version_held o.uri s.helds) x) z (told_bodies s.encoding o.uri (held o.uri) (bodies_of x))) (sym best) f.here))

-- opening

pub open_texts : (e : ℕ) (u l v t : List ℕ) (s : Documents) → texts_in (open_row e u l v t s).after ≡ touched (opened e u l v t (texts_in s)) (texts_in s)
open_texts e u l v t s = touch_texts (opened e u l v t (texts_in s)) u (open_sends (opened e u l v t (texts_in s)) (version_held u s.helds) s) s

pub open_stays : (e : ℕ) (u l v t : List ℕ) (s : Documents) → Stays s (open_row e u l v t s).after
open_stays e u l v t s = touch_stays (opened e u l v t (texts_in s)) u (open_sends (opened e u l v t (texts_in s)) (version_held u s.helds) s) s

pub open_silent : (e : ℕ) (u l v t : List ℕ) (s : Documents) → s.start ≡ None → (open_row e u l v t s).outs ≡ []
open_silent e u l v t s h = send_silent u (open_sends (opened e u l v t (texts_in s)) (version_held u s.helds) s) s h

pub open_outs : (n : ℕ) (e : ℕ) (u l v t : List ℕ) (s : Documents) (held : List ℕ → Option HeldText) → s.start ≡ Some n → Held s held
    → (open_row e u l v t s).outs ≡ map (λ b. ToServer n b) (sent_open s.versions (opened e u l v t (texts_in s)) (held u))
open_outs n e u l v t s held started follows =
    let o : Open = opened e u l v t (texts_in s) in
    send_outs n u (open_sends o (version_held u s.helds) s) s started ∙ ap (map (λ b. ToServer n b))
    (by_match (λ w p h. holder u s.opens ≡ p → bodies_of (open_sends o w s) ≡ sent_open s.versions o h) (λ d. refl) (λ w p h a b d. differ_sent s o p w h d a b)
    (version_held u s.helds) (holder u s.opens) (held u) (follows u) refl)

-- closing

module _ (e : ℕ) (u : List ℕ) (s : Documents) where
  -- a document that isn't open there is no row
  pub close_none : found e u (texts_in s) ≡ None → close_row e u s ≡ nothing s
  close_none h = ap (λ z. or_nothing z s (λ (o : Open). forget e o.uri (send o.uri (close_sends e o.uri (version_held o.uri s.helds) s) s))) h

  abbrev pub closing : Step
  closing = forget e u (send u (close_sends e u (version_held u s.helds) s) s)

  pub close_is : (o : Open) → found e u (texts_in s) ≡ Some o → close_row e u s ≡ closing
  close_is o h = ap (λ z. or_nothing z s (λ (o : Open). forget e o.uri (send o.uri (close_sends e o.uri (version_held o.uri s.helds) s) s))) h
      ∙ ap (λ z. forget e z (send z (close_sends e z (version_held z s.helds) s) s)) (find_is e u s.opens o h).1

  -- the holder, were the document not open here, has this document
  pub beside_uri : (o : Open) → holder_beside e u s.opens ≡ Some o → o.uri ≡ u
  beside_uri o h = bytes_same o.uri u (both_true (bytes_eq o.uri u) (not (nat_eq o.editor e))
      (latest_of (λ (p : Open). Unit {0}) (λ p. bytes_eq p.uri u && not (nat_eq p.editor e)) s.opens o (all_there s.opens) h).1).0

  closing_kept : Kept s (send u (close_sends e u (version_held u s.helds) s) s).after
  closing_kept = send_keeps u (close_sends e u (version_held u s.helds) s) s

  pub close_texts : texts_in (close_row e u s).after ≡ record { turn = s.turn; opens = drop_open e u s.opens }
  close_texts = go (found e u (texts_in s)) refl
    where
      go : (o : Option Open) → found e u (texts_in s) ≡ o → texts_in (close_row e u s).after ≡ record { turn = s.turn; opens = drop_open e u s.opens }
      go None h = ap (λ (z : Step). texts_in z.after) (close_none h) ∙ ap (λ (os : List Open). record { turn = s.turn; opens = os }) (sym (drop_none e u s.opens h))
      go (Some o) h = ap (λ (z : Step). texts_in z.after) (close_is o h) ∙ ap₂ (λ (n : ℕ) (os : List Open). record { turn = n; opens = drop_open e u os }) closing_kept.turn closing_kept.opens

  pub close_stays : Stays s (close_row e u s).after
  close_stays = go (found e u (texts_in s)) refl
    where
      go : (o : Option Open) → found e u (texts_in s) ≡ o → Stays s (close_row e u s).after
      go None h = subst (λ (z : Step). Stays s z.after) (sym (close_none h)) (record { start = refl; encoding = refl; versions = refl })
      go (Some o) h = subst (λ (z : Step). Stays s z.after) (sym (close_is o h)) (record { start = closing_kept.stays.start; encoding = closing_kept.stays.encoding; versions = closing_kept.stays.versions })

  pub close_silent : s.start ≡ None → (close_row e u s).outs ≡ []
  close_silent started = go (found e u (texts_in s)) refl
    where
      go : (o : Option Open) → found e u (texts_in s) ≡ o → (close_row e u s).outs ≡ []
      go None h = ap (λ (z : Step). z.outs) (close_none h)
      go (Some o) h = ap (λ (z : Step). z.outs) (close_is o h) ∙ send_silent u (close_sends e u (version_held u s.helds) s) s started

  pub close_outs : (n : ℕ) (o : Open) (held : List ℕ → Option HeldText) → s.start ≡ Some n → Once s.opens → Held s held → found e u (texts_in s) ≡ Some o
      → (close_row e u s).outs ≡ map (λ b. ToServer n b) (sent_close s.versions u (holder_beside e u s.opens) (held u))
  close_outs n o held started once follows h = ap (λ (z : Step). z.outs) (close_is o h) ∙ send_outs n u (close_sends e u (version_held u s.helds) s) s started ∙ ap (map (λ b. ToServer n b))
      (by_match (λ v p k. holder u s.opens ≡ p → bodies_of (close_sends e u v s) ≡ sent_close s.versions u (holder_beside e u s.opens) k) (λ d. refl) (λ v p k a b d. go v p k a b d (holder_beside e u s.opens) refl)
      (version_held u s.helds) (holder u s.opens) (held u) (follows u) refl)
    where
      go : (v : ℕ) (p : Open) (k : HeldText) → k.version ≡ v → Agrees p k → holder u s.opens ≡ Some p → (rest : Option Open) → holder_beside e u s.opens ≡ rest
          → bodies_of (option_map_or (λ h. differing_own h v s) rest (Some (Closes (close_text u)))) ≡ sent_close s.versions u rest (Some k)
      go v p k a b d None f = refl
      go v p k a b d (Some q) f = ap bodies_of (differ_own s q v once (beside_there e u s.opens q once f)) ∙ differ_sent s q p v k (ap (λ z. holder z s.opens) (beside_uri q f) ∙ d) a b

-- what is sent is of this document alone, and leaves the start with the holder's language and text

pub open_held : (n : ℕ) (code : Encoding) (e : ℕ) (u l v t : List ℕ) (s : Documents) (held : List ℕ → Option HeldText) → s.start ≡ Some n → s.encoding ≡ Some code → Orderly (texts_in s) → Held s held → s.versions < 2 ^ 32
    → IsUtf8 u → IsUtf8 l → IsUtf8 t → Held (open_row e u l v t s).after (λ w. told_outs s.encoding w (held w) (open_row e u l v t s).outs)
open_held n code e u l v t s held started coded orderly follows small utf8_u utf8_l utf8_t =
    let o : Open = opened e u l v t (texts_in s) in
    touch_held n o (open_sends o (version_held u s.helds) s) s held started follows refl orderly.turns
    (subst (λ z. Follows z u (Some o) (version_held u s.helds) (held u) (open_sends o (version_held u s.helds) s)) (sym coded)
    (by_match (λ w p h. holder u s.opens ≡ p → Follows (Some code) u (Some o) w h (open_sends o w s))
    (λ d. open_follows (Some code) o None None (utf8_u, utf8_l, utf8_t))
    (λ w p h a b d. differ_follows code s o p w h small d a b (utf8_u, utf8_l, utf8_t))
    (version_held u s.helds) (holder u s.opens) (held u) (follows u) refl))

module _ (code : Encoding) (e : ℕ) (u : List ℕ) (s : Documents) (small : s.versions < 2 ^ 32) (utf8 : AllByRecursion IsSpelt s.opens) (once : Once s.opens) (o : Open) (there : find (is_open_at e u) s.opens ≡ Some o) where
  utf8_uri : IsUtf8 u
  utf8_uri = subst IsUtf8 (find_is e u s.opens o there).1 (find_of IsSpelt (is_open_at e u) s.opens o utf8 there).0

  rest_follows : (v : ℕ) (p : Open) (h : HeldText) → h.version ≡ v → Agrees p h → holder u s.opens ≡ Some p → (rest : Option Open) → holder_beside e u s.opens ≡ rest
      → Follows (Some code) u rest (Some v) (Some h) (option_map_or (λ q. differing_own q v s) rest (Some (Closes (close_text u))))
  rest_follows v p h a b d None f = close_follows (Some code) u (Some v) (Some h) utf8_uri
  rest_follows v p h a b d (Some q) f =
      let same : q.uri ≡ u = beside_uri e u s q f in
      let good : IsSpelt q = (latest_of IsSpelt (λ p. bytes_eq p.uri u && not (nat_eq p.editor e)) s.opens q utf8 f).0 in
      subst (Follows (Some code) u (Some q) (Some v) (Some h)) (sym (differ_own s q v once (beside_there e u s.opens q once f)))
      (subst (λ z. Follows (Some code) z (Some q) (Some v) (Some h) (differing q v s)) same
      (differ_follows code s q p v h small (ap (λ z. holder z s.opens) same ∙ d) a b good))

  closed_follows : (v : Option ℕ) (h : Option HeldText) → Matches v (holder u s.opens) h → Follows (Some code) u (holder_beside e u s.opens) v h (close_sends e u v s)
  closed_follows v h m = by_match (λ v p h. holder u s.opens ≡ p → Follows (Some code) u (holder_beside e u s.opens) v h (close_sends e u v s)) (λ d. absurd (found_holder e u s.opens o there d))
      (λ v p h a b d. rest_follows v p h a b d (holder_beside e u s.opens) refl) v (holder u s.opens) h m refl

  closing_held : (n : ℕ) (held : List ℕ → Option HeldText) → s.start ≡ Some n → s.encoding ≡ Some code → Held s held → Held (closing e u s).after (λ w. told_outs s.encoding w (held w) (closing e u s).outs)
  closing_held n held started coded follows =
      let x : Option Telling = close_sends e u (version_held u s.helds) s in
      let f : Follows s.encoding u (holder_beside e u s.opens) (version_held u s.helds) (held u) x
      = subst (λ z. Follows z u (holder_beside e u s.opens) (version_held u s.helds) (held u) x) (sym coded) (closed_follows (version_held u s.helds) (held u) (follows u)) in
      subst (λ (os : List Open). Held (record (send u x s).after { opens = drop_open e u os; turn = (send u x s).after.turn }) (λ w. told_outs s.encoding w (held w) (send u x s).outs)) (sym (send_keeps u x s).opens)
      (row_held n u x s held (drop_open e u s.opens) (send u x s).after.turn started follows (λ w away. holder_drop_other e u w s.opens away) f.silent
      (subst (λ z. Matches (version_behind (version_held u s.helds) x) z (told_bodies s.encoding u (held u) (bodies_of x))) (sym (holder_drop e u s.opens once)) f.here))

pub close_held : (n : ℕ) (code : Encoding) (e : ℕ) (u : List ℕ) (s : Documents) (held : List ℕ → Option HeldText) → s.start ≡ Some n → s.encoding ≡ Some code → Orderly (texts_in s) → Held s held → s.versions < 2 ^ 32
    → AllByRecursion IsSpelt s.opens → Held (close_row e u s).after (λ w. told_outs s.encoding w (held w) (close_row e u s).outs)
close_held n code e u s held started coded orderly follows small utf8 = go (found e u (texts_in s)) refl
  where
    go : (o : Option Open) → found e u (texts_in s) ≡ o → Held (close_row e u s).after (λ w. told_outs s.encoding w (held w) (close_row e u s).outs)
    go None h = subst (λ (z : Step). Held z.after (λ w. told_outs s.encoding w (held w) z.outs)) (sym (close_none e u s h)) follows
    go (Some o) h = subst (λ (z : Step). Held z.after (λ w. told_outs s.encoding w (held w) z.outs)) (sym (close_is e u s o h)) (closing_held code e u s small utf8 orderly.once o h n held started coded follows)
