-- Who holds a document behind an opening, a change or a closing, and what the start was told of it.
use Rattle.std.proofs.Common.{◌≡◌, ℕ, ◌<◌, Bool, true, false, cond, not, ◌&&◌, List, [], ◌∷◌, refl, sym, ◌∙◌, ap, arith}
use Rattle.std.specs.Prelude.{Option, Some, None, fold, find, nat_eq, nat_lt, bytes_eq, if◌then◌else◌}
use Rattle.std.specs.List.{AllByRecursion}
use Rattle.std.proofs.lemmas.Bool.{eqb-true, lt-ltb, le-ltb}
use Rattle.std.proofs.lemmas.Slice.Eq.{bytes_eq-Decides}
use Rattle.json_text.proofs.Put.{same_name}
use Rattle.document_model.specs.Opens.{Open, is_open_at, put_open, drop_open, later, holder, holder_beside}
use Rattle.document_model.specs.Orderly.{Once}

-- bytes that the test calls equal are equal
pub bytes_same : (u w : List ℕ) → bytes_eq u w ≡ true → u ≡ w
bytes_same u w h = (bytes_eq-Decides u w).0 h

pub both_true : (a b : Bool) → (a && b) ≡ true → (a ≡ true) × (b ≡ true)
both_true true b h = (refl, h)
both_true false b h = absurd (cc)

-- what is open at e under u
pub is_at : (e : ℕ) (u : List ℕ) (o : Open) → is_open_at e u o ≡ true → (o.editor ≡ e) × (o.uri ≡ u)
is_at e u o h = let b : (nat_eq o.editor e ≡ true) × (bytes_eq o.uri u ≡ true) = both_true (nat_eq o.editor e) (bytes_eq o.uri u) h in
    (eqb-true o.editor e b.0, bytes_same o.uri u b.1)

pub find_is : (e : ℕ) (u : List ℕ) (os : List Open) (o : Open) → find (is_open_at e u) os ≡ Some o → (o.editor ≡ e) × (o.uri ≡ u)
find_is e u [] o h = absurd (cc)
find_is e u (p ∷ ps) o h = go (is_open_at e u p) refl h (λ k. find_is e u ps o k)
  where
    go : (b : Bool) → is_open_at e u p ≡ b → cond b (Some p) (find (is_open_at e u) ps) ≡ Some o → (find (is_open_at e u) ps ≡ Some o → (o.editor ≡ e) × (o.uri ≡ u)) → (o.editor ≡ e) × (o.uri ≡ u)
    go true d k r = let same : p ≡ o = cc in let q : (p.editor ≡ e) × (p.uri ≡ u) = is_at e u p d in
        (ap (λ (z : Open). z.editor) (sym same) ∙ q.0, ap (λ (z : Open). z.uri) (sym same) ∙ q.1)
    go false d k r = r k

-- the best so far, and one more
abbrev pub pick : (Open → Bool) → Option Open → Open → Option Open
pick test best o = if test o then later o best else best

abbrev Below : Open → Option Open → Type 0
Below o None = Unit {0}
Below o (Some b) = b.touched < o.touched

later_than : (o : Open) (best : Option Open) → Below o best → later o best ≡ Some o
later_than o None h = refl
later_than o (Some b) h = ap (λ z. if z then Some b else Some o) (le-ltb o.touched b.touched (omega arith))

not_later : (o p : Open) → p.touched < o.touched → later p (Some o) ≡ Some o
not_later o p h = ap (λ z. if z then Some o else Some p) (lt-ltb p.touched o.touched h)

below_on : (test : Open → Bool) (o p : Open) (best : Option Open) → Below o best → p.touched < o.touched → Below o (pick test best p)
below_on test o p best h l = go (test p) best h
  where
    go : (b : Bool) (best : Option Open) → Below o best → Below o (cond b (later p best) best)
    go false best h = h
    go true None h = l
    go true (Some q) h = which (nat_lt p.touched q.touched)
      where
        which : (c : Bool) → Below o (if c then Some q else Some p)
        which true = h
        which false = l

-- the last touch stays the best
stays_best : (test : Open → Bool) (o : Open) (os : List Open) → AllByRecursion (λ (p : Open). p.touched < o.touched) os → fold (pick test) (Some o) os ≡ Some o
stays_best test o [] h = refl
stays_best test o (p ∷ ps) h = go (test p) (stays_best test o ps h.1)
  where
    go : (b : Bool) → fold (pick test) (Some o) ps ≡ Some o → fold (pick test) (cond b (later p (Some o)) (Some o)) ps ≡ Some o
    go true r = ap (λ z. fold (pick test) z ps) (not_later o p h.0) ∙ r
    go false r = r

best_put : (test : Open → Bool) (o : Open) (os : List Open) (best : Option Open) → test o ≡ true → Below o best → AllByRecursion (λ (p : Open). p.touched < o.touched) os → fold (pick test) best (put_open o os) ≡ Some o
best_put test o [] best d b h = ap (λ z. if z then later o best else best) d ∙ later_than o best b
best_put test o (p ∷ ps) best d b h = go (is_open_at o.editor o.uri p) (best_put test o ps (pick test best p) d (below_on test o p best b h.0) h.1)
  where
    go : (c : Bool) → fold (pick test) (pick test best p) (put_open o ps) ≡ Some o → fold (pick test) best (if c then o ∷ ps else p ∷ put_open o ps) ≡ Some o
    go true r = ap (λ z. fold (pick test) z ps) (ap (λ z. if z then later o best else best) d ∙ later_than o best b) ∙ stays_best test o ps h.1
    go false r = r

-- the last touch holds
pub holder_put : (o : Open) (os : List Open) → AllByRecursion (λ (p : Open). p.touched < o.touched) os → holder o.uri (put_open o os) ≡ Some o
holder_put o os h = best_put (λ p. bytes_eq p.uri o.uri) o os None (same_name o.uri) tt h

-- what fails the test doesn't count
passed_by : (test : Open → Bool) (best : Option Open) (o : Open) → test o ≡ false → pick test best o ≡ best
passed_by test best o h = ap (λ z. if z then later o best else best) h

fails_too : (u : List ℕ) (p : Open) (w : List ℕ) → p.uri ≡ w → bytes_eq w u ≡ false → bytes_eq p.uri u ≡ false
fails_too u p w e h = ap (λ z. bytes_eq z u) e ∙ h

best_put_other : (u : List ℕ) (o : Open) (os : List Open) (best : Option Open) → bytes_eq o.uri u ≡ false
    → fold (pick (λ p. bytes_eq p.uri u)) best (put_open o os) ≡ fold (pick (λ p. bytes_eq p.uri u)) best os
best_put_other u o [] best d = passed_by (λ p. bytes_eq p.uri u) best o d
best_put_other u o (p ∷ ps) best d = go (is_open_at o.editor o.uri p) refl (best_put_other u o ps (pick (λ p. bytes_eq p.uri u) best p) d)
  where
    go : (c : Bool) → is_open_at o.editor o.uri p ≡ c → fold (pick (λ p. bytes_eq p.uri u)) (pick (λ p. bytes_eq p.uri u) best p) (put_open o ps) ≡ fold (pick (λ p. bytes_eq p.uri u)) best (p ∷ ps)
        → fold (pick (λ p. bytes_eq p.uri u)) best (if c then o ∷ ps else p ∷ put_open o ps) ≡ fold (pick (λ p. bytes_eq p.uri u)) best (p ∷ ps)
    go true e r = ap (λ z. fold (pick (λ p. bytes_eq p.uri u)) z ps) (passed_by (λ p. bytes_eq p.uri u) best o d ∙ sym (passed_by (λ p. bytes_eq p.uri u) best p (fails_too u p o.uri (is_at o.editor o.uri p e).1 d)))
    go false e r = r

-- and the other documents have their holders
pub holder_put_other : (u : List ℕ) (o : Open) (os : List Open) → bytes_eq o.uri u ≡ false → holder u (put_open o os) ≡ holder u os
holder_put_other u o os d = best_put_other u o os None d

best_drop_other : (e : ℕ) (u w : List ℕ) (os : List Open) (best : Option Open) → bytes_eq u w ≡ false
    → fold (pick (λ p. bytes_eq p.uri w)) best (drop_open e u os) ≡ fold (pick (λ p. bytes_eq p.uri w)) best os
best_drop_other e u w [] best d = refl
best_drop_other e u w (p ∷ ps) best d = go (is_open_at e u p) refl (best_drop_other e u w ps (pick (λ p. bytes_eq p.uri w) best p) d)
  where
    go : (c : Bool) → is_open_at e u p ≡ c → fold (pick (λ p. bytes_eq p.uri w)) (pick (λ p. bytes_eq p.uri w) best p) (drop_open e u ps) ≡ fold (pick (λ p. bytes_eq p.uri w)) best (p ∷ ps)
        → fold (pick (λ p. bytes_eq p.uri w)) best (if c then ps else p ∷ drop_open e u ps) ≡ fold (pick (λ p. bytes_eq p.uri w)) best (p ∷ ps)
    go true h r = ap (λ z. fold (pick (λ p. bytes_eq p.uri w)) z ps) (sym (passed_by (λ p. bytes_eq p.uri w) best p (fails_too w p u (is_at e u p h).1 d)))
    go false h r = r

pub holder_drop_other : (e : ℕ) (u w : List ℕ) (os : List Open) → bytes_eq u w ≡ false → holder w (drop_open e u os) ≡ holder w os
holder_drop_other e u w os d = best_drop_other e u w os None d

module _ (e : ℕ) (u : List ℕ) where
  abbrev here : Open → Bool
  here o = bytes_eq o.uri u

  abbrev beside : Open → Bool
  beside o = bytes_eq o.uri u && not (nat_eq o.editor e)

  -- elsewhere both tests are one
  one_test : (o : Open) → is_open_at e u o ≡ false → here o ≡ beside o
  one_test o h = go (nat_eq o.editor e) (bytes_eq o.uri u) h
    where
      go : (a b : Bool) → (a && b) ≡ false → b ≡ (b && not a)
      go true true h = absurd (cc)
      go true false h = refl
      go false true h = refl
      go false false h = refl

  not_beside : (o : Open) → is_open_at e u o ≡ true → beside o ≡ false
  not_beside o h = go (nat_eq o.editor e) (bytes_eq o.uri u) h
    where
      go : (a b : Bool) → (a && b) ≡ true → (b && not a) ≡ false
      go true true h = refl
      go true false h = absurd (cc)
      go false b h = absurd (cc)

  same_pick : (best : Option Open) (o : Open) → is_open_at e u o ≡ false → pick here best o ≡ pick beside best o
  same_pick best o h = ap (λ z. if z then later o best else best) (one_test o h)

  same_best : (os : List Open) (best : Option Open) → AllByRecursion (λ (p : Open). is_open_at e u p ≡ false) os → fold (pick here) best os ≡ fold (pick beside) best os
  same_best [] best h = refl
  same_best (p ∷ ps) best h = ap (λ z. fold (pick here) z ps) (same_pick best p h.0) ∙ same_best ps (pick beside best p) h.1

  pub rest_elsewhere : (a : ℕ) (w : List ℕ) (os : List Open) → a ≡ e → w ≡ u → AllByRecursion (λ (p : Open). is_open_at a w p ≡ false) os → AllByRecursion (λ (p : Open). is_open_at e u p ≡ false) os
  rest_elsewhere a w [] s t h = tt
  rest_elsewhere a w (p ∷ ps) s t h = (ap (λ z. is_open_at z u p) (sym s) ∙ ap (λ z. is_open_at a z p) (sym t) ∙ h.0, rest_elsewhere a w ps s t h.1)

  best_drop : (os : List Open) (best : Option Open) → Once os → fold (pick here) best (drop_open e u os) ≡ fold (pick beside) best os
  best_drop [] best h = refl
  best_drop (p ∷ ps) best h = go (is_open_at e u p) refl (best_drop ps (pick here best p) h.1)
    where
      go : (c : Bool) → is_open_at e u p ≡ c → fold (pick here) (pick here best p) (drop_open e u ps) ≡ fold (pick beside) (pick here best p) ps
          → fold (pick here) best (if c then ps else p ∷ drop_open e u ps) ≡ fold (pick beside) best (p ∷ ps)
      go true d r = let q : (p.editor ≡ e) × (p.uri ≡ u) = is_at e u p d in
          same_best ps best (rest_elsewhere p.editor p.uri ps q.0 q.1 h.0) ∙ ap (λ z. fold (pick beside) z ps) (sym (passed_by beside best p (not_beside p d)))
      go false d r = r ∙ ap (λ z. fold (pick beside) z ps) (same_pick best p d)

-- behind a closing the next holder counts
pub holder_drop : (e : ℕ) (u : List ℕ) (os : List Open) → Once os → holder u (drop_open e u os) ≡ holder_beside e u os
holder_drop e u os h = best_drop e u os None h

-- a best one stays one
some_best : (test : Open → Bool) (os : List Open) (b : Open) → fold (pick test) (Some b) os ≡ None → ⊥
some_best test [] b h = cc
some_best test (p ∷ ps) b h = go (test p) (nat_lt p.touched b.touched) h (λ q k. some_best test ps q k)
  where
    go : (c d : Bool) → fold (pick test) (if c then (if d then Some b else Some p) else Some b) ps ≡ None → ((q : Open) → fold (pick test) (Some q) ps ≡ None → ⊥) → ⊥
    go false d k r = r b k
    go true true k r = r b k
    go true false k r = r p k

found_best : (e : ℕ) (u : List ℕ) (os : List Open) (o : Open) (best : Option Open) → find (is_open_at e u) os ≡ Some o → fold (pick (λ p. bytes_eq p.uri u)) best os ≡ None → ⊥
found_best e u [] o best h k = cc
found_best e u (p ∷ ps) o None h k = go (is_open_at e u p) refl h (λ f. found_best e u ps o (pick (λ p. bytes_eq p.uri u) None p) f k)
  where
    go : (c : Bool) → is_open_at e u p ≡ c → cond c (Some p) (find (is_open_at e u) ps) ≡ Some o → (find (is_open_at e u) ps ≡ Some o → ⊥) → ⊥
    go true d f r = some_best (λ p. bytes_eq p.uri u) ps p (ap (λ z. fold (pick (λ p. bytes_eq p.uri u)) (cond z (Some p) None) ps) (sym (ap (λ z. bytes_eq z u) (is_at e u p d).1 ∙ same_name u)) ∙ k)
    go false d f r = r f
found_best e u (p ∷ ps) o (Some b) h k = some_best (λ p. bytes_eq p.uri u) (p ∷ ps) b k

-- where a document is open, it has a holder
pub found_holder : (e : ℕ) (u : List ℕ) (os : List Open) (o : Open) → find (is_open_at e u) os ≡ Some o → holder u os ≡ None → ⊥
found_holder e u os o h k = found_best e u os o None h k

-- nothing is dropped that isn't open
pub drop_none : (e : ℕ) (u : List ℕ) (os : List Open) → find (is_open_at e u) os ≡ None → drop_open e u os ≡ os
drop_none e u [] h = refl
drop_none e u (p ∷ ps) h = go (is_open_at e u p) h (λ k. drop_none e u ps k)
  where
    go : (b : Bool) → cond b (Some p) (find (is_open_at e u) ps) ≡ None → (find (is_open_at e u) ps ≡ None → drop_open e u ps ≡ ps) → (if b then ps else p ∷ drop_open e u ps) ≡ p ∷ ps
    go true k r = absurd (cc)
    go false k r = ap (λ z. p ∷ z) (r k)
