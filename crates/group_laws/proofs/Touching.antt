-- Who holds a document when an editor has touched all of its own.
use Rattle.std.proofs.Common.{◌≡◌, ℕ, ◌<◌, Bool, true, false, cond, ◌&&◌, List, [], ◌∷◌, map, find, fold, nat_eq, nat_lt, refl, sym, ◌∙◌, ap, ap₂, subst, arith}
use Rattle.std.specs.Prelude.{Option, Some, None, bytes_eq}
use Rattle.std.specs.List.{AllByRecursion}
use Rattle.std.proofs.lemmas.Bool.Decides.{nat_tests}
use Rattle.document_model.specs.Opens.{Open, holder, is_open_at, later}
use Rattle.document_model.specs.Orderly.{Once}
use Rattle.document_model.proofs.Holders.{bytes_same, pick}
use Rattle.group_rows.specs.Texts.{touched_at}

no_lt : (a b : ℕ) → b < a → nat_lt a b ≡ false
no_lt a b h = grind (arith, nat_tests)

yes_lt : (a b : ℕ) → a < b → nat_lt a b ≡ true
yes_lt a b h = grind (arith, nat_tests)

itself_not : (a : ℕ) → nat_lt a a ≡ false
itself_not a = grind (arith, nat_tests)

-- it was touched before this turn
abbrev Before : ℕ → Option Open → Type 0
Before turn None = Unit {0}
Before turn (Some o) = o.touched < turn

module _ (e turn : ℕ) (u : List ℕ) where
  abbrev test : Open → Bool
  test o = bytes_eq o.uri u

  abbrev f : Open → Open
  f = touched_at e turn

  -- the editor doesn't have the document open
  abbrev pub Nowhere : List Open → Type 0
  Nowhere os = AllByRecursion (λ (o : Open). (nat_eq o.editor e && bytes_eq o.uri u) ≡ false) os

  touched_test : (o : Open) → test (f o) ≡ test o
  touched_test o = go (nat_eq o.editor e)
    where
      go : (b : Bool) → test (cond b (record o { touched = turn }) o) ≡ test o
      go true = refl
      go false = refl

  -- the one that was touched last stays
  stays : (b : Open) (os : List Open) → b.touched ≡ turn → Nowhere os → AllByRecursion (λ (o : Open). o.touched < turn) os → fold (pick test) (Some b) (map f os) ≡ Some b
  stays b [] is none before = refl
  stays b (o ∷ os) is none before = go (nat_eq o.editor e) (bytes_eq o.uri u) refl none.0 before.0 ∙ stays b os is none.1 before.1
    where
      go : (c d : Bool) → bytes_eq o.uri u ≡ d → (c && d) ≡ false → o.touched < turn
          → fold (pick test) (cond (bytes_eq (cond c (record o { touched = turn }) o).uri u) (later (cond c (record o { touched = turn }) o) (Some b)) (Some b)) (map f os) ≡ fold (pick test) (Some b) (map f os)
      go true true d h k = absurd (let z : true ≡ false = h in cc)
      go true false d h k = ap (λ q. fold (pick test) (cond q (later (record o { touched = turn }) (Some b)) (Some b)) (map f os)) d
      go false false d h k = ap (λ q. fold (pick test) (cond q (later o (Some b)) (Some b)) (map f os)) d
      go false true d h k = ap (λ q. fold (pick test) (cond q (later o (Some b)) (Some b)) (map f os)) d
          ∙ ap (λ q. fold (pick test) (cond q (Some b) (Some o)) (map f os)) (subst (λ m. nat_lt o.touched m ≡ true) (sym is) (yes_lt o.touched turn k))

  -- the touched one is later than what was touched before this turn
  wins : (o : Open) (best : Option Open) → Before turn best → later (record o { touched = turn }) best ≡ Some (record o { touched = turn })
  wins o None h = refl
  wins o (Some b) h = ap (λ q. cond q (Some b) (Some (record o { touched = turn }))) (no_lt turn b.touched h)

  passed : (o : Open) (best : Option Open) (d : Bool) → o.touched < turn → Before turn best → Before turn (cond d (later o best) best)
  passed o best false k h = h
  passed o None true k h = k
  passed o (Some b) true k h = go (nat_lt o.touched b.touched)
    where
      go : (c : Bool) → Before turn (cond c (Some b) (Some o))
      go true = h
      go false = k

  pub nowhere_behind : (o : Open) (os : List Open) → nat_eq o.editor e ≡ true → bytes_eq o.uri u ≡ true → AllByRecursion (λ (p : Open). is_open_at o.editor o.uri p ≡ false) os → Nowhere os
  nowhere_behind o [] a b once = tt
  nowhere_behind o (p ∷ ps) a b once = (there, nowhere_behind o ps a b once.1)
    where
      editors : (x y z : ℕ) → nat_eq y z ≡ true → nat_eq x z ≡ nat_eq x y
      editors x y z h = grind (arith, nat_tests)

      uris : bytes_eq p.uri u ≡ bytes_eq p.uri o.uri
      uris = ap (bytes_eq p.uri) (sym (bytes_same o.uri u b))

      there : (nat_eq p.editor e && bytes_eq p.uri u) ≡ false
      there = ap₂ (λ x y. x && y) (editors p.editor o.editor e a) uris ∙ once.0

  latest_touched : (o : Open) (os : List Open) (best : Option Open) → Once os → AllByRecursion (λ (p : Open). p.touched < turn) os → Before turn best → find (is_open_at e u) os ≡ Some o → fold (pick test) best (map f os) ≡ Some (record o { touched = turn })
  latest_touched o [] best once before h found = absurd (cc)
  latest_touched o (p ∷ ps) best once before h found = go (nat_eq p.editor e) refl (bytes_eq p.uri u) refl found (λ b k there. latest_touched o ps b once.1 before.1 k there)
    where
      go : (c : Bool) → nat_eq p.editor e ≡ c → (d : Bool) → bytes_eq p.uri u ≡ d → cond (c && d) (Some p) (find (is_open_at e u) ps) ≡ Some o
          → ((b : Option Open) → Before turn b → find (is_open_at e u) ps ≡ Some o → fold (pick test) b (map f ps) ≡ Some (record o { touched = turn }))
          → fold (pick test) (cond (bytes_eq (cond c (record p { touched = turn }) p).uri u) (later (cond c (record p { touched = turn }) p) best) best) (map f ps) ≡ Some (record o { touched = turn })
      go true c true d found rest =
          let is : p ≡ o = cc in
          ap (λ q. fold (pick test) (cond q (later (record p { touched = turn }) best) best) (map f ps)) d
          ∙ (ap (λ b. fold (pick test) b (map f ps)) (wins p best h) ∙ (stays (record p { touched = turn }) ps refl (nowhere_behind p ps c d once.0) before.1 ∙ ap (λ (q : Open). Some (record q { touched = turn })) is))
      go true c false d found rest = ap (λ q. fold (pick test) (cond q (later (record p { touched = turn }) best) best) (map f ps)) d ∙ rest best h found
      go false c d e found rest = ap (λ q. fold (pick test) (cond q (later p best) best) (map f ps)) e ∙ rest (cond d (later p best) best) (passed p best d before.0 h) found

  -- it is the holder of each of its documents
  pub holder_touched : (o : Open) (os : List Open) → Once os → AllByRecursion (λ (p : Open). p.touched < turn) os → find (is_open_at e u) os ≡ Some o → holder u (map (touched_at e turn) os) ≡ Some (record o { touched = turn })
  holder_touched o os once before found = latest_touched o os None once before tt found

  latest_apart : (os : List Open) (best : Option Open) → Nowhere os → fold (pick test) best (map f os) ≡ fold (pick test) best os
  latest_apart [] best none = refl
  latest_apart (o ∷ os) best none = go (nat_eq o.editor e) (bytes_eq o.uri u) refl none.0 (λ b. latest_apart os b none.1)
    where
      go : (c d : Bool) → bytes_eq o.uri u ≡ d → (c && d) ≡ false → ((b : Option Open) → fold (pick test) b (map f os) ≡ fold (pick test) b os)
          → fold (pick test) (cond (bytes_eq (cond c (record o { touched = turn }) o).uri u) (later (cond c (record o { touched = turn }) o) best) best) (map f os) ≡ fold (pick test) (cond (bytes_eq o.uri u) (later o best) best) os
      go true true d h rest = absurd (let z : true ≡ false = h in cc)
      go true false d h rest = ap (λ q. fold (pick test) (cond q (later (record o { touched = turn }) best) best) (map f os)) d ∙ (rest best ∙ ap (λ q. fold (pick test) (cond q (later o best) best) os) (sym d))
      go false d e h rest = rest (cond (bytes_eq o.uri u) (later o best) best)

  -- and of another document the holder stays
  pub holder_apart : (os : List Open) → Nowhere os → holder u (map (touched_at e turn) os) ≡ holder u os
  holder_apart os none = latest_apart os None none

  pub none_nowhere : (os : List Open) → find (is_open_at e u) os ≡ None → Nowhere os
  none_nowhere [] h = tt
  none_nowhere (o ∷ os) h = go (is_open_at e u o) refl h (λ k. none_nowhere os k)
    where
      go : (c : Bool) → is_open_at e u o ≡ c → cond c (Some o) (find (is_open_at e u) os) ≡ None → (find (is_open_at e u) os ≡ None → Nowhere os) → ((nat_eq o.editor e && bytes_eq o.uri u) ≡ false) × Nowhere os
      go true d k rest = absurd (cc)
      go false d k rest = (d, rest k)
