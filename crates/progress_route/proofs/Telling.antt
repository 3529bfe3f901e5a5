-- What is written where nothing stands, and what is told one after the other.
use Rattle.std.proofs.Common.{◌≡◌, ℕ, ◌+◌, ◌<◌, Less, Bool, true, false, cond, List, [], ◌∷◌, length, get_or, drop, refl, sym, ◌∙◌, ap, add-one, drop-cons}
use Rattle.std.specs.Prelude.{Option, Some, None}
use Rattle.std.specs.Map.{lookup, set_value}
use Rattle.progress_route.specs.declared.kind.Kind.{Kind}
use Rattle.std.specs.Map.{keys_of}
use Rattle.std.specs.List.{AllByRecursion}
use Rattle.std.specs.List.Sorted.{IsStrictlySortedBy}
use Rattle.std.specs.Ordering.{nat_cmp}
use Rattle.std.specs.BTreeMap.{is_at}
use Rattle.std.proofs.lemmas.Cmp.{ranked}
use Rattle.progress_route.specs.Tables.{Part, at, edited, edited_to, told, told_all}
use Rattle.progress_route.specs.Tells.{told_each}
use Rattle.progress_route.proofs.Numbering.{hit_below, hit_self}

pub set_absent : {X : Type 0} (test : ℕ → Bool) (es : List (ℕ × X)) (w : X) → lookup test es ≡ None → es ≡ set_value test es w
set_absent test [] w h = refl
set_absent test (e ∷ es) w h = go (test e.0) h (λ k. set_absent test es w k)
  where
    go : (b : Bool) → cond b (Some e.1) (lookup test es) ≡ None → (lookup test es ≡ None → es ≡ set_value test es w) → e ∷ es ≡ cond b ((e.0, w) ∷ es) (e ∷ set_value test es w)
    go true k rest = absurd (cc)
    go false k rest = ap (λ xs. e ∷ xs) (rest k)

pub told_more : (k : ℕ) (body : List ℕ) (kind : Kind) (all : List ℕ) (i : ℕ) (now new goal : List (ℕ × Part)) → i < length all → new ≡ edited (get_or all i 0) (told k body kind) now
    → told_each k body kind (drop i all) now ≡ goal → told_each k body kind (drop (i + 1) all) new ≡ goal
told_more k body kind all i now new goal l e h =
    let next : drop i all ≡ get_or all i 0 ∷ drop (i + 1) all = rw add-one (drop-cons all i 0 l) in
    ap (told_each k body kind (drop (i + 1) all)) e ∙ (sym (ap (λ es. told_each k body kind es now) next) ∙ h)

-- one editor's part, in front of others or behind

edited_here : (f : Part → Part) (r : ℕ × Part) (rs : List (ℕ × Part)) → edited r.0 f (r ∷ rs) ≡ (r.0, f r.1) ∷ rs
edited_here f r rs = ap (λ b. edited_to r.0 f (cond b (Some r.1) (at r.0 rs)) (r ∷ rs)) (hit_self r.0) ∙ ap (λ b. cond b ((r.0, f r.1) ∷ rs) (r ∷ set_value (is_at (nat_cmp r.0)) rs (f r.1))) (hit_self r.0)

edited_past : (f : Part → Part) (e : ℕ) (r : ℕ × Part) (rs : List (ℕ × Part)) → is_at (nat_cmp e) r.0 ≡ false → edited e f (r ∷ rs) ≡ r ∷ edited e f rs
edited_past f e r rs miss = ap (λ b. edited_to e f (cond b (Some r.1) (at e rs)) (r ∷ rs)) miss ∙ go (at e rs)
  where
    go : (o : Option Part) → edited_to e f o (r ∷ rs) ≡ r ∷ edited_to e f o rs
    go None = refl
    go (Some p) = ap (λ b. cond b ((r.0, f p) ∷ rs) (r ∷ set_value (is_at (nat_cmp e)) rs (f p))) miss

-- rising editors, one after the other, are all

module _ (k : ℕ) (body : List ℕ) (kind : Kind) where
  told_past : (r : ℕ × Part) (es : List ℕ) (rs : List (ℕ × Part)) → AllByRecursion (λ e. nat_cmp r.0 e ≡ Less) es → told_each k body kind es (r ∷ rs) ≡ r ∷ told_each k body kind es rs
  told_past r [] rs h = refl
  told_past r (e ∷ es) rs h = ap (told_each k body kind es) (edited_past (told k body kind) e r rs (hit_below e r.0 (ranked r.0 e Less (sym h.0)))) ∙ told_past r es (edited e (told k body kind) rs) h.1

  pub each_is_all : (rows : List (ℕ × Part)) → IsStrictlySortedBy nat_cmp (keys_of rows) → told_each k body kind (keys_of rows) rows ≡ told_all k body kind rows
  unfolding IsStrictlySortedBy
  each_is_all [] h = refl
  each_is_all (r ∷ rs) h = ap (told_each k body kind (keys_of rs)) (edited_here (told k body kind) r rs) ∙ (told_past (r.0, told k body kind r.1) (keys_of rs) rs h.0 ∙ ap (λ xs. (r.0, told k body kind r.1) ∷ xs) (each_is_all rs h.1))
