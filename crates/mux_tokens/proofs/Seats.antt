-- What editors were asked to take, apart from one another.
use Rattle.std.proofs.Common.{◌≡◌, ℕ, Bool, true, false, ◌&&◌, cond, List, [], ◌∷◌, ◌++◌, filter, find, flat_map, map, sym, subst, ◌∙◌, ap, nat_eq}
use Rattle.std.specs.Prelude.{Some}
use Rattle.std.specs.List.{AllByRecursion}
use Rattle.group_rows.specs.Created.{Taking}
use Rattle.group_rows.proofs.CreatedKept.{found_one}
use Rattle.mux_tokens.specs.Stands.{AreApart, AreFresh, IsFresh, IsOther, Pairs}
use Rattle.mux_tokens.proofs.Finding.{all_kept, all_last, all_so, all_spread}
use Rattle.mux_tokens.proofs.Rows.{num_back}

-- the same editor, number and token
pub record SameSeat (c d : Taking) : Type 0 where
  pub editor : d.editor ≡ c.editor
  pub number : d.number ≡ c.number
  pub token : d.token ≡ c.token

abbrev pub meets : ℕ → ℕ → ℕ → ℕ → Bool
meets a b m n = nat_eq a b && nat_eq m n

met : (a b m n a' m' : ℕ) → a' ≡ a → m' ≡ m → meets a' b m' n ≡ meets a b m n
met a b m n a' m' p q = ap (λ k. meets k b m' n) p ∙ ap (λ k. meets a b k n) q

-- beside the same
pub other_left : (a b d : Taking) → SameSeat a d → IsOther a b → IsOther d b
other_left a b d s h = (
  ap (λ k. nat_eq b.editor k && nat_eq b.number d.number) s.editor ∙ (ap (λ k. nat_eq b.editor a.editor && nat_eq b.number k) s.number ∙ h.0),
  ap (λ k. nat_eq b.editor k && nat_eq b.token d.token) s.editor ∙ (ap (λ k. nat_eq b.editor a.editor && nat_eq b.token k) s.token ∙ h.1),
)

pub other_right : (a b d : Taking) → SameSeat b d → IsOther a b → IsOther a d
other_right a b d s h =
    (met b.editor a.editor b.number a.number d.editor d.number s.editor s.number ∙ h.0, met b.editor a.editor b.token a.token d.editor d.token s.editor s.token ∙ h.1)

-- each becomes none, or one in the same seat
abbrev pub IsFew : Taking → List Taking → Type 0
IsFew c [] = Unit {0}
IsFew c (d ∷ []) = SameSeat c d
IsFew c (d ∷ e ∷ ds) = ⊥

few_so : (P : Taking → Type 0) (c : Taking) (ds : List Taking) → ((d : Taking) → SameSeat c d → P d) → IsFew c ds → AllByRecursion P ds
few_so P c [] f h = tt
few_so P c (d ∷ []) f h = (f d h, tt)
few_so P c (d ∷ e ∷ ds) f h = absurd h

-- A relation of each with those behind it

module _ (R : Taking → Taking → Type 0) where
  -- some stay
  pub pairs_kept : (test : Taking → Bool) (cs : List Taking) → Pairs R cs → Pairs R (filter test cs)
  pairs_kept test [] h = tt
  pairs_kept test (c ∷ cs) h = go (test c) (pairs_kept test cs h.1)
    where
      go : (b : Bool) → Pairs R (filter test cs) → Pairs R (cond b (c ∷ filter test cs) (filter test cs))
      go true rest = (all_kept (R c) test cs h.0, rest)
      go false rest = rest

  -- one more, behind
  pub pairs_last : (cs : List Taking) (c : Taking) → Pairs R cs → AllByRecursion (λ d. R d c) cs → Pairs R (cs ++ c ∷ [])
  pairs_last [] c h k = (tt, tt)
  pairs_last (d ∷ cs) c h k = (all_last (R d) cs c h.0 k.0, pairs_last cs c h.1 k.1)

  module _ (left : (a b d : Taking) → SameSeat a d → R a b → R d b) (right : (a b d : Taking) → SameSeat b d → R a b → R a d) where
    -- each becomes another in the same seat
    module _ (f : Taking → Taking) (seats : (c : Taking) → SameSeat c (f c)) where
      others_mapped : (a : Taking) (cs : List Taking) → AllByRecursion (R a) cs → AllByRecursion (R a) (map f cs)
      others_mapped a [] h = tt
      others_mapped a (c ∷ cs) h = (right a c (f c) (seats c) h.0, others_mapped a cs h.1)

      pub pairs_mapped : (cs : List Taking) → Pairs R cs → Pairs R (map f cs)
      pairs_mapped [] h = tt
      pairs_mapped (c ∷ cs) h = (all_so (R c) (R (f c)) (λ b k. left c b (f c) (seats c) k) (map f cs) (others_mapped c cs h.0), pairs_mapped cs h.1)

    -- each becomes none, or one in the same seat
    module _ (f : Taking → List Taking) (few : (c : Taking) → IsFew c (f c)) where
      others_spread : (a : Taking) (cs : List Taking) → AllByRecursion (R a) cs → AllByRecursion (R a) (flat_map f cs)
      others_spread a cs h = all_spread (R a) f (λ c k. few_so (R a) c (f c) (λ d s. right a c d s k) (few c)) cs h

      pub pairs_spread : (cs : List Taking) → Pairs R cs → Pairs R (flat_map f cs)
      pairs_spread [] h = tt
      pairs_spread (c ∷ cs) h = go (f c) (few c) (pairs_spread cs h.1)
        where
          go : (ds : List Taking) → IsFew c ds → Pairs R (flat_map f cs) → Pairs R (ds ++ flat_map f cs)
          go [] s rest = rest
          go (d ∷ []) s rest = (all_so (R c) (R d) (λ b k. left c b d s k) (flat_map f cs) (others_spread c cs h.0), rest)
          go (d ∷ e ∷ ds) s rest = absurd s

-- Apart from one another

pub apart_kept : (test : Taking → Bool) (cs : List Taking) → AreApart cs → AreApart (filter test cs)
apart_kept = pairs_kept IsOther

pub apart_mapped : (f : Taking → Taking) → ((c : Taking) → SameSeat c (f c)) → (cs : List Taking) → AreApart cs → AreApart (map f cs)
apart_mapped = pairs_mapped IsOther other_left other_right

pub apart_spread : (f : Taking → List Taking) → ((c : Taking) → IsFew c (f c)) → (cs : List Taking) → AreApart cs → AreApart (flat_map f cs)
apart_spread = pairs_spread IsOther other_left other_right

-- one more, that is fresh
pub apart_last : (cs : List Taking) (c : Taking) → AreApart cs → AreFresh c.editor c.number c.token cs → AreApart (cs ++ c ∷ [])
apart_last cs c h fresh = pairs_last IsOther cs c h (all_so (IsFresh c.editor c.number c.token) (λ d. IsOther d c) (λ d k. (back d d.number c.number k.0, back d d.token c.token k.1)) cs fresh)
  where
    back : (d : Taking) (m n : ℕ) → (nat_eq d.editor c.editor && nat_eq m n) ≡ false → (nat_eq c.editor d.editor && nat_eq n m) ≡ false
    back d m n k = ap (λ b. b && nat_eq n m) (num_back c.editor d.editor) ∙ (ap (λ b. nat_eq d.editor c.editor && b) (num_back n m) ∙ k)

-- what holds of one that is found, and of those beside it, holds of all
pub all_beside : (P : Taking → Type 0) (p : Taking → Bool) (one : Taking) → P one → ((c : Taking) → IsOther one c → P c) → ((c : Taking) → IsOther c one → P c) → (cs : List Taking) → AreApart cs → find p cs ≡ Some one → AllByRecursion P cs
all_beside P p one mine right left [] h at = absurd (cc)
all_beside P p one mine right left (c ∷ cs) h at = go (p c) at (λ k. all_beside P p one mine right left cs h.1 k)
  where
    go : (b : Bool) → cond b (Some c) (find p cs) ≡ Some one → (find p cs ≡ Some one → AllByRecursion P cs) → P c × AllByRecursion P cs
    go true k rest =
        let same : c ≡ one = cc in
        (subst P (sym same) mine, all_so (IsOther c) P (λ d o. right d (subst (λ a. IsOther a d) same o)) cs h.0)
    go false k rest = (left c (found_one (IsOther c) p one cs h.0 k), rest k)
