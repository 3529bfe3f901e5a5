-- What a write of one place does to all places.
use Rattle.std.proofs.Common.{◌≡◌, ◌≢◌, ℕ, zero, suc, ◌<◌, ◌≤◌, ◌+◌, ◌-◌, ◌==◌, nat_lt, if◌then◌else◌, List, [], ◌∷◌, ◌++◌, Bool, true, false, length, map, slice_get, slice_set, refl, sym, ap, ◌∙◌, subst, ⊎_elim, ◌⊎◌, inl, inr, arith, append_assoc, append-nil, Some}
use Rattle.std.proofs.lemmas.Option.{slice_get_within}
use Rattle.std.proofs.lemmas.Bool.Decides.{nat_tests}
use Rattle.lane_lists.specs.declared.item.LaneName.{LaneName}
use Rattle.lane_lists.specs.declared.item.LaneName.TheVariants as lane
use Rattle.lane_lists.specs.declared.item.Order.{Order}
use Rattle.lane_lists.specs.Deeds.{only, same_lane}
use Rattle.lane_queue.specs.Ends.{HubSide}
use Rattle.lane_desk.specs.Desks.{Became, Dealt, Each, FoundNothing, IsEmptied, Pairwise, Pushed, Same, ids}
use Rattle.lane_lists.specs.Origins.{IsIn}
use Rattle.lane_desk.specs.Places.{name, place}

module _ {X : Type 0} where
  pub get_set : (l : List X) (i j : ℕ) (a b : X) → slice_get (slice_set l i a) j ≡ Some b → ((j ≡ i) × (a ≡ b)) ⊎ ((j ≢ i) × (slice_get l j ≡ Some b))
  get_set [] i j a b e = absurd cc
  get_set (x ∷ xs) zero zero a b e = inl (refl, cc)
  get_set (x ∷ xs) zero (suc j) a b e = inr ((λ h. omega arith), e)
  get_set (x ∷ xs) (suc i) zero a b e = inr ((λ h. omega arith), e)
  get_set (x ∷ xs) (suc i) (suc j) a b e = ⊎_elim (λ t. inl (ap suc t.0, t.1)) (λ t. let n = t.0 in inr ((λ h. n (omega arith)), t.1)) (get_set xs i j a b e)

  pub length_set : (l : List X) (i : ℕ) (a : X) → length (slice_set l i a) ≡ length l
  length_set [] i a = refl
  length_set (x ∷ xs) zero a = refl
  length_set (x ∷ xs) (suc i) a = ap suc (length_set xs i a)

  pub get_there : (l : List X) (i : ℕ) → i < length l → (x : X) × (slice_get l i ≡ Some x)
  get_there [] i h = absurd (omega arith)
  get_there (x ∷ xs) zero h = (x, refl)
  get_there (x ∷ xs) (suc i) h = get_there xs i (omega arith)

pub nothing_there : {X : Type 0} (xs : List X) → length xs ≡ 0 → xs ≡ []
nothing_there [] e = refl
nothing_there (x ∷ xs) e = absurd (omega arith)

-- the places one by one, behind a write of one
pub became : (i : ℕ) (R : HubSide → HubSide → Type 0) (S : ℕ → HubSide → HubSide → Type 0) (old new : List HubSide) → Became i R old new
    → ((p q : HubSide) → slice_get old i ≡ Some p → R p q → S i p q) → ((j : ℕ) (p : HubSide) → j ≢ i → slice_get old j ≡ Some p → S j p p) → Pairwise S old new
became i R S old new b mine others = record {
  len = ap length b.is ∙ length_set old i b.after;
  each = λ j p q at at'.
      let at'' : slice_get (slice_set old i b.after) j ≡ Some q = subst (λ (l : List HubSide). slice_get l j ≡ Some q) b.is at' in
      ⊎_elim
      (λ (t : (j ≡ i) × (b.after ≡ q)).
      let was : slice_get old j ≡ Some b.before = subst (λ (k : ℕ). slice_get old k ≡ Some b.before) (sym t.0) b.was in
      let same : b.before ≡ p = cc in
      subst (λ (k : ℕ). S k p q) (sym t.0) (subst (λ (x : HubSide). S i x q) same (subst (λ (x : HubSide). S i b.before x) t.1 (mine b.before b.after b.was b.how))))
      (λ (t : (j ≢ i) × (slice_get old j ≡ Some q)).
      let same : p ≡ q = cc in
      subst (λ (x : HubSide). S j p x) same (others j p t.0 at))
      (get_set old i j b.after q at'');
}

-- what two changes do one after the other
pub chained : (R S T : ℕ → HubSide → HubSide → Type 0) (a b c : List HubSide) → Pairwise R a b → Pairwise S b c
    → ((i : ℕ) (p q r : HubSide) → i < length a → R i p q → S i q r → T i p r) → Pairwise T a c
chained R S T a b c f g both = record {
  len = g.len ∙ f.len;
  each = λ i p r at at'.
      let within = slice_get_within a i p at in
      let there = get_there b i (let e = f.len in omega arith) in
      both i p there.0 r within (f.each i p there.0 at there.1) (g.each i there.0 r there.1 at');
}

-- a fact of each place goes through
pub through : (F G : ℕ → HubSide → Type 0) (R : ℕ → HubSide → HubSide → Type 0) (old new : List HubSide) → Pairwise R old new → Each F old
    → ((i : ℕ) (p q : HubSide) → i < length old → R i p q → F i p → G i q) → Each G new
through F G R old new pair was step i q at =
    let within : i < length old = let h = slice_get_within new i q at in let e = pair.len in omega arith in
    let there = get_there old i within in
    step i there.0 q within (pair.each i there.0 q there.1 at) (was i there.0 there.1)

-- the queues stay
pair_ids : (old new : List HubSide) → length new ≡ length old → ((i : ℕ) (p q : HubSide) → slice_get old i ≡ Some p → slice_get new i ≡ Some q → ids q ≡ ids p) → map ids new ≡ map ids old
pair_ids [] [] e f = refl
pair_ids [] (q ∷ new) e f = absurd (omega arith)
pair_ids (p ∷ old) [] e f = absurd (omega arith)
pair_ids (p ∷ old) (q ∷ new) e f =
    let head : ids q ≡ ids p = f 0 p q refl refl in
    let tail : map ids new ≡ map ids old = pair_ids old new (omega arith) (λ i x y at at'. f (suc i) x y at at') in
    ap (λ h. h ∷ map ids new) head ∙ ap (λ t. ids p ∷ t) tail

pub same_ids : (R : ℕ → HubSide → HubSide → Type 0) (old new : List HubSide) → Pairwise R old new → ((i : ℕ) (p q : HubSide) → R i p q → ids q ≡ ids p) → map ids new ≡ map ids old
same_ids R old new pair f = pair_ids old new pair.len (λ i p q at at'. f i p q (pair.each i p q at at'))

-- the lane of a place is this one just at this one's place
pub tells : (n m i : ℕ) (l : LaneName) → i ≤ n + m → IsIn n m l → same_lane (name n m i) l ≡ (i == place n m l)
tells n m i (lane.Editor j) h k =
    elim (nat_lt i n) as (λ b. nat_lt i n ≡ b → same_lane (if b then lane.Editor i else if nat_lt i (n + m) then lane.Server (i - n) else lane.Ticker) (lane.Editor j) ≡ (i == j)) [
      | true ↦ λ t. refl
      | false ↦ λ t. elim (nat_lt i (n + m)) as (λ b. same_lane (if b then lane.Server (i - n) else lane.Ticker) (lane.Editor j) ≡ (i == j)) [ true ↦ grind (arith, nat_tests) | false ↦ grind (arith, nat_tests) ]
    ] refl
tells n m i (lane.Server j) h k =
    elim (nat_lt i n) as (λ b. nat_lt i n ≡ b → same_lane (if b then lane.Editor i else if nat_lt i (n + m) then lane.Server (i - n) else lane.Ticker) (lane.Server j) ≡ (i == n + j)) [
      | true ↦ λ t. grind (arith, nat_tests)
      | false ↦ λ t. elim (nat_lt i (n + m)) as (λ b. nat_lt i (n + m) ≡ b → same_lane (if b then lane.Server (i - n) else lane.Ticker) (lane.Server j) ≡ (i == n + j)) [ true ↦ λ u. grind (arith, nat_tests) | false ↦ λ u. grind (arith, nat_tests) ] refl
    ] refl
tells n m i lane.Ticker h k =
    elim (nat_lt i n) as (λ b. nat_lt i n ≡ b → same_lane (if b then lane.Editor i else if nat_lt i (n + m) then lane.Server (i - n) else lane.Ticker) lane.Ticker ≡ (i == n + m)) [
      | true ↦ λ t. grind (arith, nat_tests)
      | false ↦ λ t. elim (nat_lt i (n + m)) as (λ b. nat_lt i (n + m) ≡ b → same_lane (if b then lane.Server (i - n) else lane.Ticker) lane.Ticker ≡ (i == n + m)) [ true ↦ λ u. grind (arith, nat_tests) | false ↦ λ u. grind (arith, nat_tests) ] refl
    ] refl

-- nothing is given
pub same_self : (p : HubSide) → Same p p
same_self p = record { ids = refl; posted = refl; sides = refl; pushed = refl }

pub all_same : (i : ℕ) (old new : List HubSide) → Became i Same old new → Pairwise (λ _. Same) old new
all_same i old new b = became i Same (λ _. Same) old new b (λ p q at s. s) (λ j p apart at. same_self p)

pub none_given : (n m : ℕ) (given : List (LaneName × Order)) (places : List HubSide) → Pairwise (λ i. Dealt (name n m i) given given true) places places
none_given n m given places = record {
  len = refl;
  each = λ i p q at at'. let same : p ≡ q = cc in subst (λ (x : HubSide). Dealt (name n m i) given given true p x) same record { ids = refl; posted = refl; sides = refl; rest = []; pushed = ap (λ l. l ++ only (name n m i) given) (append-nil p.orders.pushed); whole = λ _. refl };
}

-- one order more, or none
pub record Stepped (l : LaneName) (before after : List (LaneName × Order)) (q r : HubSide) : Type 0 where
  pub ids : ids r ≡ ids q
  pub posted : r.posted.taken ≡ q.posted.taken
  pub sides : r.sides.taken ≡ q.sides.taken
  pub pushed : r.orders.pushed ++ only l after ≡ q.orders.pushed ++ only l before

dealt_more : (l : LaneName) (given before after : List (LaneName × Order)) (p q r : HubSide) → Dealt l given before true p q → Stepped l before after q r → Dealt l given after true p r
dealt_more l given before after p q r d s = record {
  ids = s.ids ∙ d.ids;
  posted = s.posted ∙ d.posted;
  sides = s.sides ∙ d.sides;
  rest = [];
  pushed = ap (λ ys. ys ++ only l after) (append-nil r.orders.pushed) ∙ s.pushed ∙ sym (ap (λ ys. ys ++ only l before) (ap (λ ys. q.orders.pushed ++ ys) (d.whole refl) ∙ append-nil q.orders.pushed)) ∙ d.pushed;
  whole = λ _. refl;
}

same_test : (i j : ℕ) → j ≡ i → (i == j) ≡ true
same_test i j h = grind (arith, nat_tests)

other_test : (i j : ℕ) → j ≢ i → (j == i) ≡ false
other_test i j h = grind (arith, nat_tests)

module _ (n m : ℕ) (given left : List (LaneName × Order)) (l : LaneName) (o : Order) where
  abbrev ahead : List (LaneName × Order)
  ahead = (l, o) ∷ left

  abbrev gave : ℕ → Bool → List Order
  gave i b = if b then o ∷ only (name n m i) left else only (name n m i) left

  pub deal_one : (a b c : List HubSide) → length a ≡ n + m + 1 → Pairwise (λ i. Dealt (name n m i) given ahead true) a b → IsIn n m l × Became (place n m l) (Pushed o) b c → Pairwise (λ i. Dealt (name n m i) given left true) a c
  deal_one a b c e f k =
      chained (λ i. Dealt (name n m i) given ahead true) (λ i. Stepped (name n m i) ahead left) (λ i. Dealt (name n m i) given left true) a b c f
      (became (place n m l) (Pushed o) (λ i. Stepped (name n m i) ahead left) b c k.1
      (λ q r at t. record {
        ids = t.ids;
        posted = t.posted;
        sides = t.sides;
        pushed = ap (λ ys. ys ++ only (name n m (place n m l)) left) t.pushed ∙ append_assoc q.orders.pushed (o ∷ []) (only (name n m (place n m l)) left)
            ∙ ap (λ t. q.orders.pushed ++ gave (place n m l) t) (sym (tells n m (place n m l) l (bound at) k.0 ∙ same_test (place n m l) (place n m l) refl));
      })
      (λ j q apart at. record {
        ids = refl;
        posted = refl;
        sides = refl;
        pushed = ap (λ t. q.orders.pushed ++ gave j t) (sym (tells n m j l (bound at) k.0 ∙ other_test (place n m l) j apart));
      }))
      (λ i p q r within d s. dealt_more (name n m i) given ahead left p q r d s)
    where
      bound : {j : ℕ} {q : HubSide} → slice_get b j ≡ Some q → j ≤ n + m
      bound {j} {q} at = let h = slice_get_within b j q at in let w = f.len in omega arith

  pub deal_stop : (a b c : List HubSide) → Pairwise (λ i. Dealt (name n m i) given ahead true) a b → Pairwise (λ _. Same) b c → Pairwise (λ i. Dealt (name n m i) given [] false) a c
  deal_stop a b c f g = chained (λ i. Dealt (name n m i) given ahead true) (λ _. Same) (λ i. Dealt (name n m i) given [] false) a b c f g
      (λ i p q r within d s. record {
        ids = s.ids ∙ d.ids;
        posted = s.posted ∙ d.posted;
        sides = s.sides ∙ d.sides;
        rest = only (name n m i) ahead;
        pushed = append-nil (r.orders.pushed ++ only (name n m i) ahead) ∙ ap (λ ys. ys ++ only (name n m i) ahead) s.pushed ∙ sym (ap (λ ys. ys ++ only (name n m i) ahead) (ap (λ ys. q.orders.pushed ++ ys) (d.whole refl) ∙ append-nil q.orders.pushed)) ∙ d.pushed;
        whole = λ e. absurd cc;
      })

-- where no order could be given
pub none_dealt : (n m : ℕ) (given : List (LaneName × Order)) (places : List HubSide) → Pairwise (λ i. Dealt (name n m i) given [] false) places places
none_dealt n m given places = record {
  len = refl;
  each = λ i p q at at'. let same : p ≡ q = cc in subst (λ (x : HubSide). Dealt (name n m i) given [] false p x) same record { ids = refl; posted = refl; sides = refl; rest = only (name n m i) given; pushed = append-nil (p.orders.pushed ++ only (name n m i) given); whole = λ e. absurd cc };
}

pub became_ids : (i : ℕ) (R : HubSide → HubSide → Type 0) (old new : List HubSide) → Became i R old new → ((p q : HubSide) → R p q → ids q ≡ ids p) → map ids new ≡ map ids old
became_ids i R old new b f = same_ids (λ _ p q. ids q ≡ ids p) old new (became i R (λ _ p q. ids q ≡ ids p) old new b (λ p q at r. f p q r) (λ j p apart at. refl)) (λ j p q e. e)

-- nothing was found at a place
pub became_same : (i : ℕ) (old new : List HubSide) → Became i FoundNothing old new → Became i Same old new
became_same i old new b = record { before = b.before; after = b.after; was = b.was; is = b.is; how = b.how.same }

pub emptied_at : (i j : ℕ) (old new : List HubSide) (x : HubSide) → Became i FoundNothing old new → i ≡ j → slice_get old j ≡ Some x → IsEmptied x
emptied_at i j old new x b e at = let same : b.before ≡ x = (let was = subst (λ (k : ℕ). slice_get old k ≡ Some b.before) e b.was in cc) in subst (λ (z : HubSide). IsEmptied z) same b.how.was
