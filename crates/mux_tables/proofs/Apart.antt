-- Asks of which no two have one id, nor one editor and one number.
use Rattle.std.proofs.Common.{◌≡◌, ℕ, Bool, true, false, not, cond, List, [], ◌∷◌, ◌++◌, filter, map, refl, ap, sym, ◌∙◌}
use Rattle.std.specs.List.{AllByRecursion}
use Rattle.std.specs.Prelude.{Some, bytes_eq}
use Rattle.std.proofs.lemmas.Slice.Eq.{bytes_eq-Decides}
use Rattle.rpc_message.specs.Message.{Id, integer, text, same_id}
use Rattle.event_model.specs.Event.{Event}
use Rattle.event_model.proofs.Frames.{never}
use Rattle.group_laws.specs.group_rows.specs.Asks.{Ask, is_under}
use Rattle.mux_tables.specs.Stands.{AreApart, AsksStand, HasText, IsOther, WasAsked, kept_ask}

bytes_flip : (a b : List ℕ) → bytes_eq b a ≡ false → bytes_eq a b ≡ false
bytes_flip a b h = go (bytes_eq a b) refl
  where
    go : (c : Bool) → bytes_eq a b ≡ c → c ≡ false
    go false e = refl
    go true e =
        let p : a ≡ b = (bytes_eq-Decides a b).0 e in
        never (sym e ∙ (ap (bytes_eq a) (sym p) ∙ (ap (λ w. bytes_eq w a) p ∙ h)))

pub id_flip : (i k : Id) → same_id k i ≡ false → same_id i k ≡ false
id_flip (integer a) (integer b) h = bytes_flip a b h
id_flip (text a) (text b) h = bytes_flip a b h
id_flip (integer a) (text b) h = refl
id_flip (text a) (integer b) h = refl

-- what holds of all holds of those that pass a test
pub all_filter : {A : Type 0} (P : A → Type 0) (p : A → Bool) (xs : List A) → AllByRecursion P xs → AllByRecursion P (filter p xs)
all_filter P p [] h = tt
all_filter P p (x ∷ xs) h = go (p x) (all_filter P p xs h.1)
  where
    go : (b : Bool) → AllByRecursion P (filter p xs) → AllByRecursion P (cond b (x ∷ filter p xs) (filter p xs))
    go true k = (h.0, k)
    go false k = k

pub apart_filter : (p : Ask → Bool) (qs : List Ask) → AreApart qs → AreApart (filter p qs)
apart_filter p [] h = tt
apart_filter p (a ∷ qs) h = go (p a) (apart_filter p qs h.1)
  where
    go : (b : Bool) → AreApart (filter p qs) → AreApart (cond b (a ∷ filter p qs) (filter p qs))
    go true k = (all_filter (IsOther a) p qs h.0, k)
    go false k = k

-- those that pass a test, as they are kept
pub stand_filter : (events : List Event) (p : Ask → Bool) (qs : List Ask) → AllByRecursion HasText qs → AllByRecursion (WasAsked events) qs → AreApart qs → AsksStand events (filter p qs) (map kept_ask (filter p qs))
stand_filter events p qs texts asked apart = record { same = refl; texts = all_filter HasText p qs texts; asked = all_filter (WasAsked events) p qs asked; apart = apart_filter p qs apart }

-- without the one of an id, the others stay
module _ (a : Ask) where
  abbrev rest : Ask → Bool
  rest b = not (is_under (Some a.id) b)

  kept_when : (b : Ask) (bs cs : List Ask) (c : Bool) → c ≡ false → bs ≡ cs → cond (not c) (b ∷ bs) bs ≡ b ∷ cs
  kept_when b bs cs false h k = ap (λ ds. b ∷ ds) k
  kept_when b bs cs true h k = never h

  pub later_stay : (qs : List Ask) → AllByRecursion (IsOther a) qs → filter rest qs ≡ qs
  later_stay [] h = refl
  later_stay (b ∷ qs) h = kept_when b (filter rest qs) qs (same_id a.id b.id) h.0.1 (later_stay qs h.1)

  one_goes : (qs : List Ask) → cond (not (same_id a.id a.id)) (a ∷ filter rest qs) (filter rest qs) ≡ filter rest qs
  one_goes qs = ap (λ c. cond (not c) (a ∷ filter rest qs) (filter rest qs)) (itself a.id)
    where
      itself : (i : Id) → same_id i i ≡ true
      itself (integer w) = (bytes_eq-Decides w w).1 refl
      itself (text w) = (bytes_eq-Decides w w).1 refl

  pub one_less : (pre post : List Ask) → AreApart (pre ++ a ∷ post) → filter rest (pre ++ a ∷ post) ≡ pre ++ post
  one_less [] post h = one_goes post ∙ later_stay post h.0
  one_less (b ∷ pre) post h = kept_when b (filter rest (pre ++ a ∷ post)) (pre ++ post) (same_id a.id b.id) (id_flip a.id b.id (among pre h.0)) (one_less pre post h.1)
    where
      among : (cs : List Ask) → AllByRecursion (IsOther b) (cs ++ a ∷ post) → same_id b.id a.id ≡ false
      among [] k = k.0.1
      among (c ∷ cs) k = among cs k.1

-- without one of them
among_less : (P : Ask → Type 0) (a : Ask) (pre post : List Ask) → AllByRecursion P (pre ++ a ∷ post) → AllByRecursion P (pre ++ post)
among_less P a [] post k = k.1
among_less P a (d ∷ pre) post k = (k.0, among_less P a pre post k.1)

pub less_apart : (a : Ask) (pre post : List Ask) → AreApart (pre ++ a ∷ post) → AreApart (pre ++ post)
less_apart a [] post h = h.1
less_apart a (c ∷ pre) post h = (among_less (IsOther c) a pre post h.0, less_apart a pre post h.1)
