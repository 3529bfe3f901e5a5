-- What editors lose, gathered one after the other.
use Rattle.std.proofs.Common.{◌≡◌, ℕ, zero, suc, ◌+◌, ◌<◌, ◌≤◌, Bool, true, false, ◌&&◌, List, [], ◌∷◌, ◌++◌, append-nil, append_assoc, filter, flat_map, get_or, if◌then◌else◌, length, map, Option, Some, take, refl, ap, sym, subst, ◌∙◌, arith}
use Rattle.std.specs.Prelude.{slice_get}
use Rattle.std.specs.List.{All, AllByRecursion, range_with_len}
use Rattle.std.proofs.lemmas.Bool.{and_parts}
use Rattle.std.proofs.lemmas.List.{map-append, take_all, take_more}
use Rattle.std.proofs.lemmas.List.Elements.{All-from_recursion}
use Rattle.event_model.specs.Event.{Event}
use Rattle.event_model.specs.Phases.{desk_of, editors_of, is_running}
use Rattle.event_model.specs.Settings.{Settings}
use Rattle.group_rows.specs.Asks.{running_in}
use Rattle.group_rows.specs.diagnostics_route.specs.declared.last_list.LastList.{LastList}
use Rattle.group_rows.specs.ExitRows.{is_full}
use Rattle.group_words.specs.Houses.{home_of, is_home}
use Rattle.mux_exits.specs.declared.losses.Loss.{Loss}
use Rattle.mux_exits.specs.declared.losses.Loss.TheVariants.{Emptied, Told}
use Rattle.mux_exits.specs.Losses.{IsInside, Runs, emptied, emptied_at, refused}
use Rattle.mux_starts.specs.mux_facts.proofs.Lists.{all_filtered}

-- one more of a list that is mapped, and the last
pub map_next : {A B : Type 0} (f : A → B) (items : List A) (i : ℕ) (d : A) (first xs ys : List B) → i < length items → xs ≡ first ++ map f (take i items) → ys ≡ xs ++ f (get_or items i d) ∷ [] → ys ≡ first ++ map f (take (i + 1) items)
map_next f items i d first xs ys less so is =
    is ∙ (ap (λ ws. ws ++ f (get_or items i d) ∷ []) so
    ∙ (append_assoc first (map f (take i items)) (f (get_or items i d) ∷ [])
    ∙ ap (λ ws. first ++ ws) (sym (map-append f (take i items) (get_or items i d ∷ [])) ∙ ap (map f) (sym (take_more items i d less)))))

pub map_whole : {A B : Type 0} (f : A → B) (items : List A) (i : ℕ) (first xs : List B) → length items ≤ i → xs ≡ first ++ map f (take i items) → xs ≡ first ++ map f items
map_whole f items i first xs past so = so ∙ ap (λ ws. first ++ map f ws) (take_all i items past)

-- the same where each gives several
flat_more : {A B : Type 0} (f : A → List B) (items : List A) (x : A) → flat_map f (items ++ x ∷ []) ≡ flat_map f items ++ f x
flat_more f [] x = append-nil (f x)
flat_more f (y ∷ items) x = ap (λ ws. f y ++ ws) (flat_more f items x) ∙ sym (append_assoc (f y) (flat_map f items) (f x))

pub flat_next : {A B : Type 0} (f : A → List B) (items : List A) (i : ℕ) (d : A) (first xs ys : List B) → i < length items → xs ≡ first ++ flat_map f (take i items) → ys ≡ xs ++ f (get_or items i d) → ys ≡ first ++ flat_map f (take (i + 1) items)
flat_next f items i d first xs ys less so is =
    is ∙ (ap (λ ws. ws ++ f (get_or items i d)) so
    ∙ (append_assoc first (flat_map f (take i items)) (f (get_or items i d))
    ∙ ap (λ ws. first ++ ws) (sym (flat_more f (take i items) (get_or items i d)) ∙ ap (flat_map f) (sym (take_more items i d less)))))

pub flat_whole : {A B : Type 0} (f : A → List B) (items : List A) (i : ℕ) (first xs : List B) → length items ≤ i → xs ≡ first ++ flat_map f (take i items) → xs ≡ first ++ flat_map f items
flat_whole f items i first xs past so = so ∙ ap (λ ws. first ++ flat_map f ws) (take_all i items past)

-- one list more of those that are walked, and the last
emptied_more : (before : List Event) (e : ℕ) (ls : List LastList) (n : ℕ) → emptied before e (take (suc n) ls) ≡ emptied before e (take n ls) ++ emptied_at before e (slice_get ls n)
emptied_more before e [] zero = refl
emptied_more before e [] (suc n) = refl
emptied_more before e (l ∷ ls) zero = refl
emptied_more before e (l ∷ ls) (suc n) = go (is_full e l.uri before) (emptied_more before e ls n)
  where
    those : List LastList → List LastList
    those ks = filter (λ (k : LastList). is_full e k.uri before) ks

    told : List LastList → List Loss
    told ks = map (λ (k : LastList). Emptied e k.uri) ks

    go : (b : Bool) → told (those (take (suc n) ls)) ≡ told (those (take n ls)) ++ emptied_at before e (slice_get ls n)
        → told (if b then l ∷ those (take (suc n) ls) else those (take (suc n) ls)) ≡ told (if b then l ∷ those (take n ls) else those (take n ls)) ++ emptied_at before e (slice_get ls n)
    go true same = ap (λ ws. Emptied e l.uri ∷ ws) same
    go false same = same

pub emptied_next : (before : List Event) (e : ℕ) (ls : List LastList) (n : ℕ) (first xs ys : List Loss) → xs ≡ first ++ emptied before e (take n ls) → ys ≡ xs ++ emptied_at before e (slice_get ls n) → ys ≡ first ++ emptied before e (take (n + 1) ls)
emptied_next before e ls n first xs ys so is =
    let next : suc n ≡ n + 1 = omega arith in
    is ∙ (ap (λ ws. ws ++ emptied_at before e (slice_get ls n)) so
    ∙ (append_assoc first (emptied before e (take n ls)) (emptied_at before e (slice_get ls n))
    ∙ ap (λ ws. first ++ ws) (sym (emptied_more before e ls n) ∙ ap (λ k. emptied before e (take k ls)) next)))

pub emptied_whole : (before : List Event) (e : ℕ) (ls : List LastList) (n : ℕ) (first xs : List Loss) → length ls ≤ n → xs ≡ first ++ emptied before e (take n ls) → xs ≡ first ++ emptied before e ls
emptied_whole before e ls n first xs past so = so ∙ ap (λ ws. first ++ emptied before e ws) (take_all n ls past)

-- whether the one that is found isn't empty
pub emptied_off : (before : List Event) (e : ℕ) (l : LastList) (o : Option LastList) (xs : List Loss) → o ≡ Some l → is_full e l.uri before ≡ false → xs ≡ xs ++ emptied_at before e o
emptied_off before e l o xs found off = sym (append-nil xs) ∙ ap (λ ws. xs ++ ws) (sym (ap (emptied_at before e) found ∙ ap (λ b. map (λ (k : LastList). Emptied e k.uri) (if b then l ∷ [] else [])) off))

pub emptied_on : (before : List Event) (e : ℕ) (l : LastList) (u : List ℕ) (o : Option LastList) (xs ys : List Loss) → o ≡ Some l → is_full e l.uri before ≡ true → u ≡ l.uri → ys ≡ xs ++ Emptied e u ∷ [] → ys ≡ xs ++ emptied_at before e o
emptied_on before e l u o xs ys found on own is = is ∙ ap (λ ws. xs ++ ws) (ap (λ w. Emptied e w ∷ []) own ∙ sym (ap (emptied_at before e) found ∙ ap (λ b. map (λ (k : LastList). Emptied e k.uri) (if b then l ∷ [] else [])) on))

-- four, one behind the other
pub four_joined : {B : Type 0} (first p q r s u v w x : List B) → u ≡ first ++ p → v ≡ u ++ q → w ≡ v ++ r → x ≡ w ++ s → x ≡ first ++ (p ++ (q ++ (r ++ s)))
four_joined first p q r s u v w x a b d e =
    e ∙ (ap (λ ws. ws ++ s) (d ∙ ap (λ ws. ws ++ r) (b ∙ ap (λ ws. ws ++ q) a))
    ∙ (append_assoc ((first ++ p) ++ q) r s ∙ (append_assoc (first ++ p) q (r ++ s) ∙ append_assoc first p (q ++ (r ++ s)))))

-- What is gathered is inside

pub all_join : {A : Type 0} (P : A → Type 0) (xs ys : List A) → AllByRecursion P xs → AllByRecursion P ys → AllByRecursion P (xs ++ ys)
all_join P [] ys h k = k
all_join P (x ∷ xs) ys h k = (h.0, all_join P xs ys h.1 k)

all_told : {A : Type 0} (n e : ℕ) (text : A → List ℕ) (items : List A) → AllByRecursion (IsInside n) (map (λ a. Told e (text a)) items)
all_told n e text [] = tt
all_told n e text (x ∷ items) = (tt, all_told n e text items)

pub told_inside : {A : Type 0} (n e : ℕ) (text : A → List ℕ) (items : List A) (xs ys : List Loss) → ys ≡ xs ++ map (λ a. Told e (text a)) items → AllByRecursion (IsInside n) xs → AllByRecursion (IsInside n) ys
told_inside n e text items xs ys is h = subst (AllByRecursion (IsInside n)) (sym is) (all_join (IsInside n) xs (map (λ a. Told e (text a)) items) h (all_told n e text items))

all_refused : (n e : ℕ) (ids : List (List ℕ)) → AllByRecursion (IsInside n) (refused e ids)
all_refused n e [] = tt
all_refused n e (id ∷ ids) = (tt, all_refused n e ids)

pub refused_inside : (n e : ℕ) (ids : List (List ℕ)) (xs ys : List Loss) → ys ≡ xs ++ refused e ids → AllByRecursion (IsInside n) xs → AllByRecursion (IsInside n) ys
refused_inside n e ids xs ys is h = subst (AllByRecursion (IsInside n)) (sym is) (all_join (IsInside n) xs (refused e ids) h (all_refused n e ids))

pub one_inside : (n : ℕ) (l : Loss) (xs ys : List Loss) → ys ≡ xs ++ l ∷ [] → IsInside n l → AllByRecursion (IsInside n) xs → AllByRecursion (IsInside n) ys
one_inside n l xs ys is k h = subst (AllByRecursion (IsInside n)) (sym is) (all_join (IsInside n) xs (l ∷ []) h (k, tt))

pub none_inside : (n : ℕ) (xs : List Loss) → xs ≡ [] → AllByRecursion (IsInside n) xs
none_inside n xs none = subst (AllByRecursion (IsInside n)) (sym none) tt

-- Those that run

pub any_of : (xs : List ℕ) → AllByRecursion (λ e. Unit {0}) xs
any_of [] = tt
any_of (x ∷ xs) = (tt, any_of xs)

pub all_run : (settings : Settings) (before : List Event) (h : ℕ) → AllByRecursion (Runs before) (running_in settings h before)
all_run settings before h = all_filtered (λ e. Unit {0}) (Runs before) (λ e. is_running (desk_of e before).phase && is_home h (home_of settings e before)) (λ e is u. (and_parts (is_running (desk_of e before).phase) (is_home h (home_of settings e before)) is).0)
    (range_with_len 0 (editors_of before)) (any_of (range_with_len 0 (editors_of before)))

-- those that were gathered
pub those_run : (settings : Settings) (before : List Event) (h : ℕ) (xs : List ℕ) → xs ≡ running_in settings h before → All (Runs before) xs
those_run settings before h xs is = All-from_recursion (Runs before) xs (subst (AllByRecursion (Runs before)) (sym is) (all_run settings before h))
