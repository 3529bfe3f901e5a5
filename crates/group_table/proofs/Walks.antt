-- Walks over the groups that live, by the list of all.
use Rattle.std.proofs.Common.{◌≡◌, ℕ, suc, ◌+◌, ◌<◌, Bool, true, false, List, [], ◌∷◌, length, map, if◌then◌else◌, refl, sym, ap, subst, ◌∙◌, arith}
use Rattle.std.specs.Prelude.{Option, Some, None, MatchOption, filter}
use Rattle.group_words.specs.declared.idle.Idle.{Idle}
use Rattle.group_words.specs.declared.kept.Kept.{Kept}
use Rattle.group_words.specs.Placing.{all_from, first_from, idle_since, idlest_from, is_live, live_count, longer, over}
use Rattle.number_table.specs.declared.numbered.Numbered.{Numbered}
use Rattle.number_table.specs.Numbers.{Rise, counted, numbers_in, spread}
use Rattle.number_table.proofs.Counting.{counted_all}
use Rattle.number_table.proofs.Spreading.{Spreads, done, here, gap, rise_le, spread_gone, spread_here, spreads_of}
use Rattle.group_table.specs.Live.{AreLive, first_in, idlest_in, number_of}

module _ (test : Kept → Bool) (none : test over ≡ false) where
  first_spread : {from n : ℕ} {kept : List (Numbered Kept)} → Spreads from n kept → first_from from test (spread over from n kept) ≡ first_in test kept
  first_spread done = refl
  first_spread {from} (here {n = n} {x = x} {xs = xs} h rest) = ap (first_from from test) (spread_here over from n x xs h)
      ∙ (ap (λ m. if test x.item then Some m else first_from (from + 1) test (spread over (from + 1) n xs)) (sym h)
      ∙ ap (λ o. if test x.item then Some x.number else o) (first_spread rest))
  first_spread {from} (gap {n = n} {xs = xs} rise rest) = ap (first_from from test) (spread_gone over from (from + 1 + n) n xs rise)
      ∙ (ap (λ b. if b then Some from else first_from (from + 1) test (spread over (from + 1) n xs)) none ∙ first_spread rest)

  all_counted : (i : ℕ) (xs : List Kept) → all_from i test xs ≡ counted i test xs
  all_counted i [] = refl
  all_counted i (x ∷ xs) = ap (λ ns. if test x then i ∷ ns else ns) (all_counted (i + 1) xs)

  first_below : (from to : ℕ) (kept : List (Numbered Kept)) → Rise from to kept → MatchOption (first_in test kept) (Unit {0}) (λ g. g < to)
  first_below from to [] rise = tt
  first_below from to (x ∷ xs) rise = go (test x.item) (first_below (x.number + 1) to xs rise.1)
    where
      go : (b : Bool) → MatchOption (first_in test xs) (Unit {0}) (λ g. g < to) → MatchOption (if b then Some x.number else first_in test xs) (Unit {0}) (λ g. g < to)
      go true rest = let l = rise_le (x.number + 1) to xs rise.1 in omega (arith, l)
      go false rest = rest

  module _ (n : ℕ) (kept : List (Numbered Kept)) (groups : List Kept) (is : spread over 0 n kept ≡ groups) (rise : Rise 0 n kept) where
    pub first_all : first_from 0 test groups ≡ first_in test kept
    first_all = sym (ap (first_from 0 test) is) ∙ first_spread (spreads_of n kept rise)

    pub first_inside : (m : ℕ) → m ≡ n → MatchOption (first_in test kept) (Unit {0}) (λ g. g < m)
    first_inside m e = subst (λ k. MatchOption (first_in test kept) (Unit {0}) (λ g. g < k)) (sym e) (first_below 0 n kept rise)

    pub numbers_all : all_from 0 test groups ≡ numbers_in test kept
    numbers_all = all_counted 0 groups ∙ counted_all over test none n kept groups is rise

idlest_spread : {from n : ℕ} {kept : List (Numbered Kept)} → Spreads from n kept → (best : Option Idle) → idlest_from from best (spread over from n kept) ≡ idlest_in best kept
idlest_spread done best = refl
idlest_spread {from} (here {n = n} {x = x} {xs = xs} h rest) best = ap (idlest_from from best) (spread_here over from n x xs h)
    ∙ (ap (λ m. idlest_from (from + 1) (longer best m (idle_since x.item)) (spread over (from + 1) n xs)) (sym h) ∙ idlest_spread rest (longer best x.number (idle_since x.item)))
idlest_spread {from} (gap {n = n} {xs = xs} rise rest) best = ap (idlest_from from best) (spread_gone over from (from + 1 + n) n xs rise) ∙ idlest_spread rest best

live_spread : {from n : ℕ} {kept : List (Numbered Kept)} → Spreads from n kept → AreLive kept → live_count (spread over from n kept) ≡ length kept
live_spread done live = refl
live_spread {from} (here {n = n} {x = x} {xs = xs} h rest) live = ap live_count (spread_here over from n x xs h)
    ∙ (ap (λ b. length (if b then x.item ∷ filter is_live (spread over (from + 1) n xs) else filter is_live (spread over (from + 1) n xs))) live.0 ∙ ap suc (live_spread rest live.1))
live_spread {from} (gap {n = n} {xs = xs} rise rest) live = ap live_count (spread_gone over from (from + 1 + n) n xs rise) ∙ live_spread rest live

all_live : (kept : List (Numbered Kept)) → AreLive kept → numbers_in is_live kept ≡ map number_of kept
all_live [] live = refl
all_live (x ∷ xs) live = ap (λ b. if b then x.number ∷ numbers_in is_live xs else numbers_in is_live xs) live.0 ∙ ap (λ ns. x.number ∷ ns) (all_live xs live.1)

module _ (n : ℕ) (kept : List (Numbered Kept)) (groups : List Kept) (is : spread over 0 n kept ≡ groups) (rise : Rise 0 n kept) where
  pub idlest_all : idlest_from 0 None groups ≡ idlest_in None kept
  idlest_all = sym (ap (idlest_from 0 None) is) ∙ idlest_spread (spreads_of n kept rise) None

  pub count_all : AreLive kept → live_count groups ≡ length kept
  count_all live = sym (ap live_count is) ∙ live_spread (spreads_of n kept rise) live

  pub live_all : AreLive kept → all_from 0 is_live groups ≡ map number_of kept
  live_all live = numbers_all is_live refl n kept groups is rise ∙ all_live kept live
