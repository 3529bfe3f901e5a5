-- Editors that were told nothing aren't slow: to look at the others alone gives the row's outs.
use Rattle.std.proofs.Common.{◌≡◌, ℕ, zero, suc, ◌+◌, ◌<◌, ◌≤◌, Bool, true, false, ◌||◌, List, [], ◌∷◌, ◌++◌, nat_eq, refl, sym, ◌∙◌, ap, subst, arith}
use Rattle.std.specs.List.{AllByRecursion, list_any, range_with_len}
use Rattle.std.proofs.lemmas.Bool.Decides.{nat_tests}
use Rattle.event_model.specs.Event.{Event, behind}
use Rattle.event_model.specs.Phases.{editors_of}
use Rattle.event_model.specs.Row.{each, outs}
use Rattle.event_model.specs.Settings.{Settings}
use Rattle.event_model.proofs.Frames.{never}
use Rattle.mux_facts.proofs.Keeps.{behind_nothing}
use Rattle.group_facts.specs.SlowRows.{close_slow, is_slow, slow_row}
use Rattle.mux_slow.proofs.Closing.{next, quick_now, quick_stays, slow_falls}
use Rattle.mux_slow.proofs.Among.{Rises, below}

module _ (settings : Settings) where
  none_slow : (es : List ℕ) (place : List Event) → AllByRecursion (λ e. is_slow settings e place ≡ false) es → outs (each (close_slow settings) es) place ≡ []
  none_slow [] place h = refl
  none_slow (e ∷ es) place h = ap (λ xs. xs ++ outs (each (close_slow settings) es) (behind place xs)) (quick_stays settings place e h.0) ∙ (ap (outs (each (close_slow settings) es)) (behind_nothing place) ∙ none_slow es place h.1)

  all_off : (es : List ℕ) (place : List Event) → ((e : ℕ) → is_slow settings e place ≡ true → ⊥) → AllByRecursion (λ e. is_slow settings e place ≡ false) es
  all_off [] place none = tt
  all_off (e ∷ es) place none = (go (is_slow settings e place) refl, all_off es place none)
    where
      go : (b : Bool) → is_slow settings e place ≡ b → b ≡ false
      go true slow = absurd (none e slow)
      go false quick = refl

  beyond : (low : ℕ) (es : List ℕ) (place : List Event) → Rises low es → ((e : ℕ) → is_slow settings e place ≡ true → e < low) → AllByRecursion (λ e. is_slow settings e place ≡ false) es
  beyond low [] place r bound = tt
  beyond low (e ∷ es) place r bound = (go (is_slow settings e place) refl, beyond (e + 1) es place r.1 (λ k slow. let first : low ≤ e = r.0 in let is : k < low = bound k slow in omega (arith, first, is)))
    where
      go : (b : Bool) → is_slow settings e place ≡ b → b ≡ false
      go true slow = absurd (let first : low ≤ e = r.0 in let is : e < low = bound e slow in omega (arith, first, is))
      go false quick = refl

  -- of those from `low` on, where each that is slow is among these
  pub sparse : (n low : ℕ) (es : List ℕ) (place : List Event) → Rises low es → ((e : ℕ) → is_slow settings e place ≡ true → list_any (nat_eq e) es ≡ true) → ((e : ℕ) → is_slow settings e place ≡ true → e < low + n)
      → outs (each (close_slow settings) es) place ≡ outs (each (close_slow settings) (range_with_len low n)) place
  sparse zero low es place rise told bound = none_slow es place (beyond low es place rise (λ e slow. let is : e < low + zero = bound e slow in omega (arith, is)))
  sparse (suc n) low [] place rise told bound = sym (none_slow (range_with_len low (suc n)) place (all_off (range_with_len low (suc n)) place (λ e slow. never (sym (told e slow)))))
  sparse (suc n) low (e ∷ es) place rise told bound = go (nat_eq low e) refl (sparse n (low + 1) es (next settings place low)) (sparse n (low + 1) (e ∷ es) place)
    where
      bound_next : (k : ℕ) → is_slow settings k (next settings place low) ≡ true → k < low + 1 + n
      bound_next k slow = let is : k < low + suc n = bound k (slow_falls settings place low k slow) in omega (arith, is)

      Rest : List ℕ → List Event → Type 0
      Rest ks z = Rises (low + 1) ks → ((k : ℕ) → is_slow settings k z ≡ true → list_any (nat_eq k) ks ≡ true) → ((k : ℕ) → is_slow settings k z ≡ true → k < low + 1 + n) → outs (each (close_slow settings) ks) z ≡ outs (each (close_slow settings) (range_with_len (low + 1) n)) z

      go : (b : Bool) → nat_eq low e ≡ b → Rest es (next settings place low) → Rest (e ∷ es) place → outs (each (close_slow settings) (e ∷ es)) place ≡ outs (each (close_slow settings) (range_with_len low (suc n))) place
      go true same both rest = subst (λ k. outs (each (close_slow settings) (k ∷ es)) place ≡ outs (each (close_slow settings) (range_with_len low (suc n))) place) is
          (ap (λ xs. outs (close_slow settings low) place ++ xs) (both (subst (λ k. Rises (k + 1) es) (sym is) rise.1) told_next bound_next))
        where
          is : low ≡ e
          is = grind (arith, nat_tests)

          told_next : (k : ℕ) → is_slow settings k (next settings place low) ≡ true → list_any (nat_eq k) es ≡ true
          told_next k slow = by (nat_eq k e) refl (told k (slow_falls settings place low k slow))
            where
              by : (b : Bool) → nat_eq k e ≡ b → (b || list_any (nat_eq k) es) ≡ true → list_any (nat_eq k) es ≡ true
              by true here h = never (sym (subst (λ z. is_slow settings z (next settings place low) ≡ true) (let at : k ≡ e = grind (arith, nat_tests) in at ∙ sym is) slow) ∙ quick_now settings place low)
              by false there h = h
      go false other both rest =
          rest (let first : low ≤ e = rise.0 in (omega (arith, first, apart), rise.1)) told (λ k slow. by_bound k slow)
          ∙ sym (ap (λ xs. xs ++ outs (each (close_slow settings) (range_with_len (low + 1) n)) (behind place xs)) (quick_stays settings place low quick) ∙ ap (outs (each (close_slow settings) (range_with_len (low + 1) n))) (behind_nothing place))
        where
          apart : low ≡ e → ⊥
          apart is = let same : nat_eq low e ≡ true = grind (arith, nat_tests) in never (sym same ∙ other)

          above : low < e
          above = let first : low ≤ e = rise.0 in omega (arith, first, apart)

          quick : is_slow settings low place ≡ false
          quick = by (is_slow settings low place) refl
            where
              by : (b : Bool) → is_slow settings low place ≡ b → b ≡ false
              by true slow = never (sym (told low slow) ∙ below low (low + 1) (e ∷ es) (omega arith) (let more : low < e = above in (omega (arith, more), rise.1)))
              by false off = refl

          by_bound : (k : ℕ) → is_slow settings k place ≡ true → k < low + 1 + n
          by_bound k slow = let is : k < low + suc n = bound k slow in omega (arith, is)

  -- all of them
  pub told_slow : (es : List ℕ) (place : List Event) → Rises 0 es → ((e : ℕ) → is_slow settings e place ≡ true → list_any (nat_eq e) es ≡ true) → ((e : ℕ) → is_slow settings e place ≡ true → e < editors_of place)
      → outs (each (close_slow settings) es) place ≡ outs (slow_row settings) place
  told_slow es place rise told bound = sparse (editors_of place) 0 es place rise told (λ e slow. let is : e < editors_of place = bound e slow in omega (arith, is))
