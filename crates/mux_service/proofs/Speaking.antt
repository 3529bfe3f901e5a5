-- An editor of which the history has a body joined in it.
use Rattle.std.proofs.Common.{◌≡◌, ℕ, ◌<◌, ◌≤◌, ◌==◌, nat_lt, Bool, true, false, if◌then◌else◌, List, [], ◌∷◌, ◌++◌, fold, refl, subst, ◌∙◌, arith}
use Rattle.std.proofs.lemmas.Bool.Decides.{nat_tests}
use Rattle.mux_history.specs.Cores.{joined}
use Rattle.mux_history.specs.declared.cause.Cause.TheVariants.{FromEditor}
use Rattle.mux_history.specs.declared.entry.Entry.{Entry}
use Rattle.mux_history.specs.declared.out.Out.{Out}
use Rattle.lane_lists.specs.History.{bodies_from, body_in}
use Rattle.lane_lists.specs.Seats.{Seats}
use Rattle.lane_lists.specs.Deeds.{Deed, Fair, FairFrom, behind, entries, entries_by, entries_in, gather_from, start}
use Rattle.lane_lists.proofs.BySession.{Sound, sound_start, sound_step, step}
use Rattle.lane_lists.proofs.Sitting.{joined_from}

-- what joined stays so
joined_up : (deeds : List Deed) (seats : Seats) → FairFrom seats deeds → seats.joined ≤ (fold behind seats deeds).joined
joined_up deeds seats fair = let j = joined_from deeds seats fair in omega (arith, j)

-- nothing is said by an editor that is still to join
unjoined_quiet : (deeds : List Deed) (seats : Seats) (e : ℕ) → FairFrom seats deeds → Sound seats → (fold behind seats deeds).joined ≤ e → bodies_from e (gather_from entries_by seats deeds) ≡ []
unjoined_quiet [] seats e fair sound late = refl
unjoined_quiet (d ∷ deeds) seats e fair sound late =
    let s = step seats d.lane d.item d.entry fair.0 in
    let after = behind seats d in
    let up = joined_up deeds after fair.1 in
    let grown = s.up in
    let hush = s.hush e (gather_from entries_by after deeds) (λ j own at. let b = sound.below j e at in omega (arith, b, up, grown, late)) in
    hush.bodies ∙ unjoined_quiet deeds after e fair.1 (sound_step seats after d.lane (entries_in d.entry) s sound) late

none_behind : {A : Type 0} (xs ys : List A) → xs ++ ys ≡ [] → ys ≡ []
none_behind [] ys h = h
none_behind (x ∷ xs) ys h = absurd cc

same_number : (e : ℕ) → (e == e) ≡ true
same_number e = grind (arith, nat_tests)

spoke : (before : List Entry) (e : ℕ) (body : List ℕ) (outs : List Out) (rest : List Entry) → bodies_from e (before ++ record { cause = FromEditor e body; outs = outs } ∷ rest) ≡ [] → ⊥
spoke [] e body outs rest h = let f : body ∷ bodies_from e rest ≡ [] = subst (λ (b : Bool). (if b then body ∷ [] else []) ++ bodies_from e rest ≡ []) (same_number e) h in cc
spoke (x ∷ before) e body outs rest h = spoke before e body outs rest (none_behind (body_in e x.cause) (bodies_from e (before ++ record { cause = FromEditor e body; outs = outs } ∷ rest)) h)

pub speaker_joined : (n m : ℕ) (deeds : List Deed) → Fair n m deeds → (e : ℕ) (before : List Entry) (body : List ℕ) (outs : List Out) (rest : List Entry)
    → entries n m deeds ≡ before ++ record { cause = FromEditor e body; outs = outs } ∷ rest → e < joined (entries n m deeds)
speaker_joined n m deeds fair e before body outs rest is =
    let count = joined_from deeds (start n m) fair in
    elim (nat_lt e (joined (entries n m deeds))) as (λ b. nat_lt e (joined (entries n m deeds)) ≡ b → e < joined (entries n m deeds)) [
      | true ↦ λ t. grind (arith, nat_tests)
      | false ↦ λ t.
          let past : joined (entries n m deeds) ≤ e = grind (arith, nat_tests) in
          absurd (spoke before e body outs rest (subst (λ (h : List Entry). bodies_from e h ≡ []) is (unjoined_quiet deeds (start n m) e fair (sound_start n m) (omega (arith, count, past)))))
    ] refl
