-- Each cause of a made input can come, as far as the causes before it tell.
use Rattle.std.proofs.Common.{◌≡◌, ℕ, zero, suc, ◌+◌, ◌%◌, true, List, [], ◌∷◌, ◌++◌, fold, nat_lt, Some, refl, sym, subst, ap, ◌∙◌, arith}
use Rattle.std.proofs.lemmas.Bool.Decides.{nat_tests}
use Rattle.std.proofs.lemmas.List.Sums.{fold-append}
use Rattle.mux_history.specs.declared.cause.Cause.{Cause}
use Rattle.drive_text.specs.Made.{drawn, made, next_state, opening, state_after, step_causes, turn_at, turn_causes, turned, turns, second}
use Rattle.drive_text.specs.declared.made.Maker.{Maker}
use Rattle.drive_text.specs.declared.made.Turn.{Turn}
use Rattle.drive_text.specs.declared.made.Turn.TheVariants as turn
use Rattle.mux_facts.proofs.Words.{same_number}
use Rattle.made_histories.specs.Coming.{AllCome, Comers, comers_behind, no_comers}

-- four editors, and the program of this start
abbrev here : ℕ → Comers
here s = record { joined = 4; running = Some s }

both : (x : Comers) (xs ys : List Cause) → AllCome x xs → AllCome (fold comers_behind x xs) ys → AllCome x (xs ++ ys)
both x [] ys f g = g
both x (c ∷ xs) ys f g = (f.0, both (comers_behind x c) xs ys f.1 g)

below_four : (n : ℕ) → nat_lt (n % 4) 4 ≡ true
below_four n = grind (arith, nat_tests)

turn_comes : (i n : ℕ) (m : Maker) (t : Turn) → AllCome (here m.start) (turn_causes i (n % 4) m t)
turn_comes i n m turn.Exit = (same_number m.start, (refl, (same_number (m.start + 1), tt)))
turn_comes i n m turn.Change = (below_four n, tt)
turn_comes i n m turn.Ask = (below_four n, tt)
turn_comes i n m turn.AskAndAnswer = (below_four n, (same_number m.start, tt))

turn_leaves : (i e state : ℕ) (m : Maker) (t : Turn) → fold comers_behind (here m.start) (turn_causes i e m t) ≡ here (turned state m t).start
turn_leaves i e state m turn.Exit = refl
turn_leaves i e state m turn.Change = refl
turn_leaves i e state m turn.Ask = refl
turn_leaves i e state m turn.AskAndAnswer = refl

leave : (seed i : ℕ) → fold comers_behind (here 0) (turns seed i) ≡ here (state_after seed i).start
unfolding turns state_after
leave seed zero = refl
leave seed (suc i) =
    let m : Maker = state_after seed i in
    fold-append comers_behind (here 0) (turns seed i) (step_causes (suc i) m) ∙ ap (λ x. fold comers_behind x (step_causes (suc i) m)) (leave seed i)
    ∙ turn_leaves (suc i) (drawn (next_state m.state) % 4) (second m) m (turn_at m)

come : (seed i : ℕ) → AllCome (here 0) (turns seed i)
unfolding turns state_after
come seed zero = tt
come seed (suc i) =
    let m : Maker = state_after seed i in
    both (here 0) (turns seed i) (step_causes (suc i) m) (come seed i)
    (subst (λ x. AllCome x (step_causes (suc i) m)) (sym (leave seed i)) (turn_comes (suc i) (drawn (next_state m.state)) m (turn_at m)))

opening_comes : AllCome no_comers opening
opening_comes = (refl, (refl, (refl, (refl, (refl, (refl, (refl, (refl, (refl, (refl, (refl, (refl, (refl, (refl, (refl, (refl, (refl, (refl, tt))))))))))))))))))

pub made_comes : (n seed : ℕ) → AllCome no_comers (made n seed)
made_comes n seed = both no_comers opening (turns seed n) opening_comes (come seed n)
