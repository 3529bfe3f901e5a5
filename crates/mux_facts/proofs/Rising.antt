-- A row for each of some numbers, rising: what is known of a number before the first row is still known at its own.
use Rattle.std.proofs.Common.{◌≡◌, ℕ, zero, suc, ◌≤◌, Bool, true, false, cond, List, [], ◌∷◌, ◌++◌, filter, nat_eq, refl, sym, ◌∙◌, ap, subst, arith, append-nil, append_assoc}
use Rattle.std.proofs.lemmas.List.Elements.{filter-append}
use Rattle.mux_history.specs.declared.out.Out.{Out}
use Rattle.event_model.specs.Event.{Event, behind}
use Rattle.event_model.specs.Row.{Row, outs, each}
use Rattle.mux_model.specs.Rows.{below}
use Rattle.mux_facts.proofs.Keeps.{behind_both, behind_nothing}
use Rattle.mux_facts.proofs.Reasons.{Reasons, Because, by_nothing, reasons_both}
use Rattle.mux_facts.proofs.Words.{other_number}

pub outs_each : {A : Type 0} (row : A → Row) (xs ys : List A) (events : List Event) → outs (each row (xs ++ ys)) events ≡ outs (each row xs) events ++ outs (each row ys) (behind events (outs (each row xs) events))
outs_each row [] ys events = ap (λ z. outs (each row ys) z) (sym (behind_nothing events))
outs_each row (x ∷ xs) ys events =
    ap (λ z. outs (row x) events ++ z) (outs_each row xs ys (behind events (outs (row x) events))
    ∙ ap (λ z. outs (each row xs) (behind events (outs (row x) events)) ++ outs (each row ys) z) (sym (behind_both events (outs (row x) events) (outs (each row xs) (behind events (outs (row x) events))))))
    ∙ sym (append_assoc (outs (row x) events) (outs (each row xs) (behind events (outs (row x) events)))
    (outs (each row ys) (behind events (outs (row x) events ++ outs (each row xs) (behind events (outs (row x) events))))))

module _ {R : List Event → Out → Type 0} (row : ℕ → Row) (P : ℕ → List Event → Type 0)
    (why : (n : ℕ) (events : List Event) → P n events → Because R events (row n))
    (still : (n k : ℕ) (events : List Event) → nat_eq n k ≡ false → P k events → P k (behind events (outs (row n) events))) where
  -- these rows have their reasons, and leave alone what is known of n and above
  record Up (events : List Event) (xs : List ℕ) (n : ℕ) : Type 0 where
    reasons : Because R events (each row xs)
    rest : (k : ℕ) → n ≤ k → P k events → P k (behind events (outs (each row xs) events))

  one_row : (n : ℕ) (events : List Event) → outs (each row (n ∷ [])) events ≡ outs (row n) events
  one_row n events = append-nil (outs (row n) events)

  one_up : (events : List Event) (xs : List ℕ) (n : ℕ) → P n events → Up events xs n → Up events (xs ++ n ∷ []) (suc n)
  one_up events xs n known up =
      let mid : List Event = behind events (outs (each row xs) events) in
      let split : outs (each row (xs ++ n ∷ [])) events ≡ outs (each row xs) events ++ outs (row n) mid = outs_each row xs (n ∷ []) events ∙ ap (λ z. outs (each row xs) events ++ z) (one_row n mid) in
      record {
        reasons = record { why = subst (λ z. Reasons R events z) (sym split) (reasons_both R events (outs (each row xs) events) (outs (row n) mid) (up.reasons).why (why n mid (up.rest n (omega arith) known)).why) };
        rest = λ k more here. subst (P k) (sym (ap (behind events) split ∙ behind_both events (outs (each row xs) events) (outs (row n) mid)))
            (still n k mid (other_number n k more) (up.rest k (omega arith) here));
      }

  up_to : (events : List Event) (test : ℕ → Bool) → ((k : ℕ) → test k ≡ true → P k events) → (n : ℕ) → Up events (filter test (below n)) n
  up_to events test all zero = record { reasons = by_nothing; rest = λ k more here. subst (P k) (sym (behind_nothing events)) here }
  up_to events test all (suc n) = subst (λ z. Up events z (suc n)) (sym (filter-append test (below n) (n ∷ []))) (go (test n) refl (up_to events test all n))
    where
      go : (b : Bool) → test n ≡ b → Up events (filter test (below n)) n → Up events (filter test (below n) ++ cond b (n ∷ []) []) (suc n)
      go true t up = one_up events (filter test (below n)) n (all n t) up
      go false t up = subst (λ z. Up events z (suc n)) (sym (append-nil (filter test (below n)))) (record { reasons = up.reasons; rest = λ k more here. up.rest k (omega arith) here })

  pub by_rising : (events : List Event) (test : ℕ → Bool) → ((k : ℕ) → test k ≡ true → P k events) → (n : ℕ) → Because R events (each row (filter test (below n)))
  by_rising events test all n = (up_to events test all n).reasons
