-- Parts of a turn, one after the other.
use Rattle.std.proofs.Common.{◌≡◌, ℕ, List, [], ◌∷◌, ◌++◌, map, refl, ap, sym, subst, ◌∙◌, append_assoc, append-nil, ◌+◌, ◌<◌, ◌≤◌, length, take, get_or, zero, suc, arith, true, false}
use Rattle.std.proofs.lemmas.List.{take_more}
use Rattle.mux_history.specs.declared.out.Out.{Out}
use Rattle.event_model.specs.Event.{Event, said, behind}
use Rattle.event_model.specs.Row.{Row, nothing, after, choose, look, outs, each}
use Rattle.event_model.specs.Does.{Alike, Done, Does}

map_said : (xs ys : List Out) → map said (xs ++ ys) ≡ map said xs ++ map said ys
map_said [] ys = refl
map_said (x ∷ xs) ys = ap (λ es. said x ∷ es) (map_said xs ys)

-- more outs behind outs
pub behind_more : (base : List Event) (xs ys : List Out) → behind base (xs ++ ys) ≡ behind (behind base xs) ys
behind_more base xs ys = ap (λ es. base ++ es) (map_said xs ys) ∙ sym (append_assoc base (map said xs) (map said ys))

-- a row for each of a list, and for one more: the step of a loop
outs_more : {A : Type 0} (row : A → Row) (xs : List A) (x : A) (events : List Event) → outs (each row (xs ++ x ∷ [])) events ≡ outs (after (each row xs) (row x)) events
outs_more row [] x events = append-nil (outs (row x) events) ∙ ap (outs (row x)) (sym (append-nil events))
outs_more row (w ∷ xs) x events =
    let a = outs (row w) events in
    let mid = behind events a in
    let b = outs (each row xs) mid in
    ap (λ zs. a ++ zs) (outs_more row xs x mid)
    ∙ (sym (append_assoc a b (outs (row x) (behind mid b))) ∙ ap (λ es. (a ++ b) ++ outs (row x) es) (sym (behind_more events a b)))

take_past : {A : Type 0} (xs : List A) (i : ℕ) → length xs ≤ i → take i xs ≡ xs
take_past [] zero h = refl
take_past [] (suc i) h = refl
take_past (x ∷ xs) zero h = absurd (omega arith)
take_past (x ∷ xs) (suc i) h = ap (λ ys. x ∷ ys) (take_past xs i (omega arith))

-- rows that are the same are alike
pub alike : {r p : Row} → r ≡ p → Alike r p
alike e = record { sends = λ events. ap (λ q. outs q events) e }

pub alike_then : {r p q : Row} → Alike r p → Alike p q → Alike r q
alike_then d e = record { sends = λ events. d.sends events ∙ e.sends events }

pub alike_true : {p q : Row} → Alike (choose true p q) p
alike_true = record { sends = λ events. refl }

pub alike_false : {p q : Row} → Alike (choose false p q) q
alike_false = record { sends = λ events. refl }

module _ {K : Type 0} {Stands : K → List Event → Type 0} where
  -- nothing is sent, and the tables stay
  pub does_nothing : {base : List Event} {t : K} {xs : List Out} → Does Stands nothing base t xs t xs
  does_nothing {base} {t} {xs} = record { done = λ s. record { outs = sym (append-nil xs); stands = s } }

  -- the one part, and the other from there
  pub does_then : {p q : Row} {base : List Event} {t u v : K} {xs ys zs : List Out} → Does Stands p base t xs u ys → Does Stands q base u ys v zs → Does Stands (after p q) base t xs v zs
  does_then {p} {q} {base} {t} {u} {v} {xs} {ys} {zs} d e = record {
    done = λ s.
        let one = d.done s in
        let two = e.done one.stands in
        record {
          outs = two.outs ∙ (ap (λ ws. ws ++ outs q (behind base ys)) one.outs
              ∙ (append_assoc xs (outs p (behind base xs)) (outs q (behind base ys))
              ∙ ap (λ es. xs ++ (outs p (behind base xs) ++ outs q es)) (ap (behind base) one.outs ∙ behind_more base xs (outs p (behind base xs)))));
          stands = two.stands;
        };
  }

  -- what the tables stand for at its place may be used to show what a part does: for "as it stood before"
  pub does_knowing : {p : Row} {base : List Event} {t u : K} {xs ys : List Out} → (Stands t (behind base xs) → Does Stands p base t xs u ys) → Does Stands p base t xs u ys
  does_knowing f = record { done = λ s. let d = f s in d.done s }

  -- a row that looks at the events, where the tables know what it sees
  pub does_look : {f : List Event → Row} {p : Row} {base : List Event} {t u : K} {xs ys : List Out} → (Stands t (behind base xs) → f (behind base xs) ≡ p) → Does Stands p base t xs u ys → Does Stands (look f) base t xs u ys
  does_look {f} {p} {base} {t} {u} {xs} {ys} e d = record {
    done = λ s.
        let one = d.done s in
        record { outs = one.outs ∙ ap (λ r. xs ++ outs r (behind base xs)) (sym (e s)); stands = one.stands };
  }

  -- a row that sends what another one does, by the tables
  pub does_alike : {r p : Row} {base : List Event} {t u : K} {xs ys : List Out} → (Stands t (behind base xs) → Alike r p) → Does Stands p base t xs u ys → Does Stands r base t xs u ys
  does_alike {r} {p} {base} {t} {u} {xs} {ys} e d = record {
    done = λ s.
        let one = d.done s in
        record { outs = one.outs ∙ ap (λ ws. xs ++ ws) (sym ((e s).sends (behind base xs))); stands = one.stands };
  }

  pub does_true : {p q : Row} {base : List Event} {t u : K} {xs ys : List Out} → Does Stands p base t xs u ys → Does Stands (choose true p q) base t xs u ys
  does_true d = record { done = λ s. let one = d.done s in record { outs = one.outs; stands = one.stands } }

  pub does_false : {p q : Row} {base : List Event} {t u : K} {xs ys : List Out} → Does Stands q base t xs u ys → Does Stands (choose false p q) base t xs u ys
  does_false d = record { done = λ s. let one = d.done s in record { outs = one.outs; stands = one.stands } }

  pub does_more : {A : Type 0} (row : A → Row) (done : List A) (a : A) {base : List Event} {t u v : K} {xs ys zs : List Out} → Does Stands (each row done) base t xs u ys → Does Stands (row a) base u ys v zs → Does Stands (each row (done ++ a ∷ [])) base t xs v zs
  does_more {A} row done a {base} {t} {u} {v} {xs} {ys} {zs} d e = record {
    done = λ s.
        let one = (does_then d e).done s in
        record { outs = one.outs ∙ ap (λ ws. xs ++ ws) (sym (outs_more row done a (behind base xs))); stands = one.stands };
  }

  -- the step of a loop over a list, and its end
  pub does_next : {A : Type 0} (row : A → Row) (list : List A) (i : ℕ) (d : A) {base : List Event} {t u v : K} {xs ys zs : List Out} → i < length list → Does Stands (each row (take i list)) base t xs u ys → Does Stands (row (get_or list i d)) base u ys v zs
      → Does Stands (each row (take (i + 1) list)) base t xs v zs
  does_next {A} row list i d {base} {t} {u} {v} {xs} {ys} {zs} h p q = subst (λ ws. Does Stands (each row ws) base t xs v zs) (sym (take_more list i d h)) (does_more row (take i list) (get_or list i d) p q)

  pub does_whole : {A : Type 0} (row : A → Row) (list : List A) (i : ℕ) {base : List Event} {t u : K} {xs ys : List Out} → length list ≤ i → Does Stands (each row (take i list)) base t xs u ys → Does Stands (each row list) base t xs u ys
  does_whole {A} row list i {base} {t} {u} {xs} {ys} h p = subst (λ ws. Does Stands (each row ws) base t xs u ys) (take_past list i h) p

  -- a whole entry
  pub does_entry : {row : Row} {base : List Event} {t u : K} {ys : List Out} → Stands t base → Does Stands row base t [] u ys → Done Stands row base [] u ys
  does_entry {row} {base} {t} {u} {ys} s d = d.done (subst (λ es. Stands t es) (sym (append-nil base)) s)
