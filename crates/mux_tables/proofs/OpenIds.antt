-- What editors called their open requests.
use Rattle.std.proofs.Common.{◌≡◌, ℕ, zero, suc, ◌+◌, ◌<◌, ◌≤◌, Bool, true, false, cond, List, [], ◌∷◌, ◌++◌, drop, flat_map, map, length, get_or, refl, ap, sym, subst, ◌∙◌, append_assoc, append-nil, arith, nat_eq, if◌then◌else◌}
use Rattle.std.specs.Prelude.{Some, option_map, filter, find, slice_get}
use Rattle.std.proofs.lemmas.Bool.Decides.{nat_tests}
use Rattle.event_model.specs.Event.{Event}
use Rattle.event_model.specs.Settings.{Settings}
use Rattle.group_laws.specs.group_rows.specs.Forwarded.{Forwarded, forwarding_of, is_of}
use Rattle.id_rewrite.specs.declared.pending.Numbered.{Numbered}
use Rattle.id_rewrite.specs.Tables as tables
use Rattle.id_rewrite.specs.Tables.{IsInOrder, RiseWithin}
use Rattle.mux_tables.specs.declared.tables.Start.{Start}
use Rattle.mux_tables.specs.declared.tables.Tables.{Tables}
use Rattle.mux_tables.specs.Halts.{id_at, ids_at}
use Rattle.mux_tables.specs.Stands.{Stands, forwarded_of, number_in, of_ids}
use Rattle.mux_tables.proofs.Frames.{itself}
use Rattle.mux_tables.proofs.Starts.{read_here, start_at_place}

-- under a number that rises its own is kept
kept_ids : (f : ℕ → List (List ℕ)) (e from to : ℕ) (rs : List Numbered) → RiseWithin from to rs → ((n : ℕ) → from ≤ n → f n ≡ id_at (tables.pending_of n rs)) → flat_map f (tables.numbers_of e rs) ≡ ids_at e (map forwarded_of rs)
kept_ids f e from to [] h k = refl
kept_ids f e from to (r ∷ rs) h k = go (nat_eq r.pending.editor e) (k r.number h.0 ∙ first (nat_eq r.number r.number) (itself r.number))
    (kept_ids f e (r.number + 1) to rs h.1 (λ n l. let b = h.0 in k n (omega arith) ∙ later n (nat_eq r.number n) (grind (arith, nat_tests))))
  where
    first : (b : Bool) → b ≡ true → id_at (option_map (λ (q : Numbered). q.pending) (cond b (Some r) (find (tables.has_number r.number) rs))) ≡ r.pending.id ∷ []
    first true h = refl
    first false h = cc

    later : (n : ℕ) (b : Bool) → b ≡ false → id_at (option_map (λ (q : Numbered). q.pending) (cond b (Some r) (find (tables.has_number n) rs))) ≡ id_at (tables.pending_of n rs)
    later n true h = cc
    later n false h = refl

    go : (b : Bool) → f r.number ≡ r.pending.id ∷ [] → flat_map f (tables.numbers_of e rs) ≡ ids_at e (map forwarded_of rs)
        → flat_map f (map (λ (q : Numbered). q.number) (if b then r ∷ filter (tables.is_of e) rs else filter (tables.is_of e) rs))
        ≡ map (λ (p : Forwarded). p.id) (if b then forwarded_of r ∷ filter (is_of e) (map forwarded_of rs) else filter (is_of e) (map forwarded_of rs))
    go true o rest = rw (o, rest) refl
    go false o rest = rest

pub ids_so : (e : ℕ) (t : tables.Table) (ns : List ℕ) (ids : List (List ℕ)) → IsInOrder t → ns ≡ tables.numbers_of e t.requests → ids ≡ flat_map (λ n. id_at (tables.pending_of n t.requests)) ns → ids ≡ ids_at e (map forwarded_of t.requests)
ids_so e t ns ids order numbers is =
    is ∙ (ap (flat_map (λ n. id_at (tables.pending_of n t.requests))) numbers ∙ kept_ids (λ n. id_at (tables.pending_of n t.requests)) e 2 t.next t.requests order.rising (λ n l. refl))

-- of a group's last start
module _ (settings : Settings) (t : Tables) (events : List Event) (g : ℕ) (z : Start) (within : g < length t.lasts.items) (read : z ≡ get_or t.lasts.items g z) (st : Stands settings t events) where
  here : slice_get t.lasts.items g ≡ Some z
  here = read_here t.lasts.items g z within read

  pub ids_order : IsInOrder z.ids
  ids_order = ((st.lasts.each g z here).parts of_ids).order

  pub ids_here : (s e : ℕ) (ids : List (List ℕ)) → slice_get (map number_in t.lasts.items) g ≡ Some s → ids ≡ ids_at e (map forwarded_of z.ids.requests) → ids ≡ ids_at e (forwarding_of settings s events).open_requests
  ids_here s e ids at is =
      let kept = (st.lasts.each g z here).parts of_ids in
      is ∙ ap (ids_at e) (sym kept.open_requests ∙ ap (λ n. (forwarding_of settings n events).open_requests) (start_at_place t.lasts.items g s z here at))

-- the step of the loop, and its end
drop_one : (xs : List ℕ) (i d : ℕ) → i < length xs → drop i xs ≡ get_or xs i d ∷ drop (i + 1) xs
drop_one [] i d h = absurd (omega arith)
drop_one (x ∷ xs) zero d h = refl
drop_one (x ∷ xs) (suc i) d h = subst (λ n. drop i xs ≡ get_or xs i d ∷ drop n (x ∷ xs)) (sym (next i)) (drop_one xs i d (omega (arith, h)))
  where
    next : (i : ℕ) → suc i + 1 ≡ suc (i + 1)
    next i = omega arith

drop_past : (xs : List ℕ) (i : ℕ) → length xs ≤ i → drop i xs ≡ []
drop_past [] zero h = refl
drop_past [] (suc i) h = refl
drop_past (x ∷ xs) zero h = absurd (omega arith)
drop_past (x ∷ xs) (suc i) h = drop_past xs i (omega arith)

pub id_next : (f : ℕ → List (List ℕ)) (ns : List ℕ) (i d : ℕ) (xs new whole : List (List ℕ)) → i < length ns → new ≡ xs ++ f (get_or ns i d) → whole ≡ xs ++ flat_map f (drop i ns) → whole ≡ new ++ flat_map f (drop (i + 1) ns)
id_next f ns i d xs new whole l is h =
    h ∙ (ap (λ ms. xs ++ flat_map f ms) (drop_one ns i d l) ∙ (sym (append_assoc xs (f (get_or ns i d)) (flat_map f (drop (i + 1) ns))) ∙ ap (λ ys. ys ++ flat_map f (drop (i + 1) ns)) (sym is)))

pub id_end : (f : ℕ → List (List ℕ)) (ns : List ℕ) (i : ℕ) (xs whole : List (List ℕ)) → length ns ≤ i → whole ≡ xs ++ flat_map f (drop i ns) → xs ≡ whole
id_end f ns i xs whole past h = sym (append-nil xs) ∙ sym (h ∙ ap (λ ms. xs ++ flat_map f ms) (drop_past ns i past))
