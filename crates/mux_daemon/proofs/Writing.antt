-- What was written to an editor are the frames of the bodies to it.
use Rattle.std.proofs.Common.{◌≡◌, ◌≢◌, ℕ, zero, suc, ◌⊎◌, inl, inr, List, [], ◌∷◌, ◌++◌, map, slice_get, refl, ap, sym, ◌∙◌, subst, append_assoc}
use Rattle.std.specs.Prelude.{Some}
use Rattle.base_frame.specs.Frames.{framed, all_framed}
use Rattle.mux_history.specs.declared.entry.Entry.{Entry}
use Rattle.lane_lists.specs.declared.item.Order.{Order}
use Rattle.lane_lists.specs.declared.item.Order.TheVariants as order
use Rattle.lane_lists.specs.Sessions.{chain}
use Rattle.lane_lists.specs.History.{AllZip, Mark, Enters, Told, Closed, Leaves, bodies_to, end_to, end_until, entered, marks}
use Rattle.session_io.specs.declared.part.End.{End}
use Rattle.session_io.specs.declared.part.End.TheVariants as end
use Rattle.session_io.specs.Writes.{body_orders, end_orders}
use Rattle.mux_lanes.specs.Runs.{IsRun, IsWholeRun, Run, order_of}
use Rattle.mux_daemon.specs.Sessions.{WrittenAs, WrittenOf}
use Rattle.mux_daemon.proofs.Places.{same_item}
use Rattle.mux_daemon.proofs.Reading.{FrontWhole}
use Rattle.mux_daemon.proofs.EndSessions.{AllEnd}

all_framed_append : (a b : List (List ℕ)) → all_framed (a ++ b) ≡ all_framed a ++ all_framed b
all_framed_append [] b = refl
all_framed_append (x ∷ a) b = ap (λ l. framed x ++ l) (all_framed_append a b) ∙ sym (append_assoc (framed x) (all_framed a) (all_framed b))

-- nothing, or an end first
abbrev Ended : List Order → Type 0
Ended ys = (ys ≡ []) ⊎ ((o : End) × ((rest : List Order) × (ys ≡ order_of o ∷ rest)))

-- nothing, or just an end
abbrev pub EndForms : List Order → Type 0
EndForms ends = (ends ≡ []) ⊎ ((o : End) × (ends ≡ order_of o ∷ []))

pub end_forms : (ms : List Mark) → EndForms (end_until ms)
end_forms [] = inl refl
end_forms (Enters ∷ ms) = end_forms ms
end_forms (Told body ∷ ms) = end_forms ms
end_forms (Closed ∷ ms) = inr (end.Closed, refl)
end_forms (Leaves ∷ ms) = inr (end.Done, refl)

-- no body stands first
abbrev pub NoBody : List Order → Type 0
NoBody ys = (b : List ℕ) (xs : List Order) → order.Body b ∷ xs ≡ ys → ⊥

no_body : (ys : List Order) → Ended ys → NoBody ys
no_body ys (inl none) b xs e = let f : order.Body b ∷ xs ≡ [] = e ∙ none in absurd cc
no_body ys (inr (end.Closed, (rest, is))) b xs e = let f : order.Body b ∷ xs ≡ order.Close ∷ rest = e ∙ is in absurd cc
no_body ys (inr (end.Done, (rest, is))) b xs e = let f : order.Body b ∷ xs ≡ order.Done ∷ rest = e ∙ is in absurd cc

-- bodies before anything, of bodies before what is no body, are the first ones
pub record FirstBodies (first all : List (List ℕ)) (xs ys : List Order) : Type 0 where
  pub more : List (List ℕ)
  pub are : all ≡ first ++ more
  pub rest : xs ≡ body_orders more ++ ys

pub first_bodies : (first all : List (List ℕ)) (xs ys : List Order) → NoBody ys → body_orders first ++ xs ≡ body_orders all ++ ys → FirstBodies first all xs ys
first_bodies [] all xs ys h e = record { more = all; are = refl; rest = e }
first_bodies (b ∷ first) [] xs ys h e = absurd (h b (body_orders first ++ xs) e)
first_bodies (b ∷ first) (c ∷ all) xs ys h e =
    let one : c ≡ b = cc in
    let f = first_bodies first all xs ys h cc in record { more = f.more; are = ap (λ x. x ∷ all) one ∙ ap (λ l. b ∷ l) f.are; rest = f.rest }

pub end_first : (o : End) (xs ys : List Order) (more : List (List ℕ)) → order_of o ∷ xs ≡ body_orders more ++ ys → (more ≡ []) × (ys ≡ order_of o ∷ xs)
end_first o xs ys [] e = (refl, sym e)
end_first end.Closed xs ys (b ∷ more) e = absurd cc
end_first end.Done xs ys (b ∷ more) e = absurd cc

-- the bodies of a run that went through its orders
abbrev pub bodies_of : {limit : ℕ} {run : Run} → IsRun limit run → List (List ℕ)
bodies_of is = is.wrote.whole ++ is.wrote.others

-- one run's orders against one session's
record Fits (limit : ℕ) (history : List Entry) (e : ℕ) (run : Run) (is : IsRun limit run) (rest next : List Order) : Type 0 where
  pub more : List (List ℕ)
  pub bodies : bodies_to e history ≡ bodies_of is ++ more
  pub ended : (o : End) → run.wrote.end ≡ Some (order_of o) → (more ≡ []) × (end_to e history ≡ order_of o ∷ []) × (rest ≡ next)

ended_next : (history : List Entry) (e : ℕ) (ids : List ℕ) (next : List Order) → (ids ≢ [] → end_to e history ≢ []) → (ids ≡ [] → next ≡ []) → Ended (end_to e history ++ next)
ended_next history e [] next h g = elim (end_forms (entered (marks e history))) [
  | inl none ↦ inl (ap (λ l. l ++ next) none ∙ g refl)
  | inr o ↦ inr (o.0, (next, ap (λ l. l ++ next) o.1))
]
ended_next history e (n ∷ ids) next h g = elim (end_forms (entered (marks e history))) [
  | inl none ↦ absurd (h (λ f. absurd cc) none)
  | inr o ↦ inr (o.0, (next, ap (λ l. l ++ next) o.1))
]

pub end_same : (o v : End) (xs next : List Order) → order_of v ∷ next ≡ order_of o ∷ xs → (order_of v ≡ order_of o) × (xs ≡ next)
end_same o v xs next e = (cc, cc)

ended_so : (history : List Entry) (e : ℕ) (ids : List ℕ) (o : End) (xs next : List Order) → (ids ≢ [] → end_to e history ≢ []) → (ids ≡ [] → next ≡ []) → end_to e history ++ next ≡ order_of o ∷ xs → (end_to e history ≡ order_of o ∷ []) × (xs ≡ next)
ended_so history e ids o xs next h g is = elim (end_forms (entered (marks e history))) [
  | inl none ↦ absurd (no_end ids h g (ap (λ l. l ++ next) (sym none) ∙ is) none)
  | inr v ↦ let s = end_same o v.0 xs next (ap (λ l. l ++ next) (sym v.1) ∙ is) in (v.1 ∙ ap (λ x. x ∷ []) s.0, s.1)
]
  where
    no_end : (ids : List ℕ) → (ids ≢ [] → end_to e history ≢ []) → (ids ≡ [] → next ≡ []) → next ≡ order_of o ∷ xs → end_to e history ≡ [] → ⊥
    no_end [] h g is none = let f : [] ≡ order_of o ∷ xs = sym (g refl) ∙ is in absurd cc
    no_end (n ∷ ids) h g is none = h (λ f. absurd cc) none

fits : (limit : ℕ) (history : List Entry) (e : ℕ) (run : Run) (is : IsRun limit run) (rest next part : List Order) (ids : List ℕ) → run.orders ++ rest ≡ part ++ next → part ≡ body_orders (bodies_to e history) ++ end_to e history
    → (ids ≢ [] → end_to e history ≢ []) → (ids ≡ [] → next ≡ []) → Fits limit history e run is rest next
fits limit history e run is rest next part ids all says h g =
    let mine = bodies_of is in
    let ends = end_orders run.wrote.end in
    let spread : body_orders mine ++ (ends ++ rest) ≡ body_orders (bodies_to e history) ++ (end_to e history ++ next) =
    sym (append_assoc (body_orders mine) ends rest) ∙ ap (λ l. l ++ rest) (sym is.wrote.took) ∙ all ∙ ap (λ l. l ++ next) says ∙ append_assoc (body_orders (bodies_to e history)) (end_to e history) next in
    let f = first_bodies mine (bodies_to e history) (ends ++ rest) (end_to e history ++ next) (no_body (end_to e history ++ next) (ended_next history e ids next h g)) spread in
    record {
      more = f.more;
      bodies = f.are;
      ended = λ o here.
          let first : order_of o ∷ rest ≡ body_orders f.more ++ (end_to e history ++ next) = ap (λ x. end_orders x ++ rest) (sym here) ∙ f.rest in
          let t = end_first o rest (end_to e history ++ next) f.more first in
          let s = ended_so history e ids o rest next h g t.1 in
          (t.0, s.0, s.1);
    }

-- what follows of one run
pub record OneFits (limit : ℕ) (all : List (List ℕ)) (given : List Order) (run : Run) (is : IsRun limit run) : Type 0 where
  pub more : List (List ℕ)
  pub are : all ≡ bodies_of is ++ more
  pub ended : (o : End) → run.wrote.end ≡ Some (order_of o) → (more ≡ []) × (given ≡ order_of o ∷ [])

abbrev FitsAt : ℕ → List Entry → ℕ → (run : Run) → Type 0
FitsAt limit history e run = (is : IsRun limit run) × OneFits limit (bodies_to e history) (end_to e history) run is

abbrev OrdersOf : List Entry → ℕ → List Order → Type 0
OrdersOf history e part = part ≡ body_orders (bodies_to e history) ++ end_to e history

none_made : (history : List Entry) (ids : List ℕ) (made : List (List Order)) → AllZip (OrdersOf history) ids made → ids ≡ [] → chain made ≡ []
none_made history [] [] z e = refl
none_made history [] (p ∷ made) z e = absurd cc
none_made history (n ∷ ids) made z e = absurd cc

more_runs : (runs : List Run) (k : ℕ) (run : Run) → slice_get runs k ≡ Some run → runs ≢ []
more_runs [] k run at e = absurd cc
more_runs (r ∷ runs) k run at e = absurd cc

fits_at : (limit : ℕ) (history : List Entry) (runs : List Run) (unheard : List Order) (ids : List ℕ) (made : List (List Order)) (each : (k : ℕ) (run : Run) → slice_get runs k ≡ Some run → IsRun limit run) → FrontWhole runs
    → AllZip (OrdersOf history) ids made → AllEnd history ids → chain (map (λ (r : Run). r.orders) runs) ++ unheard ≡ chain made → (k e : ℕ) (run : Run) → slice_get ids k ≡ Some e → slice_get runs k ≡ Some run → FitsAt limit history e run
fits_at limit history [] unheard ids made each front z ends all k e run at here = absurd cc
fits_at limit history (r ∷ runs) unheard [] made each front z ends all k e run at here = absurd cc
fits_at limit history (r ∷ runs) unheard (n ∷ ids) [] each front z ends all k e run at here = absurd cc
fits_at limit history (r ∷ runs) unheard (n ∷ ids) (p ∷ made) each front z ends all zero e run at here =
    let is = each 0 r refl in
    let f = fits limit history n r is (chain (map (λ (r : Run). r.orders) runs) ++ unheard) (chain made) p ids (sym (append_assoc r.orders (chain (map (λ (r : Run). r.orders) runs)) unheard) ∙ all) z.0 ends.0 (none_made history ids made z.1) in
    let same : n ≡ e = same_item n e at in
    let this : r ≡ run = same_item r run here in
    subst (λ y. FitsAt limit history e y) this (subst (λ x. FitsAt limit history x r) same (is, record { more = f.more; are = f.bodies; ended = λ o w. let t = f.ended o w in (t.0, t.1) }))
fits_at limit history (r ∷ runs) unheard (n ∷ ids) (p ∷ made) each front z ends all (suc k) e run at here =
    let is = each 0 r refl in
    let f = fits limit history n r is (chain (map (λ (r : Run). r.orders) runs) ++ unheard) (chain made) p ids (sym (append_assoc r.orders (chain (map (λ (r : Run). r.orders) runs)) unheard) ∙ all) z.0 ends.0 (none_made history ids made z.1) in
    let whole = front.0 (more_runs runs k run here) in
    let t = f.ended whole.end whole.ordered in
    fits_at limit history runs unheard ids made (λ j run at. each (suc j) run at) front.1 z.1 ends.1 t.2 k e run at here

-- each whole run has an editor
pub has_editor : (limit : ℕ) (history : List Entry) (runs : List Run) (unheard : List Order) (ids : List ℕ) (made : List (List Order)) (each : (k : ℕ) (run : Run) → slice_get runs k ≡ Some run → IsRun limit run) → FrontWhole runs
    → AllZip (OrdersOf history) ids made → AllEnd history ids → chain (map (λ (r : Run). r.orders) runs) ++ unheard ≡ chain made → (k : ℕ) (run : Run) → slice_get runs k ≡ Some run → IsWholeRun run → (e : ℕ) × (slice_get ids k ≡ Some e)
has_editor limit history [] unheard ids made each front z ends all k run here w = absurd cc
has_editor limit history (r ∷ runs) unheard [] (p ∷ made) each front z ends all k run here w = absurd cc
has_editor limit history (r ∷ runs) unheard [] [] each front z ends all k run here w = absurd (no_orders k here)
  where
    whole_first : IsWholeRun r → ⊥
    whole_first w =
        let is = each 0 r refl in
        let none : r.orders ++ (chain (map (λ (r : Run). r.orders) runs) ++ unheard) ≡ [] = sym (append_assoc r.orders (chain (map (λ (r : Run). r.orders) runs)) unheard) ∙ all in
        ends_none (bodies_of is) w.end (chain (map (λ (r : Run). r.orders) runs) ++ unheard) (ap (λ l. l ++ (chain (map (λ (r : Run). r.orders) runs) ++ unheard)) (ap (λ x. body_orders (bodies_of is) ++ end_orders x) (sym w.ordered) ∙ sym is.wrote.took) ∙ none)
      where
        ends_none : (bs : List (List ℕ)) (o : End) (rest : List Order) → (body_orders bs ++ order_of o ∷ []) ++ rest ≡ [] → ⊥
        ends_none [] o rest e = absurd cc
        ends_none (b ∷ bs) o rest e = absurd cc

    no_orders : (k : ℕ) → slice_get (r ∷ runs) k ≡ Some run → ⊥
    no_orders zero here = whole_first (subst (λ x. IsWholeRun x) (sym (same_item r run here)) w)
    no_orders (suc k) here = whole_first (front.0 (more_runs runs k run here))
has_editor limit history (r ∷ runs) unheard (n ∷ ids) [] each front z ends all k run here w = absurd cc
has_editor limit history (r ∷ runs) unheard (n ∷ ids) (p ∷ made) each front z ends all zero run here w = (n, refl)
has_editor limit history (r ∷ runs) unheard (n ∷ ids) (p ∷ made) each front z ends all (suc k) run here w =
    let is = each 0 r refl in
    let f = fits limit history n r is (chain (map (λ (r : Run). r.orders) runs) ++ unheard) (chain made) p ids (sym (append_assoc r.orders (chain (map (λ (r : Run). r.orders) runs)) unheard) ∙ all) z.0 ends.0 (none_made history ids made z.1) in
    let whole = front.0 (more_runs runs k run here) in
    let t = f.ended whole.end whole.ordered in
    has_editor limit history runs unheard ids made (λ j run at. each (suc j) run at) front.1 z.1 ends.1 t.2 k run here w

-- what was written, by the bodies
pub written_by : (limit : ℕ) (all : List (List ℕ)) (given : List Order) (run : Run) (is : IsRun limit run) → OneFits limit all given run is → WrittenAs all given run
written_by limit all given run is f =
    let w = is.wrote in record {
      sent = all_framed w.whole ++ w.part;
      unsent = w.rest ++ all_framed f.more;
      written = w.wrote;
      front = ap all_framed f.are ∙ all_framed_append (w.whole ++ w.others) f.more ∙ ap (λ l. l ++ all_framed f.more) (all_framed_append w.whole w.others ∙ ap (λ l. all_framed w.whole ++ l) w.front ∙ sym (append_assoc (all_framed w.whole) w.part w.rest))
          ∙ append_assoc (all_framed w.whole ++ w.part) w.rest (all_framed f.more);
      all = λ whole unbroken.
          let a = w.all whole.written unbroken in
          let none : w.part ++ w.rest ≡ [] = sym w.front ∙ ap all_framed a.0 in
          let rest : w.rest ≡ [] = ap (λ l. l ++ w.rest) (sym a.1) ∙ none in
          let more = (f.ended whole.end whole.ordered).0 in
          ap (λ l. l ++ all_framed f.more) rest ∙ ap all_framed more;
      fault = w.fault;
      ends = λ whole. (whole.end, whole.ordered, (f.ended whole.end whole.ordered).1);
    }

pub written_at : (limit : ℕ) (history : List Entry) (runs : List Run) (unheard : List Order) (ids : List ℕ) (made : List (List Order)) (each : (k : ℕ) (run : Run) → slice_get runs k ≡ Some run → IsRun limit run) → FrontWhole runs
    → AllZip (OrdersOf history) ids made → AllEnd history ids → chain (map (λ (r : Run). r.orders) runs) ++ unheard ≡ chain made → (k e : ℕ) (run : Run) → slice_get ids k ≡ Some e → slice_get runs k ≡ Some run → WrittenOf history e run
written_at limit history runs unheard ids made each front z ends all k e run at here =
    let f = fits_at limit history runs unheard ids made each front z ends all k e run at here in
    written_by limit (bodies_to e history) (end_to e history) run f.0 f.1
