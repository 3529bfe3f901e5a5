-- The starts that wait take free lanes, one by one.
use Rattle.std.proofs.Common.{◌≡◌, ℕ, ◌+◌, Bool, true, false, List, [], ◌∷◌, fold, length, refl, ap, ap₂, sym, ◌∙◌, Option, Some, None, arith}
use Rattle.lane_lists.specs.declared.item.LaneName.{LaneName}
use Rattle.lane_lists.specs.declared.item.Order.{Order}
use Rattle.mux_history.specs.declared.out.Out.{Out}
use Rattle.lane_desk.specs.declared.kinds.Kind.{Kind}
use Rattle.lane_desk.specs.declared.kinds.Kind.TheVariants as kind
use Rattle.lane_desk.specs.Kinds.{done_if, joined_by, moved}
use Rattle.lane_desk.specs.Givens.{Gives, given_by, with_orders}
use Rattle.lane_lists.specs.declared.item.LaneName.TheVariants as lane
use Rattle.lane_lists.specs.declared.item.Order.TheVariants as order
use Rattle.lane_lists.specs.Seats.{Given, Seats, begin_at, begin_from, begin_seat, free_place, give, give_out, on_seat, seat_of}
use Rattle.lane_lists.specs.Deeds.{begin_all, with_done}

-- with other starts that wait
abbrev pub waits : List ℕ → Given → Given
waits w g = record g { seats = record g.seats { waiting = w } }

begin_waits : (xs w : List ℕ) (g : Given) → begin_from xs (waits w g) ≡ begin_from xs g
begin_waits [] w g = refl
begin_waits (s ∷ xs) w g = at (λ h. begin_waits xs w h) (free_place g.seats.servers)
  where
    at : ((h : Given) → begin_from xs (waits w h) ≡ begin_from xs h) → (o : Option ℕ) → begin_at o s xs (waits w g) (λ h. begin_from xs h) ≡ begin_at o s xs g (λ h. begin_from xs h)
    at more None = refl
    at more (Some i) = more (give (lane.Server i) (order.Begin s) (begin_seat s) g)

-- one start begins
pub begin_one : (g : Given) (s : ℕ) (rest : List ℕ) (i : ℕ) → g.seats.waiting ≡ s ∷ rest → free_place g.seats.servers ≡ Some i → begin_all g ≡ begin_all (give (lane.Server i) (order.Begin s) (begin_seat s) (waits rest g))
begin_one g s rest i w f = ap (λ xs. begin_from xs g) w ∙ ap (λ o. begin_at o s rest g (λ h. begin_from rest h)) f ∙ sym (begin_waits rest rest (give (lane.Server i) (order.Begin s) (begin_seat s) g))

-- none does
pub begin_none : (g : Given) → free_place g.seats.servers ≡ None → begin_all g ≡ g
begin_none g f = at g.seats.waiting refl
  where
    at : (w : List ℕ) → g.seats.waiting ≡ w → begin_all g ≡ g
    at [] e = ap (λ xs. begin_from xs g) e ∙ ap (λ xs. waits xs g) (sym e)
    at (s ∷ rest) e = ap (λ xs. begin_from xs g) e ∙ ap (λ o. begin_at o s rest g (λ h. begin_from rest h)) f ∙ ap (λ xs. waits xs g) (sym e)

pub begin_all_done : (g : Given) → g.seats.waiting ≡ [] → begin_all g ≡ g
begin_all_done g e = ap (λ xs. begin_from xs g) e ∙ ap (λ xs. waits xs g) (sym e)

-- the foremost start that waits begins
pub record Began (orders : List (LaneName × Order)) (seats : Seats) (orders' : List (LaneName × Order)) (seats' : Seats) : Type 0 where
  pub same : begin_all (with_orders orders' seats') ≡ begin_all (with_orders orders seats)
  pub fewer : length seats'.waiting + 1 ≡ length seats.waiting

pub begin_next : (orders : List (LaneName × Order)) (seats after : Seats) (s : ℕ) (rest : List ℕ) (i : ℕ) (orders' : List (LaneName × Order)) (seats' : Seats) → seats.waiting ≡ s ∷ rest → free_place seats.servers ≡ Some i → after ≡ record seats { waiting = rest }
    → Gives (give (lane.Server i) (order.Begin s) (begin_seat s) (with_orders orders after)) orders' seats' → Began orders seats orders' seats'
begin_next orders seats after s rest i orders' seats' w f a g = record {
  same = ap₂ (λ x y. begin_all (with_orders x y)) g.orders_are g.seats_are ∙ ap (λ x. begin_all (give (lane.Server i) (order.Begin s) (begin_seat s) (with_orders orders x))) a ∙ sym (begin_one (with_orders orders seats) s rest i w f);
  fewer = ap (λ (x : Seats). length x.waiting + 1) g.seats_are ∙ ap (λ (x : Seats). length x.waiting + 1) a ∙ (let n : length (s ∷ rest) ≡ length rest + 1 = omega arith in sym (ap length w ∙ n));
}

-- an entry's orders: that of a session that is over, those of the outs, and those of the starts that begin
seats_alone : (l : LaneName) (a : Seats) (k : Kind) (closed : Bool) → with_orders (with_done (done_if k closed) l a).orders a ≡ with_done (done_if k closed) l a
seats_alone l a (kind.Joins e) closed = refl
seats_alone l a kind.Starts closed = refl
seats_alone l a kind.Goes true = refl
seats_alone l a kind.Goes false = refl
seats_alone l a kind.Stays closed = refl

pub gives_all : (seats : Seats) (l : LaneName) (side : Bool) (k : Kind) (outs : List Out) (closed : Bool) (first : List (LaneName × Order)) (heard : Seats) (given : List (LaneName × Order)) (behind : Seats) (all : List (LaneName × Order)) (last : Seats)
    → closed ≡ (seat_of l seats).closed → first ≡ (with_done (done_if k closed) l heard).orders → heard ≡ record (on_seat l (moved side k) seats) { joined = joined_by k seats.joined }
    → Gives (fold give_out (with_orders first heard) outs) given behind → Gives (begin_all (with_orders given behind)) all last → Gives (given_by seats l side k outs) all last
gives_all seats l side k outs closed first heard given behind all last c f h g b =
    let begun : with_orders first heard ≡ with_done (done_if k closed) l heard = ap (λ o. with_orders o heard) f ∙ seats_alone l heard k closed in
    let entry : with_orders given behind ≡ fold give_out (with_done (done_if k (seat_of l seats).closed) l (record (on_seat l (moved side k) seats) { joined = joined_by k seats.joined })) outs =
    ap₂ with_orders g.orders_are g.seats_are ∙ ap (λ x. fold give_out x outs) (begun ∙ ap₂ (λ x y. with_done (done_if k x) l y) c h) in
    record { orders_are = b.orders_are ∙ ap (λ (x : Given). (begin_all x).orders) entry; seats_are = b.seats_are ∙ ap (λ (x : Given). (begin_all x).seats) entry }
