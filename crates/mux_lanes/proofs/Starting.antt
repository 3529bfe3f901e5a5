-- What a start adds.
use Rattle.std.proofs.Common.{◌≡◌, ℕ, ◌≤◌, List, [], ◌∷◌, ◌++◌, Bool, false, inl, inr, refl, sym, ap, ap₂, ◌∙◌, arith, append_assoc, append-nil}
use Rattle.outside_io.specs.Faults.{Rose}
use Rattle.outside_io.specs.Told.{append_to}
use Rattle.lane_lists.specs.declared.item.Order.{Order}
use Rattle.lane_lists.specs.declared.item.Order.TheVariants as order
use Rattle.lane_lists.specs.declared.item.Posted.{Posted}
use Rattle.lane_lists.specs.declared.item.Posted.TheVariants as posted
use Rattle.mux_lanes.specs.Lanes.{Standing, Takes, WholeLink, CutLink}
use Rattle.mux_lanes.specs.Starts.{Begun, CutBegun, CutStart, RefusedAs, WholeStart, idle, went_up, failed, cut_up, cut_failed, wanted, begun, misled}
use Rattle.mux_lanes.proofs.Told.{appended_none, prepended_none}

pub refused_none : (posts posts' : List Posted) (orders : List Order) → posts' ≡ posts → RefusedAs posts posts' orders orders false
refused_none posts posts' orders e = record { more = []; taken = []; posts_are = e ∙ sym (append-nil posts); orders_are = sym (append-nil orders); whole = λ h. absurd cc; unended = λ e end t. absurd cc; cut = inl (refl, refl) }

-- behind the start of a program
pub took_up : (limit : ℕ) (b b' c : Standing) (w : Bool) → b'.back ≡ b.back → b.left ≡ b'.left → b.faults ≤ b'.faults → b'.posts ≡ b.posts → b'.orders ≡ b.orders → b'.sides ≡ b.sides
    → Takes (WholeLink posted.Up limit) (CutLink posted.Up limit) b' c w → Takes (WholeStart limit) (CutStart limit) b c w
took_up limit b b' c w back left later posts orders sides f = record {
  turn = f.turn;
  adds = record {
    left = left ∙ f.adds.left;
    back = f.adds.back ∙ ap (λ x. append_to x f.turn.back) back;
    later = (let x = f.adds.later in omega (arith, x, later));
    rise = (let x = f.adds.rise in omega (arith, x, later));
    posts = f.adds.posts ∙ ap (λ l. l ++ f.turn.posts) posts;
    orders = f.adds.orders ∙ ap (λ l. l ++ f.turn.orders) orders;
    sides = f.adds.sides ∙ ap (λ l. l ++ f.turn.sides) sides;
  };
  whole = λ e. went_up (f.whole e);
  cut = λ e. cut_up (f.cut e);
}

pub took_failed : (limit : ℕ) (b c : Standing) (w : Bool) → c.back ≡ b.back → c.left ≡ b.left → b.faults ≤ c.faults → Rose b.faults c.faults → c.sides ≡ b.sides → RefusedAs b.posts c.posts b.orders c.orders w
    → Takes (WholeStart limit) (CutStart limit) b c w
took_failed limit b c w back left later rose sides f = record {
  turn = idle 1 f.more f.taken;
  adds = record { left = sym left ∙ prepended_none c.left; back = back ∙ appended_none b.back; later = later; rise = rose; posts = f.posts_are; orders = f.orders_are; sides = sides ∙ sym (append-nil b.sides) };
  whole = λ e. (let x = f.whole e in failed x.0 (ap₂ (idle 1) x.1 x.2));
  cut = λ e. elim f.cut [ inl none ↦ wanted 1 (ap₂ (idle 1) none.0 none.1) | inr some ↦ cut_failed f.taken some.1 (f.unended e) (ap (λ l. idle 1 l f.taken) some.0) ];
}

pub took_none : (limit : ℕ) (b c : Standing) → c.back ≡ b.back → c.left ≡ b.left → b.faults ≤ c.faults → c.posts ≡ b.posts → c.orders ≡ b.orders → c.sides ≡ b.sides → Takes (WholeStart limit) (CutStart limit) b c false
took_none limit b c back left later posts orders sides = record {
  turn = idle 0 [] [];
  adds = record {
    left = sym left ∙ prepended_none c.left;
    back = back ∙ appended_none b.back;
    later = later;
    rise = omega (arith, later);
    posts = posts ∙ sym (append-nil b.posts);
    orders = orders ∙ sym (append-nil b.orders);
    sides = sides ∙ sym (append-nil b.sides);
  };
  whole = λ e. absurd cc;
  cut = λ _. wanted 0 refl;
}

-- behind the order to begin
pub took_begun : (limit start : ℕ) (b b' c : Standing) (w : Bool) → b'.back ≡ b.back → b.left ≡ b'.left → b.faults ≤ b'.faults → b'.posts ≡ b.posts → b'.orders ≡ b.orders ++ order.Begin start ∷ [] → b'.sides ≡ b.sides
    → Takes (WholeStart limit) (CutStart limit) b' c w → Takes (Begun (WholeStart limit)) (CutBegun limit) b c w
took_begun limit start b b' c w back left later posts orders sides f = record {
  turn = record f.turn { orders = order.Begin start ∷ f.turn.orders };
  adds = record {
    left = left ∙ f.adds.left;
    back = f.adds.back ∙ ap (λ x. append_to x f.turn.back) back;
    later = (let x = f.adds.later in omega (arith, x, later));
    rise = (let x = f.adds.rise in omega (arith, x, later));
    posts = f.adds.posts ∙ ap (λ l. l ++ f.turn.posts) posts;
    orders = f.adds.orders ∙ ap (λ l. l ++ f.turn.orders) orders ∙ append_assoc b.orders (order.Begin start ∷ []) f.turn.orders;
    sides = f.adds.sides ∙ ap (λ l. l ++ f.turn.sides) sides;
  };
  whole = λ e. record { start = start; rest = f.turn; behind = f.whole e; is = refl };
  cut = λ e. begun (record { start = start; rest = f.turn; behind = f.cut e; is = refl });
}

pub took_misled : (limit : ℕ) (o : Order) (b c : Standing) → c.back ≡ b.back → c.left ≡ b.left → b.faults ≤ c.faults → c.posts ≡ b.posts → c.orders ≡ b.orders ++ o ∷ [] → c.sides ≡ b.sides → Takes (Begun (WholeStart limit)) (CutBegun limit) b c false
took_misled limit o b c back left later posts orders sides = record {
  turn = idle 0 [] (o ∷ []);
  adds = record { left = sym left ∙ prepended_none c.left; back = back ∙ appended_none b.back; later = later; rise = omega (arith, later); posts = posts ∙ sym (append-nil b.posts); orders = orders; sides = sides ∙ sym (append-nil b.sides) };
  whole = λ e. absurd cc;
  cut = λ _. misled o refl;
}
