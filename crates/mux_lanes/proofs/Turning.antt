-- One turn more.
use Rattle.std.proofs.Common.{◌≤◌, ℕ, ◌+◌, Bool, not, ◌≡◌, List, [], ◌∷◌, ◌++◌, true, false, map, refl, sym, ap, ◌∙◌, arith, append_assoc, append-nil}
use Rattle.std.specs.Prelude.{Option}
use Rattle.outside_io.specs.Sessions.{Session}
use Rattle.lane_lists.specs.declared.item.Order.{Order}
use Rattle.lane_lists.specs.declared.item.Posted.{Posted}
use Rattle.lane_lists.specs.declared.item.Side.{Side}
use Rattle.std.proofs.lemmas.List.Elements.{All-append, All-cons, All-nil}
use Rattle.outside_io.specs.Told.{append_to, prepend_to}
use Rattle.lane_lists.specs.Sessions.{chain}
use Rattle.mux_lanes.specs.declared.lane_end.LaneEnd.{LaneEnd}
use Rattle.mux_lanes.specs.declared.lane_end.LaneEnd.TheVariants as lane_end
use Rattle.mux_lanes.specs.Lanes.{Standing, Turn, Adds, Takes, all_turns, all_rises, RanSoFar, RanAs}
use Rattle.mux_lanes.proofs.Told.{appended_none, prepended_none, appended_more, prepended_more}

is_true : (b : Bool) → not b ≡ false → b ≡ true
is_true true e = refl
is_true false e = absurd cc

is_false : (b : Bool) → not b ≡ true → b ≡ false
is_false true e = absurd cc
is_false false e = refl

chain_more : {X : Type 0} (f : Turn → List X) (turns : List Turn) (turn : Turn) → chain (map f (turns ++ turn ∷ [])) ≡ chain (map f turns) ++ f turn
chain_more f [] turn = append-nil (f turn)
chain_more f (t ∷ turns) turn = ap (λ l. f t ++ l) (chain_more f turns turn) ∙ sym (append_assoc (f t) (chain (map f turns)) (f turn))

list_more : {X : Type 0} (f : Turn → List X) (turns : List Turn) (turn : Turn) (a b c : List X) → b ≡ a ++ chain (map f turns) → c ≡ b ++ f turn → c ≡ a ++ chain (map f (turns ++ turn ∷ []))
list_more f turns turn a b c e g = g ∙ ap (λ l. l ++ f turn) e ∙ append_assoc a (chain (map f turns)) (f turn) ∙ ap (λ l. a ++ l) (sym (chain_more f turns turn))

rises_more : (turns : List Turn) (turn : Turn) → all_rises (turns ++ turn ∷ []) ≡ all_rises turns + turn.rises
rises_more [] turn = omega arith
rises_more (t ∷ turns) turn = let more = rises_more turns turn in omega (arith, more)

adds_more : (turns : List Turn) (turn : Turn) (a b c : Standing) → Adds (all_turns turns) a b → Adds turn b c → Adds (all_turns (turns ++ turn ∷ [])) a c
adds_more turns turn a b c f g = record {
  left = f.left ∙ ap (prepend_to (chain (map (λ t. t.came) turns))) g.left ∙ prepended_more c.left (chain (map (λ t. t.came) turns)) turn.came ∙ ap (λ l. prepend_to l c.left) (sym (chain_more (λ t. t.came) turns turn));
  back = g.back ∙ ap (λ x. append_to x turn.back) f.back ∙ appended_more a.back (chain (map (λ t. t.back) turns)) turn.back ∙ ap (append_to a.back) (sym (chain_more (λ t. t.back) turns turn));
  later = (let x = f.later in let y = g.later in omega arith);
  rise = (let x = f.rise in let y = g.rise in let z = g.later in let sum = rises_more turns turn in omega (arith, x, y, z, sum));
  posts = list_more (λ t. t.posts) turns turn a.posts b.posts c.posts f.posts g.posts;
  orders = list_more (λ t. t.orders) turns turn a.orders b.orders c.orders f.orders g.orders;
  sides = list_more (λ t. t.sides) turns turn a.sides b.sides c.sides f.sides g.sides;
}

pub ran_none : (Whole : Turn → Type 0) (a : Standing) → RanSoFar Whole a a
ran_none Whole a = record {
  turns = [];
  each = All-nil Whole;
  adds = record { left = prepended_none a.left; back = appended_none a.back; later = omega arith; rise = omega arith; posts = sym (append-nil a.posts); orders = sym (append-nil a.orders); sides = sym (append-nil a.sides) };
}

module _ (Whole Cut : Turn → Type 0) (a b c : Standing) where
  pub ran_more : (is_whole : Bool) → not is_whole ≡ false → RanSoFar Whole a b → Takes Whole Cut b c is_whole → RanSoFar Whole a c
  ran_more is_whole e f g = record {
    turns = f.turns ++ g.turn ∷ [];
    each = All-append Whole f.turns (g.turn ∷ []) f.each (All-cons Whole g.turn [] (g.whole (is_true is_whole e)) (All-nil Whole));
    adds = adds_more f.turns g.turn a b c f.adds g.adds;
  }

  pub ran_cut : (is_whole : Bool) → not is_whole ≡ true → RanSoFar Whole a b → Takes Whole Cut b c is_whole → RanAs Whole Cut a c lane_end.Cut
  ran_cut is_whole e f g = record {
    turns = f.turns;
    last = g.turn ∷ [];
    each = f.each;
    cut = All-cons Cut g.turn [] (g.cut (is_false is_whole e)) (All-nil Cut);
    few = omega arith;
    adds = adds_more f.turns g.turn a b c f.adds g.adds;
    whole = λ h. absurd (h refl);
    torn = λ _. refl;
  }

pub ran_ends : (Whole Cut : Turn → Type 0) (a b : Standing) (end : LaneEnd) → (end ≡ lane_end.Cut → ⊥) → RanSoFar Whole a b → RanAs Whole Cut a b end
ran_ends Whole Cut a b end on f = record {
  turns = f.turns;
  last = [];
  each = f.each;
  cut = All-nil Cut;
  few = omega arith;
  adds = rw (sym (append-nil f.turns)) at f.adds;
  whole = λ _. refl;
  torn = λ e. absurd (on e);
}

abbrev pub stand : Option (List Session) → Option (List Session) → ℕ → List Posted → List Order → List Side → Standing
stand back left faults posts orders sides = record { back = back; left = left; faults = faults; posts = posts; orders = orders; sides = sides }

-- where what is handed back and what is left stay the same
pub stays : (Whole : Turn → Type 0) (a : Standing) (back back' left left' : Option (List Session)) (n m : ℕ) (posts : List Posted) (orders : List Order) (sides : List Side)
    → back' ≡ back → left ≡ left' → n ≤ m → RanSoFar Whole a (stand back left n posts orders sides) → RanSoFar Whole a (stand back' left' m posts orders sides)
stays Whole a back back' left left' n m posts orders sides e g later f = record {
  turns = f.turns;
  each = f.each;
  adds = record {
    left = f.adds.left ∙ ap (prepend_to (chain (map (λ t. t.came) f.turns))) g;
    back = e ∙ f.adds.back;
    later = (let x = f.adds.later in omega (arith, x, later));
    rise = (let x = f.adds.rise in omega (arith, x, later));
    posts = f.adds.posts;
    orders = f.adds.orders;
    sides = f.adds.sides;
  };
}

-- where nothing of what is told changed
pub still : (Whole : Turn → Type 0) (a b b' : Standing) → b'.back ≡ b.back → b.left ≡ b'.left → b.faults ≤ b'.faults → b'.posts ≡ b.posts → b'.orders ≡ b.orders → b'.sides ≡ b.sides → RanSoFar Whole a b → RanSoFar Whole a b'
still Whole a b b' back left later posts orders sides f = record {
  turns = f.turns;
  each = f.each;
  adds = record {
    left = f.adds.left ∙ ap (prepend_to (chain (map (λ t. t.came) f.turns))) left;
    back = back ∙ f.adds.back;
    later = (let x = f.adds.later in omega (arith, x, later));
    rise = (let x = f.adds.rise in omega (arith, x, later));
    posts = posts ∙ f.adds.posts;
    orders = orders ∙ f.adds.orders;
    sides = sides ∙ f.adds.sides;
  };
}
