-- A sink that was closed behind its session.
use Rattle.std.proofs.Common.{◌≡◌, ℕ, ◌≤◌, List, ◌∙◌, arith}
use Rattle.std.specs.Prelude.{Option}
use Rattle.outside_io.specs.Faults.{Rose}
use Rattle.lane_lists.specs.declared.item.Order.{Order}
use Rattle.lane_lists.specs.declared.item.Side.{Side}
use Rattle.session_io.specs.declared.write.Wrote.{Wrote}
use Rattle.session_io.specs.Writes.{WroteAs}

pub rose_later : (a b n m : ℕ) → a ≤ b → n ≤ m → Rose b n → Rose a m
rose_later a b n m first last rose = omega (arith, first, last, rose)

pub closed_behind : (w w' w'' : Option (List ℕ)) (b n m : ℕ) (taken taken' : List Order) (sides sides' : List Side) (x : Wrote) → WroteAs w w' b n taken taken' sides sides' x → w'' ≡ w' → n ≤ m → WroteAs w w'' b m taken taken' sides sides' x
closed_behind w w' w'' b n m taken taken' sides sides' x f e later = record {
  whole = f.whole;
  others = f.others;
  part = f.part;
  rest = f.rest;
  took = f.took;
  wrote = e ∙ f.wrote;
  front = f.front;
  all = f.all;
  items = f.items;
  failing = f.failing;
  fault = λ h. (let r = f.fault h in omega (arith, r, later));
  ends = f.ends;
  no_body = f.no_body;
  later = (let a = f.later in omega (arith, a, later));
}
