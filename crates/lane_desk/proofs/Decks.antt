-- A deck that has done nothing, and one that goes on no more.
use Rattle.std.proofs.Common.{◌≡◌, ℕ, ◌≤◌, Bool, true, false, not, List, [], ◌++◌, refl, sym, ap, arith, Option, Some, None}
use Rattle.outside_io.specs.Faults.{Rose}
use Rattle.mux_history.specs.declared.entry.Entry.{Entry}
use Rattle.mux_steps.specs.declared.fault.StepFault.{StepFault}
use Rattle.mux_steps.specs.declared.fault.StepFault.TheVariants as fault
use Rattle.lane_lists.specs.Seats.{Seats}
use Rattle.lane_lists.specs.Deeds.{start}
use Rattle.lane_queue.specs.Ends.{HubSide}
use Rattle.lane_desk.specs.Desks.{AllUnused, Faulted, Kept}
use Rattle.lane_desk.proofs.Turns.{kept_over}

pub kept_new : {K : Type 0} (stands : K → List Entry → Type 0) (too_many : List Entry → Type 0) (n m : ℕ) (core : K) (ends : List HubSide) (seats : Seats) → stands core [] → AllUnused ends → seats ≡ start n m → Kept stands too_many n m true false None core ends seats
kept_new stands too_many n m core ends seats s u e = record {
  deeds = [];
  fair = tt;
  lanes = tt;
  own_last = λ e. absurd cc;
  stands_for = s;
  once = λ x. omega arith;
  numbers = λ e. absurd cc;
  more = None;
  none_more = λ _. refl;
  ends_are = λ i x at. let w = u i x at in record { posted = w.posted; sides = w.sides; rest = []; pushed = sym (ap (λ ys. ys ++ []) w.pushed); whole = λ _. refl };
  seats_are = λ _. e;
}

pub kept_fail : {K : Type 0} (stands : K → List Entry → Type 0) (too_many : List Entry → Type 0) (n m : ℕ) (spent last : Bool) (why : Option StepFault) (core : K) (ends : List HubSide) (seats : Seats)
    → Kept stands too_many n m (not spent) last why core ends seats → Kept stands too_many n m false last why core ends seats
kept_fail stands too_many n m true last why core ends seats k = k
kept_fail stands too_many n m false last why core ends seats k = kept_over stands too_many n m last why core ends seats seats k

pub rose_from : (before now last : ℕ) → before ≤ now → Rose now last → Rose before last
rose_from before now last h r = omega arith

-- a step more
pub faulted_more : (before now last : ℕ) (had spent : Bool) (was why : Option StepFault) → Faulted before now had was → now ≤ last → (why ≡ Some fault.Journal → Rose now last) → ((f : StepFault) → why ≡ Some f → spent ≡ true) → Faulted before last spent why
faulted_more before now last had spent was why f l j o = record { later = (let a = f.later in omega arith); journal = λ e. rose_from before now last f.later (j e); over = o }
