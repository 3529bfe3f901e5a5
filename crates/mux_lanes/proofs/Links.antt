-- What the session of a link adds.
use Rattle.std.proofs.Common.{◌≤◌, ◌≡◌, ◌↔◌, ℕ, List, [], ◌∷◌, ◌++◌, Bool, true, false, length, replicate, refl, sym, ap, ◌∙◌, arith, append_assoc, append-nil}
use Rattle.outside_io.specs.Sessions.{Session}
use Rattle.outside_io.specs.Told.{append_to, prepend_to}
use Rattle.lane_lists.specs.declared.item.Order.{Order}
use Rattle.lane_lists.specs.declared.item.Posted.{Posted}
use Rattle.lane_lists.specs.declared.item.Side.{Side}
use Rattle.lane_lists.specs.declared.item.Side.TheVariants as side
use Rattle.session_io.specs.declared.read.Stop.{Stop}
use Rattle.session_io.specs.declared.write.Wrote.{Wrote}
use Rattle.session_io.specs.Reads.{ReadAs, bodies, end_items, why_of}
use Rattle.session_io.specs.Writes.{WroteAs, body_orders, broken, end_orders}
use Rattle.mux_lanes.specs.Runs.{Run, IsRun, IsWhole}
use Rattle.mux_lanes.specs.Lanes.{Standing, Takes, WholeLink, CutLink, linked, unlinked, ran, refused}

module _ (first : Posted) (limit : ℕ) (began ended : Session) (posts posts' : List Posted) (orders orders' : List Order) (sides sides' : List Side) (stop : Stop) (wrote : Wrote)
    (read : ReadAs limit began.read ended.read ended.left began.source_faults ended.source_faults posts posts' stop)
    (written : WroteAs began.written ended.written began.sink_faults ended.sink_faults orders orders' sides sides' wrote) where
  abbrev pub run_of : Run
  run_of = record {
    began = began;
    ended = ended;
    posts = bodies read.given ++ end_items (why_of stop);
    orders = body_orders (written.whole ++ written.others) ++ end_orders wrote.end;
    sides = replicate (length written.whole) side.Wrote ++ broken wrote.broke;
    stop = stop;
    wrote = wrote;
  }

  pub is_run : IsRun limit run_of
  is_run = record {
    read = record { fed = read.fed; given = read.given; lost = read.lost; rest = read.rest; read = read.read; splits = read.splits; posted = refl; stopped = read.stopped };
    wrote = record {
      whole = written.whole;
      others = written.others;
      part = written.part;
      rest = written.rest;
      took = refl;
      wrote = written.wrote;
      front = written.front;
      all = written.all;
      items = refl;
      failing = written.failing;
      fault = written.fault;
      ends = written.ends;
      no_body = written.no_body;
      later = written.later;
    };
  }

  pub link_ran : (before after : Standing) (is_whole : Bool) → posts ≡ before.posts ++ first ∷ [] → after.posts ≡ posts' → before.orders ≡ orders → after.orders ≡ orders' → before.sides ≡ sides → after.sides ≡ sides'
      → after.back ≡ append_to before.back (ended ∷ []) → after.left ≡ before.left → before.faults ≤ after.faults → (is_whole ≡ true) ↔ IsWhole stop wrote → Takes (WholeLink first limit) (CutLink first limit) (record before { left = prepend_to (began ∷ []) before.left }) after is_whole
  link_ran before after is_whole linked_before p o o' s s' back left later whole = record {
    turn = linked first run_of;
    adds = record {
      left = ap (prepend_to (began ∷ [])) (sym left);
      back = back;
      later = later;
      rise = omega (arith, later);
      posts = p ∙ read.posted ∙ ap (λ l. l ++ run_of.posts) linked_before ∙ append_assoc before.posts (first ∷ []) run_of.posts;
      orders = o' ∙ written.took ∙ ap (λ l. l ++ run_of.orders) (sym o);
      sides = s' ∙ written.items ∙ ap (λ l. l ++ run_of.sides) (sym s);
    };
    whole = λ e. record { run = run_of; is_run = is_run; is_whole = whole.0 e; is = refl };
    cut = λ e. ran run_of is_run (λ w. (let t = whole.1 w in absurd cc)) refl;
  }

pub link_refused : (first : Posted) (limit : ℕ) (came : Session) (before after : Standing) → after.posts ≡ before.posts → after.orders ≡ before.orders → after.sides ≡ before.sides → after.back ≡ append_to before.back (came ∷ []) → after.left ≡ before.left → before.faults ≤ after.faults
    → Takes (WholeLink first limit) (CutLink first limit) (record before { left = prepend_to (came ∷ []) before.left }) after false
link_refused first limit came before after p o s back left later = record {
  turn = unlinked came;
  adds = record { left = ap (prepend_to (came ∷ [])) (sym left); back = back; later = later; rise = omega (arith, later); posts = p ∙ sym (append-nil before.posts); orders = o ∙ sym (append-nil before.orders); sides = s ∙ sym (append-nil before.sides) };
  whole = λ e. absurd cc;
  cut = λ _. refused came refl;
}
