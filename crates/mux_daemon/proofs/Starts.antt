-- The starts of a berth's lane, by what the lane did and what the deck took of it.
use Rattle.std.proofs.Common.{◌≡◌, ℕ, zero, suc, ◌<◌, ◌⊎◌, inl, inr, Bool, List, [], ◌∷◌, ◌++◌, length, map, slice_get, refl, ap, sym, ◌∙◌, append_assoc, append-nil, subst}
use Rattle.std.specs.Prelude.{Option, Some, None}
use Rattle.outside_io.specs.Sessions.{Session}
use Rattle.mux_history.specs.declared.entry.Entry.{Entry}
use Rattle.lane_lists.specs.declared.item.LaneName.TheVariants as lane
use Rattle.lane_lists.specs.declared.item.Posted.{Posted}
use Rattle.lane_lists.specs.Deeds.{gather, orders, posts, sides}
use Rattle.lane_lists.specs.Sides.{answers}
use Rattle.lane_lists.specs.StartSides.{BeginOnce, start_tagged}
use Rattle.lane_lists.specs.declared.item.Item.{Item}
use Rattle.lane_lists.specs.declared.item.Side.{Side}
use Rattle.lane_lists.specs.declared.item.Side.TheVariants as side
use Rattle.lane_lists.specs.Sessions.{chain}
use Rattle.lane_lists.specs.StartHistory.{ByStartParts, StartPart, tried_by}
use Rattle.lane_lists.specs.StartOrders.{ByStartOrders, ByTried, began}
use Rattle.lane_desk.specs.Desks.{posted_at, side_at}
use Rattle.mux_lanes.specs.Lanes.{Turn}
use Rattle.mux_lanes.specs.Starts.{Begun, CutBegun, WholeStart}
use Rattle.mux_daemon.specs.Served.{LaneServed, Story, history}
use Rattle.mux_daemon.specs.Starts.{BerthStarts, StartBroke, StartFailedAs, StartRan, failed_turn, how, up_turn}
use Rattle.mux_daemon.proofs.Reading.{zip_at}
use Rattle.mux_daemon.proofs.ReadStarts.{Shown, all_kept, no_run, turn_at, up_run}
use Rattle.mux_daemon.proofs.StartSaying.{all_broke, broke_so, once_first}
use Rattle.mux_daemon.proofs.WriteStarts.{ToldAt, all_begun, begun_at, none_start, told_at, written_start}

front_item : (xs ys : List ℕ) (k x : ℕ) → slice_get xs k ≡ Some x → slice_get (xs ++ ys) k ≡ Some x
front_item [] ys k x at = absurd cc
front_item (y ∷ xs) ys zero x at = at
front_item (y ∷ xs) ys (suc k) x at = front_item xs ys k x at

start_served : (Whole : Type 0) (limit servers : ℕ) (history : List Entry) (by : ℕ → List Item) (start : ℕ) (turn : Turn) (part more : List Posted) → StartPart history by start part → turn.posts ≡ part ++ more → Shown Whole limit turn → ToldAt servers history start turn
    → StartFailedAs Whole servers history start turn ⊎ StartRan Whole limit servers history (by start) start turn
start_served Whole limit servers history by start turn part more (inl c) e s f =
    let n = no_run Whole limit history start turn part more c e s in
    let g = none_start limit servers history start n.start turn n.orders n.is f in
    inl (record {
      orders = n.orders;
      is = subst (λ x. turn ≡ failed_turn x n.orders) g.0 n.is;
      says = c.says;
      ends = λ w. let o = n.whole w in let r = g.1 o.0 o.1 in (o.0, o.1, r.0, r.1);
    })
start_served Whole limit servers history by start turn part more (inr c) e s f =
    let r = up_run Whole limit history by start turn part more c e s in
    let w = written_start limit servers history start r.0.start turn r.0.run r.0.is_run r.0.is f in
    inr (record { run = r.0.run; is = subst (λ x. turn ≡ up_turn x r.0.run) w.0 r.0.is; is_run = r.0.is_run; whole = r.0.whole; read = r.1; written = w.1 })

-- a write that failed by what the lane said did so in the turn of its start, also in a last turn that was cut off
broke_in : {B : Type 0} (limit : ℕ) (s : Story) (went : Bool) (i : ℕ) (runs left : B → Option (List Session)) (misses : B → ℕ) (old new : B) → (f : LaneServed s went (lane.Server i) (Begun (WholeStart limit)) (CutBegun limit) runs left misses old new)
    → BeginOnce (orders s.editors s.servers (lane.Server i) s.deeds) → (k : ℕ) (a : (ℕ × ℕ) × Side) → a.1 ≡ side.Broke
    → slice_get (answers (sides s.editors s.servers (lane.Server i) s.deeds) (start_tagged None (orders s.editors s.servers (lane.Server i) s.deeds))) k ≡ Some a → StartBroke (f.ran.turns ++ f.ran.last) a.0.0
broke_in limit s went i runs left misses old new f once k a is at =
    let q = f.queues in
    let turns = f.ran.turns ++ f.ran.last in
    let said = sides s.editors s.servers (lane.Server i) s.deeds in
    let given = orders s.editors s.servers (lane.Server i) s.deeds in
    let sides_are : said ++ (side_at (lane.Server i) s.more ++ q.unsaid) ≡ chain (map (λ (t : Turn). t.sides) turns) = sym (append_assoc said (side_at (lane.Server i) s.more) q.unsaid) ∙ sym q.sides_are ∙ f.ran.adds.sides in
    let taken = chain (map (λ (t : Turn). t.orders) turns) in
    let orders_are : given ≡ taken ++ q.unheard = q.orders_are ∙ ap (λ l. l ++ q.unheard) f.ran.adds.orders in
    let apart : BeginOnce (taken ++ q.unheard) = subst (λ l. BeginOnce l) orders_are once in
    broke_so a.0.0 turns (once_first taken q.unheard apart) (all_broke limit f.ran.turns f.ran.last q.unheard f.ran.each f.ran.cut f.ran.few apart said (side_at (lane.Server i) s.more ++ q.unsaid) k a is sides_are (subst (λ l. slice_get (answers said (start_tagged None l)) k ≡ Some a) orders_are at))

pub berth_starts : {B : Type 0} (limit : ℕ) (s : Story) (went : Bool) (i : ℕ) (runs left : B → Option (List Session)) (misses : B → ℕ) (old new : B) → ByStartParts s.editors s.servers i s.deeds → ByStartOrders s.editors s.servers i s.deeds → ByTried s.editors s.servers i s.deeds
    → LaneServed s went (lane.Server i) (Begun (WholeStart limit)) (CutBegun limit) runs left misses old new → BerthStarts limit s went i runs left misses old new
berth_starts limit s went i runs left misses old new cut told tried f =
    let ran = f.ran in
    let r = all_kept limit ran.turns ran.last ran.each ran.cut ran.few in
    let q = f.queues in
    let ids = gather s.editors s.servers (tried_by (lane.Server i)) s.deeds in
    let begun = began s.servers i (history s) in
    let taken = posts s.editors s.servers (lane.Server i) s.deeds in
    let more = posted_at (lane.Server i) s.more ++ q.unread in
    let whole : taken ++ more ≡ chain (map (λ (t : Turn). t.posts) r.kept) = sym (append_assoc taken (posted_at (lane.Server i) s.more) q.unread) ∙ sym q.posts_are ∙ ran.adds.posts ∙ r.posts in
    let ordered : chain (map (λ (t : Turn). t.orders) (ran.turns ++ ran.last)) ++ q.unheard ≡ chain told.made = ap (λ l. l ++ q.unheard) (sym ran.adds.orders) ∙ sym q.orders_are ∙ told.orders in
    record {
      turns = ran.turns;
      last = ran.last;
      each = ran.each;
      cut = ran.cut;
      one = ran.few;
      whole = λ e. ran.whole (f.whole e);
      back_are = ran.adds.back;
      left_are = ran.adds.left;
      rose = ran.adds.rise;
      start = λ k turn at. begun_at limit s.servers (history s) ran.turns ran.last q.unheard begun told.made ran.each told.each ordered k turn at;
      all = λ e.
          let none = ran.whole (f.whole e) in
          let turns_are : ran.turns ++ ran.last ≡ ran.turns = ap (λ l. ran.turns ++ l) none ∙ append-nil ran.turns in
          let unheard = q.all e in
          all_begun limit s.servers (history s) ran.turns begun told.made ran.each told.each (ap (λ l. chain (map (λ (t : Turn). t.orders) l) ++ []) (sym turns_are) ∙ ap (λ l. chain (map (λ (t : Turn). t.orders) (ran.turns ++ ran.last)) ++ l) (sym unheard) ∙ ordered);
      served = λ k x at.
          let part = zip_at (StartPart (history s) (how s)) ids cut.made cut.each k x at in
          let t = turn_at limit (length ran.turns) (ran.turns ++ ran.last) r taken more cut.made whole cut.cut k part.0 part.1 in
          let here : slice_get begun k ≡ Some x = ap (λ l. slice_get l k) tried.is ∙ front_item ids tried.rest k x at in
          let g = told_at limit s.servers (history s) ran.turns ran.last q.unheard begun told.made ran.each ran.few told.each ordered k x t.turn here t.at in
          (t.turn, t.at, start_served (k < length ran.turns) limit s.servers (history s) (how s) x t.turn part.0 t.more part.2 t.posts t.shown g);
      broke = λ once k x bytes at. broke_in limit s went i runs left misses old new f once k ((x, bytes), side.Broke) refl at;
    }
