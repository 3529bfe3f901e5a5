-- The sessions of a port's lane, by what the lane did and what the deck took of it.
use Rattle.std.proofs.Common.{◌≡◌, ℕ, Bool, List, ◌∷◌, ◌++◌, map, slice_get, ap, sym, ◌∙◌, subst, append_assoc}
use Rattle.std.specs.Prelude.{Option, Some}
use Rattle.outside_io.specs.Sessions.{Session}
use Rattle.outside_io.specs.Told.{append_to, prepend_to}
use Rattle.lane_lists.specs.declared.item.LaneName.TheVariants as lane
use Rattle.lane_lists.specs.declared.item.Posted.TheVariants as posted
use Rattle.lane_lists.specs.declared.item.Side.{Side}
use Rattle.lane_lists.specs.Deeds.{Fair, orders, posts, sessions, sides}
use Rattle.lane_lists.specs.Sides.{answers, tagged}
use Rattle.lane_lists.specs.History.{ByOrders, ByParts, SessionOf}
use Rattle.lane_desk.specs.Desks.{posted_at, side_at}
use Rattle.mux_lanes.specs.Runs.{Run}
use Rattle.mux_lanes.specs.Lanes.{CutLink, WholeLink}
use Rattle.mux_daemon.specs.Served.{LaneServed, Story, history}
use Rattle.mux_daemon.specs.Sessions.{PortSessions, SaidBy}
use Rattle.lane_lists.specs.Sessions.{chain}
use Rattle.mux_daemon.proofs.Reading.{all_runs, front_at, read_of, run_at, whole_at, zip_at}
use Rattle.mux_daemon.proofs.EndSessions.{AllEnd}
use Rattle.mux_daemon.proofs.Rising.{rising}
use Rattle.mux_daemon.proofs.Saying.{all_said}
use Rattle.mux_daemon.proofs.Writing.{has_editor, written_at}

-- what was said of a body was said in its editor's session, also in a last one that was cut off
said_by : {P : Type 0} (limit : ℕ) (s : Story) (went : Bool) (i : ℕ) (back left : P → Option (List Session)) (faults : P → ℕ) (old new : P) → Fair s.editors s.servers s.deeds
    → (f : LaneServed s went (lane.Editor i) (WholeLink posted.Link limit) (CutLink posted.Link limit) back left faults old new) → (k : ℕ) (a : (ℕ × ℕ) × Side)
    → slice_get (answers (sides s.editors s.servers (lane.Editor i) s.deeds) (tagged (sessions s.editors s.servers (lane.Editor i) s.deeds) (orders s.editors s.servers (lane.Editor i) s.deeds))) k ≡ Some a
    → SaidBy (sessions s.editors s.servers (lane.Editor i) s.deeds) (all_runs limit f.ran.turns f.ran.last f.ran.each f.ran.cut f.ran.few).runs a.0.0 a.0.1 a.1
said_by limit s went i back left faults old new fair f k a at =
    let r = all_runs limit f.ran.turns f.ran.last f.ran.each f.ran.cut f.ran.few in
    let q = f.queues in
    let ids = sessions s.editors s.servers (lane.Editor i) s.deeds in
    let said = sides s.editors s.servers (lane.Editor i) s.deeds in
    let sides_are : said ++ (side_at (lane.Editor i) s.more ++ q.unsaid) ≡ chain (map (λ (r : Run). r.sides) r.runs) = sym (append_assoc said (side_at (lane.Editor i) s.more) q.unsaid) ∙ sym q.sides_are ∙ f.ran.adds.sides ∙ r.sides in
    let orders_are : orders s.editors s.servers (lane.Editor i) s.deeds ≡ chain (map (λ (r : Run). r.orders) r.runs) ++ q.unheard = q.orders_are ∙ ap (λ l. l ++ q.unheard) (f.ran.adds.orders ∙ r.orders) in
    all_said limit 0 ids r.runs q.unheard r.each r.front (rising s.editors s.servers i s.deeds fair) said (side_at (lane.Editor i) s.more ++ q.unsaid) k a sides_are (subst (λ os. slice_get (answers said (tagged ids os)) k ≡ Some a) orders_are at)

pub port_sessions : {P : Type 0} (limit : ℕ) (s : Story) (went : Bool) (i : ℕ) (back left : P → Option (List Session)) (faults : P → ℕ) (old new : P) → Fair s.editors s.servers s.deeds → ByParts s.editors s.servers i s.deeds → ByOrders s.editors s.servers i s.deeds → AllEnd (history s) (sessions s.editors s.servers (lane.Editor i) s.deeds)
    → LaneServed s went (lane.Editor i) (WholeLink posted.Link limit) (CutLink posted.Link limit) back left faults old new → PortSessions limit s went i back left old new
port_sessions limit s went i back left faults old new fair cut told ends f =
    let r = all_runs limit f.ran.turns f.ran.last f.ran.each f.ran.cut f.ran.few in
    let q = f.queues in
    let taken = posts s.editors s.servers (lane.Editor i) s.deeds in
    let more = posted_at (lane.Editor i) s.more ++ q.unread in
    let whole : taken ++ more ≡ chain (map (λ (r : Run). posted.Link ∷ r.posts) r.runs) =
    sym (append_assoc taken (posted_at (lane.Editor i) s.more) q.unread) ∙ sym q.posts_are ∙ f.ran.adds.posts ∙ r.posts in
    let ordered : chain (map (λ (r : Run). r.orders) r.runs) ++ q.unheard ≡ chain told.made = ap (λ l. l ++ q.unheard) (sym r.orders ∙ sym f.ran.adds.orders) ∙ sym q.orders_are ∙ told.orders in
    record {
      runs = r.runs;
      refused = r.refused;
      one = r.one;
      back_are = f.ran.adds.back ∙ ap (λ l. append_to (back old) l) r.back;
      left_are = f.ran.adds.left ∙ ap (λ l. prepend_to l (left new)) r.came;
      each = r.each;
      front = λ k run h at. front_at r.runs r.front k run h at;
      whole = λ e. let w = r.whole (f.ran.whole (f.whole e)) in (w.0, λ k run at. whole_at r.runs w.1 k run at);
      editor = λ k run at whole. has_editor limit (history s) r.runs q.unheard (sessions s.editors s.servers (lane.Editor i) s.deeds) told.made r.each r.front told.each ends ordered k run at whole;
      served = λ k e at.
          let part = zip_at (λ e part. SessionOf (history s) e part) (sessions s.editors s.servers (lane.Editor i) s.deeds) cut.made cut.each k e at in
          let run = run_at limit r.runs taken more cut.made r.each whole cut.cut k part.0 part.1 in
          (run.0, run.1, read_of limit (history s) e run.0 part.0 run.2.0 (r.each k run.0 run.1) part.2 run.2.1, written_at limit (history s) r.runs q.unheard (sessions s.editors s.servers (lane.Editor i) s.deeds) told.made r.each r.front told.each ends ordered k e run.0 at run.1);
      said = λ k n bytes what at. said_by limit s went i back left faults old new fair f k ((n, bytes), what) at;
    }
