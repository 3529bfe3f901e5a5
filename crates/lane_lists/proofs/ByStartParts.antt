-- The cut before each Up and each NoStart gives the sessions of the starts that were tried, and the cut before each Begin the orders of those that began.
use Rattle.std.proofs.Common.{◌≡◌, ℕ, zero, suc, List, [], ◌∷◌, ◌++◌, map, slice_get, refl, sym, ap, ◌∙◌, subst, ⊎_elim, arith}
use Rattle.std.specs.declared.option.Option.TheVariants.{Some}
use Rattle.mux_history.specs.declared.entry.Entry.{Entry}
use Rattle.lane_lists.specs.declared.item.LaneName.TheVariants as lane
use Rattle.lane_lists.specs.declared.item.Posted.{Posted}
use Rattle.lane_lists.specs.declared.item.Posted.TheVariants as posted
use Rattle.lane_lists.specs.Sessions.{parts, IsSession}
use Rattle.lane_lists.specs.declared.item.Order.{Order}
use Rattle.lane_lists.specs.declared.item.Order.TheVariants as order
use Rattle.lane_lists.specs.Deeds.{start, entries, gather}
use Rattle.lane_lists.specs.History.{AllZip, Late, Mark, Enters, Told, Closed, Leaves, entered, end_until}
use Rattle.lane_lists.specs.StartHistory.{tried_by, went, GoneBy, Failed, CameUp, StartPart, is_tried, StartParts}
use Rattle.lane_lists.specs.StartHistory as starts
use Rattle.lane_lists.specs.declared.item.Item.{Item}
use Rattle.lane_lists.specs.StartOrders.{start_marks, bodies_to_start, end_to_start, began, OrdersOf, is_begin, StartOrderParts}
use Rattle.lane_lists.proofs.Parts.{parts_made}
use Rattle.lane_lists.proofs.ByParts.{Free, free_none, free_more, free_append, free_map, free_late}
use Rattle.lane_lists.proofs.ByStart.{by_start_sessions}
use Rattle.lane_lists.proofs.OrderStarts.{by_start_orders}

failed_session : (history : List Entry) (s : ℕ) (part : List Posted) → Failed history s part → IsSession is_tried part
failed_session history s part f = record { first = posted.NoStart; rest = []; is = f.is; begun = refl; none = free_none is_tried }

gone_late : (by : List Item) (rest : List Posted) → GoneBy by rest → Late rest
gone_late by rest (starts.ended w real is e) = record { bodies = []; ends = w ∷ []; is = e; one = omega arith }
gone_late by rest (starts.broke is l) = l

up_session : (history : List Entry) (by : ℕ → List Item) (s : ℕ) (part : List Posted) → CameUp history by s part → IsSession is_tried part
up_session history by s part u =
    let h = u.heard in
    let rest : Free is_tried h.rest = ⊎_elim (λ e. subst (λ l. Free is_tried l) (sym e.1) (free_none is_tried)) (λ e. free_late is_tried (λ b. refl) (λ w. refl) h.rest (gone_late (by s) h.rest e.1)) h.ends in
    let items : Free is_tried u.items = subst (λ l. Free is_tried l) (sym h.is) (free_append is_tried (map posted.Body h.bodies) h.rest (free_map is_tried posted.Body (λ b. refl) h.bodies) rest) in
    record { first = posted.Up; rest = u.items; is = u.is; begun = refl; none = items }

all_sessions : (history : List Entry) (by : ℕ → List Item) (ids : List ℕ) (made : List (List Posted)) → AllZip (StartPart history by) ids made → (k : ℕ) (part : List Posted) → slice_get made k ≡ Some part → IsSession is_tried part
all_sessions history by [] [] z k part e = absurd cc
all_sessions history by [] (p ∷ made) z k part e = absurd cc
all_sessions history by (n ∷ ids) [] z k part e = absurd cc
all_sessions history by (n ∷ ids) (p ∷ made) z zero part e = let same : p ≡ part = cc in subst (λ l. IsSession is_tried l) same (⊎_elim (λ f. failed_session history n p f) (λ u. up_session history by n p u) z.0)
all_sessions history by (n ∷ ids) (p ∷ made) z (suc k) part e = all_sessions history by ids made z.1 k part e

pub by_start_parts : StartParts
by_start_parts n m i deeds within fair once =
    let b = by_start_sessions n m i deeds within fair once in record {
      made = b.made;
      cut = ap (λ l. parts is_tried l) b.posts ∙ parts_made is_tried [] b.made (all_sessions (entries n m deeds) (went n m deeds) (gather n m (tried_by (lane.Server i)) deeds) b.made b.each);
      each = b.each;
    }

free_end : (ms : List Mark) → Free is_begin (end_until ms)
free_end [] = free_none is_begin
free_end (Enters ∷ ms) = free_end ms
free_end (Told body ∷ ms) = free_end ms
free_end (Closed ∷ ms) = free_more is_begin order.Close [] refl (free_none is_begin)
free_end (Leaves ∷ ms) = free_more is_begin order.Done [] refl (free_none is_begin)

orders_session : (m : ℕ) (history : List Entry) (s : ℕ) (part : List Order) → OrdersOf m history s part → IsSession is_begin part
orders_session m history s part o = record {
  first = order.Begin s;
  rest = map order.Body (bodies_to_start m s history) ++ end_to_start m s history;
  is = o;
  begun = refl;
  none = free_append is_begin (map order.Body (bodies_to_start m s history)) (end_to_start m s history) (free_map is_begin order.Body (λ b. refl) (bodies_to_start m s history)) (free_end (entered (start_marks s (start 0 m) history)));
}

all_orders_sessions : (m : ℕ) (history : List Entry) (ids : List ℕ) (made : List (List Order)) → AllZip (OrdersOf m history) ids made → (k : ℕ) (part : List Order) → slice_get made k ≡ Some part → IsSession is_begin part
all_orders_sessions m history [] [] z k part e = absurd cc
all_orders_sessions m history [] (p ∷ made) z k part e = absurd cc
all_orders_sessions m history (n ∷ ids) [] z k part e = absurd cc
all_orders_sessions m history (n ∷ ids) (p ∷ made) z zero part e = let same : p ≡ part = cc in subst (λ l. IsSession is_begin l) same (orders_session m history n p z.0)
all_orders_sessions m history (n ∷ ids) (p ∷ made) z (suc k) part e = all_orders_sessions m history ids made z.1 k part e

pub by_start_order_parts : StartOrderParts
by_start_order_parts n m i deeds within fair once =
    let b = by_start_orders n m i deeds within fair once in record {
      made = b.made;
      cut = ap (λ l. parts is_begin l) b.orders ∙ parts_made is_begin [] b.made (all_orders_sessions m (entries n m deeds) (began m i (entries n m deeds)) b.made b.each);
      each = b.each;
    }
