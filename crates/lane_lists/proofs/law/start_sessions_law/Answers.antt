use Rattle.lane_lists.proofs.ByStart.{by_start_sessions}
use Rattle.lane_lists.proofs.ByStartParts.{by_start_parts, by_start_order_parts}
use Rattle.lane_lists.proofs.OrderStarts.{by_start_orders}
use Rattle.lane_lists.proofs.TriedStarts.{starts_tried}
use Rattle.lane_lists.proofs.law.start_sessions_law.Goals as goal

pub returns-clause-posts : goal.returns-clause-posts
returns-clause-posts c n m i deeds within fair once = by_start_sessions n m i deeds within fair once

pub returns-clause-cut : goal.returns-clause-cut
returns-clause-cut c n m i deeds within fair once = by_start_parts n m i deeds within fair once

pub returns-clause-orders : goal.returns-clause-orders
returns-clause-orders c n m i deeds within fair once = by_start_orders n m i deeds within fair once

pub returns-clause-orders_cut : goal.returns-clause-orders_cut
returns-clause-orders_cut c n m i deeds within fair once = by_start_order_parts n m i deeds within fair once

pub returns-clause-tried : goal.returns-clause-tried
returns-clause-tried c n m i deeds within fair once = starts_tried n m i deeds within fair once
