-- The ticks of a history are what was posted in the ticker's lane.
use Rattle.std.proofs.Common.{◌≡◌, List, [], ◌∷◌, ◌++◌, if◌then◌else◌, map, refl, sym, ap, ap₂, ◌∙◌, append_assoc, Option}
use Rattle.std.proofs.lemmas.List.{map-append}
use Rattle.mux_history.specs.declared.entry.Entry.{Entry}
use Rattle.mux_history.specs.declared.cause.Cause.TheVariants as cause
use Rattle.lane_lists.specs.declared.item.LaneName.{LaneName}
use Rattle.lane_lists.specs.declared.item.LaneName.TheVariants as lane
use Rattle.lane_lists.specs.declared.item.Posted.TheVariants as posted
use Rattle.lane_lists.specs.declared.item.Item.{Item}
use Rattle.lane_lists.specs.declared.item.Item.TheVariants as item
use Rattle.lane_lists.specs.Seats.{Seats, meaning}
use Rattle.lane_lists.specs.Deeds.{Deed, start, behind, gather_from, same_lane, posted_in, entries_in, posts_by, entries_by, FairFrom, Meant}
use Rattle.lane_lists.specs.Origins.{TicksPosted, tick_in, ticks_of}
use Rattle.lane_lists.proofs.Moves.{by_editor, means, stray}
use Rattle.lane_lists.proofs.StartMoves.{by_try}

pub ticks_append : (a b : List Entry) → ticks_of (a ++ b) ≡ ticks_of a ++ ticks_of b
ticks_append [] b = refl
ticks_append (en ∷ a) b = ap (λ l. tick_in en.cause ++ l) (ticks_append a b) ∙ sym (append_assoc (tick_in en.cause) (ticks_of a) (ticks_of b))

-- what an entry has of ticks
abbrev Silent : Option Entry → Type 0
Silent entry = [] ≡ map posted.Tick (ticks_of (entries_in entry))

ticked : (seats : Seats) (x : Item) (entry : Option Entry) → Meant (meaning seats lane.Ticker x) entry → posted_in x ≡ map posted.Tick (ticks_of (entries_in entry))
ticked seats (item.Posted (posted.Tick t)) entry m = means (cause.Tick t) (λ e. posted.Tick t ∷ [] ≡ map posted.Tick (ticks_of (entries_in e))) entry (λ outs. refl) m
ticked seats (item.Posted posted.Link) entry m = stray (λ e. posted.Link ∷ [] ≡ map posted.Tick (ticks_of (entries_in e))) entry m
ticked seats (item.Posted posted.Up) entry m = stray (λ e. posted.Up ∷ [] ≡ map posted.Tick (ticks_of (entries_in e))) entry m
ticked seats (item.Posted posted.NoStart) entry m = stray (λ e. posted.NoStart ∷ [] ≡ map posted.Tick (ticks_of (entries_in e))) entry m
ticked seats (item.Posted (posted.Body body)) entry m = stray (λ e. posted.Body body ∷ [] ≡ map posted.Tick (ticks_of (entries_in e))) entry m
ticked seats (item.Posted (posted.Ended w)) entry m = stray (λ e. posted.Ended w ∷ [] ≡ map posted.Tick (ticks_of (entries_in e))) entry m
ticked seats (item.Side s) entry m = stray (λ e. [] ≡ map posted.Tick (ticks_of (entries_in e))) entry m

one_tick : (seats : Seats) (l : LaneName) (x : Item) (entry : Option Entry) → Meant (meaning seats l x) entry → (if same_lane lane.Ticker l then posted_in x else []) ≡ map posted.Tick (ticks_of (entries_in entry))
one_tick seats lane.Ticker x entry m = ticked seats x entry m
one_tick seats (lane.Editor j) x entry m =
    by_editor seats.joined (λ y e now tail. Silent e)
    (record { link = λ outs. refl; word = λ e tail body outs. refl; over = λ e tail w outs real. refl; broke = λ e tail outs. refl; drained = λ e k tail outs. refl; idle = λ s now tail. refl; late = λ body. refl; late_end = λ w. refl })
    seats j x entry refl m
one_tick seats (lane.Server j) x entry m =
    by_try (λ y e now up tail. Silent e)
    (record { up = λ s outs. refl; failed = λ s outs. refl; word = λ s tail body outs. refl; over = λ s tail w outs real. refl; broke = λ s tail outs. refl; idle = λ s now up tail. refl; late = λ body now up h. refl; late_end = λ w now up h. refl })
    seats j x entry m

ticks_from : (deeds : List Deed) (seats : Seats) → FairFrom seats deeds → gather_from (posts_by lane.Ticker) seats deeds ≡ map posted.Tick (ticks_of (gather_from entries_by seats deeds))
ticks_from [] seats fair = refl
ticks_from (d ∷ deeds) seats fair =
    let rest = gather_from entries_by (behind seats d) deeds in
    ap₂ (λ x y. x ++ y) (one_tick seats d.lane d.item d.entry fair.0) (ticks_from deeds (behind seats d) fair.1)
    ∙ sym (map-append posted.Tick (ticks_of (entries_in d.entry)) (ticks_of rest)) ∙ ap (λ l. map posted.Tick l) (sym (ticks_append (entries_in d.entry) rest))

pub ticks_posted : TicksPosted
ticks_posted n m deeds fair = ticks_from deeds (start n m) fair
