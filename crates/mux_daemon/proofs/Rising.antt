-- The editors of a lane are greater from session to session.
use Rattle.std.proofs.Common.{ℕ, ◌+◌, ◌==◌, ◌≤◌, List, [], ◌∷◌, ◌++◌, true, false, if◌then◌else◌, refl, arith}
use Rattle.std.specs.Prelude.{⊤}
use Rattle.std.specs.declared.option.Option.{Option}
use Rattle.std.specs.declared.option.Option.TheVariants.{Some, None}
use Rattle.mux_history.specs.declared.entry.Entry.{Entry}
use Rattle.mux_history.specs.declared.cause.Cause.TheVariants as cause
use Rattle.mux_history.specs.declared.cause.Why.TheVariants as why
use Rattle.lane_lists.specs.declared.item.LaneName.{LaneName}
use Rattle.lane_lists.specs.declared.item.LaneName.TheVariants as lane
use Rattle.lane_lists.specs.declared.item.Posted.TheVariants as posted
use Rattle.lane_lists.specs.declared.item.Side.TheVariants as side
use Rattle.lane_lists.specs.declared.item.Item.{Item}
use Rattle.lane_lists.specs.declared.item.Item.TheVariants as item
use Rattle.lane_lists.specs.Seats.{Seats, meaning}
use Rattle.lane_lists.specs.Deeds.{Deed, Fair, FairFrom, Meant, behind, gather_from, same_lane, session_in, sessions, sessions_by, start}
use Rattle.lane_lists.proofs.Moves.{acted, by_editor, did}
use Rattle.lane_lists.proofs.BySession.{step}

-- each is greater than those before it, and none is below the first number
abbrev pub Rise : ℕ → List ℕ → Type 0
Rise m [] = ⊤
Rise m (e ∷ es) = (m ≤ e) × Rise (e + 1) es

rise_up : (m n : ℕ) (es : List ℕ) → m ≤ n → Rise n es → Rise m es
rise_up m n [] h r = tt
rise_up m n (e ∷ es) h r = (let a = r.0 in omega (arith, a, h), r.1)

module _ (i : ℕ) (seats : Seats) (rest : List ℕ) where
  abbrev after : LaneName → Item → Option Entry → ℕ
  after l x entry = (behind seats (did l x entry)).joined

  same : (l : LaneName) (x : Item) (entry : Option Entry) → Meant (meaning seats l x) entry → Rise (after l x entry) rest → Rise seats.joined rest
  same l x entry m r = rise_up seats.joined (after l x entry) rest (step seats l x entry m).up r

  one_deed : (l : LaneName) (x : Item) (entry : Option Entry) → Meant (meaning seats l x) entry → Rise (after l x entry) rest → Rise seats.joined ((if same_lane (lane.Editor i) l then session_in (lane.Editor i) entry else []) ++ rest)
  one_deed (lane.Server j) x entry m r = same (lane.Server j) x entry m r
  one_deed lane.Ticker x entry m r = same lane.Ticker x entry m r
  one_deed (lane.Editor j) x entry m r = elim (i == j) as (λ b. Rise seats.joined ((if b then session_in (lane.Editor i) entry else []) ++ rest)) [
    | true ↦ by_editor seats.joined (λ x en now tail. Meant (meaning seats (lane.Editor j) x) en → Rise (after (lane.Editor j) x en) rest → Rise seats.joined (session_in (lane.Editor i) en ++ rest)) (record {
      link = λ outs m r.
          let c = cause.Joined seats.joined in
          let count = (acted seats j (item.Posted posted.Link) c outs).joined in
          (omega arith, rise_up (seats.joined + 1) (after (lane.Editor j) (item.Posted posted.Link) (Some (record { cause = c; outs = outs }))) rest (omega (arith, count)) r);
      word = λ e tail body outs m r. same (lane.Editor j) (item.Posted (posted.Body body)) (Some (record { cause = cause.FromEditor e body; outs = outs })) m r;
      over = λ e tail w outs real m r. same (lane.Editor j) (item.Posted (posted.Ended w)) (Some (record { cause = cause.EditorGone e w; outs = outs })) m r;
      broke = λ e tail outs m r. same (lane.Editor j) (item.Side side.Broke) (Some (record { cause = cause.EditorGone e why.WriteFault; outs = outs })) m r;
      drained = λ e k tail outs m r. same (lane.Editor j) (item.Side side.Wrote) (Some (record { cause = cause.Drained e k; outs = outs })) m r;
      idle = λ s now tail m r. same (lane.Editor j) (item.Side s) None m r;
      late = λ body m r. same (lane.Editor j) (item.Posted (posted.Body body)) None m r;
      late_end = λ w m r. same (lane.Editor j) (item.Posted (posted.Ended w)) None m r;
    }) seats j x entry refl m m r
    | false ↦ same (lane.Editor j) x entry m r
  ]

rise_from : (i : ℕ) (deeds : List Deed) (seats : Seats) → FairFrom seats deeds → Rise seats.joined (gather_from (sessions_by (lane.Editor i)) seats deeds)
rise_from i [] seats fair = tt
rise_from i (d ∷ deeds) seats fair = one_deed i seats (gather_from (sessions_by (lane.Editor i)) (behind seats d) deeds) d.lane d.item d.entry fair.0 (rise_from i deeds (behind seats d) fair.1)

pub rising : (n m i : ℕ) (deeds : List Deed) → Fair n m deeds → Rise 0 (sessions n m (lane.Editor i) deeds)
rising n m i deeds fair = rise_from i deeds (start n m) fair
