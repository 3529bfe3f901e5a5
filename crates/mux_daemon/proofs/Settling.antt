-- Lanes that are settled one by one, from the last.
use Rattle.std.proofs.Common.{◌≡◌, ℕ, zero, suc, ◌<◌, ◌≤◌, ◌+◌, ◌-◌, ◌⊎◌, inl, inr, Bool, true, false, ◌&&◌, List, length, slice_get, slice_set, Some, refl, ap, sym, ◌∙◌, subst, arith}
use Rattle.std.proofs.lemmas.Option.{slice_get_within}
use Rattle.lane_queue.specs.Ends.{HubSide}
use Rattle.mux_lanes.specs.declared.session.Ends.{Ends}
use Rattle.mux_serve.specs.declared.job.LaneJob.{LaneJob}
use Rattle.mux_daemon.specs.declared.open.Lanes.{Lanes}
use Rattle.mux_daemon.specs.Opens.{IsPair, SameOutsides}
use Rattle.mux_daemon.specs.Settles.{ArePairs, AreSettled, IsSettled, LanesPaired, LanesSettled}
use Rattle.mux_daemon.proofs.Places.{get_set, get_there, same_item}
use Rattle.mux_daemon.proofs.Opening.{same_more, same_none}

both_left : (a b : Bool) → (a && b) ≡ true → a ≡ true
both_left true b e = refl
both_left false b e = absurd cc

both_right : (a b : Bool) → (a && b) ≡ true → b ≡ true
both_right true b e = e
both_right false b e = absurd cc

pub fewer : (ends : Ends) (hub : HubSide) (a b : Bool) → (b ≡ true → a ≡ true) → IsSettled ends hub a → IsSettled ends hub b
fewer ends hub a b f s = record { unread = s.unread; posted = s.posted; unsaid = s.unsaid; said = s.said; unheard = s.unheard; ordered = s.ordered; none = λ e. s.none (f e) }

at_or_above : (at i : ℕ) → at ≤ i → (at + 1 ≤ i) ⊎ (i ≡ at)
at_or_above zero zero h = inr refl
at_or_above zero (suc i) h = inl (omega arith)
at_or_above (suc at) zero h = absurd (omega arith)
at_or_above (suc at) (suc i) h = elim (at_or_above at i (omega arith)) [ inl t ↦ inl (omega (arith, t)) | inr t ↦ inr (ap suc t) ]

pub still : (hubs0 hubs : List HubSide) → ((i : ℕ) (hub : HubSide) → slice_get hubs i ≡ Some hub → slice_get hubs0 i ≡ Some hub) → (k : ℕ) (hub : HubSide) → slice_get hubs0 k ≡ Some hub → k < length hubs → slice_get hubs k ≡ Some hub
still hubs0 hubs front k hub at h =
    let there = get_there hubs k h in
    let same : there.0 ≡ hub = same_item there.0 hub (sym (front k there.0 there.1) ∙ at) in
    subst (λ x. slice_get hubs k ≡ Some x) same there.1

module _ {P : Type 0} where
  pub record SettledSoFar (done : ℕ) (jobs0 jobs : List (LaneJob P)) (hubs0 hubs : List HubSide) (none : Bool) : Type 0 where
    pub same : SameOutsides jobs0 jobs
    pub left : length hubs + done ≡ length hubs0
    pub front : (i : ℕ) (hub : HubSide) → slice_get hubs i ≡ Some hub → slice_get hubs0 i ≡ Some hub
    pub kept : (i : ℕ) (job : LaneJob P) → i + done < length jobs0 → slice_get jobs i ≡ Some job → slice_get jobs0 i ≡ Some job
    pub settled : (offset i : ℕ) (job : LaneJob P) (ends : Ends) (hub : HubSide) → offset + length jobs0 ≡ length hubs0 → length jobs0 ≤ i + done → slice_get jobs0 i ≡ Some job → job.ends ≡ Some ends → slice_get hubs0 (offset + i) ≡ Some hub → IsSettled ends hub none

  pub none_settled : (jobs : List (LaneJob P)) (hubs : List HubSide) (none : Bool) → SettledSoFar 0 jobs jobs hubs hubs none
  none_settled jobs hubs none = record {
    same = same_none jobs;
    left = omega arith;
    front = λ i hub at. at;
    kept = λ i job h at. at;
    settled = λ offset i job ends hub e h at has at'. absurd (let w = slice_get_within jobs i job at in omega (arith, h, w));
  }

  -- the pair of the last lane that isn't settled yet
  pub last_pair : (done at : ℕ) (jobs0 jobs : List (LaneJob P)) (hubs0 hubs : List HubSide) (none : Bool) (job : LaneJob P) → ArePairs jobs0 hubs0 → length jobs0 ≤ length hubs0 → SettledSoFar done jobs0 jobs hubs0 hubs none
      → at + done + 1 ≡ length jobs0 → slice_get jobs at ≡ Some job → (ends : Ends) (hub : HubSide) (i : ℕ) → job.ends ≡ Some ends → i + 1 ≡ length hubs → slice_get hubs i ≡ Some hub → IsPair ends hub
  last_pair done at jobs0 jobs hubs0 hubs none job pairs enough f e was ends hub i has last here =
      let offset : ℕ = length hubs0 - length jobs0 in
      let whole : offset + length jobs0 ≡ length hubs0 = omega (arith, enough) in
      let place : offset + at ≡ i = (let l = f.left in omega (arith, l, e, last, whole)) in
      pairs offset at job ends hub whole (f.kept at job (omega (arith, e)) was) has (subst (λ k. slice_get hubs0 k ≡ Some hub) (sym place) (f.front i hub here))

  pub settled_more : (done at : ℕ) (jobs0 jobs : List (LaneJob P)) (hubs0 hubs hubs' : List HubSide) (none one : Bool) (job job' : LaneJob P) → SettledSoFar done jobs0 jobs hubs0 hubs none → length jobs0 ≤ length hubs0
      → at + done + 1 ≡ length jobs0 → slice_get jobs at ≡ Some job → job'.outside ≡ job.outside
      → ((ends : Ends) (hub : HubSide) (i : ℕ) → job.ends ≡ Some ends → i + 1 ≡ length hubs → slice_get hubs i ≡ Some hub → IsSettled ends hub one)
      → (1 ≤ length hubs → length hubs' + 1 ≡ length hubs) → ((i : ℕ) (hub : HubSide) → slice_get hubs' i ≡ Some hub → slice_get hubs i ≡ Some hub)
      → SettledSoFar (done + 1) jobs0 (slice_set jobs at job') hubs0 hubs' (none && one)
  settled_more done at jobs0 jobs hubs0 hubs hubs' none one job job' f enough e was out settled left front = record {
    same = same_more jobs0 jobs at job job' f.same was out;
    left = (let l = f.left in let m = left (omega (arith, l, e, enough)) in omega (arith, l, m));
    front = λ i hub h. f.front i hub (front i hub h);
    kept = λ i p h h'. elim (get_set jobs at i job' p h') [
      | inl t ↦ absurd (let s = t.0 in omega (arith, s, h, e))
      | inr t ↦ f.kept i p (omega (arith, h)) t.1
    ];
    settled = λ offset i p ends hub whole h at0 has at'. elim (at_or_above at i (omega (arith, h, e))) [
      | inl above ↦ fewer ends hub none (none && one) (λ s. both_left none one s) (f.settled offset i p ends hub whole (omega (arith, above, e)) at0 has at')
      | inr mine ↦
          let here : slice_get jobs0 at ≡ Some p = subst (λ k. slice_get jobs0 k ≡ Some p) mine at0 in
          let same : job ≡ p = same_item job p (sym (f.kept at job (omega (arith, e)) was) ∙ here) in
          let l = f.left in
          let place : (offset + i) + 1 ≡ length hubs = omega (arith, l, e, whole, mine) in
          fewer ends hub one (none && one) (λ s. both_right none one s) (settled ends hub (offset + i) (ap (λ (j : LaneJob P). j.ends) same ∙ has) place (still hubs0 hubs f.front (offset + i) hub at' (omega (arith, place))))
    ];
  }

-- all lanes, from what each group's settling said
module _ {P B C : Type 0} where
  pub all_settled : (lanes : Lanes P B C) (h0 h1 h2 h3 : List HubSide) (clock berths own ports : Bool) → LanesPaired lanes h0
      → ((e : Ends) (hub : HubSide) (i : ℕ) → lanes.clock.ends ≡ Some e → i + 1 ≡ length h0 → slice_get h0 i ≡ Some hub → IsSettled e hub clock) → length h1 + 1 ≡ length h0 → ((i : ℕ) (hub : HubSide) → slice_get h1 i ≡ Some hub → slice_get h0 i ≡ Some hub)
      → AreSettled lanes.berths.items h1 berths → length h2 + length lanes.berths.items ≡ length h1 → ((i : ℕ) (hub : HubSide) → slice_get h2 i ≡ Some hub → slice_get h1 i ≡ Some hub)
      → ((e : Ends) (hub : HubSide) (i : ℕ) → lanes.own.ends ≡ Some e → i + 1 ≡ length h2 → slice_get h2 i ≡ Some hub → IsSettled e hub own) → length h3 + 1 ≡ length h2 → ((i : ℕ) (hub : HubSide) → slice_get h3 i ≡ Some hub → slice_get h2 i ≡ Some hub)
      → AreSettled lanes.ports.items h3 ports → (b : Bool) → (b ≡ true → (clock ≡ true) × (berths ≡ true) × (own ≡ true) × (ports ≡ true)) → LanesSettled lanes h0 b
  all_settled lanes h0 h1 h2 h3 clock berths own ports pairs c l1 f1 bs l2 f2 o l3 f3 ps b all =
      let n = pairs.count in
      let f01 : (i : ℕ) (hub : HubSide) → slice_get h1 i ≡ Some hub → slice_get h0 i ≡ Some hub = f1 in
      let f02 : (i : ℕ) (hub : HubSide) → slice_get h2 i ≡ Some hub → slice_get h0 i ≡ Some hub = λ i hub at. f1 i hub (f2 i hub at) in
      let f03 : (i : ℕ) (hub : HubSide) → slice_get h3 i ≡ Some hub → slice_get h0 i ≡ Some hub = λ i hub at. f02 i hub (f3 i hub at) in
      record {
        ports = λ i job e hub at has at'.
            let w = slice_get_within lanes.ports.items i job at in
            let here : slice_get h3 (0 + i) ≡ Some hub = (let z : i ≡ 0 + i = omega arith in subst (λ k. slice_get h3 k ≡ Some hub) z (still h0 h3 f03 i hub at' (omega (arith, n, l1, l2, l3, w)))) in
            fewer e hub ports b (λ t. (all t).3) (ps 0 i job e hub (omega (arith, n, l1, l2, l3)) at has here);
        own = λ e hub has at'. fewer e hub own b (λ t. (all t).2) (o e hub (length lanes.ports.items) has (omega (arith, n, l1, l2, l3)) (still h0 h2 f02 (length lanes.ports.items) hub at' (omega (arith, n, l1, l2, l3))));
        berths = λ i job e hub at has at'.
            let w = slice_get_within lanes.berths.items i job at in
            fewer e hub berths b (λ t. (all t).1) (bs (length lanes.ports.items + 1) i job e hub (omega (arith, n, l1, l2, l3)) at has (still h0 h1 f01 ((length lanes.ports.items + 1) + i) hub at' (omega (arith, n, l1, l2, l3, w))));
        clock = λ e hub has at'. fewer e hub clock b (λ t. (all t).0) (c e hub ((length lanes.ports.items + 1) + length lanes.berths.items) has (omega (arith, n)) at');
      }

  -- what each group's settling asks for
  pub pairs_berths : (lanes : Lanes P B C) (h0 h1 : List HubSide) → LanesPaired lanes h0 → length h1 + 1 ≡ length h0 → ((i : ℕ) (hub : HubSide) → slice_get h1 i ≡ Some hub → slice_get h0 i ≡ Some hub) → ArePairs lanes.berths.items h1
  pairs_berths lanes h0 h1 pairs l f offset i job e hub whole at has at' =
      let n = pairs.count in
      let place : offset ≡ length lanes.ports.items + 1 = omega (arith, n, l, whole) in
      pairs.pairs.berths i job e hub at has (subst (λ k. slice_get h0 (k + i) ≡ Some hub) place (f (offset + i) hub at'))

  pub pairs_ports : (lanes : Lanes P B C) (h0 h3 : List HubSide) → LanesPaired lanes h0 → length h3 ≡ length lanes.ports.items → ((i : ℕ) (hub : HubSide) → slice_get h3 i ≡ Some hub → slice_get h0 i ≡ Some hub) → ArePairs lanes.ports.items h3
  pairs_ports lanes h0 h3 pairs l f offset i job e hub whole at has at' =
      let place : offset + i ≡ i = omega (arith, l, whole) in
      pairs.pairs.ports i job e hub at has (subst (λ k. slice_get h0 k ≡ Some hub) place (f (offset + i) hub at'))
