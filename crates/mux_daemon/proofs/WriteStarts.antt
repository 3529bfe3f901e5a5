-- What was written to the program of a start are the frames of the bodies to it.
use Rattle.std.proofs.Common.{◌≡◌, ℕ, zero, suc, ◌≤◌, ◌⊎◌, inl, inr, List, [], ◌∷◌, ◌++◌, length, map, slice_get, refl, ap, sym, ◌∙◌, subst, arith, append_assoc}
use Rattle.std.specs.Prelude.{All, Some}
use Rattle.std.proofs.lemmas.List.Elements.{All-head, All-tail}
use Rattle.mux_history.specs.declared.entry.Entry.{Entry}
use Rattle.lane_lists.specs.declared.item.Order.{Order}
use Rattle.lane_lists.specs.declared.item.Order.TheVariants as order
use Rattle.lane_lists.specs.Sessions.{chain}
use Rattle.lane_lists.specs.History.{AllZip, entered}
use Rattle.lane_lists.specs.StartOrders.{OrdersOf, bodies_to_start, end_to_start, start_marks}
use Rattle.lane_lists.specs.Deeds.{start}
use Rattle.session_io.specs.declared.part.End.{End}
use Rattle.session_io.specs.declared.part.End.TheVariants as end
use Rattle.session_io.specs.Writes.{body_orders, end_orders}
use Rattle.mux_lanes.specs.Runs.{IsRun, Run, order_of}
use Rattle.mux_lanes.specs.Lanes.{Turn}
use Rattle.mux_lanes.specs.Starts.{Begun, WholeStart}
use Rattle.mux_lanes.specs.Starts as begins
use Rattle.mux_daemon.specs.Sessions.{WrittenAs}
use Rattle.mux_daemon.specs.Starts.{failed_turn, up_turn}
use Rattle.mux_daemon.proofs.Places.{same_item}
use Rattle.mux_daemon.proofs.Writing.{EndForms, NoBody, bodies_of, end_first, end_forms, end_same, first_bodies, written_by}

-- nothing, or another start begins
abbrev pub Begins : List Order → Type 0
Begins ys = (ys ≡ []) ⊎ ((s : ℕ) × ((rest : List Order) × (ys ≡ order.Begin s ∷ rest)))

no_body : (ends later : List Order) → EndForms ends → Begins later → NoBody (ends ++ later)
no_body ends later (inl none) (inl no_more) b xs e = let f : order.Body b ∷ xs ≡ [] = e ∙ ap (λ l. l ++ later) none ∙ no_more in absurd cc
no_body ends later (inl none) (inr (s, (rest, is))) b xs e = let f : order.Body b ∷ xs ≡ order.Begin s ∷ rest = e ∙ ap (λ l. l ++ later) none ∙ is in absurd cc
no_body ends later (inr (end.Closed, is)) h b xs e = let f : order.Body b ∷ xs ≡ order.Close ∷ later = e ∙ ap (λ l. l ++ later) is in absurd cc
no_body ends later (inr (end.Done, is)) h b xs e = let f : order.Body b ∷ xs ≡ order.Done ∷ later = e ∙ ap (λ l. l ++ later) is in absurd cc

no_end : (o : End) (later xs : List Order) → Begins later → later ≡ order_of o ∷ xs → ⊥
no_end o later xs (inl none) e = let f : [] ≡ order_of o ∷ xs = sym none ∙ e in absurd cc
no_end end.Closed later xs (inr (s, (rest, is))) e = let f : order.Begin s ∷ rest ≡ order.Close ∷ xs = sym is ∙ e in absurd cc
no_end end.Done later xs (inr (s, (rest, is))) e = let f : order.Begin s ∷ rest ≡ order.Done ∷ xs = sym is ∙ e in absurd cc

end_so : (ends later xs : List Order) (o : End) → EndForms ends → Begins later → ends ++ later ≡ order_of o ∷ xs → (ends ≡ order_of o ∷ []) × (xs ≡ later)
end_so ends later xs o (inl none) h e = absurd (no_end o later xs h (ap (λ l. l ++ later) (sym none) ∙ e))
end_so ends later xs o (inr v) h e = let s = end_same o v.0 xs later (ap (λ l. l ++ later) (sym v.1) ∙ e) in (v.1 ∙ ap (λ x. x ∷ []) s.0, s.1)

-- the orders that a turn took, behind the one to begin, against those of one start
record Told (mine all : List (List ℕ)) (given ends after later : List Order) : Type 0 where
  pub more : List (List ℕ)
  pub are : all ≡ mine ++ more
  pub ended : (o : End) → given ≡ order_of o ∷ [] → (more ≡ []) × (ends ≡ order_of o ∷ []) × (after ≡ later)

told : (mine all : List (List ℕ)) (given ends after later : List Order) → EndForms ends → Begins later → (body_orders mine ++ given) ++ after ≡ (body_orders all ++ ends) ++ later → Told mine all given ends after later
told mine all given ends after later forms h e =
    let spread : body_orders mine ++ (given ++ after) ≡ body_orders all ++ (ends ++ later) = sym (append_assoc (body_orders mine) given after) ∙ e ∙ append_assoc (body_orders all) ends later in
    let f = first_bodies mine all (given ++ after) (ends ++ later) (no_body ends later forms h) spread in
    record {
      more = f.more;
      are = f.are;
      ended = λ o here.
          let t = end_first o after (ends ++ later) f.more (ap (λ l. l ++ after) (sym here) ∙ f.rest) in
          let s = end_so ends later after o forms h t.1 in
          (t.0, s.0, s.1);
    }

-- the orders of a turn are those of this start, or the first of them; what is left is of later starts
pub record ToldAt (servers : ℕ) (history : List Entry) (x : ℕ) (turn : Turn) : Type 0 where
  pub after : List Order
  pub later : List Order
  pub behind : Begins later
  pub is : turn.orders ++ after ≡ order.Begin x ∷ ((body_orders (bodies_to_start servers x history) ++ end_to_start servers x history) ++ later)

turn_told : (servers : ℕ) (history : List Entry) (x begun : ℕ) (turn : Turn) (mine : List (List ℕ)) (given : List Order) → turn.orders ≡ order.Begin begun ∷ (body_orders mine ++ given) → (f : ToldAt servers history x turn)
    → (begun ≡ x) × Told mine (bodies_to_start servers x history) given (end_to_start servers x history) f.after f.later
turn_told servers history x begun turn mine given is f =
    let all = bodies_to_start servers x history in
    let ends = end_to_start servers x history in
    let whole : order.Begin begun ∷ ((body_orders mine ++ given) ++ f.after) ≡ order.Begin x ∷ ((body_orders all ++ ends) ++ f.later) = ap (λ l. l ++ f.after) (sym is) ∙ f.is in
    let same : begun ≡ x = cc in
    let rest : (body_orders mine ++ given) ++ f.after ≡ (body_orders all ++ ends) ++ f.later = cc in
    (same, told mine all given ends f.after f.later (end_forms (entered (start_marks x (start 0 servers) history))) f.behind rest)

-- a whole turn took bodies and an end
record WholeOrders (turn : Turn) : Type 0 where
  pub begun : ℕ
  pub mine : List (List ℕ)
  pub close : End
  pub is : turn.orders ≡ order.Begin begun ∷ (body_orders mine ++ order_of close ∷ [])

whole_orders : (limit : ℕ) (turn : Turn) → Begun (WholeStart limit) turn → WholeOrders turn
whole_orders limit turn b = elim b.behind [
  | begins.went_up w ↦ record {
    begun = b.start;
    mine = bodies_of w.is_run;
    close = w.is_whole.end;
    is = ap (λ (t : Turn). t.orders) b.is ∙ ap (λ (t : Turn). order.Begin b.start ∷ t.orders) w.is ∙ ap (λ l. order.Begin b.start ∷ l) w.is_run.wrote.took ∙ ap (λ x. order.Begin b.start ∷ (body_orders (bodies_of w.is_run) ++ end_orders x)) w.is_whole.ordered;
  }
  | begins.failed o e ↦ record { begun = b.start; mine = []; close = o; is = ap (λ (t : Turn). t.orders) b.is ∙ ap (λ (t : Turn). order.Begin b.start ∷ t.orders) e }
]

later_begins : (servers : ℕ) (history : List Entry) (ids : List ℕ) (made : List (List Order)) → AllZip (OrdersOf servers history) ids made → Begins (chain made)
later_begins servers history [] [] z = inl refl
later_begins servers history [] (p ∷ made) z = absurd cc
later_begins servers history (n ∷ ids) [] z = absurd cc
later_begins servers history (n ∷ ids) (p ∷ made) z =
    inr (n, ((body_orders (bodies_to_start servers n history) ++ end_to_start servers n history) ++ chain made, ap (λ l. l ++ chain made) z.0))

abbrev orders_of : List Turn → List Order
orders_of turns = chain (map (λ (t : Turn). t.orders) turns)

module _ (limit servers : ℕ) (history : List Entry) where
  abbrev first_told : (t : Turn) (turns : List Turn) (unheard : List Order) (n : ℕ) (ids : List ℕ) (p : List Order) (made : List (List Order)) → AllZip (OrdersOf servers history) (n ∷ ids) (p ∷ made)
      → orders_of (t ∷ turns) ++ unheard ≡ chain (p ∷ made) → ToldAt servers history n t
  first_told t turns unheard n ids p made z all = record {
    after = orders_of turns ++ unheard;
    later = chain made;
    behind = later_begins servers history ids made z.1;
    is = sym (append_assoc t.orders (orders_of turns) unheard) ∙ all ∙ ap (λ l. l ++ chain made) z.0;
  }

  -- behind a whole turn the orders of the next start stand
  next_told : (t : Turn) (turns : List Turn) (unheard : List Order) (n : ℕ) (ids : List ℕ) (p : List Order) (made : List (List Order)) → Begun (WholeStart limit) t → AllZip (OrdersOf servers history) (n ∷ ids) (p ∷ made)
      → orders_of (t ∷ turns) ++ unheard ≡ chain (p ∷ made) → orders_of turns ++ unheard ≡ chain made
  next_told t turns unheard n ids p made b z all =
      let w = whole_orders limit t b in
      let f = turn_told servers history n w.begun t w.mine (order_of w.close ∷ []) w.is (first_told t turns unheard n ids p made z all) in
      (f.1.ended w.close refl).2

  same_told : (t turn : Turn) (n x : ℕ) → t ≡ turn → n ≡ x → ToldAt servers history n t → ToldAt servers history x turn
  same_told t turn n x this same f = subst (λ y. ToldAt servers history x y) this (subst (λ m. ToldAt servers history m t) same f)

  pub told_at : (turns last : List Turn) (unheard : List Order) (ids : List ℕ) (made : List (List Order)) → All (Begun (WholeStart limit)) turns → length last ≤ 1 → AllZip (OrdersOf servers history) ids made
      → orders_of (turns ++ last) ++ unheard ≡ chain made → (k x : ℕ) (turn : Turn) → slice_get ids k ≡ Some x → slice_get (turns ++ last) k ≡ Some turn → ToldAt servers history x turn
  told_at turns last unheard [] made a few z all k x turn at here = absurd cc
  told_at turns last unheard (n ∷ ids) [] a few z all k x turn at here = absurd cc
  told_at [] [] unheard (n ∷ ids) (p ∷ made) a few z all k x turn at here = absurd cc
  told_at [] (t ∷ u ∷ last) unheard (n ∷ ids) (p ∷ made) a few z all k x turn at here = absurd (omega (arith, few))
  told_at [] (t ∷ []) unheard (n ∷ ids) (p ∷ made) a few z all (suc k) x turn at here = absurd cc
  told_at [] (t ∷ []) unheard (n ∷ ids) (p ∷ made) a few z all zero x turn at here = same_told t turn n x (same_item t turn here) (same_item n x at) (first_told t [] unheard n ids p made z all)
  told_at (t ∷ turns) last unheard (n ∷ ids) (p ∷ made) a few z all zero x turn at here = same_told t turn n x (same_item t turn here) (same_item n x at) (first_told t (turns ++ last) unheard n ids p made z all)
  told_at (t ∷ turns) last unheard (n ∷ ids) (p ∷ made) a few z all (suc k) x turn at here =
      told_at turns last unheard ids made (All-tail (Begun (WholeStart limit)) t turns a) few z.1 (next_told t (turns ++ last) unheard n ids p made (All-head (Begun (WholeStart limit)) t turns a) z all) k x turn at here

  -- each whole turn begins a start of the lane
  pub begun_at : (turns last : List Turn) (unheard : List Order) (ids : List ℕ) (made : List (List Order)) → All (Begun (WholeStart limit)) turns → AllZip (OrdersOf servers history) ids made
      → orders_of (turns ++ last) ++ unheard ≡ chain made → (k : ℕ) (turn : Turn) → slice_get turns k ≡ Some turn → (x : ℕ) × (slice_get ids k ≡ Some x) × ((rest : List Order) × (turn.orders ≡ order.Begin x ∷ rest))
  begun_at [] last unheard ids made a z all k turn here = absurd cc
  begun_at (t ∷ turns) last unheard [] (p ∷ made) a z all k turn here = absurd cc
  begun_at (t ∷ turns) last unheard (n ∷ ids) [] a z all k turn here = absurd cc
  begun_at (t ∷ turns) last unheard [] [] a z all k turn here =
      let w = whole_orders limit t (All-head (Begun (WholeStart limit)) t turns a) in
      let f : order.Begin w.begun ∷ (((body_orders w.mine ++ order_of w.close ∷ []) ++ orders_of (turns ++ last)) ++ unheard) ≡ [] = ap (λ l. (l ++ orders_of (turns ++ last)) ++ unheard) (sym w.is) ∙ all in
      absurd cc
  begun_at (t ∷ turns) last unheard (n ∷ ids) (p ∷ made) a z all zero turn here =
      let w = whole_orders limit t (All-head (Begun (WholeStart limit)) t turns a) in
      let f = turn_told servers history n w.begun t w.mine (order_of w.close ∷ []) w.is (first_told t (turns ++ last) unheard n ids p made z all) in
      let rest = body_orders w.mine ++ order_of w.close ∷ [] in
      (n, refl, (rest, ap (λ (t : Turn). t.orders) (sym (same_item t turn here)) ∙ w.is ∙ ap (λ s. order.Begin s ∷ rest) f.0))
  begun_at (t ∷ turns) last unheard (n ∷ ids) (p ∷ made) a z all (suc k) turn here =
      begun_at turns last unheard ids made (All-tail (Begun (WholeStart limit)) t turns a) z.1 (next_told t (turns ++ last) unheard n ids p made (All-head (Begun (WholeStart limit)) t turns a) z all) k turn here

  -- what was written to a start's program, and that the turn is that start's
  pub written_start : (x begun : ℕ) (turn : Turn) (run : Run) → IsRun limit run → turn ≡ up_turn begun run → ToldAt servers history x turn → (begun ≡ x) × WrittenAs (bodies_to_start servers x history) (end_to_start servers x history) run
  written_start x begun turn run is e f =
      let w = is.wrote in
      let t = turn_told servers history x begun turn (bodies_of is) (end_orders run.wrote.end) (ap (λ (t : Turn). t.orders) e ∙ ap (λ l. order.Begin begun ∷ l) w.took) f in (
        t.0,
        written_by limit (bodies_to_start servers x history) (end_to_start servers x history) run is (record {
          more = t.1.more;
          are = t.1.are;
          ended = λ o here. let r = t.1.ended o (ap end_orders here) in (r.0, r.1);
        }),
      )

  -- that the turn of a start that failed is that start's, and which end it took
  pub none_start : (x begun : ℕ) (turn : Turn) (orders : List Order) → turn ≡ failed_turn begun orders → ToldAt servers history x turn
      → (begun ≡ x) × ((o : End) → orders ≡ order_of o ∷ [] → (bodies_to_start servers x history ≡ []) × (end_to_start servers x history ≡ order_of o ∷ []))
  none_start x begun turn orders e f =
      let t = turn_told servers history x begun turn [] orders (ap (λ (t : Turn). t.orders) e) f in
      (t.0, λ o here. let r = t.1.ended o here in (t.1.are ∙ r.0, r.1))

  -- where no order is left, each start that began has a turn
  pub all_begun : (turns : List Turn) (ids : List ℕ) (made : List (List Order)) → All (Begun (WholeStart limit)) turns → AllZip (OrdersOf servers history) ids made → orders_of turns ++ [] ≡ chain made → length ids ≡ length turns
  all_begun [] [] made a z all = refl
  all_begun [] (n ∷ ids) [] a z all = absurd cc
  all_begun [] (n ∷ ids) (p ∷ made) a z all =
      let f : [] ≡ order.Begin n ∷ ((body_orders (bodies_to_start servers n history) ++ end_to_start servers n history) ++ chain made) = all ∙ ap (λ l. l ++ chain made) z.0 in absurd cc
  all_begun (t ∷ turns) [] (p ∷ made) a z all = absurd cc
  all_begun (t ∷ turns) (n ∷ ids) [] a z all = absurd cc
  all_begun (t ∷ turns) [] [] a z all =
      let w = whole_orders limit t (All-head (Begun (WholeStart limit)) t turns a) in
      let f : order.Begin w.begun ∷ (((body_orders w.mine ++ order_of w.close ∷ []) ++ orders_of turns) ++ []) ≡ [] = ap (λ l. (l ++ orders_of turns) ++ []) (sym w.is) ∙ all in
      absurd cc
  all_begun (t ∷ turns) (n ∷ ids) (p ∷ made) a z all =
      ap suc (all_begun turns ids made (All-tail (Begun (WholeStart limit)) t turns a) z.1 (next_told t turns [] n ids p made (All-head (Begun (WholeStart limit)) t turns a) z all))
