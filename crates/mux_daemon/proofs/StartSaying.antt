-- What a lane said of the bodies to its starts was said in their own sessions.
use Rattle.std.proofs.Common.{◌≡◌, ◌≢◌, ℕ, zero, suc, ◌==◌, ◌≤◌, ◌⊎◌, inl, inr, true, false, List, [], ◌∷◌, ◌++◌, length, map, slice_get, refl, ap, sym, ◌∙◌, subst, arith, ⊎_elim, append_assoc, append-nil}
use Rattle.std.specs.Prelude.{All, Option, Some, None}
use Rattle.std.proofs.lemmas.List.Elements.{All-head, All-tail}
use Rattle.outside_io.specs.Faults.{Rose}
use Rattle.lane_lists.specs.declared.item.Order.{Order}
use Rattle.lane_lists.specs.declared.item.Order.TheVariants as order
use Rattle.lane_lists.specs.declared.item.Posted.TheVariants as posted
use Rattle.lane_lists.specs.declared.item.Side.{Side}
use Rattle.lane_lists.specs.declared.item.Side.TheVariants as side
use Rattle.std.proofs.lemmas.Bool.Decides.{eqb_tells}
use Rattle.lane_lists.specs.Seats.{is_now}
use Rattle.lane_lists.specs.Sessions.{chain}
use Rattle.lane_lists.specs.Sides.{answers}
use Rattle.lane_lists.specs.StartSides.{BeginOnce, Unbegun, start_tagged, tag}
use Rattle.session_io.specs.declared.part.End.{End}
use Rattle.session_io.specs.declared.part.End.TheVariants as end
use Rattle.session_io.specs.Writes.{body_orders, end_orders}
use Rattle.mux_lanes.specs.Lanes.{Turn, WholeLink, linked, ran, refused}
use Rattle.mux_lanes.specs.Runs.{IsRun, Run, order_of}
use Rattle.mux_lanes.specs.Starts.{Begun, CutBegun, WholeStart}
use Rattle.mux_lanes.specs.Starts as begins
use Rattle.mux_daemon.specs.Sessions.{SaidIn}
use Rattle.mux_daemon.specs.Starts.{StartBroke, up_turn}
use Rattle.mux_daemon.proofs.Places.{same_item}
use Rattle.mux_daemon.proofs.Saying.{Answer, Behind, Off, SaidOf, last_said, none_left, run_said, self, tags}
use Rattle.mux_daemon.proofs.Writing.{bodies_of}

abbrev pub orders_of : List Turn → List Order
orders_of turns = chain (map (λ (t : Turn). t.orders) turns)

abbrev sides_of : List Turn → List Side
sides_of turns = chain (map (λ (t : Turn). t.sides) turns)

-- behind the orders of a turn stand those of later ones
tagged_behind : (n : ℕ) (bs : List (List ℕ)) (o : End) (os : List Order) → start_tagged (Some n) (body_orders bs ++ (order_of o ∷ os)) ≡ tags n bs ++ start_tagged None os
tagged_behind n [] end.Closed os = refl
tagged_behind n [] end.Done os = refl
tagged_behind n (b ∷ bs) o os = ap (λ l. (n, length b) ∷ l) (tagged_behind n bs o os)

tagged_bodies : (n : ℕ) (bs : List (List ℕ)) (os : List Order) → start_tagged (Some n) (body_orders bs ++ os) ≡ tags n bs ++ start_tagged (Some n) os
tagged_bodies n [] os = refl
tagged_bodies n (b ∷ bs) os = ap (λ l. (n, length b) ∷ l) (tagged_bodies n bs os)

unbegun_behind : (n : ℕ) (bs : List (List ℕ)) (o : End) (os : List Order) → Unbegun n (body_orders bs ++ (order_of o ∷ os)) → Unbegun n os
unbegun_behind n [] end.Closed os u = u
unbegun_behind n [] end.Done os u = u
unbegun_behind n (b ∷ bs) o os u = unbegun_behind n bs o os u

once_behind : (bs : List (List ℕ)) (o : End) (os : List Order) → BeginOnce (body_orders bs ++ (order_of o ∷ os)) → BeginOnce os
once_behind [] end.Closed os u = u
once_behind [] end.Done os u = u
once_behind (b ∷ bs) o os u = once_behind bs o os u

-- bodies behind them are of other starts
off_more : (n m bytes : ℕ) (l : List (ℕ × ℕ)) → m ≢ n → Off n l → Off n ((m, bytes) ∷ l)
off_more n m bytes l apart off = (apart, off)

off_first : (n : ℕ) (now : Option ℕ) (bytes : ℕ) (l : List (ℕ × ℕ)) → is_now now n ≡ false → Off n l → Off n (tag now bytes ++ l)
off_first n None bytes l f off = off
off_first n (Some m) bytes l f off = off_more n m bytes l (λ same. let t : true ≡ false = sym (self m) ∙ ap (λ (k : ℕ). m == k) same ∙ f in absurd cc) off

not_now : (m n : ℕ) → m ≢ n → is_now (Some m) n ≡ false
not_now m n apart = ⊎_elim (λ t. absurd (apart t.1)) (λ t. t.0) (eqb_tells m n)

off_tags : (n : ℕ) (now : Option ℕ) (os : List Order) → is_now now n ≡ false → Unbegun n os → Off n (start_tagged now os)
off_tags n now [] f u = tt
off_tags n now (order.Begin m ∷ os) f u = off_tags n (Some m) os (not_now m n u.0) u.1
off_tags n now (order.Body body ∷ os) f u = off_first n now (length body) (start_tagged now os) f (off_tags n now os f u)
off_tags n now (order.Close ∷ os) f u = off_tags n None os refl u
off_tags n now (order.Done ∷ os) f u = off_tags n None os refl u

-- a whole turn: whose it is, the bodies and the end that it took, and what it said of them
record Took (limit : ℕ) (t : Turn) : Type 0 where
  pub start : ℕ
  pub bodies : List (List ℕ)
  pub close : End
  pub orders : t.orders ≡ order.Begin start ∷ (body_orders bodies ++ order_of close ∷ [])
  pub said : (said unsaid rest : List Side) (owed : List (ℕ × ℕ)) (p : ℕ) (a : Answer) → Off start owed → said ++ unsaid ≡ t.sides ++ rest → slice_get (answers said (tags start bodies ++ owed)) p ≡ Some a
      → ((run : Run) × (t ≡ up_turn start run) × SaidOf start run a) ⊎ Behind unsaid rest owed a

took_up : (limit : ℕ) (t rest : Turn) (n : ℕ) → t ≡ record rest { orders = order.Begin n ∷ rest.orders } → WholeLink posted.Up limit rest → Took limit t
took_up limit t rest n is w =
    let turn : t ≡ up_turn n w.run = is ∙ ap (λ (t : Turn). record t { orders = order.Begin n ∷ t.orders }) w.is in record {
      start = n;
      bodies = bodies_of w.is_run;
      close = w.is_whole.end;
      orders = ap (λ (t : Turn). t.orders) turn ∙ ap (λ l. order.Begin n ∷ l) w.is_run.wrote.took ∙ ap (λ x. order.Begin n ∷ (body_orders (bodies_of w.is_run) ++ end_orders x)) w.is_whole.ordered;
      said = λ said unsaid more owed p a off e at.
          ⊎_elim (λ s. inl (w.run, turn, s)) (λ b. inr b)
          (run_said limit n w.run w.is_run w.is_whole unsaid more owed off a said p (e ∙ ap (λ (t : Turn). t.sides ++ more) turn) at);
    }

took_failed : (limit : ℕ) (t rest : Turn) (n : ℕ) (o : End) → t ≡ record rest { orders = order.Begin n ∷ rest.orders } → rest ≡ begins.idle 1 (posted.NoStart ∷ []) (order_of o ∷ []) → Took limit t
took_failed limit t rest n o is e =
    let turn : t ≡ record (begins.idle 1 (posted.NoStart ∷ []) (order_of o ∷ [])) { orders = order.Begin n ∷ order_of o ∷ [] } = is ∙ ap (λ (t : Turn). record t { orders = order.Begin n ∷ t.orders }) e in record {
      start = n;
      bodies = [];
      close = o;
      orders = ap (λ (t : Turn). t.orders) turn;
      said = λ said unsaid more owed p a off e at. inr (record { said = said; place = p; are = e ∙ ap (λ (t : Turn). t.sides ++ more) turn; at = at });
    }

took : (limit : ℕ) (t : Turn) → Begun (WholeStart limit) t → Took limit t
took limit t b = elim b.behind [
  | begins.went_up w ↦ took_up limit t b.rest b.start b.is w
  | begins.failed o e ↦ took_failed limit t b.rest b.start o b.is e
]

-- a write to a start failed in that start's turn
pub record BrokeAt (turns : List Turn) (start : ℕ) : Type 0 where
  pub place : ℕ
  pub turn : Turn
  pub at : slice_get turns place ≡ Some turn
  pub run : Run
  pub is : turn ≡ up_turn start run
  pub rose : Rose run.began.sink_faults run.ended.sink_faults

rose_in : (t : Turn) (turns : List Turn) (n : ℕ) (a : Answer) (run : Run) → t ≡ up_turn n run → a.1 ≡ side.Broke → SaidOf n run a → BrokeAt (t ∷ turns) a.0.0
rose_in t turns n a run is broke said =
    let both = subst (λ (x : Side). SaidIn run a.0.1 x) broke said.1 in
    record { place = 0; turn = t; at = refl; run = run; is = is ∙ ap (λ (k : ℕ). up_turn k run) (sym said.0); rose = both.1 }

-- a turn that was cut off and said nothing
silent : (t : Turn) (os : List Order) (said unsaid : List Side) (p : ℕ) (a : Answer) → t.sides ≡ [] → said ++ unsaid ≡ t.sides ++ [] → slice_get (answers said (start_tagged None os)) p ≡ Some a → BrokeAt (t ∷ []) a.0.0
silent t os said unsaid p a none e at = absurd (none_left said unsaid (start_tagged None os) p a (e ∙ ap (λ l. l ++ []) none) at)

-- a session that was cut off: behind its orders stand those that were never taken
torn_said : (limit n : ℕ) (t rest : Turn) (run : Run) (unheard : List Order) → t ≡ record rest { orders = order.Begin n ∷ rest.orders } → IsRun limit run → rest ≡ linked posted.Up run → (said unsaid : List Side) (p : ℕ) (a : Answer) → a.1 ≡ side.Broke
    → said ++ unsaid ≡ t.sides ++ [] → slice_get (answers said (start_tagged None ((t.orders ++ []) ++ unheard))) p ≡ Some a → BrokeAt (t ∷ []) a.0.0
torn_said limit n t rest run unheard begun is e said unsaid p a broke are at =
    let turn : t ≡ up_turn n run = begun ∙ ap (λ (t : Turn). record t { orders = order.Begin n ∷ t.orders }) e in
    let bodies = bodies_of is in
    let ends = end_orders run.wrote.end in
    let owed = start_tagged (Some n) (ends ++ unheard) in
    let spread : start_tagged None ((t.orders ++ []) ++ unheard) ≡ tags n bodies ++ owed =
    ap (λ (t : Turn). start_tagged None ((t.orders ++ []) ++ unheard)) turn ∙ ap (λ l. start_tagged (Some n) (l ++ unheard)) (append-nil run.orders ∙ is.wrote.took) ∙ ap (λ l. start_tagged (Some n) l) (append_assoc (body_orders bodies) ends unheard)
    ∙ tagged_bodies n bodies (ends ++ unheard) in
    rose_in t [] n a run turn broke (last_said limit n run is a unsaid owed said p (are ∙ ap (λ (t : Turn). t.sides ++ []) turn) (subst (λ l. slice_get (answers said l) p ≡ Some a) spread at))

last_broke : (limit : ℕ) (t : Turn) (unheard : List Order) → CutBegun limit t → (said unsaid : List Side) (p : ℕ) (a : Answer) → a.1 ≡ side.Broke → said ++ unsaid ≡ t.sides ++ []
    → slice_get (answers said (start_tagged None ((t.orders ++ []) ++ unheard))) p ≡ Some a → BrokeAt (t ∷ []) a.0.0
last_broke limit t unheard (begins.misled o is) said unsaid p a broke e at = silent t ((t.orders ++ []) ++ unheard) said unsaid p a (ap (λ (t : Turn). t.sides) is) e at
last_broke limit t unheard (begins.begun b) said unsaid p a broke e at =
    let first : t.sides ≡ b.rest.sides = ap (λ (t : Turn). t.sides) b.is in
    let os = (t.orders ++ []) ++ unheard in
    elim b.behind [
      | begins.cut_up c ↦ elim c [
        | ran run is torn same ↦ torn_said limit b.start t b.rest run unheard b.is is same said unsaid p a broke e at
        | refused session same ↦ silent t os said unsaid p a (first ∙ ap (λ (t : Turn). t.sides) same) e at
      ]
      | begins.cut_failed orders few short same ↦ silent t os said unsaid p a (first ∙ ap (λ (t : Turn). t.sides) same) e at
      | begins.wanted rises same ↦ silent t os said unsaid p a (first ∙ ap (λ (t : Turn). t.sides) same) e at
    ]

-- a last turn may be cut off; behind what all turns took stand orders that were never taken
pub all_broke : (limit : ℕ) (turns last : List Turn) (unheard : List Order) → All (Begun (WholeStart limit)) turns → All (CutBegun limit) last → length last ≤ 1 → BeginOnce (orders_of (turns ++ last) ++ unheard) → (said unsaid : List Side) (p : ℕ) (a : Answer) → a.1 ≡ side.Broke
    → said ++ unsaid ≡ sides_of (turns ++ last) → slice_get (answers said (start_tagged None (orders_of (turns ++ last) ++ unheard))) p ≡ Some a → BrokeAt (turns ++ last) a.0.0
all_broke limit [] [] unheard each cut few once said unsaid p a broke e at = absurd (none_left said unsaid (start_tagged None unheard) p a e at)
all_broke limit [] (t ∷ u ∷ last) unheard each cut few once said unsaid p a broke e at = absurd (omega (arith, few))
all_broke limit [] (t ∷ []) unheard each cut few once said unsaid p a broke e at = last_broke limit t unheard (All-head (CutBegun limit) t [] cut) said unsaid p a broke e at
all_broke limit (t ∷ turns) last unheard each cut few once said unsaid p a broke e at =
    let k = took limit t (All-head (Begun (WholeStart limit)) t turns each) in
    let later = orders_of (turns ++ last) in
    let os = later ++ unheard in
    let spread : (t.orders ++ later) ++ unheard ≡ order.Begin k.start ∷ (body_orders k.bodies ++ (order_of k.close ∷ os)) =
    append_assoc t.orders later unheard ∙ ap (λ l. l ++ os) k.orders ∙ ap (λ l. order.Begin k.start ∷ l) (append_assoc (body_orders k.bodies) (order_of k.close ∷ []) os) in
    let begun = subst (λ l. BeginOnce l) spread once in
    let off = off_tags k.start None os refl (unbegun_behind k.start k.bodies k.close os begun.0) in
    let tagged = ap (λ l. start_tagged None l) spread ∙ tagged_behind k.start k.bodies k.close os in
    ⊎_elim
    (λ t'. rose_in t (turns ++ last) k.start a t'.0 t'.1 broke t'.2)
    (λ b.
    let more = all_broke limit turns last unheard (All-tail (Begun (WholeStart limit)) t turns each) cut few (once_behind k.bodies k.close os begun.1) b.said unsaid b.place a broke b.are b.at in
    record { place = suc more.place; turn = more.turn; at = more.at; run = more.run; is = more.is; rose = more.rose })
    (k.said said unsaid (sides_of (turns ++ last)) (start_tagged None os) p a off e (subst (λ l. slice_get (answers said l) p ≡ Some a) tagged at))

-- two turns that begin one start are the same, where no start begins twice
unbegun_front : (n : ℕ) (xs ys : List Order) → Unbegun n (xs ++ ys) → Unbegun n ys
unbegun_front n [] ys u = u
unbegun_front n (order.Begin m ∷ xs) ys u = unbegun_front n xs ys u.1
unbegun_front n (order.Body body ∷ xs) ys u = unbegun_front n xs ys u
unbegun_front n (order.Close ∷ xs) ys u = unbegun_front n xs ys u
unbegun_front n (order.Done ∷ xs) ys u = unbegun_front n xs ys u

once_front : (xs ys : List Order) → BeginOnce (xs ++ ys) → BeginOnce ys
once_front [] ys u = u
once_front (order.Begin m ∷ xs) ys u = once_front xs ys u.1
once_front (order.Body body ∷ xs) ys u = once_front xs ys u
once_front (order.Close ∷ xs) ys u = once_front xs ys u
once_front (order.Done ∷ xs) ys u = once_front xs ys u

unbegun_first : (n : ℕ) (xs ys : List Order) → Unbegun n (xs ++ ys) → Unbegun n xs
unbegun_first n [] ys u = tt
unbegun_first n (order.Begin m ∷ xs) ys u = (u.0, unbegun_first n xs ys u.1)
unbegun_first n (order.Body body ∷ xs) ys u = unbegun_first n xs ys u
unbegun_first n (order.Close ∷ xs) ys u = unbegun_first n xs ys u
unbegun_first n (order.Done ∷ xs) ys u = unbegun_first n xs ys u

pub once_first : (xs ys : List Order) → BeginOnce (xs ++ ys) → BeginOnce xs
once_first [] ys u = tt
once_first (order.Begin m ∷ xs) ys u = (unbegun_first m xs ys u.0, once_first xs ys u.1)
once_first (order.Body body ∷ xs) ys u = once_first xs ys u
once_first (order.Close ∷ xs) ys u = once_first xs ys u
once_first (order.Done ∷ xs) ys u = once_first xs ys u

begins_later : (n : ℕ) (turns : List Turn) (k : ℕ) (t : Turn) (rest : List Order) → Unbegun n (orders_of turns) → slice_get turns k ≡ Some t → t.orders ≡ order.Begin n ∷ rest → ⊥
begins_later n [] k t rest u at is = absurd cc
begins_later n (v ∷ turns) zero t rest u at is =
    let begun : Unbegun n ((order.Begin n ∷ rest) ++ orders_of turns) = subst (λ l. Unbegun n (l ++ orders_of turns)) (ap (λ (t : Turn). t.orders) (same_item v t at) ∙ is) u in begun.0 refl
begins_later n (v ∷ turns) (suc k) t rest u at is = begins_later n turns k t rest (unbegun_front n v.orders (orders_of turns) u) at is

behind_first : (n : ℕ) (v t : Turn) (turns : List Turn) (rest : List Order) → BeginOnce (v.orders ++ orders_of turns) → v ≡ t → t.orders ≡ order.Begin n ∷ rest → Unbegun n (orders_of turns)
behind_first n v t turns rest once same is =
    let begun : BeginOnce ((order.Begin n ∷ rest) ++ orders_of turns) = subst (λ l. BeginOnce (l ++ orders_of turns)) (ap (λ (t : Turn). t.orders) same ∙ is) once in unbegun_front n rest (orders_of turns) begun.0

same_turn : (n : ℕ) (turns : List Turn) (k p : ℕ) (t u : Turn) (a b : List Order) → BeginOnce (orders_of turns) → slice_get turns k ≡ Some t → slice_get turns p ≡ Some u → t.orders ≡ order.Begin n ∷ a → u.orders ≡ order.Begin n ∷ b → t ≡ u
same_turn n [] k p t u a b once at at' is is' = absurd cc
same_turn n (v ∷ turns) zero zero t u a b once at at' is is' = sym (same_item v t at) ∙ same_item v u at'
same_turn n (v ∷ turns) zero (suc p) t u a b once at at' is is' = absurd (begins_later n turns p u b (behind_first n v t turns a once (same_item v t at) is) at' is')
same_turn n (v ∷ turns) (suc k) zero t u a b once at at' is is' = absurd (begins_later n turns k t a (behind_first n v u turns b once (same_item v u at') is') at is)
same_turn n (v ∷ turns) (suc k) (suc p) t u a b once at at' is is' = same_turn n turns k p t u a b (once_front v.orders (orders_of turns) once) at at' is is'

-- no other turn begins the start
pub broke_so : (x : ℕ) (turns : List Turn) → BeginOnce (orders_of turns) → BrokeAt turns x → StartBroke turns x
broke_so x turns once b = record {
  place = b.place;
  turn = b.turn;
  at = b.at;
  run = b.run;
  is = b.is;
  rose = b.rose;
  only = λ k other rest here begins. same_turn x turns k b.place other b.turn rest b.run.orders once here b.at begins (ap (λ (t : Turn). t.orders) b.is);
}
