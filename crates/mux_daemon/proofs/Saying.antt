-- What a lane said of the bodies to its editors was said in their own sessions.
use Rattle.std.proofs.Common.{◌≡◌, ◌≢◌, ℕ, zero, suc, ◌+◌, ◌==◌, ◌<◌, ◌⊎◌, inl, inr, Bool, true, false, not, cond, filter, List, [], ◌∷◌, ◌++◌, length, map, replicate, slice_get, refl, ap, sym, ◌∙◌, subst, arith, ⊎_elim, append_assoc, append-nil}
use Rattle.std.specs.Prelude.{Some, ⊤}
use Rattle.std.specs.Io.KnownBytes.{append_known}
use Rattle.std.proofs.lemmas.Bool.Decides.{eqb_tells}
use Rattle.base_frame.specs.Frames.{framed, all_framed}
use Rattle.lane_lists.specs.declared.item.Order.{Order}
use Rattle.lane_lists.specs.declared.item.Order.TheVariants as order
use Rattle.lane_lists.specs.declared.item.Side.{Side}
use Rattle.lane_lists.specs.declared.item.Side.TheVariants as side
use Rattle.lane_lists.specs.Sessions.{chain}
use Rattle.lane_lists.specs.Sides.{answers, tagged}
use Rattle.session_io.specs.declared.part.End.{End}
use Rattle.session_io.specs.declared.part.End.TheVariants as end
use Rattle.session_io.specs.Writes.{body_orders, broken, end_orders}
use Rattle.mux_lanes.specs.Runs.{IsRun, IsWholeRun, Run, order_of}
use Rattle.mux_daemon.specs.Sessions.{SaidBy, SaidIn}
use Rattle.mux_daemon.proofs.Places.{same_item}
use Rattle.mux_daemon.proofs.Reading.{FrontWhole}
use Rattle.mux_daemon.proofs.Rising.{Rise}
use Rattle.mux_daemon.proofs.Writing.{bodies_of}

-- none of these is of this editor
abbrev pub Off : ℕ → List (ℕ × ℕ) → Type 0
Off e [] = ⊤
Off e (o ∷ os) = (o.0 ≢ e) × Off e os

off_tagged : (e m : ℕ) (ids : List ℕ) (os : List Order) → e < m → Rise m ids → Off e (tagged ids os)
off_tagged e m [] os h r = tt
off_tagged e m (n ∷ ids) [] h r = tt
off_tagged e m (n ∷ ids) (order.Begin s ∷ os) h r = off_tagged e m (n ∷ ids) os h r
off_tagged e m (n ∷ ids) (order.Body body ∷ os) h r = (λ same. (let a = r.0 in omega (arith, a, h, same)), off_tagged e m (n ∷ ids) os h r)
off_tagged e m (n ∷ ids) (order.Close ∷ os) h r = off_tagged e (n + 1) ids os (let a = r.0 in omega (arith, a, h)) r.1
off_tagged e m (n ∷ ids) (order.Done ∷ os) h r = off_tagged e (n + 1) ids os (let a = r.0 in omega (arith, a, h)) r.1

abbrev pub without : ℕ → List (ℕ × ℕ) → List (ℕ × ℕ)
without e l = filter (λ (x : ℕ × ℕ). not (x.0 == e)) l

without_off : (e : ℕ) (l : List (ℕ × ℕ)) → Off e l → without e l ≡ l
without_off e [] f = refl
without_off e (x ∷ l) f =
    ap (λ (b : Bool). cond (not b) (x ∷ without e l) (without e l)) (⊎_elim (λ t. absurd (f.0 t.1)) (λ t. t.0) (eqb_tells x.0 e)) ∙ ap (λ r. x ∷ r) (without_off e l f.1)

-- bodies to one editor
abbrev pub tags : ℕ → List (List ℕ) → List (ℕ × ℕ)
tags n [] = []
tags n (b ∷ bs) = (n, length b) ∷ tags n bs

tags_append : (n : ℕ) (a b : List (List ℕ)) → tags n (a ++ b) ≡ tags n a ++ tags n b
tags_append n [] b = refl
tags_append n (x ∷ a) b = ap (λ l. (n, length x) ∷ l) (tags_append n a b)

pub self : (e : ℕ) → (e == e) ≡ true
self e = ⊎_elim (λ t. t.0) (λ t. absurd (t.1 refl)) (eqb_tells e e)

without_tags : (n : ℕ) (bs : List (List ℕ)) (owed : List (ℕ × ℕ)) → Off n owed → without n (tags n bs ++ owed) ≡ owed
without_tags n [] owed off = without_off n owed off
without_tags n (b ∷ bs) owed off = ap (λ (c : Bool). cond (not c) ((n, length b) ∷ without n (tags n bs ++ owed)) (without n (tags n bs ++ owed))) (self n) ∙ without_tags n bs owed off

tagged_run : (n : ℕ) (ids : List ℕ) (bs : List (List ℕ)) (o : End) (os : List Order) → tagged (n ∷ ids) (body_orders bs ++ (order_of o ∷ os)) ≡ tags n bs ++ tagged ids os
tagged_run n ids [] end.Closed os = refl
tagged_run n ids [] end.Done os = refl
tagged_run n ids (b ∷ bs) o os = ap (λ l. (n, length b) ∷ l) (tagged_run n ids bs o os)

tagged_bodies : (n : ℕ) (ids : List ℕ) (bs : List (List ℕ)) (os : List Order) → tagged (n ∷ ids) (body_orders bs ++ os) ≡ tags n bs ++ tagged (n ∷ ids) os
tagged_bodies n ids [] os = refl
tagged_bodies n ids (b ∷ bs) os = ap (λ l. (n, length b) ∷ l) (tagged_bodies n ids bs os)

-- the answer is to a body of these that was written, or it is one of those behind
abbrev pub Answer : Type 0
Answer = (ℕ × ℕ) × Side

pub record Behind (unsaid rest : List Side) (owed : List (ℕ × ℕ)) (a : Answer) : Type 0 where
  pub said : List Side
  pub place : ℕ
  pub are : said ++ unsaid ≡ rest
  pub at : slice_get (answers said owed) place ≡ Some a

-- nothing is answered where nothing is left that was said
pub none_left : (said unsaid : List Side) (owed : List (ℕ × ℕ)) (p : ℕ) (a : Answer) → said ++ unsaid ≡ [] → slice_get (answers said owed) p ≡ Some a → ⊥
none_left [] unsaid owed p a e at = absurd cc
none_left (s ∷ said) unsaid owed p a e at = absurd cc

pub record Wrote (n : ℕ) (whole : List (List ℕ)) (a : Answer) : Type 0 where
  pub place : ℕ
  pub body : List ℕ
  pub at : slice_get whole place ≡ Some body
  pub is : a ≡ ((n, length body), side.Wrote)

wrote_first : (n : ℕ) (whole : List (List ℕ)) (said unsaid rest : List Side) (owed : List (ℕ × ℕ)) (p : ℕ) (a : Answer) → said ++ unsaid ≡ replicate (length whole) side.Wrote ++ rest
    → slice_get (answers said (tags n whole ++ owed)) p ≡ Some a → Wrote n whole a ⊎ Behind unsaid rest owed a
wrote_first n [] said unsaid rest owed p a e at = inr (record { said = said; place = p; are = e; at = at })
wrote_first n (w ∷ whole) [] unsaid rest owed p a e at = absurd cc
wrote_first n (w ∷ whole) (side.Broke ∷ said) unsaid rest owed p a e at = absurd cc
wrote_first n (w ∷ whole) (side.Wrote ∷ said) unsaid rest owed zero a e at = inl (record { place = 0; body = w; at = refl; is = sym (same_item ((n, length w), side.Wrote) a at) })
wrote_first n (w ∷ whole) (side.Wrote ∷ said) unsaid rest owed (suc p) a e at =
    ⊎_elim (λ t. inl (record { place = suc t.place; body = t.body; at = t.at; is = t.is })) (λ t. inr t) (wrote_first n whole said unsaid rest owed p a (cc) at)

broke_first : (n : ℕ) (body : List ℕ) (others : List (List ℕ)) (said unsaid rest : List Side) (owed : List (ℕ × ℕ)) (p : ℕ) (a : Answer) → Off n owed → said ++ unsaid ≡ side.Broke ∷ rest
    → slice_get (answers said (tags n (body ∷ others) ++ owed)) p ≡ Some a → (a ≡ ((n, length body), side.Broke)) ⊎ Behind unsaid rest owed a
broke_first n body others [] unsaid rest owed p a off e at = absurd cc
broke_first n body others (side.Wrote ∷ said) unsaid rest owed p a off e at = absurd cc
broke_first n body others (side.Broke ∷ said) unsaid rest owed zero a off e at = inl (sym (same_item ((n, length body), side.Broke) a at))
broke_first n body others (side.Broke ∷ said) unsaid rest owed (suc p) a off e at = inr (record { said = said; place = p; are = cc; at = subst (λ l. slice_get (answers said l) p ≡ Some a) (without_tags n others owed off) at })

-- the same, where nothing else was said
broke_only : (n : ℕ) (body : List ℕ) (others : List (List ℕ)) (said unsaid : List Side) (owed : List (ℕ × ℕ)) (p : ℕ) (a : Answer) → said ++ unsaid ≡ side.Broke ∷ []
    → slice_get (answers said (tags n (body ∷ others) ++ owed)) p ≡ Some a → a ≡ ((n, length body), side.Broke)
broke_only n body others [] unsaid owed p a e at = absurd cc
broke_only n body others (side.Wrote ∷ said) unsaid owed p a e at = absurd cc
broke_only n body others (side.Broke ∷ said) unsaid owed zero a e at = sym (same_item ((n, length body), side.Broke) a at)
broke_only n body others (side.Broke ∷ said) unsaid owed (suc p) a e at = let none : said ++ unsaid ≡ [] = cc in absurd (none_left said unsaid (without n (tags n others ++ owed)) p a none at)

-- where a body stands in what was written
pub record FramedAt (whole : List (List ℕ)) (part body : List ℕ) : Type 0 where
  pub before : List (List ℕ)
  pub behind : List ℕ
  pub is : all_framed whole ++ part ≡ all_framed before ++ (framed body ++ behind)

framed_at : (whole : List (List ℕ)) (j : ℕ) (body part : List ℕ) → slice_get whole j ≡ Some body → FramedAt whole part body
framed_at [] j body part at = absurd cc
framed_at (b ∷ whole) zero body part at = record { before = []; behind = all_framed whole ++ part; is = append_assoc (framed b) (all_framed whole) part ∙ ap (λ x. framed x ++ (all_framed whole ++ part)) (same_item b body at) }
framed_at (b ∷ whole) (suc j) body part at =
    let r = framed_at whole j body part at in
    record { before = b ∷ r.before; behind = r.behind; is = append_assoc (framed b) (all_framed whole) part ∙ ap (λ l. framed b ++ l) r.is ∙ sym (append_assoc (framed b) (all_framed r.before) (framed body ++ r.behind)) }

-- one run, and what is behind it
abbrev pub SaidOf : ℕ → Run → Answer → Type 0
SaidOf n run a = (a.0.0 ≡ n) × SaidIn run a.0.1 a.1

module _ (limit n : ℕ) (run : Run) (is : IsRun limit run) (a : Answer) where
  wrote_in : Wrote n is.wrote.whole a → SaidOf n run a
  wrote_in t =
      let f = framed_at is.wrote.whole t.place t.body is.wrote.part t.at in
      subst (λ x. SaidOf n run x) (sym t.is) (refl, record { before = f.before; body = t.body; behind = f.behind; is = refl; written = is.wrote.wrote ∙ ap (append_known run.began.written) f.is })

  broke_in : (body : List ℕ) → run.wrote.broke ≡ true → a ≡ ((n, length body), side.Broke) → SaidOf n run a
  broke_in body broke e = subst (λ x. SaidOf n run x) (sym e) (refl, (broke, is.wrote.fault broke))

  -- of a body that was written whole, or one behind these
  wrote_or : (unsaid rest : List Side) (owed : List (ℕ × ℕ)) (said : List Side) (p : ℕ) → said ++ unsaid ≡ run.sides ++ rest → slice_get (answers said (tags n (bodies_of is) ++ owed)) p ≡ Some a
      → SaidOf n run a ⊎ Behind unsaid (broken run.wrote.broke ++ rest) (tags n is.wrote.others ++ owed) a
  wrote_or unsaid rest owed said p e at =
      let wrotes = replicate (length is.wrote.whole) side.Wrote in
      let all : said ++ unsaid ≡ wrotes ++ (broken run.wrote.broke ++ rest) = e ∙ ap (λ l. l ++ rest) is.wrote.items ∙ append_assoc wrotes (broken run.wrote.broke) rest in
      let spread : tags n (bodies_of is) ++ owed ≡ tags n is.wrote.whole ++ (tags n is.wrote.others ++ owed) = ap (λ l. l ++ owed) (tags_append n is.wrote.whole is.wrote.others) ∙ append_assoc (tags n is.wrote.whole) (tags n is.wrote.others) owed in
      ⊎_elim (λ t. inl (wrote_in t)) (λ t. inr t)
      (wrote_first n is.wrote.whole said unsaid (broken run.wrote.broke ++ rest) (tags n is.wrote.others ++ owed) p a all (subst (λ l. slice_get (answers said l) p ≡ Some a) spread at))

  -- a last run, which may be cut off: behind it nothing was said
  last_broke : (unsaid : List Side) (owed : List (ℕ × ℕ)) (b : Bool) (others : List (List ℕ)) → run.wrote.broke ≡ b → others ≡ is.wrote.others → Behind unsaid (broken b ++ []) (tags n others ++ owed) a → SaidOf n run a
  last_broke unsaid owed false others broke same t = absurd (none_left t.said unsaid (tags n others ++ owed) t.place a t.are t.at)
  last_broke unsaid owed true [] broke same t = absurd (is.wrote.failing broke (sym same))
  last_broke unsaid owed true (o ∷ others) broke same t = broke_in o broke (broke_only n o others t.said unsaid owed t.place a t.are t.at)

  pub last_said : (unsaid : List Side) (owed : List (ℕ × ℕ)) (said : List Side) (p : ℕ) → said ++ unsaid ≡ run.sides ++ [] → slice_get (answers said (tags n (bodies_of is) ++ owed)) p ≡ Some a → SaidOf n run a
  last_said unsaid owed said p e at = ⊎_elim (λ t. t) (λ t. last_broke unsaid owed run.wrote.broke is.wrote.others refl refl t) (wrote_or unsaid [] owed said p e at)

module _ (limit n : ℕ) (run : Run) (is : IsRun limit run) (whole : IsWholeRun run) (unsaid rest : List Side) (owed : List (ℕ × ℕ)) (off : Off n owed) (a : Answer) where
  behind_broken : (others : List (List ℕ)) → others ≡ is.wrote.others → run.wrote.broke ≡ true → Behind unsaid (side.Broke ∷ rest) (tags n others ++ owed) a → SaidOf n run a ⊎ Behind unsaid rest owed a
  behind_broken [] same broke t = absurd (is.wrote.failing broke (sym same))
  behind_broken (o ∷ others) same broke t = ⊎_elim (λ e. inl (broke_in limit n run is a o broke e)) (λ r. inr r) (broke_first n o others t.said unsaid rest owed t.place a off t.are t.at)

  behind_wrote : (b : Bool) → run.wrote.broke ≡ b → Behind unsaid (broken b ++ rest) (tags n is.wrote.others ++ owed) a → SaidOf n run a ⊎ Behind unsaid rest owed a
  behind_wrote true broke t = behind_broken is.wrote.others refl broke t
  behind_wrote false broke t = inr (record { said = t.said; place = t.place; are = t.are; at = subst (λ l. slice_get (answers t.said (tags n l ++ owed)) t.place ≡ Some a) (is.wrote.all whole.written broke).0 t.at })

  pub run_said : (said : List Side) (p : ℕ) → said ++ unsaid ≡ run.sides ++ rest → slice_get (answers said (tags n (bodies_of is) ++ owed)) p ≡ Some a → SaidOf n run a ⊎ Behind unsaid rest owed a
  run_said said p e at = ⊎_elim (λ t. inl t) (λ t. behind_wrote run.wrote.broke refl t) (wrote_or limit n run is a unsaid rest owed said p e at)

abbrev all_sides : List Run → List Side
all_sides runs = chain (map (λ (r : Run). r.sides) runs)

abbrev all_orders : List Run → List Order
all_orders runs = chain (map (λ (r : Run). r.orders) runs)

pub none_said : (said : List Side) (p : ℕ) (a : Answer) → slice_get (answers said []) p ≡ Some a → ⊥
none_said [] p a at = absurd cc
none_said (s ∷ said) p a at = absurd cc

-- each run but the last one is whole; behind what the runs took stand orders that were never taken
pub all_said : (limit m : ℕ) (ids : List ℕ) (runs : List Run) (unheard : List Order) → ((k : ℕ) (run : Run) → slice_get runs k ≡ Some run → IsRun limit run) → FrontWhole runs → Rise m ids → (said unsaid : List Side) (p : ℕ) (a : Answer) → said ++ unsaid ≡ all_sides runs
    → slice_get (answers said (tagged ids (all_orders runs ++ unheard))) p ≡ Some a → SaidBy ids runs a.0.0 a.0.1 a.1
all_said limit m [] runs unheard each front rise said unsaid p a e at = absurd (none_said said p a at)
all_said limit m (n ∷ ids) [] unheard each front rise said unsaid p a e at = absurd (none_left said unsaid (tagged (n ∷ ids) unheard) p a e at)
all_said limit m (n ∷ ids) (r ∷ []) unheard each front rise said unsaid p a e at =
    let is = each 0 r refl in
    let bodies = bodies_of is in
    let ends = end_orders r.wrote.end in
    let spread : tagged (n ∷ ids) ((r.orders ++ []) ++ unheard) ≡ tags n bodies ++ tagged (n ∷ ids) (ends ++ unheard) =
    ap (λ l. tagged (n ∷ ids) (l ++ unheard)) (append-nil r.orders ∙ is.wrote.took) ∙ ap (λ l. tagged (n ∷ ids) l) (append_assoc (body_orders bodies) ends unheard) ∙ tagged_bodies n ids bodies (ends ++ unheard) in
    let t = last_said limit n r is a unsaid (tagged (n ∷ ids) (ends ++ unheard)) said p e (subst (λ l. slice_get (answers said l) p ≡ Some a) spread at) in
    record { place = 0; of = ap (λ x. Some x) (sym t.0); run = r; at = refl; said = t.1 }
all_said limit m (n ∷ ids) (r ∷ v ∷ runs) unheard each front rise said unsaid p a e at =
    let is = each 0 r refl in
    let w = front.0 (λ none. absurd cc) in
    let bodies = bodies_of is in
    let later = all_orders (v ∷ runs) in
    let os = later ++ unheard in
    let spread : tagged (n ∷ ids) ((r.orders ++ later) ++ unheard) ≡ tags n bodies ++ tagged ids os =
    ap (λ l. tagged (n ∷ ids) l) (append_assoc r.orders later unheard) ∙ ap (λ l. tagged (n ∷ ids) (l ++ os)) (is.wrote.took ∙ ap (λ x. body_orders bodies ++ end_orders x) w.ordered)
    ∙ ap (λ l. tagged (n ∷ ids) l) (append_assoc (body_orders bodies) (order_of w.end ∷ []) os) ∙ tagged_run n ids bodies w.end os in
    ⊎_elim
    (λ t. record { place = 0; of = ap (λ x. Some x) (sym t.0); run = r; at = refl; said = t.1 })
    (λ t.
    let more = all_said limit (n + 1) ids (v ∷ runs) unheard (λ k run at. each (suc k) run at) front.1 rise.1 t.said unsaid t.place a t.are t.at in
    record { place = suc more.place; of = more.of; run = more.run; at = more.at; said = more.said })
    (run_said limit n r is w unsaid (all_sides (v ∷ runs)) (tagged ids os) (off_tagged n (n + 1) ids os (omega arith) rise.1) a said p e (subst (λ l. slice_get (answers said l) p ≡ Some a) spread at))
