-- One frame, and one order more.
use Rattle.std.proofs.Common.{Bool, ◌≡◌, ◌≢◌, ℕ, ◌≤◌, List, [], ◌∷◌, ◌++◌, true, false, length, take, drop, replicate, refl, sym, ap, ◌∙◌, arith, append_assoc, append-nil}
use Rattle.std.specs.Prelude.{Option, Some, None}
use Rattle.std.specs.Io.KnownBytes.{append_known}
use Rattle.std.proofs.lemmas.List.{take-append-drop}
use Rattle.outside_io.specs.Faults.{Rose}
use Rattle.lane_lists.specs.declared.item.Order.{Order}
use Rattle.lane_lists.specs.declared.item.Order.TheVariants as order
use Rattle.lane_lists.specs.declared.item.Side.{Side}
use Rattle.lane_lists.specs.declared.item.Side.TheVariants as side
use Rattle.base_frame.specs.Frames.{framed, all_framed}
use Rattle.session_io.specs.declared.write.Wrote.{Wrote}
use Rattle.session_io.specs.Writes.{body_orders, WroteFrame, WroteFront, WroteSoFar, WroteAs, WroteOrder, dropped, wrote}
use Rattle.session_io.proofs.Reading.{known_none, known_more}

pub frame_whole : (body bytes : List ℕ) (w w' : Option (List ℕ)) (b n : ℕ) → bytes ≡ framed body → w' ≡ append_known w bytes → b ≤ n → WroteFrame body w w' b n true
frame_whole body bytes w w' b n e g later = record { part = bytes; rest = []; front = sym e ∙ sym (append-nil bytes); wrote = g; all = λ _. refl; fault = λ h. absurd cc; later = later }

pub frame_cut : (body bytes : List ℕ) (k : ℕ) (w w' : Option (List ℕ)) (b n : ℕ) → bytes ≡ framed body → w' ≡ append_known w (take k bytes) → Rose b n → b ≤ n → WroteFrame body w w' b n false
frame_cut body bytes k w w' b n e g rose later = record { part = take k bytes; rest = drop k bytes; front = sym e ∙ sym (take-append-drop k bytes); wrote = g; all = λ h. absurd cc; fault = λ _. rose; later = later }

all_framed_append : (a b : List (List ℕ)) → all_framed (a ++ b) ≡ all_framed a ++ all_framed b
all_framed_append [] b = refl
all_framed_append (x ∷ a) b = ap (λ l. framed x ++ l) (all_framed_append a b) ∙ sym (append_assoc (framed x) (all_framed a) (all_framed b))

orders_append : (a b : List (List ℕ)) → body_orders (a ++ b) ≡ body_orders a ++ body_orders b
orders_append [] b = refl
orders_append (x ∷ a) b = ap (λ l. order.Body x ∷ l) (orders_append a b)

wrotes_more : (a : List (List ℕ)) (body : List ℕ) → replicate (length (a ++ body ∷ [])) side.Wrote ≡ replicate (length a) side.Wrote ++ side.Wrote ∷ []
wrotes_more [] body = refl
wrotes_more (x ∷ a) body = ap (λ l. side.Wrote ∷ l) (wrotes_more a body)

one_more : (others : List (List ℕ)) (body : List ℕ) → others ++ body ∷ [] ≢ []
one_more [] body e = absurd cc
one_more (x ∷ others) body e = absurd cc

module _ (w0 w w1 : Option (List ℕ)) (b0 b b1 : ℕ) (t0 t t1 : List Order) (s0 s s1 : List Side) (body : List ℕ) where
  took_more : (whole others : List (List ℕ)) → t ≡ t0 ++ body_orders (whole ++ others) → t1 ≡ t ++ order.Body body ∷ [] → t1 ≡ t0 ++ body_orders ((whole ++ others) ++ body ∷ [])
  took_more whole others e f = f ∙ ap (λ l. l ++ order.Body body ∷ []) e ∙ append_assoc t0 (body_orders (whole ++ others)) (order.Body body ∷ []) ∙ ap (λ l. t0 ++ l) (sym (orders_append (whole ++ others) (body ∷ [])))

  -- a body that was written whole
  pub one_whole : WroteSoFar w0 w b0 b t0 t s0 s false → t1 ≡ t ++ order.Body body ∷ [] → WroteFrame body w w1 b b1 true → s1 ≡ s ++ side.Wrote ∷ [] → WroteSoFar w0 w1 b0 b1 t0 t1 s0 s1 false
  one_whole f took g items = record {
    whole = f.whole ++ body ∷ [];
    others = [];
    part = [];
    rest = [];
    took = took_more f.whole f.others f.took took ∙ ap (λ l. t0 ++ body_orders l) (ap (λ l. (f.whole ++ l) ++ body ∷ []) (f.unbroken refl).0 ∙ ap (λ l. l ++ body ∷ []) (append-nil f.whole) ∙ sym (append-nil (f.whole ++ body ∷ [])));
    wrote =
        let part_is : g.part ≡ framed body = sym (append-nil g.part) ∙ ap (λ l. g.part ++ l) (sym (g.all refl)) ∙ sym g.front in
        let before : all_framed f.whole ++ f.part ≡ all_framed f.whole = ap (λ l. all_framed f.whole ++ l) (f.unbroken refl).1 ∙ append-nil (all_framed f.whole) in
        g.wrote ∙ ap (λ x. append_known x g.part) (f.wrote ∙ ap (append_known w0) before) ∙ known_more w0 (all_framed f.whole) g.part
        ∙ ap (append_known w0) (ap (λ l. all_framed f.whole ++ l) (part_is ∙ sym (append-nil (framed body))) ∙ sym (all_framed_append f.whole (body ∷ [])) ∙ sym (append-nil (all_framed (f.whole ++ body ∷ []))));
    front = refl;
    items = items ∙ ap (λ l. l ++ side.Wrote ∷ []) (f.items ∙ ap (λ l. s0 ++ l) (append-nil (replicate (length f.whole) side.Wrote))) ∙ append_assoc s0 (replicate (length f.whole) side.Wrote) (side.Wrote ∷ [])
        ∙ ap (λ l. s0 ++ l) (sym (wrotes_more f.whole body) ∙ sym (append-nil (replicate (length (f.whole ++ body ∷ [])) side.Wrote)));
    unbroken = λ _. (refl, refl);
    failing = λ h. absurd cc;
    fault = λ h. absurd cc;
    later = (let x = f.later in let y = g.later in omega arith);
  }

  -- a body whose write failed
  pub one_broke : WroteSoFar w0 w b0 b t0 t s0 s false → t1 ≡ t ++ order.Body body ∷ [] → WroteFrame body w w1 b b1 false → s1 ≡ s ++ side.Broke ∷ [] → WroteSoFar w0 w1 b0 b1 t0 t1 s0 s1 true
  one_broke f took g items = record {
    whole = f.whole;
    others = body ∷ [];
    part = g.part;
    rest = g.rest;
    took = took_more f.whole f.others f.took took ∙ ap (λ l. t0 ++ body_orders l) (ap (λ l. (f.whole ++ l) ++ body ∷ []) (f.unbroken refl).0 ∙ ap (λ l. l ++ body ∷ []) (append-nil f.whole));
    wrote =
        let before : all_framed f.whole ++ f.part ≡ all_framed f.whole = ap (λ l. all_framed f.whole ++ l) (f.unbroken refl).1 ∙ append-nil (all_framed f.whole) in
        g.wrote ∙ ap (λ x. append_known x g.part) (f.wrote ∙ ap (append_known w0) before) ∙ known_more w0 (all_framed f.whole) g.part;
    front = append-nil (framed body) ∙ g.front;
    items = items ∙ ap (λ l. l ++ side.Broke ∷ []) (f.items ∙ ap (λ l. s0 ++ l) (append-nil (replicate (length f.whole) side.Wrote))) ∙ append_assoc s0 (replicate (length f.whole) side.Wrote) (side.Broke ∷ []);
    unbroken = λ h. absurd cc;
    failing = λ _ none. absurd cc;
    fault = λ _. (let x = f.later in let y = g.fault refl in omega arith);
    later = (let x = f.later in let y = g.later in omega arith);
  }

  -- a body behind a failed write
  pub one_dropped : WroteSoFar w0 w b0 b t0 t s0 s true → t1 ≡ t ++ order.Body body ∷ [] → WroteSoFar w0 w b0 b t0 t1 s0 s true
  one_dropped f took = record {
    whole = f.whole;
    others = f.others ++ body ∷ [];
    part = f.part;
    rest = f.rest ++ all_framed (body ∷ []);
    took = took_more f.whole f.others f.took took ∙ ap (λ l. t0 ++ body_orders l) (append_assoc f.whole f.others (body ∷ []));
    wrote = f.wrote;
    front = all_framed_append f.others (body ∷ []) ∙ ap (λ l. l ++ all_framed (body ∷ [])) f.front ∙ append_assoc f.part f.rest (all_framed (body ∷ []));
    items = f.items;
    unbroken = λ h. absurd cc;
    failing = λ _. one_more f.others body;
    fault = f.fault;
    later = f.later;
  }

-- nothing was taken yet
pub nothing_wrote : (w : Option (List ℕ)) (b : ℕ) (t : List Order) (s : List Side) → WroteSoFar w w b b t t s s false
nothing_wrote w b t s = record { whole = []; others = []; part = []; rest = []; took = sym (append-nil t); wrote = known_none w; front = refl; items = sym (append-nil s); unbroken = λ _. (refl, refl); failing = λ h. absurd cc; fault = λ h. absurd cc; later = omega arith }

pub front_none : (body : List ℕ) (w w' : Option (List ℕ)) (b n : ℕ) → w' ≡ w → b ≤ n → WroteFront body w w' b n
front_none body w w' b n e later = record { part = []; rest = framed body; front = refl; wrote = e ∙ known_none w; later = later }

pub front_some : (body : List ℕ) (w w' : Option (List ℕ)) (b n : ℕ) (whole : Bool) → WroteFrame body w w' b n whole → WroteFront body w w' b n
front_some body w w' b n whole f = record { part = f.part; rest = f.rest; front = f.front; wrote = f.wrote; later = f.later }

-- an order that is no body
abbrev pub IsNoBody : Order → Type 0
IsNoBody o = (body : List ℕ) → o ≡ order.Body body → ⊥

abbrev by : Option Order → Bool → Bool → Wrote
by end broke cut = record { end = end; broke = broke; cut = cut }

module _ (w0 w : Option (List ℕ)) (b0 b : ℕ) (t0 t t1 : List Order) (s0 s : List Side) (broke : Bool) where
  -- an order ends a session's writing
  pub ends_by : (o : Order) → IsNoBody o → WroteSoFar w0 w b0 b t0 t s0 s broke → t1 ≡ t ++ o ∷ [] → WroteAs w0 w b0 b t0 t1 s0 s (by (Some o) broke false)
  ends_by o none f e = record {
    whole = f.whole;
    others = f.others;
    part = f.part;
    rest = f.rest;
    took = e ∙ ap (λ l. l ++ o ∷ []) f.took ∙ append_assoc t0 (body_orders (f.whole ++ f.others)) (o ∷ []);
    wrote = f.wrote;
    front = f.front;
    all = λ _. f.unbroken;
    items = f.items;
    failing = f.failing;
    fault = f.fault;
    ends = λ cut h. absurd (cc);
    no_body = λ body h. none body (cc);
    later = f.later;
  }

  -- the core goes on no more
  pub cut_off : WroteSoFar w0 w b0 b t0 t s0 s broke → t1 ≡ t → WroteAs w0 w b0 b t0 t1 s0 s (by None broke true)
  cut_off f e = record {
    whole = f.whole;
    others = f.others;
    part = f.part;
    rest = f.rest;
    took = e ∙ f.took ∙ ap (λ l. t0 ++ l) (sym (append-nil (body_orders (f.whole ++ f.others))));
    wrote = f.wrote;
    front = f.front;
    all = λ h. absurd cc;
    items = f.items;
    failing = f.failing;
    fault = f.fault;
    ends = λ cut. absurd (cc);
    no_body = λ body h. absurd (cc);
    later = f.later;
  }

-- cut off in a body, of which nothing was said
pub cut_in : (w0 w w1 : Option (List ℕ)) (b0 b b1 : ℕ) (t0 t t1 : List Order) (s0 s s1 : List Side) (body : List ℕ) → WroteSoFar w0 w b0 b t0 t s0 s false → t1 ≡ t ++ order.Body body ∷ [] → WroteFront body w w1 b b1 → s1 ≡ s
    → WroteAs w0 w1 b0 b1 t0 t1 s0 s1 (by None false true)
cut_in w0 w w1 b0 b b1 t0 t t1 s0 s s1 body f took g none = record {
  whole = f.whole;
  others = body ∷ [];
  part = g.part;
  rest = g.rest;
  took = took_more w0 w w1 b0 b b1 t0 t t1 s0 s s1 body f.whole f.others f.took took ∙ ap (λ l. t0 ++ l) (ap body_orders (ap (λ l. (f.whole ++ l) ++ body ∷ []) (f.unbroken refl).0 ∙ ap (λ l. l ++ body ∷ []) (append-nil f.whole)) ∙ sym (append-nil (body_orders (f.whole ++ body ∷ []))));
  wrote =
      let before : all_framed f.whole ++ f.part ≡ all_framed f.whole = ap (λ l. all_framed f.whole ++ l) (f.unbroken refl).1 ∙ append-nil (all_framed f.whole) in
      g.wrote ∙ ap (λ x. append_known x g.part) (f.wrote ∙ ap (append_known w0) before) ∙ known_more w0 (all_framed f.whole) g.part;
  front = append-nil (framed body) ∙ g.front;
  all = λ h. absurd cc;
  items = none ∙ f.items;
  failing = λ h. absurd cc;
  fault = λ h. absurd cc;
  ends = λ cut. absurd (cc);
  no_body = λ other h. absurd (cc);
  later = (let x = f.later in let y = g.later in omega arith);
}

-- a sink that is closed keeps what was written
pub closed_frame : (body : List ℕ) (w w1 w2 : Option (List ℕ)) (b b1 b2 : ℕ) (whole : Bool) → WroteFrame body w w1 b b1 whole → w2 ≡ w1 → b1 ≤ b2 → WroteFrame body w w2 b b2 whole
closed_frame body w w1 w2 b b1 b2 whole f e later = record {
  part = f.part;
  rest = f.rest;
  front = f.front;
  wrote = e ∙ f.wrote;
  all = f.all;
  fault = λ h. (let x = f.fault h in omega arith);
  later = (let x = f.later in omega arith);
}

-- one order more
pub order_more : (w0 w w1 : Option (List ℕ)) (b0 b b1 : ℕ) (t0 t t1 : List Order) (s0 s s1 : List Side) (body : List ℕ) (broke broke' : Bool) → WroteSoFar w0 w b0 b t0 t s0 s broke → t1 ≡ t ++ order.Body body ∷ []
    → WroteOrder body w w1 b b1 s s1 broke broke' → WroteSoFar w0 w1 b0 b1 t0 t1 s0 s1 broke'
order_more w0 w w1 b0 b b1 t0 t t1 s0 s s1 body broke broke' f took (dropped was is same_w same_b same_s) =
    rw (is, same_w, sym same_b, same_s) (one_dropped w0 w w1 b0 b b1 t0 t t1 s0 s s1 body (rw was at f) took)
order_more w0 w w1 b0 b b1 t0 t t1 s0 s s1 body broke broke' f took (wrote true was is g items) = rw is (one_whole w0 w w1 b0 b b1 t0 t t1 s0 s s1 body (rw was at f) took g items)
order_more w0 w w1 b0 b b1 t0 t t1 s0 s s1 body broke broke' f took (wrote false was is g items) = rw is (one_broke w0 w w1 b0 b b1 t0 t t1 s0 s s1 body (rw was at f) took g items)
