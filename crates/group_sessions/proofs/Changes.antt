-- S6 and S7: each editor that runs in a start's group is told of what the start registers and takes back.
use Rattle.std.proofs.Common.{◌≡◌, ℕ, zero, suc, ◌+◌, ◌^◌, ◌<◌, ◌≤◌, Bool, true, false, cond, List, [], ◌∷◌, ◌++◌, append-nil, filter, nat_eq, ◌⊎◌, inl, inr, refl, sym, ◌∙◌, ap, subst, ltb-true, arith}
use Rattle.std.specs.List.{range_with_len}
use Rattle.mux_history.specs.declared.out.Out.TheVariants.{ToEditor}
use Rattle.rpc_message.specs.Message.{message_of}
use Rattle.event_model.specs.Event.{Event, behind}
use Rattle.event_model.specs.Row.{Row, choose, each, nothing, outs, send}
use Rattle.event_model.proofs.Frames.{never}
use Rattle.mux_facts.proofs.Keeps.{behind_both}
use Rattle.mux_facts.proofs.Words.{number_same, same_number}
use Rattle.session_laws.specs.ClientRules.{after_told}
use Rattle.registrations.specs.declared.registration.Registration.{Registration}
use Rattle.registrations.specs.Items.{again, others}
use Rattle.group_rows.specs.Asks.{has_number, next_ask}
use Rattle.group_rows.specs.Live.{register_text, unregister_text}
use Rattle.group_rows.specs.LiveRows.{call, has_some, registering, unregister_any}
use Rattle.group_rows.specs.LiveTexts.{AreWritten}
use Rattle.group_rows.proofs.LiveTexts.{again_written}
use Rattle.group_sessions.proofs.Enrolled.{Adds, Between, Drops, Same, again_in, between_dropped, between_none, items_out, may_add, may_drop, register_adds, same_added, same_dropped, unregister_drops}
use Rattle.group_sessions.proofs.Registered.{At, at_other, at_told}
use Rattle.group_sessions.proofs.Numbers.{out_rests}

-- One after the other

module _ (f : ℕ → Row) (p : ℕ → Bool) (e : ℕ) where
  abbrev Apart : (List Event → Type 0) → Type 0
  Apart Z = (n : ℕ) → nat_eq n e ≡ false → (events : List Event) → Z events → Z (behind events (outs (f n) events))

  one_more : (Z : List Event → Type 0) (events : List Event) (n : ℕ) (ns : List ℕ) → Z (behind (behind events (outs (f n) events)) (outs (each f ns) (behind events (outs (f n) events)))) → Z (behind events (outs (each f (n ∷ ns)) events))
  one_more Z events n ns h = subst Z (sym (behind_both events (outs (f n) events) (outs (each f ns) (behind events (outs (f n) events))))) h

  abbrev from : ℕ → ℕ → List ℕ
  from k len = filter p (range_with_len k len)

  below : (k : ℕ) → e < k → nat_eq k e ≡ false
  below k low = go (nat_eq k e) refl
    where
      go : (b : Bool) → nat_eq k e ≡ b → b ≡ false
      go false h = refl
      go true h = absurd (let same : k ≡ e = number_same k e h in omega (arith, same, low))

  -- those behind e
  beyond : (Z : List Event → Type 0) → Apart Z → (len k : ℕ) → e < k → (events : List Event) → Z events → Z (behind events (outs (each f (from k len)) events))
  beyond Z other zero k low events h = subst Z (sym (append-nil events)) h
  beyond Z other (suc len) k low events h = go (p k) (λ places i. beyond Z other len (k + 1) (omega (arith, low)) places i)
    where
      go : (b : Bool) → ((places : List Event) → Z places → Z (behind places (outs (each f (from (k + 1) len)) places))) → Z (behind events (outs (each f (cond b (k ∷ from (k + 1) len) (from (k + 1) len))) events))
      go true more = one_more Z events k (from (k + 1) len) (more (behind events (outs (f k) events)) (other k (below k low) events h))
      go false more = more events h

  -- none of them is e
  pub passed : (Z : List Event → Type 0) → Apart Z → p e ≡ false → (len k : ℕ) (events : List Event) → Z events → Z (behind events (outs (each f (from k len)) events))
  passed Z other off zero k events h = subst Z (sym (append-nil events)) h
  passed Z other off (suc len) k events h = go (p k) refl (λ places i. passed Z other off len (k + 1) places i)
    where
      apart : (b : Bool) → nat_eq k e ≡ b → p k ≡ true → b ≡ false
      apart false same on = refl
      apart true same on = never (sym on ∙ ap p (number_same k e same) ∙ off)

      go : (b : Bool) → p k ≡ b → ((places : List Event) → Z places → Z (behind places (outs (each f (from (k + 1) len)) places))) → Z (behind events (outs (each f (cond b (k ∷ from (k + 1) len) (from (k + 1) len))) events))
      go true on more = one_more Z events k (from (k + 1) len) (more (behind events (outs (f k) events)) (other k (apart (nat_eq k e) refl on) events h))
      go false no_one more = more events h

  -- e is one of them
  pub reached : (X Y : List Event → Type 0) → Apart X → Apart Y → ((events : List Event) → X events → Y (behind events (outs (f e) events))) → p e ≡ true → (len k : ℕ) → k ≤ e → e < k + len → (events : List Event) → X events → Y (behind events (outs (each f (from k len)) events))
  reached X Y other late own on zero k high low events h = absurd (omega (arith, high, low))
  reached X Y other late own on (suc len) k high low events h = by_number (nat_eq k e) refl (λ higher places i. reached X Y other late own on len (k + 1) higher (omega (arith, low)) places i)
    where
      by_number : (b : Bool) → nat_eq k e ≡ b → (k + 1 ≤ e → (places : List Event) → X places → Y (behind places (outs (each f (from (k + 1) len)) places))) → Y (behind events (outs (each f (from k (suc len))) events))
      by_number true same more = let is : k ≡ e = number_same k e same in
          subst (λ b. Y (behind events (outs (each f (cond b (k ∷ from (k + 1) len) (from (k + 1) len))) events))) (sym (ap p is ∙ on))
          (one_more Y events k (from (k + 1) len) (beyond Y late len (k + 1) (omega (arith, is)) (behind events (outs (f k) events)) (subst (λ n. Y (behind events (outs (f n) events))) (sym is) (own events h))))
      by_number false apart more = go (p k)
        where
          higher : k + 1 ≤ e
          higher = let differs : k ≡ e → ⊥ = λ is. never (sym (same_number e) ∙ (ap (λ n. nat_eq n e) (sym is) ∙ apart)) in omega (arith, high, differs)

          go : (b : Bool) → Y (behind events (outs (each f (cond b (k ∷ from (k + 1) len) (from (k + 1) len))) events))
          go true = one_more Y events k (from (k + 1) len) (more higher (behind events (outs (f k) events)) (other k apart events h))
          go false = more higher events h

-- What one of them is told

module _ (e : ℕ) (live : List Registration) (written : AreWritten live) where
  -- these are registered there, or no number is left
  pub record Holds (xs : List (List ℕ)) (rs : List Registration) (events : List Event) : Type 0 where
    pub at : At e xs events
    pub same : Same xs rs ⊎ (has_number e events ≡ false)

  pub record Some_hold (rs : List Registration) (events : List Event) : Type 0 where
    pub xs : List (List ℕ)
    pub holds : Holds xs rs events

  other_call : (text : ℕ → List ℕ) (n : ℕ) → nat_eq n e ≡ false → (xs : List (List ℕ)) (events : List Event) → At e xs events → At e xs (behind events (outs (call text n) events))
  other_call text n other xs events h = go (has_number n events)
    where
      go : (b : Bool) → At e xs (behind events (outs (choose b (send (ToEditor n (text (next_ask n events)))) nothing) events))
      go true = at_other e n xs events (text (next_ask n events)) other h
      go false = subst (At e xs) (sym (append-nil events)) h

  other_any : (b : Bool) (text : ℕ → List ℕ) (n : ℕ) → nat_eq n e ≡ false → (xs : List (List ℕ)) (events : List Event) → At e xs events → At e xs (behind events (outs (choose b (call text n) nothing) events))
  other_any true text n other xs events h = other_call text n other xs events h
  other_any false text n other xs events h = subst (At e xs) (sym (append-nil events)) h

  other_both : (gone items : List Registration) (n : ℕ) → nat_eq n e ≡ false → (xs : List (List ℕ)) (events : List Event) → At e xs events → At e xs (behind events (outs (registering gone items n) events))
  other_both gone items n other xs events h = subst (At e xs) (sym (behind_both events (outs (unregister_any gone n) events) (outs (call (register_text items) n) (behind events (outs (unregister_any gone n) events)))))
      (other_call (register_text items) n other xs (behind events (outs (unregister_any gone n) events)) (other_any (has_some gone) (unregister_text gone) n other xs events h))

  abbrev Still : Row → Type 0
  Still row = (xs : List (List ℕ)) (events : List Event) → At e xs events → At e xs (behind events (outs row events))

  still_holds : (row : Row) → Still row → (xs : List (List ℕ)) (rs : List Registration) (events : List Event) → Holds xs rs events → Holds xs rs (behind events (outs row events))
  still_holds row still xs rs events h = record { at = still xs events h.at; same = go h.same }
    where
      go : Same xs rs ⊎ (has_number e events ≡ false) → Same xs rs ⊎ (has_number e (behind events (outs row events)) ≡ false)
      go (inl k) = inl k
      go (inr k) = inr (out_rests e events (outs row events) k)

  -- at one place
  pub still_there : (row : Row) (events : List Event) → ((xs : List (List ℕ)) → At e xs events → At e xs (behind events (outs row events))) → (rs : List Registration) → Some_hold rs events → Some_hold rs (behind events (outs row events))
  still_there row events still rs h = record { xs = h.xs; holds = record { at = still h.xs (h.holds).at; same = go (h.holds).same } }
    where
      go : Same h.xs rs ⊎ (has_number e events ≡ false) → Same h.xs rs ⊎ (has_number e (behind events (outs row events)) ≡ false)
      go (inl k) = inl k
      go (inr k) = inr (out_rests e events (outs row events) k)

  pub still_some : (row : Row) → Still row → (rs : List Registration) (events : List Event) → Some_hold rs events → Some_hold rs (behind events (outs row events))
  still_some row still rs events h = record { xs = h.xs; holds = still_holds row still h.xs rs events h.holds }

  pub small : (events : List Event) → has_number e events ≡ true → next_ask e events < 2 ^ 128
  small events room = let low : next_ask e events < 2 ^ 64 = ltb-true (next_ask e events) (2 ^ 64) room in omega (arith, low)

  -- S7
  taken : (items : List Registration) (xs : List (List ℕ)) (events : List Event) → Holds xs live events → Some_hold (others items live) (behind events (outs (call (unregister_text (again items live)) e) events))
  taken items xs events h = go (has_number e events) refl h.same
    where
      go : (b : Bool) → has_number e events ≡ b → Same xs live ⊎ (has_number e events ≡ false) → Some_hold (others items live) (behind events (outs (choose b (send (ToEditor e (unregister_text (again items live) (next_ask e events)))) nothing) events))
      go true room (inr none) = never (sym room ∙ none)
      go true room (inl same) =
          let text = unregister_text (again items live) (next_ask e events) in
          let k : Drops (message_of text) (again items live) = unregister_drops (again items live) (again_written items live written) (next_ask e events) (small events room) in
          record { xs = after_told xs (message_of text); holds = record { at = at_told e xs events text (may_drop xs (message_of text) (again items live) k (again_in xs items live same)) h.at; same = inl (same_dropped xs (message_of text) items live k same) } }
      go false none same = record { xs = xs; holds = record { at = subst (At e xs) (sym (append-nil events)) h.at; same = inr (ap (has_number e) (append-nil events) ∙ none) } }

  -- S6
  record Mid (items : List Registration) (events : List Event) : Type 0 where
    xs : List (List ℕ)
    at : At e xs events
    between : Between xs items live ⊎ (has_number e events ≡ false)

  pub none_gone : (rs : List Registration) → has_some rs ≡ false → rs ≡ []
  none_gone [] h = refl
  none_gone (r ∷ rs) h = never h

  first_told : (items : List Registration) (xs : List (List ℕ)) (events : List Event) → Holds xs live events → Mid items (behind events (outs (unregister_any (again items live) e) events))
  first_told items xs events h = any (has_some (again items live)) refl
    where
      go : (b : Bool) → has_number e events ≡ b → Same xs live ⊎ (has_number e events ≡ false) → Mid items (behind events (outs (choose b (send (ToEditor e (unregister_text (again items live) (next_ask e events)))) nothing) events))
      go true room (inr none) = never (sym room ∙ none)
      go true room (inl same) =
          let text = unregister_text (again items live) (next_ask e events) in
          let k : Drops (message_of text) (again items live) = unregister_drops (again items live) (again_written items live written) (next_ask e events) (small events room) in
          record { xs = after_told xs (message_of text); at = at_told e xs events text (may_drop xs (message_of text) (again items live) k (again_in xs items live same)) h.at; between = inl (between_dropped xs (message_of text) items live k same) }
      go false none same = record { xs = xs; at = subst (At e xs) (sym (append-nil events)) h.at; between = inr (ap (has_number e) (append-nil events) ∙ none) }

      by_same : again items live ≡ [] → Same xs live ⊎ (has_number e events ≡ false) → Between xs items live ⊎ (has_number e (behind events []) ≡ false)
      by_same empty (inl same) = inl (between_none xs items live empty same)
      by_same empty (inr none) = inr (ap (has_number e) (append-nil events) ∙ none)

      any : (b : Bool) → has_some (again items live) ≡ b → Mid items (behind events (outs (choose b (call (unregister_text (again items live)) e) nothing) events))
      any true some = go (has_number e events) refl h.same
      any false none = record { xs = xs; at = subst (At e xs) (sym (append-nil events)) h.at; between = by_same (none_gone (again items live) none) h.same }

  then_told : (items : List Registration) → AreWritten items → (events : List Event) → Mid items events → Some_hold (others items live ++ items) (behind events (outs (call (register_text items) e) events))
  then_told items spelt events h = go (has_number e events) refl h.between
    where
      go : (b : Bool) → has_number e events ≡ b → Between h.xs items live ⊎ (has_number e events ≡ false) → Some_hold (others items live ++ items) (behind events (outs (choose b (send (ToEditor e (register_text items (next_ask e events)))) nothing) events))
      go true room (inr none) = never (sym room ∙ none)
      go true room (inl between) =
          let text = register_text items (next_ask e events) in
          let k : Adds (message_of text) items = register_adds items spelt (next_ask e events) (small events room) in
          record { xs = after_told h.xs (message_of text); holds = record { at = at_told e h.xs events text (may_add h.xs (message_of text) items k (items_out h.xs items live between)) h.at; same = inl (same_added h.xs (message_of text) items live k between) } }
      go false none between = record { xs = h.xs; holds = record { at = subst (At e h.xs) (sym (append-nil events)) h.at; same = inr (ap (has_number e) (append-nil events) ∙ none) } }

  both_told : (items : List Registration) → AreWritten items → (xs : List (List ℕ)) (events : List Event) → Holds xs live events → Some_hold (others items live ++ items) (behind events (outs (registering (again items live) items e) events))
  both_told items spelt xs events h = let mid : List Event = behind events (outs (unregister_any (again items live) e) events) in
      subst (Some_hold (others items live ++ items)) (sym (behind_both events (outs (unregister_any (again items live) e) events) (outs (call (register_text items) e) mid))) (then_told items spelt mid (first_told items xs events h))

  -- all of them
  module _ (p : ℕ → Bool) (n : ℕ) where
    pub registers_all : (items : List Registration) → AreWritten items → p e ≡ true → e < n → (xs : List (List ℕ)) (events : List Event) → Holds xs live events → Some_hold (others items live ++ items) (behind events (outs (each (registering (again items live) items) (filter p (range_with_len 0 n))) events))
    registers_all items spelt on low xs events h = reached (registering (again items live) items) p e (Holds xs live) (Some_hold (others items live ++ items))
        (λ k apart places i. still_holds (registering (again items live) items k) (λ ys z j. other_both (again items live) items k apart ys z j) xs live places i)
        (λ k apart places i. still_some (registering (again items live) items k) (λ ys z j. other_both (again items live) items k apart ys z j) (others items live ++ items) places i)
        (λ places i. both_told items spelt xs places i) on n 0 (omega arith) (omega (arith, low)) events h

    pub takes_all : (items : List Registration) → p e ≡ true → e < n → (xs : List (List ℕ)) (events : List Event) → Holds xs live events → Some_hold (others items live) (behind events (outs (each (call (unregister_text (again items live))) (filter p (range_with_len 0 n))) events))
    takes_all items on low xs events h = reached (call (unregister_text (again items live))) p e (Holds xs live) (Some_hold (others items live))
        (λ k apart places i. still_holds (call (unregister_text (again items live)) k) (λ ys z j. other_call (unregister_text (again items live)) k apart ys z j) xs live places i)
        (λ k apart places i. still_some (call (unregister_text (again items live)) k) (λ ys z j. other_call (unregister_text (again items live)) k apart ys z j) (others items live) places i)
        (λ places i. taken items xs places i) on n 0 (omega arith) (omega (arith, low)) events h

    pub registers_none : (items : List Registration) → p e ≡ false → (xs : List (List ℕ)) (events : List Event) → At e xs events → At e xs (behind events (outs (each (registering (again items live) items) (filter p (range_with_len 0 n))) events))
    registers_none items off xs events h = passed (registering (again items live) items) p e (At e xs) (λ k apart places i. other_both (again items live) items k apart xs places i) off n 0 events h

    pub takes_none : (items : List Registration) → p e ≡ false → (xs : List (List ℕ)) (events : List Event) → At e xs events → At e xs (behind events (outs (each (call (unregister_text (again items live))) (filter p (range_with_len 0 n))) events))
    takes_none items off xs events h = passed (call (unregister_text (again items live))) p e (At e xs) (λ k apart places i. other_call (unregister_text (again items live)) k apart xs places i) off n 0 events h
