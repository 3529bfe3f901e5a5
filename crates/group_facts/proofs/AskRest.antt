-- Behind every entry each editor that a start asked runs, in the group whose last start it is.
use Rattle.std.proofs.Common.{◌≡◌, ℕ, Bool, true, false, cond, ◌||◌, List, [], ◌∷◌, ◌++◌, filter, map, nat_eq, Option, Some, None, refl, sym, ◌∙◌, ap, ap₂, subst, append-nil}
use Rattle.std.specs.List.{AllByRecursion, list_any}
use Rattle.mux_history.specs.declared.cause.Cause.{Cause}
use Rattle.mux_history.specs.declared.out.Out.{Out}
use Rattle.mux_history.specs.declared.out.Out.TheVariants.{ToServer}
use Rattle.rpc_message.specs.Message.{same_id}
use Rattle.rpc_message.specs.ValueTexts.{IsIdText}
use Rattle.event_model.specs.Event.{Event, behind}
use Rattle.event_model.specs.Row.{choose, each, nothing, on, outs, ◌⨾◌}
use Rattle.event_model.specs.Settings.{Settings}
use Rattle.event_model.specs.Spawns.{start_of}
use Rattle.event_model.specs.Stages.{is_ready, life_of}
use Rattle.event_model.proofs.Frames.{never}
use Rattle.mux_model.specs.Documents.{held_at}
use Rattle.mux_model.specs.Rows.{to_start}
use Rattle.mux_model.proofs.DocumentFolds.{outs_to_start}
use Rattle.mux_facts.proofs.Keeps.{behind_both}
use Rattle.mux_facts.proofs.Lists.{all_filtered, all_of}
use Rattle.mux_facts.proofs.Words.{number_same, same_id_itself, same_number}
use Rattle.group_words.specs.Houses.{home_of}
use Rattle.group_rows.specs.Asks.{Ask, asks_of, is_under, is_with}
use Rattle.group_rows.specs.Forwarded.{forwarding_of}
use Rattle.group_rows.specs.Leaves.{cancel, cancel_text, cancels, closings, leave_bodies, leave_row, refusals, refuse, uncancelled_of}
use Rattle.group_rows.specs.Texts.{texts_of}
use Rattle.group_facts.specs.Facts.{Asks, IsAsked}
use Rattle.group_facts.proofs.AskSeats.{Away, MidSeat, Pending, bodies_all, refused_all}
use Rattle.group_facts.proofs.LeaveRows.{cancels_outs, refusal_of, refusals_outs}

the : {v w : ℕ} → ◌≡◌ {A = Option ℕ} (Some v) (Some w) → v ≡ w
the e = cc

none_some : {v : ℕ} → ◌≡◌ {A = Option ℕ} None (Some v) → ⊥
none_some e = cc

or_second : (a b : Bool) → b ≡ true → (a || b) ≡ true
or_second true b h = refl
or_second false b h = h

-- each ask of an editor is among its asks

pend_more : (e : ℕ) (a : Ask) (xs : List Ask) (b : Bool) (c : Ask) → Pending e xs c → Pending e (cond b (a ∷ xs) xs) c
pend_more e a xs true c h = λ same. or_second (same_id c.id a.id) (list_any (is_under (Some c.id)) xs) (h same)
pend_more e a xs false c h = h

pub all_pending : (e : ℕ) (xs : List Ask) → AllByRecursion (Pending e (filter (is_with e) xs)) xs
all_pending e [] = tt
all_pending e (a ∷ xs) = (first, all_of (Pending e (filter (is_with e) xs)) (Pending e (cond (nat_eq a.editor e) (a ∷ filter (is_with e) xs) (filter (is_with e) xs))) (λ c h. pend_more e a (filter (is_with e) xs) (nat_eq a.editor e) c h) xs (all_pending e xs))
  where
    first : Pending e (cond (nat_eq a.editor e) (a ∷ filter (is_with e) xs) (filter (is_with e) xs)) a
    first same = ap (λ b. list_any (is_under (Some a.id)) (cond b (a ∷ filter (is_with e) xs) (filter (is_with e) xs))) same ∙ ap (λ b. b || list_any (is_under (Some a.id)) (filter (is_with e) xs)) (same_id_itself a.id)

-- An editor that leaves

module _ (settings : Settings) (before : List Event) (cause : Cause) where
  abbrev Seat : ℕ → Ask → Type 0
  Seat s a = MidSeat settings before cause s a

  pub none_with : (e s : ℕ) (xs : List Ask) → AllByRecursion (Seat s) xs → ((a : Ask) → Seat s a → a.editor ≡ e → ⊥) → AllByRecursion (Away e) xs
  none_with e s xs h f = all_of (Seat s) (Away e) (λ a k. go a k (nat_eq a.editor e) refl) xs h
    where
      go : (a : Ask) → Seat s a → (b : Bool) → nat_eq a.editor e ≡ b → b ≡ false
      go a k true same = absurd (f a k (number_same a.editor e same))
      go a k false other = refl

  -- the group of an ask's editor
  pub seat_home : (s : ℕ) (a : Ask) (k : Seat s a) (e : ℕ) → a.editor ≡ e → home_of settings e before ≡ Some k.group
  seat_home s a k e same = ap (λ n. home_of settings n before) (sym same) ∙ k.home

  module _ (facts : Asks settings before) (e : ℕ) (place : List Event) (seated : (s : ℕ) → AllByRecursion (Seat s) (asks_of settings s place)) (pending : (s : ℕ) → AllByRecursion (Pending e (filter (is_with e) (asks_of settings s before))) (asks_of settings s place)) (s : ℕ) where
    at_place : AllByRecursion (Away e) (asks_of settings s place) → AllByRecursion (Away e) (asks_of settings s (behind place []))
    at_place h = subst (λ z. AllByRecursion (Away e) (asks_of settings s z)) (sym (append-nil place)) h

    module _ (g t : ℕ) where
      abbrev ns : List ℕ
      ns = uncancelled_of e (forwarding_of settings t before).open_requests

      abbrev asked : List Ask
      asked = filter (is_with e) (asks_of settings t before)

      abbrev bodies : List (List ℕ)
      bodies = leave_bodies settings.limits.versions (λ u. held_at t u before) e (texts_of settings g before).opens (texts_of settings g before).opens

      abbrev to : List (List ℕ) → List Out
      to xs = map (λ b. ToServer t b) xs

      parted_outs : outs (each (cancel t) ns ⨾ (each (refuse t) asked ⨾ to_start t bodies)) place ≡ to (map cancel_text ns) ++ (to (map refusal_of asked) ++ to bodies)
      parted_outs =
          let first = outs (each (cancel t) ns) place in
          let second = outs (each (refuse t) asked) (behind place first) in
          ap₂ (λ x y. x ++ y) (cancels_outs t ns place) (ap₂ (λ x y. x ++ y) (refusals_outs t asked (behind place first)) (outs_to_start t bodies (behind (behind place first) second)))

      by_start : home_of settings e before ≡ Some g → start_of g before ≡ Some t → (c : Bool) → nat_eq t s ≡ c → AllByRecursion (Away e) (asks_of settings s (behind place (to (map cancel_text ns) ++ (to (map refusal_of asked) ++ to bodies))))
      by_start home start c is = subst (λ z. AllByRecursion (Away e) (asks_of settings s z)) (sym (behind_both place (to (map cancel_text ns)) (to (map refusal_of asked) ++ to bodies) ∙ behind_both (behind place (to (map cancel_text ns))) (to (map refusal_of asked)) (to bodies)))
          (bodies_all settings (Away e) s t (behind (behind place (to (map cancel_text ns))) (to (map refusal_of asked))) bodies (go c is))
        where
          go : (c : Bool) → nat_eq t s ≡ c → AllByRecursion (Away e) (asks_of settings s (behind (behind place (to (map cancel_text ns))) (to (map refusal_of asked))))
          go true same = let is : t ≡ s = number_same t s same in
              subst (λ n. AllByRecursion (Away e) (asks_of settings n (behind (behind place (to (map cancel_text ns))) (to (map refusal_of asked))))) is
              (refused_all settings e t asked (all_filtered (IsAsked t before) (λ (a : Ask). IsIdText a.id a.bytes) (is_with e) (λ a w k. k.text) (asks_of settings t before) (facts t).asked)
              (behind place (to (map cancel_text ns))) (bodies_all settings (Pending e asked) t t place (map cancel_text ns) (pending t)))
          go false other = bodies_all settings (Away e) s t (behind place (to (map cancel_text ns))) (map refusal_of asked) (bodies_all settings (Away e) s t place (map cancel_text ns)
              (none_with e s (asks_of settings s place) (seated s) (λ a k same. never (sym (apart a k same) ∙ other))))
            where
              apart : (a : Ask) (k : Seat s a) → a.editor ≡ e → nat_eq t s ≡ true
              apart a k same = let in_group : k.group ≡ g = the (sym (seat_home s a k e same) ∙ home) in
                  let is : s ≡ t = the (sym k.last ∙ (ap (λ i. start_of i before) in_group ∙ start)) in subst (λ n. nat_eq t n ≡ true) (sym is) (same_number t)

      by_ready : home_of settings e before ≡ Some g → start_of g before ≡ Some t → (b : Bool) → is_ready (life_of t before).stage ≡ b
          → AllByRecursion (Away e) (asks_of settings s (behind place (outs (choose b (each (cancel t) ns) nothing ⨾ (choose b (each (refuse t) asked) nothing ⨾ choose b (to_start t bodies) nothing)) place)))
      by_ready home start true ready = subst (λ xs. AllByRecursion (Away e) (asks_of settings s (behind place xs))) (sym parted_outs) (by_start home start (nat_eq t s) refl)
      by_ready home start false off = at_place (none_with e s (asks_of settings s place) (seated s) (λ a k same.
          let in_group : k.group ≡ g = the (sym (seat_home s a k e same) ∙ home) in
          let is : s ≡ t = the (sym k.last ∙ (ap (λ i. start_of i before) in_group ∙ start)) in
          never (sym (ap (λ n. is_ready (life_of n before).stage) (sym is) ∙ ap is_ready k.ready) ∙ off)))

    by_group : (g : ℕ) → home_of settings e before ≡ Some g → (o : Option ℕ) → start_of g before ≡ o
        → AllByRecursion (Away e) (asks_of settings s (behind place (outs (on o nothing (λ t. cancels settings before t e ⨾ (refusals settings before t e ⨾ closings settings before g t e))) place)))
    by_group g home (Some t) start = by_ready g t home start (is_ready (life_of t before).stage) refl
    by_group g home None none = at_place (none_with e s (asks_of settings s place) (seated s) (λ a k same.
        let in_group : k.group ≡ g = the (sym (seat_home s a k e same) ∙ home) in none_some (sym none ∙ (ap (λ i. start_of i before) (sym in_group) ∙ k.last))))

    by_home : (o : Option ℕ) → home_of settings e before ≡ o
        → AllByRecursion (Away e) (asks_of settings s (behind place (outs (on o nothing (λ g. on (start_of g before) nothing (λ t. cancels settings before t e ⨾ (refusals settings before t e ⨾ closings settings before g t e)))) place)))
    by_home (Some g) home = by_group g home (start_of g before) refl
    by_home None none = at_place (none_with e s (asks_of settings s place) (seated s) (λ a k same. none_some (sym none ∙ seat_home s a k e same)))

    pub leave_clean : AllByRecursion (Away e) (asks_of settings s (behind place (outs (leave_row settings before e) place)))
    leave_clean = by_home (home_of settings e before) refl
