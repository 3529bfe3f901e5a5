-- Lanes that are opened one by one.
use Rattle.std.proofs.Common.{◌≡◌, ◌≢◌, ℕ, zero, suc, ◌<◌, ◌+◌, inl, inr, List, [], ◌∷◌, ◌++◌, length, slice_get, slice_set, Some, refl, ap, sym, ◌∙◌, subst, arith, append_assoc, append-nil}
use Rattle.std.proofs.lemmas.Option.{slice_get_within}
use Rattle.std.proofs.lemmas.List.{length-append}
use Rattle.lane_queue.specs.Ends.{HubSide}
use Rattle.lane_desk.specs.Desks.{AllUnused, IsUnused}
use Rattle.mux_serve.specs.declared.job.LaneJob.{LaneJob}
use Rattle.mux_daemon.specs.declared.open.Lanes.{Lanes}
use Rattle.mux_daemon.specs.declared.open.Hubs.{Hubs}
use Rattle.mux_daemon.specs.Opens.{AreOpened, IsOpened, Opened, OpenedLanes, SameOutsides}
use Rattle.mux_daemon.proofs.Places.{get_left, get_right, get_last, get_set, pairs_same, pairs_chain, pairs_set, same_item}

unused_more : (ends : List HubSide) (more : HubSide) → AllUnused ends → IsUnused more → AllUnused (ends ++ more ∷ [])
unused_more [] more all one zero x at = let same : more ≡ x = cc in subst (λ (z : HubSide). IsUnused z) same one
unused_more [] more all one (suc i) x at = absurd cc
unused_more (e ∷ ends) more all one zero x at = all zero x at
unused_more (e ∷ ends) more all one (suc i) x at = unused_more ends more (λ j y there. all (suc j) y there) one i x at

unused_all : (ends more : List HubSide) → AllUnused ends → AllUnused more → AllUnused (ends ++ more)
unused_all [] more f g i x at = g i x at
unused_all (e ∷ ends) more f g zero x at = f zero x at
unused_all (e ∷ ends) more f g (suc i) x at = unused_all ends more (λ j y there. f (suc j) y there) g i x at

module _ {P : Type 0} where
  pub none_yet : (before : List HubSide) (jobs : List (LaneJob P)) → AreOpened 0 before before jobs
  none_yet before jobs = record { more = []; len = refl; is = sym (append-nil before); unused = λ i x e. absurd cc; each = λ i job hub at at'. absurd cc }

  pub one_more : (at : ℕ) (before hubs hubs' : List HubSide) (jobs : List (LaneJob P)) (job : LaneJob P) → at < length jobs → AreOpened at before hubs jobs → Opened hubs hubs' job → AreOpened (at + 1) before hubs' (slice_set jobs at job)
  one_more at before hubs hubs' jobs job within f o = record {
    more = f.more ++ o.hub ∷ [];
    len = length-append f.more (o.hub ∷ []) ∙ (let e = f.len in omega (arith, e));
    is = o.is ∙ ap (λ l. l ++ o.hub ∷ []) f.is ∙ append_assoc before f.more (o.hub ∷ []);
    unused = unused_more f.more o.hub f.unused o.opened.unused;
    each = λ i p hub at1 at2. elim (get_set jobs at i job p at1) [
      | inl t ↦
          let last : slice_get (f.more ++ o.hub ∷ []) i ≡ Some o.hub = subst (λ k. slice_get (f.more ++ o.hub ∷ []) k ≡ Some o.hub) (f.len ∙ sym t.0) (get_last f.more o.hub) in
          let same : o.hub ≡ hub = same_item o.hub hub (sym last ∙ at2) in
          subst (λ h. IsOpened p h) same (subst (λ j. IsOpened j o.hub) t.1 o.opened)
      | inr t ↦
          let other = t.0 in
          let below : i < length f.more = (let h = slice_get_within (f.more ++ o.hub ∷ []) i hub at2 in let e = length-append f.more (o.hub ∷ []) in let n : length f.more ≢ i = (λ s. other (sym s ∙ f.len)) in omega (arith, h, e, n)) in
          f.each i p hub t.1 (get_left f.more (o.hub ∷ []) i hub below at2)
    ];
  }

  pub same_more : (jobs0 jobs : List (LaneJob P)) (at : ℕ) (p q : LaneJob P) → SameOutsides jobs0 jobs → slice_get jobs at ≡ Some p → q.outside ≡ p.outside → SameOutsides jobs0 (slice_set jobs at q)
  same_more jobs0 jobs at p q f was e =
      pairs_chain (λ (x y : LaneJob P). y.outside ≡ x.outside) (λ (x y : LaneJob P). y.outside ≡ x.outside) (λ (x y : LaneJob P). y.outside ≡ x.outside) jobs0 jobs (slice_set jobs at q) f
      (pairs_set (λ (x y : LaneJob P). y.outside ≡ x.outside) jobs at p q was e (λ z. refl)) (λ x y z a b. b ∙ a)

  pub same_none : (jobs : List (LaneJob P)) → SameOutsides jobs jobs
  same_none jobs = pairs_same (λ (x y : LaneJob P). y.outside ≡ x.outside) jobs (λ z. refl)

  -- those of one group, among all
  pub in_all : (count offset : ℕ) (before after rest : List HubSide) (jobs : List (LaneJob P)) → AreOpened count before after jobs → count ≡ length jobs → offset ≡ length before
      → (i : ℕ) (job : LaneJob P) (hub : HubSide) → slice_get jobs i ≡ Some job → slice_get (after ++ rest) (offset + i) ≡ Some hub → IsOpened job hub
  in_all count offset before after rest jobs f e g i job hub at at' =
      let within = slice_get_within jobs i job at in
      let there : slice_get (before ++ (f.more ++ rest)) (offset + i) ≡ Some hub = subst (λ l. slice_get l (offset + i) ≡ Some hub) (ap (λ l. l ++ rest) f.is ∙ append_assoc before f.more rest) at' in
      let mine : slice_get (f.more ++ rest) i ≡ Some hub = get_right before (f.more ++ rest) i (offset + i) hub (omega (arith, g)) there in
      f.each i job hub at (get_left f.more rest i hub (let l = f.len in omega (arith, l, e, within)) mine)

  pub in_last : (before after rest : List HubSide) (job : LaneJob P) → Opened before after job → (hub : HubSide) (i : ℕ) → i ≡ length before → slice_get (after ++ rest) i ≡ Some hub → IsOpened job hub
  in_last before after rest job o hub i e at =
      let there : slice_get (before ++ (o.hub ∷ rest)) i ≡ Some hub = subst (λ l. slice_get l i ≡ Some hub) (ap (λ l. l ++ rest) o.is ∙ append_assoc before (o.hub ∷ []) rest) at in
      let mine : slice_get (o.hub ∷ rest) 0 ≡ Some hub = get_right before (o.hub ∷ rest) 0 i hub (omega (arith, e)) there in
      let same : o.hub ≡ hub = same_item o.hub hub mine in
      subst (λ h. IsOpened job h) same o.opened

opened_count : {P : Type 0} (count : ℕ) (before after : List HubSide) (jobs : List (LaneJob P)) → AreOpened count before after jobs → length after ≡ length before + count
opened_count count before after jobs f = ap length f.is ∙ length-append before f.more ∙ ap (λ k. length before + k) f.len

last_count : {P : Type 0} (before after : List HubSide) (job : LaneJob P) → Opened before after job → length after ≡ length before + 1
last_count before after job o = ap length o.is ∙ length-append before (o.hub ∷ [])

module _ {P B C : Type 0} where
  pub all_opened : (lanes : Lanes P B C) (hubs : Hubs) (ports : ℕ) (h1 h2 h3 : List HubSide) → AreOpened ports [] h1 lanes.ports.items → ports ≡ length lanes.ports.items → hubs.editors ≡ ports + 1 → Opened h1 h2 lanes.own
      → AreOpened hubs.servers h2 h3 lanes.berths.items → hubs.servers ≡ length lanes.berths.items → Opened h3 hubs.ends.items lanes.clock → OpenedLanes lanes hubs
  all_opened lanes hubs ports h1 h2 h3 f pe ee o g se c =
      let n1 : length h1 ≡ ports = (let c = opened_count ports [] h1 lanes.ports.items f in omega (arith, c)) in
      let n2 : length h2 ≡ length h1 + 1 = last_count h1 h2 lanes.own o in
      let n3 : length h3 ≡ length h2 + hubs.servers = opened_count hubs.servers h2 h3 lanes.berths.items g in
      let n4 : length hubs.ends.items ≡ length h3 + 1 = last_count h3 hubs.ends.items lanes.clock c in
      let all3 : hubs.ends.items ≡ h3 ++ c.hub ∷ [] = c.is in
      let all2 : hubs.ends.items ≡ h2 ++ (g.more ++ c.hub ∷ []) = all3 ∙ ap (λ l. l ++ c.hub ∷ []) g.is ∙ append_assoc h2 g.more (c.hub ∷ []) in
      let all1 : hubs.ends.items ≡ h1 ++ ((o.hub ∷ []) ++ (g.more ++ c.hub ∷ [])) = all2 ∙ ap (λ l. l ++ (g.more ++ c.hub ∷ [])) o.is ∙ append_assoc h1 (o.hub ∷ []) (g.more ++ c.hub ∷ []) in
      let u1 : AllUnused h1 = subst (λ l. AllUnused l) (sym f.is) f.unused in
      let u2 : AllUnused h2 = subst (λ l. AllUnused l) (sym o.is) (unused_more h1 o.hub u1 o.opened.unused) in
      let u3 : AllUnused h3 = subst (λ l. AllUnused l) (sym g.is) (unused_all h2 g.more u2 g.unused) in
      record {
        editors = ee ∙ ap (λ k. k + 1) pe;
        servers = se;
        count = omega (arith, n1, n2, n3, n4, ee);
        unused = subst (λ l. AllUnused l) (sym c.is) (unused_more h3 c.hub u3 c.opened.unused);
        ports = λ i job hub at at'. in_all ports 0 [] h1 ((o.hub ∷ []) ++ (g.more ++ c.hub ∷ [])) lanes.ports.items f pe refl i job hub at
            (subst (λ l. slice_get l (0 + i) ≡ Some hub) all1 (let z : 0 + i ≡ i = omega arith in subst (λ k. slice_get hubs.ends.items k ≡ Some hub) (sym z) at'));
        own = λ hub at. in_last h1 h2 (g.more ++ c.hub ∷ []) lanes.own o hub (length lanes.ports.items) (omega (arith, n1, pe)) (subst (λ l. slice_get l (length lanes.ports.items) ≡ Some hub) all2 at);
        berths = λ i job hub at at'. in_all hubs.servers hubs.editors h2 h3 (c.hub ∷ []) lanes.berths.items g se (omega (arith, n1, n2, ee)) i job hub at (subst (λ l. slice_get l (hubs.editors + i) ≡ Some hub) all3 at');
        clock = λ hub at. in_last h3 hubs.ends.items [] lanes.clock c hub (hubs.editors + hubs.servers) (omega (arith, n1, n2, n3, ee)) (subst (λ l. slice_get l (hubs.editors + hubs.servers) ≡ Some hub) (sym (append-nil hubs.ends.items)) at);
      }
