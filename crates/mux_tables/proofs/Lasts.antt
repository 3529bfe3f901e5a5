-- The list of last starts, when an event names no start, or one.
use Rattle.std.proofs.Common.{◌≡◌, ℕ, ◌≤◌, ◌<◌, map, List, [], ◌∷◌, ◌++◌, refl, ap, sym, subst, ◌∙◌, false, arith, nat_eq, inl, inr}
use Rattle.std.specs.Prelude.{Option, Some, slice_get, slice_set, ◌⊎◌}
use Rattle.std.specs.List.{remove}
use Rattle.std.proofs.lemmas.Bool.{ne_eqb}
use Rattle.std.proofs.lemmas.Option.{slice_get_within}
use Rattle.event_model.specs.declared.stage.Stage.TheVariants.{Ended}
use Rattle.event_model.specs.Event.{Event}
use Rattle.event_model.specs.Spawns.{start_behind, start_of, starts_behind, starts_of, group_behind, group_of}
use Rattle.event_model.specs.Stages.{Life, life_behind, life_of}
use Rattle.event_model.specs.Settings.{Settings}
use Rattle.event_model.proofs.Frames.{one_more}
use Rattle.group_laws.specs.group_rows.specs.Forwarded.{forwarding_of}
use Rattle.event_model.proofs.Places.{each_set, Same, same, other, compare, same_item}
use Rattle.mux_tables.specs.declared.tables.Start.{Start}
use Rattle.mux_tables.specs.Stands.{AsksStay, blank, forwarded_of, IsLost, Lost, of_ids, of_life, OriginsStand, LastStands, LastsStand, Rise}
use Rattle.mux_tables.proofs.Frames.{asks_alone, names_editor, names_start, spawns, starts_alone, start_alone, group_alone, life_alone, last_stands, part_apart}
use Rattle.mux_tables.proofs.Placed.{groups_apart, left_there, lost_left, lost_set, place_before, rise_remove, rise_set}

pub same_place : {i j : ℕ} → ◌≡◌ {A = Option ℕ} (Some i) (Some j) → i ≡ j
same_place e = cc

-- the last starts of two groups are two
pub apart : (settings : Settings) (limit : ℕ) (events : List Event) (i j : ℕ) (x z : Start) → (j ≡ i → ⊥) → LastStands settings limit events i x → LastStands settings limit events j z → nat_eq x.life.start z.life.start ≡ false
apart settings limit events i j x z h s r = ne_eqb x.life.start z.life.start (λ e. h (same_place (sym r.home ∙ (ap (λ n. group_of n events) (sym e) ∙ s.home))))

-- a group's start was spawned
pub known : (settings : Settings) (limit : ℕ) (origins : List ℕ) (events : List Event) (i : ℕ) (x : Start) → OriginsStand origins events → LastStands settings limit events i x → x.life.start < starts_of events
known settings limit origins events i x s g = subst (λ n. x.life.start < n) (sym s.count) (slice_get_within origins x.life.start i (sym (s.group x.life.start) ∙ g.home))

-- a start is its group's last, or it ended
abbrev pub Last : List Event → ℕ → ℕ → Type 0
Last events s g = (start_of g events ≡ Some s) ⊎ ((life_of s events).stage ≡ Ended)

stage_stays : (events : List Event) (ev : Event) (s : ℕ) → names_start s ev ≡ false → (life_of s events).stage ≡ Ended → (life_of s (events ++ ev ∷ [])).stage ≡ Ended
stage_stays events ev s h q = ap (λ (l : Life). l.stage) (one_more (life_behind s) _ _ events ev refl ∙ life_alone s _ ev h) ∙ q

pub last_stays : (events : List Event) (ev : Event) (s g : ℕ) → spawns ev ≡ false → names_start s ev ≡ false → Last events s g → Last (events ++ ev ∷ []) s g
last_stays events ev s g k h (inl q) = inl (one_more (start_behind g) _ _ events ev q ∙ start_alone g _ ev k)
last_stays events ev s g k h (inr q) = inr (stage_stays events ev s h q)

pub group_before : (events : List Event) (ev : Event) (s g : ℕ) → spawns ev ≡ false → group_of s (events ++ ev ∷ []) ≡ Some g → group_of s events ≡ Some g
group_before events ev s g k e = sym (one_more (group_behind s) _ _ events ev refl ∙ group_alone s _ ev k) ∙ e

pub start_before : (events : List Event) (ev : Event) (g s : ℕ) → spawns ev ≡ false → start_of g (events ++ ev ∷ []) ≡ Some s → start_of g events ≡ Some s
start_before events ev g s k e = sym (one_more (start_behind g) _ _ events ev refl ∙ start_alone g _ ev k) ∙ e

-- of a group of which nothing is kept
module _ (settings : Settings) (limit g s : ℕ) (events : List Event) (l : Lost settings limit g s events) where
  pub lost_home : group_of s events ≡ Some g
  lost_home = subst (λ n. group_of n events ≡ Some g) l.number l.stands.home

  pub lost_ended : (life_of s events).stage ≡ Ended
  lost_ended = subst (λ n. (life_of n events).stage ≡ Ended) l.number (ap (λ (x : Life). x.stage) (l.stands.parts of_life) ∙ l.ended)

  pub lost_answered : (forwarding_of settings s events).open_requests ≡ []
  lost_answered = subst (λ n. (forwarding_of settings n events).open_requests ≡ []) l.number ((l.stands.parts of_ids).open_requests ∙ ap (map forwarded_of) l.answered)

-- the event names no start
pub lasts_stand : (settings : Settings) (limit : ℕ) (lasts : List Start) (events : List Event) (ev : Event) → ((n : ℕ) → names_start n ev ≡ false) → ((n : ℕ) → AsksStay settings n events ev) → spawns ev ≡ false → LastsStand settings limit lasts events → LastsStand settings limit lasts (events ++ ev ∷ [])
lasts_stand settings limit lasts events ev h a k s = record {
  rise = s.rise;
  each = λ j z at. last_stands settings limit events ev z.life.group z (h z.life.start) (a z.life.start) (λ o. start_alone z.life.group o ev k) (s.each j z at);
  lost = λ g n none e. let was = s.lost g n none (start_before events ev g n k e) in record { last = was.last; stands = last_stands settings limit events ev g was.last (h was.last.life.start) (a was.last.life.start) (λ o. start_alone g o ev k) was.stands; number = was.number; ended = was.ended; answered = was.answered };
  fresh = λ n l p. part_apart p settings limit (blank limit n) events ev (h n) (a n) (s.fresh n (subst (λ m. m ≤ n) (one_more starts_behind _ _ events ev refl ∙ starts_alone _ ev k) l) p);
  old = λ n g e. last_stays events ev n g k (h n) (s.old n g (group_before events ev n g k e));
}

-- the event names no start, and changes the asks of the last start of one group alone, which goes from x to y
pub asked_last : (settings : Settings) (limit : ℕ) (origins : List ℕ) (lasts after : List Start) (events : List Event) (ev : Event) (i : ℕ) (x y : Start) → ((n : ℕ) → names_start n ev ≡ false) → ((n : ℕ) → nat_eq x.life.start n ≡ false → AsksStay settings n events ev) → spawns ev ≡ false
    → slice_get lasts i ≡ Some x → after ≡ slice_set lasts i y → y.life.group ≡ x.life.group → OriginsStand origins events → (LastStands settings limit events x.life.group x → LastStands settings limit (events ++ ev ∷ []) x.life.group y) → LastsStand settings limit lasts events → LastsStand settings limit after (events ++ ev ∷ [])
asked_last settings limit origins lasts after events ev i x y h a k at e own st go s =
    record {
      rise = subst (Rise 0) (sym e) (rise_set 0 lasts i x y at own s.rise);
      each = each_set (λ j z. (slice_get lasts j ≡ Some z) × LastStands settings limit events z.life.group z) (λ j z. LastStands settings limit (events ++ ev ∷ []) z.life.group z) lasts after i x y at e (λ j z there. (there, s.each j z there))
          (λ r. subst (λ n. LastStands settings limit (events ++ ev ∷ []) n y) (sym own) (go r.1))
          (λ j z d r q. last_stands settings limit events ev z.life.group z (h z.life.start) (a z.life.start (apart settings limit events x.life.group z.life.group x z (groups_apart lasts i j x z s.rise r.0 q.0 d) r.1 q.1)) (λ o. start_alone z.life.group o ev k) q.1);
      lost = λ g n none w.
          let gone = lost_set g i lasts x y at own (subst (IsLost g) e none) in
          let was = s.lost g n gone (start_before events ev g n k w) in
          record {
            last = was.last;
            stands = last_stands settings limit events ev g was.last (h was.last.life.start) (a was.last.life.start (apart settings limit events x.life.group g x was.last (λ q. gone i x at (sym q)) (s.each i x at) was.stands)) (λ o. start_alone g o ev k) was.stands;
            number = was.number;
            ended = was.ended;
            answered = was.answered;
          };
      fresh = λ n l p.
          let older : starts_of events ≤ n = subst (λ m. m ≤ n) (one_more starts_behind _ _ events ev refl ∙ starts_alone _ ev k) l in
          let k = known settings limit origins events x.life.group x st (s.each i x at) in
          part_apart p settings limit (blank limit n) events ev (h n) (a n (ne_eqb x.life.start n (λ q. absurd (omega arith)))) (s.fresh n older p);
      old = λ n g q. last_stays events ev n g k (h n) (s.old n g (group_before events ev n g k q));
    }

-- the event names the last start of one group alone, which goes from x to y
pub one_last : (settings : Settings) (limit : ℕ) (origins : List ℕ) (lasts after : List Start) (events : List Event) (ev : Event) (i : ℕ) (x y : Start) → ((n : ℕ) → names_start n ev ≡ nat_eq x.life.start n) → names_editor ev ≡ false → spawns ev ≡ false
    → slice_get lasts i ≡ Some x → after ≡ slice_set lasts i y → y.life.group ≡ x.life.group → OriginsStand origins events → (LastStands settings limit events x.life.group x → LastStands settings limit (events ++ ev ∷ []) x.life.group y) → LastsStand settings limit lasts events → LastsStand settings limit after (events ++ ev ∷ [])
one_last settings limit origins lasts after events ev i x y h v k at e own st go s =
    record {
      rise = subst (Rise 0) (sym e) (rise_set 0 lasts i x y at own s.rise);
      each = each_set (λ j z. (slice_get lasts j ≡ Some z) × LastStands settings limit events z.life.group z) (λ j z. LastStands settings limit (events ++ ev ∷ []) z.life.group z) lasts after i x y at e (λ j z there. (there, s.each j z there))
          (λ r. subst (λ n. LastStands settings limit (events ++ ev ∷ []) n y) (sym own) (go r.1))
          (λ j z d r q.
          let other = h z.life.start ∙ apart settings limit events x.life.group z.life.group x z (groups_apart lasts i j x z s.rise r.0 q.0 d) r.1 q.1 in
          last_stands settings limit events ev z.life.group z other (asks_alone settings z.life.start events ev v other) (λ o. start_alone z.life.group o ev k) q.1);
      lost = λ g n none w.
          let gone = lost_set g i lasts x y at own (subst (IsLost g) e none) in
          let was = s.lost g n gone (start_before events ev g n k w) in
          let other = h was.last.life.start ∙ apart settings limit events x.life.group g x was.last (λ q. gone i x at (sym q)) (s.each i x at) was.stands in
          record {
            last = was.last;
            stands = last_stands settings limit events ev g was.last other (asks_alone settings was.last.life.start events ev v other) (λ o. start_alone g o ev k) was.stands;
            number = was.number;
            ended = was.ended;
            answered = was.answered;
          };
      fresh = λ n l p.
          let older : starts_of events ≤ n = subst (λ m. m ≤ n) (one_more starts_behind _ _ events ev refl ∙ starts_alone _ ev k) l in
          let k = known settings limit origins events x.life.group x st (s.each i x at) in
          let other = h n ∙ ne_eqb x.life.start n (λ q. absurd (omega arith)) in
          part_apart p settings limit (blank limit n) events ev other (asks_alone settings n events ev v other) (s.fresh n older p);
      old = λ n g w. older n g (compare x.life.start n) (s.each i x at) (s.old n g (group_before events ev n g k w)) (group_before events ev n g k w);
    }
  where
    older : (n g : ℕ) → Same x.life.start n → LastStands settings limit events x.life.group x → Last events n g → group_of n events ≡ Some g → Last (events ++ ev ∷ []) n g
    older _ g same r q w = inl (one_more (start_behind g) _ _ events ev (subst (λ j. start_of j events ≡ Some x.life.start) (same_place (sym r.home ∙ w)) r.start) ∙ start_alone g _ ev k)
    older n g (other d) r q w = last_stays events ev n g k (h n ∙ ne_eqb x.life.start n (λ z. d (sym z))) q

-- a group whose last start ended may be forgotten
pub last_forgotten : (settings : Settings) (limit : ℕ) (lasts after : List Start) (events : List Event) (i : ℕ) (x : Start) → slice_get lasts i ≡ Some x → after ≡ remove lasts i → x.life.stage ≡ Ended → x.ids.requests ≡ [] → LastsStand settings limit lasts events → LastsStand settings limit after events
last_forgotten settings limit lasts after events i x at is ended answered s = record {
  rise = subst (Rise 0) (sym is) (rise_remove 0 lasts i s.rise);
  each = λ p z there. s.each (place_before i p) z (sym (left_there lasts i p) ∙ (ap (λ xs. slice_get xs p) (sym is) ∙ there));
  lost = λ g n none e. go g n (compare x.life.group g) none e;
  fresh = s.fresh;
  old = s.old;
}
  where
    go : (g n : ℕ) → Same x.life.group g → IsLost g after → start_of g events ≡ Some n → Lost settings limit g n events
    go _ n same none e =
        let last = s.each i x at in
        record { last = x; stands = last; number = same_place (sym last.start ∙ e); ended = ended; answered = answered }
    go g n (other d) none e = s.lost g n (λ p z there w. gone p z there w) e
      where
        gone : (p : ℕ) (z : Start) → slice_get lasts p ≡ Some z → z.life.group ≡ g → ⊥
        gone p z there w = lost_left g i lasts (subst (IsLost g) is none) p z there w (λ q. d (sym w ∙ ap (λ (y : Start). y.life.group) (same_item (sym there ∙ (ap (slice_get lasts) q ∙ at)))))
