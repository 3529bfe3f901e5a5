-- What is kept of one editor, where it answers what it was asked to take.
use Rattle.std.proofs.Common.{◌≡◌, ℕ, Bool, true, false, not, ◌&&◌, cond, List, [], ◌∷◌, find, flat_map, refl, sym, subst, ◌∙◌, ap, arith, nat_eq, if◌then◌else◌}
use Rattle.std.specs.Prelude.{Some, None, option_map}
use Rattle.std.specs.List.{AllByRecursion}
use Rattle.event_model.proofs.Frames.{never}
use Rattle.group_rows.specs.Created.{Taking, is_at as is_with}
use Rattle.progress_route.specs.Tables.{Part, at, begun_of, less, put, settled}
use Rattle.mux_tokens.specs.Stands.{AreApart, IsOther, PartStands, Up, accepted_at, asked_at, held_of, is_held_by, is_open_as, is_open_of, waits_at}
use Rattle.mux_tokens.proofs.Finding.{all_so, all_true, find_passes, spread_first, spread_none, spread_same}
use Rattle.mux_tokens.proofs.Rows.{at_less, at_put, num_back, num_itself, num_same, up_less, up_put}
use Rattle.mux_tokens.proofs.Seats.{all_beside}

first : (a b c : Bool) → (a && (b && c)) ≡ true → a ≡ true
first true b c h = refl
first false b c h = h

second : (a b c : Bool) → (a && (b && c)) ≡ true → b ≡ true
second true true c h = refl
second true false c h = h
second false true c h = refl
second false false c h = h

third : (a b c : Bool) → (a && (b && c)) ≡ true → c ≡ true
third true true c h = h
third true false c h = never (sym h)
third false b c h = never (sym h)

unaccepted : (a : Bool) → not a ≡ true → a ≡ false
unaccepted false h = refl
unaccepted true h = never (sym h)

off_last : (a b c : Bool) → c ≡ false → (a && (b && c)) ≡ false
off_last true true c h = h
off_last true false c h = refl
off_last false b c h = refl

off_mid : (a b c : Bool) → b ≡ false → (a && (b && c)) ≡ false
off_mid true b c h = ap (λ x. x && c) h
off_mid false b c h = refl

off_first : (a b : Bool) → a ≡ false → (a && b) ≡ false
off_first a b h = ap (λ x. x && b) h

-- it has answered, and holds the token or doesn't
abbrev pub taken_from : Taking → Taking
taken_from c = record c { accepted = true; held = [] }

abbrev pub settles : Bool → Taking → List Taking
settles holds c = if holds then taken_from c ∷ [] else []

module _ (e n : ℕ) (holds : Bool) where
  abbrev hits : Taking → Bool
  hits c = is_open_as e n c

  abbrev pub answered_list : List Taking → List Taking
  answered_list cs = flat_map (λ c. if is_open_as e n c then settles holds c else c ∷ []) cs

  -- what is open is in its seat
  hit_editor : (c : Taking) → hits c ≡ true → c.editor ≡ e
  hit_editor c h = num_same c.editor e (second (not c.accepted) (is_with e c) (nat_eq c.number n) h)

  hit_number : (c : Taking) → hits c ≡ true → c.number ≡ n
  hit_number c h = num_same c.number n (third (not c.accepted) (is_with e c) (nat_eq c.number n) h)

  hit_open : (c : Taking) → hits c ≡ true → c.accepted ≡ false
  hit_open c h = unaccepted c.accepted (first (not c.accepted) (is_with e c) (nat_eq c.number n) h)

  -- a test of what is behind it
  quiet_if : (p : Taking → Bool) (c : Taking) → p (taken_from c) ≡ false → AllByRecursion (λ (d : Taking). p d ≡ false) (settles holds c)
  quiet_if p c h = go holds
    where
      go : (b : Bool) → AllByRecursion (λ (d : Taking). p d ≡ false) (if b then taken_from c ∷ [] else [])
      go true = (h, tt)
      go false = tt

  -- another editor
  module _ (m : ℕ) (cs : List Taking) (off : nat_eq m e ≡ false) where
    away : (c : Taking) → hits c ≡ true → is_with m c ≡ false
    away c h = ap (λ k. nat_eq k m) (hit_editor c h) ∙ (num_back e m ∙ off)

    pub settled_apart : (part : Part) → PartStands m cs part → PartStands m (answered_list cs) part
    settled_apart part s = record {
      creates = λ i. s.creates i ∙ sym (ap (option_map (λ (c : Taking). c.token)) (spread_same (is_open_as m i) (is_open_as e n) (settles holds) cs
          (all_true (λ c. (hits c ≡ true → is_open_as m i c ≡ false) × (hits c ≡ true → AllByRecursion (λ (d : Taking). is_open_as m i d ≡ false) (settles holds c)))
          (λ c. ((λ h. off_mid (not c.accepted) (is_with m c) (nat_eq c.number i) (away c h)), (λ h. quiet_if (is_open_as m i) c refl))) cs)));
      waits = λ i. s.waits i ∙ sym (ap (option_map held_of) (spread_same (is_open_of m i) (is_open_as e n) (settles holds) cs
          (all_true (λ c. (hits c ≡ true → is_open_of m i c ≡ false) × (hits c ≡ true → AllByRecursion (λ (d : Taking). is_open_of m i d ≡ false) (settles holds c)))
          (λ c. ((λ h. off_mid (not c.accepted) (is_with m c) (nat_eq c.token i) (away c h)), (λ h. quiet_if (is_open_of m i) c refl))) cs)));
      accepted = λ i. s.accepted i ∙ sym (ap (option_map (λ (c : Taking). c.begun)) (spread_same (is_held_by m i) (is_open_as e n) (settles holds) cs
          (all_true (λ c. (hits c ≡ true → is_held_by m i c ≡ false) × (hits c ≡ true → AllByRecursion (λ (d : Taking). is_held_by m i d ≡ false) (settles holds c)))
          (λ c. ((λ h. off_mid c.accepted (is_with m c) (nat_eq c.token i) (away c h)), (λ h. quiet_if (is_held_by m i) c (off_first (is_with m c) (nat_eq c.token i) (away c h))))) cs)));
      numbers_rise = s.numbers_rise;
      waits_rise = s.waits_rise;
      accepted_rise = s.accepted_rise;
    }

  -- this one
  module _ (one : Taking) (cs : List Taking) (apart : AreApart cs) (found : find (is_open_as e n) cs ≡ Some one) where
    abbrev k : ℕ
    k = one.token

    one_hits : hits one ≡ true
    one_hits = find_passes (is_open_as e n) cs one found

    clash : true ≡ false → ⊥
    clash h = cc

    both : (a b c d : ℕ) → a ≡ b → c ≡ d → (nat_eq a b && nat_eq c d) ≡ true
    both a b c d p q = ap (λ x. x && nat_eq c d) (ap (λ x. nat_eq x b) p ∙ num_itself b) ∙ (ap (λ x. nat_eq x d) q ∙ num_itself d)

    -- nothing else is under its number, or of its token
    not_right : (c : Taking) → c.editor ≡ e → IsOther one c → (c.number ≡ n → ⊥) × (c.token ≡ k → ⊥)
    not_right c own o =
        let same : c.editor ≡ one.editor = own ∙ sym (hit_editor one one_hits) in (
          (λ is. clash (sym (both c.editor one.editor c.number one.number same (is ∙ sym (hit_number one one_hits))) ∙ o.0)),
          (λ is. clash (sym (both c.editor one.editor c.token one.token same is) ∙ o.1)),
        )

    not_left : (c : Taking) → c.editor ≡ e → IsOther c one → (c.number ≡ n → ⊥) × (c.token ≡ k → ⊥)
    not_left c own o =
        let same : one.editor ≡ c.editor = hit_editor one one_hits ∙ sym own in (
          (λ is. clash (sym (both one.editor c.editor one.number c.number same (hit_number one one_hits ∙ sym is)) ∙ o.0)),
          (λ is. clash (sym (both one.editor c.editor one.token c.token same (sym is)) ∙ o.1)),
        )

    -- what is under its number has its token
    pub same_token : AllByRecursion (λ c. hits c ≡ true → c.token ≡ k) cs
    same_token = all_beside (λ c. hits c ≡ true → c.token ≡ k) (is_open_as e n) one (λ h. refl)
        (λ c o h. absurd ((not_right c (hit_editor c h) o).0 (hit_number c h))) (λ c o h. absurd ((not_left c (hit_editor c h) o).0 (hit_number c h))) cs apart found

    of_editor : (c : Taking) → is_open_of e k c ≡ true → c.editor ≡ e
    of_editor c h = num_same c.editor e (second (not c.accepted) (is_with e c) (nat_eq c.token k) h)

    of_token : (c : Taking) → is_open_of e k c ≡ true → c.token ≡ k
    of_token c h = num_same c.token k (third (not c.accepted) (is_with e c) (nat_eq c.token k) h)

    same_number : AllByRecursion (λ c. is_open_of e k c ≡ true → hits c ≡ true) cs
    same_number = all_beside (λ c. is_open_of e k c ≡ true → hits c ≡ true) (is_open_as e n) one (λ h. one_hits)
        (λ c o h. absurd ((not_right c (of_editor c h) o).1 (of_token c h))) (λ c o h. absurd ((not_left c (of_editor c h) o).1 (of_token c h))) cs apart found

    -- none has accepted its token
    none_held : AllByRecursion (λ c. is_held_by e k c ≡ false) cs
    none_held = all_beside (λ c. is_held_by e k c ≡ false) (is_open_as e n) one (off_first one.accepted (is_with e one && nat_eq one.token k) (hit_open one one_hits))
        (λ c o. go c (λ own is. (not_right c own o).1 is)) (λ c o. go c (λ own is. (not_left c own o).1 is)) cs apart found
      where
        go : (c : Taking) → (c.editor ≡ e → c.token ≡ k → ⊥) → is_held_by e k c ≡ false
        go c none = by (c.accepted && (is_with e c && nat_eq c.token k)) refl
          where
            by : (b : Bool) → is_held_by e k c ≡ b → b ≡ false
            by true h = absurd (none (num_same c.editor e (second c.accepted (is_with e c) (nat_eq c.token k) h)) (num_same c.token k (third c.accepted (is_with e c) (nat_eq c.token k) h)))
            by false h = refl

    -- what was asked under numbers
    creates_so : (part : Part) → PartStands e cs part → (i : ℕ) → at i (less n part.creates) ≡ asked_at e i (answered_list cs)
    creates_so part s i = at_less i n 0 part.creates s.numbers_rise ∙ go (nat_eq i n) refl
      where
        go : (b : Bool) → nat_eq i n ≡ b → cond b None (at i part.creates) ≡ asked_at e i (answered_list cs)
        go true is = sym (ap (λ j. asked_at e j (answered_list cs)) (num_same i n is) ∙ ap (option_map (λ (c : Taking). c.token)) (spread_none (is_open_as e n) (is_open_as e n) (settles holds) cs
            (all_true (λ c. (is_open_as e n c ≡ true → hits c ≡ true) × (hits c ≡ true → AllByRecursion (λ (d : Taking). is_open_as e n d ≡ false) (settles holds c))) (λ c. ((λ h. h), (λ h. quiet_if (is_open_as e n) c refl))) cs)))
        go false is = s.creates i ∙ sym (ap (option_map (λ (c : Taking). c.token)) (spread_same (is_open_as e i) (is_open_as e n) (settles holds) cs
            (all_true (λ c. (hits c ≡ true → is_open_as e i c ≡ false) × (hits c ≡ true → AllByRecursion (λ (d : Taking). is_open_as e i d ≡ false) (settles holds c)))
            (λ c. ((λ h. off_last (not c.accepted) (is_with e c) (nat_eq c.number i) (ap (λ j. nat_eq j i) (hit_number c h) ∙ (num_back n i ∙ is))), (λ h. quiet_if (is_open_as e i) c refl))) cs)))

    -- what is held
    waits_so : (part : Part) → PartStands e cs part → (i : ℕ) → at i (less k part.waits) ≡ waits_at e i (answered_list cs)
    waits_so part s i = at_less i k 0 part.waits s.waits_rise ∙ go (nat_eq i k) refl
      where
        go : (b : Bool) → nat_eq i k ≡ b → cond b None (at i part.waits) ≡ waits_at e i (answered_list cs)
        go true is = sym (ap (λ j. waits_at e j (answered_list cs)) (num_same i k is) ∙ ap (option_map held_of) (spread_none (is_open_of e k) (is_open_as e n) (settles holds) cs
            (all_so (λ c. is_open_of e k c ≡ true → hits c ≡ true) (λ c. (is_open_of e k c ≡ true → hits c ≡ true) × (hits c ≡ true → AllByRecursion (λ (d : Taking). is_open_of e k d ≡ false) (settles holds c)))
            (λ c h. (h, (λ q. quiet_if (is_open_of e k) c refl))) cs same_number)))
        go false is = s.waits i ∙ sym (ap (option_map held_of) (spread_same (is_open_of e i) (is_open_as e n) (settles holds) cs
            (all_so (λ c. hits c ≡ true → c.token ≡ k) (λ c. (hits c ≡ true → is_open_of e i c ≡ false) × (hits c ≡ true → AllByRecursion (λ (d : Taking). is_open_of e i d ≡ false) (settles holds c)))
            (λ c t. ((λ h. off_last (not c.accepted) (is_with e c) (nat_eq c.token i) (ap (λ j. nat_eq j i) (t h) ∙ (num_back k i ∙ is))), (λ h. quiet_if (is_open_of e i) c refl))) cs same_token)))

    -- what is accepted, but for this token
    others_so : (i : ℕ) → nat_eq i k ≡ false → accepted_at e i (answered_list cs) ≡ accepted_at e i cs
    others_so i is = ap (option_map (λ (c : Taking). c.begun)) (spread_same (is_held_by e i) (is_open_as e n) (settles holds) cs
        (all_so (λ c. hits c ≡ true → c.token ≡ k) (λ c. (hits c ≡ true → is_held_by e i c ≡ false) × (hits c ≡ true → AllByRecursion (λ (d : Taking). is_held_by e i d ≡ false) (settles holds c)))
        (λ c t. ((λ h. off_last c.accepted (is_with e c) (nat_eq c.token i) (other c (t h))), (λ h. quiet_if (is_held_by e i) c (off_last true (is_with e c) (nat_eq c.token i) (other c (t h)))))) cs same_token))
      where
        other : (c : Taking) → c.token ≡ k → nat_eq c.token i ≡ false
        other c t = ap (λ j. nat_eq j i) t ∙ (num_back k i ∙ is)

    -- the first of its token is the one under its number
    seat_in : (xs : List Taking) → AllByRecursion (λ c. is_open_of e k c ≡ true → hits c ≡ true) xs → find (is_open_as e n) xs ≡ Some one → find (is_open_of e k) xs ≡ Some one
    seat_in [] h at = absurd (cc)
    seat_in (x ∷ xs) h at = go (is_open_as e n x) refl (is_open_of e k x) refl at (λ q. seat_in xs h.1 q)
      where
        of_one : is_open_of e k one ≡ true
        of_one = ap (λ a. not a && (is_with e one && nat_eq one.token k)) (hit_open one one_hits) ∙ both one.editor e one.token k (hit_editor one one_hits) refl

        go : (a : Bool) → is_open_as e n x ≡ a → (b : Bool) → is_open_of e k x ≡ b → cond a (Some x) (find (is_open_as e n) xs) ≡ Some one → (find (is_open_as e n) xs ≡ Some one → find (is_open_of e k) xs ≡ Some one) → cond b (Some x) (find (is_open_of e k) xs) ≡ Some one
        go true p true q at rest = at
        go true p false q at rest = let same : x ≡ one = cc in never (sym of_one ∙ (ap (is_open_of e k) (sym same) ∙ q))
        go false p true q at rest = never (sym (h.0 q) ∙ p)
        go false p false q at rest = rest at

    pub seat : find (is_open_of e k) cs ≡ Some one
    seat = seat_in cs same_number found

    begun_so : (part : Part) → PartStands e cs part → begun_of (at k part.waits) ≡ one.begun
    begun_so part s = ap begun_of (s.waits k ∙ ap (option_map held_of) seat)

  module _ (one : Taking) (cs : List Taking) (apart : AreApart cs) (found : find (is_open_as e n) cs ≡ Some one) (part : Part) (s : PartStands e cs part) (i : ℕ) where
    abbrev begun : Bool
    begun = begun_of (at one.token part.waits)

    held_now : is_held_by e one.token (taken_from one) ≡ true
    held_now = both one cs apart found one.editor e one.token one.token (hit_editor one (one_hits one cs apart found)) refl

    taken_so : holds ≡ true → (b : Bool) → nat_eq i one.token ≡ b → cond b (Some begun) (at i part.accepted) ≡ accepted_at e i (answered_list cs)
    taken_so h true is = ap Some (begun_so one cs apart found part s) ∙ sym (ap (λ j. accepted_at e j (answered_list cs)) (num_same i one.token is)
        ∙ ap (option_map (λ (c : Taking). c.begun)) (spread_first (is_held_by e one.token) (is_open_as e n) (settles holds) one taken_from (λ c. ap (λ b. if b then taken_from c ∷ [] else []) h) held_now cs (none_held one cs apart found) found))
    taken_so h false is = s.accepted i ∙ sym (others_so one cs apart found i is)

    left_so : holds ≡ false → at i part.accepted ≡ accepted_at e i (answered_list cs)
    left_so h = s.accepted i ∙ sym (ap (option_map (λ (c : Taking). c.begun)) (spread_same (is_held_by e i) (is_open_as e n) (settles holds) cs
        (all_true (λ c. (hits c ≡ true → is_held_by e i c ≡ false) × (hits c ≡ true → AllByRecursion (λ (d : Taking). is_held_by e i d ≡ false) (settles holds c)))
        (λ c. ((λ q. off_first c.accepted (is_with e c && nat_eq c.token i) (hit_open c q)), (λ q. subst (λ ds. AllByRecursion (λ (d : Taking). is_held_by e i d ≡ false) ds) (sym (ap (λ b. if b then taken_from c ∷ [] else []) h)) tt))) cs)))

    accepted_if : at i (if holds then put one.token begun part.accepted else part.accepted) ≡ accepted_at e i (answered_list cs)
    accepted_if = go holds refl
      where
        go : (b : Bool) → holds ≡ b → at i (if b then put one.token begun part.accepted else part.accepted) ≡ accepted_at e i (answered_list cs)
        go true h = at_put i one.token begun part.accepted ∙ taken_so h (nat_eq i one.token) refl
        go false h = left_so h

  pub settled_stands : (one : Taking) (cs : List Taking) → AreApart cs → find (is_open_as e n) cs ≡ Some one → (part : Part) → PartStands e cs part → PartStands e (answered_list cs) (settled n one.token holds part)
  settled_stands one cs apart found part s = record {
    creates = creates_so one cs apart found part s;
    waits = waits_so one cs apart found part s;
    accepted = accepted_if one cs apart found part s;
    numbers_rise = up_less n 0 part.creates s.numbers_rise;
    waits_rise = up_less one.token 0 part.waits s.waits_rise;
    accepted_rise = rises holds;
  }
    where
      rises : (b : Bool) → Up 0 (if b then put one.token (begun_of (at one.token part.waits)) part.accepted else part.accepted)
      rises true = up_put one.token 0 (begun_of (at one.token part.waits)) part.accepted (omega arith) s.accepted_rise
      rises false = s.accepted_rise
