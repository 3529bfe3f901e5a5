-- What is kept of one editor, one step further.
use Rattle.std.proofs.Common.{◌≡◌, ℕ, Bool, true, false, not, ◌&&◌, cond, List, [], ◌∷◌, ◌++◌, filter, find, refl, sym, ◌∙◌, ap, arith, nat_eq, is_some}
use Rattle.std.specs.Prelude.{Option, Some, None, option_map}
use Rattle.std.specs.List.{AllByRecursion}
use Rattle.event_model.proofs.Frames.{never}
use Rattle.group_rows.specs.Created.{Taking, is_at as is_with}
use Rattle.group_rows.specs.Created as fold
use Rattle.progress_route.specs.Tables.{Part, asked, at, held_first, no_part, put}
use Rattle.mux_tokens.specs.Stands.{AreFresh, IsFresh, PartStands, asked_at, held_of, is_held_by, is_open_as, is_open_of, waits_at}
use Rattle.mux_tokens.proofs.Finding.{all_so, find_kept, find_last, find_miss, find_none}
use Rattle.mux_tokens.proofs.Rows.{at_put, num_back, num_itself, num_same, up_put}

-- Nothing

pub none_stands : (e : ℕ) (cs : List Taking) → AllByRecursion (λ (c : Taking). is_with e c ≡ false) cs → PartStands e cs no_part
none_stands e cs h = record {
  creates = λ n. sym (ap (option_map (λ (c : Taking). c.token)) (find_none (is_open_as e n) cs (all_so (λ (c : Taking). is_with e c ≡ false) (λ (c : Taking). is_open_as e n c ≡ false) (λ c k. off (not c.accepted) (nat_eq c.number n) (is_with e c) k) cs h)));
  waits = λ k. sym (ap (option_map held_of) (find_none (is_open_of e k) cs (all_so (λ (c : Taking). is_with e c ≡ false) (λ (c : Taking). is_open_of e k c ≡ false) (λ c q. off (not c.accepted) (nat_eq c.token k) (is_with e c) q) cs h)));
  accepted = λ k. sym (ap (option_map (λ (c : Taking). c.begun)) (find_none (is_held_by e k) cs (all_so (λ (c : Taking). is_with e c ≡ false) (λ (c : Taking). is_held_by e k c ≡ false) (λ c q. off c.accepted (nat_eq c.token k) (is_with e c) q) cs h)));
  numbers_rise = tt;
  waits_rise = tt;
  accepted_rise = tt;
}
  where
    off : (a b c : Bool) → c ≡ false → (a && (c && b)) ≡ false
    off true b false h = refl
    off false b false h = refl
    off a b true h = never h

-- An editor is asked

abbrev pub asked_there : ℕ → ℕ → ℕ → Option (List ℕ) → Taking
asked_there e n k begin = record { editor = e; number = n; token = k; accepted = false; held = fold.held_first begin; begun = is_some begin }

module _ (e n k : ℕ) (begin : Option (List ℕ)) (cs : List Taking) where
  abbrev new : Taking
  new = asked_there e n k begin

  -- another editor
  pub asked_apart : (m : ℕ) (part : Part) → nat_eq e m ≡ false → PartStands m cs part → PartStands m (cs ++ new ∷ []) part
  asked_apart m part off s = record {
    creates = λ i. s.creates i ∙ sym (ap (option_map (λ (c : Taking). c.token)) (find_miss (is_open_as m i) cs new (ap (λ b. b && nat_eq n i) off)));
    waits = λ i. s.waits i ∙ sym (ap (option_map held_of) (find_miss (is_open_of m i) cs new (ap (λ b. b && nat_eq k i) off)));
    accepted = λ i. s.accepted i ∙ sym (ap (option_map (λ (c : Taking). c.begun)) (find_miss (is_held_by m i) cs new refl));
    numbers_rise = s.numbers_rise;
    waits_rise = s.waits_rise;
    accepted_rise = s.accepted_rise;
  }

  held_so : (o : Option (List ℕ)) → held_first o ≡ held_of (asked_there e n k o)
  held_so None = refl
  held_so (Some body) = refl

  -- this one
  module _ (fresh : AreFresh e n k cs) where
    no_number : find (is_open_as e n) cs ≡ None
    no_number = find_none (is_open_as e n) cs (all_so (IsFresh e n k) (λ (c : Taking). is_open_as e n c ≡ false) (λ c f. off (not c.accepted) (is_with e c && nat_eq c.number n) f.0) cs fresh)
      where
        off : (a b : Bool) → b ≡ false → (a && b) ≡ false
        off true b h = h
        off false b h = refl

    no_token : find (is_open_of e k) cs ≡ None
    no_token = find_none (is_open_of e k) cs (all_so (IsFresh e n k) (λ (c : Taking). is_open_of e k c ≡ false) (λ c f. off (not c.accepted) (is_with e c && nat_eq c.token k) f.1) cs fresh)
      where
        off : (a b : Bool) → b ≡ false → (a && b) ≡ false
        off true b h = h
        off false b h = refl

    both : (a b : ℕ) → a ≡ b → (nat_eq e e && nat_eq b a) ≡ true
    both a b h = ap (λ c. c && nat_eq b a) (num_itself e) ∙ (ap (λ x. nat_eq b x) h ∙ num_itself b)

    off_here : (a b : ℕ) → nat_eq a b ≡ false → (nat_eq e e && nat_eq b a) ≡ false
    off_here a b h = ap (λ c. c && nat_eq b a) (num_itself e) ∙ (turned a b ∙ h)
      where
        turned : (a b : ℕ) → nat_eq b a ≡ nat_eq a b
        turned a b = num_back b a

    creates_so : (part : Part) → PartStands e cs part → (i : ℕ) → at i (put n k part.creates) ≡ asked_at e i (cs ++ new ∷ [])
    creates_so part s i = at_put i n k part.creates ∙ go (nat_eq i n) refl
      where
        go : (b : Bool) → nat_eq i n ≡ b → cond b (Some k) (at i part.creates) ≡ asked_at e i (cs ++ new ∷ [])
        go true is =
            let same : i ≡ n = num_same i n is in
            sym (ap (λ j. asked_at e j (cs ++ new ∷ [])) same ∙ ap (option_map (λ (c : Taking). c.token)) (find_last (is_open_as e n) cs new no_number (both n n refl)))
        go false is = s.creates i ∙ sym (ap (option_map (λ (c : Taking). c.token)) (find_miss (is_open_as e i) cs new (off_here i n is)))

    waits_so : (part : Part) → PartStands e cs part → (i : ℕ) → at i (put k (held_first begin) part.waits) ≡ waits_at e i (cs ++ new ∷ [])
    waits_so part s i = at_put i k (held_first begin) part.waits ∙ go (nat_eq i k) refl
      where
        go : (b : Bool) → nat_eq i k ≡ b → cond b (Some (held_first begin)) (at i part.waits) ≡ waits_at e i (cs ++ new ∷ [])
        go true is =
            let same : i ≡ k = num_same i k is in
            ap Some (held_so begin) ∙ sym (ap (λ j. waits_at e j (cs ++ new ∷ [])) same ∙ ap (option_map held_of) (find_last (is_open_of e k) cs new no_token (both k k refl)))
        go false is = s.waits i ∙ sym (ap (option_map held_of) (find_miss (is_open_of e i) cs new (off_here i k is)))

    pub asked_stands : (part : Part) → PartStands e cs part → PartStands e (cs ++ new ∷ []) (asked k n begin part)
    asked_stands part s = record {
      creates = creates_so part s;
      waits = waits_so part s;
      accepted = λ i. s.accepted i ∙ sym (ap (option_map (λ (c : Taking). c.begun)) (find_miss (is_held_by e i) cs new refl));
      numbers_rise = up_put n 0 k part.creates (omega arith) s.numbers_rise;
      waits_rise = up_put k 0 (held_first begin) part.waits (omega arith) s.waits_rise;
      accepted_rise = s.accepted_rise;
    }

-- An editor leaves

module _ (e : ℕ) (cs : List Taking) where
  stays : Taking → Bool
  stays c = not (is_with e c)

  pub left_apart : (m : ℕ) (part : Part) → nat_eq m e ≡ false → PartStands m cs part → PartStands m (filter (λ c. not (is_with e c)) cs) part
  left_apart m part off s = record {
    creates = λ i. s.creates i ∙ sym (ap (option_map (λ (c : Taking). c.token)) (find_kept (is_open_as m i) (λ c. not (is_with e c)) (λ c h. there (not c.accepted) (nat_eq c.number i) c h) cs));
    waits = λ i. s.waits i ∙ sym (ap (option_map held_of) (find_kept (is_open_of m i) (λ c. not (is_with e c)) (λ c h. there (not c.accepted) (nat_eq c.token i) c h) cs));
    accepted = λ i. s.accepted i ∙ sym (ap (option_map (λ (c : Taking). c.begun)) (find_kept (is_held_by m i) (λ c. not (is_with e c)) (λ c h. there c.accepted (nat_eq c.token i) c h) cs));
    numbers_rise = s.numbers_rise;
    waits_rise = s.waits_rise;
    accepted_rise = s.accepted_rise;
  }
    where
      at_one : (c : Taking) → nat_eq c.editor m ≡ true → not (nat_eq c.editor e) ≡ true
      at_one c h = ap (λ k. not (nat_eq k e)) (num_same c.editor m h) ∙ ap not off

      there : (a b : Bool) (c : Taking) → (a && (nat_eq c.editor m && b)) ≡ true → not (nat_eq c.editor e) ≡ true
      there a b c h = at_one c (second a b (nat_eq c.editor m) h)
        where
          second : (a b d : Bool) → (a && (d && b)) ≡ true → d ≡ true
          second a b true h = refl
          second true b false h = h
          second false b false h = h

  pub left_stands : PartStands e (filter (λ c. not (is_with e c)) cs) no_part
  left_stands = none_stands e (filter (λ c. not (is_with e c)) cs) (gone cs)
    where
      gone : (xs : List Taking) → AllByRecursion (λ (c : Taking). is_with e c ≡ false) (filter (λ c. not (is_with e c)) xs)
      gone [] = tt
      gone (x ∷ xs) = go (nat_eq x.editor e) refl (gone xs)
        where
          go : (b : Bool) → nat_eq x.editor e ≡ b → AllByRecursion (λ (c : Taking). is_with e c ≡ false) (filter (λ c. not (is_with e c)) xs)
              → AllByRecursion (λ (c : Taking). is_with e c ≡ false) (cond (not b) (x ∷ filter (λ c. not (is_with e c)) xs) (filter (λ c. not (is_with e c)) xs))
          go true h rest = rest
          go false h rest = (h, rest)
