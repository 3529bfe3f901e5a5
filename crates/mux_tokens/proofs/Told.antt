-- What is kept of one editor, where progress of a token comes.
use Rattle.std.proofs.Common.{◌≡◌, ℕ, Bool, true, false, not, ◌&&◌, ◌||◌, cond, List, [], ◌∷◌, ◌++◌, filter, find, map, refl, sym, ◌∙◌, ap, nat_eq, nat_lt, length, if◌then◌else◌}
use Rattle.std.specs.Prelude.{Option, Some, None, option_map}
use Rattle.json_text.specs.Json.{Json}
use Rattle.event_model.proofs.Frames.{never}
use Rattle.group_rows.specs.Created.{Taking, is_at as is_with, is_begin, is_end, is_over, may_hold}
use Rattle.group_rows.specs.Created as fold
use Rattle.progress_route.specs.declared.kind.Kind.{Kind}
use Rattle.progress_route.specs.declared.kind.Kind.TheVariants.{Begin, End, Other}
use Rattle.progress_route.specs.Tables.{Held, Part, at, hear, held_more, hold, no_part, told}
use Rattle.progress_route.specs.Tables as table
use Rattle.mux_tokens.specs.Stands.{PartStands, Up, accepted_at, asked_at, held_of, is_held_by, is_open_as, is_open_of, waits_at}
use Rattle.mux_tokens.proofs.Finding.{find_gone, find_kept, find_map, find_passes}
use Rattle.mux_tokens.proofs.Rows.{at_less, at_set, at_set_all, num_same, up_less, up_set}
use Rattle.mux_tokens.proofs.Seats.{SameSeat}

-- tests of three parts
first : (a b c : Bool) → (a && (b && c)) ≡ true → a ≡ true
first true b c h = refl
first false b c h = h

third : (a b c : Bool) → (a && (b && c)) ≡ true → c ≡ true
third true true c h = h
third true false c h = never (sym h)
third false b c h = never (sym h)

unaccepted : (a : Bool) → not a ≡ true → a ≡ false
unaccepted false h = refl
unaccepted true h = never (sym h)

same_tests : (p : Bool → Bool) (a b : Bool) (e e' n n' : ℕ) (m i : ℕ) → b ≡ a → e' ≡ e → n' ≡ n → (p b && (nat_eq e' m && nat_eq n' i)) ≡ (p a && (nat_eq e m && nat_eq n i))
same_tests p a b e e' n n' m i x y z = ap (λ c. p c && (nat_eq e' m && nat_eq n' i)) x ∙ (ap (λ k. p a && (nat_eq k m && nat_eq n' i)) y ∙ ap (λ k. p a && (nat_eq e m && nat_eq k i)) z)

-- what is the same behind it
pub record SameTaking (c d : Taking) : Type 0 where
  pub seat : SameSeat c d
  pub accepted : d.accepted ≡ c.accepted

module _ (k : ℕ) (body : List ℕ) (params : Option Json) where
  abbrev f : Taking → Taking
  f c = fold.told k body params c

  pub same_taking : (c : Taking) → SameTaking c (f c)
  same_taking c = go (nat_eq c.token k) c.accepted (may_hold params c.held)
    where
      go : (a b d : Bool) → SameTaking c (if a then (if b then record c { begun = c.begun || is_begin params } else (if d then record c { held = c.held ++ body ∷ []; begun = c.begun || is_begin params } else c)) else c)
      go true true d = record { seat = record { editor = refl; number = refl; token = refl }; accepted = refl }
      go true false true = record { seat = record { editor = refl; number = refl; token = refl }; accepted = refl }
      go true false false = record { seat = record { editor = refl; number = refl; token = refl }; accepted = refl }
      go false b d = record { seat = record { editor = refl; number = refl; token = refl }; accepted = refl }

  as_open : (m i : ℕ) (c : Taking) → is_open_as m i (f c) ≡ is_open_as m i c
  as_open m i c = let s = same_taking c in same_tests not c.accepted (f c).accepted c.editor (f c).editor c.number (f c).number m i s.accepted s.seat.editor s.seat.number

  of_open : (m i : ℕ) (c : Taking) → is_open_of m i (f c) ≡ is_open_of m i c
  of_open m i c = let s = same_taking c in same_tests not c.accepted (f c).accepted c.editor (f c).editor c.token (f c).token m i s.accepted s.seat.editor s.seat.token

  by_held : (m i : ℕ) (c : Taking) → is_held_by m i (f c) ≡ is_held_by m i c
  by_held m i c = let s = same_taking c in same_tests (λ b. b) c.accepted (f c).accepted c.editor (f c).editor c.token (f c).token m i s.accepted s.seat.editor s.seat.token

  -- one that isn't accepted isn't over
  abbrev stays : Taking → Bool
  stays c = not (is_over k params c)

  open_stays : (c : Taking) (b : Bool) → (not c.accepted && b) ≡ true → stays c ≡ true
  open_stays c b h = ap (λ a. not (is_end params && (a && nat_eq c.token k))) (unaccepted c.accepted (left (not c.accepted) b h)) ∙ off (is_end params)
    where
      left : (a b : Bool) → (a && b) ≡ true → a ≡ true
      left true b h = refl
      left false b h = h

      off : (x : Bool) → not (x && false) ≡ true
      off true = refl
      off false = refl

  -- what editors were asked under numbers
  tokens_same : (o : Option Taking) → option_map (λ (c : Taking). c.token) (option_map f o) ≡ option_map (λ (c : Taking). c.token) o
  tokens_same None = refl
  tokens_same (Some c) = ap Some (same_taking c).seat.token

  creates_so : (m i : ℕ) (cs : List Taking) → asked_at m i (map f (filter stays cs)) ≡ asked_at m i cs
  creates_so m i cs = ap (option_map (λ (c : Taking). c.token)) (find_map (is_open_as m i) f (as_open m i) (filter stays cs))
      ∙ (tokens_same (find (is_open_as m i) (filter stays cs)) ∙ ap (option_map (λ (c : Taking). c.token)) (find_kept (is_open_as m i) stays (λ c h. open_stays c (is_with m c && nat_eq c.number i) h) cs))

  module _ (kind : Kind) (begins : table.is_begin kind ≡ is_begin params) (ends : table.is_end kind ≡ is_end params) where
    -- what is held
    abbrev change : ℕ → Held → Held
    change i h = if nat_eq i k then held_more body kind h else h

    more_so : (c : Taking) → held_of (fold.held_more body params c) ≡ held_more body kind (held_of c)
    more_so c = go (may_hold params c.held) ∙ (ap (λ b. if may_hold params c.held then record { bodies = c.held ++ body ∷ []; begun = c.begun || b } else held_of c) (sym begins)
        ∙ ap (λ b. if nat_lt (length c.held) 1024 || b then record { bodies = c.held ++ body ∷ []; begun = c.begun || table.is_begin kind } else held_of c) (sym ends))
      where
        go : (d : Bool) → held_of (if d then record c { held = c.held ++ body ∷ []; begun = c.begun || is_begin params } else c) ≡ (if d then record { bodies = c.held ++ body ∷ []; begun = c.begun || is_begin params } else held_of c)
        go true = refl
        go false = refl

    held_so : (m i : ℕ) (c : Taking) → is_open_of m i c ≡ true → held_of (f c) ≡ change i (held_of c)
    held_so m i c h =
        let token : c.token ≡ i = num_same c.token i (third (not c.accepted) (is_with m c) (nat_eq c.token i) h) in
        let open_yet : c.accepted ≡ false = unaccepted c.accepted (first (not c.accepted) (is_with m c) (nat_eq c.token i) h) in
        ap (λ b. held_of (if nat_eq c.token k then (if b then record c { begun = c.begun || is_begin params } else fold.held_more body params c) else c)) open_yet
        ∙ (ap (λ t. held_of (if nat_eq t k then fold.held_more body params c else c)) token ∙ go (nat_eq i k))
      where
        go : (b : Bool) → held_of (if b then fold.held_more body params c else c) ≡ (if b then held_more body kind (held_of c) else held_of c)
        go true = more_so c
        go false = refl

    hold_so : (i : ℕ) (waits : List (ℕ × Held)) → at i (hold k body kind (at k waits) waits) ≡ option_map (change i) (at i waits)
    hold_so i waits = go (at k waits) refl
      where
        id_map : (o : Option Held) → o ≡ option_map (λ h. h) o
        id_map None = refl
        id_map (Some h) = refl

        none_at : (b : Bool) → nat_eq i k ≡ b → at k waits ≡ None → at i waits ≡ option_map (λ h. if b then held_more body kind h else h) (at i waits)
        none_at true e none = let gone : at i waits ≡ None = ap (λ j. at j waits) (num_same i k e) ∙ none in gone ∙ sym (ap (option_map (λ h. held_more body kind h)) gone)
        none_at false e none = id_map (at i waits)

        some_at : (b : Bool) (held : Held) → nat_eq i k ≡ b → at k waits ≡ Some held → cond b (Some (held_more body kind held)) (at i waits) ≡ option_map (λ h. if b then held_more body kind h else h) (at i waits)
        some_at true held e here = sym (ap (option_map (λ h. held_more body kind h)) (ap (λ j. at j waits) (num_same i k e) ∙ here))
        some_at false held e here = id_map (at i waits)

        go : (o : Option Held) → at k waits ≡ o → at i (hold k body kind o waits) ≡ option_map (change i) (at i waits)
        go None e = none_at (nat_eq i k) refl e
        go (Some held) e = at_set i k held (held_more body kind held) waits e ∙ some_at (nat_eq i k) held refl e

    waits_map : (m i : ℕ) (o : Option Taking) → ((c : Taking) → o ≡ Some c → is_open_of m i c ≡ true) → option_map held_of (option_map f o) ≡ option_map (change i) (option_map held_of o)
    waits_map m i None h = refl
    waits_map m i (Some c) h = ap Some (held_so m i c (h c refl))

    waits_so : (m i : ℕ) (cs : List Taking) → waits_at m i (map f (filter stays cs)) ≡ option_map (change i) (waits_at m i cs)
    waits_so m i cs = ap (option_map held_of) (find_map (is_open_of m i) f (of_open m i) (filter stays cs))
        ∙ (ap (λ o. option_map held_of (option_map f o)) (find_kept (is_open_of m i) stays (λ c h. open_stays c (is_with m c && nat_eq c.token i) h) cs)
        ∙ waits_map m i (find (is_open_of m i) cs) (λ c at. find_passes (is_open_of m i) cs c at))

    -- what is accepted
    abbrev begun_by : ℕ → Bool → Bool
    begun_by i b = if nat_eq i k then b || is_begin params else b

    begun_so : (m i : ℕ) (c : Taking) → is_held_by m i c ≡ true → (f c).begun ≡ begun_by i c.begun
    begun_so m i c h =
        let token : c.token ≡ i = num_same c.token i (third c.accepted (is_with m c) (nat_eq c.token i) h) in
        let taken : c.accepted ≡ true = first c.accepted (is_with m c) (nat_eq c.token i) h in
        ap (λ b. (if nat_eq c.token k then (if b then record c { begun = c.begun || is_begin params } else fold.held_more body params c) else c).begun) taken
        ∙ (ap (λ t. (if nat_eq t k then record c { begun = c.begun || is_begin params } else c).begun) token ∙ go (nat_eq i k))
      where
        go : (b : Bool) → (if b then record c { begun = c.begun || is_begin params } else c).begun ≡ (if b then c.begun || is_begin params else c.begun)
        go true = refl
        go false = refl

    begun_map : (m i : ℕ) (o : Option Taking) → ((c : Taking) → o ≡ Some c → is_held_by m i c ≡ true) → option_map (λ (c : Taking). c.begun) (option_map f o) ≡ option_map (begun_by i) (option_map (λ (c : Taking). c.begun) o)
    begun_map m i None h = refl
    begun_map m i (Some c) h = ap Some (begun_so m i c (h c refl))

    accepted_so : (m i : ℕ) (cs : List Taking) → accepted_at m i (map f cs) ≡ option_map (begun_by i) (accepted_at m i cs)
    accepted_so m i cs = ap (option_map (λ (c : Taking). c.begun)) (find_map (is_held_by m i) f (by_held m i) cs)
        ∙ begun_map m i (find (is_held_by m i) cs) (λ c at. find_passes (is_held_by m i) cs c at)

    all_stay : is_end params ≡ false → (m i : ℕ) (cs : List Taking) → accepted_at m i (map f (filter stays cs)) ≡ option_map (begun_by i) (accepted_at m i cs)
    all_stay off m i cs = accepted_so m i (filter stays cs) ∙ ap (λ o. option_map (begun_by i) (option_map (λ (c : Taking). c.begun) o))
        (find_kept (is_held_by m i) stays (λ c h. ap (λ b. not (b && (c.accepted && nat_eq c.token k))) off) cs)

module _ (k : ℕ) (body : List ℕ) (params : Option Json) (m : ℕ) (cs : List Taking) where
  abbrev later : List Taking
  later = map (fold.told k body params) (filter (λ c. not (is_over k params c)) cs)

  id_bool : (o : Option Bool) (g : Bool → Bool) → ((b : Bool) → g b ≡ b) → o ≡ option_map g o
  id_bool None g h = refl
  id_bool (Some b) g h = ap Some (sym (h b))

  or_no : (b : Bool) → (b || false) ≡ b
  or_no true = refl
  or_no false = refl

  or_yes : (b : Bool) → (b || true) ≡ true
  or_yes true = refl
  or_yes false = refl

  same_map : (o : Option Bool) (g h : Bool → Bool) → ((b : Bool) → g b ≡ h b) → option_map g o ≡ option_map h o
  same_map None g h k = refl
  same_map (Some b) g h k = ap Some (k b)

  hear_so : (kind : Kind) → table.is_begin kind ≡ is_begin params → table.is_end kind ≡ is_end params → (rows : List (ℕ × Bool)) → Up 0 rows → ((i : ℕ) → at i rows ≡ accepted_at m i cs) → (i : ℕ) → at i (hear k kind rows) ≡ accepted_at m i later
  hear_so Other begins ends rows up s i = s i ∙ (id_bool (accepted_at m i cs) (λ b. if nat_eq i k then b || is_begin params else b) (λ b. go b (nat_eq i k)) ∙ sym (all_stay k body params Other begins ends (sym ends) m i cs))
    where
      go : (b c : Bool) → (if c then b || is_begin params else b) ≡ b
      go b true = ap (λ x. b || x) (sym begins) ∙ or_no b
      go b false = refl
  hear_so Begin begins ends rows up s i = at_set_all i k true rows ∙ (ap (option_map (λ b. if nat_eq i k then true else b)) (s i)
      ∙ (same_map (accepted_at m i cs) (λ b. if nat_eq i k then true else b) (λ b. if nat_eq i k then b || is_begin params else b) (λ b. go b (nat_eq i k)) ∙ sym (all_stay k body params Begin begins ends (sym ends) m i cs)))
    where
      go : (b c : Bool) → (if c then true else b) ≡ (if c then b || is_begin params else b)
      go b true = sym (ap (λ x. b || x) (sym begins) ∙ or_yes b)
      go b false = refl
  hear_so End begins ends rows up s i = at_less i k 0 rows up ∙ go (nat_eq i k) refl
    where
      stays : Taking → Bool
      stays c = not (is_over k params c)

      gone : (a b c : Bool) → not (true && (a && c)) ≡ true → (a && (b && c)) ≡ false
      gone true b true h = never (sym h)
      gone true true false h = refl
      gone true false false h = refl
      gone false b c h = refl

      kept : (a c : Bool) → c ≡ false → not (is_end params && (a && c)) ≡ true
      kept true c h = ap (λ x. not (is_end params && x)) h ∙ off (is_end params)
        where
          off : (x : Bool) → not (x && false) ≡ true
          off true = refl
          off false = refl
      kept false c h = off (is_end params)
        where
          off : (x : Bool) → not (x && false) ≡ true
          off true = refl
          off false = refl

      others : nat_eq i k ≡ false → (c : Taking) → is_held_by m i c ≡ true → not (is_over k params c) ≡ true
      others e c h = kept c.accepted (nat_eq c.token k) (ap (λ t. nat_eq t k) (num_same c.token i (third c.accepted (is_with m c) (nat_eq c.token i) h)) ∙ e)

      go : (b : Bool) → nat_eq i k ≡ b → cond b None (at i rows) ≡ accepted_at m i later
      go true e = sym (accepted_so k body params End begins ends m i (filter (λ c. not (is_over k params c)) cs)
          ∙ ap (λ o. option_map (λ b. if nat_eq i k then b || is_begin params else b) (option_map (λ (c : Taking). c.begun) o))
          (find_gone (is_held_by m i) (λ c. not (is_over k params c))
          (λ c h. ap (λ t. c.accepted && (is_with m c && nat_eq c.token t)) (num_same i k e) ∙ gone c.accepted (is_with m c) (nat_eq c.token k) (ap (λ b. not (b && (c.accepted && nat_eq c.token k))) ends ∙ h)) cs))
      go false e = s i ∙ (id_bool (accepted_at m i cs) (λ b. if nat_eq i k then b || is_begin params else b) (λ b. ap (λ x. if x then b || is_begin params else b) e)
          ∙ sym (accepted_so k body params End begins ends m i (filter (λ c. not (is_over k params c)) cs)
          ∙ ap (λ o. option_map (λ b. if nat_eq i k then b || is_begin params else b) (option_map (λ (c : Taking). c.begun) o)) (find_kept (is_held_by m i) (λ c. not (is_over k params c)) (others e) cs)))

  up_hear : (kind : Kind) (rows : List (ℕ × Bool)) → Up 0 rows → Up 0 (hear k kind rows)
  up_hear Begin rows up = up_set k 0 true rows up
  up_hear End rows up = up_less k 0 rows up
  up_hear Other rows up = up

  up_hold : (kind : Kind) (o : Option Held) (rows : List (ℕ × Held)) → Up 0 rows → Up 0 (hold k body kind o rows)
  up_hold kind None rows up = up
  up_hold kind (Some h) rows up = up_set k 0 (held_more body kind h) rows up

  pub told_stands : (kind : Kind) → table.is_begin kind ≡ is_begin params → table.is_end kind ≡ is_end params → (part : Part) → PartStands m cs part → PartStands m later (told k body kind part)
  told_stands kind begins ends part s = record {
    creates = λ i. s.creates i ∙ sym (creates_so k body params m i cs);
    waits = λ i. hold_so k body params kind begins ends i part.waits ∙ (ap (option_map (λ h. if nat_eq i k then held_more body kind h else h)) (s.waits i) ∙ sym (waits_so k body params kind begins ends m i cs));
    accepted = hear_so kind begins ends part.accepted s.accepted_rise s.accepted;
    numbers_rise = s.numbers_rise;
    waits_rise = up_hold kind (at k part.waits) part.waits s.waits_rise;
    accepted_rise = up_hear kind part.accepted s.accepted_rise;
  }

pub told_nothing : (k : ℕ) (body : List ℕ) (kind : Kind) → told k body kind no_part ≡ no_part
told_nothing k body Begin = refl
told_nothing k body End = refl
told_nothing k body Other = refl
