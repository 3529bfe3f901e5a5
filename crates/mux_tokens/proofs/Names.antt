-- The live tokens of a start, one step further.
use Rattle.std.proofs.Common.{◌≡◌, ℕ, ◌+◌, ◌<◌, ◌≤◌, Bool, true, false, not, ◌&&◌, cond, List, [], ◌∷◌, ◌++◌, filter, find, map, refl, sym, subst, ◌∙◌, ap, arith, nat_eq, is_some, if◌then◌else◌}
use Rattle.std.specs.Prelude.{Option, Some, None, option_map}
use Rattle.std.specs.List.{AllByRecursion}
use Rattle.std.specs.Option.{option_and_then}
use Rattle.std.specs.Ordering.{nat_cmp}
use Rattle.std.specs.BTreeMap.{is_at}
use Rattle.json_text.specs.Json.{Json}
use Rattle.event_model.proofs.Frames.{never}
use Rattle.group_rows.specs.Created.{Token, begun_by, first_begin, is_begin, is_end, is_ended_by, is_numbered}
use Rattle.progress_route.specs.declared.kind.Kind.{Kind}
use Rattle.progress_route.specs.declared.kind.Kind.TheVariants.{Begin, End, Other}
use Rattle.progress_route.specs.Names.{Text}
use Rattle.progress_route.specs.Tables.{at, begins_after, less, names_after, put}
use Rattle.progress_route.specs.Tables as table
use Rattle.mux_tokens.specs.Stands.{Up, begin_at, row_of}
use Rattle.mux_tokens.proofs.Finding.{find_gone, find_kept, find_map, find_passes}
use Rattle.mux_tokens.proofs.Rows.{at_less, at_put, hit, num_above, num_back, num_below, num_itself, num_same, up_less, up_put}

-- One more

pub rows_more : (ts : List Token) (t : Token) → map row_of (ts ++ t ∷ []) ≡ map row_of ts ++ row_of t ∷ []
rows_more [] t = refl
rows_more (u ∷ ts) t = ap (λ rs. row_of u ∷ rs) (rows_more ts t)

pub begins_more : (ts : List Token) (t : Token) (k : ℕ) → t.begin ≡ None → begin_at k (ts ++ t ∷ []) ≡ begin_at k ts
begins_more [] t k h = go (is_numbered k t)
  where
    go : (b : Bool) → option_and_then (λ (u : Token). u.begin) (cond b (Some t) None) ≡ None
    go true = h
    go false = refl
begins_more (u ∷ ts) t k h = go (is_numbered k u) (begins_more ts t k h)
  where
    go : (b : Bool) → begin_at k (ts ++ t ∷ []) ≡ begin_at k ts → option_and_then (λ (v : Token). v.begin) (cond b (Some u) (find (is_numbered k) (ts ++ t ∷ []))) ≡ option_and_then (λ (v : Token). v.begin) (cond b (Some u) (find (is_numbered k) ts))
    go true rest = refl
    go false rest = rest

pub rows_below : (n : ℕ) (ts : List Token) → AllByRecursion (λ (u : Token). u.number < n) ts → AllByRecursion (λ (r : ℕ × Text). r.0 < n) (map row_of ts)
rows_below n [] h = tt
rows_below n (u ∷ ts) h = (h.0, rows_below n ts h.1)

-- By numbers, which rise

past_all : (from k : ℕ) (ts : List Token) → k < from → Up from (map row_of ts) → find (is_numbered k) ts ≡ None
past_all from k [] l h = refl
past_all from k (u ∷ ts) l h =
    let p : from ≤ u.number = h.0 in
    ap (λ b. cond b (Some u) (find (is_numbered k) ts)) (num_above u.number k (omega (arith, l, p))) ∙ past_all (u.number + 1) k ts (omega (arith, l, p)) h.1

-- what is found isn't below the first number
found_from : (p : Token → Bool) (from : ℕ) (ts : List Token) (t : Token) → Up from (map row_of ts) → find p ts ≡ Some t → from ≤ t.number
found_from p from [] t h at = absurd (cc)
found_from p from (u ∷ ts) t h at = go (p u) at (λ k. found_from p (u.number + 1) ts t h.1 k)
  where
    go : (b : Bool) → cond b (Some u) (find p ts) ≡ Some t → (find p ts ≡ Some t → u.number + 1 ≤ t.number) → from ≤ t.number
    go true k rest = let same : u ≡ t = cc in subst (λ (y : Token). from ≤ y.number) same h.0
    go false k rest = let q : u.number + 1 ≤ t.number = rest k in let r : from ≤ u.number = h.0 in omega (arith, q, r)

-- what is found by another test is found by its number
pub by_number : (p : Token → Bool) (from : ℕ) (ts : List Token) (t : Token) → Up from (map row_of ts) → find p ts ≡ Some t → find (is_numbered t.number) ts ≡ Some t
by_number p from [] t h at = absurd (cc)
by_number p from (u ∷ ts) t h at = go (p u) at (λ k. by_number p (u.number + 1) ts t h.1 k)
  where
    go : (b : Bool) → cond b (Some u) (find p ts) ≡ Some t → (find p ts ≡ Some t → find (is_numbered t.number) ts ≡ Some t) → cond (nat_eq u.number t.number) (Some u) (find (is_numbered t.number) ts) ≡ Some t
    go true k rest =
        let same : u ≡ t = cc in
        ap (λ b. cond b (Some u) (find (is_numbered t.number) ts)) (ap (λ (y : Token). nat_eq u.number y.number) (sym same) ∙ num_itself u.number) ∙ ap Some same
    go false k rest =
        let q : u.number + 1 ≤ t.number = found_from p (u.number + 1) ts t h.1 k in
        ap (λ b. cond b (Some u) (find (is_numbered t.number) ts)) (num_below u.number t.number (omega (arith, q))) ∙ rest k

-- Progress of a token

module _ (k : ℕ) (body : List ℕ) (params : Option Json) where
  abbrev b : Token → Token
  b t = begun_by k body params t

  abbrev stays : Token → Bool
  stays u = not (is_ended_by k params u)

  abbrev pub progressed_tokens : List Token → List Token
  progressed_tokens ts = filter (λ u. not (is_ended_by k params u)) (map (begun_by k body params) ts)

  pub same_row : (u : Token) → row_of (begun_by k body params u) ≡ row_of u
  same_row u = go (is_numbered k u)
    where
      go : (c : Bool) → row_of (if c then record u { begin = first_begin body params u.begin } else u) ≡ row_of u
      go true = refl
      go false = refl

  pub same_number : (u : Token) → (begun_by k body params u).number ≡ u.number
  same_number u = ap (λ (r : ℕ × Text). r.0) (same_row u)

  numbered_so : (i : ℕ) (u : Token) → is_numbered i (b u) ≡ is_numbered i u
  numbered_so i u = ap (λ n. nat_eq n i) (same_number u)

  -- it stays, where it isn't ended
  stay_names : (ts : List Token) → AllByRecursion (λ u. is_ended_by k params (b u) ≡ false) ts → map row_of ts ≡ map row_of (progressed_tokens ts)
  stay_names [] h = refl
  stay_names (u ∷ ts) h = ap (λ rs. row_of u ∷ rs) (stay_names ts h.1) ∙ (ap (λ r. r ∷ map row_of (progressed_tokens ts)) (sym (same_row u))
      ∙ sym (ap (λ c. map row_of (cond (not c) (b u ∷ progressed_tokens ts) (progressed_tokens ts))) h.0))

  none_ended : is_end params ≡ false → (ts : List Token) → AllByRecursion (λ u. is_ended_by k params (b u) ≡ false) ts
  none_ended off [] = tt
  none_ended off (u ∷ ts) = (ap (λ c. c && is_numbered k (b u)) off, none_ended off ts)

  above_ended : (from : ℕ) (ts : List Token) → k < from → Up from (map row_of ts) → AllByRecursion (λ u. is_ended_by k params (b u) ≡ false) ts
  above_ended from [] l h = tt
  above_ended from (u ∷ ts) l h =
      let p : from ≤ u.number = h.0 in
      (ap (λ c. is_end params && c) (numbered_so k u ∙ num_above u.number k (omega (arith, l, p))) ∙ off (is_end params), above_ended (u.number + 1) ts (omega (arith, l, p)) h.1)
    where
      off : (x : Bool) → (x && false) ≡ false
      off true = refl
      off false = refl

  less_names : is_end params ≡ true → (from : ℕ) (ts : List Token) → Up from (map row_of ts) → less k (map row_of ts) ≡ map row_of (progressed_tokens ts)
  less_names on from [] h = refl
  less_names on from (u ∷ ts) h = go (is_at (nat_cmp k) u.number) refl (less_names on (u.number + 1) ts h.1)
    where
      ended : (c : Bool) → is_at (nat_cmp k) u.number ≡ c → is_ended_by k params (b u) ≡ c
      ended c e = ap (λ x. x && is_numbered k (b u)) on ∙ (numbered_so k u ∙ (num_back u.number k ∙ (sym (hit k u.number) ∙ e)))

      go : (c : Bool) → is_at (nat_cmp k) u.number ≡ c → less k (map row_of ts) ≡ map row_of (progressed_tokens ts) → cond c (map row_of ts) (row_of u ∷ less k (map row_of ts)) ≡ map row_of (cond (not (is_ended_by k params (b u))) (b u ∷ progressed_tokens ts) (progressed_tokens ts))
      go true e rest =
          let same : k ≡ u.number = num_same k u.number (sym (hit k u.number) ∙ e) in
          stay_names ts (above_ended (u.number + 1) ts (omega (arith, same)) h.1)
          ∙ sym (ap (λ c. map row_of (cond (not c) (b u ∷ progressed_tokens ts) (progressed_tokens ts))) (ended true e))
      go false e rest = ap (λ rs. row_of u ∷ rs) rest ∙ (ap (λ r. r ∷ map row_of (progressed_tokens ts)) (sym (same_row u))
          ∙ sym (ap (λ c. map row_of (cond (not c) (b u ∷ progressed_tokens ts) (progressed_tokens ts))) (ended false e)))

  pub names_so : (kind : Kind) → table.is_end kind ≡ is_end params → (ts : List Token) → Up 0 (map row_of ts) → names_after k kind (map row_of ts) ≡ map row_of (progressed_tokens ts)
  names_so Begin ends ts h = stay_names ts (none_ended (sym ends) ts)
  names_so End ends ts h = less_names (sym ends) 0 ts h
  names_so Other ends ts h = stay_names ts (none_ended (sym ends) ts)

  -- the first `begin`s
  abbrev later_at : ℕ → List Token → Option (List ℕ)
  later_at i ts = option_and_then (λ (t : Token). t.begin) (option_map b (find (is_numbered i) ts))

  kept_at : (i : ℕ) (ts : List Token) → ((u : Token) → is_numbered i u ≡ true → stays u ≡ true) → begin_at i (progressed_tokens ts) ≡ later_at i ts
  kept_at i ts h = ap (option_and_then (λ (t : Token). t.begin)) (find_kept (is_numbered i) stays h (map b ts) ∙ find_map (is_numbered i) b (numbered_so i) ts)

  apart_at : (i : ℕ) (ts : List Token) → nat_eq i k ≡ false → begin_at i (progressed_tokens ts) ≡ begin_at i ts
  apart_at i ts off = kept_at i ts (λ u h. ap (λ c. not (is_end params && c)) (other u h) ∙ still (is_end params)) ∙ go (find (is_numbered i) ts) (λ u h. find_passes (is_numbered i) ts u h)
    where
      other : (u : Token) → is_numbered i u ≡ true → is_numbered k u ≡ false
      other u h = ap (λ n. nat_eq n k) (num_same u.number i h) ∙ off

      still : (x : Bool) → not (x && false) ≡ true
      still true = refl
      still false = refl

      go : (o : Option Token) → ((u : Token) → o ≡ Some u → is_numbered i u ≡ true) → option_and_then (λ (t : Token). t.begin) (option_map b o) ≡ option_and_then (λ (t : Token). t.begin) o
      go None h = refl
      go (Some u) h = ap (λ c. (if c then record u { begin = first_begin body params u.begin } else u).begin) (other u (h u refl))

  gone_at : (ts : List Token) → is_end params ≡ true → begin_at k (progressed_tokens ts) ≡ None
  gone_at ts on = ap (option_and_then (λ (t : Token). t.begin)) (find_gone (is_numbered k) stays (λ u h. out (is_numbered k u) (ap (λ c. not (c && is_numbered k u)) (sym on) ∙ h)) (map b ts))
    where
      out : (c : Bool) → not (true && c) ≡ true → c ≡ false
      out true h = never (sym h)
      out false h = refl

  here_at : (ts : List Token) (t : Token) → t.number ≡ k → find (is_numbered k) ts ≡ Some t → is_end params ≡ false → begin_at k (progressed_tokens ts) ≡ first_begin body params t.begin
  here_at ts t own found off = kept_at k ts (λ u h. ap (λ c. not (c && is_numbered k u)) off) ∙ (ap (λ o. option_and_then (λ (t : Token). t.begin) (option_map b o)) found
      ∙ ap (λ c. (if c then record t { begin = first_begin body params t.begin } else t).begin) (ap (λ n. nat_eq n k) own ∙ num_itself k))

  module _ (ts : List Token) (t : Token) (own : t.number ≡ k) (found : find (is_numbered k) ts ≡ Some t) (begins : List (ℕ × List ℕ)) (stand : (i : ℕ) → at i begins ≡ begin_at i ts) (rise : Up 0 begins) where
    first_so : at k begins ≡ t.begin
    first_so = stand k ∙ ap (option_and_then (λ (t : Token). t.begin)) found

    put_apart : (i : ℕ) (c : Bool) → nat_eq i k ≡ false → at i (if c then begins else put k body begins) ≡ at i begins
    put_apart i true off = refl
    put_apart i false off = at_put i k body begins ∙ ap (λ x. cond x (Some body) (at i begins)) off

    put_here : is_begin params ≡ true → (o : Option (List ℕ)) → at k begins ≡ o → at k (if is_some o then begins else put k body begins) ≡ first_begin body params o
    put_here on None e = at_put k k body begins ∙ (ap (λ x. cond x (Some body) (at k begins)) (num_itself k) ∙ sym (ap (λ x. if x then Some body else None) on))
    put_here on (Some first) e = e

    same_first : is_begin params ≡ false → (o : Option (List ℕ)) → o ≡ first_begin body params o
    same_first off None = sym (ap (λ x. if x then Some body else None) off)
    same_first off (Some first) = refl

    at_k : (i : ℕ) → nat_eq i k ≡ true → (rows : List (ℕ × List ℕ)) → at k rows ≡ begin_at k (progressed_tokens ts) → at i rows ≡ begin_at i (progressed_tokens ts)
    at_k i on rows h = let same : i ≡ k = num_same i k on in ap (λ j. at j rows) same ∙ (h ∙ sym (ap (λ j. begin_at j (progressed_tokens ts)) same))

    pub begins_so : (kind : Kind) → table.is_begin kind ≡ is_begin params → table.is_end kind ≡ is_end params → (i : ℕ) → at i (begins_after k body kind begins) ≡ begin_at i (progressed_tokens ts)
    begins_so Begin begun ends i = go (nat_eq i k) refl
      where
        go : (c : Bool) → nat_eq i k ≡ c → at i (if is_some (at k begins) then begins else put k body begins) ≡ begin_at i (progressed_tokens ts)
        go true e = at_k i e (if is_some (at k begins) then begins else put k body begins) (put_here (sym begun) (at k begins) refl ∙ (ap (first_begin body params) first_so ∙ sym (here_at ts t own found (sym ends))))
        go false e = put_apart i (is_some (at k begins)) e ∙ (stand i ∙ sym (apart_at i ts e))
    begins_so End begun ends i = at_less i k 0 begins rise ∙ go (nat_eq i k) refl
      where
        go : (c : Bool) → nat_eq i k ≡ c → cond c None (at i begins) ≡ begin_at i (progressed_tokens ts)
        go true e = sym (ap (λ j. begin_at j (progressed_tokens ts)) (num_same i k e) ∙ gone_at ts (sym ends))
        go false e = stand i ∙ sym (apart_at i ts e)
    begins_so Other begun ends i = go (nat_eq i k) refl
      where
        go : (c : Bool) → nat_eq i k ≡ c → at i begins ≡ begin_at i (progressed_tokens ts)
        go true e = at_k i e begins (first_so ∙ (same_first (sym begun) t.begin ∙ sym (here_at ts t own found (sym ends))))
        go false e = stand i ∙ sym (apart_at i ts e)

  pub up_begins : (kind : Kind) (begins : List (ℕ × List ℕ)) → Up 0 begins → Up 0 (begins_after k body kind begins)
  up_begins Begin begins h = go (is_some (at k begins))
    where
      go : (c : Bool) → Up 0 (if c then begins else put k body begins)
      go true = h
      go false = up_put k 0 body begins (omega arith) h
  up_begins End begins h = up_less k 0 begins h
  up_begins Other begins h = h

pub up_names : (k : ℕ) (kind : Kind) (names : List (ℕ × Text)) → Up 0 names → Up 0 (names_after k kind names)
up_names k Begin names h = h
up_names k End names h = up_less k 0 names h
up_names k Other names h = h
