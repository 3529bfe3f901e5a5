-- What ends at an editor with the program of a start, as the table has it.
use Rattle.std.proofs.Common.{◌≡◌, ℕ, ◌+◌, ◌<◌, ◌≤◌, Bool, true, false, not, ◌&&◌, ◌||◌, cond, List, [], ◌∷◌, filter, find, map, refl, sym, subst, ◌∙◌, ap, ap₂, arith, nat_eq}
use Rattle.std.specs.Prelude.{Option, Some, None, option_map}
use Rattle.std.specs.List.{AllByRecursion, list_any}
use Rattle.std.specs.Map.{keys_of}
use Rattle.std.specs.Ordering.{nat_cmp}
use Rattle.std.specs.declared.cmp.Ordering.{Ordering}
use Rattle.std.specs.declared.cmp.Ordering.TheVariants.{Less, Equal, Greater}
use Rattle.std.proofs.lemmas.Bool.{and_parts}
use Rattle.std.proofs.lemmas.Cmp.{ranked}
use Rattle.event_model.specs.Event.{Event}
use Rattle.event_model.specs.Settings.{Settings}
use Rattle.group_rows.specs.Created.{Created, Taking, Token, created_of, is_at as is_with}
use Rattle.group_rows.specs.ExitRows.{begun_at, has_begun, unanswered_at}
use Rattle.progress_route.specs.Tables.{Part, Table, at, begun_among, is_noted, numbers_in}
use Rattle.progress_route.specs.Tables as table
use Rattle.mux_tokens.specs.Ends.{begun_tokens, unanswered_takes}
use Rattle.mux_tokens.specs.Rows.{Rows, table_of}
use Rattle.mux_tokens.specs.Stands.{AreApart, CreatedStand, IsOther, Pairs, PartStands, Up, accepted_at, asked_at, is_held_by, is_open_as, part_in, row_of}
use Rattle.mux_tokens.proofs.Finding.{all_so, all_true}
use Rattle.mux_tokens.proofs.Rising.{IsLater, numbers_later}
use Rattle.mux_tokens.proofs.Rows.{at_below, hit, num_above, num_back, num_itself, num_same}

-- Rows that rise are told by what stands at each number

module _ {X : Type 0} where
  at_first : (r : ℕ × X) (rs : List (ℕ × X)) → at r.0 (r ∷ rs) ≡ Some r.1
  at_first r rs = ap (λ b. cond b (Some r.1) (at r.0 rs)) (hit r.0 r.0 ∙ num_itself r.0)

  at_past : (n : ℕ) (r : ℕ × X) (rs : List (ℕ × X)) → r.0 < n → at n (r ∷ rs) ≡ at n rs
  at_past n r rs l = ap (λ b. cond b (Some r.1) (at n rs)) (hit n r.0 ∙ num_above n r.0 l)

  at_none : (r : ℕ × X) (rs : List (ℕ × X)) (n : ℕ) → n < r.0 → Up (r.0 + 1) rs → at n (r ∷ rs) ≡ None
  at_none r rs n l u = at_below n r.0 (r ∷ rs) l (omega arith, u)

  pub same_rows : (from : ℕ) (rs ss : List (ℕ × X)) → Up from rs → Up from ss → ((n : ℕ) → at n rs ≡ at n ss) → rs ≡ ss
  same_rows from [] [] u v h = refl
  same_rows from [] (s ∷ ss) u v h = absurd (let e : ◌≡◌ {A = Option X} None (Some s.1) = h s.0 ∙ at_first s ss in cc)
  same_rows from (r ∷ rs) [] u v h = absurd (let e : ◌≡◌ {A = Option X} (Some r.1) None = sym (at_first r rs) ∙ h r.0 in cc)
  same_rows from (r ∷ rs) (s ∷ ss) u v h = go (nat_cmp r.0 s.0) refl (λ same. same_rows (r.0 + 1) rs ss u.1 (subst (λ n. Up (n + 1) ss) (sym same) v.1) (rest same))
    where
      rest : r.0 ≡ s.0 → (n : ℕ) → at n rs ≡ at n ss
      rest same n = by (nat_cmp n r.0) refl
        where
          by : (o : Ordering) → nat_cmp n r.0 ≡ o → at n rs ≡ at n ss
          by Less is = let l : n < r.0 = ranked n r.0 Less (sym is) in at_below n (r.0 + 1) rs (omega (arith, l)) u.1 ∙ sym (at_below n (s.0 + 1) ss (omega (arith, l, same)) v.1)
          by Equal is = let l : n ≡ r.0 = ranked n r.0 Equal (sym is) in at_below n (r.0 + 1) rs (omega (arith, l)) u.1 ∙ sym (at_below n (s.0 + 1) ss (omega (arith, l, same)) v.1)
          by Greater is = let l : r.0 < n = ranked n r.0 Greater (sym is) in sym (at_past n r rs l) ∙ (h n ∙ at_past n s ss (subst (λ k. k < n) same l))

      go : (o : Ordering) → nat_cmp r.0 s.0 ≡ o → (r.0 ≡ s.0 → rs ≡ ss) → r ∷ rs ≡ s ∷ ss
      go Less is others = absurd (let e : ◌≡◌ {A = Option X} (Some r.1) None = sym (at_first r rs) ∙ (h r.0 ∙ at_none s ss r.0 (ranked r.0 s.0 Less (sym is)) v.1) in cc)
      go Greater is others = absurd (let e : ◌≡◌ {A = Option X} (Some s.1) None = sym (at_first s ss) ∙ (sym (h s.0) ∙ at_none r rs s.0 (ranked r.0 s.0 Greater (sym is)) u.1) in cc)
      go Equal is others =
          let same : r.0 ≡ s.0 = ranked r.0 s.0 Equal (sym is) in
          let e : ◌≡◌ {A = Option X} (Some r.1) (Some s.1) = sym (at_first r rs) ∙ (h r.0 ∙ (ap (λ n. at n (s ∷ ss)) same ∙ at_first s ss)) in
          let value : r.1 ≡ s.1 = cc in
          ap₂ (λ (p : ℕ × X) (ps : List (ℕ × X)). p ∷ ps) (ap₂ (λ (n : ℕ) (x : X). (n, x)) same value) (others same)

-- What an editor didn't answer

abbrev open_row : Taking → ℕ × ℕ
open_row c = (c.number, c.token)

abbrev open_rows : ℕ → List Taking → List (ℕ × ℕ)
open_rows e cs = map open_row (filter (unanswered_at e) cs)

open_at : (e n : ℕ) (cs : List Taking) → at n (open_rows e cs) ≡ asked_at e n cs
open_at e n [] = refl
open_at e n (c ∷ cs) = go c.accepted (is_with e c) (nat_eq c.number n) refl (open_at e n cs)
  where
    by : (d : Bool) → at n (map open_row (filter (unanswered_at e) cs)) ≡ asked_at e n cs → cond d (Some c.token) (at n (map open_row (filter (unanswered_at e) cs))) ≡ option_map (λ (c : Taking). c.token) (cond d (Some c) (find (is_open_as e n) cs))
    by true h = refl
    by false h = h

    go : (a b d : Bool) → nat_eq c.number n ≡ d → at n (map open_row (filter (unanswered_at e) cs)) ≡ asked_at e n cs
        → at n (map open_row (cond (not a && b) (c ∷ filter (unanswered_at e) cs) (filter (unanswered_at e) cs))) ≡ option_map (λ (c : Taking). c.token) (cond (not a && (b && d)) (Some c) (find (is_open_as e n) cs))
    go true b d is h = h
    go false false d is h = h
    go false true d is h = ap (λ k. cond k (Some c.token) (at n (map open_row (filter (unanswered_at e) cs)))) (hit n c.number ∙ (num_back n c.number ∙ is)) ∙ by d h

its_own : (e : ℕ) (c : Taking) → unanswered_at e c ≡ true → is_with e c ≡ true
its_own e c h = (and_parts (not c.accepted) (is_with e c) h).1

open_rise : (e from : ℕ) (cs : List Taking) → AllByRecursion (λ (c : Taking). unanswered_at e c ≡ true → from ≤ c.number) cs → Pairs IsLater cs → Up from (open_rows e cs)
open_rise e from [] h p = tt
open_rise e from (c ∷ cs) h p = go (unanswered_at e c) refl (λ is. open_rise e (c.number + 1) cs (later is) p.1) (open_rise e from cs h.1 p.1)
  where
    later : unanswered_at e c ≡ true → AllByRecursion (λ (d : Taking). unanswered_at e d ≡ true → c.number + 1 ≤ d.number) cs
    later is = all_so (IsLater c) (λ (d : Taking). unanswered_at e d ≡ true → c.number + 1 ≤ d.number)
        (λ d k q. let l : c.number < d.number = k (ap (λ n. nat_eq d.editor n) (num_same c.editor e (its_own e c is)) ∙ its_own e d q) in omega (arith, l)) cs p.0

    go : (b : Bool) → unanswered_at e c ≡ b → (unanswered_at e c ≡ true → Up (c.number + 1) (open_rows e cs)) → Up from (open_rows e cs) → Up from (map open_row (cond b (c ∷ filter (unanswered_at e) cs) (filter (unanswered_at e) cs)))
    go true is behind all = (h.0 is, behind is)
    go false is behind all = all

keys_open : (cs : List Taking) → keys_of (map open_row cs) ≡ map (λ (c : Taking). c.number) cs
keys_open [] = refl
keys_open (c ∷ cs) = ap (λ ns. c.number ∷ ns) (keys_open cs)

part_numbers : (o : Option Part) → numbers_in o ≡ keys_of (part_in o).creates
part_numbers None = refl
part_numbers (Some p) = refl

-- What began there

none_begun : (e k : ℕ) (cs : List Taking) → AllByRecursion (λ (d : Taking). (is_with e d && nat_eq d.token k) ≡ false) cs → list_any (begun_at e k) cs ≡ false
none_begun e k [] h = refl
none_begun e k (d ∷ cs) h = ap₂ (λ b r. (d.begun && (d.accepted && b)) || r) h.0 (none_begun e k cs h.1) ∙ off d.begun d.accepted
  where
    off : (a b : Bool) → ((a && (b && false)) || false) ≡ false
    off true true = refl
    off true false = refl
    off false b = refl

any_begun : (e k : ℕ) (cs : List Taking) → AreApart cs → list_any (begun_at e k) cs ≡ is_noted (accepted_at e k cs)
any_begun e k [] h = refl
any_begun e k (c ∷ cs) h = go (is_held_by e k c) refl (any_begun e k cs h.1)
  where
    others : is_held_by e k c ≡ true → AllByRecursion (λ (d : Taking). (is_with e d && nat_eq d.token k) ≡ false) cs
    others is =
        let both = and_parts (is_with e c) (nat_eq c.token k) (and_parts c.accepted (is_with e c && nat_eq c.token k) is).1 in
        all_so (IsOther c) (λ (d : Taking). (is_with e d && nat_eq d.token k) ≡ false)
        (λ d o. ap₂ (λ a b. nat_eq d.editor a && nat_eq d.token b) (sym (num_same c.editor e both.0)) (sym (num_same c.token k both.1)) ∙ o.1) cs h.0

    first : (b : Bool) → ((b && true) || false) ≡ b
    first true = refl
    first false = refl

    off : (b : Bool) → (b && false) ≡ false
    off true = refl
    off false = refl

    go : (b : Bool) → is_held_by e k c ≡ b → list_any (begun_at e k) cs ≡ is_noted (accepted_at e k cs) → ((c.begun && b) || list_any (begun_at e k) cs) ≡ is_noted (option_map (λ (c : Taking). c.begun) (cond b (Some c) (find (is_held_by e k) cs)))
    go true is rest = ap (λ r. (c.begun && true) || r) (none_begun e k cs (others is)) ∙ first c.begun
    go false is rest = ap (λ r. r || list_any (begun_at e k) cs) (off c.begun) ∙ rest

among_so : (o : Option Part) (ks : List ℕ) → begun_among ks o ≡ filter (λ k. is_noted (at k (part_in o).accepted)) ks
among_so (Some p) ks = refl
among_so None [] = refl
among_so None (k ∷ ks) = among_so None ks

filter_alike : (p q : ℕ → Bool) → ((k : ℕ) → p k ≡ q k) → (ks : List ℕ) → filter p ks ≡ filter q ks
filter_alike p q h [] = refl
filter_alike p q h (k ∷ ks) = ap₂ (λ b (rest : List ℕ). cond b (k ∷ rest) rest) (h k) (filter_alike p q h ks)

filter_numbers : (p : ℕ → Bool) (ts : List Token) → filter p (map (λ (t : Token). t.number) ts) ≡ map (λ (t : Token). t.number) (filter (λ (t : Token). p t.number) ts)
filter_numbers p [] = refl
filter_numbers p (t ∷ ts) = go (p t.number) (filter_numbers p ts)
  where
    go : (b : Bool) → filter p (map (λ (t : Token). t.number) ts) ≡ map (λ (t : Token). t.number) (filter (λ (t : Token). p t.number) ts)
        → cond b (t.number ∷ filter p (map (λ (t : Token). t.number) ts)) (filter p (map (λ (t : Token). t.number) ts)) ≡ map (λ (t : Token). t.number) (cond b (t ∷ filter (λ (t : Token). p t.number) ts) (filter (λ (t : Token). p t.number) ts))
    go true h = ap (λ ns. t.number ∷ ns) h
    go false h = h

keys_names : (ts : List Token) → keys_of (map row_of ts) ≡ map (λ (t : Token). t.number) ts
keys_names [] = refl
keys_names (t ∷ ts) = ap (λ ns. t.number ∷ ns) (keys_names ts)

-- As it is read

module _ (settings : Settings) (rows : Rows) (events : List Event) (st : CreatedStand settings rows events) (s e : ℕ) where
  abbrev x : Created
  x = created_of settings s events

  abbrev t : Table
  t = table_of s rows

  parts : PartStands e x.takings (part_in (at e t.parts))
  parts = (st.each s).parts e

  pub unanswered_seen : numbers_in (at e (table_of s rows).parts) ≡ unanswered_takes e (created_of settings s events)
  unanswered_seen = part_numbers (at e t.parts)
      ∙ (ap (λ (rs : List (ℕ × ℕ)). keys_of rs) (same_rows 0 (part_in (at e t.parts)).creates (open_rows e x.takings) parts.numbers_rise
      (open_rise e 0 x.takings (all_true (λ (c : Taking). unanswered_at e c ≡ true → 0 ≤ c.number) (λ c q. omega arith) x.takings) (numbers_later settings s events)) (λ n. parts.creates n ∙ sym (open_at e n x.takings)))
      ∙ keys_open (filter (unanswered_at e) x.takings))

  pub begun_seen : table.begun_at e (table_of s rows) ≡ begun_tokens e (created_of settings s events)
  begun_seen = ap (λ ks. begun_among ks (at e t.parts)) (ap (λ (rs : List (ℕ × List ℕ)). keys_of rs) (st.each s).names ∙ keys_names x.tokens)
      ∙ (among_so (at e t.parts) (map (λ (t : Token). t.number) x.tokens)
      ∙ (filter_alike (λ k. is_noted (at k (part_in (at e t.parts)).accepted)) (λ k. has_begun e k x) (λ k. ap is_noted (parts.accepted k) ∙ sym (any_begun e k x.takings (st.each s).apart)) (map (λ (t : Token). t.number) x.tokens)
      ∙ filter_numbers (λ k. has_begun e k x) x.tokens))
