-- The walk to a place passes as many bytes as the place's offset says.
use Rattle.std.proofs.Common.{◌≡◌, ℕ, suc, zero, ◌+◌, ◌-◌, Bool, true, false, cond, eqb, List, [], ◌∷◌, refl, sym, ap, ◌∙◌, arith, add_assoc, zero-add}
use Rattle.std.specs.Prelude.{None, Some, nat_lt}
use Rattle.std.specs.Char.{len_utf8}
use Rattle.position_codec.specs.declared.Encoding.{Encoding}
use Rattle.position_codec.specs.Position.{Lines, last, line, feed, return, return_feed, lines, with_return, with_character, offset_at, units, bytes, ending_bytes}
use Rattle.position_codec.specs.Walk.{at, walk, going_on}
use Rattle.position_codec.proofs.Sorts.{Sort, is_feed, is_return, is_other, sort, with_first-other, returned_alone}

-- in front of other lines, a character counts in the first
first_line : (e : Encoding) (n c : ℕ) (ls : Lines) → offset_at e 0 n (with_character c ls) ≡ cond (nat_lt n (units e c)) 0 (len_utf8 c + offset_at e 0 (n - units e c) ls)
first_line e n c (last cs) = refl
first_line e n c (line cs end ls) = refl

later_line : (e : Encoding) (k n c : ℕ) (ls : Lines) → offset_at e (suc k) n (with_character c ls) ≡ len_utf8 c + offset_at e (suc k) n ls
later_line e k n c (last cs) = refl
later_line e k n c (line cs end ls) = add_assoc (len_utf8 c) (bytes cs) (ending_bytes end + offset_at e k n ls)

-- nothing of the first line is before its end
at_return : (e : Encoding) (n : ℕ) (ls : Lines) → offset_at e 0 n (with_return ls) ≡ 0
at_return e n (last cs) = refl
at_return e n (line [] feed ls) = refl
at_return e n (line [] return_feed ls) = refl
at_return e n (line [] return ls) = refl
at_return e n (line (c ∷ cs) end ls) = refl

walk_other : (e : Encoding) (c : ℕ) (cs : List ℕ) (k n : ℕ) → (eqb c 10 ≡ false) × (eqb c 13 ≡ false) → ((k n : ℕ) → walk e (at k n false) cs ≡ offset_at e k n (lines cs)) → walk e (at k n false) (c ∷ cs) ≡ offset_at e k n (with_character c (lines cs))
walk_other e c cs zero n h rest = rw (h.0, h.1, first_line e n c (lines cs)) (choice (nat_lt n (units e c)))
  where
    choice : (b : Bool) → going_on (len_utf8 c) (λ q. walk e q cs) (cond b None (Some (at 0 (n - units e c) false))) ≡ cond b 0 (len_utf8 c + offset_at e 0 (n - units e c) (lines cs))
    choice true = refl
    choice false = ap (λ x. len_utf8 c + x) (rest 0 (n - units e c))
walk_other e c cs (suc k) n h rest = rw (h.0, h.1, later_line e k n c (lines cs)) (ap (λ x. len_utf8 c + x) (rest (suc k) n))

-- behind a `\r` that ended a line
walk_returned : (e : Encoding) (d : ℕ) (ds : List ℕ) (k n : ℕ) → eqb d 10 ≡ false → walk e (at k n true) (d ∷ ds) ≡ walk e (at k n false) (d ∷ ds)
walk_returned e d ds k n h = rw h refl

behind_return : (e : Encoding) (d : ℕ) (ds : List ℕ) (k n : ℕ) → eqb d 10 ≡ false → walk e (at k n false) (d ∷ ds) ≡ offset_at e k n (lines (d ∷ ds)) → walk e (at (suc k) n false) (13 ∷ d ∷ ds) ≡ offset_at e (suc k) n (with_return (lines (d ∷ ds)))
behind_return e d ds k n g rest =
    ap (λ x. 1 + x) (walk_returned e d ds k n g ∙ rest) ∙ (sym (zero-add _) ∙ ap (λ ls. offset_at e (suc k) n ls) (sym (returned_alone d (lines ds) g)))

-- the walk over these characters comes to each place
abbrev Comes : Encoding → List ℕ → Type 0
Comes e cs = (k n : ℕ) → walk e (at k n false) cs ≡ offset_at e k n (lines cs)

walk_feed : (e : Encoding) (cs : List ℕ) → Comes e cs → Comes e (10 ∷ cs)
walk_feed e cs rest zero n = refl
walk_feed e cs rest (suc k) n = sym (zero-add _) ∙ ap (λ x. 0 + (1 + x)) (rest k n)

walk_last_return : (e : Encoding) → Comes e (13 ∷ [])
walk_last_return e zero n = refl
walk_last_return e (suc zero) n = refl
walk_last_return e (suc (suc k)) n = refl

walk_return : (e : Encoding) (d : ℕ) (ds : List ℕ) → Sort d → Comes e (d ∷ ds) → Comes e ds → Comes e (13 ∷ d ∷ ds)
walk_return e d ds s rest more zero n = sym (at_return e n (lines (d ∷ ds)))
walk_return e d ds (is_feed h) rest more (suc k) n = rw h (
    let m = more k n in
    let two : 1 + (1 + walk e (at k n false) ds) ≡ 0 + (2 + offset_at e k n (lines ds)) = omega (arith, m) in
    two)
walk_return e d ds (is_return h) rest more (suc k) n = behind_return e d ds k n (rw h refl) (rest k n)
walk_return e d ds (is_other g h) rest more (suc k) n = behind_return e d ds k n g (rest k n)

walk_sorted : (e : Encoding) (c : ℕ) (cs : List ℕ) → Sort c → Comes e (13 ∷ cs) → Comes e cs → Comes e (c ∷ cs)
walk_sorted e c cs (is_feed h) returned rest k n = rw h (walk_feed e cs rest k n)
walk_sorted e c cs (is_return h) returned rest k n = rw h (returned k n)
walk_sorted e c cs (is_other g h) returned rest k n =
    walk_other e c cs k n (g, h) rest ∙ ap (λ ls. offset_at e k n ls) (sym (with_first-other c (lines cs) g h))

pub walk_is : (e : Encoding) (cs : List ℕ) → Comes e cs
walk_is e [] zero n = refl
walk_is e [] (suc k) n = refl
walk_is e (c ∷ []) k n = walk_sorted e c [] (sort c) (walk_last_return e) (walk_is e []) k n
walk_is e (c ∷ d ∷ ds) k n =
    walk_sorted e c (d ∷ ds) (sort c) (walk_return e d ds (sort d) (walk_is e (d ∷ ds)) (walk_is e ds)) (walk_is e (d ∷ ds)) k n
