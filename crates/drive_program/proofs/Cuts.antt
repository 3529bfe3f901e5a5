-- A piece of the pending bytes put behind a line that has begun.
use Rattle.std.proofs.Common.{◌≡◌, ℕ, suc, ◌+◌, ◌^◌, ◌<◌, ◌≤◌, Bool, true, false, nat_eq, nat_lt, cond, List, [], ◌∷◌, ◌++◌, length, take, drop, get_or, if◌then◌else◌, refl, ap, sym, subst, ◌∙◌, append_assoc, add-one, add-zero, arith, drop-cons, IfSome}
use Rattle.std.specs.Prelude.{Option, Some, None}
use Rattle.std.specs.List.{position_or_len}
use Rattle.std.proofs.lemmas.List.{take-append-drop, length-take-le, get_or-take}
use Rattle.std.proofs.lemmas.Bool.{eqb-true}
use Rattle.std.proofs.Math.Seq.{take-length}
use Rattle.std.proofs.lemmas.Bool.Decides.{nat_tests}
use Rattle.std.proofs.lemmas.List.Quantifiers.{position-Some}
use Rattle.std.proofs.lemmas.List.Sums.{fails_before_first}
use Rattle.drive_program.specs.Buffers.{BufferView, known_lines, begun_lines, onto_known, line_feed, Taken, FirstPasses}
use Rattle.drive_program.specs.Lines.{Line, lines_from, onto_first, onto_line, NoFeed}

-- the bytes up to a line feed are a line
whole : (at to : ℕ) (piece rest : List ℕ) → NoFeed piece → to ≡ at + (length piece + 1) → lines_from at (piece ++ 10 ∷ rest) ≡ record { bytes = piece; upto = to } ∷ lines_from to rest
whole at to [] rest h e = let f : at + 1 ≡ to = omega arith in rw f refl
whole at to (b ∷ piece) rest h e =
    let f : to ≡ at + 1 + (length piece + 1) = omega (arith, e) in
    rw h.0 (ap (onto_first (at + 1) b) (whole (at + 1) to piece rest h.1 f))

-- bytes without a line feed begin the line behind them
onto_both : (at to b : ℕ) (piece : List ℕ) (lines : List Line) → (piece ≡ [] → at ≡ to) → onto_first at b (onto_line to piece lines) ≡ onto_line to (b ∷ piece) lines
onto_both at to b [] [] h = rw (h refl) refl
onto_both at to b [] (line ∷ lines) h = refl
onto_both at to b (c ∷ piece) [] h = refl
onto_both at to b (c ∷ piece) (line ∷ lines) h = refl

part : (at to : ℕ) (piece rest : List ℕ) → NoFeed piece → to ≡ at + length piece → lines_from at (piece ++ rest) ≡ onto_line to piece (lines_from to rest)
part at to [] rest h e = let f : at ≡ to = omega arith in ap (λ n. lines_from n rest) f
part at to (b ∷ piece) rest h e =
    let f : to ≡ at + 1 + length piece = omega (arith, e) in
    rw h.0 (ap (onto_first (at + 1) b) (part (at + 1) to piece rest h.1 f) ∙ onto_both (at + 1) to b piece (lines_from to rest) (λ p. omega (arith, f, ap length p)))

-- pieces behind one another
onto_more : (at to : ℕ) (line piece : List ℕ) (lines : List Line) → (piece ≡ [] → ⊥) → onto_line at line (onto_line to piece lines) ≡ onto_line to (line ++ piece) lines
onto_more at to [] piece lines h = refl
onto_more at to (b ∷ line) [] lines h = absurd (h refl)
onto_more at to (b ∷ line) (c ∷ piece) [] h = refl
onto_more at to (b ∷ line) (c ∷ piece) (l ∷ lines) h = ap (λ xs. record { bytes = b ∷ xs; upto = l.upto } ∷ lines) (sym (append_assoc line (c ∷ piece) l.bytes))

onto_end : (at : ℕ) (line : List ℕ) (l : Line) (lines : List Line) → onto_line at line (l ∷ lines) ≡ record { bytes = line ++ l.bytes; upto = l.upto } ∷ lines
onto_end at [] l lines = refl
onto_end at (b ∷ line) l lines = refl

-- the first of these lines ends behind so many bytes
abbrev StartsBehind : ℕ → List Line → Type 0
StartsBehind at [] = Unit {0}
StartsBehind at (line ∷ lines) = at < line.upto

onto_later : (at b : ℕ) (lines : List Line) → StartsBehind (at + 1) lines → StartsBehind at (onto_first (at + 1) b lines)
onto_later at b [] h = omega arith
onto_later at b (line ∷ lines) h = omega (arith, h)

-- what `position` says
no_feed_of : (xs : List ℕ) → ((k : ℕ) → k < length xs → nat_eq (get_or xs k 0) 10 ≡ false) → NoFeed xs
no_feed_of [] h = tt
no_feed_of (b ∷ xs) h = (h 0 (omega arith), no_feed_of xs (λ k l. h (suc k) (omega (arith, l))))

pub no_feed_front : (xs : List ℕ) (i : ℕ) → ((k : ℕ) → k < i → nat_eq (get_or xs k 0) 10 ≡ false) → i ≤ length xs → NoFeed (take i xs)
no_feed_front xs i h l = no_feed_of (take i xs) (λ k m.
    let n : k < i = omega (arith, m, length-take-le i xs l) in
    rw (get_or-take i xs k 0 n) (h k n))

pub split_at : (xs : List ℕ) (i : ℕ) → i < length xs → nat_eq (get_or xs i 0) 10 ≡ true → xs ≡ take i xs ++ 10 ∷ drop (i + 1) xs
split_at xs i l e =
    let d : drop i xs ≡ get_or xs i 0 ∷ drop (i + 1) xs = rw add-one (drop-cons xs i 0 l) in
    let t : get_or xs i 0 ≡ 10 = eqb-true (get_or xs i 0) 10 e in
    sym (take-append-drop i xs) ∙ (ap (λ r. take i xs ++ r) d ∙ ap (λ b. take i xs ++ b ∷ drop (i + 1) xs) t)

none_of : (xs : List ℕ) (n : ℕ) → cond (nat_lt n (length xs)) (Some n) None ≡ None → length xs ≤ n
none_of xs n e = grind (arith, nat_tests)

pub no_feed_none : (xs : List ℕ) → line_feed xs ≡ None → NoFeed xs
no_feed_none xs e =
    let l : length xs ≤ position_or_len (λ b. nat_eq b 10) xs = none_of xs (position_or_len (λ b. nat_eq b 10) xs) e in
    no_feed_of xs (λ k m. fails_before_first (λ b. nat_eq b 10) xs k 0 (omega (arith, l, m)))

cut_list : (i u v : ℕ) (xs ys line grown rest : List ℕ) → NoFeed (take i xs) → xs ≡ take i xs ++ 10 ∷ ys → length (take i xs) ≡ i → v ≡ u + (i + 1) → grown ≡ line ++ take i xs
    → onto_line u line (lines_from u (xs ++ rest)) ≡ record { bytes = grown; upto = v } ∷ lines_from v (ys ++ rest)
cut_list i u v xs ys line grown rest n e l h g =
    let k : v ≡ u + (length (take i xs) + 1) = omega (arith, l, h) in
    let j : xs ++ rest ≡ take i xs ++ 10 ∷ (ys ++ rest) = ap (λ q. q ++ rest) e ∙ append_assoc (take i xs) (10 ∷ ys) rest in
    ap (λ q. onto_line u line (lines_from u q)) j ∙ (ap (onto_line u line) (whole u v (take i xs) (ys ++ rest) n k)
    ∙ (onto_end u line (record { bytes = take i xs; upto = v }) (lines_from v (ys ++ rest)) ∙ ap (λ q. record { bytes = q; upto = v } ∷ lines_from v (ys ++ rest)) (sym g)))

nonempty : (xs : List ℕ) → 0 < length xs → xs ≡ [] → ⊥
nonempty [] h e = omega (arith, h)
nonempty (x ∷ xs) h e = cc

part_list : (u v : ℕ) (xs line grown rest : List ℕ) → NoFeed xs → 0 < length xs → v ≡ u + length xs → grown ≡ line ++ xs
    → onto_line u line (lines_from u (xs ++ rest)) ≡ onto_line v grown (lines_from v rest)
part_list u v xs line grown rest n p h g =
    ap (onto_line u line) (part u v xs rest n h) ∙ (onto_more u v line xs (lines_from v rest) (nonempty xs p) ∙ ap (λ q. onto_line v q (lines_from v rest)) (sym g))

-- a line ends behind the bytes before it
later : (at : ℕ) (bytes : List ℕ) → StartsBehind at (lines_from at bytes)
later at [] = tt
later at (b ∷ bytes) = by (nat_eq b 10) refl (later (at + 1) bytes)
  where
    by : (t : Bool) → nat_eq b 10 ≡ t → StartsBehind (at + 1) (lines_from (at + 1) bytes) → StartsBehind at (if nat_eq b 10 then record { bytes = []; upto = at + 1 } ∷ lines_from (at + 1) bytes else onto_first (at + 1) b (lines_from (at + 1) bytes))
    by true e h = rw e (omega arith)
    by false e h = rw e (onto_later at b (lines_from (at + 1) bytes) h)

passes_onto : (v : ℕ) (grown : List ℕ) (lines : List Line) → (grown ≡ [] → ⊥) → 2 ^ 40 < v → StartsBehind v lines → FirstPasses (onto_line v grown lines)
passes_onto v [] lines n p h = absurd (n refl)
passes_onto v (b ∷ grown) [] n p h = p
passes_onto v (b ∷ grown) (line ∷ lines) n p h = omega (arith, p, h)

grown_nonempty : (line xs : List ℕ) → 0 < length xs → line ++ xs ≡ [] → ⊥
grown_nonempty [] xs h e = nonempty xs h e
grown_nonempty (b ∷ line) xs h e = cc

-- the same as the views of a buffer have it
pub cut_whole : (i : ℕ) (before now : BufferView) (line grown : List ℕ) (left : Option (List ℕ)) → line_feed before.pending ≡ Some i → Taken i 1 before now line grown
    → begun_lines line before left ≡ onto_known (record { bytes = grown; upto = now.used }) (known_lines now left)
cut_whole i before now line grown None f t = refl
cut_whole i before now line grown (Some rest) f t =
    let p : (i < length before.pending) × (nat_eq (get_or before.pending i 0) 10 ≡ true) × ((k : ℕ) → k < i → nat_eq (get_or before.pending k 0) 10 ≡ false) = position-Some (λ b. nat_eq b 10) before.pending i 0 f in
    let m : i ≤ length before.pending = omega (arith, p.0) in
    let e : before.pending ≡ take i before.pending ++ 10 ∷ now.pending = split_at before.pending i p.0 p.1 ∙ ap (λ q. take i before.pending ++ 10 ∷ q) (sym t.pending) in
    ap (λ l. Some l) (cut_list i before.used now.used before.pending now.pending line grown rest (no_feed_front before.pending i p.2 m) e (length-take-le i before.pending m) t.used t.line)

drop-length : (xs : List ℕ) → drop (length xs) xs ≡ []
drop-length [] = refl
drop-length (x ∷ xs) = drop-length xs

pub all_taken : (n m : ℕ) (xs ys : List ℕ) → n ≡ length xs → ys ≡ drop (n + 0) xs → (take n xs ≡ xs) × (ys ≡ [])
all_taken n m xs ys e h = (ap (λ k. take k xs) e ∙ take-length xs, h ∙ (ap (λ k. drop k xs) (add-zero n ∙ e) ∙ drop-length xs))

pub cut_part : (n : ℕ) (before now : BufferView) (line grown : List ℕ) (left : Option (List ℕ)) → line_feed before.pending ≡ None → n ≡ length before.pending → 0 < length before.pending
    → Taken n 0 before now line grown → begun_lines line before left ≡ begun_lines grown now left
cut_part n before now line grown None f e p t = refl
cut_part n before now line grown (Some rest) f e p t =
    let a : (take n before.pending ≡ before.pending) × (now.pending ≡ []) = all_taken n 0 before.pending now.pending e t.pending in
    let u : now.used ≡ before.used + length before.pending = omega (arith, t.used, e) in
    let g : grown ≡ line ++ before.pending = t.line ∙ ap (λ q. line ++ q) a.0 in
    ap (λ l. Some l) (part_list before.used now.used before.pending line grown rest (no_feed_none before.pending f) p u g
    ∙ ap (λ q. onto_line now.used grown (lines_from now.used (q ++ rest))) (sym a.1))

pub passed_whole : (i : ℕ) (before : BufferView) (line : List ℕ) (left : Option (List ℕ)) → line_feed before.pending ≡ Some i → 2 ^ 40 < before.used + (i + 1)
    → IfSome (begun_lines line before left) FirstPasses
passed_whole i before line None f h = tt
passed_whole i before line (Some rest) f h =
    let p : (i < length before.pending) × (nat_eq (get_or before.pending i 0) 10 ≡ true) × ((k : ℕ) → k < i → nat_eq (get_or before.pending k 0) 10 ≡ false) = position-Some (λ b. nat_eq b 10) before.pending i 0 f in
    let m : i ≤ length before.pending = omega (arith, p.0) in
    let v : ℕ = before.used + (i + 1) in
    subst FirstPasses (sym (cut_list i before.used v before.pending (drop (i + 1) before.pending) line (line ++ take i before.pending) rest (no_feed_front before.pending i p.2 m) (split_at before.pending i p.0 p.1) (length-take-le i before.pending m) refl refl)) h

pub passed_part : (n : ℕ) (before : BufferView) (line : List ℕ) (left : Option (List ℕ)) → line_feed before.pending ≡ None → n ≡ length before.pending → 0 < length before.pending
    → 2 ^ 40 < before.used + (n + 0) → IfSome (begun_lines line before left) FirstPasses
passed_part n before line None f e p h = tt
passed_part n before line (Some rest) f e p h =
    let v : ℕ = before.used + length before.pending in
    let o : 2 ^ 40 < v = omega (arith, h, e) in
    subst FirstPasses (sym (part_list before.used v before.pending line (line ++ before.pending) rest (no_feed_none before.pending f) p refl refl))
    (passes_onto v (line ++ before.pending) (lines_from v rest) (grown_nonempty line before.pending p) o (later v rest))
