-- The walk finds the starts of the lines.
use Rattle.std.proofs.Common.{◌≡◌, ℕ, ◌+◌, false, nat_eq, List, [], ◌∷◌, refl, sym, ap, ◌∙◌, arith, subst}
use Rattle.std.specs.Char.{len_utf8}
use Rattle.position_codec.specs.Position.{Lines, last, line, return, lines, with_character, starts, bytes, ending_bytes}
use Rattle.position_codec.specs.Walk.{found}
use Rattle.position_codec.proofs.Sorts.{Sort, is_feed, is_return, is_other, sort, with_first-other, returned_alone}

-- the starts of all lines but the first
abbrev later : ℕ → Lines → List ℕ
later here (last cs) = []
later here (line cs end ls) = starts (here + (bytes cs + ending_bytes end)) ls

first_later : (here : ℕ) (ls : Lines) → starts here ls ≡ here ∷ later here ls
first_later here (last cs) = refl
first_later here (line cs end ls) = refl

later_character : (here c : ℕ) (ls : Lines) → later here (with_character c ls) ≡ later (here + len_utf8 c) ls
later_character here c (last cs) = refl
later_character here c (line cs end ls) = ap (λ x. starts x ls) (omega arith)

later_alone : (here : ℕ) (ls : Lines) → later here (line [] return ls) ≡ (here + 1) ∷ later (here + 1) ls
later_alone here ls = ap (λ x. starts x ls) (let e : here + (0 + 1) ≡ here + 1 = omega arith in e) ∙ first_later (here + 1) ls

-- behind the character c, the starts of the later lines are found
abbrev Finds : ℕ → List ℕ → Type 0
Finds c cs = (here : ℕ) → found c (here + len_utf8 c) cs ≡ later here (lines (c ∷ cs))

finds_last : (c : ℕ) → Sort c → Finds c []
finds_last c (is_feed h) here = rw h (ap (λ x. x ∷ []) (let e : here + 1 ≡ here + (0 + 1) = omega arith in e))
finds_last c (is_return h) here = rw h (ap (λ x. x ∷ []) (let e : here + 1 ≡ here + (0 + 1) = omega arith in e))
finds_last c (is_other g h) here = rw (g, h) refl

behind_feed : (d : ℕ) (ds : List ℕ) → Finds d ds → Finds 10 (d ∷ ds)
behind_feed d ds rest here =
    ap (λ xs. (here + 1) ∷ xs) (rest (here + 1)) ∙ sym (later_alone here (lines (d ∷ ds)))

behind_alone : (d : ℕ) (ds : List ℕ) → nat_eq d 10 ≡ false → Finds d ds → Finds 13 (d ∷ ds)
behind_alone d ds g rest here =
    let e : found 13 (here + 1) (d ∷ ds) ≡ (here + 1) ∷ found d (here + 1 + len_utf8 d) ds = rw g refl in
    e ∙ (ap (λ xs. (here + 1) ∷ xs) (rest (here + 1)) ∙ (sym (later_alone here (lines (d ∷ ds))) ∙ ap (λ ls. later here ls) (sym (returned_alone d (lines ds) g))))

behind_pair : (ds : List ℕ) → Finds 10 ds → Finds 13 (10 ∷ ds)
behind_pair ds rest here =
    rest (here + 1) ∙ ap (λ x. starts x (lines ds)) (let e : here + 1 + (0 + 1) ≡ here + (0 + 2) = omega arith in e)

behind_return : (d : ℕ) (ds : List ℕ) → Sort d → Finds d ds → Finds 13 (d ∷ ds)
behind_return d ds (is_feed h) rest here =
    let P : ℕ → Type 0 = λ x. Finds x ds → Finds 13 (x ∷ ds) in
    subst P (sym h) (behind_pair ds) rest here
behind_return d ds (is_return h) rest here = behind_alone d ds (rw h refl) rest here
behind_return d ds (is_other g h) rest here = behind_alone d ds g rest here

behind_other : (c d : ℕ) (ds : List ℕ) → nat_eq c 10 ≡ false → nat_eq c 13 ≡ false → Finds d ds → Finds c (d ∷ ds)
behind_other c d ds g h rest here =
    let e : found c (here + len_utf8 c) (d ∷ ds) ≡ found d (here + len_utf8 c + len_utf8 d) ds = rw (g, h) refl in
    e ∙ (rest (here + len_utf8 c) ∙ (sym (later_character here c (lines (d ∷ ds))) ∙ ap (λ ls. later here ls) (sym (with_first-other c (lines (d ∷ ds)) g h))))

behind : (c d : ℕ) (ds : List ℕ) → Sort c → Finds d ds → Finds c (d ∷ ds)
behind c d ds (is_feed h) rest here = rw h (behind_feed d ds rest here)
behind c d ds (is_return h) rest here = rw h (behind_return d ds (sort d) rest here)
behind c d ds (is_other g h) rest here = behind_other c d ds g h rest here

finds : (cs : List ℕ) (c : ℕ) → Finds c cs
finds [] c = finds_last c (sort c)
finds (d ∷ ds) c = behind c d ds (sort c) (finds ds d)

-- the first line starts as one does behind a `\n`
pub found_is : (cs : List ℕ) → found 10 0 cs ≡ starts 0 (lines cs)
found_is [] = refl
found_is (c ∷ cs) = ap (λ xs. 0 ∷ xs) (ap (λ x. found c x cs) refl ∙ finds cs c 0) ∙ sym (first_later 0 (lines (c ∷ cs)))
