-- Pieces, one after the other.
use Rattle.std.proofs.Common.{◌≡◌, ℕ, suc, zero, ◌+◌, ◌-◌, ◌<◌, ◌≤◌, get_or, Bool, true, false, List, [], ◌∷◌, ◌++◌, length, take, drop, refl, sym, ap, ◌∙◌, arith, subst, append_assoc, append-nil, length-append}
use Rattle.std.specs.Prelude.{nat_lt}
use Rattle.std.proofs.lemmas.Bool.Decides.{nat_tests}
use Rattle.std.proofs.lemmas.List.{take-append-drop, take_at, drop_at, take_more, take_all, drop_all, length-take-le, length-drop, get_or_past, get_or_default}
use Rattle.text_pieces.specs.declared.cut.Cut.{Cut}
use Rattle.text_pieces.specs.Pieces.{text_of, piece_at, cut_at, cut_before, IsCut}

pub text_append : (ps qs : List (List ℕ)) → text_of (ps ++ qs) ≡ text_of ps ++ text_of qs
text_append [] qs = refl
text_append (p ∷ ps) qs = ap (λ l. p ++ l) (text_append ps qs) ∙ sym (append_assoc p (text_of ps) (text_of qs))

pub text_push : (ps : List (List ℕ)) (p : List ℕ) → text_of (ps ++ p ∷ []) ≡ text_of ps ++ p
text_push ps p = text_append ps (p ∷ []) ∙ ap (λ l. text_of ps ++ l) (append-nil p)

-- one piece more
pub text_more : (ps : List (List ℕ)) (i : ℕ) (d : List ℕ) → i < length ps → text_of (take (i + 1) ps) ≡ text_of (take i ps) ++ get_or ps i d
text_more ps i d h = ap text_of (take_more ps i d h) ∙ text_push (take i ps) (get_or ps i d)

-- the pieces before one, that one, and those behind it
pub text_split : (ps : List (List ℕ)) (i : ℕ) (d : List ℕ) → i < length ps → text_of ps ≡ text_of (take i ps) ++ (get_or ps i d ++ text_of (drop (i + 1) ps))
text_split ps i d h =
    ap text_of (sym (take-append-drop (i + 1) ps)) ∙ (text_append (take (i + 1) ps) (drop (i + 1) ps) ∙ (ap (λ l. l ++ text_of (drop (i + 1) ps)) (text_more ps i d h) ∙ append_assoc (text_of (take i ps)) (get_or ps i d) (text_of (drop (i + 1) ps))))

-- the text, cut in two
pub text_parts : (ps : List (List ℕ)) (c : Cut) (d : List ℕ) → c.index < length ps → text_of ps ≡ (text_of (take c.index ps) ++ take c.offset (get_or ps c.index d)) ++ (drop c.offset (get_or ps c.index d) ++ text_of (drop (c.index + 1) ps))
text_parts ps c d h =
    let p : List ℕ = get_or ps c.index d in
    let t : List ℕ = text_of (take c.index ps) in
    let r : List ℕ = text_of (drop (c.index + 1) ps) in
    text_split ps c.index d h ∙ (ap (λ l. t ++ (l ++ r)) (sym (take-append-drop c.offset p)) ∙ (ap (λ l. t ++ l) (append_assoc (take c.offset p) (drop c.offset p) r) ∙ sym (append_assoc t (take c.offset p) (drop c.offset p ++ r))))

-- the text before a cut
pub text_before : (ps : List (List ℕ)) (c : Cut) (d : List ℕ) → c.index < length ps → c.offset ≤ length (get_or ps c.index d) → text_of (take c.index ps) ++ take c.offset (get_or ps c.index d) ≡ take (cut_at ps c) (text_of ps)
text_before ps c d h o =
    let p : List ℕ = get_or ps c.index d in
    let front : List ℕ = text_of (take c.index ps) ++ take c.offset p in
    let back : List ℕ = drop c.offset p ++ text_of (drop (c.index + 1) ps) in
    let size : length front ≡ cut_at ps c = length-append (text_of (take c.index ps)) (take c.offset p) ∙ ap (λ k. length (text_of (take c.index ps)) + k) (length-take-le c.offset p o) in
    sym (ap (λ l. take (cut_at ps c) l) (text_parts ps c d h) ∙ take_at front back (cut_at ps c) size)

-- and behind it
pub text_behind_cut : (ps : List (List ℕ)) (c : Cut) (d : List ℕ) → c.index < length ps → c.offset ≤ length (get_or ps c.index d) → drop c.offset (get_or ps c.index d) ++ text_of (drop (c.index + 1) ps) ≡ drop (cut_at ps c) (text_of ps)
text_behind_cut ps c d h o =
    let p : List ℕ = get_or ps c.index d in
    let front : List ℕ = text_of (take c.index ps) ++ take c.offset p in
    let back : List ℕ = drop c.offset p ++ text_of (drop (c.index + 1) ps) in
    let size : length front ≡ cut_at ps c = length-append (text_of (take c.index ps)) (take c.offset p) ∙ ap (λ k. length (text_of (take c.index ps)) + k) (length-take-le c.offset p o) in
    sym (ap (λ l. drop (cut_at ps c) l) (text_parts ps c d h) ∙ drop_at front back (cut_at ps c) size)

-- a cut behind the last piece is at the end
end_cut : (ps : List (List ℕ)) (c : Cut) → IsCut ps c → length ps ≤ c.index → cut_at ps c ≡ length (text_of ps)
end_cut ps c is h =
    let e : piece_at ps c.index ≡ [] = get_or_past ps c.index [] h in
    let z : c.offset ≤ 0 = subst (λ l. c.offset ≤ length l) e is.1.0 in
    let t : text_of (take c.index ps) ≡ text_of ps = ap text_of (take_all c.index ps h) in
    let s : length (text_of (take c.index ps)) ≡ length (text_of ps) = ap length t in
    omega (arith, z, s)

pub text_before_end : (ps : List (List ℕ)) (c : Cut) → IsCut ps c → length ps ≤ c.index → text_of (take c.index ps) ≡ take (cut_at ps c) (text_of ps)
text_before_end ps c is h = ap text_of (take_all c.index ps h) ∙ sym (ap (λ k. take k (text_of ps)) (end_cut ps c is h) ∙ take_all (length (text_of ps)) (text_of ps) (omega arith))

pub text_behind_end : (ps : List (List ℕ)) (c : Cut) → IsCut ps c → length ps ≤ c.index → [] ≡ drop (cut_at ps c) (text_of ps)
text_behind_end ps c is h = sym (ap (λ k. drop k (text_of ps)) (end_cut ps c is h) ∙ drop_all (length (text_of ps)) (text_of ps) (omega arith))

-- the length of more pieces is not less
first_least : (ps : List (List ℕ)) (i j : ℕ) → i ≤ j → length (text_of (take i ps)) ≤ length (text_of (take j ps))
first_least ps zero j h = omega arith
first_least [] (suc i) j h = omega arith
first_least (p ∷ ps) (suc i) zero h = absurd (omega (arith, h))
first_least (p ∷ ps) (suc i) (suc j) h =
    let r = first_least ps i j (omega (arith, h)) in
    let a = length-append p (text_of (take i ps)) in
    let b = length-append p (text_of (take j ps)) in
    omega (arith, r, a, b)

-- a cut in an earlier piece is not behind one in a later piece
earlier : (ps : List (List ℕ)) (a b : Cut) → IsCut ps a → IsCut ps b → a.index < b.index → cut_at ps a ≤ cut_at ps b
earlier ps a b p q h =
    let inside : a.index < length ps = omega (arith, h, q.0) in
    let m : length (text_of (take (a.index + 1) ps)) ≡ length (text_of (take a.index ps)) + length (piece_at ps a.index) = ap length (text_more ps a.index [] inside) ∙ length-append (text_of (take a.index ps)) (piece_at ps a.index) in
    let l : length (text_of (take (a.index + 1) ps)) ≤ length (text_of (take b.index ps)) = first_least ps (a.index + 1) b.index (omega (arith, h)) in
    omega (arith, m, l, p.1.0)

same_piece : (ps : List (List ℕ)) (a b : Cut) → a.index ≡ b.index → a.offset ≤ b.offset → cut_at ps a ≤ cut_at ps b
same_piece ps a b e h = let s = ap (λ i. length (text_of (take i ps))) e in omega (arith, s, h)

pub cut_order : (ps : List (List ℕ)) (a b : Cut) → IsCut ps a → IsCut ps b → cut_before a b ≡ true → cut_at ps a ≤ cut_at ps b
cut_order ps a b p q h = go (nat_lt a.index b.index) refl
  where
    go : (x : Bool) → nat_lt a.index b.index ≡ x → cut_at ps a ≤ cut_at ps b
    go true e = earlier ps a b p q (grind (arith, nat_tests, e))
    go false e = same_piece ps a b (grind (arith, nat_tests, e, h)) (grind (arith, nat_tests, e, h))

pub cut_no_order : (ps : List (List ℕ)) (a b : Cut) → IsCut ps a → IsCut ps b → cut_before a b ≡ false → cut_at ps b ≤ cut_at ps a
cut_no_order ps a b p q h = go (nat_lt b.index a.index) refl
  where
    go : (x : Bool) → nat_lt b.index a.index ≡ x → cut_at ps b ≤ cut_at ps a
    go true e = earlier ps b a q p (grind (arith, nat_tests, e))
    go false e = same_piece ps b a (grind (arith, nat_tests, e, h)) (grind (arith, nat_tests, e, h))

-- a piece read from a list
pub text_turn : (ps : List (List ℕ)) (i : ℕ) (x : List ℕ) → i < length ps → x ≡ get_or ps i x → text_of (take (i + 1) ps) ≡ text_of (take i ps) ++ x
text_turn ps i x h e = text_more ps i x h ∙ ap (λ l. text_of (take i ps) ++ l) (sym e)

-- a piece put behind others
pub text_pushed : (ps qs : List (List ℕ)) (p x : List ℕ) → qs ≡ ps ++ p ∷ [] → p ≡ x → text_of qs ≡ text_of ps ++ x
text_pushed ps qs p x h e = ap text_of h ∙ (text_push ps p ∙ ap (λ l. text_of ps ++ l) e)

-- a piece put behind others, where nothing is open
pub built : (ps qs : List (List ℕ)) (p x uncut before : List ℕ) → qs ≡ ps ++ p ∷ [] → p ≡ x → uncut ≡ [] → text_of ps ++ uncut ≡ before → text_of qs ++ uncut ≡ before ++ x
built ps qs p x uncut before h e z t =
    let b : text_of ps ≡ before = sym (append-nil (text_of ps)) ∙ (ap (λ l. text_of ps ++ l) (sym z) ∙ t) in
    ap (λ l. text_of qs ++ l) z ∙ (append-nil (text_of qs) ∙ (text_pushed ps qs p x h e ∙ ap (λ l. l ++ x) b))

-- the front of a rest put behind the pieces
pub cut_on : (ps qs : List (List ℕ)) (p x rest behind whole : List ℕ) (n : ℕ) → qs ≡ ps ++ p ∷ [] → p ≡ x → x ≡ take n rest → behind ≡ drop n rest → text_of ps ++ rest ≡ whole → text_of qs ++ behind ≡ whole
cut_on ps qs p x rest behind whole n h e front back t =
    ap (λ l. l ++ behind) (text_pushed ps qs p x h e) ∙ (append_assoc (text_of ps) x behind ∙ (ap (λ l. text_of ps ++ l) ((λ i. front i ++ back i) ∙ take-append-drop n rest) ∙ t))

-- what is open joined with the last piece
pub joined_last : (ps qs : List (List ℕ)) (last uncut joined after : List ℕ) → ps ≡ qs ++ last ∷ [] → joined ≡ last → after ≡ joined ++ uncut → text_of qs ++ after ≡ text_of ps ++ uncut
joined_last ps qs last uncut joined after h e a =
    ap (λ l. text_of qs ++ l) (a ∙ ap (λ l. l ++ uncut) e) ∙ (sym (append_assoc (text_of qs) last uncut) ∙ ap (λ l. l ++ uncut) (sym (text_pushed qs ps last last h refl)))

-- one piece more was put behind a text
pub turned : (old : List ℕ) (ps : List (List ℕ)) (i : ℕ) (x now after : List ℕ) → i < length ps → x ≡ get_or ps i x → now ≡ old ++ text_of (take i ps) → after ≡ now ++ x → after ≡ old ++ text_of (take (i + 1) ps)
turned old ps i x now after h e n a =
    a ∙ (ap (λ l. l ++ x) n ∙ (append_assoc old (text_of (take i ps)) x ∙ ap (λ l. old ++ l) (sym (text_turn ps i x h e))))

-- a piece, as a cut sees it
cut_piece : (ps : List (List ℕ)) (i : ℕ) (x s : List ℕ) → i < length ps → x ≡ get_or ps i x → s ≡ x → s ≡ piece_at ps i
cut_piece ps i x s h e t = t ∙ (e ∙ get_or_default ps i x [] h)

-- all pieces before a cut were put there, and then the part of its piece
pub before_cut : (old : List ℕ) (ps : List (List ℕ)) (c : Cut) (i : ℕ) (x s t now after : List ℕ) → IsCut ps c → c.index < length ps → x ≡ get_or ps c.index x → length (take c.index ps) ≤ i → now ≡ old ++ text_of (take i (take c.index ps)) → s ≡ x → t ≡ take c.offset s → after ≡ now ++ t
    → after ≡ old ++ take (cut_at ps c) (text_of ps)
before_cut old ps c i x s t now after is h e l n sx ts a =
    let w : text_of (take i (take c.index ps)) ≡ text_of (take c.index ps) = ap text_of (take_all i (take c.index ps) l) in
    let p : t ≡ take c.offset (piece_at ps c.index) = ts ∙ ap (λ l. take c.offset l) (cut_piece ps c.index x s h e sx) in
    a ∙ ((λ k. (n ∙ ap (λ l. old ++ l) w) k ++ p k) ∙ (append_assoc old (text_of (take c.index ps)) (take c.offset (piece_at ps c.index)) ∙ ap (λ l. old ++ l) (text_before ps c [] h is.1.0)))

-- the part of its piece behind a cut was put there
pub behind_starts : (old : List ℕ) (ps : List (List ℕ)) (c : Cut) (x s t after : List ℕ) → c.index < length ps → x ≡ get_or ps c.index x → s ≡ x → t ≡ drop c.offset s → after ≡ old ++ t → after ≡ (old ++ drop c.offset (piece_at ps c.index)) ++ []
behind_starts old ps c x s t after h e sx ts a =
    a ∙ (ap (λ l. old ++ l) (ts ∙ ap (λ l. drop c.offset l) (cut_piece ps c.index x s h e sx)) ∙ sym (append-nil (old ++ drop c.offset (piece_at ps c.index))))

-- and then all pieces behind it
pub behind_ends : (old : List ℕ) (ps qs : List (List ℕ)) (c : Cut) (n i : ℕ) (now : List ℕ) → IsCut ps c → c.index < length ps → n ≡ length ps - (c.index + 1) → qs ≡ take n (drop (c.index + 1) ps) → length qs ≤ i → now ≡ (old ++ drop c.offset (piece_at ps c.index)) ++ text_of (take i qs)
    → now ≡ old ++ drop (cut_at ps c) (text_of ps)
behind_ends old ps qs c n i now is h m q l a =
    let d : length (drop (c.index + 1) ps) ≡ length ps - (c.index + 1) = length-drop (c.index + 1) ps in
    let w : qs ≡ drop (c.index + 1) ps = q ∙ take_all n (drop (c.index + 1) ps) (omega (arith, m, d)) in
    let v : text_of (take i qs) ≡ text_of (drop (c.index + 1) ps) = ap text_of (take_all i qs l ∙ w) in
    a ∙ (ap (λ l. (old ++ drop c.offset (piece_at ps c.index)) ++ l) v ∙ (append_assoc old (drop c.offset (piece_at ps c.index)) (text_of (drop (c.index + 1) ps)) ∙ ap (λ l. old ++ l) (text_behind_cut ps c [] h is.1.0)))
