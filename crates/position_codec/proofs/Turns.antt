-- One turn of a loop over the characters of a text.
use Rattle.std.proofs.Common.{◌≡◌, ℕ, ◌+◌, ◌<◌, ◌≤◌, true, false, cond, List, [], ◌∷◌, ◌++◌, length, get_or, drop, refl, sym, ap, ◌∙◌, arith, append_assoc, append-nil, length-append}
use Rattle.std.specs.Prelude.{Some, None, IsUtf8}
use Rattle.std.specs.Char.{len_utf8}
use Rattle.std.specs.Str.{chars}
use Rattle.std.proofs.Math.Utf8.{encode, encodes}
use Rattle.std.proofs.lemmas.List.{at_drop_more, at_drop_all}
use Rattle.std.proofs.lemmas.Str.{encodes-chars, length-encode}
use Rattle.position_codec.specs.declared.Encoding.{Encoding}
use Rattle.position_codec.specs.declared.Place.{Place}
use Rattle.position_codec.specs.Position.{bytes}
use Rattle.position_codec.specs.Walk.{walk, past, going_on, found, starts_between, ends_line}

pub bytes_encodes : (cs : List ℕ) → length (encodes cs) ≡ bytes cs
bytes_encodes [] = refl
bytes_encodes (c ∷ cs) = omega (arith, length-append (encode c) (encodes cs), length-encode c, bytes_encodes cs)

-- the characters of a text take its bytes
pub bytes_chars : (s : List ℕ) → IsUtf8 s → bytes (chars s) ≡ length s
bytes_chars s u = sym (bytes_encodes (chars s)) ∙ ap length (encodes-chars s u)

-- c is the n-th of these characters
abbrev pub Next : List ℕ → ℕ → ℕ → Type 0
Next cs n c = (n < length cs) × (c ≡ get_or cs n c)

pub bytes_turn : (cs : List ℕ) (n m c : ℕ) → Next cs n c → m ≡ n + 1 → bytes (drop n cs) ≡ len_utf8 c + bytes (drop m cs)
bytes_turn cs n m c h e = rw e (at_drop_more bytes cs n c h.0 ∙ ap (λ x. len_utf8 x + bytes (drop (n + 1) cs)) (sym h.1))

walk_turn : (e : Encoding) (p : Place) (cs : List ℕ) (n c : ℕ) → Next cs n c → walk e p (drop n cs) ≡ going_on (len_utf8 c) (λ q. walk e q (drop (n + 1) cs)) (past e p c)
walk_turn e p cs n c h =
    at_drop_more (λ xs. walk e p xs) cs n c h.0 ∙ ap (λ x. going_on (len_utf8 x) (λ q. walk e q (drop (n + 1) cs)) (past e p x)) (sym h.1)

pub walk_stops : (e : Encoding) (p : Place) (cs : List ℕ) (n c here whole : ℕ) → Next cs n c → None ≡ past e p c → here + walk e p (drop n cs) ≡ whole → here ≡ whole
walk_stops e p cs n c here whole h s inv =
    let w : walk e p (drop n cs) ≡ 0 = walk_turn e p cs n c h ∙ ap (λ o. going_on (len_utf8 c) (λ q. walk e q (drop (n + 1) cs)) o) (sym s) in
    omega (arith, w, inv)

pub walk_goes : (e : Encoding) (p q : Place) (cs : List ℕ) (n m c here whole : ℕ) → Next cs n c → m ≡ n + 1 → Some q ≡ past e p c → here + walk e p (drop n cs) ≡ whole → here + len_utf8 c + walk e q (drop m cs) ≡ whole
walk_goes e p q cs n m c here whole h k s inv =
    let w : walk e p (drop n cs) ≡ len_utf8 c + walk e q (drop (n + 1) cs) = walk_turn e p cs n c h ∙ ap (λ o. going_on (len_utf8 c) (λ q. walk e q (drop (n + 1) cs)) o) (sym s) in
    rw k (omega (arith, w, inv))

found_turn : (p here : ℕ) (cs : List ℕ) (n c : ℕ) → Next cs n c → found p here (drop n cs) ≡ cond (starts_between p c) (here ∷ found c (here + len_utf8 c) (drop (n + 1) cs)) (found c (here + len_utf8 c) (drop (n + 1) cs))
found_turn p here cs n c h =
    at_drop_more (λ xs. found p here xs) cs n c h.0 ∙ ap (λ x. cond (starts_between p x) (here ∷ found x (here + len_utf8 x) (drop (n + 1) cs)) (found x (here + len_utf8 x) (drop (n + 1) cs))) (sym h.1)

pub found_starts : (p here : ℕ) (cs : List ℕ) (n m c : ℕ) (xs whole : List ℕ) → Next cs n c → m ≡ n + 1 → starts_between p c ≡ true → xs ++ found p here (drop n cs) ≡ whole → (xs ++ here ∷ []) ++ found c (here + len_utf8 c) (drop m cs) ≡ whole
found_starts p here cs n m c xs whole h k s inv =
    let f : found p here (drop n cs) ≡ here ∷ found c (here + len_utf8 c) (drop (n + 1) cs) = found_turn p here cs n c h ∙ ap (λ b. cond b (here ∷ found c (here + len_utf8 c) (drop (n + 1) cs)) (found c (here + len_utf8 c) (drop (n + 1) cs))) s in
    rw k (append_assoc xs (here ∷ []) (found c (here + len_utf8 c) (drop (n + 1) cs)) ∙ (ap (λ ys. xs ++ ys) (sym f) ∙ inv))

pub found_passes : (p here : ℕ) (cs : List ℕ) (n m c : ℕ) (xs whole : List ℕ) → Next cs n c → m ≡ n + 1 → starts_between p c ≡ false → xs ++ found p here (drop n cs) ≡ whole → xs ++ found c (here + len_utf8 c) (drop m cs) ≡ whole
found_passes p here cs n m c xs whole h k s inv =
    let f : found p here (drop n cs) ≡ found c (here + len_utf8 c) (drop (n + 1) cs) = found_turn p here cs n c h ∙ ap (λ b. cond b (here ∷ found c (here + len_utf8 c) (drop (n + 1) cs)) (found c (here + len_utf8 c) (drop (n + 1) cs))) s in
    rw k (ap (λ ys. xs ++ ys) (sym f) ∙ inv)

-- at the end of the text
pub walk_ends : (e : Encoding) (p : Place) (cs : List ℕ) (n here whole : ℕ) → length cs ≤ n → here + walk e p (drop n cs) ≡ whole → here ≡ whole
walk_ends e p cs n here whole h inv =
    let w : walk e p (drop n cs) ≡ 0 = at_drop_all (λ xs. walk e p xs) cs n h in
    omega (arith, w, inv)

pub found_ends : (p here : ℕ) (cs : List ℕ) (n : ℕ) (xs whole : List ℕ) → length cs ≤ n → ends_line p ≡ true → xs ++ found p here (drop n cs) ≡ whole → xs ++ here ∷ [] ≡ whole
found_ends p here cs n xs whole h s inv =
    let f : found p here (drop n cs) ≡ here ∷ [] = at_drop_all (λ ys. found p here ys) cs n h ∙ ap (λ b. cond b (here ∷ []) []) s in
    ap (λ ys. xs ++ ys) (sym f) ∙ inv

pub found_none : (p here : ℕ) (cs : List ℕ) (n : ℕ) (xs whole : List ℕ) → length cs ≤ n → ends_line p ≡ false → xs ++ found p here (drop n cs) ≡ whole → xs ≡ whole
found_none p here cs n xs whole h s inv =
    let f : found p here (drop n cs) ≡ [] = at_drop_all (λ ys. found p here ys) cs n h ∙ ap (λ b. cond b (here ∷ []) []) s in
    sym (append-nil xs) ∙ (ap (λ ys. xs ++ ys) (sym f) ∙ inv)
