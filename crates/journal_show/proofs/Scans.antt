-- One more byte of a text that is read.
use Rattle.std.proofs.Common.{◌≡◌, ℕ, ◌+◌, ◌-◌, ◌≤◌, ◌<◌, true, false, nat_eq, List, [], ◌∷◌, ◌++◌, length, take, drop, get_or, refl, sym, ap, ◌∙◌, arith, add-one, drop-cons}
use Rattle.std.specs.Prelude.{Some}
use Rattle.std.proofs.lemmas.List.{take_more, get_or-drop, length-drop}
use Rattle.journal_show.specs.Readings.{ReadingView, after_line, Told, on_line, read_from}

next : (text : List ℕ) (i : ℕ) → i < length text → drop i text ≡ get_or text i 0 ∷ drop (i + 1) text
next text i h = rw add-one (drop-cons text i 0 h)

-- the bytes from a place up to another one
abbrev pub piece : List ℕ → ℕ → ℕ → List ℕ
piece text start at = take (at - start) (drop start text)

piece_more : (text : List ℕ) (start at : ℕ) → start ≤ at → at < length text → piece text start (at + 1) ≡ piece text start at ++ get_or text at 0 ∷ []
piece_more text start at h k =
    let n : at + 1 - start ≡ at - start + 1 = omega (arith, h) in
    let m : start + (at - start) ≡ at = omega (arith, h) in
    let size : length (drop start text) ≡ length text - start = length-drop start text in
    ap (λ k. take k (drop start text)) n ∙ (take_more (drop start text) (at - start) 0 (omega (arith, h, k, size))
    ∙ ap (λ b. piece text start at ++ b ∷ []) (get_or-drop start text (at - start) 0 ∙ ap (λ i. get_or text i 0) m))

plain_byte : (number : ℕ) (reading : ReadingView) (front rest : List ℕ) (b : ℕ) → nat_eq b 10 ≡ false → read_from number reading front (b ∷ rest) ≡ read_from number reading (front ++ b ∷ []) rest
plain_byte number reading front rest b p = rw p refl

last_byte : (number : ℕ) (reading : ReadingView) (front rest : List ℕ) (b : ℕ) → nat_eq b 10 ≡ true
    → read_from number reading front (b ∷ rest) ≡ on_line number (after_line reading front) (λ behind. read_from (number + 1) behind [] rest)
last_byte number reading front rest b p = rw p refl

-- another byte of a line
pub byte_read : (all : Told) (number lines : ℕ) (reading now : ReadingView) (text : List ℕ) (start begin at : ℕ) → start ≤ at → at < length text → nat_eq (get_or text at 0) 10 ≡ false
    → all ≡ read_from number reading (piece text start at) (drop at text) → lines ≡ number → begin ≡ start → now ≡ reading → all ≡ read_from lines now (piece text begin (at + 1)) (drop (at + 1) text)
byte_read all number lines reading now text start begin at h k p e l s r =
    e ∙ (ap (read_from number reading (piece text start at)) (next text at k) ∙ (plain_byte number reading (piece text start at) (drop (at + 1) text) (get_or text at 0) p
    ∙ (ap (λ f. read_from number reading f (drop (at + 1) text)) (sym (piece_more text start at h k))
    ∙ (ap (λ n. read_from n reading (piece text start (at + 1)) (drop (at + 1) text)) (sym l) ∙ (ap (λ i. read_from lines reading (piece text i (at + 1)) (drop (at + 1) text)) (sym s)
    ∙ ap (λ (v : ReadingView). read_from lines v (piece text begin (at + 1)) (drop (at + 1) text)) (sym r))))))

-- a line's end
pub line_taken : (all : Told) (number lines : ℕ) (reading behind now : ReadingView) (text : List ℕ) (start begin at : ℕ) → at < length text → nat_eq (get_or text at 0) 10 ≡ true
    → after_line reading (piece text start at) ≡ Some behind → all ≡ read_from number reading (piece text start at) (drop at text)
    → lines ≡ number + 1 → begin ≡ at + 1 → now ≡ behind → all ≡ read_from lines now (piece text begin (at + 1)) (drop (at + 1) text)
line_taken all number lines reading behind now text start begin at k p t e l s r =
    let n : at + 1 - (at + 1) ≡ 0 = omega arith in
    e ∙ (ap (read_from number reading (piece text start at)) (next text at k) ∙ (last_byte number reading (piece text start at) (drop (at + 1) text) (get_or text at 0) p
    ∙ (ap (λ o. on_line number o (λ behind. read_from (number + 1) behind [] (drop (at + 1) text))) t
    ∙ (ap (λ k. read_from (number + 1) behind (take k (drop (at + 1) text)) (drop (at + 1) text)) (sym n)
    ∙ (ap (λ n. read_from n behind (piece text (at + 1) (at + 1)) (drop (at + 1) text)) (sym l) ∙ (ap (λ i. read_from lines behind (piece text i (at + 1)) (drop (at + 1) text)) (sym s)
    ∙ ap (λ (v : ReadingView). read_from lines v (piece text begin (at + 1)) (drop (at + 1) text)) (sym r)))))))
