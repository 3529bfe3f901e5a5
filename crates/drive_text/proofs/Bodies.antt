-- A body read a byte at a time: what is read and what is left are the whole.
use Rattle.std.proofs.Common.{◌≡◌, ℕ, ◌+◌, ◌<◌, Bool, true, false, nat_eq, List, [], ◌∷◌, ◌++◌, length, drop, get_or, refl, ap, sym, ◌∙◌, append_assoc, add-one, drop-cons, option_map}
use Rattle.std.specs.Prelude.{Option, Some, None, ◌||◌}
use Rattle.std.specs.List.{list_any}
use Rattle.drive_text.specs.Marks.{body_from, is_break, is_special, mark_of, marked, text_of_body}

-- the front of a body before the rest of it
abbrev pub onto : List ℕ → Option (List ℕ) → Option (List ℕ)
onto front rest = option_map (λ r. front ++ r) rest

onto_more : (front : List ℕ) (b : ℕ) (rest : Option (List ℕ)) → onto front (option_map (λ r. b ∷ r) rest) ≡ onto (front ++ b ∷ []) rest
onto_more front b None = refl
onto_more front b (Some r) = ap (λ l. Some l) (sym (append_assoc front (b ∷ []) r))

plain : (front text : List ℕ) (b : ℕ) → nat_eq b 94 ≡ false → is_break b ≡ false → onto front (body_from false (b ∷ text)) ≡ onto (front ++ b ∷ []) (body_from false text)
plain front text b p q = rw p (rw q (onto_more front b (body_from false text)))

begun : (text : List ℕ) (b : ℕ) → nat_eq b 94 ≡ true → body_from false (b ∷ text) ≡ body_from true text
begun text b p = rw p

meant : (front text : List ℕ) (b c : ℕ) → mark_of b ≡ Some c → onto front (body_from true (b ∷ text)) ≡ onto (front ++ c ∷ []) (body_from false text)
meant front text b c p = rw p (onto_more front c (body_from false text))

next : (text : List ℕ) (i : ℕ) → i < length text → drop i text ≡ get_or text i 0 ∷ drop (i + 1) text
next text i h = rw add-one (drop-cons text i 0 h)

pub plain_more : (o : Option (List ℕ)) (front grown text : List ℕ) (i : ℕ) (before behind : Bool) → i < length text → o ≡ onto front (body_from before (drop i text))
    → before ≡ false → nat_eq (get_or text i 0) 94 ≡ false → is_break (get_or text i 0) ≡ false → grown ≡ front ++ get_or text i 0 ∷ [] → behind ≡ false → o ≡ onto grown (body_from behind (drop (i + 1) text))
plain_more o front grown text i before behind h e r p q g s =
    e ∙ (ap (λ b. onto front (body_from b (drop i text))) r ∙ (ap (λ l. onto front (body_from false l)) (next text i h) ∙ (plain front (drop (i + 1) text) (get_or text i 0) p q
    ∙ (ap (λ l. onto l (body_from false (drop (i + 1) text))) (sym g) ∙ ap (λ b. onto grown (body_from b (drop (i + 1) text))) (sym s)))))

pub begun_more : (o : Option (List ℕ)) (front grown text : List ℕ) (i : ℕ) (before behind : Bool) → i < length text → o ≡ onto front (body_from before (drop i text))
    → before ≡ false → nat_eq (get_or text i 0) 94 ≡ true → grown ≡ front → behind ≡ true → o ≡ onto grown (body_from behind (drop (i + 1) text))
begun_more o front grown text i before behind h e r p g s =
    e ∙ (ap (λ b. onto front (body_from b (drop i text))) r ∙ (ap (λ l. onto front (body_from false l)) (next text i h) ∙ (ap (onto front) (begun (drop (i + 1) text) (get_or text i 0) p)
    ∙ (ap (λ l. onto l (body_from true (drop (i + 1) text))) (sym g) ∙ ap (λ b. onto grown (body_from b (drop (i + 1) text))) (sym s)))))

pub meant_more : (o : Option (List ℕ)) (front grown text : List ℕ) (i c : ℕ) (before behind : Bool) → i < length text → o ≡ onto front (body_from before (drop i text))
    → before ≡ true → mark_of (get_or text i 0) ≡ Some c → grown ≡ front ++ c ∷ [] → behind ≡ false → o ≡ onto grown (body_from behind (drop (i + 1) text))
meant_more o front grown text i c before behind h e r p g s =
    e ∙ (ap (λ b. onto front (body_from b (drop i text))) r ∙ (ap (λ l. onto front (body_from true l)) (next text i h) ∙ (meant front (drop (i + 1) text) (get_or text i 0) c p
    ∙ (ap (λ l. onto l (body_from false (drop (i + 1) text))) (sym g) ∙ ap (λ b. onto grown (body_from b (drop (i + 1) text))) (sym s)))))

-- without special bytes a body and its text are the same
or_false : (a b : Bool) → (a || b) ≡ false → (a ≡ false) × (b ≡ false)
or_false false b e = (refl, e)
or_false true b e = absurd (not_true e)
  where
    not_true : true ≡ false → ⊥
    not_true e = cc

pub plain_text : (text : List ℕ) → list_any is_special text ≡ false → body_from false text ≡ Some text
plain_text [] e = refl
plain_text (b ∷ text) e =
    let here : (is_special b ≡ false) × (list_any is_special text ≡ false) = or_false (is_special b) (list_any is_special text) e in
    let both : (nat_eq b 94 ≡ false) × (is_break b ≡ false) = or_false (nat_eq b 94) (is_break b) here.0 in
    rw (both.0) (rw (both.1) (ap (option_map (λ r. b ∷ r)) (plain_text text here.1)))

pub plain_byte : (b : ℕ) → is_special b ≡ false → marked b ≡ b ∷ []
plain_byte b e =
    let both : (nat_eq b 94 ≡ false) × (is_break b ≡ false) = or_false (nat_eq b 94) (is_break b) e in
    let breaks : (nat_eq b 10 ≡ false) × (nat_eq b 13 ≡ false) = or_false (nat_eq b 10) (nat_eq b 13) both.1 in
    rw (both.0) (rw (breaks.0) (rw (breaks.1) refl))

pub plain_body : (body : List ℕ) → list_any is_special body ≡ false → text_of_body body ≡ body
plain_body [] e = refl
plain_body (b ∷ body) e =
    let here : (is_special b ≡ false) × (list_any is_special body ≡ false) = or_false (is_special b) (list_any is_special body) e in
    ap (λ l. l ++ text_of_body body) (plain_byte b here.0) ∙ ap (λ l. b ∷ l) (plain_body body here.1)
