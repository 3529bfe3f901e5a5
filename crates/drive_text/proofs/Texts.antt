-- The text of a body is read back as that body, and a body has no other text. Bytes that a text lacks.
use Rattle.std.proofs.Common.{◌≡◌, ⊎_elim, ℕ, ◌<◌, Bool, true, false, cond, nat_eq, List, [], ◌∷◌, ◌++◌, refl, sym, ap, ◌∙◌, arith, option_map}
use Rattle.std.specs.Prelude.{Some, None, ◌||◌}
use Rattle.std.proofs.lemmas.Bool.{eqb-true, ne_eqb}
use Rattle.drive_text.specs.Marks.{marked, text_of_body, mark_of, is_break, body_from}
use Rattle.drive_text.proofs.Bodies.{plain_byte}
use Rattle.drive_text.proofs.Decimals.{IsDigits}
use Rattle.drive_text.proofs.Options.{then_some, map_some, test_some, none_some}

-- none of the bytes is this one
abbrev pub Lacks : ℕ → List ℕ → Type 0
Lacks x [] = Unit {0}
Lacks x (b ∷ text) = (nat_eq b x ≡ false) × Lacks x text

pub lacks_both : (x : ℕ) (front back : List ℕ) → Lacks x front → Lacks x back → Lacks x (front ++ back)
lacks_both x [] back f b = b
lacks_both x (c ∷ front) back f b = (f.0, lacks_both x front back f.1 b)

pub digits_lack : (x : ℕ) (text : List ℕ) → x < 48 → IsDigits text → Lacks x text
digits_lack x [] s d = tt
digits_lack x (b ∷ text) s d = (ne_eqb b x (λ e. omega (arith, e, s, d.0.0)), digits_lack x text s d.1)

-- a byte is marked, or stands for itself

body_byte : (b : ℕ) (rest body : List ℕ) → body_from false rest ≡ Some body → body_from false (marked b ++ rest) ≡ Some (b ∷ body)
body_byte b rest body h = choice (nat_eq b 94) (nat_eq b 10) (nat_eq b 13) refl refl refl
  where
    choice : (p q r : Bool) → nat_eq b 94 ≡ p → nat_eq b 10 ≡ q → nat_eq b 13 ≡ r → body_from false (cond p (94 ∷ 94 ∷ []) (cond q (94 ∷ 110 ∷ []) (cond r (94 ∷ 114 ∷ []) (b ∷ []))) ++ rest) ≡ Some (b ∷ body)
    choice true q r e f g = ap (option_map (λ body. 94 ∷ body)) h ∙ ap (λ c. Some (c ∷ body)) (sym (eqb-true b 94 e))
    choice false true r e f g = ap (option_map (λ body. 10 ∷ body)) h ∙ ap (λ c. Some (c ∷ body)) (sym (eqb-true b 10 f))
    choice false false true e f g = ap (option_map (λ body. 13 ∷ body)) h ∙ ap (λ c. Some (c ∷ body)) (sym (eqb-true b 13 g))
    choice false false false e f g = rw e (rw f (rw g (ap (option_map (λ body. b ∷ body)) h)))

pub body_read : (body : List ℕ) → body_from false (text_of_body body) ≡ Some body
body_read [] = refl
body_read (b ∷ body) = body_byte b (text_of_body body) body (body_read body)

-- what stands behind a `^`
mark_spelled : (b c : ℕ) → mark_of b ≡ Some c → 94 ∷ b ∷ [] ≡ marked c
mark_spelled b c h =
    ⊎_elim (λ t. ap (λ x. 94 ∷ x ∷ []) (eqb-true b 94 t.0) ∙ ap marked t.1)
    (λ h. ⊎_elim (λ t. ap (λ x. 94 ∷ x ∷ []) (eqb-true b 110 t.0) ∙ ap marked t.1)
    (λ h. ⊎_elim (λ t. ap (λ x. 94 ∷ x ∷ []) (eqb-true b 114 t.0) ∙ ap marked t.1) (λ h. absurd (none_some c h))
    (test_some (nat_eq b 114) 13 None c h)) (test_some (nat_eq b 110) 10 _ c h)) (test_some (nat_eq b 94) 94 _ c h)

abbrev begun : Bool → List ℕ → List ℕ
begun true text = 94 ∷ text
begun false text = text

or_of : (a b : Bool) → a ≡ false → b ≡ false → (a || b) ≡ false
or_of a b e f = rw e (rw f refl)

pub body_spelled : (text : List ℕ) (in_mark : Bool) (body : List ℕ) → body_from in_mark text ≡ Some body → begun in_mark text ≡ text_of_body body
body_spelled [] false body h = let e : [] ≡ body = cc in ap text_of_body e
body_spelled [] true body h = absurd (none_some body h)
body_spelled (x ∷ text) false body h = choice (nat_eq x 94) (is_break x) refl refl h (λ c e. body_spelled text true c e) (λ c e. body_spelled text false c e)
  where
    choice : (p q : Bool) → nat_eq x 94 ≡ p → is_break x ≡ q → cond p (body_from true text) (cond q None (option_map (λ c. x ∷ c) (body_from false text))) ≡ Some body
        → ((c : List ℕ) → body_from true text ≡ Some c → 94 ∷ text ≡ text_of_body c) → ((c : List ℕ) → body_from false text ≡ Some c → text ≡ text_of_body c) → x ∷ text ≡ text_of_body body
    choice true q d e h f g = ap (λ y. y ∷ text) (eqb-true x 94 d) ∙ f body h
    choice false true d e h f g = absurd (none_some body h)
    choice false false d e h f g =
        let m = map_some (λ c. x ∷ c) (body_from false text) body h in
        ap (λ t. x ∷ t) (g m.0 m.1) ∙ (ap (λ l. l ++ text_of_body m.0) (sym (plain_byte x (or_of (nat_eq x 94) (is_break x) d e))) ∙ ap text_of_body m.2)
body_spelled (x ∷ text) true body h =
    let t = then_some (λ c. option_map (λ body. c ∷ body) (body_from false text)) (mark_of x) body h in
    let m = map_some (λ body. t.0 ∷ body) (body_from false text) body t.2 in
    ap (λ l. l ++ text) (mark_spelled x t.0 t.1) ∙ (ap (λ l. marked t.0 ++ l) (body_spelled text false m.0 m.1) ∙ ap text_of_body m.2)

-- a text has no line feed, and is at most twice as long as its body

marked_lacks : (b : ℕ) → Lacks 10 (marked b)
marked_lacks b = choice (nat_eq b 94) (nat_eq b 10) (nat_eq b 13) refl
  where
    choice : (p q r : Bool) → nat_eq b 10 ≡ q → Lacks 10 (cond p (94 ∷ 94 ∷ []) (cond q (94 ∷ 110 ∷ []) (cond r (94 ∷ 114 ∷ []) (b ∷ []))))
    choice true q r e = (refl, (refl, tt))
    choice false true r e = (refl, (refl, tt))
    choice false false true e = (refl, (refl, tt))
    choice false false false e = (e, tt)

pub text_lacks : (body : List ℕ) → Lacks 10 (text_of_body body)
text_lacks [] = tt
text_lacks (b ∷ body) = lacks_both 10 (marked b) (text_of_body body) (marked_lacks b) (text_lacks body)
