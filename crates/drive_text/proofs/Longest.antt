-- How long a line in a form is.
use Rattle.std.proofs.Common.{◌≡◌, ◌⊎◌, inl, inr, ⊎_elim, ℕ, suc, zero, ◌+◌, ◌-◌, ◌*◌, ◌^◌, ◌<◌, ◌≤◌, ◌&&◌, Bool, true, false, cond, nat_eq, nat_lt, nat_le, List, [], ◌∷◌, length, take, drop, codes, refl, sym, ap, ◌∙◌, arith, subst, option_map, position, length-drop, length-take-le}
use Rattle.std.specs.Prelude.{Option, Some, None, bytes_eq}
use Rattle.std.proofs.lemmas.Bool.Decides.{nat_tests}
use Rattle.std.proofs.lemmas.List.Quantifiers.{position-Some}
use Rattle.std.proofs.lemmas.Slice.Eq.{bytes_eq-Decides}
use Rattle.mux_history.specs.Cores.{body_length}
use Rattle.mux_history.specs.declared.cause.Cause.{Cause}
use Rattle.mux_history.specs.declared.cause.Cause.TheVariants.{Joined, FromEditor, EditorGone, Started, StartFailed, FromServer, ServerGone, Drained, Tick}
use Rattle.mux_history.specs.declared.cause.Why.{Why}
use Rattle.drive_text.specs.declared.word.Word.{Word}
use Rattle.drive_text.specs.declared.word.Word.TheVariants as word
use Rattle.drive_text.specs.Causes.{Cut, cut_at, cut_of, word_of, why_of, Numbered, numbered, with_number, cause_by, cause_of}
use Rattle.drive_text.specs.Marks.{body_from, body_of_text, is_break, mark_of}
use Rattle.drive_text.specs.Numbers.{with_digit, digits_from, number_of}
use Rattle.drive_text.specs.Options.{then_option}

-- where two values came from

then_some : {A B : Type 0} (f : A → Option B) (o : Option A) (b : B) → then_option o f ≡ Some b → (a : A) × (o ≡ Some a) × (f a ≡ Some b)
then_some f None b h = absurd (cc)
then_some f (Some a) b h = (a, refl, h)

map_some : {A B : Type 0} (f : A → B) (o : Option A) (b : B) → option_map f o ≡ Some b → (a : A) × (o ≡ Some a) × (f a ≡ b)
map_some f None b h = absurd (cc)
map_some f (Some a) b h = (a, refl, cc)

test_some : {B : Type 0} (t : Bool) (x : B) (rest : Option B) (b : B) → cond t (Some x) rest ≡ Some b → ((t ≡ true) × (x ≡ b)) ⊎ (rest ≡ Some b)
test_some true x rest b h = inl (refl, cc)
test_some false x rest b h = inr h

none_some : {B : Type 0} (b : B) → None ≡ Some b → ⊥
none_some b h = cc

-- numbers

ten_to : ℕ → ℕ
ten_to zero = 1
ten_to (suc j) = ten_to j * 10

digit_some : (n b k : ℕ) → with_digit n b ≡ Some k → (48 ≤ b) × (k ≡ n * 10 + (b - 48)) × (k < 2 ^ 64)
digit_some n b k h =
    ⊎_elim (λ t. (grind (arith, nat_tests, t.0), sym t.1, grind (arith, nat_tests, t.0, t.1))) (λ e. absurd (none_some k e)) (test_some (nat_le 48 b && nat_le b 57 && nat_lt (n * 10 + (b - 48)) (2 ^ 64)) (n * 10 + (b - 48)) None k h)

ten_big : (j : ℕ) → 20 ≤ j → 10 ^ 20 ≤ ten_to j
unfolding ten_to
ten_big zero h = absurd (omega arith)
ten_big (suc j) h = choice (nat_le 20 j) refl (λ g. ten_big j g)
  where
    at_twenty : 10 ^ 20 ≤ ten_to 20
    at_twenty = omega arith

    choice : (b : Bool) → nat_le 20 j ≡ b → (20 ≤ j → 10 ^ 20 ≤ ten_to j) → 10 ^ 20 ≤ ten_to j * 10
    choice true e more = let g = more (grind (arith, nat_tests, e)) in omega (arith, g)
    choice false e more = let g : j ≡ 19 = grind (arith, nat_tests, e, h) in subst (λ (i : ℕ). 10 ^ 20 ≤ ten_to i * 10) (sym g) at_twenty

digits_length : (text : List ℕ) (j n m : ℕ) → ten_to j ≤ n → n < 2 ^ 64 → digits_from n text ≡ Some m → j + length text ≤ 19
unfolding ten_to
digits_length [] j n m g s h = choice (nat_le 20 j) refl
  where
    choice : (b : Bool) → nat_le 20 j ≡ b → j + 0 ≤ 19
    choice true e = let big = ten_big j (grind (arith, nat_tests, e)) in absurd (omega (arith, big, g, s))
    choice false e = grind (arith, nat_tests, e)
digits_length (b ∷ text) j n m g s h =
    let t = then_some (λ k. digits_from k text) (with_digit n b) m h in
    let d = digit_some n b t.0 t.1 in
    let next : ten_to (suc j) ≤ t.0 = omega (arith, g, d.1) in
    let more = digits_length text (suc j) t.0 m next d.2 t.2 in
    omega (arith, more)

number_length : (text : List ℕ) (m : ℕ) → number_of text ≡ Some m → length text ≤ 20
unfolding ten_to
number_length [] m h = absurd (none_some m h)
number_length (b ∷ []) m h = omega arith
number_length (b ∷ c ∷ text) m h = choice (nat_eq b 48) refl h
  where
    choice : (z : Bool) → nat_eq b 48 ≡ z → cond z None (digits_from 0 (b ∷ c ∷ text)) ≡ Some m → length (b ∷ c ∷ text) ≤ 20
    choice true e h = absurd (none_some m h)
    choice false e h =
        let t = then_some (λ k. digits_from k (c ∷ text)) (with_digit 0 b) m h in
        let d = digit_some 0 b t.0 t.1 in
        let one : 1 ≤ t.0 = grind (arith, nat_tests, e, d.0, d.1) in
        let more = digits_length (c ∷ text) 0 t.0 m one d.2 t.2 in
        omega (arith, more)

-- a cut at a space

cut_length : (text : List ℕ) (o : Option ℕ) (cut : Cut) → position (λ b. nat_eq b 32) text ≡ o → cut_at text o ≡ Some cut → length text ≡ length cut.front + (1 + length cut.back)
cut_length text None cut p h = absurd (none_some cut h)
cut_length text (Some i) cut p h =
    let at = position-Some (λ b. nat_eq b 32) text i 0 p in
    let is : ◌≡◌ {A = Cut} (record { front = take i text; back = drop (i + 1) text }) cut = cc in
    let front : length cut.front ≡ i = ap (λ (c : Cut). length c.front) (sym is) ∙ length-take-le i text (omega (arith, at.0)) in
    let back : length cut.back ≡ length text - (i + 1) = ap (λ (c : Cut). length c.back) (sym is) ∙ length-drop (i + 1) text in
    omega (arith, at.0, front, back)

numbered_length : (text : List ℕ) (x : Numbered) → numbered text ≡ Some x → length text ≤ 21 + length x.back
numbered_length text x h =
    let t = then_some (λ cut. option_map (λ n. record { number = n; back = cut.back }) (number_of cut.front)) (cut_of text) x h in
    let c = cut_length text (position (λ b. nat_eq b 32) text) t.0 refl t.1 in
    let n = map_some {B = Numbered} (λ n. record { number = n; back = t.0.back }) (number_of t.0.front) x t.2 in
    let l = number_length t.0.front n.0 n.1 in
    let b : length t.0.back ≡ length x.back = ap (λ (y : Numbered). length y.back) n.2 in
    omega (arith, c, l, b)

-- bodies and reasons

abbrev in_mark : Bool → ℕ
in_mark true = 1
in_mark false = 0

body_text_length : (text : List ℕ) (b : Bool) (body : List ℕ) → body_from b text ≡ Some body → length text + in_mark b ≤ 2 * length body
body_text_length [] false body h = omega arith
body_text_length [] true body h = absurd (none_some body h)
body_text_length (x ∷ text) false body h = choice (nat_eq x 94) (is_break x) h (λ c e. body_text_length text true c e) (λ c e. body_text_length text false c e)
  where
    choice : (p q : Bool) → cond p (body_from true text) (cond q None (option_map (λ c. x ∷ c) (body_from false text))) ≡ Some body → ((c : List ℕ) → body_from true text ≡ Some c → length text + 1 ≤ 2 * length c) → ((c : List ℕ) → body_from false text ≡ Some c → length text + 0 ≤ 2 * length c)
        → length (x ∷ text) + 0 ≤ 2 * length body
    choice true q h f g = let l = f body h in omega (arith, l)
    choice false true h f g = absurd (none_some body h)
    choice false false h f g =
        let m = map_some (λ c. x ∷ c) (body_from false text) body h in
        let l = g m.0 m.1 in
        let e : suc (length m.0) ≡ length body = ap length m.2 in
        omega (arith, l, e)
body_text_length (x ∷ text) true body h =
    let t = then_some (λ c. option_map (λ body. c ∷ body) (body_from false text)) (mark_of x) body h in
    let m = map_some (λ body. t.0 ∷ body) (body_from false text) body t.2 in
    let l = body_text_length text false m.0 m.1 in
    let e : suc (length m.0) ≡ length body = ap length m.2 in
    omega (arith, l, e)

is_text : (text other : List ℕ) → bytes_eq text other ≡ true → length text ≡ length other
is_text text other h = ap length ((bytes_eq-Decides text other).0 h)

why_length : (text : List ℕ) (why : Why) → why_of text ≡ Some why → length text ≤ 5
why_length text why h =
    ⊎_elim (λ t. let l = is_text text (codes "end") t.0 in omega (arith, l))
    (λ h. ⊎_elim (λ t. let l = is_text text (codes "read") t.0 in omega (arith, l))
    (λ h. ⊎_elim (λ t. let l = is_text text (codes "write") t.0 in omega (arith, l))
    (λ h. ⊎_elim (λ t. let l = is_text text (codes "frame") t.0 in omega (arith, l)) (λ h. absurd (none_some why h)) (test_some (bytes_eq text (codes "frame")) _ None why h))
    (test_some (bytes_eq text (codes "write")) _ _ why h)) (test_some (bytes_eq text (codes "read")) _ _ why h)) (test_some (bytes_eq text (codes "end")) _ _ why h)

abbrev size : Word → ℕ
size word.Join = 4
size word.Ed = 2
size word.Gone = 4
size word.Up = 2
size word.NoStart = 7
size word.Sv = 2
size word.Exit = 4
size word.Drained = 7
size word.Tick = 4

sized : (text other : List ℕ) (x w : Word) → length other ≡ size x → (bytes_eq text other ≡ true) × (x ≡ w) → length text ≡ size w
sized text other x w l t = is_text text other t.0 ∙ (l ∙ ap size t.1)

word_length : (text : List ℕ) (w : Word) → word_of text ≡ Some w → length text ≡ size w
word_length text w h =
    ⊎_elim (sized text (codes "join") word.Join w refl)
    (λ h. ⊎_elim (sized text (codes "ed") word.Ed w refl)
    (λ h. ⊎_elim (sized text (codes "gone") word.Gone w refl)
    (λ h. ⊎_elim (sized text (codes "up") word.Up w refl)
    (λ h. ⊎_elim (sized text (codes "nostart") word.NoStart w refl)
    (λ h. ⊎_elim (sized text (codes "sv") word.Sv w refl)
    (λ h. ⊎_elim (sized text (codes "exit") word.Exit w refl)
    (λ h. ⊎_elim (sized text (codes "drained") word.Drained w refl)
    (λ h. ⊎_elim (sized text (codes "tick") word.Tick w refl) (λ h. absurd (none_some w h))
    (test_some (bytes_eq text (codes "tick")) word.Tick None w h))
    (test_some (bytes_eq text (codes "drained")) word.Drained _ w h)) (test_some (bytes_eq text (codes "exit")) word.Exit _ w h)) (test_some (bytes_eq text (codes "sv")) word.Sv _ w h))
    (test_some (bytes_eq text (codes "nostart")) word.NoStart _ w h)) (test_some (bytes_eq text (codes "up")) word.Up _ w h)) (test_some (bytes_eq text (codes "gone")) word.Gone _ w h))
    (test_some (bytes_eq text (codes "ed")) word.Ed _ w h)) (test_some (bytes_eq text (codes "join")) word.Join _ w h)

-- what stands behind a word

plain_length : (text : List ℕ) (f : ℕ → Cause) (c : Cause) → option_map f (number_of text) ≡ Some c → length text ≤ 20
plain_length text f c h = let m = map_some f (number_of text) c h in number_length text m.0 m.1

body_length_of : (text : List ℕ) (f : ℕ → List ℕ → Cause) (c : Cause) → ((n : ℕ) (body : List ℕ) → body_length (f n body) ≡ length body) → with_number body_of_text f text ≡ Some c → length text ≤ 21 + 2 * body_length c
body_length_of text f c k h =
    let t = then_some (λ cut. option_map (f cut.number) (body_of_text cut.back)) (numbered text) c h in
    let l = numbered_length text t.0 t.1 in
    let m = map_some (f t.0.number) (body_of_text t.0.back) c t.2 in
    let b = body_text_length t.0.back false m.0 m.1 in
    let e : body_length c ≡ length m.0 = sym (ap body_length m.2) ∙ k t.0.number m.0 in
    omega (arith, l, b, e)

back_length : (w : Word) (text : List ℕ) (c : Cause) (content : ℕ) → 13 ≤ content → cause_by w text ≡ Some c → body_length c ≤ content → size w + (1 + length text) ≤ 24 + 2 * content
back_length word.Join text c content k h s = let l = plain_length text Joined c h in omega (arith, l, k)
back_length word.Ed text c content k h s = let l = body_length_of text FromEditor c (λ n b. refl) h in omega (arith, l, k, s)
back_length word.Gone text c content k h s =
    let t = then_some (λ cut. option_map (EditorGone cut.number) (why_of cut.back)) (numbered text) c h in
    let l = numbered_length text t.0 t.1 in
    let m = map_some (EditorGone t.0.number) (why_of t.0.back) c t.2 in
    let b = why_length t.0.back m.0 m.1 in
    omega (arith, l, b, k)
back_length word.Up text c content k h s = let l = plain_length text Started c h in omega (arith, l, k)
back_length word.NoStart text c content k h s = let l = plain_length text StartFailed c h in omega (arith, l, k)
back_length word.Sv text c content k h s = let l = body_length_of text FromServer c (λ n b. refl) h in omega (arith, l, k, s)
back_length word.Exit text c content k h s = let l = plain_length text ServerGone c h in omega (arith, l, k)
back_length word.Drained text c content k h s =
    let t = then_some (λ cut. option_map (Drained cut.number) (number_of cut.back)) (numbered text) c h in
    let l = numbered_length text t.0 t.1 in
    let m = map_some (Drained t.0.number) (number_of t.0.back) c t.2 in
    let b = number_length t.0.back m.0 m.1 in
    omega (arith, l, b, k)
back_length word.Tick text c content k h s = let l = plain_length text Tick c h in omega (arith, l, k)

-- the longest line in a form has two letters, a number of 20 digits, two spaces, and two bytes for each of a body
pub cause_length : (bytes : List ℕ) (c : Cause) (content : ℕ) → 13 ≤ content → cause_of bytes ≡ Some c → body_length c ≤ content → length bytes ≤ 24 + 2 * content
cause_length bytes c content k h s =
    let t = then_some (λ cut. then_option (word_of cut.front) (λ w. cause_by w cut.back)) (cut_of bytes) c h in
    let l = cut_length bytes (position (λ b. nat_eq b 32) bytes) t.0 refl t.1 in
    let w = then_some (λ w. cause_by w t.0.back) (word_of t.0.front) c t.2 in
    let f = word_length t.0.front w.0 w.1 in
    let b = back_length w.0 t.0.back c content k w.2 s in
    omega (arith, l, f, b)
