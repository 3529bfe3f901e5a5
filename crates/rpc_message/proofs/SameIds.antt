-- The bytes of an identifier.
use Rattle.std.proofs.Common.{◌≡◌, ℕ, ◌+◌, Bool, true, false, ◌&&◌, ◌||◌, IsTrue, ◌↔◌, List, [], ◌∷◌, ◌++◌, length, refl, sym, ◌∙◌, ap, ap₂, subst, arith}
use Rattle.std.specs.Prelude.{Option, Some, bytes_eq, nat_eq, ◌==◌}
use Rattle.std.proofs.lemmas.Bool.Decides.{nat_tests}
use Rattle.json_text.specs.Json.{Json, word, number, string, array, object, value, quoted, spells, byte, ◌then◌}
use Rattle.json_text.specs.Number.{is_digit}
use Rattle.json_text.specs.String.{SpellsCharacters}
use Rattle.json_span.specs.json_nodes.proofs.Spelling.{decided}
use Rattle.rpc_message.specs.Message.{Id, integer, text, id_of, is_integer, integer_if, same_id}
use Rattle.rpc_message.specs.ValueTexts.{IsIdText}
use Rattle.rpc_message.specs.Ids.{is_quoted}

-- an integer's text, or a string between quotation marks
abbrev pub Shape : Id → List ℕ → Type 0
Shape (integer n) w = (w ≡ n) × (is_quoted w ≡ false)
Shape (text cs) w = (raw : List ℕ) × (w ≡ 34 ∷ (raw ++ (34 ∷ []))) × SpellsCharacters cs raw

digit_apart : (b : ℕ) (x : Bool) → ((is_digit b || (b == 45)) && x) ≡ true → nat_eq b 34 ≡ false
digit_apart b x h = grind (arith, nat_tests)

integer_apart : (ds : List ℕ) → is_integer ds ≡ true → is_quoted ds ≡ false
unfolding is_integer
integer_apart [] h = refl
integer_apart (b ∷ bs) h = digit_apart b (is_integer bs) h

integer_shape : (i : Id) (w ds : List ℕ) → w ≡ ds → (b : Bool) → is_integer ds ≡ b → integer_if b ds ≡ Some i → Shape i w
integer_shape (integer n) w ds e true h g = (let same : ds ≡ n = cc in e ∙ same, ap is_quoted e ∙ integer_apart ds h)
integer_shape (text cs) w ds e true h g = absurd (cc)
integer_shape i w ds e false h g = absurd (cc)

pub quoted_shape : (cs w : List ℕ) (at : ℕ) → quoted cs at w → (raw : List ℕ) × (w ≡ 34 ∷ (raw ++ (34 ∷ []))) × SpellsCharacters cs raw
quoted_shape cs w at h =
    let r : (spells cs then byte 34) (at + length h.0) h.1 = h.4 in
    (r.0, h.2 ∙ ap₂ (λ x y. x ++ y) h.3 (r.2 ∙ ap (λ x. r.0 ++ x) r.4), r.3)

string_shape : (i : Id) (cs w : List ℕ) → (raw : List ℕ) × (w ≡ 34 ∷ (raw ++ (34 ∷ []))) × SpellsCharacters cs raw → ◌≡◌ {A = Option Id} (Some (text cs)) (Some i) → Shape i w
string_shape (text ds) cs w h e = (h.0, h.1, let same : cs ≡ ds = cc in subst (λ z. SpellsCharacters z h.0) same h.2)
string_shape (integer n) cs w h e = absurd (cc)

shape_of : (i : Id) (w : List ℕ) (t : Json) → value t 0 w → id_of t ≡ Some i → Shape i w
shape_of i w (number s ds) h e = integer_shape i w ds h.0.0 (is_integer ds) refl e
shape_of i w (string s cs) h e = string_shape i cs w (quoted_shape cs w 0 h.0) e
shape_of i w (word s x) h e = absurd (cc)
shape_of i w (array s js) h e = absurd (cc)
shape_of i w (object s ms) h e = absurd (cc)

pub id_shape : (i : Id) (w : List ℕ) → IsIdText i w → Shape i w
id_shape i w h = shape_of i w h.tree h.stands h.is

quotes_differ : (v w : List ℕ) → is_quoted v ≡ true → is_quoted w ≡ false → bytes_eq v w ≡ false
quotes_differ [] w h k = absurd (cc)
quotes_differ (a ∷ v) [] h k = refl
quotes_differ (a ∷ v) (b ∷ w) h k = let e : nat_eq a b ≡ false = grind (arith, nat_tests) in ap (λ x. x && bytes_eq v w) e

quotes_differ_too : (v w : List ℕ) → is_quoted v ≡ false → is_quoted w ≡ true → bytes_eq v w ≡ false
quotes_differ_too v [] h k = absurd (cc)
quotes_differ_too [] (b ∷ w) h k = refl
quotes_differ_too (a ∷ v) (b ∷ w) h k = let e : nat_eq a b ≡ false = grind (arith, nat_tests) in ap (λ x. x && bytes_eq v w) e

-- two strings
pub texts_same : (i j : Id) (v w x y : List ℕ) (b : Bool) → Shape i v → Shape j w → is_quoted v ≡ true → is_quoted w ≡ true → ((raw : List ℕ) → v ≡ 34 ∷ (raw ++ (34 ∷ [])) → x ≡ raw) → ((raw : List ℕ) → w ≡ 34 ∷ (raw ++ (34 ∷ [])) → y ≡ raw)
    → ((cs ds : List ℕ) → SpellsCharacters cs x → SpellsCharacters ds y → IsTrue b ↔ (cs ≡ ds)) → b ≡ same_id i j
texts_same (text cs) (text ds) v w x y b h k p q f g same = decided b cs ds (same cs ds (subst (λ z. SpellsCharacters cs z) (sym (f h.0 h.1)) h.2) (subst (λ z. SpellsCharacters ds z) (sym (g k.0 k.1)) k.2))
texts_same (integer n) j v w x y b h k p q f g same = absurd (let i = h.1 in cc)
texts_same (text cs) (integer n) v w x y b h k p q f g same = absurd (let i = k.1 in cc)

pub shape_quoted : (cs w : List ℕ) → Shape (text cs) w → is_quoted w ≡ true
shape_quoted cs w h = ap is_quoted h.1

-- not both are strings
pub others_same : (i j : Id) (v w : List ℕ) (b : Bool) → Shape i v → Shape j w → (is_quoted v && is_quoted w) ≡ false → b ≡ bytes_eq v w → b ≡ same_id i j
others_same (integer m) (integer n) v w b h k p e = e ∙ ap₂ (λ x y. bytes_eq x y) h.0 k.0
others_same (integer m) (text ds) v w b h k p e = e ∙ quotes_differ_too v w h.1 (shape_quoted ds w k)
others_same (text cs) (integer n) v w b h k p e = e ∙ quotes_differ v w (shape_quoted cs v h) k.1
others_same (text cs) (text ds) v w b h k p e = absurd (let f = shape_quoted cs v h in let g = shape_quoted ds w k in let both : (is_quoted v && is_quoted w) ≡ true = ap₂ (λ x y. x && y) f g in cc)
