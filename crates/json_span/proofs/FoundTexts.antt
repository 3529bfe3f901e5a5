-- What the machine passes from its start is a text.
use Rattle.std.proofs.Common.{◌≡◌, ℕ, zero, suc, ◌+◌, ◌≤◌, ◌<◌, List, [], ◌∷◌, ◌++◌, length, refl, ap, ◌∙◌}
use Rattle.std.specs.Prelude.{Bool, true, false, nat_lt, if◌then◌else◌}
use Rattle.std.proofs.lemmas.Bool.{ltb-true}
use Rattle.std.proofs.lemmas.List.{append-nil}
use native.Mathlib.Omega.{arith}
use Rattle.json_text.specs.Json.{Json, IsText, depth}
use Rattle.json_span.specs.declared.class.Class.{Class}
use Rattle.json_span.specs.declared.class.Class.TheVariants as class
use Rattle.json_span.specs.Classes.{class_of}
use Rattle.json_span.proofs.Shape.{value, after, goes, too_deep, OnGoes, Accepts, first_in, begins, behind}
use Rattle.json_span.proofs.FoundTokens.{NoSpace, Stripped, strip, value_waits, after_waits, past_number}
use Rattle.json_span.proofs.Found.{FoundValue, FoundItems, FoundMembers, Finds, shorter, found_string, string_value, number_value, found_word}
use Rattle.json_span.proofs.FoundArrays as arrays
use Rattle.json_span.proofs.FoundObjects as objects

-- a bracket that the machine passes is one of at most d
record IsOpened (d : ℕ) (object : Bool) (bs : List ℕ) (ks : List Bool) : Type 0 where
  room : length ks < d
  next : Accepts d bs (first_in object) (object ∷ ks)

is_opened : (d : ℕ) (object : Bool) (bs : List ℕ) (ks : List Bool) (t : Bool) → nat_lt (length ks) d ≡ t
    → OnGoes (if t then goes (first_in object) (object ∷ ks) else too_deep) (λ q os. Accepts d bs q os) → IsOpened d object bs ks
is_opened d object bs ks true e h = record { room = ltb-true (length ks) d e; next = h }
is_opened d object bs ks false e h = absurd h

value_by_class : (n : ℕ) → Finds n → (d at b : ℕ) (bs : List ℕ) (ks : List Bool) → length bs ≤ n → length ks ≤ d → (class_of b ≡ class.Space → ⊥) → (k : Class) → class_of b ≡ k
    → OnGoes (begins d k ks) (λ q os. Accepts d bs q os) → FoundValue d at (b ∷ bs) ks
value_by_class n f d at b bs ks few room bare class.Space e h = absurd (bare e)
value_by_class n f d at b bs ks few room bare class.Quote e h = string_value d at (b ∷ bs) ks room (found_string d at b bs after ks e h)
value_by_class n f d at b bs ks few room bare class.OpenArray e h =
    let o = is_opened d false bs ks (nat_lt (length ks) d) refl h in
    arrays.array_value d at b bs ks e (arrays.a_body n f d (at + 1) bs ks few o.room o.next)
value_by_class n f d at b bs ks few room bare class.OpenObject e h =
    let o = is_opened d true bs ks (nat_lt (length ks) d) refl h in
    objects.object_value d at b bs ks e (objects.a_body n f d (at + 1) bs ks few o.room o.next)
value_by_class n f d at b bs ks few room bare (class.Begins w) e h = found_word d at b bs w ks room e h
value_by_class n f d at b bs ks few room bare (class.Number p) e h = number_value d at b bs p ks room e (past_number d bs p ks h)
value_by_class n f d at b bs ks few room bare k e h = absurd h

found_value : (n : ℕ) → Finds n → (d at : ℕ) (bs : List ℕ) (ks : List Bool) → length bs ≤ suc n → NoSpace bs → length ks ≤ d → Accepts d bs value ks → FoundValue d at bs ks
found_value n f d at [] ks few bare room h = absurd h
found_value n f d at (b ∷ bs) ks few bare room h = value_by_class n f d at b bs ks (omega arith) room bare (class_of b) refl h

nothing_found : Finds 0
nothing_found = record { a_value = no_value; more = no_items_left; more_pairs = no_members_left }
  where
    no_value : (d at : ℕ) (bs : List ℕ) (ks : List Bool) → length bs ≤ 0 → NoSpace bs → length ks ≤ d → Accepts d bs value ks → FoundValue d at bs ks
    no_value d at [] ks few bare room h = absurd h
    no_value d at (b ∷ bs) ks few bare room h = absurd (omega arith)

    no_items_left : (d at : ℕ) (bs : List ℕ) (ks : List Bool) → length bs ≤ 0 → length ks < d → Accepts d bs after (false ∷ ks) → FoundItems d at bs ks
    no_items_left d at [] ks few room h = absurd h
    no_items_left d at (b ∷ bs) ks few room h = absurd (omega arith)

    no_members_left : (d at : ℕ) (bs : List ℕ) (ks : List Bool) → length bs ≤ 0 → length ks < d → Accepts d bs after (true ∷ ks) → FoundMembers d at bs ks
    no_members_left d at [] ks few room h = absurd h
    no_members_left d at (b ∷ bs) ks few room h = absurd (omega arith)

all_finds : (n : ℕ) → Finds n
all_finds zero = nothing_found
all_finds (suc n) = let f = all_finds n in record { a_value = found_value n f; more = arrays.found_more n f; more_pairs = objects.found_more_pairs n f }

-- behind the whole value only whitespace may stand
nothing_behind : (d b : ℕ) (bs : List ℕ) → (class_of b ≡ class.Space → ⊥) → (k : Class) → class_of b ≡ k → OnGoes (behind k []) (λ q os. Accepts d bs q os) → ⊥
nothing_behind d b bs bare class.Space e h = bare e
nothing_behind d b bs bare class.Comma e h = h
nothing_behind d b bs bare k e h = h

bare_end : (d : ℕ) (bs : List ℕ) → NoSpace bs → Accepts d bs after [] → bs ≡ []
bare_end d [] bare h = refl
bare_end d (b ∷ bs) bare h = absurd (nothing_behind d b bs bare (class_of b) refl h)

-- whitespace to the end
text_of : (d : ℕ) (bs : List ℕ) (s : Stripped d bs value []) (v : FoundValue d (0 + length s.gap) s.rest []) → Stripped d v.rest after [] → (j : Json) × IsText bs j × (depth j ≤ d)
text_of d bs s v e = (v.tree, (s.gap, v.text ++ e.gap, s.whole ∙ ap (λ xs. s.gap ++ xs) (v.whole ∙ ap (λ xs. v.text ++ xs) to_end), s.blank, (v.text, e.gap, refl, v.is, e.blank)), omega arith)
  where
    to_end : v.rest ≡ e.gap
    to_end = e.whole ∙ ap (λ xs. e.gap ++ xs) (bare_end d e.rest e.bare e.next) ∙ append-nil e.gap

pub accepted : (d : ℕ) (bs : List ℕ) → Accepts d bs value [] → (j : Json) × IsText bs j × (depth j ≤ d)
accepted d bs h =
    let s = strip d bs value [] value_waits h in
    let v = (all_finds (length bs)).a_value d (0 + length s.gap) s.rest [] (shorter bs s.gap s.rest (length bs) s.whole (omega arith)) s.bare (omega arith) s.next in
    text_of d bs s v (strip d v.rest after [] after_waits v.next)
