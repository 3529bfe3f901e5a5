-- Bodies in a line: `^` is written `^^`, a line feed `^n`, a carriage return `^r`.
use Rattle.std.specs.Prelude.{ℕ, Bool, true, false, ◌||◌, List, [], ◌∷◌, nat_eq, flat_map, option_map, if◌then◌else◌}
use Rattle.std.specs.Prelude.{Option, Some, None}
use Rattle.drive_text.specs.Options.{then_option}

abbrev pub marked : ℕ → List ℕ
marked b = if nat_eq b 94 then 94 ∷ 94 ∷ [] else (if nat_eq b 10 then 94 ∷ 110 ∷ [] else (if nat_eq b 13 then 94 ∷ 114 ∷ [] else b ∷ []))

-- the text of a body
abbrev pub text_of_body : List ℕ → List ℕ
text_of_body body = flat_map marked body

-- what a byte behind a `^` stands for
abbrev pub mark_of : ℕ → Option ℕ
mark_of b = if nat_eq b 94 then Some 94 else (if nat_eq b 110 then Some 10 else (if nat_eq b 114 then Some 13 else None))

-- a line feed or a carriage return, which doesn't stand for itself
abbrev pub is_break : ℕ → Bool
is_break b = nat_eq b 10 || nat_eq b 13

-- a byte that a text marks
abbrev pub is_special : ℕ → Bool
is_special b = nat_eq b 94 || is_break b

-- the body of a text, where the byte before it was a `^` that begins a mark, or wasn't
abbrev pub body_from : Bool → List ℕ → Option (List ℕ)
body_from false [] = Some []
body_from true [] = None
body_from false (b ∷ text) = if nat_eq b 94 then body_from true text else (if is_break b then None else option_map (λ body. b ∷ body) (body_from false text))
body_from true (b ∷ text) = then_option (mark_of b) (λ c. option_map (λ body. c ∷ body) (body_from false text))

abbrev pub body_of_text : List ℕ → Option (List ℕ)
body_of_text text = body_from false text
