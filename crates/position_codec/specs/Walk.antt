-- The walks of the code over the characters of a text.
use Rattle.std.specs.Prelude.{ℕ, suc, zero, ◌+◌, ◌-◌, Bool, false, ◌&&◌, ◌||◌, not, List, [], ◌∷◌, Option, Some, None, if◌then◌else◌, ◌==◌, nat_lt}
use Rattle.std.specs.Char.{len_utf8}
use Rattle.position_codec.specs.declared.Encoding.{Encoding}
use Rattle.position_codec.specs.declared.Place.{Place}
use Rattle.position_codec.specs.Position.{units}

abbrev pub ends_line : ℕ → Bool
ends_line c = (c == 10) || (c == 13)

abbrev pub at : ℕ → ℕ → Bool → Place
at k n r = record { line = k; left = n; returned = r }

-- the place sought, seen from behind the character, where it is not before it
abbrev pub past_within : Encoding → ℕ → ℕ → ℕ → Option Place
past_within e n c zero = if ends_line c || nat_lt n (units e c) then None else Some (at 0 (n - units e c) false)
past_within e n c (suc k) = Some (at (if ends_line c then k else suc k) n (c == 13))

abbrev pub past : Encoding → Place → ℕ → Option Place
past e p c =
    if p.returned && (c == 10) then Some (at p.line p.left false) else past_within e p.left c p.line

abbrev pub going_on : ℕ → (Place → ℕ) → Option Place → ℕ
going_on n f None = 0
going_on n f (Some p) = n + f p

-- how many bytes are passed on the way to the place
abbrev pub walk : Encoding → Place → List ℕ → ℕ
walk e p [] = 0
walk e p (c ∷ cs) = going_on (len_utf8 c) (λ q. walk e q cs) (past e p c)

-- does a line start between these two characters
abbrev pub starts_between : ℕ → ℕ → Bool
starts_between p c = (p == 10) || ((p == 13) && not (c == 10))

-- the starts of lines from here on, behind the character p
abbrev pub found : ℕ → ℕ → List ℕ → List ℕ
found p here [] = if ends_line p then here ∷ [] else []
found p here (c ∷ cs) =
    if starts_between p c then here ∷ found c (here + len_utf8 c) cs else found c (here + len_utf8 c) cs
