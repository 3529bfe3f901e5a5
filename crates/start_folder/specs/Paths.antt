-- The path that a URI of a file names on this machine (RFC 8089, section 2; RFC 3986, sections 2.1 and 3).
use Rattle.std.specs.Prelude.{ℕ, Bool, not, ◌&&◌, ◌||◌, List, [], ◌∷◌, codes, drop, length, take, nat_eq, if◌then◌else◌}
use Rattle.std.specs.Prelude.{Option, Some, None}
use Rattle.std.specs.List.{list_any}
use Rattle.std.specs.Option.{option_and_then}
use Rattle.std.specs.Str.{is_utf8, str_eq_ignore_ascii_case}
use Rattle.percent_encoding.specs.Percent.{percent_decode}

-- what follows a prefix, whose letters may be of either case
abbrev pub behind : List ℕ → List ℕ → Option (List ℕ)
behind prefix bytes = if str_eq_ignore_ascii_case (take (length prefix) bytes) prefix then Some (drop (length prefix) bytes) else None

-- what stands before a query and a fragment
abbrev pub ends_path : ℕ → Bool
ends_path b = nat_eq b 63 || nat_eq b 35

abbrev pub before_query : List ℕ → List ℕ
before_query [] = []
before_query (b ∷ bs) = if ends_path b then [] else b ∷ before_query bs

-- what follows no host, an empty one, or `localhost`
abbrev pub first_or : Option (List ℕ) → List ℕ → List ℕ
first_or (Some bytes) other = bytes
first_or None other = other

abbrev pub behind_host : List ℕ → List ℕ
behind_host rest = first_or (behind (codes "//localhost") rest) (first_or (behind (codes "//") rest) rest)

-- a path that begins at the root
abbrev pub absolute : List ℕ → Option (List ℕ)
absolute [] = None
absolute (b ∷ bs) = if nat_eq b 47 then Some (b ∷ bs) else None

abbrev pub encoded_path : List ℕ → Option (List ℕ)
encoded_path uri = option_and_then (λ rest. absolute (behind_host rest)) (behind (codes "file:") (before_query uri))

-- bytes that are UTF-8 without a NUL
abbrev pub text_of : List ℕ → Option (List ℕ)
text_of bytes = if not (list_any (λ b. nat_eq b 0) bytes) && is_utf8 bytes then Some bytes else None

abbrev pub path_of : List ℕ → Option (List ℕ)
path_of uri = option_and_then (λ path. text_of (percent_decode path)) (encoded_path uri)
