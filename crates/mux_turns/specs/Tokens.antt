-- Tokens for progress, as they are read and written.
use Rattle.std.specs.Prelude.{◌≡◌, ℕ, ◌<◌, ◌^◌, Bool, false, ◌&&◌, List, codes, bytes_eq, nat_eq, if◌then◌else◌}
use Rattle.std.specs.Prelude.{Option, Some, None}
use Rattle.group_facts.specs.group_rows.specs.Tokens.{mark, mark_text, partial_mark, work_mark}

-- these are the characters of the daemon's token of this number, or of none
abbrev pub WritesMark : List ℕ → Option ℕ → Type 0
WritesMark cs None = (k : ℕ) → k < 2 ^ 64 → bytes_eq cs (mark k) ≡ false
WritesMark cs (Some n) = (k : ℕ) → k < 2 ^ 64 → bytes_eq cs (mark k) ≡ nat_eq k n

-- what comes in the place of the values of a name, of a request that has a token for its work, and one for partial results
abbrev pub tokens_for : Bool → Bool → ℕ → List ℕ → Option (List ℕ)
tokens_for work partial n name =
    if bytes_eq (codes "workDoneToken") name && work then Some (mark_text (work_mark n))
    else if bytes_eq (codes "partialResultToken") name && partial then Some (mark_text (partial_mark n)) else None

-- the same of one name, and of two, by the bytes that come
abbrev pub one_token : List ℕ → ℕ → List ℕ → Option (List ℕ)
one_token own k name = if bytes_eq own name then Some (mark_text k) else None

abbrev pub two_tokens : List ℕ → List ℕ → List ℕ → Option (List ℕ)
two_tokens work partial name = if bytes_eq (codes "workDoneToken") name then Some work else if bytes_eq (codes "partialResultToken") name then Some partial else None
