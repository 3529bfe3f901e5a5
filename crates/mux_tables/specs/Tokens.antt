-- Which open request a token for progress is of: one of the daemon's, as a start tells of it, and one of an editor's own (LSP 3.17, Work Done Progress and Partial Result Progress).
use Rattle.std.specs.Prelude.{◌≡◌, ℕ, ◌<◌, ◌^◌, ◌%◌, Bool, true, false, List, find, nat_eq, if◌then◌else◌}
use Rattle.std.specs.Prelude.{Option, Some, None}
use Rattle.json_text.specs.Json.{Json}
use Rattle.event_model.specs.Event.{Event}
use Rattle.event_model.specs.Phases.{desk_of}
use Rattle.id_rewrite.specs.Forms.{same_form}
use Rattle.id_rewrite.specs.declared.pending.Pending.{Pending}
use Rattle.group_laws.specs.group_rows.specs.Forwarded.{Forwarded}
use Rattle.group_laws.specs.group_rows.specs.Tokens.{is_mark, is_told, listens, own_token}

-- the number of the daemon's token that this is, where it is one
abbrev pub MarksAt : Option Json → Option ℕ → Type 0
MarksAt token None = (k : ℕ) → k < 2 ^ 64 → is_mark token k ≡ false
MarksAt token (Some n) = (k : ℕ) → k < 2 ^ 64 → is_mark token k ≡ nat_eq k n

-- a start's token is of this editor's open request, has this token of the editor in its place, and the editor runs or is down
pub record IsTold (before : List Event) (token : Option Json) (open_requests : List Forwarded) (e : ℕ) (text : List ℕ) : Type 0 where
  pub request : Forwarded
  pub found : find (is_told before token) open_requests ≡ Some request
  pub asker : request.editor ≡ e
  pub own : own_token token request ≡ Some text
  pub there : listens (desk_of e before).phase ≡ true

-- a token of a request stands for what these bytes do
abbrev pub is_work : List ℕ → Option (List ℕ) → Bool
is_work token None = false
is_work token (Some bytes) = same_form token bytes

abbrev pub works : List ℕ → Option Pending → Bool
works token None = false
works token (Some p) = is_work token p.work

-- the editor's own token that the daemon's token of number k stands for, of a request whose token that is
abbrev pub own_of : ℕ → Pending → Option (List ℕ)
own_of k p = if nat_eq (k % 2) 0 then p.work else p.partial
