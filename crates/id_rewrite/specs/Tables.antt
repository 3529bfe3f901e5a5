-- The open requests that were sent to one start of a server, by their numbers (JSON-RPC 2.0, section 4: an id is the client's own, and its response has it).
use Rattle.std.specs.Prelude.{ℕ, ◌+◌, ◌≤◌, Bool, true, not, ◌&&◌, List, [], ◌∷◌, map, filter, find, nat_eq, if◌then◌else◌}
use Rattle.std.specs.Prelude.{Option, None, option_map}
use Rattle.std.specs.List.{AllByRecursion, last_or, list_any}
use Rattle.response_route.specs.rpc_message.specs.Message.{Id, same_id}
use Rattle.response_route.specs.rpc_message.specs.ValueTexts.{IsIdText}
use Rattle.id_rewrite.specs.Forms.{same_form}
use Rattle.id_rewrite.specs.declared.pending.Pending.{Pending}
use Rattle.id_rewrite.specs.declared.pending.Numbered.{Numbered}

-- the open requests, their numbers rising; the number that comes next, and the one at which they end; for how many more requests there's room
pub record Table : Type 0 where
  pub requests : List Numbered
  pub next : ℕ
  pub limit : ℕ
  pub spare : ℕ

-- the numbers rise, from one number up to below another
abbrev pub RiseWithin : ℕ → ℕ → List Numbered → Type 0
RiseWithin from to [] = from ≤ to
RiseWithin from to (r ∷ rs) = (from ≤ r.number) × RiseWithin (r.number + 1) to rs

-- each open number was given once, from 2 up, and none at the limit
pub record IsInOrder (t : Table) : Type 0 where
  pub rising : RiseWithin 2 t.next t.requests
  pub within : t.next ≤ t.limit

abbrev pub has_number : ℕ → Numbered → Bool
has_number n r = nat_eq r.number n

abbrev pub is_of : ℕ → Numbered → Bool
is_of editor r = nat_eq r.pending.editor editor

-- what is kept of the open request of a number
abbrev pub pending_of : ℕ → List Numbered → Option Pending
pending_of n requests = option_map (λ r. r.pending) (find (has_number n) requests)

abbrev pub without : ℕ → List Numbered → List Numbered
without n requests = filter (λ r. not (has_number n r)) requests

abbrev pub cancelled : Numbered → Numbered
cancelled r = record { number = r.number; pending = record { editor = r.pending.editor; id = r.pending.id; work = r.pending.work; partial = r.pending.partial; cancelled = true; noted = r.pending.noted } }

-- the request of a number is marked as cancelled
abbrev pub with_cancelled : ℕ → List Numbered → List Numbered
with_cancelled n requests = map (λ r. if has_number n r then cancelled r else r) requests

-- each kept id is the text of an id, which `meaning` gives
abbrev pub AreIds : (List ℕ → Id) → List Numbered → Type 0
AreIds meaning requests = AllByRecursion (λ r. IsIdText (meaning r.pending.id) r.pending.id) requests

-- the number of the first request of an editor that has the same id
abbrev pub number_of : (List ℕ → Id) → ℕ → Id → List Numbered → Option ℕ
number_of meaning editor id requests = option_map (λ r. r.number) (find (λ r. is_of editor r && same_id id (meaning r.pending.id)) requests)

-- a request of an editor, whose id stands for what these bytes do
abbrev pub is_under : ℕ → List ℕ → Numbered → Bool
is_under editor id r = is_of editor r && same_form id r.pending.id

-- the number of the first of these
abbrev pub number_under : ℕ → List ℕ → List Numbered → Option ℕ
number_under editor id requests = option_map (λ r. r.number) (find (is_under editor id) requests)

abbrev pub numbers_of : ℕ → List Numbered → List ℕ
numbers_of editor requests = map (λ r. r.number) (filter (is_of editor) requests)

-- the editor of each
abbrev pub editors_of : List Numbered → List ℕ
editors_of requests = map (λ r. r.pending.editor) requests

abbrev pub is_among : List ℕ → Numbered → Bool
is_among editors r = list_any (λ e. nat_eq e r.pending.editor) editors

-- the editor of the last request of editors that are listed
abbrev pub last_editor : List ℕ → List Numbered → Option ℕ
last_editor editors requests = option_map (λ r. r.pending.editor) (last_or None (filter (is_among editors) requests))
