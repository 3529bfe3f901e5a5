-- The progress tokens that one start of a server created (LSP 3.17, Work Done Progress): those that live, and of each editor what it hasn't answered and what it accepted.
use Rattle.std.specs.Prelude.{ℕ, ◌+◌, Bool, true, false, ◌&&◌, ◌||◌, List, [], ◌∷◌, ◌++◌, filter, length, map, is_some, nat_lt, if◌then◌else◌}
use Rattle.std.specs.Prelude.{Option, Some, None}
use Rattle.std.specs.Map.{keys_of, lookup, remove_entry, set_value}
use Rattle.std.specs.Ordering.{nat_cmp}
use Rattle.std.specs.BTreeMap.{insert_entry, is_at}
use Rattle.std.specs.List.{AllByRecursion}
use Rattle.rpc_message.specs.Message.{Id, same_id}
use Rattle.rpc_message.specs.ValueTexts.{IsIdText}
use Rattle.id_rewrite.specs.Forms.{same_form}
use Rattle.progress_route.specs.Names.{Text, first_with}
use Rattle.progress_route.specs.declared.kind.Kind.{Kind}
use Rattle.progress_route.specs.declared.kind.Kind.TheVariants.{Begin, End, Other}

-- what stands at a number, and a row without its entry
abbrev pub at : {X : Type 0} → ℕ → List (ℕ × X) → Option X
at n rows = lookup (is_at (nat_cmp n)) rows

abbrev pub less : {X : Type 0} → ℕ → List (ℕ × X) → List (ℕ × X)
less n rows = remove_entry (is_at (nat_cmp n)) rows

-- an entry comes, or takes the place of the one with its number
abbrev pub put : {X : Type 0} → ℕ → X → List (ℕ × X) → List (ℕ × X)
put n x rows = insert_entry nat_cmp rows n x

-- what is held for an editor until it answers a create: bodies in order, and whether a `begin` is among them
pub record Held : Type 0 where
  pub bodies : List (List ℕ)
  pub begun : Bool

-- an editor: the token of each create that it hasn't answered, by the create's number there; what is held for it, by the token's number; and the tokens that it accepted, with whether a `begin` was sent there
pub record Part : Type 0 where
  pub creates : List (ℕ × ℕ)
  pub waits : List (ℕ × Held)
  pub accepted : List (ℕ × Bool)

-- the live tokens, by their numbers; the number of the next one; the first `begin` of each that has begun; and the editors
pub record Table : Type 0 where
  pub names : List (ℕ × Text)
  pub next : ℕ
  pub begins : List (ℕ × List ℕ)
  pub parts : List (ℕ × Part)

abbrev pub nothing : Table
nothing = record { names = []; next = 1; begins = []; parts = [] }

abbrev pub no_part : Part
no_part = record { creates = []; waits = []; accepted = [] }

-- the number of the first live token that has these bytes
abbrev pub number_in : Text → List (ℕ × Text) → Option ℕ
number_in token names = first_with (same_form token) names

-- each live token is the text of an id, which `meaning` gives
abbrev pub AreIds : (Text → Id) → List (ℕ × Text) → Type 0
AreIds meaning names = AllByRecursion (λ r. IsIdText (meaning r.1) r.1) names

-- the number of the first live token that is the same
abbrev pub number_as : (Text → Id) → Id → List (ℕ × Text) → Option ℕ
number_as meaning token names = first_with (λ text. same_id token (meaning text)) names

abbrev pub is_begin : Kind → Bool
is_begin Begin = true
is_begin End = false
is_begin Other = false

abbrev pub is_end : Kind → Bool
is_end Begin = false
is_end End = true
is_end Other = false

-- what is held at first: the token's first `begin`, where there is one
abbrev pub held_first : Option (List ℕ) → Held
held_first None = record { bodies = []; begun = false }
held_first (Some body) = record { bodies = body ∷ []; begun = true }

-- a body more, where fewer than 1,024 are held or it is an end
abbrev pub held_more : List ℕ → Kind → Held → Held
held_more body kind held = if nat_lt (length held.bodies) 1024 || is_end kind then record { bodies = held.bodies ++ body ∷ []; begun = held.begun || is_begin kind } else held

-- a create was asked of an editor
abbrev pub asked : ℕ → ℕ → Option (List ℕ) → Part → Part
asked k number begin part = record { creates = put number k part.creates; waits = put k (held_first begin) part.waits; accepted = part.accepted }

-- an editor's part, which may not be there yet, becomes another
abbrev pub changed_to : ℕ → (Part → Part) → Option Part → List (ℕ × Part) → List (ℕ × Part)
changed_to editor f None parts = put editor (f no_part) parts
changed_to editor f (Some part) parts = set_value (is_at (nat_cmp editor)) parts (f part)

abbrev pub changed : ℕ → (Part → Part) → List (ℕ × Part) → List (ℕ × Part)
changed editor f parts = changed_to editor f (at editor parts) parts

-- what is kept of an editor, where it is there, becomes another
abbrev pub edited_to : ℕ → (Part → Part) → Option Part → List (ℕ × Part) → List (ℕ × Part)
edited_to editor f None parts = parts
edited_to editor f (Some part) parts = set_value (is_at (nat_cmp editor)) parts (f part)

abbrev pub edited : ℕ → (Part → Part) → List (ℕ × Part) → List (ℕ × Part)
edited editor f parts = edited_to editor f (at editor parts) parts

-- the token of the create that an editor was asked under a number
abbrev pub token_in : ℕ → Option Part → Option ℕ
token_in number None = None
token_in number (Some part) = at number part.creates

abbrev pub token_at : ℕ → ℕ → List (ℕ × Part) → Option ℕ
token_at editor number parts = token_in number (at editor parts)

abbrev pub bodies_of : Option Held → List (List ℕ)
bodies_of None = []
bodies_of (Some held) = held.bodies

abbrev pub begun_of : Option Held → Bool
begun_of None = false
begun_of (Some held) = held.begun

-- an editor has answered a create, and holds its token from now on or doesn't
abbrev pub settled : ℕ → ℕ → Bool → Part → Part
settled number k holds part = record { creates = less number part.creates; waits = less k part.waits; accepted = if holds then put k (begun_of (at k part.waits)) part.accepted else part.accepted }

-- what is held for an editor and a token
abbrev pub held_in : ℕ → Option Part → List (List ℕ)
held_in k None = []
held_in k (Some part) = bodies_of (at k part.waits)

abbrev pub held_at : ℕ → ℕ → List (ℕ × Part) → List (List ℕ)
held_at editor k parts = held_in k (at editor parts)

-- an editor answers a create: a token that lives is among those that it accepted from now on, where it accepts
abbrev pub answered_to : ℕ → ℕ → Bool → Option ℕ → Table → Table
answered_to editor number accepts None t = t
answered_to editor number accepts (Some k) t = record { names = t.names; next = t.next; begins = t.begins; parts = edited editor (settled number k (accepts && is_some (at k t.names))) t.parts }

abbrev pub answered : ℕ → ℕ → Bool → Table → Table
answered editor number accepts t = answered_to editor number accepts (token_at editor number t.parts) t

-- what it gives: the token's number, and what was held where the editor accepts
abbrev pub given_to : ℕ → Bool → Option ℕ → Table → Option (ℕ × List (List ℕ))
given_to editor accepts None t = None
given_to editor accepts (Some k) t = Some (k, if accepts then held_at editor k t.parts else [])

abbrev pub given : ℕ → ℕ → Bool → Table → Option (ℕ × List (List ℕ))
given editor number accepts t = given_to editor accepts (token_at editor number t.parts) t

-- a body comes for a token: it is held where a create waits
abbrev pub hold : ℕ → List ℕ → Kind → Option Held → List (ℕ × Held) → List (ℕ × Held)
hold k body kind None waits = waits
hold k body kind (Some held) waits = set_value (is_at (nat_cmp k)) waits (held_more body kind held)

-- where the token was accepted, a `begin` is noted, and an end takes the token away
abbrev pub hear : ℕ → Kind → List (ℕ × Bool) → List (ℕ × Bool)
hear k Begin accepted = set_value (is_at (nat_cmp k)) accepted true
hear k End accepted = less k accepted
hear k Other accepted = accepted

abbrev pub told : ℕ → List ℕ → Kind → Part → Part
told k body kind part = record { creates = part.creates; waits = hold k body kind (at k part.waits) part.waits; accepted = hear k kind part.accepted }

abbrev pub told_all : ℕ → List ℕ → Kind → List (ℕ × Part) → List (ℕ × Part)
told_all k body kind parts = map (λ r. (r.0, told k body kind r.1)) parts

-- the editors that accepted a token, rising
abbrev pub has_accepted : ℕ → Part → Bool
has_accepted k part = is_some (at k part.accepted)

abbrev pub accepting : ℕ → List (ℕ × Part) → List ℕ
accepting k parts = keys_of (filter (λ r. has_accepted k r.1) parts)

-- the first `begin` of each token, after a body
abbrev pub begins_after : ℕ → List ℕ → Kind → List (ℕ × List ℕ) → List (ℕ × List ℕ)
begins_after k body Begin begins = if is_some (at k begins) then begins else put k body begins
begins_after k body End begins = less k begins
begins_after k body Other begins = begins

-- the live tokens, after a body
abbrev pub names_after : ℕ → Kind → List (ℕ × Text) → List (ℕ × Text)
names_after k kind names = if is_end kind then less k names else names

-- a progress message comes for the token of a number
abbrev pub taken_to : List ℕ → Kind → Option ℕ → Table → Table
taken_to body kind None t = t
taken_to body kind (Some k) t = record { names = names_after k kind t.names; next = t.next; begins = begins_after k body kind t.begins; parts = told_all k body kind t.parts }

abbrev pub taken : Text → List ℕ → Kind → Table → Table
taken token body kind t = taken_to body kind (number_in token t.names) t

-- who gets it at once, and the token's number
abbrev pub due_to : Option ℕ → Table → Option (ℕ × List ℕ)
due_to None t = None
due_to (Some k) t = Some (k, accepting k t.parts)

abbrev pub due : Text → Table → Option (ℕ × List ℕ)
due token t = due_to (number_in token t.names) t

-- a token is created
abbrev pub created : Text → Table → Table
created token t = record { names = t.names ++ (t.next, token) ∷ []; next = t.next + 1; begins = t.begins; parts = t.parts }

-- a create of a token is asked of an editor under a number
abbrev pub put_to : ℕ → ℕ → ℕ → Table → Table
put_to k editor number t = record { names = t.names; next = t.next; begins = t.begins; parts = changed editor (asked k number (at k t.begins)) t.parts }

-- an editor leaves
abbrev pub left : ℕ → Table → Table
left editor t = record { names = t.names; next = t.next; begins = t.begins; parts = less editor t.parts }

-- the live tokens in order, each with whether it has begun
abbrev pub all_in : List (ℕ × Text) → List (ℕ × List ℕ) → List (ℕ × Bool)
all_in names begins = map (λ n. (n, is_some (at n begins))) (keys_of names)

abbrev pub all_of : Table → List (ℕ × Bool)
all_of t = all_in t.names t.begins

-- an editor accepted a token; a `begin` of it was sent there; the numbers of the creates that it hasn't answered
abbrev pub accepted_in : ℕ → Option Part → Bool
accepted_in k None = false
accepted_in k (Some part) = has_accepted k part

abbrev pub is_noted : Option Bool → Bool
is_noted None = false
is_noted (Some begun) = begun

abbrev pub begun_in : ℕ → Option Part → Bool
begun_in k None = false
begun_in k (Some part) = is_noted (at k part.accepted)

abbrev pub numbers_in : Option Part → List ℕ
numbers_in None = []
numbers_in (Some part) = keys_of part.creates

-- those of some tokens that an editor accepted and of which it was sent a `begin`; and of the live ones, in order
abbrev pub begun_among : List ℕ → Option Part → List ℕ
begun_among ks None = []
begun_among ks (Some part) = filter (λ k. is_noted (at k part.accepted)) ks

abbrev pub begun_at : ℕ → Table → List ℕ
begun_at editor t = begun_among (keys_of t.names) (at editor t.parts)
