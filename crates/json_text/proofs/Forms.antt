-- The grammar of RFC 8259 without places: which bytes say a tree, wherever they stand.
use Rattle.std.proofs.Common.{◌≡◌, ℕ, ◌+◌, List, [], ◌∷◌, ◌++◌, length, IsTrue}
use Rattle.std.specs.List.{AllByRecursion}
use Rattle.json_text.specs.String.{SpellsCharacters}
use Rattle.json_text.specs.Bare.{bare, bare_items, bare_members}
use Rattle.json_text.specs.declared.span.Span.{Span}
use Rattle.json_text.specs.Number.{IsNumber}
use Rattle.json_text.specs.Json.{Json, word, number, string, array, object, Items, no_items, item, Members, no_members, member, Rule, ◌then◌, byte, nothing, space, is_space, letters, spans, quoted, pair, value, items, more_items, members, more_members}

-- which bytes may stand, at any place
abbrev pub Form : Type 1
Form = List ℕ → Type 0

-- first the one, then the other
infixr 20 ◌along◌
abbrev pub ◌along◌ : Form → Form → Form
(P along Q) bs = (a b : List ℕ) × (bs ≡ a ++ b) × P a × Q b

abbrev pub one : ℕ → Form
one c bs = bs ≡ c ∷ []

abbrev pub no_bytes : Form
no_bytes bs = bs ≡ []

abbrev pub blank : Form
blank bs = AllByRecursion (λ b. IsTrue (is_space b)) bs

abbrev pub quotes : List ℕ → Form
quotes cs = one 34 along (λ bs. SpellsCharacters cs bs) along one 34

-- a member: its name, a colon, its value
abbrev pub name_and : List ℕ → Form → Form
name_and cs P = quotes cs along blank along one 58 along blank along P

abbrev mutual
  pub says : Json → Form
  says (word s w) bs = bs ≡ letters w
  says (number s ds) bs = (bs ≡ ds) × IsNumber ds
  says (string s cs) bs = quotes cs bs
  says (array s js) bs = (one 91 along says_items js along one 93) bs
  says (object s ms) bs = (one 123 along says_members ms along one 125) bs

  pub says_items : Items → Form
  says_items no_items bs = blank bs
  says_items (item j js) bs = (blank along says j along blank along says_more_items js) bs

  pub says_more_items : Items → Form
  says_more_items no_items bs = no_bytes bs
  says_more_items (item j js) bs = (one 44 along blank along says j along blank along says_more_items js) bs

  pub says_members : Members → Form
  says_members no_members bs = blank bs
  says_members (member s cs j ms) bs = (blank along name_and cs (says j) along blank along says_more_members ms) bs

  pub says_more_members : Members → Form
  says_more_members no_members bs = no_bytes bs
  says_more_members (member s cs j ms) bs = (one 44 along blank along name_and cs (says j) along blank along says_more_members ms) bs

-- the bytes are a text of this tree
abbrev pub SaysText : Json → Form
SaysText j = blank along says j along blank

-- a rule's bytes have this form, at any place
abbrev pub Unplaced : Rule → Form → Type 0
Unplaced P F = (at : ℕ) (bs : List ℕ) → P at bs → F bs

along_of : (P Q : Rule) (F G : Form) → Unplaced P F → Unplaced Q G → Unplaced (P then Q) (F along G)
along_of P Q F G f g at bs h = (h.0, h.1, h.2, f at h.0 h.3, g (at + length h.0) h.1 h.4)

pub byte_of : (c : ℕ) → Unplaced (byte c) (one c)
byte_of c at bs h = h

pub space_of : Unplaced space blank
space_of at bs h = h

pub nothing_of : Unplaced nothing no_bytes
nothing_of at bs h = h

pub quotes_of : (cs : List ℕ) → Unplaced (quoted cs) (quotes cs)
quotes_of cs = along_of (byte 34) _ _ _ (byte_of 34) (along_of (λ at bs. SpellsCharacters cs bs) (byte 34) (λ bs. SpellsCharacters cs bs) (one 34) (λ at bs h. h) (byte_of 34))

module _ (P : Rule) (F : Form) (f : Unplaced P F) where
  blank_first : Unplaced (space then P) (blank along F)
  blank_first = along_of space P blank F space_of f

  one_first : (c : ℕ) → Unplaced (byte c then P) (one c along F)
  one_first c = along_of (byte c) P (one c) F (byte_of c) f

pair_of : (s : Span) (cs : List ℕ) (P : Rule) (F : Form) → Unplaced P F → Unplaced (pair s cs P) (name_and cs F)
pair_of s cs P F f = along_of (spans s (quoted cs)) (space then byte 58 then space then P) (quotes cs) (blank along one 58 along blank along F) (λ at bs h. quotes_of cs at bs h.0)
    (blank_first (byte 58 then space then P) (one 58 along blank along F) (one_first (space then P) (blank along F) (blank_first P F f) 58))

-- a value, whitespace, and what follows
two_of : (P Q : Rule) (F G : Form) → Unplaced P F → Unplaced Q G → Unplaced (space then P then space then Q) (blank along F along blank along G)
two_of P Q F G f g = blank_first (P then space then Q) (F along blank along G) (along_of P (space then Q) F (blank along G) f (blank_first Q G g))

closed_of : (P : Rule) (F : Form) → Unplaced P F → (a b : ℕ) → Unplaced (byte a then P then byte b) (one a along F along one b)
closed_of P F f a b = one_first (P then byte b) (F along one b) (along_of P (byte b) F (one b) f (byte_of b)) a

mutual
  -- what stands at a place says its tree
  pub says_of : (j : Json) → Unplaced (value j) (says j)
  says_of (word s w) at bs h = h.0
  says_of (number s ds) at bs h = h.0
  says_of (string s cs) at bs h = quotes_of cs at bs h.0
  says_of (array s js) at bs h = closed_of (items js) (says_items js) (λ at bs h. items_of js at bs h) 91 93 at bs h.0
  says_of (object s ms) at bs h = closed_of (members ms) (says_members ms) (λ at bs h. members_of ms at bs h) 123 125 at bs h.0

  pub items_of : (js : Items) → Unplaced (items js) (says_items js)
  items_of no_items at bs h = h
  items_of (item j js) at bs h = two_of (value j) (more_items js) (says j) (says_more_items js) (λ at bs h. says_of j at bs h) (λ at bs h. more_items_of js at bs h) at bs h

  pub more_items_of : (js : Items) → Unplaced (more_items js) (says_more_items js)
  more_items_of no_items at bs h = h
  more_items_of (item j js) at bs h = one_first (space then value j then space then more_items js) (blank along says j along blank along says_more_items js)
      (two_of (value j) (more_items js) (says j) (says_more_items js) (λ at bs h. says_of j at bs h) (λ at bs h. more_items_of js at bs h)) 44 at bs h

  pub members_of : (ms : Members) → Unplaced (members ms) (says_members ms)
  members_of no_members at bs h = h
  members_of (member s cs j ms) at bs h = two_of (pair s cs (value j)) (more_members ms) (name_and cs (says j)) (says_more_members ms)
      (pair_of s cs (value j) (says j) (λ at bs h. says_of j at bs h)) (λ at bs h. more_members_of ms at bs h) at bs h

  pub more_members_of : (ms : Members) → Unplaced (more_members ms) (says_more_members ms)
  more_members_of no_members at bs h = h
  more_members_of (member s cs j ms) at bs h = one_first (space then pair s cs (value j) then space then more_members ms) (blank along name_and cs (says j) along blank along says_more_members ms)
      (two_of (pair s cs (value j)) (more_members ms) (name_and cs (says j)) (says_more_members ms)
      (pair_of s cs (value j) (says j) (λ at bs h. says_of j at bs h)) (λ at bs h. more_members_of ms at bs h)) 44 at bs h

pub text_of : (j : Json) → Unplaced (space then value j then space) (SaysText j)
text_of j = blank_first (value j then space) (says j along blank) (along_of (value j) space (says j) blank (says_of j) space_of)

-- from the one form to the other, at all bytes
abbrev pub To : Form → Form → Type 0
To F G = (bs : List ℕ) → F bs → G bs

along_to : (F G P Q : Form) → To F P → To G Q → To (F along G) (P along Q)
along_to F G P Q f g bs h = (h.0, h.1, h.2, f h.0 h.3, g h.1 h.4)

second_to : (E F G : Form) → To F G → To (E along F) (E along G)
second_to E F G f bs h = (h.0, h.1, h.2, h.3, f h.1 h.4)

closed_to : (a b : ℕ) (F G : Form) → To F G → To (one a along F along one b) (one a along G along one b)
closed_to a b F G f = second_to (one a) (F along one b) (G along one b) (along_to F (one b) G (one b) f (λ bs h. h))

two_to : (F G P Q : Form) → To F P → To G Q → To (blank along F along blank along G) (blank along P along blank along Q)
two_to F G P Q f g = second_to blank (F along blank along G) (P along blank along Q) (along_to F (blank along G) P (blank along Q) f (second_to blank G Q g))

name_to : (cs : List ℕ) (F G : Form) → To F G → To (name_and cs F) (name_and cs G)
name_to cs F G f = second_to (quotes cs) (blank along one 58 along blank along F) (blank along one 58 along blank along G)
    (second_to blank (one 58 along blank along F) (one 58 along blank along G) (second_to (one 58) (blank along F) (blank along G) (second_to blank F G f)))

mutual
  -- places say nothing
  pub says_bare : (j : Json) → To (says j) (says (bare j))
  says_bare (word s w) bs h = h
  says_bare (number s ds) bs h = h
  says_bare (string s cs) bs h = h
  says_bare (array s js) bs h = closed_to 91 93 (says_items js) (says_items (bare_items js)) (λ bs h. says_items_bare js bs h) bs h
  says_bare (object s ms) bs h = closed_to 123 125 (says_members ms) (says_members (bare_members ms)) (λ bs h. says_members_bare ms bs h) bs h

  says_items_bare : (js : Items) → To (says_items js) (says_items (bare_items js))
  says_items_bare no_items bs h = h
  says_items_bare (item j js) bs h = two_to (says j) (says_more_items js) (says (bare j)) (says_more_items (bare_items js)) (λ bs h. says_bare j bs h) (λ bs h. says_more_items_bare js bs h) bs h

  says_more_items_bare : (js : Items) → To (says_more_items js) (says_more_items (bare_items js))
  says_more_items_bare no_items bs h = h
  says_more_items_bare (item j js) bs h = second_to (one 44) (blank along says j along blank along says_more_items js) (blank along says (bare j) along blank along says_more_items (bare_items js))
      (two_to (says j) (says_more_items js) (says (bare j)) (says_more_items (bare_items js)) (λ bs h. says_bare j bs h) (λ bs h. says_more_items_bare js bs h)) bs h

  says_members_bare : (ms : Members) → To (says_members ms) (says_members (bare_members ms))
  says_members_bare no_members bs h = h
  says_members_bare (member s cs j ms) bs h = two_to (name_and cs (says j)) (says_more_members ms) (name_and cs (says (bare j))) (says_more_members (bare_members ms))
      (name_to cs (says j) (says (bare j)) (λ bs h. says_bare j bs h)) (λ bs h. says_more_members_bare ms bs h) bs h

  says_more_members_bare : (ms : Members) → To (says_more_members ms) (says_more_members (bare_members ms))
  says_more_members_bare no_members bs h = h
  says_more_members_bare (member s cs j ms) bs h = second_to (one 44) (blank along name_and cs (says j) along blank along says_more_members ms) (blank along name_and cs (says (bare j)) along blank along says_more_members (bare_members ms))
      (two_to (name_and cs (says j)) (says_more_members ms) (name_and cs (says (bare j))) (says_more_members (bare_members ms))
      (name_to cs (says j) (says (bare j)) (λ bs h. says_bare j bs h)) (λ bs h. says_more_members_bare ms bs h)) bs h
