-- The tree of a JSON text that nests at most 1,024 deep, as a function of its bytes. The law `tree_of_law` says that it is the tree of RFC 8259's grammar.
use Rattle.std.specs.Prelude.{ℕ, zero, suc, List, [], ◌∷◌, ◌==◌, codes, if◌then◌else◌}
use Rattle.std.specs.Prelude.{Option, Some, None}
use Rattle.json_text.specs.declared.span.Span.{Span}
use Rattle.json_text.specs.declared.kind.Word.TheVariants.{Null, False, True}
use Rattle.json_text.specs.Json.{Json, word, number, string, array, object, no_items, item, Members, no_members, member}
use Rattle.json_text.specs.Read.{Left, fails, reads, Reader, ◌>>=◌, gives, spanned, skip, expect, expect_all, read_number, read_string, read_list}

-- a member: its name's span and characters, and its value
pub record Entry : Type 0 where
  pub name : Span
  pub characters : List ℕ
  pub content : Json

abbrev pub member_of : Entry → Members → Members
member_of e ms = member e.name e.characters e.content ms

-- the place and the characters of a string
pub record Name : Type 0 where
  pub place : Span
  pub characters : List ℕ

abbrev pub read_name : Reader Name
read_name = spanned (λ s cs. record { place = s; characters = cs }) (λ at bs. read_string at bs)

abbrev pub read_member : Reader Json → Reader Entry
read_member inner at bs = read_name at bs >>= λ n at bs. skip at bs >>= λ done at bs. expect 58 at bs >>= λ done at bs. skip at bs >>= λ done at bs. inner at bs >>= λ j. gives (record { name = n.place; characters = n.characters; content = j })

-- a value that is no array and no object, by its first byte
abbrev pub read_leaf : ℕ → Reader Json
read_leaf b = if b == 34 then spanned string (λ at bs. read_string at bs) else
    if b == 110 then spanned (λ s done. word s Null) (expect_all (codes "null")) else
    if b == 102 then spanned (λ s done. word s False) (expect_all (codes "false")) else
    if b == 116 then spanned (λ s done. word s True) (expect_all (codes "true")) else
    spanned number read_number

-- a value with at most d arrays and objects open at once
unfoldable pub read_value : ℕ → Reader Json
read_value d at [] = fails
read_value zero at (b ∷ bs) = read_leaf b at (b ∷ bs)
read_value (suc d) at (b ∷ bs) =
    if b == 91 then spanned array (read_list 91 93 (λ at bs. read_value d at bs) no_items item) at (b ∷ bs) else
    if b == 123 then spanned object (read_list 123 125 (read_member (λ at bs. read_value d at bs)) no_members member_of) at (b ∷ bs) else
    read_leaf b at (b ∷ bs)

abbrev pub only_whole : Left Json → Option Json
only_whole fails = None
only_whole (reads j at []) = Some j
only_whole (reads j at (b ∷ bs)) = None

unfoldable pub tree_of : List ℕ → Option Json
tree_of bytes = only_whole (skip 0 bytes >>= λ done at bs. read_value 1024 at bs >>= λ j at bs. skip at bs >>= λ done. gives j)
