-- The reading function `tree_of` is the grammar: it gives the tree of a text that nests at most 1,024 deep, and nothing else.
use Rattle.std.proofs.Common.{◌≡◌, ◌↔◌, ℕ, ◌+◌, ◌≤◌, List, [], ◌∷◌, ◌++◌, length, drop, refl, sym, ap, ◌∙◌, subst, append-nil, take-append-drop}
use Rattle.std.specs.Prelude.{Option, Some, None}
use Rattle.json_text.specs.Faults.{IsSyntaxFault, IsDepthFault}
use Rattle.json_text.specs.Json.{Json, Rule, ◌then◌, space, IsText, depth}
use Rattle.json_text.specs.Read.{Left, fails, reads, ◌>>=◌, gives, skip}
use Rattle.json_text.specs.Tree.{read_value, only_whole, tree_of}
use Rattle.json_text.proofs.Complete.{value_starts, value_read}
use Rattle.json_text.proofs.Front.{Front, bound, gave, joined}
use Rattle.json_text.proofs.ListsRead.{skip_read, gap_no_number, starts_no_space}
use Rattle.json_text.proofs.ListsSound.{skip_sound}
use Rattle.json_text.proofs.Sound.{fits, value_sound}

record Alone (l : Left Json) (j : Json) : Type 0 where
  place : ℕ
  is : l ≡ reads j place []

alone : (l : Left Json) (j : Json) → only_whole l ≡ Some j → Alone l j
alone fails j h = cc
alone (reads k at []) j h = record { place = at; is = cc }
alone (reads k at (b ∷ bs)) j h = cc

abbrev text_fits : ℕ → Json → Rule
text_fits d j = space then (fits d j then space)

text_sound : (d : ℕ) (bytes : List ℕ) (j : Json) (n : ℕ) (rest : List ℕ) → (skip 0 bytes >>= λ done at bs. read_value d at bs >>= λ j at bs. skip at bs >>= λ done. gives j) ≡ reads j n rest → Front (text_fits d j) 0 bytes n rest
text_sound d bytes j n rest h =
    let f = bound (skip 0 bytes) (λ done at bs. read_value d at bs >>= λ j at bs. skip at bs >>= λ done. gives j) j n rest h in
    let g = bound (read_value d f.to f.rest) (λ j at bs. skip at bs >>= λ done. gives j) j n rest f.goes in
    let k = bound (skip g.to g.rest) (λ done. gives g.read) j n rest g.goes in
    gave (text_fits d) 0 bytes g.read j k.to n k.rest rest k.goes
    (joined 0 bytes f.to f.rest k.to k.rest (skip_sound 0 bytes f.read f.to f.rest f.is) (joined f.to f.rest g.to g.rest k.to k.rest (value_sound d f.to f.rest g.read g.to g.rest g.is) (skip_sound g.to g.rest k.read k.to k.rest k.is)))

text_of : (d : ℕ) (j : Json) (n : ℕ) (bytes : List ℕ) → Front (text_fits d j) 0 bytes n [] → IsText bytes j × (depth j ≤ d)
text_of d j n bytes f =
    let h = f.rule in let k = h.4 in
    let e : bytes ≡ f.front = f.whole ∙ append-nil f.front in
    ((h.0, h.1, e ∙ h.2, h.3, (k.0, k.1, k.2, k.3.0, k.4)), k.3.1)

pub tree_sound : (bytes : List ℕ) (j : Json) → tree_of bytes ≡ Some j → IsText bytes j × (depth j ≤ 1024)
unfolding tree_of
tree_sound bytes j h =
    let a = alone (skip 0 bytes >>= λ done at bs. read_value 1024 at bs >>= λ j at bs. skip at bs >>= λ done. gives j) j h in
    text_of 1024 j a.place bytes (text_sound 1024 bytes j a.place [] a.is)

tree_goes : (bytes : List ℕ) (j : Json) (p q r : ℕ) (vs ws : List ℕ) → skip 0 bytes ≡ reads tt p vs → read_value 1024 p vs ≡ reads j q ws → skip q ws ≡ reads tt r [] → tree_of bytes ≡ Some j
unfolding tree_of
tree_goes bytes j p q r vs ws h k l = rw (h, k, l) refl

pub tree_complete : (bytes : List ℕ) (j : Json) → IsText bytes j → depth j ≤ 1024 → tree_of bytes ≡ Some j
tree_complete bytes j h small =
    let k = h.4 in
    let whole : bytes ≡ h.0 ++ (k.0 ++ (k.1 ++ [])) = h.2 ∙ ap (λ l. h.0 ++ l) (k.2 ∙ ap (λ l. k.0 ++ l) (sym (append-nil k.1))) in
    tree_goes bytes j (0 + length h.0) (0 + length h.0 + length k.0) (0 + length h.0 + length k.0 + length k.1) (k.0 ++ (k.1 ++ [])) (k.1 ++ [])
    (ap (skip 0) whole ∙ skip_read 0 0 (0 + length h.0) h.0 (k.0 ++ (k.1 ++ [])) h.3 (starts_no_space 93 k.0 (k.1 ++ []) (value_starts j (0 + length h.0) k.0 k.3)) refl)
    (value_read j 1024 small (0 + length h.0) (0 + length h.0 + length k.0) k.0 (k.1 ++ []) k.3 (gap_no_number 0 k.1 [] k.4 tt) refl)
    (skip_read (0 + length h.0 + length k.0) 0 (0 + length h.0 + length k.0 + length k.1) k.1 [] k.4 tt refl)

pub tree_law : (bytes : List ℕ) (j : Json) → (tree_of bytes ≡ Some j) ↔ (IsText bytes j × (depth j ≤ 1024))
tree_law bytes j = (tree_sound bytes j, λ h. tree_complete bytes j h.0 h.1)

-- a text has one tree
pub one_tree : (bytes : List ℕ) (j k : Json) → IsText bytes j → depth j ≤ 1024 → IsText bytes k → depth k ≤ 1024 → j ≡ k
one_tree bytes j k h small l low =
    let e : Some j ≡ Some k = sym (tree_complete bytes j h small) ∙ tree_complete bytes k l low in
    cc

-- what is no such text has no tree
pub no_tree : (bytes : List ℕ) → ((j : Json) → IsText bytes j → depth j ≤ 1024 → ⊥) → tree_of bytes ≡ None
no_tree bytes h = go (tree_of bytes) refl
  where
    go : (o : Option Json) → tree_of bytes ≡ o → tree_of bytes ≡ None
    go None e = e
    go (Some j) e = let k = tree_sound bytes j e in absurd (h j k.0 k.1)

pub syntax_none : (bytes : List ℕ) (p : ℕ) → IsSyntaxFault 1024 bytes p → tree_of bytes ≡ None
syntax_none bytes p f = no_tree bytes (λ j h small. f.no_text j h)

pub deep_none : (bytes : List ℕ) (p : ℕ) → IsDepthFault 1024 bytes p → tree_of bytes ≡ None
deep_none bytes p f = no_tree bytes (λ j h small. f.deeper (drop (p + 1) bytes, j, subst (λ l. IsText l j) (sym (take-append-drop (p + 1) bytes)) h, small))
