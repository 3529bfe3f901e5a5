-- Changes of a text of three lines, and what is a list of changes, worked out by the checker.
use Rattle.std.proofs.Common.{◌≡◌, ℕ, List, [], ◌∷◌, codes, refl}
use Rattle.std.specs.Prelude.{Option, Some, None}
use Rattle.std.specs.Option.{option_and_then}
use Rattle.std.specs.Str.{chars}
use Rattle.json_text.specs.Computes.{computes}
use Rattle.json_text.specs.Named.{named}
use Rattle.json_text.specs.Tree.{tree_of}
use Rattle.position_codec.specs.declared.Encoding.TheVariants.{Utf8, Utf16, Utf32}
use Rattle.doc_text.specs.declared.change.ContentChange.{ContentChange}
use Rattle.doc_text.specs.declared.change.Extent.TheVariants.{Part}
use Rattle.doc_text.specs.Changes.{changed, changed_all, text_behind}
use Rattle.doc_text.specs.Numbers.{unsigned}

-- `a😀b\r\nc\rd`
abbrev text : List ℕ
text = 97 ∷ 240 ∷ 159 ∷ 152 ∷ 128 ∷ 98 ∷ 13 ∷ 10 ∷ 99 ∷ 13 ∷ 100 ∷ []

-- a change from line k, character m to line l, character n
abbrev within : ℕ → ℕ → ℕ → ℕ → List ℕ → ContentChange
within k m l n new = record {
  extent = Part (record { start = record { line = k; character = m }; end = record { line = l; character = n } });
  text = new;
}

-- from inside a character, which is its beginning
inside_a_character : changed Utf16 (within 0 2 0 3 (codes "z")) text ≡ codes "azb\r\nc\rd"
unfolding chars
inside_a_character = refl

-- an end before the start
end_before_start : changed Utf16 (within 0 4 0 0 (codes "!")) text ≡ 97 ∷ 240 ∷ 159 ∷ 152 ∷ 128 ∷ 98 ∷ 33 ∷ 13 ∷ 10 ∷ 99 ∷ 13 ∷ 100 ∷ []
unfolding chars
end_before_start = refl

-- the same character, as each encoding counts
by_utf8 : changed Utf8 (within 0 5 0 6 []) text ≡ 97 ∷ 240 ∷ 159 ∷ 152 ∷ 128 ∷ 13 ∷ 10 ∷ 99 ∷ 13 ∷ 100 ∷ []
unfolding chars
by_utf8 = refl

by_utf16 : changed Utf16 (within 0 3 0 4 []) text ≡ 97 ∷ 240 ∷ 159 ∷ 152 ∷ 128 ∷ 13 ∷ 10 ∷ 99 ∷ 13 ∷ 100 ∷ []
unfolding chars
by_utf16 = refl

by_utf32 : changed Utf32 (within 0 2 0 3 []) text ≡ 97 ∷ 240 ∷ 159 ∷ 152 ∷ 128 ∷ 13 ∷ 10 ∷ 99 ∷ 13 ∷ 100 ∷ []
unfolding chars
by_utf32 = refl

-- the second change is made in the text that the first left: there `c\r\n` ends the second line
one_after_the_other : changed_all Utf16 (within 2 0 2 1 (codes "\n") ∷ within 2 0 2 0 (codes "z") ∷ within 9 9 9 9 (codes "!") ∷ []) (codes "a\nc\rd") ≡ codes "a\nc\r\nz!"
unfolding chars
one_after_the_other = refl

-- integers

zero : unsigned (codes "0") ∷ unsigned (codes "-0") ∷ [] ≡ Some 0 ∷ Some 0 ∷ []
zero = refl

great : unsigned (codes "4294967295") ∷ unsigned (codes "4294967296") ∷ unsigned (codes "98765432109876543210") ∷ [] ≡ Some 4294967295 ∷ Some 4294967295 ∷ Some 4294967295 ∷ []
great = refl

no_integers : unsigned (codes "-1") ∷ unsigned (codes "1.0") ∷ unsigned (codes "1e0") ∷ unsigned (codes "-0.0") ∷ [] ≡ None ∷ None ∷ None ∷ None ∷ []
no_integers = refl

-- lists of changes

-- the text `ab` behind the changes that this JSON text lists
abbrev behind : List ℕ → Option (List ℕ)
behind json = option_and_then (λ t. text_behind Utf16 t (codes "ab")) (tree_of json)

nothing_changed : behind (codes "[]") ≡ Some (codes "ab")
unfolding computes named chars
nothing_changed = refl

whole : behind (codes "[{\"text\":\"\\u00e9\"}]") ≡ Some (195 ∷ 169 ∷ [])
unfolding computes named chars
whole = refl

doubled : behind (codes "[{\"range\":7,\"text\":\"x\",\"range\":{\"start\":{\"line\":0,\"character\":1},\"end\":{\"line\":0,\"character\":1}},\"text\":\"y\"}]") ≡ Some (codes "ayb")
unfolding computes named chars
doubled = refl

no_list : behind (codes "{\"text\":\"\"}") ≡ None
unfolding computes named chars
no_list = refl

null_range : behind (codes "[{\"range\":null,\"text\":\"\"}]") ≡ None
unfolding computes named chars
null_range = refl

no_text : behind (codes "[{\"text\":\"\"},{}]") ≡ None
unfolding computes named chars
no_text = refl
