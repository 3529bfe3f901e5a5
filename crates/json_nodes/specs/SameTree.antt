-- RFC 8259's values that say the same, as a relation.
use Rattle.std.specs.Prelude.{ℕ, List}
use Rattle.std.specs.Prelude.{Option, Some, None}
use Rattle.json_text.specs.declared.kind.Word.{Word}
use Rattle.json_text.specs.declared.span.Span.{Span}
use Rattle.json_text.specs.Json.{Json, word, number, string, array, object, Items, no_items, item, Members}
use Rattle.json_text.specs.Named.{named}

mutual
  pub data Same : Json → Json → Type 0 where
    words : {s r : Span} {w : Word} → Same (word s w) (word r w)
    numbers : {s r : Span} {ds : List ℕ} → Same (number s ds) (number r ds)
    strings : {s r : Span} {cs : List ℕ} → Same (string s cs) (string r cs)
    arrays : {s r : Span} {js ks : Items} → SameItems js ks → Same (array s js) (array r ks)
    objects : {s r : Span} {ms ns : Members} → ((name : List ℕ) → SameNamed (named name ms) (named name ns)) → Same (object s ms) (object r ns)

  pub data SameItems : Items → Items → Type 0 where
    no_more : SameItems no_items no_items
    one_more : {j k : Json} {js ks : Items} → Same j k → SameItems js ks → SameItems (item j js) (item k ks)

  -- the last values of a name
  pub data SameNamed : Option Json → Option Json → Type 0 where
    neither : SameNamed None None
    both : {j k : Json} → Same j k → SameNamed (Some j) (Some k)
