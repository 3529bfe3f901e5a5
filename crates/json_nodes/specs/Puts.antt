-- Values of an object that give way to others by their names: each member of a name, not its last alone.
use Rattle.std.specs.Prelude.{ℕ, List, [], ◌∷◌, bytes_eq, if◌then◌else◌}
use Rattle.std.specs.Prelude.{Option, Some, None}
use Rattle.std.specs.Str.{chars}
use Rattle.json_text.specs.declared.span.Span.{Span}
use Rattle.json_text.specs.Json.{Json, word, number, string, array, object, Members, no_members, member, span_of}
use Rattle.json_text.specs.Replace.{Edit}
use Rattle.json_nodes.specs.declared.puts.Put.{Put}

-- the bytes for a name: those of the first put of that name
abbrev pub text_for : List Put → List ℕ → Option (List ℕ)
text_for [] cs = None
text_for (p ∷ ps) cs = if bytes_eq (chars p.name.now) cs then Some p.text.now else text_for ps cs

abbrev pub edit_if : Span → Option (List ℕ) → List Edit → List Edit
edit_if s None es = es
edit_if s (Some w) es = record { span = s; text = w } ∷ es

-- the edits that put bytes in place of the value of each member for whose name there are some
abbrev pub member_edits : (List ℕ → Option (List ℕ)) → Members → List Edit
member_edits text no_members = []
member_edits text (member s cs j ms) = edit_if (span_of j) (text cs) (member_edits text ms)

-- the same for a value, where it is an object
abbrev pub put_edits : (List ℕ → Option (List ℕ)) → Json → List Edit
put_edits text (object s ms) = member_edits text ms
put_edits text (word s w) = []
put_edits text (number s ds) = []
put_edits text (string s cs) = []
put_edits text (array s js) = []

abbrev pub new_or : Option Json → Json → Json
new_or None j = j
new_or (Some u) j = u

-- the members with another value where there is one for the name
abbrev pub put_members : (List ℕ → Option Json) → Members → Members
put_members new no_members = no_members
put_members new (member s cs j ms) = member s cs (new_or (new cs) j) (put_members new ms)
