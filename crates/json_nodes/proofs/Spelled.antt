-- The bytes in the span of a value, of a string and of a name.
use Rattle.std.proofs.Common.{◌≡◌, ℕ, zero, suc, ◌+◌, ◌-◌, ◌≤◌, List, [], ◌∷◌, ◌++◌, length, get_or, sym, ◌∙◌, ap, subst, arith, append_assoc, length-append, ap₂, refl}
use Rattle.std.specs.Prelude.{Some}
use Rattle.std.specs.List.{slice_get}
use Rattle.std.proofs.lemmas.Option.{get_or_from_slice_get}
use Rattle.json_text.specs.declared.span.Span.{Span}
use Rattle.json_text.specs.String.{SpellsCharacters}
use Rattle.json_text.specs.Json.{Json, word, number, string, array, object, Members, no_members, member, ◌then◌, byte, spans, spells, space, quoted, value, IsText, span_of}
use Rattle.json_nodes.specs.declared.node.Node.{Node}
use Rattle.json_nodes.specs.declared.node.Place.{Place}
use Rattle.json_nodes.specs.At.{At, ChildAt}
use Rattle.json_nodes.specs.Doc.{Doc}
use Rattle.json_nodes.specs.Nodes.{size, place_of, head_node}
use Rattle.json_nodes.specs.Texts.{name_spans, member_name_spans, IsSpelledAt, IsStringAt, between, names, member_names}
use Rattle.json_nodes.proofs.Looks.{Here, here_at, head_at, node_span, span_law}
use Rattle.json_nodes.proofs.Parts.{Part, all_part, part_in, child_part, value_span, between_is, Entry, entries, entry, entry_of, entry_part, entry_name, in_first, in_second}
use Rattle.json_nodes.proofs.Places.{PlacedChild, placed_named}
use Rattle.json_nodes.proofs.Tree.{everywhere, child_places, members_children, named_children}

-- each value of a text is a part of its bytes
whole_part : (bytes : List ℕ) (j : Json) → IsText bytes j → Part (value j) 0 bytes
whole_part bytes j h = in_second space (value j then space) (value j) 0 bytes h (λ i xs h. in_first (value j) space (value j) i xs h (λ i xs h. all_part (value j) i xs h))

pub value_part : {doc : Doc} {k : ℕ} {t : Json} → At doc k t → Part (value t) 0 doc.bytes
value_part {doc} {k} {t} a = everywhere (λ m u. Part (value u) 0 doc.bytes) (λ m n u c p e. part_in (value u) (value c) 0 doc.bytes p (λ i xs h. child_part u n c i xs h e)) (size a.tree) 0 k a.tree t (omega arith) (whole_part doc.bytes a.tree a.holds.text) a.there

part_spelled : (bytes : List ℕ) (t : Json) (p : Part (value t) 0 bytes) (from to : ℕ) → from ≡ length p.front → to ≡ from + length p.text → (from ≤ to) × (to ≤ length bytes) × value t from (between from to bytes)
part_spelled bytes t p from to e f =
    let place : 0 + length p.front ≡ from = omega arith in
    (omega arith, omega (arith, ap length p.whole, length-append p.front (p.text ++ p.back), length-append p.text p.back), rw (between_is p.front p.text p.back bytes from to p.whole e f, ← place) p.is)

-- the bytes in a value's span are a spelling of it
pub span_text : (doc : Doc) (k : ℕ) (t : Json) → At doc k t → IsSpelledAt doc.bytes t
span_text doc k t a =
    let p : Part (value t) 0 doc.bytes = value_part a in
    let s : span_of t ≡ record { from = 0 + length p.front; to = 0 + length p.front + length p.text } = value_span t (0 + length p.front) p.text p.is in
    let from : (span_of t).from ≡ 0 + length p.front = ap (λ (x : Span). x.from) s in
    let to : (span_of t).to ≡ 0 + length p.front + length p.text = ap (λ (x : Span). x.to) s in
    let q : ((span_of t).from ≤ (span_of t).to) × ((span_of t).to ≤ length doc.bytes) × value t (span_of t).from (between (span_of t).from (span_of t).to doc.bytes) = part_spelled doc.bytes t p (span_of t).from (span_of t).to (omega arith) (omega arith) in
    record { rises = q.0; fits = q.1; text = q.2 }

-- what is between quotation marks

quotes_whole : (front text back bs a b mid end : List ℕ) → bs ≡ front ++ (text ++ back) → text ≡ a ++ b → b ≡ mid ++ end → bs ≡ (front ++ a) ++ (mid ++ (end ++ back))
quotes_whole front text back bs a b mid end e f g = e ∙ ap (λ xs. front ++ (xs ++ back)) (f ∙ ap (λ xs. a ++ xs) g) ∙ simp append_assoc

between_quotes : (front text back bs a b mid end : List ℕ) (from to : ℕ) → bs ≡ front ++ (text ++ back) → text ≡ a ++ b → b ≡ mid ++ end → a ≡ 34 ∷ [] → end ≡ 34 ∷ [] → from ≡ length front → to ≡ from + length text
    → (from + 2 ≤ to) × (to ≤ length bs) × (between (from + 1) (to - 1) bs ≡ mid)
between_quotes front text back bs a b mid end from to e f g one last start stop =
    let m : length text ≡ length mid + 2 = omega (arith, ap length f, ap length g, ap length one, ap length last, length-append a b, length-append mid end) in
    let w : length bs ≡ length front + (length text + length back) = omega (arith, ap length e, length-append front (text ++ back), length-append text back) in
    (omega arith, omega arith, between_is (front ++ a) mid (end ++ back) bs (from + 1) (to - 1) (quotes_whole front text back bs a b mid end e f g) (omega (arith, length-append front a, ap length one)) (omega arith))

string_part : (bytes : List ℕ) (s : Span) (cs : List ℕ) → Part (spans s (quoted cs)) 0 bytes → IsStringAt bytes s cs
string_part bytes s cs p =
    let q : quoted cs (0 + length p.front) p.text = p.is.0 in
    let r : (spells cs then byte 34) (0 + length p.front + length q.0) q.1 = q.4 in
    let from : s.from ≡ 0 + length p.front = ap (λ (x : Span). x.from) p.is.1 in
    let to : s.to ≡ 0 + length p.front + length p.text = ap (λ (x : Span). x.to) p.is.1 in
    let k : (s.from + 2 ≤ s.to) × (s.to ≤ length bytes) × (between (s.from + 1) (s.to - 1) bytes ≡ r.0) = between_quotes p.front p.text p.back bytes q.0 q.1 r.0 r.1 s.from s.to p.whole q.2 r.2 q.3 r.4 (omega arith) (omega arith) in
    record { rises = k.0; fits = k.1; text = rw k.2 r.3 }

-- a string between its quotation marks
pub string_text : (doc : Doc) (k : ℕ) (s : Span) (cs : List ℕ) → At doc k (string s cs) → IsStringAt doc.bytes s cs
string_text doc k s cs a = string_part doc.bytes s cs (value_part a)

-- the name of a member

entry_places : (ms : Members) (n : ℕ) (e : Entry) → slice_get (entries ms) n ≡ Some e → slice_get (child_places (members_children ms)) n ≡ Some (place_of e.place)
entry_places no_members n e h = cc
entry_places (member s cs j ms) zero e h = let d : Entry = record { place = s; characters = cs; content = j } in let same : d ≡ e = cc in ap (λ (x : Entry). Some (place_of x.place)) same
entry_places (member s cs j ms) (suc n) e h = entry_places ms n e h

entry_names : (ms : Members) (n : ℕ) (e : Entry) → slice_get (entries ms) n ≡ Some e → slice_get (member_names ms) n ≡ Some e.characters
entry_names no_members n e h = cc
entry_names (member s cs j ms) zero e h = let d : Entry = record { place = s; characters = cs; content = j } in let same : d ≡ e = cc in ap (λ (x : Entry). Some x.characters) same
entry_names (member s cs j ms) (suc n) e h = entry_names ms n e h

entry_spans : (ms : Members) (n : ℕ) (e : Entry) → slice_get (entries ms) n ≡ Some e → slice_get (member_name_spans ms) n ≡ Some e.place
entry_spans no_members n e h = cc
entry_spans (member s cs j ms) zero e h = let d : Entry = record { place = s; characters = cs; content = j } in let same : d ≡ e = cc in ap (λ (x : Entry). Some x.place) same
entry_spans (member s cs j ms) (suc n) e h = entry_spans ms n e h

-- node m names child n, whose name is cs
pub record NameAt (doc : Doc) (m n : ℕ) (t : Json) (d : Node) (cs : List ℕ) : Type 0 where
  pub place : Span
  pub here : slice_get (name_spans t) n ≡ Some place
  pub named : (get_or doc.nodes m d).name ≡ place_of place
  pub text : IsStringAt doc.bytes place cs

name_place : (ns : List Node) (l k n m : ℕ) (t u : Json) (d : Node) (place : Place) → PlacedChild ns l k n t m u → slice_get (child_places (named_children t)) n ≡ Some place → (get_or ns m d).name ≡ place
name_place ns l k n m t u d place c h =
    let same : c.placed.name ≡ place = (let e : slice_get (child_places (named_children t)) n ≡ Some c.placed.name = c.named in cc) in
    ap (λ (x : Node). x.name) (get_or_from_slice_get ns m (head_node (l + 1) m c.placed.name u) d (head_at ns (l + 1) m u c.placed)) ∙ same

pub name_text : (doc : Doc) (k n m : ℕ) (t u : Json) (cs : List ℕ) (d : Node) → ChildAt doc k t n m u → slice_get (names t) n ≡ Some cs → NameAt doc m n t d cs
name_text doc k n m (word s w) u cs d c h = cc
name_text doc k n m (number s ds) u cs d c h = cc
name_text doc k n m (string s ds) u cs d c h = cc
name_text doc k n m (array s js) u cs d c h = cc
name_text doc k n m (object s ms) u cs d c h =
    let e : (e : Entry) × (slice_get (entries ms) n ≡ Some e) × (e.content ≡ u) = entry_of ms n u c.child in
    let p : Part (value (object s ms)) 0 doc.bytes = value_part c.parent in
    let q : Part (spans e.0.place (quoted e.0.characters)) 0 doc.bytes = part_in (value (object s ms)) (spans e.0.place (quoted e.0.characters)) 0 doc.bytes p
    (λ i xs h. part_in (entry e.0) (spans e.0.place (quoted e.0.characters)) i xs (entry_part s ms n e.0 i xs h e.1) (λ i xs h. entry_name e.0 i xs h)) in
    let x : Here doc.nodes k (object s ms) = here_at c.parent in
    let same : e.0.characters ≡ cs = (let f : slice_get (member_names ms) n ≡ Some e.0.characters = entry_names ms n e.0 e.1 in cc) in
    record {
      place = e.0.place;
      here = entry_spans ms n e.0 e.1;
      named = name_place doc.nodes x.level k n m (object s ms) u d (place_of e.0.place) (placed_named doc.nodes x.level k n (object s ms) u m x.placed c.child c.place) (entry_places ms n e.0 e.1);
      text = rw (← same) (string_part doc.bytes e.0.place e.0.characters q);
    }

-- the same by what the node says

pub string_inside : (doc : Doc) (k : ℕ) (s : Span) (cs : List ℕ) (d : Node) → At doc k (string s cs) → IsStringAt doc.bytes (node_span (get_or doc.nodes k d)) cs
string_inside doc k s cs d a = subst (λ (p : Span). IsStringAt doc.bytes p cs) (sym (span_law doc k (string s cs) d a)) (string_text doc k s cs a)

abbrev place_span : Place → Span
place_span p = record { from = p.from; to = p.to }

pub name_inside : (doc : Doc) (k n m : ℕ) (t u : Json) (cs : List ℕ) (d : Node) → ChildAt doc k t n m u → slice_get (names t) n ≡ Some cs → IsStringAt doc.bytes (place_span (get_or doc.nodes m d).name) cs
name_inside doc k n m t u cs d c h = let a : NameAt doc m n t d cs = name_text doc k n m t u cs d c h in
    let same : place_span (get_or doc.nodes m d).name ≡ a.place = ap place_span a.named in
    subst (λ (p : Span). IsStringAt doc.bytes p cs) (sym same) a.text

-- a value's bytes stand between its places
pub value_between : (doc : Doc) (k : ℕ) (t : Json) (d : Node) (bs : List ℕ) → At doc k t → bs ≡ between (get_or doc.nodes k d).from (get_or doc.nodes k d).to doc.bytes
    → bs ≡ between (span_of t).from (span_of t).to doc.bytes
value_between doc k t d bs a part =
    let e : node_span (get_or doc.nodes k d) ≡ span_of t = span_law doc k t d a in
    part ∙ ap₂ (λ i j. between i j doc.bytes) (ap (λ (p : Span). p.from) e) (ap (λ (p : Span). p.to) e)

pub value_inside : (doc : Doc) (k : ℕ) (t : Json) (bs : List ℕ) → At doc k t → bs ≡ between (span_of t).from (span_of t).to doc.bytes → value t (span_of t).from bs
value_inside doc k t bs a e = subst (λ xs. value t (span_of t).from xs) (sym e) (span_text doc k t a).text

-- the characters of a string are spelled between its quotation marks
pub quotes_spelled : (bytes : List ℕ) (p : Span) (cs bs : List ℕ) → IsStringAt bytes p cs → bs ≡ between (p.from + 1) (p.to - 1) bytes → SpellsCharacters cs bs
quotes_spelled bytes p cs bs s part = subst (λ xs. SpellsCharacters cs xs) (sym part) s.text

module _ (doc : Doc) (d : Node) (bs : List ℕ) where
  pub string_between : (k : ℕ) (s : Span) (cs : List ℕ) → At doc k (string s cs)
      → bs ≡ between ((node_span (get_or doc.nodes k d)).from + 1) ((node_span (get_or doc.nodes k d)).to - 1) doc.bytes
      → bs ≡ between (s.from + 1) (s.to - 1) doc.bytes
  string_between k s cs a part = part ∙ ap (λ (p : Span). between (p.from + 1) (p.to - 1) doc.bytes) (span_law doc k (string s cs) d a)

  -- where a member's name stands
  name_spans_named : (t : Json) (n : ℕ) (s : Span) → slice_get (name_spans t) n ≡ Some s → (cs : List ℕ) × (slice_get (names t) n ≡ Some cs)
  name_spans_named (object r ms) n s h = go ms n h
    where
      go : (ms : Members) (n : ℕ) → slice_get (member_name_spans ms) n ≡ Some s → (cs : List ℕ) × (slice_get (member_names ms) n ≡ Some cs)
      go no_members n h = cc
      go (member p cs j ms) zero h = (cs, refl)
      go (member p cs j ms) (suc n) h = go ms n h
  name_spans_named (word r w) n s h = cc
  name_spans_named (number r ds) n s h = cc
  name_spans_named (string r cs) n s h = cc
  name_spans_named (array r js) n s h = cc

  pub name_between : (k n m : ℕ) (t u : Json) (s : Span) → ChildAt doc k t n m u → slice_get (name_spans t) n ≡ Some s
      → bs ≡ between ((place_span (get_or doc.nodes m d).name).from + 1) ((place_span (get_or doc.nodes m d).name).to - 1) doc.bytes
      → bs ≡ between (s.from + 1) (s.to - 1) doc.bytes
  name_between k n m t u s c h part =
      let named : (cs : List ℕ) × (slice_get (names t) n ≡ Some cs) = name_spans_named t n s h in
      let a : NameAt doc m n t d named.0 = name_text doc k n m t u named.0 d c named.1 in
      let same : a.place ≡ s = (let e : Some a.place ≡ Some s = sym a.here ∙ h in cc) in
      part ∙ ap (λ (p : Span). between (p.from + 1) (p.to - 1) doc.bytes) (ap place_span a.named ∙ same)
