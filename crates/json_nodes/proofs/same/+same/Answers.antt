use Rattle.std.proofs.Common.{refl, sym, ◌+◌, ◌≡◌, ◌∙◌, ap, subst, ◌&&◌}
use Rattle.json_text.specs.declared.kind.Kind.{Kind}
use Rattle.json_text.specs.declared.kind.Kind.TheVariants as kind
use Rattle.json_text.specs.Json.{Json, object, number}
use Rattle.json_text.specs.Named.{named}
use Rattle.json_nodes.specs.Values.{doc_of}
use Rattle.json_nodes.specs.At.{At}
use Rattle.json_nodes.specs.Doc.{Doc}
use Rattle.json_nodes.specs.Nodes.{kind_of}
use Rattle.json_nodes.specs.Same.{drop_members, names_within, same_members}
use Rattle.json_nodes.proofs.ByName.{at_indexed}
use Rattle.json_nodes.proofs.Numbers.{child_at}
use Rattle.json_nodes.proofs.Sames.{none_answer, same_words, comparing_on, comparing_differs, comparing_longer, comparing_ends, walk_on, walk_fails, walk_holds, members_by, members_first, member_later, member_last, member_missing, other_kind, second_kind, same_numbers, same_strings, same_arrays, same_objects}
use Rattle.json_nodes.proofs.Spelling.{decided}
use Rattle.json_nodes.proofs.same.+same.Goals as goal
use Rattle.json_nodes.proofs.same.+same.Goals.{same_objects-then-same_members, same_objects-else-same_members}

pub same_items-returns-in_default-beside : goal.same_items-returns-in_default-beside
same_items-returns-in_default-beside t c =
    let d : Doc = doc_of c.args.left in
    let e : Doc = doc_of c.args.right in
    comparing_longer d e c.args.node c.args.other c.in-Some.item c.loop-next.next c.loop-next.beside c.loop-next.invariant c.in-Some.is c.in_default-beside.is

pub same_items-returns-then-not-same_values : goal.same_items-returns-then-not-same_values
same_items-returns-then-not-same_values t c =
    let d : Doc = doc_of c.args.left in
    let e : Doc = doc_of c.args.right in
    comparing_differs d e c.args.node c.args.other c.in-Some.item c.in-Some-beside.twin c.loop-next.next c.loop-next.beside c.same_values.result c.loop-next.invariant c.in-Some.is c.in-Some-beside.is c.same_values.ensures c.if-not-same_values.true

pub same_items-loop-next-preserved : goal.same_items-loop-next-preserved
same_items-loop-next-preserved t c =
    let d : Doc = doc_of c.args.left in
    let e : Doc = doc_of c.args.right in
    comparing_on d e c.args.node c.args.other c.in-Some.item c.in-Some-beside.twin c.loop-next.next c.loop-next.beside c.next-next.result c.next-beside.result c.same_values.result c.loop-next.invariant c.in-Some.is c.in-Some-beside.is c.same_values.ensures c.if-not-same_values.false
    (λ k n t u a. c.next-next.ensures.next k n t u a) c.next-next.ensures.inside
    (λ k n t u a. c.next-beside.ensures.next k n t u a) c.next-beside.ensures.inside

pub same_items-returns : goal.same_items-returns
same_items-returns t c =
    let d : Doc = doc_of c.args.left in
    let e : Doc = doc_of c.args.right in
    λ s r js ks a b. none_answer c.is_none.result c.loop-next.beside c.is_none.ensures ∙ comparing_ends d e c.args.node c.args.other c.loop-next.next c.loop-next.beside c.loop-next.invariant c.in_default.is s r js ks a b

pub same_members-returns : goal.same_members-returns
same_members-returns t c = walk_holds (doc_of c.args.left.now.values) (doc_of c.args.right.now.values) c.args.left.now.node c.args.right.now.node same_members c.loop-next.next (λ ns. refl) c.loop-next.invariant c.in_default.is

pub same_values-returns-then-not-same_kind : goal.same_values-returns-then-not-same_kind
same_values-returns-then-not-same_kind z c =
    λ t u a b. other_kind c.kind-kind.result c.kind.result t u (c.kind-kind.ensures t a) (c.kind.ensures u b) (sym c.same_kind.ensures ∙ c.if-not-same_kind.true)

pub same_values-returns-in-Null : goal.same_values-returns-in-Null
same_values-returns-in-Null z c = λ t u a b.
    let first : c.kind-kind.result ≡ kind_of t = c.kind-kind.ensures t a in
    let second : (k : Kind) → c.kind-kind.result ≡ k → kind_of u ≡ k = second_kind c.kind-kind.result c.kind.result u (c.kind.ensures u b) (sym c.same_kind.ensures ∙ c.if-not-same_kind.false) in
    same_words c.kind-kind.result t u first second c.in-Null.is

pub same_values-returns-in-Number : goal.same_values-returns-in-Number
same_values-returns-in-Number z c = λ t u a b.
    let d : Doc = doc_of c.args.left in
    let e : Doc = doc_of c.args.right in
    let first : kind_of t ≡ kind.Number = sym (c.kind-kind.ensures t a) ∙ c.in-Number.is in
    let second : kind_of u ≡ kind.Number = second_kind c.kind-kind.result c.kind.result u (c.kind.ensures u b) (sym c.same_kind.ensures ∙ c.if-not-same_kind.false) kind.Number c.in-Number.is in
    c.eq.ensures ∙ same_numbers t u c.bytes.result.now c.bytes-in-Number.result.now first second
    (λ s ds p. (c.bytes.ensures.spelled (number s ds) (subst (λ (v : Json). At d c.args.node v) p a)).0.0)
    (λ s ds p. (c.bytes-in-Number.ensures.spelled (number s ds) (subst (λ (v : Json). At e c.args.other v) p b)).0.0)

pub same_values-returns-in-Text : goal.same_values-returns-in-Text
same_values-returns-in-Text z c = λ t u a b.
    let d : Doc = doc_of c.args.left in
    let e : Doc = doc_of c.args.right in
    let first : kind_of t ≡ kind.Text = sym (c.kind-kind.ensures t a) ∙ c.in-Text.is in
    let second : kind_of u ≡ kind.Text = second_kind c.kind-kind.result c.kind.result u (c.kind.ensures u b) (sym c.same_kind.ensures ∙ c.if-not-same_kind.false) kind.Text c.in-Text.is in
    same_strings t u c.same_characters.result first second
    (λ s r cs ds p q. decided c.same_characters.result cs ds (c.same_characters.ensures.strings cs ds (c.string.ensures.spelled s cs (subst (λ (v : Json). At d c.args.node v) p a)) (c.string-in-Text.ensures.spelled r ds (subst (λ (v : Json). At e c.args.other v) q b))))

pub same_values-returns-in-Array : goal.same_values-returns-in-Array
same_values-returns-in-Array z c = λ t u a b.
    let d : Doc = doc_of c.args.left in
    let e : Doc = doc_of c.args.right in
    let first : kind_of t ≡ kind.Array = sym (c.kind-kind.ensures t a) ∙ c.in-Array.is in
    let second : kind_of u ≡ kind.Array = second_kind c.kind-kind.result c.kind.result u (c.kind.ensures u b) (sym c.same_kind.ensures ∙ c.if-not-same_kind.false) kind.Array c.in-Array.is in
    same_arrays t u c.same_items.result first second
    (λ s r js ks p q. c.same_items.ensures s r js ks (subst (λ (v : Json). At d c.args.node v) p a) (subst (λ (v : Json). At e c.args.other v) q b))

pub same_values-returns-in-Object : goal.same_values-returns-in-Object
same_values-returns-in-Object z c = λ t u a b.
    let d : Doc = doc_of c.args.left in
    let e : Doc = doc_of c.args.right in
    let first : kind_of t ≡ kind.Object = sym (c.kind-kind.ensures t a) ∙ c.in-Object.is in
    let second : kind_of u ≡ kind.Object = second_kind c.kind-kind.result c.kind.result u (c.kind.ensures u b) (sym c.same_kind.ensures ∙ c.if-not-same_kind.false) kind.Object c.in-Object.is in
    same_objects t u c.same_objects.result first second
    (λ s r ms ns p q. c.same_objects.ensures s r ms ns (subst (λ (v : Json). At d c.args.node v) p a) (subst (λ (v : Json). At e c.args.other v) q b))

pub same_member-returns-then-not-is_last : goal.same_member-returns-then-not-is_last
same_member-returns-then-not-is_last t c = λ n s r u ms ns cs m g a.
    member_later c.is_last.result (named cs (drop_members (n + 1) ms)) (named cs ns) u (c.is_last.ensures n s u ms cs m g) c.if-not-is_last.true

pub same_member-returns-in-Some : goal.same_member-returns-in-Some
same_member-returns-in-Some t c = λ n s r u ms ns cs m g a.
    member_last (doc_of c.args.left.now.values) (doc_of c.args.right.now.values) (named cs (drop_members (n + 1) ms)) (named cs ns) c.args.member c.in-Some.twin u c.is_last.result c.last_named.result c.same_values.result
    (c.is_last.ensures n s u ms cs m g) c.if-not-is_last.false (child_at m)
    (c.last_named.ensures.named r ns cs a (c.name.ensures.spelled c.args.left.now.node n (object s ms) u cs m g)) c.in-Some.is c.same_values.ensures

pub same_member-returns-in-None : goal.same_member-returns-in-None
same_member-returns-in-None t c = λ n s r u ms ns cs m g a.
    member_missing (doc_of c.args.right.now.values) (named cs (drop_members (n + 1) ms)) (named cs ns) u c.is_last.result c.last_named.result
    (c.is_last.ensures n s u ms cs m g) c.if-not-is_last.false
    (c.last_named.ensures.named r ns cs a (c.name.ensures.spelled c.args.left.now.node n (object s ms) u cs m g)) c.in-None.is

pub same_members-returns-then-not-same_member : goal.same_members-returns-then-not-same_member
same_members-returns-then-not-same_member t c =
    walk_fails (doc_of c.args.left.now.values) (doc_of c.args.right.now.values) c.args.left.now.node c.args.right.now.node same_members members_first c.in-Some.member c.loop-next.next c.same_member.result members_by c.loop-next.invariant c.in-Some.is
    (λ s r ms ns a n u cs m g. c.same_member.ensures n s r u ms ns cs m g a) c.if-not-same_member.true

pub same_members-loop-next-preserved : goal.same_members-loop-next-preserved
same_members-loop-next-preserved t c =
    walk_on (doc_of c.args.left.now.values) (doc_of c.args.right.now.values) c.args.left.now.node c.args.right.now.node same_members members_first c.in-Some.member c.loop-next.next c.next-next.result c.same_member.result members_by c.loop-next.invariant c.in-Some.is
    (λ s r ms ns a n u cs m g. c.same_member.ensures n s r u ms ns cs m g a) c.if-not-same_member.false
    (λ k n t u a. c.next-next.ensures.next k n t u a) c.next-next.ensures.inside

pub same_objects-returns : goal.same_objects-returns
same_objects-returns z c = λ s r ms ns a b.
    let first = at_indexed c.new-left.result c.args.left c.args.node (object s ms) c.new-left.ensures.values c.new-left.ensures.node a in
    let second = at_indexed c.new-right.result c.args.right c.args.other (object r ns) c.new-right.ensures.values c.new-right.ensures.node b in
    elim c.if-same_members.branch [
      | same_objects-then-same_members w ↦ w.result-is ∙ w.names_within.ensures r s ns ms second first ∙ ap (λ x. x && names_within ns ms) (sym w.if-same_members.true ∙ c.same_members.ensures s r ms ns first second)
      | same_objects-else-same_members w ↦ w.result-is ∙ w.if-same_members.false ∙ ap (λ x. x && names_within ns ms) (sym w.if-same_members.false ∙ c.same_members.ensures s r ms ns first second)
    ]
