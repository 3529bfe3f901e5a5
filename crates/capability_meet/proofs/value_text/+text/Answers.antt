use Rattle.std.proofs.Common.{◌≡◌, ℕ, List, [], ◌++◌, ◌∷◌, length, sym, ◌∙◌, ap, subst}
use Rattle.std.specs.Prelude.{OnOk}
use Rattle.json_text.specs.declared.kind.Word.TheVariants as word_of
use Rattle.json_text.specs.declared.span.Span.{Span}
use Rattle.json_text.specs.Json.{Json, Items, Members, word, number, string, array, object}
use Rattle.json_nodes.specs.At.{At}
use Rattle.json_nodes.specs.Values.{doc_of}
use Rattle.json_nodes.proofs.Sames.{array_of, number_of, object_of, string_of, word_false, word_null, word_true}
use Rattle.capability_meet.specs.NamedValues.{AreBetween, Entry}
use Rattle.capability_meet.specs.ValueText.{items_text, marked, pairs_text, pairs_with, value_text}
use Rattle.capability_meet.proofs.NamedPairs.{PairsLeft, one_written}
use Rattle.capability_meet.proofs.Pieces.{behind_byte, byte_and_piece}
use Rattle.capability_meet.proofs.Walks.{items_done, items_go}
use Rattle.capability_meet.proofs.value_text.+text.Goals as goal

pub write_text-returns-in-Null : goal.write_text-returns-in-Null
write_text-returns-in-Null z c = λ t a.
    let k : (s : Span) × (t ≡ word s word_of.Null) = word_null t (sym (c.kind.ensures t a) ∙ c.in-Null.is) in
    subst (λ (x : List ℕ). OnOk c.write.result (c.write.new.out.items ≡ c.args.out.now.items ++ x)) (sym (ap value_text k.1)) c.write.ensures

pub write_text-returns-in-False : goal.write_text-returns-in-False
write_text-returns-in-False z c = λ t a.
    let k : (s : Span) × (t ≡ word s word_of.False) = word_false t (sym (c.kind.ensures t a) ∙ c.in-False.is) in
    subst (λ (x : List ℕ). OnOk c.write-in-False.result (c.write-in-False.new.out.items ≡ c.args.out.now.items ++ x)) (sym (ap value_text k.1)) c.write-in-False.ensures

pub write_text-returns-in-True : goal.write_text-returns-in-True
write_text-returns-in-True z c = λ t a.
    let k : (s : Span) × (t ≡ word s word_of.True) = word_true t (sym (c.kind.ensures t a) ∙ c.in-True.is) in
    subst (λ (x : List ℕ). OnOk c.write-in-True.result (c.write-in-True.new.out.items ≡ c.args.out.now.items ++ x)) (sym (ap value_text k.1)) c.write-in-True.ensures

pub write_text-returns-in-Number : goal.write_text-returns-in-Number
write_text-returns-in-Number z c = λ t a.
    let k : (s : Span) × (x : List ℕ) × (t ≡ number s x) = number_of t (sym (c.kind.ensures t a) ∙ c.in-Number.is) in
    subst (λ (x : Json). OnOk c.write_number.result (c.write_number.new.out.items ≡ c.args.out.now.items ++ value_text x)) (sym k.2) (c.write_number.ensures k.0 k.1 (subst (λ (v : Json). At (doc_of c.args.values) c.args.node v) k.2 a))

pub write_text-returns-in-Text : goal.write_text-returns-in-Text
write_text-returns-in-Text z c = λ t a.
    let k : (s : Span) × (x : List ℕ) × (t ≡ string s x) = string_of t (sym (c.kind.ensures t a) ∙ c.in-Text.is) in
    subst (λ (x : Json). OnOk c.write_string.result (c.write_string.new.out.items ≡ c.args.out.now.items ++ value_text x)) (sym k.2) (c.write_string.ensures k.0 k.1 (subst (λ (v : Json). At (doc_of c.args.values) c.args.node v) k.2 a))

pub write_text-returns-in-Array : goal.write_text-returns-in-Array
write_text-returns-in-Array z c = λ t a.
    let k : (s : Span) × (x : Items) × (t ≡ array s x) = array_of t (sym (c.kind.ensures t a) ∙ c.in-Array.is) in
    subst (λ (x : Json). OnOk c.write_items.result (c.write_items.new.out.items ≡ c.args.out.now.items ++ value_text x)) (sym k.2) (c.write_items.ensures k.0 k.1 (subst (λ (v : Json). At (doc_of c.args.values) c.args.node v) k.2 a))

pub write_text-returns-in-Object : goal.write_text-returns-in-Object
write_text-returns-in-Object z c = λ t a.
    let k : (s : Span) × (x : Members) × (t ≡ object s x) = object_of t (sym (c.kind.ensures t a) ∙ c.in-Object.is) in
    subst (λ (x : Json). OnOk c.write_object.result (c.write_object.new.out.items ≡ c.args.out.now.items ++ value_text x)) (sym k.2) (c.write_object.ensures k.0 k.1 (subst (λ (v : Json). At (doc_of c.args.values) c.args.node v) k.2 a))

pub write_items-loop-next-preserved : goal.write_items-loop-next-preserved
write_items-loop-next-preserved z c =
    items_go (doc_of c.args.values) c.args.node (λ (i : Unit {0}). Unit {0}) _ (λ i js. c.loop-next.out.items ++ items_text js) (λ i js. c.write_text.new.out.items ++ items_text js)
    c.loop-next.next c.next-next.result c.in-Some.item c.loop-next.invariant c.in-Some.is
    (λ k n t u a. c.next-next.ensures.next k n t u a) c.next-next.ensures.inside
    (λ i k u rest m. byte_and_piece 1 c.loop-next.out.items c.write-in-Some.new.out.items c.write_text.new.out.items (value_text u) (items_text rest) c.in_ok-write-2.ensures (c.in_ok-write_text.ensures u m))

pub write_items-returns : goal.write_items-returns
write_items-returns z c = λ s js a.
    subst (λ (x : List ℕ). OnOk c.write-2.result (c.write-2.new.out.items ≡ x))
    (items_done (doc_of c.args.values) c.args.node (λ (i : Unit {0}). Unit {0}) (λ i js. c.write.new.out.items ++ items_text js) (λ i js. c.loop-next.out.items ++ items_text js) c.loop-next.next c.loop-next.invariant c.in_default.is tt tt s js a
    ∙ behind_byte 91 c.args.out.now.items c.write.new.out.items (items_text js) c.in_ok-write.ensures)
    c.write-2.ensures

pub write_object-returns : goal.write_object-returns
write_object-returns z c = λ s ms a.
    subst (λ (x : List ℕ). OnOk c.write_pairs.result (c.write_pairs.new.out.items ≡ x))
    (behind_byte 123 c.args.out.now.items c.write.new.out.items (pairs_text (pairs_with [] ms)) c.in_ok-write.ensures)
    (c.write_pairs.ensures (pairs_with [] ms) (c.in_ok-last.ensures.pairs s ms a))

pub write_pairs-loop-name-preserved : goal.write_pairs-loop-name-preserved
write_pairs-loop-name-preserved z c =
    let is : c.loop-name.name-iterator ≡ (c.in-Some.name.now, c.in-Some.member.now) ∷ c.next.new.self = c.in-Some.ensures.steps in
    let inside = subst (λ (es : List Entry). AreBetween c.args.node (length c.args.values.nodes.now) es) is c.loop-name.invariant.0 in (
      inside.2,
      λ ps a.
          one_written (doc_of c.args.values) (c.in-Some.name.now, c.in-Some.member.now) c.next.new.self c.loop-name.out.items c.write.new.out.items c.write_marked.new.out.items c.write_text.new.out.items (c.args.out.now.items ++ pairs_text ps)
          (subst (λ (es : List Entry). PairsLeft (doc_of c.args.values) es c.loop-name.out.items (c.args.out.now.items ++ pairs_text ps)) is (c.loop-name.invariant.1 ps a))
          c.in_ok-write.ensures (subst (λ (y : List ℕ). c.write_marked.new.out.items ≡ c.write.new.out.items ++ marked y) c.as_slice.ensures.value c.in_ok-write_marked.ensures) (λ t h. c.in_ok-write_text.ensures t h),
    )
