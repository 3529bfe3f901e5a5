use Rattle.std.proofs.Common.{ℕ, List, ◌||◌, ◌∙◌, sym, ap}
use Rattle.std.specs.Prelude.{bytes_eq}
use Rattle.json_nodes.specs.Values.{doc_of}
use Rattle.capability_meet.specs.IndexedArray.{any_text, has_text}
use Rattle.capability_meet.specs.ValueText.{value_text}
use Rattle.capability_meet.proofs.Lists.{no_text, or_false, text_turn}
use Rattle.capability_meet.proofs.Walks.{items_begin, items_go, items_done}
use Rattle.capability_meet.proofs.indexed_array.item_texts.Goals as goal

pub loop-next-init : goal.loop-next-init
loop-next-init c = items_begin (doc_of c.args.values) c.args.node (λ (text : List ℕ). Unit {0}) any_text (λ text ks. has_text c.new-texts.result text || any_text text ks) c.first-next.result
    (λ t a. c.first-next.ensures.first t a) c.first-next.ensures.inside (λ text ks. sym (ap (λ b. b || any_text text ks) (no_text c.new-texts.result c.new-texts.ensures.empty text)))

pub loop-next-preserved : goal.loop-next-preserved
loop-next-preserved c = items_go (doc_of c.args.values) c.args.node (λ (text : List ℕ). Unit {0}) any_text (λ text ks. has_text c.loop-next.texts text || any_text text ks) (λ text ks. has_text c.add_text.new.texts text || any_text text ks) c.loop-next.next c.next-next.result c.in-Some.item c.loop-next.invariant c.in-Some.is
    (λ k n t u a. c.next-next.ensures.next k n t u a) c.next-next.ensures.inside
    (λ text g u rest m. text_turn (bytes_eq text (value_text u)) (has_text c.loop-next.texts text) (has_text c.add_text.new.texts text) (any_text text rest) (c.in_ok-add_text.ensures u m text))

pub returns : goal.returns
returns c = λ s ks text a. sym (or_false (has_text c.loop-next.texts text)) ∙ items_done (doc_of c.args.values) c.args.node (λ (text : List ℕ). Unit {0}) any_text (λ text ks. has_text c.loop-next.texts text || any_text text ks) c.loop-next.next c.loop-next.invariant c.in_default.is text tt s ks a
