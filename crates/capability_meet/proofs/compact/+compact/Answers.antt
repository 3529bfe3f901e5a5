use Rattle.std.proofs.Common.{◌≡◌, ℕ, List, ◌++◌, true, false, refl, subst, sym, ◌∙◌, append-nil}
use Rattle.std.specs.Prelude.{OnOk}
use Rattle.json_text.specs.declared.span.Span.{Span}
use Rattle.json_text.specs.Json.{Json, Items, Members, array, object, span_of}
use Rattle.json_nodes.specs.At.{At}
use Rattle.json_nodes.proofs.Numbers.{child_at}
use Rattle.capability_meet.specs.Compact.{compact, compact_items, compact_members, name_text}
use Rattle.capability_meet.specs.Parts.{listed}
use Rattle.json_nodes.specs.Values.{doc_of}
use Rattle.capability_meet.proofs.Compacts.{is_array, is_leaf, is_object, leaf_text, member_written}
use Rattle.capability_meet.proofs.Meets.{wrapped}
use Rattle.capability_meet.proofs.Pieces.{piece_put}
use Rattle.capability_meet.proofs.Walks.{items_go, items_done, members_go, members_done}
use Rattle.capability_meet.proofs.compact.+compact.Goals as goal

pub write_compact-returns-in-Array : goal.write_compact-returns-in-Array
write_compact-returns-in-Array z c = λ t a.
    let k : (s : Span) × (js : Items) × (t ≡ array s js) = is_array t (sym (c.kind.ensures t a) ∙ c.in-Array.is) in
    subst (λ (x : Json). OnOk c.write_array.result (c.write_array.new.out.items ≡ c.args.out.now.items ++ compact c.args.values.bytes.now x)) (sym k.2) (c.write_array.ensures k.0 k.1 (subst (λ (x : Json). At (doc_of c.args.values) c.args.node x) k.2 a))

pub write_compact-returns-in-Object : goal.write_compact-returns-in-Object
write_compact-returns-in-Object z c = λ t a.
    let k : (s : Span) × (ms : Members) × (t ≡ object s ms) = is_object t (sym (c.kind.ensures t a) ∙ c.in-Object.is) in
    subst (λ (x : Json). OnOk c.write_object.result (c.write_object.new.out.items ≡ c.args.out.now.items ++ compact c.args.values.bytes.now x)) (sym k.2) (c.write_object.ensures k.0 k.1 (subst (λ (x : Json). At (doc_of c.args.values) c.args.node x) k.2 a))

pub write_compact-returns-in_default : goal.write_compact-returns-in_default
write_compact-returns-in_default z c = λ t a.
    subst (λ (x : List ℕ). OnOk c.write.result (c.write.new.out.items ≡ c.args.out.now.items ++ x))
    (leaf_text c.args.values.bytes.now c.bytes.result.now (span_of t).from t
    (is_leaf t (λ e. c.in_default.not-Array (c.kind.ensures t a ∙ e)) (λ e. c.in_default.not-Object (c.kind.ensures t a ∙ e)))
    (c.bytes.ensures.place t a) (c.bytes.ensures.spelled t a))
    c.write.ensures

pub write_array-returns : goal.write_array-returns
write_array-returns z c = λ s js a.
    subst (λ (x : List ℕ). OnOk c.write-2.result (c.write-2.new.out.items ≡ x)) (wrapped c.args.out.now.items c.write.new.out.items c.write_items.new.out.items (listed false (compact_items c.args.values.bytes.now js)) 91 93 c.in_ok-write.ensures (c.in_ok-write_items.ensures s js a)) c.write-2.ensures

pub write_object-returns : goal.write_object-returns
write_object-returns z c = λ s ms a.
    subst (λ (x : List ℕ). OnOk c.write-2.result (c.write-2.new.out.items ≡ x)) (wrapped c.args.out.now.items c.write.new.out.items c.write_members.new.out.items (listed false (compact_members c.args.values.bytes.now ms)) 123 125 c.in_ok-write.ensures (c.in_ok-write_members.ensures s ms a)) c.write-2.ensures

pub write_items-loop-next-preserved : goal.write_items-loop-next-preserved
write_items-loop-next-preserved z c =
    items_go (doc_of c.args.values) c.args.node (λ (i : Unit {0}). Unit {0}) _ (λ i js. c.loop-next.out.items ++ listed c.loop-next.started (compact_items c.args.values.bytes.now js)) (λ i js. c.write_compact.new.out.items ++ listed true (compact_items c.args.values.bytes.now js))
    c.loop-next.next c.next-next.result c.in-Some.item c.loop-next.invariant c.in-Some.is
    (λ k n t u a. c.next-next.ensures.next k n t u a) c.next-next.ensures.inside
    (λ i k u rest m. sym (piece_put c.loop-next.out.items c.write_comma.new.out.items c.write_compact.new.out.items (compact c.args.values.bytes.now u) (compact c.args.values.bytes.now u) (compact_items c.args.values.bytes.now rest) c.loop-next.started
    c.in_ok-write_comma.ensures (c.in_ok-write_compact.ensures u m) refl))

pub write_items-returns : goal.write_items-returns
write_items-returns z c = λ s js a. sym (append-nil c.loop-next.out.items) ∙ items_done (doc_of c.args.values) c.args.node (λ (i : Unit {0}). Unit {0}) (λ i js. c.args.out.now.items ++ listed false (compact_items c.args.values.bytes.now js)) (λ i js. c.loop-next.out.items ++ listed c.loop-next.started (compact_items c.args.values.bytes.now js)) c.loop-next.next c.loop-next.invariant c.in_default.is tt tt s js a

pub write_members-loop-next-preserved : goal.write_members-loop-next-preserved
write_members-loop-next-preserved z c =
    members_go (doc_of c.args.values) c.args.node (λ (i : Unit {0}). Unit {0}) _ (λ i ms. c.loop-next.out.items ++ listed c.loop-next.started (compact_members c.args.values.bytes.now ms)) (λ i ms. c.write_compact.new.out.items ++ listed true (compact_members c.args.values.bytes.now ms))
    c.loop-next.next c.next-next.result c.in-Some.pair c.loop-next.invariant c.in-Some.is
    (λ k n t u a. c.next-next.ensures.next k n t u a) c.next-next.ensures.inside
    (λ i k s ms p cs u rest w. sym (member_written c.loop-next.out.items c.write_comma.new.out.items c.write_name.new.out.items c.write_compact.new.out.items (name_text c.args.values.bytes.now p cs) (compact c.args.values.bytes.now u) (compact_members c.args.values.bytes.now rest) c.loop-next.started
    c.in_ok-write_comma.ensures (c.in_ok-write_name.ensures c.args.node w.count s p ms rest cs u w.child w.here) (c.in_ok-write_compact.ensures u (child_at w.child))))

pub write_members-returns : goal.write_members-returns
write_members-returns z c = λ s ms a. sym (append-nil c.loop-next.out.items) ∙ members_done (doc_of c.args.values) c.args.node (λ (i : Unit {0}). Unit {0}) (λ i ms. c.args.out.now.items ++ listed false (compact_members c.args.values.bytes.now ms)) (λ i ms. c.loop-next.out.items ++ listed c.loop-next.started (compact_members c.args.values.bytes.now ms)) c.loop-next.next c.loop-next.invariant c.in_default.is tt tt s ms a
