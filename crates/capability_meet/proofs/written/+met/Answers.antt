use Rattle.std.proofs.Common.{◌≡◌, ℕ, List, ◌∷◌, ◌++◌, true, false, ap, subst, sym, ◌∙◌}
use Rattle.std.specs.Prelude.{OnOk, Some}
use Rattle.json_text.specs.declared.span.Span.{Span}
use Rattle.json_text.specs.Json.{Json, Members, object}
use Rattle.json_nodes.specs.At.{At, Found}
use Rattle.capability_meet.specs.Compact.{name_text}
use Rattle.json_nodes.proofs.ByName.{at_indexed}
use Rattle.json_nodes.proofs.Numbers.{child_at}
use Rattle.json_nodes.specs.declared.values.Values.{Values}
use Rattle.capability_meet.specs.declared.kinds.Pair.TheVariants as pair
use Rattle.capability_meet.specs.OnePass.{pairs_at, required, spot_of, text_at, twin_at}
use Rattle.capability_meet.specs.Parts.{listed}
use Rattle.json_nodes.specs.Values.{doc_of}
use Rattle.capability_meet.proofs.Meets.{Beside, found_none, found_value, pair_put, pair_skipped, twin_meets, wrapped}
use Rattle.capability_meet.proofs.Pairs.{meets_least, pair_kinds, text_arrays, text_objects, text_rest}
use Rattle.capability_meet.proofs.Walks.{members_go, members_done}
use Rattle.capability_meet.proofs.written.+met.Goals as goal

pub write_met-returns-in-Least : goal.write_met-returns-in-Least
write_met-returns-in-Least z c = λ t u a b m.
    let h : false ≡ true = meets_least t u (pair_kinds c.kind.result c.kind-2.result t u c.pair_of.result pair.Least (record { first = c.kind.ensures t a; second = c.kind-2.ensures u b }) c.pair_of.ensures c.in-Least.is) ∙ m in absurd (cc)

pub write_met-returns-in-Arrays : goal.write_met-returns-in-Arrays
write_met-returns-in-Arrays z c = λ t u a b m.
    text_arrays (λ x. OnOk c.write_array.result (c.write_array.new.out.items ≡ c.args.out.now.items ++ x)) c.args.left.bytes.now c.args.spot t u
    (pair_kinds c.kind.result c.kind-2.result t u c.pair_of.result pair.Arrays (record { first = c.kind.ensures t a; second = c.kind-2.ensures u b }) c.pair_of.ensures c.in-Arrays.is)
    (λ s r js ks e f. c.write_array.ensures s r js ks (subst (λ (v : Json). At (doc_of c.args.left) c.args.node v) e a) (subst (λ (v : Json). At (doc_of c.args.right) c.args.other v) f b))

pub write_met-returns-in-Objects : goal.write_met-returns-in-Objects
write_met-returns-in-Objects z c = λ t u a b m.
    text_objects (λ x. OnOk c.write_object.result (c.write_object.new.out.items ≡ c.args.out.now.items ++ x)) c.args.left.bytes.now c.args.spot t u
    (pair_kinds c.kind.result c.kind-2.result t u c.pair_of.result pair.Objects (record { first = c.kind.ensures t a; second = c.kind-2.ensures u b }) c.pair_of.ensures c.in-Objects.is)
    (λ s r ms ns e f. c.write_object.ensures s r ms ns (subst (λ (v : Json). At (doc_of c.args.left) c.args.node v) e a) (subst (λ (v : Json). At (doc_of c.args.right) c.args.other v) f b))

pub write_met-returns-in-Others : goal.write_met-returns-in-Others
write_met-returns-in-Others z c = λ t u a b m.
    text_rest (λ x. OnOk c.write_compact.result (c.write_compact.new.out.items ≡ c.args.out.now.items ++ x)) c.args.left.bytes.now c.args.spot t u
    (pair_kinds c.kind.result c.kind-2.result t u c.pair_of.result pair.Others (record { first = c.kind.ensures t a; second = c.kind-2.ensures u b }) c.pair_of.ensures c.in-Others.is) m (c.write_compact.ensures t a)

pub write_object-returns : goal.write_object-returns
write_object-returns z c = λ s r ms ns a b.
    let first = at_indexed c.new-left.result c.args.left c.args.node (object s ms) c.new-left.ensures.values c.new-left.ensures.node a in
    let second = at_indexed c.new-right.result c.args.right c.args.other (object r ns) c.new-right.ensures.values c.new-right.ensures.node b in
    let bytes : c.new-left.result.values.bytes.now ≡ c.args.left.bytes.now = ap (λ (v : Values). v.bytes.now) c.new-left.ensures.values in
    subst (λ (x : List ℕ). OnOk c.write-2.result (c.write-2.new.out.items ≡ x)) (wrapped c.args.out.now.items c.write.new.out.items c.write_lacking.new.out.items (listed false (pairs_at c.args.left.bytes.now c.args.spot ms ns ++ required c.args.spot ms ns)) 123 125 c.in_ok-write.ensures
    (c.in_ok-write_lacking.ensures s r ms ns first second ∙ (c.in_ok-started.ensures s r ms ns (required c.args.spot ms ns) first second ∙ ap (λ bs. c.write.new.out.items ++ listed false (pairs_at bs c.args.spot ms ns ++ required c.args.spot ms ns)) bytes))) c.write-2.ensures

pub write_pair-returns-in_default : goal.write_pair-returns-in_default
write_pair-returns-in_default z c = λ n s p r ms rest ns cs u more m g h e a.
    pair_skipped c.args.out.now.items (λ v. name_text c.args.left.now.values.bytes.now p cs ++ (58 ∷ text_at c.args.left.now.values.bytes.now (spot_of c.args.spot cs) u v)) (pairs_at c.args.left.now.values.bytes.now c.args.spot rest ns) more c.args.started (twin_at c.args.spot cs u rest ns)
    (found_none (doc_of c.args.right.now.values) (twin_at c.args.spot cs u rest ns) c.twin_of.result (subst (λ (x : Members). Found (doc_of c.args.right.now.values) (twin_at c.args.spot cs u x ns) c.twin_of.result) (sym e) (c.twin_of.ensures.twin n s r ms ns cs u m g a)) c.in_default.is)

pub write_pair-returns : goal.write_pair-returns
write_pair-returns z c = λ n s p r ms rest ns cs u more m g h e a.
    let v : (v : Json) × (twin_at c.args.spot cs u rest ns ≡ Some v) × At (doc_of c.args.right.now.values) c.in-Some.twin v = found_value (doc_of c.args.right.now.values) (twin_at c.args.spot cs u rest ns) c.twin_of.result c.in-Some.twin (subst (λ (x : Members). Found (doc_of c.args.right.now.values) (twin_at c.args.spot cs u x ns) c.twin_of.result) (sym e) (c.twin_of.ensures.twin n s r ms ns cs u m g a)) c.in-Some.is in
    pair_put c.args.out.now.items c.write_comma.new.out.items c.write_name.new.out.items c.write_met.new.out.items (name_text c.args.left.now.values.bytes.now p cs) (text_at c.args.left.now.values.bytes.now c.spot_of-inner.result u v.0)
    (λ v. name_text c.args.left.now.values.bytes.now p cs ++ (58 ∷ text_at c.args.left.now.values.bytes.now (spot_of c.args.spot cs) u v)) (pairs_at c.args.left.now.values.bytes.now c.args.spot rest ns) more c.args.started (twin_at c.args.spot cs u rest ns) v.0 v.1
    c.in_ok-write_comma.ensures (c.in_ok-write_name.ensures c.args.left.now.node n s p ms rest cs u m h) (c.in_ok-write_met.ensures u v.0 (child_at m) v.2 (twin_meets c.args.spot cs u v.0 rest ns v.1))
    (ap (λ x. name_text c.args.left.now.values.bytes.now p cs ++ (58 ∷ text_at c.args.left.now.values.bytes.now x u v.0)) (sym (c.spot_of-inner.ensures cs (c.name.ensures.spelled c.args.left.now.node n (object s ms) u cs m g))))

pub write_pairs-loop-next-preserved : goal.write_pairs-loop-next-preserved
write_pairs-loop-next-preserved z c =
    members_go (doc_of c.args.left.now.values) c.args.left.now.node (λ (b : Beside). (r : Span) × At (doc_of c.args.right.now.values) c.args.right.now.node (object r b.others)) _ (λ b ms. c.loop-next.out.items ++ listed c.loop-next.started (pairs_at c.args.left.now.values.bytes.now c.args.spot ms b.others ++ b.more)) (λ b ms. c.write_pair.new.out.items ++ listed c.in_ok-started.started (pairs_at c.args.left.now.values.bytes.now c.args.spot ms b.others ++ b.more))
    c.loop-next.next c.next-next.result c.in-Some.pair c.loop-next.invariant c.in-Some.is
    (λ k n t u a. c.next-next.ensures.next k n t u a) c.next-next.ensures.inside
    (λ b k s ms p cs u rest w. sym (c.in_ok-started.ensures w.count s p k.0 ms rest b.others cs u b.more w.child w.name w.here w.after k.1))

pub write_pairs-returns : goal.write_pairs-returns
write_pairs-returns z c = λ s r ms ns more a b. members_done (doc_of c.args.left.now.values) c.args.left.now.node (λ (b : Beside). (r : Span) × At (doc_of c.args.right.now.values) c.args.right.now.node (object r b.others)) (λ b ms. c.args.out.now.items ++ listed false (pairs_at c.args.left.now.values.bytes.now c.args.spot ms b.others ++ b.more)) (λ b ms. c.loop-next.out.items ++ listed c.loop-next.started (pairs_at c.args.left.now.values.bytes.now c.args.spot ms b.others ++ b.more)) c.loop-next.next c.loop-next.invariant c.in_default.is (record { others = ns; more = more }) (r, b) s ms a
