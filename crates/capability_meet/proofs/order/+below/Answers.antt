use Rattle.std.proofs.Common.{◌+◌, false, ◌&&◌, ◌||◌, sym, ◌∙◌, ap, subst}
use Rattle.json_text.specs.declared.span.Span.{Span}
use Rattle.json_text.specs.Json.{Json, object}
use Rattle.json_text.specs.Named.{named}
use Rattle.json_nodes.specs.At.{At}
use Rattle.json_nodes.specs.Same.{drop_members, has_name, if_some}
use Rattle.json_nodes.proofs.ByName.{at_indexed}
use Rattle.json_nodes.proofs.Numbers.{child_at}
use Rattle.capability_meet.specs.Order.{below, is_least, members_below}
use Rattle.json_nodes.specs.Values.{doc_of}
use Rattle.capability_meet.proofs.MemberBelow.{member_later, member_first, member_least, member_more, member_twin, member_missing}
use Rattle.capability_meet.specs.declared.kinds.Pair.TheVariants as pair
use Rattle.capability_meet.proofs.Pairs.{below_arrays, below_least, below_objects, below_others, pair_kinds}
use Rattle.capability_meet.proofs.Walks.{members_go, members_stop, members_done}
use Rattle.capability_meet.proofs.order.+below.Goals as goal

pub values_below-returns-in-Least : goal.values_below-returns-in-Least
values_below-returns-in-Least z c = λ t u a b.
    below_least t u (pair_kinds c.kind.result c.kind-2.result t u c.pair_of.result pair.Least (record { first = c.kind.ensures t a; second = c.kind-2.ensures u b }) c.pair_of.ensures c.in-Least.is)

pub values_below-returns-in-Arrays : goal.values_below-returns-in-Arrays
values_below-returns-in-Arrays z c = λ t u a b.
    below_arrays t u c.items_below.result (pair_kinds c.kind.result c.kind-2.result t u c.pair_of.result pair.Arrays (record { first = c.kind.ensures t a; second = c.kind-2.ensures u b }) c.pair_of.ensures c.in-Arrays.is)
    (λ s r js ks e f. c.items_below.ensures s r js ks (subst (λ (v : Json). At (doc_of c.args.left) c.args.node v) e a) (subst (λ (v : Json). At (doc_of c.args.right) c.args.other v) f b))

pub values_below-returns-in-Objects : goal.values_below-returns-in-Objects
values_below-returns-in-Objects z c = λ t u a b.
    below_objects t u c.objects_below.result (pair_kinds c.kind.result c.kind-2.result t u c.pair_of.result pair.Objects (record { first = c.kind.ensures t a; second = c.kind-2.ensures u b }) c.pair_of.ensures c.in-Objects.is)
    (λ s r ms ns e f. c.objects_below.ensures s r ms ns (subst (λ (v : Json). At (doc_of c.args.left) c.args.node v) e a) (subst (λ (v : Json). At (doc_of c.args.right) c.args.other v) f b))

pub values_below-returns-in-Others : goal.values_below-returns-in-Others
values_below-returns-in-Others z c = λ t u a b.
    below_others t u c.same.result (pair_kinds c.kind.result c.kind-2.result t u c.pair_of.result pair.Others (record { first = c.kind.ensures t a; second = c.kind-2.ensures u b }) c.pair_of.ensures c.in-Others.is) (c.same.ensures.test t u a b)

pub member_below-returns-then-not-is_last : goal.member_below-returns-then-not-is_last
member_below-returns-then-not-is_last z c = λ n s r u ms ns cs m g a.
    member_later c.is_last.result (named cs (drop_members (n + 1) ms)) (is_least u || if_some (named cs ns) (λ v. below u v)) (c.is_last.ensures n s u ms cs m g) c.if-not-is_last.true

pub member_below-returns-then-is_least : goal.member_below-returns-then-is_least
member_below-returns-then-is_least z c = λ n s r u ms ns cs m g a.
    member_least u c.is_least.result (if_some (named cs ns) (λ v. below u v)) (c.is_least.ensures u (child_at m)) c.if-is_least.true
    ∙ member_first c.is_last.result (named cs (drop_members (n + 1) ms)) (is_least u || if_some (named cs ns) (λ v. below u v)) (c.is_last.ensures n s u ms cs m g) c.if-not-is_last.false

pub member_below-returns-in-Some : goal.member_below-returns-in-Some
member_below-returns-in-Some z c = λ n s r u ms ns cs m g a.
    member_twin (doc_of c.args.right.now.values) (named cs ns) c.in-Some.twin u c.last_named.result c.values_below.result
    (c.last_named.ensures.named r ns cs a (c.name.ensures.spelled c.args.left.now.node n (object s ms) u cs m g)) c.in-Some.is (λ v b. c.values_below.ensures u v (child_at m) b)
    ∙ member_more u c.is_least.result (if_some (named cs ns) (λ v. below u v)) (c.is_least.ensures u (child_at m)) c.if-is_least.false
    ∙ member_first c.is_last.result (named cs (drop_members (n + 1) ms)) (is_least u || if_some (named cs ns) (λ v. below u v)) (c.is_last.ensures n s u ms cs m g) c.if-not-is_last.false

pub member_below-returns-in-None : goal.member_below-returns-in-None
member_below-returns-in-None z c = λ n s r u ms ns cs m g a.
    member_missing (doc_of c.args.right.now.values) (named cs ns) u c.last_named.result
    (c.last_named.ensures.named r ns cs a (c.name.ensures.spelled c.args.left.now.node n (object s ms) u cs m g)) c.in-None.is
    ∙ member_more u c.is_least.result (if_some (named cs ns) (λ v. below u v)) (c.is_least.ensures u (child_at m)) c.if-is_least.false
    ∙ member_first c.is_last.result (named cs (drop_members (n + 1) ms)) (is_least u || if_some (named cs ns) (λ v. below u v)) (c.is_last.ensures n s u ms cs m g) c.if-not-is_last.false

pub members_below-returns-then-not-member_below : goal.members_below-returns-then-not-member_below
members_below-returns-then-not-member_below z c = λ s r ms ns a b.
    members_stop (doc_of c.args.left.now.values) c.args.left.now.node (λ ns. (r : Span) × At (doc_of c.args.right.now.values) c.args.right.now.node (object r ns)) (λ ns ms. members_below ms ns) (λ ns ms. members_below ms ns) c.loop-next.next c.in-Some.member false c.loop-next.invariant c.in-Some.is
    (λ ns k s ms p cs u rest w. ap (λ v. v && members_below rest ns) (ap (λ z. has_name cs z || (is_least u || if_some (named cs ns) (λ v. below u v))) w.after ∙ sym (c.member_below.ensures w.count s k.0 u ms ns cs w.child w.name k.1) ∙ c.if-not-member_below.true))
    ns (r, b) s ms a

pub members_below-loop-next-preserved : goal.members_below-loop-next-preserved
members_below-loop-next-preserved z c =
    members_go (doc_of c.args.left.now.values) c.args.left.now.node (λ ns. (r : Span) × At (doc_of c.args.right.now.values) c.args.right.now.node (object r ns)) (λ ns ms. members_below ms ns) (λ ns ms. members_below ms ns) (λ ns ms. members_below ms ns) c.loop-next.next c.next-next.result c.in-Some.member c.loop-next.invariant c.in-Some.is
    (λ k n t u a. c.next-next.ensures.next k n t u a) c.next-next.ensures.inside
    (λ ns k s ms p cs u rest w. ap (λ v. v && members_below rest ns) (ap (λ z. has_name cs z || (is_least u || if_some (named cs ns) (λ v. below u v))) w.after ∙ sym (c.member_below.ensures w.count s k.0 u ms ns cs w.child w.name k.1) ∙ c.if-not-member_below.false))

pub members_below-returns : goal.members_below-returns
members_below-returns z c = λ s r ms ns a b. members_done (doc_of c.args.left.now.values) c.args.left.now.node (λ ns. (r : Span) × At (doc_of c.args.right.now.values) c.args.right.now.node (object r ns)) (λ ns ms. members_below ms ns) (λ ns ms. members_below ms ns) c.loop-next.next c.loop-next.invariant c.in_default.is ns (r, b) s ms a

pub objects_below-returns : goal.objects_below-returns
objects_below-returns z c = λ s r ms ns a b. c.members_below.ensures s r ms ns
    (at_indexed c.new-left.result c.args.left c.args.node (object s ms) c.new-left.ensures.values c.new-left.ensures.node a)
    (at_indexed c.new-right.result c.args.right c.args.other (object r ns) c.new-right.ensures.values c.new-right.ensures.node b)
