use Rattle.std.proofs.Common.{◌≡◌, ℕ, List, false, subst}
use Rattle.std.specs.Prelude.{OnOk}
use Rattle.capability_meet.specs.OnePass.{items_met}
use Rattle.capability_meet.specs.Parts.{listed}
use Rattle.json_text.specs.Json.{array}
use Rattle.capability_meet.proofs.Lists.{at_indexed_array}
use Rattle.capability_meet.proofs.Meets.{wrapped}
use Rattle.capability_meet.proofs.written.write_array.Goals as goal

pub returns : goal.returns
returns c = λ s r js ks a b. subst (λ (z : List ℕ). OnOk c.write-2.result (c.write-2.new.out.items ≡ z)) (wrapped c.args.out.now.items c.write.new.out.items c.write_items.new.out.items (listed false (items_met c.args.left.bytes.now js ks)) 91 93 c.in_ok-write.ensures (c.in_ok-write_items.ensures s r js ks a (at_indexed_array c.new-right.result c.args.right c.args.other (array r ks) c.new-right.ensures.values c.new-right.ensures.node b))) c.write-2.ensures
