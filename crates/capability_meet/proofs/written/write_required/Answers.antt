use Rattle.std.proofs.Common.{◌≡◌, ℕ, List, [], ◌∷◌, subst}
use Rattle.std.specs.Prelude.{OnOk}
use Rattle.std.specs.Str.{chars}
use Rattle.json_text.specs.Json.{object}
use Rattle.capability_meet.specs.Meet.{named_meets}
use Rattle.capability_meet.proofs.Meets.{required_none, required_put}
use Rattle.capability_meet.proofs.written.write_required.Goals as goal

pub returns-then-named_meets : goal.returns-then-named_meets
returns-then-named_meets c = λ s r ms ns a b. required_none c.args.out.now.items (c.args.pair.now ∷ []) c.args.started c.named_meets.result (named_meets (chars c.args.name.now) ms ns) (c.named_meets.ensures (object s ms) (object r ns) a b) c.if-named_meets.true

pub returns : goal.returns
returns c = λ s r ms ns a b. subst (λ (z : List ℕ). OnOk c.write.result (c.write.new.out.items ≡ z)) (required_put c.args.out.now.items c.write_comma.new.out.items c.args.pair.now c.args.started c.named_meets.result (named_meets (chars c.args.name.now) ms ns) (c.named_meets.ensures (object s ms) (object r ns) a b) c.if-named_meets.false c.in_ok-write_comma.ensures) c.write.ensures
