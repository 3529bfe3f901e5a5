use Rattle.std.proofs.Common.{◌≡◌, ℕ, List, [], ◌∷◌, ◌++◌, codes, subst, sym}
use Rattle.std.specs.Prelude.{OnOk, if◌then◌else◌}
use Rattle.capability_meet.specs.declared.spot.Spot.{Spot}
use Rattle.capability_meet.specs.Meet.{named_meets}
use Rattle.capability_meet.specs.OnePass.{required}
use Rattle.capability_meet.specs.Parts.{listed}
use Rattle.capability_meet.proofs.Spots.{cancel_letters, support_letters}
use Rattle.capability_meet.proofs.written.write_lacking.Goals as goal

pub returns-in-ShowDocument : goal.returns-in-ShowDocument
returns-in-ShowDocument c = λ s r ms ns a b.
    subst (λ (x : Spot). OnOk c.write_required.result (c.write_required.new.out.items ≡ c.args.out.now.items ++ listed c.args.started (required x ms ns))) (sym c.in-ShowDocument.is)
    (subst (λ (z : List ℕ). OnOk c.write_required.result (c.write_required.new.out.items ≡ c.args.out.now.items ++ listed c.args.started (if named_meets z ms ns then [] else (codes "\"support\":false" ∷ [])))) support_letters (c.write_required.ensures s r ms ns a b))

pub returns-in-StaleRequestSupport : goal.returns-in-StaleRequestSupport
returns-in-StaleRequestSupport c = λ s r ms ns a b.
    subst (λ (x : Spot). OnOk c.write_required-in-StaleRequestSupport.result (c.write_required-in-StaleRequestSupport.new.out.items ≡ c.args.out.now.items ++ listed c.args.started (required x ms ns))) (sym c.in-StaleRequestSupport.is)
    (subst (λ (z : List ℕ). OnOk c.write_required-in-StaleRequestSupport.result (c.write_required-in-StaleRequestSupport.new.out.items ≡ c.args.out.now.items ++ listed c.args.started (if named_meets z ms ns then [] else (codes "\"cancel\":false" ∷ [])))) cancel_letters (c.write_required-in-StaleRequestSupport.ensures s r ms ns a b))
