use Rattle.std.proofs.Common.{subst, sym}
use Rattle.std.specs.Option.{IfSome}
use Rattle.json_nodes.specs.Values.{doc_of}
use Rattle.json_nodes.proofs.ByName.{kept_ok}
use Rattle.capability_meet.specs.IndexedArray.{KeepsTexts}
use Rattle.capability_meet.proofs.indexed_array.IndexedArray.new.Goals as goal

pub returns-clause-indexed : goal.returns-clause-indexed
returns-clause-indexed c = subst (λ o. IfSome o (λ texts. KeepsTexts texts (doc_of c.args.values) c.args.node)) (sym c.ok-texts.ensures.value) (kept_ok (λ texts. KeepsTexts texts (doc_of c.args.values) c.args.node) c.item_texts.result c.item_texts.ensures)
