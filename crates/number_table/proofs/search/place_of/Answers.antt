use Rattle.std.proofs.Common.{Err, Ok, rules}
use Rattle.std.proofs.lemmas.List.Sorted.{answers_always}
use Rattle.number_table.proofs.Searching.{searched}
use Rattle.number_table.proofs.search.place_of.Goals as goal

pub returns-in-Ok-clause-found : goal.returns-in-Ok-clause-found
returns-in-Ok-clause-found g c =
    let facts = c.in-Ok.ensures in
    let by_key = facts.position (λ x. x.number) (answers_always _ _ _ (λ f a r g called. search rules)) in
    (searched c.requires.0 c.args.number c.args.kept.now c.requires.1 (Ok c.in-Ok.at) facts.bound by_key).found

pub returns-in-Err-clause-none : goal.returns-in-Err-clause-none
returns-in-Err-clause-none g c =
    let facts = c.in-Err.ensures in
    let by_key = facts.position (λ x. x.number) (answers_always _ _ _ (λ f a r g called. search rules)) in
    (searched c.requires.0 c.args.number c.args.kept.now c.requires.1 (Err c.in-Err.field-0) facts.bound by_key).absent
