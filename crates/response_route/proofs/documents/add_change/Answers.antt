use Rattle.std.specs.Str.{chars}
use Rattle.std.proofs.Common.{◌++◌, codes, refl}
use Rattle.std.specs.Prelude.{OnOk}
use Rattle.json_text.specs.Named.{named_in}
use Rattle.response_route.specs.Edits.{versioned}
use Rattle.response_route.specs.Reading.{Stand}
use Rattle.response_route.proofs.Walks.{there, member_absent}
use Rattle.response_route.proofs.documents.add_change.Goals as goal

pub returns-in-Some : goal.returns-in-Some
unfolding chars
returns-in-Some c = λ t js a s. there c.args.tape.now (λ z. OnOk c.add_document.result (Stand c.args.tape.now c.add_document.new.documents.items (js ++ z))) versioned (named_in (codes "textDocument") t) c.in-Some.document (c.in-Some.ensures.member t a)
    (λ u b. c.add_document.ensures u js b s)

pub returns-in-None : goal.returns-in-None
unfolding chars
returns-in-None c = λ t js a s. member_absent c.args.tape.now versioned c.args.documents.now.items js (named_in (codes "textDocument") t) refl (c.in-None.ensures.member t a) s
