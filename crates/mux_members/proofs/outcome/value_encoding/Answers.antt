use Rattle.std.proofs.Common.{refl, sym, ◌∙◌, codes}
use Rattle.json_nodes.specs.At.{Found}
use Rattle.position_codec.specs.declared.Encoding.TheVariants.{Utf16, Utf32}
use Rattle.mux_model.specs.event_model.specs.Members.{named_of}
use Rattle.mux_members.proofs.Encodings.{by_name, name_in, name_other, name_utf32, named_other, named_utf8, no_name}
use Rattle.mux_members.proofs.outcome.value_encoding.Goals as goal

pub returns-then-not-is_text : goal.returns-then-not-is_text
returns-then-not-is_text c = λ o f.
    let found : Found c.args.tape.now (name_in o) c.member-name.result = c.member-name.ensures refl (named_of (codes "capabilities") o) (c.member.ensures refl o f) in
    no_name (name_in o) (sym (c.is_text.ensures (name_in o) found) ∙ c.if-not-is_text.true) ∙ by_name o

pub returns-then-spells : goal.returns-then-spells
returns-then-spells c = λ o f.
    let found : Found c.args.tape.now (name_in o) c.member-name.result = c.member-name.ensures refl (named_of (codes "capabilities") o) (c.member.ensures refl o f) in
    named_utf8 c.args.tape.now (name_in o) c.member-name.result (sym (c.is_text.ensures (name_in o) found) ∙ c.if-not-is_text.false) found c.spells.result (c.spells.ensures refl) c.if-spells.true ∙ by_name o

pub returns-then-spells-2 : goal.returns-then-spells-2
returns-then-spells-2 c = λ o f.
    let found : Found c.args.tape.now (name_in o) c.member-name.result = c.member-name.ensures refl (named_of (codes "capabilities") o) (c.member.ensures refl o f) in
    named_other c.args.tape.now (name_in o) c.member-name.result (sym (c.is_text.ensures (name_in o) found) ∙ c.if-not-is_text.false) found c.spells.result c.spells-else-spells.result Utf32 (c.spells.ensures refl) (c.spells-else-spells.ensures refl)
    (name_utf32 c.spells.result c.spells-else-spells.result c.if-spells.false c.if-spells-2.true) ∙ by_name o

pub returns-else-spells-2 : goal.returns-else-spells-2
returns-else-spells-2 c = λ o f.
    let found : Found c.args.tape.now (name_in o) c.member-name.result = c.member-name.ensures refl (named_of (codes "capabilities") o) (c.member.ensures refl o f) in
    named_other c.args.tape.now (name_in o) c.member-name.result (sym (c.is_text.ensures (name_in o) found) ∙ c.if-not-is_text.false) found c.spells.result c.spells-else-spells.result Utf16 (c.spells.ensures refl) (c.spells-else-spells.ensures refl)
    (name_other c.spells.result c.spells-else-spells.result c.if-spells.false c.if-spells-2.false) ∙ by_name o
