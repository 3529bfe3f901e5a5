use Rattle.std.proofs.Common.{◌∙◌, sym, ap₂}
use Rattle.std.specs.Prelude.{bytes_eq}
use Rattle.json_span.specs.Characters.{characters_in}
use Rattle.rpc_message.proofs.SameIds.{id_shape, texts_same}
use Rattle.rpc_message.proofs.id.same_id.Goals as goal

pub returns-then-is_quoted-2-clause-ids : goal.returns-then-is_quoted-2-clause-ids
returns-then-is_quoted-2-clause-ids c = λ i j h k. texts_same i j c.args.a.now c.args.b.now c.between_quotes.result.now c.between_quotes-then-is_quoted-2.result.now c.same_characters.result (id_shape i c.args.a.now h) (id_shape j c.args.b.now k)
    (sym c.is_quoted.ensures ∙ c.if-is_quoted.true) (sym c.is_quoted-then-is_quoted.ensures ∙ c.if-is_quoted-2.true) c.between_quotes.ensures.string c.between_quotes-then-is_quoted-2.ensures.string c.same_characters.ensures.strings

pub returns-then-is_quoted-2-clause-strings : goal.returns-then-is_quoted-2-clause-strings
returns-then-is_quoted-2-clause-strings c = λ h. c.same_characters.ensures.read ∙ ap₂ (λ x y. bytes_eq (characters_in x) (characters_in y)) c.between_quotes.ensures.read c.between_quotes-then-is_quoted-2.ensures.read
