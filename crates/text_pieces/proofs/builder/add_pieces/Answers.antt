use Rattle.std.proofs.Common.{sym, subst, ◌∙◌}
use Rattle.std.specs.Prelude.{IsUtf8}
use Rattle.std.proofs.lemmas.Str.{IsUtf8-drop}
use Rattle.text_pieces.proofs.Joined.{cut_on, text_pushed}
use Rattle.text_pieces.proofs.builder.add_pieces.Goals as goal

pub loop-rest-preserved : goal.loop-rest-preserved
loop-rest-preserved c = record {
  text = cut_on c.loop-rest.pieces.items c.push.new.self.items c.in_ok-new.field-0 c.split_at.result.0.now c.loop-rest.rest.now c.split_at.result.1.now _ c.floor_char_boundary-at.result c.in_ok-push.ensures.items c.in_ok-new.ensures c.split_at.ensures.front c.split_at.ensures.back c.loop-rest.invariant.text;
  utf8 = subst IsUtf8 (sym c.split_at.ensures.back) (IsUtf8-drop c.loop-rest.rest.now c.floor_char_boundary-at.result c.loop-rest.invariant.utf8 c.floor_char_boundary-at.ensures.boundary);
}

pub returns-in_ok-push-2 : goal.returns-in_ok-push-2
returns-in_ok-push-2 c = text_pushed c.loop-rest.pieces.items c.push-then-not-is_empty.new.self.items c.in_ok-new-2.field-0 c.loop-rest.rest.now c.in_ok-push-2.ensures.items c.in_ok-new-2.ensures ∙ c.loop-rest.invariant.text
