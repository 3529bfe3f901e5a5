use Rattle.std.proofs.Common.{◌≡◌, sym, subst, ap, ◌∙◌, ◌+◌, length, drop}
use Rattle.std.specs.Prelude.{None}
use Rattle.std.specs.Str.{chars}
use Rattle.std.proofs.lemmas.List.{length_push}
use Rattle.std.proofs.lemmas.Iterator.{YieldsList-from_chars}
use Rattle.std.proofs.lemmas.Iterator.Consumers.{YieldsList-turn, YieldsList-end}
use Rattle.json_token.specs.Characters.{next_character, rest_view, behind}
use Rattle.json_token.proofs.Comparing.{Matches, matches_more, matches_end, matches_apart, matches_at, matches_past}
use Rattle.json_token.proofs.decoded.spells_text.Goals as goal

pub loop-wanted-preserved : goal.loop-wanted-preserved
loop-wanted-preserved c =
    let t = YieldsList-turn (YieldsList-from_chars c.args.text.now c.utf8.text cc) c.loop-wanted.yielded _ c.loop-wanted.yielded_by _ _ c.in-Some.wanted c.in-Some.is c.next.ensures.steps in
    let now = matches_at c.args.raw.now c.loop-wanted.rest.now (chars c.args.text.now) (length c.loop-wanted.yielded) c.in-Some.wanted c.loop-wanted.invariant t in
    subst (λ n. Matches c.args.raw.now c.in-Some-strip_character.more.now (chars c.args.text.now) (drop n (chars c.args.text.now))) (sym (length_push c.loop-wanted.yielded c.in-Some.wanted))
    (matches_more c.args.raw.now c.loop-wanted.rest.now (chars c.args.text.now) (drop (length c.loop-wanted.yielded + 1) (chars c.args.text.now)) c.in-Some-strip_character.more.now c.in-Some.wanted now (sym c.in-Some-strip_character.ensures))

pub returns-in_default : goal.returns-in_default
returns-in_default c =
    let t = YieldsList-turn (YieldsList-from_chars c.args.text.now c.utf8.text cc) c.loop-wanted.yielded _ c.loop-wanted.yielded_by _ _ c.in-Some.wanted c.in-Some.is c.next.ensures.steps in
    let now = matches_at c.args.raw.now c.loop-wanted.rest.now (chars c.args.text.now) (length c.loop-wanted.yielded) c.in-Some.wanted c.loop-wanted.invariant t in
    let none : behind c.in-Some.wanted (next_character c.loop-wanted.rest.now) ≡ None = sym c.strip_character.ensures ∙ ap rest_view c.in_default.is in
    matches_apart c.args.raw.now c.loop-wanted.rest.now (chars c.args.text.now) (drop (length c.loop-wanted.yielded + 1) (chars c.args.text.now)) c.in-Some.wanted now none

pub returns : goal.returns
returns c =
    let t = YieldsList-end (YieldsList-from_chars c.args.text.now c.utf8.text cc) c.loop-wanted.yielded _ c.loop-wanted.yielded_by _ _ c.in-None.is c.next.ensures.steps in
    rw c.is_at_end.ensures (matches_end c.args.raw.now c.loop-wanted.rest.now (chars c.args.text.now) (matches_past c.args.raw.now c.loop-wanted.rest.now (chars c.args.text.now) (length c.loop-wanted.yielded) t.1 c.loop-wanted.invariant))
