use Rattle.std.proofs.Common.{◌≡◌, ℕ, List, [], ◌∷◌, length, drop, refl, sym, ◌∙◌, subst, arith}
use Rattle.std.specs.Prelude.{encode_utf8}
use Rattle.json_token.proofs.Fronts.{rest_is}
use Rattle.id_rewrite.specs.Fingerprints.{Adds}
use Rattle.id_rewrite.proofs.Prints.{bytes_all, bytes_more, bytes_run}
use Rattle.id_rewrite.proofs.form.add_bytes.Goals as goal

none_left : (bytes : List ℕ) → length bytes ≡ 0 → bytes ≡ []
none_left [] h = refl
none_left (b ∷ rest) h = absurd (omega (arith, h))

pub returns-in_default : goal.returns-in_default
returns-in_default c =
    let rest = c.loop-byte.rest.now in
    let end = c.plain_ascii_end-end in
    let passed = bytes_run c.args.bytes.now rest c.args.hasher.now c.loop-byte.hasher c.update.new.self end.result c.loop-byte.invariant end.ensures.value c.update.ensures in
    bytes_all c.args.bytes.now (drop end.result rest) c.args.hasher.now c.update.new.self passed (sym (rest_is end.result rest) ∙ none_left _ c.in_default.ensures.cases)

pub loop-byte-preserved : goal.loop-byte-preserved
loop-byte-preserved c =
    let rest = c.loop-byte.rest.now in
    let end = c.plain_ascii_end-end in
    let passed = bytes_run c.args.bytes.now rest c.args.hasher.now c.loop-byte.hasher c.update.new.self end.result c.loop-byte.invariant end.ensures.value c.update.ensures in
    bytes_more c.args.bytes.now (drop end.result rest) c.in-Some.more.now c.args.hasher.now c.update.new.self c.add.new.hasher c.in-Some.byte.now passed (sym (rest_is end.result rest) ∙ c.in-Some.ensures.cases.0)
    (subst (λ n. Adds c.update.new.self c.add.new.hasher (encode_utf8 n)) c.from.ensures c.add.ensures)
