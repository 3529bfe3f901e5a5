use Rattle.std.proofs.Common.{◌≡◌, ◌-◌, length, get_or, subst, arith}
use Rattle.group_keys.proofs.Slashes.{slash_kept, slash_removed}
use Rattle.group_keys.proofs.folders.without_slash.Goals as goal
use Rattle.group_keys.proofs.folders.without_slash.Goals.{else-count-gt0-via-then-count-gt0+else-uri-count-eq47, else-count-gt0-via-else-count-gt0}

pub returns-then-uri-count-eq47 : goal.returns-then-uri-count-eq47
returns-then-uri-count-eq47 c = slash_removed c.args.uri.now (length c.args.uri.now - 1) (omega (arith, c.if-count-gt0.true)) c.if-uri-count-eq47.true

pub returns-else-count-gt0 : goal.returns-else-count-gt0
returns-else-count-gt0 c = elim c.else-count-gt0.branch [
  | else-count-gt0-via-then-count-gt0+else-uri-count-eq47 w ↦ slash_kept c.args.uri.now (λ k l e. w.if-uri-count-eq47.false (subst (λ n. get_or c.args.uri.now n 0 ≡ 47) (omega (arith, l)) e))
  | else-count-gt0-via-else-count-gt0 w ↦ slash_kept c.args.uri.now (λ k l e. absurd (omega (arith, l, w.if-count-gt0.false)))
]
