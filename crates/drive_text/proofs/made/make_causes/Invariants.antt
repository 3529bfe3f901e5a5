use Rattle.std.proofs.Common.{◌≡◌, ◌≤◌}
use Rattle.drive_text.specs.Made.{state_after, made}
use Rattle.drive_text.proofs.made.make_causes.Given as goal

abbrev pub invariant-loop-done : goal.invariant-loop-done
invariant-loop-done l = record {
  causes : l.causes.items ≡ made l.done l.seed;
  maker : l.maker ≡ state_after l.seed l.done;
  start : l.maker.start ≤ 5;
  asked : l.maker.asked ≤ l.done;
}
