-- A few inputs worked out by the checker.
use Rattle.std.proofs.Common.{◌≡◌, [], ◌∷◌, ◌++◌, codes, refl}
use Rattle.std.specs.Prelude.{Some, None}
use Rattle.mux_history.specs.declared.cause.Cause.TheVariants.{Joined, Tick}
use Rattle.drive_program.specs.declared.refusal.Refusal.TheVariants.{Form, Absent}
use Rattle.drive_program.specs.Lines.{lines_of}
use Rattle.event_model.specs.Settings.{Settings}
use Rattle.drive_program.specs.Runs.{drive_of, reading_bytes, after}

-- settings with one server
abbrev settings : Settings
settings = record {
  limits = record { groups = 8; restarts = 5; idle = 300; grace = 5; backlog = 134217728; requests = 2147483647; versions = 2147483647 };
  servers = record { name = codes "main"; ceiling = None } ∷ [];
  default = 0;
}

three_lines : lines_of (codes "ab" ++ 10 ∷ 10 ∷ codes "c") ≡ record { bytes = codes "ab"; upto = 3 } ∷ record { bytes = []; upto = 4 } ∷ record { bytes = codes "c"; upto = 5 } ∷ []
three_lines = refl

one_line : lines_of (codes "a" ++ 10 ∷ []) ≡ record { bytes = codes "a"; upto = 2 } ∷ []
one_line = refl

hello : drive_of 67108864 settings (codes "hello" ++ 10 ∷ []) ≡ record { history = []; refused = Some (record { line = 1; refusal = Form }) }
unfolding reading_bytes after
hello = refl

join_first : drive_of 67108864 settings (codes "join 1") ≡ record { history = []; refused = Some (record { line = 1; refusal = Absent }) }
unfolding reading_bytes after
join_first = refl

joined_twice : drive_of 67108864 settings (codes "join 0" ++ 10 ∷ codes "tick 5" ++ 10 ∷ codes "join 0") ≡ record { history = record { cause = Joined 0; outs = [] } ∷ record { cause = Tick 5; outs = [] } ∷ []; refused = Some (record { line = 3; refusal = Absent }) }
unfolding reading_bytes after
joined_twice = refl
