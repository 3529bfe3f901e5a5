-- Small journals, worked out.
use Rattle.std.proofs.Common.{◌≡◌, true, false, [], ◌∷◌, codes, refl}
use Rattle.std.specs.Fmt.{digits}
use Rattle.mux_history.specs.declared.cause.Cause.TheVariants.{Joined, FromEditor, EditorGone}
use Rattle.mux_history.specs.declared.cause.Why.TheVariants.{End}
use Rattle.mux_history.specs.declared.out.Out.TheVariants.{Spawn, ToEditor}
use Rattle.journal_show.specs.declared.side.Side.TheVariants.{Editor, Server}
use Rattle.journal_show.specs.Parts.{part_text}
use Rattle.journal_show.specs.Readings.{told, bad_line, read_text}

whole : read_text (codes "join 0\n>spawn 0 0\n.\n") ≡ told (record { cause = Joined 0; outs = Spawn 0 0 ∷ [] } ∷ []) false
whole = refl

-- its last byte is missing
cut : read_text (codes "join 0\n>spawn 0 0\n.") ≡ told [] true
cut = refl

-- a line that isn't one, an out's line at the start of an entry, and a cause's line in one
stray : read_text (codes "hello\n") ≡ bad_line 1
stray = refl

out_first : read_text (codes "join 0\n.\n>close 0\n") ≡ bad_line 3
out_first = refl

two_causes : read_text (codes "join 0\ntick 1\n") ≡ bad_line 2
two_causes = refl

seen : part_text (Editor 1) (record { cause = Joined 1; outs = [] } ∷ record { cause = FromEditor 1 (codes "a"); outs = ToEditor 1 (codes "b") ∷ ToEditor 2 (codes "c") ∷ [] } ∷ record { cause = EditorGone 1 End; outs = [] } ∷ [])
    ≡ codes "ed 1 a\n>ed 1 b\ngone 1 end\n"
unfolding digits
seen = refl

not_there : part_text (Server 0) (record { cause = Joined 1; outs = [] } ∷ []) ≡ []
not_there = refl
