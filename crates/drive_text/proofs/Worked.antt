-- A few lines worked out by the checker.
use Rattle.std.proofs.Common.{◌≡◌, [], ◌∷◌, ◌++◌, codes, refl}
use Rattle.std.specs.Prelude.{Some, None}
use Rattle.std.specs.Fmt.{digits}
use Rattle.mux_history.specs.declared.cause.Cause.TheVariants.{Joined, FromEditor, EditorGone, FromServer, Drained, Tick}
use Rattle.mux_history.specs.declared.cause.Why.TheVariants.{BadFrame}
use Rattle.mux_history.specs.declared.out.Out.TheVariants.{ToEditor, Spawn}
use Rattle.drive_text.specs.Causes.{cause_of}
use Rattle.drive_text.specs.Outs.{out_line}

joined : cause_of (codes "join 0") ≡ Some (Joined 0)
joined = refl

padded : cause_of (codes "join 00") ≡ None
padded = refl

signed : cause_of (codes "join +1") ≡ None
signed = refl

no_number : cause_of (codes "join ") ≡ None
no_number = refl

greatest : cause_of (codes "tick 18446744073709551615") ≡ Some (Tick 18446744073709551615)
greatest = refl

too_great : cause_of (codes "tick 18446744073709551616") ≡ None
too_great = refl

a_body : cause_of (codes "ed 10 a^nb^^ ^r") ≡ Some (FromEditor 10 (97 ∷ 10 ∷ 98 ∷ 94 ∷ 32 ∷ 13 ∷ []))
a_body = refl

empty_body : cause_of (codes "sv 3 ") ≡ Some (FromServer 3 [])
empty_body = refl

no_body : cause_of (codes "sv 3") ≡ None
no_body = refl

raw_return : cause_of (codes "ed 0 a" ++ 13 ∷ []) ≡ None
raw_return = refl

other_mark : cause_of (codes "ed 0 ^a") ≡ None
other_mark = refl

half_mark : cause_of (codes "ed 0 a^") ≡ None
half_mark = refl

a_why : cause_of (codes "gone 2 frame") ≡ Some (EditorGone 2 BadFrame)
a_why = refl

drained_bytes : cause_of (codes "drained 1 20") ≡ Some (Drained 1 20)
drained_bytes = refl

more_words : cause_of (codes "up 1 2") ≡ None
more_words = refl

an_out : out_line (ToEditor 7 (97 ∷ 10 ∷ 94 ∷ [])) ≡ codes ">ed 7 a^n^^" ++ 10 ∷ []
unfolding digits
an_out = refl

a_spawn : out_line (Spawn 12 3) ≡ codes ">spawn 12 3" ++ 10 ∷ []
unfolding digits
a_spawn = refl
