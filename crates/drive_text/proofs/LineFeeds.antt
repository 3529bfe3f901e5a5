-- A line has no line feed in it.
use Rattle.std.proofs.Common.{ℕ, ◌^◌, ◌<◌, [], ◌∷◌, refl, arith}
use Rattle.std.specs.Prelude.{decimal}
use Rattle.mux_history.specs.declared.cause.Cause.{Cause}
use Rattle.mux_history.specs.declared.cause.Cause.TheVariants.{Joined, FromEditor, EditorGone, Started, StartFailed, FromServer, ServerGone, Drained, Tick}
use Rattle.mux_history.specs.declared.cause.Why.{Why}
use Rattle.mux_history.specs.declared.cause.Why.TheVariants.{End, ReadFault, WriteFault, BadFrame}
use Rattle.mux_history.specs.declared.out.Out.{Out}
use Rattle.mux_history.specs.declared.out.Out.TheVariants.{ToEditor, ToServer, Spawn, CloseEditor, EndServer}
use Rattle.drive_text.specs.Marks.{text_of_body}
use Rattle.drive_text.specs.Outs.{head_of, spelled_out, HasSmallOutNumbers}
use Rattle.drive_text.specs.Spellings.{spelled_why, spelled, HasSmallNumbers}
use Rattle.drive_text.proofs.Decimals.{decimal_digits}
use Rattle.drive_text.proofs.Texts.{Lacks, lacks_both, digits_lack, text_lacks}

decimal_lacks : (n : ℕ) → n < 2 ^ 64 → Lacks 10 (decimal n)
decimal_lacks n s = digits_lack 10 (decimal n) (omega arith) (decimal_digits n s)

pub out_lacks : (o : Out) → HasSmallOutNumbers o → Lacks 10 (spelled_out o)
out_lacks (ToEditor e body) s = lacks_both 10 (head_of (ToEditor e body)) (text_of_body body)
    (refl, (refl, (refl, (refl, lacks_both 10 (decimal e) (32 ∷ []) (decimal_lacks e s) (refl, tt))))) (text_lacks body)
out_lacks (ToServer n body) s = lacks_both 10 (head_of (ToServer n body)) (text_of_body body)
    (refl, (refl, (refl, (refl, lacks_both 10 (decimal n) (32 ∷ []) (decimal_lacks n s) (refl, tt))))) (text_lacks body)
out_lacks (Spawn n g) s = lacks_both 10 (head_of (Spawn n g)) []
    (refl, (refl, (refl, (refl, (refl, (refl, (refl, lacks_both 10 (decimal n) (32 ∷ decimal g) (decimal_lacks n s.0) (refl, decimal_lacks g s.1)))))))) tt
out_lacks (CloseEditor e) s = lacks_both 10 (head_of (CloseEditor e)) [] (refl, (refl, (refl, (refl, (refl, (refl, (refl, decimal_lacks e s))))))) tt
out_lacks (EndServer n) s = lacks_both 10 (head_of (EndServer n)) [] (refl, (refl, (refl, (refl, (refl, decimal_lacks n s))))) tt

why_lacks : (why : Why) → Lacks 10 (spelled_why why)
why_lacks End = (refl, (refl, (refl, tt)))
why_lacks ReadFault = (refl, (refl, (refl, (refl, tt))))
why_lacks WriteFault = (refl, (refl, (refl, (refl, (refl, tt)))))
why_lacks BadFrame = (refl, (refl, (refl, (refl, (refl, tt)))))

pub cause_lacks : (c : Cause) → HasSmallNumbers c → Lacks 10 (spelled c)
cause_lacks (Joined e) s = (refl, (refl, (refl, (refl, (refl, decimal_lacks e s)))))
cause_lacks (FromEditor e body) s = (refl, (refl, (refl, lacks_both 10 (decimal e) (32 ∷ text_of_body body) (decimal_lacks e s) (refl, text_lacks body))))
cause_lacks (EditorGone e why) s = (refl, (refl, (refl, (refl, (refl, lacks_both 10 (decimal e) (32 ∷ spelled_why why) (decimal_lacks e s) (refl, why_lacks why))))))
cause_lacks (Started n) s = (refl, (refl, (refl, decimal_lacks n s)))
cause_lacks (StartFailed n) s = (refl, (refl, (refl, (refl, (refl, (refl, (refl, (refl, decimal_lacks n s))))))))
cause_lacks (FromServer n body) s = (refl, (refl, (refl, lacks_both 10 (decimal n) (32 ∷ text_of_body body) (decimal_lacks n s) (refl, text_lacks body))))
cause_lacks (ServerGone n) s = (refl, (refl, (refl, (refl, (refl, decimal_lacks n s)))))
cause_lacks (Drained e k) s =
    (refl, (refl, (refl, (refl, (refl, (refl, (refl, (refl, lacks_both 10 (decimal e) (32 ∷ decimal k) (decimal_lacks e s.0) (refl, decimal_lacks k s.1)))))))))
cause_lacks (Tick t) s = (refl, (refl, (refl, (refl, (refl, decimal_lacks t s)))))
