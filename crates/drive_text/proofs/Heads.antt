-- A cause's line is what stands before its body, and the body. A front of a text was written.
use Rattle.std.proofs.Common.{◌≡◌, ℕ, List, [], ◌∷◌, ◌++◌, codes, append_assoc, append-nil}
use Rattle.std.specs.Prelude.{decimal}
use Rattle.mux_history.specs.declared.cause.Cause.{Cause}
use Rattle.mux_history.specs.declared.cause.Cause.TheVariants.{Joined, FromEditor, EditorGone, Started, StartFailed, FromServer, ServerGone, Drained, Tick}
use Rattle.drive_text.specs.Marks.{text_of_body}
use Rattle.drive_text.specs.Spellings.{spelled, cause_head, cause_tail}

regroup : (word number text : List ℕ) → ((word ++ number) ++ 32 ∷ []) ++ text ≡ word ++ (number ++ 32 ∷ text)
regroup word number text = simp append_assoc

pub two_parts : (c : Cause) → cause_head c ++ cause_tail c ≡ spelled c
two_parts (Joined e) = append-nil (spelled (Joined e))
two_parts (FromEditor e body) = regroup (codes "ed ") (decimal e) (text_of_body body)
two_parts (EditorGone e why) = append-nil (spelled (EditorGone e why))
two_parts (Started s) = append-nil (spelled (Started s))
two_parts (StartFailed s) = append-nil (spelled (StartFailed s))
two_parts (FromServer s body) = regroup (codes "sv ") (decimal s) (text_of_body body)
two_parts (ServerGone s) = append-nil (spelled (ServerGone s))
two_parts (Drained e k) = append-nil (spelled (Drained e k))
two_parts (Tick t) = append-nil (spelled (Tick t))
