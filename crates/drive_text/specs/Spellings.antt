-- How a cause is written: the words of its line, its numbers in decimal, its body with marks.
use Rattle.std.specs.Prelude.{ℕ, ◌^◌, ◌<◌, List, [], ◌∷◌, ◌++◌, codes, decimal}
use Rattle.mux_history.specs.declared.entry.Entry.{Entry}
use Rattle.mux_history.specs.declared.cause.Cause.{Cause}
use Rattle.mux_history.specs.declared.cause.Cause.TheVariants.{Joined, FromEditor, EditorGone, Started, StartFailed, FromServer, ServerGone, Drained, Tick}
use Rattle.mux_history.specs.declared.cause.Why.{Why}
use Rattle.mux_history.specs.declared.cause.Why.TheVariants.{End, ReadFault, WriteFault, BadFrame}
use Rattle.drive_text.specs.Marks.{text_of_body}
use Rattle.drive_text.specs.Outs.{out_lines}

abbrev pub spelled_why : Why → List ℕ
spelled_why End = codes "end"
spelled_why ReadFault = codes "read"
spelled_why WriteFault = codes "write"
spelled_why BadFrame = codes "frame"

-- the line of a cause, without its line feed
abbrev pub spelled : Cause → List ℕ
spelled (Joined e) = codes "join " ++ decimal e
spelled (FromEditor e body) = codes "ed " ++ (decimal e ++ (codes " " ++ text_of_body body))
spelled (EditorGone e why) = codes "gone " ++ (decimal e ++ (codes " " ++ spelled_why why))
spelled (Started s) = codes "up " ++ decimal s
spelled (StartFailed s) = codes "nostart " ++ decimal s
spelled (FromServer s body) = codes "sv " ++ (decimal s ++ (codes " " ++ text_of_body body))
spelled (ServerGone s) = codes "exit " ++ decimal s
spelled (Drained e k) = codes "drained " ++ (decimal e ++ (codes " " ++ decimal k))
spelled (Tick t) = codes "tick " ++ decimal t

-- its numbers are below 2^64, as those of every value of a program are
abbrev pub HasSmallNumbers : Cause → Type 0
HasSmallNumbers (Joined e) = e < 2 ^ 64
HasSmallNumbers (FromEditor e body) = e < 2 ^ 64
HasSmallNumbers (EditorGone e why) = e < 2 ^ 64
HasSmallNumbers (Started s) = s < 2 ^ 64
HasSmallNumbers (StartFailed s) = s < 2 ^ 64
HasSmallNumbers (FromServer s body) = s < 2 ^ 64
HasSmallNumbers (ServerGone s) = s < 2 ^ 64
HasSmallNumbers (Drained e k) = (e < 2 ^ 64) × (k < 2 ^ 64)
HasSmallNumbers (Tick t) = t < 2 ^ 64

-- the parts of a cause's line: what stands before a body, and the body
abbrev pub cause_head : Cause → List ℕ
cause_head (FromEditor e body) = (codes "ed " ++ decimal e) ++ codes " "
cause_head (FromServer s body) = (codes "sv " ++ decimal s) ++ codes " "
cause_head other = spelled other

abbrev pub cause_tail : Cause → List ℕ
cause_tail (FromEditor e body) = text_of_body body
cause_tail (FromServer s body) = text_of_body body
cause_tail other = []

-- the lines of an entry: its cause, its outs, and a point
abbrev pub entry_lines : Entry → List ℕ
entry_lines entry = spelled entry.cause ++ 10 ∷ (out_lines entry.outs ++ 46 ∷ 10 ∷ [])
