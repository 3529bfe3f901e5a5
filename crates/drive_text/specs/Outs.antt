-- The lines that write outs.
use Rattle.std.specs.Prelude.{ℕ, ◌^◌, ◌<◌, List, [], ◌∷◌, ◌++◌, codes, decimal, flat_map}
use Rattle.mux_history.specs.declared.entry.Entry.{Entry}
use Rattle.mux_history.specs.declared.out.Out.{Out}
use Rattle.mux_history.specs.declared.out.Out.TheVariants.{ToEditor, ToServer, Spawn, CloseEditor, EndServer}
use Rattle.drive_text.specs.Marks.{text_of_body}

-- the parts of an out's line: what stands before a body, and the body
abbrev pub head_of : Out → List ℕ
head_of (ToEditor e body) = (codes ">ed " ++ decimal e) ++ codes " "
head_of (ToServer s body) = (codes ">sv " ++ decimal s) ++ codes " "
head_of (Spawn s g) = codes ">spawn " ++ (decimal s ++ (codes " " ++ decimal g))
head_of (CloseEditor e) = codes ">close " ++ decimal e
head_of (EndServer s) = codes ">end " ++ decimal s

abbrev pub tail_of : Out → List ℕ
tail_of (ToEditor e body) = text_of_body body
tail_of (ToServer s body) = text_of_body body
tail_of other = []

-- the line of an out, without its line feed
abbrev pub spelled_out : Out → List ℕ
spelled_out out = head_of out ++ tail_of out

-- the line with its line feed
abbrev pub out_line : Out → List ℕ
out_line out = head_of out ++ tail_of out ++ 10 ∷ []

abbrev pub out_lines : List Out → List ℕ
out_lines outs = flat_map out_line outs

-- the out lines of a history's entries
abbrev pub outs_text : List Entry → List ℕ
outs_text history = flat_map (λ entry. out_lines entry.outs) history

-- its numbers are below 2^64, as those of every value of a program are
abbrev pub HasSmallOutNumbers : Out → Type 0
HasSmallOutNumbers (ToEditor e body) = e < 2 ^ 64
HasSmallOutNumbers (ToServer s body) = s < 2 ^ 64
HasSmallOutNumbers (Spawn s g) = (s < 2 ^ 64) × (g < 2 ^ 64)
HasSmallOutNumbers (CloseEditor e) = e < 2 ^ 64
HasSmallOutNumbers (EndServer s) = s < 2 ^ 64
