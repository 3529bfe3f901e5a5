-- Which lines write outs: a word that begins with `>`, a space, and what the out has.
use Rattle.std.specs.Prelude.{List, ℕ, codes, bytes_eq, option_map, if◌then◌else◌}
use Rattle.std.specs.Prelude.{Option, Some, None}
use Rattle.mux_history.specs.declared.out.Out.{Out}
use Rattle.mux_history.specs.declared.out.Out.TheVariants.{ToEditor, ToServer, Spawn, CloseEditor, EndServer}
use Rattle.drive_text.specs.declared.word.OutWord.{OutWord}
use Rattle.drive_text.specs.declared.word.OutWord.TheVariants as out_word
use Rattle.drive_text.specs.Causes.{cut_of, with_number}
use Rattle.drive_text.specs.Marks.{body_of_text}
use Rattle.drive_text.specs.Numbers.{number_of}
use Rattle.drive_text.specs.Options.{then_option}

abbrev pub out_word_of : List ℕ → Option OutWord
out_word_of text =
    if bytes_eq text (codes ">ed") then Some out_word.Ed else
    (if bytes_eq text (codes ">sv") then Some out_word.Sv else
    (if bytes_eq text (codes ">spawn") then Some out_word.Spawn else
    (if bytes_eq text (codes ">close") then Some out_word.Close else
    (if bytes_eq text (codes ">end") then Some out_word.End else None))))

-- what the text behind the word and its space says
abbrev pub out_by : OutWord → List ℕ → Option Out
out_by out_word.Ed text = with_number body_of_text ToEditor text
out_by out_word.Sv text = with_number body_of_text ToServer text
out_by out_word.Spawn text = with_number number_of Spawn text
out_by out_word.Close text = option_map CloseEditor (number_of text)
out_by out_word.End text = option_map EndServer (number_of text)

-- the out that a line writes
abbrev pub out_of : List ℕ → Option Out
out_of line = then_option (cut_of line) (λ cut. then_option (out_word_of cut.front) (λ w. out_by w cut.back))
