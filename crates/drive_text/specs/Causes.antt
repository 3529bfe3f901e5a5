-- The lines that write a cause.
use Rattle.std.specs.Prelude.{ℕ, ◌+◌, List, codes, nat_eq, bytes_eq, take, drop, position, option_map, if◌then◌else◌}
use Rattle.std.specs.Prelude.{Option, Some, None}
use Rattle.mux_history.specs.declared.cause.Cause.{Cause}
use Rattle.mux_history.specs.declared.cause.Cause.TheVariants.{Joined, FromEditor, EditorGone, Started, StartFailed, FromServer, ServerGone, Drained, Tick}
use Rattle.mux_history.specs.declared.cause.Why.{Why}
use Rattle.mux_history.specs.declared.cause.Why.TheVariants.{End, ReadFault, WriteFault, BadFrame}
use Rattle.drive_text.specs.declared.word.Word.{Word}
use Rattle.drive_text.specs.declared.word.Word.TheVariants as word
use Rattle.drive_text.specs.Marks.{body_of_text}
use Rattle.drive_text.specs.Numbers.{number_of}
use Rattle.drive_text.specs.Options.{then_option}

-- a text cut at its first space
pub record Cut : Type 0 where
  pub front : List ℕ
  pub back : List ℕ

abbrev pub cut_at : List ℕ → Option ℕ → Option Cut
cut_at text None = None
cut_at text (Some i) = Some (record { front = take i text; back = drop (i + 1) text })

abbrev pub cut_of : List ℕ → Option Cut
cut_of text = cut_at text (position (λ b. nat_eq b 32) text)

abbrev pub word_of : List ℕ → Option Word
word_of text =
    if bytes_eq text (codes "join") then Some word.Join else
    (if bytes_eq text (codes "ed") then Some word.Ed else
    (if bytes_eq text (codes "gone") then Some word.Gone else
    (if bytes_eq text (codes "up") then Some word.Up else
    (if bytes_eq text (codes "nostart") then Some word.NoStart else
    (if bytes_eq text (codes "sv") then Some word.Sv else
    (if bytes_eq text (codes "exit") then Some word.Exit else
    (if bytes_eq text (codes "drained") then Some word.Drained else
    (if bytes_eq text (codes "tick") then Some word.Tick else None))))))))

abbrev pub why_of : List ℕ → Option Why
why_of text =
    if bytes_eq text (codes "end") then Some End else
    (if bytes_eq text (codes "read") then Some ReadFault else
    (if bytes_eq text (codes "write") then Some WriteFault else
    (if bytes_eq text (codes "frame") then Some BadFrame else None)))

-- a number, and what stands behind it and a space
pub record Numbered : Type 0 where
  pub number : ℕ
  pub back : List ℕ

abbrev pub numbered : List ℕ → Option Numbered
numbered text = then_option (cut_of text) (λ cut. option_map (λ n. record { number = n; back = cut.back }) (number_of cut.front))

-- a number, a space, and what this reads behind it
abbrev pub with_number : {A B : Type 0} → (List ℕ → Option A) → (ℕ → A → B) → List ℕ → Option B
with_number read make text = then_option (numbered text) (λ cut. option_map (make cut.number) (read cut.back))

-- what the text behind the word and its space says
abbrev pub cause_by : Word → List ℕ → Option Cause
cause_by word.Join text = option_map Joined (number_of text)
cause_by word.Ed text = with_number body_of_text FromEditor text
cause_by word.Gone text = with_number why_of EditorGone text
cause_by word.Up text = option_map Started (number_of text)
cause_by word.NoStart text = option_map StartFailed (number_of text)
cause_by word.Sv text = with_number body_of_text FromServer text
cause_by word.Exit text = option_map ServerGone (number_of text)
cause_by word.Drained text = with_number number_of Drained text
cause_by word.Tick text = option_map Tick (number_of text)

-- the cause that a line writes
abbrev pub cause_of : List ℕ → Option Cause
cause_of line = then_option (cut_of line) (λ cut. then_option (word_of cut.front) (λ w. cause_by w cut.back))
