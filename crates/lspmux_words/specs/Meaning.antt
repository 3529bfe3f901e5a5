-- What a list of words asks of the program.
use Rattle.std.specs.Prelude.{◌≡◌, ◌==◌, ◌&&◌, ⊤, false, ℕ, Bool, List, [], ◌∷◌, Option, Some, None, codes, decimal, if◌then◌else◌, length, nat_le, option_and_then, option_map}
use Rattle.std.specs.Borrow.{Bor}
use Rattle.std.specs.Option.{option_map_or}
use Rattle.std.specs.Str.{bytes_eq}
use Rattle.std.specs.Str.Parse.{digits_value}
use Rattle.clap.specs.Words.{Row, Text, fault_of, first_of, subcommand_of}
use Rattle.lspmux_words.specs.declared.command.Command.{Command}
use Rattle.lspmux_words.specs.declared.command.Command.TheVariants as command
use Rattle.lspmux_words.specs.declared.fault.WordsFault.{WordsFault}
use Rattle.lspmux_words.specs.declared.fault.WordsFault.TheVariants as fault
use Rattle.lspmux_words.specs.declared.level.Level.{Level}
use Rattle.lspmux_words.specs.declared.level.Level.TheVariants as level
use Rattle.lspmux_words.specs.Program.{program}

-- what words ask for
pub data Asked : Type 0 where
  drive : Option Text → Asked
  serve : Option Text → Level → Asked
  client : Option Text → Option Text → Asked
  status : Option Text → Asked
  stop : Option Text → Asked
  make : ℕ → ℕ → Asked
  make_lines : ℕ → ℕ → Asked

-- the text is this number in decimal digits, without a sign or a leading zero, and it lies from low to high
abbrev pub is_number : ℕ → ℕ → ℕ → Text → Bool
is_number low high n text = bytes_eq (decimal n) text && (nat_le low n && nat_le n high)

-- the number from low to high that a text is
abbrev pub number_in : ℕ → ℕ → Text → Option ℕ
number_in low high text = if is_number low high (digits_value 10 text) text then Some (digits_value 10 text) else None

abbrev pub level_in : Text → Option Level
level_in text = if bytes_eq text (codes "error") then Some level.Error
    else (if bytes_eq text (codes "warn") then Some level.Warn
    else (if bytes_eq text (codes "info") then Some level.Info
    else (if bytes_eq text (codes "debug") then Some level.Debug
    else (if bytes_eq text (codes "trace") then Some level.Trace else None))))

-- the level that is asked for; without one it is `warn`
abbrev pub level_or_warn : Option Text → Option Level
level_or_warn None = Some level.Warn
level_or_warn (Some text) = level_in text

abbrev pub made : Bool → ℕ → ℕ → Asked
made lines count seed = if lines then make_lines count seed else make count seed

abbrev pub is_set : Option Text → Bool
is_set text = option_map_or (λ t. bytes_eq t (codes "true")) text false

-- what a `make` of these matches asks for
abbrev pub made_in : List Row → Option Asked
made_in rows = option_and_then (λ count. option_map (made (is_set (first_of (codes "lines") rows)) count)
    (option_and_then (number_in 0 18446744073709551615) (first_of (codes "SEED") rows)))
    (option_and_then (number_in 1 1000000) (first_of (codes "N") rows))

-- what a subcommand of this name and these matches asks for
abbrev pub asked_in : Text → List Row → Option Asked
asked_in name rows =
    let config = first_of (codes "config") rows in
    if bytes_eq name (codes "drive") then Some (drive config)
    else (if bytes_eq name (codes "serve") then option_map (serve config) (level_or_warn (first_of (codes "log") rows))
    else (if bytes_eq name (codes "client") then Some (client config (first_of (codes "server") rows))
    else (if bytes_eq name (codes "status") then Some (status config)
    else (if bytes_eq name (codes "stop") then Some (stop config)
    else (if bytes_eq name (codes "make") then made_in rows else None)))))

-- what the subcommand that was met asks for
abbrev pub asked_by : Option (Text × List Row) → Option Asked
asked_by found = option_and_then (λ p. asked_in p.0 p.1) found

-- clap takes the words
abbrev pub is_taken : List Text → Bool
is_taken words = length (fault_of program words) == 0

-- what the words ask for; none where they are refused
abbrev pub meaning : List Text → Option Asked
meaning words = if is_taken words then asked_by (subcommand_of program words) else None

-- the text behind a reference
abbrev pub text : Option (Bor Text) → Option Text
text = option_map (λ s. s.now)

-- what a command stands for
abbrev pub asked : Command → Asked
asked (command.Drive config) = drive (text config)
asked (command.Serve config log) = serve (text config) log
asked (command.Client config server) = client (text config) (text server)
asked (command.Status config) = status (text config)
asked (command.Stop config) = stop (text config)
asked (command.Make count seed) = make count seed
asked (command.MakeLines count seed) = make_lines count seed

abbrev pub IsRefused : WordsFault → Type 0
IsRefused (fault.Refused why) = ⊤
IsRefused fault.Memory = ⊥
