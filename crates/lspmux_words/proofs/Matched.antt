-- What clap found.
use Rattle.std.proofs.Common.{◌≡◌, ◌≢◌, ◌==◌, ◌⊎◌, inl, inr, ℕ, Bool, true, false, List, [], ◌∷◌, length, is_some, Option, Some, None, option_map, refl, arith}
use Rattle.std.proofs.lemmas.Bool.{ne_eqb}
use Rattle.std.specs.Box.{box_value}
use Rattle.std.specs.Prelude.{Box}
use Rattle.clap.specs.Words.{HasKind, Kinds, Row, Text, kind_of, subcommand_rows, subcommand_rows_of}
use Rattle.clap.specs.Matches.{has_subcommand, subcommand_name_of}
use Rattle.clap.specs.declared.error.Error.{Error}
use Rattle.clap.specs.declared.error.kind.ErrorKind.TheVariants.{OutOfMemory}
use Rattle.clap.specs.declared.parser.matches.ArgMatches.{ArgMatches}
use Rattle.clap.specs.declared.parser.matches.ArgMatches.TheViews.{out-ArgMatches, out-SubCommand}
use Rattle.clap.specs.declared.parser.matches.SubCommand.{SubCommand}

-- the name and the matches of the subcommand that was met
pub met : (m : ArgMatches) (name : Text) (rows : List Row) → Some name ≡ subcommand_name_of m
    → Some rows ≡ option_map (λ p. p.1) (subcommand_rows_of m) → subcommand_rows_of m ≡ Some (name, rows)
met m name rows n r = go (out-ArgMatches m).subcommand n r
  where
    go : {Z : Type 0} (s : Option (Box SubCommand Z)) → Some name ≡ option_map (λ b. (out-SubCommand (box_value b)).name.now) s
        → Some rows ≡ option_map (λ p. p.1) (subcommand_rows s) → subcommand_rows s ≡ Some (name, rows)
    go None n r = cc
    go (Some b) n r = cc

pub unmet : (m : ArgMatches) → false ≡ has_subcommand m → subcommand_rows_of m ≡ None
unmet m h = go (out-ArgMatches m).subcommand h
  where
    go : {Z : Type 0} (s : Option (Box SubCommand Z)) → false ≡ is_some s → subcommand_rows s ≡ None
    go None h = refl
    go (Some b) h = cc

-- a parse that failed for another cause than memory has a fault
pub has_fault : (kinds : Kinds) (e : Error) → HasKind kinds e → kind_of e ≢ OutOfMemory → (length kinds == 0) ≡ false
has_fault kinds e (inl memory) not_memory = absurd (not_memory memory)
has_fault [] e (inr among) not_memory = absurd among
has_fault (k ∷ ks) e (inr among) not_memory = ne_eqb _ _ (λ z. omega arith)
