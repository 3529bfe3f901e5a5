-- The program and its subcommands, as clap reads them.
use Rattle.std.specs.Prelude.{◌≡◌, [], ◌∷◌, Some, codes, false, true}
use Rattle.clap.specs.Words.{App, Rule, Text, app_of, new_app, new_rule, with_rule, with_subcommand}
use Rattle.clap.specs.declared.builder.action.ArgAction.TheVariants.{Set, SetTrue}
use Rattle.clap.specs.declared.builder.command.Command.{Command}
use Rattle.clap.specs.declared.builder.command.Command.TheViews.{out-Command}
use Rattle.clap.specs.declared.builder.value_parser.ValueParser.TheVariants.{NonEmptyString}

-- `--NAME VALUE` or `--NAME=VALUE`, at most once; the value isn't empty
abbrev pub option_rule : Text → Rule
option_rule name = record (new_rule name) { long = Some name; value_names = 1; action = Some Set; parser = Some NonEmptyString }

-- `--NAME`, at most once
abbrev pub flag_rule : Text → Rule
flag_rule name = record (new_rule name) { long = Some name; action = Some SetTrue }

-- a word that has to be there
abbrev pub positional_rule : Text → Rule
positional_rule name = record (new_rule name) { required = true; action = Some Set }

abbrev pub config : Rule
config = option_rule (codes "config")

-- a subcommand with the option `--config`
abbrev pub configured : Text → App
configured name = with_rule (new_app name) config

abbrev pub serve : App
serve = with_rule (configured (codes "serve")) (option_rule (codes "log"))

abbrev pub client : App
client = with_rule (configured (codes "client")) (option_rule (codes "server"))

abbrev pub make : App
make = with_rule (with_rule (with_rule (new_app (codes "make")) (flag_rule (codes "lines"))) (positional_rule (codes "N"))) (positional_rule (codes "SEED"))

-- no program's name stands before the words; there is no help and no version; a subcommand is wanted
abbrev pub top : App
top = record (new_app (codes "lspmux")) {
  top = record (new_app (codes "lspmux")).top {
    no_binary_name = true;
    disable_help_flag = true;
    disable_help_subcommand = true;
    disable_version_flag = true;
    subcommand_required = true;
  };
}

abbrev pub beside : App → App → App
beside program subcommand = with_subcommand program subcommand.top

-- with the subcommands that run a hub
abbrev pub with_hubs : App
with_hubs = beside (beside top (configured (codes "drive"))) serve

-- and with two that dial a daemon
abbrev pub with_links : App
with_links = beside (beside with_hubs client) (configured (codes "status"))

abbrev pub program : App
program = beside (beside with_links (configured (codes "stop"))) make

-- this command is made as the description says
abbrev pub IsMade : App → Command → Type 0
IsMade app c = (app_of c ≡ app) × ((out-Command c).has_globals ≡ false)
