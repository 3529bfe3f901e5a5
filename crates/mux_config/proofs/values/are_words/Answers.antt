use Rattle.mux_config.proofs.Commands.{words_are}
use Rattle.mux_config.proofs.values.are_words.Goals as goal

pub returns-in-len1-up : goal.returns-in-len1-up
returns-in-len1-up c = words_are c.args.values.now c.are_strings.result c.in-len1-up.len_at_least c.are_strings.ensures
