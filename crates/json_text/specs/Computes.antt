-- One name that opens all of a reading, for worked examples: a proof by `refl` says `unfolding computes`.
use lib.Utf8.{encode}
use Rattle.std.specs.Char.Utf16.{utf16_chars}
use Rattle.json_text.specs.Read.{skip, expect_all, all_digits, decimals, whole_digits, number_bytes, read_pieces, read_string, read_more}
use Rattle.json_text.specs.Tree.{read_value, tree_of}

unfoldable pub computes : Unit {0}
unfolding tree_of read_value skip expect_all all_digits decimals whole_digits number_bytes read_pieces read_string read_more encode utf16_chars
computes = tt
