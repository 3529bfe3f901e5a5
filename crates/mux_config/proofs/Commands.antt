-- What a value of a setting may be.
use Rattle.std.proofs.Common.{◌≡◌, Bool, true, ◌&&◌, ◌≤◌, List, [], ◌∷◌, length, refl, sym, ap, ◌∙◌, subst, arith}
use Rattle.std.specs.Prelude.{Some}
use Rattle.toml.specs.Data.{Data, string, integer, float, boolean, datetime, array, table, Items, as_array}
use Rattle.toml.specs.declared.value.Value.{Value}
use Rattle.toml.specs.View.{items_view}
use Rattle.mux_config.specs.Settings.{all_strings, has_item, is_command}

pub command_is : (d : Data) (is : Items) (b : Bool) → Some is ≡ as_array d → b ≡ (has_item is && all_strings is) → b ≡ is_command d
command_is (array ds) is b e f = let same : is ≡ ds = cc in subst (λ xs. b ≡ (has_item xs && all_strings xs)) same f
command_is (string s) is b e f = absurd (cc)
command_is (integer z) is b e f = absurd (cc)
command_is (float x) is b e f = absurd (cc)
command_is (boolean x) is b e f = absurd (cc)
command_is (datetime x) is b e f = absurd (cc)
command_is (table ms) is b e f = absurd (cc)

has_some : (vs : List Value) → 1 ≤ length vs → has_item (items_view vs) ≡ true
has_some [] l = absurd (omega arith)
has_some (v ∷ vs) l = refl

pub words_are : (vs : List Value) (b : Bool) → 1 ≤ length vs → b ≡ all_strings (items_view vs) → b ≡ (has_item (items_view vs) && all_strings (items_view vs))
words_are vs b l e = e ∙ sym (ap (λ t. t && all_strings (items_view vs)) (has_some vs l))
