-- Which class of methods the built rows know.
use Rattle.std.specs.Prelude.{Bool, true, false}
use Rattle.lsp_method.specs.declared.variants.Class.{Class}
use Rattle.lsp_method.specs.declared.variants.Class.TheVariants.{Other}

abbrev pub is_other : Class → Bool
is_other Other = true
is_other _ = false
