-- The ceilings of settings are those that a hub takes.
use Rattle.std.proofs.Common.{◌≡◌, ℕ, Bool, true, List, [], ◌∷◌, refl}
use Rattle.std.specs.Prelude.{Option, Some, None, IfSome}
use Rattle.std.specs.List.{AllByRecursion}
use Rattle.json_text.specs.Json.{Json, word, number, string, array, object}
use Rattle.json_text.specs.Tree.{tree_of}
use Rattle.event_model.specs.declared.settings.Server.{Server}
use Rattle.group_words.specs.Houses as houses
use Rattle.mux_config.specs.Settings as settings
use Rattle.mux_config.specs.Chosen as chosen
use Rattle.mux_hub.specs.group_facts.specs.Ceilings as ceilings

same_object : (j : Option Json) → settings.is_object j ≡ true → houses.is_object j ≡ true
same_object None h = cc
same_object (Some (word s w)) h = cc
same_object (Some (number s cs)) h = cc
same_object (Some (string s cs)) h = cc
same_object (Some (array s js)) h = cc
same_object (Some (object s ms)) h = refl

one_ceiling : (text : Option (List ℕ)) → IfSome text chosen.IsCeiling → IfSome text ceilings.IsCeiling
one_ceiling None h = tt
one_ceiling (Some text) h = (h.0, same_object (tree_of text) h.1)

pub have_ceilings : (servers : List Server) → AllByRecursion (λ (s : Server). IfSome s.ceiling chosen.IsCeiling) servers → ceilings.HaveCeilings servers
have_ceilings [] h = tt
have_ceilings (s ∷ servers) h = (one_ceiling s.ceiling h.0, have_ceilings servers h.1)
