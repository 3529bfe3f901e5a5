-- The parts of a key.
use Rattle.std.proofs.Common.{◌≡◌, ℕ, List, codes, map, sym, ◌∙◌, ap, ap₂}
use Rattle.std.specs.Prelude.{Option}
use Rattle.json_text.specs.Json.{Json}
use Rattle.event_model.specs.Members.{bytes_if, options_of, params_of}
use Rattle.group_words.specs.Houses.{folders_of, normal_of}
use Rattle.group_words.specs.Keys.{Common}

abbrev key : ℕ → List (List ℕ × List ℕ) → List (List ℕ) → Option (List ℕ) → Common
key server folders normal options = record { server = server; folders = folders; normal = normal; options = options }

pub keyed : (server : ℕ) (folders : List (List ℕ × List ℕ)) (normal : List (List ℕ)) (options : Option (List ℕ)) (body : List ℕ) (params : Option Json) → params_of body ≡ params → folders ≡ folders_of params → normal ≡ map normal_of folders
    → options ≡ bytes_if (codes "initializationOptions") params body → key server folders normal options ≡ key server (folders_of (params_of body)) (map normal_of (folders_of (params_of body))) (options_of body)
keyed server folders normal options body params is fs ns os =
    let all : folders ≡ folders_of (params_of body) = fs ∙ ap folders_of (sym is) in
    ap₂ (λ ns o. key server folders ns o) (ns ∙ ap (map normal_of) all) (os ∙ ap (λ p. bytes_if (codes "initializationOptions") p body) (sym is))
    ∙ ap (λ f. key server f (map normal_of (folders_of (params_of body))) (options_of body)) all
