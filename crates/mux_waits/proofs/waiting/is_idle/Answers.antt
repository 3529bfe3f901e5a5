-- Nothing waits where there is no first one.
use Rattle.std.proofs.Common.{◌≡◌, List, [], ◌∷◌, refl, sym, ap, ◌∙◌}
use Rattle.std.specs.Prelude.{None, slice_get}
use Rattle.held_requests.specs.declared.request.Request.{Request}
use Rattle.mux_waits.specs.Rows.{held_in}
use Rattle.mux_waits.proofs.waiting.is_idle.Goals as goal

no_first : (rs : List Request) → slice_get rs 0 ≡ None → rs ≡ []
no_first [] h = refl
no_first (r ∷ rs) h = absurd (cc)

pub returns-in-None-first : goal.returns-in-None-first
returns-in-None-first c = λ _. ap held_in (sym c.in-Some.ensures.value) ∙ no_first c.in-Some.held.now (sym c.in-None-first.ensures)
