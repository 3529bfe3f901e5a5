use Rattle.std.proofs.Common.{ap, ◌∙◌}
use Rattle.mux_config.specs.Settings.{is_object_kind}
use Rattle.mux_config.proofs.Ceilings.{object_kind}
use Rattle.mux_config.proofs.values.holds_object.Goals as goal

pub returns : goal.returns
returns c t h = c.is_object_kind.ensures ∙ ap is_object_kind (c.kind.ensures t (c.root.ensures.value t h)) ∙ object_kind t
