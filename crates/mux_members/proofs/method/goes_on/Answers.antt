use Rattle.std.proofs.Common.{◌∙◌, ap}
use Rattle.mux_model.specs.Methods.{goes_on}
use Rattle.mux_members.proofs.method.goes_on.Goals as goal

pub returns : goal.returns
returns c = λ bytes method params read is. c.class_goes_on.ensures ∙ ap goes_on (c.notice_class.ensures bytes method params read is)
