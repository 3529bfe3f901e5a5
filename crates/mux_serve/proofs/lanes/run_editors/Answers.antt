use Rattle.mux_serve.proofs.lanes.run_editors.Goals as goal

pub returns-clause-own : goal.returns-clause-own
returns-clause-own g c = λ e t at. c.run_port.ensures e at
