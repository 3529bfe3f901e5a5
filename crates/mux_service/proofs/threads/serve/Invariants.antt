use Rattle.mux_service.proofs.threads.serve.Given as goal

abbrev pub ghosts-serve_named : goal.ghosts-serve_named
ghosts-serve_named g a = record { settings = a.hub.settings }
