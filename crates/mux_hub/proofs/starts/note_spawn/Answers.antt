use Rattle.std.proofs.Common.{◌++◌, [], ◌∷◌, ap, sym, ◌∙◌, slice_get}
use Rattle.event_model.specs.Event.{said}
use Rattle.group_words.specs.Houses.{groups_of}
use Rattle.mux_hub.specs.Starts.{server_in, servers_of}
use Rattle.mux_hub.proofs.Spawned.{other_noted, spawn_noted}
use Rattle.mux_hub.proofs.starts.note_spawn.Goals as goal

pub returns-in_ok-push : goal.returns-in_ok-push
returns-in_ok-push c = λ settings base now d st same is.
    c.in_ok-push.ensures.items ∙ (spawn_noted settings base now c.in-Spawn.field-0 c.in-Spawn.group c.args.servers.now.items c.server_in.result same is
    (c.server_in.ensures settings now st ∙ ap (λ n. server_in n (slice_get (groups_of settings now) c.in-Spawn.group)) (sym d))
    ∙ ap (λ o. servers_of settings (base ++ said o ∷ [])) (sym c.in-Spawn.is))

pub returns-in_default : goal.returns-in_default
returns-in_default c = λ settings base now d st same is. other_noted settings base c.args.out.now c.args.servers.now.items c.in_default.not-Spawn is
