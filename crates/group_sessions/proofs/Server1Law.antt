-- Bodies go to a start's program while it runs.
use Rattle.std.proofs.Common.{ℕ, List, [], ◌∷◌, ◌++◌, nat_eq, refl, subst}
use Rattle.mux_history.specs.declared.cause.Cause.{Cause}
use Rattle.mux_history.specs.declared.entry.Entry.{Entry}
use Rattle.mux_history.specs.declared.out.Out.TheVariants.{ToEditor, CloseEditor, EndServer}
use Rattle.event_model.specs.declared.stage.Stage.{Stage}
use Rattle.event_model.specs.declared.stage.Stage.TheVariants.{Ended}
use Rattle.event_model.specs.Event.{Event, said}
use Rattle.event_model.specs.Parts.{server_part}
use Rattle.event_model.specs.Settings.{Settings}
use Rattle.event_model.specs.Stages.{life_of, stage_ending}
use Rattle.mux_facts.specs.Ranges.{InRange}
use Rattle.mux_facts.proofs.Words.{pick}
use Rattle.session_laws.specs.ServerRules.{KeepsServer1, Program, ServerRule1, program_of}
use Rattle.session_laws.proofs.Server1Law.{IsUp, Link, Running, begun_up, free, is_up, more, ready_up, running_sent, running_spawned, running_took}
use Rattle.group_facts.specs.Legal.{Legal}
use Rattle.group_facts.specs.Why.{WhyToServer, begins, greets, conveys, forwarded, notes, tells, shuts, cancels, responds, exits, resolves, cancels_work}
use Rattle.group_facts.proofs.RestLaws.{Inside, Law}
use Rattle.group_sessions.proofs.PartLaws.{ServerRule, server_history}

ending : (stage : Stage) (p : Program) → Link (stage_ending stage) p
ending Ended p = tt
ending other p = tt

-- a start that is to end
running_ended : (events : List Event) (n : ℕ) → Running events → Running (events ++ said (EndServer n) ∷ [])
running_ended events n h = more events (said (EndServer n)) (λ s. pick Link (nat_eq n s) (record { stage = stage_ending (life_of s events).stage; started = (life_of s events).started }) (life_of s events) _ (program_of (server_part s events))
    (λ same. ending (life_of s events).stage _) (h s))

law : (settings : Settings) → Law settings Running
law settings = record {
  took = λ before cause fits known h. running_took before cause h;
  to_editor = λ before cause events e body why known here h i. more events (said (ToEditor e body)) i;
  to_server = λ before cause events n body why known here h i. running_sent events n body i;
  close = λ before cause events e turned there known here h i. more events (said (CloseEditor e)) i;
  end = λ before cause events n starting known here h i. running_ended events n i;
  spawn = λ before cause events g inside known here h i. running_spawned events g (here.steady).starts i;
  rest = λ before cause fits known h i. i;
  turn = λ place e slow known h. h;
  left = λ place e slow known h i. i;
}

-- a body finds the program running
module _ (settings : Settings) (before : List Event) (cause : Cause) (events : List Event) (s : ℕ) (body : List ℕ) where
  up : WhyToServer settings before cause events s body → Running events → IsUp (program_of (server_part s events))
  up (begins k) i = begun_up before cause events s k.stage k.from k.place i
  up (greets k) i = ready_up events s k.ready i
  up (conveys k) i = ready_up events s k.ready i
  up (forwarded k) i = ready_up events s k.ready i
  up (notes k) i = ready_up events s k.ready i
  up (tells k) i = ready_up events s k.ready i
  up (cancels k) i = ready_up events s k.ready i
  up (cancels_work k) i = ready_up events s k.ready i
  up (exits k) i = subst (λ z. Link z (program_of (server_part s events))) k.stopping (i s)
  up (shuts k) i = ready_up events s k.ready i
  up (resolves k) i = ready_up events s k.ready i
  up (responds k) i = subst (λ z. Link z (program_of (server_part s events))) k.waiting (i s)

rule : (settings : Settings) → ServerRule settings Running (Inside Running) ServerRule1
rule settings = record {
  law = law settings;
  free = free;
  sent = λ before cause events s body why known here h i. is_up (program_of (server_part s events)) (up settings before cause events s body why i);
}

pub server_1_law : (settings : Settings) → InRange settings → (history : List Entry) → Legal settings history → KeepsServer1 history
server_1_law settings range history legal = server_history settings Running (Inside Running) ServerRule1 (rule settings) range (λ s. refl) history legal
