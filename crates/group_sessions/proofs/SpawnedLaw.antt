-- No start is spawned twice: each gets the number of those that were spawned before, whatever group it is for.
use Rattle.std.proofs.Common.{ℕ, ◌≤◌, List, refl}
use Rattle.mux_history.specs.Cores.{spawns}
use Rattle.mux_history.specs.declared.entry.Entry.{Entry}
use Rattle.mux_history.specs.declared.out.Out.TheVariants.{ToEditor, ToServer, CloseEditor, EndServer}
use Rattle.event_model.specs.Event.{events_of, heard, said}
use Rattle.event_model.specs.Settings.{Settings}
use Rattle.mux_facts.specs.Ranges.{InRange}
use Rattle.session_laws.proofs.SpawnedLaw.{Once, heard_starts, heard_still, none_spawned, once_counts, one_more, still}
use Rattle.group_facts.specs.Legal.{Legal}
use Rattle.group_facts.proofs.RestLaws.{Law, law_holds}

law : (settings : Settings) → Law settings Once
law settings = record {
  took = λ before cause fits known h. still before (heard cause) (λ s n. heard_still s n cause) (λ n. heard_starts n cause) h;
  to_editor = λ before cause events e body why known here h i. still events (said (ToEditor e body)) (λ s n. refl) (λ n. refl) i;
  to_server = λ before cause events s body why known here h i. still events (said (ToServer s body)) (λ k n. refl) (λ n. refl) i;
  close = λ before cause events e turned there known here h i. still events (said (CloseEditor e)) (λ s n. refl) (λ n. refl) i;
  end = λ before cause events s starting known here h i. still events (said (EndServer s)) (λ k n. refl) (λ n. refl) i;
  spawn = λ before cause events g inside known here h i. one_more events g i;
  rest = λ before cause fits known h i. i;
  turn = λ place e slow known h. h;
  left = λ place e slow known h i. i;
}

-- each start that was spawned was so once, under the next number
pub numbered : (settings : Settings) → InRange settings → (history : List Entry) → Legal settings history → Once (events_of history)
numbered settings range history legal = law_holds settings range Once (law settings) none_spawned history legal

pub spawned_once_law : (settings : Settings) → InRange settings → (history : List Entry) → Legal settings history → (s : ℕ) → spawns s history ≤ 1
spawned_once_law settings range history legal s = once_counts history s (numbered settings range history legal)
