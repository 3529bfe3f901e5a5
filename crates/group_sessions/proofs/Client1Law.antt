-- Nothing goes to an editor whose link ended, or was to be ended.
use Rattle.std.proofs.Common.{◌≡◌, ℕ, true, List, refl, sym, ◌∙◌, ap, subst}
use Rattle.mux_history.specs.declared.cause.Cause.{Cause}
use Rattle.mux_history.specs.declared.entry.Entry.{Entry}
use Rattle.event_model.specs.Event.{Event, with_cause}
use Rattle.event_model.specs.Phases.{desk_of, is_there}
use Rattle.event_model.specs.Settings.{Settings}
use Rattle.event_model.specs.Spawns.{starts_of}
use Rattle.mux_facts.specs.Ranges.{InRange}
use Rattle.mux_facts.proofs.Table.{there_taken}
use Rattle.session_laws.specs.ClientRules.{KeepsClient1}
use Rattle.session_laws.proofs.Client1Law.{Everywhere, closes, ends, spawns, to_editor, to_server, took_it}
use Rattle.group_facts.proofs.Listens.{listens_there}
use Rattle.group_facts.specs.Legal.{Legal}
use Rattle.group_facts.specs.Why.{WhyToEditor, calls, rejects, resumes, refuses, answers, turns_away, welcomes, passes, asks, recalls, shows, spreads, progresses, loses, winds_up, pays}
use Rattle.group_facts.proofs.RestLaws.{Law, law_holds}

-- each reason of a body to an editor has that it is there
module _ (settings : Settings) (before : List Event) (cause : Cause) (events : List Event) (e : ℕ) (body : List ℕ) where
  there : WhyToEditor settings before cause events e body → is_there (desk_of e events).phase ≡ true
  there (rejects k) = subst (λ z. is_there (desk_of e z).phase ≡ true) (sym (k.place ∙ ap (with_cause before) k.from)) (there_taken settings before e k.asked k.there)
  there (refuses k) = k.there
  there (loses k) = k.there
  there (answers k) = k.there
  there (turns_away k) = ap is_there (k.waiting).phase
  there (welcomes k) = ap is_there (k.waiting).phase
  there (passes k) = k.there
  there (asks k) = ap is_there (k.source).running
  there (resumes k) = ap is_there k.running
  there (pays k) = ap is_there k.running
  there (calls k) = ap is_there k.running
  there (spreads k) = ap is_there (k.source).running
  there (recalls k) = ap is_there (k.source).running
  there (progresses k) = listens_there (desk_of e events).phase k.hears
  there (shows k) = ap is_there k.running
  there (winds_up k) = ap is_there k.running

law : (settings : Settings) → Law settings Everywhere
law settings = record {
  took = λ before cause fits known h. took_it before cause fits ((known.steady).editors) h;
  to_editor = λ before cause events e body why known here h i. to_editor events e body (there settings before cause events e body why) i;
  to_server = λ before cause events s body why known here h i. to_server events s body i;
  close = λ before cause events e turned there known here h i. closes events e i;
  end = λ before cause events s starting known here h i. ends events s i;
  spawn = λ before cause events g inside known here h i. spawns events (starts_of events) g i;
  rest = λ before cause fits known h i. i;
  turn = λ place e slow known h. h;
  left = λ place e slow known h i. i;
}

pub client_1_law : (settings : Settings) → InRange settings → (history : List Entry) → Legal settings history → KeepsClient1 history
client_1_law settings range history legal e = (law_holds settings range Everywhere (law settings) (λ e. record { always = tt; link = refl }) history legal e).always
