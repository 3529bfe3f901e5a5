-- How a rule of the parts of all starts, or of all editors, becomes a law of several editors and groups: by what is shown where a body is sent, and perhaps an invariant of its own.
use Rattle.std.proofs.Common.{◌≡◌, ℕ, false, List, [], ◌∷◌, ◌++◌, refl, subst}
use Rattle.mux_history.specs.declared.cause.Cause.{Cause}
use Rattle.mux_history.specs.declared.cause.Cause.TheVariants.{Joined}
use Rattle.mux_history.specs.declared.entry.Entry.{Entry}
use Rattle.mux_history.specs.declared.out.Out.TheVariants.{CloseEditor, EndServer, ToEditor, ToServer, Spawn}
use Rattle.event_model.specs.Event.{Event, heard, said, with_cause, events_of}
use Rattle.event_model.specs.Settings.{Settings}
use Rattle.event_model.specs.Spawns.{starts_of}
use Rattle.event_model.specs.Always.{Always}
use Rattle.event_model.specs.Parts.{editor_part, is_of_editor, server_part, is_of_server}
use Rattle.mux_facts.specs.Ranges.{InRange}
use Rattle.mux_facts.proofs.Rules.{rule_more}
use Rattle.mux_facts.proofs.Words.{number_same}
use Rattle.session_laws.proofs.Client4Law.{is_told}
use Rattle.session_laws.proofs.PartLaws.{No, is_to_server}
use Rattle.group_facts.specs.Legal.{Legal}
use Rattle.group_facts.specs.Why.{WhyToEditor, WhyToServer}
use Rattle.group_facts.proofs.Facts.{Facts, Mid}
use Rattle.group_facts.proofs.RestLaws.{Law, RestLaw, law_holds, rest_holds}

pub no_law : (settings : Settings) → Law settings No
no_law settings = record {
  took = λ before cause fits known h. tt;
  to_editor = λ before cause events e body why known here h i. tt;
  to_server = λ before cause events s body why known here h i. tt;
  close = λ before cause events e turned there known here h i. tt;
  end = λ before cause events s starting known here h i. tt;
  spawn = λ before cause events g inside known here h i. tt;
  rest = λ before cause fits known h i. tt;
  turn = λ place e slow known h. tt;
  left = λ place e slow known h i. tt;
}

-- what is to be shown of a rule: that it speaks of bodies to a start alone, and that it holds of each, with an invariant of its own: I between entries, and M inside of one
pub record ServerRule (settings : Settings) (I : List Event → Type 0) (M : List Event → Cause → List Event → Type 0) (Rule : List Event → Event → Type 0) : Type 0 where
  pub law : RestLaw settings I M
  pub free : (part : List Event) (event : Event) → is_to_server event ≡ false → Rule part event
  pub sent : (before : List Event) (cause : Cause) (events : List Event) (s : ℕ) (body : List ℕ) → WhyToServer settings before cause events s body → Facts settings before → Mid settings before cause events → I before → M before cause events
      → Rule (server_part s events) (said (ToServer s body))

-- what is to be shown of a rule of the parts of editors that asks no fact: that it speaks of bodies to an editor alone, and that it holds of each
pub record EditorRule (settings : Settings) (Rule : List Event → Event → Type 0) : Type 0 where
  pub free : (part : List Event) (event : Event) → is_told event ≡ false → Rule part event
  pub told : (before : List Event) (cause : Cause) (events : List Event) (e : ℕ) (body : List ℕ) → WhyToEditor settings before cause events e body → Rule (editor_part e events) (said (ToEditor e body))

module _ (settings : Settings) (Rule : List Event → Event → Type 0) (rule : EditorRule settings Rule) where
  abbrev EditorRules : List Event → Type 0
  EditorRules events = (e : ℕ) → Always Rule (editor_part e events)

  editor_free : (events : List Event) (event : Event) → is_told event ≡ false → EditorRules events → EditorRules (events ++ event ∷ [])
  editor_free events event other h e = rule_more Rule (is_of_editor e) events event (h e) (λ same. rule.free (editor_part e events) event other)

  editor_took : (before : List Event) (cause : Cause) → EditorRules before → EditorRules (with_cause before cause)
  editor_took before (Joined e) h = editor_free before (heard (Joined e)) refl h
  editor_took before cause h = editor_free before (heard cause) refl h

  editor_law : Law settings EditorRules
  editor_law = record {
    took = λ before cause fits known h. editor_took before cause h;
    to_editor = λ before cause events n body why known here h i. λ e. rule_more Rule (is_of_editor e) events (said (ToEditor n body)) (i e)
        (λ same. subst (λ k. Rule (editor_part k events) (said (ToEditor n body))) (number_same n e same) (rule.told before cause events n body why));
    to_server = λ before cause events s body why known here h i. editor_free events (said (ToServer s body)) refl i;
    close = λ before cause events e turned there known here h i. editor_free events (said (CloseEditor e)) refl i;
    end = λ before cause events s starting known here h i. editor_free events (said (EndServer s)) refl i;
    spawn = λ before cause events g inside known here h i. editor_free events (said (Spawn (starts_of events) g)) refl i;
    rest = λ before cause fits known h i. i;
    turn = λ place e slow known h. h;
    left = λ place e slow known h i. i;
  }

  pub editor_history : InRange settings → (history : List Entry) → Legal settings history → (e : ℕ) → Always Rule (editor_part e (events_of history))
  editor_history range history legal = law_holds settings range EditorRules editor_law (λ e. tt) history legal

record Kept (I : List Event → Type 0) (Rules : List Event → Type 0) (events : List Event) : Type 0 where
  own : I events
  rules : Rules events

record KeptInside (M : List Event → Cause → List Event → Type 0) (Rules : List Event → Type 0) (before : List Event) (cause : Cause) (events : List Event) : Type 0 where
  own : M before cause events
  rules : Rules events

module _ (settings : Settings) (I : List Event → Type 0) (M : List Event → Cause → List Event → Type 0) (Rule : List Event → Event → Type 0) (rule : ServerRule settings I M Rule) where
  abbrev ServerRules : List Event → Type 0
  ServerRules events = (s : ℕ) → Always Rule (server_part s events)

  server_free : (events : List Event) (event : Event) → is_to_server event ≡ false → ServerRules events → ServerRules (events ++ event ∷ [])
  server_free events event other h s = rule_more Rule (is_of_server s) events event (h s) (λ same. rule.free (server_part s events) event other)

  server_took : (before : List Event) (cause : Cause) → ServerRules before → ServerRules (with_cause before cause)
  server_took before (Joined e) h = server_free before (heard (Joined e)) refl h
  server_took before cause h = server_free before (heard cause) refl h

  server_law : RestLaw settings (Kept I ServerRules) (KeptInside M ServerRules)
  server_law = record {
    took = λ before cause fits known h. record { own = (rule.law).took before cause fits known h.own; rules = server_took before cause h.rules };
    to_editor = λ before cause events e body why known here h i. record { own = (rule.law).to_editor before cause events e body why known here h.own i.own; rules = server_free events (said (ToEditor e body)) refl i.rules };
    to_server = λ before cause events n body why known here h i. record {
      own = (rule.law).to_server before cause events n body why known here h.own i.own;
      rules = λ s. rule_more Rule (is_of_server s) events (said (ToServer n body)) (i.rules s)
          (λ same. subst (λ k. Rule (server_part k events) (said (ToServer n body))) (number_same n s same) (rule.sent before cause events n body why known here h.own i.own));
    };
    close = λ before cause events e turned there known here h i. record { own = (rule.law).close before cause events e turned there known here h.own i.own; rules = server_free events (said (CloseEditor e)) refl i.rules };
    end = λ before cause events s starting known here h i. record { own = (rule.law).end before cause events s starting known here h.own i.own; rules = server_free events (said (EndServer s)) refl i.rules };
    spawn = λ before cause events g inside known here h i. record { own = (rule.law).spawn before cause events g inside known here h.own i.own; rules = server_free events (said (Spawn (starts_of events) g)) refl i.rules };
    rest = λ before cause fits known h i. record { own = (rule.law).rest before cause fits known h.own i.own; rules = i.rules };
    turn = λ place e slow known h. record { own = (rule.law).turn place e slow known h.own; rules = h.rules };
    left = λ place e slow known h i. record { own = (rule.law).left place e slow known h.own i.own; rules = i.rules };
  }

  pub server_history : InRange settings → I [] → (history : List Entry) → Legal settings history → (s : ℕ) → Always Rule (server_part s (events_of history))
  server_history range start history legal = (rest_holds settings range (Kept I ServerRules) (KeptInside M ServerRules) server_law (record { own = start; rules = λ s. tt }) history legal).rules
