-- One more cause, and where driving ends.
use Rattle.std.proofs.Common.{◌≡◌, ℕ, ◌+◌, ◌≤◌, Bool, true, false, List, [], ◌∷◌, ◌++◌, fold, length, refl, ap, sym, subst, ◌∙◌, append-nil, arith}
use Rattle.std.specs.Prelude.{Option, Result, Ok, Err, IsTrue}
use Rattle.std.proofs.lemmas.List.Sums.{fold-append}
use Rattle.mux_history.specs.declared.cause.Cause.{Cause}
use Rattle.mux_history.specs.declared.entry.Entry.{Entry}
use Rattle.mux_history.specs.declared.out.Out.{Out}
use Rattle.event_model.specs.Event.{events_of}
use Rattle.event_model.specs.Settings.{Settings}
use Rattle.mux_model.specs.Fits.{fits}
use Rattle.mux_steps.specs.Faults.{Counted}
use Rattle.mux_steps.specs.declared.fault.StepFault.{StepFault}
use Rattle.mux_steps.specs.declared.fault.StepFault.TheVariants as step_fault
use Rattle.mux_hub.specs.Entries.{emits, entry_of, passes}
use Rattle.mux_hub.specs.Hubs.{HubStands, HubView}
use Rattle.mux_hub.proofs.Counting.{entry_counts}
use Rattle.drive_program.specs.Runs.{after}
use Rattle.drive_program.specs.declared.refusal.Refusal.TheVariants.{Absent}
use Rattle.drive_program.specs.declared.stop.Stop.{Stop}
use Rattle.drive_program.specs.declared.stop.Stop.TheVariants as stop
use Rattle.outside_io.specs.Faults.{Rose}
use Rattle.make_program.specs.Counts.{counts_of, with_entry, with_out}
use Rattle.make_program.specs.Runs.{Driven, history_of, stop_of}
use Rattle.make_program.specs.declared.counts.Counts.{Counts}
use Rattle.make_program.proofs.Counting.{count_causes, counts_more, sum_counts}

pub history_more : (settings : Settings) (taken : List Cause) (cause : Cause) → history_of settings (taken ++ cause ∷ []) ≡ after settings (history_of settings taken) cause
history_more settings taken cause = fold-append (after settings) [] taken (cause ∷ [])

after_is : (settings : Settings) (history : List Entry) (cause : Cause) → history ++ entry_of settings history cause ∷ [] ≡ after settings history cause
unfolding after
after_is settings history cause = refl

pub none_left : (causes : List Cause) → length causes ≡ 0 → causes ≡ []
none_left [] e = refl
none_left (cause ∷ causes) e = absurd (omega (arith, e))

-- no cause was taken
pub undriven : {J : Type 0} (told : J → Option (List Entry)) (settings : Settings) (causes : List Cause) (hub : HubView J) → HubStands told hub [] → Driven told settings causes hub (Err stop.Memory)
undriven told settings causes hub s = record { taken = []; rest = causes; all = refl; stands = s; done = tt; stopped = tt }

-- all were
pub driven_all : {J : Type 0} (told : J → Option (List Entry)) (settings : Settings) (causes taken : List Cause) (hub : HubView J) (counts : Counts) → taken ≡ causes → HubStands told hub (history_of settings taken) → counts ≡ counts_of (history_of settings taken)
    → Driven told settings causes hub (Ok counts)
driven_all told settings causes taken hub counts e s c = record { taken = taken; rest = []; all = sym e ∙ sym (append-nil taken); stands = s; done = (refl, c); stopped = tt }

-- so many causes can be counted
pub few_causes : {J : Type 0} (told : J → Option (List Entry)) (history : List Entry) (hub : HubView J) (counts : Counts) → counts ≡ counts_of history → HubStands told hub history → counts.causes ≤ 9223372036854775807
few_causes told history hub counts is stands =
    let sum : counts.causes + counts.outs ≡ length (events_of history) = ap (λ (k : Counts). k.causes + k.outs) is ∙ sum_counts history in
    omega (arith, sum, stands.few)

-- a journal's fault is one of a step
same_stop : (a b : Stop) (r : Result Counts Stop) → r ≡ Err a → r ≡ Err b → a ≡ b
same_stop a b r e f = cc

journal_fault : (fault : StepFault) → stop_of fault ≡ stop.Journal → fault ≡ step_fault.Journal
journal_fault step_fault.Memory e = absurd cc
journal_fault step_fault.Spent e = absurd cc
journal_fault step_fault.Journal e = refl
journal_fault step_fault.Numbers e = absurd cc

pub journal_rose : (fault : StepFault) (before mid now : ℕ) (r : Result Counts Stop) → before ≤ mid → (fault ≡ step_fault.Journal → Rose mid now) → r ≡ Err (stop_of fault) → r ≡ Err stop.Journal → Rose before now
journal_rose fault before mid now r l rose e f = let rises = rose (journal_fault fault (same_stop (stop_of fault) stop.Journal r e f)) in omega (arith, rises, l)

module _ {J : Type 0} (told : J → Option (List Entry)) (settings given : Settings) (same : given ≡ settings) (taken : List Cause) (cause : Cause) (counts : Counts) (is : counts ≡ counts_of (history_of settings taken)) where
  -- the hub behind the step
  pub stands_more : (now : HubView J) → HubStands told now (history_of settings taken ++ entry_of given (history_of settings taken) cause ∷ []) → HubStands told now (history_of settings (taken ++ cause ∷ []))
  stands_more now s =
      subst (HubStands told now)
      (ap (λ (q : Settings). history_of settings taken ++ entry_of q (history_of settings taken) cause ∷ []) same ∙ (after_is settings (history_of settings taken) cause ∙ sym (history_more settings taken cause))) s

  -- the counts behind it
  pub counts_behind : (outs : List Out) (now : Counts) → outs ≡ emits given (history_of settings taken) cause → now ≡ fold with_out (record counts { causes = counts.causes + 1 }) outs → now ≡ counts_of (history_of settings (taken ++ cause ∷ []))
  counts_behind outs now o e =
      let at : outs ≡ emits settings (history_of settings taken) cause = o ∙ ap (λ (q : Settings). emits q (history_of settings taken) cause) same in
      e ∙ (ap (λ (os : List Out). fold with_out (record counts { causes = counts.causes + 1 }) os) at
      ∙ (ap (λ (n : Counts). with_entry n (entry_of settings (history_of settings taken) cause)) is
      ∙ (sym (counts_more settings (history_of settings taken) cause) ∙ ap counts_of (sym (history_more settings taken cause)))))

  -- there is room for them
  pub room : (outs : List Out) (now : HubView J) → outs ≡ emits given (history_of settings taken) cause → HubStands told now (history_of settings taken ++ entry_of given (history_of settings taken) cause ∷ [])
      → counts.causes + counts.outs + (1 + length outs) ≤ 9223372036854775807
  room outs now o s =
      let n : length (events_of (history_of settings taken ++ entry_of given (history_of settings taken) cause ∷ [])) ≡ length (events_of (history_of settings taken)) + (1 + length (emits given (history_of settings taken) cause))
      = entry_counts (history_of settings taken) (entry_of given (history_of settings taken) cause) in
      let c : counts.causes + counts.outs ≡ length (events_of (history_of settings taken)) = ap (λ (k : Counts). k.causes + k.outs) is ∙ sum_counts (history_of settings taken) in
      let l : length outs ≡ length (emits given (history_of settings taken) cause) = ap length o in
      omega (arith, n, c, l, s.few)

  -- where it ends before this cause
  module _ (causes rest : List Cause) (all : causes ≡ taken ++ cause ∷ rest) (hub : HubView J) (stands : HubStands told hub (history_of settings taken)) where
    pub absent : fits (history_of settings taken) cause ≡ false → Driven told settings causes hub (Err (stop.Refused (counts.causes + 1) Absent))
    absent e =
        let n : counts.causes ≡ length (history_of settings taken) = ap (λ (k : Counts). k.causes) is ∙ count_causes (history_of settings taken) in
        record {
          taken = taken;
          rest = cause ∷ rest;
          all = all;
          stands = stands;
          done = tt;
          stopped = (ap (λ (k : ℕ). k + 1) n, e);
        }

    pub faulted : (fault : StepFault) → IsTrue (fits (history_of settings taken) cause) → Counted (passes given (history_of settings taken) cause) (Err fault) → Driven told settings causes hub (Err (stop_of fault))
    faulted step_fault.Memory f c = record { taken = taken; rest = cause ∷ rest; all = all; stands = stands; done = tt; stopped = tt }
    faulted step_fault.Spent f c = record { taken = taken; rest = cause ∷ rest; all = all; stands = stands; done = tt; stopped = tt }
    faulted step_fault.Journal f c = record { taken = taken; rest = cause ∷ rest; all = all; stands = stands; done = tt; stopped = f }
    faulted step_fault.Numbers f c = record {
      taken = taken;
      rest = cause ∷ rest;
      all = all;
      stands = stands;
      done = tt;
      stopped = (f, ap (λ (q : Settings). passes q (history_of settings taken) cause) (sym same) ∙ c);
    }
