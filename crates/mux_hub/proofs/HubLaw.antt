-- A step of the hub leads from a history to the longer one.
use Rattle.std.proofs.Common.{◌≡◌, ℕ, ◌+◌, ◌^◌, ◌<◌, ◌≤◌, List, [], ◌∷◌, ◌++◌, length, nat_lt, if◌then◌else◌, ap, sym, subst, ◌∙◌, append_assoc, append-nil, refl, arith, lit≤, Bool, true, false}
use Rattle.std.specs.Prelude.{Option, Some, None, Err, IsTrue}
use Rattle.std.proofs.lemmas.List.Sums.{fold-append}
use Rattle.mux_history.specs.declared.cause.Cause.{Cause}
use Rattle.mux_history.specs.declared.out.Out.{Out}
use Rattle.mux_history.specs.declared.entry.Entry.{Entry}
use Rattle.mux_steps.specs.Journals.{append_told}
use Rattle.event_model.specs.Event.{Event, behind, events_of, with_cause, with_entry}
use Rattle.event_model.specs.Settings.{Settings}
use Rattle.mux_facts.specs.Ranges.{InRange}
use Rattle.mux_model.specs.Fits.{fits, fits_behind}
use Rattle.group_sessions.specs.group_facts.specs.Facts.{Known}
use Rattle.group_sessions.specs.group_facts.specs.Legal.{Legal, LegalFrom}
use Rattle.group_sessions.specs.group_facts.specs.Settled.{Settled}
use Rattle.group_sessions.specs.group_facts.proofs.Everywhere.{known_holds}
use Rattle.group_sessions.specs.group_facts.proofs.Settling.{settled_holds}
use Rattle.group_sessions.specs.group_facts.specs.SlowRows.{entry_outs}
use Rattle.mux_causes.specs.mux_tables.specs.declared.tables.Tables.{Tables}
use Rattle.mux_causes.specs.mux_tables.specs.Documents.{DocumentsStand, nothing_owed}
use Rattle.mux_causes.specs.mux_tables.specs.Stands.{Stands}
use Rattle.mux_causes.specs.mux_turns.specs.Carried.{CarriedStand, CarriesView}
use Rattle.group_sessions.specs.group_facts.specs.Ceilings.{HaveCeilings}
use Rattle.mux_causes.specs.Backlogs.{BacklogsStand}
use Rattle.mux_debts.specs.Stands.{DebtsStand}
use Rattle.mux_debts.specs.refresh_debts.specs.declared.debts.Debt.{Debt}
use Rattle.mux_hub.specs.Entries.{emits, entry_of, most_events, passes}
use Rattle.mux_steps.specs.Faults.{Counted, step_fault_of}
use Rattle.mux_steps.specs.declared.fault.StepFault.{StepFault}
use Rattle.mux_steps.specs.declared.journal.JournalFault.{JournalFault}
use Rattle.mux_steps.specs.declared.journal.JournalFault.TheVariants.{Failed, Memory}
use Rattle.mux_hub.proofs.OwnTexts.{own_more}
use Rattle.mux_hub.proofs.Quick.{none_slow}
use Rattle.mux_hub.proofs.Counting.{at_most, entry_counts, few_of, passes_by, too_many}
use Rattle.mux_hub.specs.Hubs.{HubView, HubStands, IsSound, TablesStand, Tells}

legal_from : (settings : Settings) (before rest : List Entry) (cause : Cause) → LegalFrom settings before rest → IsTrue (fits (before ++ rest) cause)
    → LegalFrom settings before (rest ++ entry_of settings (before ++ rest) cause ∷ [])
legal_from settings before [] cause l f =
    let e : before ++ [] ≡ before = append-nil before in
    (subst (λ h. IsTrue (fits h cause)) e f, ap (λ h. emits settings h cause) e, tt)
legal_from settings before (entry ∷ rest) cause l f =
    let e : (before ++ entry ∷ []) ++ rest ≡ before ++ entry ∷ rest = append_assoc before (entry ∷ []) rest in (
      l.0,
      l.1,
      subst (λ h. LegalFrom settings (before ++ entry ∷ []) (rest ++ entry_of settings h cause ∷ [])) e
          (legal_from settings (before ++ entry ∷ []) rest cause l.2 (subst (λ h. IsTrue (fits h cause)) (sym e) f)),
    )

-- a legal history and one more entry by the routing table are one
pub legal_more : (settings : Settings) (history : List Entry) (cause : Cause) → Legal settings history → IsTrue (fits history cause)
    → Legal settings (history ++ entry_of settings history cause ∷ [])
legal_more settings history cause l f = legal_from settings [] history cause l f

told_more : (told old : Option (List Entry)) (history : List Entry) (entry kept : Entry) → Tells old history → told ≡ append_told old (kept ∷ []) → kept ≡ entry → Tells told (history ++ entry ∷ [])
told_more told None history entry kept t e k = subst (λ o. Tells o (history ++ entry ∷ [])) (sym e) tt
told_more told (Some entries) history entry kept t e k = subst (λ o. Tells o (history ++ entry ∷ [])) (sym e) (ap (λ h. h ++ kept ∷ []) t ∙ ap (λ n. history ++ n ∷ []) k)

abbrev entry_record : Cause → List Out → Entry
entry_record cause xs = record { cause = cause; outs = xs }

-- the outs of a turn, and what the tables stand for behind it
abbrev pub Turns : Settings → List Event → Cause → List Out → Tables → CarriesView → List Debt → List ℕ → List ℕ → Type 0
Turns settings before cause xs now carries debts counts servers = (xs ≡ entry_outs settings before cause) × TablesStand settings now carries debts counts servers (behind (with_cause before cause) xs)

pub record Stepped {J : Type 0} (told : J → Option (List Entry)) (hub : HubView J) (cause : Cause) (xs : List Out) (now : Tables) (carries : CarriesView) (debts : List Debt) (counts servers : List ℕ) (count : ℕ) (journal : J) (history : List Entry) : Type 0 where
  pub outs : xs ≡ emits hub.settings history cause
  pub stands : HubStands told (record { settings = hub.settings; tables = now; carries = carries; debts = debts; backlogs = counts; starts = servers; events = count; spent = false; journal = journal }) (history ++ entry_of hub.settings history cause ∷ [])

pub stepped : {J : Type 0} (told : J → Option (List Entry)) (hub : HubView J) (cause : Cause) (xs : List Out) (now : Tables) (carries : CarriesView) (debts : List Debt) (counts servers : List ℕ) (count : ℕ) (journal : J) (history : List Entry) → HubStands told hub history → hub.spent ≡ false
    → InRange hub.settings → IsTrue (fits history cause)
    → ((settings : Settings) (before : List Event) → settings.limits ≡ hub.settings.limits → settings.servers ≡ hub.settings.servers → settings.default ≡ hub.settings.default → Known settings before → Settled settings before
    → fits_behind before cause ≡ true → TablesStand settings hub.tables hub.carries hub.debts hub.backlogs hub.starts before → Turns settings before cause xs now carries debts counts servers)
    → told journal ≡ append_told (told hub.journal) (record { cause = cause; outs = xs } ∷ []) → Some count ≡ (if nat_lt most_events (hub.events + (1 + length xs)) then None else Some (hub.events + (1 + length xs)))
    → Stepped told hub cause xs now carries debts counts servers count journal history
stepped told hub cause xs now carries debts counts servers count journal history h s range f takes t n =
    let events : List Event = events_of history in
    let turned : Turns hub.settings events cause xs now carries debts counts servers =
    takes hub.settings events refl refl refl (known_holds hub.settings range history h.legal) (settled_holds hub.settings range history h.legal) f (h.tables s) in
    let outs : xs ≡ emits hub.settings history cause = turned.0 in
    let kept : (count ≡ hub.events + (1 + length xs)) × (nat_lt most_events (hub.events + (1 + length xs)) ≡ false) = at_most (hub.events + (1 + length xs)) count n in
    let more : length (events_of (history ++ entry_of hub.settings history cause ∷ [])) ≡ length (events_of history) + (1 + length (emits hub.settings history cause)) = entry_counts history (entry_of hub.settings history cause) in
    let same_outs : length xs ≡ length (emits hub.settings history cause) = ap length outs in
    let old : hub.events ≡ length (events_of history) = h.count s in
    let longer : events_of (history ++ entry_of hub.settings history cause ∷ []) ≡ with_entry events (entry_of hub.settings history cause) = fold-append with_entry [] history (entry_of hub.settings history cause ∷ []) in
    let same : with_entry events (entry_record cause xs) ≡ with_entry events (entry_of hub.settings history cause) = ap (λ ys. with_entry events (entry_record cause ys)) outs in
    let standing : TablesStand hub.settings now carries debts counts servers (events_of (history ++ entry_of hub.settings history cause ∷ [])) = subst (λ evs. TablesStand hub.settings now carries debts counts servers evs) (same ∙ sym longer) turned.1 in
    record {
      outs = outs;
      stands = record {
        legal = legal_more hub.settings history cause h.legal f;
        told_by = told_more (told journal) (told hub.journal) history (entry_of hub.settings history cause) (entry_record cause xs) h.told_by t (ap (entry_record cause) outs);
        own = own_more hub.settings range hub.tables now history cause (legal_more hub.settings history cause h.legal f) (h.tables s).tables (h.tables s).documents standing.tables standing.documents h.own;
        few = few_of (length (events_of (history ++ entry_of hub.settings history cause ∷ []))) (ap (nat_lt most_events) more ∙ passes_by hub.settings history cause hub.events xs false old outs kept.1);
        count = λ _. omega (arith, kept.0, more, same_outs, old);
        tables = λ n. standing;
      };
    }

-- whether the causes and outs would be too many
module _ {J : Type 0} (told : J → Option (List Entry)) (hub : HubView J) (cause : Cause) (xs : List Out) (now : Tables) (carries : CarriesView) (debts : List Debt) (counts servers : List ℕ) (history : List Entry) (h : HubStands told hub history) (s : hub.spent ≡ false)
    (range : InRange hub.settings) (f : IsTrue (fits history cause))
    (takes : (settings : Settings) (before : List Event) → settings.limits ≡ hub.settings.limits → settings.servers ≡ hub.settings.servers → settings.default ≡ hub.settings.default → Known settings before → Settled settings before
    → fits_behind before cause ≡ true → TablesStand settings hub.tables hub.carries hub.debts hub.backlogs hub.starts before → Turns settings before cause xs now carries debts counts servers) where
  turned_outs : xs ≡ emits hub.settings history cause
  turned_outs = (takes hub.settings (events_of history) refl refl refl (known_holds hub.settings range history h.legal) (settled_holds hub.settings range history h.legal) f (h.tables s)).0

  pub few_says : (count : ℕ) → Some count ≡ (if nat_lt most_events (hub.events + (1 + length xs)) then None else Some (hub.events + (1 + length xs))) → passes hub.settings history cause ≡ false
  few_says count n = passes_by hub.settings history cause hub.events xs false (h.count s) turned_outs (at_most (hub.events + (1 + length xs)) count n).1

  pub many_says : None ≡ (if nat_lt most_events (hub.events + (1 + length xs)) then None else Some (hub.events + (1 + length xs))) → passes hub.settings history cause ≡ true
  many_says n = passes_by hub.settings history cause hub.events xs true (h.count s) turned_outs (too_many (hub.events + (1 + length xs)) n)

-- a failed append
pub append_says : (p : Bool) (fault : JournalFault) (e : StepFault) → e ≡ step_fault_of fault → p ≡ false → Counted p (Err e)
append_says p Failed e is few = subst (λ x. Counted p (Err x)) (sym is) few
append_says p Memory e is few = subst (λ x. Counted p (Err x)) (sym is) tt

-- tables and counts of nothing stand for the empty history, and are sound
pub begins : {J : Type 0} (told : J → Option (List Entry)) (settings : Settings) (kept : Tables) (carries : CarriesView) (debts : List Debt) (counts places : List ℕ) (journal : J) → Tells (told journal) [] → Stands settings kept [] → DocumentsStand settings nothing_owed kept [] → CarriedStand settings carries []
    → DebtsStand settings debts [] → BacklogsStand counts [] → places ≡ [] → HubStands told (record { settings = settings; tables = kept; carries = carries; debts = debts; backlogs = counts; starts = places; events = 0; spent = false; journal = journal }) []
begins told settings kept carries debts counts places journal t s d k o b p = record { legal = tt; told_by = t; own = tt; few = lit≤ tt; count = λ _. refl; tables = λ _. record { tables = s; documents = d; carried = k; owed = o; backlogs = b; quick = none_slow settings; servers = p } }

pub begins_sound : (settings : Settings) (kept : Tables) → 2 ≤ settings.limits.requests → 1 ≤ settings.limits.versions → HaveCeilings settings.servers → Stands settings kept [] → DocumentsStand settings nothing_owed kept []
    → IsSound settings kept
begins_sound settings kept r v c s d = record {
  range = record { requests = subst (λ n. n < 2 ^ 32) (sym s.requests) s.range; versions = subst (λ n. n < 2 ^ 32) (sym d.versions) d.range };
  requests = subst (λ n. 2 ≤ n) s.requests r;
  versions = subst (λ n. 1 ≤ n) d.versions v;
  ceilings = c;
}
