-- The program's answers, from where its run ended.
use Rattle.std.proofs.Common.{lit≤, ◌≡◌, ℕ, zero, suc, ◌+◌, ◌≤◌, List, [], ◌++◌, length, take, refl, ap, sym, subst, subst₂, ◌∙◌, arith, option_map, IfSome, inl, inr, ◌⊎◌}
use Rattle.std.specs.Prelude.{Option, Some, None, Result, Ok, Err}
use Rattle.std.specs.Io.KnownBytes.{append_known}
use Rattle.std.proofs.lemmas.List.{append-nil}
use Rattle.mux_history.specs.declared.entry.Entry.{Entry}
use Rattle.mux_hub.specs.Hubs.{HubView, HubStands, Tells}
use Rattle.mux_hub.specs.group_facts.specs.Legal.{Legal}
use Rattle.outside_io.specs.Faults.{Rose}
use Rattle.event_model.specs.Settings.{Settings}
use Rattle.drive_program.specs.declared.refusal.Refusal.{Refusal}
use Rattle.drive_program.specs.declared.stop.Stop.{Stop}
use Rattle.drive_program.specs.declared.stop.Stop.TheVariants as stop
use Rattle.drive_program.proofs.Driving.{append_both, take_more}
use Rattle.drive_program.proofs.Passing.{not_too_many}
use Rattle.drive_program.specs.Lines.{lines_of}
use Rattle.drive_text.specs.Outs.{outs_text}
use Rattle.mux_hub.specs.Sessions.{Sessions}
use Rattle.mux_hub.proofs.Sessions.{sessions_hold}
use Rattle.mux_facts.specs.Ranges.{InRange}
use Rattle.drive_program.specs.Program.{status_of, fault_line, status_line, refused_line, Ran, Drove, IsUnrefused, Undisturbed}
use Rattle.program_settings.specs.Lines.{Reported, Wrote, WroteFront, said, unsaid}
use Rattle.drive_program.specs.Runs.{Refused, Outcome, drive_of, IsRunOfRead, PassesFirst, TakesFirst}
use Rattle.drive_program.specs.Stops.{Gives, Driven}

ran_by : {J : Type 0} (told : J → Option (List Entry)) (content : ℕ) (settings : Settings) (journal : J) (input left w v : Option (List ℕ)) (hub : HubView J) (result : Result (Unit {0}) Stop)
    → Driven told content settings input left w v hub result → hub.settings ≡ settings → journal ≡ hub.journal → ((history : List Entry) → HubStands told hub history → Sessions hub.settings history)
    → Ran told content settings journal input left w v result
ran_by told content settings journal input left w v hub result d s j law = record {
  history = d.history;
  legal = subst (λ q. Legal q d.history) s d.stands.legal;
  sessions = subst (λ q. Sessions q d.history) s (law d.history d.stands);
  few = d.stands.few;
  told_by = subst (λ q. Tells (told q) d.history) (sym j) d.stands.told_by;
  rest = d.rest;
  run = d.run;
  wrote = d.wrote;
  done = d.done;
  stopped = d.stopped;
}

-- the same under the names that the settings have outside
pub ran_of : {J : Type 0} (told : J → Option (List Entry)) (given content : ℕ) (named settings : Settings) (journal : J) (input left w v : Option (List ℕ)) (hub : HubView J) (result : Result (Unit {0}) Stop)
    → Driven told given named input left w v hub result → given ≡ content → named ≡ settings → hub.settings ≡ named → journal ≡ hub.journal → ((history : List Entry) → HubStands told hub history → Sessions hub.settings history)
    → Ran told content settings journal input left w v result
ran_of told given content named settings journal input left w v hub result d c e s j law =
    ran_by told content settings journal input left w v hub result (subst₂ (λ n q. Driven told n q input left w v hub result) c e d) (s ∙ e) j law

-- no hub was made
unread : (input : Option (List ℕ)) → option_map lines_of input ≡ option_map (λ lines. [] ++ lines) (option_map lines_of input)
unread None = refl
unread (Some bytes) = refl

nothing : (w : Option (List ℕ)) → w ≡ append_known w (take 0 [])
nothing None = refl
nothing (Some bytes) = ap (λ l. Some l) (sym (append-nil bytes))

pub never_ran : {J : Type 0} (told : J → Option (List Entry)) (content : ℕ) (settings : Settings) (journal : J) (input w : Option (List ℕ)) → InRange settings → Tells (told journal) []
    → Ran told content settings journal input input w w (Err stop.Memory)
never_ran told content settings journal input w range t = record {
  history = [];
  legal = tt;
  sessions = sessions_hold settings range [] tt tt;
  few = lit≤ tt;
  told_by = t;
  rest = option_map lines_of input;
  run = record { front = []; whole = unread input; runs = refl };
  wrote = record { count = 0; wrote = nothing w };
  done = tt;
  stopped = tt;
}

-- the lines of a known input, driven
given_input : (content : ℕ) (settings : Settings) (input : Option (List ℕ)) (outcome : Outcome) → Gives content settings (option_map lines_of input) outcome → IfSome input (λ bytes. drive_of content settings bytes ≡ outcome)
given_input content settings None outcome g = tt
given_input content settings (Some bytes) outcome g = g

pub drove_done : {J : Type 0} (told : J → Option (List Entry)) (content : ℕ) (settings : Settings) (journal : J) (input left w v : Option (List ℕ)) (failed : Type 0) → Ran told content settings journal input left w v (Ok tt) → Drove told content settings journal input left w v failed 0
drove_done told content settings journal input left w v failed r = record {
  history = r.history;
  legal = r.legal;
  sessions = r.sessions;
  few = r.few;
  told_by = r.told_by;
  finished = λ _. record { gives = given_input content settings input (record { history = r.history; refused = None }) r.done.1; wrote = r.done.0 };
  refused = λ e. absurd (omega (arith, e));
  cut_off = λ e. absurd (omega (arith, e));
}

-- fronts of what was written
front_longer : (w v : Option (List ℕ)) (a b : List ℕ) → WroteFront w v a → b ≡ [] → WroteFront w v (a ++ b)
front_longer w v a b f e = record { count = f.count; wrote = f.wrote ∙ ap (λ l. append_known w (take f.count l)) (sym (ap (λ l. a ++ l) e ∙ append-nil a)) }

pub front_behind : (w v u : Option (List ℕ)) (a b : List ℕ) → v ≡ append_known w a → WroteFront v u b → WroteFront w u (a ++ b)
front_behind w v u a b e f = record {
  count = length a + f.count;
  wrote = f.wrote ∙ (ap (λ o. append_known o (take f.count b)) e ∙ (append_both w a (take f.count b) ∙ ap (append_known w) (sym (take_more a b f.count))));
}

take_none : (n : ℕ) → take {A = ℕ} n [] ≡ []
take_none zero = refl
take_none (suc n) = refl

pub nothing_written : (v u : Option (List ℕ)) → WroteFront v u [] → u ≡ v
nothing_written v u f = f.wrote ∙ by v f.count
  where
    by : (v : Option (List ℕ)) (n : ℕ) → append_known v (take n []) ≡ v
    by None n = refl
    by (Some bytes) n = ap (λ l. Some l) (ap (λ t. bytes ++ t) (take_none n) ∙ append-nil bytes)

-- a stop without a fault line
silent : {J : Type 0} (told : J → Option (List Entry)) (content : ℕ) (settings : Settings) (journal : J) (input left w v u : Option (List ℕ)) (failed : Type 0) (s : Stop) (status : ℕ) → Ran told content settings journal input left w v (Err s)
    → 5 ≤ status → (status ≡ 6 → ⊥) → (status ≡ 7 → ⊥) → (status ≡ 9 → ⊥) → status_line status ≡ [] → u ≡ v → Drove told content settings journal input left w u failed status
silent told content settings journal input left w v u failed s status r m six seven nine l e = record {
  history = r.history;
  legal = r.legal;
  sessions = r.sessions;
  few = r.few;
  told_by = r.told_by;
  finished = λ e. absurd (omega (arith, e, m));
  refused = λ e. absurd (omega (arith, e, m));
  cut_off = λ _. record {
    rest = r.rest;
    run = r.run;
    wrote = front_longer w u (outs_text r.history) (status_line status) (subst (λ o. WroteFront w o (outs_text r.history)) (sym e) r.wrote) l;
    whole = neither;
    journal_failed = λ e. absurd (six e);
    input_failed = λ e. absurd (seven e);
    too_many = λ e. absurd (nine e);
  };
}
  where
    neither : (status ≡ 6) ⊎ (status ≡ 7) ⊎ (status ≡ 9) → (u ≡ append_known w (outs_text r.history ++ status_line status)) ⊎ failed
    neither (inl e) = absurd (six e)
    neither (inr (inl e)) = absurd (seven e)
    neither (inr (inr e)) = absurd (nine e)

whole_behind : (w v u : Option (List ℕ)) (a b : List ℕ) (failed : Type 0) → v ≡ append_known w a → (u ≡ append_known v b) ⊎ failed → (u ≡ append_known w (a ++ b)) ⊎ failed
whole_behind w v u a b failed e (inl o) = inl (o ∙ (ap (λ q. append_known q b) e ∙ append_both w a b))
whole_behind w v u a b failed e (inr f) = inr f

-- a stop with one, behind all outs
spoken : {J : Type 0} (told : J → Option (List Entry)) (content : ℕ) (settings : Settings) (journal : J) (input left w v u : Option (List ℕ)) (failed : Type 0) (s : Stop) (status : ℕ) (r : Ran told content settings journal input left w v (Err s))
    → 5 ≤ status → v ≡ append_known w (outs_text r.history) → Wrote v u (status_line status) failed → (status ≡ 6 → IfSome r.rest (TakesFirst content r.history)) → (status ≡ 7 → IsRunOfRead content settings input left r.history)
    → (status ≡ 9 → IfSome r.rest (PassesFirst content settings r.history))
    → Drove told content settings journal input left w u failed status
spoken told content settings journal input left w v u failed s status r m o f six seven nine = record {
  history = r.history;
  legal = r.legal;
  sessions = r.sessions;
  few = r.few;
  told_by = r.told_by;
  finished = λ e. absurd (omega (arith, e, m));
  refused = λ e. absurd (omega (arith, e, m));
  cut_off = λ _. record {
    rest = r.rest;
    run = r.run;
    wrote = front_behind w v u (outs_text r.history) (status_line status) o f.front;
    whole = λ _. whole_behind w v u (outs_text r.history) (status_line status) failed o f.whole;
    journal_failed = six;
    input_failed = seven;
    too_many = nine;
  };
}

refused_at : {J : Type 0} (told : J → Option (List Entry)) (content : ℕ) (settings : Settings) (journal : J) (input left w v u : Option (List ℕ)) (failed : Type 0) (k : ℕ) (refusal : Refusal)
    → Ran told content settings journal input left w v (Err (stop.Refused k refusal)) → Wrote v u (refused_line (record { line = k; refusal = refusal })) failed → Drove told content settings journal input left w u failed 1
refused_at told content settings journal input left w v u failed k refusal r f = record {
  history = r.history;
  legal = r.legal;
  sessions = r.sessions;
  few = r.few;
  told_by = r.told_by;
  finished = λ e. absurd (omega (arith, e));
  refused = λ _. record {
    at = record { line = k; refusal = refusal };
    gives = given_input content settings input (record { history = r.history; refused = Some (record { line = k; refusal = refusal }) }) r.stopped.1;
    count = f.front.count;
    front = f.front.wrote ∙ (ap (λ q. append_known q (take f.front.count (refused_line (record { line = k; refusal = refusal })))) r.stopped.0 ∙ append_both w (outs_text r.history) (take f.front.count (refused_line (record { line = k; refusal = refusal }))));
    whole = whole_behind w v u (outs_text r.history) (refused_line (record { line = k; refusal = refusal })) failed r.stopped.0 f.whole;
  };
  cut_off = λ e. absurd (omega (arith, e));
}

said_of : {J : Type 0} (told : J → Option (List Entry)) (content : ℕ) (settings : Settings) (journal : J) (input left w v u : Option (List ℕ)) (failed : Type 0) (s : Stop)
    → Ran told content settings journal input left w v (Err s) → Wrote v u (fault_line s) failed → Drove told content settings journal input left w u failed (status_of s)
said_of told content settings journal input left w v u failed (stop.Refused k refusal) r f = refused_at told content settings journal input left w v u failed k refusal r f
said_of told content settings journal input left w v u failed stop.Memory r f = silent told content settings journal input left w v u failed stop.Memory 5 r (omega arith) (λ e. omega (arith, e)) (λ e. omega (arith, e)) (λ e. omega (arith, e)) refl (nothing_written v u f.front)
said_of told content settings journal input left w v u failed stop.Journal r f = spoken told content settings journal input left w v u failed stop.Journal 6 r (omega arith) r.stopped.0 f (λ _. r.stopped.1) (λ e. absurd (omega (arith, e))) (λ e. absurd (omega (arith, e)))
said_of told content settings journal input left w v u failed stop.Input r f = spoken told content settings journal input left w v u failed stop.Input 7 r (omega arith) r.stopped.0 f (λ e. absurd (omega (arith, e))) (λ _. r.stopped.1) (λ e. absurd (omega (arith, e)))
said_of told content settings journal input left w v u failed stop.Output r f = silent told content settings journal input left w v u failed stop.Output 8 r (omega arith) (λ e. omega (arith, e)) (λ e. omega (arith, e)) (λ e. omega (arith, e)) refl (nothing_written v u f.front)
said_of told content settings journal input left w v u failed stop.Numbers r f = spoken told content settings journal input left w v u failed stop.Numbers 9 r (omega arith) r.stopped.0 f (λ e. absurd (omega (arith, e))) (λ e. absurd (omega (arith, e))) (λ _. r.stopped.1)

drove_stopped : {J : Type 0} (told : J → Option (List Entry)) (content : ℕ) (settings : Settings) (journal : J) (input left w v u : Option (List ℕ)) (failed : Type 0) (s : Stop) (status : ℕ)
    → Ran told content settings journal input left w v (Err s) → Reported status (status_of s) v u (fault_line s) failed → Drove told content settings journal input left w u failed status
drove_stopped told content settings journal input left w v u failed s status r (said e f) =
    subst (λ n. Drove told content settings journal input left w u failed n) (sym e) (said_of told content settings journal input left w v u failed s r f)
drove_stopped told content settings journal input left w v u failed s status r (unsaid e f) =
    subst (λ n. Drove told content settings journal input left w u failed n) (sym e) (silent told content settings journal input left w v u failed s 5 r (omega arith) (λ e. omega (arith, e)) (λ e. omega (arith, e)) (λ e. omega (arith, e)) refl f)

rose_since : (before mid now : ℕ) → before ≤ mid → Rose mid now → Rose before now
rose_since before mid now l r = omega (arith, l, r)

wrote_since : (v u : Option (List ℕ)) (line : List ℕ) (before mid now : ℕ) → before ≤ mid → Wrote v u line (Rose mid now) → Wrote v u line (Rose before now)
wrote_since v u line before mid now l f = record { front = f.front; whole = by f.whole }
  where
    by : (u ≡ append_known v line) ⊎ Rose mid now → (u ≡ append_known v line) ⊎ Rose before now
    by (inl e) = inl e
    by (inr r) = inr (rose_since before mid now l r)

pub reported_since : (status told : ℕ) (v u : Option (List ℕ)) (line : List ℕ) (before mid now : ℕ) → before ≤ mid → Reported status told v u line (Rose mid now) → Reported status told v u line (Rose before now)
reported_since status told v u line before mid now l (said e f) = said e (wrote_since v u line before mid now l f)
reported_since status told v u line before mid now l (unsaid e f) = unsaid e f

pub drove_reported : {J : Type 0} (told : J → Option (List Entry)) (content : ℕ) (settings : Settings) (journal : J) (input left w v u : Option (List ℕ)) (before mid now : ℕ) (s : Stop) (status : ℕ)
    → Ran told content settings journal input left w v (Err s) → before ≤ mid → Reported status (status_of s) v u (fault_line s) (Rose mid now) → Drove told content settings journal input left w u (Rose before now) status
drove_reported told content settings journal input left w v u before mid now s status r l f =
    drove_stopped told content settings journal input left w v u (Rose before now) s status r (reported_since status (status_of s) v u (fault_line s) before mid now l f)

refused_not_none : (at : Refused) → Some at ≡ None → ⊥
refused_not_none at e = cc

not_refused : (content : ℕ) (settings : Settings) (input : Option (List ℕ)) (history : List Entry) (at : Refused) → IsUnrefused content settings input → Gives content settings (option_map lines_of input) (record { history = history; refused = Some at }) → ⊥
not_refused content settings None history at u g = u
not_refused content settings (Some bytes) history at u g = refused_not_none at (sym (ap (λ (o : Outcome). o.refused) g) ∙ u)

complete_said : {J : Type 0} (told : J → Option (List Entry)) (content : ℕ) (settings : Settings) (journal : J) (input left w v : Option (List ℕ)) (journal_rose input_rose output_rose : Type 0) (s : Stop)
    → Ran told content settings journal input left w v (Err s) → (s ≡ stop.Journal → journal_rose) → (s ≡ stop.Input → input_rose) → (s ≡ stop.Output → output_rose) → Undisturbed content settings input journal_rose input_rose output_rose → status_of s ≡ 5
complete_said told content settings journal input left w v journal_rose input_rose output_rose (stop.Refused k refusal) r j i o u =
    absurd (not_refused content settings input r.history (record { line = k; refusal = refusal }) u.lines r.stopped.1)
complete_said told content settings journal input left w v journal_rose input_rose output_rose stop.Memory r j i o u = refl
complete_said told content settings journal input left w v journal_rose input_rose output_rose stop.Journal r j i o u = absurd (u.journal (j refl))
complete_said told content settings journal input left w v journal_rose input_rose output_rose stop.Input r j i o u = absurd (u.input (i refl))
complete_said told content settings journal input left w v journal_rose input_rose output_rose stop.Output r j i o u = absurd (u.output (o refl))
complete_said told content settings journal input left w v journal_rose input_rose output_rose stop.Numbers r j i o u = absurd (not_too_many content settings input r.rest r.history r.run u.few r.stopped.1)

pub complete : {J : Type 0} (told : J → Option (List Entry)) (content : ℕ) (settings : Settings) (journal : J) (input left w v u : Option (List ℕ)) (journal_rose input_rose output_rose failed : Type 0) (s : Stop) (status : ℕ)
    → Ran told content settings journal input left w v (Err s) → Reported status (status_of s) v u (fault_line s) failed
    → (s ≡ stop.Journal → journal_rose) → (s ≡ stop.Input → input_rose) → (s ≡ stop.Output → output_rose) → Undisturbed content settings input journal_rose input_rose output_rose → (status ≡ 0) ⊎ (status ≡ 5)
complete told content settings journal input left w v u journal_rose input_rose output_rose failed s status r (said e f) j i o d =
    inr (e ∙ complete_said told content settings journal input left w v journal_rose input_rose output_rose s r j i o d)
complete told content settings journal input left w v u journal_rose input_rose output_rose failed s status r (unsaid e f) j i o d = inr e

pub rose_until : (before mid now : ℕ) → Rose before mid → mid ≤ now → Rose before now
rose_until before mid now r l = omega (arith, l, r)
