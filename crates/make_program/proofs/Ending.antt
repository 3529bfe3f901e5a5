-- What a run came to, from where its causes ended.
use Rattle.std.proofs.Common.{lit≤, ◌≡◌, ◌⊎◌, inl, inr, ℕ, ◌+◌, ◌≤◌, Bool, true, false, nat_lt, List, [], ◌∷◌, ◌++◌, fold, length, refl, ap, sym, subst, ◌∙◌, arith}
use Rattle.std.specs.Prelude.{Option, Result, Ok, Err, IsTrue}
use Rattle.std.proofs.lemmas.Bool.Decides.{nat_tests}
use Rattle.std.proofs.lemmas.List.Sums.{fold-append}
use Rattle.outside_io.specs.Faults.{Rose}
use Rattle.mux_history.specs.declared.cause.Cause.{Cause}
use Rattle.mux_history.specs.declared.entry.Entry.{Entry}
use Rattle.event_model.specs.Event.{events_of}
use Rattle.event_model.specs.Settings.{Settings}
use Rattle.mux_facts.specs.Ranges.{InRange}
use Rattle.mux_model.specs.Fits.{fits}
use Rattle.mux_hub.specs.Entries.{emits, entry_of, most_events, passes}
use Rattle.mux_hub.specs.Hubs.{HubStands, HubView, Tells}
use Rattle.mux_hub.specs.Sessions.{Sessions}
use Rattle.mux_hub.specs.group_facts.specs.Legal.{Legal}
use Rattle.mux_hub.proofs.Counting.{entry_counts}
use Rattle.mux_hub.proofs.Sessions.{sessions_hold}
use Rattle.program_settings.specs.Lines.{Reported, said, unsaid}
use Rattle.drive_program.proofs.Ends.{reported_since}
use Rattle.drive_program.specs.Program.{status_of}
use Rattle.drive_program.specs.Runs.{after}
use Rattle.drive_program.specs.declared.refusal.Refusal.TheVariants.{Form, Absent}
use Rattle.drive_program.specs.declared.stop.Stop.{Stop}
use Rattle.drive_program.specs.declared.stop.Stop.TheVariants as stop
use Rattle.made_histories.specs.Coming.{AllAwaited, AllFit}
use Rattle.make_program.specs.Program.{Ran, Undisturbed}
use Rattle.make_program.specs.Runs.{Driven, IfFirst, history_of}
use Rattle.make_program.specs.Shown.{Shown, Shows, ended_line, ended_status}
use Rattle.make_program.specs.declared.counts.Counts.{Counts}

-- the run without its hub, under the names that settings and causes have outside
ran_by : {J : Type 0} (told : J → Option (List Entry)) (settings : Settings) (journal : J) (causes : List Cause) (hub : HubView J) (result : Result Counts Stop) → Driven told settings causes hub result
    → hub.settings ≡ settings → journal ≡ hub.journal → ((history : List Entry) → HubStands told hub history → Sessions hub.settings history) → Ran told settings journal causes result
ran_by told settings journal causes hub result d s j law = record {
  taken = d.taken;
  rest = d.rest;
  all = d.all;
  legal = subst (λ (q : Settings). Legal q (history_of settings d.taken)) s d.stands.legal;
  sessions = subst (λ (q : Settings). Sessions q (history_of settings d.taken)) s (law (history_of settings d.taken) d.stands);
  few = d.stands.few;
  told_by = subst (λ q. Tells (told q) (history_of settings d.taken)) (sym j) d.stands.told_by;
  done = d.done;
  stopped = d.stopped;
}

pub ran_of : {J : Type 0} (told : J → Option (List Entry)) (named settings : Settings) (journal : J) (causes : List Cause) (hub : HubView J) (result : Result Counts Stop) → Driven told named causes hub result
    → named ≡ settings → hub.settings ≡ named → journal ≡ hub.journal → ((history : List Entry) → HubStands told hub history → Sessions hub.settings history) → Ran told settings journal causes result
ran_of told named settings journal causes hub result d e s j law = ran_by told settings journal causes hub result (subst (λ (q : Settings). Driven told q causes hub result) e d) (s ∙ e) j law

-- nothing was driven
pub never_ran : {J : Type 0} (told : J → Option (List Entry)) (settings : Settings) (journal : J) (causes : List Cause) → InRange settings → Tells (told journal) [] → Ran told settings journal causes (Err stop.Memory)
never_ran told settings journal causes range t = record {
  taken = [];
  rest = causes;
  all = refl;
  legal = tt;
  sessions = sessions_hold settings range [] tt tt;
  few = lit≤ tt;
  told_by = t;
  done = tt;
  stopped = tt;
}

-- a text and its status
pub shown_of : (text : List ℕ) (w v u : Option (List ℕ)) (before mid now : ℕ) (ended : Result (Unit {0}) Stop) (status : ℕ) → Shows text w v ended → (ended ≡ Err stop.Output → Rose before mid) → before ≤ mid → mid ≤ now
    → Reported status (ended_status ended) v u (ended_line ended) (Rose mid now) → Shown text w u (Rose before now) status
shown_of text w v u before mid now ended status h o l m r = record {
  shown = v;
  ended = ended;
  shows = h;
  output = λ e. let rose = o e in omega (arith, rose, m);
  says = reported_since status (ended_status ended) v u (ended_line ended) before mid now l r;
}

-- which status stands for which stop
six : (s : Stop) → status_of s ≡ 6 → s ≡ stop.Journal
six (stop.Refused k r) e = absurd (omega (arith, e))
six stop.Memory e = absurd (omega (arith, e))
six stop.Journal e = refl
six stop.Input e = absurd (omega (arith, e))
six stop.Output e = absurd (omega (arith, e))
six stop.Numbers e = absurd (omega (arith, e))

pub journal_of : (s : Stop) (status : ℕ) (v u : Option (List ℕ)) (line : List ℕ) (failed : Type 0) → Reported status (status_of s) v u line failed → status ≡ 6 → s ≡ stop.Journal
journal_of s status v u line failed (said e f) h = six s (sym e ∙ h)
journal_of s status v u line failed (unsaid e f) h = absurd (omega (arith, e, h))

shown_status : (text : List ℕ) (w v : Option (List ℕ)) (ended : Result (Unit {0}) Stop) → Shows text w v ended → (ended_status ended ≡ 0) ⊎ (ended_status ended ≡ 5) ⊎ (ended ≡ Err stop.Output)
shown_status text w v (Ok done) h = inl refl
shown_status text w v (Err stop.Memory) h = inr (inl refl)
shown_status text w v (Err stop.Output) h = inr (inr refl)
shown_status text w v (Err stop.Journal) h = absurd h
shown_status text w v (Err stop.Numbers) h = absurd h
shown_status text w v (Err stop.Input) h = absurd h
shown_status text w v (Err (stop.Refused k r)) h = absurd h

reported_status : (status given : ℕ) (v u : Option (List ℕ)) (line : List ℕ) (failed : Type 0) → Reported status given v u line failed → (status ≡ given) ⊎ (status ≡ 5)
reported_status status given v u line failed (said e f) = inl e
reported_status status given v u line failed (unsaid e f) = inr e

-- 0, 5 or 8
is_shown : (status : ℕ) (ended : Result (Unit {0}) Stop) → (status ≡ ended_status ended) ⊎ (status ≡ 5) → (ended_status ended ≡ 0) ⊎ (ended_status ended ≡ 5) ⊎ (ended ≡ Err stop.Output)
    → (status ≡ 0) ⊎ (status ≡ 5) ⊎ ((status ≡ 8) × (ended ≡ Err stop.Output))
is_shown status ended (inr e) h = inr (inl e)
is_shown status ended (inl e) (inl z) = inl (e ∙ z)
is_shown status ended (inl e) (inr (inl z)) = inr (inl (e ∙ z))
is_shown status ended (inl e) (inr (inr z)) = inr (inr (e ∙ ap ended_status z, z))

statuses : (text : List ℕ) (w u : Option (List ℕ)) (failed : Type 0) (status : ℕ) (s : Shown text w u failed status) → (status ≡ 0) ⊎ (status ≡ 5) ⊎ ((status ≡ 8) × (s.ended ≡ Err stop.Output))
statuses text w u failed status s =
    is_shown status s.ended (reported_status status (ended_status s.ended) s.shown u (ended_line s.ended) failed s.says) (shown_status text w s.shown s.ended s.shows)

pub not_six : (text : List ℕ) (w u : Option (List ℕ)) (failed : Type 0) (status : ℕ) → Shown text w u failed status → status ≡ 6 → ⊥
not_six text w u failed status s e = by (statuses text w u failed status s)
  where
    by : (status ≡ 0) ⊎ (status ≡ 5) ⊎ ((status ≡ 8) × (s.ended ≡ Err stop.Output)) → ⊥
    by (inl z) = omega (arith, e, z)
    by (inr (inl z)) = omega (arith, e, z)
    by (inr (inr z)) = omega (arith, e, z.0)

pub complete_shown : (text : List ℕ) (w u : Option (List ℕ)) (failed : Type 0) (status : ℕ) → Shown text w u failed status → (failed → ⊥) → (status ≡ 0) ⊎ (status ≡ 5)
complete_shown text w u failed status s never = by (statuses text w u failed status s)
  where
    by : (status ≡ 0) ⊎ (status ≡ 5) ⊎ ((status ≡ 8) × (s.ended ≡ Err stop.Output)) → (status ≡ 0) ⊎ (status ≡ 5)
    by (inl z) = inl z
    by (inr (inl z)) = inr z
    by (inr (inr z)) = absurd (never (s.output z.1))

-- causes of which each can come, and which are not too many, stop at none
true_false : (b : Bool) → IsTrue b → b ≡ false → ⊥
true_false b h e = cc

fit_at : (settings : Settings) (history : List Entry) (taken : List Cause) (cause : Cause) (more : List Cause) → AllFit settings history (taken ++ cause ∷ more) → IsTrue (fits (fold (after settings) history taken) cause)
unfolding after
fit_at settings history [] cause more h = h.0
fit_at settings history (first ∷ taken) cause more h = fit_at settings (after settings history first) taken cause more h.1

not_absent : (settings : Settings) (taken rest : List Cause) → AllFit settings [] (taken ++ rest) → IfFirst (λ cause. fits (history_of settings taken) cause ≡ false) rest → ⊥
not_absent settings taken [] h p = p
not_absent settings taken (cause ∷ more) h p = true_false (fits (history_of settings taken) cause) (fit_at settings [] taken cause more h) p

after_grows : (settings : Settings) (history : List Entry) (cause : Cause) → length (events_of (after settings history cause)) ≡ length (events_of history) + (1 + length (emits settings history cause))
unfolding after
after_grows settings history cause = entry_counts history (entry_of settings history cause)

grows : (settings : Settings) (history : List Entry) (causes : List Cause) → length (events_of history) ≤ length (events_of (fold (after settings) history causes))
grows settings history [] = omega arith
grows settings history (cause ∷ causes) =
    let one : length (events_of (after settings history cause)) ≡ length (events_of history) + (1 + length (emits settings history cause)) = after_grows settings history cause in
    let more : length (events_of (after settings history cause)) ≤ length (events_of (fold (after settings) (after settings history cause) causes)) = grows settings (after settings history cause) causes in
    omega (arith, one, more)

many_of : (n : ℕ) → nat_lt most_events n ≡ true → n ≤ most_events → ⊥
many_of n e few = grind (arith, nat_tests)

not_many : (settings : Settings) (taken rest : List Cause) → length (events_of (history_of settings (taken ++ rest))) ≤ most_events
    → IfFirst (λ cause. IsTrue (fits (history_of settings taken) cause) × (passes settings (history_of settings taken) cause ≡ true)) rest → ⊥
not_many settings taken [] few p = p
not_many settings taken (cause ∷ more) few p =
    let whole : history_of settings (taken ++ cause ∷ more) ≡ fold (after settings) (after settings (history_of settings taken) cause) more = fold-append (after settings) [] taken (cause ∷ more) in
    let same : length (events_of (history_of settings (taken ++ cause ∷ more))) ≡ length (events_of (fold (after settings) (after settings (history_of settings taken) cause) more)) = ap (λ (h : List Entry). length (events_of h)) whole in
    let one : length (events_of (after settings (history_of settings taken) cause)) ≡ length (events_of (history_of settings taken)) + (1 + length (emits settings (history_of settings taken) cause)) = after_grows settings (history_of settings taken) cause in
    let rest : length (events_of (after settings (history_of settings taken) cause)) ≤ length (events_of (fold (after settings) (after settings (history_of settings taken) cause) more)) = grows settings (after settings (history_of settings taken) cause) more in
    many_of (length (events_of (history_of settings taken)) + (1 + length (emits settings (history_of settings taken) cause))) p.1 (omega (arith, same, one, rest, few))

complete_by : {J : Type 0} (told : J → Option (List Entry)) (settings : Settings) (journal : J) (causes : List Cause) (journal_rose output_rose : Type 0) (s : Stop) → Ran told settings journal causes (Err s)
    → (s ≡ stop.Journal → journal_rose) → (AllAwaited settings [] causes → AllFit settings [] causes) → Undisturbed settings causes journal_rose output_rose → status_of s ≡ 5
complete_by told settings journal causes journal_rose output_rose stop.Memory r j f u = refl
complete_by told settings journal causes journal_rose output_rose stop.Journal r j f u = absurd (u.journal (j refl))
complete_by told settings journal causes journal_rose output_rose stop.Numbers r j f u =
    absurd (not_many settings r.taken r.rest (subst (λ (cs : List Cause). length (events_of (history_of settings cs)) ≤ most_events) r.all u.few) r.stopped)
complete_by told settings journal causes journal_rose output_rose stop.Input r j f u = absurd r.stopped
complete_by told settings journal causes journal_rose output_rose stop.Output r j f u = absurd r.stopped
complete_by told settings journal causes journal_rose output_rose (stop.Refused k Form) r j f u = absurd r.stopped
complete_by told settings journal causes journal_rose output_rose (stop.Refused k Absent) r j f u =
    absurd (not_absent settings r.taken r.rest (subst (λ (cs : List Cause). AllFit settings [] cs) r.all (f u.awaited)) r.stopped.1)

pub complete_stop : {J : Type 0} (told : J → Option (List Entry)) (settings : Settings) (journal : J) (causes : List Cause) (journal_rose output_rose : Type 0) (s : Stop) (status : ℕ) (v u : Option (List ℕ)) (line : List ℕ) (failed : Type 0)
    → Ran told settings journal causes (Err s) → Reported status (status_of s) v u line failed → (s ≡ stop.Journal → journal_rose) → (AllAwaited settings [] causes → AllFit settings [] causes)
    → Undisturbed settings causes journal_rose output_rose → (status ≡ 0) ⊎ (status ≡ 5)
complete_stop told settings journal causes journal_rose output_rose s status v u line failed r (said e f) j fits d = inr (e ∙ complete_by told settings journal causes journal_rose output_rose s r j fits d)
complete_stop told settings journal causes journal_rose output_rose s status v u line failed r (unsaid e f) j fits d = inr e
