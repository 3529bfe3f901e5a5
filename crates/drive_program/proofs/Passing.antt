-- Lines whose causes and outs are at most 2^63 - 1 stop at none of them.
use Rattle.std.proofs.Common.{◌≡◌, ℕ, ◌+◌, ◌≤◌, true, nat_lt, List, [], ◌∷◌, ◌++◌, length, ap, subst, ◌∙◌, arith, option_map, IfSome}
use Rattle.std.specs.Prelude.{Option, Some, None, Result, Ok, Err}
use Rattle.std.proofs.lemmas.Bool.Decides.{nat_tests}
use Rattle.mux_history.specs.declared.cause.Cause.{Cause}
use Rattle.mux_history.specs.declared.entry.Entry.{Entry}
use Rattle.event_model.specs.Event.{events_of}
use Rattle.event_model.specs.Settings.{Settings}
use Rattle.mux_hub.specs.Entries.{emits, entry_of, most_events}
use Rattle.mux_hub.proofs.Counting.{entry_counts}
use Rattle.drive_program.specs.declared.refusal.Refusal.{Refusal}
use Rattle.drive_program.specs.Lines.{Line, lines_of}
use Rattle.drive_program.specs.Program.{IsCounted}
use Rattle.drive_program.specs.Runs.{Outcome, reading, after, drive_from, IsRunOf, PassesFirst}
use Rattle.drive_program.proofs.Driving.{driven_by, drive_append}

after_grows : (settings : Settings) (history : List Entry) (cause : Cause) → length (events_of (after settings history cause)) ≡ length (events_of history) + (1 + length (emits settings history cause))
unfolding after
after_grows settings history cause = entry_counts history (entry_of settings history cause)

-- a history grows by what is driven behind it
abbrev Grows : List Entry → Outcome → Type 0
Grows history outcome = length (events_of history) ≤ length (events_of outcome.history)

read_grows : (content : ℕ) (settings : Settings) (k : ℕ) (history : List Entry) (lines : List Line) (r : Result Cause Refusal) → ((cause : Cause) → Grows (after settings history cause) (drive_from content settings (k + 1) (after settings history cause) lines))
    → Grows history (driven_by content settings k history lines r)
read_grows content settings k history lines (Err refusal) more = omega arith
read_grows content settings k history lines (Ok cause) more =
    let rest : Grows (after settings history cause) (drive_from content settings (k + 1) (after settings history cause) lines) = more cause in
    let one : length (events_of (after settings history cause)) ≡ length (events_of history) + (1 + length (emits settings history cause)) = after_grows settings history cause in
    omega (arith, rest, one)

drive_grows : (content : ℕ) (settings : Settings) (k : ℕ) (history : List Entry) (lines : List Line) → Grows history (drive_from content settings k history lines)
drive_grows content settings k history [] = omega arith
drive_grows content settings k history (line ∷ lines) = read_grows content settings k history lines (reading content history line) (λ cause. drive_grows content settings (k + 1) (after settings history cause) lines)

many_of : (n : ℕ) → nat_lt most_events n ≡ true → n ≤ most_events → ⊥
many_of n e few = grind (arith, nat_tests)

first_too_many : (content : ℕ) (settings : Settings) (k : ℕ) (history : List Entry) (lines : List Line) → PassesFirst content settings history lines → length (events_of (drive_from content settings k history lines).history) ≤ most_events → ⊥
first_too_many content settings k history [] p few = p
first_too_many content settings k history (line ∷ lines) p few =
    let more : Grows (after settings history p.0) (drive_from content settings (k + 1) (after settings history p.0) lines) = drive_grows content settings (k + 1) (after settings history p.0) lines in
    let one : length (events_of (after settings history p.0)) ≡ length (events_of history) + (1 + length (emits settings history p.0)) = after_grows settings history p.0 in
    let same : length (events_of (driven_by content settings k history lines (reading content history line)).history) ≡ length (events_of (drive_from content settings (k + 1) (after settings history p.0) lines).history)
    = ap (λ r. length (events_of (driven_by content settings k history lines r).history)) p.1 in
    many_of (length (events_of history) + (1 + length (emits settings history p.0))) p.2 (omega (arith, more, one, same, few))

some_same : (a b : List Line) → Some a ≡ Some b → a ≡ b
some_same a b e = cc

some_not_none : (a : List Line) → Some a ≡ None → ⊥
some_not_none a e = cc

pub not_too_many : (content : ℕ) (settings : Settings) (input : Option (List ℕ)) (rest : Option (List Line)) (history : List Entry) → IsRunOf content settings (option_map lines_of input) rest history → IsCounted content settings input → IfSome rest (PassesFirst content settings history) → ⊥
not_too_many content settings None rest history run few p = few
not_too_many content settings (Some bytes) None history run few p = some_not_none (lines_of bytes) run.whole
not_too_many content settings (Some bytes) (Some lines) history run few p =
    let whole : lines_of bytes ≡ run.front ++ lines = some_same (lines_of bytes) (run.front ++ lines) run.whole in
    let driven : drive_from content settings 1 [] (run.front ++ lines) ≡ drive_from content settings (1 + length run.front) history lines = drive_append content settings 1 [] history run.front lines run.runs in
    first_too_many content settings (1 + length run.front) history lines p (subst (λ (o : Outcome). length (events_of o.history) ≤ most_events) (ap (drive_from content settings 1 []) whole ∙ driven) few)
