-- What is counted is what the events of a history are.
use Rattle.std.proofs.Common.{◌≡◌, ℕ, ◌+◌, ◌≤◌, List, [], ◌∷◌, ◌++◌, fold, length, map, refl, ap, sym, ◌∙◌, arith, length-append}
use Rattle.std.proofs.lemmas.List.{length-map}
use Rattle.std.proofs.lemmas.List.Sums.{fold-append}
use Rattle.mux_history.specs.declared.entry.Entry.{Entry}
use Rattle.mux_history.specs.declared.cause.Cause.{Cause}
use Rattle.mux_history.specs.declared.out.Out.{Out}
use Rattle.mux_history.specs.declared.out.Out.TheVariants.{ToEditor, ToServer, Spawn, CloseEditor, EndServer}
use Rattle.event_model.specs.Event as event
use Rattle.event_model.specs.Event.{Event, events_of, heard, said, with_cause}
use Rattle.event_model.specs.Settings.{Settings}
use Rattle.mux_hub.specs.Entries.{entry_of}
use Rattle.drive_program.specs.Runs.{after}
use Rattle.make_program.specs.Counts.{IsSound, counts_of, nothing, with_entry, with_out}
use Rattle.make_program.specs.declared.counts.Counts.{Counts}

-- one more entry
pub counts_more : (settings : Settings) (history : List Entry) (cause : Cause) → counts_of (after settings history cause) ≡ with_entry (counts_of history) (entry_of settings history cause)
unfolding after
counts_more settings history cause = fold-append with_entry nothing history (entry_of settings history cause ∷ [])

-- no kind of out is counted more often than outs are
sound_out : (c : Counts) (o : Out) → IsSound c → IsSound (with_out c o)
sound_out c (ToEditor e body) h = record { editors = omega (arith, h.editors); servers = omega (arith, h.servers); starts = omega (arith, h.starts) }
sound_out c (ToServer s body) h = record { editors = omega (arith, h.editors); servers = omega (arith, h.servers); starts = omega (arith, h.starts) }
sound_out c (Spawn s g) h = record { editors = omega (arith, h.editors); servers = omega (arith, h.servers); starts = omega (arith, h.starts) }
sound_out c (CloseEditor e) h = record { editors = omega (arith, h.editors); servers = omega (arith, h.servers); starts = omega (arith, h.starts) }
sound_out c (EndServer s) h = record { editors = omega (arith, h.editors); servers = omega (arith, h.servers); starts = omega (arith, h.starts) }

sound_outs : (c : Counts) (outs : List Out) → IsSound c → IsSound (fold with_out c outs)
sound_outs c [] h = h
sound_outs c (o ∷ outs) h = sound_outs (with_out c o) outs (sound_out c o h)

sound_cause : (c : Counts) → IsSound c → IsSound (record c { causes = c.causes + 1 })
sound_cause c h = record { editors = h.editors; servers = h.servers; starts = h.starts }

sound_entries : (c : Counts) (history : List Entry) → IsSound c → IsSound (fold with_entry c history)
sound_entries c [] h = h
sound_entries c (entry ∷ history) h = sound_entries (with_entry c entry) history (sound_outs (record c { causes = c.causes + 1 }) entry.outs (sound_cause c h))

pub sound_counts : (history : List Entry) → IsSound (counts_of history)
sound_counts history = sound_entries nothing history (record { editors = omega arith; servers = omega arith; starts = omega arith })

-- causes and outs are the events
one_out : (c : Counts) (o : Out) → ((with_out c o).causes ≡ c.causes) × ((with_out c o).outs ≡ c.outs + 1)
one_out c (ToEditor e body) = (refl, refl)
one_out c (ToServer s body) = (refl, refl)
one_out c (Spawn s g) = (refl, refl)
one_out c (CloseEditor e) = (refl, refl)
one_out c (EndServer s) = (refl, refl)

all_outs : (c : Counts) (outs : List Out) → ((fold with_out c outs).causes ≡ c.causes) × ((fold with_out c outs).outs ≡ c.outs + length outs)
all_outs c [] = (refl, omega arith)
all_outs c (o ∷ outs) =
    let one = one_out c o in
    let more = all_outs (with_out c o) outs in
    (more.0 ∙ one.0, omega (arith, more.1, one.1))

one_entry : (events : List Event) (entry : Entry) → length (event.with_entry events entry) ≡ length events + (1 + length entry.outs)
one_entry events entry =
    let a : length (event.with_entry events entry) ≡ length (with_cause events entry.cause) + length (map said entry.outs) = length-append (with_cause events entry.cause) (map said entry.outs) in
    let b : length (with_cause events entry.cause) ≡ length events + 1 = length-append events (heard entry.cause ∷ []) in
    let m : length (map said entry.outs) ≡ length entry.outs = length-map entry.outs said in
    omega (arith, a, b, m)

sum_entries : (c : Counts) (events : List Event) (history : List Entry) → c.causes + c.outs ≡ length events
    → (fold with_entry c history).causes + (fold with_entry c history).outs ≡ length (fold event.with_entry events history)
sum_entries c events [] e = e
sum_entries c events (entry ∷ history) e =
    let outs = all_outs (record c { causes = c.causes + 1 }) entry.outs in
    let one = one_entry events entry in
    sum_entries (with_entry c entry) (event.with_entry events entry) history (omega (arith, outs.0, outs.1, one, e))

pub sum_counts : (history : List Entry) → (counts_of history).causes + (counts_of history).outs ≡ length (events_of history)
sum_counts history = sum_entries nothing [] history refl

count_entries : (c : Counts) (history : List Entry) → (fold with_entry c history).causes ≡ c.causes + length history
count_entries c [] = omega arith
count_entries c (entry ∷ history) =
    let outs = all_outs (record c { causes = c.causes + 1 }) entry.outs in
    let more = count_entries (with_entry c entry) history in
    omega (arith, outs.0, more)

pub count_causes : (history : List Entry) → (counts_of history).causes ≡ length history
count_causes history = let all = count_entries nothing history in omega (arith, all)
