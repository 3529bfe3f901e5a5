-- The law of journals: what was written of a history is read as it, and a front of that as a front of it.
use Rattle.std.specs.List.{AllByRecursion}
use Rattle.std.specs.Prelude.{◌≡◌, ℕ, ◌-◌, ◌≤◌, Bool, false, List, [], ◌∷◌, length, take, flat_map, nat_le, nat_lt, if◌then◌else◌}
use Rattle.mux_history.specs.declared.entry.Entry.{Entry}
use Rattle.drive_text.specs.Outs.{HasSmallOutNumbers}
use Rattle.drive_text.specs.Spellings.{entry_lines, HasSmallNumbers}
use Rattle.journal_show.specs.Readings.{told, read_text}

-- the text of a history
abbrev pub journal_text : List Entry → List ℕ
journal_text history = flat_map entry_lines history

-- its numbers are below 2^64, as those of every value of a program are
abbrev pub IsSmall : Entry → Type 0
IsSmall entry = HasSmallNumbers entry.cause × AllByRecursion HasSmallOutNumbers entry.outs

-- the longest front of a history whose text is at most so long
abbrev pub fitting : ℕ → List Entry → List Entry
fitting count [] = []
fitting count (entry ∷ history) = if nat_le (length (entry_lines entry)) count then entry ∷ fitting (count - length (entry_lines entry)) history else []

-- a front of a history's text is read as the longest front of the history whose text lies in it, and is torn just where that text is shorter
abbrev pub JournalHolds : Type 0
JournalHolds = (history : List Entry) (count : ℕ) → AllByRecursion IsSmall history → count ≤ length (journal_text history)
    → read_text (take count (journal_text history)) ≡ told (fitting count history) (nat_lt (length (journal_text (fitting count history))) count)

-- the whole text is read as the history
abbrev pub JournalIsRead : Type 0
JournalIsRead = (history : List Entry) → AllByRecursion IsSmall history → read_text (journal_text history) ≡ told history false

-- these bytes are a front of the history's text
abbrev pub IsFrontOf : List Entry → ℕ → List ℕ → Type 0
IsFrontOf history count bytes = AllByRecursion IsSmall history × (count ≤ length (journal_text history)) × (bytes ≡ take count (journal_text history))

-- these are the longest front of the history whose text is at most so long, and whether that text is shorter
abbrev pub IsReadAs : List Entry → ℕ → List Entry → Bool → Type 0
IsReadAs history count entries torn = (entries ≡ fitting count history) × (torn ≡ nat_lt (length (journal_text (fitting count history))) count)
