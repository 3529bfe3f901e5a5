-- The text of a history is read as the history, and a front of it as a front of it.
use Rattle.std.proofs.Common.{◌≡◌, ℕ, zero, suc, ◌+◌, ◌-◌, ◌≤◌, ◌<◌, Bool, true, false, cond, nat_lt, nat_le, List, [], ◌∷◌, ◌++◌, length, take, refl, sym, ap, ◌∙◌, append_assoc, append-nil, arith, length-append}
use Rattle.std.specs.List.{AllByRecursion}
use Rattle.std.specs.Prelude.{Some, None, bytes_eq, option_map}
use Rattle.std.proofs.Math.Seq.{take-append-add}
use Rattle.std.proofs.lemmas.Bool.{leb-true, leb-false, ltb-true, ltb-false, le-ltb, lt-ltb}
use Rattle.std.proofs.lemmas.List.{take-append-le}
use Rattle.mux_history.specs.declared.cause.Cause.{Cause}
use Rattle.mux_history.specs.declared.entry.Entry.{Entry}
use Rattle.mux_history.specs.declared.out.Out.{Out}
use Rattle.mux_history.specs.declared.out.Out.TheVariants.{ToEditor, ToServer, Spawn, CloseEditor, EndServer}
use Rattle.drive_text.specs.Outs.{spelled_out, out_lines, HasSmallOutNumbers}
use Rattle.drive_text.specs.Spellings.{spelled, entry_lines, HasSmallNumbers}
use Rattle.drive_text.proofs.LineFeeds.{cause_lacks, out_lacks}
use Rattle.drive_text.proofs.OutSpellings.{out_read}
use Rattle.drive_text.proofs.Spellings.{cause_read}
use Rattle.drive_text.proofs.Texts.{Lacks}
use Rattle.journal_show.specs.Laws.{journal_text, IsSmall, fitting, JournalHolds, JournalIsRead, IsFrontOf, IsReadAs}
use Rattle.journal_show.specs.Readings.{ReadingView, in_entry, after_line, Told, told, bad_line, is_filled, is_torn, on_line, read_from, read_text}

-- one line

pub line_read : (number : ℕ) (reading : ReadingView) (front line rest : List ℕ) → Lacks 10 line
    → read_from number reading front (line ++ 10 ∷ rest) ≡ on_line number (after_line reading (front ++ line)) (λ behind. read_from (number + 1) behind [] rest)
line_read number reading front [] rest l = ap (λ t. on_line number (after_line reading t) (λ behind. read_from (number + 1) behind [] rest)) (sym (append-nil front))
line_read number reading front (b ∷ line) rest l =
    rw l.0 (line_read number reading (front ++ b ∷ []) line rest l.1 ∙ ap (λ t. on_line number (after_line reading t) (λ behind. read_from (number + 1) behind [] rest)) (append_assoc front (b ∷ []) line))

-- a line without its line feed
pub open_read : (number : ℕ) (reading : ReadingView) (front text : List ℕ) → Lacks 10 text → read_from number reading front text ≡ told reading.entries (is_torn reading.begun (front ++ text))
open_read number reading front [] l = ap (λ t. told reading.entries (is_torn reading.begun t)) (sym (append-nil front))
open_read number reading front (b ∷ text) l =
    rw l.0 (open_read number reading (front ++ b ∷ []) text l.1 ∙ ap (λ t. told reading.entries (is_torn reading.begun t)) (append_assoc front (b ∷ []) text))

lacks_front : (x count : ℕ) (text : List ℕ) → Lacks x text → Lacks x (take count text)
lacks_front x zero text l = tt
lacks_front x (suc count) [] l = tt
lacks_front x (suc count) (b ∷ text) l = (l.0, lacks_front x count text l.1)

-- states

abbrev between : List Entry → ReadingView
between entries = record { entries = entries; begun = None }

abbrev entry_with : Cause → List Out → Entry
entry_with cause outs = record { cause = cause; outs = outs }

abbrev within : List Entry → Cause → List Out → ReadingView
within entries cause outs = record { entries = entries; begun = Some (entry_with cause outs) }

-- one cause, one out, one point

pub cause_line_read : (number : ℕ) (entries : List Entry) (cause : Cause) (rest : List ℕ) → HasSmallNumbers cause
    → read_from number (between entries) [] (spelled cause ++ 10 ∷ rest) ≡ read_from (number + 1) (within entries cause []) [] rest
cause_line_read number entries cause rest s =
    line_read number (between entries) [] (spelled cause) rest (cause_lacks cause s)
    ∙ ap (λ o. on_line number (option_map (λ c. within entries c []) o) (λ behind. read_from (number + 1) behind [] rest)) (cause_read cause s)

no_point : (o : Out) → bytes_eq (spelled_out o) (46 ∷ []) ≡ false
no_point (ToEditor e body) = refl
no_point (ToServer n body) = refl
no_point (Spawn n g) = refl
no_point (CloseEditor e) = refl
no_point (EndServer n) = refl

in_entry_out : (entries : List Entry) (entry : Entry) (o : Out) → HasSmallOutNumbers o → in_entry entries entry (spelled_out o) ≡ Some (within entries entry.cause (entry.outs ++ o ∷ []))
in_entry_out entries entry o s = rw (no_point o) (rw (out_read o s) refl)

pub out_line_read : (number : ℕ) (entries : List Entry) (cause : Cause) (outs : List Out) (o : Out) (rest : List ℕ) → HasSmallOutNumbers o
    → read_from number (within entries cause outs) [] (spelled_out o ++ 10 ∷ rest) ≡ read_from (number + 1) (within entries cause (outs ++ o ∷ [])) [] rest
out_line_read number entries cause outs o rest s =
    line_read number (within entries cause outs) [] (spelled_out o) rest (out_lacks o s)
    ∙ ap (λ r. on_line number r (λ behind. read_from (number + 1) behind [] rest)) (in_entry_out entries (entry_with cause outs) o s)

pub point_read : (number : ℕ) (entries : List Entry) (cause : Cause) (outs : List Out) (rest : List ℕ)
    → read_from number (within entries cause outs) [] (46 ∷ 10 ∷ rest) ≡ read_from (number + 1) (between (entries ++ entry_with cause outs ∷ [])) [] rest
point_read number entries cause outs rest = refl

-- the rest of an entry

abbrev outs_and : List Out → List ℕ → List ℕ
outs_and outs rest = out_lines outs ++ rest

outs_first : (o : Out) (outs : List Out) (rest : List ℕ) → outs_and (o ∷ outs) rest ≡ spelled_out o ++ 10 ∷ outs_and outs rest
outs_first o outs rest = append_assoc (spelled_out o ++ 10 ∷ []) (out_lines outs) rest ∙ append_assoc (spelled_out o) (10 ∷ []) (outs_and outs rest)

outs_read : (number : ℕ) (entries : List Entry) (cause : Cause) (before outs : List Out) (rest : List ℕ) → AllByRecursion HasSmallOutNumbers outs
    → read_from number (within entries cause before) [] (outs_and outs (46 ∷ 10 ∷ rest)) ≡ read_from (number + length outs + 1) (between (entries ++ entry_with cause (before ++ outs) ∷ [])) [] rest
outs_read number entries cause before [] rest s =
    let n : number + 0 + 1 ≡ number + 1 = omega arith in
    point_read number entries cause before rest
    ∙ (ap (λ (outs : List Out). read_from (number + 1) (between (entries ++ entry_with cause outs ∷ [])) [] rest) (sym (append-nil before))
    ∙ ap (λ k. read_from k (between (entries ++ entry_with cause (before ++ []) ∷ [])) [] rest) (sym n))
outs_read number entries cause before (o ∷ outs) rest s =
    let n : number + 1 + length outs + 1 ≡ number + suc (length outs) + 1 = omega arith in
    ap (read_from number (within entries cause before) []) (outs_first o outs (46 ∷ 10 ∷ rest))
    ∙ (out_line_read number entries cause before o (outs_and outs (46 ∷ 10 ∷ rest)) s.0
    ∙ (outs_read (number + 1) entries cause (before ++ o ∷ []) outs rest s.1
    ∙ (ap (λ (l : List Out). read_from (number + 1 + length outs + 1) (between (entries ++ entry_with cause l ∷ [])) [] rest) (append_assoc before (o ∷ []) outs)
    ∙ ap (λ k. read_from k (between (entries ++ entry_with cause (before ++ o ∷ outs) ∷ [])) [] rest) n)))

-- an entry

abbrev end_lines : List Out → List ℕ
end_lines outs = out_lines outs ++ 46 ∷ 10 ∷ []

entry_first : (entry : Entry) (rest : List ℕ) → entry_lines entry ++ rest ≡ spelled entry.cause ++ 10 ∷ outs_and entry.outs (46 ∷ 10 ∷ rest)
entry_first entry rest = append_assoc (spelled entry.cause) (10 ∷ end_lines entry.outs) rest
    ∙ ap (λ l. spelled entry.cause ++ 10 ∷ l) (append_assoc (out_lines entry.outs) (46 ∷ 10 ∷ []) rest)

pub entry_read : (number : ℕ) (entries : List Entry) (entry : Entry) (rest : List ℕ) → IsSmall entry
    → read_from number (between entries) [] (entry_lines entry ++ rest) ≡ read_from (number + 1 + length entry.outs + 1) (between (entries ++ entry ∷ [])) [] rest
entry_read number entries entry rest s =
    ap (read_from number (between entries) []) (entry_first entry rest)
    ∙ (cause_line_read number entries entry.cause (outs_and entry.outs (46 ∷ 10 ∷ rest)) s.0
    ∙ outs_read (number + 1) entries entry.cause [] entry.outs rest s.1)

-- the whole text

history_read : (number : ℕ) (entries history : List Entry) → AllByRecursion IsSmall history → read_from number (between entries) [] (journal_text history) ≡ told (entries ++ history) false
history_read number entries [] s = ap (λ l. told l false) (sym (append-nil entries))
history_read number entries (entry ∷ history) s =
    entry_read number entries entry (journal_text history) s.0
    ∙ (history_read (number + 1 + length entry.outs + 1) (entries ++ entry ∷ []) history s.1 ∙ ap (λ l. told l false) (append_assoc entries (entry ∷ []) history))

pub journal_is_read : JournalIsRead
journal_is_read history s = history_read 0 [] history s

-- a front of an entry's lines

-- a front of a line and what is behind it lies in the line, or is the line and a front of what is behind it
past_line : (count : ℕ) (line rest : List ℕ) → length line < count → take count (line ++ 10 ∷ rest) ≡ line ++ 10 ∷ take (count - length line - 1) rest
past_line count line rest h =
    let n : count ≡ length line + suc (count - length line - 1) = omega (arith, h) in
    ap (λ k. take k (line ++ 10 ∷ rest)) n ∙ take-append-add line (10 ∷ rest) (suc (count - length line - 1))

either : {A : Type 0} (a b : ℕ) → (a ≤ b → A) → (b < a → A) → A
either {A = A} a b f g = choice (nat_lt b a) refl
  where
    choice : (t : Bool) → nat_lt b a ≡ t → A
    choice true e = g (ltb-true b a e)
    choice false e = f (ltb-false b a e)

end_front : (number : ℕ) (entries : List Entry) (cause : Cause) (before outs : List Out) (count : ℕ) → AllByRecursion HasSmallOutNumbers outs → count < length (end_lines outs)
    → read_from number (within entries cause before) [] (take count (end_lines outs)) ≡ told entries true
end_front number entries cause before [] zero s h = refl
end_front number entries cause before [] (suc zero) s h = refl
end_front number entries cause before [] (suc (suc count)) s h = absurd (omega (arith, h))
end_front number entries cause before (o ∷ outs) count s h =
    let first = outs_first o outs (46 ∷ 10 ∷ []) in
    ap (λ l. read_from number (within entries cause before) [] (take count l)) first ∙
    either count (length (spelled_out o))
    (λ short. ap (read_from number (within entries cause before) []) (take-append-le count (spelled_out o) (10 ∷ end_lines outs) short)
    ∙ open_read number (within entries cause before) [] (take count (spelled_out o)) (lacks_front 10 count (spelled_out o) (out_lacks o s.0)))
    (λ long.
    let size : length (end_lines (o ∷ outs)) ≡ length (spelled_out o) + suc (length (end_lines outs)) = ap length first ∙ length-append (spelled_out o) (10 ∷ end_lines outs) in
    ap (read_from number (within entries cause before) []) (past_line count (spelled_out o) (end_lines outs) long)
    ∙ (out_line_read number entries cause before o (take (count - length (spelled_out o) - 1) (end_lines outs)) s.0
    ∙ end_front (number + 1) entries cause (before ++ o ∷ []) outs (count - length (spelled_out o) - 1) s.1 (omega (arith, h, long, size))))

-- whether a front of a text is filled
filled_front : (count : ℕ) (text : List ℕ) → count ≤ length text → is_filled (take count text) ≡ nat_lt 0 count
filled_front zero text h = refl
filled_front (suc count) [] h = absurd (omega (arith, h))
filled_front (suc count) (b ∷ text) h = sym (lt-ltb 0 (suc count) (omega arith))

entry_front : (number : ℕ) (entries : List Entry) (entry : Entry) (count : ℕ) → IsSmall entry → count < length (entry_lines entry)
    → read_from number (between entries) [] (take count (entry_lines entry)) ≡ told entries (nat_lt 0 count)
entry_front number entries entry count s h =
    either count (length (spelled entry.cause))
    (λ short. ap (read_from number (between entries) []) (take-append-le count (spelled entry.cause) (10 ∷ end_lines entry.outs) short)
    ∙ (open_read number (between entries) [] (take count (spelled entry.cause)) (lacks_front 10 count (spelled entry.cause) (cause_lacks entry.cause s.0))
    ∙ ap (told entries) (filled_front count (spelled entry.cause) short)))
    (λ long.
    let size : length (entry_lines entry) ≡ length (spelled entry.cause) + suc (length (end_lines entry.outs)) = length-append (spelled entry.cause) (10 ∷ end_lines entry.outs) in
    let some : nat_lt 0 count ≡ true = lt-ltb 0 count (omega (arith, long)) in
    ap (read_from number (between entries) []) (past_line count (spelled entry.cause) (end_lines entry.outs) long)
    ∙ (cause_line_read number entries entry.cause (take (count - length (spelled entry.cause) - 1) (end_lines entry.outs)) s.0
    ∙ (end_front (number + 1) entries entry.cause [] entry.outs (count - length (spelled entry.cause) - 1) s.1 (omega (arith, h, long, size))
    ∙ ap (told entries) (sym some))))

-- a front of the text

same_tail : (a b count : ℕ) → a ≤ count → nat_lt b (count - a) ≡ nat_lt (a + b) count
same_tail a b count h = choice (nat_lt b (count - a)) refl
  where
    choice : (t : Bool) → nat_lt b (count - a) ≡ t → nat_lt b (count - a) ≡ nat_lt (a + b) count
    choice true e = let l = ltb-true b (count - a) e in e ∙ sym (lt-ltb (a + b) count (omega (arith, l, h)))
    choice false e = let l = ltb-false b (count - a) e in e ∙ sym (le-ltb (a + b) count (omega (arith, l, h)))

pub front_read : (number : ℕ) (entries history : List Entry) (count : ℕ) → AllByRecursion IsSmall history → count ≤ length (journal_text history)
    → read_from number (between entries) [] (take count (journal_text history)) ≡ told (entries ++ fitting count history) (nat_lt (length (journal_text (fitting count history))) count)
front_read number entries [] zero s h = ap (λ l. told l false) (sym (append-nil entries))
front_read number entries [] (suc count) s h = absurd (omega (arith, h))
front_read number entries (entry ∷ history) count s h =
    choice (nat_le (length (entry_lines entry)) count) refl (λ k i. front_read (number + 1 + length entry.outs + 1) (entries ++ entry ∷ []) history k s.1 i)
  where
    shown : List Entry → Told
    shown fit = told (entries ++ fit) (nat_lt (length (journal_text fit)) count)

    choice : (t : Bool) → nat_le (length (entry_lines entry)) count ≡ t
        → ((k : ℕ) → k ≤ length (journal_text history) → read_from (number + 1 + length entry.outs + 1) (between (entries ++ entry ∷ [])) [] (take k (journal_text history))
        ≡ told ((entries ++ entry ∷ []) ++ fitting k history) (nat_lt (length (journal_text (fitting k history))) k))
        → read_from number (between entries) [] (take count (entry_lines entry ++ journal_text history)) ≡ shown (cond t (entry ∷ fitting (count - length (entry_lines entry)) history) [])
    choice true e behind =
        let inside = leb-true (length (entry_lines entry)) count e in
        let n : count ≡ length (entry_lines entry) + (count - length (entry_lines entry)) = omega (arith, inside) in
        let size = length-append (entry_lines entry) (journal_text history) in
        let fit = fitting (count - length (entry_lines entry)) history in
        let both = length-append (entry_lines entry) (journal_text fit) in
        ap (λ k. read_from number (between entries) [] (take k (entry_lines entry ++ journal_text history))) n
        ∙ (ap (read_from number (between entries) []) (take-append-add (entry_lines entry) (journal_text history) (count - length (entry_lines entry)))
        ∙ (entry_read number entries entry (take (count - length (entry_lines entry)) (journal_text history)) s.0
        ∙ (behind (count - length (entry_lines entry)) (omega (arith, h, size, inside))
        ∙ (ap (λ l. told l (nat_lt (length (journal_text fit)) (count - length (entry_lines entry)))) (append_assoc entries (entry ∷ []) fit)
        ∙ ap (told (entries ++ entry ∷ fit)) (same_tail (length (entry_lines entry)) (length (journal_text fit)) count inside ∙ ap (λ k. nat_lt k count) (sym both))))))
    choice false e behind =
        let short : count < length (entry_lines entry) = leb-false (length (entry_lines entry)) count e in
        ap (read_from number (between entries) []) (take-append-le count (entry_lines entry) (journal_text history) (omega (arith, short)))
        ∙ (entry_front number entries entry count s.0 short ∙ ap (λ l. told l (nat_lt 0 count)) (sym (append-nil entries)))

pub journal_holds : JournalHolds
journal_holds history count s h = front_read 0 [] history count s h

-- what is told of a front of a text

one_told : (a b : List Entry) (s t : Bool) → told a s ≡ told b t → (a ≡ b) × (s ≡ t)
one_told a b s t e = (cc, cc)

pub read_as : (history : List Entry) (count : ℕ) (bytes : List ℕ) (entries : List Entry) (torn : Bool) → read_text bytes ≡ told entries torn → IsFrontOf history count bytes → IsReadAs history count entries torn
read_as history count bytes entries torn e h = one_told _ _ _ _ (sym e ∙ (ap read_text h.2 ∙ journal_holds history count h.0 h.1))

told_bad : (a : List Entry) (s : Bool) (k : ℕ) → told a s ≡ bad_line k → ⊥
told_bad a s k e = cc

pub no_bad_line : (history : List Entry) (count : ℕ) (bytes : List ℕ) (k : ℕ) → read_text bytes ≡ bad_line k → IsFrontOf history count bytes → ⊥
no_bad_line history count bytes k e h = told_bad _ _ k (sym (ap read_text h.2 ∙ journal_holds history count h.0 h.1) ∙ e)
