-- The lines of a side's part, entry by entry.
use Rattle.std.proofs.Common.{◌≡◌, ℕ, ◌+◌, ◌<◌, Bool, true, false, cond, List, [], ◌∷◌, ◌++◌, length, take, get_or, refl, sym, ap, ◌∙◌, append_assoc, append-nil, map}
use Rattle.std.specs.Prelude.{filter, flat_map}
use Rattle.std.proofs.lemmas.Grind.{flat_map-append}
use Rattle.std.proofs.lemmas.List.Elements.{filter-append}
use Rattle.std.proofs.lemmas.List.Sums.{fold-append}
use Rattle.std.proofs.lemmas.List.{take_more}
use Rattle.mux_history.specs.declared.cause.Cause.{Cause}
use Rattle.mux_history.specs.declared.cause.Cause.TheVariants.{Joined, FromEditor, EditorGone, Started, StartFailed, FromServer, ServerGone, Drained, Tick}
use Rattle.mux_history.specs.declared.entry.Entry.{Entry}
use Rattle.mux_history.specs.declared.out.Out.{Out}
use Rattle.mux_history.specs.declared.out.Out.TheVariants.{ToEditor, ToServer, Spawn, CloseEditor, EndServer}
use Rattle.event_model.specs.Event.{Event, heard, said, with_entry, events_of}
use Rattle.drive_text.specs.Outs.{out_line}
use Rattle.drive_text.specs.Spellings.{spelled}
use Rattle.journal_show.specs.declared.side.Side.{Side}
use Rattle.journal_show.specs.Parts.{event_line, is_seen, part_text, seen_line, entry_text}

pub heard_line : (c : Cause) → event_line (heard c) ≡ spelled c ++ 10 ∷ []
heard_line (Joined e) = refl
heard_line (FromEditor e body) = refl
heard_line (EditorGone e why) = refl
heard_line (Started s) = refl
heard_line (StartFailed s) = refl
heard_line (FromServer s body) = refl
heard_line (ServerGone s) = refl
heard_line (Drained e k) = refl
heard_line (Tick t) = refl

pub said_line : (o : Out) → event_line (said o) ≡ out_line o
said_line (ToEditor e body) = refl
said_line (ToServer s body) = refl
said_line (Spawn s g) = refl
said_line (CloseEditor e) = refl
said_line (EndServer s) = refl

abbrev seen_text : Side → List Event → List ℕ
seen_text side events = flat_map event_line (filter (is_seen side) events)

seen_both : (side : Side) (xs ys : List Event) → seen_text side (xs ++ ys) ≡ seen_text side xs ++ seen_text side ys
seen_both side xs ys = ap (flat_map event_line) (filter-append (is_seen side) xs ys) ∙ flat_map-append event_line (filter (is_seen side) xs) (filter (is_seen side) ys)

seen_one : (side : Side) (event : Event) → seen_text side (event ∷ []) ≡ seen_line side event
seen_one side event = choice (is_seen side event)
  where
    choice : (t : Bool) → flat_map event_line (cond t (event ∷ []) []) ≡ cond t (event_line event) []
    choice true = append-nil (event_line event)
    choice false = refl

seen_outs : (side : Side) (outs : List Out) → seen_text side (map said outs) ≡ flat_map (λ out. seen_line side (said out)) outs
seen_outs side [] = refl
seen_outs side (o ∷ outs) = seen_both side (said o ∷ []) (map said outs)
    ∙ (ap (λ l. l ++ seen_text side (map said outs)) (seen_one side (said o)) ∙ ap (λ l. seen_line side (said o) ++ l) (seen_outs side outs))

seen_entry : (side : Side) (events : List Event) (entry : Entry) → seen_text side (with_entry events entry) ≡ seen_text side events ++ entry_text side entry
seen_entry side events entry =
    seen_both side (events ++ heard entry.cause ∷ []) (map said entry.outs)
    ∙ (ap (λ l. l ++ seen_text side (map said entry.outs)) (seen_both side events (heard entry.cause ∷ []))
    ∙ (append_assoc (seen_text side events) (seen_text side (heard entry.cause ∷ [])) (seen_text side (map said entry.outs))
    ∙ (ap (λ l. seen_text side events ++ (l ++ seen_text side (map said entry.outs))) (seen_one side (heard entry.cause))
    ∙ ap (λ l. seen_text side events ++ (seen_line side (heard entry.cause) ++ l)) (seen_outs side entry.outs))))

pub part_more : (side : Side) (history : List Entry) (entry : Entry) → part_text side (history ++ entry ∷ []) ≡ part_text side history ++ entry_text side entry
part_more side history entry = ap (seen_text side) (fold-append with_entry [] history (entry ∷ [])) ∙ seen_entry side (events_of history) entry

pub part_grown : (side : Side) (entries : List Entry) (i : ℕ) (entry : Entry) (text grown : List ℕ) → i < length entries → entry ≡ get_or entries i entry → text ≡ part_text side (take i entries)
    → grown ≡ text ++ entry_text side entry → grown ≡ part_text side (take (i + 1) entries)
part_grown side entries i entry text grown h is t g =
    g ∙ (ap (λ l. l ++ entry_text side entry) t ∙ (sym (part_more side (take i entries) entry)
    ∙ ap (part_text side) (ap (λ (e : Entry). take i entries ++ e ∷ []) is ∙ sym (take_more entries i entry h))))
