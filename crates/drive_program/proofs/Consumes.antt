-- The bytes of an input that were used, and the lines that end in them.
use Rattle.std.proofs.Common.{◌≡◌, ℕ, ◌+◌, ◌<◌, ◌≤◌, true, false, nat_eq, List, [], ◌∷◌, ◌++◌, length, take, get_or, refl, ap, sym, subst, ◌∙◌, append_assoc, arith}
use Rattle.std.specs.Prelude.{Option, Some, None}
use Rattle.std.specs.Io.KnownBytes.{prepend_known}
use Rattle.std.proofs.lemmas.List.{append-nil, length-append, length-take-le}
use Rattle.std.proofs.lemmas.List.Quantifiers.{position-Some}
use Rattle.mux_history.specs.declared.entry.Entry.{Entry}
use Rattle.event_model.specs.Settings.{Settings}
use Rattle.drive_program.specs.Buffers.{BufferView, unused, line_feed, Taken, Moved, Came, BrokeOff}
use Rattle.drive_program.specs.Lines.{Line, ended_from, ended_lines, before_first, NoFeed}
use Rattle.drive_program.specs.Runs.{drive_from, IsRunOfRead}
use Rattle.drive_program.specs.Stops.{Consumed}
use Rattle.drive_program.proofs.Cuts.{no_feed_front, no_feed_none, split_at, all_taken}

pub prepend_nothing : (known : Option (List ℕ)) → prepend_known [] known ≡ known
prepend_nothing None = refl
prepend_nothing (Some bytes) = refl

pub prepend_both : (a b : List ℕ) (known : Option (List ℕ)) → prepend_known a (prepend_known b known) ≡ prepend_known (a ++ b) known
prepend_both a b None = refl
prepend_both a b (Some bytes) = ap (λ l. Some l) (sym (append_assoc a b bytes))

-- where nothing is pending, what the source has left is what wasn't used
pub unused_nothing : (buffer : BufferView) (left now : Option (List ℕ)) → buffer.pending ≡ [] → now ≡ left → unused buffer left ≡ now
unused_nothing buffer left now e h = ap (λ p. prepend_known p left) e ∙ (prepend_nothing left ∙ sym h)

-- Pieces of the pending bytes

pub moved_whole : (i : ℕ) (before now : BufferView) (line grown : List ℕ) → line_feed before.pending ≡ Some i → Taken i 1 before now line grown → Moved (10 ∷ []) before now line grown
moved_whole i before now line grown f t =
    let p : (i < length before.pending) × (nat_eq (get_or before.pending i 0) 10 ≡ true) × ((k : ℕ) → k < i → nat_eq (get_or before.pending k 0) 10 ≡ false) = position-Some (λ b. nat_eq b 10) before.pending i 0 f in
    let m : i ≤ length before.pending = omega (arith, p.0) in
    let n : length (take i before.pending) ≡ i = length-take-le i before.pending m in
    let c : length (take i before.pending ++ 10 ∷ []) ≡ length (take i before.pending) + 1 = length-append (take i before.pending) (10 ∷ []) in
    record {
      piece = take i before.pending;
      plain = no_feed_front before.pending i p.2 m;
      line = t.line;
      pending = split_at before.pending i p.0 p.1 ∙ (ap (λ q. take i before.pending ++ 10 ∷ q) (sym t.pending) ∙ sym (append_assoc (take i before.pending) (10 ∷ []) now.pending));
      used = omega (arith, t.used, n, c);
    }

pub moved_part : (n : ℕ) (before now : BufferView) (line grown : List ℕ) → line_feed before.pending ≡ None → n ≡ length before.pending → Taken n 0 before now line grown → Moved [] before now line grown
moved_part n before now line grown f e t =
    let a : (take n before.pending ≡ before.pending) × (now.pending ≡ []) = all_taken n 0 before.pending now.pending e t.pending in
    let c : length (before.pending ++ []) ≡ length before.pending = ap length (append-nil before.pending) in
    record {
      piece = before.pending;
      plain = no_feed_none before.pending f;
      line = t.line ∙ ap (λ q. line ++ q) a.0;
      pending = sym (append-nil before.pending) ∙ (sym (append-nil (before.pending ++ [])) ∙ ap (λ q. (before.pending ++ []) ++ q) (sym a.1));
      used = omega (arith, t.used, e, c);
    }

-- A line, piece by piece

no_feed_both : (a b : List ℕ) → NoFeed a → NoFeed b → NoFeed (a ++ b)
no_feed_both [] b h g = g
no_feed_both (x ∷ a) b h g = (h.0, no_feed_both a b h.1 g)

pub came_none : (buffer : BufferView) (left : Option (List ℕ)) → Came [] [] buffer buffer left left
came_none buffer left = record { plain = tt; bytes = sym (prepend_nothing (unused buffer left)); used = omega arith }

pub came_filled : (line : List ℕ) (first before now : BufferView) (left_first left_before left_now : Option (List ℕ)) → Came [] line first before left_first left_before
    → unused before left_before ≡ unused now left_now → now.used ≡ before.used → Came [] line first now left_first left_now
came_filled line first before now left_first left_before left_now c e u = record {
  plain = c.plain;
  bytes = c.bytes ∙ ap (prepend_known (line ++ [])) e;
  used = u ∙ c.used;
}

regrouped : (line piece end rest : List ℕ) → (line ++ []) ++ ((piece ++ end) ++ rest) ≡ ((line ++ piece) ++ end) ++ rest
regrouped line piece end rest = ap (λ l. l ++ ((piece ++ end) ++ rest)) (append-nil line) ∙ simp append_assoc

pub came_more : (end line grown : List ℕ) (first before now : BufferView) (left_first left : Option (List ℕ)) → Came [] line first before left_first left → Moved end before now line grown
    → Came end grown first now left_first left
came_more end line grown first before now left_first left c m =
    let a : length ((line ++ []) ++ (m.piece ++ end)) ≡ length (line ++ []) + length (m.piece ++ end) = length-append (line ++ []) (m.piece ++ end) in
    let b : (line ++ []) ++ (m.piece ++ end) ≡ grown ++ end = ap (λ l. l ++ (m.piece ++ end)) (append-nil line) ∙ (sym (append_assoc line m.piece end) ∙ ap (λ g. g ++ end) (sym m.line)) in
    let d : length ((line ++ []) ++ (m.piece ++ end)) ≡ length (grown ++ end) = ap length b in
    record {
      plain = subst NoFeed (sym m.line) (no_feed_both line m.piece c.plain m.plain);
      bytes = c.bytes ∙ (ap (λ p. prepend_known (line ++ []) (prepend_known p left)) m.pending ∙ (prepend_both (line ++ []) ((m.piece ++ end) ++ now.pending) left
          ∙ (ap (λ l. prepend_known l left) (regrouped line m.piece end now.pending ∙ ap (λ g. (g ++ end) ++ now.pending) (sym m.line)) ∙ sym (prepend_both (grown ++ end) now.pending left))));
      used = omega (arith, m.used, c.used, a, d);
    }

-- more was read, and a piece of it went to the line
pub came_on : (line grown : List ℕ) (first before filled now : BufferView) (left_first left_before left_now : Option (List ℕ)) → Came [] line first before left_first left_before → unused before left_before ≡ unused filled left_now
    → filled.used ≡ before.used → Moved [] filled now line grown → Came [] grown first now left_first left_now
came_on line grown first before filled now left_first left_before left_now c e u m = came_more [] line grown first filled now left_first left_now (came_filled line first before filled left_first left_before left_now c e u) m

pub broken_off : (line : List ℕ) (first before : BufferView) (left_first left_before left_now : Option (List ℕ)) → Came [] line first before left_first left_before → unused before left_before ≡ left_now
    → BrokeOff first left_first left_now
broken_off line first before left_first left_before left_now c e = record {
  piece = line;
  plain = c.plain;
  bytes = c.bytes ∙ (ap (prepend_known (line ++ [])) e ∙ ap (λ l. prepend_known l left_now) (append-nil line));
}

-- The lines that end in the bytes that were used

ended_whole : (at to : ℕ) (piece rest : List ℕ) → NoFeed piece → to ≡ at + (length piece + 1) → ended_from at (piece ++ 10 ∷ rest) ≡ record { bytes = piece; upto = to } ∷ ended_from to rest
ended_whole at to [] rest h e = let f : at + 1 ≡ to = omega arith in rw f refl
ended_whole at to (b ∷ piece) rest h e =
    let f : to ≡ at + 1 + (length piece + 1) = omega (arith, e) in
    rw h.0 (ap (before_first b) (ended_whole (at + 1) to piece rest h.1 f))

ended_part : (at : ℕ) (piece : List ℕ) → NoFeed piece → ended_from at piece ≡ []
ended_part at [] h = refl
ended_part at (b ∷ piece) h = rw h.0 (ap (before_first b) (ended_part (at + 1) piece h.1))

pub consumed_none : (left : Option (List ℕ)) → Consumed left left (record { pending = []; used = 0 }) []
consumed_none left = record {
  read = [];
  bytes = sym (prepend_nothing (prepend_known [] left) ∙ prepend_nothing left);
  used = refl;
  lines = λ more. refl;
}

abbrev line_record : List ℕ → ℕ → Line
line_record bytes upto = record { bytes = bytes; upto = upto }

pub consumed_more : (input before_left now_left : Option (List ℕ)) (before now : BufferView) (front : List Line) (line : List ℕ) → Consumed input before_left before front → Came (10 ∷ []) line before now before_left now_left
    → Consumed input now_left now (front ++ record { bytes = line; upto = now.used } ∷ [])
consumed_more input before_left now_left before now front line c k =
    let a : length (c.read ++ (line ++ 10 ∷ [])) ≡ length c.read + length (line ++ 10 ∷ []) = length-append c.read (line ++ 10 ∷ []) in
    let b : length (line ++ 10 ∷ []) ≡ length line + 1 = length-append line (10 ∷ []) in
    let u : now.used ≡ length (c.read ++ (line ++ 10 ∷ [])) = omega (arith, k.used, c.used, a) in
    let to : now.used ≡ length c.read + (length line + 1) = omega (arith, u, a, b) in
    record {
      read = c.read ++ (line ++ 10 ∷ []);
      bytes = c.bytes ∙ (ap (prepend_known c.read) k.bytes ∙ prepend_both c.read (line ++ 10 ∷ []) (unused now now_left));
      used = u;
      lines = λ more. ap ended_lines (append_assoc c.read (line ++ 10 ∷ []) more ∙ ap (λ l. c.read ++ l) (append_assoc line (10 ∷ []) more))
          ∙ (c.lines (line ++ 10 ∷ more)
          ∙ (ap (λ l. front ++ l) (ended_whole (length c.read) now.used line more k.plain to)
          ∙ (sym (append_assoc front (line_record line now.used ∷ []) (ended_from now.used more))
          ∙ ap (λ n. (front ++ line_record line now.used ∷ []) ++ ended_from n more) u)));
    }

pub consumed_read : (content : ℕ) (settings : Settings) (input left now_left : Option (List ℕ)) (buffer : BufferView) (front : List Line) (history : List Entry) → Consumed input left buffer front → BrokeOff buffer left now_left
    → drive_from content settings 1 [] front ≡ record { history = history; refused = None } → IsRunOfRead content settings input now_left history
consumed_read content settings input left now_left buffer front history c k r = record {
  read = c.read ++ k.piece;
  split = c.bytes ∙ (ap (prepend_known c.read) k.bytes ∙ prepend_both c.read k.piece now_left);
  runs = ap (drive_from content settings 1 []) (c.lines k.piece ∙ (ap (λ l. front ++ l) (ended_part (length c.read) k.piece k.plain) ∙ append-nil front)) ∙ r;
}
