-- A run, line by line.
use Rattle.std.proofs.Common.{◌≡◌, ◌⊎◌, inl, inr, Bool, ℕ, suc, ◌+◌, ◌^◌, ◌<◌, ◌≤◌, true, false, nat_lt, List, [], ◌∷◌, ◌++◌, length, take, refl, ap, sym, subst, ◌∙◌, append_assoc, arith, option_map, IfSome}
use Rattle.std.specs.Prelude.{Option, Some, None, Result, Ok, Err}
use Rattle.std.specs.Io.KnownBytes.{append_known}
use Rattle.std.proofs.lemmas.Bool.Decides.{nat_tests}
use Rattle.std.proofs.lemmas.Grind.{flat_map-append}
use Rattle.std.proofs.lemmas.List.{append-nil, length-append}
use Rattle.std.proofs.Math.Seq.{take-length}
use Rattle.mux_history.specs.declared.cause.Cause.{Cause}
use Rattle.mux_history.specs.declared.entry.Entry.{Entry}
use Rattle.event_model.specs.Settings.{Settings}
use Rattle.mux_hub.specs.Entries.{emits, entry_of}
use Rattle.mux_hub.specs.Hubs.{HubView, HubStands}
use Rattle.drive_program.specs.declared.line.LineStop.{LineStop}
use Rattle.drive_program.specs.declared.line.LineStop.TheVariants as line_stop
use Rattle.drive_program.specs.declared.refusal.Refusal.{Refusal}
use Rattle.drive_program.specs.declared.refusal.Refusal.TheVariants.{Form}
use Rattle.drive_program.specs.declared.step.TakeFault.{TakeFault}
use Rattle.drive_program.specs.declared.step.TakeFault.TheVariants as take_fault
use Rattle.drive_program.specs.declared.stop.Stop.{Stop}
use Rattle.drive_program.specs.declared.stop.Stop.TheVariants as stop
use Rattle.drive_program.specs.Buffers.{BufferView, known_lines, onto_known, FirstTooLong, Came, BrokeOff}
use Rattle.drive_program.specs.Faults.{LeavesWritten}
use Rattle.drive_program.specs.Lines.{Line, lines_of, longest}
use Rattle.drive_text.specs.Outs.{out_lines, outs_text}
use Rattle.drive_program.specs.Runs.{Refused, Outcome, on_reading, reading, reading_bytes, after, drive_from, IsRunOf, PassesFirst, TakesFirst}
use Rattle.program_settings.specs.Lines.{WroteFront}
use Rattle.drive_program.specs.Steps.{IsTaken, IsTooMany, LineTaken, LineLeft, untouched, stepped}
use Rattle.drive_program.specs.Stops.{stop_at, fault_at, Consumed, Driving, Gives, StopsAt, Driven}
use Rattle.drive_program.proofs.Longest.{long_bytes}
use Rattle.drive_program.proofs.Consumes.{consumed_none, consumed_more, consumed_read}

-- a line with this reading, and the lines behind it
abbrev pub driven_by : ℕ → Settings → ℕ → List Entry → List Line → Result Cause Refusal → Outcome
driven_by content settings k before lines read = on_reading read
    (λ refusal. record { history = before; refused = Some (record { line = k; refusal = refusal }) })
    (λ cause. drive_from content settings (k + 1) (after settings before cause) lines)

refused_not_none : (r : Refused) → Some r ≡ None → ⊥
refused_not_none r e = cc

behind_line : (content : ℕ) (settings : Settings) (k : ℕ) (before h : List Entry) (front rest : List Line) (read : Result Cause Refusal)
    → ((c : Cause) → drive_from content settings (k + 1) (after settings before c) front ≡ record { history = h; refused = None } → drive_from content settings (k + 1) (after settings before c) (front ++ rest) ≡ drive_from content settings (k + 1 + length front) h rest)
    → driven_by content settings k before front read ≡ record { history = h; refused = None } → driven_by content settings k before (front ++ rest) read ≡ drive_from content settings (k + 1 + length front) h rest
behind_line content settings k before h front rest (Err r) ih e =
    absurd (refused_not_none (record { line = k; refusal = r }) (ap (λ (o : Outcome). o.refused) e))
behind_line content settings k before h front rest (Ok c) ih e = ih c e

-- driving lines goes on behind the first of them
pub drive_append : (content : ℕ) (settings : Settings) (k : ℕ) (before h : List Entry) (front rest : List Line) → drive_from content settings k before front ≡ record { history = h; refused = None }
    → drive_from content settings k before (front ++ rest) ≡ drive_from content settings (k + length front) h rest
drive_append content settings k before h [] rest e =
    let i : before ≡ h = ap (λ (o : Outcome). o.history) e in
    let n : k ≡ k + 0 = omega arith in
    ap (λ b. drive_from content settings k b rest) i ∙ ap (λ j. drive_from content settings j h rest) n
drive_append content settings k before h (line ∷ front) rest e =
    let n : k + 1 + length front ≡ k + length (line ∷ front) = omega arith in
    behind_line content settings k before h front rest (reading content before line) (λ c. drive_append content settings (k + 1) (after settings before c) h front rest) e
    ∙ ap (λ j. drive_from content settings j h rest) n

-- a line that ends within the limit
reading_near : (content : ℕ) (history : List Entry) (bytes : List ℕ) (upto : ℕ) → upto ≤ 2 ^ 40 → reading content history (record { bytes = bytes; upto = upto }) ≡ reading_bytes content history bytes
reading_near content history bytes upto h = let e : nat_lt (2 ^ 40) upto ≡ false = grind (arith, nat_tests) in rw e refl

reading_far : (content : ℕ) (history : List Entry) (line : Line) → 2 ^ 40 < line.upto → reading content history line ≡ Err Form
reading_far content history line h = let e : nat_lt (2 ^ 40) line.upto ≡ true = grind (arith, nat_tests) in rw e refl

reading_long : (content : ℕ) (history : List Entry) (line : Line) → 13 ≤ content → (2 ^ 40 < line.upto) ⊎ (longest content < length line.bytes) → reading content history line ≡ Err Form
reading_long content history line wide (inl h) = reading_far content history line h
reading_long content history line wide (inr h) = choice (nat_lt (2 ^ 40) line.upto) refl
  where
    choice : (b : Bool) → nat_lt (2 ^ 40) line.upto ≡ b → reading content history line ≡ Err Form
    choice true e = rw e refl
    choice false e = rw e (long_bytes content history line.bytes wide h)

-- one more line taken
regroup : (front : List Line) (line : Line) (rest : Option (List Line)) → option_map (λ ls. front ++ ls) (onto_known line rest) ≡ option_map (λ ls. (front ++ line ∷ []) ++ ls) rest
regroup front line None = refl
regroup front line (Some ls) = ap (λ l. Some l) (sym (append_assoc front (line ∷ []) ls))

run_more : (content : ℕ) (settings : Settings) (all now rest : Option (List Line)) (history : List Entry) (line : Line) (cause : Cause) → IsRunOf content settings all now history → now ≡ onto_known line rest → reading content history line ≡ Ok cause
    → IsRunOf content settings all rest (after settings history cause)
run_more content settings all now rest history line cause run e r = record {
  front = run.front ++ line ∷ [];
  whole = run.whole ∙ (ap (option_map (λ ls. run.front ++ ls)) e ∙ regroup run.front line rest);
  runs = drive_append content settings 1 [] history run.front (line ∷ []) run.runs ∙ ap (driven_by content settings (1 + length run.front) history []) r;
}

-- the lines' end
given_done : (content : ℕ) (settings : Settings) (all now : Option (List Line)) (history : List Entry) (front : List Line) → all ≡ option_map (λ ls. front ++ ls) now → drive_from content settings 1 [] front ≡ record { history = history; refused = None }
    → IfSome now (λ ls. ls ≡ []) → Gives content settings all (record { history = history; refused = None })
given_done content settings all None history front e r h = subst (λ a. Gives content settings a (record { history = history; refused = None })) (sym e) tt
given_done content settings all (Some ls) history front e r h =
    let w : front ++ ls ≡ front = ap (λ l. front ++ l) h ∙ append-nil front in
    subst (λ a. Gives content settings a (record { history = history; refused = None })) (sym e) (ap (drive_from content settings 1 []) w ∙ r)

-- a line that is refused
given_refused : (content : ℕ) (settings : Settings) (all rest : Option (List Line)) (history : List Entry) (front : List Line) (line : Line) (refusal : Refusal) → all ≡ option_map (λ ls. front ++ ls) (onto_known line rest)
    → drive_from content settings 1 [] front ≡ record { history = history; refused = None } → reading content history line ≡ Err refusal
    → Gives content settings all (record { history = history; refused = Some (record { line = 1 + length front; refusal = refusal }) })
given_refused content settings all None history front line refusal e r h = subst (λ a. Gives content settings a (record { history = history; refused = Some (record { line = 1 + length front; refusal = refusal }) })) (sym e) tt
given_refused content settings all (Some ls) history front line refusal e r h =
    subst (λ a. Gives content settings a (record { history = history; refused = Some (record { line = 1 + length front; refusal = refusal }) })) (sym e)
    (drive_append content settings 1 [] history front (line ∷ ls) r ∙ ap (driven_by content settings (1 + length front) history ls) h)

given_passed : (content : ℕ) (settings : Settings) (wide : 13 ≤ content) (all now : Option (List Line)) (history : List Entry) (front : List Line) → all ≡ option_map (λ ls. front ++ ls) now
    → drive_from content settings 1 [] front ≡ record { history = history; refused = None } → IfSome now (FirstTooLong content)
    → Gives content settings all (record { history = history; refused = Some (record { line = 1 + length front; refusal = Form }) })
given_passed content settings wide all None history front e r h = subst (λ a. Gives content settings a (record { history = history; refused = Some (record { line = 1 + length front; refusal = Form }) })) (sym e) tt
given_passed content settings wide all (Some []) history front e r h = absurd h
given_passed content settings wide all (Some (line ∷ ls)) history front e r h = given_refused content settings all (Some ls) history front line Form e r (reading_long content history line wide h)

-- what was written
pub append_both : (w : Option (List ℕ)) (a b : List ℕ) → append_known (append_known w a) b ≡ append_known w (a ++ b)
append_both None a b = refl
append_both (Some bytes) a b = ap (λ l. Some l) (append_assoc bytes a b)

outs_more : (settings : Settings) (history : List Entry) (cause : Cause) → outs_text (after settings history cause) ≡ outs_text history ++ out_lines (emits settings history cause)
unfolding after
outs_more settings history cause =
    flat_map-append (λ (entry : Entry). out_lines entry.outs) history (entry_of settings history cause ∷ []) ∙ ap (λ l. outs_text history ++ l) (append-nil (out_lines (emits settings history cause)))

pub take_more : (a b : List ℕ) (n : ℕ) → take (length a + n) (a ++ b) ≡ a ++ take n b
take_more [] b n = let e : 0 + n ≡ n = omega arith in ap (λ k. take k b) e
take_more (x ∷ a) b n = let e : length (x ∷ a) + n ≡ suc (length a + n) = omega arith in ap (λ k. take k (x ∷ a ++ b)) e ∙ ap (λ l. x ∷ l) (take_more a b n)

pub front_of_all : (w v : Option (List ℕ)) (text : List ℕ) → v ≡ append_known w text → WroteFront w v text
front_of_all w v text e = record { count = length text; wrote = e ∙ ap (append_known w) (sym (take-length text)) }

front_of_more : (w v u : Option (List ℕ)) (a b c : List ℕ) (n : ℕ) → v ≡ append_known w a → u ≡ append_known v (take n b) → c ≡ a ++ b → WroteFront w u c
front_of_more w v u a b c n e f g = record {
  count = length a + n;
  wrote = f ∙ (ap (λ o. append_known o (take n b)) e ∙ (append_both w a (take n b) ∙ ap (append_known w) (sym (take_more a b n) ∙ ap (take (length a + n)) (sym g))));
}

-- the exits and the turn of the loop
pub begins : {J : Type 0} (told : J → Option (List Entry)) (content : ℕ) (settings : Settings) (hub : HubView J) (buffer : BufferView) (left w : Option (List ℕ)) → HubStands told hub []
    → buffer ≡ record { pending = []; used = 0 } → Driving told content settings left left buffer 0 w w hub
begins told content settings hub buffer left w s e = record {
  history = [];
  stands = s;
  run = record { front = []; whole = unread left ∙ ap (λ (b : BufferView). option_map (λ lines. [] ++ lines) (known_lines b left)) (sym e); runs = refl };
  consumed = subst (λ b. Consumed left left b []) (sym e) (consumed_none left);
  count = refl;
  wrote = unwritten w;
}
  where
    unread : (left : Option (List ℕ)) → option_map lines_of left ≡ option_map (λ lines. [] ++ lines) (known_lines (record { pending = []; used = 0 }) left)
    unread None = refl
    unread (Some bytes) = refl

    unwritten : (w : Option (List ℕ)) → w ≡ append_known w (outs_text [])
    unwritten None = refl
    unwritten (Some bytes) = ap (λ l. Some l) (sym (append-nil bytes))

taken_more : (front : List Line) (line : Line) (taken : ℕ) → taken ≡ length front → taken + 1 ≡ length (front ++ line ∷ [])
taken_more front line taken e = omega (arith, e, length-append front (line ∷ []))

-- the outs of one more entry were written
wrote_behind : (settings given : Settings) (history : List Entry) (cause : Cause) (w v u : Option (List ℕ)) → given ≡ settings → v ≡ append_known w (outs_text history) → u ≡ append_known v (out_lines (emits given history cause))
    → u ≡ append_known w (outs_text (after settings history cause))
wrote_behind settings given history cause w v u s o e = e ∙ (ap (λ o. append_known o (out_lines (emits given history cause))) o ∙ (append_both w (outs_text history) (out_lines (emits given history cause))
    ∙ ap (append_known w) (ap (λ q. outs_text history ++ out_lines (emits q history cause)) s ∙ sym (outs_more settings history cause))))

module _ {J : Type 0} (told : J → Option (List Entry)) (content : ℕ) (settings : Settings) (input left next_left : Option (List ℕ)) (buffer next_buffer : BufferView) (taken : ℕ) (w v u : Option (List ℕ)) (hub next : HubView J) (bytes : List ℕ)
    (d : Driving told content settings input left buffer taken w v hub) (same : hub.settings ≡ settings) (first : known_lines buffer left ≡ onto_known (record { bytes = bytes; upto = next_buffer.used }) (known_lines next_buffer next_left))
    (near : next_buffer.used ≤ 2 ^ 40) where
  run_behind : (cause : Cause) → reading_bytes content d.history bytes ≡ Ok cause → IsRunOf content settings (option_map lines_of input) (known_lines next_buffer next_left) (after settings d.history cause)
  run_behind cause reads = run_more content settings (option_map lines_of input) (known_lines buffer left) (known_lines next_buffer next_left) d.history (record { bytes = bytes; upto = next_buffer.used }) cause d.run first
      (reading_near content d.history bytes next_buffer.used near ∙ reads)

  pub goes_on : ((history : List Entry) → HubStands told hub history → LineTaken told content history bytes hub next v u) → Came (10 ∷ []) bytes buffer next_buffer left next_left
      → Driving told content settings input next_left next_buffer (taken + 1) w u next
  unfolding run_more run_behind
  goes_on f came =
      let t : LineTaken told content d.history bytes hub next v u = f d.history d.stands in
      record {
        history = after settings d.history t.cause;
        stands = subst (λ q. HubStands told next (after q d.history t.cause)) same t.stands;
        run = run_behind t.cause t.reads;
        consumed = consumed_more input left next_left buffer next_buffer d.run.front bytes d.consumed came;
        count = taken_more d.run.front (record { bytes = bytes; upto = next_buffer.used }) taken d.count;
        wrote = wrote_behind settings hub.settings d.history t.cause w v u same d.wrote t.wrote;
      }

  -- behind the last line, which no line feed ends
  pub ends_behind : ((history : List Entry) → HubStands told hub history → LineTaken told content history bytes hub next v u) → IfSome (known_lines next_buffer next_left) (λ ls. ls ≡ [])
      → Driven told content settings input next_left w u next (Ok tt)
  ends_behind f none =
      let t : LineTaken told content d.history bytes hub next v u = f d.history d.stands in
      let o : u ≡ append_known w (outs_text (after settings d.history t.cause)) = wrote_behind settings hub.settings d.history t.cause w v u same d.wrote t.wrote in
      let r : IsRunOf content settings (option_map lines_of input) (known_lines next_buffer next_left) (after settings d.history t.cause) = run_behind t.cause t.reads in
      record {
        history = after settings d.history t.cause;
        stands = subst (λ q. HubStands told next (after q d.history t.cause)) same t.stands;
        rest = known_lines next_buffer next_left;
        run = r;
        wrote = front_of_all w u (outs_text (after settings d.history t.cause)) o;
        done = (o, given_done content settings (option_map lines_of input) (known_lines next_buffer next_left) (after settings d.history t.cause) r.front r.whole r.runs none);
        stopped = tt;
      }

pub ends : {J : Type 0} (told : J → Option (List Entry)) (content : ℕ) (settings : Settings) (input left now_left : Option (List ℕ)) (buffer : BufferView) (taken : ℕ) (w v : Option (List ℕ)) (hub : HubView J)
    → Driving told content settings input left buffer taken w v hub → IfSome (known_lines buffer left) (λ ls. ls ≡ []) → Driven told content settings input now_left w v hub (Ok tt)
ends told content settings input left now_left buffer taken w v hub d h = record {
  history = d.history;
  stands = d.stands;
  rest = known_lines buffer left;
  run = d.run;
  wrote = front_of_all w v (outs_text d.history) d.wrote;
  done = (d.wrote, given_done content settings (option_map lines_of input) (known_lines buffer left) d.history d.run.front d.run.whole d.run.runs h);
  stopped = tt;
}

numbered_as : (content : ℕ) (settings : Settings) (all : Option (List Line)) (history : List Entry) (front : List Line) (refusal : Refusal) (number taken : ℕ) → number ≡ taken + 1 → taken ≡ length front
    → Gives content settings all (record { history = history; refused = Some (record { line = 1 + length front; refusal = refusal }) }) → Gives content settings all (record { history = history; refused = Some (record { line = number; refusal = refusal }) })
numbered_as content settings all history front refusal number taken n t h =
    let e : 1 + length front ≡ number = omega (arith, n, t) in
    subst (λ k. Gives content settings all (record { history = history; refused = Some (record { line = k; refusal = refusal }) })) e h

stop_says : {J : Type 0} (told : J → Option (List Entry)) (content : ℕ) (settings : Settings) (wide : 13 ≤ content) (input left now_left : Option (List ℕ)) (buffer : BufferView) (taken number : ℕ) (w v : Option (List ℕ)) (hub : HubView J) (s : LineStop)
    (d : Driving told content settings input left buffer taken w v hub) → number ≡ taken + 1 → (s ≡ line_stop.Passed → IfSome (known_lines buffer left) (FirstTooLong content)) → (s ≡ line_stop.Input → BrokeOff buffer left now_left)
    → StopsAt content settings input now_left (known_lines buffer left) w v d.history (stop_at number s)
stop_says told content settings wide input left now_left buffer taken number w v hub line_stop.Memory d n p b = tt
stop_says told content settings wide input left now_left buffer taken number w v hub line_stop.Input d n p b = (d.wrote, consumed_read content settings input left now_left buffer d.run.front d.history d.consumed (b refl) d.run.runs)
stop_says told content settings wide input left now_left buffer taken number w v hub line_stop.Passed d n p b =
    (d.wrote, numbered_as content settings (option_map lines_of input) d.history d.run.front Form number taken n d.count (given_passed content settings wide (option_map lines_of input) (known_lines buffer left) d.history d.run.front d.run.whole d.run.runs (p refl)))

pub stops : {J : Type 0} (told : J → Option (List Entry)) (content : ℕ) (settings : Settings) (wide : 13 ≤ content) (input left now_left : Option (List ℕ)) (buffer : BufferView) (taken number : ℕ) (w v : Option (List ℕ)) (hub : HubView J) (s : LineStop)
    → Driving told content settings input left buffer taken w v hub → number ≡ taken + 1 → (s ≡ line_stop.Passed → IfSome (known_lines buffer left) (FirstTooLong content)) → (s ≡ line_stop.Input → BrokeOff buffer left now_left)
    → Driven told content settings input now_left w v hub (Err (stop_at number s))
stops told content settings wide input left now_left buffer taken number w v hub s d n p b = record {
  history = d.history;
  stands = d.stands;
  rest = known_lines buffer left;
  run = d.run;
  wrote = front_of_all w v (outs_text d.history) d.wrote;
  done = tt;
  stopped = stop_says told content settings wide input left now_left buffer taken number w v hub s d n p b;
}

module _ {J : Type 0} (told : J → Option (List Entry)) (content : ℕ) (settings : Settings) (input left next_left : Option (List ℕ)) (buffer next_buffer : BufferView) (taken : ℕ) (w v u : Option (List ℕ)) (hub next : HubView J) (bytes : List ℕ)
    (d : Driving told content settings input left buffer taken w v hub) (same : hub.settings ≡ settings) (first : known_lines buffer left ≡ onto_known (record { bytes = bytes; upto = next_buffer.used }) (known_lines next_buffer next_left))
    (near : next_buffer.used ≤ 2 ^ 40) where
  -- a line that was taken or not, before a stop that says no more
  left_at : (s : Stop) → ((history : List Entry) (rest : Option (List Line)) → StopsAt content settings input next_left rest w u history s) → LineLeft told content d.history bytes hub next v u → Driven told content settings input next_left w u next (Err s)
  left_at s says (untouched stands o) = record {
    history = d.history;
    stands = stands;
    rest = known_lines buffer left;
    run = d.run;
    wrote = front_of_all w u (outs_text d.history) (o ∙ d.wrote);
    done = tt;
    stopped = says d.history (known_lines buffer left);
  }
  left_at s says (stepped cause count reads stands o) = record {
    history = after settings d.history cause;
    stands = subst (λ z. HubStands told next (after z d.history cause)) same stands;
    rest = known_lines next_buffer next_left;
    run = run_behind told content settings input left next_left buffer next_buffer taken w v u hub next bytes d same first near cause reads;
    wrote = front_of_more w v u (outs_text d.history) (out_lines (emits hub.settings d.history cause)) (outs_text (after settings d.history cause)) count d.wrote o
        (outs_more settings d.history cause ∙ ap (λ z. outs_text d.history ++ out_lines (emits z d.history cause)) (sym same));
    done = tt;
    stopped = says (after settings d.history cause) (known_lines next_buffer next_left);
  }

  kept_at : (s : Stop) → HubStands told next d.history → u ≡ v → StopsAt content settings input next_left (known_lines buffer left) w u d.history s → Driven told content settings input next_left w u next (Err s)
  kept_at s stands o says = record {
    history = d.history;
    stands = stands;
    rest = known_lines buffer left;
    run = d.run;
    wrote = front_of_all w u (outs_text d.history) (o ∙ d.wrote);
    done = tt;
    stopped = says;
  }

  -- the line at which a journal failed
  first_taken : (rest : Option (List Line)) → IsTaken content d.history bytes → IfSome (onto_known (record { bytes = bytes; upto = next_buffer.used }) rest) (TakesFirst content d.history)
  first_taken None t = tt
  first_taken (Some lines) t = (t.cause, reading_near content d.history bytes next_buffer.used near ∙ t.reads)

  -- the line with which the causes and outs would be too many
  first_passes : (rest : Option (List Line)) → IsTooMany content settings d.history bytes → IfSome (onto_known (record { bytes = bytes; upto = next_buffer.used }) rest) (PassesFirst content settings d.history)
  first_passes None t = tt
  first_passes (Some lines) t = (t.cause, reading_near content d.history bytes next_buffer.used near ∙ t.reads, t.passes)

  pub faults : (number : ℕ) (fault : TakeFault) → number ≡ taken + 1 → LineLeft told content d.history bytes hub next v u → (LeavesWritten fault → HubStands told next d.history × (u ≡ v))
      → ((r : Refusal) → fault ≡ take_fault.Refused r → reading_bytes content d.history bytes ≡ Err r) → (fault ≡ take_fault.Journal → IsTaken content d.history bytes) → (fault ≡ take_fault.Numbers → IsTooMany content hub.settings d.history bytes)
      → Driven told content settings input next_left w u next (Err (fault_at number fault))
  faults number take_fault.Memory n left_line kept refused taken_line passing = left_at stop.Memory (λ h r. tt) left_line
  faults number take_fault.Output n left_line kept refused taken_line passing = left_at stop.Output (λ h r. tt) left_line
  faults number take_fault.Journal n left_line kept refused taken_line passing =
      let k : HubStands told next d.history × (u ≡ v) = kept tt in
      kept_at stop.Journal k.0 k.1 (k.1 ∙ d.wrote, subst (λ rest. IfSome rest (TakesFirst content d.history)) (sym first) (first_taken (known_lines next_buffer next_left) (taken_line refl)))
  faults number take_fault.Numbers n left_line kept refused taken_line passing =
      let k : HubStands told next d.history × (u ≡ v) = kept tt in
      kept_at stop.Numbers k.0 k.1 (k.1 ∙ d.wrote, subst (λ rest. IfSome rest (PassesFirst content settings d.history)) (sym first) (first_passes (known_lines next_buffer next_left) (subst (λ q. IsTooMany content q d.history bytes) same (passing refl))))
  faults number (take_fault.Refused r) n left_line kept refused taken_line passing =
      let k : HubStands told next d.history × (u ≡ v) = kept tt in
      kept_at (stop.Refused number r) k.0 k.1 (
        k.1 ∙ d.wrote,
        numbered_as content settings (option_map lines_of input) d.history d.run.front r number taken n d.count
            (given_refused content settings (option_map lines_of input) (known_lines next_buffer next_left) d.history d.run.front (record { bytes = bytes; upto = next_buffer.used }) r (d.run.whole ∙ ap (option_map (λ ls. d.run.front ++ ls)) first) d.run.runs
            (reading_near content d.history bytes next_buffer.used near ∙ refused r refl)),
      )

memory_not_passed : line_stop.Memory ≡ line_stop.Passed → ⊥
memory_not_passed e = cc

memory_not_input : line_stop.Memory ≡ line_stop.Input → ⊥
memory_not_input e = cc

-- no memory for a buffer
pub never_begins : {J : Type 0} (told : J → Option (List Entry)) (content : ℕ) (settings : Settings) (wide : 13 ≤ content) (hub : HubView J) (left w : Option (List ℕ)) → HubStands told hub [] → Driven told content settings left left w w hub (Err stop.Memory)
never_begins told content settings wide hub left w s =
    stops told content settings wide left left left (record { pending = []; used = 0 }) 0 1 w w hub line_stop.Memory
    (begins told content settings hub (record { pending = []; used = 0 }) left w s refl) refl (λ e. absurd (memory_not_passed e)) (λ e. absurd (memory_not_input e))
