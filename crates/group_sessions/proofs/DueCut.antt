-- X2: as the program of a start ends, an editor where a token had begun is told that it ends, and nothing else of it.
use Rattle.std.proofs.Common.{◌≡◌, ℕ, ◌^◌, ◌<◌, ◌≤◌, Bool, true, false, ◌&&◌, ◌||◌, List, [], ◌∷◌, ◌++◌, bytes_eq, filter, flat_map, nat_eq, nat_le, if◌then◌else◌, Option, Some, None, refl, sym, ◌∙◌, ap, ap₂, subst, ltb-true, arith, append_assoc}
use Rattle.std.specs.Prelude.{slice_get}
use Rattle.std.specs.List.{AllByRecursion, list_any, range_with_len}
use Rattle.std.proofs.lemmas.Bool.{and_parts, leb-false, leb-true}
use Rattle.std.proofs.lemmas.Slice.Eq.{bytes_eq-Decides}
use Rattle.mux_history.specs.declared.cause.Cause.{Cause}
use Rattle.mux_history.specs.declared.out.Out.{Out}
use Rattle.mux_history.specs.declared.out.Out.TheVariants.{ToEditor}
use Rattle.rpc_message.specs.Message.{message_of}
use Rattle.event_model.specs.Event.{Event, behind, said, with_cause}
use Rattle.event_model.specs.Phases.{Desk, desk_of, editors_of, is_running, is_there, is_waiting}
use Rattle.event_model.specs.Row.{Row, choose, each, nothing, on, outs, send, ◌⨾◌}
use Rattle.event_model.specs.Settings.{Settings}
use Rattle.event_model.specs.Spawns.{starts_of}
use Rattle.event_model.specs.Stages.{is_ready, life_of}
use Rattle.event_model.proofs.Frames.{never}
use Rattle.mux_facts.proofs.Keeps.{behind_both}
use Rattle.mux_facts.proofs.Lists.{all_filtered}
use Rattle.mux_facts.proofs.Reasons.{Because, by_choose, by_look, by_nothing, by_send, by_then}
use Rattle.mux_facts.proofs.Words.{number_same, same_number}
use Rattle.group_words.specs.declared.kept.Kept.{Kept}
use Rattle.group_words.specs.Houses.{groups_of, home_of, is_home}
use Rattle.group_words.specs.Rows.{spawn}
use Rattle.group_rows.specs.diagnostics_route.specs.declared.last_list.LastList.{LastList}
use Rattle.group_rows.specs.Asks.{Ask, asks_of, has_number, is_with, members_in, next_ask, running_in}
use Rattle.group_rows.specs.Created.{Created, Taking, Token, created_mark, created_of, created_text, is_at, is_numbered}
use Rattle.group_rows.specs.ExitRows.{begun_at, cancel_ask, cancel_take, empty_list, empty_text, end_text, end_token, exit_in, has_begun, lose_sent, lose_start, starts_again, turn_out, unanswered_at}
use Rattle.group_rows.specs.Forwarded.{Forwarded, forwarding_of, is_of}
use Rattle.group_rows.specs.Leaves.{cancel_text}
use Rattle.group_rows.specs.Lists.{lists_of}
use Rattle.group_rows.specs.Live.{live_of}
use Rattle.group_rows.specs.LiveRows.{unregister_any}
use Rattle.group_rows.specs.Rows.{outs_of}
use Rattle.group_rows.specs.StopRows.{lose_request}
use Rattle.group_rows.proofs.Cancels.{cancel_says}
use Rattle.group_rows.proofs.ExitTexts.{empty_says, end_says}
use Rattle.group_rows.proofs.ListsKept.{IsList, lists_kept}
use Rattle.group_rows.proofs.LiveTexts.{live_written, unregister_says}
use Rattle.group_facts.specs.Facts.{IsAsked, IsForwarded, IsTake, AllHeld}
use Rattle.group_facts.specs.Lively.{lives as lives_kept, lives_at}
use Rattle.group_facts.specs.Settled.{Settled, is_answered}
use Rattle.group_facts.specs.Why.{IsLost}
use Rattle.group_facts.proofs.Begun.{all_outs}
use Rattle.group_facts.proofs.ExitEntry.{Exit}
use Rattle.group_facts.proofs.ExitOuts.{start_by}
use Rattle.group_facts.proofs.ExitRow.{waiting_closed, waiting_told}
use Rattle.group_facts.proofs.Facts.{Facts}
use Rattle.group_facts.proofs.Lively.{lives_of}
use Rattle.group_facts.proofs.Losses.{lost_says, lost_text}
use Rattle.group_facts.proofs.Marks.{mark_number}
use Rattle.group_facts.proofs.PutOut.{outs_tested}
use Rattle.group_facts.proofs.Quits.{asked_while}
use Rattle.group_sessions.proofs.CreatedFold.{AllApart, IsApart, IsLive, created_orderly}
use Rattle.group_sessions.proofs.DueSent.{flat_kept, one_of, only_one, sent_outs}
use Rattle.group_sessions.proofs.DueWords.{flat_join}
use Rattle.group_sessions.proofs.EndTexts.{end_marks}
use Rattle.group_sessions.proofs.HeldFold.{IsAlive, IsFair, created_fair}
use Rattle.group_sessions.specs.Due.{names_mark, sent_by}
use Rattle.group_sessions.proofs.HeldPlaces.{held_lost, held_turned, turned_by}
use Rattle.mux_facts.specs.Ranges.{InRange}

module _ (settings : Settings) (range : InRange settings) (before : List Event) (facts : Facts settings before) (settled : Settled settings before) (few : starts_of before ≤ 2 ^ 64) (cause : Cause) (s k e : ℕ) (exit : Exit settings before cause s) (low : s < 2 ^ 64) (small : k < 2 ^ 64) where
  abbrev now : List Event
  now = with_cause before cause

  abbrev x : Created
  x = created_of settings s before

  abbrev fs : List Forwarded
  fs = (forwarding_of settings s before).open_requests

  -- outs that tell e nothing of the token

  abbrev Markless : Out → Type 0
  Markless out = sent_by s k e (said out) ≡ []

  abbrev Off : List Event → Row → Type 0
  Off events row = Because (λ places out. Markless out) events row

  marks_none : (xs : List Out) → AllByRecursion Markless xs → sent_outs s k e xs ≡ []
  marks_none [] h = refl
  marks_none (o ∷ os) h = ap₂ (λ u v. u ++ v) h.0 (marks_none os h.1)

  off_marks : (events : List Event) (row : Row) → Off events row → sent_outs s k e (outs row events) ≡ []
  off_marks events row h = marks_none (outs row events) (all_outs Markless events (outs row events) h.why)

  plain_out : (n : ℕ) (body : List ℕ) → names_mark s k (message_of body) ≡ false → Markless (ToEditor n body)
  plain_out n body h = ap (λ b. if nat_eq n e && b then body ∷ [] else []) h ∙ off (nat_eq n e)
    where
      off : (a : Bool) → (if a && false then body ∷ [] else []) ≡ []
      off true = refl
      off false = refl

  other_out : (n : ℕ) (body : List ℕ) → nat_eq n e ≡ false → Markless (ToEditor n body)
  other_out n body off = ap (λ b. if b && names_mark s k (message_of body) then body ∷ [] else []) off

  sent_join : (xs ys : List Out) → sent_outs s k e (xs ++ ys) ≡ sent_outs s k e xs ++ sent_outs s k e ys
  sent_join xs ys = flat_join (λ (out : Out). sent_by s k e (said out)) xs ys

  -- X1
  requests_off : (gs : List Forwarded) → AllByRecursion (IsForwarded before) gs → (events : List Event) → Off events (each lose_request gs)
  requests_off [] known events = by_nothing
  requests_off (f ∷ gs) known events = by_then (by_send (plain_out f.editor (lost_text f) (ap (names_mark s k) (lost_says before f known.0)))) (requests_off gs known.1 (behind events (outs (lose_request f) events)))

  sent_off : AllByRecursion (IsForwarded before) fs → (es : List ℕ) (events : List Event) → Off events (each (lose_sent settings before s) es)
  sent_off known [] events = by_nothing
  sent_off known (n ∷ es) events = by_then (requests_off (filter (is_of n) fs) (all_filtered (IsForwarded before) (IsForwarded before) (is_of n) (λ f t j. j) fs known) events) (sent_off known es (behind events (outs (lose_sent settings before s n) events)))

  -- X2
  takes_off : (cs : List Taking) → AllByRecursion (IsTake before) cs → (events : List Event) → Off events (each (cancel_take e) cs)
  takes_off [] known events = by_nothing
  takes_off (c ∷ cs) known events = by_then (by_send (plain_out e (cancel_text c.number) (ap (names_mark s k) (cancel_says c.number (known.0).small)))) (takes_off cs known.1 (behind events (outs (cancel_take e c) events)))

  asks_off : (cs : List Ask) → AllByRecursion (IsAsked s before) cs → (events : List Event) → Off events (each (cancel_ask e) cs)
  asks_off [] known events = by_nothing
  asks_off (a ∷ cs) known events = by_then (by_send (plain_out e (cancel_text a.number) (ap (names_mark s k) (cancel_says a.number (known.0).small)))) (asks_off cs known.1 (behind events (outs (cancel_ask e a) events)))

  forgets_off : (events : List Event) → Off events (unregister_any (live_of settings s before) e)
  forgets_off events = by_choose (λ some. by_look (by_choose (λ room. by_send (plain_out e _ (ap (names_mark s k) (unregister_says (live_of settings s before) (live_written settings s before) (next_ask e events) (small_number room)).1))) (λ full. by_nothing))) (λ none. by_nothing)
    where
      small_number : has_number e events ≡ true → next_ask e events < 2 ^ 128
      small_number room = let below : next_ask e events < 2 ^ 64 = ltb-true (next_ask e events) (2 ^ 64) room in omega (arith, below)

  empties_off : (ls : List LastList) → AllByRecursion IsList ls → (events : List Event) → Off events (each (empty_list before e) ls)
  empties_off [] kept events = by_nothing
  empties_off (l ∷ ls) kept events = by_then (by_choose (λ full. by_send (plain_out e (empty_text l.uri) (ap (names_mark s k) (empty_says l.uri (kept.0).spelt)))) (λ none. by_nothing)) (empties_off ls kept.1 (behind events (outs (empty_list before e l) events)))

  -- the tokens
  abbrev the_end : List (List ℕ)
  the_end = end_text (created_text s k) ∷ []

  abbrev Small : Token → Type 0
  Small t = t.number < 2 ^ 64

  names_own : (t : Token) → nat_eq t.number k ≡ true → names_mark s k (message_of (end_text (created_text s t.number))) ≡ true
  names_own t same = ap (names_mark s k) (end_says s t.number) ∙ (end_marks s k s t.number ∙ (ap (λ j. bytes_eq (created_mark s k) (created_mark s j)) (number_same t.number k same) ∙ itself (created_mark s k)))
    where
      itself : (xs : List ℕ) → bytes_eq xs xs ≡ true
      itself xs = (bytes_eq-Decides xs xs).1 refl

  names_other : (t : Token) → Small t → nat_eq t.number k ≡ false → names_mark s k (message_of (end_text (created_text s t.number))) ≡ false
  names_other t low_t other = ap (names_mark s k) (end_says s t.number) ∙ (end_marks s k s t.number ∙ go (bytes_eq (created_mark s k) (created_mark s t.number)) refl)
    where
      go : (b : Bool) → bytes_eq (created_mark s k) (created_mark s t.number) ≡ b → b ≡ false
      go true same = let number : k ≡ t.number = mark_number s k s t.number small low_t ((bytes_eq-Decides (created_mark s k) (created_mark s t.number)).0 same) in never (sym (sym (ap (λ j. nat_eq j k) number) ∙ same_number k) ∙ other)
      go false off = refl

  one_other : (t : Token) → Small t → nat_eq t.number k ≡ false → (events : List Event) → sent_outs s k e (outs (end_token s e x t) events) ≡ []
  one_other t low_t other events = off_marks events (end_token s e x t) (by_choose (λ begun. by_send (plain_out e (end_text (created_text s t.number)) (names_other t low_t other))) (λ not_yet. by_nothing))

  all_other : (ts : List Token) → AllByRecursion Small ts → list_any (is_numbered k) ts ≡ false → (events : List Event) → sent_outs s k e (outs (each (end_token s e x) ts) events) ≡ []
  all_other [] low_ts none events = refl
  all_other (t ∷ ts) low_ts none events = sent_join (outs (end_token s e x t) events) (outs (each (end_token s e x) ts) (behind events (outs (end_token s e x t) events)))
      ∙ ap₂ (λ u v. u ++ v) (one_other t low_ts.0 (first (is_numbered k t) (list_any (is_numbered k) ts) none) events) (all_other ts low_ts.1 (second (is_numbered k t) (list_any (is_numbered k) ts) none) (behind events (outs (end_token s e x t) events)))
    where
      first : (a b : Bool) → (a || b) ≡ false → a ≡ false
      first true b h = h
      first false b h = refl

      second : (a b : Bool) → (a || b) ≡ false → b ≡ false
      second true b h = never h
      second false b h = h

  module _ (begun : has_begun e k x ≡ true) where
    one_own : (t : Token) → nat_eq t.number k ≡ true → (events : List Event) → sent_outs s k e (outs (end_token s e x t) events) ≡ the_end
    one_own t same events = ap (λ b. sent_outs s k e (outs (choose b (send (ToEditor e (end_text (created_text s t.number)))) nothing) events)) (ap (λ j. has_begun e j x) number ∙ begun)
        ∙ (ap₂ (λ a b. (if a && b then end_text (created_text s t.number) ∷ [] else []) ++ []) (same_number e) (names_own t same) ∙ ap (λ j. end_text (created_text s j) ∷ []) number)
      where
        number : t.number ≡ k
        number = number_same t.number k same

    none_again : (t : Token) (ts : List Token) → nat_eq t.number k ≡ true → AllByRecursion (IsApart t) ts → list_any (is_numbered k) ts ≡ false
    none_again t [] same apart = refl
    none_again t (u ∷ us) same apart = ap₂ (λ a b. a || b) (sym (ap (nat_eq u.number) (number_same t.number k same)) ∙ (apart.0).0) (none_again t us same apart.1)

    tokens_marks : (ts : List Token) → AllApart ts → AllByRecursion Small ts → list_any (is_numbered k) ts ≡ true → (events : List Event) → sent_outs s k e (outs (each (end_token s e x) ts) events) ≡ the_end
    tokens_marks [] apart low_ts there events = never (sym there)
    tokens_marks (t ∷ ts) apart low_ts there events = sent_join (outs (end_token s e x t) events) (outs (each (end_token s e x) ts) (behind events (outs (end_token s e x t) events))) ∙ go (λ h. tokens_marks ts apart.1 low_ts.1 h (behind events (outs (end_token s e x t) events))) (nat_eq t.number k) refl there
      where
        go : (list_any (is_numbered k) ts ≡ true → sent_outs s k e (outs (each (end_token s e x) ts) (behind events (outs (end_token s e x t) events))) ≡ the_end) → (b : Bool) → nat_eq t.number k ≡ b → (b || list_any (is_numbered k) ts) ≡ true
            → sent_outs s k e (outs (end_token s e x t) events) ++ sent_outs s k e (outs (each (end_token s e x) ts) (behind events (outs (end_token s e x t) events))) ≡ the_end
        go later true same h = ap₂ (λ u v. u ++ v) (one_own t same events) (all_other ts low_ts.1 (none_again t ts same apart.0) (behind events (outs (end_token s e x t) events)))
        go later false other h = ap₂ (λ u v. u ++ v) (one_other t low_ts.0 other events) (later h)

    lows : (us : List Token) → AllByRecursion (IsLive x.next) us → AllByRecursion Small us
    lows [] h = tt
    lows (u ∷ us) h = (let below : u.number < x.next = (h.0).below in let top : x.next ≤ 2 ^ 64 = (created_fair settings s before (facts.base).meant).small in omega (arith, below, top), lows us h.1)

    -- what was accepted lives
    alive : IsAlive x.tokens k
    alive = one_of (IsFair x.tokens) (IsAlive x.tokens k) (begun_at e k) (λ c at fair. let p = and_parts c.accepted (is_at e c && nat_eq c.token k) (and_parts c.begun (c.accepted && (is_at e c && nat_eq c.token k)) at).1 in
        subst (IsAlive x.tokens) (number_same c.token k (and_parts (is_at e c) (nat_eq c.token k) p.1).1) (fair.alive p.0)) x.takings (created_fair settings s before (facts.base).meant).takings begun

    abbrev others : Row
    others = each (cancel_take e) (filter (unanswered_at e) x.takings) ⨾ (each (cancel_ask e) (filter (is_with e) (asks_of settings s before)) ⨾ (unregister_any (live_of settings s before) e ⨾ each (empty_list before e) (lists_of s before)))

    own_marks : (events : List Event) → sent_outs s k e (outs (lose_start settings before s e) events) ≡ the_end
    own_marks events = sent_join tokens rest ∙ ap₂ (λ u v. u ++ v) (tokens_marks x.tokens (created_orderly settings s before).apart (lows x.tokens (created_orderly settings s before).live) alive events) (off_marks (behind events tokens) others others_off)
      where
        tokens : List Out
        tokens = outs (each (end_token s e x) x.tokens) events

        rest : List Out
        rest = outs others (behind events tokens)

        others_off : Off (behind events tokens) others
        others_off = by_then (takes_off (filter (unanswered_at e) x.takings) (all_filtered (IsTake before) (IsTake before) (unanswered_at e) (λ c t j. j) x.takings ((facts.steady).takes s)) _)
            (by_then (asks_off (filter (is_with e) (asks_of settings s before)) (all_filtered (IsAsked s before) (IsAsked s before) (is_with e) (λ a t j. j) (asks_of settings s before) ((facts.steady).asks s).asked) _)
            (by_then (forgets_off _) (empties_off (lists_of s before) (lists_kept s before (facts.base).meant) _)))

    -- no editor but e, and e once
    abbrev of_one : ℕ → List (List ℕ)
    of_one n = if nat_eq n e then the_end else []

    one_marks : (n : ℕ) (events : List Event) → sent_outs s k e (outs (lose_start settings before s n) events) ≡ of_one n
    one_marks n events = go (nat_eq n e) refl
      where
        go : (b : Bool) → nat_eq n e ≡ b → sent_outs s k e (outs (lose_start settings before s n) events) ≡ (if b then the_end else [])
        go true same = subst (λ z. sent_outs s k e (outs (lose_start settings before s z) events) ≡ the_end) (sym (number_same n e same)) (own_marks events)
        go false off = off_marks events (lose_start settings before s n) (start_by settings (λ places out. Markless out) n (λ places body. other_out n body off) s before events)

    each_marks : (ns : List ℕ) (events : List Event) → sent_outs s k e (outs (each (lose_start settings before s) ns) events) ≡ flat_map of_one ns
    each_marks [] events = refl
    each_marks (n ∷ ns) events = sent_join (outs (lose_start settings before s n) events) (outs (each (lose_start settings before s) ns) (behind events (outs (lose_start settings before s n) events)))
        ∙ ap₂ (λ u v. u ++ v) (one_marks n events) (each_marks ns (behind events (outs (lose_start settings before s n) events)))

    module _ (lost : IsLost settings before cause e s) where
      abbrev g : ℕ
      g = lost.group

      abbrev P : ℕ → Bool
      P n = is_running (desk_of n before).phase && is_home g (home_of settings n before)

      abbrev in_all : ℕ → List (List ℕ)
      in_all n = if P n then of_one n else []

      others_none : (n : ℕ) → nat_eq n e ≡ false → in_all n ≡ []
      others_none n off = go (P n)
        where
          go : (a : Bool) → (if a then of_one n else []) ≡ []
          go true = ap (λ b. if b then the_end else []) off
          go false = refl

      here : in_all e ≡ the_end
      here = ap₂ (λ a b. if a then (if b then the_end else []) else []) (ap₂ (λ a b. a && b) (ap is_running lost.ran) (ap (is_home g) lost.home ∙ same_number g)) (same_number e)

      joined : e < editors_of before
      joined = go (nat_le (editors_of before) e) refl
        where
          go : (b : Bool) → nat_le (editors_of before) e ≡ b → e < editors_of before
          go false below = let h = leb-false (editors_of before) e below in omega (arith, h)
          go true high = never (sym (ap is_running lost.ran) ∙ ap is_running ((facts.steady).editors e (leb-true (editors_of before) e high)))

      group_marks : (events : List Event) → sent_outs s k e (outs (each (lose_start settings before s) (running_in settings g before)) events) ≡ the_end
      group_marks events = each_marks (running_in settings g before) events ∙ (flat_kept of_one P (range_with_len 0 (editors_of before)) ∙ (only_one in_all e others_none 0 (editors_of before) (omega arith) (let high = joined in omega (arith, high)) ∙ here))

      -- X3: an editor that ran doesn't wait
      waits_not : (xs : List Out) → is_waiting (desk_of e (behind now xs)).phase ≡ true → ⊥
      waits_not xs waits = never (sym (outs_tested is_waiting waiting_told waiting_closed e now xs waits) ∙ (ap (λ (d : Desk). is_waiting d.phase) (exit.desk e) ∙ ap is_waiting lost.ran))

      turned_off : (g : ℕ) (es : List ℕ) (xs : List Out) → AllHeld settings (behind now xs) → Off (behind now xs) (each (turn_out settings g) es)
      turned_off g [] xs held = by_nothing
      turned_off g (n ∷ es) xs held = by_then (turned_by settings (λ places out. Markless out) (λ places i text id y says. plain_out i text (ap (names_mark s k) says)) g n (behind now xs) held (λ places. refl) (by_look (by_choose (λ waits. by_send (by (nat_eq n e) refl waits _)) (λ late. by_nothing))))
          (subst (λ z. Off z (each (turn_out settings g) es)) (behind_both now xs (outs (turn_out settings g n) (behind now xs))) (turned_off g es (xs ++ outs (turn_out settings g n) (behind now xs))
          (subst (AllHeld settings) (sym (behind_both now xs (outs (turn_out settings g n) (behind now xs)))) (held_turned settings g n (behind now xs) held))))
        where
          by : (b : Bool) → nat_eq n e ≡ b → is_waiting (desk_of n (behind now xs)).phase ≡ true → (body : List ℕ) → Markless (ToEditor n body)
          by true same waits body = absurd (waits_not xs (subst (λ z. is_waiting (desk_of z (behind now xs)).phase ≡ true) (number_same n e same) waits))
          by false off waits body = other_out n body off

      abbrev errors : List Out
      errors = outs (each (lose_sent settings before s) (members_in settings g before)) now

      abbrev told : List Event
      told = behind now errors

      abbrev losing : Row
      losing = choose (is_ready (life_of s before).stage) (each (lose_start settings before s) (running_in settings g before)) nothing

      abbrev losses : List Out
      losses = outs losing told

      losing_marks : sent_outs s k e losses ≡ the_end
      losing_marks = ap (λ b. sent_outs s k e (outs (choose b (each (lose_start settings before s) (running_in settings g before)) nothing) told)) (ap is_ready lost.ready) ∙ group_marks told

      abbrev ending : Kept → Row
      ending z = choose (starts_again settings before g z) (spawn g) (each (turn_out settings g) (members_in settings g before))

      ends_off : (z : Kept) → AllHeld settings (behind now (errors ++ losses)) → Off (behind told losses) (ending z)
      ends_off z held = by_choose (λ again. by_look (by_send refl)) (λ last. subst (λ w. Off w (each (turn_out settings g) (members_in settings g before))) (behind_both now errors losses) (turned_off g (members_in settings g before) (errors ++ losses) held))

      known : AllByRecursion (IsForwarded before) fs
      known = asked_while settings before (facts.steady).asked facts.quit e (ap is_there lost.ran) s

      live_marks : (z : Kept) → AllHeld settings (behind now (errors ++ losses)) → sent_outs s k e (outs (each (lose_sent settings before s) (members_in settings g before) ⨾ (losing ⨾ ending z)) now) ≡ the_end
      live_marks z held = sent_join errors (losses ++ outs (ending z) (behind told losses))
          ∙ (ap (λ w. w ++ sent_outs s k e (losses ++ outs (ending z) (behind told losses))) (off_marks now (each (lose_sent settings before s) (members_in settings g before)) (sent_off known (members_in settings g before) now))
          ∙ (sent_join losses (outs (ending z) (behind told losses))
          ∙ ap₂ (λ u v. u ++ v) losing_marks (off_marks (behind told losses) (ending z) (ends_off z held))))

      living : lives_at g (groups_of settings before) ≡ true
      living = lives_of settings before settled.lively e g (ap is_answered lost.ran) lost.home

      kept_marks : (o : Option Kept) → slice_get (groups_of settings before) g ≡ o → sent_outs s k e (outs (on o nothing (exit_in settings before s g)) now) ≡ the_end
      kept_marks None none = never (sym (sym (ap lives_kept none) ∙ living))
      kept_marks (Some z) found = ap (λ b. sent_outs s k e (outs (choose b (each (lose_sent settings before s) (members_in settings g before) ⨾ (losing ⨾ ending z)) nothing) now)) (sym (ap lives_kept found) ∙ living)
          ∙ live_marks z (held_lost settings before cause range facts s exit (errors ++ losses) (outs (ending z) (behind told losses)) whole)
        where
          whole : outs_of settings before cause ≡ (errors ++ losses) ++ outs (ending z) (behind told losses)
          whole = exit.row ∙ (ap (λ o. outs (on o nothing (λ h. on (slice_get (groups_of settings before) h) nothing (exit_in settings before s h))) now) lost.kept
              ∙ (ap (λ o. outs (on o nothing (exit_in settings before s g)) now) found
              ∙ (ap (λ b. outs (choose b (each (lose_sent settings before s) (members_in settings g before) ⨾ (losing ⨾ ending z)) nothing) now) (sym (ap lives_kept found) ∙ living)
              ∙ sym (append_assoc errors losses (outs (ending z) (behind told losses))))))

      cut_marks : sent_outs s k e (outs_of settings before cause) ≡ the_end
      cut_marks = ap (sent_outs s k e) exit.row ∙ (ap (λ o. sent_outs s k e (outs (on o nothing (λ h. on (slice_get (groups_of settings before) h) nothing (exit_in settings before s h))) now)) lost.kept ∙ kept_marks (slice_get (groups_of settings before) g) refl)

  pub cut_exactly : IsLost settings before cause e s → has_begun e k x ≡ true → sent_outs s k e (outs_of settings before cause) ≡ end_text (created_text s k) ∷ []
  cut_exactly lost begun = cut_marks begun lost
