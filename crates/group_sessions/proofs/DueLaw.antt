-- In every legal history each editor was sent of each token what it is due, where nobody is asked twice and numbers tell answers apart.
use Rattle.std.proofs.Common.{◌≡◌, ℕ, ◌^◌, ◌<◌, ◌≤◌, Bool, true, false, not, ◌&&◌, cond, List, [], ◌∷◌, ◌++◌, append-nil, append_assoc, codes, filter, find, flat_map, map, nat_eq, if◌then◌else◌, Option, Some, None, ◌⊎◌, inl, inr, refl, sym, ◌∙◌, ap, ap₂, subst, arith, ◌||◌}
use Rattle.std.specs.List.{AllByRecursion, list_any}
use Rattle.std.proofs.lemmas.Bool.{and_parts}
use Rattle.std.proofs.lemmas.List.{map-append}
use Rattle.json_text.specs.Json.{Json}
use Rattle.mux_history.specs.declared.cause.Cause.{Cause}
use Rattle.mux_history.specs.declared.cause.Cause.TheVariants.{Joined, FromEditor, EditorGone, Started, StartFailed, FromServer, ServerGone, Drained, Tick}
use Rattle.mux_history.specs.declared.out.Out.{Out}
use Rattle.mux_history.specs.declared.out.Out.TheVariants.{ToEditor, ToServer, Spawn, CloseEditor, EndServer}
use Rattle.lsp_method.specs.Class.{class_of}
use Rattle.lsp_method.specs.declared.variants.Class.{Class}
use Rattle.lsp_method.specs.declared.variants.Class.TheVariants.{Progress}
use Rattle.lsp_method.specs.declared.variants.Origin.TheVariants.{Server}
use Rattle.rpc_message.specs.Message.{Id, Message, request, notification, result, error, not_json, not_message, message_of}
use Rattle.event_model.specs.Event.{Event, behind, did, heard, requests, said, took, with_cause}
use Rattle.event_model.specs.Requests.{answered_id}
use Rattle.event_model.specs.Settings.{Settings}
use Rattle.event_model.specs.Spawns.{starts_behind, starts_of}
use Rattle.event_model.specs.Stages.{is_ready, life_of}
use Rattle.event_model.proofs.Frames.{never}
use Rattle.mux_model.specs.Fits.{fits_behind}
use Rattle.mux_facts.specs.Ranges.{InRange}
use Rattle.mux_facts.proofs.DocumentRow.{ready_is}
use Rattle.mux_facts.proofs.Folds.{starts_more}
use Rattle.mux_facts.proofs.Lists.{found_is}
use Rattle.mux_facts.proofs.Reasons.{Reasons, reasons_keep}
use Rattle.mux_facts.proofs.Starts.{Starts}
use Rattle.mux_facts.proofs.Words.{number_same, same_number}
use Rattle.group_rows.specs.Asks.{asks_of, is_seated}
use Rattle.group_rows.specs.Created.{Created, Taking, Token, accepts, created_of, created_text, has_accepted, is_answered, is_at, is_numbered, is_progress, named_token, names_progress, token_called}
use Rattle.group_rows.specs.Forwarded.{names}
use Rattle.group_rows.specs.Rows.{outs_of}
use Rattle.group_rows.specs.Tokens.{marked_text}
use Rattle.group_facts.specs.Settled.{HasTaken, RunsAt, Settled}
use Rattle.group_facts.specs.Why.{IsNotified, IsTaken, Why, IsLost}
use Rattle.group_facts.proofs.Facts.{Facts}
use Rattle.group_facts.proofs.Known.{Here, here_did, here_took}
use Rattle.group_facts.proofs.Table.{reasons}
use Rattle.group_sessions.proofs.TakingTies.{find_true}
use Rattle.group_sessions.proofs.Unreserved.{Unreserved}
use Rattle.group_sessions.specs.Due.{due, is_asks, progress_sent, word, words, Word, breaks, closing, is_cut, progress_due, rests, is_closing, is_open_yet}
use Rattle.group_sessions.proofs.DueEvents.{IsNewStart, Moves, Tie, gain, moved_did, moved_took, told_gain, editor_whole, left_whole, out_whole, server_whole}
use Rattle.group_sessions.proofs.DueExact.{handed_exactly, told_exactly}
use Rattle.group_sessions.proofs.DueFold.{head_passes, is_own, own, own_accepted}
use Rattle.group_sessions.proofs.DueSent.{Source, hears, nothing_or, sent_behind, sent_heard, sent_outs, takes, ends_there, one_of}
use Rattle.group_sessions.proofs.DueStates.{Seat, State, fresh, gained, goes, handed, over, rose, sits, waits, broke, cut_none}
use Rattle.group_facts.proofs.Reached.{Reached}
use Rattle.group_sessions.proofs.DueCut.{cut_exactly}
use Rattle.group_sessions.proofs.EndTexts.{begun_accepted}
use Rattle.group_rows.specs.ExitRows.{begun_at, has_begun}
use Rattle.group_facts.specs.Facts.{is_exit}
use Rattle.group_facts.proofs.ExitEntry.{Exit, failed_exit, gone_exit}

-- An editor is asked once to take a token, at each place of an entry
abbrev pub AskedOnce : Settings → ℕ → ℕ → ℕ → List Event → Out → Type 0
AskedOnce settings s k e events out = is_asks (word settings s k e events (said out)) ≡ true → list_any is_asks (words settings s k e events) ≡ false

-- What a response answers of a start's: an ask, or one token that the editor was asked to take
pub record IsClear (settings : Settings) (events : List Event) : Type 0 where
  pub one : (s k e : ℕ) (id : Option Id) (c : Taking) → own e k (created_of settings s events) ≡ c ∷ [] → is_answered e id c ≡ true → find (is_answered e id) (created_of settings s events).takings ≡ Some c
  pub apart : (s e : ℕ) (id : Option Id) (c : Taking) → find (is_answered e id) (created_of settings s events).takings ≡ Some c → find (is_seated e id) (asks_of settings s events) ≡ None

abbrev pub AllClear : Settings → Type 0
AllClear settings = (before : List Event) → Reached settings before → IsClear settings before

class_progress : (c : Class) → names_progress c ≡ true → c ≡ Progress
class_progress Progress h = refl
class_progress _ h = never (sym h)

no_shutdown : (m : Message) → accepts m ≡ true → requests (codes "shutdown") m ≡ false
no_shutdown (result id r) h = refl
no_shutdown (error id r) h = refl
no_shutdown (notification method params) h = refl
no_shutdown not_json h = refl
no_shutdown not_message h = refl
no_shutdown (request id method params) h = never (sym h)

pub found_kept : {A : Type 0} (Q : A → Type 0) (test P : A → Bool) (xs : List A) (c : A) → find test xs ≡ Some c → P c ≡ true → AllByRecursion Q (filter P xs) → Q c
found_kept Q test P [] c h at all = absurd (cc)
found_kept Q test P (x ∷ xs) c h at all = go (test x) (P x) refl (λ k g. found_kept Q test P xs c k at g) h all
  where
    go : (a b : Bool) → P x ≡ b → (find test xs ≡ Some c → AllByRecursion Q (filter P xs) → Q c) → cond a (Some x) (find test xs) ≡ Some c → AllByRecursion Q (cond b (x ∷ filter P xs) (filter P xs)) → Q c
    go true true p f k all = subst Q (let same : x ≡ c = cc in same) all.0
    go true false p f k all = never (sym at ∙ (ap P (let same : x ≡ c = cc in sym same) ∙ p))
    go false true p f k all = f k all.1
    go false false p f k all = f k all

pub fewer : (events more : List Event) (n : ℕ) → starts_of (events ++ more) ≤ n → starts_of events ≤ n
fewer events [] n h = subst (λ z. starts_of z ≤ n) (append-nil events) h
fewer events (event ∷ more) n h = let later : starts_of (events ++ event ∷ []) ≤ n = fewer (events ++ event ∷ []) more n (subst (λ z. starts_of z ≤ n) (sym (append_assoc events (event ∷ []) more)) h) in
    let m = starts_more events event in let g = spawns_more (starts_of events) event in omega (arith, later, m, g)
  where
    spawns_more : (j : ℕ) (ev : Event) → j ≤ starts_behind j ev
    spawns_more j (did (Spawn s g) w) = omega arith
    spawns_more j other = omega arith

or_none : (b : Bool) → (b || false) ≡ b
or_none true = refl
or_none false = refl

-- One entry

module _ (settings : Settings) (range : InRange settings) (before : List Event) (facts : Facts settings before) (settled : Settled settings before) (free : Unreserved settings before) (clear : IsClear settings before) (cause : Cause) (fits : fits_behind before cause ≡ true)
    (few : starts_of before ≤ 2 ^ 64) (s k e : ℕ) (low : s < 2 ^ 64) (small : k < 2 ^ 64) (tie : Tie settings s k e before) where
  abbrev x : Created
  x = created_of settings s before

  abbrev now : List Event
  now = with_cause before cause

  why : Reasons (Why settings before cause) now (outs_of settings before cause)
  why = (reasons settings range before facts cause).why

  abbrev From : Type 0
  From = Source settings before facts settled free few cause s k e low small

  -- one at most was asked of it
  own_few : State e k x (words settings s k e before) → (own e k x ≡ []) ⊎ ((c : Taking) × (own e k x ≡ c ∷ []))
  own_few (fresh none is) = inl is
  own_few (waits i) = inr (i.taking, i.only)
  own_few (goes i) = by i.seat
    where
      by : Seat e k x (due (words settings s k e before)) → (own e k x ≡ []) ⊎ ((c : Taking) × (own e k x ≡ c ∷ []))
      by (sits c is on begun open_yet) = inr (c, is)
      by (rose is off ended) = inl is
  own_few (over h is) = inl is

  own_is : (test : Taking → Bool) (c : Taking) → find test x.takings ≡ Some c → is_own e k c ≡ true → own e k x ≡ c ∷ []
  own_is test c found at = go (own_few tie.state)
    where
      go : (own e k x ≡ []) ⊎ ((d : Taking) × (own e k x ≡ d ∷ [])) → own e k x ≡ c ∷ []
      go (inl none) = absurd (found_kept (λ d. ⊥) test (is_own e k) x.takings c found at (subst (AllByRecursion (λ (d : Taking). ⊥)) (sym none) tt))
      go (inr d) = d.1 ∙ ap (λ z. z ∷ []) (found_kept (λ z. d.0 ≡ z) test (is_own e k) x.takings c found at (subst (AllByRecursion (λ (z : Taking). d.0 ≡ z)) (sym d.1) (refl, tt)))

  abbrev gains : List (List ℕ)
  gains = gain settings s k e before (heard cause)

  abbrev breaking : Bool
  breaking = broke e k (word settings s k e before (heard cause)) && has_begun e k x

  abbrev Sends : Type 0
  Sends = sent_outs s k e (outs_of settings before cause) ≡ map (marked_text (created_text s k)) gains ++ closing s k breaking

  -- by another cause no program ends
  goes_on : (c : Cause) → is_exit c s ≡ false → broke e k (word settings s k e before (heard c)) ≡ false
  goes_on (StartFailed n) off = ap (λ b. broke e k (if b then breaks else rests)) off
  goes_on (ServerGone n) off = ap (λ b. broke e k (if b then breaks else rests)) off
  goes_on (FromServer n body) off = server_whole settings s k e before n body (message_of body)
  goes_on (FromEditor n body) off = editor_whole settings s k e before (nat_eq n e) (requests (codes "shutdown") (message_of body)) (message_of body)
  goes_on (EditorGone n w) off = left_whole settings s k e before (nat_eq n e)
  goes_on (Joined n) off = refl
  goes_on (Started n) off = refl
  goes_on (Drained n j) off = refl
  goes_on (Tick j) off = refl

  plainly : (c : Cause) → cause ≡ c → is_exit c s ≡ false → sent_outs s k e (outs_of settings before cause) ≡ map (marked_text (created_text s k)) gains → Sends
  plainly c from off is = is ∙ (sym (append-nil (map (marked_text (created_text s k)) gains)) ∙ ap (λ b. map (marked_text (created_text s k)) gains ++ closing s k (b && has_begun e k x)) (sym (ap (λ d. broke e k (word settings s k e before (heard d))) from ∙ goes_on c off)))

  gain_heard : (asked : List ℕ) (given : Option Json) (t : Token) (notified : IsNotified before cause s asked given) → token_called (named_token given) x ≡ Some t → t.number ≡ k → has_accepted e k x ≡ true → gains ≡ asked ∷ []
  gain_heard asked given t n called number accepted = ap (λ c. gain settings s k e before (heard c)) n.from
      ∙ (ap (λ m. gain settings s k e before (took (FromServer s asked) m)) n.asks
      ∙ (ap (λ b. if b then told_gain settings s k e asked x (token_called (named_token given) x) else []) (ap₂ (λ a b. a && b) (same_number s) (ap₂ (λ a b. a && b) (ap names_progress n.class) (ap is_ready n.ready)))
      ∙ (ap (told_gain settings s k e asked x) called
      ∙ (ap (λ b. if b then gained e k asked (own e k x) else []) (ap (λ j. nat_eq j k) number ∙ same_number k)
      ∙ ap (λ b. if b then asked ∷ [] else []) (sym (own_accepted e k x) ∙ accepted)))))

  gain_taken : (c : Taking) (taken : IsTaken settings before cause e s c) → c.token ≡ k → gains ≡ c.held
  gain_taken c taken token = ap (λ d. gain settings s k e before (heard d)) taken.from
      ∙ (ap (λ b. if b then (if requests (codes "shutdown") m then [] else handed e k m (own e k x)) else []) (same_number e)
      ∙ (ap (λ b. if b then [] else handed e k m (own e k x)) (no_shutdown m taken.accepted)
      ∙ (ap (handed e k m) (own_is (is_answered e (answered_id m)) c taken.found mine)
      ∙ (ap (λ b. if accepts m then (if b then c.held else []) ++ [] else []) answered
      ∙ (ap (λ b. if b then c.held ++ [] else []) taken.accepted ∙ append-nil c.held)))))
    where
      m : Message
      m = message_of taken.answer

      answered : is_answered e (answered_id m) c ≡ true
      answered = find_true (is_answered e (answered_id m)) x.takings c taken.found

      mine : is_own e k c ≡ true
      mine = ap₂ (λ a b. a && b) (and_parts (nat_eq c.editor e) (names (answered_id m) c.number) (and_parts (not c.accepted) (nat_eq c.editor e && names (answered_id m) c.number) answered).1).0 (ap (λ j. nat_eq j k) token ∙ same_number k)

  by_source : From → Sends
  by_source (hears asked given t notified called number accepted) = plainly (FromServer s asked) notified.from refl (go cause refl notified)
    where
      go : (c : Cause) → c ≡ cause → IsNotified before c s asked given → sent_outs s k e (outs_of settings before cause) ≡ map (marked_text (created_text s k)) gains
      go c is n = subst (λ z. sent_outs s k e (outs_of settings before z) ≡ map (marked_text (created_text s k)) gains) (sym n.from ∙ is)
          (ap (λ j. sent_outs s j e (outs_of settings before (FromServer s asked))) (sym number)
          ∙ (told_exactly settings before facts settled few s k e asked given t (record { method = n.method; from = refl; ready = n.ready; asks = n.asks; class = n.class }) called number accepted
          ∙ (ap (λ j. marked_text (created_text s j) asked ∷ []) number ∙ sym (ap (map (marked_text (created_text s k))) (gain_heard asked given t notified called number accepted)))))
  by_source (takes c taken token) = plainly (FromEditor e taken.answer) taken.from refl (go cause refl taken)
    where
      go : (d : Cause) → d ≡ cause → IsTaken settings before d e s c → sent_outs s k e (outs_of settings before cause) ≡ map (marked_text (created_text s k)) gains
      go d is n = subst (λ z. sent_outs s k e (outs_of settings before z) ≡ map (marked_text (created_text s k)) gains) (sym n.from ∙ is)
          (ap (λ j. sent_outs s j e (outs_of settings before (FromEditor e n.answer))) (sym token)
          ∙ (handed_exactly settings before facts settled few s k e n.answer c (record { answer = n.answer; from = refl; ran = n.ran; ready = n.ready; found = n.found; accepted = n.accepted }) token
          (clear.apart s e (answered_id (message_of n.answer)) c n.found) n.found n.accepted (subst (λ z. Reasons (Why settings before z) (with_cause before z) (outs_of settings before z)) (sym is ∙ n.from) why)
          ∙ (ap (λ j. map (marked_text (created_text s j)) c.held) token ∙ sym (ap (map (marked_text (created_text s k))) (gain_taken c taken token)))))
  by_source (ends_there lost begun) = by_cause cause refl lost.from
    where
      cut : (c : Cause) → cause ≡ c → Exit settings before c s → gain settings s k e before (heard c) ≡ [] → (broke e k (word settings s k e before (heard c)) && has_begun e k x) ≡ true → Sends
      cut c is exit none breaks_now = subst (λ d. sent_outs s k e (outs_of settings before d) ≡ map (marked_text (created_text s k)) (gain settings s k e before (heard d)) ++ closing s k (broke e k (word settings s k e before (heard d)) && has_begun e k x)) (sym is)
          (cut_exactly settings range before facts settled few c s k e exit low small (subst (λ d. IsLost settings before d e s) is lost) begun ∙ sym (ap₂ (λ u b. map (marked_text (created_text s k)) u ++ closing s k b) none breaks_now))

      by_cause : (c : Cause) → cause ≡ c → is_exit cause s ≡ true → Sends
      by_cause (StartFailed n) is h = let at : n ≡ s = number_same n s (sym (ap (λ c. is_exit c s) is) ∙ h) in
          cut (StartFailed s) (is ∙ ap (λ j. StartFailed j) at) (failed_exit settings before s) refl (ap₂ (λ a b. a && b) (ap (λ b. broke e k (if b then breaks else rests)) (same_number s)) begun)
      by_cause (ServerGone n) is h = let at : n ≡ s = number_same n s (sym (ap (λ c. is_exit c s) is) ∙ h) in
          cut (ServerGone s) (is ∙ ap (λ j. ServerGone j) at) (gone_exit settings before s) refl (ap₂ (λ a b. a && b) (ap (λ b. broke e k (if b then breaks else rests)) (same_number s)) begun)
      by_cause (Joined n) is h = never (sym (sym (ap (λ c. is_exit c s) is) ∙ h))
      by_cause (FromEditor n body) is h = never (sym (sym (ap (λ c. is_exit c s) is) ∙ h))
      by_cause (EditorGone n w) is h = never (sym (sym (ap (λ c. is_exit c s) is) ∙ h))
      by_cause (Started n) is h = never (sym (sym (ap (λ c. is_exit c s) is) ∙ h))
      by_cause (FromServer n body) is h = never (sym (sym (ap (λ c. is_exit c s) is) ∙ h))
      by_cause (Drained n j) is h = never (sym (sym (ap (λ c. is_exit c s) is) ∙ h))
      by_cause (Tick j) is h = never (sym (sym (ap (λ c. is_exit c s) is) ∙ h))

  -- what is due has such a source
  heard_gain : (n : ℕ) (body : List ℕ) → FromServer n body ≡ cause → (m : Message) → message_of body ≡ m → (gain settings s k e before (took (FromServer n body) m) ≡ []) ⊎ From
  heard_gain n body is (notification method params) says = go (nat_eq n s && (is_progress method && is_ready (life_of s before).stage)) refl
    where
      notified : (nat_eq n s && (is_progress method && is_ready (life_of s before).stage)) ≡ true → IsNotified before cause s body params
      notified on =
          let p = and_parts (nat_eq n s) (is_progress method && is_ready (life_of s before).stage) on in
          let q = and_parts (is_progress method) (is_ready (life_of s before).stage) p.1 in
          record { method = method; from = sym is ∙ ap (λ z. FromServer z body) (number_same n s p.0); ready = ready_is (life_of s before).stage q.1; asks = says; class = class_progress (class_of method Server true) q.0 }

      by_token : (on : (nat_eq n s && (is_progress method && is_ready (life_of s before).stage)) ≡ true) (o : Option Token) → token_called (named_token params) x ≡ o → (told_gain settings s k e body x o ≡ []) ⊎ From
      by_token on None called = inl refl
      by_token on (Some t) called = by_number (is_numbered k t) refl (list_any (λ (c : Taking). c.accepted) (own e k x)) refl
        where
          by_number : (b : Bool) → is_numbered k t ≡ b → (a : Bool) → list_any (λ (c : Taking). c.accepted) (own e k x) ≡ a → ((if b then (if a then body ∷ [] else []) else []) ≡ []) ⊎ From
          by_number true at true accepted = inr (hears body params t (notified on) called (number_same t.number k at) (own_accepted e k x ∙ accepted))
          by_number true at false none = inl refl
          by_number false off a h = inl refl

      go : (b : Bool) → (nat_eq n s && (is_progress method && is_ready (life_of s before).stage)) ≡ b → ((if b then told_gain settings s k e body x (token_called (named_token params) x) else []) ≡ []) ⊎ From
      go true on = by_token on (token_called (named_token params) x) refl
      go false off = inl refl
  heard_gain n body is (request id method params) says = inl refl
  heard_gain n body is (result id r) says = inl refl
  heard_gain n body is (error id r) says = inl refl
  heard_gain n body is not_json says = inl refl
  heard_gain n body is not_message says = inl refl

  spoken_gain : (n : ℕ) (body : List ℕ) → FromEditor n body ≡ cause → (gain settings s k e before (heard (FromEditor n body)) ≡ []) ⊎ From
  spoken_gain n body is = go (nat_eq n e) refl (requests (codes "shutdown") m) (accepts m) refl (own_few tie.state)
    where
      m : Message
      m = message_of body

      taken : (c : Taking) → own e k x ≡ c ∷ [] → n ≡ e → accepts m ≡ true → is_answered e (answered_id m) c ≡ true → From
      taken c only same ok at = takes c (record { answer = body; from = sym is ∙ ap (λ z. FromEditor z body) same; ran = seat.running; ready = seat.ready; found = found; accepted = ok })
          (number_same c.token k (and_parts (is_at e c) (nat_eq c.token k) (head_passes (is_own e k) x.takings c [] only)).1)
        where
          found : find (is_answered e (answered_id m)) x.takings ≡ Some c
          found = clear.one s k e (answered_id m) c only at

          seat : RunsAt settings before s e
          seat = subst (RunsAt settings before s) (number_same c.editor e (and_parts (is_at e c) (nat_eq c.token k) (head_passes (is_own e k) x.takings c [] only)).0)
              (found_is (HasTaken settings before s) (is_answered e (answered_id m)) c x.takings (settled.takings few s) found)

      by_own : n ≡ e → accepts m ≡ true → (own e k x ≡ []) ⊎ ((c : Taking) × (own e k x ≡ c ∷ [])) → (flat_map (λ (c : Taking). if is_answered e (answered_id m) c then c.held else []) (own e k x) ≡ []) ⊎ From
      by_own same ok (inl none) = inl (ap (flat_map (λ (c : Taking). if is_answered e (answered_id m) c then c.held else [])) none)
      by_own same ok (inr c) = by_answer (is_answered e (answered_id m) c.0) refl
        where
          by_answer : (b : Bool) → is_answered e (answered_id m) c.0 ≡ b → (flat_map (λ (d : Taking). if is_answered e (answered_id m) d then d.held else []) (own e k x) ≡ []) ⊎ From
          by_answer true at = inr (taken c.0 c.1 same ok at)
          by_answer false off = inl (ap (flat_map (λ (d : Taking). if is_answered e (answered_id m) d then d.held else [])) c.1 ∙ ap (λ b. (if b then (c.0).held else []) ++ []) off)

      go : (b : Bool) → nat_eq n e ≡ b → (d : Bool) → (a : Bool) → accepts m ≡ a → (own e k x ≡ []) ⊎ ((c : Taking) × (own e k x ≡ c ∷ []))
          → ((if b then (if d then [] else (if a then flat_map (λ (c : Taking). if is_answered e (answered_id m) c then c.held else []) (own e k x) else [])) else []) ≡ []) ⊎ From
      go true at true a ok own_so = inl refl
      go true at false true ok own_so = by_own (number_same n e at) ok own_so
      go true at false false ok own_so = inl refl
      go false off d a ok own_so = inl refl

  any_gain : (c : Cause) → c ≡ cause → (gain settings s k e before (heard c) ≡ []) ⊎ From
  any_gain (FromServer n body) is = heard_gain n body is (message_of body) refl
  any_gain (FromEditor n body) is = spoken_gain n body is
  any_gain (Joined n) is = inl refl
  any_gain (EditorGone n w) is = inl refl
  any_gain (Started n) is = inl refl
  any_gain (StartFailed n) is = inl refl
  any_gain (ServerGone n) is = inl refl
  any_gain (Drained n j) is = inl refl
  any_gain (Tick t) is = inl refl

  -- so has the end of a token that had begun
  any_break : (c : Cause) → c ≡ cause → (b : Bool) → is_exit c s ≡ b → ((broke e k (word settings s k e before (heard c)) && has_begun e k x) ≡ false) ⊎ From
  any_break c is false off = inl (ap (λ b. b && has_begun e k x) (goes_on c off))
  any_break c is true exit = by (broke e k (word settings s k e before (heard c)) && has_begun e k x) refl
    where
      by : (b : Bool) → (broke e k (word settings s k e before (heard c)) && has_begun e k x) ≡ b → (b ≡ false) ⊎ From
      by false whole = inl refl
      by true now_broken = inr (ends_there (record { from = ap (λ d. is_exit d s) (sym is) ∙ exit; ready = seat.ready; ran = seat.running; group = seat.group; kept = seat.kept; home = seat.home ∙ seat.kept }) begun)
        where
          begun : has_begun e k x ≡ true
          begun = (and_parts (broke e k (word settings s k e before (heard c))) (has_begun e k x) now_broken).1

          seat : RunsAt settings before s e
          seat = one_of (HasTaken settings before s) (RunsAt settings before s e) (begun_at e k) (λ d at runs. subst (RunsAt settings before s) (number_same d.editor e (and_parts (is_at e d) (nat_eq d.token k) (and_parts d.accepted (is_at e d && nat_eq d.token k) (and_parts d.begun (d.accepted && (is_at e d && nat_eq d.token k)) at).1).1).0) runs) x.takings (settled.takings few s) begun

  sends : Sends
  sends = go (any_gain cause refl) (any_break cause refl (is_exit cause s) refl) (nothing_or settings before facts settled free few cause s k e low small now (outs_of settings before cause) why)
    where
      go : (gains ≡ []) ⊎ From → (breaking ≡ false) ⊎ From → (sent_outs s k e (outs_of settings before cause) ≡ []) ⊎ From → Sends
      go (inr from) stays sent = by_source from
      go (inl none) (inr from) sent = by_source from
      go (inl none) (inl stays) (inr from) = by_source from
      go (inl none) (inl stays) (inl nothing) = nothing ∙ sym (ap₂ (λ u b. map (marked_text (created_text s k)) u ++ closing s k b) none stays)

  -- of what it takes no more nothing comes
  no_source : own e k x ≡ [] → From → ⊥
  no_source none (hears asked given t notified called number accepted) = never (sym accepted ∙ (own_accepted e k x ∙ ap (list_any (λ (c : Taking). c.accepted)) none))
  no_source none (takes c taken token) = no_one (sym none ∙ own_is (is_answered e (answered_id (message_of taken.answer))) c taken.found mine)
    where
      no_one : [] ≡ c ∷ [] → ⊥
      no_one h = cc

      mine : is_own e k c ≡ true
      mine = ap₂ (λ a b. a && b) (and_parts (nat_eq c.editor e) (names (answered_id (message_of taken.answer)) c.number) (and_parts (not c.accepted) (nat_eq c.editor e && names (answered_id (message_of taken.answer)) c.number) (find_true (is_answered e (answered_id (message_of taken.answer))) x.takings c taken.found)).1).0 (ap (λ j. nat_eq j k) token ∙ same_number k)
  no_source none (ends_there lost begun) = never (sym (begun_accepted e k x begun) ∙ (own_accepted e k x ∙ ap (list_any (λ (c : Taking). c.accepted)) none))

  none_gained : own e k x ≡ [] → gains ≡ []
  none_gained none = go (any_gain cause refl)
    where
      go : (gains ≡ []) ⊎ From → gains ≡ []
      go (inl is) = is
      go (inr from) = absurd (no_source none from)

  none_broken : own e k x ≡ [] → breaking ≡ false
  none_broken none = go (any_break cause refl (is_exit cause s) refl)
    where
      go : (breaking ≡ false) ⊎ From → breaking ≡ false
      go (inl is) = is
      go (inr from) = absurd (no_source none from)

  -- the outs leave what is due
  record At (events : List Event) : Type 0 where
    here : Here settings before cause events
    tied : Tie settings s k e events
    same : due (words settings s k e events) ≡ due (words settings s k e now)
    cut : is_closing (words settings s k e events) ≡ is_closing (words settings s k e now)

  abbrev Both : List Event → Out → Type 0
  Both events out = Why settings before cause events out × AskedOnce settings s k e events out

  both : (events : List Event) (xs : List Out) → Reasons (Why settings before cause) events xs → Reasons (AskedOnce settings s k e) events xs → Reasons Both events xs
  both events [] r h = tt
  both events (out ∷ xs) r h = ((r.0, h.0), both (events ++ said out ∷ []) xs r.1 h.1)

  step : (events : List Event) (out : Out) → Both events out → At events → At (events ++ said out ∷ [])
  step events out b i = record {
    here = here_did settings range before cause facts events out b.0 i.here;
    tied = moves.tie;
    same = moves.grows ∙ (ap (λ z. due (words settings s k e events) ++ z) (none out) ∙ (append-nil (due (words settings s k e events)) ∙ i.same));
    cut = moves.cut ∙ (ap (λ b. is_closing (words settings s k e events) || (b && has_begun e k (created_of settings s events))) (said_whole out) ∙ (or_none (is_closing (words settings s k e events)) ∙ i.cut));
  }
    where
      starts : Starts events
      starts = (((i.here).mid).steady).starts

      new : (o : Out) → Why settings before cause events o → IsNewStart settings s k e events i.tied starts o
      new (Spawn n g) w = w.0
      new (ToEditor n body) w = tt
      new (ToServer n body) w = tt
      new (CloseEditor n) w = tt
      new (EndServer n) w = tt

      moves : Moves settings s k e events (said out)
      moves = moved_did settings s k e events i.tied starts out (new out b.0) b.1

      said_whole : (o : Out) → broke e k (word settings s k e events (said o)) ≡ false
      said_whole (ToEditor n body) = out_whole settings s k e events (ToEditor n body) (message_of body)
      said_whole (ToServer n body) = refl
      said_whole (Spawn n g) = refl
      said_whole (CloseEditor n) = left_whole settings s k e events (nat_eq n e)
      said_whole (EndServer n) = refl

      none : (o : Out) → gain settings s k e events (said o) ≡ []
      none (ToEditor n body) = refl
      none (ToServer n body) = refl
      none (Spawn n g) = refl
      none (CloseEditor n) = refl
      none (EndServer n) = refl

  abbrev later : List Event
  later = behind now (outs_of settings before cause)

  moved : Moves settings s k e before (heard cause)
  moved = moved_took settings s k e before tie cause

  last : Reasons (AskedOnce settings s k e) now (outs_of settings before cause) → At later
  last once = reasons_keep Both At step now (outs_of settings before cause) (both now (outs_of settings before cause) why once)
      (record { here = here_took settings range before cause fits facts; tied = moved.tie; same = refl; cut = refl })

  pub entry_tied : Reasons (AskedOnce settings s k e) now (outs_of settings before cause) → Tie settings s k e later
  entry_tied once = (last once).tied

  abbrev marked_due : List Word → List (List ℕ)
  marked_due ws = map (marked_text (created_text s k)) (due ws)

  joins : (a b : List (List ℕ)) (cut breaks_now : Bool) → (cut ≡ true → b ≡ []) → (cut ≡ true → breaks_now ≡ false) → (a ++ closing s k cut) ++ (b ++ closing s k breaks_now) ≡ (a ++ b) ++ closing s k (cut || breaks_now)
  joins a b true breaks_now none whole = ap₂ (λ u d. (a ++ closing s k true) ++ (u ++ closing s k d)) (none refl) (whole refl) ∙ (append-nil (a ++ closing s k true) ∙ ap (λ u. u ++ closing s k true) (sym (append-nil a) ∙ ap (λ u. a ++ u) (sym (none refl))))
  joins a b false breaks_now none whole = ap (λ u. u ++ (b ++ closing s k breaks_now)) (append-nil a) ∙ sym (append_assoc a b (closing s k breaks_now))

  pub entry_due : Reasons (AskedOnce settings s k e) now (outs_of settings before cause) → progress_sent s k e before ≡ progress_due settings s k e before → progress_sent s k e later ≡ progress_due settings s k e later
  entry_due once h = sent_behind s k e now (outs_of settings before cause)
      ∙ (ap₂ (λ u v. u ++ v) (sent_heard s k e before cause ∙ h) sends
      ∙ (joins (marked_due ws) (map (marked_text (created_text s k)) gains) (is_closing ws) breaking (λ cut. ap (map (marked_text (created_text s k))) (none_gained (taken_no_more cut))) (λ cut. none_broken (taken_no_more cut))
      ∙ ap₂ (λ u b. u ++ closing s k b) (sym (map-append (marked_text (created_text s k)) (due ws) gains) ∙ ap (map (marked_text (created_text s k))) (sym ((last once).same ∙ moved.grows))) (sym ((last once).cut ∙ moved.cut))))
    where
      ws : List Word
      ws = words settings s k e before

      taken_no_more : is_closing ws ≡ true → own e k x ≡ []
      taken_no_more cut = cut_none e k x ws (and_parts (is_cut ws) (is_open_yet (due ws)) cut).0 tie.state
