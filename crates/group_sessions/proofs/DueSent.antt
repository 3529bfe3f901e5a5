-- What an entry sends an editor of a token: what is due by its cause.
use Rattle.std.proofs.Common.{◌≡◌, ℕ, zero, suc, ◌+◌, ◌^◌, ◌<◌, ◌≤◌, Bool, true, false, ◌&&◌, ◌||◌, cond, List, [], ◌∷◌, ◌++◌, append-nil, bytes_eq, codes, filter, find, flat_map, map, nat_eq, if◌then◌else◌, Option, Some, None, is_some, ◌⊎◌, inl, inr, refl, sym, ◌∙◌, ap, ap₂, subst, arith}
use Rattle.std.specs.List.{AllByRecursion, list_any, range_with_len}
use Rattle.std.specs.Option.{option_and_then, option_map_or}
use Rattle.std.proofs.lemmas.Bool.{and_parts}
use Rattle.std.proofs.lemmas.Slice.Eq.{bytes_eq-Decides}
use Rattle.json_text.specs.Json.{Json, word as json_word, number as json_number, string, array, object}
use Rattle.mux_history.specs.declared.cause.Cause.{Cause}
use Rattle.mux_history.specs.declared.cause.Cause.TheVariants.{Joined, FromEditor, EditorGone, Started, StartFailed, FromServer, ServerGone, Drained, Tick}
use Rattle.mux_history.specs.declared.out.Out.{Out}
use Rattle.mux_history.specs.declared.out.Out.TheVariants.{ToEditor, ToServer, Spawn, CloseEditor, EndServer}
use Rattle.lsp_method.specs.Class.{server_notification}
use Rattle.lsp_method.specs.declared.variants.Class.TheVariants.{Broadcast, Cancel, Diagnostics, Progress}
use Rattle.rpc_message.specs.Message.{Id, Message, request, notification, result, error, not_json, not_message, id_of, integer, integer_if, is_integer, message_of, text}
use Rattle.event_model.specs.Event.{Event, behind, heard, same_id, said, with_cause}
use Rattle.event_model.specs.Members.{named_of, string_of}
use Rattle.event_model.specs.Requests.{answered_id}
use Rattle.event_model.specs.Settings.{Settings}
use Rattle.event_model.specs.Spawns.{starts_of}
use Rattle.event_model.proofs.Frames.{never}
use Rattle.mux_facts.specs.Allowed.{is_response}
use Rattle.mux_facts.proofs.Lists.{found_is}
use Rattle.mux_facts.proofs.Reasons.{Reasons}
use Rattle.mux_facts.proofs.Words.{id_same, number_same, same_number}
use Rattle.group_rows.specs.Created.{Created, Taking, Token, created_mark, created_of, created_text, has_accepted, is_answered, is_called, is_progress, named_token, names_progress, no_created, token_called}
use Rattle.group_rows.specs.Forwarded.{forwarding_of}
use Rattle.group_rows.specs.Tokens.{is_told, marked_text}
use Rattle.group_facts.specs.Settled.{Settled}
use Rattle.group_facts.specs.Why.{IsNotified, IsTaken, Telling, Why, WhyToEditor, answers, asks, calls, of_held, of_request, of_token, passes, progresses, recalls, refuses, rejects, resumes, shows, spreads, turns_away, welcomes, loses, IsLost, Losing, ends, frees, empties, winds_up, pays}
use Rattle.group_facts.proofs.Facts.{Facts}
use Rattle.group_facts.proofs.Marks.{mark_number, mark_start}
use Rattle.group_sessions.proofs.Accepted.{NamesToken}
use Rattle.group_sessions.proofs.Client6Law.{created_id, list_no_progress, not_progress, own_is}
use Rattle.group_sessions.proofs.CreatedFold.{IsLive, created_orderly, is_free}
use Rattle.group_sessions.proofs.HeldFold.{Fair, IsFair, NameTokens, called_some, created_fair}
use Rattle.group_sessions.proofs.Marked.{Marked, marked}
use Rattle.group_sessions.proofs.Taken.{all_at}
use Rattle.group_sessions.proofs.Unreserved.{IsFreeText, IsUnreserved, Unreserved}
use Rattle.group_sessions.specs.Due.{names_mark, progress_sent, sent_by}
use Rattle.group_sessions.proofs.DueEvents.{num_off}
use Rattle.group_sessions.proofs.DueWords.{flat_join}
use Rattle.group_rows.proofs.Cancels.{cancel_says}
use Rattle.group_rows.proofs.ExitTexts.{empty_says, end_says}
use Rattle.group_rows.specs.ExitRows.{has_begun}
use Rattle.group_sessions.proofs.EndTexts.{end_marks}

some_same : {A : Type 0} (a b : A) → ◌≡◌ {A = Option A} (Some a) (Some b) → a ≡ b
some_same a b e = cc

-- What outs send

abbrev pub sent_outs : ℕ → ℕ → ℕ → List Out → List (List ℕ)
sent_outs s k e xs = flat_map (λ (out : Out). sent_by s k e (said out)) xs

pub sent_behind : (s k e : ℕ) (events : List Event) (xs : List Out) → progress_sent s k e (behind events xs) ≡ progress_sent s k e events ++ sent_outs s k e xs
sent_behind s k e events xs = flat_join (sent_by s k e) events (map said xs) ∙ ap (λ z. progress_sent s k e events ++ z) (mapped xs)
  where
    mapped : (ys : List Out) → flat_map (sent_by s k e) (map said ys) ≡ sent_outs s k e ys
    mapped [] = refl
    mapped (y ∷ ys) = ap (λ z. sent_by s k e (said y) ++ z) (mapped ys)

pub sent_heard : (s k e : ℕ) (events : List Event) (cause : Cause) → progress_sent s k e (with_cause events cause) ≡ progress_sent s k e events
sent_heard s k e events cause = flat_join (sent_by s k e) events (heard cause ∷ []) ∙ (ap (λ z. progress_sent s k e events ++ (z ++ [])) (none cause) ∙ append-nil (progress_sent s k e events))
  where
    none : (c : Cause) → sent_by s k e (heard c) ≡ []
    none (Joined n) = refl
    none (FromEditor n body) = refl
    none (EditorGone n why) = refl
    none (Started n) = refl
    none (StartFailed n) = refl
    none (FromServer n body) = refl
    none (ServerGone n) = refl
    none (Drained n j) = refl
    none (Tick t) = refl

-- Names

names_token : (o : Option Json) (id : Id) (cs : List ℕ) → option_and_then id_of o ≡ Some id → option_map_or (bytes_eq cs) (string_of o) false ≡ same_id (text cs) id
names_token (Some (string sp xs)) id cs h = ap (same_id (text cs)) (some_same (text xs) id h)
names_token (Some (json_number sp ds)) id cs h = go (is_integer ds) h
  where
    go : (b : Bool) → integer_if b ds ≡ Some id → false ≡ same_id (text cs) id
    go true h = ap (same_id (text cs)) (some_same (integer ds) id h)
    go false h = absurd (cc)
names_token (Some (json_word sp w)) id cs h = absurd (cc)
names_token (Some (array sp js)) id cs h = absurd (cc)
names_token (Some (object sp ms)) id cs h = absurd (cc)
names_token None id cs h = absurd (cc)

-- whether a body with another token in it is of this one
pub tells_as : (s k : ℕ) (id : Id) (bytes body method : List ℕ) → Marked id bytes body method → names_mark s k (message_of (marked_text bytes body)) ≡ (bytes_eq method (codes "$/progress") && same_id (text (created_mark s k)) id)
tells_as s k id bytes body method m = ap (names_mark s k) m.says ∙ ap (λ b. bytes_eq method (codes "$/progress") && b) (names_token (named_of (codes "token") m.params) id (created_mark s k) m.names)

pub progress_named : (method : List ℕ) → is_progress method ≡ true → bytes_eq method (codes "$/progress") ≡ true
unfolding server_notification
progress_named method h = go (bytes_eq method (codes "$/progress")) (bytes_eq method (codes "$/cancelRequest")) (bytes_eq method (codes "textDocument/publishDiagnostics")) h
  where
    go : (a b c : Bool) → names_progress (if a then Progress else if b then Cancel else if c then Diagnostics else Broadcast) ≡ true → a ≡ true
    go true b c k = refl
    go false true c k = never (sym k)
    go false false true k = never (sym k)
    go false false false k = never (sym k)

mark_same : (s k t j : ℕ) → same_id (text (created_mark s k)) (text (created_mark t j)) ≡ true → created_mark s k ≡ created_mark t j
mark_same s k t j h = (bytes_eq-Decides (created_mark s k) (created_mark t j)).0 h

-- an editor's own token is no mark
free_off : (s k : ℕ) (id : Id) → is_free id ≡ true → same_id (text (created_mark s k)) id ≡ true → ⊥
free_off s k id free h = let is : text (created_mark s k) ≡ id = id_same (text (created_mark s k)) id h in let clash : false ≡ true = ap is_free is ∙ free in cc

silent : (s k : ℕ) (m : Message) → is_response m ≡ true → names_mark s k m ≡ false
silent s k (result id r) h = refl
silent s k (error id x) h = refl
silent s k (request id method params) h = refl
silent s k (notification method params) h = never (sym h)
silent s k not_json h = refl
silent s k not_message h = refl

-- Lists

pub flat_map_map : {A B C : Type 0} (f : B → List C) (g : A → B) (xs : List A) → flat_map f (map g xs) ≡ flat_map (λ a. f (g a)) xs
flat_map_map f g [] = refl
flat_map_map f g (x ∷ xs) = ap (λ z. f (g x) ++ z) (flat_map_map f g xs)

pub flat_kept : {A B : Type 0} (f : A → List B) (test : A → Bool) (xs : List A) → flat_map f (filter test xs) ≡ flat_map (λ a. if test a then f a else []) xs
flat_kept f test [] = refl
flat_kept f test (x ∷ xs) = go (test x) (flat_kept f test xs)
  where
    go : (b : Bool) → flat_map f (filter test xs) ≡ flat_map (λ a. if test a then f a else []) xs → flat_map f (cond b (x ∷ filter test xs) (filter test xs)) ≡ (if b then f x else []) ++ flat_map (λ a. if test a then f a else []) xs
    go true h = ap (λ z. f x ++ z) h
    go false h = h

module _ {B : Type 0} (h : ℕ → List B) (e : ℕ) (others : (n : ℕ) → nat_eq n e ≡ false → h n ≡ []) where
  none_above : (from len : ℕ) → e < from → flat_map h (range_with_len from len) ≡ []
  none_above from zero low = refl
  none_above from (suc len) low = ap₂ (λ u v. u ++ v) (others from (num_off from e (λ same. omega (arith, same, low)))) (none_above (from + 1) len (omega (arith, low)))

  pub only_one : (from len : ℕ) → from ≤ e → e < from + len → flat_map h (range_with_len from len) ≡ h e
  only_one from zero low high = absurd (omega (arith, low, high))
  only_one from (suc len) low high = go (nat_eq from e) refl (λ le. only_one (from + 1) len le (omega (arith, high)))
    where
      go : (b : Bool) → nat_eq from e ≡ b → (from + 1 ≤ e → flat_map h (range_with_len (from + 1) len) ≡ h e) → h from ++ flat_map h (range_with_len (from + 1) len) ≡ h e
      go true at more = let same : from ≡ e = number_same from e at in ap₂ (λ u v. u ++ v) (ap h same) (none_above (from + 1) len (omega (arith, same))) ∙ append-nil (h e)
      go false off more = ap₂ (λ u v. u ++ v) (others from off) (more (higher (λ same. never (sym (same_number e) ∙ (ap (λ z. nat_eq z e) (sym same) ∙ off)))))
        where
          higher : (from ≡ e → ⊥) → from + 1 ≤ e
          higher apart = omega (arith, low, apart)

pub one_of : {A : Type 0} (P : A → Type 0) (Q : Type 0) (test : A → Bool) → ((a : A) → test a ≡ true → P a → Q) → (xs : List A) → AllByRecursion P xs → list_any test xs ≡ true → Q
one_of P Q test f [] h any = never (sym any)
one_of P Q test f (x ∷ xs) h any = go (test x) refl (λ z. one_of P Q test f xs h.1 z) any
  where
    go : (b : Bool) → test x ≡ b → (list_any test xs ≡ true → Q) → (b || list_any test xs) ≡ true → Q
    go true at more z = f x at h.0
    go false at more z = more z

pub none_found : {A : Type 0} (test : A → Bool) → ((a : A) → test a ≡ false) → (xs : List A) → find test xs ≡ None
none_found test f [] = refl
none_found test f (x ∷ xs) = ap (λ b. cond b (Some x) (find test xs)) (f x) ∙ none_found test f xs

no_item : {A : Type 0} (xs : List A) (x : A) (ys : List A) → [] ≡ xs ++ x ∷ ys → ⊥
no_item [] x ys h = cc
no_item (z ∷ xs) x ys h = cc

-- Where it comes from

module _ (settings : Settings) (before : List Event) (facts : Facts settings before) (settled : Settled settings before) (free : Unreserved settings before) (few : starts_of before ≤ 2 ^ 64) (cause : Cause) (s k e : ℕ) (low : s < 2 ^ 64) (small : k < 2 ^ 64) where
  abbrev x : Created
  x = created_of settings s before

  -- the start tells of the token, which the editor accepted; or the editor accepts it now
  pub data Source : Type 0 where
    hears : (asked : List ℕ) (given : Option Json) (t : Token) → IsNotified before cause s asked given → token_called (named_token given) x ≡ Some t → t.number ≡ k → has_accepted e k x ≡ true → Source
    takes : (c : Taking) → IsTaken settings before cause e s c → c.token ≡ k → Source
    ends_there : IsLost settings before cause e s → has_begun e k x ≡ true → Source

  fair : (n : ℕ) → Fair (created_of settings n before)
  fair n = created_fair settings n before (facts.base).meant

  spawned : (n : ℕ) → (created_of settings n before ≡ no_created → ⊥) → n < 2 ^ 64
  spawned n some = within (λ le. some (settled.uncreated n le))
    where
      within : (starts_of before ≤ n → ⊥) → n < 2 ^ 64
      within f = omega (arith, few, f)

  token_small : (n : ℕ) (o : Option Id) (t : Token) → token_called o (created_of settings n before) ≡ Some t → t.number < 2 ^ 64
  token_small n (Some id) t called =
      let below : t.number < (created_of settings n before).next = (found_is (IsLive (created_of settings n before).next) (is_called id) t (created_of settings n before).tokens (created_orderly settings n before).live called).below in
      let top : (created_of settings n before).next ≤ 2 ^ 64 = (fair n).small in omega (arith, below, top)
  token_small n None t called = absurd (cc)

  token_spawned : (n : ℕ) (o : Option Id) (t : Token) → token_called o (created_of settings n before) ≡ Some t → n < 2 ^ 64
  token_spawned n (Some id) t called = spawned n (λ is. let clash : ◌≡◌ {A = Option Token} None (Some t) = sym (ap (token_called (Some id)) is) ∙ called in cc)
  token_spawned n None t called = absurd (cc)

  taking_small : (n : ℕ) (test : Taking → Bool) (c : Taking) → find test (created_of settings n before).takings ≡ Some c → c.token < 2 ^ 64
  taking_small n test c found =
      let below : c.token < (created_of settings n before).next = found_is (λ (d : Taking). d.token < (created_of settings n before).next) test c (created_of settings n before).takings (created_orderly settings n before).takings found in
      let top : (created_of settings n before).next ≤ 2 ^ 64 = (fair n).small in omega (arith, below, top)

  taking_spawned : (n : ℕ) (test : Taking → Bool) (c : Taking) → find test (created_of settings n before).takings ≡ Some c → n < 2 ^ 64
  taking_spawned n test c found = spawned n (λ is. let clash : ◌≡◌ {A = Option Taking} None (Some c) = sym (ap (λ (y : Created). find test y.takings) is) ∙ found in cc)

  by_telling : (events : List Event) (body : List ℕ) (told : Telling settings before cause events e body) → names_mark s k (message_of body) ≡ true → Source
  by_telling events body (of_request n asked given f token notified found own editor bytes) h = absurd (free_off s k t.id t.free (and_parts (bytes_eq notified.method (codes "$/progress")) (same_id (text (created_mark s k)) t.id) (sym (tells_as s k t.id token asked notified.method m) ∙ (ap (λ z. names_mark s k (message_of z)) (sym bytes) ∙ h))).1)
    where
      own_one : (is_some (named_of (codes "token") given) ≡ true) × ((f.work ≡ Some token) ⊎ (f.partial ≡ Some token))
      own_one = own_is (named_of (codes "token") given) f token own

      chosen : (f.work ≡ Some token) ⊎ (f.partial ≡ Some token) → IsFreeText token
      chosen (inl g) = (found_is IsUnreserved (is_told before (named_of (codes "token") given)) f (forwarding_of settings n before).open_requests (free n) found).work token g
      chosen (inr g) = (found_is IsUnreserved (is_told before (named_of (codes "token") given)) f (forwarding_of settings n before).open_requests (free n) found).partial token g

      t : IsFreeText token
      t = chosen own_one.1

      m : Marked t.id token asked notified.method
      m = marked t.id token asked notified.method given t.text notified.asks own_one.0
  by_telling events body (of_token n asked given t notified called accepted bytes) h = go start number notified called accepted
    where
      m : Marked (text (created_mark n t.number)) (created_text n t.number) asked notified.method
      m = marked (text (created_mark n t.number)) (created_text n t.number) asked notified.method given (created_id n t.number) notified.asks (called_some (named_of (codes "token") given) (created_of settings n before) t called)

      same : created_mark s k ≡ created_mark n t.number
      same = mark_same s k n t.number (and_parts (bytes_eq notified.method (codes "$/progress")) (same_id (text (created_mark s k)) (text (created_mark n t.number))) (sym (tells_as s k (text (created_mark n t.number)) (created_text n t.number) asked notified.method m) ∙ (ap (λ z. names_mark s k (message_of z)) (sym bytes) ∙ h))).1

      start : n ≡ s
      start = sym (mark_start s k n t.number low (token_spawned n (named_token given) t called) same)

      number : t.number ≡ k
      number = sym (mark_number s k n t.number small (token_small n (named_token given) t called) same)

      go : n ≡ s → t.number ≡ k → IsNotified before cause n asked given → token_called (named_token given) (created_of settings n before) ≡ Some t → has_accepted e t.number (created_of settings n before) ≡ true → Source
      go p q i j l = hears asked given t (subst (λ z. IsNotified before cause z asked given) p i) (subst (λ z. token_called (named_token given) (created_of settings z before) ≡ Some t) p j) q
          (subst (λ z. has_accepted e z x ≡ true) q (subst (λ z. has_accepted e t.number (created_of settings z before) ≡ true) p l))
  by_telling events body (of_held n c earlier held later taken order place bytes) h = takes c (subst (λ z. IsTaken settings before cause e z c) start taken) number
    where
      fair_one : IsFair (created_of settings n before).tokens c
      fair_one = found_is (IsFair (created_of settings n before).tokens) (is_answered e (answered_id (message_of taken.answer))) c (created_of settings n before).takings (fair n).takings taken.found

      names : NamesToken held
      names = (all_at NamesToken earlier held later (subst NameTokens order fair_one.held)).1

      m : Marked (text (created_mark n c.token)) (created_text n c.token) held names.method
      m = marked (text (created_mark n c.token)) (created_text n c.token) held names.method names.params (created_id n c.token) names.says names.names

      same : created_mark s k ≡ created_mark n c.token
      same = mark_same s k n c.token (and_parts (bytes_eq names.method (codes "$/progress")) (same_id (text (created_mark s k)) (text (created_mark n c.token))) (sym (tells_as s k (text (created_mark n c.token)) (created_text n c.token) held names.method m) ∙ (ap (λ z. names_mark s k (message_of z)) (sym bytes) ∙ h))).1

      start : n ≡ s
      start = sym (mark_start s k n c.token low (taking_spawned n (is_answered e (answered_id (message_of taken.answer))) c taken.found) same)

      number : c.token ≡ k
      number = sym (mark_number s k n c.token small (taking_small n (is_answered e (answered_id (message_of taken.answer))) c taken.found) same)

  source : (events : List Event) (body : List ℕ) → WhyToEditor settings before cause events e body → names_mark s k (message_of body) ≡ true → Source
  source events body (progresses w) h = by_telling events body w.told h
  source events body (rejects w) h = never (sym h ∙ ap (names_mark s k) w.says)
  source events body (refuses w) h = never (sym h ∙ ap (names_mark s k) w.says)
  source events body (loses w) h = never (sym h ∙ ap (names_mark s k) w.says)
  source events body (answers w) h = never (sym h ∙ ap (names_mark s k) w.says)
  source events body (turns_away w) h = never (sym h ∙ ap (names_mark s k) w.says)
  source events body (welcomes w) h = never (sym h ∙ ap (names_mark s k) w.says)
  source events body (passes w) h = never (sym h ∙ silent s k (message_of body) w.response)
  source events body (asks w) h = never (sym h ∙ ap (names_mark s k) w.says)
  source events body (resumes w) h = never (sym h ∙ ap (names_mark s k) w.says)
  source events body (pays w) h = never (sym h ∙ ap (names_mark s k) w.says)
  source events body (calls w) h = never (sym h ∙ ap (names_mark s k) w.says)
  source events body (spreads w) h = never (sym h ∙ (ap (names_mark s k) w.says ∙ ap (λ b. b && option_map_or (bytes_eq (created_mark s k)) (string_of (named_of (codes "token") w.params)) false) (not_progress w.method w.class)))
  source events body (shows w) h = never (sym h ∙ (ap (names_mark s k) w.says ∙ ap (λ b. b && option_map_or (bytes_eq (created_mark s k)) (string_of (named_of (codes "token") w.params)) false) (list_no_progress w.method w.class)))
  source events body (winds_up w) h = wound w.told
    where
      wound : Losing settings before events e w.start body → Source
      wound (ends token front back order begun is) = go start number w.lost begun
        where
          y : Created
          y = created_of settings w.start before

          same : created_mark s k ≡ created_mark w.start token.number
          same = (bytes_eq-Decides (created_mark s k) (created_mark w.start token.number)).0 (sym (end_marks s k w.start token.number) ∙ (sym (ap (names_mark s k) (end_says w.start token.number)) ∙ (ap (λ z. names_mark s k (message_of z)) (sym is) ∙ h)))

          low_start : w.start < 2 ^ 64
          low_start = spawned w.start (λ none. let clash : ◌≡◌ {A = List Token} [] (front ++ token ∷ back) = sym (ap (λ (z : Created). z.tokens) none) ∙ order in no_item front token back clash)

          low_token : token.number < 2 ^ 64
          low_token = let below : token.number < y.next = ((all_at (IsLive y.next) front token back (subst (AllByRecursion (IsLive y.next)) order (created_orderly settings w.start before).live)).1).below in let top : y.next ≤ 2 ^ 64 = (fair w.start).small in omega (arith, below, top)

          start : w.start ≡ s
          start = sym (mark_start s k w.start token.number low low_start same)

          number : token.number ≡ k
          number = sym (mark_number s k w.start token.number small low_token same)

          go : w.start ≡ s → token.number ≡ k → IsLost settings before cause e w.start → has_begun e token.number y ≡ true → Source
          go p q i j = ends_there (subst (IsLost settings before cause e) p i) (subst (λ z. has_begun e z x ≡ true) q (subst (λ z. has_begun e token.number (created_of settings z before) ≡ true) p j))
      wound (frees number unanswered low_number waits is) = never (sym h ∙ (ap (λ z. names_mark s k (message_of z)) is ∙ ap (names_mark s k) (cancel_says number low_number)))
      wound (empties list front back order full spelt is) = never (sym h ∙ (ap (λ z. names_mark s k (message_of z)) is ∙ ap (names_mark s k) (empty_says list.uri spelt)))
  source events body (recalls w) h = never (sym h ∙ ap (names_mark s k) w.says)

  -- what is sent has such a source
  pub nothing_or : (events : List Event) (xs : List Out) → Reasons (Why settings before cause) events xs → (sent_outs s k e xs ≡ []) ⊎ Source
  nothing_or events [] r = inl refl
  nothing_or events (out ∷ xs) r = go out r.0 (nothing_or (events ++ said out ∷ []) xs r.1)
    where
      free_out : (o : Out) → sent_by s k e (said o) ≡ [] → (sent_outs s k e xs ≡ []) ⊎ Source → (sent_outs s k e (o ∷ xs) ≡ []) ⊎ Source
      free_out o none (inl rest) = inl (ap₂ (λ u v. u ++ v) none rest)
      free_out o none (inr from) = inr from

      go : (o : Out) → Why settings before cause events o → (sent_outs s k e xs ≡ []) ⊎ Source → (sent_outs s k e (o ∷ xs) ≡ []) ⊎ Source
      go (ToEditor n body) why rest = by_test (nat_eq n e && names_mark s k (message_of body)) refl
        where
          by_test : (b : Bool) → (nat_eq n e && names_mark s k (message_of body)) ≡ b → (sent_outs s k e (ToEditor n body ∷ xs) ≡ []) ⊎ Source
          by_test true at = let both = and_parts (nat_eq n e) (names_mark s k (message_of body)) at in inr (source events body (subst (λ z. WhyToEditor settings before cause events z body) (number_same n e both.0) why) both.1)
          by_test false off = free_out (ToEditor n body) (ap (λ b. if b then body ∷ [] else []) off) rest
      go (ToServer n body) why rest = free_out (ToServer n body) refl rest
      go (Spawn n g) why rest = free_out (Spawn n g) refl rest
      go (CloseEditor n) why rest = free_out (CloseEditor n) refl rest
      go (EndServer n) why rest = free_out (EndServer n) refl rest
