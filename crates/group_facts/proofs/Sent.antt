-- A request that was sent on to the last start of its editor's group, until the start answers it; and the numbers of such requests.
use Rattle.std.proofs.Common.{◌≡◌, ℕ, zero, suc, ◌+◌, ◌<◌, ◌≤◌, ◌^◌, Bool, true, false, not, ◌&&◌, cond, List, [], ◌∷◌, ◌++◌, map, filter, find, nat_eq, codes, bytes_eq, decimal, if◌then◌else◌, Option, Some, None, ◌⊎◌, inl, inr, refl, sym, ◌∙◌, ap, subst, arith}
use Rattle.std.specs.Prelude.{slice_get}
use Rattle.std.specs.Fmt.{digits}
use Rattle.std.proofs.lemmas.Fmt.{decimal_injective}
use Rattle.std.proofs.lemmas.Slice.Eq.{bytes_eq-Decides}
use Rattle.json_text.specs.Json.{Json}
use Rattle.mux_history.specs.declared.cause.Cause.TheVariants.{Joined, FromEditor, EditorGone, Started, StartFailed, FromServer, ServerGone, Drained, Tick}
use Rattle.mux_history.specs.declared.cause.Why as link
use Rattle.mux_history.specs.declared.out.Out.{Out}
use Rattle.mux_history.specs.declared.out.Out.TheVariants.{ToEditor, ToServer, Spawn, CloseEditor, EndServer}
use Rattle.rpc_message.specs.Message.{Message, request, notification, result, error, not_json, not_message, Id, integer, text, message_of}
use Rattle.rpc_message.specs.ValueTexts.{IsIdText}
use Rattle.event_model.specs.Event.{Event, did, heard, said, took, with_cause}
use Rattle.event_model.specs.Members.{named_of}
use Rattle.event_model.specs.Phases.{desk_of}
use Rattle.event_model.specs.Requests.{answered_id, is_own}
use Rattle.event_model.specs.Settings.{Settings}
use Rattle.event_model.specs.Spawns.{start_behind, start_of}
use Rattle.document_model.proofs.ScalarTrees.{either_way}
use Rattle.mux_facts.proofs.Words.{number_same}
use Rattle.group_words.specs.Houses.{home_of, house_of, placed_for, places}
use Rattle.group_words.specs.Past.{past}
use Rattle.group_words.specs.Placing.{home_by}
use Rattle.group_words.proofs.Frames.{home_more, home_stays}
use Rattle.group_rows.specs.Forwarded.{Forwarded, Forwarding, Sender, answered_by, cancelled_by, first_sender, forwarding_next, forwarding_of, forwards, is_written, names, no_forwarding, numbered, sender_or}
use Rattle.group_facts.specs.Settled.{IsSent}
use Rattle.group_facts.proofs.Begun.{NoSpawn, start_more}
use Rattle.group_rows.proofs.Frames.{forwarding_more}
use Rattle.group_facts.proofs.Forwards.{more_requests}

-- One of a list

abbrev pub OneOf : {X : Type 0} → (X → Type 0) → List X → Type 0
OneOf P [] = ⊥
OneOf P (x ∷ xs) = P x ⊎ OneOf P xs

module _ {X : Type 0} (P : X → Type 0) where
  pub one_left : (xs ys : List X) → OneOf P xs → OneOf P (xs ++ ys)
  one_left [] ys h = absurd h
  one_left (x ∷ xs) ys (inl p) = inl p
  one_left (x ∷ xs) ys (inr q) = inr (one_left xs ys q)

  pub one_last : (xs : List X) (x : X) → P x → OneOf P (xs ++ x ∷ [])
  one_last [] x p = inl p
  one_last (y ∷ xs) x p = inr (one_last xs x p)

  one_mapped : (f : X → X) → ((x : X) → P x → P (f x)) → (xs : List X) → OneOf P xs → OneOf P (map f xs)
  one_mapped f keep [] h = absurd h
  one_mapped f keep (x ∷ xs) (inl p) = inl (keep x p)
  one_mapped f keep (x ∷ xs) (inr q) = inr (one_mapped f keep xs q)

  -- it passes a test, or it doesn't
  one_without : (test : X → Bool) (xs : List X) → OneOf P xs → OneOf P (filter (λ x. not (test x)) xs) ⊎ OneOf (λ (x : X). P x × (test x ≡ true)) xs
  one_without test [] h = absurd h
  one_without test (x ∷ xs) (inl p) = go (test x) refl
    where
      go : (b : Bool) → test x ≡ b → OneOf P (cond (not b) (x ∷ filter (λ x. not (test x)) xs) (filter (λ x. not (test x)) xs)) ⊎ ((P x × (test x ≡ true)) ⊎ OneOf (λ (x : X). P x × (test x ≡ true)) xs)
      go true e = inr (inl (p, e))
      go false e = inl (inl p)
  one_without test (x ∷ xs) (inr q) = go (test x) (one_without test xs q)
    where
      go : (b : Bool) → OneOf P (filter (λ x. not (test x)) xs) ⊎ OneOf (λ (x : X). P x × (test x ≡ true)) xs
          → OneOf P (cond (not b) (x ∷ filter (λ x. not (test x)) xs) (filter (λ x. not (test x)) xs)) ⊎ ((P x × (test x ≡ true)) ⊎ OneOf (λ (x : X). P x × (test x ≡ true)) xs)
      go true (inl k) = inl k
      go false (inl k) = inl (inr k)
      go b (inr k) = inr (inr k)

  pub record Placed (xs : List X) : Type 0 where
    pub place : ℕ
    pub item : X
    pub at : slice_get xs place ≡ Some item
    pub holds : P item

  pub one_place : (xs : List X) → OneOf P xs → Placed xs
  one_place [] h = absurd h
  one_place (x ∷ xs) (inl p) = record { place = zero; item = x; at = refl; holds = p }
  one_place (x ∷ xs) (inr q) = let k : Placed xs = one_place xs q in record { place = suc k.place; item = k.item; at = k.at; holds = k.holds }

-- A request of e under this id

abbrev pub IsOf : ℕ → Id → Forwarded → Type 0
IsOf e id f = (f.editor ≡ e) × IsIdText id f.id

-- it is open at the last start of e's group
pub record SentAt (settings : Settings) (events : List Event) (e : ℕ) (id : Id) : Type 0 where
  pub group : ℕ
  pub start : ℕ
  pub home : home_of settings e events ≡ Some group
  pub last : start_of group events ≡ Some start
  pub among : OneOf (IsOf e id) (forwarding_of settings start events).open_requests

pub sent_is : (settings : Settings) (events : List Event) (e : ℕ) (id : Id) → SentAt settings events e id → IsSent settings events e id
sent_is settings events e id k =
    let p : Placed (IsOf e id) (forwarding_of settings k.start events).open_requests = one_place (IsOf e id) (forwarding_of settings k.start events).open_requests k.among in
    record { group = k.group; start = k.start; home = k.home; last = k.last; place = p.place; request = p.item; at = p.at; editor = p.holds.0; text = p.holds.1 }

-- a body to the start leaves it open

of_cancelled : (e : ℕ) (id : Id) (named : Option Json) (f : Forwarded) → IsOf e id f → IsOf e id (cancelled_by named f)
of_cancelled e id named f h = go (is_written named f.number)
  where
    go : (b : Bool) → IsOf e id (if b then record f { cancelled = true } else f)
    go true = (h.0, h.1)
    go false = h

one_forwards : (e : ℕ) (id : Id) (first : Option Sender) (x : Forwarding) (m : Message) → OneOf (IsOf e id) x.open_requests → OneOf (IsOf e id) (forwards first x m).open_requests
one_forwards e id first x (request k method params) h = either_way (λ (y : Forwarding). OneOf (IsOf e id) y.open_requests) (is_own method) x (more_requests first x) h (one_left (IsOf e id) x.open_requests (numbered (sender_or x.sender first) x.next) h)
one_forwards e id first x (notification method params) h = either_way (λ (y : Forwarding). OneOf (IsOf e id) y.open_requests) (bytes_eq method (codes "$/cancelRequest"))
    (record { sender = x.sender; next = x.next; open_requests = map (cancelled_by (named_of (codes "id") params)) x.open_requests }) x
    (one_mapped (IsOf e id) (cancelled_by (named_of (codes "id") params)) (of_cancelled e id (named_of (codes "id") params)) x.open_requests h) h
one_forwards e id first x (result k r) h = h
one_forwards e id first x (error k r) h = h
one_forwards e id first x not_json h = h
one_forwards e id first x not_message h = h

module _ (settings : Settings) (e : ℕ) (id : Id) where
  abbrev Among : List Forwarded → Type 0
  Among fs = OneOf (IsOf e id) fs

  -- one event more
  sent_more : (events : List Event) (event : Event) → ((g : ℕ) → home_of settings e events ≡ Some g → home_of settings e (events ++ event ∷ []) ≡ Some g) → ((g s : ℕ) → start_of g events ≡ Some s → start_behind g (start_of g events) event ≡ Some s)
      → ((s : ℕ) → Among (forwarding_of settings s events).open_requests → Among (forwarding_next settings s events (forwarding_of settings s events) event).open_requests) → SentAt settings events e id → SentAt settings (events ++ event ∷ []) e id
  sent_more events event homes starts open_still k = record {
    group = k.group;
    start = k.start;
    home = homes k.group k.home;
    last = start_more k.group events event ∙ starts k.group k.start k.last;
    among = subst (λ (x : Forwarding). Among x.open_requests) (sym (forwarding_more settings k.start events event)) (open_still k.start k.among);
  }

  -- an out that spawns none
  pub sent_did : (events : List Event) (out : Out) → NoSpawn out → SentAt settings events e id → SentAt settings (events ++ said out ∷ []) e id
  sent_did events (Spawn n g) quiet k = absurd quiet
  sent_did events (ToEditor n body) quiet k = sent_more events (said (ToEditor n body)) (λ g at. home_stays settings e events (said (ToEditor n body)) refl ∙ at) (λ g s at. at) (λ s h. h) k
  sent_did events (CloseEditor n) quiet k = sent_more events (said (CloseEditor n)) (λ g at. home_stays settings e events (said (CloseEditor n)) refl ∙ at) (λ g s at. at) (λ s h. h) k
  sent_did events (EndServer n) quiet k = sent_more events (said (EndServer n)) (λ g at. home_stays settings e events (said (EndServer n)) refl ∙ at) (λ g s at. at) (λ s h. h) k
  sent_did events (ToServer n body) quiet k = sent_more events (said (ToServer n body)) (λ g at. home_stays settings e events (said (ToServer n body)) refl ∙ at) (λ g s at. at)
      (λ s h. either_way (λ (x : Forwarding). Among x.open_requests) (nat_eq n s) (forwards (first_sender settings s events) (forwarding_of settings s events) (message_of body)) (forwarding_of settings s events) (one_forwards e id (first_sender settings s events) (forwarding_of settings s events) (message_of body) h) h) k

  -- the first start of a group
  pub sent_spawn : (events : List Event) (n h : ℕ) → start_of h events ≡ None → SentAt settings events e id → SentAt settings (events ++ said (Spawn n h) ∷ []) e id
  sent_spawn events n h none k = sent_more events (said (Spawn n h)) (λ g at. home_stays settings e events (said (Spawn n h)) refl ∙ at) (λ g s at. go g s at (nat_eq h g) refl) (λ s at. at) k
    where
      go : (g s : ℕ) → start_of g events ≡ Some s → (b : Bool) → nat_eq h g ≡ b → (if b then Some n else start_of g events) ≡ Some s
      go g s at true same = absurd (let is : start_of g events ≡ None = ap (λ z. start_of z events) (sym (number_same h g same)) ∙ none in let clash : ◌≡◌ {A = Option ℕ} (Some s) None = sym at ∙ is in cc)
      go g s at false other = at

  -- a cause that isn't the start's response
  pub sent_joined : (events : List Event) (n : ℕ) → SentAt settings events e id → SentAt settings (with_cause events (Joined n)) e id
  sent_joined events n k = sent_more events (heard (Joined n)) (λ g at. home_stays settings e events (heard (Joined n)) refl ∙ at) (λ g s at. at) (λ s h. h) k

  pub sent_started : (events : List Event) (n : ℕ) → SentAt settings events e id → SentAt settings (with_cause events (Started n)) e id
  sent_started events n k = sent_more events (heard (Started n)) (λ g at. home_stays settings e events (heard (Started n)) refl ∙ at) (λ g s at. at) (λ s h. h) k

  pub sent_drained : (events : List Event) (n bytes : ℕ) → SentAt settings events e id → SentAt settings (with_cause events (Drained n bytes)) e id
  sent_drained events n bytes k = sent_more events (heard (Drained n bytes)) (λ g at. home_stays settings e events (heard (Drained n bytes)) refl ∙ at) (λ g s at. at) (λ s h. h) k

  pub sent_ticked : (events : List Event) (t : ℕ) → SentAt settings events e id → SentAt settings (with_cause events (Tick t)) e id
  sent_ticked events t k = sent_more events (heard (Tick t)) (λ g at. home_stays settings e events (heard (Tick t)) refl ∙ at) (λ g s at. at) (λ s h. h) k

  -- the end of another start
  forgets : (b : Bool) (x : Forwarding) → b ≡ false → Among x.open_requests → Among (if b then no_forwarding else record { sender = None; next = x.next; open_requests = x.open_requests }).open_requests
  forgets true x other h = absurd (cc)
  forgets false x other h = h

  pub sent_failed : (events : List Event) (n : ℕ) (k : SentAt settings events e id) → nat_eq n k.start ≡ false → SentAt settings (with_cause events (StartFailed n)) e id
  sent_failed events n k other = record {
    group = k.group;
    start = k.start;
    home = home_stays settings e events (heard (StartFailed n)) refl ∙ k.home;
    last = start_more k.group events (heard (StartFailed n)) ∙ k.last;
    among = subst (λ (x : Forwarding). Among x.open_requests) (sym (forwarding_more settings k.start events (heard (StartFailed n)))) (forgets (nat_eq n k.start) (forwarding_of settings k.start events) other k.among);
  }

  pub sent_ended : (events : List Event) (n : ℕ) (k : SentAt settings events e id) → nat_eq n k.start ≡ false → SentAt settings (with_cause events (ServerGone n)) e id
  sent_ended events n k other = record {
    group = k.group;
    start = k.start;
    home = home_stays settings e events (heard (ServerGone n)) refl ∙ k.home;
    last = start_more k.group events (heard (ServerGone n)) ∙ k.last;
    among = subst (λ (x : Forwarding). Among x.open_requests) (sym (forwarding_more settings k.start events (heard (ServerGone n)))) (forgets (nat_eq n k.start) (forwarding_of settings k.start events) other k.among);
  }

  pub sent_gone : (events : List Event) (n : ℕ) (why : link.Why) → nat_eq n e ≡ false → SentAt settings events e id → SentAt settings (with_cause events (EditorGone n why)) e id
  sent_gone events n why other k = sent_more events (heard (EditorGone n why)) (λ g at. home_more settings e events (heard (EditorGone n why)) ∙ ap (λ b. if b then None else home_of settings e events) other ∙ at) (λ g s at. at) (λ s h. h) k

  pub sent_heard : (events : List Event) (n : ℕ) (body : List ℕ) → (nat_eq n e && places (desk_of n events).phase (message_of body)) ≡ false → SentAt settings events e id → SentAt settings (with_cause events (FromEditor n body)) e id
  sent_heard events n body off k = sent_more events (heard (FromEditor n body)) (λ g at. home_more settings e events (heard (FromEditor n body))
      ∙ ap (λ b. if b then home_by (placed_for settings events n body (house_of settings events).groups) (home_of settings e events) else home_of settings e events) off ∙ at) (λ g s at. at) (λ s h. h) k

  -- it is one that the start's response answers
  abbrev pub Passed : List Event → ℕ → List ℕ → Type 0
  Passed events n body = OneOf (λ (f : Forwarded). IsOf e id f × (answered_by (answered_id (message_of body)) f ≡ true)) (forwarding_of settings n events).open_requests

  abbrev unanswered : List ℕ → List Forwarded → List Forwarded
  unanswered body fs = filter (λ f. not (answered_by (answered_id (message_of body)) f)) fs

  pub sent_answered : (events : List Event) (n : ℕ) (body : List ℕ) → (k : SentAt settings events e id) → SentAt settings (with_cause events (FromServer n body)) e id ⊎ ((n ≡ k.start) × Passed events n body)
  sent_answered events n body k = go (nat_eq n k.start) refl
    where
      made : Among (forwarding_next settings k.start events (forwarding_of settings k.start events) (heard (FromServer n body))).open_requests → SentAt settings (with_cause events (FromServer n body)) e id
      made h = record {
        group = k.group;
        start = k.start;
        home = home_stays settings e events (heard (FromServer n body)) refl ∙ k.home;
        last = start_more k.group events (heard (FromServer n body)) ∙ k.last;
        among = subst (λ (x : Forwarding). Among x.open_requests) (sym (forwarding_more settings k.start events (heard (FromServer n body)))) h;
      }

      with_rest : (b : Bool) → nat_eq n k.start ≡ b → Among (if b then unanswered body (forwarding_of settings k.start events).open_requests else (forwarding_of settings k.start events).open_requests) → SentAt settings (with_cause events (FromServer n body)) e id
      with_rest b same h = made (subst (λ c. Among (if c then unanswered body (forwarding_of settings k.start events).open_requests else (forwarding_of settings k.start events).open_requests)) (sym same) h)

      split : nat_eq n k.start ≡ true → Among (unanswered body (forwarding_of settings k.start events).open_requests) ⊎ OneOf (λ (f : Forwarded). IsOf e id f × (answered_by (answered_id (message_of body)) f ≡ true)) (forwarding_of settings k.start events).open_requests → SentAt settings (with_cause events (FromServer n body)) e id ⊎ ((n ≡ k.start) × Passed events n body)
      split same (inl h) = inl (with_rest true same h)
      split same (inr h) = inr (number_same n k.start same, subst (λ s. OneOf (λ (f : Forwarded). IsOf e id f × (answered_by (answered_id (message_of body)) f ≡ true)) (forwarding_of settings s events).open_requests) (sym (number_same n k.start same)) h)

      go : (b : Bool) → nat_eq n k.start ≡ b → SentAt settings (with_cause events (FromServer n body)) e id ⊎ ((n ≡ k.start) × Passed events n body)
      go true same = split same (one_without (IsOf e id) (answered_by (answered_id (message_of body))) (forwarding_of settings k.start events).open_requests k.among)
      go false other = inl (with_rest false other k.among)

-- The numbers of open requests rise from 2, below the next

abbrev pub Rising : ℕ → ℕ → List Forwarded → Type 0
Rising low next [] = low ≤ next
Rising low next (f ∷ fs) = (low ≤ f.number) × Rising (f.number + 1) next fs

pub rising_from : (low high next : ℕ) (fs : List Forwarded) → low ≤ high → Rising high next fs → Rising low next fs
rising_from low high next [] le h = omega (arith, le, h)
rising_from low high next (f ∷ fs) le h = (let k : high ≤ f.number = h.0 in omega (arith, le, k), h.1)

rising_last : (low next : ℕ) (fs : List Forwarded) (o : Option Sender) → Rising low next fs → Rising low (next + 1) (fs ++ numbered o next)
rising_last low next [] None h = omega (arith, h)
rising_last low next [] (Some a) h = (h, omega arith)
rising_last low next (f ∷ fs) o h = (h.0, rising_last (f.number + 1) next fs o h.1)

rising_cancelled : (low next : ℕ) (named : Option Json) (fs : List Forwarded) → Rising low next fs → Rising low next (map (cancelled_by named) fs)
rising_cancelled low next named [] h = h
rising_cancelled low next named (f ∷ fs) h = go (is_written named f.number) (rising_cancelled (f.number + 1) next named fs h.1)
  where
    go : (b : Bool) → Rising (f.number + 1) next (map (cancelled_by named) fs) → Rising low next ((if b then record f { cancelled = true } else f) ∷ map (cancelled_by named) fs)
    go true k = (h.0, k)
    go false k = (h.0, k)

pub rising_filtered : (low next : ℕ) (test : Forwarded → Bool) (fs : List Forwarded) → Rising low next fs → Rising low next (filter test fs)
rising_filtered low next test [] h = h
rising_filtered low next test (f ∷ fs) h = go (test f) (rising_filtered (f.number + 1) next test fs h.1)
  where
    go : (b : Bool) → Rising (f.number + 1) next (filter test fs) → Rising low next (cond b (f ∷ filter test fs) (filter test fs))
    go true k = (h.0, k)
    go false k = let le : low ≤ f.number = h.0 in rising_from low (f.number + 1) next (filter test fs) (omega (arith, le)) k

abbrev Rises : Forwarding → Type 0
Rises x = Rising 2 x.next x.open_requests

rises_forwards : (first : Option Sender) (x : Forwarding) (m : Message) → Rises x → Rises (forwards first x m)
rises_forwards first x (request id method params) h = either_way Rises (is_own method) x (more_requests first x) h (rising_last 2 x.next x.open_requests (sender_or x.sender first) h)
rises_forwards first x (notification method params) h = either_way Rises (bytes_eq method (codes "$/cancelRequest")) (record { sender = x.sender; next = x.next; open_requests = map (cancelled_by (named_of (codes "id") params)) x.open_requests }) x
    (rising_cancelled 2 x.next (named_of (codes "id") params) x.open_requests h) h
rises_forwards first x (result id r) h = h
rises_forwards first x (error id e) h = h
rises_forwards first x not_json h = h
rises_forwards first x not_message h = h

rises_behind : (settings : Settings) (s : ℕ) (before : List Event) (x : Forwarding) (event : Event) → Rises x → Rises (forwarding_next settings s before x event)
rises_behind settings s before x (took (FromServer n body) m) h = either_way (λ fs. Rising 2 x.next fs) (nat_eq n s) (filter (λ f. not (answered_by (answered_id m) f)) x.open_requests) x.open_requests (rising_filtered 2 x.next (λ f. not (answered_by (answered_id m) f)) x.open_requests h) h
rises_behind settings s before x (took (StartFailed n) m) h = either_way Rises (nat_eq n s) no_forwarding (record { sender = None; next = x.next; open_requests = x.open_requests }) (omega arith) h
rises_behind settings s before x (took (ServerGone n) m) h = either_way Rises (nat_eq n s) no_forwarding (record { sender = None; next = x.next; open_requests = x.open_requests }) (omega arith) h
rises_behind settings s before x (did (ToServer n body) m) h = either_way Rises (nat_eq n s) (forwards (first_sender settings s before) x m) x (rises_forwards (first_sender settings s before) x m h) h
rises_behind settings s before x (took cause m) h = h
rises_behind settings s before x (did out m) h = h

rises_all : (settings : Settings) (s : ℕ) (before events : List Event) (x : Forwarding) → Rises x → Rises (past (forwarding_next settings s) before x events)
rises_all settings s before [] x h = h
rises_all settings s before (event ∷ events) x h = rises_all settings s (before ++ event ∷ []) events (forwarding_next settings s before x event) (rises_behind settings s before x event h)

pub rising_of : (settings : Settings) (s : ℕ) (events : List Event) → Rising 2 (forwarding_of settings s events).next (forwarding_of settings s events).open_requests
rising_of settings s events = rises_all settings s [] events no_forwarding (omega arith)

-- A number that a response answers is one request's

names_one : (id : Option Id) (m n : ℕ) → m < 2 ^ 64 → n < 2 ^ 64 → names id m ≡ true → names id n ≡ true → m ≡ n
names_one (Some (integer digits)) m n low high h k = decimal_injective m n low high (sym ((bytes_eq-Decides digits (decimal m)).0 h) ∙ (bytes_eq-Decides digits (decimal n)).0 k)
names_one (Some (text t)) m n low high h k = absurd (cc)
names_one None m n low high h k = absurd (cc)

pub below_next : (low next : ℕ) (fs : List Forwarded) → Rising low next fs → low ≤ next
below_next low next [] h = h
below_next low next (f ∷ fs) h = let rest : f.number + 1 ≤ next = below_next (f.number + 1) next fs h.1 in let le : low ≤ f.number = h.0 in omega (arith, rest, le)

module _ (P : Forwarded → Type 0) (id : Option Id) (next : ℕ) (limit : next < 2 ^ 64) where
  abbrev pub Hit : Forwarded → Type 0
  Hit f = P f × (answered_by id f ≡ true)

  small : (f : Forwarded) (fs : List Forwarded) → Rising (f.number + 1) next fs → f.number < 2 ^ 64
  small f fs r = let le : f.number + 1 ≤ next = below_next (f.number + 1) next fs r in omega (arith, le, limit)

  -- none of a higher number
  none_above : (n : ℕ) → n < 2 ^ 64 → names id n ≡ true → (fs : List Forwarded) (low : ℕ) → n < low → Rising low next fs → OneOf Hit fs → ⊥
  none_above n bound h [] low le r k = k
  none_above n bound h (f ∷ fs) low le r (inl p) = let same : n ≡ f.number = names_one id n f.number bound (small f fs r.1) h p.1 in let least : low ≤ f.number = r.0 in omega (arith, same, least, le)
  none_above n bound h (f ∷ fs) low le r (inr q) = let least : low ≤ f.number = r.0 in none_above n bound h fs (f.number + 1) (omega (arith, least, le)) r.1 q

  -- the first that it answers
  pub record Found (fs : List Forwarded) : Type 0 where
    pub first : Forwarded
    pub found : find (answered_by id) fs ≡ Some first
    pub holds : P first

  pub found_one : (low : ℕ) (fs : List Forwarded) → Rising low next fs → OneOf Hit fs → Found fs
  found_one low [] r k = absurd k
  found_one low (f ∷ fs) r (inl p) = record { first = f; found = ap (λ b. cond b (Some f) (find (answered_by id) fs)) p.1; holds = p.0 }
  found_one low (f ∷ fs) r (inr q) = go (answered_by id f) refl (found_one (f.number + 1) fs r.1 q)
    where
      go : (b : Bool) → answered_by id f ≡ b → Found fs → Found (f ∷ fs)
      go true h k = absurd (none_above f.number (small f fs r.1) h fs (f.number + 1) (omega arith) r.1 q)
      go false h k = record { first = k.first; found = ap (λ b. cond b (Some f) (find (answered_by id) fs)) h ∙ k.found; holds = k.holds }

-- below 2 there is none
pub none_sent : (Q : Forwarded → Type 0) (fs : List Forwarded) → Rising 2 2 fs → OneOf Q fs → ⊥
none_sent Q [] r k = k
none_sent Q (f ∷ fs) r k = let least : 2 ≤ f.number = r.0 in let rest : f.number + 1 ≤ 2 = below_next (f.number + 1) 2 fs r.1 in omega (arith, least, rest)
