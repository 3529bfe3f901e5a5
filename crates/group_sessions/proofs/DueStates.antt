-- How far an editor is with a token, by the words of the two and by what the fold keeps of them, and how that moves on by one word.
use Rattle.std.proofs.Common.{◌≡◌, ℕ, ◌<◌, ◌≤◌, Bool, true, false, not, ◌&&◌, ◌||◌, cond, List, [], ◌∷◌, ◌++◌, append-nil, append_assoc, filter, flat_map, map, nat_eq, nat_lt, length, take, if◌then◌else◌, Option, refl, sym, ◌∙◌, ap, ap₂, subst, arith, Some, None, bytes_eq, codes}
use Rattle.std.specs.List.{list_any, AllByRecursion}
use Rattle.std.proofs.lemmas.Bool.{and_parts}
use Rattle.json_text.specs.Json.{Json}
use Rattle.rpc_message.specs.Message.{Id, Message, request, notification, result, error, not_json, not_message, message_of}
use Rattle.event_model.specs.Requests.{answered_id}
use Rattle.event_model.proofs.Frames.{never}
use Rattle.mux_facts.proofs.Words.{number_same}
use Rattle.group_rows.specs.Created.{Created, Taking, Token, accepts, asked, held_first, held_most, is_answered, is_at, is_begin, is_end, is_over, lives, may_hold, settled, told}
use Rattle.group_rows.specs.Forwarded.{names}
use Rattle.group_sessions.specs.Due.{Word, asks, begins, bodies, body_in, due, ends, held_of, is_asks, is_parts, opening, parts, replies, settles, tells, breaks, breaks_off, cut_asked, cut_settled, is_cut, rests, is_beginning, is_closing, is_ending, is_open_yet}
use Rattle.group_sessions.proofs.DueFold.{head_passes, is_own, own, any_within}
use Rattle.group_sessions.proofs.DueWords.{Over, asked_there, bodies_join, due_fresh, due_goes, due_waits, held_step, none_join, over_more, parted, refused, agrees, cut_fresh, cut_goes, cut_once, cut_settles, cut_waits, since_last, any_join}
use Rattle.group_rows.specs.ExitRows.{begun_at, has_begun}
use Rattle.std.specs.Option.{is_some, option_map_or}
use Rattle.std.proofs.lemmas.Slice.Eq.{bytes_eq-Decides}
use Rattle.event_model.specs.Members.{named_of, string_of}

-- it was asked and hasn't answered
pub record IsWaiting (e k : ℕ) (x : Created) (ws : List Word) : Type 0 where
  pub us : List Word
  pub number : ℕ
  pub vs : List Word
  pub taking : Taking
  pub is : ws ≡ us ++ asks number ∷ vs
  pub first : list_any is_asks us ≡ false
  pub unsettled : list_any (settles number) vs ≡ false
  pub only : own e k x ≡ taking ∷ []
  pub unaccepted : taking.accepted ≡ false
  pub under : taking.number ≡ number
  pub held : taking.held ≡ held_of held_most (opening (bodies us) ++ bodies vs)
  pub created : k < x.next
  pub begun : taking.begun ≡ list_any begins taking.held
  pub ended : list_any ends taking.held ≡ not (lives k x)

-- it accepted, and the token lives or has ended, by what it was told
pub data Seat (e k : ℕ) (x : Created) (told : List (List ℕ)) : Type 0 where
  sits : (c : Taking) → own e k x ≡ c ∷ [] → c.accepted ≡ true → c.begun ≡ list_any begins told → list_any ends told ≡ false → Seat e k x told
  rose : own e k x ≡ [] → lives k x ≡ false → list_any ends told ≡ true → Seat e k x told

pub record IsGoing (e k : ℕ) (x : Created) (ws : List Word) : Type 0 where
  pub us : List Word
  pub number : ℕ
  pub vs : List Word
  pub id : Option Id
  pub zs : List Word
  pub is : ws ≡ us ++ asks number ∷ (vs ++ replies id true ∷ zs)
  pub first : list_any is_asks us ≡ false
  pub unsettled : list_any (settles number) vs ≡ false
  pub named : names id number ≡ true
  pub stays : list_any is_parts zs ≡ false
  pub seat : Seat e k x (due ws)
  pub created : k < x.next

pub data State (e k : ℕ) (x : Created) (ws : List Word) : Type 0 where
  fresh : list_any is_asks ws ≡ false → own e k x ≡ [] → State e k x ws
  waits : IsWaiting e k x ws → State e k x ws
  goes : IsGoing e k x ws → State e k x ws
  over : Over ws → own e k x ≡ [] → State e k x ws

-- one word more, by which so much more is due
pub record Steps (e k : ℕ) (x : Created) (ws : List Word) (w : Word) (gain : List (List ℕ)) : Type 0 where
  pub state : State e k x (ws ++ w ∷ [])
  pub grows : due (ws ++ w ∷ []) ≡ due ws ++ gain

empty : (c : Taking) → ◌≡◌ {A = List Taking} [] (c ∷ []) → ⊥
empty c h = cc

module _ (e k : ℕ) where
  waits_due : (x : Created) (ws : List Word) → IsWaiting e k x ws → due ws ≡ []
  waits_due x ws i = ap due i.is ∙ due_waits i.us i.number i.vs i.first i.unsettled

  goes_due : (x : Created) (ws : List Word) (i : IsGoing e k x ws) → due ws ≡ held_of held_most (opening (bodies i.us) ++ bodies i.vs) ++ bodies i.zs
  goes_due x ws i = ap due i.is ∙ due_goes i.us i.number i.vs i.first i.unsettled i.id i.zs i.named i.stays

  still_none : (ws us : List Word) → due ws ≡ [] → due us ≡ [] → due us ≡ due ws ++ []
  still_none ws us h k = k ∙ ap (λ z. z ++ []) (sym h)

  last_wait : (us : List Word) (n : ℕ) (vs : List Word) (w : Word) → (us ++ asks n ∷ vs) ++ w ∷ [] ≡ us ++ asks n ∷ (vs ++ w ∷ [])
  last_wait us n vs w = append_assoc us (asks n ∷ vs) (w ∷ [])

  last_go : (us : List Word) (n : ℕ) (vs : List Word) (r : Word) (zs : List Word) (w : Word) → (us ++ asks n ∷ (vs ++ r ∷ zs)) ++ w ∷ [] ≡ us ++ asks n ∷ (vs ++ r ∷ (zs ++ w ∷ []))
  last_go us n vs r zs w = append_assoc us (asks n ∷ (vs ++ r ∷ zs)) (w ∷ []) ∙ ap (λ z. us ++ asks n ∷ z) (append_assoc vs (r ∷ zs) (w ∷ []))

  silent_last : (vs : List Word) (w : Word) → body_in w ≡ [] → bodies (vs ++ w ∷ []) ≡ bodies vs
  silent_last vs w quiet = bodies_join vs (w ∷ []) ∙ (ap (λ z. bodies vs ++ (z ++ [])) quiet ∙ append-nil (bodies vs))

  off_last : (test : Word → Bool) (vs : List Word) (w : Word) → list_any test vs ≡ false → test w ≡ false → list_any test (vs ++ w ∷ []) ≡ false
  off_last test vs w h off = none_join test vs (w ∷ []) h (ap (λ b. b || false) off)

  -- A word that changes nothing

  module _ (x y : Created) (ws : List Word) (w : Word) (unasked : is_asks w ≡ false) (together : is_parts w ≡ false) (quiet : body_in w ≡ []) (apart : (c : Taking) → own e k x ≡ c ∷ [] → c.accepted ≡ false → settles c.number w ≡ false)
      (same : own e k y ≡ own e k x) (lasting : k < x.next → lives k y ≡ lives k x) (more : x.next ≤ y.next) where
    low : k < x.next → k < y.next
    low h = omega (arith, h, more)

    idle_waits : IsWaiting e k x ws → Steps e k y ws w []
    idle_waits i = record {
      state = waits (record {
        us = i.us;
        number = i.number;
        vs = i.vs ++ w ∷ [];
        taking = i.taking;
        is = is;
        first = i.first;
        unsettled = unsettled;
        only = same ∙ i.only;
        unaccepted = i.unaccepted;
        under = i.under;
        held = i.held ∙ ap (λ z. held_of held_most (opening (bodies i.us) ++ z)) (sym (silent_last i.vs w quiet));
        created = low i.created;
        begun = i.begun;
        ended = i.ended ∙ ap not (sym (lasting i.created));
      });
      grows = still_none ws (ws ++ w ∷ []) (waits_due x ws i) (ap due is ∙ due_waits i.us i.number (i.vs ++ w ∷ []) i.first unsettled);
    }
      where
        is : ws ++ w ∷ [] ≡ i.us ++ asks i.number ∷ (i.vs ++ w ∷ [])
        is = ap (λ z. z ++ w ∷ []) i.is ∙ last_wait i.us i.number i.vs w

        unsettled : list_any (settles i.number) (i.vs ++ w ∷ []) ≡ false
        unsettled = off_last (settles i.number) i.vs w i.unsettled (ap (λ n. settles n w) (sym i.under) ∙ apart i.taking i.only i.unaccepted)

    seated : (told : List (List ℕ)) → Seat e k x told → k < x.next → Seat e k y told
    seated told (sits c is on begun open_yet) h = sits c (same ∙ is) on begun open_yet
    seated told (rose none off ended) h = rose (same ∙ none) (lasting h ∙ off) ended

    idle_goes : IsGoing e k x ws → Steps e k y ws w []
    idle_goes i = record {
      state = goes (record { us = i.us; number = i.number; vs = i.vs; id = i.id; zs = i.zs ++ w ∷ []; is = is; first = i.first; unsettled = i.unsettled; named = i.named; stays = stays; seat = subst (Seat e k y) (sym grown) (seated (due ws) i.seat i.created); created = low i.created });
      grows = grown ∙ sym (append-nil (due ws));
    }
      where
        is : ws ++ w ∷ [] ≡ i.us ++ asks i.number ∷ (i.vs ++ replies i.id true ∷ (i.zs ++ w ∷ []))
        is = ap (λ z. z ++ w ∷ []) i.is ∙ last_go i.us i.number i.vs (replies i.id true) i.zs w

        stays : list_any is_parts (i.zs ++ w ∷ []) ≡ false
        stays = off_last is_parts i.zs w i.stays together

        grown : due (ws ++ w ∷ []) ≡ due ws
        grown = ap due is ∙ (due_goes i.us i.number i.vs i.first i.unsettled i.id (i.zs ++ w ∷ []) i.named stays ∙ (ap (λ z. held_of held_most (opening (bodies i.us) ++ bodies i.vs) ++ z) (silent_last i.zs w quiet) ∙ sym (goes_due x ws i)))

    pub idle : State e k x ws → Steps e k y ws w []
    idle (fresh none nobody) = let off : list_any is_asks (ws ++ w ∷ []) ≡ false = off_last is_asks ws w none unasked in record { state = fresh off (same ∙ nobody); grows = still_none ws (ws ++ w ∷ []) (due_fresh ws none) (due_fresh (ws ++ w ∷ []) off) }
    idle (waits i) = idle_waits i
    idle (goes i) = idle_goes i
    idle (over h nobody) = record { state = over (over_more ws (w ∷ []) h) (same ∙ nobody); grows = h.same (w ∷ []) ∙ sym (append-nil (due ws)) }

  -- The editor leaves, or the start's program ends

  module _ (w : Word) (unasked : is_asks w ≡ false) (leaves : is_parts w ≡ true) (against : agrees w ≡ false) (settling_all : (n : ℕ) → settles n w ≡ true) where
    pub part : (x y : Created) (ws : List Word) → own e k y ≡ [] → State e k x ws → Steps e k y ws w []
    part x y ws gone (fresh none nobody) = let off : list_any is_asks (ws ++ w ∷ []) ≡ false = off_last is_asks ws w none unasked in record { state = fresh off gone; grows = still_none ws (ws ++ w ∷ []) (due_fresh ws none) (due_fresh (ws ++ w ∷ []) off) }
    part x y ws gone (waits i) = let r = refused i.us i.number i.vs i.first i.unsettled w (settling_all i.number) against in record {
      state = over (subst (λ z. Over (z ++ w ∷ [])) (sym i.is) r.0) gone;
      grows = still_none ws (ws ++ w ∷ []) (waits_due x ws i) (ap (λ z. due (z ++ w ∷ [])) i.is ∙ r.1);
    }
    part x y ws gone (goes i) = let r = parted i.us i.number i.vs i.first i.unsettled i.id i.zs i.named i.stays w leaves in record {
      state = over (subst (λ z. Over (z ++ w ∷ [])) (sym i.is) r.0) gone;
      grows = ap (λ z. due (z ++ w ∷ [])) i.is ∙ (r.1 ∙ (sym (goes_due x ws i) ∙ sym (append-nil (due ws))));
    }
    part x y ws gone (over h nobody) = record { state = over (over_more ws (w ∷ []) h) gone; grows = h.same (w ∷ []) ∙ sym (append-nil (due ws)) }

  -- The program ends before the token at an editor that accepted it

  abbrev pub broke : Word → Bool
  broke breaks = true
  broke other = false

  broke_alone : (w : Word) → breaks_off (w ∷ []) ≡ broke w
  broke_alone breaks = refl
  broke_alone (replies id agreed) = refl
  broke_alone (tells body) = refl
  broke_alone (asks n) = refl
  broke_alone parts = refl
  broke_alone rests = refl

  broke_parts : (w : Word) → is_parts w ≡ false → broke w ≡ false
  broke_parts breaks h = h
  broke_parts (replies id agreed) h = refl
  broke_parts (tells body) h = refl
  broke_parts (asks n) h = refl
  broke_parts parts h = refl
  broke_parts rests h = refl

  alone_uncut : (w : Word) → cut_asked (w ∷ []) ≡ false
  alone_uncut breaks = refl
  alone_uncut (replies id agreed) = refl
  alone_uncut (tells body) = refl
  alone_uncut (asks n) = refl
  alone_uncut parts = refl
  alone_uncut rests = refl

  settled_uncut : (w : Word) → cut_settled (w ∷ []) ≡ false
  settled_uncut breaks = refl
  settled_uncut (replies id true) = refl
  settled_uncut (replies id false) = refl
  settled_uncut (tells body) = refl
  settled_uncut (asks n) = refl
  settled_uncut parts = refl
  settled_uncut rests = refl

  and_off : (b : Bool) → (b && false) ≡ false
  and_off true = refl
  and_off false = refl

  -- what the fold says of a token that had begun
  begun_own : (x : Created) → has_begun e k x ≡ list_any (λ (c : Taking). c.begun && c.accepted) (own e k x)
  begun_own x = any_same (begun_at e k) (λ (c : Taking). (c.begun && c.accepted) && is_own e k c) (λ c. turned c.begun c.accepted (is_own e k c)) x.takings ∙ any_within (is_own e k) (λ (c : Taking). c.begun && c.accepted) x.takings
    where
      turned : (a b c : Bool) → (a && (b && c)) ≡ ((a && b) && c)
      turned true b c = refl
      turned false b c = refl

      any_same : (p q : Taking → Bool) → ((c : Taking) → p c ≡ q c) → (cs : List Taking) → list_any p cs ≡ list_any q cs
      any_same p q same [] = refl
      any_same p q same (c ∷ cs) = ap₂ (λ a b. a || b) (same c) (any_same p q same cs)

  none_begun : (x : Created) → own e k x ≡ [] → has_begun e k x ≡ false
  none_begun x none = begun_own x ∙ ap (list_any (λ (c : Taking). c.begun && c.accepted)) none

  seat_begun : (x : Created) (told : List (List ℕ)) → Seat e k x told → is_open_yet told ≡ has_begun e k x
  seat_begun x told (sits c only on begun open_yet) = ap₂ (λ a b. a && not b) (sym begun) open_yet
      ∙ (go c.begun ∙ sym (begun_own x ∙ (ap (list_any (λ (d : Taking). d.begun && d.accepted)) only ∙ ap (λ b. (c.begun && b) || false) on)))
    where
      go : (b : Bool) → (b && true) ≡ ((b && true) || false)
      go true = refl
      go false = refl
  seat_begun x told (rose none off ended) = ap (λ b. list_any begins told && not b) ended ∙ (and_off (list_any begins told) ∙ sym (none_begun x none))

  -- one word more
  uncut : (ws later : List Word) (w : Word) (x : Created) → is_cut later ≡ false → is_cut ws ≡ false → (broke w && has_begun e k x) ≡ false → is_closing later ≡ (is_closing ws || (broke w && has_begun e k x))
  uncut ws later w x then_off off none = ap (λ b. b && is_open_yet (due later)) then_off ∙ sym (ap₂ (λ a b. (a && is_open_yet (due ws)) || b) off none)

  unbroken : (w : Word) (x : Created) → has_begun e k x ≡ false → (broke w && has_begun e k x) ≡ false
  unbroken w x none = ap (λ b. broke w && b) none ∙ and_off (broke w)

  pub cuts : (x : Created) (ws : List Word) (w : Word) → State e k x ws → is_closing (ws ++ w ∷ []) ≡ (is_closing ws || (broke w && has_begun e k x))
  cuts x ws w (fresh none nobody) = uncut ws (ws ++ w ∷ []) w x (ap cut_asked (since_last is_asks ws w none) ∙ go (is_asks w)) (cut_fresh ws none) (unbroken w x (none_begun x nobody))
    where
      go : (b : Bool) → cut_asked (if b then w ∷ [] else []) ≡ false
      go true = alone_uncut w
      go false = refl
  cuts x ws w (waits i) = uncut ws (ws ++ w ∷ []) w x (ap (λ z. is_cut (z ++ w ∷ [])) i.is ∙ (ap is_cut (last_wait i.us i.number i.vs w) ∙ go (settles i.number w) refl)) (ap is_cut i.is ∙ cut_waits i.us i.number i.vs i.first i.unsettled)
      (unbroken w x (begun_own x ∙ (ap (list_any (λ (c : Taking). c.begun && c.accepted)) i.only ∙ (ap (λ b. ((i.taking).begun && b) || false) i.unaccepted ∙ ap (λ b. b || false) (and_off (i.taking).begun)))))
    where
      go : (b : Bool) → settles i.number w ≡ b → is_cut (i.us ++ asks i.number ∷ (i.vs ++ w ∷ [])) ≡ false
      go true at = cut_settles i.us i.number i.vs i.first i.unsettled w [] at ∙ settled_uncut w
      go false off = cut_waits i.us i.number (i.vs ++ w ∷ []) i.first (off_last (settles i.number) i.vs w i.unsettled off)
  cuts x ws w (goes i) = go (is_parts w) refl
    where
      before : is_cut ws ≡ false
      before = ap is_cut i.is ∙ cut_goes i.us i.number i.vs i.first i.unsettled i.id i.zs i.named i.stays

      go : (b : Bool) → is_parts w ≡ b → is_closing (ws ++ w ∷ []) ≡ (is_closing ws || (broke w && has_begun e k x))
      go true at = ap₂ (λ a z. a && is_open_yet z) (ap (λ z. is_cut (z ++ w ∷ [])) i.is ∙ (cut_once i.us i.number i.vs i.first i.unsettled i.id i.zs i.named i.stays w at ∙ broke_alone w))
          (ap (λ z. due (z ++ w ∷ [])) i.is ∙ ((parted i.us i.number i.vs i.first i.unsettled i.id i.zs i.named i.stays w at).1 ∙ sym (goes_due x ws i)))
          ∙ (ap (λ b. broke w && b) (seat_begun x (due ws) i.seat) ∙ ap (λ a. (a && is_open_yet (due ws)) || (broke w && has_begun e k x)) (sym before))
      go false off = uncut ws (ws ++ w ∷ []) w x (ap (λ z. is_cut (z ++ w ∷ [])) i.is ∙ (ap is_cut (last_go i.us i.number i.vs (replies i.id true) i.zs w) ∙ cut_goes i.us i.number i.vs i.first i.unsettled i.id (i.zs ++ w ∷ []) i.named (off_last is_parts i.zs w i.stays off))) before
          (ap (λ b. b && has_begun e k x) (broke_parts w off))
  cuts x ws w (over h nobody) = ap₂ (λ a z. a && is_open_yet z) (h.cut (w ∷ [])) (h.same (w ∷ [])) ∙ (or_no (is_closing ws) ∙ ap (λ b. is_closing ws || b) (sym (unbroken w x (none_begun x nobody))))
    where
      or_no : (b : Bool) → b ≡ (b || false)
      or_no true = refl
      or_no false = refl

  -- an editor that was told so takes it no more
  pub cut_none : (x : Created) (ws : List Word) → is_cut ws ≡ true → State e k x ws → own e k x ≡ []
  cut_none x ws cut (fresh none nobody) = nobody
  cut_none x ws cut (waits i) = never (sym cut ∙ (ap is_cut i.is ∙ cut_waits i.us i.number i.vs i.first i.unsettled))
  cut_none x ws cut (goes i) = never (sym cut ∙ (ap is_cut i.is ∙ cut_goes i.us i.number i.vs i.first i.unsettled i.id i.zs i.named i.stays))
  cut_none x ws cut (over h nobody) = nobody

  -- It is asked, for the first time

  held_one : (xs : List (List ℕ)) → held_of held_most (take 1 xs ++ []) ≡ take 1 xs
  held_one [] = refl
  held_one (x ∷ xs) = refl

  -- the first body that begins a token doesn't end it
  kind_apart : (o : Option (List ℕ)) → option_map_or (bytes_eq (codes "begin")) o false ≡ true → option_map_or (bytes_eq (codes "end")) o false ≡ false
  kind_apart None h = refl
  kind_apart (Some cs) h = sym (ap (bytes_eq (codes "end")) ((bytes_eq-Decides (codes "begin") cs).0 h))

  apart_message : (m : Message) → is_beginning m ≡ true → is_ending m ≡ false
  apart_message (notification method params) h = kind_apart (string_of (named_of (codes "kind") (named_of (codes "value") params))) h
  apart_message (request id method params) h = refl
  apart_message (result id r) h = refl
  apart_message (error id r) h = refl
  apart_message not_json h = refl
  apart_message not_message h = refl

  passing : (test : List ℕ → Bool) (xs : List (List ℕ)) → AllByRecursion (λ z. test z ≡ true) (filter test xs)
  passing test [] = tt
  passing test (z ∷ zs) = go (test z) refl (passing test zs)
    where
      go : (b : Bool) → test z ≡ b → AllByRecursion (λ y. test y ≡ true) (filter test zs) → AllByRecursion (λ y. test y ≡ true) (cond b (z ∷ filter test zs) (filter test zs))
      go true at rest = (at, rest)
      go false off rest = rest

  first_of : (body : List ℕ) (ys : List (List ℕ)) → AllByRecursion (λ z. begins z ≡ true) ys → body ∷ [] ≡ take 1 ys → begins body ≡ true
  first_of body [] all h = absurd (cc)
  first_of body (y ∷ ys) all h = ap begins (let same : body ≡ y = cc in same) ∙ all.0

  begun_first : (o : Option (List ℕ)) (ys : List (List ℕ)) → AllByRecursion (λ z. begins z ≡ true) ys → held_first o ≡ take 1 ys → is_some o ≡ list_any begins (held_first o)
  begun_first None ys all h = refl
  begun_first (Some body) ys all h = sym (ap (λ b. b || false) (first_of body ys all h))

  unended_first : (o : Option (List ℕ)) (ys : List (List ℕ)) → AllByRecursion (λ z. begins z ≡ true) ys → held_first o ≡ take 1 ys → list_any ends (held_first o) ≡ false
  unended_first None ys all h = refl
  unended_first (Some body) ys all h = ap (λ b. b || false) (apart_message (message_of body) (first_of body ys all h))

  pub ask : (x y : Created) (ws : List Word) (n : ℕ) (t : Token) → list_any is_asks ws ≡ false → own e k y ≡ own e k x ++ asked e n t ∷ [] → held_first t.begin ≡ opening (bodies ws) → k < y.next → lives k y ≡ true → State e k x ws → Steps e k y ws (asks n) []
  ask x y ws n t none same first low living s = record {
    state = waits (record {
      us = ws;
      number = n;
      vs = [];
      taking = asked e n t;
      is = refl;
      first = none;
      unsettled = refl;
      only = same ∙ ap (λ z. z ++ asked e n t ∷ []) (nobody s);
      unaccepted = refl;
      under = refl;
      held = first ∙ sym (held_one (filter begins (bodies ws)));
      created = low;
      begun = begun_first t.begin (filter begins (bodies ws)) (passing begins (bodies ws)) first;
      ended = unended_first t.begin (filter begins (bodies ws)) (passing begins (bodies ws)) first ∙ ap not (sym living);
    });
    grows = still_none ws (ws ++ asks n ∷ []) (due_fresh ws none) (due_waits ws n [] none refl);
  }
    where
      nobody : State e k x ws → own e k x ≡ []
      nobody (fresh h is) = is
      nobody (waits i) = never (sym (ap (list_any is_asks) i.is ∙ asked_there i.us i.number i.vs i.first i.unsettled i.vs) ∙ none)
      nobody (goes i) = never (sym (ap (list_any is_asks) i.is ∙ asked_there i.us i.number i.vs i.first i.unsettled (i.vs ++ replies i.id true ∷ i.zs)) ∙ none)
      nobody (over h is) = is

  -- It responds

  abbrev pub handed : Message → List Taking → List (List ℕ)
  handed m cs = if accepts m then flat_map (λ (c : Taking). if is_answered e (answered_id m) c then c.held else []) cs else []

  abbrev pub settling : Message → Created → Taking → List Taking
  settling m x c = if is_answered e (answered_id m) c then settled m x c else c ∷ []

  module _ (x y : Created) (ws : List Word) (m : Message) (same : own e k y ≡ flat_map (settling m x) (own e k x)) (lives_on : lives k y ≡ lives k x) (next : y.next ≡ x.next) where
    abbrev word : Word
    word = replies (answered_id m) (accepts m)

    abbrev Replied : Type 0
    Replied = Steps e k y ws word (handed m (own e k x))

    -- it answers nothing of this
    aside : own e k y ≡ own e k x → handed m (own e k x) ≡ [] → ((c : Taking) → own e k x ≡ c ∷ [] → c.accepted ≡ false → settles c.number word ≡ false) → State e k x ws → Replied
    aside still none apart s = subst (λ z. Steps e k y ws word z) (sym none)
        (idle x y ws word refl refl refl apart still (λ low. lives_on) (omega (arith, next)) s)

    nobody_handed : own e k x ≡ [] → handed m (own e k x) ≡ []
    nobody_handed is = ap (handed m) is ∙ go (accepts m)
      where
        go : (b : Bool) → ◌≡◌ {A = List (List ℕ)} (if b then [] else []) []
        go true = refl
        go false = refl

    nobody_there : own e k x ≡ [] → State e k x ws → Replied
    nobody_there is s = aside (same ∙ (ap (flat_map (settling m x)) is ∙ sym is)) (nobody_handed is) (λ c only off. absurd (empty c (sym is ∙ only))) s

    module _ (c : Taking) (only : own e k x ≡ c ∷ []) where
      -- it isn't the answer to this
      unanswered : is_answered e (answered_id m) c ≡ false → ((d : Taking) → own e k x ≡ d ∷ [] → d.accepted ≡ false → settles d.number word ≡ false) → State e k x ws → Replied
      unanswered against apart s = aside
          (same ∙ (ap (flat_map (settling m x)) only ∙ (ap (λ b. (if b then settled m x c else c ∷ []) ++ []) against ∙ sym only)))
          (ap (handed m) only ∙ (ap (λ b. if accepts m then (if b then c.held else []) ++ [] else []) against ∙ go (accepts m)))
          apart s
        where
          go : (b : Bool) → ◌≡◌ {A = List (List ℕ)} (if b then [] else []) []
          go true = refl
          go false = refl

      one_only : (d : Taking) → own e k x ≡ d ∷ [] → c ≡ d
      one_only d is = let both : c ∷ [] ≡ d ∷ [] = sym only ∙ is in cc

    replied_waits : IsWaiting e k x ws → Replied
    replied_waits i = go (names (answered_id m) i.number) refl
      where
        c : Taking
        c = i.taking

        test : (is_at e c ≡ true) × (nat_eq c.token k ≡ true)
        test = and_parts (is_at e c) (nat_eq c.token k) (head_passes (is_own e k) x.takings c [] i.only)

        answered_is : is_answered e (answered_id m) c ≡ names (answered_id m) i.number
        answered_is = ap (λ b. not b && (nat_eq c.editor e && names (answered_id m) c.number)) i.unaccepted ∙ (ap (λ b. b && names (answered_id m) c.number) test.0 ∙ ap (names (answered_id m)) i.under)

        apart : names (answered_id m) i.number ≡ false → (d : Taking) → own e k x ≡ d ∷ [] → d.accepted ≡ false → settles d.number word ≡ false
        apart against d is off = let eq : c ≡ d = one_only c i.only d is in ap (names (answered_id m)) (ap (λ (z : Taking). z.number) (sym eq) ∙ i.under) ∙ against

        own_then : names (answered_id m) i.number ≡ true → (l : Bool) → (accepts m && lives c.token x) ≡ l → own e k y ≡ (if l then record c { accepted = true; held = [] } ∷ [] else [])
        own_then hit l lasts = same ∙ (ap (flat_map (settling m x)) i.only ∙ (ap (λ b. (if b then settled m x c else c ∷ []) ++ []) (answered_is ∙ hit) ∙ (append-nil (settled m x c) ∙ ap (λ b. if b then record c { accepted = true; held = [] } ∷ [] else []) lasts)))

        handed_is : names (answered_id m) i.number ≡ true → accepts m ≡ true → handed m (own e k x) ≡ c.held
        handed_is hit ok = ap (handed m) i.only ∙ (ap (λ b. if accepts m then (if b then c.held else []) ++ [] else []) (answered_is ∙ hit) ∙ (ap (λ b. if b then c.held ++ [] else []) ok ∙ append-nil c.held))

        agreed : names (answered_id m) i.number ≡ true → accepts m ≡ true → Seat e k y c.held → Replied
        agreed hit ok seat = record {
          state = goes (record { us = i.us; number = i.number; vs = i.vs; id = answered_id m; zs = []; is = is; first = i.first; unsettled = i.unsettled; named = hit; stays = refl; seat = subst (Seat e k y) (sym grown) seat; created = let low : k < x.next = i.created in omega (arith, low, next) });
          grows = grown ∙ sym (ap₂ (λ u v. u ++ v) (waits_due x ws i) (handed_is hit ok));
        }
          where
            is : ws ++ word ∷ [] ≡ i.us ++ asks i.number ∷ (i.vs ++ replies (answered_id m) true ∷ [])
            is = ap (λ z. z ++ word ∷ []) i.is ∙ (last_wait i.us i.number i.vs word ∙ ap (λ b. i.us ++ asks i.number ∷ (i.vs ++ replies (answered_id m) b ∷ [])) ok)

            grown : due (ws ++ word ∷ []) ≡ c.held
            grown = ap due is ∙ (due_goes i.us i.number i.vs i.first i.unsettled (answered_id m) [] hit refl ∙ (append-nil (held_of held_most (opening (bodies i.us) ++ bodies i.vs)) ∙ sym i.held))

        by_answer : names (answered_id m) i.number ≡ true → (a : Bool) → accepts m ≡ a → (l : Bool) → lives c.token x ≡ l → Replied
        by_answer hit true ok true living = agreed hit ok (sits (record c { accepted = true; held = [] }) (own_then hit true (ap₂ (λ a b. a && b) ok living)) refl i.begun (i.ended ∙ ap not (ap (λ j. lives j x) (sym (number_same c.token k test.1)) ∙ living)))
        by_answer hit true ok false ended = agreed hit ok (rose (own_then hit false (ap₂ (λ a b. a && b) ok ended)) (lives_on ∙ (ap (λ j. lives j x) (sym (number_same c.token k test.1)) ∙ ended)) (i.ended ∙ ap not (ap (λ j. lives j x) (sym (number_same c.token k test.1)) ∙ ended)))
        by_answer hit false against l living = let r = refused i.us i.number i.vs i.first i.unsettled word hit against in record {
          state = over (subst (λ z. Over (z ++ word ∷ [])) (sym i.is) r.0) (own_then hit false (ap (λ b. b && lives c.token x) against));
          grows = still_none ws (ws ++ word ∷ []) (waits_due x ws i) (ap (λ z. due (z ++ word ∷ [])) i.is ∙ r.1) ∙ ap (λ z. due ws ++ z) (sym (ap (λ b. if b then flat_map (λ (d : Taking). if is_answered e (answered_id m) d then d.held else []) (own e k x) else []) against));
        }

        go : (b : Bool) → names (answered_id m) i.number ≡ b → Replied
        go true hit = by_answer hit (accepts m) refl (lives c.token x) refl
        go false against = unanswered c i.only (answered_is ∙ against) (apart against) (waits i)

    replied_goes : (i : IsGoing e k x ws) → Seat e k x (due ws) → Replied
    replied_goes i (sits c only on begun open_yet) = unanswered c only (ap (λ b. not b && (nat_eq c.editor e && names (answered_id m) c.number)) on) (λ d is off. never (sym on ∙ (ap (λ (z : Taking). z.accepted) (one_only c only d is) ∙ off))) (goes i)
    replied_goes i (rose none off ended) = nobody_there none (goes i)

    pub reply : State e k x ws → Replied
    reply (fresh none is) = nobody_there is (fresh none is)
    reply (waits i) = replied_waits i
    reply (goes i) = replied_goes i i.seat
    reply (over h is) = nobody_there is (over h is)

  -- The start tells of the token

  abbrev pub gained : List ℕ → List Taking → List (List ℕ)
  gained body cs = if list_any (λ (c : Taking). c.accepted) cs then body ∷ [] else []

  module _ (x y : Created) (ws : List Word) (body : List ℕ) (params : Option Json) (same : own e k y ≡ map (told k body params) (filter (λ c. not (is_over k params c)) (own e k x)))
      (alive : lives k x ≡ true) (gone : is_end params ≡ true → lives k y ≡ false) (kept_on : is_end params ≡ false → lives k y ≡ true) (next : y.next ≡ x.next) (ending : ends body ≡ is_end params) (beginning : begins body ≡ is_begin params) where
    abbrev Told : Type 0
    Told = Steps e k y ws (tells body) (gained body (own e k x))

    none_then : own e k x ≡ [] → own e k y ≡ []
    none_then is = same ∙ ap (λ z. map (told k body params) (filter (λ c. not (is_over k params c)) z)) is

    none_gained : own e k x ≡ [] → due ws ++ [] ≡ due ws ++ gained body (own e k x)
    none_gained is = ap (λ z. due ws ++ gained body z) (sym is)

    and_no : (b : Bool) → (b && false) ≡ false
    and_no true = refl
    and_no false = refl

    and_yes : (b : Bool) → (b && true) ≡ b
    and_yes true = refl
    and_yes false = refl

    or_nil : (b : Bool) → (b || false) ≡ b
    or_nil true = refl
    or_nil false = refl

    begun_more : (b : Bool) (xs : List (List ℕ)) → b ≡ list_any begins xs → (b || is_begin params) ≡ list_any begins (xs ++ body ∷ [])
    begun_more b xs is = sym (any_join begins xs (body ∷ []) ∙ ap₂ (λ u v. u || v) (sym is) (or_nil (begins body) ∙ beginning))

    ended_more : (xs : List (List ℕ)) → list_any ends xs ≡ false → list_any ends (xs ++ body ∷ []) ≡ is_end params
    ended_more xs none = any_join ends xs (body ∷ []) ∙ ap₂ (λ u v. u || v) none (or_nil (ends body) ∙ ending)

    lives_then : (b : Bool) → is_end params ≡ b → b ≡ not (lives k y)
    lives_then true end = sym (ap not (gone end))
    lives_then false goes_on = sym (ap not (kept_on goes_on))

    or_last : (a b : Bool) → (a || b) ≡ false → b ≡ false
    or_last true b h = never h
    or_last false b h = h

    told_waits : IsWaiting e k x ws → Told
    told_waits i = record {
      state = go (may_hold params c.held) refl held (same ∙ (ap (λ z. map (told k body params) (filter (λ d. not (is_over k params d)) z)) i.only ∙ (ap (λ b. map (told k body params) (cond (not b) (c ∷ []) [])) not_over ∙ ap (λ z. z ∷ []) told_is)));
      grows = still_none ws (ws ++ tells body ∷ []) (waits_due x ws i) (ap due is ∙ due_waits i.us i.number (i.vs ++ tells body ∷ []) i.first unsettled)
          ∙ ap (λ z. due ws ++ z) (sym (ap (gained body) i.only ∙ ap (λ b. if b || false then body ∷ [] else []) i.unaccepted));
    }
      where
        c : Taking
        c = i.taking

        first : List (List ℕ)
        first = opening (bodies i.us)

        test : (is_at e c ≡ true) × (nat_eq c.token k ≡ true)
        test = and_parts (is_at e c) (nat_eq c.token k) (head_passes (is_own e k) x.takings c [] i.only)

        is : ws ++ tells body ∷ [] ≡ i.us ++ asks i.number ∷ (i.vs ++ tells body ∷ [])
        is = ap (λ z. z ++ tells body ∷ []) i.is ∙ last_wait i.us i.number i.vs (tells body)

        unsettled : list_any (settles i.number) (i.vs ++ tells body ∷ []) ≡ false
        unsettled = off_last (settles i.number) i.vs (tells body) i.unsettled refl

        not_over : is_over k params c ≡ false
        not_over = ap (λ b. is_end params && (b && nat_eq c.token k)) i.unaccepted ∙ and_no (is_end params)

        told_is : told k body params c ≡ (if may_hold params c.held then record c { held = c.held ++ body ∷ []; begun = c.begun || is_begin params } else c)
        told_is = ap (λ b. if b then (if c.accepted then record c { begun = c.begun || is_begin params } else (if may_hold params c.held then record c { held = c.held ++ body ∷ []; begun = c.begun || is_begin params } else c)) else c) test.1
            ∙ ap (λ b. if b then record c { begun = c.begun || is_begin params } else (if may_hold params c.held then record c { held = c.held ++ body ∷ []; begun = c.begun || is_begin params } else c)) i.unaccepted

        held : (if may_hold params c.held then c.held ++ body ∷ [] else c.held) ≡ held_of held_most (first ++ bodies (i.vs ++ tells body ∷ []))
        held = ap (λ z. if nat_lt (length z) held_most || is_end params then z ++ body ∷ [] else z) i.held
            ∙ (ap (λ b. if nat_lt (length (held_of held_most (first ++ bodies i.vs))) held_most || b then held_of held_most (first ++ bodies i.vs) ++ body ∷ [] else held_of held_most (first ++ bodies i.vs)) (sym ending)
            ∙ (sym (held_step held_most (first ++ bodies i.vs) body)
            ∙ (ap (held_of held_most) (append_assoc first (bodies i.vs) (body ∷ [])) ∙ ap (λ z. held_of held_most (first ++ z)) (sym (bodies_join i.vs (tells body ∷ []))))))

        low : k < y.next
        low = let h : k < x.next = i.created in omega (arith, h, next)

        unended : list_any ends c.held ≡ false
        unended = i.ended ∙ ap not alive

        go : (d : Bool) → may_hold params c.held ≡ d → (if d then c.held ++ body ∷ [] else c.held) ≡ held_of held_most (first ++ bodies (i.vs ++ tells body ∷ [])) → own e k y ≡ (if d then record c { held = c.held ++ body ∷ []; begun = c.begun || is_begin params } else c) ∷ [] → State e k y (ws ++ tells body ∷ [])
        go true may h only = waits (record { us = i.us; number = i.number; vs = i.vs ++ tells body ∷ []; taking = record c { held = c.held ++ body ∷ []; begun = c.begun || is_begin params }; is = is; first = i.first; unsettled = unsettled; only = only; unaccepted = i.unaccepted; under = i.under; held = h; created = low; begun = begun_more c.begun c.held i.begun; ended = ended_more c.held unended ∙ lives_then (is_end params) refl })
        go false may h only = waits (record { us = i.us; number = i.number; vs = i.vs ++ tells body ∷ []; taking = c; is = is; first = i.first; unsettled = unsettled; only = only; unaccepted = i.unaccepted; under = i.under; held = h; created = low; begun = i.begun; ended = unended ∙ lives_then false (or_last (nat_lt (length c.held) held_most) (is_end params) may) })

    told_goes : (i : IsGoing e k x ws) → Seat e k x (due ws) → Told
    told_goes i (rose none off ended) = never (sym alive ∙ off)
    told_goes i (sits c only on begun open_yet) = record {
      state = goes (record { us = i.us; number = i.number; vs = i.vs; id = i.id; zs = i.zs ++ tells body ∷ []; is = is; first = i.first; unsettled = i.unsettled; named = i.named; stays = stays; seat = subst (Seat e k y) (sym grown) (seated (is_end params) refl); created = let h : k < x.next = i.created in omega (arith, h, next) });
      grows = grown ∙ ap (λ z. due ws ++ z) (sym (ap (gained body) only ∙ ap (λ b. if b || false then body ∷ [] else []) on));
    }
      where
        handed_first : List (List ℕ)
        handed_first = held_of held_most (opening (bodies i.us) ++ bodies i.vs)

        test : (is_at e c ≡ true) × (nat_eq c.token k ≡ true)
        test = and_parts (is_at e c) (nat_eq c.token k) (head_passes (is_own e k) x.takings c [] only)

        is : ws ++ tells body ∷ [] ≡ i.us ++ asks i.number ∷ (i.vs ++ replies i.id true ∷ (i.zs ++ tells body ∷ []))
        is = ap (λ z. z ++ tells body ∷ []) i.is ∙ last_go i.us i.number i.vs (replies i.id true) i.zs (tells body)

        stays : list_any is_parts (i.zs ++ tells body ∷ []) ≡ false
        stays = off_last is_parts i.zs (tells body) i.stays refl

        grown : due (ws ++ tells body ∷ []) ≡ due ws ++ body ∷ []
        grown = ap due is ∙ (due_goes i.us i.number i.vs i.first i.unsettled i.id (i.zs ++ tells body ∷ []) i.named stays ∙ (ap (λ z. handed_first ++ z) (bodies_join i.zs (tells body ∷ []))
            ∙ (sym (append_assoc handed_first (bodies i.zs) (body ∷ [])) ∙ ap (λ z. z ++ body ∷ []) (sym (goes_due x ws i)))))

        over_is : is_over k params c ≡ is_end params
        over_is = ap₂ (λ a b. is_end params && (a && b)) on test.1 ∙ and_yes (is_end params)

        own_then : (b : Bool) → is_end params ≡ b → own e k y ≡ map (told k body params) (cond (not b) (c ∷ []) [])
        own_then b end = same ∙ (ap (λ z. map (told k body params) (filter (λ d. not (is_over k params d)) z)) only ∙ ap (λ z. map (told k body params) (cond (not z) (c ∷ []) [])) (over_is ∙ end))

        told_is : told k body params c ≡ record c { begun = c.begun || is_begin params }
        told_is = ap (λ b. if b then (if c.accepted then record c { begun = c.begun || is_begin params } else (if may_hold params c.held then record c { held = c.held ++ body ∷ []; begun = c.begun || is_begin params } else c)) else c) test.1
            ∙ ap (λ b. if b then record c { begun = c.begun || is_begin params } else (if may_hold params c.held then record c { held = c.held ++ body ∷ []; begun = c.begun || is_begin params } else c)) on

        seated : (b : Bool) → is_end params ≡ b → Seat e k y (due ws ++ body ∷ [])
        seated true end = rose (own_then true end) (gone end) (ended_more (due ws) open_yet ∙ end)
        seated false goes_on = sits (told k body params c) (own_then false goes_on) (ap (λ (z : Taking). z.accepted) told_is ∙ on) (ap (λ (z : Taking). z.begun) told_is ∙ begun_more c.begun (due ws) begun) (ended_more (due ws) open_yet ∙ goes_on)

    pub tell : State e k x ws → Told
    tell (fresh none is) = let off : list_any is_asks (ws ++ tells body ∷ []) ≡ false = off_last is_asks ws (tells body) none refl in record { state = fresh off (none_then is); grows = still_none ws (ws ++ tells body ∷ []) (due_fresh ws none) (due_fresh (ws ++ tells body ∷ []) off) ∙ none_gained is }
    tell (waits i) = told_waits i
    tell (goes i) = told_goes i i.seat
    tell (over h is) = record { state = over (over_more ws (tells body ∷ []) h) (none_then is); grows = h.same (tells body ∷ []) ∙ (sym (append-nil (due ws)) ∙ none_gained is) }
