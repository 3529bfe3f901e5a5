-- An editor that is at rest says something of a document: its start is told of no other text than the editor's, and has all of them behind the entry.
use Rattle.std.proofs.Common.{◌≡◌, ℕ, ◌+◌, ◌<◌, ◌^◌, Bool, true, false, ◌&&◌, ◌||◌, List, [], ◌∷◌, ◌++◌, map, codes, decimal, ltb-true, bytes_eq, if◌then◌else◌, Option, None, Some, refl, sym, ◌∙◌, ap, ap₂, subst, append_assoc, append-nil, arith}
use Rattle.std.specs.Prelude.{find, nat_lt}
use Rattle.std.specs.List.{AllByRecursion}
use Rattle.std.specs.Option.{option_map_or}
use Rattle.std.proofs.lemmas.Slice.Eq.{bytes_eq-Decides}
use Rattle.json_text.specs.Json.{Json}
use Rattle.lsp_method.specs.Class.{class_of}
use Rattle.lsp_method.specs.declared.variants.Origin.TheVariants.{Editor}
use Rattle.mux_history.specs.declared.cause.Cause.TheVariants.{FromEditor}
use Rattle.mux_history.specs.declared.out.Out.{Out}
use Rattle.mux_history.specs.declared.out.Out.TheVariants.{ToEditor, ToServer, Spawn, CloseEditor, EndServer}
use Rattle.rpc_message.specs.Message.{notification, message_of}
use Rattle.document_model.specs.Helds.{HeldText}
use Rattle.document_model.specs.Opens.{Open, drop_open, holder_beside, is_open_at, put_open}
use Rattle.document_model.specs.Orderly.{AllSpelt, IsSpelt}
use Rattle.document_model.specs.Rows.{Agrees, agrees, sent_change, sent_close, sent_open, switched, versioned}
use Rattle.document_model.specs.Sayings.{Saying, changes, closes, misshapen, opens, saying_by, saying_of, speaks}
use Rattle.document_model.specs.Sayings as saying
use Rattle.document_model.specs.Texts.{Texts, changed, found, opened, text_after, texts_behind, touched}
use Rattle.document_model.proofs.Holders.{both_true, bytes_same}
use Rattle.document_model.proofs.Orders.{ChangedTo, changed_found}
use Rattle.document_model.proofs.Spelt.{closes_spelt, find_spelt, latest_spelt, texts_spelt}
use Rattle.document_model.proofs.Versioned.{versioned_says}
use Rattle.event_model.specs.Event.{Event, behind, heard, requests, said, with_cause}
use Rattle.event_model.specs.Phases.{desk_of, is_served}
use Rattle.event_model.specs.Row.{after, choose, nothing, on, outs}
use Rattle.event_model.specs.Settings.{Settings}
use Rattle.event_model.specs.Spawns.{start_of}
use Rattle.event_model.specs.Stages.{is_ready, life_of}
use Rattle.event_model.proofs.Frames.{never}
use Rattle.mux_model.specs.Documents as starts
use Rattle.mux_model.specs.Documents.{Sent, held_at}
use Rattle.mux_model.specs.Methods.{goes_on}
use Rattle.mux_model.specs.Rows.{to_start}
use Rattle.mux_model.proofs.DocumentFolds.{outs_to_start}
use Rattle.mux_facts.specs.Ranges.{InRange}
use Rattle.mux_facts.proofs.DocumentRow.{beside_is}
use Rattle.mux_facts.proofs.Keeps.{behind_both}
use Rattle.mux_facts.proofs.Reasons.{Because, Reasons, by_choose, by_look, by_nothing, by_on, by_send}
use Rattle.mux_facts.proofs.Tellings.{sent_more}
use Rattle.mux_facts.proofs.Words.{number_same}
use Rattle.group_words.specs.Houses.{home_of, is_home}
use Rattle.group_rows.specs.AskRows.{debts_row}
use Rattle.group_rows.specs.Debts.{debts_next, ends_debts, pays_debts}
use Rattle.group_rows.specs.ListRows.{show_opened}
use Rattle.group_rows.specs.Rows.{cancel_row, closed_bodies, closing_row, changed_bodies, document_at, document_bodies, document_row, from_editor, notice_row, outs_of, served_row}
use Rattle.group_rows.specs.CreatedRows.{work_row}
use Rattle.group_rows.specs.Texts.{encoding_of, texts_heard, texts_of}
use Rattle.group_rows.proofs.DebtsKept.{debts_more}
use Rattle.group_rows.proofs.Frames.{texts_more}
use Rattle.group_rows.proofs.Going.{going_silent}
use Rattle.group_facts.specs.OwnTexts.{HasOwn}
use Rattle.group_facts.specs.Why.{IsQuestion}
use Rattle.group_facts.proofs.Facts.{Facts}
use Rattle.group_facts.proofs.Paying.{debts_questions}
use Rattle.group_sessions.specs.Refreshes.{AllOnDocuments, OnDocument}
use Rattle.rest_laws.specs.Encodings.{CountsBy}
use Rattle.rest_laws.proofs.Codes.{given_more}
use Rattle.rest_laws.proofs.OwnTexts.{Near, Own, Told, drop_other, found_dropped, found_put, put_other, told_changed, told_closed, told_differing, told_none, told_opened, told_switched}
use Rattle.rest_laws.proofs.Rested.{Rested, none_either, rested_more, seat_more, texts_at}

all_both : (settings : Settings) (s e : ℕ) (events : List Event) (xs ys : List Out) → AllOnDocuments settings s e events xs → AllOnDocuments settings s e (behind events xs) ys → AllOnDocuments settings s e events (xs ++ ys)
all_both settings s e events [] ys f h = subst (λ z. AllOnDocuments settings s e z ys) (append-nil events) h
all_both settings s e events (x ∷ xs) ys f h = (f.0, all_both settings s e (events ++ said x ∷ []) xs ys f.1 (subst (λ z. AllOnDocuments settings s e z ys) (sym (append_assoc events (said x ∷ []) (map said xs))) h))

-- What goes to editors leaves all of it

abbrev GoesBack : Out → Type 0
GoesBack (ToEditor n body) = Unit {0}
GoesBack other = ⊥

module _ (settings : Settings) (s e g : ℕ) where
  one_back : (events : List Event) (out : Out) → GoesBack out → OnDocument settings s e events out × (Rested settings s e g events → Rested settings s e g (events ++ said out ∷ []))
  one_back events (ToEditor n body) k = (tt, rested_more settings s e g events (said (ToEditor n body)) tt)
  one_back events (ToServer n body) k = absurd k
  one_back events (Spawn n i) k = absurd k
  one_back events (CloseEditor n) k = absurd k
  one_back events (EndServer n) k = absurd k

  all_back : (events : List Event) (xs : List Out) → AllByRecursion GoesBack xs → Rested settings s e g events → AllOnDocuments settings s e events xs × Rested settings s e g (behind events xs)
  all_back events [] all h = (tt, subst (Rested settings s e g) (sym (append-nil events)) h)
  all_back events (x ∷ xs) all h =
      let one = one_back events x all.0 in
      let rest = all_back (events ++ said x ∷ []) xs all.1 (one.1 h) in
      ((one.0, rest.0), subst (Rested settings s e g) (append_assoc events (said x ∷ []) (map said xs)) rest.1)

back_because : (events : List Event) (xs : List Out) → Reasons (λ places out. GoesBack out) events xs → AllByRecursion GoesBack xs
back_because events [] h = tt
back_because events (x ∷ xs) h = (h.0, back_because (events ++ said x ∷ []) xs h.1)

back_question : (e : ℕ) (xs : List Out) → AllByRecursion (IsQuestion e) xs → AllByRecursion GoesBack xs
back_question e [] all = tt
back_question e (ToEditor n body ∷ xs) all = (tt, back_question e xs all.1)
back_question e (ToServer n body ∷ xs) all = absurd all.0
back_question e (Spawn n i ∷ xs) all = absurd all.0
back_question e (CloseEditor n ∷ xs) all = absurd all.0
back_question e (EndServer n ∷ xs) all = absurd all.0

-- E12: the list that it is shown
shows_back : (settings : Settings) (s e : ℕ) (x : Saying) (events : List Event) → Because (λ places out. GoesBack out) events (show_opened settings s e x)
shows_back settings s e (opens u l v t) events = by_look (by_on (λ none. by_nothing) (λ list found. by_choose (λ empty. by_nothing) (λ full. by_choose (λ fit. by_send tt) (λ no. by_nothing))))
shows_back settings s e (changes u v cs) events = by_nothing
shows_back settings s e (closes u) events = by_nothing
shows_back settings s e misshapen events = by_nothing
shows_back settings s e saying.nothing events = by_nothing

-- the row of its message is that of the document
spoken_row : (settings : Settings) (before : List Event) (e : ℕ) (body method : List ℕ) (params : Option Json) → speaks (saying_by method params) ≡ true → (events : List Event)
    → outs (served_row settings before e body (notification method params)) events ≡ outs (document_row settings before e body (saying_by method params)) events
spoken_row settings before e body method params spoken events = go (bytes_eq (codes "exit") method) refl (goes_on (class_of method Editor true)) refl (bytes_eq (codes "$/cancelRequest") method) refl (bytes_eq (codes "window/workDoneProgress/cancel") method) refl
  where
    named : (name : List ℕ) → speaks (saying_by name params) ≡ false → bytes_eq name method ≡ true → ⊥
    named name none at = never (sym spoken ∙ (ap (λ z. speaks (saying_by z params)) (sym ((bytes_eq-Decides name method).0 at)) ∙ none))

    go : (a : Bool) → bytes_eq (codes "exit") method ≡ a → (b : Bool) → goes_on (class_of method Editor true) ≡ b → (c : Bool) → bytes_eq (codes "$/cancelRequest") method ≡ c → (d : Bool) → bytes_eq (codes "window/workDoneProgress/cancel") method ≡ d
        → outs (choose a (closing_row settings before e) (choose b (notice_row settings before e body) (choose c (cancel_row settings before e body params) (choose d (work_row settings before e body params) (document_row settings before e body (saying_by method params)))))) events
        ≡ outs (document_row settings before e body (saying_by method params)) events
    go true at b p c q d r = absurd (named (codes "exit") refl at)
    go false off true going c q d r = never (sym spoken ∙ ap speaks (going_silent method going params))
    go false off false p true at d r = absurd (named (codes "$/cancelRequest") refl at)
    go false off false p false q true at = absurd (named (codes "window/workDoneProgress/cancel") refl at)
    go false off false p false q false r = refl

home_is : (g : ℕ) (o : Option ℕ) → is_home g o ≡ true → o ≡ Some g
home_is g (Some h) is = ap (λ k. Some k) (number_same h g is)
home_is g None is = never (sym is)

module _ (settings : Settings) (range : InRange settings) (before : List Event) (facts : Facts settings before) (s e g : ℕ) (h : Rested settings s e g before) (ready : is_ready (life_of s before).stage ≡ true)
    (start : start_of g before ≡ Some s) (c : CountsBy g s before) (body method : List ℕ) (params : Option Json) (says : message_of body ≡ notification method params) (spoken : speaks (saying_by method params) ≡ true) where
  abbrev now : List Event
  now = with_cause before (FromEditor e body)

  abbrev x : Saying
  x = saying_by method params

  abbrev was : Texts
  was = texts_of settings g before

  abbrev is_then : Texts
  is_then = texts_behind (encoding_of g before) e x was

  abbrev to : List (List ℕ) → List Out
  to bodies = map (λ b. ToServer s b) bodies

  said_x : saying_of (message_of body) ≡ x
  said_x = ap saying_of says

  texts_now : texts_of settings g now ≡ is_then
  texts_now = texts_more settings g before (heard (FromEditor e body))
      ∙ (ap₂ (λ a p. if a && is_served p then texts_heard g before e (message_of body) was else was) (h.seat).home (h.seat).runs ∙ ap (λ m. texts_heard g before e m was) says)

  held_now : (w : List ℕ) → held_at s w now ≡ held_at s w before
  held_now w = ap (λ (z : Sent). z.held) (sent_more s w before (heard (FromEditor e body)))

  -- the editor has what it says at once, and the start doesn't yet
  near_now : (u : List ℕ) (want : Option Open) → found e u is_then ≡ want → ((w : List ℕ) → bytes_eq w u ≡ false → found e w is_then ≡ found e w was) → Near settings s e g c.code u want now
  near_now u want mine others = record {
    seat = seat_more settings s e g before (heard (FromEditor e body)) (ap (requests (codes "shutdown")) says) h.seat;
    owed = debts_more settings s e before (heard (FromEditor e body)) ∙ (ap (λ ds. debts_next settings s e before ds (heard (FromEditor e body))) h.owed
        ∙ none_either (ends_debts s e (heard (FromEditor e body)) || pays_debts settings s e before (heard (FromEditor e body))));
    given = given_more s before (heard (FromEditor e body)) ∙ ap (λ o. starts.encoding_behind s o (heard (FromEditor e body))) c.given;
    mine = ap (found e u) texts_now ∙ mine;
    others = λ w o away is. subst (HasOwn o) (sym (held_now w)) (h.own w o (ap (found e w) (sym (texts_at settings s e g before h.seat)) ∙ (sym (others w away) ∙ (ap (found e w) (sym texts_now) ∙ is))));
  }

  -- what the start had of the editor's
  own_before : (u : List ℕ) (o : Open) → found e u was ≡ Some o → HasOwn o (held_at s u before)
  own_before u o is = h.own u o (ap (found e u) (sym (texts_at settings s e g before h.seat)) ∙ is)

  record Done (bodies : List (List ℕ)) : Type 0 where
    all : AllOnDocuments settings s e now (to bodies)
    rested : Rested settings s e g (behind now (to bodies))

  done_by : (u : List ℕ) (want : Option Open) (bodies : List (List ℕ)) → Told settings s e g c.code u want now bodies → Done bodies
  done_by u want bodies k = record {
    all = k.all;
    rested = record { seat = (k.near).seat; owed = (k.near).owed; own = λ w o is. by w o (ap (found e w) (texts_at settings s e g later (k.near).seat) ∙ is) (bytes_eq w u) refl };
  }
    where
      later : List Event
      later = behind now (to bodies)

      here : (y : Option Open) (o : Open) → Own y (held_at s u later) → y ≡ Some o → HasOwn o (held_at s u later)
      here y o own is = subst (λ z. Own z (held_at s u later)) is own

      by : (w : List ℕ) (o : Open) → found e w (texts_of settings g later) ≡ Some o → (b : Bool) → bytes_eq w u ≡ b → HasOwn o (held_at s w later)
      by w o is true same = let it : w ≡ u = bytes_same w u same in subst (λ z. HasOwn o (held_at s z later)) (sym it) (here want o k.own (sym (k.near).mine ∙ (ap (λ z. found e z (texts_of settings g later)) (sym it) ∙ is)))
      by w o is false away = (k.near).others w o away is

  spelt_then : AllSpelt is_then.opens
  spelt_then = subst (λ y. AllSpelt (texts_behind (encoding_of g before) e y was).opens) said_x (texts_spelt (encoding_of g before) e body was ((facts.base).opened g).spelt)

  held_is : (u : List ℕ) (k : Option HeldText) → held_at s u before ≡ k → held_at s u now ≡ k
  held_is u k is = held_now u ∙ is

  -- E12
  module _ (u l v t : List ℕ) (is : x ≡ opens u l v t) where
    abbrev o : Open
    o = opened e u l v t was

    texts_are : is_then.opens ≡ put_open o was.opens
    texts_are = ap (λ y. (texts_behind (encoding_of g before) e y was).opens) is

    mine : found e u is_then ≡ Some o
    mine = ap (find (is_open_at e u)) texts_are ∙ found_put o was.opens

    near : Near settings s e g c.code u (Some o) now
    near = near_now u (Some o) mine (λ w away. ap (find (is_open_at e w)) texts_are ∙ put_other w o was.opens away)

    spelt : IsSpelt o
    spelt = find_spelt (is_open_at e u) is_then.opens o spelt_then mine

    opened_done : Done (sent_open settings.limits.versions o (held_at s u before))
    opened_done = go (held_at s u before) refl
      where
        go : (k : Option HeldText) → held_at s u before ≡ k → Done (sent_open settings.limits.versions o k)
        go None none = done_by u (Some o) _ (told_opened settings s e g c.code u (Some o) range o refl spelt (λ k agreed. agreed) now near)
        go (Some k) held = done_by u (Some o) _ (told_differing settings s e g c.code u (Some o) range o refl spelt (λ k agreed. agreed) now k near (held_is u (Some k) held))

  -- where it says nothing that is accepted
  still_done : is_then ≡ was → Done []
  still_done same = done_by [] (found e [] was) [] (told_none settings s e g c.code [] (found e [] was) now (near_now [] (found e [] was) (ap (found e []) same) (λ w away. ap (found e w) same)) (go (found e [] was) refl))
    where
      go : (y : Option Open) → found e [] was ≡ y → Own y (held_at s [] now)
      go None none = tt
      go (Some o) is = subst (HasOwn o) (sym (held_now [])) (own_before [] o is)

  -- E13
  module _ (u v : List ℕ) (cs : Json) (is : x ≡ changes u v cs) where
    code_is : encoding_of g before ≡ Some c.code
    code_is = c.known

    module _ (old new : Open) (there : found e u was ≡ Some old) (made : changed (encoding_of g before) e u v cs was ≡ Some new) where
      to_new : ChangedTo (encoding_of g before) e u cs was.turn old new
      to_new = changed_found (encoding_of g before) e u v cs was old new there made

      texts_new : is_then.opens ≡ put_open new was.opens
      texts_new = ap (λ y. (texts_behind (encoding_of g before) e y was).opens) is ∙ ap (λ y. (option_map_or (λ (p : Open). touched p was) y was).opens) made

      mine_new : found e u is_then ≡ Some new
      mine_new = ap (find (is_open_at e u)) texts_new ∙ subst (λ w. find (is_open_at e w) (put_open new was.opens) ≡ Some new) to_new.uri (subst (λ n. find (is_open_at n new.uri) (put_open new was.opens) ≡ Some new) to_new.editor (found_put new was.opens))

      others_new : (w : List ℕ) → bytes_eq w u ≡ false → found e w is_then ≡ found e w was
      others_new w away = ap (find (is_open_at e w)) texts_new
          ∙ subst (λ n. find (is_open_at n w) (put_open new was.opens) ≡ find (is_open_at n w) was.opens) to_new.editor (put_other w new was.opens (ap (bytes_eq w) to_new.uri ∙ away))

      near_new : Near settings s e g c.code u (Some new) now
      near_new = near_now u (Some new) mine_new others_new

      spelt_new : IsSpelt new
      spelt_new = find_spelt (is_open_at e u) is_then.opens new spelt_then mine_new

      -- the start had the text before
      changed_here : (k : HeldText) → held_at s u before ≡ Some k → Done (sent_change settings.limits.versions body old new (Some k))
      changed_here k held = go (agrees new k) refl (nat_lt k.version settings.limits.versions) refl (agrees old k) refl
        where
          switch : Done (switched settings.limits.versions new k)
          switch = done_by u (Some new) _ (told_switched settings s e g c.code u (Some new) range new to_new.uri spelt_new (λ k agreed. agreed) now k near_new (held_is u (Some k) held))

          agreed_of : (p : Open) → agrees p k ≡ true → Agrees p k
          agreed_of p is = let both = both_true (bytes_eq k.language p.language) (bytes_eq k.text p.text) is in (bytes_same k.language p.language both.0, bytes_same k.text p.text both.1)

          go : (a : Bool) → agrees new k ≡ a → (b : Bool) → nat_lt k.version settings.limits.versions ≡ b → (d : Bool) → agrees old k ≡ d
              → Done (if a then [] else if b && d then versioned (k.version + 1) body ∷ [] else switched settings.limits.versions new k)
          go true same b less d was = done_by u (Some new) [] (told_none settings s e g c.code u (Some new) now near_new (subst (HasOwn new) (sym (held_is u (Some k) held)) (agreed_of new same)))
          go false other true less true agreed =
              let mine : Agrees old k = agreed_of old agreed in
              let below : k.version < settings.limits.versions = ltb-true k.version settings.limits.versions less in
              let wide : settings.limits.versions < 2 ^ 32 = range.versions in
              done_by u (Some new) _ (told_changed settings s e g c.code u (Some new) now (versioned (k.version + 1) body) u (decimal (k.version + 1)) cs k new.text refl
              (versioned_says body (k.version + 1) u v cs (omega (arith, below, wide)) (said_x ∙ is)) near_new (held_is u (Some k) held)
              (ap₂ (λ y z. text_after y cs z) (sym code_is) mine.1 ∙ to_new.text)
              (mine.0 ∙ sym to_new.language, refl))
          go false other true less false differs = switch
          go false other false full d was = switch

    changed_done : Done (changed_bodies settings.limits.versions body (found e u was) (changed (encoding_of g before) e u v cs was) (held_at s u before))
    changed_done = by_old (found e u was) refl (changed (encoding_of g before) e u v cs was) refl
      where
        unchanged : changed (encoding_of g before) e u v cs was ≡ None → Done []
        unchanged none = still_done (ap (λ y. texts_behind (encoding_of g before) e y was) is ∙ ap (λ y. option_map_or (λ (p : Open). touched p was) y was) none)

        by_held : (old new : Open) → found e u was ≡ Some old → changed (encoding_of g before) e u v cs was ≡ Some new → (k : Option HeldText) → held_at s u before ≡ k → Done (sent_change settings.limits.versions body old new k)
        by_held old new there made None none = absurd (subst (HasOwn old) none (own_before u old there))
        by_held old new there made (Some k) held = changed_here old new there made k held

        by_old : (y : Option Open) → found e u was ≡ y → (z : Option Open) → changed (encoding_of g before) e u v cs was ≡ z → Done (changed_bodies settings.limits.versions body y z (held_at s u before))
        by_old None none z made = unchanged (none_of none)
          where
            none_of : found e u was ≡ None → changed (encoding_of g before) e u v cs was ≡ None
            none_of none = rw none refl
        by_old (Some old) there None none = unchanged none
        by_old (Some old) there (Some new) made = by_held old new there made (held_at s u before) refl

  -- E14
  module _ (u : List ℕ) (is : x ≡ closes u) where
    texts_left : is_then.opens ≡ drop_open e u was.opens
    texts_left = ap (λ y. (texts_behind (encoding_of g before) e y was).opens) is

    near_left : Near settings s e g c.code u None now
    near_left = near_now u None (ap (find (is_open_at e u)) texts_left ∙ found_dropped e u was.opens (((facts.base).opened g).orderly).once) (λ w away. ap (find (is_open_at e w)) texts_left ∙ drop_other e u w was.opens away)

    closed_done : Done (closed_bodies settings.limits.versions e u was.opens (found e u was) (held_at s u before))
    closed_done = by_open (found e u was)
      where
        none_told : Done []
        none_told = done_by u None [] (told_none settings s e g c.code u None now near_left tt)

        by_holder : (y : Option Open) → holder_beside e u was.opens ≡ y → (k : Option HeldText) → held_at s u before ≡ k → Done (sent_close settings.limits.versions u y k)
        by_holder y at None none = none_told
        by_holder None at (Some k) held = done_by u None _ (told_closed settings s e g c.code u None u refl (closes_spelt body u (said_x ∙ is)) now [] near_left (λ later near gone. told_none settings s e g c.code u None later near tt))
        by_holder (Some p) at (Some k) held = done_by u None _ (told_differing settings s e g c.code u None range p (sym (beside_is e u was.opens p at)) (latest_spelt _ was.opens p ((facts.base).opened g).spelt at) (λ k agreed. tt) now k near_left (held_is u (Some k) held))

        by_open : (y : Option Open) → Done (closed_bodies settings.limits.versions e u was.opens y (held_at s u before))
        by_open None = none_told
        by_open (Some o) = by_holder (holder_beside e u was.opens) refl (held_at s u before) refl

  abbrev bodies : List (List ℕ)
  bodies = document_bodies settings.limits.versions (encoding_of g before) was (λ u. held_at s u before) e body x

  all_done : Done bodies
  all_done = go x refl
    where
      go : (y : Saying) → x ≡ y → Done (document_bodies settings.limits.versions (encoding_of g before) was (λ u. held_at s u before) e body y)
      go (opens u l v t) is = opened_done u l v t is
      go (changes u v cs) is = changed_done u v cs is
      go (closes u) is = closed_done u is
      go misshapen is = still_done (ap (λ y. texts_behind (encoding_of g before) e y was) is)
      go saying.nothing is = never (sym spoken ∙ ap speaks is)

  -- the outs of the entry
  abbrev shown : List Out
  shown = outs (show_opened settings s e x) (behind now (to bodies))

  abbrev paid : List Out
  paid = outs (debts_row settings before e body (message_of body)) (behind now (to bodies ++ shown))

  row_is : outs (from_editor settings before e body (message_of body) (desk_of e before).phase) now ≡ to bodies ++ shown
  row_is = ap₂ (λ m p. outs (from_editor settings before e body m p) now) says (h.seat).runs
      ∙ (spoken_row settings before e body method params spoken now
      ∙ (ap (λ o. outs (on o nothing (λ i. on (start_of i before) nothing (document_at settings before e body x i))) now) (home_is g (home_of settings e before) (h.seat).home)
      ∙ (ap (λ o. outs (on o nothing (document_at settings before e body x g)) now) start
      ∙ (ap (λ b. outs (choose b (after (to_start s bodies) (show_opened settings s e x)) nothing) now) ready
      ∙ ap (λ xs. xs ++ outs (show_opened settings s e x) (behind now xs)) (outs_to_start s bodies now)))))

  entry_is : outs_of settings before (FromEditor e body) ≡ (to bodies ++ shown) ++ paid
  entry_is = ap (λ xs. xs ++ outs (debts_row settings before e body (message_of body)) (behind now xs)) row_is

  shown_back : AllByRecursion GoesBack shown
  shown_back = back_because (behind now (to bodies)) shown (shows_back settings s e x (behind now (to bodies))).why

  paid_back : AllByRecursion GoesBack paid
  paid_back = back_question e paid (debts_questions settings before e body (facts.base).meant (behind now (to bodies ++ shown)))

  pub own_rests : AllOnDocuments settings s e now (outs_of settings before (FromEditor e body)) × Rested settings s e g (behind now (outs_of settings before (FromEditor e body)))
  own_rests = subst (λ xs. AllOnDocuments settings s e now xs × Rested settings s e g (behind now xs)) (sym entry_is) (whole.0, whole.1)
    where
      told_there : AllOnDocuments settings s e (behind now (to bodies)) shown × Rested settings s e g (behind (behind now (to bodies)) shown)
      told_there = all_back settings s e g (behind now (to bodies)) shown shown_back all_done.rested

      first : AllOnDocuments settings s e now (to bodies ++ shown) × Rested settings s e g (behind now (to bodies ++ shown))
      first = (all_both settings s e now (to bodies) shown all_done.all told_there.0, subst (Rested settings s e g) (sym (behind_both now (to bodies) shown)) told_there.1)

      last : AllOnDocuments settings s e (behind now (to bodies ++ shown)) paid × Rested settings s e g (behind (behind now (to bodies ++ shown)) paid)
      last = all_back settings s e g (behind now (to bodies ++ shown)) paid paid_back first.1

      whole : AllOnDocuments settings s e now ((to bodies ++ shown) ++ paid) × Rested settings s e g (behind now ((to bodies ++ shown) ++ paid))
      whole = (all_both settings s e now (to bodies ++ shown) paid first.0 last.0, subst (Rested settings s e g) (sym (behind_both now (to bodies ++ shown) paid)) last.1)
