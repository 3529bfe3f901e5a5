-- An editor's own documents, where the editor is at rest and says something of one: what its start is told, until the start has the text that the editor has then.
use Rattle.std.proofs.Common.{◌≡◌, ℕ, ◌+◌, ◌<◌, ◌^◌, Bool, true, false, cond, ◌&&◌, ◌||◌, List, [], ◌∷◌, ◌++◌, map, codes, decimal, ltb-true, bytes_eq, if◌then◌else◌, Option, None, Some, IsUtf8, refl, sym, ◌∙◌, ap, ap₂, subst, append_assoc, append-nil, arith}
use Rattle.std.specs.Prelude.{find, nat_lt}
use Rattle.std.specs.List.{AllByRecursion}
use Rattle.std.specs.Option.{unwrap_or}
use Rattle.std.proofs.lemmas.Slice.Eq.{bytes_eq-Decides}
use Rattle.json_text.specs.Json.{Json}
use Rattle.mux_history.specs.declared.out.Out.TheVariants.{ToServer}
use Rattle.rpc_message.specs.Message.{message_of}
use Rattle.position_codec.specs.declared.Encoding.{Encoding}
use Rattle.document_model.specs.Bodies.{close_text, full_text, open_text}
use Rattle.document_model.specs.Helds.{HeldText, changed_held, number_of, told}
use Rattle.document_model.specs.Opens.{Open, drop_open, is_open_at, put_open}
use Rattle.document_model.specs.Orderly.{IsSpelt, Once}
use Rattle.document_model.specs.Rows.{Agrees, agrees, differing, switched}
use Rattle.document_model.specs.Sayings.{Saying, changes, closes, opens, saying_of, speaks}
use Rattle.document_model.specs.Texts.{found, text_after}
use Rattle.document_model.proofs.Holders.{both_true, bytes_same, is_at}
use Rattle.document_model.proofs.Spoken.{Speaks}
use Rattle.document_model.proofs.Written.{FullSays, close_says, full_says, open_says}
use Rattle.event_model.specs.Event.{Event, behind, said}
use Rattle.event_model.specs.Settings.{Settings}
use Rattle.mux_model.specs.Documents as starts
use Rattle.mux_model.specs.Documents.{Sent, held_at}
use Rattle.mux_model.proofs.DocumentFolds.{sent_encoding}
use Rattle.mux_facts.specs.Ranges.{InRange}
use Rattle.mux_facts.proofs.Tellings.{sent_more}
use Rattle.mux_facts.proofs.Words.{same_number}
use Rattle.group_rows.specs.Debts.{debts_next, debts_of, ends_debts, pays_debts}
use Rattle.group_rows.specs.Texts.{texts_of}
use Rattle.group_rows.proofs.DebtsKept.{debts_more}
use Rattle.group_rows.proofs.Frames.{texts_stay}
use Rattle.group_facts.specs.OwnTexts.{HasOwn}
use Rattle.group_facts.proofs.Asides.{spoken_aside}
use Rattle.group_sessions.specs.Refreshes.{AllOnDocuments, HasNoOther, OnDocument}
use Rattle.rest_laws.proofs.Codes.{given_said}
use Rattle.rest_laws.proofs.Rested.{Seat, none_either, seat_more, texts_at}

-- Documents in a list

turned : (u w : List ℕ) → bytes_eq w u ≡ false → bytes_eq u w ≡ false
turned u w h = go (bytes_eq u w) refl
  where
    go : (b : Bool) → bytes_eq u w ≡ b → b ≡ false
    go true same = sym ((bytes_eq-Decides w u).1 (sym (bytes_same u w same))) ∙ h
    go false other = refl

and_right : (a b : Bool) → b ≡ false → (a && b) ≡ false
and_right true b h = h
and_right false b h = refl

at_itself : (o : Open) → is_open_at o.editor o.uri o ≡ true
at_itself o = ap₂ (λ a b. a && b) (same_number o.editor) ((bytes_eq-Decides o.uri o.uri).1 refl)

pub found_put : (o : Open) (os : List Open) → find (is_open_at o.editor o.uri) (put_open o os) ≡ Some o
found_put o [] = ap (λ b. cond b (Some o) None) (at_itself o)
found_put o (p ∷ ps) = go (is_open_at o.editor o.uri p) refl (found_put o ps)
  where
    go : (b : Bool) → is_open_at o.editor o.uri p ≡ b → find (is_open_at o.editor o.uri) (put_open o ps) ≡ Some o → find (is_open_at o.editor o.uri) (cond b (o ∷ ps) (p ∷ put_open o ps)) ≡ Some o
    go true at rest = ap (λ b. cond b (Some o) (find (is_open_at o.editor o.uri) ps)) (at_itself o)
    go false away rest = ap (λ b. cond b (Some p) (find (is_open_at o.editor o.uri) (put_open o ps))) away ∙ rest

pub put_other : (w : List ℕ) (o : Open) (os : List Open) → bytes_eq w o.uri ≡ false → find (is_open_at o.editor w) (put_open o os) ≡ find (is_open_at o.editor w) os
put_other w o [] away = ap (λ b. cond b (Some o) None) (and_right _ (bytes_eq o.uri w) (turned o.uri w away))
put_other w o (p ∷ ps) away = go (is_open_at o.editor o.uri p) refl (put_other w o ps away)
  where
    go : (b : Bool) → is_open_at o.editor o.uri p ≡ b → find (is_open_at o.editor w) (put_open o ps) ≡ find (is_open_at o.editor w) ps → find (is_open_at o.editor w) (cond b (o ∷ ps) (p ∷ put_open o ps)) ≡ find (is_open_at o.editor w) (p ∷ ps)
    go true at rest = ap (λ b. cond b (Some o) (find (is_open_at o.editor w) ps)) (and_right _ (bytes_eq o.uri w) (turned o.uri w away))
        ∙ sym (ap (λ b. cond b (Some p) (find (is_open_at o.editor w) ps)) (and_right _ (bytes_eq p.uri w) (ap (λ z. bytes_eq z w) (is_at o.editor o.uri p at).1 ∙ turned o.uri w away)))
    go false off rest = ap (λ z. cond (is_open_at o.editor w p) (Some p) z) rest

none_found : (e : ℕ) (u : List ℕ) (os : List Open) → AllByRecursion (λ (p : Open). is_open_at e u p ≡ false) os → find (is_open_at e u) os ≡ None
none_found e u [] all = refl
none_found e u (p ∷ ps) all = ap (λ b. cond b (Some p) (find (is_open_at e u) ps)) all.0 ∙ none_found e u ps all.1

pub found_dropped : (e : ℕ) (u : List ℕ) (os : List Open) → Once os → find (is_open_at e u) (drop_open e u os) ≡ None
found_dropped e u [] once = refl
found_dropped e u (p ∷ ps) once = go (is_open_at e u p) refl (found_dropped e u ps once.1)
  where
    go : (b : Bool) → is_open_at e u p ≡ b → find (is_open_at e u) (drop_open e u ps) ≡ None → find (is_open_at e u) (cond b ps (p ∷ drop_open e u ps)) ≡ None
    go true at rest = let k = is_at e u p at in none_found e u ps (subst (λ w. AllByRecursion (λ (q : Open). is_open_at e w q ≡ false) ps) k.1 (subst (λ n. AllByRecursion (λ (q : Open). is_open_at n p.uri q ≡ false) ps) k.0 once.0))
    go false away rest = ap (λ b. cond b (Some p) (find (is_open_at e u) (drop_open e u ps))) away ∙ rest

pub drop_other : (e : ℕ) (u w : List ℕ) (os : List Open) → bytes_eq w u ≡ false → find (is_open_at e w) (drop_open e u os) ≡ find (is_open_at e w) os
drop_other e u w [] away = refl
drop_other e u w (p ∷ ps) away = go (is_open_at e u p) refl (drop_other e u w ps away)
  where
    go : (b : Bool) → is_open_at e u p ≡ b → find (is_open_at e w) (drop_open e u ps) ≡ find (is_open_at e w) ps → find (is_open_at e w) (cond b ps (p ∷ drop_open e u ps)) ≡ find (is_open_at e w) (p ∷ ps)
    go true at rest = sym (ap (λ b. cond b (Some p) (find (is_open_at e w) ps)) (and_right _ (bytes_eq p.uri w) (ap (λ z. bytes_eq z w) (is_at e u p at).1 ∙ turned u w away)))
    go false off rest = ap (λ z. cond (is_open_at e w p) (Some p) z) rest

-- Bodies on one document

-- what is said of u alone
abbrev About : List ℕ → Saying → Type 0
About u x = (w : List ℕ) (code : Option Encoding) (k : Option HeldText) → bytes_eq w u ≡ false → told code w k x ≡ k

opens_about : (u l v t : List ℕ) → About u (opens u l v t)
opens_about u l v t w code k away = ap (λ b. if b then Some (record { version = number_of v; language = l; text = t }) else k) away

changes_about : (u v : List ℕ) (cs : Json) → About u (changes u v cs)
changes_about u v cs w code k away = ap (λ b. if b then changed_held code v cs k else k) away

closes_about : (u : List ℕ) → About u (closes u)
closes_about u w code k away = ap (λ b. if b then None else k) away

record Tells (u b : List ℕ) : Type 0 where
  speaks : Speaks b
  about : About u (saying_of (message_of b))

tells_by : (u w b : List ℕ) (x : Saying) → w ≡ u → saying_of (message_of b) ≡ x → speaks x ≡ true → About w x → Tells u b
tells_by u w b x same says speak about = record { speaks = ap speaks says ∙ speak; about = subst (About u) (sym says) (subst (λ z. About z x) same about) }

-- an editor that has this of the document, or nothing
abbrev pub Own : Option Open → Option HeldText → Type 0
Own None held = Unit {0}
Own (Some o) held = HasOwn o held

abbrev NoOther : Option Open → Option HeldText → Type 0
NoOther None held = Unit {0}
NoOther (Some o) held = HasNoOther o held

own_none : (o : Open) (held : Option HeldText) → HasOwn o held → HasNoOther o held
own_none o None own = absurd own
own_none o (Some k) own = own

own_no_other : (want : Option Open) (held : Option HeldText) → Own want held → NoOther want held
own_no_other None held own = tt
own_no_other (Some o) held own = own_none o held own

closed_no_other : (want : Option Open) → NoOther want None
closed_no_other None = tt
closed_no_other (Some o) = tt

module _ (settings : Settings) (s e g : ℕ) (code : Encoding) (u : List ℕ) (want : Option Open) where
  -- the start has all of the editor's texts but that of u, and gave this encoding
  pub record Near (events : List Event) : Type 0 where
    pub seat : Seat settings s e g events
    pub owed : debts_of settings s e events ≡ []
    pub given : starts.encoding_of s events ≡ Some code
    pub mine : found e u (texts_of settings g events) ≡ want
    pub others : (w : List ℕ) (o : Open) → bytes_eq w u ≡ false → found e w (texts_of settings g events) ≡ Some o → HasOwn o (held_at s w events)

  held_told : (events : List Event) (b w : List ℕ) → starts.encoding_of s events ≡ Some code → held_at s w (events ++ said (ToServer s b) ∷ []) ≡ told (Some code) w (held_at s w events) (saying_of (message_of b))
  held_told events b w given = ap (λ (x : Sent). x.held) (sent_more s w events (said (ToServer s b)))
      ∙ ap₂ (λ c k. if c then told k w (held_at s w events) (saying_of (message_of b)) else held_at s w events) (same_number s) (sent_encoding s w events ∙ given)

  near_told : (events : List Event) (b : List ℕ) → Tells u b → Near events → Near (events ++ said (ToServer s b) ∷ [])
  near_told events b k h = record {
    seat = seat_more settings s e g events (said (ToServer s b)) tt h.seat;
    owed = debts_more settings s e events (said (ToServer s b)) ∙ (ap (λ ds. debts_next settings s e events ds (said (ToServer s b))) h.owed ∙ none_either (ends_debts s e (said (ToServer s b)) || pays_debts settings s e events (said (ToServer s b))));
    given = given_said s events (ToServer s b) ∙ h.given;
    mine = ap (found e u) still ∙ h.mine;
    others = λ w o away is. subst (HasOwn o) (sym (held_told events b w h.given ∙ k.about w (Some code) (held_at s w events) away)) (h.others w o away (ap (found e w) (sym still) ∙ is));
  }
    where
      still : texts_of settings g (events ++ said (ToServer s b) ∷ []) ≡ texts_of settings g events
      still = texts_stay settings g events (said (ToServer s b)) (spoken_aside (message_of b) k.speaks)

  on_document : (events : List Event) (b : List ℕ) → Near (events ++ said (ToServer s b) ∷ []) → NoOther want (held_at s u (events ++ said (ToServer s b) ∷ [])) → OnDocument settings s e events (ToServer s b)
  on_document events b h fits = λ same w o about is. by w o (ap (found e w) (texts_at settings s e g later h.seat) ∙ is) (bytes_eq w u) refl
    where
      later : List Event
      later = events ++ said (ToServer s b) ∷ []

      here : (x : Option Open) (o : Open) → NoOther x (held_at s u later) → x ≡ Some o → HasNoOther o (held_at s u later)
      here x o k is = subst (λ z. NoOther z (held_at s u later)) is k

      by : (w : List ℕ) (o : Open) → found e w (texts_of settings g later) ≡ Some o → (b : Bool) → bytes_eq w u ≡ b → HasNoOther o (held_at s w later)
      by w o is true same = let it : w ≡ u = bytes_same w u same in subst (λ z. HasNoOther o (held_at s z later)) (sym it) (here want o fits (sym h.mine ∙ (ap (λ z. found e z (texts_of settings g later)) (sym it) ∙ is)))
      by w o is false away = own_none o (held_at s w later) (h.others w o away is)

  -- behind these bodies the start has what the editor wants it to have
  pub record Told (events : List Event) (bodies : List (List ℕ)) : Type 0 where
    pub all : AllOnDocuments settings s e events (map (λ b. ToServer s b) bodies)
    pub near : Near (behind events (map (λ b. ToServer s b) bodies))
    pub own : Own want (held_at s u (behind events (map (λ b. ToServer s b) bodies)))

  pub told_none : (events : List Event) → Near events → Own want (held_at s u events) → Told events []
  told_none events h own = record { all = tt; near = subst Near (sym (append-nil events)) h; own = subst (λ z. Own want (held_at s u z)) (sym (append-nil events)) own }

  told_more : (events : List Event) (b : List ℕ) (bodies : List (List ℕ)) → Tells u b → Near events → NoOther want (told (Some code) u (held_at s u events) (saying_of (message_of b)))
      → (Near (events ++ said (ToServer s b) ∷ []) → held_at s u (events ++ said (ToServer s b) ∷ []) ≡ told (Some code) u (held_at s u events) (saying_of (message_of b)) → Told (events ++ said (ToServer s b) ∷ []) bodies) → Told events (b ∷ bodies)
  told_more events b bodies k h fits next =
      let near : Near (events ++ said (ToServer s b) ∷ []) = near_told events b k h in
      let held = held_told events b u h.given in
      let rest : Told (events ++ said (ToServer s b) ∷ []) bodies = next near held in
      let place : behind (events ++ said (ToServer s b) ∷ []) (map (λ b. ToServer s b) bodies) ≡ behind events (map (λ b. ToServer s b) (b ∷ bodies)) = append_assoc events (said (ToServer s b) ∷ []) (map said (map (λ b. ToServer s b) bodies)) in
      record { all = (on_document events b near (subst (NoOther want) (sym held) fits), rest.all); near = subst Near place rest.near; own = subst (λ z. Own want (held_at s u z)) place rest.own }

  told_last : (events : List Event) (b : List ℕ) → Tells u b → Near events → Own want (told (Some code) u (held_at s u events) (saying_of (message_of b))) → Told events (b ∷ [])
  told_last events b k h own = told_more events b [] k h (own_no_other want (told (Some code) u (held_at s u events) (saying_of (message_of b))) own) (λ near held. told_none (events ++ said (ToServer s b) ∷ []) near (subst (Own want) (sym held) own))

  here_is : (w : List ℕ) → w ≡ u → bytes_eq u w ≡ true
  here_is w same = (bytes_eq-Decides u w).1 (sym same)

  -- it is closed there
  pub told_closed : (w : List ℕ) → w ≡ u → IsUtf8 w → (events : List Event) (bodies : List (List ℕ)) → Near events → ((later : List Event) → Near later → held_at s u later ≡ None → Told later bodies) → Told events (close_text w ∷ bodies)
  told_closed w same utf8 events bodies h next = told_more events (close_text w) bodies (tells_by u w (close_text w) (closes w) same (close_says w utf8) refl (closes_about w)) h (subst (NoOther want) (sym gone) (closed_no_other want))
      (λ near held. next (events ++ said (ToServer s (close_text w)) ∷ []) near (held ∙ gone))
    where
      gone : told (Some code) u (held_at s u events) (saying_of (message_of (close_text w))) ≡ None
      gone = ap (told (Some code) u (held_at s u events)) (close_says w utf8) ∙ ap (λ b. if b then None else held_at s u events) (here_is w same)

  -- a change that leaves this text
  pub told_changed : (events : List Event) (b w v : List ℕ) (cs : Json) (k : HeldText) (t : List ℕ) → w ≡ u → saying_of (message_of b) ≡ changes w v cs → Near events → held_at s u events ≡ Some k → text_after (Some code) cs k.text ≡ Some t
      → Own want (Some (record { version = number_of v; language = k.language; text = t })) → Told events (b ∷ [])
  told_changed events b w v cs k t same says h held leaves own = told_last events b (tells_by u w b (changes w v cs) same says refl (changes_about w v cs)) h (subst (Own want) (sym changed_so) own)
    where
      changed_so : told (Some code) u (held_at s u events) (saying_of (message_of b)) ≡ Some (record { version = number_of v; language = k.language; text = t })
      changed_so = ap₂ (λ z x. told (Some code) u z x) held says ∙ (ap (λ c. if c then changed_held (Some code) v cs (Some k) else Some k) (here_is w same)
          ∙ ap (λ (y : Option (List ℕ)). Some (record { version = number_of v; language = k.language; text = unwrap_or y k.text })) leaves)

  -- an editor's text of u, with which the editor has what it wants
  module _ (range : InRange settings) (o : Open) (same : o.uri ≡ u) (spelt : IsSpelt o) (wants : (k : HeldText) → Agrees o k → Own want (Some k)) where
    pub told_opened : (events : List Event) → Near events → Told events (open_text o.uri o.language o.text ∷ [])
    told_opened events h = told_last events (open_text o.uri o.language o.text) (tells_by u o.uri (open_text o.uri o.language o.text) (opens o.uri o.language (codes "1") o.text) same says refl (opens_about o.uri o.language (codes "1") o.text)) h
        (subst (Own want) (sym has) (wants (record { version = number_of (codes "1"); language = o.language; text = o.text }) (refl, refl)))
      where
        says : saying_of (message_of (open_text o.uri o.language o.text)) ≡ opens o.uri o.language (codes "1") o.text
        says = open_says o.uri o.language o.text spelt.0 spelt.1 spelt.2

        has : told (Some code) u (held_at s u events) (saying_of (message_of (open_text o.uri o.language o.text))) ≡ Some (record { version = number_of (codes "1"); language = o.language; text = o.text })
        has = ap (told (Some code) u (held_at s u events)) says ∙ ap (λ b. if b then Some (record { version = number_of (codes "1"); language = o.language; text = o.text }) else held_at s u events) (here_is o.uri same)

    pub told_switched : (events : List Event) (k : HeldText) → Near events → held_at s u events ≡ Some k → Told events (switched settings.limits.versions o k)
    told_switched events k h held = go (bytes_eq k.language o.language) refl (nat_lt k.version settings.limits.versions) refl
      where
        anew : Told events (close_text o.uri ∷ open_text o.uri o.language o.text ∷ [])
        anew = told_closed o.uri same spelt.0 events (open_text o.uri o.language o.text ∷ []) h (λ later near gone. told_opened later near)

        whole : k.language ≡ o.language → nat_lt k.version settings.limits.versions ≡ true → Told events (full_text o.uri (k.version + 1) o.text ∷ [])
        whole spoken less =
            let below : k.version < settings.limits.versions = ltb-true k.version settings.limits.versions less in
            let wide : settings.limits.versions < 2 ^ 32 = range.versions in
            let f : FullSays o.uri (k.version + 1) o.text = full_says o.uri o.text (k.version + 1) spelt.0 spelt.2 (omega (arith, below, wide)) in
            told_changed events (full_text o.uri (k.version + 1) o.text) o.uri (decimal (k.version + 1)) f.list k o.text same f.says h held (f.whole code k.text) (wants (record { version = number_of (decimal (k.version + 1)); language = k.language; text = o.text }) (spoken, refl))

        go : (a : Bool) → bytes_eq k.language o.language ≡ a → (b : Bool) → nat_lt k.version settings.limits.versions ≡ b → Told events (if a && b then full_text o.uri (k.version + 1) o.text ∷ [] else close_text o.uri ∷ open_text o.uri o.language o.text ∷ [])
        go true spoken true less = whole (bytes_same k.language o.language spoken) less
        go true spoken false full = anew
        go false other b less = anew

    pub told_differing : (events : List Event) (k : HeldText) → Near events → held_at s u events ≡ Some k → Told events (differing settings.limits.versions o k)
    told_differing events k h held = go (agrees o k) refl
      where
        agreed : agrees o k ≡ true → Agrees o k
        agreed is = let both = both_true (bytes_eq k.language o.language) (bytes_eq k.text o.text) is in (bytes_same k.language o.language both.0, bytes_same k.text o.text both.1)

        go : (b : Bool) → agrees o k ≡ b → Told events (if b then [] else switched settings.limits.versions o k)
        go true is = told_none events h (subst (Own want) (sym held) (wants k (agreed is)))
        go false off = told_switched events k h held
