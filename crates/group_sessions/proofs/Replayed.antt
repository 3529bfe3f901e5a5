-- X4: what a start has behind the bodies by which it is told of all that is open.
use Rattle.std.proofs.Common.{◌≡◌, ℕ, Bool, true, false, cond, ◌&&◌, ◌||◌, List, [], ◌∷◌, ◌++◌, append-nil, append_assoc, bytes_eq, codes, flat_map, map, nat_eq, if◌then◌else◌, Option, Some, None, refl, sym, ◌∙◌, ap, ap₂}
use Rattle.std.specs.List.{AllByRecursion, list_any}
use Rattle.std.specs.Option.{option_map, option_map_or}
use Rattle.std.proofs.lemmas.List.{map-append}
use Rattle.std.proofs.lemmas.Slice.Eq.{bytes_eq-Decides}
use Rattle.document_model.specs.Bodies.{open_text}
use Rattle.document_model.specs.Helds.{HeldText, told}
use Rattle.document_model.specs.Opens.{Open, holder}
use Rattle.document_model.specs.Orderly.{AllSpelt, IsSpelt}
use Rattle.document_model.specs.Sayings.{opens, saying_of, speaks}
use Rattle.document_model.specs.Sayings as saying
use Rattle.document_model.proofs.Spelt.{latest_spelt}
use Rattle.document_model.proofs.Written.{open_says}
use Rattle.mux_history.specs.declared.out.Out.{Out}
use Rattle.mux_history.specs.declared.out.Out.TheVariants.{ToEditor, ToServer, Spawn, CloseEditor, EndServer}
use Rattle.rpc_message.specs.Message.{message_of}
use Rattle.event_model.specs.Event.{Event, behind, said}
use Rattle.event_model.specs.Settings.{Settings}
use Rattle.event_model.proofs.Frames.{never}
use Rattle.mux_model.specs.Documents.{Sent, held_at, sent_of}
use Rattle.mux_facts.proofs.DocumentRow.{latest_passes}
use Rattle.mux_facts.proofs.Keeps.{behind_both}
use Rattle.mux_facts.proofs.Tellings.{sent_more}
use Rattle.mux_facts.proofs.Words.{same_number}
use Rattle.group_rows.specs.Rows.{replay_bodies}
use Rattle.group_rows.specs.Texts.{texts_of}
use Rattle.group_rows.proofs.Frames.{texts_stay}
use Rattle.group_facts.proofs.Asides.{spoken_aside}
use Rattle.group_sessions.specs.ExitReplay.{held_of, is_among, opened_first, spoken_to}

-- Outs that say nothing of documents

abbrev pub IsSilent : Out → Type 0
IsSilent (ToServer n body) = saying_of (message_of body) ≡ saying.nothing
IsSilent other = Unit {0}

module _ (s : ℕ) where
  silent_did : (u : List ℕ) (events : List Event) (out : Out) → IsSilent out → held_at s u (events ++ said out ∷ []) ≡ held_at s u events
  silent_did u events (ToServer n body) h = ap (λ (x : Sent). x.held) (sent_more s u events (said (ToServer n body))) ∙ go (nat_eq n s)
    where
      go : (b : Bool) → (if b then told (sent_of s u events).encoding u (held_at s u events) (saying_of (message_of body)) else held_at s u events) ≡ held_at s u events
      go true = ap (told (sent_of s u events).encoding u (held_at s u events)) h
      go false = refl
  silent_did u events (ToEditor n body) h = ap (λ (x : Sent). x.held) (sent_more s u events (said (ToEditor n body)))
  silent_did u events (Spawn n g) h = ap (λ (x : Sent). x.held) (sent_more s u events (said (Spawn n g)))
  silent_did u events (CloseEditor n) h = ap (λ (x : Sent). x.held) (sent_more s u events (said (CloseEditor n)))
  silent_did u events (EndServer n) h = ap (λ (x : Sent). x.held) (sent_more s u events (said (EndServer n)))

  pub silent_outs : (u : List ℕ) (events : List Event) (xs : List Out) → AllByRecursion IsSilent xs → held_at s u (behind events xs) ≡ held_at s u events
  silent_outs u events [] h = ap (held_at s u) (append-nil events)
  silent_outs u events (x ∷ xs) h = ap (held_at s u) (sym (append_assoc events (said x ∷ []) (map said xs))) ∙ (silent_outs u (events ++ said x ∷ []) xs h.1 ∙ silent_did u events x h.0)

  one_silent : (out : Out) → IsSilent out → spoken_to s out ≡ []
  one_silent (ToServer n body) h = ap (λ z. if nat_eq n s && speaks z then body ∷ [] else []) h ∙ none (nat_eq n s)
    where
      none : (b : Bool) → (if b && false then body ∷ [] else []) ≡ []
      none true = refl
      none false = refl
  one_silent (ToEditor n body) h = refl
  one_silent (Spawn n g) h = refl
  one_silent (CloseEditor n) h = refl
  one_silent (EndServer n) h = refl

  pub silent_spoken : (xs : List Out) → AllByRecursion IsSilent xs → flat_map (spoken_to s) xs ≡ []
  silent_spoken [] h = refl
  silent_spoken (x ∷ xs) h = ap₂ (λ u v. u ++ v) (one_silent x h.0) (silent_spoken xs h.1)

  -- The bodies

  abbrev pub to : List (List ℕ) → List Out
  to bodies = map (λ b. ToServer s b) bodies

  abbrev Speaks : List ℕ → Type 0
  Speaks body = speaks (saying_of (message_of body)) ≡ true

  pub all_spoken : (bodies : List (List ℕ)) → AllByRecursion Speaks bodies → flat_map (spoken_to s) (to bodies) ≡ bodies
  all_spoken [] h = refl
  all_spoken (b ∷ bodies) h = ap₂ (λ x y. (if x && y then b ∷ [] else []) ++ flat_map (spoken_to s) (to bodies)) (same_number s) h.0 ∙ ap (λ z. b ∷ z) (all_spoken bodies h.1)

  -- and leave what is open alone
  pub texts_spoken : (settings : Settings) (g : ℕ) (events : List Event) (bodies : List (List ℕ)) → AllByRecursion Speaks bodies → texts_of settings g (behind events (to bodies)) ≡ texts_of settings g events
  texts_spoken settings g events [] h = ap (texts_of settings g) (append-nil events)
  texts_spoken settings g events (b ∷ bodies) h = ap (texts_of settings g) (sym (append_assoc events (said (ToServer s b) ∷ []) (map said (to bodies))))
      ∙ (texts_spoken settings g (events ++ said (ToServer s b) ∷ []) bodies h.1 ∙ texts_stay settings g events (said (ToServer s b)) (spoken_aside (message_of b) h.0))

  module _ (all : List Open) (spelt : AllSpelt all) where
    abbrev opens_it : Option Open → List (List ℕ)
    opens_it q = option_map_or (λ (h : Open). open_text h.uri h.language h.text ∷ []) q []

    says : (u : List ℕ) (h : Open) → holder u all ≡ Some h → saying_of (message_of (open_text h.uri h.language h.text)) ≡ opens h.uri h.language (codes "1") h.text
    says u h at = let fine : IsSpelt h = latest_spelt (λ p. bytes_eq p.uri u) all h spelt at in open_says h.uri h.language h.text fine.0 fine.1 fine.2

    pub replay_speaks : (told_of : List (List ℕ)) (os : List Open) → AllByRecursion Speaks (replay_bodies told_of all os)
    replay_speaks told_of [] = tt
    replay_speaks told_of (o ∷ os) = go (list_any (bytes_eq o.uri) told_of) (holder o.uri all) refl (replay_speaks told_of os) (replay_speaks (o.uri ∷ told_of) os)
      where
        go : (b : Bool) (q : Option Open) → holder o.uri all ≡ q → AllByRecursion Speaks (replay_bodies told_of all os) → AllByRecursion Speaks (replay_bodies (o.uri ∷ told_of) all os)
            → AllByRecursion Speaks (cond b (replay_bodies told_of all os) (option_map_or (λ (h : Open). open_text h.uri h.language h.text ∷ []) q [] ++ replay_bodies (o.uri ∷ told_of) all os))
        go true q at same more = same
        go false None at same more = more
        go false (Some h) at same more = (ap speaks (says o.uri h at), more)

    -- one that is opened
    opened_at : (u w : List ℕ) (q : Option Open) (events : List Event) → holder u all ≡ q → bytes_eq w u ≡ true → held_at s w events ≡ None → held_at s w (behind events (to (opens_it q))) ≡ option_map opened_first (holder w all)
    opened_at u w None events at same none = ap (held_at s w) (append-nil events) ∙ (none ∙ sym (ap (λ z. option_map opened_first (holder z all)) ((bytes_eq-Decides w u).0 same) ∙ ap (option_map opened_first) at))
    opened_at u w (Some h) events at same none = ap (λ (x : Sent). x.held) (sent_more s w events (said (ToServer s (open_text h.uri h.language h.text))))
        ∙ (ap₂ (λ b m. if b then told (sent_of s w events).encoding w (held_at s w events) m else held_at s w events) (same_number s) (says u h at)
        ∙ (ap (λ b. if b then Some (opened_first h) else held_at s w events) (ap (bytes_eq w) is ∙ same)
        ∙ sym (ap (λ z. option_map opened_first (holder z all)) ((bytes_eq-Decides w u).0 same) ∙ ap (option_map opened_first) at)))
      where
        is : h.uri ≡ u
        is = (bytes_eq-Decides h.uri u).0 (latest_passes (λ p. bytes_eq p.uri u) all h at)

    opened_else : (u w : List ℕ) (q : Option Open) (events : List Event) → holder u all ≡ q → bytes_eq w u ≡ false → held_at s w (behind events (to (opens_it q))) ≡ held_at s w events
    opened_else u w None events at other = ap (held_at s w) (append-nil events)
    opened_else u w (Some h) events at other = ap (λ (x : Sent). x.held) (sent_more s w events (said (ToServer s (open_text h.uri h.language h.text))))
        ∙ (ap₂ (λ b m. if b then told (sent_of s w events).encoding w (held_at s w events) m else held_at s w events) (same_number s) (says u h at)
        ∙ ap (λ b. if b then Some (opened_first h) else held_at s w events) (ap (bytes_eq w) is ∙ other))
      where
        is : h.uri ≡ u
        is = (bytes_eq-Decides h.uri u).0 (latest_passes (λ p. bytes_eq p.uri u) all h at)

    abbrev NoneHeld : List (List ℕ) → List Event → Type 0
    NoneHeld told_of events = (w : List ℕ) → list_any (bytes_eq w) told_of ≡ false → held_at s w events ≡ None

    abbrev due : List ℕ → Bool → Bool → Option HeldText → Option HeldText
    due w was among h = if was then h else if among then option_map opened_first (holder w all) else None

    pub replay_held : (told_of : List (List ℕ)) (os : List Open) (events : List Event) → NoneHeld told_of events → (w : List ℕ)
        → held_at s w (behind events (to (replay_bodies told_of all os))) ≡ due w (list_any (bytes_eq w) told_of) (is_among w os) (held_at s w events)
    replay_held told_of [] events none w = ap (held_at s w) (append-nil events) ∙ go (list_any (bytes_eq w) told_of) refl
      where
        go : (b : Bool) → list_any (bytes_eq w) told_of ≡ b → held_at s w events ≡ due w b false (held_at s w events)
        go true was = refl
        go false new = none w new
    replay_held told_of (o ∷ os) events none w = go (list_any (bytes_eq o.uri) told_of) refl (replay_held told_of os events none w) (λ later none_later. replay_held (o.uri ∷ told_of) os later none_later w)
      where
        off : (a b : Bool) → (a || b) ≡ false → (a ≡ false) × (b ≡ false)
        off true b h = never h
        off false b h = (refl, h)

        was_told : list_any (bytes_eq o.uri) told_of ≡ true → bytes_eq w o.uri ≡ true → list_any (bytes_eq w) told_of ≡ true
        was_told e d = ap (λ z. list_any (bytes_eq z) told_of) ((bytes_eq-Decides w o.uri).0 d) ∙ e

        old : list_any (bytes_eq o.uri) told_of ≡ true → (a : Bool) → bytes_eq w o.uri ≡ a → due w (list_any (bytes_eq w) told_of) (is_among w os) (held_at s w events) ≡ due w (list_any (bytes_eq w) told_of) (a || is_among w os) (held_at s w events)
        old e true d = ap (λ b. due w b (is_among w os) (held_at s w events)) (was_told e d) ∙ sym (ap (λ b. due w b true (held_at s w events)) (was_told e d))
        old e false d = refl

        later : List Event
        later = behind events (to (opens_it (holder o.uri all)))

        none_later : NoneHeld (o.uri ∷ told_of) later
        none_later v h = let p = off (bytes_eq v o.uri) (list_any (bytes_eq v) told_of) h in opened_else o.uri v (holder o.uri all) events refl p.0 ∙ none v p.1

        new : list_any (bytes_eq o.uri) told_of ≡ false → (a : Bool) → bytes_eq w o.uri ≡ a → due w (a || list_any (bytes_eq w) told_of) (is_among w os) (held_at s w later) ≡ due w (list_any (bytes_eq w) told_of) (a || is_among w os) (held_at s w events)
        new e true d = let fresh : list_any (bytes_eq w) told_of ≡ false = ap (λ z. list_any (bytes_eq z) told_of) ((bytes_eq-Decides w o.uri).0 d) ∙ e in
            opened_at o.uri w (holder o.uri all) events refl d (none w fresh) ∙ sym (ap (λ b. due w b true (held_at s w events)) fresh)
        new e false d = ap (due w (list_any (bytes_eq w) told_of) (is_among w os)) (opened_else o.uri w (holder o.uri all) events refl d)

        go : (b : Bool) → list_any (bytes_eq o.uri) told_of ≡ b → held_at s w (behind events (to (replay_bodies told_of all os))) ≡ due w (list_any (bytes_eq w) told_of) (is_among w os) (held_at s w events)
            → ((place : List Event) → NoneHeld (o.uri ∷ told_of) place → held_at s w (behind place (to (replay_bodies (o.uri ∷ told_of) all os))) ≡ due w (bytes_eq w o.uri || list_any (bytes_eq w) told_of) (is_among w os) (held_at s w place))
            → held_at s w (behind events (to (cond b (replay_bodies told_of all os) (opens_it (holder o.uri all) ++ replay_bodies (o.uri ∷ told_of) all os)))) ≡ due w (list_any (bytes_eq w) told_of) (bytes_eq w o.uri || is_among w os) (held_at s w events)
        go true e same rest = same ∙ old e (bytes_eq w o.uri) refl
        go false e same rest = ap (λ z. held_at s w (behind events z)) (map-append (λ b. ToServer s b) (opens_it (holder o.uri all)) (replay_bodies (o.uri ∷ told_of) all os))
            ∙ (ap (held_at s w) (behind_both events (to (opens_it (holder o.uri all))) (to (replay_bodies (o.uri ∷ told_of) all os)))
            ∙ (rest later none_later ∙ new e (bytes_eq w o.uri) refl))

    pub replayed_all : (events : List Event) → ((w : List ℕ) → held_at s w events ≡ None) → (w : List ℕ) → held_at s w (behind events (to (replay_bodies [] all all))) ≡ held_of w all
    replayed_all events none w = replay_held [] all events (λ v h. none v) w
