-- What a start is told of several documents: before a request goes on, and where it is ready.
use Rattle.std.proofs.Common.{◌≡◌, ℕ, Bool, true, false, cond, not, ◌&&◌, List, [], ◌∷◌, ◌++◌, filter, flat_map, nat_eq, bytes_eq, refl, sym, ◌∙◌, subst, Option, Some, None}
use Rattle.std.specs.Prelude.{◌||◌}
use Rattle.std.specs.List.{AllByRecursion, list_any}
use Rattle.std.specs.Option.{option_map_or}
use Rattle.std.proofs.lemmas.Slice.Eq.{bytes_eq-Decides}
use Rattle.document_model.specs.Bodies.{open_text}
use Rattle.document_model.specs.Helds.{HeldText}
use Rattle.document_model.specs.Opens.{Open, holder, holder_beside, is_open_at}
use Rattle.document_model.specs.Orderly.{AllSpelt, IsSpelt, Once}
use Rattle.document_model.specs.Rows.{differing, sent_close}
use Rattle.document_model.proofs.Spelt.{latest_spelt}
use Rattle.mux_history.specs.declared.cause.Cause.{Cause}
use Rattle.event_model.specs.Event.{Event, behind}
use Rattle.event_model.specs.Settings.{Settings}
use Rattle.mux_model.specs.Documents.{held_at}
use Rattle.mux_facts.specs.Ranges.{InRange}
use Rattle.mux_facts.proofs.DocumentRow.{beside_is, latest_passes}
use Rattle.mux_facts.proofs.Words.{number_same}
use Rattle.group_rows.specs.Leaves.{leave_bodies, left}
use Rattle.group_rows.specs.Rows.{replay_bodies, sync_bodies, synced}
use Rattle.group_facts.proofs.Tellings.{Calm, Tells, close_told, differing_told, open_told, tells_both, tells_fewer, tells_none, to}

-- another document of the same editor
apart : (e : ℕ) (o p : Open) → is_open_at o.editor o.uri p ≡ false → nat_eq o.editor e ≡ true → nat_eq p.editor e ≡ true → bytes_eq p.uri o.uri ≡ false
apart e o p h a b = go (bytes_eq p.uri o.uri) (nat_eq p.editor o.editor) (subst (λ z. nat_eq p.editor z ≡ true) (sym (number_same o.editor e a)) b) h
  where
    go : (c d : Bool) → d ≡ true → (d && c) ≡ false → c ≡ false
    go c true q r = r
    go c false q r = absurd (cc)

pub off_first : (a b : Bool) → (a || b) ≡ false → a ≡ false
off_first true b h = absurd (cc)
off_first false b h = refl

off_second : (a b : Bool) → (a || b) ≡ false → b ≡ false
off_second true b h = absurd (cc)
off_second false b h = h

module _ (settings : Settings) (range : InRange settings) (before : List Event) (cause : Cause) (now : List Event) (s : ℕ) where
  abbrev Mine : List Event → Type 0
  Mine events = Calm settings range before cause now s events

  abbrev pub AllTold : List Event → List (List ℕ) → Type 0
  AllTold events bodies = Tells settings range before cause now s (λ w. ⊥) events bodies

  abbrev OneTold : List ℕ → List Event → List (List ℕ) → Type 0
  OneTold u events bodies = Tells settings range before cause now s (λ w. bytes_eq w u ≡ false) events bodies

  both : {u : List ℕ} (events : List Event) (xs ys : List (List ℕ)) → OneTold u events xs → AllTold (behind events (to settings range before cause now s xs)) ys → AllTold events (xs ++ ys)
  both events xs ys f g = tells_both settings range before cause now s events xs ys (tells_fewer settings range before cause now s events xs (λ w k. absurd k) f) g

  -- sync(e), by what the start had of each document before

  module _ (held : List ℕ → Option HeldText) (e : ℕ) where
    -- the start still has of each document of e what it had
    abbrev pub Held : List Event → List Open → Type 0
    Held events os = AllByRecursion (λ (o : Open). nat_eq o.editor e ≡ true → held_at s o.uri events ≡ held o.uri) os

    rest_held : (events : List Event) (o : Open) (bodies : List (List ℕ)) → nat_eq o.editor e ≡ true → OneTold o.uri events bodies → (os : List Open) → AllByRecursion (λ (p : Open). is_open_at o.editor o.uri p ≡ false) os → Held events os
        → Held (behind events (to settings range before cause now s bodies)) os
    rest_held events o bodies own one [] once h = tt
    rest_held events o bodies own one (p ∷ ps) once h = (λ k. one.others p.uri (apart e o p once.0 own k) ∙ h.0 k, rest_held events o bodies own one ps once.1 h.1)

    -- of each document of e what is told of it, by what the start has
    module _ (telling : Open → Option HeldText → List (List ℕ)) (one_told : (events : List Event) (o : Open) (h : Option HeldText) → IsSpelt o → Mine events → held_at s o.uri events ≡ h → OneTold o.uri events (telling o h)) where
      abbrev all_of_them : List Open → List (List ℕ)
      all_of_them os = flat_map (λ (o : Open). telling o (held o.uri)) (filter (λ (o : Open). nat_eq o.editor e) os)

      each_told : (os : List Open) → Once os → AllSpelt os → (events : List Event) → Mine events → Held events os → AllTold events (all_of_them os)
      each_told [] once spelt events calm h = tells_none settings range before cause now s events calm
      each_told (o ∷ os) once spelt events calm h = go (nat_eq o.editor e) refl (λ later quiet held_so. each_told os once.1 spelt.1 later quiet held_so)
        where
          go : (b : Bool) → nat_eq o.editor e ≡ b → ((later : List Event) → Mine later → Held later os → AllTold later (all_of_them os)) → AllTold events (flat_map (λ (p : Open). telling p (held p.uri)) (cond b (o ∷ filter (λ (p : Open). nat_eq p.editor e) os) (filter (λ (p : Open). nat_eq p.editor e) os)))
          go true own rest =
              let one : OneTold o.uri events (telling o (held o.uri)) = one_told events o (held o.uri) spelt.0 calm (h.0 own) in
              both events (telling o (held o.uri)) (all_of_them os) one
              (rest (behind events (to settings range before cause now s (telling o (held o.uri)))) one.calm (rest_held events o (telling o (held o.uri)) own one os once.0 h.1))
          go false other rest = rest events calm h.1

    synced_told : (events : List Event) (o : Open) (h : Option HeldText) → IsSpelt o → Mine events → held_at s o.uri events ≡ h → OneTold o.uri events (synced settings.limits.versions o h)
    synced_told events o None k calm at = tells_none settings range before cause now s events calm
    synced_told events o (Some h) k calm at = differing_told settings range before cause now s events o h k calm at

    pub sync_told : (os : List Open) → Once os → AllSpelt os → (events : List Event) → Mine events → Held events os → AllTold events (sync_bodies settings.limits.versions held e os)
    sync_told os once spelt events calm h = each_told (synced settings.limits.versions) synced_told os once spelt events calm h

    -- L1: where e leaves, its documents are closed, or the start gets the text of who has them next
    module _ (all : List Open) (all_spelt : AllSpelt all) where
      left_told : (events : List Event) (o : Open) (h : Option HeldText) → IsSpelt o → Mine events → held_at s o.uri events ≡ h → OneTold o.uri events (left settings.limits.versions e all h o)
      left_told events o h k calm at = go h at (holder_beside e o.uri all) refl
        where
          go : (h : Option HeldText) → held_at s o.uri events ≡ h → (rest : Option Open) → holder_beside e o.uri all ≡ rest → OneTold o.uri events (sent_close settings.limits.versions o.uri rest h)
          go None at rest there = tells_none settings range before cause now s events calm
          go (Some h) at None there = close_told settings range before cause now s events o.uri h k.0 calm at
          go (Some h) at (Some p) there = subst (λ u. OneTold u events (differing settings.limits.versions p h)) (sym (beside_is e o.uri all p there)) (differing_told settings range before cause now s events p h
              (latest_spelt (λ q. bytes_eq q.uri o.uri && not (nat_eq q.editor e)) all p all_spelt there) calm (subst (λ u. held_at s u events ≡ Some h) (beside_is e o.uri all p there) at))

      pub leave_told : (os : List Open) → Once os → AllSpelt os → (events : List Event) → Mine events → Held events os → AllTold events (leave_bodies settings.limits.versions held e all os)
      leave_told os once spelt events calm h = each_told (λ o h. left settings.limits.versions e all h o) left_told os once spelt events calm h

  -- X4, where the start has none of the documents that weren't told

  module _ (all : List Open) (spelt : AllSpelt all) where
    abbrev NoneHeld : List (List ℕ) → List Event → Type 0
    NoneHeld told events = (w : List ℕ) → list_any (bytes_eq w) told ≡ false → held_at s w events ≡ None

    opens_it : Option Open → List (List ℕ)
    opens_it q = option_map_or (λ (h : Open). open_text h.uri h.language h.text ∷ []) q []

    pub replay_told : (told : List (List ℕ)) (os : List Open) (events : List Event) → Mine events → NoneHeld told events → AllTold events (replay_bodies told all os)
    replay_told told [] events calm none = tells_none settings range before cause now s events calm
    replay_told told (o ∷ os) events calm none = go (list_any (bytes_eq o.uri) told) refl (holder o.uri all) refl (replay_told told os events calm none) (λ later quiet still_none. replay_told (o.uri ∷ told) os later quiet still_none)
      where
        go : (b : Bool) → list_any (bytes_eq o.uri) told ≡ b → (q : Option Open) → holder o.uri all ≡ q → AllTold events (replay_bodies told all os)
            → ((later : List Event) → Mine later → NoneHeld (o.uri ∷ told) later → AllTold later (replay_bodies (o.uri ∷ told) all os))
            → AllTold events (cond b (replay_bodies told all os) (option_map_or (λ (h : Open). open_text h.uri h.language h.text ∷ []) q [] ++ replay_bodies (o.uri ∷ told) all os))
        go true e q at same rest = same
        go false e None at same rest = rest events calm (λ w k. none w (off_second (bytes_eq w o.uri) (list_any (bytes_eq w) told) k))
        go false e (Some h) at same rest =
            let is : h.uri ≡ o.uri = (bytes_eq-Decides h.uri o.uri).0 (latest_passes (λ p. bytes_eq p.uri o.uri) all h at) in
            let fine : IsSpelt h = latest_spelt (λ p. bytes_eq p.uri o.uri) all h spelt at in
            let one : OneTold h.uri events (open_text h.uri h.language h.text ∷ []) = open_told settings range before cause now s events h.uri h.language h.text fine.0 fine.1 fine.2 calm (none h.uri (subst (λ z. list_any (bytes_eq z) told ≡ false) (sym is) e)) in
            both events (open_text h.uri h.language h.text ∷ []) (replay_bodies (o.uri ∷ told) all os) one
            (rest (behind events (to settings range before cause now s (open_text h.uri h.language h.text ∷ []))) one.calm
            (λ w k. one.others w (subst (λ z. bytes_eq w z ≡ false) (sym is) (off_first (bytes_eq w o.uri) (list_any (bytes_eq w) told) k)) ∙ none w (off_second (bytes_eq w o.uri) (list_any (bytes_eq w) told) k)))
