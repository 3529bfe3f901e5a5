-- What waits, one event further.
use Rattle.std.proofs.Common.{◌≡◌, ℕ, Bool, true, false, not, ◌&&◌, ◌||◌, List, [], ◌∷◌, ◌++◌, drop, codes, length, refl, sym, subst, ◌∙◌, ap, ap₂, nat_eq, bytes_eq, if◌then◌else◌}
use Rattle.std.specs.Prelude.{Option, Some, None, filter, slice_get}
use Rattle.std.specs.List.{AllByRecursion}
use Rattle.std.specs.Option.{option_and_then, option_map_or}
use Rattle.std.proofs.lemmas.Slice.Eq.{bytes_eq-Decides}
use Rattle.json_text.specs.Json.{Json}
use Rattle.mux_history.specs.declared.cause.Cause.TheVariants.{FromEditor, EditorGone}
use Rattle.mux_history.specs.declared.cause.Why.{Why}
use Rattle.mux_history.specs.declared.out.Out.TheVariants.{ToEditor, ToServer, CloseEditor}
use Rattle.rpc_message.specs.Message.{Id, Message, id_bytes, message_of, not_message, request, same_id}
use Rattle.rpc_message.specs.ValueTexts.{IsIdText}
use Rattle.rpc_message.proofs.Ids.{request_id_bytes}
use Rattle.event_model.specs.declared.phase.Phase.{Phase}
use Rattle.event_model.specs.declared.phase.Phase.TheVariants.{New}
use Rattle.event_model.specs.Event.{Event, did, requests, took}
use Rattle.event_model.specs.Members.{params_of}
use Rattle.event_model.specs.Phases.{desk_of, is_multiplexer_request, is_new, is_served}
use Rattle.event_model.specs.Requests.{answered_id, is_open, is_own, open_behind, open_of, with_request, without}
use Rattle.event_model.specs.Settings.{Settings}
use Rattle.event_model.specs.Spawns.{group_behind, group_of}
use Rattle.event_model.proofs.Frames.{never, one_more}
use Rattle.event_model.proofs.Places.{same_item}
use Rattle.mux_facts.proofs.Words.{id_same, number_same, open_last, open_more, same_number, still_open}
use Rattle.group_words.specs.Houses.{home_of, house_of, is_home, placed_for, places}
use Rattle.group_words.specs.Placing.{home_by}
use Rattle.group_words.proofs.Frames.{home_more, home_stays, names_home}
use Rattle.group_rows.specs.Reserved.{reserves}
use Rattle.group_rows.specs.Waiting.{first_waiting, is_answered, is_for_start, is_misplaced, is_restarting, waiting_next, waiting_of, waits, without_first, worker_of}
use Rattle.group_rows.proofs.Cancelling.{text_meant}
use Rattle.group_rows.proofs.Frames.{touches_waiting, waiting_more, waiting_stays}
use Rattle.held_requests.specs.declared.request.Request.{Request}
use Rattle.held_requests.specs.Tables.{asked, is_of, is_under, takes}
use Rattle.id_rewrite.specs.Forms.{same_form}
use Rattle.id_rewrite.proofs.Finding.{texts_same}
use Rattle.numbered_rows.specs.Rows.{less}
use Rattle.mux_tokens.proofs.Rows.{num_back}
use Rattle.mux_waits.specs.Rows.{Becomes, BecomesAt, Rows, held_of}
use Rattle.mux_waits.specs.Stands.{HasOwnId, HaveOwnIds, HeldStand, IsHeld, Unheld, WaitingStand, is_passed}
use Rattle.mux_waits.proofs.Lists.{all_kept, all_last, all_map, all_rest, all_stay, kept_same, less_own, own_kept, own_last, own_rest}

pub waiting_begins : (settings : Settings) → WaitingStand settings [] []
waiting_begins settings g = record { same = refl; each = tt; own = tt }

-- Tests

and_first : (a b : Bool) → a ≡ false → (a && b) ≡ false
and_first true b h = never h
and_first false b h = refl

and_left : (a b : Bool) → (a && b) ≡ true → a ≡ true
and_left true b h = refl
and_left false b h = never (sym h)

and_right : (a b : Bool) → (a && b) ≡ true → b ≡ true
and_right true b h = h
and_right false b h = never (sym h)

then_off : (a b : Bool) → not (a && b) ≡ true → a ≡ true → b ≡ false
then_off true true h k = never (sym h)
then_off true false h k = refl
then_off false b h k = never (sym k)

off : (b : Bool) → not b ≡ true → b ≡ false
off true h = never (sym h)
off false h = refl

either_same : {A : Type 0} (b : Bool) (x y : A) → x ≡ y → (if b then x else y) ≡ y
either_same true x y h = h
either_same false x y h = refl

some_none : {g : ℕ} → ◌≡◌ {A = Option ℕ} (Some g) None → ⊥
some_none h = cc

-- one that waits has the text of its id
pub held_text : (settings : Settings) (g : ℕ) (events : List Event) (r : Request) (h : IsHeld settings g events r) → IsIdText h.name r.id
held_text settings g events r h = subst (λ w. IsIdText h.name w) (sym h.bytes) (request_id_bytes r.body h.name h.method h.params h.says)

-- its editor is of the group alone
away : (settings : Settings) (n e : ℕ) (events : List Event) (r : Request) → is_home n (home_of settings e events) ≡ false → IsHeld settings n events r → nat_eq r.editor e ≡ false
away settings n e events r other h = go (nat_eq r.editor e) refl
  where
    go : (b : Bool) → nat_eq r.editor e ≡ b → b ≡ false
    go false is = refl
    go true is =
        let own : r.editor ≡ e = number_same r.editor e is in
        never (sym (same_number n) ∙ (ap (is_home n) (sym (ap (λ k. home_of settings k events) (sym own) ∙ h.home)) ∙ other))

module _ (settings : Settings) (events : List Event) (ev : Event) where
  abbrev later : List Event
  later = events ++ ev ∷ []

  open_next : (e : ℕ) → open_of e later ≡ open_behind e (open_of e events) ev
  open_next e = one_more (open_behind e) [] (open_of e events) events ev refl

  -- one goes on to wait
  goes : (g : ℕ) (r : Request) (h : IsHeld settings g events r) → home_of settings r.editor later ≡ home_of settings r.editor events → is_open h.name (open_behind r.editor (open_of r.editor events) ev) ≡ true → IsHeld settings g later r
  goes g r h home opens = record { name = h.name; method = h.method; params = h.params; says = h.says; other = h.other; bytes = h.bytes; home = home ∙ h.home; open_id = ap (is_open h.name) (open_next r.editor) ∙ opens }

  -- what waits in a group becomes this
  stand : (g : ℕ) (rs new : List Request) → HeldStand settings g events rs → new ≡ waiting_next settings g events rs ev → AllByRecursion (IsHeld settings g later) new → HaveOwnIds new → HeldStand settings g later new
  stand g rs new h is each own = record { same = is ∙ (ap (λ xs. waiting_next settings g events xs ev) h.same ∙ sym (waiting_more settings g events ev)); each = each; own = own }

  -- in one group something changes, and in no other one
  by_group : (g : ℕ) (f : List Request → List Request) (rows new : Rows) → Becomes g f rows new → ((n : ℕ) (rs : List Request) → nat_eq g n ≡ true → HeldStand settings n events rs → HeldStand settings n later (f rs))
      → ((n : ℕ) (rs : List Request) → nat_eq g n ≡ false → HeldStand settings n events rs → HeldStand settings n later rs) → WaitingStand settings rows events → WaitingStand settings new later
  by_group g f rows new is here there st n = subst (λ xs. HeldStand settings n later xs) (sym (is n)) (go (nat_eq g n) refl)
    where
      go : (b : Bool) → nat_eq g n ≡ b → HeldStand settings n later (if b then f (held_of n rows) else held_of n rows)
      go true h = here n (held_of n rows) h (st n)
      go false h = there n (held_of n rows) h (st n)

  by_home : (home : Option ℕ) (f : List Request → List Request) (rows new : Rows) → BecomesAt home f rows new → ((n : ℕ) (rs : List Request) → is_home n home ≡ true → HeldStand settings n events rs → HeldStand settings n later (f rs))
      → ((n : ℕ) (rs : List Request) → is_home n home ≡ false → HeldStand settings n events rs → HeldStand settings n later rs) → WaitingStand settings rows events → WaitingStand settings new later
  by_home None f rows new is here there st n = subst (λ xs. HeldStand settings n later (held_of n xs)) (sym is) (there n (held_of n rows) refl (st n))
  by_home (Some g) f rows new is here there st n = by_group g f rows new is here there st n

  -- no editor of another group waits in this one
  pub beside : (e n : ℕ) (rs : List Request) → is_home n (home_of settings e events) ≡ false → AllByRecursion (IsHeld settings n events) rs → filter (λ r. not (is_of e r)) rs ≡ rs
  beside e n rs other h = all_stay (IsHeld settings n events) (λ r. not (is_of e r)) rs (λ r k. ap not (away settings n e events r other k)) h

-- the first that waits
pub first_held : (settings : Settings) (rows : Rows) (g : ℕ) (events : List Event) (r : Request) → WaitingStand settings rows events → slice_get (waiting_of settings g events) 0 ≡ Some r → IsHeld settings g events r
first_held settings rows g events r st first = among (held_of g rows) (st g).each (ap (λ rs. slice_get rs 0) (st g).same ∙ first)
  where
    among : (rs : List Request) → AllByRecursion (IsHeld settings g events) rs → slice_get rs 0 ≡ Some r → IsHeld settings g events r
    among [] h is = absurd (cc)
    among (q ∷ rs) h is = subst (IsHeld settings g events) (same_item is) h.0

-- Nothing happens to what waits

home_still : (n : ℕ) (ev : Event) → touches_waiting ev ≡ false → names_home n ev ≡ false
home_still n (took (FromEditor e body) m) h = never h
home_still n (took (EditorGone e why) m) h = never h
home_still n other h = refl

open_still : (e : ℕ) (ids : List Id) (ev : Event) → touches_waiting ev ≡ false → open_behind e ids ev ≡ ids
open_still e ids (took (FromEditor n body) m) h = never h
open_still e ids (did (ToEditor n body) m) h = never h
open_still e ids other h = refl

pub quiet_waits : (settings : Settings) (rows : Rows) (events : List Event) (ev : Event) → touches_waiting ev ≡ false → WaitingStand settings rows events → WaitingStand settings rows (events ++ ev ∷ [])
quiet_waits settings rows events ev q st g = record {
  same = (st g).same ∙ sym (waiting_stays settings g events ev q);
  each = all_map (IsHeld settings g events) (IsHeld settings g (events ++ ev ∷ [])) (held_of g rows) (λ r h. goes settings events ev g r h (home_stays settings r.editor events ev (home_still r.editor ev q)) (ap (is_open h.name) (open_still r.editor (open_of r.editor events) ev q) ∙ h.open_id)) (st g).each;
  own = (st g).own;
}

-- A body to a start

-- that is no editor's request
untaken : (w : Option ℕ) (m : Message) → is_passed m ≡ false → (rs : List Request) → without_first w m rs ≡ rs
untaken None (request id method ps) h rs = go (is_own method) h
  where
    go : (b : Bool) → not b ≡ false → (if b then rs else drop 1 rs) ≡ rs
    go true h = refl
    go false h = never h
untaken w other h rs = refl

pub waiting_told : (settings : Settings) (g s : ℕ) (body : List ℕ) (m : Message) (events : List Event) → is_passed m ≡ false → waiting_of settings g (events ++ did (ToServer s body) m ∷ []) ≡ waiting_of settings g events
waiting_told settings g s body m events h = waiting_more settings g events (did (ToServer s body) m)
    ∙ either_same (is_home g (group_of s events)) (without_first (worker_of events) m (waiting_of settings g events)) (waiting_of settings g events) (untaken (worker_of events) m h (waiting_of settings g events))

pub first_told : (settings : Settings) (n s : ℕ) (body : List ℕ) (m : Message) (events : List Event) → is_passed m ≡ false → first_waiting settings n (events ++ did (ToServer s body) m ∷ []) ≡ first_waiting settings n events
first_told settings n s body m events h = ap (option_and_then (λ g. slice_get (waiting_of settings g (events ++ did (ToServer s body) m ∷ [])) 0)) (one_more (group_behind n) _ _ events (did (ToServer s body) m) refl) ∙ go (group_of n events)
  where
    go : (o : Option ℕ) → option_and_then (λ g. slice_get (waiting_of settings g (events ++ did (ToServer s body) m ∷ [])) 0) o ≡ option_and_then (λ g. slice_get (waiting_of settings g events) 0) o
    go None = refl
    go (Some g) = ap (λ rs. slice_get rs 0) (waiting_told settings g s body m events h)

module _ (settings : Settings) (events : List Event) (s : ℕ) (body : List ℕ) (m : Message) where
  abbrev to_start : Event
  to_start = did (ToServer s body) m

  told_goes : (g : ℕ) (r : Request) → IsHeld settings g events r → IsHeld settings g (events ++ to_start ∷ []) r
  told_goes g r h = goes settings events to_start g r h (home_stays settings r.editor events to_start refl) h.open_id

  untaken_waits : (rows : Rows) → ((rs : List Request) → without_first (worker_of events) m rs ≡ rs) → WaitingStand settings rows events → WaitingStand settings rows (events ++ to_start ∷ [])
  untaken_waits rows same st g = stand settings events to_start g (held_of g rows) (held_of g rows) (st g) (sym (either_same (is_home g (group_of s events)) (without_first (worker_of events) m (held_of g rows)) (held_of g rows) (same (held_of g rows))))
      (all_map (IsHeld settings g events) (IsHeld settings g (events ++ to_start ∷ [])) (held_of g rows) (told_goes g) (st g).each) (st g).own

  -- that is no editor's request
  pub told_waits : (rows : Rows) → is_passed m ≡ false → WaitingStand settings rows events → WaitingStand settings rows (events ++ to_start ∷ [])
  told_waits rows h st = untaken_waits rows (untaken (worker_of events) m h) st

  -- by which the message of an editor goes on
  pub passed_waits : (rows : Rows) (e : ℕ) → worker_of events ≡ Some e → WaitingStand settings rows events → WaitingStand settings rows (events ++ to_start ∷ [])
  passed_waits rows e works st = untaken_waits rows (λ rs. ap (λ w. without_first w m rs) works) st

  -- S2: by which the first that waits does
  pub sent_waits : (rows new : Rows) (g : ℕ) → worker_of events ≡ None → is_passed m ≡ true → group_of s events ≡ Some g → Becomes g (drop 1) rows new → WaitingStand settings rows events → WaitingStand settings new (events ++ to_start ∷ [])
  sent_waits rows new g idle passed home is st = by_group settings events to_start g (drop 1) rows new is
      (λ n rs same h. stand settings events to_start n rs (drop 1 rs) h (sym (next n rs same)) (all_map (IsHeld settings n events) (IsHeld settings n (events ++ to_start ∷ [])) (drop 1 rs) (told_goes n) (all_rest (IsHeld settings n events) rs h.each)) (own_rest rs h.own))
      (λ n rs other h. stand settings events to_start n rs rs h (sym (stays n rs other)) (all_map (IsHeld settings n events) (IsHeld settings n (events ++ to_start ∷ [])) rs (told_goes n) h.each) h.own) st
    where
      taken : (m : Message) (rs : List Request) → is_passed m ≡ true → without_first None m rs ≡ drop 1 rs
      taken (request id method ps) rs h = ap (λ b. if b then rs else drop 1 rs) (off (is_own method) h)
      taken other rs h = never (sym h)

      next : (n : ℕ) (rs : List Request) → nat_eq g n ≡ true → waiting_next settings n events rs to_start ≡ drop 1 rs
      next n rs same = ap (λ b. if b then without_first (worker_of events) m rs else rs) (ap (is_home n) home ∙ same) ∙ (ap (λ w. without_first w m rs) idle ∙ taken m rs passed)

      stays : (n : ℕ) (rs : List Request) → nat_eq g n ≡ false → waiting_next settings n events rs to_start ≡ rs
      stays n rs other = ap (λ b. if b then without_first (worker_of events) m rs else rs) (ap (is_home n) home ∙ other)

-- A body to an editor

module _ (settings : Settings) (events : List Event) (e : ℕ) (body : List ℕ) (m : Message) where
  abbrev to_editor : Event
  to_editor = did (ToEditor e body) m

  -- under no id
  pub silent_waits : (rows : Rows) → answered_id m ≡ None → WaitingStand settings rows events → WaitingStand settings rows (events ++ to_editor ∷ [])
  silent_waits rows none st g = stand settings events to_editor g (held_of g rows) (held_of g rows) (st g)
      (sym (all_stay (IsHeld settings g events) (λ r. not (is_answered e (answered_id m) r)) (held_of g rows) (λ r h. ap (λ o. not (is_answered e o r)) none) (st g).each))
      (all_map (IsHeld settings g events) (IsHeld settings g (events ++ to_editor ∷ [])) (held_of g rows) (λ r h. goes settings events to_editor g r h (home_stays settings r.editor events to_editor refl) (still r h)) (st g).each) (st g).own
    where
      still : (r : Request) (h : IsHeld settings g events r) → is_open h.name (if nat_eq e r.editor then without (answered_id m) (open_of r.editor events) else open_of r.editor events) ≡ true
      still r h = ap (is_open h.name) (either_same (nat_eq e r.editor) (without (answered_id m) (open_of r.editor events)) (open_of r.editor events) (ap (λ o. without o (open_of r.editor events)) none)) ∙ h.open_id

  -- under the id of this text
  module _ (id : List ℕ) (name : Id) (text : IsIdText name id) (says : answered_id m ≡ Some name) where
    meant : (g : ℕ) (r : Request) (h : IsHeld settings g events r) → is_answered e (answered_id m) r ≡ (nat_eq r.editor e && same_id name h.name)
    meant g r h = ap (λ o. is_answered e o r) says ∙ ap (λ o. nat_eq r.editor e && option_map_or (same_id name) o false) (text_meant h.name r.id (held_text settings g events r h))

    under : (g : ℕ) (r : Request) → IsHeld settings g events r → is_answered e (answered_id m) r ≡ is_under e id r
    under g r h = meant g r h ∙ ap (λ b. nat_eq r.editor e && b) (sym (texts_same name h.name id r.id text (held_text settings g events r h)))

    -- one that isn't answered is open still
    others_go : (g : ℕ) (r : Request) → not (is_answered e (answered_id m) r) ≡ true → IsHeld settings g events r → IsHeld settings g (events ++ to_editor ∷ []) r
    others_go g r passes h = goes settings events to_editor g r h (home_stays settings r.editor events to_editor refl) (still (nat_eq e r.editor) refl)
      where
        still : (b : Bool) → nat_eq e r.editor ≡ b → is_open h.name (if b then without (answered_id m) (open_of r.editor events) else open_of r.editor events) ≡ true
        still false is = h.open_id
        still true is = ap (λ o. is_open h.name (without o (open_of r.editor events))) says
            ∙ still_open name h.name (open_of r.editor events) h.open_id (then_off (nat_eq r.editor e) (same_id name h.name) (ap not (sym (meant g r h)) ∙ passes) (num_back r.editor e ∙ is))

    pub answered_waits : (rows new : Rows) → BecomesAt (home_of settings e events) (less (is_under e id)) rows new → WaitingStand settings rows events → WaitingStand settings new (events ++ to_editor ∷ [])
    answered_waits rows new is st = by_home settings events to_editor (home_of settings e events) (less (is_under e id)) rows new is here there st
      where
        here : (n : ℕ) (rs : List Request) → is_home n (home_of settings e events) ≡ true → HeldStand settings n events rs → HeldStand settings n (events ++ to_editor ∷ []) (less (is_under e id) rs)
        here n rs home h =
            let same : less (is_under e id) rs ≡ filter (λ r. not (is_answered e (answered_id m) r)) rs
            = less_own e id rs h.own ∙ kept_same (IsHeld settings n events) (λ r. not (is_under e id r)) (λ r. not (is_answered e (answered_id m) r)) rs (λ r k. ap not (sym (under n r k))) h.each in
            stand settings events to_editor n rs (less (is_under e id) rs) h same
            (subst (λ xs. AllByRecursion (IsHeld settings n (events ++ to_editor ∷ [])) xs) (sym same) (all_kept (IsHeld settings n events) (IsHeld settings n (events ++ to_editor ∷ [])) (λ r. not (is_answered e (answered_id m) r)) rs (others_go n) h.each))
            (subst HaveOwnIds (sym same) (own_kept (λ r. not (is_answered e (answered_id m) r)) rs h.own))

        unlike : (n : ℕ) (r : Request) → is_home n (home_of settings e events) ≡ false → IsHeld settings n events r → not (is_answered e (answered_id m) r) ≡ true
        unlike n r other h = ap not (meant n r h ∙ and_first (nat_eq r.editor e) (same_id name h.name) (away settings n e events r other h))

        there : (n : ℕ) (rs : List Request) → is_home n (home_of settings e events) ≡ false → HeldStand settings n events rs → HeldStand settings n (events ++ to_editor ∷ []) rs
        there n rs other h = stand settings events to_editor n rs rs h (sym (all_stay (IsHeld settings n events) (λ r. not (is_answered e (answered_id m) r)) rs (λ r k. unlike n r other k) h.each))
            (all_map (IsHeld settings n events) (IsHeld settings n (events ++ to_editor ∷ [])) rs (λ r k. others_go n r (unlike n r other k) k) h.each) h.own

-- An editor's link is to be ended, or ended

module _ (settings : Settings) (events : List Event) (e : ℕ) (rows new : Rows) (home : Option ℕ) (own_home : home ≡ home_of settings e events) (is : BecomesAt home (filter (λ r. not (is_of e r))) rows new) where
  left_waits : (ev : Event) → ((n : ℕ) (rs : List Request) → waiting_next settings n events rs ev ≡ filter (λ r. not (is_of e r)) rs) → ((n : ℕ) (r : Request) → nat_eq r.editor e ≡ false → IsHeld settings n events r → IsHeld settings n (events ++ ev ∷ []) r)
      → WaitingStand settings rows events → WaitingStand settings new (events ++ ev ∷ [])
  left_waits ev next go st = by_home settings events ev home (filter (λ r. not (is_of e r))) rows new is
      (λ n rs _ h. stand settings events ev n rs (filter (λ r. not (is_of e r)) rs) h (sym (next n rs)) (all_kept (IsHeld settings n events) (IsHeld settings n (events ++ ev ∷ [])) (λ r. not (is_of e r)) rs (λ r passes k. go n r (off (nat_eq r.editor e) passes) k) h.each) (own_kept (λ r. not (is_of e r)) rs h.own))
      (λ n rs other h.
      let far : is_home n (home_of settings e events) ≡ false = ap (is_home n) (sym own_home) ∙ other in
      stand settings events ev n rs rs h (sym (next n rs ∙ beside settings events ev e n rs far h.each)) (all_map (IsHeld settings n events) (IsHeld settings n (events ++ ev ∷ [])) rs (λ r k. go n r (away settings n e events r far k) k) h.each) h.own) st

  pub closed_waits : WaitingStand settings rows events → WaitingStand settings new (events ++ did (CloseEditor e) not_message ∷ [])
  closed_waits st = left_waits (did (CloseEditor e) not_message) (λ n rs. refl) (λ n r _ h. goes settings events (did (CloseEditor e) not_message) n r h (home_stays settings r.editor events (did (CloseEditor e) not_message) refl) h.open_id) st

  pub gone_waits : (why : Why) → WaitingStand settings rows events → WaitingStand settings new (events ++ took (EditorGone e why) not_message ∷ [])
  gone_waits why st = left_waits (took (EditorGone e why) not_message) (λ n rs. refl)
      (λ n r other h. goes settings events (took (EditorGone e why) not_message) n r h (home_stays settings r.editor events (took (EditorGone e why) not_message) (num_back e r.editor ∙ other)) h.open_id) st

-- A message of an editor

module _ (settings : Settings) (events : List Event) (e : ℕ) (body : List ℕ) (m : Message) (unplaced : is_new (desk_of e events).phase ≡ true → home_of settings e events ≡ None) where
  abbrev from_editor : Event
  from_editor = took (FromEditor e body) m

  heard_goes : (g : ℕ) (r : Request) → IsHeld settings g events r → IsHeld settings g (events ++ from_editor ∷ []) r
  heard_goes g r h = goes settings events from_editor g r h (home_more settings r.editor events from_editor ∙ home (nat_eq e r.editor) refl) (opens (nat_eq e r.editor))
    where
      old : nat_eq e r.editor ≡ true → (b : Bool) → is_new (desk_of e events).phase ≡ b → b ≡ false
      old same false is = refl
      old same true is = absurd (some_none (sym h.home ∙ (ap (λ k. home_of settings k events) (sym (number_same e r.editor same)) ∙ unplaced is)))

      home : (b : Bool) → nat_eq e r.editor ≡ b
          → (if b && places (desk_of e events).phase m then home_by (placed_for settings events e body (house_of settings events).groups) (home_of settings r.editor events) else home_of settings r.editor events) ≡ home_of settings r.editor events
      home false same = refl
      home true same = rw (old same (is_new (desk_of e events).phase) refl) refl

      more : (m : Message) (ids : List Id) → is_open h.name ids ≡ true → is_open h.name (with_request m ids) ≡ true
      more (request id method ps) ids k = open_more h.name ids (id ∷ []) k
      more other ids k = k

      opens : (b : Bool) → is_open h.name (if b then with_request m (open_of r.editor events) else open_of r.editor events) ≡ true
      opens true = more m (open_of r.editor events) h.open_id
      opens false = h.open_id

  -- that doesn't wait
  pub heard_waits : (rows : Rows) → Unheld settings e body m events → WaitingStand settings rows events → WaitingStand settings rows (events ++ from_editor ∷ [])
  heard_waits rows unheld st g = stand settings events from_editor g (held_of g rows) (held_of g rows) (st g)
      (sym (ap (λ b. if b then held_of g rows ++ asked e (id_bytes body) body ∷ [] else held_of g rows) (ap (waits settings g events e body m) (st g).same ∙ unheld g)))
      (all_map (IsHeld settings g events) (IsHeld settings g (events ++ from_editor ∷ [])) (held_of g rows) (heard_goes g) (st g).each) (st g).own

-- what a request for a start is
pub record IsAsked (e : ℕ) (m : Message) (events : List Event) : Type 0 where
  pub name : Id
  pub method : List ℕ
  pub params : Option Json
  pub says : m ≡ request name method params
  pub other : is_own method ≡ false
  pub fresh : is_open name (open_of e events) ≡ false
  pub ours : is_multiplexer_request m ≡ false
  pub down : requests (codes "shutdown") m ≡ false

pub asked_is : (events : List Event) (e : ℕ) (body : List ℕ) (m : Message) → is_for_start events e body m ≡ true → IsAsked e m events
asked_is events e body (request id method ps) h = record {
  name = id;
  method = method;
  params = ps;
  says = refl;
  other = no_own;
  fresh = off (is_open id (open_of e events)) (and_left (not (is_open id (open_of e events))) _ h);
  ours = off (is_multiplexer_request (request id method ps)) (and_left (not (is_multiplexer_request (request id method ps))) _ (and_right (not (is_open id (open_of e events))) _ h));
  down = not_down;
}
  where
    rest : (not (is_misplaced method) && (not (bytes_eq (codes "shutdown") method) && not (reserves (params_of body)))) ≡ true
    rest = and_right (not (is_multiplexer_request (request id method ps))) _ (and_right (not (is_open id (open_of e events))) _ h)

    not_named : (name : List ℕ) → bytes_eq name method ≡ false → bytes_eq method name ≡ false
    not_named name other = go (bytes_eq method name) refl
      where
        go : (b : Bool) → bytes_eq method name ≡ b → b ≡ false
        go false is = refl
        go true is = let same : method ≡ name = (bytes_eq-Decides method name).0 is in never (sym ((bytes_eq-Decides name method).1 (sym same)) ∙ other)

    or_first : (a b : Bool) → (a || b) ≡ false → a ≡ false
    or_first true b h = never h
    or_first false b h = refl

    both_off : (a b : Bool) → a ≡ false → b ≡ false → (a || b) ≡ false
    both_off true b h k = never h
    both_off false b h k = k

    not_down : bytes_eq (codes "shutdown") method ≡ false
    not_down = off (bytes_eq (codes "shutdown") method) (and_left (not (bytes_eq (codes "shutdown") method)) _ (and_right (not (is_misplaced method)) _ rest))

    no_own : is_own method ≡ false
    no_own = both_off (bytes_eq method (codes "initialize")) (bytes_eq method (codes "shutdown"))
        (not_named (codes "initialize") (or_first (bytes_eq (codes "initialize") method) _ (off (is_misplaced method) (and_left (not (is_misplaced method)) _ rest))))
        (not_named (codes "shutdown") not_down)
asked_is events e body other h = never (sym h)

-- E10: it waits in the group of its editor
module _ (settings : Settings) (events : List Event) (e g : ℕ) (body : List ℕ) (home : home_of settings e events ≡ Some g) (served : is_served (desk_of e events).phase ≡ true) (asks : is_for_start events e body (message_of body) ≡ true) (restarts : is_restarting g events ≡ true) where
  placed_once : is_new (desk_of e events).phase ≡ true → home_of settings e events ≡ None
  placed_once new = unserved (desk_of e events).phase served new
    where
      unserved : (p : Phase) → is_served p ≡ true → is_new p ≡ true → home_of settings e events ≡ None
      unserved New h k = never (sym h)
      unserved other h k = never (sym k)

  new_held : IsHeld settings g (events ++ took (FromEditor e body) (message_of body) ∷ []) (asked e (id_bytes body) body)
  new_held =
      let a : IsAsked e (message_of body) events = asked_is events e body (message_of body) asks in
      record {
        name = a.name;
        method = a.method;
        params = a.params;
        says = a.says;
        other = a.other;
        bytes = refl;
        home = home_more settings e events (took (FromEditor e body) (message_of body)) ∙ (stays (is_new (desk_of e events).phase) refl ∙ home);
        open_id = ap (is_open a.name) (open_next settings events (took (FromEditor e body) (message_of body)) e ∙ ap (λ b. if b then with_request (message_of body) (open_of e events) else open_of e events) (same_number e) ∙ ap (λ m. with_request m (open_of e events)) a.says) ∙ open_last a.name (open_of e events);
      }
    where
      stays : (b : Bool) → is_new (desk_of e events).phase ≡ b
          → (if nat_eq e e && places (desk_of e events).phase (message_of body) then home_by (placed_for settings events e body (house_of settings events).groups) (home_of settings e events) else home_of settings e events) ≡ home_of settings e events
      stays true is = absurd (some_none (sym home ∙ placed_once is))
      stays false is = rw (same_number e, is) refl

  -- under an id of its own
  new_own : (r : Request) → IsHeld settings g events r → HasOwnId r (asked e (id_bytes body) body)
  new_own r h = go (nat_eq e r.editor) refl
    where
      a : IsAsked e (message_of body) events
      a = asked_is events e body (message_of body) asks

      unlike : e ≡ r.editor → (b : Bool) → same_id h.name a.name ≡ b → b ≡ false
      unlike own false is = refl
      unlike own true is = never (sym h.open_id ∙ (ap₂ (λ i k. is_open i (open_of k events)) (id_same h.name a.name is) (sym own) ∙ a.fresh))

      go : (b : Bool) → nat_eq e r.editor ≡ b → (b && same_form r.id (id_bytes body)) ≡ false
      go false is = refl
      go true is = texts_same h.name a.name r.id (id_bytes body) (held_text settings g events r h) (request_id_bytes body a.name a.method a.params a.says) ∙ unlike (number_same e r.editor is) (same_id h.name a.name) refl

  pub held_waits : (rows new : Rows) → takes e (length body) (held_of g rows) ≡ true → Becomes g (λ rs. rs ++ asked e (id_bytes body) body ∷ []) rows new
      → WaitingStand settings rows events → WaitingStand settings new (events ++ took (FromEditor e body) (message_of body) ∷ [])
  held_waits rows new room is st = subst_all
    where
      goes_on : (n : ℕ) (r : Request) → IsHeld settings n events r → IsHeld settings n (events ++ took (FromEditor e body) (message_of body) ∷ []) r
      goes_on n r h = heard_goes settings events e body (message_of body) placed_once n r h

      next : (n : ℕ) (rs : List Request) → nat_eq g n ≡ true → takes e (length body) rs ≡ true → waits settings n events e body (message_of body) rs ≡ true
      next n rs same takes_it = rw (home, same, served, asks, ap (λ k. is_restarting k events) (sym (number_same g n same)) ∙ restarts, takes_it) refl

      others : (n : ℕ) (rs : List Request) → nat_eq g n ≡ false → waits settings n events e body (message_of body) rs ≡ false
      others n rs other = rw (home, other) refl

      subst_all : WaitingStand settings new (events ++ took (FromEditor e body) (message_of body) ∷ [])
      subst_all n = subst (λ xs. HeldStand settings n (events ++ took (FromEditor e body) (message_of body) ∷ []) xs) (sym (is n)) (go (nat_eq g n) refl)
        where
          go : (b : Bool) → nat_eq g n ≡ b → HeldStand settings n (events ++ took (FromEditor e body) (message_of body) ∷ []) (if b then held_of n rows ++ asked e (id_bytes body) body ∷ [] else held_of n rows)
          go true same =
              let own : g ≡ n = number_same g n same in
              let rs = held_of n rows in
              stand settings events (took (FromEditor e body) (message_of body)) n rs (rs ++ asked e (id_bytes body) body ∷ []) (st n)
              (sym (ap (λ b. if b then rs ++ asked e (id_bytes body) body ∷ [] else rs) (next n rs same (subst (λ k. takes e (length body) (held_of k rows) ≡ true) own room))))
              (all_last (IsHeld settings n (events ++ took (FromEditor e body) (message_of body) ∷ [])) rs (asked e (id_bytes body) body) (all_map (IsHeld settings n events) (IsHeld settings n (events ++ took (FromEditor e body) (message_of body) ∷ [])) rs (goes_on n) (st n).each) (subst (λ k. IsHeld settings k (events ++ took (FromEditor e body) (message_of body) ∷ []) (asked e (id_bytes body) body)) own new_held))
              (own_last rs (asked e (id_bytes body) body) (st n).own (all_map (IsHeld settings n events) (λ q. HasOwnId q (asked e (id_bytes body) body)) rs (λ r h. new_own r (subst (λ k. IsHeld settings k events r) (sym own) h)) (st n).each))
          go false other = stand settings events (took (FromEditor e body) (message_of body)) n (held_of n rows) (held_of n rows) (st n)
              (sym (ap (λ b. if b then held_of n rows ++ asked e (id_bytes body) body ∷ [] else held_of n rows) (others n (held_of n rows) other)))
              (all_map (IsHeld settings n events) (IsHeld settings n (events ++ took (FromEditor e body) (message_of body) ∷ [])) (held_of n rows) (goes_on n) (st n).each) (st n).own
