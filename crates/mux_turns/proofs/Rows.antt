-- Rows of an editor's group, and of a group's start.
use Rattle.std.proofs.Common.{◌≡◌, ℕ, Bool, true, false, ◌&&◌, nat_lt, cond, List, [], ◌∷◌, filter, length, map, nat_eq, not, refl, ap, ap₂, sym, ◌∙◌}
use Rattle.std.specs.Prelude.{Option, Some, None}
use Rattle.std.specs.Option.{option_and_then, option_map_or}
use Rattle.mux_history.specs.declared.out.Out.TheVariants.{ToServer}
use Rattle.rpc_message.specs.Texts.{invalid_params, request_failed}
use Rattle.event_model.specs.declared.stage.Stage.{Stage}
use Rattle.event_model.specs.Does.{Alike}
use Rattle.event_model.specs.Event.{Event}
use Rattle.event_model.specs.Members.{params_of}
use Rattle.event_model.specs.Row.{Row, nothing, choose, each, on, send, ◌⨾◌}
use Rattle.event_model.specs.Settings.{Settings}
use Rattle.event_model.specs.Spawns.{start_of}
use Rattle.event_model.specs.Stages.{is_ready, life_of}
use Rattle.event_model.proofs.Turns.{alike, alike_then, alike_true, alike_false}
use Rattle.group_facts.specs.group_rows.specs.Forwarded.{forwarding_of}
use Rattle.mux_tables.specs.ask_route.specs.declared.ask.Ask as route
use Rattle.group_facts.specs.group_rows.specs.Asks.{Ask, asks_of, is_with}
use Rattle.group_facts.specs.group_rows.specs.Leaves.{cancel, cancels, cancels_row, refusals, refuse, uncancelled_of}
use Rattle.group_facts.specs.group_rows.specs.Rows.{answer_error, can_ask, forward, notice_at, notice_row, request_at, request_row, sync_row}
use Rattle.group_facts.specs.group_rows.specs.Reserved.{reserves}
use Rattle.group_facts.specs.group_rows.specs.Waiting.{waiting_of}
use Rattle.group_facts.specs.group_rows.specs.held_requests.specs.Tables.{takes}
use Rattle.group_words.specs.Houses.{home_of}
use Rattle.mux_tables.specs.Refusals.{of_editor, refusal}
use Rattle.mux_turns.specs.Waits.{waiting_at, waiting_row}
use Rattle.mux_tables.specs.Stands.{HasEnded, kept_ask, start_for}

back : {r p : Row} → Alike r p → Alike p r
back h = record { sends = λ events. sym (h.sends events) }

-- where the group has no start, or one that ended, and where it has another
pub ended_start : (home : Option ℕ) (start : ℕ → Option ℕ) (p : Row) (f : ℕ → ℕ → Row) → ((g s : ℕ) → option_and_then start home ≡ Some s → Alike (f g s) p) → Alike (on home p (λ g. on (start g) p (f g))) p
ended_start None start p f h = alike refl
ended_start (Some g) start p f h = go (start g) refl
  where
    go : (o : Option ℕ) → start g ≡ o → Alike (on o p (f g)) p
    go None e = alike refl
    go (Some s) e = h g s e

pub some_start : (home : Option ℕ) (start : ℕ → Option ℕ) (p : Row) (f : ℕ → ℕ → Row) (g s : ℕ) → home ≡ Some g → start g ≡ Some s → on home p (λ g. on (start g) p (f g)) ≡ f g s
some_start home start p f g s h k = ap (λ o. on o p (λ g. on (start g) p (f g))) h ∙ ap (λ o. on o p (f g)) k

-- a row of which is known which part it is
pub is_first : {r p q : Row} {b : Bool} → r ≡ choose b p q → b ≡ true → Alike r p
is_first {r} {p} {q} e h = alike_then (alike (e ∙ ap (λ c. choose c p q) h)) alike_true

pub is_second : {r p q : Row} {b : Bool} → r ≡ choose b p q → b ≡ false → Alike r q
is_second {r} {p} {q} e h = alike_then (alike (e ∙ ap (λ c. choose c p q) h)) alike_false

module _ (settings : Settings) (before : List Event) (e : ℕ) where
  -- L1
  abbrev by_ready : ℕ → Bool → Row
  by_ready s b = choose b (each (cancel s) (uncancelled_of e (forwarding_of settings s before).open_requests)) nothing ⨾ choose b (each (refuse s) (filter (is_with e) (asks_of settings s before))) nothing

  -- where it isn't ready
  unready_both : (s : ℕ) → is_ready (life_of s before).stage ≡ false → Alike (cancels settings before s e ⨾ refusals settings before s e) nothing
  unready_both s h = alike_then (alike (ap (by_ready s) h)) (record { sends = λ events. refl })

  pub ended_left : HasEnded (start_for settings e before) before → Alike (cancels_row settings before e) nothing
  ended_left h = ended_start (home_of settings e before) (λ g. start_of g before) nothing (λ g s. cancels settings before s e ⨾ refusals settings before s e) (λ g s at. unready_both s (ap is_ready (h s at)))

  left_at : (g s : ℕ) → home_of settings e before ≡ Some g → start_of g before ≡ Some s → cancels_row settings before e ≡ (cancels settings before s e ⨾ refusals settings before s e)
  left_at g s h k = some_start (home_of settings e before) (λ g. start_of g before) nothing (λ g s. cancels settings before s e ⨾ refusals settings before s e) g s h k

  pub unready_left : (g s : ℕ) (stage : Stage) → home_of settings e before ≡ Some g → start_of g before ≡ Some s → stage ≡ (life_of s before).stage → is_ready stage ≡ false → Alike (cancels_row settings before e) nothing
  unready_left g s stage h k at r = alike_then (alike (left_at g s h k ∙ ap (by_ready s) (ap is_ready (sym at) ∙ r))) (record { sends = λ events. refl })

  -- the asks, by what is kept of them
  refusal_rows : (s : ℕ) (asked : List Ask) → each (refuse s) (filter (is_with e) asked) ≡ each (refusal s) (of_editor e (map kept_ask asked))
  refusal_rows s [] = refl
  refusal_rows s (a ∷ asked) = go (nat_eq a.editor e) (refusal_rows s asked)
    where
      go : (b : Bool) → each (refuse s) (filter (is_with e) asked) ≡ each (refusal s) (of_editor e (map kept_ask asked))
          → each (refuse s) (cond b (a ∷ filter (is_with e) asked) (filter (is_with e) asked)) ≡ each (refusal s) (cond b (kept_ask a ∷ of_editor e (map kept_ask asked)) (of_editor e (map kept_ask asked)))
      go true h = ap (λ r. refuse s a ⨾ r) h
      go false h = h

  pub ready_left : (g s : ℕ) (stage : Stage) (ns : List ℕ) (kept : List route.Ask) → kept ≡ map kept_ask (asks_of settings s before) → home_of settings e before ≡ Some g → start_of g before ≡ Some s → stage ≡ (life_of s before).stage → is_ready stage ≡ true → ns ≡ uncancelled_of e (forwarding_of settings s before).open_requests
      → Alike (cancels_row settings before e) (each (cancel s) ns ⨾ each (refusal s) (of_editor e kept))
  ready_left g s stage ns kept own h k at r is = alike_then (alike (left_at g s h k ∙ ap (by_ready s) (ap is_ready (sym at) ∙ r)))
      (alike_then (record { sends = λ events. refl }) (alike (ap₂ (λ q w. each (cancel s) q ⨾ w) (sym is) (refusal_rows s (asks_of settings s before) ∙ ap (λ ks. each (refusal s) (of_editor e ks)) (sym own)))))

  -- E16 and E17
  module _ (body : List ℕ) where
    pub ended_noted : HasEnded (start_for settings e before) before → Alike (notice_row settings before e body) nothing
    ended_noted h = ended_start (home_of settings e before) (λ g. start_of g before) nothing (notice_at settings before e body) (λ g s at. is_second refl (ap is_ready (h s at)))

    noted : (g s : ℕ) → home_of settings e before ≡ Some g → start_of g before ≡ Some s → notice_row settings before e body ≡ notice_at settings before e body g s
    noted g s h k = some_start (home_of settings e before) (λ g. start_of g before) nothing (notice_at settings before e body) g s h k

    pub unnoted_at : (g s : ℕ) (stage : Stage) → home_of settings e before ≡ Some g → start_of g before ≡ Some s → stage ≡ (life_of s before).stage → is_ready stage ≡ false → Alike (notice_row settings before e body) nothing
    unnoted_at g s stage h k at r = is_second (noted g s h k) (ap is_ready (sym at) ∙ r)

    pub noted_at : (g s : ℕ) (stage : Stage) → home_of settings e before ≡ Some g → start_of g before ≡ Some s → stage ≡ (life_of s before).stage → is_ready stage ≡ true → Alike (notice_row settings before e body) (sync_row settings before g s e ⨾ send (ToServer s body))
    noted_at g s stage h k at r = is_first (noted g s h k) (ap is_ready (sym at) ∙ r)

  -- E10
  module _ (body : List ℕ) where
    abbrev sent_row : Row
    sent_row = on (home_of settings e before) (answer_error e body request_failed) (λ g. on (start_of g before) (answer_error e body request_failed) (request_at settings before e body g))

    pub reserved_asked : reserves (params_of body) ≡ true → Alike (request_row settings before e body) (answer_error e body invalid_params)
    reserved_asked r = is_first refl r

    module _ (free : reserves (params_of body) ≡ false) where
      past : Alike (request_row settings before e body) sent_row
      past = is_second refl free

      -- where no start takes it, it waits, or is refused
      no_start : (g : ℕ) → start_of g before ≡ None → Alike (answer_error e body request_failed) (waiting_at settings before e body g)
      no_start g at = back (is_second refl (ap (λ o. option_map_or (λ s. not (is_ready (life_of s before).stage)) o false && takes e (length body) (waiting_of settings g before)) at))

      past_none : (home : Option ℕ) → ((g s : ℕ) → home ≡ Some g → start_of g before ≡ Some s → can_ask settings s before ≡ false)
          → Alike (on home (answer_error e body request_failed) (λ g. on (start_of g before) (answer_error e body request_failed) (request_at settings before e body g))) (on home (answer_error e body request_failed) (waiting_at settings before e body))
      past_none None off = alike refl
      past_none (Some g) off = go (start_of g before) refl
        where
          go : (o : Option ℕ) → start_of g before ≡ o → Alike (on o (answer_error e body request_failed) (request_at settings before e body g)) (waiting_at settings before e body g)
          go None at = no_start g at
          go (Some s) at = is_second refl (off g s refl at)

      pub ended_asked : HasEnded (start_for settings e before) before → Alike (request_row settings before e body) (waiting_row settings before e body)
      ended_asked h = alike_then past (past_none (home_of settings e before) (λ g s home at.
          ap (λ k. is_ready k && nat_lt (forwarding_of settings s before).next settings.limits.requests) (h s (ap (option_and_then (λ g. start_of g before)) home ∙ at))))

      asked : (g s : ℕ) → home_of settings e before ≡ Some g → start_of g before ≡ Some s → sent_row ≡ request_at settings before e body g s
      asked g s h k = some_start (home_of settings e before) (λ g. start_of g before) (answer_error e body request_failed) (request_at settings before e body) g s h k

      pub unasked_at : (g s : ℕ) (b : Bool) → home_of settings e before ≡ Some g → start_of g before ≡ Some s → b ≡ can_ask settings s before → b ≡ false → Alike (request_row settings before e body) (waiting_row settings before e body)
      unasked_at g s b h k is f = alike_then past (alike_then (is_second (asked g s h k) (sym is ∙ f)) (alike (sym (ap (λ o. on o (answer_error e body request_failed) (waiting_at settings before e body)) h))))

      pub asked_at : (g s : ℕ) (b : Bool) → home_of settings e before ≡ Some g → start_of g before ≡ Some s → b ≡ can_ask settings s before → b ≡ true → Alike (request_row settings before e body) (sync_row settings before g s e ⨾ forward settings s body)
      asked_at g s b h k is so = alike_then past (is_first (asked g s h k) (sym is ∙ so))
