-- E7: an editor joins a group, or one is founded for it, perhaps in place of an idle one, or it is turned away.
use Rattle.std.proofs.lemmas.List.{length-append}
use Rattle.std.proofs.lemmas.List.Elements.{filter-append}
use Rattle.std.proofs.Common.{◌≡◌, ℕ, true, List, [], ◌∷◌, ◌++◌, ◌<◌, codes, Option, Some, None, refl, sym, ◌∙◌, ap, ap₂, arith, length, nat_lt, Bool, false, subst, if◌then◌else◌, ◌&&◌, ◌||◌, nat_eq, append-nil}
use Rattle.json_text.specs.Json.{Json}
use Rattle.mux_history.specs.declared.cause.Cause.TheVariants.{FromEditor}
use Rattle.mux_history.specs.declared.out.Out.TheVariants.{ToEditor, ToServer, EndServer}
use Rattle.rpc_message.specs.Message.{request, result, Id, message_of, id_bytes, result_bytes}
use Rattle.rpc_message.specs.Texts.{ok_text, error_text, request_text, request_failed, error_tree}
use Rattle.event_model.specs.declared.phase.Phase.TheVariants.{New, Waiting}
use Rattle.event_model.specs.declared.stage.Stage.{Stage}
use Rattle.event_model.specs.declared.stage.Stage.TheVariants.{Spawning, Initializing, Ready}
use Rattle.event_model.specs.Event.{Event, behind, heard, said}
use Rattle.event_model.specs.Phases.{Desk, desk_of, desk_hears, phase_told, is_there}
use Rattle.event_model.specs.Parts.{server_part, is_of_server}
use Rattle.event_model.specs.Requests.{next_number}
use Rattle.event_model.specs.Row.{Row, nothing, on, outs}
use Rattle.event_model.specs.Settings.{Settings}
use Rattle.event_model.specs.Spawns.{start_of}
use Rattle.event_model.specs.Stages.{Life, is_first_result, life_of}
use Rattle.event_model.proofs.Frames.{never}
use Rattle.mux_facts.specs.Ranges.{InRange}
use Rattle.mux_facts.proofs.Bodies.{refusal_says}
use Rattle.mux_facts.proofs.Folds.{number_more, desk_more, life_more}
use Rattle.mux_facts.proofs.Late.{error_told}
use Rattle.mux_facts.proofs.Reasons.{Because, by_nothing, by_send, by_then, by_choose, by_look, by_on}
use Rattle.mux_facts.proofs.Table.{open_taken}
use Rattle.mux_facts.proofs.Words.{same_number}
use Rattle.group_words.specs.declared.placed.Placed.{Placed}
use Rattle.group_words.specs.declared.placed.Placed.TheVariants.{Joins, New as Founds, Evicts, TooMany}
use Rattle.group_words.specs.declared.idle.Idle.{Idle}
use Rattle.group_words.specs.declared.kept.Kept.{Kept}
use Rattle.group_words.specs.Houses.{declared_for, groups_of, key_for, placed_for}
use Rattle.group_words.specs.Keys.{Common}
use Rattle.group_words.specs.Placing.{changed, ended, evicting, first_from, founded, founding, idlest_from, joining, live_count, placed_in, takes, with_editor}
use Rattle.group_words.proofs.Frames.{changed_length, groups_more, groups_stay}
use Rattle.mux_facts.proofs.Keeps.{behind_nothing}
use Rattle.group_words.specs.Rows.{answer_with, end_group, end_start, initialize_row, placed_row, shown_of}
use Rattle.group_facts.specs.Lively.{IsDying, lives_at}
use Rattle.group_facts.proofs.GroupEnds.{start_ends}
use Rattle.group_facts.proofs.LiveGroups.{IsFair, over_at, placed_fair}
use Rattle.group_facts.specs.Facts.{Bounded, IsWaiting, Results, is_parting, is_put_out, turned_away}
use Rattle.group_facts.proofs.RequestRow.{R, asked, desk_taken, either_desk}
use Rattle.group_facts.proofs.ShownResult.{shown_says}
use Rattle.group_facts.specs.Why.{turns_away, welcomes}

-- a new group is the next one
abbrev pub IsNext : ℕ → Placed → Type 0
IsNext n (Founds g) = g ≡ n
IsNext n (Evicts a g) = g ≡ n
IsNext n other = Unit {0}

founded_next : (limit : ℕ) (groups : List Kept) → IsNext (length groups) (founding limit groups)
founded_next limit groups = go (nat_lt (live_count groups) limit) (idlest_from 0 None groups)
  where
    go : (b : Bool) (best : Option Idle) → IsNext (length groups) (if b then Founds (length groups) else evicting best (length groups))
    go true best = refl
    go false None = tt
    go false (Some x) = refl

pub placed_next : (limit : ℕ) (key : Common) (declared : List ℕ) (groups : List Kept) → IsNext (length groups) (placed_in limit key declared groups)
placed_next limit key declared groups = go (first_from 0 (takes key declared) groups)
  where
    go : (o : Option ℕ) → IsNext (length groups) (joining o (founding limit groups))
    go (Some g) = tt
    go None = founded_next limit groups

or_first : (a b : Bool) → a ≡ true → (a || b) ≡ true
or_first true b h = refl
or_first false b h = never (sym h)

module _ (settings : Settings) (range : InRange settings) (before : List Event) (e : ℕ) (body : List ℕ) (id : Id) (params : Option Json) (says : message_of body ≡ request id (codes "initialize") params) (new : (desk_of e before).phase ≡ New) where
  abbrev now : List Event
  now = asked settings before e body

  abbrev Mine : Row → Type 0
  Mine row = Because (R settings before e body) now row

  -- it waits behind its `initialize`
  waits_now : IsWaiting now e id
  waits_now = record {
    params = params;
    phase = ap (λ (d : Desk). d.phase) desk;
    asks = ap (λ (d : Desk). message_of d.initialize) desk ∙ says;
    waits = open_taken before e body id (codes "initialize") params says;
  }
    where
      desk : desk_of e now ≡ record { phase = Waiting; initialize = body }
      desk = desk_taken settings before e body ∙ ap₂ (λ p m. desk_hears p (desk_of e before).initialize body m) new says

  -- the result of a start that is ready
  joins : (given : List ℕ) → is_first_result (message_of given) ≡ true → Mine (answer_with e body given)
  joins given first =
      let shown : (r : Json) × (message_of (ok_text (id_bytes body) (shown_of (result_bytes given))) ≡ result (Some id) r) = shown_says body given id (codes "initialize") params says first in
      by_send (welcomes (record { id = id; r = shown.0; waiting = waits_now; says = shown.1 }))

  -- end(g), of an idle group
  unsent : (s : ℕ) → server_part s now ≡ server_part s before
  unsent s = filter-append (is_of_server s) before (heard (FromEditor e body) ∷ []) ∙ append-nil (server_part s before)

  shuts_down : Bounded settings before → (s : ℕ) (stage : Stage) → IsDying settings now s → (life_of s now).stage ≡ stage → Mine (end_start s stage)
  shuts_down bounded s stage dying at = start_ends settings range.requests before (FromEditor e body) (λ n. refl) bounded now s stage dying at (λ ready. record {
    stood = sym (ap (λ (l : Life). l.stage) (life_more s before (heard (FromEditor e body)))) ∙ ready;
    number = number_more s before (heard (FromEditor e body));
    part = unsent s;
  })

  -- a group that is founded is kept
  abbrev placed : Placed
  placed = placed_for settings before e body (groups_of settings before)

  abbrev key : Common
  key = key_for settings before e body

  abbrev declared : List ℕ
  declared = declared_for settings before e body

  groups_now : groups_of settings now ≡ with_editor placed key declared (groups_of settings before)
  groups_now = groups_more settings before (heard (FromEditor e body)) ∙ rw (new, says) refl

  next : IsNext (length (groups_of settings before)) placed
  next = placed_next settings.limits.groups key declared (groups_of settings before)

  -- the evicted group lives no more
  evicted_over : (a g : ℕ) → placed ≡ Evicts a g → lives_at a (groups_of settings now) ≡ false
  evicted_over a g at = ap (lives_at a) (groups_now ∙ ap (λ p. with_editor p key declared (groups_of settings before)) at)
      ∙ over_at a (groups_of settings before) (founded key declared) (subst (IsFair (groups_of settings before)) at (placed_fair settings.limits.groups key declared (groups_of settings before))).0

  evicts : Bounded settings before → (a g : ℕ) → placed ≡ Evicts a g → Mine (end_group a)
  evicts bounded a g at = by_look (by_on (λ none. by_nothing) (λ s start. shuts_down bounded s (life_of s now).stage (record { group = a; last = start; over = evicted_over a g at }) refl))

  founds_kept : (g : ℕ) → placed ≡ Founds g → g < length (groups_of settings now)
  founds_kept g at =
      let is : g ≡ length (groups_of settings before) = subst (IsNext (length (groups_of settings before))) at next in
      let all : length (groups_of settings now) ≡ length (groups_of settings before ++ founded key declared ∷ []) = ap length (groups_now ∙ ap (λ p. with_editor p key declared (groups_of settings before)) at) in
      omega (arith, is, all, length-append (groups_of settings before) (founded key declared ∷ []))

  evicts_kept : (a g : ℕ) → placed ≡ Evicts a g → g < length (groups_of settings now)
  evicts_kept a g at =
      let is : g ≡ length (groups_of settings before) = subst (IsNext (length (groups_of settings before))) at next in
      let all : length (groups_of settings now) ≡ length (changed a ended (groups_of settings before) ++ founded key declared ∷ []) = ap length (groups_now ∙ ap (λ p. with_editor p key declared (groups_of settings before)) at) in
      omega (arith, is, all, length-append (changed a ended (groups_of settings before)) (founded key declared ∷ []), changed_length a ended (groups_of settings before))

  -- end(g) leaves the groups alone
  end_groups : (s : ℕ) (stage : Stage) → groups_of settings (behind now (outs (end_start s stage) now)) ≡ groups_of settings now
  end_groups s Ready = groups_stay settings now (said (ToServer s (request_text (next_number s now) (codes "shutdown") None))) refl
  end_groups s Spawning = groups_stay settings now (said (EndServer s)) refl
  end_groups s Initializing = groups_stay settings now (said (EndServer s)) refl
  end_groups s other = ap (groups_of settings) (behind_nothing now)

  evicted_groups : (o : Option ℕ) → groups_of settings (behind now (outs (on o nothing (λ s. end_start s (life_of s now).stage)) now)) ≡ groups_of settings now
  evicted_groups None = ap (groups_of settings) (behind_nothing now)
  evicted_groups (Some s) = end_groups s (life_of s now).stage

  -- too many groups
  module _ (many : placed_for settings before e body (groups_of settings before) ≡ TooMany) where
    turned : turned_away settings before (FromEditor e body) e ≡ true
    turned = rw (same_number e, new, says, many) refl

    abbrev answer : List ℕ
    answer = error_text (id_bytes body) request_failed

    there_still : is_there (desk_of e (now ++ said (ToEditor e answer) ∷ [])).phase ≡ true
    there_still = ap (λ (d : Desk). is_there d.phase) (desk_more e now (said (ToEditor e answer)))
        ∙ ap (λ b. is_there (either_desk b (record { phase = phase_told (desk_of e now).phase (desk_of e now).initialize (message_of answer); initialize = (desk_of e now).initialize }) (desk_of e now)).phase) (same_number e)
        ∙ ap (λ m. is_there (phase_told (desk_of e now).phase (desk_of e now).initialize m)) (refusal_says body id (codes "initialize") params request_failed says)
        ∙ ap is_there (error_told (desk_of e now).phase (desk_of e now).initialize (Some id) (error_tree request_failed))
        ∙ ap is_there waits_now.phase

    turn : Mine (placed_row e body before TooMany)
    turn = by_then (by_send (turns_away (record { id = id; x = error_tree request_failed; waiting = waits_now; turned = turned; says = refusal_says body id (codes "initialize") params request_failed says })))
        (by_send (or_first (turned_away settings before (FromEditor e body) e) ((nat_eq e e && is_parting before e (message_of body)) || is_put_out settings before (FromEditor e body) e) turned, there_still))

  placed_why : Results before → Bounded settings before → (p : Placed) → placed_for settings before e body (groups_of settings before) ≡ p → Mine (placed_row e body before p)
  placed_why results bounded (Joins g) at = by_on (λ none. by_nothing) (λ s start. by_choose (λ ready. by_on (λ none. by_nothing) (λ given found. joins given (results.each s given found))) (λ no. by_nothing))
  placed_why results bounded (Founds g) at = by_look (by_send (refl, founds_kept g at))
  placed_why results bounded (Evicts a g) at = by_then (evicts bounded a g at) (by_look (by_send (refl, subst (λ z. g < length z) (sym (evicted_groups (start_of a now))) (evicts_kept a g at))))
  placed_why results bounded TooMany at = turn at

  -- the whole row
  pub initialize_why : Results before → Bounded settings before → Mine (initialize_row settings before e body)
  initialize_why results bounded = placed_why results bounded (placed_for settings before e body (groups_of settings before)) refl
