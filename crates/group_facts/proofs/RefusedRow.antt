-- S3: what is sent where a start refuses its `initialize`.
use Rattle.std.proofs.Common.{◌≡◌, ℕ, zero, suc, Bool, true, false, cond, not, ◌&&◌, List, [], ◌∷◌, ◌++◌, filter, nat_eq, codes, if◌then◌else◌, Option, Some, refl, sym, ◌∙◌, ap, ap₂, subst, append_assoc}
use Rattle.std.specs.Option.{option_map_or}
use Rattle.std.proofs.lemmas.Bool.{and_parts}
use Rattle.json_text.specs.Json.{Json}
use Rattle.mux_history.specs.declared.cause.Cause.TheVariants.{FromServer}
use Rattle.mux_history.specs.declared.out.Out.{Out}
use Rattle.mux_history.specs.declared.out.Out.TheVariants.{ToEditor, ToServer, Spawn, CloseEditor, EndServer}
use Rattle.rpc_message.specs.Message.{Message, request, notification, result, error, not_json, not_message, Id, message_of, id_bytes}
use Rattle.rpc_message.specs.Texts.{with_id_text}
use Rattle.rpc_message.proofs.Fixed.{id_as_response}
use Rattle.rpc_message.proofs.Ids.{error_with_id, request_id_bytes}
use Rattle.event_model.specs.declared.phase.Phase.{Phase}
use Rattle.event_model.specs.declared.phase.Phase.TheVariants.{Absent, New, Waiting, Answered, Running, Down, Closed, Gone}
use Rattle.event_model.specs.declared.stage.Stage.TheVariants.{Initializing, Ready}
use Rattle.event_model.specs.Event.{Event, behind, heard, said, with_cause}
use Rattle.event_model.specs.Phases.{Desk, desk_of, editors_of, is_begun, is_there, is_waiting, phase_closed, phase_told}
use Rattle.event_model.specs.Requests.{answered_id, is_open, open_of, without}
use Rattle.event_model.specs.Row.{each, outs}
use Rattle.event_model.specs.Settings.{Settings}
use Rattle.event_model.specs.Spawns.{group_of}
use Rattle.event_model.specs.Stages.{Life, is_initializing, life_of, stage_hears}
use Rattle.event_model.proofs.Frames.{never}
use Rattle.mux_facts.proofs.Folds.{desk_more, life_more, opens_more}
use Rattle.mux_facts.proofs.Reasons.{Because, by_nothing, by_send, by_then, by_look, by_on, reasons_keep}
use Rattle.mux_facts.proofs.Rising.{by_rising}
use Rattle.mux_facts.proofs.Table.{desk_untold, waiting_is}
use Rattle.mux_facts.proofs.Waits.{AllWaiting, Waits, waits_at}
use Rattle.mux_facts.proofs.Words.{same_number}
use Rattle.group_words.specs.declared.kept.Kept.{Kept}
use Rattle.group_words.specs.Houses.{at_group, emptied, groups_of, home_of, is_first_error, is_home}
use Rattle.group_words.specs.Placing.{changed, ended}
use Rattle.group_words.proofs.Frames.{groups_more, groups_stay, home_stays}
use Rattle.group_rows.specs.Asks.{members_in}
use Rattle.group_rows.specs.Rows.{refused_in, refused_row, refusal, waiting_in}
use Rattle.group_rows.specs.Waiting.{part}
use Rattle.group_facts.specs.Built.{is_left}
use Rattle.group_facts.specs.Facts.{AllHeld, IsWaiting, is_in, is_parted, is_put_out, is_refused, is_refusing, turned_away}
use Rattle.group_facts.specs.Lively.{lives_at}
use Rattle.group_facts.specs.Why.{Why, refused, turns_away}
use Rattle.group_facts.proofs.Held.{IsParting, held_closed_all, held_told_all, part_still, part_why}
use Rattle.group_facts.proofs.HeldOuts.{parts_by}
use Rattle.group_facts.proofs.Housed.{group_more}
use Rattle.group_facts.proofs.LiveGroups.{lives_emptied}
use Rattle.group_rows.proofs.Stops.{range_below}
use Rattle.group_facts.proofs.PutOut.{begun_outs, homes_stay, no_result, or_first}

-- The end of a group

over_changed : (g : ℕ) (xs : List Kept) → lives_at g (changed g ended xs) ≡ false
over_changed g [] = refl
over_changed zero (x ∷ xs) = refl
over_changed (suc g) (x ∷ xs) = over_changed g xs

-- an out to an editor, or the end of its link
abbrev IsOnLink : Out → Type 0
IsOnLink (ToEditor e body) = Unit {0}
IsOnLink (CloseEditor e) = Unit {0}
IsOnLink other = ⊥

abbrev OnLinks : List Event → Out → Type 0
OnLinks events out = IsOnLink out

-- it gave no result yet, and its group lives no more
record IsOrphan (settings : Settings) (s g : ℕ) (events : List Event) : Type 0 where
  stage : (life_of s events).stage ≡ Initializing
  home : group_of s events ≡ Some g
  over : lives_at g (groups_of settings events) ≡ false

orphan_still : (settings : Settings) (s g : ℕ) (events : List Event) (out : Out) → IsOnLink out → IsOrphan settings s g events → IsOrphan settings s g (events ++ said out ∷ [])
orphan_still settings s g events (ToEditor e body) on h = record {
  stage = ap (λ (l : Life). l.stage) (life_more s events (said (ToEditor e body))) ∙ h.stage;
  home = group_more s events (said (ToEditor e body)) ∙ h.home;
  over = ap (lives_at g) (groups_stay settings events (said (ToEditor e body)) refl) ∙ h.over;
}
orphan_still settings s g events (CloseEditor e) on h = record {
  stage = ap (λ (l : Life). l.stage) (life_more s events (said (CloseEditor e))) ∙ h.stage;
  home = group_more s events (said (CloseEditor e)) ∙ h.home;
  over = ap (lives_at g) (groups_more settings events (said (CloseEditor e))) ∙ still (home_of settings e events) _ _ _;
}
  where
    still : (home : Option ℕ) (was : Bool) (stays : ℕ → Bool) (time : ℕ) → lives_at g (emptied home was stays time (groups_of settings events)) ≡ false
    still home was stays time = go (lives_at g (emptied home was stays time (groups_of settings events))) refl
      where
        go : (b : Bool) → lives_at g (emptied home was stays time (groups_of settings events)) ≡ b → b ≡ false
        go true live = never (sym (lives_emptied home was stays time g (groups_of settings events) live) ∙ h.over)
        go false over = refl
orphan_still settings s g events (ToServer n body) on h = absurd on
orphan_still settings s g events (Spawn n i) on h = absurd on
orphan_still settings s g events (EndServer n) on h = absurd on

refusals_link : (body : List ℕ) (ns : List ℕ) (events : List Event) → Because OnLinks events (each (refusal body) ns)
refusals_link body [] events = by_nothing
refusals_link body (n ∷ ns) events = by_then (by_then (by_look (by_send tt)) (by_send tt)) (refusals_link body ns (behind events (outs (refusal body n) events)))

closes_link : (settings : Settings) (g : ℕ) (ns : List ℕ) (events : List Event) → Because OnLinks events (each (part settings g) ns)
closes_link settings g ns events = parts_by settings OnLinks g (λ e places body. tt) (λ e places. tt) ns events

-- and what waits is held
held_link : (settings : Settings) (events : List Event) (out : Out) → IsOnLink out → AllHeld settings events → AllHeld settings (events ++ said out ∷ [])
held_link settings events (ToEditor e body) on h = held_told_all settings events e body h
held_link settings events (CloseEditor e) on h = held_closed_all settings events e h
held_link settings events (ToServer n body) on h = absurd on
held_link settings events (Spawn n i) on h = absurd on
held_link settings events (EndServer n) on h = absurd on

-- Phases

begun_there : (phase : Phase) → is_begun phase ≡ true → is_there phase ≡ true
begun_there Waiting h = refl
begun_there Answered h = refl
begun_there Running h = refl
begun_there Down h = refl
begun_there Absent h = absurd (cc)
begun_there New h = absurd (cc)
begun_there Closed h = absurd (cc)
begun_there Gone h = absurd (cc)

-- The message

pub record IsError (m : Message) : Type 0 where
  pub id : Option Id
  pub x : Json
  pub is : m ≡ error id x

pub error_is : (m : Message) → is_first_error m ≡ true → IsError m
error_is (error id x) h = record { id = id; x = x; is = refl }
error_is (result id r) h = absurd (cc)
error_is (request id method params) h = absurd (cc)
error_is (notification method params) h = absurd (cc)
error_is not_json h = absurd (cc)
error_is not_message h = absurd (cc)

module _ (settings : Settings) (before : List Event) (s : ℕ) (body : List ℕ) where
  abbrev now : List Event
  now = with_cause before (FromServer s body)

  abbrev R : List Event → Out → Type 0
  R events out = Why settings before (FromServer s body) events out

  desk_now : (e : ℕ) → desk_of e now ≡ desk_of e before
  desk_now e = desk_more e before (heard (FromServer s body))

  home_now : (e : ℕ) → home_of settings e now ≡ home_of settings e before
  home_now e = home_stays settings e before (heard (FromServer s body)) refl

  module _ (stage : (life_of s before).stage ≡ Initializing) (first : is_first_error (message_of body) ≡ true) (waiting : AllWaiting before) (held : AllHeld settings now) (g : ℕ) (home : group_of s before ≡ Some g) where
    refusing : is_refusing before s (message_of body) ≡ true
    refusing = ap₂ (λ a b. a && b) first (ap is_initializing stage)

    member : (e : ℕ) → is_home g (home_of settings e before) ≡ true → is_in settings before s e ≡ true
    member e at = ap (λ o. option_map_or (λ i. is_home i (home_of settings e before)) o false) home ∙ at

    put_out : (e : ℕ) → is_begun (desk_of e before).phase ≡ true → is_home g (home_of settings e before) ≡ true → is_put_out settings before (FromServer s body) e ≡ true
    put_out e begun at = or_first (is_refused settings before s body e) (is_parted settings before s body e) (ap₂ (λ a b. a && b) refusing (ap₂ (λ a b. a && b) begun (member e at)))

    -- The editors that wait

    record IsRefused (e : ℕ) (events : List Event) : Type 0 where
      id : Id
      waits : IsWaiting events e id
      turned : turned_away settings before (FromServer s body) e ≡ true
      out : is_put_out settings before (FromServer s body) e ≡ true

    abbrev text_at : ℕ → List Event → List ℕ
    text_at n events = with_id_text body (id_bytes (desk_of n events).initialize)

    refused_one : (n : ℕ) (events : List Event) → IsRefused n events → Because R events (refusal body n)
    refused_one n events w = by_then (by_look (by_send (turns_away (record { id = w.id; x = f.x; waiting = w.waits; turned = w.turned; says = says })))) (by_send (w.out, there))
      where
        f : IsError (message_of body)
        f = error_is (message_of body) first

        says : message_of (text_at n events) ≡ error (Some w.id) f.x
        says = error_with_id body (id_bytes (desk_of n events).initialize) f.id (Some w.id) f.x f.is
            (id_as_response w.id (id_bytes (desk_of n events).initialize) (request_id_bytes (desk_of n events).initialize w.id (codes "initialize") (w.waits).params (w.waits).asks))

        there : is_there (desk_of n (events ++ said (ToEditor n (text_at n events)) ∷ [])).phase ≡ true
        there = ap (λ (d : Desk). is_there d.phase) (desk_more n events (said (ToEditor n (text_at n events))))
            ∙ ap (λ b. is_there (if b then record { phase = phase_told (desk_of n events).phase (desk_of n events).initialize (message_of (text_at n events)); initialize = (desk_of n events).initialize } else desk_of n events).phase) (same_number n)
            ∙ ap₂ (λ p m. is_there (phase_told p (desk_of n events).initialize m)) (w.waits).phase says

    refused_still : (n k : ℕ) (events : List Event) → nat_eq n k ≡ false → IsRefused k events → IsRefused k (behind events (outs (refusal body n) events))
    refused_still n k events other w = record {
      id = w.id;
      waits = record {
        params = (w.waits).params;
        phase = ap (λ (d : Desk). d.phase) desk ∙ (w.waits).phase;
        asks = ap (λ (d : Desk). message_of d.initialize) desk ∙ (w.waits).asks;
        waits = ap (is_open w.id) opens ∙ (w.waits).waits;
      };
      turned = w.turned;
      out = w.out;
    }
      where
        text : List ℕ
        text = text_at n events

        told : List Event
        told = events ++ said (ToEditor n text) ∷ []

        later : behind events (outs (refusal body n) events) ≡ told ++ said (CloseEditor n) ∷ []
        later = sym (append_assoc events (said (ToEditor n text) ∷ []) (said (CloseEditor n) ∷ []))

        desk : desk_of k (behind events (outs (refusal body n) events)) ≡ desk_of k events
        desk = ap (desk_of k) later ∙ desk_more k told (said (CloseEditor n))
            ∙ ap (λ b. if b then record { phase = phase_closed (desk_of k told).phase; initialize = (desk_of k told).initialize } else desk_of k told) other
            ∙ desk_more k events (said (ToEditor n text)) ∙ desk_untold k n text (desk_of k events) other

        opens : open_of k (behind events (outs (refusal body n) events)) ≡ open_of k events
        opens = ap (open_of k) later ∙ opens_more k told (said (CloseEditor n)) ∙ opens_more k events (said (ToEditor n text))
            ∙ ap (λ b. cond b (without (answered_id (message_of text)) (open_of k events)) (open_of k events)) other

    to_refuse : (k : ℕ) → (is_waiting (desk_of k now).phase && is_home g (home_of settings k now)) ≡ true → IsRefused k now
    to_refuse k t =
        let p = and_parts (is_waiting (desk_of k now).phase) (is_home g (home_of settings k now)) t in
        let at : (desk_of k now).phase ≡ Waiting = waiting_is (desk_of k now).phase p.0 in
        let was : (desk_of k before).phase ≡ Waiting = sym (ap (λ (d : Desk). d.phase) (desk_now k)) ∙ at in
        let here : is_home g (home_of settings k before) ≡ true = sym (ap (is_home g) (home_now k)) ∙ p.1 in
        let w : Waits (desk_of k before).initialize (open_of k before) = waits_at before k was waiting in
        record {
          id = w.id;
          waits = record { params = w.params; phase = at; asks = ap (λ (d : Desk). message_of d.initialize) (desk_now k) ∙ w.asks; waits = ap (is_open w.id) (opens_more k before (heard (FromServer s body))) ∙ w.waits };
          turned = ap₂ (λ a b. a && b) refusing (ap₂ (λ a b. a && b) (ap is_waiting was) (member k here));
          out = put_out k (ap is_begun was) here;
        }

    all_refused : Because R now (each (refusal body) (waiting_in settings g now))
    all_refused = subst (λ ns. Because R now (each (refusal body) (filter (λ e. is_waiting (desk_of e now).phase && is_home g (home_of settings e now)) ns))) (sym (range_below (editors_of now)))
        (by_rising (refusal body) IsRefused refused_one refused_still now (λ e. is_waiting (desk_of e now).phase && is_home g (home_of settings e now)) to_refuse (editors_of now))

    -- The others

    abbrev errors : List Out
    errors = outs (each (refusal body) (waiting_in settings g now)) now

    abbrev mid : List Event
    mid = behind now errors

    held_mid : AllHeld settings mid
    held_mid = reasons_keep OnLinks (AllHeld settings) (held_link settings) now errors (refusals_link body (waiting_in settings g now) now).why held

    to_close : (k : ℕ) → (is_begun (desk_of k mid).phase && is_home g (home_of settings k mid)) ≡ true → IsParting settings before (FromServer s body) k mid
    to_close k t =
        let p = and_parts (is_begun (desk_of k mid).phase) (is_home g (home_of settings k mid)) t in
        record {
          ends = put_out k (sym (ap (λ (d : Desk). is_begun d.phase) (desk_now k)) ∙ begun_outs k now errors p.0) (sym (ap (is_home g) (homes_stay settings k now errors ∙ home_now k)) ∙ p.1);
          there = begun_there (desk_of k mid).phase p.0;
          held = held_mid;
        }

    all_closed : Because R mid (each (part settings g) (members_in settings g mid))
    all_closed = subst (λ ns. Because R mid (each (part settings g) (filter (λ e. is_begun (desk_of e mid).phase && is_home g (home_of settings e mid)) ns))) (sym (range_below (editors_of mid)))
        (by_rising (part settings g) (IsParting settings before (FromServer s body)) (λ n events w. part_why settings before (FromServer s body) g n events w) (λ n k events other w. part_still settings before (FromServer s body) g n k events other w) mid
        (λ e. is_begun (desk_of e mid).phase && is_home g (home_of settings e mid)) to_close (editors_of mid))

    -- The start

    abbrev closed : List Event
    closed = behind mid (outs (each (part settings g) (members_in settings g mid)) mid)

    orphan_now : IsOrphan settings s g now
    orphan_now = record {
      stage = ap (λ (l : Life). l.stage) (life_more s before (heard (FromServer s body)))
          ∙ ap (λ b. (if b then record { stage = stage_hears (life_of s before).stage (message_of body); started = (life_of s before).started } else life_of s before).stage) (same_number s)
          ∙ ap (λ z. stage_hears z (message_of body)) stage ∙ ap (λ b. if b then Ready else Initializing) (no_result (message_of body) first);
      home = group_more s before (heard (FromServer s body)) ∙ home;
      over = ap (lives_at g) (groups_more settings before (heard (FromServer s body)))
          ∙ ap₂ (λ b o. lives_at g (if b then at_group o (λ i. ended) (groups_of settings before) else groups_of settings before)) refusing home ∙ over_changed g (groups_of settings before);
    }

    orphan : IsOrphan settings s g closed
    orphan = reasons_keep OnLinks (IsOrphan settings s g) (orphan_still settings s g) mid (outs (each (part settings g) (members_in settings g mid)) mid) (closes_link settings g (members_in settings g mid) mid).why
        (reasons_keep OnLinks (IsOrphan settings s g) (orphan_still settings s g) now errors (refusals_link body (waiting_in settings g now) now).why orphan_now)

    left : is_left settings closed s ≡ true
    left = ap (λ o. not (option_map_or (λ i. lives_at i (groups_of settings closed)) o false)) (orphan.home) ∙ ap not (orphan.over)

    refused_here : Because R now (refused_in settings s body g)
    refused_here = by_then (by_look all_refused) (by_then (by_look all_closed) (by_send (refused (orphan.stage) left)))

  pub refused_why : (life_of s before).stage ≡ Initializing → is_first_error (message_of body) ≡ true → AllWaiting before → AllHeld settings now → Because R now (refused_row settings before s body)
  refused_why at first waiting held = by_on (λ none. by_nothing) (λ g home. refused_here at first waiting held g home)
