-- E11: the open request whose work an editor cancels, and the row.
use Rattle.std.proofs.Common.{◌≡◌, ℕ, true, false, ◌&&◌, cond, List, [], ◌∷◌, find, refl, ap, sym, ◌∙◌, codes}
use Rattle.std.specs.Prelude.{Option, Some, None, option_map}
use Rattle.std.specs.Option.{option_and_then, option_map_or}
use Rattle.json_text.specs.Json.{Json}
use Rattle.mux_history.specs.declared.out.Out.TheVariants.{ToServer}
use Rattle.rpc_message.specs.Message.{id_of, message_of, notification, same_id}
use Rattle.event_model.specs.Does.{Alike}
use Rattle.event_model.specs.Event.{Event}
use Rattle.event_model.specs.Members.{named_of}
use Rattle.event_model.specs.Phases.{desk_of, is_served}
use Rattle.event_model.specs.Row.{Row, choose, nothing, on, send}
use Rattle.event_model.specs.Settings.{Settings}
use Rattle.event_model.specs.Spawns.{start_of}
use Rattle.event_model.specs.Stages.{is_ready, life_of}
use Rattle.event_model.proofs.Turns.{alike, alike_then}
use Rattle.group_rows.specs.Waiting.{id_meant}
use Rattle.group_rows.specs.Forwarded.{Forwarded, forwarding_of, is_of}
use Rattle.group_rows.specs.CreatedRows.{created_work, work_at, work_row}
use Rattle.group_rows.specs.Tokens.{is_token_of, is_worked, mark_text, marked_text, work_mark}
use Rattle.group_words.specs.Houses.{home_of}
use Rattle.mux_editors.proofs.Asides.{and_off}
use Rattle.mux_tables.specs.Documents.{changes_documents}
use Rattle.mux_tables.specs.Stands.{start_for}
use Rattle.mux_turns.proofs.Rows.{ended_start, is_first, is_second, some_start}
use Rattle.mux_editors.specs.Works.{created_at, created_work_row}

-- what is no id is no token
nameless_token : (named : Option Json) (o : Option (List ℕ)) → option_and_then id_of named ≡ None → is_token_of named o ≡ false
nameless_token named None h = refl
nameless_token named (Some bytes) h = ap (λ o. option_map_or (λ id. option_map_or (same_id id) (id_meant bytes) false) o false) h

none_worked : (e : ℕ) (named : Option Json) (fs : List Forwarded) → option_and_then id_of named ≡ None → find (is_worked e named) fs ≡ None
none_worked e named [] h = refl
none_worked e named (f ∷ fs) h = ap (λ b. cond b (Some f) (find (is_worked e named) fs)) (ap (λ b. is_of e f && b) (nameless_token named f.work h) ∙ and_off (is_of e f)) ∙ none_worked e named fs h

module _ (settings : Settings) (before : List Event) (e : ℕ) (body : List ℕ) (params : Option Json) where
  abbrev named : Option Json
  named = named_of (codes "token") params

  abbrev sent : ℕ → Option Forwarded → Row
  sent s o = on o (created_work settings before e body params s) (λ (f : Forwarded). send (ToServer s (marked_text (mark_text (work_mark f.number)) body)))

  abbrev of_ready : ℕ → Row → Row
  of_ready s p = choose (is_ready (life_of s before).stage) p nothing

  -- no token: the row is that of created tokens
  pub tokenless : option_and_then id_of named ≡ None → Alike (work_row settings before e body params) (created_work_row settings before e body params)
  tokenless h = by_home (home_of settings e before)
    where
      by_start : (start : Option ℕ) → Alike (on start nothing (work_at settings before e body params)) (on start nothing (created_at settings before e body params))
      by_start None = alike refl
      by_start (Some s) = alike (ap (λ o. of_ready s (sent s o)) (none_worked e named (forwarding_of settings s before).open_requests h))

      by_home : (home : Option ℕ) → Alike (on home nothing (λ g. on (start_of g before) nothing (work_at settings before e body params))) (on home nothing (λ g. on (start_of g before) nothing (created_at settings before e body params)))
      by_home None = alike refl
      by_home (Some g) = by_start (start_of g before)

  -- no start, or one that isn't ready
  module _ (h : (s : ℕ) → start_for settings e before ≡ Some s → is_ready (life_of s before).stage ≡ false) where
    unready_sent : Alike (work_row settings before e body params) nothing
    unready_sent = ended_start (home_of settings e before) (λ g. start_of g before) nothing (λ g. work_at settings before e body params) (λ g s at. is_second refl (h s at))

    pub unready_created : Alike (created_work_row settings before e body params) nothing
    unready_created = ended_start (home_of settings e before) (λ g. start_of g before) nothing (λ g. created_at settings before e body params) (λ g s at. is_second refl (h s at))

    pub unready_work : Alike (work_row settings before e body params) (created_work_row settings before e body params)
    unready_work = alike_then unready_sent (record { sends = λ events. sym (unready_created.sends events) })

  module _ (g s : ℕ) (home : home_of settings e before ≡ Some g) (start : start_of g before ≡ Some s) (ready : is_ready (life_of s before).stage ≡ true) where
    row_is : Alike (work_row settings before e body params) (sent s (find (is_worked e named) (forwarding_of settings s before).open_requests))
    row_is = is_first (some_start (home_of settings e before) (λ g. start_of g before) nothing (λ g. work_at settings before e body params) g s home start) ready

    -- the row of created tokens
    pub created_is : Alike (created_work_row settings before e body params) (created_work settings before e body params s)
    created_is = is_first (some_start (home_of settings e before) (λ g. start_of g before) nothing (λ g. created_at settings before e body params) g s home start) ready

    pub none_works : None ≡ option_map (λ (f : Forwarded). f.number) (find (is_worked e named) (forwarding_of settings s before).open_requests) → Alike (work_row settings before e body params) (created_work_row settings before e body params)
    none_works h = alike_then (alike_then row_is (go (find (is_worked e named) (forwarding_of settings s before).open_requests) h)) (record { sends = λ events. sym (created_is.sends events) })
      where
        go : (o : Option Forwarded) → None ≡ option_map (λ (f : Forwarded). f.number) o → Alike (sent s o) (created_work settings before e body params s)
        go None k = alike refl
        go (Some f) k = absurd (cc)

    pub one_works : (n : ℕ) → Some n ≡ option_map (λ (f : Forwarded). f.number) (find (is_worked e named) (forwarding_of settings s before).open_requests) → Alike (work_row settings before e body params) (send (ToServer s (marked_text (mark_text (work_mark n)) body)))
    one_works n h = alike_then row_is (go (find (is_worked e named) (forwarding_of settings s before).open_requests) h)
      where
        go : (o : Option Forwarded) → Some n ≡ option_map (λ (f : Forwarded). f.number) o → Alike (sent s o) (send (ToServer s (marked_text (mark_text (work_mark n)) body)))
        go None k = absurd (cc)
        go (Some f) k = let same : n ≡ f.number = cc in alike (ap (λ m. send (ToServer s (marked_text (mark_text (work_mark m)) body))) (sym same))

-- it changes no document
pub work_keeps : (before : List Event) (e : ℕ) (body : List ℕ) (params : Option Json) → message_of body ≡ notification (codes "window/workDoneProgress/cancel") params → changes_documents before e (message_of body) ≡ false
work_keeps before e body params says = ap (λ m. changes_documents before e m) says ∙ and_off (is_served (desk_of e before).phase)
