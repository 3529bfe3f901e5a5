-- X1 to X3, of a start whose group gets no new one: each out is a body to an editor, or ends its link.
use Rattle.std.proofs.Common.{◌≡◌, ℕ, Bool, true, false, not, ◌&&◌, List, [], ◌∷◌, filter, ◌∙◌, sym, Some}
use Rattle.std.specs.Prelude.{slice_get}
use Rattle.std.specs.List.{AllByRecursion}
use Rattle.mux_history.specs.declared.out.Out.{Out}
use Rattle.mux_history.specs.declared.out.Out.TheVariants.{ToEditor, CloseEditor}
use Rattle.event_model.specs.Event.{Event, behind}
use Rattle.event_model.specs.Row.{each, nothing, choose, on, outs, ◌⨾◌}
use Rattle.event_model.specs.Settings.{Settings}
use Rattle.event_model.specs.Spawns.{group_of}
use Rattle.event_model.specs.Stages.{is_ready, life_of}
use Rattle.event_model.proofs.Frames.{never}
use Rattle.mux_facts.proofs.Reasons.{Because, by_choose, by_look, by_nothing, by_on, by_send, by_then}
use Rattle.group_words.specs.declared.kept.Kept.{Kept}
use Rattle.group_words.specs.Houses.{groups_of}
use Rattle.group_words.specs.Rows.{spawn}
use Rattle.group_rows.specs.diagnostics_route.specs.declared.last_list.LastList.{LastList}
use Rattle.group_rows.specs.registrations.specs.declared.registration.Registration.{Registration}
use Rattle.group_rows.specs.Asks.{Ask, asks_of, is_with, members_in, running_in}
use Rattle.group_rows.specs.Created.{Created, Taking, Token, created_of}
use Rattle.group_rows.specs.ExitRows.{begins_again, cancel_ask, cancel_take, empty_list, end_token, exit_in, lose_sent, lose_start, lost_row, starts_again, turn_out, unanswered_at}
use Rattle.group_rows.specs.Forwarded.{Forwarded, forwarding_of, is_of}
use Rattle.group_rows.specs.Lists.{lists_of}
use Rattle.group_rows.specs.Live.{live_of}
use Rattle.group_rows.specs.LiveRows.{unregister_any}
use Rattle.group_rows.specs.StopRows.{lose_request}
use Rattle.group_facts.proofs.Exits.{none_again}
use Rattle.group_facts.proofs.HeldOuts.{part_by}

pub for_all : {A : Type 0} (P : A → Type 0) → ((x : A) → P x) → (xs : List A) → AllByRecursion P xs
for_all P f [] = tt
for_all P f (x ∷ xs) = (f x, for_all P f xs)

module _ (settings : Settings) (R : List Event → Out → Type 0) where
  -- what holds of each body to an editor
  abbrev pub Tells : ℕ → Type 0
  Tells e = (events : List Event) (body : List ℕ) → R events (ToEditor e body)

  -- X1
  pub requests_by : (fs : List Forwarded) → AllByRecursion (λ (f : Forwarded). Tells f.editor) fs → (events : List Event) → Because R events (each lose_request fs)
  requests_by [] tells events = by_nothing
  requests_by (f ∷ fs) tells events = by_then (by_send (tells.0 events _)) (requests_by fs tells.1 (behind events (outs (lose_request f) events)))

  pub sent_by : (before : List Event) (s : ℕ) (es : List ℕ) → AllByRecursion (λ e. AllByRecursion (λ (f : Forwarded). Tells f.editor) (filter (is_of e) (forwarding_of settings s before).open_requests)) es → (events : List Event) → Because R events (each (lose_sent settings before s) es)
  sent_by before s [] tells events = by_nothing
  sent_by before s (e ∷ es) tells events = by_then (requests_by (filter (is_of e) (forwarding_of settings s before).open_requests) tells.0 events) (sent_by before s es tells.1 (behind events (outs (lose_sent settings before s e) events)))

  -- X2
  module _ (e : ℕ) (tells : Tells e) (s : ℕ) where
    pub tokens_by : (x : Created) (ts : List Token) (events : List Event) → Because R events (each (end_token s e x) ts)
    tokens_by x [] events = by_nothing
    tokens_by x (t ∷ ts) events = by_then (by_choose (λ begun. by_send (tells events _)) (λ not_yet. by_nothing)) (tokens_by x ts (behind events (outs (end_token s e x t) events)))

    pub takes_by : (cs : List Taking) (events : List Event) → Because R events (each (cancel_take e) cs)
    takes_by [] events = by_nothing
    takes_by (c ∷ cs) events = by_then (by_send (tells events _)) (takes_by cs (behind events (outs (cancel_take e c) events)))

    pub asks_by : (asks : List Ask) (events : List Event) → Because R events (each (cancel_ask e) asks)
    asks_by [] events = by_nothing
    asks_by (a ∷ asks) events = by_then (by_send (tells events _)) (asks_by asks (behind events (outs (cancel_ask e a) events)))

    pub registered_by : (rs : List Registration) (events : List Event) → Because R events (unregister_any rs e)
    registered_by rs events = by_choose (λ some. by_look (by_choose (λ room. by_send (tells events _)) (λ full. by_nothing))) (λ none. by_nothing)

    empties_by : (before : List Event) (ls : List LastList) (events : List Event) → Because R events (each (empty_list before e) ls)
    empties_by before [] events = by_nothing
    empties_by before (l ∷ ls) events = by_then (by_choose (λ full. by_send (tells events _)) (λ none. by_nothing)) (empties_by before ls (behind events (outs (empty_list before e l) events)))

    pub start_by : (before : List Event) (events : List Event) → Because R events (lose_start settings before s e)
    start_by before events = by_then (tokens_by (created_of settings s before) (created_of settings s before).tokens events)
        (by_then (takes_by (filter (unanswered_at e) (created_of settings s before).takings) (behind events tokens))
        (by_then (asks_by (filter (is_with e) (asks_of settings s before)) (behind (behind events tokens) takes))
        (by_then (registered_by (live_of settings s before) (behind (behind (behind events tokens) takes) asks))
        (empties_by before (lists_of s before) (behind (behind (behind (behind events tokens) takes) asks) (outs (unregister_any (live_of settings s before) e) (behind (behind (behind events tokens) takes) asks)))))))
      where
        tokens : List Out
        tokens = outs (each (end_token s e (created_of settings s before)) (created_of settings s before).tokens) events

        takes : List Out
        takes = outs (each (cancel_take e) (filter (unanswered_at e) (created_of settings s before).takings)) (behind events tokens)

        asks : List Out
        asks = outs (each (cancel_ask e) (filter (is_with e) (asks_of settings s before))) (behind (behind events tokens) takes)

  starts_by : (before : List Event) (s : ℕ) (es : List ℕ) → AllByRecursion Tells es → (events : List Event) → Because R events (each (lose_start settings before s) es)
  starts_by before s [] tells events = by_nothing
  starts_by before s (e ∷ es) tells events = by_then (start_by e tells.0 s before events) (starts_by before s es tells.1 (behind events (outs (lose_start settings before s e) events)))

  pub ready_by : (before : List Event) (s : ℕ) (es : List ℕ) → AllByRecursion Tells es → (events : List Event) → Because R events (choose (is_ready (life_of s before).stage) (each (lose_start settings before s) es) nothing)
  ready_by before s es tells events = by_choose (λ ready. starts_by before s es tells events) (λ not_yet. by_nothing)

  -- X1 and X2
  module _ (tells : (e : ℕ) → Tells e) where
    pub all_tell : (before : List Event) (s : ℕ) (es : List ℕ) → AllByRecursion (λ e. AllByRecursion (λ (f : Forwarded). Tells f.editor) (filter (is_of e) (forwarding_of settings s before).open_requests)) es
    all_tell before s es = for_all (λ e. AllByRecursion (λ (f : Forwarded). Tells f.editor) (filter (is_of e) (forwarding_of settings s before).open_requests)) (λ e. for_all (λ (f : Forwarded). Tells f.editor) (λ f. tells f.editor) (filter (is_of e) (forwarding_of settings s before).open_requests)) es

    pub told_by : (before : List Event) (s g : ℕ) (events : List Event) → Because R events (each (lose_sent settings before s) (members_in settings g before)
        ⨾ choose (is_ready (life_of s before).stage) (each (lose_start settings before s) (running_in settings g before)) nothing)
    told_by before s g events = by_then (sent_by before s (members_in settings g before) (all_tell before s (members_in settings g before)) events)
        (ready_by before s (running_in settings g before) (for_all Tells tells (running_in settings g before)) (behind events (outs (each (lose_sent settings before s) (members_in settings g before)) events)))

  -- X3
  module _ (tells : (e : ℕ) → Tells e) (closes : (events : List Event) (e : ℕ) → R events (CloseEditor e)) where
    turned_by : (g : ℕ) (es : List ℕ) (events : List Event) → Because R events (each (turn_out settings g) es)
    turned_by g [] events = by_nothing
    turned_by g (e ∷ es) events = by_then (by_then (by_look (by_choose (λ waits. by_send (tells e events _)) (λ late. by_nothing))) (part_by settings R g e (tells e) (λ places. closes places e) _)) (turned_by g es (behind events (outs (turn_out settings g e) events)))

    module _ (before : List Event) (s : ℕ) (ends : not (begins_again settings before s) ≡ true) where
      alive_by : (g : ℕ) (x : Kept) → group_of s before ≡ Some g → slice_get (groups_of settings before) g ≡ Some x → x.live ≡ true → (events : List Event) → Because R events (each (lose_sent settings before s) (members_in settings g before)
          ⨾ (choose (is_ready (life_of s before).stage) (each (lose_start settings before s) (running_in settings g before)) nothing
          ⨾ choose (starts_again settings before g x) (spawn g) (each (turn_out settings g) (members_in settings g before))))
      alive_by g x home found live events = by_then (sent_by before s (members_in settings g before) (all_tell tells before s (members_in settings g before)) events) (by_then (ready_by before s (running_in settings g before) (for_all Tells tells (running_in settings g before)) (behind events errors))
          (by_choose (λ again. never (sym (both x.live (starts_again settings before g x) live again) ∙ none_again settings before s ends g x home found)) (λ last. turned_by g (members_in settings g before) (behind (behind events errors) losses))))
        where
          errors : List Out
          errors = outs (each (lose_sent settings before s) (members_in settings g before)) events

          losses : List Out
          losses = outs (choose (is_ready (life_of s before).stage) (each (lose_start settings before s) (running_in settings g before)) nothing) (behind events errors)

          both : (a b : Bool) → a ≡ true → b ≡ true → (a && b) ≡ true
          both true b is also = also
          both false b is also = is

      kept_by : (g : ℕ) → group_of s before ≡ Some g → (x : Kept) → slice_get (groups_of settings before) g ≡ Some x → (events : List Event) → Because R events (exit_in settings before s g x)
      kept_by g home x found events = by_choose (λ live. alive_by g x home found live events) (λ over. by_nothing)

      group_by : (g : ℕ) → group_of s before ≡ Some g → (events : List Event) → Because R events (on (slice_get (groups_of settings before) g) nothing (exit_in settings before s g))
      group_by g home events = by_on (λ none. by_nothing) (λ x found. kept_by g home x found events)

      pub lost_by : (events : List Event) → Because R events (lost_row settings before s)
      lost_by events = by_on (λ none. by_nothing) (λ g home. group_by g home events)
