-- E9, E10, E16 and E17: what a table of debts has behind an editor's message.
use Rattle.std.proofs.Common.{length, zero, suc, ◌≤◌, ◌≡◌, ℕ, Bool, true, false, not, ◌&&◌, ◌||◌, cond, List, [], ◌∷◌, codes, bytes_eq, nat_eq, if◌then◌else◌, ◌⊎◌, inl, inr, refl, ap, ap₂, sym, subst, ◌∙◌, arith}
use Rattle.std.specs.Prelude.{Option, Some, None, encode_utf8_all, slice_get}
use Rattle.std.specs.List.{list_any}
use Rattle.std.specs.Option.{option_map_or}
use Rattle.std.proofs.lemmas.Bool.Decides.{nat_tests}
use Rattle.std.proofs.lemmas.Slice.Eq.{bytes_eq-Decides}
use Rattle.json_text.specs.Json.{Json}
use Rattle.lsp_method.specs.Class.{class_of, is_refresh, server_request}
use Rattle.lsp_method.specs.declared.variants.Origin.TheVariants.{Server}
use Rattle.mux_history.specs.declared.cause.Cause.TheVariants.{FromEditor}
use Rattle.rpc_message.specs.Message.{Id, Message, message_of, request, notification, result, error, not_json, not_message}
use Rattle.rpc_message.specs.declared.sort.Sort.TheVariants as sort
use Rattle.rpc_message.specs.Sorts.{sort_of}
use Rattle.event_model.specs.Event.{Event, heard, requests, with_cause}
use Rattle.event_model.specs.Members.{params_of}
use Rattle.event_model.specs.Phases.{desk_of, is_malformed, is_multiplexer_request, is_running}
use Rattle.event_model.specs.Requests.{is_open, open_of}
use Rattle.event_model.specs.Settings.{Settings}
use Rattle.event_model.specs.Stages.{is_ready, life_of}
use Rattle.event_model.proofs.Frames.{never}
use Rattle.mux_turns.specs.group_facts.specs.mux_members.specs.Finds.{is_ascii}
use Rattle.mux_turns.specs.group_facts.specs.mux_members.proofs.Encoded.{ascii_encoded}
use Rattle.refresh_debts.specs.declared.debts.Debt.{Debt}
use Rattle.refresh_debts.specs.Tables.{is_of, is_with, of, without}
use Rattle.refresh_debts.proofs.Parts.{left_of, taken_of}
use Rattle.mux_tables.specs.editor_session.specs.declared.session.Session.{Session}
use Rattle.group_rows.specs.Asks.{serves}
use Rattle.group_rows.specs.Debts.{debts_due, debts_of, goes_forth, goes_to, names_refresh, wants_refresh}
use Rattle.group_rows.specs.Forwarded.{has_room}
use Rattle.group_rows.specs.Reserved.{reserves}
use Rattle.group_rows.specs.Rows.{can_ask}
use Rattle.group_rows.specs.Waiting.{is_misplaced}
use Rattle.group_rows.proofs.DebtsKept.{forth_shutdown, off_forth}
use Rattle.mux_turns.specs.mux_tables.specs.Stands.{HasEnded, start_for}
use Rattle.mux_debts.specs.Going.{IsDue, IsDueOf, is_aside}
use Rattle.mux_debts.specs.Stands.{DebtsStand}
use Rattle.mux_debts.proofs.Standing.{step_stands}

same_number : (n k : ℕ) → nat_eq n k ≡ true → n ≡ k
same_number n k h = grind (arith, nat_tests)

-- The names of methods

pub same_either : (xs ys : List ℕ) → bytes_eq xs ys ≡ bytes_eq ys xs
same_either xs ys = go (bytes_eq xs ys) refl (bytes_eq ys xs) refl
  where
    go : (a : Bool) → bytes_eq xs ys ≡ a → (b : Bool) → bytes_eq ys xs ≡ b → a ≡ b
    go true h true k = refl
    go false h false k = refl
    go true h false k = never (sym ((bytes_eq-Decides ys xs).1 (sym ((bytes_eq-Decides xs ys).0 h))) ∙ k)
    go false h true k = never (sym ((bytes_eq-Decides xs ys).1 (sym ((bytes_eq-Decides ys xs).0 k))) ∙ h)

pub shutdown_name : (name method : List ℕ) (b : Bool) → name ≡ encode_utf8_all method → b ≡ bytes_eq name (codes "shutdown") → b ≡ bytes_eq (codes "shutdown") method
shutdown_name name method b is h = h ∙ (ap (λ w. bytes_eq w (codes "shutdown")) is ∙ (ascii_encoded method (codes "shutdown") refl ∙ same_either method (codes "shutdown")))

-- the methods of refreshes are written in ASCII
refresh_class : (method : List ℕ) → names_refresh (class_of method Server false) ≡ true → is_refresh method ≡ true
unfolding server_request
refresh_class method h = grind arith

written : (method name : List ℕ) → is_ascii name ≡ true → bytes_eq method name ≡ true → encode_utf8_all method ≡ method
written method name ascii h = (bytes_eq-Decides (encode_utf8_all method) name).0 (ascii_encoded method name ascii ∙ h) ∙ sym ((bytes_eq-Decides method name).0 h)

refresh_written : (method : List ℕ) → is_refresh method ≡ true → encode_utf8_all method ≡ method
unfolding is_refresh
refresh_written method h = first (bytes_eq method (codes "workspace/codeLens/refresh")) refl h
  where
    last : (e : Bool) → bytes_eq method (codes "workspace/diagnostic/refresh") ≡ e → e ≡ true → encode_utf8_all method ≡ method
    last true is k = written method (codes "workspace/diagnostic/refresh") refl is
    last false is k = never (sym k)

    fourth : (d : Bool) → bytes_eq method (codes "workspace/inlineValue/refresh") ≡ d → (d || bytes_eq method (codes "workspace/diagnostic/refresh")) ≡ true → encode_utf8_all method ≡ method
    fourth true is k = written method (codes "workspace/inlineValue/refresh") refl is
    fourth false is k = last (bytes_eq method (codes "workspace/diagnostic/refresh")) refl k

    third : (c : Bool) → bytes_eq method (codes "workspace/inlayHint/refresh") ≡ c → (c || bytes_eq method (codes "workspace/inlineValue/refresh") || bytes_eq method (codes "workspace/diagnostic/refresh")) ≡ true → encode_utf8_all method ≡ method
    third true is k = written method (codes "workspace/inlayHint/refresh") refl is
    third false is k = fourth (bytes_eq method (codes "workspace/inlineValue/refresh")) refl k

    second : (b : Bool) → bytes_eq method (codes "workspace/semanticTokens/refresh") ≡ b
        → (b || bytes_eq method (codes "workspace/inlayHint/refresh") || bytes_eq method (codes "workspace/inlineValue/refresh") || bytes_eq method (codes "workspace/diagnostic/refresh")) ≡ true → encode_utf8_all method ≡ method
    second true is k = written method (codes "workspace/semanticTokens/refresh") refl is
    second false is k = third (bytes_eq method (codes "workspace/inlayHint/refresh")) refl k

    first : (a : Bool) → bytes_eq method (codes "workspace/codeLens/refresh") ≡ a
        → (a || bytes_eq method (codes "workspace/semanticTokens/refresh") || bytes_eq method (codes "workspace/inlayHint/refresh") || bytes_eq method (codes "workspace/inlineValue/refresh") || bytes_eq method (codes "workspace/diagnostic/refresh")) ≡ true
        → encode_utf8_all method ≡ method
    first true is k = written method (codes "workspace/codeLens/refresh") refl is
    first false is k = second (bytes_eq method (codes "workspace/semanticTokens/refresh")) refl k

pub refresh_plain : (method : List ℕ) → wants_refresh method ≡ true → encode_utf8_all method ≡ method
refresh_plain method wants = refresh_written method (refresh_class method wants)

-- Whether a message goes on

module _ (settings : Settings) (before : List Event) (e : ℕ) (body : List ℕ) where
  off_serving : (r y f : Bool) → ((r && (false && y)) && f) ≡ false
  off_serving true y f = refl
  off_serving false y f = refl

  off_ready : (r v f : Bool) → ((r && (v && false)) && f) ≡ false
  off_ready true true f = refl
  off_ready true false f = refl
  off_ready false v f = refl

  serves_at : (s n : ℕ) → start_for settings e before ≡ Some n → serves settings before s e ≡ nat_eq s n
  serves_at s n start = ap (λ o. option_map_or (nat_eq s) o false) start

  pub unserved : (m : Message) → start_for settings e before ≡ None → (s : ℕ) → goes_to settings s before e body m ≡ false
  unserved m none s = ap (λ o. (is_running (desk_of e before).phase && (option_map_or (nat_eq s) o false && is_ready (life_of s before).stage)) && goes_forth settings s before e body m) none
      ∙ off_serving (is_running (desk_of e before).phase) (is_ready (life_of s before).stage) (goes_forth settings s before e body m)

  pub elsewhere : (m : Message) (n : ℕ) → start_for settings e before ≡ Some n → (s : ℕ) → nat_eq s n ≡ false → goes_to settings s before e body m ≡ false
  elsewhere m n start s other = ap (λ b. (is_running (desk_of e before).phase && (b && is_ready (life_of s before).stage)) && goes_forth settings s before e body m) (serves_at s n start ∙ other)
      ∙ off_serving (is_running (desk_of e before).phase) (is_ready (life_of s before).stage) (goes_forth settings s before e body m)

  pub unready : (m : Message) (s : ℕ) → is_ready (life_of s before).stage ≡ false → goes_to settings s before e body m ≡ false
  unready m s idle = ap (λ b. (is_running (desk_of e before).phase && (serves settings before s e && b)) && goes_forth settings s before e body m) idle
      ∙ off_ready (is_running (desk_of e before).phase) (serves settings before s e) (goes_forth settings s before e body m)

  -- its group's last start ended, or there is none
  pub ended : (m : Message) → HasEnded (start_for settings e before) before → (s : ℕ) → goes_to settings s before e body m ≡ false
  ended m over s = go (start_for settings e before) refl
    where
      go : (o : Option ℕ) → start_for settings e before ≡ o → goes_to settings s before e body m ≡ false
      go None is = unserved m is s
      go (Some n) is = by (nat_eq s n) refl
        where
          by : (b : Bool) → nat_eq s n ≡ b → goes_to settings s before e body m ≡ false
          by true same = unready m s (ap (λ k. is_ready (life_of k before).stage) (same_number s n same) ∙ ap is_ready (over n is))
          by false other = elsewhere m n is s other

  -- of an editor that runs, to the last start of its group, which is ready
  pub goes_as : (m : Message) (s : ℕ) → is_running (desk_of e before).phase ≡ true → start_for settings e before ≡ Some s → is_ready (life_of s before).stage ≡ true → goes_to settings s before e body m ≡ goes_forth settings s before e body m
  goes_as m s runs start ready =
      let own : nat_eq s s ≡ true = grind (arith, nat_tests) in
      ap (λ b. (b && (serves settings before s e && is_ready (life_of s before).stage)) && goes_forth settings s before e body m) runs
      ∙ (ap (λ b. (b && is_ready (life_of s before).stage) && goes_forth settings s before e body m) (serves_at s s start ∙ own) ∙ ap (λ b. b && goes_forth settings s before e body m) ready)

  -- by its parts, a request
  module _ (s : ℕ) (id : Id) (method : List ℕ) (params : Option Json) where
    abbrev m : Message
    m = request id method params

    -- each of what keeps it from going on
    abbrev forth : Bool → Bool → Bool → Bool → Bool → Bool → Bool
    forth doubled own misplaced shuts reserved room = (not doubled && (not own && (not misplaced && (not shuts && not reserved)))) && room

    forth_aside : (d o p h r k : Bool) → (o || (p || h)) ≡ true → forth d o p h r k ≡ false
    forth_aside true o p h r k on = refl
    forth_aside false true p h r k on = refl
    forth_aside false false true h r k on = refl
    forth_aside false false false true r k on = refl
    forth_aside false false false false r k on = never (sym on)

    forth_reserved : (d o p h k : Bool) → forth d o p h true k ≡ false
    forth_reserved true o p h k = refl
    forth_reserved false true p h k = refl
    forth_reserved false false true h k = refl
    forth_reserved false false false true k = refl
    forth_reserved false false false false k = refl

    forth_open : (o p h k : Bool) → (o || (p || h)) ≡ false → forth false o p h false k ≡ k
    forth_open true p h k off = never off
    forth_open false true h k off = never off
    forth_open false false true k off = never off
    forth_open false false false k off = refl

    pub sends_aside : is_aside id method params ≡ true → goes_forth settings s before e body m ≡ false
    sends_aside on = forth_aside (is_open id (open_of e before)) (is_multiplexer_request m) (is_misplaced method) (bytes_eq (codes "shutdown") method) (reserves (params_of body)) (has_room settings s before) on

    pub sends_doubled : is_open id (open_of e before) ≡ true → goes_forth settings s before e body m ≡ false
    sends_doubled on = ap (λ d. forth d (is_multiplexer_request m) (is_misplaced method) (bytes_eq (codes "shutdown") method) (reserves (params_of body)) (has_room settings s before)) on

    pub sends_reserved : reserves (params_of body) ≡ true → goes_forth settings s before e body m ≡ false
    sends_reserved on = ap (λ r. forth (is_open id (open_of e before)) (is_multiplexer_request m) (is_misplaced method) (bytes_eq (codes "shutdown") method) r (has_room settings s before)) on
        ∙ forth_reserved (is_open id (open_of e before)) (is_multiplexer_request m) (is_misplaced method) (bytes_eq (codes "shutdown") method) (has_room settings s before)

    pub sends_open : is_aside id method params ≡ false → is_open id (open_of e before) ≡ false → reserves (params_of body) ≡ false → goes_forth settings s before e body m ≡ has_room settings s before
    sends_open aside single free = ap₂ (λ d r. forth d (is_multiplexer_request m) (is_misplaced method) (bytes_eq (codes "shutdown") method) r (has_room settings s before)) single free
        ∙ forth_open (is_multiplexer_request m) (is_misplaced method) (bytes_eq (codes "shutdown") method) (has_room settings s before) aside

    pub room_left : is_ready (life_of s before).stage ≡ true → can_ask settings s before ≡ has_room settings s before
    room_left ready = ap (λ b. b && has_room settings s before) ready

-- What it has behind the message

none_either : (b : Bool) (ds : List Debt) → ds ≡ [] → ds ≡ (if b then [] else ds)
none_either true ds none = none
none_either false ds none = refl

module _ (settings : Settings) (rows : List Debt) (events : List Event) (st : DebtsStand settings rows events) (n : ℕ) (body : List ℕ) where
  abbrev Behind : ℕ → ℕ → Bool → List Debt → Type 0
  Behind s e b ds = ds ≡ (if (b && requests (codes "shutdown") (message_of body)) || (b && goes_to settings s events e body (message_of body)) then [] else of s e rows)

  pub shut_stands : requests (codes "shutdown") (message_of body) ≡ true → DebtsStand settings (without (is_with n) rows) (with_cause events (FromEditor n body))
  shut_stands shut = step_stands settings rows events st (without (is_with n) rows) (heard (FromEditor n body)) (λ s e. left_of s e n rows ∙ go s e (nat_eq n e))
    where
      go : (s e : ℕ) (b : Bool) → Behind s e b (if b then [] else of s e rows)
      go s e true = sym (ap (λ c. if c || goes_to settings s events e body (message_of body) then [] else of s e rows) shut)
      go s e false = refl

  pub idle_stands : requests (codes "shutdown") (message_of body) ≡ false → ((s : ℕ) → (goes_to settings s events n body (message_of body) ≡ false) ⊎ (of s n rows ≡ [])) → DebtsStand settings rows (with_cause events (FromEditor n body))
  idle_stands stays idle = step_stands settings rows events st rows (heard (FromEditor n body)) (λ s e. go s e (nat_eq n e) refl)
    where
      own : (s : ℕ) → (goes_to settings s events n body (message_of body) ≡ false) ⊎ (of s n rows ≡ []) → Behind s n true (of s n rows)
      own s (inl off) = sym (ap₂ (λ a b. if a || b then [] else of s n rows) stays off)
      own s (inr none) = none_either (requests (codes "shutdown") (message_of body) || goes_to settings s events n body (message_of body)) (of s n rows) none

      go : (s e : ℕ) (b : Bool) → nat_eq n e ≡ b → Behind s e b (of s e rows)
      go s e true same = subst (λ j. Behind s j true (of s j rows)) (same_number n e same) (own s (idle s))
      go s e false other = refl

  pub taken_stands : (k : ℕ) → requests (codes "shutdown") (message_of body) ≡ false → goes_to settings k events n body (message_of body) ≡ true → ((s : ℕ) → nat_eq k s ≡ false → goes_to settings s events n body (message_of body) ≡ false)
      → DebtsStand settings (without (is_of k n) rows) (with_cause events (FromEditor n body))
  taken_stands k stays goes others = step_stands settings rows events st (without (is_of k n) rows) (heard (FromEditor n body)) (λ s e. taken_of s e k n rows ∙ go s e (nat_eq k s) refl (nat_eq n e) refl)
    where
      off_then : (a : Bool) (ds : List Debt) → (if a && false then [] else ds) ≡ ds
      off_then true ds = refl
      off_then false ds = refl

      mine : (s : ℕ) → k ≡ s → Behind s n true []
      mine s is = subst (λ j. Behind j n true []) is (sym (ap₂ (λ a b. if a || b then [] else of k n rows) stays goes))

      go : (s e : ℕ) (a : Bool) → nat_eq k s ≡ a → (b : Bool) → nat_eq n e ≡ b → Behind s e b (if a && b then [] else of s e rows)
      go s e true is true same = subst (λ j. Behind s j true []) (same_number n e same) (mine s (same_number k s is))
      go s e false off true same = subst (λ j. Behind s j true (of s j rows)) (same_number n e same) (sym (ap₂ (λ a b. if a || b then [] else of s n rows) stays (others s off)))
      go s e a is false other = off_then a (of s e rows)

-- Nothing is due

module _ (settings : Settings) (before : List Event) (e : ℕ) (body : List ℕ) where
  due_by : ((s : ℕ) → debts_due settings s before e body (message_of body) ≡ []) → (due : List Debt) → due ≡ [] → IsDue settings before e body due
  due_by none due is = go (start_for settings e before)
    where
      go : (o : Option ℕ) → IsDueOf settings before e body due o
      go None = is
      go (Some s) = is ∙ sym (none s)

  pub none_due : ((s : ℕ) → goes_to settings s before e body (message_of body) ≡ false) → (due : List Debt) → due ≡ [] → IsDue settings before e body due
  none_due off due is = due_by (λ s. ap (λ b. if b then debts_of settings s e before else []) (off s)) due is

  pub this_due : (s : ℕ) → start_for settings e before ≡ Some s → (due : List Debt) → due ≡ debts_due settings s before e body (message_of body) → IsDue settings before e body due
  this_due s start due is = subst (IsDueOf settings before e body due) (sym start) is

  pub shut_goes : requests (codes "shutdown") (message_of body) ≡ true → (s : ℕ) → goes_to settings s before e body (message_of body) ≡ false
  shut_goes shut = off_forth settings before e body (message_of body) (forth_shutdown settings before e body (message_of body) shut)

-- what is owed to nobody is none
pub none_of : (s e : ℕ) (rows : List Debt) → list_any (is_of s e) rows ≡ false → of s e rows ≡ []
none_of s e [] off = refl
none_of s e (d ∷ rows) off = go (is_of s e d) off (none_of s e rows)
  where
    go : (b : Bool) → (b || list_any (is_of s e) rows) ≡ false → (list_any (is_of s e) rows ≡ false → of s e rows ≡ []) → cond b (d ∷ of s e rows) (of s e rows) ≡ []
    go true h rest = never h
    go false h rest = rest h

-- what is no message doesn't go on, and changes nothing
pub malformed_stops : (settings : Settings) (before : List Event) (e : ℕ) (body : List ℕ) (m : Message) → is_malformed m ≡ true → (s : ℕ) → goes_to settings s before e body m ≡ false
malformed_stops settings before e body m bad = off_forth settings before e body m (by_message m bad)
  where
    by_message : (m : Message) → is_malformed m ≡ true → (s : ℕ) → goes_forth settings s before e body m ≡ false
    by_message not_json h s = refl
    by_message not_message h s = refl
    by_message (request id method params) h s = never (sym h)
    by_message (notification method params) h s = never (sym h)
    by_message (result id r) h s = refl
    by_message (error id x) h s = refl

pub malformed_stands : (settings : Settings) (rows : List Debt) (events : List Event) → DebtsStand settings rows events → (n : ℕ) (body : List ℕ) → is_malformed (message_of body) ≡ true → DebtsStand settings rows (with_cause events (FromEditor n body))
malformed_stands settings rows events st n body bad = idle_stands settings rows events st n body (by_message (message_of body) bad) (λ s. inl (malformed_stops settings events n body (message_of body) bad s))
  where
    by_message : (m : Message) → is_malformed m ≡ true → requests (codes "shutdown") m ≡ false
    by_message not_json h = refl
    by_message not_message h = refl
    by_message (request id method params) h = never (sym h)
    by_message (notification method params) h = refl
    by_message (result id r) h = refl
    by_message (error id x) h = refl

-- By their sorts

-- a notification
pub record Tells (m : Message) : Type 0 where
  pub method : List ℕ
  pub params : Option Json
  pub is : m ≡ notification method params

pub tells_by_sort : (m : Message) → sort_of m ≡ Some sort.Notification → Tells m
tells_by_sort (notification method params) h = record { method = method; params = params; is = refl }
tells_by_sort (request id method params) h = absurd (cc)
tells_by_sort (result id r) h = absurd (cc)
tells_by_sort (error id r) h = absurd (cc)
tells_by_sort not_json h = absurd (cc)
tells_by_sort not_message h = absurd (cc)

pub unshut_sort : (name : List ℕ) (m : Message) → (sort_of m ≡ Some sort.Request → ⊥) → requests name m ≡ false
unshut_sort name (request id method params) h = absurd (h refl)
unshut_sort name (notification method params) h = refl
unshut_sort name (result id r) h = refl
unshut_sort name (error id r) h = refl
unshut_sort name not_json h = refl
unshut_sort name not_message h = refl

pub idle_sort : (settings : Settings) (s : ℕ) (before : List Event) (e : ℕ) (body : List ℕ) (m : Message) → (sort_of m ≡ Some sort.Request → ⊥) → (sort_of m ≡ Some sort.Notification → ⊥) → goes_forth settings s before e body m ≡ false
idle_sort settings s before e body (request id method params) h k = absurd (h refl)
idle_sort settings s before e body (notification method params) h k = absurd (k refl)
idle_sort settings s before e body (result id r) h k = refl
idle_sort settings s before e body (error id r) h k = refl
idle_sort settings s before e body not_json h k = refl
idle_sort settings s before e body not_message h k = refl

-- To no other start than the last one of its group

turned : (s k : ℕ) → nat_eq k s ≡ false → nat_eq s k ≡ false
turned s k h = grind (arith, nat_tests)

module _ (settings : Settings) (before : List Event) (e : ℕ) (body : List ℕ) (k : ℕ) (start : start_for settings e before ≡ Some k) where
  pub to_others : (m : Message) (s : ℕ) → nat_eq k s ≡ false → goes_to settings s before e body m ≡ false
  to_others m s other = elsewhere settings before e body m k start s (turned s k other)

  -- where it doesn't go there either, or that start owes nothing, nothing changes
  pub either_idle : (rows : List Debt) → (goes_to settings k before e body (message_of body) ≡ false) ⊎ (of k e rows ≡ []) → (s : ℕ) → (goes_to settings s before e body (message_of body) ≡ false) ⊎ (of s e rows ≡ [])
  either_idle rows own s = go (nat_eq k s) refl
    where
      go : (b : Bool) → nat_eq k s ≡ b → (goes_to settings s before e body (message_of body) ≡ false) ⊎ (of s e rows ≡ [])
      go true same = subst (λ j. (goes_to settings j before e body (message_of body) ≡ false) ⊎ (of j e rows ≡ [])) (same_number k s same) own
      go false other = inl (to_others (message_of body) s other)

pub empty_due : (b : Bool) (ds : List Debt) → ds ≡ [] → [] ≡ (if b then ds else [])
empty_due true ds none = sym none
empty_due false ds none = refl

-- What keeps a request from a start, one after the other

abbrev pub any_of : Bool → Bool → Bool → Bool → Bool → Bool → Bool
any_of a b c d f g = (a || (b || c)) || ((d || f) || g)

pub any_first : (a b c d f g : Bool) → a ≡ true → a ≡ any_of a b c d f g
any_first true b c d f g h = refl
any_first false b c d f g h = never (sym h)

pub any_second : (a b c d f g : Bool) → a ≡ false → b ≡ true → b ≡ any_of a b c d f g
any_second true b c d f g h k = never h
any_second false true c d f g h k = refl
any_second false false c d f g h k = never (sym k)

pub any_third : (a b c d f g : Bool) → a ≡ false → b ≡ false → c ≡ true → c ≡ any_of a b c d f g
any_third true b c d f g h k l = never h
any_third false true c d f g h k l = never k
any_third false false true d f g h k l = refl
any_third false false false d f g h k l = never (sym l)

pub any_fourth : (a b c d f g : Bool) → a ≡ false → b ≡ false → c ≡ false → d ≡ true → d ≡ any_of a b c d f g
any_fourth true b c d f g h k l m = never h
any_fourth false true c d f g h k l m = never k
any_fourth false false true d f g h k l m = never l
any_fourth false false false true f g h k l m = refl
any_fourth false false false false f g h k l m = never (sym m)

pub any_last : (a b c d f g : Bool) → a ≡ false → b ≡ false → c ≡ false → d ≡ false → (f || g) ≡ any_of a b c d f g
any_last true b c d f g h k l m = never h
any_last false true c d f g h k l m = never k
any_last false false true d f g h k l m = never l
any_last false false false true f g h k l m = never m
any_last false false false false f g h k l m = refl

pub on_first : (a b : Bool) → a ≡ true → a ≡ (a || b)
on_first true b h = refl
on_first false b h = never (sym h)

pub on_second : (a b : Bool) → a ≡ false → b ≡ (a || b)
on_second true b h = never h
on_second false b h = refl

-- Where nothing is due, or its editor isn't there

pub empty_of : (ds : List Debt) → nat_eq (length ds) 0 ≡ true → ds ≡ []
empty_of [] h = refl
empty_of (d ∷ ds) h = let none : length (d ∷ ds) ≡ 0 = same_number (length (d ∷ ds)) 0 h in absurd (omega (arith, none))

pub past_none : (xs : List Session) (i : ℕ) → length xs ≤ i → slice_get xs i ≡ None
past_none [] i h = refl
past_none (x ∷ xs) zero h = absurd (omega (arith, h))
past_none (x ∷ xs) (suc i) h = past_none xs i (omega (arith, h))
