-- E7 as a whole entry.
use Rattle.std.proofs.Common.{◌≡◌, ℕ, zero, suc, ◌<◌, Bool, true, false, List, [], ◌∷◌, length, refl, ap, ap₂, sym, subst, ◌∙◌, append-nil, nat_lt, codes, if◌then◌else◌}
use Rattle.std.specs.Prelude.{Option, Some, None, IfSome, is_some, map, option_map, slice_get}
use Rattle.std.specs.Option.{option_and_then}
use Rattle.std.proofs.lemmas.Bool.{and_parts}
use Rattle.json_text.specs.Json.{Json}
use Rattle.json_text.specs.Tree.{tree_of}
use Rattle.mux_history.specs.declared.cause.Cause.TheVariants.{FromEditor}
use Rattle.mux_history.specs.declared.out.Out.{Out}
use Rattle.rpc_message.specs.Message.{Message, message_of}
use Rattle.event_model.specs.declared.phase.Phase.{Phase}
use Rattle.event_model.specs.declared.phase.Phase.TheVariants.{Absent, New, Waiting, Answered, Running, Down, Closed, Gone}
use Rattle.event_model.specs.declared.settings.Server.{Server}
use Rattle.event_model.specs.declared.stage.Stage.{Stage}
use Rattle.event_model.specs.Does.{Alike, Does, Done}
use Rattle.event_model.specs.Event.{Event, behind, heard, requests, took, with_cause}
use Rattle.event_model.specs.Members.{options_of, params_of}
use Rattle.event_model.specs.Phases.{Desk, desk_behind, desk_hears, desk_of, is_new, is_served}
use Rattle.event_model.specs.Row.{nothing, choose, on}
use Rattle.event_model.specs.Settings.{Settings}
use Rattle.event_model.specs.Spawns.{start_behind, start_of}
use Rattle.event_model.specs.Stages.{Life, is_ready, life_behind, life_of}
use Rattle.event_model.proofs.Frames.{one_more}
use Rattle.event_model.proofs.Places.{item_at}
use Rattle.event_model.proofs.Turns.{alike, alike_then, does_alike, does_nothing}
use Rattle.editor_session.specs.declared.session.Session.{Session}
use Rattle.capability_meet.specs.DeclaredTree.{declared_of, declared_tree}
use Rattle.capability_meet.specs.MeetTree.{whole_text}
use Rattle.mux_turns.specs.group_facts.specs.Facts.{Numbered}
use Rattle.mux_turns.specs.group_facts.specs.Settled.{Settled}
use Rattle.mux_turns.specs.group_facts.proofs.Waiting.{new_is}
use Rattle.mux_turns.proofs.Rows.{is_second}
use Rattle.mux_tables.specs.group_table.specs.Tables.{declared_text}
use Rattle.group_words.specs.declared.idle.Idle.{Idle}
use Rattle.group_words.specs.declared.kept.Kept.{Kept}
use Rattle.group_words.specs.declared.placed.Placed.{Placed}
use Rattle.group_words.specs.declared.placed.Placed.TheVariants.{Joins, New as Founds, Evicts}
use Rattle.group_words.specs.Houses.{ceiling_of, declared_for, folders_of, given_or, groups_of, is_object, key_for, normal_of, offered, placed_for, places, server_for}
use Rattle.group_words.specs.Keys.{Common}
use Rattle.group_words.specs.Placing.{evicting, first_from, founding, idlest_from, joining, live_count, placed_in, takes}
use Rattle.group_words.specs.Rows.{answer_with, initialize_row, placed_row, result_behind, result_of, welcomed}
use Rattle.mux_tables.specs.declared.tables.Tables.{Tables}
use Rattle.mux_tables.specs.Documents.{AllStand, nothing_owed}
use Rattle.mux_tables.specs.Stands.{HasEnded, Stands, phase_in}
use Rattle.mux_tables.proofs.Frames.{itself}
use Rattle.mux_turns.specs.group_facts.specs.Ceilings.{HaveCeilings, IsCeiling}
use Rattle.mux_turns.specs.Founding.{IsNext}
use Rattle.mux_turns.proofs.Evictions.{numbered_heard}
use Rattle.mux_turns.proofs.Matched.{whole_entry}

-- what is declared for it

some_given : {A : Type 0} (o : Option A) (d : A) → is_some o ≡ true → o ≡ Some (given_or o d)
some_given (Some a) d h = refl
some_given None d h = absurd (cc)

met_some : (a : List ℕ) (o p : Option Json) → is_some o ≡ true → is_some p ≡ true → is_some (option_and_then (λ j. option_map (λ k. whole_text (λ j k. declared_tree j k) a j k) p) o) ≡ true
met_some a (Some j) (Some k) h l = refl
met_some a (Some j) None h l = absurd (cc)
met_some a None p h l = absurd (cc)

declares : (a b : List ℕ) → is_some (tree_of a) ≡ true → is_some (tree_of b) ≡ true → declared_of a b ≡ Some (given_or (declared_of a b) (codes "{}"))
declares a b h k = some_given (declared_of a b) (codes "{}") (met_some a (tree_of a) (tree_of b) h k)

object_there : (o : Option Json) → is_object o ≡ true → is_some o ≡ true
object_there (Some j) h = refl
object_there None h = absurd (cc)

-- of one of the servers
pub ceiling_at : (servers : List Server) (n : ℕ) (w : List ℕ) → HaveCeilings servers → option_and_then (λ (x : Server). x.ceiling) (slice_get servers n) ≡ Some w → IsCeiling w
ceiling_at [] n w h e = absurd (clash w e)
  where
    clash : (w : List ℕ) → ◌≡◌ {A = Option (List ℕ)} None (Some w) → ⊥
    clash w e = cc
ceiling_at (x ∷ xs) zero w h e = go x.ceiling e h.0
  where
    go : (o : Option (List ℕ)) → o ≡ Some w → IfSome o IsCeiling → IsCeiling w
    go (Some v) e k = let same : v ≡ w = cc in subst IsCeiling same k
    go None e k = absurd (cc)
ceiling_at (x ∷ xs) (suc n) w h e = ceiling_at xs n w h.1 e

ceiling_so : (o : Option Server) (capabilities : List ℕ) → ceiling_of o capabilities ≡ given_or (option_and_then (λ (x : Server). x.ceiling) o) capabilities
ceiling_so None capabilities = refl
ceiling_so (Some x) capabilities = refl

declared_so : (capabilities : List ℕ) (ceiling : Option (List ℕ)) → is_some (tree_of capabilities) ≡ true → ((w : List ℕ) → ceiling ≡ Some w → IsCeiling w) → declared_text capabilities ceiling ≡ Some (given_or (declared_of capabilities (given_or ceiling capabilities)) (codes "{}"))
declared_so capabilities None text fits = declares capabilities capabilities text text
declared_so capabilities (Some w) text fits = declares capabilities w text (object_there (tree_of w) (fits w refl).1)

module _ (settings : Settings) (before : List Event) (e : ℕ) (body : List ℕ) (default : ℕ) (server : server_for settings e before ≡ default) where
  pub declared_is : (servers : List Server) (capabilities : List ℕ) (ceiling : Option (List ℕ)) → settings.servers ≡ servers → HaveCeilings servers → capabilities ≡ offered body → is_some (tree_of capabilities) ≡ true
      → ceiling ≡ option_and_then (λ (x : Server). x.ceiling) (slice_get servers default) → declared_text capabilities ceiling ≡ Some (declared_for settings before e body)
  declared_is servers capabilities ceiling all fit offers text is =
      declared_so capabilities ceiling text (λ w k. ceiling_at servers default w fit (sym is ∙ k))
      ∙ (ap₂ (λ (c : Option (List ℕ)) (w : List ℕ). Some (given_or (declared_of w (given_or c w)) (codes "{}"))) (is ∙ ap₂ (λ ss n. option_and_then (λ (x : Server). x.ceiling) (slice_get ss n)) (sym all) (sym server)) offers
      ∙ ap (λ w. Some (given_or (declared_of (offered body) w) (codes "{}"))) (sym (ceiling_so (slice_get settings.servers (server_for settings e before)) (offered body))))

  pub key_is : (key : Common) → key ≡ record { server = default; folders = folders_of (params_of body); normal = map normal_of (folders_of (params_of body)); options = options_of body } → key ≡ key_for settings before e body
  key_is key is = is ∙ ap (λ n. record { server = n; folders = folders_of (params_of body); normal = map normal_of (folders_of (params_of body)); options = options_of body }) (sym server)

pub new_here : (before : List Event) (e : ℕ) (m : Message) → places (desk_of e before).phase m ≡ true → (desk_of e before).phase ≡ New
new_here before e m first = new_is (desk_of e before).phase (and_parts (is_new (desk_of e before).phase) (requests (codes "initialize") m) first).0

-- it was new
new_phase : (p : Phase) (m : Message) → places p m ≡ true → (p ≡ New) × (requests (codes "initialize") m ≡ true)
new_phase New m h = (refl, h)
new_phase Absent m h = absurd (cc)
new_phase Waiting m h = absurd (cc)
new_phase Answered m h = absurd (cc)
new_phase Running m h = absurd (cc)
new_phase Down m h = absurd (cc)
new_phase Closed m h = absurd (cc)
new_phase Gone m h = absurd (cc)

pub new_session : (settings : Settings) (t : Tables) (before : List Event) (e : ℕ) (m : Message) → e < length t.editors → places (desk_of e before).phase m ≡ true → Stands settings t before
    → (x : Session) × (slice_get t.editors e ≡ Some x) × (x.phase ≡ New) × (requests (codes "initialize") m ≡ true)
new_session settings t before e m inside placed st =
    let x = item_at t.editors e inside in
    let two = new_phase (desk_of e before).phase m placed in
    (x.0, x.1, sym (st.house.editors.phase e ∙ ap phase_in x.1) ∙ two.0, two.1)

-- a new group is the next one
abbrev Founded : ℕ → Placed → Type 0
Founded n (Founds g) = g ≡ n
Founded n (Evicts a g) = g ≡ n
Founded n other = Unit {0}

founded_next : (limit : ℕ) (groups : List Kept) → Founded (length groups) (founding limit groups)
founded_next limit groups = go (nat_lt (live_count groups) limit) (idlest_from 0 None groups)
  where
    go : (b : Bool) (best : Option Idle) → Founded (length groups) (if b then Founds (length groups) else evicting best (length groups))
    go true best = refl
    go false None = tt
    go false (Some x) = refl

placed_next : (limit : ℕ) (key : Common) (declared : List ℕ) (groups : List Kept) → Founded (length groups) (placed_in limit key declared groups)
placed_next limit key declared groups = go (first_from 0 (takes key declared) groups)
  where
    go : (o : Option ℕ) → Founded (length groups) (joining o (founding limit groups))
    go (Some g) = tt
    go None = founded_next limit groups

module _ (settings : Settings) (before : List Event) (e : ℕ) (body : List ℕ) (settled : Settled settings before) where
  abbrev base : List Event
  base = with_cause before (FromEditor e body)

  start_same : (g : ℕ) → start_of g base ≡ start_of g before
  start_same g = one_more (start_behind g) _ _ before (heard (FromEditor e body)) refl

  next_before : IsNext (length (groups_of settings before)) before
  next_before = record {
    none = λ h l. (settled.begun h).1 l;
  }

  -- behind the message
  next_now : (n : ℕ) (xs : List Out) → xs ≡ [] → n ≡ length (groups_of settings before) → IsNext n (behind base xs)
  next_now n xs first is =
      let here : (g : ℕ) → start_of g (behind base xs) ≡ start_of g before = λ g. ap (λ ys. start_of g (behind base ys)) first ∙ (ap (start_of g) (append-nil base) ∙ start_same g) in
      subst (λ m. IsNext m (behind base xs)) (sym is) (record { none = λ h l. here h ∙ next_before.none h l })

  pub founds_next : (n : ℕ) (xs : List Out) → xs ≡ [] → Founds n ≡ placed_for settings before e body (groups_of settings before) → IsNext n (behind base xs)
  founds_next n xs first is = next_now n xs first (subst (Founded (length (groups_of settings before))) (sym is) (placed_next settings.limits.groups (key_for settings before e body) (declared_for settings before e body) (groups_of settings before)))

  pub evicts_next : (a n : ℕ) (xs : List Out) → xs ≡ [] → Evicts a n ≡ placed_for settings before e body (groups_of settings before) → IsNext n (behind base xs)
  evicts_next a n xs first is = next_now n xs first (subst (Founded (length (groups_of settings before))) (sym is) (placed_next settings.limits.groups (key_for settings before e body) (declared_for settings before e body) (groups_of settings before)))

-- the row of an editor that joins, by what stands before its message or behind it
module _ (before : List Event) (e : ℕ) (body : List ℕ) where
  abbrev now : List Event
  now = with_cause before (FromEditor e body)

  pub starts_heard : (g : ℕ) → start_of g now ≡ start_of g before
  starts_heard g = one_more (start_behind g) _ _ before (heard (FromEditor e body)) refl

  pub life_heard : (s : ℕ) → life_of s now ≡ life_of s before
  life_heard s = one_more (life_behind s) _ _ before (heard (FromEditor e body)) refl

  result_unmoved : (s : ℕ) (o : Option (List ℕ)) (m : Message) → result_behind s o (took (FromEditor e body) m) ≡ o
  result_unmoved s None m = refl
  result_unmoved s (Some w) m = refl

  pub result_heard : (s : ℕ) → result_of s now ≡ result_of s before
  result_heard s = one_more (result_behind s) _ _ before (heard (FromEditor e body)) refl ∙ result_unmoved s (result_of s before) (message_of body)

  pub joins_heard : (g : ℕ) → placed_row e body now (Joins g) ≡ placed_row e body before (Joins g)
  joins_heard g = ap (λ o. on o nothing (welcomed e body now)) (starts_heard g) ∙ go (start_of g before)
    where
      go : (o : Option ℕ) → on o nothing (welcomed e body now) ≡ on o nothing (welcomed e body before)
      go None = refl
      go (Some s) = ap₂ (λ (l : Life) r. choose (is_ready l.stage) (on r nothing (answer_with e body)) nothing) (life_heard s) (result_heard s)

-- the whole entry, by where the editor is placed
pub placed_entry : (settings : Settings) (t u : Tables) (before : List Event) (e : ℕ) (body : List ℕ) (p : Placed) (xs ys : List Out) → xs ≡ [] → p ≡ placed_for settings before e body (groups_of settings before) → AllStand settings (t, nothing_owed) (with_cause before (FromEditor e body))
    → Does (λ k events. AllStand settings k events) (placed_row e body before p) (with_cause before (FromEditor e body)) (t, nothing_owed) xs (u, nothing_owed) ys
    → Done (λ k events. AllStand settings k events) (initialize_row settings before e body) (with_cause before (FromEditor e body)) [] (u, nothing_owed) ys
placed_entry settings t u before e body p xs ys first is st d =
    whole_entry (λ k events. AllStand settings k events) (initialize_row settings before e body) (with_cause before (FromEditor e body)) (t, nothing_owed) (u, nothing_owed) xs ys first st
    (subst (λ q. Does (λ k events. AllStand settings k events) (placed_row e body before q) (with_cause before (FromEditor e body)) (t, nothing_owed) xs (u, nothing_owed) ys) is d)

-- it waits behind its message
waits_unserved : (p : Phase) (i body : List ℕ) (m : Message) → places p m ≡ true → is_served (desk_hears p i body m).phase ≡ false
waits_unserved New i body m h = rw (h) refl
waits_unserved Absent i body m h = absurd (cc)
waits_unserved Waiting i body m h = absurd (cc)
waits_unserved Answered i body m h = absurd (cc)
waits_unserved Running i body m h = absurd (cc)
waits_unserved Down i body m h = absurd (cc)
waits_unserved Closed i body m h = absurd (cc)
waits_unserved Gone i body m h = absurd (cc)

module _ (settings : Settings) (before : List Event) (e : ℕ) (body : List ℕ) (xs : List Out) (first : xs ≡ []) where
  here : behind (with_cause before (FromEditor e body)) xs ≡ with_cause before (FromEditor e body)
  here = ap (behind (with_cause before (FromEditor e body))) first ∙ append-nil (with_cause before (FromEditor e body))

  pub unserved_now : places (desk_of e before).phase (message_of body) ≡ true → is_served (desk_of e (behind (with_cause before (FromEditor e body)) xs)).phase ≡ false
  unserved_now new = ap (λ es. is_served (desk_of e es).phase) here
      ∙ (ap (λ (d : Desk). is_served d.phase) (one_more (desk_behind e) _ _ before (heard (FromEditor e body)) refl) ∙ rw (itself e) (waits_unserved (desk_of e before).phase (desk_of e before).initialize body (message_of body) new))

  pub numbered_now : Numbered settings before → Numbered settings (behind (with_cause before (FromEditor e body)) xs)
  numbered_now k = subst (Numbered settings) (sym here) (numbered_heard settings before e body k)

-- an editor that joins a group waits, where its start isn't ready behind the message
pub joins_waits : (settings : Settings) (t : Tables) (before : List Event) (e : ℕ) (body : List ℕ) (g : ℕ) (xs : List Out) → xs ≡ [] → (Stands settings t (with_cause before (FromEditor e body)) → Alike (placed_row e body (with_cause before (FromEditor e body)) (Joins g)) nothing)
    → Does (λ k events. AllStand settings k events) (placed_row e body before (Joins g)) (with_cause before (FromEditor e body)) (t, nothing_owed) xs (t, nothing_owed) xs
joins_waits settings t before e body g xs first waits =
    does_alike (λ k. alike_then (alike (sym (joins_heard before e body g))) (waits (subst (Stands settings t) (here settings before e body xs first) k.0))) does_nothing

-- an editor that joins a group without a ready start waits
module _ (before : List Event) (e : ℕ) (body : List ℕ) (g : ℕ) where
  pub joins_ended : HasEnded (start_of g before) before → Alike (placed_row e body before (Joins g)) nothing
  joins_ended ended = go (start_of g before) refl
    where
      go : (o : Option ℕ) → start_of g before ≡ o → Alike (on o nothing (welcomed e body before)) nothing
      go None h = alike refl
      go (Some s) h = is_second refl (ap is_ready (ended s h))

  pub joins_unready : (s : ℕ) (stage : Stage) → start_of g before ≡ Some s → stage ≡ (life_of s before).stage → is_ready stage ≡ false → Alike (placed_row e body before (Joins g)) nothing
  joins_unready s stage h at r = is_second (ap (λ o. on o nothing (welcomed e body before)) h) (ap is_ready (sym at) ∙ r)
