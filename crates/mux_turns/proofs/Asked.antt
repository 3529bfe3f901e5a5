-- Which ids are open at an editor, as the tables have it.
use Rattle.std.proofs.Common.{◌≡◌, ℕ, zero, suc, ◌≤◌, Bool, true, false, cond, ◌&&◌, ◌||◌, List, [], ◌∷◌, map, length, find, nat_eq, refl, ap, sym, subst, ◌∙◌, arith, inl, inr, Bor}
use Rattle.std.specs.Prelude.{◌⊎◌, Option, Some, None, is_some, option_copied, option_map, slice_get}
use Rattle.std.specs.List.{AllByRecursion}
use Rattle.std.specs.Option.{option_and_then, option_map_or}
use Rattle.std.proofs.lemmas.Bool.Decides.{nat_tests}
use Rattle.json_text.specs.Json.{Json}
use Rattle.rpc_message.specs.Message.{Message, request, notification, result, error, not_json, not_message, Id, id_bytes, message_of, same_id}
use Rattle.rpc_message.specs.ValueTexts.{IsIdText}
use Rattle.rpc_message.proofs.Ids.{request_id_bytes}
use Rattle.event_model.specs.declared.phase.Phase.{Phase}
use Rattle.event_model.specs.declared.phase.Phase.TheVariants.{Absent, New, Waiting, Answered, Running, Down, Closed, Gone}
use Rattle.event_model.specs.Event.{Event}
use Rattle.event_model.specs.Phases.{desk_of, has_id, is_begun, is_there, needs_server}
use Rattle.event_model.specs.Requests.{is_open, open_of}
use Rattle.event_model.specs.Settings.{Settings}
use Rattle.event_model.specs.Spawns.{start_of}
use Rattle.event_model.proofs.Places.{same_item}
use Rattle.group_facts.specs.Built.{doubles}
use Rattle.group_facts.specs.Facts.{AllForwarded, IsForwarded, is_up}
use Rattle.group_facts.proofs.LiveGroups.{lives_busy}
use Rattle.group_facts.specs.Settled.{IsKeptBack, IsSent, Settled, is_answered}
use Rattle.group_facts.specs.group_rows.specs.Forwarded.{Forwarded, forwarding_of}
use Rattle.group_words.specs.Houses.{groups_of, home_of}
use Rattle.mux_tables.specs.id_rewrite.specs.declared.pending.Numbered.{Numbered}
use Rattle.mux_tables.specs.id_rewrite.specs.Forms.{same_form}
use Rattle.mux_tables.specs.id_rewrite.specs.Tables.{is_under, number_under}
use Rattle.mux_tables.specs.id_rewrite.proofs.Finding.{texts_same}
use Rattle.group_facts.specs.mux_facts.proofs.Words.{id_same, same_id_itself}
use Rattle.mux_tables.specs.declared.tables.Start.{Start}
use Rattle.mux_tables.specs.declared.tables.Tables.{Tables}
use Rattle.mux_tables.specs.Names.{id_in}
use Rattle.group_facts.specs.group_rows.specs.Waiting.{id_meant, is_meant, waiting_of}
use Rattle.group_facts.specs.group_rows.proofs.Cancelling.{text_meant}
use Rattle.mux_tables.specs.mux_waits.specs.held_requests.specs.declared.request.Request.{Request}
use Rattle.mux_tables.specs.mux_waits.specs.Stands.{IsHeld}
use Rattle.mux_tables.specs.mux_waits.proofs.Moves.{held_text}
use Rattle.mux_tables.specs.Stands.{HasEnded, Stands, forwarded_of, of_ids, start_for}
use Rattle.mux_tables.proofs.Frames.{itself}
use Rattle.mux_tables.proofs.Seen.{phase_past}

or_nothing : (a : Bool) → a ≡ (a || false)
or_nothing true = refl
or_nothing false = refl

both : (a b : Bool) → (a && b) ≡ true → (a ≡ true) × (b ≡ true)
both true b e = (refl, e)
both false b e = absurd (cc)

agree : (a b : Bool) → (a ≡ true → b ≡ true) → (b ≡ true → a ≡ true) → a ≡ b
agree true b there back = sym (there refl)
agree false true there back = back refl
agree false false there back = refl

pub copied_some : {A : Type 0} (r : Option (Bor A)) → is_some r ≡ is_some (option_copied r)
copied_some None = refl
copied_some (Some b) = refl

same_editor : (a b : ℕ) → nat_eq a b ≡ true → a ≡ b
same_editor a b h = grind (arith, nat_tests)

nothing_some : {A : Type 0} {x : A} → ◌≡◌ {A = Option A} None (Some x) → ⊥
nothing_some e = cc

-- a request has its id
named : (i : Id) (m : Message) → has_id i m ≡ true → (method : List ℕ) × ((params : Option Json) × (m ≡ request i method params))
named i (request j method params) h = (method, (params, ap (λ k. request k method params) (sym (id_same i j h))))
named i (notification method params) h = absurd (cc)
named i (result id r) h = absurd (cc)
named i (error id e) h = absurd (cc)
named i not_json h = absurd (cc)
named i not_message h = absurd (cc)

-- of an editor that waits
module _ (settings : Settings) (t : Tables) (before : List Event) (e : ℕ) (i : Id) (known : Settled settings before) (st : Stands settings t before) (waits : (desk_of e before).phase ≡ Waiting) where
  kept_id : id_in (slice_get t.editors e) ≡ Some (id_bytes (desk_of e before).initialize)
  kept_id = let seat = known.seated e (ap needs_server waits) in (st.house.editors.names e).own seat.group waits seat.home

  pub own_here : (w : List ℕ) (b : Bool) → id_in (slice_get t.editors e) ≡ Some w → ((j : Id) → IsIdText j w → b ≡ same_id i j) → b ≡ is_open i (open_of e before)
  own_here w b at test =
      let own = known.waiting e waits in
      let is = named own.id (message_of (desk_of e before).initialize) own.asked in
      let same : w ≡ id_bytes (desk_of e before).initialize = same_item (sym at ∙ kept_id) in
      test own.id (subst (λ v. IsIdText own.id v) (sym same) (request_id_bytes (desk_of e before).initialize own.id is.0 is.1.0 is.1.1)) ∙ (or_nothing (same_id i own.id) ∙ ap (is_open i) (sym own.ids))

  pub own_nowhere : id_in (slice_get t.editors e) ≡ None → false ≡ is_open i (open_of e before)
  own_nowhere at = absurd (nothing_some (sym at ∙ kept_id))

  pub own_past : length t.editors ≤ e → false ≡ is_open i (open_of e before)
  own_past past = absurd (clash (phase_past settings t before e st past ∙ waits))
    where
      clash : Absent ≡ Waiting → ⊥
      clash q = cc

-- an editor that got its result is there
pub answered_there : (p : Phase) → is_answered p ≡ true → is_there p ≡ true
answered_there Answered h = refl
answered_there Running h = refl
answered_there Down h = refl
answered_there New h = absurd (cc)
answered_there Waiting h = absurd (cc)
answered_there Absent h = absurd (cc)
answered_there Closed h = absurd (cc)
answered_there Gone h = absurd (cc)

-- of one that got its result
module _ (settings : Settings) (t : Tables) (before : List Event) (e : ℕ) (i : Id) (known : Settled settings before) (served : is_answered (desk_of e before).phase ≡ true) where
  begun : (p : Phase) → is_answered p ≡ true → is_begun p ≡ true
  begun Answered h = refl
  begun Running h = refl
  begun Down h = refl
  begun Absent h = absurd (cc)
  begun New h = absurd (cc)
  begun Waiting h = absurd (cc)
  begun Closed h = absurd (cc)
  begun Gone h = absurd (cc)

  pub sent_nowhere : HasEnded (start_for settings e before) before → IsSent settings before e i → false ≡ true
  sent_nowhere ended x =
      let live = lives_busy x.group (groups_of settings before) (known.lively.busy e x.group (begun (desk_of e before).phase served) x.home) in
      sym (sym (known.lively.up x.group x.start live x.last) ∙ ap is_up (ended x.start (ap (option_and_then (λ g. start_of g before)) x.home ∙ x.last)))

  module _ (w : List ℕ) (text : IsIdText i w) where
    found_open : (rs : List Numbered) → AllByRecursion (IsForwarded before) (map forwarded_of rs) → is_some (number_under e w rs) ≡ true → is_open i (open_of e before) ≡ true
    found_open [] all h = absurd (cc)
    found_open (r ∷ rs) all h = go (is_under e w r) refl h (λ k. found_open rs all.1 k)
      where
        go : (b : Bool) → is_under e w r ≡ b → is_some (option_map (λ (q : Numbered). q.number) (cond b (Some r) (find (is_under e w) rs))) ≡ true → (is_some (number_under e w rs) ≡ true → is_open i (open_of e before) ≡ true) → is_open i (open_of e before) ≡ true
        go true u h rest =
            let two = both (nat_eq r.pending.editor e) (same_form w r.pending.id) u in
            let k = all.0 in
            let same : i ≡ k.id = id_same i k.id (sym (texts_same i k.id w r.pending.id text k.text) ∙ two.1) in
            subst (λ n. is_open i (open_of n before) ≡ true) (same_editor r.pending.editor e two.0) (subst (λ j. is_open j (open_of r.pending.editor before) ≡ true) (sym same) k.waits)
        go false u h rest = rest h

    open_found : (rs : List Numbered) (k : ℕ) (f : Forwarded) → slice_get (map forwarded_of rs) k ≡ Some f → f.editor ≡ e → IsIdText i f.id → is_some (number_under e w rs) ≡ true
    open_found [] k f at own id = absurd (nothing_some at)
    open_found (r ∷ rs) zero f at own id = ap (λ b. is_some (option_map (λ (q : Numbered). q.number) (cond b (Some r) (find (is_under e w) rs)))) under
      where
        is : forwarded_of r ≡ f
        is = same_item at

        under : is_under e w r ≡ true
        under = ap (λ n. nat_eq n e && same_form w r.pending.id) (ap (λ (x : Forwarded). x.editor) is ∙ own) ∙ (ap (λ b. b && same_form w r.pending.id) (itself e) ∙ (texts_same i i w r.pending.id text (subst (λ (x : Forwarded). IsIdText i x.id) (sym is) id) ∙ same_id_itself i))
    open_found (r ∷ rs) (suc k) f at own id = go (is_under e w r) (open_found rs k f at own id)
      where
        go : (b : Bool) → is_some (number_under e w rs) ≡ true → is_some (option_map (λ (q : Numbered). q.number) (cond b (Some r) (find (is_under e w) rs))) ≡ true
        go true rest = refl
        go false rest = rest

    pub sent_open : (p : ℕ) (z : Start) (b : Bool) → AllForwarded settings before → Stands settings t before → slice_get t.lasts.items p ≡ Some z → b ≡ is_some (number_under e w z.ids.requests) → b ≡ true → is_open i (open_of e before) ≡ true
    sent_open p z b asked st here is so =
        let opened = ((st.lasts.each p z here).parts of_ids).open_requests in
        found_open z.ids.requests (subst (AllByRecursion (IsForwarded before)) opened (asked z.life.start)) (sym is ∙ so)

    pub sent_found : (p : ℕ) (z : Start) (b : Bool) → Stands settings t before → home_of settings e before ≡ Some z.life.group → slice_get t.lasts.items p ≡ Some z → b ≡ is_some (number_under e w z.ids.requests) → IsSent settings before e i → b ≡ true
    sent_found p z b st home here is x =
        let last = st.lasts.each p z here in
        let opened = (last.parts of_ids).open_requests in
        let group : x.group ≡ z.life.group = same_item (sym x.home ∙ home) in
        let start : x.start ≡ z.life.start = same_item (sym x.last ∙ (ap (λ n. start_of n before) group ∙ last.start)) in
        is ∙ open_found z.ids.requests x.place x.request (subst (λ fs. slice_get fs x.place ≡ Some x.request) (ap (λ n. (forwarding_of settings n before).open_requests) start ∙ opened) x.at) x.editor x.text

-- of what waits
module _ (settings : Settings) (before : List Event) (e : ℕ) (i : Id) where
  meant_open : (g : ℕ) (rs : List Request) → AllByRecursion (IsHeld settings g before) rs → is_some (find (is_meant e i) rs) ≡ true → is_open i (open_of e before) ≡ true
  meant_open g [] h so = absurd (cc)
  meant_open g (r ∷ rs) h so = go (is_meant e i r) refl so (λ k. meant_open g rs h.1 k)
    where
      go : (b : Bool) → is_meant e i r ≡ b → is_some (cond b (Some r) (find (is_meant e i) rs)) ≡ true → (is_some (find (is_meant e i) rs) ≡ true → is_open i (open_of e before) ≡ true) → is_open i (open_of e before) ≡ true
      go true m so rest =
          let k = h.0 in
          let two = both (nat_eq r.editor e) (option_map_or (same_id i) (id_meant r.id) false) m in
          let same : i ≡ k.name = id_same i k.name (sym (ap (λ o. option_map_or (same_id i) o false) (text_meant k.name r.id (held_text settings g before r k))) ∙ two.1) in
          subst (λ n. is_open i (open_of n before) ≡ true) (same_editor r.editor e two.0) (subst (λ j. is_open j (open_of r.editor before) ≡ true) (sym same) k.open_id)
      go false m so rest = rest so

  meant_found : (rs : List Request) (k : ℕ) (r : Request) → slice_get rs k ≡ Some r → r.editor ≡ e → IsIdText i r.id → is_some (find (is_meant e i) rs) ≡ true
  meant_found [] k r at own id = absurd (nothing_some at)
  meant_found (q ∷ rs) zero r at own id = ap (λ b. is_some (cond b (Some q) (find (is_meant e i) rs))) meant
    where
      is : q ≡ r
      is = same_item at

      meant : is_meant e i q ≡ true
      meant = ap (is_meant e i) is ∙ (ap (λ n. nat_eq n e && option_map_or (same_id i) (id_meant r.id) false) own ∙ (ap (λ b. b && option_map_or (same_id i) (id_meant r.id) false) (itself e)
          ∙ (ap (λ o. option_map_or (same_id i) o false) (text_meant i r.id id) ∙ same_id_itself i)))
  meant_found (q ∷ rs) (suc k) r at own id = go (is_meant e i q) (meant_found rs k r at own id)
    where
      go : (b : Bool) → is_some (find (is_meant e i) rs) ≡ true → is_some (cond b (Some q) (find (is_meant e i) rs)) ≡ true
      go true rest = refl
      go false rest = rest

  pub held_found : (g : ℕ) → home_of settings e before ≡ Some g → IsKeptBack settings before e i → is_some (find (is_meant e i) (waiting_of settings g before)) ≡ true
  held_found g home k =
      let group : k.group ≡ g = same_item (sym k.home ∙ home) in
      meant_found (waiting_of settings g before) k.place k.request (subst (λ n. slice_get (waiting_of settings n before) k.place ≡ Some k.request) group k.at) k.editor k.text

  pub held_nowhere : home_of settings e before ≡ None → IsKeptBack settings before e i → false ≡ true
  held_nowhere none k = absurd (nothing_some (sym none ∙ k.home))

  pub asked_else : (b : Bool) → Settled settings before → is_answered (desk_of e before).phase ≡ true → (b ≡ true → is_open i (open_of e before) ≡ true) → (IsSent settings before e i → ⊥) → (IsKeptBack settings before e i → b ≡ true) → b ≡ is_open i (open_of e before)
  asked_else b known served there off kept = agree b (is_open i (open_of e before)) there (λ h. by (known.sent e i served h))
    where
      by : IsSent settings before e i ⊎ IsKeptBack settings before e i → b ≡ true
      by (inl x) = absurd (off x)
      by (inr k) = kept k

pub held_open : (settings : Settings) (t : Tables) (before : List Event) (e : ℕ) (i : Id) (g : ℕ) → Stands settings t before → is_some (find (is_meant e i) (waiting_of settings g before)) ≡ true → is_open i (open_of e before) ≡ true
held_open settings t before e i g st so =
    let held = st.waiting g in
    meant_open settings before e i g (waiting_of settings g before) (subst (AllByRecursion (IsHeld settings g before)) held.same held.each) so

-- where none can be open under it
pub alone_else : (p : Phase) (i : Id) (ids : List Id) → (p ≡ Waiting → ⊥) → (p ≡ Answered → ⊥) → (p ≡ Running → ⊥) → (p ≡ Down → ⊥) → false ≡ doubles p i ids
alone_else New i ids w a r d = refl
alone_else Closed i ids w a r d = refl
alone_else Absent i ids w a r d = refl
alone_else Gone i ids w a r d = refl
alone_else Waiting i ids w a r d = absurd (w refl)
alone_else Answered i ids w a r d = absurd (a refl)
alone_else Running i ids w a r d = absurd (r refl)
alone_else Down i ids w a r d = absurd (d refl)
