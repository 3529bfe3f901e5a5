-- Entries that leave what is registered at an editor as it is.
use Rattle.std.proofs.Common.{ltb-true, arith, ◌<◌, ◌^◌, ◌||◌, ◌≡◌, ℕ, Bool, true, false, not, ◌&&◌, bytes_eq, cond, List, [], ◌∷◌, ◌++◌, nat_eq, refl, sym, ◌∙◌, ap, subst, ◌+◌, ◌≤◌, ◌⊎◌, inl, inr, if◌then◌else◌, nat_lt}
use Rattle.std.specs.List.{list_any}
use Rattle.std.proofs.lemmas.Slice.Eq.{bytes_eq-Decides}
use Rattle.mux_history.specs.declared.cause.Cause.{Cause}
use Rattle.mux_history.specs.declared.cause.Cause.TheVariants.{Joined, FromServer}
use Rattle.mux_history.specs.declared.out.Out.{Out}
use Rattle.mux_history.specs.declared.out.Out.TheVariants.{ToEditor, ToServer, Spawn, CloseEditor, EndServer}
use Rattle.lsp_method.specs.declared.variants.Class.{Class}
use Rattle.lsp_method.specs.declared.variants.Class.TheVariants.{Register, Unregister}
use Rattle.rpc_message.specs.Message.{Message, request, notification, result, error, not_json, not_message, message_of}
use Rattle.event_model.specs.declared.phase.Phase.{Phase}
use Rattle.event_model.specs.declared.phase.Phase.TheVariants.{Answered}
use Rattle.event_model.specs.declared.stage.Stage.TheVariants.{Ready}
use Rattle.event_model.specs.Always.{Always}
use Rattle.event_model.specs.Event.{Event, behind, did, heard, said, took, with_cause}
use Rattle.event_model.specs.Parts.{editor_part, is_of_editor}
use Rattle.event_model.specs.Phases.{desk_of, is_running}
use Rattle.event_model.specs.Settings.{Settings}
use Rattle.event_model.specs.Stages.{life_of, is_ready}
use Rattle.event_model.proofs.Frames.{never}
use Rattle.mux_facts.specs.Allowed.{is_response}
use Rattle.mux_facts.specs.Ranges.{InRange}
use Rattle.mux_facts.proofs.Reasons.{reasons_keep}
use Rattle.mux_facts.proofs.Rules.{rule_more, word_more}
use Rattle.mux_facts.proofs.Words.{number_same, same_number}
use Rattle.session_laws.specs.ClientRules.{ClientRule7, after_told, has_id, may_register, registered_behind, registered_in, registered_of}
use Rattle.session_laws.proofs.Client4Law.{is_told}
use Rattle.session_laws.proofs.Client7Law.{free_7}
use Rattle.group_rows.specs.Live.{changes_live, is_registering, live_of, unregister_text}
use Rattle.group_rows.specs.Rows.{outs_of}
use Rattle.group_facts.specs.Why.{progresses, IsAsk, IsChange, IsResumed, Calling, Why, WhyToEditor, answers, asks, displaces, enrols, passes, recalls, refuses, calls, rejects, releases, restores, creates, revives, resumes, shows, spreads, turns_away, welcomes, loses, winds_up, IsCall, IsLost, forgets, pays}
use Rattle.group_facts.proofs.Asks.{call_hurried}
use Rattle.group_facts.proofs.Facts.{Facts}
use Rattle.group_facts.proofs.Table.{reasons}
use Rattle.group_sessions.proofs.Enrolled.{create_apart, dropped, Leaves, is_about, leaves_other, left, may_leave, names, Drops, Same, may_drop, unregister_drops, unregister_is}
use Rattle.group_sessions.proofs.Numbers.{out_of_numbers}
use Rattle.group_rows.specs.Created.{is_creating}
use Rattle.group_rows.specs.Asks.{next_ask, asked_behind, has_number}
use Rattle.group_rows.proofs.CreatedTexts.{create_says}
use Rattle.group_rows.specs.LiveTexts.{AreWritten}
use Rattle.group_rows.proofs.LiveTexts.{live_written, unregister_says}
use Rattle.registrations.specs.declared.registration.Registration.{Registration}
use Rattle.std.proofs.lemmas.List.Sums.{fold-append}
use Rattle.group_rows.proofs.DebtsKept.{refresh_unregistering}

abbrev pub ids : ℕ → List Event → List (List ℕ)
ids e events = registered_of (editor_part e events)

-- the rule holds of e's part so far, and these are registered
pub record At (e : ℕ) (xs : List (List ℕ)) (events : List Event) : Type 0 where
  pub always : Always ClientRule7 (editor_part e events)
  pub has : ids e events ≡ xs

quiet : (xs : List (List ℕ)) (event : Event) → is_told event ≡ false → registered_behind xs event ≡ xs
quiet xs (took cause m) h = refl
quiet xs (did (ToEditor e body) m) h = never h
quiet xs (did (ToServer s body) m) h = refl
quiet xs (did (Spawn s g) m) h = refl
quiet xs (did (CloseEditor e) m) h = refl
quiet xs (did (EndServer s) m) h = refl

ids_more : (e : ℕ) (events : List Event) (event : Event) → ids e (events ++ event ∷ []) ≡ cond (is_of_editor e event) (registered_behind (ids e events) event) (ids e events)
ids_more e events event = word_more registered_behind [] (is_of_editor e) events event

cond_same : {A : Type 0} (b : Bool) (x y : A) → x ≡ y → cond b x y ≡ y
cond_same true x y h = h
cond_same false x y h = refl

ids_quiet : (e : ℕ) (events : List Event) (event : Event) → is_told event ≡ false → ids e (events ++ event ∷ []) ≡ ids e events
ids_quiet e events event other = ids_more e events event ∙ cond_same (is_of_editor e event) (registered_behind (ids e events) event) (ids e events) (quiet (ids e events) event other)

pub at_free : (e : ℕ) (xs : List (List ℕ)) (events : List Event) (event : Event) → is_told event ≡ false → At e xs events → At e xs (events ++ event ∷ [])
at_free e xs events event other h = record {
  always = rule_more ClientRule7 (is_of_editor e) events event h.always (λ same. free_7 (editor_part e events) event other);
  has = ids_quiet e events event other ∙ h.has;
}

pub at_told : (e : ℕ) (xs : List (List ℕ)) (events : List Event) (body : List ℕ) → may_register xs (message_of body) ≡ true → At e xs events → At e (after_told xs (message_of body)) (events ++ said (ToEditor e body) ∷ [])
at_told e xs events body may h = record {
  always = rule_more ClientRule7 (is_of_editor e) events (said (ToEditor e body)) h.always (λ same. ap (λ ys. may_register ys (message_of body)) h.has ∙ may);
  has = ids_more e events (said (ToEditor e body)) ∙ ap (λ b. cond b (after_told (ids e events) (message_of body)) (ids e events)) (same_number e) ∙ ap (λ ys. after_told ys (message_of body)) h.has;
}

pub at_other : (e n : ℕ) (xs : List (List ℕ)) (events : List Event) (body : List ℕ) → nat_eq n e ≡ false → At e xs events → At e xs (events ++ said (ToEditor n body) ∷ [])
at_other e n xs events body other h = record {
  always = rule_more ClientRule7 (is_of_editor e) events (said (ToEditor n body)) h.always (λ same. never (sym same ∙ other));
  has = ids_more e events (said (ToEditor n body)) ∙ ap (λ b. cond b (after_told (ids e events) (message_of body)) (ids e events)) other ∙ h.has;
}

pub at_plain : (e n : ℕ) (xs : List (List ℕ)) (events : List Event) (body : List ℕ) → (nat_eq n e ≡ true → is_about (message_of body) ≡ false) → At e xs events → At e xs (events ++ said (ToEditor n body) ∷ [])
at_plain e n xs events body plain h = go (nat_eq n e) refl
  where
    go : (b : Bool) → nat_eq n e ≡ b → At e xs (events ++ said (ToEditor n body) ∷ [])
    go false other = at_other e n xs events body other h
    go true same = let k : Leaves (message_of body) = leaves_other (message_of body) (plain same) in
        subst (λ z. At e xs (events ++ said (ToEditor z body) ∷ [])) (sym (number_same n e same)) (subst (λ ys. At e ys (events ++ said (ToEditor e body) ∷ [])) (left xs (message_of body) k) (at_told e xs events body (may_leave xs (message_of body) k) h))

pub at_took : (e : ℕ) (xs : List (List ℕ)) (before : List Event) (cause : Cause) → At e xs before → At e xs (with_cause before cause)
at_took e xs before (Joined n) h = at_free e xs before (heard (Joined n)) refl h
at_took e xs before cause h = at_free e xs before (heard cause) refl h

-- where there is no id nothing is registered
pub none_has : (xs : List (List ℕ)) → ((x : List ℕ) → has_id xs x ≡ false) → xs ≡ []
none_has [] h = refl
none_has (x ∷ xs) h = never (sym (ap (λ b. b || list_any (bytes_eq x) xs) ((bytes_eq-Decides x x).1 refl)) ∙ h x)

none_left : (a b : Bool) → a ≡ b → (a && not b) ≡ false
none_left true true h = refl
none_left true false h = never h
none_left false b h = refl

-- Entries in which nothing changes of what is registered at an editor

-- a ready start's request about registrations
abbrev pub is_change : List Event → Cause → Bool
is_change before (FromServer s body) = is_ready (life_of s before).stage && is_about (message_of body)
is_change before other = false

abbrev pub is_answered : Phase → Bool
is_answered Answered = true
is_answered _ = false

-- the editor begins to run
abbrev pub begins : List Event → Cause → ℕ → Bool
begins before cause e = is_answered (desk_of e before).phase && is_running (desk_of e (with_cause before cause)).phase

response_plain : (m : Message) → is_response m ≡ true → is_about m ≡ false
response_plain (result id r) h = refl
response_plain (error id r) h = refl
response_plain (request id method ps) h = never (sym h)
response_plain (notification method ps) h = never (sym h)
response_plain not_json h = refl
response_plain not_message h = refl

small_number : (e : ℕ) (events : List Event) → has_number e events ≡ true → next_ask e events < 2 ^ 128
small_number e events room = let small : next_ask e events < 2 ^ 64 = ltb-true (next_ask e events) (2 ^ 64) room in omega (arith, small)

next_more : (e : ℕ) (events : List Event) (event : Event) → next_ask e (events ++ event ∷ []) ≡ asked_behind e (next_ask e events) event
next_more e events event = fold-append (asked_behind e) 1 events (event ∷ [])

asked_grows : (e n : ℕ) (event : Event) → n ≤ asked_behind e n event
asked_grows e n (did (ToEditor k body) (request id method ps)) = go (nat_eq k e)
  where
    go : (b : Bool) → n ≤ (if b then n + 1 else n)
    go true = omega arith
    go false = omega arith
asked_grows e n other = omega arith

module _ (settings : Settings) (before : List Event) (cause : Cause) (same : is_change before cause ≡ false) where
  module _ (events : List Event) (n : ℕ) (body : List ℕ) (runs : begins before cause n ≡ false) where
    asked_plain : IsAsk settings before cause events n body → is_about (message_of body) ≡ false
    asked_plain k = ap is_about k.says ∙ sym (ap is_about k.asks) ∙ sym (ap (λ b. b && is_about (message_of k.asked)) (ap is_ready (k.source).ready)) ∙ sym (ap (is_change before) (k.source).from) ∙ same

    resumed_plain : IsResumed settings before cause events n body → is_about (message_of body) ≡ false
    resumed_plain k = ap is_about k.says ∙ go (is_registering k.method) refl
      where
        go : (b : Bool) → is_registering k.method ≡ b → b ≡ false
        go true named = never (sym k.patient ∙ call_hurried k.method (ap (λ b. b || is_creating k.method) named))
        go false off = refl

    no_change : (s : ℕ) (asked : List ℕ) (c : Class) → (life_of s before).stage ≡ Ready → changes_live c ≡ true → IsChange settings before cause n s asked c → is_about (message_of body) ≡ false
    no_change s asked c ready kind k = never (sym (ap (is_change before) k.from ∙ ap (λ b. b && is_about (message_of asked)) (ap is_ready ready) ∙ ap is_about k.asks ∙ ap changes_live k.kind ∙ kind) ∙ same)

    -- what takes back all that is live, as the start ends
    record Forgets : Type 0 where
      start : ℕ
      lost : IsLost settings before cause n start
      room : has_number n events ≡ true
      first : next_ask n events ≡ next_ask n before
      bytes : body ≡ unregister_text (live_of settings start before) (next_ask n events)

    registers_or : (k : IsCall settings before cause events n body) → next_ask n events < 2 ^ 128 → Calling settings before cause n k.start (next_ask n events) body → (is_about (message_of body) ≡ false) ⊎ Forgets
    registers_or k small (displaces asked items c found is) = inl (no_change k.start asked Register k.ready refl c)
    registers_or k small (enrols asked items c found is) = inl (no_change k.start asked Register k.ready refl c)
    registers_or k small (releases asked items c found is) = inl (no_change k.start asked Unregister k.ready refl c)
    registers_or k small (forgets lost first is) = inr (record { start = k.start; lost = lost; room = k.room; first = first; bytes = is })
    registers_or k small (restores c is) = never (sym (ap (λ p. is_answered p && is_running (desk_of n (with_cause before cause)).phase) c.waited ∙ ap is_running c.began) ∙ runs)
    registers_or k small (creates asked token c found is) = inl (ap is_about (ap message_of is ∙ create_says k.start token.number (next_ask n events) small) ∙ create_apart)
    registers_or k small (revives token earlier later c order is) = inl (ap is_about (ap message_of is ∙ create_says k.start token.number (next_ask n events) small) ∙ create_apart)

    plain_or : WhyToEditor settings before cause events n body → (is_about (message_of body) ≡ false) ⊎ Forgets
    plain_or (rejects k) = inl (ap is_about k.says)
    plain_or (refuses k) = inl (ap is_about k.says)
    plain_or (loses k) = inl (ap is_about k.says)
    plain_or (answers k) = inl (ap is_about k.says)
    plain_or (turns_away k) = inl (ap is_about k.says)
    plain_or (welcomes k) = inl (ap is_about k.says)
    plain_or (passes k) = inl (response_plain (message_of body) k.response)
    plain_or (asks k) = inl (asked_plain k)
    plain_or (resumes k) = inl (resumed_plain k)
    plain_or (pays k) = inl (ap is_about k.says ∙ refresh_unregistering (k.debt).method k.wants)
    plain_or (calls k) = registers_or k (small_number n events k.room) k.told
    plain_or (spreads k) = inl (ap is_about k.says)
    plain_or (recalls k) = inl (ap is_about k.says)
    plain_or (progresses k) = inl (ap is_about k.says)
    plain_or (shows k) = inl (ap is_about k.says)
    plain_or (winds_up k) = inl (ap is_about k.says)

  -- an editor that doesn't begin to run: where it ran in the group of a start that ends, all that was registered is taken back at most once
  module _ (e : ℕ) (runs : begins before cause e ≡ false) (tied : (s : ℕ) → IsLost settings before cause e s → has_number e before ≡ true → Same (ids e before) (live_of settings s before)) where
    pub record Going (events : List Event) : Type 0 where
      pub always : Always ClientRule7 (editor_part e events)
      pub first : next_ask e events ≡ next_ask e before → ids e events ≡ ids e before
      pub kept : ((s : ℕ) → IsLost settings before cause e s → ⊥) → ids e events ≡ ids e before
      pub above : next_ask e before ≤ next_ask e events

    next_up : (events : List Event) (event : Event) → next_ask e events ≤ next_ask e (events ++ event ∷ [])
    next_up events event = let m = next_more e events event in let g = asked_grows e (next_ask e events) event in omega (arith, m, g)

    unchanged : (events : List Event) (event : Event) → Going events → At e (ids e events) (events ++ event ∷ []) → Going (events ++ event ∷ [])
    unchanged events event h at = record {
      always = at.always;
      first = λ same. at.has ∙ h.first (let low : next_ask e before ≤ next_ask e events = h.above in let up = next_up events event in omega (arith, low, up, same));
      kept = λ none. at.has ∙ h.kept none;
      above = let low : next_ask e before ≤ next_ask e events = h.above in let up = next_up events event in omega (arith, low, up);
    }

    still : (events : List Event) → Going events → At e (ids e events) events
    still events h = record { always = h.always; has = refl }

    alike : (events : List Event) (body : List ℕ) → (k : Forgets events e body runs) → Going events → Same (ids e events) (live_of settings k.start before)
    alike events body k h x = ap (λ xs. has_id xs x) (h.first k.first) ∙ tied k.start k.lost (ap (λ n. nat_lt n (2 ^ 64)) (sym k.first) ∙ k.room) x

    forgotten : (events : List Event) (body : List ℕ) → Forgets events e body runs → Going events → Going (events ++ said (ToEditor e body) ∷ [])
    forgotten events body k h = record {
      always = told.always;
      first = λ same. absurd (let low : next_ask e before ≤ next_ask e events = h.above in omega (arith, low, asked, same));
      kept = λ none. absurd (none k.start k.lost);
      above = let low : next_ask e before ≤ next_ask e events = h.above in let up = next_up events (said (ToEditor e body)) in omega (arith, low, up);
    }
      where
        live : List Registration
        live = live_of settings k.start before

        text : List ℕ
        text = unregister_text live (next_ask e events)

        drops : Drops (message_of text) live
        drops = unregister_drops live (live_written settings k.start before) (next_ask e events) (small_number e events k.room)

        told : At e (after_told (ids e events) (message_of body)) (events ++ said (ToEditor e body) ∷ [])
        told = at_told e (ids e events) events body (ap (λ z. may_register (ids e events) (message_of z)) k.bytes ∙ may_drop (ids e events) (message_of text) live drops (λ x named. alike events body k h x ∙ named)) (still events h)

        asked : next_ask e (events ++ said (ToEditor e body) ∷ []) ≡ next_ask e events + 1
        asked = next_more e events (said (ToEditor e body)) ∙ (ap (λ m. asked_behind e (next_ask e events) (did (ToEditor e body) m)) (ap message_of k.bytes ∙ (unregister_says live (live_written settings k.start before) (next_ask e events) (small_number e events k.room)).1)
            ∙ ap (λ b. if b then next_ask e events + 1 else next_ask e events) (same_number e))

    pub goes : (events : List Event) (out : Out) → Why settings before cause events out → Going events → Going (events ++ said out ∷ [])
    goes events (ToEditor n body) why h = go (nat_eq n e) refl
      where
        own : WhyToEditor settings before cause events e body → Going (events ++ said (ToEditor e body) ∷ [])
        own w = elim (plain_or events e body runs w) [ inl plain ↦ unchanged events (said (ToEditor e body)) h (at_plain e e (ids e events) events body (λ is. plain) (still events h)) | inr k ↦ forgotten events body k h ]

        go : (b : Bool) → nat_eq n e ≡ b → Going (events ++ said (ToEditor n body) ∷ [])
        go false other = unchanged events (said (ToEditor n body)) h (at_other e n (ids e events) events body other (still events h))
        go true same = subst (λ z. Going (events ++ said (ToEditor z body) ∷ [])) (sym (number_same n e same)) (own (subst (λ z. WhyToEditor settings before cause events z body) (number_same n e same) why))
    goes events (ToServer s body) why h = unchanged events (said (ToServer s body)) h (at_free e (ids e events) events (said (ToServer s body)) refl (still events h))
    goes events (Spawn s g) why h = unchanged events (said (Spawn s g)) h (at_free e (ids e events) events (said (Spawn s g)) refl (still events h))
    goes events (CloseEditor n) why h = unchanged events (said (CloseEditor n)) h (at_free e (ids e events) events (said (CloseEditor n)) refl (still events h))
    goes events (EndServer s) why h = unchanged events (said (EndServer s)) h (at_free e (ids e events) events (said (EndServer s)) refl (still events h))

    pub going_now : Always ClientRule7 (editor_part e before) → Going (with_cause before cause)
    going_now always = unchanged before (heard cause) (record { always = always; first = λ same. refl; kept = λ none. refl; above = omega arith }) (at_took e (ids e before) before cause (record { always = always; has = refl }))

    pub entry_goes : InRange settings → Facts settings before → Always ClientRule7 (editor_part e before) → Going (behind (with_cause before cause) (outs_of settings before cause))
    entry_goes range facts always = reasons_keep (λ events out. Why settings before cause events out) Going goes (with_cause before cause) (outs_of settings before cause) (reasons settings range before facts cause).why (going_now always)

    -- nothing is registered at it, or it can be asked nothing more
    abbrev pub Cleared : List Event → Type 0
    Cleared events = (ids e events ≡ []) ⊎ (has_number e events ≡ false)

    told_more : (events : List Event) (body : List ℕ) → ids e (events ++ said (ToEditor e body) ∷ []) ≡ after_told (ids e events) (message_of body)
    told_more events body = ids_more e events (said (ToEditor e body)) ∙ ap (λ b. cond b (after_told (ids e events) (message_of body)) (ids e events)) (same_number e)

    bare_told : (events : List Event) (body : List ℕ) → WhyToEditor settings before cause events e body → ids e events ≡ [] → ids e (events ++ said (ToEditor e body) ∷ []) ≡ []
    bare_told events body why none = told_more events body ∙ (ap (λ xs. after_told xs (message_of body)) none ∙ go (plain_or events e body runs why))
      where
        go : (is_about (message_of body) ≡ false) ⊎ Forgets events e body runs → after_told [] (message_of body) ≡ []
        go (inl plain) = left [] (message_of body) (leaves_other (message_of body) plain)
        go (inr k) = ap (λ z. registered_in (message_of z)) k.bytes ∙ (unregister_drops (live_of settings k.start before) (live_written settings k.start before) (next_ask e events) (small_number e events k.room)).comes

    pub clears_on : (events : List Event) (out : Out) → Why settings before cause events out → Cleared events → Cleared (events ++ said out ∷ [])
    clears_on events out why (inr none) = inr (out_of_numbers e events (said out) none)
    clears_on events (ToEditor n body) why (inl none) = inl (go (nat_eq n e) refl)
      where
        go : (b : Bool) → nat_eq n e ≡ b → ids e (events ++ said (ToEditor n body) ∷ []) ≡ []
        go false other = ids_more e events (said (ToEditor n body)) ∙ (ap (λ b. cond b (after_told (ids e events) (message_of body)) (ids e events)) other ∙ none)
        go true own = subst (λ z. ids e (events ++ said (ToEditor z body) ∷ []) ≡ []) (sym (number_same n e own)) (bare_told events body (subst (λ z. WhyToEditor settings before cause events z body) (number_same n e own) why) none)
    clears_on events (ToServer s body) why (inl none) = inl (ids_quiet e events (said (ToServer s body)) refl ∙ none)
    clears_on events (Spawn s g) why (inl none) = inl (ids_quiet e events (said (Spawn s g)) refl ∙ none)
    clears_on events (CloseEditor n) why (inl none) = inl (ids_quiet e events (said (CloseEditor n)) refl ∙ none)
    clears_on events (EndServer s) why (inl none) = inl (ids_quiet e events (said (EndServer s)) refl ∙ none)

    -- what takes back all that is live leaves nothing
    pub cleared_by : (live : List Registration) → AreWritten live → (events : List Event) → has_number e events ≡ true → Going events → WhyToEditor settings before cause events e (unregister_text live (next_ask e events))
        → ids e (events ++ said (ToEditor e (unregister_text live (next_ask e events))) ∷ []) ≡ []
    cleared_by live written events room h why = go (plain_or events e text runs why)
      where
        text : List ℕ
        text = unregister_text live (next_ask e events)

        about : is_about (message_of text) ≡ true
        about = ap is_about (unregister_says live written (next_ask e events) (small_number e events room)).1 ∙ unregister_is

        go : (is_about (message_of text) ≡ false) ⊎ Forgets events e text runs → ids e (events ++ said (ToEditor e text) ∷ []) ≡ []
        go (inl plain) = never (sym about ∙ plain)
        go (inr k) = told_more events text ∙ none_has (after_told (ids e events) (message_of text)) gone
          where
            forgotten_live : List Registration
            forgotten_live = live_of settings k.start before

            drops : Drops (message_of text) forgotten_live
            drops = subst (λ z. Drops (message_of z) forgotten_live) (sym k.bytes) (unregister_drops forgotten_live (live_written settings k.start before) (next_ask e events) (small_number e events k.room))

            gone : (x : List ℕ) → has_id (after_told (ids e events) (message_of text)) x ≡ false
            gone x = dropped (ids e events) (message_of text) forgotten_live drops x ∙ none_left (has_id (ids e events) x) (has_id (names forgotten_live) x) (alike events text k h x)
