-- What was noted of open requests, one event further.
use Rattle.std.proofs.Common.{◌≡◌, ℕ, ◌+◌, ◌<◌, Bool, true, false, not, ◌&&◌, List, [], ◌∷◌, ◌++◌, ◌⊎◌, inl, inr, nat_eq, arith, refl, sym, ap, subst, ◌∙◌, append-nil, cond, if◌then◌else◌}
use Rattle.std.specs.Prelude.{Option, Some, None, find, MatchOption, option_map}
use Rattle.std.proofs.lemmas.Bool.Decides.{nat_tests}
use Rattle.json_text.specs.Json.{Json}
use Rattle.mux_history.specs.declared.cause.Cause.TheVariants.{Joined, FromEditor, EditorGone}
use Rattle.mux_history.specs.declared.out.Out.TheVariants.{ToEditor, ToServer, CloseEditor}
use Rattle.rpc_message.specs.Message.{Id, Message, message_of, request}
use Rattle.document_model.specs.Sayings.{saying_of, speaks}
use Rattle.event_model.specs.declared.phase.Phase.{Phase}
use Rattle.event_model.specs.declared.phase.Phase.TheVariants.{Absent, New, Waiting, Answered, Running, Down, Closed, Gone}
use Rattle.event_model.specs.Event.{Event, behind, did, said, took}
use Rattle.event_model.specs.Phases.{Desk, desk_behind, desk_hears, desk_of, phase_closed, phase_told}
use Rattle.event_model.specs.Requests.{is_own}
use Rattle.event_model.specs.Settings.{Settings}
use Rattle.event_model.proofs.Frames.{never, one_more}
use Rattle.group_words.proofs.Frames.{past_more}
use Rattle.group_laws.specs.group_rows.specs.Answers.{moment_next, moment_of, sends_on}
use Rattle.group_laws.specs.group_rows.specs.Forwarded.{forwarding_of}
use Rattle.group_laws.specs.group_rows.specs.Texts.{is_synced}
use Rattle.group_laws.proofs.Entries.{first_behind}
use Rattle.id_rewrite.specs.response_route.specs.declared.versions.Stamp.{Stamp}
use Rattle.id_rewrite.specs.declared.pending.Numbered.{Numbered}
use Rattle.id_rewrite.specs.declared.pending.Pending.{Pending}
use Rattle.id_rewrite.specs.Tables.{RiseWithin, cancelled, has_number, pending_of, with_cancelled, without}
use Rattle.mux_tables.specs.Documents.{AllTell, to}
use Rattle.mux_tables.specs.Notes.{IsNoted, NotesStand, has_left}
use Rattle.mux_tables.proofs.Frames.{itself}
use Rattle.mux_tables.proofs.IdMoves.{rise_from}

-- a body with which an editor's request goes on
abbrev pub asks_on : Event → Bool
asks_on (did (ToServer s body) (request id method ps)) = not (is_own method)
asks_on other = false

next_still : (settings : Settings) (s n : ℕ) (before : List Event) (o : Option (List Event)) (ev : Event) → asks_on ev ≡ false → moment_next settings s n before o ev ≡ o
next_still settings s n before o (did (ToServer k body) (request id method ps)) h = go (nat_eq k s) (not (is_own method)) (nat_eq (forwarding_of settings s before).next n) h
  where
    go : (a b c : Bool) → b ≡ false → (if a && (b && c) then Some before else o) ≡ o
    go true false c h = refl
    go true true c h = never h
    go false b c h = refl
next_still settings s n before o other h = refl

-- the moment of a request that went on
pub moment_stays : (settings : Settings) (s n : ℕ) (events : List Event) (ev : Event) → asks_on ev ≡ false → moment_of settings s n (events ++ ev ∷ []) ≡ moment_of settings s n events
moment_stays settings s n events ev h = past_more (moment_next settings s n) [] None events ev ∙ next_still settings s n events (moment_of settings s n events) ev h

pub asks_aside : (s : ℕ) (body : List ℕ) (m : Message) → is_synced m ≡ false → asks_on (did (ToServer s body) m) ≡ false
asks_aside s body (request id method ps) h = h
asks_aside s body other h = refl

pub asks_told : (s : ℕ) (body : List ℕ) (m : Message) → speaks (saying_of m) ≡ true → asks_on (did (ToServer s body) m) ≡ false
asks_told s body (request id method ps) h = never (sym h)
asks_told s body other h = refl

pub moment_told : (settings : Settings) (s n k : ℕ) (bodies : List (List ℕ)) (events : List Event) → AllTell bodies → moment_of settings s n (behind events (to k bodies)) ≡ moment_of settings s n events
moment_told settings s n k [] events h = ap (moment_of settings s n) (append-nil events)
moment_told settings s n k (body ∷ bodies) events h = ap (moment_of settings s n) (first_behind events (ToServer k body) (to k bodies))
    ∙ (moment_told settings s n k bodies (events ++ said (ToServer k body) ∷ []) h.1 ∙ moment_stays settings s n events (said (ToServer k body)) (asks_told k body (message_of body) h.0))

-- an editor that left
abbrev pub joins : Event → Bool
joins (took (Joined e) m) = true
joins other = false

either_left : (b : Bool) (x y : Desk) → has_left x.phase ≡ true → has_left y.phase ≡ true → has_left (if b then x else y).phase ≡ true
either_left true x y h k = h
either_left false x y h k = k

hears_left : (p : Phase) (initialize body : List ℕ) (m : Message) → has_left p ≡ true → has_left (desk_hears p initialize body m).phase ≡ true
hears_left Down i body m h = refl
hears_left Closed i body m h = refl
hears_left Gone i body m h = refl
hears_left Absent i body m h = never (sym h)
hears_left New i body m h = never (sym h)
hears_left Waiting i body m h = never (sym h)
hears_left Answered i body m h = never (sym h)
hears_left Running i body m h = never (sym h)

told_left : (p : Phase) (initialize : List ℕ) (m : Message) → has_left p ≡ true → has_left (phase_told p initialize m) ≡ true
told_left Waiting i m h = never (sym h)
told_left other i m h = h

closed_left : (p : Phase) → has_left (phase_closed p) ≡ true
closed_left Gone = refl
closed_left other = refl

left_behind : (e : ℕ) (desk : Desk) (ev : Event) → joins ev ≡ false → has_left desk.phase ≡ true → has_left (desk_behind e desk ev).phase ≡ true
left_behind e desk (took (Joined n) m) j h = never j
left_behind e desk (took (FromEditor n body) m) j h = either_left (nat_eq n e) _ desk (hears_left desk.phase desk.initialize body m h) h
left_behind e desk (took (EditorGone n why) m) j h = either_left (nat_eq n e) _ desk refl h
left_behind e desk (did (ToEditor n body) m) j h = either_left (nat_eq n e) _ desk (told_left desk.phase desk.initialize m h) h
left_behind e desk (did (CloseEditor n) m) j h = either_left (nat_eq n e) _ desk (closed_left desk.phase) h
left_behind e desk other j h = h

pub left_stays : (events : List Event) (ev : Event) → joins ev ≡ false → (e : ℕ) → has_left (desk_of e events).phase ≡ true → has_left (desk_of e (events ++ ev ∷ [])).phase ≡ true
left_stays events ev j e h = subst (λ (d : Desk). has_left d.phase ≡ true) (sym (one_more (desk_behind e) _ _ events ev refl)) (left_behind e (desk_of e events) ev j h)

-- bodies to a start leave each desk
pub left_told : (k : ℕ) (bodies : List (List ℕ)) (events : List Event) (e : ℕ) → has_left (desk_of e events).phase ≡ true → has_left (desk_of e (behind events (to k bodies))).phase ≡ true
left_told k [] events e h = subst (λ es. has_left (desk_of e es).phase ≡ true) (sym (append-nil events)) h
left_told k (body ∷ bodies) events e h = subst (λ es. has_left (desk_of e es).phase ≡ true) (sym (first_behind events (ToServer k body) (to k bodies)))
    (left_told k bodies (events ++ said (ToServer k body) ∷ []) e (left_stays events (said (ToServer k body)) refl e h))

-- an editor that joins hadn't left
pub joined_left : (events : List Event) (n : ℕ) (m : Message) → has_left (desk_of n events).phase ≡ false → (e : ℕ) → has_left (desk_of e events).phase ≡ true → has_left (desk_of e (events ++ took (Joined n) m ∷ [])).phase ≡ true
joined_left events n m new e h = subst (λ (d : Desk). has_left d.phase ≡ true) (sym (one_more (desk_behind e) _ _ events (took (Joined n) m) refl)) (go (nat_eq n e) refl)
  where
    go : (b : Bool) → nat_eq n e ≡ b → has_left (if b then record { phase = New; initialize = [] } else desk_of e events).phase ≡ true
    go true is = let same : n ≡ e = grind (arith, nat_tests) in never (sym (sym new ∙ (ap (λ k. has_left (desk_of k events).phase) same ∙ h)))
    go false is = h

none_some : {A B : Type 0} {a : A} → ◌≡◌ {A = Option A} None (Some a) → B
none_some {A} {B} {a} e = absurd (clash a e)
  where
    clash : (a : A) → ◌≡◌ {A = Option A} None (Some a) → ⊥
    clash a e = cc

-- a request that goes on, and what others see of it
sent_apart : (settings : Settings) (s n k : ℕ) (before : List Event) (body : List ℕ) (m : Message) → nat_eq (forwarding_of settings s before).next n ≡ false → sends_on settings s n before (did (ToServer k body) m) ≡ false
sent_apart settings s n k before body (request id method ps) h = go (nat_eq k s) (not (is_own method)) (nat_eq (forwarding_of settings s before).next n) h
  where
    go : (a b c : Bool) → c ≡ false → (a && (b && c)) ≡ false
    go false b c h = refl
    go true false c h = refl
    go true true c h = h
sent_apart settings s n k before body other h = refl

pub moment_apart : (settings : Settings) (s n k : ℕ) (before : List Event) (body : List ℕ) (m : Message) → nat_eq (forwarding_of settings s before).next n ≡ false → moment_of settings s n (before ++ did (ToServer k body) m ∷ []) ≡ moment_of settings s n before
moment_apart settings s n k before body m h = past_more (moment_next settings s n) [] None before (did (ToServer k body) m) ∙ ap (λ b. if b then Some before else moment_of settings s n before) (sent_apart settings s n k before body m h)

pub moment_here : (settings : Settings) (s n : ℕ) (before : List Event) (body : List ℕ) (m : Message) (name : Id) (method : List ℕ) (ps : Option Json) → m ≡ request name method ps → is_own method ≡ false → (forwarding_of settings s before).next ≡ n → moment_of settings s n (before ++ did (ToServer s body) m ∷ []) ≡ Some before
moment_here settings s n before body m name method ps says own next = past_more (moment_next settings s n) [] None before (did (ToServer s body) m) ∙ rw (says, itself s, own, next, itself n) refl

-- the numbers of open requests are below the next
pub below_next : (n from to : ℕ) (rs : List Numbered) (p : Pending) → RiseWithin from to rs → pending_of n rs ≡ Some p → n < to
below_next n from to [] p h there = none_some there
below_next n from to (r ∷ rs) p h there = go (has_number n r) refl there (below_next n (r.number + 1) to rs p h.1)
  where
    go : (b : Bool) → nat_eq r.number n ≡ b → option_map (λ (q : Numbered). q.pending) (cond b (Some r) (find (has_number n) rs)) ≡ Some p → (pending_of n rs ≡ Some p → n < to) → n < to
    go true is t rest = let same : r.number ≡ n = grind (arith, nat_tests) in let k = rise_from (r.number + 1) to rs h.1 in omega (arith, same, k)
    go false is t rest = rest t

-- one request's
pub noted_stays : (settings : Settings) (s n e : ℕ) (events later : List Event) (noted : Option (List (List ℕ × Stamp))) → moment_of settings s n later ≡ moment_of settings s n events → (has_left (desk_of e events).phase ≡ true → has_left (desk_of e later).phase ≡ true)
    → IsNoted settings s n e events noted → IsNoted settings s n e later noted
noted_stays settings s n e events later (Some noted) same left h = (h.0, same ∙ h.1, h.2)
noted_stays settings s n e events later None same left h = left h

-- the request of a number, where some requests are gone, and where one is cancelled
none_left : (k : ℕ) (rs : List Numbered) → pending_of k (without k rs) ≡ None
none_left k [] = refl
none_left k (r ∷ rs) = go (has_number k r) refl (none_left k rs)
  where
    go : (b : Bool) → has_number k r ≡ b → pending_of k (without k rs) ≡ None → pending_of k (cond (not b) (r ∷ without k rs) (without k rs)) ≡ None
    go true is rest = rest
    go false is rest = ap (λ c. option_map (λ (q : Numbered). q.pending) (cond c (Some r) (find (has_number k) (without k rs)))) is ∙ rest

found_left : (n k : ℕ) (rs : List Numbered) (p : Pending) → pending_of n (without k rs) ≡ Some p → pending_of n rs ≡ Some p
found_left n k [] p there = there
found_left n k (r ∷ rs) p there = go (has_number k r) refl there (found_left n k rs p)
  where
    kept : (b : Bool) → (pending_of n (without k rs) ≡ Some p → pending_of n rs ≡ Some p)
        → option_map (λ (q : Numbered). q.pending) (cond b (Some r) (find (has_number n) (without k rs))) ≡ Some p → option_map (λ (q : Numbered). q.pending) (cond b (Some r) (find (has_number n) rs)) ≡ Some p
    kept true rest t = t
    kept false rest t = rest t

    taken : (b : Bool) → (pending_of n (without k rs) ≡ Some p → pending_of n rs ≡ Some p) → has_number n r ≡ b → has_number k r ≡ true
        → pending_of n (without k rs) ≡ Some p → option_map (λ (q : Numbered). q.pending) (cond b (Some r) (find (has_number n) rs)) ≡ Some p
    taken true rest is own t =
        let same : n ≡ k = grind (arith, nat_tests) in
        none_some (sym (none_left k rs) ∙ subst (λ m. pending_of m (without k rs) ≡ Some p) same t)
    taken false rest is own t = rest t

    go : (a : Bool) → has_number k r ≡ a → pending_of n (cond (not a) (r ∷ without k rs) (without k rs)) ≡ Some p → (pending_of n (without k rs) ≡ Some p → pending_of n rs ≡ Some p)
        → option_map (λ (q : Numbered). q.pending) (cond (has_number n r) (Some r) (find (has_number n) rs)) ≡ Some p
    go false is t rest = kept (has_number n r) rest t
    go true is t rest = taken (has_number n r) rest refl is t

pub notes_left : (settings : Settings) (s k : ℕ) (rs : List Numbered) (events : List Event) → NotesStand settings s rs events → NotesStand settings s (without k rs) events
notes_left settings s k rs events h n p there = h n p (found_left n k rs p there)

pub notes_answered : (settings : Settings) (s : ℕ) (k : Option ℕ) (qs rs : List Numbered) (events : List Event) → MatchOption k (qs ≡ rs) (λ n. qs ≡ without n rs) → NotesStand settings s rs events → NotesStand settings s qs events
notes_answered settings s None qs rs events is h = subst (λ ws. NotesStand settings s ws events) (sym is) h
notes_answered settings s (Some k) qs rs events is h = subst (λ ws. NotesStand settings s ws events) (sym is) (notes_left settings s k rs events h)

pub notes_gone : (settings : Settings) (s : ℕ) (qs : List Numbered) (events : List Event) → qs ≡ [] → NotesStand settings s qs events
notes_gone settings s qs events is n p there = none_some (sym (ap (pending_of n) is) ∙ there)

-- of one that is cancelled as much is noted
record Alike (p q : Pending) : Type 0 where
  pub editor : q.editor ≡ p.editor
  pub noted : q.noted ≡ p.noted

abbrev FoundBy : ℕ → Pending → Numbered → List Numbered → Bool → Type 0
FoundBy n p r rs b = (q : Pending) × (option_map (λ (x : Numbered). x.pending) (cond b (Some r) (find (has_number n) rs)) ≡ Some q) × Alike p q

found_cancelled : (n k : ℕ) (rs : List Numbered) (p : Pending) → pending_of n (with_cancelled k rs) ≡ Some p → (q : Pending) × (pending_of n rs ≡ Some q) × Alike p q
found_cancelled n k [] p there = none_some there
found_cancelled n k (r ∷ rs) p there = go (has_number k r) there (found_cancelled n k rs p)
  where
    marked : (b : Bool) → (pending_of n (with_cancelled k rs) ≡ Some p → (q : Pending) × (pending_of n rs ≡ Some q) × Alike p q)
        → option_map (λ (x : Numbered). x.pending) (cond b (Some (cancelled r)) (find (has_number n) (with_cancelled k rs))) ≡ Some p → FoundBy n p r rs b
    marked true rest t = let is : (cancelled r).pending ≡ p = cc in (r.pending, refl, record { editor = ap (λ (x : Pending). x.editor) is; noted = ap (λ (x : Pending). x.noted) is })
    marked false rest t = rest t

    plain : (b : Bool) → (pending_of n (with_cancelled k rs) ≡ Some p → (q : Pending) × (pending_of n rs ≡ Some q) × Alike p q)
        → option_map (λ (x : Numbered). x.pending) (cond b (Some r) (find (has_number n) (with_cancelled k rs))) ≡ Some p → FoundBy n p r rs b
    plain true rest t = let is : r.pending ≡ p = cc in (r.pending, refl, record { editor = ap (λ (x : Pending). x.editor) is; noted = ap (λ (x : Pending). x.noted) is })
    plain false rest t = rest t

    go : (a : Bool) → pending_of n (cond a (cancelled r) r ∷ with_cancelled k rs) ≡ Some p → (pending_of n (with_cancelled k rs) ≡ Some p → (q : Pending) × (pending_of n rs ≡ Some q) × Alike p q) → FoundBy n p r rs (has_number n r)
    go true t rest = marked (has_number n r) rest t
    go false t rest = plain (has_number n r) rest t

pub notes_cancelled : (settings : Settings) (s k : ℕ) (qs rs : List Numbered) (events : List Event) → qs ≡ with_cancelled k rs → NotesStand settings s rs events → NotesStand settings s qs events
notes_cancelled settings s k qs rs events is h n p there =
    let f = found_cancelled n k rs p (subst (λ ws. pending_of n ws ≡ Some p) is there) in
    subst (λ e. IsNoted settings s n e events p.noted) f.2.editor (subst (λ x. IsNoted settings s n f.0.editor events x) f.2.noted (h n f.0 f.1))

-- a further one
found_more : (n : ℕ) (r : Numbered) (rs : List Numbered) (p : Pending) → pending_of n (rs ++ r ∷ []) ≡ Some p → (pending_of n rs ≡ Some p) ⊎ ((r.number ≡ n) × (r.pending ≡ p))
found_more n r [] p there = go (has_number n r) refl there
  where
    go : (b : Bool) → nat_eq r.number n ≡ b → option_map (λ (x : Numbered). x.pending) (cond b (Some r) None) ≡ Some p → (pending_of n [] ≡ Some p) ⊎ ((r.number ≡ n) × (r.pending ≡ p))
    go true is t = let same : r.number ≡ n = grind (arith, nat_tests) in inr (same, cc)
    go false is t = none_some t
found_more n r (q ∷ rs) p there = go (has_number n q) there (found_more n r rs p)
  where
    go : (b : Bool) → option_map (λ (x : Numbered). x.pending) (cond b (Some q) (find (has_number n) (rs ++ r ∷ []))) ≡ Some p → (pending_of n (rs ++ r ∷ []) ≡ Some p → (pending_of n rs ≡ Some p) ⊎ ((r.number ≡ n) × (r.pending ≡ p)))
        → (option_map (λ (x : Numbered). x.pending) (cond b (Some q) (find (has_number n) rs)) ≡ Some p) ⊎ ((r.number ≡ n) × (r.pending ≡ p))
    go true t rest = inl t
    go false t rest = rest t

pub notes_more : (settings : Settings) (s k : ℕ) (p : Pending) (qs rs : List Numbered) (events : List Event) → qs ≡ rs ++ record { number = k; pending = p } ∷ [] → IsNoted settings s k p.editor events p.noted → NotesStand settings s rs events → NotesStand settings s qs events
notes_more settings s k p qs rs events is new h n q there = go (found_more n (record { number = k; pending = p }) rs q (subst (λ ws. pending_of n ws ≡ Some q) is there))
  where
    go : (pending_of n rs ≡ Some q) ⊎ ((k ≡ n) × (p ≡ q)) → IsNoted settings s n q.editor events q.noted
    go (inl t) = h n q t
    go (inr t) = subst (λ m. IsNoted settings s m q.editor events q.noted) t.0 (subst (λ (x : Pending). IsNoted settings s k x.editor events x.noted) t.1 new)
