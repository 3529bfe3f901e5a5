-- An editor is left at rest by each entry that doesn't disturb it, as long as its start is ready; and a start that is ready no more is told of no document.
use Rattle.std.proofs.Common.{◌≡◌, inl, inr, ℕ, ◌<◌, Bool, true, false, not, ◌&&◌, ◌||◌, List, [], ◌∷◌, ◌++◌, cond, codes, filter, flat_map, nat_eq, Option, Some, None, refl, sym, ◌∙◌, ap, ap₂, subst}
use Rattle.std.specs.Prelude.{find}
use Rattle.std.specs.List.{AllByRecursion, list_any}
use Rattle.mux_history.specs.declared.cause.Cause.{Cause}
use Rattle.mux_history.specs.declared.cause.Cause.TheVariants.{Joined, FromEditor, EditorGone, Started, StartFailed, FromServer, ServerGone, Drained, Tick}
use Rattle.mux_history.specs.declared.entry.Entry.{Entry}
use Rattle.mux_history.specs.declared.out.Out.{Out}
use Rattle.mux_history.specs.declared.out.Out.TheVariants.{ToEditor, ToServer, Spawn, CloseEditor, EndServer}
use Rattle.rpc_message.specs.Message.{message_of}
use Rattle.document_model.specs.Helds.{HeldText}
use Rattle.document_model.specs.Opens.{Open, is_open_at}
use Rattle.document_model.specs.Sayings.{saying_of, speaks}
use Rattle.document_model.specs.Texts.{Texts, found}
use Rattle.document_model.proofs.Orders.{IsFound, all_found}
use Rattle.document_model.proofs.Written.{Spoken, spoken}
use Rattle.event_model.specs.Event.{Event, behind, events_of, heard, requests, said, with_cause}
use Rattle.event_model.specs.Settings.{Settings}
use Rattle.event_model.specs.Spawns.{start_of, starts_of}
use Rattle.event_model.specs.Stages.{is_ready, life_of}
use Rattle.event_model.proofs.Frames.{never}
use Rattle.mux_model.specs.Documents.{held_at}
use Rattle.mux_model.specs.Fits.{fits_behind}
use Rattle.mux_facts.specs.Ranges.{InRange}
use Rattle.mux_facts.proofs.DocumentRow.{ready_is}
use Rattle.mux_facts.proofs.Keeps.{events_more}
use Rattle.mux_facts.proofs.Reasons.{Reasons}
use Rattle.mux_facts.proofs.Words.{number_same}
use Rattle.group_words.specs.Houses.{home_of, is_home}
use Rattle.group_rows.specs.Debts.{ends_debts}
use Rattle.group_rows.specs.Rows.{outs_of, sync_bodies, synced}
use Rattle.group_rows.specs.Texts.{texts_of}
use Rattle.group_facts.specs.Legal.{Legal, LegalFrom}
use Rattle.group_facts.specs.OwnTexts.{HasOwn}
use Rattle.group_facts.specs.Settled.{IsServing, Settled}
use Rattle.group_facts.specs.SlowRows.{entry_outs}
use Rattle.group_facts.specs.Why.{HasParts, Why}
use Rattle.group_facts.proofs.Everywhere.{entry_parts}
use Rattle.group_facts.proofs.Facts.{Facts}
use Rattle.group_facts.proofs.Reached.{Reached, facts_at, reached, settled_at}
use Rattle.group_facts.proofs.Table.{reasons}
use Rattle.group_sessions.specs.Refreshes.{AllOnDocuments, IsAtRest, KeepsRest, StaysAtRest, Unless, disturbs, is_onward, is_over, is_pushed, parts, speaks_up}
use Rattle.group_sessions.proofs.ListsLaw.{legal_parts}
use Rattle.rest_laws.specs.Silent.{IsSilent, is_closing}
use Rattle.rest_laws.proofs.Agreeing.{agrees_is}
use Rattle.rest_laws.proofs.Codes.{codes_at}
use Rattle.rest_laws.proofs.Lasting.{Past, past_behind, past_entry, past_off}
use Rattle.rest_laws.proofs.OwnEntries.{own_rests}
use Rattle.rest_laws.proofs.Rested.{Rested, rested_more, texts_at}
use Rattle.rest_laws.proofs.RestEntries.{all_documents, entry_reached, entry_rests, rest_of, rested_behind, rested_first}
use Rattle.rest_laws.proofs.SaidRows.{on_first, on_second, said_silent}
use Rattle.rest_laws.proofs.SilentLaw.{both_false, no_slow}

unless : (b : Bool) (P : Type 0) → (b ≡ false → P) → Unless b P
unless true P f = tt
unless false P f = f refl

either_false : (a b : Bool) → a ≡ false → b ≡ false → (a || b) ≡ false
either_false true b h k = never h
either_false false b h k = k

off_is : (a : Bool) → not a ≡ false → a ≡ true
off_is true h = refl
off_is false h = never h

-- Where the start has all of an editor's texts, none is switched

unswitched : (versions : ℕ) (o : Open) (held : Option HeldText) → HasOwn o held → synced versions o held ≡ []
unswitched versions o None own = absurd own
unswitched versions o (Some h) own = rw (agrees_is o h own) refl

none_synced : (versions : ℕ) (held : List ℕ → Option HeldText) (e : ℕ) (os : List Open) → AllByRecursion (λ (o : Open). nat_eq o.editor e ≡ true → HasOwn o (held o.uri)) os → sync_bodies versions held e os ≡ []
none_synced versions held e [] all = refl
none_synced versions held e (o ∷ os) all = go (nat_eq o.editor e) refl (none_synced versions held e os all.1)
  where
    rest : List Open
    rest = filter (λ (o : Open). nat_eq o.editor e) os

    go : (b : Bool) → nat_eq o.editor e ≡ b → flat_map (λ (o : Open). synced versions o (held o.uri)) rest ≡ [] → flat_map (λ (o : Open). synced versions o (held o.uri)) (cond b (o ∷ rest) rest) ≡ []
    go true mine k = ap₂ (λ xs ys. xs ++ ys) (unswitched versions o (held o.uri) (all.0 mine)) k
    go false other k = k

each_own : (x : Texts) (e : ℕ) (held : List ℕ → Option HeldText) → ((u : List ℕ) (o : Open) → found e u x ≡ Some o → HasOwn o (held u)) → (os : List Open) → AllByRecursion (IsFound x.opens) os → AllByRecursion (λ (o : Open). nat_eq o.editor e ≡ true → HasOwn o (held o.uri)) os
each_own x e held own [] all = tt
each_own x e held own (o ∷ os) all = (λ mine. own o.uri o (subst (λ n. find (is_open_at n o.uri) x.opens ≡ Some o) (number_same o.editor e mine) all.0), each_own x e held own os all.1)

home_is : (g k : ℕ) (o : Option ℕ) → is_home g o ≡ true → o ≡ Some k → k ≡ g
home_is g k o mine is = number_same k g (sym (ap (is_home g) is) ∙ mine)

-- no link ends where none of another editor does and this one's doesn't
no_closing : (s e : ℕ) (outs : List Out) → list_any (parts e) outs ≡ false → list_any (λ out. ends_debts s e (said out)) outs ≡ false → list_any is_closing outs ≡ false
no_closing s e [] others own = refl
no_closing s e (out ∷ outs) others own =
    let a = both_false (parts e out) (list_any (parts e) outs) others in
    let b = both_false (ends_debts s e (said out)) (list_any (λ out. ends_debts s e (said out)) outs) own in
    either_false (is_closing out) (list_any is_closing outs) (one out a.0 b.0) (no_closing s e outs a.1 b.1)
  where
    one : (out : Out) → parts e out ≡ false → ends_debts s e (said out) ≡ false → is_closing out ≡ false
    one (CloseEditor n) other own = never (sym (off_is (nat_eq n e) other) ∙ own)
    one (ToServer n body) other own = refl
    one (ToEditor n body) other own = refl
    one (Spawn n g) other own = refl
    one (EndServer n) other own = refl

module _ (settings : Settings) (range : InRange settings) (s e : ℕ) where
  abbrev Goal : List Event → Cause → List Out → Type 0
  Goal before cause xs = AllOnDocuments settings s e (with_cause before cause) xs × (is_ready (life_of s (behind (with_cause before cause) xs)).stage ≡ true → IsAtRest settings s e (behind (with_cause before cause) xs))

  module _ (before : List Event) (at : Reached settings before) (rest : IsAtRest settings s e before) where
    facts : Facts settings before
    facts = facts_at settings range before at

    settled : Settled settings before
    settled = settled_at settings range before at

    serving : IsServing settings before s
    serving = settled.serving s (ready_is (life_of s before).stage rest.ready)

    abbrev g : ℕ
    g = serving.group

    first : Rested settings s e g before
    first = rested_first settings s e before settled rest serving

    -- what an editor says that is of no document
    module _ (n : ℕ) (body : List ℕ) (unsaid : speaks (saying_of (message_of body)) ≡ false) (unshut : requests (codes "shutdown") (message_of body) ≡ false) (links : list_any is_closing (entry_outs settings before (FromEditor n body)) ≡ false) where
      abbrev cause : Cause
      cause = FromEditor n body

      abbrev xs : List Out
      xs = entry_outs settings before cause

      whole : xs ≡ outs_of settings before cause
      whole = no_slow settings before cause links

      silent_rests : AllByRecursion (IsSilent s) (outs_of settings before cause) → Goal before cause xs
      silent_rests quiet =
          let silent : AllByRecursion (IsSilent s) xs = subst (AllByRecursion (IsSilent s)) (sym whole) quiet in
          let why : Reasons (λ places out. Why settings before cause places out) (with_cause before cause) xs = subst (Reasons (λ places out. Why settings before cause places out) (with_cause before cause)) (sym whole) (reasons settings range before facts cause).why in
          let last : Rested settings s e g (behind (with_cause before cause) xs) = rested_behind settings s e g before cause (with_cause before cause) xs why silent links (rested_more settings s e g before (heard cause) (unsaid, unshut) first) in
          (all_documents settings s e (with_cause before cause) xs silent, λ ready. rest_of settings s e g (behind (with_cause before cause) xs) last ready)

      -- nothing goes on to the start
      other_rests : list_any (is_onward s) xs ≡ false → Goal before cause xs
      other_rests calm = silent_rests (said_silent s settings range before facts rest.ready n body loud (λ out k. on_second (is_onward s out) (is_closing out) k) (inr (λ out k. on_first (is_onward s out) (is_closing out) k)) unsaid unshut
          (none_loud (outs_of settings before cause) (ap (list_any (is_onward s)) (sym whole) ∙ calm) (ap (list_any is_closing) (sym whole) ∙ links)))
        where
          loud : Out → Bool
          loud out = is_onward s out || is_closing out

          none_loud : (outs : List Out) → list_any (is_onward s) outs ≡ false → list_any is_closing outs ≡ false → list_any loud outs ≡ false
          none_loud [] a b = refl
          none_loud (out ∷ outs) a b =
              let p = both_false (is_onward s out) (list_any (is_onward s) outs) a in
              let q = both_false (is_closing out) (list_any is_closing outs) b in
              either_false (is_onward s out || is_closing out) (list_any loud outs) (either_false (is_onward s out) (is_closing out) p.0 q.0) (none_loud outs p.1 q.1)

      -- or it is this editor's, whose texts the start has
      plain_rests : n ≡ e → Goal before cause xs
      plain_rests own = silent_rests (said_silent s settings range before facts rest.ready n body is_closing (λ out k. k) (inl switches_none) unsaid unshut (ap (list_any is_closing) (sym whole) ∙ links))
        where
          own_texts : sync_bodies settings.limits.versions (λ u. held_at s u before) e (texts_of settings g before).opens ≡ []
          own_texts = none_synced settings.limits.versions (λ u. held_at s u before) e (texts_of settings g before).opens
              (each_own (texts_of settings g before) e (λ u. held_at s u before) (λ u o is. first.own u o (ap (found e u) (sym (texts_at settings s e g before first.seat)) ∙ is)) (texts_of settings g before).opens (all_found (texts_of settings g before).opens (((facts.base).opened g).orderly).once))

          switches_none : (k : ℕ) → home_of settings n before ≡ Some k → start_of k before ≡ Some s → sync_bodies settings.limits.versions (λ u. held_at s u before) n (texts_of settings k before).opens ≡ []
          switches_none k home start = subst (λ z. sync_bodies settings.limits.versions (λ u. held_at s u before) z (texts_of settings k before).opens ≡ []) (sym own)
              (subst (λ z. sync_bodies settings.limits.versions (λ u. held_at s u before) e (texts_of settings z before).opens ≡ []) (sym (home_is g k (home_of settings e before) (first.seat).home (ap (λ z. home_of settings z before) (sym own) ∙ home))) own_texts)

    -- what the editor says of a document
    document_rests : (body : List ℕ) → speaks (saying_of (message_of body)) ≡ true → list_any is_closing (entry_outs settings before (FromEditor e body)) ≡ false → Goal before (FromEditor e body) (entry_outs settings before (FromEditor e body))
    document_rests body speak links =
        let m : Spoken (message_of body) = spoken (message_of body) speak in
        let k = own_rests settings range before facts s e g first rest.ready serving.last ((codes_at settings range before at).ready g s (ready_is (life_of s before).stage rest.ready) serving.home) body m.method m.params m.is (ap (λ z. speaks (saying_of z)) (sym m.is) ∙ speak) in
        subst (Goal before (FromEditor e body)) (sym (no_slow settings before (FromEditor e body) links)) (k.0, λ ready. rest_of settings s e g _ k.1 ready)

    own_said : (body : List ℕ) → requests (codes "shutdown") (message_of body) ≡ false → list_any is_closing (entry_outs settings before (FromEditor e body)) ≡ false → Goal before (FromEditor e body) (entry_outs settings before (FromEditor e body))
    own_said body unshut links = go (speaks (saying_of (message_of body))) refl
      where
        go : (b : Bool) → speaks (saying_of (message_of body)) ≡ b → Goal before (FromEditor e body) (entry_outs settings before (FromEditor e body))
        go true speak = document_rests body speak links
        go false unsaid = plain_rests e body unsaid unshut links refl

    said_rests : (n : ℕ) (body : List ℕ) → speaks_up e (FromEditor n body) ≡ false → ends_debts s e (heard (FromEditor n body)) ≡ false → (is_pushed e (FromEditor n body) && list_any (is_onward s) (entry_outs settings before (FromEditor n body))) ≡ false
        → list_any is_closing (entry_outs settings before (FromEditor n body)) ≡ false → Goal before (FromEditor n body) (entry_outs settings before (FromEditor n body))
    said_rests n body calm stays unpushed links = go (nat_eq n e) refl
      where
        go : (b : Bool) → nat_eq n e ≡ b → Goal before (FromEditor n body) (entry_outs settings before (FromEditor n body))
        go true same =
            let own : n ≡ e = number_same n e same in
            subst (λ k. Goal before (FromEditor k body) (entry_outs settings before (FromEditor k body))) (sym own) (own_said body (ap (λ b. b && requests (codes "shutdown") (message_of body)) (sym same) ∙ stays) (subst (λ k. list_any is_closing (entry_outs settings before (FromEditor k body)) ≡ false) own links))
        go false other =
            let both = both_false (speaks (saying_of (message_of body))) (requests (codes "shutdown") (message_of body)) (ap (λ b. not b && (speaks (saying_of (message_of body)) || requests (codes "shutdown") (message_of body))) (sym other) ∙ calm) in
            other_rests n body both.0 both.1 links (ap (λ b. not b && list_any (is_onward s) (entry_outs settings before (FromEditor n body))) (sym other) ∙ unpushed)

    -- an entry by which nothing is disturbed or over
    one_rests : (cause : Cause) → fits_behind before cause ≡ true → speaks_up e cause ≡ false → ends_debts s e (heard cause) ≡ false → (is_pushed e cause && list_any (is_onward s) (entry_outs settings before cause)) ≡ false → list_any is_closing (entry_outs settings before cause) ≡ false
        → Goal before cause (entry_outs settings before cause)
    one_rests (FromEditor n body) fits calm stays unpushed links = said_rests n body calm stays unpushed links
    one_rests (EditorGone n why) fits calm stays unpushed links = never (sym (off_is (nat_eq n e) calm) ∙ stays)
    one_rests (Joined n) fits calm stays unpushed links = entry_rests settings range before (Joined n) at fits refl links s e rest
    one_rests (Started n) fits calm stays unpushed links = entry_rests settings range before (Started n) at fits refl links s e rest
    one_rests (StartFailed n) fits calm stays unpushed links = entry_rests settings range before (StartFailed n) at fits refl links s e rest
    one_rests (FromServer n body) fits calm stays unpushed links = entry_rests settings range before (FromServer n body) at fits refl links s e rest
    one_rests (ServerGone n) fits calm stays unpushed links = entry_rests settings range before (ServerGone n) at fits refl links s e rest
    one_rests (Drained n k) fits calm stays unpushed links = entry_rests settings range before (Drained n k) at fits refl links s e rest
    one_rests (Tick t) fits calm stays unpushed links = entry_rests settings range before (Tick t) at fits refl links s e rest

    spawned : s < starts_of before
    spawned = (first.seat).low

  parts_of : (before : List Entry) (entry : Entry) → fits_behind (events_of before) entry.cause ≡ true → entry.outs ≡ entry_outs settings (events_of before) entry.cause → Reached settings (events_of before) → HasParts settings (events_of before) entry.cause entry.outs
  parts_of before entry fits outs at = subst (HasParts settings (events_of before) entry.cause) (sym outs) (entry_parts settings range (events_of before) entry.cause fits (facts_at settings range (events_of before) at))

  -- a start that is ready no more is told of no document
  past_rests : (before rest : List Entry) → LegalFrom settings before rest → Reached settings (events_of before) → Past s (events_of before) → StaysAtRest settings s e before rest
  past_rests before [] legal at past = tt
  past_rests before (entry ∷ rest) legal at past = unless (disturbs s e entry || is_over s e entry) _ (λ off.
      let k = past_entry settings s (events_of before) entry.cause entry.outs (parts_of before entry legal.0 legal.1 at) past in
      let later : Past s (events_of (before ++ entry ∷ [])) = subst (Past s) (sym (events_more before entry)) k.1 in
      (all_documents settings s e (with_cause (events_of before) entry.cause) entry.outs k.0, (λ ready. absurd (past_off settings s (events_of (before ++ entry ∷ [])) later ready), past_rests (before ++ entry ∷ []) rest legal.2 (entry_reached settings range before entry legal.0 legal.1 at) later)))

  stays_at_rest : (before rest : List Entry) → LegalFrom settings before rest → Reached settings (events_of before) → IsAtRest settings s e (events_of before) → StaysAtRest settings s e before rest
  stays_at_rest before [] legal at h = tt
  stays_at_rest before (entry ∷ rest) legal at h = unless (disturbs s e entry || is_over s e entry) _ (λ off. calm (both_false (disturbs s e entry) (is_over s e entry) off).0 (both_false (disturbs s e entry) (is_over s e entry) off).1 (λ k. stays_at_rest (before ++ entry ∷ []) rest legal.2 again k))
    where
      again : Reached settings (events_of (before ++ entry ∷ []))
      again = entry_reached settings range before entry legal.0 legal.1 at

      calm : disturbs s e entry ≡ false → is_over s e entry ≡ false → (IsAtRest settings s e (events_of (before ++ entry ∷ [])) → StaysAtRest settings s e (before ++ entry ∷ []) rest)
          → AllOnDocuments settings s e (with_cause (events_of before) entry.cause) entry.outs × ((is_ready (life_of s (events_of (before ++ entry ∷ []))).stage ≡ true → IsAtRest settings s e (events_of (before ++ entry ∷ []))) × StaysAtRest settings s e (before ++ entry ∷ []) rest)
      calm undisturbed goes_on next =
          let a = both_false (speaks_up e entry.cause) _ undisturbed in
          let b = both_false (is_pushed e entry.cause && list_any (is_onward s) entry.outs) (list_any (parts e) entry.outs) a.1 in
          let d = both_false (ends_debts s e (heard entry.cause)) (list_any (λ out. ends_debts s e (said out)) entry.outs) goes_on in
          let links : list_any is_closing entry.outs ≡ false = no_closing s e entry.outs b.1 d.1 in
          let goal : Goal (events_of before) entry.cause entry.outs = subst (Goal (events_of before) entry.cause) (sym legal.1)
          (one_rests (events_of before) at h entry.cause legal.0 a.0 d.0 (subst (λ xs. (is_pushed e entry.cause && list_any (is_onward s) xs) ≡ false) legal.1 b.0) (ap (list_any is_closing) (sym legal.1) ∙ links)) in
          let later : is_ready (life_of s (events_of (before ++ entry ∷ []))).stage ≡ true → IsAtRest settings s e (events_of (before ++ entry ∷ []))
          = subst (λ z. is_ready (life_of s z).stage ≡ true → IsAtRest settings s e z) (sym (events_more before entry)) goal.1 in
          (goal.0, (later, further (is_ready (life_of s (events_of (before ++ entry ∷ []))).stage) refl later))
        where
          further : (b : Bool) → is_ready (life_of s (events_of (before ++ entry ∷ []))).stage ≡ b → (is_ready (life_of s (events_of (before ++ entry ∷ []))).stage ≡ true → IsAtRest settings s e (events_of (before ++ entry ∷ []))) → StaysAtRest settings s e (before ++ entry ∷ []) rest
          further true ready later = next (later ready)
          further false off later = past_rests (before ++ entry ∷ []) rest legal.2 again (subst (Past s) (sym (events_more before entry))
              (past_behind settings s (events_of before) entry.cause entry.outs (parts_of before entry legal.0 legal.1 at) h.ready (spawned (events_of before) at h) (ap (λ z. is_ready (life_of s z).stage) (sym (events_more before entry)) ∙ off)))

pub rest_holds : (settings : Settings) → InRange settings → (history : List Entry) → Legal settings history → KeepsRest settings history
rest_holds settings range history legal before rest is s e at =
    let both = legal_parts settings [] before rest (subst (Legal settings) is legal) in
    stays_at_rest settings range s e before rest both.1 (reached settings before both.0) at
