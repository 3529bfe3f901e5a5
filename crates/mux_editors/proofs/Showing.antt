-- L2: an editor that begins to run is shown last lists as one at which no document is open.
use Rattle.std.proofs.Common.{◌≡◌, ℕ, zero, suc, ◌+◌, Bool, true, false, not, List, [], ◌∷◌, ◌++◌, append-nil, append_assoc, find, length, length-append, map, if◌then◌else◌, refl, ap, ap₂, sym, subst, ◌∙◌}
use Rattle.std.specs.Prelude.{Option, None, Some, slice_get}
use Rattle.std.specs.List.{AllByRecursion}
use Rattle.std.specs.Option.{option_and_then, option_map, option_map_or}
use Rattle.std.proofs.lemmas.Slice.Eq.{bytes_eq-Decides}
use Rattle.json_text.specs.Json.{Json}
use Rattle.mux_history.specs.declared.cause.Cause.TheVariants.{FromEditor}
use Rattle.mux_history.specs.declared.out.Out.{Out}
use Rattle.mux_history.specs.declared.out.Out.TheVariants.{ToEditor, ToServer, Spawn, CloseEditor, EndServer}
use Rattle.rpc_message.specs.Message.{message_of, notification}
use Rattle.document_model.specs.Opens.{Open}
use Rattle.document_model.specs.Sayings.{Saying, opens, changes, closes, misshapen}
use Rattle.document_model.specs.Sayings.{nothing as silent}
use Rattle.document_model.specs.Texts.{found}
use Rattle.document_model.specs.declared.agreement.Agreement.TheVariants.{NotOpen}
use Rattle.event_model.specs.Does.{Alike}
use Rattle.event_model.specs.Event.{Event, behind, heard, said, with_cause}
use Rattle.event_model.specs.Row.{Row, choose, each, look, nothing, on, outs, send}
use Rattle.event_model.specs.Settings.{Settings}
use Rattle.event_model.proofs.Places.{same_item}
use Rattle.event_model.proofs.Turns.{alike, alike_false, alike_then, alike_true}
use Rattle.group_rows.specs.Answers.{shared_texts}
use Rattle.group_rows.specs.diagnostics_route.specs.declared.last_list.LastList.{LastList}
use Rattle.group_rows.specs.diagnostics_route.specs.Lists.{nonempty}
use Rattle.group_rows.specs.diagnostics_route.specs.Published.{published}
use Rattle.group_rows.specs.diagnostics_route.specs.Rows.{is_of, numbers_from}
use Rattle.group_rows.specs.diagnostics_route.specs.Shown.{fits, shown_text}
use Rattle.group_rows.specs.ListRows.{show, show_all, show_full, show_opened}
use Rattle.group_rows.specs.Lists.{agreement_at, agreement_by, changed_of, is_publishing, lists_next, lists_of, version_at}
use Rattle.group_rows.proofs.CreatedKept.{found_one}
use Rattle.group_rows.proofs.ListsKept.{lists_so, published_body}
use Rattle.mux_model.specs.Documents.{held_at}
use Rattle.mux_members.specs.Notices.{uri_opened}
use Rattle.mux_tables.specs.Stands.{IsListOf}
use Rattle.mux_tables.proofs.Publishing.{lists_more}
use Rattle.mux_turns.specs.group_facts.specs.Facts.{IsMeant, Meant}
use Rattle.mux_turns.specs.mux_facts.proofs.Lists.{all_join}
use Rattle.mux_turns.specs.group_facts.specs.Why.{IsQuestion, has_method}
use Rattle.mux_turns.proofs.Called.{Quiet, each_quiet, quiet_none}
use Rattle.mux_turns.proofs.Listed.{Notes, meant_same, noted_quiet, own_listed, plain_listed, plain_notes}
use Rattle.mux_editors.specs.Shows.{all_plain, full_text, last_text, show_at, show_plain}

-- A list of a document that isn't open fits, and is shown without a version

module _ (settings : Settings) (before : List Event) (s e : ℕ) (none : (u : List ℕ) → found e u (shared_texts settings s before) ≡ None) where
  not_open : (u : List ℕ) → agreement_at settings s e before u ≡ NotOpen
  not_open u = ap (λ o. option_map_or (agreement_by (held_at s u before) (changed_of s u before)) o NotOpen) (none u)

  no_version : (u : List ℕ) → version_at settings s e before u ≡ None
  no_version u = ap (option_map (λ (o : Open). o.version)) (none u)

  shown_plain : (l : LastList) (events : List Event) → outs (show settings before s e l) events ≡ outs (show_plain e l) events
  shown_plain l events =
      ap (λ a. outs (choose (fits l a) (send (ToEditor e (shown_text (version_at settings s e before l.uri) l.body))) nothing) events) (not_open l.uri)
      ∙ ap (λ o. ToEditor e (shown_text o l.body) ∷ []) (no_version l.uri)

  -- the row of all, by their numbers
  at_end : (pre : List LastList) (l : LastList) (ls : List LastList) → slice_get (pre ++ l ∷ ls) (length pre) ≡ Some l
  at_end [] l ls = refl
  at_end (k ∷ pre) l ls = at_end pre l ls

  one_longer : (pre : List LastList) (l : LastList) → length (pre ++ l ∷ []) ≡ length pre + 1
  one_longer pre l = length-append pre (l ∷ [])

  abbrev sent_by : List LastList → List ℕ → List Event → List Out
  sent_by all ns events = outs (each (show_at e all) ns) events

  abbrev numbers_of : ℕ → List LastList → List ℕ
  numbers_of n ls = numbers_from n (λ (l : LastList). not l.empty) ls

  all_sent : (pre ls : List LastList) (events : List Event) → outs (each (show_full settings before s e) ls) events ≡ sent_by (pre ++ ls) (numbers_of (length pre) ls) events
  all_sent pre [] events = refl
  all_sent pre (l ∷ ls) events = go l.empty (λ now. all_sent (pre ++ l ∷ []) ls now ∙ ap₂ (λ all n. sent_by all (numbers_of n ls) now) (append_assoc pre (l ∷ []) ls) (one_longer pre l))
    where
      first : outs (show settings before s e l) events ≡ outs (show_at e (pre ++ l ∷ ls) (length pre)) events
      first = shown_plain l events ∙ ap (λ o. outs (on o nothing (show_plain e)) events) (sym (at_end pre l ls))

      go : (b : Bool) → ((now : List Event) → outs (each (show_full settings before s e) ls) now ≡ sent_by (pre ++ l ∷ ls) (numbers_of (length pre + 1) ls) now)
          → outs (choose b nothing (show settings before s e l)) events ++ outs (each (show_full settings before s e) ls) (behind events (outs (choose b nothing (show settings before s e l)) events))
          ≡ sent_by (pre ++ l ∷ ls) (if not b then length pre ∷ numbers_of (length pre + 1) ls else numbers_of (length pre + 1) ls) events
      go true rest = ap (outs (each (show_full settings before s e) ls)) (append-nil events) ∙ rest events
      go false rest =
          ap (λ xs. xs ++ outs (each (show_full settings before s e) ls) (behind events xs)) first
          ∙ ap (λ ys. outs (show_at e (pre ++ l ∷ ls) (length pre)) events ++ ys) (rest (behind events (outs (show_at e (pre ++ l ∷ ls) (length pre)) events)))

  pub plain_row : Alike (show_all settings before e s) (all_plain e (lists_of s before))
  plain_row = record { sends = λ events. all_sent [] (lists_of s before) events }

-- The lists are those behind the message

pub lists_here : (s : ℕ) (before : List Event) (e : ℕ) (body : List ℕ) → lists_of s (with_cause before (FromEditor e body)) ≡ lists_of s before
lists_here s before e body = lists_more s before (heard (FromEditor e body))

-- and those behind outs
pub lists_behind : (s : ℕ) (events : List Event) (xs : List Out) → lists_of s (behind events xs) ≡ lists_of s events
lists_behind s events [] = ap (lists_of s) (append-nil events)
lists_behind s events (x ∷ xs) = ap (lists_of s) (sym (append_assoc events (said x ∷ []) (map said xs))) ∙ (lists_behind s (events ++ said x ∷ []) xs ∙ (lists_more s events (said x) ∙ stays x (lists_of s events)))
  where
    stays : (x : Out) (ls : List LastList) → lists_next s events ls (said x) ≡ ls
    stays (ToEditor n body) ls = refl
    stays (ToServer n body) ls = refl
    stays (Spawn n g) ls = refl
    stays (CloseEditor n) ls = refl
    stays (EndServer n) ls = refl

pub meant_here : (before : List Event) (e : ℕ) (body : List ℕ) → Meant before → Meant (with_cause before (FromEditor e body))
meant_here before e body meant = all_join IsMeant before (heard (FromEditor e body) ∷ []) meant (refl, tt)

-- What is kept of a list was published

pub record IsKept (l : LastList) : Type 0 where
  pub method : List ℕ
  pub params : Option Json
  pub place : ℕ
  pub says : message_of l.body ≡ notification method params
  pub publishes : is_publishing method ≡ true
  pub given : published place l.body ≡ Some l

abbrev pub AreKept : List LastList → Type 0
AreKept ls = AllByRecursion IsKept ls

kept : (place : ℕ) (body method : List ℕ) (params : Option Json) (l : LastList) → message_of body ≡ notification method params → is_publishing method ≡ true → published place body ≡ Some l → IsKept l
kept place body method params l says publishes at =
    let same : l.body ≡ body = published_body place body l at in
    record { method = method; params = params; place = place; says = ap message_of same ∙ says; publishes = publishes; given = ap (published place) same ∙ at }

pub are_kept : (s : ℕ) (events : List Event) → Meant events → AreKept (lists_of s events)
are_kept s events meant = lists_so IsKept kept s events (meant_same events meant)

pub kept_at : (ls : List LastList) (n : ℕ) (l : LastList) → AreKept ls → slice_get ls n ≡ Some l → IsKept l
kept_at [] n l h at = absurd (cc)
kept_at (k ∷ ls) zero l h at = subst IsKept (same_item at) h.0
kept_at (k ∷ ls) (suc n) l h at = kept_at ls n l h.1 at

plain_noted : (l : LastList) → IsKept l → (method : List ℕ) × Notes method (shown_text None l.body)
plain_noted l h = (h.method, plain_notes l.body h.method h.params h.says)

module _ (settings : Settings) (e : ℕ) (ls : List LastList) (h : AreKept ls) where
  one_quiet : (n : ℕ) (events : List Event) → Quiet settings events (behind events (outs (show_at e ls n) events))
  one_quiet n events = go (slice_get ls n) refl
    where
      go : (o : Option LastList) → slice_get ls n ≡ o → Quiet settings events (behind events (outs (on o nothing (show_plain e)) events))
      go None at = quiet_none settings events
      go (Some l) at = let note = plain_noted l (kept_at ls n l h at) in noted_quiet settings e (shown_text None l.body) events note.0 note.1

  pub plain_quiet : (events : List Event) → Quiet settings events (behind events (outs (all_plain e ls) events))
  plain_quiet events = each_quiet settings (show_at e ls) one_quiet (nonempty ls) events

  one_question : (n : ℕ) (events : List Event) → AllByRecursion (IsQuestion e) (outs (show_at e ls n) events)
  one_question n events = go (slice_get ls n) refl
    where
      go : (o : Option LastList) → slice_get ls n ≡ o → AllByRecursion (IsQuestion e) (outs (on o nothing (show_plain e)) events)
      go None at = tt
      go (Some l) at = let note = plain_noted l (kept_at ls n l h at) in ((refl, ap has_method note.1.1), tt)

  questions : (ns : List ℕ) (events : List Event) → AllByRecursion (IsQuestion e) (outs (each (show_at e ls) ns) events)
  questions [] events = tt
  questions (n ∷ ns) events = let xs = outs (show_at e ls n) events in all_join (IsQuestion e) xs (outs (each (show_at e ls) ns) (behind events xs)) (one_question n events) (questions ns (behind events xs))

  pub plain_questions : (events : List Event) → AllByRecursion (IsQuestion e) (outs (all_plain e ls) events)
  plain_questions events = questions (nonempty ls) events

-- E12: by what the message opened

pub shows_none : (settings : Settings) (s e : ℕ) (what : Saying) → uri_opened what ≡ None → show_opened settings s e what ≡ nothing
shows_none settings s e (opens u l v t) h = absurd (cc)
shows_none settings s e (changes u v cs) h = refl
shows_none settings s e (closes u) h = refl
shows_none settings s e misshapen h = refl
shows_none settings s e silent h = refl

abbrev pub show_last : Settings → ℕ → ℕ → List ℕ → List Event → Row
show_last settings s e u events = on (find (is_of u) (lists_of s events)) nothing (show_full settings events s e)

pub shows_last : (settings : Settings) (s e : ℕ) (what : Saying) (u : List ℕ) → uri_opened what ≡ Some u → show_opened settings s e what ≡ look (show_last settings s e u)
shows_last settings s e (opens w l v t) u h = let same : w ≡ u = cc in ap (λ z. look (show_last settings s e z)) same
shows_last settings s e (changes w v cs) u h = absurd (cc)
shows_last settings s e (closes w) u h = absurd (cc)
shows_last settings s e misshapen u h = absurd (cc)
shows_last settings s e silent u h = absurd (cc)

-- what it is shown then
module _ (settings : Settings) (s e : ℕ) (events : List Event) where
  abbrev text_of : LastList → List ℕ
  text_of l = shown_text (version_at settings s e events l.uri) l.body

  pub text_row : (u : List ℕ) → Alike (show_last settings s e u events) (on (last_text settings s e events u) nothing (λ w. send (ToEditor e w)))
  text_row u = go (find (is_of u) (lists_of s events))
    where
      by : (t : List ℕ) (a b : Bool) → Alike (choose a nothing (choose b (send (ToEditor e t)) nothing)) (on (if a then None else (if b then Some t else None)) nothing (λ w. send (ToEditor e w)))
      by t true b = alike_true
      by t false true = alike_then alike_false alike_true
      by t false false = alike_then alike_false alike_false

      go : (o : Option LastList) → Alike (on o nothing (show_full settings events s e)) (on (option_and_then (full_text settings s e events) o) nothing (λ w. send (ToEditor e w)))
      go None = alike refl
      go (Some l) = by (text_of l) l.empty (fits l (agreement_at settings s e events l.uri))

  named : (u : List ℕ) (ls : List LastList) (l : LastList) → find (is_of u) ls ≡ Some l → l.uri ≡ u
  named u [] l h = absurd (cc)
  named u (k ∷ ls) l h = go (is_of u k) refl h (named u ls l)
    where
      go : (b : Bool) → is_of u k ≡ b → (if b then Some k else find (is_of u) ls) ≡ Some l → (find (is_of u) ls ≡ Some l → l.uri ≡ u) → l.uri ≡ u
      go true is h rest = let same : k ≡ l = cc in ap (λ (x : LastList). x.uri) (sym same) ∙ sym ((bytes_eq-Decides u k.uri).0 is)
      go false is h rest = rest h

  -- it is a list of the document that the message opened, and isn't empty
  pub last_listed : (u text : List ℕ) → Meant events → last_text settings s e events u ≡ Some text → IsListOf u false text
  last_listed u text meant is = go (find (is_of u) (lists_of s events)) refl is
    where
      one : (l : LastList) → find (is_of u) (lists_of s events) ≡ Some l → (a b : Bool) → l.empty ≡ a → (if a then None else (if b then Some (text_of l) else None)) ≡ Some text → IsListOf u false text
      one l at false true none h =
          let k : IsKept l = found_one IsKept (is_of u) l (lists_of s events) (are_kept s events meant) at in
          let same : text_of l ≡ text = cc in
          subst (λ w. IsListOf u false w) same (subst (λ v. IsListOf v false (text_of l)) (named u (lists_of s events) l at)
          (subst (λ b. IsListOf l.uri b (text_of l)) none (own_listed settings s e events l.uri l.body k.method k.params k.place l meant k.says k.publishes k.given)))
      one l at true b none h = absurd (cc)
      one l at false false none h = absurd (cc)

      go : (o : Option LastList) → find (is_of u) (lists_of s events) ≡ o → option_and_then (full_text settings s e events) o ≡ Some text → IsListOf u false text
      go None at h = absurd (cc)
      go (Some l) at h = one l at l.empty (fits l (agreement_at settings s e events l.uri)) refl h

-- L2: and each that is shown as it begins to run is one of its document
pub plain_shown : (s : ℕ) (events : List Event) (n : ℕ) (l : LastList) → Meant events → slice_get (lists_of s events) n ≡ Some l → IsListOf l.uri l.empty (shown_text None l.body)
plain_shown s events n l meant at =
    let k : IsKept l = kept_at (lists_of s events) n l (are_kept s events meant) at in
    plain_listed l.body k.method k.params k.place l k.says k.publishes k.given
