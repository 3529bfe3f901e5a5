-- What an event leaves of the documents that are kept.
use Rattle.std.proofs.Common.{◌≡◌, ℕ, Bool, true, false, ◌&&◌, List, [], ◌∷◌, ◌++◌, nat_eq, codes, refl, sym, ap, ap₂, subst, ◌∙◌, arith, if◌then◌else◌}
use Rattle.std.specs.Prelude.{Option, Some, None}
use Rattle.std.specs.List.{AllByRecursion}
use Rattle.std.proofs.lemmas.Bool.Decides.{nat_tests}
use Rattle.mux_history.specs.declared.cause.Cause.TheVariants.{Joined, FromEditor, EditorGone, FromServer}
use Rattle.mux_history.specs.declared.out.Out.{Out}
use Rattle.mux_history.specs.declared.out.Out.TheVariants.{ToEditor, ToServer, CloseEditor}
use Rattle.rpc_message.specs.Message.{Message}
use Rattle.position_codec.specs.declared.Encoding.{Encoding}
use Rattle.document_model.specs.Helds.{HeldText, told}
use Rattle.document_model.specs.Opens.{Open}
use Rattle.document_model.specs.Sayings.{nothing, saying_of, speaks}
use Rattle.event_model.specs.declared.phase.Phase.{Phase}
use Rattle.event_model.specs.declared.phase.Phase.TheVariants.{Absent, New, Waiting, Answered, Running, Down, Closed, Gone}
use Rattle.event_model.specs.declared.stage.Stage.{Stage}
use Rattle.event_model.specs.declared.stage.Stage.TheVariants.{Spawning, Initializing, Ready}
use Rattle.event_model.specs.Event.{Event, behind, did, requests, took}
use Rattle.event_model.specs.Phases.{Desk, desk_behind, desk_of, is_new, is_running, is_served}
use Rattle.event_model.specs.Settings.{Settings}
use Rattle.event_model.proofs.Frames.{never, one_more, outs_more}
use Rattle.focus_switch.specs.Documents.{Documents}
use Rattle.group_laws.specs.mux_model.specs.Documents as starts
use Rattle.group_laws.specs.mux_model.specs.Documents.{Sent, encoding_by, held_at, held_behind, sent_behind, sent_of}
use Rattle.group_laws.specs.mux_model.proofs.DocumentFolds.{sent_encoding}
use Rattle.group_words.specs.Houses.{home_next, home_of, house_of}
use Rattle.group_words.proofs.Frames.{home_more}
use Rattle.group_laws.specs.group_rows.specs.Texts.{encoding_of, texts_of}
use Rattle.group_laws.specs.Stands.{HeldStands}
use Rattle.group_laws.proofs.Counts.{SameCounts, apart_uncounted, counts_at, counts_behind_same, counts_more, counts_stay, counts_then, is_counted, silent_uncounted}
use Rattle.group_laws.proofs.Entries.{held_same}
use Rattle.mux_tables.specs.Documents.{IsOwned, SharedStands, StartTold, Told, Untold, to}

-- what a start was sent of documents stays, and how often
pub record SentSame (s : ℕ) (events later : List Event) : Type 0 where
  pub sent : (u : List ℕ) → sent_of s u later ≡ sent_of s u events
  pub counts : SameCounts s events later

-- the events that what a start was sent speaks of
abbrev pub touches_sent : Event → Bool
touches_sent (took (FromServer n body) m) = true
touches_sent (did (ToServer n body) m) = true
touches_sent other = false

given_quiet : (s : ℕ) (code : Option Encoding) (ev : Event) → touches_sent ev ≡ false → starts.encoding_behind s code ev ≡ code
given_quiet s (Some code) ev h = refl
given_quiet s None (took (FromServer n body) m) h = never h
given_quiet s None other h = refl

held_quiet : (s : ℕ) (u : List ℕ) (code : Option Encoding) (k : Option HeldText) (ev : Event) → touches_sent ev ≡ false → held_behind s u code k ev ≡ k
held_quiet s u code k (did (ToServer n body) m) h = never h
held_quiet s u code k other h = refl

quiet_of : (s : ℕ) (u : List ℕ) (events : List Event) (ev : Event) → touches_sent ev ≡ false → sent_of s u (events ++ ev ∷ []) ≡ sent_of s u events
quiet_of s u events ev h = one_more (sent_behind s u) _ (sent_of s u events) events ev refl
    ∙ ap₂ (λ c k. record { encoding = c; held = k }) (given_quiet s (sent_of s u events).encoding ev h) (held_quiet s u (sent_of s u events).encoding (sent_of s u events).held ev h)

quiet_uncounted : (s : ℕ) (ev : Event) → touches_sent ev ≡ false → is_counted s ev ≡ false
quiet_uncounted s (did (ToServer n body) m) h = never h
quiet_uncounted s other h = refl

pub sent_stays : (s : ℕ) (events : List Event) (ev : Event) → touches_sent ev ≡ false → SentSame s events (events ++ ev ∷ [])
sent_stays s events ev h = record { sent = λ u. quiet_of s u events ev h; counts = counts_more s events ev (quiet_uncounted s ev h) }

given_told : (s n : ℕ) (code : Option Encoding) (body : List ℕ) (m : Message) → starts.encoding_behind s code (did (ToServer n body) m) ≡ code
given_told s n (Some code) body m = refl
given_told s n None body m = refl

-- a body that says nothing of a document, and one to another start
silent_of : (s n : ℕ) (u body : List ℕ) (m : Message) (events : List Event) → saying_of m ≡ nothing → sent_of s u (events ++ did (ToServer n body) m ∷ []) ≡ sent_of s u events
silent_of s n u body m events h = one_more (sent_behind s u) _ (sent_of s u events) events (did (ToServer n body) m) refl
    ∙ ap₂ (λ c k. record { encoding = c; held = k }) (given_told s n (sent_of s u events).encoding body m) (silent (nat_eq n s) (sent_of s u events).encoding (sent_of s u events).held)
  where
    silent : (b : Bool) (c : Option Encoding) (k : Option HeldText) → (if b then told c u k (saying_of m) else k) ≡ k
    silent true c k = ap (told c u k) h
    silent false c k = refl

apart_of : (s n : ℕ) (u body : List ℕ) (m : Message) (events : List Event) → nat_eq n s ≡ false → sent_of s u (events ++ did (ToServer n body) m ∷ []) ≡ sent_of s u events
apart_of s n u body m events h = one_more (sent_behind s u) _ (sent_of s u events) events (did (ToServer n body) m) refl
    ∙ ap₂ (λ c k. record { encoding = c; held = k }) (given_told s n (sent_of s u events).encoding body m) (apart (told (sent_of s u events).encoding u (sent_of s u events).held (saying_of m)) (sent_of s u events).held)
  where
    apart : (j k : Option HeldText) → (if nat_eq n s then j else k) ≡ k
    apart j k = rw h refl

-- what another start said, and what gives no encoding, or a second one
unheard_of : (s n : ℕ) (u body : List ℕ) (m : Message) (events : List Event) → nat_eq n s ≡ false → sent_of s u (events ++ took (FromServer n body) m ∷ []) ≡ sent_of s u events
unheard_of s n u body m events h = one_more (sent_behind s u) _ (sent_of s u events) events (took (FromServer n body) m) refl ∙ ap (λ c. record { encoding = c; held = (sent_of s u events).held }) (unheard (sent_of s u events).encoding)
  where
    unheard : (c : Option Encoding) → starts.encoding_behind s c (took (FromServer n body) m) ≡ c
    unheard (Some code) = refl
    unheard None = rw h refl

ungiven_of : (s n : ℕ) (u body : List ℕ) (m : Message) (events : List Event) → encoding_by m ≡ None → sent_of s u (events ++ took (FromServer n body) m ∷ []) ≡ sent_of s u events
ungiven_of s n u body m events h = one_more (sent_behind s u) _ (sent_of s u events) events (took (FromServer n body) m) refl ∙ ap (λ c. record { encoding = c; held = (sent_of s u events).held }) (ungiven (sent_of s u events).encoding)
  where
    either : (b : Bool) → (if b then encoding_by m else None) ≡ None
    either true = h
    either false = refl

    ungiven : (c : Option Encoding) → starts.encoding_behind s c (took (FromServer n body) m) ≡ c
    ungiven (Some code) = refl
    ungiven None = either (nat_eq n s)

given_of : (s n : ℕ) (u body : List ℕ) (m : Message) (events : List Event) (code : Encoding) → starts.encoding_of s events ≡ Some code → sent_of s u (events ++ took (FromServer n body) m ∷ []) ≡ sent_of s u events
given_of s n u body m events code h = one_more (sent_behind s u) _ (sent_of s u events) events (took (FromServer n body) m) refl
    ∙ ap (λ c. record { encoding = c; held = (sent_of s u events).held }) (ap (λ c. starts.encoding_behind s c (took (FromServer n body) m)) (sent_encoding s u events ∙ h) ∙ sym (sent_encoding s u events ∙ h))

pub sent_silent : (s n : ℕ) (body : List ℕ) (m : Message) (events : List Event) → saying_of m ≡ nothing → SentSame s events (events ++ did (ToServer n body) m ∷ [])
sent_silent s n body m events h = record { sent = λ u. silent_of s n u body m events h; counts = counts_more s events (did (ToServer n body) m) (silent_uncounted s n body m (ap speaks h)) }

pub sent_apart : (s n : ℕ) (body : List ℕ) (m : Message) (events : List Event) → nat_eq n s ≡ false → SentSame s events (events ++ did (ToServer n body) m ∷ [])
sent_apart s n body m events h = record { sent = λ u. apart_of s n u body m events h; counts = counts_more s events (did (ToServer n body) m) (apart_uncounted s n body m h) }

pub sent_unheard : (s n : ℕ) (body : List ℕ) (m : Message) (events : List Event) → nat_eq n s ≡ false → SentSame s events (events ++ took (FromServer n body) m ∷ [])
sent_unheard s n body m events h = record { sent = λ u. unheard_of s n u body m events h; counts = counts_more s events (took (FromServer n body) m) refl }

pub sent_ungiven : (s n : ℕ) (body : List ℕ) (m : Message) (events : List Event) → encoding_by m ≡ None → SentSame s events (events ++ took (FromServer n body) m ∷ [])
sent_ungiven s n body m events h = record { sent = λ u. ungiven_of s n u body m events h; counts = counts_more s events (took (FromServer n body) m) refl }

pub sent_given : (s n : ℕ) (body : List ℕ) (m : Message) (events : List Event) (code : Encoding) → starts.encoding_of s events ≡ Some code → SentSame s events (events ++ took (FromServer n body) m ∷ [])
sent_given s n body m events code h = record { sent = λ u. given_of s n u body m events code h; counts = counts_more s events (took (FromServer n body) m) refl }

pub sent_at : (s : ℕ) (events later : List Event) → later ≡ events → SentSame s events later
sent_at s events later is = record { sent = λ u. ap (sent_of s u) is; counts = counts_at s events later is }

pub sent_then : (s : ℕ) (a b c : List Event) → SentSame s a b → SentSame s b c → SentSame s a c
sent_then s a b c f g = record { sent = λ u. g.sent u ∙ f.sent u; counts = counts_then s a b c f.counts g.counts }

-- what holds by what a start was sent
pub held_by_sent : (s : ℕ) (code : Encoding) (d : Documents) (events later : List Event) → SentSame s events later → HeldStands s code d events → HeldStands s code d later
held_by_sent s code d events later same h = record {
  start = h.start;
  known = h.known;
  given = sym (sent_encoding s [] later) ∙ (ap (λ (x : Sent). x.encoding) (same.sent []) ∙ (sent_encoding s [] events ∙ h.given));
  held = held_same d (λ u. held_at s u events) (λ u. held_at s u later) (λ u. sym (ap (λ (x : Sent). x.held) (same.sent u))) h.held;
  counts = counts_stay s d events later same.counts h.counts;
}

pub sent_behind_same : (s : ℕ) (xs : List Out) (events later : List Event) → SentSame s events later → SentSame s (behind events xs) (behind later xs)
sent_behind_same s xs events later same = record {
  sent = λ u. outs_more (sent_behind s u) _ (sent_of s u events) later xs (same.sent u) ∙ sym (outs_more (sent_behind s u) _ (sent_of s u events) events xs refl);
  counts = counts_behind_same s xs events later same.counts;
}

pub untold_stays : (s : ℕ) (events later : List Event) → SentSame s events later → Untold s events → Untold s later
untold_stays s events later same h = record { none = λ u. same.sent u ∙ h.none u; unsaid = same.counts.sayings ∙ h.unsaid }

module _ (s : ℕ) (owed : List (List ℕ)) (d : Documents) (events later : List Event) (same : SentSame s events later) where
  pub told_stays : Told s owed d events → Told s owed d later
  told_stays h = record {
    code = h.code;
    tell = h.tell;
    holds = held_by_sent s h.code d (behind events (to s owed)) (behind later (to s owed)) (sent_behind_same s (to s owed) events later same) h.holds;
  }

  pub start_stays : (stage : Stage) → StartTold stage s owed d events → StartTold stage s owed d later
  start_stays Spawning h = (h.0, untold_stays s events later same h.1)
  start_stays Initializing h = (h.0, untold_stays s events later same h.1)
  start_stays Ready h = told_stays h
  start_stays other h = h

-- one group, where the event doesn't speak of what is open there, nor of what its start was sent
pub shared_stays : (settings : Settings) (events later : List Event) (owed : List (List ℕ)) (g s : ℕ) (stage : Stage) (d : Documents) → texts_of settings g later ≡ texts_of settings g events → encoding_of g later ≡ encoding_of g events
    → (StartTold stage s owed d events → StartTold stage s owed d later) → (AllByRecursion (IsOwned settings events g) d.opens → AllByRecursion (IsOwned settings later g) d.opens)
    → SharedStands settings events owed g s stage d → SharedStands settings later owed g s stage d
shared_stays settings events later owed g s stage d texts encoding start owners h = record {
  texts = record { texts = texts ∙ h.texts.texts; encoding = encoding ∙ h.texts.encoding; orderly = h.texts.orderly; spelt = h.texts.spelt };
  versions = h.versions;
  owned = owners h.owned;
  start = start h.start;
}

-- the owners of documents
pub all_owned : (P Q : Open → Type 0) (os : List Open) → ((o : Open) → P o → Q o) → AllByRecursion P os → AllByRecursion Q os
all_owned P Q [] f h = tt
all_owned P Q (o ∷ os) f h = (f o h.0, all_owned P Q os f h.1)

-- the events behind which an editor that is served, or runs, may not any more
abbrev pub parts : ℕ → Event → Bool
parts n (took (Joined e) m) = nat_eq e n
parts n (took (FromEditor e body) m) = nat_eq e n && requests (codes "shutdown") m
parts n (took (EditorGone e why) m) = nat_eq e n
parts n (did (CloseEditor e) m) = nat_eq e n
parts n other = false

hears_running : (p : Phase) (initialize body : List ℕ) (m : Message) → requests (codes "shutdown") m ≡ false → is_running p ≡ true → is_running (desk_behind 0 (record { phase = p; initialize = initialize }) (took (FromEditor 0 body) m)).phase ≡ true
hears_running Running i body m h k = rw h refl
hears_running Answered i body m h k = never (sym k)
hears_running Absent i body m h k = never (sym k)
hears_running New i body m h k = never (sym k)
hears_running Waiting i body m h k = never (sym k)
hears_running Down i body m h k = never (sym k)
hears_running Closed i body m h k = never (sym k)
hears_running Gone i body m h k = never (sym k)

told_running : (p : Phase) (i body : List ℕ) (m : Message) → is_running p ≡ true → is_running (desk_behind 0 (record { phase = p; initialize = i }) (did (ToEditor 0 body) m)).phase ≡ true
told_running Running i body m k = refl
told_running Answered i body m k = never (sym k)
told_running Absent i body m k = never (sym k)
told_running New i body m k = never (sym k)
told_running Waiting i body m k = never (sym k)
told_running Down i body m k = never (sym k)
told_running Closed i body m k = never (sym k)
told_running Gone i body m k = never (sym k)

either_runs : (b : Bool) (x y : Desk) → is_running y.phase ≡ true → (b ≡ true → is_running x.phase ≡ true) → is_running (if b then x else y).phase ≡ true
either_runs true x y h k = k refl
either_runs false x y h k = h

pub off_then : (b c : Bool) → (b && c) ≡ false → b ≡ true → c ≡ false
off_then true c h k = h
off_then false c h k = never (sym k)

runs_stays : (n : ℕ) (desk : Desk) (ev : Event) → parts n ev ≡ false → is_running desk.phase ≡ true → is_running (desk_behind n desk ev).phase ≡ true
runs_stays n desk (took (Joined e) m) h k = rw h k
runs_stays n desk (took (FromEditor e body) m) h k = either_runs (nat_eq e n) _ desk k (λ b. hears_running desk.phase desk.initialize body m (off_then (nat_eq e n) _ h b) k)
runs_stays n desk (took (EditorGone e why) m) h k = rw h k
runs_stays n desk (did (ToEditor e body) m) h k = either_runs (nat_eq e n) _ desk k (λ b. told_running desk.phase desk.initialize body m k)
runs_stays n desk (did (CloseEditor e) m) h k = rw h k
runs_stays n desk other h k = k

-- it is served
pub runs_served : (p : Phase) → is_running p ≡ true → is_served p ≡ true
runs_served Running h = refl
runs_served other h = never (sym h)

pub owner_served : (settings : Settings) (events : List Event) (g : ℕ) (o : Open) → IsOwned settings events g o → is_served (desk_of o.editor events).phase ≡ true
owner_served settings events g o k = runs_served (desk_of o.editor events).phase k.1

pub served_old : (p : Phase) → is_served p ≡ true → is_new p ≡ false
served_old New h = never (sym h)
served_old other h = refl

module _ (settings : Settings) (events : List Event) where
  -- the home of an editor that is served
  pub home_served : (n : ℕ) (ev : Event) → parts n ev ≡ false → is_served (desk_of n events).phase ≡ true → home_of settings n (events ++ ev ∷ []) ≡ home_of settings n events
  home_served n (took (FromEditor e body) m) h k = home_more settings n events (took (FromEditor e body) m) ∙ go (nat_eq e n) refl
    where
      same : nat_eq e n ≡ true → is_new (desk_of e events).phase ≡ false
      same b = let q : e ≡ n = grind (arith, nat_tests) in subst (λ j. is_new (desk_of j events).phase ≡ false) (sym q) (served_old (desk_of n events).phase k)

      go : (b : Bool) → nat_eq e n ≡ b → home_next settings events (house_of settings events) (took (FromEditor e body) m) n ≡ home_of settings n events
      go true b = rw (b, same b) refl
      go false b = rw b refl
  home_served n (took (EditorGone e why) m) h k = home_more settings n events (took (EditorGone e why) m) ∙ rw h refl
  home_served n other h k = home_more settings n events other

  pub owner_stays : (g : ℕ) (o : Open) (ev : Event) → parts o.editor ev ≡ false → IsOwned settings events g o → IsOwned settings (events ++ ev ∷ []) g o
  owner_stays g o ev h k = (home_served o.editor ev h (owner_served settings events g o k) ∙ k.0, subst (λ (d : Desk). is_running d.phase ≡ true) (sym (one_more (desk_behind o.editor) _ _ events ev refl)) (runs_stays o.editor (desk_of o.editor events) ev h k.1))
