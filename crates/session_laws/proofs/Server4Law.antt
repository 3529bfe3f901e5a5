-- A start is told of documents as it may be.
use Rattle.std.proofs.Common.{◌≡◌, ℕ, Bool, true, false, cond, List, [], ◌∷◌, filter, fold, nat_eq, bytes_eq, is_some, if◌then◌else◌, Option, Some, None, refl, sym, ◌∙◌, ap, subst}
use Rattle.std.specs.Option.{option_map}
use Rattle.json_text.specs.Json.{Json}
use Rattle.position_codec.specs.declared.Encoding.{Encoding}
use Rattle.document_model.specs.Helds.{HeldText, number_of, changed_held, told}
use Rattle.document_model.specs.Sayings.{Saying, opens, changes, closes, misshapen, nothing, saying_of}
use Rattle.mux_history.specs.declared.cause.Cause.TheVariants.{Joined, FromEditor, EditorGone, Started, StartFailed, FromServer, ServerGone, Drained, Tick}
use Rattle.mux_history.specs.declared.out.Out.TheVariants.{ToEditor, ToServer, Spawn, CloseEditor, EndServer}
use Rattle.mux_facts.specs.mux_model.specs.Documents.{Sent, held_behind, sent_behind}
use Rattle.event_model.specs.Event.{Event, took, did}
use Rattle.event_model.specs.Parts.{server_part, is_of_server}
use Rattle.mux_facts.specs.Allowed.{AllowsSaying, IsNext}
use Rattle.session_laws.specs.ServerRules.{version_told, version_behind, version_of, ServerRule4}
use Rattle.mux_facts.proofs.Rules.{word_first}
use Rattle.session_laws.proofs.PartLaws.{is_to_server}
use Rattle.mux_facts.proofs.Tellings.{versions_at}

-- the version of each document
abbrev pub Versions : Type 0
Versions = List ℕ → Option ℕ

abbrev pub step : Versions → Event → Versions
step w event = λ u. version_behind u (w u) event

abbrev pub none_held : Versions
none_held = λ u. None

pub word_at : (w : Versions) (part : List Event) (u : List ℕ) → fold step w part u ≡ fold (version_behind u) (w u) part
word_at w [] u = refl
word_at w (event ∷ part) u = word_at (step w event) part u

pub allows_same : (f g : Versions) → ((u : List ℕ) → f u ≡ g u) → (x : Saying) → AllowsSaying f x → AllowsSaying g x
allows_same f g e (opens u l v t) h = (sym (e u) ∙ h.0, h.1)
allows_same f g e (changes u v cs) h = subst (λ o. IsNext o v) (e u) h
allows_same f g e (closes u) h = ap is_some (sym (e u)) ∙ h
allows_same f g e misshapen h = h
allows_same f g e nothing h = tt

-- The version of what a start has is the version by its part

abbrev version_in : Option HeldText → Option ℕ
version_in o = option_map (λ (h : HeldText). h.version) o

changed_version : (encoding : Option Encoding) (v : List ℕ) (cs : Json) (o : Option HeldText) → version_in (changed_held encoding v cs o) ≡ option_map (λ old. number_of v) (version_in o)
changed_version encoding v cs None = refl
changed_version encoding v cs (Some h) = refl

told_version : (encoding : Option Encoding) (u : List ℕ) (o : Option HeldText) (x : Saying) → version_in (told encoding u o x) ≡ version_told u (version_in o) x
told_version encoding u o (opens w l v t) = go (bytes_eq u w)
  where
    go : (b : Bool) → version_in (if b then Some (record { version = number_of v; language = l; text = t }) else o) ≡ (if b then Some (number_of v) else version_in o)
    go true = refl
    go false = refl
told_version encoding u o (changes w v cs) = go (bytes_eq u w)
  where
    go : (b : Bool) → version_in (if b then changed_held encoding v cs o else o) ≡ (if b then option_map (λ old. number_of v) (version_in o) else version_in o)
    go true = changed_version encoding v cs o
    go false = refl
told_version encoding u o (closes w) = go (bytes_eq u w)
  where
    go : (b : Bool) → version_in (if b then None else o) ≡ (if b then None else version_in o)
    go true = refl
    go false = refl
told_version encoding u o misshapen = refl
told_version encoding u o nothing = refl

either : (b : Bool) (w : Option ℕ) → w ≡ cond b w w
either true w = refl
either false w = refl

one_held : (s : ℕ) (u : List ℕ) (encoding : Option Encoding) (o : Option HeldText) (event : Event)
    → version_in (held_behind s u encoding o event) ≡ cond (is_of_server s event) (version_behind u (version_in o) event) (version_in o)
one_held s u encoding o (took (Started k) m) = either (nat_eq k s) (version_in o)
one_held s u encoding o (took (StartFailed k) m) = either (nat_eq k s) (version_in o)
one_held s u encoding o (took (FromServer k body) m) = either (nat_eq k s) (version_in o)
one_held s u encoding o (took (ServerGone k) m) = either (nat_eq k s) (version_in o)
one_held s u encoding o (took (FromEditor e body) m) = refl
one_held s u encoding o (took (Joined e) m) = refl
one_held s u encoding o (took (EditorGone e why) m) = refl
one_held s u encoding o (took (Drained e k) m) = refl
one_held s u encoding o (took (Tick t) m) = refl
one_held s u encoding o (did (ToServer k body) m) = go (nat_eq k s)
  where
    go : (b : Bool) → version_in (if b then told encoding u o (saying_of m) else o) ≡ cond b (version_told u (version_in o) (saying_of m)) (version_in o)
    go true = told_version encoding u o (saying_of m)
    go false = refl
one_held s u encoding o (did (ToEditor e body) m) = refl
one_held s u encoding o (did (Spawn k g) m) = refl
one_held s u encoding o (did (CloseEditor e) m) = refl
one_held s u encoding o (did (EndServer k) m) = either (nat_eq k s) (version_in o)

all_held : (s : ℕ) (u : List ℕ) (x : Sent) (events : List Event) → version_in (fold (sent_behind s u) x events).held ≡ fold (version_behind u) (version_in x.held) (filter (is_of_server s) events)
all_held s u x [] = refl
all_held s u x (event ∷ events) = all_held s u (sent_behind s u x event) events
    ∙ ap (λ w. fold (version_behind u) w (filter (is_of_server s) events)) (one_held s u x.encoding x.held event)
    ∙ sym (word_first (version_behind u) (version_in x.held) (is_of_server s) event events)

pub held_by_part : (s : ℕ) (events : List Event) (u : List ℕ) → versions_at s events u ≡ fold step none_held (server_part s events) u
held_by_part s events u = all_held s u (record { encoding = None; held = None }) events ∙ sym (word_at none_held (server_part s events) u)

-- Each step

pub free : (part : List Event) (event : Event) → is_to_server event ≡ false → ServerRule4 part event
free part (took cause m) h = tt
free part (did (ToServer s body) m) h = absurd (cc)
free part (did (ToEditor e body) m) h = tt
free part (did (Spawn s g) m) h = tt
free part (did (CloseEditor e) m) h = tt
free part (did (EndServer s) m) h = tt

-- what it may be told by the versions that it has, it may be told by its part
pub by_part : (s : ℕ) (events : List Event) (x : Saying) → AllowsSaying (versions_at s events) x → AllowsSaying (λ u. version_of u (server_part s events)) x
by_part s events x h = allows_same (fold step none_held (server_part s events)) (λ u. version_of u (server_part s events)) (λ u. word_at none_held (server_part s events) u) x
    (allows_same (versions_at s events) (fold step none_held (server_part s events)) (held_by_part s events) x h)
