-- What is open at the editors of a group, how positions count there, which requests wait there and which a start has to answer, one event further.
use Rattle.std.proofs.Common.{◌≡◌, ℕ, Bool, true, false, ◌&&◌, List, [], ◌∷◌, ◌++◌, refl, ◌∙◌}
use Rattle.std.specs.Prelude.{Option, None}
use Rattle.mux_history.specs.declared.cause.Cause.TheVariants.{FromEditor, EditorGone, FromServer}
use Rattle.mux_history.specs.declared.out.Out.TheVariants.{ToEditor, ToServer, CloseEditor}
use Rattle.rpc_message.specs.Message.{Message}
use Rattle.position_codec.specs.declared.Encoding.{Encoding}
use Rattle.response_route.specs.document_model.specs.Texts.{Texts, no_texts}
use Rattle.event_model.specs.Event.{Event, took, did}
use Rattle.event_model.specs.Settings.{Settings}
use Rattle.event_model.specs.Spawns.{group_of}
use Rattle.event_model.proofs.Frames.{never}
use Rattle.group_words.specs.Houses.{is_home}
use Rattle.group_words.proofs.Frames.{past_more}
use Rattle.held_requests.specs.declared.request.Request.{Request}
use Rattle.group_rows.specs.Forwarded.{forwarding_next, forwarding_of, no_forwarding}
use Rattle.group_rows.specs.Texts.{encoding_next, encoding_of, is_synced, texts_next, texts_of}
use Rattle.group_rows.specs.Waiting.{waiting_next, waiting_of}

and_left : (a b : Bool) → a ≡ false → (a && b) ≡ false
and_left true b h = never h
and_left false b h = refl

and_right : (a b : Bool) → b ≡ false → (a && b) ≡ false
and_right true b h = h
and_right false b h = refl

-- one event more
pub texts_more : (settings : Settings) (g : ℕ) (events : List Event) (ev : Event) → texts_of settings g (events ++ ev ∷ []) ≡ texts_next settings g events (texts_of settings g events) ev
texts_more settings g events ev = past_more (texts_next settings g) [] no_texts events ev

pub encoding_more : (g : ℕ) (events : List Event) (ev : Event) → encoding_of g (events ++ ev ∷ []) ≡ encoding_next g events (encoding_of g events) ev
encoding_more g events ev = past_more (encoding_next g) [] None events ev

-- the events that what is open speaks of
abbrev pub touches_texts : Event → Bool
touches_texts (took (FromEditor e body) m) = true
touches_texts (took (EditorGone e why) m) = true
touches_texts (did (CloseEditor e) m) = true
touches_texts (did (ToServer s body) m) = is_synced m
touches_texts other = false

texts_quiet : (settings : Settings) (g : ℕ) (before : List Event) (x : Texts) (ev : Event) → touches_texts ev ≡ false → texts_next settings g before x ev ≡ x
texts_quiet settings g before x (took (FromEditor e body) m) h = never h
texts_quiet settings g before x (took (EditorGone e why) m) h = never h
texts_quiet settings g before x (did (CloseEditor e) m) h = never h
texts_quiet settings g before x (did (ToServer s body) m) h = rw (and_right (is_home g (group_of s before)) (is_synced m) h) refl
texts_quiet settings g before x other h = refl

pub texts_stay : (settings : Settings) (g : ℕ) (events : List Event) (ev : Event) → touches_texts ev ≡ false → texts_of settings g (events ++ ev ∷ []) ≡ texts_of settings g events
texts_stay settings g events ev h = texts_more settings g events ev ∙ texts_quiet settings g events (texts_of settings g events) ev h

-- a body to a start of another group
pub texts_apart : (settings : Settings) (g s : ℕ) (body : List ℕ) (m : Message) (events : List Event) → is_home g (group_of s events) ≡ false → texts_of settings g (events ++ did (ToServer s body) m ∷ []) ≡ texts_of settings g events
texts_apart settings g s body m events h = texts_more settings g events (did (ToServer s body) m) ∙ rw (and_left (is_home g (group_of s events)) (is_synced m) h) refl

-- the events that the encoding speaks of
abbrev pub touches_encoding : Event → Bool
touches_encoding (took (FromServer s body) m) = true
touches_encoding other = false

encoding_quiet : (g : ℕ) (before : List Event) (x : Option Encoding) (ev : Event) → touches_encoding ev ≡ false → encoding_next g before x ev ≡ x
encoding_quiet g before x (took (FromServer s body) m) h = never h
encoding_quiet g before x other h = refl

pub encoding_stays : (g : ℕ) (events : List Event) (ev : Event) → touches_encoding ev ≡ false → encoding_of g (events ++ ev ∷ []) ≡ encoding_of g events
encoding_stays g events ev h = encoding_more g events ev ∙ encoding_quiet g events (encoding_of g events) ev h

pub waiting_more : (settings : Settings) (g : ℕ) (events : List Event) (ev : Event) → waiting_of settings g (events ++ ev ∷ []) ≡ waiting_next settings g events (waiting_of settings g events) ev
waiting_more settings g events ev = past_more (waiting_next settings g) [] [] events ev

-- the events that what waits speaks of
abbrev pub touches_waiting : Event → Bool
touches_waiting (took (FromEditor e body) m) = true
touches_waiting (took (EditorGone e why) m) = true
touches_waiting (did (ToEditor e body) m) = true
touches_waiting (did (ToServer s body) m) = true
touches_waiting (did (CloseEditor e) m) = true
touches_waiting other = false

waiting_quiet : (settings : Settings) (g : ℕ) (before : List Event) (rs : List Request) (ev : Event) → touches_waiting ev ≡ false → waiting_next settings g before rs ev ≡ rs
waiting_quiet settings g before rs (took (FromEditor e body) m) h = never h
waiting_quiet settings g before rs (took (EditorGone e why) m) h = never h
waiting_quiet settings g before rs (did (ToEditor e body) m) h = never h
waiting_quiet settings g before rs (did (ToServer s body) m) h = never h
waiting_quiet settings g before rs (did (CloseEditor e) m) h = never h
waiting_quiet settings g before rs other h = refl

pub waiting_stays : (settings : Settings) (g : ℕ) (events : List Event) (ev : Event) → touches_waiting ev ≡ false → waiting_of settings g (events ++ ev ∷ []) ≡ waiting_of settings g events
waiting_stays settings g events ev h = waiting_more settings g events ev ∙ waiting_quiet settings g events (waiting_of settings g events) ev h

pub forwarding_more : (settings : Settings) (s : ℕ) (events : List Event) (ev : Event) → forwarding_of settings s (events ++ ev ∷ []) ≡ forwarding_next settings s events (forwarding_of settings s events) ev
forwarding_more settings s events ev = past_more (forwarding_next settings s) [] no_forwarding events ev
