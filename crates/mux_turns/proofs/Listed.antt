-- S15, E12 and L2: what editors are shown of lists of diagnostics are notifications, and lists of the same documents.
use Rattle.std.proofs.Common.{◌≡◌, ℕ, Bool, true, false, List, [], ◌∷◌, map, nat_eq, if◌then◌else◌, refl, ap, ◌∙◌}
use Rattle.std.specs.Prelude.{Option, None, Some}
use Rattle.json_text.specs.Json.{Json}
use Rattle.mux_history.specs.declared.cause.Cause.TheVariants.{FromEditor, FromServer}
use Rattle.mux_history.specs.declared.out.Out.{Out}
use Rattle.mux_history.specs.declared.out.Out.TheVariants.{ToEditor, ToServer}
use Rattle.rpc_message.specs.Message.{message_of, notification}
use Rattle.event_model.specs.Event.{Event, behind, did, said, took}
use Rattle.event_model.specs.Phases.{Desk, desk_behind, desk_of, phase_told}
use Rattle.event_model.specs.Settings.{Settings}
use Rattle.event_model.proofs.Frames.{one_more}
use Rattle.group_facts.specs.group_rows.proofs.ListTexts.{Listed, shown_list, shown_says}
use Rattle.group_facts.specs.group_rows.proofs.Versions as versions
use Rattle.group_facts.specs.group_rows.proofs.Versions.{AllMeant, version_number}
use Rattle.group_facts.specs.group_rows.specs.Asks.{asking_next, asking_of}
use Rattle.group_facts.specs.group_rows.specs.diagnostics_route.specs.declared.last_list.LastList.{LastList}
use Rattle.group_facts.specs.group_rows.specs.diagnostics_route.specs.Published.{published}
use Rattle.group_facts.specs.group_rows.specs.diagnostics_route.specs.Shown.{shown_text}
use Rattle.group_facts.specs.group_rows.specs.Lists.{is_publishing, version_at}
use Rattle.group_facts.specs.Facts.{IsMeant, Meant}
use Rattle.group_facts.specs.mux_facts.proofs.Lists.{all_join}
use Rattle.group_words.proofs.Frames.{home_more}
use Rattle.mux_tables.specs.Stands.{IsListOf}
use Rattle.mux_tables.proofs.Asking.{asking_more}
use Rattle.mux_turns.proofs.Called.{Quiet}
use Rattle.mux_turns.proofs.Keeping.{notice_told}

pub meant_same : (events : List Event) → Meant events → AllMeant events
meant_same [] h = tt
meant_same (event ∷ events) h = (one event h.0, meant_same events h.1)
  where
    one : (event : Event) → IsMeant event → versions.IsMeant event
    one (took (FromEditor e body) m) k = k
    one (took (FromServer s body) m) k = k
    one (did (ToServer s body) m) k = k
    one other k = tt

said_meant : (xs : List Out) → Meant (map said xs)
said_meant [] = tt
said_meant (x ∷ xs) = (one x, said_meant xs)
  where
    one : (x : Out) → IsMeant (said x)
    one (ToServer s body) = refl
    one other = tt

pub meant_behind : (base : List Event) (xs : List Out) → Meant base → Meant (behind base xs)
meant_behind base xs meant = all_join IsMeant base (map said xs) meant (said_meant xs)

-- a text that is a notification of a method
abbrev pub Notes : List ℕ → List ℕ → Type 0
Notes method text = (params : Option Json) × (message_of text ≡ notification method params)

-- with an editor's own version of a document
pub own_notes : (settings : Settings) (s e : ℕ) (events : List Event) (u body method : List ℕ) (params : Option Json) → Meant events → message_of body ≡ notification method params → Notes method (shown_text (version_at settings s e events u) body)
own_notes settings s e events u body method params meant says = shown_says (version_at settings s e events u) body method params (λ v is. version_number settings s e events u v (meant_same events meant) is) says

-- and without one
pub plain_notes : (body method : List ℕ) (params : Option Json) → message_of body ≡ notification method params → Notes method (shown_text None body)
plain_notes body method params says = shown_says None body method params (λ v is. absurd (cc)) says

-- a notification that publishes and is a list
list_from : (method : List ℕ) (l : LastList) (text : List ℕ) → is_publishing method ≡ true → Notes method text → Listed l.uri l.empty text → IsListOf l.uri l.empty text
list_from method l text publishes note x = record { method = method; params = note.0; list = x.list; says = note.1; publishes = publishes; given = x.is; document = x.document; none = x.none }

-- what is shown of a list is one of the same document, and as empty: with an editor's own version of a document
pub own_listed : (settings : Settings) (s e : ℕ) (events : List Event) (u body method : List ℕ) (params : Option Json) (place : ℕ) (l : LastList) → Meant events → message_of body ≡ notification method params → is_publishing method ≡ true → published place body ≡ Some l
    → IsListOf l.uri l.empty (shown_text (version_at settings s e events u) body)
own_listed settings s e events u body method params place l meant says publishes one =
    list_from method l (shown_text (version_at settings s e events u) body) publishes (own_notes settings s e events u body method params meant says)
    (shown_list (version_at settings s e events u) body method params place l (λ v is. version_number settings s e events u v (meant_same events meant) is) says one)

-- and without one
pub plain_listed : (body method : List ℕ) (params : Option Json) (place : ℕ) (l : LastList) → message_of body ≡ notification method params → is_publishing method ≡ true → published place body ≡ Some l → IsListOf l.uri l.empty (shown_text None body)
plain_listed body method params place l says publishes one = list_from method l (shown_text None body) publishes (plain_notes body method params says) (shown_list None body method params place l (λ v is. absurd (cc)) says one)

-- a notification to an editor leaves each editor where it stood, and what starts ask as it was
pub noted_quiet : (settings : Settings) (e : ℕ) (text : List ℕ) (events : List Event) (method : List ℕ) → Notes method text → Quiet settings events (behind events (ToEditor e text ∷ []))
noted_quiet settings e text events method note = record {
  phases = λ n. ap (λ (d : Desk). d.phase) (one_more (desk_behind n) _ _ events (said (ToEditor e text)) refl) ∙ desk_at n (nat_eq e n);
  homes = λ n. home_more settings n events (said (ToEditor e text));
  asking = λ s none. asking_more settings s events (said (ToEditor e text)) ∙ ap (λ m. asking_next settings s events (asking_of settings s events) (did (ToEditor e text) m)) note.1;
}
  where
    desk_at : (n : ℕ) (b : Bool) → (if b then record { phase = phase_told (desk_of n events).phase (desk_of n events).initialize (message_of text); initialize = (desk_of n events).initialize } else desk_of n events).phase ≡ (desk_of n events).phase
    desk_at n true = ap (phase_told (desk_of n events).phase (desk_of n events).initialize) note.1 ∙ notice_told (desk_of n events).phase (desk_of n events).initialize method note.0
    desk_at n false = refl
