-- The holder of a document, and a document behind a change.
use Rattle.std.proofs.Common.{◌≡◌, ℕ, Bool, true, false, not, ◌&&◌, List, [], ◌∷◌, fold, nat_eq, nat_lt, bytes_eq, if◌then◌else◌, Option, Some, None, refl, sym, ◌∙◌, ap, subst}
use Rattle.std.specs.Option.{option_and_then, option_map}
use Rattle.std.proofs.lemmas.Bool.{and_parts}
use Rattle.std.proofs.lemmas.Slice.Eq.{bytes_eq-Decides}
use Rattle.json_text.specs.Json.{Json}
use Rattle.position_codec.specs.declared.Encoding.{Encoding}
use Rattle.mux_model.specs.doc_text.specs.Changes.{text_behind}
use Rattle.mux_model.specs.document_model.specs.Opens.{Open, later, latest, holder_beside}
use Rattle.mux_model.specs.document_model.specs.Orderly.{IsSpelt}
use Rattle.mux_model.specs.document_model.specs.Sayings.{changes, saying_of}
use Rattle.mux_model.specs.document_model.specs.Texts.{Texts, found, text_after, changed}
use Rattle.mux_model.specs.document_model.proofs.Spelt.{changes_spelt, changed_spelt}
use Rattle.rpc_message.specs.Message.{message_of}
use Rattle.event_model.specs.declared.stage.Stage.{Stage}
use Rattle.event_model.specs.declared.stage.Stage.TheVariants.{Unspawned, Spawning, Initializing, Ready, Stopping, Ending, Ended}
use Rattle.event_model.specs.Stages.{is_ready}

pub ready_is : (stage : Stage) → is_ready stage ≡ true → stage ≡ Ready
ready_is Ready h = refl
ready_is Unspawned h = absurd (cc)
ready_is Spawning h = absurd (cc)
ready_is Initializing h = absurd (cc)
ready_is Stopping h = absurd (cc)
ready_is Ending h = absurd (cc)
ready_is Ended h = absurd (cc)

-- the one that was touched last passes the test
abbrev Passes : (Open → Bool) → Option Open → Type 0
Passes test None = Unit {0}
Passes test (Some o) = test o ≡ true

later_passes : (test : Open → Bool) (o : Open) (best : Option Open) → test o ≡ true → Passes test best → Passes test (later o best)
later_passes test o None h k = h
later_passes test o (Some b) h k = go (nat_lt o.touched b.touched)
  where
    go : (c : Bool) → Passes test (if c then Some b else Some o)
    go true = k
    go false = h

latest_from : (test : Open → Bool) (os : List Open) (best : Option Open) → Passes test best → Passes test (fold (λ best o. if test o then later o best else best) best os)
latest_from test [] best h = h
latest_from test (o ∷ os) best h = latest_from test os (if test o then later o best else best) (go (test o) refl)
  where
    go : (c : Bool) → test o ≡ c → Passes test (if c then later o best else best)
    go true e = later_passes test o best e h
    go false e = h

pub latest_passes : (test : Open → Bool) (os : List Open) (o : Open) → latest test os ≡ Some o → test o ≡ true
latest_passes test os o e = subst (Passes test) e (latest_from test os None tt)

-- the next holder of a document has that document
pub beside_is : (e : ℕ) (u : List ℕ) (os : List Open) (o : Open) → holder_beside e u os ≡ Some o → u ≡ o.uri
beside_is e u os o h = sym ((bytes_eq-Decides o.uri u).0
    (and_parts (bytes_eq o.uri u) (not (nat_eq o.editor e)) (latest_passes (λ o. bytes_eq o.uri u && not (nat_eq o.editor e)) os o h)).0)

-- a document behind a change is that document, in UTF-8
pub record IsBehind (u : List ℕ) (new : Open) : Type 0 where
  pub spelt : IsSpelt new
  pub same : u ≡ new.uri

module _ (e : ℕ) (body u v : List ℕ) (cs : Json) (x : Texts) (says : saying_of (message_of body) ≡ changes u v cs) where
  make : Open → List ℕ → Open
  make o t = record { editor = e; uri = u; language = o.language; version = v; text = t; touched = x.turn }

  made : (code : Encoding) (o new : Open) → IsSpelt o → (t : Option (List ℕ)) → text_behind code cs o.text ≡ t → option_map (make o) t ≡ Some new → IsBehind u new
  unfolding make
  made code o new k None at h = absurd (cc)
  made code o new k (Some t) at h =
      let same : make o t ≡ new = cc in
      subst (IsBehind u) same (record { spelt = (changes_spelt body u v cs says, k.1, changed_spelt body u v cs code o.text t says k.2 at); same = refl })

  after_change : (encoding : Option Encoding) (o new : Open) → IsSpelt o → option_map (make o) (text_after encoding cs o.text) ≡ Some new → IsBehind u new
  after_change None o new k h = absurd (cc)
  after_change (Some code) o new k h = made code o new k (text_behind code cs o.text) refl h

  pub behind_change : (encoding : Option Encoding) (old new : Open) → IsSpelt old → found e u x ≡ Some old → changed encoding e u v cs x ≡ Some new → IsBehind u new
  unfolding make
  behind_change encoding old new k at h = after_change encoding old new k
      (sym (ap (λ z. option_and_then (λ (o : Open). option_map (λ t. record { editor = e; uri = u; language = o.language; version = v; text = t; touched = x.turn }) (text_after encoding cs o.text)) z) at) ∙ h)
