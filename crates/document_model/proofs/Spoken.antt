-- Every body that a start is sent of a document speaks of it.
use Rattle.std.proofs.Common.{◌≡◌, ℕ, ◌+◌, ◌^◌, ◌<◌, Bool, true, false, ◌&&◌, List, [], ◌∷◌, decimal, refl, ◌∙◌, ap, arith, codes, bytes_eq, if◌then◌else◌, Option, Some, None, IsUtf8}
use Rattle.std.specs.Prelude.{nat_lt}
use Rattle.std.specs.List.{AllByRecursion}
use Rattle.std.proofs.lemmas.Bool.{ltb-true}
use Rattle.json_text.specs.Json.{Json}
use Rattle.document_model.specs.Opens.{Open}
use Rattle.document_model.specs.Bodies.{open_text, full_text, close_text}
use Rattle.rpc_message.specs.Message.{message_of}
use Rattle.document_model.specs.Orderly.{IsSpelt}
use Rattle.document_model.specs.Helds.{HeldText}
use Rattle.document_model.specs.Rows.{agrees, switched, differing, sent_open, versioned, sent_change, sent_close}
use Rattle.document_model.specs.Sayings.{Saying, opens, changes, closes, saying_of, speaks}
use Rattle.document_model.proofs.ScalarTrees.{either_way}
use Rattle.document_model.proofs.Versioned.{versioned_says}
use Rattle.document_model.proofs.Written.{FullSays, open_says, close_says, full_says}

-- a body speaks of a document
abbrev pub Speaks : List ℕ → Type 0
Speaks body = speaks (saying_of (message_of body)) ≡ true

abbrev pub AllSpeak : List (List ℕ) → Type 0
AllSpeak bodies = AllByRecursion Speaks bodies

speaks_by : (b : List ℕ) (s : Saying) → saying_of (message_of b) ≡ s → speaks s ≡ true → Speaks b
speaks_by b s e h = ap speaks e ∙ h

-- a version below the limit has a next one that can be written
next_small : (versions n : ℕ) → versions < 2 ^ 32 → nat_lt n versions ≡ true → n + 1 < 10 ^ 64
next_small versions n h e = let k : n < versions = ltb-true n versions e in omega arith

-- the written bodies

open_speaks : (o : Open) → IsSpelt o → Speaks (open_text o.uri o.language o.text)
open_speaks o s = speaks_by (open_text o.uri o.language o.text) (opens o.uri o.language (codes "1") o.text) (open_says o.uri o.language o.text s.0 s.1 s.2) refl

full_speaks : (o : Open) (v : ℕ) → v < 10 ^ 64 → IsSpelt o → Speaks (full_text o.uri v o.text)
full_speaks o v k s =
    let f : FullSays o.uri v o.text = full_says o.uri o.text v s.0 s.2 k in
    speaks_by (full_text o.uri v o.text) (changes o.uri (decimal v) f.list) f.says refl

close_speaks : (u : List ℕ) → IsUtf8 u → Speaks (close_text u)
close_speaks u s = speaks_by (close_text u) (closes u) (close_says u s) refl

-- the whole text of an editor

switched_speak : (versions : ℕ) (o : Open) (h : HeldText) → versions < 2 ^ 32 → IsSpelt o → AllSpeak (switched versions o h)
switched_speak versions o h k s = go (bytes_eq h.language o.language) (nat_lt h.version versions) refl
  where
    go : (a b : Bool) → nat_lt h.version versions ≡ b → AllSpeak (if a && b then full_text o.uri (h.version + 1) o.text ∷ [] else close_text o.uri ∷ open_text o.uri o.language o.text ∷ [])
    go true true e = (full_speaks o (h.version + 1) (next_small versions h.version k e) s, tt)
    go true false e = (close_speaks o.uri s.0, (open_speaks o s, tt))
    go false b e = (close_speaks o.uri s.0, (open_speaks o s, tt))

differing_speak : (versions : ℕ) (o : Open) (h : HeldText) → versions < 2 ^ 32 → IsSpelt o → AllSpeak (differing versions o h)
differing_speak versions o h k s = either_way AllSpeak (agrees o h) [] (switched versions o h) tt (switched_speak versions o h k s)

-- where an editor opens a document

pub sent_open_speaks : (versions : ℕ) (o : Open) (h : Option HeldText) → versions < 2 ^ 32 → IsSpelt o → AllSpeak (sent_open versions o h)
sent_open_speaks versions o None k s = (open_speaks o s, tt)
sent_open_speaks versions o (Some h) k s = differing_speak versions o h k s

-- where an editor changes a document

-- the test of a version, and another one beside it
next_small_and : (versions n : ℕ) (c : Bool) → versions < 2 ^ 32 → (nat_lt n versions && c) ≡ true → n + 1 < 10 ^ 64
next_small_and versions n c h e = go (nat_lt n versions) refl e
  where
    go : (b : Bool) → nat_lt n versions ≡ b → (b && c) ≡ true → n + 1 < 10 ^ 64
    go true f g = next_small versions n h f
    go false f g = cc

pub sent_change_speaks : (versions : ℕ) (body u v : List ℕ) (cs : Json) (old new : Open) (h : Option HeldText) → versions < 2 ^ 32 → IsSpelt new → saying_of (message_of body) ≡ changes u v cs
    → AllSpeak (sent_change versions body old new h)
sent_change_speaks versions body u v cs old new None k s e = tt
sent_change_speaks versions body u v cs old new (Some h) k s e =
    either_way AllSpeak (agrees new h) [] (if nat_lt h.version versions && agrees old h then versioned (h.version + 1) body ∷ [] else switched versions new h) tt
    (go (nat_lt h.version versions && agrees old h) refl)
  where
    go : (b : Bool) → (nat_lt h.version versions && agrees old h) ≡ b → AllSpeak (if b then versioned (h.version + 1) body ∷ [] else switched versions new h)
    go true f = (
      speaks_by (versioned (h.version + 1) body) (changes u (decimal (h.version + 1)) cs)
          (versioned_says body (h.version + 1) u v cs (next_small_and versions h.version (agrees old h) k f) e) refl,
      tt,
    )
    go false f = switched_speak versions new h k s

-- where an editor closes a document

pub sent_close_speaks : (versions : ℕ) (u : List ℕ) (rest : Option Open) (h : Option HeldText) → versions < 2 ^ 32 → IsUtf8 u → ((o : Open) → rest ≡ Some o → IsSpelt o) → AllSpeak (sent_close versions u rest h)
sent_close_speaks versions u rest None k s r = tt
sent_close_speaks versions u None (Some h) k s r = (close_speaks u s, tt)
sent_close_speaks versions u (Some o) (Some h) k s r = differing_speak versions o h k (r o refl)
