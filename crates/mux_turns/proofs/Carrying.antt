-- What groups carry from one of their starts to the next.
use Rattle.std.proofs.Common.{◌≡◌, ℕ, Bool, true, not, false, List, [], codes, refl, ap, sym, subst, ◌∙◌}
use Rattle.std.specs.Prelude.{Option, Some, None, is_none, is_some}
use Rattle.std.specs.Option.{option_and_then}
use Rattle.std.specs.Str.{chars}
use Rattle.json_text.specs.Json.{Json}
use Rattle.json_text.specs.Named.{named_in}
use Rattle.json_text.specs.Tree.{tree_of}
use Rattle.json_nodes.specs.At.{At, Found}
use Rattle.json_nodes.specs.Doc.{Doc, Holds}
use Rattle.json_nodes.specs.Same.{same}
use Rattle.capability_meet.specs.Answers.{IsRead}
use Rattle.capability_meet.proofs.Letters.{capabilities_letters}
use Rattle.event_model.specs.Members.{named_of}
use Rattle.event_model.specs.Settings.{Settings}
use Rattle.group_facts.specs.group_rows.specs.Earlier.{same_shown}
use Rattle.mux_turns.specs.Carried.{CarriedStand, CarriesView, capabilities_in, carried}
use Rattle.mux_turns.proofs.Folders.{named_so}

-- the capabilities of a text that was read, and of one that is none
pub capabilities_found : (doc : Doc) (bytes : List ℕ) (root : ℕ) (k : Option ℕ) → IsRead doc bytes → ((j : Json) → Holds doc j → At doc root j)
    → ((o : Option Json) → Found doc o (Some root) → Found doc (option_and_then (named_in (chars (codes "capabilities"))) o) k) → Found doc (capabilities_in bytes) k
capabilities_found doc bytes root k read value member =
    subst (λ o. Found doc o k) (named_so (codes "capabilities") (Some read.tree) capabilities_letters ∙ ap (named_of (codes "capabilities")) (sym read.is)) (member (Some read.tree) (value read.tree read.holds))

no_capabilities : (bytes : List ℕ) → tree_of bytes ≡ None → capabilities_in bytes ≡ None
no_capabilities bytes h = ap (named_of (codes "capabilities")) h

pub told_none : (k : Option ℕ) (r : Bool) → is_some k ≡ not r → r ≡ is_none k
told_none None true is = refl
told_none None false is = absurd (cc)
told_none (Some n) true is = absurd (cc)
told_none (Some n) false is = refl

-- whether a text has none
pub unread_lacks : (bytes : List ℕ) → tree_of bytes ≡ None → true ≡ is_none (capabilities_in bytes)
unread_lacks bytes h = sym (ap is_none (no_capabilities bytes h))

pub read_lacks : (doc : Doc) (o : Option Json) (k : Option ℕ) (r : Bool) → Found doc o k → r ≡ is_none k → r ≡ is_none o
read_lacks doc None None r found is = is
read_lacks doc (Some j) (Some k) r found is = is
read_lacks doc None (Some k) r found is = elim found [ ]
read_lacks doc (Some j) None r found is = elim found [ ]

-- one that isn't there is the same as none
lacking_left : (p : Option Json) → is_none p ≡ same_shown None p
lacking_left None = refl
lacking_left (Some j) = refl

lacking_right : (o : Option Json) → is_none o ≡ same_shown o None
lacking_right None = refl
lacking_right (Some j) = refl

pub lacks_left : (a : List ℕ) (p : Option Json) (r : Bool) → tree_of a ≡ None → r ≡ is_none p → r ≡ same_shown (capabilities_in a) p
lacks_left a p r h is = is ∙ (lacking_left p ∙ ap (λ o. same_shown o p) (sym (no_capabilities a h)))

pub lacks_right : (b : List ℕ) (o : Option Json) (r : Bool) → tree_of b ≡ None → r ≡ is_none o → r ≡ same_shown o (capabilities_in b)
lacks_right b o r h is = is ∙ (lacking_right o ∙ ap (same_shown o) (sym (no_capabilities b h)))

pub none_left : (left right : Doc) (o p : Option Json) (k : Option ℕ) (r : Bool) → Found left o None → Found right p k → r ≡ is_none k → r ≡ same_shown o p
none_left left right None p k r none found is = read_lacks right p k r found is ∙ lacking_left p
none_left left right (Some j) p k r none found is = elim none [ ]

pub other_lacks : (right : Doc) (t : Json) (p : Option Json) → Found right p None → false ≡ same_shown (Some t) p
other_lacks right t None none = refl
other_lacks right t (Some j) none = elim none [ ]

pub other_there : (left right : Doc) (t : Json) (p : Option Json) (l k : ℕ) (r : Bool) → At left l t → Found right p (Some k) → ((t u : Json) → At left l t → At right k u → r ≡ same t u) → r ≡ same_shown (Some t) p
other_there left right t (Some u) l k r one other is = is t u one other
other_there left right t None l k r one other is = elim other [ ]

pub there_same : (left : Doc) (o p : Option Json) (l : ℕ) (r : Bool) → Found left o (Some l) → ((t : Json) → At left l t → r ≡ same_shown (Some t) p) → r ≡ same_shown o p
there_same left (Some t) p l r one is = is t one
there_same left None p l r one is = elim one [ ]

-- no group has a start yet
pub none_carried : (settings : Settings) (carries : CarriesView) → carries.shown ≡ [] → carries.configurations ≡ [] → CarriedStand settings carries []
none_carried settings carries shown configurations = record { shown = λ g h. absurd (cc); configuration = λ g h. absurd (cc); bare = λ g h. record { shown = ap (carried g) shown; configuration = ap (carried g) configurations; given = refl; configured = refl } }
