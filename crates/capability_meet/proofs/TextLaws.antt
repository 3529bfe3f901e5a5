-- The laws of the texts that meet and declared answer.
use Rattle.std.proofs.Common.{◌≡◌, ℕ, true, List}
use Rattle.std.specs.Prelude.{Some}
use Rattle.json_text.specs.Json.{Json}
use Rattle.json_text.specs.Tree.{tree_of}
use Rattle.capability_meet.specs.Bounds.{HasRequired, IsGreatest, IsGreatestDeclared}
use Rattle.capability_meet.specs.DeclaredTree.{declared_of, declared_tree}
use Rattle.capability_meet.specs.Meet.{meets}
use Rattle.capability_meet.specs.MeetTree.{SaysTree, meet_of, meet_tree}
use Rattle.capability_meet.proofs.Declares.{declared_greatest, declared_required, met_greatest}
use Rattle.capability_meet.proofs.MeetSays.{declared_text_says, meet_text_says}

pub meet_text_greatest : (a b : List ℕ) (j k : Json) → tree_of a ≡ Some j → tree_of b ≡ Some k → meets j k ≡ true → (text : List ℕ) × (m : Json) × (meet_of a b ≡ Some text) × (tree_of text ≡ Some m) × IsGreatest j k m
meet_text_greatest a b j k h g e =
    let t : (text : List ℕ) × (meet_of a b ≡ Some text) × SaysTree text (meet_tree j k) = meet_text_says a b j k h g e in
    (t.0, t.2.0, t.1, t.2.1, met_greatest j k t.2.0 e t.2.2)

pub declared_text_greatest : (a b : List ℕ) (j k : Json) → tree_of a ≡ Some j → tree_of b ≡ Some k → meets j k ≡ true → (text : List ℕ) × (m : Json) × (declared_of a b ≡ Some text) × (tree_of text ≡ Some m) × IsGreatestDeclared j k m × HasRequired m
declared_text_greatest a b j k h g e =
    let t : (text : List ℕ) × (declared_of a b ≡ Some text) × SaysTree text (declared_tree j k) = declared_text_says a b j k h g e in
    (t.0, t.2.0, t.1, t.2.1, declared_greatest j k t.2.0 e t.2.2, declared_required j k t.2.0 t.2.2)
