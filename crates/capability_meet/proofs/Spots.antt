-- The places with rules of their own, by the tests of names.
use Rattle.std.proofs.Common.{◌≡◌, ℕ, Bool, true, false, ◌||◌, List, codes, IsTrue, ◌↔◌, refl, sym, ◌∙◌, ap}
use Rattle.std.specs.Prelude.{bytes_eq, chars, if◌then◌else◌}
use Rattle.json_nodes.proofs.Spelling.{named_so}
use Rattle.capability_meet.specs.declared.spot.Spot.{Spot}
use Rattle.capability_meet.specs.declared.spot.Spot.TheVariants as spot
use Rattle.capability_meet.specs.OnePass.{is_left_out, spot_of}
use Rattle.capability_meet.proofs.Letters.{ascii_chars}

-- the test of a name in ASCII
pub tests : (name cs : List ℕ) (b : Bool) → chars name ≡ name → IsTrue b ↔ (cs ≡ chars name) → b ≡ bytes_eq name cs
tests name cs b e h = named_so b cs (chars name) h ∙ ap (λ z. bytes_eq z cs) e

pub window_letters : chars (codes "window") ≡ codes "window"
window_letters = ascii_chars (codes "window") refl

pub general_letters : chars (codes "general") ≡ codes "general"
general_letters = ascii_chars (codes "general") refl

pub show_letters : chars (codes "showDocument") ≡ codes "showDocument"
show_letters = ascii_chars (codes "showDocument") refl

pub stale_letters : chars (codes "staleRequestSupport") ≡ codes "staleRequestSupport"
stale_letters = ascii_chars (codes "staleRequestSupport") refl

pub document_letters : chars (codes "notebookDocument") ≡ codes "notebookDocument"
document_letters = ascii_chars (codes "notebookDocument") refl

pub offset_letters : chars (codes "offsetEncoding") ≡ codes "offsetEncoding"
offset_letters = ascii_chars (codes "offsetEncoding") refl

pub support_letters : chars (codes "support") ≡ codes "support"
support_letters = ascii_chars (codes "support") refl

pub cancel_letters : chars (codes "cancel") ≡ codes "cancel"
cancel_letters = ascii_chars (codes "cancel") refl

pub chosen : {A : Type 0} (x y : A) (b c : Bool) → b ≡ c → b ≡ true → x ≡ (if c then x else y)
chosen x y b c e h = ap (λ z. if z then x else y) (sym h ∙ e)

pub other : {A : Type 0} (x y : A) (b c : Bool) → b ≡ c → b ≡ false → y ≡ (if c then x else y)
other x y b c e h = ap (λ z. if z then x else y) (sym h ∙ e)

pub left_first : (s : Spot) (cs : List ℕ) (b : Bool) → s ≡ spot.Top → b ≡ bytes_eq (codes "notebookDocument") cs → b ≡ true → b ≡ is_left_out s cs
left_first s cs b e f h = h ∙ sym (ap (λ z. is_left_out z cs) e ∙ ap (λ z. z || bytes_eq (codes "offsetEncoding") cs) (sym f ∙ h))

pub left_second : (s : Spot) (cs : List ℕ) (b c : Bool) → s ≡ spot.Top → b ≡ bytes_eq (codes "notebookDocument") cs → b ≡ false → c ≡ bytes_eq (codes "offsetEncoding") cs → c ≡ is_left_out s cs
left_second s cs b c e f h g = g ∙ sym (ap (λ z. is_left_out z cs) e ∙ ap (λ z. z || bytes_eq (codes "offsetEncoding") cs) (sym f ∙ h))

pub spot_is : (s t r : Spot) (cs : List ℕ) → s ≡ t → r ≡ spot_of t cs → r ≡ spot_of s cs
spot_is s t r cs e h = h ∙ sym (ap (λ z. spot_of z cs) e)
