-- A notification that goes to each editor, tells of progress, or publishes a list cancels nothing.
use Rattle.std.proofs.Common.{◌≡◌, ℕ, Bool, true, false, List, bytes_eq, codes, refl, sym, ◌∙◌, ap}
use Rattle.std.proofs.lemmas.Slice.Eq.{bytes_eq-Decides}
use Rattle.lsp_method.specs.Class.{class_of, server_notification}
use Rattle.lsp_method.specs.declared.variants.Class.TheVariants.{Broadcast, Cancel, Diagnostics, Progress}
use Rattle.lsp_method.specs.declared.variants.Origin.TheVariants.{Server}

pub not_cancel : (method : List ℕ) → class_of method Server true ≡ Broadcast → bytes_eq method (codes "$/cancelRequest") ≡ false
unfolding server_notification
not_cancel method class = go (bytes_eq method (codes "$/cancelRequest")) refl
  where
    go : (b : Bool) → bytes_eq method (codes "$/cancelRequest") ≡ b → b ≡ false
    go true same = absurd (let clash : Cancel ≡ Broadcast = sym (ap (λ z. class_of z Server true) ((bytes_eq-Decides method (codes "$/cancelRequest")).0 same)) ∙ class in cc)
    go false other = refl

pub progress_no_cancel : (method : List ℕ) → class_of method Server true ≡ Progress → bytes_eq method (codes "$/cancelRequest") ≡ false
unfolding server_notification
progress_no_cancel method class = go (bytes_eq method (codes "$/cancelRequest")) refl
  where
    go : (b : Bool) → bytes_eq method (codes "$/cancelRequest") ≡ b → b ≡ false
    go true same = absurd (let clash : Cancel ≡ Progress = sym (ap (λ z. class_of z Server true) ((bytes_eq-Decides method (codes "$/cancelRequest")).0 same)) ∙ class in cc)
    go false other = refl

pub list_no_cancel : (method : List ℕ) → class_of method Server true ≡ Diagnostics → bytes_eq method (codes "$/cancelRequest") ≡ false
unfolding server_notification
list_no_cancel method class = go (bytes_eq method (codes "$/cancelRequest")) refl
  where
    go : (b : Bool) → bytes_eq method (codes "$/cancelRequest") ≡ b → b ≡ false
    go true same = absurd (let clash : Cancel ≡ Diagnostics = sym (ap (λ z. class_of z Server true) ((bytes_eq-Decides method (codes "$/cancelRequest")).0 same)) ∙ class in cc)
    go false other = refl
