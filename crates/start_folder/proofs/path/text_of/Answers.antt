use Rattle.std.proofs.Common.{◌≡◌, true, false, nat_eq, sym, refl, ap, ◌∙◌, subst, string_bytes}
use Rattle.std.specs.Prelude.{Some, IsUtf8}
use Rattle.std.specs.List.{list_any}
use Rattle.std.specs.Str.{is_utf8}
use Rattle.std.proofs.lemmas.Bool.{false_from_ne_true, false≢true}
use Rattle.std.proofs.lemmas.Str.{is_utf8-from_IsUtf8, IsUtf8-from_is_utf8, IsUtf8-string_bytes}
use Rattle.start_folder.proofs.path.text_of.Goals as goal

pub returns-in-Ok : goal.returns-in-Ok
returns-in-Ok c =
    let is : string_bytes c.in-Ok.text ≡ c.args.bytes.items = ap (λ v. v.items) c.in-Ok.ensures.ok in
    let none : list_any (λ b. nat_eq b 0) c.args.bytes.items ≡ false = sym (rw c.deref.ensures.value at c.contains.ensures.value) ∙ c.if-contains.false in
    let whole : is_utf8 c.args.bytes.items ≡ true = is_utf8-from_IsUtf8 _ (subst (λ bs. IsUtf8 bs) is (IsUtf8-string_bytes c.in-Ok.text)) in
    rw (none, whole) (ap Some is)

pub returns : goal.returns
returns c =
    let none : list_any (λ b. nat_eq b 0) c.args.bytes.items ≡ false = sym (rw c.deref.ensures.value at c.contains.ensures.value) ∙ c.if-contains.false in
    let broken : is_utf8 c.args.bytes.items ≡ false = false_from_ne_true _ (λ e. false≢true (c.in-Err.ensures.succeeds (IsUtf8-from_is_utf8 _ e))) in
    rw (none, broken) refl
