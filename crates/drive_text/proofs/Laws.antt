-- Each cause and each out is written in one way alone.
use Rattle.std.proofs.Common.{◌≡◌, ℕ, ◌≤◌, Bool, true, false, cond, nat_eq, nat_lt, List, [], ◌∷◌, ◌++◌, refl, sym, ap, subst, ◌∙◌, append_assoc}
use Rattle.std.specs.Prelude.{Some, None}
use Rattle.std.proofs.lemmas.Bool.{ltb-false, le-ltb}
use Rattle.mux_history.specs.Cores.{body_length}
use Rattle.mux_history.specs.declared.cause.Cause.{Cause}
use Rattle.mux_history.specs.declared.out.Out.{Out}
use Rattle.drive_text.specs.Causes.{cause_of}
use Rattle.drive_text.specs.Forms.{within, cause_within}
use Rattle.drive_text.specs.Laws.{Writes, FormsAreLines, FormsAreOuts, OneCause, SameOuts}
use Rattle.drive_text.specs.Options.{then_option}
use Rattle.drive_text.specs.OutForms.{out_of}
use Rattle.drive_text.specs.Outs.{spelled_out, out_lines, HasSmallOutNumbers}
use Rattle.drive_text.specs.Spellings.{spelled, HasSmallNumbers}
use Rattle.drive_text.proofs.Options.{then_some, none_some}
use Rattle.drive_text.proofs.LineFeeds.{out_lacks}
use Rattle.drive_text.proofs.OutSpellings.{out_read, out_spelled}
use Rattle.drive_text.proofs.Spellings.{cause_read, cause_spelled}
use Rattle.drive_text.proofs.Texts.{Lacks}

-- causes

one_some : {A : Type 0} (a b : A) → Some a ≡ Some b → a ≡ b
one_some a b h = cc

pub one_cause : OneCause
one_cause a b s t e = one_some a b (sym (cause_read a s) ∙ (ap cause_of e ∙ cause_read b t))

within_some : (content : ℕ) (a cause : Cause) → within content a ≡ Some cause → (a ≡ cause) × (body_length a ≤ content)
within_some content a cause h = choice (nat_lt content (body_length a)) refl h
  where
    choice : (t : Bool) → nat_lt content (body_length a) ≡ t → cond t None (Some a) ≡ Some cause → (a ≡ cause) × (body_length a ≤ content)
    choice true e h = absurd (none_some cause h)
    choice false e h = (one_some a cause h, ltb-false content (body_length a) e)

within_limit : (content : ℕ) (a : Cause) → body_length a ≤ content → within content a ≡ Some a
within_limit content a h = let e : nat_lt content (body_length a) ≡ false = le-ltb content (body_length a) h in rw e refl

pub forms_are_lines : FormsAreLines
forms_are_lines content line cause = (to, from)
  where
    to : cause_within content line ≡ Some cause → Writes content line cause
    to h =
        let t = then_some (within content) (cause_of line) cause h in
        let w = within_some content t.0 cause t.2 in
        let s = cause_spelled line t.0 t.1 in
        (s.bytes ∙ ap spelled w.0, subst HasSmallNumbers w.0 s.small, subst (λ c. body_length c ≤ content) w.0 w.1)

    from : Writes content line cause → cause_within content line ≡ Some cause
    from w = ap (λ l. then_option (cause_of l) (within content)) w.0 ∙ (ap (λ o. then_option o (within content)) (cause_read cause w.1) ∙ within_limit content cause w.2)

-- outs

pub forms_are_outs : FormsAreOuts
forms_are_outs line out = (to, from)
  where
    to : out_of line ≡ Some out → (line ≡ spelled_out out) × HasSmallOutNumbers out
    to h = let s = out_spelled line out h in (s.bytes, s.small)

    from : (line ≡ spelled_out out) × HasSmallOutNumbers out → out_of line ≡ Some out
    from w = ap out_of w.0 ∙ out_read out w.1

-- the first line feed parts a line from what is behind it
first_line : (a b r s : List ℕ) → Lacks 10 a → Lacks 10 b → a ++ 10 ∷ r ≡ b ++ 10 ∷ s → (a ≡ b) × (r ≡ s)
first_line [] [] r s f g e = (refl, cc)
first_line [] (y ∷ b) r s f g e = let h : 10 ≡ y = cc in absurd (differs y h g.0)
  where
    differs : (y : ℕ) → 10 ≡ y → nat_eq y 10 ≡ false → ⊥
    differs y h g = let t : nat_eq 10 10 ≡ false = subst (λ z. nat_eq z 10 ≡ false) (sym h) g in cc
first_line (x ∷ a) [] r s f g e = let h : 10 ≡ x = cc in absurd (differs x h f.0)
  where
    differs : (y : ℕ) → 10 ≡ y → nat_eq y 10 ≡ false → ⊥
    differs y h g = let t : nat_eq 10 10 ≡ false = subst (λ z. nat_eq z 10 ≡ false) (sym h) g in cc
first_line (x ∷ a) (y ∷ b) r s f g e =
    let h : x ≡ y = cc in
    let t : a ++ 10 ∷ r ≡ b ++ 10 ∷ s = cc in
    let m = first_line a b r s f.1 g.1 t in
    (ap (λ z. z ∷ a) h ∙ ap (λ l. y ∷ l) m.0, m.1)

no_line : (a r : List ℕ) → [] ≡ a ++ 10 ∷ r → ⊥
no_line [] r e = cc
no_line (x ∷ a) r e = cc

same_out : (x y : Out) → HasSmallOutNumbers x → HasSmallOutNumbers y → spelled_out x ≡ spelled_out y → x ≡ y
same_out x y s t e = one_some x y (sym (out_read x s) ∙ (ap out_of e ∙ out_read y t))

pub same_outs : SameOuts
same_outs [] [] s t e = refl
same_outs [] (y ∷ ys) s t e = absurd (no_line (spelled_out y) (out_lines ys) (e ∙ append_assoc (spelled_out y) (10 ∷ []) (out_lines ys)))
same_outs (x ∷ xs) [] s t e = absurd (no_line (spelled_out x) (out_lines xs) (sym e ∙ append_assoc (spelled_out x) (10 ∷ []) (out_lines xs)))
same_outs (x ∷ xs) (y ∷ ys) s t e =
    let parts = first_line (spelled_out x) (spelled_out y) (out_lines xs) (out_lines ys) (out_lacks x s.0) (out_lacks y t.0)
    (sym (append_assoc (spelled_out x) (10 ∷ []) (out_lines xs)) ∙ (e ∙ append_assoc (spelled_out y) (10 ∷ []) (out_lines ys))) in
    ap (λ z. z ∷ xs) (same_out x y s.0 t.0 parts.0) ∙ ap (λ l. y ∷ l) (same_outs xs ys s.1 t.1 parts.1)
