-- One change after the other.
use Rattle.std.proofs.Common.{◌≡◌, ℕ, suc, ◌+◌, ◌<◌, ◌≤◌, List, [], ◌∷◌, length, get_or, drop, sym, ◌∙◌, ap, subst, arith, drop-cons, add-one}
use Rattle.json_text.specs.declared.change.Change.{Change}
use Rattle.json_text.specs.Changes.{edits_of}
use Rattle.json_text.specs.Replace.{Edit, RiseFrom}

-- the change at i, and those behind it
left : (cs : List Change) (i : ℕ) (c : Change) → i < length cs → c ≡ get_or cs i c → edits_of (drop i cs) ≡ record { span = c.span; text = c.text } ∷ edits_of (drop (i + 1) cs)
left cs i c h e = ap edits_of (drop-cons cs i c h) ∙ ap (λ (d : Change). record { span = d.span; text = d.text } ∷ edits_of (drop (suc i) cs)) (sym e)
    ∙ ap (λ k. record { span = c.span; text = c.text } ∷ edits_of (drop k cs)) (sym (add-one i))

rise_ends : (at n : ℕ) (es : List Edit) → RiseFrom at n es → at ≤ n
rise_ends at n [] h = h
rise_ends at n (e ∷ es) h = omega (arith, rise_ends e.span.to n es h.2, h.0, h.1)

-- the next place lies in what is left
pub record Next (at n i : ℕ) (cs : List Change) (c : Change) : Type 0 where
  pub begins : at ≤ c.span.from
  pub ends : c.span.from ≤ c.span.to
  pub fits : c.span.to ≤ n
  pub rise : RiseFrom c.span.to n (edits_of (drop (i + 1) cs))

pub next : (at n i : ℕ) (cs : List Change) (c : Change) → i < length cs → c ≡ get_or cs i c → RiseFrom at n (edits_of (drop i cs)) → Next at n i cs c
next at n i cs c h e rise =
    let r : RiseFrom at n (record { span = c.span; text = c.text } ∷ edits_of (drop (i + 1) cs)) = subst (λ z. RiseFrom at n z) (left cs i c h e) rise in
    record { begins = r.0; ends = r.1; fits = rise_ends c.span.to n (edits_of (drop (i + 1) cs)) r.2; rise = r.2 }
