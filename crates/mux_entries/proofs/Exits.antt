-- X1 to X3: the two causes by which the program of a start ends.
use Rattle.std.proofs.Common.{◌≡◌, ℕ, true, ap, sym, subst, ◌∙◌, ◌⊎◌, inl, inr}
use Rattle.mux_history.specs.declared.cause.Cause.{Cause}
use Rattle.mux_history.specs.declared.cause.Cause.TheVariants.{ServerGone, StartFailed}
use Rattle.mux_entries.proofs.Carried.{IsAside}
use Rattle.mux_starts.specs.group_facts.specs.Facts.{is_exit}
use Rattle.mux_turns.specs.mux_facts.proofs.Words.{same_number}

pub exit_of : (cause : Cause) (s : ℕ) → (cause ≡ StartFailed s) ⊎ (cause ≡ ServerGone s) → is_exit cause s ≡ true
exit_of cause s (inl failed) = ap (λ k. is_exit k s) failed ∙ same_number s
exit_of cause s (inr gone) = ap (λ k. is_exit k s) gone ∙ same_number s

-- it is no body
pub exit_aside : (cause : Cause) (s : ℕ) → (cause ≡ StartFailed s) ⊎ (cause ≡ ServerGone s) → IsAside cause
exit_aside cause s (inl failed) = subst IsAside (sym failed) tt
exit_aside cause s (inr gone) = subst IsAside (sym gone) tt
