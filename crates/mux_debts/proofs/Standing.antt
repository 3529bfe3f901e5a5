-- A table of debts, one event further: where an editor leaves, or a start ends.
use Rattle.std.proofs.Common.{◌≡◌, ℕ, ◌+◌, ◌<◌, ◌≤◌, Bool, true, false, ◌||◌, List, [], ◌∷◌, ◌++◌, get_or, length, nat_eq, take, if◌then◌else◌, ◌⊎◌, inl, inr, refl, ap, sym, subst, ◌∙◌}
use Rattle.std.proofs.lemmas.List.{take_all, take_more}
use Rattle.mux_history.specs.declared.cause.Cause.{Cause}
use Rattle.mux_history.specs.declared.cause.Cause.TheVariants.{Drained, EditorGone, FromEditor, FromServer, Joined, ServerGone, StartFailed, Started, Tick}
use Rattle.mux_history.specs.declared.cause.Why.{Why}
use Rattle.mux_history.specs.declared.out.Out.{Out}
use Rattle.mux_history.specs.declared.out.Out.TheVariants.{CloseEditor, EndServer, Spawn, ToEditor, ToServer}
use Rattle.event_model.specs.Event.{Event, behind, heard, said, with_cause}
use Rattle.event_model.specs.Settings.{Settings}
use Rattle.event_model.proofs.Turns.{behind_more}
use Rattle.refresh_debts.specs.declared.debts.Debt.{Debt}
use Rattle.refresh_debts.specs.Tables.{is_at, is_with, of, without}
use Rattle.refresh_debts.proofs.Parts.{left_of, over_of}
use Rattle.group_rows.specs.Debts.{debts_next}
use Rattle.group_rows.proofs.DebtsKept.{debts_more}
use Rattle.mux_debts.specs.Stands.{DebtsStand}

-- a cause that changes nothing that is owed
abbrev pub IsOther : Cause → Type 0
IsOther (Joined e) = Unit {0}
IsOther (Started n) = Unit {0}
IsOther (Drained e k) = Unit {0}
IsOther (Tick t) = Unit {0}
IsOther other = ⊥

-- an out more, and all of them
pub behind_next : (base : List Event) (xs : List Out) (i : ℕ) (d : Out) → i < length xs → behind base (take (i + 1) xs) ≡ behind base (take i xs) ++ said (get_or xs i d) ∷ []
behind_next base xs i d h = ap (behind base) (take_more xs i d h) ∙ behind_more base (take i xs) (get_or xs i d ∷ [])

pub behind_all : (base : List Event) (xs ys : List Out) (i : ℕ) → length xs ≤ i → xs ≡ ys → behind base (take i xs) ≡ behind base ys
behind_all base xs ys i over same = ap (behind base) (take_all i xs over ∙ same)

ends : (b : Bool) (ds : List Debt) → (if b then [] else ds) ≡ (if b || false then [] else ds)
ends true ds = refl
ends false ds = refl

-- nothing happened, and nothing is owed
pub nothing_stands : (settings : Settings) (rows : List Debt) → rows ≡ [] → DebtsStand settings rows []
nothing_stands settings rows none = λ s e. ap (of s e) none

module _ (settings : Settings) (rows : List Debt) (events : List Event) (st : DebtsStand settings rows events) where
  -- it has what the event makes of what it had
  pub step_stands : (new : List Debt) (ev : Event) → ((s e : ℕ) → of s e new ≡ debts_next settings s e events (of s e rows) ev) → DebtsStand settings new (events ++ ev ∷ [])
  step_stands new ev is = λ s e. is s e ∙ (ap (λ ds. debts_next settings s e events ds ev) (st s e) ∙ sym (debts_more settings s e events ev))

  pub left_stands : (n : ℕ) (why : Why) → DebtsStand settings (without (is_with n) rows) (with_cause events (EditorGone n why))
  left_stands n why = step_stands (without (is_with n) rows) (heard (EditorGone n why)) (λ s e. left_of s e n rows ∙ ends (nat_eq n e) (of s e rows))

  pub gone_stands : (n : ℕ) → DebtsStand settings (without (is_at n) rows) (with_cause events (ServerGone n))
  gone_stands n = step_stands (without (is_at n) rows) (heard (ServerGone n)) (λ s e. over_of s e n rows ∙ ends (nat_eq n s) (of s e rows))

  pub failed_stands : (n : ℕ) → DebtsStand settings (without (is_at n) rows) (with_cause events (StartFailed n))
  failed_stands n = step_stands (without (is_at n) rows) (heard (StartFailed n)) (λ s e. over_of s e n rows ∙ ends (nat_eq n s) (of s e rows))

  pub closed_stands : (n : ℕ) → DebtsStand settings (without (is_with n) rows) (events ++ said (CloseEditor n) ∷ [])
  closed_stands n = step_stands (without (is_with n) rows) (said (CloseEditor n)) (λ s e. left_of s e n rows ∙ ends (nat_eq n e) (of s e rows))

  -- the other outs, and the other causes, leave what is owed as it is
  pub said_stands : (out : Out) → ((n : ℕ) → out ≡ CloseEditor n → ⊥) → DebtsStand settings rows (events ++ said out ∷ [])
  said_stands (CloseEditor n) other = absurd (other n refl)
  said_stands (ToEditor n body) other = step_stands rows (said (ToEditor n body)) (λ s e. refl)
  said_stands (ToServer n body) other = step_stands rows (said (ToServer n body)) (λ s e. refl)
  said_stands (Spawn n g) other = step_stands rows (said (Spawn n g)) (λ s e. refl)
  said_stands (EndServer n) other = step_stands rows (said (EndServer n)) (λ s e. refl)

  pub other_stands : (cause : Cause) → IsOther cause → DebtsStand settings rows (with_cause events cause)
  other_stands (Joined e) other = step_stands rows (heard (Joined e)) (λ s e. refl)
  other_stands (Started n) other = step_stands rows (heard (Started n)) (λ s e. refl)
  other_stands (Drained e k) other = step_stands rows (heard (Drained e k)) (λ s e. refl)
  other_stands (Tick t) other = step_stands rows (heard (Tick t)) (λ s e. refl)
  other_stands (FromEditor e body) other = absurd other
  other_stands (EditorGone e why) other = absurd other
  other_stands (FromServer n body) other = absurd other
  other_stands (StartFailed n) other = absurd other
  other_stands (ServerGone n) other = absurd other

-- by either of the causes by which a program ends
pub exit_stands : (settings : Settings) (new : List Debt) (events : List Event) (cause : Cause) (n : ℕ) → (cause ≡ StartFailed n) ⊎ (cause ≡ ServerGone n)
    → DebtsStand settings new (with_cause events (StartFailed n)) → DebtsStand settings new (with_cause events (ServerGone n)) → DebtsStand settings new (with_cause events cause)
exit_stands settings new events cause n (inl is) failed gone = subst (λ k. DebtsStand settings new (with_cause events k)) (sym is) failed
exit_stands settings new events cause n (inr is) failed gone = subst (λ k. DebtsStand settings new (with_cause events k)) (sym is) gone
