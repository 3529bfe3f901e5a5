-- How far a header block was read.
use Rattle.std.proofs.Common.{Bor, ◌≡◌, refl, ap, ◌∙◌, sym, subst, ℕ, ◌+◌, ◌<◌, ◌≤◌, List, [], ◌∷◌, ◌++◌, length, drop, append_assoc, append-nil, arith}
use Rattle.std.proofs.lemmas.List.{length-append, drop-append-le, drop_more}
use Rattle.base_frame.specs.declared.block.State.{State}
use Rattle.std.specs.Prelude.{slice_index}
use Rattle.base_frame.specs.declared.block.Move.TheVariants.{Goes}
use Rattle.base_frame.specs.Block.{start, step}
use Rattle.base_frame.specs.Machine.{front_from, front_of, IsAt, is_fault, is_whole}
use Rattle.std.specs.Prelude.{false}
use Rattle.base_frame.specs.declared.block.BadWhy.{BadWhy}
use Rattle.base_frame.specs.declared.front.Found.{Found}
use Rattle.base_frame.specs.declared.front.Found.TheVariants.{Whole, Fault, Short}
use Rattle.base_frame.specs.Views.{found_view}

pub at_front : (limit : ℕ) (bs : List ℕ) → IsAt limit 0 start bs
at_front limit bs = (omega arith, λ extra. refl)

pub at_grows : (limit at : ℕ) (s : State) (bs piece : List ℕ) → IsAt limit at s bs → IsAt limit at s (bs ++ piece)
at_grows limit at s bs piece h = (
  subst (λ n. at ≤ n) (sym (length-append bs piece)) (omega (arith, h.0)),
  λ extra. ap (front_of limit) (append_assoc bs piece extra) ∙ (h.1 (piece ++ extra) ∙ ap (front_from limit at s) (sym (append_assoc (drop at bs) piece extra) ∙ ap (λ x. x ++ extra) (sym (drop-append-le at bs piece h.0)))),
)

pub at_now : (limit at : ℕ) (s : State) (bs : List ℕ) → IsAt limit at s bs → front_from limit at s (drop at bs) ≡ front_of limit bs
at_now limit at s bs h = ap (front_from limit at s) (sym (append-nil (drop at bs))) ∙ (sym (h.1 []) ∙ ap (front_of limit) (append-nil bs))

drop_step : (at : ℕ) (bs : List ℕ) → at < length bs → drop at bs ≡ slice_index bs at ∷ drop (at + 1) bs
drop_step at bs h = search drop_more

goes_over : (limit at : ℕ) (s t : State) (b : ℕ) (bs : List ℕ) → step limit at b s ≡ Goes t → front_from limit at s (b ∷ bs) ≡ front_from limit (at + 1) t bs
unfolding front_from
goes_over limit at s t b bs h = rw h refl

pub at_next : (limit at : ℕ) (s t : State) (bs : List ℕ) → IsAt limit at s bs → at < length bs → step limit at (slice_index bs at) s ≡ Goes t → IsAt limit (at + 1) t bs
at_next limit at s t bs h e g = (
  omega (arith, e),
  λ extra. h.1 extra ∙ (ap (λ x. front_from limit at s (x ++ extra)) (drop_step at bs e) ∙ goes_over limit at s t (slice_index bs at) (drop (at + 1) bs ++ extra) g),
)

pub not_fault : (f : Found) → ((at : ℕ) (why : BadWhy) → f ≡ Fault at why → ⊥) → is_fault (found_view f) ≡ false
not_fault (Whole c more) h = refl
not_fault (Fault at why) h = absurd (h at why refl)
not_fault Short h = refl

pub not_whole : (f : Found) → ((c more : Bor (List ℕ)) → f ≡ Whole c more → ⊥) → is_whole (found_view f) ≡ false
not_whole (Whole c more) h = absurd (h c more refl)
not_whole (Fault at why) h = refl
not_whole Short h = refl
