-- A window into a buffer, and its front taken off.
use Rattle.std.proofs.Common.{◌≡◌, ℕ, ◌+◌, ◌-◌, ◌^◌, ◌≤◌, List, ◌++◌, length, take, drop, ap, sym, ◌∙◌, arith}
use Rattle.std.proofs.lemmas.List.{take-take, drop-take, drop-drop, length-take}
use Rattle.drive_program.specs.Buffers.{BufferView, Taken}

narrow : (n at to : ℕ) (bytes : List ℕ) → n ≤ length (take (to - at) (drop at bytes)) → n ≤ to - at
narrow n at to bytes h = omega (arith, length-take (to - at) (drop at bytes))

pub front_taken : (n m at to : ℕ) (bytes : List ℕ) → n + m ≤ length (take (to - at) (drop at bytes)) → take (at + n - at) (drop at bytes) ≡ take n (take (to - at) (drop at bytes))
front_taken n m at to bytes h =
    let i : n + m ≤ to - at = narrow (n + m) at to bytes h in
    let e : at + n - at ≡ n = omega arith in
    ap (λ k. take k (drop at bytes)) e ∙ sym (take-take n (to - at) (drop at bytes) (omega arith))

pub rest_left : (n at to : ℕ) (bytes : List ℕ) → n ≤ length (take (to - at) (drop at bytes)) → take (to - (at + n)) (drop (at + n) bytes) ≡ drop n (take (to - at) (drop at bytes))
rest_left n at to bytes h =
    let i : n ≤ to - at = narrow n at to bytes h in
    let e : n + (to - (at + n)) ≡ to - at = omega arith in
    ap (λ l. take (to - (at + n)) l) (sym (drop-drop n at bytes)) ∙ (sym (drop-take n (to - (at + n)) (drop at bytes)) ∙ ap (λ k. drop n (take k (drop at bytes))) e)

bounded : (n : ℕ) (xs ys : List ℕ) → xs ≡ ys → n ≤ length ys → n ≤ length xs
bounded n xs ys e h = rw e h

pub taken_of : (count skipped : ℕ) (before now : BufferView) (line grown : List ℕ) (at to used : ℕ) (bytes : List ℕ)
    → record { pending = take (to - at) (drop at bytes); used = used } ≡ before
    → record { pending = take (to - (at + (count + skipped))) (drop (at + (count + skipped)) bytes); used = used + (count + skipped) } ≡ now
    → count + skipped ≤ length before.pending → used + (count + skipped) ≤ 2 ^ 40 → grown ≡ line ++ take (at + count - at) (drop at bytes) → Taken count skipped before now line grown
taken_of count skipped before now line grown at to used bytes b n h s g =
    let pb : take (to - at) (drop at bytes) ≡ before.pending = ap (λ (v : BufferView). v.pending) b in
    let pn : take (to - (at + (count + skipped))) (drop (at + (count + skipped)) bytes) ≡ now.pending = ap (λ (v : BufferView). v.pending) n in
    let ub : used ≡ before.used = ap (λ (v : BufferView). v.used) b in
    let un : used + (count + skipped) ≡ now.used = ap (λ (v : BufferView). v.used) n in
    let i : count + skipped ≤ length (take (to - at) (drop at bytes)) = bounded (count + skipped) _ _ pb h in
    record {
      line = g ∙ ap (λ l. line ++ l) (front_taken count skipped at to bytes i ∙ ap (take count) pb);
      pending = sym pn ∙ (rest_left (count + skipped) at to bytes i ∙ ap (drop (count + skipped)) pb);
      used = sym un ∙ ap (λ k. k + (count + skipped)) ub;
      small = omega arith;
    }
