-- A line written, or cut off.
use Rattle.std.proofs.Common.{◌≡◌, ℕ, ◌≤◌, List, length, take, inl, inr, OnOk, IfErr}
use Rattle.std.specs.Prelude.{Option, Result, Ok, Err}
use Rattle.std.specs.Io.KnownBytes.{append_known}
use Rattle.outside_io.specs.declared.sink.Cut.{Cut}
use Rattle.outside_io.specs.Faults.{HasCause, Rose}
use Rattle.program_settings.specs.Lines.{Wrote, WroteFront}
use Rattle.std.proofs.Common.{refl, sym, ap, ◌∙◌}
use Rattle.std.proofs.Math.Seq.{take-length}

front_of_all : (w v : Option (List ℕ)) (text : List ℕ) → v ≡ append_known w text → WroteFront w v text
front_of_all w v text e = record { count = length text; wrote = e ∙ ap (append_known w) (sym (take-length text)) }

pub wrote_of : (r : Result (Unit {0}) Cut) (w v : Option (List ℕ)) (text : List ℕ) (before now : ℕ) → OnOk r (v ≡ append_known w text)
    → IfErr r (λ cut. (cut.written ≤ length text) × (v ≡ append_known w (take cut.written text))) → HasCause before now r → Wrote w v text (Rose before now)
wrote_of (Ok x) w v text before now o e h = record { front = front_of_all w v text o; whole = inl o }
wrote_of (Err cut) w v text before now o e h = record { front = record { count = cut.written; wrote = e.1 }; whole = inr h.failed }
