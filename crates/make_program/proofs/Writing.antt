-- Texts behind one another on an output.
use Rattle.std.proofs.Common.{◌≡◌, inl, ℕ, zero, suc, List, [], ◌∷◌, ◌++◌, length, take, refl, ap, sym, subst, ◌∙◌, append_assoc, append-nil}
use Rattle.std.specs.Prelude.{Option, Some, None, Err}
use Rattle.std.specs.Io.KnownBytes.{append_known}
use Rattle.program_settings.specs.Lines.{Reported, WroteFront, said}
use Rattle.drive_program.proofs.Driving.{append_both}
use Rattle.drive_program.proofs.Ends.{front_behind}
use Rattle.drive_program.specs.declared.stop.Stop.{Stop}
use Rattle.drive_program.specs.declared.stop.Stop.TheVariants as stop
use Rattle.make_program.specs.Shown.{Shows}

pub nothing_written : (w : Option (List ℕ)) → w ≡ append_known w []
nothing_written None = refl
nothing_written (Some bytes) = ap (λ l. Some l) (sym (append-nil bytes))

pub no_front : (w : Option (List ℕ)) (text : List ℕ) → WroteFront w w text
no_front w text = record { count = 0; wrote = nothing_written w }

pub front_of : (w v : Option (List ℕ)) (text : List ℕ) (count : ℕ) → v ≡ append_known w (take count text) → WroteFront w v text
front_of w v text count e = record { count = count; wrote = e }

-- a front of a text is one of each longer text
take_front : (n : ℕ) (xs ys : List ℕ) → take n xs ≡ take (length (take n xs)) (xs ++ ys)
take_front zero xs ys = refl
take_front (suc n) [] ys = refl
take_front (suc n) (x ∷ xs) ys = ap (λ l. x ∷ l) (take_front n xs ys)

pub front_longer : (w v : Option (List ℕ)) (a b : List ℕ) → WroteFront w v a → WroteFront w v (a ++ b)
front_longer w v a b f = record { count = length (take f.count a); wrote = f.wrote ∙ ap (append_known w) (take_front f.count a b) }

-- a text that was written, or not all of it, behind another one, and before a third one
pub shows_behind : (w v u : Option (List ℕ)) (a b c text : List ℕ) (s : Stop) → v ≡ append_known w a → text ≡ a ++ (b ++ c) → Shows b v u (Err s) → Shows text w u (Err s)
shows_behind w v u a b c text stop.Memory e t h = subst (WroteFront w u) (append_assoc a b c ∙ sym t) (front_longer w u (a ++ b) c (front_behind w v u a b e h))
shows_behind w v u a b c text stop.Output e t h = subst (WroteFront w u) (append_assoc a b c ∙ sym t) (front_longer w u (a ++ b) c (front_behind w v u a b e h))
shows_behind w v u a b c text stop.Journal e t h = absurd h
shows_behind w v u a b c text stop.Numbers e t h = absurd h
shows_behind w v u a b c text stop.Input e t h = absurd h
shows_behind w v u a b c text (stop.Refused k r) e t h = absurd h

-- all that no fault line has to say
pub said_nothing : (w : Option (List ℕ)) (failed : Type 0) → Reported 0 0 w w [] failed
said_nothing w failed = said refl (record { front = no_front w []; whole = inl (nothing_written w) })

-- one more text
pub written_more : (w v u : Option (List ℕ)) (a b text : List ℕ) → v ≡ append_known w a → u ≡ append_known v b → text ≡ a ++ b → u ≡ append_known w text
written_more w v u a b text e f t = f ∙ (ap (λ o. append_known o b) e ∙ (append_both w a b ∙ ap (append_known w) (sym t)))
