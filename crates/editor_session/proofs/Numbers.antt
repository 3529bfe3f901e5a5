-- The numbers of wanted editors, by those that are kept.
use Rattle.std.proofs.Common.{◌≡◌, ℕ, ◌+◌, ◌<◌, true, false, List, [], ◌∷◌, ◌++◌, length, get_or, take, refl, sym, ap, ◌∙◌}
use Rattle.std.proofs.lemmas.List.{append-nil}
use Rattle.number_table.specs.declared.numbered.Numbered.{Numbered}
use Rattle.number_table.specs.Numbers.{Rise, numbers_in, spread}
use Rattle.number_table.proofs.Counting.{counted_all, counted_places, numbers_next, take_all}
use Rattle.editor_session.specs.declared.session.Session.{Session}
use Rattle.editor_session.specs.declared.session.Wanted.{Wanted}
use Rattle.editor_session.specs.declared.session.Wanted.TheVariants as wanted
use Rattle.editor_session.specs.Sessions.{absent, gone, is_wanted, numbers_of}

nobody : (w : Wanted) → is_wanted w gone ≡ false
nobody (wanted.Running group) = refl
nobody (wanted.Waiting group) = refl
nobody (wanted.Needing group) = refl
nobody (wanted.OfGroup group) = refl
nobody wanted.There = refl

-- the walk over those that are kept

abbrev pub FoundTo : Wanted → List (Numbered Session) → ℕ → List ℕ → Type 0
FoundTo w kept k ns = ns ≡ numbers_in (is_wanted w) (take k kept)

pub found_more : (w : Wanted) (kept : List (Numbered Session)) (k : ℕ) (ns : List ℕ) (x : Numbered Session) → FoundTo w kept k ns → k < length kept → x ≡ get_or kept k x → is_wanted w x.item ≡ true → FoundTo w kept (k + 1) (ns ++ x.number ∷ [])
found_more w kept k ns x so l at is = numbers_next (is_wanted w) kept k ns x true so l at is

pub found_same : (w : Wanted) (kept : List (Numbered Session)) (k : ℕ) (ns : List ℕ) (x : Numbered Session) → FoundTo w kept k ns → k < length kept → x ≡ get_or kept k x → is_wanted w x.item ≡ false → FoundTo w kept (k + 1) ns
found_same w kept k ns x so l at is = sym (append-nil ns) ∙ numbers_next (is_wanted w) kept k ns x false so l at is

pub found_all : (w : Wanted) (n : ℕ) (kept : List (Numbered Session)) (sessions : List Session) (ns : List ℕ) → Rise 0 n kept → spread gone 0 n kept ≡ sessions → FoundTo w kept (length kept) ns → ns ≡ numbers_of (λ s. is_wanted w s) sessions
found_all w n kept sessions ns rise is so = so ∙ (ap (numbers_in (is_wanted w)) (take_all kept) ∙ (sym (counted_all gone (is_wanted w) (nobody w) n kept sessions is rise) ∙ sym (counted_places absent (is_wanted w) sessions)))
