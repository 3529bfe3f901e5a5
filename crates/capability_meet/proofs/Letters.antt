-- The characters of names in ASCII are their bytes.
use Rattle.std.proofs.Common.{◌≡◌, ◌<◌, ℕ, Bool, true, List, codes, refl, arith}
use Rattle.std.specs.Prelude.{nat_lt, chars}
use Rattle.std.specs.List.{All, list_all}
use Rattle.std.proofs.lemmas.Bool.Decides.{nat_tests}
use Rattle.std.proofs.lemmas.Str.{chars-IsAscii}
use Rattle.std.proofs.lemmas.Str.Ascii.{IsAscii-from_all}
use Rattle.std.proofs.lemmas.List.Sums.{AllPass-from_list_all}

abbrev is_ascii : List ℕ → Bool
is_ascii bytes = list_all (λ b. nat_lt b 128) bytes

ascii_all : (bs : List ℕ) → is_ascii bs ≡ true → All (λ b. b < 128) bs
ascii_all bs h = λ k d l. (let p = AllPass-from_list_all (λ b. nat_lt b 128) bs h k d l in grind (arith, nat_tests))

pub ascii_chars : (bs : List ℕ) → is_ascii bs ≡ true → chars bs ≡ bs
ascii_chars bs h = chars-IsAscii bs (IsAscii-from_all bs (ascii_all bs h))

pub capabilities_letters : chars (codes "capabilities") ≡ codes "capabilities"
capabilities_letters = ascii_chars (codes "capabilities") refl

pub workspace_letters : chars (codes "workspace") ≡ codes "workspace"
workspace_letters = ascii_chars (codes "workspace") refl

pub folders_letters : chars (codes "workspaceFolders") ≡ codes "workspaceFolders"
folders_letters = ascii_chars (codes "workspaceFolders") refl

pub notebook_letters : chars (codes "notebookDocumentSync") ≡ codes "notebookDocumentSync"
notebook_letters = ascii_chars (codes "notebookDocumentSync") refl
