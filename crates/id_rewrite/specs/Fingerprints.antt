-- A number of an editor and of what its identifier stands for, by which its open request is found: the front of a digest (FIPS 180-4).
use Rattle.std.specs.Prelude.{ℕ, List, ◌++◌, encode_utf8_all, take}
use Rattle.std.specs.Int.{w64, w128, from_be_bytes, to_be_bytes}
use Rattle.sha2.specs.declared.Sha512.{Sha512}
use Rattle.sha2.specs.Hashers.{Holds512}
use Rattle.sha2.specs.Sha512.{sha512}
use Rattle.id_rewrite.specs.Forms.{form}

-- the number that the first sixteen bytes of a digest write
abbrev pub front : List ℕ → ℕ
front digest = from_be_bytes w128 (take 16 digest)

-- of the editor's eight bytes, and of the characters of the form in UTF-8 (RFC 3629, section 3)
unfoldable pub fingerprint : ℕ → List ℕ → ℕ
fingerprint editor id = front (sha512 (to_be_bytes w64 editor ++ encode_utf8_all (form id)))

-- a hasher's message has these bytes more
abbrev pub Adds : Sha512 → Sha512 → List ℕ → Type 0
Adds old new bytes = (m : List ℕ) → Holds512 old m → Holds512 new (m ++ bytes)
