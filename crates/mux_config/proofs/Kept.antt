-- Settings with no fault are in their ranges.
use Rattle.std.proofs.Common.{◌≡◌, ℕ, ◌+◌, ◌*◌, ◌≤◌, ◌≢◌, ℤ, pos, negsuc, Bool, true, false, not, ◌&&◌, nat_eq, nat_le, cond, List, [], ◌∷◌, length, Option, Some, None, IfSome, option_map, option_and_then, unwrap_or, codes, bytes_eq, refl, arith}
use Rattle.std.proofs.lemmas.Bool.{and_parts}
use Rattle.std.proofs.lemmas.Bool.Decides.{nat_tests}
use Rattle.std.proofs.lemmas.Str.{digit_value_digit}
use Rattle.std.proofs.lemmas.Str.Parse.{tells_all_ascii_digits}
use Rattle.std.specs.Char.{digit_value}
use Rattle.std.specs.Option.{option_or}
use Rattle.std.specs.Str.{all_ascii_digits}
use Rattle.std.specs.Str.Parse.{digits_value, digits_value_after}
use Rattle.outside_io.specs.Doors.{Address, unix, tcp, streams}
use Rattle.toml.specs.Data.{Data, string, integer, float, boolean, datetime, array, table, Members, get_member, as_str}
use Rattle.mux_config.specs.Settings.{within, number_in, span, behind, path_place, is_numeral, port_in, streams_place, text_place, place_in}
use Rattle.mux_config.specs.Chosen.{IsWithin, IsPlace, AreLimits, number_or, number_at, place_at, limits_at}

-- numbers

within_kept : (low high : ℕ) (z : ℤ) → IfSome (within low high z) (IsWithin low high)
within_kept low high (negsuc n) = tt
within_kept low high (pos n) = by_test (nat_le low n && nat_le n high) refl
  where
    by_test : (b : Bool) → (nat_le low n && nat_le n high) ≡ b → IfSome (cond b (Some n) None) (IsWithin low high)
    by_test false e = tt
    by_test true e = let (a, b) = and_parts (nat_le low n) (nat_le n high) e in (grind (arith, nat_tests), grind (arith, nat_tests))

number_kept : (low high : ℕ) (d : Data) → IfSome (number_in low high d) (IsWithin low high)
number_kept low high (integer z) = within_kept low high z
number_kept low high (string x) = tt
number_kept low high (float x) = tt
number_kept low high (boolean x) = tt
number_kept low high (datetime x) = tt
number_kept low high (array x) = tt
number_kept low high (table x) = tt

or_default : (low high default : ℕ) (r : Option ℕ) → IfSome r (IsWithin low high) → IsWithin low high default → IsWithin low high (unwrap_or r default)
or_default low high default None k h = h
or_default low high default (Some n) k h = k

or_kept : (low high default : ℕ) (o : Option Data) → IsWithin low high default → IsWithin low high (number_or (span low high default) o)
or_kept low high default None h = h
or_kept low high default (Some d) h = or_default low high default (number_in low high d) (number_kept low high d) h

pub links_kept : (ms : Members) → IsWithin 1 32 (number_at ms (codes "links"))
links_kept ms = or_kept 1 32 32 (get_member (codes "links") ms) (omega arith, omega arith)

pub content_kept : (ms : Members) → IsWithin 1024 268435456 (number_at ms (codes "content"))
content_kept ms = or_kept 1024 268435456 67108864 (get_member (codes "content") ms) (omega arith, omega arith)

pub limits_kept : (ms : Members) → AreLimits (limits_at ms)
limits_kept ms = record {
  groups = or_kept 1 16 8 (get_member (codes "groups") ms) (omega arith, omega arith);
  restarts = or_kept 0 1000 5 (get_member (codes "restarts") ms) (omega arith, omega arith);
  idle = or_kept 0 86400 300 (get_member (codes "idle") ms) (omega arith, omega arith);
  grace = or_kept 0 3600 5 (get_member (codes "grace") ms) (omega arith, omega arith);
  backlog = or_kept 1024 1073741824 134217728 (get_member (codes "backlog") ms) (omega arith, omega arith);
  requests = or_kept 3 2147483647 2147483647 (get_member (codes "requests") ms) (omega arith, omega arith);
  versions = or_kept 2 2147483647 2147483647 (get_member (codes "versions") ms) (omega arith, omega arith);
}

-- places

either_kept : {A : Type 0} (P : A → Type 0) (a b : Option A) → IfSome a P → IfSome b P → IfSome (option_or a b) P
either_kept P None b h k = k
either_kept P (Some x) b h k = h

pub then_kept : {A B : Type 0} (P : B → Type 0) (f : A → Option B) (o : Option A) → ((x : A) → IfSome (f x) P) → IfSome (option_and_then f o) P
then_kept P f None h = tt
then_kept P f (Some x) h = h x

path_kept : (path : List ℕ) → IfSome (path_place path) IsPlace
path_kept path = by_test (nat_le 1 (length path) && nat_le (length path) 100) refl
  where
    by_test : (b : Bool) → (nat_le 1 (length path) && nat_le (length path) 100) ≡ b → IfSome (cond b (Some (unix path)) None) IsPlace
    by_test false e = tt
    by_test true e = let (a, b) = and_parts (nat_le 1 (length path)) (nat_le (length path) 100) e in (grind (arith, nat_tests), grind (arith, nat_tests))

value_some : (n : ℕ) (ds : List ℕ) → 1 ≤ n → 1 ≤ digits_value_after 10 n ds
value_some n [] h = h
value_some n (c ∷ cs) h = value_some (n * 10 + digit_value c) cs (omega (arith, h))

numeral_some : (text : List ℕ) → is_numeral text ≡ true → 1 ≤ digits_value 10 text
numeral_some [] e = absurd (cc)
numeral_some (c ∷ cs) e =
    let (some, rest) = and_parts (nat_le 1 (length (c ∷ cs))) (not (nat_eq c 48) && all_ascii_digits (c ∷ cs)) e in
    let (first, all) = and_parts (not (nat_eq c 48)) (all_ascii_digits (c ∷ cs)) rest in
    let digit = (tells_all_ascii_digits.parts c cs all).0 in
    let v = digit_value_digit c digit in
    let other : c ≢ 48 = by_test (nat_eq c 48) refl first in
    value_some (0 * 10 + digit_value c) cs (grind arith)
  where
    by_test : (b : Bool) → nat_eq c 48 ≡ b → not b ≡ true → c ≢ 48
    by_test true e h same = absurd (cc)
    by_test false e h same = grind (arith, nat_tests)

port_kept : (text : List ℕ) → IfSome (port_in text) (IsWithin 1 65535)
port_kept text = by_test (is_numeral text && nat_le (digits_value 10 text) 65535) refl
  where
    by_test : (b : Bool) → (is_numeral text && nat_le (digits_value 10 text) 65535) ≡ b → IfSome (cond b (Some (digits_value 10 text)) None) (IsWithin 1 65535)
    by_test false e = tt
    by_test true e = let (a, b) = and_parts (is_numeral text) (nat_le (digits_value 10 text) 65535) e in (numeral_some text a, grind (arith, nat_tests))

tcp_kept : (o : Option ℕ) → IfSome o (IsWithin 1 65535) → IfSome (option_map tcp o) IsPlace
tcp_kept None h = tt
tcp_kept (Some n) h = h

streams_kept : (text : List ℕ) → IfSome (streams_place text) IsPlace
streams_kept text = by_test (bytes_eq text (codes "streams"))
  where
    by_test : (b : Bool) → IfSome (cond b (Some streams) None) IsPlace
    by_test false = tt
    by_test true = (omega arith, omega arith)

text_kept : (text : List ℕ) → IfSome (text_place text) IsPlace
text_kept text = either_kept IsPlace _ _
    (then_kept IsPlace path_place (behind (codes "unix:") text) path_kept)
    (either_kept IsPlace _ _ (tcp_kept _ (then_kept (IsWithin 1 65535) port_in (behind (codes "tcp:") text) port_kept)) (streams_kept text))

place_or : (o : Option Address) (a : Address) → IfSome o IsPlace → IsPlace a → IsPlace (unwrap_or o a)
place_or None a h k = k
place_or (Some b) a h k = h

pub place_kept : (ms : Members) → IsPlace (place_at ms)
place_kept ms = place_or _ _ (then_kept IsPlace place_in (get_member (codes "place") ms) (λ d. then_kept IsPlace text_place (as_str d) text_kept)) (omega arith, omega arith)
