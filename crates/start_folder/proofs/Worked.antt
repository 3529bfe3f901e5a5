-- Some URIs and their paths, worked out by the checker.
use Rattle.std.proofs.Common.{◌≡◌, codes, refl}
use Rattle.std.specs.Prelude.{Some, None}
use Rattle.std.specs.Char.{encode_utf8}
use Rattle.std.specs.Str.{chars, is_utf8}
use Rattle.percent_encoding.specs.Percent.{percent_decode}
use Rattle.start_folder.specs.Paths.{path_of}

no_host : path_of (codes "file:/home/me") ≡ Some (codes "/home/me")
unfolding chars is_utf8 encode_utf8 percent_decode
no_host = refl

an_empty_host : path_of (codes "file:///home/a%20b") ≡ Some (codes "/home/a b")
unfolding chars is_utf8 encode_utf8 percent_decode
an_empty_host = refl

this_host : path_of (codes "FILE://LocalHost/%68?x#y") ≡ Some (codes "/h")
unfolding chars is_utf8 encode_utf8 percent_decode
this_host = refl

another_host : path_of (codes "file://other/home") ≡ None
unfolding chars is_utf8 encode_utf8 percent_decode
another_host = refl

another_scheme : path_of (codes "untitled:/home") ≡ None
unfolding chars is_utf8 encode_utf8 percent_decode
another_scheme = refl

no_root : path_of (codes "file:home") ≡ None
unfolding chars is_utf8 encode_utf8 percent_decode
no_root = refl

a_nul : path_of (codes "file:///a%00") ≡ None
unfolding chars is_utf8 encode_utf8 percent_decode
a_nul = refl

no_text : path_of (codes "file:///a%ff") ≡ None
unfolding chars is_utf8 encode_utf8 percent_decode
no_text = refl
