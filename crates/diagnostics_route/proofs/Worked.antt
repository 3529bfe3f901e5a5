-- A small history of the lists of a start, and lists as they are read and shown, worked out by the checker.
use Rattle.std.proofs.Common.{◌≡◌, ℕ, Bool, true, false, List, [], ◌∷◌, ◌++◌, codes, map, refl}
use Rattle.std.specs.Prelude.{Some, None}
use Rattle.std.specs.Fmt.{digits}
use Rattle.json_text.specs.Computes.{computes}
use Rattle.json_text.specs.Named.{named}
use Rattle.mux_members.specs.rpc_message.specs.Message.{is_integer}
use Rattle.document_model.specs.declared.agreement.Agreement.TheVariants.{NotOpen, Differs, Agrees}
use Rattle.diagnostics_route.specs.declared.last_list.LastList.{LastList}
use Rattle.diagnostics_route.specs.declared.last_list.Version.{Version}
use Rattle.diagnostics_route.specs.declared.last_list.Version.TheVariants.{Absent, Null, Integer, Other}
use Rattle.diagnostics_route.specs.Lists.{nonempty}
use Rattle.diagnostics_route.specs.Published.{published}
use Rattle.diagnostics_route.specs.Rows.{number_for, number_in, with_list}
use Rattle.diagnostics_route.specs.Shown.{fits, shown_text}

-- a list that came behind three notifications on documents
abbrev list : List ℕ → List ℕ → Version → Bool → LastList
list uri body version empty = record { uri = uri; body = body; place = 3; version = version; empty = empty }

-- of three documents lists come, and of the first one again, which keeps its place; the second one's is empty
abbrev come : List LastList
come = with_list (list (codes "u") (codes "more") Absent false) (with_list (list (codes "w") (codes "last") Absent false) (with_list (list (codes "v") (codes "none") Absent true) (with_list (list (codes "u") (codes "first") Absent false) [])))

in_order : map (λ l. l.body) come ≡ codes "more" ∷ codes "none" ∷ codes "last" ∷ []
in_order = refl

is_third : number_in (codes "w") come ≡ Some 2
is_third = refl

keeps_place : number_for (codes "u") come ≡ 0
keeps_place = refl

not_listed : number_in (codes "x") come ≡ None
not_listed = refl

comes_behind : number_for (codes "x") come ≡ 3
comes_behind = refl

not_empty : nonempty come ≡ 0 ∷ 2 ∷ []
not_empty = refl

-- an empty list of the first document comes, which keeps its place
emptied : nonempty (with_list (list (codes "u") (codes "no more") Absent true) come) ≡ 2 ∷ []
emptied = refl

-- which editors a list fits

unopened : fits (list (codes "u") [] (Integer (codes "1")) false) NotOpen ≡ true
unopened = refl

other_text : fits (list (codes "u") [] Absent false) Differs ≡ false
other_text = refl

same_version : fits (list (codes "u") [] (Integer (codes "1")) false) (Agrees 1 3) ≡ true
unfolding digits
same_version = refl

older_version : fits (list (codes "u") [] (Integer (codes "1")) false) (Agrees 2 3) ≡ false
unfolding digits
older_version = refl

older_list : fits (list (codes "u") [] (Integer (codes "1")) false) (Agrees 1 4) ≡ false
older_list = refl

null_fits : fits (list (codes "u") [] Null false) (Agrees 2 3) ≡ true
null_fits = refl

other_never : fits (list (codes "u") [] Other false) (Agrees 2 3) ≡ false
other_never = refl

-- how it is read and shown

abbrev told_of : List ℕ → List ℕ
told_of params = codes "{\"jsonrpc\":\"2.0\",\"method\":\"textDocument/publishDiagnostics\",\"params\":" ++ params ++ codes "}"

abbrev versioned : List ℕ
versioned = told_of (codes "{\"uri\":\"file:\\/\\/\\/u\", \"version\":1, \"diagnostics\":[{}]}")

read : published 3 versioned ≡ Some (list (codes "file:///u") versioned (Integer (codes "1")) false)
unfolding computes named is_integer
read = refl

own_version : shown_text (Some (codes "5")) versioned ≡ told_of (codes "{\"uri\":\"file:\\/\\/\\/u\", \"version\":5, \"diagnostics\":[{}]}")
unfolding computes named is_integer
own_version = refl

no_version : shown_text None versioned ≡ told_of (codes "{\"uri\":\"file:\\/\\/\\/u\",\"diagnostics\":[{}]}")
unfolding computes named is_integer
no_version = refl

-- the last version counts, and each is replaced or goes
abbrev doubled : List ℕ
doubled = told_of (codes "{\"version\":null,\"uri\":\"u\",\"version\":2,\"diagnostics\":[]}")

read_doubled : published 3 doubled ≡ Some (list (codes "u") doubled (Integer (codes "2")) true)
unfolding computes named is_integer
read_doubled = refl

own_doubled : shown_text (Some (codes "5")) doubled ≡ told_of (codes "{\"version\":5,\"uri\":\"u\",\"version\":5,\"diagnostics\":[]}")
unfolding computes named is_integer
own_doubled = refl

no_doubled : shown_text None doubled ≡ told_of (codes "{\"uri\":\"u\",\"diagnostics\":[]}")
unfolding computes named is_integer
no_doubled = refl

-- a version that is null goes too, where the document isn't open; where it is, all is as it came
abbrev unversioned : List ℕ
unversioned = told_of (codes "{\"uri\":\"u\",\"version\":null,\"diagnostics\":[{}]}")

as_it_came : shown_text (Some (codes "5")) unversioned ≡ unversioned
unfolding computes named is_integer
as_it_came = refl

no_null : shown_text None unversioned ≡ told_of (codes "{\"uri\":\"u\",\"diagnostics\":[{}]}")
unfolding computes named is_integer
no_null = refl

-- another shape gives no list

no_array : published 3 (told_of (codes "{\"uri\":\"u\",\"diagnostics\":{}}")) ≡ None
unfolding computes named is_integer
no_array = refl

no_text : published 3 (told_of (codes "{\"uri\":1,\"diagnostics\":[]}")) ≡ None
unfolding computes named is_integer
no_text = refl

no_integer : published 3 (told_of (codes "{\"uri\":\"u\",\"version\":1.0,\"diagnostics\":[]}")) ≡ Some (list (codes "u") (told_of (codes "{\"uri\":\"u\",\"version\":1.0,\"diagnostics\":[]}")) Other true)
unfolding computes named is_integer
no_integer = refl
