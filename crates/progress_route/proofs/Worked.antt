-- A small history of the table, worked out by the checker.
use Rattle.std.proofs.Common.{◌≡◌, true, false, [], ◌∷◌, codes, refl}
use Rattle.std.specs.Prelude.{Some, None}
use Rattle.progress_route.specs.declared.kind.Kind.TheVariants.{Begin, End, Other}
use Rattle.progress_route.specs.Tables.{Table, accepted_in, all_of, answered, at, begun_in, created, due, given, left, nothing, numbers_in, put_to, taken}

-- the server creates 7, and editors 5 and 6 are asked, each under its 1; editor 5 accepts
abbrev asks : Table
asks = answered 5 1 true (put_to 1 6 1 (put_to 1 5 1 (created (codes "7") nothing)))

-- a `begin` comes, which editor 5 gets at once; editor 8 runs from then on and is asked under its 1
gets : due (codes "7") asks ≡ Some (1, 5 ∷ [])
gets = refl

no_string : due (codes "\"7\"") asks ≡ None
no_string = refl

abbrev begun : Table
begun = put_to 1 8 1 (taken (codes "7") (codes "begin") Begin asks)

lives : all_of begun ≡ (1, true) ∷ []
lives = refl

was_sent : begun_in 1 (at 5 begun.parts) ≡ true
was_sent = refl

not_accepted : accepted_in 1 (at 6 begun.parts) ≡ false
not_accepted = refl

-- a report comes, and the end; the token may be created again, under another number
abbrev ended : Table
ended = created (codes "7") (taken (codes "7") (codes "end") End (taken (codes "7") (codes "report") Other begun))

again : all_of ended ≡ (2, false) ∷ []
again = refl

-- editor 6 accepts, editor 8 refuses
accepts : given 6 1 true ended ≡ Some (1, codes "begin" ∷ codes "report" ∷ codes "end" ∷ [])
accepts = refl

refuses : given 8 1 false ended ≡ Some (1, [])
refuses = refl

has_ended : accepted_in 1 (at 6 (answered 6 1 true ended).parts) ≡ false
has_ended = refl

-- editor 8 leaves: it has no create to answer any more
waits : numbers_in (at 8 ended.parts) ≡ 1 ∷ []
waits = refl

leaves : given 8 1 true (left 8 ended) ≡ None
leaves = refl
