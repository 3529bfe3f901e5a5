-- What the daemon's own requests about registrations do to the ids that are registered at an editor, as sets.
use Rattle.std.proofs.Common.{◌≡◌, ℕ, ◌^◌, ◌<◌, Bool, true, false, not, ◌&&◌, ◌||◌, cond, List, [], ◌∷◌, ◌++◌, bytes_eq, codes, filter, if◌then◌else◌, map, append-nil, refl, sym, ◌∙◌, ap, ap₂}
use Rattle.std.specs.List.{list_all, list_any}
use Rattle.std.proofs.lemmas.Slice.Eq.{bytes_eq-Decides}
use Rattle.lsp_method.specs.Class.{server_request}
use Rattle.rpc_message.specs.Message.{Message, request, notification, result, error, not_json, not_message, message_of}
use Rattle.event_model.specs.Members.{listed, named_of}
use Rattle.event_model.proofs.Frames.{never}
use Rattle.registrations.specs.declared.registration.Registration.{Registration}
use Rattle.registrations.specs.Items.{again, is_among, others}
use Rattle.registrations.specs.Names.{is_named}
use Rattle.group_rows.specs.Live.{is_registering, register_text, unregister_text}
use Rattle.group_rows.specs.LiveTexts.{AreWritten}
use Rattle.group_rows.proofs.LiveTexts.{register_tells, unregister_tells}
use Rattle.session_laws.specs.ClientRules.{after_told, has_id, ids_in, may_register, registered_in, unregistered_in}
use Rattle.session_laws.proofs.Client7Law.{all_pass, has_joined, has_passed}

abbrev pub names : List Registration → List (List ℕ)
names rs = map (λ (r : Registration). r.name) rs

-- the same ids
abbrev pub Same : List (List ℕ) → List Registration → Type 0
Same ids live = (x : List ℕ) → has_id ids x ≡ has_id (names live) x

named_has : (items : List Registration) (x : List ℕ) → list_any (is_named x) items ≡ has_id (names items) x
named_has [] x = refl
named_has (r ∷ rs) x = ap (λ b. bytes_eq x r.name || b) (named_has rs x)

names_kept : (p : Registration → Bool) (q : List ℕ → Bool) → ((r : Registration) → p r ≡ q r.name) → (rs : List Registration) → names (filter p rs) ≡ filter q (names rs)
names_kept p q h [] = refl
names_kept p q h (r ∷ rs) = go (p r) refl (names_kept p q h rs)
  where
    go : (b : Bool) → p r ≡ b → names (filter p rs) ≡ filter q (names rs) → names (cond b (r ∷ filter p rs) (filter p rs)) ≡ cond (q r.name) (r.name ∷ filter q (names rs)) (filter q (names rs))
    go true on rest = ap (λ xs. r.name ∷ xs) rest ∙ sym (ap (λ b. cond b (r.name ∷ filter q (names rs)) (filter q (names rs))) (sym (h r) ∙ on))
    go false off rest = rest ∙ sym (ap (λ b. cond b (r.name ∷ filter q (names rs)) (filter q (names rs))) (sym (h r) ∙ off))

pub has_again : (items live : List Registration) (x : List ℕ) → has_id (names (again items live)) x ≡ (has_id (names live) x && has_id (names items) x)
has_again items live x = ap (λ xs. has_id xs x) (names_kept (is_among items) (has_id (names items)) (λ r. named_has items r.name) live) ∙ has_passed (has_id (names items)) (names live) x

pub has_others : (items live : List Registration) (x : List ℕ) → has_id (names (others items live)) x ≡ (has_id (names live) x && not (has_id (names items) x))
has_others items live x = ap (λ xs. has_id xs x) (names_kept (λ r. not (is_among items r)) (λ n. not (has_id (names items) n)) (λ r. ap not (named_has items r.name)) live) ∙ has_passed (λ n. not (has_id (names items) n)) (names live) x

names_join : (xs ys : List Registration) → names (xs ++ ys) ≡ names xs ++ names ys
names_join [] ys = refl
names_join (x ∷ xs) ys = ap (λ zs. x.name ∷ zs) (names_join xs ys)

pub has_both : (xs ys : List Registration) (x : List ℕ) → has_id (names (xs ++ ys)) x ≡ (has_id (names xs) x || has_id (names ys) x)
has_both xs ys x = ap (λ zs. has_id zs x) (names_join xs ys) ∙ has_joined (names xs) (names ys) x

-- A message that names these, and takes those back

and_true : (a : Bool) → (a && true) ≡ a
and_true true = refl
and_true false = refl

or_false : (a : Bool) → (a || false) ≡ a
or_false true = refl
or_false false = refl

told_has : (ids : List (List ℕ)) (m : Message) (x : List ℕ) → has_id (after_told ids m) x ≡ ((has_id ids x && not (has_id (unregistered_in m) x)) || has_id (registered_in m) x)
told_has ids m x = has_joined (filter (λ id. not (has_id (unregistered_in m) id)) ids) (registered_in m) x ∙ ap (λ b. b || has_id (registered_in m) x) (has_passed (λ id. not (has_id (unregistered_in m) id)) ids x)

pub record Adds (m : Message) (rs : List Registration) : Type 0 where
  pub comes : registered_in m ≡ names rs
  pub goes : unregistered_in m ≡ []

pub record Drops (m : Message) (rs : List Registration) : Type 0 where
  pub comes : registered_in m ≡ []
  pub goes : unregistered_in m ≡ names rs

pub record Leaves (m : Message) : Type 0 where
  pub comes : registered_in m ≡ []
  pub goes : unregistered_in m ≡ []

pub added : (ids : List (List ℕ)) (m : Message) (rs : List Registration) → Adds m rs → (x : List ℕ) → has_id (after_told ids m) x ≡ (has_id ids x || has_id (names rs) x)
added ids m rs k x = told_has ids m x ∙ ap₂ (λ gone comes. (has_id ids x && not (has_id gone x)) || has_id comes x) k.goes k.comes ∙ ap (λ b. b || has_id (names rs) x) (and_true (has_id ids x))

pub dropped : (ids : List (List ℕ)) (m : Message) (rs : List Registration) → Drops m rs → (x : List ℕ) → has_id (after_told ids m) x ≡ (has_id ids x && not (has_id (names rs) x))
dropped ids m rs k x = told_has ids m x ∙ ap₂ (λ gone comes. (has_id ids x && not (has_id gone x)) || has_id comes x) k.goes k.comes ∙ or_false (has_id ids x && not (has_id (names rs) x))

all_stay : (ids : List (List ℕ)) → filter (λ id. not (has_id [] id)) ids ≡ ids
all_stay [] = refl
all_stay (i ∷ ids) = ap (λ xs. i ∷ xs) (all_stay ids)

pub left : (ids : List (List ℕ)) (m : Message) → Leaves m → after_told ids m ≡ ids
left ids m k = ap₂ (λ gone comes. filter (λ id. not (has_id gone id)) ids ++ comes) k.goes k.comes ∙ append-nil (filter (λ id. not (has_id [] id)) ids) ∙ all_stay ids

pub may_leave : (ids : List (List ℕ)) (m : Message) → Leaves m → may_register ids m ≡ true
may_leave ids m k = ap₂ (λ comes gone. list_all (λ id. not (has_id ids id)) comes && list_all (has_id ids) gone) k.comes k.goes

pub may_add : (ids : List (List ℕ)) (m : Message) (rs : List Registration) → Adds m rs → ((x : List ℕ) → has_id (names rs) x ≡ true → has_id ids x ≡ false) → may_register ids m ≡ true
may_add ids m rs k h = ap₂ (λ comes gone. list_all (λ id. not (has_id ids id)) comes && list_all (has_id ids) gone) k.comes k.goes ∙ and_true (list_all (λ id. not (has_id ids id)) (names rs))
    ∙ all_pass (λ id. not (has_id ids id)) (names rs) (names rs) (λ x i. i) (λ x i. ap not (h x i))

pub may_drop : (ids : List (List ℕ)) (m : Message) (rs : List Registration) → Drops m rs → ((x : List ℕ) → has_id (names rs) x ≡ true → has_id ids x ≡ true) → may_register ids m ≡ true
may_drop ids m rs k h = ap₂ (λ comes gone. list_all (λ id. not (has_id ids id)) comes && list_all (has_id ids) gone) k.comes k.goes ∙ all_pass (has_id ids) (names rs) (names rs) (λ x i. i) h

-- The texts

pub register_adds : (rs : List Registration) → AreWritten rs → (n : ℕ) → n < 2 ^ 128 → Adds (message_of (register_text rs n)) rs
register_adds rs h n small = let k = register_tells rs h n small in record { comes = ap registered_in k.1.0 ∙ k.1.1; goes = ap unregistered_in k.1.0 }

pub unregister_drops : (rs : List Registration) → AreWritten rs → (n : ℕ) → n < 2 ^ 128 → Drops (message_of (unregister_text rs n)) rs
unregister_drops rs h n small = let k = unregister_tells rs h n small in record { comes = ap registered_in k.1.0; goes = ap unregistered_in k.1.0 ∙ k.1.1 }

-- another message
not_named : (named method : List ℕ) → is_registering named ≡ true → is_registering method ≡ false → bytes_eq named method ≡ false
not_named named method all other = go (bytes_eq named method) refl
  where
    go : (b : Bool) → bytes_eq named method ≡ b → b ≡ false
    go true same = never (sym (ap is_registering (sym ((bytes_eq-Decides named method).0 same)) ∙ all) ∙ other)
    go false off = refl

abbrev pub is_about : Message → Bool
is_about (request id method params) = is_registering method
is_about other = false

register_is : is_registering (codes "client/registerCapability") ≡ true
unfolding server_request
register_is = refl

pub unregister_is : is_registering (codes "client/unregisterCapability") ≡ true
unfolding server_request
unregister_is = refl

pub create_apart : is_registering (codes "window/workDoneProgress/create") ≡ false
unfolding server_request
create_apart = refl

pub leaves_other : (m : Message) → is_about m ≡ false → Leaves m
leaves_other (request id method params) h = record {
  comes = ap (λ b. if b then ids_in (listed (named_of (codes "registrations") params)) else []) (not_named (codes "client/registerCapability") method register_is h);
  goes = ap (λ b. if b then ids_in (listed (named_of (codes "unregisterations") params)) else []) (not_named (codes "client/unregisterCapability") method unregister_is h);
}
leaves_other (notification method params) h = record { comes = refl; goes = refl }
leaves_other (result id r) h = record { comes = refl; goes = refl }
leaves_other (error id r) h = record { comes = refl; goes = refl }
leaves_other not_json h = record { comes = refl; goes = refl }
leaves_other not_message h = record { comes = refl; goes = refl }

-- In turn

-- S6: what comes again is taken back, and then the items are registered
turn : (a b : Bool) → (((a && not (a && b)) || b)) ≡ ((a && not b) || b)
turn true true = refl
turn true false = refl
turn false true = refl
turn false false = refl

off_behind : (a b : Bool) → b ≡ true → (a && not (a && b)) ≡ false
off_behind true true h = refl
off_behind false true h = refl
off_behind a false h = never (sym h)

in_both : (a b : Bool) → (a && b) ≡ true → a ≡ true
in_both true b h = refl
in_both false b h = never (sym h)

pub again_in : (ids : List (List ℕ)) (items live : List Registration) → Same ids live → (x : List ℕ) → has_id (names (again items live)) x ≡ true → has_id ids x ≡ true
again_in ids items live same x h = same x ∙ in_both (has_id (names live) x) (has_id (names items) x) (sym (has_again items live x) ∙ h)

-- behind the first of the two
pub record Between (ids : List (List ℕ)) (items live : List Registration) : Type 0 where
  pub has : (x : List ℕ) → has_id ids x ≡ (has_id (names live) x && not (has_id (names (again items live)) x))

pub between_dropped : (ids : List (List ℕ)) (m : Message) (items live : List Registration) → Drops m (again items live) → Same ids live → Between (after_told ids m) items live
between_dropped ids m items live k same = record { has = λ x. dropped ids m (again items live) k x ∙ ap (λ b. b && not (has_id (names (again items live)) x)) (same x) }

pub between_none : (ids : List (List ℕ)) (items live : List Registration) → again items live ≡ [] → Same ids live → Between ids items live
between_none ids items live none same = record { has = λ x. same x ∙ sym (ap (λ rs. has_id (names live) x && not (has_id (names rs) x)) none ∙ and_true (has_id (names live) x)) }

pub items_out : (ids : List (List ℕ)) (items live : List Registration) → Between ids items live → (x : List ℕ) → has_id (names items) x ≡ true → has_id ids x ≡ false
items_out ids items live k x h = k.has x ∙ ap (λ b. has_id (names live) x && not b) (has_again items live x) ∙ off_behind (has_id (names live) x) (has_id (names items) x) h

pub same_added : (ids : List (List ℕ)) (m : Message) (items live : List Registration) → Adds m items → Between ids items live → Same (after_told ids m) (others items live ++ items)
same_added ids m items live k between x = added ids m items k x ∙ ap (λ b. b || has_id (names items) x) (between.has x ∙ ap (λ b. has_id (names live) x && not b) (has_again items live x))
    ∙ turn (has_id (names live) x) (has_id (names items) x) ∙ sym (has_both (others items live) items x ∙ ap (λ b. b || has_id (names items) x) (has_others items live x))

-- S7
drop_turn : (a b : Bool) → (a && not (a && b)) ≡ (a && not b)
drop_turn true b = refl
drop_turn false b = refl

pub same_dropped : (ids : List (List ℕ)) (m : Message) (items live : List Registration) → Drops m (again items live) → Same ids live → Same (after_told ids m) (others items live)
same_dropped ids m items live k same x = dropped ids m (again items live) k x ∙ ap (λ b. b && not (has_id (names (again items live)) x)) (same x)
    ∙ ap (λ b. has_id (names live) x && not b) (has_again items live x) ∙ drop_turn (has_id (names live) x) (has_id (names items) x) ∙ sym (has_others items live x)

-- L2
pub same_all : (m : Message) (live : List Registration) → Adds m live → Same (after_told [] m) live
same_all m live k x = added [] m live k x
