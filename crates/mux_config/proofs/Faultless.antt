-- What is true of settings with no fault.
use Rattle.std.proofs.Common.{◌≡◌, ℕ, ◌≤◌, ◌<◌, Bool, true, false, cond, List, [], ◌∷◌, ◌++◌, Option, Some, None, option_and_then, codes, Ordering, Less, Equal, Greater, nat_cmp, refl, sym, ap, ◌∙◌, subst, arith}
use Rattle.std.proofs.lemmas.Bool.Decides.{nat_tests}
use Rattle.std.proofs.lemmas.Cmp.{ranked}
use Rattle.std.specs.Cmp.Lexicographic.{slice_cmp}
use Rattle.std.specs.Ordering.{match_ordering, ordering_then, MatchOrdering}
use Rattle.toml.specs.Data.{Data, string, integer, float, boolean, datetime, array, table, Members, no_members, member, get_member, as_table}
use Rattle.mux_config.specs.Faults.{Fault, first_in, comes_before}
use Rattle.mux_config.specs.Settings.{range_unless, fault_at, wrong_key, keys_faults, key_faults, key_path, missing_unless, servers_faults, servers_in, count, wrong_at, top_faults, says_servers, holds_servers, are_servers, faults_in_servers, faults_of, fault_of}
use Rattle.mux_config.specs.declared.first.Sort.{Sort}

-- a fault that was noted is not forgotten
noted : (f : Fault) (fs : List Fault) → first_in (Some f) fs ≡ None → ⊥
noted f [] e = cc
noted f (g ∷ fs) e = by_test (comes_before g f) (noted g fs) (noted f fs) e
  where
    by_test : (b : Bool) → (first_in (Some g) fs ≡ None → ⊥) → (first_in (Some f) fs ≡ None → ⊥) → first_in (cond b (Some g) (Some f)) fs ≡ None → ⊥
    by_test true new old h = new h
    by_test false new old h = old h

pub none_noted : (fs : List Fault) → first_in None fs ≡ None → fs ≡ []
none_noted [] e = refl
none_noted (f ∷ fs) e = absurd (noted f fs e)

pub nil_front : {A : Type 0} (xs ys : List A) → xs ++ ys ≡ [] → xs ≡ []
nil_front [] ys e = refl
nil_front (x ∷ xs) ys e = absurd (cc)

pub nil_back : {A : Type 0} (xs ys : List A) → xs ++ ys ≡ [] → ys ≡ []
nil_back [] ys e = e
nil_back (x ∷ xs) ys e = absurd (cc)

nothing_wrong : (path : List ℕ) (o : Option Sort) → fault_at path o ≡ [] → o ≡ None
nothing_wrong path None e = refl
nothing_wrong path (Some s) e = absurd (cc)

pub fits : (b : Bool) → range_unless b ≡ None → b ≡ true
fits true e = refl
fits false e = absurd (cc)

pub not_missing : (b : Bool) (path : List ℕ) → missing_unless b path ≡ [] → b ≡ true
not_missing true path e = refl
not_missing false path e = absurd (cc)

pub same_key : (k l : List ℕ) → slice_cmp nat_cmp k l ≡ Equal → k ≡ l
same_key [] [] e = refl
same_key [] (y ∷ ys) e = absurd (cc)
same_key (x ∷ xs) [] e = absurd (cc)
same_key (x ∷ xs) (y ∷ ys) e = by_order (nat_cmp x y) (ranked x y (nat_cmp x y) refl) (same_key xs ys) e
  where
    by_order : (o : Ordering) → MatchOrdering o (x < y) (x ≡ y) (y < x) → (slice_cmp nat_cmp xs ys ≡ Equal → xs ≡ ys) → ordering_then o (slice_cmp nat_cmp xs ys) ≡ Equal → x ∷ xs ≡ y ∷ ys
    by_order Less h more s = absurd (cc)
    by_order Equal h more s = rw (h, more s) refl
    by_order Greater h more s = absurd (cc)

-- what is found at a key is here, or later
at_key : (P : List ℕ → Data → Type 0) (o : Ordering) (k l : List ℕ) (c d : Data) (rest : Option Data) → slice_cmp nat_cmp k l ≡ o → match_ordering o rest (Some c) rest ≡ Some d → P l c → (rest ≡ Some d → P k d) → P k d
at_key P Less k l c d rest s e here later = later e
at_key P Equal k l c d rest s e here later =
    let same : c ≡ d = cc in
    subst (λ z. P z d) (sym (same_key k l s)) (subst (λ z. P l z) same here)
at_key P Greater k l c d rest s e here later = later e

top_key : (ms more : Members) (k : List ℕ) (d : Data) → top_faults ms more ≡ [] → get_member k more ≡ Some d → wrong_at ms k d ≡ None
top_key ms no_members k d none e = absurd (cc)
top_key ms (member l c more) k d none e =
    at_key (λ k d. wrong_at ms k d ≡ None) (slice_cmp nat_cmp k l) k l c d (get_member k more) refl e
    (nothing_wrong l (wrong_at ms l c) (nil_front (fault_at l (wrong_at ms l c)) (top_faults ms more) none))
    (λ f. top_key ms more k d (nil_back (fault_at l (wrong_at ms l c)) (top_faults ms more) none) f)

pub server_key : (name : List ℕ) (ms : Members) (k : List ℕ) (d : Data) → keys_faults name ms ≡ [] → get_member k ms ≡ Some d → wrong_key k d ≡ None
server_key name no_members k d none e = absurd (cc)
server_key name (member l c ms) k d none e =
    at_key (λ k d. wrong_key k d ≡ None) (slice_cmp nat_cmp k l) k l c d (get_member k ms) refl e
    (nothing_wrong (key_path name l) (wrong_key l c) (nil_front (key_faults name l c) (keys_faults name ms) none))
    (λ f. server_key name ms k d (nil_back (key_faults name l c) (keys_faults name ms) none) f)

-- the parts of settings with no fault
no_faults : (ms : Members) → fault_of ms ≡ None → faults_of ms ≡ []
no_faults ms e = none_noted (faults_of ms) e

pub key_fits : (ms : Members) (k : List ℕ) (d : Data) → fault_of ms ≡ None → get_member k ms ≡ Some d → wrong_at ms k d ≡ None
key_fits ms k d e found = top_key ms ms k d (nil_front (top_faults ms ms) _ (no_faults ms e)) found

pub server_there : (ms : Members) → fault_of ms ≡ None → says_servers (get_member (codes "server") ms) ≡ true
server_there ms e = not_missing _ (codes "server") (nil_front _ (faults_in_servers (servers_in ms)) (nil_back (top_faults ms ms) _ (no_faults ms e)))

pub servers_fit : (ms servers : Members) → fault_of ms ≡ None → servers_in ms ≡ Some servers → servers_faults servers ≡ []
servers_fit ms servers e found =
    let all = nil_back (missing_unless (says_servers (get_member (codes "server") ms)) (codes "server")) (faults_in_servers (servers_in ms)) (nil_back (top_faults ms ms) _ (no_faults ms e)) in
    subst (λ o. faults_in_servers o ≡ []) found all

-- the table of servers is there, and has 1 to 1,024 of them
pub record Servers (ms : Members) : Type 0 where
  pub servers : Members
  pub found : servers_in ms ≡ Some servers
  pub some : 1 ≤ count servers
  pub few : count servers ≤ 1024

-- of a value in the place of the servers
table_kept : (d : Data) → holds_servers (as_table d) ≡ true → are_servers d ≡ true → (servers : Members) × (as_table d ≡ Some servers) × (1 ≤ count servers) × (count servers ≤ 1024)
table_kept (table servers) some few = (servers, refl, grind (arith, nat_tests), grind (arith, nat_tests))
table_kept (string x) some few = absurd (cc)
table_kept (integer x) some few = absurd (cc)
table_kept (float x) some few = absurd (cc)
table_kept (boolean x) some few = absurd (cc)
table_kept (datetime x) some few = absurd (cc)
table_kept (array x) some few = absurd (cc)

pub servers_kept : (ms : Members) → fault_of ms ≡ None → Servers ms
servers_kept ms e = by_value (get_member (codes "server") ms) refl (server_there ms e)
  where
    by_value : (o : Option Data) → get_member (codes "server") ms ≡ o → says_servers o ≡ true → Servers ms
    by_value None g s = absurd (cc)
    by_value (Some d) g s =
        let k = table_kept d s (fits (are_servers d) (key_fits ms (codes "server") d e g)) in
        record { servers = k.0; found = ap (option_and_then as_table) g ∙ k.1; some = k.2; few = k.3 }
