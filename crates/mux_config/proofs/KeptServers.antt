-- The servers of settings with no fault.
use Rattle.std.proofs.Common.{◌≡◌, ℕ, suc, ◌≤◌, ◌<◌, Bool, true, false, ◌&&◌, nat_le, bytes_eq, cond, List, [], length, Option, Some, None, IfSome, option_and_then, is_some, codes, IsUtf8, Ordering, Less, Equal, Greater, nat_cmp, refl, sym, ap, ◌∙◌, subst, arith}
use Rattle.std.proofs.lemmas.Bool.{and_parts}
use Rattle.std.proofs.lemmas.Bool.Decides.{nat_tests}
use Rattle.std.proofs.lemmas.Cmp.{nat_list_eq_equiv}
use lib.Utf8.{encode}
use Rattle.std.specs.Cmp.Lexicographic.{slice_cmp}
use Rattle.std.specs.List.{AllByRecursion}
use Rattle.std.specs.List.Sorted.{IsStrictlySortedBy}
use Rattle.std.specs.Ordering.{match_ordering}
use Rattle.json_text.specs.Tree.{tree_of}
use Rattle.toml.specs.Data.{Data, string, integer, float, boolean, datetime, array, table, Items, no_items, item, Members, no_members, member, get, get_member, as_str, as_array}
use Rattle.mux_config.specs.Settings.{all_strings, has_item, is_command, is_ceiling, is_object, is_server, servers_in, server_faults, servers_faults, keys_faults, missing_unless, key_path, count, fault_of}
use Rattle.mux_config.specs.Chosen.{Chosen, built_in, IsCeiling, IsInRange, names_of, servers_of, strings_of, words_of, command_of, commands_of, names_before, default_place, default_at, chosen_with, chosen_of}
use Rattle.mux_config.proofs.Faultless.{fits, key_fits, server_key, same_key, servers_fit, not_missing, nil_front, nil_back}
use Rattle.mux_config.proofs.Kept.{links_kept, content_kept, limits_kept, place_kept}

-- ceilings

text_fits : (s : List ℕ) → is_ceiling (string s) ≡ true → IsCeiling s
text_fits s e = let (a, b) = and_parts (nat_le (length s) 1048576) (is_object (tree_of s)) e in (grind (arith, nat_tests), b)

ceiling_fits : (d : Data) → is_ceiling d ≡ true → IfSome (as_str d) IsCeiling
ceiling_fits (string s) e = text_fits s e
ceiling_fits (integer x) e = tt
ceiling_fits (float x) e = tt
ceiling_fits (boolean x) e = tt
ceiling_fits (datetime x) e = tt
ceiling_fits (array x) e = tt
ceiling_fits (table x) e = tt

ceiling_kept : (name : List ℕ) (ms : Members) → keys_faults name ms ≡ [] → IfSome (option_and_then as_str (get_member (codes "ceiling") ms)) IsCeiling
ceiling_kept name ms none = by_value (get_member (codes "ceiling") ms) refl
  where
    by_value : (o : Option Data) → get_member (codes "ceiling") ms ≡ o → IfSome (option_and_then as_str o) IsCeiling
    by_value None e = tt
    by_value (Some d) e = ceiling_fits d (fits (is_ceiling d) (server_key name ms (codes "ceiling") d none e))

-- commands

words_some : (ds : Items) → (has_item ds && all_strings ds) ≡ true → 1 ≤ length (strings_of ds)
words_some no_items e = absurd (cc)
words_some (item (string s) ds) e = omega arith
words_some (item (integer x) ds) e = absurd (cc)
words_some (item (float x) ds) e = absurd (cc)
words_some (item (boolean x) ds) e = absurd (cc)
words_some (item (datetime x) ds) e = absurd (cc)
words_some (item (array x) ds) e = absurd (cc)
words_some (item (table x) ds) e = absurd (cc)

command_some : (d : Data) → is_command d ≡ true → 1 ≤ length (words_of (as_array d))
command_some (array ds) e = words_some ds e
command_some (string x) e = absurd (cc)
command_some (integer x) e = absurd (cc)
command_some (float x) e = absurd (cc)
command_some (boolean x) e = absurd (cc)
command_some (datetime x) e = absurd (cc)
command_some (table x) e = absurd (cc)

command_kept : (name : List ℕ) (ms : Members) → keys_faults name ms ≡ [] → is_some (get_member (codes "command") ms) ≡ true → 1 ≤ length (words_of (option_and_then as_array (get_member (codes "command") ms)))
command_kept name ms none there = by_value (get_member (codes "command") ms) refl there
  where
    by_value : (o : Option Data) → get_member (codes "command") ms ≡ o → is_some o ≡ true → 1 ≤ length (words_of (option_and_then as_array o))
    by_value None e t = absurd (cc)
    by_value (Some d) e t = command_some d (fits (is_command d) (server_key name ms (codes "command") d none e))

-- one server, and each

record Fits (name : List ℕ) (d : Data) : Type 0 where
  pub ceiling : IfSome (option_and_then as_str (get (codes "ceiling") d)) IsCeiling
  pub words : 1 ≤ length (command_of d)

server_fits : (name : List ℕ) (d : Data) → server_faults name d ≡ [] → Fits name d
server_fits name (table ms) e =
    let none = nil_front (keys_faults name ms) (missing_unless (is_some (get_member (codes "command") ms)) (key_path name (codes "command"))) e in
    let there = not_missing (is_some (get_member (codes "command") ms)) (key_path name (codes "command")) (nil_back (keys_faults name ms) _ e) in
    record { ceiling = ceiling_kept name ms none; words = command_kept name ms none there }
server_fits name (string x) e = absurd (cc)
server_fits name (integer x) e = absurd (cc)
server_fits name (float x) e = absurd (cc)
server_fits name (boolean x) e = absurd (cc)
server_fits name (datetime x) e = absurd (cc)
server_fits name (array x) e = absurd (cc)

ceilings_kept : (ms : Members) → servers_faults ms ≡ [] → AllByRecursion (λ s. IfSome s.ceiling IsCeiling) (servers_of ms)
ceilings_kept no_members e = tt
ceilings_kept (member name d ms) e = ((server_fits name d (nil_front (server_faults name d) (servers_faults ms) e)).ceiling, ceilings_kept ms (nil_back (server_faults name d) (servers_faults ms) e))

words_kept : (ms : Members) → servers_faults ms ≡ [] → AllByRecursion (λ words. 1 ≤ length words) (commands_of ms)
words_kept no_members e = tt
words_kept (member name d ms) e = ((server_fits name d (nil_front (server_faults name d) (servers_faults ms) e)).words, words_kept ms (nil_back (server_faults name d) (servers_faults ms) e))

servers_counted : (ms : Members) → length (servers_of ms) ≡ count ms
servers_counted no_members = refl
servers_counted (member name d ms) = ap suc (servers_counted ms)

commands_counted : (ms : Members) → length (commands_of ms) ≡ count ms
commands_counted no_members = refl
commands_counted (member name d ms) = ap suc (commands_counted ms)

-- the server that is meant where an editor names none

named_before : (name : List ℕ) (ms : Members) → is_some (get_member name ms) ≡ true → names_before name ms < count ms
named_before name no_members e = absurd (cc)
named_before name (member k d ms) e = by_order (slice_cmp nat_cmp name k) refl (named_before name ms) e
  where
    later : names_before name ms < count ms → (b : Bool) → cond b 0 (suc (names_before name ms)) < suc (count ms)
    later h true = omega arith
    later h false = omega (arith, h)

    here : bytes_eq k name ≡ true → names_before name (member k d ms) < suc (count ms)
    here e = rw e (omega arith)

    by_order : (o : Ordering) → slice_cmp nat_cmp name k ≡ o → (is_some (get_member name ms) ≡ true → names_before name ms < count ms) → is_some (match_ordering o (get_member name ms) (Some d) (get_member name ms)) ≡ true → names_before name (member k d ms) < suc (count ms)
    by_order Less o more e = later (more e) (bytes_eq k name)
    by_order Equal o more e = here (subst (λ z. bytes_eq k z ≡ true) (sym (same_key name k o)) (nat_list_eq_equiv.refl k))
    by_order Greater o more e = later (more e) (bytes_eq k name)

named_kept : (ms servers : Members) (o : Option (List ℕ)) → servers_in ms ≡ Some servers → is_some (option_and_then (λ name. option_and_then (λ servers. get_member name servers) (servers_in ms)) o) ≡ true → default_place o servers < count servers
named_kept ms servers None found h = absurd (cc)
named_kept ms servers (Some name) found h = named_before name servers (rw found at h)

default_kept : (ms servers : Members) → fault_of ms ≡ None → servers_in ms ≡ Some servers → 1 ≤ count servers → default_at ms servers < count servers
default_kept ms servers e found some = by_value (get_member (codes "default") ms) refl
  where
    by_value : (o : Option Data) → get_member (codes "default") ms ≡ o → default_place (option_and_then as_str o) servers < count servers
    by_value None g = omega (arith, some)
    by_value (Some d) g = named_kept ms servers (as_str d) found (fits (is_server ms d) (key_fits ms (codes "default") d e g))

-- all of it
pub in_range : (ms servers : Members) → fault_of ms ≡ None → servers_in ms ≡ Some servers → 1 ≤ count servers → count servers ≤ 1024
    → AllByRecursion IsUtf8 (names_of (servers_of servers)) → IsStrictlySortedBy (slice_cmp nat_cmp) (names_of (servers_of servers)) → IsInRange (chosen_with ms servers)
in_range ms servers e found some few texts ascend =
    let none = servers_fit ms servers e found in
    let n = servers_counted servers in
    record {
      place = place_kept ms;
      links = links_kept ms;
      content = content_kept ms;
      limits = limits_kept ms;
      servers = record {
        count = (rw n some, rw n few);
        texts = texts;
        ascend = ascend;
        ceilings = ceilings_kept servers none;
      };
      default = rw n (default_kept ms servers e found some);
      commands = commands_counted servers ∙ sym n;
      words = words_kept servers none;
    }

pub in_range_by : (a b : Chosen) → IsInRange b → a ≡ b → IsInRange a
in_range_by a b h e = subst IsInRange (sym e) h

-- the table of the built-in settings
abbrev main : Members
main = member (codes "main") (table (member (codes "command") (array (item (string (codes "rust-analyzer")) no_items)) no_members)) no_members

main_text : IsUtf8 (codes "main")
unfolding encode
main_text = (codes "main", (refl, refl))

pub built_in_kept : IsInRange (chosen_of built_in)
unfolding IsStrictlySortedBy
built_in_kept = in_range built_in main refl refl (omega arith) (omega arith) (main_text, tt) (tt, tt)
