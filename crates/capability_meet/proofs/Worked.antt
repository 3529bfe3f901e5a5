-- Capabilities compared, met and declared, worked out by the checker.
use Rattle.std.proofs.Common.{◌≡◌, ℕ, Bool, true, false, List, refl}
use Rattle.std.specs.Prelude.{Option, Some, codes}
use Rattle.std.specs.Option.{option_and_then, option_map}
use Rattle.json_text.specs.Computes.{computes}
use Rattle.json_text.specs.Named.{named}
use Rattle.json_text.specs.Tree.{tree_of}
use Rattle.capability_meet.specs.DeclaredTree.{declared_of}
use Rattle.capability_meet.specs.MeetTree.{meet_of}
use Rattle.capability_meet.specs.Order.{below}
use Rattle.capability_meet.specs.Shown.{shown_text}

abbrev below_text : List ℕ → List ℕ → Option Bool
below_text a b = option_and_then (λ j. option_map (λ k. below j k) (tree_of b)) (tree_of a)

abbrev declared_alone : List ℕ → Option (List ℕ)
declared_alone a = declared_of a a

-- three editors: the second lacks what the first declares, the third offers more

abbrev edits : List ℕ
edits = codes "{\"workspace\":{\"applyEdit\":true}}"

edits_declared : declared_alone edits ≡ Some edits
unfolding computes named
edits_declared = refl

nothing_declared : declared_alone (codes "{}") ≡ Some (codes "{}")
unfolding computes named
nothing_declared = refl

second_lacks : below_text edits (codes "{}") ≡ Some false
unfolding computes named
second_lacks = refl

third_offers_more : below_text edits (codes "{\"workspace\":{\"applyEdit\":true,\"configuration\":true}}") ≡ Some true
unfolding computes named
third_offers_more = refl

-- what is false isn't declared

folders : declared_alone (codes "{\"workspace\":{\"applyEdit\":true,\"workspaceFolders\":true},\"textDocument\":{\"synchronization\":{\"dynamicRegistration\":false,\"didSave\":true}},\"general\":{\"positionEncodings\":[\"utf-16\"]}}")
    ≡ Some (codes "{\"workspace\":{\"applyEdit\":true,\"workspaceFolders\":true},\"textDocument\":{\"synchronization\":{\"didSave\":true}},\"general\":{\"positionEncodings\":[\"utf-16\"]}}")
unfolding computes named
folders = refl

-- the member support of showDocument, and cancel of staleRequestSupport

support_is_put_back : declared_alone (codes "{\"window\":{\"showDocument\":{\"support\":false},\"showMessage\":{}}}") ≡ Some (codes "{\"window\":{\"showDocument\":{\"support\":false},\"showMessage\":{}}}")
unfolding computes named
support_is_put_back = refl

support_is_put_behind : declared_alone (codes "{\"window\":{\"showDocument\":{\"support\":null,\"x\":1}}}") ≡ Some (codes "{\"window\":{\"showDocument\":{\"x\":1,\"support\":false}}}")
unfolding computes named
support_is_put_behind = refl

support_stays : declared_alone (codes "{\"window\":{\"showDocument\":{\"support\":true}}}") ≡ Some (codes "{\"window\":{\"showDocument\":{\"support\":true}}}")
unfolding computes named
support_stays = refl

support_of_the_ceiling : declared_of (codes "{\"window\":{\"showDocument\":{\"support\":true}}}") (codes "{\"window\":{\"showDocument\":{}}}") ≡ Some (codes "{\"window\":{\"showDocument\":{\"support\":false}}}")
unfolding computes named
support_of_the_ceiling = refl

no_support_elsewhere : declared_alone (codes "{\"showDocument\":{},\"general\":{\"staleRequestSupport\":{\"retryOnContentModified\":[]}}}") ≡ Some (codes "{\"showDocument\":{},\"general\":{\"staleRequestSupport\":{\"retryOnContentModified\":[],\"cancel\":false}}}")
unfolding computes named
no_support_elsewhere = refl

not_by_meet : meet_of (codes "{\"window\":{\"showDocument\":{\"support\":false}}}") (codes "{\"window\":{\"showDocument\":{\"support\":false}}}") ≡ Some (codes "{\"window\":{\"showDocument\":{}}}")
unfolding computes named
not_by_meet = refl

-- members of the top level that aren't declared

left_out_at_the_top : declared_alone (codes "{\"offsetEncoding\":[\"utf-8\"],\"notebook\\u0044ocument\":{},\"x\":{\"offsetEncoding\":[\"utf-8\"]}}") ≡ Some (codes "{\"x\":{\"offsetEncoding\":[\"utf-8\"]}}")
unfolding computes named
left_out_at_the_top = refl

-- items lose the white space between their tokens, and nothing else

items_with_blanks : meet_of (codes "{ \"v\" : [ { \"a b\" : [ 1 , 2 ] , \"c\" : false } , 3 , \" x \" ] }") (codes "{\"v\":[3,\" x \",{\"c\":false,\"a b\":[1,2]}]}") ≡ Some (codes "{\"v\":[{\"a b\":[1,2],\"c\":false},3,\" x \"]}")
unfolding computes named
items_with_blanks = refl

items_keep_doubled_names : meet_of (codes "[{\"a\":1, \"\\u0061\": 2}]") (codes "[{\"a\":2}]") ≡ Some (codes "[{\"a\":1,\"\\u0061\":2}]")
unfolding computes named
items_keep_doubled_names = refl

-- a doubled name stands once, the last pair, at its own place with its own bytes

doubled_name : meet_of (codes "{\"x\":{\"a\":true},\"y\":true,\"\\u0078\":{\"b\":true}}") (codes "{\"y\":true,\"x\":{\"a\":true},\"x\":{\"a\":true,\"b\":true}}") ≡ Some (codes "{\"y\":true,\"\\u0078\":{\"b\":true}}")
unfolding computes named
doubled_name = refl

-- nothing in common

least_whole : meet_of (codes "1") (codes "2") ≡ Some (codes "{}")
unfolding computes named
least_whole = refl

-- shown

shown_without : option_map (shown_text (codes "{\"capabilities\": {\"hover\":true, \"notebookDocumentSync\":{}}}")) (tree_of (codes "{\"capabilities\": {\"hover\":true, \"notebookDocumentSync\":{}}}")) ≡ Some (codes "{\"capabilities\": {\"hover\":true}}")
unfolding computes named
shown_without = refl
