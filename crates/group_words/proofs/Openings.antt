-- The `initialize` that the starts of a group are sent is a request, whatever the body of the group's founder says.
use Rattle.std.proofs.Common.{◌≡◌, ℕ, suc, ◌+◌, ◌≤◌, Bool, true, false, List, [], ◌∷◌, ◌++◌, map, length, Option, Some, None, is_some, option_map, if◌then◌else◌, codes, IsUtf8, refl, sym, ◌∙◌, ap, subst, arith, append_assoc}
use Rattle.std.specs.Option.{option_and_then}
use Rattle.std.specs.List.{AllByRecursion}
use Rattle.std.specs.Str.{chars}
use Rattle.std.specs.List.{slice_get}
use Rattle.json.specs.Print.{escape, quoted}
use Rattle.json_text.specs.declared.kind.Word.TheVariants.{Null}
use Rattle.json_text.specs.Bare.{bare, nowhere}
use Rattle.json_text.specs.Json.{Json, word, number, string, array, object, Items, no_items, item, Members, no_members, member, value, span_of, IsText, depth, items_depth}
use Rattle.json_text.specs.Named.{named_in, items_list}
use Rattle.json_text.specs.Paths.{Step, key, index, item_at, step_to, value_at}
use Rattle.json_text.specs.Tree.{tree_of}
use Rattle.json_text.proofs.Compact.{bare_text, closing_none, closing_member, compact_object, empty_object, null_word}
use Rattle.json_text.proofs.Depths.{step_below}
use Rattle.json_text.proofs.Forms.{says, says_more_items}
use Rattle.json_text.proofs.Inside.{Inside, path_inside, InSpan, value_in_span}
use Rattle.json_text.proofs.Laws.{tree_complete, tree_sound}
use Rattle.json_text.proofs.Moves.{Placed, PlacedText, moved, placed, placed_text}
use Rattle.json_text.proofs.Put.{depth_bare}
use Rattle.capability_meet.specs.json_token.proofs.Scalars.{scalar_string, utf8_characters}
use Rattle.event_model.specs.rpc_message.proofs.Strings.{spells_text}
use Rattle.event_model.specs.rpc_message.specs.Message.{integer, request, slice_of, message_of}
use Rattle.event_model.specs.rpc_message.specs.Texts.{initialize_params}
use Rattle.event_model.specs.rpc_message.specs.ValueTexts.{IsOptionText, IsShallowText, IsValueText, option_depth}
use Rattle.event_model.specs.rpc_message.proofs.Opening.{initialize_law, value_says}
use Rattle.event_model.specs.rpc_message.proofs.Standing.{place_named}
use Rattle.capability_meet.specs.Compact.{compact}
use Rattle.capability_meet.specs.DeclaredTree.{declared_of, declared_tree}
use Rattle.capability_meet.specs.Meet.{meets}
use Rattle.capability_meet.specs.MeetTree.{whole_text}
use Rattle.capability_meet.specs.Parts.{listed as joined}
use Rattle.capability_meet.proofs.MeetSays.{array_says, declared_stands, first_item, one_more_item}
use Rattle.event_model.specs.Event.{Event}
use Rattle.event_model.specs.Members.{named_of, params_of, string_of, listed, bytes_if}
use Rattle.event_model.specs.Settings.{Settings}
use Rattle.group_words.specs.Houses.{ceiling_of, declared_for, folder_of, folders_in, folders_of, given_or, is_object, key_for, offered, or_root, server_for}
use Rattle.group_words.specs.declared.kept.Kept.{Kept}
use Rattle.group_words.specs.Placing.{founded, over}
use Rattle.group_words.specs.Rows.{folder_text, folders_text, initialize_of, root_of, wants_folders}
use lib.Utf8.{scalars}

-- strings of scalar values

-- a value that stands somewhere
record Somewhere (t : Json) : Type 0 where
  at : ℕ
  bytes : List ℕ
  stands : value t at bytes

step_somewhere : (s : Step) (j t : Json) → Somewhere j → step_to s j ≡ Some t → Somewhere t
unfolding value_at
step_somewhere s j t h e =
    let i : Inside h.at h.bytes t = path_inside (s ∷ []) j t (ap (λ o. option_and_then (λ k. Some k) o) e) h.at h.bytes h.stands in
    record { at = h.at + length i.before; bytes = i.bytes; stands = i.stands }

-- a value that may be there, and then stands somewhere
abbrev MayStand : Option Json → Type 0
MayStand None = Unit {0}
MayStand (Some j) = Somewhere j

named_stands : (name : List ℕ) (o : Option Json) → MayStand o → MayStand (named_of name o)
named_stands name None h = tt
named_stands name (Some j) h = go (named_in name j) refl
  where
    go : (o : Option Json) → named_in name j ≡ o → MayStand o
    go None e = tt
    go (Some t) e = step_somewhere (key name) j t h e

-- characters that may be there, and are then scalar values
abbrev MayScalars : Option (List ℕ) → Type 0
MayScalars None = Unit {0}
MayScalars (Some cs) = scalars cs ≡ true

string_scalars : (o : Option Json) → MayStand o → MayScalars (string_of o)
string_scalars (Some (string s cs)) h = scalar_string s cs h.at h.bytes h.stands
string_scalars (Some (word s w)) h = tt
string_scalars (Some (number s ds)) h = tt
string_scalars (Some (array s js)) h = tt
string_scalars (Some (object s ms)) h = tt
string_scalars None h = tt

-- the uri and the name of a folder are UTF-8
abbrev pub FolderUtf8 : List ℕ × List ℕ → Type 0
FolderUtf8 f = IsUtf8 f.0 × IsUtf8 f.1

abbrev pub FoldersUtf8 : List (List ℕ × List ℕ) → Type 0
FoldersUtf8 folders = AllByRecursion FolderUtf8 folders

folder_utf8 : (uri name : Option (List ℕ)) → MayScalars uri → MayScalars name → FoldersUtf8 (folder_of uri name)
folder_utf8 None name h g = tt
folder_utf8 (Some cs) None h g = (((utf8_characters cs h).0, (utf8_characters cs h).0), tt)
folder_utf8 (Some cs) (Some ds) h g = (((utf8_characters cs h).0, (utf8_characters ds g).0), tt)

append_utf8 : (xs ys : List (List ℕ × List ℕ)) → FoldersUtf8 xs → FoldersUtf8 ys → FoldersUtf8 (xs ++ ys)
append_utf8 [] ys h g = g
append_utf8 (x ∷ xs) ys h g = (h.0, append_utf8 xs ys h.1 g)

items_utf8 : (js : Items) → ((n : ℕ) (t : Json) → item_at n js ≡ Some t → Somewhere t) → FoldersUtf8 (folders_in (items_list js))
unfolding item_at
items_utf8 no_items f = tt
items_utf8 (item j js) f = append_utf8 (folder_of (string_of (named_of (codes "uri") (Some j))) (string_of (named_of (codes "name") (Some j)))) (folders_in (items_list js))
    (folder_utf8 (string_of (named_of (codes "uri") (Some j))) (string_of (named_of (codes "name") (Some j)))
    (string_scalars (named_of (codes "uri") (Some j)) (named_stands (codes "uri") (Some j) (f 0 j refl))) (string_scalars (named_of (codes "name") (Some j)) (named_stands (codes "name") (Some j) (f 0 j refl))))
    (items_utf8 js (λ n t e. f (suc n) t e))

listed_utf8 : (o : Option Json) → MayStand o → FoldersUtf8 (folders_in (listed o))
listed_utf8 (Some (array s js)) h = items_utf8 js (λ n t e. step_somewhere (index n) (array s js) t h e)
listed_utf8 (Some (word s w)) h = tt
listed_utf8 (Some (number s ds)) h = tt
listed_utf8 (Some (string s cs)) h = tt
listed_utf8 (Some (object s ms)) h = tt
listed_utf8 None h = tt

rooted_utf8 : (folders : List (List ℕ × List ℕ)) (root : Option (List ℕ)) → FoldersUtf8 folders → MayScalars root → FoldersUtf8 (or_root folders root)
rooted_utf8 (x ∷ xs) root h g = h
rooted_utf8 [] root h g = folder_utf8 root None g tt

params_utf8 : (params : Option Json) → MayStand params → FoldersUtf8 (folders_of params)
params_utf8 params h = rooted_utf8 (folders_in (listed (named_of (codes "workspaceFolders") params))) (string_of (named_of (codes "rootUri") params))
    (listed_utf8 (named_of (codes "workspaceFolders") params) (named_stands (codes "workspaceFolders") params h))
    (string_scalars (named_of (codes "rootUri") params) (named_stands (codes "rootUri") params h))

-- a text stands somewhere
text_stands : (body : List ℕ) (j : Json) → IsText body j → Somewhere j
text_stands body j h = record { at = 0 + length h.0; bytes = h.4.0; stands = h.4.3 }

-- the folders of any body
pub folders_utf8 : (body : List ℕ) → FoldersUtf8 (folders_of (params_of body))
folders_utf8 body = go (tree_of body) refl
  where
    go : (o : Option Json) → tree_of body ≡ o → FoldersUtf8 (folders_of (named_of (codes "params") o))
    go None e = tt
    go (Some j) e = params_utf8 (named_in (codes "params") j) (named_stands (codes "params") (Some j) (text_stands body j (tree_sound body j e).0))

-- bytes that are a value's text, of a value that is not too deep
record Written (bytes : List ℕ) : Type 0 where
  tree : Json
  text : IsValueText tree bytes
  shallow : depth tree ≤ 1022

said_written : (j : Json) (bytes : List ℕ) → says j bytes → depth j ≤ 1022 → Written bytes
said_written j bytes h d =
    let p : Placed j 0 bytes = placed j 0 bytes h in
    record { tree = bare j; text = record { tree = p.tree; stands = p.stands; same = p.same }; shallow = omega (arith, d, depth_bare j) }

quoted_says : (text : List ℕ) → IsUtf8 text → says (string nowhere (chars text)) (quoted text)
quoted_says text u = (34 ∷ [], escape text ++ 34 ∷ [], refl, refl, (escape text, 34 ∷ [], refl, spells_text text u, refl))

-- the root
root_written : (folders : List (List ℕ × List ℕ)) → FoldersUtf8 folders → Written (root_of folders)
root_written [] h = said_written (word nowhere Null) (codes "null") (null_word nowhere) (omega arith)
root_written (f ∷ fs) h = said_written (string nowhere (chars f.0)) (quoted f.0) (quoted_says f.0 h.0.0) (omega arith)

-- the folders, as they are written
folder_members : List ℕ × List ℕ → Members
folder_members f = member nowhere (codes "uri") (string nowhere (chars f.0)) (member nowhere (codes "name") (string nowhere (chars f.1)) no_members)

folder_items : List (List ℕ × List ℕ) → Items
folder_items [] = no_items
folder_items (f ∷ fs) = item (object nowhere (folder_members f)) (folder_items fs)

folder_shape : (f : List ℕ × List ℕ) → folder_text f ≡ codes "{\"uri\":" ++ (quoted f.0 ++ (codes ",\"name\":" ++ (quoted f.1 ++ codes "}")))
folder_shape f = simp append_assoc

folder_says : (f : List ℕ × List ℕ) → FolderUtf8 f → says (object nowhere (folder_members f)) (folder_text f)
unfolding folder_members
folder_says f h = subst (λ bs. says (object nowhere (folder_members f)) bs) (sym (folder_shape f)) (compact_object nowhere nowhere (codes "uri") (string nowhere (chars f.0)) (member nowhere (codes "name") (string nowhere (chars f.1)) no_members) (quoted f.0) (codes ",\"name\":" ++ (quoted f.1 ++ codes "}")) refl (quoted_says f.0 h.0)
    (closing_member nowhere (codes "name") (string nowhere (chars f.1)) no_members (quoted f.1) (codes "}") refl (quoted_says f.1 h.1) closing_none))

more_folders : (fs : List (List ℕ × List ℕ)) → FoldersUtf8 fs → says_more_items (folder_items fs) (joined true (map folder_text fs))
unfolding folder_items
more_folders [] h = refl
more_folders (f ∷ fs) h = one_more_item (object nowhere (folder_members f)) (folder_items fs) (folder_text f) (joined true (map folder_text fs)) (folder_says f h.0) (more_folders fs h.1)

folders_deep : (fs : List (List ℕ × List ℕ)) → items_depth (folder_items fs) ≤ 1
unfolding folder_items folder_members
folders_deep [] = omega arith
folders_deep (f ∷ fs) = let h = folders_deep fs in omega (arith, h)

folders_written : (fs : List (List ℕ × List ℕ)) → FoldersUtf8 fs → Written (folders_text fs)
unfolding folder_items
folders_written [] h = said_written (word nowhere Null) (codes "null") (null_word nowhere) (omega arith)
folders_written (f ∷ fs) h = said_written (array nowhere (folder_items (f ∷ fs))) (folders_text (f ∷ fs))
    (array_says nowhere (folder_items (f ∷ fs)) (map folder_text (f ∷ fs)) (first_item (object nowhere (folder_members f)) (folder_items fs) (folder_text f) (joined true (map folder_text fs)) (folder_says f h.0) (more_folders fs h.1)))
    (let d = folders_deep (f ∷ fs) in omega (arith, d))

-- bytes that may be there
record OptionWritten (bytes : Option (List ℕ)) : Type 0 where
  tree : Option Json
  text : IsOptionText tree bytes
  shallow : option_depth tree ≤ 1022

none_written : OptionWritten None
none_written = record { tree = None; text = tt; shallow = omega arith }

some_written : (bytes : List ℕ) → Written bytes → OptionWritten (Some bytes)
some_written bytes h = record { tree = Some h.tree; text = h.text; shallow = h.shallow }

-- a value two levels down, in its span
slice_written : (body : List ℕ) (j p t : Json) (name inner : List ℕ) → IsText body j → depth j ≤ 1024 → named_in name j ≡ Some p → named_in inner p ≡ Some t → Written (slice_of body (Some (span_of t)))
unfolding value_at
slice_written body j p t name inner text deep e f =
    let there : value_at (key name ∷ key inner ∷ []) j ≡ Some t = ap (λ o. option_and_then (λ k. value_at (key inner ∷ []) k) o) e ∙ ap (λ o. option_and_then (λ k. Some k) o) f in
    let i : InSpan body t = value_in_span body (key name ∷ key inner ∷ []) j t text there in
    let m : Placed t 0 (slice_of body (Some (span_of t))) = moved t (span_of t).from (slice_of body (Some (span_of t))) i.stands 0 in
    record { tree = bare t; text = record { tree = m.tree; stands = m.stands; same = m.same }; shallow = omega (arith, depth_bare t, step_below (key name) j p e, step_below (key inner) p t f) }

member_written : (body : List ℕ) (j p : Json) (name inner : List ℕ) → IsText body j → depth j ≤ 1024 → named_in name j ≡ Some p → OptionWritten (bytes_if inner (Some p) body)
member_written body j p name inner text deep e = subst (λ s. OptionWritten (if is_some (named_in inner p) then Some (slice_of body s) else None)) (sym (place_named inner p)) (go (named_in inner p) refl)
  where
    go : (o : Option Json) → named_in inner p ≡ o → OptionWritten (if is_some o then Some (slice_of body (option_map span_of o)) else None)
    go None f = none_written
    go (Some t) f = some_written (slice_of body (Some (span_of t))) (slice_written body j p t name inner text deep e f)

-- a member of a body's params
params_written : (body inner : List ℕ) → OptionWritten (bytes_if inner (params_of body) body)
params_written body inner = go (tree_of body) refl
  where
    at : (j : Json) → tree_of body ≡ Some j → (o : Option Json) → named_in (codes "params") j ≡ o → OptionWritten (bytes_if inner o body)
    at j e None f = none_written
    at j e (Some p) f = let k : IsText body j × (depth j ≤ 1024) = tree_sound body j e in member_written body j p (codes "params") inner k.0 k.1 f

    go : (o : Option Json) → tree_of body ≡ o → OptionWritten (bytes_if inner (named_of (codes "params") o) body)
    go None e = none_written
    go (Some j) e = at j e (named_in (codes "params") j) refl

-- what is declared

empty_written : Written (codes "{}")
empty_written = said_written (object nowhere no_members) (codes "{}") (empty_object nowhere) (omega arith)

given_written : (o : Option (List ℕ)) → OptionWritten o → Written (given_or o (codes "{}"))
given_written None h = empty_written
given_written (Some bytes) h = go h.tree h.text h.shallow
  where
    go : (t : Option Json) → IsOptionText t (Some bytes) → option_depth t ≤ 1022 → Written bytes
    go None text d = absurd text
    go (Some v) text d = record { tree = v; text = text; shallow = d }

offered_written : (body : List ℕ) → Written (offered body)
offered_written body = go (is_object (named_of (codes "capabilities") (params_of body)))
  where
    go : (b : Bool) → Written (if b then given_or (bytes_if (codes "capabilities") (params_of body) body) (codes "{}") else codes "{}")
    go true = given_written (bytes_if (codes "capabilities") (params_of body) body) (params_written body (codes "capabilities"))
    go false = empty_written

declared_written : (a b : List ℕ) → Written a → Written (given_or (declared_of a b) (codes "{}"))
declared_written a b h = under (tree_of b) refl
  where
    p : PlacedText h.tree a
    p = placed_text h.tree a (bare_text h.tree a (value_says h.tree a h.text))

    shallow : depth p.tree ≤ 1022
    shallow = let d = p.deep in let k = h.shallow in omega (arith, d, k)

    reads : tree_of a ≡ Some p.tree
    reads = tree_complete a p.tree p.text (omega (arith, shallow))

    none : tree_of b ≡ None → declared_of a b ≡ None
    none e = ap (λ o. option_and_then (λ j. option_map (λ k. whole_text (λ j k. declared_tree j k) a j k) (tree_of b)) o) reads ∙ ap (λ o. option_map (λ k. whole_text (λ j k. declared_tree j k) a p.tree k) o) e

    one : (k : Json) → tree_of b ≡ Some k → declared_of a b ≡ Some (if meets p.tree k then compact a (declared_tree p.tree k) else codes "{}")
    one k e = ap (λ o. option_and_then (λ j. option_map (λ k. whole_text (λ j k. declared_tree j k) a j k) (tree_of b)) o) reads ∙ ap (λ o. option_map (λ k. whole_text (λ j k. declared_tree j k) a p.tree k) o) e

    met : (k : Json) → tree_of b ≡ Some k → (m : Bool) → meets p.tree k ≡ m → Written (if m then compact a (declared_tree p.tree k) else codes "{}")
    met k e true m = let d = declared_stands a b p.tree k reads e m in said_written (declared_tree p.tree k) (compact a (declared_tree p.tree k)) d.1 (let l = d.2 in omega (arith, l, shallow))
    met k e false m = empty_written

    under : (o : Option Json) → tree_of b ≡ o → Written (given_or (declared_of a b) (codes "{}"))
    under None e = subst (λ o. Written (given_or o (codes "{}"))) (sym (none e)) empty_written
    under (Some k) e = subst (λ o. Written (given_or o (codes "{}"))) (sym (one k e)) (met k e (meets p.tree k) refl)

-- what the starts of a group are sent, where what is kept of it is written
opens_as : (x : Kept) → FoldersUtf8 x.key.folders → Written x.declared → OptionWritten x.key.options → (params : Option Json) × (message_of (initialize_of x) ≡ request (integer (codes "1")) (codes "initialize") params)
opens_as x h d o = (
  Some (initialize_params u.tree o.tree d.tree f.tree),
  initialize_law u.tree d.tree o.tree f.tree (root_of x.key.folders) x.declared x.key.options (if wants_folders x.declared then Some (folders_text x.key.folders) else None)
      u.text o.text d.text f.text u.shallow o.shallow d.shallow f.shallow,
)
  where
    u : Written (root_of x.key.folders)
    u = root_written x.key.folders h

    wanted : (b : Bool) → OptionWritten (if b then Some (folders_text x.key.folders) else None)
    wanted true = some_written (folders_text x.key.folders) (folders_written x.key.folders h)
    wanted false = none_written

    f : OptionWritten (if wants_folders x.declared then Some (folders_text x.key.folders) else None)
    f = wanted (wants_folders x.declared)

-- of one that was founded
pub founded_opens : (settings : Settings) (before : List Event) (e : ℕ) (body : List ℕ)
    → (params : Option Json) × (message_of (initialize_of (founded (key_for settings before e body) (declared_for settings before e body))) ≡ request (integer (codes "1")) (codes "initialize") params)
founded_opens settings before e body = opens_as (founded (key_for settings before e body) (declared_for settings before e body)) (folders_utf8 body)
    (declared_written (offered body) (ceiling_of (slice_get settings.servers (server_for settings e before)) (offered body)) (offered_written body))
    (params_written body (codes "initializationOptions"))

-- of one that ended
pub over_opens : (params : Option Json) × (message_of (initialize_of over) ≡ request (integer (codes "1")) (codes "initialize") params)
over_opens = opens_as over tt empty_written none_written

-- the folders of one that was founded, and of one that ended, as they are written
pub founded_folders : (settings : Settings) (before : List Event) (e : ℕ) (body : List ℕ) → (v : Json) × IsShallowText 1023 v (folders_text (key_for settings before e body).folders)
founded_folders settings before e body = let w : Written (folders_text (folders_of (params_of body))) = folders_written (folders_of (params_of body)) (folders_utf8 body) in (w.tree, record { text = w.text; shallow = omega (arith, w.shallow) })

pub over_folders : (v : Json) × IsShallowText 1023 v (folders_text over.key.folders)
over_folders = let w : Written (folders_text []) = folders_written [] tt in (w.tree, record { text = w.text; shallow = omega (arith, w.shallow) })
