-- E5: what `lspmux/status` is answered with.
use Rattle.std.proofs.Common.{◌≡◌, ℕ, zero, suc, ◌+◌, ◌^◌, ◌<◌, ◌≤◌, Bool, true, false, List, [], ◌∷◌, ◌++◌, length, map, flat_map, drop, get_or, codes, decimal, bytes_eq, if◌then◌else◌, IsUtf8, encode_utf8_all, refl, sym, ap, ap₂, ◌∙◌, append_assoc, append-nil, arith}
use Rattle.std.specs.Prelude.{Option, Some, None, slice_get}
use Rattle.std.specs.List.{AllByRecursion}
use Rattle.std.proofs.lemmas.List.{length-append}
use Rattle.event_model.specs.declared.stage.Stage.{Stage}
use Rattle.event_model.specs.declared.stage.Stage.TheVariants.{Ended}
use Rattle.event_model.specs.Stages.{life_of}
use Rattle.mux_turns.specs.group_facts.specs.Facts.{is_up}
use Rattle.mux_turns.specs.group_facts.specs.Lively.{lives, lives_at}
use Rattle.group_words.specs.declared.kept.Kept.{Kept}
use Rattle.group_words.specs.Houses.{groups_of}
use Rattle.group_words.specs.Placing.{all_from, is_live}
use Rattle.mux_tables.specs.Stands.{HasEnded}
use Rattle.mux_editors.specs.Tellings.{Runs}
use Rattle.std.specs.Option.{option_map_or}
use Rattle.std.specs.Str.{all_scalars, chars}
use Rattle.std.proofs.lemmas.Bool.{and_from, and_parts, lt-ltb}
use Rattle.std.proofs.lemmas.Slice.Eq.{bytes_eq-Decides}
use Rattle.std.proofs.lemmas.Str.{chars-encodes, encodes-chars}
use Rattle.json.specs.Print.{quoted}
use Rattle.capability_meet.specs.Parts.{bracketed, comma, listed}
use Rattle.event_model.specs.Event.{Event}
use Rattle.event_model.specs.Settings.{Settings}
use Rattle.event_model.specs.Spawns.{start_of}
use Rattle.mux_turns.specs.group_facts.specs.Settled.{Settled}
use Rattle.group_rows.specs.Status.{Item, is_utf8, item_at, item_in, item_text, name_text, number_text, numbers_text, state_text}
use Rattle.mux_turns.proofs.Folders.{drop_one}

-- Texts

pub number_written : (n : ℕ) (text : List ℕ) → n < 2 ^ 64 → text ≡ decimal n → text ≡ number_text n
number_written n text low is = is ∙ ap (λ b. if b then decimal n else codes "null") (sym (lt-ltb n (2 ^ 64) low))

utf8_so : (name : List ℕ) → IsUtf8 name → is_utf8 name ≡ true
utf8_so name u = and_from (all_scalars (chars name)) (bytes_eq (encode_utf8_all (chars name)) name) spelt ((bytes_eq-Decides (encode_utf8_all (chars name)) name).1 (encodes-chars name u))
  where
    same : u.0 ≡ chars name
    same = sym (chars-encodes u.0 u.1.0) ∙ ap chars u.1.1

    spelt : all_scalars (chars name) ≡ true
    spelt = ap all_scalars (sym same) ∙ u.1.0

not_utf8 : (name : List ℕ) → (IsUtf8 name → ⊥) → is_utf8 name ≡ false
not_utf8 name h = go (is_utf8 name) refl
  where
    go : (b : Bool) → is_utf8 name ≡ b → b ≡ false
    go true e = absurd (h (let p = and_parts (all_scalars (chars name)) (bytes_eq (encode_utf8_all (chars name)) name) e in (chars name, (p.0, (bytes_eq-Decides (encode_utf8_all (chars name)) name).0 p.1))))
    go false e = refl

pub name_spelt : (name text : List ℕ) → IsUtf8 name → text ≡ quoted name → text ≡ name_text name
name_spelt name text u is = is ∙ ap (λ b. quoted (if b then name else [])) (sym (utf8_so name u))

pub name_unspelt : (name text : List ℕ) → (IsUtf8 name → ⊥) → text ≡ quoted [] → text ≡ name_text name
name_unspelt name text u is = is ∙ ap (λ b. quoted (if b then name else [])) (sym (not_utf8 name u))

module _ (x : Item) (a b c d e t1 t2 t3 t4 t5 t6 t7 t8 : List ℕ) where
  pub item_written : a ≡ number_text x.group → b ≡ name_text x.server → c ≡ number_text x.start → d ≡ numbers_text x.editors → e ≡ number_text x.asked
      → t1 ≡ codes "{\"group\":" ++ a → t2 ≡ t1 ++ codes ",\"server\":" ++ b → t3 ≡ t2 ++ codes ",\"start\":" ++ c → t4 ≡ t3 ++ codes ",\"state\":" → t5 ≡ t4 ++ state_text x.stage
      → t6 ≡ t5 ++ codes ",\"editors\":" ++ d → t7 ≡ t6 ++ codes ",\"open\":" ++ e → t8 ≡ t7 ++ codes "}" → t8 ≡ item_text x
  item_written ea eb ec ed ee e1 e2 e3 e4 e5 e6 e7 e8 =
      let s1 = e1 ∙ ap (λ v. codes "{\"group\":" ++ v) ea in
      let s2 = e2 ∙ ap₂ (λ w v. w ++ codes ",\"server\":" ++ v) s1 eb in
      let s3 = e3 ∙ ap₂ (λ w v. w ++ codes ",\"start\":" ++ v) s2 ec in
      let s4 = e4 ∙ ap (λ w. w ++ codes ",\"state\":") s3 in
      let s5 = e5 ∙ ap (λ w. w ++ state_text x.stage) s4 in
      let s6 = e6 ∙ ap₂ (λ w v. w ++ codes ",\"editors\":" ++ v) s5 ed in
      let s7 = e7 ∙ ap₂ (λ w v. w ++ codes ",\"open\":" ++ v) s6 ee in
      e8 ∙ ap (λ w. w ++ codes "}") s7

-- Lists of parts: what is written, and what is left to write

abbrev pub Left : List ℕ → Bool → ℕ → List (List ℕ) → Type 0
Left text started i parts = text ++ (listed started (drop i parts) ++ 93 ∷ []) ≡ bracketed parts

pub left_next : (text mid new : List ℕ) (started : Bool) (i : ℕ) (d : List ℕ) (parts : List (List ℕ)) → i < length parts → mid ≡ text ++ comma started → new ≡ mid ++ get_or parts i d → Left text started i parts → Left new true (i + 1) parts
left_next text mid new started i d parts h e f left =
    let x = get_or parts i d in
    let rest = listed true (drop (i + 1) parts) in
    ap (λ ws. ws ++ (rest ++ 93 ∷ [])) (f ∙ ap (λ ws. ws ++ x) e) ∙ (shift text (comma started) x rest ∙ (ap (λ ps. text ++ (listed started ps ++ 93 ∷ [])) (sym (drop_one d parts i h)) ∙ left))
  where
    shift : (a b c e : List ℕ) → ((a ++ b) ++ c) ++ (e ++ 93 ∷ []) ≡ a ++ ((b ++ (c ++ e)) ++ 93 ∷ [])
    shift a b c e = simp append_assoc

-- Lists of groups

map_both : {A B : Type 0} (f : A → B) (xs ys : List A) → map f (xs ++ ys) ≡ map f xs ++ map f ys
map_both f [] ys = refl
map_both f (x ∷ xs) ys = ap (λ zs. f x ∷ zs) (map_both f xs ys)

module _ (settings : Settings) (before : List Event) where
  pub none_told : (g : ℕ) (xs : List (List ℕ)) → Runs g before → HasEnded (start_of g before) before → xs ≡ xs ++ map item_text (item_in settings before g)
  none_told g xs runs ended = sym (append-nil xs) ∙ ap (λ o. xs ++ map item_text (option_map_or (λ s. item_at settings before g s ∷ []) o [])) (sym (none (start_of g before) refl))
    where
      none : (o : Option ℕ) → start_of g before ≡ o → o ≡ None
      none None is = refl
      none (Some s) is = absurd (runs s is (ended s is))

  pub one_told : (g s : ℕ) (xs new : List (List ℕ)) (body : List ℕ) → start_of g before ≡ Some s → new ≡ xs ++ body ∷ [] → body ≡ item_text (item_at settings before g s) → new ≡ xs ++ map item_text (item_in settings before g)
  one_told g s xs new body start is text = is ∙ ap (λ w. xs ++ w ∷ []) text ∙ ap (λ o. xs ++ map item_text (option_map_or (λ s. item_at settings before g s ∷ []) o [])) (sym start)

  pub told_next : (gs : List ℕ) (i d g : ℕ) (xs new whole : List (List ℕ)) → i < length gs → g ≡ get_or gs i d → new ≡ xs ++ map item_text (item_in settings before g)
      → whole ≡ xs ++ map item_text (flat_map (item_in settings before) (drop i gs)) → whole ≡ new ++ map item_text (flat_map (item_in settings before) (drop (i + 1) gs))
  told_next gs i d g xs new whole l at is h = h
      ∙ ap (λ ns. xs ++ map item_text (flat_map (item_in settings before) ns)) (drop_one d gs i l ∙ ap (λ n. n ∷ drop (i + 1) gs) (sym at))
      ∙ ap (λ zs. xs ++ zs) (map_both item_text (item_in settings before g) (flat_map (item_in settings before) (drop (i + 1) gs)))
      ∙ sym (append_assoc xs (map item_text (item_in settings before g)) (map item_text (flat_map (item_in settings before) (drop (i + 1) gs))))
      ∙ ap (λ zs. zs ++ map item_text (flat_map (item_in settings before) (drop (i + 1) gs))) (sym is)

none_left : (parts : List (List ℕ)) (i : ℕ) → length parts ≤ i → drop i parts ≡ []
none_left [] zero h = refl
none_left [] (suc i) h = refl
none_left (x ∷ xs) zero h = absurd (omega arith)
none_left (x ∷ xs) (suc i) h = none_left xs i (omega arith)

pub left_none : (text new : List ℕ) (started : Bool) (i : ℕ) (parts : List (List ℕ)) → length parts ≤ i → new ≡ text ++ 93 ∷ [] → Left text started i parts → new ≡ bracketed parts
left_none text new started i parts h e left = e ∙ (ap (λ ps. text ++ (listed started ps ++ 93 ∷ [])) (sym (none_left parts i h)) ∙ left)

-- the groups that live

module _ (settings : Settings) (before : List Event) (settled : Settled settings before) where
  up_runs : (stage : Stage) → is_up stage ≡ true → stage ≡ Ended → ⊥
  up_runs stage h e = absurd (clash (sym h ∙ ap is_up e))
    where
      clash : true ≡ false → ⊥
      clash k = cc

  live_from : (i : ℕ) (ps ys : List Kept) → i ≡ length ps → groups_of settings before ≡ ps ++ ys → AllByRecursion (λ g. Runs g before) (all_from i is_live ys)
  live_from i ps [] e is = tt
  live_from i ps (y ∷ ys) e is = by_test y.live refl (live_from (i + 1) (ps ++ y ∷ []) ys (ap (λ n. n + 1) e ∙ sym (length-append ps (y ∷ []))) (is ∙ sym (append_assoc ps (y ∷ []) ys)))
    where
      here : lives_at i (groups_of settings before) ≡ y.live
      here = ap₂ lives_at e is ∙ ap lives (middle ps)
        where
          middle : (ps : List Kept) → slice_get (ps ++ y ∷ ys) (length ps) ≡ Some y
          middle [] = refl
          middle (p ∷ ps) = middle ps

      by_test : (b : Bool) → y.live ≡ b → AllByRecursion (λ g. Runs g before) (all_from (i + 1) is_live ys) → AllByRecursion (λ g. Runs g before) (if b then i ∷ all_from (i + 1) is_live ys else all_from (i + 1) is_live ys)
      by_test true live rest = (λ s starts. up_runs (life_of s before).stage (settled.lively.up i s (here ∙ live) starts), rest)
      by_test false live rest = rest

  pub live_run : AllByRecursion (λ g. Runs g before) (all_from 0 is_live (groups_of settings before))
  live_run = live_from 0 [] (groups_of settings before) refl refl

pub run_at : (before : List Event) (gs : List ℕ) (i d : ℕ) → AllByRecursion (λ g. Runs g before) gs → i < length gs → Runs (get_or gs i d) before
run_at before [] i d all l = absurd (omega (arith, l))
run_at before (g ∷ gs) zero d all l = all.0
run_at before (g ∷ gs) (suc i) d all l = run_at before gs i d all.1 (omega (arith, l))
