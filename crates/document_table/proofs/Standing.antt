-- All that is kept of documents, behind each change.
use Rattle.std.proofs.Common.{◌≡◌, ℕ, ◌+◌, ◌<◌, ◌^◌, Bool, true, false, cond, not, ◌&&◌, List, [], ◌∷◌, ◌++◌, map, filter, refl, sym, ◌∙◌, ap, ap₂, subst, arith}
use Rattle.std.specs.Prelude.{Option, Some, None, find, nat_eq, bytes_eq, if◌then◌else◌}
use Rattle.std.specs.List.{AllByRecursion}
use Rattle.std.specs.Int.{w64, to_be_bytes}
use Rattle.std.specs.Ordering.{nat_cmp}
use Rattle.std.specs.BTreeMap.{is_at, insert_entry}
use Rattle.std.specs.Map.{values_of, remove_entry, set_value}
use Rattle.std.proofs.lemmas.Bool.{eq-eqb}
use Rattle.json_text.proofs.Put.{same_name}
use Rattle.number_index.specs.Numbers.{numbers_under, with_number, without_number, Changes, Same}
use Rattle.document_model.specs.Opens.{Open, is_open_at, put_open, drop_open, latest, holder, holder_beside}
use Rattle.document_model.specs.Orderly.{Once}
use Rattle.document_model.proofs.Holders.{is_at as is_there, rest_elsewhere}
use Rattle.document_model.proofs.Spelt.{all_put, all_drop}
use Rattle.document_table.specs.Rows.{touched_at, uris_of}
use Rattle.document_table.specs.Numbered.{numbers_with, Rise, Indexes, Kept, uri_key, editor_key, first_number, rows_at, row_at, touch_rows, is_beside}
use Rattle.document_table.proofs.Numbering.{first_of, first_with, found_first, none_with, put_row, put_first, drop_row, drop_first, insert_last, rows_with, latest_filter, uris_filter, touch_pair, touched_all, touched_values}
use Rattle.document_table.proofs.Keeping.{editor_numbers, numbers_below, rise_last, rise_put, rise_drop, rise_touched, index_last, index_put, index_drop, index_touched}

-- each document once

here_itself : (o p : Open) → o.editor ≡ p.editor → o.uri ≡ p.uri → is_open_at o.editor o.uri p ≡ true
here_itself o p e f = ap (λ b. b && bytes_eq p.uri o.uri) (eq-eqb p.editor o.editor (sym e)) ∙ ap (bytes_eq p.uri) f ∙ same_name p.uri

not_each : (o p : Open) → is_open_at o.editor o.uri p ≡ false → is_open_at p.editor p.uri o ≡ false
not_each o p h = go (is_open_at p.editor p.uri o) refl
  where
    go : (b : Bool) → is_open_at p.editor p.uri o ≡ b → b ≡ false
    go true d = let q : (o.editor ≡ p.editor) × (o.uri ≡ p.uri) = is_there p.editor p.uri o d in sym (here_itself o p q.0 q.1) ∙ h
    go false d = refl

once_put : (o : Open) (os : List Open) → Once os → Once (put_open o os)
once_put o [] h = (tt, tt)
once_put o (p ∷ ps) h = go (is_open_at o.editor o.uri p) refl (once_put o ps h.1)
  where
    go : (b : Bool) → is_open_at o.editor o.uri p ≡ b → Once (put_open o ps) → Once (if b then o ∷ ps else p ∷ put_open o ps)
    go true d r = let q : (p.editor ≡ o.editor) × (p.uri ≡ o.uri) = is_there o.editor o.uri p d in (rest_elsewhere o.editor o.uri p.editor p.uri ps q.0 q.1 h.0, h.1)
    go false d r = (all_put (λ (q : Open). is_open_at p.editor p.uri q ≡ false) o ps (not_each o p d) h.0, r)

once_drop : (e : ℕ) (u : List ℕ) (os : List Open) → Once os → Once (drop_open e u os)
once_drop e u [] h = tt
once_drop e u (p ∷ ps) h = go (is_open_at e u p) (once_drop e u ps h.1)
  where
    go : (b : Bool) → Once (drop_open e u ps) → Once (if b then ps else p ∷ drop_open e u ps)
    go true r = h.1
    go false r = (all_drop (λ (q : Open). is_open_at p.editor p.uri q ≡ false) e u ps h.0, r)

-- a touch leaves editor and URI

same_editor : (e turn : ℕ) (o : Open) → (touched_at e turn o).editor ≡ o.editor
same_editor e turn o = go (nat_eq o.editor e)
  where
    go : (b : Bool) → (cond b (record o { touched = turn }) o).editor ≡ o.editor
    go true = refl
    go false = refl

same_uri : (e turn : ℕ) (o : Open) → (touched_at e turn o).uri ≡ o.uri
same_uri e turn o = go (nat_eq o.editor e)
  where
    go : (b : Bool) → (cond b (record o { touched = turn }) o).uri ≡ o.uri
    go true = refl
    go false = refl

all_touched : (e turn : ℕ) (P Q : Open → Type 0) → ((o : Open) → P o → Q (touched_at e turn o)) → (os : List Open) → AllByRecursion P os → AllByRecursion Q (map (touched_at e turn) os)
all_touched e turn P Q f [] h = tt
all_touched e turn P Q f (o ∷ os) h = (f o h.0, all_touched e turn P Q f os h.1)

elsewhere_touched : (e turn : ℕ) (o p : Open) → is_open_at o.editor o.uri p ≡ false → is_open_at (touched_at e turn o).editor (touched_at e turn o).uri (touched_at e turn p) ≡ false
elsewhere_touched e turn o p h =
    ap₂ (λ a b. nat_eq a b && bytes_eq (touched_at e turn p).uri (touched_at e turn o).uri) (same_editor e turn p) (same_editor e turn o) ∙ (ap₂ (λ u v. nat_eq p.editor o.editor && bytes_eq u v) (same_uri e turn p) (same_uri e turn o) ∙ h)

once_touched : (e turn : ℕ) (os : List Open) → Once os → Once (map (touched_at e turn) os)
once_touched e turn [] h = tt
once_touched e turn (o ∷ os) h = (all_touched e turn (λ p. is_open_at o.editor o.uri p ≡ false) (λ p. is_open_at (touched_at e turn o).editor (touched_at e turn o).uri p ≡ false) (λ p d. elsewhere_touched e turn o p d) os h.0, once_touched e turn os h.1)

-- the documents behind a change

values_last : (n : ℕ) (o : Open) (rows : List (ℕ × Open)) → first_with (is_open_at o.editor o.uri) rows ≡ None → values_of (rows ++ (n, o) ∷ []) ≡ put_open o (values_of rows)
values_last n o [] h = refl
values_last n o (r ∷ rs) h = go (is_open_at o.editor o.uri r.1) h (values_last n o rs)
  where
    go : (b : Bool) → cond b (Some r.0) (first_with (is_open_at o.editor o.uri) rs) ≡ None → (first_with (is_open_at o.editor o.uri) rs ≡ None → values_of (rs ++ (n, o) ∷ []) ≡ put_open o (values_of rs))
        → r.1 ∷ values_of (rs ++ (n, o) ∷ []) ≡ cond b (o ∷ values_of rs) (r.1 ∷ put_open o (values_of rs))
    go true e k = absurd (cc)
    go false e k = ap (λ os. r.1 ∷ os) (k e)

values_put : (o : Open) (n : ℕ) (rows : List (ℕ × Open)) → first_with (is_open_at o.editor o.uri) rows ≡ Some n → values_of (put_row (is_open_at o.editor o.uri) o rows) ≡ put_open o (values_of rows)
values_put o n [] h = absurd (cc)
values_put o n (r ∷ rs) h = go (is_open_at o.editor o.uri r.1) h (values_put o n rs)
  where
    go : (b : Bool) → cond b (Some r.0) (first_with (is_open_at o.editor o.uri) rs) ≡ Some n → (first_with (is_open_at o.editor o.uri) rs ≡ Some n → values_of (put_row (is_open_at o.editor o.uri) o rs) ≡ put_open o (values_of rs))
        → values_of (cond b ((r.0, o) ∷ rs) (r ∷ put_row (is_open_at o.editor o.uri) o rs)) ≡ cond b (o ∷ values_of rs) (r.1 ∷ put_open o (values_of rs))
    go true e k = refl
    go false e k = ap (λ os. r.1 ∷ os) (k e)

values_drop : (e : ℕ) (u : List ℕ) (rows : List (ℕ × Open)) → values_of (drop_row (is_open_at e u) rows) ≡ drop_open e u (values_of rows)
values_drop e u [] = refl
values_drop e u (r ∷ rs) = go (is_open_at e u r.1) (values_drop e u rs)
  where
    go : (b : Bool) → values_of (drop_row (is_open_at e u) rs) ≡ drop_open e u (values_of rs) → values_of (cond b rs (r ∷ drop_row (is_open_at e u) rs)) ≡ cond b (values_of rs) (r.1 ∷ drop_open e u (values_of rs))
    go true k = refl
    go false k = ap (λ os. r.1 ∷ os) k

dropped_none : (e : ℕ) (u : List ℕ) (rows : List (ℕ × Open)) → first_with (is_open_at e u) rows ≡ None → values_of rows ≡ drop_open e u (values_of rows)
dropped_none e u [] h = refl
dropped_none e u (r ∷ rs) h = go (is_open_at e u r.1) h (dropped_none e u rs)
  where
    go : (b : Bool) → cond b (Some r.0) (first_with (is_open_at e u) rs) ≡ None → (first_with (is_open_at e u) rs ≡ None → values_of rs ≡ drop_open e u (values_of rs)) → r.1 ∷ values_of rs ≡ cond b (values_of rs) (r.1 ∷ drop_open e u (values_of rs))
    go true e k = absurd (cc)
    go false e k = ap (λ os. r.1 ∷ os) (k e)

-- what is kept

pub kept_none : (rows : List (ℕ × Open)) (us es : List (List ℕ × List ℕ)) → rows ≡ [] → us ≡ [] → es ≡ [] → Kept rows 0 us es
kept_none rows us es h u e = rw (h, u, e) (record { rise = omega arith; uris = λ k. refl; editors = λ k. refl; fits = tt; once = tt })

module _ (rows : List (ℕ × Open)) (next : ℕ) (us es : List (List ℕ × List ℕ)) (kept : Kept rows next us es) where
  -- what is found

  pub number_found : (e : ℕ) (u : List ℕ) → first_number (λ (o : Open). nat_eq o.editor e) rows (numbers_under u us) ≡ first_with (is_open_at e u) rows
  number_found e u = ap (first_number (λ (o : Open). nat_eq o.editor e) rows) (kept.uris u) ∙ first_of (is_open_at e u) (λ o. bytes_eq (uri_key o) u) (λ o. nat_eq o.editor e) (λ o. refl) 0 next rows kept.rise

  pub row_found : (e : ℕ) (u : List ℕ) (n : ℕ) → first_with (is_open_at e u) rows ≡ Some n → row_at n rows ≡ find (is_open_at e u) (values_of rows)
  row_found e u n h = found_first (is_open_at e u) 0 next rows n kept.rise h

  pub under_uri : (u : List ℕ) → rows_at rows (numbers_under u us) ≡ filter (λ (o : Open). bytes_eq o.uri u) (values_of rows)
  under_uri u = ap (rows_at rows) (kept.uris u) ∙ rows_with (λ o. bytes_eq (uri_key o) u) 0 next rows kept.rise

  numbers_of : (e : ℕ) → e < 2 ^ 64 → numbers_under (to_be_bytes w64 e) es ≡ numbers_with (λ o. nat_eq o.editor e) rows
  numbers_of e l = kept.editors (to_be_bytes w64 e) ∙ editor_numbers e rows l kept.fits

  pub uris_found : (e : ℕ) → e < 2 ^ 64 → map (λ (o : Open). o.uri) (rows_at rows (numbers_under (to_be_bytes w64 e) es)) ≡ uris_of e (values_of rows)
  uris_found e l = ap (λ ns. map (λ (o : Open). o.uri) (rows_at rows ns)) (numbers_of e l) ∙ (ap (map (λ (o : Open). o.uri)) (rows_with (λ o. nat_eq o.editor e) 0 next rows kept.rise) ∙ uris_filter e (values_of rows))

  and_true : (b : Bool) → b ≡ (b && true)
  and_true true = refl
  and_true false = refl

  pub holder_found : (u : List ℕ) → latest (is_beside None) (rows_at rows (numbers_under u us)) ≡ holder u (values_of rows)
  holder_found u = ap (latest (is_beside None)) (under_uri u) ∙ latest_filter (λ o. bytes_eq o.uri u) (is_beside None) (λ o. bytes_eq o.uri u) (λ o. and_true (bytes_eq o.uri u)) (values_of rows) None

  pub beside_found : (e : ℕ) (u : List ℕ) → latest (is_beside (Some e)) (rows_at rows (numbers_under u us)) ≡ holder_beside e u (values_of rows)
  beside_found e u = ap (latest (is_beside (Some e))) (under_uri u) ∙ latest_filter (λ o. bytes_eq o.uri u) (is_beside (Some e)) (λ o. bytes_eq o.uri u && not (nat_eq o.editor e)) (λ o. refl) (values_of rows) None

  pub uris_below : (u : List ℕ) → AllByRecursion (λ m. m < next) (numbers_under u us)
  uris_below u = subst (AllByRecursion (λ m. m < next)) (sym (kept.uris u)) (numbers_below (λ o. bytes_eq (uri_key o) u) 0 next rows kept.rise)

  pub editors_below : (k : List ℕ) → AllByRecursion (λ m. m < next) (numbers_under k es)
  editors_below k = subst (AllByRecursion (λ m. m < next)) (sym (kept.editors k)) (numbers_below (λ o. bytes_eq (editor_key o) k) 0 next rows kept.rise)

  -- what changes

  pub kept_same : (vs fs : List (List ℕ × List ℕ)) → Same us vs → Same es fs → Kept rows next vs fs
  kept_same vs fs u e = record { rise = kept.rise; uris = λ k. u k ∙ kept.uris k; editors = λ k. e k ∙ kept.editors k; fits = kept.fits; once = kept.once }

  module _ (o : Open) (fits : o.editor < 2 ^ 64) where
    pub last_is : first_with (is_open_at o.editor o.uri) rows ≡ None → values_of (insert_entry nat_cmp rows next o) ≡ put_open o (values_of rows)
    last_is none = ap values_of (insert_last o 0 next rows kept.rise) ∙ values_last next o rows none

    pub kept_last : (vs fs : List (List ℕ × List ℕ)) → first_with (is_open_at o.editor o.uri) rows ≡ None → Changes o.uri (with_number next) us vs → Changes (to_be_bytes w64 o.editor) (with_number next) es fs
        → Kept (insert_entry nat_cmp rows next o) (next + 1) vs fs
    kept_last vs fs none u e = rw (insert_last o 0 next rows kept.rise) (record {
      rise = rise_last 0 next rows o kept.rise;
      uris = index_last uri_key 0 next rows o us vs kept.rise kept.uris u;
      editors = index_last editor_key 0 next rows o es fs kept.rise kept.editors e;
      fits = rw (values_last next o rows none) (all_put (λ p. p.editor < 2 ^ 64) o (values_of rows) fits kept.fits);
      once = rw (values_last next o rows none) (once_put o (values_of rows) kept.once);
    })

    pub put_is : (n : ℕ) → first_with (is_open_at o.editor o.uri) rows ≡ Some n → values_of (set_value (is_at (nat_cmp n)) rows o) ≡ put_open o (values_of rows)
    put_is n some = ap values_of (put_first (is_open_at o.editor o.uri) o 0 next rows n kept.rise some) ∙ values_put o n rows some

    pub kept_put : (n : ℕ) → first_with (is_open_at o.editor o.uri) rows ≡ Some n → Kept (set_value (is_at (nat_cmp n)) rows o) next us es
    kept_put n some = rw (put_first (is_open_at o.editor o.uri) o 0 next rows n kept.rise some) (record {
      rise = rise_put (is_open_at o.editor o.uri) o 0 next rows kept.rise;
      uris = index_put uri_key (is_open_at o.editor o.uri) o rows us (λ p h. (is_there o.editor o.uri p h).1) kept.uris;
      editors = index_put editor_key (is_open_at o.editor o.uri) o rows es (λ p h. ap (to_be_bytes w64) (is_there o.editor o.uri p h).0) kept.editors;
      fits = rw (values_put o n rows some) (all_put (λ p. p.editor < 2 ^ 64) o (values_of rows) fits kept.fits);
      once = rw (values_put o n rows some) (once_put o (values_of rows) kept.once);
    })

  module _ (e : ℕ) (u : List ℕ) where
    pub drop_is : (n : ℕ) → first_with (is_open_at e u) rows ≡ Some n → values_of (remove_entry (is_at (nat_cmp n)) rows) ≡ drop_open e u (values_of rows)
    drop_is n some = ap values_of (drop_first (is_open_at e u) 0 next rows n kept.rise some) ∙ values_drop e u rows

    pub drop_not : first_with (is_open_at e u) rows ≡ None → values_of rows ≡ drop_open e u (values_of rows)
    drop_not none = dropped_none e u rows none

    pub kept_drop : (n : ℕ) (vs fs : List (List ℕ × List ℕ)) → first_with (is_open_at e u) rows ≡ Some n → Changes u (without_number n) us vs → Changes (to_be_bytes w64 e) (without_number n) es fs
        → Kept (remove_entry (is_at (nat_cmp n)) rows) next vs fs
    kept_drop n vs fs some v f = rw (drop_first (is_open_at e u) 0 next rows n kept.rise some) (record {
      rise = rise_drop (is_open_at e u) 0 next rows kept.rise;
      uris = index_drop uri_key (is_open_at e u) u 0 next rows n us vs (λ p h. (is_there e u p h).1) kept.rise some kept.uris v;
      editors = index_drop editor_key (is_open_at e u) (to_be_bytes w64 e) 0 next rows n es fs (λ p h. ap (to_be_bytes w64) (is_there e u p h).0) kept.rise some kept.editors f;
      fits = rw (values_drop e u rows) (all_drop (λ p. p.editor < 2 ^ 64) e u (values_of rows) kept.fits);
      once = rw (values_drop e u rows) (once_drop e u (values_of rows) kept.once);
    })

  module _ (e turn : ℕ) (l : e < 2 ^ 64) where
    pub touched_is : values_of (touch_rows turn rows (numbers_under (to_be_bytes w64 e) es)) ≡ map (touched_at e turn) (values_of rows)
    touched_is = ap (λ ns. values_of (touch_rows turn rows ns)) (numbers_of e l) ∙ (ap values_of (touched_all e turn 0 next rows kept.rise) ∙ touched_values e turn rows)

    pub kept_touched : Kept (touch_rows turn rows (numbers_under (to_be_bytes w64 e) es)) next us es
    kept_touched = rw (numbers_of e l) (rw (touched_all e turn 0 next rows kept.rise) (record {
      rise = rise_touched e turn 0 next rows kept.rise;
      uris = index_touched uri_key e turn rows us (same_uri e turn) kept.uris;
      editors = index_touched editor_key e turn rows es (λ o. ap (to_be_bytes w64) (same_editor e turn o)) kept.editors;
      fits = rw (touched_values e turn rows) (all_touched e turn (λ o. o.editor < 2 ^ 64) (λ o. o.editor < 2 ^ 64) (λ o h. rw (same_editor e turn o) h) (values_of rows) kept.fits);
      once = rw (touched_values e turn rows) (once_touched e turn (values_of rows) kept.once);
    }))
