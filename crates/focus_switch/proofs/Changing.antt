-- A change, put together.
use Rattle.std.proofs.Common.{◌≡◌, ℕ, ◌+◌, Bool, true, false, ◌&&◌, List, [], refl, sym, ◌∙◌, ap, ap₂}
use Rattle.std.specs.Prelude.{Option, Some, None, find, nat_lt, if◌then◌else◌}
use Rattle.std.specs.Option.{option_and_then, option_map, option_map_or}
use Rattle.json_text.specs.Json.{Json}
use Rattle.json_nodes.specs.Doc.{Doc}
use Rattle.mux_history.specs.declared.out.Out.{Out}
use Rattle.focus_switch.specs.declared.notice.Change.{Change}
use Rattle.focus_switch.specs.declared.telling.Telling.{Telling}
use Rattle.focus_switch.specs.declared.telling.Telling.TheVariants.{Changes}
use Rattle.document_table.specs.document_model.specs.Opens.{Open, holder, holds_own, is_open_at, put_open}
use Rattle.document_table.specs.document_model.proofs.Holders.{find_is}
use Rattle.focus_switch.specs.Documents.{Documents, version_held}
use Rattle.focus_switch.specs.Holders.{change_from, is_alike, is_own, speaks_alike}
use Rattle.focus_switch.specs.Noted.{FoundChange}
use Rattle.document_table.specs.document_model.specs.Notices.{DidChange, did_change, with_version}
use Rattle.focus_switch.specs.Rows.{Step, send, touch, or_nothing, text_after, had, switch, change_row, change_sends, change_tells, changed, changed_open}

pub seen : (doc : Doc) (o : Option DidChange) (c : Change) → FoundChange doc o (Some c) → (q : DidChange) × (o ≡ Some q) × FoundChange doc (Some q) (Some c)
seen doc None c h = absurd h
seen doc (Some q) c h = (q, refl, h)

abbrev standing : List Out → Documents → Step
standing outs s = record { outs = outs; after = s }

module _ (e : ℕ) (bytes : List ℕ) (t : Json) (s : Documents) where
  abbrev behind : DidChange → Open → Step
  behind q new = touch new (send new.uri (change_sends new bytes t (version_held new.uri s.helds) s) s)

  row : (q : DidChange) (o : Option Open) → did_change t ≡ Some q → o ≡ changed_open e q s → or_nothing o s (behind q) ≡ change_row e bytes t s
  row q o h k = ap (λ z. or_nothing z s (behind q)) k ∙ sym (ap (λ z. or_nothing z s (λ q. or_nothing (changed_open e q s) s (behind q))) h)

  pub nothing_changed : (q : DidChange) (outs : List Out) → did_change t ≡ Some q → None ≡ changed_open e q s → outs ≡ [] → ◌≡◌ {A = Step} (record { outs = outs; after = s }) (change_row e bytes t s)
  nothing_changed q outs h k is = ap (λ (z : List Out). standing z s) is ∙ row q None h k

  -- the document before the change

  module _ (q : DidChange) (u : List ℕ) (same : u ≡ q.uri) where
    found_same : (f : Option Open) → f ≡ find (is_open_at e u) s.opens → f ≡ find (is_open_at e q.uri) s.opens
    found_same f h = h ∙ ap (λ w. find (is_open_at e w) s.opens) same

    abbrev made : Option Open → Option Open
    made f = option_and_then (λ o. option_map (λ text. changed o q text s.turn) (text_after s.encoding q.changes o.text)) f

    module _ (o : Open) (there : Some o ≡ find (is_open_at e u) s.opens) where
      pub opened : (r : Option Open) → r ≡ option_map (λ text. changed o q text s.turn) (text_after s.encoding q.changes o.text) → r ≡ changed_open e q s
      opened r h = h ∙ ap made (found_same (Some o) there)

      pub old_found : (new : Open) → Some new ≡ option_map (λ text. changed o q text s.turn) (text_after s.encoding q.changes o.text) → find (is_open_at new.editor new.uri) s.opens ≡ Some o
      old_found new h = go (text_after s.encoding q.changes o.text) h
        where
          go : (x : Option (List ℕ)) → Some new ≡ option_map (λ text. changed o q text s.turn) x → find (is_open_at new.editor new.uri) s.opens ≡ Some o
          go None k = absurd (cc)
          go (Some text) k =
              let is : new ≡ changed o q text s.turn = cc in
              let at : (o.editor ≡ e) × (o.uri ≡ u) = find_is e u s.opens o (sym there) in
              ap₂ (λ (a : ℕ) (w : List ℕ). find (is_open_at a w) s.opens) (ap (λ (z : Open). z.editor) is ∙ at.0) (ap (λ (z : Open). z.uri) is ∙ at.1) ∙ sym there

  pub something_changed : (q : DidChange) (new : Open) (x : Option Telling) (uri : List ℕ) (outs : List Out) (mid after : Documents) → did_change t ≡ Some q → Some new ≡ changed_open e q s
      → x ≡ change_sends new bytes t (version_held new.uri s.helds) s → uri ≡ new.uri → ◌≡◌ {A = Step} (record { outs = outs; after = mid }) (send uri x s)
      → after ≡ record mid { opens = put_open new mid.opens; turn = mid.turn + 1 } → ◌≡◌ {A = Step} (record { outs = outs; after = after }) (change_row e bytes t s)
  something_changed q new x uri outs mid after h k told same sent is =
      ap (λ (z : Documents). standing outs z) is ∙ ap (touch new) sent ∙ ap₂ (λ (w : List ℕ) (y : Option Telling). touch new (send w y s)) same told ∙ row q (Some new) h k

-- what the start is told

module _ (new old : Open) (body : List ℕ) (t : Json) (s : Documents) (v : ℕ) (h : Option Open) (held : Some v ≡ version_held new.uri s.helds) (is : h ≡ holder new.uri s.opens) where
  pub same_told : is_alike new h ≡ true → None ≡ change_sends new body t (version_held new.uri s.helds) s
  same_told same =
      sym (ap (λ z. change_sends new body t z s) (sym held) ∙ ap (λ (b : Bool). if b then None else Some (change_tells new body t v s)) (ap (is_alike new) (sym is) ∙ same))

  pub change_told : (x : Telling) → is_alike new h ≡ false → find (is_open_at new.editor new.uri) s.opens ≡ Some old → x ≡ change_from old new h body t v s.versions → Some x ≡ change_sends new body t (version_held new.uri s.helds) s
  change_told x differs there told =
      let had_is : had new.editor new.uri s ≡ is_own old h =
      ap (λ q. option_map_or (λ o. holds_own o s.opens) q false) there
      ∙ (ap (λ w. is_own old (holder w s.opens)) (find_is new.editor new.uri s.opens old there).1 ∙ ap (is_own old) (sym is)) in
      let tells_is : change_tells new body t v s ≡ change_from old new h body t v s.versions =
      ap₂ (λ (a b : Bool). if nat_lt v s.versions && a then Changes (v + 1) (with_version (v + 1) body t) else switch b s.versions new v) had_is (ap (speaks_alike new) (sym is)) in
      ap Some (told ∙ sym tells_is)
      ∙ sym (ap (λ z. change_sends new body t z s) (sym held) ∙ ap (λ (b : Bool). if b then None else Some (change_tells new body t v s)) (ap (is_alike new) (sym is) ∙ differs))
