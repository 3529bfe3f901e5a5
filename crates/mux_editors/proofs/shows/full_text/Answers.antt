-- What an editor is shown of a last list, where it isn't empty and fits it.
use Rattle.std.proofs.Common.{Bool, List, ℕ, false, if◌then◌else◌, ap, sym, ◌∙◌}
use Rattle.std.specs.Prelude.{None, Option, Some}
use Rattle.group_rows.specs.diagnostics_route.specs.Shown.{fits, shown_text}
use Rattle.group_rows.specs.Lists.{agreement_at, version_at}
use Rattle.mux_editors.proofs.shows.full_text.Goals as goal

-- by whether it is empty and fits
abbrev text_by : List ℕ → Bool → Bool → Option (List ℕ)
text_by text empty fit = if empty then None else (if fit then Some text else None)

pub returns-then-list : goal.returns-then-list
returns-then-list c = λ settings events x here ready k.
    let l = c.args.list.now in
    let s = x.life.start in
    let e = c.args.e in
    sym (ap (λ b. text_by (shown_text (version_at settings s e events l.uri) l.body) b (fits l (agreement_at settings s e events l.uri))) c.if-list.true)

pub returns-in_ok-text : goal.returns-in_ok-text
returns-in_ok-text c = λ settings events x here ready k.
    let l = c.args.list.now in
    let s = x.life.start in
    let e = c.args.e in
    let text = shown_text (version_at settings s e events l.uri) l.body in
    let is = c.in_ok-text.ensures ∙ ap (λ o. shown_text o l.body) (c.own_version-own.ensures settings events x here ready k.0 k.1 ∙ ap (version_at settings s e events) c.bytes.ensures) in
    let fit = sym (c.fits.ensures settings events x here ready k.0 k.1) ∙ c.if-fits.true in
    ap Some is ∙ sym (ap (λ b. text_by text b (fits l (agreement_at settings s e events l.uri))) c.if-list.false ∙ ap (text_by text false) fit)

pub returns-else-fits : goal.returns-else-fits
returns-else-fits c = λ settings events x here ready k.
    let l = c.args.list.now in
    let s = x.life.start in
    let e = c.args.e in
    let text = shown_text (version_at settings s e events l.uri) l.body in
    let fit = sym (c.fits.ensures settings events x here ready k.0 k.1) ∙ c.if-fits.false in
    sym (ap (λ b. text_by text b (fits l (agreement_at settings s e events l.uri))) c.if-list.false ∙ ap (text_by text false) fit)
