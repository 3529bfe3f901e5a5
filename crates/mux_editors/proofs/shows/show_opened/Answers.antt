-- An editor that opened a document is shown the last list of it.
use Rattle.std.proofs.Common.{false, ap, refl, sym, subst, ◌∙◌}
use Rattle.document_model.specs.Sayings.{saying_by, saying_of}
use Rattle.mux_history.specs.declared.out.Out.TheVariants.{ToEditor}
use Rattle.event_model.specs.Event.{behind}
use Rattle.event_model.specs.Row.{nothing, on, send}
use Rattle.event_model.proofs.Turns.{alike, alike_then, does_alike, does_knowing, does_look, does_nothing}
use Rattle.mux_members.specs.Notices.{uri_opened}
use Rattle.mux_tables.specs.Documents.{nothing_owed}
use Rattle.mux_tables.specs.Stands.{IsListOf}
use Rattle.mux_tables.proofs.DocumentOwed.{all_does}
use Rattle.mux_turns.proofs.Listed.{meant_behind}
use Rattle.mux_editors.specs.Shows.{last_text}
use Rattle.mux_editors.proofs.Showing.{last_listed, shows_last, shows_none, text_row}
use Rattle.mux_editors.proofs.shows.show_opened.Goals as goal

pub returns-in_default-clause-does : goal.returns-in_default-clause-does
returns-in_default-clause-does c = λ settings base body method params x read says here ready meant.
    let none = ap (λ m. uri_opened (saying_of m)) (sym says) ∙ (sym (c.in_ok-opened.ensures body read) ∙ c.in_default.is) in
    does_alike (λ _. alike (shows_none settings x.life.start c.args.e (saying_by method params) none)) does_nothing

pub returns-in-None-clause-does : goal.returns-in-None-clause-does
returns-in-None-clause-does c = λ settings base body method params x read says here ready meant.
    let e = c.args.e in
    let s = x.life.start in
    let u = c.in-Some.uri in
    let now = behind base c.args.outs.now in
    let one = ap (λ m. uri_opened (saying_of m)) (sym says) ∙ (sym (c.in_ok-opened.ensures body read) ∙ c.in-Some.is) in
    does_alike (λ _. alike (shows_last settings s e (saying_by method params) u one))
    (does_look (λ _. refl) (does_knowing (λ k.
    let is = ap (last_text settings s e now) (sym c.bytes.ensures) ∙ (sym (c.in_ok-shown.ensures settings now x here ready k) ∙ c.in-None.is) in
    does_alike (λ _. alike_then (text_row settings s e now u) (alike (ap (λ o. on o nothing (λ w. send (ToEditor e w))) is))) does_nothing)))

pub returns-clause-does : goal.returns-clause-does
returns-clause-does c = λ settings base body method params x read says here ready meant.
    let t = c.args.tables.now in
    let v = c.show.new.self in
    let e = c.args.e in
    let s = x.life.start in
    let u = c.in-Some.uri in
    let xs = c.args.outs.now in
    let now = behind base xs in
    let text = c.in-Some-shown.text in
    let one = ap (λ m. uri_opened (saying_of m)) (sym says) ∙ (sym (c.in_ok-opened.ensures body read) ∙ c.in-Some.is) in
    does_alike (λ _. alike (shows_last settings s e (saying_by method params) u one))
    (does_look (λ _. refl) (does_knowing (λ k.
    let is = ap (last_text settings s e now) (sym c.bytes.ensures) ∙ (sym (c.in_ok-shown.ensures settings now x here ready k) ∙ c.in-Some-shown.is) in
    let listed = subst (λ w. IsListOf w false text) (sym c.bytes-in-Some-shown.ensures) (last_listed settings s e now u text (meant_behind base xs meant) is) in
    does_alike (λ _. alike_then (text_row settings s e now u) (alike (ap (λ o. on o nothing (λ w. send (ToEditor e w))) is)))
    (all_does settings t v nothing_owed nothing_owed base xs c.show.new.outs (c.in_ok-show-in-Some-shown.ensures.does settings base listed) (λ _ d. c.in_ok-show-in-Some-shown.ensures.documents settings nothing_owed base d)))))
