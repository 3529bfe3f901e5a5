-- An editor is asked to take a token under its next number.
use Rattle.std.proofs.Common.{ap₂, subst, sym, ◌∙◌}
use Rattle.mux_history.specs.declared.out.Out.TheVariants.{ToEditor}
use Rattle.event_model.specs.Does.{Does}
use Rattle.event_model.specs.Event.{behind}
use Rattle.event_model.specs.Row.{send}
use Rattle.group_facts.specs.group_rows.specs.CreatedRows.{create_text}
use Rattle.mux_tables.specs.Documents.{AllStand}
use Rattle.mux_tables.specs.mux_tokens.specs.Stands.{IsOffer}
use Rattle.mux_tables.specs.mux_tokens.proofs.Fresh.{fresh_untaken}
use Rattle.mux_tables.proofs.DocumentOwed.{all_does, number_there}
use Rattle.mux_tables.proofs.Lasts.{same_place}
use Rattle.mux_tables.proofs.Numbering.{none_numbered, one_numbered}
use Rattle.mux_turns.proofs.Offering.{number, offer_is}
use Rattle.mux_turns.proofs.creates.offer.Goals as goal

pub returns-in_default-clause-does : goal.returns-in_default-clause-does
returns-in_default-clause-does c = λ settings owed base x token here runs none can.
    let e = c.args.e in
    let xs = c.args.outs.now in
    none_numbered (λ k events. AllStand settings k events) (λ n. send (ToEditor e (create_text x.life.start token.number n))) e base xs (c.args.tables.now, owed)
    (λ st. c.in_default.ensures settings (behind base xs) runs st.0)

pub returns-clause-does : goal.returns-clause-does
returns-clause-does c = λ settings owed base x token here runs none can.
    let t = c.args.tables.now in
    let u = c.offer.new.self in
    let e = c.args.e in
    let k = c.args.k in
    let s = x.life.start in
    let n = c.in-Some.n in
    let xs = c.args.outs.now in
    let ys = c.offer.new.outs in
    let now = behind base xs in
    let is = c.in_ok-text.ensures in
    let own = same_place (sym c.start_number.ensures ∙ number_there t.lasts.items c.args.g x here) in
    let named = number settings s e k now token can.small can.live in
    one_numbered (λ k events. AllStand settings k events) (λ n. send (ToEditor e (create_text s token.number n))) e base xs (t, owed) n (λ st. c.in-Some.ensures settings now runs st.0) (u, owed) ys
    (λ left next.
    let offers = offer_is settings s e k now token can.small can.live left (fresh_untaken settings s e k now can.unasked) in
    let words = is ∙ ap₂ (λ i m. create_text i k m) own next in
    subst (λ w. Does (λ k events. AllStand settings k events) (send (ToEditor e w)) base (t, owed) xs (u, owed) ys) (is ∙ ap₂ (λ i m. create_text i m n) own (sym named))
    (all_does settings t u owed owed base xs ys (c.in_ok-offer.ensures.does settings base x here runs left (subst (IsOffer settings s e k now) (sym words) offers) none)
    (λ _ d. c.in_ok-offer.ensures.documents settings owed base d)))
