-- An editor says something of a document.
use Rattle.std.proofs.Common.{refl, subst, sym, ◌∙◌}
use Rattle.mux_history.specs.declared.cause.Cause.TheVariants.{FromEditor}
use Rattle.event_model.specs.Event.{heard}
use Rattle.mux_tables.proofs.TokenMoves.{origins_stay}
use Rattle.mux_tables.specs.Stands.{IsPlace}
use Rattle.mux_tables.proofs.DocumentLeft.{home_seen}
use Rattle.mux_tables.proofs.DocumentNoticed.{noticed_documents}
use Rattle.mux_tables.proofs.Heard.{set_moves}
use Rattle.mux_tables.proofs.tables.Tables.hear_notice.Goals as goal
use Rattle.mux_tables.proofs.HeldMoves.{heard_stay}

pub returns-clause-stands : goal.returns-clause-stands
returns-clause-stands c = λ settings events body st silent leaves unheld stays goes off step. set_moves settings c.args.self.now _ events c.args.e body c.args.phase c.requires.editor c.set.ensures refl refl (origins_stay settings c.args.self.now.origins c.args.self.now.origins events (heard (FromEditor c.args.e body)) refl leaves (heard_stay settings c.args.self.now.editors events c.args.e body st.house.editors unheld)) refl stays step silent refl refl goes off st

pub returns-clause-documents : goal.returns-clause-documents
returns-clause-documents c = λ settings events body method params g s read reads served home starts st ds.
    noticed_documents settings events g s c.args.e body method params reads home served c.args.self.now _ c.in_ok-owed.owed c.place_in-place.result
    (subst (λ o. IsPlace c.args.self.now.lasts.items o c.place_in-place.result) (sym (home_seen settings c.args.self.now events c.args.e c.group-home.result c.requires.editor c.group-home.ensures st) ∙ home) c.place_in-place.ensures)
    starts refl refl (c.in_ok-owed.ensures body read) st ds
