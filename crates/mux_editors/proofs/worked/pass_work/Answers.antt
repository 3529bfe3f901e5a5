-- The notification goes on.
use Rattle.std.proofs.Common.{ap, codes}
use Rattle.document_model.specs.Sayings.{saying_of}
use Rattle.event_model.specs.Event.{requests}
use Rattle.group_rows.specs.Forwarded.{moves_ids}
use Rattle.group_rows.specs.Texts.{is_synced}
use Rattle.mux_tables.specs.Documents.{nothing_owed}
use Rattle.mux_tables.specs.Stands.{is_answer}
use Rattle.mux_tables.proofs.DocumentOwed.{all_does}
use Rattle.mux_editors.proofs.worked.pass_work.Goals as goal

pub returns : goal.returns
returns c = record {
  does = λ settings base params s says at.
      let t = c.args.tables.now in
      all_does settings t t nothing_owed nothing_owed base c.args.outs.now c.notify.new.outs
      (c.in_ok-notify.ensures.does settings base s at (ap (requests (codes "shutdown")) says) (ap moves_ids says) (λ x here ready. ap is_answer says))
      (λ _ d. c.in_ok-notify.ensures.documents settings nothing_owed base (ap saying_of says) (ap is_synced says) d);
}
