-- An editor is told of an open request of its own.
use Rattle.std.proofs.Common.{ap}
use Rattle.event_model.specs.Event.{behind}
use Rattle.event_model.specs.Requests.{answered_id}
use Rattle.mux_tables.specs.Documents.{nothing_owed}
use Rattle.mux_tables.proofs.DocumentOwed.{all_does}
use Rattle.mux_turns.proofs.Keeping.{keeps_notice}
use Rattle.mux_starts.proofs.progress.tell.Goals as goal

pub returns : goal.returns
returns c = record {
  does = λ settings base method params plain says.
      let t = c.args.tables.now in
      all_does settings t t nothing_owed nothing_owed base c.args.outs.now c.tell.new.outs
      (c.in_ok-tell.ensures.does settings base (keeps_notice c.args.telling.editor c.args.telling.text (behind base c.args.outs.now) method params plain says) (ap answered_id says))
      (λ _ d. c.in_ok-tell.ensures.documents settings nothing_owed base d);
}
