-- A start is over.
use Rattle.std.proofs.Common.{refl, ap, ◌∙◌, None}
use Rattle.group_words.specs.Houses.{exit_of}
use Rattle.group_words.specs.Placing.{changed}
use Rattle.group_table.specs.Tables.{with_groups}
use Rattle.restart_replay.specs.Standings.{moved}
use Rattle.event_model.specs.declared.stage.Stage.TheVariants.{Ended}
use Rattle.restart_replay.specs.Standings.{Standing}
use Rattle.event_model.specs.Phases.{needs_server}
use Rattle.mux_tokens.specs.progress_route.specs.Tables.{less}
use Rattle.mux_tables.specs.declared.tables.Start.{Start}
use Rattle.mux_tables.specs.Stands.{any_in, number_in, unstopped}
use Rattle.mux_tables.proofs.Starts.{read_here, read_same}
use Rattle.mux_tables.proofs.tables.Tables.exit.Goals as goal

pub over-requires : goal.over-requires
over-requires c = c.requires.runs c.index_mut-last.result.now (read_here c.args.self.now.lasts.items c.args.g c.index_mut-last.result.now c.requires.group c.index_mut-last.ensures.value)

pub returns-clause-exits : goal.returns-clause-exits
returns-clause-exits c = λ z at.
    let e = read_same c.args.self.now.lasts.items c.args.g c.index_mut-last.result.now z c.requires.group c.index_mut-last.ensures.value at in
    record {
      groups = c.lose.ensures ∙ (ap (λ b. with_groups (changed c.group-group.result (exit_of c.args.restarts b) c.args.self.now.groups.groups) c.args.self.now.groups) c.in_ok-wanted.ensures.kept
          ∙ ap (λ n. with_groups (changed n (exit_of c.args.restarts (any_in needs_server c.args.self.now.editors n)) c.args.self.now.groups.groups) c.args.self.now.groups) (c.group-group.ensures ∙ ap (λ (w : Start). w.life.group) (read_same c.args.self.now.lasts.items c.args.g c.index.result.now z c.requires.group c.index.ensures at)));
      start = record { life = c.over.new.self; started = c.index_mut-last.result.now.started; ids = c.new-ids.result; shown = None; asks = c.new-asks.result; parked = c.new-parked.result; live = c.new-live.result; lists = c.new-lists.result };
      lasts = refl;
      life = c.over.ensures ∙ ap (λ w. moved Ended w.life) e;
      started = ap (λ w. w.started) e;
      requests_gone = c.new-ids.ensures.requests;
      next = c.new-ids.ensures.next;
      limit = c.new-ids.ensures.limit;
      order = c.new-ids.ensures.order;
      editors = refl;
      course = refl;
      origins = refl;
      created = c.end_start.ensures ∙ ap (λ n. less n c.args.self.now.origins.created) (c.start-2.ensures ∙ ap (λ (l : Standing). l.start) c.over.ensures ∙ ap number_in e);
      stopping = c.end_stop.ensures ∙ ap (λ n. unstopped n c.args.self.now.origins.stopping.items) (c.start.ensures ∙ ap (λ (l : Standing). l.start) c.over.ensures ∙ ap number_in e);
      waiting = refl;
      requests = refl;
    }

pub returns-clause-documents : goal.returns-clause-documents
returns-clause-documents c = c.unready.ensures
