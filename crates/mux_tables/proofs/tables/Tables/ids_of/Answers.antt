-- The ids of an editor's open requests at a group's last start.
use Rattle.std.proofs.lemmas.Result.{IfOk-weaker}
use Rattle.mux_tables.proofs.OpenIds.{ids_here, ids_order}
use Rattle.mux_tables.proofs.tables.Tables.ids_of.Goals as goal

pub returns : goal.returns
returns c = λ settings events s at st.
    let z = c.index.result.now in
    IfOk-weaker c.ids_of.result _ _ (λ texts is. ids_here settings c.args.self.now events c.args.g z c.requires c.index.ensures st s c.args.e texts.items at is)
    (c.ids_of.ensures (ids_order settings c.args.self.now events c.args.g z c.requires c.index.ensures st))
