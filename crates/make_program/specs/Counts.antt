-- What a history counts, and the line that says it.
use Rattle.std.specs.Prelude.{ℕ, ◌+◌, ◌≤◌, List, [], ◌∷◌, ◌++◌, codes, decimal, fold}
use Rattle.mux_history.specs.declared.entry.Entry.{Entry}
use Rattle.mux_history.specs.declared.out.Out.{Out}
use Rattle.mux_history.specs.declared.out.Out.TheVariants.{ToEditor, ToServer, Spawn, CloseEditor, EndServer}
use Rattle.make_program.specs.declared.counts.Counts.{Counts}

-- one more out
abbrev pub with_out : Counts → Out → Counts
with_out counts (ToEditor e body) = record counts { outs = counts.outs + 1; to_editors = counts.to_editors + 1 }
with_out counts (ToServer s body) = record counts { outs = counts.outs + 1; to_servers = counts.to_servers + 1 }
with_out counts (Spawn s g) = record counts { outs = counts.outs + 1; starts = counts.starts + 1 }
with_out counts (CloseEditor e) = record counts { outs = counts.outs + 1 }
with_out counts (EndServer s) = record counts { outs = counts.outs + 1 }

-- one more entry
abbrev pub with_entry : Counts → Entry → Counts
with_entry counts entry = fold with_out (record counts { causes = counts.causes + 1 }) entry.outs

abbrev pub nothing : Counts
nothing = record { causes = 0; outs = 0; to_editors = 0; to_servers = 0; starts = 0 }

abbrev pub counts_of : List Entry → Counts
counts_of history = fold with_entry nothing history

-- no kind of out is counted more often than outs are
pub record IsSound (counts : Counts) : Type 0 where
  pub editors : counts.to_editors ≤ counts.outs
  pub servers : counts.to_servers ≤ counts.outs
  pub starts : counts.starts ≤ counts.outs

abbrev pub summary_line : Counts → List ℕ
summary_line counts = codes "causes " ++ (decimal counts.causes ++ (codes " outs " ++ (decimal counts.outs ++ (codes " to-editors " ++ (decimal counts.to_editors
    ++ (codes " to-servers " ++ (decimal counts.to_servers ++ (codes " starts " ++ (decimal counts.starts ++ 10 ∷ [])))))))))
