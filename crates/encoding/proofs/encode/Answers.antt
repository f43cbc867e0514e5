-- `encoding::encode` meets its contract.
use Prim.Native.Nat.{ℕ, zero, suc, ◌<◌, ◌^◌}
use mathlib.Core.Path.{◌≡◌}
use mathlib.Core.List.{List, [], ◌∷◌}
use native.Mathlib.Omega.{arith}
use lib.ListN.{length, get_or}
use mir.Val.{Val}
use denote.Shadow.{shadow}
use denote.Array.{each}
use borrow.Author.Rules.{rules}
use Rattle.std.specs.contracts.option.Option as option_row
use Rattle.counts.specs.contracts.BufferNumber as number_row
use Rattle.counts.specs.contracts.RowCount as rows_row
use Rattle.state.specs.contracts.Column as column_row
use Rattle.state.specs.contracts.BatchCoalescer as state_row
use Rattle.state.specs.declared.BatchCoalescer.{BatchCoalescer}
use Rattle.state.specs.declared.Column.{Column}
use Rattle.state.specs.World.{no_column, column_of}
use Rattle.codes.specs.Code.{limit_number, block_number, ColumnFits, Words}
use Rattle.codes.specs.PutLaws.{state_put}
use Rattle.encoding.proofs.encode.Goals as goal
use Rattle.std.specs.Prelude.{Option, Some, None}
use Rattle.counts.specs.declared.BufferNumber.{BufferNumber}
use Rattle.counts.specs.declared.RowCount.{RowCount}

-- what the value of an open block, a limit, a column, an array of columns and a state is known to be by its type
block-known : (o : Option BufferNumber) (us : List Val) → shadow ((option_row.the_field number_row.the_row).row.own_val ((option_row.the_field number_row.the_row).into o) us) → block_number o < 2 ^ 32
unfolding block_number
block-known (Some k) us p = p.1.1.1.1.0.1.1.0.1
block-known None us p = omega arith

limit-known : (l : Option RowCount) (us : List Val) → shadow ((option_row.the_field rows_row.the_row).row.own_val ((option_row.the_field rows_row.the_row).into l) us) → limit_number l < 2 ^ 32
unfolding limit_number
limit-known (Some k) us p = p.1.1.1.1.0.1.1.0.1
limit-known None us p = omega arith

column-known : (d : Column) (us : List Val) → shadow ((column_row.the_row).own_val d us) → ColumnFits d
column-known d us p =
    record {
      kind_fits = p.1.1.0.1;
      current_fits = p.1.1.1.0.1.1.0.1.1.0.1;
      block_fits = block-known d.block p.0.1.1.0 p.1.1.1.1.0;
    }

columns-known : (ds : List Column) (us : List Val) → shadow (each (column_row.the_row).Denot (column_row.the_row).own_val ds us) → (c : ℕ) → c < length ds → ColumnFits (get_or ds c no_column)
columns-known [] us p c h = absurd (omega arith)
columns-known (d ∷ ds) [] p c h = absurd p
columns-known (d ∷ ds) (u ∷ us) p zero h = column-known d (u ∷ []) p.0
columns-known (d ∷ ds) (u ∷ us) p (suc c) h = columns-known ds us p.1 c (omega arith)

state-known : (s : BatchCoalescer) (vs : List Val) → shadow ((state_row.the_row).own_val s vs) → Words s
unfolding column_of
state-known s vs p =
    let n : length s.column ≡ 16 = p.1.1.1.1.1.1.1.1.1.1.1.1.1.0.1.0.1 in
    record {
      target_fits = p.1.1.0.1.1.0.1;
      rows-fits = p.1.1.1.0.1.1.0.1;
      queue_fits = p.1.1.1.1.0.1;
      columns_fits = p.1.1.1.1.1.0.1;
      lists_fits = p.1.1.1.1.1.1.0.1;
      numbers-fits = p.1.1.1.1.1.1.1.0.1;
      pool-fits = p.1.1.1.1.1.1.1.1.0.1.1.0.1;
      limit_fits = limit-known s.limit p.0.1.1.1.1.1.1.1.0 p.1.1.1.1.1.1.1.1.1.0;
      place-fits = p.1.1.1.1.1.1.1.1.1.1.0.1;
      queued_fits = p.1.1.1.1.1.1.1.1.1.1.1.0.1;
      buffered_fits = p.1.1.1.1.1.1.1.1.1.1.1.1.0.1.1.0.1;
      sixteen = n;
      column_fits = λ c h. columns-known s.column p.1.1.1.1.1.1.1.1.1.1.1.1.1.0.0 p.1.1.1.1.1.1.1.1.1.1.1.1.1.0.1.1 c (omega arith);
    }

pub returns : goal.returns
returns c = (search (state_put, rules), state-known c.args.s _ c.well_formed.1.0)
