-- Results that may refuse, and the small changes that a push is made of.
use Rattle.std.specs.Prelude.{ℕ, zero, suc, ◌+◌, ◌*◌, List, set}
use Rattle.words.specs.Word.{with_word32}
use Rattle.tallies.specs.Tally.{with_tally}
use Rattle.counts.specs.declared.RowCount.{RowCount}
use Rattle.state.specs.declared.BatchCoalescer.{BatchCoalescer}
use Rattle.state.specs.declared.Column.{Column}
use Rattle.blocks.specs.declared.BufferSource.{BufferSource}
use Rattle.state.specs.World.{World, column_of}
use Rattle.state.specs.Layout.{tally, list_place, list_length, next_slot}
use Rattle.std.specs.Prelude.{Option}
use Rattle.counts.specs.declared.BufferNumber.{BufferNumber}

-- a world, or the number of a refusal
pub data Res : Type 0 where
  ok : World → Res
  refuse : ℕ → Res

-- the next step, where the one before was not refused
abbrev pub bind : Res → (World → Res) → Res
bind (ok w) f = f w
bind (refuse number) f = refuse number

-- a step for each of 0, 1, .. below n, in order
unfoldable pub for_each : ℕ → (World → ℕ → Res) → World → Res
for_each zero f w = ok w
for_each (suc n) f w = bind (for_each n f w) (λ v. f v n)

-- and a change that nothing refuses
unfoldable pub each : ℕ → (World → ℕ → World) → World → World
each zero f w = w
each (suc n) f w = f (each n f w) n

-- the state with what set-up fixed and all else anew
abbrev pub with_rest : BatchCoalescer → Option RowCount → ℕ → ℕ → RowCount → List Column → BatchCoalescer
with_rest s limit place queued buffered column =
    record {
      target = s.target;
      rows = s.rows;
      queue = s.queue;
      columns = s.columns;
      lists = s.lists;
      numbers = s.numbers;
      pool = s.pool;
      limit = limit;
      place = place;
      queued = queued;
      buffered = buffered;
      column = column;
    }

-- with another limit; with other counts; with another column c
abbrev pub with_limit : BatchCoalescer → Option RowCount → BatchCoalescer
with_limit s limit = with_rest s limit s.place s.queued s.buffered s.column

abbrev pub with_counts : BatchCoalescer → ℕ → ℕ → ℕ → BatchCoalescer
with_counts s place queued buffered = with_rest s s.limit place queued (record { 0 = buffered }) s.column

abbrev pub with_column : BatchCoalescer → ℕ → BufferSource → Option BufferNumber → BatchCoalescer
with_column s c source block =
    with_rest s s.limit s.place s.queued s.buffered
    (set s.column c (record { kind = (column_of s c).kind; source = source; block = block }))

-- the world with another state, with other slots, with other books
abbrev pub in_state : World → BatchCoalescer → World
in_state w s = record { state = s; slots = w.slots; pool = w.pool; books = w.books }

abbrev pub in_slots : World → List ℕ → World
in_slots w x = record { state = w.state; slots = x; pool = w.pool; books = w.books }

abbrev pub in_books : World → List ℕ → World
in_books w x = record { state = w.state; slots = w.slots; pool = w.pool; books = x }

-- buffered set to a number of rows
abbrev pub buffering : World → ℕ → World
buffering w n = in_state w (with_counts w.state w.state.place w.state.queued n)

-- a count of a slot: word 0 its rows, word c + 1 the list length of column c
unfoldable pub counting : World → ℕ → ℕ → ℕ → World
counting w slot k v = in_books w (with_tally w.books (tally w.state slot k) v)

-- a number at the end of the list of column c of a slot
unfoldable pub listing : World → ℕ → ℕ → ℕ → World
listing w slot c number =
    counting (in_slots w (with_word32 w.slots (list_place w.state slot c + 4 * list_length w slot c) number)) slot (c + 1)
    (list_length w slot c + 1)

-- the slot being filled queued with so many rows, and the next one begun. 01: "the slot is queued"
unfoldable pub queueing : World → ℕ → World
queueing w rows =
    in_state (counting w w.state.place 0 rows)
    (with_counts w.state (next_slot w.state w.state.place) (w.state.queued + 1) 0)
