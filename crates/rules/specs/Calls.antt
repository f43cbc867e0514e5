-- Every call: its answer, and the world after it. A refusal gives its number, and the world is the old one.
use Rattle.std.specs.Prelude.{ℕ, zero, suc, ◌+◌, ◌*◌, ◌-◌, Bool, ◌&&◌, not, cond, List, [], ◌∷◌, length, replicate, ltb, eqb}
use Rattle.std.specs.Prelude.{Option, None, Some}
use Rattle.search.specs.InOrder.{test, in_order}
use Rattle.words.specs.Run.{read}
use Rattle.bits.specs.Bits.{bits_from}
use Rattle.blocks.specs.Block.{fresh}
use Rattle.listings.specs.Listing.{unlisted_one, over_list}
use Rattle.sound.specs.Sound.{filled_bytes}
use Rattle.views.specs.declared.View.{View}
use Rattle.views.specs.View.{view_of, is_inline}
use Rattle.pool.specs.Register.{registered, let_go}
use Rattle.pool.specs.Read.{read_refusal, part_of}
use Rattle.state.specs.declared.BatchCoalescer.{BatchCoalescer}
use Rattle.state.specs.declared.Column.{Column}
use Rattle.state.specs.declared.Place.{Place}
use Rattle.state.specs.declared.RowAnswer.{RowAnswer}
use Rattle.state.specs.World.{World}
use Rattle.state.specs.Layout.{width_of, is_views, bitmap_place, list_place, cell_place, rows_in, list_length}
use Rattle.state.specs.Rows.{Cell, null, value, listed_at, front_slot}
use Rattle.rules.specs.Batch.{Batch}
use Rattle.rules.specs.Ranges.{fits_set_up, tested}
use Rattle.rules.specs.Steps.{Res, ok, refuse, each, with_counts, in_state, in_books, counting}
use Rattle.rules.specs.Push.{pushed, finished}
use Rattle.std.specs.Prelude.{Result, Err}
use Rattle.counts.specs.declared.BufferNumber.{BufferNumber}
use Rattle.counts.specs.declared.RowCount.{RowCount}

-- an answer, and the world that goes with it
pub record Answered : Type 0 where
  pub number : ℕ
  pub world : World

-- 01: "Each returns its number .. and changes nothing."
abbrev pub or_old : World → Res → Answered
or_old w (ok v) = record { number = 0; world = v }
or_old w (refuse number) = record { number = number; world = w }

-- ---- set-up

-- what set-up is asked for
pub record Wanted : Type 0 where
  pub target : ℕ
  pub rows : ℕ
  pub queue : ℕ
  pub kinds : List ℕ
  pub lists : ℕ
  pub numbers : ℕ
  pub pool : ℕ

-- the column of a kind, and n columns: of the kinds asked for, then none
abbrev pub of_kind : ℕ → Column
of_kind k = record { kind = k; source = fresh; block = None }

unfoldable pub columns_for : List ℕ → ℕ → List Column
columns_for kinds zero = []
columns_for [] (suc n) = of_kind 0 ∷ columns_for [] n
columns_for (k ∷ ks) (suc n) = of_kind k ∷ columns_for ks n

-- the state that set-up makes. 01: "Set-up empties state and books, sets no limit, and changes no slot or pool byte."
unfoldable pub new_state : Wanted → BatchCoalescer
new_state a =
    record {
      target = record { 0 = a.target };
      rows = record { 0 = a.rows };
      queue = a.queue;
      columns = length a.kinds;
      lists = a.lists;
      numbers = a.numbers;
      pool = record { 0 = a.pool };
      limit = None;
      place = 0;
      queued = 0;
      buffered = record { 0 = 0 };
      column = columns_for a.kinds 16;
    }

-- the state that a refused set-up hands back: its target is 0, and every call on it refuses 1
abbrev pub no_state : BatchCoalescer
no_state = new_state (record { target = 0; rows = 0; queue = 0; kinds = []; lists = 0; numbers = 0; pool = 0 })

-- new: a state, with slots and pool as they were and books of zeros; or refusal 1, and nothing changed
unfoldable pub set_up_call : Wanted → List ℕ → List ℕ → List ℕ → Answered
set_up_call a slots pool books =
    cond (fits_set_up (record { state = new_state a; slots = slots; pool = pool; books = books }))
    (record { number = 0; world = record { state = new_state a; slots = slots; pool = pool; books = replicate (length books) 0 } })
    (record { number = 1; world = record { state = no_state; slots = slots; pool = pool; books = books } })

-- ---- the calls

-- push_batch
unfoldable pub push_call : World → Batch → Answered
push_call w b = or_old w (pushed w b)

-- finish_buffered_batch
unfoldable pub finish_call : World → Answered
finish_call w = or_old w (cond (eqb (tested w) 0) (finished w) (refuse (tested w)))

-- the counts of a slot zero. 01: "a dropped slot's counts become zero"
unfoldable pub uncounted : World → ℕ → World
uncounted w slot = each (1 + w.state.columns) (λ v k. counting v slot k 0) w

-- one listing less for each number of the list of column c of a slot, as often as it stands there
unfoldable pub list_dropped : World → ℕ → ℕ → World
list_dropped w slot c =
    in_books w
    (over_list unlisted_one w.books (read (list_place w.state slot c) (4 * list_length w slot c) w.slots) (list_length w slot c))

-- next_completed_batch: the front batch dropped; answers its row count, and 0 on an empty queue
pub record Dropped : Type 0 where
  pub number : ℕ
  pub rows : ℕ
  pub world : World

unfoldable pub dropped : World → World
dropped w =
    let v = uncounted (each w.state.columns (λ v c. list_dropped v (front_slot w) c) w) (front_slot w) in
    in_state v (with_counts w.state w.state.place (w.state.queued - 1) w.state.buffered.0)

unfoldable pub drop_call : World → Dropped
drop_call w =
    in_order
    (test (eqb (tested w) 0) (record { number = tested w; rows = 0; world = w })
    ∷ test (not (eqb w.state.queued 0)) (record { number = 0; rows = 0; world = w })
    ∷ [])
    (record { number = 0; rows = rows_in w (front_slot w); world = dropped w })

-- register and let go, behind the tests. 01: "Registering: 13, 11, 12."
pub record RegisterAnswer : Type 0 where
  pub answer : Result BufferNumber ℕ
  pub world : World

unfoldable pub register_call : World → List ℕ → ℕ → RegisterAnswer
register_call w bytes capacity =
    let o = registered w.books w.pool w.state.numbers bytes capacity in
    cond (eqb (tested w) 0) (record { answer = o.answer; world = record { state = w.state; slots = w.slots; pool = o.pool; books = o.books } })
    (record { answer = Err (tested w); world = w })

unfoldable pub let_go_call : World → ℕ → Answered
let_go_call w i =
    let o = let_go w.books i in
    cond (eqb (tested w) 0) (record { number = o.answer; world = in_books w o.books }) (record { number = tested w; world = w })

-- ---- reads

-- 01: "a value is in its row or in a buffer: start in the lent slots and length, or buffer number, offset in that buffer and length"; an
-- inline view's bytes begin 4 behind its start (DECISIONS 12); a long view outside its list, which no history leaves, is not there
unfoldable pub view_answer : World → ℕ → ℕ → ℕ → View → RowAnswer
view_answer w slot c at v =
    cond (is_inline v) (RowAnswer.Value (Place.InRow (at + 4) (record { 0 = v.length })))
    (cond (ltb v.index (list_length w slot c))
    (RowAnswer.Value (Place.InBuffer (record { 0 = listed_at w slot c v.index }) v.offset (record { 0 = v.length })))
    (RowAnswer.Refused 13))

unfoldable pub value_answer : World → ℕ → ℕ → ℕ → RowAnswer
value_answer w slot c i =
    cond (is_views w.state c)
    (view_answer w slot c (cell_place w.state slot c i) (view_of w.slots (cell_place w.state slot c i)))
    (RowAnswer.Value (Place.InRow (cell_place w.state slot c i) (record { 0 = width_of w.state c })))

-- there is a front batch with row i and column c
unfoldable pub is_row : World → ℕ → ℕ → Bool
is_row w c i = ltb 0 w.state.queued && (ltb c w.state.columns && ltb i (rows_in w (front_slot w)))

-- row i of column c of the front batch. 01: "Reading a row answers by cases: a row is null or a value"; 13: "read of a row .. that isn't
-- there"
unfoldable pub read_row : World → ℕ → ℕ → RowAnswer
read_row w c i =
    in_order
    (test (eqb (tested w) 0) (RowAnswer.Refused (tested w)) ∷ test (is_row w c i) (RowAnswer.Refused 13) ∷ [])
    (cond (eqb (bits_from w.slots (bitmap_place w.state (front_slot w) c) 0 i) 0) RowAnswer.Null
    (value_answer w (front_slot w) c i))

-- 01: "Any answer that is an enum has a definition." The number of a row's answer, 0 where the read is not refused
abbrev pub row_refusal : RowAnswer → ℕ
row_refusal RowAnswer.Null = 0
row_refusal (RowAnswer.Value p) = 0
row_refusal (RowAnswer.Refused number) = number

-- and its value: what an answer means in the world that it was read in. A refusal has none
abbrev pub place_bytes : World → Place → List ℕ
place_bytes w (Place.InRow start n) = read start n.0 w.slots
place_bytes w (Place.InBuffer k offset n) = read offset n.0 (filled_bytes w.books w.pool k.0)

abbrev pub read_as : World → RowAnswer → Option Cell
read_as w RowAnswer.Null = Some null
read_as w (RowAnswer.Value p) = Some (value (place_bytes w p))
read_as w (RowAnswer.Refused number) = None

-- the read of a buffer, and the number beside it
unfoldable pub buffer_number_call : World → ℕ → ℕ
buffer_number_call w i = cond (eqb (tested w) 0) (read_refusal w.books w.pool i) (tested w)

unfoldable pub buffer_call : World → ℕ → List ℕ
buffer_call w i = cond (eqb (tested w) 0) (part_of w.books w.pool i) []

-- ---- the calls on the state alone, which refuse nothing

-- set_biggest_coalesce_batch_size is `with_limit`; biggest_coalesce_batch_size
unfoldable pub limit_of : BatchCoalescer → Option RowCount
limit_of s = s.limit

-- get_buffered_rows, has_completed_batch, is_empty
unfoldable pub buffered_count : BatchCoalescer → ℕ
buffered_count s = s.buffered.0

unfoldable pub has_completed : BatchCoalescer → Bool
has_completed s = ltb 0 s.queued

unfoldable pub is_empty : BatchCoalescer → Bool
is_empty s = eqb s.buffered.0 0 && eqb s.queued 0
