-- Set-up and its bounds; the tests 1 and 14 that every later call begins with.
use Rattle.std.specs.Prelude.{ℕ, ◌+◌, ◌*◌, Bool, true, false, ◌&&◌, not, cond, List, [], ◌∷◌, length, ltb, leb, eqb}
use Rattle.search.specs.Every.{every}
use Rattle.search.specs.InOrder.{test, in_order}
use Rattle.words.specs.Word.{word32}
use Rattle.kinds.specs.Kind.{width_at}
use Rattle.books.specs.Entry.{is_free_at}
use Rattle.pool.specs.Read.{in_range}
use Rattle.state.specs.declared.BatchCoalescer.{BatchCoalescer}
use Rattle.state.specs.World.{World, column_of}
use Rattle.state.specs.Layout.{is_views, list_place, slots_length, books_length, rows_in, list_length}
use Rattle.std.specs.Prelude.{Option, Some, None}
use Rattle.counts.specs.declared.BufferNumber.{BufferNumber}

abbrev pub is_kind : Option ℕ → Bool
is_kind (Some n) = true
is_kind None = false

abbrev pub between : ℕ → ℕ → ℕ → Bool
between lo x hi = leb lo x && leb x hi

-- 01: "target T 1 to 65,536; slot rows R, T to 65,536; queue Q 1 to 1,024; columns 0 to 16, each of a kind in the table below;
-- buffers in one column of one batch B 1 to 1,024; buffer numbers N 1 to 65,536; pool 0 to 4,294,967,295 bytes"
unfoldable pub in_bounds : BatchCoalescer → Bool
in_bounds s =
    between 1 s.target.0 65536
    && (between s.target.0 s.rows.0 65536
    && (between 1 s.queue 1024
    && (leb s.columns 16
    && (every (λ c. is_kind (width_at (column_of s c).kind)) s.columns
    && (between 1 s.lists 1024 && (between 1 s.numbers 65536 && leb s.pool.0 4294967295))))))

-- 1: "set-up outside its bounds, or lent memory not of the set-up lengths"
unfoldable pub fits_set_up : World → Bool
fits_set_up w =
    in_bounds w.state
    && (eqb (length w.slots) (slots_length w.state)
    && (eqb (length w.pool) w.state.pool.0 && eqb (length w.books) (books_length w.state)))

-- column d, of views, has block k open
abbrev pub is_block : ℕ → Option BufferNumber → Bool
is_block k (Some j) = eqb j.0 k
is_block k None = false

unfoldable pub has_open : BatchCoalescer → ℕ → ℕ → Bool
has_open s k d = is_views s d && is_block k (column_of s d).block

-- 14, column by column: "a view column's kept block size below 4,096 or over 1,048,576"; an open block whose number is not below N or is
-- free, that its list has no place for, or that a column before has open too (DECISIONS 3 and 11)
abbrev pub block_in_range : BatchCoalescer → List ℕ → ℕ → ℕ → Option BufferNumber → Bool
block_in_range s books list c (Some k) =
    ltb k.0 s.numbers
    && (not (is_free_at books k.0) && (ltb list s.lists && every (λ d. not (has_open s k.0 d)) c))
block_in_range s books list c None = true

unfoldable pub column_in_range : World → ℕ → Bool
column_in_range w c =
    cond (is_views w.state c)
    (between 4096 (column_of w.state c).source.current.0 1048576
    && block_in_range w.state w.books (list_length w w.state.place c) c (column_of w.state c).block)
    true

-- 14, slot by slot, queued or not: "its rows over R", "a list over B", "a listed number not below N"; a column that is not of views has
-- no list
unfoldable pub list_in_range : World → ℕ → ℕ → Bool
list_in_range w slot c =
    leb (list_length w slot c) (cond (is_views w.state c) w.state.lists 0)
    && every (λ i. ltb (word32 w.slots (list_place w.state slot c + 4 * i)) w.state.numbers) (list_length w slot c)

unfoldable pub slot_in_range : World → ℕ → Bool
slot_in_range w slot =
    leb (rows_in w slot) w.state.rows.0 && every (list_in_range w slot) w.state.columns

-- 14: "state out of range: buffered not below T, queued over Q, a buffer past the pool or longer than its capacity, a slot's
-- place over Q (the first is 0) or its rows over R, a list over B, a listed number not below N, a view column's kept block size .."
unfoldable pub state_in_range : World → Bool
state_in_range w =
    ltb w.state.buffered.0 w.state.target.0
    && (leb w.state.queued w.state.queue
    && (leb w.state.place w.state.queue
    && (in_range w.books w.state.numbers w.state.pool.0
    && (every (column_in_range w) w.state.columns && every (slot_in_range w) (w.state.queue + 1)))))

-- the tests that every call after set-up begins with. 01: "Every call after set-up tests 1, then 14". The number of the refusal, and 0 where
-- there is none
unfoldable pub tested : World → ℕ
tested w = in_order (test (fits_set_up w) 1 ∷ test (state_in_range w) 14 ∷ []) 0
