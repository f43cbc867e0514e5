-- The size of a block, per view column, kept across batches: 01's paragraph "Block size", a definition a sentence.
use Rattle.std.specs.Prelude.{ℕ, ◌*◌, ◌^◌, max, Bool, true, cond, List, [], ◌∷◌, ltb, leb}
use Rattle.std.specs.Prelude.{Option, None, Some}
use Rattle.search.specs.First.{first}
use Rattle.counts.specs.declared.ByteSum.{ByteSum}
use Rattle.blocks.specs.declared.BufferSource.{BufferSource}
use Rattle.blocks.specs.declared.NextSize.{NextSize}

-- the largest size that is doubled to
abbrev pub top : ℕ
top = 1_048_576

-- a source that keeps a size
abbrev pub keeping : ℕ → BufferSource
keeping size = record { current = record { 0 = size } }

-- what an ask gives
abbrev pub next : ℕ → ℕ → NextSize
next size answer = record { source = keeping size; size = record { 0 = answer } }

-- 01: "begins at 4,096"
abbrev pub fresh : BufferSource
fresh = keeping 4_096

-- 01: "Each ask doubles it if below 1,048,576."
unfoldable pub doubled : ℕ → ℕ
doubled size = cond (ltb size top) (size * 2) size

-- j doublings are enough: the size is above the minimum, or no longer below 1,048,576
unfoldable pub enough : ℕ → ℕ → ℕ → Bool
enough size min j = cond (ltb min (size * 2 ^ j)) true (leb top (size * 2 ^ j))

abbrev pub or_none : Option ℕ → ℕ
or_none None = 0
or_none (Some j) = j

-- the fewest doublings that are enough (20 always are, of a size that is not 0)
unfoldable pub doublings : ℕ → ℕ → ℕ
doublings size min = or_none (first (enough size min) 21)

-- 01: "double while it is at most the minimum and below 1,048,576"
unfoldable pub grown : ℕ → ℕ → ℕ
grown size min = size * 2 ^ doublings size min

-- 01: "Each ask doubles it .. If it is then below the minimum, double while .."
unfoldable pub kept : ℕ → ℕ → ℕ
kept size min = cond (ltb (doubled size) min) (grown (doubled size) min) (doubled size)

-- one ask. 01: "The answer is the larger of it and the minimum."
unfoldable pub asked : BufferSource → ByteSum → NextSize
asked source min =
    next (kept source.current.0 min.0) (max (kept source.current.0 min.0) min.0)

-- the source after a history of asks
unfoldable pub after_asks : BufferSource → List ByteSum → BufferSource
after_asks source [] = source
after_asks source (min ∷ mins) = after_asks (asked source min).source mins
