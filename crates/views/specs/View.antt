-- The Format's "Variable-size binary view layout": what a view is, when it is valid, and the bytes that it shows.
use Rattle.std.specs.Prelude.{ℕ, ◌+◌, ◌-◌, ◌/◌, ◌%◌, Bool, ◌&&◌, cond, List, [], ◌∷◌, ◌++◌, length, get_or, take, ltb, leb, eqb}
use Rattle.search.specs.Every.{every}
use Rattle.words.specs.Word.{word32, with_word32}
use Rattle.words.specs.Run.{read}
use Rattle.views.specs.declared.View.{View}
use Rattle.views.specs.declared.Buffer.{Buffer}

-- the view whose 16 bytes stand at `at`. 01: "length; .. the first 4 bytes, index in the list, offset"; "All words
-- little-endian, read as unsigned"
unfoldable pub view_of : List ℕ → ℕ → View
view_of s at =
    record { length = word32 s at; prefix = word32 s (at + 4); index = word32 s (at + 8); offset = word32 s (at + 12) }

-- the bytes with the view v at `at`, every other byte as it was
unfoldable pub with_view : List ℕ → ℕ → View → List ℕ
with_view s at v =
    with_word32 (with_word32 (with_word32 (with_word32 s at v.length) (at + 4) v.prefix) (at + 8) v.index) (at + 12)
    v.offset

-- 01: "if at most 12, the bytes and zero padding; else .."
abbrev pub is_inline : View → Bool
is_inline v = leb v.length 12

-- the four bytes of a word, the lowest first
abbrev pub bytes_of : ℕ → List ℕ
bytes_of w = w % 256 ∷ w / 256 % 256 ∷ w / 65536 % 256 ∷ w / 16777216 ∷ []

-- the 12 bytes behind a view's length, which an inline view fills with its bytes and with zeros
unfoldable pub inline_bytes : View → List ℕ
inline_bytes v = bytes_of v.prefix ++ (bytes_of v.index ++ bytes_of v.offset)

-- every byte of l from place k up to place n is zero
unfoldable pub zero_from : List ℕ → ℕ → ℕ → Bool
zero_from l k n = every (λ i. eqb (get_or l (k + i) 0) 0) (n - k)

-- 01: "inline padding is zero": every byte behind those of the view
unfoldable pub is_padded : View → Bool
is_padded v = zero_from (inline_bytes v) v.length 12

-- 01: "offset + length is at most that buffer's length (not its capacity), and its 4 bytes are the buffer's at the offset"
unfoldable pub in_buffer : View → List ℕ → Bool
in_buffer v buffer = leb (v.offset + v.length) (length buffer) && eqb (word32 buffer v.offset) v.prefix

-- a valid view, where the list has `count` buffers and `buffer i` are the bytes of the one at index i.
-- 01: "Valid: inline padding is zero; a long view's index is below the list count, .."
unfoldable pub is_valid : View → (ℕ → List ℕ) → ℕ → Bool
is_valid v buffer count =
    cond (is_inline v) (is_padded v) (ltb v.index count && in_buffer v (buffer v.index))

-- the bytes that a view shows: its own, or those of its buffer from the offset on
unfoldable pub shows : View → (ℕ → List ℕ) → List ℕ
shows v buffer =
    cond (is_inline v) (take v.length (inline_bytes v)) (read v.offset v.length (buffer v.index))

-- the filled bytes of a buffer that lies in the pool. 01: "the part of the pool it fills"
unfoldable pub filled : Buffer → List ℕ → List ℕ
filled b pool = read b.start b.length.0 pool

-- what a view adds to ideal. 01: "the sum of lengths over 12"
unfoldable pub long_length : View → ℕ
long_length v = cond (is_inline v) 0 v.length

-- a long view at another index and offset. 01: "Long views get the new index and offset."
unfoldable pub repointed : ℕ → ℕ → View → View
repointed index offset v =
    cond (is_inline v) v (record { length = v.length; prefix = v.prefix; index = index; offset = offset })

-- 01: "add the earlier list length to the index of long views only"
unfoldable pub raised_by : ℕ → View → View
raised_by k v = repointed (v.index + k) v.offset v
