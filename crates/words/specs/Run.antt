-- A run of bytes in a memory: read, and put.
use Rattle.std.specs.Prelude.{ℕ, ◌+◌, List, ◌++◌, length, take, drop}

-- the n bytes from a on
unfoldable pub read : ℕ → ℕ → List ℕ → List ℕ
read a n s = take n (drop a s)

-- the memory with the bytes bs at `at`, every other byte as it was
unfoldable pub put : ℕ → List ℕ → List ℕ → List ℕ
put at bs s = take at s ++ (bs ++ drop (at + length bs) s)

-- the same as far as the memory reaches: bytes past its end are not put, and its length never changes. Where they all fit it is `put`
unfoldable pub lay : ℕ → List ℕ → List ℕ → List ℕ
lay at bs s = take (length s) (put at bs s)
