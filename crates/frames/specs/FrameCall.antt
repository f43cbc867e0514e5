-- What the call answers and leaves, for all bytes: the frame where the bytes code a strip and there is room for its greatest size; else 0, and
-- nothing is written.
use Rattle.std.specs.Prelude.{ℕ, ◌+◌, ◌*◌, Bool, ◌&&◌, cond, List, length, leb}
use Rattle.words.specs.Run.{put}
use Rattle.outs.specs.Coding.{strip_of, is_strip}
use Rattle.frames.specs.Frame.{frame_of}

-- the bytes that a frame of a batch of so many rows may take: 1,221 for the strip, 129 for each row
unfoldable pub frame_bytes : ℕ → ℕ
frame_bytes rows = 1221 + 129 * rows

-- so many bytes are room for it
unfoldable pub has_room : ℕ → ℕ → Bool
has_room size rows = leb (frame_bytes rows) size

-- there is a strip to show, and room for its frame
unfoldable pub is_ready : List ℕ → List ℕ → List ℕ → Bool
is_ready b numbers out = is_strip b && has_room (length out) (length numbers)

-- how many bytes the frame has, never 0; 0 where there is none
unfoldable pub frame_answer : List ℕ → ℕ → List ℕ → List ℕ → ℕ
frame_answer b waiting numbers out = cond (is_ready b numbers out) (length (frame_of (strip_of b) waiting numbers)) 0

-- the frame at the front, every byte behind it as it was
unfoldable pub frame_leaves : List ℕ → ℕ → List ℕ → List ℕ → List ℕ
frame_leaves b waiting numbers out = cond (is_ready b numbers out) (put 0 (frame_of (strip_of b) waiting numbers) out) out
