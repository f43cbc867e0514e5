-- What a frame of the player strip shows, as bytes of text. 02, K6: "For each side it keeps the out players, up to seven, in the order they
-- went out; a revive takes the one who has been out longest."
--
--     last row 27, rows waiting 3
--     home 2/7 out
--       next back  Asha
--                  Chitralekha Rao
--                  -
--                  -
--                  -
--                  -
--                  -
--     away 0/7 out
--                  -
--                  -
--                  -
--                  -
--                  -
--                  -
--                  -
--     row 2 of 4 refused, 35: a name already out on that side
--
-- 17 lines, whoever is out, and then a line for each refused row of the batch. A name's line has 77 bytes at most.
use Rattle.std.specs.Prelude.{ℕ, zero, suc, ◌+◌, cond, List, [], ◌++◌, length, get_or, ltb, eqb}
use Rattle.std.specs.Prelude.{Option, None, Some}
use Rattle.outs.specs.Outs.{Strip}
use Rattle.frames.specs.Text.{text, decimal, shown_name}

-- the end of a line
abbrev pub line_end : List ℕ
line_end = text "\n"

-- ---- the first line

-- 02, K6: "the last accepted row's" number, where there is one
unfoldable pub last_text : Option ℕ → List ℕ
last_text None = text "none"
last_text (Some n) = decimal n

-- that number, and how many rows wait behind the batch that was read
unfoldable pub head_text : Option ℕ → ℕ → List ℕ
head_text last waiting = text "last row " ++ (last_text last ++ (text ", rows waiting " ++ (decimal waiting ++ line_end)))

-- ---- a side: how many are out, and seven places, the one out longest first

-- the side, and how many of it are out. 02, K6: "up to seven"
unfoldable pub title_text : List ℕ → ℕ → List ℕ
title_text label n = label ++ (decimal n ++ text "/7 out\n")

-- 02, K6: "a revive takes the one who has been out longest": who comes back next
unfoldable pub mark_text : ℕ → List ℕ
mark_text i = cond (eqb i 0) (text "  next back  ") (text "             ")

-- place i with a player in it, the name whole
unfoldable pub player_text : ℕ → List ℕ → List ℕ
player_text i name = mark_text i ++ (shown_name name ++ line_end)

-- a place with nobody in it
abbrev pub nobody : List ℕ
nobody = text "             -\n"

-- place i: 02, K6: "in the order they went out"
unfoldable pub place_text : List (List ℕ) → ℕ → List ℕ
place_text names i = cond (ltb i (length names)) (player_text i (get_or names i [])) nobody

-- the first n places
unfoldable pub places_text : List (List ℕ) → ℕ → List ℕ
places_text names zero = []
places_text names (suc i) = places_text names i ++ place_text names i

-- a side's eight lines
unfoldable pub side_text : List ℕ → List (List ℕ) → List ℕ
side_text label names = title_text label (length names) ++ places_text names 7

-- ---- refused rows

-- 02, K6, what each number says, in its words; a row has no other number
unfoldable pub reason_text : ℕ → List ℕ
reason_text number =
    cond (eqb number 31) (text "side, event, number or name null or out of range")
    (cond (eqb number 32) (text "row number not above the last accepted row's")
    (cond (eqb number 33) (text "an eighth out")
    (cond (eqb number 34) (text "revive with nobody out")
    (cond (eqb number 35) (text "a name already out on that side") (text "not accepted")))))

-- row i of the batch, counted from 1, of how many
unfoldable pub which_text : ℕ → ℕ → List ℕ
which_text i rows = text "row " ++ (decimal (i + 1) ++ (text " of " ++ decimal rows))

-- the number that refused it, and what it says
unfoldable pub why_text : ℕ → List ℕ
why_text number = text " refused, " ++ (decimal number ++ (text ": " ++ (reason_text number ++ line_end)))

-- a row's line: none where it was accepted
unfoldable pub row_text : List ℕ → ℕ → List ℕ
row_text numbers i = cond (eqb (get_or numbers i 0) 0) [] (which_text i (length numbers) ++ why_text (get_or numbers i 0))

-- the lines of the first n rows
unfoldable pub rows_text : List ℕ → ℕ → List ℕ
rows_text numbers zero = []
rows_text numbers (suc i) = rows_text numbers i ++ row_text numbers i

-- ---- the frame

-- a strip, and how many rows wait: 17 lines
unfoldable pub strip_text : Strip → ℕ → List ℕ
strip_text s waiting = head_text s.last waiting ++ (side_text (text "home ") s.first ++ side_text (text "away ") s.second)

-- the same, and the number of each row of the batch
unfoldable pub frame_of : Strip → ℕ → List ℕ → List ℕ
frame_of s waiting numbers = strip_text s waiting ++ rows_text numbers (length numbers)
