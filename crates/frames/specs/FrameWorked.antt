-- A frame computed: names that are whole, a control byte, a byte that stands by itself, a letter of two bytes, refused rows.
use Rattle.std.specs.Prelude.{◌≡◌, refl, [], ◌∷◌, ◌++◌}
use Rattle.std.specs.Prelude.{Some}
use Rattle.outs.specs.Outs.{Strip, empty}
use Rattle.frames.specs.Text.{text, decimal_in, decimal, is_control, shown, shown_from, shown_name}
use Rattle.frames.specs.Frame.{
  last_text,
  head_text,
  title_text,
  mark_text,
  player_text,
  place_text,
  places_text,
  side_text,
  reason_text,
  which_text,
  why_text,
  row_text,
  rows_text,
  strip_text,
  frame_of,
}

-- letters are their bytes
pub letters : text "Az 09\n" ≡ 65 ∷ 122 ∷ 32 ∷ 48 ∷ 57 ∷ 10 ∷ []
letters = refl

-- a name that would clear the screen, by ESC and by 155, the one byte for ESC and `[`, by itself and behind 194; 127; a letter of two bytes
pub screens : shown_name (27 ∷ 91 ∷ 50 ∷ 74 ∷ 155 ∷ 155 ∷ 194 ∷ 155 ∷ 155 ∷ 127 ∷ 195 ∷ 137 ∷ 155 ∷ [])
    ≡ 63 ∷ 91 ∷ 50 ∷ 74 ∷ 63 ∷ 63 ∷ 194 ∷ 63 ∷ 63 ∷ 63 ∷ 195 ∷ 137 ∷ 155 ∷ []
unfolding is_control shown shown_from shown_name
screens = refl

-- Asha, then a name with a line end in it, are out at home, nobody away; 3 rows wait; of four rows the second is refused 35 and the fourth 31
abbrev strip : Strip
strip = record { last = Some 27; first = (65 ∷ 115 ∷ 104 ∷ 97 ∷ []) ∷ (66 ∷ 10 ∷ 98 ∷ []) ∷ []; second = [] }

-- its frame
pub worked : frame_of strip 3 (0 ∷ 35 ∷ 0 ∷ 31 ∷ [])
    ≡ text "last row 27, rows waiting 3\n"
    ++ text "home 2/7 out\n"
    ++ text "  next back  Asha\n"
    ++ text "             B?b\n"
    ++ text "             -\n"
    ++ text "             -\n"
    ++ text "             -\n"
    ++ text "             -\n"
    ++ text "             -\n"
    ++ text "away 0/7 out\n"
    ++ text "             -\n"
    ++ text "             -\n"
    ++ text "             -\n"
    ++ text "             -\n"
    ++ text "             -\n"
    ++ text "             -\n"
    ++ text "             -\n"
    ++ text "row 2 of 4 refused, 35: a name already out on that side\n"
    ++ text "row 4 of 4 refused, 31: side, event, number or name null or out of range\n"
unfolding frame_of strip_text rows_text row_text why_text which_text reason_text side_text places_text place_text player_text mark_text title_text head_text last_text decimal decimal_in is_control shown shown_from shown_name
worked = refl

-- before any row
pub first_line : head_text empty.last 0 ≡ text "last row none, rows waiting 0\n"
unfolding head_text last_text decimal decimal_in
first_line = refl

-- the largest number has all its digits
pub largest : decimal 18446744073709551615 ≡ text "18446744073709551615"
unfolding decimal decimal_in
largest = refl
