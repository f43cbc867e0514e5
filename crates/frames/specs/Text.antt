-- Text as bytes: words, numbers in decimal, and what bytes from outside show on a screen.
use Rattle.std.specs.Prelude.{ℕ, zero, suc, ◌+◌, ◌/◌, ◌%◌, Bool, cond, ◌&&◌, ◌||◌, List, [], ◌∷◌, ◌++◌, ltb, leb, eqb}
use Prim.Native.Char.{code}
use Prim.Native.String.{String, [] as done, ◌∷◌ as ◌and◌}

-- the bytes of words in plain letters
abbrev pub text : String → List ℕ
text done = []
text (c and s) = code c ∷ text s

-- the last k digits of a number at most, none of them a leading zero
unfoldable pub decimal_in : ℕ → ℕ → List ℕ
decimal_in zero n = []
decimal_in (suc k) n = cond (ltb n 10) ((48 + n) ∷ []) (decimal_in k (n / 10) ++ ((48 + n % 10) ∷ []))

-- a number in decimal: 20 digits hold every number of 64 bits
unfoldable pub decimal : ℕ → List ℕ
decimal n = decimal_in 20 n

-- a byte that may not reach a screen where it stands behind the byte p: one below 32, 127, and one from 128 to 159 that stands by itself or
-- behind 194, as UTF-8 has the controls from 128 to 159; in any other place such a byte is the rest of a letter
unfoldable pub is_control : ℕ → ℕ → Bool
is_control p b = ltb b 32 || (eqb b 127 || ((leb 128 b && leb b 159) && (ltb p 128 || eqb p 194)))

-- a byte as it is shown behind the byte p: `?` for one that may not reach a screen
unfoldable pub shown : ℕ → ℕ → ℕ
shown p b = cond (is_control p b) 63 b

-- bytes as they are shown behind the byte p, each behind the one that is shown before it
unfoldable pub shown_from : ℕ → List ℕ → List ℕ
shown_from p [] = []
shown_from p (b ∷ l) = shown p b ∷ shown_from (shown p b) l

-- a name as it is shown: it stands behind a space
unfoldable pub shown_name : List ℕ → List ℕ
shown_name name = shown_from 32 name
