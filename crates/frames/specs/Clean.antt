-- What may be said of any frame, whatever the names: which bytes reach a screen, how many lines there are, and in which order players stand.
use Rattle.std.specs.Prelude.{ℕ, zero, suc, ◌+◌, Bool, true, cond, not, ◌&&◌, ◌||◌, List, [], ◌∷◌, ◌++◌, eqb}
use Rattle.frames.specs.Text.{is_control}
use Rattle.frames.specs.Frame.{player_text, nobody}

-- behind the byte p each byte of a text is a line end, or may reach a screen where it stands
unfoldable pub is_clean : ℕ → List ℕ → Bool
is_clean p [] = true
is_clean p (b ∷ l) = (eqb b 10 || not (is_control p b)) && is_clean b l

-- how many lines a text ends
unfoldable pub lines : List ℕ → ℕ
lines [] = 0
lines (b ∷ l) = cond (eqb b 10) 1 0 + lines l

-- the players of a list, each at its place, from place i on
unfoldable pub players : ℕ → List (List ℕ) → List ℕ
players i [] = []
players i (name ∷ names) = player_text i name ++ players (suc i) names

-- n places with nobody in them
unfoldable pub free : ℕ → List ℕ
free zero = []
free (suc n) = nobody ++ free n
