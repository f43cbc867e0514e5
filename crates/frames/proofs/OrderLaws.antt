-- The players of a side stand in their order, each once, and the places behind them are free.
use Rattle.std.specs.Prelude.{ℕ, zero, suc, ◌+◌, ◌-◌, ◌≤◌, ◌<◌, ◌≡◌, refl, List, [], ◌∷◌, ◌++◌, length, take, get_or}
use Rattle.std.proofs.Common.{sym, ◌∙◌, ap, append-nil, append_assoc, arith, zero-add, add-zero, add-suc, suc-add, take-suc, take_all, length-take-le, lt-ltb, le-ltb}
use Rattle.frames.specs.Frame.{title_text, player_text, nobody, place_text, places_text, side_text}
use Rattle.frames.specs.Clean.{players, free}

-- ---- the order

-- one player more, at the end
players_join : (i : ℕ) (a : List (List ℕ)) (name : List ℕ) → players i (a ++ (name ∷ [])) ≡ players i a ++ player_text (i + length a) name
unfolding players
players_join i [] name = append-nil (player_text i name) ∙ ap (λ (k : ℕ). player_text k name) (sym (add-zero i))
players_join i (x ∷ a) name =
    ap (λ (t : List ℕ). player_text i x ++ t) (players_join (suc i) a name ∙ ap (λ (k : ℕ). players (suc i) a ++ player_text k name) (suc-add i (length a) ∙ sym (add-suc i (length a))))
    ∙ sym (append_assoc (player_text i x) (players (suc i) a) (player_text (i + suc (length a)) name))

-- one free place more
free_join : (n : ℕ) → free n ++ nobody ≡ nobody ++ free n
unfolding free
free_join zero = sym (append-nil nobody)
free_join (suc n) = append_assoc nobody (free n) nobody ∙ ap (λ (t : List ℕ). nobody ++ t) (free_join n)

-- a place of a player
taken-place : (names : List (List ℕ)) (i : ℕ) → i < length names → place_text names i ≡ player_text i (get_or names i [])
unfolding place_text
taken-place names i h = rw (lt-ltb i (length names) h)

-- and a free one
free-place : (names : List (List ℕ)) (i : ℕ) → length names ≤ i → place_text names i ≡ nobody
unfolding place_text
free-place names i h = rw (le-ltb i (length names) h)

-- no player
players-none : [] ≡ players 0 []
unfolding players
players-none = refl

-- the places of the first k players
first_places : (names : List (List ℕ)) (k : ℕ) → k ≤ length names → places_text names k ≡ players 0 (take k names)
unfolding places_text
first_places names zero h = players-none
first_places names (suc k) h =
    ap (λ (t : List ℕ). t ++ place_text names k) (first_places names k (omega arith))
    ∙ ap (λ (t : List ℕ). players 0 (take k names) ++ t) (taken-place names k (omega arith) ∙ ap (λ (j : ℕ). player_text j (get_or names k [])) (sym (zero-add (length (take k names)) ∙ length-take-le k names (omega arith))))
    ∙ sym (ap (players 0) (take-suc names k [] (omega arith)) ∙ players_join 0 (take k names) (get_or names k []))

-- and the places behind them
more_places : (names : List (List ℕ)) (j : ℕ) → places_text names (j + length names) ≡ players 0 names ++ free j
unfolding places_text free
more_places names zero =
    ap (places_text names) (zero-add (length names)) ∙ first_places names (length names) (omega arith) ∙ ap (players 0) (take_all (length names) names (omega arith)) ∙ sym (append-nil (players 0 names))
more_places names (suc j) =
    ap (places_text names) (suc-add j (length names))
    ∙ ap (λ (t : List ℕ). t ++ place_text names (j + length names)) (more_places names j)
    ∙ ap (λ (t : List ℕ). (players 0 names ++ free j) ++ t) (free-place names (j + length names) (omega arith))
    ∙ append_assoc (players 0 names) (free j) nobody
    ∙ ap (λ (t : List ℕ). players 0 names ++ t) (free_join j)

-- 02, K6: "the out players, up to seven, in the order they went out": each player of a side once, in the side's order, then free places
pub in_their_order : (label : List ℕ) (names : List (List ℕ)) → length names ≤ 7 → side_text label names ≡ title_text label (length names) ++ (players 0 names ++ free (7 - length names))
unfolding side_text
in_their_order label names h =
    let e : 7 ≡ (7 - length names) + length names = omega arith in
    ap (λ (t : List ℕ). title_text label (length names) ++ t) (ap (places_text names) e ∙ more_places names (7 - length names))
