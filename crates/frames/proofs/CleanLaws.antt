-- No control byte of a name reaches a screen: every frame is clean, whatever the names.
use Rattle.std.specs.Prelude.{ℕ, zero, suc, ◌+◌, ◌/◌, ◌%◌, ◌≤◌, ◌<◌, ◌≡◌, refl, Bool, true, false, cond, not, ◌&&◌, ◌||◌, List, [], ◌∷◌, ◌++◌, length, get_or, eqb, ltb, leb}
use Rattle.std.proofs.Common.{sym, ◌∙◌, arith, mod-lt, ltb-true, ltb-false, leb-true, eqb-true, le-ltb, ne_eqb, le-leb}
use Rattle.std.specs.Prelude.{Option, None, Some}
use Rattle.std.proofs.lemmas.Bool.{eqb-false, lt-leb}
use Rattle.search.specs.Cases.{by_cond, both}
use Rattle.outs.specs.Outs.{Strip}
use Rattle.frames.specs.Text.{text, decimal_in, decimal, is_control, shown, shown_from, shown_name}
use Rattle.frames.specs.Frame.{line_end, last_text, head_text, title_text, mark_text, player_text, nobody, place_text, places_text, side_text, reason_text, which_text, why_text, row_text, rows_text, strip_text, frame_of}
use Rattle.frames.specs.Clean.{is_clean}

-- a text that is clean behind every byte
pub record Clean (t : List ℕ) : Type 0 where
  pub behind : (p : ℕ) → is_clean p t ≡ true

-- the last byte of a text behind p
last : ℕ → List ℕ → ℕ
last p [] = p
last p (b ∷ l) = last b l

-- both tests passed
and_true : (a b : Bool) → (a && b) ≡ true → (a ≡ true) × (b ≡ true)
and_true true true h = (refl, refl)
and_true true false h = (refl, h)
and_true false b h = (h, absurd (false_true h))
  where
    false_true : false ≡ true → ⊥
    false_true e = let z : ◌≡◌ {A = ℕ} 0 1 = cc in omega arith

-- texts one behind the other
clean_join : (p : ℕ) (a b : List ℕ) → is_clean p a ≡ true → is_clean (last p a) b ≡ true → is_clean p (a ++ b) ≡ true
unfolding is_clean last
clean_join p [] b h k = k
clean_join p (x ∷ a) b h k =
    let q : ((eqb x 10 || not (is_control p x)) ≡ true) × (is_clean x a ≡ true) = and_true (eqb x 10 || not (is_control p x)) (is_clean x a) h in
    both q.0 (clean_join x a b q.1 k)

-- clean texts one behind the other
clean_append : {a b : List ℕ} → Clean a → Clean b → Clean (a ++ b)
clean_append {a} {b} x y = record { behind = λ p. clean_join p a b (x.behind p) (y.behind (last p a)) }

-- ---- names

-- `?` may reach a screen
question : (p : ℕ) → is_control p 63 ≡ false
unfolding is_control
question p = refl

-- what is shown may
showable : (p b : ℕ) → is_control p (shown p b) ≡ false
unfolding shown
showable p b = go (is_control p b) refl
  where
    go : (c : Bool) → is_control p b ≡ c → is_control p (cond c 63 b) ≡ false
    go true e = question p
    go false e = e

-- a test that fails, said the other way round
or_not : (a : Bool) {b : Bool} → b ≡ false → (a || not b) ≡ true
or_not true e = refl
or_not false e = rw e

-- so a name that is shown is clean
shown_clean : (p : ℕ) (l : List ℕ) → is_clean p (shown_from p l) ≡ true
unfolding is_clean shown_from
shown_clean p [] = refl
shown_clean p (b ∷ l) = both (or_not (eqb (shown p b) 10) (showable p b)) (shown_clean (shown p b) l)

-- ---- numbers

-- a plain letter
plain_byte : (p b : ℕ) → 32 ≤ b → b < 127 → is_control p b ≡ false
unfolding is_control
plain_byte p b h k = rw (le-ltb b 32 h, ne_eqb b 127 (λ e. omega arith), lt-leb 128 b (omega arith))

-- a digit
digit_clean : (d : ℕ) → d < 10 → Clean ((48 + d) ∷ [])
unfolding is_clean
digit_clean d h = record { behind = λ p. both (or_not (eqb (48 + d) 10) (plain_byte p (48 + d) (omega arith) (omega arith))) refl }

-- no text at all
nothing_clean : Clean []
unfolding is_clean
nothing_clean = record { behind = λ p. refl }

-- digits
number_clean : (k n : ℕ) → Clean (decimal_in k n)
unfolding decimal_in
number_clean zero n = nothing_clean
number_clean (suc k) n =
    by_cond Clean (ltb n 10) (λ q. digit_clean n (ltb-true n 10 q))
    (λ q. clean_append (number_clean k (n / 10)) (digit_clean (n % 10) (mod-lt n {m = 10} (omega arith))))

-- a number
decimal_clean : (n : ℕ) → Clean (decimal n)
unfolding decimal
decimal_clean n = number_clean 20 n

-- ---- words

-- words of plain letters and line ends
plain : List ℕ → Bool
plain [] = true
plain (b ∷ l) = (eqb b 10 || (leb 32 b && ltb b 127)) && plain l

-- a plain letter or a line end
plain_at_lem : (p b : ℕ) → (eqb b 10 || (leb 32 b && ltb b 127)) ≡ true → (eqb b 10 || not (is_control p b)) ≡ true
plain_at_lem p b h = go (eqb b 10) refl h
  where
    go : (c : Bool) → eqb b 10 ≡ c → (c || (leb 32 b && ltb b 127)) ≡ true → (c || not (is_control p b)) ≡ true
    go true e k = refl
    go false e k =
        let q : (leb 32 b ≡ true) × (ltb b 127 ≡ true) = and_true (leb 32 b) (ltb b 127) k in
        or_not false (plain_byte p b (leb-true 32 b q.0) (ltb-true b 127 q.1))

-- behind any byte
plain_from : (p : ℕ) (t : List ℕ) → plain t ≡ true → is_clean p t ≡ true
unfolding is_clean plain
plain_from p [] h = refl
plain_from p (b ∷ l) h =
    let q : ((eqb b 10 || (leb 32 b && ltb b 127)) ≡ true) × (plain l ≡ true) = and_true (eqb b 10 || (leb 32 b && ltb b 127)) (plain l) h in
    both (plain_at_lem p b q.0) (plain_from b l q.1)

-- words
words_clean : (t : List ℕ) → plain t ≡ true → Clean t
words_clean t h = record { behind = λ p. plain_from p t h }

-- ---- the pieces of a frame

-- a line end
end_clean : Clean line_end
unfolding plain
end_clean = words_clean line_end refl

-- the first line
head_clean : (l : Option ℕ) (w : ℕ) → Clean (head_text l w)
unfolding head_text last_text plain
head_clean l w =
    clean_append (words_clean (text "last row ") refl)
    (clean_append (go l) (clean_append (words_clean (text ", rows waiting ") refl) (clean_append (decimal_clean w) end_clean)))
  where
    go : (l : Option ℕ) → Clean (last_text l)
    go None = words_clean (text "none") refl
    go (Some n) = decimal_clean n

-- a side's title
title_clean : (label : List ℕ) (n : ℕ) → Clean label → Clean (title_text label n)
unfolding title_text plain
title_clean label n h = clean_append h (clean_append (decimal_clean n) (words_clean (text "/7 out\n") refl))

-- a name stands behind a space
player_clean : (i : ℕ) (name : List ℕ) → Clean (player_text i name)
unfolding player_text mark_text shown_name plain last
player_clean i name = by_cond (λ (m : List ℕ). Clean (m ++ (shown_from 32 name ++ line_end))) (eqb i 0) (λ q. marked (text "  next back  ") refl (λ p. refl)) (λ q. marked (text "             ") refl (λ p. refl))
  where
    marked : (m : List ℕ) → plain m ≡ true → ((p : ℕ) → last p m ≡ 32) → Clean (m ++ (shown_from 32 name ++ line_end))
    marked m h e =
        record {
          behind = λ p. clean_join p m (shown_from 32 name ++ line_end) (plain_from p m h) (rw (e p) (clean_join 32 (shown_from 32 name) line_end (shown_clean 32 name) (end_clean.behind (last 32 (shown_from 32 name)))));
        }

-- a place
place_clean : (names : List (List ℕ)) (i : ℕ) → Clean (place_text names i)
unfolding place_text plain
place_clean names i =
    by_cond Clean (ltb i (length names)) (λ q. player_clean i (get_or names i [])) (λ q. words_clean nobody refl)

-- places
places_clean : (names : List (List ℕ)) (n : ℕ) → Clean (places_text names n)
unfolding places_text
places_clean names zero = nothing_clean
places_clean names (suc i) = clean_append (places_clean names i) (place_clean names i)

-- a side
side_clean : (label : List ℕ) (names : List (List ℕ)) → Clean label → Clean (side_text label names)
unfolding side_text
side_clean label names h = clean_append (title_clean label (length names) h) (places_clean names 7)

-- what a number says
reason_clean : (n : ℕ) → Clean (reason_text n)
unfolding reason_text plain
reason_clean n =
    by_cond Clean (eqb n 31) (λ q. words_clean (text "side, event, number or name null or out of range") refl)
    (λ q. by_cond Clean (eqb n 32) (λ q. words_clean (text "row number not above the last accepted row's") refl)
    (λ q. by_cond Clean (eqb n 33) (λ q. words_clean (text "an eighth out") refl)
    (λ q. by_cond Clean (eqb n 34) (λ q. words_clean (text "revive with nobody out") refl)
    (λ q. by_cond Clean (eqb n 35) (λ q. words_clean (text "a name already out on that side") refl) (λ q. words_clean (text "not accepted") refl)))))

-- which row
which_clean : (i rows : ℕ) → Clean (which_text i rows)
unfolding which_text plain
which_clean i rows =
    clean_append (words_clean (text "row ") refl)
    (clean_append (decimal_clean (i + 1)) (clean_append (words_clean (text " of ") refl) (decimal_clean rows)))

-- why it was refused
why_clean : (n : ℕ) → Clean (why_text n)
unfolding why_text plain
why_clean n =
    clean_append (words_clean (text " refused, ") refl)
    (clean_append (decimal_clean n) (clean_append (words_clean (text ": ") refl) (clean_append (reason_clean n) end_clean)))

-- a row's line
row_clean : (numbers : List ℕ) (i : ℕ) → Clean (row_text numbers i)
unfolding row_text
row_clean numbers i =
    by_cond Clean (eqb (get_or numbers i 0) 0) (λ q. nothing_clean) (λ q. clean_append (which_clean i (length numbers)) (why_clean (get_or numbers i 0)))

-- the lines of rows
rows_clean : (numbers : List ℕ) (n : ℕ) → Clean (rows_text numbers n)
unfolding rows_text
rows_clean numbers zero = nothing_clean
rows_clean numbers (suc i) = clean_append (rows_clean numbers i) (row_clean numbers i)

-- every frame, whatever the names
pub frame_clean : (s : Strip) (w : ℕ) (numbers : List ℕ) → Clean (frame_of s w numbers)
unfolding frame_of strip_text plain
frame_clean s w numbers =
    clean_append
    (clean_append (head_clean s.last w) (clean_append (side_clean (text "home ") s.first (words_clean (text "home ") refl)) (side_clean (text "away ") s.second (words_clean (text "away ") refl))))
    (rows_clean numbers (length numbers))

-- ---- what that says of each byte

-- byte i of a clean text, and the byte before it
clean_at : (p : ℕ) (t : List ℕ) (i : ℕ) → is_clean p t ≡ true → i < length t → (get_or t i 0 ≡ 10 → ⊥) → is_control (get_or (p ∷ t) i 0) (get_or t i 0) ≡ false
unfolding is_clean
clean_at p [] i h k z = absurd (omega arith)
clean_at p (b ∷ l) zero h k z = go (eqb b 10) refl (is_control p b) refl (and_true (eqb b 10 || not (is_control p b)) (is_clean b l) h).0
  where
    go : (c : Bool) → eqb b 10 ≡ c → (d : Bool) → is_control p b ≡ d → (c || not d) ≡ true → is_control p b ≡ false
    go true e d f q = absurd (z (eqb-true b 10 e))
    go false e true f q = f ∙ sym q
    go false e false f q = f
clean_at p (b ∷ l) (suc i) h k z = clean_at b l i (and_true (eqb b 10 || not (is_control p b)) (is_clean b l) h).1 (omega arith) z

-- a byte that may reach a screen behind the byte p
pub record Showable (p b : ℕ) : Type 0 where
  pub low : 32 ≤ b
  pub not_delete : b ≡ 127 → ⊥
  pub not_alone : 128 ≤ b → b ≤ 159 → (128 ≤ p) × (p ≡ 194 → ⊥)

-- which test of a byte failed
or_false : (a b : Bool) → (a || b) ≡ false → (a ≡ false) × (b ≡ false)
or_false true b h = (h, absurd (never h))
  where
    never : true ≡ false → ⊥
    never e = let z : ◌≡◌ {A = ℕ} 0 1 = cc in omega arith
or_false false b h = (refl, h)

-- what the test says
no_control : (p b : ℕ) → is_control p b ≡ false → Showable p b
unfolding is_control
no_control p b h =
    let x : (ltb b 32 ≡ false) × ((eqb b 127 || ((leb 128 b && leb b 159) && (ltb p 128 || eqb p 194))) ≡ false) = or_false (ltb b 32) (eqb b 127 || ((leb 128 b && leb b 159) && (ltb p 128 || eqb p 194))) h in
    let y : (eqb b 127 ≡ false) × (((leb 128 b && leb b 159) && (ltb p 128 || eqb p 194)) ≡ false) = or_false (eqb b 127) ((leb 128 b && leb b 159) && (ltb p 128 || eqb p 194)) x.1 in
    record { low = ltb-false b 32 x.0; not_delete = eqb-false b 127 y.0; not_alone = λ e f. alone y.1 e f }
  where
    alone : ((leb 128 b && leb b 159) && (ltb p 128 || eqb p 194)) ≡ false → 128 ≤ b → b ≤ 159 → (128 ≤ p) × (p ≡ 194 → ⊥)
    alone h e f =
        let z : (ltb p 128 || eqb p 194) ≡ false = rw (le-leb 128 b e, le-leb b 159 f) at h in
        let w : (ltb p 128 ≡ false) × (eqb p 194 ≡ false) = or_false (ltb p 128) (eqb p 194) z in
        (ltb-false p 128 w.0, eqb-false p 194 w.1)

-- 02's names are bytes from outside: of every frame each byte but a line end may reach a screen behind the one before it
pub frame_shows : (s : Strip) (w : ℕ) (numbers : List ℕ) (i : ℕ) → i < length (frame_of s w numbers) → (get_or (frame_of s w numbers) i 0 ≡ 10 → ⊥) → Showable (get_or (10 ∷ frame_of s w numbers) i 0) (get_or (frame_of s w numbers) i 0)
frame_shows s w numbers i h z = no_control _ _ (clean_at 10 (frame_of s w numbers) i ((frame_clean s w numbers).behind 10) h z)
