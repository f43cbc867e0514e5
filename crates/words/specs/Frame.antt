-- Memories that agree: n bytes of one with n bytes of another; and a memory that is as it was outside of a range.
use Rattle.std.specs.Prelude.{ℕ, ◌+◌, ◌≤◌, ◌<◌, ◌≡◌, List, length, get_or}

-- the n bytes of t from b on are those of s from a on: x of t and y of s are places that correspond
pub record Agrees (s : List ℕ) (a : ℕ) (t : List ℕ) (b n : ℕ) : Type 0 where
  pub byte : (x y : ℕ) → b ≤ x → x < b + n → x + a ≡ y + b → get_or t x 0 ≡ get_or s y 0

-- q is p but for the bytes from lo to hi
pub record Framed (lo hi : ℕ) (p q : List ℕ) : Type 0 where
  pub len : length q ≡ length p
  pub before : (x : ℕ) → x < lo → get_or q x 0 ≡ get_or p x 0
  pub after : (x : ℕ) → hi ≤ x → get_or q x 0 ≡ get_or p x 0

-- the n bytes from a on lie before lo, or from hi on
pub data Apart (lo hi a n : ℕ) : Type 0 where
  under : a + n ≤ lo → Apart lo hi a n
  over : hi ≤ a → Apart lo hi a n
