-- The call's exits: a law each.
use Rattle.std.specs.Prelude.{ℕ, ◌+◌, ◌-◌, ◌*◌, ◌/◌, ◌≤◌, ◌<◌, ◌≡◌, refl, Bool, true, false, ◌&&◌, List, length, leb}
use Rattle.std.proofs.Math.Path.{sym}
use Rattle.std.proofs.Common.{◌∙◌, arith, leb-true, le-leb}
use Rattle.std.proofs.Math.Nat.{zero-add}
use Rattle.std.proofs.lemmas.Bool.{lt-leb}
use Rattle.search.specs.Cases.{both, both_fails, false_of, same_test}
use Rattle.outs.specs.Coding.{strip_of, is_strip, strip_fault}
use Rattle.outs.specs.CodingLaws.{strip-length}
use Rattle.outs.specs.StripTests.{fault-none, fault-says}
use Rattle.frames.specs.Frame.{rows_text, strip_text, frame_of}
use Rattle.frames.specs.Laid.{Laid, laid_then}
use Rattle.frames.specs.FrameCall.{frame_bytes, has_room, is_ready, frame_answer, frame_leaves}

-- ---- room

-- the test by a division, which no sum can pass
pub room_is : (size rows : ℕ) → 1221 ≤ size → leb rows ((size - 1221) / 129) ≡ has_room size rows
unfolding has_room frame_bytes
room_is size rows h =
    same_test (leb rows ((size - 1221) / 129)) (leb (1221 + 129 * rows) size)
    (λ e. le-leb (1221 + 129 * rows) size (omega (arith, leb-true rows ((size - 1221) / 129) e)))
    (λ e. le-leb rows ((size - 1221) / 129) (omega (arith, leb-true (1221 + 129 * rows) size e)))

-- fewer bytes than a strip takes
pub room_small : (size rows : ℕ) → size < 1221 → false ≡ has_room size rows
unfolding has_room frame_bytes
room_small size rows h = sym (lt-leb (1221 + 129 * rows) size (omega arith))

-- what room says
pub room_says : (size rows : ℕ) {r : Bool} → r ≡ has_room size rows → r ≡ true → 1221 + 129 * rows ≤ size
unfolding has_room frame_bytes
room_says size rows e z = leb-true (1221 + 129 * rows) size (sym e ∙ z)

-- no test passes beside one that fails
and_false : (a : Bool) → (a && false) ≡ false
and_false true = refl
and_false false = refl

-- ---- what is ready

module _ (b numbers out : List ℕ) where
  -- there is a strip, and room
  ready : {r : Bool} → is_strip b ≡ true → r ≡ has_room (length out) (length numbers) → r ≡ true → is_ready b numbers out ≡ true
  unfolding is_ready
  ready s e z = both s (sym e ∙ z)

  -- there is no room
  short : {r : Bool} → r ≡ has_room (length out) (length numbers) → r ≡ false → is_ready b numbers out ≡ false
  unfolding is_ready
  short e z = rw (sym e ∙ z) (and_false (is_strip b))

  -- there is no strip
  stripless : {n : ℕ} → n ≡ strip_fault b → (n ≡ 0 → ⊥) → is_ready b numbers out ≡ false
  unfolding is_ready
  stripless e z = sym (both_fails (has_room (length out) (length numbers)) (sym (false_of (is_strip b) (λ h. z (e ∙ sym (fault-none b (strip-length b h) (sym h) refl))))))

-- the frame is laid
module _ (b numbers out : List ℕ) (w : ℕ) {n p q : ℕ} {t u : List ℕ} (e : n ≡ strip_fault b) (z : n ≡ 0) {r : Bool} (f : r ≡ has_room (length out) (length numbers)) (y : r ≡ true) (l : Laid 1221 0 (strip_text (strip_of b) w) out t p) (m : Laid (129 * length numbers) p (rows_text numbers (length numbers)) t u q) where
  whole : Laid (1221 + 129 * length numbers) 0 (frame_of (strip_of b) w numbers) out u q
  unfolding frame_of
  whole = laid_then l m (omega arith)

  pub frame_answer_lem : q ≡ frame_answer b w numbers out
  unfolding frame_answer
  frame_answer_lem = rw (ready b numbers out (fault-says b e z) f y) (whole.place ∙ zero-add (length (frame_of (strip_of b) w numbers)))

  pub frame_leaves_lem : u ≡ frame_leaves b w numbers out
  unfolding frame_leaves
  frame_leaves_lem = rw (ready b numbers out (fault-says b e z) f y) whole.bytes

-- nothing is
module _ (b numbers out : List ℕ) (w : ℕ) where
  pub stripless_answer : {n : ℕ} → n ≡ strip_fault b → (n ≡ 0 → ⊥) → 0 ≡ frame_answer b w numbers out
  unfolding frame_answer
  stripless_answer e z = rw (stripless b numbers out e z)

  pub stripless_leaves : {n : ℕ} → n ≡ strip_fault b → (n ≡ 0 → ⊥) → out ≡ frame_leaves b w numbers out
  unfolding frame_leaves
  stripless_leaves e z = rw (stripless b numbers out e z)

  pub short_answer : {r : Bool} → r ≡ has_room (length out) (length numbers) → r ≡ false → 0 ≡ frame_answer b w numbers out
  unfolding frame_answer
  short_answer e z = rw (short b numbers out e z)

  pub short_leaves : {r : Bool} → r ≡ has_room (length out) (length numbers) → r ≡ false → out ≡ frame_leaves b w numbers out
  unfolding frame_leaves
  short_leaves e z = rw (short b numbers out e z)
