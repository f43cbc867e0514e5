-- Counts lie in the books, and are the rows and list lengths that the definitions speak of.
use Rattle.std.specs.Prelude.{ℕ, ◌+◌, ◌*◌, ◌≤◌, ◌≡◌, List, []}
use Rattle.std.proofs.Common.{ap, arith, mul-le-mul_left}
use Rattle.tallies.specs.Tally.{tally_place, tally_of}
use Rattle.state.specs.declared.BatchCoalescer.{BatchCoalescer}
use Rattle.state.specs.World.{world}
use Rattle.state.specs.Layout.{books_length, tally, rows_in, list_length, next_slot}
use Rattle.rules.specs.Steps.{with_counts}

-- a count lies in the books
pub tally_room : (s : BatchCoalescer) (slot k : ℕ) {L : ℕ} → slot ≤ s.queue → k ≤ s.columns → L ≡ books_length s → tally_place (tally s slot k) + 4 ≤ L
unfolding books_length tally_place
tally_room s slot k h l e =
    let p : (1 + s.columns) * (slot + 1) ≤ (1 + s.columns) * (s.queue + 1) = mul-le-mul_left (1 + s.columns) (omega arith) in
    omega arith

-- list_length and rows_in_lem
pub length_is : (s : BatchCoalescer) (books : List ℕ) (slot c : ℕ) {r : ℕ} → r ≡ tally_of books (tally s slot (c + 1)) → r ≡ list_length (world s [] [] books) slot c
unfolding list_length
length_is s books slot c e = e

pub rows_is : (s : BatchCoalescer) (books : List ℕ) (slot : ℕ) {r : ℕ} → r ≡ tally_of books (tally s slot 0) → r ≡ rows_in (world s [] [] books) slot
unfolding rows_in
rows_is s books slot e = e

-- next_to_fill
pub next_is : (s : BatchCoalescer) {p : ℕ} → p ≡ next_slot s s.place → with_counts s p (s.queued + 1) 0 ≡ with_counts s (next_slot s s.place) (s.queued + 1) 0
next_is s e = ap (λ (p : ℕ). with_counts s p (s.queued + 1) 0) e
