-- The ways out of the strip's calls on bytes.
use Rattle.std.specs.Prelude.{ℕ, ◌≡◌, List}
use borrow.Author.Tests.{eq-eqb, ne_eqb}
use Rattle.state.specs.World.{world}
use Rattle.outs.specs.Coding.{new_fault, new_leaves}
use Rattle.player_strip.specs.StripCall.{read_call}
use Rattle.player_strip.specs.Promises.{Reads, Takes}
use Rattle.player_strip.specs.declared.Read.{Read}
use Rattle.player_strip.specs.declared.Taken.{Taken}
use Rattle.codes.specs.declared.Coded.{Coded}
use Rattle.codes.specs.Code.{decoded}
use Rattle.crossing.specs.Cross.{pair, KeepsState}
use Rattle.capi.specs.Api.{memory, told}
use Rattle.capi.specs.ApiLaws.{Refuses, uncoded_is}
use Rattle.capi_strip.specs.StripApi.{strip_said, strip_read, taken_said, taken_memory, strip_taken}

pub new_told : (strip : List ℕ) {strip' : List ℕ} {r : ℕ} → r ≡ new_fault strip → strip' ≡ new_leaves strip → told r strip' ≡ told (new_fault strip) (new_leaves strip)
new_told strip p q = rw (p, q)

module _ (b slots pool books strip numbers : List ℕ) {d : Coded} (e : d ≡ decoded b) where
  -- bytes that code no state
  module _ {n r : ℕ} (h : d.number ≡ 0 → ⊥) (p : Refuses slots pool books d n) (q : r ≡ pair n 0) where
    pub read_not : strip_said r strip numbers ≡ strip_read (memory b slots pool books) strip numbers
    unfolding strip_read
    read_not = rw (← e, ne_eqb d.number 0 h, q, uncoded_is b slots pool books e p)

    pub taken_not : taken_said r (memory b slots pool books) strip numbers ≡ strip_taken (memory b slots pool books) strip numbers
    unfolding strip_taken
    taken_not = rw (← e, ne_eqb d.number 0 h, q, uncoded_is b slots pool books e p)

  -- bytes that code one
  module _ (z : d.number ≡ 0) where
    pub read-said : {a : Read} {strip' numbers' : List ℕ} {r : ℕ} → Reads (read_call (world d.state slots pool books) strip numbers) strip' numbers' a → r ≡ pair a.number a.rows.0 → strip_said r strip' numbers' ≡ strip_read (memory b slots pool books) strip numbers
    unfolding strip_read
    read-said p q = rw (← e, eq-eqb d.number 0 z, q, p.number_is, p.rows_are, p.strip_is, p.numbers_are)

    pub taken-said : {a : Taken} {b' books' strip' numbers' : List ℕ} {n r : ℕ} → Takes (world d.state slots pool books) strip numbers books' strip' numbers' a → KeepsState a.number a.state b b' n → r ≡ pair n a.rows.0 → taken_said r (memory b' slots pool books') strip' numbers' ≡ strip_taken (memory b slots pool books) strip numbers
    unfolding strip_taken taken_memory
    taken-said p k q =
        rw (← e, eq-eqb d.number 0 z, q, k.answer_is, k.bytes_are, p.number_is, p.rows_are, p.strip_is, p.numbers_are, p.state_is, p.books_are)
