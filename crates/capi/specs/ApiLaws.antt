-- The C layer's calls: a law for each exit.
use Rattle.std.specs.Prelude.{ℕ, zero, suc, refl, Bool, List, [], length, eqb}
use Rattle.std.proofs.Math.Path.{◌≡◌, ap}
use Rattle.std.proofs.Common.{sym, ◌∙◌, arith}
use Rattle.std.proofs.Math.Bool.{true, false, cond}
use Rattle.std.proofs.Math.Decide.{ℕ_discrete}
use Rattle.std.proofs.Math.Seq.{take-length}
use borrow.Author.Tests.{eq-eqb, ne_eqb, eqb-true}
use Rattle.words.specs.Run.{put, lay}
use Rattle.words.specs.WordLaws.{Bytes}
use Rattle.pool.specs.Register.{refusal_of}
use Rattle.state.specs.declared.BatchCoalescer.{BatchCoalescer}
use Rattle.state.specs.declared.RowAnswer.{RowAnswer}
use Rattle.state.specs.World.{World, world, column_of}
use Rattle.rules.specs.Batch.{Batch}
use Rattle.rules.specs.Ranges.{fits_set_up, tested}
use Rattle.rules.specs.Steps.{each, counting, with_limit}
use Rattle.rules.specs.Calls.{Answered, push_call, finish_call, list_dropped, uncounted, dropped, drop_call, register_call, let_go_call, read_row, row_refusal, buffer_number_call, buffer_call, limit_of, buffered_count, has_completed, is_empty}
use Rattle.rules.proofs.CallLaws.{drop-tested, drop-empty, drop-front}
use Rattle.rules.proofs.RegisterLaws.{register_tested, register_steps, let_go_tested, let_go_steps}
use Rattle.rules.specs.declared.Step.{Step}
use Rattle.completed.specs.declared.Dropped.{Dropped}
use Rattle.completed.specs.Drop.{Drops}
use Rattle.buffers.specs.Buffers.{RegistersCall, LetsGoCall}
use Rattle.finishing.specs.Finish.{answered}
use Rattle.codes.specs.declared.Coded.{Coded}
use Rattle.ranges.specs.Tested.{fits_lengths}
use Rattle.codes.specs.Code.{state_bytes, code_of, limit_in, set_up_words, count_words, columns_words, limited, is_coded, state_in, decoded}
use Rattle.codes.specs.TakeLaws.{code_state}
use Rattle.codes.specs.LimitLaws.{limited-code}
use Rattle.crossing.specs.Cross.{kept_as, KeepsState, pair, number_in, limit_pair, row_bytes}
use Rattle.capi.specs.Api.{Memory, memory, said, told, Form, number, both, in_form, Given, given, pushing, finishing, dropping, registering, letting_go, world_in, coded, uncoded, Codes, CodesNone, called}
use Rattle.capi.specs.Api.{buffer_number, part_in, buffer_read, row_in, row_read, limit_set, limit_read, rows_buffered, completed_flag, empty_flag}
use Rattle.std.specs.Prelude.{Option, Result}
use Rattle.counts.specs.declared.BufferNumber.{BufferNumber}
use Rattle.counts.specs.declared.RowCount.{RowCount}

-- ---- what decoding says

module _ (b : List ℕ) {d : Coded} (e : d ≡ decoded b) (z : d.number ≡ 0) where
  zero_is : (decoded b).number ≡ 0
  zero_is = sym (ap (λ (x : Coded). x.number) e) ∙ z

  -- 304 bytes that code its state
  codes_bytes : (x y : Bool) → eqb (length b) state_bytes ≡ x → is_coded b ≡ y → length b ≡ state_bytes
  unfolding decoded
  codes_bytes true y p q = eqb-true (length b) state_bytes p
  codes_bytes false y p q = let r : ◌≡◌ {A = ℕ} 1 0 = rw p at zero_is in absurd (omega arith)

  pub decoded-length : length b ≡ state_bytes
  decoded-length = codes_bytes (eqb (length b) state_bytes) (is_coded b) refl refl

  codes_it : (y : Bool) → is_coded b ≡ y → (is_coded b ≡ true) × (d.state ≡ state_in b)
  unfolding decoded
  codes_it true q = (q, ap (λ (x : Coded). x.state) e ∙ rw (eq-eqb (length b) state_bytes decoded-length))
  codes_it false q =
      let r : ◌≡◌ {A = ℕ} 14 0 = rw (eq-eqb (length b) state_bytes decoded-length, q) at zero_is in absurd (omega arith)

  pub decoded-code : Bytes b → code_of d.state ≡ b
  decoded-code is =
      let p = codes_it (is_coded b) refl in
      ap code_of p.1 ∙ code_state b is decoded-length p.0

-- ---- calls

-- what the layer answers of bytes that do not code the state they hold
abbrev pub Refuses : List ℕ → List ℕ → List ℕ → Coded → ℕ → Type 0
Refuses slots pool books d r = r ≡ cond (fits_lengths d.state (length slots) (length pool) (length books)) d.number 1

pub refuses_fits : {f x : Bool} (n : ℕ) → x ≡ f → x ≡ true → n ≡ cond f n 1
refuses_fits n e t = rw (← e, t)

pub refuses_one : {f x : Bool} (n : ℕ) → x ≡ f → x ≡ false → ◌≡◌ {A = ℕ} 1 (cond f n 1)
refuses_one n e t = rw (← e, t)

pub uncoded_is : (b slots pool books : List ℕ) {d : Coded} {r : ℕ} → d ≡ decoded b → Refuses slots pool books d r → r ≡ uncoded (memory b slots pool books)
unfolding uncoded fits_set_up fits_lengths
uncoded_is b slots pool books e p = rw (p, e)

-- what coded_state answers
pub codes_one : (b : List ℕ) {d : Coded} → d ≡ decoded b → d.number ≡ 0 → Codes b d.state
codes_one b e z = rw (← z) e

pub codes_none : (b slots pool books : List ℕ) {d : Coded} {r : ℕ} → d ≡ decoded b → (d.number ≡ 0 → ⊥) → Refuses slots pool books d r → CodesNone (memory b slots pool books) r
codes_none b slots pool books e h p =
    record { none = λ z. h (ap (λ (x : Coded). x.number) e ∙ z); refusal_is = uncoded_is b slots pool books e p }

-- bytes that code none
module _ {m : Memory} {n : ℕ} (k : CodesNone m n) where
  pub number_none : (f : World → Given) → said n m ≡ called number f m
  unfolding called
  number_none f = rw (ne_eqb (decoded m.state).number 0 k.none, k.refusal_is)

  pub both_none : (f : World → Given) {r : ℕ} → r ≡ pair n 0 → said r m ≡ called both f m
  unfolding called
  both_none f p = rw (ne_eqb (decoded m.state).number 0 k.none, p, k.refusal_is)

  pub refusal_none : (i : ℕ) → n ≡ buffer_number m i
  unfolding buffer_number
  refusal_none i = rw (ne_eqb (decoded m.state).number 0 k.none) k.refusal_is

  pub read_none : (i : ℕ) (out : List ℕ) → told 0 out ≡ buffer_read m i out
  unfolding buffer_read part_in lay put
  read_none i out = rw (ne_eqb (decoded m.state).number 0 k.none) (ap (told 0) (sym (take-length out)))

  pub row_none : (c i : ℕ) → RowAnswer.Refused n ≡ row_in m c i
  unfolding row_in
  row_none c i = rw (ne_eqb (decoded m.state).number 0 k.none) (ap (λ (x : ℕ). RowAnswer.Refused x) k.refusal_is)

module _ (form : Form) (f : World → Given) (b slots pool books : List ℕ) {d : Coded} (e : d ≡ decoded b) where
  pub call_refused : {n r : ℕ} → (d.number ≡ 0 → ⊥) → n ≡ uncoded (memory b slots pool books) → r ≡ in_form form n 0 → said r (memory b slots pool books) ≡ called form f (memory b slots pool books)
  unfolding called
  call_refused h q p = rw (← e, ne_eqb d.number 0 h, p, q)

  pub call_done : {g : Given} → d.number ≡ 0 → f (world d.state slots pool books) ≡ g → coded form b g ≡ called form f (memory b slots pool books)
  unfolding called
  call_done z p = rw (← e, eq-eqb d.number 0 z, p)

-- two calls that give the same of the world that bytes hold
pub called_same : (form : Form) (f g : World → Given) (m : Memory) → ((decoded m.state).number ≡ 0 → f (world_in m) ≡ g (world_in m)) → called form f m ≡ called form g m
unfolding called
called_same form f g m h = go (ℕ_discrete (decoded m.state).number 0)
  where
    go : Dec ((decoded m.state).number ≡ 0) → called form f m ≡ called form g m
    go (yes z) = rw (eq-eqb (decoded m.state).number 0 z) (ap (coded form m.state) (h z))
    go (no z) = rw (ne_eqb (decoded m.state).number 0 z)

-- a call that answers a number and keeps the state: push and finish
module _ (f : World → Answered) (g : World → Given) (same : (w : World) → g w ≡ given (f w)) (b slots pool books : List ℕ) {d : Coded} (e : d ≡ decoded b) (z : d.number ≡ 0) where
  kept_call : {q : Step} {b' slots' pool' books' : List ℕ} {r : ℕ} → answered q slots' pool' books' ≡ f (world d.state slots pool books) → KeepsState q.number q.state b b' r → said r (memory b' slots' pool' books') ≡ called number g (memory b slots pool books)
  unfolding coded
  kept_call {q} {b'} {slots'} {pool'} {books'} {r} p k =
      rw (k.answer_is, k.bytes_are)
      (call_done number g b slots pool books e {g = given (answered q slots' pool' books')} z
      (same (world d.state slots pool books) ∙ ap given (sym p)))

module _ (b slots pool books : List ℕ) {d : Coded} (e : d ≡ decoded b) (z : d.number ≡ 0) where
  pub finish_said : {q : Step} {b' slots' books' : List ℕ} {r : ℕ} → answered q slots' pool books' ≡ finish_call (world d.state slots pool books) → KeepsState q.number q.state b b' r → said r (memory b' slots' pool books') ≡ called number finishing (memory b slots pool books)
  unfolding finishing
  finish_said p k = kept_call finish_call finishing (λ w. refl) b slots pool books e z p k

  pub push_said : (x : Batch) {q : Step} {b' slots' pool' books' : List ℕ} {r : ℕ} → answered q slots' pool' books' ≡ push_call (world d.state slots pool books) x → KeepsState q.number q.state b b' r → said r (memory b' slots' pool' books') ≡ called number (pushing x) (memory b slots pool books)
  unfolding pushing
  push_said x p k = kept_call (λ w. push_call w x) (pushing x) (λ w. refl) b slots pool books e z p k

-- ---- next_completed_batch: slots and pool stay

each_same : {A : Type 0} (g : World → A) (n : ℕ) (f : World → ℕ → World) (w : World) → ((v : World) (i : ℕ) → g (f v i) ≡ g v) → g (each n f w) ≡ g w
unfolding each
each_same g zero f w h = refl
each_same g (suc n) f w h = h (each n f w) n ∙ each_same g n f w h

module _ (w : World) where
  dropped_slots : (dropped w).slots ≡ w.slots
  unfolding dropped uncounted counting list_dropped
  dropped_slots =
      each_same (λ v. v.slots) _ _ _ (λ v i. refl) ∙ each_same (λ v. v.slots) w.state.columns _ w (λ v i. refl)

  dropped-pool : (dropped w).pool ≡ w.pool
  unfolding dropped uncounted counting list_dropped
  dropped-pool =
      each_same (λ v. v.pool) _ _ _ (λ v i. refl) ∙ each_same (λ v. v.pool) w.state.columns _ w (λ v i. refl)

  pub drop-same : ((drop_call w).world.slots ≡ w.slots) × ((drop_call w).world.pool ≡ w.pool)
  drop-same = go (ℕ_discrete (tested w) 0) (ℕ_discrete w.state.queued 0)
    where
      go : Dec (tested w ≡ 0) → Dec (w.state.queued ≡ 0) → ((drop_call w).world.slots ≡ w.slots) × ((drop_call w).world.pool ≡ w.pool)
      go (no p) d = (ap (λ x. x.world.slots) (drop-tested w p), ap (λ x. x.world.pool) (drop-tested w p))
      go (yes p) (yes q) = (ap (λ x. x.world.slots) (drop-empty w p q), ap (λ x. x.world.pool) (drop-empty w p q))
      go (yes p) (no q) =
          (ap (λ x. x.world.slots) (drop-front w p q) ∙ dropped_slots, ap (λ x. x.world.pool) (drop-front w p q) ∙ dropped-pool)

  pub register_same : (bytes : List ℕ) (capacity : ℕ) → ((register_call w bytes capacity).world.state ≡ w.state) × ((register_call w bytes capacity).world.slots ≡ w.slots)
  register_same bytes capacity = go (ℕ_discrete (tested w) 0)
    where
      go : Dec (tested w ≡ 0) → ((register_call w bytes capacity).world.state ≡ w.state) × ((register_call w bytes capacity).world.slots ≡ w.slots)
      go (no p) = (ap (λ x. x.world.state) (register_tested w bytes capacity p), ap (λ x. x.world.slots) (register_tested w bytes capacity p))
      go (yes p) = (ap (λ x. x.world.state) (register_steps w bytes capacity p), ap (λ x. x.world.slots) (register_steps w bytes capacity p))

  pub let_go_same : (i : ℕ) → (let_go_call w i).world ≡ world w.state w.slots w.pool (let_go_call w i).world.books
  let_go_same i = go (ℕ_discrete (tested w) 0)
    where
      go : Dec (tested w ≡ 0) → (let_go_call w i).world ≡ world w.state w.slots w.pool (let_go_call w i).world.books
      go (no p) = rw (let_go_tested w i p)
      go (yes p) = rw (let_go_steps w i p)

-- the bytes of a state that a call does not change, coded again or not
same_bytes : (b : List ℕ) {s t : BatchCoalescer} (n : ℕ) → t ≡ s → code_of s ≡ b → kept_as n t b ≡ b
same_bytes b {s} {t} n e c = go (eqb n 0) refl
  where
    go : (x : Bool) → eqb n 0 ≡ x → kept_as n t b ≡ b
    go true p = rw p (ap code_of e ∙ c)
    go false p = rw p

module _ (b : List ℕ) (w : World) where
  drop-made : {q : Dropped} {b' books' : List ℕ} {n r : ℕ} → Drops (drop_call w) books' q → KeepsState q.number q.state b b' n → r ≡ pair n q.rows.0 → said r (memory b' w.slots w.pool books') ≡ coded both b (dropping w)
  unfolding coded dropping
  drop-made x k p =
      rw (p, k.answer_is, k.bytes_are, x.number_is, x.state_is, x.rows_are, x.books_are, (drop-same w).0, (drop-same w).1)

  register_made : (bytes : List ℕ) (capacity : ℕ) {a : Result BufferNumber ℕ} {pool' books' : List ℕ} {r : ℕ} → code_of w.state ≡ b → RegistersCall (register_call w bytes capacity) pool' books' a → r ≡ pair (refusal_of a) (number_in a) → said r (memory b w.slots pool' books') ≡ coded both b (registering bytes capacity w)
  unfolding coded registering
  register_made bytes capacity {a} {pool'} {books'} {r} c x p =
      let y : kept_as (refusal_of (register_call w bytes capacity).answer) (register_call w bytes capacity).world.state b ≡ b = same_bytes b (refusal_of (register_call w bytes capacity).answer) (register_same w bytes capacity).0 c in
      rw (p, x.answer_is, x.pool_is, x.books_are, (register_same w bytes capacity).1, y)

  let_go_made : (i : ℕ) {books' : List ℕ} {r : ℕ} → code_of w.state ≡ b → LetsGoCall (let_go_call w i) books' r → said r (memory b w.slots w.pool books') ≡ coded number b (letting_go i w)
  unfolding coded letting_go
  let_go_made i {books'} {r} c x =
      let y : kept_as (let_go_call w i).number (let_go_call w i).world.state b ≡ b = same_bytes b (let_go_call w i).number (ap (λ (v : World). v.state) (let_go_same w i)) c in
      rw (x.answer_is, x.books_are, y)
      (ap (λ (v : World). said (let_go_call w i).number (memory b v.slots v.pool v.books)) (sym (let_go_same w i)))

module _ (b slots pool books : List ℕ) {d : Coded} (e : d ≡ decoded b) (z : d.number ≡ 0) where
  pub drop-said : {q : Dropped} {b' books' : List ℕ} {n r : ℕ} → Drops (drop_call (world d.state slots pool books)) books' q → KeepsState q.number q.state b b' n → r ≡ pair n q.rows.0 → said r (memory b' slots pool books') ≡ called both dropping (memory b slots pool books)
  drop-said x k p =
      drop-made b (world d.state slots pool books) x k p ∙ call_done both dropping b slots pool books e z refl

  pub register_said : (bytes : List ℕ) (capacity : ℕ) {a : Result BufferNumber ℕ} {pool' books' : List ℕ} {r : ℕ} → Bytes b → RegistersCall (register_call (world d.state slots pool books) bytes capacity) pool' books' a → r ≡ pair (refusal_of a) (number_in a) → said r (memory b slots pool' books') ≡ called both (registering bytes capacity) (memory b slots pool books)
  register_said bytes capacity is x p =
      register_made b (world d.state slots pool books) bytes capacity (decoded-code b e z is) x p
      ∙ call_done both (registering bytes capacity) b slots pool books e z refl

  pub let_go_said : (i : ℕ) {books' : List ℕ} {r : ℕ} → Bytes b → LetsGoCall (let_go_call (world d.state slots pool books) i) books' r → said r (memory b slots pool books') ≡ called number (letting_go i) (memory b slots pool books)
  let_go_said i is x =
      let_go_made b (world d.state slots pool books) i (decoded-code b e z is) x
      ∙ call_done number (letting_go i) b slots pool books e z refl

-- ---- reads

module _ (b slots pool books : List ℕ) {d : Coded} (e : d ≡ decoded b) where
  pub refusal-read : (i : ℕ) {r : ℕ} → d.number ≡ 0 → r ≡ buffer_number_call (world d.state slots pool books) i → r ≡ buffer_number (memory b slots pool books) i
  unfolding buffer_number
  refusal-read i z p = rw (← e, eq-eqb d.number 0 z) p

  pub part_not : (i : ℕ) → (d.number ≡ 0 → ⊥) → part_in (memory b slots pool books) i ≡ []
  unfolding part_in
  part_not i h = rw (← e, ne_eqb d.number 0 h)

  pub part_is : (i : ℕ) → d.number ≡ 0 → part_in (memory b slots pool books) i ≡ buffer_call (world d.state slots pool books) i
  unfolding part_in
  part_is i z = rw (← e, eq-eqb d.number 0 z)

  pub read_done : (i : ℕ) (out : List ℕ) {part out' : List ℕ} → d.number ≡ 0 → part ≡ buffer_call (world d.state slots pool books) i → out' ≡ lay 0 part out → told (length part) out' ≡ buffer_read (memory b slots pool books) i out
  unfolding buffer_read
  read_done i out z p q = rw (q, p, part_is i z)

  pub row_is : (c i : ℕ) {a : RowAnswer} → d.number ≡ 0 → a ≡ read_row (world d.state slots pool books) c i → a ≡ row_in (memory b slots pool books) c i
  unfolding row_in
  row_is c i z p = rw (← e, eq-eqb d.number 0 z) p

module _ (m : Memory) (c i : ℕ) (out : List ℕ) where
  pub row_told : {a : RowAnswer} {r : ℕ} {out' : List ℕ} → length out ≡ 20 → a ≡ row_in m c i → r ≡ row_refusal a → out' ≡ row_bytes a out → told r out' ≡ row_read m c i out
  unfolding row_read
  row_told h p q x = rw (eq-eqb (length out) 20 h, ← p, q, x)

  pub row_one : (length out ≡ 20 → ⊥) → told 1 out ≡ row_read m c i out
  unfolding row_read
  row_one h = rw (ne_eqb (length out) 20 h)

-- ---- the state alone

module _ (b : List ℕ) (flag rows : ℕ) where
  pub limit_not : (length b ≡ state_bytes → ⊥) → told 1 b ≡ limit_set flag rows b
  unfolding limit_set
  limit_not h = rw (ne_eqb (length b) state_bytes h)

  pub limit_done : {l : Option RowCount} {b' : List ℕ} → length b ≡ state_bytes → l ≡ limit_in flag rows → b' ≡ limited l b → told 0 b' ≡ limit_set flag rows b
  unfolding limit_set
  limit_done h p q = rw (eq-eqb (length b) state_bytes h, q, p)

-- of bytes that code a state they are those of the state with that limit
limit_columns : (s : BatchCoalescer) (l : Option RowCount) (n : ℕ) → columns_words (with_limit s l) n ≡ columns_words s n
unfolding columns_words column_of
limit_columns s l zero = refl
limit_columns s l (suc n) = rw (limit_columns s l n)

pub limit_code : (s : BatchCoalescer) (l : Option RowCount) → limited l (code_of s) ≡ code_of (with_limit s l)
unfolding set_up_words count_words
limit_code s l = limited-code s (with_limit s l) refl refl (limit_columns s l 16)

module _ (b : List ℕ) {d : Coded} (e : d ≡ decoded b) where
  pub limit_said : {l : Option RowCount} {r : ℕ} → l ≡ limit_of d.state → r ≡ limit_pair l → r ≡ limit_read b
  unfolding limit_read
  limit_said p q = q ∙ ap limit_pair p ∙ ap (λ (x : Coded). limit_pair (limit_of x.state)) e

  pub rows-said : {r : ℕ} → r ≡ buffered_count d.state → r ≡ rows_buffered b
  unfolding rows_buffered
  rows-said p = p ∙ ap (λ (x : Coded). buffered_count x.state) e

  pub completed_said : {x : Bool} {r : ℕ} → x ≡ has_completed d.state → r ≡ cond x 1 0 → r ≡ completed_flag b
  unfolding completed_flag
  completed_said p q = q ∙ ap (λ (y : Bool). cond y 1 0) p ∙ ap (λ (x : Coded). cond (has_completed x.state) 1 0) e

  pub empty-said : {x : Bool} {r : ℕ} → x ≡ is_empty d.state → r ≡ cond x 1 0 → r ≡ empty_flag b
  unfolding empty_flag
  empty-said p q = q ∙ ap (λ (y : Bool). cond y 1 0) p ∙ ap (λ (x : Coded). cond (is_empty x.state) 1 0) e
