-- From the contract of each exported function to the step of a history: a law for each.
use Rattle.std.specs.Prelude.{ℕ, ◌≡◌, cond, List, length}
use Rattle.std.proofs.Common.{◌∙◌, ap, eq-eqb}
use Rattle.words.specs.Run.{lay}
use Rattle.words.specs.WordLaws.{Bytes}
use Rattle.state.specs.World.{World}
use Rattle.rules.specs.Batch.{Batch}
use Rattle.rules.specs.Calls.{Wanted, read_row, row_refusal, buffer_number_call, buffer_call, limit_of, buffered_count, has_completed, is_empty}
use Rattle.codes.specs.Code.{decoded}
use Rattle.crossing.specs.Cross.{limit_pair, row_bytes}
use Rattle.capi.specs.Api.{Memory, memory, said, Told, told, number, both, pushing, finishing, dropping, registering, letting_go, world_in, called, created, buffer_number, part_in, buffer_read, row_in, row_read, limit_set, limit_read, rows_buffered, completed_flag, empty_flag}
use Rattle.fronts.specs.Front.{front_call}
use Rattle.capi_front.specs.Front.{front_told, front_read}
use Rattle.history.specs.Call.{finish, drop, register, let_go, read}
use Rattle.promise.specs.OnBytes.{HoldsWorld, Sent, sent_push, sent_finish, sent_drop, sent_register, sent_let_go, sent_limit, sent_read, SentPush, SentLimit, SentNew}
use Rattle.sent.specs.Reads.{ReadsRow, ReadsBuffer, ReadsFront, ReadsRefusal, ReadsState, ReadsLimit, ReadsRows, ReadsCompleted, ReadsEmpty}

-- ---- calls that change memory

pub new_sent : {a : Wanted} {kinds : List ℕ} {m : Memory} {r : ℕ} {m' : Memory} → said r m' ≡ created a kinds m → Bytes m'.state → Bytes m.slots → SentNew a kinds m r m'
new_sent p is at = record { is = p; bytes = is; slots = at }

pub push_sent : {m : Memory} {b : Batch} {r : ℕ} {m' : Memory} → said r m' ≡ called number (pushing b) m → Bytes b.body → Bytes m'.state → SentPush m b r m'
push_sent p d is = record { body = record { body = d }; sent = sent_push (record { body = d }) p is }

pub limit_sent : (flag rows : ℕ) {state : List ℕ} {r : ℕ} {state' : List ℕ} → told r state' ≡ limit_set flag rows state → Bytes state' → SentLimit flag rows state r state'
limit_sent flag rows p is = record { sent = λ slots pool books. sent_limit flag rows p is }

-- ---- reads

module _ {m : Memory} {w : World} (h : HoldsWorld m w) where
  row_held : (c i : ℕ) → row_in m c i ≡ read_row w c i
  unfolding row_in
  row_held c i = rw (eq-eqb (decoded m.state).number 0 h.coded) (ap (λ (v : World). read_row v c i) h.is)

  part_held : (i : ℕ) → part_in m i ≡ buffer_call w i
  unfolding part_in
  part_held i = rw (eq-eqb (decoded m.state).number 0 h.coded) (ap (λ (v : World). buffer_call v i) h.is)

  refusal_held : (i : ℕ) → buffer_number m i ≡ buffer_number_call w i
  unfolding buffer_number
  refusal_held i = rw (eq-eqb (decoded m.state).number 0 h.coded) (ap (λ (v : World). buffer_number_call v i) h.is)

  row_told : (c i : ℕ) (out : List ℕ) {r : ℕ} {out' : List ℕ} → told r out' ≡ row_read m c i out → length out ≡ 20 → told r out' ≡ told (row_refusal (read_row w c i)) (row_bytes (read_row w c i) out)
  unfolding row_read
  row_told c i out p n = rw (← (row_held c i)) (rw (eq-eqb (length out) 20 n) at p)

  part_told : (i : ℕ) (out : List ℕ) {r : ℕ} {out' : List ℕ} → told r out' ≡ buffer_read m i out → told r out' ≡ told (length (buffer_call w i)) (lay 0 (buffer_call w i) out)
  unfolding buffer_read
  part_told i out p = rw (← (part_held i)) p

pub row_sent : {m : Memory} (c i : ℕ) (out : List ℕ) {r : ℕ} {out' : List ℕ} → told r out' ≡ row_read m c i out → Bytes m.state → ReadsRow m c i out r out'
row_sent c i out p is =
    record {
      sent = sent_read is;
      number_is = λ w h n. ap (λ (t : Told). t.answer) (row_told h c i out p n);
      words_are = λ w h n. ap (λ (t : Told). t.bytes) (row_told h c i out p n);
    }

pub buffer_sent : {m : Memory} (i : ℕ) (out : List ℕ) {r : ℕ} {out' : List ℕ} → told r out' ≡ buffer_read m i out → Bytes m.state → ReadsBuffer m i out r out'
buffer_sent i out p is =
    record {
      sent = sent_read is;
      length_is = λ w h. ap (λ (t : Told). t.answer) (part_told h i out p);
      bytes_are = λ w h. ap (λ (t : Told). t.bytes) (part_told h i out p);
    }

pub front_sent : {m : Memory} (out : List ℕ) {r : ℕ} {out' : List ℕ} → told r out' ≡ front_read m out → Bytes m.state → ReadsFront m out r out'
unfolding front_read
front_sent {m} out {r} {out'} p is =
    record {
      sent = sent_read is;
      is = λ w h.
          let q : told r out' ≡ front_told (front_call (world_in m) out) = rw (eq-eqb (decoded m.state).number 0 h.coded) at p in
          q ∙ ap (λ (v : World). front_told (front_call v out)) h.is;
    }

pub refusal_sent : {m : Memory} (i : ℕ) {r : ℕ} → r ≡ buffer_number m i → Bytes m.state → ReadsRefusal m i r
refusal_sent i p is = record { sent = sent_read is; is = λ w h. p ∙ refusal_held h i }

state_sent : {state : List ℕ} {r : ℕ} (f : World → ℕ) → ((slots pool books : List ℕ) → r ≡ f (world_in (memory state slots pool books))) → Bytes state → ReadsState state r f
state_sent f p is =
    record { sent = λ slots pool books. sent_read is; is = λ slots pool books w h. p slots pool books ∙ ap f h.is }

pub limit_read_lem : {state : List ℕ} {r : ℕ} → r ≡ limit_read state → Bytes state → ReadsLimit state r
unfolding limit_read
limit_read_lem p is = state_sent (λ w. limit_pair (limit_of w.state)) (λ slots pool books. p) is

pub rows-read : {state : List ℕ} {r : ℕ} → r ≡ rows_buffered state → Bytes state → ReadsRows state r
unfolding rows_buffered
rows-read p is = state_sent (λ w. buffered_count w.state) (λ slots pool books. p) is

pub completed_read : {state : List ℕ} {r : ℕ} → r ≡ completed_flag state → Bytes state → ReadsCompleted state r
unfolding completed_flag
completed_read p is = state_sent (λ w. cond (has_completed w.state) 1 0) (λ slots pool books. p) is

pub empty-read : {state : List ℕ} {r : ℕ} → r ≡ empty_flag state → Bytes state → ReadsEmpty state r
unfolding empty_flag
empty-read p is = state_sent (λ w. cond (is_empty w.state) 1 0) (λ slots pool books. p) is
