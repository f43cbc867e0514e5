-- After every history with a strip, the strip's bytes are the code of the rows taken, in order; and the numbers answered are theirs.
use Rattle.std.specs.Prelude.{ℕ, ◌≡◌, refl, ◌≢◌, Bool}
use Rattle.std.proofs.Common.{sym, ◌∙◌, true≢false, arith}
use Rattle.std.proofs.Math.Path.{ap}
use Rattle.std.proofs.Math.Bool.{true, false}
use mathlib.Core.List.{List, [], ◌∷◌, ◌++◌, append_assoc, append-nil}
use Rattle.std.proofs.Math.Decide.{ℕ_discrete}
use Rattle.std.proofs.Math.ListN.{length}
use Rattle.state.specs.World.{World}
use Rattle.state.specs.Rows.{Row, joined}
use Rattle.invariant.specs.Holding.{Between}
use Rattle.invariant.specs.RowLaws.{joined-append}
use Rattle.history.specs.Call.{Call, drop, step, run}
use Rattle.history.proofs.CallLaws.{call_law}
use Rattle.outs.specs.Outs.{Strip, empty}
use Rattle.outs.specs.KeepLaws.{Kept, empty-kept}
use Rattle.outs.specs.Coding.{code_of, strip_of}
use Rattle.outs.specs.CodingLaws.{StripFits, code-strip, empty-fits}
use Rattle.match_rows.specs.MatchRow.{after_rows, row_numbers}
use Rattle.match_rows.proofs.MatchRowLaws.{after_rows_none, after_rows_append, row_numbers_append, row_numbers_length}
use Rattle.player_strip.specs.StripCall.{front_batch}
use Rattle.player_strip.specs.CallerLaws.{batch-some, batch-none}
use Rattle.strip_story.proofs.NamedLaws.{Named, empty_named, rows_named, rows-kept, bytes_fit}
use Rattle.strip_story.specs.Play.{Layer, Reads, Court, court, read_ahead, Played, behind, is_some, Strips, none, call, read, dropped, take, astray, refused}
use Rattle.strip_story.proofs.FrontLaws.{front-row, drop_takes, still_queued, still_front}

-- ---- what a layer promises

-- a call there is the step of the definitions
pub record Stepped (L : Layer) (w : World) (c : Call) (m : L.Memory) (accepted : List Row) (taken : List (List Row)) : Type 0 where
  pub holds : L.Holds m (step w c).world
  pub accepted_are : accepted ≡ (step w c).accepted
  pub taken_are : taken ≡ (step w c).taken

-- and a refused one changes nothing, whatever it was handed
pub record Nothing (L : Layer) (l m : L.Memory) (accepted : List Row) (taken : List (List Row)) : Type 0 where
  pub same : m ≡ l
  pub none-accepted : accepted ≡ []
  pub none-taken : taken ≡ []

pub record Lawful (L : Layer) : Type 0 where
  -- memories hold one world
  pub one : {m : L.Memory} {w v : World} → L.Holds m w → L.Holds m v → w ≡ v
  pub stepped : {m n : L.Memory} {c : Call} {r : ℕ} {accepted : List Row} {taken : List (List Row)} {w : World} → Between w → L.Holds m w → L.Calls m c r n accepted taken → Stepped L w c n accepted taken
  pub nothing : {m n : L.Memory} {c : Call} {r : ℕ} {accepted : List Row} {taken : List (List Row)} → L.Calls m c r n accepted taken → r ≢ 0 → Nothing L m n accepted taken

-- ---- the strip's bytes

-- bytes that are the code of a strip, which they hold
pub record Coded (b : List ℕ) (t : Strip) : Type 0 where
  pub is : b ≡ code_of t
  pub fits : StripFits t
  pub kept : Kept t
  pub named : Named t

pub empty-coded : {b : List ℕ} → b ≡ code_of empty → Coded b empty
empty-coded e = record { is = e; fits = empty-fits; kept = empty-kept; named = empty_named }

pub held_strip : {b : List ℕ} {t : Strip} → Coded b t → strip_of b ≡ t
held_strip {t = t} h = ap strip_of h.is ∙ code-strip t h.fits

module _ {w : World} {b numbers b' : List ℕ} {t : Strip} (h : Coded b t) (r : Reads w b numbers b') where
  -- a read goes on with the rows of the front batch
  read-coded : Coded b' (after_rows t (front_batch w))
  read-coded =
      let e : b' ≡ code_of (after_rows t (front_batch w)) = r.strip_is ∙ ap (λ (s : Strip). code_of (after_rows s (front_batch w))) (held_strip h) in
      let k : Kept (after_rows t (front_batch w)) = rows-kept t (front_batch w) h.kept in
      let n : Named (after_rows t (front_batch w)) = rows_named t (front_batch w) h.named in
      record { is = e; fits = bytes_fit (after_rows t (front_batch w)) k n (rw e at r.bytes); kept = k; named = n }

  read-numbers : numbers ≡ row_numbers t (front_batch w)
  read-numbers = r.numbers_are ∙ ap (λ (s : Strip). row_numbers s (front_batch w)) (held_strip h)

-- ---- the rows in the strip that are not taken yet

-- a batch is ahead only where one is queued
pub record Ahead (f : Bool) (w : World) : Type 0 where
  pub queued : f ≡ true → w.state.queued ≢ 0

pub none_ahead : (w : World) → Ahead false w
none_ahead w = record { queued = λ e. absurd (true≢false (sym e)) }

-- a read that answered rows has the front batch ahead
module _ (w : World) (g : Between w) (t : Strip) where
  read-rows : (numbers : List ℕ) → numbers ≡ row_numbers t (front_batch w) → (front_batch w ≡ read_ahead (is_some numbers) w) × Ahead (is_some numbers) w
  unfolding read_ahead
  read-rows numbers e = go (ℕ_discrete w.state.queued 0) numbers (ap length e ∙ row_numbers_length t (front_batch w))
    where
      go : Dec (w.state.queued ≡ 0) → (l : List ℕ) → length l ≡ length (front_batch w) → (front_batch w ≡ read_ahead (is_some l) w) × Ahead (is_some l) w
      go (yes z) [] p = (batch-none w z, none_ahead w)
      go (yes z) (x ∷ l) p = absurd (omega (arith, ap length (batch-none w z)))
      go (no n) [] p = absurd (omega (arith, ap length (batch-some w n), front-row w g n))
      go (no n) (x ∷ l) p = (batch-some w n, record { queued = λ e. n })

-- a call that takes no batch leaves it there
module _ (w : World) (g : Between w) (c : Call) (e : (step w c).taken ≡ []) where
  rests : (f : Bool) → Ahead f w → (read_ahead f (step w c).world ≡ read_ahead f w) × Ahead f (step w c).world
  unfolding read_ahead
  rests true q =
      (still_front w g c e (q.queued refl), record { queued = λ p. still_queued w g c e (q.queued refl) })
  rests false q = (refl, none_ahead (step w c).world)

-- ---- all histories

-- the calls are the history of the definitions; and what the strip went on with, rows, is what was taken and what is ahead
pub record Went (L : Layer) (t : Strip) (f : Bool) (w : World) (cs : List Call) (y : Played L) : Type 0 where
  pub holds : L.Holds y.court.memory (run w cs).world
  pub accepted_are : y.accepted ≡ (run w cs).accepted
  pub taken_are : y.taken ≡ (run w cs).taken
  pub ahead : Ahead y.ahead (run w cs).world
  pub rows : List Row
  pub rows_are : read_ahead f w ++ rows ≡ joined y.taken ++ read_ahead y.ahead (run w cs).world
  pub coded : Coded y.court.strip (after_rows t rows)
  pub numbers_are : y.numbers ≡ row_numbers t rows

-- what a read adds
numbers_more : (t : Strip) (front rows : List Row) {numbers more : List ℕ} → numbers ≡ row_numbers t front → more ≡ row_numbers (after_rows t front) rows → numbers ++ more ≡ row_numbers t (front ++ rows)
numbers_more t front rows e f = rw (e, f) (sym (row_numbers_append t front rows))

-- what a drop takes
taken_more : {p rows : List Row} (taken more : List (List Row)) (left : List Row) → joined taken ≡ p → rows ≡ joined more ++ left → p ++ rows ≡ joined (taken ++ more) ++ left
taken_more taken more left e f = rw (← e, f, joined-append taken more) (sym (append_assoc (joined taken) (joined more) left))

module _ (L : Layer) (k : Lawful L) where
  -- nothing called
  none_went : {u : Court L} {f : Bool} {w : World} {t : Strip} → L.Holds u.memory w → Coded u.strip t → Ahead f w → Went L t f w [] (record { court = u; ahead = f; accepted = []; taken = []; numbers = [] })
  unfolding run joined row_numbers
  none_went {f = f} {w = w} {t = t} h d q =
      record {
        holds = h;
        accepted_are = refl;
        taken_are = refl;
        ahead = q;
        rows = [];
        rows_are = append-nil (read_ahead f w);
        coded = rw (after_rows_none t) d;
        numbers_are = refl;
      }

  -- a call that takes no batch
  call_went : {m : L.Memory} {f : Bool} {c : Call} {cs : List Call} {accepted : List Row} {taken : List (List Row)} {y : Played L} {w : World} {t : Strip} → Stepped L w c m accepted taken → taken ≡ [] → read_ahead f (step w c).world ≡ read_ahead f w → Went L t f (step w c).world cs y → Went L t f w (c ∷ cs) (behind L accepted taken [] y)
  unfolding run
  call_went {c = c} {cs = cs} {accepted = accepted} {y = y} {w = w} s e a rest =
      record {
        holds = rest.holds;
        accepted_are = rw (s.accepted_are, rest.accepted_are);
        taken_are = rw (s.taken_are, rest.taken_are);
        ahead = rest.ahead;
        rows = rest.rows;
        rows_are =
            ap (λ (l : List Row). l ++ rest.rows) (sym a)
            ∙ rest.rows_are
            ∙ ap (λ (l : List (List Row)). joined (l ++ y.taken) ++ read_ahead y.ahead (run (step w c).world cs).world) (sym e);
        coded = rest.coded;
        numbers_are = rest.numbers_are;
      }

  read_went : {numbers : List ℕ} {cs : List Call} {y : Played L} {w : World} {t : Strip} → numbers ≡ row_numbers t (front_batch w) → front_batch w ≡ read_ahead (is_some numbers) w → Went L (after_rows t (front_batch w)) (is_some numbers) w cs y → Went L t false w cs (behind L [] [] numbers y)
  unfolding read_ahead
  read_went {w = w} {t = t} e a rest =
      record {
        holds = rest.holds;
        accepted_are = rest.accepted_are;
        taken_are = rest.taken_are;
        ahead = rest.ahead;
        rows = front_batch w ++ rest.rows;
        rows_are = ap (λ (l : List Row). l ++ rest.rows) a ∙ rest.rows_are;
        coded = rw (after_rows_append t (front_batch w) rest.rows) rest.coded;
        numbers_are = numbers_more t (front_batch w) rest.rows e rest.numbers_are;
      }

  -- the drop of rows that are ahead, and of rows that are read with it
  dropped_went : {m : L.Memory} {cs : List Call} {accepted : List Row} {taken : List (List Row)} {y : Played L} {w : World} {t : Strip} → Between w → Ahead true w → Stepped L w drop m accepted taken → Went L t false (step w drop).world cs y → Went L t true w (drop ∷ cs) (behind L accepted taken [] y)
  unfolding run read_ahead
  dropped_went {cs = cs} {taken = taken} {y = y} {w = w} g q s rest =
      record {
        holds = rest.holds;
        accepted_are = rw (s.accepted_are, rest.accepted_are);
        taken_are = rw (s.taken_are, rest.taken_are);
        ahead = rest.ahead;
        rows = rest.rows;
        rows_are = taken_more taken y.taken (read_ahead y.ahead (run (step w drop).world cs).world) (ap joined s.taken_are ∙ drop_takes w g ∙ batch-some w (q.queued refl)) rest.rows_are;
        coded = rest.coded;
        numbers_are = rest.numbers_are;
      }

  take_went : {m : L.Memory} {numbers : List ℕ} {cs : List Call} {accepted : List Row} {taken : List (List Row)} {y : Played L} {w : World} {t : Strip} → Between w → numbers ≡ row_numbers t (front_batch w) → Stepped L w drop m accepted taken → Went L (after_rows t (front_batch w)) false (step w drop).world cs y → Went L t false w (drop ∷ cs) (behind L accepted taken numbers y)
  unfolding run read_ahead
  take_went {cs = cs} {taken = taken} {y = y} {w = w} {t = t} g e s rest =
      record {
        holds = rest.holds;
        accepted_are = rw (s.accepted_are, rest.accepted_are);
        taken_are = rw (s.taken_are, rest.taken_are);
        ahead = rest.ahead;
        rows = front_batch w ++ rest.rows;
        rows_are = taken_more taken y.taken (read_ahead y.ahead (run (step w drop).world cs).world) (ap joined s.taken_are ∙ drop_takes w g) rest.rows_are;
        coded = rw (after_rows_append t (front_batch w) rest.rows) rest.coded;
        numbers_are = numbers_more t (front_batch w) rest.rows e rest.numbers_are;
      }

  -- THE LAW: from any court whose bytes hold a world and a strip
  pub strips_went : {u : Court L} {f : Bool} {cs : List Call} {y : Played L} {w : World} {t : Strip} → Between w → L.Holds u.memory w → Coded u.strip t → Ahead f w → Strips L u f cs y → Went L t f w cs y
  strips_went g h d q none = none_went h d q
  strips_went {f = f} {w = w} g h d q (call {c = c} m e ss) =
      let s = k.stepped g h m in
      let r = rests w g c (sym s.taken_are ∙ e) f q in
      call_went s e r.0 (strips_went (call_law w c g).between s.holds d r.1 ss)
  strips_went {w = w} {t = t} g h d q (read {numbers = numbers} p ss) =
      let e = read-numbers d (p w h) in
      let r = read-rows w g t numbers e in
      read_went e r.0 (strips_went g h (read-coded d (p w h)) r.1 ss)
  strips_went {w = w} g h d q (dropped m ss) =
      let s = k.stepped g h m in
      dropped_went g q s (strips_went (call_law w drop g).between s.holds d (none_ahead (step w drop).world) ss)
  strips_went {w = w} g h d q (take p m ss) =
      let s = k.stepped g h m in
      take_went g (read-numbers d (p w h)) s (strips_went (call_law w drop g).between s.holds (read-coded d (p w h)) (none_ahead (step w drop).world) ss)
  strips_went {f = f} {cs = cs} {w = w} {t = t} g h d q (astray {u = u} {m = m} {y = y} live e c n ss) =
      let s = k.nothing c n in
      let j : live m ≡ u = ap live s.same ∙ e in
      let rest : Went L t f w cs y = strips_went g (rw j h) (rw j d) q ss in
      rw (s.none-accepted, s.none-taken) rest
  strips_went g h d q (refused {u = u} {v' = v'} live e p ss) =
      let j : live v' ≡ u = ap live p ∙ e in
      strips_went g (rw j h) (rw j d) q ss
