-- What a view shows: laws by cases, and that a copied, raised or repointed view is valid and shows the same bytes.
use Rattle.std.specs.Prelude.{ℕ, zero, suc, ◌+◌, ◌-◌, ◌≤◌, ◌<◌, ◌≡◌, refl, true, false, ◌&&◌, List, length, get_or, take, ltb, leb, eqb}
use Rattle.std.proofs.Common.{sym, ◌∙◌, ap, arith, add-zero, length-take, ext_get_or, get_or-take, ltb-true, leb-true, eqb-true, lt-ltb, le-leb, eq-eqb}
use Rattle.std.proofs.Math.Bool.{and-eq-true_iff}
use Rattle.std.proofs.Math.Decide.{dec_lt}
use Rattle.std.proofs.lemmas.Bool.{lt-leb}
use Rattle.search.specs.Cases.{both}
use Rattle.words.specs.Word.{word32, word_of}
use Rattle.words.specs.WordLaws.{Bytes}
use Rattle.words.specs.Run.{read}
use Rattle.words.specs.RunLaws.{length-read}
use Rattle.words.specs.FrameLaws.{get_d_read, word_read}
use Rattle.views.specs.declared.View.{View}
use Rattle.views.specs.declared.Buffer.{Buffer}
use Rattle.views.specs.View.{view_of, bytes_of, inline_bytes, is_padded, in_buffer, is_valid, shows, filled, long_length, repointed, raised_by}
use Rattle.views.specs.PadLaws.{inline_prefix, inline_index, inline_offset}

-- the two cases
pub shows_inline : (v : View) (f : ℕ → List ℕ) → v.length ≤ 12 → shows v f ≡ take v.length (inline_bytes v)
unfolding shows
shows_inline v f h = rw (le-leb v.length 12 h)

pub shows-long : (v : View) (f : ℕ → List ℕ) → 12 < v.length → shows v f ≡ read v.offset v.length (f v.index)
unfolding shows
shows-long v f h = rw (lt-leb v.length 12 h)

pub valid_inline : (v : View) (f : ℕ → List ℕ) (count : ℕ) → v.length ≤ 12 → is_valid v f count ≡ is_padded v
unfolding is_valid
valid_inline v f count h = rw (le-leb v.length 12 h)

-- a valid long view
pub record ValidLong (v : View) (f : ℕ → List ℕ) (count : ℕ) : Type 0 where
  pub below : v.index < count
  pub within : v.offset + v.length ≤ length (f v.index)
  pub begins : word32 (f v.index) v.offset ≡ v.prefix

pub long-says : (v : View) (f : ℕ → List ℕ) (count : ℕ) → 12 < v.length → is_valid v f count ≡ true → ValidLong v f count
unfolding is_valid in_buffer
long-says v f count h e =
    let p = (and-eq-true_iff (ltb v.index count) (leb (v.offset + v.length) (length (f v.index)) && eqb (word32 (f v.index) v.offset) v.prefix)).0 (rw (lt-leb v.length 12 h) at e) in
    let q = (and-eq-true_iff (leb (v.offset + v.length) (length (f v.index))) (eqb (word32 (f v.index) v.offset) v.prefix)).0 p.1 in
    record {
      below = ltb-true v.index count p.0;
      within = leb-true (v.offset + v.length) (length (f v.index)) q.0;
      begins = eqb-true (word32 (f v.index) v.offset) v.prefix q.1;
    }

pub long_is : (v : View) (f : ℕ → List ℕ) (count : ℕ) → 12 < v.length → ValidLong v f count → is_valid v f count ≡ true
unfolding is_valid in_buffer
long_is v f count h l =
    rw (lt-leb v.length 12 h)
    (both (lt-ltb v.index count l.below) (both (le-leb (v.offset + v.length) (length (f v.index)) l.within) (eq-eqb (word32 (f v.index) v.offset) v.prefix l.begins)))

-- the ways out of in_buffer
pub in_buffer_last : (v : View) (b : Buffer) (pool : List ℕ) {w : ℕ} → 12 < v.length → b.start + b.length.0 ≤ length pool → v.offset + v.length ≤ b.length.0 → w ≡ word32 pool (b.start + v.offset) → eqb w v.prefix ≡ in_buffer v (filled b pool)
unfolding in_buffer filled
in_buffer_last v b pool {w} h p l e =
    rw (
      length-read b.start b.length.0 pool p,
      le-leb (v.offset + v.length) b.length.0 l,
      word_read b.start b.length.0 pool v.offset (omega arith),
      e,
    )

pub in_buffer_not : (v : View) (b : Buffer) (pool : List ℕ) → b.start + b.length.0 ≤ length pool → b.length.0 < v.offset + v.length → false ≡ in_buffer v (filled b pool)
unfolding in_buffer filled
in_buffer_not v b pool p l =
    rw (length-read b.start b.length.0 pool p, lt-leb (v.offset + v.length) b.length.0 l)

-- the ways out of long_length, raise and repoint
pub long-none : (v : View) → v.length ≤ 12 → 0 ≡ long_length v
unfolding long_length
long-none v h = rw (le-leb v.length 12 h)

pub long-some : (v : View) → 12 < v.length → v.length ≡ long_length v
unfolding long_length
long-some v h = rw (lt-leb v.length 12 h)

pub repoint_inline : (index offset : ℕ) (v : View) → v.length ≤ 12 → v ≡ repointed index offset v
unfolding repointed
repoint_inline index offset v h = rw (le-leb v.length 12 h)

pub repoint-long : (index offset : ℕ) (v : View) → 12 < v.length → ◌≡◌ {A = View} (record { length = v.length; prefix = v.prefix; index = index; offset = offset }) (repointed index offset v)
unfolding repointed
repoint-long index offset v h = rw (lt-leb v.length 12 h)

pub raise_inline : (k : ℕ) (v : View) → v.length ≤ 12 → v ≡ raised_by k v
unfolding raised_by
raise_inline k v h = repoint_inline (v.index + k) v.offset v h

pub raise_long : (k : ℕ) (v : View) → 12 < v.length → ◌≡◌ {A = View} (record { length = v.length; prefix = v.prefix; index = v.index + k; offset = v.offset }) (raised_by k v)
unfolding raised_by
raise_long k v h = repoint-long (v.index + k) v.offset v h

-- the view v' over the buffers f' is valid and shows what v shows over f
pub record Keeps (v : View) (f : ℕ → List ℕ) (v' : View) (f' : ℕ → List ℕ) (count' : ℕ) : Type 0 where
  pub valid : is_valid v' f' count' ≡ true
  pub same : shows v' f' ≡ shows v f

pub keeps_trans : {v : View} {f : ℕ → List ℕ} {v' : View} {f' : ℕ → List ℕ} {n' : ℕ} {v'' : View} {f'' : ℕ → List ℕ} {n'' : ℕ} → Keeps v f v' f' n' → Keeps v' f' v'' f'' n'' → Keeps v f v'' f'' n''
keeps_trans a b = record { valid = b.valid; same = b.same ∙ a.same }

-- an inline view needs no buffer
pub keeps_inline : (v : View) (f : ℕ → List ℕ) (count : ℕ) (f' : ℕ → List ℕ) (count' : ℕ) → v.length ≤ 12 → is_valid v f count ≡ true → Keeps v f v f' count'
keeps_inline v f count f' count' h e =
    record {
      valid = valid_inline v f' count' h ∙ sym (valid_inline v f count h) ∙ e;
      same = shows_inline v f' h ∙ sym (shows_inline v f h);
    }

-- a run of the same bytes begins with the same word
begins_same : (o a n : ℕ) (s t : List ℕ) → 4 ≤ n → read o n s ≡ read a n t → word32 s o ≡ word32 t a
begins_same o a n s t h e =
    ap (word32 s) (sym (add-zero o)) ∙ sym (word_read o n s 0 (omega arith)) ∙ ap (λ (r : List ℕ). word32 r 0) e
    ∙ word_read a n t 0 (omega arith) ∙ ap (word32 t) (add-zero a)

-- a long view at the place where its bytes stand again
pub keeps_repointed : (v : View) (f : ℕ → List ℕ) (count : ℕ) (f' : ℕ → List ℕ) (count' j o : ℕ) → is_valid v f count ≡ true → (12 < v.length → (j < count') × (o + v.length ≤ length (f' j)) × (read o v.length (f' j) ≡ read v.offset v.length (f v.index))) → Keeps v f (repointed j o v) f' count'
keeps_repointed v f count f' count' j o e g = go (dec_lt 12 v.length)
  where
    moved : View
    moved = record { length = v.length; prefix = v.prefix; index = j; offset = o }

    long : (h : 12 < v.length) → Keeps v f moved f' count'
    long h =
        let l = long-says v f count h e in
        let p = g h in
        record {
          valid =
              long_is moved f' count' h
              (record {
                below = p.0;
                within = p.1;
                begins = begins_same o v.offset v.length (f' j) (f v.index) (omega arith) p.2 ∙ l.begins;
              });
          same = shows-long moved f' h ∙ p.2 ∙ sym (shows-long v f h);
        }

    go : Dec (12 < v.length) → Keeps v f (repointed j o v) f' count'
    go (yes h) = rw (← (repoint-long j o v h)) (long h)
    go (no h) = rw (← (repoint_inline j o v (omega arith))) (keeps_inline v f count f' count' (omega arith) e)

-- a view raised by the length of the list that its own list stands behind
pub keeps_raised : (v : View) (f : ℕ → List ℕ) (count : ℕ) (f' : ℕ → List ℕ) (count' k : ℕ) → is_valid v f count ≡ true → count + k ≤ count' → ((i : ℕ) → i < count → f' (i + k) ≡ f i) → Keeps v f (raised_by k v) f' count'
unfolding raised_by
keeps_raised v f count f' count' k e h g =
    keeps_repointed v f count f' count' (v.index + k) v.offset e
    (λ l.
    let p = long-says v f count l e in
    let q : f' (v.index + k) ≡ f v.index = g v.index p.below in
    (omega (arith, p.below), rw q p.within, rw q))

-- a view that is copied as it stands, over the same buffers and perhaps more
pub keeps_longer : (v : View) (f : ℕ → List ℕ) (count : ℕ) (f' : ℕ → List ℕ) (count' : ℕ) → is_valid v f count ≡ true → count ≤ count' → ((i : ℕ) → i < count → f' i ≡ f i) → Keeps v f v f' count'
keeps_longer v f count f' count' e h g = go (dec_lt 12 v.length)
  where
    go : Dec (12 < v.length) → Keeps v f v f' count'
    go (no l) = keeps_inline v f count f' count' (omega arith) e
    go (yes l) =
        let p = long-says v f count l e in
        let q : f' v.index ≡ f v.index = g v.index p.below in
        record {
          valid = long_is v f' count' l (record { below = omega (arith, p.below); within = rw q p.within; begins = rw q p.begins });
          same = shows-long v f' l ∙ ap (read v.offset v.length) q ∙ sym (shows-long v f l);
        }

-- the four bytes of a word that is read from bytes
word_bytes_lem : (s : List ℕ) (at j : ℕ) → Bytes s → j < 4 → get_or (bytes_of (word32 s at)) j 0 ≡ get_or s (at + j) 0
unfolding word32 word_of
word_bytes_lem s at zero b h = rw (add-zero at) (omega (arith, b.byte at, b.byte (at + 1), b.byte (at + 2), b.byte (at + 3)))
word_bytes_lem s at (suc zero) b h = omega (arith, b.byte at, b.byte (at + 1), b.byte (at + 2), b.byte (at + 3))
word_bytes_lem s at (suc (suc zero)) b h = omega (arith, b.byte at, b.byte (at + 1), b.byte (at + 2), b.byte (at + 3))
word_bytes_lem s at (suc (suc (suc zero))) b h = omega (arith, b.byte at, b.byte (at + 1), b.byte (at + 2), b.byte (at + 3))
word_bytes_lem s at (suc (suc (suc (suc j)))) b h = absurd (omega arith)

-- an inline view's bytes stand in its row, 4 bytes behind its start. 01: "Inline start: .. view, its start + 4"
pub inline_byte : (s : List ℕ) (at j : ℕ) → Bytes s → j < 12 → get_or (inline_bytes (view_of s at)) j 0 ≡ get_or s (at + 4 + j) 0
unfolding view_of
inline_byte s at j b h = go (dec_lt j 4) (dec_lt j 8)
  where
    v : View
    v = view_of s at

    place : {x y : ℕ} → x ≡ y → get_or s x 0 ≡ get_or s y 0
    place e = ap (λ (i : ℕ). get_or s i 0) e

    go : Dec (j < 4) → Dec (j < 8) → get_or (inline_bytes v) j 0 ≡ get_or s (at + 4 + j) 0
    go (yes d) e = inline_prefix v j d ∙ word_bytes_lem s (at + 4) j b d
    go (no d) (yes e) =
        let z : 4 + (j - 4) ≡ j = omega arith in
        rw z at (inline_index v (j - 4) (omega arith) ∙ word_bytes_lem s (at + 8) (j - 4) b (omega arith) ∙ place {x = at + 8 + (j - 4)} {y = at + 4 + (4 + (j - 4))} (omega arith))
    go (no d) (no e) =
        let z : 4 + (4 + (j - 8)) ≡ j = omega arith in
        rw z at (inline_offset v (j - 8) ∙ word_bytes_lem s (at + 12) (j - 8) b (omega arith) ∙ place {x = at + 12 + (j - 8)} {y = at + 4 + (4 + (4 + (j - 8)))} (omega arith))

length_inline : (v : View) → length (inline_bytes v) ≡ 12
unfolding inline_bytes
length_inline v = refl

pub inline_read : (s : List ℕ) (at : ℕ) (f : ℕ → List ℕ) → Bytes s → at + 16 ≤ length s → (view_of s at).length ≤ 12 → shows (view_of s at) f ≡ read (at + 4) (view_of s at).length s
inline_read s at f b h l = shows_inline (view_of s at) f l ∙ ext_get_or 0 (take n (inline_bytes v)) (read (at + 4) n s) same_length each
  where
    v : View
    v = view_of s at

    n : ℕ
    n = v.length

    same_length : length (take n (inline_bytes v)) ≡ length (read (at + 4) n s)
    same_length = length-take n (inline_bytes v) ∙ omega (arith, length_inline v, length-read (at + 4) n s (omega arith))

    each : (i : ℕ) → i < length (take n (inline_bytes v)) → get_or (take n (inline_bytes v)) i 0 ≡ get_or (read (at + 4) n s) i 0
    each i k =
        let i< : i < n = omega (arith, length-take n (inline_bytes v)) in
        get_or-take n (inline_bytes v) i 0 i< ∙ inline_byte s at i b (omega arith) ∙ sym (get_d_read (at + 4) n s i i<)
