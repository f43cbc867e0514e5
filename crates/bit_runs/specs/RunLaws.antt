-- What the code learns at each of its exits: runs appended byte by byte, and in three parts.
use Rattle.std.specs.Prelude.{ℕ, zero, suc, ◌+◌, ◌-◌, ◌*◌, ◌/◌, ◌%◌, ◌^◌, ◌≤◌, ◌<◌, ◌≡◌, refl, List, length, get_or, set}
use Rattle.std.proofs.Math.Path.{sym}
use Rattle.std.proofs.Common.{◌∙◌, ap, arith, Fits}
use Rattle.std.proofs.Math.Nat.{mod-mod}
use Rattle.std.specs.Int.{w8}
use Rattle.bits.specs.Bits.{bits_from, ones, appended, value_of, across, head_bits}
use Rattle.bits.specs.BitLaws.{bits_from_small, ones_small, run-start, run_later, run_byte_later, length-appended, appended_join, appended_ext}
use Rattle.bits.specs.ValueLaws.{value_ext, value_put, set-whole, value_two}

-- ---- whole bytes

-- one byte more of a run
whole-more : (d : List ℕ) (k : ℕ) (b : ℕ → ℕ) → ((j : ℕ) → b j < 2) → (i : ℕ) {m v : ℕ} {t : List ℕ} → i < m → k + m ≤ length d
    → t ≡ appended d (8 * k) b (8 * i) → v ≡ value_of (λ j. b (8 * i + j)) 8 → set t (k + i) v ≡ appended d (8 * k) b (8 * (i + 1))
whole-more d k b small i {m} {v} {t} l h e f =
    let q : 8 * (k + i) ≡ 8 * k + 8 * i = omega arith in
    let r : 8 * i + 8 ≡ 8 * (i + 1) = omega arith in
    let g : length (appended d (8 * k) b (8 * i)) ≡ length d = length-appended d (8 * k) b (8 * i) in
    set-whole t (k + i) v ∙ rw (q, e, f) (value_put (appended d (8 * k) b (8 * i)) (8 * k + 8 * i) (λ j. b (8 * i + j)) (λ j. small (8 * i + j)) 8 (omega arith) (omega arith) (omega arith))
    ∙ appended_join d (8 * k) b (8 * i) 8 ∙ ap (appended d (8 * k) b) r

pub shift_more : (d : List ℕ) (k : ℕ) (s : List ℕ) (q f i : ℕ) {m v : ℕ} {t : List ℕ} → f < 8 → i < m → k + m ≤ length d
    → t ≡ appended d (8 * k) (bits_from s q f) (8 * i) → v ≡ across (get_or s (q + i) 0) (get_or s (q + i + 1) 0) f
    → set t (k + i) v ≡ appended d (8 * k) (bits_from s q f) (8 * (i + 1))
shift_more d k s q f i n l h e g =
    let x : across (get_or s (q + i) 0) (get_or s (q + i + 1) 0) f % 2 ^ 8 ≡ across (get_or s (q + i) 0) (get_or s (q + i + 1) 0) f = unfold across in mod-mod _ 256 in
    whole-more d k (bits_from s q f) (bits_from_small s q f) i l h e
    (g ∙ sym x ∙ value_two s (q + i) f 8 (omega arith) (omega arith)
    ∙ value_ext (bits_from s (q + i) f) (λ j. bits_from s q f (8 * i + j)) 8 (λ j r. run_byte_later s q f i j))

pub copy_more : (d : List ℕ) (k : ℕ) (s : List ℕ) (q i : ℕ) {m : ℕ} {t : List ℕ} → Fits w8 (get_or s (q + i) 0) → i < m → k + m ≤ length d
    → t ≡ appended d (8 * k) (bits_from s q 0) (8 * i) → set t (k + i) (get_or s (q + i) 0) ≡ appended d (8 * k) (bits_from s q 0) (8 * (i + 1))
copy_more d k s q i b l h e = shift_more d k s q 0 i (omega arith) l h e (unfold across in omega arith)

pub ones-more : (d : List ℕ) (k i : ℕ) {m : ℕ} {t : List ℕ} → i < m → k + m ≤ length d
    → t ≡ appended d (8 * k) ones (8 * i) → set t (k + i) 255 ≡ appended d (8 * k) ones (8 * (i + 1))
ones-more d k i l h e = whole-more d k ones ones_small i l h e (unfold value_of ones in refl)

pub whole-all : (d : List ℕ) (k : ℕ) (b : ℕ → ℕ) (i m : ℕ) {t : List ℕ} → i ≤ m → m ≤ i → t ≡ appended d (8 * k) b (8 * i) → t ≡ appended d (8 * k) b (8 * m)
whole-all d k b i m l h e = let q : i ≡ m = omega arith in e ∙ ap (λ (n : ℕ). appended d (8 * k) b (8 * n)) q

pub whole-moved : (d : List ℕ) (k : ℕ) (s : List ℕ) (start first m : ℕ) {f : ℕ} {t : List ℕ} → first % 8 ≡ f
    → t ≡ appended d (8 * k) (bits_from s (start + first / 8) f) (8 * m) → t ≡ appended d (8 * k) (bits_from s start first) (8 * m)
whole-moved d k s start first m e g =
    g ∙ appended_ext d (8 * k) _ (bits_from s start first) (8 * m) (λ j l. rw (← e) (run-start s start first j))

-- ---- the head, the whole bytes and the tail

-- where nothing is appended the place does not matter
any_place : (t : List ℕ) (a a' : ℕ) (b : ℕ → ℕ) (n : ℕ) → (0 < n → a ≡ a') → appended t a b n ≡ appended t a' b n
unfolding appended
any_place t a a' b zero h = refl
any_place t a a' b (suc n) h = let q : a ≡ a' = h (omega arith) in ap (λ (x : ℕ). appended t x b (suc n)) q

pub parts : (d : List ℕ) (at : ℕ) (b b₁ b₂ : ℕ → ℕ) (n c : ℕ) {t₁ t₂ t₃ : List ℕ}
    → ((j : ℕ) → b₁ j ≡ b (c + j)) → ((j : ℕ) → b₂ j ≡ b (c + 8 * ((n - c) / 8) + j)) → c ≡ head_bits at n
    → t₁ ≡ appended d at b c → t₂ ≡ appended t₁ (8 * ((at + c) / 8)) b₁ (8 * ((n - c) / 8))
    → t₃ ≡ appended t₂ (at + (c + 8 * ((n - c) / 8))) b₂ (n - (c + 8 * ((n - c) / 8))) → t₃ ≡ appended d at b n
unfolding head_bits
parts d at b b₁ b₂ n c {t₁} {t₂} {t₃} f g h e₁ e₂ e₃ =
    let m : ℕ = 8 * ((n - c) / 8) in
    let s₂ : t₂ ≡ appended d at b (c + m) =
    e₂ ∙ any_place t₁ (8 * ((at + c) / 8)) (at + c) b₁ m (λ p. omega arith) ∙ appended_ext t₁ (at + c) b₁ (λ j. b (c + j)) m (λ j l. f j)
    ∙ ap (λ (t : List ℕ). appended t (at + c) (λ j. b (c + j)) m) e₁ ∙ appended_join d at b c m in
    let q : c + m + (n - (c + m)) ≡ n = omega arith in
    e₃ ∙ appended_ext t₂ (at + (c + m)) b₂ (λ j. b (c + m + j)) (n - (c + m)) (λ j l. g j)
    ∙ ap (λ (t : List ℕ). appended t (at + (c + m)) (λ j. b (c + m + j)) (n - (c + m))) s₂ ∙ appended_join d at b (c + m) (n - (c + m)) ∙ ap (appended d at b) q

pub bits-parts : (d : List ℕ) (at : ℕ) (s : List ℕ) (start first n c : ℕ) {t₁ t₂ t₃ : List ℕ} → c ≡ head_bits at n
    → t₁ ≡ appended d at (bits_from s start first) c → t₂ ≡ appended t₁ (8 * ((at + c) / 8)) (bits_from s start (first + c)) (8 * ((n - c) / 8))
    → t₃ ≡ appended t₂ (at + (c + 8 * ((n - c) / 8))) (bits_from s start (first + (c + 8 * ((n - c) / 8)))) (n - (c + 8 * ((n - c) / 8)))
    → t₃ ≡ appended d at (bits_from s start first) n
bits-parts d at s start first n c h e₁ e₂ e₃ =
    parts d at (bits_from s start first) (bits_from s start (first + c)) (bits_from s start (first + (c + 8 * ((n - c) / 8)))) n c
    (run_later s start first c) (run_later s start first (c + 8 * ((n - c) / 8))) h e₁ e₂ e₃

pub ones-parts : (d : List ℕ) (at n c : ℕ) {t₁ t₂ t₃ : List ℕ} → c ≡ head_bits at n
    → t₁ ≡ appended d at ones c → t₂ ≡ appended t₁ (8 * ((at + c) / 8)) ones (8 * ((n - c) / 8))
    → t₃ ≡ appended t₂ (at + (c + 8 * ((n - c) / 8))) ones (n - (c + 8 * ((n - c) / 8))) → t₃ ≡ appended d at ones n
unfolding ones
ones-parts d at n c h e₁ e₂ e₃ = parts d at ones ones ones n c (λ j. refl) (λ j. refl) h e₁ e₂ e₃
