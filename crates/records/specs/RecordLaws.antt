-- A record is its eight words, and hangs on the records alone.
use Rattle.std.specs.Prelude.{ℕ, ◌+◌, ◌*◌, ◌≡◌, refl, List, []}
use Rattle.words.specs.Word.{word32}
use Rattle.rules.specs.declared.ColumnRecord.{ColumnRecord}
use Rattle.rules.specs.Batch.{batch, record_of}

-- a record from its eight words
pub record_is : (records : List ℕ) (c : ℕ) {k v b f l n x y : ℕ} → k ≡ word32 records (32 * c) → v ≡ word32 records (32 * c + 4) → b ≡ word32 records (32 * c + 8) → f ≡ word32 records (32 * c + 12) → l ≡ word32 records (32 * c + 16) → n ≡ word32 records (32 * c + 20) → x ≡ word32 records (32 * c + 24) → y ≡ word32 records (32 * c + 28) → record { kind = k; values = v; validity = b; first = f; list = l; count = n; spare = x; spare2 = y } ≡ record_of (batch 0 records []) c
unfolding record_of
record_is records c p q r s t u v w = rw (p, q, r, s, t, u, v, w)

-- a record reads the records only
pub record_same : (records body : List ℕ) (rows c : ℕ) → record_of (batch 0 records []) c ≡ record_of (batch rows records body) c
unfolding record_of
record_same records body rows c = refl
