-- The limit's words put anew: the bytes of a state become those of the state with that limit.
use Rattle.std.specs.Prelude.{ℕ, ◌≡◌, refl, List, ◌++◌, length, take, drop}
use Rattle.std.proofs.Common.{sym, ◌∙◌, ap, append_assoc, arith, length-append, take-append-drop, take_at, drop_at}
use Rattle.state.specs.declared.BatchCoalescer.{BatchCoalescer}
use Rattle.codes.specs.Code.{bytes_of, limit_words, set_up_words, count_words, columns_words, words_of, code_of, limited}
use Rattle.codes.specs.PutLaws.{parts, limited-take, limited-drop}
use Rattle.codes.specs.RoundLaws.{length_bytes_of, length_code_of}

-- four runs, the first of 28 bytes, the second of 8
front : (a b c d : List ℕ) → length a ≡ 28 → take 28 (a ++ b ++ c ++ d) ≡ a
front a b c d h =
    ap (take 28) (append_assoc (a ++ b) c d ∙ append_assoc a b (c ++ d)) ∙ take_at a (b ++ (c ++ d)) 28 h

rest : (a b c d : List ℕ) → length a ≡ 28 → length b ≡ 8 → drop 36 (a ++ b ++ c ++ d) ≡ c ++ d
rest a b c d h k =
    ap (drop 36) (append_assoc (a ++ b) c d) ∙ drop_at (a ++ b) (c ++ d) 36 (omega (arith, length-append a b))

module _ (s : BatchCoalescer) where
  set_up_bytes : length (bytes_of (set_up_words s)) ≡ 28
  unfolding set_up_words
  set_up_bytes = length_bytes_of (set_up_words s)

  limit_bytes : length (bytes_of (limit_words s.limit)) ≡ 8
  unfolding limit_words
  limit_bytes = length_bytes_of (limit_words s.limit)

  code-parts : code_of s ≡ bytes_of (set_up_words s) ++ bytes_of (limit_words s.limit) ++ bytes_of (count_words s) ++ bytes_of (columns_words s 16)
  unfolding code_of words_of
  code-parts = parts (set_up_words s) (limit_words s.limit) (count_words s) (columns_words s 16)

  pub code-front : take 28 (code_of s) ≡ bytes_of (set_up_words s)
  code-front =
      ap (take 28) code-parts
      ∙ front (bytes_of (set_up_words s)) (bytes_of (limit_words s.limit)) (bytes_of (count_words s)) (bytes_of (columns_words s 16)) set_up_bytes

  pub code-rest : drop 36 (code_of s) ≡ bytes_of (count_words s) ++ bytes_of (columns_words s 16)
  code-rest =
      ap (drop 36) code-parts
      ∙ rest (bytes_of (set_up_words s)) (bytes_of (limit_words s.limit)) (bytes_of (count_words s)) (bytes_of (columns_words s 16)) set_up_bytes limit_bytes

-- a state with all its words but the limit's
pub limited-code : (s t : BatchCoalescer) → set_up_words t ≡ set_up_words s → count_words t ≡ count_words s → columns_words t 16 ≡ columns_words s 16 → limited t.limit (code_of s) ≡ code_of t
limited-code s t e f g =
    sym (take-append-drop 36 (limited t.limit (code_of s)))
    ∙ rw (
      limited-take t.limit (code_of s) refl (length_code_of s),
      limited-drop t.limit (code_of s),
      code-front s,
      code-rest s,
      ← e,
      ← f,
      ← g,
      code-parts t,
    )
    (sym (append_assoc (bytes_of (set_up_words t) ++ bytes_of (limit_words t.limit)) (bytes_of (count_words t)) (bytes_of (columns_words t 16))))
