-- One number behind a list: its place, and what is left.
use Rattle.std.specs.Prelude.{ℕ, ◌+◌, ◌*◌, ◌≤◌, ◌<◌, ◌≡◌, true, List, [], length}
use Rattle.words.specs.Word.{with_word32}
use Rattle.tallies.specs.Tally.{with_tally}
use Rattle.state.specs.declared.BatchCoalescer.{BatchCoalescer}
use Rattle.state.specs.World.{world}
use Rattle.state.specs.Layout.{is_views, slots_length, list_place, list_length, tally}
use Rattle.layout.specs.PlaceLaws.{entry-below}

module _ (s : BatchCoalescer) (slots books : List ℕ) (c number : ℕ) {n place : ℕ} (e : n ≡ list_length (world s [] [] books) s.place c) (p : place ≡ list_place s s.place c) where
  pub number_room : list_length (world s [] [] books) s.place c < s.lists → is_views s c ≡ true → s.place ≤ s.queue → c < s.columns → length slots ≡ slots_length s → place + 4 * n + 4 ≤ length slots
  number_room l v h k z = rw (e, p) (entry-below s h k z v l)

  pub number_put : {t : List ℕ} → t ≡ with_word32 slots (place + 4 * n) number → t ≡ with_word32 slots (list_place s s.place c + 4 * list_length (world s [] [] books) s.place c) number
  number_put q = rw (← e, ← p) q

  pub number_counted : {t : List ℕ} → t ≡ with_tally books (tally s s.place (c + 1)) (n + 1) → t ≡ with_tally books (tally s s.place (c + 1)) (list_length (world s [] [] books) s.place c + 1)
  number_counted q = rw (← e) q
