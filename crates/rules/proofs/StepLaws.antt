-- The steps of a push, one law for each way out: what is known there, and the result.
use Rattle.std.specs.Prelude.{ℕ, ◌+◌, ◌≤◌, ◌<◌, ◌≡◌, ◌≢◌, true, false}
use Rattle.std.proofs.Math.Dec.{leb}
use borrow.Author.Tests.{lt-ltb, le-ltb, le-leb, lt-leb, eq-eqb, ne_eqb}
use Rattle.search.specs.Every.{every_is, all_fails}
use Rattle.state.specs.World.{World}
use Rattle.state.specs.Layout.{list_length}
use Rattle.rules.specs.Batch.{Batch, record_of}
use Rattle.rules.specs.Steps.{ok, refuse, bind, queueing}
use Rattle.rules.specs.Views.{span, filling, closed, block_opened, list_attached, views_raised, part_attached}
use Rattle.rules.specs.Push.{all_closed, finished, columns_whole, queued_whole, if_full, over_limit, stepped}
use Rattle.rules.specs.Turns.{coalesced}
use Rattle.rules.proofs.PushLaws.{coalesced_is}

module _ (w : World) where
  -- ---- finishing

  pub finished-none : w.state.buffered.0 ≡ 0 → finished w ≡ ok w
  unfolding finished
  finished-none h = rw (eq-eqb w.state.buffered.0 0 h)

  pub finished_nine : w.state.buffered.0 ≢ 0 → w.state.queue ≤ w.state.queued → finished w ≡ refuse 9
  unfolding finished
  finished_nine h l = rw (ne_eqb w.state.buffered.0 0 h, le-ltb w.state.queued w.state.queue l)

  pub finished_queues : w.state.buffered.0 ≢ 0 → w.state.queued < w.state.queue → finished w ≡ ok (queueing (all_closed w) w.state.buffered.0)
  unfolding finished
  finished_queues h l = rw (ne_eqb w.state.buffered.0 0 h, lt-ltb w.state.queued w.state.queue l)

  pub full_finishes : w.state.buffered.0 ≡ w.state.target.0 → if_full w ≡ finished w
  unfolding if_full
  full_finishes h = rw (eq-eqb w.state.buffered.0 w.state.target.0 h)

  pub full_not : w.state.buffered.0 ≢ w.state.target.0 → if_full w ≡ ok w
  unfolding if_full
  full_not h = rw (ne_eqb w.state.buffered.0 w.state.target.0 h)

  -- ---- opening and attaching, where the list is full

  pub opened_ten : (c min : ℕ) → w.state.lists < list_length w (filling w) c + 1 → block_opened w c min ≡ refuse 10
  unfolding block_opened
  opened_ten c min l = rw (lt-leb (list_length w (filling w) c + 1) w.state.lists l)

  module _ (b : Batch) (c at from n : ℕ) where
    pub attached_ten : w.state.lists < list_length (closed w c) (filling w) c + (record_of b c).count → part_attached w b (span c at from n) ≡ refuse 10
    unfolding part_attached
    attached_ten l = rw (lt-leb (list_length (closed w c) (filling w) c + (record_of b c).count) w.state.lists l)

    pub attached_done : list_length (closed w c) (filling w) c + (record_of b c).count ≤ w.state.lists → part_attached w b (span c at from n) ≡ ok (views_raised (list_attached (closed w c) b c) b (list_length (closed w c) (filling w) c) (span c at from n))
    unfolding part_attached
    attached_done l = rw (le-leb (list_length (closed w c) (filling w) c + (record_of b c).count) w.state.lists l)

  -- ---- queueing whole

  module _ (b : Batch) where
    pub whole_nine : w.state.queue ≤ w.state.queued → queued_whole w b ≡ refuse 9
    unfolding queued_whole
    whole_nine l = rw (le-ltb w.state.queued w.state.queue l)

    pub whole_ten : (c : ℕ) → w.state.queued < w.state.queue → c < w.state.columns → w.state.lists < list_length w (filling w) c + (record_of b c).count → queued_whole w b ≡ refuse 10
    unfolding queued_whole
    whole_ten c l m h =
        rw (
          lt-ltb w.state.queued w.state.queue l,
          ← all_fails (λ c. leb (list_length w (filling w) c + (record_of b c).count) w.state.lists) w.state.columns c m (lt-leb (list_length w (filling w) c + (record_of b c).count) w.state.lists h),
        )

    pub whole_queues : w.state.queued < w.state.queue → ((c : ℕ) → c < w.state.columns → list_length w (filling w) c + (record_of b c).count ≤ w.state.lists) → queued_whole w b ≡ ok (queueing (columns_whole w b) b.rows)
    unfolding queued_whole
    whole_queues l h =
        rw (
          lt-ltb w.state.queued w.state.queue l,
          every_is (λ c. leb (list_length w (filling w) c + (record_of b c).count) w.state.lists) w.state.columns (λ c m. le-leb (list_length w (filling w) c + (record_of b c).count) w.state.lists (h c m)),
        )

-- ---- step 2

module _ (w : World) (b : Batch) where
  pub stepped_small : over_limit w.state.limit b.rows ≡ false → stepped w b ≡ coalesced b.rows w w b 0
  unfolding stepped
  stepped_small p = rw (p, stepped) (coalesced_is w b)

  pub stepped-whole : over_limit w.state.limit b.rows ≡ true → w.state.buffered.0 ≡ 0 → stepped w b ≡ queued_whole w b
  unfolding stepped
  stepped-whole p q = rw (p, eq-eqb w.state.buffered.0 0 q, stepped)

  pub stepped_finishes : over_limit w.state.limit b.rows ≡ true → w.state.buffered.0 ≢ 0 → over_limit w.state.limit w.state.buffered.0 ≡ true → stepped w b ≡ bind (finished w) (λ v. queued_whole v b)
  unfolding stepped
  stepped_finishes p q r = rw (p, ne_eqb w.state.buffered.0 0 q, r, stepped)

  pub stepped_on : over_limit w.state.limit b.rows ≡ true → w.state.buffered.0 ≢ 0 → over_limit w.state.limit w.state.buffered.0 ≡ false → stepped w b ≡ coalesced b.rows w w b 0
  unfolding stepped
  stepped_on p q r = rw (p, ne_eqb w.state.buffered.0 0 q, r, stepped) (coalesced_is w b)
