-- The part of a column, in a push and in its trial: a law for each way out of the trial.
use Rattle.std.specs.Prelude.{ℕ, ◌+◌, ◌-◌, ◌≤◌, ◌<◌, ◌≡◌, refl, true, List, []}
use Rattle.std.proofs.Common.{◌∙◌, ap, arith}
use Rattle.state.specs.declared.BatchCoalescer.{BatchCoalescer}
use Rattle.state.specs.declared.Column.{Column}
use Rattle.state.specs.World.{World, world, column_of}
use Rattle.state.specs.Layout.{is_views, list_length}
use Rattle.rules.specs.declared.ColumnRecord.{ColumnRecord}
use Rattle.rules.specs.Batch.{Batch, record_of}
use Rattle.rules.specs.Steps.{with_column}
use Rattle.rules.specs.Views.{span, filling, closed, part_attached}
use Rattle.rules.specs.Stays.{same-column}
use Rattle.rules.specs.SameLaws.{same_views}
use Rattle.rules.proofs.StepLaws.{attached_ten, attached_done}
use Rattle.columns.specs.Column.{closed_length}
use Rattle.columns.specs.SourceLaws.{closed-length}
use Rattle.trial_truth.specs.Like.{Like, Follows}
use Rattle.trial_truth.specs.LikeLaws.{column_other, closed_state, like_state, like_moves, here_untouched}
use Rattle.trial_truth.specs.MoveLaws.{attach_moves, attach_state}
use Rattle.std.specs.Prelude.{None}

-- ---- the list of a column that has not had its part

module _ {s : BatchCoalescer} {books : List ℕ} {b : Batch} {c : ℕ} {v : World} (a : Like s books b c v) (e : v.state ≡ s) (h : c < s.columns) (y : is_views s c ≡ true) where
  pub in_world : c < v.state.columns
  in_world = omega (arith, a.set_up.columns)

  pub views_in : is_views v.state c ≡ true
  views_in = same_views a.set_up c ∙ y

  pub column-at : column_of v.state c ≡ column_of s c
  column-at = ap (λ (x : BatchCoalescer). column_of x c) e

  list_at : list_length v v.state.place c ≡ list_length (world s [] [] books) s.place c
  list_at = ap (λ (slot : ℕ). list_length v slot c) a.place ∙ a.lists s.place c h (here_untouched a)

  pub closed_at_lem : closed_length (world s [] [] books) c ≡ closed_length v c
  unfolding closed_length
  closed_at_lem = rw (column-at, list_at)

  -- ---- attached

  module _ {r : ColumnRecord} (p : r ≡ record_of b c) {n : ℕ} (q : n ≡ closed_length (world s [] [] books) c) (at from m : ℕ) where
    joined : n + r.count ≡ list_length (closed v c) (filling v) c + (record_of b c).count
    joined = rw (q, closed_at_lem, closed-length a.run c in_world views_in, p)

    pub attached_follows : {k : Column} {t : BatchCoalescer} → n + r.count ≤ s.lists → k ≡ column_of s c → t ≡ with_column s c k.source None → Follows (part_attached v b (span c at from m)) b (c + 1) (record { state = t; number = 0 }) books
    attached_follows {k} {t} l x z =
        record {
          done = λ o.
              record {
                world = _;
                is = attached_done v b c at from m fits;
                state = attach_state v b c at from m a.run a.reads in_world views_in fits ∙ closed_state v c ∙ rw (z, x, e);
                like =
                    rw (z, x)
                    (like_state
                    (like_moves a (attach_moves v b c at from m a.run a.reads in_world views_in fits) h y column-at)
                    (same-column s c (column_of s c).source None)
                    refl
                    refl
                    (λ d g. column_other s c (column_of s c).source None d (λ i. omega arith)));
              };
          not = λ o. absurd (o refl);
        }
      where
        fits : list_length (closed v c) (filling v) c + (record_of b c).count ≤ v.state.lists
        fits = omega (arith, joined, a.set_up.lists)

    pub attached_full : {t : BatchCoalescer} → s.lists < n + r.count → Follows (part_attached v b (span c at from m)) b (c + 1) (record { state = t; number = 10 }) books
    attached_full l =
        record {
          done = λ o. absurd (omega arith);
          not = λ o. attached_ten v b c at from m (omega (arith, joined, a.set_up.lists));
        }
