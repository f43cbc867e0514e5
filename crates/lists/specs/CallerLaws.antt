-- A list that may be attached: of a batch queued whole too, where an open block need not have a place any more.
use Rattle.std.specs.Prelude.{ℕ, ◌+◌, ◌≤◌, ◌<◌, List}
use Rattle.std.proofs.Common.{◌∙◌, arith}
use Rattle.state.specs.declared.BatchCoalescer.{BatchCoalescer}
use Rattle.state.specs.World.{world}
use Rattle.state.specs.Layout.{list_length}
use Rattle.rules.specs.Batch.{Batch, record_of}
use Rattle.columns.specs.SourceLaws.{list_same}
use Rattle.push_safety.specs.Run.{Readable}
use Rattle.push_safety.specs.TestedLaws.{bounds_say}
use Rattle.push_safety.specs.AttachGoes.{listed-length, listed_used}
use Rattle.push_safety.specs.Firm.{Firm}
use Rattle.lists.specs.List.{Listable}

pub listable_at : {s : BatchCoalescer} {slots pool books : List ℕ} {b : Batch} {c : ℕ} → Firm (world s slots pool books) → Readable (world s slots pool books) b → c < s.columns → list_length (world s slots pool books) s.place c + (record_of b c).count ≤ s.lists → Listable s slots books b c
listable_at {s} {slots} {pool} {books} {b} {c} f x h l =
    record {
      few =
          record {
            rows = (bounds_say s f.fit.bounds).rows;
            queue = (bounds_say s f.fit.bounds).queue;
            columns = (bounds_say s f.fit.bounds).columns;
            lists = (bounds_say s f.fit.bounds).lists;
            numbers = (bounds_say s f.fit.bounds).numbers;
          };
      place = f.fit.place;
      column = h;
      slots_are = f.fit.slots_are;
      books_are = f.fit.books_are;
      inside = (x.columns c h).listed;
      listed =
          record {
            room = f.books.roomy.room;
            used = f.books.used;
            list_room = omega (arith, listed-length b c (x.columns c h));
            below = λ i j. omega (arith, listed_used b c (x.columns c h) i j, f.books.used);
          };
      room = omega (arith, list_same s slots pool books c s.place);
      plain = (x.columns c h).plain;
      empty = λ y. list_same s slots pool books c s.place ∙ f.none s.place c f.fit.place h y;
    }
