-- `routes::set_sources` meets its contract.
use native.Mathlib.Omega.{arith}
use borrow.Author.Rules.{rules}
use Rattle.routes.specs.SourcedLaws.{sources_none, sources_more, sources_all, source_asks, pushing_columns}
use Rattle.routes.proofs.set_sources.Goals as goal

pub loop-c-init : goal.loop-c-init
loop-c-init c = (pushing_columns c.requires, search (sources_none, rules))

pub set_source-requires : goal.set_source-requires
set_source-requires c = source_asks c.requires c.loop-c-test.true

pub loop-c-preserved : goal.loop-c-preserved
loop-c-preserved c = (c.loop-c.invariant.0, sources_more _ c.loop-c.invariant.1 (omega arith) c.set_source.ensures)

pub returns : goal.returns
returns c = search (sources_all, rules)
