-- `trial_column::try_column` meets its contract.
use Rattle.trial_truth.specs.TellLaws.{tells_copied, tells_attaches, tells_compacts}
use Rattle.trial_column.specs.TryingLaws.{column-none}
use Rattle.trial_column.proofs.try_column.Goals as goal

pub try_compact-requires : goal.try_compact-requires
try_compact-requires c = (c.requires.0, c.requires.1, c.requires.2.views c.in-Compacted.is, c.requires.2.few, c.requires.2.values c.in-Compacted.is)

pub returns-in-Copied : goal.returns-in-Copied
returns-in-Copied c = (column-none c.requires.0, tells_copied c.in-Copied.is)

pub returns-in-Attached : goal.returns-in-Attached
returns-in-Attached c = (c.try_attach.ensures.0, tells_attaches c.in-Attached.is c.try_attach.ensures.1)

pub returns-in-Compacted : goal.returns-in-Compacted
returns-in-Compacted c = (c.try_compact.ensures.0, tells_compacts c.in-Compacted.is c.try_compact.ensures.1)
