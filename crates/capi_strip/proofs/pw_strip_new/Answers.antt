-- `capi_strip::pw_strip_new` meets its contract.
use Rattle.std.proofs.Common.{◌∙◌}
use Rattle.capi_strip.specs.StripApiLaws.{new_told}
use Rattle.capi_strip.proofs.pw_strip_new.Goals as goal

pub returns : goal.returns
returns c = new_told _ (c.fault_of.ensures ∙ c.new_strip.ensures.0) c.new_strip.ensures.1
