-- `player_strip::take_row` meets its contract.
use Rattle.player_strip.specs.RowExits.{null_number, null_took, short_number, short_took, long-number, long-took}
use Rattle.outs.specs.TestLaws.{bytes-known}
use Rattle.player_strip.proofs.take_row.Goals as goal

pub returns-then-v-le-MAX_INLINE_VIEW_LEN : goal.returns-then-v-le-MAX_INLINE_VIEW_LEN
returns-then-v-le-MAX_INLINE_VIEW_LEN c = (short_number _ _ _ _ _ _ c.is_whole_at.ensures c.if-is_whole_at.true c.view_at-v.ensures (bytes-known c.type_inv.slots) c.requires.0 c.requires.1 c.if-v-le-MAX_INLINE_VIEW_LEN.true c.take_named.ensures.0, short_took _ _ _ _ _ _ c.is_whole_at.ensures c.if-is_whole_at.true c.view_at-v.ensures (bytes-known c.type_inv.slots) c.requires.0 c.requires.1 c.if-v-le-MAX_INLINE_VIEW_LEN.true c.take_named.ensures.1)

pub returns-else-v-le-MAX_INLINE_VIEW_LEN : goal.returns-else-v-le-MAX_INLINE_VIEW_LEN
returns-else-v-le-MAX_INLINE_VIEW_LEN c = (long-number _ _ _ _ _ _ c.is_whole_at.ensures c.if-is_whole_at.true c.view_at-v.ensures c.if-v-le-MAX_INLINE_VIEW_LEN.false c.long_name-name.ensures c.take_named-else-v-le-MAX_INLINE_VIEW_LEN.ensures.0, long-took _ _ _ _ _ _ c.is_whole_at.ensures c.if-is_whole_at.true c.view_at-v.ensures c.if-v-le-MAX_INLINE_VIEW_LEN.false c.long_name-name.ensures c.take_named-else-v-le-MAX_INLINE_VIEW_LEN.ensures.1)

pub returns-else-is_whole_at : goal.returns-else-is_whole_at
returns-else-is_whole_at c = (null_number _ _ _ _ _ _ c.is_whole_at.ensures c.if-is_whole_at.false, null_took _ _ _ _ _ _ c.is_whole_at.ensures c.if-is_whole_at.false c.requires.2)
