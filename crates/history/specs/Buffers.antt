-- The buffer that a row's answer names can be read, and the read hands back the bytes that the answer is about.
use Rattle.std.specs.Prelude.{ℕ, ◌≡◌}
use Rattle.std.specs.Prelude.{Option, None, Some}
use Rattle.sound.specs.Sound.{filled_bytes}
use Rattle.state.specs.declared.Place.{Place}
use Rattle.state.specs.declared.RowAnswer.{RowAnswer}
use Rattle.state.specs.World.{World}
use Rattle.rules.specs.Calls.{buffer_number_call, buffer_call}

-- 01: "a value is in its row or in a buffer": the number of the buffer that an answer names, where it names one
abbrev pub buffer_named : RowAnswer → Option ℕ
buffer_named RowAnswer.Null = None
buffer_named (RowAnswer.Value (Place.InRow start n)) = None
buffer_named (RowAnswer.Value (Place.InBuffer k offset n)) = Some k.0
buffer_named (RowAnswer.Refused number) = None

-- a read of that buffer is not refused, and hands back the bytes that it fills
abbrev pub CanRead : World → Option ℕ → Type 0
CanRead w None = Unit
CanRead w (Some k) = (buffer_number_call w k ≡ 0) × (buffer_call w k ≡ filled_bytes w.books w.pool k)
