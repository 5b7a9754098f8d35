-- The object that a number names, in 16 bits.
use Rattle.std.specs.Prelude.{ℕ, ℤ, if◌then◌else◌}
use Rattle.lop_lolib.specs.OrderReading.{is_object, object_of}

-- 65,535, which is in no order, where it names none
abbrev pub clamped_object : ℤ → ℕ
clamped_object number = if is_object 65535 number then object_of number else 65535
