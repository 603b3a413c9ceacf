-- The texts of numbers: big-endian, in two, four or eight bytes.
use Rattle.std.specs.Prelude.{ℕ, List}
use Rattle.byteorder.specs.Endian.{big_bytes}

unfoldable pub u16_text : ℕ → List ℕ
u16_text n = big_bytes 2 n

unfoldable pub u32_text : ℕ → List ℕ
u32_text n = big_bytes 4 n

unfoldable pub u64_text : ℕ → List ℕ
u64_text n = big_bytes 8 n
