-- Numbers of a width and a signedness: what each integer type is, without its name. Sections are those of
-- ISO/IEC 9899:2011.
use Rattle.std.specs.Prelude.{ℕ, ◌-◌, ◌<◌, ◌≤◌, ◌^◌, Bool, ℤ, pos, ◌+ℤ◌, ◌-ℤ◌, ◌≤ℤ◌, ◌<ℤ◌, bit_and, bit_or, bit_xor, if◌then◌else◌}
use Rattle.std.specs.Int.{int_rem_euclid}
use Rattle.kv_num.specs.Bits.{low_bits}

-- the widths of numbers that the machine's arithmetic holds
pub record IsWidth (width : ℕ) : Type 0 where
  pub some : 0 < width
  pub few : width ≤ 64

-- how many of the numbers are negative: half where there is a sign, in two's complement (6.2.6.2)
abbrev pub below_at : ℕ → Bool → ℕ
below_at width signed = if signed then 2 ^ (width - 1) else 0

-- a number of this width and signedness (5.2.4.2.1)
pub record InShape (width : ℕ) (signed : Bool) (n : ℤ) : Type 0 where
  pub least : pos 0 ≤ℤ (n +ℤ pos (below_at width signed))
  pub most : (n +ℤ pos (below_at width signed)) <ℤ pos (2 ^ width)

-- the one that equals n modulo 2 ^ width (6.3.1.3)
abbrev pub wrap_at : ℕ → Bool → ℤ → ℤ
wrap_at width signed n = int_rem_euclid (n +ℤ pos (below_at width signed)) (pos (2 ^ width)) -ℤ pos (below_at width signed)

-- the bits of a number, read as a number without a sign
abbrev pub bits_at : ℕ → ℤ → ℕ
bits_at width a = low_bits width a

-- the bitwise operations on the lowest bits (6.5.3.3, 6.5.10 to 6.5.12)
abbrev pub and_at : ℕ → Bool → ℤ → ℤ → ℤ
and_at width signed a b = wrap_at width signed (pos (bit_and (bits_at width a) (bits_at width b)))

abbrev pub or_at : ℕ → Bool → ℤ → ℤ → ℤ
or_at width signed a b = wrap_at width signed (pos (bit_or (bits_at width a) (bits_at width b)))

abbrev pub xor_at : ℕ → Bool → ℤ → ℤ → ℤ
xor_at width signed a b = wrap_at width signed (pos (bit_xor (bits_at width a) (bits_at width b)))

abbrev pub not_at : ℕ → Bool → ℤ → ℤ
not_at width signed a = wrap_at width signed (pos (2 ^ width - 1 - bits_at width a))
