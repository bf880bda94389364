-- The integer operations of WebAssembly 1.0 (section 4.3.2), each once over numbers of n bits. An operand is below 2 ^ n.
use Rattle.std.specs.Prelude.{ℕ, ◌+◌, ◌-◌, ◌*◌, ◌/◌, ◌%◌, ◌^◌, min, max, Bool, not, nat_lt, nat_le, ◌==◌, if◌then◌else◌, ℤ, pos, negsuc, ◌-ℤ◌, ◌*ℤ◌, int_lt, int_le, int_div}
use Rattle.bl_base.specs.Sums.{sum_below}

-- bool: 1 where the test holds, else 0
abbrev pub truth : Bool → ℕ
truth test = if test then 1 else 0

-- ibits: the bit of i at place k, where place 0 is the lowest
abbrev pub bit : ℕ → ℕ → ℕ
bit i k = i / 2 ^ k % 2

-- the number whose bit at each place k is b k
unfoldable pub from_bits : ℕ → (ℕ → ℕ) → ℕ
from_bits n b = sum_below n (λ k. b k * 2 ^ k)

-- signed: the two's complement reading of i
abbrev pub signed : ℕ → ℕ → ℤ
signed n i = if nat_lt i (2 ^ (n - 1)) then pos i else pos i -ℤ pos (2 ^ n)

-- the inverse of signed: a negative number stands for the one that is 2 ^ n above it
abbrev pub unsigned : ℕ → ℤ → ℕ
unsigned n (pos i) = i
unsigned n (negsuc i) = 2 ^ n - (i + 1)

-- ---- sums and products

-- the sum modulo 2 ^ n
abbrev pub iadd : ℕ → ℕ → ℕ → ℕ
iadd n a b = (a + b) % 2 ^ n

-- the difference modulo 2 ^ n
abbrev pub isub : ℕ → ℕ → ℕ → ℕ
isub n a b = (a + 2 ^ n - b) % 2 ^ n

-- the product modulo 2 ^ n
abbrev pub imul : ℕ → ℕ → ℕ → ℕ
imul n a b = (a * b) % 2 ^ n

-- ---- quotients and remainders: by zero the standard has none, and 0 stands here

-- the quotient, truncated
abbrev pub idiv_u : ℕ → ℕ → ℕ → ℕ
idiv_u n a b = if b == 0 then 0 else a / b

-- the quotient of the signed readings, truncated towards zero
abbrev pub idiv_s : ℕ → ℕ → ℕ → ℕ
idiv_s n a b = if b == 0 then 0 else unsigned n (int_div (signed n a) (signed n b))

-- what the truncated quotient leaves of a
abbrev pub irem_u : ℕ → ℕ → ℕ → ℕ
irem_u n a b = if b == 0 then 0 else a - b * (a / b)

-- the same by the signed readings: it has the dividend's sign
abbrev pub irem_s : ℕ → ℕ → ℕ → ℕ
irem_s n a b = if b == 0 then 0 else unsigned n (signed n a -ℤ signed n b *ℤ int_div (signed n a) (signed n b))

-- ---- bit by bit

-- 1 where both bits are
unfoldable pub iand : ℕ → ℕ → ℕ → ℕ
iand n a b = from_bits n (λ k. min (bit a k) (bit b k))

-- 1 where either bit is
unfoldable pub ior : ℕ → ℕ → ℕ → ℕ
ior n a b = from_bits n (λ k. max (bit a k) (bit b k))

-- 1 where one bit is and the other is not
unfoldable pub ixor : ℕ → ℕ → ℕ → ℕ
ixor n a b = from_bits n (λ k. (bit a k + bit b k) % 2)

-- ---- shifts and rotations by b modulo n places

-- shifted to the left, modulo 2 ^ n
abbrev pub ishl : ℕ → ℕ → ℕ → ℕ
ishl n a b = (a * 2 ^ (b % n)) % 2 ^ n

-- shifted to the right, and extended with 0 bits
abbrev pub ishr_u : ℕ → ℕ → ℕ → ℕ
ishr_u n a b = a / 2 ^ (b % n)

-- shifted to the right, and extended with the most significant bit of a
unfoldable pub ishr_s : ℕ → ℕ → ℕ → ℕ
ishr_s n a b = a / 2 ^ (b % n) + bit a (n - 1) * (2 ^ n - 2 ^ (n - b % n))

-- rotated to the left: what is shifted out comes in on the right
unfoldable pub irotl : ℕ → ℕ → ℕ → ℕ
irotl n a b = (a * 2 ^ (b % n)) % 2 ^ n + a / 2 ^ (n - b % n)

-- rotated to the right: what is shifted out comes in on the left
unfoldable pub irotr : ℕ → ℕ → ℕ → ℕ
irotr n a b = a / 2 ^ (b % n) + (a * 2 ^ (n - b % n)) % 2 ^ n

-- ---- counts of bits

-- the leading zero bits: the places from which on every bit is 0
unfoldable pub iclz : ℕ → ℕ → ℕ
iclz n i = sum_below n (λ k. truth (i / 2 ^ k == 0))

-- the trailing zero bits: the places up to which every bit is 0
unfoldable pub ictz : ℕ → ℕ → ℕ
ictz n i = sum_below n (λ k. truth (i % 2 ^ (k + 1) == 0))

-- the bits that are 1
unfoldable pub ipopcnt : ℕ → ℕ → ℕ
ipopcnt n i = sum_below n (λ k. bit i k)

-- ---- tests and comparisons

-- whether i is zero
abbrev pub ieqz : ℕ → ℕ → ℕ
ieqz n i = truth (i == 0)

-- a = b
abbrev pub ieq : ℕ → ℕ → ℕ → ℕ
ieq n a b = truth (a == b)

-- a ≠ b
abbrev pub ine : ℕ → ℕ → ℕ → ℕ
ine n a b = truth (not (a == b))

-- a < b by the signed readings
abbrev pub ilt_s : ℕ → ℕ → ℕ → ℕ
ilt_s n a b = truth (int_lt (signed n a) (signed n b))

-- a < b
abbrev pub ilt_u : ℕ → ℕ → ℕ → ℕ
ilt_u n a b = truth (nat_lt a b)

-- a > b by the signed readings
abbrev pub igt_s : ℕ → ℕ → ℕ → ℕ
igt_s n a b = truth (int_lt (signed n b) (signed n a))

-- a > b
abbrev pub igt_u : ℕ → ℕ → ℕ → ℕ
igt_u n a b = truth (nat_lt b a)

-- a ≤ b by the signed readings
abbrev pub ile_s : ℕ → ℕ → ℕ → ℕ
ile_s n a b = truth (int_le (signed n a) (signed n b))

-- a ≤ b
abbrev pub ile_u : ℕ → ℕ → ℕ → ℕ
ile_u n a b = truth (nat_le a b)

-- a ≥ b by the signed readings
abbrev pub ige_s : ℕ → ℕ → ℕ → ℕ
ige_s n a b = truth (int_le (signed n b) (signed n a))

-- a ≥ b
abbrev pub ige_u : ℕ → ℕ → ℕ → ℕ
ige_u n a b = truth (nat_le b a)

-- ---- conversions to m bits, or from m to n

-- i modulo 2 ^ m
abbrev pub iwrap : ℕ → ℕ → ℕ
iwrap m i = i % 2 ^ m

-- the same number at n bits
abbrev pub iextend_u : ℕ → ℕ → ℕ → ℕ
iextend_u m n i = i

-- the number of n bits with the same signed reading
abbrev pub iextend_s : ℕ → ℕ → ℕ → ℕ
iextend_s m n i = unsigned n (signed m i)
