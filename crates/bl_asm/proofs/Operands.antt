-- The decoder reads back operands and immediates.
use Rattle.std.proofs.Common.{◌≡◌, ℕ, zero, suc, ◌+◌, ◌*◌, ◌/◌, ◌%◌, ◌^◌, ◌<◌, ◌≤◌, ◌≢◌, List, [], ◌∷◌, ◌++◌, length, take, drop, Option, Some, None, true, false, ◌&&◌, cond, eqb, ltb, refl, ap, ap₂, ◌∙◌, arith, eq-eqb, length-append, mod-lt}
use Rattle.std.proofs.Math.Nat.{pow-suc}
use Rattle.std.proofs.lemmas.Bool.Decides.{nat_tests}
use Rattle.bl_base.specs.Bytes.{number_of, bytes_of}
use Rattle.bl_base.proofs.ByteLemmas.{length-bytes_of}
use Rattle.bl_x64.specs.Registers.{code_of}
use Rattle.bl_x64.specs.Programs.{IsAddress, IsPlace}
use Rattle.bl_x64.specs.declared.register.Register.{Register}
use Rattle.bl_x64.specs.declared.register.Register.TheVariants.{Rax, Rsp}
use Rattle.bl_x64.specs.declared.instruction.Address.{Address}
use Rattle.bl_x64.specs.declared.instruction.Place.{Place}
use Rattle.bl_x64.specs.declared.instruction.Place.TheVariants.{Register as InRegister, Memory as InMemory}
use Rattle.bl_asm.specs.Encoding.{index_code, index_bit, base_bit, rex_byte, operand_bytes}
use Rattle.bl_asm.specs.Decoding.{Decoded, Prefix, Plain, Rex, rex_of, register_of, index_of, immediate, with_sib, operands, decode_opcode, decode_rex, decode}

-- ---- tests of bytes

pub is_not : (a b : ℕ) → a ≢ b → eqb a b ≡ false
is_not a b h = grind (arith, nat_tests)

not_less : (a b : ℕ) → b ≤ a → ltb a b ≡ false
not_less a b h = grind (arith, nat_tests)

-- ---- registers

pub code_small : (r : Register) → code_of r < 16
code_small Rax = omega arith
code_small r = omega arith

pub register_is : (r : Register) → register_of (code_of r / 8) (code_of r % 8) ≡ r
register_is Rax = refl
register_is r = refl

pub index_is : (index : Option Register) → index ≢ Some Rsp → index_of (index_code index / 8) (index_code index % 8) ≡ index
index_is None h = refl
index_is (Some Rsp) h = absurd (h refl)
index_is (Some r) h = refl

pub index_small : (index : Option Register) → index_code index < 16
index_small None = omega arith
index_small (Some r) = code_small r

pub base_bit-small : (p : Place) → base_bit p < 2
base_bit-small (InRegister r) = omega (arith, code_small r)
base_bit-small (InMemory a) = omega (arith, code_small a.base)

pub index_bit-small : (p : Place) → index_bit p < 2
index_bit-small (InRegister r) = omega arith
index_bit-small (InMemory a) = omega (arith, index_small a.index)

-- ---- immediates

front_number : (width number : ℕ) (rest : List ℕ) → number < 256 ^ width → number_of (take width (bytes_of width number ++ rest)) ≡ number
front_number zero number rest h = omega arith
front_number (suc width) number rest h =
    let next = front_number width (number / 256) rest (omega (arith, pow-suc 256 width)) in
    omega (arith, next)

front_rest : (width number : ℕ) (rest : List ℕ) → drop width (bytes_of width number ++ rest) ≡ rest
front_rest zero number rest = refl
front_rest (suc width) number rest = front_rest width (number / 256) rest

front_long : (width number : ℕ) (rest : List ℕ) → ltb (length (bytes_of width number ++ rest)) width ≡ false
front_long width number rest = not_less _ _ (omega (arith, length-append (bytes_of width number) rest, length-bytes_of width number))

pub immediate_is : (width number : ℕ) (rest : List ℕ) (f : ℕ → List ℕ → Decoded) → number < 256 ^ width
    → immediate width (bytes_of width number ++ rest) f ≡ f number rest
immediate_is width number rest f h =
    ap (λ t. cond t None (f (number_of (take width (bytes_of width number ++ rest))) (drop width (bytes_of width number ++ rest)))) (front_long width number rest)
    ∙ ap₂ f (front_number width number rest h) (front_rest width number rest)

-- ---- ModRM

-- what was read of a byte at mod 3
at_register : (rex : Rex) (field : ℕ) (r : Register) (rest : List ℕ) (f : ℕ → Place → List ℕ → Decoded) → field < 8 → rex.b ≡ code_of r / 8
    → operands rex ((192 + 8 * field + code_of r % 8) ∷ rest) f ≡ f field (InRegister r) rest
at_register rex field r rest f small same =
    let byte = 192 + 8 * field + code_of r % 8 in
    let low = code_of r % 8 in
    let top : eqb (byte / 64) 3 ≡ true = eq-eqb (byte / 64) 3 (omega arith) in
    let field_is : byte / 8 % 8 ≡ field = omega arith in
    let low_is : byte % 8 ≡ low = omega arith in
    let place_is : register_of rex.b (byte % 8) ≡ r = ap₂ register_of same low_is ∙ register_is r in
    ap (λ t. cond t (f (byte / 8 % 8) (InRegister (register_of rex.b (byte % 8))) rest) (cond (eqb (byte / 64) 2 && eqb (byte % 8) 4) (with_sib rex (byte / 8 % 8) rest f) None)) top
    ∙ ap₂ (λ k p. f k (InRegister p) rest) field_is place_is

with_sib_is : (rex : Rex) (field : ℕ) (a : Address) (rest : List ℕ) (f : ℕ → Place → List ℕ → Decoded) → IsAddress a
    → rex.b ≡ code_of a.base / 8 → rex.x ≡ index_code a.index / 8
    → with_sib rex field ((8 * (index_code a.index % 8) + code_of a.base % 8) ∷ (bytes_of 4 a.displacement ++ rest)) f ≡ f field (InMemory a) rest
with_sib_is rex field a rest f h b_is x_is =
    let sib = 8 * (index_code a.index % 8) + code_of a.base % 8 in
    let top : eqb (sib / 64) 0 ≡ true = eq-eqb (sib / 64) 0 (omega arith) in
    let index_bits : sib / 8 % 8 ≡ index_code a.index % 8 = omega arith in
    let base_bits : sib % 8 ≡ code_of a.base % 8 = omega arith in
    let base : register_of rex.b (sib % 8) ≡ a.base = ap₂ register_of b_is base_bits ∙ register_is a.base in
    let index : index_of rex.x (sib / 8 % 8) ≡ a.index = ap₂ index_of x_is index_bits ∙ index_is a.index h.0 in
    let g : ℕ → List ℕ → Decoded = λ number more. f field (InMemory (record { base = register_of rex.b (sib % 8); index = index_of rex.x (sib / 8 % 8); displacement = number })) more in
    ap (λ t. cond t (immediate 4 (bytes_of 4 a.displacement ++ rest) g) None) top
    ∙ immediate_is 4 a.displacement rest g h.1
    ∙ ap₂ (λ b i. f field (InMemory (record { base = b; index = i; displacement = a.displacement })) rest) base index

pub operands_are : (rex : Rex) (field : ℕ) (p : Place) (rest : List ℕ) (f : ℕ → Place → List ℕ → Decoded) → field < 8 → IsPlace p
    → rex.b ≡ base_bit p → rex.x ≡ index_bit p → operands rex (operand_bytes field p ++ rest) f ≡ f field p rest
operands_are rex field (InRegister r) rest f small h b_is x_is = at_register rex field r rest f small b_is
operands_are rex field (InMemory a) rest f small h b_is x_is =
    let byte = 132 + 8 * field in
    let more = (8 * (index_code a.index % 8) + code_of a.base % 8) ∷ (bytes_of 4 a.displacement ++ rest) in
    let top : eqb (byte / 64) 3 ≡ false = is_not (byte / 64) 3 (omega arith) in
    let top2 : eqb (byte / 64) 2 ≡ true = eq-eqb (byte / 64) 2 (omega arith) in
    let low : eqb (byte % 8) 4 ≡ true = eq-eqb (byte % 8) 4 (omega arith) in
    let field_is : byte / 8 % 8 ≡ field = omega arith in
    let taken = with_sib rex (byte / 8 % 8) more f in
    ap (λ t. cond t (f (byte / 8 % 8) (InRegister (register_of rex.b (byte % 8))) more) (cond (eqb (byte / 64) 2 && eqb (byte % 8) 4) taken None)) top
    ∙ ap₂ (λ s t. cond (s && t) taken None) top2 low
    ∙ ap (λ k. with_sib rex k more f) field_is
    ∙ with_sib_is rex field a rest f h b_is x_is

-- ---- REX

abbrev pub rex_with : ℕ → ℕ → ℕ → ℕ → Rex
rex_with w r x b = record { present = true; w = w; r = r; x = x; b = b }

module _ (w r x b : ℕ) (w_small : w < 2) (r_small : r < 2) (x_small : x < 2) (b_small : b < 2) where
  rex_is : rex_of (rex_byte w r x b) ≡ rex_with w r x b
  rex_is =
      let w_is : rex_byte w r x b / 8 % 2 ≡ w = omega arith in
      let r_is : rex_byte w r x b / 4 % 2 ≡ r = omega arith in
      let x_is : rex_byte w r x b / 2 % 2 ≡ x = omega arith in
      let b_is : rex_byte w r x b % 2 ≡ b = omega arith in
      ap₂ (λ (i j : ℕ). rex_with i j (rex_byte w r x b / 2 % 2) (rex_byte w r x b % 2)) w_is r_is ∙ ap₂ (λ (i j : ℕ). rex_with w r i j) x_is b_is

  pub rex_read : (p : Prefix) (bytes : List ℕ) → decode_rex p (rex_byte w r x b ∷ bytes) ≡ decode_opcode p (rex_with w r x b) bytes
  rex_read p bytes =
      let top : eqb (rex_byte w r x b / 16) 4 ≡ true = eq-eqb (rex_byte w r x b / 16) 4 (omega arith) in
      rw top (ap (λ k. decode_opcode p k bytes) rex_is)

  pub plain_read : (bytes : List ℕ) → decode (rex_byte w r x b ∷ bytes) ≡ decode_opcode Plain (rex_with w r x b) bytes
  plain_read bytes =
      let first : eqb (rex_byte w r x b) 0x66 ≡ false = is_not (rex_byte w r x b) 0x66 (omega arith) in
      let second : eqb (rex_byte w r x b) 0xF3 ≡ false = is_not (rex_byte w r x b) 0xF3 (omega arith) in
      rw (first, second) (rex_read Plain bytes)
