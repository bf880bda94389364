-- The kinds of accesses to memory (WebAssembly 1.0, sections 2.4.4, 4.4.4 and 5.4.4).
use Rattle.std.specs.Prelude.{ℕ, ◌*◌, ◌==◌, Bool, true, false, List, [], ◌∷◌, find, Option}
use Rattle.bl_base.specs.declared.names.ValueType.{ValueType}
use Rattle.bl_base.specs.declared.names.ValueType.TheVariants.{I32, I64}
use Rattle.bl_ops.specs.Integer.{iextend_s, iextend_u, iwrap}
use Rattle.bl_ops.specs.declared.access.AccessKind.{AccessKind}
use Rattle.bl_ops.specs.declared.access.AccessKind.TheVariants.{I32Load, I64Load, I32Load8S, I32Load8U, I32Load16S, I32Load16U, I64Load8S, I64Load8U, I64Load16S, I64Load16U, I64Load32S, I64Load32U, I32Store, I64Store, I32Store8, I32Store16, I64Store8, I64Store16, I64Store32}

-- whether an access loads, and how it extends what it read; or whether it stores
pub data Way : Type 0 where
  Load : Way
  LoadSigned : Way
  Store : Way

-- an access: its code, the type of its value, its width in bytes
pub record Access : Type 0 where
  pub code : ℕ
  pub type : ValueType
  pub width : ℕ
  pub way : Way

-- an access by its fields
abbrev pub access : ℕ → ValueType → ℕ → Way → Access
access code type width way = record { code = code; type = type; width = width; way = way }

-- the accesses
abbrev pub access_of : AccessKind → Access
access_of I32Load = access 0x28 I32 4 Load
access_of I64Load = access 0x29 I64 8 Load
access_of I32Load8S = access 0x2C I32 1 LoadSigned
access_of I32Load8U = access 0x2D I32 1 Load
access_of I32Load16S = access 0x2E I32 2 LoadSigned
access_of I32Load16U = access 0x2F I32 2 Load
access_of I64Load8S = access 0x30 I64 1 LoadSigned
access_of I64Load8U = access 0x31 I64 1 Load
access_of I64Load16S = access 0x32 I64 2 LoadSigned
access_of I64Load16U = access 0x33 I64 2 Load
access_of I64Load32S = access 0x34 I64 4 LoadSigned
access_of I64Load32U = access 0x35 I64 4 Load
access_of I32Store = access 0x36 I32 4 Store
access_of I64Store = access 0x37 I64 8 Store
access_of I32Store8 = access 0x3A I32 1 Store
access_of I32Store16 = access 0x3B I32 2 Store
access_of I64Store8 = access 0x3C I64 1 Store
access_of I64Store16 = access 0x3D I64 2 Store
access_of I64Store32 = access 0x3E I64 4 Store

-- the byte of an access in the binary format
abbrev pub access_code : AccessKind → ℕ
access_code kind = (access_of kind).code

-- the type of its value
abbrev pub access_type : AccessKind → ValueType
access_type kind = (access_of kind).type

-- how many bytes it reads or writes
abbrev pub width_of : AccessKind → ℕ
width_of kind = (access_of kind).width

-- whether an access of that way loads
abbrev pub loads : Way → Bool
loads Load = true
loads LoadSigned = true
loads Store = false

-- whether an access is a load
abbrev pub is_load : AccessKind → Bool
is_load kind = loads (access_of kind).way

-- the number of bits of a type
abbrev pub bits_of : ValueType → ℕ
bits_of I32 = 32
bits_of I64 = 64

-- a number of m bits, extended to n bits
abbrev pub extended_by : Way → ℕ → ℕ → ℕ → ℕ
extended_by Load m n bytes = iextend_u m n bytes
extended_by LoadSigned m n bytes = iextend_s m n bytes
extended_by Store m n bytes = iextend_u m n bytes

-- the value that a load makes of the number that its bytes are, little endian
abbrev pub extended : AccessKind → ℕ → ℕ
extended kind bytes = extended_by (access_of kind).way (8 * width_of kind) (bits_of (access_type kind)) bytes

-- the number that the bytes of a store are, little endian
abbrev pub narrowed : AccessKind → ℕ → ℕ
narrowed kind value = iwrap (8 * width_of kind) value

-- the kinds in the order of their codes
abbrev pub kinds : List AccessKind
kinds = I32Load ∷ I64Load ∷ I32Load8S ∷ I32Load8U ∷ I32Load16S ∷ I32Load16U ∷ I64Load8S ∷ I64Load8U ∷ I64Load16S ∷ I64Load16U ∷
    I64Load32S ∷ I64Load32U ∷ I32Store ∷ I64Store ∷ I32Store8 ∷ I32Store16 ∷ I64Store8 ∷ I64Store16 ∷ I64Store32 ∷ []

-- the kind of a code, where there is one
abbrev pub access_kind : ℕ → Option AccessKind
access_kind code = find (λ kind. access_code kind == code) kinds
