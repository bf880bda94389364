-- The numbers of types of functions: equal types have one number, and others another.
use Rattle.std.specs.Prelude.{ℕ, suc, ◌&&◌, if◌then◌else◌, Bool, true, false, List, [], ◌∷◌, ◌++◌, map, Option, Some, None}
use Rattle.std.specs.Cmp.Lexicographic.{pointwise}
use Rattle.bl_base.specs.declared.names.ValueType.{ValueType}
use Rattle.bl_base.specs.declared.names.ValueType.TheVariants.{I32, I64}
use Rattle.bl_wasm.specs.Exports.{Pairs}
use Rattle.bl_wasm.specs.declared.linked.Signature.{Signature}

-- whether two value types are one, and two types of functions
abbrev pub is_same : ValueType → ValueType → Bool
is_same I32 I32 = true
is_same I64 I64 = true
is_same a b = false

abbrev pub is_same_type : Signature → Signature → Bool
is_same_type a b = pointwise is_same a.params b.params && pointwise is_same a.results b.results

-- the place of the first of these types that is equal to one; how many they are where none is
abbrev pub first_of : List Signature → Signature → ℕ
first_of [] type = 0
first_of (other ∷ types) type = if is_same_type other type then 0 else suc (first_of types type)

-- the number of each type: the place of the first one that is equal to it
abbrev pub type_numbers : List Signature → List ℕ
type_numbers types = map (first_of types) types

-- ---- finding equal types

-- a type as a text
abbrev pub letter : ValueType → ℕ
letter I32 = 105
letter I64 = 108

abbrev pub spelled : Signature → List ℕ
spelled type = map letter type.params ++ 58 ∷ map letter type.results

-- texts with their numbers, when a text with that number was looked up: where it had none, it has the next one behind that
abbrev pub with_number : Option ℕ → List ℕ → ℕ → Pairs → Pairs
with_number (Some number) text next pairs = pairs
with_number None text next pairs = pairs ++ (text, next) ∷ []
