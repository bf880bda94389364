-- Laws of the limits.
use Rattle.std.proofs.Common.{◌≡◌, ℕ, suc, All, subst, ◌+◌, ◌<◌, List, ◌∷◌, length, drop, get_or, max, Option, Some, None, IsSome, refl, add-one, drop-cons, arith, Bool, true, false, cond}
use Rattle.std.proofs.lemmas.List.Recursion.{is_count_by}
use Rattle.std.specs.Prelude.{count_by}
use Rattle.std.specs.List.{filter_map}
use Rattle.std.specs.Option.{option_or}
use Rattle.bl_wasm.specs.declared.instruction.Instr.{Instr}
use Rattle.bl_wasm.specs.Limits.{Excess, first_in, greatest_depth}
use Rattle.bl_wasm.specs.OpenConstructs.{depth_at}
use Rattle.bl_wasm.specs.Validity.{function_of}
use Rattle.bl_wasm.specs.declared.module.Import.{Import}
use Rattle.bl_wasm.specs.declared.module.ImportKind.{ImportKind}
use Rattle.bl_wasm.specs.declared.module.ImportKind.TheVariants as import

pub greatest_depth_more : (items : List Instr) (places : ℕ) → greatest_depth items (places + 1) ≡ max (greatest_depth items places) (depth_at items places)
greatest_depth_more items places = rw add-one refl

or_found : (a b : Option Excess) → IsSome a → option_or a b ≡ a
or_found (Some x) b is = refl
or_found None b is = cc

pub first_in_found : {A : Type 0} (found : A → Option Excess) (xs : List A) (i : ℕ) (d : A) → i < length xs → IsSome (found (get_or xs i d)) → first_in found (drop i xs) ≡ found (get_or xs i d)
first_in_found found xs i d h is = rw (drop-cons xs i d h) (or_found _ _ is)

pub option_or_assoc : {A : Type 0} (a b c : Option A) → option_or (option_or a b) c ≡ option_or a (option_or b c)
option_or_assoc (Some x) b c = refl
option_or_assoc None b c = refl

pub all_behind : {A : Type 0} (P : A → Type 0) (x : A) (xs ys : List A) → ys ≡ x ∷ xs → All P ys → All P xs
all_behind P x xs ys e h k d less = let whole : All P (x ∷ xs) = subst (λ zs. All P zs) e h in whole (suc k) d (omega arith)

-- an import of a function
abbrev is_function : Import → Bool
is_function entry = elim entry.kind [ import.Function type ↦ true | import.Table type ↦ false | import.Memory type ↦ false | import.Global type ↦ false ]

-- how many functions are imported
imported_count : List Import → ℕ
imported_count imports = length (filter_map (λ entry. function_of entry.kind) imports)

one_counted : (entry : Import) (kind : ImportKind) (imports : List Import)
    → imported_count (record entry { kind = kind } ∷ imports) ≡ cond (is_function (record entry { kind = kind })) (1 + imported_count imports) (imported_count imports)
unfolding imported_count
one_counted entry (import.Function type) imports = omega arith
one_counted entry _ imports = refl

pub imports_counted : (imports : List Import) → length (filter_map (λ entry. function_of entry.kind) imports) ≡ count_by is_function imports
unfolding imported_count
imports_counted imports = is_count_by imported_count is_function refl (λ entry rest. one_counted entry entry.kind rest) imports
