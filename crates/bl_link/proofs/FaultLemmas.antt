-- A fault of linking names one of the parts, and isn't want of memory.
use Rattle.std.proofs.Common.{◌≡◌, ℕ, ◌+◌, ◌<◌, ◌≤◌, Bool, true, false, List, [], ◌∷◌, length, map, Option, Some, None, Result, Ok, Err, subst, arith}
use Rattle.std.specs.Prelude.{fold, nat_le, if◌then◌else◌}
use Rattle.std.specs.List.{enumerate_from, list_all}
use Rattle.bl_base.specs.Quantity.{limit_of}
use Rattle.bl_base.specs.declared.quantity.Quantity.TheVariants.{Reserve}
use Rattle.bl_wasm.specs.declared.module.ElementSegment.{ElementSegment}
use Rattle.bl_wasm.specs.declared.module.DataSegment.{DataSegment}
use Rattle.bl_wasm.specs.declared.module.Import.{Import}
use Rattle.bl_wasm.specs.declared.module.Module.{Module}
use Rattle.bl_link.specs.Faults.{NamesPart}
use Rattle.bl_link.specs.Links.{data_fits, element_fits, initialised, links, nothing, reserves, with_given, with_next, with_part, with_segments, within_reserve}
use Rattle.bl_link.specs.ImportMatches.{all_given, given, given_of, matches, named}
use Rattle.bl_link.specs.declared.error.LinkError.TheVariants.{Memory}
use Rattle.bl_link.specs.IndexSpaces.{DataRange, ElementRange, External, Limit, LinkError, Mismatch, Part, Spaces, Store, all_ok, on_ok, spaces_of}

-- a fault that isn't want of memory
abbrev IsWrong : LinkError → Type 0
IsWrong Memory = ⊥
IsWrong other = Unit {0}

module _ (count : ℕ) where
  -- where there is a fault, it names a part, and isn't want of memory
  abbrev IfFault : {A : Type 0} → Result A LinkError → Type 0
  IfFault (Ok x) = Unit {0}
  IfFault (Err fault) = NamesPart count fault × IsWrong fault

  of_if : {A : Type 0} (test : Bool) (x y : Result A LinkError) → IfFault x → IfFault y → IfFault (if test then x else y)
  of_if true x y p q = p
  of_if false x y p q = q

  then_ok : {A B : Type 0} (first : Result A LinkError) (next : A → Result B LinkError) → IfFault first → ((a : A) → IfFault (next a)) → IfFault (on_ok first next)
  then_ok (Ok a) next p q = q a
  then_ok (Err fault) next p q = p

  module _ (store : Store) (wasm : Module) (part : ℕ) (is : part < count) where
    given_names : (wanted : ℕ × Import) (found : Option External) → IfFault (given_of store wasm part wanted found)
    given_names wanted None = (is, tt)
    given_names wanted (Some value) = of_if (matches store wasm wanted.1.kind value.kind value.number) (Ok value) (Err (Mismatch part wanted.0)) tt (is, tt)

    givens_name : (wanted : List (ℕ × Import)) → IfFault (all_ok (map (given store wasm part) wanted))
    givens_name [] = tt
    givens_name (first ∷ later) =
        then_ok (given store wasm part first) (λ x. on_ok (all_ok (map (given store wasm part) later)) (λ xs. Ok (x ∷ xs))) (given_names first (named store first.1))
        (λ x. then_ok (all_ok (map (given store wasm part) later)) (λ xs. Ok (x ∷ xs)) (givens_name later) (λ xs. tt))

  segments_name : (elements : List ElementSegment) (segments : List DataSegment) (spaces : Spaces) (part : ℕ) (store : Store) → part < count → IfFault (with_segments elements segments spaces part store)
  segments_name elements segments spaces part store is =
      of_if (list_all (element_fits store.tree.globals spaces store.tree.tables) elements)
      (if list_all (data_fits store.tree.globals spaces store.tree.memories) segments then Ok (record store { tree = initialised elements segments spaces store.tree }) else Err (DataRange part))
      (Err (ElementRange part))
      (of_if (list_all (data_fits store.tree.globals spaces store.tree.memories) segments) (Ok (record store { tree = initialised elements segments spaces store.tree })) (Err (DataRange part)) tt (is, tt))
      (is, tt)

  next_names : (so_far : Result Store LinkError) (next : ℕ × Part) → IfFault so_far → next.0 < count → IfFault (with_next so_far next)
  next_names so_far next p is =
      then_ok so_far (λ store. on_ok (all_given store next.1.wasm next.0) (with_given store next)) p
      (λ store. then_ok (all_given store next.1.wasm next.0) (with_given store next) (givens_name store next.1.wasm next.0 is (enumerate_from 0 next.1.wasm.imports))
      (λ values. segments_name next.1.wasm.elements next.1.wasm.segments (spaces_of store next.1.wasm values) next.0 (with_part store next.1 (spaces_of store next.1.wasm values)) is))

  fold_names : (number : ℕ) (rest : List Part) (so_far : Result Store LinkError) → IfFault so_far → number + length rest ≤ count → IfFault (fold with_next so_far (enumerate_from number rest))
  fold_names number [] so_far p within = p
  fold_names number (part ∷ rest) so_far p within =
      fold_names (number + 1) rest (with_next so_far (number, part)) (next_names so_far (number, part) p (omega (arith, within))) (omega (arith, within))

links_fault : (parts : List Part) → IfFault (length parts) (links parts)
links_fault parts =
    then_ok (length parts) (fold with_next (Ok nothing) (enumerate_from 0 parts)) within_reserve (fold_names (length parts) 0 parts (Ok nothing) tt (omega arith))
    (λ store. of_if (length parts) (nat_le (reserves store.tree) (limit_of Reserve)) (Ok store.tree) (Err (Limit Reserve (reserves store.tree))) tt (tt, tt))

-- the fault of parts names one of them
pub faults_name_parts : (parts : List Part) (fault : LinkError) → links parts ≡ Err fault → NamesPart (length parts) fault
faults_name_parts parts fault e = let is = subst (IfFault (length parts)) e (links_fault parts) in is.0

-- and isn't want of memory
pub memory_is_no_fault : (parts : List Part) → links parts ≡ Err Memory → ⊥
memory_is_no_fault parts e = let is = subst (IfFault (length parts)) e (links_fault parts) in is.1
