-- The spaces of a module, read import by import.
use Rattle.std.proofs.Common.{◌≡◌, ◌∙◌, sym, ap, refl, ℕ, ◌+◌, ◌<◌, ◌++◌, List, [], ◌∷◌, length, take, get_or, append_assoc, arith, Option, filter_map}
use Rattle.std.proofs.lemmas.List.{take_more, append-nil}
use Rattle.std.proofs.lemmas.List.Elements.{filter_map-append}
use Rattle.bl_wasm.specs.declared.module.Import.{Import}
use Rattle.bl_validate.specs.declared.scope.Scope.{Scope}
use Rattle.bl_validate.specs.Scopes.{Imports}

-- no import
pub imports_none : (scope : Scope) → Imports scope [] scope
imports_none scope = record {
  types = refl;
  functions = sym (append-nil _);
  tables = sym (append-nil _);
  memories = sym (append-nil _);
  globals = sym (append-nil _);
}

-- one space, through imports and then through more
space_more : {X Y : Type 0} (h : X → Option Y) (xs ys : List X) (a b c : List Y) → b ≡ a ++ filter_map h xs → c ≡ b ++ filter_map h ys → c ≡ a ++ filter_map h (xs ++ ys)
space_more h xs ys a b c first then = grind (arith, filter_map-append h xs ys, append_assoc)

-- imports, and then more
pub imports_more : {a b c : Scope} {xs ys : List Import} → Imports a xs b → Imports b ys c → Imports a (xs ++ ys) c
imports_more {xs = xs} {ys = ys} first then = record {
  types = then.types ∙ first.types;
  functions = space_more _ xs ys _ _ _ first.functions then.functions;
  tables = space_more _ xs ys _ _ _ first.tables then.tables;
  memories = space_more _ xs ys _ _ _ first.memories then.memories;
  globals = space_more _ xs ys _ _ _ first.globals then.globals;
}

-- one import more of a list
pub imports_next : {a b c : Scope} (entries : List Import) (i : ℕ) (entry : Import) → i < length entries → entry ≡ get_or entries i entry → Imports a (take i entries) b → Imports b (entry ∷ []) c → Imports a (take (i + 1) entries) c
imports_next entries i entry below same first then =
    let e : take (i + 1) entries ≡ take i entries ++ entry ∷ [] = take_more entries i entry below ∙ ap (λ x. take i entries ++ x ∷ []) (sym same) in
    rw e (imports_more first then)

-- a space: what is imported, and then what is defined
pub space_whole : {X Y : Type 0} (h : X → Option Y) {xs imports : List X} {ys defined a b c : List Y} → a ≡ [] → xs ≡ imports → b ≡ a ++ filter_map h xs → ys ≡ defined → c ≡ b ++ ys → c ≡ filter_map h imports ++ defined
space_whole h none same first also then = rw (then, first, none, same, also) refl

-- what is imported
pub space_imported : {X Y : Type 0} (h : X → Option Y) {xs imports : List X} {a b : List Y} → a ≡ [] → xs ≡ imports → b ≡ a ++ filter_map h xs → length b ≡ length (filter_map h imports)
space_imported h none same first = rw (first, none, same) refl
