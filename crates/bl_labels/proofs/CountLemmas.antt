-- Imports of a kind are counted.
use Rattle.std.proofs.Common.{◌≡◌, ◌∙◌, ap, sym, ℕ, ◌+◌, ◌<◌, ◌≤◌, List, [], ◌∷◌, ◌++◌, length, drop, get_or, filter_map, arith, Option, Some, None}
use Rattle.std.specs.List.{cons_option}
use Rattle.std.proofs.lemmas.List.{drop_all, drop_more}
use Rattle.bl_wasm.specs.declared.module.Import.{Import}
use Rattle.bl_wasm.specs.declared.module.ImportKind.{ImportKind}
use Rattle.bl_wasm.specs.Validity.{functions_of, function_of, global_of, imported, memory_of}
use Rattle.bl_wasm.specs.declared.module.Module.{Module}
use Rattle.bl_labels.specs.Faults.{count, spaces_of}
use Rattle.bl_labels.specs.declared.spaces.Spaces.{Spaces}

pub record Counted {A : Type 0} (kind : ImportKind → Option A) (imports : List Import) (i so_far : ℕ) : Type 0 where
  pub few : so_far ≤ i
  pub left : so_far + length (filter_map (λ (e : Import). kind e.kind) (drop i imports)) ≡ length (filter_map (λ (e : Import). kind e.kind) imports)

pub begins : {A : Type 0} (kind : ImportKind → Option A) (imports : List Import) → Counted kind imports 0 0
begins kind imports = record { few = omega arith; left = omega arith }

pub at_most_one : {A : Type 0} (o : Option A) → count o ≤ 1
at_most_one None = omega arith
at_most_one (Some x) = omega arith

one_more : {A : Type 0} (o : Option A) (xs : List A) → length (cons_option o xs) ≡ count o + length xs
one_more None xs = omega arith
one_more (Some x) xs = omega arith

pub goes_on : {A : Type 0} (kind : ImportKind → Option A) (imports : List Import) (i so_far : ℕ) (entry : Import) (one : ℕ) → i < length imports → entry ≡ get_or imports i entry → one ≡ count (kind entry.kind)
    → Counted kind imports i so_far → Counted kind imports (i + 1) (so_far + one)
goes_on kind imports i so_far entry one below is counted c =
    let next : length (filter_map (λ (e : Import). kind e.kind) (drop i imports)) ≡ one + length (filter_map (λ (e : Import). kind e.kind) (drop (i + 1) imports)) =
    ap (λ l. length (filter_map (λ (e : Import). kind e.kind) l)) (drop_more imports i entry below)
    ∙ ap (λ (x : Import). length (cons_option (kind x.kind) (filter_map (λ (e : Import). kind e.kind) (drop (i + 1) imports)))) (sym is)
    ∙ one_more (kind entry.kind) (filter_map (λ (e : Import). kind e.kind) (drop (i + 1) imports))
    ∙ ap (λ n. n + length (filter_map (λ (e : Import). kind e.kind) (drop (i + 1) imports))) (sym counted) in
    record { few = omega (arith, c.few, counted, at_most_one (kind entry.kind)); left = omega (arith, c.left, next) }

filtered : {A : Type 0} (kind : ImportKind → Option A) (imports : List Import) → length (filter_map (λ (e : Import). kind e.kind) imports) ≤ length imports
filtered kind [] = omega arith
filtered kind (entry ∷ imports) = omega (arith, one_more (kind entry.kind) (filter_map (λ (e : Import). kind e.kind) imports), at_most_one (kind entry.kind), filtered kind imports)

pub record All {A : Type 0} (kind : ImportKind → Option A) (imports : List Import) (so_far : ℕ) : Type 0 where
  pub is : so_far ≡ length (filter_map (λ (e : Import). kind e.kind) imports)
  pub few : so_far ≤ length imports

pub all : {A : Type 0} (kind : ImportKind → Option A) (imports : List Import) (i so_far : ℕ) → length imports ≤ i → Counted kind imports i so_far → All kind imports so_far
all kind imports i so_far past c =
    let none : length (filter_map (λ (e : Import). kind e.kind) (drop i imports)) ≡ 0 = ap (λ l. length (filter_map (λ (e : Import). kind e.kind) l)) (drop_all i imports past) in
    record { is = omega (arith, c.left, none); few = omega (arith, c.left, none, filtered kind imports) }

-- ---- all spaces

abbrev by_parts : List ℕ → ℕ → ℕ → ℕ → ℕ → ℕ → Spaces
by_parts functions a b c d e = record { functions = functions; imported_functions = a; imported_globals = b; globals = c; imported_memories = d; memories = e }

pub spaces_made : (tree : Module) (read : List Import) (defined functions first : List ℕ) (a b c d e : ℕ) → read ≡ tree.imports → defined ≡ tree.functions → first ≡ filter_map (λ (x : Import). function_of x.kind) read → functions ≡ first ++ defined
    → a ≡ length first → b ≡ length (filter_map (λ (x : Import). global_of x.kind) read) → c ≡ length tree.globals → d ≡ length (filter_map (λ (x : Import). memory_of x.kind) read) → e ≡ length tree.memories
    → by_parts functions a b c d e ≡ spaces_of tree
spaces_made tree read defined functions first a b c d e r dd im fm aa bb cc_ d_ ee =
    let all : first ≡ imported function_of tree = im ∙ ap (λ (rs : List Import). filter_map (λ (x : Import). function_of x.kind) rs) r in
    ap (λ x. by_parts x a b c d e) (fm ∙ ap (λ x. x ++ defined) all ∙ ap (λ x. imported function_of tree ++ x) dd)
    ∙ ap (λ x. by_parts (functions_of tree) x b c d e) (aa ∙ ap length all)
    ∙ ap (λ x. by_parts (functions_of tree) (length (imported function_of tree)) x c d e) (bb ∙ ap (λ (rs : List Import). length (filter_map (λ (x : Import). global_of x.kind) rs)) r)
    ∙ ap (λ x. by_parts (functions_of tree) (length (imported function_of tree)) (length (imported global_of tree)) x d e) cc_
    ∙ ap (λ x. by_parts (functions_of tree) (length (imported function_of tree)) (length (imported global_of tree)) (length tree.globals) x e) (d_ ∙ ap (λ (rs : List Import). length (filter_map (λ (x : Import). memory_of x.kind) rs)) r)
    ∙ ap (λ x. by_parts (functions_of tree) (length (imported function_of tree)) (length (imported global_of tree)) (length tree.globals) (length (imported memory_of tree)) x) ee
