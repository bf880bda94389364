-- Exports of a linked tree are few, and their names are short, where those of its modules are.
use Rattle.std.proofs.Common.{ℕ, suc, ◌+◌, ◌^◌, ◌<◌, ◌≤◌, ◌≡◌, subst, Bool, true, false, List, [], ◌∷◌, length, arith, length-append}
use Rattle.std.specs.Prelude.{Result, Ok, Err, filter_map, fold, if◌then◌else◌, nat_le}
use Rattle.std.specs.List.{All, cons_option, enumerate_from, list_all}
use Rattle.std.proofs.lemmas.List.Elements.{All-append, All-cons, All-head, All-nil, All-tail}
use Rattle.bl_base.specs.Quantity.{limit_of}
use Rattle.bl_base.specs.declared.quantity.Quantity.TheVariants as quantity
use Rattle.bl_wasm.specs.declared.linked.Tree.{Tree}
use Rattle.bl_wasm.specs.declared.module.Export.{Export}
use Rattle.bl_wasm.specs.declared.module.ExportKind.{ExportKind}
use Rattle.bl_wasm.specs.declared.module.ExportKind.TheVariants as export
use Rattle.bl_link.specs.IndexSpaces.{External, LinkError, Part, Spaces, Store, on_ok, spaces_of}
use Rattle.bl_link.specs.Links.{data_fits, element_fits, exported, links, nothing, of_function, pair, reserves, with_given, with_next, with_part, within_reserve}
use Rattle.bl_link.specs.ImportMatches.{all_given}
use Rattle.bl_link.specs.Linkable.{AreFew, HasFewExports, IsShort, IsShortExport}

-- ---- one part

record Made (most : ℕ) (exports : List (List ℕ × ℕ)) : Type 0 where
  few : length exports ≤ most
  names : All IsShort exports

one_made : (kind : ExportKind) (one : List ℕ × ℕ) (most : ℕ) (rest : List (List ℕ × ℕ)) → IsShort one → Made most rest → Made (suc most) (cons_option (of_function kind one) rest)
one_made export.Function one most rest short h = let few = h.few in record { few = omega (arith, few); names = All-cons IsShort one rest short h.names }
one_made export.Table one most rest short h = let few = h.few in record { few = omega (arith, few); names = h.names }
one_made export.Memory one most rest short h = let few = h.few in record { few = omega (arith, few); names = h.names }
one_made export.Global one most rest short h = let few = h.few in record { few = omega (arith, few); names = h.names }

all_made : (name : List ℕ) (spaces : Spaces) (entries : List Export) → length name < 2 ^ 63 → All IsShortExport entries → Made (length entries) (filter_map (λ entry. pair (exported name spaces entry)) entries)
all_made name spaces [] short h = record { few = omega arith; names = All-nil IsShort }
all_made name spaces (entry ∷ entries) short h =
    let here = All-head IsShortExport entry entries h in
    let one = exported name spaces entry in
    one_made entry.kind (one.0, one.1.number) (length entries) (filter_map (λ entry. pair (exported name spaces entry)) entries) (omega (arith, short, here, length-append name (0x2F ∷ entry.name)))
    (all_made name spaces entries short (All-tail IsShortExport entry entries h))

-- ---- results

abbrev Holds : {A : Type 0} → (A → Type 0) → Result A LinkError → Type 0
Holds P (Ok x) = P x
Holds P (Err e) = Unit {0}

then_holds : {A B : Type 0} (P : A → Type 0) (Q : B → Type 0) (r : Result A LinkError) (next : A → Result B LinkError) → Holds P r → ((x : A) → P x → Holds Q (next x)) → Holds Q (on_ok r next)
then_holds P Q (Ok x) next h gives = gives x h
then_holds P Q (Err e) next h gives = tt

any_holds : {A : Type 0} (r : Result A LinkError) → Holds (λ x. Unit {0}) r
any_holds (Ok x) = tt
any_holds (Err e) = tt

if_holds : {A : Type 0} (P : A → Type 0) (test : Bool) (r : Result A LinkError) (e : LinkError) → Holds P r → Holds P (if test then r else Err e)
if_holds P true r e h = h
if_holds P false r e h = tt

-- ---- all parts

abbrev Kept : ℕ → Store → Type 0
Kept parts store = AreFew parts store.tree.exports

part_kept : (parts number : ℕ) (store : Store) (part : Part) (given : List External) → HasFewExports part → Kept parts store → Holds (Kept (suc parts)) (with_given store (number, part) given)
part_kept parts number store part given is h =
    let spaces = spaces_of store part.wasm given in
    let behind = with_part store part spaces in
    let made = all_made part.name spaces part.wasm.exports is.name is.names in
    let count = is.few in
    let few = h.few in
    let more = made.few in
    let all : AreFew (suc parts) behind.tree.exports = record {
      few = omega (arith, few, count, more, length-append store.tree.exports (filter_map (λ entry. pair (exported part.name spaces entry)) part.wasm.exports));
      names = All-append IsShort store.tree.exports (filter_map (λ entry. pair (exported part.name spaces entry)) part.wasm.exports) h.names made.names;
    } in
    if_holds (Kept (suc parts)) (list_all (element_fits behind.tree.globals spaces behind.tree.tables) part.wasm.elements) _ _
    (if_holds (Kept (suc parts)) (list_all (data_fits behind.tree.globals spaces behind.tree.memories) part.wasm.segments) (Ok _) _ all)

next_kept : (parts number : ℕ) (so_far : Result Store LinkError) (part : Part) → HasFewExports part → Holds (Kept parts) so_far → Holds (Kept (suc parts)) (with_next so_far (number, part))
next_kept parts number so_far part is h =
    then_holds (Kept parts) (Kept (suc parts)) so_far _ h (λ store kept.
    then_holds (λ given. Unit {0}) (Kept (suc parts)) (all_given store part.wasm number) (with_given store (number, part)) (any_holds (all_given store part.wasm number)) (λ given any. part_kept parts number store part given is kept))

all_kept : (done number : ℕ) (parts : List Part) (so_far : Result Store LinkError) → All HasFewExports parts → Holds (Kept done) so_far → Holds (Kept (done + length parts)) (fold with_next so_far (enumerate_from number parts))
all_kept done number [] so_far are h = let e : done + 0 ≡ done = omega arith in rw e h
all_kept done number (part ∷ parts) so_far are h =
    let rest = all_kept (suc done) (number + 1) parts (with_next so_far (number, part)) (All-tail HasFewExports part parts are) (next_kept done number so_far part (All-head HasFewExports part parts are) h) in
    let e : suc done + length parts ≡ done + suc (length parts) = omega arith in
    rw e at rest

abbrev TreeKept : ℕ → Tree → Type 0
TreeKept parts tree = AreFew parts tree.exports

few_exports : (parts : List Part) → All HasFewExports parts → Holds (TreeKept (length parts)) (links parts)
few_exports parts are =
    let all = all_kept 0 0 parts (Ok nothing) are (record { few = omega arith; names = All-nil IsShort }) in
    let e : 0 + length parts ≡ length parts = omega arith in
    then_holds (Kept (length parts)) (TreeKept (length parts)) (fold with_next (Ok nothing) (enumerate_from 0 parts)) within_reserve (rw e at all)
    (λ store kept. if_holds (TreeKept (length parts)) (nat_le (reserves store.tree) (limit_of quantity.Reserve)) (Ok store.tree) _ kept)

pub of_links : (parts : List Part) (tree : Tree) → All HasFewExports parts → links parts ≡ Ok tree → AreFew (length parts) tree.exports
of_links parts tree are e = subst (Holds (TreeKept (length parts))) e (few_exports parts are)
