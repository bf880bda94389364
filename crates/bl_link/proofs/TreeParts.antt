-- What a part defines, field by field of the tree.
use Rattle.std.proofs.Common.{◌≡◌, ◌∙◌, sym, ap, subst, ℕ, ◌-◌, List, ◌++◌, length, map, filter_map, Result, Err, arith}
use Rattle.std.specs.List.{enumerate_from, zip}
use Rattle.std.proofs.lemmas.Slice.Zip.{length-zip}
use Rattle.bl_labels.specs.declared.labels.Labels.{Labels}
use Rattle.bl_wasm.specs.Exports.{AreDistinct, Pairs}
use Rattle.bl_wasm.specs.declared.linked.Function.{Function}
use Rattle.bl_wasm.specs.declared.linked.Signature.{Signature}
use Rattle.bl_wasm.specs.declared.linked.Tree.{Tree}
use Rattle.bl_wasm.specs.declared.module.Code.{Code}
use Rattle.bl_wasm.specs.declared.module.Export.{Export}
use Rattle.bl_wasm.specs.declared.module.Module.{Module}
use Rattle.bl_wasm.specs.declared.types.FuncType.{FuncType}
use Rattle.bl_link.specs.Signatures.{signature}
use Rattle.bl_link.specs.LinkAnswers.{Makes}
use Rattle.bl_link.specs.Links.{exported, function, indexed, pair}
use Rattle.bl_link.specs.IndexSpaces.{LinkError, Spaces}
use Rattle.bl_link.specs.declared.error.LinkError.TheVariants.{Memory as NoRoom}

-- the pairs that entries make
abbrev pub pairs_by : List ℕ → Spaces → List Export → Pairs
pairs_by part spaces entries = filter_map (λ entry. pair (exported part spaces entry)) entries

pub distinct_at : (before now : Pairs) (part : List ℕ) (spaces : Spaces) (entries read : List Export) → now ≡ before → read ≡ entries → AreDistinct (before ++ pairs_by part spaces entries) → AreDistinct (now ++ pairs_by part spaces read)
distinct_at before now part spaces entries read n r distinct =
    subst AreDistinct (ap (λ (x : Pairs). x ++ pairs_by part spaces entries) (sym n) ∙ ap (λ (es : List Export). now ++ pairs_by part spaces es) (sym r)) distinct

pub exports_made : (tree : Tree) (now made : Pairs) (part : List ℕ) (spaces : Spaces) (entries read : List Export) → now ≡ tree.exports → read ≡ entries → made ≡ now ++ pairs_by part spaces read
    → ◌≡◌ {A = Tree} (record tree { exports = made }) (record tree { exports = tree.exports ++ pairs_by part spaces entries })
exports_made tree now made part spaces entries read n r is =
    ap (λ (e : Pairs). record tree { exports = e }) (is ∙ ap (λ (x : Pairs). x ++ pairs_by part spaces read) n ∙ ap (λ (es : List Export). tree.exports ++ pairs_by part spaces es) r)

pub code_made : (tree : Tree) (wasm : Module) (bodies : List Code) (marks : Labels) (spaces : Spaces) (types : List Signature) (functions : List Function) (functions_before : List Function) (types_before : List Signature) (n m : ℕ)
    (types_read types_again : List FuncType) (indices : List ℕ) → functions_before ≡ tree.functions → types_before ≡ tree.types → types_read ≡ wasm.types → types_again ≡ wasm.types → indices ≡ wasm.functions
    → n ≡ length spaces.functions → m ≡ length wasm.functions → length wasm.functions ≡ length bodies
    → functions ≡ functions_before ++ map (function types_read marks spaces) (enumerate_from (n - m) (zip indices bodies)) → types ≡ types_before ++ map signature types_again
    → ◌≡◌ {A = Tree} (record tree { types = types; functions = functions })
    (record tree { types = tree.types ++ map signature wasm.types; functions = tree.functions ++ map (function wasm.types marks spaces) (indexed spaces.functions (zip wasm.functions bodies)) })
code_made tree wasm bodies marks spaces types functions functions_before types_before n m types_read types_again indices f t r a i nn mm counts made_functions made_types =
    let first : n - m ≡ length spaces.functions - length (zip wasm.functions bodies) = omega (arith, nn, mm, counts, length-zip wasm.functions bodies) in
    let whole : functions ≡ tree.functions ++ map (function wasm.types marks spaces) (indexed spaces.functions (zip wasm.functions bodies)) =
    made_functions
    ∙ ap (λ (x : List Function). x ++ map (function types_read marks spaces) (enumerate_from (n - m) (zip indices bodies))) f
    ∙ ap (λ (x : List FuncType). tree.functions ++ map (function x marks spaces) (enumerate_from (n - m) (zip indices bodies))) r
    ∙ ap (λ (x : List ℕ). tree.functions ++ map (function wasm.types marks spaces) (enumerate_from (n - m) (zip x bodies))) i
    ∙ ap (λ k. tree.functions ++ map (function wasm.types marks spaces) (enumerate_from k (zip wasm.functions bodies))) first in
    ap (λ (x : List Signature). record tree { types = x; functions = functions }) (made_types ∙ ap (λ (x : List Signature). x ++ map signature types_again) t ∙ ap (λ (x : List FuncType). tree.types ++ map signature x) a)
    ∙ ap (λ (x : List Function). record tree { types = tree.types ++ map signature wasm.types; functions = x }) whole

-- an error is passed on
pub makes_err : {A B : Type 0} (C D : Type 0) (e : LinkError) (x : A) (y : B) (a : Result A LinkError) (b : Result B LinkError) → (a ≡ Err e → b ≡ Err e) → Makes {B = C} (Err e) x a → Makes {B = D} (Err e) y b
makes_err C D NoRoom x y a b f h = tt
makes_err C D e x y a b f h = f h
