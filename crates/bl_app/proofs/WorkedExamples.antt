-- The definitions on words, and on one worked module: a function that adds 1 to its parameter.
use Rattle.std.proofs.Common.{◌≡◌, [], ◌∷◌, ◌++◌, refl, codes, Some, None}
use Rattle.std.specs.Fmt.{digits}
use Rattle.bl_lower.specs.Trees.{low_tree}
use Rattle.bl_text.specs.Names.{module_name}
use Rattle.bl_words.specs.Requests.{harden, lower, request_of}
use Rattle.bl_app.specs.Texts.{commands_text}
use Rattle.bl_build.proofs.WorkedExamples.{tree}

counted : commands_text (low_tree tree) ≡ codes "commands 13" ++ 10 ∷ []
unfolding digits
counted = refl

part : module_name (codes "a/b/inc.wasm") ≡ codes "inc"
part = refl

bare_part : module_name (codes "wasm") ≡ codes "wasm"
bare_part = refl

words : request_of (codes "blade" ∷ codes "harden" ∷ codes "a" ∷ codes "b" ∷ codes "c" ∷ []) ≡ Some (harden (record { image = codes "a"; certificate = codes "b"; modules = codes "c" ∷ []; counts = None }))
words = refl

same_words : request_of (codes "blade" ∷ codes "harden" ∷ codes "a" ∷ codes "a" ∷ codes "c" ∷ []) ≡ None
same_words = refl

lower_words : request_of (codes "blade" ∷ codes "lower" ∷ codes "a" ∷ codes "c" ∷ []) ≡ Some (lower (record { image = codes "a"; modules = codes "c" ∷ [] }))
lower_words = refl

two_modules : request_of (codes "blade" ∷ codes "lower" ∷ codes "a" ∷ codes "x/b.wasm" ∷ codes "c" ∷ []) ≡ Some (lower (record { image = codes "a"; modules = codes "x/b.wasm" ∷ codes "c" ∷ [] }))
two_modules = refl

one_name_twice : request_of (codes "blade" ∷ codes "lower" ∷ codes "a" ∷ codes "x/b.wasm" ∷ codes "b" ∷ []) ≡ None
one_name_twice = refl
