-- The names of modules, by their files.
use Rattle.std.specs.Prelude.{◌≡◌, ℕ, ◌-◌, List, length, take, drop, slice_get, Some, nat_eq, codes, if◌then◌else◌}
use Rattle.std.specs.List.{after_last}
use Rattle.std.specs.Str.{bytes_eq}

-- a name without one final `.wasm`
abbrev pub without_ending : List ℕ → List ℕ
without_ending name =
    let front = length name - 5 in
    (if bytes_eq (drop front name) (codes ".wasm") then take front name else name)

-- the name of the module in a file: what stands behind the last `/` of its word, without one final
-- `.wasm`
abbrev pub module_name : List ℕ → List ℕ
module_name word = without_ending (after_last (nat_eq 47) word)

-- no two modules have one name
pub record AreNamedApart (words : List (List ℕ)) : Type 0 where
  pub apart : (i j : ℕ) (a b : List ℕ) → slice_get words i ≡ Some a → slice_get words j ≡ Some b → module_name a ≡ module_name b → i ≡ j
