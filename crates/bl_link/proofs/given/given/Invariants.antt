use Rattle.std.proofs.Common.{◌≡◌, ◌++◌, Ok, drop, map}
use Rattle.std.specs.List.{enumerate_from}
use Rattle.bl_link.specs.ImportMatches.{all_given, given as given_of}
use Rattle.bl_link.specs.IndexSpaces.{all_ok, on_ok}
use Rattle.bl_link.proofs.given.given.Given as goal

abbrev pub invariant-loop-place : goal.invariant-loop-place
invariant-loop-place l =
    on_ok (all_ok (map (given_of l.store l.wasm l.part) (enumerate_from l.place (drop l.place l.wasm.imports)))) (λ xs. Ok (l.values ++ xs)) ≡ all_given l.store l.wasm l.part
