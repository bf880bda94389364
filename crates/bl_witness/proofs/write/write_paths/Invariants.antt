use Rattle.std.proofs.Common.{◌≡◌, ◌++◌, drop, flat_map}
use Rattle.bl_witness.specs.Tokens.{path_tokens}
use Rattle.bl_witness.proofs.write.write_paths.Given as goal

abbrev pub invariant-loop-path : goal.invariant-loop-path
invariant-loop-path l =
    (l.out.before ≡ l.initial.out.before)
    × (l.out.tokens ++ flat_map path_tokens (drop l.path-index l.paths) ≡ l.initial.out.tokens ++ flat_map path_tokens l.paths)
