-- The texts of some outcomes, worked out.
use Rattle.std.proofs.Common.{◌≡◌, [], ◌∷◌, ◌++◌, refl}
use Rattle.std.specs.Prelude.{codes, replicate, Some, None}
use Rattle.std.specs.Fmt.{digits}
use Rattle.bl_base.specs.Runs.{MemoryState, returned, trapped}
use Rattle.bl_base.specs.declared.names.ValueType.TheVariants.{I32, I64}
use Rattle.bl_base.specs.declared.trap.Trap.TheVariants.{Overflow}
use Rattle.bl_outcome.specs.Lines.{line}
use Rattle.bl_outcome.specs.Outcomes.{outcome_text}

-- 16 bytes of 0, as a memory whose pages are shorter than any
abbrev small : MemoryState
small = record { pages = 1; bytes = replicate 16 0 }

-- grown by one such page, in which the first byte is 1
abbrev grown : MemoryState
grown = record { pages = 2; bytes = replicate 16 0 ++ 1 ∷ replicate 15 0 }

-- the same, with the byte 171 in its second page before
abbrev marked : MemoryState
marked = record { pages = 2; bytes = replicate 30 0 ++ 171 ∷ 0 ∷ [] }

two_results : outcome_text (I32 ∷ I64 ∷ []) [] 9 (Some (returned (4294967295 ∷ 7 ∷ []) [])) ≡ line (codes "returned i32 4294967295 i64 7")
unfolding digits
two_results = refl

spent : outcome_text (I32 ∷ []) [] 4 None ≡ line (codes "spent 4")
unfolding digits
spent = refl

unchanged : outcome_text [] (small ∷ []) 9 (Some (trapped Overflow (small ∷ []))) ≡ line (codes "trapped integer overflow") ++ line (codes "memory 0 pages 1")
unfolding digits
unchanged = refl

-- what lies past the first pages was zero
changed : outcome_text (I32 ∷ []) (small ∷ []) 9 (Some (returned (1 ∷ []) (grown ∷ [])))
    ≡ line (codes "returned i32 1") ++ line (codes "memory 0 pages 2") ++ line (codes "row 0 16 01000000000000000000000000000000")
unfolding digits
changed = refl

-- each row is held against that of the same memory, and told as it is at the end
second : outcome_text [] (small ∷ marked ∷ []) 9 (Some (returned [] (small ∷ grown ∷ [])))
    ≡ line (codes "returned") ++ line (codes "memory 0 pages 1") ++ line (codes "memory 1 pages 2") ++ line (codes "row 1 16 01000000000000000000000000000000")
unfolding digits
second = refl

-- digits from a to f are lower-case
hexadecimal : outcome_text [] (grown ∷ []) 9 (Some (returned [] (marked ∷ [])))
    ≡ line (codes "returned") ++ line (codes "memory 0 pages 2") ++ line (codes "row 0 16 0000000000000000000000000000ab00")
unfolding digits
hexadecimal = refl
