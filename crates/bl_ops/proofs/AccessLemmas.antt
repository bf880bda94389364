-- What is so of each access.
use Rattle.std.proofs.Common.{◌≡◌, ℕ, ◌≤◌, Some, refl, arith}
use Rattle.bl_ops.specs.Access.{access_code, access_kind, width_of}
use Rattle.bl_ops.specs.declared.access.AccessKind.{AccessKind}
use Rattle.bl_ops.specs.declared.access.AccessKind.TheVariants.{I32Load}

-- an access is that of its code
pub access_found : (kind : AccessKind) → access_kind (access_code kind) ≡ Some kind
access_found kind = elim kind as (λ (k : AccessKind). access_kind (access_code k) ≡ Some k) [ I32Load ↦ refl | _ ↦ refl ]

-- it takes at most 8 bytes
pub width_small : (kind : AccessKind) → width_of kind ≤ 8
width_small kind = elim kind as (λ k. width_of k ≤ 8) [ I32Load ↦ omega arith | _ ↦ omega arith ]
