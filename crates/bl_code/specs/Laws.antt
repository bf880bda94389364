-- That the spellings of a rule are prefix-free, for the readers of the rules.
use Rattle.std.specs.Prelude.{List, ℕ}
use Rattle.std.proofs.Common.{subst}
use Rattle.bl_leb.proofs.Unsigned.{one_end, one_value}
use Rattle.bl_wasm.specs.Values.{u32}
use Rattle.bl_code.specs.Unique.{PrefixFree}

-- of numbers
pub u32_prefix_free : PrefixFree u32
u32_prefix_free = record {
  same = λ m n. record {
    both = λ a b u v p q e.
        let same = one_end 32 32 a b u v m n p q e in
        (same, one_value 32 b m n (subst (λ (t : List ℕ). u32 m t) same p) q);
  };
}
