-- Small spellings: one after another, a byte, a number of one byte, one element.
use Rattle.std.proofs.Common.{◌≡◌, ℕ, ◌<◌, List, [], ◌∷◌, ◌++◌, append-nil, refl, sym, arith}
use Rattle.bl_leb.specs.Grammar.{Spellings, ◌⨾◌, byte}
use Rattle.bl_wasm.specs.Values.{u32, vec}

-- a spelling of the first, and then one of the second
pub both : {First Second : Spellings} (front rest : List ℕ) → First front → Second rest → (First ⨾ Second) (front ++ rest)
both front rest first second = record { front = front; rest = rest; whole = refl; first = first; second = second }

-- a byte, and then a spelling
pub after : {n : ℕ} {Second : Spellings} (rest : List ℕ) → Second rest → (byte n ⨾ Second) (n ∷ rest)
after {n} rest second = both (n ∷ []) rest refl second

-- a number below 128 in one byte
pub small : (n : ℕ) → n < 128 → u32 n (n ∷ [])
small n lt = (omega (arith, lt), omega (arith, lt), refl)

-- one element behind the count
pub single : {A : Type 0} (B : A → Spellings) (x : A) (bytes : List ℕ) → B x bytes → vec B (x ∷ []) (1 ∷ bytes)
single B x bytes spelled = both (1 ∷ []) bytes (small 1 (omega arith)) (record { front = bytes; rest = []; whole = sym (append-nil bytes); first = spelled; second = refl })
