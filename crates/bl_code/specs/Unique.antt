-- Prefix-free grammars (WebAssembly 1.0, section 5.1.1).
use Rattle.std.specs.Prelude.{◌≡◌, ℕ, List, ◌++◌}
use Rattle.bl_leb.specs.Grammar.{Spellings}

-- where a spelling of the first and one of the second begin the same bytes, they are one, and P holds
pub record Same (First Second : Spellings) (P : Type 0) : Type 0 where
  pub both : (a b u v : List ℕ) → First a → Second b → a ++ u ≡ b ++ v → (a ≡ b) × P

-- bytes begin with at most one spelling, and it spells one thing
pub record PrefixFree {A : Type 0} (B : A → Spellings) : Type 0 where
  pub same : (x y : A) → Same (B x) (B y) (x ≡ y)
