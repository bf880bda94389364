-- What is open at the places of a body that nests.
use Rattle.std.proofs.Common.{◌≡◌, ℕ, zero, suc, ◌+◌, ◌<◌, List, [], ◌∷◌, length, take, get_or, Option, Some, ap, ◌∙◌, refl, add-one, arith}
use Rattle.std.specs.Prelude.{option_and_then, unwrap_or}
use Rattle.bl_wasm.specs.Instructions.{Nests}
use Rattle.bl_wasm.specs.OpenConstructs.{Construct, open_behind, open_through, depth_at, Closes}
use Rattle.bl_wasm.specs.declared.instruction.Instr.{Instr}
use Rattle.bl_wasm.proofs.OpenConstructLemmas.{closes}

-- what is open before the item at a place and behind it
pub record Passes (items : List Instr) (st : List Construct) (place : ℕ) (item : Instr) : Type 0 where
  pub before : List Construct
  pub behind : List Construct
  pub reached : open_through (take place items) st ≡ Some before
  pub passed : open_behind item before ≡ Some behind
  pub reached_next : open_through (take (suc place) items) st ≡ Some behind

passes_at : (items : List Instr) (st : List Construct) (place : ℕ) (d : Instr) → Closes st items → place < length items → Passes items st place (get_or items place d)
passes_at [] st place d h inside = absurd (omega arith)
passes_at (x ∷ xs) st zero d h inside = record { before = st; behind = h.0; reached = refl; passed = h.1; reached_next = ap (option_and_then (open_through [])) h.1 }
passes_at (x ∷ xs) st (suc k) d h inside =
    let further = passes_at xs h.0 k d h.2 (omega arith) in
    record {
      before = further.before;
      behind = further.behind;
      reached = ap (option_and_then (open_through (take k xs))) h.1 ∙ further.reached;
      passed = further.passed;
      reached_next = ap (option_and_then (open_through (take (suc k) xs))) h.1 ∙ further.reached_next;
    }

-- so many constructs are open before an item, and so many behind it
pub record Moves (items : List Instr) (place : ℕ) (item : Instr) : Type 0 where
  pub before : List Construct
  pub behind : List Construct
  pub depth : length before ≡ depth_at items place
  pub passed : open_behind item before ≡ Some behind
  pub next : depth_at items (place + 1) ≡ length behind

pub moves_at : (items : List Instr) (place : ℕ) (d : Instr) → Nests items → place < length items → Moves items place (get_or items place d)
moves_at items place d n inside =
    let p = passes_at items [] place d (closes items n) inside in
    record {
      before = p.before;
      behind = p.behind;
      depth = rw p.reached refl;
      passed = p.passed;
      next = rw (add-one, p.reached_next) refl;
    }
