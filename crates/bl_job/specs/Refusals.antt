-- Why a request is refused: a status that says so, and the line that is printed. Each refusal is defined where it arises.
use Rattle.std.specs.Prelude.{ℕ, List, [], ◌∷◌, codes}
use Rattle.std.specs.Fmt.{decimal}
use Rattle.std.specs.List.{flat_map}
use Rattle.bl_base.specs.Quantity.{word_of}
use Rattle.bl_base.specs.declared.quantity.Quantity.{Quantity}
use Rattle.bl_outcome.specs.Lines.{line}
use Rattle.bl_job.specs.declared.status.Reason.{Reason}
use Rattle.bl_job.specs.declared.status.Reason.TheVariants as reason

pub record Refusal : Type 0 where
  pub reason : Reason
  pub line : List ℕ

-- a refusal whose line is made of these texts
abbrev pub refusal_of : Reason → List (List ℕ) → Refusal
refusal_of why texts = record { reason = why; line = line (flat_map (λ text. text) texts) }

-- a quantity exceeds its number
abbrev pub limit : Quantity → ℕ → Refusal
limit which value = refusal_of reason.Limit (codes "limit: " ∷ word_of which ∷ codes " " ∷ decimal value ∷ [])
