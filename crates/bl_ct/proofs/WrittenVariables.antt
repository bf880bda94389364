-- For each position what the site there writes.
use Rattle.std.proofs.Common.{◌≡◌, ℕ, Bool, List, Option, Some, false}
use Rattle.std.specs.Prelude.{◌↔◌}
use Rattle.std.specs.List.{Contains}
use Rattle.std.proofs.lemmas.Bool.{not_from_false}
use Rattle.bl_program.specs.Sites.{Writes}
use Rattle.bl_graph.specs.Graphs.{use_of}
use Rattle.bl_graph.specs.WrittenVariables.{AreUnprotected}
use Rattle.bl_graph.proofs.RangeLemmas.{writes_one}
use Rattle.bl_ct.specs.Facts.{IsKnown}
use Rattle.bl_ct.specs.SecretSearch.{entry_at}
use Rattle.bl_ct.specs.declared.facts.Known.{Known}

module _ (known : Known) (is : IsKnown known) where
  pub one_write : (s x y : ℕ) → Contains known.graph.now.writes (use_of s x) → Contains known.graph.now.writes (use_of s y) → x ≡ y
  one_write s x y one other = writes_one known.program.now s x y ((is.graph.writes.each s x).0 one) ((is.graph.writes.each s y).0 other)

  pub written_is : (written : List (Option ℕ)) (set : ℕ → Bool) → ((s : ℕ) → set s ≡ false) → AreUnprotected known.graph.now.writes set written
      → (s x : ℕ) → (entry_at written s ≡ Some x) ↔ Writes known.program.now s x
  written_is written set none are s x = (
    (λ h. (is.graph.writes.each s x).0 ((are.each s x).0 h).0),
    (λ h. (are.each s x).1 ((is.graph.writes.each s x).1 h, not_from_false (set s) (none s))),
  )
