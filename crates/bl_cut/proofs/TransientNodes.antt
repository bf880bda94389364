-- What is fed and what is transient, as nodes of the network.
use Rattle.std.proofs.Common.{◌≡◌, ℕ, ◌<◌, Bool, List, subst, arith, inl, inr, not}
use Rattle.std.specs.Prelude.{IsTrue}
use Rattle.std.specs.List.{Contains}
use Rattle.std.proofs.lemmas.Bool.{not_from_false, false_from_ne_true}
use Rattle.bl_program.specs.Sites.{IsLoad, Writes, Reads}
use Rattle.bl_program.specs.declared.definitions.ProgramParts.{ProgramParts as Program}
use Rattle.bl_graph.specs.Ranges.{commands, AreSites, AreInRange}
use Rattle.bl_transient.specs.Transient.{Asked, TransUnder, loaded, moved, given, IsFedUnder}
use Rattle.bl_transient.proofs.LeastTypings.{fed_writes}
use Rattle.bl_graph.specs.Names.{AreNames}
use Rattle.bl_cut.specs.Network.{node_of, ArcKind, write, read}
use Rattle.bl_graph.proofs.NameLemmas.{place_inj}

-- a node is fed, or a transient variable
pub data TransientNode (asked : Asked) (program : Program) (names : List ℕ) (set : ℕ → Bool) (v : ℕ) : Type 0 where
  site : v < commands program → IsFedUnder asked program set v → TransientNode asked program names set v
  variable : (x : ℕ) → v ≡ node_of program names x → TransUnder asked program set x → TransientNode asked program names set v

module _ (asked : Asked) (program : Program) (names : List ℕ) (are : AreNames program names) (transients : (x : ℕ) → IsTrue (asked.transient x) → Contains names x) (set : ℕ → Bool) where
  transient_site : (s : ℕ) → s < commands program → TransientNode asked program names set s → IsFedUnder asked program set s
  transient_site s lt (site _ fed) = fed
  transient_site s lt (variable x e t) = absurd (omega arith)

  pub named_trans : (x : ℕ) → TransUnder asked program set x → Contains names x
  named_trans x (loaded s _ load writes may) = are.writes s x writes
  named_trans x (moved s y _ reads writes may t) = are.writes s x writes
  named_trans x (given _ transient) = transients x transient

  pub transient_var : (x v : ℕ) → Contains names x → v ≡ node_of program names x → TransientNode asked program names set v → TransUnder asked program set x
  transient_var x v has e (site lt _) = absurd (omega arith)
  transient_var x v has e (variable y f t) = subst (TransUnder asked program set) (place_inj names y x are.rise (named_trans y t) has (omega arith)) t

  module _ (is : AreInRange program) where
    after_write : (u v x : ℕ) → Writes program u x → v ≡ node_of program names x → IsTrue (not (set u)) → TransientNode asked program names set u → TransientNode asked program names set v
    after_write u v x writes e may transient = variable x e (fed_writes asked program set u x (transient_site u (is.sites u (is.writes u x writes).0) transient) writes may)

    after_read : (u v x : ℕ) → Reads program v x → u ≡ node_of program names x → TransientNode asked program names set u → TransientNode asked program names set v
    after_read u v x reads e transient = site (is.sites v (is.reads v x reads).0) (inr (x, reads, transient_var x u (are.reads v x reads) e transient))

    pub transient_on : (u v : ℕ) → ArcKind program names u v → IsTrue (not (set u)) → TransientNode asked program names set u → TransientNode asked program names set v
    transient_on u v (write x writes e) may transient = after_write u v x writes e may transient
    transient_on u v (read x reads e) may transient = after_read u v x reads e transient

    pub transient_load : (s : ℕ) → IsLoad program s → TransientNode asked program names set s
    transient_load s load = site (is.sites s (is.loads s load)) (inl load)

pub no_var : (program : Program) (names : List ℕ) → AreInRange program → (set : ℕ → Bool) → AreSites program set → (x : ℕ) → IsTrue (not (set (node_of program names x)))
no_var program names is set sites x =
    not_from_false _ (false_from_ne_true _ (λ h. let lt = is.sites (node_of program names x) (sites (node_of program names x) h) in omega arith))
