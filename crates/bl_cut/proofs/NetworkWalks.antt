-- Walks in the network of a program: what they reach, and how they are read back.
use Rattle.std.proofs.Common.{◌≡◌, ℕ, ◌<◌, ◌≤◌, Bool, List, [], ◌∷◌, ◌++◌, cond, refl, sym, ap, subst, arith, inl, inr, not}
use Rattle.std.specs.Prelude.{IsTrue}
use Rattle.std.specs.List.{All, Contains}
use Rattle.std.proofs.lemmas.Bool.{lt-ltb, le-ltb}
use Rattle.std.proofs.lemmas.List.Elements.{All-push, All-nil}
use Rattle.bl_program.specs.Sites.{IsLoad, Writes, Reads, SinkReads}
use Rattle.bl_program.specs.declared.definitions.ProgramParts.{ProgramParts as Program}
use Rattle.bl_flow.specs.Networks.{Walk, here, along, HasArc}
use Rattle.bl_flow.specs.Cuts.{NearIn}
use Rattle.bl_flow.specs.declared.network.Network.{Network}
use Rattle.bl_graph.specs.Chains.{Carries, IsChain}
use Rattle.bl_graph.specs.Ranges.{commands, AreSites, AreInRange}
use Rattle.bl_graph.proofs.PathCounts.{all_head, all_tail}
use Rattle.bl_transient.specs.Transient.{Asked, TransUnder, loaded, moved, given}
use Rattle.bl_cut.specs.Choices.{sites_in}
use Rattle.bl_cut.specs.Network.{node_of, ArcKind, write, read, IsFirstSite, IsNetwork, IsNetworkUnder}
use Rattle.bl_graph.proofs.NameLemmas.{place_inj}
use Rattle.bl_cut.proofs.TransientNodes.{TransientNode, site, variable, transient_on, transient_load, transient_var, no_var}

abbrev pub HasNoneOf : (ℕ → Bool) → List ℕ → Type 0
HasNoneOf set nodes = All (λ u. IsTrue (not (set u))) nodes

-- a walk goes on along an arc
walk_on : (n : Network) (u v w : ℕ) (before : List ℕ) → Walk n u before v → HasArc n v w → Walk n u (before ++ v ∷ []) w
walk_on n u v w before (here _) arc = along u w w [] arc (here w)
walk_on n u v w before (along _ x _ rest first walk) arc = along u x w (rest ++ v ∷ []) first (walk_on n x v w rest walk arc)

module _ (asked : Asked) (program : Program) (names : List ℕ) (is : AreInRange program) (n : Network) (net : IsNetworkUnder asked program names n) (set : ℕ → Bool) where
  pub walk_transient : (u v : ℕ) (before : List ℕ) → Walk n u before v → HasNoneOf set before → TransientNode asked program names set u → TransientNode asked program names set v
  walk_transient u v before (here _) free transient = transient
  walk_transient u v before (along _ w _ rest arc walk) free transient =
      walk_transient w v rest walk (all_tail (λ t. IsTrue (not (set t))) u rest free)
      (transient_on asked program names net.named net.transient_named set is u w ((net.arcs u w).0 arc) (all_head (λ t. IsTrue (not (set t))) u rest free) transient)

  first_transient : (s : ℕ) → IsFirstSite asked program s → TransientNode asked program names set s
  first_transient s (inl load) = transient_load asked program names net.named net.transient_named set is s load
  first_transient s (inr one) = site (is.sites s (is.reads s one.0 one.1).0) (inr (one.0, one.1, given one.0 one.2))

  -- a start is fed, or a transient variable
  pub start_transient : (s : ℕ) → Contains n.starts s → TransientNode asked program names set s
  start_transient s h =
      elim ((net.starts s).0 h) as (λ _. TransientNode asked program names set s) [
        | inl first ↦ first_transient s first
        | inr node ↦ variable node.0 node.1 (given node.0 node.3)
      ]

  -- the near side holds what is fed and what is transient, and nothing else
  pub near_var : (x : ℕ) → Contains names x → NearIn n set (node_of program names x) → TransUnder asked program set x
  near_var x has near =
      transient_var asked program names net.named net.transient_named set x (node_of program names x) has refl
      (walk_transient near.0 (node_of program names x) near.1 near.3 near.4 (start_transient near.0 near.2))

  near_on : (u v : ℕ) → HasArc n u v → IsTrue (not (set u)) → NearIn n set u → NearIn n set v
  near_on u v arc may near =
      (near.0, near.1 ++ u ∷ [], near.2, walk_on n near.0 u v near.1 near.3 arc, All-push (λ w. IsTrue (not (set w))) near.1 u near.4 may)

  near_start : (s : ℕ) → Contains n.starts s → NearIn n set s
  near_start s start = (s, [], start, here s, All-nil (λ w. IsTrue (not (set w))))

  pub near_trans : AreSites program set → (x : ℕ) → TransUnder asked program set x → NearIn n set (node_of program names x)
  near_trans sites x (loaded s _ load writes may) =
      near_on s (node_of program names x) ((net.arcs s (node_of program names x)).1 (write x writes refl)) may (near_start s ((net.starts s).1 (inl (inl load))))
  near_trans sites x (moved s y _ reads writes may t) =
      near_on s (node_of program names x) ((net.arcs s (node_of program names x)).1 (write x writes refl)) may
      (near_on (node_of program names y) s ((net.arcs (node_of program names y) s).1 (read y reads refl)) (no_var program names is set sites y) (near_trans sites y t))
  near_trans sites x (given _ transient) = near_start (node_of program names x) ((net.starts (node_of program names x)).1 (inr (x, refl, net.transient_named x transient, transient)))

-- what is left of a walk to a sink's variable, read back as sites
data Ahead (program : Program) (names : List ℕ) (sink u : ℕ) (sites : List ℕ) : Type 0 where
  at_site : (x : ℕ) (rest : List ℕ) → u < commands program → sites ≡ u ∷ rest → Writes program u x → Carries program x rest sink → Ahead program names sink u sites
  at_var : (x : ℕ) → Contains names x → u ≡ node_of program names x → Carries program x sites sink → Ahead program names sink u sites

pub site_kept : (n u : ℕ) (nodes : List ℕ) → u < n → sites_in n (u ∷ nodes) ≡ u ∷ sites_in n nodes
site_kept n u nodes lt = ap (λ b. cond b (u ∷ sites_in n nodes) (sites_in n nodes)) (lt-ltb u n lt)

pub var_left : (n u : ℕ) (nodes : List ℕ) → n ≤ u → sites_in n (u ∷ nodes) ≡ sites_in n nodes
var_left n u nodes le = ap (λ b. cond b (u ∷ sites_in n nodes) (sites_in n nodes)) (le-ltb u n le)

module _ (program : Program) (names : List ℕ) (is : AreInRange program) (n : Network) (net : IsNetwork program names n) (sink : ℕ) where
  from_var : (w x : ℕ) (sites : List ℕ) → Contains names x → w ≡ node_of program names x → Ahead program names sink w sites → Carries program x sites sink
  from_var w x sites has e (at_site _ _ lt _ _ _) = absurd (omega arith)
  from_var w x sites has e (at_var y held f carries) = let same : y ≡ x = place_inj names y x net.named.rise held has (omega arith) in subst (λ z. Carries program z sites sink) same carries

  from_site : (w x : ℕ) (sites : List ℕ) → w < commands program → Reads program w x → Ahead program names sink w sites → Carries program x sites sink
  from_site w x sites lt reads (at_site y rest _ e writes carries) = subst (λ l. Carries program x l sink) (sym e) (reads, (y, writes, carries))
  from_site w x sites lt reads (at_var y held f carries) = absurd (omega arith)

  by_arc : (u w : ℕ) (nodes : List ℕ) → ArcKind program names u w → Ahead program names sink w (sites_in (commands program) nodes) → Ahead program names sink u (sites_in (commands program) (u ∷ nodes))
  by_arc u w nodes (write x writes e) ahead =
      let lt = is.sites u (is.writes u x writes).0 in
      at_site x (sites_in (commands program) nodes) lt (site_kept (commands program) u nodes lt) writes (from_var w x (sites_in (commands program) nodes) (net.named.writes u x writes) e ahead)
  by_arc u w nodes (read x reads e) ahead =
      let lt = is.sites w (is.reads w x reads).0 in
      at_var x (net.named.reads w x reads) e (subst (λ l. Carries program x l sink) (sym (var_left (commands program) u nodes (omega arith))) (from_site w x (sites_in (commands program) nodes) lt reads ahead))

  ahead : (u v z : ℕ) (before : List ℕ) → v ≡ node_of program names z → SinkReads program sink z → Walk n u before v → Ahead program names sink u (sites_in (commands program) (before ++ v ∷ []))
  ahead u v z before e reads (here _) = at_var z (net.named.sinks sink z reads) e (subst (λ l. Carries program z l sink) (sym (var_left (commands program) v [] (omega arith))) reads)
  ahead u v z before e reads (along _ w _ rest arc walk) = by_arc u w (rest ++ v ∷ []) ((net.arcs u w).0 arc) (ahead w v z rest e reads walk)

  to_chain : (s : ℕ) (sites : List ℕ) → IsLoad program s → Ahead program names sink s sites → IsChain program sites sink
  to_chain s sites load (at_site x rest _ e writes carries) = subst (λ l. IsChain program l sink) (sym e) (load, (x, writes, carries))
  to_chain s sites load (at_var x held e carries) = let lt = is.sites s (is.loads s load) in absurd (omega arith)

  -- a walk from a load to a sink's variable is a chain
  pub walk_chain : (s v z : ℕ) (before : List ℕ) → IsLoad program s → v ≡ node_of program names z → SinkReads program sink z → Walk n s before v
      → IsChain program (sites_in (commands program) (before ++ v ∷ [])) sink
  walk_chain s v z before load e reads walk = to_chain s (sites_in (commands program) (before ++ v ∷ [])) load (ahead s v z before e reads walk)
