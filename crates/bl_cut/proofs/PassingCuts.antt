-- The cuts of a program's network are its passing sets.
use Rattle.std.proofs.Common.{◌≡◌, ℕ, ◌+◌, ◌^◌, ◌<◌, ◌≤◌, Bool, true, false, List, [], ◌∷◌, ◌++◌, length, Option, Some, None, unwrap_or, refl, sym, ap, subst, ◌∙◌, arith, ◌⊎◌, inl, inr, not}
use Rattle.std.specs.Prelude.{IsTrue, IsSome, if◌then◌else◌}
use Rattle.std.specs.List.{Any, Contains}
use Rattle.std.proofs.lemmas.List.Elements.{All-cons, All-nil, All-push, All-contains, Contains-append_left}
use Rattle.std.proofs.lemmas.Bool.{cases_Bool, not_from_false}
use Rattle.bl_base.specs.Sums.{sum_below}
use Rattle.bl_base.proofs.Sums.{sum_same, sum_front}
use Rattle.bl_base.proofs.BoolLemmas.{never_both}
use Rattle.bl_base.proofs.Members.{any_here, any_in, any_later, in_any}
use Rattle.bl_program.specs.Sites.{IsSite, site_weight, weight_of}
use Rattle.bl_program.specs.declared.definitions.ProgramParts.{ProgramParts as Program}
use Rattle.bl_flow.specs.declared.network.Arc.{Arc}
use Rattle.bl_flow.specs.declared.network.Network.{Network}
use Rattle.bl_flow.specs.Networks.{Walk, here, along, size, weight_at, InRange, total_weight}
use Rattle.bl_flow.specs.Cuts.{IsCut, Meets, cut_weight}
use Rattle.bl_graph.specs.Ranges.{commands, AreSites, AreInRange}
use Rattle.bl_graph.proofs.ChainLemmas.{all_from}
use Rattle.bl_graph.proofs.PathCounts.{amount_if}
use Rattle.bl_transient.specs.Transient.{Asked, PassesUnder, TransUnder}
use Rattle.bl_transient.proofs.LeastTypings.{passes_under_if, passing_stable, passing_sinks}
use Rattle.bl_cut.specs.Network.{node_of, ArcKind, write, read, IsBarred, IsEndUnder, IsFirstSite, IsAskedNode, IsNetworkUnder}
use Rattle.bl_cut.proofs.TransientNodes.{transient_var, no_var}
use Rattle.bl_graph.proofs.NameLemmas.{place_inj, place_within}
use Rattle.bl_cut.proofs.NetworkWalks.{HasNoneOf, near_trans, start_transient, walk_transient}

-- some node of a list is in a set, or none is
any_or_free : (set : ℕ → Bool) (nodes : List ℕ) → Any (λ u. IsTrue (set u)) nodes ⊎ HasNoneOf set nodes
any_or_free set [] = inr (All-nil (λ u. IsTrue (not (set u))))
any_or_free set (v ∷ nodes) =
    elim (cases_Bool (set v)) as (λ _. Any (λ u. IsTrue (set u)) (v ∷ nodes) ⊎ HasNoneOf set (v ∷ nodes)) [
      | inl is ↦ inl (any_here (λ u. IsTrue (set u)) v nodes is)
      | inr not_in ↦
          elim (any_or_free set nodes) as (λ _. Any (λ u. IsTrue (set u)) (v ∷ nodes) ⊎ HasNoneOf set (v ∷ nodes)) [
            | inl any ↦ inl (any_later (λ u. IsTrue (set u)) v nodes any)
            | inr free ↦ inr (All-cons (λ u. IsTrue (not (set u))) v nodes (not_from_false (set v) not_in) free)
          ]
    ]

module _ (asked : Asked) (program : Program) (names : List ℕ) (is : AreInRange program) (n : Network) (net : IsNetworkUnder asked program names n) where
  arc_within : (arc : Arc) → ArcKind program names arc.from arc.to → (arc.from < commands program + length names) × (arc.to < commands program + length names)
  arc_within arc (write x writes e) =
      let ok = is.writes arc.from x writes in
      let lt = is.sites arc.from ok.0 in
      let less = place_within names x net.named.rise (net.named.writes arc.from x writes) in
      (omega arith, omega arith)
  arc_within arc (read x reads e) =
      let ok = is.reads arc.to x reads in
      let lt = is.sites arc.to ok.0 in
      let less = place_within names x net.named.rise (net.named.reads arc.to x reads) in
      (omega arith, omega arith)

  first_site : (s : ℕ) → IsFirstSite asked program s → IsSite program s
  first_site s (inl load) = is.loads s load
  first_site s (inr one) = (is.reads s one.0 one.1).0

  pub in_range : InRange n
  in_range = record {
    arcs = all_from (λ arc. (arc.from < size n) × (arc.to < size n)) n.arcs (λ arc h.
        subst (λ m. (arc.from < m) × (arc.to < m)) (sym net.size_is) (arc_within arc ((net.arcs arc.from arc.to).0 h)));
    starts = all_from (λ v. v < size n) n.starts (λ s h.
        let e = net.size_is in
        elim ((net.starts s).0 h) as (λ _. s < size n) [
          | inl first ↦ let lt = is.sites s (first_site s first) in omega arith
          | inr node ↦ let at = node.1 in let lt = place_within names node.0 net.named.rise node.2 in omega arith
        ]);
    ends = all_from (λ v. v < size n) n.ends (λ v h.
        let end = (net.ends v).0 h in
        let e = net.size_is in
        let at = end.1 in
        let lt = place_within names end.0 net.named.rise end.2 in
        omega arith);
  }

  first_of : (P : ℕ → Type 0) (s e : ℕ) (before : List ℕ) → Walk n s before e → P s → Any P (before ++ e ∷ [])
  first_of P s e before (here _) p = any_here P s [] p
  first_of P s e before (along _ w _ rest arc walk) p = any_here P s (rest ++ e ∷ []) p

  some_weight : (s : ℕ) → IsSite program s → IsSome (weight_at n s)
  some_weight s site = subst (λ o. IsSome o) (sym (net.weights s)) site

  -- no variable that is asked to be transient may not be
  abbrev pub Apart : Type 0
  Apart = (x : ℕ) → IsTrue (asked.transient x) → IsBarred asked program x → ⊥

  -- a walk from what is asked to be transient to an end goes through a site
  through_site : Apart → (s e : ℕ) (before : List ℕ) → IsAskedNode asked program names s → IsEndUnder asked program names e → Walk n s before e
      → Any (λ v. IsSome (weight_at n v)) (before ++ e ∷ [])
  through_site apart s e before transient end (here _) =
      let at = transient.1 in let to = end.1 in
      let same : transient.0 ≡ end.0 = place_inj names transient.0 end.0 net.named.rise transient.2 end.2 (omega arith) in
      absurd (apart end.0 (subst (λ x. IsTrue (asked.transient x)) same transient.3) end.3)
  through_site apart s e before transient end (along _ w _ rest arc walk) = by ((net.arcs s w).0 arc)
    where
      by : ArcKind program names s w → Any (λ v. IsSome (weight_at n v)) (s ∷ (rest ++ e ∷ []))
      by (write x writes f) = let lt = is.sites s (is.writes s x writes).0 in let at = transient.1 in absurd (omega arith)
      by (read x reads f) =
          any_later (λ v. IsSome (weight_at n v)) s (rest ++ e ∷ []) (first_of (λ v. IsSome (weight_at n v)) w e rest walk (some_weight w (is.reads w x reads).0))

  pub bounded : Apart → Meets n (λ v. IsSome (weight_at n v))
  bounded apart s e before start last walk =
      elim ((net.starts s).0 start) as (λ _. Any (λ v. IsSome (weight_at n v)) (before ++ e ∷ [])) [
        | inl first ↦ first_of (λ v. IsSome (weight_at n v)) s e before walk (some_weight s (first_site s first))
        | inr transient ↦ through_site apart s e before transient ((net.ends e).0 last) walk
      ]

  no_site : (v : ℕ) → commands program ≤ v → (o : Option ℕ) → site_weight program v ≡ o → o ≡ None
  no_site v past None e = refl
  no_site v past (Some w) e = absurd (let lt = is.sites v (subst (λ o. IsSome o) (sym e) refl) in omega arith)

  none_past : (v : ℕ) → commands program ≤ v → site_weight program v ≡ None
  none_past v past = no_site v past (site_weight program v) refl

  nothing_if : (b : Bool) → amount_if b 0 ≡ 0
  nothing_if true = refl
  nothing_if false = refl

  -- a cut weighs what its sites weigh
  pub cut_weighs : (set : ℕ → Bool) → cut_weight n set ≡ weight_of program set
  cut_weighs set =
      let share : ℕ → ℕ = λ v. (if set v then unwrap_or (site_weight program v) 0 else 0) in
      sum_same (size n) (λ v. (if set v then unwrap_or (weight_at n v) 0 else 0)) share (λ v lt. ap (λ o. (if set v then unwrap_or o 0 else 0)) (net.weights v))
      ∙ ap (λ m. sum_below m share) net.size_is
      ∙ sum_front (length names) (commands program) share (λ v past. ap (λ o. (if set v then unwrap_or o 0 else 0)) (none_past v past) ∙ nothing_if (set v))

  pub total : total_weight n < 2 ^ 63
  total = let same : total_weight n ≡ weight_of program (λ _. true) = cut_weighs (λ _. true) in let lt = is.total in omega arith

  -- where a set passes, what may not be transient isn't
  barred_cold : (set : ℕ → Bool) → PassesUnder asked program set → (x : ℕ) → IsBarred asked program x → TransUnder asked program set x → ⊥
  barred_cold set passes x (inl sink) t = passing_sinks asked program set passes sink.0 x sink.1 t
  barred_cold set passes x (inr stable) t = passing_stable asked program set passes x stable t

  -- a passing set of sites is a cut
  pub passing_cut : (set : ℕ → Bool) → AreSites program set → PassesUnder asked program set → IsCut n set
  passing_cut set sites passes = record {
    weighted = λ v h. some_weight v (sites v h);
    meets = λ s e before start last walk.
        elim (any_or_free set before) as (λ _. Any (λ t. IsTrue (set t)) (before ++ e ∷ [])) [
          | inl met ↦ let found = in_any (λ t. IsTrue (set t)) before met in any_in (λ t. IsTrue (set t)) found.0 (before ++ e ∷ []) (Contains-append_left before (e ∷ []) found.0 found.1) found.2
          | inr free ↦
              let end = (net.ends e).0 last in
              let transient = walk_transient asked program names is n net set s e before walk free (start_transient asked program names is n net set s start) in
              absurd (barred_cold set passes end.0 end.3 (transient_var asked program names net.named net.transient_named set end.0 e end.2 end.1 transient))
        ];
  }

  pub cut_sites : (set : ℕ → Bool) → IsCut n set → AreSites program set
  cut_sites set cut = λ s h. subst (λ o. IsSome o) (net.weights s) (cut.weighted s h)

  -- and a cut is a passing set of sites
  pub cut_passes : (set : ℕ → Bool) → IsCut n set → PassesUnder asked program set
  cut_passes set cut =
      passes_under_if asked program set (λ position x sink t. cold x (net.named.sinks position x sink) (inl (position, sink)) t) (λ x stable t. cold x (net.stable_named x stable) (inr stable) t)
    where
      cold : (x : ℕ) → Contains names x → IsBarred asked program x → TransUnder asked program set x → ⊥
      cold x has barred t =
          let sites = cut_sites set cut in
          let near = near_trans asked program names is n net set sites x t in
          let last : Contains n.ends (node_of program names x) = (net.ends (node_of program names x)).1 (x, refl, has, barred) in
          let met = in_any (λ u. IsTrue (set u)) (near.1 ++ (node_of program names x) ∷ []) (cut.meets near.0 (node_of program names x) near.1 near.2 last near.3) in
          let free = All-push (λ u. IsTrue (not (set u))) near.1 (node_of program names x) near.4 (no_var program names is set sites x) in
          never_both (set met.0) met.2 (All-contains (λ u. IsTrue (not (set u))) (near.1 ++ (node_of program names x) ∷ []) met.0 free met.1)
