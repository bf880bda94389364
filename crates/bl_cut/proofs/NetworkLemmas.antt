-- The network that is made of a graph's lists is the program's.
use Rattle.std.proofs.Common.{◌≡◌, ℕ, zero, suc, ◌+◌, ◌^◌, ◌<◌, ◌≤◌, List, [], ◌∷◌, ◌++◌, length, take, set, get_or, replicate, Option, Some, None, refl, sym, ap, subst, ◌∙◌, arith, ◌⊎◌, inl, inr}
use Rattle.std.specs.Prelude.{◌↔◌, IsSome, map}
use Rattle.std.specs.List.{All, Contains, slice_index_or}
use Rattle.std.proofs.lemmas.Bool.{cases_eq, cases_lt}
use Rattle.std.proofs.lemmas.List.{take_more, get_or-set_same, get_or-set_other, get_or-replicate, get_or_past, length-replicate, take_all}
use Rattle.std.proofs.lemmas.List.Elements.{All-contains, Contains-append_left, Contains-append_right, Contains-append_cases, Contains-push_cases}
use Rattle.bl_base.specs.declared.number.Pos.{Pos}
use Rattle.bl_base.proofs.Members.{in_map, from_map, none_in}
use Rattle.bl_program.specs.Sites.{site_weight, IsSite, IsLoad, Writes, Reads}
use Rattle.bl_program.specs.declared.definitions.ProgramParts.{ProgramParts as Program}
use Rattle.bl_flow.specs.declared.network.Arc.{Arc}
use Rattle.bl_graph.specs.Graphs.{use_of, IsGraph}
use Rattle.bl_graph.specs.Names.{AreNames, place_of}
use Rattle.bl_graph.specs.Ranges.{commands, AreInRange}
use Rattle.bl_graph.specs.declared.facts.Use.{Use}
use Rattle.bl_graph.specs.declared.facts.Graph.{Graph}
use Rattle.bl_graph.proofs.ChainLemmas.{all_from}
use Rattle.bl_graph.proofs.NameLemmas.{few_names, place_within}
use Rattle.bl_graph.proofs.RangeLemmas.{site_writes}
use Rattle.bl_graph.proofs.AskedLists.{asked_in, in_asked}
use Rattle.bl_transient.specs.Transient.{Asked}
use Rattle.bl_transient.specs.Verdicts.{asked_of}
use Rattle.bl_cut.specs.Network.{node_of, ArcKind, write, read, IsBarred, IsEndUnder, IsAskedNode, IsFirstSite, IsNetworkUnder, Begins, write_arc, read_arc, sink_node, var_node, noted}

module _ (program : Program) (g : Graph) (lists : IsGraph program g) (names : List ℕ) (are : AreNames program names) where
  arc_kind : (u v : ℕ) → Contains (map (write_arc names (commands program)) g.writes ++ map (read_arc names (commands program)) g.reads) (record { from = u; to = v }) → ArcKind program names u v
  arc_kind u v h =
      elim (Contains-append_cases (map (write_arc names (commands program)) g.writes) (map (read_arc names (commands program)) g.reads) (record { from = u; to = v }) h) as (λ _. ArcKind program names u v) [
        | inl w ↦
            let found = from_map (write_arc names (commands program)) g.writes (record { from = u; to = v }) w in
            let from : found.0.at.0 ≡ u = ap (λ (a : Arc). a.from) found.2 in
            let to : node_of program names found.0.var.0 ≡ v = ap (λ (a : Arc). a.to) found.2 in
            write found.0.var.0 (subst (λ s. Writes program s found.0.var.0) from ((lists.writes.each found.0.at.0 found.0.var.0).0 found.1)) (sym to)
        | inr r ↦
            let found = from_map (read_arc names (commands program)) g.reads (record { from = u; to = v }) r in
            let from : node_of program names found.0.var.0 ≡ u = ap (λ (a : Arc). a.from) found.2 in
            let to : found.0.at.0 ≡ v = ap (λ (a : Arc). a.to) found.2 in
            read found.0.var.0 (subst (λ s. Reads program s found.0.var.0) to ((lists.reads.each found.0.at.0 found.0.var.0).0 found.1)) (sym from)
      ]

  arc_of : (u v : ℕ) → ArcKind program names u v → Contains (map (write_arc names (commands program)) g.writes ++ map (read_arc names (commands program)) g.reads) (record { from = u; to = v })
  arc_of u v (write x writes e) =
      subst (λ w. Contains (map (write_arc names (commands program)) g.writes ++ map (read_arc names (commands program)) g.reads) (record { from = u; to = w })) (sym e)
      (Contains-append_left (map (write_arc names (commands program)) g.writes) (map (read_arc names (commands program)) g.reads) (record { from = u; to = node_of program names x })
      (in_map (write_arc names (commands program)) g.writes (use_of u x) ((lists.writes.each u x).1 writes)))
  arc_of u v (read x reads e) =
      subst (λ w. Contains (map (write_arc names (commands program)) g.writes ++ map (read_arc names (commands program)) g.reads) (record { from = w; to = v })) (sym e)
      (Contains-append_right (map (write_arc names (commands program)) g.writes) (map (read_arc names (commands program)) g.reads) (record { from = node_of program names x; to = v })
      (in_map (read_arc names (commands program)) g.reads (use_of v x) ((lists.reads.each v x).1 reads)))

  module _ (transient stable : List ℕ) (transients : All (λ x. Contains names x) transient) (all_stable : All (λ x. Contains names x) stable) where
    abbrev asked : Asked
    asked = asked_of (record { transient = transient; stable = stable })

    end_kind : (v : ℕ) → Contains (map (sink_node names (commands program)) g.sinks ++ map (var_node names (commands program)) stable) v → IsEndUnder asked program names v
    end_kind v h =
        elim (Contains-append_cases (map (sink_node names (commands program)) g.sinks) (map (var_node names (commands program)) stable) v h) as (λ _. IsEndUnder asked program names v) [
          | inl s ↦
              let found = from_map (sink_node names (commands program)) g.sinks v s in
              let sink = (lists.sinks.each found.0.at.0 found.0.var.0).0 found.1 in
              (found.0.var.0, sym found.2, are.sinks found.0.at.0 found.0.var.0 sink, inl (found.0.at.0, sink))
          | inr f ↦
              let found = from_map (var_node names (commands program)) stable v f in
              (found.0, sym found.2, All-contains (λ x. Contains names x) stable found.0 all_stable found.1, inr (in_asked stable found.0 found.1))
        ]

    barred_in : (x : ℕ) → IsBarred asked program x → Contains (map (sink_node names (commands program)) g.sinks ++ map (var_node names (commands program)) stable) (node_of program names x)
    barred_in x (inl sink) =
        Contains-append_left (map (sink_node names (commands program)) g.sinks) (map (var_node names (commands program)) stable) (node_of program names x)
        (in_map (sink_node names (commands program)) g.sinks (use_of sink.0 x) ((lists.sinks.each sink.0 x).1 sink.1))
    barred_in x (inr is_stable) =
        Contains-append_right (map (sink_node names (commands program)) g.sinks) (map (var_node names (commands program)) stable) (node_of program names x)
        (in_map (var_node names (commands program)) stable x (asked_in stable x is_stable))

    end_of : (v : ℕ) → IsEndUnder asked program names v → Contains (map (sink_node names (commands program)) g.sinks ++ map (var_node names (commands program)) stable) v
    end_of v end = subst (Contains (map (sink_node names (commands program)) g.sinks ++ map (var_node names (commands program)) stable)) (sym end.1) (barred_in end.0 end.3)

    start_kind : (s : ℕ) → Begins names (commands program) g transient s → IsFirstSite asked program s ⊎ IsAskedNode asked program names s
    start_kind s (inl (inl load)) =
        let found = from_map (λ (load : Pos). load.0) g.loads s load in inl (inl (subst (IsLoad program) found.2 ((lists.loads found.0.0).0 found.1)))
    start_kind s (inl (inr one)) = inl (inr (one.0, (lists.reads.each s one.0).0 one.1, in_asked transient one.0 one.2))
    start_kind s (inr node) =
        let found = from_map (var_node names (commands program)) transient s node in
        inr (found.0, sym found.2, All-contains (λ x. Contains names x) transient found.0 transients found.1, in_asked transient found.0 found.1)

    start_in : (s : ℕ) → IsFirstSite asked program s ⊎ IsAskedNode asked program names s → Begins names (commands program) g transient s
    start_in s (inl (inl load)) = inl (inl (in_map (λ (load : Pos). load.0) g.loads (record { 0 = s }) ((lists.loads s).1 load)))
    start_in s (inl (inr one)) = inl (inr (one.0, (lists.reads.each s one.0).1 one.1, asked_in transient one.0 one.2))
    start_in s (inr node) =
        inr (subst (Contains (map (var_node names (commands program)) transient)) (sym node.1) (in_map (var_node names (commands program)) transient node.0 (asked_in transient node.0 node.3)))

    pub made_network : (n : ℕ) (weights : List (Option ℕ)) (arcs : List Arc) (starts ends : List ℕ) → n ≡ commands program → length weights ≡ n + length names
        → ((v : ℕ) → noted weights v ≡ site_weight program v) → arcs ≡ map (write_arc names n) g.writes ++ map (read_arc names n) g.reads
        → ((s : ℕ) → Contains starts s ↔ Begins names n g transient s) → ends ≡ map (sink_node names n) g.sinks ++ map (var_node names n) stable
        → IsNetworkUnder asked program names (record { weights = weights; arcs = arcs; starts = starts; ends = ends })
    made_network n weights arcs starts ends e places weigh arcs_are starts_are ends_are =
        let all : arcs ≡ map (write_arc names (commands program)) g.writes ++ map (read_arc names (commands program)) g.reads = arcs_are ∙ ap (λ m. map (write_arc names m) g.writes ++ map (read_arc names m) g.reads) e in
        let first = subst (λ m. (s : ℕ) → Contains starts s ↔ Begins names m g transient s) e starts_are in
        let last : ends ≡ map (sink_node names (commands program)) g.sinks ++ map (var_node names (commands program)) stable = ends_are ∙ ap (λ m. map (sink_node names m) g.sinks ++ map (var_node names m) stable) e in
        record {
          named = are;
          transient_named = λ x is_transient. All-contains (λ y. Contains names y) transient x transients (asked_in transient x is_transient);
          stable_named = λ x is_stable. All-contains (λ y. Contains names y) stable x all_stable (asked_in stable x is_stable);
          size_is = places ∙ ap (λ m. m + length names) e;
          weights = weigh;
          arcs = λ u v. ((λ h. arc_kind u v (subst (λ l. Contains l (record { from = u; to = v })) all h)), (λ h. subst (λ l. Contains l (record { from = u; to = v })) (sym all) (arc_of u v h)));
          starts = λ s. ((λ h. start_kind s ((first s).0 h)), (λ h. (first s).1 (start_in s h)));
          ends = λ v. ((λ h. end_kind v (subst (λ l. Contains l v) last h)), (λ h. subst (λ l. Contains l v) (sym last) (end_of v h)));
        }

  pub read_names : All (λ r. Contains names r.var.0) g.reads
  read_names = all_from (λ r. Contains names r.var.0) g.reads (λ r h. are.reads r.at.0 r.var.0 ((lists.reads.each r.at.0 r.var.0).0 h))

  module _ (is : AreInRange program) (n : ℕ) (e : n ≡ commands program) where
    pub write_nodes : All (λ w. Contains names w.var.0 × (n + place_of names w.var.0 < 2 ^ 32)) g.writes
    write_nodes = all_from (λ w. Contains names w.var.0 × (n + place_of names w.var.0 < 2 ^ 32)) g.writes (λ w h.
        let has = are.writes w.at.0 w.var.0 ((lists.writes.each w.at.0 w.var.0).0 h) in
        let lt = place_within names w.var.0 are.rise has in let few = few_names program names is are in (has, omega arith))

    pub read_nodes : All (λ r. Contains names r.var.0 × (n + place_of names r.var.0 < 2 ^ 32)) g.reads
    read_nodes = all_from (λ r. Contains names r.var.0 × (n + place_of names r.var.0 < 2 ^ 32)) g.reads (λ r h.
        let has = are.reads r.at.0 r.var.0 ((lists.reads.each r.at.0 r.var.0).0 h) in
        let lt = place_within names r.var.0 are.rise has in let few = few_names program names is are in (has, omega arith))

    pub sink_numbers : All (λ s. Contains names s.var.0 × (n + place_of names s.var.0 < 2 ^ 32)) g.sinks
    sink_numbers = all_from (λ s. Contains names s.var.0 × (n + place_of names s.var.0 < 2 ^ 32)) g.sinks (λ s h.
        let has = are.sinks s.at.0 s.var.0 ((lists.sinks.each s.at.0 s.var.0).0 h) in
        let lt = place_within names s.var.0 are.rise has in let few = few_names program names is are in (has, omega arith))

    pub var_nodes : (vars : List ℕ) → All (λ x. Contains names x) vars → All (λ x. Contains names x × (n + place_of names x < 2 ^ 32)) vars
    var_nodes vars has = all_from (λ x. Contains names x × (n + place_of names x < 2 ^ 32)) vars (λ x h.
        let there = All-contains (λ y. Contains names y) vars x has h in
        let lt = place_within names x are.rise there in let few = few_names program names is are in (there, omega arith))

    pub write_sites : All (λ w. IsSite program w.at.0) g.writes
    write_sites = all_from (λ w. IsSite program w.at.0) g.writes (λ w h. (is.writes w.at.0 w.var.0 ((lists.writes.each w.at.0 w.var.0).0 h)).0)

    pub write_places : (nodes : ℕ) → nodes ≡ n + length names → All (λ w. w.at.0 < nodes) g.writes
    write_places nodes f = all_from (λ w. w.at.0 < nodes) g.writes (λ w h.
        let lt = is.sites w.at.0 (is.writes w.at.0 w.var.0 ((lists.writes.each w.at.0 w.var.0).0 h)).0 in omega arith)

  pub each_writes : (s : ℕ) → IsSite program s → (x : ℕ) × Contains g.writes (use_of s x)
  each_writes s some = let found = site_writes program s some in (found.0, (lists.writes.each s found.0).1 found.1)

-- ---- the weights of nodes, write by write

-- of the first so many writes each one's site has its weight, and no other node has one
abbrev pub NotedFirst : Program → List Use → ℕ → List (Option ℕ) → Type 0
NotedFirst program writes i weights = (v : ℕ) → (noted weights v ≡ site_weight program v) ⊎ ((noted weights v ≡ None) × ((x : ℕ) → Contains (take i writes) (use_of v x) → ⊥))

noted_or : (weights : List (Option ℕ)) (v : ℕ) → noted weights v ≡ get_or weights v None
noted_or [] v = refl
noted_or (w ∷ weights) zero = refl
noted_or (w ∷ weights) (suc v) = noted_or weights v

pub noted_none : (program : Program) (writes : List Use) (count : ℕ) (weights : List (Option ℕ)) → weights ≡ replicate count None → NotedFirst program writes 0 weights
noted_none program writes count weights e v = inr (
  noted_or weights v ∙ (ap (λ l. get_or l v None) e ∙ nothing),
  λ x h. none_in (use_of v x) h,
)
  where
    nothing : get_or {A = Option ℕ} (replicate count None) v None ≡ None
    nothing =
        elim (cases_lt v count) as (λ _. get_or {A = Option ℕ} (replicate count None) v None ≡ None) [
          | inl lt ↦ get_or-replicate count v None None lt
          | inr past ↦ get_or_past (replicate count None) v None (let e = length-replicate {A = Option ℕ} count None in omega arith)
        ]

pub noted_more : (program : Program) (writes : List Use) (i w : ℕ) (weights : List (Option ℕ)) (d : Use) → i < length writes → (slice_index_or writes i d).at.0 < length weights
    → site_weight program (slice_index_or writes i d).at.0 ≡ Some w → NotedFirst program writes i weights → NotedFirst program writes (i + 1) (set weights (slice_index_or writes i d).at.0 (Some w))
noted_more program writes i w weights d lt within is so_far v =
    let next : Use = slice_index_or writes i d in
    let new : List (Option ℕ) = set weights next.at.0 (Some w) in
    elim (cases_eq v next.at.0) as (λ _. (noted new v ≡ site_weight program v) ⊎ ((noted new v ≡ None) × ((x : ℕ) → Contains (take (i + 1) writes) (use_of v x) → ⊥))) [
      | inl same ↦
          let value : noted new v ≡ Some w = noted_or new v ∙ (ap (λ k. get_or new k None) same ∙ get_or-set_same weights next.at.0 (Some w) None within) in
          inl (value ∙ (sym is ∙ ap (site_weight program) (sym same)))
      | inr other ↦
          let value : noted new v ≡ noted weights v = noted_or new v ∙ (get_or-set_other weights next.at.0 v (Some w) None other ∙ sym (noted_or weights v)) in
          elim (so_far v) as (λ _. (noted new v ≡ site_weight program v) ⊎ ((noted new v ≡ None) × ((x : ℕ) → Contains (take (i + 1) writes) (use_of v x) → ⊥))) [
            | inl had ↦ inl (value ∙ had)
            | inr none ↦ inr (
              value ∙ none.0,
              λ x h. elim (Contains-push_cases (take i writes) next (use_of v x) (subst (λ l. Contains l (use_of v x)) (take_more writes i d lt) h)) as (λ _. ⊥) [
                | inl there ↦ none.1 x there
                | inr e ↦ other (sym (ap (λ (u : Use). u.at.0) e))
              ],
            )
          ]
    ]

pub noted_all : (program : Program) (writes : List Use) (i : ℕ) (weights : List (Option ℕ)) → length writes ≤ i → ((s : ℕ) → IsSite program s → (x : ℕ) × Contains writes (use_of s x))
    → NotedFirst program writes i weights → (v : ℕ) → noted weights v ≡ site_weight program v
noted_all program writes i weights past sites so_far v =
    elim (so_far v) as (λ _. noted weights v ≡ site_weight program v) [
      | inl had ↦ had
      | inr none ↦ none.0 ∙ sym (by (site_weight program v) refl none.1)
    ]
  where
    by : (o : Option ℕ) → site_weight program v ≡ o → ((x : ℕ) → Contains (take i writes) (use_of v x) → ⊥) → o ≡ None
    by None e never = refl
    by (Some w) e never =
        let found = sites v (subst (λ o. IsSome o) (sym e) refl) in
        absurd (never found.0 (subst (λ l. Contains l (use_of v found.0)) (sym (take_all i writes past)) found.1))
