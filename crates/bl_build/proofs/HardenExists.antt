-- Each well-formed program that has an image can be hardened: its network has a maximum flow, whose cut and walks are the choice of
-- protects and their certificate.
use Rattle.std.proofs.Common.{◌≡◌, ◌↔◌, ℕ, zero, suc, ◌+◌, ◌<◌, ◌≤◌, Bool, cond, List, [], ◌∷◌, ◌++◌, length, map, Option, Some, None, slice_get, slice_index, unwrap_or, nat_eq, ◌⊎◌, inl, inr, refl, sym, ap, ◌∙◌, subst, arith}
use Rattle.std.specs.Prelude.{IsSome}
use Rattle.std.specs.List.{Contains, range_with_len}
use Rattle.std.proofs.lemmas.Bool.{cases_eq, cases_lt, eq-eqb, false≢true, ne_eqb}
use Rattle.std.proofs.lemmas.List.Elements.{Contains-append_cases, Contains-append_left, Contains-append_right}
use Rattle.bl_base.proofs.Members.{first_in, from_map, in_cases, in_map, later_in, none_in}
use Rattle.bl_base.proofs.Classical.{NotFalse, either}
use Rattle.bl_program.specs.Programs.{IsProgram}
use Rattle.bl_program.specs.Rules.{IsWellFormed}
use Rattle.bl_program.specs.Sites.{IsLoad, Reads, SinkReads, Writes, site_weight}
use Rattle.bl_program.specs.declared.definitions.ProgramParts.{ProgramParts as Program}
use Rattle.bl_format.specs.Image.{Image}
use Rattle.bl_flow.specs.Cuts.{cut_of}
use Rattle.bl_flow.specs.declared.network.Arc.{Arc}
use Rattle.bl_flow.specs.declared.network.FlowResult.{FlowResult}
use Rattle.bl_flow.specs.declared.network.Network.{Network}
use Rattle.bl_flow.proofs.MaxFlowExistence.{some_flow}
use Rattle.bl_graph.specs.Certificates.{Certifies}
use Rattle.bl_graph.specs.Graphs.{use_of}
use Rattle.bl_graph.specs.Names.{AreNames, place_of}
use Rattle.bl_graph.specs.Ranges.{AreInRange, commands, variables}
use Rattle.bl_graph.specs.declared.certificate.Certificate.{Certificate}
use Rattle.bl_graph.specs.declared.certificate.FlowPath.{FlowPath}
use Rattle.bl_graph.specs.declared.facts.Use.{Use}
use Rattle.bl_graph.proofs.NameLemmas.{all_are_names, place_in_range}
use Rattle.bl_graph.proofs.RangeLemmas.{in_range}
use Rattle.bl_graph.proofs.CommandLists.{Lists, lists_of}
use Rattle.bl_transient.specs.Transient.{nothing}
use Rattle.bl_flow.specs.MaxFlow.{IsMaxFlow}
use Rattle.bl_cut.specs.Choices.{KnowsSinks, path_of}
use Rattle.bl_cut.specs.Least.{Least}
use Rattle.bl_cut.specs.Marks.{protected}
use Rattle.bl_cut.specs.Network.{ArcKind, IsBarred, IsEndUnder, IsFirstSite, IsAskedNode, IsNetwork, node_of, read, read_arc, sink_node, write, write_arc}
use Rattle.bl_cut.proofs.NearestCuts.{certified, is_least}
use Rattle.bl_cut.proofs.PassingCuts.{bounded, in_range as network_in_range, total}
use Rattle.bl_cut.proofs.MarkedPrograms.{certifies_on, is_program, is_well_formed}
use Rattle.bl_build.specs.HardenStage.{Hardened, IsHardened}
use Rattle.bl_build.proofs.ProtectedImages.{protected_image}
use Rattle.bl_build.proofs.VerdictsTotal.{some_label_verdict, table, table_at, table_length, table_past}

-- ---- lists

-- of so many numbers those with a property
subset : (P : ℕ → Type 0) (count : ℕ) → NotFalse ((xs : List ℕ) × ((s : ℕ) → Contains xs s ↔ ((s < count) × P s)))
subset P zero wrong = wrong ([], λ s. (λ h. absurd (none_in s h), λ h. absurd (let lt = h.0 in omega arith)))
subset P (suc count) wrong =
    subset P count (λ rest. either (P count) (λ cases. elim cases as (λ _. ⊥) [
      | inl is ↦ wrong (
        count ∷ rest.0,
        λ s. (
          λ h. elim (in_cases count s rest.0 h) as (λ _. (s < suc count) × P s) [ inl e ↦ (omega arith, subst P e is) | inr there ↦ let r = (rest.1 s).0 there in let lt = r.0 in (omega arith, r.1) ],
          λ h. let lt = h.0 in elim (cases_lt s count) as (λ _. Contains (count ∷ rest.0) s) [
            | inl less ↦ later_in count s rest.0 ((rest.1 s).1 (less, h.1))
            | inr past ↦ let e : count ≡ s = omega arith in subst (Contains (count ∷ rest.0)) e (first_in count rest.0)
          ],
        ),
      )
      | inr without ↦ wrong (
        rest.0,
        λ s. (
          λ h. let r = (rest.1 s).0 h in let lt = r.0 in (omega arith, r.1),
          λ h. let lt = h.0 in elim (cases_lt s count) as (λ _. Contains rest.0 s) [
            | inl less ↦ (rest.1 s).1 (less, h.1)
            | inr past ↦ let e : s ≡ count = omega arith in absurd (without (subst P e h.1))
          ],
        ),
      )
    ]))

numbers : ℕ → (ℕ → ℕ) → List ℕ
numbers zero f = []
numbers (suc count) f = f 0 ∷ numbers count (λ x. f (suc x))

numbers_at : (count : ℕ) (f : ℕ → ℕ) (x : ℕ) → x < count → slice_index (numbers count f) x ≡ f x
unfolding numbers
numbers_at zero f x lt = absurd (omega arith)
numbers_at (suc count) f zero lt = refl
numbers_at (suc count) f (suc x) lt = numbers_at count (λ x. f (suc x)) x (omega arith)

-- the first of the uses of a variable
abbrev use_at : List Use → ℕ → ℕ
use_at [] x = 0
use_at (one ∷ uses) x = cond (nat_eq one.var.0 x) one.at.0 (use_at uses x)

use_in : (uses : List Use) (position x : ℕ) → Contains uses (use_of position x) → Contains uses (use_of (use_at uses x) x)
use_in [] position x h = absurd (none_in (use_of position x) h)
use_in (one ∷ uses) position x h =
    elim (cases_eq one.var.0 x) as (λ _. Contains (one ∷ uses) (use_of (use_at (one ∷ uses) x) x)) [
      | inl same ↦
          let value : use_at (one ∷ uses) x ≡ one.at.0 = ap (λ b. cond b one.at.0 (use_at uses x)) (eq-eqb one.var.0 x same) in
          subst (λ a. Contains (one ∷ uses) (use_of a x)) (sym value) (subst (λ v. Contains (one ∷ uses) (use_of one.at.0 v)) same (first_in one uses))
      | inr other ↦
          let value : use_at (one ∷ uses) x ≡ use_at uses x = ap (λ b. cond b one.at.0 (use_at uses x)) (ne_eqb one.var.0 x other) in
          let rest : Contains uses (use_of position x) =
          elim (in_cases one (use_of position x) uses h) as (λ _. Contains uses (use_of position x)) [ inl e ↦ absurd (other (ap (λ (u : Use). u.var.0) e)) | inr there ↦ there ] in
          subst (λ a. Contains (one ∷ uses) (use_of a x)) (sym value) (later_in one (use_of (use_at uses x) x) uses (use_in uses position x rest))
    ]

-- ---- the network of a program

module _ (program : Program) (facts : IsProgram program) (rules : IsWellFormed program) where
  is : AreInRange program
  is = in_range program facts rules

  lists : Lists program
  lists = lists_of program

  -- all variables, each the number of itself
  names : List ℕ
  names = range_with_len 0 (variables program)

  named : AreNames program names
  unfolding names
  named = all_are_names program is

  own_place : (x : ℕ) → x < variables program → place_of names x ≡ x
  unfolding names
  own_place x lt = place_in_range (variables program) x lt

  arcs : List Arc
  arcs = map (write_arc names (commands program)) lists.writes ++ map (read_arc names (commands program)) lists.reads

  arc_kind : (u v : ℕ) → Contains arcs (record { from = u; to = v }) → ArcKind program names u v
  unfolding arcs
  arc_kind u v h =
      elim (Contains-append_cases (map (write_arc names (commands program)) lists.writes) (map (read_arc names (commands program)) lists.reads) (record { from = u; to = v }) h) as (λ _. ArcKind program names u v) [
        | inl w ↦
            let found = from_map (write_arc names (commands program)) lists.writes (record { from = u; to = v }) w in
            let from : found.0.at.0 ≡ u = ap (λ (a : Arc). a.from) found.2 in
            let to : node_of program names found.0.var.0 ≡ v = ap (λ (a : Arc). a.to) found.2 in
            write found.0.var.0 (subst (λ s. Writes program s found.0.var.0) from ((lists.writes_are found.0.at.0 found.0.var.0).0 found.1)) (sym to)
        | inr r ↦
            let found = from_map (read_arc names (commands program)) lists.reads (record { from = u; to = v }) r in
            let from : node_of program names found.0.var.0 ≡ u = ap (λ (a : Arc). a.from) found.2 in
            let to : found.0.at.0 ≡ v = ap (λ (a : Arc). a.to) found.2 in
            read found.0.var.0 (subst (λ s. Reads program s found.0.var.0) to ((lists.reads_are found.0.at.0 found.0.var.0).0 found.1)) (sym from)
      ]

  arc_of : (u v : ℕ) → ArcKind program names u v → Contains arcs (record { from = u; to = v })
  unfolding arcs
  arc_of u v (write x writes e) =
      subst (λ w. Contains arcs (record { from = u; to = w })) (sym e)
      (Contains-append_left (map (write_arc names (commands program)) lists.writes) (map (read_arc names (commands program)) lists.reads) (record { from = u; to = node_of program names x })
      (in_map (write_arc names (commands program)) lists.writes (use_of u x) ((lists.writes_are u x).1 writes)))
  arc_of u v (read x reads e) =
      subst (λ w. Contains arcs (record { from = w; to = v })) (sym e)
      (Contains-append_right (map (write_arc names (commands program)) lists.writes) (map (read_arc names (commands program)) lists.reads) (record { from = node_of program names x; to = v })
      (in_map (read_arc names (commands program)) lists.reads (use_of v x) ((lists.reads_are v x).1 reads)))

  ends : List ℕ
  ends = map (sink_node names (commands program)) lists.sinks

  end_kind : (v : ℕ) → Contains ends v → IsEndUnder nothing program names v
  unfolding ends
  end_kind v h =
      let found = from_map (sink_node names (commands program)) lists.sinks v h in
      let sink = (lists.sinks_are found.0.at.0 found.0.var.0).0 found.1 in
      (found.0.var.0, sym found.2, named.sinks found.0.at.0 found.0.var.0 sink, inl (found.0.at.0, sink))

  barred_in : (x : ℕ) → IsBarred nothing program x → Contains ends (node_of program names x)
  unfolding ends
  barred_in x (inl sink) = in_map (sink_node names (commands program)) lists.sinks (use_of sink.0 x) ((lists.sinks_are sink.0 x).1 sink.1)
  barred_in x (inr stable) = absurd (false≢true stable)

  end_of : (v : ℕ) → IsEndUnder nothing program names v → Contains ends v
  end_of v end = subst (Contains ends) (sym end.1) (barred_in end.0 end.3)

  weights : List (Option ℕ)
  weights = table (commands program + length names) (site_weight program)

  many : length weights ≡ commands program + length names
  unfolding weights
  many = table_length (commands program + length names) (site_weight program)

  no_site : (o : Option ℕ) (v : ℕ) → commands program ≤ v → site_weight program v ≡ o → o ≡ None
  no_site None v past e = refl
  no_site (Some w) v past e = let lt = is.sites v (subst (λ o. IsSome o) (sym e) refl) in absurd (omega arith)

  weighed : (v : ℕ) → unwrap_or (slice_get weights v) None ≡ site_weight program v
  unfolding weights
  weighed v =
      elim (cases_lt v (commands program + length names)) as (λ _. unwrap_or (slice_get weights v) None ≡ site_weight program v) [
        | inl lt ↦ ap (λ o. unwrap_or o None) (table_at (commands program + length names) (site_weight program) v lt)
        | inr past ↦
            ap (λ o. unwrap_or o None) (table_past (commands program + length names) (site_weight program) v past)
            ∙ sym (no_site (site_weight program v) v (omega arith) refl)
      ]

  sink_of : List ℕ
  sink_of = numbers (variables program) (use_at lists.sinks)

  knows : KnowsSinks program names sink_of
  unfolding sink_of
  knows = record {
    each = λ position x reads.
        let small = (is.sinks position x reads).1 in
        subst (λ a. SinkReads program a x) (sym (ap (slice_index (numbers (variables program) (use_at lists.sinks))) (own_place x small) ∙ numbers_at (variables program) (use_at lists.sinks) x small))
        ((lists.sinks_are (use_at lists.sinks x) x).0 (use_in lists.sinks position x ((lists.sinks_are position x).1 reads)));
  }

  module _ (starts : List ℕ) (begin : (s : ℕ) → Contains starts s ↔ ((s < commands program) × IsLoad program s)) where
    start_in : (s : ℕ) → IsFirstSite nothing program s ⊎ IsAskedNode nothing program names s → Contains starts s
    start_in s (inl (inl load)) = (begin s).1 (is.sites s (is.loads s load), load)
    start_in s (inl (inr one)) = absurd (false≢true one.2)
    start_in s (inr transient) = absurd (false≢true transient.3)

    network : Network
    network = record { weights = weights; arcs = arcs; starts = starts; ends = ends }

    is_network : IsNetwork program names network
    unfolding network
    is_network = record {
      named = named;
      transient_named = λ x transient. absurd (false≢true transient);
      stable_named = λ x stable. absurd (false≢true stable);
      size_is = many;
      weights = weighed;
      arcs = λ u v. (arc_kind u v, arc_of u v);
      starts = λ s. ((λ h. inl (inl ((begin s).0 h).1)), start_in s);
      ends = λ v. (end_kind v, end_of v);
    }

    found : (r : FlowResult) × IsMaxFlow network r
    found = some_flow network (network_in_range nothing program names is network is_network) (bounded nothing program names is network is_network (λ x transient. absurd (false≢true transient))) (total nothing program names is network is_network)

    abbrev set : ℕ → Bool
    set = cut_of found.0.cut

    least : Least program set
    least = is_least program names is network is_network found.0 found.1

    paths : List FlowPath
    paths = map (path_of (commands program) sink_of) found.0.paths

    certificate : Certificate
    certificate = record { paths = paths; weight = found.0.cut.weight }

    certifies : Certifies (protected set program) certificate
    unfolding certificate paths
    certifies = certifies_on set program least.sites certificate (certified program names is network is_network found.0 found.1 sink_of knows)

    made : (own : List ℕ) → Image program own → (hardened : Hardened) × IsHardened program hardened
    made own image =
        let after = is_program set program facts in
        let verdict = some_label_verdict (protected set program) after (is_well_formed set program rules) in
        let marked = protected_image set program own after image in (
          record { program = protected set program; certificate = certificate; verdict = verdict.0; image = marked.0 },
          record { set = set; least = least; is_program = refl; certified = certifies; judged = verdict.1; image = marked.1 },
        )

-- it can't be that a program isn't hardened
pub some_hardened : (program : Program) (own : List ℕ) → IsWellFormed program → Image program own → ((hardened : Hardened) → IsHardened program hardened → ⊥) → ⊥
some_hardened program own rules image none =
    subset (IsLoad program) (commands program) (λ starts. let made = made program image.is_program rules starts.0 starts.1 own image in none made.0 made.1)
