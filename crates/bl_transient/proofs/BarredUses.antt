-- The uses that may not be of transient variables, and the least position of one that is.
use Rattle.std.proofs.Common.{◌≡◌, ℕ, Bool, true, false, List, [], ◌∷◌, ◌++◌, Option, Some, None, slice_get, refl, sym, ap, subst, ◌∙◌, inl, inr, not}
use Rattle.std.specs.Prelude.{IsTrue, ◌↔◌}
use Rattle.std.specs.List.{Contains}
use Rattle.std.proofs.lemmas.List.Elements.{Contains-append_cases, Contains-append_left, Contains-append_right}
use Rattle.std.proofs.lemmas.Option.{none-some, same_Some}
use Rattle.bl_base.specs.declared.number.Pos.{Pos}
use Rattle.bl_base.proofs.Members.{first_in, in_cases, later_in, none_in}
use Rattle.bl_program.specs.Sites.{Writes}
use Rattle.bl_program.specs.declared.definitions.ProgramParts.{ProgramParts as Program}
use Rattle.bl_graph.specs.Arcs.{is_in}
use Rattle.bl_graph.specs.Graphs.{use_of, IsGraph}
use Rattle.bl_graph.specs.Names.{AreNames, place_of}
use Rattle.bl_graph.specs.declared.facts.Graph.{Graph}
use Rattle.bl_graph.specs.declared.facts.Use.{Use}
use Rattle.bl_graph.proofs.NameLemmas.{at_place, reads_named, sinks_named, uses_are, writes_named}
use Rattle.bl_graph.specs.WrittenVariables.{AreUnprotected, noted}
use Rattle.bl_transient.specs.Reachability.{FirstSink, stable_loads, stable_noted, stable_one, stable_reads, kept_if, noted_load, noted_read}
use Rattle.bl_transient.specs.Transient.{Asked, PassesUnder, TransUnder, given, loaded, moved}
use Rattle.bl_transient.specs.Verdicts.{AreBars, Bars, IsBad, IsFirstBad, load, loaded_stable, read, sink, site, sunk}
use Rattle.bl_transient.proofs.NamedSearch.{free_back, read_back, reads, sinks, writes}
use Rattle.bl_transient.proofs.LeastTypings.{passes_under_if}

-- ---- what is noted for a position and marked

kept_from : (b : Bool) (x y : ℕ) → kept_if b x ≡ Some y → IsTrue b × (x ≡ y)
kept_from true x y e = (refl, same_Some x y e)
kept_from false x y e = absurd (none-some y e)

stable_from : (stable : List Bool) (o : Option ℕ) (y : ℕ) → stable_one stable o ≡ Some y → (o ≡ Some y) × IsTrue (is_in stable y)
stable_from stable None y e = absurd (none-some y e)
stable_from stable (Some x) y e = let kept = kept_from (is_in stable x) x y e in (ap Some kept.1, subst (λ z. IsTrue (is_in stable z)) kept.1 kept.0)

stable_in : (stable : List Bool) (o : Option ℕ) (y : ℕ) → o ≡ Some y → IsTrue (is_in stable y) → stable_one stable o ≡ Some y
stable_in stable o y e is = ap (stable_one stable) e ∙ ap (λ b. kept_if b y) is

-- the reads and loads of sites that write a marked variable
module _ (written : List (Option ℕ)) (stable : List Bool) where
  one_read : (r : Use) (o : Option ℕ) (u : Use) → Contains (noted_read r o) u → (r ≡ u) × ((y : ℕ) × (o ≡ Some y))
  one_read r None u h = absurd (none_in u h)
  one_read r (Some y) u h = elim (in_cases r u [] h) as (λ _. (r ≡ u) × ((z : ℕ) × (Some y ≡ Some z))) [ inl e ↦ (e, (y, refl)) | inr rest ↦ absurd (none_in u rest) ]

  read_one : (r : Use) (o : Option ℕ) (y : ℕ) → o ≡ Some y → Contains (noted_read r o) r
  read_one r None y e = absurd (none-some y e)
  read_one r (Some x) y e = first_in r []

  stable_read_from : (all : List Use) (u : Use) → Contains (stable_reads written stable all) u → Contains all u × ((y : ℕ) × (stable_noted written stable u.at.0 ≡ Some y))
  stable_read_from [] u h = absurd (none_in u h)
  stable_read_from (r ∷ all) u h =
      elim (Contains-append_cases (noted_read r (stable_noted written stable r.at.0)) (stable_reads written stable all) u h) as (λ _. Contains (r ∷ all) u × ((y : ℕ) × (stable_noted written stable u.at.0 ≡ Some y))) [
        | inl here ↦
            let one = one_read r (stable_noted written stable r.at.0) u here in
            (subst (Contains (r ∷ all)) one.0 (first_in r all), (one.1.0, ap (λ (v : Use). stable_noted written stable v.at.0) (sym one.0) ∙ one.1.1))
        | inr rest ↦ let found = stable_read_from all u rest in (later_in r u all found.0, found.1)
      ]

  stable_read_in : (all : List Use) (u : Use) (y : ℕ) → Contains all u → stable_noted written stable u.at.0 ≡ Some y → Contains (stable_reads written stable all) u
  stable_read_in [] u y h e = absurd (none_in u h)
  stable_read_in (r ∷ all) u y h e =
      elim (in_cases r u all h) as (λ _. Contains (stable_reads written stable (r ∷ all)) u) [
        | inl same ↦
            Contains-append_left (noted_read r (stable_noted written stable r.at.0)) (stable_reads written stable all) u
            (subst (Contains (noted_read r (stable_noted written stable r.at.0))) same (read_one r (stable_noted written stable r.at.0) y (ap (λ (v : Use). stable_noted written stable v.at.0) same ∙ e)))
        | inr rest ↦ Contains-append_right (noted_read r (stable_noted written stable r.at.0)) (stable_reads written stable all) u (stable_read_in all u y rest e)
      ]

  one_load : (s : ℕ) (o : Option ℕ) (position y : ℕ) → Contains (noted_load s o) (use_of position y) → (s ≡ position) × (o ≡ Some y)
  one_load s None position y h = absurd (none_in (use_of position y) h)
  one_load s (Some x) position y h =
      elim (in_cases (use_of s x) (use_of position y) [] h) as (λ _. (s ≡ position) × (Some x ≡ Some y)) [
        | inl e ↦ (ap (λ (u : Use). u.at.0) e, ap (λ (u : Use). Some u.var.0) e)
        | inr rest ↦ absurd (none_in (use_of position y) rest)
      ]

  load_one : (s : ℕ) (o : Option ℕ) (y : ℕ) → o ≡ Some y → Contains (noted_load s o) (use_of s y)
  load_one s None y e = absurd (none-some y e)
  load_one s (Some x) y e = subst (λ z. Contains (noted_load s (Some x)) (use_of s z)) (same_Some x y e) (first_in (use_of s x) [])

  stable_load_from : (all : List Pos) (position y : ℕ) → Contains (stable_loads written stable all) (use_of position y) → Contains all (record { 0 = position }) × (stable_noted written stable position ≡ Some y)
  stable_load_from [] position y h = absurd (none_in (use_of position y) h)
  stable_load_from (s ∷ all) position y h =
      elim (Contains-append_cases (noted_load s.0 (stable_noted written stable s.0)) (stable_loads written stable all) (use_of position y) h) as (λ _. Contains (s ∷ all) (record { 0 = position }) × (stable_noted written stable position ≡ Some y)) [
        | inl here ↦
            let one = one_load s.0 (stable_noted written stable s.0) position y here in
            (subst (λ p. Contains (s ∷ all) (record { 0 = p })) one.0 (first_in s all), ap (stable_noted written stable) (sym one.0) ∙ one.1)
        | inr rest ↦ let found = stable_load_from all position y rest in (later_in s (record { 0 = position }) all found.0, found.1)
      ]

  stable_load_in : (all : List Pos) (position y : ℕ) → Contains all (record { 0 = position }) → stable_noted written stable position ≡ Some y → Contains (stable_loads written stable all) (use_of position y)
  stable_load_in [] position y h e = absurd (none_in (let p : Pos = record { 0 = position } in p) h)
  stable_load_in (s ∷ all) position y h e =
      elim (in_cases s (record { 0 = position }) all h) as (λ _. Contains (stable_loads written stable (s ∷ all)) (use_of position y)) [
        | inl same ↦
            let at : s.0 ≡ position = ap (λ (p : Pos). p.0) same in
            Contains-append_left (noted_load s.0 (stable_noted written stable s.0)) (stable_loads written stable all) (use_of position y)
            (subst (λ p. Contains (noted_load s.0 (stable_noted written stable s.0)) (use_of p y)) at (load_one s.0 (stable_noted written stable s.0) y (ap (stable_noted written stable) at ∙ e)))
        | inr rest ↦ Contains-append_right (noted_load s.0 (stable_noted written stable s.0)) (stable_loads written stable all) (use_of position y) (stable_load_in all position y rest e)
      ]

-- ---- the uses of a program

module _ (asked : Asked) (program : Program) (g : Graph) (are : IsGraph program g) (names : List ℕ) (named : AreNames program names) (set : ℕ → Bool) (written : List (Option ℕ))
    (free : AreUnprotected (writes program g are names named) set written) (stable : List Bool) (stable_exact : (i x : ℕ) → slice_get names i ≡ Some x → IsTrue (is_in stable i) ↔ IsTrue (asked.stable x)) where
  abbrev pub bars : List Use
  bars = sinks program g are names named ++ (stable_reads written stable (reads program g are names named) ++ stable_loads written stable g.loads)

  -- what is noted for a position and marked is what the site there, which isn't protected, writes, and is to be stable
  record Stops (position j : ℕ) : Type 0 where
    var : ℕ
    at : slice_get names j ≡ Some var
    wrote : Writes program position var
    may : IsTrue (not (set position))
    is_stable : IsTrue (asked.stable var)

  stops : (position j : ℕ) → stable_noted written stable position ≡ Some j → Stops position j
  stops position j e =
      let found = stable_from stable (noted written position) j e in
      let x = free_back program g are names named set written free position j found.0 in
      record {
        var = x.0;
        at = x.1;
        wrote = (are.writes.each position x.0).0 x.2;
        may = ((free.each position j).0 found.0).1;
        is_stable = (stable_exact j x.0 x.1).0 found.1;
      }

  -- and the other way round
  stopped : (position y : ℕ) → Writes program position y → IsTrue (not (set position)) → IsTrue (asked.stable y)
      → (slice_get names (place_of names y) ≡ Some y) × (stable_noted written stable position ≡ Some (place_of names y))
  stopped position y wrote may is =
      let at = at_place names y named.rise (named.writes position y wrote) in
      let held = (uses_are names named.rise g.writes (writes_named program g names are named) position (place_of names y)).1 (y, at, (are.writes.each position y).1 wrote) in
      (at, stable_in stable (noted written position) (place_of names y) ((free.each position (place_of names y)).1 (held, may)) ((stable_exact (place_of names y) y at).1 is))

  sound : (position i : ℕ) → Contains bars (use_of position i) → (x : ℕ) × (slice_get names i ≡ Some x) × Bars asked program set position x
  sound position i h =
      elim (Contains-append_cases (sinks program g are names named) (stable_reads written stable (reads program g are names named) ++ stable_loads written stable g.loads) (use_of position i) h)
      as (λ _. (x : ℕ) × (slice_get names i ≡ Some x) × Bars asked program set position x) [
        | inl in_sinks ↦
            let x = (uses_are names named.rise g.sinks (sinks_named program g names are named) position i).0 in_sinks in
            (x.0, x.1, sunk ((are.sinks.each position x.0).0 x.2))
        | inr rest ↦
            elim (Contains-append_cases (stable_reads written stable (reads program g are names named)) (stable_loads written stable g.loads) (use_of position i) rest)
            as (λ _. (x : ℕ) × (slice_get names i ≡ Some x) × Bars asked program set position x) [
              | inl in_reads ↦
                  let found = stable_read_from written stable (reads program g are names named) (use_of position i) in_reads in
                  let stop = stops position found.1.0 found.1.1 in
                  let x = read_back program g are names named set written free position i found.0 in
                  (x.0, x.1, read stop.var ((are.reads.each position x.0).0 x.2) stop.wrote stop.may stop.is_stable)
              | inr in_loads ↦
                  let found = stable_load_from written stable g.loads position i in_loads in
                  let stop = stops position i found.1 in
                  (stop.var, stop.at, loaded_stable ((are.loads position).0 found.0) stop.wrote stop.may stop.is_stable)
            ]
      ]

  full : (position x : ℕ) → Bars asked program set position x → (i : ℕ) × (slice_get names i ≡ Some x) × Contains bars (use_of position i)
  full position x (sunk reads_) =
      let at = at_place names x named.rise (named.sinks position x reads_) in (
        place_of names x,
        at,
        Contains-append_left (sinks program g are names named) (stable_reads written stable (reads program g are names named) ++ stable_loads written stable g.loads) (use_of position (place_of names x))
            ((uses_are names named.rise g.sinks (sinks_named program g names are named) position (place_of names x)).1 (x, at, (are.sinks.each position x).1 reads_)),
      )
  full position x (read y reads_ wrote may is) =
      let at = at_place names x named.rise (named.reads position x reads_) in
      let stop = stopped position y wrote may is in
      let held = (uses_are names named.rise g.reads (reads_named program g names are named) position (place_of names x)).1 (x, at, (are.reads.each position x).1 reads_) in (
        place_of names x,
        at,
        Contains-append_right (sinks program g are names named) (stable_reads written stable (reads program g are names named) ++ stable_loads written stable g.loads) (use_of position (place_of names x))
            (Contains-append_left (stable_reads written stable (reads program g are names named)) (stable_loads written stable g.loads) (use_of position (place_of names x))
            (stable_read_in written stable (reads program g are names named) (use_of position (place_of names x)) (place_of names y) held stop.1)),
      )
  full position x (loaded_stable load_ wrote may is) =
      let stop = stopped position x wrote may is in (
        place_of names x,
        stop.0,
        Contains-append_right (sinks program g are names named) (stable_reads written stable (reads program g are names named) ++ stable_loads written stable g.loads) (use_of position (place_of names x))
            (Contains-append_right (stable_reads written stable (reads program g are names named)) (stable_loads written stable g.loads) (use_of position (place_of names x))
            (stable_load_in written stable g.loads position (place_of names x) ((are.loads position).1 load_) stop.1)),
      )

  -- they are exactly what may not be transient, by numbers
  pub are_bars : AreBars asked program set names bars
  are_bars = record { sound = sound; full = full }

-- ---- the verdict

-- what is transient and asked to be stable makes a bad position, where nothing is asked to be both
pub stable_bad : (asked : Asked) (program : Program) (set : ℕ → Bool) → ((x : ℕ) → IsTrue (asked.transient x) → IsTrue (asked.stable x) → ⊥) → (x : ℕ) → IsTrue (asked.stable x)
    → TransUnder asked program set x → (position : ℕ) × IsBad asked program set position
stable_bad asked program set apart x is (loaded s _ load_ wrote may) = (s, load x load_ wrote may is)
stable_bad asked program set apart x is (moved s y _ reads_ wrote may t) = (s, site y x reads_ t wrote may is)
stable_bad asked program set apart x is (given _ transient) = absurd (apart x transient is)

module _ (asked : Asked) (program : Program) (names : List ℕ) (set : ℕ → Bool) (uses : List Use) (are : AreBars asked program set names uses) (marks : List Bool)
    (exact : (i x : ℕ) → slice_get names i ≡ Some x → IsTrue (is_in marks i) ↔ TransUnder asked program set x) where
  -- a position is bad exactly where it bars a variable that is transient
  bad_if : (position x : ℕ) → Bars asked program set position x → TransUnder asked program set x → IsBad asked program set position
  bad_if position x (sunk reads_) t = sink x reads_ t
  bad_if position x (read y reads_ wrote may is) t = site x y reads_ t wrote may is
  bad_if position x (loaded_stable load_ wrote may is) t = load x load_ wrote may is

  bad_then : (position : ℕ) → IsBad asked program set position → (x : ℕ) × Bars asked program set position x × TransUnder asked program set x
  bad_then position (sink x reads_ t) = (x, sunk reads_, t)
  bad_then position (load y load_ wrote may is) = (y, loaded_stable load_ wrote may is, loaded position y load_ wrote may)
  bad_then position (site x y reads_ t wrote may is) = (x, read y reads_ wrote may is, t)

  -- the first use of a marked variable stands at the first bad position
  pub first_bad : (position : ℕ) → FirstSink marks uses (Some position) → IsFirstBad asked program set position
  first_bad position first =
      let bar = are.sound position first.var first.sink in
      record {
        bad = bad_if position bar.0 bar.2 ((exact first.var bar.0 bar.1).0 first.transient);
        least = λ other bad.
            let bar = bad_then other bad in
            let held = are.full other bar.0 bar.1 in
            first.least other held.0 held.2 ((exact held.0 bar.0 held.1).1 bar.2);
      }

  -- with none, no position is bad
  none_bad : FirstSink marks uses None → (position : ℕ) → IsBad asked program set position → ⊥
  none_bad none position bad =
      let bar = bad_then position bad in
      let held = are.full position bar.0 bar.1 in
      none position held.0 held.2 ((exact held.0 bar.0 held.1).1 bar.2)

  -- where nothing is asked to be both
  pub none_passes : ((x : ℕ) → IsTrue (asked.transient x) → IsTrue (asked.stable x) → ⊥) → FirstSink marks uses None → PassesUnder asked program set
  none_passes apart none =
      passes_under_if asked program set (λ position x reads_ t. none_bad none position (sink x reads_ t))
      (λ x is t. let bad = stable_bad asked program set apart x is t in none_bad none bad.0 bad.1)
