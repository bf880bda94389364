-- The joined program is a program and keeps all rules.
use Rattle.std.proofs.Common.{◌-◌, ◌*◌, ◌≡◌, inl, inr, ℕ, ◌+◌, ◌<◌, ◌≤◌, Bool, true, List, ◌++◌, length, map, take, drop, get_or, refl, sym, ap, ◌∙◌, subst, arith}
use Rattle.std.specs.Prelude.{IsSome, IsSomeAnd, not}
use Rattle.std.specs.List.{All, AllPairs, filter}
use Rattle.std.proofs.lemmas.Bool.{false≢true}
use Rattle.std.proofs.lemmas.List.{length-append}
use Rattle.std.proofs.lemmas.List.Elements.{All-append, All-drop, All-filter, All-map, All-take, All-weaker}
use Rattle.std.proofs.lemmas.List.Kept.{AllPairs-filter}
use Rattle.bl_base.specs.Fits.{ArgumentFits}
use Rattle.bl_base.specs.Quantity.{limit_of}
use Rattle.bl_base.specs.declared.quantity.Quantity.TheVariants as quantity
use Rattle.bl_base.specs.declared.names.Label.TheVariants.{Public}
use Rattle.bl_base.proofs.PairwiseLemmas.{Unlike, apart_from_pairs, cross, pairs_append, pairs_from_apart, pairs_map, passes, some_within}
use Rattle.bl_ops.specs.declared.op.Op.{Op}
use Rattle.bl_program.specs.Layout.{first_of, entry_of, results_of}
use Rattle.bl_program.specs.Programs.{ArePadded, IsCommand, IsProgram}
use Rattle.bl_program.specs.Sites.{weight_of}
use Rattle.bl_program.specs.Rules.{IsDemand, IsFunction, IsMemory, IsWeight, IsWellFormed, Precedes, Rule1, Rule2, Rule3, Rule9}
use Rattle.bl_program.specs.declared.command.Command.{Command}
use Rattle.bl_program.specs.declared.command.Command.TheVariants.{Set, Load, Store}
use Rattle.bl_program.specs.declared.command.Operand.{Operand}
use Rattle.bl_program.specs.declared.definitions.Demand.{Demand}
use Rattle.bl_program.specs.declared.definitions.Demand.TheVariants as demand
use Rattle.bl_program.specs.declared.definitions.ExportDef.{ExportDef}
use Rattle.bl_program.specs.declared.definitions.GlobalDef.{GlobalDef}
use Rattle.bl_program.specs.declared.definitions.MemoryDef.{MemoryDef}
use Rattle.bl_program.specs.declared.definitions.SiteWeight.{SiteWeight}
use Rattle.bl_program.specs.declared.definitions.ProgramParts.{ProgramParts as Program}
use Rattle.bl_program.proofs.AppendLemmas.{get_left, get_right, sum_right}
use Rattle.bl_iface.specs.JoinedProgram.{CanJoin, reserve_of, Renaming, client_numbers, is_result, joined, kept, library_numbers, library_shift, moved_demand, moved_position, pos_by, operand_by, renamed}
use Rattle.bl_iface.specs.declared.iface.Iface.{Iface}
use Rattle.bl_iface.specs.declared.limits.Sum.{Sum}
use Rattle.bl_iface.proofs.ShiftedPart.{moved_above, results_same}
use Rattle.bl_iface.proofs.JoinedWeights.{client_weight, library_weight, site_behind, weights_both}
use Rattle.bl_iface.proofs.JoinedRules.{keeps}
use Rattle.bl_iface.proofs.PartPlaces.{client_long, client_stands, library_stands, trap_at, whole_length}

-- ---- a program

padded : (n : Renaming) (op : Op) (b c : Operand) → ArePadded op b c → ArePadded op (operand_by n.read b) (operand_by n.read c)
padded n op b c h = (λ lt. ap (operand_by n.read) (h.0 lt), λ lt. ap (operand_by n.read) (h.1 lt))

is_command : (n : Renaming) (c : Command) → IsCommand c → IsCommand (renamed n c)
is_command n (Set mark op to a b c) h = padded n op b c h
is_command n (Load mark kind memory to offset address) h = h
is_command n (Store kind memory offset address value) h = h
is_command n _ h = tt

are_commands : (n : Renaming) (cs : List Command) → All IsCommand cs → All IsCommand (map (renamed n) (drop 7 cs))
are_commands n cs h = All-map IsCommand (renamed n) (drop 7 cs) (All-weaker IsCommand (λ c. IsCommand (renamed n c)) (is_command n) (drop 7 cs) (All-drop IsCommand 7 cs h))

no_sum : Sum
no_sum = record { which = quantity.Weight; value = 0; most = 0 }

module _ (client library : Program) (iface : Iface) (facts : IsProgram client) (other_facts : IsProgram library) where
  abbrev whole : Program
  whole = joined client library iface

  -- all functions of both
  functions_length : length whole.functions ≡ length client.functions + length library.functions
  functions_length = length-append client.functions library.functions

  pub joined_is : IsProgram (joined client library iface)
  joined_is = record {
    commands = All-append IsCommand (take 7 client.commands) _ (All-take IsCommand 7 client.commands facts.commands)
        (All-append IsCommand _ _ (are_commands (client_numbers iface client library) client.commands facts.commands)
        (are_commands (library_numbers client library) library.commands other_facts.commands));
    traps = λ p lt. let trap = facts.traps p lt in (trap.0, trap.1, trap_at client library iface facts other_facts p lt ∙ trap.2);
    lengths =
        let many = whole_length client library iface facts other_facts in
        let all = facts.lengths in let all' = other_facts.lengths in
        let ends = (library_stands client library iface facts other_facts).entries (length library.functions) (omega arith) in
        many ∙ omega arith ∙ sym ends ∙ ap (entry_of whole) (sym functions_length);
  }

  -- ---- rules 1 to 3

  module _ (well : IsWellFormed client) (other_well : IsWellFormed library) (can : CanJoin client library iface) where
    -- the sums
    pub functions_fit : length client.functions + length library.functions ≤ limit_of quantity.Modules * limit_of quantity.Functions
    functions_fit = can.limits 0 no_sum (omega arith)

    reserves_fit : reserve_of client + reserve_of library ≤ limit_of quantity.Reserve
    reserves_fit = can.limits 1 no_sum (omega arith)

    pub variables_fit : first_of client (length client.functions) + first_of library (length library.functions) ≤ limit_of quantity.Variables
    variables_fit = can.limits 2 no_sum (omega arith)

    pub commands_fit : length client.commands + (length library.commands - 7) ≤ limit_of quantity.Commands
    commands_fit = can.limits 3 no_sum (omega arith)

    weights_fit : weight_of client (λ _. true) + weight_of library (λ _. true) ≤ limit_of quantity.Weight
    weights_fit = can.limits 4 no_sum (omega arith)

    rule1 : Rule1 whole
    rule1 = record {
      memories = All-append IsMemory client.memories library.memories well.rule1.memories other_well.rule1.memories;
      total =
          let long = length-append client.memories library.memories in
          let sum = sum_right (λ (memory : MemoryDef). memory.reserve) client.memories library.memories (length (client.memories ++ library.memories)) (length library.memories) long in
          let fits = reserves_fit in
          omega arith;
    }

    rule2 : Rule2 whole
    rule2 = record {
      functions = let long = functions_length in let fits = functions_fit in omega arith;
      each = All-append IsFunction client.functions library.functions well.rule2.each other_well.rule2.each;
      variables =
          let ends = (library_stands client library iface facts other_facts).firsts (length library.functions) (omega arith) in
          let same : first_of whole (length whole.functions) ≡ first_of library (length library.functions) + first_of client (length client.functions) =
          ap (first_of whole) functions_length ∙ ends in
          let fits = variables_fit in
          omega arith;
      commands = let many = whole_length client library iface facts other_facts in let fits = commands_fit in omega arith;
      globals = All-append (λ (global : GlobalDef). ArgumentFits global.kind global.first) client.globals library.globals well.rule2.globals other_well.rule2.globals;
    }

    abbrev name : ExportDef → List ℕ
    name export = export.name

    abbrev moved_export : ExportDef → ExportDef
    moved_export export = record { name = export.name; function = length client.functions + export.function }

    rule3 : Rule3 whole
    rule3 = record {
      distinct = apart_from_pairs name whole.exports (pairs_append (Unlike name) (kept iface client) (map moved_export library.exports)
          (AllPairs-filter (Unlike name) _ client.exports (pairs_from_apart name client.exports well.rule3.distinct))
          (pairs_map (Unlike name) moved_export library.exports (pairs_from_apart name library.exports other_well.rule3.distinct))
          (λ i d lt. All-map (Unlike name (get_or (kept iface client) i d)) moved_export library.exports (λ j e lt'. can.exports j e lt' i d lt)));
      exist =
          let long = functions_length in
          All-append (λ (entry : ExportDef). entry.function < length whole.functions) (kept iface client) (map moved_export library.exports)
          (All-filter _ (λ (entry : ExportDef). entry.function < length whole.functions) client.exports
          (All-weaker (λ (entry : ExportDef). entry.function < length client.functions) (λ (entry : ExportDef). entry.function < length whole.functions) (λ entry lt. omega arith) client.exports well.rule3.exist))
          (All-map (λ (entry : ExportDef). entry.function < length whole.functions) moved_export library.exports
          (All-weaker (λ (entry : ExportDef). entry.function < length library.functions) (λ (entry : ExportDef). length client.functions + entry.function < length whole.functions) (λ entry lt. omega arith) library.exports other_well.rule3.exist));
    }

    -- ---- rule 9

    -- a demand of a result whose function, or of a global whose number, has a property
    abbrev OnResult : (ℕ → Type 0) → Demand → Type 0
    OnResult P (demand.Result function index) = P function
    OnResult P (demand.Global x) = ⊥

    abbrev OnGlobal : (ℕ → Type 0) → Demand → Type 0
    OnGlobal P (demand.Result function index) = ⊥
    OnGlobal P (demand.Global x) = P x

    abbrev moved : Demand → Demand
    moved = moved_demand (library_shift client)

    client_demand : (d : Demand) → IsDemand client d → IsDemand whole d
    client_demand (demand.Result f i) h =
        let fit = functions_length in
        let same : 0 + f ≡ f = omega arith in
        (omega (arith, h.0), subst (λ k. i < k) (sym (ap (results_of whole) (sym same) ∙ results_same client whole _ _ (client_stands client library iface facts other_facts) f h.0)) h.1)
    client_demand (demand.Global x) h =
        subst (λ o. IsSomeAnd o (λ global. global.label ≡ Public)) (sym (get_left client.globals library.globals x (some_within _ client.globals x h))) h

    library_demand : (d : Demand) → IsDemand library d → IsDemand whole (moved d)
    library_demand (demand.Result f i) h =
        let fit = functions_length in
        (omega (arith, h.0), subst (λ k. i < k) (sym (results_same library whole _ _ (library_stands client library iface facts other_facts) f h.0)) h.1)
    library_demand (demand.Global x) h =
        subst (λ o. IsSomeAnd o (λ global. global.label ≡ Public)) (sym (get_right client.globals library.globals (length client.globals + x) x refl)) h

    abbrev low_result : Demand → Type 0
    low_result = OnResult (λ f. f < length client.functions)

    abbrev high_result : Demand → Type 0
    high_result = OnResult (λ f. length client.functions ≤ f)

    abbrev low_global : Demand → Type 0
    low_global = OnGlobal (λ x. x < length client.globals)

    abbrev high_global : Demand → Type 0
    high_global = OnGlobal (λ x. length client.globals ≤ x)

    is_low : (d : Demand) → IsDemand client d → is_result d ≡ true → low_result d
    is_low (demand.Result f i) h e = h.0
    is_low (demand.Global x) h e = absurd (false≢true e)

    is_high : (d : Demand) → is_result (moved d) ≡ true → high_result (moved d)
    is_high (demand.Result f i) e = omega arith
    is_high (demand.Global x) e = absurd (false≢true e)

    global_low : (d : Demand) → IsDemand client d → not (is_result d) ≡ true → low_global d
    global_low (demand.Result f i) h e = absurd (false≢true e)
    global_low (demand.Global x) h e = some_within _ client.globals x h

    global_high : (d : Demand) → not (is_result (moved d)) ≡ true → high_global (moved d)
    global_high (demand.Result f i) e = absurd (false≢true e)
    global_high (demand.Global x) e = omega arith

    results_rise : (a b : Demand) → low_result a → high_result b → Precedes a b
    results_rise (demand.Result f i) (demand.Result g j) lt le = inl (omega arith)
    results_rise (demand.Result f i) (demand.Global y) lt le = absurd le
    results_rise (demand.Global x) b lt le = absurd lt

    globals_rise : (a b : Demand) → low_global a → high_global b → Precedes a b
    globals_rise (demand.Global x) (demand.Global y) lt le = omega arith
    globals_rise (demand.Global x) (demand.Result g j) lt le = absurd le
    globals_rise (demand.Result f i) b lt le = absurd lt

    results_first : (a b : Demand) → is_result a ≡ true → not (is_result b) ≡ true → Precedes a b
    results_first (demand.Result f i) (demand.Result g j) p q = absurd (false≢true q)
    results_first (demand.Result f i) (demand.Global y) p q = tt
    results_first (demand.Global x) b p q = absurd (false≢true p)

    precedes_moved : (a b : Demand) → Precedes a b → Precedes (moved a) (moved b)
    precedes_moved (demand.Result f i) (demand.Result g j) h = elim h as (λ _. Precedes (moved (demand.Result f i)) (moved (demand.Result g j))) [
      | inl less ↦ inl (omega arith)
      | inr same ↦ inr (omega (arith, same.0), same.1)
    ]
    precedes_moved (demand.Result f i) (demand.Global y) h = tt
    precedes_moved (demand.Global x) (demand.Result g j) h = absurd h
    precedes_moved (demand.Global x) (demand.Global y) h = omega arith

    abbrev theirs : List Demand
    theirs = map moved library.demands

    -- what is so of all items of a list and what they passed
    both : (P Q R : Demand → Type 0) → ((d : Demand) → P d → Q d → R d) → (xs : List Demand) → All P xs → All Q xs → All R xs
    both P Q R each xs h i k d lt = each _ (h k d lt) (i k d lt)

    theirs_rise : AllPairs Precedes theirs
    theirs_rise = pairs_map Precedes moved library.demands (λ i j d lt within. precedes_moved _ _ (other_well.rule9.demands_rise i j d lt within))

    -- what is so of each of the library's demands where it is moved to
    moved_all : (P : Demand → Type 0) → ((d : Demand) → IsDemand library d → P (moved d)) → All P theirs
    moved_all P each = All-map P moved library.demands (All-weaker (IsDemand library) (λ d. P (moved d)) each library.demands other_well.rule9.demands)

    abbrev not_result : Demand → Bool
    not_result d = not (is_result d)

    demands_rise : AllPairs Precedes whole.demands
    demands_rise =
        let mine = well.rule9.demands in
        let a : List Demand = filter is_result client.demands in
        let b : List Demand = filter is_result theirs in
        let c : List Demand = filter not_result client.demands in
        let d : List Demand = filter not_result theirs in
        let low_a : All low_result a = both (IsDemand client) (λ d. is_result d ≡ true) low_result is_low a (All-filter is_result (IsDemand client) client.demands mine) (passes is_result client.demands) in
        let high_b : All high_result b = both (λ d. is_result d ≡ true → high_result d) (λ d. is_result d ≡ true) high_result (λ d h e. h e) b
        (All-filter is_result (λ d. is_result d ≡ true → high_result d) theirs (moved_all (λ d. is_result d ≡ true → high_result d) (λ d h. is_high d))) (passes is_result theirs) in
        let low_c : All low_global c = both (IsDemand client) (λ d. not_result d ≡ true) low_global global_low c (All-filter not_result (IsDemand client) client.demands mine) (passes not_result client.demands) in
        let high_d : All high_global d = both (λ d. not_result d ≡ true → high_global d) (λ d. not_result d ≡ true) high_global (λ d h e. h e) d
        (All-filter not_result (λ d. not_result d ≡ true → high_global d) theirs (moved_all (λ d. not_result d ≡ true → high_global d) (λ d h. global_high d))) (passes not_result theirs) in
        pairs_append Precedes (a ++ b) (c ++ d)
        (pairs_append Precedes a b (AllPairs-filter Precedes is_result client.demands well.rule9.demands_rise) (AllPairs-filter Precedes is_result theirs theirs_rise)
        (cross low_result high_result Precedes results_rise a b low_a high_b))
        (pairs_append Precedes c d (AllPairs-filter Precedes not_result client.demands well.rule9.demands_rise) (AllPairs-filter Precedes not_result theirs theirs_rise)
        (cross low_global high_global Precedes globals_rise c d low_c high_d))
        (cross (λ d. is_result d ≡ true) (λ d. not_result d ≡ true) Precedes results_first (a ++ b) (c ++ d)
        (All-append (λ d. is_result d ≡ true) a b (passes is_result client.demands) (passes is_result theirs))
        (All-append (λ d. not_result d ≡ true) c d (passes not_result client.demands) (passes not_result theirs)))

    demands : All (IsDemand whole) whole.demands
    demands =
        let mine : All (IsDemand whole) client.demands = All-weaker (IsDemand client) (IsDemand whole) client_demand client.demands well.rule9.demands in
        let its : All (IsDemand whole) theirs = moved_all (IsDemand whole) library_demand in
        All-append (IsDemand whole) (filter is_result client.demands ++ filter is_result theirs) (filter not_result client.demands ++ filter not_result theirs)
        (All-append (IsDemand whole) (filter is_result client.demands) (filter is_result theirs) (All-filter is_result (IsDemand whole) client.demands mine) (All-filter is_result (IsDemand whole) theirs its))
        (All-append (IsDemand whole) (filter not_result client.demands) (filter not_result theirs) (All-filter not_result (IsDemand whole) client.demands mine) (All-filter not_result (IsDemand whole) theirs its))

    abbrev moved_weight : SiteWeight → SiteWeight
    moved_weight entry = record { at = pos_by (moved_position (library_shift client)) entry.at; weight = entry.weight }

    client_is_weight : (entry : SiteWeight) → IsWeight client entry → IsWeight whole entry
    client_is_weight entry h = record {
      site = subst IsSome (sym (client_weight client library iface facts well other_facts other_well entry.at.0 (site_behind client entry.at.0 facts h.site).1)) h.site;
      positive = h.positive;
    }

    library_is_weight : (entry : SiteWeight) → IsWeight library entry → IsWeight whole (moved_weight entry)
    library_is_weight entry h =
        let behind = (site_behind library entry.at.0 other_facts h.site).0 in
        record {
          site = subst IsSome (sym (library_weight client library iface facts well other_facts other_well _ entry.at.0 behind (moved_above (library_shift client) entry.at.0 behind))) h.site;
          positive = h.positive;
        }

    weights_rise : AllPairs (λ (entry next : SiteWeight). entry.at.0 < next.at.0) whole.weights
    weights_rise =
        let long = client_long client library iface facts other_facts in
        pairs_append (λ (entry next : SiteWeight). entry.at.0 < next.at.0) client.weights (map moved_weight library.weights) well.rule9.weights_rise
        (pairs_map (λ (entry next : SiteWeight). entry.at.0 < next.at.0) moved_weight library.weights (λ i j d lt within.
        let rise = other_well.rule9.weights_rise i j d lt within in
        let one = (site_behind library _ other_facts (other_well.rule9.weights i d (omega arith)).site).0 in
        let other = (site_behind library _ other_facts (other_well.rule9.weights j d within).site).0 in
        let is = moved_above (library_shift client) _ one in
        let is' = moved_above (library_shift client) _ other in
        omega arith))
        (cross (λ (entry : SiteWeight). entry.at.0 < length client.commands) (λ (entry : SiteWeight). length client.commands ≤ entry.at.0) (λ (entry next : SiteWeight). entry.at.0 < next.at.0)
        (λ entry next lt le. omega arith) client.weights (map moved_weight library.weights)
        (All-weaker (IsWeight client) (λ (entry : SiteWeight). entry.at.0 < length client.commands) (λ entry h. (site_behind client entry.at.0 facts h.site).1) client.weights well.rule9.weights)
        (All-map (λ (entry : SiteWeight). length client.commands ≤ entry.at.0) moved_weight library.weights
        (All-weaker (IsWeight library) (λ entry. length client.commands ≤ moved_position (library_shift client) entry.at.0)
        (λ entry h. let behind = (site_behind library entry.at.0 other_facts h.site).0 in let is = moved_above (library_shift client) entry.at.0 behind in omega arith)
        library.weights other_well.rule9.weights)))

    rule9 : Rule9 whole
    rule9 = record {
      demands_rise = demands_rise;
      demands = demands;
      weights_rise = weights_rise;
      weights = All-append (IsWeight whole) client.weights (map moved_weight library.weights)
          (All-weaker (IsWeight client) (IsWeight whole) client_is_weight client.weights well.rule9.weights)
          (All-map (IsWeight whole) moved_weight library.weights (All-weaker (IsWeight library) (λ entry. IsWeight whole (moved_weight entry)) library_is_weight library.weights other_well.rule9.weights));
      total = let same = weights_both client library iface facts well other_facts other_well in let fits = weights_fit in omega arith;
    }

    pub joined_well : IsWellFormed (joined client library iface)
    joined_well = record {
      rule1 = rule1;
      rule2 = rule2;
      rule3 = rule3;
      rule4 = λ p f c holds stands. (keeps client library iface facts well other_facts other_well can.types f p c holds stands).rule4;
      rule5 = λ p f c holds stands. (keeps client library iface facts well other_facts other_well can.types f p c holds stands).rule5;
      rule6 = λ p f c holds stands. (keeps client library iface facts well other_facts other_well can.types f p c holds stands).rule6;
      rule7 = λ p f c holds stands. (keeps client library iface facts well other_facts other_well can.types f p c holds stands).rule7;
      rule8 = λ p f c holds stands. (keeps client library iface facts well other_facts other_well can.types f p c holds stands).rule8;
      rule9 = rule9;
    }
