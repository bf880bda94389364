-- The demands of both parts, put together.
use Rattle.std.proofs.Common.{◌≡◌, List, [], ◌∷◌, ◌++◌, map, not, refl, ap, ◌∙◌, arith, append_assoc}
use Rattle.std.specs.List.{filter}
use Rattle.bl_program.specs.declared.definitions.Demand.{Demand}
use Rattle.bl_program.specs.declared.definitions.Demand.TheVariants.{Result, Global}
use Rattle.bl_program.specs.declared.definitions.ProgramParts.{ProgramParts as Program}
use Rattle.bl_iface.specs.JoinedProgram.{client_shift, demands_of, is_result, library_shift, moved_demand}
use Rattle.bl_iface.specs.declared.shift.Shift.{Shift}

-- the client's stay
stays : (library : Program) (demand : Demand) → moved_demand (client_shift library) demand ≡ demand
stays library (Result function index) = ap (λ f. Result f index) (omega arith)
stays library (Global x) = ap Global (omega arith)

all_stay : (library : Program) (demands : List Demand) → map (moved_demand (client_shift library)) demands ≡ demands
all_stay library [] = refl
all_stay library (demand ∷ demands) = ap (λ d. d ∷ map (moved_demand (client_shift library)) demands) (stays library demand) ∙ ap (λ ds. demand ∷ ds) (all_stay library demands)

abbrev results : Shift → List Demand → List Demand
results shift demands = filter is_result (map (moved_demand shift) demands)

abbrev globals : Shift → List Demand → List Demand
globals shift demands = filter (λ one. not (is_result one)) (map (moved_demand shift) demands)

pub demands_are : (client library : Program) (ours theirs : List Demand) (shift other : Shift) (n a b c d : List Demand) → ours ≡ client.demands → theirs ≡ library.demands
    → shift ≡ client_shift library → other ≡ library_shift client → n ≡ []
    → a ≡ n ++ filter is_result (map (moved_demand shift) ours) → b ≡ a ++ filter is_result (map (moved_demand other) theirs)
    → c ≡ b ++ filter (λ one. not (is_result one)) (map (moved_demand shift) ours) → d ≡ c ++ filter (λ one. not (is_result one)) (map (moved_demand other) theirs)
    → d ≡ demands_of client library
demands_are client library ours theirs shift other n a b c d mine its one two none first second third fourth =
    let moved : map (moved_demand shift) ours ≡ client.demands = ap (λ s. map (moved_demand s) ours) one ∙ ap (map (moved_demand (client_shift library))) mine ∙ all_stay library client.demands in
    let behind : map (moved_demand other) theirs ≡ map (moved_demand (library_shift client)) library.demands = ap (λ s. map (moved_demand s) theirs) two ∙ ap (map (moved_demand (library_shift client))) its in
    let front : a ≡ filter is_result client.demands = first ∙ ap (λ l. l ++ results shift ours) none ∙ ap (filter is_result) moved in
    let both : b ≡ filter is_result client.demands ++ filter is_result (map (moved_demand (library_shift client)) library.demands) =
    second ∙ ap (λ l. l ++ results other theirs) front ∙ ap (λ l. filter is_result client.demands ++ filter is_result l) behind in
    fourth ∙ ap (λ l. l ++ globals other theirs) third
    ∙ append_assoc b (globals shift ours) (globals other theirs)
    ∙ ap (λ l. l ++ (globals shift ours ++ globals other theirs)) both
    ∙ ap (λ l. (filter is_result client.demands ++ filter is_result (map (moved_demand (library_shift client)) library.demands)) ++ (filter (λ one. not (is_result one)) l ++ globals other theirs)) moved
    ∙ ap (λ l. (filter is_result client.demands ++ filter is_result (map (moved_demand (library_shift client)) library.demands)) ++ (filter (λ one. not (is_result one)) client.demands ++ filter (λ one. not (is_result one)) l)) behind
