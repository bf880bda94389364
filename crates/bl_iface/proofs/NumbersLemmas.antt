-- The code's numbers are those of the joined program, and its commands' numbers can be moved.
use Rattle.std.proofs.Common.{◌≡◌, inl, inr, ℕ, ◌+◌, ◌<◌, ◌^◌, List, [], length, Option, Some, None, refl, sym, ap, ◌∙◌, subst, arith}
use Rattle.std.specs.Prelude.{option_map, unwrap_or}
use Rattle.std.proofs.lemmas.Option.{none-some}
use Rattle.bl_program.specs.Layout.{first_of}
use Rattle.bl_program.specs.Programs.{IsProgram}
use Rattle.bl_program.specs.Rules.{IsWellFormed, Rule2}
use Rattle.bl_program.specs.Layout.{AreValues}
use Rattle.bl_program.specs.declared.definitions.ProgramParts.{ProgramParts as Program}
use Rattle.bl_iface.specs.JoinedProgram.{CanJoin, client_numbers, client_shift, goes, library_numbers, library_shift, moved_position, moved_var, read_from}
use Rattle.bl_iface.specs.MovableNumbers.{IsSmall}
use Rattle.bl_iface.specs.PartNumbers.{AreNumbers, LeadsTo, goal_in, numbers_from}
use Rattle.bl_iface.specs.declared.iface.Iface.{Iface}
use Rattle.bl_iface.specs.declared.numbers.Numbers.{Numbers}
use Rattle.bl_iface.specs.declared.shift.Shift.{Shift}
use Rattle.bl_iface.proofs.TableReads.{from_cases}
use Rattle.bl_iface.proofs.JoinedReads.{exported_exists, stands_for}
use Rattle.bl_iface.proofs.JoinedWellFormed.{functions_fit, variables_fit}

-- two functions are one where they give the same
same_functions : {A B : Type 0} (f g : A → B) → ((x : A) → f x ≡ g x) → f ≡ g
same_functions f g h = λ i x. h x i

module _ (client library : Program) (iface : Iface) where
  callee_same : (f : ℕ) (o : Option ℕ) → unwrap_or (option_map (λ g. length client.functions + g) o) (0 + f) ≡ unwrap_or (option_map (λ g. length client.functions + g) o) f
  callee_same f None = omega arith
  callee_same f (Some g) = refl

  -- the client's, by a table of where its functions go
  pub client_numbered : (goals : List (Option ℕ)) → LeadsTo iface client library goals
      → numbers_from (goal_in goals) (client_shift library) client (library_shift client) library ≡ client_numbers iface client library
  client_numbered goals leads =
      ap (λ (goal : ℕ → Option ℕ). numbers_from goal (client_shift library) client (library_shift client) library) (same_functions (goal_in goals) (goes iface client library) leads)
      ∙ ap (λ (callee : ℕ → ℕ). record {
        read = read_from (goes iface client library) (client_shift library) client (library_shift client) library;
        write = moved_var (client_shift library) client;
        callee = callee;
        memory = λ m. (client_shift library).memories + m;
        position = moved_position (client_shift library);
      }) (same_functions _ _ (λ f. callee_same f (goes iface client library f)))

  library_read : (x : ℕ) → read_from (goal_in []) (library_shift client) library (client_shift library) client x ≡ moved_var (library_shift client) library x
  library_read x = elim (from_cases (goal_in []) (library_shift client) library (client_shift library) client x) as (λ _. read_from (goal_in []) (library_shift client) library (client_shift library) client x ≡ moved_var (library_shift client) library x) [
    | inl plain ↦ plain.1
    | inr one ↦ one.1
  ]

  -- the library's, which goes nowhere
  pub library_numbered : numbers_from (goal_in []) (library_shift client) library (client_shift library) client ≡ library_numbers client library
  library_numbered = ap (λ (read : ℕ → ℕ). record {
    read = read;
    write = moved_var (library_shift client) library;
    callee = λ f. (library_shift client).functions + f;
    memory = λ m. (library_shift client).memories + m;
    position = moved_position (library_shift client);
  }) (same_functions _ _ library_read)

-- ---- the tables of the code

pub are_numbers : (part other : Program) (n : Numbers) → n.part.now ≡ part → n.other.now ≡ other → Rule2 part → Rule2 other
    → AreValues (first_of part) (length part.functions) n.firsts.now → AreValues (first_of other) (length other.functions) n.other_firsts.now
    → ((f g : ℕ) → goal_in n.goals.now f ≡ Some g → g < length other.functions)
    → first_of part (length part.functions) + first_of other (length other.functions) < 2 ^ 31
    → IsSmall n.other_shift (2 ^ 31) → n.other_shift.functions + length other.functions < 2 ^ 32 → AreNumbers n
are_numbers part other n one two rule other_rule firsts other_firsts exist room small functions = record {
  rule = subst Rule2 (sym one) rule;
  other_rule = subst Rule2 (sym two) other_rule;
  firsts = subst (λ (p : Program). AreValues (first_of p) (length p.functions) n.firsts.now) (sym one) firsts;
  other_firsts = subst (λ (p : Program). AreValues (first_of p) (length p.functions) n.other_firsts.now) (sym two) other_firsts;
  exist = subst (λ (p : Program). (f g : ℕ) → goal_in n.goals.now f ≡ Some g → g < length p.functions) (sym two) exist;
  room = subst (λ (p : Program). first_of p (length p.functions) + first_of n.other.now (length n.other.now.functions) < 2 ^ 31) (sym one)
      (subst (λ (p : Program). first_of part (length part.functions) + first_of p (length p.functions) < 2 ^ 31) (sym two) room);
  small = small;
  functions = subst (λ (p : Program). n.other_shift.functions + length p.functions < 2 ^ 32) (sym two) functions;
}

module _ (client library : Program) (iface : Iface) (facts : IsProgram client) (other_facts : IsProgram library) (well : IsWellFormed client) (other_well : IsWellFormed library)
    (can : CanJoin client library iface) where
  pub client_are : (n : Numbers) → n.part.now ≡ client → n.other.now ≡ library → n.other_shift ≡ library_shift client
      → AreValues (first_of client) (length client.functions) n.firsts.now → AreValues (first_of library) (length library.functions) n.other_firsts.now
      → LeadsTo iface client library n.goals.now → AreNumbers n
  client_are n one two shift firsts other_firsts leads =
      let vars = variables_fit client library iface facts other_facts well other_well can in
      let functions = functions_fit client library iface facts other_facts well other_well can in
      let small : IsSmall (library_shift client) (2 ^ 31) = record { globals = omega arith; sizes = omega arith; vars = omega arith } in
      are_numbers client library n one two well.rule2 other_well.rule2 firsts other_firsts
      (λ f g is.
      let by = stands_for (λ _. Unit {0}) iface.functions client library f g (λ i d lt. tt) (sym (leads f) ∙ is) in
      exported_exists library.exports by.0.name g (length library.functions) other_well.rule3.exist by.3)
      (omega arith) (subst (λ (s : Shift). IsSmall s (2 ^ 31)) (sym shift) small)
      (subst (λ (s : Shift). s.functions + length library.functions < 2 ^ 32) (sym shift) (omega arith))

  pub library_are : (n : Numbers) → n.part.now ≡ library → n.other.now ≡ client → n.other_shift ≡ client_shift library
      → AreValues (first_of library) (length library.functions) n.firsts.now → AreValues (first_of client) (length client.functions) n.other_firsts.now
      → n.goals.now ≡ [] → AreNumbers n
  library_are n one two shift firsts other_firsts none =
      let vars = variables_fit client library iface facts other_facts well other_well can in
      let functions = functions_fit client library iface facts other_facts well other_well can in
      let small : IsSmall (client_shift library) (2 ^ 31) = record { globals = omega arith; sizes = omega arith; vars = omega arith } in
      are_numbers library client n one two other_well.rule2 well.rule2 firsts other_firsts
      (λ f g is. absurd (none-some g (ap (λ (goals : List (Option ℕ)). goal_in goals f) (sym none) ∙ is)))
      (omega arith) (subst (λ (s : Shift). IsSmall s (2 ^ 31)) (sym shift) small)
      (subst (λ (s : Shift). s.functions + length client.functions < 2 ^ 32) (sym shift) (omega arith))
