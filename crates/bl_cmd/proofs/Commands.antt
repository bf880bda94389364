-- What the rules on a command ask, piece by piece.
use Rattle.std.proofs.Common.{◌≡◌, ◌≢◌, ◌↔◌, inl, inr, ℕ, suc, ◌+◌, ◌-◌, ◌<◌, ◌≤◌, List, [], ◌∷◌, length, Option, Some, None, slice_get, Bool, true, false, IsTrue, refl, sym, ap, ◌∙◌, subst, arith}
use Rattle.std.specs.Prelude.{option_map, is_some, not, MatchOption}
use Rattle.bl_base.specs.declared.number.Var.{Var as Var'}
use Rattle.bl_ops.specs.declared.access.AccessKind.{AccessKind}
use Rattle.std.proofs.lemmas.Bool.{false≢true}
use Rattle.std.proofs.lemmas.Option.{same_Some}
use Rattle.bl_ops.specs.declared.op.Op.{Op}
use Rattle.bl_ops.specs.declared.op.Op.TheVariants.{I32Sub, I32GtU, Move, Outside}
use Rattle.bl_program.specs.Layout.{size_of, entry_of, command_at}
use Rattle.bl_program.specs.Rules.{GoesTo, IsGrowth, IsGuarded, IsLocal, IsPassed, IsReadable, IsSum, IsTested, Rule8, assign, branch, variable}
use Rattle.bl_program.specs.Sites.{Among}
use Rattle.bl_cmd.specs.Tables.{HasTargets, IsApart, IsGrownBy, IsPlace, IsTarget, IsTestedBy, ReadsEach}
use Rattle.bl_program.specs.declared.command.Command.{Command}
use Rattle.bl_program.specs.declared.command.Command.TheVariants.{Set, Load, Test, Jump}
use Rattle.bl_program.specs.declared.command.Mark.{Mark}
use Rattle.bl_program.specs.declared.command.Operand.{Operand}
use Rattle.bl_program.specs.declared.command.Operand.TheVariants.{Const}
use Rattle.bl_program.specs.declared.definitions.MemoryDef.{MemoryDef}
use Rattle.bl_cmd.specs.declared.place.Place.{Place}

-- each operand is readable where each variable among them is
pub reads_each : (place : Place) (operands : List Operand) → ReadsEach place operands ↔ ((x : ℕ) → Among operands x → IsReadable place.parts.now place.function x)
reads_each place [] = (λ _ x h. absurd h, λ _. tt)
reads_each place (operand ∷ operands) =
    let rest = reads_each place operands in (
      λ all x h. elim h as (λ _. IsReadable place.parts.now place.function x) [ inl e ↦ all.0.each x e | inr later ↦ rest.0 all.1 x later ],
      λ each. (record { each = λ x e. each x (inl e) }, rest.1 (λ x h. each x (inr h))),
    )

-- each target is one
pub goes_each : (place : Place) (command : Command) → HasTargets place command ↔ ((target : ℕ) → GoesTo command target → IsTarget place target)
goes_each place (Test cond one other) = (
  λ both target h. elim h as (λ _. IsTarget place target) [ inl e ↦ subst (IsTarget place) e both.0 | inr e ↦ subst (IsTarget place) e both.1 ],
  λ each. (each one.0 (inl refl), each other.0 (inr refl)),
)
goes_each place (Jump to) = (λ h target e. subst (IsTarget place) e h, λ each. each to.0 refl)
goes_each place _ = (λ _ target h. absurd h, λ _. tt)

-- ---- what a command sets, and where it goes

pub set_of : Option Command → ℕ
set_of (Some (Set mark op to a b c)) = to.0
set_of _ = 0

pub yes_of : Option Command → ℕ
yes_of (Some (Test cond one other)) = one.0
yes_of _ = 0

pub same_set : (mark mark' : Mark) (op op' : Op) (t t' : ℕ) (a b c a' b' c' : Operand) → assign mark op t a b c ≡ assign mark' op' t' a' b' c' → t ≡ t'
unfolding set_of
same_set mark mark' op op' t t' a b c a' b' c' e = ap set_of e

pub same_yes : (x x' one one' other other' : ℕ) → branch x one other ≡ branch x' one' other' → one ≡ one'
unfolding yes_of
same_yes x x' one one' other other' e = ap yes_of e

-- ---- an access

-- it stands behind its test
pub tested_is : (place : Place) (address : Operand) (memory bytes : ℕ) (set test : Command) (t way : ℕ) (answer : Bool) → IsPlace place
    → entry_of place.parts.now place.function + 2 ≤ place.position
    → command_at place.parts.now (place.position - 2) ≡ Some set → command_at place.parts.now (place.position - 1) ≡ Some test
    → (mark : Mark) × (Some set ≡ assign mark Outside t address (variable (size_of place.parts.now memory)) (Const bytes))
    → Some test ≡ branch t way place.position
    → IsTrue answer ↔ IsTestedBy place address t way
    → IsTrue answer ↔ IsTested place.parts.now place.function place.position (record { address = address; memory = memory; bytes = bytes })
tested_is place address memory bytes set test t way answer good behind at_set at_test sets tests is =
    let first : ℕ = place.position - 2 in
    let place_is : place.position ≡ suc (suc first) = omega arith in
    let one : place.position - 1 ≡ suc first = omega arith in
    let none : place.position - 0 ≡ place.position = omega arith in
    let back : place.position - 0 - 1 ≡ suc first = omega arith in
    let holds = good.holds in
    let holds_from = holds.from in let holds_below = holds.below in (
      λ ok. let by = is.0 ok in record {
        first = first;
        mark = sets.0;
        t = t;
        yes = way;
        place = place_is;
        within = record { exists = holds.exists; from = omega arith; below = omega arith };
        set = at_set ∙ sets.1;
        test = subst (λ (k : ℕ). command_at place.parts.now k ≡ branch t way place.position) one (at_test ∙ tests);
        own = by.own;
        apart = by.apart;
        away = by.away;
        test_passed = subst (IsPassed place.parts.now) one by.test_passed;
        guarded = subst (λ (k : ℕ). IsGuarded place.parts.now (suc first) k) none (subst (λ (k : ℕ). IsGuarded place.parts.now k (place.position - 0)) back by.guarded);
      },
      λ tested.
          let here = tested.place in
          let first_is : tested.first ≡ first = omega arith in
          let t_is : tested.t ≡ t = same_set _ _ _ _ _ _ _ _ _ _ _ _ (sym tested.set ∙ ap (command_at place.parts.now) first_is ∙ at_set ∙ sets.1) in
          let yes_is : tested.yes ≡ way = same_yes _ _ _ _ _ _ (sym tested.test ∙ ap (λ (k : ℕ). command_at place.parts.now (suc k)) first_is ∙ ap (command_at place.parts.now) (sym one) ∙ at_test ∙ tests) in
          is.1 (record {
            own = subst (IsLocal place.parts.now place.function) t_is tested.own;
            apart = subst (λ (k : ℕ). address ≢ variable k) t_is tested.apart;
            away = subst (λ (k : ℕ). k ≢ place.position) yes_is tested.away;
            test_passed = subst (IsPassed place.parts.now) (ap suc first_is ∙ sym one) tested.test_passed;
            guarded = subst (λ (k : ℕ). IsGuarded place.parts.now k (place.position - 0)) (ap suc first_is ∙ sym back) (subst (λ (k : ℕ). IsGuarded place.parts.now (suc tested.first) k) (sym none) tested.guarded);
          }),
    )

-- ---- a growth

module _ (place : Place) (memory : ℕ) (delta : Operand) (behind : entry_of place.parts.now place.function + 4 ≤ place.position) where
  -- where the four commands of a growth stand
  pub stands : (growth : IsGrowth place.parts.now place.function place.position memory delta)
      → (growth.first ≡ place.position - 4) × (suc growth.first ≡ place.position - 3) × (suc (suc growth.first) ≡ place.position - 2) × (suc (suc (suc growth.first)) ≡ place.position - 1)
  stands growth = let here = growth.place in (omega arith, omega arith, omega arith, omega arith)

  module _ (reserve : ℕ) (four three two last : Command) (r t v way : ℕ) (answer : Bool)
      (at_four : command_at place.parts.now (place.position - 4) ≡ Some four) (at_three : command_at place.parts.now (place.position - 3) ≡ Some three)
      (reserved : option_map (λ (m : MemoryDef). m.reserve) (slice_get place.parts.now.memories memory) ≡ Some reserve)
      (room : (mark : Mark) × (Some four ≡ assign mark I32Sub r (Const reserve) (variable (size_of place.parts.now memory)) (Const 0))) where
    pub r_is : (growth : IsGrowth place.parts.now place.function place.position memory delta) → growth.r ≡ r
    r_is growth =
        let is = stands growth in
        same_set _ _ _ _ _ _ _ _ _ _ _ _ (sym growth.room ∙ ap (command_at place.parts.now) is.0 ∙ at_four ∙ room.1)

    -- no Set of whether the delta exceeds the room
    pub no_growth_t : ((mark : Mark) (to : ℕ) → Some three ≡ assign mark I32GtU to delta (variable r) (Const 0) → ⊥) → IsGrowth place.parts.now place.function place.position memory delta → ⊥
    no_growth_t none growth =
        let is = stands growth in
        none growth.mark_t growth.t (sym at_three ∙ ap (command_at place.parts.now) (sym is.1) ∙ growth.exceeds ∙ ap (λ (k : ℕ). assign growth.mark_t I32GtU growth.t delta (variable k) (Const 0)) (r_is growth))

    module _ (exceeds : (mark : Mark) × (Some three ≡ assign mark I32GtU t delta (variable r) (Const 0))) (at_two : command_at place.parts.now (place.position - 2) ≡ Some two) where
      pub t_is : (growth : IsGrowth place.parts.now place.function place.position memory delta) → growth.t ≡ t
      t_is growth =
          let is = stands growth in
          same_set _ _ _ _ _ _ _ _ _ _ _ _ (sym growth.exceeds ∙ ap (command_at place.parts.now) is.1 ∙ at_three ∙ exceeds.1)

      -- no Test of it
      pub no_growth_test : ((one : ℕ) → Some two ≡ branch t one (place.position - 1) → ⊥) → IsGrowth place.parts.now place.function place.position memory delta → ⊥
      no_growth_test none growth =
          let is = stands growth in
          none growth.yes (sym at_two ∙ ap (command_at place.parts.now) (sym is.2) ∙ growth.test ∙ ap (λ (k : ℕ). branch k growth.yes (suc (suc (suc growth.first)))) (t_is growth) ∙ ap (branch t growth.yes) is.3)

      -- all of it
      pub growth_is : IsPlace place → Some two ≡ branch t way (place.position - 1) → command_at place.parts.now (place.position - 1) ≡ Some last
          → (mark : Mark) × (Some last ≡ assign mark Move v (variable (size_of place.parts.now memory)) (Const 0) (Const 0))
          → IsTrue answer ↔ IsGrownBy place delta r t v way
          → IsTrue answer ↔ IsGrowth place.parts.now place.function place.position memory delta
      growth_is good test at_last old is =
          let first : ℕ = place.position - 4 in
          let place_is : place.position ≡ suc (suc (suc (suc first))) = omega arith in
          let one : place.position - 3 ≡ suc first = omega arith in
          let second : place.position - 2 ≡ suc (suc first) = omega arith in
          let third : place.position - 1 ≡ suc (suc (suc first)) = omega arith in
          let none : place.position - 0 ≡ place.position = omega arith in
          let back : place.position - 1 - 1 ≡ suc (suc first) = omega arith in (
            λ ok. let by = is.0 ok in record {
              first = first;
              mark_r = room.0;
              mark_t = exceeds.0;
              mark_v = old.0;
              r = r;
              t = t;
              v = v;
              yes = way;
              reserve = reserve;
              place = place_is;
              reserved = reserved;
              room = at_four ∙ room.1;
              exceeds = ap (command_at place.parts.now) (sym one) ∙ at_three ∙ exceeds.1;
              test = ap (command_at place.parts.now) (sym second) ∙ at_two ∙ test ∙ ap (branch t way) third;
              old = ap (command_at place.parts.now) (sym third) ∙ at_last ∙ old.1;
              own_r = by.first.own;
              own_t = by.second.own;
              own_v = by.third.own;
              apart_r = by.first.apart;
              apart_t = by.second.apart;
              apart_v = by.third.apart;
              away = subst (λ (k : ℕ). way ≢ k) third by.alone.away;
              passed_t = subst (IsPassed place.parts.now) one by.alone.passed_t;
              passed_test = subst (IsPassed place.parts.now) second by.alone.passed_test;
              guarded = subst (λ (k : ℕ). IsGuarded place.parts.now (suc (suc first)) k) third (subst (λ (k : ℕ). IsGuarded place.parts.now k (place.position - 1)) back by.alone.guarded);
              passed_size = subst (IsPassed place.parts.now) none by.alone.passed_size;
            },
            λ growth.
                let at = stands growth in
                let r_same = r_is growth in
                let t_same = t_is growth in
                let v_same : growth.v ≡ v = same_set _ _ _ _ _ _ _ _ _ _ _ _ (sym growth.old ∙ ap (command_at place.parts.now) at.3 ∙ at_last ∙ old.1) in
                let way_same : growth.yes ≡ way = same_yes _ _ _ _ _ _ (sym growth.test ∙ ap (command_at place.parts.now) at.2 ∙ at_two ∙ test) in
                let local : (x y : ℕ) → x ≡ y → IsLocal place.parts.now place.function x → delta ≢ variable x → IsApart place delta y = λ x y e own apart. record {
                  own = subst (IsLocal place.parts.now place.function) e own;
                  apart = subst (λ (k : ℕ). delta ≢ variable k) e apart;
                } in
                is.1 (record {
                  first = local growth.r r r_same growth.own_r growth.apart_r;
                  second = local growth.t t t_same growth.own_t growth.apart_t;
                  third = local growth.v v v_same growth.own_v growth.apart_v;
                  alone = record {
                    away = subst (λ (k : ℕ). k ≢ place.position - 1) way_same (subst (λ (k : ℕ). growth.yes ≢ k) at.3 growth.away);
                    passed_t = subst (IsPassed place.parts.now) at.1 growth.passed_t;
                    passed_test = subst (IsPassed place.parts.now) at.2 growth.passed_test;
                    guarded = subst (λ (k : ℕ). IsGuarded place.parts.now k (place.position - 1)) (at.2 ∙ second ∙ sym back) (subst (λ (k : ℕ). IsGuarded place.parts.now (suc (suc growth.first)) k) at.3 growth.guarded);
                    passed_size = subst (IsPassed place.parts.now) (sym none) growth.passed_size;
                  };
                }),
          )

-- ---- a write of a size

-- sizes are apart
pub size_one : (place : Place) (x one other : ℕ) → x ≡ size_of place.parts.now one → x ≡ size_of place.parts.now other → one ≡ other
size_one place x one other a b = omega arith

-- a Set of a memory's size
pub growth_some : (place : Place) (command : Command) (mark : Mark) (op : Op) (to : Var') (a b c : Operand) (memory : ℕ) (answer : Bool) → command ≡ Set mark op to a b c
    → (memory < length place.parts.now.memories) × (to.0 ≡ size_of place.parts.now memory)
    → IsTrue answer ↔ (IsSum place.parts.now memory op a c × IsGrowth place.parts.now place.function place.position memory b)
    → IsTrue answer ↔ Rule8 place.parts.now place.function place.position command
growth_some place command mark op to a b c memory answer is size grown =
    subst (λ k. IsTrue answer ↔ Rule8 place.parts.now place.function place.position k) (sym is) (
      λ t other exists at. subst (λ (m : ℕ). IsSum place.parts.now m op a c × IsGrowth place.parts.now place.function place.position m b) (size_one place to.0 memory other size.1 at) (grown.0 t),
      λ rule. grown.1 (rule memory size.0 size.1),
    )

-- a Set of another variable
pub growth_none : (place : Place) (command : Command) (mark : Mark) (op : Op) (to : Var') (a b c : Operand) → command ≡ Set mark op to a b c
    → ((memory : ℕ) → memory < length place.parts.now.memories → to.0 ≡ size_of place.parts.now memory → ⊥)
    → IsTrue true ↔ Rule8 place.parts.now place.function place.position command
growth_none place command mark op to a b c is none =
    subst (λ k. IsTrue true ↔ Rule8 place.parts.now place.function place.position k) (sym is) (λ _ other exists at. absurd (none other exists at), λ _. refl)

-- a Load
pub growth_load : (place : Place) (command : Command) (mark : Mark) (kind : AccessKind) (memory : ℕ) (to : Var') (offset : ℕ) (address : Operand) (found : Option ℕ) (answer : Bool) → command ≡ Load mark kind memory to offset address
    → MatchOption found ((memory : ℕ) → memory < length place.parts.now.memories → to.0 ≡ size_of place.parts.now memory → ⊥)
    (λ memory. (memory < length place.parts.now.memories) × (to.0 ≡ size_of place.parts.now memory))
    → is_some found ≡ not answer
    → IsTrue answer ↔ Rule8 place.parts.now place.function place.position command
growth_load place command mark kind memory to offset address found answer is size test =
    subst (λ k. IsTrue answer ↔ Rule8 place.parts.now place.function place.position k) (sym is) (by found answer size test)
  where
    by : (found : Option ℕ) (answer : Bool)
        → MatchOption found ((memory : ℕ) → memory < length place.parts.now.memories → to.0 ≡ size_of place.parts.now memory → ⊥)
        (λ memory. (memory < length place.parts.now.memories) × (to.0 ≡ size_of place.parts.now memory))
        → is_some found ≡ not answer
        → IsTrue answer ↔ Rule8 place.parts.now place.function place.position (Load mark kind memory to offset address)
    by None true size test = (λ _. size, λ _. refl)
    by None false size test = absurd (cc)
    by (Some m) true size test = absurd (cc)
    by (Some m) false size test = (λ t. absurd (false≢true t), λ rule. absurd (rule m size.0 size.1))

-- ---- a Set by its parts

pub is_assigned : (command : Command) (mark : Mark) (op' : Op) (to : Var') (a' b' c' : Operand) (op : Op) (a b c : Operand) → command ≡ Set mark op' to a' b' c' → op' ≡ op → a' ≡ a → b' ≡ b → c' ≡ c
    → Some command ≡ assign mark op to.0 a b c
is_assigned command mark op' to a' b' c' op a b c e f g h i =
    ap Some (e ∙ ap (λ o. Set mark o to a' b' c') f ∙ ap (λ x. Set mark op to x b' c') g ∙ ap (λ x. Set mark op to a x c') h ∙ ap (Set mark op to a b) i)

pub not_assigned : (command : Command) (mark : Mark) (op' : Op) (to : Var') (a' b' c' : Operand) (op : Op) (a b c : Operand) (other : Mark) (t : ℕ) → command ≡ Set mark op' to a' b' c' → Some command ≡ assign other op t a b c
    → (op' ≡ op) × (a' ≡ a) × (b' ≡ b) × (c' ≡ c)
not_assigned command mark op' to a' b' c' op a b c other t e f =
    let same : Set mark op' to a' b' c' ≡ Set other op (record { 0 = t }) a b c = sym e ∙ same_Some _ _ f in
    (cc, cc, cc, cc)
