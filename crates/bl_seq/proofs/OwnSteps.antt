-- The states that runs of a well-formed program come to, and the step by which they came to a position.
use Rattle.std.proofs.Common.{◌≡◌, ◌⊎◌, inl, inr, ℕ, zero, suc, ◌%◌, ◌^◌, ◌<◌, List, [], ◌∷◌, length, Option, Some, None, true, false, Bool, refl, sym, ap, ◌∙◌, subst, arith}
use Rattle.std.specs.Prelude.{nat_lt, ◌==◌, if◌then◌else◌}
use Rattle.std.proofs.lemmas.Bool.{cases_lt}
use Rattle.std.proofs.lemmas.Option.{same_Some}
use Rattle.std.proofs.Math.Nat.{suc_inj}
use Rattle.bl_base.specs.Quantity.{most_calls}
use Rattle.bl_base.proofs.Lists.{all_get, within_get}
use Rattle.bl_base.proofs.RunLemmas.{IsNext}
use Rattle.bl_base.specs.Runs.{Outcome, goes, ends, trapped, StepsTo, HasStep}
use Rattle.bl_base.specs.declared.trap.Trap.TheVariants as trap_kind
use Rattle.bl_program.proofs.Layouts.{next_entry, holds_within}
use Rattle.bl_program.specs.Layout.{entry_of, command_at, Holds}
use Rattle.bl_program.specs.Programs.{IsProgram}
use Rattle.bl_program.specs.Rules.{IsWellFormed, IsFunction, IsPassed, IsGuarded, Leaves}
use Rattle.bl_program.specs.Steps.{Plain, depth, value_of, states, to, ret, perform, plain_step}
use Rattle.bl_program.specs.declared.command.Command.{Command}
use Rattle.bl_program.specs.declared.command.Command.TheVariants.{Test, Jump, Call, Ret, Trap}
use Rattle.bl_program.specs.declared.definitions.ProgramParts.{ProgramParts as Program}
use Rattle.bl_seq.specs.OwnMemory.{HasSizes}

-- a run comes from a function's entry to a state, step by step
pub data Reached (program : Program) : Plain → Type 0 where
  opens : (s : Plain) (function : ℕ) → function < length program.functions → s.position ≡ entry_of program function → s.chain ≡ [] → HasSizes program s.registers → Reached program s
  steps : (s t : Plain) → Reached program s → IsNext (plain_step program s) t → Reached program t

pub reached_by : (program : Program) (n : ℕ) (c d : Plain) → StepsTo (plain_step program) n c d → Reached program c → Reached program d
reached_by program zero c d e r = subst (Reached program) e r
reached_by program (suc n) c d h r = reached_by program n h.0 d h.2 (steps c h.0 r (subst (λ x. IsNext x h.0) (sym h.1) refl))

-- a position is a trap's or a function's
abbrev pub IsPosition : Program → ℕ → Type 0
IsPosition program position = (position < 7) ⊎ ((function : ℕ) × Holds program function position)

-- a call returns to the position behind it
pub record IsBehindCall (program : Program) (position : ℕ) : Type 0 where
  pub call : ℕ
  pub callee : ℕ
  pub function : ℕ
  pub is : position ≡ suc call
  pub stands : command_at program call ≡ Some (Call callee)
  pub holds : Holds program function call

abbrev pub Returns : Program → List ℕ → Type 0
Returns program [] = Unit {0}
Returns program (back ∷ chain) = IsBehindCall program back × Returns program chain

pub record Stands (program : Program) (s : Plain) : Type 0 where
  pub position : IsPosition program s.position
  pub returns : Returns program s.chain

-- a state at a position whose command came to another state
pub record Came (program : Program) (q : ℕ) (k : Command) (t : Plain) : Type 0 where
  pub before : Plain
  pub reached : Reached program before
  pub place : before.position ≡ q
  pub step : IsNext (perform program (Some k) before) t

module _ (program : Program) (facts : IsProgram program) (rules : IsWellFormed program) where
  -- a trap ends the run
  pub trap_ends : (s t : Plain) → s.position < 7 → IsNext (plain_step program s) t → ⊥
  trap_ends s t lt h = let trap = facts.traps s.position lt in subst (λ o. IsNext (perform program o s) t) trap.2 h

  -- behind a command that goes on stands one of the same function
  next_holds : (f p : ℕ) (k : Command) → Holds program f p → command_at program p ≡ Some k → (Leaves k → ⊥) → Holds program f (suc p)
  next_holds f p k holds e goes_on =
      let from = holds.from in
      let below = holds.below in
      record {
        exists = holds.exists;
        from = omega arith;
        below = elim (cases_lt (suc p) (entry_of program (suc f))) as (λ _. suc p < entry_of program (suc f)) [
          | inl less ↦ less
          | inr more ↦ absurd (goes_on ((rules.rule5 p f k holds e).last (omega arith)))
        ];
      }

  -- a function holds its entry
  entry_holds : (f : ℕ) → f < length program.functions → Holds program f (entry_of program f)
  entry_holds f lt =
      let got = within_get program.functions f lt in
      let next = next_entry program f got.0 got.1 in
      let some = (all_get IsFunction program.functions f got.0 rules.rule2.each got.1).command in
      record { exists = lt; from = omega arith; below = omega arith }

  -- a call's state in the function that it enters, and its outcome where it is too deep
  abbrev entered : Plain → ℕ → Plain
  entered s callee = record s { position = entry_of program callee; chain = suc s.position ∷ s.chain }

  abbrev too_deep : Plain → Outcome
  too_deep s = trapped trap_kind.StackExhausted (states program s)

  placed : (f p : ℕ) → (p < 7) ⊎ Holds program f p → IsPosition program p
  placed f p (inl trap) = inl trap
  placed f p (inr held) = inr (f, held)

  module _ (s t : Plain) (f : ℕ) (holds : Holds program f s.position) (returns : Returns program s.chain) where
    -- on at a position, with the open calls that there were
    moved : (p : ℕ) → IsPosition program p → t.position ≡ p → t.chain ≡ s.chain → Stands program t
    moved p is here same = record { position = subst (IsPosition program) (sym here) is; returns = subst (Returns program) (sym same) returns }

    on : (k : Command) → command_at program s.position ≡ Some k → (Leaves k → ⊥) → suc s.position ≡ t.position → s.chain ≡ t.chain → Stands program t
    on k e goes_on here same = moved (suc s.position) (inr (f, next_holds f s.position k holds e goes_on)) (sym here) (sym same)

    tested : (one other : ℕ) (b : Bool) → IsPosition program one → IsPosition program other → IsNext (if b then to other s else to one s) t → Stands program t
    tested one other true p q h = moved other q (sym (ap (λ (x : Plain). x.position) h)) (sym (ap (λ (x : Plain). x.chain) h))
    tested one other false p q h = moved one p (sym (ap (λ (x : Plain). x.position) h)) (sym (ap (λ (x : Plain). x.chain) h))

    returned_to : (chain : List ℕ) → Returns program chain → IsNext (ret program chain s) t → Stands program t
    returned_to [] r h = absurd h
    returned_to (back ∷ chain) r h = subst (Stands program) h (record {
      position = inr (r.0.function, subst (Holds program r.0.function) (sym r.0.is) (next_holds r.0.function r.0.call (Call r.0.callee) r.0.holds r.0.stands (λ l. l)));
      returns = r.1;
    })

    called : (callee : ℕ) (deep : Outcome) (b : Bool) → command_at program s.position ≡ Some (Call callee) → IsNext (if b then goes (entered s callee) else ends deep) t → Stands program t
    called callee deep true e h = subst (Stands program) h (record {
      position = inr (callee, entry_holds callee (rules.rule6 s.position f (Call callee) holds e));
      returns = (record { call = s.position; callee = callee; function = f; is = refl; stands = e; holds = holds }, returns);
    })
    called callee deep false e h = absurd h

    stands_by : (o : Option Command) → command_at program s.position ≡ o → IsNext (perform program o s) t → Stands program t
    stands_by None e h = absurd h
    stands_by (Some (Test cond one other)) e h =
        let targets = (rules.rule5 s.position f (Test cond one other) holds e).targets in
        tested one.0 other.0 (value_of program cond s % 2 ^ 32 == 0) (placed f one.0 (targets one.0 (inl refl))) (placed f other.0 (targets other.0 (inr refl))) h
    stands_by (Some (Jump p)) e h = moved p.0 (placed f p.0 ((rules.rule5 s.position f (Jump p) holds e).targets p.0 refl)) (sym (ap (λ (x : Plain). x.position) h)) (sym (ap (λ (x : Plain). x.chain) h))
    stands_by (Some (Call callee)) e h = called callee (too_deep s) (nat_lt (depth s) most_calls) e h
    stands_by (Some Ret) e h = returned_to s.chain returns h
    stands_by (Some (Trap kind)) e h = absurd h
    stands_by (Some _) e h = on _ e (λ l. l) (ap (λ (x : Plain). x.position) h) (ap (λ (x : Plain). x.chain) h)

  -- each state stands at a position of the program
  pub stands : (t : Plain) → Reached program t → Stands program t
  stands t (opens _ f lt entry none sized) = record {
    position = inr (f, subst (Holds program f) (sym entry) (entry_holds f lt));
    returns = subst (Returns program) (sym none) tt;
  }
  stands t (steps s _ r h) = by (stands s r)
    where
      by : Stands program s → Stands program t
      by z = elim z.position as (λ _. Stands program t) [
        | inl lt ↦ absurd (trap_ends s t lt h)
        | inr own ↦ stands_by s t own.0 own.1 z.returns (command_at program s.position) refl h
      ]

  -- and has a step
  module _ (s : Plain) where
    test_steps : (one other : ℕ) (b : Bool) → HasStep (if b then to other s else to one s)
    test_steps one other true = tt
    test_steps one other false = tt

    call_steps : (deep : Outcome) (callee : ℕ) (b : Bool) → HasStep (if b then goes (entered s callee) else ends deep)
    call_steps deep callee true = tt
    call_steps deep callee false = tt

    ret_steps : (chain : List ℕ) → HasStep (ret program chain s)
    ret_steps [] = tt
    ret_steps (back ∷ chain) = tt

    command_steps : (k : Command) → HasStep (perform program (Some k) s)
    command_steps (Test cond one other) = test_steps one.0 other.0 (value_of program cond s % 2 ^ 32 == 0)
    command_steps (Call callee) = call_steps (too_deep s) callee (nat_lt (depth s) most_calls)
    command_steps Ret = ret_steps s.chain
    command_steps _ = tt

  pub has_step : (s : Plain) → Reached program s → HasStep (plain_step program s)
  has_step s r = elim (stands s r).position as (λ _. HasStep (plain_step program s)) [
    | inl lt ↦ let trap = facts.traps s.position lt in subst (λ o. HasStep (perform program o s)) (sym trap.2) tt
    | inr own ↦
        let got = within_get program.commands s.position (holds_within program own.0 s.position facts own.1) in
        subst (λ o. HasStep (perform program o s)) (sym got.1) (command_steps s got.0)
  ]

  -- ---- which step came to a position

  -- only the command before a position comes to it
  module _ (q : ℕ) (k : Command) (there : command_at program q ≡ Some k) (no_call : (f : ℕ) → k ≡ Call f → ⊥) (guarded : IsGuarded program q (suc q)) where
    module _ (s t : Plain) (r : Reached program s) (whole : IsNext (plain_step program s) t) (is : t.position ≡ suc q) (f : ℕ) (holds : Holds program f s.position) (returns : Returns program s.chain) where
      here : s.position ≡ q → Came program q k t
      here p = record { before = s; reached = r; place = p; step = subst (λ o. IsNext (perform program o s) t) (ap (command_at program) p ∙ there) whole }

      went_on : suc s.position ≡ t.position → Came program q k t
      went_on e = here (suc_inj (e ∙ is))

      came_tested : (cond_zero : Bool) (one other : ℕ) → (one ≡ suc q → s.position ≡ q) → (other ≡ suc q → s.position ≡ q) → IsNext (if cond_zero then to other s else to one s) t → Came program q k t
      came_tested true one other g h e = here (h (ap (λ (x : Plain). x.position) e ∙ is))
      came_tested false one other g h e = here (g (ap (λ (x : Plain). x.position) e ∙ is))

      came_back : (chain : List ℕ) → Returns program chain → IsNext (ret program chain s) t → Came program q k t
      came_back [] z h = absurd h
      came_back (back ∷ chain) z h =
          let same : z.0.call ≡ q = suc_inj (sym z.0.is ∙ ap (λ (x : Plain). x.position) h ∙ is) in
          absurd (no_call z.0.callee (same_Some k (Call z.0.callee) (sym there ∙ ap (command_at program) (sym same) ∙ z.0.stands)))

      came_called : (callee : ℕ) (deep : Outcome) (b : Bool) → command_at program s.position ≡ Some (Call callee) → IsNext (if b then goes (entered s callee) else ends deep) t → Came program q k t
      came_called callee deep true e h = absurd (guarded.entries callee (rules.rule6 s.position f (Call callee) holds e) (ap (λ (x : Plain). x.position) h ∙ is))
      came_called callee deep false e h = absurd h

      came_by : (o : Option Command) → command_at program s.position ≡ o → IsNext (perform program o s) t → Came program q k t
      came_by None e h = absurd h
      came_by (Some (Test cond one other)) e h =
          came_tested (value_of program cond s % 2 ^ 32 == 0) one.0 other.0 (λ u. guarded.others s.position (Test cond one other) e (inl u)) (λ u. guarded.others s.position (Test cond one other) e (inr u)) h
      came_by (Some (Jump p)) e h = here (guarded.others s.position (Jump p) e (ap (λ (x : Plain). x.position) h ∙ is))
      came_by (Some (Call callee)) e h = came_called callee (too_deep s) (nat_lt (depth s) most_calls) e h
      came_by (Some Ret) e h = came_back s.chain returns h
      came_by (Some (Trap kind)) e h = absurd h
      came_by (Some _) e h = went_on (ap (λ (x : Plain). x.position) h)

    pub came : (t : Plain) → Reached program t → t.position ≡ suc q → Came program q k t
    came t (opens _ f lt entry none sized) is = absurd (guarded.entries f lt (sym entry ∙ is))
    came t (steps s _ r h) is = elim (stands s r).position as (λ _. Came program q k t) [
      | inl lt ↦ absurd (trap_ends s t lt h)
      | inr own ↦ came_by s t r h is own.0 own.1 (stands s r).returns (command_at program s.position) refl h
    ]

-- what no command goes to but by going on, only the one before comes to
pub passed : (program : Program) (q position : ℕ) → IsPassed program position → IsGuarded program q position
passed program q position p = record { entries = p.entries; others = λ from command e g. absurd (p.others from command e g) }
