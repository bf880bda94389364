-- Each template follows its command.
use Rattle.std.proofs.Common.{◌≡◌, ℕ, ◌+◌, ◌%◌, ◌^◌, ◌<◌, ◌≤◌, Bool, true, false, eqb, cond, List, Some, refl, ap, ◌∙◌, arith}
use Rattle.bl_base.specs.declared.number.Pos.{Pos}
use Rattle.bl_base.specs.declared.number.Var.{Var as Variable}
use Rattle.bl_ops.specs.Access.{is_load}
use Rattle.bl_ops.specs.declared.access.AccessKind.{AccessKind}
use Rattle.bl_ops.specs.declared.op.Op.{Op}
use Rattle.bl_program.specs.Layout.{base, command_at}
use Rattle.bl_program.specs.Steps.{Plain, perform, value_of, to}
use Rattle.bl_program.specs.declared.command.Command.TheVariants.{Set, Load, Store, Test, Jump}
use Rattle.bl_program.specs.declared.command.Mark.{Mark}
use Rattle.bl_program.specs.declared.command.Operand.{Operand}
use Rattle.bl_program.specs.declared.definitions.ProgramParts.{ProgramParts as Program}
use Rattle.bl_x64.specs.Machines.{Core}
use Rattle.bl_x64.specs.declared.instruction.Instruction.{Instruction}
use Rattle.bl_select.specs.Frames.{Frame, Placing, IsPlacing, Assigns, Passes, source_of, IsSource}
use Rattle.bl_select.specs.Simulation.{IsStage, IsWithin, Follows, Branches}
use Rattle.bl_select.specs.StraightRuns.{Stands}
use Rattle.bl_select.specs.Templates.{set_template, load_template, store_template, test_template, jump_template}
use Rattle.bl_select.proofs.Accesses.{load_runs, store_runs}
use Rattle.bl_select.proofs.Branches.{matches_kept, test_steps}
use Rattle.bl_select.proofs.Keeping.{keeps_all}
use Rattle.bl_select.proofs.Matching.{set_runs}
use Rattle.bl_select.proofs.Steps.{one_jump, standing, steps_of}

module _ (program : Program) (f : Frame) (p : Placing) (s : Plain) (c : Core) (code : List Instruction) (position : ℕ) where
  pub set_follows : (q : Placing) (mark : Mark) (op : Op) (x : Variable) (a b e : Operand) → IsStage program f p s c → IsPlacing f q → Assigns p q x.0
      → IsSource p a → IsSource p b → IsSource p e → command_at program s.position ≡ Some (Set mark op x a b e)
      → Stands code position (set_template mark.protect op (q.location x.0) (source_of p a) (source_of p b) (source_of p e))
      → Follows program f q s code position (set_template mark.protect op (q.location x.0) (source_of p a) (source_of p b) (source_of p e)) c
  set_follows q mark op x a b e stage behind assigns a_ok b_ok e_ok is stands =
      let template = set_template mark.protect op (q.location x.0) (source_of p a) (source_of p b) (source_of p e) in
      let runs = set_runs program f p s c stage.frame stage.placing stage.matches q mark.protect op x.0 a b e behind assigns a_ok b_ok e_ok in
      record {
        next = _;
        core = runs.0;
        plain = ap (λ o. perform program o s) is;
        steps = steps_of f.areas code template position c runs.0 stands runs.1;
        matches = runs.2;
        frames = runs.3;
      }

  pub load_follows : (q : Placing) (mark : Mark) (kind : AccessKind) (memory : ℕ) (x : Variable) (offset : ℕ) (a : Operand) → IsStage program f p s c → IsPlacing f q
      → Assigns p q x.0 → is_load kind ≡ true → IsSource p a → IsWithin program s kind memory offset a
      → command_at program s.position ≡ Some (Load mark kind memory x offset a)
      → Stands code position (load_template mark.protect kind (q.location x.0) (base program memory + offset) (source_of p a))
      → Follows program f q s code position (load_template mark.protect kind (q.location x.0) (base program memory + offset) (source_of p a)) c
  load_follows q mark kind memory x offset a stage behind assigns loads a_ok within is stands =
      let template = load_template mark.protect kind (q.location x.0) (base program memory + offset) (source_of p a) in
      let runs = load_runs program f p s c stage.frame stage.placing stage.matches memory offset a a_ok q mark.protect kind x.0 loads behind assigns within.ends within.small in
      record {
        next = _;
        core = runs.0;
        plain = ap (λ o. perform program o s) is;
        steps = steps_of f.areas code template position c runs.0 stands runs.1;
        matches = runs.2;
        frames = runs.3;
      }

  pub store_follows : (q : Placing) (kind : AccessKind) (memory offset : ℕ) (a b : Operand) → IsStage program f p s c → Passes p q → is_load kind ≡ false
      → IsSource p a → IsSource p b → IsWithin program s kind memory offset a → command_at program s.position ≡ Some (Store kind memory offset a b)
      → Stands code position (store_template kind (base program memory + offset) (source_of p a) (source_of p b))
      → Follows program f q s code position (store_template kind (base program memory + offset) (source_of p a) (source_of p b)) c
  store_follows q kind memory offset a b stage passes stores a_ok b_ok within is stands =
      let template = store_template kind (base program memory + offset) (source_of p a) (source_of p b) in
      let runs = store_runs program f p s c stage.frame stage.placing stage.matches memory offset a a_ok q kind b stores b_ok passes within.ends within.small in
      record {
        next = _;
        core = runs.0;
        plain = ap (λ o. perform program o s) is;
        steps = steps_of f.areas code template position c runs.0 stands runs.1;
        matches = runs.2;
        frames = runs.3;
      }

  pub test_follows : (placing : ℕ → Placing) (begins : ℕ → ℕ) (a : Operand) (one other : Pos) → IsStage program f p s c → IsSource p a
      → Passes p (placing one.0) → Passes p (placing other.0) → command_at program s.position ≡ Some (Test a one other)
      → Stands code position (test_template (source_of p a) (begins one.0) (begins other.0)) → Branches program f placing begins s code position c
  test_follows placing begins a one other stage a_ok to_one to_other is stands = by_test (eqb (value_of program a s % 2 ^ 32) 0) refl
    where
      by_test : (t : Bool) → eqb (value_of program a s % 2 ^ 32) 0 ≡ t → Branches program f placing begins s code position c
      by_test true e =
          let runs = test_steps program f p s c stage.frame stage.placing stage.matches code position a a_ok (begins one.0) (begins other.0) stands true e in
          record {
            next = record s { position = other.0 };
            core = runs.1;
            count = runs.0;
            some = runs.2;
            few = runs.3;
            plain = ap (λ o. perform program o s) is ∙ ap (λ t. cond t (to other.0 s) (to one.0 s)) e;
            steps = runs.4;
            matches = matches_kept program f p (placing other.0) s c runs.1 other.0 stage.placing stage.matches to_other runs.5;
            frames = λ address above below. ap (λ b. b address) runs.5.memory;
          }
      by_test false e =
          let runs = test_steps program f p s c stage.frame stage.placing stage.matches code position a a_ok (begins one.0) (begins other.0) stands false e in
          record {
            next = record s { position = one.0 };
            core = runs.1;
            count = runs.0;
            some = runs.2;
            few = runs.3;
            plain = ap (λ o. perform program o s) is ∙ ap (λ t. cond t (to other.0 s) (to one.0 s)) e;
            steps = runs.4;
            matches = matches_kept program f p (placing one.0) s c runs.1 one.0 stage.placing stage.matches to_one runs.5;
            frames = λ address above below. ap (λ b. b address) runs.5.memory;
          }

  pub jump_follows : (placing : ℕ → Placing) (begins : ℕ → ℕ) (target : Pos) → IsStage program f p s c → Passes p (placing target.0)
      → command_at program s.position ≡ Some (Jump target) → Stands code position (jump_template (begins target.0)) → Branches program f placing begins s code position c
  jump_follows placing begins target stage passes is stands = record {
    next = record s { position = target.0 };
    core = c;
    count = 1;
    some = omega arith;
    few = omega arith;
    plain = ap (λ o. perform program o s) is;
    steps = (standing (begins target.0) c, one_jump f.areas code position (begins target.0) _ c c stands.0 refl, refl);
    matches = matches_kept program f p (placing target.0) s c c target.0 stage.placing stage.matches passes (keeps_all c);
    frames = λ address above below. refl;
  }
